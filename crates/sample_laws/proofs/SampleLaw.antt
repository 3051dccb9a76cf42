-- The summary of the generated session is a function of the number of requests.
use Rattle.std.proofs.Common.{◌≡◌, ℕ, zero, suc, ◌*◌, ◌<◌, List, [], length, map, refl, sym, ap, ◌∙◌, subst, arith, All}
use Rattle.std.specs.List.{sum_by}
use Rattle.std.proofs.lemmas.List.{length_push}
use Rattle.bucket_terms.specs.LegalRun.{RequestLine, IsLegal, lines_of}
use Rattle.bucket_terms.specs.RunParts.{default_slots}
use Rattle.sample_laws.specs.Alone.{map_alone, updates_alone, replies_alone}
use Rattle.sample_laws.specs.Own.{IsNamed}
use Rattle.sample_laws.specs.Finds.{HaveSlots}
use Rattle.sample_laws.specs.Totals.{listed_in}
use Rattle.request_lines.specs.declared.session.ClientPart.{ClientPart}
use Rattle.request_lines.specs.Session.{request_lines}
use Rattle.request_lines.specs.SampleSession.{sample_prefix, sample_session}
use Rattle.sample_laws.specs.SampleLaw.{sample_parts, SampleLaw, SampleAloneLaw, SampleInputLaw}
use Rattle.sample_laws.specs.Sample.{sample_done, sample_summary}
use Rattle.sample_laws.proofs.OwnNames.{own_names}
use Rattle.sample_laws.proofs.Summaries.{summaries, summary_is}
use Rattle.sample_laws.proofs.SampleNames.{sample_apart, part_is, sample_line, first_lines}
use Rattle.sample_laws.proofs.SampleDone.{Matches, matches}

-- the node slots that a client has if none are given
abbrev slots_of : List (List RequestLine) → ℕ → ℕ
slots_of parts client = default_slots (lines_of parts client)

have_slots : (parts : List (List RequestLine)) → HaveSlots parts (slots_of parts)
have_slots parts c below = omega arith

length-first_lines : (c n i : ℕ) → length (first_lines c n i) ≡ i
length-first_lines c n zero = refl
length-first_lines c n (suc i) =
    let rest = length-first_lines c n i in
    omega (arith, length_push (first_lines c n i) (sample_line c n i))

-- a sum over the four clients, each of which has the same
sum_of_four : (f : List RequestLine → ℕ) (n x : ℕ) → ((c : ℕ) → c < 4 → f (first_lines c n n) ≡ x) → sum_by f (sample_parts n) ≡ 4 * x
sum_of_four f n x each =
    let of = λ (c : ℕ) (below : c < 4). ap f (part_is n c below) ∙ each c below in
    let first = of 0 (omega arith) in
    let second = of 1 (omega arith) in
    let third = of 2 (omega arith) in
    let fourth = of 3 (omega arith) in
    omega arith

pub sample_alone : SampleAloneLaw
unfolding sample_summary
sample_alone dir n named =
    summary_is _ _ _ _ _ _ _ _
    (sum_of_four (λ (lines : List RequestLine). length (map_alone dir [] lines)) n (length (sample_done n).pairs) (λ c below. (done c below).size))
    (sum_of_four (λ (lines : List RequestLine). sum_by listed_in (replies_alone dir [] lines)) n (sample_done n).listed (λ c below. (done c below).same_listed))
    (sum_of_four (length {A = RequestLine}) n n (λ c below. length-first_lines c n n))
    (sum_of_four (λ (lines : List RequestLine). updates_alone dir [] lines) n (sample_done n).updates (λ c below. (done c below).same_updates))
  where
    done : (c : ℕ) → c < 4 → Matches dir c (map_alone dir [] (first_lines c n n)) (sum_by listed_in (replies_alone dir [] (first_lines c n n)))
        (updates_alone dir [] (first_lines c n n)) (sample_done n)
    done c below =
        matches dir c n n (omega arith) (omega arith)
        (subst (All (λ (l : RequestLine). IsNamed dir l.request)) (part_is n c below) (named c below))

pub sample_law : SampleLaw
sample_law dir n run rising legal =
    let parts = sample_parts n in
    let apart = sample_apart dir n rising in
    summaries dir parts (slots_of parts) sample_prefix run apart (have_slots parts) legal
    ∙ sample_alone dir n (λ c below. (own_names dir parts (slots_of parts) sample_prefix run apart (have_slots parts) legal c below).named)

pub sample_input_law : SampleInputLaw
sample_input_law input n session dir run generated read names legal =
    let clients : session.clients ≡ (sample_session n).clients = read.clients ∙ sym generated.clients in
    sample_law dir n run names.rising
    (subst (λ (parts : List ClientPart). IsLegal dir (map request_lines parts) (slots_of (map request_lines parts)) run) clients legal)
