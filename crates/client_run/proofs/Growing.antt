-- A client's run with one more answer.
use Rattle.std.proofs.Common.{◌≡◌, ℕ, suc, ◌+◌, ◌*◌, ◌<◌, ◌≤◌, ◌==◌, ◌&&◌, cond, nat_lt, if◌then◌else◌, All, Any, MatchOption, Option, Some, List, [], ◌∷◌, ◌++◌, None, inl, inr, length, get_or, refl, sym, ap, ◌∙◌, subst, arith, append-nil, append_assoc}
use Rattle.std.specs.Bool.{⊤}
use Rattle.std.specs.List.{count_by}
use Rattle.std.proofs.lemmas.Bool.{cases_lt}
use Rattle.std.proofs.lemmas.Bool.Decides.{nat_tests}
use Rattle.std.proofs.lemmas.List.{length-append, length_push, get_or_append_left, get_or_push}
use Rattle.std.proofs.lemmas.List.Elements.{All-cons}
use Rattle.std.proofs.lemmas.List.Sums.{sum_by-cons}
use Rattle.std.proofs.lemmas.Option.{slice_get-get_or, slice_get_within}
use Rattle.key_map.specs.declared.update.Update.{Update}
use Rattle.key_map.specs.History.{places_from}
use Rattle.bucket_terms.specs.declared.reply.Placed.{Placed}
use Rattle.bucket_terms.specs.PassView.{PassView, KnowsOwn}
use Rattle.bucket_terms.specs.LegalRun.{Setting, RequestLine, Answered, IsAnswered, AreAnswered, KeepsOrder, answered_lines, is_update}
use Rattle.bucket_terms.specs.RunParts.{IsPlacedUpTo, is_earlier_of}
use Rattle.client_run.specs.ClientRun.{IsLaterLine, RanClient}

-- ---- counts of own updates

count_step : (by client number line limit rest at : ℕ) (places : List ℕ) → client ≡ number → (by ≡ number → line < limit) → rest ≡ length places
    → cond ((by == client) && nat_lt line limit) 1 0 + rest ≡ length (if by == number then at ∷ places else places)
count_step by client number line limit rest at places e later same = grind (arith, nat_tests)

-- if each own update is of an earlier line, the earlier ones are the own ones
pub count_earlier : (number line at : ℕ) (s : Setting) (us : List Update) → s.client ≡ number → All (λ (u : Update). u.client ≡ number → u.line < line) us
    → count_by (is_earlier_of s line) us ≡ length (places_from number at us)
count_earlier number line at s [] e later = refl
count_earlier number line at s (u ∷ us) e later =
    let rest = count_earlier number line (at + 1) s us e (λ k d below. later (suc k) d (omega arith)) in
    sum_by-cons (λ (v : Update). cond (is_earlier_of s line v) 1 0) u us
    ∙ count_step u.client s.client number u.line line (count_by (is_earlier_of s line) us) at (places_from number (at + 1) us) e (later 0 u (omega arith)) rest

-- ---- one more element

pub answered_lines-push : (lines : List RequestLine) (replies : List Placed) (l : RequestLine) (p : Placed) → length lines ≡ length replies
    → answered_lines (lines ++ l ∷ []) (replies ++ p ∷ []) ≡ answered_lines lines replies ++ record { asked = l; placed = p } ∷ []
answered_lines-push [] [] l p e = refl
answered_lines-push [] (q ∷ replies) l p e = absurd (omega arith)
answered_lines-push (m ∷ lines) [] l p e = absurd (omega arith)
answered_lines-push (m ∷ lines) (q ∷ replies) l p e = ap (λ done. record { asked = m; placed = q } ∷ done) (answered_lines-push lines replies l p (omega arith))

pub AreAnswered-push : (s : Setting) (earlier : List Answered) (lines : List RequestLine) (replies : List Placed) (l : RequestLine) (p : Placed)
    → AreAnswered s earlier lines replies → IsAnswered s (earlier ++ answered_lines lines replies) l p
    → AreAnswered s earlier (lines ++ l ∷ []) (replies ++ p ∷ [])
AreAnswered-push s earlier [] [] l p answers one = (subst (λ done. IsAnswered s done l p) (append-nil earlier) one, tt)
AreAnswered-push s earlier [] (q ∷ replies) l p answers one = absurd answers
AreAnswered-push s earlier (m ∷ lines) [] l p answers one = absurd answers
AreAnswered-push s earlier (m ∷ lines) (q ∷ replies) l p answers one =
    (answers.0, AreAnswered-push s (earlier ++ record { asked = m; placed = q } ∷ []) lines replies l p answers.1 (subst (λ done. IsAnswered s done l p) (sym (append_assoc earlier (record { asked = m; placed = q } ∷ []) (answered_lines lines replies))) one))

pub Any-front : {X : Type 0} (P : X → Type 0) (xs ys : List X) → Any P xs → Any P (xs ++ ys)
Any-front P xs ys any = (any.0, any.1, omega (arith, any.2, length-append xs ys), get_or_append_left xs ys any.1 any.0 any.2 ∙ any.3, any.4)

pub Any-last : {X : Type 0} (P : X → Type 0) (xs : List X) (x : X) → P x → Any P (xs ++ x ∷ [])
Any-last P xs x here = (length xs, x, omega (arith, length_push xs x), get_or_push xs x x (length xs) refl, here)

-- what is true of each line is true of each answered line
pub All-answered : (P : RequestLine → Type 0) (lines : List RequestLine) (replies : List Placed) → All P lines → All (λ (a : Answered). P a.asked) (answered_lines lines replies)
All-answered P [] replies all = λ k d below. absurd (omega arith)
All-answered P (l ∷ lines) [] all = λ k d below. absurd (omega arith)
All-answered P (l ∷ lines) (p ∷ replies) all =
    All-cons (λ (a : Answered). P a.asked) (record { asked = l; placed = p }) (answered_lines lines replies) (all 0 l (omega arith))
    (All-answered P lines replies (λ j e within. all (suc j) e (omega arith)))

-- as many replies as lines, each at a place of the history, if it has one
pub answered_length : (s : Setting) (earlier : List Answered) (lines : List RequestLine) (replies : List Placed) → AreAnswered s earlier lines replies → length lines ≡ length replies
answered_length s earlier [] [] answers = refl
answered_length s earlier [] (p ∷ replies) answers = absurd answers
answered_length s earlier (l ∷ lines) [] answers = absurd answers
answered_length s earlier (l ∷ lines) (p ∷ replies) answers = ap suc (answered_length s (earlier ++ record { asked = l; placed = p } ∷ []) lines replies answers.1)

place_upto : (s : Setting) (earlier : List Answered) (line : ℕ) (at : Option ℕ) → MatchOption at ⊤ (KeepsOrder s earlier line) → MatchOption at ⊤ (λ place. place ≤ length s.updates)
place_upto s earlier line None order = tt
place_upto s earlier line (Some place) order = order.within

pub answered_upto : (s : Setting) (earlier : List Answered) (lines : List RequestLine) (replies : List Placed) → AreAnswered s earlier lines replies
    → All (IsPlacedUpTo (length s.updates)) (answered_lines lines replies)
answered_upto s earlier [] [] answers = λ k d below. absurd (omega arith)
answered_upto s earlier [] (p ∷ replies) answers = absurd answers
answered_upto s earlier (l ∷ lines) [] answers = absurd answers
answered_upto s earlier (l ∷ lines) (p ∷ replies) answers =
    let a : Answered = record { asked = l; placed = p } in
    All-cons (IsPlacedUpTo (length s.updates)) a (answered_lines lines replies) (place_upto s earlier l.line p.at answers.0.order)
    (answered_upto s (earlier ++ a ∷ []) lines replies answers.1)

-- ---- the run so far

-- a run of these lines, over a pass that knew `old` before and knows `now`, with what the next answer needs
pub record Running (dir : List (List ℕ)) (lines : List RequestLine) (old now : PassView) (replies : List Placed) : Type 0 where
  pub ran : RanClient dir lines old now replies
  pub knows : KnowsOwn now
  pub same_length : length lines ≡ length replies
  pub nodes : old.nodes + length old.mine ≤ now.nodes + length now.mine
  pub entries : old.entries + 4 * length old.mine ≤ now.entries + 4 * length now.mine
  pub left : now.left + length now.mine ≡ old.left + length old.mine
  pub updates : length now.mine ≤ length old.mine + count_by (λ (l : RequestLine). is_update l.request) lines
  pub upto : All (IsPlacedUpTo (length now.seen)) (answered_lines lines replies)

pub start : (dir : List (List ℕ)) (old : PassView) → KnowsOwn old → old.opened ≡ None → Running dir [] old old []
start dir old knows closed = record {
  ran = record {
    knew = knows;
    continues = record { number = refl; seen = ([], sym (append-nil old.seen)); mine = knows; looks = omega arith };
    closed = closed;
    answered = λ n few enough. tt;
    made = λ i u from here own. let within = slice_get_within old.seen i u here in absurd (omega arith);
    places = λ k d below. absurd (omega arith);
    looks = omega arith;
    in_turn = refl;
    in_range = λ k d below. absurd (omega arith);
    ended = λ front a e. let none = ap length e in absurd (omega (arith, length_push front a));
  };
  knows = knows;
  same_length = refl;
  nodes = omega arith;
  entries = omega arith;
  left = refl;
  updates = omega arith;
  upto = λ k d below. absurd (omega arith);
}

-- a line after those of a run is later than the own updates up to then
pub later_ran : (dir : List (List ℕ)) (lines : List RequestLine) (old now : PassView) (replies : List Placed) (line : ℕ)
    → RanClient dir lines old now replies → IsLaterLine old line → All (λ (l : RequestLine). l.line < line) lines → IsLaterLine now line
later_ran dir lines old now replies line ran later rising = λ k d below own.
    let u = get_or now.seen k d in
    let mine : u.client ≡ old.number = own ∙ ran.continues.number in
    elim (cases_lt k (length old.seen)) [
      | inl front ↦
          let same : get_or now.seen k d ≡ get_or old.seen k d = ap (λ (us : List Update). get_or us k d) ran.continues.seen.1 ∙ get_or_append_left old.seen ran.continues.seen.0 d k front in
          let h : (get_or old.seen k d).line < line = later k d front (sym (ap (λ (w : Update). w.client) same) ∙ mine) in
          let e : (get_or now.seen k d).line ≡ (get_or old.seen k d).line = ap (λ (w : Update). w.line) same in
          omega arith
      | inr back ↦
          let by_line = ran.made k u back (slice_get-get_or now.seen k d below) mine in
          let h : by_line.1.asked.line < line = subst (λ (a : Answered). a.asked.line < line) by_line.3 (All-answered (λ (l : RequestLine). l.line < line) lines replies rising by_line.0 by_line.1 by_line.2) in
          let e : by_line.1.asked.line ≡ u.line = by_line.4.line in
          omega arith
    ]
