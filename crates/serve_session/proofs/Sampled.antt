-- The run of the generated session.
use Rattle.std.proofs.Common.{◌≡◌, ℕ, zero, suc, ◌*◌, ◌%◌, ◌<◌, ◌≤◌, ◌^◌, List, [], length, ap, subst, ◌∙◌, inl, inr, arith}
use Rattle.std.specs.Prelude.{◌==◌}
use Rattle.std.specs.List.{sum_by}
use Rattle.std.proofs.lemmas.Bool.{cases_Bool}
use Rattle.key_names.specs.Names.{HoldsEachOnce}
use Rattle.bucket_terms.specs.declared.summary.Summary.{Summary}
use Rattle.bucket_terms.specs.LegalRun.{Run, IsLegal, slots_of}
use Rattle.request_lines.specs.declared.session.Session.{Session}
use Rattle.request_lines.specs.Input.{IsSessionOf}
use Rattle.request_lines.specs.Sample.{sample_text}
use Rattle.request_lines.specs.SampleSession.{sample_session}
use Rattle.serve_session.specs.Sampled.{HoldsOfSampleRun}
use Rattle.serve_session.specs.Served.{HoldsOfSample}
use Rattle.sample_laws.specs.SampleLaw.{sample_parts, SampleLaw}
use Rattle.sample_laws.specs.Sample.{sample_done, sample_summary}
use Rattle.sample_laws.specs.Totals.{listed_by, summary_of}
use Rattle.client_threads.specs.Clients.{RanEach}
use Rattle.client_threads.specs.Runs.{parts_of}
use Rattle.client_threads.proofs.Clients.{each_legal}

-- what holds of a run of the defined session holds of one of the generated input's
pub sampled : (n : ℕ) (P : Run → Type 0) → IsSessionOf (sample_text n) (sample_session n) → HoldsOfSampleRun n P → HoldsOfSample n P
sampled n P of_text ran =
    record {
      session = sample_session n;
      of_input = of_text;
      text = record { dir = ran.dir; names = ran.names; holds = record { run = ran.run; legal = ran.legal; holds = ran.holds } };
    }

-- a run of the clients of the generated session is a legal run of it
pub record RanSample (n : ℕ) (dir : List (List ℕ)) (run : Run) : Type 0 where
  pub names : HoldsEachOnce (sample_session n).names dir
  pub legal : IsLegal dir (sample_parts n) (slots_of (sample_parts n)) run

pub ran_sample : (n : ℕ) (session taken : Session) (dir : List (List ℕ)) (run : Run) → taken ≡ record session { names = [] } → session ≡ sample_session n
    → HoldsEachOnce session.names dir → RanEach dir (parts_of taken.clients) (slots_of (parts_of taken.clients)) run → RanSample n dir run
ran_sample n session taken dir run without is names ran = record {
  names = subst (λ (s : Session). HoldsEachOnce s.names dir) is names;
  legal = subst (λ (s : Session). IsLegal dir (parts_of s.clients) (slots_of (parts_of s.clients)) run) (without ∙ ap (λ (s : Session). record s { names = [] }) is)
      (each_legal dir (parts_of taken.clients) (slots_of (parts_of taken.clients)) run ran);
}

pub four_clients : (n : ℕ) (session : Session) → session ≡ sample_session n → 0 < length session.clients
four_clients n session is =
    let all : length session.clients ≡ 4 = ap (λ (s : Session). length s.clients) is in
    omega (arith, all)

-- ---- the numbers of the summary fit

listed_most : (i : ℕ) → (sample_done i).listed ≤ 100 * i
unfolding sample_done
listed_most zero = omega arith
listed_most (suc i) = elim (cases_Bool (i % 4 == 2)) [
  | inl two ↦ rw two (omega (arith, listed_most i))
  | inr other ↦ elim (cases_Bool (i % 4 == 3)) [
    | inl three ↦ rw (other, three) (omega (arith, listed_most i))
    | inr neither ↦ rw (other, neither) (omega (arith, listed_most i))
  ]
]

module _ (law : SampleLaw) (n : ℕ) (most : n ≤ 40000) (dir : List (List ℕ)) (names : HoldsEachOnce (sample_session n).names dir) (run : Run)
    (legal : IsLegal dir (sample_parts n) (slots_of (sample_parts n)) run) where
  pub run_summary : summary_of run ≡ sample_summary n
  run_summary = law dir n run names.rising legal

  pub listed_fits : sum_by listed_by run.replies < 2 ^ 64
  unfolding sample_summary
  listed_fits =
      let is : sum_by listed_by run.replies ≡ 4 * (sample_done n).listed = ap (λ (s : Summary). s.listed) run_summary in
      omega (arith, is, listed_most n)

  pub requests_fit : sum_by length run.replies < 2 ^ 64
  unfolding sample_summary
  requests_fit =
      let is : sum_by length run.replies ≡ 4 * n = ap (λ (s : Summary). s.requests) run_summary in
      omega (arith, is)
