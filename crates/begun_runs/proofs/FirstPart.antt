-- What a pass knows after the first requests of the only client is the beginning of a legal run.
use Rattle.std.proofs.Common.{◌≡◌, ℕ, zero, suc, ◌+◌, ◌<◌, All, Any, List, [], ◌∷◌, ◌++◌, Some, inl, inr, length, take, drop, refl, sym, ap, ◌∙◌, subst, arith}
use Rattle.std.specs.List.{slice_get}
use Rattle.std.proofs.lemmas.Bool.{cases_lt}
use Rattle.std.proofs.lemmas.List.{take-append-drop}
use Rattle.std.proofs.lemmas.Option.{get_or_from_slice_get, slice_get_within}
use Rattle.key_map.specs.declared.update.Update.{Update}
use Rattle.key_map.specs.History.{own_places}
use Rattle.key_map.proofs.PlacesLaws.{none_own}
use Rattle.bucket_terms.specs.PassView.{PassView}
use Rattle.bucket_terms.specs.declared.reply.Placed.{Placed}
use Rattle.bucket_terms.specs.LegalRun.{RequestLine, Run, IsLegal, AreAnswered, IsMadeBy, answered_lines, lines_of, replies_of}
use Rattle.request_lines.specs.SessionLaws.{IsAskable, Rise}
use Rattle.client_run.proofs.Places.{slice_get-append_front}
use Rattle.begun_runs.specs.Begun.{AreFirst, CanBeAnswered}
use Rattle.begun_runs.specs.FirstPart.{RanFirst, FirstPartLaw}
use Rattle.begun_runs.proofs.Growing.{within}
use Rattle.begun_runs.proofs.Ending.{begun_run_law}

-- what is true of the only client is true of each
only_client : (P : ℕ → Type 0) → P 0 → (c : ℕ) → c < 1 → P c
only_client P first zero below = first
only_client P first (suc c) below = absurd (omega arith)

module _ (dir : List (List ℕ)) (lines : List RequestLine) (slots : ℕ → ℕ) (old new : PassView) (replies : List Placed) (one : RanFirst dir lines (slots 0) old new replies) where
  abbrev begun : Run
  begun = record { updates = new.seen; replies = replies ∷ [] }

  number_is : new.number ≡ 0
  number_is = one.ran.continues.number ∙ one.number

  answered_first : AreAnswered (within dir new.seen slots 0) [] lines replies
  answered_first =
      let count : length old.mine + slots 0 ≡ slots 0 = omega (arith, ap length one.fresh) in
      subst (λ (n : ℕ). AreAnswered (record { dir = dir; updates = new.seen; client = n; slots = slots 0 }) [] lines replies) number_is
      (subst (λ (k : ℕ). AreAnswered (record { dir = dir; updates = new.seen; client = new.number; slots = k }) [] lines replies) count
      (one.ran.answered (slots 0) one.nodes one.entries))

  client_is : (i : ℕ) (u : Update) → slice_get new.seen i ≡ Some u → u.client ≡ 0
  client_is i u here =
      subst (λ (v : Update). v.client ≡ 0) (get_or_from_slice_get new.seen i u u here) (one.alone i u (slice_get_within new.seen i u here))

  -- the pass had seen no update before
  none_before : (i : ℕ) (u : Update) → i < length old.seen → slice_get new.seen i ≡ Some u → ⊥
  none_before i u before here =
      let none : length (own_places 0 old.seen) ≡ 0 = ap length (sym (ap (λ (n : ℕ). own_places n old.seen) one.number) ∙ sym one.ran.knew ∙ one.fresh) in
      let there : slice_get old.seen i ≡ Some u =
      sym (slice_get-append_front old.seen one.ran.continues.seen.0 i before) ∙ sym (ap (λ (us : List Update). slice_get us i) one.ran.continues.seen.1) ∙ here in
      none_own 0 1 old.seen none i u there (client_is i u here)

  made_first : (i : ℕ) (u : Update) → slice_get new.seen i ≡ Some u → Any (IsMadeBy dir u (i + 1)) (answered_lines lines replies)
  made_first i u here =
      elim (cases_lt i (length old.seen)) [
        | inl before ↦ absurd (none_before i u before here)
        | inr later ↦ one.ran.made i u later here (client_is i u here ∙ sym one.number)
      ]

  legal_first : IsLegal dir (lines ∷ []) slots begun
  legal_first = record {
    clients = refl;
    answered = only_client (λ (c : ℕ). AreAnswered (within dir new.seen slots c) [] (lines_of (lines ∷ []) c) (replies_of begun c)) answered_first;
    made = λ i u here.
        let client = client_is i u here in (
          omega arith,
          subst (λ (c : ℕ). Any (IsMadeBy dir u (i + 1)) (answered_lines (lines_of (lines ∷ []) c) (replies_of begun c))) (sym client) (made_first i u here),
        );
  }

are_first : (lines : List RequestLine) (count : ℕ) → AreFirst (take count lines ∷ []) (lines ∷ [])
are_first lines count = record {
  clients = refl;
  each = λ c below. only_client (λ (d : ℕ). (more : List RequestLine) × (lines_of (lines ∷ []) d ≡ lines_of (take count lines ∷ []) d ++ more))
      (drop count lines, sym (take-append-drop count lines)) c below;
}

can_be_answered : (dir : List (List ℕ)) (lines : List RequestLine) → Rise lines → All (IsAskable dir) lines → CanBeAnswered dir (lines ∷ [])
can_be_answered dir lines rising askable = record {
  rising = only_client (λ (c : ℕ). Rise (lines_of (lines ∷ []) c)) rising;
  askable = only_client (λ (c : ℕ). All (IsAskable dir) (lines_of (lines ∷ []) c)) askable;
}

pub first_part_law : FirstPartLaw
first_part_law dir lines count slots old new replies rising askable one =
    begun_run_law dir (take count lines ∷ []) (lines ∷ []) slots (begun dir (take count lines) slots old new replies one)
    (are_first lines count) (can_be_answered dir lines rising askable) (legal_first dir (take count lines) slots old new replies one)
