-- The run of several clients over passes of one history is legal.
use Rattle.std.proofs.Common.{◌≡◌, ℕ, ◌+◌, ◌-◌, ◌≤◌, All, Any, length, get_or, List, [], ◌++◌, Some, inl, inr, refl, sym, ap, ◌∙◌, subst, arith}
use Rattle.std.specs.List.{slice_get}
use Rattle.std.proofs.lemmas.Bool.{cases_lt}
use Rattle.std.proofs.lemmas.Option.{slice_get-get_or}
use Rattle.key_map.specs.declared.update.Update.{Update}
use Rattle.key_map.specs.History.{own_places}
use Rattle.key_map.proofs.PlacesLaws.{none_own}
use Rattle.bucket_terms.specs.declared.reply.Placed.{Placed}
use Rattle.bucket_terms.specs.LegalRun.{RequestLine, Run, IsLegal, AreAnswered, IsMadeBy, answered_lines, lines_of, replies_of}
use Rattle.client_run.specs.ClientRun.{setting}
use Rattle.client_run.proofs.Places.{slice_get-append_front, slice_get-append_back, no_own_added}
use Rattle.client_run.proofs.Longer.{OtherLines, AreAnswered-longer}
use Rattle.client_threads.specs.Clients.{RanWithin, RanEach}

module _ (dir : List (List ℕ)) (history : List Update) (number slots : ℕ) (lines : List RequestLine) (replies : List Placed)
    (one : RanWithin dir history number slots lines replies) where
  abbrev more : List Update
  more = one.seen.0

  new_number : one.new.number ≡ number
  new_number = one.ran.continues.number ∙ one.number

  -- the pass's own places are those in what it knows, and those in the history
  own_seen : own_places number (one.new.seen ++ more) ≡ own_places number one.new.seen
  own_seen =
      ap (λ (us : List Update). own_places number us) (sym one.seen.1) ∙ sym one.own ∙ one.ran.continues.mine
      ∙ ap (λ (n : ℕ). own_places n one.new.seen) new_number

  -- no update that the pass does not know is its own
  none_behind : (i : ℕ) (u : Update) → length one.new.seen ≤ i → slice_get history i ≡ Some u → u.client ≡ number → ⊥
  none_behind i u from here own =
      no_own_added number one.new.seen more own_seen i u from (sym (ap (λ (us : List Update). slice_get us i) one.seen.1) ∙ here) own

  -- nor is one that it knew before
  none_before : (i : ℕ) (u : Update) → slice_get one.old.seen i ≡ Some u → u.client ≡ number → ⊥
  none_before i u here own =
      let none : length (own_places number one.old.seen) ≡ 0 =
      ap length (sym (ap (λ (n : ℕ). own_places n one.old.seen) one.number) ∙ sym one.ran.knew ∙ one.fresh) in
      none_own number 1 one.old.seen none i u here own

  -- each update of this number is that of one of the lines
  pub made_within : (i : ℕ) (u : Update) → slice_get history i ≡ Some u → u.client ≡ number → Any (IsMadeBy dir u (i + 1)) (answered_lines lines replies)
  made_within i u here own =
      elim (cases_lt i (length one.new.seen)) [
        | inl known ↦
            let there : slice_get one.new.seen i ≡ Some u =
            sym (slice_get-append_front one.new.seen more i known) ∙ sym (ap (λ (us : List Update). slice_get us i) one.seen.1) ∙ here in
            elim (cases_lt i (length one.old.seen)) [
              | inl before ↦ absurd
                  (none_before i u
                  (sym (slice_get-append_front one.old.seen one.ran.continues.seen.0 i before) ∙ sym (ap (λ (us : List Update). slice_get us i) one.ran.continues.seen.1) ∙ there)
                  own)
              | inr later ↦ one.ran.made i u later there (own ∙ sym one.number)
            ]
        | inr unknown ↦ absurd (none_behind i u unknown here own)
      ]

  others : All (λ (l : RequestLine). OtherLines (setting dir one.new (length one.old.mine + slots)) l.line more) lines
  others = λ k d below j e within is.
      let u = get_or more j e in
      let at_end : length one.new.seen + j - length one.new.seen ≡ j = omega arith in
      let here : slice_get history (length one.new.seen + j) ≡ Some u =
      ap (λ (us : List Update). slice_get us (length one.new.seen + j)) one.seen.1
      ∙ slice_get-append_back one.new.seen more (length one.new.seen + j) (omega arith)
      ∙ ap (λ (n : ℕ). slice_get more n) at_end
      ∙ slice_get-get_or more j e within in
      none_behind (length one.new.seen + j) u (omega arith) here (is.by ∙ new_number)

  pub answered_within : AreAnswered (record { dir = dir; updates = history; client = number; slots = slots }) [] lines replies
  answered_within =
      let count : length one.old.mine + slots ≡ slots = omega (arith, ap length one.fresh) in
      subst (λ (us : List Update). AreAnswered (record { dir = dir; updates = us; client = number; slots = slots }) [] lines replies) (sym one.seen.1)
      (subst (λ (n : ℕ). AreAnswered (record { dir = dir; updates = one.new.seen ++ more; client = n; slots = slots }) [] lines replies) new_number
      (subst (λ (k : ℕ). AreAnswered (record { dir = dir; updates = one.new.seen ++ more; client = one.new.number; slots = k }) [] lines replies) count
      (AreAnswered-longer (setting dir one.new (length one.old.mine + slots)) more [] lines replies others (one.ran.answered slots one.nodes one.entries))))

-- such a run is legal
pub each_legal : (dir : List (List ℕ)) (parts : List (List RequestLine)) (slots : ℕ → ℕ) (run : Run) → RanEach dir parts slots run → IsLegal dir parts slots run
each_legal dir parts slots run ran = record {
  clients = ran.clients;
  answered = λ c lt. answered_within dir run.updates c (slots c) (lines_of parts c) (replies_of run c) (ran.each c lt);
  made = λ i u here.
      let lt = ran.by_client i u here in (
        lt,
        made_within dir run.updates u.client (slots u.client) (lines_of parts u.client) (replies_of run u.client) (ran.each u.client lt) i u here refl,
      );
}
