-- What answers a call that updates the map: from earlier in the call on, and as the answer of each of the calls.
use Rattle.std.proofs.Common.{◌≡◌, ◌∙◌, ℕ, Bool, true, false, refl, ap, sym, subst, arith, inl, inr, Option, Some, None, IfSome}
use Rattle.std.specs.Prelude.{MatchBool, if◌then◌else◌}
use Rattle.index_words.specs.declared.view.View.{View}
use Rattle.index_words.specs.declared.view.history.Counts.{Counts}
use Rattle.index_words.specs.declared.view.history.SeenHistory.{SeenHistory}
use Rattle.key_map.specs.declared.pass.Done.{Done}
use Rattle.key_map.specs.declared.pass.New.TheVariants.{Made, Kept}
use Rattle.key_map.specs.declared.update.Change.{Change}
use Rattle.key_map.specs.declared.update.Change.TheVariants.{Put, Remove}
use Rattle.core_updates.specs.Ready.{update_of}
use Rattle.plan_laws.specs.Frames.{KeepsOwned}
use Rattle.table_steps.specs.Passes.{Pass, IsSamePass}
use Rattle.table_steps.specs.Raises.{IsRaisedSince}
use Rattle.table_steps.specs.Stamps.{announced_within, HasOpened, IsFoundSince}
use Rattle.table_steps.proofs.Places.{raised_later, raised_before, found_later}
use Rattle.table_steps.proofs.ReadSections.{within_history}
use Rattle.update_search.specs.Aims.{is_put}
use Rattle.tree_update.specs.Calls.{GoesOn, MakesChange, LooksFor, HasMade, HasNotLooked, PutsUnlooked, AnswersMade, AnswersLooked, AnswersCall, IsNotMade, AnswersPutNew, AnswersRemoval, IsPlaceOfNew, IsPlaceOfRemoval, new_by}
use Rattle.tree_update.proofs.CallSteps.{made_more, looked_more}
use Rattle.tree_update.proofs.Ends.{made_kept}

-- a snapshot was opened, and closed again
pub found_here : (p : Pass) (n : ℕ) (b w : View) → HasOpened p 1 n b → w.history ≡ b.history → IsFoundSince p n w
found_here p n b w opened same = record {
  before = announced_within opened.first p.view;
  behind = b;
  event = opened.event;
  since = omega (arith, ap (λ (h : SeenHistory). h.looks) (within_history p.view));
  last = ap (λ (h : SeenHistory). h.looks) same;
}

-- an update was made, and its wait has ended
module _ (p : Pass) (u w : View) (line key : ℕ) (change : Change) (done : Done) (made : HasMade p.view u p.number line key change done) (keeps : KeepsOwned u w) where
  pub answers_made : (only_new : Bool) → IsRaisedSince p (update_of p.number line key change) done.at u → (only_new ≡ true → done.was ≡ false)
      → AnswersMade only_new p w line key change done
  answers_made only_new raise absent = record {
    made = made_kept u w keeps p.view p.number line key change done made.0;
    raise = raised_before p (update_of p.number line key change) done.at u w (ap (λ (h : SeenHistory). h.mine) keeps.history) raise;
    absent = absent;
  }

  pub made_unlooked : u.counts.waits ≡ p.view.counts.waits → HasNotLooked p.view w
  made_unlooked waits = record {
    fixes = record {
      looks = ap (λ (h : SeenHistory). h.looks) keeps.history ∙ made.1.looks;
      found = ap (λ (h : SeenHistory). h.found) keeps.history ∙ made.1.found;
    };
    waits = ap (λ (n : Counts). n.waits) keeps.counts ∙ waits;
  }

-- a look after a try shows the same as its search
pub answers_looked : (only_new : Bool) (p q : Pass) (w : View) (key : ℕ) (change : Change) (there : Bool) (done : Done) → IsSamePass p q → GoesOn p.view q.view
    → IsNotMade only_new change there → done.was ≡ there → LooksFor q.view w key done.was done.at → IsFoundSince q done.at w
    → AnswersLooked only_new p w key change done
answers_looked only_new p q w key change there done same goes why is looked found = record {
  looked = looked_more p.view q.view w key done.was done.at goes looked;
  found = found_later p q done.at w same goes.looks found;
  why = subst (λ (b : Bool). IsNotMade only_new change b) (sym is) why;
}

-- the answer of that look
pub look_answers : (only_new : Bool) (p q : Pass) (w : View) (line key : ℕ) (change : Change) (there : Bool) (r : Option Done) → IsSamePass p q → GoesOn p.view q.view
    → IsNotMade only_new change there → IfSome r (λ done. done.was ≡ there) → IfSome r (λ done. LooksFor q.view w key done.was done.at)
    → IfSome r (λ done. IsFoundSince q done.at w) → IfSome r (AnswersCall only_new p w line key change)
look_answers only_new p q w line key change there None same goes why is looked found = tt
look_answers only_new p q w line key change there (Some done) same goes why is looked found =
    inr (answers_looked only_new p q w key change there done same goes why is looked found)

true_false : (b : Bool) → b ≡ true → b ≡ false → ⊥
true_false true is other = cc
true_false false is other = cc

no_removal : (change : Change) → change ≡ Remove → is_put change ≡ true → ⊥
no_removal (Put val) is put = cc
no_removal Remove is put = cc

-- a put for which a look is needed is one that is made only if its key is not there
pub never_looks : (only_new : Bool) (change : Change) (there : Bool) (v w : View) → IsNotMade only_new change there → PutsUnlooked only_new change v w
never_looks only_new change true v w why = λ plain put. absurd (true_false only_new why plain)
never_looks only_new change false v w why = λ plain put. absurd (no_removal change why put)

-- an answer holds from an earlier view on
pub answers_later : (only_new : Bool) (p q : Pass) (w : View) (line key : ℕ) (change : Change) (done : Done) → IsSamePass p q → GoesOn p.view q.view
    → AnswersCall only_new q w line key change done → AnswersCall only_new p w line key change done
answers_later only_new p q w line key change done same goes (inl is) =
    inl (record {
      made = subst (λ (n : ℕ). MakesChange p.view w n line key change done) same.number (made_more p.view q.view w q.number line key change done goes is.made);
      raise =
          raised_later p q (update_of p.number line key change) done.at w same goes.mine
          (subst (λ (n : ℕ). IsRaisedSince q (update_of n line key change) done.at w) same.number is.raise);
      absent = is.absent;
    })
answers_later only_new p q w line key change done same goes (inr is) =
    inr (answers_looked only_new p q w key change done.was done same goes is.why refl is.looked is.found)

module _ (p : Pass) (w : View) (line key : ℕ) (done : Done) where
  -- a put is made
  pub put_answered : (val : ℕ) → AnswersCall false p w line key (Put val) done → AnswersMade false p w line key (Put val) done
  put_answered val (inl is) = is
  put_answered val (inr is) = absurd (never done.was is.why)
    where
      never : (b : Bool) → IsNotMade false (Put val) b → ⊥
      never true why = cc
      never false why = cc

  -- a put of a key that was not there is made, and one of a key that was is not
  new_as : (val : ℕ) (b : Bool) → done.was ≡ b → AnswersCall true p w line key (Put val) done
      → AnswersPutNew p.view w p.number line key val (if b then Kept done.at else Made done.at)
      × IsPlaceOfNew p line key val (if b then Kept done.at else Made done.at) w
  new_as val true was (inl is) = absurd (true_false done.was was (is.absent refl))
  new_as val true was (inr is) = (subst (λ (b : Bool). LooksFor p.view w key b done.at) was is.looked, is.found)
  new_as val false was (inl is) = (
    subst (λ (b : Bool). MakesChange p.view w p.number line key (Put val) (record { at = done.at; was = b })) was is.made,
    is.raise,
  )
  new_as val false was (inr is) = absurd (no_removal (Put val) (subst (λ (b : Bool). IsNotMade true (Put val) b) was is.why) refl)

  pub new_answered : (val : ℕ) → AnswersCall true p w line key (Put val) done
      → AnswersPutNew p.view w p.number line key val (new_by done) × IsPlaceOfNew p line key val (new_by done) w
  new_answered val answer = new_as val done.was refl answer

  -- a removal that is made finds its key
  pub removal_answered : AnswersCall false p w line key Remove done
      → AnswersRemoval p.view w p.number line key done × IsPlaceOfRemoval p line key done w
  removal_answered (inl is) = (
    subst (λ (b : Bool). MatchBool b (MakesChange p.view w p.number line key Remove done) (LooksFor p.view w key false done.at)) (sym is.made.nodes.0) is.made,
    subst (λ (b : Bool). MatchBool b (IsRaisedSince p (update_of p.number line key Remove) done.at w) (IsFoundSince p done.at w)) (sym is.made.nodes.0) is.raise,
  )
  removal_answered (inr is) = by_was done.was is.why is.looked
    where
      by_was : (b : Bool) → IsNotMade false Remove b → LooksFor p.view w key b done.at
          → MatchBool b (MakesChange p.view w p.number line key Remove done) (LooksFor p.view w key false done.at)
          × MatchBool b (IsRaisedSince p (update_of p.number line key Remove) done.at w) (IsFoundSince p done.at w)
      by_was true why looked = absurd (true_false false why refl)
      by_was false why looked = (looked, is.found)
