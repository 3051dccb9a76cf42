-- The own updates of a pass still stand at their places where more of the history is seen.
use Rattle.std.proofs.Common.{◌≡◌, ℕ, ◌+◌, ◌-◌, ◌≤◌, List, ◌++◌, length, cond, eqb, Bool, true, false, ap, ◌∙◌, sym, subst, Some, None}
use Rattle.std.specs.List.{slice_get}
use Rattle.index_words.specs.declared.view.history.SeenHistory.{SeenHistory}
use Rattle.key_map.specs.declared.update.Update.{Update}
use Rattle.core_grace.proofs.RuleMoves.{every_weaker}
use Rattle.core_invariant.specs.Histories.{update_at}
use Rattle.table_rule.proofs.Lists.{get_left}
use Rattle.table_steps.specs.Made.{Made, KeepsOwn}
use Rattle.table_steps.specs.Passes.{Extends}
use Rattle.table_steps.specs.declared.own_updates.OwnUpdate.{OwnUpdate}

pub at_longer : (xs ys : List Update) (at : ℕ) (u : Update) → Extends xs ys → update_at xs at ≡ Some u → update_at ys at ≡ Some u
at_longer xs ys at u more is = ap (λ us. update_at us at) more.1 ∙ by_test (eqb at 0) is
  where
    by_test : (b : Bool) → cond b None (slice_get xs (at - 1)) ≡ Some u → cond b None (slice_get (xs ++ more.0) (at - 1)) ≡ Some u
    by_test true is = cc
    by_test false is = get_left xs more.0 (at - 1) u is

pub own_longer : (h g : SeenHistory) (made : Made) → g.mine ≡ h.mine → g.left ≡ h.left → Extends h.seen g.seen → KeepsOwn h made → KeepsOwn g made
own_longer h g made mine left more own = record {
  places = mine ∙ own.places;
  each = every_weaker (λ (u : OwnUpdate). update_at h.seen u.at ≡ Some u.update) (λ (u : OwnUpdate). update_at g.seen u.at ≡ Some u.update) made.updates
      (λ u is. at_longer h.seen g.seen u.at u.update more is) own.each;
  room = subst (λ n. length made.updates + n ≤ made.room) (sym left) own.room;
}
