-- At the wait of a removal the only link that is still to be set is that to the successor.
use Rattle.std.proofs.Common.{◌≡◌, Bool, true, false, not, ◌&&◌, eqb, refl, sym, subst, Option, Some, None, is_some}
use Rattle.std.specs.List.{list_all}
use Rattle.std.proofs.lemmas.Bool.{and_parts, and_from, eq-eqb}
use Rattle.index_words.specs.declared.side.Side.{Side}
use Rattle.index_words.specs.declared.view.View.{View}
use Rattle.index_words.specs.declared.view.update.Unlinking.{Unlinking}
use Rattle.index_words.specs.declared.view.update.UnsetLink.{UnsetLink}
use Rattle.index_words.specs.Words.{same_side}
use Rattle.key_map.specs.Lists.{Every}
use Rattle.core_events.specs.PlainNeeds.{is_link_of, sets_others, unlinks_at}
use Rattle.core_events.specs.Waits.{keeps_lock, is_waiting, is_waiting_for}
use Rattle.core_events.proofs.Tests.{never}
use Rattle.core_invariant.proofs.Frames.{every_map}
use Rattle.core_invariant.proofs.Passing.{none_passing, both_hold}
use Rattle.core_invariant.proofs.PlainSteps.{link_parts}
use Rattle.core_invariant.proofs.Sides.{same_side-refl}

module _ (v : View) (P : UnsetLink → Type 0) where
  -- a link that is that to the successor
  abbrev Unlinks : UnsetLink → Type 0
  Unlinks y = (unlinks_at y.node y.side v.update.unlinking ≡ true) × P y

  at_successor : (o : Unlinking) → v.update.unlinking ≡ Some o → (y : UnsetLink) → is_link_of o.parent o.side y ≡ true
      → unlinks_at y.node y.side v.update.unlinking ≡ true
  at_successor o is y link =
      let parts = link_parts o.parent o.side y link in
      subst (λ (q : Option Unlinking). unlinks_at y.node y.side q ≡ true) (sym is)
      (and_from (eqb o.parent y.node) (same_side o.side y.side) (eq-eqb o.parent y.node (sym parts.0))
      (subst (λ (s : Side). same_side o.side s ≡ true) (sym parts.1) (same_side-refl o.side)))

  by_unlinking : (o : Option Unlinking) → v.update.unlinking ≡ o → is_waiting_for v.update v.held.nodes o ≡ true → Every P v.update.unset
      → Every Unlinks v.update.unset
  by_unlinking None is waits items = absurd (never waits)
  by_unlinking (Some o) is waits items =
      let one = and_parts (is_some v.update.raised && not (sets_others o.parent o.side v.update.unset))
      (list_all (keeps_lock v.update.taken o) v.held.nodes) waits in
      let none = (and_parts (is_some v.update.raised) (not (sets_others o.parent o.side v.update.unset)) one.0).1 in
      every_map (λ y. P y × (is_link_of o.parent o.side y ≡ true)) Unlinks v.update.unset (λ y both. (at_successor o is y both.1, both.0))
      (both_hold P (λ y. is_link_of o.parent o.side y ≡ true) v.update.unset items
      (none_passing (λ (y : UnsetLink). not (is_link_of o.parent o.side y)) (λ y. is_link_of o.parent o.side y ≡ true) v.update.unset
      (λ y off. twice (is_link_of o.parent o.side y) off) none))
    where
      twice : (b : Bool) → not b ≡ false → b ≡ true
      twice true is = refl
      twice false is = cc

  pub waiting_items : is_waiting v ≡ true → Every P v.update.unset → Every Unlinks v.update.unset
  waiting_items waits items = by_unlinking v.update.unlinking refl waits items
