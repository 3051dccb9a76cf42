-- What is known under a lock is what a load finds again.
use Rattle.std.proofs.Common.{◌≡◌, ℕ, ◌<◌, ◌≤◌, List, refl, ◌∙◌, ap, sym, subst, Option, Some}
use Rattle.std.specs.Prelude.{IfSome}
use Rattle.index_words.specs.declared.side.Side.{Side}
use Rattle.index_words.specs.declared.view.View.{View}
use Rattle.index_words.specs.declared.view.update.HeldNode.{HeldNode}
use Rattle.index_words.specs.declared.word.Field.TheVariants.{Key, Val, Mark, Link as LinkField}
use Rattle.index_words.specs.declared.word.Word.TheVariants.{Node}
use Rattle.index_words.specs.Words.{memory}
use Rattle.key_map.specs.Lists.{IsItem}
use Rattle.core_events.specs.Tables.{held_by}
use Rattle.core_invariant.specs.Locks.{IsNodeAt}
use Rattle.core_invariant.proofs.OneView.{seat_at}
use Rattle.core_laws.proofs.Remembered.{every_item}
use Rattle.core_laws.proofs.Searching.{held_mark, held_word}
use Rattle.core_updates.specs.Held.{HasLoaded}
use Rattle.core_updates.specs.PlanEvents.{KnowsLink}
use Rattle.plan_laws.specs.Looks.{IsUnmarked}
use Rattle.plan_laws.specs.Tries.{IsTrying}
use Rattle.plan_laws.proofs.Looks.{held-unmarked}
use Rattle.table_rule.specs.Running.{Happened, table}
use Rattle.table_rule.proofs.Happens.{happened_word}
use Rattle.table_rule.proofs.Lists.{item_at}
use Rattle.table_steps.specs.Links.{loading_link}
use Rattle.table_steps.specs.Loads.{loading_mark, loading_pair}
use Rattle.table_steps.specs.Passes.{Pass}
use Rattle.update_search.proofs.Failures.{node_word}

module _ (p : Pass) (n : ℕ) (nodes : List ℕ) (trying : IsTrying p.view n nodes) (node : ℕ) (there : node ≤ p.view.layout.nodes) (found : ℕ) (w : View) where
  abbrev v : View
  v = p.view

  pub mark_again : Happened v.layout (loading_mark p node) v found w → IsUnmarked v node → found ≡ 0
  mark_again h u =
      sym (happened_word v.layout (loading_mark p node) v w found (Node Mark node) (node_word v.layout Mark node there) refl tt h)
      ∙ held_mark (table v.layout h.words h.views) h.rule p.seat v (item_at h.views p.seat v h.seat) node (held-unmarked v n nodes node trying u)

  pub link_word : (side : Side) (h : Happened v.layout (loading_link p node side) v found w) → held_by (table v.layout h.words h.views) (Node (LinkField side) node) ≡ found
  link_word side h = happened_word v.layout (loading_link p node side) v w found (Node (LinkField side) node) (node_word v.layout (LinkField side) node there) refl tt h

  pub link_again : (side : Side) → Happened v.layout (loading_link p node side) v found w → (k : KnowsLink v node side) → k.child ≡ found
  link_again side h k =
      sym (held_word (table v.layout h.words h.views) h.rule p.seat v (item_at h.views p.seat v h.seat) node k.child side k.held k.locked k.known)
      ∙ link_word side h

  pub key_again : Happened v.layout (loading_pair p Key node) v found w → (y : ℕ) → HasLoaded v node (λ (h : HeldNode). h.key) y → y ≡ found
  key_again h y k =
      let m = memory v.layout h.words in
      let at : IsItem h.views p.seat v = item_at h.views p.seat v h.seat in
      let known = every_item (IsNodeAt m) v.held.nodes k.place k.held k.at (seat_at v.layout m h.views h.rule.meaning p.seat v at h.rule.rule).loaded.nodes in
      let word : m (Node Key k.held.node) ≡ y = subst (λ (o : Option ℕ). IfSome o (λ x. m (Node Key k.held.node) ≡ x)) k.is known.key in
      sym word ∙ ap (λ j. m (Node Key j)) k.node_is
      ∙ happened_word v.layout (loading_pair p Key node) v w found (Node Key node) (node_word v.layout Key node there) refl tt h

  pub val_again : Happened v.layout (loading_pair p Val node) v found w → (y : ℕ) → HasLoaded v node (λ (h : HeldNode). h.val) y → y ≡ found
  val_again h y k =
      let m = memory v.layout h.words in
      let at : IsItem h.views p.seat v = item_at h.views p.seat v h.seat in
      let known = every_item (IsNodeAt m) v.held.nodes k.place k.held k.at (seat_at v.layout m h.views h.rule.meaning p.seat v at h.rule.rule).loaded.nodes in
      let word : m (Node Val k.held.node) ≡ y = subst (λ (o : Option ℕ). IfSome o (λ x. m (Node Val k.held.node) ≡ x)) k.is known.val in
      sym word ∙ ap (λ j. m (Node Val j)) k.node_is
      ∙ happened_word v.layout (loading_pair p Val node) v w found (Node Val node) (node_word v.layout Val node there) refl tt h
