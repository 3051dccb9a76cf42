-- A successor is unlinked after each other pass was passed since its copy was linked.
use Rattle.std.proofs.Common.{◌≡◌, ◌≢◌, ℕ, ◌<◌, ◌⊎◌, List, [], ◌∷◌, Bool, true, false, not, eqb, ◌&&◌, ◌||◌, refl, ◌∙◌, sym, subst, inl, inr, Option, Some, None}
use Rattle.std.proofs.lemmas.Bool.{and_parts, and_from, eqb-true, eq-eqb}
use Rattle.std.proofs.lemmas.Bool.Decides.{eqb_tells}
use Rattle.index_words.specs.declared.layout.Layout.{Layout}
use Rattle.index_words.specs.declared.side.Side.{Side}
use Rattle.index_words.specs.declared.view.View.{View}
use Rattle.index_words.specs.declared.view.update.Unlinking.{Unlinking}
use Rattle.index_words.specs.declared.view.update.UnsetLink.{UnsetLink}
use Rattle.index_words.specs.declared.word.Field.TheVariants.{Mark, Link}
use Rattle.index_words.specs.declared.word.Word.{Word}
use Rattle.index_words.specs.declared.word.Word.TheVariants.{Node}
use Rattle.index_words.specs.Views.{no_looks}
use Rattle.index_words.specs.Words.{Memory, word_at, same_side}
use Rattle.index_words.proofs.Seats.{at_item}
use Rattle.key_map.specs.Lists.{count}
use Rattle.key_map.proofs.Counting.{has-count}
use Rattle.core_grace.specs.Batches.{all_passed}
use Rattle.core_grace.proofs.RuleMoves.{all_passed-has}
use Rattle.core_events.specs.declared.event.Event.{Event}
use Rattle.core_events.specs.Needs.{is_marked_node}
use Rattle.core_events.specs.PlainNeeds.{is_link_of, unlinks_at, sets_others, may_unlink, may_set_link}
use Rattle.core_events.specs.Steps.{needs, carries, allowed_at}
use Rattle.core_events.specs.Tables.{Table, held_by}
use Rattle.core_events.proofs.Tests.{never, not_true}
use Rattle.core_invariant.specs.PlainTree.{IsSecondOut, ItemRight, SeatInTree}
use Rattle.core_invariant.specs.Reached.{plain_graph}
use Rattle.core_invariant.proofs.Passing.{Passing, passing}
use Rattle.core_invariant.proofs.Sides.{same_side-refl, same_side-true}
use Rattle.core_invariant.proofs.WaitNeeds.{can_set}
use Rattle.core_laws.specs.Waits.{UnlinksSuccessor, HasWaited, UnlinkLaw, LooksLastLaw}
use Rattle.core_laws.proofs.ViewTests.{other_number}

-- what the need of the store says, where the link is that to the successor
module _ (z : Layout) (m : Memory) (v : View) (u : Unlinking) (child : ℕ) (met : may_set_link z m v (Node (Link u.side) u.parent) child ≡ true) (is : v.update.unlinking ≡ Some u) where
  at_link : unlinks_at u.parent u.side (Some u) ≡ true
  at_link = and_from (eqb u.parent u.parent) (same_side u.side u.side) (eq-eqb u.parent u.parent refl) (same_side-refl u.side)

  order_by : (b : Bool) → not (unlinks_at u.parent u.side (Some u) && b) ≡ true → b ≡ false
  order_by b order = by (unlinks_at u.parent u.side (Some u)) at_link b order
    where
      by : (a : Bool) → a ≡ true → (b : Bool) → not (a && b) ≡ true → b ≡ false
      by true on false order = refl
      by _ off _ order = cc

  linked_by : sets_others u.parent u.side v.update.unset ≡ false
  linked_by =
      order_by (sets_others u.parent u.side v.update.unset)
      (subst (λ (o : Option Unlinking). not (unlinks_at u.parent u.side o && sets_others u.parent u.side v.update.unset) ≡ true) is (can_set z m v u.parent u.side child met).order)

  may_by : may_unlink z m v (Some u) ≡ true
  may_by =
      by (unlinks_at u.parent u.side (Some u)) at_link
      (subst (λ (o : Option Unlinking). (not (unlinks_at u.parent u.side o) || may_unlink z m v o) ≡ true) is (can_set z m v u.parent u.side child met).unlinks)
    where
      by : (a : Bool) → a ≡ true → (not a || may_unlink z m v (Some u)) ≡ true → may_unlink z m v (Some u) ≡ true
      by true on may = may
      by false off may = cc

  marked_by : m (Node Mark u.successor) ≡ 1
  marked_by = eqb-true (m (Node Mark u.successor)) 1 (and_parts (is_marked_node m u.successor) (all_passed z.passes v.number v.update.waiting.passed) may_by).0

  passed_by : (pass : ℕ) → pass < z.passes → v.number ≢ Some pass → 0 < count pass v.update.waiting.passed
  passed_by pass there other =
      has-count pass v.update.waiting.passed
      (all_passed-has z.passes pass v.number v.update.waiting.passed (and_parts (is_marked_node m u.successor) (all_passed z.passes v.number v.update.waiting.passed) may_by).1 there (other_number pass v.number other))

unlink_at : (t : Table) (e : Event) (v : View) (u : Unlinking) (w : Option Word) → word_at t.layout e.word ≡ w → allowed_at t e (Some v) w ≡ true → UnlinksSuccessor t e v u → HasWaited t v u
unlink_at t e v u None is met unlinks = absurd (never met)
unlink_at t e v u (Some w) is met unlinks =
    let c = needs e.kind t.layout (held_by t) t.views e.seat v w e.value e.update in
    let need : c ≡ true = (and_parts (carries e.kind v e.update && not v.joined) c met).1 in
    let named : w ≡ Node (Link u.side) u.parent = one_word w (sym is ∙ unlinks.word) in
    let sets : may_set_link t.layout (held_by t) v (Node (Link u.side) u.parent) e.value ≡ true
    = subst (λ (x : Word). may_set_link t.layout (held_by t) v x e.value ≡ true) named
    (subst (λ k. needs k t.layout (held_by t) t.views e.seat v w e.value e.update ≡ true) unlinks.kind need) in
    record {
      marked = marked_by t.layout (held_by t) v u e.value sets unlinks.unlinking;
      linked = linked_by t.layout (held_by t) v u e.value sets unlinks.unlinking;
      passed = passed_by t.layout (held_by t) v u e.value sets unlinks.unlinking;
    }
  where
    one_word : (w : Word) → Some w ≡ Some (Node (Link u.side) u.parent) → w ≡ Node (Link u.side) u.parent
    one_word w same = cc

pub unlink_law : UnlinkLaw
unlink_law t e v u right met is unlinks =
    unlink_at t e v u (word_at t.layout e.word) refl (subst (λ (o : Option View). allowed_at t e o (word_at t.layout e.word) ≡ true) is met) unlinks

-- a link that leads to a successor is that at which it is unlinked
second_tells : (taken : List ℕ) (was : ℕ) → IsSecondOut taken was ⊎ (¬ IsSecondOut taken was)
second_tells (n ∷ s ∷ []) was = elim (eqb_tells was s) as (λ _. (was ≡ s) ⊎ (¬ (was ≡ s))) [ inl same ↦ inl same.1 | inr other ↦ inr other.1 ]
second_tells _ was = inr (λ no. no)

pub looks_last : LooksLastLaw
looks_last t i v u right at is others =
    let P : UnsetLink → Type 0
    = ItemRight (plain_graph (held_by t)) right.plain_tree v.update.taken v.update.added v.update.unlinking v.update.waiting in
    let f : Passing (λ (x : UnsetLink). not (is_link_of u.parent u.side x)) P
    = passing (λ (x : UnsetLink). not (is_link_of u.parent u.side x)) P v.update.unset
    (at_item (SeatInTree (plain_graph (held_by t)) right.plain_tree right.meaning.tree) t.views i v at right.trees.seats).items others in
    elim (second_tells v.update.taken f.item.was) as (λ _. v.update.waiting ≡ no_looks) [
      | inr first ↦ (f.right.early first).1
      | inl second ↦
          let unlinks : unlinks_at f.item.node f.item.side (Some u) ≡ true = subst (λ (o : Option Unlinking). unlinks_at f.item.node f.item.side o ≡ true) is (f.right.last second) in
          absurd (never (sym (not_true (is_link_of u.parent u.side f.item) f.passes) ∙ here f.item unlinks))
    ]
  where
    here : (x : UnsetLink) → unlinks_at x.node x.side (Some u) ≡ true → is_link_of u.parent u.side x ≡ true
    here x unlinks =
        let parts = and_parts (eqb u.parent x.node) (same_side u.side x.side) unlinks in
        and_from (eqb x.node u.parent) (same_side x.side u.side) (eq-eqb x.node u.parent (sym (eqb-true u.parent x.node parts.0)))
        (subst (λ (s : Side). same_side x.side s ≡ true) (sym (same_side-true u.side x.side parts.1)) (same_side-refl x.side))
