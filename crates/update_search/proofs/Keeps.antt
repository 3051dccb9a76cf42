-- What the steps of a search keep.
use Rattle.std.proofs.Common.{◌≡◌, ℕ, zero, suc, ◌+◌, ◌<◌, List, [], ◌∷◌, cond, Bool, true, false, eqb, arith, refl, ◌∙◌, sym, subst, Some}
use Rattle.std.proofs.lemmas.Bool.Decides.{nat_tests}
use Rattle.index_words.specs.declared.side.Side.{Side}
use Rattle.index_words.specs.declared.view.View.{View}
use Rattle.index_words.specs.declared.view.update.HeldNode.{HeldNode}
use Rattle.index_words.specs.declared.word.Field.TheVariants.{Key}
use Rattle.key_map.specs.Lists.{count, IsItem}
use Rattle.core_grace.specs.Holds.{held_slots}
use Rattle.core_events.specs.LockMoves.{mark_loaded, pair_loaded}
use Rattle.core_events.specs.PlainMoves.{link_loaded, tag_loaded}
use Rattle.core_events.specs.UpdateNeeds.{held_at}
use Rattle.core_invariant.specs.Readers.{IsLocked}
use Rattle.plan_laws.specs.Tries.{IsTrying}
use Rattle.plan_laws.proofs.Items.{item-above}
use Rattle.update_search.specs.Laws.{SearchLaws}
use Rattle.update_search.specs.Outcomes.{KeepsPlaces}
use Rattle.update_search.specs.Searching.{KeepsSearch}
use Rattle.table_steps.specs.Passes.{Pass, IsSamePass}

pub same_pass : (p : Pass) → IsSamePass p p
same_pass p = record { id = refl; seat = refl; number = refl; layout = refl }

pub same_more : (p q r : Pass) → IsSamePass p q → IsSamePass q r → IsSamePass p r
same_more p q r a b = record { id = b.id ∙ a.id; seat = b.seat ∙ a.seat; number = b.number ∙ a.number; layout = b.layout ∙ a.layout }

-- a node of which something is known is locked
pub found_locked : (k : ℕ) (hs : List HeldNode) (h : HeldNode) → held_at k hs ≡ Some h → 0 < count k (held_slots hs)
found_locked k [] h is = cc
found_locked k (x ∷ hs) h is = by (eqb x.node k) refl (λ below. found_locked k hs h below) is
  where
    by : (b : Bool) → eqb x.node k ≡ b → (held_at k hs ≡ Some h → 0 < count k (held_slots hs)) → cond b (Some x) (held_at k hs) ≡ Some h → 0 < cond b 1 0 + count k (held_slots hs)
    by true e rest is = omega arith
    by false e rest is = omega (arith, rest is)

pub item_locked : (hs : List HeldNode) (i : ℕ) (h : HeldNode) → IsItem hs i h → 0 < count h.node (held_slots hs)
item_locked [] i h at = absurd (omega (arith, at.within))
item_locked (x ∷ hs) zero h at = subst (λ (y : HeldNode). 0 < count y.node (held_slots (x ∷ hs))) (at.is x) (self x.node (count x.node (held_slots hs)))
  where
    self : (k n : ℕ) → 0 < cond (eqb k k) 1 0 + n
    self k n = grind (arith, nat_tests)
item_locked (x ∷ hs) (suc i) h at = omega (arith, item_locked hs i h (item-above x h hs i at))

pub none_locked : (v : View) (n : ℕ) → IsTrying v n [] → (k : ℕ) → ¬ IsLocked v k
none_locked v n trying k locked = subst (λ (ks : List ℕ). 0 < count k ks → ⊥) (sym trying.locked) (λ some. omega (arith, some)) locked

-- it stays so in a search
pub still_unlocked : (v w : View) (n : ℕ) (nodes : List ℕ) (k : ℕ) → IsTrying v n nodes → KeepsPlaces v w → ¬ IsLocked v k → ¬ IsLocked w k
still_unlocked v w n nodes k trying keeps off locked =
    let on : IsTrying w n nodes = keeps.trying n nodes trying in
    off (subst (λ (ks : List ℕ). 0 < count k ks) (on.locked ∙ sym trying.locked) locked)

module _ (laws : SearchLaws) where
  pub places_more : (u v w : View) → KeepsPlaces u v → KeepsPlaces v w → KeepsPlaces u w
  places_more u v w a b = record {
    keeps = laws.tries_on u v w a.keeps b.keeps;
    trying = λ n nodes t. b.trying n nodes (a.trying n nodes t);
    waits = b.waits ∙ a.waits;
  }

  pub search_more : (u v w : View) → KeepsSearch u v → KeepsSearch v w → KeepsSearch u w
  search_more u v w a b = record { places = places_more u v w a.places b.places; looks = laws.looks_on u v w a.looks b.looks }

  module _ (v : View) where
    pub mark_places : (node x : ℕ) → KeepsPlaces v (mark_loaded v node x)
    mark_places node x = record { keeps = (laws.steps v).mark node x; trying = (laws.loads v).mark node x; waits = refl }

    pub link_places : (node x : ℕ) (side : Side) → KeepsPlaces v (link_loaded v node side x)
    link_places node x side = record { keeps = (laws.steps v).link node x side; trying = (laws.loads v).link node x side; waits = refl }

    pub tag_places : (node x : ℕ) (side : Side) → KeepsPlaces v (tag_loaded v node side x)
    tag_places node x side = record { keeps = (laws.steps v).tag node x side; trying = (laws.loads v).tag node x side; waits = refl }

    pub key_places : (node x : ℕ) → KeepsPlaces v (pair_loaded v Key node x)
    key_places node x = record { keeps = (laws.steps v).key node x; trying = (laws.loads v).key node x; waits = refl }

  -- and loads at a place where no lock is held
  module _ (v : View) (node : ℕ) (unlocked : ¬ IsLocked v node) (w : View) where
    pub link_search : (side : Side) (x : ℕ) → w ≡ link_loaded v node side x → KeepsSearch v w
    link_search side x view =
        subst (KeepsSearch v) (sym view)
        (record { places = link_places v node x side; looks = (laws.looks v).link node x side (λ k. absurd (unlocked (found_locked node v.held.nodes k.held k.locked))) })

    pub tag_search : (side : Side) (x : ℕ) → w ≡ tag_loaded v node side x → KeepsSearch v w
    tag_search side x view =
        subst (KeepsSearch v) (sym view)
        (record { places = tag_places v node x side; looks = (laws.looks v).tag node x side (λ k. absurd (unlocked (found_locked node v.held.nodes k.held k.locked))) })

    pub key_search : (x : ℕ) → w ≡ pair_loaded v Key node x → KeepsSearch v w
    key_search x view =
        subst (KeepsSearch v) (sym view)
        (record { places = key_places v node x; looks = (laws.looks v).key node x (λ y h. absurd (unlocked (subst (IsLocked v) h.node_is (item_locked v.held.nodes h.place h.held h.at)))) })
