-- Prepare: what is linked and held once a free entry is put in front of a bundle.
use Rattle.std.proofs.Common.{◌≡◌, ℕ, ◌+◌, ◌<◌, ◌≤◌, ◌⊎◌, cond, List, ◌∷◌, ◌++◌, Bool, true, false, eqb, set, arith, refl, ap, ◌∙◌, sym, subst, inl, inr, None}
use Rattle.std.proofs.lemmas.Bool.{ne_eqb}
use Rattle.std.proofs.lemmas.Bool.Decides.{nat_tests, eqb_tells}
use Rattle.index_words.specs.declared.layout.Layout.{Layout}
use Rattle.index_words.specs.declared.side.Side.{Side}
use Rattle.index_words.specs.declared.view.View.{View}
use Rattle.index_words.specs.declared.view.reading.Reading.{Reading}
use Rattle.index_words.specs.declared.view.update.LoadedHead.{LoadedHead}
use Rattle.index_words.specs.Words.{Memory}
use Rattle.key_map.specs.Lists.{count, IsItem}
use Rattle.index_words.proofs.Seats.{one_term}
use Rattle.key_map.proofs.Counting.{count-append}
use Rattle.core_grace.specs.Holds.{Bundles, HoldsNode, HoldsEntry, held_slots, listed, work_nodes, tree_slots, linked_in, ReadsAt, StandsIn}
use Rattle.core_grace.specs.Slots.{nodes_of, entries_in, own, SlotRule}
use Rattle.core_events.specs.Versions.{slots_of}
use Rattle.core_invariant.specs.Meanings.{Meaning, linked_by}
use Rattle.core_events.specs.UpdateMoves.{without, prepared}
use Rattle.core_invariant.specs.MeaningMoves.{prepared_meaning}
use Rattle.core_invariant.specs.Rule.{Rule}
use Rattle.core_invariant.proofs.OneView.{seat_at}
use Rattle.core_invariant.proofs.Owned.{own_waiting, in_entries, once_node, once_entry, not_in_bundle, reachable_live}
use Rattle.core_invariant.proofs.Passing.{count-without_same, count-without_other}
use Rattle.core_invariant.proofs.SlotLinks.{one_at, Links, slots_linked}
use Rattle.core_invariant.proofs.Fronts.{fronted, count-fronted, linked-fronted, reads-fronted, stands-fronted}
use Rattle.core_invariant.proofs.Locked.{locked_linked, slots_known}
use Rattle.core_invariant.proofs.Needed.{Ready}

module _ (z : Layout) (m : Memory) (vs : List View) (g : Meaning) (rule : Rule z m vs g) (i k e : ℕ) (side : Side) (v : View) (at : IsItem vs i v)
    (ready : Ready m v side k e) where
  abbrev pub known : LoadedHead
  known = record { entry = e; stamp = None }

  abbrev pub w : View
  w = prepared v side k e

  abbrev pub b' : Bundles
  b' = fronted g.bundles side k e

  pub same_locks : held_slots w.held.nodes ≡ held_slots v.held.nodes
  same_locks = slots_known k side known v.held.nodes

  pub same_work : work_nodes w ≡ work_nodes v
  same_work = ap (λ xs. xs ++ listed v.update.added) same_locks

  pub same_holds : (j : ℕ) → HoldsNode w j → HoldsNode v j
  same_holds j holds = subst (λ xs. 0 < count j (tree_slots v.reading.tree ++ xs)) same_work holds

  taken : (x : ℕ) → count x (without e v.free.entries) + one_at e x ≡ count x v.free.entries
  taken x =
      elim (eqb_tells e x) as (λ _. count x (without e v.free.entries) + one_at e x ≡ count x v.free.entries) [
        | inl same ↦ subst (λ y. count y (without e v.free.entries) + one_at e y ≡ count y v.free.entries) same.1
            (omega (
              arith,
              count-without_same e v.free.entries,
              new_one (eqb e e) (eqb_same e),
              once_entry z vs g rule.slots e,
              one_term (own entries_in e) vs i v at,
              ready.free,
            ))
        | inr other ↦ omega (arith, count-without_other x e v.free.entries (λ same. other.1 (sym same)), no_one (eqb e x) (ne_eqb e x other.1))
      ]
    where
      eqb_same : (n : ℕ) → eqb n n ≡ true
      eqb_same n = grind (arith, nat_tests)

      new_one : (b : Bool) → b ≡ true → 0 + cond b 1 0 ≡ 1
      new_one true e = refl
      new_one false e = cc

      no_one : (b : Bool) → b ≡ false → 0 + cond b 1 0 ≡ 0
      no_one true e = cc
      no_one false e = refl

  pub linked_once : count k (0 ∷ slots_of g.tree) ≡ 1
  linked_once = locked_linked z m vs g rule i k v at ready.locked ready.raised ready.unmarked

  -- the entry stands in no bundle that a seat may read
  pub apart_in : (j n : ℕ) (u : View) (s : Side) (d : ℕ) → IsItem vs j u → (n ≤ z.nodes) × ((n ≡ 0) ⊎ HoldsNode u n) → 0 < count d (g.bundles.bundle s n)
      → d ≡ e → ⊥
  apart_in j n u s d of reach here same =
      not_in_bundle z vs g rule.slots i n e v at ready.free (reachable_live z vs g rule.slots j n u of reach)
      (in_entries g.bundles n e s (subst (λ x. 0 < count x (g.bundles.bundle s n)) same here))

  tree_reach : (j n : ℕ) (u : View) → IsItem vs j u → (n ≡ 0) ⊎ (0 < count n (tree_slots u.reading.tree)) → (n ≤ z.nodes) × ((n ≡ 0) ⊎ HoldsNode u n)
  tree_reach j n u of (inl root) = (omega (arith, root), inl root)
  tree_reach j n u of (inr some) =
      ((seat_at z m vs g j u of rule).version.there n some, inr (omega (arith, some, count-append n (tree_slots u.reading.tree) (work_nodes u))))

  holds_by : (j : ℕ) (u u' : View) (x : ℕ) → IsItem vs j u → work_nodes u' ≡ work_nodes u → u'.reading ≡ u.reading → HoldsEntry b' u' x
      → HoldsEntry g.bundles u x ⊎ (x ≡ e)
  holds_by j u u' x of work reading (inl reads) =
      elim (reads-fronted g.bundles side k e u.reading.section (tree_slots u.reading.tree) x
      (λ s n d reach here. apart_in j n u s d of (tree_reach j n u of reach) here)
      (subst (λ (r : Reading). ReadsAt b' r.section (tree_slots r.tree) x) reading reads)) as (λ _. HoldsEntry g.bundles u x ⊎ (x ≡ e)) [
        | inl before ↦ inl (inl before)
        | inr same ↦ inr same
      ]
  holds_by j u u' x of work reading (inr stands) =
      elim (stands-fronted g.bundles side k e (work_nodes u) x (subst (λ ns. StandsIn b' ns x) work stands)) as (λ _. HoldsEntry g.bundles u x ⊎ (x ≡ e)) [
        | inl before ↦ inl (inr before)
        | inr same ↦ inr same
      ]

  -- a node that waits to be free is not the prepared one
  waits_apart : (j n : ℕ) (u : View) → IsItem vs j u → 0 < own_waiting nodes_of n u → n ≡ k → ⊥
  waits_apart j n u of some same =
      root_or (eqb 0 k) (omega (
        arith,
        linked_once,
        once_node z vs g rule.slots k,
        one_term (own nodes_of k) vs j u of,
        subst (λ y. 0 < own_waiting nodes_of y u) same some,
      )) refl
    where
      root_or : (c : Bool) → 0 < cond c 1 0 → eqb 0 k ≡ c → ⊥
      root_or false some is = omega (arith, some)
      root_or true one is =
          let root : 0 ≡ k = grind (arith, nat_tests) in
          omega (arith, rule.slots.nodes.one 0, one_term (own nodes_of 0) vs j u of, subst (λ y. 0 < own_waiting nodes_of y u) (same ∙ sym root) some)

  links : Links z (linked_by g) (linked_by (prepared_meaning g side k e)) HoldsNode (HoldsEntry g.bundles) (HoldsEntry b') vs i e v
      w.held w.update w.free at rule.slots
  links = record {
    free_nodes = refl;
    was_free = ready.free;
    taken = taken;
    nodes = λ n. refl;
    entries = λ x.
        linked-fronted g.bundles side k e x (0 ∷ slots_of g.tree) ∙ ap (λ n. linked_in g.bundles x (0 ∷ slots_of g.tree) + cond (eqb e x) n 0) linked_once;
    holds_node = same_holds;
    holds = λ x holds. holds_by i v w x at same_work refl holds;
    others_hold = λ u beside x holds. holds_by beside.place u u x beside.at refl refl holds;
    keeps = λ j u of n x some here.
        omega (arith, here, count-fronted g.bundles side k e n x, other_node (eqb n k) (one_at e x) (ne_eqb n k (waits_apart j n u of some)));
  }
    where
      other_node : (c : Bool) (n : ℕ) → c ≡ false → cond c n 0 ≡ 0
      other_node true n e = cc
      other_node false n e = refl

  pub prepared_slots : SlotRule z (linked_by (prepared_meaning g side k e)) HoldsNode (HoldsEntry b') (set vs i w)
  prepared_slots =
      slots_linked z (linked_by g) (linked_by (prepared_meaning g side k e)) HoldsNode (HoldsEntry g.bundles) (HoldsEntry b') vs i e v w.held
      w.update w.free at rule.slots links
