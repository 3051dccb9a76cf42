-- A seat that is split in two, and a seat that is joined into another one: the rule on slots is kept.
use Rattle.std.proofs.Common.{◌≡◌, ◌≢◌, ℕ, ◌+◌, ◌<◌, List, [], ◌∷◌, ◌++◌, set, arith, refl, ap, ◌∙◌, sym, subst, inl, inr, Some}
use Rattle.std.specs.List.{All, sum_by}
use Rattle.std.proofs.lemmas.List.Elements.{All-set, All-push}
use Rattle.std.proofs.lemmas.Bool.{cases_lt}
use Rattle.index_words.specs.declared.layout.Layout.{Layout}
use Rattle.index_words.specs.declared.view.View.{View}
use Rattle.index_words.specs.declared.view.slots.Slots.{Slots}
use Rattle.index_words.specs.declared.view.slots.SectionFound.{SectionFound}
use Rattle.index_words.specs.Views.{no_slots, no_looks}
use Rattle.key_map.specs.Lists.{count, Every, IsItem}
use Rattle.index_words.proofs.Seats.{at_item, all_moved, all_framed, sum_split, sum_joined}
use Rattle.key_map.proofs.Counting.{count-append}
use Rattle.core_grace.specs.Batches.{both}
use Rattle.core_grace.specs.Slots.{nodes_of, entries_in, own, own_free, SlotsRight, HoldsNone, GraceRight, KeepsEntries, Linked, SlotRule}
use Rattle.core_grace.proofs.RuleMoves.{HoldsFrom, KeepsSection, grace_moved, same_looks, no_looks_right}

every_all : {X : Type 0} (P : X → Type 0) (xs : List X) → ((x : X) → P x) → Every P xs
every_all P [] all = tt
every_all P (x ∷ xs) all = (all x, every_all P xs all)

as_often : (pick : Slots → List ℕ) (k : ℕ) (s t : Slots) → s ≡ t → count k (pick s) ≡ count k (pick t)
as_often pick k s t same = ap (λ (u : Slots). count k (pick u)) same

own_split : (pick : Slots → List ℕ) (k : ℕ) (v w y : View) → count k (pick no_slots) ≡ 0 → own_free pick k w + own_free pick k y ≡ own_free pick k v
    → w.batch ≡ v.batch → w.retired ≡ v.retired → y.retired ≡ no_slots → y.batch ≡ no_slots
    → own pick k w + own pick k y ≡ own pick k v
own_split pick k v w y none free batch retired no_retired no_batch =
    omega (arith, free, as_often pick k w.batch v.batch batch, as_often pick k w.retired v.retired retired, as_often pick k y.retired no_slots no_retired, as_often pick k y.batch no_slots no_batch)

free_joined : (pick : Slots → List ℕ) (k : ℕ) (v u w y : View) → count k (pick no_slots) ≡ 0
    → count k (pick (both v.free u.free)) ≡ count k (pick v.free) + count k (pick u.free)
    → w.free ≡ both v.free u.free → y.free ≡ no_slots
    → own_free pick k w + own_free pick k y ≡ own_free pick k v + own_free pick k u
free_joined pick k v u w y none sum free no_free =
    omega (arith, sum, as_often pick k w.free (both v.free u.free) free, as_often pick k y.free no_slots no_free)

own_joined : (pick : Slots → List ℕ) (k : ℕ) (v u w y : View) → count k (pick no_slots) ≡ 0
    → count k (pick (both v.free u.free)) ≡ count k (pick v.free) + count k (pick u.free)
    → count k (pick (both v.retired (both u.retired u.batch))) ≡ count k (pick v.retired) + count k (pick (both u.retired u.batch))
    → count k (pick (both u.retired u.batch)) ≡ count k (pick u.retired) + count k (pick u.batch)
    → w.free ≡ both v.free u.free → w.retired ≡ both v.retired (both u.retired u.batch) → w.batch ≡ v.batch
    → y.free ≡ no_slots → y.retired ≡ no_slots → y.batch ≡ no_slots
    → own pick k w + own pick k y ≡ own pick k v + own pick k u
own_joined pick k v u w y none frees retireds batches free retired batch no_free no_retired no_batch =
    omega (
      arith,
      frees,
      retireds,
      batches,
      as_often pick k w.free (both v.free u.free) free,
      as_often pick k w.retired (both v.retired (both u.retired u.batch)) retired,
      as_often pick k w.batch v.batch batch,
      as_often pick k y.free no_slots no_free,
      as_often pick k y.retired no_slots no_retired,
      as_often pick k y.batch no_slots no_batch,
    )

-- the views of `vs` after a change: their free slots are in total those of before, and each of them holds no more than
-- a view of before
module _ (pick : Slots → List ℕ) (size : ℕ) (l : ℕ → ℕ) (h : View → ℕ → Type 0) (vs ws : List View) where
  abbrev pub Unheld : View → Type 0
  Unheld u = (k : ℕ) → h u k → sum_by (own_free pick k) vs ≡ 0

  pub slots_same : SlotsRight pick size l h vs
      → ((k : ℕ) → sum_by (own pick k) ws ≡ sum_by (own pick k) vs) → ((k : ℕ) → sum_by (own_free pick k) ws ≡ sum_by (own_free pick k) vs)
      → All Unheld ws → SlotsRight pick size l h ws
  slots_same right same free held = record {
    one = λ k. ap (λ n. n + l k) (same k) ∙ right.one k;
    unheld = λ i d within k holds. free k ∙ held i d within k holds;
  }

module _ (z : Layout) (linked : Linked) (hn he : View → ℕ → Type 0) where
  abbrev pub G : View → View → Type 0
  G = GraceRight hn he

  abbrev pub Keeps : View → Type 0
  Keeps v = KeepsEntries linked.entries_of v.retired × KeepsEntries linked.entries_of v.batch

  -- each batch of a view that holds nothing is free
  pub bare_column : (u v : View) → ((k : ℕ) → hn v k → ⊥) → ((e : ℕ) → he v e → ⊥) → G u v
  bare_column u v nodes entries = record {
    passed = every_all (λ n. v.number ≡ Some n → HoldsNone hn he u.batch v) u.grace.passed (λ n is. record { nodes = λ k some. nodes k; entries = λ e some. entries e });
    found = every_all (λ (f : SectionFound). v.number ≡ Some f.pass → v.section_word ≢ f.word → HoldsNone hn he u.batch v) u.grace.found
        (λ f is differs. record { nodes = λ k some. nodes k; entries = λ e some. entries e });
  }

  grace_set : (vs : List View) (j : ℕ) (y : View) → All (λ u. All (G u) vs) vs → ((u : View) → G u y) → y.grace ≡ no_looks → All (λ u. All (G u) (set vs j y)) (set vs j y)
  grace_set vs j y all column none =
      All-set (λ u. All (G u) (set vs j y)) vs j y (λ k d within. no_looks_right z linked hn he y _ none)
      (all_framed (λ u. All (G u) vs) (λ u. All (G u) (set vs j y)) vs all (λ u of. All-set (G u) vs j y (column u) of))

  grace_push : (vs : List View) (y : View) → All (λ u. All (G u) vs) vs → ((u : View) → G u y) → y.grace ≡ no_looks → All (λ u. All (G u) (vs ++ y ∷ [])) (vs ++ y ∷ [])
  grace_push vs y all column none =
      All-push (λ u. All (G u) (vs ++ y ∷ [])) vs y
      (all_framed (λ u. All (G u) vs) (λ u. All (G u) (vs ++ y ∷ [])) vs all (λ u of. All-push (G u) vs y of (column u)))
      (λ k d within. no_looks_right z linked hn he y _ none)

  -- what the first of the two still is: its section, its batch, its looks and what it holds
  pub record Stays (v w : View) : Type 0 where
    pub number : w.number ≡ v.number
    pub section_word : w.section_word ≡ v.section_word
    pub batch : w.batch ≡ v.batch
    pub grace : w.grace ≡ v.grace
    pub nodes : (k : ℕ) → hn w k → hn v k
    pub entries : (e : ℕ) → he w e → he v e

  -- what the second of the two is: nothing waits for it, and it holds nothing
  pub record IsBare (y : View) : Type 0 where
    pub grace : y.grace ≡ no_looks
    pub nodes : (k : ℕ) → hn y k → ⊥
    pub entries : (e : ℕ) → he y e → ⊥

  stays_from : (v w : View) → Stays v w → HoldsFrom z linked hn he v w
  stays_from v w stays = record { nodes = λ k holds. inl (stays.nodes k holds); entries = λ e holds. inl (stays.entries e holds) }

  stays_section : (v w : View) → Stays v w → KeepsSection z linked hn he v w
  stays_section v w stays = record { number = stays.number; section = inl stays.section_word }

  grace_stays : (vs : List View) (i : ℕ) (v w : View) → IsItem vs i v → SlotRule z linked hn he vs → Stays v w → All (λ u. All (G u) (set vs i w)) (set vs i w)
  grace_stays vs i v w at rule stays =
      grace_moved z linked hn he vs i v w at rule (stays_from v w stays) (stays_section v w stays)
      (λ known. same_looks z linked hn he v w w stays.batch stays.grace known)
      (λ u beside known. same_looks z linked hn he v w u stays.batch stays.grace known)

  -- no seat of the new list holds a slot that was free
  abbrev pub NodesUnheld : List View → View → Type 0
  NodesUnheld vs = Unheld nodes_of z.nodes linked.nodes hn vs vs

  abbrev pub EntriesUnheld : List View → View → Type 0
  EntriesUnheld vs = Unheld entries_in z.entries linked.entries he vs vs

  nodes_stay : (vs : List View) (i : ℕ) (v w : View) → IsItem vs i v → SlotRule z linked hn he vs → Stays v w → All (NodesUnheld vs) (set vs i w)
  nodes_stay vs i v w at rule stays =
      all_moved (NodesUnheld vs) (NodesUnheld vs) vs i v w at rule.nodes.unheld
      (λ k holds. at_item (NodesUnheld vs) vs i v at rule.nodes.unheld k (stays.nodes k holds)) (λ u beside of. of)

  entries_stay : (vs : List View) (i : ℕ) (v w : View) → IsItem vs i v → SlotRule z linked hn he vs → Stays v w → All (EntriesUnheld vs) (set vs i w)
  entries_stay vs i v w at rule stays =
      all_moved (EntriesUnheld vs) (EntriesUnheld vs) vs i v w at rule.entries.unheld
      (λ e holds. at_item (EntriesUnheld vs) vs i v at rule.entries.unheld e (stays.entries e holds)) (λ u beside of. of)

  no_entries_kept : (s : Slots) → s ≡ no_slots → KeepsEntries linked.entries_of s
  no_entries_kept s none = subst (KeepsEntries linked.entries_of) (sym none) (λ k e some of. absurd (omega arith))

  -- a seat is split: its free slots are divided
  pub split_slots : (vs : List View) (i : ℕ) (v w y : View) → IsItem vs i v → SlotRule z linked hn he vs → Stays v w → IsBare y
      → ((k : ℕ) → count k w.free.nodes + count k y.free.nodes ≡ count k v.free.nodes)
      → ((e : ℕ) → count e w.free.entries + count e y.free.entries ≡ count e v.free.entries)
      → w.retired ≡ v.retired → y.retired ≡ no_slots → y.batch ≡ no_slots
      → SlotRule z linked hn he (set vs i w ++ y ∷ [])
  split_slots vs i v w y at rule stays bare nodes entries retired none no_batch = record {
    nodes = slots_same nodes_of z.nodes linked.nodes hn vs (set vs i w ++ y ∷ []) rule.nodes
        (λ k. sum_split (own nodes_of k) vs i v w y at (own_split nodes_of k v w y refl (nodes k) stays.batch retired none no_batch))
        (λ k. sum_split (own_free nodes_of k) vs i v w y at (nodes k))
        (All-push (NodesUnheld vs) (set vs i w) y (nodes_stay vs i v w at rule stays) (λ k holds. absurd (bare.nodes k holds)));
    entries = slots_same entries_in z.entries linked.entries he vs (set vs i w ++ y ∷ []) rule.entries
        (λ e. sum_split (own entries_in e) vs i v w y at (own_split entries_in e v w y refl (entries e) stays.batch retired none no_batch))
        (λ e. sum_split (own_free entries_in e) vs i v w y at (entries e))
        (All-push (EntriesUnheld vs) (set vs i w) y (entries_stay vs i v w at rule stays) (λ e holds. absurd (bare.entries e holds)));
    grace = grace_push (set vs i w) y (grace_stays vs i v w at rule stays) (λ u. bare_column u y bare.nodes bare.entries) bare.grace;
    retired = All-push Keeps (set vs i w) y
        (all_moved Keeps Keeps vs i v w at rule.retired
        (let keeps = at_item Keeps vs i v at rule.retired in
        (subst (KeepsEntries linked.entries_of) (sym retired) keeps.0, subst (KeepsEntries linked.entries_of) (sym stays.batch) keeps.1))
        (λ u beside of. of))
        (no_entries_kept y.retired none, no_entries_kept y.batch no_batch);
  }

  both_kept : (s t : Slots) → KeepsEntries linked.entries_of s → KeepsEntries linked.entries_of t → KeepsEntries linked.entries_of (both s t)
  both_kept s t in_s in_t k e some of =
      elim (cases_lt 0 (count k s.nodes)) as (λ _. 0 < count e (both s t).entries) [
        | inl here ↦ omega (arith, count-append e s.entries t.entries, in_s k e here of)
        | inr none ↦ omega (arith, count-append e s.entries t.entries, in_t k e (omega (arith, count-append k s.nodes t.nodes)) of)
      ]

  -- a seat is joined into another one, which owns the slots of both: what the other had retired or in its batch is
  -- retired again
  pub join_slots : (vs : List View) (i j : ℕ) (v u w y : View) → IsItem vs i v → IsItem vs j u → (j ≡ i → ⊥) → SlotRule z linked hn he vs → Stays v w → IsBare y
      → w.free ≡ both v.free u.free → w.retired ≡ both v.retired (both u.retired u.batch)
      → y.free ≡ no_slots → y.retired ≡ no_slots → y.batch ≡ no_slots
      → SlotRule z linked hn he (set (set vs i w) j y)
  join_slots vs i j v u w y at of other rule stays bare free retired no_free none no_batch = record {
    nodes = slots_same nodes_of z.nodes linked.nodes hn vs (set (set vs i w) j y) rule.nodes
        (λ k. sum_joined (own nodes_of k) vs i j v u w y at of other
        (own_joined nodes_of k v u w y refl (count-append k v.free.nodes u.free.nodes) (count-append k v.retired.nodes (both u.retired u.batch).nodes) (count-append k u.retired.nodes u.batch.nodes) free retired stays.batch no_free none no_batch))
        (λ k. sum_joined (own_free nodes_of k) vs i j v u w y at of other (free_joined nodes_of k v u w y refl (count-append k v.free.nodes u.free.nodes) free no_free))
        (All-set (NodesUnheld vs) (set vs i w) j y (λ k holds. absurd (bare.nodes k holds)) (nodes_stay vs i v w at rule stays));
    entries = slots_same entries_in z.entries linked.entries he vs (set (set vs i w) j y) rule.entries
        (λ e. sum_joined (own entries_in e) vs i j v u w y at of other
        (own_joined entries_in e v u w y refl (count-append e v.free.entries u.free.entries) (count-append e v.retired.entries (both u.retired u.batch).entries) (count-append e u.retired.entries u.batch.entries) free retired stays.batch no_free none no_batch))
        (λ e. sum_joined (own_free entries_in e) vs i j v u w y at of other (free_joined entries_in e v u w y refl (count-append e v.free.entries u.free.entries) free no_free))
        (All-set (EntriesUnheld vs) (set vs i w) j y (λ e holds. absurd (bare.entries e holds)) (entries_stay vs i v w at rule stays));
    grace = grace_set (set vs i w) j y (grace_stays vs i v w at rule stays) (λ u. bare_column u y bare.nodes bare.entries) bare.grace;
    retired = All-set Keeps (set vs i w) j y
        (no_entries_kept y.retired none, no_entries_kept y.batch no_batch)
        (all_moved Keeps Keeps vs i v w at rule.retired
        (let keeps = at_item Keeps vs i v at rule.retired in
        let others = at_item Keeps vs j u of rule.retired in (
          subst (KeepsEntries linked.entries_of) (sym retired) (both_kept v.retired (both u.retired u.batch) keeps.0 (both_kept u.retired u.batch others.0 others.1)),
          subst (KeepsEntries linked.entries_of) (sym stays.batch) keeps.1,
        ))
        (λ u beside of. of));
  }
