-- The entries of live nodes are not free, stand in one bundle each, and what else the counts of slots say.
use Rattle.std.proofs.Common.{◌≡◌, ℕ, ◌+◌, ◌<◌, ◌≤◌, List, [], ◌∷◌, arith, sym, subst, inl, inr, ◌⊎◌, refl, ap, ◌∙◌}
use Rattle.std.specs.List.{sum_by}
use Rattle.std.proofs.lemmas.Bool.{cases_lt}
use Rattle.std.proofs.lemmas.Bool.Decides.{nat_tests, eqb_tells}
use Rattle.std.proofs.lemmas.List.Sums.{sum_by-le-sum_by}
use Rattle.index_words.specs.declared.layout.Layout.{Layout}
use Rattle.index_words.specs.declared.side.Side.{Side}
use Rattle.index_words.specs.declared.side.Side.TheVariants.{Left, Right}
use Rattle.index_words.specs.declared.view.View.{View}
use Rattle.index_words.specs.declared.view.slots.Slots.{Slots}
use Rattle.index_words.proofs.Seats.{one_term, two_terms, at_item}
use Rattle.index_words.specs.declared.word.Field.TheVariants.{Head}
use Rattle.index_words.specs.declared.word.Part.TheVariants.{Next}
use Rattle.index_words.specs.declared.word.Word.TheVariants.{Node, Entry}
use Rattle.index_words.specs.Words.{Memory}
use Rattle.key_map.specs.Lists.{count, IsItem}
use Rattle.key_map.proofs.Counting.{count-append}
use Rattle.core_links.specs.Bundle.{IsChain}
use Rattle.core_grace.specs.Holds.{Bundles, entries_of, linked_in, HoldsNode, HoldsEntry}
use Rattle.core_grace.specs.Slots.{nodes_of, entries_in, own, own_free, is_slot, KeepsEntries, SlotRule}
use Rattle.core_grace.proofs.SlotMoves.{is_slot-le}
use Rattle.core_events.specs.Versions.{slots_of}
use Rattle.core_invariant.specs.Meanings.{Meaning, linked_by}
use Rattle.core_invariant.specs.BundleRule.{IsLive}
use Rattle.core_invariant.specs.Readers.{IsReachable}
use Rattle.core_invariant.proofs.Frames.{Term, term_of, same_item, one_counted}
use Rattle.core_invariant.specs.Rule.{Rule}

-- an entry stands on one side of a node at most as often as on both
pub one_side : (b : Bundles) (k e : ℕ) (side : Side) → count e (b.bundle side k) ≤ count e (entries_of b k)
one_side b k e Left = omega (arith, count-append e (b.bundle Left k) (b.bundle Right k))
one_side b k e Right = omega (arith, count-append e (b.bundle Left k) (b.bundle Right k))

pub in_entries : (b : Bundles) (k e : ℕ) (side : Side) → 0 < count e (b.bundle side k) → 0 < count e (entries_of b k)
in_entries b k e side some = omega (arith, some, one_side b k e side)

pub linked-at : (b : Bundles) (k e : ℕ) (ks : List ℕ) → 0 < count k ks → count e (entries_of b k) ≤ linked_in b e ks
linked-at b k e [] some = absurd (omega (arith, some))
linked-at b k e (x ∷ ks) some =
    elim (eqb_tells x k) as (λ _. count e (entries_of b k) ≤ linked_in b e (x ∷ ks)) [
      | inl same ↦ subst (λ y. count e (entries_of b y) ≤ linked_in b e (x ∷ ks)) same.1 (omega arith)
      | inr other ↦ omega (arith, linked-at b k e ks (not_here x k ks other.1 some))
    ]
  where
    not_here : (x k : ℕ) (ks : List ℕ) → (x ≡ k → ⊥) → 0 < count k (x ∷ ks) → 0 < count k ks
    not_here x k ks other some = grind (arith, nat_tests)

pub slot_is : (size k : ℕ) → 0 < k → k ≤ size → is_slot size k ≡ 1
slot_is size k low high = grind (arith, nat_tests)

slot_some : (size k : ℕ) → 0 < is_slot size k → 0 < k
slot_some size k some = grind (arith, nat_tests)

-- how often a view has a slot retired or in its batch
abbrev pub own_waiting : (Slots → List ℕ) → ℕ → View → ℕ
own_waiting pick k v = count k (pick v.retired) + count k (pick v.batch)

-- if a slot is at most once in a list of one view, it is not free in one and waits in another
pub free_waits : (pick : Slots → List ℕ) (vs : List View) (i j k : ℕ) (v u : View) → IsItem vs i v → IsItem vs j u → sum_by (own pick k) vs ≤ 1
    → 0 < own_free pick k v → own_waiting pick k u ≡ 0
free_waits pick vs i j k v u at of once some =
    elim (eqb_tells j i) as (λ _. own_waiting pick k u ≡ 0) [
      | inl same ↦ subst (λ (x : View). own_waiting pick k x ≡ 0) (same_item vs i j v u at of same.1) (omega (arith, once, one_term (own pick k) vs i v at, some))
      | inr other ↦ omega (arith, once, two_terms (own pick k) vs i v u at (record { place = j; at = of; other = other.1 }), some)
    ]

pub slot_high : (last k : ℕ) → 0 < is_slot last k → k ≤ last
slot_high last k some = grind (arith, nat_tests)

module _ (z : Layout) (vs : List View) (g : Meaning) (rule : SlotRule z (linked_by g) HoldsNode (HoldsEntry g.bundles) vs) where
  -- a slot is at most once in a place
  pub once_node : (k : ℕ) → sum_by (own nodes_of k) vs + count k (slots_of g.tree) ≤ 1
  once_node k = omega (arith, rule.nodes.one k, is_slot-le z.nodes k)

  pub once_entry : (e : ℕ) → sum_by (own entries_in e) vs + linked_in g.bundles e (0 ∷ slots_of g.tree) ≤ 1
  once_entry e = omega (arith, rule.entries.one e, is_slot-le z.entries e)

  -- a free node is not in the tree, and is no other view's
  pub free_node_alone : (i k : ℕ) (v : View) → IsItem vs i v → 0 < count k v.free.nodes → (count k (slots_of g.tree) ≡ 0) × (0 < k)
  free_node_alone i k v at some =
      let total = one_term (own nodes_of k) vs i v at in
      (omega (arith, once_node k, total, some), slot_some z.nodes k (omega (arith, rule.nodes.one k, total, some)))

  pub free_node_waits : (i j k : ℕ) (v u : View) → IsItem vs i v → IsItem vs j u → 0 < count k v.free.nodes → own_waiting nodes_of k u ≡ 0
  free_node_waits i j k v u at of some = free_waits nodes_of vs i j k v u at of (omega (arith, once_node k)) some

  pub free_entry_some : (i e : ℕ) (v : View) → IsItem vs i v → 0 < count e v.free.entries → 0 < e
  free_entry_some i e v at some = slot_some z.entries e (omega (arith, rule.entries.one e, one_term (own entries_in e) vs i v at, some))

  free_linked : (i k e : ℕ) (v : View) → IsItem vs i v → 0 < count e v.free.entries → 0 < count k (0 ∷ slots_of g.tree) → 0 < count e (entries_of g.bundles k) → ⊥
  free_linked i k e v at free linked here =
      omega (arith, once_entry e, one_term (own entries_in e) vs i v at, free, linked-at g.bundles k e (0 ∷ slots_of g.tree) linked, here)

  free_kept : (i k e : ℕ) (v : View) → IsItem vs i v → 0 < count e v.free.entries → Term (own nodes_of k) vs → sum_by (own_free nodes_of k) vs ≡ 0
      → 0 < count e (entries_of g.bundles k) → ⊥
  free_kept i k e v at free term live here =
      let u : View = term.item in
      let none : own_waiting entries_in e u ≡ 0 = free_waits entries_in vs i term.place e v u at term.at (omega (arith, once_entry e)) free in
      let keeps = at_item (λ (x : View). KeepsEntries (entries_of g.bundles) x.retired × KeepsEntries (entries_of g.bundles) x.batch) vs term.place u term.at rule.retired in
      elim (cases_lt 0 (count k u.retired.nodes)) as (λ _. ⊥) [
        | inl retired ↦ omega (arith, none, keeps.0 k e retired here)
        | inr other ↦ omega (arith, none, keeps.1 k e (omega (arith, term.some, one_term (own_free nodes_of k) vs term.place u term.at, live, other)) here)
      ]

  -- a free entry stands in no bundle of a live node
  pub not_in_bundle : (i k e : ℕ) (v : View) → IsItem vs i v → 0 < count e v.free.entries → IsLive z vs k → 0 < count e (entries_of g.bundles k) → ⊥
  not_in_bundle i k e v at free live here =
      elim (eqb_tells 0 k) as (λ _. ⊥) [
        | inl root ↦ free_linked i k e v at free (subst (λ x. 0 < count x (0 ∷ slots_of g.tree)) root.1 (omega arith)) here
        | inr slot ↦
            let low : 0 < k = let apart : 0 ≡ k → ⊥ = slot.1 in omega (arith, apart) in
            elim (cases_lt 0 (count k (slots_of g.tree))) as (λ _. ⊥) [
              | inl linked ↦ free_linked i k e v at free (omega (arith, linked)) here
              | inr unlinked ↦ free_kept i k e v at free (term_of (own nodes_of k) vs (omega (arith, rule.nodes.one k, slot_is z.nodes k low live.0, unlinked))) live.1 here
            ]
      ]

  -- each entry of a live node's bundles is one of the table
  pub entry_there : (k e : ℕ) → IsLive z vs k → 0 < count e (entries_of g.bundles k) → e ≤ z.entries
  entry_there k e live here = slot_high z.entries e (omega (arith, rule.entries.one e, placed))
    where
      linked_placed : 0 < count k (0 ∷ slots_of g.tree) → 0 < sum_by (own entries_in e) vs + linked_in g.bundles e (0 ∷ slots_of g.tree)
      linked_placed linked = omega (arith, linked-at g.bundles k e (0 ∷ slots_of g.tree) linked, here)

      owned_placed : Term (own nodes_of k) vs → 0 < sum_by (own entries_in e) vs + linked_in g.bundles e (0 ∷ slots_of g.tree)
      owned_placed term =
          let u : View = term.item in
          let keeps = at_item (λ (x : View). KeepsEntries (entries_of g.bundles) x.retired × KeepsEntries (entries_of g.bundles) x.batch) vs term.place u term.at rule.retired in
          let total = one_term (own entries_in e) vs term.place u term.at in
          elim (cases_lt 0 (count k u.retired.nodes)) as (λ _. 0 < sum_by (own entries_in e) vs + linked_in g.bundles e (0 ∷ slots_of g.tree)) [
            | inl retired ↦ omega (arith, total, keeps.0 k e retired here)
            | inr other ↦ omega (arith, total, keeps.1 k e (omega (arith, term.some, one_term (own_free nodes_of k) vs term.place u term.at, live.1, other)) here)
          ]

      placed : 0 < sum_by (own entries_in e) vs + linked_in g.bundles e (0 ∷ slots_of g.tree)
      placed =
          elim (eqb_tells 0 k) as (λ _. 0 < sum_by (own entries_in e) vs + linked_in g.bundles e (0 ∷ slots_of g.tree)) [
            | inl root ↦ linked_placed (subst (λ x. 0 < count x (0 ∷ slots_of g.tree)) root.1 (omega arith))
            | inr slot ↦
                let low : 0 < k = let apart : 0 ≡ k → ⊥ = slot.1 in omega (arith, apart) in
                elim (cases_lt 0 (count k (slots_of g.tree))) as (λ _. 0 < sum_by (own entries_in e) vs + linked_in g.bundles e (0 ∷ slots_of g.tree)) [
                  | inl linked ↦ linked_placed (omega (arith, linked))
                  | inr unlinked ↦ owned_placed (term_of (own nodes_of k) vs (omega (arith, rule.nodes.one k, slot_is z.nodes k low live.0, unlinked)))
                ]
          ]

  -- what a seat holds is live
  pub held_live : (j k : ℕ) (u : View) → IsItem vs j u → HoldsNode u k → k ≤ z.nodes → IsLive z vs k
  held_live j k u of holds high = (high, at_item (λ (x : View). (n : ℕ) → HoldsNode x n → sum_by (own_free nodes_of n) vs ≡ 0) vs j u of rule.nodes.unheld k holds)

  -- a free node is not live
  pub free_not_live : (i k : ℕ) (v : View) → IsItem vs i v → 0 < count k v.free.nodes → IsLive z vs k → ⊥
  free_not_live i k v at some live = omega (arith, live.1, one_term (own_free nodes_of k) vs i v at, some)

  pub root_live : IsLive z vs 0
  root_live = (omega arith, omega (arith, sum_by-le-sum_by (own_free nodes_of 0) (own nodes_of 0) vs (λ v. omega arith), rule.nodes.one 0))

  pub reachable_live : (j k : ℕ) (u : View) → IsItem vs j u → IsReachable z u k → IsLive z vs k
  reachable_live j k u of reach =
      elim reach.1 as (λ _. IsLive z vs k) [
        | inl root ↦ subst (IsLive z vs) (sym root) root_live
        | inr holds ↦ held_live j k u of holds reach.0
      ]

-- The head of a bundle of a live node is 0 or an entry of the bundle, and so no free entry.

-- the head of a chain is 0, or its first entry
pub chain_head : (next : ℕ → ℕ) (head : ℕ) (es : List ℕ) → IsChain next head es → (head ≡ 0) ⊎ (0 < count head es)
chain_head next head [] chain = inl chain
chain_head next head (e ∷ es) chain = inr (subst (λ h. 0 < count h (e ∷ es)) (sym chain.0) (one_counted e (count e es)))

module _ (z : Layout) (m : Memory) (vs : List View) (g : Meaning) (rule : Rule z m vs g) where
  -- a free entry is not the head of a live node, and not 0
  pub head_apart : (i e k : ℕ) (v : View) (side : Side) → IsItem vs i v → 0 < count e v.free.entries → IsLive z vs k → m (Node (Head side) k) ≡ e → ⊥
  head_apart i e k v side at free live is =
      elim (chain_head (λ d. m (Entry Next d)) (m (Node (Head side) k)) (g.bundles.bundle side k) (rule.bundles k live side).chain) as (λ _. ⊥) [
        | inl none ↦ omega (arith, free_entry_some z vs g rule.slots i e v at free, is, none)
        | inr some ↦ not_in_bundle z vs g rule.slots i k e v at free live (in_entries g.bundles k e side (subst (λ d. 0 < count d (g.bundles.bundle side k)) is some))
      ]

-- An entry of a linked node stands in no other bundle of a live node.

-- an entry in the bundles of two nodes is linked twice
linked-two : (b : Bundles) (k j e : ℕ) (ks : List ℕ) → (k ≡ j → ⊥) → 0 < count k ks → 0 < count j ks
    → count e (entries_of b k) + count e (entries_of b j) ≤ linked_in b e ks
linked-two b k j e [] apart some other = absurd (omega (arith, some))
linked-two b k j e (x ∷ ks) apart some other =
    elim (eqb_tells x k) as (λ _. count e (entries_of b k) + count e (entries_of b j) ≤ linked_in b e (x ∷ ks)) [
      | inl at_k ↦
          let rest : count e (entries_of b j) ≤ linked_in b e ks = linked-at b j e ks (behind x j ks (λ is. apart (sym at_k.1 ∙ is)) other) in
          let here : count e (entries_of b x) ≡ count e (entries_of b k) = ap (λ n. count e (entries_of b n)) at_k.1 in
          omega (arith, rest, here)
      | inr not_k ↦ elim (eqb_tells x j) as (λ _. count e (entries_of b k) + count e (entries_of b j) ≤ linked_in b e (x ∷ ks)) [
        | inl at_j ↦
            let rest : count e (entries_of b k) ≤ linked_in b e ks = linked-at b k e ks (behind x k ks not_k.1 some) in
            let here : count e (entries_of b x) ≡ count e (entries_of b j) = ap (λ n. count e (entries_of b n)) at_j.1 in
            omega (arith, rest, here)
        | inr not_j ↦ omega (arith, linked-two b k j e ks apart (behind x k ks not_k.1 some) (behind x j ks not_j.1 other))
      ]
    ]
  where
    behind : (x k : ℕ) (ks : List ℕ) → (x ≡ k → ⊥) → 0 < count k (x ∷ ks) → 0 < count k ks
    behind x k ks other some = grind (arith, nat_tests)

-- an entry of a node stands on its two sides as often as it is an entry of the node
both_sides : (b : Bundles) (s side : Side) (k e : ℕ) → (s ≡ side → ⊥) → count e (b.bundle s k) + count e (b.bundle side k) ≡ count e (entries_of b k)
both_sides b Left Right k e other = sym (count-append e (b.bundle Left k) (b.bundle Right k))
both_sides b Right Left k e other = omega (arith, count-append e (b.bundle Left k) (b.bundle Right k))
both_sides b _ _ k e other = absurd (other refl)

module _ (z : Layout) (vs : List View) (g : Meaning) (rule : SlotRule z (linked_by g) HoldsNode (HoldsEntry g.bundles) vs) where
  -- a slot that some view owns has no entry that is linked
  owned_apart : (j e : ℕ) → Term (own nodes_of j) vs → IsLive z vs j → 0 < count e (entries_of g.bundles j) → 0 < linked_in g.bundles e (0 ∷ slots_of g.tree) → ⊥
  owned_apart j e term live here linked =
      let u : View = term.item in
      let keeps = at_item (λ (x : View). KeepsEntries (entries_of g.bundles) x.retired × KeepsEntries (entries_of g.bundles) x.batch) vs term.place u term.at rule.retired in
      let total = one_term (own entries_in e) vs term.place u term.at in
      elim (cases_lt 0 (count j u.retired.nodes)) as (λ _. ⊥) [
        | inl retired ↦ omega (arith, once_entry z vs g rule e, total, linked, keeps.0 j e retired here)
        | inr other ↦ omega (arith, once_entry z vs g rule e, total, linked, keeps.1 j e (omega (arith, term.some, one_term (own_free nodes_of j) vs term.place u term.at, live.1, other)) here)
      ]

  -- an entry of a linked node's bundle stands in no other bundle of a live node
  pub in_one_bundle : (k e : ℕ) (side : Side) → 0 < count k (0 ∷ slots_of g.tree) → 0 < count e (g.bundles.bundle side k)
      → (j : ℕ) (s : Side) → IsLive z vs j → (s ≡ side → j ≡ k → ⊥) → 0 < count e (g.bundles.bundle s j) → ⊥
  in_one_bundle k e side linked member j s live other here =
      let total = linked-at g.bundles k e (0 ∷ slots_of g.tree) linked in
      let within = in_entries g.bundles k e side member in
      let also = in_entries g.bundles j e s here in
      elim (eqb_tells j k) as (λ _. ⊥) [
        | inl same ↦
            let here' : 0 < count e (g.bundles.bundle s k) = subst (λ n. 0 < count e (g.bundles.bundle s n)) same.1 here in
            omega (arith, once_entry z vs g rule e, total, member, here', both_sides g.bundles s side k e (λ is. other is same.1))
        | inr apart ↦ elim (cases_lt 0 (count j (0 ∷ slots_of g.tree))) as (λ _. ⊥) [
          | inl too ↦ omega (arith, once_entry z vs g rule e, linked-two g.bundles k j e (0 ∷ slots_of g.tree) (λ is. apart.1 (sym is)) linked too, within, also)
          | inr unlinked ↦ elim (eqb_tells 0 j) as (λ _. ⊥) [
            | inl root ↦ first j root.1 unlinked
            | inr slot ↦
                let low : 0 < j = let not_root : 0 ≡ j → ⊥ = slot.1 in omega (arith, not_root) in
                owned_apart j e (term_of (own nodes_of j) vs (omega (arith, rule.nodes.one j, slot_is z.nodes j low live.0, unlinked))) live also (omega (arith, total, within))
          ]
        ]
      ]
    where
      first : (j : ℕ) → 0 ≡ j → count j (0 ∷ slots_of g.tree) ≤ 0 → ⊥
      first j same none = grind (arith, nat_tests)
