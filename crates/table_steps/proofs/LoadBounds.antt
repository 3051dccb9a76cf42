-- How high the words are that a load finds: heads, nexts, the child of a selected entry, and the mark of a locked node.
use Rattle.std.proofs.Common.{◌≡◌, ℕ, suc, ◌+◌, ◌<◌, ◌≤◌, ◌⊎◌, cond, List, [], ◌∷◌, Bool, true, false, eqb, arith, refl, ap, ◌∙◌, sym, subst, inl, inr, Option, Some, None, is_some}
use Rattle.std.specs.List.{sum_by}
use Rattle.std.proofs.lemmas.Bool.{cases_lt}
use Rattle.std.proofs.lemmas.Bool.Decides.{nat_tests, eqb_tells}
use Rattle.index_words.specs.declared.side.Side.{Side}
use Rattle.index_words.specs.declared.side.Side.TheVariants.{Left, Right}
use Rattle.index_words.specs.declared.view.View.{View}
use Rattle.index_words.specs.declared.view.reading.Place.TheVariants.{Entry as AtEntry}
use Rattle.index_words.specs.declared.view.reading.TreeNode.{TreeNode}
use Rattle.index_words.specs.declared.word.Field.TheVariants.{Lock, Mark, Head}
use Rattle.index_words.specs.declared.word.Part.TheVariants.{Child, Stamp as Number, Next}
use Rattle.index_words.specs.declared.word.Word.TheVariants.{Node, Entry}
use Rattle.index_words.specs.Words.{Memory}
use Rattle.index_words.proofs.Seats.{one_term, two_terms}
use Rattle.key_map.specs.Lists.{count, IsItem}
use Rattle.key_map.proofs.Counting.{count-append}
use Rattle.core_grace.specs.Holds.{tree_slots}
use Rattle.core_grace.specs.Slots.{nodes_of, own, own_free}
use Rattle.core_links.specs.Bundle.{IsChain}
use Rattle.core_events.specs.LoadMoves.{is_above_at}
use Rattle.core_events.specs.Tables.{Table, held_by}
use Rattle.core_events.specs.Versions.{slots_of}
use Rattle.core_invariant.specs.BundleRule.{IsLive}
use Rattle.core_invariant.specs.Locks.{lock_count}
use Rattle.core_invariant.specs.Meanings.{Meaning}
use Rattle.core_invariant.specs.Readers.{IsLocked, IsWatched, IsPassed, StandsAt, PlaceRight}
use Rattle.core_invariant.specs.Rule.{Rule, IsRight}
use Rattle.core_invariant.specs.SeatRule.{SeatRight}
use Rattle.core_invariant.proofs.AtEntries.{chain_behind}
use Rattle.core_invariant.proofs.Frames.{Term, term_of, same_item}
use Rattle.core_invariant.proofs.Owned.{chain_head, entry_there, in_entries, reachable_live, slot_is}
use Rattle.core_invariant.proofs.Needed.{reach_is}
use Rattle.core_invariant.proofs.OneView.{seat_at}
use Rattle.core_laws.specs.Found.{child_on, LeadsTo, ReadsTree}
use Rattle.core_laws.specs.ViewNeeds.{IsInReach, IsAtEntry, MayReadNext}
use Rattle.core_laws.proofs.Found.{read_law}
use Rattle.core_laws.proofs.ViewTests.{reaches}
use Rattle.table_steps.specs.Loads.{IsAtSelected}

-- a node that is counted among those of a tree stands in the list
pub record NodeOf (nodes : List TreeNode) (slot : ℕ) : Type 0 where
  pub place : ℕ
  pub node : TreeNode
  pub item : IsItem nodes place node
  pub is : node.slot ≡ slot

node_of : (nodes : List TreeNode) (slot : ℕ) → 0 < count slot (tree_slots nodes) → NodeOf nodes slot
node_of [] slot some = absurd (omega (arith, some))
node_of (n ∷ ns) slot some =
    elim (eqb_tells n.slot slot) as (λ _. NodeOf (n ∷ ns) slot) [
      | inl same ↦ record { place = 0; node = n; item = record { within = omega arith; is = λ d. refl }; is = same.1 }
      | inr other ↦
          let rest : NodeOf ns slot = node_of ns slot (behind n.slot slot (count slot (tree_slots ns)) other.1 some) in
          record { place = suc rest.place; node = rest.node; item = record { within = omega (arith, rest.item.within); is = λ d. rest.item.is d }; is = rest.is }
    ]
  where
    behind : (e d n : ℕ) → (e ≡ d → ⊥) → 0 < cond (eqb e d) 1 0 + n → 0 < n
    behind e d n apart some = grind (arith, nat_tests)

-- a seat that knows an entry to be above its section number has one
has_section : (o f : Option ℕ) (unnumbered : Bool) → is_above_at o f unnumbered ≡ true → is_some o ≡ true
has_section None f unnumbered is = cc
has_section (Some t) f unnumbered is = refl

pub may_watch : (v : View) (e : ℕ) → (may : MayReadNext v e) → IsWatched v may.at.node
may_watch v e may =
    elim may.on as (λ _. IsWatched v may.at.node) [
      | inl locked ↦ inl locked
      | inr above ↦ inr (has_section v.reading.section may.at.found _ above)
    ]

low_by : (n : ℕ) → n ≡ 0 → n ≤ 1
low_by n is = omega (arith, is)

module _ (t : Table) (right : IsRight t) (i : ℕ) (v : View) (at : IsItem t.views i v) where
  abbrev m : Memory
  m = held_by t

  abbrev g : Meaning
  g = right.meaning

  rule : Rule t.layout m t.views g
  rule = right.rule

  seat : SeatRight t.layout m g v
  seat = seat_at t.layout m t.views g i v at rule

  pub reach_high : (k : ℕ) → IsInReach v k → k ≤ t.layout.nodes
  reach_high k (inl root) = omega (arith, root)
  reach_high k (inr (inl tree)) = seat.version.there k tree
  reach_high k (inr (inr locked)) = (seat.locks k locked).0

  in_table : (k : ℕ) (side : Side) (d : ℕ) → IsLive t.layout t.views k → (d ≡ 0) ⊎ (0 < count d (g.bundles.bundle side k)) → d ≤ t.layout.entries
  in_table k side d live (inl none) = omega (arith, none)
  in_table k side d live (inr here) = entry_there t.layout t.views g rule.slots k d live (in_entries g.bundles k d side here)

  -- the head of a bundle of a reachable node
  pub head_low : (node : ℕ) (side : Side) → IsInReach v node → m (Node (Head side) node) ≤ t.layout.entries
  head_low node side reach =
      let live = reachable_live t.layout t.views g rule.slots i node v at (reach_is t.layout v node (reach_high node reach) (reaches v node reach)) in
      let bundle = rule.bundles node live side in
      in_table node side (m (Node (Head side) node)) live (chain_head (λ d. m (Entry Next d)) (m (Node (Head side) node)) (g.bundles.bundle side node) bundle.chain)

  -- the next of the entry at which the seat stands, in a bundle that stays for the seat
  pub next_low : (e : ℕ) (here : IsAtEntry v e) → IsWatched v here.node → m (Entry Next e) ≤ t.layout.entries
  next_low e here watched =
      let next : ℕ → ℕ = λ d. m (Entry Next d) in
      let stamp : ℕ → ℕ = λ d. m (Entry Number d) in
      let node : ℕ = here.node in
      let side : Side = here.side in
      let es : List ℕ = g.bundles.bundle side node in
      let place : PlaceRight t.layout stamp g.bundles v (AtEntry node side e here.found) = subst (PlaceRight t.layout stamp g.bundles v) here.place seat.place in
      let live : IsLive t.layout t.views node = reachable_live t.layout t.views g rule.slots i node v at place.reach in
      let bundle = rule.bundles node live side in
      let stands : StandsAt stamp es e here.found v.reading.above (IsPassed g.bundles.number v node) = place.stands here.some watched in
      let chain = subst (IsChain next (m (Node (Head side) node))) stands.splits bundle.chain in
      let behind = chain_head next (next e) stands.back (chain_behind next (m (Node (Head side) node)) e stands.front stands.back chain) in
      in_table node side (next e) live (elim behind as (λ _. (next e ≡ 0) ⊎ (0 < count (next e) es)) [
        | inl none ↦ inl none
        | inr more ↦ inr (subst (λ xs. 0 < count (next e) xs) (sym stands.splits) (omega (arith, count-append (next e) stands.front (e ∷ stands.back), more)))
      ])

  -- the child of the selected entry of a link of the tree that the seat reads
  pub child_low : (e : ℕ) → IsAtSelected v e → m (Entry Child e) ≤ t.layout.nodes
  child_low e is =
      let n : ℕ = is.section in
      let node : ℕ = is.at.node in
      let side : Side = is.at.side in
      let c : ℕ = m (Entry Child e) in
      let reads : ReadsTree t v n = read_law t i v n right at is.reads in
      let place = is.at.place ∙ ap (AtEntry node side e) is.found in
      let leads : LeadsTo reads.tree node side c = (reads.children node side e is.number place is.at.some is.written is.past is.unlocked).child in
      elim is.link as (λ _. c ≤ t.layout.nodes) [
        | inl root ↦ let top = leads.top root.0 root.1 in omega (arith, top, reads.top)
        | inr some ↦
            let of : NodeOf v.reading.tree node = node_of v.reading.tree node some in
            let pair = reads.pairs of.place of.node of.item in
            by_side c t.layout.nodes of.node side (leads.below of.place of.node (subst (λ ns. IsItem ns of.place of.node) reads.nodes of.item) of.is) pair.left pair.right
      ]
    where
      by_side : (c high : ℕ) (n : TreeNode) (side : Side) → c ≡ child_on side n → n.left ≤ high → n.right ≤ high → c ≤ high
      by_side c high n Left same left right = omega (arith, same, left)
      by_side c high n Right same left right = omega (arith, same, right)

  -- the mark of a node that the seat has locked, and that its update did not take out
  pub mark_low : (k : ℕ) → IsLocked v k → count k v.update.taken ≡ 0 → m (Node Mark k) ≤ 1
  mark_low k locked kept =
      elim (cases_lt 0 k) as (λ _. m (Node Mark k) ≤ 1) [
        | inr none ↦ let zero_k : 0 ≡ k = omega (arith, none) in subst (λ x. m (Node Mark x) ≤ 1) zero_k (low_by (m (Node Mark 0)) rule.marks.root)
        | inl some ↦
            elim (cases_lt 0 (count k (slots_of g.tree))) as (λ _. m (Node Mark k) ≤ 1) [
              | inl linked ↦ low_by (m (Node Mark k)) (rule.marks.nodes k linked)
              | inr unlinked ↦ out_low (term_of (own nodes_of k) t.views (omega (arith, rule.slots.nodes.one k, slot_is t.layout.nodes k some (seat.locks k locked).0, unlinked)))
            ]
      ]
    where
      live : IsLive t.layout t.views k
      live = reachable_live t.layout t.views g rule.slots i k v at (reach_is t.layout v k (seat.locks k locked).0 (reaches v k (inr (inr locked))))

      one_lock : sum_by (lock_count k) t.views ≤ 1
      one_lock = few (eqb (m (Node Lock k)) 0) (rule.locks k)
        where
          few : (b : Bool) → sum_by (lock_count k) t.views ≡ cond b 0 1 → sum_by (lock_count k) t.views ≤ 1
          few true is = omega (arith, is)
          few false is = omega (arith, is)

      -- another seat that took the node out would have it locked too
      no_other : (j : ℕ) (u : View) → IsItem t.views j u → 0 < count k u.update.taken → 0 < lock_count k u → ⊥
      no_other j u of taken held =
          elim (eqb_tells j i) as (λ _. ⊥) [
            | inl same ↦ omega (arith, kept, subst (λ (x : View). 0 < count k x.update.taken) (sym (same_item t.views i j v u at of same.1)) taken)
            | inr other ↦ omega (arith, one_lock, two_terms (lock_count k) t.views i v u at (record { place = j; at = of; other = other.1 }), locked, held)
          ]

      out_low : Term (own nodes_of k) t.views → m (Node Mark k) ≤ 1
      out_low term =
          let u : View = term.item in
          let there = seat_at t.layout m t.views g term.place u term.at rule in
          elim (cases_lt 0 (count k u.retired.nodes)) as (λ _. m (Node Mark k) ≤ 1) [
            | inl retired ↦
                elim (there.marks.retired k retired) as (λ _. m (Node Mark k) ≤ 1) [
                  | inl marked ↦ omega (arith, marked)
                  | inr out ↦ absurd (no_other term.place u term.at out.1 out.2)
                ]
            | inr other ↦
                let marked : m (Node Mark k) ≡ 1 = there.marks.batch k (omega (arith, term.some, one_term (own_free nodes_of k) t.views term.place u term.at, live.1, other)) in
                omega (arith, marked)
          ]
