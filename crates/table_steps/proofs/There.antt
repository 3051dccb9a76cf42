-- What the slots and the locked nodes of a live view are: slots of its table, each once, and no more than there are.
use Rattle.std.proofs.Common.{◌≡◌, ℕ, zero, suc, ◌+◌, ◌<◌, ◌≤◌, List, [], ◌∷◌, ◌++◌, length, cond, not, Bool, true, false, eqb, arith, refl, subst, inl, inr}
use Rattle.std.proofs.lemmas.Bool.{cases_lt}
use Rattle.std.proofs.lemmas.Bool.Decides.{nat_tests, eqb_tells}
use Rattle.std.proofs.lemmas.List.{length-append}
use Rattle.index_words.specs.declared.layout.Layout.{Layout}
use Rattle.index_words.specs.declared.view.View.{View}
use Rattle.index_words.specs.declared.view.slots.Slots.{Slots}
use Rattle.index_words.specs.declared.word.Field.TheVariants.{Head}
use Rattle.index_words.specs.declared.word.Part.TheVariants.{Stamp as Number, Next}
use Rattle.index_words.specs.declared.word.Word.TheVariants.{Node, Entry}
use Rattle.index_words.specs.Words.{Memory, memory}
use Rattle.index_words.proofs.Seats.{at_item, one_term}
use Rattle.key_map.specs.Lists.{count, IsItem}
use Rattle.key_map.proofs.Counting.{count-append, count-has}
use Rattle.core_grace.specs.Slots.{own, nodes_of, entries_in, is_slot}
use Rattle.core_events.specs.Searches.{search_nodes}
use Rattle.core_events.specs.UpdateMoves.{without}
use Rattle.core_invariant.specs.BundleRule.{IsPending}
use Rattle.core_invariant.specs.Meanings.{Meaning}
use Rattle.core_invariant.specs.Reached.{plain_graph, ReachesRight}
use Rattle.core_invariant.specs.Readers.{IsLocked}
use Rattle.core_invariant.specs.SeatRule.{SeatRight}
use Rattle.core_invariant.proofs.Frames.{every_at, one_counted}
use Rattle.core_invariant.proofs.Locked.{work_holds, searched}
use Rattle.core_invariant.proofs.Owned.{chain_head, entry_there, free_entry_some, held_live, in_entries, once_node, once_entry, slot_high}
use Rattle.core_invariant.proofs.OneView.{seat_at}
use Rattle.core_invariant.proofs.Passing.{count-without_same, count-without-le}
use Rattle.core_laws.specs.ViewNeeds.{IsInside, IsSearched}
use Rattle.table_rule.specs.Homes.{IsLiveView}
use Rattle.table_rule.specs.Running.{Stands}
use Rattle.table_rule.proofs.Lists.{item_at}

length-without : (e : ℕ) (xs : List ℕ) → length (without e xs) + count e xs ≡ length xs
length-without e [] = refl
length-without e (x ∷ xs) = step (eqb x e) (length-without e xs)
  where
    step : (b : Bool) → length (without e xs) + count e xs ≡ length xs → length (cond (not b) (x ∷ without e xs) (without e xs)) + (cond b 1 0 + count e xs) ≡ suc (length xs)
    step true same = omega (arith, same)
    step false same = omega (arith, same)

-- numbers up to a size, each at most once, are at most so many
few_numbers : (size : ℕ) (xs : List ℕ) → ((d : ℕ) → 0 < count d xs → (0 < d) × (d ≤ size)) → ((d : ℕ) → count d xs ≤ 1) → length xs ≤ size
few_numbers size [] low once = omega arith
few_numbers zero (x ∷ xs) low once = let there = low x (one_counted x (count x xs)) in absurd (omega (arith, there.0, there.1))
few_numbers (suc n) (x ∷ xs) low once =
    let all : List ℕ = x ∷ xs in
    let rest : List ℕ = without (suc n) all in
    let few : length rest ≤ n = few_numbers n rest
    (λ d some. let there = low d (omega (arith, some, count-without-le d (suc n) all)) in (there.0, below d some there.1))
    (λ d. omega (arith, once d, count-without-le d (suc n) all)) in
    omega (arith, few, once (suc n), length-without (suc n) all)
  where
    below : (d : ℕ) → 0 < count d (without (suc n) (x ∷ xs)) → d ≤ suc n → d ≤ n
    below d some high =
        elim (eqb_tells d (suc n)) as (λ _. d ≤ n) [
          | inl same ↦ absurd (omega (arith, subst (λ y. 0 < count y (without (suc n) (x ∷ xs))) same.1 some, count-without_same (suc n) (x ∷ xs)))
          | inr other ↦ let apart : d ≡ suc n → ⊥ = other.1 in omega (arith, high, apart)
        ]

slot_some : (size k : ℕ) → 0 < is_slot size k → 0 < k
slot_some size k some = grind (arith, nat_tests)

-- the slots of one kind that a view owns
abbrev own_list : (Slots → List ℕ) → View → List ℕ
own_list pick v = pick v.free ++ (pick v.retired ++ pick v.batch)

own_counted : (pick : Slots → List ℕ) (v : View) (k : ℕ) → count k (own_list pick v) ≡ own pick k v
own_counted pick v k = omega (arith, count-append k (pick v.free) (pick v.retired ++ pick v.batch), count-append k (pick v.retired) (pick v.batch))

own_few : (pick : Slots → List ℕ) (v : View) (size : ℕ) → ((k : ℕ) → own pick k v ≤ is_slot size k) → length (pick v.free) + length (pick v.batch) + length (pick v.retired) ≤ size
own_few pick v size one =
    let few : length (own_list pick v) ≤ size = few_numbers size (own_list pick v)
    (λ k some. let is : 0 < is_slot size k = omega (arith, some, own_counted pick v k, one k) in (slot_some size k is, slot_high size k is))
    (λ k. once k (omega (arith, own_counted pick v k, one k))) in
    omega (arith, few, length-append (pick v.free) (pick v.retired ++ pick v.batch), length-append (pick v.retired) (pick v.batch))
  where
    slot_once : (k : ℕ) → is_slot size k ≤ 1
    slot_once k = grind (arith, nat_tests)

    once : (k : ℕ) → count k (own_list pick v) ≤ is_slot size k → count k (own_list pick v) ≤ 1
    once k le = omega (arith, le, slot_once k)

module _ (v : View) (live : IsLiveView v) where
  abbrev z : Layout
  z = v.layout

  abbrev stands : Stands z v
  stands = live.stands

  abbrev m : Memory
  m = memory z stands.words

  abbrev g : Meaning
  g = stands.rule.meaning

  at : IsItem stands.views stands.seat v
  at = item_at stands.views stands.seat v stands.at

  seat : SeatRight z m g v
  seat = seat_at z m stands.views g stands.seat v at stands.rule.rule

  reach : ReachesRight z (plain_graph m) stands.views v
  reach = at_item (ReachesRight z (plain_graph m) stands.views) stands.views stands.seat v at stands.rule.reach

  -- a node at which its search stands, has turned, or found a link
  pub searched_high : IsInside v → (k : ℕ) → IsSearched v k → k ≤ z.nodes
  searched_high inside k (inl root) = omega (arith, root)
  searched_high inside k (inr here) =
      elim (cases_lt 0 k) as (λ _. k ≤ z.nodes) [
        | inl some ↦ reach.there k (searched z m stands.views g stands.rule.rule stands.seat v at (plain_graph m) reach inside k some (count-has k (search_nodes 0 v.reading) here))
        | inr root ↦ omega (arith, root)
      ]

  pub locked_high : (k : ℕ) → IsLocked v k → k ≤ z.nodes
  locked_high k locked = (seat.locks k locked).0

  pub free_entry_there : (e : ℕ) → 0 < count e v.free.entries → (0 < e) × (e ≤ z.entries)
  free_entry_there e some = (
    free_entry_some z stands.views g stands.rule.rule.slots stands.seat e v at some,
    slot_high z.entries e (omega (arith, stands.rule.rule.slots.entries.one e, one_term (own entries_in e) stands.views stands.seat v at, some)),
  )

  pub free_entry_once : (e : ℕ) → 0 < count e v.free.entries → count e v.free.entries ≡ 1
  free_entry_once e some = omega (arith, some, once_entry z stands.views g stands.rule.rule.slots e, one_term (own entries_in e) stands.views stands.seat v at)

  pub free_node_once : (k : ℕ) → 0 < count k v.free.nodes → count k v.free.nodes ≡ 1
  free_node_once k some = omega (arith, some, once_node z stands.views g stands.rule.rule.slots k, one_term (own nodes_of k) stands.views stands.seat v at)

  pub pending_there : (e : ℕ) → 0 < count e v.update.pending → (0 < e) × (e ≤ z.entries)
  pending_there e some =
      let rule = stands.rule.rule in
      let head = (every_at (IsPending z (λ s k. m (Node (Head s) k)) (λ d. m (Entry Number d)) g.bundles.number v) e v.update.pending seat.pending some).2 in
      let live = held_live z stands.views g rule.slots stands.seat head.node v at (work_holds v head.node head.of) head.there in (
        head.some,
        elim (chain_head (λ d. m (Entry Next d)) (m (Node (Head head.side) head.node)) (g.bundles.bundle head.side head.node) (rule.bundles head.node live head.side).chain) as (λ _. e ≤ z.entries) [
          | inl none ↦ absurd (omega (arith, none, head.is, head.some))
          | inr here ↦ entry_there z stands.views g rule.slots head.node e live (in_entries g.bundles head.node e head.side (subst (λ d. 0 < count d (g.bundles.bundle head.side head.node)) head.is here))
        ],
      )

  -- no more slots than there are
  pub nodes_few : length v.free.nodes + length v.batch.nodes + length v.retired.nodes ≤ z.nodes
  nodes_few = own_few nodes_of v z.nodes (λ k. omega (arith, stands.rule.rule.slots.nodes.one k, one_term (own nodes_of k) stands.views stands.seat v at))

  pub entries_few : length v.free.entries + length v.batch.entries + length v.retired.entries ≤ z.entries
  entries_few = own_few entries_in v z.entries (λ e. omega (arith, stands.rule.rule.slots.entries.one e, one_term (own entries_in e) stands.views stands.seat v at))
