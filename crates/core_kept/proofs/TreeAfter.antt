-- What the tests of a new node say, and the children, the selections and the bundles after a raise.
use Rattle.std.proofs.Common.{◌≡◌, ℕ, ◌+◌, ◌<◌, ◌≤◌, ◌⊎◌, cond, List, [], ◌∷◌, ◌++◌, Bool, true, false, not, eqb, arith, refl, ap, ◌∙◌, sym, subst, inl, inr, ◌&&◌, ◌||◌, Option, Some, None}
use Rattle.std.specs.List.{list_all}
use Rattle.std.proofs.lemmas.Bool.{eqb-true, and_parts, or_right, cases_lt}
use Rattle.std.proofs.lemmas.Bool.Decides.{nat_tests}
use Rattle.index_words.specs.declared.layout.Layout.{Layout}
use Rattle.index_words.specs.declared.side.Side.{Side}
use Rattle.index_words.specs.declared.side.Side.TheVariants.{Left, Right}
use Rattle.index_words.specs.declared.view.View.{View}
use Rattle.index_words.specs.declared.word.Field.TheVariants.{Key, Val, Mark, Head}
use Rattle.index_words.specs.declared.word.Part.TheVariants.{Child, Stamp as Number, Next}
use Rattle.index_words.specs.declared.word.Word.TheVariants.{Stamp, Node, Entry}
use Rattle.index_words.specs.Words.{Memory}
use Rattle.key_map.specs.Lists.{count, has, IsItem}
use Rattle.key_map.proofs.Counting.{count-append, has-count, count-has}
use Rattle.index_words.proofs.Seats.{one_term}
use Rattle.core_grace.specs.Holds.{Bundles, linked_in, listed}
use Rattle.core_links.specs.Bundle.{no_number, select, child_of_entry}
use Rattle.core_links.proofs.Chains.{select-here}
use Rattle.core_trees.specs.NamedTree.{NamedTree}
use Rattle.core_trees.specs.Slots.{occurs}
use Rattle.core_trees.specs.SpelledAt.{IsSpelledAt, graph_at}
use Rattle.core_trees.specs.SpelledTree.{Graph, IsSpelled, spells}
use Rattle.core_trees.proofs.SpelledTree.{spelled-frame}
use Rattle.core_events.specs.Numbered.{shown}
use Rattle.core_invariant.specs.Meanings.{Meaning}
use Rattle.core_invariant.specs.Histories.{calls_left}
use Rattle.core_invariant.specs.BundleRule.{IsLive, IsPending}
use Rattle.core_events.specs.UpdateMoves.{listed_entry}
use Rattle.core_invariant.specs.MeaningMoves.{raised_numbers, with_added}
use Rattle.core_events.specs.SpelledNow.{has_number, was_raised, newest, child_now, graph_now, entries_from}
use Rattle.core_events.specs.TreeMoves.{new_entries, node_entries, is_fresh, is_new}
use Rattle.core_events.specs.Versions.{IsNullAtBoth}
use Rattle.core_invariant.specs.Rule.{Rule}
use Rattle.core_invariant.proofs.Frames.{every_at, one_counted}
use Rattle.core_invariant.proofs.BundleFrames.{select_frame}
use Rattle.core_invariant.proofs.Owned.{chain_head, free_node_alone, not_in_bundle, in_entries}
use Rattle.core_invariant.proofs.OneView.{seat_at}
use Rattle.core_invariant.proofs.TreeNow.{count_slots, stamp_low, numbered_or_none, number_tells, tail_low, entries_are, root_lives, node_lives}
use Rattle.core_invariant.proofs.TreeReads.{newest_is, newest_none, newest_some}
use Rattle.core_trees.proofs.SpelledTests.{spells_is}
use Rattle.core_invariant.proofs.TreeSteps.{tested_at, once_listed, in_listed, listed_is, raised_tells, raised_tail}

-- the tests of a new node
module _ (m : Memory) (v : View) (a : ℕ) (new : is_new m v (Some a) ≡ true) where
  abbrev fresh_entries : Bool
  fresh_entries = list_all (is_fresh m v) (new_entries m (Some a))

  abbrev heads_apart : Bool
  heads_apart = eqb (m (Node (Head Left) a)) 0 || not (eqb (m (Node (Head Left) a)) (m (Node (Head Right) a)))

  new_parts : (has a v.free.nodes ≡ true) × (eqb (m (Node Mark a)) 0 ≡ true) × (fresh_entries ≡ true) × (heads_apart ≡ true)
  new_parts =
      let three = and_parts (has a v.free.nodes && eqb (m (Node Mark a)) 0 && fresh_entries) heads_apart new in
      let two = and_parts (has a v.free.nodes && eqb (m (Node Mark a)) 0) fresh_entries three.0 in
      let one = and_parts (has a v.free.nodes) (eqb (m (Node Mark a)) 0) two.0 in
      (one.0, one.1, two.1, three.1)

  node_new : (0 < count a v.free.nodes) × (m (Node Mark a) ≡ 0)
  node_new = (has-count a v.free.nodes new_parts.0, eqb-true (m (Node Mark a)) 0 new_parts.1)

  entry_new : (e : ℕ) → 0 < count e (new_entries m (Some a)) → (0 < count e v.free.entries) × (m (Entry Number e) ≡ 0) × (m (Entry Next e) ≡ 0)
  entry_new e some =
      let two = and_parts (has e v.free.entries && eqb (m (Entry Number e)) 0) (eqb (m (Entry Next e)) 0)
      (tested_at (is_fresh m v) (new_entries m (Some a)) e new_parts.2 some) in
      let one = and_parts (has e v.free.entries) (eqb (m (Entry Number e)) 0) two.0 in
      (has-count e v.free.entries one.0, eqb-true (m (Entry Number e)) 0 one.1, eqb-true (m (Entry Next e)) 0 two.1)

  entry_once : (e : ℕ) → count e (new_entries m (Some a)) ≤ 1
  entry_once e = once_listed e (m (Node (Head Left) a)) (m (Node (Head Right) a)) new_parts.3

-- the same, where there is a new node or none
pub added_new : (m : Memory) (v : View) (added : Option ℕ) → is_new m v added ≡ true → (k : ℕ) → 0 < count k (listed added)
    → (0 < count k v.free.nodes) × (m (Node Mark k) ≡ 0)
added_new m v None new k some = absurd (omega (arith, some))
added_new m v (Some a) new k some = subst (λ n. (0 < count n v.free.nodes) × (m (Node Mark n) ≡ 0)) (listed_is k a some) (node_new m v a new)

pub entries_new : (m : Memory) (v : View) (added : Option ℕ) → is_new m v added ≡ true → (e : ℕ) → 0 < count e (new_entries m added)
    → (0 < count e v.free.entries) × (m (Entry Number e) ≡ 0) × (m (Entry Next e) ≡ 0)
entries_new m v None new e some = absurd (omega (arith, some))
entries_new m v (Some a) new e some = entry_new m v a new e some

pub entries_once : (m : Memory) (v : View) (added : Option ℕ) → is_new m v added ≡ true → (e : ℕ) → count e (new_entries m added) ≤ 1
entries_once m v None new e = omega arith
entries_once m v (Some a) new e = entry_once m v a new e

-- the head of a new node's link is one of its entries
new_head : (m : Memory) (added : Option ℕ) (k : ℕ) (side : Side) → 0 < count k (listed added) → 0 < m (Node (Head side) k)
    → 0 < count (m (Node (Head side) k)) (new_entries m added)
new_head m None k side there some = absurd (omega (arith, there))
new_head m (Some a) k side there some =
    subst (λ n. 0 < m (Node (Head side) n) → 0 < count (m (Node (Head side) n)) (new_entries m (Some a))) (listed_is k a there) (by side) some
  where
    by : (side : Side) → 0 < m (Node (Head side) a) → 0 < count (m (Node (Head side) a)) (new_entries m (Some a))
    by Left some =
        omega (
          arith,
          in_listed (m (Node (Head Left) a)) some,
          count-append (m (Node (Head Left) a)) (listed_entry (m (Node (Head Left) a))) (listed_entry (m (Node (Head Right) a))),
        )
    by Right some =
        omega (
          arith,
          in_listed (m (Node (Head Right) a)) some,
          count-append (m (Node (Head Right) a)) (listed_entry (m (Node (Head Left) a))) (listed_entry (m (Node (Head Right) a))),
        )

-- the bundle of a new node's link is its head
new_newest : (numbered : ℕ → Bool) (next number : ℕ → ℕ) (s head : ℕ) → (0 < head → (numbered head ≡ true) × (number head ≤ s))
    → newest numbered next head ≡ select number s (listed_entry head)
new_newest numbered next number s head known = by (eqb head 0) refl
  where
    positive : (x : ℕ) → eqb x 0 ≡ false → 0 < x
    positive x is = grind (arith, nat_tests)

    by : (b : Bool) → eqb head 0 ≡ b → newest numbered next head ≡ select number s (cond b [] (head ∷ []))
    by true is = newest_none numbered next head (eqb-true head 0 is)
    by false is =
        let low : 0 < head = positive head is in
        newest_some numbered next head low ∙ ap (λ b. cond b head (next head)) (known low).0 ∙ sym (select-here number s head [] (known low).1)

pub not_listed : (k : ℕ) (xs : List ℕ) → has k xs ≡ false → count k xs ≡ 0
not_listed k xs lacks =
    elim (cases_lt 0 (count k xs)) as (λ _. count k xs ≡ 0) [
      | inl some ↦ absurd (apart (has k xs) (count-has k xs some) lacks)
      | inr none ↦ omega (arith, none)
    ]
  where
    apart : (c : Bool) → c ≡ true → c ≡ false → ⊥
    apart true t f = cc
    apart false t f = cc

not_had : (k : ℕ) (xs : List ℕ) → count k xs ≡ 0 → has k xs ≡ false
not_had k xs none = by (has k xs) refl
  where
    by : (c : Bool) → has k xs ≡ c → c ≡ false
    by true is = absurd (omega (arith, none, has-count k xs is))
    by false is = refl

module _ (z : Layout) (m : Memory) (vs : List View) (g : Meaning) (rule : Rule z m vs g) (i : ℕ) (v : View) (at : IsItem vs i v)
    (quiet : v.update.raised ≡ None) (left : 0 < v.history.left) where
  abbrev s : ℕ
  s = m Stamp

  abbrev head : Side → ℕ → ℕ
  head w k = m (Node (Head w) k)

  abbrev child : ℕ → ℕ
  child e = m (Entry Child e)

  room : s + 1 < no_number
  room = omega (arith, rule.history.calls, rule.history.few, one_term calls_left vs i v at, left)

  -- the entries of the bundles of live nodes
  pub entries_linked : (e : ℕ) (ks : List ℕ) → ((k : ℕ) → 0 < count k ks → IsLive z vs k) → count e (node_entries z m ks) ≡ linked_in g.bundles e ks
  entries_linked e [] live = refl
  entries_linked e (k ∷ ks) live =
      let at_node : IsLive z vs k = live k (one_counted k (count k ks)) in
      let lefts = entries_from (s + 1) z.entries (λ d. m (Entry Next d)) (head Left k) in
      let rights = entries_from (s + 1) z.entries (λ d. m (Entry Next d)) (head Right k) in
      omega (
        arith,
        count-append e (lefts ++ rights) (node_entries z m ks),
        count-append e lefts rights,
        count-append e (g.bundles.bundle Left k) (g.bundles.bundle Right k),
        ap (count e) (entries_are z m vs g rule k Left at_node),
        ap (count e) (entries_are z m vs g rule k Right at_node),
        entries_linked e ks (λ j there. live j (omega (arith, there))),
      )

  module _ (added : Option ℕ) (new : is_new m v added ≡ true) where
    abbrev more : List ℕ
    more = v.update.pending ++ new_entries m added

    abbrev number' : ℕ → ℕ
    number' = raised_numbers g.bundles.number more (s + 1)

    abbrev bundle' : Side → ℕ → List ℕ
    bundle' = with_added g.bundles.bundle head added

    -- a node that is not new stays as it was
    child_stays : (k : ℕ) → IsLive z vs k → (side : Side) → child_now m vs more side k ≡ child_of_entry child (select number' (s + 1) (g.bundles.bundle side k))
    child_stays k live side =
        ap (child_of_entry child)
        (newest_is (has_number m vs more) (λ e. m (Entry Next e)) number' (s + 1) (head side k) (g.bundles.bundle side k) (rule.bundles k live side).chain
        (λ d here. raised_tells (not (eqb (m (Entry Number d)) 0) || was_raised d vs) (has d more) (g.bundles.number d) s
        (number_tells z m vs g rule k live side d here) (numbered_or_none z m vs g rule k live side d here) room)
        (raised_tail g.bundles.number more s (g.bundles.bundle side k) (tail_low z m vs g rule k live side)))

    head_numbered : (k : ℕ) (side : Side) → 0 < count k (listed added) → 0 < head side k
        → (has_number m vs more (head side k) ≡ true) × (number' (head side k) ≤ s + 1)
    head_numbered k side there some =
        let listed_head = new_head m added k side there some in
        let pends : has (head side k) more ≡ true
        = count-has (head side k) more (omega (arith, count-append (head side k) v.update.pending (new_entries m added), listed_head)) in (
          or_right (not (eqb (m (Entry Number (head side k))) 0) || was_raised (head side k) vs) (has (head side k) more) pends,
          low (has (head side k) more) (g.bundles.number (head side k)) pends,
        )
      where
        low : (c : Bool) (n : ℕ) → c ≡ true → cond c (s + 1) n ≤ s + 1
        low true n is = omega arith
        low false n is = cc

    child_by : (k : ℕ) (side : Side) (c : Bool) → has k (listed added) ≡ c → (c ≡ false → IsLive z vs k)
        → child_now m vs more side k ≡ child_of_entry child (select number' (s + 1) (cond c (listed_entry (head side k)) (g.bundles.bundle side k)))
    child_by k side true is live =
        ap (child_of_entry child)
        (new_newest (has_number m vs more) (λ e. m (Entry Next e)) number' (s + 1) (head side k) (head_numbered k side (has-count k (listed added) is)))
    child_by k side false is live = child_stays k (live refl) side

    -- the child of a link of a node that is new or live, after the raise
    pub child_after : (k : ℕ) → (has k (listed added) ≡ false → IsLive z vs k) → (side : Side)
        → child_now m vs more side k ≡ child_of_entry child (select number' (s + 1) (bundle' side k))
    child_after k live side = child_by k side (has k (listed added)) refl live

    -- an entry of a live node's bundle is not new
    bundle_old : (k : ℕ) (side : Side) (d : ℕ) → IsLive z vs k → 0 < count d (g.bundles.bundle side k) → count d (new_entries m added) ≡ 0
    bundle_old k side d live here =
        elim (cases_lt 0 (count d (new_entries m added))) as (λ _. count d (new_entries m added) ≡ 0) [
          | inl some ↦ absurd (not_in_bundle z vs g rule.slots i k d v at (entries_new m v added new d some).0 live (in_entries g.bundles k d side here))
          | inr none ↦ omega (arith, none)
        ]

    -- so the child of a live node's link is given by the pending entries
    pub child_pending : (k : ℕ) (side : Side) → IsLive z vs k → child_now m vs more side k ≡ child_now m vs v.update.pending side k
    child_pending k side live = by (eqb (head side k) 0) refl
      where
        either : (b c : Bool) → (b ≡ true → c ≡ true) → (c ≡ true → b ≡ true) → b ≡ c
        either true false there back = sym (there refl)
        either false true there back = back refl
        either _ _ there back = refl

        has_same : (e : ℕ) → count e (new_entries m added) ≡ 0 → has e more ≡ has e v.update.pending
        has_same e none =
            either (has e more) (has e v.update.pending)
            (λ is. count-has e v.update.pending (omega (arith, has-count e more is, count-append e v.update.pending (new_entries m added), none)))
            (λ is. count-has e more (omega (arith, has-count e v.update.pending is, count-append e v.update.pending (new_entries m added))))

        apart : (x : ℕ) → eqb x 0 ≡ false → x ≡ 0 → ⊥
        apart x is none = grind (arith, nat_tests)

        head_there : eqb (head side k) 0 ≡ false → 0 < count (head side k) (g.bundles.bundle side k)
        head_there some =
            elim (chain_head (λ e. m (Entry Next e)) (head side k) (g.bundles.bundle side k) (rule.bundles k live side).chain)
            as (λ _. 0 < count (head side k) (g.bundles.bundle side k)) [
              | inl none ↦ absurd (apart (head side k) some none)
              | inr here ↦ here
            ]

        by : (c : Bool) → eqb (head side k) 0 ≡ c → child_now m vs more side k ≡ child_now m vs v.update.pending side k
        by true none =
            ap (child_of_entry child) (newest_none (has_number m vs more) (λ e. m (Entry Next e)) (head side k) (eqb-true (head side k) 0 none))
            ∙ sym (ap (child_of_entry child) (newest_none (has_number m vs v.update.pending) (λ e. m (Entry Next e)) (head side k)
            (eqb-true (head side k) 0 none)))
        by false some =
            ap (λ b. child_of_entry child (cond (eqb (head side k) 0 || (not (eqb (m (Entry Number (head side k))) 0) || was_raised (head side k) vs || b))
            (head side k) (m (Entry Next (head side k)))))
            (has_same (head side k) (bundle_old k side (head side k) live (head_there some)))

    -- a tree is spelled at the next number, where its nodes are new or in the tree at the stamp
    pub spelled_after : (tree : NamedTree) → ((x : ℕ) → 0 < occurs x tree → has x (listed added) ≡ false → IsLive z vs x)
        → spells (graph_now m vs more) (child_now m vs more Right 0) tree ≡ true
        → IsSpelledAt (λ k. m (Node Key k)) (λ k. m (Node Val k)) child number' bundle' (s + 1) 0 tree
    spelled_after tree live is =
        let then : Graph = graph_at (λ k. m (Node Key k)) (λ k. m (Node Val k)) child number' bundle' (s + 1) in
        subst (λ c. IsSpelled then c tree) (child_after 0 (λ lacks. root_lives z m vs g rule) Right)
        (spelled-frame (graph_now m vs more) then (child_now m vs more Right 0) tree
        (λ x there. record { key = refl; val = refl; left = child_after x (live x there) Left; right = child_after x (live x there) Right })
        (spells_is (graph_now m vs more) (child_now m vs more Right 0) tree is))

    -- an entry that gets the next number had none
    unnumbered_before : (k : ℕ) (side : Side) (d : ℕ) → IsLive z vs k → 0 < count d (g.bundles.bundle side k) → 0 < count d more → s < g.bundles.number d
    unnumbered_before k side d live here some =
        elim (cases_lt 0 (count d v.update.pending)) as (λ _. s < g.bundles.number d) [
          | inl pends ↦
              let known = every_at (IsPending z head (λ e. m (Entry Number e)) g.bundles.number v) d v.update.pending
              (seat_at z m vs g i v at rule).pending pends in
              omega (arith, stamp_low z m vs g rule, known.1, ap shown quiet)
          | inr none ↦
              let free = (entries_new m v added new d (omega (arith, some, none, count-append d v.update.pending (new_entries m added)))).0 in
              absurd (not_in_bundle z vs g rule.slots i k d v at free live (in_entries g.bundles k d side here))
        ]

    agree_by : (k : ℕ) (side : Side) (d : ℕ) (c : Bool) → has d more ≡ c → IsLive z vs k → 0 < count d (g.bundles.bundle side k)
        → (g.bundles.number d ≡ cond c (s + 1) (g.bundles.number d)) ⊎ ((s < g.bundles.number d) × (s < cond c (s + 1) (g.bundles.number d)))
    agree_by k side d true is live here = inr (unnumbered_before k side d live here (has-count d more is), omega arith)
    agree_by k side d false is live here = inl refl

    -- the stamp selects the same entry as before
    selects_same : (k : ℕ) (side : Side) → IsLive z vs k → select g.bundles.number s (g.bundles.bundle side k) ≡ select number' s (g.bundles.bundle side k)
    selects_same k side live =
        select_frame s g.bundles.number number' (g.bundles.bundle side k) (λ d here. agree_by k side d (has d more) refl live here)

    -- a node of the tree is not new
    bundle_stays : (k : ℕ) (side : Side) → 0 < occurs k g.tree → bundle' side k ≡ g.bundles.bundle side k
    bundle_stays k side there =
        ap (λ b. cond b (listed_entry (head side k)) (g.bundles.bundle side k)) (not_had k (listed added) none)
      where
        none : count k (listed added) ≡ 0
        none =
            elim (cases_lt 0 (count k (listed added))) as (λ _. count k (listed added) ≡ 0) [
              | inl some ↦
                  absurd (omega (arith, there, count_slots k g.tree, (free_node_alone z vs g rule.slots i k v at (added_new m v added new k some).0).0))
              | inr less ↦ omega (arith, less)
            ]

    abbrev bundles' : Bundles
    bundles' = record { bundle = bundle'; number = number' }

    -- a link of a node of the tree that is null at the stamp and at the next number is so before and after
    pub null_before : (k : ℕ) (side : Side) → 0 < occurs k g.tree → IsNullAtBoth child bundles' s (s + 1) side k
        → child_of_entry child (select g.bundles.number s (g.bundles.bundle side k)) ≡ 0
    null_before k side there both =
        ap (child_of_entry child) (selects_same k side (node_lives z m vs g rule k there) ∙ ap (select number' s) (sym (bundle_stays k side there))) ∙ both.1

    pub null_after : (k : ℕ) (side : Side) → IsNullAtBoth child bundles' s (s + 1) side k → child_of_entry child (select number' (s + 1) (bundle' side k)) ≡ 0
    null_after k side both = ap (child_of_entry child) (sym both.0) ∙ both.1
