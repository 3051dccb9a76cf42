-- The nodes of a tree, what keeps it spelled, and the tree and the bundles read from the words: the ones of the rule.
use Rattle.std.proofs.Common.{◌≡◌, ℕ, ◌+◌, cond, List, [], ◌∷◌, ◌++◌, eqb, arith, refl, ap, ◌<◌, ◌≤◌, ◌⊎◌, ◌∙◌, sym, subst, inl, inr, Option, Some, None, suc}
use Rattle.std.proofs.Common.{length, Bool, true, false, not, leb, ◌&&◌, ◌||◌, is_none}
use Rattle.std.proofs.lemmas.Bool.Decides.{nat_tests}
use Rattle.std.specs.Prelude.{IfSome}
use Rattle.std.proofs.lemmas.List.Sums.{sum_by-le-sum_by, sum_by-cons}
use Rattle.std.specs.List.{All, sum_by}
use Rattle.std.proofs.lemmas.Bool.{le-leb, lt-leb, eqb-true, cases_lt, and_parts, and_cases, or_cases, or_parts}
use Rattle.index_words.specs.declared.view.reading.TreeNode.{TreeNode}
use Rattle.index_words.specs.declared.layout.Layout.{Layout}
use Rattle.index_words.specs.declared.side.Side.{Side}
use Rattle.index_words.specs.declared.side.Side.TheVariants.{Left, Right}
use Rattle.index_words.specs.declared.view.View.{View}
use Rattle.index_words.specs.declared.word.Field.TheVariants.{Key, Val, Head}
use Rattle.index_words.specs.declared.word.Part.TheVariants.{Child, Stamp as Number, Next}
use Rattle.index_words.specs.declared.word.Word.TheVariants.{Node, Entry, Stamp}
use Rattle.index_words.specs.Words.{Memory}
use Rattle.key_map.specs.Lists.{count, IsItem, has, Every}
use Rattle.key_map.proofs.Counting.{count-append, has-count, count-has}
use Rattle.key_map.specs.declared.update.Update.{Update}
use Rattle.core_links.specs.Bundle.{select, child_of_entry, no_number}
use Rattle.core_trees.specs.NamedTree.{NamedTree, Null, Branch}
use Rattle.core_trees.specs.Slots.{occurs, one_at, NamesOnce}
use Rattle.core_trees.specs.Gaps.{IsInGap}
use Rattle.core_trees.specs.SpelledTree.{IsSpelled, Graph}
use Rattle.core_trees.specs.SpelledAt.{graph_at}
use Rattle.core_trees.proofs.SpelledTree.{spelled-frame}
use Rattle.core_trees.specs.LinkSteps.{IsLinkIn}
use Rattle.core_grace.specs.Holds.{tree_slots, Bundles, HoldsNode, HoldsEntry, work_nodes}
use Rattle.core_grace.specs.Slots.{nodes_of, own, own_free, is_slot, SlotRule}
use Rattle.core_events.specs.Versions.{top_slot, tree_nodes, slots_of, IsVersion, ReadsVersion}
use Rattle.core_events.specs.SpelledNow.{was_raised, has_number, newest, child_now, graph_now, tree_now, bundle_now}
use Rattle.core_events.specs.Numbered.{shown}
use Rattle.core_invariant.specs.Meanings.{Meaning, linked_by}
use Rattle.core_invariant.specs.BundleRule.{IsLive, IsPendingAt, IsNumbered, IsPending, TailWritten, Falls, pending_count}
use Rattle.core_invariant.specs.Readers.{VersionRight}
use Rattle.core_invariant.proofs.Owned.{once_node, root_live, reachable_live, in_entries, entry_there, slot_high}
use Rattle.core_invariant.specs.SeatRule.{SeatRight}
use Rattle.core_invariant.specs.Rule.{Rule}
use Rattle.core_invariant.proofs.Frames.{every_at}
use Rattle.core_invariant.proofs.BundleFrames.{falls_below}
use Rattle.core_invariant.proofs.TreeReads.{TailLow, newest_is, entries_from_is, size, tree_from_is, contents_size, after_length}

pub tree_slots-append : (xs ys : List TreeNode) → tree_slots (xs ++ ys) ≡ tree_slots xs ++ tree_slots ys
tree_slots-append [] ys = refl
tree_slots-append (x ∷ xs) ys = ap (λ ks. x.slot ∷ ks) (tree_slots-append xs ys)

one_flipped : (k s : ℕ) → 0 + cond (eqb s k) 1 0 ≡ one_at k s
one_flipped k s = grind (arith, nat_tests)

-- the slots of a tree are counted alike in the tree and in the list of its nodes
pub count_slots : (k : ℕ) (tree : NamedTree) → count k (slots_of tree) ≡ occurs k tree
count_slots k Null = refl
count_slots k (Branch slot key val left right) =
    let node : TreeNode = record { slot = slot; key = key; val = val; left = top_slot left; right = top_slot right } in
    omega (
      arith,
      ap (count k) (tree_slots-append (tree_nodes left) (node ∷ tree_nodes right)),
      count-append k (slots_of left) (slot ∷ slots_of right),
      one_flipped k slot,
      count_slots k left,
      count_slots k right,
    )

-- A tree stays spelled, and its gaps stay as they are, if the same is read of the root and of its nodes.

-- the child of a link at a number
abbrev pub child_at : Memory → Bundles → ℕ → Side → ℕ → ℕ
child_at m b t side x = child_of_entry (λ e. m (Entry Child e)) (select b.number t (b.bundle side x))

abbrev pub VersionIn : Memory → Bundles → List Update → ℕ → NamedTree → Type 0
VersionIn m b updates t tree = IsVersion (λ k. m (Node Key k)) (λ k. m (Node Val k)) (λ e. m (Entry Child e)) b updates t tree

abbrev pub ReadsIn : Memory → Bundles → List Update → ℕ → NamedTree → ℕ → List TreeNode → Type 0
ReadsIn m b updates s now t nodes = ReadsVersion (λ k. m (Node Key k)) (λ k. m (Node Val k)) (λ e. m (Entry Child e)) b updates s now t nodes

-- the same is read of a node at a number
pub record SameNode (m m' : Memory) (b b' : Bundles) (t x : ℕ) : Type 0 where
  pub key : m (Node Key x) ≡ m' (Node Key x)
  pub val : m (Node Val x) ≡ m' (Node Val x)
  pub entry : (side : Side) → select b.number t (b.bundle side x) ≡ select b'.number t (b'.bundle side x)
  pub child : (side : Side) → child_at m b t side x ≡ child_at m' b t side x

module _ (m m' : Memory) (b b' : Bundles) where
  same_child : (t x : ℕ) → SameNode m m' b b' t x → (side : Side) → child_at m b t side x ≡ child_at m' b' t side x
  same_child t x same side = same.child side ∙ ap (child_of_entry (λ e. m' (Entry Child e))) (same.entry side)

  pub version_frame : (updates : List Update) (t : ℕ) (tree : NamedTree) → ((x : ℕ) → (x ≡ 0) ⊎ (0 < occurs x tree) → SameNode m m' b b' t x)
      → VersionIn m b updates t tree → VersionIn m' b' updates t tree
  version_frame updates t tree same old =
      let old_graph = graph_at (λ k. m (Node Key k)) (λ k. m (Node Val k)) (λ e. m (Entry Child e)) b.number b.bundle t in
      let new_graph = graph_at (λ k. m' (Node Key k)) (λ k. m' (Node Val k)) (λ e. m' (Entry Child e)) b'.number b'.bundle t in
      record {
        spelled = subst (λ c. IsSpelled new_graph c tree) (same_child t 0 (same 0 (inl refl)) Right)
            (spelled-frame old_graph new_graph (old_graph.child Right 0) tree
            (λ x here.
            let at : SameNode m m' b b' t x = same x (inr here) in
            record { key = at.key; val = at.val; left = same_child t x at Left; right = same_child t x at Right })
            old.spelled);
        lawful = old.lawful;
        contents = old.contents;
      }

  -- the tree of a reader, where this is so at some numbers, its own and the stamp among them
  pub reads_frame : (among : ℕ → Type 0) (updates : List Update) (s : ℕ) (now : NamedTree) (nodes : List TreeNode) (section : Option ℕ)
      → ((t x : ℕ) → among t → (x ≡ 0) ⊎ (0 < count x (tree_slots nodes)) → SameNode m m' b b' t x)
      → among s → IfSome section among
      → IfSome section (λ t. ReadsIn m b updates s now t nodes) → IfSome section (λ t. ReadsIn m' b' updates s now t nodes)
  reads_frame among updates s now nodes None same stamp own old = tt
  reads_frame among updates s now nodes (Some t) same stamp own old =
      let listed : (x : ℕ) → 0 < occurs x old.tree → 0 < count x (tree_slots nodes) = λ x here. omega (arith, here, count_slots x old.tree, ap (λ ns. count x (tree_slots ns)) old.read) in
      record {
        tree = old.tree;
        version = version_frame updates t old.tree (λ x here. elim here as (λ _. SameNode m m' b b' t x) [
          | inl root ↦ same t x own (inl root)
          | inr node ↦ same t x own (inr (listed x node))
        ]) old.version;
        read = old.read;
        gaps = λ k z side here there null gap.
            let now_same : SameNode m m' b b' s k = same s k stamp (inr (listed k here)) in
            let then_same : SameNode m m' b b' t k = same t k own (inr (listed k here)) in
            subst (λ y. IsInGap side y z now) now_same.key
            (old.gaps k z side here there
            (then_same.entry side ∙ null.0 ∙ sym (now_same.entry side), same_child t k then_same side ∙ null.1)
            (subst (λ y. IsInGap side y z old.tree) (sym now_same.key) gap));
      }

module _ (z : Layout) (vs : List View) (g : Meaning) (rule : SlotRule z (linked_by g) HoldsNode (HoldsEntry g.bundles) vs) where
  slot_low : (size k : ℕ) → 0 < is_slot size k → k ≤ size
  slot_low size k some = grind (arith, nat_tests)

  node_live : (k : ℕ) → 0 < occurs k g.tree → IsLive z vs k
  node_live k linked =
      let here : 0 < count k (slots_of g.tree) = omega (arith, linked, count_slots k g.tree) in (
        slot_low z.nodes k (omega (arith, rule.nodes.one k, here)),
        omega (arith, once_node z vs g rule k, here, sum_by-le-sum_by (own_free nodes_of k) (own nodes_of k) vs (λ v. omega arith)),
      )

  -- the root, or a node of the tree
  pub linked_live : (k : ℕ) → (k ≡ 0) ⊎ (0 < occurs k g.tree) → IsLive z vs k
  linked_live k here =
      elim here as (λ _. IsLive z vs k) [
        | inl root ↦ subst (IsLive z vs) (sym root) (root_live z vs g rule)
        | inr node ↦ node_live k node
      ]

  -- the root, or a node of the tree of a reader
  pub read_live : (s j k : ℕ) (u : View) → IsItem vs j u → VersionRight z s u.reading → (k ≡ 0) ⊎ (0 < count k (tree_slots u.reading.tree)) → IsLive z vs k
  read_live s j k u of version here =
      elim here as (λ _. IsLive z vs k) [
        | inl root ↦ subst (IsLive z vs) (sym root) (root_live z vs g rule)
        | inr node ↦ reachable_live z vs g rule j k u of (version.there k node, inr (omega (arith, node, count-append k (tree_slots u.reading.tree) (work_nodes u))))
      ]

-- The tree at the stamp and the bundles, as they are read from the words, are what the rule names.

-- a raise that has happened has a number up to the stamp
shown_low : (s n : ℕ) (raised : Option ℕ) → not (is_none raised) ≡ true → n ≡ shown raised → IfSome raised (λ r. (0 < r) × (r ≤ s)) → n ≤ s
shown_low s n None some is right = cc
shown_low s n (Some r) some is right = omega (arith, is, right.1)

shown_none : (n : ℕ) (raised : Option ℕ) → not (is_none raised) ≡ false → n ≡ shown raised → n ≡ no_number
shown_none n None none is = is
shown_none n (Some r) none is = cc

-- an entry has a number if its number is at most the stamp
tells_by : (n s : ℕ) (none raised : Bool) → (none ≡ false → n ≤ s) → (raised ≡ true → n ≤ s) → (none ≡ true → raised ≡ false → s < n)
    → (not none || raised || false) ≡ leb n s
tells_by n s true true written known unknown = sym (le-leb n s (known refl))
tells_by n s true false written known unknown = sym (lt-leb n s (unknown refl refl))
tells_by n s false true written known unknown = sym (le-leb n s (written refl))
tells_by n s false false written known unknown = sym (le-leb n s (written refl))

not_zero : (x : ℕ) → eqb x 0 ≡ false → 0 < x
not_zero x is = grind (arith, nat_tests)

slot_one : (last k : ℕ) → is_slot last k ≤ 1
slot_one last k = grind (arith, nat_tests)

-- written numbers are at most the stamp
low_tail : (s : ℕ) (stamp number : ℕ → ℕ) (es : List ℕ) → Every (IsNumbered s stamp number) es → TailWritten stamp es → TailLow number s es
low_tail s stamp number [] numbers tail = tt
low_tail s stamp number (e ∷ es) numbers tail = λ d here.
    let known : (number d ≡ stamp d) × (stamp d ≤ s) = every_at (IsNumbered s stamp number) d es numbers.1 here (every_at (λ x. 0 < stamp x) d es tail here) in
    omega (arith, known.0, known.1)

-- written numbers that fall strictly from below `top` are fewer
written_few : (s top : ℕ) (stamp number : ℕ → ℕ) (es : List ℕ) → 0 < top → Every (IsNumbered s stamp number) es → Every (λ d. 0 < stamp d) es → Falls number top es → length es < top
written_few s top stamp number [] some numbers written falls = some
written_few s top stamp number (e ∷ es) some numbers written falls =
    let here = numbers.0 written.0 in
    omega (arith, falls.0, written_few s (number e) stamp number es (omega (arith, here.0, written.0)) numbers.1 written.1 falls.1)

-- a bundle has at most one entry more than there were updates
pub bundle_few : (s top : ℕ) (stamp number : ℕ → ℕ) (es : List ℕ) → Every (IsNumbered s stamp number) es → TailWritten stamp es → Falls number top es → length es ≤ s + 1
bundle_few s top stamp number [] numbers tail falls = omega arith
bundle_few s top stamp number (e ∷ es) numbers tail falls =
    omega (arith, written_few s (s + 1) stamp number es (omega arith) numbers.1 tail (falls_below s (number e) (s + 1) stamp number es (omega arith) numbers.1 tail falls.1))

module _ (z : Layout) (m : Memory) (vs : List View) (g : Meaning) (rule : Rule z m vs g) where
  abbrev s : ℕ
  s = m Stamp

  abbrev number : ℕ → ℕ
  number e = g.bundles.number e

  abbrev Seat : View → Type 0
  Seat v = SeatRight z m g v

  abbrev Pends : View → ℕ → Type 0
  Pends v e = IsPending z (λ w k. m (Node (Head w) k)) (λ d. m (Entry Number d)) g.bundles.number v e

  -- an entry that is pending in a view that has raised has a number up to the stamp
  raised_low : (e : ℕ) (us : List View) → All Seat us → was_raised e us ≡ true → number e ≤ s
  raised_low e [] all is = cc
  raised_low e (v ∷ us) all is =
      let right : Seat v = all 0 v (omega arith) in
      elim (or_cases (not (is_none v.update.raised) && has e v.update.pending) (was_raised e us) is) as (λ _. number e ≤ s) [
        | inl here ↦
            let both = and_parts (not (is_none v.update.raised)) (has e v.update.pending) here in
            shown_low s (number e) v.update.raised both.0 (every_at (Pends v) e v.update.pending right.pending (has-count e v.update.pending both.1)).1 right.update.raised
        | inr rest ↦ raised_low e us (λ k d within. all (suc k) d (omega (arith, within))) rest
      ]

  -- a pending entry of views that have not raised has none
  unraised_none : (e : ℕ) (us : List View) → All Seat us → was_raised e us ≡ false → 0 < sum_by (pending_count e) us → number e ≡ no_number
  unraised_none e [] all idle some = absurd (omega (arith, some))
  unraised_none e (v ∷ us) all idle some =
      let right : Seat v = all 0 v (omega arith) in
      let parts = or_parts (not (is_none v.update.raised) && has e v.update.pending) (was_raised e us) idle in
      elim (cases_lt 0 (pending_count e v)) as (λ _. number e ≡ no_number) [
        | inl here ↦ shown_none (number e) v.update.raised (unraised v here parts.0) (every_at (Pends v) e v.update.pending right.pending here).1
        | inr none ↦ unraised_none e us (λ k d within. all (suc k) d (omega (arith, within))) parts.1 (omega (arith, some, none, sum_by-cons (pending_count e) v us))
      ]
    where
      apart : (c : Bool) → c ≡ true → c ≡ false → ⊥
      apart true t f = cc
      apart false t f = cc

      unraised : (v : View) → 0 < pending_count e v → (not (is_none v.update.raised) && has e v.update.pending) ≡ false → not (is_none v.update.raised) ≡ false
      unraised v here none =
          elim (and_cases (not (is_none v.update.raised)) (has e v.update.pending) none) as (λ _. not (is_none v.update.raised) ≡ false) [
            | inl is ↦ is
            | inr lacks ↦ absurd (apart (has e v.update.pending) (count-has e v.update.pending here) lacks)
          ]

  pub stamp_low : s < no_number
  stamp_low = omega (arith, rule.history.calls, rule.history.few)

  module _ (k : ℕ) (live : IsLive z vs k) (side : Side) (e : ℕ) (here : 0 < count e (g.bundles.bundle side k)) where
    written_low : 0 < m (Entry Number e) → number e ≤ s
    written_low some =
        let known = every_at (IsNumbered s (λ d. m (Entry Number d)) g.bundles.number) e (g.bundles.bundle side k) (rule.bundles k live side).numbers here some in
        omega (arith, known.0, known.1)

    pending_some : m (Entry Number e) ≡ 0 → 0 < sum_by (pending_count e) vs
    pending_some none =
        let pends = every_at (λ x. m (Entry Number x) ≡ 0 → IsPendingAt vs k x) e (g.bundles.bundle side k) (rule.bundles k live side).owned here none in
        omega (arith, pends.0)

    number_by : (none raised : Bool) → eqb (m (Entry Number e)) 0 ≡ none → was_raised e vs ≡ raised → (number e ≤ s) ⊎ (number e ≡ no_number)
    number_by false raised is was = inl (written_low (not_zero (m (Entry Number e)) is))
    number_by true true is was = inl (raised_low e vs rule.seats was)
    number_by true false is was = inr (unraised_none e vs rule.seats was (pending_some (eqb-true (m (Entry Number e)) 0 is)))

    -- the number of an entry of a live node's bundle is at most the stamp, or it has none
    pub numbered_or_none : (number e ≤ s) ⊎ (number e ≡ no_number)
    numbered_or_none = number_by (eqb (m (Entry Number e)) 0) (was_raised e vs) refl refl

    -- and what is computed says which
    pub number_tells : has_number m vs [] e ≡ leb (number e) s
    number_tells =
        tells_by (number e) s (eqb (m (Entry Number e)) 0) (was_raised e vs) (λ is. written_low (not_zero (m (Entry Number e)) is)) (raised_low e vs rule.seats)
        (λ none idle. omega (arith, stamp_low, unraised_none e vs rule.seats idle (pending_some (eqb-true (m (Entry Number e)) 0 none))))

  -- the entries after a head have numbers up to the stamp
  pub tail_low : (k : ℕ) → IsLive z vs k → (side : Side) → TailLow g.bundles.number s (g.bundles.bundle side k)
  tail_low k live side =
      let right = rule.bundles k live side in
      low_tail s (λ d. m (Entry Number d)) g.bundles.number (g.bundles.bundle side k) right.numbers right.tail

  -- the newest entry that has a number is the selected one, and so the child of a link is that of this entry
  pub newest_selected : (k : ℕ) → IsLive z vs k → (side : Side)
      → newest (has_number m vs []) (λ e. m (Entry Next e)) (m (Node (Head side) k)) ≡ select g.bundles.number s (g.bundles.bundle side k)
  newest_selected k live side =
      newest_is (has_number m vs []) (λ e. m (Entry Next e)) g.bundles.number s (m (Node (Head side) k)) (g.bundles.bundle side k)
      (rule.bundles k live side).chain (number_tells k live side) (tail_low k live side)

  pub child_is : (k : ℕ) → IsLive z vs k → (side : Side) → child_now m vs [] side k ≡ child_of_entry (λ e. m (Entry Child e)) (select g.bundles.number s (g.bundles.bundle side k))
  child_is k live side = ap (child_of_entry (λ e. m (Entry Child e))) (newest_selected k live side)

  -- the entries of a link's bundle
  pub entries_are : (k : ℕ) (side : Side) → IsLive z vs k → bundle_now z m side k ≡ g.bundles.bundle side k
  entries_are k side live =
      let right = rule.bundles k live side in
      entries_from_is z.entries (λ e. m (Entry Next e)) (s + 1) (m (Node (Head side) k)) (g.bundles.bundle side k) right.chain
      (λ d here. entry_there z vs g rule.slots k d live (in_entries g.bundles k d side here))
      (bundle_few s (suc no_number) (λ d. m (Entry Number d)) g.bundles.number (g.bundles.bundle side k) right.numbers right.tail right.falls)

  -- the root and the nodes of the tree are live
  pub root_lives : IsLive z vs 0
  root_lives = (omega arith, omega (arith, sum_by-le-sum_by (own_free nodes_of 0) (own nodes_of 0) vs (λ v. omega arith), rule.slots.nodes.one 0))

  pub node_lives : (k : ℕ) → 0 < occurs k g.tree → IsLive z vs k
  node_lives k there =
      let one : sum_by (own nodes_of k) vs + count k (slots_of g.tree) ≡ is_slot z.nodes k = rule.slots.nodes.one k in
      let same : count k (slots_of g.tree) ≡ occurs k g.tree = count_slots k g.tree in (
        slot_high z.nodes k (omega (arith, one, same, there)),
        omega (arith, one, same, there, slot_one z.nodes k, sum_by-le-sum_by (own_free nodes_of k) (own nodes_of k) vs (λ v. omega arith)),
      )

  -- the node of a link of the tree is live
  pub link_live : (k : ℕ) (side : Side) → IsLinkIn 0 Right g.tree k side → IsLive z vs k
  link_live k side (inl root) = subst (IsLive z vs) (sym root.0) root_lives
  link_live k side (inr there) = node_lives k there

  -- the tree names each node once, and not the root
  pub names_once : NamesOnce 0 g.tree
  names_once x = omega (arith, rule.slots.nodes.one x, count_slots x g.tree, root_apart z.nodes x)
    where
      root_apart : (last x : ℕ) → is_slot last x + one_at x 0 ≤ 1
      root_apart last x = grind (arith, nat_tests)

  abbrev graph : Graph
  graph = graph_at (λ k. m (Node Key k)) (λ k. m (Node Val k)) (λ e. m (Entry Child e)) g.bundles.number g.bundles.bundle s

  spelled_now : IsSpelled (graph_now m vs []) (child_now m vs [] Right 0) g.tree
  spelled_now =
      subst (λ c. IsSpelled (graph_now m vs []) c g.tree) (sym (child_is 0 root_lives Right))
      (spelled-frame graph (graph_now m vs []) (graph.child Right 0) g.tree
      (λ x there. record { key = refl; val = refl; left = sym (child_is x (node_lives x there) Left); right = sym (child_is x (node_lives x there) Right) })
      rule.tree.spelled)

  size_low : size g.tree ≤ s
  size_low = omega (arith, contents_size g.tree, ap length rule.tree.contents, after_length g.updates s)

  -- the tree at the stamp is the one that the rule names
  pub tree_is : tree_now z m vs ≡ g.tree
  tree_is = tree_from_is (graph_now m vs []) s z.nodes (child_now m vs [] Right 0) g.tree spelled_now (λ x there. (node_lives x there).0) size_low
