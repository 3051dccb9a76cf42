-- The way of a search down the snapshot's tree: where it begins, one level down, and its result.
use Rattle.std.proofs.Common.{◌≡◌, ℕ, ◌+◌, ◌^◌, ◌<◌, ◌≤◌, List, [], ◌∷◌, ◌++◌, length, arith, refl, ap, ◌∙◌, sym, subst, inl, inr, Option, Some, None, append-nil, append_assoc}
use Rattle.std.specs.Prelude.{IfSome}
use Rattle.std.specs.Option.{option_or}
use Rattle.key_map.specs.declared.pair.Pair.{Pair}
use Rattle.key_map.specs.History.{after}
use Rattle.key_map.specs.Lists.{count, IsItem, Every}
use Rattle.key_map.specs.Map.{pair, first_from}
use Rattle.index_words.specs.declared.side.Side.TheVariants.{Left}
use Rattle.index_words.specs.declared.view.View.{View}
use Rattle.index_words.specs.declared.view.reading.TreeNode.{TreeNode}
use Rattle.core_grace.specs.Holds.{tree_slots}
use Rattle.core_grace.proofs.RuleMoves.{every_weaker}
use Rattle.core_events.specs.Versions.{slots_of, top_slot, tree_nodes}
use Rattle.core_invariant.proofs.Frames.{count-middle}
use Rattle.core_invariant.proofs.TreeNow.{tree_slots-append}
use Rattle.core_trees.specs.NamedTree.{NamedTree, Null, Branch, IsWithin}
use Rattle.core_trees.specs.Search.{search_from}
use Rattle.core_trees.proofs.StepLaws.{search_contents}
use Rattle.core_trees.proofs.Updates.{search_from-left, search_from-right}
use Rattle.core_updates.specs.Plans.{link_of}
use Rattle.bundle_reads.specs.Links.{LeadsThere}
use Rattle.bundle_reads.specs.Reads.{HasRead}
use Rattle.snapshot_read.specs.Snapshots.{IsSnapshotTree, ReadsAt}
use Rattle.snapshot_read.specs.Looks.{told, IsAnswer}
use Rattle.snapshot_read.specs.declared.looks.Look.{Look}
use Rattle.snapshot_read.specs.Ways.{high_of, keys_left, Covers, OnWay, IsOnWay, IsKeptWay, root, right_of}
use Rattle.snapshot_read.specs.declared.kept_way.Search.{Search}
use Rattle.snapshot_read.proofs.SnapshotMoves.{reads_on, tree_before, tree_after}

-- where a search goes on to the left of a node with this slot and pair
abbrev pub left_of : ℕ → ℕ → ℕ → ℕ → Search
left_of node low key val = record { at = link_of node Left; low = low; best = Some (pair key val) }

or_none : (o : Option Pair) → option_or o None ≡ o
or_none None = refl
or_none (Some p) = refl

or_some : (o : Option Pair) (p : Pair) (best : Option Pair) → option_or (option_or o (Some p)) best ≡ option_or o (Some p)
or_some None p best = refl
or_some (Some q) p best = refl

-- the search begins at the root
pub at_root : (v : View) (t : ℕ) → IsOnWay v t root
at_root v t = λ tree is. record {
  below = tree;
  front = [];
  back = [];
  part = sym (append-nil (tree_nodes tree));
  link = inl (refl, refl);
  hangs = λ child leads. leads.top refl refl;
  within = is.lawful;
  rest = λ key covers. or_none (search_from key tree);
}

-- and looks for each key
pub root_covers : (key : ℕ) → key < 2 ^ 64 → Covers key root
root_covers key fits = (omega arith, omega (arith, fits))

-- an item in the middle of a list
pub item_middle : {X : Type 0} (xs ys : List X) (x : X) → IsItem (xs ++ x ∷ ys) (length xs) x
item_middle [] ys x = record { within = omega arith; is = λ d. refl }
item_middle (y ∷ xs) ys x =
    let rest = item_middle xs ys x in
    record { within = omega (arith, rest.within); is = λ d. rest.is d }

-- at the node that hangs at the link
module _ (tree : NamedTree) (s : Search) (way : OnWay tree s) (slot k v : ℕ) (l r : NamedTree) (is : way.below ≡ Branch slot k v l r) where
  abbrev pub node : TreeNode
  node = record { slot = slot; key = k; val = v; left = top_slot l; right = top_slot r }

  abbrev before : List TreeNode
  before = way.front ++ tree_nodes l

  abbrev behind : List TreeNode
  behind = tree_nodes r ++ way.back

  pub nodes_are : tree_nodes tree ≡ before ++ node ∷ behind
  nodes_are =
      way.part
      ∙ ap (λ (b : NamedTree). way.front ++ (tree_nodes b ++ way.back)) is
      ∙ ap (λ ns. way.front ++ ns) (append_assoc (tree_nodes l) (node ∷ tree_nodes r) way.back)
      ∙ sym (append_assoc way.front (tree_nodes l) (node ∷ behind))

  pub here : IsItem (tree_nodes tree) (length before) node
  here = subst (λ ns. IsItem ns (length before) node) (sym nodes_are) (item_middle before behind node)

  pub in_tree : 0 < count slot (slots_of tree)
  in_tree =
      subst (λ ns. 0 < count slot (tree_slots ns)) (sym nodes_are)
      (subst (λ xs. 0 < count slot xs) (sym (tree_slots-append before (node ∷ behind))) (count-middle slot (tree_slots before) (tree_slots behind)))

  bounds : (s.low ≤ k) × (k < high_of s.best) × IsWithin s.low k l × IsWithin (k + 1) (high_of s.best) r
  bounds = subst (IsWithin s.low (high_of s.best)) is way.within

  -- to the right
  pub right_way : OnWay tree (right_of slot k s.best)
  right_way = record {
    below = r;
    front = before ++ node ∷ [];
    back = way.back;
    part = nodes_are ∙ sym (append_assoc before (node ∷ []) behind);
    link = inr in_tree;
    hangs = λ child leads. leads.below (length before) node here refl;
    within = bounds.3;
    rest = λ key covers.
        let low : s.low ≤ k = bounds.0 in
        let past : k + 1 ≤ key = covers.0 in
        ap (λ o. option_or o s.best) (sym (search_from-right key slot k v l r (omega (arith, past))) ∙ ap (search_from key) (sym is))
        ∙ way.rest key (omega (arith, low, past), covers.1);
  }

  pub right_covers : (key : ℕ) → Covers key s → k < key → Covers key (right_of slot k s.best)
  right_covers key covers small = (omega (arith, small), covers.1)

  pub right_closer : keys_left (right_of slot k s.best) < keys_left s
  right_closer = let low : s.low ≤ k = bounds.0 in let high : k < high_of s.best = bounds.1 in omega arith

  -- and to the left
  pub left_way : OnWay tree (left_of slot s.low k v)
  left_way = record {
    below = l;
    front = way.front;
    back = node ∷ behind;
    part = nodes_are ∙ append_assoc way.front (tree_nodes l) (node ∷ behind);
    link = inr in_tree;
    hangs = λ child leads. leads.below (length before) node here refl;
    within = bounds.2;
    rest = λ key covers.
        let high : k < high_of s.best = bounds.1 in
        let large : key ≤ k = covers.1 in
        sym (or_some (search_from key l) (pair k v) s.best)
        ∙ ap (λ o. option_or o s.best) (sym (search_from-left key slot k v l r large) ∙ ap (search_from key) (sym is))
        ∙ way.rest key (covers.0, omega (arith, high, large));
  }

  pub left_closer : keys_left (left_of slot s.low k v) < keys_left s
  left_closer = let low : s.low ≤ k = bounds.0 in let high : k < high_of s.best = bounds.1 in omega arith

-- a tree that hangs at a link with a child has that child's node at its top
pub record HasTop (tree : NamedTree) (child : ℕ) : Type 0 where
  pub key : ℕ
  pub val : ℕ
  pub left : NamedTree
  pub right : NamedTree
  pub is : tree ≡ Branch child key val left right

top_of : (tree : NamedTree) (child : ℕ) → 0 < child → child ≡ top_slot tree → HasTop tree child
top_of Null child some same = absurd (omega (arith, some, same))
top_of (Branch slot k v l r) child some same = record { key = k; val = v; left = l; right = r; is = ap (λ x. Branch x k v l r) (sym same) }

pub top_at : (v : View) (t : ℕ) (s : Search) (child : ℕ) (tree : NamedTree) (is : IsSnapshotTree v t tree) (way : OnWay tree s) → 0 < child → LeadsThere v s.at child → HasTop way.below child
top_at v t s child tree is way some leads = top_of way.below child some (way.hangs child (leads tree is.nodes_are))

-- at a null link the search ends
null_top : (tree : NamedTree) (s : Search) (way : OnWay tree s) → count 0 (slots_of tree) ≡ 0 → (b : NamedTree) → way.below ≡ b → 0 ≡ top_slot b → b ≡ Null
null_top tree s way none Null is same = refl
null_top tree s way none (Branch slot k v l r) is same =
    let some = in_tree tree s way slot k v l r is in
    absurd (omega (arith, none, subst (λ x. 0 < count x (slots_of tree)) (sym same) some))

pub way_ends : (v : View) (t key : ℕ) (s : Search) (tree : NamedTree) → IsSnapshotTree v t tree → IsOnWay v t s → Covers key s → LeadsThere v s.at 0 → s.best ≡ first_from key (after v.history.seen t)
way_ends v t key s tree is on covers leads =
    let way = on tree is in
    let null : way.below ≡ Null = null_top tree s way is.some way.below refl (way.hangs 0 (leads tree is.nodes_are)) in
    ap (λ b. option_or (search_from key b) s.best) (sym null) ∙ way.rest key covers ∙ search_contents key tree is.lawful ∙ ap (first_from key) is.contents_are

-- no key of the tree is as high
search_none : (key low high : ℕ) (tree : NamedTree) → IsWithin low high tree → high ≤ key → search_from key tree ≡ None
search_none key low high Null h past = refl
search_none key low high (Branch slot k v l r) h past =
    let below : k < high = h.1 in
    search_from-right key slot k v l r (omega (arith, below, past)) ∙ search_none key (k + 1) high r h.3 past

-- the key of a pair, if there is one
abbrev pub key_or : Option Pair → ℕ
key_or None = 0
key_or (Some p) = p.key

-- the search also ends at the node of the key
pub way_meets : (v : View) (t key : ℕ) (s : Search) (tree : NamedTree) → IsSnapshotTree v t tree → IsOnWay v t s → Covers key s
    → (here : Pair) → s.best ≡ Some here → here.key ≡ key → Some here ≡ first_from key (after v.history.seen t)
way_meets v t key s tree is on covers here best met =
    let way = on tree is in
    let high : high_of s.best ≡ key = ap high_of best ∙ met in
    let none : search_from key way.below ≡ None = search_none key s.low (high_of s.best) way.below way.within (omega (arith, high)) in
    sym best
    ∙ ap (λ o. option_or o s.best) (sym none) ∙ way.rest key covers ∙ search_contents key tree is.lawful ∙ ap (first_from key) is.contents_are

-- what is kept

-- each item but the last, and the last one
pub every_taken : {X : Type 0} (P : X → Type 0) (xs : List X) (y : X) → Every P (xs ++ y ∷ []) → Every P xs × P y
every_taken P [] y all = (tt, all.0)
every_taken P (x ∷ xs) y all =
    let rest = every_taken P xs y all.1 in
    ((all.0, rest.0), rest.1)

pub every_on : (v w : View) (t : ℕ) (kept : List Search) → HasRead v w → Every (IsOnWay v t) kept → Every (IsOnWay w t) kept
every_on v w t kept read = every_weaker (IsOnWay v t) (IsOnWay w t) kept (λ s on. λ tree is. on tree (tree_before v w t tree read is))

pub taken : {X : Type 0} (P : X → Type 0) (old new : List X) (y : X) → old ≡ new ++ y ∷ [] → Every P old → Every P new × P y
taken P old new y is all = every_taken P new y (subst (Every P) is all)

some_or : Option ℕ → ℕ → ℕ
some_or None d = d
some_or (Some x) d = x

some_same : (a b : ℕ) → Some a ≡ Some b → a ≡ b
unfolding some_or
some_same a b is = ap (λ (o : Option ℕ). some_or o a) is

pub every_before : (v w : View) (t : ℕ) (kept : List Search) → HasRead v w → Every (IsOnWay w t) kept → Every (IsOnWay v t) kept
every_before v w t kept read = every_weaker (IsOnWay w t) (IsOnWay v t) kept (λ s on. λ tree is. on tree (tree_after v w t tree read is))

-- what is kept is still kept after other loads
pub kept_on : (v w : View) (t : ℕ) (kept : List Search) → HasRead v w → ReadsAt v t → Every (IsOnWay v t) kept → IsKeptWay w kept
kept_on v w t kept read reads every = λ n opened.
    subst (λ k. Every (IsOnWay w k) kept) (some_same t n (sym (reads_on v w t read reads).opened ∙ opened)) (every_on v w t kept read every)

-- the best pair so far is the answer if it is the first one
pub answer_is : (look : Look) (best first : Option Pair) → told look ≡ Some best → best ≡ first → IsAnswer look first
answer_is look best first is same = subst (λ (t : Option (Option Pair)). IfSome t (λ answer. answer ≡ first)) (sym is) same

-- what is known is the answer
known_is : (look : Look) (known first : Option Pair) → told look ≡ Some known → IsAnswer look first → known ≡ first
known_is look known first is answer = subst (λ (t : Option (Option Pair)). IfSome t (λ a. a ≡ first)) is answer

pub known_first : (v w : View) (look : Look) (known : Option Pair) (key at : ℕ) → HasRead v w → told look ≡ Some known
    → ((t : ℕ) → w.reading.opened ≡ Some t → IsAnswer look (first_from key (after w.history.seen t)))
    → v.reading.opened ≡ Some at → known ≡ first_from key (after v.history.seen at)
known_first v w look known key at read is first opened =
    known_is look known (first_from key (after w.history.seen at)) is (first at (ap (λ (u : View). u.reading.opened) read.view ∙ opened))
    ∙ ap (λ (u : View). first_from key (after u.history.seen at)) read.view
