-- An update of a tree goes down to the left, to the right, or ends at the top.
use Rattle.std.proofs.Common.{◌≡◌, ℕ, ◌<◌, ◌≤◌, arith}
use Rattle.std.specs.Prelude.{Some}
use Rattle.std.specs.Option.{option_or}
use Rattle.key_map.specs.Map.{pair}
use Rattle.core_trees.specs.Search.{search_from, end_node, end_side}
use Rattle.index_words.specs.declared.side.Side.{Side}
use Rattle.index_words.specs.declared.side.Side.TheVariants.{Left, Right}
use Rattle.std.proofs.lemmas.Bool.{lt-ltb, le-ltb}
use Rattle.core_trees.specs.NamedTree.{NamedTree, Branch}
use Rattle.core_trees.specs.TreeStep.{update, subtree_at}

module _ (key : ℕ) (f : NamedTree → NamedTree) (slot k val : ℕ) (l r : NamedTree) where
  pub update-left : key < k → update key f (Branch slot k val l r) ≡ Branch slot k val (update key f l) r
  update-left h = rw (lt-ltb key k h)

  pub update-right : k < key → update key f (Branch slot k val l r) ≡ Branch slot k val l (update key f r)
  update-right h = rw (le-ltb key k (omega arith), lt-ltb k key h)

  pub update-here : key ≡ k → update key f (Branch slot k val l r) ≡ f (Branch slot k val l r)
  update-here h = rw (le-ltb key k (omega arith), le-ltb k key (omega arith))

module _ (key slot k val : ℕ) (l r : NamedTree) where
  pub subtree_at-left : key < k → subtree_at key (Branch slot k val l r) ≡ subtree_at key l
  subtree_at-left h = rw (lt-ltb key k h)

  pub subtree_at-right : k < key → subtree_at key (Branch slot k val l r) ≡ subtree_at key r
  subtree_at-right h = rw (le-ltb key k (omega arith), lt-ltb k key h)

  pub subtree_at-here : key ≡ k → subtree_at key (Branch slot k val l r) ≡ Branch slot k val l r
  subtree_at-here h = rw (le-ltb key k (omega arith), le-ltb k key (omega arith))

  pub search_from-right : k < key → search_from key (Branch slot k val l r) ≡ search_from key r
  search_from-right h = rw (lt-ltb k key h)

  pub search_from-left : key ≤ k → search_from key (Branch slot k val l r) ≡ option_or (search_from key l) (Some (pair k val))
  search_from-left h = rw (le-ltb k key h)

  pub end_node-left : (node : ℕ) → key < k → end_node key node (Branch slot k val l r) ≡ end_node key slot l
  end_node-left node h = rw (lt-ltb key k h)

  pub end_node-right : (node : ℕ) → k < key → end_node key node (Branch slot k val l r) ≡ end_node key slot r
  end_node-right node h = rw (le-ltb key k (omega arith), lt-ltb k key h)

  pub end_node-here : (node : ℕ) → key ≡ k → end_node key node (Branch slot k val l r) ≡ node
  end_node-here node h = rw (le-ltb key k (omega arith), le-ltb k key (omega arith))

  pub end_side-left : (side : Side) → key < k → end_side key side (Branch slot k val l r) ≡ end_side key Left l
  end_side-left side h = rw (lt-ltb key k h)

  pub end_side-right : (side : Side) → k < key → end_side key side (Branch slot k val l r) ≡ end_side key Right r
  end_side-right side h = rw (le-ltb key k (omega arith), lt-ltb k key h)

  pub end_side-here : (side : Side) → key ≡ k → end_side key side (Branch slot k val l r) ≡ side
  end_side-here side h = rw (le-ltb key k (omega arith), le-ltb k key (omega arith))
