-- The way of a search down the snapshot's tree.
use Rattle.std.specs.Prelude.{◌≡◌, ℕ, ◌+◌, ◌-◌, ◌^◌, ◌<◌, ◌≤◌, ◌⊎◌, List, [], ◌∷◌, ◌++◌, Option, Some, None}
use Rattle.std.specs.Option.{option_or}
use Rattle.key_map.specs.declared.pair.Pair.{Pair}
use Rattle.key_map.specs.Lists.{count, Every}
use Rattle.index_words.specs.declared.side.Side.TheVariants.{Right}
use Rattle.index_words.specs.declared.view.View.{View}
use Rattle.index_words.specs.declared.view.reading.TreeNode.{TreeNode}
use Rattle.core_events.specs.Versions.{slots_of, top_slot, tree_nodes}
use Rattle.core_laws.specs.Found.{LeadsTo}
use Rattle.core_trees.specs.NamedTree.{NamedTree, IsWithin}
use Rattle.core_trees.specs.Search.{search_from}
use Rattle.snapshot_read.specs.Snapshots.{IsSnapshotTree}
use Rattle.snapshot_read.specs.declared.kept_way.Search.{Search}

-- the keys of the tree that is still to be searched are below this key
abbrev pub high_of : Option Pair → ℕ
high_of None = 2 ^ 64
high_of (Some pair) = pair.key

-- how many keys may still be met
abbrev pub keys_left : Search → ℕ
keys_left s = high_of s.best - s.low

-- the first pair from this key on is among those that the search still looks for, or is the best one so far
abbrev pub Covers : ℕ → Search → Type 0
Covers key s = (s.low ≤ key) × (key ≤ high_of s.best)

-- the search has reached a link of this tree, at which the tree `below` hangs: its keys are within the bounds that the
-- search keeps. For each key that the search covers, the answer is the first pair from the key on in that tree, or else
-- the best one so far
pub record OnWay (tree : NamedTree) (s : Search) : Type 0 where
  pub below : NamedTree
  pub front : List TreeNode
  pub back : List TreeNode
  pub part : tree_nodes tree ≡ front ++ (tree_nodes below ++ back)
  pub link : ((s.at.node ≡ 0) × (s.at.side ≡ Right)) ⊎ (0 < count s.at.node (slots_of tree))
  pub hangs : (child : ℕ) → LeadsTo tree s.at.node s.at.side child → child ≡ top_slot below
  pub within : IsWithin s.low (high_of s.best) below
  pub rest : (key : ℕ) → Covers key s → option_or (search_from key below) s.best ≡ search_from key tree

abbrev pub IsOnWay : View → ℕ → Search → Type 0
IsOnWay v t s = (tree : NamedTree) → IsSnapshotTree v t tree → OnWay tree s

-- where each search may begin
abbrev pub root : Search
root = record { at = record { node = 0; side = Right }; low = 0; best = None }

-- where a search goes on to the right of a node with this slot and key
abbrev pub right_of : ℕ → ℕ → Option Pair → Search
right_of node key best = record { at = record { node = node; side = Right }; low = key + 1; best = best }

-- if a snapshot is open, each search that is kept is on the way down its tree
abbrev pub IsKeptWay : View → List Search → Type 0
IsKeptWay v kept = (t : ℕ) → v.reading.opened ≡ Some t → Every (IsOnWay v t) kept

-- the last search is taken away, if there is one
abbrev pub IsTaken : List Search → Option Search → List Search → Type 0
IsTaken old None new = new ≡ old
IsTaken old (Some s) new = old ≡ new ++ s ∷ []
