-- The law on stores of plain links: what a search claims of its place stays. A store changes one subtree of the plain
-- tree, in one of six forms.
use Rattle.std.specs.Prelude.{◌≡◌, ℕ, ◌<◌, ◌≤◌, ◌⊎◌, List, Bool, true}
use Rattle.index_words.specs.declared.side.Side.{Side}
use Rattle.index_words.specs.declared.side.Side.TheVariants.{Right}
use Rattle.core_trees.specs.NamedTree.{NamedTree, Null, Branch}
use Rattle.core_trees.specs.Gaps.{IsNull}
use Rattle.core_trees.specs.Slots.{occurs}
use Rattle.core_trees.specs.SpelledTree.{Graph, IsSpelled}
use Rattle.plain_trees.specs.Points.{point_of}
use Rattle.plain_trees.specs.Successors.{LeadsTo}
use Rattle.plain_trees.specs.Matching.{Undone, IsBypassed}
use Rattle.plain_trees.specs.Claims.{IsWay, IsWaiting, Claims}

-- The second tree is the first one except for one subtree, which is changed as said. If nothing hung there, the node
-- above is one of the tree at the stamp (`there`).
abbrev pub Relinks : (ℕ → Type 0) → (NamedTree → NamedTree → Type 0) → NamedTree → NamedTree → Type 0
Relinks there change Null new = change Null new
Relinks there change (Branch slot key val left right) new =
    change (Branch slot key val left right) new
    ⊎ ((l : NamedTree) × (r : NamedTree) × (new ≡ Branch slot key val l r)
    × ((Relinks there change left l × (IsNull left → there slot) × (right ≡ r)) ⊎ ((left ≡ l) × Relinks there change right r)))

-- an insert: a node without children hangs at a null link
pub record Grows (old new : NamedTree) : Type 0 where
  pub slot : ℕ
  pub key : ℕ
  pub val : ℕ
  pub was : old ≡ Null
  pub is : new ≡ Branch slot key val Null Null

-- a node with the same key and the same children takes the place of the node `n`
pub record Replaces (n : ℕ) (old new : NamedTree) : Type 0 where
  pub slot : ℕ
  pub key : ℕ
  pub old_val : ℕ
  pub val : ℕ
  pub left : NamedTree
  pub right : NamedTree
  pub was : old ≡ Branch n key old_val left right
  pub is : new ≡ Branch slot key val left right

-- the right child takes the place of the node, which has no left child: a successor is unlinked in this way too
pub record LiftsRight (n : ℕ) (old new : NamedTree) : Type 0 where
  pub key : ℕ
  pub val : ℕ
  pub was : old ≡ Branch n key val Null new

-- the left child takes the place of the node, which has no right child
pub record LiftsLeft (n : ℕ) (old new : NamedTree) : Type 0 where
  pub key : ℕ
  pub val : ℕ
  pub was : old ≡ Branch n key val new Null

-- a copy of the successor `s` takes the place of the node, with its children; the successor stays
pub record Copies (bypassed : ℕ → Type 0) (n s from until : ℕ) (old new : NamedTree) : Type 0 where
  pub slot : ℕ
  pub old_val : ℕ
  pub val : ℕ
  pub left : NamedTree
  pub right : NamedTree
  pub rises : from < until
  pub was : old ≡ Branch n from old_val left right
  pub is : new ≡ Branch slot until val left right
  pub ahead : (x : ℕ) → point_of from < x → x ≤ point_of until → LeadsTo bypassed x s right

-- a copy of the successor takes the place of the node, whose right child the successor was: it goes too
pub record Joins (n s : ℕ) (old new : NamedTree) : Type 0 where
  pub slot : ℕ
  pub from : ℕ
  pub until : ℕ
  pub old_val : ℕ
  pub next_val : ℕ
  pub val : ℕ
  pub left : NamedTree
  pub right : NamedTree
  pub rises : from < until
  pub was : old ≡ Branch n from old_val left (Branch s until next_val Null right)
  pub is : new ≡ Branch slot until val left right

-- The node `n` goes out of the plain tree, but none does at an insert; and if the successor `s` was near, so does `s`.
-- If a new node takes the place of `n`, then `n` is not a bypassed node.
pub data IsStore (there bypassed : ℕ → Type 0) (n s from until : ℕ) (old new : NamedTree) : Type 0 where
  Insert : Relinks there Grows old new → IsStore there bypassed n s from until old new
  LiftRight : Relinks there (LiftsRight n) old new → IsStore there bypassed n s from until old new
  LiftLeft : Relinks there (LiftsLeft n) old new → IsStore there bypassed n s from until old new
  Replace : ¬ bypassed n → Relinks there (Replaces n) old new → IsStore there bypassed n s from until old new
  Copy : ¬ bypassed n → Relinks there (Copies bypassed n s from until) old new → IsStore there bypassed n s from until old new
  Join : ¬ bypassed n → occurs s new ≡ 0 → Relinks there (Joins n s) old new → IsStore there bypassed n s from until old new

abbrev pub IsTest : (ℕ → Bool) → ℕ → Type 0
IsTest test node = test node ≡ true

-- A store, over the links and the plain trees before and after it. Only links of nodes that are in the plain tree after
-- it may change. A successor that waits for the seat is locked by another update, so it is not the node that goes out.
-- If a copy was linked, the seat has not been passed yet.
pub record Stores (g g' : Graph) (there : ℕ → Bool) (u u' : Undone) (waits waits' : ℕ → ℕ → Bool) (plain plain' : NamedTree)
    (n s from until : ℕ) : Type 0 where
  pub spelled : IsSpelled g (g.child Right 0) plain
  pub some : (m : ℕ) → 0 < occurs m plain' → 0 < m
  pub keys : (m : ℕ) → g'.key m ≡ g.key m
  pub links : (m : ℕ) → 0 < m → occurs m plain' ≡ 0 → (side : Side) → g'.child side m ≡ g.child side m
  pub store : IsStore (IsTest there) (IsBypassed u) n s from until plain plain'
  pub gone : occurs n plain' ≡ 0
  pub removed : from ≡ g.key n
  pub firm : (m : ℕ) → IsTest there m → ¬ IsBypassed u m
  pub passes : (m : ℕ) → 0 < occurs m plain' → IsBypassed u m → IsBypassed u' m
  pub locked : (removed successor : ℕ) → IsWaiting waits removed successor → (¬ IsTest there successor) × ¬ (successor ≡ n)
  pub stays : (removed successor : ℕ) → IsWaiting waits removed successor → IsWaiting waits' removed successor
  pub begins : IsWaiting waits' n s

-- no node that is new in the plain tree is reached from where the seat stands
abbrev pub ReachesNoNew : Graph → NamedTree → NamedTree → ℕ → ℕ → Type 0
ReachesNoNew g plain plain' x from =
    (m : ℕ) → 0 < occurs m plain' → occurs m plain ≡ 0 → (nodes : List ℕ) → ¬ IsWay g plain x nodes from m

abbrev pub StoreLaw : Type 0
StoreLaw =
    (g g' : Graph) (there : ℕ → Bool) (u u' : Undone) (waits waits' : ℕ → ℕ → Bool) (plain plain' : NamedTree) (n s from until x a : ℕ)
    → Stores g g' there u u' waits waits' plain plain' n s from until → ReachesNoNew g plain plain' x a
    → Claims g (IsBypassed u) (IsWaiting waits) plain x a → Claims g' (IsBypassed u') (IsWaiting waits') plain' x a
