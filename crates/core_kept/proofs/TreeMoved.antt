-- What the tree step of a raise makes true, apart from how its needs are computed.
use Rattle.std.proofs.Common.{◌≡◌, ℕ, ◌+◌, ◌<◌, ◌≤◌, ◌⊎◌, true, length, filter}
use Rattle.index_words.specs.declared.side.Side.{Side}
use Rattle.index_words.specs.declared.side.Side.TheVariants.{Right}
use Rattle.key_map.specs.declared.update.Update.{Update}
use Rattle.index_words.specs.declared.view.View.{View}
use Rattle.index_words.specs.declared.view.update.OwedTag.{OwedTag}
use Rattle.index_words.specs.declared.view.update.UnsetLink.{UnsetLink}
use Rattle.index_words.specs.declared.word.Field.TheVariants.{Key, Val, Mark, Head, Link, Tag}
use Rattle.index_words.specs.declared.word.Part.TheVariants.{Child, Stamp as Number, Next}
use Rattle.index_words.specs.declared.word.Word.TheVariants.{Stamp, Node, Entry}
use Rattle.index_words.specs.Words.{Memory}
use Rattle.key_map.specs.Lists.{count, Every}
use Rattle.core_grace.specs.Holds.{linked_in, listed}
use Rattle.core_links.specs.Bundle.{child_of_entry}
use Rattle.core_trees.specs.LinkSteps.{IsLinkIn}
use Rattle.core_trees.specs.NamedTree.{NamedTree}
use Rattle.core_trees.specs.Gaps.{IsInGap}
use Rattle.core_trees.specs.Slots.{MovesSlots, occurs}
use Rattle.core_events.specs.declared.tree_move.TreeMove.{TreeMove}
use Rattle.core_events.specs.LoadMoves.{locks}
use Rattle.core_events.specs.PlainNeeds.{is_owed_at, owes}
use Rattle.core_invariant.specs.Meanings.{Meaning}
use Rattle.core_invariant.specs.PlainRule.{child_at}
use Rattle.core_invariant.proofs.Children.{IsChildAt}
use Rattle.core_invariant.proofs.PlainSteps.{Sets, IsWork, IsNulled}
use Rattle.core_invariant.specs.Locks.{lock_count}
use Rattle.core_invariant.specs.MeaningMoves.{raised_meaning}
use Rattle.core_events.specs.TreeMoves.{new_entries}
use Rattle.core_events.specs.Versions.{IsVersion, IsNullAtBoth}

-- what the words mean after the raise
abbrev pub meaning_after : Memory → Meaning → View → Update → TreeMove → NamedTree → Meaning
meaning_after m g v u move tree = raised_meaning g (λ w k. m (Node (Head w) k)) v.update.pending (m Stamp + 1) u move tree

-- what it makes true of plain links
pub record MovesPlain (m : Memory) (g : Meaning) (v : View) (u : Update) (move : TreeMove) (tree : NamedTree) : Type 0 where
  -- each link of the tree after it is one of the tree before, is to be set, or is one of the new node
  pub leads : (k : ℕ) (side : Side) (x : ℕ) → IsChildAt 0 Right tree k side x
      → IsChildAt 0 Right g.tree k side x ⊎ (Sets k side move.plain.unset ⊎ (0 < count k (listed move.added)))
  -- what is to be set is of nodes that the seat has locked, holds what it is remembered to hold, and is to lead where
  -- the tree does then
  pub work : Every (IsWork (child_at (λ e. m (Entry Child e)) (meaning_after m g v u move tree).bundles (m Stamp + 1)) g.tree tree) move.plain.unset
  pub was : Every (λ (x : UnsetLink). m (Node (Link x.side) x.node) ≡ x.was) move.plain.unset
  pub locked : Every (λ (x : UnsetLink). locks x.node v.held.nodes ≡ true) move.plain.unset
  -- a tag is owed once, of a link that led to a node before and leads to none after
  pub owed : Every (λ (o : OwedTag). IsLinkIn 0 Right tree o.node o.side × (locks o.node v.held.nodes ≡ true)) move.plain.owed
  pub owed_once : (k : ℕ) (side : Side) → length (filter (is_owed_at k side) move.plain.owed) ≤ 1
  pub nulled : (k : ℕ) (side : Side) → 0 < length (filter (is_owed_at k side) move.plain.owed)
      → IsNulled (child_at (λ e. m (Entry Child e)) g.bundles (m Stamp))
      (child_at (λ e. m (Entry Child e)) (meaning_after m g v u move tree).bundles (m Stamp + 1)) g.tree k side
  -- and each link to be set that leads to none after is one whose tag is owed
  pub nulls : (k : ℕ) (side : Side) → Sets k side move.plain.unset
      → child_at (λ e. m (Entry Child e)) (meaning_after m g v u move tree).bundles (m Stamp + 1) side k ≡ 0
      → owes k side move.plain.owed ≡ true
  -- the new node's links lead to the children of its entries, and its tags are 0
  pub new : (k : ℕ) (side : Side) → 0 < count k (listed move.added)
      → (m (Node (Link side) k) ≡ child_of_entry (λ e. m (Entry Child e)) (m (Node (Head side) k))) × (m (Node (Tag side) k) ≡ 0)

pub record MovesTree (m : Memory) (g : Meaning) (v : View) (u : Update) (move : TreeMove) (tree : NamedTree) : Type 0 where
  -- the new node is a free slot of the seat, and is not marked
  pub added : (k : ℕ) → 0 < count k (listed move.added) → (0 < count k v.free.nodes) × (m (Node Mark k) ≡ 0)
  -- the entries are the heads of its bundles: different fresh entries of the seat
  pub entries : move.entries ≡ new_entries m move.added
  pub fresh : (e : ℕ) → 0 < count e move.entries → (0 < count e v.free.entries) × (m (Entry Number e) ≡ 0) × (m (Entry Next e) ≡ 0)
  pub once : (e : ℕ) → count e move.entries ≤ 1
  -- what is taken out is locked, and its entries are those of its bundles
  pub locked : (k : ℕ) → 0 < count k move.taken → 0 < lock_count k v
  pub taken_entries : (e : ℕ) → count e move.taken_entries ≡ linked_in g.bundles e move.taken
  -- the nodes of the tree
  pub slots : MovesSlots move.taken (listed move.added) g.tree tree
  -- the tree is spelled at the next number
  pub version : IsVersion (λ k. m (Node Key k)) (λ k. m (Node Val k)) (λ e. m (Entry Child e)) (meaning_after m g v u move tree).bundles
      (meaning_after m g v u move tree).updates (m Stamp + 1) tree
  -- a link that is null before and after has as wide a gap, or a wider one
  pub gaps : (k z : ℕ) (side : Side) → 0 < occurs k g.tree → 0 < occurs k tree
      → IsNullAtBoth (λ e. m (Entry Child e)) (meaning_after m g v u move tree).bundles (m Stamp) (m Stamp + 1) side k
      → IsInGap side (m (Node Key k)) z g.tree → IsInGap side (m (Node Key k)) z tree
  pub plain : MovesPlain m g v u move tree
