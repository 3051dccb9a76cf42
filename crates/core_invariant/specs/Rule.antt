-- The rule of the table, in its parts. It mentions no particular seat's number, so it is the rule both of the pure
-- machine and of the running table.
use Rattle.std.specs.Prelude.{◌≡◌, ℕ, ◌≤◌, ◌==◌, List, length, cond, All, sum_by}
use Rattle.index_words.specs.declared.layout.Layout.{Layout}
use Rattle.index_words.specs.declared.side.Side.{Side}
use Rattle.index_words.specs.declared.view.View.{View}
use Rattle.index_words.specs.declared.word.Field.TheVariants.{Key, Val, Lock, Mark, Tag}
use Rattle.index_words.specs.declared.word.Part.TheVariants.{Child}
use Rattle.index_words.specs.declared.word.Word.TheVariants.{Stamp, Node, Entry}
use Rattle.index_words.specs.Words.{Memory, memory, word_count}
use Rattle.core_grace.specs.Holds.{HoldsNode, HoldsEntry}
use Rattle.core_grace.specs.Slots.{SlotRule}
use Rattle.core_invariant.specs.Meanings.{Meaning, linked_by}
use Rattle.core_invariant.specs.Numbers.{NumbersRight, IsSpare}
use Rattle.core_invariant.specs.Histories.{HistoryRight}
use Rattle.core_invariant.specs.OwnPlaces.{KnowsPlaces}
use Rattle.core_invariant.specs.Locks.{lock_count, TreeUnmarked}
use Rattle.core_invariant.specs.BundleRule.{IsLive, IsBundle, pending_count}
use Rattle.core_trees.specs.NamedTree.{NamedTree}
use Rattle.core_invariant.specs.PlainRule.{PlainRight}
use Rattle.core_invariant.specs.PlainTree.{IsPlainTree}
use Rattle.core_invariant.specs.Reached.{plain_graph, ReachRight}
use Rattle.core_invariant.specs.SearchRule.{SearchRight}
use Rattle.core_invariant.specs.TurnRule.{TurnsRight, LeavesMarked}
use Rattle.core_invariant.specs.StillRule.{StillRight, KnownRight}
use Rattle.core_invariant.specs.LinkRule.{LinksLast}
use Rattle.core_invariant.specs.PruneRule.{PairsRight}
use Rattle.core_invariant.specs.SeatRule.{SeatRight}
use Rattle.core_invariant.specs.SpentViews.{IsSpent}
use Rattle.core_invariant.specs.WaitingSlots.{WaitsRight}
use Rattle.core_invariant.specs.UnusedSlots.{UnusedRight}
use Rattle.core_events.specs.Versions.{IsVersion, slots_of}
use Rattle.core_events.specs.Tables.{Table}

pub record Rule (z : Layout) (m : Memory) (vs : List View) (g : Meaning) : Type 0 where
  pub numbers : NumbersRight z vs
  pub history : HistoryRight z (m Stamp) g.updates vs
  pub slots : SlotRule z (linked_by g) HoldsNode (HoldsEntry g.bundles) vs
  pub locks : (k : ℕ) → sum_by (lock_count k) vs ≡ cond (m (Node Lock k) == 0) 0 1
  pub tree : IsVersion (λ k. m (Node Key k)) (λ k. m (Node Val k)) (λ e. m (Entry Child e)) g.bundles g.updates (m Stamp) g.tree
  pub marks : TreeUnmarked (λ k. m (Node Mark k)) (slots_of g.tree)
  pub bundles : (k : ℕ) → IsLive z vs k → (side : Side) → IsBundle m vs g k side
  pub pairs : PairsRight vs
  pub single : (e : ℕ) → sum_by (pending_count e) vs ≤ 1
  pub seats : All (SeatRight z m g) vs

-- A table that meets the rule. Its plain links lead where they should, one by one and as a tree. Searches on them claim
-- only what holds, reach no node that may be reused, and have what they reach below their turns. Nodes are marked
-- before they leave the plain tree, and nodes that are brought in are linked last. If there is one pass alone, nothing
-- changes except what its seat has set itself. Nothing is left of a view that was joined into another one, and no word
-- of a number that is still to be given is used. Each view knows where its own updates stand, its slots wait as they
-- should, and those that it never used hold 0.
pub record InRule (z : Layout) (words : List ℕ) (vs : List View) : Type 0 where
  pub size : length words ≡ word_count z
  pub meaning : Meaning
  pub rule : Rule z (memory z words) vs meaning
  pub plain : PlainRight (memory z words) vs meaning
  pub plain_tree : NamedTree
  pub trees : IsPlainTree (plain_graph (memory z words)) vs meaning.tree plain_tree
  pub searches : All (SearchRight (plain_graph (memory z words)) vs meaning.tree plain_tree) vs
  pub reach : ReachRight z (plain_graph (memory z words)) vs
  pub turns : All (TurnsRight (plain_graph (memory z words)) plain_tree) vs
  pub leaving : All (LeavesMarked (λ k. memory z words (Node Mark k)) plain_tree) vs
  pub still : All (StillRight z (plain_graph (memory z words)) (λ side k. memory z words (Node (Tag side) k)) plain_tree) vs
  pub known : All (KnownRight z (plain_graph (memory z words)) (λ side k. memory z words (Node (Tag side) k))) vs
  pub linking : All LinksLast vs
  pub spent : All IsSpent vs
  pub spare : All (IsSpare (memory z words)) vs
  pub places : All KnowsPlaces vs
  pub waits : All WaitsRight vs
  pub unused : All (UnusedRight (memory z words)) vs

abbrev pub IsRight : Table → Type 0
IsRight t = InRule t.layout t.words t.views
