-- The plain tree, what searches claim and what they reach, after a fill of a word of a free slot.
use Rattle.std.proofs.Common.{◌≡◌, ℕ, ◌<◌, List, not, true, set, sym}
use Rattle.std.specs.List.{All}
use Rattle.std.proofs.lemmas.Bool.{and_parts}
use Rattle.index_words.specs.declared.layout.Layout.{Layout}
use Rattle.index_words.specs.declared.side.Side.TheVariants.{Left, Right}
use Rattle.index_words.specs.declared.view.View.{View}
use Rattle.index_words.specs.declared.word.Field.{Field}
use Rattle.index_words.specs.declared.word.Field.TheVariants.{Key, Val, Link}
use Rattle.index_words.specs.declared.word.Word.{Word}
use Rattle.index_words.specs.declared.word.Word.TheVariants.{Node, Entry}
use Rattle.index_words.specs.Words.{Memory, memory, written}
use Rattle.key_map.specs.Lists.{count, has, IsItem}
use Rattle.key_map.proofs.Counting.{has-count}
use Rattle.core_grace.specs.Sections.{is_even}
use Rattle.core_trees.specs.SpelledTree.{Graph, SameAt}
use Rattle.core_events.specs.declared.event.Kind.TheVariants.{Fill}
use Rattle.core_events.specs.FillMoves.{filled_view}
use Rattle.core_events.specs.Needs.{is_lock, may_fill}
use Rattle.core_events.proofs.Tests.{never}
use Rattle.core_invariant.specs.PlainTree.{IsPlainTree}
use Rattle.core_invariant.specs.Reached.{plain_graph, ReachRight}
use Rattle.core_invariant.specs.Rule.{InRule}
use Rattle.core_invariant.specs.SearchRule.{ClaimsAt, SearchRight}
use Rattle.core_invariant.proofs.Filled.{node_other}
use Rattle.core_kept.specs.SearchLaws.{SearchesAfter, KeepsSearchesAt}
use Rattle.core_kept.proofs.FreeStores.{trees_framed, searches_framed, reach_framed}
use Rattle.core_kept.proofs.QuietKinds.{filled_quiet}
use Rattle.core_kept.proofs.ReachSteps.{filled_calm}
use Rattle.core_kept.proofs.SearchKept.{quiet_after}
use Rattle.core_kept.proofs.SearchMoves.{NoClaims}
use Rattle.core_kept.proofs.SearchStores.{stored}

module _ (z : Layout) (words : List ℕ) (vs : List View) (right : InRule z words vs) (i : ℕ) (v : View) (at : IsItem vs i v) (value : ℕ) where
  abbrev m : Memory
  m = memory z words

  abbrev gr0 : Graph
  gr0 = plain_graph m

  -- the view that has filled the word, over what the words hold then
  filled : (w : Word) (g' : Graph) → IsPlainTree g' vs right.meaning.tree right.plain_tree → All (SearchRight g' vs right.meaning.tree right.plain_tree) vs
      → ReachRight z g' vs
      → SearchesAfter z g' (set vs i (filled_view v w value)) right.meaning.tree
  filled w g' trees searches reach =
      quiet_after z g' vs right.meaning.tree right.plain_tree trees searches reach i v at (filled_view v w value)
      (filled_calm v w value (is_even v.section_word))
      (filled_quiet NoClaims g'.key v w value (is_even v.section_word))
      (filled_quiet (ClaimsAt g' vs right.plain_tree v) g'.key v w value (is_even v.section_word))

  same_others : (f : Field) (k j : ℕ) → (j ≡ k → ⊥) → SameAt gr0 (plain_graph (written m (Node f k) value)) j
  same_others f k j apart = record {
    key = sym (node_other m f Key k j value apart);
    val = sym (node_other m f Val k j value apart);
    left = sym (node_other m f (Link Left) k j value apart);
    right = sym (node_other m f (Link Right) k j value apart);
  }

  fill_node : (f : Field) (k : ℕ) → 0 < count k v.free.nodes
      → SearchesAfter z (plain_graph (written m (Node f k) value)) (set vs i (filled_view v (Node f k) value)) right.meaning.tree
  fill_node f k free =
      let g' : Graph = plain_graph (written m (Node f k) value) in
      filled (Node f k) g'
      (trees_framed z m vs right.meaning right.rule right.plain right.plain_tree right.trees right.searches right.reach i v at k free g' (same_others f k))
      (searches_framed z m vs right.meaning right.rule right.plain right.plain_tree right.trees right.searches right.reach i v at k free g' (same_others f k))
      (reach_framed z m vs right.meaning right.rule right.plain right.plain_tree right.trees right.searches right.reach i v at k free g' (same_others f k))

  pub fill_after : (w : Word) → may_fill v w ≡ true → SearchesAfter z (plain_graph (written m w value)) (set vs i (filled_view v w value)) right.meaning.tree
  fill_after (Node f k) met = fill_node f k (has-count k v.free.nodes (and_parts (not (is_lock f)) (has k v.free.nodes) met).1)
  fill_after (Entry p e) met = filled (Entry p e) gr0 right.trees right.searches right.reach
  fill_after _ met = absurd (never met)

pub fill_searches : KeepsSearchesAt Fill
fill_searches z words vs right i v at live n w found value o own met =
    stored z words vs right i v at n w found value (set vs i (filled_view v w value)) (fill_after z words vs right i v at value w met)
