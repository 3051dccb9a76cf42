-- A raised put of an absent key: its search on plain links has found the gap of the key in the plain tree.
use Rattle.std.proofs.Common.{◌≡◌, ℕ, ◌<◌, ◌⊎◌, List, true, eqb, ◌&&◌, subst, inl, inr, Option, Some, None}
use Rattle.std.specs.List.{list_any}
use Rattle.std.proofs.lemmas.Bool.{and_parts, eqb-true}
use Rattle.index_words.specs.declared.layout.Layout.{Layout}
use Rattle.index_words.specs.declared.side.Side.{Side}
use Rattle.index_words.specs.declared.side.Side.TheVariants.{Right}
use Rattle.index_words.specs.declared.view.View.{View}
use Rattle.index_words.specs.declared.view.reading.Link.{Link as ViewLink}
use Rattle.index_words.specs.declared.view.reading.LinkSource.{LinkSource}
use Rattle.index_words.specs.declared.view.reading.LinkSource.TheVariants.{Plain}
use Rattle.index_words.specs.declared.word.Field.TheVariants.{Link, Tag}
use Rattle.index_words.specs.declared.word.Word.TheVariants.{Node}
use Rattle.index_words.specs.Words.{Memory, same_side}
use Rattle.key_map.specs.Lists.{Every, IsItem}
use Rattle.core_trees.specs.NamedTree.{NamedTree}
use Rattle.core_trees.specs.Slots.{occurs}
use Rattle.core_trees.specs.SpelledTree.{Graph}
use Rattle.core_events.specs.Searches.{is_between, is_gap_found, is_gap_link}
use Rattle.core_events.specs.TreeMoves.{has_gap}
use Rattle.core_events.proofs.Tests.{never}
use Rattle.core_invariant.specs.Locks.{lock_count}
use Rattle.core_invariant.specs.Meanings.{Meaning}
use Rattle.core_invariant.specs.PlainRule.{PlainRight}
use Rattle.core_invariant.specs.PlainTree.{undone, IsPlainTree}
use Rattle.core_invariant.specs.Reached.{plain_graph}
use Rattle.core_invariant.specs.SearchRule.{waits, ClaimsAt, SourceClaims, LinkClaims, SourceKeys, LinkKeys, SearchRight}
use Rattle.core_invariant.specs.Rule.{Rule}
use Rattle.core_invariant.proofs.Passing.{Passing as Found, passing, both_hold}
use Rattle.core_invariant.proofs.Sides.{same_side-true}
use Rattle.core_kept.proofs.LinkItems.{locked_in}
use Rattle.core_invariant.proofs.Undone.{no_links, waiting_out, stays, orderly}
use Rattle.core_kept.proofs.WalkSteps.{between_is}
use Rattle.plain_trees.specs.Matching.{Undone}
use Rattle.plain_trees.specs.NullLinks.{turn_of}
use Rattle.plain_trees.specs.Points.{point_of, EndsAtNull, IsInTurns}
use Rattle.plain_trees.proofs.NullLinks.{ends-plain}

-- what a remembered null link says of its node, where the key is between the keys of its turns
record GapFound (key_of : ℕ → ℕ) (claims : Option ℕ → Option ℕ → ℕ → Type 0) (key node : ℕ) (side : Side) : Type 0 where
  low : Option ℕ
  high : Option ℕ
  inside : IsInTurns low high (point_of key)
  claimed : claims low high node
  root : node ≡ 0 → side ≡ Right
  turned : (node ≡ 0 → ⊥) → turn_of side low high ≡ Some (key_of node)

found_by : (key_of : ℕ → ℕ) (claims : Option ℕ → Option ℕ → ℕ → Type 0) (key tag node child : ℕ) (side : Side) (s : LinkSource) → is_gap_found key tag s ≡ true
    → child ≡ 0
    → SourceClaims claims node child s → SourceKeys key_of node side s → GapFound key_of claims key node side
found_by key_of claims key tag node child side (Plain (Some found) above below) is null claimed keys =
    let parts = and_parts (eqb found tag) (is_between below above key) is in
    record { low = below; high = above; inside = between_is below above key parts.1; claimed = claimed null; root = keys.0; turned = keys.1 }
found_by key_of claims key tag node child side _ is null claimed keys = absurd (never is)

module _ (z : Layout) (m : Memory) (vs : List View) (g : Meaning) (rule : Rule z m vs g) (plain : PlainRight m vs g) (W : NamedTree)
    (trees : IsPlainTree (plain_graph m) vs g.tree W) (i : ℕ) (v : View) (at : IsItem vs i v) (quiet : v.update.raised ≡ None) where
  abbrev gr : Graph
  gr = plain_graph m

  abbrev u0 : Undone
  u0 = undone (plain_graph m) vs

  abbrev C : Option ℕ → Option ℕ → ℕ → Type 0
  C = ClaimsAt (plain_graph m) vs W v

  gap_at : (key k : ℕ) (side : Side) → SearchRight gr vs g.tree W v → has_gap m v key k side ≡ true → GapFound gr.key C key k side
  gap_at key k side search is =
      let tag : ℕ = m (Node (Tag side) k) in
      let P : ViewLink → Type 0 = λ l. LinkClaims C l × LinkKeys gr.key l in
      let parts = and_parts (eqb (m (Node (Link side) k)) 0) (list_any (is_gap_link k side key tag) v.reading.links) is in
      let all : Every P v.reading.links = both_hold (LinkClaims C) (LinkKeys gr.key) v.reading.links (search.links quiet) search.keys in
      let f : Found (is_gap_link k side key tag) P = passing (is_gap_link k side key tag) P v.reading.links all parts.1 in
      let l : ViewLink = f.item in
      let one = and_parts (eqb l.node k && same_side l.side side && eqb l.child 0) (is_gap_found key tag l.source) f.passes in
      let two = and_parts (eqb l.node k && same_side l.side side) (eqb l.child 0) one.0 in
      let three = and_parts (eqb l.node k) (same_side l.side side) two.0 in
      subst (λ (s : Side). GapFound gr.key C key k s) (same_side-true l.side side three.1)
      (subst (λ n. GapFound gr.key C key n l.side) (eqb-true l.node k three.0)
      (found_by gr.key C key tag l.node l.child l.side l.source one.1 (eqb-true l.child 0 two.1) f.right.0 f.right.1))

  -- the search for the key ends at the link in the plain tree
  pub gap_ends : (key k : ℕ) (side : Side) → SearchRight gr vs g.tree W v → 0 < lock_count k v → (k ≡ 0) ⊎ (0 < occurs k g.tree) → has_gap m v key k side ≡ true
      → EndsAtNull (point_of key) k side 0 Right W
  gap_ends key k side search locked there is =
      let gap = gap_at key k side search is in
      let parts = and_parts (eqb (m (Node (Link side) k)) 0) (list_any (is_gap_link k side key (m (Node (Tag side) k))) v.reading.links) is in
      ends-plain gr u0 (waits vs v) W k key side gap.low gap.high (orderly z m vs g rule gr) (waiting_out z m vs g rule W trees v) trees.spelled
      (record {
        there = stays z m vs g rule gr k there;
        reached = elim there as (λ _. (k ≡ 0) ⊎ (0 < occurs k W)) [
          | inl root ↦ inl root
          | inr here ↦ inr (locked_in z m vs g rule plain W trees i v at k locked here)
        ];
        settled = no_links z m vs g rule W trees plain i v at quiet k locked there side;
        null = eqb-true (m (Node (Link side) k)) 0 parts.0;
        root = gap.root;
        turned = gap.turned;
        claims = gap.claimed;
      })
      gap.inside
