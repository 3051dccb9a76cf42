-- The rule on plain links, link by link: each link of the tree at the stamp leads where the tree does, unless an update
-- that has raised still has to set it. This file does not say what plain links reach from the root; `PlainTree.antt`
-- and `Reached.antt` do.
use Rattle.std.specs.Prelude.{◌≡◌, ℕ, ◌+◌, ◌<◌, ◌≤◌, ◌==◌, List, [], length, cond, None, All, sum_by, filter}
use Rattle.index_words.specs.declared.side.Side.{Side}
use Rattle.index_words.specs.declared.side.Side.TheVariants.{Right}
use Rattle.index_words.specs.declared.view.View.{View}
use Rattle.index_words.specs.declared.view.update.OwedTag.{OwedTag}
use Rattle.index_words.specs.declared.view.update.UnsetLink.{UnsetLink}
use Rattle.index_words.specs.declared.word.Field.TheVariants.{Link, Tag}
use Rattle.index_words.specs.declared.word.Part.TheVariants.{Child}
use Rattle.index_words.specs.declared.word.Word.TheVariants.{Stamp, Node, Entry}
use Rattle.index_words.specs.Words.{Memory}
use Rattle.key_map.specs.Lists.{count, Every}
use Rattle.core_grace.specs.Holds.{Bundles, held_slots}
use Rattle.core_links.specs.Bundle.{select, child_of_entry}
use Rattle.core_trees.specs.NamedTree.{NamedTree}
use Rattle.core_trees.specs.LinkSteps.{IsLinkIn}
use Rattle.core_events.specs.PlainNeeds.{is_link_of, is_owed_at}
use Rattle.core_invariant.specs.Meanings.{Meaning}

-- how often a view still has to set the link, and to raise its tag
abbrev pub unset_count : ℕ → Side → View → ℕ
unset_count k side v = length (filter (is_link_of k side) v.update.unset)

abbrev pub owed_count : ℕ → Side → View → ℕ
owed_count k side v = length (filter (is_owed_at k side) v.update.owed)

-- the entry of a link that the number selects
abbrev pub selected_of : Bundles → ℕ → Side → ℕ → ℕ
selected_of b s side k = select b.number s (b.bundle side k)

-- the child that the tree at the number has at a link
abbrev pub child_at : (ℕ → ℕ) → Bundles → ℕ → Side → ℕ → ℕ
child_at child b s side k = child_of_entry child (selected_of b s side k)

-- the greatest number in a bundle, 0 for none: that of the entry which the stamp selects
abbrev pub greatest_in : (ℕ → ℕ) → ℕ → List ℕ → ℕ
greatest_in number s es = cond (select number s es == 0) 0 (number (select number s es))

abbrev pub greatest_of : Bundles → ℕ → Side → ℕ → ℕ
greatest_of b s side k = greatest_in b.number s (b.bundle side k)

-- a link that is still to be set is one of the tree, whose node the seat has locked. It leads where it led before the
-- raise, and is to lead where the tree does
pub record UnsetRight (link child : Side → ℕ → ℕ) (tree : NamedTree) (locked : List ℕ) (u : UnsetLink) : Type 0 where
  pub there : IsLinkIn 0 Right tree u.node u.side
  pub held : 0 < count u.node locked
  pub before : link u.side u.node ≡ u.was
  pub asked : child u.side u.node ≡ u.child

-- a tag that is still to be raised is one of the tree, whose node the seat has locked
pub record OwedRight (tree : NamedTree) (locked : List ℕ) (o : OwedTag) : Type 0 where
  pub there : IsLinkIn 0 Right tree o.node o.side
  pub held : 0 < count o.node locked

-- one seat: before its raise it has nothing to set or to raise
pub record SeatPlain (link child : Side → ℕ → ℕ) (tree : NamedTree) (v : View) : Type 0 where
  pub unset : Every (UnsetRight link child tree (held_slots v.held.nodes)) v.update.unset
  pub owed : Every (OwedRight tree (held_slots v.held.nodes)) v.update.owed
  pub first : v.update.raised ≡ None → (v.update.unset ≡ []) × (v.update.owed ≡ [])

-- over what the links and the tags of nodes hold, and what the tree at the stamp has at each link
pub record LinksRight (link tag child greatest : Side → ℕ → ℕ) (tree : NamedTree) (vs : List View) : Type 0 where
  pub linked : (k : ℕ) (side : Side) → IsLinkIn 0 Right tree k side → sum_by (unset_count k side) vs ≡ 0 → link side k ≡ child side k
  pub tags : (k : ℕ) (side : Side) → IsLinkIn 0 Right tree k side → tag side k + sum_by (owed_count k side) vs ≤ greatest side k
  pub seats : All (SeatPlain link child tree) vs

abbrev pub PlainRight : Memory → List View → Meaning → Type 0
PlainRight m vs g =
    LinksRight (λ s k. m (Node (Link s) k)) (λ s k. m (Node (Tag s) k)) (child_at (λ e. m (Entry Child e)) g.bundles (m Stamp))
    (greatest_of g.bundles (m Stamp)) g.tree vs
