-- The tree at the stamp, as it is read from the words. In a bundle only the head may be without a number, so the newest
-- entry that has one is the head or the entry after it.
use Rattle.std.specs.Prelude.{ℕ, ◌+◌, zero, suc, List, [], ◌∷◌, cond, nat_lt, nat_le, Bool, not, ◌==◌, ◌&&◌, ◌||◌, is_none}
use Rattle.std.specs.List.{list_any}
use Rattle.index_words.specs.declared.layout.Layout.{Layout}
use Rattle.index_words.specs.declared.side.Side.{Side}
use Rattle.index_words.specs.declared.side.Side.TheVariants.{Left, Right}
use Rattle.index_words.specs.declared.view.View.{View}
use Rattle.index_words.specs.declared.word.Field.TheVariants.{Key, Val, Head}
use Rattle.index_words.specs.declared.word.Part.TheVariants.{Child, Stamp as Number, Next}
use Rattle.index_words.specs.declared.word.Word.TheVariants.{Stamp, Node, Entry}
use Rattle.index_words.specs.Words.{Memory}
use Rattle.key_map.specs.Lists.{has}
use Rattle.core_links.specs.Bundle.{child_of_entry}
use Rattle.core_trees.specs.NamedTree.{NamedTree, Null, Branch}
use Rattle.core_trees.specs.SpelledTree.{Graph}

-- the entry is pending in a view that has raised
abbrev pub was_raised : ℕ → List View → Bool
was_raised e vs = list_any (λ (v : View). not (is_none v.update.raised) && has e v.update.pending) vs

-- the entry has a number: a written one, or that of a raise; those of `more` have one too
abbrev pub has_number : Memory → List View → List ℕ → ℕ → Bool
has_number m vs more e = not (m (Entry Number e) == 0) || was_raised e vs || has e more

-- the newest entry that has a number, in a bundle with this head
abbrev pub newest : (ℕ → Bool) → (ℕ → ℕ) → ℕ → ℕ
newest numbered next head = cond (head == 0 || numbered head) head (next head)

-- the child of a link, if the entries of `more` have a number too
abbrev pub child_now : Memory → List View → List ℕ → Side → ℕ → ℕ
child_now m vs more side k =
    child_of_entry (λ e. m (Entry Child e)) (newest (has_number m vs more) (λ e. m (Entry Next e)) (m (Node (Head side) k)))

abbrev pub graph_now : Memory → List View → List ℕ → Graph
graph_now m vs more = record { key = λ k. m (Node Key k); val = λ k. m (Node Val k); child = child_now m vs more }

-- the tree from a child on, at most `depth` links deep, of nodes up to `last`
abbrev pub tree_from : ℕ → ℕ → Graph → ℕ → NamedTree
tree_from zero last g c = Null
tree_from (suc depth) last g c =
    cond (nat_lt 0 c && nat_le c last)
    (Branch c (g.key c) (g.val c) (tree_from depth last g (g.child Left c)) (tree_from depth last g (g.child Right c))) Null

-- the tree at the stamp. It has no more nodes than there were updates, so it is followed as many links down
abbrev pub tree_now : Layout → Memory → List View → NamedTree
tree_now z m vs = tree_from (m Stamp) z.nodes (graph_now m vs []) (child_now m vs [] Right 0)

-- at most so many entries of a bundle, from its head on, of entries up to `last`
abbrev pub entries_from : ℕ → ℕ → (ℕ → ℕ) → ℕ → List ℕ
entries_from zero last next head = []
entries_from (suc n) last next head = cond (nat_lt 0 head && nat_le head last) (head ∷ entries_from n last next (next head)) []

-- the entries from this one on, as the words have them. The numbers of a bundle fall, so that it has at most one entry
-- more than there were updates
abbrev pub entries_on : Layout → Memory → ℕ → List ℕ
entries_on z m e = entries_from (m Stamp + 1) z.entries (λ d. m (Entry Next d)) e

-- the bundle of a link, as the words have it
abbrev pub bundle_now : Layout → Memory → Side → ℕ → List ℕ
bundle_now z m side k = entries_on z m (m (Node (Head side) k))
