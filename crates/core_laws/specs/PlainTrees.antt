-- What the rule says of plain links. Each link of the tree at the stamp that no update has still to set leads where the
-- tree does; so at rest the plain links spell the tree at the stamp, word for word.
use Rattle.std.specs.Prelude.{◌≡◌, ℕ, ◌+◌, ◌^◌, ◌<◌, ◌≤◌, List, [], false, true, All, Some}
use Rattle.std.specs.List.{list_any, slice_get}
use Rattle.index_words.specs.declared.layout.Layout.{Layout}
use Rattle.index_words.specs.declared.side.Side.{Side}
use Rattle.index_words.specs.declared.side.Side.TheVariants.{Right}
use Rattle.index_words.specs.declared.view.View.{View}
use Rattle.index_words.specs.declared.word.Field.TheVariants.{Key, Val, Link, Tag}
use Rattle.index_words.specs.declared.word.Word.TheVariants.{Stamp, Node}
use Rattle.index_words.specs.Words.{Memory, memory}
use Rattle.core_trees.specs.LinkSteps.{IsLinkIn}
use Rattle.core_trees.specs.SpelledTree.{Graph, IsSpelled}
use Rattle.core_events.specs.Numbered.{entry_number}
use Rattle.core_events.specs.PlainNeeds.{is_link_of, owes}
use Rattle.core_events.specs.SpelledNow.{child_now, tree_now}
use Rattle.core_events.specs.Tables.{Table, held_by}
use Rattle.core_invariant.specs.LinkLaw.{IsBundleOf}
use Rattle.core_invariant.specs.PlainRule.{greatest_in}
use Rattle.core_invariant.specs.Rule.{InRule, IsRight}

-- what the keys, the values and the plain links of nodes are
abbrev pub plain_graph : Memory → Graph
plain_graph m = record { key = λ k. m (Node Key k); val = λ k. m (Node Val k); child = λ side k. m (Node (Link side) k) }

-- no update has a plain link still to set
abbrev pub HasSetAll : List View → Type 0
HasSetAll vs = All (λ (v : View). v.update.unset ≡ []) vs

-- then the plain links spell the tree at the stamp
abbrev pub PlainTreeLaw : Type 0
PlainTreeLaw =
    (t : Table) → IsRight t → HasSetAll t.views
    → IsSpelled (plain_graph (held_by t)) (held_by t (Node (Link Right) 0)) (tree_now t.layout (held_by t) t.views)

-- the link is one of the tree at the stamp
abbrev pub IsTreeLink : Table → ℕ → Side → Type 0
IsTreeLink t k side = IsLinkIn 0 Right (tree_now t.layout (held_by t) t.views) k side

-- a link of that tree that no update has still to set holds the child that the tree has there, even while others are to
-- be set
abbrev pub PlainLinkLaw : Type 0
PlainLinkLaw =
    (t : Table) (k : ℕ) (side : Side) → IsRight t → IsTreeLink t k side → All (λ (v : View). list_any (is_link_of k side) v.update.unset ≡ false) t.views
    → held_by t (Node (Link side) k) ≡ child_now (held_by t) t.views [] side k

-- the tag of a link of that tree is at most the greatest number of the link's bundle
abbrev pub PlainTagLaw : Type 0
PlainTagLaw =
    (t : Table) (k : ℕ) (side : Side) (es : List ℕ) → IsRight t → IsTreeLink t k side → IsBundleOf (held_by t) side k es
    → held_by t (Node (Tag side) k) ≤ greatest_in (entry_number (held_by t) t.views) (held_by t Stamp) es

-- and it is so with one more for each raise that is still owed, so that a word has room for it
abbrev pub TagRoomLaw : Type 0
TagRoomLaw =
    (z : Layout) (words : List ℕ) (vs : List View) (seat : ℕ) (v : View) (k : ℕ) (side : Side) → InRule z words vs → slice_get vs seat ≡ Some v
    → owes k side v.update.owed ≡ true → memory z words (Node (Tag side) k) + 1 < 2 ^ 64
