-- The rule on what searches on plain links reach. A seat inside a section holds each node to which plain links lead
-- from where its search stands, last turned, or found a link that it remembers: none of these nodes may be reused.
use Rattle.std.specs.Prelude.{◌≡◌, ℕ, ◌<◌, ◌≤◌, List, Bool, false, not, ◌==◌, ◌&&◌, ◌||◌, Option, Some, None, All, sum_by}
use Rattle.std.specs.List.{list_any}
use Rattle.index_words.specs.declared.layout.Layout.{Layout}
use Rattle.index_words.specs.declared.side.Side.TheVariants.{Right}
use Rattle.index_words.specs.declared.view.View.{View}
use Rattle.index_words.specs.declared.word.Field.TheVariants.{Key, Val, Link}
use Rattle.index_words.specs.declared.word.Word.TheVariants.{Node}
use Rattle.index_words.specs.declared.view.slots.Looks.{Looks}
use Rattle.index_words.specs.declared.view.slots.SectionFound.{SectionFound}
use Rattle.index_words.specs.Words.{Memory}
use Rattle.key_map.specs.Lists.{count, has}
use Rattle.core_grace.specs.Sections.{is_even}
use Rattle.core_grace.specs.Slots.{own_free, nodes_of}
use Rattle.core_trees.specs.SpelledTree.{Graph}
use Rattle.core_events.specs.Searches.{search_nodes}
use Rattle.plain_trees.specs.Reaching.{IsReached}

-- what the keys, the values and the plain links of nodes are
abbrev pub plain_graph : Memory → Graph
plain_graph m = record { key = λ k. m (Node Key k); val = λ k. m (Node Val k); child = λ side k. m (Node (Link side) k) }

-- inside a section plain links lead to the node from one of the nodes of its search
pub record HoldsPlain (g : Graph) (v : View) (k : ℕ) : Type 0 where
  pub inside : is_even v.section_word ≡ false
  pub some : 0 < k
  pub from : ℕ
  pub searched : 0 < count from (search_nodes (g.child Right 0) v.reading)
  pub reached : IsReached g from k

-- the pass was found inside a section with another word than this one
abbrev pub is_late : ℕ → ℕ → SectionFound → Bool
is_late pass word f = f.pass == pass && not (f.word == word)

-- the looks have passed the pass, or found it in an earlier section than the one with this word
abbrev pub has_let : Looks → Option ℕ → ℕ → Bool
has_let looks None word = false
has_let looks (Some pass) word = has pass looks.passed || list_any (is_late pass word) looks.found

-- Each node that is held so is one of the table. None is free, nor in the seat's own batch, nor in the batch of a seat
-- that has passed this one; and before its raise the seat holds none that it has retired itself.
pub record ReachesRight (z : Layout) (g : Graph) (vs : List View) (v : View) : Type 0 where
  pub there : (k : ℕ) → HoldsPlain g v k → k ≤ z.nodes
  pub unheld : (k : ℕ) → HoldsPlain g v k → sum_by (own_free nodes_of k) vs ≡ 0
  pub apart : (k : ℕ) → HoldsPlain g v k → count k v.batch.nodes ≡ 0
  pub own : v.update.raised ≡ None → (k : ℕ) → HoldsPlain g v k → count k v.retired.nodes ≡ 0
  pub grace : All (λ (u : View). (k : ℕ) → HoldsPlain g v k → 0 < count k u.batch.nodes → has_let u.grace v.number v.section_word ≡ false) vs

abbrev pub ReachRight : Layout → Graph → List View → Type 0
ReachRight z g vs = All (ReachesRight z g vs) vs
