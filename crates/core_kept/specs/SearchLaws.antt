-- What is said of the plain tree and of searches on it, after an event that is allowed.
use Rattle.std.specs.Prelude.{◌≡◌, ℕ, List, false, true, All, Option, Some}
use Rattle.index_words.specs.declared.layout.Layout.{Layout}
use Rattle.index_words.specs.declared.view.View.{View}
use Rattle.index_words.specs.declared.word.Word.{Word}
use Rattle.index_words.specs.Words.{memory, word_at}
use Rattle.key_map.specs.declared.update.Update.{Update}
use Rattle.key_map.specs.Lists.{IsItem}
use Rattle.core_trees.specs.NamedTree.{NamedTree}
use Rattle.core_trees.specs.SpelledTree.{Graph}
use Rattle.core_events.specs.declared.event.Kind.{Kind}
use Rattle.core_events.specs.SpelledNow.{tree_now}
use Rattle.core_events.specs.Steps.{needs, carries, words_after, views_after}
use Rattle.core_invariant.specs.PlainTree.{IsPlainTree}
use Rattle.core_invariant.specs.Reached.{plain_graph, ReachRight}
use Rattle.core_invariant.specs.Rule.{InRule}
use Rattle.core_invariant.specs.SearchRule.{SearchRight}

-- the plain tree, what each seat claims, and what it reaches, where `now` is the tree at the stamp
pub record SearchesAfter (z : Layout) (g : Graph) (vs : List View) (now : NamedTree) : Type 0 where
  pub plain_tree : NamedTree
  pub trees : IsPlainTree g vs now plain_tree
  pub searches : All (SearchRight g vs now plain_tree) vs
  pub reach : ReachRight z g vs

-- an event of this kind that is allowed, and raises no stamp, keeps all of it
abbrev pub KeepsSearchesAt : Kind → Type 0
KeepsSearchesAt kind =
    (z : Layout) (words : List ℕ) (vs : List View) (right : InRule z words vs) (i : ℕ) (v : View) → IsItem vs i v → v.joined ≡ false
    → (n : ℕ) (w : Word) → word_at z n ≡ Some w → (value : ℕ) (o : Option Update) → carries kind v o ≡ true
    → needs kind z (memory z words) vs i v w value o ≡ true
    → SearchesAfter z (plain_graph (memory z (words_after kind words n value))) (views_after kind z (memory z words) vs i v w value o) right.meaning.tree

-- an event of this kind that is allowed keeps it over the tree that the words spell then, as for a raise
abbrev pub KeepsSearchesNow : Kind → Type 0
KeepsSearchesNow kind =
    (z : Layout) (words : List ℕ) (vs : List View) (right : InRule z words vs) (i : ℕ) (v : View) → IsItem vs i v → v.joined ≡ false
    → (n : ℕ) (w : Word) → word_at z n ≡ Some w → (value : ℕ) (o : Option Update) → carries kind v o ≡ true
    → needs kind z (memory z words) vs i v w value o ≡ true
    → SearchesAfter z (plain_graph (memory z (words_after kind words n value))) (views_after kind z (memory z words) vs i v w value o)
    (tree_now z (memory z (words_after kind words n value)) (views_after kind z (memory z words) vs i v w value o))
