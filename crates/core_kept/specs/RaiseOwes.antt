-- What a raise leaves to be done at the tags of plain links.
use Rattle.std.specs.Prelude.{◌≡◌, ℕ, ◌<◌, List, [], true, Option, Some}
use Rattle.index_words.specs.declared.layout.Layout.{Layout}
use Rattle.index_words.specs.declared.side.Side.{Side}
use Rattle.index_words.specs.declared.side.Side.TheVariants.{Right}
use Rattle.index_words.specs.declared.view.View.{View}
use Rattle.index_words.specs.declared.word.Word.TheVariants.{Stamp}
use Rattle.index_words.specs.Words.{Memory, memory, word_at}
use Rattle.key_map.specs.declared.update.Update.{Update}
use Rattle.key_map.specs.Lists.{IsItem}
use Rattle.core_trees.specs.LinkSteps.{IsLinkIn}
use Rattle.core_events.specs.declared.event.Kind.TheVariants.{Raise}
use Rattle.core_events.specs.PlainNeeds.{owes}
use Rattle.core_events.specs.SpelledNow.{child_now, tree_now}
use Rattle.core_events.specs.Steps.{needs, carries, view_after, views_after, words_after}
use Rattle.core_invariant.specs.Rule.{InRule}

-- each link of the tree at the stamp, before and after, that led to a node and leads to none is one whose tag the view
-- owes
abbrev pub OwesNulled : Layout → Memory → List View → Memory → List View → View → Type 0
OwesNulled z m vs m' ws w =
    (k : ℕ) (side : Side) → IsLinkIn 0 Right (tree_now z m vs) k side → IsLinkIn 0 Right (tree_now z m' ws) k side → 0 < child_now m vs [] side k
    → child_now m' ws [] side k ≡ 0 → owes k side w.update.owed ≡ true

-- this holds after a raise that is allowed
abbrev pub OwesLaw : Type 0
OwesLaw =
    (z : Layout) (words : List ℕ) (vs : List View) → InRule z words vs → (i n value : ℕ) (v : View) (o : Option Update) → IsItem vs i v
    → word_at z n ≡ Some Stamp
    → carries Raise v o ≡ true → needs Raise z (memory z words) vs i v Stamp value o ≡ true
    → OwesNulled z (memory z words) vs (memory z (words_after Raise words n value)) (views_after Raise z (memory z words) vs i v Stamp value o)
    (view_after Raise z (memory z words) vs v Stamp (memory z words Stamp) value o)
