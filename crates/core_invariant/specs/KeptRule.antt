-- The rule after an allowed event, kind by kind. Each crate of kinds of events proves it for its kinds.
use Rattle.std.specs.Prelude.{◌≡◌, ℕ, List, true, false, Option, Some, length}
use Rattle.index_words.specs.declared.layout.Layout.{Layout}
use Rattle.key_map.specs.declared.update.Update.{Update}
use Rattle.index_words.specs.declared.view.View.{View}
use Rattle.index_words.specs.declared.word.Word.{Word}
use Rattle.index_words.specs.Words.{memory, word_at, word_count}
use Rattle.core_events.specs.declared.event.Kind.{Kind}
use Rattle.core_invariant.specs.Rule.{InRule}
use Rattle.core_invariant.specs.LinkLaw.{Kept}
use Rattle.core_events.specs.Steps.{needs, carries, words_after, views_after}
use Rattle.key_map.specs.Lists.{IsItem}

-- the rule after an event, under a meaning that selects the same as the one before
pub record After (z : Layout) (words : List ℕ) (vs : List View) (right : InRule z words vs) (words' : List ℕ) (ws : List View) : Type 0 where
  pub size : length words' ≡ word_count z
  pub kept : Kept z (memory z words) vs right.meaning (memory z words') ws

-- an event of this kind that is allowed keeps the rule, and what each number that is read selects
abbrev pub KeepsRuleAt : Kind → Type 0
KeepsRuleAt kind =
    (z : Layout) (words : List ℕ) (vs : List View) (right : InRule z words vs) (i : ℕ) (v : View) → IsItem vs i v → v.joined ≡ false
    → (n : ℕ) (w : Word) → word_at z n ≡ Some w → (value : ℕ) (o : Option Update) → carries kind v o ≡ true
    → needs kind z (memory z words) vs i v w value o ≡ true
    → After z words vs right (words_after kind words n value) (views_after kind z (memory z words) vs i v w value o)
