-- The stamp: no event but a raise stores to it.
use Rattle.std.proofs.Common.{◌≡◌, ℕ, List, length, true, refl, Option, Some}
use Rattle.index_words.specs.declared.layout.Layout.{Layout}
use Rattle.key_map.specs.declared.update.Update.{Update}
use Rattle.index_words.specs.declared.view.View.{View}
use Rattle.index_words.specs.declared.word.Word.{Word}
use Rattle.index_words.specs.declared.word.Word.TheVariants.{Stamp}
use Rattle.index_words.specs.Words.{Memory, memory, word_at, word_count}
use Rattle.core_events.specs.declared.event.Kind.{Kind}
use Rattle.core_events.specs.declared.event.Kind.TheVariants.{Raise}
use Rattle.core_events.specs.Steps.{needs, words_after}
use Rattle.core_invariant.proofs.WordPrints.{word_keeps}

module _ (z : Layout) (words : List ℕ) (vs : List View) (i : ℕ) (v : View) (at : ℕ) (w : Word) (long : length words ≡ word_count z)
    (found : word_at z at ≡ Some w) (value : ℕ) (o : Option Update) where
  abbrev m : Memory
  m = memory z words

  -- the stamp after an event of the kind
  abbrev Stays : Kind → Type 0
  Stays kind = memory z (words_after kind words at value) Stamp ≡ memory z words Stamp

  pub stamp_stays : (kind : Kind) → (kind ≡ Raise → ⊥) → needs kind z m vs i v w value o ≡ true → Stays kind
  stamp_stays Raise other met = absurd (other refl)
  stamp_stays kind other met = word_keeps z words vs i v at w long found value o kind Stamp refl met
