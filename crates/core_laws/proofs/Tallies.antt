-- The kinds of events that change no count of a view.
use Rattle.std.proofs.Common.{◌≡◌, ℕ, List, false, refl, ap, Option, Some, None}
use Rattle.index_words.specs.declared.layout.Layout.{Layout}
use Rattle.key_map.specs.declared.update.Update.{Update}
use Rattle.index_words.specs.declared.view.View.{View}
use Rattle.index_words.specs.declared.view.history.SeenHistory.{SeenHistory}
use Rattle.index_words.specs.declared.word.Word.{Word}
use Rattle.index_words.specs.Words.{Memory}
use Rattle.core_events.specs.declared.event.Kind.{Kind}
use Rattle.core_events.specs.Steps.{view_after, raised_from}
use Rattle.core_invariant.proofs.Footprints.{touches, keeps}
use Rattle.core_invariant.proofs.Groups.Group.{History, Counting}

-- what of a view a count is
pub record Tally (v w : View) : Type 0 where
  pub counts : w.counts ≡ v.counts
  pub looks : w.history.looks ≡ v.history.looks

pub same_tally : (v : View) → Tally v v
same_tally v = record { counts = refl; looks = refl }

module _ (z : Layout) (m : Memory) (vs : List View) (v : View) (w : Word) (x value : ℕ) (o : Option Update) where
  pub quiet_tally : (kind : Kind) → touches kind Counting ≡ false → touches kind History ≡ false → Tally v (view_after kind z m vs v w x value o)
  quiet_tally kind counting history = record {
    counts = keeps z m vs v x value o kind w Counting counting;
    looks = ap (λ (h : SeenHistory). h.looks) (keeps z m vs v x value o kind w History history);
  }

  pub raised_tally : Tally v (raised_from z m vs v x o)
  raised_tally = by o
    where
      by : (update : Option Update) → Tally v (raised_from z m vs v x update)
      by None = same_tally v
      by (Some u) = record { counts = refl; looks = refl }
