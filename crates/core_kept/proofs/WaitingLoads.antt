-- The slots of a view that wait, after the kinds of events that move none of them: loads, marks, and stores of numbers,
-- plain links and tags. The view reads and works on no other node then.
use Rattle.std.proofs.Common.{◌≡◌, ℕ, ◌<◌, List, ◌++◌, ◌∙◌, sym, subst, [], ◌∷◌}
use Rattle.index_words.specs.declared.view.View.{View}
use Rattle.index_words.specs.declared.view.slots.Slots.{Slots}
use Rattle.index_words.specs.declared.word.Word.{Word}
use Rattle.key_map.specs.Lists.{count}
use Rattle.core_grace.specs.Holds.{ReadsNode, tree_slots, listed}
use Rattle.core_invariant.specs.WaitingSlots.{WaitsRightOf, WaitsRight}
use Rattle.core_invariant.proofs.Groups.{Group}
use Rattle.core_invariant.proofs.Footprints.{Parts, Spares, quiet_part}
use Rattle.core_invariant.proofs.Groups.Group.{Owner, History, Retired, Tree, Locks, Change}
use Rattle.core_events.specs.Steps.{view_after}
use Rattle.core_events.specs.declared.event.Kind.{Kind}
use Rattle.index_words.specs.declared.layout.Layout.{Layout}
use Rattle.key_map.specs.declared.update.Update.{Update}
use Rattle.index_words.specs.Words.{Memory}
use Rattle.std.proofs.Common.{Option}

abbrev pub waits_groups : List Group
waits_groups = Owner ∷ History ∷ Retired ∷ Tree ∷ Locks ∷ Change ∷ []

abbrev waits_of : Parts waits_groups → Type 0
waits_of p =
    WaitsRightOf p.0.number p.1.0.ended p.1.1.0.0 p.1.1.0.1 (tree_slots p.1.1.1.0 ++ (p.1.1.1.1.0 ++ listed p.1.1.1.1.1.0.added))

module _ (v : View) (own_right : WaitsRight v) where
  -- a view with the same slots that reads and works on no other node
  pub less : (u : View) → u.number ≡ v.number → u.history.ended ≡ v.history.ended → u.retired ≡ v.retired → u.batch ≡ v.batch
      → ((k : ℕ) → ReadsNode u k → ReadsNode v k) → WaitsRight u
  less u number ended retired batch reads = record {
    apart = λ k some holds. own_right.apart k (subst (λ (s : Slots). 0 < count k s.nodes) batch some) (reads k holds);
    owned = λ nameless. let none = own_right.owned (sym number ∙ nameless.0, sym ended ∙ nameless.1) in (retired ∙ none.0, batch ∙ none.1);
  }

  -- a kind that touches none of these
  pub quiet : (z : Layout) (m : Memory) (vs : List View) (x value : ℕ) (o : Option Update) (kind : Kind) (w : Word) → Spares kind waits_groups
      → WaitsRight (view_after kind z m vs v w x value o)
  quiet z m vs x value o kind w off = quiet_part z m vs v x value o kind w waits_groups waits_of off own_right
