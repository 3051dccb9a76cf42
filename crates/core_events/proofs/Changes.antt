-- The views after an event, by the kind of the event.
use Rattle.std.proofs.Common.{◌≡◌, ℕ, List, sym, subst, Some, Result, Ok, Err, OnOk}
use Rattle.std.specs.List.{slice_get}
use Rattle.index_words.specs.declared.layout.Layout.{Layout}
use Rattle.index_words.specs.declared.view.View.{View}
use Rattle.index_words.specs.declared.word.Word.{Word}
use Rattle.index_words.specs.Words.{memory}
use Rattle.core_events.specs.declared.event.Event.{Event}
use Rattle.core_events.specs.declared.event.Kind.{Kind}
use Rattle.core_events.specs.Steps.{views_after, IsChange}

pub on_ok : {T E P Q : Type 0} (r : Result T E) → (P → Q) → OnOk r P → OnOk r Q
on_ok (Ok x) step holds = step holds
on_ok (Err e) step holds = holds

-- what the views are after an event of this kind
pub change_of : (z : Layout) (words : List ℕ) (vs : List View) (e : Event) (w : Word) (changed : List View) (k : Kind) → e.kind ≡ k
    → ((v : View) → slice_get vs e.seat ≡ Some v → changed ≡ views_after k z (memory z words) vs e.seat v w e.value e.update)
    → IsChange z words vs e w changed
change_of z words vs e w changed k is all v found =
    subst (λ (j : Kind). changed ≡ views_after j z (memory z words) vs e.seat v w e.value e.update) (sym is) (all v found)
