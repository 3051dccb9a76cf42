-- The stamp to which an allowed raise adds one is small.
use Rattle.std.proofs.Common.{◌≡◌, ℕ, ◌+◌, ◌<◌, ◌^◌, List, Bool, true, ap, ◌∙◌, sym, subst, Some, slice_index, arith}
use Rattle.std.specs.List.{slice_get}
use Rattle.std.proofs.lemmas.Option.{get_or_from_slice_get}
use Rattle.index_words.specs.declared.layout.Layout.{Layout}
use Rattle.index_words.specs.declared.view.View.{View}
use Rattle.index_words.specs.declared.word.Word.{Word}
use Rattle.index_words.specs.declared.word.Word.TheVariants.{Stamp}
use Rattle.index_words.specs.Words.{word_at}
use Rattle.index_words.proofs.Seats.{one_term}
use Rattle.index_words.proofs.Store.{word_there}
use Rattle.core_events.specs.declared.event.Event.{Event}
use Rattle.core_events.specs.declared.event.Kind.TheVariants.{Raise}
use Rattle.core_events.specs.Steps.{allowed_at}
use Rattle.core_events.specs.Tables.{Table, held_by}
use Rattle.core_events.proofs.Allowed.{needed, raises, met_now}
use Rattle.core_invariant.specs.Histories.{calls_left}
use Rattle.core_invariant.specs.Rule.{InRule, IsRight}
use Rattle.core_invariant.proofs.OneView.{item_from_get}

pub raise_small : (t : Table) (e : Event) (w : Word) → IsRight t → allowed_at t e (slice_get t.views e.seat) (Some w) ≡ true → e.kind ≡ Raise → held_by t w + 1 < 2 ^ 64
raise_small t e w right met is =
    let raised = raises t e w met is in
    let need = needed t e w met in
    let v : View = need.v in
    let left : 0 < v.history.left = subst (λ (x : View). 0 < x.history.left) (get_or_from_slice_get t.views e.seat v v need.is) (raised.calls.left v) in
    subst (λ (u : Word). held_by t u + 1 < 2 ^ 64) (sym raised.stamp)
    (omega (arith, right.rule.history.calls, right.rule.history.few, left, one_term calls_left t.views e.seat v (item_from_get t.views e.seat v need.is)))

-- the same, of the word that an event names, as code finds it
pub stored_small : (z : Layout) (words ws : List ℕ) (views vs : List View) (e : Event) (w : Word) (met : Bool) → InRule z words views → Some w ≡ word_at z e.word → ws ≡ words → vs ≡ views
    → met ≡ allowed_at (record { layout = z; words = ws; views = vs }) e (slice_get vs e.seat) (Some w) → met ≡ true
    → e.kind ≡ Raise → slice_index words e.word + 1 < 2 ^ 64
stored_small z words ws views vs e w met right found same_words same_views is_met held is =
    let t : Table = record { layout = z; words = words; views = views } in
    let now = met_now z words ws views vs e w met same_words same_views is_met held in
    let raised = raises t e w now is in
    let at : 0 ≡ e.word = (word_there z e.word Stamp (sym found ∙ ap Some raised.stamp)).1 in
    let small : held_by t Stamp + 1 < 2 ^ 64 = subst (λ (u : Word). held_by t u + 1 < 2 ^ 64) raised.stamp (raise_small t e w right now is) in
    subst (λ n. slice_index words n + 1 < 2 ^ 64) at small
