-- A seat that loads an entry's stamp stands at the entry, and one with a section number watches its bundle.
use Rattle.std.proofs.Common.{◌≡◌, ℕ, eqb, ◌&&◌, not, true, is_some, ap, subst, inr, Some}
use Rattle.std.specs.List.{slice_get}
use Rattle.std.proofs.lemmas.Bool.{and_parts}
use Rattle.index_words.specs.declared.view.View.{View}
use Rattle.index_words.specs.declared.word.Part.TheVariants.{Stamp as Number}
use Rattle.index_words.specs.declared.word.Word.TheVariants.{Entry}
use Rattle.index_words.specs.Words.{word_at}
use Rattle.core_events.specs.declared.event.Event.{Event}
use Rattle.core_events.specs.declared.event.Kind.TheVariants.{LoadTs}
use Rattle.core_events.specs.LoadNeeds.{is_part, stands_at, may_load_part}
use Rattle.core_events.specs.Steps.{needs, carries, allowed, allowed_at}
use Rattle.core_events.specs.Tables.{Table, held_by}
use Rattle.core_invariant.proofs.Needed.{standing}
use Rattle.core_laws.specs.Counts.{WatchesBundle}

module _ (t : Table) (e : Event) (v : View) (d : ℕ) (met : allowed t e ≡ true) (at : slice_get t.views e.seat ≡ Some v) (kind : e.kind ≡ LoadTs) (word : word_at t.layout e.word ≡ Some (Entry Number d)) where
  stands : stands_at v.reading.place d ≡ true
  stands =
      let here : allowed_at t e (Some v) (Some (Entry Number d)) ≡ true = subst (λ o. allowed_at t e (Some v) o ≡ true) word (subst (λ o. allowed_at t e o (word_at t.layout e.word) ≡ true) at met) in
      let need = (and_parts (carries e.kind v e.update && not v.joined) (needs e.kind t.layout (held_by t) t.views e.seat v (Entry Number d) e.value e.update) here).1 in
      let may : may_load_part Number v (Entry Number d) e.value ≡ true = subst (λ k. needs k t.layout (held_by t) t.views e.seat v (Entry Number d) e.value e.update ≡ true) kind need in
      (and_parts (is_part Number Number) (stands_at v.reading.place d) (and_parts (is_part Number Number && stands_at v.reading.place d) (eqb e.value 0) may).0).1

  pub watches : (n : ℕ) → v.reading.section ≡ Some n → WatchesBundle v d
  watches n reads =
      let at = standing v d stands in
      record { node = at.node; side = at.side; found = at.found; place = at.here; watched = inr (ap is_some reads) }
