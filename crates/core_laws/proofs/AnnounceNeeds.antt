-- A seat whose view shows that it may announce, take its announcement back, or look at another pass's may do so.
use Rattle.std.proofs.Common.{◌≡◌, ℕ, ◌+◌, ◌<◌, List, length, true, not, eqb, cond, ◌&&◌, refl, ap, ◌∙◌, subst, Some, is_none, is_some}
use Rattle.std.specs.List.{slice_get}
use Rattle.std.proofs.lemmas.Bool.{eq-eqb}
use Rattle.index_words.specs.declared.layout.Layout.{Layout}
use Rattle.index_words.specs.declared.view.View.{View}
use Rattle.index_words.specs.declared.word.Word.TheVariants.{Announced}
use Rattle.index_words.specs.Words.{is_there}
use Rattle.core_grace.specs.Batches.{is_number}
use Rattle.core_events.specs.declared.event.Kind.TheVariants.{Announce, LookAnn}
use Rattle.core_events.specs.Announcing.{is_own_announced, is_announcement}
use Rattle.core_events.specs.Steps.{allowed}
use Rattle.core_events.specs.Tables.{Table}
use Rattle.core_invariant.specs.Rule.{InRule}
use Rattle.core_invariant.proofs.OneView.{item_from_get, seat_at}
use Rattle.core_invariant.proofs.Idle.{number_low}
use Rattle.core_laws.specs.ViewNeeds.{event_at, MayAnnounce, MayTakeBack, MayLookAnn, AnnounceLaw, TakeBackLaw, LookAnnLaw}
use Rattle.core_laws.proofs.ViewTests.{both, below, not_of, none_is, other_number}
use Rattle.core_laws.proofs.AtWork.{alive, named_alive, allowed_by}
use Rattle.index_words.specs.Words.{memory}

module _ (z : Layout) (words : List ℕ) (vs : List View) (right : InRule z words vs) (i : ℕ) (v : View) (is : slice_get vs i ≡ Some v) where
  abbrev t : Table
  t = record { layout = z; words = words; views = vs }

  own_is : (n : ℕ) → v.number ≡ Some n → is_own_announced v.number (Announced n) ≡ true
  own_is n own = ap (λ o. is_own_announced o (Announced n)) own ∙ eq-eqb n n refl

  own_there : (n : ℕ) → v.number ≡ Some n → is_there z (Announced n) ≡ true
  own_there n own = below n z.passes (number_low z vs i v n right.rule.numbers (item_from_get vs i v is) own)

  -- the value is an announcement
  stores : (n value : ℕ) → v.number ≡ Some n → is_announcement v value ≡ true → allowed t (event_at z i Announce (Announced n) value) ≡ true
  stores n value own announces =
      allowed_by z words vs right i v is Announce (Announced n) value (named_alive z words vs right i v is n own) (own_there n own) refl
      (both (is_own_announced v.number (Announced n)) (is_announcement v value) (own_is n own) announces)

  announce_may : (n : ℕ) → MayAnnounce v n → allowed t (event_at z i Announce (Announced n) (length v.history.seen + 1)) ≡ true
  announce_may n may =
      let value : ℕ = length v.history.seen + 1 in
      stores n value may.own
      (ap (λ b. cond b (eqb value 0) (is_none v.reading.section && eqb value value)) may.inside
      ∙ both (is_none v.reading.section) (eqb value value) (none_is v.reading.section may.unread) (eq-eqb value value refl))

  take_back_may : (n : ℕ) → MayTakeBack v n → allowed t (event_at z i Announce (Announced n) 0) ≡ true
  take_back_may n may = stores n 0 may.own (ap (λ b. cond b (eqb 0 0) (is_none v.reading.section && eqb 0 (length v.history.seen + 1))) may.even)

  look_ann_may : (pass : ℕ) → MayLookAnn v pass → allowed t (event_at z i LookAnn (Announced pass) 0) ≡ true
  look_ann_may pass may =
      let live = alive z words vs right i v is (λ (x : View). is_some x.reading.section ≡ true) may.reads (λ none. cc) in
      let seat = seat_at z (memory z words) vs right.meaning i v (item_from_get vs i v is) right.rule in
      allowed_by z words vs right i v is LookAnn (Announced pass) 0 live (below pass z.passes (subst (λ (y : Layout). pass < y.passes) (seat.layout live) may.there)) refl
      (both (is_some v.reading.section && not (is_number pass v.number)) (eqb 0 0)
      (both (is_some v.reading.section) (not (is_number pass v.number)) may.reads (not_of (is_number pass v.number) (other_number pass v.number may.other))) refl)

pub may_announce_law : AnnounceLaw
may_announce_law z v seat n may words vs right is = announce_may z words vs right seat v is n may

pub may_take_back_law : TakeBackLaw
may_take_back_law z v seat n may words vs right is = take_back_may z words vs right seat v is n may

pub may_look_ann_law : LookAnnLaw
may_look_ann_law z v seat pass may words vs right is = look_ann_may z words vs right seat v is pass may
