-- What an allowed event says of its seat.
use Rattle.std.proofs.Common.{◌≡◌, ◌≢◌, ℕ, ◌<◌, ◌≤◌, List, length, Bool, true, false, not, eqb, ◌&&◌, ◌||◌, arith, refl, sym, ◌∙◌, subst, Option, Some, None, is_none}
use Rattle.std.specs.List.{slice_get}
use Rattle.std.proofs.lemmas.Bool.{and_parts, eqb-true}
use Rattle.std.proofs.lemmas.Bool.Decides.{nat_tests}
use Rattle.std.proofs.lemmas.Option.{slice_get_within, get_or_from_slice_get}
use Rattle.index_words.specs.declared.layout.Layout.{Layout}
use Rattle.key_map.specs.declared.update.Update.{Update}
use Rattle.index_words.specs.declared.view.View.{View}
use Rattle.index_words.specs.declared.word.Word.{Word}
use Rattle.index_words.specs.declared.word.Word.TheVariants.{Stamp}
use Rattle.core_events.specs.declared.event.Event.{Event}
use Rattle.core_events.specs.declared.event.Kind.{Kind}
use Rattle.core_events.specs.declared.event.Kind.TheVariants.{SplitSeat, JoinSeat, LoadStamp, Raise}
use Rattle.core_events.specs.Needs.{may_join_found, is_stamp}
use Rattle.core_events.specs.LoadNeeds.{may_load_stamp}
use Rattle.core_events.specs.Announcing.{has_announced}
use Rattle.core_events.specs.UpdateNeeds.{may_raise_number, is_raise_of}
use Rattle.core_events.specs.Tables.{Table, held_by}
use Rattle.core_events.specs.Seats.{HasFree, HasCalls}
use Rattle.core_events.specs.Steps.{needs, carries, allowed_at}
use Rattle.core_events.specs.TreeMoves.{is_tree_step}
use Rattle.core_grace.specs.Sections.{is_even}
use Rattle.core_events.proofs.Tests.{never, none_of, not_equal, not_true, stamp_named}

pub record Needed (t : Table) (e : Event) (w : Word) : Type 0 where
  pub v : View
  pub is : slice_get t.views e.seat ≡ Some v
  pub met : needs e.kind t.layout (held_by t) t.views e.seat v w e.value e.update ≡ true

needed_by : (t : Table) (e : Event) (w : Word) (o : Option View) → slice_get t.views e.seat ≡ o → allowed_at t e o (Some w) ≡ true → Needed t e w
needed_by t e w None is met = absurd (never met)
needed_by t e w (Some v) is met =
    record { v = v; is = is; met = (and_parts (carries e.kind v e.update && not v.joined) (needs e.kind t.layout (held_by t) t.views e.seat v w e.value e.update) met).1 }

pub needed : (t : Table) (e : Event) (w : Word) → allowed_at t e (slice_get t.views e.seat) (Some w) ≡ true → Needed t e w
needed t e w met = needed_by t e w (slice_get t.views e.seat) refl met

pub seat_within : (t : Table) (e : Event) (w : Word) → allowed_at t e (slice_get t.views e.seat) (Some w) ≡ true → e.seat < length t.views
seat_within t e w met = let need = needed t e w met in slice_get_within t.views e.seat need.v need.is

split_met : (t : Table) (e : Event) (w : Word) (k : Kind) (v : View) → e.kind ≡ k → needs e.kind t.layout (held_by t) t.views e.seat v w e.value e.update ≡ true → needs k t.layout (held_by t) t.views e.seat v w e.value e.update ≡ true
split_met t e w k v is met = subst (λ (j : Kind). needs j t.layout (held_by t) t.views e.seat v w e.value e.update ≡ true) is met

one_or_none : (value : ℕ) (a b c : Bool) → eqb value 0 ≡ a → eqb value 1 ≡ b → (a || (b && c)) ≡ true → value ≤ 1
one_or_none value true b c e f met = let none : value ≡ 0 = eqb-true value 0 e in omega arith
one_or_none value false true c e f met = let one : value ≡ 1 = eqb-true value 1 f in omega arith
one_or_none value false false c e f met = absurd (never met)

not_none : (len : ℕ) → eqb len 0 ≡ false → 0 < len
not_none len e = grind (arith, nat_tests)

as_many : (value len : ℕ) (a b c : Bool) → eqb value 0 ≡ a → eqb value 1 ≡ b → eqb len 0 ≡ c → (a || (b && not c)) ≡ true → value ≤ len
as_many value len true b c e f g met = let none : value ≡ 0 = eqb-true value 0 e in omega arith
as_many value len false true false e f g met = let one : value ≡ 1 = eqb-true value 1 f in omega (arith, not_none len g)
as_many value len _ _ _ e f g met = absurd (never met)

pub split_few : (t : Table) (e : Event) (w : Word) → allowed_at t e (slice_get t.views e.seat) (Some w) ≡ true → e.kind ≡ SplitSeat → e.value ≤ 1
split_few t e w met is =
    let need = needed t e w met in
    let split = split_met t e w SplitSeat need.v is need.met in
    one_or_none e.value (eqb e.value 0) (eqb e.value 1) (not (eqb (length need.v.free.nodes) 0)) refl refl (and_parts (is_stamp w) (eqb e.value 0 || (eqb e.value 1 && not (eqb (length need.v.free.nodes) 0))) split).1

pub split_there : (t : Table) (e : Event) (w : Word) → allowed_at t e (slice_get t.views e.seat) (Some w) ≡ true → e.kind ≡ SplitSeat → HasFree t.views e.seat e.value
split_there t e w met is =
    let need = needed t e w met in
    let split = split_met t e w SplitSeat need.v is need.met in
    let few : e.value ≤ length need.v.free.nodes = as_many e.value (length need.v.free.nodes) (eqb e.value 0) (eqb e.value 1) (eqb (length need.v.free.nodes) 0) refl refl refl (and_parts (is_stamp w) (eqb e.value 0 || (eqb e.value 1 && not (eqb (length need.v.free.nodes) 0))) split).1 in
    record {
      within = slice_get_within t.views e.seat need.v need.is;
      free = λ d. subst (λ (u : View). e.value ≤ length u.free.nodes) (sym (get_or_from_slice_get t.views e.seat need.v d need.is)) few;
    }

pub record Other (t : Table) (e : Event) : Type 0 where
  pub u : View
  pub is : slice_get t.views e.value ≡ Some u
  pub within : e.value < length t.views
  pub apart : e.value ≢ e.seat

other_by : (t : Table) (e : Event) (v : View) (o : Option View) → slice_get t.views e.value ≡ o → may_join_found v o ≡ true → (e.value ≡ e.seat → ⊥) → Other t e
other_by t e v None is met apart = absurd (never met)
other_by t e v (Some u) is met apart = record { u = u; is = is; within = slice_get_within t.views e.value u is; apart = apart }

pub join_other : (t : Table) (e : Event) (w : Word) → allowed_at t e (slice_get t.views e.seat) (Some w) ≡ true → e.kind ≡ JoinSeat → Other t e
join_other t e w met is =
    let need = needed t e w met in
    let join = split_met t e w JoinSeat need.v is need.met in
    let one = and_parts (is_stamp w && not (eqb e.value e.seat)) (may_join_found need.v (slice_get t.views e.value)) join in
    let two = and_parts (is_stamp w) (not (eqb e.value e.seat)) one.0 in
    other_by t e need.v (slice_get t.views e.value) refl one.1 (not_equal e.value e.seat two.1)

-- a raise is one at the stamp, and has a call left
pub record Raises (t : Table) (e : Event) (w : Word) : Type 0 where
  pub calls : HasCalls t.views e.seat
  pub stamp : w ≡ Stamp

raises_at : (t : Table) (e : Event) (u : Word) (v : View) → slice_get t.views e.seat ≡ Some v → may_raise_number v u e.value ≡ true → Raises t e u
raises_at t e Stamp v is met =
    let c = not (eqb v.history.left 0) in
    let f = not (eqb (length v.update.pending) 0) in
    let one = and_parts (is_stamp Stamp && eqb e.value 0 && is_none v.update.raised && c) f met in
    let two = and_parts (is_stamp Stamp && eqb e.value 0 && is_none v.update.raised) c one.0 in
    let left : 0 < v.history.left = some_left v.history.left two.1 in
    let within = slice_get_within t.views e.seat v is in
    record {
      calls = record { within = within; left = λ d. subst (λ (x : View). 0 < x.history.left) (sym (get_or_from_slice_get t.views e.seat v d is)) left };
      stamp = refl;
    }
  where
    some_left : (n : ℕ) → not (eqb n 0) ≡ true → 0 < n
    some_left n p = grind (arith, nat_tests)
raises_at t e _ v is met = absurd (never met)

-- what the needs of a raise say of the seat's view, and of its update
raise_met : (t : Table) (e : Event) (w : Word) (v : View) → needs e.kind t.layout (held_by t) t.views e.seat v w e.value e.update ≡ true → e.kind ≡ Raise
    → (may_raise_number v w e.value ≡ true) × (is_raise_of t.layout (held_by t) t.views v e.update ≡ true)
raise_met t e w v met is =
    and_parts (may_raise_number v w e.value) (is_raise_of t.layout (held_by t) t.views v e.update) (split_met t e w Raise v is met)

pub raises : (t : Table) (e : Event) (w : Word) → allowed_at t e (slice_get t.views e.seat) (Some w) ≡ true → e.kind ≡ Raise → Raises t e w
raises t e w met is =
    let need = needed t e w met in
    raises_at t e w need.v need.is (raise_met t e w need.v need.met is).0

-- a raise makes the tree step of its update
pub raise_steps : (t : Table) (e : Event) (w : Word) → allowed_at t e (slice_get t.views e.seat) (Some w) ≡ true → e.kind ≡ Raise
    → (u : Update) → e.update ≡ Some u → (v : View) → slice_get t.views e.seat ≡ Some v → is_tree_step t.layout (held_by t) t.views v u ≡ true
raise_steps t e w met is u carried v at =
    let met_at : allowed_at t e (Some v) (Some w) ≡ true = subst (λ (o : Option View). allowed_at t e o (Some w) ≡ true) at met in
    let need = (and_parts (carries e.kind v e.update && not v.joined) (needs e.kind t.layout (held_by t) t.views e.seat v w e.value e.update) met_at).1 in
    subst (λ (o : Option Update). is_raise_of t.layout (held_by t) t.views v o ≡ true) carried (raise_met t e w v need is).1

-- what the needs of a load of the stamp say
pub record StampNeeds (v : View) (w : Word) (value : ℕ) : Type 0 where
  pub stamp : is_stamp w ≡ true
  pub inside : is_even v.section_word ≡ false
  pub closed : v.reading.opened ≡ None
  pub fixes : value ≡ 1 → has_announced v ≡ true

pub stamp_needs : (v : View) (w : Word) (value : ℕ) → may_load_stamp v w value ≡ true → StampNeeds v w value
stamp_needs v w value met =
    let b = not (is_even v.section_word) in
    let c = is_none v.reading.opened in
    let values = and_parts (is_stamp w && b && c) (eqb value 0 || (eqb value 1 && has_announced v)) met in
    let none = and_parts (is_stamp w && b) c values.0 in
    let first = and_parts (is_stamp w) b none.0 in
    record {
      stamp = first.0;
      inside = not_true (is_even v.section_word) first.1;
      closed = none_of v.reading.opened none.1;
      fixes = λ one. by (eqb value 0) refl one values.1;
    }
  where
    by : (d : Bool) → eqb value 0 ≡ d → value ≡ 1 → (d || (eqb value 1 && has_announced v)) ≡ true → has_announced v ≡ true
    by true none one some = absurd (omega (arith, one, eqb-true value 0 none))
    by false none one some = (and_parts (eqb value 1) (has_announced v) some).1

pub loads_stamp : (t : Table) (e : Event) (w : Word) → allowed_at t e (slice_get t.views e.seat) (Some w) ≡ true → e.kind ≡ LoadStamp → w ≡ Stamp
loads_stamp t e w met is =
    let need = needed t e w met in
    stamp_named w (stamp_needs need.v w e.value (split_met t e w LoadStamp need.v is need.met)).stamp

-- the test for what is allowed, over the table itself
pub met_now : (z : Layout) (words ws : List ℕ) (views vs : List View) (e : Event) (w : Word) (met : Bool) → ws ≡ words → vs ≡ views
    → met ≡ allowed_at (record { layout = z; words = ws; views = vs }) e (slice_get vs e.seat) (Some w) → met ≡ true
    → allowed_at (record { layout = z; words = words; views = views }) e (slice_get views e.seat) (Some w) ≡ true
met_now z words ws views vs e w met same_words same_views is_met held =
    subst (λ (xs : List View). allowed_at (record { layout = z; words = words; views = xs }) e (slice_get xs e.seat) (Some w) ≡ true) same_views
    (subst (λ (xs : List ℕ). allowed_at (record { layout = z; words = xs; views = vs }) e (slice_get vs e.seat) (Some w) ≡ true) same_words (sym is_met ∙ held))
