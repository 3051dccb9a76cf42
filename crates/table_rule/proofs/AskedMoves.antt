-- What the calls of the kit's table ask before a move that is asked for as an event, and what they report after it.
use Rattle.std.proofs.Common.{◌≡◌, ℕ, ◌+◌, ◌%◌, ◌^◌, ◌<◌, [], cond, eqb, Bool, true, false, refl, ap, ◌∙◌, sym, subst, arith, Some, slice_index}
use prog.Atomic.{either}
use Rattle.std.specs.List.{slice_get}
use Rattle.index_words.specs.declared.layout.Layout.{Layout}
use Rattle.index_words.specs.declared.view.View.{View}
use Rattle.index_words.specs.declared.word.Word.{Word}
use Rattle.index_words.specs.declared.word.Word.TheVariants.{Stamp}
use Rattle.index_words.specs.Words.{address, is_there, word_count, word_at}
use Rattle.index_words.proofs.Store.{address-lt}
use Rattle.atomic_table.specs.Seated.{TableId}
use Rattle.atomic_table.specs.Table.{Me, Allows}
use Rattle.core_events.specs.declared.event.Event.{Event}
use Rattle.core_events.specs.declared.event.Kind.{Kind}
use Rattle.core_events.specs.declared.event.Kind.TheVariants.{Raise, TryLock}
use Rattle.core_events.specs.Steps.{allowed, allowed_at}
use Rattle.core_laws.proofs.RaiseStamps.{stored_small}
use Rattle.table_rule.specs.Homes.{Home, Sat, IsOf, Asks, IsLiveView}
use Rattle.table_rule.specs.Running.{table, Happened, Stored, IsLoad, IsStore}
use Rattle.table_rule.proofs.Happens.{IsMove, word_of, load_word, store_word, Puts, holds, move_allowed, happened_live, Left}

-- what loads, stores, adds and tries put
pub load_puts : (z : Layout) (v : View) (e : Event) → IsLoad e.kind → Puts z v e (λ n. n)
load_puts z v e is words vs rule at met = load_word e.kind e.value (slice_index words e.word) is

pub store_puts : (z : Layout) (v : View) (e : Event) (value : ℕ) → IsStore e.kind → e.value ≡ value → Puts z v e (λ n. value)
store_puts z v e value is same words vs rule at met = store_word e.kind e.value (slice_index words e.word) is ∙ same

tried_puts : (b : Bool) (value n : ℕ) → cond b value n ≡ either b value n
tried_puts true value n = refl
tried_puts false value n = refl

try_word : (kind : Kind) (value n : ℕ) → kind ≡ TryLock → word_of kind value n ≡ cond (eqb n 0) value n
try_word kind value n is = ap (λ (k : Kind). word_of k value n) is

pub try_puts : (z : Layout) (v : View) (e : Event) (value : ℕ) → e.kind ≡ TryLock → e.value ≡ value → Puts z v e (λ n. either (eqb n 0) value n)
try_puts z v e value is same words vs rule at met =
    let n : ℕ = slice_index words e.word in
    try_word e.kind e.value n is ∙ ap (λ x. cond (eqb n 0) x n) same ∙ tried_puts (eqb n 0) value n

raise_word : (kind : Kind) (value n : ℕ) → kind ≡ Raise → word_of kind value n ≡ n + 1
raise_word kind value n is = ap (λ (k : Kind). word_of k value n) is

wraps_not : (n : ℕ) → n + 1 < 2 ^ 64 → n + 1 ≡ (n + 1) % 2 ^ 64
wraps_not n small = omega (arith, small)

pub add_puts : (z : Layout) (v : View) (e : Event) → e.kind ≡ Raise → e.word ≡ 0 → Puts z v e (λ n. (n + 1) % 2 ^ 64)
add_puts z v e is zero words vs rule at met =
    let n : ℕ = slice_index words e.word in
    let named : word_at z e.word ≡ Some Stamp = ap (word_at z) zero in
    let may : allowed (table z words vs) e ≡ allowed_at (table z words vs) e (slice_get vs e.seat) (Some Stamp) = ap (allowed_at (table z words vs) e (slice_get vs e.seat)) named in
    let small : n + 1 < 2 ^ 64 = stored_small z words words vs vs e Stamp (allowed (table z words vs) e) rule (sym named) refl refl may met is in
    raise_word e.kind e.value n is ∙ wraps_not n small

-- what a move that finds its word reports, and what a store does
abbrev pub finds : Event → Me ℕ View → ℕ → Me ℕ View → Type 0
finds e me n x = (x.1 ≡ me.1) × Happened me.0.layout e me.0 n x.0

abbrev pub stores : Event → Me ℕ View → ℕ → Me ℕ View → Type 0
stores e me n x = (x.1 ≡ me.1) × Stored me.0.layout e me.0 x.0

-- a seat of a table, as the table's own fields have it
module _ (id : TableId) (key z : Layout) (keyed : key ≡ z) (size : id.words ≡ word_count z) (st : TableId) (seat : ℕ) (me : Me ℕ View) where
  abbrev pub home : Home
  home = record { id = id; layout = z }

  abbrev pub sat : View → Sat
  sat v = record { id = st; seat = seat; view = v }

  pub word_within : (w : Word) (at : ℕ) → is_there z w ≡ true → at ≡ address z w → at < id.words
  word_within w at there is = subst (λ n. n < id.words) (sym is) (subst (λ n. address z w < n) (sym size) (address-lt z w there))

  module _ (e : Event) (w : Word) (asks : Asks home (sat me.0) w e) (is : IsMove e.kind) where
    pub move_requires : (slots at : ℕ) (f : ℕ → ℕ) (then : ℕ → Me ℕ View → Type 0) → at ≡ address z w → Puts z me.0 e f → ((n : ℕ) (x : View) → Happened me.0.layout e me.0 n x → then n (x, me.1))
        → (st ≡ id) × (at < id.words) × Allows (holds key) slots seat me at f then
    move_requires slots at f then at_is puts told = (
      asks.of.id,
      word_within w at asks.there at_is,
      subst (λ (k : Layout). Allows (holds k) slots seat me at f then) (sym keyed)
          (move_allowed z slots seat me e w at f then asks.there asks.word (at_is ∙ sym asks.word) asks.seat is puts asks.may
          (λ n x h. told n x (subst (λ (k : Layout). Happened k e me.0 n x) (sym asks.of.layout) h))),
    )

    module _ (live : IsLiveView me.0) (bare : me.1 ≡ []) (n : ℕ) (x : Me ℕ View) (same : x.1 ≡ me.1) (h : Happened me.0.layout e me.0 n x.0) where
      pub move_event : Happened z e me.0 n x.0
      move_event = subst (λ (k : Layout). Happened k e me.0 n x.0) asks.of.layout h

      pub move_left : Left z x.0
      move_left = happened_live z e me.0 x.0 n w asks.of.layout asks.there asks.word is live.live move_event

      pub move_seat : (x.1 ≡ []) × IsLiveView x.0
      move_seat = (same ∙ bare, move_left.live)

      pub move_of : (new : TableId) → new ≡ st → IsOf home (record { id = new; seat = seat; view = x.0 })
      move_of new kept = record { id = kept ∙ asks.of.id; layout = move_left.layout }
