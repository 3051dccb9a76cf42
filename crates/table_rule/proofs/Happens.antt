-- A move of a word that is an allowed event keeps the rule, and is that event.
use Rattle.std.proofs.Common.{◌≡◌, ℕ, ◌+◌, List, set, cond, eqb, Bool, true, false, refl, ap, ◌∙◌, sym, subst, Option, Some, slice_index}
use Rattle.std.specs.List.{slice_get}
use Rattle.std.proofs.lemmas.List.{set-get_or}
use mathlib.Core.Option.{some}
use lib.ListN.{get_elem?}
use Rattle.index_words.specs.declared.layout.Layout.{Layout}
use Rattle.index_words.specs.declared.view.View.{View}
use Rattle.index_words.specs.declared.word.Word.{Word}
use Rattle.index_words.specs.Words.{Memory, memory, address, is_there, word_at}
use Rattle.key_map.specs.declared.update.Update.{Update}
use Rattle.atomic_table.specs.Table.{State, Me, Allows, keeps as nothing}
use Rattle.core_events.specs.declared.event.Event.{Event}
use Rattle.core_events.specs.declared.event.Kind.{Kind}
use Rattle.core_events.specs.declared.event.Kind.TheVariants.{MakeSeat, SplitSeat, JoinSeat}
use Rattle.core_invariant.specs.Rule.{InRule}
use Rattle.core_events.specs.Steps.{allowed, after, after_at, words_after, views_after, view_after}
use Rattle.core_events.specs.Tables.{Table}
use Rattle.core_events.specs.WordMoves.{Move, move_of, words_moved}
use Rattle.core_events.specs.WordMoves.Move.{Load, Store, Add, Swap, Seats}
use Rattle.core_laws.specs.ViewNeeds.{May}
use Rattle.core_invariant.proofs.KeptViews.{joined_kept, layout_kept}
use Rattle.core_kept.proofs.StepLaw.{keeps}
use Rattle.index_words.proofs.Store.{word_named}
use Rattle.table_rule.specs.Homes.{IsLiveView}
use Rattle.table_rule.specs.Running.{table, Stands, Happened, IsLoadMove, IsStoreMove, IsLoad, IsStore}
use Rattle.table_rule.proofs.Lists.{get_from_found, get_set, some_same}

-- the kinds that move one word of one seat
abbrev IsWordMove : Move → Type 0
IsWordMove Seats = ⊥
IsWordMove _ = Unit {0}

abbrev pub IsMove : Kind → Type 0
IsMove kind = IsWordMove (move_of kind)

load_move : (move : Move) → IsLoadMove move → IsWordMove move
load_move Load is = tt
load_move _ is = absurd is

pub load_moves : (kind : Kind) → IsLoad kind → IsMove kind
load_moves kind is = load_move (move_of kind) is

store_move : (move : Move) → IsStoreMove move → IsWordMove move
store_move Store is = tt
store_move _ is = absurd is

pub store_moves : (kind : Kind) → IsStore kind → IsMove kind
store_moves kind is = store_move (move_of kind) is

-- the word after an event with this value, of the word found
abbrev moved_word : Move → ℕ → ℕ → ℕ
moved_word Store value n = value
moved_word Add value n = n + 1
moved_word Swap value n = cond (eqb n 0) value n
moved_word _ value n = n

abbrev pub word_of : Kind → ℕ → ℕ → ℕ
word_of kind value n = moved_word (move_of kind) value n

load_by : (move : Move) (value n : ℕ) → IsLoadMove move → moved_word move value n ≡ n
load_by Load value n is = refl
load_by _ value n is = absurd is

pub load_word : (kind : Kind) (value n : ℕ) → IsLoad kind → word_of kind value n ≡ n
load_word kind value n is = load_by (move_of kind) value n is

store_by : (move : Move) (value n : ℕ) → IsStoreMove move → moved_word move value n ≡ value
store_by Store value n is = refl
store_by _ value n is = absurd is

pub store_word : (kind : Kind) (value n : ℕ) → IsStore kind → word_of kind value n ≡ value
store_word kind value n is = store_by (move_of kind) value n is

-- the words after an event of such a kind are those before with this word anew
same_words : (words : List ℕ) (at : ℕ) → words ≡ set words at (slice_index words at)
same_words words at = sym (set-get_or words at 0)

tried_words : (b : Bool) (words : List ℕ) (at value : ℕ) → cond b (set words at value) words ≡ set words at (cond b value (slice_index words at))
tried_words true words at value = refl
tried_words false words at value = same_words words at

moves_word : (move : Move) (words : List ℕ) (at value : ℕ) → IsWordMove move → words_moved move words at value ≡ set words at (moved_word move value (slice_index words at))
moves_word Load words at value is = same_words words at
moves_word Swap words at value is = tried_words (eqb (slice_index words at) 0) words at value
moves_word Seats words at value is = absurd is
moves_word _ words at value is = refl

word_moved : (kind : Kind) (words : List ℕ) (at value : ℕ) → IsMove kind → words_after kind words at value ≡ set words at (word_of kind value (slice_index words at))
word_moved kind words at value is = moves_word (move_of kind) words at value is

views_moved : (kind : Kind) (z : Layout) (m : Memory) (vs : List View) (i : ℕ) (v : View) (w : Word) (value : ℕ) (o : Option Update) → IsMove kind
    → views_after kind z m vs i v w value o ≡ set vs i (view_after kind z m vs v w (m w) value o)
views_moved MakeSeat z m vs i v w value o is = absurd is
views_moved SplitSeat z m vs i v w value o is = absurd is
views_moved JoinSeat z m vs i v w value o is = absurd is
views_moved _ z m vs i v w value o is = refl

-- the table after an event whose seat and word are known
pub after_known : (t : Table) (e : Event) (v : View) (w : Word) → slice_get t.views e.seat ≡ Some v → word_at t.layout e.word ≡ Some w → after t e ≡ after_at t e (Some v) (Some w)
after_known t e v w at found = ap (λ (o : Option View). after_at t e o (word_at t.layout e.word)) at ∙ ap (after_at t e (Some v)) found

module _ (z : Layout) (e : Event) (v : View) (w : Word) (there : is_there z w ≡ true) (at : e.word ≡ address z w) (is : IsMove e.kind) (words : List ℕ) (vs : List View) (rule : InRule z words vs) (seat : slice_get vs e.seat ≡ Some v) (met : allowed (table z words vs) e ≡ true) where
  -- the view after the event
  abbrev pub moved_view : View
  moved_view = view_after e.kind z (memory z words) vs v w (memory z words w) e.value e.update

  found : word_at z e.word ≡ Some w
  found = ap (word_at z) at ∙ word_named z w there

  is_after : after (table z words vs) e ≡ table z (set words e.word (word_of e.kind e.value (slice_index words e.word))) (set vs e.seat moved_view)
  is_after =
      after_known (table z words vs) e v w seat found
      ∙ ap (λ (us : List ℕ). table z us (views_after e.kind z (memory z words) vs e.seat v w e.value e.update)) (word_moved e.kind words e.word e.value is)
      ∙ ap (table z (set words e.word (word_of e.kind e.value (slice_index words e.word)))) (views_moved e.kind z (memory z words) vs e.seat v w e.value e.update is)

  pub moved_rule : InRule z (set words e.word (word_of e.kind e.value (slice_index words e.word))) (set vs e.seat moved_view)
  moved_rule = subst (λ (t : Table). InRule t.layout t.words t.views) is_after (keeps (table z words vs) e rule met)

  pub moved_happened : Happened z e v (slice_index words e.word) moved_view
  moved_happened = record {
    words = words;
    views = vs;
    rule = rule;
    seat = seat;
    met = met;
    found = refl;
    view = ap (λ (t : Table). slice_get t.views e.seat) is_after ∙ get_set vs e.seat v moved_view seat;
  }

-- what the kit asks before a move of a word that is this event
abbrev pub holds : Layout → State ℕ View → Type 0
holds z s = InRule z s.words s.views

-- the event puts into its word what the move does
abbrev pub Puts : Layout → View → Event → (ℕ → ℕ) → Type 0
Puts z v e f = (words : List ℕ) (vs : List View) → InRule z words vs → slice_get vs e.seat ≡ Some v → allowed (table z words vs) e ≡ true
    → word_of e.kind e.value (slice_index words e.word) ≡ f (slice_index words e.word)

pub move_allowed : (z : Layout) (slots : ℕ) (id : ℕ) (me : Me ℕ View) (e : Event) (w : Word) (at : ℕ) (f : ℕ → ℕ) (then : ℕ → Me ℕ View → Type 0) → is_there z w ≡ true → e.word ≡ address z w → at ≡ e.word → e.seat ≡ id
    → IsMove e.kind → Puts z me.0 e f → May z me.0 e
    → ((n : ℕ) (x : View) → Happened z e me.0 n x → then n (x, me.1)) → Allows (holds z) slots id me at f then
move_allowed z slots id me e w at f then there word at_is seat is value may told s rule long found small =
    let here : get_elem? s.views e.seat ≡ some me.0 = subst (λ k. get_elem? s.views k ≡ some me.0) (sym seat) found in
    let get : slice_get s.views e.seat ≡ Some me.0 = get_from_found s.views e.seat me.0 here in
    let met : allowed (table z s.words s.views) e ≡ true = may s.words s.views rule get in
    let x : View = moved_view z e me.0 w there word is s.words s.views rule get met in
    let after_rule : InRule z (set s.words e.word (word_of e.kind e.value (slice_index s.words e.word))) (set s.views e.seat x) = moved_rule z e me.0 w there word is s.words s.views rule get met in
    let valued : InRule z (set s.words e.word (f (slice_index s.words e.word))) (set s.views e.seat x) = subst (λ n. InRule z (set s.words e.word n) (set s.views e.seat x)) (value s.words s.views rule get met) after_rule in
    let seated : InRule z (set s.words e.word (f (slice_index s.words e.word))) (set s.views id x) = subst (λ i. InRule z (set s.words e.word (f (slice_index s.words e.word))) (set s.views i x)) seat valued in
    let kept : InRule z (set s.words at (f (slice_index s.words at))) (set s.views id x) = subst (λ i. InRule z (set s.words i (f (slice_index s.words i))) (set s.views id x)) (sym at_is) seated in
    let tells : then (slice_index s.words e.word) (x, me.1) = told (slice_index s.words e.word) x (moved_happened z e me.0 w there word is s.words s.views rule get met) in
    (x, nothing, tt, kept, subst (λ i. then (slice_index s.words i) (x, me.1)) (sym at_is) tells)

-- the view after what has happened, and the word found
module _ (z : Layout) (e : Event) (v w : View) (n : ℕ) (word : Word) (there : is_there z word ≡ true) (at : e.word ≡ address z word) (is : IsMove e.kind) (h : Happened z e v n w) where
  pub happened_view : w ≡ view_after e.kind z (memory z h.words) h.views v word (memory z h.words word) e.value e.update
  unfolding moved_happened
  happened_view =
      some_same w (moved_view z e v word there at is h.words h.views h.rule h.seat h.met)
      (sym h.view ∙ (moved_happened z e v word there at is h.words h.views h.rule h.seat h.met).view)

  pub happened_word : memory z h.words word ≡ n
  happened_word = rw there (ap (slice_index h.words) (sym at) ∙ sym h.found)

  pub happened_stands : Stands z w
  happened_stands =
      let x : View = moved_view z e v word there at is h.words h.views h.rule h.seat h.met in
      record {
        words = set h.words e.word (word_of e.kind e.value (slice_index h.words e.word));
        views = set h.views e.seat x;
        rule = moved_rule z e v word there at is h.words h.views h.rule h.seat h.met;
        seat = e.seat;
        at = get_set h.views e.seat v x h.seat ∙ ap Some (sym happened_view);
      }

-- what has happened leaves a live view of the same layout
pub record Left (z : Layout) (w : View) : Type 0 where
  pub layout : w.layout ≡ z
  pub live : IsLiveView w

pub happened_live : (z : Layout) (e : Event) (v w : View) (n : ℕ) (word : Word) → v.layout ≡ z → is_there z word ≡ true → e.word ≡ address z word → IsMove e.kind → v.joined ≡ false → Happened z e v n w → Left z w
happened_live z e v w n word laid there at is live h =
    let m : Memory = memory z h.words in
    let same = happened_view z e v w n word there at is h in
    let layout : w.layout ≡ z = ap (λ (y : View). y.layout) same ∙ layout_kept z m h.views v word (m word) e.value e.update e.kind ∙ laid in
    record {
      layout = layout;
      live = record {
        live = ap (λ (y : View). y.joined) same ∙ joined_kept z m h.views v word (m word) e.value e.update e.kind ∙ live;
        stands = subst (λ (y : Layout). Stands y w) (sym layout) (happened_stands z e v w n word there at is h);
      };
    }
