-- No event makes what a seat has seen shorter.
use Rattle.std.proofs.Common.{◌≡◌, ℕ, ◌<◌, ◌≤◌, List, [], ◌∷◌, ◌++◌, length, take, Bool, true, false, not, eqb, cond, ◌&&◌, get_or, set, arith, refl, ap, ◌∙◌, sym, subst, inl, inr, Option, Some, None}
use Rattle.std.specs.List.{slice_get}
use Rattle.std.proofs.lemmas.Bool.{and_parts, eq-eqb}
use Rattle.std.proofs.lemmas.Bool.Decides.{eqb_tells}
use Rattle.std.proofs.lemmas.List.{take_all, take-take, take-append-le, length-set, get_or-set_other, get_or_append_left, get_or_push, get_or_default}
use Rattle.index_words.specs.declared.layout.Layout.{Layout}
use Rattle.key_map.specs.declared.update.Update.{Update}
use Rattle.index_words.specs.declared.view.View.{View}
use Rattle.index_words.specs.declared.word.Word.{Word}
use Rattle.index_words.specs.declared.word.Word.TheVariants.{Stamp}
use Rattle.index_words.specs.Words.{Memory, memory, word_at}
use Rattle.index_words.specs.Views.{spent_view}
use Rattle.key_map.specs.Lists.{IsItem}
use Rattle.index_words.proofs.Seats.{item_set, beside_item}
use Rattle.core_events.specs.declared.event.Event.{Event}
use Rattle.core_events.specs.declared.event.Kind.{Kind}
use Rattle.core_events.specs.declared.event.Kind.TheVariants.{MakeSeat, SplitSeat, JoinSeat, LoadStamp, Raise}
use Rattle.core_events.specs.Moves.{longer, split_left, split_right, joined_with}
use Rattle.core_events.specs.Needs.{is_stamp, may_join_found}
use Rattle.core_events.specs.LoadMoves.{longest, stamp_reading}
use Rattle.core_events.specs.Announcing.{has_announced}
use Rattle.core_events.specs.SpelledNow.{tree_now}
use Rattle.core_events.specs.Versions.{tree_nodes}
use Rattle.core_events.specs.Tables.{Table, held_by}
use Rattle.core_invariant.specs.Rule.{InRule, IsRight}
use Rattle.core_events.specs.Steps.{needs, carries, allowed, allowed_at, after, after_at, view_after, views_after, words_after, join_found, raised_from}
use Rattle.core_kept.specs.KeepsSeen.{IsBeginning, IsWhole, IsTold, KeepsSeen}
use Rattle.core_invariant.proofs.OneView.{item_from_get, seat_at}
use Rattle.core_invariant.proofs.Frames.{same_item}
use Rattle.core_invariant.proofs.Joins.{Begins, begins-le, longer_long, longer_begins}
use Rattle.core_invariant.proofs.Passing.{longest_is}
use Rattle.core_events.proofs.Tests.{never, not_equal, stamp_named}
use Rattle.core_events.proofs.Allowed.{stamp_needs}
use Rattle.core_invariant.proofs.Groups.Group.{History}
use Rattle.core_invariant.proofs.Footprints.{touches, keeps}
use Rattle.index_words.specs.declared.view.history.SeenHistory.{SeenHistory}

-- of two beginnings of one history the shorter is a beginning of the longer
begins_of : (updates xs ys : List Update) → Begins updates xs → Begins updates ys → length xs ≤ length ys → IsBeginning xs ys
begins_of updates xs ys one two short =
    one ∙ sym (take-take (length xs) (length ys) updates short) ∙ ap (take (length xs)) (sym two)

begins_self : (xs : List Update) → IsBeginning xs xs
begins_self xs = sym (take_all (length xs) xs (omega arith))

begins_same : (xs ys : List Update) → ys ≡ xs → IsBeginning xs ys
begins_same xs ys same = subst (IsBeginning xs) (sym same) (begins_self xs)

-- what the seats that were not joined away have seen goes on
abbrev pub GoesOn : List View → List View → Type 0
GoesOn vs ws = (k : ℕ) (v w : View) → IsItem vs k v → IsItem ws k w → w.joined ≡ false → IsBeginning v.history.seen w.history.seen

goes_same : (vs : List View) → GoesOn vs vs
goes_same vs k v w at of live = begins_same v.history.seen w.history.seen (ap (λ (x : View). x.history.seen) (sym (same_item vs k k v w at of refl)))

item_unset : (us : List View) (j k : ℕ) (y w : View) → IsItem (set us j y) k w → (k ≡ j → ⊥) → IsItem us k w
item_unset us j k y w at other = record {
  within = omega (arith, at.within, length-set us j y);
  is = λ d. sym (get_or-set_other us j k y d other) ∙ at.is d;
}

goes_set : (vs us : List View) (j : ℕ) (x y : View) → GoesOn vs us → IsItem us j x
    → ((v : View) → IsItem vs j v → y.joined ≡ false → IsBeginning v.history.seen y.history.seen) → GoesOn vs (set us j y)
goes_set vs us j x y goes here new k v w at of live =
    elim (eqb_tells k j) as (λ _. IsBeginning v.history.seen w.history.seen) [
      | inl same ↦
          let is : y ≡ w = same_item (set us j y) j k y w (item_set us j x y here) of same.1 in
          let at_j : IsItem vs j v = subst (λ n. IsItem vs n v) same.1 at in
          subst (λ (u : View). IsBeginning v.history.seen u.history.seen) is (new v at_j (ap (λ (u : View). u.joined) is ∙ live))
      | inr other ↦ goes k v w at (item_unset us j k y w of other.1) live
    ]

item_unpushed : (us : List View) (k : ℕ) (y w : View) → k < length us → IsItem (us ++ y ∷ []) k w → IsItem us k w
item_unpushed us k y w low at = record { within = low; is = λ d. sym (get_or_append_left us (y ∷ []) d k low) ∙ at.is d }

goes_push : (vs us : List View) (y : View) → GoesOn vs us → length us ≡ length vs → GoesOn vs (us ++ y ∷ [])
goes_push vs us y goes long k v w at of live = goes k v w at (item_unpushed us k y w (omega (arith, at.within, long)) of) live

module _ (z : Layout) (words : List ℕ) (vs : List View) (right : InRule z words vs) (i : ℕ) (v : View) (at : IsItem vs i v) (w : Word) (value : ℕ)
    (o : Option Update) where
  abbrev m : Memory
  m = memory z words

  abbrev updates : List Update
  updates = right.meaning.updates

  begins : (k : ℕ) (x : View) → IsItem vs k x → Begins updates x.history.seen
  begins k x of = (seat_at z m vs right.meaning k x of right.rule).seen.seen

  own_goes : (u : View) → IsBeginning v.history.seen u.history.seen → GoesOn vs (set vs i u)
  own_goes u on =
      goes_set vs vs i v u (goes_same vs) at (λ x of live. subst (λ (y : View). IsBeginning y.history.seen u.history.seen) (same_item vs i i v x at of refl) on)

  all : longest vs ≡ updates
  all = longest_is z m vs right.meaning right.rule

  whole_known : (k : ℕ) (x : View) → IsItem vs k x → IsBeginning x.history.seen (longest vs)
  whole_known k x of = begins k x of ∙ ap (take (length x.history.seen)) (sym all)

  raised_goes : (x : ℕ) (update : Option Update) → IsBeginning v.history.seen (raised_from z m vs v x update).history.seen
  raised_goes x None = begins_self v.history.seen
  raised_goes x (Some u) =
      whole_known i v at
      ∙ sym (take-append-le (length v.history.seen) (longest vs) (u ∷ []) (omega (arith, begins-le updates v.history.seen (begins i v at), ap length all)))

  -- a kind that touches no history
  quiet_goes : (kind : Kind) → touches kind History ≡ false → GoesOn vs (set vs i (view_after kind z m vs v w (m w) value o))
  quiet_goes kind off =
      own_goes (view_after kind z m vs v w (m w) value o)
      (begins_same v.history.seen (view_after kind z m vs v w (m w) value o).history.seen
      (ap (λ (h : SeenHistory). h.seen) (keeps z m vs v (m w) value o kind w History off)))

  joined_begins : (u : View) (k : ℕ) → IsItem vs k u → IsBeginning u.history.seen (longer v.history.seen u.history.seen)
  joined_begins u k of =
      begins_of updates u.history.seen (longer v.history.seen u.history.seen) (begins k u of)
      (longer_begins updates v.history.seen u.history.seen (begins i v at) (begins k u of)) (longer_long v.history.seen u.history.seen).0

  joined_goes : (found : Option View) → slice_get vs value ≡ found → GoesOn vs (join_found vs i v value found)
  joined_goes None is = goes_same vs
  joined_goes (Some u) is =
      let of = item_from_get vs value u is in
      let known : IsBeginning v.history.seen (longer v.history.seen u.history.seen)
      = begins_of updates v.history.seen (longer v.history.seen u.history.seen) (begins i v at)
      (longer_begins updates v.history.seen u.history.seen (begins i v at) (begins value u of)) (longer_long v.history.seen u.history.seen).1 in
      goes_set vs (set vs i (joined_with v u)) value (get_or (set vs i (joined_with v u)) value v) spent_view (own_goes (joined_with v u) known)
      (record {
        within = omega (arith, of.within, length-set vs i (joined_with v u));
        is = λ d. get_or_default (set vs i (joined_with v u)) value d v (omega (arith, of.within, length-set vs i (joined_with v u)));
      })
      (λ x here live. cc)

  pub goes_on : (kind : Kind) → GoesOn vs (views_after kind z m vs i v w value o)
  goes_on MakeSeat = goes_same vs
  goes_on SplitSeat =
      goes_push vs (set vs i (split_left v value)) (split_right v value) (own_goes (split_left v value) (begins_self v.history.seen))
      (length-set vs i (split_left v value))
  goes_on JoinSeat = joined_goes (slice_get vs value) refl
  goes_on LoadStamp = own_goes (view_after LoadStamp z m vs v w (m w) value o) (whole_known i v at)
  goes_on Raise = own_goes (view_after Raise z m vs v w (m w) value o) (raised_goes (m w) o)
  goes_on kind = quiet_goes kind refl

  abbrev loaded_view : View
  loaded_view = view_after LoadStamp z m vs v w (m w) value o

  loaded_whole : (x : View) → IsItem (set vs i loaded_view) i x → IsWhole (record { layout = z; words = words; views = set vs i loaded_view }) x.history.seen
  loaded_whole x of =
      let is : loaded_view ≡ x = same_item (set vs i loaded_view) i i loaded_view x (item_set vs i v loaded_view at) of refl in
      subst (λ (y : View). IsWhole (record { layout = z; words = words; views = set vs i loaded_view }) y.history.seen) is
      (record {
        long = ap length all ∙ right.rule.history.long;
        begins = λ k y item. elim (eqb_tells k i) as (λ _. IsBeginning y.history.seen (longest vs)) [
          | inl here ↦
              begins_same y.history.seen (longest vs) (ap (λ (u : View). u.history.seen)
              (same_item (set vs i loaded_view) i k loaded_view y (item_set vs i v loaded_view at) item here.1))
          | inr other ↦ whole_known k y (item_unset vs i k loaded_view y item other.1)
        ];
      })

  loaded_fixed : is_stamp w ≡ true → has_announced v ≡ true → value ≡ 1 → (x : View) → IsItem (set vs i loaded_view) i x
      → (x.reading.opened ≡ Some (m Stamp)) × (x.history.found ≡ m Stamp)
  loaded_fixed stamp told one x of =
      let is : loaded_view ≡ x = same_item (set vs i loaded_view) i i loaded_view x (item_set vs i v loaded_view at) of refl in
      let fixes : eqb value 1 ≡ true = eq-eqb value 1 one in
      let here : m w ≡ m Stamp = ap m (stamp_named w stamp) in
      subst (λ (y : View). (y.reading.opened ≡ Some (m Stamp)) × (y.history.found ≡ m Stamp)) is (
        ap (λ (c : Bool). (stamp_reading v.reading c (m w) (eqb value 1) (tree_nodes (tree_now z m vs))).opened) told
            ∙ ap (λ (b : Bool). cond b (Some (m w)) None) fixes ∙ ap Some here,
        ap (λ (b : Bool). cond b (m w) v.history.found) fixes ∙ here,
      )

  split_seen : (x y : View) → IsItem vs i x → IsItem (set vs i (split_left v value) ++ split_right v value ∷ []) (length vs) y → y.history.seen ≡ x.history.seen
  split_seen x y here there =
      let own : v ≡ x = same_item vs i i v x at here refl in
      let new : split_right v value ≡ y
      = sym (get_or_push (set vs i (split_left v value)) (split_right v value) y (length vs) (length-set vs i (split_left v value))) ∙ there.is y in
      ap (λ (u : View). u.history.seen) (sym new) ∙ ap (λ (u : View). u.history.seen) own

  joined_told : (value ≡ i → ⊥) → (found : Option View) → slice_get vs value ≡ found → (u y : View) → IsItem vs value u
      → IsItem (join_found vs i v value found) i y → may_join_found v found ≡ true → IsTold u y
  joined_told apart None is u y of there met = absurd (never met)
  joined_told apart (Some x) is u y of there met =
      let same : x ≡ u = same_item vs value value x u (item_from_get vs value x is) of refl in
      let back : i ≡ value → ⊥ = λ e. apart (sym e) in
      let stands : IsItem (set (set vs i (joined_with v x)) value spent_view) i (joined_with v x)
      = beside_item (set vs i (joined_with v x)) value i (joined_with v x) spent_view (item_set vs i v (joined_with v x) at) back in
      let new : joined_with v x ≡ y = same_item (set (set vs i (joined_with v x)) value spent_view) i i (joined_with v x) y stands there refl in
      subst (λ (s : View). IsTold s y) same (subst (IsTold x) new (record { told = refl; known = joined_begins x value (item_from_get vs value x is) }))

seen_at : (t : Table) (e : Event) (a : Option View) (b : Option Word) → slice_get t.views e.seat ≡ a → word_at t.layout e.word ≡ b → IsRight t
    → allowed_at t e a b ≡ true → KeepsSeen t e (after_at t e a b)
seen_at t e (Some v) (Some w) is found right met =
    let z = t.layout in
    let m = held_by t in
    let at = item_from_get t.views e.seat v is in
    let need = (and_parts (carries e.kind v e.update && not v.joined) (needs e.kind z m t.views e.seat v w e.value e.update) met).1 in
    let met_of : (k : Kind) → e.kind ≡ k → needs k z m t.views e.seat v w e.value e.update ≡ true
    = λ k same. subst (λ (j : Kind). needs j z m t.views e.seat v w e.value e.update ≡ true) same need in
    let views_of : (k : Kind) → e.kind ≡ k → views_after e.kind z m t.views e.seat v w e.value e.update ≡ views_after k z m t.views e.seat v w e.value e.update
    = λ k same. ap (λ (j : Kind). views_after j z m t.views e.seat v w e.value e.update) same in
    let table_of : (k : Kind) → e.kind ≡ k → after_at t e (Some v) (Some w)
    ≡ record { layout = z; words = words_after k t.words e.word e.value; views = views_after k z m t.views e.seat v w e.value e.update }
    = λ k same. ap (λ (j : Kind). record {
      layout = z;
      words = words_after j t.words e.word e.value;
      views = views_after j z m t.views e.seat v w e.value e.update;
    }) same in
    record {
      kept = goes_on z t.words t.views right e.seat v at w e.value e.update e.kind;
      loaded = λ same.
          subst (λ (u : Table). (x : View) → IsItem u.views e.seat x → IsWhole u x.history.seen) (sym (table_of LoadStamp same))
          (loaded_whole z t.words t.views right e.seat v at w e.value e.update);
      fixed = λ same one.
          subst (λ (u : Table). (x : View) → IsItem u.views e.seat x → (x.reading.opened ≡ Some (held_by u Stamp)) × (x.history.found ≡ held_by u Stamp))
          (sym (table_of LoadStamp same))
          (loaded_fixed z t.words t.views right e.seat v at w e.value e.update (stamp_needs v w e.value (met_of LoadStamp same)).stamp
          ((stamp_needs v w e.value (met_of LoadStamp same)).fixes one) one);
      split = λ same x y here there.
          split_seen z t.words t.views right e.seat v at w e.value e.update x y here
          (subst (λ (us : List View). IsItem us (length t.views) y) (views_of SplitSeat same) there);
      joined = λ same u y of there.
          let join = met_of JoinSeat same in
          let parts = and_parts (is_stamp w && not (eqb e.value e.seat)) (may_join_found v (slice_get t.views e.value)) join in
          joined_told z t.words t.views right e.seat v at w e.value e.update
          (not_equal e.value e.seat (and_parts (is_stamp w) (not (eqb e.value e.seat)) parts.0).1)
          (slice_get t.views e.value) refl u y of (subst (λ (us : List View). IsItem us e.seat y) (views_of JoinSeat same) there) parts.1;
    }
seen_at t e _ _ is found right met = absurd (never met)

-- what each seat has seen is kept by an allowed event
pub keeps_seen : (t : Table) (e : Event) → IsRight t → allowed t e ≡ true → KeepsSeen t e (after t e)
keeps_seen t e right met = seen_at t e (slice_get t.views e.seat) (word_at t.layout e.word) refl refl right met
