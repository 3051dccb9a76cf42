-- Making, splitting and joining seats keeps the rule.
use Rattle.std.proofs.Common.{◌≡◌, ◌≢◌, ℕ, ◌<◌, ◌^◌, List, [], ◌∷◌, ◌++◌, length, set, replicate, refl, ap, ◌∙◌, sym, subst, Some, slice_index}
use Rattle.std.specs.List.{slice_get}
use Rattle.std.proofs.lemmas.List.{length-set, set-get_or}
use mathlib.Core.Option.{some}
use lib.ListN.{get_elem?}
use Rattle.index_words.specs.declared.layout.Layout.{Layout}
use Rattle.index_words.specs.declared.view.View.{View}
use Rattle.index_words.specs.declared.word.Word.TheVariants.{Stamp}
use Rattle.index_words.specs.Views.{spent_view}
use Rattle.index_words.specs.Words.{word_count}
use Rattle.key_map.specs.declared.pass.PassSize.{PassSize}
use Rattle.atomic_table.specs.Table.{Me, Splits, Joins, Allows, keeps as nothing}
use Rattle.atomic_table.proofs.Lists.{set_again, set_else}
use Rattle.core_events.specs.declared.event.Kind.TheVariants.{SplitSeat, JoinSeat}
use Rattle.core_events.specs.Moves.{split_left, split_right, joined_with}
use Rattle.core_events.specs.Openings.{made_left, made_right, MayMake, first_view}
use Rattle.core_invariant.specs.Rule.{InRule}
use Rattle.core_events.specs.Steps.{after, join_found}
use Rattle.core_events.specs.Tables.{Table}
use Rattle.core_laws.specs.ViewNeeds.{event_at, May, MaySplit, MayJoin}
use Rattle.core_kept.proofs.SeatLaws.{make_law, first_law}
use Rattle.core_kept.proofs.StepLaw.{keeps}
use Rattle.core_laws.proofs.ViewNeeds.{may_split_law, may_join_law}
use Rattle.table_rule.specs.Homes.{IsLiveView}
use Rattle.table_rule.specs.Running.{table, Stands, Holds}
use Rattle.table_rule.specs.Seats.{Split, Join}
use Rattle.table_rule.proofs.Happens.{holds, after_known}
use Rattle.table_rule.proofs.Lists.{get_from_found, get_set, get_left, get_last, item_at, set_else_get}

-- a made seat
module _ (v : View) (n : ℕ) (size : PassSize) (may : MayMake v n size) where
  pub make_splits : (z : Layout) (id : ℕ) → Splits (holds z) id v (made_left v size) (made_right v n size)
  make_splits z id s rule found = make_law z s.words s.views id n v size (item_at s.views id v (get_from_found s.views id v found)) rule may

  module _ (live : IsLiveView v) where
    made_rule : InRule v.layout live.stands.words (set live.stands.views live.stands.seat (made_left v size) ++ made_right v n size ∷ [])
    made_rule =
        let s : Stands v.layout v = live.stands in
        make_law v.layout s.words s.views s.seat n v size (item_at s.views s.seat v s.at) s.rule may

    pub make_left : IsLiveView (made_left v size)
    make_left =
        let s : Stands v.layout v = live.stands in
        record {
          live = live.live;
          stands = record {
            words = s.words;
            views = set s.views s.seat (made_left v size) ++ made_right v n size ∷ [];
            rule = made_rule;
            seat = s.seat;
            at = get_left (set s.views s.seat (made_left v size)) (made_right v n size ∷ []) s.seat (made_left v size) (get_set s.views s.seat v (made_left v size) s.at);
          };
        }

    pub make_right : IsLiveView (made_right v n size)
    make_right =
        let s : Stands v.layout v = live.stands in
        record {
          live = refl;
          stands = record {
            words = s.words;
            views = set s.views s.seat (made_left v size) ++ made_right v n size ∷ [];
            rule = made_rule;
            seat = length s.views;
            at = get_last (set s.views s.seat (made_left v size)) (made_right v n size) (length s.views) (length-set s.views s.seat (made_left v size));
          };
        }

-- a seat that is split, without a free node or with the first one
module _ (v : View) (n : ℕ) (may : MaySplit v n) where
  split_may : (z : Layout) (seat : ℕ) → May z v (event_at z seat SplitSeat Stamp n)
  split_may z seat = may_split_law z v seat n may

  split_after : (z : Layout) (words : List ℕ) (vs : List View) (seat : ℕ) → slice_get vs seat ≡ Some v → after (table z words vs) (event_at z seat SplitSeat Stamp n) ≡ table z words (set vs seat (split_left v n) ++ split_right v n ∷ [])
  split_after z words vs seat at = after_known (table z words vs) (event_at z seat SplitSeat Stamp n) v Stamp at refl

  split_rule : (z : Layout) (words : List ℕ) (vs : List View) (seat : ℕ) → slice_get vs seat ≡ Some v → InRule z words vs → InRule z words (set vs seat (split_left v n) ++ split_right v n ∷ [])
  split_rule z words vs seat at rule =
      subst (λ (t : Table). InRule t.layout t.words t.views) (split_after z words vs seat at)
      (keeps (table z words vs) (event_at z seat SplitSeat Stamp n) rule (split_may z seat words vs rule at))

  pub split_splits : (z : Layout) (id : ℕ) → Splits (holds z) id v (split_left v n) (split_right v n)
  split_splits z id s rule found = split_rule z s.words s.views id (get_from_found s.views id v found) rule

  pub split_happened : (z : Layout) → Stands z v → Split z v n (split_left v n) (split_right v n)
  split_happened z s =
      let is = split_after z s.words s.views s.seat s.at in
      record {
        words = s.words;
        views = s.views;
        rule = s.rule;
        seat = s.seat;
        at = s.at;
        met = split_may z s.seat s.words s.views s.rule s.at;
        left = ap (λ (t : Table). slice_get t.views s.seat) is
            ∙ get_left (set s.views s.seat (split_left v n)) (split_right v n ∷ []) s.seat (split_left v n) (get_set s.views s.seat v (split_left v n) s.at);
        right = ap (λ (t : Table). slice_get t.views (length s.views)) is
            ∙ get_last (set s.views s.seat (split_left v n)) (split_right v n) (length s.views) (length-set s.views s.seat (split_left v n));
      }

  pub split_live : Stands v.layout v → IsLiveView (split_right v n)
  split_live s = record {
    live = refl;
    stands = record {
      words = s.words;
      views = set s.views s.seat (split_left v n) ++ split_right v n ∷ [];
      rule = split_rule v.layout s.words s.views s.seat s.at s.rule;
      seat = length s.views;
      at = get_last (set s.views s.seat (split_left v n)) (split_right v n) (length s.views) (length-set s.views s.seat (split_left v n));
    };
  }

  -- what is left of the seat
  pub split_leaves : Stands v.layout v → IsLiveView (split_left v n)
  split_leaves s = record {
    live = may.live;
    stands = record {
      words = s.words;
      views = set s.views s.seat (split_left v n) ++ split_right v n ∷ [];
      rule = split_rule v.layout s.words s.views s.seat s.at s.rule;
      seat = s.seat;
      at = get_left (set s.views s.seat (split_left v n)) (split_right v n ∷ []) s.seat (split_left v n) (get_set s.views s.seat v (split_left v n) s.at);
    };
  }

-- a seat that is joined into another
module _ (z : Layout) (v u : View) (may : MayJoin v u) where
  join_after : (words : List ℕ) (vs : List View) (id other : ℕ) → slice_get vs id ≡ Some v → slice_get vs other ≡ Some u
      → after (table z words vs) (event_at z id JoinSeat Stamp other) ≡ table z words (set (set vs id (joined_with v u)) other spent_view)
  join_after words vs id other at of =
      after_known (table z words vs) (event_at z id JoinSeat Stamp other) v Stamp at refl ∙ ap (λ o. table z words (join_found vs id v other o)) of

  pub join_happened : Join z v u (joined_with v u)
  join_happened = record {
    event = λ words vs id other rule apart at of.
        let is = join_after words vs id other at of in
        record {
          met = may_join_law z v u id other apart may words vs rule at of;
          both = ap (λ (t : Table). slice_get t.views id) is ∙ set_else_get (set vs id (joined_with v u)) other id spent_view (λ e. apart (sym e)) ∙ get_set vs id v (joined_with v u) at;
          spent = ap (λ (t : Table). slice_get t.views other) is
              ∙ get_set (set vs id (joined_with v u)) other u spent_view (set_else_get vs id other (joined_with v u) apart ∙ of);
        };
  }

  pub join_joins : (id other : ℕ) → Joins (holds z) id v other u (joined_with v u) spent_view
  join_joins id other s rule found apart also =
      let at : slice_get s.views id ≡ Some v = get_from_found s.views id v found in
      let of : slice_get s.views other ≡ Some u = get_from_found s.views other u (other_found s.views id other (joined_with v u) u apart also) in
      subst (λ (t : Table). InRule t.layout t.words t.views) (join_after s.words s.views id other at of)
      (keeps (table z s.words s.views) (event_at z id JoinSeat Stamp other) rule (may_join_law z v u id other apart may s.words s.views rule at of))
    where
      other_found : (vs : List View) (i j : ℕ) (x y : View) → j ≢ i → get_elem? (set vs i x) j ≡ some y → get_elem? vs j ≡ some y
      other_found vs i j x y apart is = sym (set_else vs i j x apart) ∙ is

-- what a load that changes nothing tells
abbrev pub knows : Me ℕ View → ℕ → Me ℕ View → Type 0
knows me n x = (x ≡ me) × Stands me.0.layout me.0

abbrev pub tells : ℕ → Me ℕ View → ℕ → Me ℕ View → Type 0
tells at me n x = (x ≡ me) × Holds me.0.layout me.0 at n

pub know_allowed : (z : Layout) (slots id : ℕ) (me : Me ℕ View) (at : ℕ) (then : ℕ → Me ℕ View → Type 0) → ((n : ℕ) (stands : Stands z me.0) → n ≡ slice_index stands.words at → then n me) → Allows (holds z) slots id me at (λ n. n) then
know_allowed z slots id me at then told s rule long found small =
    let words : set s.words at (slice_index s.words at) ≡ s.words = set-get_or s.words at 0 in
    let views : set s.views id me.0 ≡ s.views = set_again s.views id me.0 found in
    let kept : InRule z (set s.words at (slice_index s.words at)) (set s.views id me.0) = subst (λ us. InRule z us (set s.views id me.0)) (sym words) (subst (λ vs. InRule z s.words vs) (sym views) rule) in
    (me.0, nothing, tt, kept, told (slice_index s.words at) (record { words = s.words; views = s.views; rule = rule; seat = id; at = get_from_found s.views id me.0 found }) refl)

-- a table that is opened
pub opened_rule : (z : Layout) (words : List ℕ) → z.calls < 2 ^ 64 → words ≡ replicate (word_count z) 0 → InRule z words (first_view z ∷ [])
opened_rule z words few is = subst (λ (us : List ℕ). InRule z us (first_view z ∷ [])) (sym is) (first_law z few)

pub opened_live : (z : Layout) → z.calls < 2 ^ 64 → IsLiveView (first_view z)
opened_live z few = record {
  live = refl;
  stands = record { words = replicate (word_count z) 0; views = first_view z ∷ []; rule = first_law z few; seat = 0; at = refl };
}
