-- Each view knows where its own updates stand, after every event.
use Rattle.std.proofs.Common.{◌≡◌, ℕ, zero, suc, ◌+◌, ◌<◌, ◌≤◌, cond, List, [], ◌∷◌, ◌++◌, length, take, ltb, Bool, true, false, eqb, ◌&&◌, set, arith, refl, ap, ◌∙◌, sym, subst, inl, inr, Option, Some, None, map}
use Rattle.std.specs.Prelude.{IfSome}
use Rattle.std.specs.List.{All, sum_by, slice_get}
use Rattle.std.proofs.lemmas.Bool.{eqb-true, eq-eqb, cases_lt}
use Rattle.std.proofs.lemmas.Bool.Decides.{nat_tests}
use Rattle.std.proofs.lemmas.List.{take_all, length-append}
use Rattle.std.proofs.lemmas.List.Elements.{All-set, All-push}
use Rattle.std.proofs.lemmas.List.Sums.{sum_by-cons}
use Rattle.std.proofs.lemmas.Option.{same_Some, IfSome_then}
use Rattle.index_words.specs.declared.layout.Layout.{Layout}
use Rattle.key_map.specs.declared.update.Update.{Update}
use Rattle.index_words.specs.declared.view.View.{View}
use Rattle.index_words.specs.declared.view.history.EndedPlace.{EndedPlace}
use Rattle.index_words.specs.declared.word.Word.{Word}
use Rattle.index_words.specs.declared.word.Word.TheVariants.{Stamp}
use Rattle.index_words.specs.Words.{Memory, memory}
use Rattle.index_words.specs.Views.{spent_view}
use Rattle.key_map.specs.Lists.{count, Every, IsItem}
use Rattle.key_map.specs.History.{own_places}
use Rattle.key_map.proofs.PlacesLaws.{own_places-own, places_take, places_within}
use Rattle.index_words.proofs.Seats.{Beside, at_item, all_moved, sum_moved, two_terms}
use Rattle.core_grace.proofs.RuleMoves.{every_weaker}
use Rattle.core_invariant.specs.Meanings.{Meaning}
use Rattle.core_events.specs.Moves.{own_number, own_ended, longer, left, split_left, split_right, joined_with}
use Rattle.core_invariant.specs.Numbers.{number_count}
use Rattle.core_invariant.specs.Histories.{IsGiven, update_at, made_by, own_place, ended_place, place_count}
use Rattle.core_invariant.specs.OwnPlaces.{KnowsPlacesOf, KnowsPlaces, HasNumber}
use Rattle.core_invariant.specs.Rule.{Rule, InRule}
use Rattle.core_invariant.proofs.OneView.{seat_at, item_from_get}
use Rattle.core_invariant.proofs.Idle.{cond-le, own_count}
use Rattle.core_invariant.proofs.Joins.{Begins, begins-le, longer_begins, longer_long, whole, every_append, at_suc}
use Rattle.index_words.specs.declared.view.reading.TreeNode.{TreeNode}
use Rattle.core_events.specs.declared.tree_move.TreeMove.{TreeMove}
use Rattle.core_events.specs.declared.event.Kind.{Kind}
use Rattle.core_events.specs.declared.event.Kind.TheVariants.{MakeSeat, SplitSeat, JoinSeat, Leave, LoadStamp, Raise}
use Rattle.core_grace.specs.Batches.{is_number}
use Rattle.core_events.specs.Needs.{is_stamp}
use Rattle.core_events.specs.Announcing.{has_announced}
use Rattle.core_events.proofs.Allowed.{stamp_needs}
use Rattle.core_events.specs.LoadMoves.{stamp_reading, longest, stamp_loaded}
use Rattle.core_events.specs.UpdateMoves.{raised_view}
use Rattle.core_events.specs.Versions.{tree_nodes}
use Rattle.core_events.specs.SpelledNow.{tree_now}
use Rattle.core_events.specs.TreeMoves.{tree_move}
use Rattle.core_events.specs.Steps.{needs, carries, view_after, views_after, join_found, raised_from}
use Rattle.core_invariant.proofs.Passing.{longest_is}
use Rattle.core_events.proofs.Tests.{stamp_named}
use Rattle.core_invariant.proofs.Groups.{Group}
use Rattle.core_invariant.proofs.Groups.Group.{Owner, History, Snapshot}
use Rattle.core_invariant.proofs.Footprints.{Parts, Spares, quiet_part}
use Rattle.core_invariant.proofs.Needed.{raise_needed}

sum_zero : (f : View → ℕ) (us : List View) → All (λ u. f u ≡ 0) us → sum_by f us ≡ 0
sum_zero f [] all = refl
sum_zero f (u ∷ us) all =
    omega (arith, sum_by-cons f u us, all 0 u (omega arith), sum_zero f us (λ k d within. all (suc k) d (omega (arith, within))))

every_get : {X : Type 0} (P : X → Type 0) (xs : List X) (k : ℕ) (x : X) → Every P xs → slice_get xs k ≡ Some x → P x
every_get P [] k x all is = cc
every_get P (y ∷ ys) zero x all is = subst P (same_Some y x is) all.0
every_get P (y ∷ ys) (suc k) x all is = every_get P ys k x all.1 is

some_there : {X : Type 0} (xs : List X) (k : ℕ) → k < length xs → slice_get xs k ≡ None → ⊥
some_there [] k low is = omega (arith, low)
some_there (x ∷ xs) zero low is = cc
some_there (x ∷ xs) (suc k) low is = some_there xs k (omega (arith, low)) is

-- where no view but one counts, the sum is that view's
sum_only : (f : View → ℕ) (vs : List View) (i : ℕ) (v : View) → IsItem vs i v → f spent_view ≡ 0 → ((u : View) → Beside vs i u → f u ≡ 0) → sum_by f vs ≡ f v
sum_only f vs i v at spent others =
    let left = all_moved (λ u. u ≡ u) (λ u. f u ≡ 0) vs i v spent_view at (λ k d within. refl) spent (λ u beside same. others u beside) in
    omega (arith, sum_moved f vs i v spent_view at, sum_zero f (set vs i spent_view) left, spent)

-- a place outside of a list is not counted in it
none_counted : (p : ℕ) (xs : List ℕ) (limit : ℕ) → limit ≤ p → Every (λ x. (1 ≤ x) × (x < limit)) xs → count p xs ≡ 0
none_counted p [] limit past all = refl
none_counted p (x ∷ xs) limit past all =
    let other : eqb x p ≡ false = below x p (omega (arith, past, all.0.1)) in
    omega (arith, ap (λ (b : Bool). 0 + cond b 1 0) other, none_counted p xs limit past all.1)
  where
    below : (a b : ℕ) → a < b → eqb a b ≡ false
    below a b low = grind (arith, nat_tests)

past_ended : (n p limit : ℕ) (ps : List EndedPlace) → limit < p → Every (λ (q : EndedPlace). q.at ≤ limit) ps → ended_place n p ps ≡ 0
past_ended n p limit [] past all = refl
past_ended n p limit (q ∷ ps) past all =
    omega (arith, apart (eqb q.pass n) (eqb q.at p) (below q.at p (omega (arith, past, all.0))), past_ended n p limit ps past all.1)
  where
    below : (a b : ℕ) → a < b → eqb a b ≡ false
    below a b low = grind (arith, nat_tests)

    apart : (a b : Bool) → b ≡ false → 0 + cond (a && b) 1 0 ≡ 0
    apart true b e = ap (λ (c : Bool). 0 + cond c 1 0) e
    apart false b e = refl

not_given : (n p : ℕ) (ended : List ℕ) (ps : List EndedPlace) → count n ended ≡ 0 → Every (IsGiven ended) ps → ended_place n p ps ≡ 0
not_given n p ended [] none all = refl
not_given n p ended (q ∷ ps) none all = omega (arith, apart (eqb q.pass n) (eqb q.at p) refl, not_given n p ended ps none all.1)
  where
    apart : (a b : Bool) → eqb q.pass n ≡ a → 0 + cond (a && b) 1 0 ≡ 0
    apart true b e = let same : q.pass ≡ n = eqb-true q.pass n e in absurd (omega (arith, none, all.0, ap (λ k. count k ended) same))
    apart false b e = refl

not_own_place : (n p : ℕ) (number : Option ℕ) (mine : List ℕ) → count n (own_number number) ≡ 0 → own_place n p number mine ≡ 0
not_own_place n p None mine none = refl
not_own_place n p (Some k) mine none = by_test (eqb k n) none
  where
    by_test : (b : Bool) → cond b 1 0 + 0 ≡ 0 → cond b (count p mine) 0 ≡ 0
    by_test true none = absurd (omega (arith, none))
    by_test false none = refl

-- an own place lies within what is seen
past_own : (n p : ℕ) (number : Option ℕ) (mine : List ℕ) (seen : List Update) → length seen < p → IfSome number (λ k. mine ≡ own_places k seen)
    → own_place n p number mine ≡ 0
past_own n p None mine seen past own = refl
past_own n p (Some k) mine seen past own = by_test (eqb k n)
  where
    by_test : (b : Bool) → cond b (count p mine) 0 ≡ 0
    by_test true =
        ap (count p) own ∙ none_counted p (own_places k seen) (1 + length seen) (omega (arith, past)) (places_within k 1 (1 + length seen) seen (omega arith))
    by_test false = refl

pub past_place : (n p : ℕ) (v : View) → KnowsPlaces v → length v.history.seen < p → place_count n p v ≡ 0
past_place n p v knows past =
    omega (
      arith,
      past_own n p v.number v.history.mine v.history.seen past knows.own,
      past_ended n p (length v.history.seen) v.history.ended_places past knows.given,
    )

mapped_within : (n limit top : ℕ) (ps : List ℕ) → top ≤ limit + 1 → Every (λ p. (1 ≤ p) × (p < top)) ps
    → Every (λ (q : EndedPlace). q.at ≤ limit) (map (λ (p : ℕ). record { pass = n; at = p }) ps)
mapped_within n limit top [] low all = tt
mapped_within n limit top (p ∷ ps) low all = (omega (arith, low, all.0.1), mapped_within n limit top ps low all.1)

-- the own places that a view gives up lie within what it has seen
ended_within : (number : Option ℕ) (mine : List ℕ) (seen : List Update) (limit : ℕ) → length seen ≤ limit → IfSome number (λ n. mine ≡ own_places n seen)
    → Every (λ (q : EndedPlace). q.at ≤ limit) (own_ended number mine)
ended_within None mine seen limit long own = tt
ended_within (Some n) mine seen limit long own =
    subst (λ (ps : List ℕ). Every (λ (q : EndedPlace). q.at ≤ limit) (map (λ (p : ℕ). record { pass = n; at = p }) ps)) (sym own)
    (mapped_within n limit (1 + length seen) (own_places n seen) (omega (arith, long)) (places_within n 1 (1 + length seen) seen (omega arith)))

module _ (z : Layout) (m : Memory) (vs : List View) (g : Meaning) (rule : Rule z m vs g) (i : ℕ) (v : View) (at : IsItem vs i v) (knows : KnowsPlaces v) where
  -- no view but the one that has a number has a place of it
  others_none : (n p : ℕ) → 0 < number_count n v → (u : View) → Beside vs i u → place_count n p u ≡ 0
  others_none n p has u beside =
      let none : number_count n u ≡ 0 = omega (arith, has, two_terms (number_count n) vs i v u at beside, rule.numbers n, cond-le (ltb n z.passes)) in
      omega (
        arith,
        not_own_place n p u.number u.history.mine (omega (arith, none)),
        not_given n p u.history.ended u.history.ended_places (omega (arith, none)) (seat_at z m vs g beside.place u beside.at rule).seen.given,
      )

  -- beyond what it has seen stands no update of a number that it has
  pub made_none : (n p : ℕ) → 0 < number_count n v → length v.history.seen < p → made_by n (update_at g.updates p) ≡ 0
  made_none n p has past =
      sym (rule.history.places n p) ∙ sum_only (place_count n p) vs i v at refl (others_none n p has) ∙ past_place n p v knows past

  not_made : (n k : ℕ) (u : Update) → 0 < number_count n v → length v.history.seen ≤ k → slice_get g.updates k ≡ Some u → u.client ≡ n → ⊥
  not_made n k u has past here own =
      let none : made_by n (slice_get g.updates k) ≡ 0 = ap (made_by n) (sym (at_suc g.updates k)) ∙ made_none n (suc k) has (omega (arith, past)) in
      let one : made_by n (Some u) ≡ 0 = sym (ap (made_by n) here) ∙ none in
      omega (arith, one, ap (λ (b : Bool). 0 + cond b 1 0) (eq-eqb u.client n own))

  own_of : (n k : ℕ) → 0 < number_count n v → length v.history.seen ≤ k → own_places n (take k g.updates) ≡ own_places n g.updates
  own_of n k has past = places_take n 1 g.updates k (λ j u le here own. not_made n j u has (omega (arith, past, le)) here own)

  has_own : (n : ℕ) → v.number ≡ Some n → 0 < number_count n v
  has_own n is = omega (arith, own_count n v.number is)

  -- a longer beginning of the history has no more own places
  own_longer : (number : Option ℕ) (xs : List Update) → v.number ≡ number → Begins g.updates xs → length v.history.seen ≤ length xs
      → IfSome number (λ n. v.history.mine ≡ own_places n v.history.seen) → IfSome number (λ n. v.history.mine ≡ own_places n xs)
  own_longer None xs is begins long own = tt
  own_longer (Some n) xs is begins long own =
      let has = has_own n is in
      own ∙ ap (own_places n) (seat_at z m vs g i v at rule).seen.seen ∙ own_of n (length v.history.seen) has (omega arith)
      ∙ sym (own_of n (length xs) has long) ∙ ap (own_places n) (sym begins)

  given_longer : (limit : ℕ) → length v.history.seen ≤ limit → Every (λ (p : EndedPlace). p.at ≤ limit) v.history.ended_places
  given_longer limit long =
      every_weaker (λ (p : EndedPlace). p.at ≤ length v.history.seen) (λ (p : EndedPlace). p.at ≤ limit) v.history.ended_places
      (λ p low. omega (arith, low, long)) knows.given

  -- a view that has been given every number knows the whole history
  pub knows_whole : ((n : ℕ) → n < z.passes → HasNumber v n) → v.history.seen ≡ g.updates
  knows_whole all =
      elim (cases_lt (length v.history.seen) (length g.updates)) as (λ _. v.history.seen ≡ g.updates) [
        | inl short ↦ absurd (last_by (slice_get g.updates (length v.history.seen)) refl short)
        | inr long ↦ whole g.updates v.history.seen (seat_at z m vs g i v at rule).seen.seen long
      ]
    where
      counted : (n : ℕ) → HasNumber v n → 0 < number_count n v
      counted n (inl own) = has_own n own
      counted n (inr given) = omega (arith, given)

      last_by : (o : Option Update) → slice_get g.updates (length v.history.seen) ≡ o → length v.history.seen < length g.updates → ⊥
      last_by None is short = some_there g.updates (length v.history.seen) short is
      last_by (Some u) is short =
          not_made u.client (length v.history.seen) u (counted u.client
          (all u.client (every_get (λ (x : Update). x.client < z.passes) g.updates (length v.history.seen) u rule.history.clients is))) (omega arith) is refl

  -- a load of the stamp: with an announcement the section number is the stamp, and without one it stays
  pub stamp_places : (known : List Update) (fixes : Bool) (nodes : List TreeNode) → v.reading.opened ≡ None → known ≡ g.updates
      → KnowsPlaces (stamp_loaded known v (m Stamp) fixes nodes)
  stamp_places known fixes nodes closed all =
      let whole_known : Begins g.updates known = all ∙ sym (take_all (length known) g.updates (omega (arith, ap length all))) in
      let short : length v.history.seen ≤ length known
      = omega (arith, begins-le g.updates v.history.seen (seat_at z m vs g i v at rule).seen.seen, ap length all) in
      record {
        own = own_longer v.number known refl whole_known short knows.own;
        given = given_longer (length known) short;
        section = section_by (has_announced v) short (omega (arith, ap length all, rule.history.long));
        opened = opened_by (has_announced v) fixes;
      }
    where
      section_by : (c : Bool) → length v.history.seen ≤ length known → m Stamp ≤ length known
          → IfSome (stamp_reading v.reading c (m Stamp) fixes nodes).section (λ t. t ≤ length known)
      section_by true short long = long
      section_by false short long = IfSome_then v.reading.section knows.section (λ t low. omega (arith, low, short))

      opened_by : (c b : Bool) → IfSome (stamp_reading v.reading c (m Stamp) b nodes).opened (λ t. cond b (m Stamp) v.history.found ≡ t)
      opened_by true true = refl
      opened_by true false = tt
      opened_by false b = subst (λ (o : Option ℕ). IfSome o (λ t. cond b (m Stamp) v.history.found ≡ t)) (sym closed) tt

  -- a raise
  pub raise_places : (known : List Update) (u : Update) (move : TreeMove) → known ≡ g.updates → v.number ≡ Some u.client
      → KnowsPlaces (raised_view known v (m Stamp) u move)
  raise_places known u move all named =
      let known_whole : Begins g.updates known = all ∙ sym (take_all (length known) g.updates (omega (arith, ap length all))) in
      let more : length (known ++ u ∷ []) ≡ length known + 1 = omega (arith, length-append known (u ∷ [])) in
      let short : length v.history.seen ≤ length known
      = omega (arith, begins-le g.updates v.history.seen (seat_at z m vs g i v at rule).seen.seen, ap length all) in
      let place : length known + 1 ≡ m Stamp + 1 = ap (λ n. n + 1) (ap length all ∙ rule.history.long) in
      record {
        own = pushed v.number refl (own_longer v.number known refl known_whole short knows.own) place;
        given = given_longer (length (known ++ u ∷ [])) (omega (arith, more, short));
        section = IfSome_then v.reading.section knows.section (λ t low. omega (arith, low, more, short));
        opened = knows.opened;
      }
    where
      pushed : (number : Option ℕ) → v.number ≡ number → IfSome number (λ n. v.history.mine ≡ own_places n known) → length known + 1 ≡ m Stamp + 1
          → IfSome number (λ n. v.history.mine ++ (m Stamp + 1) ∷ [] ≡ own_places n (known ++ u ∷ []))
      pushed None is own place = tt
      pushed (Some n) is own place =
          let same : Some u.client ≡ Some n = sym named ∙ is in
          ap (λ (ps : List ℕ). ps ++ (m Stamp + 1) ∷ []) own ∙ ap (λ k. own_places n known ++ k ∷ []) (sym place)
          ∙ sym (own_places-own n known u (same_Some u.client n same))

  -- another view is joined into it
  pub joined_places : (j : ℕ) (u : View) → IsItem vs j u → KnowsPlaces u → KnowsPlaces (joined_with v u)
  joined_places j u of other =
      let mine = (seat_at z m vs g i v at rule).seen in
      let theirs = (seat_at z m vs g j u of rule).seen in
      let long = longer_long v.history.seen u.history.seen in
      let limit : ℕ = length (longer v.history.seen u.history.seen) in
      let within : EndedPlace → Type 0 = λ (p : EndedPlace). p.at ≤ limit in
      record {
        own =
            own_longer v.number (longer v.history.seen u.history.seen) refl
            (longer_begins g.updates v.history.seen u.history.seen mine.seen theirs.seen) long.1 knows.own;
        given = every_append within v.history.ended_places (u.history.ended_places ++ own_ended u.number u.history.mine) (given_longer limit long.1)
            (every_append within u.history.ended_places (own_ended u.number u.history.mine)
            (every_weaker (λ (p : EndedPlace). p.at ≤ length u.history.seen) within u.history.ended_places (λ p low. omega (arith, low, long.0)) other.given)
            (ended_within u.number u.history.mine u.history.seen limit long.0 other.own));
        section = IfSome_then v.reading.section knows.section (λ t low. omega (arith, low, long.1));
        opened = knows.opened;
      }

abbrev places_groups : List Group
places_groups = Owner ∷ History ∷ Snapshot ∷ []

abbrev places_of : Parts places_groups → Type 0
places_of p = KnowsPlacesOf p.0.number p.1.0.seen p.1.0.mine p.1.0.ended_places p.1.0.found p.1.1.0.0 p.1.1.0.1

-- the views after an event
module _ (z : Layout) (words : List ℕ) (vs : List View) (right : InRule z words vs) (i : ℕ) (v : View) (at : IsItem vs i v) (w : Word) (value : ℕ) where
  abbrev m' : Memory
  m' = memory z words

  abbrev knows' : KnowsPlaces v
  knows' = at_item KnowsPlaces vs i v at right.places

  named_by : (n : ℕ) (number : Option ℕ) → is_number n number ≡ true → number ≡ Some n
  named_by n None e = cc
  named_by n (Some k) e = ap Some (eqb-true k n e)

  raised_places : (x : ℕ) (o : Option Update) → x ≡ m' Stamp → carries Raise v o ≡ true → KnowsPlaces (raised_from z m' vs v x o)
  raised_places x None is own = knows'
  raised_places x (Some u) is own =
      subst (λ n. KnowsPlaces (raised_from z m' vs v n (Some u))) (sym is)
      (raise_places z m' vs right.meaning right.rule i v at knows' (longest vs) u (tree_move z m' vs v u) (longest_is z m' vs right.meaning right.rule)
      (named_by u.client v.number own))

  loaded_places : (x : ℕ) → v.reading.opened ≡ None → x ≡ m' Stamp → KnowsPlaces (stamp_loaded (longest vs) v x (eqb value 1) (tree_nodes (tree_now z m' vs)))
  loaded_places x closed is =
      subst (λ n. KnowsPlaces (stamp_loaded (longest vs) v n (eqb value 1) (tree_nodes (tree_now z m' vs)))) (sym is)
      (stamp_places z m' vs right.meaning right.rule i v at knows' (longest vs) (eqb value 1) (tree_nodes (tree_now z m' vs)) closed
      (longest_is z m' vs right.meaning right.rule))

  -- a load of the stamp and a raise are at the stamp
  at_stamp : is_stamp w ≡ true → m' w ≡ m' Stamp
  at_stamp is = ap m' (stamp_named w is)

  moved : (u : View) → KnowsPlaces u → All KnowsPlaces (set vs i u)
  moved u knows = All-set KnowsPlaces vs i u knows right.places

  -- a kind that touches none of this
  still : (kind : Kind) (o : Option Update) → Spares kind places_groups → All KnowsPlaces (set vs i (view_after kind z m' vs v w (m' w) value o))
  still kind o off = moved (view_after kind z m' vs v w (m' w) value o) (quiet_part z m' vs v (m' w) value o kind w places_groups places_of off knows')

  joined_by : (o : Option View) → slice_get vs value ≡ o → All KnowsPlaces (join_found vs i v value o)
  joined_by None is = right.places
  joined_by (Some u) is =
      let of = item_from_get vs value u is in
      All-set KnowsPlaces (set vs i (joined_with v u)) value spent_view (record { own = tt; given = tt; section = tt; opened = tt })
      (moved (joined_with v u) (joined_places z m' vs right.meaning right.rule i v at knows' value u of (at_item KnowsPlaces vs value u of right.places)))

  split_places : All KnowsPlaces (set vs i (split_left v value) ++ split_right v value ∷ [])
  split_places =
      All-push KnowsPlaces (set vs i (split_left v value)) (split_right v value)
      (moved (split_left v value) knows')
      (record { own = tt; given = tt; section = tt; opened = tt })

  -- each view knows where its own updates stand after an event whose needs are met
  pub places_after : (kind : Kind) (o : Option Update) → carries kind v o ≡ true → needs kind z m' vs i v w value o ≡ true
      → All KnowsPlaces (views_after kind z m' vs i v w value o)
  places_after MakeSeat o own met = right.places
  places_after SplitSeat o own met = split_places
  places_after JoinSeat o own met = joined_by (slice_get vs value) refl
  places_after Leave o own met = moved (left v value) (record { own = knows'.own; given = knows'.given; section = tt; opened = tt })
  places_after LoadStamp o own met = let needs = stamp_needs v w value met in moved _ (loaded_places (m' w) needs.closed (at_stamp needs.stamp))
  places_after Raise o own met = moved _ (raised_places (m' w) o (at_stamp (raise_needed z m' vs v w value o met)) own)
  places_after kind o own met = still kind o (refl, (refl, (refl, tt)))
