-- Raise, its part on the history: the update is the last of it, and the view that has made it knows it whole.
use Rattle.std.proofs.Common.{◌≡◌, ℕ, zero, suc, ◌+◌, ◌<◌, ◌≤◌, cond, List, [], ◌∷◌, ◌++◌, length, take, Bool, true, false, eqb, set, arith, refl, ap, ◌∙◌, sym, subst, Option, Some, None}
use Rattle.std.specs.List.{slice_get}
use Rattle.std.proofs.lemmas.Bool.Decides.{nat_tests}
use Rattle.std.proofs.lemmas.List.{take_all, take-append-le, length-append}
use Rattle.index_words.specs.declared.layout.Layout.{Layout}
use Rattle.key_map.specs.declared.update.Update.{Update}
use Rattle.index_words.specs.declared.view.View.{View}
use Rattle.index_words.specs.declared.view.history.SeenHistory.{SeenHistory}
use Rattle.index_words.specs.declared.word.Word.TheVariants.{Stamp}
use Rattle.index_words.specs.Words.{Memory}
use Rattle.key_map.specs.Lists.{count, IsItem}
use Rattle.index_words.proofs.Seats.{sum_moved, item_set}
use Rattle.key_map.proofs.Counting.{count-push}
use Rattle.core_grace.proofs.RuleMoves.{every_push}
use Rattle.core_events.specs.declared.tree_move.TreeMove.{TreeMove}
use Rattle.core_invariant.specs.Meanings.{Meaning}
use Rattle.core_invariant.specs.Histories.{SeenRight, HistoryRight, update_at, made_by, own_place, place_count, calls_left}
use Rattle.core_invariant.specs.SeatRule.{SeatRight}
use Rattle.core_events.specs.UpdateMoves.{raised_view}
use Rattle.core_invariant.specs.Rule.{Rule}
use Rattle.core_invariant.proofs.Idle.{number_low}
use Rattle.core_invariant.proofs.OneView.{seat_at}
use Rattle.core_invariant.proofs.Joins.{begins-le, at_suc}
use Rattle.core_invariant.proofs.Needed.{CanRaise}

-- one update more
get_push : (us : List Update) (u : Update) (n p : ℕ)
    → made_by n (slice_get (us ++ u ∷ []) p) ≡ made_by n (slice_get us p) + cond (eqb u.client n) (cond (eqb (length us) p) 1 0) 0
get_push [] u n zero = omega arith
get_push [] u n (suc p) = no_more (eqb u.client n)
  where
    no_more : (c : Bool) → 0 ≡ 0 + cond c (cond (eqb 0 (suc p)) 1 0) 0
    no_more true = grind (arith, nat_tests)
    no_more false = refl
get_push (x ∷ us) u n zero = no_more (eqb u.client n)
  where
    no_more : (c : Bool) → made_by n (Some x) ≡ made_by n (Some x) + cond c (cond (eqb (length (x ∷ us)) 0) 1 0) 0
    no_more true = grind (arith, nat_tests)
    no_more false = omega arith
get_push (x ∷ us) u n (suc p) =
    get_push us u n p ∙ ap (λ b. made_by n (slice_get us p) + cond (eqb u.client n) (cond b 1 0) 0) (longer (length us) p)
  where
    longer : (a b : ℕ) → eqb a b ≡ eqb (suc a) (suc b)
    longer a b = grind (arith, nat_tests)

pub made_push : (us : List Update) (u : Update) (n p : ℕ)
    → made_by n (update_at (us ++ u ∷ []) p) ≡ made_by n (update_at us p) + cond (eqb u.client n) (cond (eqb (length us + 1) p) 1 0) 0
made_push us u n zero = no_more (eqb u.client n)
  where
    no_more : (c : Bool) → 0 ≡ 0 + cond c (cond (eqb (length us + 1) 0) 1 0) 0
    no_more true = grind (arith, nat_tests)
    no_more false = refl
made_push us u n (suc p) =
    ap (made_by n) (at_suc (us ++ u ∷ []) p) ∙ get_push us u n p
    ∙ ap (λ b. made_by n (slice_get us p) + cond (eqb u.client n) (cond b 1 0) 0) (longer (length us) p)
    ∙ ap (λ (o : Option Update). made_by n o + cond (eqb u.client n) (cond (eqb (length us + 1) (suc p)) 1 0) 0) (sym (at_suc us p))
  where
    longer : (a b : ℕ) → eqb a b ≡ eqb (a + 1) (suc b)
    longer a b = grind (arith, nat_tests)

own_push : (n p c : ℕ) (number : Option ℕ) (mine : List ℕ) (s : ℕ) → number ≡ Some c
    → own_place n p number (mine ++ s ∷ []) ≡ own_place n p number mine + cond (eqb c n) (cond (eqb s p) 1 0) 0
own_push n p c None mine s is = cc
own_push n p c (Some k) mine s is =
    let same : k ≡ c = cc in
    subst (λ x. own_place n p (Some k) (mine ++ s ∷ []) ≡ own_place n p (Some k) mine + cond (eqb x n) (cond (eqb s p) 1 0) 0) same (push_by (eqb k n))
  where
    push_by : (b : Bool) → cond b (count p (mine ++ s ∷ [])) 0 ≡ cond b (count p mine) 0 + cond b (cond (eqb s p) 1 0) 0
    push_by true = count-push p mine s
    push_by false = refl

module _ (z : Layout) (m : Memory) (vs : List View) (g : Meaning) (rule : Rule z m vs g) (i : ℕ) (v : View) (u : Update) (known : List Update)
    (move : TreeMove) (at : IsItem vs i v) (can : CanRaise v u) (all : known ≡ g.updates) where
  abbrev s : ℕ
  s = m Stamp

  abbrev updates' : List Update
  updates' = g.updates ++ u ∷ []

  abbrev v' : View
  v' = raised_view known v s u move

  abbrev ws : List View
  ws = set vs i v'

  own : SeatRight z m g v
  own = seat_at z m vs g i v at rule

  pub history_now : HistoryRight z (s + 1) updates' ws
  history_now = record {
    long = omega (arith, length-append g.updates (u ∷ []), rule.history.long);
    known = record { place = i; view = v'; at = item_set vs i v v' at; all = ap (λ (us : List Update). us ++ u ∷ []) all };
    clients = every_push (λ (x : Update). x.client < z.passes) g.updates u rule.history.clients (number_low z vs i v u.client rule.numbers at can.number);
    places = λ n p.
        omega (
          arith,
          sum_moved (place_count n p) vs i v v' at,
          rule.history.places n p,
          made_push g.updates u n p,
          own_push n p u.client v.number v.history.mine (s + 1) can.number,
          ap (λ (x : ℕ). 0 + cond (eqb u.client n) (cond (eqb (x + 1) p) 1 0) 0) rule.history.long,
        );
    calls = omega (arith, sum_moved calls_left vs i v v' at, can.left, rule.history.calls);
    few = rule.history.few;
  }

  begins_more : (xs : List Update) → xs ≡ take (length xs) g.updates → xs ≡ take (length xs) (g.updates ++ u ∷ [])
  begins_more xs begins = begins ∙ sym (take-append-le (length xs) g.updates (u ∷ []) (begins-le g.updates xs begins))

  pub seen_more : (h : SeenHistory) → SeenRight g.updates h → SeenRight updates' h
  seen_more h right = record {
    seen = begins_more h.seen right.seen;
    told = begins_more h.told right.told;
    known = right.known;
    found = right.found;
    given = right.given;
  }

  pub own_seen : SeenRight updates' v'.history
  own_seen =
      let long : length (known ++ u ∷ []) ≡ length known + 1 = omega (arith, length-append known (u ∷ [])) in
      let short : length v.history.seen ≤ length known = omega (arith, begins-le g.updates v.history.seen own.seen.seen, ap length all) in
      record {
        seen =
            ap (λ (us : List Update). us ++ u ∷ []) all ∙ sym
            (take_all (length (known ++ u ∷ [])) (g.updates ++ u ∷ []) (omega (arith, ap (λ (us : List Update). length (us ++ u ∷ [])) all)));
        told = begins_more v.history.told own.seen.told;
        known = omega (arith, own.seen.known, long, short);
        found = omega (arith, own.seen.found, long, short);
        given = own.seen.given;
      }
