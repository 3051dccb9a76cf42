-- The histories of two views that are joined.
use Rattle.std.proofs.Common.{◌≡◌, ℕ, ◌+◌, ◌<◌, ◌≤◌, cond, List, [], ◌∷◌, ◌++◌, length, take, Bool, true, false, eqb, ltb, ◌&&◌, set, arith, refl, ap, ◌∙◌, sym, inl, inr, Option, Some, None, map, suc, ◌-◌}
use Rattle.std.proofs.lemmas.Bool.Decides.{nat_tests, eqb_tells}
use Rattle.std.proofs.lemmas.List.{take_all, length-take}
use Rattle.key_map.specs.declared.update.Update.{Update}
use Rattle.index_words.specs.declared.view.View.{View}
use Rattle.index_words.specs.declared.view.history.SeenHistory.{SeenHistory}
use Rattle.index_words.specs.declared.view.history.EndedPlace.{EndedPlace}
use Rattle.key_map.specs.Lists.{count, Every, IsItem}
use Rattle.key_map.proofs.Counting.{count-append}
use Rattle.index_words.proofs.Seats.{item_set, beside_item}
use Rattle.core_grace.proofs.RuleMoves.{every_weaker}
use Rattle.core_events.specs.Moves.{longer, own_number, own_ended, history_with}
use Rattle.core_invariant.specs.Histories.{IsGiven, SeenRight, own_place, ended_place, KnowsAll, update_at}
use Rattle.core_invariant.proofs.Frames.{same_item}
use Rattle.std.specs.List.{slice_get}

-- the update at a place, counted from 1
pub at_suc : (us : List Update) (p : ℕ) → update_at us (suc p) ≡ slice_get us p
at_suc us p =
    ap (λ (b : Bool). cond b None (slice_get us (suc p - 1))) (not_zero p) ∙ ap (slice_get us) (before p)
  where
    not_zero : (p : ℕ) → eqb (suc p) 0 ≡ false
    not_zero p = grind (arith, nat_tests)

    before : (p : ℕ) → suc p - 1 ≡ p
    before p = omega arith

-- a beginning of the history
abbrev pub Begins : List Update → List Update → Type 0
Begins updates seen = seen ≡ take (length seen) updates

-- one of two lists, by a test
pub either_list : (P : List Update → Type 0) (b : Bool) (xs ys : List Update) → P xs → P ys → P (cond b xs ys)
either_list P true xs ys px py = px
either_list P false xs ys px py = py

long_by : (b : Bool) (seen other : List Update) → ltb (length seen) (length other) ≡ b
    → (length other ≤ length (cond b other seen)) × (length seen ≤ length (cond b other seen))
long_by true seen other e = (omega arith, grind (arith, nat_tests))
long_by false seen other e = (grind (arith, nat_tests), omega arith)

pub longer_long : (seen other : List Update) → (length other ≤ length (longer seen other)) × (length seen ≤ length (longer seen other))
longer_long seen other = long_by (ltb (length seen) (length other)) seen other refl

pub longer_begins : (updates seen other : List Update) → Begins updates seen → Begins updates other → Begins updates (longer seen other)
longer_begins updates seen other one two = either_list (Begins updates) (ltb (length seen) (length other)) other seen two one

-- a beginning that is as long as the whole is the whole
pub whole : (updates seen : List Update) → Begins updates seen → length updates ≤ length seen → seen ≡ updates
whole updates seen begins long = begins ∙ take_all (length seen) updates long

pub begins-le : (updates seen : List Update) → Begins updates seen → length seen ≤ length updates
begins-le updates seen begins = omega (arith, ap length begins, length-take (length seen) updates)

pub every_append : {X : Type 0} (P : X → Type 0) (xs ys : List X) → Every P xs → Every P ys → Every P (xs ++ ys)
every_append P [] ys one two = two
every_append P (x ∷ xs) ys one two = (one.0, every_append P xs ys one.1 two)

given_before : (xs ys : List ℕ) (ps : List EndedPlace) → Every (IsGiven xs) ps → Every (IsGiven (xs ++ ys)) ps
given_before xs ys ps all = every_weaker (IsGiven xs) (IsGiven (xs ++ ys)) ps (λ p is. omega (arith, is, count-append p.pass xs ys)) all

given_behind : (xs ys : List ℕ) (ps : List EndedPlace) → Every (IsGiven ys) ps → Every (IsGiven (xs ++ ys)) ps
given_behind xs ys ps all = every_weaker (IsGiven ys) (IsGiven (xs ++ ys)) ps (λ p is. omega (arith, is, count-append p.pass xs ys)) all

given_both : (xs ys : List ℕ) (ps qs : List EndedPlace) → Every (IsGiven xs) ps → Every (IsGiven ys) qs → Every (IsGiven (xs ++ ys)) (ps ++ qs)
given_both xs ys ps qs one two = every_append (IsGiven (xs ++ ys)) ps qs (given_before xs ys ps one) (given_behind xs ys qs two)

counts_own : (n : ℕ) → 0 < count n (n ∷ [])
counts_own n = grind (arith, nat_tests)

each_given : (n : ℕ) (mine : List ℕ) → Every (IsGiven (n ∷ [])) (map (λ (p : ℕ). record { pass = n; at = p }) mine)
each_given n [] = tt
each_given n (p ∷ mine) = (counts_own n, each_given n mine)

-- the places of a view that is joined away are given up with its number
own_given : (number : Option ℕ) (mine : List ℕ) → Every (IsGiven (own_number number)) (own_ended number mine)
own_given None mine = tt
own_given (Some n) mine = each_given n mine

pub seen_joined : (updates : List Update) (h o : SeenHistory) (number : Option ℕ) → SeenRight updates h → SeenRight updates o → SeenRight updates (history_with h number o)
seen_joined updates h o number right other = record {
  seen = longer_begins updates h.seen o.seen right.seen other.seen;
  told = other.seen;
  known = (longer_long h.seen o.seen).0;
  found = omega (arith, right.found, (longer_long h.seen o.seen).1);
  given = given_both h.ended (o.ended ++ own_number number) h.ended_places (o.ended_places ++ own_ended number o.mine) right.given
      (given_both o.ended (own_number number) o.ended_places (own_ended number o.mine) other.given (own_given number o.mine));
}

pub ended_append : (n place : ℕ) (xs ys : List EndedPlace) → ended_place n place (xs ++ ys) ≡ ended_place n place xs + ended_place n place ys
ended_append n place [] ys = omega arith
ended_append n place (x ∷ xs) ys = omega (arith, ended_append n place xs ys)

given_by : (n place k : ℕ) (b : Bool) (mine : List ℕ) → eqb k n ≡ b
    → ended_place n place (map (λ (p : ℕ). record { pass = k; at = p }) mine) ≡ cond b (count place mine) 0
given_by n place k true (p ∷ mine) e =
    let one : 0 + cond (eqb k n && eqb p place) 1 0 ≡ 0 + cond (eqb p place) 1 0 = ap (λ (c : Bool). 0 + cond (c && eqb p place) 1 0) e in
    omega (arith, one, given_by n place k true mine e)
given_by n place k false (p ∷ mine) e =
    let none : 0 + cond (eqb k n && eqb p place) 1 0 ≡ 0 = ap (λ (c : Bool). 0 + cond (c && eqb p place) 1 0) e in
    omega (arith, none, given_by n place k false mine e)
given_by n place k _ _ e = refl

pub ended_own : (n place : ℕ) (number : Option ℕ) (mine : List ℕ) → ended_place n place (own_ended number mine) ≡ own_place n place number mine
ended_own n place None mine = refl
ended_own n place (Some k) mine = given_by n place k (eqb k n) mine refl

whole_by : (updates seen other : List Update) → Begins updates seen → Begins updates other → length updates ≤ length (longer seen other) → longer seen other ≡ updates
whole_by updates seen other one two long = whole updates (longer seen other) (longer_begins updates seen other one two) long

-- some view knows the whole history after a join
pub knows_joined : (updates : List Update) (vs : List View) (i j : ℕ) (v u w y : View) → IsItem vs i v → IsItem vs j u → (j ≡ i → ⊥)
    → Begins updates v.history.seen → Begins updates u.history.seen → w.history.seen ≡ longer v.history.seen u.history.seen
    → KnowsAll updates vs → KnowsAll updates (set (set vs i w) j y)
knows_joined updates vs i j v u w y at of other one two seen knows =
    let back : i ≡ j → ⊥ = λ same. other (sym same) in
    let joint : IsItem (set (set vs i w) j y) i w = beside_item (set vs i w) j i w y (item_set vs i v w at) back in
    let long = longer_long v.history.seen u.history.seen in
    let here : length updates ≤ length (longer v.history.seen u.history.seen) → KnowsAll updates (set (set vs i w) j y)
    = λ (enough : length updates ≤ length (longer v.history.seen u.history.seen)). record { place = i; view = w; at = joint; all = seen ∙ whole_by updates v.history.seen u.history.seen one two enough } in
    elim (eqb_tells knows.place i) as (λ _. KnowsAll updates (set (set vs i w) j y)) [
      | inl first ↦
          let all : v.history.seen ≡ updates = ap (λ (x : View). x.history.seen) (same_item vs i knows.place v knows.view at knows.at first.1) ∙ knows.all in
          here (omega (arith, ap length all, long.1))
      | inr apart ↦ elim (eqb_tells knows.place j) as (λ _. KnowsAll updates (set (set vs i w) j y)) [
        | inl second ↦
            let all : u.history.seen ≡ updates = ap (λ (x : View). x.history.seen) (same_item vs j knows.place u knows.view of knows.at second.1) ∙ knows.all in
            here (omega (arith, ap length all, long.0))
        | inr rest ↦ record {
          place = knows.place;
          view = knows.view;
          at = beside_item (set vs i w) j knows.place knows.view y (beside_item vs i knows.place knows.view w knows.at apart.1) rest.1;
          all = knows.all;
        }
      ]
    ]
