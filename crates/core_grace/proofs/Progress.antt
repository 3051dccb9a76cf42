-- A batch becomes free exactly once every other pass was passed.
use Rattle.std.proofs.Common.{◌≡◌, ℕ, zero, suc, cond, List, Bool, true, false, ◌&&◌, ◌||◌, arith, refl, ap, ◌∙◌, sym, subst, Option, Result, Ok, Err, OnOk}
use Rattle.index_words.specs.declared.view.View.{View}
use Rattle.key_map.specs.Lists.{has}
use Rattle.core_grace.specs.Batches.{is_number, all_passed, batch_freed, settled}
use Rattle.core_grace.specs.Progress.{PassedOthers, SettlesRight}
use Rattle.core_grace.proofs.RuleMoves.{all_passed-has}

own_or_passed : (a b r : Bool) → (a ≡ false → b ≡ true) → r ≡ true → ((a || b) && r) ≡ true
own_or_passed true b r passed rest = rest
own_or_passed false b r passed rest = ap (λ c. c && r) (passed refl) ∙ rest

-- if every other pass was passed, the test says so
pub passed_all : (passes : ℕ) (number : Option ℕ) (passed : List ℕ) → PassedOthers passes number passed → all_passed passes number passed ≡ true
passed_all zero number passed others = refl
passed_all (suc n) number passed others =
    own_or_passed (is_number n number) (has n passed) (all_passed n number passed) (λ other. others n (omega arith) other)
    (passed_all n number passed (λ k low other. others k (omega (arith, low)) other))

settles_by : (passes : ℕ) (v : View) (b : Bool) → all_passed passes v.number v.grace.passed ≡ b → SettlesRight passes v (cond b (batch_freed v) v)
settles_by passes v true e = record {
  frees = λ others. refl;
  waits = λ n low other none. absurd (apart (has n v.grace.passed) (all_passed-has passes n v.number v.grace.passed e low other) none);
}
  where
    apart : (b : Bool) → b ≡ true → b ≡ false → ⊥
    apart true held none = cc
    apart false held none = cc
settles_by passes v false e = record {
  frees = λ others. absurd (apart (all_passed passes v.number v.grace.passed) (passed_all passes v.number v.grace.passed others) e);
  waits = λ n low other none. refl;
}
  where
    apart : (b : Bool) → b ≡ true → b ≡ false → ⊥
    apart true held none = cc
    apart false held none = cc

pub settles : (passes : ℕ) (v : View) → SettlesRight passes v (settled passes v)
settles passes v = settles_by passes v (all_passed passes v.number v.grace.passed) refl

-- the same for what a call answers
pub settles_ok : {T E : Type 0} (r : Result T E) (passes : ℕ) (v w : View) → OnOk r (w ≡ settled passes v) → OnOk r (SettlesRight passes v w)
settles_ok (Ok x) passes v w is = subst (SettlesRight passes v) (sym is) (settles passes v)
settles_ok (Err e) passes v w is = is
