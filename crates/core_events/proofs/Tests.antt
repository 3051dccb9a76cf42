-- What tests over truth values, numbers and words say.
use Rattle.std.proofs.Common.{◌≡◌, ℕ, ◌<◌, ◌≤◌, ◌⊎◌, Bool, true, false, eqb, leb, ◌&&◌, ◌||◌, not, is_none, arith, refl, ap, ◌∙◌, sym, inl, inr, Option, Some, None}
use Rattle.std.specs.Prelude.{nat_lt}
use Rattle.std.proofs.lemmas.Bool.{eqb-true, eq-eqb, and_parts}
use Rattle.std.proofs.lemmas.Bool.Decides.{nat_tests}
use Rattle.index_words.specs.declared.layout.Layout.{Layout}
use Rattle.index_words.specs.declared.view.View.{View}
use Rattle.index_words.specs.declared.word.Field.{Field}
use Rattle.index_words.specs.declared.word.Part.{Part}
use Rattle.index_words.specs.declared.word.Word.{Word}
use Rattle.index_words.specs.declared.word.Word.TheVariants.{Node, Entry, Stamp}
use Rattle.index_words.specs.Words.{word_at}
use Rattle.index_words.proofs.Store.{word_there}
use Rattle.core_grace.specs.Batches.{is_number}
use Rattle.core_events.specs.Needs.{is_stamp}
use Rattle.core_events.specs.Announcing.{has_announced}

pub either_true : (a b : Bool) → (a || b) ≡ true → (a ≡ true) ⊎ (b ≡ true)
either_true true b e = inl refl
either_true false b e = inr e

pub not_true : (b : Bool) → not b ≡ true → b ≡ false
not_true true e = cc
not_true false e = refl

-- a test that fails does not hold
pub never : false ≡ true → ⊥
never e = cc

pub not_equal : (a b : ℕ) → not (eqb a b) ≡ true → a ≡ b → ⊥
not_equal a b e same = never (sym (not_true (eqb a b) e) ∙ eq-eqb a b same)

pub none_of : {X : Type 0} (o : Option X) → is_none o ≡ true → o ≡ None
none_of None e = refl
none_of (Some n) e = cc

pub number_of_is : (n : ℕ) (o : Option ℕ) → is_number n o ≡ true → o ≡ Some n
number_of_is n None e = cc
number_of_is n (Some k) e = ap Some (eqb-true k n e)

pub positive : (x : ℕ) → eqb x 0 ≡ false → 0 < x
positive x p = grind (arith, nat_tests)

-- a seat has announced if its announcement is above 0
pub has_announced-is : (v : View) → 0 < v.announced → has_announced v ≡ true
has_announced-is v some = by v.announced some
  where
    by : (x : ℕ) → 0 < x → not (eqb x 0) ≡ true
    by x more = grind (arith, nat_tests)

pub announced_some : (v : View) → has_announced v ≡ true → 0 < v.announced
announced_some v told = positive v.announced (not_true (eqb v.announced 0) told)

-- a node whose word was found is one of the table
pub node_there : (z : Layout) (n k : ℕ) (f : Field) → word_at z n ≡ Some (Node f k) → k ≤ z.nodes
node_there z n k f found = let there : leb k z.nodes ≡ true = (word_there z n (Node f k) found).0 in grind (arith, nat_tests)

pub entry_there : (z : Layout) (n e : ℕ) (p : Part) → word_at z n ≡ Some (Entry p e) → 0 < e
entry_there z n e p found =
    let there : (nat_lt 0 e && leb e z.entries) ≡ true = (word_there z n (Entry p e) found).0 in
    let low : nat_lt 0 e ≡ true = (and_parts (nat_lt 0 e) (leb e z.entries) there).0 in
    grind (arith, nat_tests)

-- a load of the stamp is one at the stamp
pub stamp_named : (w : Word) → is_stamp w ≡ true → w ≡ Stamp
stamp_named Stamp is = refl
stamp_named _ is = absurd (never is)
