-- The arguments have at most one form.
use Rattle.std.proofs.Common.{◌≡◌, ℕ, ◌<◌, ◌^◌, true, List, [], ◌∷◌, ◌++◌, length, codes, Option, Some, None, inl, inr, refl, sym, ap, subst, ◌∙◌, arith}
use Rattle.std.specs.Prelude.{MatchOption}
use Rattle.std.specs.Fmt.{decimal}
use Rattle.std.specs.Str.{all_ascii_digits}
use Rattle.std.specs.Str.Parse.{digits_value}
use Rattle.std.proofs.lemmas.Fmt.{digits_value-decimal}
use Rattle.std.proofs.lemmas.Str.Parse.{IsNumeralModel, numerals_by_value, tells_all_ascii_digits}
use Rattle.command_words.specs.declared.form.Form.{Form}
use Rattle.command_words.specs.declared.form.Form.TheVariants.{Run, Pool, Check, Sample}
use Rattle.command_words.specs.Program.{IsForm}
use Rattle.command_words.specs.Words.{HasOption, IsRun, IsCheck, IsSample, HasForm}
use Rattle.client_threads.specs.ClientSlots.{IsNamable}
use Rattle.bucket_terms.specs.LegalRun.{Run as LegalRun}
use Rattle.replay_check.specs.declared.verdict.Verdict.{Verdict}
use Rattle.serve_session.specs.Served.{HoldsOfInput, HasVerdict}

numerals : IsNumeralModel (λ digits. all_ascii_digits digits ≡ true) (digits_value 10)
numerals = numerals_by_value _ tells_all_ascii_digits

same_decimal : (m n : ℕ) → m < 2 ^ 64 → n < 2 ^ 64 → decimal m ≡ decimal n → m ≡ n
same_decimal m n first second digits =
    sym (digits_value-decimal numerals m first) ∙ ap (digits_value 10) digits ∙ digits_value-decimal numerals n second

pub one_number : (words : List (List ℕ)) (m n : ℕ) → IsSample words m → IsSample words n → m ≡ n
one_number words m n first second =
    let same : codes "sample" ∷ decimal m ∷ [] ≡ codes "sample" ∷ decimal n ∷ [] = sym first.spelled ∙ second.spelled in
    let digits : decimal m ≡ decimal n = cc in
    same_decimal m n (omega (arith, first.most)) (omega (arith, second.most)) digits

-- equal lists with the same beginning have the same rest
append_same : (xs ys zs : List ℕ) → xs ++ ys ≡ xs ++ zs → ys ≡ zs
append_same [] ys zs same = same
append_same (x ∷ xs) ys zs same = let rest : xs ++ ys ≡ xs ++ zs = cc in append_same xs ys zs rest

-- an option is not a verb alone, and names one number at most
module _ (verb option : List ℕ) (words : List (List ℕ)) where
  not_alone : (n : ℕ) → words ≡ verb ∷ [] → HasOption verb option words n → ⊥
  not_alone n alone is = elim is.spelled [
    | inl spelled ↦ let lengths : 1 ≡ 3 = sym (ap length alone) ∙ ap length spelled in absurd (omega (arith, lengths))
    | inr spelled ↦ let lengths : 1 ≡ 2 = sym (ap length alone) ∙ ap length spelled in absurd (omega (arith, lengths))
  ]

  same_number : (m n : ℕ) → HasOption verb option words m → HasOption verb option words n → m ≡ n
  same_number m n first second =
      let small : m < 2 ^ 64 = omega (arith, first.most) in
      let low : n < 2 ^ 64 = omega (arith, second.most) in
      elim first.spelled [
        | inl one ↦ elim second.spelled [
          | inl other ↦
              let same : verb ∷ option ∷ decimal m ∷ [] ≡ verb ∷ option ∷ decimal n ∷ [] = sym one ∙ other in
              let digits : decimal m ≡ decimal n = cc in
              same_decimal m n small low digits
          | inr other ↦ let lengths : 3 ≡ 2 = sym (ap length one) ∙ ap length other in absurd (omega (arith, lengths))
        ]
        | inr one ↦ elim second.spelled [
          | inl other ↦ let lengths : 2 ≡ 3 = sym (ap length one) ∙ ap length other in absurd (omega (arith, lengths))
          | inr other ↦
              let same : verb ∷ (option ++ codes "=" ++ decimal m) ∷ [] ≡ verb ∷ (option ++ codes "=" ++ decimal n) ∷ [] = sym one ∙ other in
              let joined : option ++ codes "=" ++ decimal m ≡ option ++ codes "=" ++ decimal n = cc in
              same_decimal m n small low (append_same (option ++ codes "=") (decimal m) (decimal n) joined)
        ]
      ]

-- where two options differ
abbrev third_byte : List ℕ → ℕ
third_byte (a ∷ b ∷ c ∷ rest) = c
third_byte others = 0

-- the arguments do not have both options of `run`
not_both_options : (words : List (List ℕ)) (m n : ℕ) → HasOption (codes "run") (codes "--slots") words m → HasOption (codes "run") (codes "--pool") words n → ⊥
not_both_options words m n first second =
    elim first.spelled [
      | inl one ↦ elim second.spelled [
        | inl other ↦
            let same : codes "run" ∷ codes "--slots" ∷ decimal m ∷ [] ≡ codes "run" ∷ codes "--pool" ∷ decimal n ∷ [] = sym one ∙ other in
            let options : codes "--slots" ≡ codes "--pool" = cc in
            absurd cc
        | inr other ↦ let lengths : 3 ≡ 2 = sym (ap length one) ∙ ap length other in absurd (omega (arith, lengths))
      ]
      | inr one ↦ elim second.spelled [
        | inl other ↦ let lengths : 2 ≡ 3 = sym (ap length one) ∙ ap length other in absurd (omega (arith, lengths))
        | inr other ↦
            let same : codes "run" ∷ (codes "--slots" ++ codes "=" ++ decimal m) ∷ [] ≡ codes "run" ∷ (codes "--pool" ++ codes "=" ++ decimal n) ∷ [] = sym one ∙ other in
            let joined : codes "--slots" ++ codes "=" ++ decimal m ≡ codes "--pool" ++ codes "=" ++ decimal n = cc in
            let third : 115 ≡ 112 = ap third_byte joined in
            absurd (omega (arith, third))
      ]
    ]

one_run : (words : List (List ℕ)) (a b : Option ℕ) → IsRun words a → IsRun words b → a ≡ b
one_run words None None first second = refl
one_run words None (Some n) first (inl slots) = absurd (not_alone (codes "run") (codes "--slots") words n first slots)
one_run words None (Some n) first (inr pool) = absurd (not_alone (codes "run") (codes "--pool") words n first pool)
one_run words (Some m) None (inl slots) second = absurd (not_alone (codes "run") (codes "--slots") words m second slots)
one_run words (Some m) None (inr pool) second = absurd (not_alone (codes "run") (codes "--pool") words m second pool)
one_run words (Some m) (Some n) (inl first) (inl second) = ap Some (same_number (codes "run") (codes "--slots") words m n first second)
one_run words (Some m) (Some n) (inl first) (inr second) = absurd (not_both_options words m n first second)
one_run words (Some m) (Some n) (inr first) (inl second) = absurd (not_both_options words n m second first)
one_run words (Some m) (Some n) (inr first) (inr second) = ap Some (same_number (codes "run") (codes "--pool") words m n first second)

one_check : (words : List (List ℕ)) (a b : Option ℕ) → IsCheck words a → IsCheck words b → a ≡ b
one_check words None None first second = refl
one_check words None (Some n) first second = absurd (not_alone (codes "check") (codes "--slots") words n first second)
one_check words (Some m) None first second = absurd (not_alone (codes "check") (codes "--slots") words m second first)
one_check words (Some m) (Some n) first second = ap Some (same_number (codes "check") (codes "--slots") words m n first second)

-- the forms `run` that were found are those of the arguments
pub run_found : (words : List (List ℕ)) (slots given : Option ℕ) → given ≡ slots → IsForm words (Run slots) → IsRun words given
run_found words slots given same is = subst (IsRun words) (sym same) (found slots is)
  where
    found : (o : Option ℕ) → IsForm words (Run o) → IsRun words o
    found None is = is
    found (Some n) is = inl is

pub pool_found : (words : List (List ℕ)) (n : ℕ) → IsForm words (Pool n) → IsRun words (Some n)
pool_found words n is = inr is

pub check_found : (words : List (List ℕ)) (slots : Option ℕ) → IsForm words (Check slots) → IsCheck words slots
check_found words None is = is
check_found words (Some n) is = is

-- what holds of an input with the slots that were found holds of it with those that the arguments name
pub input_named : (words : List (List ℕ)) (a b : Option ℕ) (before after : Option (List ℕ)) (P : LegalRun → List ℕ → Type 0) → IsRun words a → IsRun words b
    → HoldsOfInput a before after P → HoldsOfInput b before after P
input_named words a b before after P first second = subst (λ (n : Option ℕ). HoldsOfInput n before after P) (one_run words a b first second)

pub check_named : (words : List (List ℕ)) (a b : Option ℕ) (before after : Option (List ℕ)) (verdict : Verdict) → IsCheck words a → IsCheck words b
    → HasVerdict a before after verdict → HasVerdict b before after verdict
check_named words a b before after verdict first second = subst (λ (n : Option ℕ). HasVerdict n before after verdict) (one_check words a b first second)

-- a number of slots that the arguments name can be given
pub namable : (words : List (List ℕ)) (slots : Option ℕ) → IsRun words slots → IsNamable slots
namable words None is = tt
namable words (Some n) (inl slots) = (slots.some, slots.most)
namable words (Some n) (inr pool) = (pool.some, pool.most)

-- the first argument is that of one verb
abbrev first_word : List (List ℕ) → List ℕ
first_word [] = []
first_word (w ∷ ws) = w

option_first : (verb option : List ℕ) (words : List (List ℕ)) (n : ℕ) → HasOption verb option words n → first_word words ≡ verb
option_first verb option words n is = elim is.spelled [
  | inl spelled ↦ ap first_word spelled
  | inr spelled ↦ ap first_word spelled
]

run_first : (words : List (List ℕ)) (slots : Option ℕ) → IsRun words slots → first_word words ≡ codes "run"
run_first words None is = ap first_word is
run_first words (Some n) (inl slots) = option_first (codes "run") (codes "--slots") words n slots
run_first words (Some n) (inr pool) = option_first (codes "run") (codes "--pool") words n pool

check_first : (words : List (List ℕ)) (slots : Option ℕ) → IsCheck words slots → first_word words ≡ codes "check"
check_first words None is = ap first_word is
check_first words (Some n) is = option_first (codes "check") (codes "--slots") words n is

pub not_both : (words : List (List ℕ)) (slots : Option ℕ) (n : ℕ) → IsRun words slots → IsSample words n → ⊥
not_both words slots n run sample =
    let same : codes "run" ≡ codes "sample" = sym (run_first words slots run) ∙ ap first_word sample.spelled in
    absurd cc

pub no_sample_checks : (words : List (List ℕ)) (slots : Option ℕ) (n : ℕ) → IsCheck words slots → IsSample words n → ⊥
no_sample_checks words slots n check sample =
    let same : codes "check" ≡ codes "sample" = sym (check_first words slots check) ∙ ap first_word sample.spelled in
    absurd cc

pub no_run_checks : (words : List (List ℕ)) (a b : Option ℕ) → IsRun words a → IsCheck words b → ⊥
no_run_checks words a b run check =
    let same : codes "run" ≡ codes "check" = sym (run_first words a run) ∙ check_first words b check in
    absurd cc

-- what is found is a form of the arguments, and if nothing is found they have none
pub found_form : (words : List (List ℕ)) (found : Option Form) (form : Form) → found ≡ Some form
    → MatchOption found ((f : Form) → ¬ (IsForm words f)) (IsForm words) → IsForm words form
found_form words found form is all = subst (λ (o : Option Form). MatchOption o ((f : Form) → ¬ (IsForm words f)) (IsForm words)) is all

pub found_none : (words : List (List ℕ)) (found : Option Form) (form : Form) → found ≡ None
    → MatchOption found ((f : Form) → ¬ (IsForm words f)) (IsForm words) → IsForm words form → ⊥
found_none words found form is all = subst (λ (o : Option Form). MatchOption o ((f : Form) → ¬ (IsForm words f)) (IsForm words)) is all form

-- if no form is that of the arguments, they have none
pub no_form : (words : List (List ℕ)) → ((form : Form) → ¬ (IsForm words form)) → ¬ (HasForm words)
no_form words none (inl (None, run)) = none (Run None) run
no_form words none (inl (Some n, inl slots)) = none (Run (Some n)) slots
no_form words none (inl (Some n, inr pool)) = none (Pool n) pool
no_form words none (inr (inl (None, check))) = none (Check None) check
no_form words none (inr (inl (Some n, check))) = none (Check (Some n)) check
no_form words none (inr (inr sample)) = none (Sample sample.0) sample.1
