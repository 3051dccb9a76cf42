-- What clap reads of the arguments of each form.
use Rattle.std.proofs.Common.{◌≡◌, ℕ, ◌<◌, ◌≤◌, ◌^◌, true, Bool, List, [], ◌∷◌, ◌++◌, codes, length, get_or, Option, Some, None, refl, subst, sym, ap, ◌∙◌, inl, inr, arith}
use Rattle.std.specs.Fmt.{decimal}
use Rattle.std.specs.Option.{option_map}
use Rattle.std.specs.Char.{is_ascii_digit}
use Rattle.std.specs.Str.{all_ascii_digits}
use Rattle.std.specs.Prelude.{◌&&◌}
use Rattle.std.specs.Str.Parse.{digits_value}
use Rattle.std.proofs.lemmas.Bool.{cases_lt}
use Rattle.std.proofs.lemmas.Bool.Decides.{nat_tests}
use Rattle.std.proofs.lemmas.Fmt.{first_decimal, decimal_nonempty, digits_decimal}
use Rattle.std.proofs.lemmas.Str.Parse.{IsNumeralModel, numerals_by_value, tells_all_ascii_digits}
use Rattle.std.specs.Box.{box_value}
use Rattle.clap.specs.Matches.{found_of}
use Rattle.clap.specs.Walk.{rows_of}
use Rattle.clap.specs.Words.{Row, Text, first_of, is_simple, subcommand_name_of, subcommand_of, subcommand_rows_of, takes}
use Rattle.clap.specs.declared.parser.matches.ArgMatches.{ArgMatches}
use Rattle.clap.specs.declared.parser.matches.ArgMatches.TheViews.{out-ArgMatches, out-SubCommand}
use Rattle.clap.proofs.OnLiterals.{clap_on_literals}
use Rattle.command_words.specs.declared.form.Form.{Form}
use Rattle.command_words.specs.declared.form.Form.TheVariants.{Run, Pool, Check, Sample}
use Rattle.command_words.specs.Program.{program, read_of, IsForm}
use Rattle.command_words.specs.Words.{HasOption}

pub program_simple : is_simple program ≡ true
unfolding clap_on_literals
program_simple = refl

-- ---- a number is one of nine digits, followed by others

abbrev sample_words : List ℕ → List (List ℕ)
sample_words number = codes "sample" ∷ number ∷ []

-- an option: its number is the argument after it, or stands in the same argument
abbrev apart_words : List ℕ → List ℕ → List ℕ → List (List ℕ)
apart_words verb option number = verb ∷ option ∷ number ∷ []

abbrev joined_words : List ℕ → List ℕ → List ℕ → List (List ℕ)
joined_words verb option number = verb ∷ (option ++ codes "=" ++ number) ∷ []

-- what is read of a verb with `--slots`, and of one with `--pool`
abbrev slots_read : List ℕ → List ℕ → Text × Option Text × Option Text
slots_read verb number = (verb, Some number, None)

abbrev pool_read : List ℕ → List ℕ → Text × Option Text × Option Text
pool_read verb number = (verb, None, Some number)

-- one of nine digits
nine : (P : ℕ → Type 0) → P 49 → P 50 → P 51 → P 52 → P 53 → P 54 → P 55 → P 56 → P 57 → (d : ℕ) → 48 < d → d < 58 → P d
nine P p49 p50 p51 p52 p53 p54 p55 p56 p57 d low high =
    elim (cases_lt d 50) [
      | inl below ↦ let is : 49 ≡ d = omega arith in subst P is p49
      | inr above ↦
          elim (cases_lt d 51) [
            | inl below ↦ let is : 50 ≡ d = omega arith in subst P is p50
            | inr above ↦
                elim (cases_lt d 52) [
                  | inl below ↦ let is : 51 ≡ d = omega arith in subst P is p51
                  | inr above ↦
                      elim (cases_lt d 53) [
                        | inl below ↦ let is : 52 ≡ d = omega arith in subst P is p52
                        | inr above ↦
                            elim (cases_lt d 54) [
                              | inl below ↦ let is : 53 ≡ d = omega arith in subst P is p53
                              | inr above ↦
                                  elim (cases_lt d 55) [
                                    | inl below ↦ let is : 54 ≡ d = omega arith in subst P is p54
                                    | inr above ↦
                                        elim (cases_lt d 56) [
                                          | inl below ↦ let is : 55 ≡ d = omega arith in subst P is p55
                                          | inr above ↦
                                              elim (cases_lt d 57) [
                                                | inl below ↦ let is : 56 ≡ d = omega arith in subst P is p56
                                                | inr above ↦
                                                    let is : 57 ≡ d = omega arith in subst P is p57
                                              ]
                                        ]
                                  ]
                            ]
                      ]
                ]
          ]
    ]

takes_sample_digits : (digits : List ℕ) (d : ℕ) → 48 < d → d < 58 → takes program (sample_words (d ∷ digits)) ≡ true
unfolding clap_on_literals
takes_sample_digits digits = nine (λ d. takes program (sample_words (d ∷ digits)) ≡ true) refl refl refl refl refl refl refl refl refl

reads_sample_digits : (digits : List ℕ) (d : ℕ) → 48 < d → d < 58 → read_of (subcommand_of program (sample_words (d ∷ digits))) ≡ Some (slots_read (codes "sample") (d ∷ digits))
unfolding clap_on_literals
reads_sample_digits digits =
    nine (λ d. read_of (subcommand_of program (sample_words (d ∷ digits))) ≡ Some (slots_read (codes "sample") (d ∷ digits))) refl refl refl refl refl refl refl refl refl

run_takes_alone : takes program (codes "run" ∷ []) ≡ true
unfolding clap_on_literals
run_takes_alone = refl

run_reads_alone : read_of (subcommand_of program (codes "run" ∷ [])) ≡ Some (codes "run", None, None)
unfolding clap_on_literals
run_reads_alone = refl

check_takes_alone : takes program (codes "check" ∷ []) ≡ true
unfolding clap_on_literals
check_takes_alone = refl

check_reads_alone : read_of (subcommand_of program (codes "check" ∷ [])) ≡ Some (codes "check", None, None)
unfolding clap_on_literals
check_reads_alone = refl

-- what clap takes and reads of a verb with an option
record ReadsOption (verb option : List ℕ) (read : List ℕ → Text × Option Text × Option Text) : Type 0 where
  takes_apart : (digits : List ℕ) (d : ℕ) → 48 < d → d < 58 → takes program (apart_words verb option (d ∷ digits)) ≡ true
  reads_apart : (digits : List ℕ) (d : ℕ) → 48 < d → d < 58 → read_of (subcommand_of program (apart_words verb option (d ∷ digits))) ≡ Some (read (d ∷ digits))
  takes_joined : (digits : List ℕ) (d : ℕ) → 48 < d → d < 58 → takes program (joined_words verb option (d ∷ digits)) ≡ true
  reads_joined : (digits : List ℕ) (d : ℕ) → 48 < d → d < 58 → read_of (subcommand_of program (joined_words verb option (d ∷ digits))) ≡ Some (read (d ∷ digits))

run_slots_takes_apart : (digits : List ℕ) (d : ℕ) → 48 < d → d < 58 → takes program (apart_words (codes "run") (codes "--slots") (d ∷ digits)) ≡ true
unfolding clap_on_literals
run_slots_takes_apart digits = nine (λ d. takes program (apart_words (codes "run") (codes "--slots") (d ∷ digits)) ≡ true) refl refl refl refl refl refl refl refl refl

run_slots_reads_apart : (digits : List ℕ) (d : ℕ) → 48 < d → d < 58 → read_of (subcommand_of program (apart_words (codes "run") (codes "--slots") (d ∷ digits))) ≡ Some (slots_read (codes "run") (d ∷ digits))
unfolding clap_on_literals
run_slots_reads_apart digits =
    nine (λ d. read_of (subcommand_of program (apart_words (codes "run") (codes "--slots") (d ∷ digits))) ≡ Some (slots_read (codes "run") (d ∷ digits))) refl refl refl refl refl refl refl refl refl

run_slots_takes_joined : (digits : List ℕ) (d : ℕ) → 48 < d → d < 58 → takes program (joined_words (codes "run") (codes "--slots") (d ∷ digits)) ≡ true
unfolding clap_on_literals
run_slots_takes_joined digits = nine (λ d. takes program (joined_words (codes "run") (codes "--slots") (d ∷ digits)) ≡ true) refl refl refl refl refl refl refl refl refl

run_slots_reads_joined : (digits : List ℕ) (d : ℕ) → 48 < d → d < 58 → read_of (subcommand_of program (joined_words (codes "run") (codes "--slots") (d ∷ digits))) ≡ Some (slots_read (codes "run") (d ∷ digits))
unfolding clap_on_literals
run_slots_reads_joined digits =
    nine (λ d. read_of (subcommand_of program (joined_words (codes "run") (codes "--slots") (d ∷ digits))) ≡ Some (slots_read (codes "run") (d ∷ digits))) refl refl refl refl refl refl refl refl refl

run_slots_reads : ReadsOption (codes "run") (codes "--slots") (slots_read (codes "run"))
run_slots_reads = record {
  takes_apart = run_slots_takes_apart;
  reads_apart = run_slots_reads_apart;
  takes_joined = run_slots_takes_joined;
  reads_joined = run_slots_reads_joined;
}

run_pool_takes_apart : (digits : List ℕ) (d : ℕ) → 48 < d → d < 58 → takes program (apart_words (codes "run") (codes "--pool") (d ∷ digits)) ≡ true
unfolding clap_on_literals
run_pool_takes_apart digits = nine (λ d. takes program (apart_words (codes "run") (codes "--pool") (d ∷ digits)) ≡ true) refl refl refl refl refl refl refl refl refl

run_pool_reads_apart : (digits : List ℕ) (d : ℕ) → 48 < d → d < 58 → read_of (subcommand_of program (apart_words (codes "run") (codes "--pool") (d ∷ digits))) ≡ Some (pool_read (codes "run") (d ∷ digits))
unfolding clap_on_literals
run_pool_reads_apart digits =
    nine (λ d. read_of (subcommand_of program (apart_words (codes "run") (codes "--pool") (d ∷ digits))) ≡ Some (pool_read (codes "run") (d ∷ digits))) refl refl refl refl refl refl refl refl refl

run_pool_takes_joined : (digits : List ℕ) (d : ℕ) → 48 < d → d < 58 → takes program (joined_words (codes "run") (codes "--pool") (d ∷ digits)) ≡ true
unfolding clap_on_literals
run_pool_takes_joined digits = nine (λ d. takes program (joined_words (codes "run") (codes "--pool") (d ∷ digits)) ≡ true) refl refl refl refl refl refl refl refl refl

run_pool_reads_joined : (digits : List ℕ) (d : ℕ) → 48 < d → d < 58 → read_of (subcommand_of program (joined_words (codes "run") (codes "--pool") (d ∷ digits))) ≡ Some (pool_read (codes "run") (d ∷ digits))
unfolding clap_on_literals
run_pool_reads_joined digits =
    nine (λ d. read_of (subcommand_of program (joined_words (codes "run") (codes "--pool") (d ∷ digits))) ≡ Some (pool_read (codes "run") (d ∷ digits))) refl refl refl refl refl refl refl refl refl

run_pool_reads : ReadsOption (codes "run") (codes "--pool") (pool_read (codes "run"))
run_pool_reads = record {
  takes_apart = run_pool_takes_apart;
  reads_apart = run_pool_reads_apart;
  takes_joined = run_pool_takes_joined;
  reads_joined = run_pool_reads_joined;
}

check_slots_takes_apart : (digits : List ℕ) (d : ℕ) → 48 < d → d < 58 → takes program (apart_words (codes "check") (codes "--slots") (d ∷ digits)) ≡ true
unfolding clap_on_literals
check_slots_takes_apart digits = nine (λ d. takes program (apart_words (codes "check") (codes "--slots") (d ∷ digits)) ≡ true) refl refl refl refl refl refl refl refl refl

check_slots_reads_apart : (digits : List ℕ) (d : ℕ) → 48 < d → d < 58 → read_of (subcommand_of program (apart_words (codes "check") (codes "--slots") (d ∷ digits))) ≡ Some (slots_read (codes "check") (d ∷ digits))
unfolding clap_on_literals
check_slots_reads_apart digits =
    nine (λ d. read_of (subcommand_of program (apart_words (codes "check") (codes "--slots") (d ∷ digits))) ≡ Some (slots_read (codes "check") (d ∷ digits))) refl refl refl refl refl refl refl refl refl

check_slots_takes_joined : (digits : List ℕ) (d : ℕ) → 48 < d → d < 58 → takes program (joined_words (codes "check") (codes "--slots") (d ∷ digits)) ≡ true
unfolding clap_on_literals
check_slots_takes_joined digits = nine (λ d. takes program (joined_words (codes "check") (codes "--slots") (d ∷ digits)) ≡ true) refl refl refl refl refl refl refl refl refl

check_slots_reads_joined : (digits : List ℕ) (d : ℕ) → 48 < d → d < 58 → read_of (subcommand_of program (joined_words (codes "check") (codes "--slots") (d ∷ digits))) ≡ Some (slots_read (codes "check") (d ∷ digits))
unfolding clap_on_literals
check_slots_reads_joined digits =
    nine (λ d. read_of (subcommand_of program (joined_words (codes "check") (codes "--slots") (d ∷ digits))) ≡ Some (slots_read (codes "check") (d ∷ digits))) refl refl refl refl refl refl refl refl refl

check_slots_reads : ReadsOption (codes "check") (codes "--slots") (slots_read (codes "check"))
check_slots_reads = record {
  takes_apart = check_slots_takes_apart;
  reads_apart = check_slots_reads_apart;
  takes_joined = check_slots_takes_joined;
  reads_joined = check_slots_reads_joined;
}

numerals : IsNumeralModel (λ digits. all_ascii_digits digits ≡ true) (digits_value 10)
numerals = numerals_by_value _ tells_all_ascii_digits

-- the first digit of a number above 0
record BeginsWithDigit (text : List ℕ) : Type 0 where
  d : ℕ
  digits : List ℕ
  is : text ≡ d ∷ digits
  low : 48 < d
  high : d < 58

first_digit : (text : List ℕ) → 0 < length text → 48 < get_or text 0 0 → all_ascii_digits text ≡ true → BeginsWithDigit text
first_digit [] some first all = absurd (omega arith)
first_digit (d ∷ digits) some first all = record { d = d; digits = digits; is = refl; low = first; high = below (all_ascii_digits digits) all }
  where
    below : (rest : Bool) → (is_ascii_digit d && rest) ≡ true → d < 58
    below rest both = grind (arith, nat_tests)

decimal_digit_first : (n : ℕ) → 0 < n → n < 2 ^ 64 → BeginsWithDigit (decimal n)
decimal_digit_first n some small = first_digit (decimal n) (decimal_nonempty n small) (first_decimal n some small) (digits_decimal numerals n small)

-- from digits to the numbers that they spell: clap takes these arguments, and reads this
takes_decimal : (words : List ℕ → List (List ℕ)) → ((digits : List ℕ) (d : ℕ) → 48 < d → d < 58 → takes program (words (d ∷ digits)) ≡ true)
    → (n : ℕ) → 0 < n → n < 2 ^ 64 → takes program (words (decimal n)) ≡ true
takes_decimal words of_digits n some small =
    let first = decimal_digit_first n some small in
    ap (λ (t : List ℕ). takes program (words t)) first.is ∙ of_digits first.digits first.d first.low first.high

reads_decimal : (words : List ℕ → List (List ℕ)) (read : List ℕ → Text × Option Text × Option Text)
    → ((digits : List ℕ) (d : ℕ) → 48 < d → d < 58 → read_of (subcommand_of program (words (d ∷ digits))) ≡ Some (read (d ∷ digits)))
    → (n : ℕ) → 0 < n → n < 2 ^ 64 → read_of (subcommand_of program (words (decimal n))) ≡ Some (read (decimal n))
reads_decimal words read of_digits n some small =
    let first = decimal_digit_first n some small in
    ap (λ (t : List ℕ). read_of (subcommand_of program (words t))) first.is ∙ of_digits first.digits first.d first.low first.high
    ∙ ap (λ (t : List ℕ). Some (read t)) (sym first.is)

-- clap takes the arguments of each form
takes_option : (verb option : List ℕ) (read : List ℕ → Text × Option Text × Option Text) (words : List (List ℕ)) (n : ℕ) → ReadsOption verb option read → HasOption verb option words n
    → takes program words ≡ true
takes_option verb option read words n reads is = elim is.spelled [
  | inl apart ↦ ap (takes program) apart ∙ takes_decimal (apart_words verb option) reads.takes_apart n is.some (omega (arith, is.most))
  | inr joined ↦ ap (takes program) joined ∙ takes_decimal (joined_words verb option) reads.takes_joined n is.some (omega (arith, is.most))
]

pub takes_form : (words : List (List ℕ)) (form : Form) → IsForm words form → takes program words ≡ true
takes_form words (Run None) is = ap (takes program) is ∙ run_takes_alone
takes_form words (Run (Some n)) is = takes_option (codes "run") (codes "--slots") (slots_read (codes "run")) words n run_slots_reads is
takes_form words (Pool n) is = takes_option (codes "run") (codes "--pool") (pool_read (codes "run")) words n run_pool_reads is
takes_form words (Check None) is = ap (takes program) is ∙ check_takes_alone
takes_form words (Check (Some n)) is = takes_option (codes "check") (codes "--slots") (slots_read (codes "check")) words n check_slots_reads is
takes_form words (Sample n) is = ap (takes program) is.spelled ∙ takes_decimal sample_words takes_sample_digits n is.some (omega (arith, is.most))

-- and reads them
reads_option : (verb option : List ℕ) (read : List ℕ → Text × Option Text × Option Text) (words : List (List ℕ)) (n : ℕ) → ReadsOption verb option read → HasOption verb option words n
    → read_of (subcommand_of program words) ≡ Some (read (decimal n))
reads_option verb option read words n reads is = elim is.spelled [
  | inl apart ↦
      ap (λ (ws : List (List ℕ)). read_of (subcommand_of program ws)) apart
      ∙ reads_decimal (apart_words verb option) read reads.reads_apart n is.some (omega (arith, is.most))
  | inr joined ↦
      ap (λ (ws : List (List ℕ)). read_of (subcommand_of program ws)) joined
      ∙ reads_decimal (joined_words verb option) read reads.reads_joined n is.some (omega (arith, is.most))
]

-- ---- from the matches to what is read

-- what is read of a row
pub record HasRead (name : Text) (inner : List Row) (word : Text) (number pool : Option Text) : Type 0 where
  pub name_is : name ≡ word
  pub number_is : first_of (codes "number") inner ≡ number
  pub pool_is : first_of (codes "pool") inner ≡ pool

sub_read : {B : Type 0} (f : B → Text × List Row) (o : Option B) (name : Text) (inner : List Row) (word : Text) (number pool : Option Text)
    → option_map (λ b. (f b).0) o ≡ Some name → option_map (λ p. p.1) (option_map f o) ≡ Some inner
    → read_of (option_map f o) ≡ Some (word, number, pool) → HasRead name inner word number pool
sub_read f None name inner word number pool is_name is_inner is_read = absurd cc
sub_read f (Some b) name inner word number pool is_name is_inner is_read =
    let all : ◌≡◌ {A = Text × Option Text × Option Text} ((f b).0, first_of (codes "number") (f b).1, first_of (codes "pool") (f b).1) (word, number, pool) = cc in
    let named : (f b).0 ≡ word = ap (λ (p : Text × Option Text × Option Text). p.0) all in
    let numbered : first_of (codes "number") (f b).1 ≡ number = ap (λ (p : Text × Option Text × Option Text). p.1) all in
    let pooled : first_of (codes "pool") (f b).1 ≡ pool = ap (λ (p : Text × Option Text × Option Text). p.2) all in
    let row : (f b).1 ≡ inner = cc in
    record {
      name_is = cc;
      number_is = ap (first_of (codes "number")) (sym row) ∙ numbered;
      pool_is = ap (first_of (codes "pool")) (sym row) ∙ pooled;
    }

pub rows_read : (m : ArgMatches) (name : Text) (inner : List Row) (word : Text) (number pool : Option Text)
    → subcommand_name_of m ≡ Some name → option_map (λ p. p.1) (subcommand_rows_of m) ≡ Some inner
    → read_of (subcommand_rows_of m) ≡ Some (word, number, pool) → HasRead name inner word number pool
rows_read m name inner word number pool =
    sub_read (λ b. ((out-SubCommand (box_value b)).name.now, rows_of (found_of (out-SubCommand (box_value b)).matches))) (out-ArgMatches m).subcommand name inner word number pool

-- what is answered of each verb, by the numbers that were read
pub record AnswersRead (m : ArgMatches) (result : Option Form) : Type 0 where
  pub run : read_of (subcommand_rows_of m) ≡ Some (codes "run", None, None) → result ≡ Some (Run None)
  pub slots : (n : ℕ) → read_of (subcommand_rows_of m) ≡ Some (codes "run", Some (decimal n), None) → n ≤ 8192 → result ≡ Some (Run (Some n))
  pub pool : (n : ℕ) → read_of (subcommand_rows_of m) ≡ Some (codes "run", None, Some (decimal n)) → n ≤ 8192 → result ≡ Some (Pool n)
  pub check : read_of (subcommand_rows_of m) ≡ Some (codes "check", None, None) → result ≡ Some (Check None)
  pub check_slots : (n : ℕ) → read_of (subcommand_rows_of m) ≡ Some (codes "check", Some (decimal n), None) → n ≤ 8192 → result ≡ Some (Check (Some n))
  pub sample : (n : ℕ) → read_of (subcommand_rows_of m) ≡ Some (codes "sample", Some (decimal n), None) → n ≤ 40000 → result ≡ Some (Sample n)

-- the form of the arguments is read
pub form_read : (words : List (List ℕ)) (m : ArgMatches) (result : Option Form) (form : Form) → subcommand_rows_of m ≡ subcommand_of program words
    → AnswersRead m result → IsForm words form → result ≡ Some form
form_read words m result (Run None) rows answers is = answers.run (ap read_of rows ∙ ap (λ (ws : List (List ℕ)). read_of (subcommand_of program ws)) is ∙ run_reads_alone)
form_read words m result (Run (Some n)) rows answers is =
    answers.slots n (ap read_of rows ∙ reads_option (codes "run") (codes "--slots") (slots_read (codes "run")) words n run_slots_reads is) is.most
form_read words m result (Pool n) rows answers is =
    answers.pool n (ap read_of rows ∙ reads_option (codes "run") (codes "--pool") (pool_read (codes "run")) words n run_pool_reads is) is.most
form_read words m result (Check None) rows answers is = answers.check (ap read_of rows ∙ ap (λ (ws : List (List ℕ)). read_of (subcommand_of program ws)) is ∙ check_reads_alone)
form_read words m result (Check (Some n)) rows answers is =
    answers.check_slots n (ap read_of rows ∙ reads_option (codes "check") (codes "--slots") (slots_read (codes "check")) words n check_slots_reads is) is.most
form_read words m result (Sample n) rows answers is =
    answers.sample n
    (ap read_of rows ∙ ap (λ (ws : List (List ℕ)). read_of (subcommand_of program ws)) is.spelled
    ∙ reads_decimal sample_words (slots_read (codes "sample")) reads_sample_digits n is.some (omega (arith, is.most)))
    is.most
