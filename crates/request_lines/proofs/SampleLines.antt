-- What each line of the generated session says.
use Rattle.std.proofs.Common.{◌≡◌, ℕ, ◌-◌, ◌*◌, ◌/◌, ◌%◌, ◌<◌, ◌^◌, Bool, true, false, List, [], ◌∷◌, ◌++◌, length, codes, refl, ap, ◌∙◌, ◌&&◌, Ok, arith, zero, suc}
use Rattle.std.specs.Prelude.{◌==◌, nat_lt, nat_le, not, All}
use Rattle.std.specs.List.{list_all, list_any}
use Rattle.std.specs.Str.{IsUtf8, IsAscii, all_ascii_digits}
use Rattle.std.specs.Str.Lines.{strip_carriage_return}
use Rattle.std.specs.Str.Parse.{digits_value}
use Rattle.std.specs.Char.{is_ascii_digit}
use Rattle.std.specs.Fmt.{decimal}
use Rattle.std.proofs.lemmas.Bool.{and_from}
use Rattle.std.proofs.lemmas.Bool.Decides.{nat_tests}
use Rattle.std.proofs.lemmas.Fmt.{digits_decimal, digits_value-decimal, decimal_digit, decimal_nonempty}
use Rattle.std.proofs.lemmas.List.Elements.{All-nil, All-cons}
use Rattle.std.proofs.lemmas.List.Folds.{list_all-append, list_any_none}
use Rattle.std.proofs.lemmas.List.Splits.{slice_split_at, slice_split_none}
use Rattle.std.proofs.lemmas.Str.{is_utf8-from_IsUtf8, IsUtf8-from_ascii}
use Rattle.std.proofs.lemmas.Str.Parse.{IsNumeralModel, numerals_by_value, tells_all_ascii_digits}
use Rattle.line_grammar.specs.declared.command.Command.TheVariants as says
use Rattle.line_grammar.specs.declared.verb.PutWhen.TheVariants.{Always}
use Rattle.line_grammar.specs.Left.{fields_of}
use Rattle.line_grammar.specs.Texts.{key_read, is_number, is_small, numbers_read, etag_read, is_tag, is_tag_byte, unquoted}
use Rattle.line_grammar.specs.Line.{reading_of, read_line, read_fields, put_read}
use Rattle.request_lines.specs.Sample.{four_digits, sample_name}
use Rattle.request_lines.specs.SampleSession.{sample_record}
use Rattle.request_lines.proofs.SampleQueries.{query_text, list_line}
use Rattle.line_grammar.proofs.TextLaws.{digits_all, unescaped_plain}

-- a byte that ends no line, cuts no field and begins no escape
abbrev is_plain : ℕ → Bool
is_plain b = nat_lt 32 b && nat_lt b 128 && not (b == 37)

-- a byte that ends no line
abbrev is_inside : ℕ → Bool
is_inside b = nat_le 32 b && nat_lt b 128

abbrev IsPlainText : List ℕ → Type 0
IsPlainText text = list_all is_plain text ≡ true

abbrev pub IsInside : List ℕ → Type 0
IsInside text = list_all is_inside text ≡ true

both : (a b : Bool) → (a && b) ≡ true → (a ≡ true) × (b ≡ true)
both true b holds = (refl, holds)
both false b holds = cc

-- where one test passes another does
list_all_weaker : (p q : ℕ → Bool) → ((b : ℕ) → p b ≡ true → q b ≡ true) → (text : List ℕ) → list_all p text ≡ true → list_all q text ≡ true
list_all_weaker p q weaker [] all = refl
list_all_weaker p q weaker (b ∷ text) all =
    let each = both (p b) (list_all p text) all in
    and_from (q b) (list_all q text) (weaker b each.0) (list_all_weaker p q weaker text each.1)

-- a test that no byte of the text passes
fails : (p q : ℕ → Bool) → ((b : ℕ) → p b ≡ true → q b ≡ false) → (text : List ℕ) → list_all p text ≡ true → All (λ b. q b ≡ false) text
fails p q none [] all = All-nil (λ b. q b ≡ false)
fails p q none (b ∷ text) all =
    let each = both (p b) (list_all p text) all in
    All-cons (λ c. q c ≡ false) b text (none b each.0) (fails p q none text each.1)

plain_append : (xs ys : List ℕ) → IsPlainText xs → IsPlainText ys → IsPlainText (xs ++ ys)
plain_append xs ys front back = list_all-append is_plain xs ys ∙ and_from (list_all is_plain xs) (list_all is_plain ys) front back

plain_inside : (b : ℕ) → is_plain b ≡ true → is_inside b ≡ true
plain_inside b plain = grind (arith, nat_tests)

inside_plain : (text : List ℕ) → IsPlainText text → IsInside text
inside_plain text plain = list_all_weaker is_plain is_inside plain_inside text plain

inside_joined : (front back : List ℕ) → IsPlainText front → IsInside back → IsInside (front ++ 32 ∷ back)
inside_joined front back plain inside =
    list_all-append is_inside front (32 ∷ back) ∙ and_from (list_all is_inside front) (list_all is_inside back) (inside_plain front plain) inside

plain_no_space : (b : ℕ) → is_plain b ≡ true → (b == 32) ≡ false
plain_no_space b plain = grind (arith, nat_tests)

plain_no_escape : (b : ℕ) → is_plain b ≡ true → (b == 37) ≡ false
plain_no_escape b plain = grind (arith, nat_tests)

inside_no_feed : (b : ℕ) → is_inside b ≡ true → (b == 10) ≡ false
inside_no_feed b inside = grind (arith, nat_tests)

inside_no_return : (b : ℕ) → is_inside b ≡ true → (b == 13) ≡ false
inside_no_return b inside = grind (arith, nat_tests)

inside_small : (b : ℕ) → is_inside b ≡ true → b < 128
inside_small b inside = grind (arith, nat_tests)

inside_ascii : (text : List ℕ) → IsInside text → IsAscii text
inside_ascii [] inside i = omega arith
inside_ascii (b ∷ text) inside zero = inside_small b ((both (is_inside b) (list_all is_inside text) inside).0)
inside_ascii (b ∷ text) inside (suc i) = inside_ascii text ((both (is_inside b) (list_all is_inside text) inside).1) i

pub inside_utf8 : (text : List ℕ) → IsInside text → IsUtf8 text
inside_utf8 text inside = IsUtf8-from_ascii text (inside_ascii text inside)

pub inside_no_feeds : (text : List ℕ) → IsInside text → All (λ b. (b == 10) ≡ false) text
inside_no_feeds text inside = fails is_inside (λ b. b == 10) inside_no_feed text inside

-- a line that ends without a carriage return
pub strip_plain : (text : List ℕ) → IsInside text → 0 < length text → strip_carriage_return text ≡ text
strip_plain text inside some =
    let none : All (λ b. (b == 13) ≡ false) text = fails is_inside (λ b. b == 13) inside_no_return text inside in
    rw (none (length text - 1) 0 (omega arith)) refl

-- ---- numbers

numerals : IsNumeralModel (λ digits. all_ascii_digits digits ≡ true) (digits_value 10)
numerals = numerals_by_value _ tells_all_ascii_digits

digit_plain : (b : ℕ) → is_ascii_digit b ≡ true → is_plain b ≡ true
digit_plain b digit = grind (arith, nat_tests)

plain_decimal : (n : ℕ) → n < 2 ^ 64 → IsPlainText (decimal n)
plain_decimal n small = list_all_weaker is_ascii_digit is_plain digit_plain (decimal n) (digits_all (decimal n) ∙ digits_decimal numerals n small)

decimal_number : (n : ℕ) → n < 2 ^ 64 → is_number (decimal n) ≡ true
unfolding is_number
decimal_number n small =
    let some : 0 < length (decimal n) = decimal_nonempty n small in
    let digits : all_ascii_digits (decimal n) ≡ true = digits_decimal numerals n small in
    grind (arith, nat_tests)

decimal_small : (n : ℕ) → n < 2 ^ 64 → is_small (decimal n) ≡ true
unfolding is_small
decimal_small n small =
    let is : digits_value 10 (decimal n) ≡ n = digits_value-decimal numerals n small in
    grind (arith, nat_tests)

numbers_written : (n : ℕ) → n < 2 ^ 64 → numbers_read (decimal n) (decimal n) ≡ Ok (n, n)
unfolding numbers_read
numbers_written n small = rw (decimal_number n small, decimal_small n small, digits_value-decimal numerals n small) refl

-- ---- names

plain_four : (x : ℕ) → x < 1001 → IsPlainText (four_digits x)
plain_four x below =
    let ones = decimal (x % 10) in
    let tens = decimal (x / 10 % 10) in
    let hundreds = decimal (x / 100 % 10) in
    let thousands = decimal (x / 1000) in
    plain_append (thousands ++ hundreds ++ tens) ones
    (plain_append (thousands ++ hundreds) tens
    (plain_append thousands hundreds (plain_decimal (x / 1000) (omega arith)) (plain_decimal (x / 100 % 10) (omega arith)))
    (plain_decimal (x / 10 % 10) (omega arith)))
    (plain_decimal (x % 10) (omega arith))

plain_name : (client i : ℕ) → client < 10 → IsPlainText (sample_name client i)
plain_name client i digit =
    plain_append (codes "s" ++ decimal client ++ codes "/") (four_digits (389 * i % 1001))
    (plain_append (codes "s" ++ decimal client) (codes "/") (plain_append (codes "s") (decimal client) refl (plain_decimal client (omega arith))) refl)
    (plain_four (389 * i % 1001) (omega arith))

pub name_length : (client i : ℕ) → client < 10 → length (sample_name client i) ≡ 7
name_length client i digit =
    let x = 389 * i % 1001 in
    rw (decimal_digit client digit, decimal_digit (x / 1000) (omega arith), decimal_digit (x / 100 % 10) (omega arith), decimal_digit (x / 10 % 10) (omega arith), decimal_digit (x % 10) (omega arith)) refl

-- the key of a name is the name
key_plain : (name : List ℕ) → IsPlainText name → length name ≡ 7 → key_read name ≡ Ok name
unfolding key_read
key_plain name plain size =
    let none : list_any (λ b. b == 37) name ≡ false = list_any_none (λ b. b == 37) name (fails is_plain (λ b. b == 37) plain_no_escape name plain) in
    rw (unescaped_plain name none (inside_utf8 name (inside_plain name plain)), size) refl

pub name_read : (client i : ℕ) → client < 10 → key_read (sample_name client i) ≡ Ok (sample_name client i)
name_read client i digit = key_plain (sample_name client i) (plain_name client i digit) (name_length client i digit)

-- ---- fields

field_cut : (front back : List ℕ) → IsPlainText front → fields_of (front ++ 32 ∷ back) ≡ front ∷ fields_of back
field_cut front back plain = slice_split_at (λ b. b == 32) front 32 back (fails is_plain (λ b. b == 32) plain_no_space front plain) refl

field_last : (text : List ℕ) → IsPlainText text → fields_of text ≡ text ∷ []
field_last text plain = slice_split_none (λ b. b == 32) text (fails is_plain (λ b. b == 32) plain_no_space text plain)

-- ---- lines

-- a line without its end
abbrev tag_on : ℕ → List ℕ
tag_on i = codes "e" ++ 32 ∷ decimal i

abbrev size_on : ℕ → List ℕ
size_on i = decimal i ++ 32 ∷ tag_on i

abbrev name_on : ℕ → ℕ → List ℕ
name_on client i = sample_name client i ++ 32 ∷ size_on i

abbrev pub put_line : ℕ → ℕ → List ℕ
put_line client i = codes "PUT" ++ 32 ∷ name_on client i

abbrev pub delete_line : ℕ → ℕ → List ℕ
delete_line client i = codes "DELETE" ++ 32 ∷ sample_name client i

pub inside_put : (client i : ℕ) → client < 10 → i < 2 ^ 64 → IsInside (put_line client i)
inside_put client i digit small =
    let number : IsPlainText (decimal i) = plain_decimal i small in
    inside_joined (codes "PUT") (name_on client i) refl (inside_joined (sample_name client i) (size_on i) (plain_name client i digit)
    (inside_joined (decimal i) (tag_on i) number (inside_joined (codes "e") (decimal i) refl (inside_plain (decimal i) number))))

pub inside_delete : (client i : ℕ) → client < 10 → IsInside (delete_line client i)
inside_delete client i digit = inside_joined (codes "DELETE") (sample_name client i) refl (inside_plain (sample_name client i) (plain_name client i digit))

pub inside_list : (client : ℕ) → client < 10 → IsInside (list_line client)
inside_list client digit =
    let end = codes "/&max-keys=100" in
    inside_joined (codes "LIST") (query_text client) refl (inside_plain (query_text client)
    (plain_append (codes "prefix=s" ++ decimal client) end (plain_append (codes "prefix=s") (decimal client) refl (plain_decimal client (omega arith))) refl))

pub read_by_fields : (text : List ℕ) (fields : List (List ℕ)) → IsInside text → fields_of text ≡ fields → reading_of text ≡ read_line fields
unfolding reading_of
read_by_fields text fields inside cut = rw (is_utf8-from_IsUtf8 text (inside_utf8 text inside)) (ap read_line cut)

tag_written : etag_read (codes "e") ≡ Ok (codes "e")
unfolding etag_read is_tag is_tag_byte unquoted
tag_written = refl

put_by_parts : (name number : List ℕ) (n : ℕ) → key_read name ≡ Ok name → numbers_read number number ≡ Ok (n, n)
    → read_line (codes "PUT" ∷ name ∷ number ∷ codes "e" ∷ number ∷ []) ≡ Ok (says.Put Always name (sample_record n))
unfolding put_read read_line read_fields
put_by_parts name number n key numbers = rw (key, numbers, tag_written) refl

pub put_reading : (client i : ℕ) → client < 10 → i < 2 ^ 64 → reading_of (put_line client i) ≡ Ok (says.Put Always (sample_name client i) (sample_record i))
put_reading client i digit small =
    let name = sample_name client i in
    let number : IsPlainText (decimal i) = plain_decimal i small in
    let tag : fields_of (tag_on i) ≡ codes "e" ∷ decimal i ∷ [] =
    field_cut (codes "e") (decimal i) refl ∙ ap (λ (fs : List (List ℕ)). codes "e" ∷ fs) (field_last (decimal i) number) in
    let size : fields_of (size_on i) ≡ decimal i ∷ codes "e" ∷ decimal i ∷ [] =
    field_cut (decimal i) (tag_on i) number ∙ ap (λ (fs : List (List ℕ)). decimal i ∷ fs) tag in
    let key : fields_of (name_on client i) ≡ name ∷ decimal i ∷ codes "e" ∷ decimal i ∷ [] =
    field_cut name (size_on i) (plain_name client i digit) ∙ ap (λ (fs : List (List ℕ)). name ∷ fs) size in
    let all : fields_of (put_line client i) ≡ codes "PUT" ∷ name ∷ decimal i ∷ codes "e" ∷ decimal i ∷ [] =
    field_cut (codes "PUT") (name_on client i) refl ∙ ap (λ (fs : List (List ℕ)). codes "PUT" ∷ fs) key in
    read_by_fields (put_line client i) (codes "PUT" ∷ name ∷ decimal i ∷ codes "e" ∷ decimal i ∷ []) (inside_put client i digit small) all
    ∙ put_by_parts name (decimal i) i (name_read client i digit) (numbers_written i small)

delete_by_key : (name : List ℕ) → key_read name ≡ Ok name → read_line (codes "DELETE" ∷ name ∷ []) ≡ Ok (says.Delete name)
unfolding read_line read_fields
delete_by_key name key = rw key refl

pub delete_reading : (client i : ℕ) → client < 10 → reading_of (delete_line client i) ≡ Ok (says.Delete (sample_name client i))
delete_reading client i digit =
    let name = sample_name client i in
    let all : fields_of (delete_line client i) ≡ codes "DELETE" ∷ name ∷ [] =
    field_cut (codes "DELETE") name refl ∙ ap (λ (fs : List (List ℕ)). codes "DELETE" ∷ fs) (field_last name (plain_name client i digit)) in
    read_by_fields (delete_line client i) (codes "DELETE" ∷ name ∷ []) (inside_delete client i digit) all ∙ delete_by_key name (name_read client i digit)
