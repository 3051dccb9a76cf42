-- The texts of a line's fields and how each is read: a key, numbers, an entity tag.
use Rattle.std.specs.Prelude.{ℕ, ◌-◌, ◌==◌, ◌&&◌, ◌||◌, not, nat_lt, nat_le, Bool, true, false, List, [], ◌∷◌, length, take, drop, slice_index, Result, Ok, Err, if◌then◌else◌}
use Rattle.std.specs.{Char.is_ascii_alphanumeric, Char.is_ascii_hexdigit, List.list_all, Str.is_utf8, Str.all_ascii_digits, Str.Parse.digits_value}
use Rattle.percent_encoding.specs.Percent.{percent_decode}
use Rattle.key_names.specs.Names.{most_name_bytes}
use Rattle.line_grammar.specs.declared.cause.Cause.{Cause}
use Rattle.line_grammar.specs.declared.cause.Cause.TheVariants.{BadEscape, EmptyKey, KeyTooLong, BadNumber, NumberTooLarge, BadEtag}

-- one reading after another: the first cause is that of the first that has one
infixl 10 ◌>>=◌
abbrev pub ◌>>=◌ : {A B : Type 0} → Result A Cause → (A → Result B Cause) → Result B Cause
(Ok x) >>= f = f x
(Err cause) >>= f = Err cause

-- each `%` is followed by two hexadecimal digits of either case
abbrev pub begins_with_hex_digits : List ℕ → Bool
begins_with_hex_digits (high ∷ low ∷ bytes) = is_ascii_hexdigit high && is_ascii_hexdigit low
begins_with_hex_digits bytes = false

unfoldable pub escapes_are_whole : List ℕ → Bool
escapes_are_whole [] = true
escapes_are_whole (b ∷ bytes) = (not (b == 37) || begins_with_hex_digits bytes) && escapes_are_whole bytes

-- the text unescaped, where its escapes are whole and stand for UTF-8: `%` and two hexadecimal digits are one
-- byte, every other byte stands for itself, `+` too (URL Standard, percent-decode)
unfoldable pub unescaped : List ℕ → Result (List ℕ) Cause
unescaped text = if escapes_are_whole text && is_utf8 (percent_decode text) then Ok (percent_decode text) else Err BadEscape

-- the name of a key: unescaped it is neither empty nor too long for the name of an object
unfoldable pub key_read : List ℕ → Result (List ℕ) Cause
key_read key = do
  name ← unescaped key
  if length name == 0 then Err EmptyKey else if nat_lt most_name_bytes (length name) then Err KeyTooLong else Ok name

-- one or more ASCII digits
unfoldable pub is_number : List ℕ → Bool
is_number text = not (length text == 0) && all_ascii_digits text

-- a record's size and time, each at most 2 ^ 64 - 1
unfoldable pub is_small : List ℕ → Bool
is_small text = nat_le (digits_value 10 text) 18446744073709551615

unfoldable pub numbers_read : List ℕ → List ℕ → Result (ℕ × ℕ) Cause
numbers_read size modified =
    if not (is_number size && is_number modified) then Err BadNumber
    else if not (is_small size && is_small modified) then Err NumberTooLarge
    else Ok (digits_value 10 size, digits_value 10 modified)

-- 1 to 64 bytes, each an ASCII letter or digit, or `-`
unfoldable pub is_tag_byte : ℕ → Bool
is_tag_byte b = is_ascii_alphanumeric b || b == 45

unfoldable pub is_tag : List ℕ → Bool
is_tag text = nat_lt 0 (length text) && nat_le (length text) 64 && list_all is_tag_byte text

-- a text between two double quotes without them, and any other text as it is
unfoldable pub unquoted : List ℕ → List ℕ
unquoted text =
    if nat_lt 1 (length text) && slice_index text 0 == 34 && slice_index text (length text - 1) == 34
    then take (length text - 2) (drop 1 text)
    else text

-- an entity tag
unfoldable pub etag_read : List ℕ → Result (List ℕ) Cause
etag_read text = if is_tag (unquoted text) then Ok (unquoted text) else Err BadEtag
