-- A token is determined by its text.
use Rattle.std.proofs.Common.{◌≡◌, ◌≢◌, ℕ, ◌+◌, ◌/◌, ◌%◌, ◌<◌, ◌≤◌, List, [], ◌∷◌, ◌++◌, length, Option, Some, None, IfSome, get_or, refl, sym, ap, ap₂, subst, ◌∙◌, arith, lit<}
use Rattle.base64.specs.Engines.{url_safe_no_pad}
use Rattle.base64.specs.GeneralPurpose.{encode_of, decode_of, IsBytes}
use Rattle.base64.proofs.EngineFacts.{decode_of-encode_of}
use Rattle.key_names.specs.Names.{IsFine, most_name_bytes}
use Rattle.bucket_terms.specs.declared.token_point.TokenPoint.{TokenPoint}
use Rattle.bucket_terms.specs.declared.token_point.TokenPoint.TheVariants.{Key, Group}
use Rattle.bucket_terms.specs.declared.token.Token.{Token}
use Rattle.bucket_terms.specs.declared.token.Bound.{Bound}
use Rattle.bucket_terms.specs.Listing.{point_text, point_letter, sized, bytes_by, IsShortText, IsTokenOf}
use Rattle.bucket_terms.specs.PageParts.{token_bytes, IsShortBound}
use Rattle.page_token.specs.OneToken.{HasOneToken, HasText}
use Rattle.page_token.proofs.TextBytes.{AreBytes, appended, by_index, text_bytes}
use Rattle.page_token.proofs.Sized.{tail_same, sized_once}

-- ---- bytes

letter_byte : (p : TokenPoint) → point_letter p < 256
letter_byte (Key key) = lit< tt
letter_byte (Group group) = lit< tt

sized_bytes : (text : List ℕ) → IsShortText text → AreBytes (sized text)
sized_bytes text is =
    let n = length text in
    (omega arith, (omega arith, (omega arith, (omega arith, text_bytes text is.utf8))))

bytes_by_bytes : (p : TokenPoint) (bound : Option Bound) → IsFine (point_text p) → IfSome bound IsShortBound → AreBytes (bytes_by p bound)
bytes_by_bytes p None fine short = (letter_byte p, text_bytes (point_text p) fine.text)
bytes_by_bytes p (Some bound) fine short = (
  lit< tt,
  (
    letter_byte p,
    appended (sized bound.prefix) _ (sized_bytes bound.prefix short.0)
        (appended (sized bound.delimiter) _ (sized_bytes bound.delimiter short.1) (text_bytes (point_text p) fine.text)),
  ),
)

pub whole_bytes : (t : Token) → HasText t → IsBytes (token_bytes t)
whole_bytes t has = by_index (token_bytes t) (bytes_by_bytes t.point t.bound has.fine has.bound)

-- no two lists of bytes have one base64
pub encoded_once : (a b : List ℕ) → IsBytes a → IsBytes b → encode_of url_safe_no_pad a ≡ encode_of url_safe_no_pad b → a ≡ b
encoded_once a b bytes_a bytes_b same =
    let back_a = decode_of-encode_of url_safe_no_pad a refl bytes_a in
    let back_b = decode_of-encode_of url_safe_no_pad b refl bytes_b in
    cc (sym back_a ∙ ap (decode_of url_safe_no_pad) same ∙ back_b)

-- ---- letters

first_same : (x y : ℕ) (xs ys : List ℕ) → x ∷ xs ≡ y ∷ ys → x ≡ y
first_same x y xs ys same = ap (λ zs. get_or zs 0 0) same

pub letter_not_two : (p : TokenPoint) → point_letter p ≢ 50
letter_not_two (Key key) same = absurd (omega (arith, same))
letter_not_two (Group group) same = absurd (omega (arith, same))

point_once : (p q : TokenPoint) → point_letter p ≡ point_letter q → point_text p ≡ point_text q → p ≡ q
point_once (Key a) (Key b) letters texts = ap Key texts
point_once (Group a) (Group b) letters texts = ap Group texts
point_once (Key a) (Group b) letters texts = absurd (omega (arith, letters))
point_once (Group a) (Key b) letters texts = absurd (omega (arith, letters))

-- ---- the parts of a token with a bound

-- what the bytes of a token determine, where they have a prefix, a delimiter and a text after `2` and a letter
pub record HasParts (point : TokenPoint) (bound : Option Bound) (letter : ℕ) (prefix delimiter text : List ℕ) : Type 0 where
  pub letter_is : point_letter point ≡ letter
  pub text_is : point_text point ≡ text
  pub bound_is : bound ≡ Some (record { prefix = prefix; delimiter = delimiter })
  pub short_prefix : IsShortText prefix
  pub short_delimiter : IsShortText delimiter

parts_by : (p : TokenPoint) (bound : Option Bound) (letter : ℕ) (prefix delimiter text : List ℕ) → IfSome bound IsShortBound
    → length prefix ≤ most_name_bytes → length delimiter ≤ most_name_bytes
    → bytes_by p bound ≡ 50 ∷ letter ∷ (sized prefix ++ (sized delimiter ++ text)) → HasParts p bound letter prefix delimiter text
parts_by p None letter prefix delimiter text short short_p short_d same = absurd (letter_not_two p (first_same _ _ _ _ same))
parts_by p (Some bound) letter prefix delimiter text short short_p short_d same =
    let behind = tail_same _ _ _ _ same in
    let first = sized_once bound.prefix prefix (sized bound.delimiter ++ point_text p) (sized delimiter ++ text) short.0.short short_p (tail_same _ _ _ _ behind) in
    let second = sized_once bound.delimiter delimiter (point_text p) text short.1.short short_d first.1 in
    record {
      letter_is = first_same _ _ _ _ behind;
      text_is = second.1;
      bound_is = ap₂ (λ x y. Some (record { prefix = x; delimiter = y })) first.0 second.0;
      short_prefix = subst IsShortText first.0 short.0;
      short_delimiter = subst IsShortText second.0 short.1;
    }

pub parts_told : (t : Token) (letter : ℕ) (bytes prefix delimiter text : List ℕ) → HasText t → length prefix ≤ most_name_bytes → length delimiter ≤ most_name_bytes
    → bytes ≡ sized prefix ++ (sized delimiter ++ text) → token_bytes t ≡ 50 ∷ letter ∷ bytes → HasParts t.point t.bound letter prefix delimiter text
parts_told t letter bytes prefix delimiter text has short_p short_d cut same =
    parts_by t.point t.bound letter prefix delimiter text has.bound short_p short_d (same ∙ ap (λ xs. 50 ∷ letter ∷ xs) cut)

-- the bytes after `2` and a letter have the parts of the token's bound
uncut_by : (p : TokenPoint) (bound : Option Bound) (letter : ℕ) (bytes : List ℕ) → IfSome bound IsShortBound
    → ((prefix delimiter text : List ℕ) → length prefix ≤ most_name_bytes → length delimiter ≤ most_name_bytes → bytes ≢ sized prefix ++ (sized delimiter ++ text))
    → bytes_by p bound ≢ 50 ∷ letter ∷ bytes
uncut_by p None letter bytes short none same = letter_not_two p (first_same _ _ _ _ same)
uncut_by p (Some bound) letter bytes short none same =
    none bound.prefix bound.delimiter (point_text p) short.0.short short.1.short (sym (tail_same _ _ _ _ (tail_same _ _ _ _ same)))

pub uncut : (t : Token) (letter : ℕ) (bytes : List ℕ) → HasText t
    → ((prefix delimiter text : List ℕ) → length prefix ≤ most_name_bytes → length delimiter ≤ most_name_bytes → bytes ≢ sized prefix ++ (sized delimiter ++ text))
    → token_bytes t ≢ 50 ∷ letter ∷ bytes
uncut t letter bytes has none = uncut_by t.point t.bound letter bytes has.bound none

-- ---- one token for each text

once_by : (p q : TokenPoint) (b d : Option Bound) → IfSome b IsShortBound → IfSome d IsShortBound → bytes_by p b ≡ bytes_by q d
    → (p ≡ q) × (b ≡ d)
once_by p q None None sb sd same = (point_once p q (first_same _ _ _ _ same) (tail_same _ _ _ _ same), refl)
once_by p q None (Some d) sb sd same = absurd (letter_not_two p (first_same _ _ _ _ same))
once_by p q (Some b) None sb sd same = absurd (letter_not_two q (sym (first_same _ _ _ _ same)))
once_by p q (Some b) (Some d) sb sd same =
    let parts = parts_by p (Some b) (point_letter q) d.prefix d.delimiter (point_text q) sb sd.0.short sd.1.short same in
    (point_once p q parts.letter_is parts.text_is, parts.bound_is)

token_spelled_once : (a b : Token) → HasText a → HasText b → token_bytes a ≡ token_bytes b → a ≡ b
token_spelled_once a b has_a has_b same =
    let both = once_by a.point b.point a.bound b.bound has_a.bound has_b.bound same in
    ap₂ (λ p d. record { point = p; bound = d }) both.0 both.1

pub has_text : (t : Token) (text : List ℕ) → IsTokenOf t text → HasText t
has_text t text of = record { fine = of.fine; bound = of.bound }

pub one_token : (text : List ℕ) → HasOneToken text
one_token text a b of_a of_b =
    let has_a = has_text a text of_a in
    let has_b = has_text b text of_b in
    token_spelled_once a b has_a has_b (encoded_once _ _ (whole_bytes a has_a) (whole_bytes b has_b) (sym of_a.spelled ∙ of_b.spelled))
