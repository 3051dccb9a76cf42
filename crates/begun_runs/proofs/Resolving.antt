-- Whether a listing has a point from which it goes on: whether its token's text is that of a token that fits it.
use Rattle.std.proofs.Common.{◌≡◌, ℕ, ◌≤◌, ◌<◌, ◌⊎◌, List, [], ◌∷◌, ◌++◌, length, drop, drop_at, nat_eq, Option, Some, None, IfSome, Result, Ok, Err, inl, inr, refl, sym, ap, ◌∙◌, subst, arith, append_assoc}
use Rattle.std.specs.Str.{IsUtf8, is_utf8}
use Rattle.std.specs.Cmp.Lexicographic.{pointwise}
use Rattle.std.proofs.lemmas.Bool.{cases_Bool, cases_lt, false≢true}
use Rattle.std.proofs.lemmas.Str.{IsUtf8-from_is_utf8, is_utf8-from_IsUtf8}
use lib.Pointwise.{bytes_decides}
use Rattle.base64.specs.Engines.{url_safe_no_pad}
use Rattle.base64.specs.GeneralPurpose.{encode_of, decode_of, IsBytes}
use Rattle.base64.specs.declared.decode.DecodeError.{DecodeError}
use Rattle.base64.proofs.EngineFacts.{decode_of-encode_of}
use Rattle.key_names.specs.Names.{IsFine, most_name_bytes}
use Rattle.bucket_terms.specs.declared.list_query.ListQuery.{ListQuery}
use Rattle.bucket_terms.specs.declared.token_point.TokenPoint.{TokenPoint}
use Rattle.bucket_terms.specs.declared.token_point.TokenPoint.TheVariants.{Key, Group}
use Rattle.bucket_terms.specs.declared.token.Token.{Token}
use Rattle.bucket_terms.specs.declared.token.Bound.{Bound}
use Rattle.bucket_terms.specs.Listing.{IsTokenOf, IsShortText, token_text, bytes_by, point_text, sized, bound_of}
use Rattle.bucket_terms.specs.PageParts.{IsShortBound}
use Rattle.bucket_terms.specs.LegalRun.{IsPointOf}
use Rattle.page_token.proofs.OneTokenLaws.{whole_bytes, has_text}

-- ---- what can be decided

both : {A B : Type 0} → A ⊎ (¬ A) → B ⊎ (¬ B) → (A × B) ⊎ (¬ (A × B))
both (inl a) (inl b) = inl (a, b)
both (inl a) (inr never) = inr (λ h. never h.1)
both (inr never) other = inr (λ h. never h.0)

of_utf8 : (text : List ℕ) → IsUtf8 text ⊎ (¬ (IsUtf8 text))
of_utf8 text =
    elim (cases_Bool (is_utf8 text)) [
      | inl valid ↦ inl (IsUtf8-from_is_utf8 text valid)
      | inr invalid ↦ inr (λ is. false≢true (sym invalid ∙ is_utf8-from_IsUtf8 text is))
    ]

same_text : (x y : List ℕ) → (x ≡ y) ⊎ (¬ (x ≡ y))
same_text x y =
    elim (cases_Bool (pointwise nat_eq x y)) [
      | inl same ↦ inl ((bytes_decides x y).0 same)
      | inr other ↦ inr (λ same. false≢true (sym other ∙ (bytes_decides x y).1 same))
    ]

at_most : (m n : ℕ) → (m ≤ n) ⊎ (¬ (m ≤ n))
at_most m n =
    elim (cases_lt n m) [
      | inl above ↦ inr (λ le. omega (arith, above, le))
      | inr le ↦ inl le
    ]

not_empty : (text : List ℕ) → (0 < length text) ⊎ (¬ (0 < length text))
not_empty text =
    elim (cases_lt 0 (length text)) [
      | inl some ↦ inl some
      | inr none ↦ inr (λ some. omega (arith, some, none))
    ]

is_short : (text : List ℕ) → IsShortText text ⊎ (¬ (IsShortText text))
is_short text =
    elim (both (at_most (length text) most_name_bytes) (of_utf8 text)) [
      | inl is ↦ inl (record { short = is.0; utf8 = is.1 })
      | inr never ↦ inr (λ h. never (h.short, h.utf8))
    ]

is_fine : (text : List ℕ) → IsFine text ⊎ (¬ (IsFine text))
is_fine text =
    elim (both (not_empty text) (both (at_most (length text) most_name_bytes) (of_utf8 text))) [
      | inl is ↦ inl (record { not_empty = is.0; short = is.1.0; text = is.1.1 })
      | inr never ↦ inr (λ h. never (h.not_empty, (h.short, h.text)))
    ]

is_short_bound : (bound : Option Bound) → IfSome bound IsShortBound ⊎ (¬ (IfSome bound IsShortBound))
is_short_bound None = inl tt
is_short_bound (Some bound) = both (is_short bound.prefix) (is_short bound.delimiter)

is_token : (token : Token) (text : List ℕ) → IsTokenOf token text ⊎ (¬ (IsTokenOf token text))
is_token token text =
    elim (both (is_fine (point_text token.point)) (both (is_short_bound token.bound) (same_text text (token_text token)))) [
      | inl is ↦ inl (record { fine = is.0; bound = is.1.0; spelled = is.1.1 })
      | inr never ↦ inr (λ h. never (h.fine, (h.bound, h.spelled)))
    ]

-- ---- the one text of a point that a token may have

abbrev ok_bytes : Result (List ℕ) DecodeError → List ℕ
ok_bytes (Ok bytes) = bytes
ok_bytes (Err error) = []

-- the bytes whose base64 the text is
abbrev decoded : List ℕ → List ℕ
decoded text = ok_bytes (decode_of url_safe_no_pad text)

decoded_back : (bytes : List ℕ) → IsBytes bytes → decoded (encode_of url_safe_no_pad bytes) ≡ bytes
decoded_back bytes are = ap ok_bytes (decode_of-encode_of url_safe_no_pad bytes refl are)

-- the tokens of one kind of point, with this bound: their bytes are a head and the text of the point
module _ (make : List ℕ → TokenPoint) (bound : Option Bound) (head : List ℕ) (parts : (t : List ℕ) → bytes_by (make t) bound ≡ head ++ t) (text : List ℕ) where
  abbrev token : List ℕ → Token
  token t = record { point = make t; bound = bound }

  abbrev rest : List ℕ
  rest = drop (length head) (decoded text)

  found : (t : List ℕ) → IsTokenOf (token t) text → rest ≡ t
  found t of =
      ap (λ (bytes : List ℕ). drop (length head) bytes)
      (ap decoded of.spelled ∙ decoded_back (bytes_by (make t) bound) (whole_bytes (token t) (has_text (token t) text of)) ∙ parts t)
      ∙ drop_at head t (length head) refl

  of_kind : ((t : List ℕ) × IsTokenOf (token t) text) ⊎ (¬ ((t : List ℕ) × IsTokenOf (token t) text))
  of_kind =
      elim (is_token (token rest) text) [
        | inl of ↦ inl (rest, of)
        | inr never ↦ inr (λ h. never (subst (λ (t : List ℕ). IsTokenOf (token t) text) (sym (found h.0 h.1)) h.1))
      ]

-- ---- where a listing goes on

bound_parts : (letter : ℕ) (bound : Bound) (t : List ℕ)
    → 50 ∷ letter ∷ (sized bound.prefix ++ (sized bound.delimiter ++ t)) ≡ (50 ∷ letter ∷ (sized bound.prefix ++ sized bound.delimiter)) ++ t
bound_parts letter bound t = ap (λ (bytes : List ℕ). 50 ∷ letter ∷ bytes) (sym (append_assoc (sized bound.prefix) (sized bound.delimiter) t))

-- the listing begins at a point, or its token's text is that of no token that fits it
pub resolved : (query : ListQuery) → ((point : Option TokenPoint) × IsPointOf query point) ⊎ ((point : Option TokenPoint) → ¬ (IsPointOf query point))
resolved query =
    elim (same_text query.token []) [
      | inl empty ↦ inl (None, empty)
      | inr given ↦ elim (of_kind Key None (75 ∷ []) (λ t. refl) query.token) [
        | inl key ↦ inl (Some (Key key.0), (None, (tt, key.1)))
        | inr no_key ↦ elim (of_kind Group None (80 ∷ []) (λ t. refl) query.token) [
          | inl group ↦ inl (Some (Group group.0), (None, (tt, group.1)))
          | inr no_group ↦ elim (of_kind Key (Some bound) (50 ∷ 75 ∷ ahead) (bound_parts 75 bound) query.token) [
            | inl key ↦ inl (Some (Key key.0), (Some bound, (refl, key.1)))
            | inr no_bound_key ↦ elim (of_kind Group (Some bound) (50 ∷ 80 ∷ ahead) (bound_parts 80 bound) query.token) [
              | inl group ↦ inl (Some (Group group.0), (Some bound, (refl, group.1)))
              | inr no_bound_group ↦ inr (no_point given no_key no_group no_bound_key no_bound_group)
            ]
          ]
        ]
      ]
    ]
  where
    bound : Bound
    bound = bound_of query

    ahead : List ℕ
    ahead = sized bound.prefix ++ sized bound.delimiter

    IsKind : (List ℕ → TokenPoint) → Option Bound → Type 0
    IsKind make other = (t : List ℕ) × IsTokenOf (record { point = make t; bound = other }) query.token

    no_point : ¬ (query.token ≡ []) → ¬ (IsKind Key None) → ¬ (IsKind Group None) → ¬ (IsKind Key (Some bound)) → ¬ (IsKind Group (Some bound))
        → (point : Option TokenPoint) → ¬ (IsPointOf query point)
    no_point given no_key no_group no_bound_key no_bound_group None is = given is
    no_point given no_key no_group no_bound_key no_bound_group (Some (Key t)) is = by_bound is.0 is.1.0 is.1.1
      where
        by_bound : (other : Option Bound) → IfSome other (λ b. b ≡ bound_of query) → IsTokenOf (record { point = Key t; bound = other }) query.token → ⊥
        by_bound None fits of = no_key (t, of)
        by_bound (Some b) fits of = no_bound_key (t, subst (λ (c : Bound). IsTokenOf (record { point = Key t; bound = Some c }) query.token) fits of)
    no_point given no_key no_group no_bound_key no_bound_group (Some (Group t)) is = by_bound is.0 is.1.0 is.1.1
      where
        by_bound : (other : Option Bound) → IfSome other (λ b. b ≡ bound_of query) → IsTokenOf (record { point = Group t; bound = other }) query.token → ⊥
        by_bound None fits of = no_group (t, of)
        by_bound (Some b) fits of = no_bound_group (t, subst (λ (c : Bound). IsTokenOf (record { point = Group t; bound = Some c }) query.token) fits of)
