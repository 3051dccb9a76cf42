-- The rank of a name in a directory, a name's own keys, and the text of a token.
use Rattle.std.proofs.Common.{◌≡◌, ℕ, zero, suc, ◌+◌, ◌<◌, Bool, true, false, not, cond, List, [], ◌∷◌, Option, Some, None, ◌++◌, length, get_or, nat_lt, nat_eq, sym, ap, ◌∙◌, subst, arith}
use Rattle.std.specs.Bool.{IsTrue}
use Rattle.std.specs.declared.cmp.Ordering.TheVariants.{Less, Equal}
use Rattle.std.specs.List.Sorted.{IsStrictlySortedBy}
use Rattle.std.specs.Cmp.Lexicographic.{pointwise, nat_list_cmp_total}
use Rattle.std.proofs.lemmas.Bool.{false_from_ne_true}
use Rattle.std.proofs.lemmas.Bool.Decides.{nat_tests}
use Rattle.std.proofs.lemmas.Cmp.{tied_itself}
use Rattle.std.proofs.lemmas.List.Elements.{All-from_recursion}
use lib.Pointwise.{bytes_decides}
use Rattle.base64.specs.Rfc4648.{encode_symbols}
use Rattle.key_names.specs.Names.{byte_order, Rises, IsRank, begins_with}
use Rattle.bucket_terms.specs.declared.token_point.TokenPoint.{TokenPoint}
use Rattle.bucket_terms.specs.declared.token.Token.{Token}
use Rattle.bucket_terms.specs.declared.token.Bound.{Bound}
use Rattle.bucket_terms.specs.Listing.{IsTokenOf, token_text, point_letter, point_text}
use Rattle.sample_laws.specs.Alone.{rank_of}
use Rattle.sample_laws.specs.Own.{is_own}

rank_is : (dir : List (List ℕ)) (name : List ℕ) (key : ℕ) → Rises dir → key < length dir → get_or dir key [] ≡ name → rank_of dir name ≡ key
unfolding IsStrictlySortedBy
rank_is [] name key rising below here = absurd (omega arith)
rank_is (x ∷ dir) name zero rising below here =
    ap (λ (b : Bool). cond (not b) (1 + rank_of dir name) 0) ((bytes_decides x name).1 here)
rank_is (x ∷ dir) name (suc key) rising below here =
    let rest = rank_is dir name key rising.1 (omega arith) here in
    let less : byte_order x (get_or dir key []) ≡ Less =
    All-from_recursion (λ (y : List ℕ). byte_order x y ≡ Less) dir rising.0 key [] (omega arith) in
    let apart : pointwise nat_eq x name ≡ false =
    false_from_ne_true _ (λ tied.
    let same : x ≡ name = (bytes_decides x name).0 tied in
    let equal : byte_order x x ≡ Equal = tied_itself nat_list_cmp_total x in
    let lower : byte_order x x ≡ Less = subst (λ (y : List ℕ). byte_order x y ≡ Less) (here ∙ sym same) less in
    cc) in
    ap (λ (b : Bool). cond (not b) (1 + rank_of dir name) 0) apart ∙ omega arith

-- a rank is the one of its name
pub rank_of-is : (dir : List (List ℕ)) (name : List ℕ) (key : ℕ) → Rises dir → IsRank dir name key → rank_of dir name ≡ key
rank_of-is dir name key rising rank = rank_is dir name key rising rank.below rank.is

-- the rank of a name that begins with the prefix is an own key
pub own_rank : (dir : List (List ℕ)) (prefix name : List ℕ) (key : ℕ) → IsTrue (begins_with name prefix) → IsRank dir name key → is_own dir prefix key ≡ true
own_rank dir prefix name key begins rank =
    let below : key < length dir = rank.below in
    let there : nat_lt key (length dir) ≡ true = grind (arith, nat_tests) in
    rw (there, rank.is) begins

full_text : (t : List ℕ) (a : ℕ) (m rest : List ℕ) → [] ≡ encode_symbols t (a ∷ m) ++ rest → ⊥
unfolding encode_symbols
full_text t a [] rest e = cc
full_text t a (b ∷ []) rest e = cc
full_text t a (b ∷ c ∷ m) rest e = cc

-- the empty text is that of no token
pub no_token : (token : Token) (text : List ℕ) → text ≡ [] → IsTokenOf token text → ⊥
no_token token text empty of = by_bound token.point token.bound (sym empty ∙ of.spelled)
  where
    by_bound : (point : TokenPoint) (bound : Option Bound) → [] ≡ token_text (record { point = point; bound = bound }) → ⊥
    by_bound point None spelled = full_text _ (point_letter point) (point_text point) _ spelled
    by_bound point (Some bound) spelled = full_text _ 50 _ _ spelled
