-- Names that rise are no more than the names among which each of them stands.
use Rattle.std.proofs.Common.{◌≡◌, ◌⊎◌, ℕ, zero, suc, ◌<◌, ◌≤◌, List, [], ◌∷◌, length, get_or, refl, sym, inl, inr, arith}
use Rattle.std.specs.Prelude.{Contains}
use Rattle.std.specs.declared.cmp.Ordering.TheVariants.{Less, Equal}
use Rattle.std.specs.Cmp.Lexicographic.{nat_list_cmp_total}
use Rattle.std.specs.List.{remove}
use Rattle.std.specs.List.Sorted.{IsPermutation}
use Rattle.std.proofs.lemmas.Cmp.{tied_itself}
use Rattle.std.proofs.lemmas.List.Sorted.{Contains-permutation, IsPermutation-remove, length_permutation}
use Rattle.std.proofs.lemmas.Map.Keys.{Less-from_sorted}
use Rattle.key_names.specs.Names.{byte_order, Rises}

-- the first element or one of the others
at_head_or_behind : (x y : List ℕ) (xs : List (List ℕ)) → Contains (x ∷ xs) y → (x ≡ y) ⊎ Contains xs y
at_head_or_behind x y xs (zero, below, is) = inl is
at_head_or_behind x y xs (suc k, below, is) = inr (k, omega (arith, below), is)

-- an earlier name is below each later one
abbrev EachBelow : List (List ℕ) → Type 0
EachBelow names = (i j : ℕ) (d : List ℕ) → i < j → j < length names → byte_order (get_or names i d) (get_or names j d) ≡ Less

-- the first of names that rise does not come again
apart : (h name : List ℕ) (hs : List (List ℕ)) → EachBelow (h ∷ hs) → Contains hs name → h ≡ name → ⊥
apart h name hs below has same =
    let less : byte_order h (get_or hs has.0 name) ≡ Less = below 0 (suc has.0) name (omega arith) (omega (arith, has.1)) in
    let tied : byte_order h (get_or hs has.0 name) ≡ Equal = rw (has.2, sym same) (tied_itself nat_list_cmp_total h) in
    cc

count : (held given : List (List ℕ)) → EachBelow held → ((name : List ℕ) → Contains held name → Contains given name) → length held ≤ length given
count [] given below within = omega arith
count (h ∷ hs) given below within =
    let has : Contains given h = within h (0, omega arith, refl) in
    let rest = remove given has.0 in
    let moved : IsPermutation given (h ∷ rest) = IsPermutation-remove given has.0 h has.1 (sym has.2) in
    let others : (name : List ℕ) → Contains hs name → Contains rest name = λ name there.
    elim (at_head_or_behind h name rest (Contains-permutation given (h ∷ rest) name moved (within name (suc there.0, omega (arith, there.1), there.2)))) [
      | inl same ↦ absurd (apart h name hs below there same)
      | inr behind ↦ behind
    ] in
    let fewer : length hs ≤ length rest = count hs rest (λ i j d lt low. below (suc i) (suc j) d (omega arith) (omega arith)) others in
    omega (arith, fewer, length_permutation given (h ∷ rest) moved)

pub rising_count : (held given : List (List ℕ)) → Rises held → ((name : List ℕ) → Contains held name → Contains given name) → length held ≤ length given
rising_count held given rising within =
    count held given (λ i j d lt low. Less-from_sorted byte_order held i j d rising lt low) within
