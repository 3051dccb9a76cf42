-- What an input, its session and its directory determine.
use Rattle.std.proofs.Common.{◌≡◌, ℕ, zero, suc, ◌<◌, ◌⊎◌, List, [], ◌∷◌, length, refl, sym, ap, ◌∙◌, subst, arith, inl, inr}
use Rattle.std.specs.List.{Contains, slice_index_or, AllByRecursion}
use Rattle.std.specs.List.Sorted.{IsStrictlySortedBy}
use Rattle.std.specs.declared.cmp.Ordering.TheVariants.{Less, Equal}
use Rattle.std.specs.Cmp.Lexicographic.{nat_list_cmp_total}
use Rattle.std.proofs.lemmas.Cmp.{tied_itself}
use Rattle.std.proofs.lemmas.List.{append_cancel_left, append_cancel_right}
use Rattle.std.proofs.lemmas.List.Elements.{All-from_recursion, All-contains}
use Rattle.key_names.specs.Names.{Rises, byte_order}
use Rattle.bucket_terms.specs.declared.record.Record.{Record}
use Rattle.request_lines.specs.declared.session.ClientPart.{ClientPart}
use Rattle.run_laws.specs.Determined.{OneInputLaw, OneReadingLaw, OneTextLaw, TellsOnLaw, OneSessionLaw, NoSessionLaw, OneDirectoryLaw}

pub one_input : OneInputLaw
one_input before input after is = is

pub one_reading : OneReadingLaw
one_reading before now x y first second = append_cancel_right x y now (sym first ∙ second)

pub one_text : OneTextLaw
one_text before now x y first second = append_cancel_left before x y (sym first ∙ second)

pub tells_on : TellsOnLaw
tells_on before x taken = taken

pub one_session : OneSessionLaw
one_session input s t first second =
    ap (λ (cs : List ClientPart). record { clients = cs; names = s.names; records = s.records }) (first.clients ∙ sym second.clients)
    ∙ ap (λ (ns : List (List ℕ)). record { clients = t.clients; names = ns; records = s.records }) (first.names ∙ sym second.names)
    ∙ ap (λ (rs : List Record). record { clients = t.clients; names = t.names; records = rs }) (first.records ∙ sym second.records)

pub no_session : NoSessionLaw
no_session input s e session refused = cc (sym session.faultless ∙ refused)

-- ---- names that rise

first_or_later : (x : List ℕ) (xs : List (List ℕ)) (z : List ℕ) → Contains (x ∷ xs) z → (x ≡ z) ⊎ Contains xs z
first_or_later x xs z is = by_place is.0 is.1 is.2
  where
    by_place : (k : ℕ) → k < suc (length xs) → slice_index_or (x ∷ xs) k z ≡ z → (x ≡ z) ⊎ Contains xs z
    by_place zero below here = inl here
    by_place (suc k) below here = inr (k, omega arith, here)

later : (x : List ℕ) (xs : List (List ℕ)) (z : List ℕ) → Contains xs z → Contains (x ∷ xs) z
later x xs z is = let below : is.0 < length xs = is.1 in (suc is.0, omega arith, is.2)

first : (x : List ℕ) (xs : List (List ℕ)) → Contains (x ∷ xs) x
first x xs = (zero, omega arith, refl)

not_below_itself : (x : List ℕ) → byte_order x x ≡ Less → ⊥
not_below_itself x less = let equal : byte_order x x ≡ Equal = tied_itself nat_list_cmp_total x in cc

not_both_below : (x y : List ℕ) → byte_order x y ≡ Less → byte_order y x ≡ Less → ⊥
not_both_below x y low high = not_below_itself x (nat_list_cmp_total.trans x y x low high)

above : (x : List ℕ) (xs : List (List ℕ)) (z : List ℕ) → AllByRecursion (λ (y : List ℕ). byte_order x y ≡ Less) xs → Contains xs z → byte_order x z ≡ Less
above x xs z all is = All-contains (λ (y : List ℕ). byte_order x y ≡ Less) xs z (All-from_recursion (λ (y : List ℕ). byte_order x y ≡ Less) xs all) is

same_names : (d e : List (List ℕ)) → Rises d → Rises e → ((z : List ℕ) → Contains d z → Contains e z) → ((z : List ℕ) → Contains e z → Contains d z) → d ≡ e
unfolding IsStrictlySortedBy
same_names [] [] rising rising' to from = refl
same_names [] (y ∷ ys) rising rising' to from = let no : (from y (first y ys)).0 < 0 = (from y (first y ys)).1 in absurd (omega arith)
same_names (x ∷ xs) [] rising rising' to from = let no : (to x (first x xs)).0 < 0 = (to x (first x xs)).1 in absurd (omega arith)
same_names (x ∷ xs) (y ∷ ys) rising rising' to from =
    let heads : x ≡ y =
    elim (first_or_later y ys x (to x (first x xs))) [
      | inl same ↦ sym same
      | inr inside ↦ elim (first_or_later x xs y (from y (first y ys))) [
        | inl same ↦ same
        | inr inside' ↦ absurd (not_both_below y x (above y ys x rising'.0 inside) (above x xs y rising.0 inside'))
      ]
    ] in
    let rest = same_names xs ys rising.1 rising'.1
    (λ z inside. elim (first_or_later y ys z (to z (later x xs z inside))) [
      | inl same ↦ absurd (not_below_itself x (subst (λ (w : List ℕ). byte_order x w ≡ Less) (sym (heads ∙ same)) (above x xs z rising.0 inside)))
      | inr there ↦ there
    ])
    (λ z inside. elim (first_or_later x xs z (from z (later y ys z inside))) [
      | inl same ↦ absurd (not_below_itself y (subst (λ (w : List ℕ). byte_order y w ≡ Less) (sym (sym heads ∙ same)) (above y ys z rising'.0 inside)))
      | inr there ↦ there
    ]) in
    ap (λ (w : List ℕ). w ∷ xs) heads ∙ ap (λ (ws : List (List ℕ)). y ∷ ws) rest

pub one_directory : OneDirectoryLaw
one_directory names d e first second =
    same_names d e first.rising second.rising
    (λ z inside. second.all z (first.no_other z inside))
    (λ z inside. first.all z (second.no_other z inside))
