-- What is left of a list of entries after its first one.
use Rattle.std.proofs.Common.{◌≡◌, ℕ, ◌+◌, ◌<◌, Bool, true, false, not, cond, ◌&&◌, List, [], ◌∷◌, ◌++◌, length, get_or, take, map, filter, refl, sym, ◌∙◌, ap, inl, inr}
use Rattle.std.specs.List.{dedup, dedup_from}
use Rattle.std.proofs.lemmas.Bool.{cases_Bool}
use Rattle.std.proofs.lemmas.List.{take_more, map-append}
use Rattle.std.proofs.lemmas.List.Elements.{filter-append}

module _ {X : Type 0} (under : X → Bool) where
  filter_skip : (x : X) (xs : List X) → under x ≡ false → (b : Bool) → filter under (cond b (x ∷ xs) xs) ≡ filter under xs
  filter_skip x xs out true = ap (λ t. cond t (x ∷ filter under xs) (filter under xs)) out
  filter_skip x xs out false = refl

  pub filter-filter : (p q : X → Bool) (xs : List X) → filter q (filter p xs) ≡ filter (λ x. p x && q x) xs
  filter-filter p q [] = refl
  filter-filter p q (x ∷ xs) =
      let rest = filter-filter p q xs in
      elim (cases_Bool (p x)) [
        | inl keeps ↦ rw keeps (ap (λ l. cond (q x) (x ∷ l) l) rest)
        | inr drops ↦ rw drops rest
      ]

  -- tests that agree on the listed items leave the same listed items
  pub filter_congr : (p q : X → Bool) (xs : List X) → ((x : X) → under x ≡ true → p x ≡ q x) → filter under (filter p xs) ≡ filter under (filter q xs)
  filter_congr p q [] same = refl
  filter_congr p q (x ∷ xs) same =
      let rest = filter_congr p q xs same in
      elim (cases_Bool (under x)) [
        | inl is ↦
            elim (cases_Bool (q x)) [
              | inl keeps ↦ let first : p x ≡ true = same x is ∙ keeps in rw first (rw keeps (rw is (ap (λ l. x ∷ l) rest)))
              | inr drops ↦ let first : p x ≡ false = same x is ∙ drops in rw first (rw drops rest)
            ]
        | inr out ↦ filter_skip x (filter p xs) out (p x) ∙ (rest ∙ sym (filter_skip x (filter q xs) out (q x)))
      ]

-- what `f` gives of the items with one more
pub map-filters-more : {X Y : Type 0} (admitted under : X → Bool) (f : X → Y) (xs : List X) (k : ℕ) (d : X) → k < length xs
    → map f (filter under (filter admitted (take (k + 1) xs))) ≡ map f (filter under (filter admitted (take k xs))) ++ map f (filter under (filter admitted (get_or xs k d ∷ [])))
map-filters-more admitted under f xs k d below =
    ap (λ l. map f (filter under (filter admitted l))) (take_more xs k d below)
    ∙ ap (λ l. map f (filter under l)) (filter-append admitted (take k xs) (get_or xs k d ∷ []))
    ∙ ap (map f) (filter-append under (filter admitted (take k xs)) (filter admitted (get_or xs k d ∷ [])))
    ∙ map-append f (filter under (filter admitted (take k xs))) (filter under (filter admitted (get_or xs k d ∷ [])))

module _ {X : Type 0} (under admitted : X → Bool) where
  -- each listed item is admitted
  abbrev pub AreAdmitted : List X → Type 0
  AreAdmitted [] = Unit {0}
  AreAdmitted (x ∷ xs) = (under x ≡ true → admitted x ≡ true) × AreAdmitted xs

  pub filter_admitted : (xs : List X) → AreAdmitted xs → filter under (filter admitted xs) ≡ filter under xs
  filter_admitted [] h = refl
  filter_admitted (x ∷ xs) h =
      let rest = filter_admitted xs h.1 in
      elim (cases_Bool (under x)) [
        | inl is ↦ let admits : admitted x ≡ true = h.0 is in rw admits (rw is (ap (λ l. x ∷ l) rest))
        | inr not_under ↦
            elim (cases_Bool (admitted x)) [
              | inl admits ↦ rw admits (rw not_under rest)
              | inr refused ↦ rw refused (rw not_under rest)
            ]
      ]

module _ {X E : Type 0} (same : E → E → Bool) (entry : X → E) (under admitted : X → Bool) where
  -- a listed item is admitted exactly where its entry is another than `first`, and then all later ones are
  abbrev pub FollowFrom : E → List X → Type 0
  FollowFrom first [] = Unit {0}
  FollowFrom first (x ∷ xs) =
      (under x ≡ true → admitted x ≡ not (same (entry x) first)) × (under x ≡ true → admitted x ≡ true → AreAdmitted under admitted xs) × FollowFrom first xs

  -- the items whose entry is that of the first one are dropped with it
  pub dedup_from-rest : (first : E) (xs : List X) → FollowFrom first xs
      → dedup_from same first (map entry (filter under xs)) ≡ first ∷ dedup same (map entry (filter under (filter admitted xs)))
  dedup_from-rest first [] h = refl
  dedup_from-rest first (x ∷ xs) h =
      let rest = dedup_from-rest first xs h.2 in
      elim (cases_Bool (under x)) [
        | inl is ↦
            elim (cases_Bool (same (entry x) first)) [
              | inl one ↦ let refused : admitted x ≡ false = h.0 is ∙ ap not one in rw refused (rw is (rw one rest))
              | inr other ↦
                  let admits : admitted x ≡ true = h.0 is ∙ ap not other in
                  rw admits (rw is (rw other (ap (λ l. first ∷ dedup_from same (entry x) (map entry l)) (sym (filter_admitted under admitted xs (h.1 is admits))))))
            ]
        | inr not_under ↦
            elim (cases_Bool (admitted x)) [
              | inl admits ↦ rw admits (rw not_under rest)
              | inr refused ↦ rw refused (rw not_under rest)
            ]
      ]
