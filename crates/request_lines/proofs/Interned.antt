-- Names that are kept once: what one more name changes, and what holds after the sort.
use Rattle.std.proofs.Common.{◌≡◌, ◌≢◌, ℕ, ◌+◌, ◌<◌, ◌≤◌, List, [], ◌∷◌, ◌++◌, length, map, get_or, set, ext_get_or, refl, sym, ap, ap₂, ◌∙◌, subst, arith, inl, inr, get_or-set_same, get_or-set_other, length-set}
use Rattle.std.specs.Prelude.{All, Contains, Option, None, Some, slice_index}
use Rattle.std.specs.List.{range_with_len}
use Rattle.std.specs.List.Sorted.{IsPermutation}
use Rattle.std.specs.List.{SwappedAt}
use Rattle.std.proofs.lemmas.List.{get_or-map, length-map, length_push, get_or_append_left, get_or_default, map-append, map-id}
use Rattle.std.proofs.lemmas.List.FromFn.{get_or-range_with_len, length-range_with_len, map-range_with_len_more}
use Rattle.std.proofs.lemmas.List.Elements.{All-head, All-tail, All-push, All-weaker, All-map, Contains-get_or, Contains-push, Contains-push_cases, Contains-append_left}
use Rattle.std.proofs.lemmas.List.Sorted.{All-permutation, IsPermutation-map, length_permutation}
use Rattle.std.proofs.lemmas.Bool.Decides.{eqb_tells}
use Rattle.key_names.specs.Names.{HoldsEachOnce, IsFine, name_at}
use Rattle.key_names.specs.Ranks.{most_names}
use Rattle.request_lines.proofs.NameCounts.{rising_count}
use Rattle.request_lines.specs.declared.leads.Numbered.{Numbered}
use Rattle.request_lines.specs.Interned.{named, names_kept, AreKept, IsInterned, IsKnownAs, AreMoved, AreNumbered, IsRankedBy, number_in}

-- ---- one more name

named_kept : (ks : List (List ℕ)) (x : List ℕ) (order : List ℕ) → All (λ i. i < length ks) order → named (ks ++ x ∷ []) order ≡ named ks order
named_kept ks x [] below = refl
named_kept ks x (i ∷ order) below =
    ap₂ (λ (n : List ℕ) (ns : List (List ℕ)). n ∷ ns)
    (get_or_append_left ks (x ∷ []) [] i (All-head (λ (j : ℕ). j < length ks) i order below))
    (named_kept ks x order (All-tail (λ (j : ℕ). j < length ks) i order below))

-- the names of the lines with one more
pub named_more : (ks new : List (List ℕ)) (order : List ℕ) (name : List ℕ) (number : ℕ) → IsInterned ks order → IsKnownAs ks new name number
    → named new (order ++ number ∷ []) ≡ named ks order ++ name ∷ []
named_more ks new order name number interned is_known =
    map-append (name_at new) order (number ∷ [])
    ∙ ap₂ (λ (ns : List (List ℕ)) (n : List ℕ). ns ++ n ∷ []) kept is_known.is
  where
    kept : named new order ≡ named ks order
    kept = elim is_known.known [
      | inl same ↦ ap (λ (ns : List (List ℕ)). named ns order) same
      | inr longer ↦ ap (λ (ns : List (List ℕ)). named ns order) longer ∙ named_kept ks name order interned.below
    ]

pub interned_more : (ks new : List (List ℕ)) (order : List ℕ) (name : List ℕ) (number : ℕ) → IsInterned ks order → IsKnownAs ks new name number
    → IsInterned new (order ++ number ∷ [])
interned_more ks new order name number interned is_known = record {
  below = All-push (λ (j : ℕ). j < length new) order number (All-weaker (λ (j : ℕ). j < length ks) (λ (j : ℕ). j < length new) (λ j below. omega (arith, below, longer)) order interned.below) is_known.below;
  used = λ other has. subst (λ (ns : List (List ℕ)). Contains ns other) (sym (named_more ks new order name number interned is_known)) (had other has);
}
  where
    longer : length ks ≤ length new
    longer = elim is_known.known [
      | inl same ↦ omega (arith, ap length same)
      | inr more ↦ omega (arith, ap length more, length_push ks name)
    ]

    had : (other : List ℕ) → Contains new other → Contains (named ks order ++ name ∷ []) other
    had other has = elim is_known.known [
      | inl same ↦ Contains-append_left (named ks order) (name ∷ []) other (interned.used other (subst (λ (ns : List (List ℕ)). Contains ns other) same has))
      | inr more ↦ elim (Contains-push_cases ks name other (subst (λ (ns : List (List ℕ)). Contains ns other) more has)) [
        | inl old ↦ Contains-append_left (named ks order) (name ∷ []) other (interned.used other old)
        | inr is ↦ subst (λ (n : List ℕ). Contains (named ks order ++ name ∷ []) n) is (Contains-push (named ks order) name)
      ]
    ]

-- ---- the names of the list

-- what holds the kept names holds the names of the lines
pub held_once : (ks : List (List ℕ)) (order : List ℕ) (held : List (List ℕ)) → IsInterned ks order → HoldsEachOnce ks held → HoldsEachOnce (named ks order) held
held_once ks order held interned holds = record {
  rising = holds.rising;
  all = λ name has.
      let k = has.0 in
      let within : k < length order = omega (arith, has.1, length-map order (name_at ks)) in
      let is : name_at ks (get_or order k 0) ≡ name = sym (get_or-map (name_at ks) order k 0 name within) ∙ has.2 in
      holds.all name (subst (Contains ks) is (Contains-get_or ks (get_or order k 0) [] (interned.below k 0 within)));
  no_other = λ name has. interned.used name (holds.no_other name has);
}

pub kept_once : (names : List (List ℕ)) (order : Option (List ℕ)) (held : List (List ℕ)) → AreKept names order → HoldsEachOnce names held → HoldsEachOnce (names_kept names order) held
kept_once names None held kept holds = holds
kept_once names (Some order) held kept holds = held_once names order held kept.interned holds

-- so many kept ones a directory may have
pub kept_few : (names : List (List ℕ)) (order : Option (List ℕ)) (held : List (List ℕ)) → AreKept names order → HoldsEachOnce names held → length held ≤ most_names
kept_few names order held kept holds =
    let once = kept_once names order held kept holds in
    omega (arith, kept.few, rising_count held (names_kept names order) once.rising once.no_other)

-- what holds of each name of the lines holds of each kept one
pub kept_fine : (names : List (List ℕ)) (order : Option (List ℕ)) → AreKept names order → All IsFine (names_kept names order) → All IsFine names
kept_fine names None kept fine = fine
kept_fine names (Some order) kept fine = λ k d within.
    let has = kept.interned.used (get_or names k d) (Contains-get_or names k d within) in
    subst IsFine has.2 (fine has.0 (get_or names k d) has.1)

-- ---- the numbers

range_below : (n : ℕ) → All (λ (i : ℕ). i < n) (range_with_len 0 n)
range_below n k d within =
    let low : k < n = omega (arith, within, length-range_with_len 0 n) in
    omega (arith, get_or-range_with_len 0 n k d low, low)

pub range_more : (n : ℕ) → range_with_len 0 (n + 1) ≡ range_with_len 0 n ++ n ∷ []
range_more n = sym (map-id (range_with_len 0 (n + 1))) ∙ map-range_with_len_more (λ (k : ℕ). k) 0 n n (omega arith) ∙ ap (λ (ks : List ℕ). ks ++ n ∷ []) (map-id (range_with_len 0 n))

-- a further name gets the next number
pub one_number_more : (entries : List Numbered) (e : Numbered) (n : ℕ) → map number_in entries ≡ range_with_len 0 n → e.number ≡ n
    → map number_in (entries ++ e ∷ []) ≡ range_with_len 0 (n + 1)
one_number_more entries e n so_far is =
    map-append number_in entries (e ∷ []) ∙ ap₂ (λ (ns : List ℕ) (k : ℕ). ns ++ k ∷ []) so_far is ∙ sym (range_more n)

-- numbers in their order, moved
pub numbers_moved : (n : ℕ) (entries sorted : List Numbered) → map number_in entries ≡ range_with_len 0 n → IsPermutation entries sorted
    → IsPermutation (range_with_len 0 n) (map number_in sorted)
numbers_moved n entries sorted are moved = subst (λ (ns : List ℕ). IsPermutation ns (map number_in sorted)) are (IsPermutation-map number_in entries sorted moved)

pub same_count : (ks : List (List ℕ)) (entries : List Numbered) → AreNumbered ks entries → length ks ≡ length entries
same_count ks entries are =
    sym (length-range_with_len 0 (length ks)) ∙ sym (length_permutation _ _ are) ∙ length-map entries number_in

pub numbers_below : (ks : List (List ℕ)) (entries : List Numbered) → AreNumbered ks entries → All (λ (e : Numbered). e.number < length ks) entries
numbers_below ks entries are k d within =
    let all : All (λ (i : ℕ). i < length ks) (map number_in entries) = All-permutation (λ (i : ℕ). i < length ks) _ _ are (range_below (length ks)) in
    let low : get_or (map number_in entries) k 0 < length ks = all k 0 (omega (arith, within, length-map entries number_in)) in
    omega (arith, low, get_or-map number_in entries k d 0 within)

-- ---- names that are moved

-- a list with two elements put anew
module _ (xs : List ℕ) (i a j b : ℕ) (i_low : i < length xs) (j_low : j < length xs) where
  second_put : slice_index (set (set xs i a) j b) j ≡ b
  second_put = get_or-set_same (set xs i a) j b 0 (omega (arith, j_low, length-set xs i a))

  first_put : i ≢ j → slice_index (set (set xs i a) j b) i ≡ a
  first_put apart = get_or-set_other (set xs i a) j i b 0 apart ∙ get_or-set_same xs i a 0 i_low

  others_put : (k : ℕ) → k ≢ i → k ≢ j → slice_index (set (set xs i a) j b) k ≡ slice_index xs k
  others_put k not_i not_j = get_or-set_other (set xs i a) j k b 0 not_j ∙ get_or-set_other xs i k a 0 not_i

  pub puts_count : length (set (set xs i a) j b) ≡ length xs
  puts_count = length-set (set xs i a) j b ∙ length-set xs i a

-- no name is moved yet
pub none_moved : (names : List (List ℕ)) → AreMoved names names (range_with_len 0 (length names)) (range_with_len 0 (length names))
none_moved names = record {
  names_count = refl;
  places_count = length-range_with_len 0 (length names);
  numbers_count = length-range_with_len 0 (length names);
  place = λ i low. omega (arith, low, at i low);
  number = λ i low. omega (arith, low, at i low);
  number_at = λ i low. ap (slice_index (range_with_len 0 (length names))) (at i low) ∙ at i low;
  place_of = λ i low. ap (slice_index (range_with_len 0 (length names))) (at i low) ∙ at i low;
  is = λ i low. ap (name_at names) (at i low);
}
  where
    at : (i : ℕ) → i < length names → slice_index (range_with_len 0 (length names)) i ≡ i
    at i low = omega (arith, get_or-range_with_len 0 (length names) i 0 low)

-- two names change places: the one with this number comes to this place
module _ {names moved : List (List ℕ)} {places numbers : List ℕ} (are : AreMoved names moved places numbers) (place number from other : ℕ)
    (place_low : place < length names) (number_low : number < length names) (is_from : slice_index places number ≡ from) (is_other : slice_index numbers place ≡ other)
    (apart : from ≢ place) where
  back_at_place : slice_index places other ≡ place
  back_at_place = ap (slice_index places) (sym is_other) ∙ are.place_of place place_low

  from_low : from < length names
  from_low = subst (λ (p : ℕ). p < length names) is_from (are.place number number_low)

  other_low : other < length names
  other_low = subst (λ (n : ℕ). n < length names) is_other (are.number place place_low)

  numbers_apart : number ≢ other
  numbers_apart same = apart (sym is_from ∙ ap (slice_index places) same ∙ back_at_place)

  abbrev new_places : List ℕ
  new_places = set (set places number place) other from

  abbrev new_numbers : List ℕ
  new_numbers = set (set numbers place number) from other

  p_number : number < length places
  p_number = omega (arith, number_low, are.places_count)

  p_other : other < length places
  p_other = omega (arith, other_low, are.places_count)

  n_place : place < length numbers
  n_place = omega (arith, place_low, are.numbers_count)

  n_from : from < length numbers
  n_from = omega (arith, from_low, are.numbers_count)

  place_of_other : slice_index new_places other ≡ from
  place_of_other = second_put places number place other from p_number p_other

  place_of_number : slice_index new_places number ≡ place
  place_of_number = first_put places number place other from p_number p_other numbers_apart

  place_kept : (k : ℕ) → k ≢ number → k ≢ other → slice_index new_places k ≡ slice_index places k
  place_kept = others_put places number place other from p_number p_other

  number_from : slice_index new_numbers from ≡ other
  number_from = second_put numbers place number from other n_place n_from

  number_place : slice_index new_numbers place ≡ number
  number_place = first_put numbers place number from other n_place n_from (λ same. apart (sym same))

  number_kept : (k : ℕ) → k ≢ place → k ≢ from → slice_index new_numbers k ≡ slice_index numbers k
  number_kept = others_put numbers place number from other n_place n_from

  -- a further number's name stands at neither of the two places
  not_place : (k : ℕ) → k < length names → k ≢ other → slice_index places k ≢ place
  not_place k low not_other same = not_other (sym (are.number_at k low) ∙ ap (slice_index numbers) same ∙ is_other)

  not_from : (k : ℕ) → k < length names → k ≢ number → slice_index places k ≢ from
  not_from k low not_number same = not_number (sym (are.number_at k low) ∙ ap (slice_index numbers) (same ∙ sym is_from) ∙ are.number_at number number_low)

  by_number : (P : ℕ → Type 0) → P other → P number → ((k : ℕ) → k < length names → k ≢ number → k ≢ other → P k) → (k : ℕ) → k < length names → P k
  by_number P at_other at_number at_others k low = elim (eqb_tells k other) as (λ _. P k) [
    | inl same ↦ subst P (sym same.1) at_other
    | inr away ↦ elim (eqb_tells k number) as (λ _. P k) [
      | inl same ↦ subst P (sym same.1) at_number
      | inr far ↦ at_others k low far.1 away.1
    ]
  ]

  by_place : (P : ℕ → Type 0) → P from → P place → ((k : ℕ) → k < length names → k ≢ place → k ≢ from → P k) → (k : ℕ) → k < length names → P k
  by_place P at_from at_place at_others k low = elim (eqb_tells k from) as (λ _. P k) [
    | inl same ↦ subst P (sym same.1) at_from
    | inr away ↦ elim (eqb_tells k place) as (λ _. P k) [
      | inl same ↦ subst P (sym same.1) at_place
      | inr far ↦ at_others k low far.1 away.1
    ]
  ]

  pub moved_once : (after : List (List ℕ)) → SwappedAt moved after place from → length after ≡ length moved
      → AreMoved names after (set (set places number place) other from) (set (set numbers place number) from other)
  moved_once after swapped count = record {
    names_count = count ∙ are.names_count;
    places_count = puts_count places number place other from p_number p_other ∙ are.places_count;
    numbers_count = puts_count numbers place number from other n_place n_from ∙ are.numbers_count;
    place = by_number (λ k. slice_index new_places k < length names)
        (subst (λ (p : ℕ). p < length names) (sym place_of_other) from_low)
        (subst (λ (p : ℕ). p < length names) (sym place_of_number) place_low)
        (λ k low not_number not_other. subst (λ (p : ℕ). p < length names) (sym (place_kept k not_number not_other)) (are.place k low));
    number = by_place (λ k. slice_index new_numbers k < length names)
        (subst (λ (n : ℕ). n < length names) (sym number_from) other_low)
        (subst (λ (n : ℕ). n < length names) (sym number_place) number_low)
        (λ k low not_place not_from. subst (λ (n : ℕ). n < length names) (sym (number_kept k not_place not_from)) (are.number k low));
    number_at = by_number (λ k. slice_index new_numbers (slice_index new_places k) ≡ k)
        (ap (slice_index new_numbers) place_of_other ∙ number_from)
        (ap (slice_index new_numbers) place_of_number ∙ number_place)
        (λ k low not_number not_other.
        ap (slice_index new_numbers) (place_kept k not_number not_other)
        ∙ number_kept (slice_index places k) (not_place k low not_other) (not_from k low not_number)
        ∙ are.number_at k low);
    place_of = by_place (λ k. slice_index new_places (slice_index new_numbers k) ≡ k)
        (ap (slice_index new_places) number_from ∙ place_of_other)
        (ap (slice_index new_places) number_place ∙ place_of_number)
        (λ k low away_place away_from.
        ap (slice_index new_places) (number_kept k away_place away_from)
        ∙ place_kept (slice_index numbers k)
        (λ same. away_from (sym (are.place_of k low) ∙ ap (slice_index places) same ∙ is_from))
        (λ same. away_place (sym (are.place_of k low) ∙ ap (slice_index places) same ∙ back_at_place))
        ∙ are.place_of k low);
    is = by_number (λ k. name_at after (slice_index new_places k) ≡ name_at names k)
        (ap (name_at after) place_of_other ∙ swapped.1 [] ∙ ap (name_at moved) (sym back_at_place) ∙ are.is other other_low)
        (ap (name_at after) place_of_number ∙ swapped.0 [] ∙ ap (name_at moved) (sym is_from) ∙ are.is number number_low)
        (λ k low not_number not_other.
        ap (name_at after) (place_kept k not_number not_other)
        ∙ swapped.2 (slice_index places k) [] (not_place k low not_other) (not_from k low not_number)
        ∙ are.is k low);
  }

-- the names are those at their places
pub ranked_by_places : (names moved : List (List ℕ)) (places numbers : List ℕ) → AreMoved names moved places numbers → IsRankedBy names moved places
ranked_by_places names moved places numbers are = record {
  interned = record {
    below = λ k d within.
        let low : k < length names = omega (arith, within, are.places_count) in
        let there : slice_index places k < length moved = omega (arith, are.place k low, are.names_count) in
        subst (λ (p : ℕ). p < length moved) (get_or_default places k 0 d within) there;
    used = λ name has.
        let k : ℕ = has.0 in
        let low : k < length names = omega (arith, has.1, are.names_count) in
        let number : slice_index numbers k < length places = omega (arith, are.number k low, are.places_count) in
        let is : get_or (named moved places) (slice_index numbers k) [] ≡ name =
        get_or-map (name_at moved) places (slice_index numbers k) 0 [] number ∙ ap (name_at moved) (are.place_of k low) ∙ get_or_default moved k [] name has.1 ∙ has.2 in
        subst (Contains (named moved places)) is (Contains-get_or (named moved places) (slice_index numbers k) [] (omega (arith, number, length-map places (name_at moved))));
  };
  are =
      ext_get_or [] (named moved places) names (length-map places (name_at moved) ∙ are.places_count)
      (λ i within.
      let here : i < length places = omega (arith, within, length-map places (name_at moved)) in
      get_or-map (name_at moved) places i 0 [] here ∙ are.is i (omega (arith, here, are.places_count)));
}

-- ---- the names of the lines by ranks, from those that were kept

module _ (ks kept : List (List ℕ)) (ranks : List ℕ) (ranked : IsRankedBy ks kept ranks) where
  as_many_ranks : length ranks ≡ length ks
  as_many_ranks = sym (length-map ranks (name_at kept)) ∙ ap length ranked.are

  at_kept : (i : ℕ) → i < length ks → name_at kept (slice_index ranks i) ≡ name_at ks i
  at_kept i within =
      sym (get_or-map (name_at kept) ranks i 0 [] (omega (arith, within, as_many_ranks)))
      ∙ ap (λ (ns : List (List ℕ)). get_or ns i []) ranked.are

  all_at_kept : (order : List ℕ) → All (λ i. i < length ks) order → named kept (map (slice_index ranks) order) ≡ named ks order
  all_at_kept [] below = refl
  all_at_kept (i ∷ order) below =
      ap₂ (λ (n : List ℕ) (ns : List (List ℕ)). n ∷ ns)
      (at_kept i (All-head (λ (j : ℕ). j < length ks) i order below))
      (all_at_kept order (All-tail (λ (j : ℕ). j < length ks) i order below))

  module _ (order : List ℕ) (interned : IsInterned ks order) where
    pub all_ranked : All (λ i. i < length ranks) order
    all_ranked = All-weaker (λ (j : ℕ). j < length ks) (λ (j : ℕ). j < length ranks) (λ j below. omega (arith, below, as_many_ranks)) order interned.below

    pub named_by_ranks : named kept (map (slice_index ranks) order) ≡ named ks order
    named_by_ranks = all_at_kept order interned.below

    pub interned_by_ranks : IsInterned kept (map (slice_index ranks) order)
    interned_by_ranks = record {
      below = All-map (λ (j : ℕ). j < length kept) (slice_index ranks) order
          (All-weaker (λ (i : ℕ). i < length ranks) (λ (i : ℕ). slice_index ranks i < length kept) (λ i below. ranked.interned.below i 0 below) order all_ranked);
      used = λ other has. subst (λ (ns : List (List ℕ)). Contains ns other) (sym named_by_ranks)
          (interned.used other (subst (λ (ns : List (List ℕ)). Contains ns other) ranked.are (ranked.interned.used other has)));
    }
