-- The first delimiter in a text, where a search has found it or has not.
use Rattle.std.proofs.Common.{◌≡◌, ◌==◌, ℕ, zero, suc, ◌+◌, ◌<◌, ◌≤◌, true, false, cond, List, [], ◌∷◌, length, drop, Option, Some, None, refl, ◌∙◌, ap, inl, inr, arith}
use Rattle.std.proofs.lemmas.Bool.{cases_Bool}
use Rattle.std.proofs.lemmas.Bool.Decides.{nat_tests}
use Rattle.std.proofs.lemmas.List.{drop_all, length-drop}
use Rattle.std.specs.Option.{option_map}
use Rattle.memchr.specs.Find.{OccursAt, FindsNeedle}
use Rattle.memchr.proofs.lemmas.MatchLemmas.{OccursAt-part, OccursAt-from_part}
use Rattle.bucket_terms.specs.declared.list_query.ListQuery.{ListQuery}
use Rattle.key_names.specs.Names.{begins_with}
use Rattle.bucket_terms.specs.Listing.{first_end, group_len}
use Rattle.page_rules.proofs.Groups.{begins_fits}
use Rattle.page_rules.proofs.NameOrder.{begins_take, begins_from_take}

-- where the delimiter does not occur, the text does not begin with it
not_here : (delimiter text : List ℕ) (j : ℕ) → ¬ (OccursAt text delimiter j) → j ≤ length text → begins_with (drop j text) delimiter ≡ false
not_here delimiter text j none within =
    elim (cases_Bool (begins_with (drop j text) delimiter)) [
      | inl here ↦
          let fits = begins_fits (drop j text) delimiter here in
          absurd (none (OccursAt-from_part text delimiter j (omega (arith, fits, length-drop j text, within)) (begins_take (drop j text) delimiter here)))
      | inr not ↦ not
    ]

-- where none is before place `k`, it is looked for from there on
looked_from : (delimiter : List ℕ) (at : ℕ) (text : List ℕ) (k : ℕ) → k ≤ length text → ((j : ℕ) → j < k → begins_with (drop j text) delimiter ≡ false)
    → first_end delimiter at text ≡ first_end delimiter (at + k) (drop k text)
unfolding first_end
looked_from delimiter at text zero fits none = let here : at ≡ at + 0 = omega arith in ap (λ n. first_end delimiter n text) here
looked_from delimiter at [] (suc k) fits none = absurd (omega (arith, fits))
looked_from delimiter at (b ∷ text) (suc k) fits none =
    let next : (at + 1) + k ≡ at + suc k = omega arith in
    ap (λ t. cond t (Some (at + length delimiter)) (first_end delimiter (at + 1) text)) (none 0 (omega arith))
    ∙ looked_from delimiter (at + 1) text k (omega (arith, fits)) (λ j l. none (suc j) (omega (arith, l)))
    ∙ ap (λ n. first_end delimiter n (drop k text)) next

first_end-begins : (delimiter : List ℕ) (at : ℕ) (text : List ℕ) → 0 < length text → begins_with text delimiter ≡ true → first_end delimiter at text ≡ Some (at + length delimiter)
unfolding first_end
first_end-begins delimiter at [] some here = absurd (omega (arith, some))
first_end-begins delimiter at (b ∷ text) some here = ap (λ t. cond t (Some (at + length delimiter)) (first_end delimiter (at + 1) text)) here

first_end-empty : (delimiter : List ℕ) (at : ℕ) → first_end delimiter at [] ≡ None
unfolding first_end
first_end-empty delimiter at = refl

-- the first delimiter ends its own length after the place where the search says that it begins
pub first_end-found : (delimiter : List ℕ) (at : ℕ) (text : List ℕ) (r : Option ℕ) → 0 < length delimiter → FindsNeedle text delimiter 0 r
    → first_end delimiter at text ≡ option_map (λ k. at + k + length delimiter) r
first_end-found delimiter at text None some h =
    let n = length text in
    looked_from delimiter at text n (omega arith) (λ j l. not_here delimiter text j (h j (omega arith) (omega (arith, l))) (omega (arith, l)))
    ∙ ap (first_end delimiter (at + n)) (drop_all n text (omega arith))
    ∙ first_end-empty delimiter (at + n)
first_end-found delimiter at text (Some k) some h =
    let fits = h.1.fits in
    let left : 0 < length (drop k text) = omega (arith, fits, some, length-drop k text) in
    looked_from delimiter at text k (omega (arith, fits)) (λ j l. not_here delimiter text j (h.0.before j (omega arith) l) (omega (arith, fits, l)))
    ∙ first_end-begins delimiter (at + k) (drop k text) left (begins_from_take (drop k text) delimiter (OccursAt-part text delimiter k h.1))

-- ---- the common prefix of a name

pub no_group-without : (query : ListQuery) (name : List ℕ) → length query.delimiter ≡ 0 → group_len query name ≡ None
unfolding group_len
no_group-without query name none = rw none refl

-- a name that is shorter than the prefix has no delimiter after it
pub no_group-short : (query : ListQuery) (name : List ℕ) → 0 < length query.delimiter → length name < length query.prefix → group_len query name ≡ None
unfolding group_len
no_group-short query name some short =
    let given : (length query.delimiter == 0) ≡ false = grind (arith, nat_tests) in
    ap (λ t. cond t None (first_end query.delimiter (length query.prefix) (drop (length query.prefix) name))) given
    ∙ ap (first_end query.delimiter (length query.prefix)) (drop_all (length query.prefix) name (omega (arith, short)))
    ∙ first_end-empty query.delimiter (length query.prefix)

-- the common prefix ends with the delimiter that a search after the prefix finds
pub group_len-found : (query : ListQuery) (name : List ℕ) (r : Option ℕ) → 0 < length query.delimiter
    → FindsNeedle (drop (length query.prefix) name) query.delimiter 0 r → group_len query name ≡ option_map (λ k. length query.prefix + k + length query.delimiter) r
unfolding group_len
group_len-found query name r some found =
    let given : (length query.delimiter == 0) ≡ false = grind (arith, nat_tests) in
    ap (λ t. cond t None (first_end query.delimiter (length query.prefix) (drop (length query.prefix) name))) given
    ∙ first_end-found query.delimiter (length query.prefix) (drop (length query.prefix) name) r some found
