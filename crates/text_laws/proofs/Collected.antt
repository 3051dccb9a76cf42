-- A list of lists, one for each number below a bound.
use Rattle.std.proofs.Common.{◌≡◌, ℕ, zero, suc, ◌<◌, List, [], ◌∷◌, ◌++◌, length, get_or, inl, inr, refl, sym, ◌∙◌, subst, arith}
use Rattle.std.proofs.lemmas.Bool.{cases_lt}
use Rattle.std.proofs.lemmas.List.{length_push, get_or_append_left, get_or_push}
use Rattle.bucket_terms.specs.declared.reply.Placed.{Placed}

abbrev pub Listed : ℕ → (ℕ → List Placed → Type 0) → List (List Placed) → Type 0
Listed n P lists = (length lists ≡ n) × ((k : ℕ) → k < n → P k (get_or lists k []))

pub collected : (n : ℕ) (P : ℕ → List Placed → Type 0) → ((k : ℕ) → k < n → (ps : List Placed) × P k ps) → (lists : List (List Placed)) × Listed n P lists
collected zero P each = ([], (refl, λ k less. absurd (omega arith)))
collected (suc n) P each =
    let before = collected n P (λ k less. each k (omega arith)) in
    let lists = before.0 in
    let long : length lists ≡ n = before.1.0 in
    let last = each n (omega arith) in
    let count : length (lists ++ last.0 ∷ []) ≡ suc n = let more = length_push lists last.0 in omega arith in (
      lists ++ last.0 ∷ [],
      (
        count,
        λ k less.
            elim (cases_lt k n) [
              | inl below ↦ subst (P k) (sym (get_or_append_left lists (last.0 ∷ []) [] k (omega arith))) (before.1.1 k below)
              | inr most ↦
                  let same : n ≡ k = omega arith in
                  subst (P k) (sym (get_or_push lists last.0 [] k (long ∙ same))) (subst (λ (i : ℕ). P i last.0) same last.1)
            ],
      ),
    )
