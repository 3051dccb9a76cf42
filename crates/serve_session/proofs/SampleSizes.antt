-- The sizes of the passes of the generated session's clients.
use Rattle.std.proofs.Common.{◌≡◌, ℕ, zero, suc, ◌+◌, ◌%◌, ◌≤◌, Bool, false, cond, All, List, [], ◌∷◌, None, map, refl, ap, subst, ◌∙◌, inl, inr, arith}
use Rattle.std.specs.Prelude.{◌==◌}
use Rattle.std.proofs.lemmas.Bool.{cases_Bool}
use Rattle.std.proofs.lemmas.Bool.Decides.{nat_tests}
use Rattle.std.proofs.lemmas.List.{map_push}
use Rattle.std.proofs.lemmas.List.Elements.{All-cons}
use Rattle.std.proofs.lemmas.List.Sums.{sum_by_push}
use Rattle.key_map.specs.declared.pass.PassSize.{PassSize}
use Rattle.index_words.specs.Sizes.{FitTable, IsPassSize}
use Rattle.bucket_terms.specs.LegalRun.{RequestLine, is_update}
use Rattle.bucket_terms.specs.RunParts.{updates_in}
use Rattle.request_lines.specs.declared.session.Session.{Session}
use Rattle.request_lines.specs.SampleSession.{sample_asked, sample_request, sample_requests, sample_session}
use Rattle.request_lines.specs.Session.{request_line}
use Rattle.client_threads.specs.Sizes.{size_for, sizes_of}
use Rattle.serve_session.specs.Sampled.{sample_sizes}

abbrev lines_to : ℕ → ℕ → ℕ → List RequestLine
lines_to n c i = map request_line (sample_requests n c i)

abbrev one_if : Bool → ℕ
one_if b = cond b 1 0

abbrev one_unless : Bool → ℕ
one_unless b = cond b 0 1

-- one more request
updates_more : (n c i : ℕ) → updates_in (lines_to n c (suc i)) ≡ updates_in (lines_to n c i) + one_if (is_update (request_line (sample_asked n c i)).request)
updates_more n c i =
    ap updates_in (map_push request_line (sample_requests n c i) (sample_asked n c i))
    ∙ sum_by_push (λ (l : RequestLine). one_if (is_update l.request)) (lines_to n c i) (request_line (sample_asked n c i))

update_at : (r c i : ℕ) → one_if (is_update (sample_request r c i)) ≡ one_unless (i % 4 == 3)
unfolding sample_request
update_at r c i = elim (cases_Bool (i % 4 == 2)) [
  | inl two ↦ let other : (i % 4 == 3) ≡ false = grind (arith, nat_tests) in rw (two, other) refl
  | inr other ↦ elim (cases_Bool (i % 4 == 3)) [
    | inl three ↦ rw (other, three) refl
    | inr neither ↦ rw (other, neither) refl
  ]
]

-- how many of a client's first requests are puts and removals: all but the listings
abbrev pub sample_updates : ℕ → ℕ
sample_updates zero = 0
sample_updates (suc i) = sample_updates i + one_unless (i % 4 == 3)

updates_first : (n c i : ℕ) → updates_in (lines_to n c i) ≡ sample_updates i
updates_first n c zero = refl
updates_first n c (suc i) =
    updates_more n c i
    ∙ ap (λ k. updates_in (lines_to n c i) + k) (update_at _ c i)
    ∙ ap (λ k. k + one_unless (i % 4 == 3)) (updates_first n c i)

size_is : (n c : ℕ) → size_for None (updates_in (lines_to n c n)) ≡ size_for None (sample_updates n)
size_is n c = ap (size_for None) (updates_first n c n)

abbrev four_of : PassSize → List PassSize
four_of size = size ∷ size ∷ size ∷ size ∷ []

-- each client's pass has the size for this many
pub sizes_are : (n updates : ℕ) → updates ≡ sample_updates n → four_of (size_for None updates) ≡ sample_sizes n
sizes_are n updates counted = rw (counted, size_is n 0, size_is n 1, size_is n 2, size_is n 3) refl

pub sizes_are_of : (n : ℕ) (session : Session) → session ≡ sample_session n → sizes_of None session.clients ≡ sample_sizes n
sizes_are_of n session is = ap (λ (s : Session). sizes_of None s.clients) is

none_each : All IsPassSize []
none_each k d below = absurd (omega arith)

four_each : (size : PassSize) → IsPassSize size → All IsPassSize (four_of size)
four_each size is =
    All-cons IsPassSize size (size ∷ size ∷ size ∷ []) is
    (All-cons IsPassSize size (size ∷ size ∷ []) is (All-cons IsPassSize size (size ∷ []) is (All-cons IsPassSize size [] is none_each)))

-- a table takes four such passes
four_fit : (updates : ℕ) → updates ≤ 40000 → FitTable (four_of (size_for None updates))
four_fit updates few = record {
  some = omega arith;
  few = omega arith;
  each = four_each (size_for None updates) (omega arith, omega arith);
  nodes = omega (arith, few);
  entries = omega (arith, few);
  calls = omega (arith, few);
}

pub sizes_fit : (n updates : ℕ) → updates ≡ sample_updates n → updates ≤ 40000 → FitTable (sample_sizes n)
sizes_fit n updates counted few = subst FitTable (sizes_are n updates counted) (four_fit updates few)
