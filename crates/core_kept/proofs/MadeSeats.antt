-- The seats of the opening, made one after another.
use Rattle.std.proofs.Common.{◌≡◌, ℕ, zero, suc, ◌+◌, ◌-◌, List, [], ◌∷◌, ◌++◌, length, take, drop, arith, refl, ap, ◌∙◌, sym, subst, Some, append-nil, append_assoc}
use Rattle.std.proofs.lemmas.List.{length-append}
use lib.Seq.{take-append_seam, drop-append_seam}
use Rattle.std.proofs.lemmas.List.Sums.{sum_by-cons}
use Rattle.index_words.specs.declared.layout.Layout.{Layout}
use Rattle.key_map.specs.declared.pass.PassSize.{PassSize}
use Rattle.index_words.specs.declared.view.View.{View}
use Rattle.index_words.specs.Sizes.{all_nodes, all_entries, all_calls, layout_of}
use Rattle.index_words.specs.Views.{empty_view}
use Rattle.key_map.specs.Lists.{IsItem}
use Rattle.core_events.specs.Openings.{from_up, pass_view, pass_views, first_view, first_table, made_left, made_right, giving, MayMake}
use Rattle.core_invariant.specs.Rule.{InRule, IsRight}
use Rattle.core_kept.proofs.MadeViews.{made}

-- the numbers from one on, in two parts
from_both : (first m n : ℕ) → from_up first (m + n) ≡ from_up first m ++ from_up (first + m) n
from_both first m zero = let none : m + 0 ≡ m = omega arith in ap (from_up first) none ∙ sym (append-nil (from_up first m))
from_both first m (suc n) =
    let more : m + suc n ≡ suc (m + n) = omega arith in
    let last : first + (m + n) ≡ first + m + n = omega arith in
    ap (from_up first) more
    ∙ ap (λ (xs : List ℕ). xs ++ (first + (m + n)) ∷ []) (from_both first m n)
    ∙ append_assoc (from_up first m) (from_up (first + m) n) ((first + (m + n)) ∷ [])
    ∙ ap (λ (k : ℕ). from_up first m ++ (from_up (first + m) n ++ k ∷ [])) last

pub from_length : (first n : ℕ) → length (from_up first n) ≡ n
from_length first zero = refl
from_length first (suc n) = omega (arith, length-append (from_up first n) ((first + n) ∷ []), from_length first n)

taken_up : (first m n : ℕ) → take m (from_up first (m + n)) ≡ from_up first m
taken_up first m n =
    ap (take m) (from_both first m n)
    ∙ subst (λ k. take k (from_up first m ++ from_up (first + m) n) ≡ from_up first m) (from_length first m)
    (take-append_seam (from_up first m) (from_up (first + m) n))

dropped_up : (first m n : ℕ) → drop m (from_up first (m + n)) ≡ from_up (first + m) n
dropped_up first m n =
    ap (drop m) (from_both first m n)
    ∙ subst (λ k. drop k (from_up first m ++ from_up (first + m) n) ≡ from_up (first + m) n) (from_length first m)
    (drop-append_seam (from_up first m) (from_up (first + m) n))

-- a view by the numbers that it has still to give, its calls and its free slots
abbrev with_free : Layout → List ℕ → ℕ → List ℕ → List ℕ → View
with_free z give left nodes entries = record (empty_view z) {
  to_give = give;
  history = record (empty_view z).history { left = left };
  free = record { nodes = nodes; entries = entries };
  unused = record { nodes = nodes; entries = entries };
}

with_same : (z : Layout) (g h : List ℕ) (a b : ℕ) (ns ms es fs : List ℕ) → g ≡ h → a ≡ b → ns ≡ ms → es ≡ fs → with_free z g a ns es ≡ with_free z h b ms fs
with_same z g h a b ns ms es fs one two three four =
    ap (λ xs. with_free z xs a ns es) one ∙ ap (λ n. with_free z h n ns es) two ∙ ap (λ xs. with_free z h b xs es) three ∙ ap (λ xs. with_free z h b ms xs) four

abbrev pass_with : Layout → ℕ → ℕ → List ℕ → List ℕ → View
pass_with z number left nodes entries = record (empty_view z) {
  number = Some number;
  history = record (empty_view z).history { left = left };
  free = record { nodes = nodes; entries = entries };
  unused = record { nodes = nodes; entries = entries };
}

module _ (z : Layout) (k a b : ℕ) (size : PassSize) (sizes : List PassSize) where
  abbrev v : View
  v = giving z k a b (size ∷ sizes)

  counts : (length (size ∷ sizes) ≡ 1 + length sizes)
      × ((all_nodes (size ∷ sizes) ≡ size.nodes + all_nodes sizes)
      × ((all_entries (size ∷ sizes) ≡ size.entries + all_entries sizes) × (all_calls (size ∷ sizes) ≡ size.calls + all_calls sizes)))
  counts = (
    omega arith,
    (
      sum_by-cons (λ (s : PassSize). s.nodes) size sizes,
      (sum_by-cons (λ (s : PassSize). s.entries) size sizes, sum_by-cons (λ (s : PassSize). s.calls) size sizes),
    ),
  )

  -- what is left gives the rest
  pub left_gives : made_left v size ≡ giving z (k + 1) (a + size.nodes) (b + size.entries) sizes
  left_gives =
      with_same z (drop 1 v.to_give) (from_up (k + 1) (length sizes)) (v.history.left - size.calls) (all_calls sizes)
      (drop size.nodes v.free.nodes) (from_up (a + size.nodes) (all_nodes sizes)) (drop size.entries v.free.entries)
      (from_up (b + size.entries) (all_entries sizes))
      (ap (λ n. drop 1 (from_up k n)) counts.0 ∙ dropped_up k 1 (length sizes))
      (omega (arith, counts.1.1.1))
      (ap (λ n. drop size.nodes (from_up a n)) counts.1.0 ∙ dropped_up a size.nodes (all_nodes sizes))
      (ap (λ n. drop size.entries (from_up b n)) counts.1.1.0 ∙ dropped_up b size.entries (all_entries sizes))

  -- and the new view is the pass's
  pub right_is : made_right v k size ≡ pass_view z k a b size
  right_is =
      ap (λ xs. pass_with z k size.calls xs (take size.entries v.free.entries))
      (ap (λ n. take size.nodes (from_up a n)) counts.1.0 ∙ taken_up a size.nodes (all_nodes sizes))
      ∙ ap (λ xs. pass_with z k size.calls (from_up a size.nodes) xs)
      (ap (λ n. take size.entries (from_up b n)) counts.1.1.0 ∙ taken_up b size.entries (all_entries sizes))

  pub may_make : MayMake v k size
  may_make =
      let same : k + 0 ≡ k = omega arith in
      record {
        live = refl;
        rest = from_up (k + 1) (length sizes);
        next = ap (from_up k) counts.0 ∙ from_both k 1 (length sizes) ∙ ap (λ (n : ℕ). n ∷ from_up (k + 1) (length sizes)) same;
        calls = omega (arith, counts.1.1.1);
      }

-- making the seats of these sizes, one after another, gives the views of the passes and leaves an empty view
pub all_made : (z : Layout) (words : List ℕ) (front : List View) (k a b : ℕ) (sizes : List PassSize) → InRule z words (giving z k a b sizes ∷ front)
    → InRule z words (empty_view z ∷ (front ++ pass_views z k a b sizes))
all_made z words front k a b [] right = subst (λ (vs : List View). InRule z words (empty_view z ∷ vs)) (sym (append-nil front)) right
all_made z words front k a b (size ∷ sizes) right =
    let v : View = giving z k a b (size ∷ sizes) in
    let y : View = pass_view z k a b size in
    let at : IsItem (v ∷ front) 0 v = record { within = omega arith; is = λ d. refl } in
    let one : InRule z words (made_left v size ∷ (front ++ made_right v k size ∷ []))
    = made z words (v ∷ front) 0 k v size at right (may_make z k a b size sizes) in
    let two : InRule z words (giving z (k + 1) (a + size.nodes) (b + size.entries) sizes ∷ (front ++ y ∷ []))
    = subst (λ (x : View). InRule z words (x ∷ (front ++ y ∷ []))) (left_gives z k a b size sizes)
    (subst (λ (x : View). InRule z words (made_left v size ∷ (front ++ x ∷ []))) (right_is z k a b size sizes) one) in
    subst (λ (vs : List View). InRule z words (empty_view z ∷ vs))
    (append_assoc front (y ∷ []) (pass_views z (k + 1) (a + size.nodes) (b + size.entries) sizes))
    (all_made z words (front ++ y ∷ []) (k + 1) (a + size.nodes) (b + size.entries) sizes two)

-- from the table with the first view alone
pub opening_made : (z : Layout) (sizes : List PassSize) → z ≡ layout_of sizes → IsRight (first_table z)
    → InRule z (first_table z).words (empty_view z ∷ pass_views z 0 1 1 sizes)
opening_made z sizes is right =
    all_made z (first_table z).words [] 0 1 1 sizes (subst (λ (v : View). InRule z (first_table z).words (v ∷ [])) (first_gives is) right)
  where
    first_gives : z ≡ layout_of sizes → first_view z ≡ giving z 0 1 1 sizes
    first_gives is =
        with_same z (from_up 0 z.passes) (from_up 0 (length sizes)) z.calls (all_calls sizes) (from_up 1 z.nodes) (from_up 1 (all_nodes sizes))
        (from_up 1 z.entries) (from_up 1 (all_entries sizes))
        (ap (λ (y : Layout). from_up 0 y.passes) is) (ap (λ (y : Layout). y.calls) is) (ap (λ (y : Layout). from_up 1 y.nodes) is)
        (ap (λ (y : Layout). from_up 1 y.entries) is)
