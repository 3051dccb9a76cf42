-- Texts that are cut into lines, and lines that are cut into blocks.
use Rattle.std.proofs.Common.{◌≡◌, ℕ, ◌+◌, ◌^◌, ◌<◌, ◌≤◌, Bool, true, List, [], ◌∷◌, ◌++◌, length, take, drop, map, get_or, Option, Some, refl, sym, ap, subst, ◌∙◌, append_assoc, inl, inr, arith}
use Rattle.std.specs.Prelude.{◌==◌}
use Rattle.std.specs.Borrow.{Bor}
use Rattle.std.specs.List.{slice_split, onto_first, position_or_len}
use Rattle.std.proofs.lemmas.Bool.{cases_Bool}
use Rattle.std.proofs.lemmas.Bool.Decides.{nat_tests}
use Rattle.std.proofs.lemmas.List.{take-append-drop, drop_more, get_or-drop, length-map, map-append, append-nil}
use Rattle.std.proofs.lemmas.List.Sums.{passes_at_first, count_by-le-length}
use Rattle.std.proofs.lemmas.List.Splits.{slice_split-cons_yes, slice_split-cons_no, length-slice_split}
use Rattle.std.specs.Str.Lines.{strip_carriage_return}
use Rattle.request_lines.specs.Input.{most_input_bytes}
use Rattle.request_lines.specs.InputParts.{texts_of, texts_left}
use Rattle.request_lines.specs.Said.{texts_in}

-- a list that is cut has a part
onto_append : (x : ℕ) (parts more : List (List ℕ)) → 0 < length parts → onto_first x (parts ++ more) ≡ onto_first x parts ++ more
onto_append x [] more some = absurd (omega arith)
onto_append x (part ∷ parts) more some = refl

-- it is cut before a byte that passes, and after it
split_append : (p : ℕ → Bool) (xs : List ℕ) (y : ℕ) (ys : List ℕ) → p y ≡ true → slice_split p (xs ++ y ∷ ys) ≡ slice_split p xs ++ slice_split p ys
split_append p [] y ys here = slice_split-cons_yes p y ys here
split_append p (x ∷ xs) y ys passes =
    elim (cases_Bool (p x)) [
      | inl here ↦
          slice_split-cons_yes p x (xs ++ y ∷ ys) here ∙ ap (λ (more : List (List ℕ)). [] ∷ more) (split_append p xs y ys passes)
          ∙ ap (λ (front : List (List ℕ)). front ++ slice_split p ys) (sym (slice_split-cons_yes p x xs here))
      | inr not_here ↦
          slice_split-cons_no p x (xs ++ y ∷ ys) not_here ∙ ap (onto_first x) (split_append p xs y ys passes)
          ∙ onto_append x (slice_split p xs) (slice_split p ys) (omega (arith, length-slice_split p xs))
          ∙ ap (λ (front : List (List ℕ)). front ++ slice_split p ys) (sym (slice_split-cons_no p x xs not_here))
    ]

texts_append : (xs : List ℕ) (ys : List ℕ) → texts_of (xs ++ 10 ∷ ys) ≡ texts_of xs ++ texts_of ys
texts_append xs ys =
    ap (map strip_carriage_return) (split_append (λ b. b == 10) xs 10 ys refl) ∙ map-append strip_carriage_return (slice_split (λ b. b == 10) xs) (slice_split (λ b. b == 10) ys)

-- lines that are cut at a line feed
pub texts_cut_at : (lines : List ℕ) (end : ℕ) → end < length lines → get_or lines end 0 ≡ 10 → texts_of lines ≡ texts_of (take end lines) ++ texts_of (drop (end + 1) lines)
texts_cut_at lines end inside feed =
    let cut : lines ≡ take end lines ++ 10 ∷ drop (end + 1) lines =
    sym (take-append-drop end lines) ∙ ap (λ (back : List ℕ). take end lines ++ back) (drop_more lines end 0 inside)
    ∙ ap (λ (b : ℕ). take end lines ++ b ∷ drop (end + 1) lines) feed in
    ap texts_of cut ∙ texts_append (take end lines) (drop (end + 1) lines)

-- and at the first one from a place on
pub block_cut : (lines : List ℕ) (start end : ℕ) → start ≤ length lines → position_or_len (λ b. b == 10) (drop start lines) ≡ end → end < length (drop start lines)
    → start + end < length lines → texts_of lines ≡ texts_of (take (start + end) lines) ++ texts_of (drop (start + end + 1) lines)
block_cut lines start end within place inside below =
    let feed : get_or lines (start + end) 0 ≡ 10 =
    let passes = passes_at_first (λ b. b == 10) (drop start lines) 0 (rw place inside) in
    let here : (get_or (drop start lines) end 0 == 10) ≡ true = subst (λ (n : ℕ). (get_or (drop start lines) n 0 == 10) ≡ true) place passes in
    let is = get_or-drop start lines end 0 in grind (arith, nat_tests) in
    texts_cut_at lines (start + end) below feed

-- there are no more lines than bytes, and one
texts_few : (bytes : List ℕ) → length (texts_of bytes) ≤ length bytes + 1
texts_few bytes =
    let cut = length-slice_split (λ b. b == 10) bytes in
    let few = count_by-le-length (λ b. b == 10) bytes in
    let same = length-map (slice_split (λ b. b == 10) bytes) strip_carriage_return in
    omega (arith, cut, few, same)

pub texts_small : (bytes : List ℕ) → length bytes ≤ most_input_bytes → 1 + length (texts_of bytes) ≤ 2 ^ 32
texts_small bytes small = omega (arith, texts_few bytes)

-- the lines of one more block
pub texts_push : (blocks : List (Bor (List ℕ))) (block : Bor (List ℕ)) → texts_in (blocks ++ block ∷ []) ≡ texts_in blocks ++ texts_of block.now
texts_push [] block = append-nil (texts_of block.now)
texts_push (b ∷ blocks) block = ap (λ (more : List (List ℕ)). texts_of b.now ++ more) (texts_push blocks block) ∙ sym (append_assoc (texts_of b.now) (texts_in blocks) (texts_of block.now))

-- with the next block
pub blocks_more : (lines : List ℕ) (blocks : List (Bor (List ℕ))) (left rest : Option (Bor (List ℕ))) (here block : Bor (List ℕ)) → left ≡ Some here
    → texts_of here.now ≡ texts_of block.now ++ texts_left rest → texts_of lines ≡ texts_in blocks ++ texts_left left
    → texts_of lines ≡ texts_in (blocks ++ block ∷ []) ++ texts_left rest
blocks_more lines blocks left rest here block is cut all =
    all ∙ ap (λ (behind : List (List ℕ)). texts_in blocks ++ behind) (ap texts_left is ∙ cut)
    ∙ sym (append_assoc (texts_in blocks) (texts_of block.now) (texts_left rest))
    ∙ ap (λ (front : List (List ℕ)). front ++ texts_left rest) (sym (texts_push blocks block))
