-- A store at the number of a word changes exactly that word; no two words have the same number.
use Rattle.std.proofs.Common.{Bool, List, None, Option, Some, ap, arith, cond, eqb, eqb-true, false, get_or-set_other, get_or-set_same, leb, length, ltb, refl, set, subst, sym, true, ℕ, ◌%◌, ◌&&◌, ◌*◌, ◌+◌, ◌-◌, ◌/◌, ◌<◌, ◌∙◌, ◌≡◌, ◌≤◌}
use Rattle.std.proofs.lemmas.Bool.{false≢true}
use Rattle.std.proofs.lemmas.Bool.Decides.{nat_tests}
use mathlib.Core.Path.{fun_ext}
use Rattle.index_words.specs.declared.layout.Layout.{Layout}
use Rattle.index_words.specs.declared.side.Side.{Side}
use Rattle.index_words.specs.declared.side.Side.TheVariants.{Left, Right}
use Rattle.index_words.specs.declared.word.Field.{Field}
use Rattle.index_words.specs.declared.word.Field.TheVariants.{Key, Val, Lock, Mark, Head, Link, Tag}
use Rattle.index_words.specs.declared.word.Part.{Part}
use Rattle.index_words.specs.declared.word.Part.TheVariants.{Child, Stamp as Number, Next}
use Rattle.index_words.specs.declared.word.Word.{Word}
use Rattle.index_words.specs.declared.word.Word.TheVariants.{Stamp, Section, Announced, Node, Entry}
use Rattle.index_words.specs.Words.{address, word_count, is_there, memory, written, StoreLaw, same_word, same_field, same_part, same_side, field_number, part_number, field_at, part_at, word_at, nodes_begin, entries_begin}

-- the numbers of fields are below ten, and differ
pub field_number-lt : (f : Field) → field_number f < 10
field_number-lt Key = omega arith
field_number-lt Val = omega arith
field_number-lt Lock = omega arith
field_number-lt Mark = omega arith
field_number-lt (Head Left) = omega arith
field_number-lt (Head Right) = omega arith
field_number-lt (Link Left) = omega arith
field_number-lt (Link Right) = omega arith
field_number-lt (Tag Left) = omega arith
field_number-lt (Tag Right) = omega arith

pub part_number-lt : (p : Part) → part_number p < 3
part_number-lt Child = omega arith
part_number-lt _ = omega arith

-- a word that the table has has a number in range
pub address-lt : (z : Layout) (w : Word) → is_there z w ≡ true → address z w < word_count z
address-lt z Stamp t = omega arith
address-lt z (Section i) t = let h : i < z.passes = grind (arith, nat_tests) in omega arith
address-lt z (Announced i) t = let h : i < z.passes = grind (arith, nat_tests) in omega arith
address-lt z (Node f k) t = let h : k ≤ z.nodes = grind (arith, nat_tests) in omega (arith, field_number-lt f)
address-lt z (Entry p e) t = let h : (0 < e) × (e ≤ z.entries) = grind (arith, nat_tests) in omega (arith, part_number-lt p)

-- tests of two names
same_side-refl : (s : Side) → same_side s s ≡ true
same_side-refl Left = refl
same_side-refl Right = refl

same_side-true : (s t : Side) → same_side s t ≡ true → s ≡ t
same_side-true Left Left e = refl
same_side-true Right Right e = refl
same_side-true _ _ e = cc

pub same_field-refl : (f : Field) → same_field f f ≡ true
same_field-refl (Head s) = same_side-refl s
same_field-refl (Link s) = same_side-refl s
same_field-refl (Tag s) = same_side-refl s
same_field-refl _ = refl

pub same_field-true : (f g : Field) → same_field f g ≡ true → f ≡ g
same_field-true Key Key e = refl
same_field-true Val Val e = refl
same_field-true Lock Lock e = refl
same_field-true Mark Mark e = refl
same_field-true (Head s) (Head t) e = ap Head (same_side-true s t e)
same_field-true (Link s) (Link t) e = ap Link (same_side-true s t e)
same_field-true (Tag s) (Tag t) e = ap Tag (same_side-true s t e)
same_field-true _ _ e = cc

same_part-refl : (p : Part) → same_part p p ≡ true
same_part-refl Child = refl
same_part-refl _ = refl

same_part-true : (p q : Part) → same_part p q ≡ true → p ≡ q
same_part-true Child Child e = refl
same_part-true Number Number e = refl
same_part-true Next Next e = refl
same_part-true _ _ e = cc

pub same_word-refl : (w : Word) → same_word w w ≡ true
same_word-refl Stamp = refl
same_word-refl (Node f k) = rw (same_field-refl f) (grind (arith, nat_tests))
same_word-refl (Entry p e) = rw (same_part-refl p) (grind (arith, nat_tests))
same_word-refl _ = grind (arith, nat_tests)

both_true : (a b : Bool) → (a && b) ≡ true → (a ≡ true) × (b ≡ true)
both_true true true e = (refl, refl)
both_true _ _ e = cc

pub same_word-true : (v w : Word) → same_word v w ≡ true → v ≡ w
same_word-true Stamp Stamp e = refl
same_word-true (Section i) (Section j) e = let h : i ≡ j = grind (arith, nat_tests) in ap Section h
same_word-true (Announced i) (Announced j) e = let h : i ≡ j = grind (arith, nat_tests) in ap Announced h
same_word-true (Node f k) (Node g l) e =
    let both = both_true (same_field f g) (eqb k l) e in
    let fields : f ≡ g = same_field-true f g both.0 in
    let nodes : k ≡ l = eqb-true _ _ both.1 in
    cc
same_word-true (Entry p d) (Entry q e) h =
    let both = both_true (same_part p q) (eqb d e) h in
    let parts : p ≡ q = same_part-true p q both.0 in
    let entries : d ≡ e = eqb-true _ _ both.1 in
    cc
same_word-true _ _ e = cc

-- the number of a field gives the field
field_at-number : (f : Field) → field_at (field_number f) ≡ f
field_at-number Key = refl
field_at-number Val = refl
field_at-number Lock = refl
field_at-number Mark = refl
field_at-number (Head Left) = refl
field_at-number (Head Right) = refl
field_at-number (Link Left) = refl
field_at-number (Link Right) = refl
field_at-number (Tag Left) = refl
field_at-number (Tag Right) = refl

part_at-number : (p : Part) → part_at (part_number p) ≡ p
part_at-number Child = refl
part_at-number _ = refl

field_number-apart : (f g : Field) → field_number f ≡ field_number g → f ≡ g
field_number-apart f g e = sym (field_at-number f) ∙ ap field_at e ∙ field_at-number g

part_number-apart : (p q : Part) → part_number p ≡ part_number q → p ≡ q
part_number-apart p q e = sym (part_at-number p) ∙ ap part_at e ∙ part_at-number q

-- if a number below ten or three is added, the two parts are determined
tens : (a b f g : ℕ) → f < 10 → g < 10 → 10 * a + f ≡ 10 * b + g → (a ≡ b) × (f ≡ g)
tens a b f g hf hg e = (omega arith, omega arith)

threes : (a b f g : ℕ) → f < 3 → g < 3 → 3 * a + f ≡ 3 * b + g → (a ≡ b) × (f ≡ g)
threes a b f g hf hg e = (omega arith, omega arith)

IsThere : Layout → Word → Type 0
IsThere z Stamp = Unit {0}
IsThere z (Section i) = i < z.passes
IsThere z (Announced i) = i < z.passes
IsThere z (Node f k) = (k ≤ z.nodes) × (field_number f < 10)
IsThere z (Entry p e) = (0 < e) × (e ≤ z.entries) × (part_number p < 3)

is_there-says : (z : Layout) (w : Word) → is_there z w ≡ true → IsThere z w
unfolding IsThere
is_there-says z Stamp t = tt
is_there-says z (Node f k) t = (grind (arith, nat_tests), field_number-lt f)
is_there-says z (Entry p e) t = let h : (0 < e) × (e ≤ z.entries) = grind (arith, nat_tests) in (h.0, h.1, part_number-lt p)
is_there-says z _ t = grind (arith, nat_tests)

-- no two words that the table has share a number
apart : (z : Layout) (v w : Word) → IsThere z v → IsThere z w → address z v ≡ address z w → v ≡ w
unfolding IsThere
apart z Stamp Stamp a b e = refl
apart z (Section i) (Section j) a b e = let h : i ≡ j = omega arith in ap Section h
apart z (Announced i) (Announced j) a b e = let h : i ≡ j = omega arith in ap Announced h
apart z (Node f k) (Node g l) a b e =
    let h = tens k l (field_number f) (field_number g) a.1 b.1 (omega arith) in
    let nodes : k ≡ l = h.0 in
    let fields : f ≡ g = field_number-apart f g h.1 in
    cc
apart z (Entry p d) (Entry q c) a b e =
    let h = threes (d - 1) (c - 1) (part_number p) (part_number q) a.2 b.2 (omega arith) in
    let entries : d ≡ c = omega (arith, a.0, b.0, h.0) in
    let parts : p ≡ q = part_number-apart p q h.1 in
    cc
apart z _ _ a b e = absurd (omega arith)

pub address-apart : (z : Layout) (v w : Word) → is_there z v ≡ true → is_there z w ≡ true → address z v ≡ address z w → v ≡ w
address-apart z v w a b e = apart z v w (is_there-says z v a) (is_there-says z w b) e

-- what stands at a word after a store: the stored number at the same word, and the old one elsewhere
stored_here : (z : Layout) (words : List ℕ) (w : Word) (x : ℕ) → length words ≡ word_count z → is_there z w ≡ true
    → memory z (set words (address z w) x) w ≡ x
stored_here z words w x long here =
    let low : address z w < length words = omega (arith, address-lt z w here) in
    rw here (get_or-set_same words (address z w) x 0 low)

stored_elsewhere : (z : Layout) (words : List ℕ) (w v : Word) (x : ℕ) (b : Bool) → is_there z v ≡ b → is_there z w ≡ true → (v ≡ w → ⊥)
    → memory z (set words (address z w) x) v ≡ memory z words v
stored_elsewhere z words w v x true there here other =
    let ne : address z v ≡ address z w → ⊥ = λ e. other (address-apart z v w there here e) in
    rw there (get_or-set_other words (address z w) (address z v) x 0 ne)
stored_elsewhere z words w v x false there here other = rw there refl

where_stored : (z : Layout) (words : List ℕ) (w v : Word) (x : ℕ) (b : Bool) → same_word v w ≡ b → length words ≡ word_count z → is_there z w ≡ true
    → memory z (set words (address z w) x) v ≡ written (memory z words) w x v
where_stored z words w v x true same long here =
    rw same (rw (same_word-true v w same) (stored_here z words w x long here))
where_stored z words w v x false same long here =
    rw same (stored_elsewhere z words w v x (is_there z v) refl here (λ e. false≢true (sym same ∙ ap (λ u. same_word u w) e ∙ same_word-refl w)))

pub store : StoreLaw
store z words w x long here = fun_ext (λ v. where_stored z words w v x (same_word v w) refl long here)

-- the word of a number is one of the table, and has that number
pub IsWordAt : Layout → ℕ → Option Word → Type 0
IsWordAt z n None = word_count z ≤ n
IsWordAt z n (Some w) = (is_there z w ≡ true) × (address z w ≡ n)

field_number-at : (r : ℕ) → r < 10 → field_number (field_at r) ≡ r
field_number-at r low = grind (arith, nat_tests)

part_number-at : (r : ℕ) → r < 3 → part_number (part_at r) ≡ r
part_number-at r low = grind (arith, nat_tests)

says : (z : Layout) (n : ℕ) (b0 b1 b2 b3 b4 : Bool) → eqb n 0 ≡ b0 → leb n z.passes ≡ b1 → ltb n (nodes_begin z) ≡ b2 → ltb n (entries_begin z) ≡ b3 → ltb n (word_count z) ≡ b4
    → IsWordAt z n
    (cond b0 (Some Stamp) (cond b1 (Some (Section (n - 1))) (cond b2 (Some (Announced (n - 1 - z.passes)))
    (cond b3 (Some (Node (field_at ((n - nodes_begin z) % 10)) ((n - nodes_begin z) / 10)))
    (cond b4 (Some (Entry (part_at ((n - entries_begin z) % 3)) ((n - entries_begin z) / 3 + 1))) None)))))
unfolding IsWordAt
says z n true b1 b2 b3 b4 e0 e1 e2 e3 e4 = (refl, sym (eqb-true n 0 e0))
says z n false true b2 b3 b4 e0 e1 e2 e3 e4 =
    let some : 0 < n = grind (arith, nat_tests) in
    let low : n ≤ z.passes = grind (arith, nat_tests) in
    (grind (arith, nat_tests), omega arith)
says z n false false true b3 b4 e0 e1 e2 e3 e4 =
    let high : z.passes < n = grind (arith, nat_tests) in
    let low : n < nodes_begin z = grind (arith, nat_tests) in
    let inside : n - 1 - z.passes < z.passes = omega arith in
    (grind (arith, nat_tests), omega arith)
says z n false false false true b4 e0 e1 e2 e3 e4 =
    let high : nodes_begin z ≤ n = grind (arith, nat_tests) in
    let low : n < entries_begin z = grind (arith, nat_tests) in
    let inside : (n - nodes_begin z) / 10 ≤ z.nodes = omega arith in
    let rest : (n - nodes_begin z) % 10 < 10 = omega arith in
    (grind (arith, nat_tests), omega (arith, field_number-at ((n - nodes_begin z) % 10) rest))
says z n false false false false true e0 e1 e2 e3 e4 =
    let high : entries_begin z ≤ n = grind (arith, nat_tests) in
    let low : n < word_count z = grind (arith, nat_tests) in
    let inside : (n - entries_begin z) / 3 + 1 ≤ z.entries = omega arith in
    let rest : (n - entries_begin z) % 3 < 3 = omega arith in
    (grind (arith, nat_tests), omega (arith, part_number-at ((n - entries_begin z) % 3) rest))
says z n false false false false false e0 e1 e2 e3 e4 = grind (arith, nat_tests)

pub word_at-says : (z : Layout) (n : ℕ) → IsWordAt z n (word_at z n)
word_at-says z n = says z n (eqb n 0) (leb n z.passes) (ltb n (nodes_begin z)) (ltb n (entries_begin z)) (ltb n (word_count z)) refl refl refl refl refl

-- a word that was found by its number
pub word_there : (z : Layout) (n : ℕ) (w : Word) → word_at z n ≡ Some w → (is_there z w ≡ true) × (address z w ≡ n)
unfolding IsWordAt
word_there z n w found = subst (IsWordAt z n) found (word_at-says z n)

-- a store at the number of a word
pub stored_at : (z : Layout) (words : List ℕ) (n : ℕ) (w : Word) (x : ℕ) → length words ≡ word_count z → word_at z n ≡ Some w
    → memory z (set words n x) ≡ written (memory z words) w x
stored_at z words n w x long found =
    let there = word_there z n w found in
    subst (λ k. memory z (set words k x) ≡ written (memory z words) w x) there.1 (store z words w x long there.0)

-- a word of the table is found at its number
word_found : (z : Layout) (w : Word) (o : Option Word) → is_there z w ≡ true → IsWordAt z (address z w) o → o ≡ Some w
unfolding IsWordAt
word_found z w None there past = absurd (omega (arith, past, address-lt z w there))
word_found z w (Some v) there here = ap Some (address-apart z v w here.0 there here.1)

pub word_named : (z : Layout) (w : Word) → is_there z w ≡ true → word_at z (address z w) ≡ Some w
word_named z w there = word_found z w (word_at z (address z w)) there (word_at-says z (address z w))
