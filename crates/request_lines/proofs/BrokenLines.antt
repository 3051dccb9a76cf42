-- In bytes that are not UTF-8, the line with the first byte that is none is not UTF-8 either.
use Rattle.std.proofs.Common.{◌≡◌, ℕ, zero, suc, ◌+◌, ◌-◌, ◌<◌, ◌≤◌, ◌==◌, false, not, List, [], ◌∷◌, ◌++◌, length, take, drop, map, get_or, Option, Some, None, Err, IfSome, refl, sym, ap, subst, ◌∙◌, inl, inr, arith, length-take, length-drop, take-add}
use Rattle.std.specs.{Borrow.Bor, List.position_or_len, List.slice_split, Option.option_map, Str.IsAscii, Str.IsUtf8, Str.IsValidUpTo, Str.Lines.strip_carriage_return}
use Rattle.std.proofs.lemmas.Bool.{cases_Bool, cases_lt}
use Rattle.std.proofs.lemmas.Bool.Decides.{nat_tests}
use Rattle.std.proofs.lemmas.List.{take-take, take_all, take_more, get_or-take, get_or-drop}
use Rattle.std.proofs.lemmas.List.Splits.{slice_split_first}
use Rattle.std.proofs.lemmas.List.Sums.{passes_at_first, prefix_len-le-length}
use Rattle.std.proofs.lemmas.Str.{IsUtf8-append, IsUtf8-from_ascii, IsUtf8-nil, IsUtf8-take, IsCharBoundary-before_ascii}
use Rattle.memchr.specs.Find.{IsLastByte, Nowhere, Passes, is_byte}
use Rattle.line_grammar.specs.declared.cause.Cause.TheVariants.{NotUtf8}
use Rattle.line_grammar.specs.Line.{reading_of}
use Rattle.line_grammar.proofs.TextLaws.{not_cut, is_utf8-none}
use Rattle.request_lines.specs.InputParts.{texts_of}
use Rattle.request_lines.specs.Said.{said_of, StopsAt, AreFirst}
use Rattle.request_lines.proofs.BlockLaws.{texts_cut_at}

-- where the first line ends, and the line
abbrev end_of : List ℕ → ℕ
end_of bytes = position_or_len (λ b. b == 10) bytes

abbrev line_of : List ℕ → List ℕ
line_of bytes = take (end_of bytes) bytes

-- one more byte of ASCII
utf8_more : (bytes : List ℕ) (i : ℕ) → i < length bytes → get_or bytes i 0 < 128 → IsUtf8 (take i bytes) → IsUtf8 (take (i + 1) bytes)
utf8_more bytes i inside small utf8 =
    subst IsUtf8 (sym (take_more bytes i 0 inside)) (IsUtf8-append (take i bytes) (get_or bytes i 0 ∷ []) utf8 (IsUtf8-from_ascii (get_or bytes i 0 ∷ []) (alone (get_or bytes i 0) small)))
  where
    alone : (byte : ℕ) → byte < 128 → IsAscii (byte ∷ [])
    alone byte small zero = small
    alone byte small (suc i) = omega arith

-- a text before one of its line feeds
pub utf8_before : (text : List ℕ) (end : ℕ) → IsUtf8 text → IsLastByte (is_byte 10) text (Some end) → IsUtf8 (take end text)
utf8_before text end utf8 last =
    let is = last.1 in IsUtf8-take text end utf8 (IsCharBoundary-before_ascii text end last.0.high (grind (arith, nat_tests)))

-- a line is UTF-8 where it is without its carriage return
with_return : (line : List ℕ) → IsUtf8 (strip_carriage_return line) → IsUtf8 line
with_return [] utf8 = utf8
with_return (b ∷ line) utf8 =
    let last = length (b ∷ line) - 1 in
    elim (cases_Bool (get_or (b ∷ line) last 0 == 13)) [
      | inl is ↦
          let front : IsUtf8 (take last (b ∷ line)) = rw is at utf8 in
          subst IsUtf8 (take_all (last + 1) (b ∷ line) (omega arith)) (utf8_more (b ∷ line) last (omega arith) (grind (arith, nat_tests)) front)
      | inr other ↦ rw other at utf8
    ]

said_broken : (line : List ℕ) → ¬ (IsUtf8 line) → said_of line ≡ Some (Err NotUtf8)
unfolding said_of reading_of
said_broken [] none = absurd (none IsUtf8-nil)
said_broken (b ∷ line) none =
    let full : (length (b ∷ line) == 0) ≡ false = grind (arith, nat_tests) in
    rw (full, is_utf8-none (b ∷ line) none) refl

first_of : (bytes : List ℕ) → (more : List (List ℕ)) × (slice_split (λ b. b == 10) bytes ≡ line_of bytes ∷ more)
first_of bytes =
    elim (cases_lt (end_of bytes) (length bytes)) [
      | inl inside ↦ (slice_split (λ b. b == 10) (drop (end_of bytes + 1) bytes), slice_split_first (λ b. b == 10) bytes 0 inside)
      | inr all ↦ ([], not_cut (λ b. b == 10) bytes (omega (arith, all, prefix_len-le-length (λ b. not (b == 10)) bytes)) ∙ ap (λ line. line ∷ []) (sym (take_all (end_of bytes) bytes all)))
    ]

stops_broken : (bytes : List ℕ) → ¬ (IsUtf8 (line_of bytes)) → StopsAt (texts_of bytes) (Some NotUtf8)
stops_broken bytes broken =
    subst (λ (lines : List (List ℕ)). StopsAt (map strip_carriage_return lines) (Some NotUtf8)) (sym (first_of bytes).1)
    (said_broken (strip_carriage_return (line_of bytes)) (λ utf8. broken (with_return (line_of bytes) utf8)))

-- bytes of which so many are UTF-8, and no more
module _ (bytes : List ℕ) (len : ℕ) (valid : IsValidUpTo bytes len) where
  -- the line that begins after the last line feed of these is not UTF-8
  broken_from : (start : ℕ) → start ≤ len → IsUtf8 (take start bytes) → Nowhere (Passes (is_byte 10) (take len bytes)) start (length (take len bytes)) → ¬ (IsUtf8 (line_of (drop start bytes)))
  broken_from start before utf8 none line =
      let end = end_of (drop start bytes) in
      let short = valid.short in
      let size = length-drop start bytes in
      let whole : IsUtf8 (take (start + end) bytes) = subst IsUtf8 (sym (take-add start end bytes)) (IsUtf8-append (take start bytes) (line_of (drop start bytes)) utf8 line) in
      elim (cases_lt end (length (drop start bytes))) [
        | inl inside ↦
            let passes = passes_at_first (λ b. b == 10) (drop start bytes) 0 inside in
            let feed : get_or bytes (start + end) 0 ≡ 10 = let is = get_or-drop start bytes end 0 in grind (arith, nat_tests) in
            elim (cases_lt len (start + end + 1)) [
              | inl longer ↦ valid.longest (start + end + 1) longer (utf8_more bytes (start + end) (omega (arith, inside, size)) (omega (arith, feed)) whole)
              | inr within ↦
                  let same = get_or-take len bytes (start + end) 0 (omega (arith, within)) in
                  none (start + end) (omega arith) (omega (arith, within, short, length-take len bytes)) (grind (arith, nat_tests))
            ]
        | inr all ↦ valid.longest (start + end) (omega (arith, all, size, short)) whole
      ]

  -- the lines before that line feed are UTF-8, and the next one is not
  pub first_lines : (lines : Option (Bor (List ℕ))) → IsLastByte (is_byte 10) (take len bytes) (option_map (λ (l : Bor (List ℕ)). length l.now) lines)
      → IfSome lines (λ (l : Bor (List ℕ)). l.now ≡ take (length l.now) (take len bytes)) → AreFirst lines (texts_of bytes) (Some NotUtf8)
  first_lines None last front = record { after = texts_of bytes; all = refl; stops = stops_broken bytes (broken_from 0 (omega arith) IsUtf8-nil last) }
  first_lines (Some l) last front =
      let end = length l.now in
      let short = valid.short in
      let inside : end < len = omega (arith, last.0.high, length-take len bytes) in
      let feed : get_or bytes end 0 ≡ 10 =
      let same = get_or-take len bytes end 0 inside in
      let is = last.1 in grind (arith, nat_tests) in
      let same : l.now ≡ take end bytes = front ∙ take-take end len bytes (omega (arith, inside)) in
      let before : IsUtf8 (take end bytes) = subst IsUtf8 (take-take end len bytes (omega (arith, inside))) (utf8_before (take len bytes) end valid.front last) in
      record {
        after = texts_of (drop (end + 1) bytes);
        all = texts_cut_at bytes end (omega (arith, inside, short)) feed ∙ ap (λ (front : List ℕ). texts_of front ++ texts_of (drop (end + 1) bytes)) (sym same);
        stops = stops_broken (drop (end + 1) bytes) (broken_from (end + 1) (omega (arith, inside)) (utf8_more bytes end (omega (arith, inside, short)) (omega (arith, feed)) before) last.0.after);
      }
