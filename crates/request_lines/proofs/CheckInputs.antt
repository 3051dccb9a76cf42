-- The lines of an input of `check`, one after another, up to the line `----`.
use Rattle.std.proofs.Common.{◌≡◌, if◌then◌else◌, ℕ, zero, suc, ◌+◌, ◌<◌, ◌≤◌, ◌==◌, Bool, true, false, Option, Some, None, Err, List, [], ◌∷◌, ◌++◌, length, take, drop, get_or, inl, inr, refl, sym, ap, subst, ◌∙◌, arith, append_assoc, append-nil}
use Rattle.std.specs.List.{concat, before_first, after_first, list_any, position_or_len}
use Rattle.std.specs.Option.{option_map}
use Rattle.std.specs.Borrow.{Bor}
use Rattle.std.proofs.Math.Seq.{take-add}
use Rattle.std.proofs.lemmas.Bool.{cases_Bool}
use Rattle.std.proofs.lemmas.List.{take_all, drop_all, drop-drop}
use Rattle.memchr.specs.Find.{IsFirstByte, is_byte}
use Rattle.line_grammar.specs.declared.cause.Cause.TheVariants.{NoText}
use Rattle.request_lines.specs.declared.session_error.SessionError.{SessionError}
use Rattle.request_lines.specs.declared.session_error.SessionError.TheVariants as errors
use Rattle.request_lines.specs.Input.{refusal_of}
use Rattle.request_lines.specs.Refusal.{IsRefused}
use Rattle.request_lines.specs.CheckInput.{text_lines, with_byte, is_divider, session_part, text_part, check_refusal}
use Rattle.request_lines.specs.CheckAnswers.{IsCheckRefused}

-- ---- the first line

-- the first line ends with the first line feed
cut_first : (text : List ℕ) (k : ℕ) → k < length text → ((j : ℕ) → j < k → (get_or text j 0 == 10) ≡ false) → (get_or text k 0 == 10) ≡ true
    → text_lines text ≡ take (suc k) text ∷ text_lines (drop (suc k) text)
cut_first [] k inside before here = absurd (omega arith)
cut_first (b ∷ text) zero inside before here = rw here refl
cut_first (b ∷ text) (suc k) inside before here =
    rw (before 0 (omega arith)) (ap (with_byte b) (cut_first text k (omega arith) (λ j less. before (suc j) (omega arith)) here))

-- a text without a line feed is one line
uncut : (text : List ℕ) → 0 < length text → ((j : ℕ) → j < length text → (get_or text j 0 == 10) ≡ false) → text_lines text ≡ text ∷ []
uncut [] some none = absurd (omega arith)
uncut (b ∷ []) some none = rw (none 0 (omega arith)) refl
uncut (b ∷ c ∷ text) some none =
    rw (none 0 (omega arith)) (ap (with_byte b) (uncut (c ∷ text) (omega arith) (λ j less. none (suc j) (omega arith))))

fails : (b : Bool) → ¬ (b ≡ true) → b ≡ false
fails true h = absurd (h refl)
fails false h = refl

-- where `memchr` finds a line feed, and where it finds none
pub found_line : (text : List ℕ) (end : ℕ) → IsFirstByte (is_byte 10) text (Some end) → text_lines text ≡ take (end + 1) text ∷ text_lines (drop (end + 1) text)
found_line text end h =
    let next : suc end ≡ end + 1 = omega arith in
    cut_first text end h.0.high (λ j less. fails _ (h.0.before j (omega arith) less)) h.1
    ∙ ap (λ (n : ℕ). take n text ∷ text_lines (drop n text)) next

pub whole_line : (text : List ℕ) → 0 < length text → IsFirstByte (is_byte 10) text None → text_lines text ≡ take (length text) text ∷ text_lines (drop (length text) text)
whole_line text some h =
    uncut text some (λ j inside. fails _ (h j (omega arith) inside))
    ∙ ap (λ (l : List ℕ). l ∷ []) (sym (take_all (length text) text (omega arith)))
    ∙ ap (λ (l : List ℕ). take (length text) text ∷ text_lines l) (sym (drop_all (length text) text (omega arith)))

-- the lines one after another are the text
joined_byte : (b : ℕ) (lines : List (List ℕ)) → concat (with_byte b lines) ≡ b ∷ concat lines
joined_byte b [] = refl
joined_byte b (line ∷ lines) = refl

joined : (text : List ℕ) → concat (text_lines text) ≡ text
joined [] = refl
joined (b ∷ text) =
    elim (cases_Bool (b == 10)) [
      | inl feed ↦ rw feed (ap (λ (l : List ℕ). b ∷ l) (joined text))
      | inr other ↦ rw other (joined_byte b (text_lines text) ∙ ap (λ (l : List ℕ). b ∷ l) (joined text))
    ]

-- ---- the search for the line `----`

-- the bytes of the lines before the first line `----`, or of all where there is none; and those of the lines after it
abbrev before_divider : List (List ℕ) → List ℕ
before_divider [] = []
before_divider (line ∷ lines) = if is_divider line then [] else line ++ before_divider lines

abbrev after_divider : List (List ℕ) → Option (List ℕ)
after_divider [] = None
after_divider (line ∷ lines) = if is_divider line then Some (concat lines) else after_divider lines

before_is : (lines : List (List ℕ)) → before_divider lines ≡ concat (before_first is_divider lines)
before_is [] = refl
before_is (line ∷ lines) = elim (cases_Bool (is_divider line)) [
  | inl is ↦ rw is refl
  | inr other ↦
      let next : 1 + position_or_len is_divider lines ≡ suc (position_or_len is_divider lines) = omega arith in
      rw other (ap (λ (l : List ℕ). line ++ l) (before_is lines) ∙ ap (λ (k : ℕ). concat (take k (line ∷ lines))) (sym next))
]

after_is : (lines : List (List ℕ)) → after_divider lines ≡ (if list_any is_divider lines then Some (concat (after_first is_divider lines)) else None)
after_is [] = refl
after_is (line ∷ lines) = elim (cases_Bool (is_divider line)) [
  | inl is ↦ rw is refl
  | inr other ↦
      let next : 1 + position_or_len is_divider lines + 1 ≡ suc (position_or_len is_divider lines + 1) = omega arith in
      rw other (after_is lines ∙ ap (λ (k : ℕ). if list_any is_divider lines then Some (concat (drop k (line ∷ lines))) else None) (sym next))
]

-- none of the lines in the first bytes is `----`
pub record HasNoneBefore (bytes : List ℕ) (at : ℕ) : Type 0 where
  pub inside : at ≤ length bytes
  pub session : take at bytes ++ before_divider (text_lines (drop at bytes)) ≡ session_part bytes
  pub text : after_divider (text_lines (drop at bytes)) ≡ text_part bytes

pub none_yet : (bytes : List ℕ) → HasNoneBefore bytes 0
unfolding session_part text_part
none_yet bytes = record { inside = omega arith; session = before_is (text_lines bytes); text = after_is (text_lines bytes) }

-- the next line has so many bytes
pub record IsNextLine (left line : List ℕ) (n : ℕ) : Type 0 where
  pub line_is : line ≡ take n left
  pub lines : text_lines left ≡ take n left ∷ text_lines (drop n left)

pub next_line : (left line expected : List ℕ) (n : ℕ) → left ≡ expected → line ≡ take n left → text_lines left ≡ take n left ∷ text_lines (drop n left) → IsNextLine expected line n
next_line left line expected n is line_is lines = subst (λ (l : List ℕ). IsNextLine l line n) is (record { line_is = line_is; lines = lines })

by_next : (left line : List ℕ) (n : ℕ) → IsNextLine left line n → text_lines left ≡ line ∷ text_lines (drop n left)
by_next left line n next = next.lines ∙ ap (λ (l : List ℕ). l ∷ text_lines (drop n left)) (sym next.line_is)

pub not_here : (bytes line : List ℕ) (at n : ℕ) → HasNoneBefore bytes at → IsNextLine (drop at bytes) line n → at + n ≤ length bytes → is_divider line ≡ false
    → HasNoneBefore bytes (at + n)
not_here bytes line at n none next within other =
    let left = drop at bytes in
    let rest = drop n left in
    let lines : text_lines left ≡ line ∷ text_lines rest = by_next left line n next in
    let behind : rest ≡ drop (at + n) bytes = drop-drop n at bytes in
    let before : before_divider (text_lines left) ≡ line ++ before_divider (text_lines rest) = ap before_divider lines ∙ rw other refl in
    let text : after_divider (text_lines left) ≡ after_divider (text_lines rest) = ap after_divider lines ∙ rw other refl in
    record {
      inside = within;
      session =
          ap (λ (l : List ℕ). take (at + n) bytes ++ before_divider (text_lines l)) (sym behind)
          ∙ ap (λ (l : List ℕ). l ++ before_divider (text_lines rest)) (take-add at n bytes ∙ ap (λ (l : List ℕ). take at bytes ++ l) (sym next.line_is))
          ∙ append_assoc (take at bytes) line (before_divider (text_lines rest))
          ∙ ap (λ (l : List ℕ). take at bytes ++ l) (sym before)
          ∙ none.session;
      text = ap (λ (l : List ℕ). after_divider (text_lines l)) (sym behind) ∙ sym text ∙ none.text;
    }

pub here_session : (bytes line : List ℕ) (at n : ℕ) → HasNoneBefore bytes at → IsNextLine (drop at bytes) line n → is_divider line ≡ true → take at bytes ≡ session_part bytes
here_session bytes line at n none next is =
    let left = drop at bytes in
    let before : before_divider (text_lines left) ≡ [] = ap before_divider (by_next left line n next) ∙ rw is refl in
    sym (append-nil (take at bytes)) ∙ ap (λ (l : List ℕ). take at bytes ++ l) (sym before) ∙ none.session

pub here_text : (bytes line : List ℕ) (at n : ℕ) → HasNoneBefore bytes at → IsNextLine (drop at bytes) line n → is_divider line ≡ true → Some (drop n (drop at bytes)) ≡ text_part bytes
here_text bytes line at n none next is =
    let left = drop at bytes in
    let behind : after_divider (text_lines left) ≡ Some (concat (text_lines (drop n left))) = ap after_divider (by_next left line n next) ∙ rw is refl in
    ap Some (sym (joined (drop n left))) ∙ sym behind ∙ none.text

pub nowhere_session : (bytes : List ℕ) (at : ℕ) → HasNoneBefore bytes at → length bytes ≤ at → bytes ≡ session_part bytes
nowhere_session bytes at none all =
    sym (take_all at bytes all)
    ∙ sym (append-nil (take at bytes))
    ∙ ap (λ (l : List ℕ). take at bytes ++ before_divider (text_lines l)) (sym (drop_all at bytes all))
    ∙ none.session

pub nowhere_text : (bytes : List ℕ) (at : ℕ) → HasNoneBefore bytes at → length bytes ≤ at → None ≡ text_part bytes
nowhere_text bytes at none all = ap (λ (l : List ℕ). after_divider (text_lines l)) (sym (drop_all at bytes all)) ∙ none.text

-- ---- the refusal

module _ (bytes part : List ℕ) (found : Option (Bor (List ℕ))) (part_is : part ≡ session_part bytes) (found_is : option_map (λ (t : Bor (List ℕ)). t.now) found ≡ text_part bytes) where
  pub accepted : (text : Bor (List ℕ)) → found ≡ Some text → refusal_of part ≡ None → check_refusal bytes ≡ None
  unfolding check_refusal
  accepted text is fine =
      let refusal : refusal_of (session_part bytes) ≡ None = ap refusal_of (sym part_is) ∙ fine in
      let behind : text_part bytes ≡ Some text.now = sym found_is ∙ ap (option_map (λ (t : Bor (List ℕ)). t.now)) is in
      rw (refusal, behind) refl

  pub lacks_text : found ≡ None → refusal_of part ≡ None → check_refusal bytes ≡ Some (record { line = length (text_lines bytes) + 1; cause = NoText })
  unfolding check_refusal
  lacks_text is fine =
      let refusal : refusal_of (session_part bytes) ≡ None = ap refusal_of (sym part_is) ∙ fine in
      let behind : text_part bytes ≡ None = sym found_is ∙ ap (option_map (λ (t : Bor (List ℕ)). t.now)) is in
      rw (refusal, behind) refl

  pub refused : (e : SessionError) → IsRefused part (Err e) → IsCheckRefused bytes (Err e)
  unfolding check_refusal
  refused errors.NoMemory is = tt
  refused (errors.Input e) is =
      let refusal : refusal_of (session_part bytes) ≡ Some e = ap refusal_of (sym part_is) ∙ is in
      rw refusal refl
