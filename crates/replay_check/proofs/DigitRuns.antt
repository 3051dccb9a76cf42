-- Where the digits of a line stand.
use Rattle.std.proofs.Common.{◌≡◌, ℕ, zero, suc, ◌+◌, ◌-◌, ◌^◌, ◌<◌, Bool, true, false, not, List, [], ◌∷◌, ◌++◌, Option, Some, None, IfSome, length, take, drop, get_or, codes, decimal, append_assoc, inl, inr, refl, sym, ap, ◌∙◌, subst, arith}
use Rattle.std.specs.Char.{is_ascii_digit}
use Rattle.std.proofs.lemmas.Bool.{false≢true, cases_lt}
use Rattle.std.proofs.lemmas.List.{take_at, drop_at, get_or_append_left, get_or-append_right, length-append, length_push}
use Rattle.std.proofs.lemmas.Fmt.{decimal_is_IsNumeral}
use Rattle.key_map.specs.declared.update.Change.{Change}
use Rattle.key_map.specs.declared.update.Change.TheVariants.{Put as PutVal, Remove}
use Rattle.answer_text.specs.Pieces.{place_text, verb_end_text}
use Rattle.text_laws.proofs.Runs.{Each, digits_of}
use Rattle.replay_check.specs.Digits.{IsFrontRun, IsLastEnd, IsLastStart, byte_at, start_of_journal}

clash : {P : Type 0} (b : Bool) → b ≡ true → b ≡ false → P
clash b passes fails = absurd (false≢true (sym fails ∙ passes))

-- ---- at the front

front_is : (ds : List ℕ) (b : ℕ) (rest : List ℕ) (len : ℕ) → Each is_ascii_digit ds → is_ascii_digit b ≡ false → IsFrontRun (ds ++ b ∷ rest) len → len ≡ length ds
front_is [] b rest zero digits other run = refl
front_is [] b rest (suc len) digits other run = clash (is_ascii_digit b) (run.digits 0 (omega arith)) other
front_is (d ∷ ds) b rest zero digits other run = clash (is_ascii_digit d) digits.0 (run.ends (omega arith))
front_is (d ∷ ds) b rest (suc len) digits other run =
    let within = run.within in
    ap suc (front_is ds b rest len digits.1 other (record {
      within = omega arith;
      digits = λ i less. run.digits (suc i) (omega arith);
      ends = λ inside. run.ends (omega arith);
    }))

pub front_len : (text ds : List ℕ) (b : ℕ) (rest : List ℕ) (len : ℕ) → Each is_ascii_digit ds → is_ascii_digit b ≡ false → text ≡ ds ++ b ∷ rest → IsFrontRun text len → len ≡ length ds
front_len text ds b rest len digits other is run = front_is ds b rest len digits other (subst (λ (t : List ℕ). IsFrontRun t len) is run)

pub front_taken : (text ds : List ℕ) (b : ℕ) (rest : List ℕ) (len : ℕ) → Each is_ascii_digit ds → is_ascii_digit b ≡ false → text ≡ ds ++ b ∷ rest → IsFrontRun text len → take len text ≡ ds
front_taken text ds b rest len digits other is run =
    ap (take len) is ∙ take_at ds (b ∷ rest) len (sym (front_len text ds b rest len digits other is run))

pub front_dropped : (text ds : List ℕ) (b : ℕ) (rest : List ℕ) (len : ℕ) → Each is_ascii_digit ds → is_ascii_digit b ≡ false → text ≡ ds ++ b ∷ rest → IsFrontRun text len → drop len text ≡ b ∷ rest
front_dropped text ds b rest len digits other is run =
    ap (drop len) is ∙ drop_at ds (b ∷ rest) len (sym (front_len text ds b rest len digits other is run))

-- ---- at the end

each_at : (test : ℕ → Bool) (xs : List ℕ) (i : ℕ) → Each test xs → i < length xs → test (get_or xs i 0) ≡ true
each_at test [] i each inside = absurd (omega arith)
each_at test (x ∷ xs) zero each inside = each.0
each_at test (x ∷ xs) (suc i) each inside = each_at test xs i each.1 (omega arith)

abbrev pub no_digit : ℕ → Bool
no_digit b = not (is_ascii_digit b)

each_not : (xs : List ℕ) (i : ℕ) → Each no_digit xs → i < length xs → is_ascii_digit (get_or xs i 0) ≡ false
each_not xs i each inside = by_test (is_ascii_digit (get_or xs i 0)) (each_at no_digit xs i each inside)
  where
    by_test : (b : Bool) → not b ≡ true → b ≡ false
    by_test true h = sym h
    by_test false h = refl

-- after a front that ends with a digit stand other bytes
pub end_is : (front tail : List ℕ) (end : ℕ) → Each no_digit tail → 0 < length front → is_ascii_digit (get_or front (length front - 1) 0) ≡ true → IsLastEnd (front ++ tail) end → end ≡ length front
end_is front tail end others some digit last =
    let long = length-append front tail in
    let within = last.within in
    elim (cases_lt end (length front)) [
      | inl less ↦
          let here : is_ascii_digit (byte_at (front ++ tail) (length front - 1)) ≡ false = last.others (length front - 1) (omega arith) (omega arith) in
          clash (is_ascii_digit (get_or front (length front - 1) 0)) digit
          (ap is_ascii_digit (sym (get_or_append_left front tail 0 (length front - 1) (omega arith))) ∙ here)
      | inr most ↦
          elim (cases_lt (length front) end) [
            | inl more ↦
                let place = end - 1 - length front in
                let here : is_ascii_digit (byte_at (front ++ tail) (end - 1)) ≡ true = last.last (omega arith) in
                clash (is_ascii_digit (get_or tail place 0))
                (ap is_ascii_digit (sym (get_or-append_right front tail (length front) (end - 1) 0 refl (omega arith))) ∙ here)
                (each_not tail place others (omega arith))
            | inr least ↦ omega arith
          ]
    ]

-- digits at the end, after another byte
pub start_is : (front : List ℕ) (b : ℕ) (ds : List ℕ) (start : ℕ) → Each is_ascii_digit ds → is_ascii_digit b ≡ false → IsLastStart (front ++ b ∷ ds) start → start ≡ length front + 1
start_is front b ds start digits other last =
    let long = length-append front (b ∷ ds) in
    let within = last.within in
    elim (cases_lt start (length front + 1)) [
      | inl less ↦
          let here : is_ascii_digit (byte_at (front ++ b ∷ ds) (length front)) ≡ true = last.digits (length front) (omega arith) (omega arith) in
          let at : byte_at (front ++ b ∷ ds) (length front) ≡ get_or (b ∷ ds) (length front - length front) 0 = get_or-append_right front (b ∷ ds) (length front) (length front) 0 refl (omega arith) in
          let zero_is : length front - length front ≡ 0 = omega arith in
          clash (is_ascii_digit b)
          (ap is_ascii_digit (sym (at ∙ ap (λ (n : ℕ). get_or (b ∷ ds) n 0) zero_is)) ∙ here) other
      | inr most ↦
          elim (cases_lt (length front + 1) start) [
            | inl more ↦
                let place = start - 2 - length front in
                let here : is_ascii_digit (byte_at (front ++ b ∷ ds) (start - 1)) ≡ false = last.before (omega arith) in
                let index : start - 1 - length front ≡ suc place = omega arith in
                clash (is_ascii_digit (get_or ds place 0)) (each_at is_ascii_digit ds place digits (omega arith))
                (ap is_ascii_digit (sym (get_or-append_right front (b ∷ ds) (length front) (start - 1) 0 refl (omega arith) ∙ ap (λ (n : ℕ). get_or (b ∷ ds) n 0) index)) ∙ here)
            | inr least ↦ omega arith
          ]
    ]

-- ---- a reply line

pub place_told : (at : Option ℕ) (rest line behind : List ℕ) (result : Option ℕ) → IfSome at (λ n. n < 2 ^ 64) → line ≡ place_text at ++ 44 ∷ rest → behind ≡ drop 6 line
    → ((n b : ℕ) (more : List ℕ) → n < 2 ^ 64 → is_ascii_digit b ≡ false → behind ≡ decimal n ++ b ∷ more → result ≡ Some n)
    → ((b : ℕ) (more : List ℕ) → is_ascii_digit b ≡ false → behind ≡ b ∷ more → result ≡ None)
    → result ≡ at
place_told (Some n) rest line behind result small is dropped number none = number n 44 rest small refl (dropped ∙ ap (drop 6) is)
place_told None rest line behind result small is dropped number none = none 110 (codes "ull" ++ 44 ∷ rest) refl (dropped ∙ ap (drop 6) is)

-- ---- a journal line

last_digit : (front : List ℕ) (b : ℕ) (n : ℕ) → n < 2 ^ 64 → is_ascii_digit (get_or (front ++ b ∷ decimal n) (length (front ++ b ∷ decimal n) - 1) 0) ≡ true
last_digit front b n small =
    let some : 0 < length (decimal n) = (decimal_is_IsNumeral n small).0.0 in
    let long = length-append front (b ∷ decimal n) in
    let place = length (decimal n) - 1 in
    let index : length (front ++ b ∷ decimal n) - 1 - length front ≡ suc place = omega arith in
    ap is_ascii_digit (get_or-append_right front (b ∷ decimal n) (length front) (length (front ++ b ∷ decimal n) - 1) 0 refl (omega arith) ∙ ap (λ (i : ℕ). get_or (b ∷ decimal n) i 0) index)
    ∙ each_at is_ascii_digit (decimal n) place (digits_of n small) (omega arith)

verb_end : (change : Change) → Each no_digit (verb_end_text change)
verb_end (PutVal val) = (refl, (refl, (refl, (refl, (refl, (refl, (refl, (refl, (refl, (refl, (refl, (refl, (refl, (refl, (refl, tt)))))))))))))))
verb_end Remove = (refl, (refl, (refl, (refl, (refl, (refl, (refl, (refl, (refl, (refl, (refl, (refl, (refl, (refl, (refl, (refl, (refl, (refl, tt))))))))))))))))))

pub line_told : (front : List ℕ) (n : ℕ) (change : Change) (line cut : List ℕ) (end start : ℕ) → n < 2 ^ 64 → line ≡ front ++ 58 ∷ (decimal n ++ verb_end_text change)
    → IsLastEnd line end → cut ≡ take end line → IsLastStart cut start → drop start cut ≡ decimal n
line_told front n change line cut end start small is last cut_is begins =
    let whole : List ℕ = front ++ 58 ∷ decimal n in
    let tail = verb_end_text change in
    let parts : line ≡ whole ++ tail = is ∙ sym (append_assoc front (58 ∷ decimal n) tail) in
    let long = length-append front (58 ∷ decimal n) in
    let at : end ≡ length whole = end_is whole tail end (verb_end change) (omega arith) (last_digit front 58 n small) (subst (λ (l : List ℕ). IsLastEnd l end) parts last) in
    let is_whole : cut ≡ whole = cut_is ∙ ap (take end) parts ∙ take_at whole tail end (sym at) in
    let from : start ≡ length front + 1 = start_is front 58 (decimal n) start (digits_of n small) refl (subst (λ (l : List ℕ). IsLastStart l start) is_whole begins) in
    let behind : front ++ 58 ∷ decimal n ≡ (front ++ 58 ∷ []) ++ decimal n = sym (append_assoc front (58 ∷ []) (decimal n)) in
    ap (drop start) (is_whole ∙ behind) ∙ drop_at (front ++ 58 ∷ []) (decimal n) start (omega (arith, length_push front 58))

pub client_told : (at client : ℕ) (rest line first second third : List ℕ) (len : ℕ) (result : Option ℕ) → at < 2 ^ 64 → client < 2 ^ 64
    → line ≡ start_of_journal at client (44 ∷ rest) → first ≡ drop 6 line → IsFrontRun first len → second ≡ drop len first → third ≡ drop 10 second
    → ((n b : ℕ) (more : List ℕ) → n < 2 ^ 64 → is_ascii_digit b ≡ false → third ≡ decimal n ++ b ∷ more → result ≡ Some n)
    → result ≡ Some client
client_told at client rest line first second third len result small_at small_client is is_first run is_second is_third number =
    let label : List ℕ = codes "\"Client\":" ++ (decimal client ++ 44 ∷ rest) in
    let front : first ≡ decimal at ++ 44 ∷ label = is_first ∙ ap (drop 6) is in
    let behind : second ≡ 44 ∷ label = is_second ∙ front_dropped first (decimal at) 44 label len (digits_of at small_at) refl front run in
    number client 44 rest small_client refl (is_third ∙ ap (drop 10) behind)
