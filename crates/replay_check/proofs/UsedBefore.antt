-- How many updates a client's earlier lines have, from one line to the next.
use Rattle.std.proofs.Common.{◌≡◌, ℕ, zero, suc, ◌+◌, ◌<◌, ◌≤◌, ◌⊎◌, Bool, true, false, cond, ◌==◌, ◌&&◌, nat_lt, Any, List, [], ◌∷◌, get_or, Option, Some, None, is_some, inl, inr, refl, sym, ap, ◌∙◌, subst, arith}
use Rattle.std.specs.List.{count_by, slice_get}
use Rattle.std.proofs.lemmas.Bool.{cases_Bool, cases_eq, cases_lt}
use Rattle.std.proofs.lemmas.Bool.Decides.{nat_tests}
use Rattle.std.proofs.lemmas.Option.{same_Some, none-some, slice_get_within, slice_get-get_or, get_or_from_slice_get}
use Rattle.std.proofs.lemmas.List.Sums.{sum_by-cons}
use Rattle.key_map.specs.declared.update.Update.{Update}
use Rattle.bucket_terms.specs.LegalRun.{RequestLine, IsOf, lines_of}
use Rattle.request_lines.specs.SessionLaws.{Rise}
use Rattle.text_laws.specs.WrongLine.{Checked}
use Rattle.text_laws.specs.WrongParts.{Makes}
use Rattle.replay_check.specs.Turns.{IsOwnPlace, used_before}
use Rattle.replay_check.specs.Own.{history_of}
use Rattle.replay_check.specs.Looking.{AreMade}

-- ---- counts

abbrev pub mark : Bool → ℕ
mark b = cond b 1 0

module _ (P : Update → Bool) where
  pub count_cons : (u : Update) (us : List Update) → count_by P (u ∷ us) ≡ mark (P u) + count_by P us
  count_cons u us = sum_by-cons (λ (v : Update). mark (P v)) u us

  pub count_none : (us : List Update) → ((i : ℕ) (u : Update) → slice_get us i ≡ Some u → P u ≡ false) → count_by P us ≡ 0
  count_none [] none = refl
  count_none (u ∷ us) none =
      let rest = count_none us (λ i v here. none (suc i) v here) in
      let here : mark (P u) ≡ 0 = ap mark (none 0 u refl) in
      let whole = count_cons u us in
      omega (arith, rest, here, whole)

  -- one passes, and no other
  pub count_one : (us : List Update) (i : ℕ) (u : Update) → slice_get us i ≡ Some u → P u ≡ true
      → ((j : ℕ) (v : Update) → slice_get us j ≡ Some v → P v ≡ true → i ≡ j) → count_by P us ≡ 1
  count_one [] i u here passes one = absurd (none-some u here)
  count_one (w ∷ us) zero u here passes one =
      let first : mark (P w) ≡ 1 = ap mark (ap P (same_Some w u here) ∙ passes) in
      let rest = count_none us (λ j v there.
      elim (cases_Bool (P v)) [
        | inl passing ↦ let same : zero ≡ suc j = one (suc j) v there passing in absurd (omega arith)
        | inr fails ↦ fails
      ]) in
      let whole = count_cons w us in
      omega (arith, rest, first, whole)
  count_one (w ∷ us) (suc i) u here passes one =
      let first : P w ≡ false =
      elim (cases_Bool (P w)) [
        | inl passing ↦ let same : suc i ≡ zero = one zero w refl passing in absurd (omega arith)
        | inr fails ↦ fails
      ] in
      let none : mark (P w) ≡ 0 = ap mark first in
      let rest = count_one us i u here passes (λ j v there passing. let same : suc i ≡ suc j = one (suc j) v there passing in omega arith) in
      let whole = count_cons w us in
      omega (arith, rest, none, whole)

pub counts_add : (P Q R : Update → Bool) (us : List Update) → ((i : ℕ) (u : Update) → slice_get us i ≡ Some u → mark (P u) ≡ mark (Q u) + mark (R u))
    → count_by P us ≡ count_by Q us + count_by R us
counts_add P Q R [] each = refl
counts_add P Q R (u ∷ us) each =
    let rest = counts_add P Q R us (λ i v here. each (suc i) v here) in
    let here : mark (P u) ≡ mark (Q u) + mark (R u) = each 0 u refl in
    let p = count_cons P u us in
    let q = count_cons Q u us in
    let r = count_cons R u us in
    omega (arith, rest, here, p, q, r)

-- ---- the lines of one client

pub rises_at : (lines : List RequestLine) (i j : ℕ) (l m : RequestLine) → Rise lines → slice_get lines i ≡ Some l → slice_get lines j ≡ Some m → i < j → l.line < m.line
rises_at lines i j l m rising here there less =
    let rises : (get_or lines i l).line < (get_or lines j l).line = rising i j l less (slice_get_within lines j m there) in
    let first : (get_or lines i l).line ≡ l.line = ap (λ (x : RequestLine). x.line) (get_or_from_slice_get lines i l l here) in
    let second : (get_or lines j l).line ≡ m.line = ap (λ (x : RequestLine). x.line) (get_or_from_slice_get lines j m l there) in
    omega arith

pub same_place : (lines : List RequestLine) (i j : ℕ) (l m : RequestLine) → Rise lines → slice_get lines i ≡ Some l → slice_get lines j ≡ Some m → l.line ≡ m.line → i ≡ j
same_place lines i j l m rising here there same =
    elim (cases_lt i j) [
      | inl less ↦ let rises = rises_at lines i j l m rising here there less in absurd (omega arith)
      | inr most ↦
          elim (cases_lt j i) [
            | inl more ↦ let rises = rises_at lines j i m l rising there here more in absurd (omega arith)
            | inr least ↦ omega arith
          ]
    ]

-- the request line of an update
pub line_of_update : (dir : List (List ℕ)) (u : Update) (lines : List RequestLine) → Any (Makes dir u) lines
    → (k : ℕ) × ((l : RequestLine) × ((slice_get lines k ≡ Some l) × Makes dir u l))
line_of_update dir u lines made =
    (made.0, (made.1, (slice_get-get_or lines made.0 made.1 made.2 ∙ ap (λ (m : RequestLine). Some m) made.3, made.4)))

abbrev before : ℕ → ℕ → Update → Bool
before client line u = (u.client == client) && nat_lt u.line line

abbrev of_line : ℕ → ℕ → Update → Bool
of_line client line u = (u.client == client) && (u.line == line)

splits : (by client line less more : ℕ) → less < more → (by ≡ client → (line < less) ⊎ ((line ≡ less) ⊎ (more ≤ line)))
    → mark ((by == client) && nat_lt line more) ≡ mark ((by == client) && nat_lt line less) + mark ((by == client) && (line == less))
splits by client line less more rises where_is =
    elim (cases_eq by client) [
      | inl same ↦
          elim (where_is same) [
            | inl below ↦ grind (arith, nat_tests)
            | inr not_below ↦
                elim not_below [
                  | inl equal ↦ grind (arith, nat_tests)
                  | inr above ↦ grind (arith, nat_tests)
                ]
          ]
      | inr other ↦ grind (arith, nat_tests)
    ]

not_before : (by client line first : ℕ) → (by ≡ client → first ≤ line) → ((by == client) && nat_lt line first) ≡ false
not_before by client line first above =
    elim (cases_eq by client) [
      | inl same ↦ let most : first ≤ line = above same in grind (arith, nat_tests)
      | inr other ↦ grind (arith, nat_tests)
    ]

is_true : (by client line number : ℕ) → by ≡ client → line ≡ number → ((by == client) && (line == number)) ≡ true
is_true by client line number same equal = grind (arith, nat_tests)

parts_of : (by client line number : ℕ) → ((by == client) && (line == number)) ≡ true → (by ≡ client) × (line ≡ number)
parts_of by client line number passing = (grind (arith, nat_tests), grind (arith, nat_tests))

not_true : (b : Bool) → ¬ (b ≡ true) → b ≡ false
not_true true fails = absurd (fails refl)
not_true false fails = refl

module _ (c : Checked) (updates : List Update) (made : AreMade c updates) (number : ℕ) (rising : Rise (lines_of c.parts number)) where
  -- the line of an update of this client
  own_line : (i : ℕ) (u : Update) → slice_get updates i ≡ Some u → u.client ≡ number
      → (k : ℕ) × ((l : RequestLine) × ((slice_get (lines_of c.parts number) k ≡ Some l) × Makes c.dir u l))
  own_line i u here by =
      line_of_update c.dir u (lines_of c.parts number) (subst (λ (n : ℕ). Any (Makes c.dir u) (lines_of c.parts n)) by (made.made i u here).1)

  -- no line is before the first
  pub used_first : (asked : RequestLine) → slice_get (lines_of c.parts number) 0 ≡ Some asked → used_before updates number asked ≡ 0
  used_first asked first =
      count_none (before number asked.line) updates (λ i u here. not_before u.client number u.line asked.line (λ by.
      let own = own_line i u here by in
      let k = own.0 in
      let l = own.1.0 in
      let line : l.line ≡ u.line = own.1.1.1.0 in
      elim (cases_lt 0 k) [
        | inl later ↦ let rises = rises_at (lines_of c.parts number) 0 k asked l rising first own.1.1.0 later in omega arith
        | inr least ↦
            let at : k ≡ 0 = omega arith in
            let same : l ≡ asked = same_Some l asked (sym own.1.1.0 ∙ ap (slice_get (lines_of c.parts number)) at ∙ first) in
            let equal : l.line ≡ asked.line = ap (λ (x : RequestLine). x.line) same in
            omega arith
      ]))

  module _ (n : ℕ) (asked next : RequestLine) (here : slice_get (lines_of c.parts number) n ≡ Some asked) (there : slice_get (lines_of c.parts number) (suc n) ≡ Some next) where
    between : (i : ℕ) (u : Update) → slice_get updates i ≡ Some u → u.client ≡ number → (u.line < asked.line) ⊎ ((u.line ≡ asked.line) ⊎ (next.line ≤ u.line))
    between i u at by =
        let lines = lines_of c.parts number in
        let own = own_line i u at by in
        let k = own.0 in
        let l = own.1.0 in
        let is : slice_get lines k ≡ Some l = own.1.1.0 in
        let line : l.line ≡ u.line = own.1.1.1.0 in
        elim (cases_lt k n) [
          | inl less ↦ let rises = rises_at lines k n l asked rising is here less in inl (omega arith)
          | inr most ↦
              elim (cases_lt n k) [
                | inl more ↦
                    elim (cases_lt (suc n) k) [
                      | inl later ↦ let rises = rises_at lines (suc n) k next l rising there is later in inr (inr (omega arith))
                      | inr least ↦
                          let same_at : k ≡ suc n = omega arith in
                          let same : l ≡ next = same_Some l next (sym is ∙ ap (slice_get lines) same_at ∙ there) in
                          let equal : l.line ≡ next.line = ap (λ (x : RequestLine). x.line) same in
                          inr (inr (omega arith))
                    ]
                | inr least ↦
                    let same_at : k ≡ n = omega arith in
                    let same : l ≡ asked = same_Some l asked (sym is ∙ ap (slice_get lines) same_at ∙ here) in
                    let equal : l.line ≡ asked.line = ap (λ (x : RequestLine). x.line) same in
                    inr (inl (omega arith))
              ]
        ]

    -- the line's own update
    own_count : (own : Option ℕ) → IsOwnPlace (history_of updates number) asked.line own → count_by (of_line number asked.line) updates ≡ mark (is_some own)
    own_count None none =
        count_none (of_line number asked.line) updates (λ i u at. not_true (of_line number asked.line u) (λ passing.
        let parts = parts_of u.client number u.line asked.line passing in
        let other : ¬ (IsOf (history_of updates number) asked.line u) =
        subst (λ (v : Update). ¬ (IsOf (history_of updates number) asked.line v)) (get_or_from_slice_get updates i u u at) (none i u (slice_get_within updates i u at)) in
        other (record { by = parts.0; for_line = parts.1 })))
    own_count (Some place) is =
        let i = is.0 in
        let u = is.1.0 in
        let at : slice_get updates i ≡ Some u = is.1.1.1.0 in
        let of = is.1.1.1.1 in
        count_one (of_line number asked.line) updates i u at (is_true u.client number u.line asked.line of.by of.for_line) (λ j v at_v passing.
        let parts = parts_of v.client number v.line asked.line passing in
        made.one i j u v at at_v (of.by ∙ sym parts.0, of.for_line ∙ sym parts.1))

    pub used_next : (own : Option ℕ) → IsOwnPlace (history_of updates number) asked.line own → used_before updates number next ≡ used_before updates number asked + mark (is_some own)
    used_next own is =
        let rises = rises_at (lines_of c.parts number) n (suc n) asked next rising here there (omega arith) in
        counts_add (before number next.line) (before number asked.line) (of_line number asked.line) updates
        (λ i u at. splits u.client number u.line asked.line next.line rises (between i u at))
        ∙ ap (λ (k : ℕ). used_before updates number asked + k) (own_count own is)
