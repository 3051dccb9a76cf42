-- The updates of right journal lines: each is one that a line of its client would make, no two are of one line, and so
-- there are no more than the clients have lines.
use Rattle.std.proofs.Common.{◌≡◌, ℕ, zero, suc, ◌+◌, ◌<◌, ◌≤◌, Bool, true, false, ◌==◌, nat_lt, Any, List, [], ◌∷◌, ◌++◌, length, take, Some, if◌then◌else◌, inl, inr, refl, sym, ap, ◌∙◌, subst, arith}
use Rattle.std.specs.List.{count_by, slice_get}
use Rattle.std.proofs.lemmas.Bool.{cases_Bool, cases_eq, cases_lt}
use Rattle.std.proofs.lemmas.Bool.Decides.{nat_tests}
use Rattle.std.proofs.lemmas.Option.{same_Some, none-some, slice_get_within, get_or_from_slice_get}
use Rattle.std.proofs.lemmas.List.{length-take-le}
use Rattle.key_map.specs.declared.update.Update.{Update}
use Rattle.bucket_terms.specs.LegalRun.{RequestLine, lines_of}
use Rattle.text_laws.specs.WrongLine.{Checked, AreJournal, requests_of}
use Rattle.text_laws.specs.WrongParts.{IsWrongUpdate, AreOfOneLine, Makes}
use Rattle.text_laws.proofs.GoesOn.{journal_length}
use Rattle.replay_check.specs.Looking.{AreMade}
use Rattle.replay_check.proofs.UsedBefore.{mark, count_none, count_cons, counts_add, line_of_update}
use Rattle.text_laws.proofs.ReplyPlaces.{first_within}

-- ---- what follows from right journal lines

module _ (c : Checked) where
  made_of : (earlier : List Update) (texts : List (List ℕ)) (us : List Update) → AreJournal c earlier texts us → (i : ℕ) (u : Update) → slice_get us i ≡ Some u
      → (u.client < length c.parts) × Any (Makes c.dir u) (lines_of c.parts u.client)
  made_of earlier [] [] right i u here = absurd (none-some u here)
  made_of earlier [] (v ∷ us) right i u here = absurd right
  made_of earlier (t ∷ texts) [] right i u here = absurd right
  made_of earlier (t ∷ texts) (v ∷ us) right zero u here =
      subst (λ (w : Update). (w.client < length c.parts) × Any (Makes c.dir w) (lines_of c.parts w.client)) (same_Some v u here) (right.0.client, right.0.made)
  made_of earlier (t ∷ texts) (v ∷ us) right (suc i) u here = made_of (earlier ++ v ∷ []) texts us right.1 i u here

  still : (xs : List Update) (x : Update) (k : ℕ) (w : Update) → slice_get xs k ≡ Some w → slice_get (xs ++ x ∷ []) k ≡ Some w
  still [] x k w is = absurd (none-some w is)
  still (y ∷ xs) x zero w is = is
  still (y ∷ xs) x (suc k) w is = still xs x k w is

  at_end : (xs : List Update) (x : Update) → slice_get (xs ++ x ∷ []) (length xs) ≡ Some x
  at_end [] x = refl
  at_end (y ∷ xs) x = at_end xs x

  -- none is of the line of an earlier one
  not_earlier : (earlier : List Update) (texts : List (List ℕ)) (us : List Update) → AreJournal c earlier texts us → (k j : ℕ) (w v : Update)
      → slice_get earlier k ≡ Some w → slice_get us j ≡ Some v → ¬ (AreOfOneLine w v)
  not_earlier earlier [] [] right k j w v before here one = none-some v here
  not_earlier earlier [] (x ∷ us) right k j w v before here one = right
  not_earlier earlier (t ∷ texts) [] right k j w v before here one = right
  not_earlier earlier (t ∷ texts) (x ∷ us) right k zero w v before here one =
      let first : ¬ (AreOfOneLine w x) =
      subst (λ (y : Update). ¬ (AreOfOneLine y x)) (get_or_from_slice_get earlier k w w before) (right.0.first k w (slice_get_within earlier k w before)) in
      first (subst (AreOfOneLine w) (sym (same_Some x v here)) one)
  not_earlier earlier (t ∷ texts) (x ∷ us) right k (suc j) w v before here one =
      not_earlier (earlier ++ x ∷ []) texts us right.1 k j w v (still earlier x k w before) here one

  not_later : (earlier : List Update) (texts : List (List ℕ)) (us : List Update) → AreJournal c earlier texts us → (i j : ℕ) (u v : Update)
      → slice_get us i ≡ Some u → slice_get us j ≡ Some v → i < j → ¬ (AreOfOneLine u v)
  not_later earlier [] [] right i j u v here there less one = none-some u here
  not_later earlier [] (x ∷ us) right i j u v here there less one = right
  not_later earlier (t ∷ texts) [] right i j u v here there less one = right
  not_later earlier (t ∷ texts) (x ∷ us) right i zero u v here there less one = absurd (omega arith)
  not_later earlier (t ∷ texts) (x ∷ us) right zero (suc j) u v here there less one =
      not_earlier (earlier ++ x ∷ []) texts us right.1 (length earlier) j x v (at_end earlier x) there (subst (λ (w : Update). AreOfOneLine w v) (sym (same_Some x u here)) one)
  not_later earlier (t ∷ texts) (x ∷ us) right (suc i) (suc j) u v here there less one =
      not_later (earlier ++ x ∷ []) texts us right.1 i j u v here there (omega arith) one

  pub are_made : (texts : List (List ℕ)) (us : List Update) → AreJournal c [] texts us → AreMade c us
  are_made texts us right = record {
    made = made_of [] texts us right;
    one = λ i j u v here there one.
        elim (cases_lt i j) [
          | inl less ↦ absurd (not_later [] texts us right i j u v here there less one)
          | inr most ↦
              elim (cases_lt j i) [
                | inl more ↦ absurd (not_later [] texts us right j i v u there here more (sym one.0, sym one.1))
                | inr least ↦ omega arith
              ]
        ];
  }

-- ---- how many they are

-- the place of the first line with a number
index_of : List RequestLine → ℕ → ℕ
index_of [] line = 0
index_of (l ∷ lines) line = if l.line == line then 0 else suc (index_of lines line)

index_found : (lines : List RequestLine) (line k : ℕ) (l : RequestLine) → slice_get lines k ≡ Some l → l.line ≡ line
    → (index_of lines line < length lines) × ((m : RequestLine) × ((slice_get lines (index_of lines line) ≡ Some m) × (m.line ≡ line)))
unfolding index_of
index_found [] line k l is same = absurd (none-some l is)
index_found (x ∷ lines) line zero l is same =
    let number : x.line ≡ line = ap (λ (y : RequestLine). y.line) (same_Some x l is) ∙ same in
    let test : (x.line == line) ≡ true = grind (arith, nat_tests) in
    rw test (omega arith, (x, (refl, number)))
index_found (x ∷ lines) line (suc k) l is same =
    elim (cases_eq x.line line) [
      | inl number ↦ let test : (x.line == line) ≡ true = grind (arith, nat_tests) in rw test (omega arith, (x, (refl, number)))
      | inr other ↦
          let test : (x.line == line) ≡ false = grind (arith, nat_tests) in
          let rest = index_found lines line k l is same in
          let less = rest.0 in
          rw test (omega arith, (rest.1.0, (rest.1.1.0, rest.1.1.1)))
    ]

-- lines of different clients stand apart
apart : (parts : List (List RequestLine)) (a b n : ℕ) → a < b → n < length (lines_of parts a) → requests_of (take a parts) + n < requests_of (take b parts)
apart [] a b n less inside = absurd (omega arith)
apart (p ∷ parts) a zero n less inside = absurd (omega arith)
apart (p ∷ parts) zero (suc b) n less inside = omega arith
apart (p ∷ parts) (suc a) (suc b) n less inside = let rest = apart parts a b n (omega arith) inside in omega arith

module _ (P : Update → Bool) where
  count_all : (us : List Update) → ((i : ℕ) (u : Update) → slice_get us i ≡ Some u → P u ≡ true) → count_by P us ≡ length us
  count_all [] all = refl
  count_all (u ∷ us) all =
      let rest = count_all us (λ i v here. all (suc i) v here) in
      let here : mark (P u) ≡ 1 = ap mark (all 0 u refl) in
      let whole = count_cons P u us in
      omega (arith, rest, here, whole)

  count_once : (us : List Update) → ((i j : ℕ) (u v : Update) → slice_get us i ≡ Some u → slice_get us j ≡ Some v → P u ≡ true → P v ≡ true → i ≡ j) → count_by P us ≤ 1
  count_once [] one = omega arith
  count_once (u ∷ us) one =
      let whole = count_cons P u us in
      elim (cases_Bool (P u)) [
        | inl passes ↦
            let here : mark (P u) ≡ 1 = ap mark passes in
            let rest = count_none P us (λ j v there.
            elim (cases_Bool (P v)) [
              | inl too ↦ let same : zero ≡ suc j = one zero (suc j) u v refl there passes too in absurd (omega arith)
              | inr fails ↦ fails
            ]) in
            omega (arith, rest, here, whole)
        | inr fails ↦
            let here : mark (P u) ≡ 0 = ap mark fails in
            let rest = count_once us (λ i j v w at_v at_w is_v is_w. let same : suc i ≡ suc j = one (suc i) (suc j) v w at_v at_w is_v is_w in omega arith) in
            omega (arith, rest, here, whole)
      ]

below_more : (x m : ℕ) → mark (nat_lt x (suc m)) ≡ mark (nat_lt x m) + mark (x == m)
below_more x m = grind (arith, nat_tests)

not_below_zero : (x : ℕ) → nat_lt x 0 ≡ false
not_below_zero x = grind (arith, nat_tests)

is_below : (x m : ℕ) → x < m → nat_lt x m ≡ true
is_below x m less = grind (arith, nat_tests)

equal : (x m : ℕ) → (x == m) ≡ true → x ≡ m
equal x m test = grind (arith, nat_tests)

module _ (c : Checked) (us : List Update) (made : AreMade c us) where
  -- where the line of an update stands among all lines
  place : Update → ℕ
  place u = requests_of (take u.client c.parts) + index_of (lines_of c.parts u.client) u.line

  found : (i : ℕ) (u : Update) → slice_get us i ≡ Some u
      → (index_of (lines_of c.parts u.client) u.line < length (lines_of c.parts u.client))
      × ((m : RequestLine) × ((slice_get (lines_of c.parts u.client) (index_of (lines_of c.parts u.client) u.line) ≡ Some m) × (m.line ≡ u.line)))
  found i u here =
      let own = line_of_update c.dir u (lines_of c.parts u.client) (made.made i u here).1 in
      index_found (lines_of c.parts u.client) u.line own.0 own.1.0 own.1.1.0 own.1.1.1.0

  within : (i : ℕ) (u : Update) → slice_get us i ≡ Some u → place u < requests_of c.parts
  unfolding place
  within i u here =
      let less = (found i u here).0 in
      let inside = (made.made i u here).0 in
      let most = first_within c.parts u.client inside in
      omega arith

  one_place : (i j : ℕ) (u v : Update) → slice_get us i ≡ Some u → slice_get us j ≡ Some v → place u ≡ place v → i ≡ j
  unfolding place
  one_place i j u v at_u at_v same =
      let here = found i u at_u in
      let there = found j v at_v in
      let less_u = here.0 in
      let less_v = there.0 in
      elim (cases_lt u.client v.client) [
        | inl less ↦ let far = apart c.parts u.client v.client (index_of (lines_of c.parts u.client) u.line) less less_u in absurd (omega arith)
        | inr most ↦
            elim (cases_lt v.client u.client) [
              | inl more ↦ let far = apart c.parts v.client u.client (index_of (lines_of c.parts v.client) v.line) more less_v in absurd (omega arith)
              | inr least ↦
                  let client : u.client ≡ v.client = omega arith in
                  let first : requests_of (take u.client c.parts) ≡ requests_of (take v.client c.parts) = ap (λ (k : ℕ). requests_of (take k c.parts)) client in
                  let index : index_of (lines_of c.parts u.client) u.line ≡ index_of (lines_of c.parts v.client) v.line = omega arith in
                  let line : u.line ≡ v.line =
                  sym here.1.1.1
                  ∙ ap (λ (l : RequestLine). l.line) (same_Some here.1.0 there.1.0 (sym here.1.1.0 ∙ ap (slice_get (lines_of c.parts u.client)) index
                  ∙ ap (λ (k : ℕ). slice_get (lines_of c.parts k) (index_of (lines_of c.parts v.client) v.line)) client ∙ there.1.1.0))
                  ∙ there.1.1.1 in
                  made.one i j u v at_u at_v (client, line)
            ]
      ]

  few_below : (m : ℕ) → count_by (λ (u : Update). nat_lt (place u) m) us ≤ m
  few_below zero = let none = count_none (λ (u : Update). nat_lt (place u) 0) us (λ i u here. not_below_zero (place u)) in omega arith
  few_below (suc m) =
      let rest = few_below m in
      let one = count_once (λ (u : Update). place u == m) us (λ i j u v at_u at_v is_u is_v. one_place i j u v at_u at_v (equal (place u) m is_u ∙ sym (equal (place v) m is_v))) in
      let sum = counts_add (λ (u : Update). nat_lt (place u) (suc m)) (λ (u : Update). nat_lt (place u) m) (λ (u : Update). place u == m) us (λ i u here. below_more (place u) m) in
      omega (arith, rest, one, sum)

  -- no more than all clients have lines
  pub few_updates : length us ≤ requests_of c.parts
  few_updates =
      let few = few_below (requests_of c.parts) in
      let all = count_all (λ (u : Update). nat_lt (place u) (requests_of c.parts)) us (λ i u here. is_below (place u) (requests_of c.parts) (within i u here)) in
      omega (arith, few, all)

-- the first wrong line of a journal stands after no more right ones
pub few_before : (c : Checked) (texts : List (List ℕ)) (place : ℕ) → IsWrongUpdate c texts place → place ≤ requests_of c.parts
few_before c texts place wrong =
    let few = few_updates c wrong.updates (are_made c (take place texts) wrong.updates wrong.right) in
    let long = journal_length c [] (take place texts) wrong.updates wrong.right in
    let less = wrong.inside in
    let cut = length-take-le place texts (omega arith) in
    omega arith
