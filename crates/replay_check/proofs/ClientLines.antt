-- A client's line with a number, and the update that it would make.
use Rattle.std.proofs.Common.{◌≡◌, ℕ, zero, suc, ◌<◌, ◌≤◌, true, false, ltb, Any, List, [], ◌∷◌, length, map, get_or, Option, Some, None, inl, inr, refl, sym, ap, ◌∙◌, subst, arith}
use Rattle.std.specs.List.{slice_get, HoldsAt}
use Rattle.std.specs.List.Sorted.{IsPartitionPoint, IsNonDecreasingBy}
use Rattle.std.specs.Option.{MatchOption, option_map}
use Rattle.std.proofs.lemmas.Bool.{cases_lt}
use Rattle.std.proofs.lemmas.Bool.Decides.{nat_tests}
use Rattle.std.proofs.lemmas.List.{get_or-map, length-map}
use Rattle.std.proofs.lemmas.Option.{same_Some, none-some, slice_get_within, slice_get-map, slice_get-get_or, get_or_from_slice_get}
use Rattle.key_names.specs.Names.{IsRank, Rises}
use Rattle.key_map.specs.declared.update.Update.{Update}
use Rattle.key_map.specs.declared.update.Change.{Change}
use Rattle.bucket_terms.specs.declared.request.Request.{Request}
use Rattle.bucket_terms.specs.declared.request.Request.TheVariants.{Put, PutNew, Delete, Head, List as ListRequest, ListV1, Next}
use Rattle.bucket_terms.specs.LegalRun.{RequestLine, AskedChange, asked_change, IsChangeOf}
use Rattle.request_lines.specs.declared.session.Asked.{Asked}
use Rattle.request_lines.specs.Session.{request_line}
use Rattle.request_lines.specs.SessionLaws.{Rise, requested_name}
use Rattle.text_laws.specs.WrongParts.{Makes}
use Rattle.text_laws.proofs.OneUpdate.{one_line, one_change}
use Rattle.replay_check.specs.declared.journal.Told.{Told}
use Rattle.replay_check.specs.Telling.{IsSplitAt, IsToldBy}

-- ---- the place of a number

abbrev line_number : Asked → ℕ
line_number asked = asked.line

-- the request of a line
pub asked_at : (xs : List Asked) (i : ℕ) (l : RequestLine) → slice_get (map request_line xs) i ≡ Some l → (a : Asked) × ((slice_get xs i ≡ Some a) × (l ≡ request_line a))
asked_at [] i l is = absurd (none-some l is)
asked_at (a ∷ xs) zero l is = (a, (refl, sym (same_Some (request_line a) l is)))
asked_at (a ∷ xs) (suc i) l is = asked_at xs i l is

-- what a look at a place of the requests finds
pub line_there : (xs ys : List Asked) (i : ℕ) (a : Asked) → xs ≡ ys → (i < length xs) × HoldsAt (λ (b : Asked). a ≡ b) xs i → slice_get (map request_line ys) i ≡ Some (request_line a)
line_there xs ys i a same there =
    let here : slice_get xs i ≡ Some a = slice_get-get_or xs i a there.0 ∙ ap (λ (b : Asked). Some b) (sym (there.1 a)) in
    slice_get-map request_line ys i ∙ ap (λ (zs : List Asked). option_map request_line (slice_get zs i)) (sym same) ∙ ap (option_map request_line) here

pub numbers_rise : (xs : List Asked) → Rise (map request_line xs) → IsNonDecreasingBy line_number xs
numbers_rise xs rising i j d upto inside =
    elim (cases_lt i j) [
      | inl less ↦
          let long = length-map xs request_line in
          let first : (get_or (map request_line xs) i (request_line d)).line ≡ (get_or xs i d).line =
          ap (λ (l : RequestLine). l.line) (get_or-map request_line xs i d (request_line d) (omega arith)) in
          let second : (get_or (map request_line xs) j (request_line d)).line ≡ (get_or xs j d).line =
          ap (λ (l : RequestLine). l.line) (get_or-map request_line xs j d (request_line d) inside) in
          let rises : (get_or (map request_line xs) i (request_line d)).line < (get_or (map request_line xs) j (request_line d)).line =
          rising i j (request_line d) less (omega arith) in
          omega arith
      | inr most ↦
          let same : i ≡ j = omega arith in
          let equal : (get_or xs i d).line ≡ (get_or xs j d).line = ap (λ (k : ℕ). (get_or xs k d).line) same in
          omega arith
    ]

pub split_at : (xs : List Asked) (line place : ℕ) → IsPartitionPoint (λ (a : Asked). ltb a.line line ≡ true) (λ (a : Asked). ltb a.line line ≡ false) xs place → IsSplitAt (map request_line xs) line place
split_at xs line place parts = record {
  before = λ i l there less.
      let at = asked_at xs i l there in
      let a = at.0 in
      let is : get_or xs i a ≡ a = get_or_from_slice_get xs i a a at.1.0 in
      let test : ltb a.line line ≡ true = ap (λ (b : Asked). ltb b.line line) (sym is) ∙ parts.0 i a (omega arith) less in
      let number : l.line ≡ a.line = ap (λ (m : RequestLine). m.line) at.1.1 in
      grind (arith, nat_tests);
  behind = λ i l there most.
      let at = asked_at xs i l there in
      let a = at.0 in
      let is : get_or xs i a ≡ a = get_or_from_slice_get xs i a a at.1.0 in
      let test : ltb a.line line ≡ false = ap (λ (b : Asked). ltb b.line line) (sym is) ∙ parts.1 i a most (slice_get_within xs i a at.1.0) in
      let number : l.line ≡ a.line = ap (λ (m : RequestLine). m.line) at.1.1 in
      grind (arith, nat_tests);
}

-- ---- the update of a number

-- there is no line with this number, or it makes no update
pub none_made : (dir : List (List ℕ)) (lines : List RequestLine) (line place : ℕ) → Rise lines → IsSplitAt lines line place
    → ((l : RequestLine) → slice_get lines place ≡ Some l → l.line ≡ line → asked_change l.request ≡ None)
    → (u : Update) → u.line ≡ line → ¬ (Any (Makes dir u) lines)
none_made dir lines line place rising split none u same made =
    let k = made.0 in
    let l = made.1 in
    let here : slice_get lines k ≡ Some l = slice_get-get_or lines k l made.2 ∙ ap (λ (m : RequestLine). Some m) made.3 in
    let number : l.line ≡ line = made.4.0 ∙ same in
    elim (cases_lt k place) [
      | inl less ↦ let below : l.line < line = split.before k l here less in absurd (omega arith)
      | inr most ↦
          elim (cases_lt place k) [
            | inl more ↦
                let m = get_or lines place l in
                let within = made.2 in
                let there : slice_get lines place ≡ Some m = slice_get-get_or lines place l (omega arith) in
                let above : line ≤ m.line = split.behind place m there (omega arith) in
                let rises : m.line < (get_or lines k l).line = rising place k l more made.2 in
                let is : (get_or lines k l).line ≡ l.line = ap (λ (x : RequestLine). x.line) made.3 in
                absurd (omega arith)
            | inr least ↦
                let at : k ≡ place = omega arith in
                let no_change : asked_change l.request ≡ None = none l (ap (λ (n : ℕ). slice_get lines n) (sym at) ∙ here) number in
                subst (λ (o : Option AskedChange). MatchOption o ⊥ (λ asked. IsRank dir asked.name u.key × (u.change ≡ asked.change))) no_change made.4.1
          ]
    ]

-- a request that asks for a change has the name of its key
pub change_named : (request : Request) (asked : AskedChange) → asked_change request ≡ Some asked → requested_name request ≡ Some asked.name
change_named (Put name val) asked is = ap (λ (a : AskedChange). Some a.name) (same_Some _ asked is)
change_named (PutNew name val) asked is = ap (λ (a : AskedChange). Some a.name) (same_Some _ asked is)
change_named (Delete name) asked is = ap (λ (a : AskedChange). Some a.name) (same_Some _ asked is)
change_named (Head name) asked is = absurd (none-some asked is)
change_named (ListRequest query) asked is = absurd (none-some asked is)
change_named (ListV1 query) asked is = absurd (none-some asked is)
change_named Next asked is = absurd (none-some asked is)

-- what is found is the one update that has the number
pub told_is : (dir : List (List ℕ)) (lines : List RequestLine) (client line : ℕ) (found : Option Told) (u : Update) → Rises dir → Rise lines → u.client ≡ client → u.line ≡ line
    → Any (Makes dir u) lines → IsToldBy dir lines client line found → option_map (λ (told : Told). told.update) found ≡ Some u
told_is dir lines client line None u names rising by number made told = absurd (told u number made)
told_is dir lines client line (Some told) u names rising by number made is =
    let l = is.asked in
    let m = made.1 in
    let inside : is.asked ≡ is.asked = refl in
    let here : get_or lines told.request l ≡ l = get_or_from_slice_get lines told.request l l is.asked_is in
    let same : l.line ≡ m.line = is.makes.0 ∙ is.line_is ∙ sym number ∙ sym made.4.0 in
    let lines_same : l ≡ m = one_line lines told.request made.0 l m rising (slice_get_within lines told.request l is.asked_is) made.2 here made.3 same in
    let change = one_change dir told.update u l.request names is.makes.1 (subst (λ (x : RequestLine). IsChangeOf dir u x.request) (sym lines_same) made.4.1) in
    let t = told.update in
    ap (λ (v : Update). Some v)
    (ap (λ (n : ℕ). record { client = n; line = t.line; key = t.key; change = t.change }) (is.client_is ∙ sym by)
    ∙ ap (λ (n : ℕ). record { client = u.client; line = n; key = t.key; change = t.change }) (is.line_is ∙ sym number)
    ∙ ap (λ (n : ℕ). record { client = u.client; line = u.line; key = n; change = t.change }) change.0
    ∙ ap (λ (x : Change). record { client = u.client; line = u.line; key = u.key; change = x }) change.1)
