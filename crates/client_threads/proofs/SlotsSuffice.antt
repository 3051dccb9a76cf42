-- The updates of a client in a legal run are no more than its requests that may make one: each update has the place of
-- such a request's reply, and no two have the same place.
use Rattle.std.proofs.Common.{◌≡◌, ℕ, suc, ◌+◌, ◌<◌, ◌≤◌, ◌&&◌, Bool, true, false, cond, eqb, nat_lt, Any, List, [], ◌∷◌, ◌++◌, length, get_or, Option, Some, None, refl, sym, subst, arith, take, drop}
use Rattle.std.specs.List.{slice_get, sum_by, count_by}
use Rattle.std.proofs.lemmas.Bool.{eqb-true, false≢true}
use Rattle.std.proofs.lemmas.Bool.Decides.{nat_tests}
use Rattle.std.proofs.lemmas.Option.{same_Some}
use Rattle.std.proofs.lemmas.List.Elements.{All-nil, All-cons}
use Rattle.std.proofs.lemmas.List.Sums.{sum_by-cons, sum_by-take-drop, sum_by-drop_more, sum_by-le-sum_by}
use Rattle.key_map.specs.declared.update.Update.{Update}
use Rattle.bucket_terms.specs.declared.request.Request.{Request}
use Rattle.bucket_terms.specs.declared.request.Request.TheVariants.{Put, PutNew, Delete, Next}
use Rattle.bucket_terms.specs.declared.reply.Reply.{Reply}
use Rattle.bucket_terms.specs.declared.reply.Reply.TheVariants.{NoSlot}
use Rattle.bucket_terms.specs.declared.reply.Placed.{Placed}
use Rattle.bucket_terms.specs.LegalRun.{RequestLine, Setting, Answered, HasUsedItsSlots, IsRight, AreAnswered, IsMadeBy, IsChangeOf, answered_lines, is_update, last_listing, lines_of, replies_of, slots_of}
use Rattle.bucket_terms.specs.RunParts.{is_earlier_of, setting_of, updates_in}
use Rattle.client_threads.specs.SlotsSuffice.{NoneWantsSlots, SlotsSufficeLaw, OwnSlotsSufficeLaw}

-- ---- sums

-- a sum whose terms are no less, and one of them more, is more
sum_by-lt : {X : Type 0} (f g : X → ℕ) (xs : List X) (k : ℕ) (d : X) → ((x : X) → f x ≤ g x) → k < length xs → f (get_or xs k d) < g (get_or xs k d)
    → sum_by f xs < sum_by g xs
sum_by-lt f g xs k d le lt more =
    omega (
      arith,
      sum_by-take-drop f xs k,
      sum_by-drop_more f xs k d lt,
      sum_by-take-drop g xs k,
      sum_by-drop_more g xs k d lt,
      sum_by-le-sum_by f g (take k xs) le,
      sum_by-le-sum_by f g (drop (k + 1) xs) le,
      more,
    )

-- ---- answers with a place

-- 1 for a request that may make an update and has a place up to this one
abbrev counts : Bool → ℕ → Option ℕ → ℕ
counts true upto (Some at) = cond (nat_lt at (upto + 1)) 1 0
counts true upto None = 0
counts false upto place = 0

counts_more : (may : Bool) (upto : ℕ) (place : Option ℕ) → counts may upto place ≤ counts may (upto + 1) place
counts_more true upto (Some at) = grind (arith, nat_tests)
counts_more true upto None = omega arith
counts_more false upto place = omega arith

counts_next : (may : Bool) (upto : ℕ) (place : Option ℕ) → may ≡ true → place ≡ Some (upto + 1) → counts may upto place < counts may (upto + 1) place
counts_next true upto (Some at) is here =
    let same = same_Some at (upto + 1) here in
    grind (arith, nat_tests)
counts_next true upto None is here = absurd (cc)
counts_next false upto place is here = absurd (false≢true is)

counts_most : (may : Bool) (upto : ℕ) (place : Option ℕ) → counts may upto place ≤ cond may 1 0
counts_most true upto (Some at) = grind (arith, nat_tests)
counts_most true upto None = omega arith
counts_most false upto place = omega arith

abbrev counted : ℕ → Answered → ℕ
counted upto a = counts (is_update a.asked.request) upto a.placed.at

abbrev may_update : Answered → ℕ
may_update a = cond (is_update a.asked.request) 1 0

changes : (dir : List (List ℕ)) (u : Update) (request : Request) → IsChangeOf dir u request → is_update request ≡ true
changes dir u (Put name val) is = refl
changes dir u (PutNew name val) is = refl
changes dir u (Delete name) is = refl
changes dir u request is = absurd is

-- an update is counted when its place is reached
one_more : (dir : List (List ℕ)) (u : Update) (at : ℕ) (answers : List Answered) → Any (IsMadeBy dir u (at + 1)) answers
    → sum_by (counted at) answers < sum_by (counted (at + 1)) answers
one_more dir u at answers made =
    let a = made.1 in
    let by = made.4 in
    let next = counts_next (is_update a.asked.request) at a.placed.at (changes dir u a.asked.request by.change) by.place in
    sum_by-lt (counted at) (counted (at + 1)) answers made.0 a
    (λ (b : Answered). counts_more (is_update b.asked.request) at b.placed.at)
    made.2
    (subst (λ (b : Answered). counted at b < counted (at + 1) b) (sym made.3) next)

-- ---- updates of a client

step : (own earlier : Bool) (x y : ℕ) → (own ≡ true → x < y) → x ≤ y → cond (own && earlier) 1 0 + x ≤ y
step true true x y more le = let lt = more refl in omega arith
step true false x y more le = omega arith
step false earlier x y more le = omega arith

module _ (s : Setting) (line : ℕ) (answers : List Answered) where
  -- the updates after the first `at`, with the answers that have a place up to there
  few : (us : List Update) (at : ℕ) → ((j : ℕ) (u : Update) → slice_get us j ≡ Some u → u.client ≡ s.client → Any (IsMadeBy s.dir u (at + j + 1)) answers)
      → count_by (is_earlier_of s line) us + sum_by (counted at) answers ≤ sum_by may_update answers
  few [] at made = omega (arith, sum_by-le-sum_by (counted at) may_update answers (λ (a : Answered). counts_most (is_update a.asked.request) at a.placed.at))
  few (u ∷ us) at made =
      let rest = few us (at + 1)
      (λ j v here own.
      let place : at + suc j + 1 ≡ at + 1 + j + 1 = omega arith in
      subst (λ (n : ℕ). Any (IsMadeBy s.dir v n) answers) place (made (suc j) v here own)) in
      let first : at + 0 + 1 ≡ at + 1 = omega arith in
      let here = step (eqb u.client s.client) (nat_lt u.line line) (sum_by (counted at) answers) (sum_by (counted (at + 1)) answers)
      (λ own. one_more s.dir u at answers (subst (λ (n : ℕ). Any (IsMadeBy s.dir u n) answers) first (made 0 u refl (eqb-true u.client s.client own))))
      (sum_by-le-sum_by (counted at) (counted (at + 1)) answers (λ (a : Answered). counts_more (is_update a.asked.request) at a.placed.at)) in
      let all = sum_by-cons (λ (v : Update). cond (is_earlier_of s line v) 1 0) u us in
      omega (arith, rest, here, all)

answered_few : (lines : List RequestLine) (replies : List Placed) → sum_by may_update (answered_lines lines replies) ≤ updates_in lines
answered_few [] replies = omega arith
answered_few (l ∷ lines) [] = omega arith
answered_few (l ∷ lines) (p ∷ replies) =
    let a : Answered = record { asked = l; placed = p } in
    omega (
      arith,
      answered_few lines replies,
      sum_by-cons may_update a (answered_lines lines replies),
      sum_by-cons (λ (k : RequestLine). cond (is_update k.request) 1 0) l lines,
    )

-- ---- replies

module _ (s : Setting) (suffice : (line : ℕ) → HasUsedItsSlots s line → ⊥) where
  not_refused : (last : Option Reply) (line : ℕ) (request : Request) (place : Option ℕ) → IsRight s last (record { line = line; request = request }) place NoSlot → ⊥
  not_refused last line (Put name val) None right = suffice line right
  not_refused last line (PutNew name val) None right = suffice line right
  not_refused last line (Delete name) None right = suffice line right
  not_refused last line Next (Some at) right = absurd right
  not_refused last line Next None right = absurd right
  not_refused last line request (Some at) right = absurd right
  not_refused last line request None right = absurd right

  none_refused : (earlier : List Answered) (lines : List RequestLine) (replies : List Placed) → AreAnswered s earlier lines replies → NoneWantsSlots replies
  none_refused earlier [] [] answers = All-nil (λ (r : Placed). r.reply ≡ NoSlot → ⊥)
  none_refused earlier [] (p ∷ replies) answers = absurd answers
  none_refused earlier (l ∷ lines) [] answers = absurd answers
  none_refused earlier (l ∷ lines) (p ∷ replies) answers =
      All-cons (λ (r : Placed). r.reply ≡ NoSlot → ⊥) p replies
      (λ is. not_refused (last_listing earlier) l.line l.request p.at (subst (λ (r : Reply). IsRight s (last_listing earlier) l p.at r) is answers.0.right))
      (none_refused (earlier ++ record { asked = l; placed = p } ∷ []) lines replies answers.1)

pub slots_suffice : SlotsSufficeLaw
slots_suffice dir parts slots run legal c below more =
    let s = setting_of dir run slots c in
    let lines = lines_of parts c in
    let answers = answered_lines lines (replies_of run c) in
    none_refused s
    (λ line used.
    let all = few s line answers run.updates 0
    (λ j u here own.
    let first : j + 1 ≡ 0 + j + 1 = omega arith in
    subst (λ (n : ℕ). Any (IsMadeBy dir u n) answers) first
    (subst (λ (d : ℕ). Any (IsMadeBy dir u (j + 1)) (answered_lines (lines_of parts d) (replies_of run d))) own (legal.made j u here).1)) in
    omega (arith, used, all, answered_few lines (replies_of run c), more))
    [] lines (replies_of run c) (legal.answered c below)

pub own_slots_suffice : OwnSlotsSufficeLaw
own_slots_suffice dir parts run legal c below = slots_suffice dir parts (slots_of parts) run legal c below (omega arith)
