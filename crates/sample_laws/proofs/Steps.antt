-- One more answer: its request has made one update of the client, or none; so the client has at most as many
-- updates as requests that may make one.
use Rattle.std.proofs.Common.{◌≡◌, ℕ, zero, suc, ◌+◌, ◌≤◌, ◌⊎◌, Bool, true, false, cond, List, [], ◌∷◌, ◌++◌, length, take, eqb, refl, sym, ap, ◌∙◌, subst, arith, inl, inr, Option, Some, None}
use Rattle.std.specs.List.{slice_get}
use Rattle.std.proofs.lemmas.Bool.{cases_lt, eqb-true, eq-eqb, false≢true}
use Rattle.std.proofs.lemmas.List.{append-nil, append_assoc, length_push}
use Rattle.std.proofs.lemmas.List.Sums.{sum_by-cons}
use Rattle.std.proofs.lemmas.Option.{same_Some}
use Rattle.key_map.specs.declared.update.Update.{Update}
use Rattle.bucket_terms.specs.declared.request.Request.{Request}
use Rattle.bucket_terms.specs.declared.request.Request.TheVariants.{Put, PutNew, Delete, Head, List as ListRequest, ListV1, Next}
use Rattle.bucket_terms.specs.declared.reply.Placed.{Placed}
use Rattle.bucket_terms.specs.LegalRun.{RequestLine, Setting, Answered, update_at, AreAnswered, answered_lines, IsMadeBy, IsChangeOf, is_update}
use Rattle.bucket_terms.specs.RunParts.{updates_in}
use Rattle.sample_laws.specs.Own.{updates_of}
use Rattle.sample_laws.proofs.Places.{take_next, take_past, updates_of-push, none_between, own_upto, AreMadeBy, IsFront, front_placed, front_refused, order_at, own_here, none_left}

-- the client has no update from the front `p` up to the place `q`
pub record Stays (s : Setting) (p q : ℕ) : Type 0 where
  pub same : own_upto s q ≡ own_upto s p
  pub none : (u : Update) → update_at s q ≡ Some u → u.client ≡ s.client → q ≤ p

-- it has one, at the place `q`
pub record Adds (s : Setting) (p q : ℕ) (a : Answered) : Type 0 where
  pub before : ℕ
  pub next : q ≡ before + 1
  pub update : Update
  pub here : slice_get s.updates before ≡ Some update
  pub own : update.client ≡ s.client
  pub made : IsMadeBy s.dir update q a
  pub as_before : own_upto s before ≡ own_upto s p
  pub more : own_upto s q ≡ own_upto s p ++ update ∷ []

same_place : (i q : ℕ) (o : Option ℕ) → o ≡ Some (i + 1) → o ≡ Some q → i + 1 ≡ q
same_place i q o e f = same_Some (i + 1) q (sym e ∙ f)

own_of_push : (client : ℕ) (us : List Update) (u : Update) → u.client ≡ client → updates_of client (us ++ u ∷ []) ≡ updates_of client us ++ u ∷ []
own_of_push client us u own =
    updates_of-push client us u ∙ ap (λ (b : Bool). updates_of client us ++ cond b (u ∷ []) []) (eq-eqb u.client client own)

other_of_push : (client : ℕ) (us : List Update) (u : Update) → eqb u.client client ≡ false → updates_of client (us ++ u ∷ []) ≡ updates_of client us
other_of_push client us u other =
    updates_of-push client us u ∙ ap (λ (b : Bool). updates_of client us ++ cond b (u ∷ []) []) other ∙ append-nil (updates_of client us)

module _ (s : Setting) (earlier : List Answered) (a : Answered) (lines : List RequestLine) (replies : List Placed)
    (rest : AreAnswered s (earlier ++ a ∷ []) lines replies) (made : AreMadeBy s (earlier ++ a ∷ answered_lines lines replies))
    (p : ℕ) (front : IsFront earlier p) where
  above_front : (i : ℕ) → a.placed.at ≡ Some (suc i) → p ≤ i → own_upto s i ≡ own_upto s p
  above_front i at low =
      none_between s.client s.updates p i low (λ j u from below here own.
      let by = own_here s earlier a lines replies p (suc i) front at rest made j u from (omega arith) here own in
      let place = same_place j (suc i) a.placed.at by.place at in
      absurd (omega arith))

  at_own : (i : ℕ) → a.placed.at ≡ Some (suc i) → p ≤ i → (o : Option Update) → slice_get s.updates i ≡ o → Stays s p (suc i) ⊎ Adds s p (suc i) a
  at_own i at low None here =
      inl (record { same = ap (updates_of s.client) (take_past s.updates i here) ∙ above_front i at low; none = λ u there own. absurd (cc) })
  at_own i at low (Some u) here = by_client (eqb u.client s.client) refl
    where
      more : take (suc i) s.updates ≡ take i s.updates ++ u ∷ []
      more = take_next s.updates i u here

      by_client : (b : Bool) → eqb u.client s.client ≡ b → Stays s p (suc i) ⊎ Adds s p (suc i) a
      by_client true mine =
          let own : u.client ≡ s.client = eqb-true u.client s.client mine in
          let by = own_here s earlier a lines replies p (suc i) front at rest made i u low (omega arith) here own in
          inr (record {
            before = i;
            next = omega arith;
            update = u;
            here = here;
            own = own;
            made = subst (λ (q : ℕ). IsMadeBy s.dir u q a) (same_place i (suc i) a.placed.at by.place at) by;
            as_before = above_front i at low;
            more = ap (updates_of s.client) more ∙ own_of_push s.client (take i s.updates) u own
                ∙ ap (λ (us : List Update). us ++ u ∷ []) (above_front i at low);
          })
      by_client false other =
          inl (record {
            same = ap (updates_of s.client) more ∙ other_of_push s.client (take i s.updates) u other ∙ above_front i at low;
            none = λ v there own.
                let same : u ≡ v = same_Some u v (sym here ∙ there) in
                let mine = eq-eqb u.client s.client (ap (λ (w : Update). w.client) same ∙ own) in
                absurd (false≢true (sym other ∙ mine));
          })

  -- what the answer at the place `q` has added
  pub step : (q : ℕ) → a.placed.at ≡ Some q → p ≤ q → Stays s p q ⊎ Adds s p q a
  step zero at low = let same : 0 ≡ p = omega arith in inl (record { same = ap (own_upto s) same; none = λ u here own. omega arith })
  step (suc i) at low =
      elim (cases_lt i p) [
        | inl below ↦ let same : suc i ≡ p = omega arith in inl (record { same = ap (own_upto s) same; none = λ u here own. omega arith })
        | inr from ↦ at_own i at from (slice_get s.updates i) refl
      ]

-- ---- counting

change_counts : (dir : List (List ℕ)) (u : Update) (request : Request) → IsChangeOf dir u request → is_update request ≡ true
change_counts dir u (Put name val) h = refl
change_counts dir u (PutNew name val) h = refl
change_counts dir u (Delete name) h = refl
change_counts dir u (Head name) h = absurd h
change_counts dir u (ListRequest query) h = absurd h
change_counts dir u (ListV1 query) h = absurd h
change_counts dir u Next h = absurd h

one_more : (b : Bool) (n : ℕ) → b ≡ true → n + 1 ≤ n + cond b 1 0
one_more true n e = omega arith
one_more false n e = cc

-- the place of one more answer has at most one more update, and none if the request makes none
step_counts : (s : Setting) (p q : ℕ) (a : Answered) → Stays s p q ⊎ Adds s p q a
    → length (own_upto s q) ≤ length (own_upto s p) + cond (is_update a.asked.request) 1 0
step_counts s p q a (inl stays) = let same = ap (length {A = Update}) stays.same in omega arith
step_counts s p q a (inr adds) =
    let more = ap (length {A = Update}) adds.more ∙ length_push (own_upto s p) adds.update in
    let one = one_more (is_update a.asked.request) (length (own_upto s p)) (change_counts s.dir adds.update a.asked.request adds.made.change) in
    omega arith

updates_in-cons : (l : RequestLine) (lines : List RequestLine) → updates_in (l ∷ lines) ≡ cond (is_update l.request) 1 0 + updates_in lines
updates_in-cons l lines = sum_by-cons (λ (k : RequestLine). cond (is_update k.request) 1 0) l lines

-- the requests that are left, after one more
pub made_next : (s : Setting) (earlier : List Answered) (a : Answered) (later : List Answered)
    → AreMadeBy s (earlier ++ a ∷ later) → AreMadeBy s ((earlier ++ a ∷ []) ++ later)
made_next s earlier a later made = subst (AreMadeBy s) (sym (append_assoc earlier (a ∷ []) later)) made

-- the client has at most as many updates as requests that may make one
pub updates_counted : (s : Setting) (earlier : List Answered) (lines : List RequestLine) (replies : List Placed) (p : ℕ)
    → AreAnswered s earlier lines replies → IsFront earlier p → AreMadeBy s (earlier ++ answered_lines lines replies)
    → length (updates_of s.client s.updates) ≤ length (own_upto s p) + updates_in lines
updates_counted s earlier [] [] p h front made = let same = ap (length {A = Update}) (none_left s earlier p front made) in omega arith
updates_counted s earlier [] (r ∷ replies) p h front made = absurd h
updates_counted s earlier (l ∷ lines) [] p h front made = absurd h
updates_counted s earlier (l ∷ lines) (r ∷ replies) p h front made =
    by_place r.at refl (λ q front_q. updates_counted s (earlier ++ a ∷ []) lines replies q h.1 front_q (made_next s earlier a later made))
  where
    a : Answered
    a = record { asked = l; placed = r }

    later : List Answered
    later = answered_lines lines replies

    total : ℕ
    total = length (updates_of s.client s.updates)

    by_place : (o : Option ℕ) → r.at ≡ o
        → ((q : ℕ) → IsFront (earlier ++ a ∷ []) q → total ≤ length (own_upto s q) + updates_in lines)
        → total ≤ length (own_upto s p) + updates_in (l ∷ lines)
    by_place None at others = let more = others p (front_refused earlier a p at front) in omega (arith, updates_in-cons l lines)
    by_place (Some q) at others =
        let order = order_at s earlier l.line r.at q at h.0.order in
        let more = others q (front_placed s earlier a q at order) in
        let one = step_counts s p q a (step s earlier a lines replies h.1 made p front q at (front.least q order.not_below)) in
        omega (arith, updates_in-cons l lines)
