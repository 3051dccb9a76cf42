-- The results of the threads of a run.
use Rattle.std.proofs.Common.{◌≡◌, ℕ, ◌<◌, List, [], ◌∷◌, ◌++◌, length, get_or, Result, Ok, IfOk, inl, inr, refl, sym, ap, ◌∙◌, subst, arith}
use Rattle.std.proofs.lemmas.Bool.{cases_lt}
use Rattle.std.proofs.lemmas.List.{length-map, get_or-map, length_push, get_or_append_left, get_or_push}
use Rattle.bucket_terms.specs.declared.reply.Placed.{Placed}
use Rattle.bucket_terms.specs.LegalRun.{RequestLine, lines_of}
use Rattle.table_rule.specs.Homes.{Home}
use Rattle.table_steps.specs.Passes.{Pass}
use Rattle.shared_index.specs.Keys.{IsKeyOf, home_of_pass}
use Rattle.shared_index.specs.Shown.{shown}
use Rattle.request_lines.specs.declared.session.ClientPart.{ClientPart}
use Rattle.request_lines.specs.Session.{request_lines}
use Rattle.client_run.specs.ClientRun.{RanClient}
use Rattle.client_threads.specs.Runs.{CanRun, CanRunEach, RanOver, RanOverEach, parts_of}
use Rattle.client_threads.specs.Threads.{Ran, RanOne, CanRunOne, CameOf, AreParts}

-- the key of each place is one of a client
pub can_run_one : (dir : List (List ℕ)) (index : Home) (parts : List (List RequestLine)) (keys : List Pass) → CanRunEach dir index parts keys
    → (c : ℕ) (key : Pass) → c < length keys → key ≡ get_or keys c key → CanRunOne dir index parts key
can_run_one dir index parts keys can c key lt is =
    let within : c < length parts = omega (arith, can.one_each) in
    let one = can.each c key within in
    subst (λ (k : Pass). CanRunOne dir index parts k) (sym is)
    (record {
      there = omega (arith, one.number);
      can = subst (λ (n : ℕ). CanRun dir index n (lines_of parts n) (get_or keys c key)) (sym one.number) one;
    })

-- the lines of the part at the key's number
pub key_lines : (parts : List ClientPart) (number at : ℕ) (part : ClientPart) → at ≡ number → number < length (parts_of parts) → part ≡ get_or parts at part
    → request_lines part ≡ lines_of (parts_of parts) number
key_lines parts number at part same lt is =
    ap request_lines (is ∙ ap (λ (n : ℕ). get_or parts n part) same)
    ∙ sym (get_or-map request_lines parts number part [] (omega (arith, length-map parts request_lines)))

-- the run of the client of a key, which was attached, and whose pass was detached again
pub ran_key : (dir : List (List ℕ)) (index : Home) (lines asked : List RequestLine) (key attached left back : Pass) (replies kept : List Placed)
    → IsKeyOf index key → attached ≡ key → asked ≡ lines → RanClient dir asked (shown attached) (shown left) replies → home_of_pass left ≡ home_of_pass attached
    → back ≡ left → kept ≡ replies → RanOver dir index key.number lines key back kept
ran_key dir index lines asked key attached left back replies kept of same_key same_lines ran home same_back same_replies = record {
  of = ap home_of_pass same_back ∙ home ∙ ap home_of_pass same_key ∙ of;
  number = ap (λ (p : Pass). p.number) same_back ∙ ran.continues.number ∙ ap (λ (p : Pass). p.number) same_key;
  ran =
      subst (λ (p : Pass). RanClient dir lines (shown p) (shown back) kept) same_key
      (subst (λ (p : Pass). RanClient dir lines (shown attached) (shown p) kept) (sym same_back)
      (subst (λ (rs : List Placed). RanClient dir lines (shown attached) (shown left) rs) (sym same_replies)
      (subst (λ (ls : List RequestLine). RanClient dir ls (shown attached) (shown left) replies) same_lines ran)));
}

-- nothing was taken apart yet
pub no_parts : {S E : Type 0} → AreParts {S = S} {E = E} [] [] [] []
no_parts = record { keys_length = refl; seats_length = refl; replies_length = refl; each = λ i d e s lt. absurd (omega (arith, lt)) }

-- one more result
pub one_part_more : {S E : Type 0} (results : List (Result (Ran S) E)) (keys : List Pass) (seats : List S) (replies : List (List Placed)) (last : Result (Ran S) E) (key : Pass) (seat : S) (answered : List Placed)
    → AreParts results keys seats replies → last ≡ Ok (record { key = key; seat = seat; replies = answered })
    → AreParts (results ++ last ∷ []) (keys ++ key ∷ []) (seats ++ seat ∷ []) (replies ++ answered ∷ [])
one_part_more {S = S} results keys seats replies last key seat answered are is = record {
  keys_length = omega (arith, length_push keys key, length_push results last, are.keys_length);
  seats_length = omega (arith, length_push seats seat, length_push results last, are.seats_length);
  replies_length = omega (arith, length_push replies answered, length_push results last, are.replies_length);
  each = λ i d e s lt.
      elim (cases_lt i (length results)) [
        | inl front ↦
            let here = are.each i d e s front in
            get_or_append_left results (last ∷ []) d i front ∙ here
            ∙ ap (λ (k : Pass). Ok (record { key = k; seat = get_or seats i s; replies = get_or replies i [] })) (sym (get_or_append_left keys (key ∷ []) e i (omega (arith, are.keys_length))))
            ∙ ap (λ (x : S). Ok (record { key = get_or (keys ++ key ∷ []) i e; seat = x; replies = get_or replies i [] })) (sym (get_or_append_left seats (seat ∷ []) s i (omega (arith, are.seats_length))))
            ∙ ap (λ (ps : List Placed). Ok (record { key = get_or (keys ++ key ∷ []) i e; seat = get_or (seats ++ seat ∷ []) i s; replies = ps }))
            (sym (get_or_append_left replies (answered ∷ []) [] i (omega (arith, are.replies_length))))
        | inr back ↦
            let at_end : i ≡ length results = omega (arith, length_push results last) in
            get_or_push results last d i (sym at_end) ∙ is
            ∙ ap (λ (k : Pass). Ok (record { key = k; seat = seat; replies = answered })) (sym (get_or_push keys key e i (are.keys_length ∙ sym at_end)))
            ∙ ap (λ (x : S). Ok (record { key = get_or (keys ++ key ∷ []) i e; seat = x; replies = answered })) (sym (get_or_push seats seat s i (are.seats_length ∙ sym at_end)))
            ∙ ap (λ (ps : List Placed). Ok (record { key = get_or (keys ++ key ∷ []) i e; seat = get_or (seats ++ seat ∷ []) i s; replies = ps }))
            (sym (get_or_push replies answered [] i (are.replies_length ∙ sym at_end)))
      ];
}

-- what holds of each job's run holds of what was brought back
pub came_apart : {J S E : Type 0} (P : ℕ → J → Ran S → Type 0) (jobs : List J) (results : List (Result (Ran S) E)) (keys : List Pass) (seats : List S) (replies : List (List Placed))
    → CameOf P jobs results → AreParts results keys seats replies
    → (c : ℕ) (j : J) (e : Pass) (s : S) → c < length jobs → P c (get_or jobs c j) (record { key = get_or keys c e; seat = get_or seats c s; replies = get_or replies c [] })
came_apart {S = S} {E = E} P jobs results keys seats replies came are c j e s lt =
    let some : Result (Ran S) E = Ok (record { key = e; seat = s; replies = [] }) in
    subst (λ (r : Result (Ran S) E). IfOk r (P c (get_or jobs c j))) (are.each c some e s (omega (arith, came.one_each))) (came.each c j some lt)

-- if all went well, each client was run
pub ran_each_part : {S E : Type 0} (dir : List (List ℕ)) (index : Home) (parts : List (List RequestLine)) (keys : List Pass) (results : List (Result (Ran S) E)) (back : List Pass) (seats : List S)
    (replies : List (List Placed)) (seat : S)
    → length keys ≡ length parts → CameOf (RanOne dir index parts) keys results → AreParts results back seats replies → RanOverEach dir index parts keys back replies
ran_each_part dir index parts keys results back seats replies seat long came are = record {
  keys = omega (arith, long, came.one_each, are.keys_length);
  lists = omega (arith, long, came.one_each, are.replies_length);
  each = λ c d e lt. came_apart (RanOne dir index parts) keys results back seats replies came are c d e seat (omega (arith, long));
}
