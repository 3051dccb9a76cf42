-- Small sessions: runs that are legal, and similar runs that are not.
use Rattle.std.proofs.Common.{◌≡◌, ℕ, zero, suc, ◌+◌, ◌<◌, ◌≤◌, true, false, List, [], ◌∷◌, length, codes, refl, ap, ◌∙◌, subst, arith, Some, None, All, Any}
use Rattle.std.specs.List.{slice_get}
use Rattle.std.specs.Option.{IfSome}
use Rattle.std.proofs.lemmas.Option.{same_Some}
use Rattle.std.proofs.lemmas.List.Elements.{All-cons}
use Rattle.key_map.specs.KeyMap.{map_has, map_get, after}
use Rattle.key_map.specs.declared.update.Update.{Update}
use Rattle.key_map.specs.declared.update.Change.TheVariants.{Put as PutVal}
use Rattle.bucket_terms.specs.LegalRun.{RequestLine, Answered, IsOf, IsAnswered, AreAnswered, IsMadeBy, Setting, Finds, answered_lines, lines_of, replies_of, update_at}
use Rattle.bucket_terms.specs.declared.reply.Placed.{Placed}
use Rattle.bucket_terms.specs.declared.reply.Reply.TheVariants.{Put as PutReply, Exists, Found, Missing, Deleted}
use Rattle.bucket_terms.specs.declared.request.Request.TheVariants.{Put, PutNew, Head, Delete}
use Rattle.run_laws.specs.RunRows.{two_names, line, update, reply_at, no_slot, run, Legal, reader, clients, put_a, looked, two_puts, second_refused, first_refused, put_new_a, put_new_twice, only_replies, RunRowsLaw}
use Rattle.run_laws.proofs.RefusedRows.{first_rank, only_first, nowhere, reading, reader_answered, finds_at_one, own_not_above, of_nobody, stale_page, stale_page_beside, stale_v1_page, next_behind_v1, page_of_two_moments, stale_put, stale_new, stale_removal, found_what_was_removed, kept_what_was_removed, in_the_name_of_another, place_falls_behind_a_page}

-- ---- one writer and one reader

finds_none : Finds reading (codes "a") 0 None
unfolding after
finds_none = record { key = 0; rank = first_rank; value = refl }

finds_it : Finds reading (codes "a") 1 (Some 7)
unfolding after
finds_it = record { key = 0; rank = first_rank; value = refl }

first_put : (slots : ℕ) (updates : List Update) (number val : ℕ) (c : ℕ) → update_at (record { dir = two_names; updates = updates; client = c; slots = slots }) 1 ≡ Some (update c number 0 (PutVal val))
    → IsAnswered (record { dir = two_names; updates = updates; client = c; slots = slots }) [] (line number (Put (codes "a") val)) (reply_at c number 1 (PutReply false))
unfolding after
first_put slots [] number val c there = cc
first_put slots (u ∷ us) number val c there = record {
  client = refl;
  line = refl;
  order = record { within = omega arith; not_below = nowhere _; above = λ is. nowhere _ };
  right = record { key = 0; rank = first_rank; update = there; before = refl };
}

-- the one update is made by the one line
made_once : (parts : List (List RequestLine)) (replies : List (List Placed)) (u : Update) → u.client < length parts
    → Any (IsMadeBy two_names u 1) (answered_lines (lines_of parts u.client) (replies_of (run (u ∷ []) replies) u.client))
    → (i : ℕ) (v : Update) → slice_get (u ∷ []) i ≡ Some v
    → (v.client < length parts) × Any (IsMadeBy two_names v (i + 1)) (answered_lines (lines_of parts v.client) (replies_of (run (u ∷ []) replies) v.client))
made_once parts replies u below made zero v here =
    subst (λ (w : Update). (w.client < length parts) × Any (IsMadeBy two_names w 1) (answered_lines (lines_of parts w.client) (replies_of (run (u ∷ []) replies) w.client))) (same_Some u v here) (below, made)
made_once parts replies u below made (suc i) v here = cc

here_made : (number val : ℕ) (answers : List Answered) (placed : Placed) → placed.at ≡ Some 1
    → Any (IsMadeBy two_names (update 0 number 0 (PutVal val)) 1) (record { asked = line number (Put (codes "a") val); placed = placed } ∷ answers)
here_made number val answers placed at = (zero, record { asked = line number (Put (codes "a") val); placed = placed }, omega arith, refl, record { line = refl; place = at; change = (first_rank, refl) })

legal_looked : (first second : Placed) → AreAnswered reading [] reader (first ∷ second ∷ []) → Legal 9 clients (looked first second)
legal_looked first second answers = record {
  clients = refl;
  answered = answered;
  made = made_once clients (looked first second).replies put_a (omega arith) (here_made 2 7 [] (reply_at 0 2 1 (PutReply false)) refl);
}
  where
    answered : (c : ℕ) → c < 3 → AreAnswered (record { dir = two_names; updates = put_a ∷ []; client = c; slots = 9 }) [] (lines_of clients c) (replies_of (looked first second) c)
    answered zero below = (first_put 9 (put_a ∷ []) 2 7 0 refl, tt)
    answered (suc zero) below = answers
    answered (suc (suc zero)) below = tt
    answered (suc (suc (suc c))) below = absurd (omega arith)

head_late : IsAnswered reading [] (line 4 (Head (codes "a"))) (reply_at 1 4 0 Missing)
head_late = record { client = refl; line = refl; order = record { within = omega arith; not_below = nowhere _; above = tt }; right = finds_none }

head_at_once : IsAnswered reading [] (line 4 (Head (codes "a"))) (reply_at 1 4 1 (Found 7))
head_at_once = record { client = refl; line = refl; order = record { within = omega arith; not_below = nowhere _; above = λ is. nowhere _ }; right = finds_it }

head_later : (first : Placed) → IfSome first.at (λ place. place ≤ 1) → IsAnswered reading (record { asked = line 4 (Head (codes "a")); placed = first } ∷ []) (line 5 (Head (codes "a"))) (reply_at 1 5 1 (Found 7))
head_later first low = record {
  client = refl;
  line = refl;
  order = record {
    within = omega arith;
    not_below = All-cons (λ (a : Answered). IfSome a.placed.at (λ place. place ≤ 1)) _ [] low (nowhere _);
    above = λ is. absurd (let by : 0 ≡ 1 = is.by in omega arith);
  };
  right = finds_it;
}

-- ---- slots

used_by_one : Legal 1 (two_puts ∷ []) second_refused
used_by_one = record {
  clients = refl;
  answered = answered;
  made = made_once (two_puts ∷ []) second_refused.replies put_a (omega arith) (here_made 2 7 (record { asked = line 3 (Put (codes "b") 8); placed = no_slot 0 3 } ∷ []) (reply_at 0 2 1 (PutReply false)) refl);
}
  where
    answered : (c : ℕ) → c < 1 → AreAnswered (record { dir = two_names; updates = put_a ∷ []; client = c; slots = 1 }) [] (lines_of (two_puts ∷ []) c) (replies_of second_refused c)
    answered zero below = (first_put 1 (put_a ∷ []) 2 7 0 refl, (record { client = refl; line = refl; order = tt; right = omega arith }, tt))
    answered (suc c) below = absurd (omega arith)

one_early : ¬ (Legal 2 (two_puts ∷ []) second_refused)
one_early legal = let used : 2 ≤ 1 = (legal.answered 0 (omega arith)).1.0.right in omega arith

by_later : ¬ (Legal 1 (two_puts ∷ []) first_refused)
by_later legal = let used : 1 ≤ 0 = (legal.answered 0 (omega arith)).0.right in omega arith

by_other : ¬ (Legal 1 ((line 4 (Put (codes "b") 8) ∷ []) ∷ two_puts ∷ [])
    (run (update 1 2 0 (PutVal 7) ∷ update 1 3 1 (PutVal 8) ∷ []) ((no_slot 0 4 ∷ []) ∷ (reply_at 1 2 1 (PutReply false) ∷ reply_at 1 3 2 (PutReply false) ∷ []) ∷ [])))
by_other legal = let used : 1 ≤ 0 = (legal.answered 0 (omega arith)).0.right in omega arith

-- ---- puts of a new key

abbrev new_setting : ℕ → Setting
new_setting slots = record { dir = two_names; updates = put_a ∷ []; client = 0; slots = slots }

first_new : (slots : ℕ) → IsAnswered (new_setting slots) [] (line 2 (PutNew (codes "a") 7)) (reply_at 0 2 1 (PutReply false))
unfolding after
first_new slots = record {
  client = refl;
  line = refl;
  order = record { within = omega arith; not_below = nowhere _; above = λ is. nowhere _ };
  right = record { key = 0; rank = first_rank; update = refl; before = refl };
}

new_made : (placed : Placed) (answers : List Answered) → placed.at ≡ Some 1
    → Any (IsMadeBy two_names put_a 1) (record { asked = line 2 (PutNew (codes "a") 7); placed = placed } ∷ answers)
new_made placed answers at =
    (zero, record { asked = line 2 (PutNew (codes "a") 7); placed = placed }, omega arith, refl, record { line = refl; place = at; change = (first_rank, refl) })

finds_seven : (slots : ℕ) → Finds (new_setting slots) (codes "a") 1 (Some 7)
unfolding after
finds_seven slots = record { key = 0; rank = first_rank; value = refl }

-- the one update is of line 2
not_of_three : (slots : ℕ) → All (λ (u : Update). ¬ (IsOf (new_setting slots) 3 u)) (put_a ∷ [])
not_of_three slots =
    All-cons (λ (u : Update). ¬ (IsOf (new_setting slots) 3 u)) put_a [] (λ of. let same : 2 ≡ 3 = of.for_line in omega (arith, same))
    (nowhere (λ (u : Update). ¬ (IsOf (new_setting slots) 3 u)))

abbrev first_done : Answered
first_done = record { asked = line 2 (PutNew (codes "a") 7); placed = reply_at 0 2 1 (PutReply false) }

new_and_kept : Legal 9 (put_new_twice ∷ []) (only_replies (put_a ∷ []) (reply_at 0 2 1 (PutReply false) ∷ reply_at 0 3 1 Exists ∷ []))
new_and_kept = record {
  clients = refl;
  answered = answered;
  made = made_once (put_new_twice ∷ []) ((reply_at 0 2 1 (PutReply false) ∷ reply_at 0 3 1 Exists ∷ []) ∷ []) put_a (omega arith)
      (new_made (reply_at 0 2 1 (PutReply false)) (record { asked = line 3 (PutNew (codes "a") 8); placed = reply_at 0 3 1 Exists } ∷ []) refl);
}
  where
    second : IsAnswered (new_setting 9) (first_done ∷ []) (line 3 (PutNew (codes "a") 8)) (reply_at 0 3 1 Exists)
    second = record {
      client = refl;
      line = refl;
      order = record {
        within = omega arith;
        not_below = All-cons (λ (a : Answered). IfSome a.placed.at (λ place. place ≤ 1)) first_done [] (omega arith) (nowhere _);
        above = λ is. absurd (let same : 2 ≡ 3 = is.for_line in omega (arith, same));
      };
      right = ((7, finds_seven 9), not_of_three 9);
    }

    answered : (c : ℕ) → c < 1 → AreAnswered (record { dir = two_names; updates = put_a ∷ []; client = c; slots = 9 }) [] (lines_of (put_new_twice ∷ []) c)
        (replies_of (only_replies (put_a ∷ []) (reply_at 0 2 1 (PutReply false) ∷ reply_at 0 3 1 Exists ∷ [])) c)
    answered zero below = (first_new 9, (second, tt))
    answered (suc c) below = absurd (omega arith)

new_made_twice : ¬ (Legal 9 (put_new_twice ∷ [])
    (only_replies (put_a ∷ update 0 3 0 (PutVal 8) ∷ []) (reply_at 0 2 1 (PutReply false) ∷ reply_at 0 3 2 (PutReply false) ∷ [])))
unfolding after
new_made_twice legal =
    let right = (legal.answered 0 (omega arith)).1.0.right in
    let absent : false ≡ map_has right.key (after (put_a ∷ update 0 3 0 (PutVal 8) ∷ []) 1) = right.before in
    let there : false ≡ true = absent ∙ ap (λ (k : ℕ). map_has k (after (put_a ∷ update 0 3 0 (PutVal 8) ∷ []) 1)) (only_first right.key right.rank) in
    cc

kept_where_absent : ¬ (Legal 9 (put_new_a ∷ []) (only_replies [] (reply_at 0 2 0 Exists ∷ [])))
unfolding after
kept_where_absent legal =
    let found = (legal.answered 0 (omega arith)).0.right.0 in
    let value : map_get found.1.key (after [] 0) ≡ Some found.0 = found.1.value in
    cc

kept_with_an_update : ¬ (Legal 9 (put_new_a ∷ []) (only_replies (put_a ∷ []) (reply_at 0 2 1 Exists ∷ [])))
kept_with_an_update legal =
    let none = (legal.answered 0 (omega arith)).0.right.1 in
    none 0 put_a (omega arith) (record { by = refl; for_line = refl })

new_slot_used_up : Legal 1 (put_new_twice ∷ []) (only_replies (put_a ∷ []) (reply_at 0 2 1 (PutReply false) ∷ no_slot 0 3 ∷ []))
new_slot_used_up = record {
  clients = refl;
  answered = answered;
  made = made_once (put_new_twice ∷ []) ((reply_at 0 2 1 (PutReply false) ∷ no_slot 0 3 ∷ []) ∷ []) put_a (omega arith)
      (new_made (reply_at 0 2 1 (PutReply false)) (record { asked = line 3 (PutNew (codes "a") 8); placed = no_slot 0 3 } ∷ []) refl);
}
  where
    answered : (c : ℕ) → c < 1 → AreAnswered (record { dir = two_names; updates = put_a ∷ []; client = c; slots = 1 }) [] (lines_of (put_new_twice ∷ []) c)
        (replies_of (only_replies (put_a ∷ []) (reply_at 0 2 1 (PutReply false) ∷ no_slot 0 3 ∷ [])) c)
    answered zero below = (first_new 1, (record { client = refl; line = refl; order = tt; right = omega arith }, tt))
    answered (suc c) below = absurd (omega arith)

new_one_early : ¬ (Legal 2 (put_new_twice ∷ []) (only_replies (put_a ∷ []) (reply_at 0 2 1 (PutReply false) ∷ no_slot 0 3 ∷ [])))
new_one_early legal = let used : 2 ≤ 1 = (legal.answered 0 (omega arith)).1.0.right in omega arith

no_update : ¬ (Legal 1 ((line 2 (Delete (codes "a")) ∷ line 3 (Put (codes "a") 7) ∷ []) ∷ [])
    (run [] ((reply_at 0 2 0 Deleted ∷ no_slot 0 3 ∷ []) ∷ [])))
no_update legal = let used : 1 ≤ 0 = (legal.answered 0 (omega arith)).1.0.right in omega arith

pub run_rows : RunRowsLaw
run_rows = record {
  found_late = legal_looked (reply_at 1 4 0 Missing) (reply_at 1 5 1 (Found 7)) (head_late, (head_later (reply_at 1 4 0 Missing) (omega arith), tt));
  found_at_once = legal_looked (reply_at 1 4 1 (Found 7)) (reply_at 1 5 1 (Found 7)) (head_at_once, (head_later (reply_at 1 4 1 (Found 7)) (omega arith), tt));
  place_falls = λ legal.
      let answers = reader_answered (reply_at 1 4 1 (Found 7)) (reply_at 1 5 0 Missing) legal in
      let low : 1 ≤ 0 = answers.1.0.order.not_below 0 (record { asked = line 4 (Head (codes "a")); placed = reply_at 1 4 1 (Found 7) }) (omega arith) in
      omega arith;
  place_behind_the_history = λ legal.
      let answers = reader_answered (reply_at 1 4 1 (Found 7)) (reply_at 1 5 2 (Found 7)) legal in
      let low : 2 ≤ 1 = answers.1.0.order.within in
      omega arith;
  stale_head = λ legal.
      let answers = reader_answered (reply_at 1 4 0 Missing) (reply_at 1 5 1 Missing) legal in
      cc (finds_at_one None answers.1.0.right);
  of_another_client = λ legal.
      let answers = reader_answered (reply_at 1 4 0 Missing) (reply_at 2 5 1 (Found 7)) legal in
      let same : 2 ≡ 1 = answers.1.0.client in
      omega arith;
  of_another_line = λ legal.
      let answers = reader_answered (reply_at 1 4 0 Missing) (reply_at 1 4 1 (Found 7)) legal in
      let same : 4 ≡ 5 = answers.1.0.line in
      omega arith;
  own_not_above = own_not_above;
  of_nobody = of_nobody;
  stale_page = stale_page;
  slot_used_up = used_by_one;
  one_update_early = one_early;
  by_a_later_line = by_later;
  by_another_client = by_other;
  head_refused = λ legal. absurd (legal.answered 0 (omega arith)).1.0.right;
  list_refused = λ legal. absurd (legal.answered 0 (omega arith)).1.0.right;
  v1_list_refused = λ legal. absurd (legal.answered 0 (omega arith)).1.0.right;
  next_refused = λ legal. absurd (legal.answered 0 (omega arith)).1.0.right;
  new_and_kept = new_and_kept;
  new_that_replaced = λ legal. absurd (legal.answered 0 (omega arith)).0.right;
  new_made_twice = new_made_twice;
  kept_where_absent = kept_where_absent;
  kept_with_an_update = kept_with_an_update;
  new_slot_used_up = new_slot_used_up;
  new_one_update_early = new_one_early;
  new_counts = refl;
  stale_page_beside = stale_page_beside;
  page_of_two_moments = page_of_two_moments;
  stale_put = stale_put;
  stale_new = stale_new;
  stale_removal = stale_removal;
  found_what_was_removed = found_what_was_removed;
  kept_what_was_removed = kept_what_was_removed;
  in_the_name_of_another = in_the_name_of_another;
  place_falls_behind_a_page = place_falls_behind_a_page;
  stale_v1_page = stale_v1_page;
  v1_page_for_a_list = λ legal. absurd (legal.answered 1 (omega arith)).0.right;
  page_for_a_v1_list = λ legal. absurd (legal.answered 1 (omega arith)).0.right;
  next_behind_a_v1_page = next_behind_v1;
  no_update_before = no_update;
}
