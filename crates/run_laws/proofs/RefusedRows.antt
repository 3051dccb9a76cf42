-- Small sessions: runs that are not legal, since an answer does not fit the updates.
use Rattle.std.proofs.Common.{◌≡◌, ℕ, zero, suc, ◌<◌, ◌≤◌, true, false, List, [], ◌∷◌, length, codes, get_or, refl, sym, ap, ◌∙◌, arith, inl, inr, Option, Some, None, All}
use Rattle.std.proofs.lemmas.Option.{same_Some}
use Rattle.std.proofs.lemmas.List.Elements.{All-nil, All-cons}
use Rattle.key_map.specs.KeyMap.{map_has, map_get, after}
use Rattle.key_map.specs.declared.update.Update.{Update}
use Rattle.key_map.specs.declared.update.Change.TheVariants.{Put as PutVal, Remove}
use Rattle.key_names.specs.Names.{IsRank}
use Rattle.bucket_terms.specs.declared.page.Page.{Page}
use Rattle.bucket_terms.specs.declared.page.PageEntry.TheVariants.{Key}
use Rattle.bucket_terms.specs.declared.token_point.TokenPoint.{TokenPoint}
use Rattle.bucket_terms.specs.LegalRun.{Answered, AreAnswered, IsMadeBy, IsPointOf, Setting, Finds, IsRight}
use Rattle.bucket_terms.specs.Listing.{entries_of, group_len, page_of}
use Rattle.bucket_terms.specs.declared.reply.Placed.{Placed}
use Rattle.bucket_terms.specs.declared.reply.Reply.TheVariants.{Put as PutReply, Exists, Found, Missing, Deleted}
use Rattle.bucket_terms.specs.declared.request.Request.TheVariants.{Put, PutNew, Head, Delete, Next}
use Rattle.request_lines.specs.SampleSession.{plain_query}
use Rattle.run_laws.specs.RunRows.{two_names, line, update, reply_at, run, list_all, page, list_v1, v1_reply, Legal, writer, reader, clients, put_a, looked, beside, answered_beside, three_changes, after_three}
use Rattle.sample_laws.proofs.Places.{any_all}
use Rattle.sample_laws.proofs.Ranks.{no_token}

-- the rank of `a`, and that of `b`
pub first_rank : IsRank two_names (codes "a") 0
first_rank = record { below = omega arith; is = refl }

second_rank : IsRank two_names (codes "b") 1
second_rank = record { below = omega arith; is = refl }

-- a name has one rank
pub only_first : (key : ℕ) → IsRank two_names (codes "a") key → key ≡ 0
only_first zero rank = refl
only_first (suc zero) rank = let no : 98 ≡ 97 = ap (λ (name : List ℕ). get_or name 0 0) rank.is in absurd (omega (arith, no))
only_first (suc (suc key)) rank = absurd (let low = rank.below in omega arith)

pub nowhere : {X : Type 0} (P : X → Type 0) → All P []
nowhere P = All-nil P

-- the session of the reader
abbrev pub reading : Setting
reading = record { dir = two_names; updates = put_a ∷ []; client = 1; slots = 9 }

-- ---- what is not legal

module _ (first second : Placed) (legal : Legal 9 clients (looked first second)) where
  pub reader_answered : AreAnswered reading [] reader (first ∷ second ∷ [])
  reader_answered = legal.answered 1 (omega arith)

pub finds_at_one : (value : Option ℕ) → Finds reading (codes "a") 1 value → value ≡ Some 7
unfolding after
finds_at_one value found = sym found.value ∙ ap (λ (k : ℕ). map_get k (after (put_a ∷ []) 1)) (only_first found.key found.rank)

pub own_not_above : ¬ (Legal 9 ((line 2 (Head (codes "a")) ∷ line 3 (Put (codes "a") 7) ∷ []) ∷ [])
    (run (update 0 3 0 (PutVal 7) ∷ []) ((reply_at 0 2 1 (Found 7) ∷ reply_at 0 3 1 (PutReply false) ∷ []) ∷ [])))
own_not_above legal =
    let answers = legal.answered 0 (omega arith) in
    let above = answers.1.0.order.above (record { by = refl; for_line = refl }) in
    let low : 1 < 1 = above 0 (record { asked = line 2 (Head (codes "a")); placed = reply_at 0 2 1 (Found 7) }) (omega arith) in
    omega arith

pub of_nobody : ¬ (Legal 9 ((line 2 (Head (codes "a")) ∷ []) ∷ []) (run (update 0 3 0 (PutVal 7) ∷ []) ((reply_at 0 2 0 Missing ∷ []) ∷ [])))
of_nobody legal =
    let made = (legal.made 0 (update 0 3 0 (PutVal 7)) refl).1 in
    let a : Answered = record { asked = line 2 (Head (codes "a")); placed = reply_at 0 2 0 Missing } in
    let by = any_all (IsMadeBy two_names (update 0 3 0 (PutVal 7)) 1) (λ (b : Answered). b.asked.line ≡ 2) (a ∷ []) made (All-cons (λ (b : Answered). b.asked.line ≡ 2) a [] refl (nowhere (λ (b : Answered). b.asked.line ≡ 2))) in
    let other : by.0.asked.line ≡ 3 = by.1.0.line in
    let same : by.0.asked.line ≡ 2 = by.1.1 in
    omega (arith, other, same)

whole_page : (updates : List Update) → updates ≡ put_a ∷ [] → length (page_of two_names plain_query None (after updates 1)).entries ≡ 1
unfolding after entries_of group_len
whole_page updates is = ap (λ (us : List Update). length (page_of two_names plain_query None (after us 1)).entries) is

not_empty : (point : Option TokenPoint) → IsPointOf plain_query point → record { entries = []; truncated = false } ≡ page_of two_names plain_query point (after (put_a ∷ []) 1) → ⊥
not_empty None of is = let none : 0 ≡ 1 = ap (λ (p : Page). length p.entries) is ∙ whole_page (put_a ∷ []) refl in omega (arith, none)
not_empty (Some point) of is = no_token (record { point = point; bound = of.0 }) [] refl of.1.1

pub stale_page : ¬ (Legal 9 ((line 2 (Put (codes "a") 7) ∷ line 3 list_all ∷ []) ∷ [])
    (run (put_a ∷ []) ((reply_at 0 2 1 (PutReply false) ∷ reply_at 0 3 1 (page []) ∷ []) ∷ [])))
stale_page legal =
    let right = (legal.answered 0 (omega arith)).1.0.right in
    not_empty right.0 right.1.0 right.1.1.1

-- ---- next to another client's updates

abbrev changes : List Update
changes = put_a ∷ update 0 3 0 Remove ∷ update 0 4 1 (PutVal 8) ∷ []

one_entry : (updates : List Update) → updates ≡ changes → length (page_of two_names plain_query None (after updates 3)).entries ≡ 1
unfolding after entries_of group_len
one_entry updates is = ap (λ (us : List Update). length (page_of two_names plain_query None (after us 3)).entries) is

pub stale_page_beside : ¬ (Legal 9 (beside list_all) (answered_beside [] (reply_at 1 4 1 (page []))))
stale_page_beside legal = let right = (legal.answered 1 (omega arith)).0.right in not_empty right.0 right.1.0 right.1.1.1

pub stale_v1_page : ¬ (Legal 9 (beside list_v1) (answered_beside [] (reply_at 1 4 1 (v1_reply []))))
stale_v1_page legal = let right = (legal.answered 1 (omega arith)).0.right in not_empty None refl right.1

pub next_behind_v1 : ¬ (Legal 9 (writer ∷ (line 4 list_v1 ∷ line 5 Next ∷ []) ∷ [])
    (run (put_a ∷ []) ((reply_at 0 2 1 (PutReply false) ∷ []) ∷ (reply_at 1 4 1 (v1_reply (Key 0 7 ∷ [])) ∷ reply_at 1 5 1 (page (Key 0 7 ∷ [])) ∷ []) ∷ [])))
next_behind_v1 legal = let right = (legal.answered 1 (omega arith)).1.0.right in cc right.1.0

pub page_of_two_moments : ¬ (Legal 9 (three_changes list_all) (after_three (reply_at 1 6 3 (page (Key 0 7 ∷ Key 1 8 ∷ [])))))
page_of_two_moments legal =
    let right = (legal.answered 1 (omega arith)).0.right in
    by_point right.0 right.1.0 right.1.1.1
  where
    by_point : (point : Option TokenPoint) → IsPointOf plain_query point → record { entries = Key 0 7 ∷ Key 1 8 ∷ []; truncated = false } ≡ page_of two_names plain_query point (after changes 3) → ⊥
    by_point None of is = let two : 2 ≡ 1 = ap (λ (p : Page). length p.entries) is ∙ one_entry changes refl in omega (arith, two)
    by_point (Some point) of is = no_token (record { point = point; bound = of.0 }) [] refl of.1.1

-- `a` is there after the first update
there_at_one : (updates : List Update) → map_has 0 (after (put_a ∷ updates) 1) ≡ true
unfolding after
there_at_one updates = refl

pub stale_put : ¬ (Legal 9 (beside (Put (codes "a") 8)) (answered_beside (update 1 4 0 (PutVal 8) ∷ []) (reply_at 1 4 2 (PutReply false))))
stale_put legal =
    let stands = (legal.answered 1 (omega arith)).0.right in
    let us : List Update = put_a ∷ update 1 4 0 (PutVal 8) ∷ [] in
    cc (stands.before, ap (λ (k : ℕ). map_has k (after us 1)) (only_first stands.key stands.rank), there_at_one (update 1 4 0 (PutVal 8) ∷ []))

pub stale_new : ¬ (Legal 9 (beside (PutNew (codes "a") 8)) (answered_beside (update 1 4 0 (PutVal 8) ∷ []) (reply_at 1 4 2 (PutReply false))))
stale_new legal =
    let stands = (legal.answered 1 (omega arith)).0.right in
    let us : List Update = put_a ∷ update 1 4 0 (PutVal 8) ∷ [] in
    cc (stands.before, ap (λ (k : ℕ). map_has k (after us 1)) (only_first stands.key stands.rank), there_at_one (update 1 4 0 (PutVal 8) ∷ []))

pub stale_removal : ¬ (Legal 9 (beside (Delete (codes "a"))) (answered_beside [] (reply_at 1 4 1 Deleted)))
stale_removal legal = by_case (legal.answered 1 (omega arith)).0.right
  where
    by_case : IsRight reading None (line 4 (Delete (codes "a"))) (Some 1) Deleted → ⊥
    by_case (inl stands) = let other : 0 ≡ 1 = ap (λ (u : Update). u.client) (same_Some put_a _ stands.update) in omega (arith, other)
    by_case (inr absent) = cc (finds_at_one None absent.0)

gone_at_two : map_get 0 (after changes 2) ≡ None
unfolding after
gone_at_two = refl

pub found_what_was_removed : ¬ (Legal 9 (three_changes (Head (codes "a"))) (after_three (reply_at 1 6 2 (Found 7))))
found_what_was_removed legal =
    let found = (legal.answered 1 (omega arith)).0.right in
    cc (found.value, ap (λ (k : ℕ). map_get k (after changes 2)) (only_first found.key found.rank), gone_at_two)

pub kept_what_was_removed : ¬ (Legal 9 (three_changes (PutNew (codes "a") 9)) (after_three (reply_at 1 6 2 Exists)))
kept_what_was_removed legal =
    let found = (legal.answered 1 (omega arith)).0.right.0.1 in
    cc (found.value, ap (λ (k : ℕ). map_get k (after changes 2)) (only_first found.key found.rank), gone_at_two)

pub in_the_name_of_another : ¬ (Legal 9 (beside (Delete (codes "a"))) (answered_beside (update 0 4 0 Remove ∷ []) (reply_at 1 4 2 Deleted)))
in_the_name_of_another legal =
    let made = (legal.made 1 (update 0 4 0 Remove) refl).1 in
    let a : Answered = record { asked = line 2 (Put (codes "a") 7); placed = reply_at 0 2 1 (PutReply false) } in
    let by = any_all (IsMadeBy two_names (update 0 4 0 Remove) 2) (λ (b : Answered). b.asked.line ≡ 2) (a ∷ []) made (All-cons (λ (b : Answered). b.asked.line ≡ 2) a [] refl (nowhere (λ (b : Answered). b.asked.line ≡ 2))) in
    let other : by.0.asked.line ≡ 4 = by.1.0.line in
    let same : by.0.asked.line ≡ 2 = by.1.1 in
    omega (arith, other, same)

pub place_falls_behind_a_page : ¬ (Legal 9 (writer ∷ (line 4 list_all ∷ line 5 (Head (codes "a")) ∷ []) ∷ [])
    (run (put_a ∷ []) ((reply_at 0 2 1 (PutReply false) ∷ []) ∷ (reply_at 1 4 1 (page (Key 0 7 ∷ [])) ∷ reply_at 1 5 0 Missing ∷ []) ∷ [])))
place_falls_behind_a_page legal =
    let answers = legal.answered 1 (omega arith) in
    let low : 1 ≤ 0 = answers.1.0.order.not_below 0 (record { asked = line 4 list_all; placed = reply_at 1 4 1 (page (Key 0 7 ∷ [])) }) (omega arith) in
    omega arith
