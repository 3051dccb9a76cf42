-- Small sessions of one, two and three clients: runs that are legal, and similar runs that are not.
use Rattle.std.specs.Prelude.{◌≡◌, ℕ, List, [], ◌∷◌, codes, true, false, Some, None}
use Rattle.key_map.specs.declared.update.Update.{Update}
use Rattle.key_map.specs.declared.update.Change.{Change}
use Rattle.key_map.specs.declared.update.Change.TheVariants.{Put as PutVal, Remove}
use Rattle.bucket_terms.specs.declared.v1_query.V1Query.{V1Query}
use Rattle.bucket_terms.specs.declared.page.PageEntry.{PageEntry}
use Rattle.bucket_terms.specs.declared.page.PageEntry.TheVariants.{Key}
use Rattle.bucket_terms.specs.declared.request.Request.{Request}
use Rattle.bucket_terms.specs.declared.request.Request.TheVariants.{Put, PutNew, Delete, Head, List as ListRequest, ListV1, Next}
use Rattle.bucket_terms.specs.declared.reply.Reply.{Reply}
use Rattle.bucket_terms.specs.declared.reply.Reply.TheVariants.{Put as PutReply, Exists, Deleted, Found, Missing, Listed, ListedV1, NoSlot}
use Rattle.bucket_terms.specs.declared.reply.Placed.{Placed}
use Rattle.bucket_terms.specs.LegalRun.{RequestLine, Run, IsLegal, slots_of}
use Rattle.request_lines.specs.SampleSession.{plain_query}

-- the directory of the names `a` and `b`
abbrev pub two_names : List (List ℕ)
two_names = codes "a" ∷ codes "b" ∷ []

-- a line; an update, a reply with a place and one without, each of this client and line; and a run
abbrev pub line : ℕ → Request → RequestLine
line number request = record { line = number; request = request }

abbrev pub update : ℕ → ℕ → ℕ → Change → Update
update client number key change = record { client = client; line = number; key = key; change = change }

abbrev pub reply_at : ℕ → ℕ → ℕ → Reply → Placed
reply_at client number at reply = record { client = client; line = number; at = Some at; reply = reply }

abbrev pub no_slot : ℕ → ℕ → Placed
no_slot client number = record { client = client; line = number; at = None; reply = NoSlot }

abbrev pub run : List Update → List (List Placed) → Run
run updates replies = record { updates = updates; replies = replies }

abbrev pub list_all : Request
list_all = ListRequest plain_query

abbrev pub page : List PageEntry → Reply
page entries = Listed plain_query (record { entries = entries; truncated = false })

-- the same listing of version 1
abbrev pub v1_query : V1Query
v1_query = record { prefix = []; delimiter = []; marker = []; max_keys = 1000; url = false }

abbrev pub list_v1 : Request
list_v1 = ListV1 v1_query

abbrev pub v1_reply : List PageEntry → Reply
v1_reply entries = ListedV1 v1_query (record { entries = entries; truncated = false })

-- each client has this many node slots
abbrev pub Legal : ℕ → List (List RequestLine) → Run → Type 0
Legal slots parts r = IsLegal two_names parts (λ client. slots) r

-- a client puts `a`, and another one looks for it: it may find it or not; a third one does nothing
abbrev pub writer : List RequestLine
writer = line 2 (Put (codes "a") 7) ∷ []

abbrev pub reader : List RequestLine
reader = line 4 (Head (codes "a")) ∷ line 5 (Head (codes "a")) ∷ []

abbrev pub clients : List (List RequestLine)
clients = writer ∷ reader ∷ [] ∷ []

abbrev pub put_a : Update
put_a = update 0 2 0 (PutVal 7)

abbrev pub looked : Placed → Placed → Run
looked first second = run (put_a ∷ []) ((reply_at 0 2 1 (PutReply false) ∷ []) ∷ (first ∷ second ∷ []) ∷ [] ∷ [])

-- two puts of a client, the second of which is refused
abbrev pub two_puts : List RequestLine
two_puts = line 2 (Put (codes "a") 7) ∷ line 3 (Put (codes "b") 8) ∷ []

abbrev pub second_refused : Run
second_refused = run (put_a ∷ []) ((reply_at 0 2 1 (PutReply false) ∷ no_slot 0 3 ∷ []) ∷ [])

abbrev pub first_refused : Run
first_refused = run (update 0 3 1 (PutVal 8) ∷ []) ((no_slot 0 2 ∷ reply_at 0 3 1 (PutReply false) ∷ []) ∷ [])

-- a client puts `a`, and has another request, which is refused
abbrev pub put_and : Request → List RequestLine
put_and request = line 2 (Put (codes "a") 7) ∷ line 3 request ∷ []

abbrev pub put_and_refused : Run
put_and_refused = run (put_a ∷ []) ((reply_at 0 2 1 (PutReply false) ∷ no_slot 0 3 ∷ []) ∷ [])

-- a client puts `a` if it is not there; a second such line, of the same client or of another one, finds it there
abbrev pub put_new_a : List RequestLine
put_new_a = line 2 (PutNew (codes "a") 7) ∷ []

abbrev pub put_new_twice : List RequestLine
put_new_twice = line 2 (PutNew (codes "a") 7) ∷ line 3 (PutNew (codes "a") 8) ∷ []

abbrev pub only_replies : List Update → List Placed → Run
only_replies updates replies = run updates (replies ∷ [])

-- besides the writer, another client has one request, which is answered after the update of `a` and these
abbrev pub beside : Request → List (List RequestLine)
beside request = writer ∷ (line 4 request ∷ []) ∷ []

abbrev pub answered_beside : List Update → Placed → Run
answered_beside updates answer = run (put_a ∷ updates) ((reply_at 0 2 1 (PutReply false) ∷ []) ∷ (answer ∷ []) ∷ [])

-- a client puts `a`, removes it and puts `b`; another one has one request
abbrev pub three_changes : Request → List (List RequestLine)
three_changes request = (line 2 (Put (codes "a") 7) ∷ line 3 (Delete (codes "a")) ∷ line 4 (Put (codes "b") 8) ∷ []) ∷ (line 6 request ∷ []) ∷ []

abbrev pub after_three : Placed → Run
after_three answer =
    run (put_a ∷ update 0 3 0 Remove ∷ update 0 4 1 (PutVal 8) ∷ [])
    ((reply_at 0 2 1 (PutReply false) ∷ reply_at 0 3 2 Deleted ∷ reply_at 0 4 3 (PutReply false) ∷ []) ∷ (answer ∷ []) ∷ [])

pub record RunRowsLaw : Type 0 where
  pub found_late : Legal 9 clients (looked (reply_at 1 4 0 Missing) (reply_at 1 5 1 (Found 7)))
  pub found_at_once : Legal 9 clients (looked (reply_at 1 4 1 (Found 7)) (reply_at 1 5 1 (Found 7)))
  pub place_falls : ¬ (Legal 9 clients (looked (reply_at 1 4 1 (Found 7)) (reply_at 1 5 0 Missing)))
  pub place_behind_the_history : ¬ (Legal 9 clients (looked (reply_at 1 4 1 (Found 7)) (reply_at 1 5 2 (Found 7))))
  pub stale_head : ¬ (Legal 9 clients (looked (reply_at 1 4 0 Missing) (reply_at 1 5 1 Missing)))
  pub of_another_client : ¬ (Legal 9 clients (looked (reply_at 1 4 0 Missing) (reply_at 2 5 1 (Found 7))))
  pub of_another_line : ¬ (Legal 9 clients (looked (reply_at 1 4 0 Missing) (reply_at 1 4 1 (Found 7))))
  -- an own update that an earlier reply to the client has shown
  pub own_not_above : ¬ (Legal 9 ((line 2 (Head (codes "a")) ∷ line 3 (Put (codes "a") 7) ∷ []) ∷ [])
      (run (update 0 3 0 (PutVal 7) ∷ []) ((reply_at 0 2 1 (Found 7) ∷ reply_at 0 3 1 (PutReply false) ∷ []) ∷ [])))
  -- the journal has an update that no line made
  pub of_nobody : ¬ (Legal 9 ((line 2 (Head (codes "a")) ∷ []) ∷ []) (run (update 0 3 0 (PutVal 7) ∷ []) ((reply_at 0 2 0 Missing ∷ []) ∷ [])))
  pub stale_page : ¬ (Legal 9 ((line 2 (Put (codes "a") 7) ∷ line 3 list_all ∷ []) ∷ [])
      (run (put_a ∷ []) ((reply_at 0 2 1 (PutReply false) ∷ reply_at 0 3 1 (page []) ∷ []) ∷ [])))
  -- one node slot is used up by one update, and two are not; later lines and other clients do not count
  pub slot_used_up : Legal 1 (two_puts ∷ []) second_refused
  pub one_update_early : ¬ (Legal 2 (two_puts ∷ []) second_refused)
  pub by_a_later_line : ¬ (Legal 1 (two_puts ∷ []) first_refused)
  pub by_another_client : ¬ (Legal 1 ((line 4 (Put (codes "b") 8) ∷ []) ∷ two_puts ∷ [])
      (run (update 1 2 0 (PutVal 7) ∷ update 1 3 1 (PutVal 8) ∷ []) ((no_slot 0 4 ∷ []) ∷ (reply_at 1 2 1 (PutReply false) ∷ reply_at 1 3 2 (PutReply false) ∷ []) ∷ [])))
  -- no look is refused, whatever slots are used up
  pub head_refused : ¬ (Legal 1 (put_and (Head (codes "a")) ∷ []) put_and_refused)
  pub list_refused : ¬ (Legal 1 (put_and list_all ∷ []) put_and_refused)
  pub v1_list_refused : ¬ (Legal 1 (put_and list_v1 ∷ []) put_and_refused)
  pub next_refused : ¬ (Legal 1 (put_and Next ∷ []) put_and_refused)
  -- the first of two puts of a new key is made, and the second finds it there
  pub new_and_kept : Legal 9 (put_new_twice ∷ []) (only_replies (put_a ∷ []) (reply_at 0 2 1 (PutReply false) ∷ reply_at 0 3 1 Exists ∷ []))
  pub new_that_replaced : ¬ (Legal 9 (put_new_a ∷ []) (only_replies (put_a ∷ []) (reply_at 0 2 1 (PutReply true) ∷ [])))
  pub new_made_twice : ¬ (Legal 9 (put_new_twice ∷ [])
      (only_replies (put_a ∷ update 0 3 0 (PutVal 8) ∷ []) (reply_at 0 2 1 (PutReply false) ∷ reply_at 0 3 2 (PutReply false) ∷ [])))
  pub kept_where_absent : ¬ (Legal 9 (put_new_a ∷ []) (only_replies [] (reply_at 0 2 0 Exists ∷ [])))
  pub kept_with_an_update : ¬ (Legal 9 (put_new_a ∷ []) (only_replies (put_a ∷ []) (reply_at 0 2 1 Exists ∷ [])))
  -- a PUTNEW line may use up a slot, and counts for the slots that a client has
  pub new_slot_used_up : Legal 1 (put_new_twice ∷ []) (only_replies (put_a ∷ []) (reply_at 0 2 1 (PutReply false) ∷ no_slot 0 3 ∷ []))
  pub new_one_update_early : ¬ (Legal 2 (put_new_twice ∷ []) (only_replies (put_a ∷ []) (reply_at 0 2 1 (PutReply false) ∷ no_slot 0 3 ∷ [])))
  pub new_counts : slots_of (put_new_twice ∷ []) 0 ≡ 3
  -- replies that miss what another client changed before their place: a page, a put, a removal and a HEAD are each of
  -- one moment
  pub stale_page_beside : ¬ (Legal 9 (beside list_all) (answered_beside [] (reply_at 1 4 1 (page []))))
  pub page_of_two_moments : ¬ (Legal 9 (three_changes list_all) (after_three (reply_at 1 6 3 (page (Key 0 7 ∷ Key 1 8 ∷ [])))))
  pub stale_put : ¬ (Legal 9 (beside (Put (codes "a") 8)) (answered_beside (update 1 4 0 (PutVal 8) ∷ []) (reply_at 1 4 2 (PutReply false))))
  -- a put of a new key that does not see the key that another client put, or sees one that was removed again
  pub stale_new : ¬ (Legal 9 (beside (PutNew (codes "a") 8)) (answered_beside (update 1 4 0 (PutVal 8) ∷ []) (reply_at 1 4 2 (PutReply false))))
  pub kept_what_was_removed : ¬ (Legal 9 (three_changes (PutNew (codes "a") 9)) (after_three (reply_at 1 6 2 Exists)))
  pub stale_removal : ¬ (Legal 9 (beside (Delete (codes "a"))) (answered_beside [] (reply_at 1 4 1 Deleted)))
  pub found_what_was_removed : ¬ (Legal 9 (three_changes (Head (codes "a"))) (after_three (reply_at 1 6 2 (Found 7))))
  -- a removal recorded under another client
  pub in_the_name_of_another : ¬ (Legal 9 (beside (Delete (codes "a"))) (answered_beside (update 0 4 0 Remove ∷ []) (reply_at 1 4 2 Deleted)))
  pub place_falls_behind_a_page : ¬ (Legal 9 (writer ∷ (line 4 list_all ∷ line 5 (Head (codes "a")) ∷ []) ∷ [])
      (run (put_a ∷ []) ((reply_at 0 2 1 (PutReply false) ∷ []) ∷ (reply_at 1 4 1 (page (Key 0 7 ∷ [])) ∷ reply_at 1 5 0 Missing ∷ []) ∷ [])))
  -- a page of version 1 is of one moment; it answers no LIST, nor does a page of version 2 answer a LISTV1, and NEXT
  -- skips it
  pub stale_v1_page : ¬ (Legal 9 (beside list_v1) (answered_beside [] (reply_at 1 4 1 (v1_reply []))))
  pub v1_page_for_a_list : ¬ (Legal 9 (beside list_all) (answered_beside [] (reply_at 1 4 1 (v1_reply (Key 0 7 ∷ [])))))
  pub page_for_a_v1_list : ¬ (Legal 9 (beside list_v1) (answered_beside [] (reply_at 1 4 1 (page (Key 0 7 ∷ [])))))
  pub next_behind_a_v1_page : ¬ (Legal 9 (writer ∷ (line 4 list_v1 ∷ line 5 Next ∷ []) ∷ [])
      (run (put_a ∷ []) ((reply_at 0 2 1 (PutReply false) ∷ []) ∷ (reply_at 1 4 1 (v1_reply (Key 0 7 ∷ [])) ∷ reply_at 1 5 1 (page (Key 0 7 ∷ [])) ∷ []) ∷ [])))
  -- the removal of an absent key uses no slot
  pub no_update_before : ¬ (Legal 1 ((line 2 (Delete (codes "a")) ∷ line 3 (Put (codes "a") 7) ∷ []) ∷ [])
      (run [] ((reply_at 0 2 0 Deleted ∷ no_slot 0 3 ∷ []) ∷ [])))
