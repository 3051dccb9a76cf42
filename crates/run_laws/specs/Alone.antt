-- What a client alone is answered, one request after the other, also to a token and to NEXT: each reply with its place,
-- and the updates that stand after it.
use Rattle.std.specs.Prelude.{◌≡◌, ℕ, ◌+◌, false, if◌then◌else◌, List, [], ◌∷◌, ◌++◌, length, Option, Some, None}
use Rattle.key_map.specs.declared.update.Update.{Update}
use Rattle.key_map.specs.declared.update.Change.{Change}
use Rattle.key_map.specs.declared.update.Change.TheVariants.{Put as PutVal, Remove}
use Rattle.key_map.specs.KeyMap.{map_has}
use Rattle.bucket_terms.specs.declared.list_query.ListQuery.{ListQuery}
use Rattle.bucket_terms.specs.declared.token_point.TokenPoint.{TokenPoint}
use Rattle.bucket_terms.specs.declared.request.Request.{Request}
use Rattle.bucket_terms.specs.declared.request.Request.TheVariants.{Put, PutNew, Delete, Head, List as ListRequest, ListV1, Next}
use Rattle.bucket_terms.specs.declared.reply.Reply.{Reply}
use Rattle.bucket_terms.specs.declared.reply.Reply.TheVariants.{Put as PutReply, Exists, Deleted, Listed, ListedV1, BadToken}
use Rattle.bucket_terms.specs.declared.reply.Placed.{Placed}
use Rattle.bucket_terms.specs.Listing.{page_of, v1_page}
use Rattle.bucket_terms.specs.LegalRun.{RequestLine, Resumed, IsPointOf, next_of, is_listing}
use Rattle.bucket_terms.specs.RunParts.{head_answer}
use Rattle.sample_laws.specs.Alone.{rank_of}
use Rattle.sample_laws.specs.Finds.{map_of}

-- where the listing of a request begins: a LIST at the point of its token, or nowhere if the text is not the token of
-- any point
abbrev pub IsResolved : Request → Option (Option TokenPoint) → Type 0
IsResolved (ListRequest query) (Some point) = IsPointOf query point
IsResolved (ListRequest query) None = (point : Option TokenPoint) → ¬ (IsPointOf query point)
IsResolved request start = start ≡ None

-- the outcome of a request: its place, if it has one, its reply, and the updates after it
pub record Outcome : Type 0 where
  pub at : Option ℕ
  pub reply : Reply
  pub updates : List Update

-- the request's own update stands at the end
abbrev pub makes : ℕ → ℕ → List Update → ℕ → Change → Reply → Outcome
makes client line us key change reply =
    record { at = Some (length us + 1); reply = reply; updates = us ++ record { client = client; line = line; key = key; change = change } ∷ [] }

-- the reply is that of a look at the map after all updates
abbrev pub looks : List Update → Reply → Outcome
looks us reply = record { at = Some (length us); reply = reply; updates = us }

-- the request is refused
abbrev pub is_refused : List Update → Outcome
is_refused us = record { at = None; reply = BadToken; updates = us }

abbrev pub list_on : List (List ℕ) → List Update → ListQuery → Option (Option TokenPoint) → Outcome
list_on dir us query (Some point) = looks us (Listed query (page_of dir query point (map_of us)))
list_on dir us query None = is_refused us

abbrev pub next_on : List (List ℕ) → List Update → Option Resumed → Outcome
next_on dir us (Some next) = looks us (Listed next.query (page_of dir next.query (Some next.point) (map_of us)))
next_on dir us None = is_refused us

-- the outcome of a request of this client and line, after these updates and this reply of the last listing
abbrev pub outcome_on : List (List ℕ) → ℕ → List Update → Option Reply → ℕ → Request → Option (Option TokenPoint) → Outcome
outcome_on dir client us last line (Put name val) start =
    makes client line us (rank_of dir name) (PutVal val) (PutReply (map_has (rank_of dir name) (map_of us)))
outcome_on dir client us last line (PutNew name val) start =
    if map_has (rank_of dir name) (map_of us) then looks us Exists else makes client line us (rank_of dir name) (PutVal val) (PutReply false)
outcome_on dir client us last line (Delete name) start =
    if map_has (rank_of dir name) (map_of us) then makes client line us (rank_of dir name) Remove Deleted else looks us Deleted
outcome_on dir client us last line (Head name) start = looks us (head_answer (rank_of dir name) (map_of us))
outcome_on dir client us last line (ListRequest query) start = list_on dir us query start
outcome_on dir client us last line (ListV1 query) start = looks us (ListedV1 query (v1_page dir query (map_of us)))
outcome_on dir client us last line Next start = next_on dir us (next_of dir last)

abbrev pub placed_as : ℕ → ℕ → Outcome → Placed
placed_as client line o = record { client = client; line = line; at = o.at; reply = o.reply }

-- the reply of the last listing after this one
abbrev pub later_listing : Request → Reply → Option Reply → Option Reply
later_listing request reply last = if is_listing request then Some reply else last

-- the lines are answered so in order, after these updates and this reply of the last listing, and `end` are the
-- updates after all of them
abbrev pub AreAlone : List (List ℕ) → ℕ → List Update → Option Reply → List RequestLine → List Placed → List Update → Type 0
AreAlone dir client us last [] [] end = end ≡ us
AreAlone dir client us last (l ∷ lines) (r ∷ replies) end =
    (start : Option (Option TokenPoint)) × (IsResolved l.request start × ((r ≡ placed_as client l.line (outcome_on dir client us last l.line l.request start))
    × AreAlone dir client (outcome_on dir client us last l.line l.request start).updates
    (later_listing l.request (outcome_on dir client us last l.line l.request start).reply last) lines replies end))
AreAlone dir client us last lines replies end = ⊥
