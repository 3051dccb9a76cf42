-- A legal run of a session: the updates that were made, in order, and a placed reply for each request.
-- A session is seen here as each client's list of request lines.
use Rattle.std.specs.Prelude.{◌≡◌, ℕ, zero, suc, ◌+◌, ◌-◌, ◌<◌, ◌≤◌, ◌⊎◌, ◌==◌, ◌&&◌, nat_lt, Bool, true, false, MatchBool, List, [], ◌∷◌, ◌++◌, length, count_by, filter, All, Any, Option, Some, None, is_some, IfSome, MatchOption, slice_get, slice_index_or}
use Rattle.std.specs.{List.last_or, Option.option_map, Option.unwrap_or}
use Rattle.key_names.specs.Names.{IsRank}
use Rattle.key_map.specs.declared.{update.Update.Update, update.Change.Change}
use Rattle.key_map.specs.declared.update.Change.TheVariants.{Put as PutVal, Remove}
use Rattle.key_map.specs.KeyMap.{map_has, map_get, after}
use Rattle.bucket_terms.specs.declared.{list_query.ListQuery.ListQuery, token_point.TokenPoint.TokenPoint, token.Bound.Bound, page.Page.Page}
use Rattle.bucket_terms.specs.declared.{request.Request.Request, reply.Reply.Reply, reply.Placed.Placed}
use Rattle.bucket_terms.specs.declared.request.Request.TheVariants.{Put, PutNew, Delete, Head, List as ListRequest, ListV1, Next}
use Rattle.bucket_terms.specs.declared.reply.Reply.TheVariants.{Put as PutReply, Exists, Deleted, Found, Missing, Listed, ListedV1, BadToken, NoSlot}
use Rattle.bucket_terms.specs.Listing.{IsTokenOf, next_token, bound_of, page_of, page_point, v1_page}

-- one request and the number of its line
pub record RequestLine : Type 0 where
  pub line : ℕ
  pub request : Request

-- a request that was answered
pub record Answered : Type 0 where
  pub asked : RequestLine
  pub placed : Placed

-- what a client is answered in: the names, the history of updates, its number, and how many node slots it has
pub record Setting : Type 0 where
  pub dir : List (List ℕ)
  pub updates : List Update
  pub client : ℕ
  pub slots : ℕ

-- ---- resolved requests

-- the point from which a listing goes on: none without a token, or that of the token whose text it is; a token with a
-- bound fits only a listing of that prefix and delimiter, and one without a bound fits each
abbrev pub IsPointOf : ListQuery → Option TokenPoint → Type 0
IsPointOf query None = query.token ≡ []
IsPointOf query (Some point) =
    (bound : Option Bound) × (IfSome bound (λ bound. bound ≡ bound_of query) × IsTokenOf (record { point = point; bound = bound }) query.token)

-- the query and the point with which a listing goes on
pub record Resumed : Type 0 where
  pub query : ListQuery
  pub point : TokenPoint

-- where NEXT goes on: after the page of the client's last LIST or NEXT, if that was truncated; LISTV1 is passed over
abbrev pub next_of : List (List ℕ) → Option Reply → Option Resumed
next_of dir (Some (Listed query page)) =
    option_map (λ point. record { query = record query { token = next_token query point }; point = point }) (page_point dir page)
next_of dir last = None

abbrev pub is_listing : Request → Bool
is_listing (ListRequest query) = true
is_listing Next = true
is_listing _ = false

-- the reply of the last LIST or NEXT
abbrev pub last_listing : List Answered → Option Reply
last_listing earlier =
    option_map (λ (answered : Answered). answered.placed.reply) (last_or None (filter (λ (answered : Answered). is_listing answered.asked.request) earlier))

-- ---- requests that may make an update

-- what a request asks to change: the name, and what becomes of it
pub record AskedChange : Type 0 where
  pub name : List ℕ
  pub change : Change

-- the change of a PUT, a PUTNEW or a DELETE, which may make an update; the other requests make none
abbrev pub asked_change : Request → Option AskedChange
asked_change (Put name val) = Some (record { name = name; change = PutVal val })
asked_change (PutNew name val) = Some (record { name = name; change = PutVal val })
asked_change (Delete name) = Some (record { name = name; change = Remove })
asked_change request = None

abbrev pub is_update : Request → Bool
is_update request = is_some (asked_change request)

-- ---- one answer

-- the update is that of this client's line
pub record IsOf (setting : Setting) (line : ℕ) (update : Update) : Type 0 where
  pub by : update.client ≡ setting.client
  pub for_line : update.line ≡ line

-- the update at this place of the history, counted from 1
abbrev pub update_at : Setting → ℕ → Option Update
update_at setting zero = None
update_at setting (suc before) = slice_get setting.updates before

-- the line's own update stands at its place, and `was` says whether the key was there before it
pub record UpdateStands (setting : Setting) (line : ℕ) (name : List ℕ) (change : Change) (was : Bool) (at : ℕ) : Type 0 where
  pub key : ℕ
  pub rank : IsRank setting.dir name key
  pub update : update_at setting at ≡ Some (record { client = setting.client; line = line; key = key; change = change })
  pub before : was ≡ map_has key (after setting.updates (at - 1))

-- no update of the history is that of the line
abbrev pub MakesNone : Setting → ℕ → Type 0
MakesNone setting line = All (λ update. ¬ (IsOf setting line update)) setting.updates

-- the map at the place has this value for the name, or none
pub record Finds (setting : Setting) (name : List ℕ) (at : ℕ) (found : Option ℕ) : Type 0 where
  pub key : ℕ
  pub rank : IsRank setting.dir name key
  pub value : map_get key (after setting.updates at) ≡ found

-- the page is the map's at the place, for this query and from this point
abbrev pub Lists : Setting → ℕ → ListQuery → Option TokenPoint → ListQuery → Page → Type 0
Lists setting at query point shown page = (shown ≡ query) × (page ≡ page_of setting.dir query point (after setting.updates at))

-- the client's earlier lines have made at least as many updates as it has node slots
abbrev pub HasUsedItsSlots : Setting → ℕ → Type 0
HasUsedItsSlots setting line =
    setting.slots ≤ count_by (λ (update : Update). (update.client == setting.client) && nat_lt update.line line) setting.updates

-- the reply is right at its place, where `last` is the reply of the client's last LIST or NEXT. A request is refused,
-- and so has no place, only for a bad token or for lack of slots.
abbrev pub IsRight : Setting → Option Reply → RequestLine → Option ℕ → Reply → Type 0
IsRight setting last asked at reply = IsRightFor asked.request at reply
  where
    IsRightFor : Request → Option ℕ → Reply → Type 0
    IsRightFor (Put name val) (Some at) (PutReply was) = UpdateStands setting asked.line name (PutVal val) was at
    IsRightFor (PutNew name val) (Some at) (PutReply false) = UpdateStands setting asked.line name (PutVal val) false at
    IsRightFor (PutNew name val) (Some at) Exists = ((there : ℕ) × Finds setting name at (Some there)) × MakesNone setting asked.line
    IsRightFor (Delete name) (Some at) Deleted = UpdateStands setting asked.line name Remove true at ⊎ (Finds setting name at None × MakesNone setting asked.line)
    IsRightFor request None NoSlot = MatchBool (is_update request) (HasUsedItsSlots setting asked.line) ⊥
    IsRightFor (Head name) (Some at) (Found val) = Finds setting name at (Some val)
    IsRightFor (Head name) (Some at) Missing = Finds setting name at None
    IsRightFor (ListRequest query) (Some at) (Listed shown page) = (point : Option TokenPoint) × (IsPointOf query point × Lists setting at query point shown page)
    IsRightFor (ListRequest query) None BadToken = (point : Option TokenPoint) → ¬ (IsPointOf query point)
    IsRightFor (ListV1 query) (Some at) (ListedV1 shown page) = (shown ≡ query) × (page ≡ v1_page setting.dir query (after setting.updates at))
    IsRightFor Next (Some at) (Listed shown page) = (next : Resumed) × ((next_of setting.dir last ≡ Some next) × Lists setting at next.query (Some next.point) shown page)
    IsRightFor Next None BadToken = next_of setting.dir last ≡ None
    IsRightFor request at reply = ⊥

-- the place is one of the history, and none of the client's earlier places is above it; where the update at the place
-- is that of this line, every earlier place at which the client was answered is below it
pub record KeepsOrder (setting : Setting) (earlier : List Answered) (line at : ℕ) : Type 0 where
  pub within : at ≤ length setting.updates
  pub not_below : All (λ (answered : Answered). IfSome answered.placed.at (λ place. place ≤ at)) earlier
  pub above : IfSome (update_at setting at)
      (λ update. IsOf setting line update → All (λ (answered : Answered). IfSome answered.placed.at (λ place. place < at)) earlier)

-- the request has this reply, after these earlier ones
pub record IsAnswered (setting : Setting) (earlier : List Answered) (asked : RequestLine) (placed : Placed) : Type 0 where
  pub client : placed.client ≡ setting.client
  pub line : placed.line ≡ asked.line
  pub order : IfSome placed.at (KeepsOrder setting earlier asked.line)
  pub right : IsRight setting (last_listing earlier) asked placed.at placed.reply

-- each request has one reply, in order
abbrev pub AreAnswered : Setting → List Answered → List RequestLine → List Placed → Type 0
AreAnswered setting earlier [] [] = Unit {0}
AreAnswered setting earlier (asked ∷ lines) (placed ∷ replies) =
    IsAnswered setting earlier asked placed × AreAnswered setting (earlier ++ record { asked = asked; placed = placed } ∷ []) lines replies
AreAnswered setting earlier lines replies = ⊥

-- requests with their replies
abbrev pub answered_lines : List RequestLine → List Placed → List Answered
answered_lines (asked ∷ lines) (placed ∷ replies) = record { asked = asked; placed = placed } ∷ answered_lines lines replies
answered_lines lines replies = []

-- ---- the whole run

-- the list of updates, and each client's list of placed replies
pub record Run : Type 0 where
  pub updates : List Update
  pub replies : List (List Placed)

-- the update is what this request makes
abbrev pub IsChangeOf : List (List ℕ) → Update → Request → Type 0
IsChangeOf dir update request =
    MatchOption (asked_change request) ⊥ (λ asked. IsRank dir asked.name update.key × (update.change ≡ asked.change))

-- the update at this place is that of this answered line
pub record IsMadeBy (dir : List (List ℕ)) (update : Update) (at : ℕ) (answered : Answered) : Type 0 where
  pub line : answered.asked.line ≡ update.line
  pub place : answered.placed.at ≡ Some at
  pub change : IsChangeOf dir update answered.asked.request

-- a client's lines, and its replies
abbrev pub lines_of : List (List RequestLine) → ℕ → List RequestLine
lines_of parts client = slice_index_or parts client []

abbrev pub replies_of : Run → ℕ → List Placed
replies_of run client = slice_index_or run.replies client []

-- the node slots of each client by the lines of all: one more than it has PUT, PUTNEW and DELETE lines
abbrev pub slots_of : List (List RequestLine) → ℕ → ℕ
slots_of parts client = count_by (λ (asked : RequestLine). is_update asked.request) (lines_of parts client) + 1

-- or the number that the command line names for each client
abbrev pub slots_under : Option ℕ → List (List RequestLine) → ℕ → ℕ
slots_under named parts client = unwrap_or named (slots_of parts client)

-- the run is legal for the session of these clients, each with so many node slots
pub record IsLegal (dir : List (List ℕ)) (parts : List (List RequestLine)) (slots : ℕ → ℕ) (run : Run) : Type 0 where
  pub clients : length run.replies ≡ length parts
  pub answered : (client : ℕ) → client < length parts
      → AreAnswered (record { dir = dir; updates = run.updates; client = client; slots = slots client }) [] (lines_of parts client) (replies_of run client)
  pub made : (before : ℕ) (update : Update) → slice_get run.updates before ≡ Some update
      → (update.client < length parts)
      × Any (IsMadeBy dir update (before + 1)) (answered_lines (lines_of parts update.client) (replies_of run update.client))
