-- Helper: the headline does not rest on this file.
-- The one reply that can be right for a request at a place of the history, or without a place.
use Rattle.std.specs.Prelude.{◌≡◌, ℕ, ◌-◌, Bool, true, false, nat_le, List, if◌then◌else◌, Option, Some, None, MatchOption}
use Rattle.key_names.specs.Names.{IsRank}
use Rattle.key_map.specs.declared.pair.Pair.{Pair}
use Rattle.key_map.specs.declared.update.Update.{Update}
use Rattle.key_map.specs.KeyMap.{map_has, after}
use Rattle.bucket_terms.specs.declared.list_query.ListQuery.{ListQuery}
use Rattle.bucket_terms.specs.declared.token_point.TokenPoint.{TokenPoint}
use Rattle.bucket_terms.specs.declared.request.Request.{Request}
use Rattle.bucket_terms.specs.declared.request.Request.TheVariants.{Put, PutNew, Delete, Head, List as ListRequest, ListV1, Next}
use Rattle.bucket_terms.specs.declared.reply.Reply.{Reply}
use Rattle.bucket_terms.specs.declared.reply.Reply.TheVariants.{Put as PutReply, Exists, Deleted, Listed, ListedV1, BadToken, NoSlot}
use Rattle.bucket_terms.specs.Listing.{page_of, v1_page}
use Rattle.client_run.specs.declared.pages.Start.{Start}
use Rattle.client_run.specs.declared.pages.Start.TheVariants.{Bad}
use Rattle.bucket_terms.specs.RunParts.{head_answer}
use Rattle.bucket_terms.specs.LegalRun.{RequestLine, Setting, IsRight, IsOf, IsChangeOf, IsPointOf, Resumed, next_of, update_at}

abbrev pub asked_line : ℕ → Request → RequestLine
asked_line line request = record { line = line; request = request }

-- what was found is right, and where nothing was found no reply is right
abbrev pub IsTheReply : Setting → Option Reply → RequestLine → Option ℕ → Option Reply → Type 0
IsTheReply s last asked at found = MatchOption found ((reply : Reply) → ¬ (IsRight s last asked at reply)) (IsRight s last asked at)

-- ---- the line's own update stands at the place

-- `was` says whether the update's key was there right before it
pub record IsOwn (s : Setting) (line : ℕ) (request : Request) (at : ℕ) (was : Bool) : Type 0 where
  pub update : Update
  pub here : update_at s at ≡ Some update
  pub is_of : IsOf s line update
  pub change : IsChangeOf s.dir update request
  pub before : was ≡ map_has update.key (after s.updates (at - 1))

abbrev pub own_reply : Request → Bool → Option Reply
own_reply (Put name val) was = Some (PutReply was)
own_reply (PutNew name val) false = Some (PutReply false)
own_reply (Delete name) true = Some Deleted
own_reply request was = None

-- ---- the line has no update: it looked

-- of a put and of a removal that were not made
abbrev pub kept_by : Bool → Option Reply
kept_by true = Some Exists
kept_by false = None

abbrev pub absent_by : Bool → Option Reply
absent_by true = None
absent_by false = Some Deleted

-- the reply of a name's key
abbrev pub IsByKey : List (List ℕ) → List ℕ → (ℕ → Option Reply) → Option Reply → Type 0
IsByKey dir name by_key found = (key : ℕ) × (IsRank dir name key × (found ≡ by_key key))

-- a page of the query, from the point of its token
abbrev pub IsListedFrom : List (List ℕ) → List Pair → ListQuery → Reply → Type 0
IsListedFrom dir m query reply = (point : Option TokenPoint) × (IsPointOf query point × (reply ≡ Listed query (page_of dir query point m)))

-- the page after another
abbrev pub next_page : List (List ℕ) → List Pair → Resumed → Reply
next_page dir m next = Listed next.query (page_of dir next.query (Some next.point) m)

-- what a line without an update of its own found in this map
abbrev pub IsLook : List (List ℕ) → List Pair → Option Reply → Request → Option Reply → Type 0
IsLook dir m last (Put name val) found = found ≡ None
IsLook dir m last (PutNew name val) found = IsByKey dir name (λ key. kept_by (map_has key m)) found
IsLook dir m last (Delete name) found = IsByKey dir name (λ key. absent_by (map_has key m)) found
IsLook dir m last (Head name) found = IsByKey dir name (λ key. Some (head_answer key m)) found
IsLook dir m last (ListRequest query) found = MatchOption found ((point : Option TokenPoint) → ¬ (IsPointOf query point)) (IsListedFrom dir m query)
IsLook dir m last (ListV1 query) found = found ≡ Some (ListedV1 query (v1_page dir query m))
IsLook dir m last Next found = MatchOption (next_of dir last) (found ≡ None) (λ next. found ≡ Some (next_page dir m next))

-- ---- the request was refused

-- of an update: its client has used its slots
abbrev pub slot_reply : ℕ → ℕ → Option Reply
slot_reply slots used = if nat_le slots used then Some NoSlot else None

-- of a LIST, by where it begins according to its token
abbrev pub start_reply : Start → Option Reply
start_reply Bad = Some BadToken
start_reply start = None

abbrev pub IsRefusal : List (List ℕ) → ℕ → ℕ → Option Reply → Request → Option Reply → Type 0
IsRefusal dir slots used last (Put name val) found = found ≡ slot_reply slots used
IsRefusal dir slots used last (PutNew name val) found = found ≡ slot_reply slots used
IsRefusal dir slots used last (Delete name) found = found ≡ slot_reply slots used
IsRefusal dir slots used last (ListRequest query) found =
    MatchOption found ((point : Option TokenPoint) × IsPointOf query point) (λ reply. (reply ≡ BadToken) × ((point : Option TokenPoint) → ¬ (IsPointOf query point)))
IsRefusal dir slots used last Next found = MatchOption (next_of dir last) (found ≡ Some BadToken) (λ next. found ≡ None)
IsRefusal dir slots used last request found = found ≡ None
