-- Helper: the headline does not rest on this file.
-- The parts of a legal run by which it is proved.
use Rattle.std.specs.Prelude.{◌≡◌, ℕ, ◌+◌, ◌<◌, ◌≤◌, ⊤, ◌==◌, ◌&&◌, nat_lt, Bool, List, count_by, Option, Some, None, MatchOption, IfSome}
use Rattle.key_map.specs.declared.pair.Pair.{Pair}
use Rattle.key_map.specs.declared.update.Update.{Update}
use Rattle.key_map.specs.Map.{map_get}
use Rattle.key_map.specs.KeyMap.{after}
use Rattle.bucket_terms.specs.declared.page.Page.{Page}
use Rattle.bucket_terms.specs.declared.token.Bound.{Bound}
use Rattle.bucket_terms.specs.declared.list_query.ListQuery.{ListQuery}
use Rattle.bucket_terms.specs.declared.v1_query.V1Query.{V1Query}
use Rattle.bucket_terms.specs.Listing.{bound_of, v1_page}
use Rattle.bucket_terms.specs.declared.reply.Reply.{Reply}
use Rattle.bucket_terms.specs.declared.reply.Reply.TheVariants.{Found, Missing}
use Rattle.bucket_terms.specs.LegalRun.{RequestLine, Setting, Answered, Run, is_update}

-- the answer of a head: the key's value, or none
abbrev pub head_by : Option ℕ → Reply
head_by (Some val) = Found val
head_by None = Missing

abbrev pub head_answer : ℕ → List Pair → Reply
head_answer key m = head_by (map_get key m)

-- whether the update is of this client and of a line before this one
abbrev pub is_earlier_of : Setting → ℕ → Update → Bool
is_earlier_of s line u = (u.client == s.client) && nat_lt u.line line

-- a place is at most, or below, this one; a refused request has none
abbrev pub IsPlacedUpTo : ℕ → Answered → Type 0
IsPlacedUpTo at a = MatchOption a.placed.at ⊤ (λ place. place ≤ at)

abbrev pub IsPlacedBelow : ℕ → Answered → Type 0
IsPlacedBelow at a = MatchOption a.placed.at ⊤ (λ place. place < at)

-- how many of the requests may make an update
abbrev pub updates_in : List RequestLine → ℕ
updates_in lines = count_by (λ (l : RequestLine). is_update l.request) lines

-- the node slots of a client where the command line gives none: one more than its PUT, PUTNEW and DELETE lines
abbrev pub default_slots : List RequestLine → ℕ
default_slots lines = updates_in lines + 1

-- what a client's requests are answered in
abbrev pub setting_of : List (List ℕ) → Run → (ℕ → ℕ) → ℕ → Setting
setting_of dir run slots client = record { dir = dir; updates = run.updates; client = client; slots = slots client }

-- the page of version 1 is the map's at the place, for this query
abbrev pub ListsV1 : Setting → ℕ → V1Query → V1Query → Page → Type 0
ListsV1 setting at query shown page = (shown ≡ query) × (page ≡ v1_page setting.dir query (after setting.updates at))

-- whether a listing goes on with a token: with one without a bound, or bound to its own prefix and delimiter
abbrev pub IsBoundTo : Option Bound → ListQuery → Type 0
IsBoundTo bound query = IfSome bound (λ bound. bound ≡ bound_of query)
