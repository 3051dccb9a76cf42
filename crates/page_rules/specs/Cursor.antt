-- Helper: the headline does not rest on this file.
-- A page that is made from one look-up after another.
use Rattle.std.specs.Prelude.{◌≡◌, ℕ, ◌+◌, ◌-◌, ◌<◌, ◌≤◌, ◌&&◌, ◌||◌, not, Bool, true, false, nat_lt, nat_le, if◌then◌else◌, List, [], ◌∷◌, ◌++◌, length, filter, Option, Some, MatchOption, IfSome}
use Rattle.std.specs.Option.{option_map_or}
use Rattle.key_names.specs.Ranks.{is_before, StandFirst}
use Rattle.key_map.specs.declared.pair.Pair.{Pair}
use Rattle.key_map.specs.Map.{IsMap, first_from}
use Rattle.bucket_terms.specs.declared.list_query.ListQuery.{ListQuery}
use Rattle.bucket_terms.specs.declared.token_point.TokenPoint.{TokenPoint}
use Rattle.bucket_terms.specs.declared.page.PageEntry.{PageEntry}
use Rattle.bucket_terms.specs.declared.page.Page.{Page}
use Rattle.bucket_terms.specs.Listing.{is_admitted, is_under, entry_of, entries_of, page_of, entry_point}
use Rattle.bucket_terms.specs.PageParts.{listing}

pub record CursorView : Type 0 where
  pub dir : List (List ℕ)
  pub query : ListQuery
  -- the entries so far
  pub entries : List PageEntry
  -- the rank from which the next pair is to be looked for; none where the page is settled
  pub next : Option ℕ
  -- whether an entry is known to be left after these
  pub truncated : Bool

-- the page that the cursor has made
abbrev pub page_so_far : CursorView → Page
page_so_far v = record { entries = v.entries; truncated = v.truncated }

-- the listing from this point on goes on at the rank: below it stand exactly the names that are below the prefix or
-- that the point leaves out
pub record GoesOnAt (dir : List (List ℕ)) (query : ListQuery) (point : Option TokenPoint) (rank : ℕ) : Type 0 where
  pub within : rank ≤ length dir
  pub first : StandFirst (λ name. is_before name query.prefix || not (is_admitted query point name)) dir rank

-- the pairs whose key is at least `rank`
abbrev pub pairs_from : ℕ → List Pair → List Pair
pairs_from rank m = filter (λ (p : Pair). nat_le rank p.key) m

-- the cursor is on its way to the page of its query on this map, from the point on: it has that page, or the
-- entries of the query are those so far and those from the next rank on
abbrev pub IsOnWay : CursorView → Option TokenPoint → List Pair → Type 0
IsOnWay v point m =
    MatchOption v.next (page_so_far v ≡ page_of v.dir v.query point m)
    (λ rank. entries_of v.dir v.query point m ≡ v.entries ++ listing v.dir v.query (pairs_from rank m))

-- a new cursor: it has no entries, and goes on from the point where it may have some
pub record IsNew (v : CursorView) (dir : List (List ℕ)) (query : ListQuery) (point : Option TokenPoint) : Type 0 where
  pub dir_is : v.dir ≡ dir
  pub query_is : v.query ≡ query
  pub entries : v.entries ≡ []
  pub truncated : v.truncated ≡ false
  pub next : MatchOption v.next (query.max_keys ≡ 0) (λ rank. (0 < query.max_keys) × GoesOnAt dir query point rank)

-- the pair is the map's first from the next rank on
abbrev pub IsNext : CursorView → List Pair → Pair → Type 0
IsNext v m pair = IfSome v.next (λ rank. first_from rank m ≡ Some pair)

-- whether the pair is listed and its entry has room on the page
abbrev pub adds : CursorView → Pair → Bool
adds v pair = is_under v.dir v.query pair && nat_lt (length v.entries) v.query.max_keys

-- at most how many look-ups are left, by the ranks from the next one on
abbrev pub look_ups_left : CursorView → ℕ
look_ups_left v = option_map_or (λ rank. length v.dir + 1 - rank) v.next 0

-- the pair was taken
pub record Took (old new : CursorView) (pair : Pair) : Type 0 where
  pub dir : new.dir ≡ old.dir
  pub query : new.query ≡ old.query
  pub entries : new.entries ≡ (if adds old pair then old.entries ++ entry_of old.dir old.query pair ∷ [] else old.entries)
  -- a listed pair that has no room is left
  pub truncated : new.truncated ≡ (is_under old.dir old.query pair && not (adds old pair))
  -- after a new entry the listing goes on past its key, or past all keys of its common prefix; else the page is
  -- settled
  pub next : MatchOption new.next (adds old pair ≡ false)
      (λ rank. (adds old pair ≡ true) × (pair.key < rank) × GoesOnAt old.dir old.query (Some (entry_point old.dir (entry_of old.dir old.query pair))) rank)
  -- each look-up leaves fewer
  pub fewer : (m : List Pair) → IsNext old m pair → look_ups_left new < look_ups_left old
  -- on the way to the page of every map that has the pair next, the cursor stays so
  pub on_way : (point : Option TokenPoint) (m : List Pair) → IsMap m → IsNext old m pair → IsOnWay old point m → IsOnWay new point m

-- nothing is left to take: the page is settled, or the map has no further pair whose key is a rank
abbrev pub IsOver : CursorView → List Pair → Type 0
IsOver v m = IfSome v.next (λ rank. IfSome (first_from rank m) (λ p. length v.dir ≤ p.key))
