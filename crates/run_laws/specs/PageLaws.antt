-- What common prefixes, `start-after` and a truncated page are, each stated in another way than its definition.
use Rattle.std.specs.Prelude.{◌≡◌, ◌≢◌, ℕ, ◌+◌, ◌<◌, Bool, true, false, List, [], length, drop, Option, Some, None}
use Rattle.key_names.specs.Names.{Rises, begins_with}
use Rattle.key_map.specs.declared.pair.Pair.{Pair}
use Rattle.key_map.specs.Map.{IsMap}
use Rattle.bucket_terms.specs.declared.list_query.ListQuery.{ListQuery}
use Rattle.bucket_terms.specs.declared.token_point.TokenPoint.{TokenPoint}
use Rattle.bucket_terms.specs.declared.token_point.TokenPoint.TheVariants.{Key as AtKey}
use Rattle.bucket_terms.specs.Listing.{group_len, entries_of, page_of, page_point}

-- whether the delimiter stands this many bytes after the prefix's length
abbrev pub delimiter_at : ListQuery → List ℕ → ℕ → Bool
delimiter_at query name k = begins_with (drop k (drop (length query.prefix) name)) query.delimiter

-- the first delimiter after the prefix's length ends there
pub record EndsWithFirst (query : ListQuery) (name : List ℕ) (len : ℕ) : Type 0 where
  pub given : 0 < length query.delimiter
  pub between : ℕ
  pub ends : len ≡ length query.prefix + between + length query.delimiter
  pub there : delimiter_at query name between ≡ true
  pub first : (k : ℕ) → k < between → delimiter_at query name k ≡ false

-- a name's common prefix ends with the first delimiter at or after the prefix's length; a name without a delimiter
-- there has none
abbrev pub GroupLaw : Type 0
GroupLaw = (query : ListQuery) (name : List ℕ) (len : ℕ) → group_len query name ≡ Some len → EndsWithFirst query name len

abbrev pub NoGroupLaw : Type 0
NoGroupLaw =
    (query : ListQuery) (name : List ℕ) → group_len query name ≡ None → 0 < length query.delimiter
    → (k : ℕ) → k < length (drop (length query.prefix) name) → delimiter_at query name k ≡ false

-- without a point, a listing that has a `start_after` is the one from this key on; with one, `start_after` has no
-- effect
abbrev pub StartAfterLaw : Type 0
StartAfterLaw =
    (dir : List (List ℕ)) (query : ListQuery) (m : List Pair) → 0 < length query.start_after
    → entries_of dir query None m ≡ entries_of dir query (Some (AtKey query.start_after)) m

abbrev pub NoStartAfterLaw : Type 0
NoStartAfterLaw =
    (dir : List (List ℕ)) (query : ListQuery) (point : TokenPoint) (other : List ℕ) (m : List Pair)
    → entries_of dir query (Some point) m ≡ entries_of dir (record query { start_after = other }) (Some point) m

-- after a truncated page there is an entry
abbrev pub TruncatedLaw : Type 0
TruncatedLaw =
    (dir : List (List ℕ)) (query : ListQuery) (point : Option TokenPoint) (m : List Pair) → Rises dir → IsMap m
    → (page_of dir query point m).truncated ≡ true → entries_of dir query (page_point dir (page_of dir query point m)) m ≢ []
