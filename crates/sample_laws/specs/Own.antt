-- Helper: the headline does not rest on this file.
-- Clients on names of their own: each client's names begin with a prefix, and no name of the directory begins with two
-- of these. A client's listings have exactly its prefix, without a token, and it has no NEXT.
use Rattle.std.specs.Prelude.{◌≡◌, ℕ, ◌<◌, ◌==◌, ◌&&◌, Bool, IsTrue, nat_lt, List, [], length, filter, All}
use Rattle.key_names.specs.Names.{Rises, IsRank, name_at, begins_with}
use Rattle.key_map.specs.declared.pair.Pair.{Pair}
use Rattle.key_map.specs.declared.update.Update.{Update}
use Rattle.bucket_terms.specs.declared.request.Request.{Request}
use Rattle.bucket_terms.specs.declared.request.Request.TheVariants.{Put, PutNew, Delete, Head, List as ListRequest, ListV1, Next}
use Rattle.bucket_terms.specs.LegalRun.{RequestLine, lines_of}
use Rattle.sample_laws.specs.Alone.{rank_of}

-- whether the key is a rank of the directory whose name begins with the prefix
abbrev pub is_own : List (List ℕ) → List ℕ → ℕ → Bool
is_own dir prefix key = nat_lt key (length dir) && begins_with (name_at dir key) prefix

-- the pairs of the names that begin with the prefix
abbrev pub own_pairs : List (List ℕ) → List ℕ → List Pair → List Pair
own_pairs dir prefix m = filter (λ (p : Pair). is_own dir prefix p.key) m

-- the updates of a client, in order
abbrev pub updates_of : ℕ → List Update → List Update
updates_of client updates = filter (λ (u : Update). u.client == client) updates

-- the request is one on names that begin with the prefix
abbrev pub IsOwnRequest : List ℕ → Request → Type 0
IsOwnRequest prefix (Put name val) = IsTrue (begins_with name prefix)
IsOwnRequest prefix (PutNew name val) = IsTrue (begins_with name prefix)
IsOwnRequest prefix (Delete name) = IsTrue (begins_with name prefix)
IsOwnRequest prefix (Head name) = IsTrue (begins_with name prefix)
IsOwnRequest prefix (ListRequest query) = (query.prefix ≡ prefix) × (query.token ≡ [])
IsOwnRequest prefix (ListV1 query) = query.prefix ≡ prefix
IsOwnRequest prefix Next = ⊥

abbrev pub AreOwnRequests : List ℕ → List RequestLine → Type 0
AreOwnRequests prefix lines = All (λ (l : RequestLine). IsOwnRequest prefix l.request) lines

-- the name of the request is in the directory
abbrev pub IsNamed : List (List ℕ) → Request → Type 0
IsNamed dir (Put name val) = IsRank dir name (rank_of dir name)
IsNamed dir (PutNew name val) = IsRank dir name (rank_of dir name)
IsNamed dir (Delete name) = IsRank dir name (rank_of dir name)
IsNamed dir (Head name) = IsRank dir name (rank_of dir name)
IsNamed dir request = Unit {0}

-- each client has a prefix of its own
pub record AreApart (dir : List (List ℕ)) (parts : List (List RequestLine)) (prefix : ℕ → List ℕ) : Type 0 where
  pub rising : Rises dir
  pub own : (c : ℕ) → c < length parts → AreOwnRequests (prefix c) (lines_of parts c)
  pub apart : (c d key : ℕ) → c < length parts → d < length parts
      → IsTrue (is_own dir (prefix c) key) → IsTrue (is_own dir (prefix d) key) → c ≡ d
