-- A client that keeps to names that no other client changes.
use Rattle.std.specs.Prelude.{◌≡◌, ◌≢◌, ℕ, ◌<◌, Bool, false, IsTrue, List, [], length, map, All, None}
use Rattle.key_names.specs.Names.{Rises}
use Rattle.key_map.specs.declared.pair.Pair.{Pair}
use Rattle.bucket_terms.specs.declared.request.Request.{Request}
use Rattle.bucket_terms.specs.declared.request.Request.TheVariants.{Put, PutNew, Delete, Head, List as ListRequest, ListV1, Next}
use Rattle.bucket_terms.specs.declared.reply.Placed.{Placed}
use Rattle.bucket_terms.specs.Listing.{is_under, plain}
use Rattle.bucket_terms.specs.LegalRun.{RequestLine, Run, IsLegal, lines_of, replies_of}
use Rattle.bucket_terms.specs.RunParts.{updates_in}
use Rattle.sample_laws.specs.Alone.{rank_of}
use Rattle.sample_laws.specs.Own.{updates_of}
use Rattle.run_laws.specs.Alone.{AreAlone}

-- the request names only such keys: a listing, each name under its prefix. NEXT continues a listing.
abbrev pub KeepsTo : List (List ℕ) → (ℕ → Bool) → Request → Type 0
KeepsTo dir own (Put name val) = IsTrue (own (rank_of dir name))
KeepsTo dir own (PutNew name val) = IsTrue (own (rank_of dir name))
KeepsTo dir own (Delete name) = IsTrue (own (rank_of dir name))
KeepsTo dir own (Head name) = IsTrue (own (rank_of dir name))
KeepsTo dir own (ListRequest query) = (p : Pair) → IsTrue (is_under dir query p) → IsTrue (own p.key)
KeepsTo dir own (ListV1 query) = (p : Pair) → IsTrue (is_under dir (plain query) p) → IsTrue (own p.key)
KeepsTo dir own Next = Unit {0}

-- the request changes no such key
abbrev pub LeavesAlone : List (List ℕ) → (ℕ → Bool) → Request → Type 0
LeavesAlone dir own (Put name val) = own (rank_of dir name) ≡ false
LeavesAlone dir own (PutNew name val) = own (rank_of dir name) ≡ false
LeavesAlone dir own (Delete name) = own (rank_of dir name) ≡ false
LeavesAlone dir own request = Unit {0}

-- the client keeps to these keys, and no other one changes them
pub record IsUntouched (dir : List (List ℕ)) (own : ℕ → Bool) (parts : List (List RequestLine)) (client : ℕ) : Type 0 where
  pub keeps : All (λ (l : RequestLine). KeepsTo dir own l.request) (lines_of parts client)
  pub left : (other : ℕ) → other < length parts → other ≢ client
      → All (λ (l : RequestLine). LeavesAlone dir own l.request) (lines_of parts other)

-- the client's updates are those that it makes alone, and its replies are, apart from their places, those that it gets
-- alone
pub record IsAsIfAlone (dir : List (List ℕ)) (run : Run) (client : ℕ) (lines : List RequestLine) : Type 0 where
  pub placed : List Placed
  pub alone : AreAlone dir client [] None lines placed (updates_of client run.updates)
  pub replies : map (λ (p : Placed). p.reply) (replies_of run client) ≡ map (λ (p : Placed). p.reply) placed

-- in each legal run, whatever the other clients do, if the client has more node slots than requests that may make an
-- update
abbrev pub UntouchedLaw : Type 0
UntouchedLaw =
    (dir : List (List ℕ)) (own : ℕ → Bool) (parts : List (List RequestLine)) (slots : ℕ → ℕ) (run : Run) (client : ℕ) → Rises dir
    → client < length parts → updates_in (lines_of parts client) < slots client → IsUntouched dir own parts client → IsLegal dir parts slots run
    → IsAsIfAlone dir run client (lines_of parts client)
