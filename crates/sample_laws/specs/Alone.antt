-- Helper: the headline does not rest on this file.
-- What a client has when it is alone: its requests are made one after the other on an empty map. These clients give no
-- token and have no NEXT.
use Rattle.std.specs.Prelude.{ℕ, ◌+◌, false, cond, not, nat_eq, List, [], ◌∷◌, None}
use Rattle.std.specs.List.{prefix_len}
use Rattle.std.specs.Cmp.Lexicographic.{pointwise}
use Rattle.key_map.specs.declared.pair.Pair.{Pair}
use Rattle.key_map.specs.Map.{map_has, map_put, map_remove}
use Rattle.bucket_terms.specs.declared.request.Request.{Request}
use Rattle.bucket_terms.specs.declared.request.Request.TheVariants.{Put, PutNew, Delete, Head, List as ListRequest, ListV1, Next}
use Rattle.bucket_terms.specs.declared.reply.Reply.{Reply}
use Rattle.bucket_terms.specs.declared.reply.Reply.TheVariants.{Put as PutReply, Exists, Deleted, Listed, ListedV1, BadToken}
use Rattle.bucket_terms.specs.Listing.{page_of, v1_page}
use Rattle.bucket_terms.specs.RunParts.{head_answer}
use Rattle.bucket_terms.specs.LegalRun.{RequestLine}

-- the rank of a name: how many names precede it
abbrev pub rank_of : List (List ℕ) → List ℕ → ℕ
rank_of dir name = prefix_len (λ other. not (pointwise nat_eq other name)) dir

-- ---- one request

-- the map after a request
abbrev pub map_behind : List (List ℕ) → List Pair → Request → List Pair
map_behind dir m (Put name val) = map_put (rank_of dir name) val m
map_behind dir m (PutNew name val) = cond (map_has (rank_of dir name) m) m (map_put (rank_of dir name) val m)
map_behind dir m (Delete name) = map_remove (rank_of dir name) m
map_behind dir m request = m

-- how many updates the request makes: a PUTNEW of a key that is there makes none, nor does a removal of an absent key
abbrev pub updates_on : List (List ℕ) → List Pair → Request → ℕ
updates_on dir m (Put name val) = 1
updates_on dir m (PutNew name val) = cond (map_has (rank_of dir name) m) 0 1
updates_on dir m (Delete name) = cond (map_has (rank_of dir name) m) 1 0
updates_on dir m request = 0

-- the answer to the request on the map; a listing without a token
abbrev pub reply_on : List (List ℕ) → List Pair → Request → Reply
reply_on dir m (Put name val) = PutReply (map_has (rank_of dir name) m)
reply_on dir m (PutNew name val) = cond (map_has (rank_of dir name) m) Exists (PutReply false)
reply_on dir m (Delete name) = Deleted
reply_on dir m (Head name) = head_answer (rank_of dir name) m
reply_on dir m (ListRequest query) = Listed query (page_of dir query None m)
reply_on dir m (ListV1 query) = ListedV1 query (v1_page dir query m)
reply_on dir m Next = BadToken

-- ---- requests one after the other, from a map on

-- the map at the end
abbrev pub map_alone : List (List ℕ) → List Pair → List RequestLine → List Pair
map_alone dir m [] = m
map_alone dir m (l ∷ lines) = map_alone dir (map_behind dir m l.request) lines

-- the number of updates
abbrev pub updates_alone : List (List ℕ) → List Pair → List RequestLine → ℕ
updates_alone dir m [] = 0
updates_alone dir m (l ∷ lines) = updates_on dir m l.request + updates_alone dir (map_behind dir m l.request) lines

-- the replies
abbrev pub replies_alone : List (List ℕ) → List Pair → List RequestLine → List Reply
replies_alone dir m [] = []
replies_alone dir m (l ∷ lines) = reply_on dir m l.request ∷ replies_alone dir (map_behind dir m l.request) lines
