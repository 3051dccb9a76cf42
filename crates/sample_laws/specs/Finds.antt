-- Helper: the headline does not rest on this file.
-- What a client finds of its own names in a run.
use Rattle.std.specs.Prelude.{◌≡◌, ◌≢◌, ℕ, ◌<◌, ◌≤◌, List, [], ◌∷◌, length, map, take, All, Some, MatchOption, slice_get}
use Rattle.key_map.specs.declared.pair.Pair.{Pair}
use Rattle.key_map.specs.declared.update.Update.{Update}
use Rattle.key_map.specs.History.{after}
use Rattle.bucket_terms.specs.declared.reply.Placed.{Placed}
use Rattle.bucket_terms.specs.LegalRun.{RequestLine, Run, IsLegal, lines_of, replies_of}
use Rattle.bucket_terms.specs.RunParts.{updates_in}
use Rattle.sample_laws.specs.Alone.{map_behind, map_alone, updates_alone, replies_alone}
use Rattle.sample_laws.specs.Own.{own_pairs, updates_of, IsNamed, AreApart}
use Rattle.sample_laws.specs.Totals.{summary_of, summary_alone}

-- the map after some updates
abbrev pub map_of : List Update → List Pair
map_of updates = after updates (length updates)

-- at the place of each reply, the client's pairs are those that it has alone after the request
abbrev pub FindsAlone : List (List ℕ) → List ℕ → List Update → List Pair → List RequestLine → List Placed → Type 0
FindsAlone dir prefix updates m [] [] = Unit {0}
FindsAlone dir prefix updates m (l ∷ lines) (r ∷ replies) =
    MatchOption r.at ⊥ (λ at. own_pairs dir prefix (after updates at) ≡ map_behind dir m l.request)
    × FindsAlone dir prefix updates (map_behind dir m l.request) lines replies
FindsAlone dir prefix updates m lines replies = ⊥

-- the client with this prefix and these lines has in the run what it has alone
pub record IsAsAlone (dir : List (List ℕ)) (prefix : List ℕ) (run : Run) (client : ℕ) (lines : List RequestLine) : Type 0 where
  -- updates on other names commute: its pairs are those of its own updates
  pub commutes : (t : ℕ) → own_pairs dir prefix (after run.updates t) ≡ map_of (updates_of client (take t run.updates))
  -- if all updates from one place to another are of other clients, they stay as they are
  pub stays : (t later : ℕ) → t ≤ later
      → ((i : ℕ) (u : Update) → t ≤ i → i < later → slice_get run.updates i ≡ Some u → u.client ≢ client)
      → own_pairs dir prefix (after run.updates later) ≡ own_pairs dir prefix (after run.updates t)
  pub finds : FindsAlone dir prefix run.updates [] lines (replies_of run client)
  pub replies : map (λ (r : Placed). r.reply) (replies_of run client) ≡ replies_alone dir [] lines
  pub last : own_pairs dir prefix (map_of run.updates) ≡ map_alone dir [] lines
  pub updates : length (updates_of client run.updates) ≡ updates_alone dir [] lines
  pub named : All (λ (l : RequestLine). IsNamed dir l.request) lines

-- each client has more node slots than requests that may make an update
abbrev pub HaveSlots : List (List RequestLine) → (ℕ → ℕ) → Type 0
HaveSlots parts slots = (c : ℕ) → c < length parts → updates_in (lines_of parts c) < slots c

-- in each legal run, each client on names of its own has what it has alone
abbrev pub OwnNamesLaw : Type 0
OwnNamesLaw =
    (dir : List (List ℕ)) (parts : List (List RequestLine)) (slots : ℕ → ℕ) (prefix : ℕ → List ℕ) (run : Run)
    → AreApart dir parts prefix → HaveSlots parts slots → IsLegal dir parts slots run
    → (c : ℕ) → c < length parts → IsAsAlone dir (prefix c) run c (lines_of parts c)

-- and the summary is the sums over the clients
abbrev pub SummaryLaw : Type 0
SummaryLaw =
    (dir : List (List ℕ)) (parts : List (List RequestLine)) (slots : ℕ → ℕ) (prefix : ℕ → List ℕ) (run : Run)
    → AreApart dir parts prefix → HaveSlots parts slots → IsLegal dir parts slots run → summary_of run ≡ summary_alone dir parts
