-- Helper: the headline does not rest on this file.
-- What the history of a session rests on, whether its clients hand node slots to one another or not.
use Rattle.std.specs.Prelude.{◌≡◌, ℕ, ◌<◌, ◌≤◌, List, [], length, min, Option, Some, None, slice_index_or}
use Rattle.bucket_terms.specs.declared.reply.Placed.{Placed}
use Rattle.bucket_terms.specs.PassView.{PassView, Extends}
use Rattle.bucket_terms.specs.LegalRun.{RequestLine, lines_of}
use Rattle.client_run.specs.ClientRun.{RanClient}
use Rattle.table_rule.specs.Homes.{Home}
use Rattle.table_steps.specs.Passes.{Pass}
use Rattle.shared_index.specs.Keys.{IsKeyOf}
use Rattle.shared_index.specs.Shown.{shown}

-- of the node slots that a pass owns, at most as many count as are named, if a number is named
abbrev pub counted : Option ℕ → ℕ → ℕ
counted None nodes = nodes
counted (Some n) nodes = min n nodes

-- this client's lines were answered over a pass that began as that of the key `old`, with the node slots that count,
-- and at the end knew no more than that of the key `new`, which has its updates
pub record RanBehind (named : Option ℕ) (dir : List (List ℕ)) (index : Home) (client : ℕ) (lines : List RequestLine) (old new : Pass) (replies : List Placed) : Type 0 where
  pub of : IsKeyOf index new
  pub number : (shown new).number ≡ client
  pub first : PassView
  pub last : PassView
  pub ran : RanClient dir lines first last replies
  pub first_number : first.number ≡ (shown old).number
  pub first_mine : first.mine ≡ (shown old).mine
  pub first_nodes : counted named (shown old).nodes ≤ first.nodes
  pub first_entries : first.entries ≡ (shown old).entries
  pub last_seen : Extends last.seen (shown new).seen
  pub last_mine : last.mine ≡ (shown new).mine

-- each client's lines were answered so
pub record RanBehindEach (named : Option ℕ) (dir : List (List ℕ)) (index : Home) (parts : List (List RequestLine)) (old new : List Pass) (replies : List (List Placed)) : Type 0 where
  pub keys : length new ≡ length parts
  pub lists : length replies ≡ length parts
  pub each : (c : ℕ) (d e : Pass) → c < length parts
      → RanBehind named dir index c (lines_of parts c) (slice_index_or old c d) (slice_index_or new c e) (slice_index_or replies c [])
