use Rattle.std.proofs.Common.{◌≡◌, ℕ, length, Some}
use Rattle.std.specs.List.{slice_get}
use Rattle.text_laws.specs.WrongLine.{first_reply}
use Rattle.replay_check.specs.declared.turns.Client.{Client}
use Rattle.replay_check.specs.Looking.{IsReadyOn, against}
use Rattle.replay_check.proofs.beginning.starts.Given as goal

-- the clients so far are ready, and the next one's lines follow theirs
abbrev pub invariant-loop-number : goal.invariant-loop-number
invariant-loop-number l = record {
  first : l.first ≡ first_reply (against l.basis) l.number;
  count : length l.clients.items ≡ l.number;
  each : (k : ℕ) (client : Client) → slice_get l.clients.items k ≡ Some client → IsReadyOn l.basis k 0 client;
}
