use Rattle.std.proofs.Common.{◌≡◌, ℕ, List, Option, subst}
use Rattle.request_lines.specs.declared.session.ClientPart.{ClientPart}
use Rattle.table_steps.specs.Passes.{Pass}
use Rattle.shared_index.specs.Keys.{AreFresh}
use Rattle.client_threads.specs.Pools.{named}
use Rattle.client_threads.specs.Sizes.{sizes_of}
use Rattle.client_threads.proofs.history.history_of.Goals as goal

-- the keys are fresh ones of the session's sizes
fresh_keys : (asked given : Option ℕ) (clients cs : List ClientPart) (keys : List Pass) → given ≡ asked → cs ≡ clients → AreFresh 0 (sizes_of given cs) keys → AreFresh 0 (sizes_of asked clients) keys
fresh_keys asked given clients cs keys same_slots same_clients are =
    subst (λ (ps : List ClientPart). AreFresh 0 (sizes_of asked ps) keys) same_clients (subst (λ (n : Option ℕ). AreFresh 0 (sizes_of n cs) keys) same_slots are)

pub history_over-requires-clause-fresh : goal.history_over-requires-clause-fresh
history_over-requires-clause-fresh g c κs within =
    fresh_keys (named c.args.served.now.slots) c.named.result c.args.served.now.session.now.clients c.as_slice.result.now c.in_ok-index.keys.items c.named.ensures c.as_slice.ensures c.in_ok-index.ensures.fresh
