use Rattle.std.proofs.Common.{slice_index}
use Rattle.core_links.proofs.Chains.{one_chain}
use Rattle.core_links.proofs.chain.is_chain.Goals as goal

pub returns-clause-only : goal.returns-clause-only
returns-clause-only c = λ yes. one_chain (slice_index c.args.nexts.now) c.args.head c.args.entries.now (c.follows_nexts.ensures.0 yes)
