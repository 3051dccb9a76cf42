use Rattle.std.proofs.Common.{length}
use Rattle.request_lines.proofs.Interned.{numbers_moved}
use Rattle.request_lines.proofs.leads.sorted.Goals as goal

pub returns : goal.returns
returns c = numbers_moved (length c.args.names.now) c.in_ok-entries.entries.items _ c.in_ok-entries.ensures c.sort_unstable_by.ensures.permutation
