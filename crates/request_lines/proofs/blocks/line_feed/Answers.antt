use Rattle.std.proofs.Common.{◌==◌}
use Rattle.line_grammar.proofs.FirstByte.{first_position}
use Rattle.request_lines.proofs.blocks.line_feed.Goals as goal

pub returns : goal.returns
returns c = first_position (λ b. b == 10) c.args.bytes.now c.memchr.result c.memchr.ensures
