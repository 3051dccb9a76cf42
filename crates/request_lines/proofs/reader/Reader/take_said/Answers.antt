use Rattle.request_lines.specs.Reading.{progress}
use Rattle.request_lines.proofs.TakingLaws.{takes_empty, takes_command, refuses_command, says_fine}
use Rattle.request_lines.proofs.reader.Reader.take_said.Goals as goal

pub returns-in_default-clause-taken : goal.returns-in_default-clause-taken
returns-in_default-clause-taken c text says = takes_empty (progress c.args.self.now) c.args.number text (rw c.in_default.is at says)

pub admit-requires-clause-fine : goal.admit-requires-clause-fine
admit-requires-clause-fine c = says_fine c.requires.says.0 c.in-Some.command (rw c.in-Some.is at c.requires.says.1)

pub returns-in-Ok-clause-taken : goal.returns-in-Ok-clause-taken
returns-in-Ok-clause-taken c text says =
    takes_command (progress c.args.self.now) c.args.number text c.in-Some.command (progress c.admit.new.self) (rw c.in-Some.is at says) c.in-Ok.ensures.kept

pub returns-in-Err-clause-taken : goal.returns-in-Err-clause-taken
returns-in-Err-clause-taken c text says =
    rw c.error_at.ensures (refuses_command (progress c.args.self.now) c.args.number text c.in-Some.command (progress c.admit.new.self) c.in-Err.error (rw c.in-Some.is at says) c.in-Err.ensures.kept)
