use Rattle.request_lines.specs.InputParts.{texts_of}
use Rattle.request_lines.specs.Said.{Says}
use Rattle.request_lines.proofs.said.Said.read_here.Goals as goal

pub returns : goal.returns
returns c ok =
    let says : Says (texts_of c.args.block.now) c.push_lines-self.new.self = rw ok at (c.push_lines-self.ensures (texts_of c.args.block.now) c.text_lines-cause.ensures) in
    record { front = says.front; after = says.after; all = says.all; commands = says.commands; cause = says.cause }
