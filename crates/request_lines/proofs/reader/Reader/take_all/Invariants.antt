use Rattle.std.proofs.Common.{◌≡◌, ℕ, ◌+◌, ◌++◌, ◌≤◌, List, length, drop, get_or, Option}
use Rattle.line_grammar.specs.declared.command.Command.{Command}
use Rattle.request_lines.specs.Counting.{IsWithin}
use Rattle.request_lines.specs.Reading.{progress}
use Rattle.request_lines.specs.Said.{SayInTurn}
use Rattle.request_lines.proofs.TakingLaws.{AreTakenUpTo}
use Rattle.request_lines.proofs.reader.Reader.take_all.Given as goal

abbrev pub invariant-loop-place : goal.invariant-loop-place
invariant-loop-place l = record {
  number : l.number ≡ l.before + l.place;
  within : IsWithin l.self.counts;
  cause : l.said.cause ≡ l.fn.said.cause;
  long : length l.said.commands.items ≡ length l.fn.said.commands.items;
  left : (i : ℕ) (d : Option Command) → l.place ≤ i → get_or l.said.commands.items i d ≡ get_or l.fn.said.commands.items i d;
  taken : (front behind : List (List ℕ)) → SayInTurn front l.fn.said.commands.items → AreTakenUpTo (progress l.initial.self) l.before (front ++ behind) (drop l.place front ++ behind) l.number (progress l.self);
}
