use Rattle.std.proofs.Common.{◌≡◌, [], ◌∷◌, ◌++◌, Option, Some, Err, refl, sym, subst}
use Rattle.line_grammar.specs.declared.cause.Cause.{Cause}
use Rattle.line_grammar.specs.declared.line_error.LineError.{LineError}
use Rattle.request_lines.specs.InputParts.{texts_left}
use Rattle.request_lines.specs.Said.{said_of, ReadsLine, StopsAt}
use Rattle.request_lines.proofs.Saying.{IsSaidUpTo, said_start, said_next, said_more, first_cut}
use Rattle.request_lines.proofs.said.Said.push_lines.Goals as goal

pub loop-left-init : goal.loop-left-init
loop-left-init c = record { said = rw c.requires (said_start (texts_left c.args.lines)); cause = refl }

pub loop-left-preserved : goal.loop-left-preserved
loop-left-preserved c =
    let texts = texts_left c.args.lines in
    let line = c.first_line.result.0.now in
    let rest = c.first_line.result.1 in
    let said = c.loop-left.self.commands.items in
    let now = said_next texts c.loop-left.left rest c.in-Some.text line said c.in-Some.is c.first_line.ensures.cut c.loop-left.invariant.said in
    record {
      said = rw c.in_ok-push-in-Ok.ensures.items (said_more texts line (texts_left rest) said c.in-Ok.command now c.in-Ok.ensures);
      cause = c.loop-left.invariant.cause;
    }

pub returns-in-Err-Faulty : goal.returns-in-Err-Faulty
returns-in-Err-Faulty c texts are =
    let line = c.first_line.result.0.now in
    let rest = c.first_line.result.1 in
    let said = c.loop-left.self.commands.items in
    let now = said_next (texts_left c.args.lines) c.loop-left.left rest c.in-Some.text line said c.in-Some.is c.first_line.ensures.cut c.loop-left.invariant.said in
    let faulty = subst (λ (e : LineError). ReadsLine line (Err e)) c.in-Err-Faulty.field-0-is c.in-Err-Faulty.ensures in
    record {
      front = now.front;
      after = line ∷ (texts_left rest ++ are.after);
      all = first_cut c.args.lines texts now.front (line ∷ texts_left rest) c.args.self.now.cause are now.all;
      commands = now.say;
      cause = subst (λ (cause : Cause). said_of line ≡ Some (Err cause)) (sym c.in-Err-Faulty.cause-is) faulty;
    }

pub returns : goal.returns
returns c texts are =
    let now : IsSaidUpTo (texts_left c.args.lines) [] c.loop-left.self.commands.items = rw c.in_default.is at c.loop-left.invariant.said in
    record {
      front = now.front;
      after = are.after;
      all = first_cut c.args.lines texts now.front [] c.args.self.now.cause are now.all;
      commands = now.say;
      cause = subst (λ (cause : Option Cause). StopsAt are.after cause) (sym c.loop-left.invariant.cause) are.stops;
    }
