use Rattle.std.proofs.Common.{◌≡◌, ℕ, ◌<◌, ◌++◌, [], List, Option, Err, length, get_or, refl, sym, subst, ◌∙◌, arith}
use Rattle.std.proofs.lemmas.Result.{err_from_is_err_and}
use Rattle.line_grammar.specs.declared.command.Command.{Command}
use Rattle.std.proofs.lemmas.List.{length-set, get_or-set_other}
use Rattle.request_lines.specs.Reading.{progress, TakesAll}
use Rattle.request_lines.specs.Said.{SaysLine}
use Rattle.request_lines.proofs.TakingLaws.{says_few, says_fewer, say_at, taken_start, line_refused, line_taken, takes_all, stops_after}
use Rattle.request_lines.proofs.reader.Reader.take_all.Goals as goal

pub loop-place-init : goal.loop-place-init
loop-place-init c = record {
  number = omega arith;
  within = c.requires.within;
  cause = refl;
  long = refl;
  left = λ j d le. refl;
  taken = λ front behind say. taken_start (progress c.args.self.now) c.args.before (front ++ behind);
}

pub overflow_add-number : goal.overflow_add-number
overflow_add-number c =
    let few = says_few c.requires.says.0 c.args.said.now (c.requires.says.1 c.in_ok-said.was) in
    omega (arith, few, c.requires.says.2, c.loop-place.invariant.number, c.loop-place.invariant.long, c.len-place-end.ensures, c.loop-place-test.true)

pub take_said-requires-clause-says : goal.take_said-requires-clause-says
take_said-requires-clause-says c =
    let i = c.loop-place.place in
    let commands = c.args.said.now.commands.items in
    let e = c.index_mut.result.now in
    let here = c.take.ensures.value ∙ (c.index_mut.ensures.value ∙ c.loop-place.invariant.left i e (omega arith)) in
    let lt : i < length commands = omega (arith, c.loop-place.invariant.long, c.len-place-end.ensures, c.loop-place-test.true) in
    let says = c.requires.says.1 c.in_ok-said.was in
    (get_or says.front i [], subst (λ (o : Option Command). SaysLine (get_or says.front i []) o) (sym here) (say_at says.front commands i [] e says.commands lt))

pub returns-in_err-take_said-clause-taken : goal.returns-in_err-take_said-clause-taken
returns-in_err-take_said-clause-taken c texts read =
    let says = read c.in_ok-said.was in
    let error = err_from_is_err_and c.from_residual-in_err-take_said.result c.from_residual-in_err-take_said.ensures.1 in
    let i = c.loop-place.place in
    let p = progress c.args.self.now in
    let after = progress c.take_said.new.self in
    let cause = c.in_err-take_said.field-0.0 in
    let e = c.index_mut.result.now in
    let here = c.take.ensures.value ∙ (c.index_mut.ensures.value ∙ c.loop-place.invariant.left i e (omega arith)) in
    let lt : i < length c.args.said.now.commands.items = omega (arith, c.loop-place.invariant.long, c.len-place-end.ensures, c.loop-place-test.true) in
    rw (error.1, error.2)
    (subst (λ (ts : List (List ℕ)). TakesAll p c.args.before ts after (Err cause)) (sym says.all)
    (line_refused after says.front says.after c.args.said.now.commands.items i e says.commands lt (c.loop-place.invariant.taken says.front says.after says.commands) cause
    (λ text s. c.in_err-take_said.ensures.taken text (subst (λ (o : Option Command). SaysLine text o) (sym here) s))))

pub loop-place-preserved : goal.loop-place-preserved
loop-place-preserved c =
    let i = c.loop-place.place in
    let e = c.index_mut.result.now in
    let here = c.take.ensures.value ∙ (c.index_mut.ensures.value ∙ c.loop-place.invariant.left i e (omega arith)) in
    let lt : i < length c.args.said.now.commands.items = omega (arith, c.loop-place.invariant.long, c.len-place-end.ensures, c.loop-place-test.true) in
    record {
      number = omega (arith, c.loop-place.invariant.number);
      within = c.in_ok-take_said.ensures.within;
      cause = c.loop-place.invariant.cause;
      long = length-set c.loop-place.said.commands.items i c.take.new.self ∙ c.loop-place.invariant.long;
      left = λ j d le. get_or-set_other c.loop-place.said.commands.items i j c.take.new.self d (omega arith) ∙ c.loop-place.invariant.left j d (omega arith);
      taken = λ front behind say. line_taken (progress c.take_said.new.self) front behind c.args.said.now.commands.items i e say lt (c.loop-place.invariant.taken front behind say)
          (λ text s. c.in_ok-take_said.ensures.taken text (subst (λ (o : Option Command). SaysLine text o) (sym here) s));
    }

pub overflow_add-number-in-Some : goal.overflow_add-number-in-Some
overflow_add-number-in-Some c =
    let fewer = says_fewer c.requires.says.0 c.args.said.now c.in-Some.cause (c.requires.says.1 c.in_ok-said.was) (sym c.loop-place.invariant.cause ∙ c.in-Some.is) in
    omega (arith, fewer, c.requires.says.2, c.loop-place.invariant.number, c.loop-place.invariant.long, c.len-place-end.ensures, c.loop-place.auto.place-end)

pub returns-in-Some-clause-taken : goal.returns-in-Some-clause-taken
returns-in-Some-clause-taken c texts read =
    let all : c.loop-place.place ≡ length c.args.said.now.commands.items = omega (arith, c.loop-place.invariant.long, c.len-place-end.ensures, c.loop-place.auto.place-end, c.loop-place-test.false) in
    rw c.error_at.ensures
    (stops_after (progress c.args.self.now) (progress c.loop-place.self) c.args.before c.loop-place.number c.loop-place.place texts c.args.said.now (read c.in_ok-said.was) all c.loop-place.invariant.taken
    (progress c.loop-place.self) c.in-Some.cause (sym c.loop-place.invariant.cause ∙ c.in-Some.is))

pub returns-in-None-clause-taken : goal.returns-in-None-clause-taken
returns-in-None-clause-taken c texts read =
    let all : c.loop-place.place ≡ length c.args.said.now.commands.items = omega (arith, c.loop-place.invariant.long, c.len-place-end.ensures, c.loop-place.auto.place-end, c.loop-place-test.false) in
    takes_all (progress c.args.self.now) (progress c.loop-place.self) c.args.before c.loop-place.number c.loop-place.place texts c.args.said.now (read c.in_ok-said.was) all c.loop-place.invariant.taken
    (sym c.loop-place.invariant.cause ∙ c.in-None.is)
