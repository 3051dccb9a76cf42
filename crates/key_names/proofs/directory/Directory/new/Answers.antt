use Rattle.std.proofs.Common.{All, arith}
use Rattle.std.proofs.lemmas.List.Elements.{All-contains, Contains-get_or}
use Rattle.key_names.specs.Names.{IsFine}
use Rattle.key_names.proofs.directory.Directory.new.Goals as goal

pub invariant_of-result : goal.invariant_of-result
invariant_of-result c =
    let held = c.sorted_once-names.ensures in
    let given : All IsFine c.args.names.items = rw (← c.deref.ensures.value) c.in_ok-check_names.ensures.ok in
    record {
      rising = held.rising;
      fine = λ k d below. All-contains IsFine _ _ given (held.no_other _ (Contains-get_or _ k d below));
      few = omega arith;
    }

pub returns-clause-fine : goal.returns-clause-fine
returns-clause-fine c = rw (← c.deref.ensures.value) c.in_ok-check_names.ensures.ok
