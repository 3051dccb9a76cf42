use Rattle.std.proofs.Common.{◌≡◌, ◌<◌, true, false, not, eqb, arith, sym, subst, ℕ}
use Rattle.std.proofs.lemmas.Bool.Decides.{nat_tests}
use Rattle.core_laws.specs.ViewNeeds.{MayReadMark}
use Rattle.table_rule.specs.Homes.{Home, IsOf}
use Rattle.table_steps.specs.Loads.{HasLoadedMark}
use Rattle.table_steps.specs.Passes.{Pass}
use Rattle.table_steps.proofs.LoadSteps.{mark_asks, mark_loads, mark_keeps}
use Rattle.table_steps.proofs.pass.TablePass.load_mark.Goals as goal

pub load-word-requires-clause-asks : goal.load-word-requires-clause-asks
load-word-requires-clause-asks c =
    let s = c.self.inside.seat in
    let home : Home = c.table.inside.ruled in
    let of : IsOf home s = subst (λ (h : Home). IsOf h s) (sym c.table.view_is) c.self.invariant.1 in
    let may : MayReadMark s.view c.args.node = subst (λ (p : Pass). MayReadMark p.view c.args.node) (sym c.self.view_is) c.requires.may in
    mark_asks home s of c.args.node may

pub invariant_of-self : goal.invariant_of-self
invariant_of-self c =
    let s = c.self.inside.seat in
    let home : Home = c.table.inside.ruled in
    let of : IsOf home s = subst (λ (h : Home). IsOf h s) (sym c.table.view_is) c.self.invariant.1 in
    let may : MayReadMark s.view c.args.node = subst (λ (p : Pass). MayReadMark p.view c.args.node) (sym c.self.view_is) c.requires.may in
    let keeps = c.self.invariant.0 in (
      mark_keeps home s of c.args.node may c.load-word.new.seat.view c.load-word.result c.load-word.ensures.event c.self.inside.kept keeps,
      subst (λ (h : Home). IsOf h c.load-word.new.seat) c.table.view_is c.load-word.ensures.of,
    )

set : (n : ℕ) → not (eqb n 0) ≡ true → 0 < n
set n is = grind (arith, nat_tests)

clear : (n : ℕ) → not (eqb n 0) ≡ false → n ≡ 0
clear n is = grind (arith, nat_tests)

pub returns-clause-loads : goal.returns-clause-loads
returns-clause-loads c =
    let s = c.self.inside.seat in
    let home : Home = c.table.inside.ruled in
    let of : IsOf home s = subst (λ (h : Home). IsOf h s) (sym c.table.view_is) c.self.invariant.1 in
    let may : MayReadMark s.view c.args.node = subst (λ (p : Pass). MayReadMark p.view c.args.node) (sym c.self.view_is) c.requires.may in
    let w = c.load-word.new.seat.view in
    let n = c.load-word.result in
    subst (λ (p : Pass). HasLoadedMark p c.args.node (not (eqb n 0)) w) c.self.view_is (mark_loads home s of c.args.node may w n c.load-word.ensures.event c.self.inside.kept.number (not (eqb n 0)) (set n) (clear n))
