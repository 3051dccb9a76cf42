use Rattle.std.proofs.Common.{◌≡◌, sym, subst}
use Rattle.index_words.specs.declared.word.Field.TheVariants.{Val}
use Rattle.core_events.specs.LockMoves.{pair_loaded}
use Rattle.core_laws.specs.ViewNeeds.{MayReadPair}
use Rattle.table_rule.specs.Homes.{Home, IsOf}
use Rattle.table_steps.specs.Passes.{Pass}
use Rattle.table_steps.proofs.LoadSteps.{val_asks, val_gives, val_keeps}
use Rattle.table_steps.proofs.pass.TablePass.load_val.Goals as goal

pub load-requires-clause-asks : goal.load-requires-clause-asks
load-requires-clause-asks c =
    let s = c.self.inside.seat in
    let home : Home = c.table.inside.ruled in
    let of : IsOf home s = subst (λ (h : Home). IsOf h s) (sym c.table.view_is) c.self.invariant.1 in
    let may : MayReadPair s.view c.args.node = subst (λ (p : Pass). MayReadPair p.view c.args.node) (sym c.self.view_is) c.requires.may in
    val_asks home s of c.args.node may

pub invariant_of-self : goal.invariant_of-self
invariant_of-self c =
    let s = c.self.inside.seat in
    let home : Home = c.table.inside.ruled in
    let of : IsOf home s = subst (λ (h : Home). IsOf h s) (sym c.table.view_is) c.self.invariant.1 in
    let may : MayReadPair s.view c.args.node = subst (λ (p : Pass). MayReadPair p.view c.args.node) (sym c.self.view_is) c.requires.may in
    let keeps = c.self.invariant.0 in (
      val_keeps home s of c.args.node may c.load.new.seat.view c.load.result c.load.ensures.event c.self.inside.kept keeps,
      subst (λ (h : Home). IsOf h c.load.new.seat) c.table.view_is c.load.ensures.of,
    )

pub returns-clause-view : goal.returns-clause-view
returns-clause-view c =
    let s = c.self.inside.seat in
    let home : Home = c.table.inside.ruled in
    let of : IsOf home s = subst (λ (h : Home). IsOf h s) (sym c.table.view_is) c.self.invariant.1 in
    let may : MayReadPair s.view c.args.node = subst (λ (p : Pass). MayReadPair p.view c.args.node) (sym c.self.view_is) c.requires.may in
    subst (λ (p : Pass). c.load.new.seat.view ≡ pair_loaded p.view Val c.args.node c.load.result) c.self.view_is (val_gives home s of c.args.node may c.load.new.seat.view c.load.result c.load.ensures.event)
