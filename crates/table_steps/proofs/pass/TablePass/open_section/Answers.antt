use Rattle.std.proofs.Common.{subst}
use Rattle.table_rule.specs.Homes.{IsLiveView}
use Rattle.table_steps.specs.Passes.{Pass}
use Rattle.table_steps.proofs.ReadSections.{found_at, has_opened, has_some, may_load_again}
use Rattle.table_steps.proofs.pass.TablePass.open_section.Goals as goal

pub load_stamp-requires : goal.load_stamp-requires
load_stamp-requires c =
    let v = c.args.self.now.view in
    let live : IsLiveView v = subst (λ (p : Pass). IsLiveView p.view) c.self.view_is c.facts.ensures in
    record { may = may_load_again v live c.requires.rest c.enter_and_announce.new.self.view c.enter_and_announce.ensures.announced c.enter_and_announce.ensures.inside }

pub returns-clause-event : goal.returns-clause-event
returns-clause-event c =
    found_at c.args.self.now c.enter_and_announce.new.self c.enter_and_announce.ensures.same 0 c.load_stamp.result c.load_stamp.new.self.view c.load_stamp.ensures.event

pub returns-clause-gives : goal.returns-clause-gives
returns-clause-gives c =
    let v = c.args.self.now.view in
    let live : IsLiveView v = subst (λ (p : Pass). IsLiveView p.view) c.self.view_is c.facts.ensures in
    let q = c.enter_and_announce.new.self in
    let announced = c.enter_and_announce.ensures.announced in
    has_opened c.args.self.now q c.enter_and_announce.ensures.same 0 c.load_stamp.result c.load_stamp.new.self.view c.load_stamp.ensures.event
    announced c.load_stamp.ensures.seen (c.load_stamp.ensures.reads (has_some v live c.requires.rest q.view announced))
