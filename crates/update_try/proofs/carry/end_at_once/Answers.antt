use Rattle.plan_laws.proofs.Frames.{keeps_owned}
use Rattle.update_try.proofs.carry.end_at_once.Goals as goal

pub mark_all-requires : goal.mark_all-requires
mark_all-requires c = record { numbered = (c.args.slots.now, c.requires.numbered) }

pub set_plain-requires-clause-marked : goal.set_plain-requires-clause-marked
set_plain-requires-clause-marked c = c.mark_all.ensures.marked c.args.slots.now c.requires.numbered

pub returns-clause-keeps : goal.returns-clause-keeps
returns-clause-keeps c =
    let p = c.args.pass.now.view in
    let m = c.mark_all.new.pass.view in
    let l = c.set_plain.new.pass.view in
    let t = c.raise_tag.new.pass.view in
    let u = c.unlock_all.new.pass.view in
    let w = c.leave_section.new.pass.view in
    keeps_owned p m w c.mark_all.ensures.keeps
    (keeps_owned m l w c.set_plain.ensures.keeps
    (keeps_owned l t w c.raise_tag.ensures.keeps
    (keeps_owned t u w c.unlock_all.ensures.keeps c.leave_section.ensures.keeps)))
