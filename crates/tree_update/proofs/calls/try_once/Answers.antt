use Rattle.std.proofs.Common.{inl, inr, subst, true, false}
use Rattle.tree_update.specs.Trying.{IsMissed}
use Rattle.tree_update.specs.declared.trying.Missed.TheVariants.{There, Absent}
use Rattle.tree_update.proofs.CallSteps.{goes_more}
use Rattle.tree_update.proofs.CallAnswers.{answers_made, made_unlooked, look_answers, never_looks}
use Rattle.tree_update.proofs.calls.try_once.Goals as goal

pub returns-in-Ok-clause-answered : goal.returns-in-Ok-clause-answered
returns-in-Ok-clause-answered g c =
    let wanted = c.args.wanted in
    inl (answers_made c.args.pass.now c.try_update.new.pass.view c.end_removal.new.pass.view wanted.line wanted.key wanted.change c.in-Ok.carried.done c.in-Ok.ensures.made
    c.end_removal.ensures.keeps wanted.only_new c.in-Ok.ensures.raise c.in-Ok.ensures.absent)

pub returns-in-Ok-clause-unlooked : goal.returns-in-Ok-clause-unlooked
returns-in-Ok-clause-unlooked g c = λ plain put.
    let wanted = c.args.wanted in
    made_unlooked c.args.pass.now c.try_update.new.pass.view c.end_removal.new.pass.view wanted.line wanted.key wanted.change c.in-Ok.carried.done c.in-Ok.ensures.made
    c.end_removal.ensures.keeps c.try_update.ensures.waits

pub returns-in-Err-Absent-clause-answered : goal.returns-in-Err-Absent-clause-answered
returns-in-Err-Absent-clause-answered g c =
    let wanted = c.args.wanted in
    let p = c.args.pass.now in
    let u = c.try_update.new.pass in
    let w = c.look_again.new.pass.view in
    let missed : IsMissed wanted.only_new wanted.key wanted.change p.view u.view Absent
    = subst (IsMissed wanted.only_new wanted.key wanted.change p.view u.view) c.in-Err-Absent.field-0-is c.in-Err-Absent.ensures.missed in
    let e = c.look_again.ensures in
    look_answers wanted.only_new p u w wanted.line wanted.key wanted.change false c.look_again.result c.try_update.ensures.same c.in-Err-Absent.ensures.stays.goes missed.0 e.was e.looked e.found

pub returns-in-Err-Absent-clause-unlooked : goal.returns-in-Err-Absent-clause-unlooked
returns-in-Err-Absent-clause-unlooked g c =
    let wanted = c.args.wanted in
    let p = c.args.pass.now in
    let u = c.try_update.new.pass in
    let w = c.look_again.new.pass.view in
    let missed : IsMissed wanted.only_new wanted.key wanted.change p.view u.view Absent
    = subst (IsMissed wanted.only_new wanted.key wanted.change p.view u.view) c.in-Err-Absent.field-0-is c.in-Err-Absent.ensures.missed in
    never_looks wanted.only_new wanted.change false p.view w missed.0

pub returns-in-Err-Absent-clause-later : goal.returns-in-Err-Absent-clause-later
returns-in-Err-Absent-clause-later g c = λ none.
    let wanted = c.args.wanted in
    let p = c.args.pass.now in
    let u = c.try_update.new.pass in
    let w = c.look_again.new.pass.view in
    let missed : IsMissed wanted.only_new wanted.key wanted.change p.view u.view Absent
    = subst (IsMissed wanted.only_new wanted.key wanted.change p.view u.view) c.in-Err-Absent.field-0-is c.in-Err-Absent.ensures.missed in
    let shown = c.look_again.ensures.otherwise none in
    inr (u.view, shown.0, false, missed, shown.1)

pub returns-in-Err-Absent-clause-goes : goal.returns-in-Err-Absent-clause-goes
returns-in-Err-Absent-clause-goes g c = λ none.
    goes_more c.args.pass.now.view c.try_update.new.pass.view c.look_again.new.pass.view c.in-Err-Absent.ensures.stays.goes (c.look_again.ensures.otherwise none).1.goes

pub returns-in-Err-There-clause-answered : goal.returns-in-Err-There-clause-answered
returns-in-Err-There-clause-answered g c =
    let wanted = c.args.wanted in
    let p = c.args.pass.now in
    let u = c.try_update.new.pass in
    let w = c.look_again-in-Err-There.new.pass.view in
    let missed : IsMissed wanted.only_new wanted.key wanted.change p.view u.view There
    = subst (IsMissed wanted.only_new wanted.key wanted.change p.view u.view) c.in-Err-There.field-0-is c.in-Err-There.ensures.missed in
    let e = c.look_again-in-Err-There.ensures in
    look_answers wanted.only_new p u w wanted.line wanted.key wanted.change true c.look_again-in-Err-There.result c.try_update.ensures.same c.in-Err-There.ensures.stays.goes missed.0 e.was e.looked e.found

pub returns-in-Err-There-clause-unlooked : goal.returns-in-Err-There-clause-unlooked
returns-in-Err-There-clause-unlooked g c =
    let wanted = c.args.wanted in
    let p = c.args.pass.now in
    let u = c.try_update.new.pass in
    let w = c.look_again-in-Err-There.new.pass.view in
    let missed : IsMissed wanted.only_new wanted.key wanted.change p.view u.view There
    = subst (IsMissed wanted.only_new wanted.key wanted.change p.view u.view) c.in-Err-There.field-0-is c.in-Err-There.ensures.missed in
    never_looks wanted.only_new wanted.change true p.view w missed.0

pub returns-in-Err-There-clause-later : goal.returns-in-Err-There-clause-later
returns-in-Err-There-clause-later g c = λ none.
    let wanted = c.args.wanted in
    let p = c.args.pass.now in
    let u = c.try_update.new.pass in
    let w = c.look_again-in-Err-There.new.pass.view in
    let missed : IsMissed wanted.only_new wanted.key wanted.change p.view u.view There
    = subst (IsMissed wanted.only_new wanted.key wanted.change p.view u.view) c.in-Err-There.field-0-is c.in-Err-There.ensures.missed in
    let shown = c.look_again-in-Err-There.ensures.otherwise none in
    inr (u.view, shown.0, true, missed, shown.1)

pub returns-in-Err-There-clause-goes : goal.returns-in-Err-There-clause-goes
returns-in-Err-There-clause-goes g c = λ none.
    goes_more c.args.pass.now.view c.try_update.new.pass.view c.look_again-in-Err-There.new.pass.view c.in-Err-There.ensures.stays.goes (c.look_again-in-Err-There.ensures.otherwise none).1.goes

pub returns-in-Err-Failed-clause-unlooked : goal.returns-in-Err-Failed-clause-unlooked
returns-in-Err-Failed-clause-unlooked g c = λ plain put. record { fixes = c.in-Err-Failed.ensures.stays.fixes; waits = c.try_update.ensures.waits }
