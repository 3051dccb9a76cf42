use Rattle.std.proofs.Common.{sym, subst}
use Rattle.index_words.specs.declared.view.View.{View}
use Rattle.core_grace.specs.Sections.{left_word}
use Rattle.core_events.specs.Moves.{left}
use Rattle.plan_laws.specs.Frames.{KeepsOwned}
use Rattle.plan_laws.proofs.Frames.{keeps_owned}
use Rattle.plan_laws.proofs.Releases.{leave_step, take_back_step}
use Rattle.table_steps.specs.Stamps.{outside_again}
use Rattle.update_try.proofs.Steps.{no_node}
use Rattle.update_try.proofs.release.leave_section.Goals as goal

pub close_section-requires : goal.close_section-requires
close_section-requires c =
    record { inside = record { odd = c.requires.released.word; unlocked = no_node c.args.pass.now.view.held.nodes c.requires.released.locked } }

pub returns-clause-keeps : goal.returns-clause-keeps
returns-clause-keeps c =
    let p = c.args.pass.now in
    let v = p.view in
    let x = left v (left_word v.section_word) in
    let leaves = leave_step v.layout v p.seat p.number c.requires.released in
    subst (λ (u : View). KeepsOwned v u) (sym c.close_section.ensures.view)
    (keeps_owned v x (outside_again v) leaves.keeps (take_back_step v.layout x p.seat p.number leaves.has_left).keeps)
