use Rattle.std.proofs.Common.{subst, sym}
use Rattle.pass_slots.specs.Owned.{KeepsLooks}
use Rattle.index_words.specs.declared.view.slots.Looks.{Looks}
use Rattle.bundle_reads.proofs.ReadMoves.{same_more}
use Rattle.plan_laws.proofs.Frames.{keeps_owned}
use Rattle.update_try.proofs.Steps.{owned_same, same_pass}
use Rattle.tree_update.proofs.ending.wait_for_others.Goals as goal

-- the wait has looked at nobody yet
pub looks-init : goal.looks-init
looks-init g c =
    let p = c.args.pass.now in (
      c.requires.ends.0,
      subst (λ (l : Looks). KeepsLooks l c.none-waits.result) (sym c.requires.ends.1) c.none-waits.ensures,
      owned_same p.view,
      same_pass p,
    )

pub looks-preserved : goal.looks-preserved
looks-preserved g c =
    let p = c.args.pass.now in
    let q = c.looks.pass in
    let w = c.look_at_others.new.pass in
    let e = c.look_at_others.ensures in
    (e.parted, e.looks, keeps_owned p.view q.view w.view c.looks.invariant.2 e.keeps, same_more p q w c.looks.invariant.3 e.same)
