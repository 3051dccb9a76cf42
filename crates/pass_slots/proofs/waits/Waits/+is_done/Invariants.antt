use Rattle.pass_slots.proofs.waits.Waits.+is_done.Given as goal

abbrev pub decreases-is_done : goal.decreases-is_done
decreases-is_done l = l.passes
