use Rattle.machine_spelled.proofs.bundles_now.+selected_from.Given as goal

abbrev pub decreases-selected_from : goal.decreases-selected_from
decreases-selected_from l = l.behind
