use Rattle.machine_spelled.proofs.bundles_now.+push_entries.Given as goal

abbrev pub decreases-push_entries : goal.decreases-push_entries
decreases-push_entries l = l.behind
