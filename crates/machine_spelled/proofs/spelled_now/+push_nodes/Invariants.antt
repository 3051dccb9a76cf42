use Rattle.machine_spelled.proofs.spelled_now.+push_nodes.Given as goal

abbrev pub decreases-push_nodes : goal.decreases-push_nodes
decreases-push_nodes l = l.depth
