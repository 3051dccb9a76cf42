use Rattle.core_grace.proofs.batch.+has_all_others.Given as goal

abbrev pub decreases-has_all_others : goal.decreases-has_all_others
decreases-has_all_others l = l.passes
