use Rattle.std.proofs.Common.{◌∙◌, ap}
use Rattle.index_words.specs.declared.view.reading.Reading.{Reading}
use Rattle.table_tests.proofs.stages.end_in_stages.Goals as goal

pub prune_all-requires-clause-least : goal.prune_all-requires-clause-least
prune_all-requires-clause-least g c = ap (λ (r : Reading). r.least) c.finalise_all.ensures.reading ∙ c.requires.least

pub mark_all-requires : goal.mark_all-requires
mark_all-requires g c = record { numbered = (c.args.slots.now, c.prune_all.ensures.numbered) }

pub set_plain-requires-clause-marked : goal.set_plain-requires-clause-marked
set_plain-requires-clause-marked g c = c.mark_all.ensures.marked c.args.slots.now c.prune_all.ensures.numbered
