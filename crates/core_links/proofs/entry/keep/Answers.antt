use Rattle.std.proofs.Common.{refl}
use Rattle.core_links.proofs.Kept.{kept_some, kept_all, selected_some}
use Rattle.core_links.proofs.entry.keep.Goals as goal

pub returns-in-Some-clause-kept : goal.returns-in-Some-clause-kept
returns-in-Some-clause-kept c = kept_some c.args.least c.args.bundle.now c.in-Some.place c.in-Some.ensures.first

pub returns-in-Some-clause-selected : goal.returns-in-Some-clause-selected
returns-in-Some-clause-selected c = selected_some c.args.least c.args.bundle.now c.in-Some.place c.in-Some.ensures.first

pub returns-in-None-clause-kept : goal.returns-in-None-clause-kept
returns-in-None-clause-kept c = kept_all c.args.least c.args.bundle.now (c.in-None.ensures.none refl)
