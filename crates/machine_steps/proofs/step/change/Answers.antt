use Rattle.machine_steps.proofs.StepMet.{has_seat, few, has_free, other_of, has_calls, spells_step}
use Rattle.machine_steps.proofs.step.change.Goals as goal

pub split_seat-requires-clause-few : goal.split_seat-requires-clause-few
split_seat-requires-clause-few c = few c.args.layout.now c.args.words.now c.args.views.now.items c.args.seat c.args.step c.requires.met c.in-Split.nodes c.in-Split.is

pub split_seat-requires-clause-there : goal.split_seat-requires-clause-there
split_seat-requires-clause-there c = has_free c.args.layout.now c.args.words.now c.args.views.now.items c.args.seat c.args.step c.requires.met c.in-Split.nodes c.in-Split.is

pub join_seats-requires-clause-seat : goal.join_seats-requires-clause-seat
join_seats-requires-clause-seat c = has_seat c.args.layout.now c.args.words.now c.args.views.now.items c.args.seat c.args.step c.requires.met

pub join_seats-requires-clause-other : goal.join_seats-requires-clause-other
join_seats-requires-clause-other c = (other_of c.args.layout.now c.args.words.now c.args.views.now.items c.args.seat c.args.step c.requires.met c.in-Join.other c.in-Join.is).within

pub join_seats-requires-clause-apart : goal.join_seats-requires-clause-apart
join_seats-requires-clause-apart c = (other_of c.args.layout.now c.args.words.now c.args.views.now.items c.args.seat c.args.step c.requires.met c.in-Join.other c.in-Join.is).apart

pub load_stamp_seat-requires : goal.load_stamp_seat-requires
load_stamp_seat-requires c = has_seat c.args.layout.now c.args.words.now c.args.views.now.items c.args.seat c.args.step c.requires.met

pub raise_seat-requires-clause-calls : goal.raise_seat-requires-clause-calls
raise_seat-requires-clause-calls c = has_calls c.args.layout.now c.args.words.now c.args.views.now.items c.args.seat c.args.step c.requires.met c.in-Raise.update c.in-Raise.is

pub raise_seat-requires-clause-step : goal.raise_seat-requires-clause-step
raise_seat-requires-clause-step c = spells_step c.args.layout.now c.args.words.now c.args.views.now.items c.args.seat c.args.step c.requires.met c.in-Raise.update c.in-Raise.is
