use Rattle.std.proofs.Common.{◌∙◌}
use Rattle.client_threads.proofs.Depots.{seats_opened, room_opened, seats_unwritten}
use Rattle.client_threads.proofs.pooled.open_depot.Goals as goal

pub returns-in-Ok-open-clause-seats : goal.returns-in-Ok-open-clause-seats
returns-in-Ok-open-clause-seats c =
    seats_opened c.args.index.now c.in-Ok-open.opened.0 c.args.room c.in-Ok.seats c.in-Ok-open.opened.1.items c.in-Ok-open.ensures.all c.in-Ok-open.ensures.fresh ∙ c.in-Ok.ensures.1

pub returns-in-Ok-open-clause-room : goal.returns-in-Ok-open-clause-room
returns-in-Ok-open-clause-room c =
    room_opened c.args.index.now c.in-Ok-open.opened.0 c.args.room c.in-Ok.seats c.in-Ok-open.opened.1.items c.in-Ok-open.ensures.all c.in-Ok-open.ensures.fresh

pub returns-in-Ok-open-clause-unwritten : goal.returns-in-Ok-open-clause-unwritten
returns-in-Ok-open-clause-unwritten c = seats_unwritten c.args.index.now c.in-Ok-open.opened.0 c.args.room c.in-Ok.seats c.in-Ok-open.opened.1.items c.in-Ok-open.ensures.fresh
