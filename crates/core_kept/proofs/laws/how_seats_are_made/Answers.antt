use Rattle.core_kept.proofs.SeatLaws.{first_law, make_law, made_law, whole_law}
use Rattle.core_kept.proofs.laws.how_seats_are_made.Goals as goal

pub returns : goal.returns
returns c = record { first = first_law; make = make_law; made = made_law; whole = whole_law }
