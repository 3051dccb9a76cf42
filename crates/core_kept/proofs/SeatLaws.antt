-- The laws on how seats are made, and on what a view knows that has every number.
use Rattle.std.proofs.Common.{length, ap, ◌∙◌}
use Rattle.index_words.specs.Words.{memory}
use Rattle.index_words.proofs.Seats.{at_item}
use Rattle.core_invariant.specs.OwnPlaces.{KnowsPlaces}
use Rattle.core_kept.specs.SeatLaws.{FirstLaw, MakeLaw, MadeLaw, WholeLaw}
use Rattle.core_kept.proofs.AtOpening.{first_right}
use Rattle.core_kept.proofs.MadeViews.{made}
use Rattle.core_kept.proofs.MadeSeats.{opening_made}
use Rattle.core_kept.proofs.OwnPlaces.{knows_whole}

pub first_law : FirstLaw
first_law z few = first_right z few

pub make_law : MakeLaw
make_law z words vs i n v size at right may = made z words vs i n v size at right may

pub made_law : MadeLaw
made_law z sizes is right = opening_made z sizes is right

pub whole_law : WholeLaw
whole_law z words vs i v at right all =
    ap length (knows_whole z (memory z words) vs right.meaning right.rule i v at (at_item KnowsPlaces vs i v at right.places) all) ∙ right.rule.history.long
