-- The worked rows, by computation.
use Rattle.std.proofs.Common.{refl}
use Rattle.sample_laws.specs.Sample.{sample_summary, sample_done}
use Rattle.sample_laws.specs.Rows.{RowsLaw}

pub rows : RowsLaw
unfolding sample_summary sample_done
rows = record { one = refl; seven = refl; thousand_and_three = refl }
