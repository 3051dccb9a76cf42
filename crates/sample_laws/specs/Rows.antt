-- Helper: the headline does not rest on this file.
-- Worked rows of the generated session's summary.
use Rattle.std.specs.Prelude.{◌≡◌, ℕ}
use Rattle.bucket_terms.specs.declared.summary.Summary.{Summary}
use Rattle.sample_laws.specs.Sample.{sample_summary}

abbrev pub row : ℕ → ℕ → ℕ → ℕ → Summary
row keys listed requests updates = record { keys = keys; listed = listed; requests = requests; updates = updates }

pub record RowsLaw : Type 0 where
  pub one : sample_summary 1 ≡ row 4 0 4 4
  pub seven : sample_summary 7 ≡ row 16 8 28 16
  pub thousand_and_three : sample_summary 1003 ≡ row 2000 90200 4012 2012
