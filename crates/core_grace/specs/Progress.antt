-- When a batch becomes free: exactly once every other pass was passed.
use Rattle.std.specs.Prelude.{◌≡◌, ℕ, ◌<◌, List, false, true, Option}
use Rattle.index_words.specs.declared.view.View.{View}
use Rattle.key_map.specs.Lists.{has}
use Rattle.core_grace.specs.Batches.{is_number, batch_freed}

-- each other pass of the table was passed
abbrev pub PassedOthers : ℕ → Option ℕ → List ℕ → Type 0
PassedOthers passes number passed = (n : ℕ) → n < passes → is_number n number ≡ false → has n passed ≡ true

-- a view with a batch, before and after the test whether the batch becomes free
pub record SettlesRight (passes : ℕ) (v w : View) : Type 0 where
  pub frees : PassedOthers passes v.number v.grace.passed → w ≡ batch_freed v
  pub waits : (n : ℕ) → n < passes → is_number n v.number ≡ false → has n v.grace.passed ≡ false → w ≡ v
