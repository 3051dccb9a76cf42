-- What a step needs to know of the seat that makes it.
use Rattle.std.specs.Prelude.{ℕ, ◌<◌, ◌≤◌, List, length, slice_index_or}
use Rattle.index_words.specs.declared.view.View.{View}

-- the seat has at least so many free nodes
pub record HasFree (vs : List View) (i n : ℕ) : Type 0 where
  pub within : i < length vs
  pub free : (d : View) → n ≤ length (slice_index_or vs i d).free.nodes

-- the seat has calls left
pub record HasCalls (vs : List View) (i : ℕ) : Type 0 where
  pub within : i < length vs
  pub left : (d : View) → 0 < (slice_index_or vs i d).history.left
