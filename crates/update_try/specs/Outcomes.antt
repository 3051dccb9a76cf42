-- How the calls of a try end: a try that fails keeps what the pass knows and owns.
use Rattle.std.specs.Prelude.{◌≡◌, ℕ, []}
use Rattle.index_words.specs.declared.view.View.{View}
use Rattle.plan_laws.specs.Frames.{CountsGrow}
use Rattle.plan_laws.specs.Releases.{IsReleasing}

-- what a try that fails leaves unchanged: what the pass knows of the history, and its slots. No count falls, and that
-- of entries without a number is unchanged
pub record KeepsAll (v w : View) : Type 0 where
  pub layout : w.layout ≡ v.layout
  pub joined : w.joined ≡ v.joined
  pub number : w.number ≡ v.number
  pub history : w.history ≡ v.history
  pub free : w.free ≡ v.free
  pub retired : w.retired ≡ v.retired
  pub batch : w.batch ≡ v.batch
  pub grown : CountsGrow v w
  pub waits : w.counts.waits ≡ v.counts.waits

-- a try was given up: no node is locked, and the section may be left
pub record HasGivenUp (v : View) (n : ℕ) (w : View) : Type 0 where
  pub keeps : KeepsAll v w
  pub released : IsReleasing w n []
