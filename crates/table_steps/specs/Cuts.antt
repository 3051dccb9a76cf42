-- A cut: its event, and what a pass has to have found for it under the lock of the node.
use Rattle.std.specs.Prelude.{◌≡◌, ℕ, List}
use Rattle.index_words.specs.declared.side.Side.{Side}
use Rattle.index_words.specs.declared.view.View.{View}
use Rattle.index_words.specs.declared.word.Part.TheVariants.{Next}
use Rattle.index_words.specs.declared.word.Word.TheVariants.{Entry}
use Rattle.core_events.specs.declared.event.Event.{Event}
use Rattle.core_events.specs.declared.event.Kind.TheVariants.{Cut}
use Rattle.core_events.specs.CutMoves.{cut_view}
use Rattle.core_laws.specs.Cuts.{MayCut}
use Rattle.core_laws.specs.ViewNeeds.{event_at}
use Rattle.table_steps.specs.Passes.{Pass}
use Rattle.table_steps.specs.Raises.{HoldsChain}

abbrev pub cutting : Pass → ℕ → Event
cutting p entry = event_at p.view.layout p.seat Cut (Entry Next entry) 0

-- the pass may cut after the entry, and has found these entries after it: all that there are, down to the last one
pub record CanCut (v : View) (node : ℕ) (side : Side) (entry : ℕ) : Type 0 where
  pub may : MayCut v node side entry
  pub back : List ℕ
  pub behind : HoldsChain v node may.next back

-- it can cut after the entry, in a bundle of some node
abbrev pub CanCutBehind : View → ℕ → Type 0
CanCutBehind v entry = (node : ℕ) × (side : Side) × CanCut v node side entry

-- after a cut the entries that were found after it are retired, and nothing of them is known any more
abbrev pub HasCut : View → ℕ → View → Type 0
HasCut v entry w = (node : ℕ) (side : Side) (can : CanCut v node side entry) → w ≡ cut_view v entry can.back
