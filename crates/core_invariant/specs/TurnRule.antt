-- The rule on the turns of searches on plain links: what hangs below them, and when a node leaves the plain tree.
use Rattle.std.specs.Prelude.{◌≡◌, ℕ, ◌<◌, ◌⊎◌, Option, None, IfSome}
use Rattle.index_words.specs.declared.side.Side.{Side}
use Rattle.index_words.specs.declared.side.Side.TheVariants.{Left, Right}
use Rattle.index_words.specs.declared.view.View.{View}
use Rattle.index_words.specs.declared.view.reading.Place.{Place}
use Rattle.index_words.specs.declared.view.reading.Place.TheVariants.{Nowhere, Node as AtNode}
use Rattle.index_words.specs.declared.view.reading.Turn.{Turn}
use Rattle.key_map.specs.Lists.{count}
use Rattle.core_trees.specs.NamedTree.{NamedTree}
use Rattle.core_trees.specs.Slots.{occurs}
use Rattle.core_trees.specs.SpelledTree.{Graph}
use Rattle.plain_trees.specs.Turns.{LeadsBelow}

-- the node at which a search stands leads below the turn
abbrev pub PlaceBelow : Graph → NamedTree → Place → Side → Turn → Type 0
PlaceBelow g plain (AtNode node key) side t = LeadsBelow g plain t.node t.key side node
PlaceBelow g plain _ side t = Unit {0}

-- the last turn to a side was made at a node with this key
pub record TurnRight (g : Graph) (plain : NamedTree) (place : Place) (side : Side) (t : Turn) : Type 0 where
  pub some : 0 < t.node
  pub key : g.key t.node ≡ t.key
  pub below : PlaceBelow g plain place side t

-- a search that begins has made no turn
abbrev pub NoTurns : Place → Option Turn → Option Turn → Type 0
NoTurns Nowhere left right = (left ≡ None) × (right ≡ None)
NoTurns _ left right = Unit {0}

-- the turns of one seat, whether it has raised or not
pub record TurnsRightOf (g : Graph) (plain : NamedTree) (place : Place) (left_turn right_turn : Option Turn) : Type 0 where
  pub left : IfSome left_turn (TurnRight g plain place Left)
  pub right : IfSome right_turn (TurnRight g plain place Right)
  pub begins : NoTurns place left_turn right_turn

abbrev pub TurnsRight : Graph → NamedTree → View → Type 0
TurnsRight g plain v = TurnsRightOf g plain v.reading.place v.reading.left_turn v.reading.right_turn

-- a node that an update took out is marked before it leaves the plain tree
abbrev pub LeavesMarked : (ℕ → ℕ) → NamedTree → View → Type 0
LeavesMarked mark plain v = (k : ℕ) → 0 < count k v.update.taken → (mark k ≡ 1) ⊎ (0 < occurs k plain)
