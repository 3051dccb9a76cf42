-- The turns of a search.
use Rattle.std.specs.Prelude.{◌≡◌, ℕ, nat_lt, Option, Some, None, if◌then◌else◌}
use Rattle.index_words.specs.declared.side.Side.{Side}
use Rattle.index_words.specs.declared.side.Side.TheVariants.{Left, Right}
use Rattle.index_words.specs.declared.view.View.{View}
use Rattle.index_words.specs.declared.view.reading.Turn.{Turn}
use Rattle.update_search.specs.declared.turns.Turns.{Turns}

abbrev pub no_turns : Turns
no_turns = record { left = None; right = None }

abbrev pub turned_at : Side → Turn → Turns → Turns
turned_at Left turn ts = record ts { left = Some turn }
turned_at Right turn ts = record ts { right = Some turn }

-- the side to which a search for the key goes on at a node with another key
abbrev pub side_to : ℕ → ℕ → Side
side_to key here = if nat_lt key here then Left else Right

-- the turn beyond which the key does not lie: the last one to the left is tested first
abbrev pub beyond_right : Option Turn → ℕ → Option Turn
beyond_right None key = None
beyond_right (Some t) key = if nat_lt t.key key then None else Some t

abbrev pub beyond_left : Option Turn → Option Turn → ℕ → Option Turn
beyond_left None right key = beyond_right right key
beyond_left (Some t) right key = if nat_lt key t.key then beyond_right right key else Some t

abbrev pub beyond : Turns → ℕ → Option Turn
beyond ts key = beyond_left ts.left ts.right key

-- these are the turns of the view's search
pub record HasTurns (v : View) (ts : Turns) : Type 0 where
  pub left : v.reading.left_turn ≡ ts.left
  pub right : v.reading.right_turn ≡ ts.right
