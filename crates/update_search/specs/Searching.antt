-- A pass that searches on plain links: where it stands, and what it remembers of its way.
use Rattle.std.specs.Prelude.{◌≡◌, ℕ, List, [], true, Some, None}
use Rattle.index_words.specs.declared.side.Side.{Side}
use Rattle.index_words.specs.declared.view.View.{View}
use Rattle.index_words.specs.declared.view.reading.Place.TheVariants.{Nowhere, Node as AtNode}
use Rattle.index_words.specs.declared.view.reading.Turn.{Turn}
use Rattle.core_trees.specs.declared.link.Link.{Link}
use Rattle.core_invariant.specs.Readers.{IsLocked}
use Rattle.core_laws.specs.Searching.{last_turn}
use Rattle.core_events.specs.Searches.{searches_at}
use Rattle.plain_trees.specs.Turns.{IsBeyond}
use Rattle.plan_laws.specs.Looks.{KeepsLooks, RemembersLink}
use Rattle.plan_laws.specs.Tries.{IsTrying}
use Rattle.update_search.specs.declared.turns.Turns.{Turns}
use Rattle.update_search.specs.Outcomes.{KeepsPlaces}
use Rattle.update_search.specs.Turns.{HasTurns, no_turns}

-- a pass after the begin of its section, with no node locked: its search begins at the root
pub record IsAtTop (v : View) : Type 0 where
  pub number : ℕ
  pub trying : IsTrying v number []
  pub place : v.reading.place ≡ Nowhere
  pub turns : HasTurns v no_turns
  pub none : v.reading.links ≡ []

-- a search has reached the node by this link, with these turns up to it, and has not loaded its key
pub record HasCome (v : View) (at : Link) (node : ℕ) (turns : Turns) : Type 0 where
  pub place : v.reading.place ≡ AtNode node None
  pub turned : HasTurns v turns
  pub link : RemembersLink v at node

-- it has reached the node, and the node has this key
pub record HasKeyAt (v : View) (at : Link) (node key : ℕ) (turns : Turns) : Type 0 where
  pub place : v.reading.place ≡ AtNode node (Some key)
  pub turned : HasTurns v turns
  pub link : RemembersLink v at node

-- it stands where this link begins, and goes on by it
abbrev pub StandsAt : View → Link → Type 0
StandsAt v at = searches_at v.reading v.reading.place at.node at.side ≡ true

-- a search stands at a node whose key does not lie beyond that of one of its turns
pub record StandsOdd (v : View) (node : ℕ) (turn : Turn) : Type 0 where
  pub key : ℕ
  pub place : v.reading.place ≡ AtNode node (Some key)
  pub side : Side
  pub last : last_turn side v.reading ≡ Some turn
  pub odd : ¬ IsBeyond side turn.key key

-- a pass inside a section that has not raised stands so, at a node that it has not locked
pub record MeetsOdd (v : View) (node : ℕ) (turn : Turn) : Type 0 where
  pub number : ℕ
  pub nodes : List ℕ
  pub trying : IsTrying v number nodes
  pub stands : StandsOdd v node turn
  pub unlocked : ¬ IsLocked v node

-- the same at a node that it has locked
pub record HoldsOdd (v : View) (node : ℕ) (turn : Turn) : Type 0 where
  pub number : ℕ
  pub nodes : List ℕ
  pub trying : IsTrying v number nodes
  pub stands : StandsOdd v node turn
  pub locked : IsLocked v node

-- a search goes on: the same nodes are locked, and what it has found, and what was found under locks, stays
pub record KeepsSearch (v w : View) : Type 0 where
  pub places : KeepsPlaces v w
  pub looks : KeepsLooks v w
