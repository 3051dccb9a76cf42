-- The plain links that an update has to set after its raise, and the tags that it has to raise then.
use Rattle.std.specs.Prelude.{◌≡◌, ℕ, List, [], ◌∷◌, ◌==◌, cond, map, Option}
use Rattle.index_words.specs.declared.side.Side.{Side}
use Rattle.index_words.specs.declared.view.update.OwedTag.{OwedTag}
use Rattle.index_words.specs.declared.view.update.Unlinking.{Unlinking}
use Rattle.index_words.specs.declared.view.update.UnsetLink.{UnsetLink}
use Rattle.key_map.specs.declared.update.Change.{Change}
use Rattle.key_map.specs.declared.update.Change.TheVariants.{Put, Remove}
use Rattle.core_trees.specs.declared.link.Link.{Link}
use Rattle.core_events.specs.declared.tree_move.PlainMove.{PlainMove}

-- a link that is to be set to a child, 0 for none
pub record SetLink : Type 0 where
  pub at : Link
  pub child : ℕ

abbrev pub set_to : ℕ → Side → ℕ → SetLink
set_to node side child = record { at = record { node = node; side = side }; child = child }

-- a link that a view has to set, without what it held before
abbrev pub set_of : UnsetLink → SetLink
set_of u = set_to u.node u.side u.child

-- the tags of the links that become null
abbrev pub nulls_of : List SetLink → List OwedTag
nulls_of [] = []
nulls_of (s ∷ ss) = cond (s.child == 0) (record { node = s.at.node; side = s.at.side } ∷ nulls_of ss) (nulls_of ss)

-- a removal raises the tags of the links that it makes null; a put makes none null
abbrev pub owed_of : Change → List SetLink → List OwedTag
owed_of (Put val) sets = []
owed_of Remove sets = nulls_of sets

-- what an update leaves to be done at plain links
pub record LeavesPlain (change : Change) (sets : List SetLink) (unlinking : Option Unlinking) (plain : PlainMove) : Type 0 where
  pub unset : map set_of plain.unset ≡ sets
  pub owed : plain.owed ≡ owed_of change sets
  pub last : plain.unlinking ≡ unlinking
