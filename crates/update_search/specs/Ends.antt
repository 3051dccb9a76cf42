-- Where a search ends: at a null link, or at the key's node.
use Rattle.std.specs.Prelude.{◌≡◌, ℕ}
use Rattle.index_words.specs.declared.view.View.{View}
use Rattle.index_words.specs.declared.view.reading.Place.TheVariants.{Gap as AtGap}
use Rattle.core_laws.specs.Searching.{IsOver, IsUnder}
use Rattle.core_laws.specs.ViewNeeds.{IsSearched}
use Rattle.core_events.specs.Searches.{turn_key}
use Rattle.core_updates.specs.Held.{RemembersGap}
use Rattle.update_search.specs.declared.descent.Gap.{Gap}
use Rattle.update_search.specs.declared.descent.KeyNode.{KeyNode}
use Rattle.update_search.specs.declared.descent.End.{End}
use Rattle.update_search.specs.declared.descent.End.TheVariants.{Missing, Found}
use Rattle.update_search.specs.Searching.{HasKeyAt}

-- the search has ended at a null link for this key
pub record EndsMissing (v : View) (key : ℕ) (gap : Gap) : Type 0 where
  pub place : v.reading.place ≡ AtGap gap.at.node gap.at.side
  pub found : RemembersGap v gap.at.node gap.at.side gap.tag key

abbrev pub IsMissing : View → ℕ → Type 0
IsMissing v key = (gap : Gap) × EndsMissing v key gap

-- it has reached the key's node, which is not the node above it
pub record IsFoundAt (v : View) (key : ℕ) (found : KeyNode) : Type 0 where
  pub here : HasKeyAt v found.at found.node key found.turns
  pub parent : IsSearched v found.at.node
  pub apart : ¬ (found.at.node ≡ found.node)
  pub over : IsOver (turn_key found.turns.right) key
  pub under : IsUnder (turn_key found.turns.left) key

abbrev pub IsEnd : View → ℕ → End → Type 0
IsEnd v key (Missing gap) = EndsMissing v key gap
IsEnd v key (Found found) = IsFoundAt v key found
