-- What a try is to do, as its search has found it.
use Rattle.std.specs.Prelude.{◌≡◌, ℕ, ◌^◌, ◌<◌, [], Bool, true, false}
use Rattle.index_words.specs.declared.side.Side.TheVariants.{Right}
use Rattle.index_words.specs.declared.view.View.{View}
use Rattle.key_map.specs.declared.update.Change.{Change}
use Rattle.key_map.specs.declared.update.Change.TheVariants.{Put, Remove}
use Rattle.core_laws.specs.ViewNeeds.{IsSearched}
use Rattle.core_events.specs.Searches.{place_after}
use Rattle.core_updates.specs.Plans.{link_of}
use Rattle.plan_laws.specs.Looks.{RemembersLink}
use Rattle.plan_laws.specs.Tries.{IsTrying}
use Rattle.update_search.specs.declared.descent.KeyNode.{KeyNode}
use Rattle.update_search.specs.declared.search.Aim.{Aim}
use Rattle.update_search.specs.declared.search.Aim.TheVariants.{Grow, Replace, Remove as RemoveAim}
use Rattle.update_search.specs.Ends.{EndsMissing, IsFoundAt}
use Rattle.update_search.specs.Turns.{HasTurns, turned_at}

-- the search has stepped to the right of the key's node, to this child, 0 for none
pub record HasStepped (v : View) (key : ℕ) (found : KeyNode) (right : ℕ) : Type 0 where
  pub place : v.reading.place ≡ place_after found.node Right right
  pub turns : HasTurns v (turned_at Right (record { node = found.node; key = key }) found.turns)
  pub parent : IsSearched v found.at.node
  pub node : IsSearched v found.node
  pub at : RemembersLink v found.at found.node
  pub link : RemembersLink v (link_of found.node Right) right
  pub apart : ¬ (found.at.node ≡ found.node)

abbrev pub IsFoundFor : View → Aim → Type 0
IsFoundFor v (Grow pair gap) = EndsMissing v pair.key gap
IsFoundFor v (Replace pair found) = IsFoundAt v pair.key found
IsFoundFor v (RemoveAim key found right) = HasStepped v key found right

abbrev pub key_of : Aim → ℕ
key_of (Grow pair gap) = pair.key
key_of (Replace pair found) = pair.key
key_of (RemoveAim key found right) = key

abbrev pub change_of : Aim → Change
change_of (Grow pair gap) = Put pair.val
change_of (Replace pair found) = Put pair.val
change_of (RemoveAim key found right) = Remove

-- the search has found the key
abbrev pub has_found : Aim → Bool
has_found (Grow pair gap) = false
has_found (Replace pair found) = true
has_found (RemoveAim key found right) = true

-- it is an aim of a pass that has locked no node
pub record IsAim (v : View) (aim : Aim) : Type 0 where
  pub number : ℕ
  pub trying : IsTrying v number []
  pub found : IsFoundFor v aim
  pub small : key_of aim < 2 ^ 64

-- it is one of this update
pub record IsAimOf (key : ℕ) (change : Change) (aim : Aim) : Type 0 where
  pub key_is : key_of aim ≡ key
  pub change_is : change_of aim ≡ change

-- it is one of a put
abbrev pub is_put : Change → Bool
is_put (Put val) = true
is_put Remove = false

abbrev pub IsPut : Aim → Type 0
IsPut aim = is_put (change_of aim) ≡ true
