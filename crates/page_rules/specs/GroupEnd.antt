-- Helper: the headline does not rest on this file.
-- Where the names end that begin with a group's text.
use Rattle.std.specs.Prelude.{◌≡◌, ℕ, ◌<◌, ◌≤◌, true, false, List, length}
use Rattle.key_names.specs.Names.{name_at, begins_with}

-- the name at the rank `inside` begins with the group, and after it that at `outside` does not, if there is one
pub record AreAroundEnd (dir : List (List ℕ)) (group : List ℕ) (inside outside : ℕ) : Type 0 where
  pub begins : begins_with (name_at dir inside) group ≡ true
  pub rise : inside < outside
  pub within : outside ≤ length dir
  pub behind : outside < length dir → begins_with (name_at dir outside) group ≡ false
