-- The map from keys to values, and the map after the first updates of a history. A map is a list of pairs whose keys
-- rise strictly. A key is a number; if it is a rank in the directory it stands for the name there, so the pairs are in
-- the byte order of names. Updates are numbered from 1.
use Rattle.std.specs.Prelude.{ℕ, Bool, List, [], ◌∷◌, fold, take, nat_lt, ◌==◌, if◌then◌else◌, Option, find}
use Rattle.std.specs.List.{list_any}
use Rattle.std.specs.Option.{option_map}
use Rattle.key_map.specs.declared.pair.Pair.{Pair}
use Rattle.key_map.specs.declared.update.Update.{Update}
use Rattle.key_map.specs.declared.update.Change.{Change}
use Rattle.key_map.specs.declared.update.Change.TheVariants.{Put, Remove}

abbrev pub pair : ℕ → ℕ → Pair
pair key val = record { key = key; val = val }

-- whether the key is in the map
abbrev pub map_has : ℕ → List Pair → Bool
map_has key m = list_any (λ (p : Pair). p.key == key) m

-- the key's value, if it is in the map
abbrev pub map_get : ℕ → List Pair → Option ℕ
map_get key m = option_map (λ (p : Pair). p.val) (find (λ (p : Pair). p.key == key) m)

-- the map with the pair inserted, or with the key's value replaced
abbrev pub map_put : ℕ → ℕ → List Pair → List Pair
map_put key val [] = pair key val ∷ []
map_put key val (p ∷ ps) =
    if nat_lt p.key key then p ∷ map_put key val ps
    else (if p.key == key then pair key val ∷ ps else pair key val ∷ p ∷ ps)

-- the map without the key
abbrev pub map_remove : ℕ → List Pair → List Pair
map_remove key [] = []
map_remove key (p ∷ ps) = if p.key == key then ps else p ∷ map_remove key ps

-- the map after one update
abbrev pub changed : ℕ → Change → List Pair → List Pair
changed key (Put val) m = map_put key val m
changed key Remove m = map_remove key m

abbrev pub updated : List Pair → Update → List Pair
updated m u = changed u.key u.change m

-- the map after the first `t` updates, in order, from the empty map
unfoldable pub after : List Update → ℕ → List Pair
after updates t = fold updated [] (take t updates)
