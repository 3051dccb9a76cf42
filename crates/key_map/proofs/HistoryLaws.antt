-- The map after updates: it is a map, a longer history has the same beginning, and one more update.
use Rattle.std.proofs.Common.{◌≡◌, ℕ, ◌+◌, ◌<◌, ◌≤◌, get_or, List, [], ◌∷◌, ◌++◌, length, take, fold, sym, ap, ◌∙◌, refl, arith}
use Rattle.std.proofs.lemmas.List.{take-append-le, take_all, take_more, length_push}
use Rattle.std.proofs.lemmas.List.Sums.{fold-append}
use Rattle.key_map.specs.declared.pair.Pair.{Pair}
use Rattle.key_map.specs.declared.update.Update.{Update}
use Rattle.key_map.specs.declared.update.Change.{Change}
use Rattle.key_map.specs.declared.update.Change.TheVariants.{Put, Remove}
use Rattle.key_map.specs.Map.{IsMap}
use Rattle.key_map.specs.History.{changed, updated, after}
use Rattle.key_map.proofs.MapLaws.{RisesFrom-map_put, RisesFrom-map_remove}

-- a longer history has the same maps
pub after-append : (us vs : List Update) (t : ℕ) → t ≤ length us → after (us ++ vs) t ≡ after us t
unfolding after
after-append us vs t le = ap (λ (ws : List Update). fold updated [] ws) (take-append-le t us vs le)

-- one more update
pub after-push : (us : List Update) (u : Update) → after (us ++ u ∷ []) (length us + 1) ≡ updated (after us (length us)) u
unfolding after
after-push us u =
    ap (λ (ws : List Update). fold updated [] ws) (take_all (length us + 1) (us ++ u ∷ []) (omega (arith, length_push us u)))
    ∙ fold-append updated [] us (u ∷ [])
    ∙ ap (λ (ws : List Update). updated (fold updated [] ws) u) (sym (take_all (length us) us (omega arith)))

IsMap-changed : (key : ℕ) (c : Change) (m : List Pair) → IsMap m → IsMap (changed key c m)
IsMap-changed key (Put val) m h = RisesFrom-map_put key val 0 m (omega arith) h
IsMap-changed key Remove m h = RisesFrom-map_remove key 0 m h

IsMap-fold : (us : List Update) (m : List Pair) → IsMap m → IsMap (fold updated m us)
IsMap-fold [] m h = h
IsMap-fold (u ∷ us) m h = IsMap-fold us (updated m u) (IsMap-changed u.key u.change m h)

-- it is a map
pub IsMap-after : (us : List Update) (t : ℕ) → IsMap (after us t)
unfolding after
IsMap-after us t = IsMap-fold (take t us) [] tt

-- the map after the next update of a list
pub after-more : (us : List Update) (t : ℕ) (d : Update) → t < length us → after us (t + 1) ≡ updated (after us t) (get_or us t d)
unfolding after
after-more us t d lt =
    ap (λ (ws : List Update). fold updated [] ws) (take_more us t d lt) ∙ fold-append updated [] (take t us) (get_or us t d ∷ [])

pub after-none : (us : List Update) → after us 0 ≡ []
unfolding after
after-none us = refl
