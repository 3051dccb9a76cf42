-- A plan that was carried out.
use Rattle.std.specs.Prelude.{◌≡◌, ℕ, Bool, true, false, ◌+◌, ◌≤◌, List, [], ◌∷◌, ◌++◌, length, take}
use Rattle.index_words.specs.declared.view.View.{View}
use Rattle.key_map.specs.declared.update.Update.{Update}
use Rattle.key_map.specs.History.{after}
use Rattle.key_map.specs.Map.{map_has}
use Rattle.key_map.specs.declared.pass.Done.{Done}
use Rattle.key_map.specs.declared.update.Change.{Change}
use Rattle.key_map.specs.declared.update.Change.TheVariants.{Put, Remove}
use Rattle.core_updates.specs.Ready.{update_of}
use Rattle.plan_laws.specs.Answers.{owned_nodes, owned_entries}

-- the nodes after an update: one fewer after a put of a key that was absent, as many after a put of a key that was
-- there, and one more after a removal
abbrev pub MovesNodes : Change → Bool → ℕ → ℕ → Type 0
MovesNodes (Put val) false old new = new + 1 ≡ old
MovesNodes (Put val) true old new = new ≡ old
MovesNodes Remove was old new = new ≡ old + 1

-- from the view before the try to the one after it: the update is the last of the history that the pass has seen then,
-- at this place, which is one of its own; the others are all updates before it, and begin with those that it had seen;
-- the key was in the map after these or not, as the answer says; the pass owns as many nodes as the change leaves it,
-- and at most four entries fewer
pub record HasCarriedOut (v w : View) (n line key : ℕ) (change : Change) (done : Done) : Type 0 where
  pub others : List Update
  pub before : v.history.seen ≡ take (length v.history.seen) others
  pub seen : w.history.seen ≡ others ++ update_of n line key change ∷ []
  pub place_is : done.at ≡ length w.history.seen
  pub mine : w.history.mine ≡ v.history.mine ++ done.at ∷ []
  pub left : w.history.left + 1 ≡ v.history.left
  pub found : w.history.found ≡ v.history.found
  pub looks : w.history.looks ≡ v.history.looks
  pub was : map_has key (after others (length others)) ≡ done.was
  pub nodes : MovesNodes change done.was (owned_nodes v) (owned_nodes w)
  pub entries : owned_entries v ≤ owned_entries w + 4
