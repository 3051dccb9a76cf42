-- The rule on the plain tree, which the plain links spell from the root on: how it differs from the tree at the stamp,
-- and what is known of the updates that still have to set links of it.
use Rattle.std.specs.Prelude.{◌≡◌, ℕ, ◌<◌, ◌⊎◌, List, [], ◌∷◌, Bool, false, ◌==◌, ◌&&◌, ◌||◌, Option, Some, None, IfSome, true, All}
use Rattle.std.specs.List.{list_any}
use Rattle.index_words.specs.declared.side.Side.{Side}
use Rattle.index_words.specs.declared.side.Side.TheVariants.{Left, Right}
use Rattle.index_words.specs.declared.view.View.{View}
use Rattle.index_words.specs.declared.view.slots.Looks.{Looks}
use Rattle.index_words.specs.declared.view.update.Unlinking.{Unlinking}
use Rattle.index_words.specs.declared.view.update.UnsetLink.{UnsetLink}
use Rattle.index_words.specs.Views.{no_looks}
use Rattle.key_map.specs.Lists.{count, has, Every}
use Rattle.core_trees.specs.NamedTree.{NamedTree}
use Rattle.core_trees.specs.Slots.{occurs, NamesOnce}
use Rattle.core_trees.specs.SpelledTree.{Graph, IsSpelled}
use Rattle.core_events.specs.PlainNeeds.{is_link_of, unlinks_at}
use Rattle.core_invariant.specs.Readers.{IsLocked}
use Rattle.plain_trees.specs.Matching.{Undone, Matches}

-- a link that is still to be set, from `was` to `child`
abbrev pub is_item : ℕ → Side → ℕ → ℕ → UnsetLink → Bool
is_item k side was child u = is_link_of k side u && u.was == was && u.child == child

-- a link is still to be set from the removed node to its copy
abbrev pub is_copied : ℕ → ℕ → UnsetLink → Bool
is_copied removed copy u = u.was == removed && u.child == copy

-- The right link of a copy passes over a successor that was the right child of the removed node, as long as the copy is
-- not linked; `right` is what the right links hold.
abbrev pub passes_over : List ℕ → Option Unlinking → List UnsetLink → (ℕ → ℕ) → ℕ → Side → ℕ → ℕ → Bool
passes_over (removed ∷ successor ∷ []) None us right k Right was child = list_any (is_copied removed k) us && was == successor && child == right k
passes_over taken unlinking us right k side was child = false

abbrev pub sets_link : (ℕ → ℕ) → ℕ → Side → ℕ → ℕ → View → Bool
sets_link right k side was child v =
    list_any (is_item k side was child) v.update.unset || passes_over v.update.taken v.update.unlinking v.update.unset right k side was child

-- the only node that an update takes out without bringing one in, or a successor
abbrev pub bypasses : List ℕ → Option ℕ → ℕ → Bool
bypasses (removed ∷ []) None k = removed == k
bypasses (removed ∷ successor ∷ []) added k = successor == k
bypasses taken added k = false

abbrev pub copies : List ℕ → ℕ → ℕ → Bool
copies (removed ∷ successor ∷ []) n s = removed == n && successor == s
copies taken n s = false

-- what the updates of the views still have to do
abbrev pub undone : Graph → List View → Undone
undone g vs = record {
  unset = λ k side was child. list_any (sets_link (g.child Right) k side was child) vs;
  out = λ k. list_any (λ (v : View). has k v.update.taken) vs;
  bypassed = λ k. list_any (λ (v : View). bypasses v.update.taken v.update.added k) vs;
  heir = λ n s. list_any (λ (v : View). copies v.update.taken n s) vs;
}

-- the first node that an update took out, or none
abbrev pub IsFirstOut : List ℕ → ℕ → Type 0
IsFirstOut [] was = was ≡ 0
IsFirstOut (n ∷ ns) was = was ≡ n

-- the second one, a successor
abbrev pub IsSecondOut : List ℕ → ℕ → Type 0
IsSecondOut (n ∷ s ∷ []) was = was ≡ s
IsSecondOut taken was = ⊥

-- the child of a link that is to be set is the node that the update brings in, in the place of the first one taken out,
-- and is not in the plain tree yet
pub record BringsChild (plain : NamedTree) (taken : List ℕ) (added : Option ℕ) (was child : ℕ) : Type 0 where
  pub brought : added ≡ Some child
  pub some : 0 < child
  pub new : occurs child plain ≡ 0
  pub first : IsFirstOut taken was

-- or it is another one, and already there, or none
pub record HasChild (plain : NamedTree) (added : Option ℕ) (child : ℕ) : Type 0 where
  pub other : ¬ (added ≡ Some child)
  pub there : (child ≡ 0) ⊎ (0 < occurs child plain)

-- A copy whose successor was the right child of the removed node. The successor has no left child, and what hangs below
-- it hangs at the copy too.
pub record CopiesNear (g : Graph) (plain : NamedTree) (removed successor copy : ℕ) : Type 0 where
  pub some : 0 < successor
  pub there : 0 < copy
  pub new : occurs copy plain ≡ 0
  pub key : g.key successor ≡ g.key copy
  pub rises : g.key removed < g.key copy
  pub bare : g.child Left successor ≡ 0
  pub hangs : g.child Right removed ≡ successor
  pub behind : (g.child Right copy ≡ 0) ⊎ (0 < occurs (g.child Right copy) plain)

abbrev pub NearRight : Graph → NamedTree → List ℕ → Option Unlinking → ℕ → ℕ → Type 0
NearRight g plain (removed ∷ successor ∷ []) None was child = was ≡ removed → CopiesNear g plain removed successor child
NearRight g plain taken unlinking was child = Unit {0}

-- A link that is still to be set: the update took out what it leads to until then. A successor is unlinked at the link
-- that the view has noted, and if another link is to be set no look of the wait was made.
pub record ItemRight (g : Graph) (plain : NamedTree) (taken : List ℕ) (added : Option ℕ) (unlinking : Option Unlinking) (waiting : Looks) (u : UnsetLink) : Type 0 where
  pub goes : (u.was ≡ 0) ⊎ (0 < count u.was taken)
  pub moves : ¬ (u.was ≡ u.child)
  pub leads : BringsChild plain taken added u.was u.child ⊎ HasChild plain added u.child
  pub near : NearRight g plain taken unlinking u.was u.child
  pub last : IsSecondOut taken u.was → unlinks_at u.node u.side unlinking ≡ true
  pub early : ¬ IsSecondOut taken u.was → (unlinks_at u.node u.side unlinking ≡ false) × (waiting ≡ no_looks)

-- the nodes that an update takes out are different ones
abbrev pub AreApart : List ℕ → Type 0
AreApart (n ∷ s ∷ []) = ¬ (n ≡ s)
AreApart taken = Unit {0}

-- one seat: a node of the tree at the stamp that it has locked is in the plain tree; a successor that is to be unlinked
-- was taken out by its update, and before the raise nothing was taken out
pub record SeatInTree (g : Graph) (plain now : NamedTree) (v : View) : Type 0 where
  pub locked : (k : ℕ) → IsLocked v k → 0 < occurs k now → 0 < occurs k plain
  pub items : Every (ItemRight g plain v.update.taken v.update.added v.update.unlinking v.update.waiting) v.update.unset
  pub apart : AreApart v.update.taken
  pub first : v.update.raised ≡ None → v.update.taken ≡ []
  pub far : IfSome v.update.unlinking (λ u. v.update.taken ≡ u.replaced ∷ u.successor ∷ [])

-- the plain tree, over the keys, the values and the plain links, and the tree at the stamp
pub record IsPlainTree (g : Graph) (vs : List View) (now plain : NamedTree) : Type 0 where
  pub spelled : IsSpelled g (g.child Right 0) plain
  pub once : NamesOnce 0 plain
  pub matches : Matches (undone g vs) 0 Right plain now
  pub seats : All (SeatInTree g plain now) vs
