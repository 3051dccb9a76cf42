-- What a store of a plain link does: the link that an update still has to set is set to the child that the tree at the
-- stamp has there. The plain tree after it is spelled, matches the tree at the stamp without that link among those
-- still to be set, and results from a store of one of the forms.
use Rattle.std.specs.Prelude.{◌≡◌, ℕ, ◌<◌, ◌⊎◌}
use Rattle.index_words.specs.declared.side.Side.{Side}
use Rattle.index_words.specs.declared.side.Side.TheVariants.{Left, Right}
use Rattle.core_trees.specs.NamedTree.{NamedTree}
use Rattle.core_trees.specs.Slots.{occurs, NamesOnce}
use Rattle.core_trees.specs.SpelledTree.{Graph, IsSpelled}
use Rattle.core_trees.specs.LinkSteps.{IsLink, IsLinkIn}
use Rattle.plain_trees.specs.Matching.{Undone, IsUnset, IsOut, IsBypassed, IsHeir, IsOrderly, Matches}
use Rattle.plain_trees.specs.Stores.{IsStore, Copy}

-- The plain links before and after the store at the link of `node` on `side`, and the links of the tree at the stamp.
pub record Sets (g g' now_links : Graph) (node : ℕ) (side : Side) (was child : ℕ) : Type 0 where
  pub keys : (m : ℕ) → g'.key m ≡ g.key m
  pub vals : (m : ℕ) → g'.val m ≡ g.val m
  pub now_keys : (m : ℕ) → g.key m ≡ now_links.key m
  pub now_vals : (m : ℕ) → g.val m ≡ now_links.val m
  pub before : g.child side node ≡ was
  pub after : g'.child side node ≡ child
  pub asked : now_links.child side node ≡ child
  pub others : (m : ℕ) (top : Side) → ¬ IsLink node side m top → g'.child top m ≡ g.child top m

-- the node is not in the plain tree yet
abbrev pub IsNew : ℕ → NamedTree → Type 0
IsNew node plain = (0 < node) × (occurs node plain ≡ 0)

-- The link of a copy that counts as one to be set while the copy is not linked: its right link, which passes over the
-- successor from the start, since the successor was the right child of the removed node. The two have the same key,
-- above the removed node's. The successor has no left child, and what hangs below it is in the plain tree.
pub record PassesOver (g : Graph) (plain : NamedTree) (removed copy successor : ℕ) (side : Side) (was child : ℕ) : Type 0 where
  pub place : side ≡ Right
  pub some : 0 < successor
  pub only : was ≡ successor
  pub key : g.key successor ≡ g.key copy
  pub rises : g.key removed < g.key copy
  pub bare : g.child Left successor ≡ 0
  pub behind : 0 < child → 0 < occurs child plain

-- The link is one of the plain tree, and its node was not taken out. It is still to be set, from `was`, by one update
-- alone. After the store all other links that were to be set still are, except those of the child if it is new. A node
-- of the tree at the stamp that is not in the plain tree yet already has its children there. A new child has no links
-- to be set, unless it is a copy of a successor that goes at the same time. No new node takes the place of a bypassed
-- node. A successor is unlinked only after its copy was linked.
pub record MaySet (g now_links : Graph) (u u' : Undone) (plain now : NamedTree) (node : ℕ) (side : Side) (was child : ℕ) : Type 0 where
  pub link : IsLinkIn 0 Right plain node side
  pub there : ¬ IsOut u node
  pub only : (was' child' : ℕ) → IsUnset u node side was' child' → was' ≡ was
  pub rest : (parent : ℕ) (top : Side) (was' child' : ℕ) → ¬ IsLink node side parent top → ¬ ((parent ≡ child) × IsNew child plain)
      → IsUnset u parent top was' child' → IsUnset u' parent top was' child'
  pub outs : (m : ℕ) → IsOut u m → IsOut u' m
  pub passes : (m : ℕ) → IsBypassed u m → IsBypassed u' m
  pub heirs : (removed successor : ℕ) → IsHeir u removed successor → IsHeir u' removed successor
  pub new : (m : ℕ) → 0 < occurs m now → occurs m plain ≡ 0 → (top : Side) → g.child top m ≡ now_links.child top m
  pub near : ℕ
  pub calm : IsNew child plain → (top : Side) (was' child' : ℕ) → IsUnset u child top was' child' → PassesOver g plain was child near top was' child'
  pub stays : (m : ℕ) → 0 < occurs m now → ¬ IsOut u m
  pub passed : IsBypassed u was → occurs child plain ≡ 0 → child ≡ 0
  pub copied : (removed successor parent : ℕ) (top : Side) (child' : ℕ) → IsHeir u removed successor → IsUnset u parent top removed child' → ¬ (successor ≡ was)

-- a copy of a successor that stays was linked
abbrev pub IsCopy : {there bypassed : ℕ → Type 0} {n s from until : ℕ} {old new : NamedTree} → IsStore there bypassed n s from until old new → Type 0
IsCopy (Copy firm re) = Unit {0}
IsCopy _ = ⊥

-- The plain tree after the store: only the child may be added, what the link held is gone, and what was not taken out
-- stays. Otherwise only a successor over which a copy passes is gone. A copy of a successor that stays has the same
-- right child as the removed node.
pub record IsSet (g g' : Graph) (u u' : Undone) (plain now plain' : NamedTree) (was child : ℕ) : Type 0 where
  pub spelled : IsSpelled g' (g'.child Right 0) plain'
  pub matches : Matches u' 0 Right plain' now
  pub once : NamesOnce 0 plain'
  pub nodes : (m : ℕ) → 0 < occurs m plain' → (0 < occurs m plain) ⊎ (m ≡ child)
  pub gone : occurs was plain' ≡ 0
  pub keeps : (m : ℕ) → ¬ IsOut u m → 0 < occurs m plain → 0 < occurs m plain'
  pub leaves : (m : ℕ) → 0 < occurs m plain → occurs m plain' ≡ 0
      → (m ≡ was) ⊎ (IsNew child plain × ((behind : ℕ) × IsUnset u child Right m behind))
  pub successor : ℕ
  pub from : ℕ
  pub until : ℕ
  pub store : IsStore (λ m. ¬ IsOut u m) (IsBypassed u) was successor from until plain plain'
  pub copied : IsCopy store → IsHeir u was successor × (from ≡ g.key was) × (g'.child Right child ≡ g.child Right was)

abbrev pub SetLaw : Type 0
SetLaw =
    (g g' now_links : Graph) (u u' : Undone) (plain now : NamedTree) (node was child : ℕ) (side : Side)
    → IsOrderly u → IsSpelled g (g.child Right 0) plain → NamesOnce 0 plain
    → IsSpelled now_links (now_links.child Right 0) now → NamesOnce 0 now → Matches u 0 Right plain now
    → IsLinkIn 0 Right now node side → Sets g g' now_links node side was child → MaySet g now_links u u' plain now node side was child → ¬ (was ≡ child)
    → (plain' : NamedTree) × IsSet g g' u u' plain now plain' was child
