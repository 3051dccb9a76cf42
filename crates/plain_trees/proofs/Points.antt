-- Where searches for points lead to.
use Rattle.std.proofs.Common.{◌≡◌, ℕ, ◌<◌, ◌⊎◌, inl, inr, sym, ◌∙◌, subst, arith}
use Rattle.index_words.specs.declared.side.Side.{Side}
use Rattle.index_words.specs.declared.side.Side.TheVariants.{Left, Right}
use Rattle.core_trees.specs.NamedTree.{NamedTree, Null, Branch}
use Rattle.core_trees.specs.Gaps.{IsNull}
use Rattle.core_trees.specs.Slots.{occurs}
use Rattle.core_trees.specs.SpelledTree.{Graph, IsSpelled}
use Rattle.core_trees.proofs.Slots.{one_at-same}
use Rattle.plain_trees.specs.Points.{Meets, EndsAtNull}
use Rattle.plain_trees.specs.Successors.{LeadsTo, LeadsFrom}

pub null-meets : (x c : ℕ) (t : NamedTree) → IsNull t → Meets x c t → ⊥
null-meets x c Null _ h = h
null-meets x c (Branch _ _ _ _ _) n h = n

pub null-leads : (bypassed : ℕ → Type 0) (x s : ℕ) (t : NamedTree) → IsNull t → LeadsTo bypassed x s t → ⊥
null-leads bypassed x s Null _ h = h
null-leads bypassed x s (Branch _ _ _ _ _) n h = n

pub null-ends : (x node root : ℕ) (side top : Side) (t : NamedTree) → IsNull t → EndsAtNull x node side root top t → (node ≡ root) × (side ≡ top)
null-ends x node root side top Null _ h = h
null-ends x node root side top (Branch _ _ _ _ _) n h = absurd n

-- a search that reaches the successor does so from each node that it meets
pub leads-below : (bypassed : ℕ → Type 0) (x s c : ℕ) (t : NamedTree) → LeadsTo bypassed x s t → Meets x c t → LeadsFrom bypassed x s c t
leads-below bypassed x s c Null leads meets = meets
leads-below bypassed x s c (Branch m k v l r) leads (inl e) = inl (e, leads)
leads-below bypassed x s c (Branch m k v l r) (inl here) (inr (inl left)) = absurd (null-meets x c l here.1 left.1)
leads-below bypassed x s c (Branch m k v l r) (inl here) (inr (inr right)) = absurd (omega (arith, here.2, right.0))
leads-below bypassed x s c (Branch m k v l r) (inr (inl down)) (inr (inl left)) = inr (inl (leads-below bypassed x s c l down.1 left.1))
leads-below bypassed x s c (Branch m k v l r) (inr (inl down)) (inr (inr right)) = absurd (omega (arith, down.0, right.0))
leads-below bypassed x s c (Branch m k v l r) (inr (inr past)) (inr (inl left)) = absurd (null-meets x c l past.1 left.1)
leads-below bypassed x s c (Branch m k v l r) (inr (inr past)) (inr (inr right)) = inr (inr (leads-below bypassed x s c r past.2 right.1))

-- the subtree from which it does so
pub leads-sub : (g : Graph) (bypassed : ℕ → Type 0) (x s c a : ℕ) (t : NamedTree) → IsSpelled g a t → LeadsFrom bypassed x s c t
    → (sub : NamedTree) × IsSpelled g c sub × LeadsTo bypassed x s sub
leads-sub g bypassed x s c a Null spelled h = absurd h
leads-sub g bypassed x s c a (Branch m k v l r) spelled (inl h) = (Branch m k v l r, subst (λ z. IsSpelled g z (Branch m k v l r)) (spelled.0 ∙ sym h.0) spelled, h.1)
leads-sub g bypassed x s c a (Branch m k v l r) spelled (inr (inl h)) = leads-sub g bypassed x s c (g.child Left m) l spelled.4 h
leads-sub g bypassed x s c a (Branch m k v l r) spelled (inr (inr h)) = leads-sub g bypassed x s c (g.child Right m) r spelled.5 h

-- a search that reaches the successor ends at the successor, or at a node that is about to be bypassed
pub leads-ends : (bypassed : ℕ → Type 0) (x s node root : ℕ) (side top : Side) (t : NamedTree) → LeadsTo bypassed x s t → EndsAtNull x node side root top t
    → (node ≡ s) ⊎ bypassed node
leads-ends bypassed x s node root side top Null leads ends = absurd leads
leads-ends bypassed x s node root side top (Branch m k v l r) (inl here) (inl left) = inl ((null-ends x node m side Left l here.1 left.1).0 ∙ sym here.0)
leads-ends bypassed x s node root side top (Branch m k v l r) (inl here) (inr right) = absurd (omega (arith, here.2, right.0))
leads-ends bypassed x s node root side top (Branch m k v l r) (inr (inl down)) (inl left) = leads-ends bypassed x s node m side Left l down.1 left.1
leads-ends bypassed x s node root side top (Branch m k v l r) (inr (inl down)) (inr right) = absurd (omega (arith, down.0, right.0))
leads-ends bypassed x s node root side top (Branch m k v l r) (inr (inr past)) (inl left) =
    inr (subst bypassed (sym (null-ends x node m side Left l past.1 left.1).0) past.0)
leads-ends bypassed x s node root side top (Branch m k v l r) (inr (inr past)) (inr right) = leads-ends bypassed x s node m side Right r past.2 right.1

-- if more nodes are bypassed the ways stay
pub leads-keep : (bypassed bypassed' : ℕ → Type 0) (x s : ℕ) (t : NamedTree) → ((m : ℕ) → 0 < occurs m t → bypassed m → bypassed' m) → LeadsTo bypassed x s t → LeadsTo bypassed' x s t
leads-keep bypassed bypassed' x s Null keeps h = h
leads-keep bypassed bypassed' x s (Branch m k v l r) keeps (inl here) = inl here
leads-keep bypassed bypassed' x s (Branch m k v l r) keeps (inr (inl down)) = inr (inl (down.0, leads-keep bypassed bypassed' x s l (λ z o. keeps z (omega (arith, o))) down.1))
leads-keep bypassed bypassed' x s (Branch m k v l r) keeps (inr (inr past)) =
    inr (inr (keeps m (omega (arith, one_at-same m)) past.0, past.1, leads-keep bypassed bypassed' x s r (λ z o. keeps z (omega (arith, o))) past.2))

pub from-keep : (bypassed bypassed' : ℕ → Type 0) (x s c : ℕ) (t : NamedTree) → ((m : ℕ) → 0 < occurs m t → bypassed m → bypassed' m) → LeadsFrom bypassed x s c t → LeadsFrom bypassed' x s c t
from-keep bypassed bypassed' x s c Null keeps h = h
from-keep bypassed bypassed' x s c (Branch m k v l r) keeps (inl here) = inl (here.0, leads-keep bypassed bypassed' x s (Branch m k v l r) keeps here.1)
from-keep bypassed bypassed' x s c (Branch m k v l r) keeps (inr (inl h)) = inr (inl (from-keep bypassed bypassed' x s c l (λ z o. keeps z (omega (arith, o))) h))
from-keep bypassed bypassed' x s c (Branch m k v l r) keeps (inr (inr h)) = inr (inr (from-keep bypassed bypassed' x s c r (λ z o. keeps z (omega (arith, o))) h))

pub leads-in : (bypassed : ℕ → Type 0) (x s c : ℕ) (t : NamedTree) → LeadsFrom bypassed x s c t → 0 < occurs c t
leads-in bypassed x s c Null h = absurd h
leads-in bypassed x s c (Branch m k v l r) (inl h) = subst (λ z. 0 < occurs z (Branch m k v l r)) (sym h.0) (omega (arith, one_at-same m))
leads-in bypassed x s c (Branch m k v l r) (inr (inl h)) = omega (arith, leads-in bypassed x s c l h)
leads-in bypassed x s c (Branch m k v l r) (inr (inr h)) = omega (arith, leads-in bypassed x s c r h)
