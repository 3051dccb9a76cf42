-- What a change of one subtree, as the store of a plain link, leaves of searches in the plain tree.
use Rattle.std.proofs.Common.{ℕ, ◌⊎◌, ◌≡◌, ◌<◌, ◌≤◌, inl, inr, refl, sym, subst, arith}
use Rattle.core_links.proofs.Compare.{compared, less, more, same}
use Rattle.core_trees.specs.NamedTree.{NamedTree, Null, Branch}
use Rattle.core_trees.specs.Gaps.{IsNull}
use Rattle.plain_trees.specs.Points.{Meets, point_of}
use Rattle.plain_trees.specs.Successors.{LeadsTo, LeadsFrom}
use Rattle.plain_trees.specs.Stores.{Relinks, Grows, Replaces, LiftsRight, LiftsLeft, Copies, Joins}
use Rattle.plain_trees.proofs.Points.{leads-below}

-- each node that the search for a point met is still met, or `other` holds of it
abbrev pub LeavesMet : ℕ → (ℕ → NamedTree → Type 0) → (NamedTree → NamedTree → Type 0) → Type 0
LeavesMet x other change = (c : ℕ) (t u : NamedTree) → change t u → Meets x c t → Meets x c u ⊎ other c u

-- the way to a successor stays
abbrev pub LeavesLeads : (ℕ → Type 0) → ℕ → ℕ → (NamedTree → NamedTree → Type 0) → Type 0
LeavesLeads bypassed x s change = (t u : NamedTree) → change t u → LeadsTo bypassed x s t → LeadsTo bypassed x s u

-- and it does so from each node that stays
abbrev pub LeavesFrom : (ℕ → Type 0) → ℕ → ℕ → (ℕ → Type 0) → (NamedTree → NamedTree → Type 0) → Type 0
LeavesFrom bypassed x s gone change =
    (c : ℕ) (t u : NamedTree) → change t u → LeadsFrom bypassed x s c t → LeadsFrom bypassed x s c u ⊎ gone c

-- What the store of a plain link leaves of searches in the plain tree.

-- what is said of a node of a subtree is said of it in the tree
abbrev pub Rises : (ℕ → NamedTree → Type 0) → Type 0
Rises other = (c s k v : ℕ) (l r : NamedTree) → (other c l → other c (Branch s k v l r)) × (other c r → other c (Branch s k v l r))

-- what a change of one subtree keeps of the subtree it keeps of the whole tree
pub meets-on : (fine : ℕ → Type 0) (x : ℕ) (other : ℕ → NamedTree → Type 0) (change : NamedTree → NamedTree → Type 0) → Rises other → LeavesMet x other change
    → LeavesMet x other (Relinks fine change)
meets-on fine x other change rises leaves c Null u re meets = leaves c Null u re meets
meets-on fine x other change rises leaves c (Branch s k v l r) u (inl top) meets = leaves c (Branch s k v l r) u top meets
meets-on fine x other change rises leaves c (Branch s k v l r) u (inr far) meets =
    subst (λ t. Meets x c t ⊎ other c t) (sym far.2)
    (below (λ h m. meets-on fine x other change rises leaves c l far.0 h m) (λ h m. meets-on fine x other change rises leaves c r far.1 h m) far.3 meets)
  where
    goes-left : Meets x c far.0 ⊎ other c far.0 → x < point_of k → Meets x c (Branch s k v far.0 far.1) ⊎ other c (Branch s k v far.0 far.1)
    goes-left (inl h) b = inl (inr (inl (b, h)))
    goes-left (inr h) b = inr ((rises c s k v far.0 far.1).0 h)

    goes-right : Meets x c far.1 ⊎ other c far.1 → point_of k < x → Meets x c (Branch s k v far.0 far.1) ⊎ other c (Branch s k v far.0 far.1)
    goes-right (inl h) b = inl (inr (inr (b, h)))
    goes-right (inr h) b = inr ((rises c s k v far.0 far.1).1 h)

    below : (Relinks fine change l far.0 → Meets x c l → Meets x c far.0 ⊎ other c far.0) → (Relinks fine change r far.1 → Meets x c r → Meets x c far.1 ⊎ other c far.1)
        → (Relinks fine change l far.0 × (IsNull l → fine s) × (r ≡ far.1)) ⊎ ((l ≡ far.0) × Relinks fine change r far.1) → Meets x c (Branch s k v l r)
        → Meets x c (Branch s k v far.0 far.1) ⊎ other c (Branch s k v far.0 far.1)
    below on-left on-right side (inl here) = inl (inl here)
    below on-left on-right (inl left) (inr (inl down)) = goes-left (on-left left.0 down.1) down.0
    below on-left on-right (inr right) (inr (inl down)) = inl (inr (inl (down.0, subst (Meets x c) right.0 down.1)))
    below on-left on-right (inl left) (inr (inr down)) = inl (inr (inr (down.0, subst (Meets x c) left.2 down.1)))
    below on-left on-right (inr right) (inr (inr down)) = goes-right (on-right right.1 down.1) down.0

-- the same for the way to a successor
pub leads-on : (fine bypassed : ℕ → Type 0) (x s : ℕ) (change : NamedTree → NamedTree → Type 0) → (fine s → ⊥) → ((m : ℕ) → fine m → bypassed m → ⊥) → LeavesLeads bypassed x s change
    → LeavesLeads bypassed x s (Relinks fine change)
leads-on fine bypassed x s change waits bares leaves Null u re leads = absurd leads
leads-on fine bypassed x s change waits bares leaves (Branch m k v l r) u (inl top) leads = leaves (Branch m k v l r) u top leads
leads-on fine bypassed x s change waits bares leaves (Branch m k v l r) u (inr far) leads =
    subst (LeadsTo bypassed x s) (sym far.2)
    (below (λ h d. leads-on fine bypassed x s change waits bares leaves l far.0 h d) (λ h d. leads-on fine bypassed x s change waits bares leaves r far.1 h d) far.3 leads)
  where
    left-null : (fine m → ⊥) → (Relinks fine change l far.0 × (IsNull l → fine m) × (r ≡ far.1)) ⊎ ((l ≡ far.0) × Relinks fine change r far.1) → IsNull l → IsNull far.0
    left-null not (inl h) n = absurd (not (h.1 n))
    left-null not (inr h) n = subst IsNull h.0 n

    below : (Relinks fine change l far.0 → LeadsTo bypassed x s l → LeadsTo bypassed x s far.0) → (Relinks fine change r far.1 → LeadsTo bypassed x s r → LeadsTo bypassed x s far.1)
        → (Relinks fine change l far.0 × (IsNull l → fine m) × (r ≡ far.1)) ⊎ ((l ≡ far.0) × Relinks fine change r far.1) → LeadsTo bypassed x s (Branch m k v l r)
        → LeadsTo bypassed x s (Branch m k v far.0 far.1)
    below on-left on-right side (inl here) = inl (here.0, left-null (λ f. waits (subst fine (sym here.0) f)) side here.1, here.2)
    below on-left on-right (inl left) (inr (inl down)) = inr (inl (down.0, on-left left.0 down.1))
    below on-left on-right (inr right) (inr (inl down)) = inr (inl (down.0, subst (LeadsTo bypassed x s) right.0 down.1))
    below on-left on-right (inl left) (inr (inr past)) = inr (inr (past.0, left-null (λ f. bares m f past.0) (inl left) past.1, subst (LeadsTo bypassed x s) left.2 past.2))
    below on-left on-right (inr right) (inr (inr past)) = inr (inr (past.0, left-null (λ f. bares m f past.0) (inr right) past.1, on-right right.1 past.2))

-- and for the subtrees
pub from-on : (fine bypassed gone : ℕ → Type 0) (x s : ℕ) (change : NamedTree → NamedTree → Type 0) → (fine s → ⊥) → ((m : ℕ) → fine m → bypassed m → ⊥) → LeavesLeads bypassed x s change
    → LeavesFrom bypassed x s gone change → LeavesFrom bypassed x s gone (Relinks fine change)
from-on fine bypassed gone x s change waits bares leads leaves c Null u re h = absurd h
from-on fine bypassed gone x s change waits bares leads leaves c (Branch m k v l r) u (inl top) h = leaves c (Branch m k v l r) u top h
from-on fine bypassed gone x s change waits bares leads leaves c (Branch m k v l r) u (inr far) h =
    subst (λ t. LeadsFrom bypassed x s c t ⊎ gone c) (sym far.2)
    (below (λ re d. from-on fine bypassed gone x s change waits bares leads leaves c l far.0 re d) (λ re d. from-on fine bypassed gone x s change waits bares leads leaves c r far.1 re d) far.3 h)
  where
    goes-left : LeadsFrom bypassed x s c far.0 ⊎ gone c → LeadsFrom bypassed x s c (Branch m k v far.0 far.1) ⊎ gone c
    goes-left (inl d) = inl (inr (inl d))
    goes-left (inr d) = inr d

    goes-right : LeadsFrom bypassed x s c far.1 ⊎ gone c → LeadsFrom bypassed x s c (Branch m k v far.0 far.1) ⊎ gone c
    goes-right (inl d) = inl (inr (inr d))
    goes-right (inr d) = inr d

    below : (Relinks fine change l far.0 → LeadsFrom bypassed x s c l → LeadsFrom bypassed x s c far.0 ⊎ gone c)
        → (Relinks fine change r far.1 → LeadsFrom bypassed x s c r → LeadsFrom bypassed x s c far.1 ⊎ gone c)
        → (Relinks fine change l far.0 × (IsNull l → fine m) × (r ≡ far.1)) ⊎ ((l ≡ far.0) × Relinks fine change r far.1) → LeadsFrom bypassed x s c (Branch m k v l r)
        → LeadsFrom bypassed x s c (Branch m k v far.0 far.1) ⊎ gone c
    below on-left on-right side (inl here) =
        inl (inl (here.0, leads-on fine bypassed x s change waits bares leads (Branch m k v l r) (Branch m k v far.0 far.1) (inr (far.0, far.1, refl, side)) here.1))
    below on-left on-right (inl left) (inr (inl d)) = goes-left (on-left left.0 d)
    below on-left on-right (inr right) (inr (inl d)) = inl (inr (inl (subst (LeadsFrom bypassed x s c) right.0 d)))
    below on-left on-right (inl left) (inr (inr d)) = inl (inr (inr (subst (LeadsFrom bypassed x s c) left.2 d)))
    below on-left on-right (inr right) (inr (inr d)) = goes-right (on-right right.1 d)

-- an insert
pub grows-met : (x : ℕ) (other : ℕ → NamedTree → Type 0) → LeavesMet x other Grows
grows-met x other c t u h meets = absurd (subst (Meets x c) h.was meets)

-- a node in the place of another one with its key
pub replaces-met : (x n : ℕ) (other : ℕ → NamedTree → Type 0) → ((u : NamedTree) → other n u) → LeavesMet x other (Replaces n)
replaces-met x n other gone c t u h meets =
    subst (λ t. Meets x c t ⊎ other c t) (sym h.is) (parts (subst (Meets x c) h.was meets))
  where
    parts : Meets x c (Branch n h.key h.old_val h.left h.right) → Meets x c (Branch h.slot h.key h.val h.left h.right) ⊎ other c (Branch h.slot h.key h.val h.left h.right)
    parts (inl e) = inr (subst (λ z. other z (Branch h.slot h.key h.val h.left h.right)) (sym e) (gone (Branch h.slot h.key h.val h.left h.right)))
    parts (inr below) = inl (inr below)

pub lifts_right-met : (x n : ℕ) (other : ℕ → NamedTree → Type 0) → ((u : NamedTree) → other n u) → LeavesMet x other (LiftsRight n)
lifts_right-met x n other gone c t u h meets = parts (subst (Meets x c) h.was meets)
  where
    parts : Meets x c (Branch n h.key h.val Null u) → Meets x c u ⊎ other c u
    parts (inl e) = inr (subst (λ z. other z u) (sym e) (gone u))
    parts (inr (inl left)) = absurd left.1
    parts (inr (inr right)) = inl right.1

pub lifts_left-met : (x n : ℕ) (other : ℕ → NamedTree → Type 0) → ((u : NamedTree) → other n u) → LeavesMet x other (LiftsLeft n)
lifts_left-met x n other gone c t u h meets = parts (subst (Meets x c) h.was meets)
  where
    parts : Meets x c (Branch n h.key h.val u Null) → Meets x c u ⊎ other c u
    parts (inl e) = inr (subst (λ z. other z u) (sym e) (gone u))
    parts (inr (inl left)) = inl left.1
    parts (inr (inr right)) = absurd right.1

-- a copy of the successor, which stays: a point above the removed key and at most the copied one reaches the successor
-- from each node that its search has met
-- its search has met
pub copies-met : (x n s from until : ℕ) (bypassed : ℕ → Type 0) (other : ℕ → NamedTree → Type 0) → ((u : NamedTree) → other n u)
    → ((c : ℕ) (u : NamedTree) → point_of from < x → x ≤ point_of until → LeadsFrom bypassed x s c u → other c u)
    → LeavesMet x other (Copies bypassed n s from until)
copies-met x n s from until bypassed other gone excepted c t u h meets =
    subst (λ t. Meets x c t ⊎ other c t) (sym h.is) (parts (subst (Meets x c) h.was meets))
  where
    between : point_of from < x → Meets x c h.right → x ≤ point_of until → other c (Branch h.slot until h.val h.left h.right)
    between above right most =
        excepted c (Branch h.slot until h.val h.left h.right) above most (inr (inr (leads-below bypassed x s c h.right (h.ahead x above most) right)))

    parts : Meets x c (Branch n from h.old_val h.left h.right) → Meets x c (Branch h.slot until h.val h.left h.right) ⊎ other c (Branch h.slot until h.val h.left h.right)
    parts (inl e) = inr (subst (λ z. other z (Branch h.slot until h.val h.left h.right)) (sym e) (gone (Branch h.slot until h.val h.left h.right)))
    parts (inr (inl left)) = inl (inr (inl (omega (arith, left.0, h.rises), left.1)))
    parts (inr (inr right)) =
        elim (compared (point_of until) x) as (λ _. Meets x c (Branch h.slot until h.val h.left h.right) ⊎ other c (Branch h.slot until h.val h.left h.right)) [
          | less b ↦ inl (inr (inr (b, right.1)))
          | more b ↦ inr (between right.0 right.1 (omega (arith, b)))
          | same e ↦ inr (between right.0 right.1 (omega (arith, e)))
        ]

-- a copy of the successor, which goes too
pub joins-met : (x n s : ℕ) (other : ℕ → NamedTree → Type 0) → ((u : NamedTree) → other n u) → ((u : NamedTree) → other s u) → LeavesMet x other (Joins n s)
joins-met x n s other gone gone' c t u h meets =
    subst (λ t. Meets x c t ⊎ other c t) (sym h.is) (parts (subst (Meets x c) h.was meets))
  where
    next : point_of h.from < x → Meets x c (Branch s h.until h.next_val Null h.right)
        → Meets x c (Branch h.slot h.until h.val h.left h.right) ⊎ other c (Branch h.slot h.until h.val h.left h.right)
    next b (inl e) = inr (subst (λ z. other z (Branch h.slot h.until h.val h.left h.right)) (sym e) (gone' (Branch h.slot h.until h.val h.left h.right)))
    next b (inr (inl left)) = absurd left.1
    next b (inr (inr below)) = inl (inr (inr (below.0, below.1)))

    parts : Meets x c (Branch n h.from h.old_val h.left (Branch s h.until h.next_val Null h.right))
        → Meets x c (Branch h.slot h.until h.val h.left h.right) ⊎ other c (Branch h.slot h.until h.val h.left h.right)
    parts (inl e) = inr (subst (λ z. other z (Branch h.slot h.until h.val h.left h.right)) (sym e) (gone (Branch h.slot h.until h.val h.left h.right)))
    parts (inr (inl left)) = inl (inr (inl (omega (arith, left.0, h.rises), left.1)))
    parts (inr (inr right)) = next right.0 right.1

-- what each change keeps of the way to a successor that another seat has locked
pub grows-leads : (bypassed : ℕ → Type 0) (x s : ℕ) → LeavesLeads bypassed x s Grows
grows-leads bypassed x s t u h leads = absurd (subst (LeadsTo bypassed x s) h.was leads)

pub replaces-leads : (bypassed : ℕ → Type 0) (x s n : ℕ) → ¬ (s ≡ n) → ¬ bypassed n → LeavesLeads bypassed x s (Replaces n)
replaces-leads bypassed x s n apart firm t u h leads = subst (LeadsTo bypassed x s) (sym h.is) (parts (subst (LeadsTo bypassed x s) h.was leads))
  where
    parts : LeadsTo bypassed x s (Branch n h.key h.old_val h.left h.right) → LeadsTo bypassed x s (Branch h.slot h.key h.val h.left h.right)
    parts (inl here) = absurd (apart here.0)
    parts (inr (inl down)) = inr (inl down)
    parts (inr (inr past)) = absurd (firm past.0)

pub lifts_right-leads : (bypassed : ℕ → Type 0) (x s n : ℕ) → ¬ (s ≡ n) → LeavesLeads bypassed x s (LiftsRight n)
lifts_right-leads bypassed x s n apart t u h leads = parts (subst (LeadsTo bypassed x s) h.was leads)
  where
    parts : LeadsTo bypassed x s (Branch n h.key h.val Null u) → LeadsTo bypassed x s u
    parts (inl here) = absurd (apart here.0)
    parts (inr (inl down)) = absurd down.1
    parts (inr (inr past)) = past.2

pub lifts_left-leads : (bypassed : ℕ → Type 0) (x s n : ℕ) → ¬ (s ≡ n) → LeavesLeads bypassed x s (LiftsLeft n)
lifts_left-leads bypassed x s n apart t u h leads = parts (subst (LeadsTo bypassed x s) h.was leads)
  where
    parts : LeadsTo bypassed x s (Branch n h.key h.val u Null) → LeadsTo bypassed x s u
    parts (inl here) = absurd (apart here.0)
    parts (inr (inl down)) = down.1
    parts (inr (inr past)) = absurd past.2

pub copies-leads : (bypassed ahead : ℕ → Type 0) (x s n t' from until : ℕ) → ¬ (s ≡ n) → ¬ bypassed n → LeavesLeads bypassed x s (Copies ahead n t' from until)
copies-leads bypassed ahead x s n t' from until apart firm t u h leads = subst (LeadsTo bypassed x s) (sym h.is) (parts (subst (LeadsTo bypassed x s) h.was leads))
  where
    parts : LeadsTo bypassed x s (Branch n from h.old_val h.left h.right) → LeadsTo bypassed x s (Branch h.slot until h.val h.left h.right)
    parts (inl here) = absurd (apart here.0)
    parts (inr (inl down)) = inr (inl (omega (arith, down.0, h.rises), down.1))
    parts (inr (inr past)) = absurd (firm past.0)

pub joins-leads : (bypassed : ℕ → Type 0) (x s n t' : ℕ) → ¬ (s ≡ n) → ¬ bypassed n → LeavesLeads bypassed x s (Joins n t')
joins-leads bypassed x s n t' apart firm t u h leads =
    subst (LeadsTo bypassed x s) (sym h.is) (parts (subst (LeadsTo bypassed x s) h.was leads))
  where
    parts : LeadsTo bypassed x s (Branch n h.from h.old_val h.left (Branch t' h.until h.next_val Null h.right)) → LeadsTo bypassed x s (Branch h.slot h.until h.val h.left h.right)
    parts (inl here) = absurd (apart here.0)
    parts (inr (inl down)) = inr (inl (omega (arith, down.0, h.rises), down.1))
    parts (inr (inr past)) = absurd (firm past.0)

-- and of the subtrees below
pub grows-from : (bypassed gone : ℕ → Type 0) (x s : ℕ) → LeavesFrom bypassed x s gone Grows
grows-from bypassed gone x s c t u h from = absurd (subst (LeadsFrom bypassed x s c) h.was from)

pub replaces-from : (bypassed gone : ℕ → Type 0) (x s n : ℕ) → gone n → LeavesFrom bypassed x s gone (Replaces n)
replaces-from bypassed gone x s n out c t u h from = subst (λ t. LeadsFrom bypassed x s c t ⊎ gone c) (sym h.is) (parts (subst (LeadsFrom bypassed x s c) h.was from))
  where
    parts : LeadsFrom bypassed x s c (Branch n h.key h.old_val h.left h.right) → LeadsFrom bypassed x s c (Branch h.slot h.key h.val h.left h.right) ⊎ gone c
    parts (inl here) = inr (subst gone (sym here.0) out)
    parts (inr below) = inl (inr below)

pub lifts_right-from : (bypassed gone : ℕ → Type 0) (x s n : ℕ) → gone n → LeavesFrom bypassed x s gone (LiftsRight n)
lifts_right-from bypassed gone x s n out c t u h from = parts (subst (LeadsFrom bypassed x s c) h.was from)
  where
    parts : LeadsFrom bypassed x s c (Branch n h.key h.val Null u) → LeadsFrom bypassed x s c u ⊎ gone c
    parts (inl here) = inr (subst gone (sym here.0) out)
    parts (inr (inl left)) = absurd left
    parts (inr (inr right)) = inl right

pub lifts_left-from : (bypassed gone : ℕ → Type 0) (x s n : ℕ) → gone n → LeavesFrom bypassed x s gone (LiftsLeft n)
lifts_left-from bypassed gone x s n out c t u h from = parts (subst (LeadsFrom bypassed x s c) h.was from)
  where
    parts : LeadsFrom bypassed x s c (Branch n h.key h.val u Null) → LeadsFrom bypassed x s c u ⊎ gone c
    parts (inl here) = inr (subst gone (sym here.0) out)
    parts (inr (inl left)) = inl left
    parts (inr (inr right)) = absurd right

pub copies-from : (bypassed gone ahead : ℕ → Type 0) (x s n t' from until : ℕ) → gone n → LeavesFrom bypassed x s gone (Copies ahead n t' from until)
copies-from bypassed gone ahead x s n t' from until out c t u h leads =
    subst (λ t. LeadsFrom bypassed x s c t ⊎ gone c) (sym h.is) (parts (subst (LeadsFrom bypassed x s c) h.was leads))
  where
    parts : LeadsFrom bypassed x s c (Branch n from h.old_val h.left h.right) → LeadsFrom bypassed x s c (Branch h.slot until h.val h.left h.right) ⊎ gone c
    parts (inl here) = inr (subst gone (sym here.0) out)
    parts (inr below) = inl (inr below)

pub joins-from : (bypassed gone : ℕ → Type 0) (x s n t' : ℕ) → gone n → gone t' → LeavesFrom bypassed x s gone (Joins n t')
joins-from bypassed gone x s n t' out out' c t u h leads =
    subst (λ t. LeadsFrom bypassed x s c t ⊎ gone c) (sym h.is) (parts (subst (LeadsFrom bypassed x s c) h.was leads))
  where
    parts : LeadsFrom bypassed x s c (Branch n h.from h.old_val h.left (Branch t' h.until h.next_val Null h.right)) → LeadsFrom bypassed x s c (Branch h.slot h.until h.val h.left h.right) ⊎ gone c
    parts (inl here) = inr (subst gone (sym here.0) out)
    parts (inr (inl left)) = inl (inr (inl left))
    parts (inr (inr (inl here))) = inr (subst gone (sym here.0) out')
    parts (inr (inr (inr (inl left)))) = absurd left
    parts (inr (inr (inr (inr right)))) = inl (inr (inr right))
