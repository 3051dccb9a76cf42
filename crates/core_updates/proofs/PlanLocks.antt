-- What a plan looks at, puts entries in front of, and takes out is locked.
use Rattle.std.proofs.Common.{◌≡◌, ℕ, ◌<◌, inl, inr, List, [], ◌∷◌, ◌++◌, Bool, true, false, cond, refl, sym, ◌∙◌, subst, arith, Some, None}
use Rattle.std.specs.Prelude.{◌==◌}
use Rattle.std.proofs.lemmas.Bool.{false≢true}
use Rattle.std.proofs.lemmas.Bool.Decides.{eqb_tells}
use Rattle.key_map.specs.Lists.{count, Every}
use Rattle.core_invariant.proofs.Undone.{in_one}
use Rattle.core_updates.specs.declared.plan.Plan.TheVariants.{Grow, Replace, Lift, Join}
use Rattle.core_updates.specs.declared.plan.JoinPlan.{JoinPlan}
use Rattle.core_updates.specs.declared.plan.PlanSlots.{PlanSlots}
use Rattle.core_updates.specs.declared.plan.Front.{Front}
use Rattle.core_updates.specs.PlanEvents.{IsLockOf, looked_node, LocksLaw}
use Rattle.core_updates.specs.Plans.{LinkLook, or_none}

later : (k x : ℕ) (ks : List ℕ) → 0 < count k ks → 0 < count k (x ∷ ks)
later k x ks h = omega (arith, h)

-- the locks of a removal with two children, by whether the successor is the right child
last-locked : (near : Bool) (parent node mid next : ℕ) → 0 < count next (parent ∷ node ∷ (cond near [] (mid ∷ []) ++ next ∷ []))
last-locked true parent node mid next = later next parent (node ∷ next ∷ []) (later next node (next ∷ []) (in_one next []))
last-locked false parent node mid next = later next parent (node ∷ mid ∷ next ∷ [])
    (later next node (mid ∷ next ∷ []) (later next mid (next ∷ []) (in_one next [])))

mid-locked : (near : Bool) (parent node mid next : ℕ) → (near ≡ true → mid ≡ node) → 0 < count mid (parent ∷ node ∷ (cond near [] (mid ∷ []) ++ next ∷ []))
mid-locked true parent node mid next same = subst (λ k. 0 < count k (parent ∷ node ∷ next ∷ [])) (sym (same refl))
    (later node parent (node ∷ next ∷ []) (in_one node (next ∷ [])))
mid-locked false parent node mid next same = later mid parent (node ∷ mid ∷ next ∷ []) (later mid node (mid ∷ next ∷ []) (in_one mid (next ∷ [])))

is_same : (a b : ℕ) → (a == b) ≡ true → a ≡ b
is_same a b e = elim (eqb_tells a b) as (λ _. a ≡ b) [ inl is ↦ is.1 | inr apart ↦ absurd (false≢true (sym apart.0 ∙ e)) ]

module _ (p : JoinPlan) (slots : PlanSlots) where
  first-lock : IsLockOf (Join p) p.at.node
  first-lock = in_one p.at.node (p.node ∷ (cond (p.next.at.node == p.node) [] (p.next.at.node ∷ []) ++ p.next.node ∷ []))

  node-lock : IsLockOf (Join p) p.node
  node-lock = later p.node p.at.node (p.node ∷ (cond (p.next.at.node == p.node) [] (p.next.at.node ∷ []) ++ p.next.node ∷ []))
      (in_one p.node (cond (p.next.at.node == p.node) [] (p.next.at.node ∷ []) ++ p.next.node ∷ []))

  mid-lock : IsLockOf (Join p) p.next.at.node
  mid-lock = mid-locked (p.next.at.node == p.node) p.at.node p.node p.next.at.node p.next.node (is_same p.next.at.node p.node)

  next-lock : IsLockOf (Join p) p.next.node
  next-lock = last-locked (p.next.at.node == p.node) p.at.node p.node p.next.at.node p.next.node

  next-front : (near : Bool) → Every (λ (f : Front). IsLockOf (Join p) f.at.node)
      (or_none (cond near None (Some (record { at = p.next.at; entry = slots.next; child = p.next.right }))))
  next-front true = tt
  next-front false = (mid-lock, tt)

  next-look : (near : Bool) → Every (λ l. IsLockOf (Join p) (looked_node l)) (cond near [] (LinkLook p.next.at p.next.node ∷ []))
  next-look true = tt
  next-look false = (mid-lock, tt)

pub locks_law : LocksLaw
locks_law (Grow p) slots = record { looks = (in_one p.at.node [], tt); fronts = (in_one p.at.node [], tt); out = tt }
locks_law (Replace p) slots =
    let own = later p.node p.at.node (p.node ∷ []) (in_one p.node []) in
    record {
      looks = (in_one p.at.node (p.node ∷ []), (own, (own, (own, tt))));
      fronts = (in_one p.at.node (p.node ∷ []), tt);
      out = (own, tt);
    }
locks_law (Lift p) slots =
    let own = later p.node p.at.node (p.node ∷ []) (in_one p.node []) in
    record {
      looks = (in_one p.at.node (p.node ∷ []), (own, (own, (own, tt))));
      fronts = (in_one p.at.node (p.node ∷ []), tt);
      out = (own, tt);
    }
locks_law (Join p) slots =
    let own = node-lock p slots in
    let next = next-lock p slots in
    record {
      looks = (first-lock p slots, (own, (own, (own, (next, (next, (next, (next, (next, next-look p slots (p.next.at.node == p.node))))))))));
      fronts = (first-lock p slots, next-front p slots (p.next.at.node == p.node));
      out = (own, (next, tt));
    }
