-- From what a try has found on a removal to its plan.
use Rattle.std.proofs.Common.{◌≡◌, ℕ, zero, suc, ◌+◌, ◌<◌, ◌^◌, ◌⊎◌, List, [], ◌∷◌, ◌++◌, Bool, true, false, cond, eqb, arith, refl, ap, ◌∙◌, sym, subst, inl, inr, Some, None}
use Rattle.std.proofs.lemmas.Bool.{eqb-true, ne_eqb}
use Rattle.std.proofs.lemmas.Bool.Decides.{nat_tests}
use Rattle.index_words.specs.declared.side.Side.{Side}
use Rattle.index_words.specs.declared.side.Side.TheVariants.{Left, Right}
use Rattle.index_words.specs.declared.view.View.{View}
use Rattle.index_words.specs.declared.view.reading.Place.TheVariants.{Gap as AtGap, Node as AtNode}
use Rattle.index_words.specs.declared.view.reading.Reading.{Reading}
use Rattle.index_words.specs.declared.view.reading.Turn.{Turn}
use Rattle.key_map.specs.Lists.{count, Every}
use Rattle.core_invariant.specs.Readers.{IsLocked}
use Rattle.core_trees.specs.declared.link.Link.{Link}
use Rattle.core_updates.specs.declared.plan.JoinPlan.{JoinPlan}
use Rattle.core_updates.specs.declared.plan.NextNode.{NextNode}
use Rattle.core_updates.specs.declared.plan.Plan.TheVariants.{Lift, Join}
use Rattle.core_updates.specs.Held.{HoldsLink}
use Rattle.core_updates.specs.PlanReady.{HoldsLook}
use Rattle.core_updates.specs.Plans.{KeyLook, LinkLook, link_of, locks_of, next_look, other_side}
use Rattle.plan_laws.specs.Looks.{HasLookedAll, IsUnmarked, KeepsLooks, RemembersLink, RemembersNull}
use Rattle.plan_laws.specs.Tries.{IsTrying}
use Rattle.plan_laws.proofs.Kept.{found-at}
use Rattle.update_search.specs.declared.descent.KeyNode.{KeyNode}
use Rattle.update_search.specs.declared.successor.NextFound.{NextFound}
use Rattle.update_search.specs.declared.successor.Walk.{Walk}
use Rattle.update_search.specs.Aims.{HasStepped}
use Rattle.update_search.specs.Successors.{IsNext, IsOnWalk, LeadsTo}
use Rattle.update_search.specs.Turns.{turned_at}
use Rattle.update_search.specs.declared.turns.Turns.{Turns}
use Rattle.update_try.specs.Planning.{FindsNext, FindsNode, HoldsNext, HoldsNode, next_locks}

pub node_found : (v : View) (key : ℕ) (found : KeyNode) (right : ℕ) → HasStepped v key found right → FindsNode v key found
node_found v key found right h = record { at = h.at; parent = h.parent; node = h.node; apart = h.apart; known = inr (right, h.place, h.turns.right) }

pub held_unmarked : (v : View) (k child : ℕ) (side : Side) → HoldsLink v k side child → IsUnmarked v k
held_unmarked v k child side l =
    let at = found-at k l.held v.held.nodes l.locked in
    record { place = at.place; held = l.held; at = at.is; node_is = at.node_is; is = l.unmarked }

-- the node has no child on one side
pub lift_looked : (w : View) (n key : ℕ) (found : KeyNode) (left : ℕ) (bare : Side) (child : ℕ) → key < 2 ^ 64 → IsTrying w n (found.at.node ∷ found.node ∷ []) → HoldsNode w key found left
    → HoldsLink w found.node bare 0 → HoldsLink w found.node (other_side bare) child
    → HasLookedAll w n (Lift (record { key = key; at = found.at; node = found.node; bare = bare; child = child }))
lift_looked w n key found left bare child small trying holds none other = record { trying = trying; formed = holds.formed; small = small; looks = (holds.at, (none, (other, (holds.key_is, tt)))) }

pub node_kept : (v w : View) (key : ℕ) (found : KeyNode) (left : ℕ) → KeepsLooks v w → HoldsNode v key found left → HoldsNode w key found left
node_kept v w key found left keeps h = record {
  at = keeps.looks (LinkLook found.at found.node) h.at;
  key_is = keeps.looks (KeyLook found.node key) h.key_is;
  left_link = keeps.looks (LinkLook (link_of found.node Left) left) h.left_link;
  formed = h.formed;
}

-- the walk to the successor may begin
module _ (v w : View) (n key : ℕ) (found : KeyNode) (left right : ℕ) (h : HasStepped v key found right) (reads : w.reading ≡ v.reading) (keeps : KeepsLooks v w)
    (trying : IsTrying w n (found.at.node ∷ found.node ∷ [])) (holds : HoldsNode w key found left) (some : 0 < right) where
  abbrev removed : Turn
  removed = record { node = found.node; key = key }

  stands : w.reading.place ≡ AtNode right None
  stands =
      ap (λ (r : Reading). r.place) reads ∙ h.place
      ∙ ap (λ b. cond b (AtGap found.node Right) (AtNode right None)) (ne_eqb right 0 (λ none. omega (arith, none, some)))

  leads : (k : ℕ) → IsLocked w k → LeadsTo w found.node k
  leads k on = by (eqb found.at.node k) (eqb found.node k) refl refl (subst (λ (ks : List ℕ). 0 < count k ks) trying.locked on)
    where
      by : (a b : Bool) → eqb found.at.node k ≡ a → eqb found.node k ≡ b → 0 < cond a 1 0 + (cond b 1 0 + 0) → LeadsTo w found.node k
      by a true ea eb is = inl (sym (eqb-true found.node k eb))
      by true false ea eb is = inr (found.at.side, subst (λ j. HoldsLink w j found.at.side found.node) (eqb-true found.at.node k ea) holds.at)
      by false false ea eb is = absurd (omega (arith, is))

  pub on_walk : (walk : Walk) → walk.at ≡ link_of found.node Right → walk.node ≡ right → walk.turns ≡ turned_at Right removed found.turns → IsOnWalk w walk
  on_walk walk at_is node_is turns_is = record {
    number = n;
    nodes = found.at.node ∷ found.node ∷ [];
    trying = trying;
    come = record {
      place = stands ∙ ap (λ k. AtNode k None) (sym node_is);
      turned = record {
        left = ap (λ (r : Reading). r.left_turn) reads ∙ h.turns.left ∙ ap (λ (ts : Turns). ts.left) (sym turns_is);
        right = ap (λ (r : Reading). r.right_turn) reads ∙ h.turns.right ∙ ap (λ (ts : Turns). ts.right) (sym turns_is);
      };
      link = subst (λ (l : Link). RemembersLink w l walk.node) (sym at_is) (subst (RemembersLink w (link_of found.node Right)) (sym node_is) (keeps.link (link_of found.node Right) right h.link));
    };
    removed = removed;
    above = ap (λ (ts : Turns). ts.right) turns_is;
    from = ap (λ (l : Link). l.node) at_is;
    side = Left;
    child = left;
    held = holds.left_link;
    locked = leads;
  }

one_turn : (a b : Turn) → Some a ≡ Some b → a ≡ b
one_turn a b is = cc

-- where the walk has ended
module _ (v : View) (n key : ℕ) (found : KeyNode) (right : ℕ) (walk : Walk) (at_is : walk.at ≡ link_of found.node Right) (node_is : walk.node ≡ right)
    (turns_is : walk.turns ≡ turned_at Right (record { node = found.node; key = key }) found.turns) (f : NextFound) (is : IsNext v walk f) where
  same_turn : is.removed ≡ record { node = found.node; key = key }
  same_turn = one_turn is.removed (record { node = found.node; key = key }) (sym is.from ∙ ap (λ (ts : Turns). ts.right) turns_is)

  pub next_found : FindsNext v key f
  next_found = record {
    high = is.key;
    above = subst (λ (t : Turn). t.key < is.key) same_turn is.above;
    place = is.place;
    left = is.left;
    at = is.at;
    gap_at = is.gap_at;
    gap = subst (λ (t : Turn). RemembersNull v f.gap.at f.gap.tag (Some is.key) (Some t.key)) same_turn is.gap;
    apart = is.apart;
  }

  -- it hangs at the removed node itself: it is the right child
  pub near : IsTrying v n (found.at.node ∷ found.node ∷ []) → f.at.node ≡ found.node → (f.at ≡ link_of found.node Right) × (f.node ≡ right)
  near trying here = elim is.parent as (λ _. (f.at ≡ link_of found.node Right) × (f.node ≡ right)) [
    | inl same ↦ (same.0 ∙ at_is, same.1 ∙ node_is)
    | inr off ↦ absurd (off (subst (λ (ks : List ℕ). 0 < count f.at.node ks) (sym trying.locked) (second f.at.node here)))
  ]
    where
      self : (k m : ℕ) → 0 < m + (cond (eqb k k) 1 0 + 0)
      self k m = grind (arith, nat_tests)

      second : (k : ℕ) → k ≡ found.node → 0 < count k (found.at.node ∷ found.node ∷ [])
      second k same = subst (λ j. 0 < count j (found.at.node ∷ found.node ∷ [])) (sym same) (self found.node (cond (eqb found.at.node found.node) 1 0))

  pub far : ¬ (f.at.node ≡ found.node) → ¬ IsLocked v f.at.node
  far apart = elim is.parent as (λ _. ¬ IsLocked v f.at.node) [
    | inl same ↦ absurd (apart (ap (λ (l : Link). l.node) (same.0 ∙ at_is)))
    | inr off ↦ off
  ]

-- the node has two children
module _ (w : View) (n key : ℕ) (found : KeyNode) (left right : ℕ) (next : NextNode) (small : key < 2 ^ 64) (locks : List ℕ)
    (trying : IsTrying w n locks) (locks_is : locks ≡ (found.at.node ∷ found.node ∷ []) ++ next_locks found.node next) (holds : HoldsNode w key found left)
    (right_link : HoldsLink w found.node Right right) (some_left : 0 < left) (some_right : 0 < right) (after : HoldsNext w key next)
    (near_is : next.at.node ≡ found.node → (next.at ≡ link_of found.node Right) × (next.node ≡ right)) where
  abbrev join : JoinPlan
  join = record { key = key; at = found.at; node = found.node; left = left; right = right; next = next }

  same_locks : (found.at.node ∷ found.node ∷ []) ++ next_locks found.node next ≡ locks_of (Join join)
  same_locks = by (eqb next.at.node found.node)
    where
      by : (b : Bool) → (found.at.node ∷ found.node ∷ []) ++ cond b (next.node ∷ []) (next.at.node ∷ next.node ∷ []) ≡ found.at.node ∷ found.node ∷ cond b [] (next.at.node ∷ []) ++ next.node ∷ []
      by true = refl
      by false = refl

  last_look : Every (HoldsLook w) (next_look join)
  last_look = by (eqb next.at.node found.node)
    where
      by : (b : Bool) → Every (HoldsLook w) (cond b [] (LinkLook next.at next.node ∷ []))
      by true = tt
      by false = (after.at, tt)

  some_next : 0 < next.node
  some_next = by next.node after.left_link.root
    where
      by : (k : ℕ) → (k ≡ 0 → Left ≡ Right) → 0 < k
      by zero root = absurd (sides (root refl))
        where
          sides : ¬ (Left ≡ Right)
          sides is = cc
      by (suc k) root = omega arith

  pub join_looked : HasLookedAll w n (Join join)
  join_looked = record {
    trying = subst (IsTrying w n) (locks_is ∙ same_locks) trying;
    formed = record {
      node = holds.formed;
      left = some_left;
      right = some_right;
      next = record { some = some_next; root = after.at.root };
      above = after.above;
      side = λ here. ap (λ (l : Link). l.side) (near_is here).0;
      child = λ here. sym (near_is here).1;
    };
    small = small;
    looks = (
      holds.at,
      (holds.left_link, (right_link, (holds.key_is, (after.left_link, (after.right_link, (after.key_is, (after.val_is, (after.gap, last_look)))))))),
    );
  }
