-- What follows the raise.
use Rattle.std.proofs.Common.{◌≡◌, ℕ, zero, suc, ◌+◌, ◌<◌, ◌≤◌, List, [], ◌∷◌, ◌++◌, take, drop, map, Bool, true, false, not, cond, eqb, refl, ap, sym, ◌∙◌, subst, arith, Some, None, is_some}
use Rattle.std.specs.Prelude.{◌==◌}
use Rattle.std.proofs.lemmas.Bool.Decides.{nat_tests}
use Rattle.std.proofs.lemmas.List.{drop_all}
use Rattle.index_words.specs.declared.view.update.HeldNode.{HeldNode}
use Rattle.key_map.specs.Lists.{count, Every}
use Rattle.key_map.proofs.Counting.{count-append}
use Rattle.core_events.specs.LockMoves.{mark_known}
use Rattle.core_events.specs.UpdateMoves.{without}
use Rattle.core_invariant.proofs.Undone.{in_one}
use Rattle.core_laws.proofs.ViewNeeds.{may_finalise_law, may_mark_law}
use Rattle.core_updates.specs.declared.plan.Plan.{Plan}
use Rattle.core_updates.specs.declared.plan.Plan.TheVariants.{Replace, Join}
use Rattle.core_updates.specs.declared.plan.PlanSlots.{PlanSlots}
use Rattle.core_updates.specs.Plans.{entries_in, entries_of, fresh_entries, fresh_listed, fresh_to, fronts_of, new_node_of, or_none, out_of}
use Rattle.core_updates.specs.PlanEvents.{IsLockOf}
use Rattle.core_updates.proofs.PlanLocks.{locks_law}
use Rattle.plan_laws.specs.Fills.{AreApart}
use Rattle.plan_laws.specs.Raises.{FinaliseStepLaw, FinaliseEndLaw, MarkStartLaw, MarkStepLaw, MarkEndLaw}
use Rattle.plan_laws.proofs.Items.{drop-got, got-every, got-counts, got-none, map-keeps, take-got, take-past}
use Rattle.plan_laws.proofs.HeldMaps.{mark-node}
use Rattle.plan_laws.proofs.Releases.{none-taken, every-by, none-here}

-- four different numbers
abbrev one : ℕ → ℕ → ℕ
one k x = cond (eqb x k) 1 0

two-le : (k x y : ℕ) → ¬ (x ≡ y) → one k x + one k y ≤ 1
two-le k x y apart = by (eqb x k) (eqb y k) (λ e. same x e) (λ e. same y e)
  where
    same : (a : ℕ) → eqb a k ≡ true → a ≡ k
    same a e = grind (arith, nat_tests)

    by : (b c : Bool) → (b ≡ true → x ≡ k) → (c ≡ true → y ≡ k) → cond b 1 0 + cond c 1 0 ≤ 1
    by true true tx ty = absurd (apart (tx refl ∙ sym (ty refl)))
    by true false tx ty = omega arith
    by false true tx ty = omega arith
    by false false tx ty = omega arith

four-le : (k : ℕ) (s : PlanSlots) → AreApart s → one k s.at + (one k s.next + (one k s.left + one k s.right)) ≤ 1
four-le k s a =
    omega (
      arith,
      two-le k s.at s.next a.at_next,
      two-le k s.at s.left a.at_left,
      two-le k s.at s.right a.at_right,
      two-le k s.left s.next a.left_next,
      two-le k s.right s.next a.right_next,
      two-le k s.left s.right a.left_right,
    )

-- what a plan raises are some of its slots
fronts-le : (k : ℕ) (plan : Plan) (s : PlanSlots) → count k (entries_of (fronts_of plan s)) ≤ one k s.at + one k s.next
fronts-le k (Join p) s = by (p.next.at.node == p.node)
  where
    by : (near : Bool) → count k (s.at ∷ entries_of (or_none
        (cond near None (Some (record { at = p.next.at; entry = s.next; child = p.next.right }))))) ≤ one k s.at + one k s.next
    by true = omega arith
    by false = omega arith
fronts-le k _ s = omega arith

fresh-le : (k e child : ℕ) → count k (fresh_listed (fresh_to e child)) ≤ one k e
fresh-le k e child = by (child == 0)
  where
    by : (b : Bool) → count k (fresh_listed (cond b None (Some (record { entry = e; child = child })))) ≤ one k e
    by true = omega arith
    by false = omega arith

both-le : (k : ℕ) (s : PlanSlots) (low high : ℕ)
    → count k (fresh_listed (fresh_to s.left low) ++ fresh_listed (fresh_to s.right high)) ≤ one k s.left + one k s.right
both-le k s low high = omega (
  arith,
  count-append k (fresh_listed (fresh_to s.left low)) (fresh_listed (fresh_to s.right high)),
  fresh-le k s.left low,
  fresh-le k s.right high,
)

new-le : (k : ℕ) (plan : Plan) (s : PlanSlots) → count k (fresh_entries (new_node_of plan s)) ≤ one k s.left + one k s.right
new-le k (Replace p) s = both-le k s p.left p.right
new-le k (Join p) s = both-le k s p.left (cond (p.next.at.node == p.node) p.next.right p.right)
new-le k _ s = omega arith

-- no entry gets its number twice
pub raised-once : (plan : Plan) (s : PlanSlots) → AreApart s → (k : ℕ) → count k (entries_in plan s) ≤ 1
raised-once plan s a k =
    omega (arith, count-append k (entries_of (fronts_of plan s)) (fresh_entries (new_node_of plan s)), fronts-le k plan s, new-le k plan s, four-le k s a)

count-drop : (k : ℕ) (xs : List ℕ) (n : ℕ) → count k (drop n xs) ≤ count k xs
count-drop k [] zero = omega arith
count-drop k [] (suc n) = omega arith
count-drop k (x ∷ xs) zero = omega arith
count-drop k (x ∷ xs) (suc n) = omega (arith, count-drop k xs n)

without-none : (e : ℕ) (xs : List ℕ) → count e xs ≡ 0 → without e xs ≡ xs
without-none e [] none' = refl
without-none e (x ∷ xs) none' =
    let parts = none-here x e (count e xs) none' in
    ap (λ b. cond (not b) (x ∷ without e xs) (without e xs)) parts.0 ∙ ap (λ ys. x ∷ ys) (without-none e xs parts.1)

own_entry : (e : ℕ) → eqb e e ≡ true
own_entry e = grind (arith, nat_tests)

without-first : (e : ℕ) (xs : List ℕ) → count e (e ∷ xs) ≤ 1 → without e (e ∷ xs) ≡ xs
without-first e xs once =
    ap (λ b. cond (not b) (e ∷ without e xs) (without e xs)) (own_entry e) ∙ without-none e xs (none-left (count e xs) once)
  where
    none-left : (m : ℕ) → cond (eqb e e) 1 0 + m ≤ 1 → m ≡ 0
    none-left m le = grind (arith, nat_tests)

pub finalise_step : FinaliseStepLaw
finalise_step z v seat n plan slots place done entry h apart is =
    let xs = entries_in plan slots in
    let here : v.update.pending ≡ entry ∷ drop (done + 1) xs = h.pending ∙ drop-got xs done entry is in
    let once : count entry (entry ∷ drop (done + 1) xs) ≤ 1
    = subst (λ ys. count entry ys ≤ 1) (drop-got xs done entry is) (omega (arith, count-drop entry xs done, raised-once plan slots apart entry)) in
    record {
      may = may_finalise_law z v seat entry place (record {
        pending = subst (λ ys. 0 < count entry ys) (sym here)
            (in_one entry (drop (done + 1) xs));
        raised = h.raised;
      });
      after = record {
        live = h.live;
        own = h.own;
        inside = h.inside;
        once = h.once;
        locked = h.locked;
        raised = h.raised;
        taken = h.taken;
        pending = ap (without entry) here ∙ without-first entry (drop (done + 1) xs) once;
        reads = h.reads;
        links = h.links;
        unsearched = h.unsearched;
        unmarked = λ place front at. record {
          place = (h.unmarked place front at).place;
          held = (h.unmarked place front at).held;
          at = (h.unmarked place front at).at;
          node_is = (h.unmarked place front at).node_is;
          is = (h.unmarked place front at).is;
        };
      };
      keeps = record { layout = refl; joined = refl; number = refl; history = refl; counts = refl; free = refl; retired = refl; batch = refl };
    }

pub finalise_end : FinaliseEndLaw
finalise_end v n plan slots place done h none' = record {
  live = h.live;
  own = h.own;
  inside = h.inside;
  once = h.once;
  locked = h.locked;
  raised = ap is_some h.raised;
  taken = h.taken;
  idle = h.pending ∙ drop_all done (entries_in plan slots) (got-none (entries_in plan slots) done none');
  reads = h.reads;
  unmarked = h.unmarked;
  links = h.links;
  unsearched = h.unsearched;
}

pub mark_start : MarkStartLaw
mark_start v n plan slots h = record {
  live = h.live;
  own = h.own;
  inside = h.inside;
  once = h.once;
  locked = h.locked;
  taken = h.taken;
  idle = h.idle;
  marked = none-taken v.held.nodes;
  links = h.links;
  unsearched = h.unsearched;
}

-- one node more is marked
marks-more : (k : ℕ) (out more : List ℕ) → more ≡ out ++ k ∷ [] → (hs : List HeldNode) → Every (λ (h : HeldNode). 0 < count h.node out → h.mark ≡ Some 1) hs
    → Every (λ (h : HeldNode). 0 < count h.node more → h.mark ≡ Some 1) (map (mark_known k 1) hs)
marks-more k out more is [] all = tt
marks-more k out more is (h ∷ hs) all = (by (eqb h.node k) refl, marks-more k out more is hs all.1)
  where
    other : (x : ℕ) → eqb x k ≡ false → 0 < count x (out ++ k ∷ []) → 0 < count x out
    other x away some = omega (arith, some, count-append x out (k ∷ []), none x k away)
      where
        none : (a b : ℕ) → eqb a b ≡ false → cond (eqb b a) 1 0 + 0 ≡ 0
        none a b e = grind (arith, nat_tests)

    by : (b : Bool) → eqb h.node k ≡ b → 0 < count (cond b (record h { mark = Some 1 }) h).node more → (cond b (record h { mark = Some 1 }) h).mark ≡ Some 1
    by true e some = refl
    by false e some = all.0 (other h.node e (subst (λ ys. 0 < count h.node ys) is some))

pub mark_step : MarkStepLaw
mark_step z v seat n plan slots done node h is =
    let own : IsLockOf plan node = got-every (IsLockOf plan) (out_of plan) done node (locks_law plan slots).out is in
    record {
      may = may_mark_law z v seat node (record {
        locked = subst (λ ks. 0 < count node ks) (sym h.locked) own;
        taken = subst (λ ks. 0 < count node ks) (sym h.taken) (got-counts (out_of plan) done node is);
      });
      marked = record {
        live = h.live;
        own = h.own;
        inside = h.inside;
        once = h.once;
        locked = map-keeps (λ (x : HeldNode). x.node) (mark_known node 1) (mark-node node 1) v.held.nodes ∙ h.locked;
        taken = h.taken;
        idle = h.idle;
        marked = marks-more node (take done (out_of plan)) (take (done + 1) (out_of plan)) (take-got (out_of plan) done node is) v.held.nodes h.marked;
        links = h.links;
        unsearched = h.unsearched;
      };
      keeps = record { layout = refl; joined = refl; number = refl; history = refl; counts = refl; free = refl; retired = refl; batch = refl };
    }

pub mark_end : MarkEndLaw
mark_end v n plan slots done h none' = record {
  live = h.live;
  own = h.own;
  inside = h.inside;
  once = h.once;
  locked = h.locked;
  idle = h.idle;
  marked = every-by (λ (x : HeldNode). 0 < count x.node (take done (out_of plan)) → x.mark ≡ Some 1)
      (λ (x : HeldNode). 0 < count x.node v.update.taken → x.mark ≡ Some 1) v.held.nodes
      (λ x marked some. marked (subst (λ ks. 0 < count x.node ks) (h.taken ∙ sym (take-past (out_of plan) done none')) some)) h.marked;
  links = h.links;
  unsearched = h.unsearched;
}
