-- What a seat's search claims stays when a plain link is set.
use Rattle.std.proofs.Common.{◌≡◌, ℕ, ◌<◌, ◌⊎◌, inl, inr, arith, Bool}
use Rattle.core_trees.specs.NamedTree.{NamedTree, Branch}
use Rattle.core_trees.specs.Slots.{occurs}
use Rattle.core_trees.specs.SpelledTree.{Graph}
use Rattle.plain_trees.specs.Points.{point_of, Meets}
use Rattle.plain_trees.specs.Successors.{LeadsFrom}
use Rattle.plain_trees.specs.Matching.{Undone, IsBypassed}
use Rattle.plain_trees.specs.Claims.{IsWaiting, IsExcepted, Claims}
use Rattle.plain_trees.specs.Stores.{Relinks, Grows, Replaces, LiftsRight, LiftsLeft, Copies, Joins, IsStore, Insert, LiftRight, LiftLeft, Replace, Copy, Join, IsTest, Stores, ReachesNoNew, StoreLaw}
use Rattle.plain_trees.proofs.Changes.{LeavesMet, LeavesLeads, LeavesFrom, Rises, meets-on, from-on, grows-met, replaces-met, lifts_right-met, lifts_left-met, copies-met, joins-met, grows-leads, replaces-leads, lifts_right-leads, lifts_left-leads, copies-leads, joins-leads, grows-from, replaces-from, lifts_right-from}
use Rattle.plain_trees.proofs.Changes.{lifts_left-from, copies-from, joins-from}
use Rattle.plain_trees.proofs.Ways.{outer}
use Rattle.plain_trees.proofs.Points.{from-keep}

module _ (g g' : Graph) (there : ℕ → Bool) (u u' : Undone) (waits waits' : ℕ → ℕ → Bool) (plain plain' : NamedTree)
    (n s from until x : ℕ) (h : Stores g g' there u u' waits waits' plain plain' n s from until) where
  -- what is said of a node: it goes out, or the search reaches the copied successor from it
  rises : Rises (λ c t. (occurs c plain' ≡ 0) ⊎ ((point_of (g.key n) < x) × LeadsFrom (IsBypassed u) x s c t))
  rises c m k v l r = (
    λ o. elim o as (λ _. (occurs c plain' ≡ 0) ⊎ ((point_of (g.key n) < x) × LeadsFrom (IsBypassed u) x s c (Branch m k v l r))) [ inl out ↦ inl out | inr d ↦ inr (d.0, inr (inl d.1)) ],
    λ o. elim o as (λ _. (occurs c plain' ≡ 0) ⊎ ((point_of (g.key n) < x) × LeadsFrom (IsBypassed u) x s c (Branch m k v l r))) [ inl out ↦ inl out | inr d ↦ inr (d.0, inr (inr d.1)) ],
  )

  -- what a form has to show
  record Form (change : NamedTree → NamedTree → Type 0) : Type 0 where
    met : LeavesMet x (λ c t. (occurs c plain' ≡ 0) ⊎ ((point_of (g.key n) < x) × LeadsFrom (IsBypassed u) x s c t)) change
    leads : (q : ℕ) → ¬ (q ≡ n) → LeavesLeads (IsBypassed u) x q change
    below : (q : ℕ) → LeavesFrom (IsBypassed u) x q (λ c. occurs c plain' ≡ 0) change

  grow-form : Form Grows
  grow-form = record {
    met = grows-met x (λ c t. (occurs c plain' ≡ 0) ⊎ ((point_of (g.key n) < x) × LeadsFrom (IsBypassed u) x s c t));
    leads = λ q ne. grows-leads (IsBypassed u) x q;
    below = λ q. grows-from (IsBypassed u) (λ c. occurs c plain' ≡ 0) x q;
  }

  lift_right-form : Form (LiftsRight n)
  lift_right-form = record {
    met = lifts_right-met x n (λ c t. (occurs c plain' ≡ 0) ⊎ ((point_of (g.key n) < x) × LeadsFrom (IsBypassed u) x s c t)) (λ u. inl h.gone);
    leads = λ q ne. lifts_right-leads (IsBypassed u) x q n ne;
    below = λ q. lifts_right-from (IsBypassed u) (λ c. occurs c plain' ≡ 0) x q n h.gone;
  }

  lift_left-form : Form (LiftsLeft n)
  lift_left-form = record {
    met = lifts_left-met x n (λ c t. (occurs c plain' ≡ 0) ⊎ ((point_of (g.key n) < x) × LeadsFrom (IsBypassed u) x s c t)) (λ u. inl h.gone);
    leads = λ q ne. lifts_left-leads (IsBypassed u) x q n ne;
    below = λ q. lifts_left-from (IsBypassed u) (λ c. occurs c plain' ≡ 0) x q n h.gone;
  }

  replace-form : ¬ IsBypassed u n → Form (Replaces n)
  replace-form firm = record {
    met = replaces-met x n (λ c t. (occurs c plain' ≡ 0) ⊎ ((point_of (g.key n) < x) × LeadsFrom (IsBypassed u) x s c t)) (λ u. inl h.gone);
    leads = λ q ne. replaces-leads (IsBypassed u) x q n ne firm;
    below = λ q. replaces-from (IsBypassed u) (λ c. occurs c plain' ≡ 0) x q n h.gone;
  }

  copy-form : ¬ IsBypassed u n → Form (Copies (IsBypassed u) n s from until)
  copy-form firm = record {
    met = copies-met x n s from until (IsBypassed u) (λ c t. (occurs c plain' ≡ 0) ⊎ ((point_of (g.key n) < x) × LeadsFrom (IsBypassed u) x s c t)) (λ u. inl h.gone)
        (λ c u above most leads. inr (omega (arith, above, h.removed), leads));
    leads = λ q ne. copies-leads (IsBypassed u) (IsBypassed u) x q n s from until ne firm;
    below = λ q. copies-from (IsBypassed u) (λ c. occurs c plain' ≡ 0) (IsBypassed u) x q n s from until h.gone;
  }

  join-form : ¬ IsBypassed u n → occurs s plain' ≡ 0 → Form (Joins n s)
  join-form firm out = record {
    met = joins-met x n s (λ c t. (occurs c plain' ≡ 0) ⊎ ((point_of (g.key n) < x) × LeadsFrom (IsBypassed u) x s c t)) (λ u. inl h.gone) (λ u. inl out);
    leads = λ q ne. joins-leads (IsBypassed u) x q n s ne firm;
    below = λ q. joins-from (IsBypassed u) (λ c. occurs c plain' ≡ 0) x q n s h.gone out;
  }

  by-form : (change : NamedTree → NamedTree → Type 0) → Form change → Relinks (IsTest there) change plain plain' → (a : ℕ) → ReachesNoNew g plain plain' x a
      → Claims g (IsBypassed u) (IsWaiting waits) plain x a → Claims g' (IsBypassed u') (IsWaiting waits') plain' x a
  by-form change form re a fresh claims ms c way o =
      outer g g' (IsBypassed u) (IsBypassed u') (IsWaiting waits) (IsWaiting waits') plain plain' x h.spelled h.some h.keys h.links met excepted ms a c claims fresh way o
    where
      told : (d : ℕ) → 0 < occurs d plain' → Meets x d plain' ⊎ ((occurs d plain' ≡ 0) ⊎ ((point_of (g.key n) < x) × LeadsFrom (IsBypassed u) x s d plain'))
          → Meets x d plain' ⊎ IsExcepted g' (IsBypassed u') (IsWaiting waits') plain' x d
      told d i (inl m) = inl m
      told d i (inr (inl e)) = absurd (omega (arith, i, e))
      told d i (inr (inr l)) = inr (record {
        removed = n;
        successor = s;
        waiting = h.begins;
        above = omega (arith, l.0, h.keys n);
        leads = from-keep (IsBypassed u) (IsBypassed u') x s d plain' h.passes l.1;
      })

      met : (d : ℕ) → Meets x d plain → 0 < occurs d plain' → Meets x d plain' ⊎ IsExcepted g' (IsBypassed u') (IsWaiting waits') plain' x d
      met d m i =
          told d i (meets-on (IsTest there) x (λ c t. (occurs c plain' ≡ 0) ⊎ ((point_of (g.key n) < x) × LeadsFrom (IsBypassed u) x s c t)) change rises form.met d plain plain' re m)

      kept : (d q : ℕ) → 0 < occurs d plain' → LeadsFrom (IsBypassed u) x q d plain' ⊎ (occurs d plain' ≡ 0) → LeadsFrom (IsBypassed u') x q d plain'
      kept d q i (inl l) = from-keep (IsBypassed u) (IsBypassed u') x q d plain' h.passes l
      kept d q i (inr e) = absurd (omega (arith, i, e))

      excepted : (d : ℕ) → IsExcepted g (IsBypassed u) (IsWaiting waits) plain x d → 0 < occurs d plain' → IsExcepted g' (IsBypassed u') (IsWaiting waits') plain' x d
      excepted d e i = record {
        removed = e.removed;
        successor = e.successor;
        waiting = h.stays e.removed e.successor e.waiting;
        above = omega (arith, e.above, h.keys e.removed);
        leads = kept d e.successor i (from-on (IsTest there) (IsBypassed u) (λ c. occurs c plain' ≡ 0) x e.successor change (h.locked e.removed e.successor e.waiting).0 h.firm
            (form.leads e.successor (h.locked e.removed e.successor e.waiting).1) (form.below e.successor) d plain plain' re e.leads);
      }

  pub store-keeps : (a : ℕ) → ReachesNoNew g plain plain' x a → Claims g (IsBypassed u) (IsWaiting waits) plain x a → Claims g' (IsBypassed u') (IsWaiting waits') plain' x a
  store-keeps a fresh claims = forms h.store
    where
      forms : IsStore (IsTest there) (IsBypassed u) n s from until plain plain' → Claims g' (IsBypassed u') (IsWaiting waits') plain' x a
      forms (Insert re) = by-form Grows grow-form re a fresh claims
      forms (LiftRight re) = by-form (LiftsRight n) lift_right-form re a fresh claims
      forms (LiftLeft re) = by-form (LiftsLeft n) lift_left-form re a fresh claims
      forms (Replace firm re) = by-form (Replaces n) (replace-form firm) re a fresh claims
      forms (Copy firm re) = by-form (Copies (IsBypassed u) n s from until) (copy-form firm) re a fresh claims
      forms (Join firm out re) = by-form (Joins n s) (join-form firm out) re a fresh claims

pub store : StoreLaw
store g g' there u u' waits waits' plain plain' n s from until x a h fresh claims =
    store-keeps g g' there u u' waits waits' plain plain' n s from until x h a fresh claims
