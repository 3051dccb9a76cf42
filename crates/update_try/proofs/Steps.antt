-- What the steps of a try ask, and what they leave, at each of its stages.
use Rattle.std.proofs.Common.{◌≡◌, ℕ, ◌+◌, ◌<◌, ◌≤◌, List, [], ◌∷◌, drop, false, refl, ap, sym, ◌∙◌, subst, arith, Some}
use Rattle.std.specs.List.{slice_get}
use Rattle.index_words.specs.declared.view.View.{View}
use Rattle.index_words.specs.declared.view.history.Counts.{Counts}
use Rattle.index_words.specs.declared.view.update.HeldNode.{HeldNode}
use Rattle.key_map.specs.Lists.{count}
use Rattle.core_grace.specs.Holds.{held_slots}
use Rattle.core_events.specs.LockMoves.{unlocked_view}
use Rattle.core_laws.specs.ViewNeeds.{MayUnlock}
use Rattle.plan_laws.specs.Frames.{KeepsOwned, KeepsTry}
use Rattle.plan_laws.specs.Looks.{KeepsLooks}
use Rattle.plan_laws.specs.Releases.{IsReleasing}
use Rattle.plan_laws.proofs.Items.{drop-got, got-counts}
use Rattle.plan_laws.proofs.Releases.{unlock_step, all-done, known-marked}
use Rattle.table_steps.specs.Passes.{Pass, IsSamePass}
use Rattle.update_try.specs.Outcomes.{KeepsAll}

-- the same pass
pub same_pass : (p : Pass) → IsSamePass p p
same_pass p = record { id = refl; seat = refl; number = refl; layout = refl }

pub same_more : (p q r : Pass) → IsSamePass p q → IsSamePass q r → IsSamePass p r
same_more p q r first second = record {
  id = second.id ∙ first.id;
  seat = second.seat ∙ first.seat;
  number = second.number ∙ first.number;
  layout = second.layout ∙ first.layout;
}

pub owned_same : (v : View) → KeepsOwned v v
owned_same v = record { layout = refl; joined = refl; number = refl; history = refl; counts = refl; free = refl; retired = refl; batch = refl }

pub try_same : (v : View) → KeepsTry v v
try_same v = record {
  pass = record {
    layout = refl;
    joined = refl;
    number = refl;
    word = refl;
    announced = refl;
    history = refl;
    section = refl;
    opened = refl;
    least = refl;
    tree = refl;
    nodes = refl;
    retired = refl;
    batch = refl;
    raised = refl;
    taken = refl;
  };
  free = refl;
  grown = record { busy = omega arith; waits = omega arith; moves = omega arith };
}

pub looks_same : (v : View) → KeepsLooks v v
looks_same v = record { looks = λ look h. h; unmarked = λ k u. u; link = λ at child r. r; gap = λ k tag key side r. r; null = λ at tag above below r. r }

-- the next of the nodes that are locked may be unlocked
pub may_unlock : (v : View) (n node place : ℕ) (nodes : List ℕ) → IsReleasing v n (drop place nodes) → slice_get nodes place ≡ Some node → MayUnlock v node
may_unlock v n node place nodes r is = record {
  locked = subst (λ ks. 0 < count node ks) (sym (r.locked ∙ drop-got nodes place node is)) (got-counts (node ∷ drop (place + 1) nodes) 0 node refl);
  done = r.done;
  marked = known-marked v.update v.held.nodes r.marked;
  set = all-done node v.update r.set;
}

pub unlocked_next : (v w : View) (n node place : ℕ) (nodes : List ℕ) → IsReleasing v n (drop place nodes) → slice_get nodes place ≡ Some node
    → w ≡ unlocked_view v node
    → IsReleasing w n (drop (place + 1) nodes) × KeepsOwned v w
unlocked_next v w n node place nodes r is now =
    let next = unlock_step false v.layout v 0 n node (drop (place + 1) nodes) (subst (IsReleasing v n) (drop-got nodes place node is) r) in
    subst (λ (u : View). IsReleasing u n (drop (place + 1) nodes) × KeepsOwned v u) (sym now) (next.released, next.keeps)

-- a try that is given up keeps what its steps and the unlocks after them keep
pub all_kept : (u v w : View) → KeepsTry u v → v.counts.waits ≡ u.counts.waits → KeepsOwned v w → KeepsAll u w
all_kept u v w first waits second = record {
  layout = second.layout ∙ first.pass.layout;
  joined = second.joined ∙ first.pass.joined;
  number = second.number ∙ first.pass.number;
  history = second.history ∙ first.pass.history;
  free = second.free ∙ first.free;
  retired = second.retired ∙ first.pass.retired;
  batch = second.batch ∙ first.pass.batch;
  grown = record {
    busy = subst (λ (c : Counts). u.counts.busy ≤ c.busy) (sym second.counts) first.grown.busy;
    waits = subst (λ (c : Counts). u.counts.waits ≤ c.waits) (sym second.counts) first.grown.waits;
    moves = subst (λ (c : Counts). u.counts.moves ≤ c.moves) (sym second.counts) first.grown.moves;
  };
  waits = ap (λ (c : Counts). c.waits) second.counts ∙ waits;
}

pub no_node : (hs : List HeldNode) → held_slots hs ≡ [] → hs ≡ []
no_node [] is = refl
no_node (h ∷ hs) is = cc
