-- The bundles of the nodes that go out.
use Rattle.std.proofs.Common.{◌≡◌, ℕ, zero, suc, ◌+◌, ◌<◌, ◌≤◌, List, [], ◌∷◌, ◌++◌, cond, eqb, Bool, true, false, refl, ap, sym, ◌∙◌, subst, arith, Some, None}
use Rattle.std.specs.Prelude.{◌==◌}
use Rattle.std.specs.List.{slice_get}
use Rattle.std.proofs.lemmas.Bool.Decides.{nat_tests}
use Rattle.index_words.specs.declared.side.Side.{Side}
use Rattle.index_words.specs.declared.side.Side.TheVariants.{Left, Right}
use Rattle.index_words.specs.declared.view.View.{View}
use Rattle.index_words.specs.declared.view.update.Held.{Held}
use Rattle.index_words.specs.declared.view.update.HeldNode.{HeldNode}
use Rattle.index_words.specs.declared.view.update.LoadedHead.{LoadedHead}
use Rattle.key_map.specs.Lists.{count, Every, IsItem}
use Rattle.core_trees.specs.declared.link.Link.{Link}
use Rattle.core_events.specs.UpdateMoves.{prepared, known_at}
use Rattle.core_updates.specs.declared.plan.Plan.{Plan}
use Rattle.core_updates.specs.declared.plan.Plan.TheVariants.{Grow, Replace, Lift, Join}
use Rattle.core_updates.specs.declared.plan.PlanSlots.{PlanSlots}
use Rattle.core_updates.specs.declared.plan.Front.{Front}
use Rattle.core_updates.specs.Held.{HoldsHead}
use Rattle.core_updates.specs.Plans.{or_none, out_of, fronts_of}
use Rattle.plan_laws.specs.Places.{LocksOnce}
use Rattle.plan_laws.proofs.HeldMaps.{known-node, known-other}
use Rattle.plan_laws.proofs.Items.{item-map}
use Rattle.table_steps.specs.Raises.{HoldsChain, HoldsBundles, HoldsEntries}
use Rattle.update_try.specs.Walked.{HasWalkedAll, HoldsBundle, KeepsNexts}

pub chain_kept : (v w : View) (node head : ℕ) (es : List ℕ) → KeepsNexts v w → HoldsChain v node head es → HoldsChain w node head es
chain_kept v w node head [] keeps chain = chain
chain_kept v w node head (e ∷ es) keeps chain =
    let h = chain.2.1 in
    (chain.0, chain.1, (chain.2.0, record { place = h.place; item = h.item; at = keeps h.place h.item h.at; node_is = h.node_is; entry_is = h.entry_is; next_is = h.next_is }, chain_kept v w node chain.2.0 es keeps chain.2.2))

-- a bundle that was found stays found where its head does
pub bundle_kept : (v w : View) (node : ℕ) (side : Side) → KeepsNexts v w → ((head : ℕ) → HoldsHead v node side head → HoldsHead w node side head) → HoldsBundle v node side
    → HoldsBundle w node side
bundle_kept v w node side nexts heads (head, es, at, chain) = (head, es, heads head at, chain_kept v w node head es nexts chain)

bundles_kept : (v w : View) (ks : List ℕ) → KeepsNexts v w → ((k head : ℕ) (side : Side) → 0 < count k ks → HoldsHead v k side head → HoldsHead w k side head)
    → Every (λ k. HoldsBundle v k Left × HoldsBundle v k Right) ks → Every (λ k. HoldsBundle w k Left × HoldsBundle w k Right) ks
bundles_kept v w [] nexts heads all = tt
bundles_kept v w (k ∷ ks) nexts heads all = (
  (
    bundle_kept v w k Left nexts (λ head at. heads k head Left (here k ks) at) all.0.0,
    bundle_kept v w k Right nexts (λ head at. heads k head Right (here k ks) at) all.0.1,
  ),
  bundles_kept v w ks nexts (λ j head side some at. heads j head side (omega (arith, some)) at) all.1,
)
  where
    here : (x : ℕ) (xs : List ℕ) → 0 < count x (x ∷ xs)
    here x xs = counted x (count x xs)
      where
        counted : (x n : ℕ) → 0 < cond (eqb x x) 1 0 + n
        counted x n = grind (arith, nat_tests)

head_same : (v w : View) (node head : ℕ) (side : Side) → w.held ≡ v.held → HoldsHead v node side head → HoldsHead w node side head
head_same v w node head side same h = record {
  place = h.place;
  held = h.held;
  at = subst (λ (x : Held). IsItem x.nodes h.place h.held) (sym same) h.at;
  node_is = h.node_is;
  loaded = h.loaded;
  head = h.head;
  entry_is = h.entry_is;
}

-- all stay where what is held under locks is as it was
pub walked_same : (v w : View) (plan : Plan) → w.held ≡ v.held → HasWalkedAll v plan → HasWalkedAll w plan
walked_same v w plan same all =
    bundles_kept v w (out_of plan) (λ place item is. subst (λ (x : Held). IsItem x.nexts place item) (sym same) is) (λ k head side some at. head_same v w k head side same at) all

-- no entry is put in front of a bundle of a node that goes out
self_one : (k : ℕ) → cond (eqb k k) 1 0 + 0 ≡ 1
self_one k = grind (arith, nat_tests)

pub front_stays : (plan : Plan) (slots : PlanSlots) (place : ℕ) (f : Front) → LocksOnce plan → slice_get (fronts_of plan slots) place ≡ Some f → count f.at.node (out_of plan) ≡ 0
front_stays (Grow p) slots place f once is = refl
front_stays (Replace p) slots zero f once is =
    let same : p.at ≡ f.at = cc in
    subst (λ (x : Link). count x.node (p.node ∷ []) ≡ 0) same (omega (arith, once p.at.node, self_one p.at.node))
front_stays (Lift p) slots zero f once is =
    let same : p.at ≡ f.at = cc in
    subst (λ (x : Link). count x.node (p.node ∷ []) ≡ 0) same (omega (arith, once p.at.node, self_one p.at.node))
front_stays (Join p) slots zero f once is =
    let same : p.at ≡ f.at = cc in
    subst (λ (x : Link). count x.node (p.node ∷ p.next.node ∷ []) ≡ 0) same (by (p.next.at.node == p.node) (once p.at.node))
  where
    by : (near : Bool) → count p.at.node (p.at.node ∷ p.node ∷ cond near [] (p.next.at.node ∷ []) ++ p.next.node ∷ []) ≤ 1 → count p.at.node (p.node ∷ p.next.node ∷ []) ≡ 0
    by true le = omega (arith, le, self_one p.at.node)
    by false le = omega (arith, le, self_one p.at.node)
front_stays (Join p) slots (suc place) f once is = by (p.next.at.node == p.node) place (once p.next.at.node) is
  where
    second : Front
    second = record { at = p.next.at; entry = slots.next; child = p.next.right }

    by : (near : Bool) (i : ℕ) → count p.next.at.node (p.at.node ∷ p.node ∷ cond near [] (p.next.at.node ∷ []) ++ p.next.node ∷ []) ≤ 1
        → slice_get (or_none (cond near None (Some second))) i ≡ Some f → count f.at.node (p.node ∷ p.next.node ∷ []) ≡ 0
    by true i le e = cc
    by false zero le e =
        let same : p.next.at ≡ f.at = cc in
        subst (λ (x : Link). count x.node (p.node ∷ p.next.node ∷ []) ≡ 0) same (omega (arith, le, self_one p.next.at.node))
    by false (suc i) le e = cc
front_stays _ slots _ f once is = cc

-- so these bundles stay found where one is
pub walked_prepared : (v w : View) (plan : Plan) (slots : PlanSlots) (place : ℕ) (f : Front) → LocksOnce plan → slice_get (fronts_of plan slots) place ≡ Some f
    → w ≡ prepared v f.at.side f.at.node f.entry → HasWalkedAll v plan → HasWalkedAll w plan
walked_prepared v w plan slots place f once is now all =
    bundles_kept v w (out_of plan) (λ i item at. subst (λ (u : View). IsItem u.held.nexts i item) (sym now) at) heads all
  where
    heads : (k head : ℕ) (side : Side) → 0 < count k (out_of plan) → HoldsHead v k side head → HoldsHead w k side head
    heads k head side some before =
        let stored : LoadedHead = record { entry = f.entry; stamp = None } in
        let change : HeldNode → HeldNode = known_at f.at.node f.at.side stored in
        let apart : ¬ (k ≡ f.at.node) = λ e. omega (arith, some, ap (λ x. count x (out_of plan)) e, front_stays plan slots place f once is) in
        let keeps = known-other f.at.node f.at.side stored (record { node = k; side = side }) apart in
        let known = keeps.head before.held before.loaded before.node_is before.head in
        subst (λ (u : View). HoldsHead u k side head) (sym now) (record {
          place = before.place;
          held = change before.held;
          at = item-map change v.held.nodes before.place before.held before.at;
          node_is = known-node f.at.node f.at.side stored before.held ∙ before.node_is;
          loaded = known.now;
          head = known.is;
          entry_is = known.entry ∙ before.entry_is;
        })

-- the entries that the raise retires
bundles : (v : View) (node : ℕ) → HoldsBundle v node Left × HoldsBundle v node Right → (es : List ℕ) × HoldsBundles v node es
bundles v node ((left_head, lefts, left_at, left_chain), (right_head, rights, right_at, right_chain)) = (
  lefts ++ rights,
  record {
    lefts = lefts;
    rights = rights;
    left = record { head = left_head; held = left_at; chain = left_chain };
    right = record { head = right_head; held = right_at; chain = right_chain };
    are = refl;
  },
)

pub entries_held : (v : View) (ks : List ℕ) → Every (λ k. HoldsBundle v k Left × HoldsBundle v k Right) ks → (es : List ℕ) × HoldsEntries v ks es
entries_held v [] all = ([], refl)
entries_held v (k ∷ ks) all =
    let first = bundles v k all.0 in
    let rest = entries_held v ks all.1 in
    (first.0 ++ rest.0, (first.0, rest.0, first.1, rest.1, refl))
