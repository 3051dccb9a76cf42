-- What the answer of an update needs.
use Rattle.std.proofs.Common.{◌≡◌, ℕ, suc, ◌+◌, ◌^◌, ◌<◌, ◌≤◌, ◌⊎◌, inl, inr, List, [], ◌∷◌, ◌++◌, length, Bool, true, false, not, cond, eqb, refl, ap, sym, ◌∙◌, subst, arith, Some, None, length-append}
use Rattle.std.specs.Prelude.{◌==◌, ◌||◌, IfSome}
use Rattle.std.proofs.lemmas.Bool.Decides.{nat_tests}
use Rattle.index_words.specs.declared.view.View.{View}
use Rattle.index_words.proofs.Seats.{one_term}
use Rattle.key_map.specs.Lists.{count, has, IsItem}
use Rattle.key_map.specs.Map.{map_has}
use Rattle.key_map.proofs.Counting.{has-count}
use Rattle.core_grace.specs.Holds.{listed}
use Rattle.core_grace.specs.Slots.{own, nodes_of, entries_in}
use Rattle.core_trees.specs.NamedTree.{NamedTree, Null, Branch, IsLawful, contents}
use Rattle.core_trees.specs.TreeStep.{subtree_at}
use Rattle.core_trees.specs.Gaps.{IsNull}
use Rattle.core_trees.specs.Slots.{top_slots, removed_slots}
use Rattle.core_trees.proofs.Gaps.{null-lacks, lacks-has, found-has}
use Rattle.core_events.specs.LoadMoves.{longest}
use Rattle.core_events.specs.SpelledNow.{tree_now}
use Rattle.core_events.specs.Tables.{Table, held_by}
use Rattle.core_events.specs.TreeMoves.{takes, tree_move}
use Rattle.core_events.specs.UpdateMoves.{without_all}
use Rattle.core_invariant.specs.Rule.{IsRight}
use Rattle.core_invariant.proofs.OneView.{item_from_get}
use Rattle.core_invariant.proofs.Owned.{once_node, once_entry}
use Rattle.core_laws.proofs.Found.{stamp_law, length-without}
use Rattle.core_updates.specs.declared.plan.Plan.{Plan}
use Rattle.core_updates.specs.declared.plan.Plan.TheVariants.{Grow, Replace, Lift, Join}
use Rattle.core_updates.specs.declared.plan.PlanSlots.{PlanSlots}
use Rattle.core_updates.specs.PlanReady.{HoldsNewNode, PlanMayRaiseLaw}
use Rattle.core_updates.specs.Plans.{key_of, change_of, out_of, new_node_of, entries_of, fresh_entries, fresh_listed, fresh_to, or_none, slot_of}
use Rattle.plan_laws.specs.Raises.{update_by}
use Rattle.plan_laws.specs.Answers.{was_there, MovesNodes, owned_nodes, AnswerLaw, PreparedOwnsLaw, FourEntriesLaw}
use Rattle.plan_laws.proofs.PlanFronts.{entries-are}

-- how often these numbers stand in a list
abbrev all_of : List ℕ → List ℕ → ℕ
all_of [] xs = 0
all_of (e ∷ es) xs = count e xs + all_of es xs

all-first : (out : List ℕ) (x : ℕ) (xs : List ℕ) → all_of out (x ∷ xs) ≡ count x out + all_of out xs
all-first [] x xs = refl
all-first (e ∷ es) x xs = omega (arith, all-first es x xs, turned x e)
  where
    turned : (a b : ℕ) → 0 + cond (eqb a b) 1 0 ≡ 0 + cond (eqb b a) 1 0
    turned a b = grind (arith, nat_tests)

-- a list without these numbers
length-without_all : (out xs : List ℕ) → length xs ≤ length (without_all out xs) + all_of out xs
length-without_all out [] = omega arith
length-without_all out (x ∷ xs) = by (has x out) (λ e. has-count x out e) (length-without_all out xs)
  where
    by : (b : Bool) → (b ≡ true → 0 < count x out) → length xs ≤ length (without_all out xs) + all_of out xs
        → suc (length xs) ≤ length (cond (not b) (x ∷ without_all out xs) (without_all out xs)) + all_of out (x ∷ xs)
    by true some rest = omega (arith, some refl, rest, all-first out x xs)
    by false some rest = omega (arith, rest, all-first out x xs)

all-most : (out xs : List ℕ) → ((e : ℕ) → count e xs ≤ 1) → all_of out xs ≤ length out
all-most [] xs once = omega arith
all-most (e ∷ es) xs once = omega (arith, once e, all-most es xs once)

-- without one of them it is one shorter
without-one : (k : ℕ) (xs : List ℕ) → length (without_all (k ∷ []) xs) + count k xs ≡ length xs
without-one k [] = refl
without-one k (x ∷ xs) = by (eqb k x) (turned k x) (without-one k xs)
  where
    turned : (a b : ℕ) → 0 + cond (eqb b a) 1 0 ≡ 0 + cond (eqb a b) 1 0
    turned a b = grind (arith, nat_tests)

    by : (b : Bool) → 0 + cond (eqb x k) 1 0 ≡ 0 + cond b 1 0 → length (without_all (k ∷ []) xs) + count k xs ≡ length xs
        → length (cond (not (b || false)) (x ∷ without_all (k ∷ []) xs) (without_all (k ∷ []) xs)) + (cond (eqb x k) 1 0 + count k xs) ≡ suc (length xs)
    by true is rest = omega (arith, is, rest)
    by false is rest = omega (arith, is, rest)

without-none : (xs : List ℕ) → without_all [] xs ≡ xs
without-none [] = refl
without-none (x ∷ xs) = ap (λ ys. x ∷ ys) (without-none xs)

-- a slot is at most once among a seat's free ones
module _ (t : Table) (right : IsRight t) (i : ℕ) (v : View) (at : IsItem t.views i v) where
  free-node : (k : ℕ) → count k v.free.nodes ≤ 1
  free-node k = omega (arith, once_node t.layout t.views right.meaning right.rule.slots k, one_term (own nodes_of k) t.views i v at)

  free-entry : (e : ℕ) → count e v.free.entries ≤ 1
  free-entry e = omega (arith, once_entry t.layout t.views right.meaning right.rule.slots e, one_term (own entries_in e) t.views i v at)

pub prepared_owns : PreparedOwnsLaw
prepared_owns t i k e side v right at some = (refl, omega (arith, length-without e v.free.entries, free-entry t right i v at e, some))

fresh-most : (e child : ℕ) → length (fresh_listed (fresh_to e child)) ≤ 1
fresh-most e child = by (child == 0)
  where
    by : (b : Bool) → length (fresh_listed (cond b None (Some (record { entry = e; child = child })))) ≤ 1
    by true = omega arith
    by false = omega arith

pub four_entries : FourEntriesLaw
four_entries (Replace p) slots = omega (arith, length-append (fresh_listed (fresh_to slots.left p.left)) (fresh_listed (fresh_to slots.right p.right)), fresh-most slots.left p.left, fresh-most slots.right p.right)
four_entries (Join p) slots =
    let high : ℕ = cond (p.next.at.node == p.node) p.next.right p.right in
    omega (
      arith,
      length-append (fresh_listed (fresh_to slots.left p.left)) (fresh_listed (fresh_to slots.right high)),
      fresh-most slots.left p.left,
      fresh-most slots.right high,
      fronts-most (p.next.at.node == p.node),
    )
  where
    fronts-most : (near : Bool) → length (entries_of (record { at = p.at; entry = slots.at; child = slots.node } ∷ or_none (cond near None (Some (record { at = p.next.at; entry = slots.next; child = p.next.right }))))) ≤ 2
    fronts-most true = omega arith
    fronts-most false = omega arith
four_entries _ slots = omega arith

-- whether the key was there follows from what the update takes out
module _ (key : ℕ) (tree : NamedTree) (lawful : IsLawful tree) where
  absent : subtree_at key tree ≡ Null → map_has key (contents tree) ≡ false
  absent none' = lacks-has key tree (null-lacks key 0 (2 ^ 64) tree lawful (subst IsNull (sym none') tt))

  no-top : (sub : NamedTree) → top_slots sub ≡ [] → sub ≡ Null
  no-top Null e = refl
  no-top (Branch s k v l r) e = cc

  some-top : (sub : NamedTree) (x : ℕ) (xs : List ℕ) → top_slots sub ≡ x ∷ xs → ¬ IsNull sub
  some-top Null x xs e = cc
  some-top (Branch s k v l r) x xs e = λ n. n

  some-removed : (sub : NamedTree) (x : ℕ) (xs : List ℕ) → removed_slots sub ≡ x ∷ xs → ¬ IsNull sub
  some-removed Null x xs e = cc
  some-removed (Branch s k v l r) x xs e = λ n. n

was : (plan : Plan) (tree : NamedTree) → IsLawful tree → takes (change_of plan) (key_of plan) tree ≡ out_of plan → map_has (key_of plan) (contents tree) ≡ was_there plan
was (Grow p) tree lawful taken = absent p.pair.key tree lawful (no-top p.pair.key tree lawful (subtree_at p.pair.key tree) taken)
was (Replace p) tree lawful taken = found-has p.pair.key tree (some-top p.pair.key tree lawful (subtree_at p.pair.key tree) p.node [] taken)
was (Lift p) tree lawful taken = found-has p.key tree (some-removed p.key tree lawful (subtree_at p.key tree) p.node [] taken)
was (Join p) tree lawful taken = found-has p.key tree (some-removed p.key tree lawful (subtree_at p.key tree) p.node (p.next.node ∷ []) taken)

there : (k : ℕ) (free : List ℕ) → (Some k ≡ None) ⊎ (0 < count k free) → 0 < count k free
there k free (inl none') = cc
there k free (inr some) = some

-- what the pass owns after the raise, by its case: the free nodes without the new one, and the retired ones with those
-- that go out
moves-nodes : (plan : Plan) (slots : PlanSlots) (free batch retired : List ℕ) → count slots.node free ≤ 1 → (slot_of (new_node_of plan slots) ≡ None) ⊎ (0 < count slots.node free)
    → MovesNodes plan (length free + (length batch + length retired))
    (length (without_all (listed (slot_of (new_node_of plan slots))) free) + (length batch + length (retired ++ out_of plan)))
moves-nodes (Grow p) slots free batch retired once some = omega (arith, without-one slots.node free, length-append retired [], there slots.node free some)
moves-nodes (Replace p) slots free batch retired once some = omega (arith, without-one slots.node free, length-append retired (p.node ∷ []), there slots.node free some)
moves-nodes (Lift p) slots free batch retired once some = omega (arith, ap length (without-none free), length-append retired (p.node ∷ []))
moves-nodes (Join p) slots free batch retired once some = omega (arith, without-one slots.node free, length-append retired (p.node ∷ p.next.node ∷ []), there slots.node free some)

-- a plan with a new node holds its slot free
new-free : (plan : Plan) (slots : PlanSlots) (v : View) → IfSome (new_node_of plan slots) (HoldsNewNode v) → (slot_of (new_node_of plan slots) ≡ None) ⊎ (0 < count slots.node v.free.nodes)
new-free (Lift p) slots v h = inl refl
new-free _ slots v h = inr h.free

pub answer : PlanMayRaiseLaw → AnswerLaw
answer plan_may_raise t seat n line v plan slots right at r apart can =
    let u = update_by n line plan in
    let here : IsItem t.views seat v = item_from_get t.views seat v at in
    let moves = (plan_may_raise t.layout v n line plan slots can r.ready).moves t.words t.views seat right at in
    let found = stamp_law t seat v right here in
    let now = tree_now t.layout (held_by t) t.views in
    let m = tree_move t.layout (held_by t) t.views v u in
    let fresh : m.entries ≡ fresh_entries (new_node_of plan slots) = moves.entries_are ∙ entries-are t right seat v at slots apart plan r.ready.new in
    record {
      before = found.extends;
      seen = refl;
      place = length-append (longest t.views) (u ∷ []) ∙ ap (λ k. k + 1) found.whole;
      mine = refl;
      left = omega (arith, can.left);
      found = refl;
      looks = refl;
      was = ap (map_has (key_of plan)) (sym found.contents_are) ∙ was plan now found.lawful moves.taken_is;
      nodes = subst (λ a. MovesNodes plan (owned_nodes v) (length (without_all (listed a) v.free.nodes) + (length v.batch.nodes + length (v.retired.nodes ++ m.taken)))) (sym moves.added_is)
          (subst (λ out. MovesNodes plan (owned_nodes v) (length (without_all (listed (slot_of (new_node_of plan slots))) v.free.nodes) + (length v.batch.nodes + length (v.retired.nodes ++ out)))) (sym moves.taken_is)
          (moves-nodes plan slots v.free.nodes v.batch.nodes v.retired.nodes (free-node t right seat v here slots.node) (new-free plan slots v r.ready.new)));
      entries = omega (
        arith,
        length-without_all m.entries v.free.entries,
        all-most m.entries v.free.entries (free-entry t right seat v here),
        ap length fresh,
        length-append v.retired.entries m.taken_entries,
      );
    }
