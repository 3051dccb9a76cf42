-- What the updates of the views still have to do at plain links, by view, and which links none of them has to set.
use Rattle.std.proofs.Common.{◌≡◌, ℕ, ◌+◌, ◌<◌, ◌⊎◌, cond, List, [], ◌∷◌, Bool, true, false, eqb, ◌&&◌, ◌||◌, suc, zero, set, arith, refl, ap, ◌∙◌, sym, subst}
use Rattle.std.proofs.Common.{inl, inr, Option, Some, None}
use Rattle.std.specs.List.{list_any, sum_by}
use Rattle.std.proofs.lemmas.Bool.{and_parts, eqb-true, eq-eqb, cases_lt}
use Rattle.std.proofs.lemmas.Bool.Decides.{eqb_tells}
use Rattle.std.specs.Prelude.{IfSome}
use Rattle.index_words.specs.declared.layout.Layout.{Layout}
use Rattle.index_words.specs.declared.side.Side.{Side}
use Rattle.index_words.specs.declared.side.Side.TheVariants.{Left, Right}
use Rattle.index_words.specs.declared.view.View.{View}
use Rattle.index_words.specs.declared.view.update.Unlinking.{Unlinking}
use Rattle.index_words.specs.declared.view.update.UnsetLink.{UnsetLink}
use Rattle.index_words.specs.Words.{Memory}
use Rattle.index_words.proofs.Seats.{Beside, one_term, two_terms, item_set, beside_item, at_item}
use Rattle.index_words.specs.declared.word.Field.TheVariants.{Link}
use Rattle.index_words.specs.declared.word.Part.TheVariants.{Child}
use Rattle.index_words.specs.declared.word.Word.TheVariants.{Stamp, Node, Entry}
use Rattle.key_map.specs.Lists.{count, has, IsItem}
use Rattle.key_map.proofs.Counting.{has-count, count-has}
use Rattle.core_trees.specs.SpelledTree.{Graph}
use Rattle.core_trees.specs.Slots.{occurs}
use Rattle.core_trees.specs.NamedTree.{NamedTree}
use Rattle.core_grace.specs.Slots.{own, nodes_of}
use Rattle.core_grace.specs.Holds.{held_slots}
use Rattle.core_events.specs.PlainNeeds.{is_link_of}
use Rattle.core_events.proofs.Tests.{never, either_true}
use Rattle.plain_trees.specs.Matching.{IsOut, IsBypassed, IsHeir, IsOrderly, Undone, IsUnset}
use Rattle.plain_trees.specs.Claims.{IsWaiting}
use Rattle.core_invariant.specs.Meanings.{Meaning}
use Rattle.core_invariant.specs.PlainTree.{is_item, is_copied, passes_over, bypasses, copies, undone, sets_link, CopiesNear, NearRight, ItemRight, SeatInTree}
use Rattle.core_invariant.specs.PlainTree.{IsPlainTree}
use Rattle.core_invariant.specs.Rule.{Rule}
use Rattle.core_invariant.proofs.Frames.{same_item, Term, term_of}
use Rattle.core_invariant.proofs.OneView.{seat_at}
use Rattle.core_invariant.proofs.Owned.{once_node}
use Rattle.core_invariant.proofs.PlainSteps.{link_parts}
use Rattle.core_invariant.proofs.TreeNow.{count_slots}
use Rattle.core_invariant.specs.Locks.{lock_count}
use Rattle.core_invariant.specs.PlainRule.{unset_count, child_at, UnsetRight, SeatPlain, PlainRight}
use Rattle.core_invariant.specs.Reached.{plain_graph}
use Rattle.core_invariant.specs.SearchRule.{unlinks, waits_for, waits}
use Rattle.core_invariant.proofs.Locked.{same_locker}
use Rattle.core_invariant.proofs.Passing.{Passing as Found, passing, any_counted}

-- an item of a list that passes a test
pub record Passing {X : Type 0} (test : X → Bool) (xs : List X) : Type 0 where
  pub place : ℕ
  pub item : X
  pub at : IsItem xs place item
  pub passes : test item ≡ true

pass_behind : {X : Type 0} (test : X → Bool) (x : X) (xs : List X) → Passing test xs → Passing test (x ∷ xs)
pass_behind test x xs rest = record { place = suc rest.place; item = rest.item; at = record { within = omega (arith, rest.at.within); is = λ d. rest.at.is d }; passes = rest.passes }

pass_first : {X : Type 0} (test : X → Bool) (x : X) (xs : List X) (b c : Bool) → test x ≡ b → (c ≡ true → Passing test xs) → (b || c) ≡ true → Passing test (x ∷ xs)
pass_first test x xs true c is rest met = record { place = 0; item = x; at = record { within = omega arith; is = λ d. refl }; passes = is }
pass_first test x xs false c is rest met = pass_behind test x xs (rest met)

pub any_item : {X : Type 0} (test : X → Bool) (xs : List X) → list_any test xs ≡ true → Passing test xs
any_item test [] met = cc
any_item test (x ∷ xs) met = pass_first test x xs (test x) (list_any test xs) refl (λ rest. any_item test xs rest) met

-- a list in which an item passes
pub or_left : (a b : Bool) → a ≡ true → (a || b) ≡ true
or_left true b is = refl
or_left false b is = cc

pub or_right : (a b : Bool) → b ≡ true → (a || b) ≡ true
or_right true b is = refl
or_right false b is = is

pub any_from : {X : Type 0} (test : X → Bool) (xs : List X) (i : ℕ) (x : X) → IsItem xs i x → test x ≡ true → list_any test xs ≡ true
any_from test [] i x at passes = absurd (omega (arith, at.within))
any_from test (y ∷ ys) zero x at passes = or_left (test y) (list_any test ys) (ap test (at.is y) ∙ passes)
any_from test (y ∷ ys) (suc i) x at passes = or_right (test y) (list_any test ys) (any_from test ys i x (record { within = omega (arith, at.within); is = λ d. at.is d }) passes)

-- if one view moves, and what passes still does
pub any_moved : (test test' : View → Bool) (vs : List View) (i : ℕ) (v w : View) → IsItem vs i v → (test v ≡ true → test' w ≡ true)
    → ((t : View) → Beside vs i t → test t ≡ true → test' t ≡ true) → list_any test vs ≡ true → list_any test' (set vs i w) ≡ true
any_moved test test' vs i v w at own others some =
    let p : Passing test vs = any_item test vs some in
    elim (eqb_tells p.place i) as (λ _. list_any test' (set vs i w) ≡ true) [
      | inl same ↦ any_from test' (set vs i w) i w (item_set vs i v w at) (own (subst (λ (t : View). test t ≡ true) (sym (same_item vs i p.place v p.item at p.at same.1)) p.passes))
      | inr other ↦ any_from test' (set vs i w) p.place p.item (beside_item vs i p.place p.item w p.at other.1) (others p.item (record { place = p.place; at = p.at; other = other.1 }) p.passes)
    ]

-- what the tests on an update say
pub bypasses_is : (taken : List ℕ) (added : Option ℕ) (k : ℕ) → bypasses taken added k ≡ true → ((taken ≡ k ∷ []) × (added ≡ None)) ⊎ ((n : ℕ) × (taken ≡ n ∷ k ∷ []))
bypasses_is [] added k is = absurd (never is)
bypasses_is (n ∷ []) None k is = inl (ap (λ x. x ∷ []) (eqb-true n k is), refl)
bypasses_is (n ∷ []) (Some a) k is = absurd (never is)
bypasses_is (n ∷ s ∷ []) added k is = inr (n, ap (λ x. n ∷ x ∷ []) (eqb-true s k is))
bypasses_is (n ∷ s ∷ t ∷ ts) added k is = absurd (never is)

pub copies_is : (taken : List ℕ) (n s : ℕ) → copies taken n s ≡ true → taken ≡ n ∷ s ∷ []
copies_is (a ∷ b ∷ []) n s is =
    let parts = and_parts (eqb a n) (eqb b s) is in
    ap (λ x. x ∷ b ∷ []) (eqb-true a n parts.0) ∙ ap (λ x. n ∷ x ∷ []) (eqb-true b s parts.1)
copies_is _ n s is = absurd (never is)

-- a link of a copy that passes over the successor
pub record PassesAt (taken : List ℕ) (unlinking : Option Unlinking) (us : List UnsetLink) (right : ℕ → ℕ) (k : ℕ) (side : Side) (was child : ℕ) : Type 0 where
  pub removed : ℕ
  pub successor : ℕ
  pub out : taken ≡ removed ∷ successor ∷ []
  pub near : unlinking ≡ None
  pub place : side ≡ Right
  pub only : was ≡ successor
  pub leads : child ≡ right k
  pub copied : list_any (is_copied removed k) us ≡ true

pub passes_is : (taken : List ℕ) (unlinking : Option Unlinking) (us : List UnsetLink) (right : ℕ → ℕ) (k : ℕ) (side : Side) (was child : ℕ)
    → passes_over taken unlinking us right k side was child ≡ true → PassesAt taken unlinking us right k side was child
passes_is [] o us right k side was child is = absurd (never is)
passes_is (a ∷ []) o us right k side was child is = absurd (never is)
passes_is (a ∷ b ∷ []) (Some x) us right k side was child is = absurd (never is)
passes_is (a ∷ b ∷ []) None us right k Left was child is = absurd (never is)
passes_is (a ∷ b ∷ []) None us right k Right was child is =
    let c = list_any (is_copied a k) us in
    let one = and_parts (c && eqb was b) (eqb child (right k)) is in
    let two = and_parts c (eqb was b) one.0 in
    record { removed = a; successor = b; out = refl; near = refl; place = refl; only = eqb-true was b two.1; leads = eqb-true child (right k) one.1; copied = two.0 }
passes_is (a ∷ b ∷ c ∷ cs) o us right k side was child is = absurd (never is)

pub record ItemIs (k : ℕ) (side : Side) (was child : ℕ) (u : UnsetLink) : Type 0 where
  pub node : u.node ≡ k
  pub at : u.side ≡ side
  pub old : u.was ≡ was
  pub new : u.child ≡ child

pub item_is : (k : ℕ) (side : Side) (was child : ℕ) (u : UnsetLink) → is_item k side was child u ≡ true → ItemIs k side was child u
item_is k side was child u is =
    let one = and_parts (is_link_of k side u && eqb u.was was) (eqb u.child child) is in
    let two = and_parts (is_link_of k side u) (eqb u.was was) one.0 in
    let link = link_parts k side u two.0 in
    record { node = link.0; at = link.1; old = eqb-true u.was was two.1; new = eqb-true u.child child one.1 }

pub copied_is : (removed copy : ℕ) (u : UnsetLink) → is_copied removed copy u ≡ true → (u.was ≡ removed) × (u.child ≡ copy)
copied_is removed copy u is = let parts = and_parts (eqb u.was removed) (eqb u.child copy) is in (eqb-true u.was removed parts.0, eqb-true u.child copy parts.1)

one_here : (k : ℕ) (b : Bool) (n : ℕ) → b ≡ true → 0 < cond b 1 0 + n
one_here k true n is = omega arith
one_here k false n is = cc

pub in_one : (n : ℕ) (ks : List ℕ) → 0 < count n (n ∷ ks)
in_one n ks = one_here n (eqb n n) (count n ks) (eq-eqb n n refl)

pub in_pair_second : (n s : ℕ) → 0 < count s (n ∷ s ∷ [])
in_pair_second n s = omega (arith, in_one s [])

module _ (z : Layout) (m : Memory) (vs : List View) (g : Meaning) (rule : Rule z m vs g) (gr : Graph) where
  -- what one update took out, no other one took out
  pub one_taker : (i j k : ℕ) (v u : View) → IsItem vs i v → IsItem vs j u → 0 < count k v.update.taken → 0 < count k u.update.taken → j ≡ i
  one_taker i j k v u at of some also =
      elim (eqb_tells j i) as (λ _. j ≡ i) [
        | inl same ↦ same.1
        | inr other ↦
            absurd (omega (
              arith,
              once_node z vs g rule.slots k,
              (seat_at z m vs g i v at rule).marks.taken k some,
              (seat_at z m vs g j u of rule).marks.taken k also,
              two_terms (own nodes_of k) vs i v u at (record { place = j; at = of; other = other.1 }),
            ))
      ]

  pub out_taken : (k : ℕ) → IsOut (undone gr vs) k → Passing (λ (v : View). has k v.update.taken) vs
  out_taken k out = any_item (λ (v : View). has k v.update.taken) vs out

  pub taken_out : (i k : ℕ) (v : View) → IsItem vs i v → 0 < count k v.update.taken → IsOut (undone gr vs) k
  taken_out i k v at some = any_from (λ (v : View). has k v.update.taken) vs i v at (count-has k v.update.taken some)

  -- a node of the tree at the stamp was not taken out, nor was the root
  pub tree_stays : (k : ℕ) → 0 < occurs k g.tree → ¬ IsOut (undone gr vs) k
  tree_stays k here out =
      let t : Passing (λ (v : View). has k v.update.taken) vs = out_taken k out in
      omega (
        arith,
        once_node z vs g rule.slots k,
        count_slots k g.tree,
        here,
        one_term (own nodes_of k) vs t.place t.item t.at,
        (seat_at z m vs g t.place t.item t.at rule).marks.taken k (has-count k t.item.update.taken t.passes),
      )

  pub root_stays : ¬ IsOut (undone gr vs) 0
  root_stays out =
      let t : Passing (λ (v : View). has 0 v.update.taken) vs = out_taken 0 out in
      omega (
        arith,
        rule.slots.nodes.one 0,
        one_term (own nodes_of 0) vs t.place t.item t.at,
        (seat_at z m vs g t.place t.item t.at rule).marks.taken 0 (has-count 0 t.item.update.taken t.passes),
      )

  pub orderly : IsOrderly (undone gr vs)
  orderly = record { passes = passes; heirs = heirs }
    where
      passes : (k : ℕ) → IsBypassed (undone gr vs) k → IsOut (undone gr vs) k
      passes k is =
          let t : Passing (λ (v : View). bypasses v.update.taken v.update.added k) vs = any_item (λ (v : View). bypasses v.update.taken v.update.added k) vs is in
          taken_out t.place k t.item t.at (elim (bypasses_is t.item.update.taken t.item.update.added k t.passes) as (λ _. 0 < count k t.item.update.taken) [
            | inl alone ↦ subst (λ (ks : List ℕ). 0 < count k ks) (sym alone.0) (in_one k [])
            | inr second ↦ subst (λ (ks : List ℕ). 0 < count k ks) (sym second.1) (in_pair_second second.0 k)
          ])

      heirs : (n s : ℕ) → IsHeir (undone gr vs) n s → IsOut (undone gr vs) s
      heirs n s is =
          let t : Passing (λ (v : View). copies v.update.taken n s) vs = any_item (λ (v : View). copies v.update.taken n s) vs is in
          taken_out t.place s t.item t.at (subst (λ (ks : List ℕ). 0 < count s ks) (sym (copies_is t.item.update.taken n s t.passes)) (in_pair_second n s))

  -- the root, or a node of the tree at the stamp, was not taken out
  pub stays : (k : ℕ) → (k ≡ 0) ⊎ (0 < occurs k g.tree) → ¬ IsOut (undone gr vs) k
  stays k there out =
      elim there as (λ _. ⊥) [
        | inl root ↦ root_stays (subst (IsOut (undone gr vs)) root out)
        | inr here ↦ tree_stays k here out
      ]

-- At a node that a seat has locked before its raise no link is to be set, if it is the root or in the tree at the
-- stamp.
module _ (z : Layout) (m : Memory) (vs : List View) (g : Meaning) (rule : Rule z m vs g) (W : NamedTree) (trees : IsPlainTree (plain_graph m) vs g.tree W) where
  abbrev gr : Graph
  gr = plain_graph m

  abbrev u0 : Undone
  u0 = undone (plain_graph m) vs

  -- a successor that is waited for was taken out
  pub waiting_out : (v : View) (removed successor : ℕ) → IsWaiting (waits vs v) removed successor → IsOut u0 successor
  waiting_out v removed successor is =
      let t : Passing (waits_for v removed successor) vs = any_item (waits_for v removed successor) vs is in
      let unlinked : unlinks removed successor t.item.update.unlinking ≡ true = (and_parts (unlinks removed successor t.item.update.unlinking) _ t.passes).0 in
      out_by t.place t.item t.at t.item.update.unlinking refl unlinked
    where
      out_by : (j : ℕ) (t : View) → IsItem vs j t → (o : Option Unlinking) → t.update.unlinking ≡ o → unlinks removed successor o ≡ true → IsOut u0 successor
      out_by j t of None is unlinked = absurd (never unlinked)
      out_by j t of (Some x) is unlinked =
          let parts = and_parts (eqb x.replaced removed) (eqb x.successor successor) unlinked in
          let taken : t.update.taken ≡ x.replaced ∷ x.successor ∷ []
          = subst (λ (o : Option Unlinking). IfSome o (λ y. t.update.taken ≡ y.replaced ∷ y.successor ∷ [])) is (at_item (SeatInTree gr W g.tree) vs j t of trees.seats).far in
          taken_out z m vs g rule gr j successor t of
          (subst (λ n. 0 < count n t.update.taken) (eqb-true x.successor successor parts.1)
          (subst (λ (ks : List ℕ). 0 < count x.successor ks) (sym taken) (in_pair_second x.replaced x.successor)))

  -- a copy of a near successor is not in the plain tree as long as it is to be linked
  copy_new : (j k : ℕ) (t : View) → IsItem vs j t → (side : Side) (was child : ℕ) → PassesAt t.update.taken t.update.unlinking t.update.unset (gr.child Right) k side was child
      → (0 < k) × (occurs k W ≡ 0)
  copy_new j k t of side was child p =
      let P : UnsetLink → Type 0 = ItemRight gr W t.update.taken t.update.added t.update.unlinking t.update.waiting in
      let f : Found (is_copied p.removed k) P = passing (is_copied p.removed k) P t.update.unset (at_item (SeatInTree gr W g.tree) vs j t of trees.seats).items p.copied in
      let c = copied_is p.removed k f.item f.passes in
      let near : CopiesNear gr W p.removed p.successor k
      = subst (λ x. CopiesNear gr W p.removed p.successor x) c.1
      (subst (λ (o : Option Unlinking). NearRight gr W (p.removed ∷ p.successor ∷ []) o f.item.was f.item.child) p.near
      (subst (λ (ks : List ℕ). NearRight gr W ks t.update.unlinking f.item.was f.item.child) p.out f.right.near) c.0) in
      (near.there, near.new)

  module _ (plain : PlainRight m vs g) (i : ℕ) (v : View) (at : IsItem vs i v) (quiet : v.update.raised ≡ None) where
    abbrev Plain : View → Type 0
    Plain = SeatPlain (λ s k. m (Node (Link s) k)) (child_at (λ e. m (Entry Child e)) g.bundles (m Stamp)) g.tree

    pub none_unset : v.update.unset ≡ []
    none_unset = ((at_item Plain vs i v at plain.seats).first quiet).0

    pub no_links : (node : ℕ) → 0 < lock_count node v → (node ≡ 0) ⊎ (0 < occurs node g.tree) → (side : Side) (was child : ℕ) → IsUnset u0 node side was child → ⊥
    no_links node locked there side was child is =
        let t : Passing (sets_link (gr.child Right) node side was child) vs = any_item (sets_link (gr.child Right) node side was child) vs is in
        elim (either_true (list_any (is_item node side was child) t.item.update.unset) (passes_over t.item.update.taken t.item.update.unlinking t.item.update.unset (gr.child Right) node side was child) t.passes)
        as (λ _. ⊥) [
          | inl real ↦ mine t.place t.item t.at real
          | inr over ↦ copied t.place t.item t.at (passes_is t.item.update.taken t.item.update.unlinking t.item.update.unset (gr.child Right) node side was child over)
        ]
      where
        mine : (j : ℕ) (t : View) → IsItem vs j t → list_any (is_item node side was child) t.update.unset ≡ true → ⊥
        mine j t of real =
            let P : UnsetLink → Type 0 = UnsetRight (λ s k. m (Node (Link s) k)) (child_at (λ e. m (Entry Child e)) g.bundles (m Stamp)) g.tree (held_slots t.held.nodes) in
            let f : Found (is_item node side was child) P = passing (is_item node side was child) P t.update.unset (at_item Plain vs j t of plain.seats).unset real in
            let held : 0 < lock_count node t = subst (λ n. 0 < count n (held_slots t.held.nodes)) (item_is node side was child f.item f.passes).node f.right.held in
            let same : v ≡ t = same_locker z m vs g rule i j node v t at of locked held in
            never (subst (λ (us : List UnsetLink). list_any (is_item node side was child) us ≡ true) none_unset
            (subst (λ (y : View). list_any (is_item node side was child) y.update.unset ≡ true) (sym same) real))

        copied : (j : ℕ) (t : View) → IsItem vs j t → PassesAt t.update.taken t.update.unlinking t.update.unset (gr.child Right) node side was child → ⊥
        copied j t of p =
            let new = copy_new j node t of side was child p in
            elim there as (λ _. ⊥) [
              | inl root ↦ omega (arith, root, new.0)
              | inr here ↦ omega (arith, new.1, (at_item (SeatInTree gr W g.tree) vs i v at trees.seats).locked node locked here)
            ]

    -- nor has any seat an item there
    pub no_items : (node : ℕ) → 0 < lock_count node v → (side : Side) → sum_by (unset_count node side) vs ≡ 0
    no_items node locked side =
        elim (cases_lt 0 (sum_by (unset_count node side) vs)) as (λ _. sum_by (unset_count node side) vs ≡ 0) [
          | inr none ↦ omega (arith, none)
          | inl some ↦ absurd (never_set (term_of (unset_count node side) vs some))
        ]
      where
        never_set : Term (unset_count node side) vs → ⊥
        never_set term =
            let t : View = term.item in
            let P : UnsetLink → Type 0 = UnsetRight (λ s k. m (Node (Link s) k)) (child_at (λ e. m (Entry Child e)) g.bundles (m Stamp)) g.tree (held_slots t.held.nodes) in
            let some : list_any (is_link_of node side) t.update.unset ≡ true = any_counted (is_link_of node side) t.update.unset term.some in
            let f : Found (is_link_of node side) P = passing (is_link_of node side) P t.update.unset (at_item Plain vs term.place t term.at plain.seats).unset some in
            let held : 0 < lock_count node t = subst (λ n. 0 < count n (held_slots t.held.nodes)) (link_parts node side f.item f.passes).0 f.right.held in
            let same : v ≡ t = same_locker z m vs g rule i term.place node v t at term.at locked held in
            never (subst (λ (us : List UnsetLink). list_any (is_link_of node side) us ≡ true) none_unset
            (subst (λ (y : View). list_any (is_link_of node side) y.update.unset ≡ true) (sym same) some))
