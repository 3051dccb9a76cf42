-- The plain tree after a set link, and what each view has still to do then.
use Rattle.std.proofs.Common.{◌≡◌, ℕ, ◌<◌, ◌⊎◌, cond, List, [], ◌∷◌, Bool, true, false, not, eqb, ◌&&◌, ◌||◌, set, arith, refl, ap, ◌∙◌, sym, subst, inl, inr, Option, None, IfSome}
use Rattle.std.specs.List.{list_any}
use Rattle.std.proofs.lemmas.Bool.{and_from, cases_lt, eq-eqb}
use Rattle.std.proofs.lemmas.Bool.Decides.{eqb_tells}
use Rattle.index_words.specs.declared.layout.Layout.{Layout}
use Rattle.index_words.specs.declared.side.Side.{Side}
use Rattle.index_words.specs.declared.side.Side.TheVariants.{Left, Right}
use Rattle.index_words.specs.declared.view.View.{View}
use Rattle.index_words.specs.declared.view.update.Unlinking.{Unlinking}
use Rattle.index_words.specs.declared.view.update.UnsetLink.{UnsetLink}
use Rattle.index_words.specs.declared.word.Field.TheVariants.{Link}
use Rattle.index_words.specs.declared.word.Word.TheVariants.{Node}
use Rattle.index_words.specs.Words.{Memory, written, same_side}
use Rattle.key_map.specs.Lists.{count, Every, IsItem}
use Rattle.index_words.proofs.Seats.{Beside, at_item, all_moved}
use Rattle.core_grace.specs.Holds.{held_slots}
use Rattle.core_trees.specs.LinkSteps.{IsLink, IsLinkIn}
use Rattle.core_trees.specs.NamedTree.{NamedTree}
use Rattle.core_trees.specs.Slots.{occurs}
use Rattle.core_trees.specs.SpelledTree.{Graph}
use Rattle.core_events.specs.PlainMoves.{link_set, other_links, still_unlinking}
use Rattle.core_events.specs.PlainNeeds.{is_link_of, sets_others, unlinks_at}
use Rattle.core_events.proofs.Tests.{never, not_true}
use Rattle.core_invariant.specs.Locks.{lock_count}
use Rattle.core_invariant.specs.Meanings.{Meaning}
use Rattle.core_invariant.specs.PlainRule.{PlainRight}
use Rattle.core_invariant.specs.PlainTree.{undone, BringsChild, HasChild, CopiesNear, NearRight, ItemRight, SeatInTree, IsPlainTree}
use Rattle.core_invariant.specs.Reached.{plain_graph}
use Rattle.core_invariant.specs.Rule.{Rule}
use Rattle.core_invariant.proofs.Frames.{every_map}
use Rattle.core_invariant.proofs.Locked.{locked_apart, slots_link}
use Rattle.core_invariant.proofs.Sides.{same_side-refl}
use Rattle.core_invariant.proofs.WaitNeeds.{CanSet}
use Rattle.core_kept.proofs.LinkItems.{now, ItemOf, items_of, new_links, child_there, same_child}
use Rattle.core_invariant.proofs.TreeNow.{names_once}
use Rattle.core_kept.proofs.MaySet.{item, sets, may, moves, off, copy_apart, asked, there}
use Rattle.core_invariant.proofs.Undone.{taken_out, tree_stays, root_stays, orderly, in_one, in_pair_second}
use Rattle.plain_trees.specs.Matching.{IsOut}
use Rattle.plain_trees.specs.Settling.{IsSet}
use Rattle.plain_trees.proofs.Matched.{spelled-some}
use Rattle.plain_trees.proofs.Settling.{set_law}

or_left : (a b : Bool) → a ≡ true → (a || b) ≡ true
or_left true b is = refl
or_left false b is = cc

or_right : (a b : Bool) → b ≡ true → (a || b) ≡ true
or_right true b is = refl
or_right false b is = is

module _ (z : Layout) (m : Memory) (vs : List View) (g : Meaning) (rule : Rule z m vs g) (plain : PlainRight m vs g) (W : NamedTree)
    (trees : IsPlainTree (plain_graph m) vs g.tree W)
    (i k : ℕ) (side : Side) (x : ℕ) (v : View) (at : IsItem vs i v) (can : CanSet z m v k side x) where
  abbrev pub gr' : Graph
  gr' = plain_graph (written m (Node (Link side) k) x)

  abbrev pub w : View
  w = link_set v k side x

  abbrev pub ws : List View
  ws = set vs i w

  abbrev gr0 : Graph
  gr0 = plain_graph m

  -- what the link held
  abbrev pub old : ℕ
  old = (item z m vs g rule plain W trees i k side x v at can).was

  -- the plain tree after the store
  set_tree : (plain' : NamedTree) × IsSet gr0 gr' (undone gr0 vs) (undone gr' ws) W g.tree plain' old x
  set_tree =
      set_law gr0 gr' (now z m vs g rule plain W trees) (undone gr0 vs) (undone gr' ws) W g.tree k old x side
      (orderly z m vs g rule gr0) trees.spelled trees.once
      rule.tree.spelled (names_once z m vs g rule) trees.matches (there z m vs g rule plain W trees i k side x v at can)
      (sets z m vs g rule plain W trees i k side x v at can) (may z m vs g rule plain W trees i k side x v at can)
      (moves z m vs g rule plain W trees i k side x v at can)

  pub tree' : NamedTree
  tree' = set_tree.0

  pub is_set : IsSet gr0 gr' (undone gr0 vs) (undone gr' ws) W g.tree tree' old x
  unfolding tree'
  is_set = set_tree.1

  child_link : IsLinkIn 0 Right g.tree k side
  child_link = there z m vs g rule plain W trees i k side x v at can

  child_asked : (now z m vs g rule plain W trees).child side k ≡ x
  child_asked = asked z m vs g rule plain W trees i k side x v at can

  some_in : (c : ℕ) → 0 < occurs c W → 0 < c
  some_in c here = spelled-some gr0 c (gr0.child Right 0) W trees.spelled here

  -- a node of the tree at the stamp stays in the plain tree
  pub tree_keeps : (j : ℕ) → 0 < occurs j g.tree → 0 < occurs j W → 0 < occurs j tree'
  tree_keeps j here before = is_set.keeps j (tree_stays z m vs g rule gr0 j here) before

  -- a new node that another link brings is not there yet
  still_new : (t : View) (y : UnsetLink) → ItemOf z m vs g rule plain W trees t y → ¬ IsLink k side y.node y.side → 0 < y.child → occurs y.child W ≡ 0
      → occurs y.child tree' ≡ 0
  still_new t y is ne some fresh =
      elim (cases_lt 0 (occurs y.child tree')) as (λ _. occurs y.child tree' ≡ 0) [
        | inr none ↦ omega (arith, none)
        | inl here ↦ absurd (elim (is_set.nodes y.child here) as (λ _. ⊥) [
          | inl before ↦ omega (arith, fresh, before)
          | inr same ↦
              let one = same_child z m vs g rule plain W trees y.node k y.side side x is.0.there child_link (is.0.asked ∙ same) child_asked
              (subst (λ n. 0 < n) same some) in
              ne one
        ])
      ]

  child_in : (t : View) (y : UnsetLink) → ItemOf z m vs g rule plain W trees t y → 0 < y.child → 0 < occurs y.child g.tree
  child_in t y is some =
      subst (λ n. 0 < occurs n g.tree) is.0.asked (child_there z m vs g rule plain W trees y.node y.side is.0.there (subst (λ n. 0 < n) (sym is.0.asked) some))

  leads_still : (t : View) (y : UnsetLink) → ItemOf z m vs g rule plain W trees t y → ¬ IsLink k side y.node y.side
      → BringsChild W t.update.taken t.update.added y.was y.child ⊎ HasChild W t.update.added y.child
      → BringsChild tree' t.update.taken t.update.added y.was y.child ⊎ HasChild tree' t.update.added y.child
  leads_still t y is ne (inl brings) =
      inl (record { brought = brings.brought; some = brings.some; new = still_new t y is ne brings.some brings.new; first = brings.first })
  leads_still t y is ne (inr has) = inr (record {
    other = has.other;
    there = elim has.there as (λ _. (y.child ≡ 0) ⊎ (0 < occurs y.child tree')) [
      | inl none ↦ inl none
      | inr here ↦ inr (tree_keeps y.child (child_in t y is (some_in y.child here)) here)
    ];
  })

  -- a copy of a near successor
  near_still : (j : ℕ) (t : View) → IsItem vs j t → (y : UnsetLink) → ItemOf z m vs g rule plain W trees t y → ¬ IsLink k side y.node y.side
      → (taken : List ℕ) (unlinking : Option Unlinking)
      → taken ≡ t.update.taken → NearRight gr0 W taken unlinking y.was y.child → NearRight gr' tree' taken unlinking y.was y.child
  near_still j t at' y is ne (a ∷ b ∷ []) None e near = λ first. copy_still (near first)
    where
      successor_out : IsOut (undone gr0 vs) b
      successor_out = taken_out z m vs g rule gr0 j b t at' (subst (λ (ks : List ℕ). 0 < count b ks) e (in_pair_second a b))

      removed_out : IsOut (undone gr0 vs) a
      removed_out = taken_out z m vs g rule gr0 j a t at' (subst (λ (ks : List ℕ). 0 < count a ks) e (in_one a (b ∷ [])))

      copy_still : CopiesNear gr0 W a b y.child → CopiesNear gr' tree' a b y.child
      copy_still near =
          let in_tree : 0 < occurs y.child g.tree = child_in t y is near.there in
          let right_same : gr'.child Right y.child ≡ gr0.child Right y.child
          = off z m vs g rule plain W trees i k side x v at can y.child Right
          (λ here. copy_apart z m vs g rule plain W trees i k side x v at can a b y.child near here.0) in
          record {
            some = near.some;
            there = near.there;
            new = still_new t y is ne near.there near.new;
            key = near.key;
            rises = near.rises;
            bare = off z m vs g rule plain W trees i k side x v at can b Left (λ here. link_apart here.0) ∙ near.bare;
            hangs = off z m vs g rule plain W trees i k side x v at can a Right (λ here. removed_apart here.0) ∙ near.hangs;
            behind = elim near.behind as (λ _. (gr'.child Right y.child ≡ 0) ⊎ (0 < occurs (gr'.child Right y.child) tree')) [
              | inl none ↦ inl (right_same ∙ none)
              | inr here ↦ inr (subst (λ n. 0 < occurs n tree') (sym right_same) (behind_stays near in_tree here))
            ];
          }
        where
          -- the removed node is not the link's either
          removed_apart : a ≡ k → ⊥
          removed_apart same = elim child_link as (λ _. ⊥) [
            | inl root ↦ root_stays z m vs g rule gr0 (subst (IsOut (undone gr0 vs)) (same ∙ root.0) removed_out)
            | inr here ↦ tree_stays z m vs g rule gr0 k here (subst (IsOut (undone gr0 vs)) same removed_out)
          ]

          link_apart : b ≡ k → ⊥
          link_apart same = elim child_link as (λ _. ⊥) [
            | inl root ↦ out_apart (same ∙ root.0)
            | inr here ↦ tree_stays z m vs g rule gr0 k here (subst (IsOut (undone gr0 vs)) same successor_out)
          ]
            where
              out_apart : b ≡ 0 → ⊥
              out_apart zero = omega (arith, near.some, zero)

          behind_stays : CopiesNear gr0 W a b y.child → 0 < occurs y.child g.tree → 0 < occurs (gr0.child Right y.child) W
              → 0 < occurs (gr0.child Right y.child) tree'
          behind_stays near in_tree here =
              let leads = new_links z m vs g rule plain W trees y.child in_tree near.new Right in
              let some = some_in (gr0.child Right y.child) here in
              tree_keeps (gr0.child Right y.child) (subst (λ n. 0 < occurs n g.tree) (sym leads)
              (child_there z m vs g rule plain W trees y.child Right (inr in_tree) (subst (λ n. 0 < n) leads some))) here
  near_still j t at' y is ne _ _ e near = tt

  -- an item of a view is right after the store, where it is not the link's own
  item_still : (j : ℕ) (t : View) → IsItem vs j t → (unlinking : Option Unlinking) → unlinking ≡ t.update.unlinking → (y : UnsetLink)
      → ItemOf z m vs g rule plain W trees t y → ¬ IsLink k side y.node y.side
      → ItemRight gr' tree' t.update.taken t.update.added unlinking t.update.waiting y
  item_still j t at' unlinking same y is ne = record {
    goes = is.1.goes;
    moves = is.1.moves;
    leads = leads_still t y is ne is.1.leads;
    near =
        near_still j t at' y is ne t.update.taken unlinking refl
        (subst (λ (o : Option Unlinking). NearRight gr0 W t.update.taken o y.was y.child) (sym same) is.1.near);
    last = λ second. subst (λ (o : Option Unlinking). unlinks_at y.node y.side o ≡ true) (sym same) (is.1.last second);
    early = λ first. (subst (λ (o : Option Unlinking). unlinks_at y.node y.side o ≡ false) (sym same) (is.1.early first).0, (is.1.early first).1);
  }

  is_link : (y : UnsetLink) → is_link_of k side y ≡ false → ¬ IsLink k side y.node y.side
  is_link y away here =
      never (sym away ∙ and_from (eqb y.node k) (same_side y.side side) (eq-eqb y.node k here.0)
      (subst (λ (t : Side). same_side y.side t ≡ true) here.1 (same_side-refl y.side)))

  seat_of : (j : ℕ) (t : View) → IsItem vs j t → SeatInTree gr0 W g.tree t
  seat_of j t at' = at_item (SeatInTree gr0 W g.tree) vs j t at' trees.seats

  other_seat : (t : View) → Beside vs i t → SeatInTree gr0 W g.tree t → SeatInTree gr' tree' g.tree t
  other_seat t beside seat = record {
    locked = λ j locked here. tree_keeps j here (seat.locked j locked here);
    items =
        every_map (ItemOf z m vs g rule plain W trees t) (ItemRight gr' tree' t.update.taken t.update.added t.update.unlinking t.update.waiting) t.update.unset
        (λ y is. item_still beside.place t beside.at t.update.unlinking refl y is
        (λ here. beside.other (same_place beside.place t beside.at (subst (λ n. 0 < count n (held_slots t.held.nodes)) here.0 is.0.held))))
        (items_of z m vs g rule plain W trees beside.place t beside.at);
    apart = seat.apart;
    first = seat.first;
    far = seat.far;
  }
    where
      same_place : (j : ℕ) (t : View) → IsItem vs j t → 0 < lock_count k t → j ≡ i
      same_place j t at' locked = elim (eqb_tells j i) as (λ _. j ≡ i) [
        | inl same ↦ same.1
        | inr other ↦ absurd (omega (arith, locked, locked_apart z m vs g rule i k v t at (record { place = j; at = at'; other = other.1 }) can.locked))
      ]

  -- where another link is still to be set, this one is not the successor's
  unlinking_kept : (y : UnsetLink) → list_any (λ (a : UnsetLink). not (is_link_of k side a)) v.update.unset ≡ true
      → still_unlinking k side v.update.unlinking ≡ v.update.unlinking
  unlinking_kept y others = by (unlinks_at k side v.update.unlinking) refl
    where
      by : (b : Bool) → unlinks_at k side v.update.unlinking ≡ b → cond b None v.update.unlinking ≡ v.update.unlinking
      by true is =
          absurd (never (sym (not_true (unlinks_at k side v.update.unlinking && sets_others k side v.update.unset) can.order)
          ∙ and_from (unlinks_at k side v.update.unlinking) (sets_others k side v.update.unset) is others))
      by false is = refl

  own_far : (b : Bool) → IfSome (cond b None v.update.unlinking) (λ o. v.update.taken ≡ o.replaced ∷ o.successor ∷ [])
  own_far true = tt
  own_far false = (seat_of i v at).far

  -- each item that is left, with the fact that it is not the link's own
  left_items : (us : List UnsetLink) → (list_any (λ (a : UnsetLink). not (is_link_of k side a)) us ≡ true
      → list_any (λ (a : UnsetLink). not (is_link_of k side a)) v.update.unset ≡ true)
      → Every (ItemOf z m vs g rule plain W trees v) us
      → Every (ItemRight gr' tree' v.update.taken v.update.added (still_unlinking k side v.update.unlinking) v.update.waiting) (other_links k side us)
  left_items [] some all = tt
  left_items (y ∷ us) some all =
      kept_by (is_link_of k side y) refl (left_items us
      (λ later. some (or_right (not (is_link_of k side y)) (list_any (λ (a : UnsetLink). not (is_link_of k side a)) us) later)) all.1)
    where
      kept_by : (b : Bool) → is_link_of k side y ≡ b
          → Every (ItemRight gr' tree' v.update.taken v.update.added (still_unlinking k side v.update.unlinking) v.update.waiting) (other_links k side us)
          → Every (ItemRight gr' tree' v.update.taken v.update.added (still_unlinking k side v.update.unlinking) v.update.waiting)
          (cond (not b) (y ∷ other_links k side us) (other_links k side us))
      kept_by true is rest = rest
      kept_by false is rest = (
        item_still i v at (still_unlinking k side v.update.unlinking)
            (unlinking_kept y (some (or_left (not (is_link_of k side y)) (list_any (λ (a : UnsetLink). not (is_link_of k side a)) us) (ap not is)))) y all.0
            (is_link y is),
        rest,
      )

  own_seat : SeatInTree gr' tree' g.tree w
  own_seat = record {
    locked = λ j locked here.
        tree_keeps j here ((seat_of i v at).locked j (subst (λ (ks : List ℕ). 0 < count j ks) (slots_link k side x v.held.nodes) locked) here);
    items = left_items v.update.unset (λ some. some) (items_of z m vs g rule plain W trees i v at);
    apart = (seat_of i v at).apart;
    first = (seat_of i v at).first;
    far = own_far (unlinks_at k side v.update.unlinking);
  }

  -- the plain tree after the store
  pub tree_set : IsPlainTree gr' ws g.tree tree'
  tree_set = record {
    spelled = is_set.spelled;
    once = is_set.once;
    matches = is_set.matches;
    seats = all_moved (SeatInTree gr0 W g.tree) (SeatInTree gr' tree' g.tree) vs i v w at trees.seats own_seat other_seat;
  }
