-- What a search claims at one node, after a set link.
use Rattle.std.proofs.Common.{◌≡◌, ℕ, ◌<◌, ◌⊎◌, cond, List, [], ◌∷◌, Bool, true, false, not, eqb, ◌&&◌, ◌||◌, arith, refl, ap, ◌∙◌, sym, subst, inl, inr, Option, Some, None, IfSome}
use Rattle.std.specs.List.{list_any}
use Rattle.std.proofs.lemmas.Bool.{and_from, and_parts, eqb-true, eq-eqb}
use Rattle.index_words.specs.declared.layout.Layout.{Layout}
use Rattle.index_words.specs.declared.side.Side.{Side}
use Rattle.index_words.specs.declared.side.Side.TheVariants.{Right}
use Rattle.index_words.specs.declared.view.View.{View}
use Rattle.index_words.specs.declared.view.slots.Looks.{Looks}
use Rattle.index_words.specs.declared.view.update.Unlinking.{Unlinking}
use Rattle.index_words.specs.Views.{no_looks}
use Rattle.index_words.specs.Words.{Memory}
use Rattle.key_map.specs.Lists.{count, has, IsItem}
use Rattle.index_words.proofs.Seats.{Beside, at_item, item_set}
use Rattle.core_grace.specs.Batches.{all_passed, is_number}
use Rattle.core_grace.proofs.RuleMoves.{all_passed-has}
use Rattle.core_trees.specs.NamedTree.{NamedTree, Null, Branch}
use Rattle.core_trees.specs.Slots.{occurs}
use Rattle.core_trees.specs.SpelledTree.{Graph}
use Rattle.core_trees.proofs.Slots.{one_at-same}
use Rattle.core_events.specs.PlainMoves.{link_set, still_unlinking}
use Rattle.core_events.specs.PlainNeeds.{unlinks_at, may_unlink}
use Rattle.core_events.specs.Needs.{is_marked_node}
use Rattle.core_events.proofs.Tests.{never, not_true, either_true}
use Rattle.core_invariant.specs.Meanings.{Meaning}
use Rattle.core_invariant.specs.PlainRule.{PlainRight}
use Rattle.core_invariant.specs.PlainTree.{copies, undone, CopiesNear, SeatInTree, IsPlainTree, IsSecondOut, AreApart}
use Rattle.core_invariant.specs.Reached.{plain_graph, has_let, is_late}
use Rattle.core_invariant.specs.Rule.{Rule}
use Rattle.core_invariant.specs.SearchRule.{unlinks, waits_for, waits}
use Rattle.core_invariant.proofs.WaitNeeds.{CanSet}
use Rattle.core_kept.proofs.LinkItems.{ItemOf, now, near_of, new_links, child_there}
use Rattle.core_kept.proofs.MaySet.{item, of, was_taken, off, copy_apart, node_is, side_is, x_is, asked, there, may}
use Rattle.core_invariant.proofs.Undone.{Passing, any_item, any_from, any_moved, copies_is, taken_out, tree_stays, orderly, in_one, in_pair_second}
use Rattle.core_kept.proofs.ReachLists.{none_let}
use Rattle.core_kept.proofs.SetTree.{gr', ws, old, tree', is_set}
use Rattle.plain_trees.specs.Claims.{IsWaiting, IsExcepted, Claims}
use Rattle.plain_trees.specs.Matching.{Undone, IsOut, IsBypassed, IsHeir}
use Rattle.plain_trees.specs.Points.{Meets}
use Rattle.plain_trees.specs.Settling.{MaySet, IsSet, IsCopy}
use Rattle.plain_trees.specs.Stores.{Relinks, Grows, Replaces, LiftsRight, LiftsLeft, Copies, Joins, IsStore, Insert, LiftRight, LiftLeft, Replace, Copy, Join, IsTest, Stores, ReachesNoNew}
use Rattle.plain_trees.specs.Successors.{LeadsTo, LeadsFrom}
use Rattle.plain_trees.proofs.Matched.{spelled-some}
use Rattle.plain_trees.proofs.Stores.{store}

-- links of the same test of the nodes above them
relinks_test : (P Q : ℕ → Type 0) (change : NamedTree → NamedTree → Type 0) (a b : NamedTree) → ((m : ℕ) → P m → Q m) → Relinks P change a b
    → Relinks Q change a b
relinks_test P Q change Null b step here = here
relinks_test P Q change (Branch s k v l r) b step (inl here) = inl here
relinks_test P Q change (Branch s k v l r) b step (inr (l', r', is, inl below)) =
    inr (l', r', is, inl (relinks_test P Q change l l' step below.0, λ null. step s (below.1 null), below.2))
relinks_test P Q change (Branch s k v l r) b step (inr (l', r', is, inr below)) = inr (l', r', is, inr (below.0, relinks_test P Q change r r' step below.1))

-- a successor to which a way leads is in the tree
leads-there : (bypassed : ℕ → Type 0) (x s : ℕ) (t : NamedTree) → LeadsTo bypassed x s t → 0 < occurs s t
leads-there bypassed x s Null way = absurd way
leads-there bypassed x s (Branch c k v l r) (inl here) = subst (λ y. 0 < occurs y (Branch c k v l r)) (sym here.0) (omega (arith, one_at-same c))
leads-there bypassed x s (Branch c k v l r) (inr (inl down)) = omega (arith, leads-there bypassed x s l down.1)
leads-there bypassed x s (Branch c k v l r) (inr (inr past)) = omega (arith, leads-there bypassed x s r past.2)

pub from-there : (bypassed : ℕ → Type 0) (x s c : ℕ) (t : NamedTree) → LeadsFrom bypassed x s c t → 0 < occurs s t
from-there bypassed x s c Null way = absurd way
from-there bypassed x s c (Branch m k v l r) (inl here) = leads-there bypassed x s (Branch m k v l r) here.1
from-there bypassed x s c (Branch m k v l r) (inr (inl left)) = omega (arith, from-there bypassed x s c l left)
from-there bypassed x s c (Branch m k v l r) (inr (inr right)) = omega (arith, from-there bypassed x s c r right)

not_out : (b : Bool) → not b ≡ true → b ≡ true → ⊥
not_out true is out = cc
not_out false is out = cc

out_not : (b : Bool) → (b ≡ true → ⊥) → not b ≡ true
out_not true never = absurd (never refl)
out_not false never = refl

module _ (z : Layout) (m : Memory) (vs : List View) (g : Meaning) (rule : Rule z m vs g) (plain : PlainRight m vs g) (W : NamedTree)
    (trees : IsPlainTree (plain_graph m) vs g.tree W)
    (i k : ℕ) (side : Side) (x : ℕ) (v : View) (at : IsItem vs i v) (can : CanSet z m v k side x) where
  abbrev gr0 : Graph
  gr0 = plain_graph m

  abbrev gr1 : Graph
  gr1 = gr' z m vs g rule plain W trees i k side x v at can

  abbrev ws1 : List View
  ws1 = ws z m vs g rule plain W trees i k side x v at can

  abbrev tree1 : NamedTree
  tree1 = tree' z m vs g rule plain W trees i k side x v at can

  abbrev u0 : Undone
  u0 = undone gr0 vs

  abbrev u1 : Undone
  u1 = undone gr1 ws1

  abbrev old1 : ℕ
  old1 = old z m vs g rule plain W trees i k side x v at can

  abbrev done : IsSet gr0 gr1 u0 u1 W g.tree tree1 old1 x
  done = is_set z m vs g rule plain W trees i k side x v at can

  abbrev mine : ItemOf z m vs g rule plain W trees v (item z m vs g rule plain W trees i k side x v at can)
  mine = of z m vs g rule plain W trees i k side x v at can

  seat_of : (j : ℕ) (t : View) → IsItem vs j t → SeatInTree gr0 W g.tree t
  seat_of j t at' = at_item (SeatInTree gr0 W g.tree) vs j t at' trees.seats

  -- the nodes of a removal that waits were taken out by it
  waits_taken : (j n s : ℕ) (t : View) → IsItem vs j t → unlinks n s t.update.unlinking ≡ true → t.update.taken ≡ n ∷ s ∷ []
  waits_taken j n s t at' is = by t.update.unlinking (seat_of j t at').far is
    where
      by : (o : Option Unlinking) → IfSome o (λ u. t.update.taken ≡ u.replaced ∷ u.successor ∷ []) → unlinks n s o ≡ true → t.update.taken ≡ n ∷ s ∷ []
      by None far is = absurd (never is)
      by (Some u) far is =
          let parts = and_parts (eqb u.replaced n) (eqb u.successor s) is in
          far ∙ (ap (λ y. y ∷ u.successor ∷ []) (eqb-true u.replaced n parts.0) ∙ ap (λ y. n ∷ y ∷ []) (eqb-true u.successor s parts.1))

  -- where the link is that to a successor, every other pass was passed
  all_let : unlinks_at k side v.update.unlinking ≡ true → all_passed z.passes v.number v.update.waiting.passed ≡ true
  all_let at_link = by v.update.unlinking refl
    where
      by : (o : Option Unlinking) → v.update.unlinking ≡ o → all_passed z.passes v.number v.update.waiting.passed ≡ true
      by None is = absurd (never (subst (λ (o : Option Unlinking). unlinks_at k side o ≡ true) is at_link))
      by (Some o) is = elim (either_true (not (unlinks_at k side v.update.unlinking)) (may_unlink z m v v.update.unlinking) can.unlinks)
          as (λ _. all_passed z.passes v.number v.update.waiting.passed ≡ true) [
            | inl off ↦ absurd (not_out (unlinks_at k side v.update.unlinking) off at_link)
            | inr may ↦
                (and_parts (is_marked_node m o.successor) (all_passed z.passes v.number v.update.waiting.passed)
                (subst (λ (y : Option Unlinking). may_unlink z m v y ≡ true) is may)).1
          ]

  module _ (t : View) (beside : Beside vs i t) (n : ℕ) (named : t.number ≡ Some n) (low : n < z.passes) (apart : is_number n v.number ≡ false) where
    -- so none waits for this pass then
    passed_let : unlinks_at k side v.update.unlinking ≡ true → has_let v.update.waiting t.number t.section_word ≡ true
    passed_let at_link =
        subst (λ (o : Option ℕ). has_let v.update.waiting o t.section_word ≡ true) (sym named)
        (or_left (has n v.update.waiting.passed) (list_any (is_late n t.section_word) v.update.waiting.found)
        (all_passed-has z.passes n v.number v.update.waiting.passed (all_let at_link) low apart))
      where
        or_left : (a b : Bool) → a ≡ true → (a || b) ≡ true
        or_left true b is = refl
        or_left false b is = cc

    waiting_parts : (r s : ℕ) (y : View) → waits_for t r s y ≡ true
        → (unlinks r s y.update.unlinking ≡ true) × (has_let y.update.waiting t.number t.section_word ≡ false)
    waiting_parts r s y is =
        let parts = and_parts (unlinks r s y.update.unlinking) (not (has_let y.update.waiting t.number t.section_word)) is in
        (parts.0, not_true (has_let y.update.waiting t.number t.section_word) parts.1)

    clash : (b : Bool) → b ≡ true → b ≡ false → ⊥
    clash true is away = cc
    clash false is away = cc

    -- a removal that waits for the pass still does
    waits_stay : (r s : ℕ) → waits vs t r s ≡ true → waits ws1 t r s ≡ true
    waits_stay r s some = any_moved (waits_for t r s) (waits_for t r s) vs i v (link_set v k side x) at own (λ y other is. is) some
      where
        kept : (b : Bool) → unlinks_at k side v.update.unlinking ≡ b → waits_for t r s v ≡ true
            → (unlinks r s (cond b None v.update.unlinking) && not (has_let v.update.waiting t.number t.section_word)) ≡ true
        kept true is waiting = absurd (clash (has_let v.update.waiting t.number t.section_word) (passed_let is) (waiting_parts r s v waiting).1)
        kept false is waiting = waiting

        own : waits_for t r s v ≡ true → waits_for t r s (link_set v k side x) ≡ true
        own waiting = kept (unlinks_at k side v.update.unlinking) refl waiting

    -- its successor was taken out, and is not the node that leaves the plain tree now
    waits_locked : (r s : ℕ) → waits vs t r s ≡ true → IsOut u0 s × (s ≡ old1 → ⊥)
    waits_locked r s some =
        let y : Passing (waits_for t r s) vs = any_item (waits_for t r s) vs some in
        let parts = waiting_parts r s y.item y.passes in
        let out : y.item.update.taken ≡ r ∷ s ∷ [] = waits_taken y.place r s y.item y.at parts.0 in
        let taken : 0 < count s y.item.update.taken = subst (λ (ks : List ℕ). 0 < count s ks) (sym out) (in_pair_second r s) in
        (taken_out z m vs g rule gr0 y.place s y.item y.at taken, λ e. not_old y out taken parts.1 e)
      where
        not_old : (y : Passing (waits_for t r s) vs) → y.item.update.taken ≡ r ∷ s ∷ [] → 0 < count s y.item.update.taken
            → has_let y.item.update.waiting t.number t.section_word ≡ false → s ≡ old1 → ⊥
        not_old y out taken let_none e =
            let me = was_taken z m vs g rule plain W trees i k side x v at can y.place y.item y.at (subst (λ n. 0 < count n y.item.update.taken) e taken) in
            let second : IsSecondOut v.update.taken old1
            = subst (λ (ks : List ℕ). IsSecondOut ks old1) (sym (ap (λ (q : View). q.update.taken) (sym me.1) ∙ out)) (sym e) in
            let here : unlinks_at k side v.update.unlinking ≡ true
            = subst (λ (d : Side). unlinks_at k d v.update.unlinking ≡ true) (side_is z m vs g rule plain W trees i k side x v at can)
            (subst (λ n. unlinks_at n (item z m vs g rule plain W trees i k side x v at can).side v.update.unlinking ≡ true)
            (node_is z m vs g rule plain W trees i k side x v at can) (mine.1.last second)) in
            clash (has_let v.update.waiting t.number t.section_word) (passed_let here)
            (subst (λ (q : View). has_let q.update.waiting t.number t.section_word ≡ false) me.1 let_none)

    -- so does the one whose copy is linked now
    copy_waits : (s from until : ℕ) → IsHeir u0 old1 s × (from ≡ gr0.key old1) × (gr1.child Right x ≡ gr0.child Right old1) → waits ws1 t old1 s ≡ true
    copy_waits s from until copied = by v.update.unlinking refl
      where
        taken_pair : (v.update.taken ≡ old1 ∷ s ∷ [])
        taken_pair =
            let y : Passing (λ (q : View). copies q.update.taken old1 s) vs = any_item (λ (q : View). copies q.update.taken old1 s) vs copied.0 in
            let pair = copies_is y.item.update.taken old1 s y.passes in
            let me = was_taken z m vs g rule plain W trees i k side x v at can y.place y.item y.at
            (subst (λ (ks : List ℕ). 0 < count old1 ks) (sym pair) (in_one old1 (s ∷ []))) in
            ap (λ (q : View). q.update.taken) (sym me.1) ∙ pair

        not_second : IsSecondOut v.update.taken old1 → ⊥
        not_second second = (subst AreApart taken_pair (seat_of i v at).apart) (subst (λ (ks : List ℕ). IsSecondOut ks old1) taken_pair second)

        early : (unlinks_at k side v.update.unlinking ≡ false) × (v.update.waiting ≡ no_looks)
        early =
            let told = mine.1.early not_second in (
              subst (λ (d : Side). unlinks_at k d v.update.unlinking ≡ false) (side_is z m vs g rule plain W trees i k side x v at can)
                  (subst (λ n. unlinks_at n (item z m vs g rule plain W trees i k side x v at can).side v.update.unlinking ≡ false)
                  (node_is z m vs g rule plain W trees i k side x v at can) told.0),
              told.1,
            )

        successor_out : IsOut u0 s
        successor_out = taken_out z m vs g rule gr0 i s v at (subst (λ (ks : List ℕ). 0 < count s ks) (sym taken_pair) (in_pair_second old1 s))

        -- where the successor was near the copy passes over it
        never_near : v.update.unlinking ≡ None → ⊥
        never_near none =
            let near : CopiesNear gr0 W old1 s x
            = near_of z m vs g rule plain W trees v old1 s x (item z m vs g rule plain W trees i k side x v at can) taken_pair none mine refl
            (x_is z m vs g rule plain W trees i k side x v at can) in
            let same : gr1.child Right x ≡ gr0.child Right x
            = off z m vs g rule plain W trees i k side x v at can x Right
            (λ here. copy_apart z m vs g rule plain W trees i k side x v at can old1 s x near here.0) in
            let leads : gr0.child Right x ≡ s = sym same ∙ (copied.2 ∙ near.hangs) in
            let asked_x = asked z m vs g rule plain W trees i k side x v at can in
            let x_in : 0 < occurs x g.tree
            = subst (λ n. 0 < occurs n g.tree) asked_x (child_there z m vs g rule plain W trees k side (there z m vs g rule plain W trees i k side x v at can)
            (subst (λ n. 0 < n) (sym asked_x) near.there)) in
            let now_leads = sym (new_links z m vs g rule plain W trees x x_in near.new Right) ∙ leads in
            tree_stays z m vs g rule gr0 s (subst (λ n. 0 < occurs n g.tree) now_leads
            (child_there z m vs g rule plain W trees x Right (inr x_in) (subst (λ n. 0 < n) (sym now_leads) near.some))) successor_out

        by : (o : Option Unlinking) → v.update.unlinking ≡ o → waits ws1 t old1 s ≡ true
        by None none = absurd (never_near none)
        by (Some o) some =
            let far : v.update.taken ≡ o.replaced ∷ o.successor ∷ []
            = subst (λ (q : Option Unlinking). IfSome q (λ u. v.update.taken ≡ u.replaced ∷ u.successor ∷ [])) some (seat_of i v at).far in
            let pair = sym far ∙ taken_pair in
            any_from (waits_for t old1 s) ws1 i (link_set v k side x) (item_set vs i v (link_set v k side x) at)
            (and_from (unlinks old1 s (still_unlinking k side v.update.unlinking)) (not (has_let v.update.waiting t.number t.section_word))
            (ap (λ (b : Bool). unlinks old1 s (cond b None v.update.unlinking)) early.0
            ∙ (ap (unlinks old1 s) some ∙ and_from (eqb o.replaced old1) (eqb o.successor s) (eq-eqb o.replaced old1 (first_of pair))
            (eq-eqb o.successor s (second_of_pair pair))))
            (ap (λ (l : Looks). not (has_let l t.number t.section_word)) early.1 ∙ ap not (none_let t.number t.section_word)))
          where
            first_of : {a b c d : ℕ} → a ∷ b ∷ [] ≡ c ∷ d ∷ [] → a ≡ c
            first_of e = cc

            second_of_pair : {a b c d : ℕ} → a ∷ b ∷ [] ≡ c ∷ d ∷ [] → b ≡ d
            second_of_pair e = cc

    -- what the seat claims of a node it claims after the store
    module _ (y a : ℕ) (fresh : ReachesNoNew gr0 W tree1 y a) (claims : Claims gr0 (IsBypassed u0) (IsWaiting (waits vs t)) W y a) where
      abbrev there1 : ℕ → Bool
      there1 j = not (u0.out j)

      -- who waits, and the removal of this store
      abbrev waits1 : ℕ → ℕ → ℕ → Bool
      waits1 s r q = waits ws1 t r q || (eqb r old1 && eqb q s)

      or_left : (p q : Bool) → p ≡ true → (p || q) ≡ true
      or_left true q is = refl
      or_left false q is = cc

      or_right : (p q : Bool) → q ≡ true → (p || q) ≡ true
      or_right true q is = refl
      or_right false q is = is

      to_test : (j : ℕ) → ¬ IsOut u0 j → there1 j ≡ true
      to_test j stays = out_not (u0.out j) stays

      tested : (s from until : ℕ) → IsStore (λ j. ¬ IsOut u0 j) (IsBypassed u0) old1 s from until W tree1
          → IsStore (IsTest there1) (IsBypassed u0) old1 s from until W tree1
      tested s from until (Insert re) = Insert (relinks_test (λ j. ¬ IsOut u0 j) (IsTest there1) Grows W tree1 to_test re)
      tested s from until (LiftRight re) = LiftRight (relinks_test (λ j. ¬ IsOut u0 j) (IsTest there1) (LiftsRight old1) W tree1 to_test re)
      tested s from until (LiftLeft re) = LiftLeft (relinks_test (λ j. ¬ IsOut u0 j) (IsTest there1) (LiftsLeft old1) W tree1 to_test re)
      tested s from until (Replace firm re) = Replace firm (relinks_test (λ j. ¬ IsOut u0 j) (IsTest there1) (Replaces old1) W tree1 to_test re)
      tested s from until (Copy firm re) =
          Copy firm (relinks_test (λ j. ¬ IsOut u0 j) (IsTest there1) (Copies (IsBypassed u0) old1 s from until) W tree1 to_test re)
      tested s from until (Join firm gone re) = Join firm gone (relinks_test (λ j. ¬ IsOut u0 j) (IsTest there1) (Joins old1 s) W tree1 to_test re)

      abbrev may1 : MaySet gr0 (now z m vs g rule plain W trees) u0 u1 W g.tree k side old1 x
      may1 = may z m vs g rule plain W trees i k side x v at can

      links_same : (j : ℕ) → 0 < j → occurs j tree1 ≡ 0 → (d : Side) → gr1.child d j ≡ gr0.child d j
      links_same j pos gone d = off z m vs g rule plain W trees i k side x v at can j d (λ here. elim may1.link as (λ _. ⊥) [
        | inl root ↦ omega (arith, pos, here.0, root.0)
        | inr is ↦ omega (arith, gone, subst (λ n. 0 < occurs n tree1) (sym here.0) (done.keeps k may1.there is))
      ])

      stores : (s from until : ℕ) → IsStore (λ j. ¬ IsOut u0 j) (IsBypassed u0) old1 s from until W tree1 → from ≡ gr0.key old1
          → Stores gr0 gr1 there1 u0 u1 (waits vs t) (waits1 s) W tree1 old1 s from until
      stores s from until st key = record {
        spelled = trees.spelled;
        some = λ j here. spelled-some gr1 j (gr1.child Right 0) tree1 done.spelled here;
        keys = λ j. refl;
        links = links_same;
        store = tested s from until st;
        gone = done.gone;
        removed = key;
        firm = λ j is by. not_out (u0.out j) is ((orderly z m vs g rule gr0).passes j by);
        passes = λ j here is. may1.passes j is;
        locked = λ r q waiting. let told = waits_locked r q waiting in (λ is. not_out (u0.out q) is told.0, told.1);
        stays = λ r q waiting. or_left (waits ws1 t r q) (eqb r old1 && eqb q s) (waits_stay r q waiting);
        begins = or_right (waits ws1 t old1 s) (eqb old1 old1 && eqb s s) (and_from (eqb old1 old1) (eqb s s) (eq-eqb old1 old1 refl) (eq-eqb s s refl));
      }

      real : (s : ℕ) → (waits ws1 t old1 s ≡ true) ⊎ (occurs s tree1 ≡ 0) → (c : ℕ) (e : IsExcepted gr1 (IsBypassed u1) (IsWaiting (waits1 s)) tree1 y c)
          → waits ws1 t e.removed e.successor ≡ true
      real s told c e = elim (either_true (waits ws1 t e.removed e.successor) (eqb e.removed old1 && eqb e.successor s) e.waiting)
          as (λ _. waits ws1 t e.removed e.successor ≡ true) [
            | inl is ↦ is
            | inr both ↦
                let parts = and_parts (eqb e.removed old1) (eqb e.successor s) both in
                let same = eqb-true e.successor s parts.1 in
                elim told as (λ _. waits ws1 t e.removed e.successor ≡ true) [
                  | inl is ↦
                      subst (λ n. waits ws1 t n e.successor ≡ true) (sym (eqb-true e.removed old1 parts.0))
                      (subst (λ n. waits ws1 t old1 n ≡ true) (sym same) is)
                  | inr gone ↦ absurd (omega (arith, gone, subst (λ n. 0 < occurs n tree1) same (from-there (IsBypassed u1) y e.successor c tree1 e.leads)))
                ]
          ]

      -- the removal of this store waits for the seat, or its successor is gone
      narrowed : (s : ℕ) → (waits ws1 t old1 s ≡ true) ⊎ (occurs s tree1 ≡ 0) → Claims gr1 (IsBypassed u1) (IsWaiting (waits1 s)) tree1 y a
          → Claims gr1 (IsBypassed u1) (IsWaiting (waits ws1 t)) tree1 y a
      narrowed s told wide nodes c way here = elim (wide nodes c way here)
          as (λ _. Meets y c tree1 ⊎ IsExcepted gr1 (IsBypassed u1) (IsWaiting (waits ws1 t)) tree1 y c) [
            | inl met ↦ inl met
            | inr e ↦ inr (record { removed = e.removed; successor = e.successor; waiting = real s told c e; above = e.above; leads = e.leads })
          ]

      from_store : (s from until : ℕ) → IsStore (λ j. ¬ IsOut u0 j) (IsBypassed u0) old1 s from until W tree1 → from ≡ gr0.key old1
          → (waits ws1 t old1 s ≡ true) ⊎ (occurs s tree1 ≡ 0)
          → Claims gr1 (IsBypassed u1) (IsWaiting (waits ws1 t)) tree1 y a
      from_store s from until st key told =
          narrowed s told (store gr0 gr1 there1 u0 u1 (waits vs t) (waits1 s) W tree1 old1 s from until y a (stores s from until st key) fresh claims)

      by_form : (s from until : ℕ) (st : IsStore (λ j. ¬ IsOut u0 j) (IsBypassed u0) old1 s from until W tree1)
          → (IsCopy st → IsHeir u0 old1 s × (from ≡ gr0.key old1) × (gr1.child Right x ≡ gr0.child Right old1))
          → Claims gr1 (IsBypassed u1) (IsWaiting (waits ws1 t)) tree1 y a
      by_form s from until (Insert re) copied = from_store old1 (gr0.key old1) until (Insert re) refl (inr done.gone)
      by_form s from until (LiftRight re) copied = from_store old1 (gr0.key old1) until (LiftRight re) refl (inr done.gone)
      by_form s from until (LiftLeft re) copied = from_store old1 (gr0.key old1) until (LiftLeft re) refl (inr done.gone)
      by_form s from until (Replace firm re) copied = from_store old1 (gr0.key old1) until (Replace firm re) refl (inr done.gone)
      by_form s from until (Copy firm re) copied = from_store s from until (Copy firm re) (copied tt).1 (inl (copy_waits s from until (copied tt)))
      by_form s from until (Join firm gone re) copied = from_store s (gr0.key old1) until (Join firm gone re) refl (inr gone)

      pub claims_set : Claims gr1 (IsBypassed u1) (IsWaiting (waits ws1 t)) tree1 y a
      claims_set = by_form done.successor done.from done.until done.store done.copied
