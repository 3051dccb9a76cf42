-- A set link that is allowed: what the law on stores of plain links asks is so, by the rule.
use Rattle.std.proofs.Common.{◌≡◌, ℕ, ◌<◌, ◌⊎◌, List, [], ◌∷◌, Bool, true, false, not, eqb, ◌&&◌, set, arith, refl, ap, ◌∙◌, sym, subst, inl, inr, Some, None}
use Rattle.std.specs.List.{list_any}
use Rattle.std.proofs.lemmas.Bool.{and_parts, and_from, eqb-true, cases_lt, or_left, or_right}
use Rattle.index_words.specs.declared.layout.Layout.{Layout}
use Rattle.index_words.specs.declared.side.Side.{Side}
use Rattle.index_words.specs.declared.side.Side.TheVariants.{Left, Right}
use Rattle.index_words.specs.declared.view.View.{View}
use Rattle.index_words.specs.declared.view.update.UnsetLink.{UnsetLink}
use Rattle.index_words.specs.declared.word.Field.TheVariants.{Link}
use Rattle.index_words.specs.declared.word.Word.TheVariants.{Node}
use Rattle.index_words.specs.Words.{Memory, written}
use Rattle.key_map.specs.Lists.{count, has, IsItem}
use Rattle.index_words.proofs.Seats.{Beside, at_item}
use Rattle.core_grace.specs.Holds.{held_slots}
use Rattle.core_trees.specs.LinkSteps.{IsLink, IsLinkIn}
use Rattle.core_trees.specs.NamedTree.{NamedTree}
use Rattle.core_trees.specs.Slots.{occurs}
use Rattle.core_trees.specs.SpelledTree.{Graph}
use Rattle.core_events.specs.PlainMoves.{link_set, other_links, still_unlinking}
use Rattle.core_events.specs.PlainNeeds.{is_link_of, sets_others, unlinks_at}
use Rattle.core_events.proofs.Tests.{never, either_true, not_true}
use Rattle.core_invariant.specs.Locks.{lock_count}
use Rattle.core_invariant.specs.Meanings.{Meaning}
use Rattle.core_invariant.specs.PlainRule.{PlainRight}
use Rattle.core_invariant.specs.PlainTree.{is_item, is_copied, passes_over, sets_link, bypasses, copies, undone, IsFirstOut, IsSecondOut, BringsChild, CopiesNear, AreApart, SeatInTree, IsPlainTree}
use Rattle.core_invariant.specs.Reached.{plain_graph}
use Rattle.core_invariant.specs.Rule.{Rule}
use Rattle.core_invariant.proofs.Frames.{same_item, every_map}
use Rattle.core_invariant.proofs.Locked.{same_locker}
use Rattle.core_invariant.proofs.Passing.{Passing as Found, passing}
use Rattle.core_invariant.proofs.PlainSteps.{link_parts, link_named}
use Rattle.core_invariant.proofs.WaitNeeds.{CanSet}
use Rattle.core_invariant.proofs.Undone.{Passing, any_item, any_moved, bypasses_is, copies_is, passes_is, item_is, copied_is, one_taker, taken_out, tree_stays, root_stays, in_one, in_pair_second}
use Rattle.core_kept.proofs.PlainSets.{SameLink, equal, other, same_link, child_is, link_other, link_here}
use Rattle.plain_trees.specs.Matching.{Undone, IsUnset, IsOut, IsBypassed, IsHeir}
use Rattle.plain_trees.specs.Settling.{IsNew, PassesOver, Sets, MaySet}
use Rattle.core_kept.proofs.LinkItems.{any_weaker, any_kept, passes_from, ItemOf, items_of, SetBy, by_item, by_copy, set_by, near_of, locked_in, new_links, child_there, same_child}

-- the second node that an update took out, 0 where there is none
abbrev pub second_of : List ℕ → ℕ
second_of (n ∷ s ∷ []) = s
second_of taken = 0

module _ (z : Layout) (m : Memory) (vs : List View) (g : Meaning) (rule : Rule z m vs g) (plain : PlainRight m vs g) (W : NamedTree)
    (trees : IsPlainTree (plain_graph m) vs g.tree W) where
  abbrev gr : Graph
  gr = plain_graph m

  abbrev now : Graph
  now = Rattle.core_kept.proofs.LinkItems.now z m vs g rule plain W trees

  abbrev u : Undone
  u = undone gr vs

  module _ (i k : ℕ) (side : Side) (x : ℕ) (v : View) (at : IsItem vs i v) (can : CanSet z m v k side x) where
    abbrev gr' : Graph
    gr' = plain_graph (written m (Node (Link side) k) x)

    abbrev w : View
    w = link_set v k side x

    abbrev ws : List View
    ws = set vs i w

    abbrev u' : Undone
    u' = undone gr' ws

    abbrev mine : Found (λ (y : UnsetLink). is_link_of k side y && eqb y.child x) (ItemOf z m vs g rule plain W trees v)
    mine =
        passing (λ (y : UnsetLink). is_link_of k side y && eqb y.child x) (ItemOf z m vs g rule plain W trees v) v.update.unset
        (items_of z m vs g rule plain W trees i v at) can.sets

    abbrev pub item : UnsetLink
    item = mine.item

    pub of : ItemOf z m vs g rule plain W trees v item
    of = mine.right

    pub node_is : item.node ≡ k
    node_is = (link_parts k side item (and_parts (is_link_of k side item) (eqb item.child x) mine.passes).0).0

    pub side_is : item.side ≡ side
    side_is = (link_parts k side item (and_parts (is_link_of k side item) (eqb item.child x) mine.passes).0).1

    pub x_is : item.child ≡ x
    x_is = eqb-true item.child x (and_parts (is_link_of k side item) (eqb item.child x) mine.passes).1

    abbrev pub was : ℕ
    was = item.was

    pub there : IsLinkIn 0 Right g.tree k side
    there = link_named g.tree item.node k item.side side node_is side_is of.0.there

    pub asked : now.child side k ≡ x
    asked = sym (child_is z m vs g rule i k side x v at can.locked plain can.sets)

    pub before_at : (y : UnsetLink) (n : ℕ) (s : Side) → y.node ≡ n → y.side ≡ s → gr.child y.side y.node ≡ y.was → gr.child s n ≡ y.was
    before_at y n s en es is = subst (λ t. gr.child t n ≡ y.was) es (subst (λ j. gr.child y.side j ≡ y.was) en is)

    pub before : gr.child side k ≡ was
    before = before_at item k side node_is side_is of.0.before

    pub off : (j : ℕ) (t : Side) → ¬ IsLink k side j t → gr'.child t j ≡ gr.child t j
    off j t ne = by (same_link j k t side)
      where
        by : SameLink j k t side → gr'.child t j ≡ gr.child t j
        by (equal nodes sides) = absurd (ne (nodes, sides))
        by (other apart differ) = link_other z m vs g rule i k side x v at can.locked plain can.sets j t apart

    pub sets : Sets gr gr' now k side was x
    sets = record {
      keys = λ j. refl;
      vals = λ j. refl;
      now_keys = λ j. refl;
      now_vals = λ j. refl;
      before = before;
      after = link_here z m vs g rule i k side x v at can.locked plain can.sets;
      asked = asked;
      others = off;
    }

    -- the link's node is the root, or in the plain tree
    pub link_in : IsLinkIn 0 Right W k side
    link_in = elim there as (λ _. IsLinkIn 0 Right W k side) [
      | inl root ↦ inl root
      | inr here ↦ inr (locked_in z m vs g rule plain W trees i v at k can.locked here)
    ]

    pub stays_there : ¬ IsOut u k
    stays_there out = elim there as (λ _. ⊥) [
      | inl root ↦ root_stays z m vs g rule gr (subst (IsOut u) root.0 out)
      | inr here ↦ tree_stays z m vs g rule gr k here out
    ]

    -- a copy that is not linked yet is not the link's node
    pub copy_apart : (n s c : ℕ) → CopiesNear gr W n s c → c ≡ k → ⊥
    copy_apart n s c near is = elim link_in as (λ _. ⊥) [
      | inl root ↦ omega (arith, near.there, is, root.0)
      | inr here ↦ omega (arith, near.new, subst (λ y. 0 < occurs y W) (sym is) here)
    ]

    only : (was' child' : ℕ) → IsUnset u k side was' child' → was' ≡ was
    only was' child' is = by (set_by z m vs g rule plain W trees k side was' child' is)
      where
        by : SetBy z m vs g rule plain W trees k side was' child' → was' ≡ was
        by (by_item j t at' a) = sym a.is.old ∙ sym (before_at a.item k side a.is.node a.is.at a.right.0.before) ∙ before
        by (by_copy j t at' p f) =
            let c = copied_is p.removed k f.item f.passes in
            absurd (copy_apart p.removed p.successor k (near_of z m vs g rule plain W trees t p.removed p.successor k f.item p.out p.near f.right c.0 c.1) refl)

    -- the taker of what the link held is this view
    pub was_taker : 0 < was → (j : ℕ) (t : View) → IsItem vs j t → 0 < count was t.update.taken → j ≡ i
    was_taker some j t at' taken = elim of.1.goes as (λ _. j ≡ i) [
      | inl none ↦ absurd (omega (arith, some, none))
      | inr own ↦ one_taker z m vs g rule gr i j was v t at at' own taken
    ]

    pub no_zero : (j : ℕ) (t : View) → IsItem vs j t → 0 < count 0 t.update.taken → ⊥
    no_zero j t at' some = root_stays z m vs g rule gr (taken_out z m vs g rule gr j 0 t at' some)

    pub was_taken : (j : ℕ) (t : View) → IsItem vs j t → 0 < count was t.update.taken → (0 < was) × (t ≡ v)
    was_taken j t at' taken =
        let some : 0 < was
        = elim (cases_lt 0 was) as (λ _. 0 < was) [
          | inl more ↦ more
          | inr none ↦ absurd (no_zero j t at' (subst (λ y. 0 < count y t.update.taken) (omega (arith, none)) taken))
        ] in
        (some, sym (same_item vs i j v t at at' (was_taker some j t at' taken)))

    first_apart : (n s a : ℕ) (taken : List ℕ) → taken ≡ n ∷ s ∷ [] → AreApart taken → IsFirstOut taken a → a ≡ s → ⊥
    first_apart n s a taken is apart first e =
        (subst AreApart is apart) (sym (subst (λ (ks : List ℕ). IsFirstOut ks a) is first) ∙ e)

    pub apart_v : AreApart v.update.taken
    apart_v = (at_item (SeatInTree gr W g.tree) vs i v at trees.seats).apart

    passed : IsBypassed u was → occurs x W ≡ 0 → x ≡ 0
    passed by fresh =
        let t : Passing (λ (y : View). bypasses y.update.taken y.update.added was) vs
        = any_item (λ (y : View). bypasses y.update.taken y.update.added was) vs by in
        elim of.1.leads as (λ _. x ≡ 0) [
          | inr has ↦
              elim has.there as (λ _. x ≡ 0) [ inl none ↦ sym x_is ∙ none | inr here ↦ absurd (omega (arith, fresh, subst (λ y. 0 < occurs y W) x_is here)) ]
          | inl brings ↦ absurd (no_copy t brings (bypasses_is t.item.update.taken t.item.update.added was t.passes))
        ]
      where
        no_copy : (t : Passing (λ (y : View). bypasses y.update.taken y.update.added was) vs) → BringsChild W v.update.taken v.update.added item.was item.child
            → ((t.item.update.taken ≡ was ∷ []) × (t.item.update.added ≡ None)) ⊎ ((n : ℕ) × (t.item.update.taken ≡ n ∷ was ∷ [])) → ⊥
        no_copy t brings (inl alone) =
            let me = was_taken t.place t.item t.at (subst (λ (ks : List ℕ). 0 < count was ks) (sym alone.0) (in_one was [])) in
            never_some (sym brings.brought ∙ ap (λ (y : View). y.update.added) (sym me.1) ∙ alone.1)
          where
            never_some : {c : ℕ} → Some c ≡ None → ⊥
            never_some e = cc
        no_copy t brings (inr second) =
            let me = was_taken t.place t.item t.at (subst (λ (ks : List ℕ). 0 < count was ks) (sym second.1) (in_pair_second second.0 was)) in
            first_apart second.0 was was v.update.taken (ap (λ (y : View). y.update.taken) (sym me.1) ∙ second.1) apart_v brings.first refl

    same_out : (test : View → Bool) → test w ≡ test v → list_any test vs ≡ true → list_any test ws ≡ true
    same_out test same some = any_moved test test vs i v w at (λ is. same ∙ is) (λ t beside is. is) some

    -- an item that is not the link's is kept
    kept : (test : UnsetLink → Bool) → list_any test v.update.unset ≡ true
        → ((y : UnsetLink) → ItemOf z m vs g rule plain W trees v y → test y ≡ true → is_link_of k side y ≡ false)
        → list_any test (other_links k side v.update.unset) ≡ true
    kept test some apart =
        any_kept test (λ (y : UnsetLink). not (is_link_of k side y)) v.update.unset
        (every_map (ItemOf z m vs g rule plain W trees v) (λ y. test y ≡ true → not (is_link_of k side y) ≡ true) v.update.unset
        (λ y is passes. ap not (apart y is passes)) (items_of z m vs g rule plain W trees i v at)) some

    -- an item at another link
    pub not_link : (y : UnsetLink) → ¬ IsLink k side y.node y.side → is_link_of k side y ≡ false
    not_link y ne = by (is_link_of k side y) refl
      where
        by : (b : Bool) → is_link_of k side y ≡ b → is_link_of k side y ≡ false
        by true is = let parts = link_parts k side y is in absurd (ne (parts.0, parts.1))
        by false is = is

    -- the item of a copy that is not the child of this link is another one
    copy_other : (n c : ℕ) (y : UnsetLink) → ItemOf z m vs g rule plain W trees v y → is_copied n c y ≡ true → ¬ (c ≡ x) → is_link_of k side y ≡ false
    copy_other n c y is passes ne =
        not_link y (λ here. ne (sym (copied_is n c y passes).1
        ∙ (sym is.0.asked ∙ (ap (λ t. now.child t y.node) here.1 ∙ (ap (now.child side) here.0 ∙ asked)))))

    rest : (parent : ℕ) (top : Side) (was' child' : ℕ) → ¬ IsLink k side parent top → ¬ ((parent ≡ x) × IsNew x W) → IsUnset u parent top was' child'
        → IsUnset u' parent top was' child'
    rest parent top was' child' ne fresh is =
        any_moved (sets_link (gr.child Right) parent top was' child') (sets_link (gr'.child Right) parent top was' child') vs i v w at own others is
      where
        same_right : top ≡ Right → gr'.child Right parent ≡ gr.child Right parent
        same_right e = off parent Right (λ here. ne (here.0, e ∙ here.1))

        over : (t : View) → passes_over t.update.taken t.update.unlinking t.update.unset (gr.child Right) parent top was' child' ≡ true
            → (us : List UnsetLink) → ((n : ℕ) → list_any (is_copied n parent) t.update.unset ≡ true → list_any (is_copied n parent) us ≡ true)
            → passes_over t.update.taken t.update.unlinking us (gr'.child Right) parent top was' child' ≡ true
        over t is us keeps =
            let p = passes_is t.update.taken t.update.unlinking t.update.unset (gr.child Right) parent top was' child' is in
            passes_from t.update.taken t.update.unlinking us (gr'.child Right) parent top was' child' p.removed p.successor p.out p.near p.place p.only
            (p.leads ∙ sym (same_right p.place)) (keeps p.removed p.copied)

        others : (t : View) → Beside vs i t → sets_link (gr.child Right) parent top was' child' t ≡ true
            → sets_link (gr'.child Right) parent top was' child' t ≡ true
        others t beside is =
            elim (either_true (list_any (is_item parent top was' child') t.update.unset)
            (passes_over t.update.taken t.update.unlinking t.update.unset (gr.child Right) parent top was' child') is)
            as (λ _. sets_link (gr'.child Right) parent top was' child' t ≡ true) [
              | inl real ↦
                  or_left (list_any (is_item parent top was' child') t.update.unset)
                  (passes_over t.update.taken t.update.unlinking t.update.unset (gr'.child Right) parent top was' child') real
              | inr copy ↦
                  or_right (list_any (is_item parent top was' child') t.update.unset)
                  (passes_over t.update.taken t.update.unlinking t.update.unset (gr'.child Right) parent top was' child')
                  (over t copy t.update.unset (λ n some. some))
            ]

        apart : (y : UnsetLink) → ItemOf z m vs g rule plain W trees v y → is_item parent top was' child' y ≡ true → is_link_of k side y ≡ false
        apart y is passes = let a = item_is parent top was' child' y passes in not_link y (λ here. ne (sym a.node ∙ here.0, sym a.at ∙ here.1))

        own : sets_link (gr.child Right) parent top was' child' v ≡ true → sets_link (gr'.child Right) parent top was' child' w ≡ true
        own is =
            elim (either_true (list_any (is_item parent top was' child') v.update.unset)
            (passes_over v.update.taken v.update.unlinking v.update.unset (gr.child Right) parent top was' child') is)
            as (λ _. sets_link (gr'.child Right) parent top was' child' w ≡ true) [
              | inl real ↦
                  or_left (list_any (is_item parent top was' child') w.update.unset)
                  (passes_over w.update.taken w.update.unlinking w.update.unset (gr'.child Right) parent top was' child')
                  (kept (is_item parent top was' child') real apart)
              | inr copy ↦
                  or_right (list_any (is_item parent top was' child') w.update.unset)
                  (passes_over w.update.taken w.update.unlinking w.update.unset (gr'.child Right) parent top was' child') (near_kept copy)
            ]
          where
            near_kept : passes_over v.update.taken v.update.unlinking v.update.unset (gr.child Right) parent top was' child' ≡ true
                → passes_over v.update.taken (still_unlinking k side v.update.unlinking) (other_links k side v.update.unset)
                (gr'.child Right) parent top was' child' ≡ true
            near_kept copy =
                let p = passes_is v.update.taken v.update.unlinking v.update.unset (gr.child Right) parent top was' child' copy in
                let f : Found (is_copied p.removed parent) (ItemOf z m vs g rule plain W trees v)
                = passing (is_copied p.removed parent) (ItemOf z m vs g rule plain W trees v) v.update.unset
                (items_of z m vs g rule plain W trees i v at) p.copied in
                let c = copied_is p.removed parent f.item f.passes in
                let near = near_of z m vs g rule plain W trees v p.removed p.successor parent f.item p.out p.near f.right c.0 c.1 in
                passes_from v.update.taken (still_unlinking k side v.update.unlinking) (other_links k side v.update.unset) (gr'.child Right) parent top was'
                child' p.removed p.successor p.out
                (ap (still_unlinking k side) p.near) p.place p.only (p.leads ∙ sym (same_right p.place))
                (kept (is_copied p.removed parent) p.copied (λ y is passes.
                copy_other p.removed parent y is passes (λ e. fresh (e, (subst (λ n. 0 < n) e near.there, subst (λ n. occurs n W ≡ 0) e near.new)))))

    calm : IsNew x W → (top : Side) (was' child' : ℕ) → IsUnset u x top was' child' → PassesOver gr W was x (second_of v.update.taken) top was' child'
    calm new top was' child' is = by (set_by z m vs g rule plain W trees x top was' child' is)
      where
        x_there : 0 < occurs x g.tree
        x_there = subst (λ n. 0 < occurs n g.tree) asked (child_there z m vs g rule plain W trees k side there (subst (λ n. 0 < n) (sym asked) new.0))

        same_view : (j : ℕ) (t : View) → IsItem vs j t → 0 < lock_count k t → t ≡ v
        same_view j t at' locked = sym (same_locker z m vs g rule i j k v t at at' can.locked locked)

        by : SetBy z m vs g rule plain W trees x top was' child' → PassesOver gr W was x (second_of v.update.taken) top was' child'
        by (by_item j t at' a) =
            absurd (omega (
              arith,
              new.1,
              locked_in z m vs g rule plain W trees j t at' x
                  (subst (λ n. 0 < count n (held_slots t.held.nodes)) a.is.node a.right.0.held) x_there,
            ))
        by (by_copy j t at' p f) =
            let c = copied_is p.removed x f.item f.passes in
            let here = same_child z m vs g rule plain W trees k f.item.node side f.item.side x there f.right.0.there asked (f.right.0.asked ∙ c.1) new.0 in
            let mine : t ≡ v = same_view j t at' (subst (λ n. 0 < count n (held_slots t.held.nodes)) (sym here.0) f.right.0.held) in
            let is_was : was ≡ p.removed = sym before ∙ (before_at f.item k side (sym here.0) (sym here.1) f.right.0.before ∙ c.0) in
            let near = near_of z m vs g rule plain W trees t p.removed p.successor x f.item p.out p.near f.right c.0 c.1 in
            let second : second_of v.update.taken ≡ p.successor = ap (λ (y : View). second_of y.update.taken) (sym mine) ∙ ap second_of p.out in
            record {
              place = p.place;
              some = subst (λ n. 0 < n) (sym second) near.some;
              only = p.only ∙ sym second;
              key = ap gr.key second ∙ near.key;
              rises = subst (λ n. gr.key n < gr.key x) (sym is_was) near.rises;
              bare = subst (λ n. gr.child Left n ≡ 0) (sym second) near.bare;
              behind = λ some. elim near.behind as (λ _. 0 < occurs child' W) [
                | inl none ↦ absurd (omega (arith, some, p.leads, none))
                | inr here ↦ subst (λ n. 0 < occurs n W) (sym p.leads) here
              ];
            }

    copied : (removed successor parent : ℕ) (top : Side) (child' : ℕ) → IsHeir u removed successor → IsUnset u parent top removed child' → ¬ (successor ≡ was)
    copied removed successor parent top child' heir is e =
        let t : Passing (λ (y : View). copies y.update.taken removed successor) vs = any_item (λ (y : View). copies y.update.taken removed successor) vs heir in
        let pair : t.item.update.taken ≡ removed ∷ successor ∷ [] = copies_is t.item.update.taken removed successor t.passes in
        let me = was_taken t.place t.item t.at (subst (λ (ks : List ℕ). 0 < count was ks) (sym pair)
        (subst (λ n. 0 < count n (removed ∷ successor ∷ [])) e (in_pair_second removed successor))) in
        by (ap (λ (y : View). y.update.taken) (sym me.1) ∙ pair) (set_by z m vs g rule plain W trees parent top removed child' is)
      where
        differ : v.update.taken ≡ removed ∷ successor ∷ [] → removed ≡ was → ⊥
        differ pair is = (subst AreApart pair apart_v) (is ∙ sym e)

        removed_taken : v.update.taken ≡ removed ∷ successor ∷ [] → 0 < count removed v.update.taken
        removed_taken pair = subst (λ (ks : List ℕ). 0 < count removed ks) (sym pair) (in_one removed (successor ∷ []))

        taker_is : v.update.taken ≡ removed ∷ successor ∷ [] → (j : ℕ) (t : View) → IsItem vs j t → 0 < count removed t.update.taken → t ≡ v
        taker_is pair j t at' also = sym (same_item vs i j v t at at' (one_taker z m vs g rule gr i j removed v t at at' (removed_taken pair) also))

        -- an item that leads from the removed node is at another link
        at_other : v.update.taken ≡ removed ∷ successor ∷ [] → (y : UnsetLink) → ItemOf z m vs g rule plain W trees v y → y.was ≡ removed
            → is_link_of k side y ≡ false
        at_other pair y is old = not_link y (λ here. differ pair (sym old ∙ (sym (before_at y k side here.0 here.1 is.0.before) ∙ before)))

        -- so this view has to set another link, and may not unlink the successor yet
        unordered : v.update.taken ≡ removed ∷ successor ∷ [] → list_any (is_item parent top removed child') v.update.unset ≡ true → ⊥
        unordered pair some =
            let others : sets_others k side v.update.unset ≡ true
            = any_weaker (is_item parent top removed child') (λ (y : UnsetLink). not (is_link_of k side y)) v.update.unset
            (every_map (ItemOf z m vs g rule plain W trees v)
            (λ y. is_item parent top removed child' y ≡ true → not (is_link_of k side y) ≡ true) v.update.unset
            (λ y is passes. ap not (at_other pair y is (item_is parent top removed child' y passes).old))
            (items_of z m vs g rule plain W trees i v at)) some in
            let last : unlinks_at k side v.update.unlinking ≡ true
            = subst (λ (t : Side). unlinks_at k t v.update.unlinking ≡ true) side_is (subst (λ n. unlinks_at n item.side v.update.unlinking ≡ true) node_is
            (of.1.last (subst (λ (ks : List ℕ). IsSecondOut ks was) (sym pair) (sym e)))) in
            never (sym (not_true _ can.order) ∙ and_from (unlinks_at k side v.update.unlinking) (sets_others k side v.update.unset) last others)

        by : v.update.taken ≡ removed ∷ successor ∷ [] → SetBy z m vs g rule plain W trees parent top removed child' → ⊥
        by pair (by_item j t at' a) =
            let mine : t ≡ v = taker_is pair j t at' (elim a.right.1.goes as (λ _. 0 < count removed t.update.taken) [
              | inl none ↦ absurd (no_zero i v at (subst (λ n. 0 < count n v.update.taken) (sym a.is.old ∙ none) (removed_taken pair)))
              | inr taken ↦ subst (λ n. 0 < count n t.update.taken) a.is.old taken
            ]) in
            unordered pair (subst (λ (y : View). list_any (is_item parent top removed child') y.update.unset ≡ true) mine a.some)
        by pair (by_copy j t at' p f) =
            let second : 0 < count removed t.update.taken
            = subst (λ (ks : List ℕ). 0 < count removed ks) (sym p.out)
            (subst (λ n. 0 < count n (p.removed ∷ p.successor ∷ [])) (sym p.only) (in_pair_second p.removed p.successor)) in
            let mine : t ≡ v = taker_is pair j t at' second in
            let is : p.successor ≡ successor = ap second_of (sym p.out ∙ (ap (λ (y : View). y.update.taken) mine ∙ pair)) in
            (subst AreApart pair apart_v) (p.only ∙ is)

    pub may : MaySet gr now u u' W g.tree k side was x
    may = record {
      link = link_in;
      there = stays_there;
      only = only;
      rest = rest;
      outs = λ j. same_out (λ (y : View). has j y.update.taken) refl;
      passes = λ j. same_out (λ (y : View). bypasses y.update.taken y.update.added j) refl;
      heirs = λ n s. same_out (λ (y : View). copies y.update.taken n s) refl;
      new = λ j here fresh top. new_links z m vs g rule plain W trees j here fresh top;
      near = second_of v.update.taken;
      calm = calm;
      stays = λ j here. tree_stays z m vs g rule gr j here;
      passed = passed;
      copied = copied;
    }

    pub moves : ¬ (was ≡ x)
    moves e = of.1.moves (e ∙ sym x_is)
