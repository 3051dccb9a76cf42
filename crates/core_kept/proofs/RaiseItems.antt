-- A raise: what is known of the links that its update has then still to set, in each case of the update.
use Rattle.std.proofs.Common.{◌≡◌, ℕ, ◌<◌, ◌≤◌, ◌⊎◌, List, [], ◌∷◌, Bool, true, false, eqb, arith, refl, ap, ◌∙◌, sym, subst, inl, inr, Option, Some, None}
use Rattle.std.proofs.lemmas.Bool.{and_from, and_parts, cases_lt, eq-eqb, eqb-true}
use Rattle.std.proofs.lemmas.Bool.Decides.{eqb_tells}
use Rattle.index_words.specs.declared.layout.Layout.{Layout}
use Rattle.index_words.specs.declared.side.Side.{Side}
use Rattle.index_words.specs.declared.side.Side.TheVariants.{Left, Right}
use Rattle.index_words.specs.declared.view.View.{View}
use Rattle.index_words.specs.declared.view.update.Unlinking.{Unlinking}
use Rattle.index_words.specs.Views.{no_looks}
use Rattle.index_words.specs.Words.{Memory, same_side}
use Rattle.key_map.specs.Lists.{count, IsItem}
use Rattle.index_words.proofs.Seats.{one_term}
use Rattle.core_grace.specs.Slots.{own, own_free, nodes_of}
use Rattle.core_trees.specs.NamedTree.{NamedTree}
use Rattle.core_trees.specs.Slots.{occurs}
use Rattle.core_trees.specs.SpelledTree.{Graph}
use Rattle.core_events.specs.PlainNeeds.{unlinks_at}
use Rattle.core_events.specs.PlainWork.{unset_at}
use Rattle.core_invariant.specs.Locks.{lock_count}
use Rattle.core_invariant.specs.Meanings.{Meaning}
use Rattle.core_invariant.specs.PlainRule.{PlainRight}
use Rattle.core_invariant.specs.PlainTree.{NearRight, ItemRight, IsPlainTree}
use Rattle.core_invariant.specs.Reached.{plain_graph}
use Rattle.core_invariant.specs.Rule.{Rule}
use Rattle.core_invariant.proofs.Sides.{same_side-refl, same_side-true}
use Rattle.core_kept.proofs.LinkItems.{now, locked_in}
use Rattle.core_kept.proofs.PlainNodes.{plain_clear}
use Rattle.core_kept.proofs.RaisePuts.{plain_link}
use Rattle.core_invariant.proofs.Undone.{in_one, in_pair_second}
use Rattle.plain_trees.proofs.Matched.{led-in}

module _ (z : Layout) (m : Memory) (vs : List View) (g : Meaning) (rule : Rule z m vs g) (plain : PlainRight m vs g) (W : NamedTree)
    (trees : IsPlainTree (plain_graph m) vs g.tree W) (i : ℕ) (v : View) (at : IsItem vs i v) (quiet : v.update.raised ≡ None)
    (none : v.update.waiting ≡ no_looks) where
  abbrev gr : Graph
  gr = plain_graph m

  -- a free slot is above 0, and no node of the plain tree
  pub free_some : (slot : ℕ) → 0 < count slot v.free.nodes → 0 < slot
  free_some slot free = elim (eqb_tells slot 0) as (λ _. 0 < slot) [
    | inl root ↦ absurd (omega (arith, rule.slots.nodes.one 0, one_term (own nodes_of 0) vs i v at, subst (λ n. 0 < count n v.free.nodes) root.1 free))
    | inr other ↦ positive slot other.1
  ]
    where
      positive : (n : ℕ) → (n ≡ 0 → ⊥) → 0 < n
      positive n some = elim (cases_lt 0 n) as (λ _. 0 < n) [ inl more ↦ more | inr zero ↦ absurd (some (omega (arith, zero))) ]

  pub free_new : (slot : ℕ) → 0 < count slot v.free.nodes → occurs slot W ≡ 0
  free_new slot free = elim (cases_lt 0 (occurs slot W)) as (λ _. occurs slot W ≡ 0) [
    | inr none ↦ omega (arith, none)
    | inl some ↦ absurd (omega (arith, free, (plain_clear z m vs g rule gr W trees slot some).free, one_term (own_free nodes_of slot) vs i v at))
  ]

  -- a put of an absent key
  pub insert_item : (k slot : ℕ) (side : Side) → 0 < count slot v.free.nodes → gr.child side k ≡ 0
      → ItemRight gr W [] (Some slot) None v.update.waiting (unset_at m k side slot)
  insert_item k slot side free null = record {
    goes = inl null;
    moves = λ same. omega (arith, null, same, free_some slot free);
    leads = inl (record { brought = refl; some = free_some slot free; new = free_new slot free; first = null });
    near = tt;
    last = λ second. absurd second;
    early = λ first. (refl, none);
  }

  -- a put of a present key, whose node hangs at the link
  pub replace_item : (k slot n : ℕ) (side : Side) → 0 < count slot v.free.nodes → gr.child side k ≡ n → 0 < occurs n W
      → ItemRight gr W (n ∷ []) (Some slot) None v.update.waiting (unset_at m k side slot)
  replace_item k slot n side free was here = record {
    goes = inr (subst (λ x. 0 < count x (n ∷ [])) (sym was) (one n));
    moves = λ same. omega (arith, here, subst (λ x. occurs x W ≡ 0) (sym same ∙ was) (free_new slot free));
    leads = inl (record { brought = refl; some = free_some slot free; new = free_new slot free; first = was });
    near = tt;
    last = λ second. absurd second;
    early = λ first. (refl, none);
  }
    where
      one : (x : ℕ) → 0 < count x (x ∷ [])
      one x = in_one x []

  -- a removal of a node with one child at most, which is then that of the link
  pub lift_item : (k slot n : ℕ) (side d : Side) → gr.child side k ≡ n → 0 < lock_count n v → 0 < occurs n g.tree
      → (now z m vs g rule plain W trees).child d n ≡ slot → (n ≡ slot → ⊥)
      → ItemRight gr W (n ∷ []) None None v.update.waiting (unset_at m k side slot)
  lift_item k slot n side d was locked there child differ = record {
    goes = inr (subst (λ x. 0 < count x (n ∷ [])) (sym was) (one n));
    moves = λ same. differ (sym was ∙ same);
    leads = inr (record { other = λ e. never e; there = hangs (cases_lt 0 slot) });
    near = tt;
    last = λ second. absurd second;
    early = λ first. (refl, none);
  }
    where
      one : (x : ℕ) → 0 < count x (x ∷ [])
      one x = in_one x []

      never : {x : ℕ} → None ≡ Some x → ⊥
      never e = cc

      here : 0 < occurs n W
      here = locked_in z m vs g rule plain W trees i v at n locked there

      hangs : (0 < slot) ⊎ (slot ≤ 0) → (slot ≡ 0) ⊎ (0 < occurs slot W)
      hangs (inr none) = inl (omega (arith, none))
      hangs (inl some) =
          inr (led-in gr 0 Right W trees.spelled n d slot (inr here) (plain_link z m vs g rule plain W trees i v at quiet n d locked (inr there) ∙ child) some)

  -- a removal of a node with two children: the link to the copy
  module _ (k slot n s : ℕ) (side : Side) (free : 0 < count slot v.free.nodes) (was : gr.child side k ≡ n) (locked : 0 < lock_count n v)
      (there : 0 < occurs n g.tree)
      (locked' : 0 < lock_count s v) (there' : 0 < occurs s g.tree) (apart : n ≡ s → ⊥) where
    here : 0 < occurs n W
    here = locked_in z m vs g rule plain W trees i v at n locked there

    -- what hangs to the right of the successor is in the plain tree, or nothing does
    behind : (c : ℕ) → (now z m vs g rule plain W trees).child Right s ≡ c → (c ≡ 0) ⊎ (0 < occurs c W)
    behind c next = hangs (cases_lt 0 c)
      where
        hangs : (0 < c) ⊎ (c ≤ 0) → (c ≡ 0) ⊎ (0 < occurs c W)
        hangs (inr none) = inl (omega (arith, none))
        hangs (inl some) =
            inr (led-in gr 0 Right W trees.spelled s Right c (inr (locked_in z m vs g rule plain W trees i v at s locked' there'))
            (plain_link z m vs g rule plain W trees i v at quiet s Right locked' (inr there') ∙ next) some)

    copied : (o : Option Unlinking) → NearRight gr W (n ∷ s ∷ []) o (gr.child side k) slot → unlinks_at k side o ≡ false
        → ItemRight gr W (n ∷ s ∷ []) (Some slot) o v.update.waiting (unset_at m k side slot)
    copied o near off = record {
      goes = inr (subst (λ x. 0 < count x (n ∷ s ∷ [])) (sym was) (in_one n (s ∷ [])));
      moves = λ same. omega (arith, here, subst (λ x. occurs x W ≡ 0) (sym same ∙ was) (free_new slot free));
      leads = inl (record { brought = refl; some = free_some slot free; new = free_new slot free; first = was });
      near = near;
      last = λ second. absurd (apart (sym was ∙ second));
      early = λ first. (off, none);
    }

    -- whose successor is the right child of the removed node
    pub near_item : gr.key s ≡ gr.key slot → gr.key n < gr.key slot → 0 < s → (now z m vs g rule plain W trees).child Left s ≡ 0
        → (now z m vs g rule plain W trees).child Right n ≡ s → (now z m vs g rule plain W trees).child Right s ≡ gr.child Right slot
        → ItemRight gr W (n ∷ s ∷ []) (Some slot) None v.update.waiting (unset_at m k side slot)
    near_item key rises some bare hangs next =
        copied None
        (λ first. record {
          some = some;
          there = free_some slot free;
          new = free_new slot free;
          key = key;
          rises = rises;
          bare = plain_link z m vs g rule plain W trees i v at quiet s Left locked' (inr there') ∙ bare;
          hangs = plain_link z m vs g rule plain W trees i v at quiet n Right locked (inr there) ∙ hangs;
          behind = behind (gr.child Right slot) next;
        })
        refl

    -- or whose successor is still to be unlinked, at another link
    module _ (q c : ℕ) (side' : Side) (was' : gr.child side' q ≡ s) (next : (now z m vs g rule plain W trees).child Right s ≡ c) (differ : s ≡ c → ⊥) where
      abbrev far : Unlinking
      far = record { successor = s; parent = q; side = side'; replaced = n }

      other_link : unlinks_at k side (Some far) ≡ false
      other_link = by (unlinks_at k side (Some far)) refl
        where
          by : (b : Bool) → unlinks_at k side (Some far) ≡ b → unlinks_at k side (Some far) ≡ false
          by false is = is
          by true is =
              let parts = and_parts (eqb q k) (same_side side' side) is in
              let same : gr.child side' q ≡ gr.child side k
              = ap (gr.child side') (eqb-true q k parts.0) ∙ ap (λ (t : Side). gr.child t k) (same_side-true side' side parts.1) in
              absurd (apart (sym was ∙ sym same ∙ was'))

      pub far_first : ItemRight gr W (n ∷ s ∷ []) (Some slot) (Some far) v.update.waiting (unset_at m k side slot)
      far_first = copied (Some far) tt other_link

      pub far_second : ItemRight gr W (n ∷ s ∷ []) (Some slot) (Some far) v.update.waiting (unset_at m q side' c)
      far_second = record {
        goes = inr (subst (λ x. 0 < count x (n ∷ s ∷ [])) (sym was') (in_pair_second n s));
        moves = λ same. differ (sym was' ∙ same);
        leads = inr (record { other = λ e. not_new (some_is slot c e); there = behind c next });
        near = tt;
        last = λ second. and_from (eqb q q) (same_side side' side') (eq-eqb q q refl) (same_side-refl side');
        early = λ first. absurd (first was');
      }
        where
          some_is : (a b : ℕ) → Some a ≡ Some b → a ≡ b
          some_is a b e = cc

          not_new : slot ≡ c → ⊥
          not_new e = elim (behind c next) as (λ _. ⊥) [
            | inl zero ↦ omega (arith, e, zero, free_some slot free)
            | inr within ↦ omega (arith, within, subst (λ x. occurs x W ≡ 0) e (free_new slot free))
          ]
