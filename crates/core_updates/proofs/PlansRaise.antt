-- A view that is ready for a plan has the record of its case.
use Rattle.std.proofs.Common.{◌≡◌, ℕ, ◌<◌, ◌^◌, ◌⊎◌, inl, inr, List, [], ◌∷◌, map, Bool, true, false, cond, refl, sym, ◌∙◌, subst, Option, Some, None}
use Rattle.std.specs.Prelude.{◌==◌, IfSome}
use Rattle.std.proofs.lemmas.Bool.{false≢true}
use Rattle.std.proofs.lemmas.Bool.Decides.{eqb_tells}
use Rattle.index_words.specs.declared.layout.Layout.{Layout}
use Rattle.index_words.specs.declared.side.Side.{Side}
use Rattle.index_words.specs.declared.side.Side.TheVariants.{Left, Right}
use Rattle.key_map.specs.declared.pair.Pair.{Pair}
use Rattle.key_map.specs.declared.update.Change.TheVariants.{Remove}
use Rattle.index_words.specs.declared.view.View.{View}
use Rattle.index_words.specs.declared.view.update.HeldNode.{HeldNode}
use Rattle.index_words.specs.declared.view.update.Unlinking.{Unlinking}
use Rattle.index_words.specs.declared.word.Field.TheVariants.{Head, Link as LinkField}
use Rattle.index_words.specs.declared.word.Word.TheVariants.{Node}
use Rattle.key_map.specs.Lists.{Every}
use Rattle.core_trees.specs.declared.link.Link.{Link}
use Rattle.core_updates.specs.declared.plan.Plan.TheVariants.{Grow, Replace, Lift, Join}
use Rattle.core_updates.specs.declared.plan.Front.{Front}
use Rattle.core_updates.specs.declared.plan.JoinPlan.{JoinPlan}
use Rattle.core_updates.specs.declared.plan.PlanSlots.{PlanSlots}
use Rattle.core_laws.specs.Searching.{HeldLinkLaw, NullLinkLaw}
use Rattle.core_laws.specs.ViewNeeds.{HasFilled}
use Rattle.core_updates.specs.Held.{HasLoaded, HoldsFresh, HoldsNew, HoldsNewLink, HoldsLink, HoldsKey, HoldsSuccessor, CanRaise, MayRaise}
use Rattle.core_updates.specs.Plans.{LinkLook, or_none, head_of, child_of, fresh_to, other_side, entries_of, set_by}
use Rattle.core_updates.specs.PlanReady.{HoldsLook, HoldsFreshEntry, HoldsNewNode, HoldsFront, IsReadyFor, PlanMayRaiseLaw}
use Rattle.core_updates.specs.Ready.{update_of}
use Rattle.core_updates.specs.SetLinks.{SetLink, set_to}
use Rattle.core_updates.proofs.HeldReady.{grow_from_view, replace_from_view, lift_from_view, join_from_view}

-- the child of a link of a new node
child-of : (entry child : ℕ) → child_of (fresh_to entry child) ≡ child
child-of entry child = by (child == 0) (told child)
  where
    told : (x : ℕ) → (x == 0) ≡ true → x ≡ 0
    told x e = elim (eqb_tells x 0) as (λ _. x ≡ 0) [ inl is ↦ is.1 | inr apart ↦ absurd (false≢true (sym apart.0 ∙ e)) ]

    by : (b : Bool) → (b ≡ true → child ≡ 0) → child_of (cond b None (Some (record { entry = entry; child = child }))) ≡ child
    by true none = sym (none refl)
    by false none = refl

module _ (v : View) where
  -- the link of a new node to a child
  new-link : (slot entry child : ℕ) (side : Side) → HasFilled v (Node (Head side) slot) (head_of (fresh_to entry child))
      → IfSome (fresh_to entry child) (HoldsFreshEntry v)
      → HoldsNewLink v slot side (head_of (fresh_to entry child)) child
  new-link slot entry child side filled fresh = (filled, by_child (child == 0) (told child) fresh)
    where
      told : (x : ℕ) → (x == 0) ≡ true → x ≡ 0
      told x e = elim (eqb_tells x 0) as (λ _. x ≡ 0) [ inl is ↦ is.1 | inr apart ↦ absurd (false≢true (sym apart.0 ∙ e)) ]

      by_child : (b : Bool) → (b ≡ true → child ≡ 0) → IfSome (cond b None (Some (record { entry = entry; child = child }))) (HoldsFreshEntry v)
          → ((head_of (cond b None (Some (record { entry = entry; child = child }))) ≡ 0) × (child ≡ 0))
          ⊎ HoldsFresh v (head_of (cond b None (Some (record { entry = entry; child = child })))) child
      by_child true none fresh = inl (refl, none refl)
      by_child false none fresh = inr (record { free = fresh.free; unnumbered = fresh.filled.1.0; last = fresh.filled.1.1.0; leads = fresh.filled.0 })

  apart-heads : (left right low high : ℕ) → ¬ (left ≡ right) → head_of (fresh_to left low) ≡ head_of (fresh_to right high) → head_of (fresh_to left low) ≡ 0
  apart-heads left right low high apart = by_children (low == 0) (high == 0)
    where
      by_children : (b c : Bool) → head_of (cond b None (Some (record { entry = left; child = low }))) ≡ head_of
          (cond c None (Some (record { entry = right; child = high })))
          → head_of (cond b None (Some (record { entry = left; child = low }))) ≡ 0
      by_children true c e = refl
      by_children false true e = e
      by_children false false e = absurd (apart e)

  new-node : (slots : PlanSlots) (pair : Pair) (left right : ℕ) → ¬ (slots.left ≡ slots.right)
      → HoldsNewNode v (record { slot = slots.node; pair = pair; left = fresh_to slots.left left; right = fresh_to slots.right right })
      → HoldsNew v slots.node pair.key pair.val left right
  new-node slots pair left right apart h = record {
    free = h.free;
    unmarked = h.filled.0;
    key_is = h.filled.1.0;
    val_is = h.filled.1.1.0;
    left_head = head_of (fresh_to slots.left left);
    left_link = new-link slots.node slots.left left Left h.filled.1.1.1.0 h.left;
    right_head = head_of (fresh_to slots.right right);
    right_link = new-link slots.node slots.right right Right h.filled.1.1.1.1.0 h.right;
    left_child = subst (HasFilled v (Node (LinkField Left) slots.node)) (child-of slots.left left) h.filled.1.1.1.1.1.0;
    right_child = subst (HasFilled v (Node (LinkField Right) slots.node)) (child-of slots.right right) h.filled.1.1.1.1.1.1.0;
    left_tag = h.filled.1.1.1.1.1.1.1.0;
    right_tag = h.filled.1.1.1.1.1.1.1.1.0;
    apart = apart-heads slots.left slots.right left right apart;
  }

  abbrev holds-key : (key node left right : ℕ) (at : Link) → 0 < node → HoldsLink v at.node at.side node → HasLoaded v node (λ (h : HeldNode). h.key) key
      → HoldsLink v node Left left → HoldsLink v node Right right → HoldsKey v key
  holds-key key node left right at some link key_is left_link right_link = record {
    parent = at.node;
    side = at.side;
    node = node;
    some = some;
    at = link;
    key_is = key_is;
    left = left;
    left_link = left_link;
    right = right;
    right_link = right_link;
  }

  module _ (held_link : HeldLinkLaw) (null_link : NullLinkLaw) (z : Layout) (client line : ℕ) (can : CanRaise v client) where
    -- by the side on which there is no child
    lift-raises : (key node child entry : ℕ) (at : Link) (bare : Side) → key < 2 ^ 64 → 0 < node → HoldsLink v at.node at.side node
        → HoldsLink v node bare 0 → HoldsLink v node (other_side bare) child → HasLoaded v node (λ (h : HeldNode). h.key) key
        → HoldsFront v (record { at = at; entry = entry; child = child }) → v.update.pending ≡ entry ∷ []
        → MayRaise z v (update_of client line key Remove) None (node ∷ []) (set_to at.node at.side child ∷ []) None
    lift-raises key node child entry at Left small some link bare full key_is front pending =
        lift_from_view held_link null_link z v client line key can (record {
          found = holds-key key node 0 child at some link key_is bare full;
          small = small;
          child = child;
          one = inl (refl, refl);
          entry = entry;
          pending = pending;
          prepared = front;
        })
    lift-raises key node child entry at Right small some link bare full key_is front pending =
        lift_from_view held_link null_link z v client line key can (record {
          found = holds-key key node child 0 at some link key_is full bare;
          small = small;
          child = child;
          one = inr (refl, refl);
          entry = entry;
          pending = pending;
          prepared = front;
        })

    module _ (p : JoinPlan) (slots : PlanSlots) (h : IsReadyFor v (Join p) slots) where
      abbrev found : HoldsKey v p.key
      found = holds-key p.key p.node p.left p.right p.at h.formed.node.some h.looks.0 h.looks.1.1.1.0 h.looks.1.0 h.looks.1.1.0

      abbrev next : HoldsLink v p.next.at.node p.next.at.side p.next.node → HoldsSuccessor v p.key
      next at =
          let more = h.looks.1.1.1.1 in
          record {
            parent = p.next.at.node;
            side = p.next.at.side;
            node = p.next.node;
            some = h.formed.next.some;
            at = at;
            key_of = p.next.pair.key;
            val_of = p.next.pair.val;
            key_is = more.1.1.0;
            val_is = more.1.1.1.0;
            above = h.formed.above;
            left_link = more.0;
            right = p.next.right;
            right_link = more.1.0;
            gap = more.1.1.1.1.0;
          }

      -- where the successor is the right child, its link was looked at with the removed node's
      near-link : p.next.at.node ≡ p.node → HoldsLink v p.next.at.node p.next.at.side p.next.node
      near-link near =
          subst (λ k. HoldsLink v k p.next.at.side p.next.node) (sym near)
          (subst (λ w. HoldsLink v p.node w p.next.node) (sym (h.formed.side near)) (subst (HoldsLink v p.node Right) (h.formed.child near) h.looks.1.1.0))

      -- by whether the successor is the right child
      -- the links to be set, by the same
      abbrev far-set : SetLink
      far-set = set_to p.next.at.node p.next.at.side p.next.right

      abbrev far-front : Front
      far-front = record { at = p.next.at; entry = slots.next; child = p.next.right }

      abbrev far-last : Unlinking
      far-last = record { successor = p.next.node; parent = p.next.at.node; side = p.next.at.side; replaced = p.node }

      abbrev joins : (List SetLink → Option Unlinking → Type 0)
      joins = MayRaise z v (update_of client line p.key Remove) (Some slots.node) (p.node ∷ p.next.node ∷ [])

      join-raises : (near : Bool) → (p.next.at.node == p.node) ≡ near → (near ≡ true → p.next.at.node ≡ p.node) → (near ≡ false → ¬ (p.next.at.node ≡ p.node))
          → Every (HoldsLook v) (cond near [] (LinkLook p.next.at p.next.node ∷ []))
          → HoldsNewNode v (record {
            slot = slots.node;
            pair = p.next.pair;
            left = fresh_to slots.left p.left;
            right = fresh_to slots.right
                (cond near p.next.right p.right);
          })
          → Every (HoldsFront v) (record { at = p.at; entry = slots.at; child = slots.node } ∷ or_none (cond near None (Some far-front)))
          → v.update.pending ≡ entries_of (record { at = p.at; entry = slots.at; child = slots.node } ∷ or_none (cond near None (Some far-front)))
          → joins (map set_by (record { at = p.at; entry = slots.at; child = slots.node } ∷ or_none (cond near None (Some far-front))))
          (cond near None (Some far-last))
      join-raises true same is apart at new fronts pending =
          subst (λ b. joins (set_to p.at.node p.at.side slots.node ∷ cond b [] (far-set ∷ [])) (cond b None (Some far-last))) same
          (join_from_view held_link null_link z v client line p.key can (record {
            found = found;
            small = h.small;
            left = h.formed.left;
            right = h.formed.right;
            next = next (near-link (is refl));
            slot = slots.node;
            new_right = p.next.right;
            new = new-node slots p.next.pair p.left p.next.right h.apart new;
            entry = slots.at;
            prepared = fronts.0;
            by = inl (record { parent_is = is refl; side_is = h.formed.side (is refl); pending = pending; child = refl });
          }))
      join-raises false same is apart at new fronts pending =
          subst (λ b. joins (set_to p.at.node p.at.side slots.node ∷ cond b [] (far-set ∷ [])) (cond b None (Some far-last))) same
          (join_from_view held_link null_link z v client line p.key can (record {
            found = found;
            small = h.small;
            left = h.formed.left;
            right = h.formed.right;
            next = next at.0;
            slot = slots.node;
            new_right = p.right;
            new = new-node slots p.next.pair p.left p.right h.apart new;
            entry = slots.at;
            prepared = fronts.0;
            by = inr (record { apart = apart refl; second = slots.next; pending = pending; prepared = fronts.1.0; child = refl });
          }))

is_same : (a b : ℕ) → (a == b) ≡ true → a ≡ b
is_same a b e = elim (eqb_tells a b) as (λ _. a ≡ b) [ inl is ↦ is.1 | inr apart ↦ absurd (false≢true (sym apart.0 ∙ e)) ]

is_apart : (a b : ℕ) → (a == b) ≡ false → ¬ (a ≡ b)
is_apart a b e = elim (eqb_tells a b) as (λ _. ¬ (a ≡ b)) [ inl is ↦ absurd (false≢true (sym e ∙ is.0)) | inr apart ↦ apart.1 ]

pub plan_may_raise : HeldLinkLaw → NullLinkLaw → PlanMayRaiseLaw
plan_may_raise held_link null_link z v client line (Grow p) slots can h =
    grow_from_view held_link null_link z v client line p.pair.key p.pair.val can (record {
      node = p.at.node;
      side = p.at.side;
      at = h.looks.0;
      small = h.small;
      slot = slots.node;
      new = new-node v slots p.pair 0 0 h.apart h.new;
      entry = slots.at;
      pending = h.pending;
      prepared = h.fronts.0;
    })
plan_may_raise held_link null_link z v client line (Replace p) slots can h =
    replace_from_view held_link null_link z v client line p.pair.key p.pair.val can (record {
      found = holds-key v p.pair.key p.node p.left p.right p.at h.formed.some h.looks.0 h.looks.1.1.1.0 h.looks.1.0 h.looks.1.1.0;
      small = h.small;
      slot = slots.node;
      new = new-node v slots p.pair p.left p.right h.apart h.new;
      entry = slots.at;
      pending = h.pending;
      prepared = h.fronts.0;
    })
plan_may_raise held_link null_link z v client line (Lift p) slots can h =
    lift-raises v held_link null_link z client line can p.key p.node p.child slots.at p.at p.bare h.small h.formed.some h.looks.0 h.looks.1.0 h.looks.1.1.0 h.looks.1.1.1.0 h.fronts.0 h.pending
plan_may_raise held_link null_link z v client line (Join p) slots can h =
    join-raises v held_link null_link z client line can p slots h (p.next.at.node == p.node) refl (is_same p.next.at.node p.node)
    (is_apart p.next.at.node p.node) h.looks.1.1.1.1.1.1.1.1.1 h.new h.fronts h.pending
