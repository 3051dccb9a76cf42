-- A node that is lent and one that is adopted: what is kept at run time still is what the view says.
use Rattle.std.proofs.Common.{◌≡◌, ℕ, ◌+◌, ◌<◌, ◌≤◌, List, [], ◌∷◌, ◌++◌, length, take, drop, cond, not, Bool, true, false, eqb, arith, refl, ap, ◌∙◌, sym, subst, append-nil, Some, inl}
use Rattle.std.specs.Prelude.{IfSome}
use Rattle.std.specs.List.{slice_get}
use Rattle.std.proofs.lemmas.Bool.{eq-eqb}
use Rattle.std.proofs.lemmas.List.{length-append}
use Rattle.index_words.specs.declared.layout.Layout.{Layout}
use Rattle.index_words.specs.declared.view.View.{View}
use Rattle.index_words.specs.declared.view.slots.Slots.{Slots}
use Rattle.index_words.specs.declared.view.slots.Looks.{Looks}
use Rattle.index_words.specs.declared.view.update.Updating.{Updating}
use Rattle.index_words.specs.Views.{no_slots}
use Rattle.key_map.specs.declared.update.Update.{Update}
use Rattle.key_map.specs.Lists.{count}
use Rattle.core_grace.specs.Batches.{both}
use Rattle.core_events.specs.Moves.{joined_with, split_left, split_right}
use Rattle.core_events.specs.UpdateMoves.{without}
use Rattle.core_laws.specs.ViewNeeds.{MayJoin}
use Rattle.pass_slots.specs.Owned.{KeptSlots, KeepsLooks, node_count}
use Rattle.table_rule.specs.Homes.{IsLiveView}
use Rattle.table_rule.proofs.Lists.{some_same}
use Rattle.table_steps.specs.Kept.{Keeps}
use Rattle.table_steps.specs.Parcels.{parcel_view, HasLent, HasAdopted}
use Rattle.table_steps.specs.Passes.{Extends}
use Rattle.table_steps.specs.declared.kept.Kept.{Kept}
use Rattle.table_steps.proofs.Own.{own_longer}
use Rattle.table_steps.proofs.There.{nodes_few, free_node_once}

-- the first of some numbers
pub first_is : (xs : List ℕ) (x : ℕ) → slice_get xs 0 ≡ Some x → xs ≡ x ∷ drop 1 xs
first_is [] x is = cc
first_is (y ∷ ys) x is = ap (λ z. z ∷ ys) (some_same y x is)

without_none : (x : ℕ) (xs : List ℕ) → count x xs ≡ 0 → without x xs ≡ xs
without_none x [] none = refl
without_none x (y ∷ ys) none = by_test (eqb y x) (without_none x ys) none
  where
    by_test : (b : Bool) → (count x ys ≡ 0 → without x ys ≡ ys) → cond b 1 0 + count x ys ≡ 0 → cond (not b) (y ∷ without x ys) (without x ys) ≡ y ∷ ys
    by_test true rest none = absurd (omega (arith, none))
    by_test false rest none = ap (λ zs. y ∷ zs) (rest (omega (arith, none)))

true_false : (b : Bool) → b ≡ true → b ≡ false → ⊥
true_false true t f = cc
true_false false t f = cc

without_first : (x : ℕ) (xs : List ℕ) → count x (x ∷ xs) ≡ 1 → without x (x ∷ xs) ≡ xs
without_first x xs once = by_test (eqb x x) refl once
  where
    by_test : (b : Bool) → eqb x x ≡ b → cond b 1 0 + count x xs ≡ 1 → cond (not b) (x ∷ without x xs) (without x xs) ≡ xs
    by_test true is one = without_none x xs (omega (arith, one))
    by_test false is one = absurd (true_false (eqb x x) (eq-eqb x x refl) is)

count_first : (x : ℕ) (xs : List ℕ) → 0 < count x (x ∷ xs)
count_first x xs = by_test (eqb x x) (eq-eqb x x refl)
  where
    by_test : (b : Bool) → b ≡ true → 0 < cond b 1 0 + count x xs
    by_test true is = omega arith
    by_test false is = cc

-- the slots without their first free node, and with one more
abbrev pub without_node : ℕ → KeptSlots → KeptSlots
without_node node s = record s { free = record s.free { nodes = without node s.free.nodes } }

abbrev pub with_node : ℕ → KeptSlots → KeptSlots
with_node node s = record s { free = record s.free { nodes = s.free.nodes ++ node ∷ [] } }

abbrev pub kept_with : Kept → KeptSlots → Kept
kept_with k slots = record { number = k.number; section_word = k.section_word; left = k.left; opened = k.opened; slots = slots; updates = k.updates; raised = k.raised }

-- the first free node is lent
module _ (v : View) (k : Kept) (node : ℕ) (keeps : Keeps v k) (first : slice_get k.slots.free.nodes 0 ≡ Some node) (live : IsLiveView v) where
  kept_free : v.free.nodes ≡ k.slots.free.nodes
  kept_free = ap (λ (s : Slots). s.nodes) keeps.slots.free

  pub free_first : v.free.nodes ≡ node ∷ drop 1 v.free.nodes
  free_first = first_is v.free.nodes node (ap (λ ns. slice_get ns 0) kept_free ∙ first)

  once : count node v.free.nodes ≡ 1
  once = free_node_once v live node (subst (λ ns. 0 < count node ns) (sym free_first) (count_first node (drop 1 v.free.nodes)))

  pub kept_once : count node k.slots.free.nodes ≡ 1
  kept_once = subst (λ ns. count node ns ≡ 1) kept_free once

  rest_is : drop 1 v.free.nodes ≡ without node k.slots.free.nodes
  rest_is =
      sym (without_first node (drop 1 v.free.nodes) (subst (λ ns. count node ns ≡ 1) free_first once))
      ∙ ap (without node) (sym free_first ∙ kept_free)

  pub lent_view : HasLent v node (split_left v 1)
  lent_view = record {
    traded = record {
      seen = ([], sym (append-nil v.history.seen));
      mine = refl;
      left = refl;
      looks = refl;
      found = refl;
      opened = refl;
      word = refl;
      announced = refl;
      held = refl;
      entries = refl;
      retired = refl;
      batch = refl;
    };
    nodes = free_first;
  }

  lent_slots : Keeps (split_left v 1) (kept_with k (without_node node k.slots))
  lent_slots = record {
    number = keeps.number;
    there = keeps.there;
    few = keeps.few;
    word = keeps.word;
    left = keeps.left;
    opened = keeps.opened;
    slots = record {
      free = ap (λ ns. record { nodes = ns; entries = v.free.entries }) rest_is ∙ ap (λ es. record { nodes = without node k.slots.free.nodes; entries = es }) (ap (λ (s : Slots). s.entries) keeps.slots.free);
      batch = keeps.slots.batch;
      retired = keeps.slots.retired;
      looks = keeps.slots.looks;
    };
    node_room = keeps.node_room;
    entry_room = keeps.entry_room;
    own = keeps.own;
    raised = keeps.raised;
  }

  pub lent_keeps : (w : View) (slots : KeptSlots) → w ≡ split_left v 1 → slots ≡ without_node node k.slots → Keeps w (kept_with k slots)
  lent_keeps w slots is are = subst (λ (y : View). Keeps y (kept_with k slots)) (sym is) (subst (λ (s : KeptSlots). Keeps (split_left v 1) (kept_with k s)) (sym are) lent_slots)

  -- the view that is split off is that of a parcel
  pub parcel_is : split_right v 1 ≡ parcel_view v.layout v.history.seen node
  parcel_is = ap (λ ns. record (parcel_view v.layout v.history.seen node) { free = record { nodes = take 1 ns; entries = [] } }) free_first

-- a node is adopted
module _ (v u w : View) (k : Kept) (node : ℕ) (seen : List Update) (z : Layout) (parcel : u ≡ parcel_view z seen node) (is : w ≡ joined_with (joined_with v u) (split_right v 0)) where
  adopted_is : w ≡ joined_with (joined_with v (parcel_view z seen node)) (split_right v 0)
  adopted_is = is ∙ ap (λ (y : View). joined_with (joined_with v y) (split_right v 0)) parcel

  nodes_are : w.free.nodes ≡ v.free.nodes ++ node ∷ []
  nodes_are = ap (λ (y : View). y.free.nodes) adopted_is ∙ append-nil (v.free.nodes ++ node ∷ [])

  entries_are : w.free.entries ≡ v.free.entries
  entries_are = ap (λ (y : View). y.free.entries) adopted_is ∙ append-nil (v.free.entries ++ []) ∙ append-nil v.free.entries

  both_none : (s : Slots) → both s no_slots ≡ s
  both_none s = ap (λ ns. record { nodes = ns; entries = s.entries ++ [] }) (append-nil s.nodes) ∙ ap (λ es. record { nodes = s.nodes; entries = es }) (append-nil s.entries)

  retired_is : w.retired ≡ v.retired
  retired_is = ap (λ (y : View). y.retired) adopted_is ∙ both_none (both v.retired no_slots) ∙ both_none v.retired

  pub adopted_view : Extends v.history.seen w.history.seen → HasAdopted v node w
  adopted_view more = record {
    traded = record {
      seen = more;
      mine = ap (λ (y : View). y.history.mine) is;
      left = ap (λ (y : View). y.history.left) is;
      looks = ap (λ (y : View). y.history.looks) is;
      found = ap (λ (y : View). y.history.found) is;
      opened = ap (λ (y : View). y.reading.opened) is;
      word = ap (λ (y : View). y.section_word) is;
      announced = ap (λ (y : View). y.announced) is;
      held = ap (λ (y : View). y.held) is;
      entries = entries_are;
      retired = retired_is;
      batch = ap (λ (y : View). y.batch) is;
    };
    nodes = nodes_are;
  }

  module _ (keeps : Keeps v k) where
    -- there is room for it
    pub adopted_fits : IsLiveView w → node_count k.slots < k.slots.node_room
    adopted_fits live =
        omega (
          arith,
          nodes_few w live,
          ap length nodes_are,
          length-append v.free.nodes (node ∷ []),
          ap (λ (y : View). length y.batch.nodes) is,
          ap (λ (s : Slots). length s.nodes) retired_is,
          ap (λ (y : View). y.layout.nodes) is,
          ap (λ (s : Slots). length s.nodes) keeps.slots.free,
          ap (λ (s : Slots). length s.nodes) keeps.slots.batch,
          ap (λ (s : Slots). length s.nodes) keeps.slots.retired,
          keeps.node_room,
        )

    pub adopted_keeps : (slots : KeptSlots) → slots ≡ with_node node k.slots → Extends v.history.seen w.history.seen → Keeps w (kept_with k slots)
    adopted_keeps slots are more =
        let layout : w.layout ≡ v.layout = ap (λ (y : View). y.layout) is in
        let kept : Keeps w (kept_with k (with_node node k.slots)) = record {
          number = ap (λ (y : View). y.number) is ∙ keeps.number;
          there = subst (λ (y : Layout). k.number < y.passes) (sym layout) keeps.there;
          few = subst (λ (y : Layout). y.passes ≤ 32) (sym layout) keeps.few;
          word = ap (λ (y : View). y.section_word) is ∙ keeps.word;
          left = ap (λ (y : View). y.history.left) is ∙ keeps.left;
          opened = ap (λ (y : View). y.reading.opened) is ∙ keeps.opened;
          slots = record {
            free =
                ap (λ ns. record { nodes = ns; entries = w.free.entries }) (nodes_are ∙ ap (λ ns. ns ++ node ∷ []) (ap (λ (s : Slots). s.nodes) keeps.slots.free))
                ∙ ap (λ es. record { nodes = k.slots.free.nodes ++ node ∷ []; entries = es }) (entries_are ∙ ap (λ (s : Slots). s.entries) keeps.slots.free);
            batch = ap (λ (y : View). y.batch) is ∙ keeps.slots.batch;
            retired = retired_is ∙ keeps.slots.retired;
            looks = subst (λ (g : Looks). KeepsLooks g k.slots.shown) (sym (ap (λ (y : View). y.grace) is)) keeps.slots.looks;
          };
          node_room = subst (λ (y : Layout). y.nodes ≤ k.slots.node_room) (sym layout) keeps.node_room;
          entry_room = subst (λ (y : Layout). y.entries ≤ k.slots.entry_room) (sym layout) keeps.entry_room;
          own = own_longer v.history w.history k.updates (ap (λ (y : View). y.history.mine) is) (ap (λ (y : View). y.history.left) is) more keeps.own;
          raised = subst (λ (u : Updating). IfSome u.raised (λ at. at ≡ k.raised)) (sym (ap (λ (y : View). y.update) is)) keeps.raised;
        } in
        subst (λ (s : KeptSlots). Keeps w (kept_with k s)) (sym are) kept

pub parcel_may : (v u : View) (seen : List Update) (z : Layout) (node : ℕ) → u ≡ parcel_view z seen node → IsLiveView v → IsLiveView u → MayJoin v u
parcel_may v u seen z node parcel live other = record { live = live.live; other_live = other.live; apart = inl (ap (λ (y : View). y.number) parcel, (ap (λ (y : View). y.retired) parcel, ap (λ (y : View). y.batch) parcel)) }

pub parcel_split : (v : View) (k : Kept) (node : ℕ) → Keeps v k → slice_get k.slots.free.nodes 0 ≡ Some node → IsLiveView v → (u : View) → u ≡ split_right v 1 → u ≡ parcel_view u.layout u.history.seen node
parcel_split v k node keeps first live u is = subst (λ (y : View). y ≡ parcel_view y.layout y.history.seen node) (sym is) (parcel_is v k node keeps first live)
