-- Free slots at different places are different ones.
use Rattle.std.proofs.Common.{◌≡◌, ℕ, zero, suc, ◌+◌, ◌^◌, ◌<◌, ◌≤◌, List, [], ◌∷◌, length, cond, eqb, ap, sym, ◌∙◌, arith, Some, None}
use Rattle.std.specs.List.{slice_get}
use Rattle.std.proofs.lemmas.Bool.Decides.{nat_tests}
use Rattle.index_words.specs.declared.view.View.{View}
use Rattle.key_map.specs.Lists.{count}
use Rattle.core_updates.specs.declared.plan.PlanSlots.{PlanSlots}
use Rattle.core_updates.specs.PlanEvents.{HasSlots}
use Rattle.plan_laws.specs.Fills.{AreApart}
use Rattle.plan_laws.proofs.Tries.{slots_some}
use Rattle.plan_laws.proofs.Items.{got-counts, got-none}
use Rattle.table_rule.specs.Homes.{IsLiveView}
use Rattle.table_rule.specs.Running.{table}
use Rattle.table_rule.proofs.Lists.{item_at}
use Rattle.table_steps.proofs.There.{free_entry_once, free_entry_there}

twice : (xs : List ℕ) (i j x : ℕ) → i < j → slice_get xs i ≡ Some x → slice_get xs j ≡ Some x → 2 ≤ count x xs
twice [] i j x below one two = cc
twice (y ∷ ys) zero (suc j) x below one two = let same : y ≡ x = cc in more y x (count x ys) same (got-counts ys j x two)
  where
    more : (a b n : ℕ) → a ≡ b → 0 < n → 2 ≤ cond (eqb a b) 1 0 + n
    more a b n e some = grind (arith, nat_tests)
twice (y ∷ ys) (suc i) (suc j) x below one two = omega (arith, twice ys i j x (omega (arith, below)) one two)
twice _ _ _ x below one two = absurd (omega (arith, below))

pub no_slot : (xs : List ℕ) (i : ℕ) → i < length xs → slice_get xs i ≡ None → ⊥
no_slot xs i below none = omega (arith, below, got-none xs i none)

module _ (v : View) (live : IsLiveView v) where
  apart : (i j x y : ℕ) → i < j → slice_get v.free.entries i ≡ Some x → slice_get v.free.entries j ≡ Some y → ¬ (x ≡ y)
  apart i j x y below one two same =
      omega (arith, twice v.free.entries i j x below one (two ∙ ap Some (sym same)), free_entry_once v live x (got-counts v.free.entries i x one))

  module _ (slots : PlanSlots) (n e : ℕ) (node : slice_get v.free.nodes n ≡ Some slots.node) (at : slice_get v.free.entries (e + 3) ≡ Some slots.at) (left : slice_get v.free.entries (e + 2) ≡ Some slots.left)
      (right : slice_get v.free.entries (e + 1) ≡ Some slots.right) (next : slice_get v.free.entries e ≡ Some slots.next) where
    pub slots_free : HasSlots v slots
    slots_free = record {
      node = got-counts v.free.nodes n slots.node node;
      at = got-counts v.free.entries (e + 3) slots.at at;
      left = got-counts v.free.entries (e + 2) slots.left left;
      right = got-counts v.free.entries (e + 1) slots.right right;
      next = got-counts v.free.entries e slots.next next;
    }

    pub slots_node : 0 < slots.node
    slots_node =
        let s = live.stands in
        (slots_some (table v.layout s.words s.views) s.seat v slots s.rule (item_at s.views s.seat v s.at) slots_free).node

    pub slots_apart : slots.at < 2 ^ 32 → slots.next < 2 ^ 32 → AreApart slots
    slots_apart at_small next_small = record {
      at_left = λ same. apart (e + 2) (e + 3) slots.left slots.at (omega arith) left at (sym same);
      at_right = λ same. apart (e + 1) (e + 3) slots.right slots.at (omega arith) right at (sym same);
      at_next = λ same. apart e (e + 3) slots.next slots.at (omega arith) next at (sym same);
      left_right = λ same. apart (e + 1) (e + 2) slots.right slots.left (omega arith) right left (sym same);
      left_next = λ same. apart e (e + 2) slots.next slots.left (omega arith) next left (sym same);
      right_next = λ same. apart e (e + 1) slots.next slots.right (omega arith) next right (sym same);
      at_some = (free_entry_there v live slots.at slots_free.at).0;
      left_some = (free_entry_there v live slots.left slots_free.left).0;
      right_some = (free_entry_there v live slots.right slots_free.right).0;
      next_some = (free_entry_there v live slots.next slots_free.next).0;
      at_small = at_small;
      next_small = next_small;
    }
