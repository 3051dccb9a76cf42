-- What a pass keeps when its table is opened, and that the keys are all there are.
use Rattle.std.proofs.Common.{◌≡◌, ℕ, ◌+◌, ◌-◌, ◌<◌, ◌≤◌, List, [], ◌∷◌, length, map, arith, refl, ap, ◌∙◌, sym, subst, Some, Bool, true, false, cond, eqb}
use Rattle.std.proofs.lemmas.Bool.{eqb-true}
use Rattle.std.proofs.lemmas.Bool.Decides.{nat_tests}
use Rattle.index_words.specs.declared.layout.Layout.{Layout}
use Rattle.index_words.specs.Sizes.{layout_of}
use Rattle.key_map.specs.declared.pass.PassSize.{PassSize}
use Rattle.core_events.specs.Openings.{from_up, pass_view}
use Rattle.key_map.specs.Lists.{count, Every}
use Rattle.core_invariant.specs.Histories.{update_at}
use Rattle.table_steps.specs.declared.own_updates.OwnUpdate.{OwnUpdate}
use Rattle.table_rule.specs.Homes.{Home}
use Rattle.table_steps.specs.Closes.{AreAllKeys, number_of}
use Rattle.table_steps.specs.Kept.{Keeps}
use Rattle.table_steps.specs.Opens.{numbers_from, HasLayout, IsFresh}
use Rattle.table_steps.specs.Passes.{Pass, AtRest, IsPassOf}
use Rattle.table_steps.specs.declared.kept.Kept.{Kept}

-- what is kept at the start is what the view of a pass says
pub fresh_keeps : (z : Layout) (n node entry : ℕ) (size : PassSize) (k : Kept) → IsFresh z n node entry size k → n < z.passes → z.passes ≤ 32 → Keeps (pass_view z n node entry size) k
fresh_keeps z n node entry size k fresh there few = record {
  number = ap Some (sym fresh.number);
  there = subst (λ i. i < z.passes) (sym fresh.number) there;
  few = few;
  word = sym fresh.word;
  left = sym fresh.left;
  opened = sym fresh.opened;
  slots = record {
    free = ap (λ ns. record { nodes = ns; entries = from_up entry size.entries }) (sym fresh.nodes) ∙ ap (λ es. record { nodes = k.slots.free.nodes; entries = es }) (sym fresh.entries);
    batch = sym fresh.batch;
    retired = sym fresh.retired;
    looks = fresh.looks;
  };
  node_room = fresh.node_room;
  entry_room = fresh.entry_room;
  own = record {
    places = sym (ap (Rattle.std.proofs.Common.map (λ (u : OwnUpdate). u.at)) fresh.updates);
    each = subst (Every (λ (u : OwnUpdate). update_at [] u.at ≡ Some u.update)) (sym fresh.updates) tt;
    room = subst (λ us. length us + size.calls ≤ k.updates.room) (sym fresh.updates) (omega (arith, fresh.room));
  };
  raised = tt;
}

-- and the pass is at rest
pub fresh_rest : (z : Layout) (n node entry : ℕ) (size : PassSize) → AtRest (pass_view z n node entry size)
fresh_rest z n node entry size = record { outside = record { even = refl; unlocked = refl }; unannounced = refl }

-- the numbers of the keys: each number of a pass of the table once
not_counted : (k n : ℕ) (sizes : List PassSize) → k < n → count k (numbers_from n sizes) ≡ 0
not_counted k n [] low = refl
not_counted k n (size ∷ sizes) low = omega (arith, ap (λ (b : Bool). 0 + cond b 1 0) (apart n k low), not_counted k (n + 1) sizes (omega (arith, low)))
  where
    apart : (a b : ℕ) → b < a → eqb a b ≡ false
    apart a b less = grind (arith, nat_tests)

counted : (k n : ℕ) (sizes : List PassSize) → n ≤ k → k < n + length sizes → count k (numbers_from n sizes) ≡ 1
counted k n [] low high = absurd (omega (arith, low, high))
counted k n (size ∷ sizes) low high = by_test (eqb n k) refl (counted k (n + 1) sizes)
  where
    above : (a b : ℕ) → a ≤ b → eqb a b ≡ false → a + 1 ≤ b
    above a b le is = grind (arith, nat_tests)

    by_test : (b : Bool) → eqb n k ≡ b → (n + 1 ≤ k → k < n + 1 + length sizes → count k (numbers_from (n + 1) sizes) ≡ 1) → cond b 1 0 + count k (numbers_from (n + 1) sizes) ≡ 1
    by_test true is rest = let same : n ≡ k = eqb-true n k is in omega (arith, not_counted k (n + 1) sizes (omega (arith, same)))
    by_test false is rest = omega (arith, rest (above n k low is) (omega (arith, high)))

pub all_keys : (home : Home) (keys : List Pass) (sizes : List PassSize) → Every (IsPassOf home) keys → map number_of keys ≡ numbers_from 0 sizes → home.layout ≡ layout_of sizes → AreAllKeys home keys
all_keys home keys sizes of numbers layout = record {
  of = of;
  each = λ n low. ap (count n) numbers ∙ counted n 0 sizes (omega arith) (omega (arith, passes n low));
}
  where
    passes : (n : ℕ) → n < home.layout.passes → n < length sizes
    passes n low = subst (λ (z : Layout). n < z.passes) layout low

pub each_layout : (home : Home) (z : Layout) (keys : List Pass) → home.layout ≡ z → Every (IsPassOf home) keys → Every (HasLayout z) keys
each_layout home z [] layout of = tt
each_layout home z (key ∷ keys) layout of = (of.0.layout ∙ layout, each_layout home z keys layout of.1)
