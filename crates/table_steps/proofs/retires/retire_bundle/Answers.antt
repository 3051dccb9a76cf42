use Rattle.std.proofs.Common.{◌≡◌, ℕ, ◌+◌, List, [], ◌∷◌, length, take, drop, arith, refl, ap, ◌∙◌, sym, subst}
use Rattle.std.proofs.lemmas.List.{take_all}
use Rattle.table_rule.specs.Homes.{Sat}
use Rattle.table_steps.specs.Raises.{HoldsChain}
use Rattle.table_steps.specs.Retires.{with_retired}
use Rattle.table_steps.proofs.RetireSteps.{chain_once, Behind, behind, no_more, Next, one_on, taken_whole, with_none, push_entry}
use Rattle.table_steps.proofs.retires.retire_bundle.Goals as goal

pub loop-done-init : goal.loop-done-init
loop-done-init c = (refl, λ node es chain. (omega arith, chain, with_none c.args.slots.now))

pub returns-then-entry-eq0-clause-retired : goal.returns-then-entry-eq0-clause-retired
returns-then-entry-eq0-clause-retired c node es chain =
    let at = c.loop-done.done in
    let kept = c.loop-done.invariant.1 node es chain in
    let none : drop at es ≡ [] = no_more c.args.seat.now.view node c.loop-done.entry (drop at es) c.if-entry-eq0.true kept.1 in
    kept.2 ∙ ap (λ (xs : List ℕ). with_retired [] xs c.args.slots.now) (taken_whole es at none)

pub next_again-entry-requires-clause-known : goal.next_again-entry-requires-clause-known
next_again-entry-requires-clause-known c =
    let node = c.requires.chain.0 in
    let es = c.requires.chain.1 in
    let kept = c.loop-done.invariant.1 node es c.requires.chain.2 in
    let more : Behind c.args.seat.now.view node c.loop-done.entry (drop c.loop-done.done es) = behind c.args.seat.now.view node c.loop-done.entry (drop c.loop-done.done es) c.if-entry-eq0.false kept.1 in
    (node, more.tail, subst (λ (s : Sat). HoldsChain s.view node c.loop-done.entry (c.loop-done.entry ∷ more.tail)) (sym c.loop-done.invariant.0) more.chain)

pub loop-done-preserved : goal.loop-done-preserved
loop-done-preserved c =
    let v = c.args.seat.now.view in
    let entry = c.loop-done.entry in
    let at = c.loop-done.done in (
      c.next_again-entry.ensures.same ∙ c.loop-done.invariant.0,
      λ node es chain.
          let kept = c.loop-done.invariant.1 node es chain in
          let more : Behind v node entry (drop at es) = behind v node entry (drop at es) c.if-entry-eq0.false kept.1 in
          let on : Next es at entry more.tail = one_on es at entry more.tail more.are in
          let here : HoldsChain c.loop-done.seat.view node entry (entry ∷ more.tail) = subst (λ (s : Sat). HoldsChain s.view node entry (entry ∷ more.tail)) (sym c.loop-done.invariant.0) more.chain in
          let next : HoldsChain v node c.next_again-entry.result more.tail = subst (λ (s : Sat). HoldsChain s.view node c.next_again-entry.result more.tail) c.loop-done.invariant.0 (c.next_again-entry.ensures.chain node more.tail here) in (
            omega (arith, on.within),
            subst (HoldsChain v node c.next_again-entry.result) (sym on.rest) next,
            c.retire_entry.ensures ∙ push_entry c.args.slots.now c.loop-done.slots (take at es) (take (at + 1) es) entry kept.2 on.front,
          ),
    )

pub returns-clause-retired : goal.returns-clause-retired
returns-clause-retired c node es chain =
    let at = c.loop-done.done in
    let kept = c.loop-done.invariant.1 node es chain in
    let same : es ≡ c.requires.chain.1 = chain_once c.args.seat.now.view c.facts.ensures node c.requires.chain.0 c.args.head es c.requires.chain.1 chain c.requires.chain.2 in
    kept.2 ∙ ap (λ (xs : List ℕ). with_retired [] xs c.args.slots.now) (take_all at es (omega (arith, ap length same, c.requires.chain.3.looks, c.loop-done-test.false)))
