use Rattle.std.proofs.Common.{◌≡◌, ℕ, zero, suc, ◌+◌, ◌⊎◌, List, [], ◌∷◌, Some, set, get_or, inl, inr, refl, sym, ap, ◌∙◌, subst, arith}
use Rattle.std.specs.List.{slice_get}
use Rattle.std.proofs.lemmas.Option.{same_Some, none-some, slice_get-get_or, slice_get_within}
use Rattle.std.proofs.lemmas.List.{length-set}
use Rattle.replay_check.specs.declared.turns.Client.{Client}
use Rattle.replay_check.specs.Looking.{IsReadyOn}
use Rattle.replay_check.proofs.looking.look_all.Goals as goal

-- what stands at a place after a write
written : (xs : List Client) (i : ℕ) (x : Client) (k : ℕ) (y : Client) → slice_get (set xs i x) k ≡ Some y
    → ((k ≡ i) × (x ≡ y)) ⊎ ((k ≡ i → ⊥) × (slice_get xs k ≡ Some y))
written [] i x k y is = absurd (none-some y is)
written (z ∷ xs) zero x zero y is = inl (refl, same_Some x y is)
written (z ∷ xs) zero x (suc k) y is = inr ((λ same. absurd (omega arith)), is)
written (z ∷ xs) (suc i) x zero y is = inr ((λ same. absurd (omega arith)), is)
written (z ∷ xs) (suc i) x (suc k) y is =
    elim (written xs i x k y is) [
      | inl here ↦ inl (ap suc here.0, here.1)
      | inr there ↦ inr ((λ same. there.0 (omega arith)), there.1)
    ]

pub loop-number-init : goal.loop-number-init
loop-number-init c = record {
  count = c.requires.ready.count;
  done = λ k client less is. absurd (omega arith);
  left = λ k client most is. c.requires.ready.each k client is;
}

pub look_on-requires-clause-ready : goal.look_on-requires-clause-ready
look_on-requires-clause-ready c =
    c.loop-number.invariant.left c.loop-number.number (get_or c.loop-number.clients c.loop-number.number c.index-clients-number.result) (omega arith)
    (slice_get-get_or c.loop-number.clients c.loop-number.number c.index-clients-number.result (omega arith))

pub loop-number-preserved : goal.loop-number-preserved
loop-number-preserved c = record {
  count = length-set c.loop-number.clients c.loop-number.number c.look_on.new.client ∙ c.loop-number.invariant.count;
  done = λ k client less is.
      elim (written c.loop-number.clients c.loop-number.number c.look_on.new.client k client is) [
        | inl here ↦
            subst (IsReadyOn c.args.basis.now k (c.args.replay.now.at + 1)) here.1
            (subst (λ (i : ℕ). IsReadyOn c.args.basis.now i (c.args.replay.now.at + 1) c.look_on.new.client) (sym here.0) c.in_ok-look_on.ensures)
        | inr there ↦ let other = there.0 in c.loop-number.invariant.done k client (omega arith) there.1
      ];
  left = λ k client most is.
      elim (written c.loop-number.clients c.loop-number.number c.look_on.new.client k client is) [
        | inl here ↦ let same = here.0 in absurd (omega arith)
        | inr there ↦ c.loop-number.invariant.left k client (omega arith) there.1
      ];
}

pub returns : goal.returns
returns c = record {
  count = c.loop-number.invariant.count;
  each = λ k client is. let within = slice_get_within c.loop-number.clients k client is in c.loop-number.invariant.done k client (omega arith) is;
}
