use Rattle.std.proofs.Common.{◌≡◌, ◌+◌, ℕ, eqb, true, false, arith, sym, subst}
use Rattle.std.proofs.lemmas.Bool.Decides.{nat_tests}
use Rattle.index_words.specs.declared.word.Field.TheVariants.{Lock}
use Rattle.index_words.specs.declared.word.Word.TheVariants.{Node}
use Rattle.core_events.specs.declared.event.Kind.TheVariants.{TryLock}
use Rattle.core_invariant.specs.Readers.{IsLocked}
use Rattle.core_laws.specs.ViewNeeds.{event_at, IsInside, IsSearched}
use Rattle.table_rule.specs.Homes.{Home, IsOf, Asks}
use Rattle.table_rule.specs.Running.{Happened}
use Rattle.table_steps.specs.Loads.{HasLocked, HasMetLock}
use Rattle.table_steps.specs.Passes.{Pass}
use Rattle.table_steps.proofs.LockSteps.{lock_asks, lock_had, lock_missed, lock_keeps}
use Rattle.table_steps.proofs.pass.TablePass.try_lock.Goals as goal

pub exchange-found-requires-clause-asks : goal.exchange-found-requires-clause-asks
exchange-found-requires-clause-asks c =
    let s = c.self.inside.seat in
    let k = c.self.inside.kept in
    let home : Home = c.table.inside.ruled in
    let keeps = c.self.invariant.0 in
    let of : IsOf home s = subst (λ (h : Home). IsOf h s) (sym c.table.view_is) c.self.invariant.1 in
    let node = c.args.node in
    let inside : IsInside s.view = subst (λ (p : Pass). IsInside p.view) (sym c.self.view_is) c.requires.inside in
    let searched : IsSearched s.view node = subst (λ (p : Pass). IsSearched p.view node) (sym c.self.view_is) c.requires.searched in
    let unlocked : ¬ IsLocked s.view node = subst (λ (p : Pass). ¬ IsLocked p.view node) (sym c.self.view_is) c.requires.unlocked in
    subst (λ x. Asks home s (Node Lock node) (event_at home.layout s.seat TryLock (Node Lock node) (x + 1))) (sym c.from-own.ensures) (lock_asks home s k keeps of node c.facts.ensures inside searched unlocked)

pub invariant_of-self : goal.invariant_of-self
invariant_of-self c =
    let s = c.self.inside.seat in
    let k = c.self.inside.kept in
    let home : Home = c.table.inside.ruled in
    let keeps = c.self.invariant.0 in
    let of : IsOf home s = subst (λ (h : Home). IsOf h s) (sym c.table.view_is) c.self.invariant.1 in
    let node = c.args.node in
    let inside : IsInside s.view = subst (λ (p : Pass). IsInside p.view) (sym c.self.view_is) c.requires.inside in
    let searched : IsSearched s.view node = subst (λ (p : Pass). IsSearched p.view node) (sym c.self.view_is) c.requires.searched in
    let unlocked : ¬ IsLocked s.view node = subst (λ (p : Pass). ¬ IsLocked p.view node) (sym c.self.view_is) c.requires.unlocked in
    let w = c.exchange-found.new.seat.view in
    let n = c.exchange-found.result in
    let went = subst (λ x. Happened home.layout (event_at home.layout s.seat TryLock (Node Lock node) (x + 1)) s.view n w) c.from-own.ensures c.exchange-found.ensures.event in (
      lock_keeps home s k keeps of node c.facts.ensures inside searched unlocked w n went,
      subst (λ (h : Home). IsOf h c.exchange-found.new.seat) c.table.view_is c.exchange-found.ensures.of,
    )

free_is : (n : ℕ) → eqb n 0 ≡ true → n ≡ 0
free_is n is = grind (arith, nat_tests)

held_is : (n : ℕ) → eqb n 0 ≡ false → n ≡ 0 → ⊥
held_is n is none = grind (arith, nat_tests)

pub returns-clause-locked : goal.returns-clause-locked
returns-clause-locked c =
    let s = c.self.inside.seat in
    let k = c.self.inside.kept in
    let home : Home = c.table.inside.ruled in
    let keeps = c.self.invariant.0 in
    let of : IsOf home s = subst (λ (h : Home). IsOf h s) (sym c.table.view_is) c.self.invariant.1 in
    let node = c.args.node in
    let inside : IsInside s.view = subst (λ (p : Pass). IsInside p.view) (sym c.self.view_is) c.requires.inside in
    let searched : IsSearched s.view node = subst (λ (p : Pass). IsSearched p.view node) (sym c.self.view_is) c.requires.searched in
    let unlocked : ¬ IsLocked s.view node = subst (λ (p : Pass). ¬ IsLocked p.view node) (sym c.self.view_is) c.requires.unlocked in
    let w = c.exchange-found.new.seat.view in
    let n = c.exchange-found.result in
    let went = subst (λ x. Happened home.layout (event_at home.layout s.seat TryLock (Node Lock node) (x + 1)) s.view n w) c.from-own.ensures c.exchange-found.ensures.event in
    λ is. subst (λ (p : Pass). HasLocked p node w) c.self.view_is (lock_had home s k keeps of node c.facts.ensures inside searched unlocked w n went (free_is n is))

pub returns-clause-busy : goal.returns-clause-busy
returns-clause-busy c =
    let s = c.self.inside.seat in
    let k = c.self.inside.kept in
    let home : Home = c.table.inside.ruled in
    let keeps = c.self.invariant.0 in
    let of : IsOf home s = subst (λ (h : Home). IsOf h s) (sym c.table.view_is) c.self.invariant.1 in
    let node = c.args.node in
    let inside : IsInside s.view = subst (λ (p : Pass). IsInside p.view) (sym c.self.view_is) c.requires.inside in
    let searched : IsSearched s.view node = subst (λ (p : Pass). IsSearched p.view node) (sym c.self.view_is) c.requires.searched in
    let unlocked : ¬ IsLocked s.view node = subst (λ (p : Pass). ¬ IsLocked p.view node) (sym c.self.view_is) c.requires.unlocked in
    let w = c.exchange-found.new.seat.view in
    let n = c.exchange-found.result in
    let went = subst (λ x. Happened home.layout (event_at home.layout s.seat TryLock (Node Lock node) (x + 1)) s.view n w) c.from-own.ensures c.exchange-found.ensures.event in
    λ is. subst (λ (p : Pass). HasMetLock p node w) c.self.view_is (lock_missed home s k keeps of node c.facts.ensures inside searched unlocked w n went (held_is n is))
