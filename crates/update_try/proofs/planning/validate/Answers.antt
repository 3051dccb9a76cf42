use Rattle.std.proofs.Common.{◌≡◌, ℕ, [], ◌∙◌, sym, subst, Some}
use Rattle.plan_laws.specs.Releases.{IsReleasing}
use Rattle.plan_laws.specs.Tries.{IsTrying}
use Rattle.plan_laws.proofs.Releases.{give_up}
use Rattle.update_try.proofs.planning.validate.Goals as goal

one_number : (a b : ℕ) → Some a ≡ Some b → a ≡ b
one_number a b is = cc

pub plan_aim-made-requires-clause-trying : goal.plan_aim-made-requires-clause-trying
plan_aim-made-requires-clause-trying c =
    let v = c.args.pass.now.view in
    let aim = c.requires.aim in
    subst (IsTrying v c.args.pass.now.number) (sym c.new-locks.ensures)
    (subst (λ n. IsTrying v n []) (one_number aim.number c.args.pass.now.number (sym aim.trying.working.own ∙ c.number_fact.ensures)) aim.trying)

pub unlock_all-requires : goal.unlock_all-requires
unlock_all-requires c =
    let p = c.plan_aim-made.new.pass in
    let ks = c.plan_aim-made.new.locks.items in
    record { locked = subst (IsReleasing p.view p.number) (sym c.deref.ensures.0) (give_up p.view p.number ks c.plan_aim-made.ensures.trying) }
