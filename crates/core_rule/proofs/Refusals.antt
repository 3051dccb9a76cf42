-- The event at which a run is refused.
use Rattle.std.proofs.Common.{◌≡◌, ℕ, zero, suc, ◌+◌, ◌<◌, List, [], ◌∷◌, length, drop, get_or, cond, Bool, false, arith, ap, Some}
use Rattle.core_events.specs.declared.event.Event.{Event}
use Rattle.core_events.specs.Tables.{Table}
use Rattle.core_events.specs.Steps.{allowed, after}
use Rattle.core_rule.specs.Runs.{refused_from}

pub refused_at : (place : ℕ) (t : Table) (es : List Event) (i : ℕ) (d : Event) → i < length es → allowed t (get_or es i d) ≡ false → refused_from place t (drop i es) ≡ Some place
refused_at place t [] i d within refused = absurd (omega (arith, within))
refused_at place t (e ∷ es) zero d within refused = ap (λ (b : Bool). cond b (refused_from (place + 1) (after t e) es) (Some place)) refused
refused_at place t (e ∷ es) (suc i) d within refused = refused_at place t es i d (omega (arith, within)) refused
