-- Who writes what, if no step was made.
use Rattle.std.proofs.Common.{◌≡◌, ℕ, List, Bool, true, refl, Result, OnErr, is_err}
use Rattle.index_words.specs.declared.view.View.{View}
use Rattle.core_events.specs.Tables.{Table}
use Rattle.core_laws.specs.Owners.{KeepsOwners}
use Rattle.core_laws.proofs.Owners.{owners_same}

-- who writes what in a table that a refusal leaves as it was
pub owners_refused : {T E : Type 0} (seat : ℕ) (t : Table) (changed : List View) (bad : Bool) (r : Result T E) → bad ≡ is_err r → bad ≡ true → OnErr r (changed ≡ t.views)
    → KeepsOwners seat t (record { layout = t.layout; words = t.words; views = changed })
owners_refused seat t changed bad r is held same = owners_same seat t (record { layout = t.layout; words = t.words; views = changed }) (λ w. refl)

pub owners_stay : (seat : ℕ) (t : Table) → KeepsOwners seat t t
owners_stay seat t = owners_same seat t t (λ w. refl)
