-- What holds of each table that meets the rule.
use Rattle.std.proofs.Common.{◌≡◌, ℕ, List, Bool, true, ap, sym, subst, Result, Ok, Err, OnErr, is_err}
use Rattle.std.specs.List.{All}
use Rattle.index_words.specs.declared.layout.Layout.{Layout}
use Rattle.index_words.specs.declared.view.View.{View}
use Rattle.core_invariant.specs.Rule.{InRule, IsRight}
use Rattle.core_events.specs.Tables.{Table, held_by}
use Rattle.core_invariant.specs.OwnPlaces.{KnowsPlaces}
use Rattle.core_laws.specs.TreeLaw.{SpellsMap}
use Rattle.core_laws.specs.Remembered.{KeepsRemembered, RemembersSelected}
use Rattle.core_invariant.specs.FilledRule.{KnowsFilled, FilledRight}
use Rattle.core_laws.proofs.TreeLaw.{spells_map}
use Rattle.core_laws.proofs.Remembered.{remembers_selected, remembered_right, every_item}
use Rattle.core_invariant.proofs.OneView.{seat_at}

-- what each seat of a table knows of its words
pub filled_known : (t : Table) → IsRight t → KnowsFilled t
filled_known t right i j v f at here own =
    every_item (FilledRight (held_by t) v.free v.update) v.reading.filled j f here (seat_at t.layout (held_by t) t.views right.meaning i v at right.rule).filled own

pub record HasLaws (t : Table) : Type 0 where
  pub trees : SpellsMap t
  pub selected : RemembersSelected t
  pub remembered : KeepsRemembered t
  pub filled : KnowsFilled t
  pub places : All KnowsPlaces t.views

pub laws_of : (t : Table) → IsRight t → HasLaws t
laws_of t right = record { trees = spells_map t right; selected = remembers_selected t right; remembered = remembered_right t right; filled = filled_known t right; places = right.places }

-- so they hold of a table that a refusal leaves as it was
pub laws_same : (t u : Table) → IsRight t → t ≡ u → HasLaws u
laws_same t u right same = subst HasLaws same (laws_of t right)

refused_is : {T E P : Type 0} (bad : Bool) (r : Result T E) → bad ≡ is_err r → bad ≡ true → OnErr r P → P
refused_is bad (Ok x) is held same = cc
refused_is bad (Err x) is held same = same

pub laws_refused : {T E : Type 0} (z : Layout) (words : List ℕ) (views changed : List View) (bad : Bool) (r : Result T E) → InRule z words views
    → bad ≡ is_err r → bad ≡ true → OnErr r (changed ≡ views) → HasLaws (record { layout = z; words = words; views = changed })
laws_refused z words views changed bad r right is held same =
    let t : Table = record { layout = z; words = words; views = views } in
    laws_same t (record { layout = z; words = words; views = changed }) right (ap (λ (vs : List View). record { layout = z; words = words; views = vs }) (sym (refused_is bad r is held same)))
