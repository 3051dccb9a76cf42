use Rattle.std.proofs.Common.{◌∙◌, ap, sym, subst}
use Rattle.bucket_terms.specs.Pool.{Adopted}
use Rattle.table_steps.specs.Parcels.{parcel_node}
use Rattle.table_steps.specs.Passes.{Pass}
use Rattle.shared_index.specs.Keys.{home_of_note, home_of_pass}
use Rattle.shared_index.specs.Shown.{shown}
use Rattle.shared_index.proofs.Adopted.{shown_adopted}
use Rattle.shared_index.proofs.KeyHomes.{note_of_table}
use Rattle.shared_index.proofs.parcel.IndexPassPoolPass.adopt.Goals as goal

pub adopt-requires : goal.adopt-requires
adopt-requires c =
    let of = note_of_table c.self.inside.pass c.parcel.inside.parcel (ap home_of_note c.parcel.view_is ∙ c.requires.of ∙ ap home_of_pass (sym c.self.view_is)) in
    record { of = record { id = of.id; layout = of.layout } }

pub returns-clause-adopted : goal.returns-clause-adopted
returns-clause-adopted c =
    let closed = ap (λ (p : Pass). p.view.reading.opened) c.self.view_is ∙ c.requires.closed in
    subst (λ (p : Pass). Adopted (shown p) (shown c.adopt.new.self)) c.self.view_is
    (shown_adopted c.self.inside.pass c.adopt.new.self (parcel_node c.parcel.inside.parcel) c.adopt.ensures.same c.own_facts.ensures.own closed c.adopt.ensures.adopted)
