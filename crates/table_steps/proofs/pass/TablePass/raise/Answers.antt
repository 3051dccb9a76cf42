use Rattle.std.proofs.Common.{◌≡◌, ℕ, ◌+◌, ◌-◌, ◌<◌, List, arith, refl, ap, ◌∙◌, sym, subst}
use Rattle.index_words.specs.declared.layout.Layout.{Layout}
use Rattle.index_words.specs.declared.view.View.{View}
use Rattle.key_map.specs.declared.update.Update.{Update}
use Rattle.index_words.specs.declared.word.Word.TheVariants.{Stamp}
use Rattle.core_updates.specs.Held.{raise_of}
use Rattle.core_updates.specs.Ready.{update_of}
use Rattle.pass_slots.specs.Owned.{KeptSlots}
use Rattle.table_rule.specs.Homes.{Asks, Home, IsOf, Sat}
use Rattle.table_rule.specs.Running.{Happened}
use Rattle.table_steps.specs.Kept.{Keeps}
use Rattle.table_steps.specs.Made.{Made}
use Rattle.table_steps.specs.Passes.{Pass}
use Rattle.table_steps.specs.Raises.{nodes_out, HasNew, HoldsEntries, HasRaised, MayRaiseBy}
use Rattle.table_steps.specs.Retires.{HasRoomFor, with_retired}
use Rattle.table_steps.specs.declared.kept.Kept.{Kept}
use Rattle.table_steps.proofs.RaiseGives.{raise_gives}
use Rattle.table_steps.proofs.RaiseKeeps.{made, made_same, raise_ahead, raise_keeps, raise_small, slots_moved, node_ready, left_ready, right_ready, apart_ready}
use Rattle.table_steps.proofs.pass.TablePass.raise.Goals as goal

-- the pass raises at the seat that it had before it found what goes out
raised_by : (x s : Sat) (home : Home) (u : Update) (n : ℕ) (w : View) → x ≡ s → Happened home.layout (raise_of home.layout x.seat u) x.view n w → Happened home.layout (raise_of home.layout s.seat u) s.view n w
raised_by x s home u n w same event = subst (λ (y : Sat). Happened home.layout (raise_of home.layout y.seat u) y.view n w) same event

pub add-found-requires-clause-asks : goal.add-found-requires-clause-asks
add-found-requires-clause-asks c =
    let s = c.self.inside.seat in
    let k : Kept = c.self.inside.kept in
    let home : Home = c.table.inside.ruled in
    let keeps : Keeps s.view k = c.self.invariant.0 in
    let of : IsOf home s = subst (λ (h : Home). IsOf h s) (sym c.table.view_is) c.self.invariant.1 in
    let u : Update = update_of k.number c.args.line c.args.key c.args.change in
    let may : MayRaiseBy home.layout s.view u c.args.new c.args.out
    = subst (λ (z : Layout). MayRaiseBy z s.view u c.args.new c.args.out) of.layout
    (subst (λ (p : Pass). MayRaiseBy p.view.layout p.view (update_of p.number c.args.line c.args.key c.args.change) c.args.new c.args.out) (sym c.self.view_is) c.requires.may) in
    subst (λ (x : Sat). Asks home x Stamp (raise_of home.layout x.seat u)) (sym c.retire_nodes.ensures.same) (record { of = of; there = refl; seat = refl; word = refl; may = λ words vs rule is. may.2.may words vs s.seat rule is })

pub overflow_add-at : goal.overflow_add-at
overflow_add-at c =
    let s = c.self.inside.seat in
    let k : Kept = c.self.inside.kept in
    let home : Home = c.table.inside.ruled in
    let keeps : Keeps s.view k = c.self.invariant.0 in
    let of : IsOf home s = subst (λ (h : Home). IsOf h s) (sym c.table.view_is) c.self.invariant.1 in
    let u : Update = update_of k.number c.args.line c.args.key c.args.change in
    let may : MayRaiseBy home.layout s.view u c.args.new c.args.out
    = subst (λ (z : Layout). MayRaiseBy z s.view u c.args.new c.args.out) of.layout
    (subst (λ (p : Pass). MayRaiseBy p.view.layout p.view (update_of p.number c.args.line c.args.key c.args.change) c.args.new c.args.out) (sym c.self.view_is) c.requires.may) in
    let ready : HasNew s.view c.args.new = subst (λ (p : Pass). HasNew p.view c.args.new) (sym c.self.view_is) c.requires.new in
    let held = subst (λ (p : Pass). (es : List ℕ) × HoldsEntries p.view (nodes_out c.args.out) es) (sym c.self.view_is) c.requires.known in
    let w : View = c.add-found.new.seat.view in
    let at : ℕ = c.add-found.result + 1 in
    let gives : HasRaised s.view u c.args.new c.args.out at w
    = raise_gives home.layout s.seat u s.view w of.layout c.add-found.result (raised_by c.retire_nodes.new.seat s home u c.add-found.result w c.retire_nodes.ensures.same c.add-found.ensures.event) c.args.new c.args.out held.0 may ready held.1 in
    omega (arith, raise_small s.view w u c.args.new c.args.out at gives c.facts-2.ensures)

pub take_new-requires-clause-node : goal.take_new-requires-clause-node
take_new-requires-clause-node c =
    let s = c.self.inside.seat in
    let k : Kept = c.self.inside.kept in
    let home : Home = c.table.inside.ruled in
    let keeps : Keeps s.view k = c.self.invariant.0 in
    let of : IsOf home s = subst (λ (h : Home). IsOf h s) (sym c.table.view_is) c.self.invariant.1 in
    let ready : HasNew s.view c.args.new = subst (λ (p : Pass). HasNew p.view c.args.new) (sym c.self.view_is) c.requires.new in
    node_ready s.view c.facts.ensures k keeps c.args.new ready

pub take_new-requires-clause-left : goal.take_new-requires-clause-left
take_new-requires-clause-left c =
    let s = c.self.inside.seat in
    let k : Kept = c.self.inside.kept in
    let home : Home = c.table.inside.ruled in
    let keeps : Keeps s.view k = c.self.invariant.0 in
    let of : IsOf home s = subst (λ (h : Home). IsOf h s) (sym c.table.view_is) c.self.invariant.1 in
    let ready : HasNew s.view c.args.new = subst (λ (p : Pass). HasNew p.view c.args.new) (sym c.self.view_is) c.requires.new in
    left_ready s.view c.facts.ensures k keeps c.args.new ready

pub take_new-requires-clause-right : goal.take_new-requires-clause-right
take_new-requires-clause-right c =
    let s = c.self.inside.seat in
    let k : Kept = c.self.inside.kept in
    let home : Home = c.table.inside.ruled in
    let keeps : Keeps s.view k = c.self.invariant.0 in
    let of : IsOf home s = subst (λ (h : Home). IsOf h s) (sym c.table.view_is) c.self.invariant.1 in
    let ready : HasNew s.view c.args.new = subst (λ (p : Pass). HasNew p.view c.args.new) (sym c.self.view_is) c.requires.new in
    right_ready s.view c.facts.ensures k keeps c.args.new ready

pub take_new-requires-clause-apart : goal.take_new-requires-clause-apart
take_new-requires-clause-apart c =
    let s = c.self.inside.seat in
    let k : Kept = c.self.inside.kept in
    let home : Home = c.table.inside.ruled in
    let keeps : Keeps s.view k = c.self.invariant.0 in
    let of : IsOf home s = subst (λ (h : Home). IsOf h s) (sym c.table.view_is) c.self.invariant.1 in
    let ready : HasNew s.view c.args.new = subst (λ (p : Pass). HasNew p.view c.args.new) (sym c.self.view_is) c.requires.new in
    apart_ready s.view c.facts.ensures k keeps c.args.new ready

pub retire_nodes-requires : goal.retire_nodes-requires
retire_nodes-requires c =
    let s = c.self.inside.seat in
    let k : Kept = c.self.inside.kept in
    let home : Home = c.table.inside.ruled in
    let keeps : Keeps s.view k = c.self.invariant.0 in
    let of : IsOf home s = subst (λ (h : Home). IsOf h s) (sym c.table.view_is) c.self.invariant.1 in
    let u : Update = update_of k.number c.args.line c.args.key c.args.change in
    let may : MayRaiseBy s.view.layout s.view u c.args.new c.args.out
    = subst (λ (p : Pass). MayRaiseBy p.view.layout p.view (update_of p.number c.args.line c.args.key c.args.change) c.args.new c.args.out) (sym c.self.view_is) c.requires.may in
    let ready : HasNew s.view c.args.new = subst (λ (p : Pass). HasNew p.view c.args.new) (sym c.self.view_is) c.requires.new in
    let held = subst (λ (p : Pass). (es : List ℕ) × HoldsEntries p.view (nodes_out c.args.out) es) (sym c.self.view_is) c.requires.known in
    let left : 0 < s.view.history.left = subst (λ (p : Pass). 0 < p.view.history.left) (sym c.self.view_is) c.requires.can.left in
    let ahead = raise_ahead s.view c.facts.ensures u c.args.new c.args.out held.0 k keeps left may ready held.1 in
    let room : HasRoomFor (nodes_out c.args.out) ahead.entries s.view.layout.entries c.take_new.new.self
    = subst (HasRoomFor (nodes_out c.args.out) ahead.entries s.view.layout.entries) (sym c.take_new.ensures) ahead.room in
    record {
      of = of;
      entries = (
        ahead.entries,
        ahead.holds,
        subst (λ (z : Layout). HasRoomFor (nodes_out c.args.out) ahead.entries z.entries c.take_new.new.self) (of.layout ∙ sym c.layout-limit.ensures) room,
      );
    }

pub invariant_of-self : goal.invariant_of-self
invariant_of-self c =
    let s = c.self.inside.seat in
    let k : Kept = c.self.inside.kept in
    let home : Home = c.table.inside.ruled in
    let keeps : Keeps s.view k = c.self.invariant.0 in
    let of : IsOf home s = subst (λ (h : Home). IsOf h s) (sym c.table.view_is) c.self.invariant.1 in
    let u : Update = update_of k.number c.args.line c.args.key c.args.change in
    let may : MayRaiseBy home.layout s.view u c.args.new c.args.out
    = subst (λ (z : Layout). MayRaiseBy z s.view u c.args.new c.args.out) of.layout
    (subst (λ (p : Pass). MayRaiseBy p.view.layout p.view (update_of p.number c.args.line c.args.key c.args.change) c.args.new c.args.out) (sym c.self.view_is) c.requires.may) in
    let ready : HasNew s.view c.args.new = subst (λ (p : Pass). HasNew p.view c.args.new) (sym c.self.view_is) c.requires.new in
    let held = subst (λ (p : Pass). (es : List ℕ) × HoldsEntries p.view (nodes_out c.args.out) es) (sym c.self.view_is) c.requires.known in
    let w : View = c.add-found.new.seat.view in
    let at : ℕ = c.add-found.result + 1 in
    let gives : HasRaised s.view u c.args.new c.args.out at w
    = raise_gives home.layout s.seat u s.view w of.layout c.add-found.result (raised_by c.retire_nodes.new.seat s home u c.add-found.result w c.retire_nodes.ensures.same c.add-found.ensures.event) c.args.new c.args.out held.0 may ready held.1 in
    let left : 0 < s.view.history.left = subst (λ (p : Pass). 0 < p.view.history.left) (sym c.self.view_is) c.requires.can.left in
    let slots : c.retire_nodes.new.slots ≡ slots_moved s.view w u c.args.new c.args.out at gives k keeps left
    = c.retire_nodes.ensures.retired gives.entries gives.holds ∙ ap (λ (x : KeptSlots). with_retired (nodes_out c.args.out) gives.entries x) c.take_new.ensures in
    let updates : c.add.new.self ≡ made s.view w u c.args.new c.args.out at gives k keeps left
    = made_same c.add.new.self (made s.view w u c.args.new c.args.out at gives k keeps left) c.add.ensures.updates c.add.ensures.room in (
      subst (λ (x : KeptSlots). Keeps w (record { number = k.number; section_word = k.section_word; left = k.left - 1; opened = k.opened; slots = x; updates = c.add.new.self; raised = at })) (sym slots)
          (subst (λ (m : Made). Keeps w (record { number = k.number; section_word = k.section_word; left = k.left - 1; opened = k.opened; slots = slots_moved s.view w u c.args.new c.args.out at gives k keeps left; updates = m; raised = at })) (sym updates)
          (raise_keeps s.view w u c.args.new c.args.out at gives k keeps left)),
      subst (λ (h : Home). IsOf h c.add-found.new.seat) c.table.view_is c.add-found.ensures.of,
    )

pub returns-clause-gives : goal.returns-clause-gives
returns-clause-gives c =
    let s = c.self.inside.seat in
    let k : Kept = c.self.inside.kept in
    let home : Home = c.table.inside.ruled in
    let keeps : Keeps s.view k = c.self.invariant.0 in
    let of : IsOf home s = subst (λ (h : Home). IsOf h s) (sym c.table.view_is) c.self.invariant.1 in
    let u : Update = update_of k.number c.args.line c.args.key c.args.change in
    let may : MayRaiseBy home.layout s.view u c.args.new c.args.out
    = subst (λ (z : Layout). MayRaiseBy z s.view u c.args.new c.args.out) of.layout
    (subst (λ (p : Pass). MayRaiseBy p.view.layout p.view (update_of p.number c.args.line c.args.key c.args.change) c.args.new c.args.out) (sym c.self.view_is) c.requires.may) in
    let ready : HasNew s.view c.args.new = subst (λ (p : Pass). HasNew p.view c.args.new) (sym c.self.view_is) c.requires.new in
    let held = subst (λ (p : Pass). (es : List ℕ) × HoldsEntries p.view (nodes_out c.args.out) es) (sym c.self.view_is) c.requires.known in
    let w : View = c.add-found.new.seat.view in
    let at : ℕ = c.add-found.result + 1 in
    let gives : HasRaised s.view u c.args.new c.args.out at w
    = raise_gives home.layout s.seat u s.view w of.layout c.add-found.result (raised_by c.retire_nodes.new.seat s home u c.add-found.result w c.retire_nodes.ensures.same c.add-found.ensures.event) c.args.new c.args.out held.0 may ready held.1 in
    subst (λ (p : Pass). HasRaised p.view (update_of p.number c.args.line c.args.key c.args.change) c.args.new c.args.out at w) c.self.view_is gives
