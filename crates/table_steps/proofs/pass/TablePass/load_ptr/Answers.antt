use Rattle.std.proofs.Common.{◌≡◌, ◌≤◌, arith, ap, ◌∙◌, sym, subst}
use Rattle.index_words.specs.declared.layout.Layout.{Layout}
use Rattle.core_laws.specs.ViewNeeds.{MayReadChild}
use Rattle.table_rule.specs.Homes.{Home, IsOf}
use Rattle.table_steps.specs.Loads.{IsAtSelected, FoundChild}
use Rattle.table_steps.specs.Passes.{Pass}
use Rattle.table_steps.proofs.LoadSteps.{child_asks, child_found, child_high, child_keeps}
use Rattle.table_steps.proofs.pass.TablePass.load_ptr.Goals as goal

pub load-word-requires-clause-asks : goal.load-word-requires-clause-asks
load-word-requires-clause-asks c =
    let s = c.self.inside.seat in
    let home : Home = c.table.inside.ruled in
    let of : IsOf home s = subst (λ (h : Home). IsOf h s) (sym c.table.view_is) c.self.invariant.1 in
    let may : MayReadChild s.view c.args.entry = subst (λ (p : Pass). MayReadChild p.view c.args.entry) (sym c.self.view_is) c.requires.may in
    child_asks home s of c.args.entry may

pub invariant_of-self : goal.invariant_of-self
invariant_of-self c =
    let s = c.self.inside.seat in
    let home : Home = c.table.inside.ruled in
    let of : IsOf home s = subst (λ (h : Home). IsOf h s) (sym c.table.view_is) c.self.invariant.1 in
    let may : MayReadChild s.view c.args.entry = subst (λ (p : Pass). MayReadChild p.view c.args.entry) (sym c.self.view_is) c.requires.may in
    let keeps = c.self.invariant.0 in (
      child_keeps home s of c.args.entry may c.load-word.new.seat.view c.load-word.result c.load-word.ensures.event c.self.inside.kept keeps,
      subst (λ (h : Home). IsOf h c.load-word.new.seat) c.table.view_is c.load-word.ensures.of,
    )

pub returns-clause-loads : goal.returns-clause-loads
returns-clause-loads c =
    let s = c.self.inside.seat in
    let home : Home = c.table.inside.ruled in
    let of : IsOf home s = subst (λ (h : Home). IsOf h s) (sym c.table.view_is) c.self.invariant.1 in
    let may : MayReadChild s.view c.args.entry = subst (λ (p : Pass). MayReadChild p.view c.args.entry) (sym c.self.view_is) c.requires.may in
    let w = c.load-word.new.seat.view in
    let n = c.load-word.result in
    let found : FoundChild c.args.self.now c.args.entry n w = subst (λ (p : Pass). FoundChild p c.args.entry n w) c.self.view_is (child_found home s of c.args.entry may w n c.load-word.ensures.event c.self.inside.kept.number) in
    let nodes : c.layout.result.nodes ≡ c.args.self.now.view.layout.nodes
    = ap (λ (y : Layout). y.nodes) c.layout.ensures ∙ ap (λ (y : Layout). y.nodes) (sym of.layout) ∙ ap (λ (p : Pass). p.view.layout.nodes) c.self.view_is in
    record {
      found = n;
      gives = found;
      node = λ low. c.node_or_none.ensures.node (omega (arith, low, nodes));
      other = λ high. c.node_or_none.ensures.other (omega (arith, high, nodes));
    }

pub returns-clause-selected : goal.returns-clause-selected
returns-clause-selected c =
    let s = c.self.inside.seat in
    let home : Home = c.table.inside.ruled in
    let of : IsOf home s = subst (λ (h : Home). IsOf h s) (sym c.table.view_is) c.self.invariant.1 in
    let may : MayReadChild s.view c.args.entry = subst (λ (p : Pass). MayReadChild p.view c.args.entry) (sym c.self.view_is) c.requires.may in
    let w = c.load-word.new.seat.view in
    let n = c.load-word.result in
    let found : FoundChild c.args.self.now c.args.entry n w = subst (λ (p : Pass). FoundChild p c.args.entry n w) c.self.view_is (child_found home s of c.args.entry may w n c.load-word.ensures.event c.self.inside.kept.number) in
    λ is.
    let at : IsAtSelected s.view c.args.entry = subst (λ (p : Pass). IsAtSelected p.view c.args.entry) (sym c.self.view_is) is in
    let high : n ≤ home.layout.nodes = child_high home s of c.args.entry may w n c.load-word.ensures.event at in
    let answer = c.node_or_none.ensures.node (omega (arith, high, ap (λ (y : Layout). y.nodes) c.layout.ensures)) in
    subst (λ x. FoundChild c.args.self.now c.args.entry x w) (sym answer) found

pub returns-clause-there : goal.returns-clause-there
returns-clause-there c =
    let s = c.self.inside.seat in
    let home : Home = c.table.inside.ruled in
    let of : IsOf home s = subst (λ (h : Home). IsOf h s) (sym c.table.view_is) c.self.invariant.1 in
    let nodes : c.layout.result.nodes ≡ c.args.self.now.view.layout.nodes
    = ap (λ (y : Layout). y.nodes) c.layout.ensures ∙ ap (λ (y : Layout). y.nodes) (sym of.layout) ∙ ap (λ (p : Pass). p.view.layout.nodes) c.self.view_is in
    omega (arith, c.node_or_none.ensures.there, nodes)
