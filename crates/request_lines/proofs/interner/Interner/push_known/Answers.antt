use Rattle.std.proofs.Common.{◌≡◌, ℕ, List, [], ◌∷◌, ◌++◌, refl, ap, ◌∙◌}
use Rattle.request_lines.specs.Interned.{named}
use Rattle.request_lines.proofs.Interned.{named_more, interned_more}
use Rattle.request_lines.proofs.interner.Interner.push_known.Goals as goal

pub invariant_of-self-2 : goal.invariant_of-self-2
invariant_of-self-2 c =
    rw (c.push_reserved.ensures.items, c.in_ok-reserve.ensures.items)
    (interned_more c.self.inside.names.items c.known_or_next.new.names.items c.self.inside.order.items c.args.name.now c.in_ok-number.number c.self.invariant c.in_ok-number.ensures.known)

pub returns : goal.returns
returns c =
    let longer : c.push_reserved.new.self.items ≡ c.self.inside.order.items ++ c.in_ok-number.number ∷ [] =
    rw (c.push_reserved.ensures.items, c.in_ok-reserve.ensures.items) refl
    in
    ap (λ (order : List ℕ). named c.known_or_next.new.names.items order) longer
    ∙ named_more c.self.inside.names.items c.known_or_next.new.names.items c.self.inside.order.items c.args.name.now c.in_ok-number.number c.self.invariant c.in_ok-number.ensures.known
    ∙ ap (λ (ns : List (List ℕ)). ns ++ c.args.name.now ∷ []) c.self.view_is
