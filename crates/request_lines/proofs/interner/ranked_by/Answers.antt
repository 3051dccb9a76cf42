use Rattle.std.proofs.Common.{◌∙◌}
use Rattle.request_lines.proofs.Interned.{named_by_ranks, interned_by_ranks}
use Rattle.request_lines.proofs.interner.ranked_by.Goals as goal

pub of-requires-clause-interned : goal.of-requires-clause-interned
of-requires-clause-interned c =
    rw (c.in_ok-order.ensures, c.deref-2.ensures.value)
    (interned_by_ranks c.args.names.items c.put_in_order.new.names.items c.in_ok-places.places.items c.in_ok-places.ensures c.args.order.now c.requires.interned)

pub returns : goal.returns
returns c =
    c.of.ensures
    ∙ rw (c.in_ok-order.ensures, c.deref-2.ensures.value)
    (named_by_ranks c.args.names.items c.put_in_order.new.names.items c.in_ok-places.places.items c.in_ok-places.ensures c.args.order.now c.requires.interned)
