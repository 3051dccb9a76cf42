use Rattle.std.proofs.Common.{◌≡◌, ◌++◌, map, take, drop}
use Rattle.core_events.specs.PlainMoves.{link_known_at}
use Rattle.machine_views.proofs.plain_links.know_link.Given as goal

abbrev pub invariant-loop-held : goal.invariant-loop-held
invariant-loop-held l = l.nodes ≡ map (link_known_at l.node l.side l.child) (take l.held-index l.initial.nodes) ++ drop l.held-index l.initial.nodes
