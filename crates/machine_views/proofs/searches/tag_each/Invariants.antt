use Rattle.std.proofs.Common.{◌≡◌, ◌++◌, map, take, drop}
use Rattle.core_events.specs.Searches.{with_tag}
use Rattle.machine_views.proofs.searches.tag_each.Given as goal

abbrev pub invariant-loop-link : goal.invariant-loop-link
invariant-loop-link l = l.links ≡ map (with_tag l.node l.side l.tag) (take l.link-index l.initial.links) ++ drop l.link-index l.initial.links
