use Rattle.key_map.specs.Lists.{Every}
use Rattle.bundle_reads.specs.Links.{InsideAt}
use Rattle.table_steps.specs.Passes.{IsSamePass}
use Rattle.link_check.specs.TreeLinks.{HasNoLock, IsInTree}
use Rattle.link_check.proofs.compare.compare_all.Given as goal

abbrev pub invariant-nodes : goal.invariant-nodes
invariant-nodes l = InsideAt l.pass.view l.at × HasNoLock l.pass.view × Every (IsInTree l.pass.view) l.todo.items × IsSamePass l.fn.pass l.pass
