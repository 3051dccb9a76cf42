use Rattle.std.proofs.Common.{ap, arith}
use Rattle.index_words.specs.declared.layout.Layout.{Layout}
use Rattle.table_steps.proofs.There.{nodes_few, entries_few}
use Rattle.table_steps.proofs.pass.TablePass.owned_slots.Goals as goal

pub within-nodes-requires : goal.within-nodes-requires
within-nodes-requires c = omega (arith, nodes_few c.args.self.now.view c.facts.ensures, c.owned_nodes.ensures, ap (λ (z : Layout). z.nodes) c.layout-layout.ensures)

pub within-entries-requires : goal.within-entries-requires
within-entries-requires c = omega (arith, entries_few c.args.self.now.view c.facts.ensures, c.owned_entries.ensures, ap (λ (z : Layout). z.entries) c.layout-layout.ensures)

pub within-free_nodes-requires : goal.within-free_nodes-requires
within-free_nodes-requires c = omega (arith, nodes_few c.args.self.now.view c.facts.ensures, c.free_nodes.ensures, ap (λ (z : Layout). z.nodes) c.layout-layout.ensures)
