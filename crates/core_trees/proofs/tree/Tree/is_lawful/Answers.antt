use Rattle.core_trees.specs.Shape.{shape}
use Rattle.core_trees.proofs.LawfulContents.{lawful_law}
use Rattle.core_trees.proofs.tree.Tree.is_lawful.Goals as goal

pub returns-clause-map : goal.returns-clause-map
returns-clause-map c = (
  (λ yes. (lawful_law (shape c.args.self.now)).0 (c.is_between.ensures.0 yes)),
  (λ m. c.is_between.ensures.1 ((lawful_law (shape c.args.self.now)).1 m)),
)
