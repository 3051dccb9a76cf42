-- Which nodes child links reach: a seat holds those that they reach from where its search stands.
use Rattle.std.specs.Prelude.{◌≡◌, ℕ, ◌<◌, ◌⊎◌, List, [], ◌∷◌}
use Rattle.index_words.specs.declared.side.Side.{Side}
use Rattle.index_words.specs.declared.side.Side.TheVariants.{Left, Right}
use Rattle.core_trees.specs.NamedTree.{NamedTree}
use Rattle.core_trees.specs.Slots.{occurs}
use Rattle.core_trees.specs.SpelledTree.{Graph, IsSpelled}
use Rattle.core_trees.specs.LinkSteps.{IsLink, IsLinkIn}

-- child links lead from `from` through these nodes to `to`
abbrev pub LeadTo : Graph → List ℕ → ℕ → ℕ → Type 0
LeadTo g [] from to = from ≡ to
LeadTo g (node ∷ nodes) from to =
    (from ≡ node) × (0 < node) × (LeadTo g nodes (g.child Left node) to ⊎ LeadTo g nodes (g.child Right node) to)

abbrev pub IsReached : Graph → ℕ → ℕ → Type 0
IsReached g from to = (nodes : List ℕ) × LeadTo g nodes from to

-- a node that is reached after a store of one link was reached before it, or is in the plain tree after it
abbrev pub ReachLaw : Type 0
ReachLaw =
    (g g' : Graph) (plain' : NamedTree) (node : ℕ) (side : Side)
    → ((m : ℕ) (top : Side) → ¬ IsLink node side m top → g'.child top m ≡ g.child top m)
    → IsSpelled g' (g'.child Right 0) plain' → IsLinkIn 0 Right plain' node side
    → (from to : ℕ) → 0 < to → IsReached g' from to → IsReached g from to ⊎ (0 < occurs to plain')

-- what is reached from a node of a spelled tree is in the tree
abbrev pub ReachedInLaw : Type 0
ReachedInLaw =
    (g : Graph) (plain : NamedTree) (from to : ℕ) → IsSpelled g (g.child Right 0) plain → 0 < occurs from plain → 0 < to
    → IsReached g from to → 0 < occurs to plain
