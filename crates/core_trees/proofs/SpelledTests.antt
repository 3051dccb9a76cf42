-- The test for a spelled tree holds exactly if the tree is spelled.
use Rattle.std.proofs.Common.{◌≡◌, ℕ, true, eqb, ltb, ◌&&◌}
use Rattle.std.proofs.lemmas.Bool.{eqb-true, ltb-true, and_parts, and_from, eq-eqb, lt-ltb}
use Rattle.index_words.specs.declared.side.Side.TheVariants.{Left, Right}
use Rattle.core_trees.specs.NamedTree.{NamedTree, Null, Branch}
use Rattle.core_trees.specs.SpelledTree.{Graph, IsSpelled, spells}

-- what meets the test is spelled
pub spells_is : (g : Graph) (c : ℕ) (tree : NamedTree) → spells g c tree ≡ true → IsSpelled g c tree
spells_is g c Null is = eqb-true c 0 is
spells_is g c (Branch s k v l r) is =
    let left = spells g (g.child Left s) l in
    let right = spells g (g.child Right s) r in
    let five = and_parts (eqb c s && ltb 0 s && eqb (g.key s) k && eqb (g.val s) v && left) right is in
    let four = and_parts (eqb c s && ltb 0 s && eqb (g.key s) k && eqb (g.val s) v) left five.0 in
    let three = and_parts (eqb c s && ltb 0 s && eqb (g.key s) k) (eqb (g.val s) v) four.0 in
    let two = and_parts (eqb c s && ltb 0 s) (eqb (g.key s) k) three.0 in
    let one = and_parts (eqb c s) (ltb 0 s) two.0 in
    (eqb-true c s one.0, ltb-true 0 s one.1, eqb-true (g.key s) k two.1, eqb-true (g.val s) v three.1, spells_is g (g.child Left s) l four.1, spells_is g (g.child Right s) r five.1)

-- and what is spelled meets it
pub spelled_tests : (g : Graph) (c : ℕ) (tree : NamedTree) → IsSpelled g c tree → spells g c tree ≡ true
spelled_tests g c Null is = eq-eqb c 0 is
spelled_tests g c (Branch s k v l r) is =
    let left = spells g (g.child Left s) l in
    let right = spells g (g.child Right s) r in
    and_from (eqb c s && ltb 0 s && eqb (g.key s) k && eqb (g.val s) v && left) right
    (and_from (eqb c s && ltb 0 s && eqb (g.key s) k && eqb (g.val s) v) left
    (and_from (eqb c s && ltb 0 s && eqb (g.key s) k) (eqb (g.val s) v)
    (and_from (eqb c s && ltb 0 s) (eqb (g.key s) k)
    (and_from (eqb c s) (ltb 0 s) (eq-eqb c s is.0) (lt-ltb 0 s is.1)) (eq-eqb (g.key s) k is.2))
    (eq-eqb (g.val s) v is.3)) (spelled_tests g (g.child Left s) l is.4)) (spelled_tests g (g.child Right s) r is.5)
