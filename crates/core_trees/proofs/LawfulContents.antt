-- A tree is lawful exactly if its contents are a map.
use Rattle.std.proofs.Common.{ℕ, ◌+◌, ◌^◌, ◌<◌, ◌≤◌, List, [], ◌∷◌, ◌++◌, arith}
use Rattle.key_map.specs.declared.pair.Pair.{Pair}
use Rattle.key_map.specs.Map.{pair, RisesFrom}
use Rattle.core_trees.specs.NamedTree.{NamedTree, Null, Branch, contents, IsWithin, LawfulLaw}
use Rattle.core_trees.proofs.Bounds.{contents-below}
use Rattle.core_trees.proofs.MapSteps.{AllBelow}

RisesFrom-less : (low lower : ℕ) (ps : List Pair) → lower ≤ low → RisesFrom low ps → RisesFrom lower ps
RisesFrom-less low lower [] le h = tt
RisesFrom-less low lower (p ∷ ps) le h = (omega (arith, h.0), h.1)

RisesFrom-append : (low middle : ℕ) (xs ys : List Pair) → low ≤ middle → RisesFrom low xs → AllBelow middle xs → RisesFrom middle ys
    → RisesFrom low (xs ++ ys)
RisesFrom-append low middle [] ys le hx below hy = RisesFrom-less middle low ys le hy
RisesFrom-append low middle (x ∷ xs) ys le hx below hy =
    (hx.0, RisesFrom-append (x.key + 1) middle xs ys (omega (arith, below.0)) hx.1 below.1 hy)

-- the parts of a list that rises, at one of its pairs
record Split (low : ℕ) (p : Pair) (xs ys : List Pair) : Type 0 where
  left : RisesFrom low xs
  below : AllBelow p.key xs
  from : low ≤ p.key
  right : RisesFrom (p.key + 1) ys

split : (low : ℕ) (p : Pair) (xs ys : List Pair) → RisesFrom low (xs ++ p ∷ ys) → Split low p xs ys
split low p [] ys h = record { left = tt; below = tt; from = h.0; right = h.1 }
split low p (x ∷ xs) ys h =
    let rest : Split (x.key + 1) p xs ys = split (x.key + 1) p xs ys h.1 in
    record { left = (h.0, rest.left); below = (omega (arith, rest.from), rest.below); from = omega (arith, h.0, rest.from); right = rest.right }

AllBelow-behind : (high : ℕ) (p : Pair) (xs ys : List Pair) → AllBelow high (xs ++ p ∷ ys) → (p.key < high) × AllBelow high ys
AllBelow-behind high p [] ys h = (h.0, h.1)
AllBelow-behind high p (x ∷ xs) ys h = AllBelow-behind high p xs ys h.1

rises : (low high : ℕ) (tree : NamedTree) → IsWithin low high tree → RisesFrom low (contents tree)
rises low high Null h = tt
rises low high (Branch s k v l r) h =
    RisesFrom-append low k (contents l) (pair k v ∷ contents r) h.0 (rises low k l h.2) (contents-below low k l h.2)
    (omega arith, rises (k + 1) high r h.3)

within : (low high : ℕ) (tree : NamedTree) → RisesFrom low (contents tree) → AllBelow high (contents tree) → IsWithin low high tree
within low high Null h below = tt
within low high (Branch s k v l r) h below =
    let parts : Split low (pair k v) (contents l) (contents r) = split low (pair k v) (contents l) (contents r) h in
    let behind : (k < high) × AllBelow high (contents r) = AllBelow-behind high (pair k v) (contents l) (contents r) below in
    (parts.from, behind.0, within low k l parts.left parts.below, within (k + 1) high r parts.right behind.1)

pub lawful_law : LawfulLaw
lawful_law tree = ((λ h. (rises 0 (2 ^ 64) tree h, contents-below 0 (2 ^ 64) tree h)), (λ h. within 0 (2 ^ 64) tree h.0 h.1))
