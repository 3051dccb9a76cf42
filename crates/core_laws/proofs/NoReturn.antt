-- A search does not come back to a node at which it has turned, as long as that is in the plain tree, nor to one whose
-- plain link leads there.
use Rattle.std.proofs.Common.{◌≡◌, ℕ, ◌<◌, ◌≤◌, [], arith, refl, ap, ◌∙◌, sym, subst, inl, inr}
use Rattle.index_words.specs.declared.side.Side.{Side}
use Rattle.index_words.specs.declared.side.Side.TheVariants.{Left, Right}
use Rattle.index_words.specs.declared.view.reading.Place.{Place}
use Rattle.index_words.specs.declared.view.reading.Place.TheVariants.{Node as AtNode}
use Rattle.core_trees.specs.Gaps.{child_of}
use Rattle.core_trees.specs.NamedTree.{NamedTree, Null, Branch}
use Rattle.core_trees.specs.Slots.{occurs, one_at}
use Rattle.core_trees.specs.SpelledTree.{Graph, IsSpelled}
use Rattle.core_trees.proofs.Slots.{one_at-same}
use Rattle.core_events.specs.Tables.{held_by}
use Rattle.core_invariant.specs.Reached.{plain_graph}
use Rattle.core_invariant.specs.SearchRule.{PlaceKey}
use Rattle.core_invariant.specs.TurnRule.{PlaceBelow}
use Rattle.core_laws.specs.Searching.{NoReturnLaw}
use Rattle.core_laws.proofs.Searching.{held_word, plain_in, search}
use Rattle.core_laws.proofs.SearchTurns.{turn_right}
use Rattle.plain_trees.specs.Turns.{HasKey, IsBelow}
use Rattle.plain_trees.proofs.Matched.{top-or-below}

-- each node stands once in the tree
abbrev pub IsOnce : NamedTree → Type 0
IsOnce tree = (x : ℕ) → occurs x tree ≤ 1

top_there : (g : Graph) (c : ℕ) (tree : NamedTree) → IsSpelled g c tree → 0 < c → 0 < occurs c tree
top_there g c Null is some = absurd (omega (arith, is, some))
top_there g c (Branch slot key val left right) is some = omega (arith, subst (λ x. one_at x slot ≡ 1) (sym is.0) (one_at-same slot))

-- a child of a node of the tree is one too
child_there : (g : Graph) (k turn c : ℕ) (to : Side) (tree : NamedTree) → IsSpelled g c tree → 0 < occurs k tree → g.child to k ≡ turn → 0 < turn → 0 < occurs turn tree
child_there g k turn c to Null is here leads some = absurd (omega (arith, here))
child_there g k turn c to (Branch slot key val left right) is here leads some =
    elim (top-or-below k slot key val left right here) as (λ _. 0 < occurs turn (Branch slot key val left right)) [
      | inl same ↦ at_top to (sym (ap (g.child to) same) ∙ leads)
      | inr (inl below) ↦ omega (arith, child_there g k turn (g.child Left slot) to left is.4 below leads some)
      | inr (inr below) ↦ omega (arith, child_there g k turn (g.child Right slot) to right is.5 below leads some)
    ]
  where
    at_top : (to : Side) → g.child to slot ≡ turn → 0 < occurs turn (Branch slot key val left right)
    at_top Left is_child = omega (arith, top_there g turn left (subst (λ x. IsSpelled g x left) is_child is.4) some)
    at_top Right is_child = omega (arith, top_there g turn right (subst (λ x. IsSpelled g x right) is_child is.5) some)

key_there : (node key : ℕ) (tree : NamedTree) → HasKey node key tree → 0 < occurs node tree
key_there node key Null is = absurd is
key_there node key (Branch slot k val left right) (inl is) = omega (arith, subst (λ x. one_at x slot ≡ 1) (sym is.0) (one_at-same slot))
key_there node key (Branch slot k val left right) (inr (inl below)) = omega (arith, key_there node key left below)
key_there node key (Branch slot k val left right) (inr (inr below)) = omega (arith, key_there node key right below)

-- a node below a turn is another one, and leads to another one
pub record IsApart (g : Graph) (k turn : ℕ) : Type 0 where
  pub other : ¬ (k ≡ turn)
  pub leads : (to : Side) → ¬ (g.child to k ≡ turn)

once_left : (slot key val : ℕ) (left right : NamedTree) → IsOnce (Branch slot key val left right) → IsOnce left
once_left slot key val left right once x = omega (arith, once x)

once_right : (slot key val : ℕ) (left right : NamedTree) → IsOnce (Branch slot key val left right) → IsOnce right
once_right slot key val left right once x = omega (arith, once x)

turn_twice : (slot key val : ℕ) (side : Side) (left right : NamedTree) → IsOnce (Branch slot key val left right) → 0 < occurs slot (child_of side left right) → ⊥
turn_twice slot key val Left left right once here = omega (arith, once slot, one_at-same slot, here)
turn_twice slot key val Right left right once here = omega (arith, once slot, one_at-same slot, here)

pub below_apart : (g : Graph) (k key turn turn_key c : ℕ) (side : Side) (tree : NamedTree) → IsSpelled g c tree → IsOnce tree → 0 < turn → IsBelow turn turn_key side k key tree → IsApart g k turn
below_apart g k key turn turn_key c side Null is once some below = absurd below
below_apart g k key turn turn_key c side (Branch slot x val left right) is once some (inl here) =
    let there : 0 < occurs k (child_of side left right) = key_there k key (child_of side left right) here.2 in
    record {
      other = λ same. turn_twice slot x val side left right once (subst (λ n. 0 < occurs n (child_of side left right)) (same ∙ here.0) there);
      leads = λ to leads.
          turn_twice slot x val side left right once
          (subst (λ n. 0 < occurs n (child_of side left right)) here.0 (child_there g k turn (g.child side slot) to (child_of side left right) (spelled side) there leads some));
    }
  where
    spelled : (side : Side) → IsSpelled g (g.child side slot) (child_of side left right)
    spelled Left = is.4
    spelled Right = is.5
below_apart g k key turn turn_key c side (Branch slot x val left right) is once some (inr (inl below)) =
    below_apart g k key turn turn_key (g.child Left slot) side left is.4 (once_left slot x val left right once) some below
below_apart g k key turn turn_key c side (Branch slot x val left right) is once some (inr (inr below)) =
    below_apart g k key turn turn_key (g.child Right slot) side right is.5 (once_right slot x val left right once) some below

pub no_return : NoReturnLaw
no_return t i v k key side turn held right at before is last h locked unmarked =
    let tree : NamedTree = right.plain_tree in
    let g : Graph = plain_graph (held_by t) in
    let said = turn_right t right i v at side turn last in
    let place : PlaceBelow g tree (AtNode k key) side turn = subst (λ (p : Place). PlaceBelow g tree p side turn) is said.below in
    let some : 0 < k = (subst (PlaceKey g.key) is (search t right i v at).key).0 in
    let here : 0 < occurs k tree = elim (plain_in t right i v at k (record { held = held; locked = locked; unmarked = unmarked })) as (λ _. 0 < occurs k tree) [
      | inl root ↦ absurd (omega (arith, root, some))
      | inr there ↦ there
    ] in
    let there : 0 < occurs turn.node tree = elim (plain_in t right i v at turn.node h) as (λ _. 0 < occurs turn.node tree) [
      | inl root ↦ absurd (omega (arith, root, said.some))
      | inr there ↦ there
    ] in
    let apart : IsApart g k turn.node
    = below_apart g k (g.key k) turn.node turn.key (g.child Right 0) side tree right.trees.spelled (λ x. omega (arith, right.trees.once x)) said.some (place there [] k refl here) in
    (apart.other, λ to leads. apart.leads to (held_word t right i v at k turn.node to held locked leads))
