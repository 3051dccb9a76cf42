-- What an update leaves to be done at plain links, by the links of the tree.
use Rattle.std.proofs.Common.{◌≡◌, ℕ, ◌+◌, ◌^◌, ◌<◌, inl, inr, cond, List, [], ◌∷◌, map, filter, Bool, true, false, eqb, refl, ap, sym, ◌∙◌, subst, arith, Option, Some, None}
use Rattle.std.specs.List.{list_all}
use Rattle.std.proofs.lemmas.Bool.{and_from}
use Rattle.index_words.specs.declared.side.Side.{Side}
use Rattle.index_words.specs.declared.side.Side.TheVariants.{Left, Right}
use Rattle.key_map.specs.declared.update.Change.{Change}
use Rattle.key_map.specs.declared.update.Change.TheVariants.{Put, Remove}
use Rattle.index_words.specs.declared.view.View.{View}
use Rattle.index_words.specs.declared.view.update.OwedTag.{OwedTag}
use Rattle.index_words.specs.declared.view.update.Unlinking.{Unlinking}
use Rattle.index_words.specs.declared.view.update.UnsetLink.{UnsetLink}
use Rattle.index_words.specs.Words.{Memory}
use Rattle.core_trees.specs.NamedTree.{NamedTree, Null, Branch, IsWithin}
use Rattle.core_trees.specs.Search.{end_node, end_side, EndsAt}
use Rattle.core_trees.specs.Slots.{first_slots}
use Rattle.core_trees.specs.SpelledTree.{Graph, IsSpelled}
use Rattle.core_trees.specs.TreeStep.{subtree_at, first_pair}
use Rattle.core_trees.specs.LinkSteps.{IsTreeAt, IsChildLink, IsOtherChild, IsNext}
use Rattle.core_trees.proofs.Bounds.{first-within}
use Rattle.core_trees.proofs.Links.Ends.{HangsAt}
use Rattle.core_trees.proofs.Links.Next.{bounds, within_right, next_is, next_ends}
use Rattle.core_trees.proofs.Links.Parts.{at_link, spelled_below, no_child}
use Rattle.core_trees.proofs.Updates.{end_node-left, end_node-here, end_side-left, end_side-here}
use Rattle.core_events.specs.LoadMoves.{locks}
use Rattle.core_events.specs.PlainWork.{first_node, first_parent, first_rest, unset_at, far_links, far_successor, removed_links, removed_successor, made_null, plain_move}
use Rattle.core_events.specs.TreeMoves.{sets_locked}
use Rattle.core_events.specs.Versions.{top_slot}
use Rattle.core_updates.specs.SetLinks.{SetLink, LeavesPlain, set_to, set_of, nulls_of}

-- the first node of a tree, and where the search for its key ends
first_is : (s k v : ℕ) (l r : NamedTree) → first_slots (Branch s k v l r) ≡ first_node s l ∷ []
first_is s k v Null r = refl
first_is s k v (Branch t c d l r) r' = first_is t c d l r

node_first : (low high p s k v : ℕ) (l r : NamedTree) → IsWithin low high (Branch s k v l r) → end_node (first_pair k v l).key p (Branch s k v l r) ≡ first_parent p s l
node_first low high p s k v Null r within = end_node-here k s k v Null r p refl
node_first low high p s k v (Branch t c d l r) r' within =
    end_node-left (first_pair c d l).key s k v (Branch t c d l r) r' p (first-within low k t c d l r within.2).1 ∙ node_first low k s t c d l r within.2

side_first : (low high s k v : ℕ) (l r : NamedTree) → IsWithin low high (Branch s k v l r) → end_side (first_pair k v l).key Left (Branch s k v l r) ≡ Left
side_first low high s k v Null r within = end_side-here k s k v Null r Left refl
side_first low high s k v (Branch t c d l r) r' within =
    end_side-left (first_pair c d l).key s k v (Branch t c d l r) r' Left (first-within low k t c d l r within.2).1 ∙ side_first low k t c d l r within.2

-- the child to its right
top_spelled : (g : Graph) (c : ℕ) (t : NamedTree) → IsSpelled g c t → top_slot t ≡ c
top_spelled g c Null spelled = sym spelled
top_spelled g c (Branch s k v l r) spelled = sym spelled.0

rest_spelled : (g : Graph) (c s k v : ℕ) (l r : NamedTree) → IsSpelled g c (Branch s k v l r) → first_rest l r ≡ g.child Right (first_node s l)
rest_spelled g c s k v Null r spelled = top_spelled g (g.child Right s) r spelled.5
rest_spelled g c s k v (Branch t a b l r) r' spelled = rest_spelled g (g.child Left s) t a b l r spelled.4

head_is : (a b : ℕ) → (a ∷ []) ≡ (b ∷ []) → a ≡ b
head_is a b e = cc

left≢right : Left ≡ Right → ⊥
left≢right e = cc

-- the one link that is changed below a removed node with these children, and none
abbrev pub FarIs : Memory → ℕ → ℕ → ℕ → Side → ℕ → NamedTree → NamedTree → Type 0
FarIs m node next below turn rest l r =
    (far_links m l r ≡ unset_at m below turn rest ∷ [])
    × (far_successor node l r ≡ Some (record { successor = next; parent = below; side = turn; replaced = node }))

abbrev pub NoFar : Memory → ℕ → NamedTree → NamedTree → Type 0
NoFar m node l r = (far_links m l r ≡ []) × (far_successor node l r ≡ None)

no_left : (m : Memory) (node : ℕ) (l r : NamedTree) → l ≡ Null → NoFar m node l r
no_left m node l r is = subst (λ t. NoFar m node t r) (sym is) (refl, refl)

no_right : (m : Memory) (node : ℕ) (l r : NamedTree) → r ≡ Null → NoFar m node l r
no_right m node l r is = subst (NoFar m node l) (sym is) (by l)
  where
    by : (t : NamedTree) → NoFar m node t Null
    by Null = (refl, refl)
    by (Branch s k v left right) = (refl, refl)

module _ (m : Memory) (g : Graph) (root parent node : ℕ) (top side : Side) (tree : NamedTree) (at : IsTreeAt g root top tree) (leads : IsChildLink g root top tree parent side node) where
  abbrev hangs : HangsAt g 0 (2 ^ 64) parent side node root top tree
  hangs = at_link g root parent node top side tree at leads

  -- with at most one child no other link is changed
  pub lift_far : (child : ℕ) → IsOtherChild g node child → NoFar m node hangs.left hangs.right
  lift_far child (inl one) = no_left m node hangs.left hangs.right (no_child g (g.child Left node) hangs.left (spelled_below g root parent node top side tree at leads).4 one.0)
  lift_far child (inr one) = no_right m node hangs.left hangs.right (no_child g (g.child Right node) hangs.right (spelled_below g root parent node top side tree at leads).5 one.0)

  module _ (below next : ℕ) (turn : Side) (left : 0 < g.child Left node) (right : 0 < g.child Right node) (goes : IsNext g root top tree node below turn next) where
    some_left : hangs.left ≡ Null → ⊥
    some_left none = omega (arith, left, subst (IsSpelled g (g.child Left node)) none (spelled_below g root parent node top side tree at leads).4)

    some_right : hangs.right ≡ Null → ⊥
    some_right none = omega (arith, right, subst (IsSpelled g (g.child Right node)) none (spelled_below g root parent node top side tree at leads).5)

    module _ (s k v : ℕ) (l r : NamedTree) (is : hangs.right ≡ Branch s k v l r) where
      within : IsWithin (g.key node + 1) (bounds g root parent node below next top side turn tree at leads goes).high' (Branch s k v l r)
      within = within_right g root parent node below next top side turn tree at leads goes s k v l r is

      key : (first_pair k v l).key ≡ g.key next
      key = (next_is g root parent node below next top side turn tree at leads goes s k v l r is).key

      ends : EndsAt (first_pair k v l).key below turn node Right (Branch s k v l r)
      ends =
          subst (λ (x : ℕ). EndsAt x below turn node Right (Branch s k v l r)) (sym key)
          (subst (EndsAt (g.key next) below turn node Right) is (next_ends g root parent node below next top side turn tree at leads goes s k v l r is))

      parent_is : first_parent node s l ≡ below
      parent_is = sym (node_first (g.key node + 1) (bounds g root parent node below next top side turn tree at leads goes).high' node s k v l r within) ∙ ends.0

      next_node : first_node s l ≡ next
      next_node = head_is (first_node s l) next (sym (first_is s k v l r) ∙ (next_is g root parent node below next top side turn tree at leads goes s k v l r is).slots)

      rest_is : first_rest l r ≡ g.child Right next
      rest_is =
          rest_spelled g (g.child Right node) s k v l r (subst (IsSpelled g (g.child Right node)) is (spelled_below g root parent node top side tree at leads).5)
          ∙ ap (g.child Right) next_node

    -- where the next node is below the left link of the right child
    deep_side : (s k v t c d : ℕ) (l r r' : NamedTree) → hangs.right ≡ Branch s k v (Branch t c d l r) r' → Left ≡ turn
    deep_side s k v t c d l r r' is =
        let high = (bounds g root parent node below next top side turn tree at leads goes).high' in
        let inside : IsWithin (g.key node + 1) high (Branch s k v (Branch t c d l r) r') = within s k v (Branch t c d l r) r' is in
        sym (end_side-left (first_pair c d l).key s k v (Branch t c d l r) r' Right (first-within (g.key node + 1) k t c d l r inside.2).1
        ∙ side_first (g.key node + 1) k t c d l r inside.2)
        ∙ (ends s k v (Branch t c d l r) r' is).1

    deep_by : ¬ (below ≡ node) → (l r : NamedTree) → hangs.left ≡ l → hangs.right ≡ r → FarIs m node next below turn (g.child Right next) l r
    deep_by apart Null r is_left is = absurd (some_left is_left)
    deep_by apart (Branch ls lk lv ll lr) Null is_left is = absurd (some_right is)
    deep_by apart (Branch ls lk lv ll lr) (Branch s k v Null r) is_left is = absurd (apart (sym (parent_is s k v Null r is)))
    deep_by apart (Branch ls lk lv ll lr) (Branch s k v (Branch t c d l r) r') is_left is =
        let up : first_parent s t l ≡ below = parent_is s k v (Branch t c d l r) r' is in
        let on : Left ≡ turn = deep_side s k v t c d l r r' is in
        let rest : first_rest l r ≡ g.child Right next = rest_is s k v (Branch t c d l r) r' is in
        let slot : first_node t l ≡ next = next_node s k v (Branch t c d l r) r' is in (
          ap (λ (x : ℕ). unset_at m x Left (first_rest l r) ∷ []) up ∙ ap (λ (w : Side). unset_at m below w (first_rest l r) ∷ []) on
              ∙ ap (λ (x : ℕ). unset_at m below turn x ∷ []) rest,
          ap (λ (x : ℕ). named x (first_parent s t l) Left) slot ∙ ap (λ (x : ℕ). named next x Left) up ∙ ap (named next below) on,
        )
      where
        named : ℕ → ℕ → Side → Option Unlinking
        named x p w = Some (record { successor = x; parent = p; side = w; replaced = node })

    pub deep_far : ¬ (below ≡ node) → FarIs m node next below turn (g.child Right next) hangs.left hangs.right
    deep_far apart = deep_by apart hangs.left hangs.right refl refl

    near_by : turn ≡ Right → (l r : NamedTree) → hangs.left ≡ l → hangs.right ≡ r → NoFar m node l r
    near_by on (Branch ls lk lv ll lr) (Branch s k v (Branch t c d l r) r') is_left is = absurd (left≢right (deep_side s k v t c d l r r' is ∙ on))
    near_by on _ _ is_left is = (refl, refl)

    pub near_far : turn ≡ Right → NoFar m node hangs.left hangs.right
    near_far on = near_by on hangs.left hangs.right refl refl

-- tags of links that become null
nulls_same : (us : List UnsetLink) → made_null us ≡ nulls_of (map set_of us)
nulls_same [] = refl
nulls_same (u ∷ us) = by (eqb u.child 0) ∙ ap (λ os. cond (eqb u.child 0) (record { node = u.node; side = u.side } ∷ os) os) (nulls_same us)
  where
    tag : UnsetLink → OwedTag
    tag x = record { node = x.node; side = x.side }

    by : (b : Bool) → map tag (cond b (u ∷ filter (λ (x : UnsetLink). eqb x.child 0) us) (filter (λ (x : UnsetLink). eqb x.child 0) us)) ≡ cond b (tag u ∷ made_null us) (made_null us)
    by true = refl
    by false = refl

-- the link at which a search ends
abbrev Changed : Memory → ℕ → ℕ → NamedTree → UnsetLink
Changed m key slot tree = unset_at m (end_node key 0 tree) (end_side key Right tree) slot

changed_is : (m : Memory) (key slot node : ℕ) (side : Side) (tree : NamedTree) → EndsAt key node side 0 Right tree → set_of (Changed m key slot tree) ≡ set_to node side slot
changed_is m key slot node side tree ends = ap (λ n. set_to n (end_side key Right tree) slot) ends.0 ∙ ap (λ w. set_to node w slot) ends.1

-- what an update leaves, and that the nodes of its links are locked
pub record IsLeft (m : Memory) (v : View) (change : Change) (key slot : ℕ) (tree : NamedTree) (sets : List SetLink) (last : Option Unlinking) : Type 0 where
  pub leaves : LeavesPlain change sets last (plain_move m change key slot tree)
  pub locked : list_all (sets_locked v) (plain_move m change key slot tree).unset ≡ true

pub left_put : (m : Memory) (v : View) (val key slot node : ℕ) (side : Side) (tree : NamedTree) → EndsAt key node side 0 Right tree → locks node v.held.nodes ≡ true
    → IsLeft m v (Put val) key slot tree (set_to node side slot ∷ []) None
left_put m v val key slot node side tree ends locked = record {
  leaves = record { unset = ap (λ s. s ∷ []) (changed_is m key slot node side tree ends); owed = refl; last = refl };
  locked = and_from (locks (end_node key 0 tree) v.held.nodes) true (ap (λ n. locks n v.held.nodes) ends.0 ∙ locked) refl;
}

pub left_removal : (m : Memory) (v : View) (key slot node : ℕ) (side : Side) (tree : NamedTree) (more : List UnsetLink) (last : Option Unlinking) → EndsAt key node side 0 Right tree
    → removed_links m (subtree_at key tree) ≡ more → removed_successor (subtree_at key tree) ≡ last → locks node v.held.nodes ≡ true → list_all (sets_locked v) more ≡ true
    → IsLeft m v Remove key slot tree (set_to node side slot ∷ map set_of more) last
left_removal m v key slot node side tree more last ends links successor locked others =
    let sets : map set_of (Changed m key slot tree ∷ removed_links m (subtree_at key tree)) ≡ set_to node side slot ∷ map set_of more
    = ap (λ s. s ∷ map set_of (removed_links m (subtree_at key tree))) (changed_is m key slot node side tree ends) ∙ ap (λ us. set_to node side slot ∷ map set_of us) links in
    record {
      leaves = record {
        unset = sets;
        owed = nulls_same (Changed m key slot tree ∷ removed_links m (subtree_at key tree)) ∙ ap nulls_of sets;
        last = successor;
      };
      locked = and_from (locks (end_node key 0 tree) v.held.nodes) (list_all (sets_locked v) (removed_links m (subtree_at key tree)))
          (ap (λ n. locks n v.held.nodes) ends.0 ∙ locked) (ap (list_all (sets_locked v)) links ∙ others);
    }
