-- The links that an update leaves to be set, and the tags that it leaves to be raised.
use Rattle.std.proofs.Common.{◌≡◌, ℕ, ◌<◌, ◌⊎◌, cond, List, [], ◌∷◌, length, Bool, true, false, eqb, arith, ap, ◌∙◌, sym, subst, inl, inr, filter, ◌≤◌, ◌&&◌}
use Rattle.std.proofs.Common.{◌||◌, refl, map}
use Rattle.std.proofs.lemmas.Bool.{and_from, eq-eqb, and_parts, eqb-true}
use Rattle.std.specs.List.{list_any}
use Rattle.index_words.specs.declared.side.Side.{Side}
use Rattle.index_words.specs.declared.side.Side.TheVariants.{Left, Right}
use Rattle.index_words.specs.declared.view.update.UnsetLink.{UnsetLink}
use Rattle.index_words.specs.Words.{Memory, same_side}
use Rattle.index_words.specs.declared.view.update.OwedTag.{OwedTag}
use Rattle.index_words.specs.declared.word.Field.TheVariants.{Link}
use Rattle.index_words.specs.declared.word.Word.TheVariants.{Node}
use Rattle.key_map.specs.declared.update.Change.{Change}
use Rattle.key_map.specs.declared.update.Change.TheVariants.{Put, Remove}
use Rattle.key_map.specs.Lists.{count, Every}
use Rattle.core_trees.specs.NamedTree.{NamedTree, Null, Branch}
use Rattle.core_trees.specs.Search.{end_node, end_side}
use Rattle.core_trees.specs.Slots.{occurs, added_slots, NamesOnce}
use Rattle.core_trees.specs.SpelledTree.{Graph, IsSpelled}
use Rattle.core_trees.specs.TreeStep.{subtree_at, put_here, remove_here, update}
use Rattle.core_trees.specs.LinkSteps.{IsLinkIn}
use Rattle.core_trees.proofs.SpelledStep.{subtree_law, put_end_law}
use Rattle.core_grace.specs.Holds.{listed}
use Rattle.core_events.specs.PlainNeeds.{is_link_of, is_owed_at, owes}
use Rattle.core_events.specs.PlainWork.{first_node, first_parent, first_rest, unset_at, removed_links, plain_move, made_null}
use Rattle.core_events.specs.TreeMoves.{tree_after, brings, first_slot, has_key, is_branch}
use Rattle.core_events.proofs.Tests.{never}
use Rattle.core_events.specs.Versions.{top_slot}
use Rattle.core_invariant.proofs.Children.{IsChildAt, moved_link, changed_child, subtree_child, rest_child, first_leads, rest_leads, parent_there, first_some}
use Rattle.core_invariant.proofs.Children.{top_link, leads_link, inside_child, spelled_child, end_outside}
use Rattle.core_invariant.proofs.Frames.{one_counted, every_map}
use Rattle.core_invariant.proofs.Sides.{same_side-refl, same_side-true}
use Rattle.core_invariant.proofs.Passing.{Passing, passing, any_counted, both_hold}

-- the list has the link
abbrev pub Sets : ℕ → Side → List UnsetLink → Type 0
Sets k side us = 0 < length (filter (is_link_of k side) us)

first_length : (b : Bool) (u : UnsetLink) (us : List UnsetLink) → b ≡ true → 0 < length (cond b (u ∷ us) us)
first_length true u us is = omega arith
first_length false u us is = cc

later_length : (b : Bool) (u : UnsetLink) (us : List UnsetLink) → 0 < length us → 0 < length (cond b (u ∷ us) us)
later_length true u us some = omega arith
later_length false u us some = some

pub sets_first : (k : ℕ) (side : Side) (u : UnsetLink) (us : List UnsetLink) → u.node ≡ k → u.side ≡ side → Sets k side (u ∷ us)
sets_first k side u us node same =
    first_length (is_link_of k side u) u (filter (is_link_of k side) us)
    (and_from (eqb u.node k) (same_side u.side side) (eq-eqb u.node k node) (ap (same_side u.side) (sym same) ∙ same_side-refl u.side))

pub sets_later : (k : ℕ) (side : Side) (u : UnsetLink) (us : List UnsetLink) → Sets k side us → Sets k side (u ∷ us)
sets_later k side u us some = later_length (is_link_of k side u) u (filter (is_link_of k side) us) some

new_listed : (slot k : ℕ) → slot ≡ k → 0 < count k (slot ∷ [])
new_listed slot k is = subst (λ n. 0 < count n (slot ∷ [])) is (one_counted slot 0)

module _ (m : Memory) (slot : ℕ) where
  -- a link after a change at the link of `n` on `d`: it is an old one, that one, one of the list, or one of a new node
  abbrev pub Leaves : ℕ → Side → NamedTree → List UnsetLink → List ℕ → ℕ → Side → ℕ → Type 0
  Leaves n d t us new k side x = IsChildAt n d t k side x ⊎ (((n ≡ k) × (d ≡ side)) ⊎ (Sets k side us ⊎ (0 < count k new)))

  put_child : (key val n : ℕ) (d : Side) (t : NamedTree) (k : ℕ) (side : Side) (x : ℕ) → IsChildAt n d (put_here slot key val t) k side x → Leaves n d t [] (slot ∷ []) k side x
  put_child key val n d Null k side x (inl own) = inr (inl (own.0, own.1))
  put_child key val n d Null k side x (inr (inl left)) = inr (inr (inr (new_listed slot k left.0)))
  put_child key val n d Null k side x (inr (inr right)) = inr (inr (inr (new_listed slot k right.0)))
  put_child key val n d (Branch s kk v l r) k side x (inl own) = inr (inl (own.0, own.1))
  put_child key val n d (Branch s kk v l r) k side x (inr (inl left)) =
      elim (moved_link slot s Left Left l k side x left) [
        | inl old ↦ inl (inr (inl old))
        | inr link ↦ inr (inr (inr (new_listed slot k link.0)))
      ]
  put_child key val n d (Branch s kk v l r) k side x (inr (inr right)) =
      elim (moved_link slot s Right Right r k side x right) [
        | inl old ↦ inl (inr (inr old))
        | inr link ↦ inr (inr (inr (new_listed slot k link.0)))
      ]

  removed_child : (n : ℕ) (d : Side) (t : NamedTree) (k : ℕ) (side : Side) (x : ℕ) → IsChildAt n d (remove_here slot t) k side x
      → Leaves n d t (removed_links m t) (listed (first_slot (added_slots slot t))) k side x
  removed_child n d Null k side x is = inr (inl (is.0, is.1))
  removed_child n d (Branch s kk v Null r) k side x is =
      elim (moved_link n s d Right r k side x is) [
        | inl old ↦ inl (inr (inr old))
        | inr link ↦ inr (inl link)
      ]
  removed_child n d (Branch s kk v (Branch ls lk lv ll lr) Null) k side x is =
      elim (moved_link n s d Left (Branch ls lk lv ll lr) k side x is) [
        | inl old ↦ inl (inr (inl old))
        | inr link ↦ inr (inl link)
      ]
  removed_child n d (Branch s kk v (Branch ls lk lv ll lr) (Branch rs rk rv rl rr)) k side x (inl own) = inr (inl (own.0, own.1))
  removed_child n d (Branch s kk v (Branch ls lk lv ll lr) (Branch rs rk rv rl rr)) k side x (inr (inl left)) =
      elim (moved_link slot s Left Left (Branch ls lk lv ll lr) k side x left) [
        | inl old ↦ inl (inr (inl old))
        | inr link ↦ inr (inr (inr (new_listed slot k link.0)))
      ]
  removed_child n d (Branch s kk v (Branch ls lk lv ll lr) (Branch rs rk rv Null rr)) k side x (inr (inr right)) =
      elim (moved_link slot rs Right Right rr k side x right) [
        | inl old ↦ inl (inr (inr (inr (inr old))))
        | inr link ↦ inr (inr (inr (new_listed slot k link.0)))
      ]
  removed_child n d (Branch s kk v (Branch ls lk lv ll lr) (Branch rs rk rv (Branch fs fk fv fl fr) rr)) k side x (inr (inr (inl own))) =
      inr (inr (inr (new_listed slot k own.0)))
  removed_child n d (Branch s kk v (Branch ls lk lv ll lr) (Branch rs rk rv (Branch fs fk fv fl fr) rr)) k side x (inr (inr (inr (inr right)))) =
      inl (inr (inr (inr (inr right))))
  removed_child n d (Branch s kk v (Branch ls lk lv ll lr) (Branch rs rk rv (Branch fs fk fv fl fr) rr)) k side x (inr (inr (inr (inl left)))) =
      elim (rest_child rs fs fk fv fl fr k side x left) [
        | inl old ↦ inl (inr (inr (inr (inl old))))
        | inr link ↦ inr (inr (inl (sets_first k side (unset_at m (first_parent rs fs fl) Left (first_rest fl fr)) [] link.0 link.1)))
      ]

  -- each link of the tree after an update is one of the tree before, is to be set, or is one of the new node
  pub after_child : (c : Change) (key : ℕ) (tree : NamedTree) (k : ℕ) (side : Side) (x : ℕ) → IsChildAt 0 Right (tree_after c slot key tree) k side x
      → IsChildAt 0 Right tree k side x ⊎ (Sets k side (plain_move m c key slot tree).unset ⊎ (0 < count k (listed (first_slot (brings c slot key tree)))))
  after_child (Put val) key tree k side x is =
      elim (changed_child key (put_here slot key val) 0 Right tree k side x is) [
        | inl old ↦ inl old
        | inr new ↦ elim (put_child key val (end_node key 0 tree) (end_side key Right tree) (subtree_at key tree) k side x new) [
          | inl old ↦ inl (subtree_child key 0 Right tree k side x old)
          | inr (inl link) ↦ inr (inl (sets_first k side (unset_at m (end_node key 0 tree) (end_side key Right tree) slot) [] link.0 link.1))
          | inr (inr (inl none)) ↦ absurd (omega (arith, none))
          | inr (inr (inr fresh)) ↦ inr (inr fresh)
        ]
      ]
  after_child Remove key tree k side x is =
      let first : UnsetLink = unset_at m (end_node key 0 tree) (end_side key Right tree) slot in
      elim (changed_child key (remove_here slot) 0 Right tree k side x is) [
        | inl old ↦ inl old
        | inr new ↦ elim (removed_child (end_node key 0 tree) (end_side key Right tree) (subtree_at key tree) k side x new) [
          | inl old ↦ inl (subtree_child key 0 Right tree k side x old)
          | inr (inl link) ↦ inr (inl (sets_first k side first (removed_links m (subtree_at key tree)) link.0 link.1))
          | inr (inr (inl later)) ↦ inr (inl (sets_later k side first (removed_links m (subtree_at key tree)) later))
          | inr (inr (inr fresh)) ↦ inr (inr fresh)
        ]
      ]

  -- where the link to a successor leads after the update, and before it
  pub far_asked : (n : ℕ) (d : Side) (t : NamedTree) → Every (λ (u : UnsetLink). IsChildAt n d (remove_here slot t) u.node u.side u.child) (removed_links m t)
  far_asked n d (Branch s kk v (Branch ls lk lv ll lr) (Branch rs rk rv (Branch fs fk fv fl fr) rr)) = (inr (inr (inr (inl (rest_leads rs fs fk fv fl fr)))), tt)
  far_asked n d _ = tt

-- the link leads to a node
pub record LeadsOn (root : ℕ) (top : Side) (tree : NamedTree) (k : ℕ) (side : Side) : Type 0 where
  pub child : ℕ
  pub leads : IsChildAt root top tree k side child
  pub some : 0 < child

pub far_led : (m : Memory) (g : Graph) (c n : ℕ) (d : Side) (t : NamedTree) → IsSpelled g c t → Every (λ (u : UnsetLink). LeadsOn n d t u.node u.side) (removed_links m t)
far_led m g c n d (Branch s kk v (Branch ls lk lv ll lr) (Branch rs rk rv (Branch fs fk fv fl fr) rr)) spelled = (
  record {
    child = first_node fs fl;
    leads = inr (inr (inr (inl (first_leads rs fs fk fv fl fr))));
    some = first_some g (g.child Left rs) fs fk fv fl fr spelled.5.4;
  },
  tt,
)
far_led m g c n d _ spelled = tt

pub far_inside : (m : Memory) (t : NamedTree) → Every (λ (u : UnsetLink). 0 < occurs u.node t) (removed_links m t)
far_inside m (Branch s kk v (Branch ls lk lv ll lr) (Branch rs rk rv (Branch fs fk fv fl fr) rr)) = (omega (arith, parent_there rs fs fk fv fl fr), tt)
far_inside m _ = tt

-- The links that an update leaves to be set, and the tags that it leaves to be raised, over what the links lead to
-- before and after.
abbrev pub tag_of : UnsetLink → OwedTag
tag_of u = record { node = u.node; side = u.side }

-- an item that is a link's has its node and its side
pub link_parts : (k : ℕ) (side : Side) (u : UnsetLink) → is_link_of k side u ≡ true → (u.node ≡ k) × (u.side ≡ side)
link_parts k side u is = let parts = and_parts (eqb u.node k) (same_side u.side side) is in (eqb-true u.node k parts.0, same_side-true u.side side parts.1)

pub tag_parts : (k : ℕ) (side : Side) (o : OwedTag) → is_owed_at k side o ≡ true → (o.node ≡ k) × (o.side ≡ side)
tag_parts k side o is = let parts = and_parts (eqb o.node k) (same_side o.side side) is in (eqb-true o.node k parts.0, same_side-true o.side side parts.1)

-- the same link of a tree by other names
pub link_named : (tree : NamedTree) (n k : ℕ) (w side : Side) → n ≡ k → w ≡ side → IsLinkIn 0 Right tree n w → IsLinkIn 0 Right tree k side
link_named tree n k w side node same there = subst (λ x. IsLinkIn 0 Right tree x side) node (subst (λ t. IsLinkIn 0 Right tree n t) same there)

-- a tag that is owed is that of a link of the list which becomes null
record OwedItem (P : UnsetLink → Type 0) (k : ℕ) (side : Side) : Type 0 where
  link : UnsetLink
  right : P link
  node : link.node ≡ k
  side_is : link.side ≡ side
  null : link.child ≡ 0

owed_item : (P : UnsetLink → Type 0) (k : ℕ) (side : Side) (us : List UnsetLink) → Every P us → 0 < length (filter (is_owed_at k side) (made_null us)) → OwedItem P k side
owed_item P k side [] all some = absurd (omega (arith, some))
owed_item P k side (u ∷ us) all some = by (owed_item P k side us all.1) (eqb u.child 0) refl some
  where
    here : (0 < length (filter (is_owed_at k side) (made_null us)) → OwedItem P k side) → u.child ≡ 0 → (c : Bool) → (eqb u.node k && same_side u.side side) ≡ c
        → 0 < length (cond c (tag_of u ∷ filter (is_owed_at k side) (made_null us)) (filter (is_owed_at k side) (made_null us))) → OwedItem P k side
    here rest null true is some =
        let parts = and_parts (eqb u.node k) (same_side u.side side) is in
        record { link = u; right = all.0; node = eqb-true u.node k parts.0; side_is = same_side-true u.side side parts.1; null = null }
    here rest null false is some = rest some

    by : (0 < length (filter (is_owed_at k side) (made_null us)) → OwedItem P k side) → (b : Bool) → eqb u.child 0 ≡ b
        → 0 < length (filter (is_owed_at k side) (map tag_of (cond b (u ∷ filter (λ (x : UnsetLink). eqb x.child 0) us) (filter (λ (x : UnsetLink). eqb x.child 0) us)))) → OwedItem P k side
    by rest true is some = here rest (eqb-true u.child 0 is) (eqb u.node k && same_side u.side side) refl some
    by rest false is some = rest some

-- if each item of a link is to lead to none, and there is one, its tag is owed
null_listed : (k : ℕ) (side : Side) (us : List UnsetLink) → Every (λ (u : UnsetLink). is_link_of k side u ≡ true → u.child ≡ 0) us → Sets k side us → owes k side (made_null us) ≡ true
null_listed k side [] all some = absurd (omega (arith, some))
null_listed k side (u ∷ us) all some = by (null_listed k side us all.1) (is_link_of k side u) refl some (eqb u.child 0) refl
  where
    by : (Sets k side us → owes k side (made_null us) ≡ true) → (c : Bool) → is_link_of k side u ≡ c
        → 0 < length (cond c (u ∷ filter (is_link_of k side) us) (filter (is_link_of k side) us)) → (b : Bool) → eqb u.child 0 ≡ b
        → list_any (is_owed_at k side) (map tag_of (cond b (u ∷ filter (λ (x : UnsetLink). eqb x.child 0) us) (filter (λ (x : UnsetLink). eqb x.child 0) us))) ≡ true
    by rest true is more true null = ap (λ c. c || owes k side (made_null us)) is
    by rest true is more false some = absurd (never (sym some ∙ eq-eqb u.child 0 (all.0 is)))
    by rest false is more true null = ap (λ c. c || owes k side (made_null us)) is ∙ rest more
    by rest false is more false some = rest more

-- no more tags are owed of a link than the number of times it is to be set
owed_fewer : (k : ℕ) (side : Side) (us : List UnsetLink) → length (filter (is_owed_at k side) (made_null us)) ≤ length (filter (is_link_of k side) us)
owed_fewer k side [] = omega arith
owed_fewer k side (u ∷ us) = by (owed_fewer k side us) (eqb u.child 0)
  where
    more : (c : Bool) (x : OwedTag) (y : UnsetLink) (xs : List OwedTag) (ys : List UnsetLink) → length xs ≤ length ys → length (cond c (x ∷ xs) xs) ≤ length (cond c (y ∷ ys) ys)
    more true x y xs ys few = omega (arith, few)
    more false x y xs ys few = few

    less : (c : Bool) (y : UnsetLink) (xs : List OwedTag) (ys : List UnsetLink) → length xs ≤ length ys → length xs ≤ length (cond c (y ∷ ys) ys)
    less true y xs ys few = omega (arith, few)
    less false y xs ys few = few

    by : length (filter (is_owed_at k side) (made_null us)) ≤ length (filter (is_link_of k side) us) → (b : Bool)
        → length (filter (is_owed_at k side) (map tag_of (cond b (u ∷ filter (λ (x : UnsetLink). eqb x.child 0) us) (filter (λ (x : UnsetLink). eqb x.child 0) us)))) ≤ length (filter (is_link_of k side) (u ∷ us))
    by few true = more (eqb u.node k && same_side u.side side) (tag_of u) u (filter (is_owed_at k side) (made_null us)) (filter (is_link_of k side) us) few
    by few false = less (eqb u.node k && same_side u.side side) u (filter (is_owed_at k side) (made_null us)) (filter (is_link_of k side) us) few

one_most : (b : Bool) (u : UnsetLink) → length (cond b (u ∷ []) []) ≤ 1
one_most true u = omega arith
one_most false u = omega arith

-- a link is set once, if those after the first one are of other nodes, and no more than one
both_most : (b c : Bool) (u w : UnsetLink) → (b ≡ true → c ≡ true → ⊥) → length (cond b (u ∷ cond c (w ∷ []) []) (cond c (w ∷ []) [])) ≤ 1
both_most true true u w apart = absurd (apart refl refl)
both_most true false u w apart = omega arith
both_most false true u w apart = omega arith
both_most false false u w apart = omega arith

-- what holds of each link holds of each tag that is owed for one
every_null : (P : UnsetLink → Type 0) (Q : OwedTag → Type 0) (us : List UnsetLink) → ((u : UnsetLink) → P u → Q (tag_of u)) → Every P us → Every Q (made_null us)
every_null P Q [] step all = tt
every_null P Q (u ∷ us) step all = by (every_null P Q us step all.1) (eqb u.child 0)
  where
    by : Every Q (made_null us) → (b : Bool) → Every Q (map tag_of (cond b (u ∷ filter (λ (x : UnsetLink). eqb x.child 0) us) (filter (λ (x : UnsetLink). eqb x.child 0) us)))
    by rest true = (step u all.0, rest)
    by rest false = rest

-- a link of a node that is not in the tree, and that to the successor in it, are different links
once_by : (m : Memory) (k : ℕ) (side : Side) (u : UnsetLink) (t : NamedTree) → occurs u.node t ≡ 0 → length (filter (is_link_of k side) (u ∷ removed_links m t)) ≤ 1
once_by m k side u (Branch s kk v (Branch ls lk lv ll lr) (Branch rs rk rv (Branch fs fk fv fl fr) rr)) none =
    let t : NamedTree = Branch s kk v (Branch ls lk lv ll lr) (Branch rs rk rv (Branch fs fk fv fl fr) rr) in
    let w : UnsetLink = unset_at m (first_parent rs fs fl) Left (first_rest fl fr) in
    both_most (is_link_of k side u) (is_link_of k side w) u w
    (λ one two.
    let node : u.node ≡ k = eqb-true u.node k (and_parts (eqb u.node k) (same_side u.side side) one).0 in
    let far : w.node ≡ k = eqb-true w.node k (and_parts (eqb w.node k) (same_side w.side side) two).0 in
    omega (arith, none, subst (λ x. 0 < occurs x t) (far ∙ sym node) (far_inside m t).0))
once_by m k side u _ none = one_most (is_link_of k side u) u

far_was : (m : Memory) (t : NamedTree) → Every (λ (u : UnsetLink). m (Node (Link u.side) u.node) ≡ u.was) (removed_links m t)
far_was m (Branch s kk v (Branch ls lk lv ll lr) (Branch rs rk rv (Branch fs fk fv fl fr) rr)) = (refl, tt)
far_was m _ = tt

-- each link holds what it is remembered to hold
pub set_was : (m : Memory) (c : Change) (key slot : ℕ) (tree : NamedTree) → Every (λ (u : UnsetLink). m (Node (Link u.side) u.node) ≡ u.was) (plain_move m c key slot tree).unset
set_was m (Put val) key slot tree = (refl, tt)
set_was m Remove key slot tree = (refl, far_was m (subtree_at key tree))

-- what holds of each link holds of each tag that is owed
pub owed_every : (P : UnsetLink → Type 0) (Q : OwedTag → Type 0) (m : Memory) (c : Change) (key slot : ℕ) (tree : NamedTree) → ((u : UnsetLink) → P u → Q (tag_of u))
    → Every P (plain_move m c key slot tree).unset → Every Q (plain_move m c key slot tree).owed
owed_every P Q m (Put val) key slot tree step all = tt
owed_every P Q m Remove key slot tree step all = every_null P Q (plain_move m Remove key slot tree).unset step all

-- a link of both trees, which leads after the update where it is asked to
pub record IsWork (child : Side → ℕ → ℕ) (before after : NamedTree) (u : UnsetLink) : Type 0 where
  pub old : IsLinkIn 0 Right before u.node u.side
  pub still : IsLinkIn 0 Right after u.node u.side
  pub asked : child u.side u.node ≡ u.child

-- a link that led to a node before, and leads to none after
pub record IsNulled (before after : Side → ℕ → ℕ) (tree : NamedTree) (k : ℕ) (side : Side) : Type 0 where
  pub old : IsLinkIn 0 Right tree k side
  pub led : 0 < before side k
  pub null : after side k ≡ 0

module _ (m : Memory) (key slot : ℕ) (tree : NamedTree) (g g' : Graph) (spelled : IsSpelled g (g.child Right 0) tree) (once : NamesOnce 0 tree) (ends : g'.child (end_side key Right tree) (end_node key 0 tree) ≡ slot) where
  abbrev n : ℕ
  n = end_node key 0 tree

  abbrev d : Side
  d = end_side key Right tree

  abbrev t : NamedTree
  t = subtree_at key tree

  abbrev first : UnsetLink
  first = unset_at m n d slot

  first_work : (f : NamedTree → NamedTree) → IsWork g'.child tree (update key f tree) first
  first_work f = record {
    old = leads_link 0 Right tree n d (top_slot t) (subtree_child key 0 Right tree n d (top_slot t) (top_link n d t));
    still = leads_link 0 Right (update key f tree) n d (top_slot (f t)) (inside_child key f 0 Right tree n d (top_slot (f t)) (top_link n d (f t)));
    asked = ends;
  }

  first_outside : occurs n t ≡ 0
  first_outside = omega (arith, end_outside key 0 tree, once n)

  -- each link to be set once
  pub set_once : (c : Change) (k : ℕ) (side : Side) → length (filter (is_link_of k side) (plain_move m c key slot tree).unset) ≤ 1
  set_once (Put val) k side = one_most (is_link_of k side first) first
  set_once Remove k side = once_by m k side first t first_outside

  pub owed_once : (c : Change) (k : ℕ) (side : Side) → length (filter (is_owed_at k side) (plain_move m c key slot tree).owed) ≤ 1
  owed_once (Put val) k side = omega arith
  owed_once Remove k side = omega (arith, owed_fewer k side (plain_move m Remove key slot tree).unset, set_once Remove k side)

  far_work : IsSpelled g' (g'.child Right 0) (tree_after Remove slot key tree) → Every (IsWork g'.child tree (tree_after Remove slot key tree)) (removed_links m t)
  far_work after =
      every_map (λ (u : UnsetLink). LeadsOn n d t u.node u.side × IsChildAt n d (remove_here slot t) u.node u.side u.child) (IsWork g'.child tree (tree_after Remove slot key tree)) (removed_links m t)
      (λ u is.
      let asked : IsChildAt 0 Right (tree_after Remove slot key tree) u.node u.side u.child = inside_child key (remove_here slot) 0 Right tree u.node u.side u.child is.1 in
      record {
        old = leads_link 0 Right tree u.node u.side is.0.child (subtree_child key 0 Right tree u.node u.side is.0.child is.0.leads);
        still = leads_link 0 Right (tree_after Remove slot key tree) u.node u.side u.child asked;
        asked = spelled_child g' 0 Right (tree_after Remove slot key tree) u.node u.side u.child after asked;
      })
      (both_hold (λ (u : UnsetLink). LeadsOn n d t u.node u.side) (λ (u : UnsetLink). IsChildAt n d (remove_here slot t) u.node u.side u.child) (removed_links m t)
      (far_led m g (g.child d n) n d t (subtree_law g 0 key Right tree spelled)) (far_asked m slot n d t))

  -- each is a link of both trees, which leads where it is asked to
  pub set_work : (c : Change) → IsSpelled g' (g'.child Right 0) (tree_after c slot key tree) → Every (IsWork g'.child tree (tree_after c slot key tree)) (plain_move m c key slot tree).unset
  set_work (Put val) after = (first_work (put_here slot key val), tt)
  set_work Remove after = (first_work (remove_here slot), far_work after)

  -- before a removal each of its links leads to a node
  abbrev Led : UnsetLink → Type 0
  Led u = 0 < g.child u.side u.node

  top_some : (x : ℕ) (y : NamedTree) → is_branch y ≡ true → IsSpelled g x y → 0 < x
  top_some x Null found is = cc
  top_some x (Branch s kk v l r) found is = omega (arith, is.0, is.1)

  removed_led : is_branch t ≡ true → Every Led (plain_move m Remove key slot tree).unset
  removed_led found = (
    top_some (g.child d n) t found (subtree_law g 0 key Right tree spelled),
    every_map (λ (u : UnsetLink). LeadsOn n d t u.node u.side) Led (removed_links m t)
        (λ u is. omega (arith, is.some, spelled_child g 0 Right tree u.node u.side is.child spelled (subtree_child key 0 Right tree u.node u.side is.child is.leads)))
        (far_led m g (g.child d n) n d t (subtree_law g 0 key Right tree spelled)),
  )

  pub owed_null : (c : Change) → has_key c key tree ≡ true → IsSpelled g' (g'.child Right 0) (tree_after c slot key tree) → (k : ℕ) (side : Side)
      → 0 < length (filter (is_owed_at k side) (plain_move m c key slot tree).owed) → IsNulled g.child g'.child tree k side
  owed_null (Put val) found after k side some = absurd (omega (arith, some))
  owed_null Remove found after k side some =
      let Work : UnsetLink → Type 0 = IsWork g'.child tree (tree_after Remove slot key tree) in
      let us : List UnsetLink = (plain_move m Remove key slot tree).unset in
      let item : OwedItem (λ (u : UnsetLink). Work u × Led u) k side
      = owed_item (λ (u : UnsetLink). Work u × Led u) k side us (both_hold Work Led us (set_work Remove after) (removed_led found)) some in
      record {
        old = link_named tree item.link.node k item.link.side side item.node item.side_is item.right.0.old;
        led = subst (λ x. 0 < g.child side x) item.node (subst (λ w. 0 < g.child w item.link.node) item.side_is item.right.1);
        null = subst (λ x. g'.child side x ≡ 0) item.node (subst (λ w. g'.child w item.link.node ≡ 0) item.side_is (item.right.0.asked ∙ item.null));
      }

  -- a link to be set that leads to none after the update is one whose tag is owed
  pub null_owed : (c : Change) → IsSpelled g' (g'.child Right 0) (tree_after c slot key tree) → (k : ℕ) (side : Side)
      → Sets k side (plain_move m c key slot tree).unset → g'.child side k ≡ 0 → owes k side (plain_move m c key slot tree).owed ≡ true
  null_owed (Put val) after k side sets null =
      let one : Passing (is_link_of k side) (λ (u : UnsetLink). g'.child u.side u.node ≡ slot)
      = passing (is_link_of k side) (λ (u : UnsetLink). g'.child u.side u.node ≡ slot) (first ∷ []) (ends, tt) (any_counted (is_link_of k side) (first ∷ []) sets) in
      let parts = link_parts k side one.item one.passes in
      absurd (omega (arith, null, sym one.right ∙ ap (λ w. g'.child w one.item.node) parts.1 ∙ ap (g'.child side) parts.0, (put_end_law g' 0 slot key val Right tree after).1))
  null_owed Remove after k side sets null =
      null_listed k side (plain_move m Remove key slot tree).unset
      (every_map (IsWork g'.child tree (tree_after Remove slot key tree)) (λ (u : UnsetLink). is_link_of k side u ≡ true → u.child ≡ 0) (plain_move m Remove key slot tree).unset
      (λ u work is. let parts = link_parts k side u is in sym work.asked ∙ ap (λ w. g'.child w u.node) parts.1 ∙ ap (g'.child side) parts.0 ∙ null) (set_work Remove after)) sets
