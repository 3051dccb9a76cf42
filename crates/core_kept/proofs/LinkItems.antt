-- The links that are still to be set, by the view that has them: each is an item of the view, or one that passes over a
-- successor.
use Rattle.std.proofs.Common.{◌≡◌, ℕ, ◌<◌, cond, List, [], ◌∷◌, Bool, true, false, eqb, ◌&&◌, ◌||◌, arith, refl, sym, subst, inl, inr, filter, Option, None}
use Rattle.std.specs.List.{list_any, sum_by}
use Rattle.std.proofs.lemmas.Bool.{and_from, eq-eqb, cases_lt, or_left, or_right}
use Rattle.index_words.specs.declared.layout.Layout.{Layout}
use Rattle.index_words.specs.declared.side.Side.{Side}
use Rattle.index_words.specs.declared.side.Side.TheVariants.{Right}
use Rattle.index_words.specs.declared.view.View.{View}
use Rattle.index_words.specs.declared.view.update.Unlinking.{Unlinking}
use Rattle.index_words.specs.declared.view.update.UnsetLink.{UnsetLink}
use Rattle.index_words.specs.declared.word.Field.TheVariants.{Key, Val, Link}
use Rattle.index_words.specs.declared.word.Part.TheVariants.{Child}
use Rattle.index_words.specs.declared.word.Word.TheVariants.{Stamp, Node, Entry}
use Rattle.index_words.specs.Words.{Memory}
use Rattle.key_map.specs.Lists.{count, Every, IsItem}
use Rattle.index_words.proofs.Seats.{at_item}
use Rattle.core_grace.specs.Holds.{held_slots}
use Rattle.core_trees.specs.LinkSteps.{IsLinkIn}
use Rattle.core_trees.specs.NamedTree.{NamedTree}
use Rattle.core_trees.specs.Slots.{occurs}
use Rattle.core_trees.specs.SpelledAt.{graph_at}
use Rattle.core_trees.specs.SpelledTree.{Graph}
use Rattle.core_events.specs.PlainNeeds.{is_link_of}
use Rattle.core_events.proofs.Tests.{never, either_true}
use Rattle.core_invariant.specs.Locks.{lock_count}
use Rattle.core_invariant.specs.Meanings.{Meaning}
use Rattle.core_invariant.specs.PlainRule.{unset_count, UnsetRight, SeatPlain, PlainRight}
use Rattle.core_invariant.specs.PlainTree.{is_item, is_copied, passes_over, sets_link, undone, CopiesNear, NearRight, ItemRight, SeatInTree, IsPlainTree}
use Rattle.core_invariant.specs.Reached.{plain_graph}
use Rattle.core_invariant.specs.Rule.{Rule}
use Rattle.core_invariant.proofs.Frames.{Term, term_of}
use Rattle.core_invariant.proofs.Passing.{Passing as Found, passing, both_hold, any_counted}
use Rattle.core_invariant.proofs.PlainSteps.{link_parts}
use Rattle.core_invariant.proofs.TreeNow.{names_once}
use Rattle.core_invariant.proofs.Undone.{Passing, any_item, PassesAt, passes_is, ItemIs, item_is}
use Rattle.plain_trees.specs.Matching.{Undone, IsUnset}
use Rattle.plain_trees.proofs.Matched.{led-in, one-link}

-- an item of the list that passes a test
pub record AtItem (P : UnsetLink → Type 0) (us : List UnsetLink) (k : ℕ) (side : Side) (was child : ℕ) : Type 0 where
  pub item : UnsetLink
  pub right : P item
  pub is : ItemIs k side was child item
  pub some : list_any (is_item k side was child) us ≡ true

-- some item passes another test
pub any_weaker : (test test' : UnsetLink → Bool) (us : List UnsetLink) → Every (λ y. test y ≡ true → test' y ≡ true) us → list_any test us ≡ true
    → list_any test' us ≡ true
any_weaker test test' [] all some = some
any_weaker test test' (y ∷ us) all some =
    elim (either_true (test y) (list_any test us) some) as (λ _. list_any test' (y ∷ us) ≡ true) [
      | inl here ↦ or_left (test' y) (list_any test' us) (all.0 here)
      | inr later ↦ or_right (test' y) (list_any test' us) (any_weaker test test' us all.1 later)
    ]

-- and is kept, where those that pass are
pub any_kept : (test keep : UnsetLink → Bool) (us : List UnsetLink) → Every (λ y. test y ≡ true → keep y ≡ true) us → list_any test us ≡ true
    → list_any test (filter keep us) ≡ true
any_kept test keep [] all some = some
any_kept test keep (y ∷ us) all some = kept_by (keep y) (test y) refl refl (all.0) (any_kept test keep us all.1) some
  where
    kept_by : (b c : Bool) → keep y ≡ b → test y ≡ c → (c ≡ true → b ≡ true) → (list_any test us ≡ true → list_any test (filter keep us) ≡ true)
        → (c || list_any test us) ≡ true
        → list_any test (cond b (y ∷ filter keep us) (filter keep us)) ≡ true
    kept_by true true kept is step rest some = or_left (test y) (list_any test (filter keep us)) is
    kept_by true false kept is step rest some = or_right (test y) (list_any test (filter keep us)) (rest some)
    kept_by false true kept is step rest some = absurd (never (step refl))
    kept_by false false kept is step rest some = rest some

-- a link of a copy that passes over the successor
pub passes_from : (taken : List ℕ) (unlinking : Option Unlinking) (us : List UnsetLink) (right : ℕ → ℕ) (k : ℕ) (side : Side) (was child removed successor : ℕ)
    → taken ≡ removed ∷ successor ∷ [] → unlinking ≡ None → side ≡ Right → was ≡ successor → child ≡ right k → list_any (is_copied removed k) us ≡ true
    → passes_over taken unlinking us right k side was child ≡ true
passes_from taken unlinking us right k side was child removed successor out near place only leads copied =
    subst (λ (ks : List ℕ). passes_over ks unlinking us right k side was child ≡ true) (sym out)
    (subst (λ (o : Option Unlinking). passes_over (removed ∷ successor ∷ []) o us right k side was child ≡ true) (sym near)
    (subst (λ (t : Side). passes_over (removed ∷ successor ∷ []) None us right k t was child ≡ true) (sym place)
    (and_from (list_any (is_copied removed k) us && eqb was successor) (eqb child (right k))
    (and_from (list_any (is_copied removed k) us) (eqb was successor) copied (eq-eqb was successor only)) (eq-eqb child (right k) leads))))

module _ (z : Layout) (m : Memory) (vs : List View) (g : Meaning) (rule : Rule z m vs g) (plain : PlainRight m vs g) (W : NamedTree)
    (trees : IsPlainTree (plain_graph m) vs g.tree W) where
  abbrev pub gr : Graph
  gr = plain_graph m

  abbrev pub now : Graph
  now = graph_at (λ k. m (Node Key k)) (λ k. m (Node Val k)) (λ e. m (Entry Child e)) g.bundles.number g.bundles.bundle (m Stamp)

  abbrev pub u : Undone
  u = undone gr vs

  -- what is said of an item of a view
  abbrev pub ItemOf : View → UnsetLink → Type 0
  ItemOf t y =
      UnsetRight (λ s k. m (Node (Link s) k)) now.child g.tree (held_slots t.held.nodes) y
      × ItemRight gr W t.update.taken t.update.added t.update.unlinking t.update.waiting y

  pub items_of : (j : ℕ) (t : View) → IsItem vs j t → Every (ItemOf t) t.update.unset
  items_of j t of =
      both_hold _ _ t.update.unset (at_item (SeatPlain (λ s k. m (Node (Link s) k)) now.child g.tree) vs j t of plain.seats).unset
      (at_item (SeatInTree gr W g.tree) vs j t of trees.seats).items

  -- a link that is to be set, by the view that has it: as an item, or as one that passes over a successor
  pub data SetBy (k : ℕ) (side : Side) (was child : ℕ) : Type 0 where
    by_item : (j : ℕ) (t : View) → IsItem vs j t → AtItem (ItemOf t) t.update.unset k side was child → SetBy k side was child
    by_copy : (j : ℕ) (t : View) → IsItem vs j t → (p : PassesAt t.update.taken t.update.unlinking t.update.unset (gr.child Right) k side was child)
        → Found (is_copied p.removed k) (ItemOf t) → SetBy k side was child

  pub set_by : (k : ℕ) (side : Side) (was child : ℕ) → IsUnset u k side was child → SetBy k side was child
  set_by k side was child is =
      let t : Passing (sets_link (gr.child Right) k side was child) vs = any_item (sets_link (gr.child Right) k side was child) vs is in
      elim (either_true (list_any (is_item k side was child) t.item.update.unset)
      (passes_over t.item.update.taken t.item.update.unlinking t.item.update.unset (gr.child Right) k side was child) t.passes)
      as (λ _. SetBy k side was child) [
        | inl real ↦
            let f : Found (is_item k side was child) (ItemOf t.item)
            = passing (is_item k side was child) (ItemOf t.item) t.item.update.unset (items_of t.place t.item t.at) real in
            by_item t.place t.item t.at (record { item = f.item; right = f.right; is = item_is k side was child f.item f.passes; some = real })
        | inr over ↦
            let p = passes_is t.item.update.taken t.item.update.unlinking t.item.update.unset (gr.child Right) k side was child over in
            by_copy t.place t.item t.at p (passing (is_copied p.removed k) (ItemOf t.item) t.item.update.unset (items_of t.place t.item t.at) p.copied)
      ]

  -- a copy of a near successor, by its item
  pub near_of : (t : View) (removed successor copy : ℕ) (y : UnsetLink) → t.update.taken ≡ removed ∷ successor ∷ [] → t.update.unlinking ≡ None → ItemOf t y
      → y.was ≡ removed → y.child ≡ copy
      → CopiesNear gr W removed successor copy
  near_of t removed successor copy y out near of was child =
      subst (λ c. CopiesNear gr W removed successor c) child
      (subst (λ (o : Option Unlinking). NearRight gr W (removed ∷ successor ∷ []) o y.was y.child) near
      (subst (λ (ks : List ℕ). NearRight gr W ks t.update.unlinking y.was y.child) out of.1.near) was)

  -- a node of the tree at the stamp that is locked is in the plain tree
  pub locked_in : (j : ℕ) (t : View) → IsItem vs j t → (k : ℕ) → 0 < lock_count k t → 0 < occurs k g.tree → 0 < occurs k W
  locked_in j t of = (at_item (SeatInTree gr W g.tree) vs j t of trees.seats).locked

  -- a node that is in the tree at the stamp and not in the plain tree has no links to be set
  pub new_links : (k : ℕ) → 0 < occurs k g.tree → occurs k W ≡ 0 → (side : Side) → gr.child side k ≡ now.child side k
  new_links k here fresh side =
      plain.linked k side (inr here) (elim (cases_lt 0 (sum_by (unset_count k side) vs)) as (λ _. sum_by (unset_count k side) vs ≡ 0) [
        | inr none ↦ omega (arith, none)
        | inl some ↦ absurd (never_set (term_of (unset_count k side) vs some))
      ])
    where
      never_set : Term (unset_count k side) vs → ⊥
      never_set term =
          let f : Found (is_link_of k side) (ItemOf term.item)
          = passing (is_link_of k side) (ItemOf term.item) term.item.update.unset (items_of term.place term.item term.at)
          (any_counted (is_link_of k side) term.item.update.unset term.some) in
          omega (
            arith,
            fresh,
            locked_in term.place term.item term.at k
                (subst (λ n. 0 < count n (held_slots term.item.held.nodes)) (link_parts k side f.item f.passes).0 f.right.0.held) here,
          )

  -- a child of the tree at the stamp is in it
  pub child_there : (k : ℕ) (side : Side) → IsLinkIn 0 Right g.tree k side → 0 < now.child side k → 0 < occurs (now.child side k) g.tree
  child_there k side there some = led-in now 0 Right g.tree rule.tree.spelled k side (now.child side k) there refl some

  -- two links that lead to one node there are one
  pub same_child : (k k' : ℕ) (side side' : Side) (x : ℕ) → IsLinkIn 0 Right g.tree k side → IsLinkIn 0 Right g.tree k' side' → now.child side k ≡ x
      → now.child side' k' ≡ x → 0 < x → (k ≡ k') × (side ≡ side')
  same_child k k' side side' x there there' = one-link now 0 Right g.tree rule.tree.spelled (names_once z m vs g rule) k k' side side' x there there'
