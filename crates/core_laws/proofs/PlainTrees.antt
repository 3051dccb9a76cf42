-- What the rule says of plain links.
use Rattle.std.proofs.Common.{◌≡◌, ℕ, ◌+◌, ◌^◌, ◌<◌, ◌≤◌, ◌⊎◌, cond, List, [], length, Bool, true, false, eqb, arith, refl, ap, ◌∙◌, sym, subst, inl, inr, filter}
use Rattle.std.specs.List.{All, list_any, sum_by}
use Rattle.std.proofs.lemmas.Bool.{cases_lt}
use Rattle.std.proofs.lemmas.List.Elements.{All-weaker}
use Rattle.index_words.specs.declared.layout.Layout.{Layout}
use Rattle.index_words.specs.declared.side.Side.{Side}
use Rattle.index_words.specs.declared.side.Side.TheVariants.{Left, Right}
use Rattle.index_words.specs.declared.view.View.{View}
use Rattle.index_words.specs.declared.view.update.UnsetLink.{UnsetLink}
use Rattle.index_words.specs.declared.word.Field.TheVariants.{Key, Val, Link, Tag}
use Rattle.index_words.specs.declared.word.Part.TheVariants.{Child}
use Rattle.index_words.specs.declared.word.Word.TheVariants.{Stamp, Node, Entry}
use Rattle.index_words.specs.Words.{Memory, memory}
use Rattle.index_words.proofs.Seats.{at_item, one_term}
use Rattle.key_map.specs.Lists.{IsItem}
use Rattle.core_grace.specs.Holds.{held_slots}
use Rattle.core_links.specs.Bundle.{select}
use Rattle.core_trees.specs.LinkSteps.{IsLinkIn}
use Rattle.core_trees.specs.NamedTree.{NamedTree}
use Rattle.core_trees.specs.SpelledAt.{graph_at}
use Rattle.core_trees.specs.SpelledTree.{Graph, IsSpelled}
use Rattle.core_trees.proofs.SpelledTree.{spelled-frame}
use Rattle.core_events.specs.Numbered.{entry_number}
use Rattle.core_events.specs.PlainNeeds.{is_link_of, is_owed_at}
use Rattle.core_events.specs.SpelledNow.{child_now}
use Rattle.core_events.specs.Tables.{held_by}
use Rattle.core_events.proofs.Tests.{never}
use Rattle.core_invariant.specs.LinkLaw.{IsBundleOf}
use Rattle.core_invariant.specs.Meanings.{Meaning}
use Rattle.core_invariant.specs.PlainRule.{unset_count, owed_count, greatest_in, child_at, OwedRight, SeatPlain, PlainRight}
use Rattle.core_invariant.specs.Rule.{Rule}
use Rattle.core_invariant.proofs.BundleFrames.{select_in, select_low}
use Rattle.core_invariant.proofs.Frames.{Term, term_of}
use Rattle.core_invariant.proofs.LinkLaw.{number_is, selection_is}
use Rattle.core_invariant.proofs.OneView.{item_from_get}
use Rattle.core_invariant.proofs.Passing.{Passing, passing, any_counted, counted_any}
use Rattle.core_invariant.proofs.PlainSteps.{tag_parts, link_named}
use Rattle.core_invariant.proofs.TreeNow.{stamp_low, child_is, link_live, tree_is}
use Rattle.core_laws.specs.PlainTrees.{plain_graph, HasSetAll, PlainTreeLaw, PlainLinkLaw, PlainTagLaw, TagRoomLaw}

none_left : (f : View → ℕ) (vs : List View) → All (λ v. f v ≡ 0) vs → sum_by f vs ≡ 0
none_left f vs all =
    elim (cases_lt 0 (sum_by f vs)) as (λ _. sum_by f vs ≡ 0) [
      | inr none ↦ omega (arith, none)
      | inl some ↦
          let term : Term f vs = term_of f vs some in
          absurd (omega (arith, term.some, at_item (λ v. f v ≡ 0) vs term.place term.item term.at all))
    ]

module _ (z : Layout) (m : Memory) (vs : List View) (g : Meaning) (rule : Rule z m vs g) (plain : PlainRight m vs g) where
  abbrev now : Graph
  now = graph_at (λ k. m (Node Key k)) (λ k. m (Node Val k)) (λ e. m (Entry Child e)) g.bundles.number g.bundles.bundle (m Stamp)

  -- a link that nobody has to set
  leads : (k : ℕ) (side : Side) → IsLinkIn 0 Right g.tree k side → All (λ v. unset_count k side v ≡ 0) vs → m (Node (Link side) k) ≡ now.child side k
  leads k side there none = plain.linked k side there (none_left (unset_count k side) vs none)

  plain_spelled : HasSetAll vs → IsSpelled (plain_graph m) (m (Node (Link Right) 0)) g.tree
  plain_spelled all =
      let none : (k : ℕ) (side : Side) → All (λ v. unset_count k side v ≡ 0) vs
      = λ k side. All-weaker (λ (v : View). v.update.unset ≡ []) (λ v. unset_count k side v ≡ 0) (λ v is. ap (λ (us : List UnsetLink). length (filter (is_link_of k side) us)) is) vs all in
      subst (λ c. IsSpelled (plain_graph m) c g.tree) (sym (leads 0 Right (inl (refl, refl)) (none 0 Right)))
      (spelled-frame now (plain_graph m) (now.child Right 0) g.tree
      (λ x there. record { key = refl; val = refl; left = sym (leads x Left (inr there) (none x Left)); right = sym (leads x Right (inr there) (none x Right)) })
      rule.tree.spelled)

  link_child : (k : ℕ) (side : Side) → IsLinkIn 0 Right g.tree k side → All (λ (v : View). list_any (is_link_of k side) v.update.unset ≡ false) vs
      → m (Node (Link side) k) ≡ child_now m vs [] side k
  link_child k side there off =
      leads k side there (All-weaker (λ (v : View). list_any (is_link_of k side) v.update.unset ≡ false) (λ v. unset_count k side v ≡ 0) none vs off)
      ∙ sym (child_is z m vs g rule k (link_live z m vs g rule k side there) side)
    where
      none : (v : View) → list_any (is_link_of k side) v.update.unset ≡ false → unset_count k side v ≡ 0
      none v off =
          elim (cases_lt 0 (unset_count k side v)) as (λ _. unset_count k side v ≡ 0) [
            | inl some ↦ absurd (never (sym off ∙ any_counted (is_link_of k side) v.update.unset some))
            | inr less ↦ omega (arith, less)
          ]

  -- what the words tell of the greatest number of a bundle
  greatest_is : (k : ℕ) (side : Side) (es : List ℕ) → IsLinkIn 0 Right g.tree k side → IsBundleOf m side k es
      → greatest_in (entry_number m vs) (m Stamp) es ≡ greatest_in g.bundles.number (m Stamp) (g.bundles.bundle side k)
  greatest_is k side es there chain =
      let live = link_live z m vs g rule k side there in
      let e : ℕ = select g.bundles.number (m Stamp) (g.bundles.bundle side k) in
      ap (λ d. cond (eqb d 0) 0 (entry_number m vs d)) (selection_is z m g vs rule (m Stamp) k side es live chain)
      ∙ elim (select_in g.bundles.number (m Stamp) (g.bundles.bundle side k)) as (λ _. cond (eqb e 0) 0 (entry_number m vs e) ≡ cond (eqb e 0) 0 (g.bundles.number e)) [
        | inl none ↦ subst (λ d. cond (eqb d 0) 0 (entry_number m vs d) ≡ cond (eqb d 0) 0 (g.bundles.number d)) (sym none) refl
        | inr here ↦ ap (λ n. cond (eqb e 0) 0 n) (number_is z m g vs rule k e side live here)
      ]

  tag_low : (k : ℕ) (side : Side) (es : List ℕ) → IsLinkIn 0 Right g.tree k side → IsBundleOf m side k es → m (Node (Tag side) k) ≤ greatest_in (entry_number m vs) (m Stamp) es
  tag_low k side es there chain = omega (arith, plain.tags k side there, greatest_is k side es there chain)

  tag_room : (i : ℕ) (v : View) (k : ℕ) (side : Side) → IsItem vs i v → list_any (is_owed_at k side) v.update.owed ≡ true → m (Node (Tag side) k) + 1 < 2 ^ 64
  tag_room i v k side at owing =
      let seat = at_item (SeatPlain (λ s j. m (Node (Link s) j)) (child_at (λ e. m (Entry Child e)) g.bundles (m Stamp)) g.tree) vs i v at plain.seats in
      let one : Passing (is_owed_at k side) (OwedRight g.tree (held_slots v.held.nodes))
      = passing (is_owed_at k side) (OwedRight g.tree (held_slots v.held.nodes)) v.update.owed seat.owed owing in
      let parts = tag_parts k side one.item one.passes in
      let there : IsLinkIn 0 Right g.tree k side = link_named g.tree one.item.node k one.item.side side parts.0 parts.1 one.right.there in
      omega (
        arith,
        plain.tags k side there,
        one_term (owed_count k side) vs i v at,
        counted_any (is_owed_at k side) v.update.owed owing,
        low (select g.bundles.number (m Stamp) (g.bundles.bundle side k)) (select_low g.bundles.number (m Stamp) (g.bundles.bundle side k)),
        stamp_low z m vs g rule,
      )
    where
      low : (e : ℕ) → (e ≡ 0) ⊎ (g.bundles.number e ≤ m Stamp) → cond (eqb e 0) 0 (g.bundles.number e) ≤ m Stamp
      low e (inl none) = subst (λ d. cond (eqb d 0) 0 (g.bundles.number d) ≤ m Stamp) (sym none) (omega arith)
      low e (inr below) = by (eqb e 0)
        where
          by : (c : Bool) → cond c 0 (g.bundles.number e) ≤ m Stamp
          by true = omega arith
          by false = below

pub plain_tree_law : PlainTreeLaw
plain_tree_law t right all =
    subst (λ (tree : NamedTree). IsSpelled (plain_graph (held_by t)) (held_by t (Node (Link Right) 0)) tree) (sym (tree_is t.layout (held_by t) t.views right.meaning right.rule))
    (plain_spelled t.layout (held_by t) t.views right.meaning right.rule right.plain all)

pub plain_link_law : PlainLinkLaw
plain_link_law t k side right there off =
    link_child t.layout (held_by t) t.views right.meaning right.rule right.plain k side
    (subst (λ (tree : NamedTree). IsLinkIn 0 Right tree k side) (tree_is t.layout (held_by t) t.views right.meaning right.rule) there) off

pub plain_tag_law : PlainTagLaw
plain_tag_law t k side es right there chain =
    tag_low t.layout (held_by t) t.views right.meaning right.rule right.plain k side es
    (subst (λ (tree : NamedTree). IsLinkIn 0 Right tree k side) (tree_is t.layout (held_by t) t.views right.meaning right.rule) there) chain

pub tag_room_law : TagRoomLaw
tag_room_law z words vs seat v k side right at owing =
    tag_room z (memory z words) vs right.meaning right.rule right.plain seat v k side (item_from_get vs seat v at) owing
