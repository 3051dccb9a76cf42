-- What the words are of the tree that a seat reads.
use Rattle.std.proofs.Common.{◌≡◌, ℕ, zero, suc, ◌+◌, ◌<◌, ◌≤◌, ◌⊎◌, cond, List, [], ◌∷◌, ◌++◌, length, take, drop, Bool, true, false, not, eqb, ◌&&◌, arith, refl, ap, ◌∙◌, sym, subst, inl, inr, Option, Some, map, is_some}
use Rattle.std.specs.Prelude.{IfSome, nat_lt, nat_le}
use Rattle.std.proofs.lemmas.Bool.{cases_lt}
use Rattle.std.proofs.lemmas.Bool.Decides.{nat_tests, eqb_tells}
use Rattle.std.proofs.lemmas.List.{take-append-drop}
use Rattle.key_map.specs.declared.update.Update.{Update}
use Rattle.key_map.specs.History.{after}
use Rattle.key_map.specs.Lists.{count, Every, IsItem}
use Rattle.key_map.proofs.Counting.{count-append}
use Rattle.key_map.proofs.HistoryLaws.{after-append}
use Rattle.index_words.specs.declared.side.Side.{Side}
use Rattle.index_words.specs.declared.side.Side.TheVariants.{Left, Right}
use Rattle.index_words.specs.declared.view.View.{View}
use Rattle.index_words.specs.declared.view.reading.Link.{Link}
use Rattle.index_words.specs.declared.view.reading.LinkSource.TheVariants.{Bundle}
use Rattle.index_words.specs.declared.view.reading.Place.TheVariants.{Entry as AtEntry}
use Rattle.index_words.specs.declared.view.reading.TreeNode.{TreeNode}
use Rattle.index_words.specs.declared.word.Field.TheVariants.{Key, Val, Head}
use Rattle.index_words.specs.declared.word.Part.TheVariants.{Child, Stamp as Number, Next}
use Rattle.index_words.specs.declared.word.Word.TheVariants.{Stamp, Node, Entry}
use Rattle.index_words.specs.Words.{Memory}
use Rattle.core_grace.specs.Holds.{tree_slots}
use Rattle.core_links.specs.Bundle.{IsChain, select, child_of_entry}
use Rattle.core_links.proofs.Chains.{chain-same}
use Rattle.core_trees.specs.NamedTree.{NamedTree, Null, Branch, IsLawful, contents}
use Rattle.core_trees.specs.SpelledAt.{graph_at}
use Rattle.core_trees.specs.SpelledTree.{Graph, IsSpelled}
use Rattle.core_invariant.specs.BundleRule.{IsLive, Falls}
use Rattle.core_laws.specs.Found.{child_on, LeadsTo, FindsPair, FindsHead, FindsChild, FindsNext, ReadsTree, ReadLaw, StampLaw, BundleLengthLaw}
use Rattle.core_invariant.specs.LinkLaw.{IsBundleOf}
use Rattle.core_events.specs.LoadMoves.{is_above, is_selected, longest}
use Rattle.core_invariant.specs.Meanings.{Meaning}
use Rattle.core_invariant.specs.Readers.{IsLocked, LinkRight, SourceRight, StandsAt, IsPassed, PlaceRight, IsReachable}
use Rattle.core_invariant.specs.Rule.{Rule, IsRight}
use Rattle.core_invariant.specs.SeatRule.{SeatRight}
use Rattle.core_events.specs.SpelledNow.{tree_now}
use Rattle.core_events.specs.Tables.{Table, held_by}
use Rattle.core_events.specs.UpdateMoves.{without}
use Rattle.core_events.specs.Versions.{top_slot, tree_nodes, slots_of, ReadsVersion}
use Rattle.core_laws.specs.ViewNeeds.{IsInReach}
use Rattle.core_invariant.proofs.Owned.{chain_head, entry_there, in_entries, reachable_live}
use Rattle.core_invariant.proofs.Frames.{one_counted}
use Rattle.core_invariant.proofs.Passing.{longest_is, count-without_same, count-without-le}
use Rattle.core_invariant.proofs.LinkLaw.{selection_is}
use Rattle.core_invariant.proofs.AtEntries.{chain_behind, selected_by, child_is, above_is, last_by}
use Rattle.core_invariant.proofs.Needed.{reach_is}
use Rattle.core_laws.proofs.OneTree.{placed_at}
use Rattle.core_invariant.proofs.OneView.{seat_at}
use Rattle.core_laws.proofs.Remembered.{every_item, none_stays}
use Rattle.core_laws.proofs.TreeGaps.{every_joined}
use Rattle.core_invariant.proofs.TreeNow.{tree_is}
use Rattle.core_laws.proofs.ViewTests.{reaches}

-- a node of a spelled tree is read as it stands there
record ReadAs (g : Graph) (n : TreeNode) : Type 0 where
  some : 0 < n.slot
  key : g.key n.slot ≡ n.key
  val : g.val n.slot ≡ n.val
  left : g.child Left n.slot ≡ n.left
  right : g.child Right n.slot ≡ n.right

spelled_top : (g : Graph) (c : ℕ) (tree : NamedTree) → IsSpelled g c tree → c ≡ top_slot tree
spelled_top g c Null spelled = spelled
spelled_top g c (Branch s k v l r) spelled = spelled.0

spelled_read : (g : Graph) (c : ℕ) (tree : NamedTree) → IsSpelled g c tree → Every (ReadAs g) (tree_nodes tree)
spelled_read g c Null spelled = tt
spelled_read g c (Branch s k v l r) spelled =
    every_joined (ReadAs g) (tree_nodes l) _ (spelled_read g (g.child Left s) l spelled.4) (
      record { some = spelled.1; key = spelled.2; val = spelled.3; left = spelled_top g (g.child Left s) l spelled.4; right = spelled_top g (g.child Right s) r spelled.5 },
      spelled_read g (g.child Right s) r spelled.5,
    )

-- a spelled tree leads where the graph does
spelled_leads : (g : Graph) (tree : NamedTree) (node : ℕ) (side : Side) → IsSpelled g (g.child Right 0) tree → LeadsTo tree node side (g.child side node)
spelled_leads g tree node side spelled = record {
  top = λ root right. ap (λ s. g.child s node) right ∙ ap (g.child Right) root ∙ spelled_top g (g.child Right 0) tree spelled;
  below = λ j n at same. ap (g.child side) (sym same) ∙ on side n (every_item (ReadAs g) (tree_nodes tree) j n at (spelled_read g (g.child Right 0) tree spelled));
}
  where
    on : (s : Side) (n : TreeNode) → ReadAs g n → g.child s n.slot ≡ child_on s n
    on Left n read = read.left
    on Right n read = read.right

item_counted : (f : TreeNode → ℕ) (xs : List TreeNode) (j : ℕ) (n : TreeNode) → IsItem xs j n → 0 < count (f n) (map f xs)
item_counted f [] j n at = absurd (omega (arith, at.within))
item_counted f (x ∷ xs) zero n at = subst (λ y. 0 < count (f y) (f x ∷ map f xs)) (at.is x) (one_counted (f x) (count (f x) (map f xs)))
item_counted f (x ∷ xs) (suc j) n at = omega (arith, item_counted f xs j n (record { within = omega (arith, at.within); is = λ d. at.is d }))

-- no entry of a bundle stands in it twice
falls_under : (number : ℕ → ℕ) (top d : ℕ) (es : List ℕ) → Falls number top es → 0 < count d es → number d < top
falls_under number top d [] falls some = absurd (omega (arith, some))
falls_under number top d (e ∷ es) falls some =
    elim (eqb_tells e d) as (λ _. number d < top) [
      | inl same ↦ subst (λ x. number x < top) same.1 falls.0
      | inr other ↦ omega (arith, falls.0, falls_under number (number e) d es falls.1 (behind e d (count d es) other.1 some))
    ]
  where
    behind : (e d n : ℕ) → (e ≡ d → ⊥) → 0 < cond (eqb e d) 1 0 + n → 0 < n
    behind e d n apart some = grind (arith, nat_tests)

falls_once : (number : ℕ → ℕ) (top d : ℕ) (es : List ℕ) → Falls number top es → count d es ≤ 1
falls_once number top d [] falls = omega arith
falls_once number top d (e ∷ es) falls =
    elim (cases_lt 0 (count d es)) as (λ _. count d (e ∷ es) ≤ 1) [
      | inr none ↦ at_most_one (eqb e d) (count d es) (omega (arith, none))
      | inl some ↦
          let under = falls_under number (number e) d es falls.1 some in
          elim (eqb_tells e d) as (λ _. count d (e ∷ es) ≤ 1) [
            | inl same ↦ absurd (omega (arith, under, ap number same.1))
            | inr other ↦ other_one e d (count d es) other.1 (falls_once number (number e) d es falls.1)
          ]
    ]
  where
    at_most_one : (b : Bool) (n : ℕ) → n ≡ 0 → cond b 1 0 + n ≤ 1
    at_most_one true n none = omega (arith, none)
    at_most_one false n none = omega (arith, none)

    other_one : (e d n : ℕ) → (e ≡ d → ⊥) → n ≤ 1 → cond (eqb e d) 1 0 + n ≤ 1
    other_one e d n apart few = grind (arith, nat_tests)

pub length-without : (e : ℕ) (xs : List ℕ) → length (without e xs) + count e xs ≡ length xs
length-without e [] = refl
length-without e (x ∷ xs) = step (eqb x e) (length-without e xs)
  where
    step : (b : Bool) → length (without e xs) + count e xs ≡ length xs → length (cond (not b) (x ∷ without e xs) (without e xs)) + (cond b 1 0 + count e xs) ≡ suc (length xs)
    step true same = omega (arith, same)
    step false same = omega (arith, same)

-- numbers up to a size, each at most once, are at most so many
few_numbers : (size : ℕ) (xs : List ℕ) → ((d : ℕ) → 0 < count d xs → (0 < d) × (d ≤ size)) → ((d : ℕ) → count d xs ≤ 1) → length xs ≤ size
few_numbers size [] low once = omega arith
few_numbers zero (x ∷ xs) low once = let there = low x (one_counted x (count x xs)) in absurd (omega (arith, there.0, there.1))
few_numbers (suc n) (x ∷ xs) low once =
    let all : List ℕ = x ∷ xs in
    let rest : List ℕ = without (suc n) all in
    let few : length rest ≤ n = few_numbers n rest
    (λ d some. let there = low d (omega (arith, some, count-without-le d (suc n) all)) in (there.0, below d some there.1))
    (λ d. omega (arith, once d, count-without-le d (suc n) all)) in
    omega (arith, few, once (suc n), length-without (suc n) all)
  where
    below : (d : ℕ) → 0 < count d (without (suc n) (x ∷ xs)) → d ≤ suc n → d ≤ n
    below d some high =
        elim (eqb_tells d (suc n)) as (λ _. d ≤ n) [
          | inl same ↦ absurd (omega (arith, subst (λ y. 0 < count y (without (suc n) (x ∷ xs))) same.1 some, count-without_same (suc n) (x ∷ xs)))
          | inr other ↦ let apart : d ≡ suc n → ⊥ = other.1 in omega (arith, high, apart)
        ]

chain_some : (next : ℕ → ℕ) (head d : ℕ) (es : List ℕ) → IsChain next head es → 0 < count d es → 0 < d
chain_some next head d [] chain some = absurd (omega (arith, some))
chain_some next head d (e ∷ es) chain some =
    elim (eqb_tells e d) as (λ _. 0 < d) [
      | inl same ↦ omega (arith, same.1, chain.1)
      | inr other ↦ chain_some next (next e) d es chain.2 (behind e d (count d es) other.1 some)
    ]
  where
    behind : (e d n : ℕ) → (e ≡ d → ⊥) → 0 < cond (eqb e d) 1 0 + n → 0 < n
    behind e d n apart some = grind (arith, nat_tests)

module _ (t : Table) (right : IsRight t) where
  abbrev m : Memory
  m = held_by t

  abbrev g : Meaning
  g = right.meaning

  rule : Rule t.layout m t.views g
  rule = right.rule

  pub bundle_length : (k : ℕ) (side : Side) (es : List ℕ) → IsLive t.layout t.views k → IsBundleOf m side k es → length es ≤ t.layout.entries
  bundle_length k side es live chain =
      let bundle = rule.bundles k live side in
      let same = chain-same (λ d. m (Entry Next d)) (m (Node (Head side) k)) es (g.bundles.bundle side k) chain bundle.chain in
      subst (λ xs. length xs ≤ t.layout.entries) (sym same)
      (few_numbers t.layout.entries (g.bundles.bundle side k)
      (λ d here. (
        chain_some (λ x. m (Entry Next x)) (m (Node (Head side) k)) d (g.bundles.bundle side k) bundle.chain here,
        entry_there t.layout t.views g rule.slots k d live (in_entries g.bundles k d side here),
      ))
      (λ d. falls_once g.bundles.number _ d (g.bundles.bundle side k) bundle.falls))

  module _ (i n : ℕ) (v : View) (at : IsItem t.views i v) (section : v.reading.section ≡ Some n) where
    seat : SeatRight t.layout m g v
    seat = seat_at t.layout m t.views g i v at rule

    abbrev child_of : ℕ → ℕ
    child_of e = m (Entry Child e)

    reads : ReadsVersion (λ k. m (Node Key k)) (λ k. m (Node Val k)) child_of g.bundles g.updates (m Stamp) g.tree n v.reading.tree
    reads =
        subst (λ o. IfSome o (λ s. ReadsVersion (λ k. m (Node Key k)) (λ k. m (Node Val k)) child_of g.bundles g.updates (m Stamp) g.tree s v.reading.tree)) section seat.tree

    abbrev graph : Graph
    graph = graph_at (λ k. m (Node Key k)) (λ k. m (Node Val k)) child_of g.bundles.number g.bundles.bundle n

    leads : (node : ℕ) (side : Side) → LeadsTo reads.tree node side (graph.child side node)
    leads node side = spelled_leads graph reads.tree node side reads.version.spelled

    -- where this entry is selected
    leads_by : (node : ℕ) (side : Side) (entry child : ℕ) → select g.bundles.number n (g.bundles.bundle side node) ≡ entry → child_of_entry child_of entry ≡ child → LeadsTo reads.tree node side child
    leads_by node side entry child selected is = subst (LeadsTo reads.tree node side) (ap (child_of_entry child_of) selected ∙ is) (leads node side)

    slot_high : (k : ℕ) → 0 < count k (slots_of reads.tree) → k ≤ t.layout.nodes
    slot_high k some = seat.version.there k (subst (λ ns. 0 < count k (tree_slots ns)) (sym reads.read) some)

    child_high : (k : ℕ) → (0 < k → 0 < count k (slots_of reads.tree)) → k ≤ t.layout.nodes
    child_high k there =
        elim (cases_lt 0 k) as (λ _. k ≤ t.layout.nodes) [
          | inl some ↦ slot_high k (there some)
          | inr none ↦ omega (arith, none)
        ]

    pair_of : (j : ℕ) (x : TreeNode) → IsItem v.reading.tree j x → FindsPair t x
    pair_of j x here =
        let item : IsItem (tree_nodes reads.tree) j x = subst (λ ns. IsItem ns j x) reads.read here in
        let read = every_item (ReadAs graph) (tree_nodes reads.tree) j x item (spelled_read graph (graph.child Right 0) reads.tree reads.version.spelled) in
        let places = placed_at reads.tree in
        record {
          key = read.key;
          val = read.val;
          some = read.some;
          there = slot_high x.slot (item_counted (λ (y : TreeNode). y.slot) (tree_nodes reads.tree) j x item);
          left = child_high x.left (λ some. places.left j x item some);
          right = child_high x.right (λ some. places.right j x item some);
        }

    node_high : (k : ℕ) → IsInReach v k → k ≤ t.layout.nodes
    node_high k (inl root) = omega (arith, root)
    node_high k (inr (inl tree)) = seat.version.there k tree
    node_high k (inr (inr locked)) = (seat.locks k locked).0

    in_table : (k : ℕ) (side : Side) (d : ℕ) → IsLive t.layout t.views k → (d ≡ 0) ⊎ (0 < count d (g.bundles.bundle side k)) → d ≤ t.layout.entries
    in_table k side d live (inl none) = omega (arith, none)
    in_table k side d live (inr here) = entry_there t.layout t.views g rule.slots k d live (in_entries g.bundles k d side here)

    head_of : (node : ℕ) (side : Side) → IsInReach v node → FindsHead t reads.tree node side
    head_of node side reach =
        let live = reachable_live t.layout t.views g rule.slots i node v at (reach_is t.layout v node (node_high node reach) (reaches v node reach)) in
        let bundle = rule.bundles node live side in
        let head : ℕ = m (Node (Head side) node) in
        record {
          there = in_table node side head live (chain_head (λ d. m (Entry Next d)) head (g.bundles.bundle side node) bundle.chain);
          null = λ none. leads_by node side 0 0 (none_stays g.bundles.number (λ d. m (Entry Next d)) n head (g.bundles.bundle side node) bundle.chain none) refl;
        }

    module _ (node : ℕ) (side : Side) (e : ℕ) (found : Option ℕ) (here : v.reading.place ≡ AtEntry node side e found) (some : 0 < e) where
      right_place : PlaceRight t.layout (λ d. m (Entry Number d)) g.bundles v (AtEntry node side e found)
      right_place = subst (PlaceRight t.layout (λ d. m (Entry Number d)) g.bundles v) here seat.place

      place_live : IsLive t.layout t.views node
      place_live = reachable_live t.layout t.views g rule.slots i node v at right_place.reach

      child_found : (x : ℕ) → found ≡ Some x → 0 < x → x ≤ n → ¬ IsLocked v node → FindsChild t n reads.tree node side e
      child_found x known low high unlocked =
          let tested : is_selected (Some n) (Some x) false ≡ true = test x n low high in
          let selected : select g.bundles.number n (g.bundles.bundle side node) ≡ e =
          selected_by t.layout m t.views g rule i v at node side e found here some (Some n) (Some x) false (λ _ locked. unlocked locked) tested section known in
          let bundle = rule.bundles node place_live side in
          record {
            selected = record {
              entries = g.bundles.bundle side node;
              bundle = bundle.chain;
              selected = selection_is t.layout m g t.views rule n node side (g.bundles.bundle side node) place_live bundle.chain ∙ selected;
            };
            child = leads_by node side e (m (Entry Child e)) selected (child_is t.layout m t.views g rule i v at node side e found here some);
          }
        where
          test : (a b : ℕ) → 0 < a → a ≤ b → (nat_lt 0 a && nat_le a b && true) ≡ true
          test a b low high = grind (arith, nat_tests)

      next_found : is_above v e found ≡ true → FindsNext t reads.tree node side e
      next_found above =
          let next : ℕ → ℕ = λ d. m (Entry Next d) in
          let es : List ℕ = g.bundles.bundle side node in
          let bundle = rule.bundles node place_live side in
          let stands : StandsAt (λ d. m (Entry Number d)) es e found v.reading.above (IsPassed g.bundles.number v node) = right_place.stands some (inr (ap is_some section)) in
          let chain = subst (IsChain next (m (Node (Head side) node))) stands.splits bundle.chain in
          let behind = chain_head next (next e) stands.back (chain_behind next (m (Node (Head side) node)) e stands.front stands.back chain) in
          let over : n < g.bundles.number e = subst (λ o. IfSome o (λ s. s < g.bundles.number e)) section (above_is t.layout m t.views g rule i v at node side e found here some above) in
          record {
            there = in_table node side (next e) place_live (elim behind as (λ _. (next e ≡ 0) ⊎ (0 < count (next e) es)) [
              | inl none ↦ inl none
              | inr more ↦ inr (subst (λ xs. 0 < count (next e) xs) (sym stands.splits) (omega (arith, count-append (next e) stands.front (e ∷ stands.back), more)))
            ]);
            null = λ none. leads_by node side 0 0 (last_by t.layout m t.views g rule i v at node side e found here some (Some n) section none over) refl;
          }

    link_found : (j : ℕ) (l : Link) (entry : ℕ) → IsItem v.reading.links j l → l.source ≡ Bundle entry → LeadsTo reads.tree l.node l.side l.child
    link_found j l entry here source =
        let es : List ℕ = g.bundles.bundle l.side l.node in
        let link : LinkRight t.layout child_of g.bundles v l = every_item (LinkRight t.layout child_of g.bundles v) v.reading.links j l here seat.links in
        let is = subst (λ o. SourceRight (IsReachable t.layout v l.node) child_of g.bundles.number es o l.child (Bundle entry)) section
        (subst (SourceRight (IsReachable t.layout v l.node) child_of g.bundles.number es v.reading.section l.child) source link) in
        leads_by l.node l.side entry l.child is.selected.0 is.selected.1

    contents_by : n ≤ length v.history.seen → contents reads.tree ≡ after v.history.seen n
    contents_by low =
        let seen : List Update = v.history.seen in
        let begins : seen ≡ take (length seen) g.updates = seat.seen.seen in
        let whole : take (length seen) g.updates ++ drop (length seen) g.updates ≡ g.updates = take-append-drop (length seen) g.updates in
        reads.version.contents
        ∙ ap (λ us. after us n) (sym whole)
        ∙ after-append (take (length seen) g.updates) (drop (length seen) g.updates) n (subst (λ us. n ≤ length us) begins low)
        ∙ ap (λ us. after us n) (sym begins)

    pub read_tree : ReadsTree t v n
    read_tree = record {
      tree = reads.tree;
      nodes = reads.read;
      lawful = reads.version.lawful;
      top = child_high (top_slot reads.tree) (placed_at reads.tree).top;
      contents_are = contents_by;
      pairs = pair_of;
      heads = head_of;
      children = λ node side entry found here some low high unlocked. child_found node side entry (Some found) here some found refl low high unlocked;
      nexts = λ node side entry found here some above. next_found node side entry found here some above;
      links = link_found;
    }

pub read_law : ReadLaw
read_law t i v n right at section = read_tree t right i n v at section

pub stamp_law : StampLaw
stamp_law t i v right at =
    let m : Memory = held_by t in
    let g : Meaning = right.meaning in
    let known : longest t.views ≡ g.updates = longest_is t.layout m t.views g right.rule in
    let now : tree_now t.layout m t.views ≡ g.tree = tree_is t.layout m t.views g right.rule in
    record {
      extends = (seat_at t.layout m t.views g i v at right.rule).seen.seen ∙ ap (take (length v.history.seen)) (sym known);
      whole = ap length known ∙ right.rule.history.long;
      lawful = subst IsLawful (sym now) right.rule.tree.lawful;
      contents_are = ap contents now ∙ right.rule.tree.contents ∙ ap (λ us. after us (m Stamp)) (sym known);
    }

pub bundle_length_law : BundleLengthLaw
bundle_length_law t k side es right live chain = bundle_length t right k side es live chain
