-- The words after a raise, in parts: the new node, the links that change with their children, the tree step's test.
use Rattle.std.proofs.Common.{◌≡◌, ℕ, ◌+◌, ◌<◌, ◌≤◌, ◌⊎◌, inl, inr, cond, List, [], ◌∷◌, Bool, true, false, not, eqb, ◌||◌, refl, ap, sym, ◌∙◌, subst, arith}
use Rattle.std.proofs.Common.{◌^◌, ◌++◌, ltb, ◌&&◌, Option, Some}
use Rattle.std.proofs.lemmas.Bool.{eq-eqb, ne_eqb, cases_lt, and_from, lt-ltb}
use Rattle.std.proofs.lemmas.Bool.Decides.{nat_tests, eqb_tells}
use Rattle.std.specs.List.{list_all}
use Rattle.index_words.specs.declared.layout.Layout.{Layout}
use Rattle.index_words.specs.declared.side.Side.{Side}
use Rattle.index_words.specs.declared.side.Side.TheVariants.{Left, Right}
use Rattle.index_words.specs.declared.view.View.{View}
use Rattle.index_words.specs.declared.word.Field.TheVariants.{Head, Key, Val, Mark, Link, Tag}
use Rattle.index_words.specs.declared.word.Part.TheVariants.{Child, Stamp as Number, Next}
use Rattle.index_words.specs.declared.word.Word.TheVariants.{Node, Entry, Stamp}
use Rattle.index_words.specs.Words.{Memory}
use Rattle.index_words.specs.declared.view.update.Unlinking.{Unlinking}
use Rattle.key_map.specs.Lists.{count, has, IsItem}
use Rattle.key_map.proofs.Counting.{count-append, has-count, count-has}
use Rattle.key_map.specs.declared.update.Change.{Change}
use Rattle.core_links.specs.Bundle.{child_of_entry}
use Rattle.core_trees.specs.Slots.{occurs, one_at, NamesOnce}
use Rattle.core_trees.specs.LinkSteps.{KeepsLinks, IsLinkIn, IsTreeAt, IsChildLink, IsLink}
use Rattle.core_trees.specs.NamedTree.{NamedTree}
use Rattle.core_trees.specs.SpelledTree.{Graph, IsSpelled, spells}
use Rattle.core_trees.specs.SpelledStep.{IsNodeOf}
use Rattle.core_trees.proofs.SpelledTree.{spelled-frame}
use Rattle.core_trees.specs.SpelledAt.{graph_at}
use Rattle.core_trees.proofs.Links.JoinDeep.{IsEither}
use Rattle.core_trees.proofs.SpelledTests.{spelled_tests}
use Rattle.core_grace.specs.Holds.{Bundles, entries_of, linked_in}
use Rattle.core_grace.specs.Slots.{is_slot}
use Rattle.core_events.specs.SpelledNow.{was_raised, has_number, child_now, graph_now, tree_now}
use Rattle.core_events.specs.Versions.{slots_of}
use Rattle.core_events.specs.LoadMoves.{locks}
use Rattle.core_events.specs.UpdateMoves.{listed_entry}
use Rattle.core_events.specs.PlainWork.{plain_move}
use Rattle.core_events.specs.TreeMoves.{tree_after, takes, brings, has_key, first_slot, new_entries, node_entries, new_slot, move_at, is_fresh, is_new}
use Rattle.core_events.specs.TreeMoves.{is_plain_at, is_plain_new, sets_locked, is_plain_step, is_step, finds_gap}
use Rattle.core_invariant.specs.Meanings.{Meaning}
use Rattle.core_invariant.specs.Rule.{Rule}
use Rattle.core_invariant.proofs.Owned.{once_entry, linked-at, in_entries, free_entry_some, not_in_bundle, free_node_alone}
use Rattle.core_invariant.proofs.TreeNow.{linked_live, count_slots, child_is, node_lives, root_lives, tree_is}
use Rattle.core_invariant.proofs.TreeSteps.{in_listed, listed_is}
use Rattle.core_invariant.proofs.Undone.{or_right}
use Rattle.core_laws.proofs.AloneFacts.{chain_begins}
use Rattle.core_updates.specs.Ready.{LeadsNow, IsPrepared, IsNewLink, IsNewNode, update_of, MayStep}
use Rattle.core_updates.specs.SetLinks.{SetLink, LeavesPlain}
use Rattle.core_updates.proofs.LinksLeft.{IsLeft}
use Rattle.core_updates.proofs.RaiseTests.{entry_is, no_entry, of_two, heads_apart}

-- an entry in the bundles of two nodes is linked twice
linked-two : (b : Bundles) (k j e : ℕ) (ks : List ℕ) → ¬ (k ≡ j) → 0 < count k ks → 0 < count j ks
    → count e (entries_of b k) + count e (entries_of b j) ≤ linked_in b e ks
linked-two b k j e [] apart some other = absurd (omega (arith, some))
linked-two b k j e (x ∷ ks) apart some other =
    elim (eqb_tells x k) as (λ _. count e (entries_of b k) + count e (entries_of b j) ≤ linked_in b e (x ∷ ks)) [
      | inl at_k ↦
          let rest : count e (entries_of b j) ≤ linked_in b e ks = linked-at b j e ks (behind x j ks (λ is. apart (sym at_k.1 ∙ is)) other) in
          let here : count e (entries_of b x) ≡ count e (entries_of b k) = ap (λ n. count e (entries_of b n)) at_k.1 in
          omega (arith, rest, here)
      | inr not_k ↦ elim (eqb_tells x j) as (λ _. count e (entries_of b k) + count e (entries_of b j) ≤ linked_in b e (x ∷ ks)) [
        | inl at_j ↦
            let rest : count e (entries_of b k) ≤ linked_in b e ks = linked-at b k e ks (behind x k ks not_k.1 some) in
            let here : count e (entries_of b x) ≡ count e (entries_of b j) = ap (λ n. count e (entries_of b n)) at_j.1 in
            omega (arith, rest, here)
        | inr not_j ↦ omega (arith, linked-two b k j e ks apart (behind x k ks not_k.1 some) (behind x j ks not_j.1 other))
      ]
    ]
  where
    behind : (x k : ℕ) (ks : List ℕ) → (x ≡ k → ⊥) → 0 < count k (x ∷ ks) → 0 < count k ks
    behind x k ks other some = grind (arith, nat_tests)

-- the two sides
data Sides (w y : Side) : Type 0 where
  SameSide : w ≡ y → Sides w y
  BothSides : ((b : Bundles) (k e : ℕ) → count e (entries_of b k) ≡ count e (b.bundle w k) + count e (b.bundle y k)) → Sides w y

sides : (w y : Side) → Sides w y
sides Left Right = BothSides (λ b k e. count-append e (b.bundle Left k) (b.bundle Right k))
sides Right Left = BothSides (λ b k e. omega (arith, count-append e (b.bundle Left k) (b.bundle Right k)))
sides _ _ = SameSide refl

or_same : (a b : Bool) → b ≡ false → (a || false) ≡ (a || b)
or_same a true is = cc
or_same a false is = refl

-- the child of a link whose head gets no number stays
pub child_same : (m : Memory) (vs : List View) (more : List ℕ) (w : Side) (k : ℕ) → has (m (Node (Head w) k)) more ≡ false → child_now m vs [] w k ≡ child_now m vs more w k
child_same m vs more w k lacks =
    let head : ℕ = m (Node (Head w) k) in
    let known : Bool = not (eqb (m (Entry Number head)) 0) || was_raised head vs in
    ap (λ b. child_of_entry (λ e. m (Entry Child e)) (cond (eqb head 0 || b) head (m (Entry Next head)))) (or_same known (has head more) lacks)

-- the child of a link whose head gets one is that of the head
pub child_new : (m : Memory) (vs : List View) (more : List ℕ) (w : Side) (k : ℕ) → 0 < m (Node (Head w) k) → has (m (Node (Head w) k)) more ≡ true
    → child_now m vs more w k ≡ m (Entry Child (m (Node (Head w) k)))
child_new m vs more w k some listed =
    let head : ℕ = m (Node (Head w) k) in
    let known : Bool = not (eqb (m (Entry Number head)) 0) || was_raised head vs in
    ap (λ b. child_of_entry (λ e. m (Entry Child e)) (cond (eqb head 0 || b) head (m (Entry Next head)))) (or_right known (has head more) listed)
    ∙ ap (λ b. child_of_entry (λ e. m (Entry Child e)) (cond b head (m (Entry Next head)))) (or_right (eqb head 0) true refl)
    ∙ ap (λ b. cond b 0 (m (Entry Child head))) (ne_eqb head 0 (omega (arith, some)))

-- an empty bundle has no child
pub child_none : (m : Memory) (vs : List View) (more : List ℕ) (w : Side) (k : ℕ) → m (Node (Head w) k) ≡ 0 → child_now m vs more w k ≡ 0
child_none m vs more w k none =
    let head : ℕ = m (Node (Head w) k) in
    ap (λ b. child_of_entry (λ e. m (Entry Child e)) (cond (b || has_number m vs more head) head (m (Entry Next head)))) (eq-eqb head 0 none)
    ∙ ap (λ x. child_of_entry (λ e. m (Entry Child e)) x) none

module _ (z : Layout) (m : Memory) (vs : List View) (g : Meaning) (rule : Rule z m vs g) where
  abbrev pub InTree : ℕ → Type 0
  InTree x = (x ≡ 0) ⊎ (0 < occurs x g.tree)

  in_nodes : (x : ℕ) → InTree x → 0 < count x (0 ∷ slots_of g.tree)
  in_nodes x (inl root) = subst (λ n. 0 < count n (0 ∷ slots_of g.tree)) (sym root) (omega arith)
  in_nodes x (inr node) = omega (arith, node, count_slots x g.tree)

  -- the tree at the stamp
  pub names_once : NamesOnce 0 g.tree
  names_once x = omega (arith, rule.slots.nodes.one x, count_slots x g.tree, low z.nodes x)
    where
      low : (size x : ℕ) → is_slot size x + one_at x 0 ≤ 1
      low size x = grind (arith, nat_tests)

  head_in : (x : ℕ) → InTree x → (w : Side) → 0 < m (Node (Head w) x) → 0 < count (m (Node (Head w) x)) (g.bundles.bundle w x)
  head_in x there w some = chain_begins (λ e. m (Entry Next e)) (m (Node (Head w) x)) (g.bundles.bundle w x) (rule.bundles x (linked_live z vs g rule.slots x there) w).chain some

  -- an entry is the head of one link of the tree at most
  pub only_link : (k x e : ℕ) (side w : Side) → InTree k → InTree x → 0 < e → m (Node (Head side) k) ≡ e → m (Node (Head w) x) ≡ e → (x ≡ k) × (w ≡ side)
  only_link k x e side w at there some is other =
      let here : 0 < count e (g.bundles.bundle side k) = subst (λ n. 0 < count n (g.bundles.bundle side k)) is (head_in k at side (subst (λ n. 0 < n) (sym is) some)) in
      let too : 0 < count e (g.bundles.bundle w x) = subst (λ n. 0 < count n (g.bundles.bundle w x)) other (head_in x there w (subst (λ n. 0 < n) (sym other) some)) in
      elim (eqb_tells x k) as (λ _. (x ≡ k) × (w ≡ side)) [
        | inl equal ↦ (
          equal.1,
          elim (sides w side) as (λ _. w ≡ side) [
            | SameSide is_one ↦ is_one
            | BothSides both ↦
                let far : 0 < count e (g.bundles.bundle w k) = subst (λ n. 0 < count e (g.bundles.bundle w n)) equal.1 too in
                absurd (omega (arith, once_entry z vs g rule.slots e, linked-at g.bundles k e (0 ∷ slots_of g.tree) (in_nodes k at), both g.bundles k e, here, far))
          ],
        )
        | inr apart ↦
            absurd (omega (
              arith,
              once_entry z vs g rule.slots e,
              linked-two g.bundles x k e (0 ∷ slots_of g.tree) apart.1 (in_nodes x there) (in_nodes k at),
              in_entries g.bundles k e side here,
              in_entries g.bundles x e w too,
            ))
      ]

  module _ (i : ℕ) (v : View) (at : IsItem vs i v) where
    -- a free entry is the head of no link of the tree
    pub free_apart : (x e : ℕ) (w : Side) → InTree x → 0 < count e v.free.entries → ¬ (m (Node (Head w) x) ≡ e)
    free_apart x e w there free is =
        let some : 0 < m (Node (Head w) x) = subst (λ n. 0 < n) (sym is) (free_entry_some z vs g rule.slots i e v at free) in
        not_in_bundle z vs g rule.slots i x e v at free (linked_live z vs g rule.slots x there)
        (in_entries g.bundles x e w (subst (λ n. 0 < count n (g.bundles.bundle w x)) is (head_in x there w some)))

    -- what stays, where each entry that gets a number and is the head of a link of the tree is that of a changed link
    pub keeps_links : (more : List ℕ) (changed : ℕ → Side → Type 0) → ((x : ℕ) → InTree x → (w : Side) → 0 < count (m (Node (Head w) x)) more → changed x w)
        → KeepsLinks (graph_now m vs []) (graph_now m vs more) changed 0 g.tree
    keeps_links more changed only = record {
      keys = λ x. refl;
      vals = λ x. refl;
      children = λ x there w apart. child_same m vs more w x (lacks (m (Node (Head w) x)) more (λ some. apart (only x there w some)));
    }
      where
        lacks : (e : ℕ) (es : List ℕ) → ¬ (0 < count e es) → has e es ≡ false
        lacks e es none = by (has e es) refl
          where
            by : (c : Bool) → has e es ≡ c → c ≡ false
            by true is = absurd (none (has-count e es is))
            by false is = refl

-- The words after a raise, in parts: the new node, the links that change, and the test of the tree step.
module _ (z : Layout) (m : Memory) (vs : List View) (g : Meaning) (rule : Rule z m vs g) (i : ℕ) (v : View) (at : IsItem vs i v) where
  abbrev now : Graph
  now = graph_now m vs []

  pub tree_at : IsTreeAt now 0 Right g.tree
  tree_at =
      let graph : Graph = graph_at (λ k. m (Node Key k)) (λ k. m (Node Val k)) (λ e. m (Entry Child e)) g.bundles.number g.bundles.bundle (m Stamp) in
      record {
        lawful = rule.tree.lawful;
        once = names_once z m vs g rule;
        spelled = subst (λ c. IsSpelled now c g.tree) (sym (child_is z m vs g rule 0 (root_lives z m vs g rule) Right))
            (spelled-frame graph now (graph.child Right 0) g.tree
            (λ x there. record {
              key = refl;
              val = refl;
              left = sym (child_is z m vs g rule x (node_lives z m vs g rule x there) Left);
              right = sym (child_is z m vs g rule x (node_lives z m vs g rule x there) Right);
            })
            rule.tree.spelled);
      }

  link_in : (node : ℕ) (side : Side) → IsLinkIn 0 Right (tree_now z m vs) node side → IsLinkIn 0 Right g.tree node side
  link_in node side link = subst (λ t. IsLinkIn 0 Right t node side) (tree_is z m vs g rule) link

  pub in_tree : (node : ℕ) (side : Side) → IsLinkIn 0 Right (tree_now z m vs) node side → (node ≡ 0) ⊎ (0 < occurs node g.tree)
  in_tree node side link = elim (link_in node side link) as (λ _. (node ≡ 0) ⊎ (0 < occurs node g.tree)) [ inl root ↦ inl root.0 | inr there ↦ inr there ]

  pub leads_to : (parent node : ℕ) (side : Side) → LeadsNow z m vs parent side node → 0 < node → IsChildLink now 0 Right g.tree parent side node
  leads_to parent node side leads some = record { link = link_in parent side leads.link; child = leads.child_is; some = some }

  -- the entries of a new node are free ones of the seat
  module _ (slot key val left right : ℕ) (new : IsNewNode m v slot key val left right) where
    new_free : (side : Side) (child e : ℕ) → IsNewLink m v slot side child → 0 < count e (listed_entry (m (Node (Head side) slot))) → 0 < count e v.free.entries
    new_free side child e (inl none) some = absurd (no_entry e (subst (λ h. 0 < count e (listed_entry h)) none.0 some))
    new_free side child e (inr fresh) some = subst (λ x. 0 < count x v.free.entries) (entry_is e (m (Node (Head side) slot)) some) fresh.free

    pub entries_free : (e : ℕ) → 0 < count e (new_entries m (Some slot)) → 0 < count e v.free.entries
    entries_free e some =
        elim (cases_lt 0 (count e (listed_entry (m (Node (Head Left) slot))))) as (λ _. 0 < count e v.free.entries) [
          | inl here ↦ new_free Left left e new.left_link here
          | inr none ↦ new_free Right right e new.right_link
              (omega (arith, some, none, count-append e (listed_entry (m (Node (Head Left) slot))) (listed_entry (m (Node (Head Right) slot)))))
        ]

    listed_left : 0 < m (Node (Head Left) slot) → 0 < count (m (Node (Head Left) slot)) (new_entries m (Some slot))
    listed_left some =
        omega (arith, in_listed (m (Node (Head Left) slot)) some, count-append (m (Node (Head Left) slot)) (listed_entry (m (Node (Head Left) slot))) (listed_entry (m (Node (Head Right) slot))))

    listed_right : 0 < m (Node (Head Right) slot) → 0 < count (m (Node (Head Right) slot)) (new_entries m (Some slot))
    listed_right some =
        omega (arith, in_listed (m (Node (Head Right) slot)) some, count-append (m (Node (Head Right) slot)) (listed_entry (m (Node (Head Left) slot))) (listed_entry (m (Node (Head Right) slot))))

    abbrev more : List ℕ
    more = v.update.pending ++ new_entries m (Some slot)

    in_more : (e : ℕ) → 0 < count e (new_entries m (Some slot)) → has e more ≡ true
    in_more e some = count-has e more (omega (arith, some, count-append e v.update.pending (new_entries m (Some slot))))

    new_child : (side : Side) (child : ℕ) → IsNewLink m v slot side child
        → (0 < m (Node (Head side) slot) → 0 < count (m (Node (Head side) slot)) (new_entries m (Some slot))) → child_now m vs more side slot ≡ child
    new_child side child (inl none) listed = child_none m vs more side slot none.0 ∙ sym none.1
    new_child side child (inr fresh) listed =
        let some : 0 < m (Node (Head side) slot) = free_entry_some z vs g rule.slots i (m (Node (Head side) slot)) v at fresh.free in
        child_new m vs more side slot some (in_more (m (Node (Head side) slot)) (listed some)) ∙ fresh.leads

    pub node_of : IsNodeOf (graph_now m vs more) slot key val left right
    node_of = record {
      taken = (free_node_alone z vs g rule.slots i slot v at new.free).1;
      key = new.key_is;
      val = new.val_is;
      left = new_child Left left new.left_link listed_left;
      right = new_child Right right new.right_link listed_right;
    }

    tests_fresh : (side : Side) (child : ℕ) (xs : List ℕ) → IsNewLink m v slot side child → list_all (is_fresh m v) xs ≡ true
        → list_all (is_fresh m v) (listed_entry (m (Node (Head side) slot)) ++ xs) ≡ true
    tests_fresh side child xs (inl none) rest = ap (λ h. list_all (is_fresh m v) (listed_entry h ++ xs)) none.0 ∙ rest
    tests_fresh side child xs (inr fresh) rest =
        let e : ℕ = m (Node (Head side) slot) in
        let apart : eqb e 0 ≡ false = ne_eqb e 0 (λ zero. omega (arith, zero, free_entry_some z vs g rule.slots i e v at fresh.free)) in
        ap (λ b. list_all (is_fresh m v) (cond b [] (e ∷ []) ++ xs)) apart
        ∙ and_from (is_fresh m v e) (list_all (is_fresh m v) xs)
        (and_from (has e v.free.entries && eqb (m (Entry Number e)) 0) (eqb (m (Entry Next e)) 0)
        (and_from (has e v.free.entries) (eqb (m (Entry Number e)) 0) (count-has e v.free.entries fresh.free) (eq-eqb (m (Entry Number e)) 0 fresh.unnumbered))
        (eq-eqb (m (Entry Next e)) 0 fresh.last)) rest

    pub tests_new : is_new m v (Some slot) ≡ true
    tests_new =
        let fresh : Bool = list_all (is_fresh m v) (new_entries m (Some slot)) in
        let all : list_all (is_fresh m v) (listed_entry (m (Node (Head Left) slot)) ++ listed_entry (m (Node (Head Right) slot))) ≡ true
        = tests_fresh Left left (listed_entry (m (Node (Head Right) slot))) new.left_link
        (subst (λ xs. list_all (is_fresh m v) xs ≡ true) (nothing_more (listed_entry (m (Node (Head Right) slot)))) (tests_fresh Right right [] new.right_link refl)) in
        and_from (has slot v.free.nodes && eqb (m (Node Mark slot)) 0 && fresh) (eqb (m (Node (Head Left) slot)) 0 || not (eqb (m (Node (Head Left) slot)) (m (Node (Head Right) slot))))
        (and_from (has slot v.free.nodes && eqb (m (Node Mark slot)) 0) fresh
        (and_from (has slot v.free.nodes) (eqb (m (Node Mark slot)) 0) (count-has slot v.free.nodes new.free) (eq-eqb (m (Node Mark slot)) 0 new.unmarked)) all)
        (heads_apart (m (Node (Head Left) slot)) (m (Node (Head Right) slot)) new.apart)
      where
        nothing_more : (xs : List ℕ) → xs ++ [] ≡ xs
        nothing_more [] = refl
        nothing_more (x ∷ xs) = ap (λ ys. x ∷ ys) (nothing_more xs)

    -- its plain links lead to its children
    plain_side : (side : Side) (child : ℕ) → IsNewLink m v slot side child → m (Node (Link side) slot) ≡ child → m (Node (Tag side) slot) ≡ 0 → is_plain_at m slot side ≡ true
    plain_side side child new_link link tag =
        and_from (eqb (m (Node (Link side) slot)) (child_of_entry (λ e. m (Entry Child e)) (m (Node (Head side) slot)))) (eqb (m (Node (Tag side) slot)) 0)
        (eq-eqb (m (Node (Link side) slot)) (child_of_entry (λ e. m (Entry Child e)) (m (Node (Head side) slot))) (link ∙ sym (by_link new_link)))
        (eq-eqb (m (Node (Tag side) slot)) 0 tag)
      where
        by_link : IsNewLink m v slot side child → child_of_entry (λ e. m (Entry Child e)) (m (Node (Head side) slot)) ≡ child
        by_link (inl none) = ap (child_of_entry (λ e. m (Entry Child e))) none.0 ∙ sym none.1
        by_link (inr fresh) =
            let e : ℕ = m (Node (Head side) slot) in
            let apart : eqb e 0 ≡ false = ne_eqb e 0 (λ zero. omega (arith, zero, free_entry_some z vs g rule.slots i e v at fresh.free)) in
            ap (λ b. cond b 0 (m (Entry Child e))) apart ∙ fresh.leads

    pub tests_plain : is_plain_new m (Some slot) ≡ true
    tests_plain =
        and_from (is_plain_at m slot Left) (is_plain_at m slot Right) (plain_side Left left new.left_link new.left_child new.left_tag)
        (plain_side Right right new.right_link new.right_child new.right_tag)

  -- the child of a link at which an entry was prepared
  pub prepared_child : (more : List ℕ) (node entry child : ℕ) (side : Side) → IsPrepared m node side entry child → 0 < count entry more → child_now m vs more side node ≡ child
  prepared_child more node entry child side ready listed =
      child_new m vs more side node (subst (λ x. 0 < x) (sym ready.head) ready.some) (ap (λ x. has x more) ready.head ∙ count-has entry more listed)
      ∙ ap (λ x. m (Entry Child x)) ready.head ∙ ready.leads

  -- an entry that gets a number is a pending one, or a free one of the new node; those are the heads of no link of the
  -- tree
  pub changed_by : (pending fresh : List ℕ) (changed : ℕ → Side → Type 0) → ((e : ℕ) → 0 < count e fresh → 0 < count e v.free.entries)
      → ((x : ℕ) → InTree z m vs g rule x → (w : Side) → 0 < count (m (Node (Head w) x)) pending → changed x w)
      → (x : ℕ) → InTree z m vs g rule x → (w : Side) → 0 < count (m (Node (Head w) x)) (pending ++ fresh) → changed x w
  changed_by pending fresh changed free by_pending x there w some =
      let e : ℕ = m (Node (Head w) x) in
      elim (cases_lt 0 (count e pending)) as (λ _. changed x w) [
        | inl here ↦ by_pending x there w here
        | inr none ↦ absurd (free_apart z m vs g rule i v at x e w there (free e (omega (arith, some, none, count-append e pending fresh))) refl)
      ]

  -- with one pending entry, which was prepared at a link of the tree, that link alone changes
  pub one_changed : (node entry child : ℕ) (side : Side) → InTree z m vs g rule node → IsPrepared m node side entry child → v.update.pending ≡ entry ∷ []
      → (x : ℕ) → InTree z m vs g rule x → (w : Side) → 0 < count (m (Node (Head w) x)) v.update.pending → IsLink node side x w
  one_changed node entry child side here ready pending x there w some =
      let head : entry ≡ m (Node (Head w) x) = listed_is (m (Node (Head w) x)) entry (subst (λ xs. 0 < count (m (Node (Head w) x)) xs) pending some) in
      only_link z m vs g rule node x entry side w here there ready.some ready.head (sym head)

  pub pending_listed : (entry : ℕ) (rest fresh : List ℕ) → v.update.pending ≡ entry ∷ rest → 0 < count entry (v.update.pending ++ fresh)
  pending_listed entry rest fresh pending =
      let here : 0 < count entry (entry ∷ rest) = counted entry (count entry rest) in
      omega (arith, count-append entry v.update.pending fresh, subst (λ xs. 0 < count entry xs) (sym pending) here)
    where
      counted : (e n : ℕ) → 0 < cond (eqb e e) 1 0 + n
      counted e n = grind (arith, nat_tests)

  -- the test of the tree step, from its parts
  pub step_of : (c : Change) (client line key slot : ℕ) (added : Option ℕ) (out : List ℕ) (sets : List SetLink) (last : Option Unlinking) → key < 2 ^ 64 → new_slot m vs v key g.tree ≡ slot → has_key c key g.tree ≡ true
      → first_slot (brings c slot key g.tree) ≡ added → takes c key g.tree ≡ out → list_all (λ k. locks k v.held.nodes) out ≡ true → is_new m v added ≡ true
      → IsSpelled (graph_now m vs (v.update.pending ++ new_entries m added)) (child_now m vs (v.update.pending ++ new_entries m added) Right 0) (tree_after c slot key g.tree)
      → is_plain_new m added ≡ true → finds_gap m v (update_of client line key c) g.tree ≡ true → IsLeft m v c key slot g.tree sets last
      → MayStep z m vs v (update_of client line key c) added out sets last
  step_of c client line key slot added out sets last small slots there adds takes_is locked new spelled plain finds left =
      let u = update_of client line key c in
      let now_is = tree_is z m vs g rule in
      let here : is_step m vs v u slot (move_at z m u slot g.tree) g.tree ≡ true
      = and_all (ltb key 18446744073709551616) (has_key c key g.tree) (list_all (λ k. locks k v.held.nodes) (takes c key g.tree)) (is_new m v (first_slot (brings c slot key g.tree)))
      (spelled_by (first_slot (brings c slot key g.tree))) (is_plain_step m v u (move_at z m u slot g.tree) g.tree) (lt-ltb key 18446744073709551616 small) there
      (subst (λ ks. list_all (λ k. locks k v.held.nodes) ks ≡ true) (sym takes_is) locked)
      (subst (λ o. is_new m v o ≡ true) (sym adds) new)
      (subst (λ o. spelled_by o ≡ true) (sym adds)
      (spelled_tests (graph_now m vs (v.update.pending ++ new_entries m added)) (child_now m vs (v.update.pending ++ new_entries m added) Right 0) (tree_after c slot key g.tree) spelled))
      (and_from (list_all (sets_locked v) (plain_move m c key slot g.tree).unset && is_plain_new m (first_slot (brings c slot key g.tree))) (finds_gap m v u g.tree)
      (and_from (list_all (sets_locked v) (plain_move m c key slot g.tree).unset) (is_plain_new m (first_slot (brings c slot key g.tree))) left.locked
      (subst (λ o. is_plain_new m o ≡ true) (sym adds) plain)) finds) in
      let at_slot : is_step m vs v u (new_slot m vs v key g.tree) (move_at z m u (new_slot m vs v key g.tree) g.tree) g.tree ≡ true
      = subst (λ (x : ℕ). is_step m vs v u x (move_at z m u x g.tree) g.tree ≡ true) (sym slots) here in
      let adds_now : first_slot (brings c (new_slot m vs v key (tree_now z m vs)) key (tree_now z m vs)) ≡ added
      = ap (λ (t : NamedTree). first_slot (brings c (new_slot m vs v key t) key t)) now_is ∙ ap (λ (x : ℕ). first_slot (brings c x key g.tree)) slots ∙ adds in
      let takes_now : takes c key (tree_now z m vs) ≡ out = ap (takes c key) now_is ∙ takes_is in
      record {
        step = subst (λ (t : NamedTree). is_step m vs v u (new_slot m vs v key t) (move_at z m u (new_slot m vs v key t) t) t ≡ true) (sym now_is) at_slot;
        added_is = adds_now;
        entries_are = ap (new_entries m) adds_now;
        taken_is = takes_now;
        taken_entries_are = ap (node_entries z m) takes_now;
        leaves = subst (λ (t : NamedTree). LeavesPlain c sets last (plain_move m c key (new_slot m vs v key t) t)) (sym now_is)
            (subst (λ (x : ℕ). LeavesPlain c sets last (plain_move m c key x g.tree)) (sym slots) left.leaves);
      }
    where
      spelled_by : Option ℕ → Bool
      spelled_by o = spells (graph_now m vs (v.update.pending ++ new_entries m o)) (child_now m vs (v.update.pending ++ new_entries m o) Right 0) (tree_after c slot key g.tree)

      and_all : (a b c d e f : Bool) → a ≡ true → b ≡ true → c ≡ true → d ≡ true → e ≡ true → f ≡ true → (a && b && c && d && e && f) ≡ true
      and_all a b c d e f one two three four five six =
          and_from (a && b && c && d && e) f (and_from (a && b && c && d) e (and_from (a && b && c) d (and_from (a && b) c (and_from a b one two) three) four) five) six

  -- with two pending entries, which were prepared at two links of the tree, those alone change
  pub two_changed : (parent entry child below second other : ℕ) (side turn : Side) → InTree z m vs g rule parent → InTree z m vs g rule below → IsPrepared m parent side entry child
      → IsPrepared m below turn second other → v.update.pending ≡ entry ∷ second ∷ []
      → (x : ℕ) → InTree z m vs g rule x → (w : Side) → 0 < count (m (Node (Head w) x)) v.update.pending → IsEither parent side below turn x w
  two_changed parent entry child below second other side turn here too ready then pending x there w some =
      elim (of_two (m (Node (Head w) x)) entry second (subst (λ xs. 0 < count (m (Node (Head w) x)) xs) pending some)) as (λ _. IsEither parent side below turn x w) [
        | inl one ↦ inl (only_link z m vs g rule parent x entry side w here there ready.some ready.head (sym one))
        | inr two ↦ inr (only_link z m vs g rule below x second turn w too there then.some then.head (sym two))
      ]
