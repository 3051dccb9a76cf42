-- The law on remembered links.
use Rattle.std.proofs.Common.{◌≡◌, ℕ, zero, suc, ◌<◌, ◌≤◌, ◌⊎◌, List, [], ◌∷◌, ◌++◌, length, true, arith, refl, ap, ◌∙◌, sym, subst, inl, inr, Option, Some, None, is_some}
use Rattle.std.specs.Prelude.{IfSome}
use Rattle.std.specs.List.{sum_by}
use Rattle.std.proofs.lemmas.Bool.{cases_lt}
use Rattle.std.proofs.lemmas.Bool.Decides.{eqb_tells}
use Rattle.index_words.specs.declared.layout.Layout.{Layout}
use Rattle.index_words.specs.declared.side.Side.{Side}
use Rattle.index_words.specs.declared.side.Side.TheVariants.{Right}
use Rattle.index_words.specs.declared.view.View.{View}
use Rattle.index_words.specs.declared.view.reading.Link.{Link}
use Rattle.index_words.specs.declared.word.Field.TheVariants.{Key, Val, Head}
use Rattle.index_words.specs.declared.word.Part.TheVariants.{Child, Stamp as Number, Next}
use Rattle.index_words.specs.declared.word.Word.TheVariants.{Stamp, Node, Entry}
use Rattle.index_words.specs.Words.{Memory}
use Rattle.key_map.specs.Lists.{count, Every, IsItem}
use Rattle.index_words.proofs.Seats.{one_term}
use Rattle.core_grace.specs.Slots.{nodes_of, own, own_free}
use Rattle.core_links.specs.Bundle.{IsChain, no_number, select, child_of_entry}
use Rattle.core_links.proofs.Chains.{select-here, select-behind}
use Rattle.core_trees.specs.NamedTree.{NamedTree, Null, Branch}
use Rattle.core_trees.specs.Gaps.{IsInGap, IsGapLink}
use Rattle.core_trees.specs.Slots.{occurs}
use Rattle.core_trees.specs.SpelledTree.{Graph}
use Rattle.core_trees.specs.SpelledAt.{graph_at}
use Rattle.core_events.specs.Tables.{Table, held_by}
use Rattle.core_invariant.specs.Meanings.{Meaning}
use Rattle.core_events.specs.Versions.{top_slot, tree_nodes}
use Rattle.core_invariant.specs.BundleRule.{IsLive, IsPending}
use Rattle.core_invariant.specs.Readers.{IsReachable, EntryRight, BundleLink, SourceRight, LinkRight}
use Rattle.core_invariant.specs.SeatRule.{SeatRight}
use Rattle.core_invariant.specs.Rule.{Rule, IsRight}
use Rattle.core_events.specs.SpelledNow.{child_now}
use Rattle.core_events.specs.Numbered.{shown}
use Rattle.core_laws.specs.Remembered.{Remembers, IsHeadStill, Validates, HasTree, IsSelectedAt, IsSelectedIn, IsAsRemembered, RememberedLaw, RemembersSelected, KeepsRemembered}
use Rattle.core_invariant.proofs.Frames.{Term, term_of, same_item, every_at}
use Rattle.core_invariant.proofs.OneView.{seat_at}
use Rattle.core_invariant.proofs.Owned.{reachable_live, slot_is}
use Rattle.core_invariant.proofs.TreeNow.{count_slots, ReadsIn, tree_is, child_is}
use Rattle.core_laws.proofs.TreeGaps.{link_reads, gap_same, occurs_there, root_gap, node_gap}
use Rattle.core_invariant.proofs.LinkLaw.{selection_is}

-- what holds of each holds of the one at a place
pub every_item : {X : Type 0} (P : X → Type 0) (xs : List X) (n : ℕ) (x : X) → IsItem xs n x → Every P xs → P x
every_item P [] n x at all = absurd (omega (arith, at.within))
every_item P (y ∷ xs) zero x at all = subst P (at.is y) all.0
every_item P (y ∷ xs) (suc n) x at all = every_item P xs n x (record { within = omega (arith, at.within); is = λ d. at.is d }) all.1

not_raised : (o : Option ℕ) → o ≡ None → is_some o ≡ true → ⊥
not_raised None is one = cc
not_raised (Some n) is one = cc

-- a selected entry is 0, or has a number of at most the one it is selected at
select_low : (number : ℕ → ℕ) (t : ℕ) (es : List ℕ) → (select number t es ≡ 0) ⊎ (number (select number t es) ≤ t)
select_low number t [] = inl refl
select_low number t (e ∷ es) =
    let P : ℕ → Type 0 = λ x. (x ≡ 0) ⊎ (number x ≤ t) in
    elim (cases_lt t (number e)) as (λ _. P (select number t (e ∷ es))) [
      | inl above ↦ subst P (sym (select-behind number t e es above)) (select_low number t es)
      | inr here ↦ subst P (sym (select-here number t e es here)) (inr here)
    ]

-- a head that is selected at a number is selected at each greater one
head_stays : (number next : ℕ → ℕ) (t s head : ℕ) (es : List ℕ) → IsChain next head es → t ≤ s → select number t es ≡ head → select number s es ≡ head
head_stays number next t s head [] chain past is = is
head_stays number next t s head (e ∷ es) chain past is =
    elim (select_low number t (e ∷ es)) as (λ _. select number s (e ∷ es) ≡ head) [
      | inl none ↦ let zero_head : head ≡ 0 = sym is ∙ none in absurd (omega (arith, zero_head, chain.0, chain.1))
      | inr low ↦
          let here : number e ≤ t = subst (λ x. number x ≤ t) (is ∙ chain.0) low in
          select-here number s e es (omega (arith, past, here)) ∙ sym chain.0
    ]

-- so is the entry after a head whose number is above both
front_stays : (number next : ℕ → ℕ) (t s head : ℕ) (es : List ℕ) → IsChain next head es → t ≤ s → s < number head → select number t es ≡ next head
    → select number s es ≡ next head
front_stays number next t s head [] chain past above is = is
front_stays number next t s head (e ∷ es) chain past above is =
    let far : s < number e = subst (λ x. s < number x) chain.0 above in
    let same : next head ≡ next e = ap next chain.0 in
    let then : select number t es ≡ next e = sym (select-behind number t e es (omega (arith, past, far))) ∙ is ∙ same in
    select-behind number s e es far ∙ head_stays number next t s (next e) es chain.2 past then ∙ sym same

-- from an empty bundle nothing is selected, nor where nothing follows a head whose number is above
pub none_stays : (number next : ℕ → ℕ) (s head : ℕ) (es : List ℕ) → IsChain next head es → head ≡ 0 → select number s es ≡ 0
none_stays number next s head [] chain none = refl
none_stays number next s head (e ∷ es) chain none = absurd (omega (arith, none, chain.0, chain.1))

none_behind : (number next : ℕ → ℕ) (s head : ℕ) (es : List ℕ) → IsChain next head es → s < number head → next head ≡ 0 → select number s es ≡ 0
none_behind number next s head [] chain above none = refl
none_behind number next s head (e ∷ es) chain above none =
    select-behind number s e es (subst (λ x. s < number x) chain.0 above)
    ∙ none_stays number next s (next e) es chain.2 (sym (ap next chain.0) ∙ none)

not_empty : {X : Type 0} (xs ys : List X) (x : X) → [] ≡ xs ++ x ∷ ys → ⊥
not_empty [] ys x same = omega (arith, ap length same)
not_empty (y ∷ xs) ys x same = omega (arith, ap length same)

module _ (z : Layout) (m : Memory) (vs : List View) (g : Meaning) (i : ℕ) (v : View) (l : Link) (entry : ℕ) (rule : Rule z m vs g) (at : IsItem vs i v) (known : Remembers v l entry) where
  abbrev child_in : ℕ → ℕ
  child_in e = m (Entry Child e)

  abbrev bundle : List ℕ
  bundle = g.bundles.bundle l.side l.node

  seat : SeatRight z m g v
  seat = seat_at z m vs g i v at rule

  abbrev Selected : Option ℕ → Type 0
  Selected o = EntryRight child_in g.bundles.number bundle o l.child entry

  abbrev Reads : ℕ → Type 0
  Reads t = ReadsIn m g.bundles g.updates (m Stamp) g.tree t v.reading.tree

  -- what the rule says of the link
  right : LinkRight z child_in g.bundles v l
  right = every_item (LinkRight z child_in g.bundles v) v.reading.links known.place l known.link seat.links

  bundled : BundleLink (IsReachable z v l.node) child_in g.bundles.number bundle v.reading.section l.child entry
  bundled = subst (SourceRight (IsReachable z v l.node) child_in g.bundles.number bundle v.reading.section l.child) known.source right

  selected_then : Selected v.reading.section
  selected_then = bundled.selected

  child_then : (o : Option ℕ) → Selected o → child_of_entry child_in entry ≡ l.child
  child_then None is = ap (child_of_entry child_in) is.0 ∙ sym is.1
  child_then (Some t) is = is.1

  remembered_live : IsLive z vs l.node
  remembered_live = reachable_live z vs g rule.slots i l.node v at bundled.reach

  -- a pending entry has no number before the raise
  pending_above : (d : ℕ) → 0 < count d v.update.pending → m Stamp < g.bundles.number d
  pending_above d here =
      let is = (every_at (IsPending z (λ s k. m (Node (Head s) k)) (λ e. m (Entry Number e)) g.bundles.number v) d v.update.pending seat.pending here).1 in
      let none : g.bundles.number d ≡ no_number = is ∙ ap shown known.unraised in
      omega (arith, none, rule.history.calls, rule.history.few)

  abbrev graph : ℕ → Graph
  graph t = graph_at (λ k. m (Node Key k)) (λ k. m (Node Val k)) child_in g.bundles.number g.bundles.bundle t

  module _ (valid : Validates m vs i v l entry) where
    selected_by : (o : Option ℕ) (head : ℕ) → IfSome o (λ t. t ≤ m Stamp) → Selected o → IsChain (λ d. m (Entry Next d)) head bundle
        → IsHeadStill (λ d. m (Entry Next d)) v.update.pending entry head → select g.bundles.number (m Stamp) bundle ≡ entry
    selected_by None head past then chain (inl is) = none_stays g.bundles.number (λ d. m (Entry Next d)) (m Stamp) head bundle chain (is ∙ then.0) ∙ sym then.0
    selected_by None head past then chain (inr front) =
        none_behind g.bundles.number (λ d. m (Entry Next d)) (m Stamp) head bundle chain (pending_above head front.0) (front.1 ∙ then.0) ∙ sym then.0
    selected_by (Some t) head past then chain (inl is) =
        head_stays g.bundles.number (λ d. m (Entry Next d)) t (m Stamp) head bundle chain past (then.0 ∙ sym is) ∙ is
    selected_by (Some t) head past then chain (inr front) =
        front_stays g.bundles.number (λ d. m (Entry Next d)) t (m Stamp) head bundle chain past (pending_above head front.0) (then.0 ∙ sym front.1) ∙ front.1

    selected_now : select g.bundles.number (m Stamp) bundle ≡ entry
    selected_now = selected_by v.reading.section (m (Node (Head l.side) l.node)) seat.version.past selected_then (rule.bundles l.node remembered_live l.side).chain valid.head

    -- no seat has the node retired or in its batch: there it is marked, or another seat has it locked
    not_waiting : Term (own nodes_of l.node) vs → ⊥
    not_waiting term =
        let u : View = term.item in
        let marks = (seat_at z m vs g term.place u term.at rule).marks in
        elim (cases_lt 0 (count l.node u.retired.nodes)) as (λ _. ⊥) [
          | inl retired ↦ elim (marks.retired l.node retired) as (λ _. ⊥) [
            | inl marked ↦ omega (arith, valid.unmarked, marked)
            | inr out ↦ elim (eqb_tells term.place i) as (λ _. ⊥) [
              | inl same ↦ not_raised u.update.raised (ap (λ (x : View). x.update.raised) (sym (same_item vs i term.place v u at term.at same.1)) ∙ known.unraised) out.0
              | inr other ↦ omega (arith, out.2, valid.unlocked term.place u term.at other.1)
            ]
          ]
          | inr other ↦
              let batch : 0 < count l.node u.batch.nodes = omega (arith, term.some, one_term (own_free nodes_of l.node) vs term.place u term.at, remembered_live.1, other) in
              omega (arith, valid.unmarked, marks.batch l.node batch)
        ]

    -- so it is the root or in the tree
    linked : (l.node ≡ 0) ⊎ (0 < occurs l.node g.tree)
    linked =
        elim (eqb_tells 0 l.node) as (λ _. (l.node ≡ 0) ⊎ (0 < occurs l.node g.tree)) [
          | inl root ↦ inl (sym root.1)
          | inr slot ↦
              let low : 0 < l.node = let apart : 0 ≡ l.node → ⊥ = slot.1 in omega (arith, apart) in
              elim (cases_lt 0 (sum_by (own nodes_of l.node) vs)) as (λ _. (l.node ≡ 0) ⊎ (0 < occurs l.node g.tree)) [
                | inl owned ↦ absurd (not_waiting (term_of (own nodes_of l.node) vs owned))
                | inr unowned ↦ inr (omega (arith, rule.slots.nodes.one l.node, slot_is z.nodes l.node low remembered_live.0, unowned, count_slots l.node g.tree))
              ]
        ]

    child_found : (graph (m Stamp)).child l.side l.node ≡ l.child
    child_found = ap (child_of_entry child_in) selected_now ∙ child_then v.reading.section selected_then

    node_kept : (o : Option ℕ) → (o ≡ None → v.reading.tree ≡ []) → IfSome o Reads → Selected o → l.child ≡ 0
        → (slot key val : ℕ) (left high : NamedTree) → v.reading.tree ≡ tree_nodes (Branch slot key val left high)
        → (x : ℕ) → IsGapLink x l.node l.side 0 Right (Branch slot key val left high) → IsGapLink x l.node l.side 0 Right g.tree
    node_kept None bare reads then none slot key val left high same x is =
        absurd (not_empty (tree_nodes left) (tree_nodes high) (record { slot = slot; key = key; val = val; left = top_slot left; right = top_slot high }) (sym (bare refl) ∙ same))
    node_kept (Some t) bare reads then none slot key val left high same x is =
        let tree : NamedTree = Branch slot key val left high in
        let nodes : tree_nodes reads.tree ≡ tree_nodes tree = sym reads.read ∙ same in
        let node = link_reads (graph t) ((graph t).child Right 0) reads.tree tree l.node is.0 l.side reads.version.spelled nodes is.1 in
        let here : 0 < occurs l.node g.tree = elim linked as (λ _. 0 < occurs l.node g.tree) [ inl root ↦ absurd (omega (arith, root, node.0)) | inr slot ↦ slot ] in
        let there : 0 < occurs l.node reads.tree = occurs_there l.node is.0 l.side reads.tree tree nodes is.1 in
        let gap = gap_same l.side (m (Node Key l.node)) x reads.tree tree nodes (subst (λ y. IsInGap l.side y x tree) (sym node.1) is.2) in
        node_gap (graph (m Stamp)) ((graph (m Stamp)).child Right 0) x l.node l.side g.tree rule.tree.spelled here (child_found ∙ none)
        (reads.gaps l.node x l.side there here (then.0 ∙ sym selected_now, ap (child_of_entry child_in) then.0 ∙ then.1 ∙ none) gap)

    gap_kept : l.child ≡ 0 → (tree : NamedTree) → v.reading.tree ≡ tree_nodes tree → (x : ℕ) → IsGapLink x l.node l.side 0 Right tree
        → IsGapLink x l.node l.side 0 Right g.tree
    gap_kept none Null same x is = root_gap (graph (m Stamp)) x l.node l.side g.tree rule.tree.spelled (child_found ∙ none) is
    gap_kept none (Branch slot key val left high) same x is = node_kept v.reading.section seat.version.bare seat.tree selected_then none slot key val left high same x is

    tree_read : (o : Option ℕ) → (o ≡ None → v.reading.tree ≡ []) → IfSome o Reads → HasTree v.reading.tree
    tree_read None bare reads = (Null, bare refl)
    tree_read (Some t) bare reads = (reads.tree, reads.read)

    as_remembered : (select g.bundles.number (m Stamp) bundle ≡ entry) × IsAsRemembered l v.reading.tree (child_of_entry child_in (select g.bundles.number (m Stamp) bundle)) g.tree
    as_remembered = (selected_now, record { linked = linked; child = child_found; read = tree_read v.reading.section seat.version.bare seat.tree; gap = gap_kept })

pub remembered_law : RememberedLaw
remembered_law z m vs g i v l entry rule at known valid = as_remembered z m vs g i v l entry rule at known valid

-- over the words and the views alone
module _ (t : Table) (right : IsRight t) where
  selected_words : (n k entry : ℕ) (side : Side) → IsLive t.layout t.views k → select right.meaning.bundles.number n (right.meaning.bundles.bundle side k) ≡ entry
      → IsSelectedAt (held_by t) t.views n side k entry
  selected_words n k entry side live is =
      let chain = (right.rule.bundles k live side).chain in
      record {
        entries = right.meaning.bundles.bundle side k;
        bundle = chain;
        selected = selection_is t.layout (held_by t) right.meaning t.views right.rule n k side (right.meaning.bundles.bundle side k) live chain ∙ is;
      }

  selected_in : (o : Option ℕ) (l : Link) (entry : ℕ) → IsLive t.layout t.views l.node
      → EntryRight (λ e. held_by t (Entry Child e)) right.meaning.bundles.number (right.meaning.bundles.bundle l.side l.node) o l.child entry
      → IsSelectedIn (held_by t) t.views o l.side l.node entry
  selected_in None l entry live is = is.0
  selected_in (Some n) l entry live is = selected_words n l.node entry l.side live is.0

  pub remembers_selected : RemembersSelected t
  remembers_selected i v l entry at known =
      let g : Meaning = right.meaning in
      let is = selected_then t.layout (held_by t) t.views g i v l entry right.rule at known in (
        selected_in v.reading.section l entry (remembered_live t.layout (held_by t) t.views g i v l entry right.rule at known) is,
        child_then t.layout (held_by t) t.views g i v l entry right.rule at known v.reading.section is,
      )

  -- the tree that is read from the words, and its children, are those of the meaning
  pub remembered_right : KeepsRemembered t
  remembered_right i v l entry at known valid =
      let is = remembered_law t.layout (held_by t) t.views right.meaning i v l entry right.rule at known valid in
      let live : IsLive t.layout t.views l.node = remembered_live t.layout (held_by t) t.views right.meaning i v l entry right.rule at known in (
        selected_words (held_by t Stamp) l.node entry l.side live is.0,
        subst (IsAsRemembered l v.reading.tree (child_now (held_by t) t.views [] l.side l.node)) (sym (tree_is t.layout (held_by t) t.views right.meaning right.rule))
            (subst (λ c. IsAsRemembered l v.reading.tree c right.meaning.tree) (sym (child_is t.layout (held_by t) t.views right.meaning right.rule l.node live l.side)) is.1),
      )
