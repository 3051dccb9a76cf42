-- What a view shows of an update holds of the words, in every table that meets the rule.
use Rattle.std.proofs.Common.{◌≡◌, ℕ, zero, suc, ◌+◌, ◌<◌, ◌⊎◌, inl, inr, cond, List, [], ◌∷◌, length, true, false, not, eqb, ◌&&◌, refl, ap, sym, ◌∙◌, subst, arith, Option, Some, None, is_none}
use Rattle.std.specs.Prelude.{IfSome}
use Rattle.std.specs.List.{list_any}
use Rattle.std.proofs.lemmas.Bool.{and_from, eq-eqb, ne_eqb}
use Rattle.std.proofs.lemmas.Bool.Decides.{nat_tests}
use Rattle.index_words.specs.declared.layout.Layout.{Layout}
use Rattle.index_words.specs.declared.side.Side.{Side}
use Rattle.index_words.specs.declared.side.Side.TheVariants.{Left, Right}
use Rattle.key_map.specs.declared.update.Update.{Update}
use Rattle.key_map.specs.declared.update.Change.TheVariants.{Put, Remove}
use Rattle.index_words.specs.declared.view.View.{View}
use Rattle.index_words.specs.declared.view.update.HeldNode.{HeldNode}
use Rattle.index_words.specs.declared.view.update.Unlinking.{Unlinking}
use Rattle.index_words.specs.declared.word.Field.TheVariants.{Key, Val, Mark, Head, Link, Tag}
use Rattle.index_words.specs.declared.word.Part.TheVariants.{Child, Stamp as Number, Next}
use Rattle.index_words.specs.declared.word.Word.{Word}
use Rattle.index_words.specs.declared.word.Word.TheVariants.{Stamp, Node, Entry}
use Rattle.index_words.specs.Words.{Memory, memory, same_side, word_at, address}
use Rattle.key_map.specs.Lists.{count, IsItem}
use Rattle.core_grace.specs.Batches.{is_number}
use Rattle.core_grace.specs.Holds.{held_slots}
use Rattle.core_trees.specs.Gaps.{IsGapLink}
use Rattle.core_invariant.specs.FilledRule.{IsOwnSlotWord, FilledRight}
use Rattle.core_invariant.specs.Locks.{HeadRight, SideRight, IsNodeAt}
use Rattle.core_invariant.specs.Rule.{InRule}
use Rattle.core_events.specs.SpelledNow.{tree_now}
use Rattle.core_events.specs.TreeMoves.{has_gap, is_tree_step}
use Rattle.core_events.specs.Tables.{Table}
use Rattle.core_events.specs.UpdateNeeds.{held_at, side_of, may_raise_number}
use Rattle.core_events.specs.Steps.{allowed_at}
use Rattle.core_invariant.proofs.OneView.{item_from_get, seat_at}
use Rattle.core_events.specs.LoadMoves.{locks}
use Rattle.core_invariant.proofs.Needed.{found_held}
use Rattle.core_laws.proofs.CountTests.{item_any}
use Rattle.core_laws.proofs.Remembered.{every_item}
use Rattle.core_laws.proofs.ViewTests.{found-locks, not_of, none_is, number_is}
use Rattle.core_laws.specs.Searching.{HeldLinkLaw, NullLinkLaw, IsOver, IsUnder}
use Rattle.core_events.specs.Searches.{is_above_turn, is_under_turn, is_between, is_gap_found, is_gap_link}
use Rattle.index_words.specs.declared.view.reading.LinkSource.{LinkSource}
use Rattle.index_words.specs.declared.view.reading.LinkSource.TheVariants.{Plain}
use Rattle.core_updates.specs.Ready.{LeadsNow, IsPrepared, IsFreshTo, IsNewLink, IsNewNode, FindsKey, FindsSuccessor, IsReadyToGrow, IsReadyToReplace, IsReadyToLift, IsReadyToJoin, IsNear, IsDeep, update_of, MayStep}
use Rattle.core_updates.specs.SetLinks.{SetLink, set_to}
use Rattle.core_laws.specs.ViewNeeds.{HasFilled}
use Rattle.core_updates.specs.Held.{HoldsHead, HoldsLink, RemembersGap, HoldsGap, HoldsPrepared, HoldsFresh, HoldsNewLink, HoldsNew, HasLoaded, HoldsKey, HoldsSuccessor, HoldsGrow, HoldsReplace, HoldsLift, HoldsJoin, sets_joined, unlinks_joined, CanRaise, raise_of, MayRaise, GrowFromViewLaw, ReplaceFromViewLaw, LiftFromViewLaw, JoinFromViewLaw}
use Rattle.core_updates.proofs.MayRaise.{may_grow, may_replace, may_lift, may_join}

some_is : {X : Type 0} (P : X → Type 0) (o : Option X) (x : X) → o ≡ Some x → IfSome o P → P x
some_is P o x is holds = subst (λ u. IfSome u P) is holds

counted_item : (hs : List HeldNode) (i : ℕ) (h : HeldNode) → IsItem hs i h → 0 < count h.node (held_slots hs)
counted_item [] i h at = absurd (omega (arith, at.within))
counted_item (x ∷ hs) zero h at = subst (λ (y : HeldNode). 0 < count y.node (held_slots (x ∷ hs))) (at.is x) (counted x.node (count x.node (held_slots hs)))
  where
    counted : (k n : ℕ) → 0 < cond (eqb k k) 1 0 + n
    counted k n = grind (arith, nat_tests)
counted_item (x ∷ hs) (suc i) h at =
    omega (arith, counted_item hs i h (record { within = omega (arith, at.within); is = λ d. at.is d }))

-- the test of a remembered null link
source_tested : (key tag : ℕ) (source : LinkSource) (above below : Option ℕ) → source ≡ Plain (Some tag) above below → IsOver below key → IsUnder above key
    → is_gap_found key tag source ≡ true
source_tested key tag source above below is over under =
    ap (is_gap_found key tag) is
    ∙ and_from (eqb tag tag) (is_between below above key) (eq-eqb tag tag refl) (and_from (is_above_turn below key) (is_under_turn above key) (over_tested below over) (under_tested above under))
  where
    over_tested : (o : Option ℕ) → IsOver o key → is_above_turn o key ≡ true
    over_tested None over = refl
    over_tested (Some low) over = grind (arith, nat_tests, over)

    under_tested : (o : Option ℕ) → IsUnder o key → is_under_turn o key ≡ true
    under_tested None under = refl
    under_tested (Some high) under = grind (arith, nat_tests, under)

same_sides : (s t : Side) → s ≡ t → same_side s t ≡ true
same_sides Left t p = subst (λ u. same_side Left u ≡ true) p refl
same_sides Right t p = subst (λ u. same_side Right u ≡ true) p refl

link_tested : {v : View} (node : ℕ) (side : Side) (key tag : ℕ) (h : RemembersGap v node side tag key) → is_gap_link node side key tag h.link ≡ true
link_tested node side key tag h =
    let l = h.link in
    and_from (eqb l.node node && same_side l.side side && eqb l.child 0) (is_gap_found key tag l.source)
    (and_from (eqb l.node node && same_side l.side side) (eqb l.child 0) (and_from (eqb l.node node) (same_side l.side side) (eq-eqb l.node node h.node_is) (same_sides l.side side h.side_is))
    (eq-eqb l.child 0 h.child_is)) (source_tested key tag l.source h.above h.below h.source h.over h.under)

-- with `t` a table that meets the rule, and `v` the view of a seat of it that has not raised
module _ (held_link : HeldLinkLaw) (null_link : NullLinkLaw) (z : Layout) (words : List ℕ) (vs : List View) (right : InRule z words vs) (i : ℕ) (v : View) (at : IsItem vs i v) (unraised : v.update.raised ≡ None) where
  abbrev m : Memory
  m = memory z words

  abbrev t : Table
  t = record { layout = z; words = words; views = vs }

  -- a filled word of an own slot holds what was put into it
  filled : (w : Word) (x : ℕ) → HasFilled v w x → IsOwnSlotWord v.free v.update w → m w ≡ x
  filled w x f own =
      every_item (FilledRight m v.free v.update) v.reading.filled f.place (record { word = w; value = x }) f.is (seat_at z m vs right.meaning i v at right.rule).filled own

  -- the word of a head is as the view has it
  head_of_side : (side : Side) (held : HeldNode) → IsNodeAt m held → SideRight (m (Node (Head side) held.node)) (λ e. m (Entry Number e)) (side_of side held)
  head_of_side Left held is = is.left
  head_of_side Right held is = is.right

  node_right : (place : ℕ) (held : HeldNode) → IsItem v.held.nodes place held → IsNodeAt m held
  node_right place held here = every_item (IsNodeAt m) v.held.nodes place held here (seat_at z m vs right.meaning i v at right.rule).loaded.nodes

  head_is : (node : ℕ) (side : Side) (entry : ℕ) → HoldsHead v node side entry → m (Node (Head side) node) ≡ entry
  head_is node side entry h =
      let loaded = head_of_side side h.held (node_right h.place h.held h.at) in
      let is : m (Node (Head side) h.held.node) ≡ h.loaded.entry
      = (some_is (HeadRight (m (Node (Head side) h.held.node)) (λ e. m (Entry Number e))) (side_of side h.held).head h.loaded h.head loaded.head).0 in
      ap (λ k. m (Node (Head side) k)) (sym h.node_is) ∙ is ∙ h.entry_is

  -- the word of a plain link, and of its tag, is as the view has it
  plain_of : (side : Side) (held : HeldNode) → IsNodeAt m held
      → IfSome (side_of side held).link (λ x. m (Node (Link side) held.node) ≡ x) × IfSome (side_of side held).tag (λ x. m (Node (Tag side) held.node) ≡ x)
  plain_of Left held is = is.plain.0
  plain_of Right held is = is.plain.1

  leads : (node : ℕ) (side : Side) (child : ℕ) → HoldsLink v node side child → LeadsNow z m vs node side child
  leads node side child h =
      let found = held_link t i v node child side h.held right at unraised h.locked h.unmarked h.leads h.root in
      record { link = found.0; child_is = found.1 }

  -- the node of a link that was looked at is locked
  link_locked : (node : ℕ) (side : Side) (child : ℕ) → HoldsLink v node side child → locks node v.held.nodes ≡ true
  link_locked node side child h = found-locks node v.held.nodes h.held h.locked

  -- the key is in the gap of a null link at which a search has ended
  gap_now : (node : ℕ) (side : Side) (key : ℕ) (h : HoldsGap v node side key) → IsGapLink key node side 0 Right (tree_now z m vs)
  gap_now node side key h =
      let l = h.found.link in
      let there : IsGapLink key l.node l.side 0 Right (tree_now z m vs)
      = null_link t i h.found.place v l (Some h.tag) h.found.above h.found.below h.null.held right at unraised h.found.is h.found.source h.found.child_is
      (ap (λ k. held_at k v.held.nodes) h.found.node_is ∙ h.null.locked) h.null.unmarked (ap (λ s. (side_of s h.null.held).link) h.found.side_is ∙ h.null.leads)
      key h.found.over h.found.under in
      subst (λ k. IsGapLink key k side 0 Right (tree_now z m vs)) h.found.node_is
      (subst (λ s. IsGapLink key l.node s 0 Right (tree_now z m vs)) h.found.side_is there)

  -- it is null still, with the tag with which it was found
  gap_tested : (node : ℕ) (side : Side) (key : ℕ) (h : HoldsGap v node side key) → has_gap m v key node side ≡ true
  gap_tested node side key h =
      let held = found_held (IsNodeAt m) node h.null.held v.held.nodes (seat_at z m vs right.meaning i v at right.rule).loaded.nodes h.null.locked in
      let words = plain_of side h.null.held held.known in
      let null : m (Node (Link side) node) ≡ 0
      = ap (λ k. m (Node (Link side) k)) (sym held.same) ∙ some_is (λ x. m (Node (Link side) h.null.held.node) ≡ x) (side_of side h.null.held).link 0 h.null.leads words.0 in
      let tag : m (Node (Tag side) node) ≡ h.tag
      = ap (λ k. m (Node (Tag side) k)) (sym held.same) ∙ some_is (λ x. m (Node (Tag side) h.null.held.node) ≡ x) (side_of side h.null.held).tag h.tag h.held_tag words.1 in
      and_from (eqb (m (Node (Link side) node)) 0) (list_any (is_gap_link node side key (m (Node (Tag side) node))) v.reading.links) (eq-eqb (m (Node (Link side) node)) 0 null)
      (item_any (is_gap_link node side key (m (Node (Tag side) node))) v.reading.links h.found.place h.found.link h.found.is
      (subst (λ x. is_gap_link node side key x h.found.link ≡ true) (sym tag) (link_tested node side key h.tag h.found)))

  prepared : (node : ℕ) (side : Side) (entry child : ℕ) → HoldsPrepared v node side entry child → IsPrepared m node side entry child
  prepared node side entry child h = record {
    some = h.some;
    head = head_is node side entry h.head;
    leads = filled (Entry Child entry) child h.leads (inr (unraised, h.pending));
  }

  fresh : (entry child : ℕ) → HoldsFresh v entry child → IsFreshTo m v entry child
  fresh entry child h = record {
    free = h.free;
    unnumbered = filled (Entry Number entry) 0 h.unnumbered (inl h.free);
    last = filled (Entry Next entry) 0 h.last (inl h.free);
    leads = filled (Entry Child entry) child h.leads (inl h.free);
  }

  new_link : (slot : ℕ) (side : Side) (head child : ℕ) → 0 < count slot v.free.nodes → HoldsNewLink v slot side head child → IsNewLink m v slot side child
  new_link slot side head child free h =
      let is : m (Node (Head side) slot) ≡ head = filled (Node (Head side) slot) head h.0 (refl, free) in
      elim h.1 as (λ _. IsNewLink m v slot side child) [
        | inl none ↦ inl (is ∙ none.0, none.1)
        | inr one ↦ inr (subst (λ e. IsFreshTo m v e child) (sym is) (fresh head child one))
      ]

  new_node : (slot key val left right : ℕ) → HoldsNew v slot key val left right → IsNewNode m v slot key val left right
  new_node slot key val left high h =
      let left_is : m (Node (Head Left) slot) ≡ h.left_head = filled (Node (Head Left) slot) h.left_head h.left_link.0 (refl, h.free) in
      let right_is : m (Node (Head Right) slot) ≡ h.right_head = filled (Node (Head Right) slot) h.right_head h.right_link.0 (refl, h.free) in
      record {
        free = h.free;
        unmarked = filled (Node Mark slot) 0 h.unmarked (refl, h.free);
        key_is = filled (Node Key slot) key h.key_is (refl, h.free);
        val_is = filled (Node Val slot) val h.val_is (refl, h.free);
        left_link = new_link slot Left h.left_head left h.free h.left_link;
        right_link = new_link slot Right h.right_head high h.free h.right_link;
        left_child = filled (Node (Link Left) slot) left h.left_child (refl, h.free);
        right_child = filled (Node (Link Right) slot) high h.right_child (refl, h.free);
        left_tag = filled (Node (Tag Left) slot) 0 h.left_tag (refl, h.free);
        right_tag = filled (Node (Tag Right) slot) 0 h.right_tag (refl, h.free);
        apart = λ same. left_is ∙ h.apart (sym left_is ∙ same ∙ right_is);
      }

  key_word : (node x : ℕ) → HasLoaded v node (λ (h : HeldNode). h.key) x → m (Node Key node) ≡ x
  key_word node x h = ap (λ k. m (Node Key k)) (sym h.node_is) ∙ some_is (λ y. m (Node Key h.held.node) ≡ y) h.held.key x h.is (node_right h.place h.held h.at).key

  val_word : (node x : ℕ) → HasLoaded v node (λ (h : HeldNode). h.val) x → m (Node Val node) ≡ x
  val_word node x h = ap (λ k. m (Node Val k)) (sym h.node_is) ∙ some_is (λ y. m (Node Val h.held.node) ≡ y) h.held.val x h.is (node_right h.place h.held h.at).val

  abbrev found : (key : ℕ) (h : HoldsKey v key) → FindsKey z m vs v key
  found key h = record {
    parent = h.parent;
    side = h.side;
    node = h.node;
    some = h.some;
    at = leads h.parent h.side h.node h.at;
    held = link_locked h.parent h.side h.node h.at;
    key_is = key_word h.node key h.key_is;
    locked = link_locked h.node Left h.left h.left_link;
    left = h.left;
    left_is = (leads h.node Left h.left h.left_link).child_is;
    right = h.right;
    right_is = (leads h.node Right h.right h.right_link).child_is;
  }

  abbrev successor : (key : ℕ) (h : HoldsSuccessor v key) → FindsSuccessor z m vs v key
  successor key h =
      let key_is : m (Node Key h.node) ≡ h.key_of = key_word h.node h.key_of h.key_is in
      record {
        parent = h.parent;
        side = h.side;
        node = h.node;
        some = h.some;
        at = leads h.parent h.side h.node h.at;
        held = link_locked h.parent h.side h.node h.at;
        above = subst (λ k. key < k) (sym key_is) h.above;
        locked = link_locked h.node Left 0 h.left_link;
        gap = λ x low high. gap_now h.node Left x (h.gap x low (subst (λ k. x < k) key_is high));
        right = h.right;
        right_is = (leads h.node Right h.right h.right_link).child_is;
      }

  abbrev to_grow : (key val : ℕ) (h : HoldsGrow v key val) → IsReadyToGrow z m vs v key val
  to_grow key val h = record {
    node = h.node;
    side = h.side;
    link = (leads h.node h.side 0 h.at.null).link;
    held = link_locked h.node h.side 0 h.at.null;
    gap = gap_now h.node h.side key h.at;
    searched = gap_tested h.node h.side key h.at;
    small = h.small;
    slot = h.slot;
    new = new_node h.slot key val 0 0 h.new;
    entry = h.entry;
    pending = h.pending;
    prepared = prepared h.node h.side h.entry h.slot h.prepared;
  }

  abbrev to_replace : (key val : ℕ) (h : HoldsReplace v key val) → IsReadyToReplace z m vs v key val
  to_replace key val h = record {
    found = found key h.found;
    small = h.small;
    slot = h.slot;
    new = new_node h.slot key val h.found.left h.found.right h.new;
    entry = h.entry;
    pending = h.pending;
    prepared = prepared h.found.parent h.found.side h.entry h.slot h.prepared;
  }

  abbrev to_lift : (key : ℕ) (h : HoldsLift v key) → IsReadyToLift z m vs v key
  to_lift key h = record {
    found = found key h.found;
    small = h.small;
    child = h.child;
    one = h.one;
    entry = h.entry;
    pending = h.pending;
    prepared = prepared h.found.parent h.found.side h.entry h.child h.prepared;
  }

  abbrev to_join : (key : ℕ) (h : HoldsJoin v key) → IsReadyToJoin z m vs v key
  to_join key h =
      let n = h.next in
      let node = new_node h.slot n.key_of n.val_of h.found.left h.new_right h.new in
      record {
        found = found key h.found;
        small = h.small;
        left = h.left;
        right = h.right;
        next = successor key n;
        slot = h.slot;
        new_right = h.new_right;
        new = record {
          free = node.free;
          unmarked = node.unmarked;
          key_is = node.key_is ∙ sym (key_word n.node n.key_of n.key_is);
          val_is = node.val_is ∙ sym (val_word n.node n.val_of n.val_is);
          left_link = node.left_link;
          right_link = node.right_link;
          left_child = node.left_child;
          right_child = node.right_child;
          left_tag = node.left_tag;
          right_tag = node.right_tag;
          apart = node.apart;
        };
        entry = h.entry;
        prepared = prepared h.found.parent h.found.side h.entry h.slot h.prepared;
        by = elim h.by as (λ _. IsNear v h.found.node n.parent n.side n.right h.entry h.new_right ⊎ IsDeep m v h.found.node h.found.right n.parent n.side n.right h.entry h.new_right) [
          | inl near ↦ inl (record { parent_is = near.parent_is; side_is = near.side_is; pending = near.pending; child = near.child })
          | inr deep ↦ inr (record { apart = deep.apart; second = deep.second; pending = deep.pending; prepared = prepared n.parent n.side deep.second n.right deep.prepared; child = deep.child })
        ];
      }

longer : (xs ys : List ℕ) (x : ℕ) → xs ≡ x ∷ ys → eqb (length xs) 0 ≡ false
longer xs ys x is = ap (λ l. eqb (length l) 0) is ∙ ne_eqb (length (x ∷ ys)) 0 (λ zero'. omega (arith, zero'))

-- the need of a raise, from its parts
may_raise_by : (z : Layout) (v : View) (u : Update) (added : Option ℕ) (out : List ℕ) (sets : List SetLink) (last : Option Unlinking) (client entry : ℕ) (rest : List ℕ) → CanRaise v client → u.client ≡ client
    → v.update.pending ≡ entry ∷ rest
    → ((words : List ℕ) (vs : List View) (i : ℕ) → InRule z words vs → IsItem vs i v → MayStep z (memory z words) vs v u added out sets last) → MayRaise z v u added out sets last
may_raise_by z v u added out sets last client entry rest can own pending steps = record {
  may = λ words vs seat right at.
      let step = (steps words vs seat right (item_from_get vs seat v at)).step in
      let mine : is_number u.client v.number ≡ true = ap (λ c. is_number c v.number) own ∙ number_is client v.number can.own in
      let live : not v.joined ≡ true = not_of v.joined can.live in
      let calls : not (eqb v.history.left 0) ≡ true = not_of (eqb v.history.left 0) (ne_eqb v.history.left 0 (λ none. omega (arith, none, can.left))) in
      let pends : not (eqb (length v.update.pending) 0) ≡ true = not_of (eqb (length v.update.pending) 0) (longer v.update.pending rest entry pending) in
      let number : may_raise_number v Stamp 0 ≡ true
      = and_from (is_none v.update.raised && not (eqb v.history.left 0)) (not (eqb (length v.update.pending) 0))
      (and_from (is_none v.update.raised) (not (eqb v.history.left 0)) (none_is v.update.raised can.unraised) calls) pends in
      ap (λ o. allowed_at (record { layout = z; words = words; views = vs }) (raise_of z seat u) o (word_at z (address z Stamp))) at
      ∙ and_from (is_number u.client v.number && not v.joined) (may_raise_number v Stamp 0 && is_tree_step z (memory z words) vs v u)
      (and_from (is_number u.client v.number) (not v.joined) mine live) (and_from (may_raise_number v Stamp 0) (is_tree_step z (memory z words) vs v u) number step);
  moves = λ words vs seat right at. steps words vs seat right (item_from_get vs seat v at);
}

pub grow_from_view : HeldLinkLaw → NullLinkLaw → GrowFromViewLaw
grow_from_view held_link null_link z v client line key val can h =
    may_raise_by z v (update_of client line key (Put val)) (Some h.slot) [] (set_to h.node h.side h.slot ∷ []) None client h.entry [] can refl h.pending
    (λ words vs i right at. may_grow z (memory z words) vs right.meaning i v client line key val right.rule at (to_grow held_link null_link z words vs right i v at can.unraised key val h))

pub replace_from_view : HeldLinkLaw → NullLinkLaw → ReplaceFromViewLaw
replace_from_view held_link null_link z v client line key val can h =
    may_raise_by z v (update_of client line key (Put val)) (Some h.slot) (h.found.node ∷ []) (set_to h.found.parent h.found.side h.slot ∷ []) None client h.entry [] can refl h.pending
    (λ words vs i right at. may_replace z (memory z words) vs right.meaning i v client line key val right.rule at (to_replace held_link null_link z words vs right i v at can.unraised key val h))

pub lift_from_view : HeldLinkLaw → NullLinkLaw → LiftFromViewLaw
lift_from_view held_link null_link z v client line key can h =
    may_raise_by z v (update_of client line key Remove) None (h.found.node ∷ []) (set_to h.found.parent h.found.side h.child ∷ []) None client h.entry [] can refl h.pending
    (λ words vs i right at. may_lift z (memory z words) vs right.meaning i v client line key right.rule at (to_lift held_link null_link z words vs right i v at can.unraised key h))

-- one entry is pending, or two
first_pending : (v : View) (key : ℕ) (h : HoldsJoin v key) → (rest : List ℕ) × (v.update.pending ≡ h.entry ∷ rest)
first_pending v key h = elim h.by as (λ _. (rest : List ℕ) × (v.update.pending ≡ h.entry ∷ rest)) [ inl near ↦ ([], near.pending) | inr deep ↦ (deep.second ∷ [], deep.pending) ]

pub join_from_view : HeldLinkLaw → NullLinkLaw → JoinFromViewLaw
join_from_view held_link null_link z v client line key can h =
    let first = first_pending v key h in
    may_raise_by z v (update_of client line key Remove) (Some h.slot) (h.found.node ∷ h.next.node ∷ []) (sets_joined v key h) (unlinks_joined v key h) client h.entry first.0 can refl first.1
    (λ words vs i right at. may_join z (memory z words) vs right.meaning i v client line key right.rule at (to_join held_link null_link z words vs right i v at can.unraised key h))
