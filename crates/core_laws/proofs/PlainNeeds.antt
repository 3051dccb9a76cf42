-- A seat whose view shows that it may load or set a plain link, or its tag, may do so.
use Rattle.std.proofs.Common.{◌≡◌, ℕ, ◌+◌, ◌<◌, ◌≤◌, ◌⊎◌, ◌++◌, List, Bool, true, false, not, eqb, ◌&&◌, ◌||◌, refl, ap, sym, subst, inl, inr, arith, Option, Some, None}
use Rattle.std.specs.Prelude.{IfSome}
use Rattle.std.specs.List.{slice_get}
use Rattle.std.proofs.lemmas.Bool.{eq-eqb}
use Rattle.index_words.specs.declared.layout.Layout.{Layout}
use Rattle.index_words.specs.declared.side.Side.{Side}
use Rattle.index_words.specs.declared.side.Side.TheVariants.{Left, Right}
use Rattle.index_words.specs.declared.view.View.{View}
use Rattle.index_words.specs.declared.view.update.HeldNode.{HeldNode}
use Rattle.index_words.specs.declared.view.update.Unlinking.{Unlinking}
use Rattle.index_words.specs.declared.word.Field.TheVariants.{Mark, Link, Tag}
use Rattle.index_words.specs.declared.word.Word.TheVariants.{Node}
use Rattle.index_words.specs.Words.{Memory, is_there, memory}
use Rattle.key_map.specs.Lists.{count, IsItem}
use Rattle.key_map.proofs.Counting.{count-append}
use Rattle.core_grace.specs.Batches.{all_passed}
use Rattle.core_grace.specs.Sections.{is_even}
use Rattle.core_events.specs.declared.event.Kind.TheVariants.{LoadLink, SetLink, LoadTag, SetTag}
use Rattle.core_events.specs.LoadMoves.{locks}
use Rattle.core_events.specs.Needs.{is_marked_node, nothing_pending}
use Rattle.core_events.specs.PlainNeeds.{sets_to, keeps_order, may_unlink, may_unlink_at, unlinks_at, owes}
use Rattle.core_events.specs.Searches.{place_nodes, searches_at}
use Rattle.core_events.specs.Steps.{allowed}
use Rattle.core_events.specs.Tables.{Table}
use Rattle.core_events.specs.UpdateNeeds.{side_of}
use Rattle.core_invariant.specs.Locks.{IsNodeAt}
use Rattle.core_invariant.specs.Readers.{IsLocked}
use Rattle.core_invariant.specs.Rule.{InRule}
use Rattle.core_invariant.proofs.Locked.{locks-count, count-locks}
use Rattle.core_invariant.proofs.Needed.{found_held}
use Rattle.core_invariant.proofs.OneView.{item_from_get, seat_at}
use Rattle.core_laws.specs.PlainNeeds.{MayReadLink, MayReadTag, MayUnlink, MaySetLink, MaySetTag, ReadLinkLaw, ReadTagLaw, SetLinkLaw, SetTagLaw}
use Rattle.core_laws.specs.ViewNeeds.{event_at, IsInside}
use Rattle.core_laws.proofs.ViewTests.{at_most, both, left_of, not_of, right_of, found-locks, stands_searched}
use Rattle.core_laws.proofs.AtWork.{locked_alive, inside_alive, allowed_by, reach_there, searched_there, done_by}

count_front : (k : ℕ) (xs ys : List ℕ) → 0 < count k xs → 0 < count k (xs ++ ys)
count_front k xs ys some = omega (arith, some, count-append k xs ys)

module _ (z : Layout) (words : List ℕ) (vs : List View) (right : InRule z words vs) (i : ℕ) (v : View) (is : slice_get vs i ≡ Some v) where
  abbrev m : Memory
  m = memory z words

  abbrev t : Table
  t = record { layout = z; words = words; views = vs }

  -- the node is one of the table, and the test of the need holds
  link_there : (k : ℕ) (side : Side) → IsInside v → IsLocked v k ⊎ (searches_at v.reading v.reading.place k side ≡ true) → is_there z (Node (Link side) k) ≡ true
  link_there k side inside (inl locked) = reach_there z words vs right i v is (Link side) k (inr (inr locked))
  link_there k side inside (inr stands) =
      elim (stands_searched v.reading v.reading.place k side stands) as (λ _. is_there z (Node (Link side) k) ≡ true) [
        | inl root ↦ searched_there z words vs right i v is (Link side) k inside (inl root)
        | inr here ↦ searched_there z words vs right i v is (Link side) k inside (inr (count_front k (place_nodes 0 v.reading.place) _ here))
      ]

  link_tested : (k : ℕ) (side : Side) → IsLocked v k ⊎ (searches_at v.reading v.reading.place k side ≡ true)
      → (locks k v.held.nodes || searches_at v.reading v.reading.place k side) ≡ true
  link_tested k side (inl locked) = left_of (locks k v.held.nodes) (searches_at v.reading v.reading.place k side) (count-locks k v.held.nodes locked)
  link_tested k side (inr stands) = right_of (locks k v.held.nodes) (searches_at v.reading v.reading.place k side) stands

  read_link_may : (k : ℕ) (side : Side) → MayReadLink v k side → allowed t (event_at z i LoadLink (Node (Link side) k) 0) ≡ true
  read_link_may k side may =
      let on : IsLocked v k ⊎ (searches_at v.reading v.reading.place k side ≡ true)
      = elim may.on as (λ _. IsLocked v k ⊎ (searches_at v.reading v.reading.place k side ≡ true)) [ inl firm ↦ inl firm.locked | inr stands ↦ inr stands ] in
      let a = not (is_even v.section_word) in
      let b = locks k v.held.nodes || searches_at v.reading v.reading.place k side in
      allowed_by z words vs right i v is LoadLink (Node (Link side) k) 0 (inside_alive z words vs right i v is may.inside)
      (link_there k side may.inside on) refl
      (both (a && b) (eqb 0 0) (both a b (not_of (is_even v.section_word) may.inside) (link_tested k side on)) refl)

  read_tag_may : (k : ℕ) (side : Side) → MayReadTag v k → allowed t (event_at z i LoadTag (Node (Tag side) k) 0) ≡ true
  read_tag_may k side may =
      let a = not (is_even v.section_word) in
      let live = inside_alive z words vs right i v is may.inside in
      allowed_by z words vs right i v is LoadTag (Node (Tag side) k) 0 live
      (at_most k z.nodes (subst (λ (y : Layout). k ≤ y.nodes) ((seat_at z m vs right.meaning i v (item_from_get vs i v is) right.rule).layout live) may.there)) refl
      (both (true && a) (eqb 0 0) (both true a refl (not_of (is_even v.section_word) may.inside)) refl)

  -- what the view shows of a successor
  unlink_by : (u : Unlinking) → v.joined ≡ false → MayUnlink v u → (is_marked_node m u.successor && all_passed z.passes v.number v.update.waiting.passed) ≡ true
  unlink_by u live may =
      let seat = seat_at z m vs right.meaning i v (item_from_get vs i v is) right.rule in
      let held = found_held (IsNodeAt m) u.successor may.node v.held.nodes seat.loaded.nodes may.locked in
      let marked : m (Node Mark may.node.node) ≡ 1 = subst (λ (o : Option ℕ). IfSome o (λ x. m (Node Mark may.node.node) ≡ x)) may.marked held.known.mark in
      both (is_marked_node m u.successor) (all_passed z.passes v.number v.update.waiting.passed)
      (eq-eqb (m (Node Mark u.successor)) 1 (subst (λ j. m (Node Mark j) ≡ 1) held.same marked))
      (subst (λ (y : Layout). all_passed y.passes v.number v.update.waiting.passed ≡ true) (seat.layout live) may.passed)

  unlink_may : (k : ℕ) (side : Side) → v.joined ≡ false → (o : Option Unlinking) → v.update.unlinking ≡ o → (b : Bool) → unlinks_at k side o ≡ b
      → ((u : Unlinking) → v.update.unlinking ≡ Some u → unlinks_at k side (Some u) ≡ true → MayUnlink v u)
      → (not (unlinks_at k side o) || may_unlink z m v o) ≡ true
  unlink_may k side live None at b here may = refl
  unlink_may k side live (Some u) at false here may = left_of (not (unlinks_at k side (Some u))) (may_unlink z m v (Some u)) (not_of (unlinks_at k side (Some u)) here)
  unlink_may k side live (Some u) at true here may = right_of (not (unlinks_at k side (Some u))) (may_unlink z m v (Some u)) (unlink_by u live (may u at here))

  set_link_may : (k : ℕ) (side : Side) (child : ℕ) → MaySetLink v k side child → allowed t (event_at z i SetLink (Node (Link side) k) child) ≡ true
  set_link_may k side child may =
      let a = locks k v.held.nodes in
      let b = nothing_pending m v in
      let c = sets_to k side child v.update.unset in
      allowed_by z words vs right i v is SetLink (Node (Link side) k) child (locked_alive z words vs right i v is k may.locked)
      (reach_there z words vs right i v is (Link side) k (inr (inr may.locked))) refl
      (both (a && b && c && keeps_order k side v.update) (may_unlink_at z m v k side)
      (both (a && b && c) (keeps_order k side v.update)
      (both (a && b) c (both a b (count-locks k v.held.nodes may.locked) (done_by z words vs right i v is may.done may.marked)) may.unset) may.order)
      (unlink_may k side (locked_alive z words vs right i v is k may.locked) v.update.unlinking refl (unlinks_at k side v.update.unlinking) refl may.waited))

  -- a tag that is known is what the word holds
  tag_by : (s : Side) (h : HeldNode) (tag : ℕ) → IsNodeAt m h → (side_of s h).tag ≡ Some tag → m (Node (Tag s) h.node) ≡ tag
  tag_by Left h tag known loaded = subst (λ (o : Option ℕ). IfSome o (λ x. m (Node (Tag Left) h.node) ≡ x)) loaded known.plain.0.1
  tag_by Right h tag known loaded = subst (λ (o : Option ℕ). IfSome o (λ x. m (Node (Tag Right) h.node) ≡ x)) loaded known.plain.1.1

  set_tag_may : (k : ℕ) (side : Side) (tag : ℕ) → MaySetTag v k side tag → allowed t (event_at z i SetTag (Node (Tag side) k) (tag + 1)) ≡ true
  set_tag_may k side tag may =
      let at : IsItem vs i v = item_from_get vs i v is in
      let locked : IsLocked v k = locks-count k v.held.nodes (found-locks k v.held.nodes may.node may.locked) in
      let held = found_held (IsNodeAt m) k may.node v.held.nodes (seat_at z m vs right.meaning i v at right.rule).loaded.nodes may.locked in
      let known : m (Node (Tag side) k) ≡ tag = subst (λ n. m (Node (Tag side) n) ≡ tag) held.same (tag_by side may.node tag held.known may.loaded) in
      let a = locks k v.held.nodes in
      let b = owes k side v.update.owed in
      allowed_by z words vs right i v is SetTag (Node (Tag side) k) (tag + 1) (locked_alive z words vs right i v is k locked)
      (reach_there z words vs right i v is (Tag side) k (inr (inr locked))) refl
      (both (a && b) (eqb (tag + 1) (m (Node (Tag side) k) + 1)) (both a b (count-locks k v.held.nodes locked) may.owed)
      (eq-eqb (tag + 1) (m (Node (Tag side) k) + 1) (ap (λ x. x + 1) (sym known))))

pub may_read_link_law : ReadLinkLaw
may_read_link_law z v seat k side may words vs right is = read_link_may z words vs right seat v is k side may

pub may_read_tag_law : ReadTagLaw
may_read_tag_law z v seat k side may words vs right is = read_tag_may z words vs right seat v is k side may

pub may_set_link_law : SetLinkLaw
may_set_link_law z v seat k side child may words vs right is = set_link_may z words vs right seat v is k side child may

pub may_set_tag_law : SetTagLaw
may_set_tag_law z v seat k side tag may words vs right is = set_tag_may z words vs right seat v is k side tag may
