-- An event that loads or stores a plain link or its tag, and is allowed, keeps the rule.
use Rattle.std.proofs.Common.{◌≡◌, ℕ, ◌+◌, ◌<◌, List, [], true, eqb, ◌&&◌, ◌||◌, not, set, arith, refl, ap, sym, subst, Some, None}
use Rattle.std.proofs.lemmas.Bool.{and_parts, eqb-true}
use Rattle.std.proofs.lemmas.List.{set-set}
use Rattle.index_words.specs.declared.layout.Layout.{Layout}
use Rattle.index_words.specs.declared.side.Side.{Side}
use Rattle.index_words.specs.declared.view.View.{View}
use Rattle.index_words.specs.declared.view.update.HeldNode.{HeldNode}
use Rattle.index_words.specs.declared.word.Field.{Field}
use Rattle.index_words.specs.declared.word.Field.TheVariants.{Link, Tag}
use Rattle.index_words.specs.declared.word.Word.{Word}
use Rattle.index_words.specs.declared.word.Word.TheVariants.{Node}
use Rattle.index_words.specs.Words.{Memory, memory, written, word_at}
use Rattle.key_map.specs.Lists.{count, IsItem}
use Rattle.index_words.proofs.Seats.{item_set}
use Rattle.core_grace.specs.Sections.{is_even}
use Rattle.core_grace.specs.Holds.{held_slots}
use Rattle.core_events.specs.declared.event.Kind.TheVariants.{LoadLink, SetLink, LoadTag, SetTag}
use Rattle.core_events.specs.LoadMoves.{locks}
use Rattle.core_events.specs.PlainNeeds.{owes, may_load_link, may_load_tag, may_set_field, may_set_link, may_raise_tag, may_set_tag}
use Rattle.core_events.specs.Searches.{searches_at}
use Rattle.core_events.specs.PlainMoves.{link_kept, tag_kept, link_loaded, tag_loaded, link_set, tag_set, other_links, other_tags, still_unlinking}
use Rattle.core_events.specs.Steps.{link_at, tag_at, set_at, raised_tag_at, views_after}
use Rattle.core_events.proofs.Tests.{never, not_true}
use Rattle.core_invariant.specs.Meanings.{Meaning}
use Rattle.core_invariant.specs.Locks.{lock_count}
use Rattle.core_invariant.specs.Rule.{Rule, InRule}
use Rattle.core_invariant.specs.KeptRule.{After, KeepsRuleAt}
use Rattle.core_invariant.proofs.Locked.{locks-count, slots_link, slots_tag}
use Rattle.core_invariant.proofs.OneView.{seat_at}
use Rattle.core_invariant.proofs.WaitNeeds.{can_set}
use Rattle.core_invariant.proofs.KeptViews.{kept_same, store_right, load_right}
use Rattle.core_kept.proofs.PlainKept.{quiet_work, plain_quiet}
use Rattle.core_kept.proofs.PlainSets.{plain_set, plain_tagged}
use Rattle.core_kept.proofs.PlainWork.{work_kept}
use Rattle.core_kept.proofs.LinkStores.{link_load_kept, link_store_kept}
use Rattle.core_kept.proofs.TagStores.{tag_load_kept, tag_store_kept}

module _ (z : Layout) (m : Memory) (vs : List View) (g : Meaning) (rule : Rule z m vs g) (i : ℕ) (v : View) (at : IsItem vs i v) where
  -- a seat that has locked a node has locked some
  none_locked : (k : ℕ) (hs : List HeldNode) → 0 < count k (held_slots hs) → hs ≡ [] → ⊥
  none_locked k hs some none = absurd (omega (arith, some, ap (λ (xs : List HeldNode). count k (held_slots xs)) none))

  link_set_kept : (k : ℕ) (side : Side) (x : ℕ) → 0 < lock_count k v → Rule z (written m (Node (Link side) k) x) (set vs i (link_set v k side x)) g
  link_set_kept k side x locked =
      let w : View = link_kept v k side x in
      let m' : Memory = written m (Node (Link side) k) x in
      let some : 0 < lock_count k w = subst (λ ks. 0 < count k ks) (sym (slots_link k side x v.held.nodes)) locked in
      subst (λ (ws : List View). Rule z m' ws g) (set-set vs i w (link_set v k side x))
      (work_kept z m' (set vs i w) g (link_store_kept z m vs g rule i k side x v at locked) i w (item_set vs i v w at)
      (other_links k side v.update.unset) v.update.owed
      (still_unlinking k side v.update.unlinking) v.update.waiting (none_locked k w.held.nodes some) (seat_at z m vs g i v at rule).section.waits)

  tag_set_kept : (k : ℕ) (side : Side) (x : ℕ) → 0 < lock_count k v → Rule z (written m (Node (Tag side) k) x) (set vs i (tag_set v k side x)) g
  tag_set_kept k side x locked =
      let w : View = tag_kept v k side x in
      let m' : Memory = written m (Node (Tag side) k) x in
      let some : 0 < lock_count k w = subst (λ ks. 0 < count k ks) (sym (slots_tag k side x v.held.nodes)) locked in
      subst (λ (ws : List View). Rule z m' ws g) (set-set vs i w (tag_set v k side x))
      (work_kept z m' (set vs i w) g (tag_store_kept z m vs g rule i k side x v at locked) i w (item_set vs i v w at) v.update.unset
      (other_tags k side v.update.owed)
      v.update.unlinking v.update.waiting (none_locked k w.held.nodes some) (seat_at z m vs g i v at rule).section.waits)

module _ (z : Layout) (words : List ℕ) (vs : List View) (right : InRule z words vs) (i : ℕ) (v : View) (at : IsItem vs i v) (n : ℕ) (value : ℕ) where
  abbrev m : Memory
  m = memory z words

  abbrev Gives : List ℕ → List View → Type 0
  Gives = After z words vs right

  load_link_field : (f : Field) (k : ℕ) → may_load_link v (Node f k) value ≡ true → Gives words (set vs i (link_at v f k (m (Node f k))))
  load_link_field (Link side) k met =
      let stands = locks k v.held.nodes || searches_at v.reading v.reading.place k side in
      let one = and_parts (not (is_even v.section_word) && stands) (eqb value 0) met in
      load_right z words vs right (set vs i (link_loaded v k side (m (Node (Link side) k))))
      (link_load_kept z m vs right.meaning i k side v right.rule at
      (not_true (is_even v.section_word) (and_parts (not (is_even v.section_word)) stands one.0).0))
      (plain_quiet m right.meaning vs i v (link_loaded v k side (m (Node (Link side) k))) at
      (quiet_work v _ refl refl refl (slots_link k side (m (Node (Link side) k)) v.held.nodes)))
  load_link_field _ k met = absurd (never met)

  load_link_found : (u : Word) → may_load_link v u value ≡ true → Gives words (views_after LoadLink z m vs i v u value None)
  load_link_found (Node f k) met = load_link_field f k met
  load_link_found _ met = absurd (never met)

  load_tag_field : (f : Field) (k : ℕ) → may_load_tag v (Node f k) value ≡ true → Gives words (set vs i (tag_at v f k (m (Node f k))))
  load_tag_field (Tag side) k met =
      let one = and_parts (true && not (is_even v.section_word)) (eqb value 0) met in
      load_right z words vs right (set vs i (tag_loaded v k side (m (Node (Tag side) k))))
      (tag_load_kept z m vs right.meaning i k side v right.rule at (not_true (is_even v.section_word) (and_parts true (not (is_even v.section_word)) one.0).1))
      (plain_quiet m right.meaning vs i v (tag_loaded v k side (m (Node (Tag side) k))) at
      (quiet_work v _ refl refl refl (slots_tag k side (m (Node (Tag side) k)) v.held.nodes)))
  load_tag_field _ k met = absurd (never met)

  load_tag_found : (u : Word) → may_load_tag v u value ≡ true → Gives words (views_after LoadTag z m vs i v u value None)
  load_tag_found (Node f k) met = load_tag_field f k met
  load_tag_found _ met = absurd (never met)

  set_link_field : (f : Field) (k : ℕ) → word_at z n ≡ Some (Node f k) → may_set_field z m v f k value ≡ true
      → Gives (set words n value) (set vs i (set_at v f k value))
  set_link_field (Link side) k is met =
      let can = can_set z m v k side value met in
      store_right z words vs n value (Node (Link side) k) right (set vs i (link_set v k side value)) is
      (kept_same z m vs right.meaning (written m (Node (Link side) k) value) (set vs i (link_set v k side value))
      (link_set_kept z m vs right.meaning right.rule i v at k side value can.locked)
      (λ plain. plain_set z m vs right.meaning right.rule i k side value v at can.locked plain can.sets))
  set_link_field _ k is met = absurd (never met)

  set_link_found : (u : Word) → word_at z n ≡ Some u → may_set_link z m v u value ≡ true
      → Gives (set words n value) (views_after SetLink z m vs i v u value None)
  set_link_found (Node f k) is met = set_link_field f k is met
  set_link_found _ is met = absurd (never met)

  set_tag_field : (f : Field) (k : ℕ) → word_at z n ≡ Some (Node f k) → may_raise_tag m v f k value ≡ true
      → Gives (set words n value) (set vs i (raised_tag_at v f k value))
  set_tag_field (Tag side) k is met =
      let a = locks k v.held.nodes in
      let b = owes k side v.update.owed in
      let one = and_parts (a && b) (eqb value (m (Node (Tag side) k) + 1)) met in
      let two = and_parts a b one.0 in
      let locked : 0 < lock_count k v = locks-count k v.held.nodes two.0 in
      store_right z words vs n value (Node (Tag side) k) right (set vs i (tag_set v k side value)) is
      (kept_same z m vs right.meaning (written m (Node (Tag side) k) value) (set vs i (tag_set v k side value))
      (tag_set_kept z m vs right.meaning right.rule i v at k side value locked)
      (λ plain. plain_tagged z m vs right.meaning right.rule i k side value v at locked plain two.1 (eqb-true value (m (Node (Tag side) k) + 1) one.1)))
  set_tag_field _ k is met = absurd (never met)

  set_tag_found : (u : Word) → word_at z n ≡ Some u → may_set_tag m v u value ≡ true → Gives (set words n value) (views_after SetTag z m vs i v u value None)
  set_tag_found (Node f k) is met = set_tag_field f k is met
  set_tag_found _ is met = absurd (never met)

pub load_link_law : KeepsRuleAt LoadLink
load_link_law z words vs right i v at live n w found value o own met = load_link_found z words vs right i v at n value w met

pub load_tag_law : KeepsRuleAt LoadTag
load_tag_law z words vs right i v at live n w found value o own met = load_tag_found z words vs right i v at n value w met

pub set_link_law : KeepsRuleAt SetLink
set_link_law z words vs right i v at live n w found value o own met = set_link_found z words vs right i v at n value w found met

pub set_tag_law : KeepsRuleAt SetTag
set_tag_law z words vs right i v at live n w found value o own met = set_tag_found z words vs right i v at n value w found met
