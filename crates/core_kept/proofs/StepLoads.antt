-- A load that is allowed keeps the rule.
use Rattle.std.proofs.Common.{◌≡◌, ℕ, List, true, false, not, eqb, ◌&&◌, set, refl, ap, Some, None}
use Rattle.std.proofs.lemmas.Bool.{and_parts}
use Rattle.index_words.specs.declared.layout.Layout.{Layout}
use Rattle.index_words.specs.declared.view.View.{View}
use Rattle.index_words.specs.declared.word.Field.{Field}
use Rattle.index_words.specs.declared.word.Field.TheVariants.{Head}
use Rattle.index_words.specs.declared.word.Part.TheVariants.{Child, Stamp as Number, Next}
use Rattle.index_words.specs.declared.word.Word.{Word}
use Rattle.index_words.specs.declared.word.Word.TheVariants.{Stamp, Node, Entry}
use Rattle.index_words.specs.Words.{Memory, memory, word_at}
use Rattle.key_map.specs.Lists.{IsItem}
use Rattle.core_grace.specs.Sections.{is_even}
use Rattle.core_events.specs.declared.event.Kind.TheVariants.{LoadStamp, LoadHead, LoadTs, LoadPtr, LoadNext}
use Rattle.core_events.specs.LoadNeeds.{may_load_stamp, is_reachable, may_load_field, may_load_head, is_part, stands_at, may_load_part, may_go_on, may_load_next}
use Rattle.core_events.specs.LoadMoves.{longest, stamp_loaded, head_loaded, ts_loaded, ptr_loaded, next_loaded}
use Rattle.core_events.specs.Versions.{tree_nodes}
use Rattle.core_events.specs.SpelledNow.{tree_now}
use Rattle.core_invariant.specs.Rule.{InRule}
use Rattle.core_events.specs.Steps.{views_after}
use Rattle.core_invariant.proofs.Passing.{longest_is}
use Rattle.core_kept.proofs.StampLoads.{load_stamp_kept}
use Rattle.core_kept.proofs.HeadLoads.{load_head_kept}
use Rattle.core_kept.proofs.LoadEntries.{load_ts_kept, load_ptr_kept, load_next_kept}
use Rattle.core_invariant.proofs.TreeNow.{tree_is}
use Rattle.core_events.proofs.Tests.{never, not_true, node_there, entry_there}
use Rattle.core_events.proofs.Allowed.{stamp_needs}
use Rattle.core_invariant.proofs.Needed.{reach_is, standing, going_on}
use Rattle.core_invariant.specs.KeptRule.{After, KeepsRuleAt}
use Rattle.core_invariant.proofs.KeptViews.{load_right}
use Rattle.core_kept.proofs.PlainKept.{quiet_work, next_work, plain_quiet}
use Rattle.core_invariant.proofs.Locked.{slots_numbered, slots_found}

module _ (z : Layout) (words : List ℕ) (vs : List View) (right : InRule z words vs) (i : ℕ) (v : View) (at : IsItem vs i v) (live : v.joined ≡ false) (n : ℕ)
    (w : Word) (found : word_at z n ≡ Some w) (value : ℕ) where
  abbrev m : Memory
  m = memory z words

  abbrev Gives : List ℕ → List View → Type 0
  Gives = After z words vs right

  pub stamp_found : (u : Word) → may_load_stamp v u value ≡ true → Gives words (views_after LoadStamp z m vs i v u value None)
  stamp_found Stamp met =
      load_right z words vs right (set vs i (stamp_loaded (longest vs) v (m Stamp) (eqb value 1) (tree_nodes (tree_now z m vs))))
      (load_stamp_kept z m vs right.meaning right.rule i v (longest vs) (eqb value 1) (tree_nodes (tree_now z m vs)) at (stamp_needs v Stamp value met).inside
      (longest_is z m vs right.meaning right.rule) (ap tree_nodes (tree_is z m vs right.meaning right.rule)))
      (plain_quiet m right.meaning vs i v (stamp_loaded (longest vs) v (m Stamp) (eqb value 1) (tree_nodes (tree_now z m vs))) at
      (quiet_work v _ refl refl refl refl))
  stamp_found _ met = absurd (never met)

  head_at_found : (f : Field) (k : ℕ) → word_at z n ≡ Some (Node f k) → may_load_field v f k value ≡ true
      → Gives words (views_after LoadHead z m vs i v (Node f k) value None)
  head_at_found (Head side) k is met =
      let b = not (is_even v.section_word) in
      let c = is_reachable v k in
      let one = and_parts (b && c) (eqb value 0) met in
      let two = and_parts b c one.0 in
      load_right z words vs right (set vs i (head_loaded v k side (m (Node (Head side) k)) (m (Entry Number (m (Node (Head side) k))))))
      (load_head_kept z m vs right.meaning right.rule i k side (m (Entry Number (m (Node (Head side) k)))) v at (not_true (is_even v.section_word) two.0)
      (reach_is z v k (node_there z n k (Head side) is) two.1))
      (plain_quiet m right.meaning vs i v (head_loaded v k side (m (Node (Head side) k)) (m (Entry Number (m (Node (Head side) k))))) at
      (quiet_work v _ refl refl refl (slots_found k side (m (Node (Head side) k)) v.held.nodes)))
  head_at_found _ k is met = absurd (never met)

  pub head_found : (u : Word) → word_at z n ≡ Some u → may_load_head v u value ≡ true → Gives words (views_after LoadHead z m vs i v u value None)
  head_found (Node f k) is met = head_at_found f k is met
  head_found _ is met = absurd (never met)

  pub ts_found : (u : Word) → word_at z n ≡ Some u → may_load_part Number v u value ≡ true → Gives words (views_after LoadTs z m vs i v u value None)
  ts_found (Entry Number e) is met =
      let one = and_parts (is_part Number Number && stands_at v.reading.place e) (eqb value 0) met in
      let stood = standing v e (and_parts (is_part Number Number) (stands_at v.reading.place e) one.0).1 in
      load_right z words vs right (set vs i (ts_loaded v e (m (Entry Number e))))
      (load_ts_kept z m vs right.meaning right.rule i v at stood.node stood.side e stood.found stood.here (entry_there z n e Number is))
      (plain_quiet m right.meaning vs i v (ts_loaded v e (m (Entry Number e))) at
      (quiet_work v _ refl refl refl (slots_numbered e (m (Entry Number e)) v.held.nodes)))
  ts_found _ is met = absurd (never met)

  pub ptr_found : (u : Word) → word_at z n ≡ Some u → may_load_part Child v u value ≡ true → Gives words (views_after LoadPtr z m vs i v u value None)
  ptr_found (Entry Child e) is met =
      let one = and_parts (is_part Child Child && stands_at v.reading.place e) (eqb value 0) met in
      let stood = standing v e (and_parts (is_part Child Child) (stands_at v.reading.place e) one.0).1 in
      load_right z words vs right (set vs i (ptr_loaded v (m (Entry Child e))))
      (load_ptr_kept z m vs right.meaning right.rule i v at stood.node stood.side e stood.found stood.here (entry_there z n e Child is))
      (plain_quiet m right.meaning vs i v (ptr_loaded v (m (Entry Child e))) at (quiet_work v _ refl refl refl refl))
  ptr_found _ is met = absurd (never met)

  pub next_found : (u : Word) → word_at z n ≡ Some u → may_load_next v u value ≡ true → Gives words (views_after LoadNext z m vs i v u value None)
  next_found (Entry Next e) is met =
      let first = and_parts (is_part Next Next && stands_at v.reading.place e && eqb value 0) (may_go_on v v.reading.place e) met in
      let one = and_parts (is_part Next Next && stands_at v.reading.place e) (eqb value 0) first.0 in
      let stood = standing v e (and_parts (is_part Next Next) (stands_at v.reading.place e) one.0).1 in
      load_right z words vs right (set vs i (next_loaded v e (m (Entry Next e))))
      (load_next_kept z m vs right.meaning right.rule i v at stood.node stood.side e stood.found stood.here (entry_there z n e Next is)
      (going_on v e stood.node stood.side stood.found stood.here first.1))
      (plain_quiet m right.meaning vs i v (next_loaded v e (m (Entry Next e))) at (next_work v v.reading.place e (m (Entry Next e))))
  next_found _ is met = absurd (never met)

pub stamp_law : KeepsRuleAt LoadStamp
stamp_law z words vs right i v at live n w found value o own met = stamp_found z words vs right i v at live n w found value w met

pub head_law : KeepsRuleAt LoadHead
head_law z words vs right i v at live n w found value o own met = head_found z words vs right i v at live n w found value w found met

pub number_law : KeepsRuleAt LoadTs
number_law z words vs right i v at live n w found value o own met = ts_found z words vs right i v at live n w found value w found met

pub child_law : KeepsRuleAt LoadPtr
child_law z words vs right i v at live n w found value o own met = ptr_found z words vs right i v at live n w found value w found met

pub next_law : KeepsRuleAt LoadNext
next_law z words vs right i v at live n w found value o own met = next_found z words vs right i v at live n w found value w found met
