-- Each load of a word of a node or of an entry, and the try of a lock: that it may be made, what it leaves in the view,
-- and that what is kept at run time still is what the view says.
use Rattle.std.proofs.Common.{◌≡◌, ℕ, ◌<◌, ◌≤◌, Bool, true, false, ltb, leb, ◌&&◌, arith, refl, ap, ◌∙◌, sym, subst, Option}
use Rattle.std.specs.Prelude.{IfSome}
use Rattle.std.proofs.lemmas.Bool.Decides.{nat_tests}
use Rattle.index_words.specs.declared.layout.Layout.{Layout}
use Rattle.index_words.specs.declared.side.Side.{Side}
use Rattle.index_words.specs.declared.view.View.{View}
use Rattle.index_words.specs.declared.view.history.SeenHistory.{SeenHistory}
use Rattle.index_words.specs.declared.view.slots.Slots.{Slots}
use Rattle.index_words.specs.declared.view.slots.Looks.{Looks}
use Rattle.index_words.specs.declared.view.reading.Place.{Place}
use Rattle.index_words.specs.declared.view.reading.Place.TheVariants.{Nowhere, Entry as AtEntry, Node as AtNode, Gap}
use Rattle.index_words.specs.declared.word.Field.{Field}
use Rattle.index_words.specs.declared.word.Field.TheVariants.{Key, Val, Mark, Head}
use Rattle.index_words.specs.declared.word.Part.{Part}
use Rattle.index_words.specs.declared.word.Part.TheVariants.{Child, Stamp as Number, Next}
use Rattle.index_words.specs.declared.word.Word.{Word}
use Rattle.index_words.specs.declared.word.Word.TheVariants.{Node, Entry}
use Rattle.index_words.specs.Words.{memory, is_there}
use Rattle.key_map.specs.Lists.{count}
use Rattle.core_events.specs.declared.event.Event.{Event}
use Rattle.core_events.specs.declared.event.Kind.{Kind}
use Rattle.core_events.specs.declared.event.Kind.TheVariants.{LoadHead, LoadTs, LoadPtr, LoadNext, LoadKeyOrVal, LoadMark}
use Rattle.core_events.specs.LoadMoves.{head_loaded, ts_loaded, ptr_loaded, next_loaded, next_at}
use Rattle.core_events.specs.LockMoves.{pair_loaded, mark_loaded}
use Rattle.core_invariant.specs.Readers.{IsLocked}
use Rattle.core_laws.specs.ViewNeeds.{event_at, May, IsInReach, IsAtEntry, MayReadHead, MayReadNumber, MayReadChild, MayReadNext, MayReadPair, MayReadMark}
use Rattle.core_laws.proofs.ViewNeeds.{may_read_head_law, may_read_number_law, may_read_child_law, may_read_next_law, may_read_key_law, may_read_val_law, may_read_mark_law}
use Rattle.pass_slots.specs.Owned.{KeepsLooks}
use Rattle.table_rule.specs.Homes.{Home, Sat, IsOf, Asks, IsLiveView}
use Rattle.table_rule.specs.Running.{Happened, Stands, table}
use Rattle.table_rule.proofs.Happens.{happened_view, happened_word}
use Rattle.table_rule.proofs.Lists.{item_at}
use Rattle.table_steps.specs.Kept.{Keeps}
use Rattle.table_steps.specs.Loads.{HasLoadedHead, IsAtSelected, FoundChild, HasLoadedMark}
use Rattle.table_steps.specs.Made.{KeepsOwn}
use Rattle.table_steps.specs.Passes.{Pass}
use Rattle.table_steps.specs.declared.kept.Kept.{Kept}
use Rattle.table_steps.proofs.LoadBounds.{reach_high, head_low, next_low, child_low, mark_low, may_watch}

-- the parts of a view that what is kept at run time speaks of
pub record OwnPart : Type 0 where
  pub layout : Layout
  pub number : Option ℕ
  pub word : ℕ
  pub opened : Option ℕ
  pub history : SeenHistory
  pub raised : Option ℕ
  pub free : Slots
  pub batch : Slots
  pub retired : Slots
  pub grace : Looks

abbrev pub own_part : View → OwnPart
own_part v = record {
  layout = v.layout;
  number = v.number;
  word = v.section_word;
  opened = v.reading.opened;
  history = v.history;
  raised = v.update.raised;
  free = v.free;
  batch = v.batch;
  retired = v.retired;
  grace = v.grace;
}

-- a view with the same parts is kept with the same
pub keeps_same : (v w : View) (k : Kept) → own_part w ≡ own_part v → Keeps v k → Keeps w k
keeps_same v w k same keeps =
    let layout : w.layout ≡ v.layout = ap (λ (p : OwnPart). p.layout) same in
    record {
      number = ap (λ (p : OwnPart). p.number) same ∙ keeps.number;
      there = subst (λ (z : Layout). k.number < z.passes) (sym layout) keeps.there;
      few = subst (λ (z : Layout). z.passes ≤ 32) (sym layout) keeps.few;
      word = ap (λ (p : OwnPart). p.word) same ∙ keeps.word;
      left = ap (λ (p : OwnPart). p.history.left) same ∙ keeps.left;
      opened = ap (λ (p : OwnPart). p.opened) same ∙ keeps.opened;
      slots = record {
        free = ap (λ (p : OwnPart). p.free) same ∙ keeps.slots.free;
        batch = ap (λ (p : OwnPart). p.batch) same ∙ keeps.slots.batch;
        retired = ap (λ (p : OwnPart). p.retired) same ∙ keeps.slots.retired;
        looks = subst (λ (g : Looks). KeepsLooks g k.slots.shown) (sym (ap (λ (p : OwnPart). p.grace) same)) keeps.slots.looks;
      };
      node_room = subst (λ (z : Layout). z.nodes ≤ k.slots.node_room) (sym layout) keeps.node_room;
      entry_room = subst (λ (z : Layout). z.entries ≤ k.slots.entry_room) (sym layout) keeps.entry_room;
      own = subst (λ (h : SeenHistory). KeepsOwn h k.updates) (sym (ap (λ (p : OwnPart). p.history) same)) keeps.own;
      raised = subst (λ (o : Option ℕ). IfSome o (λ at. at ≡ k.raised)) (sym (ap (λ (p : OwnPart). p.raised) same)) keeps.raised;
    }

pub next_own : (v : View) (e next : ℕ) → own_part (next_loaded v e next) ≡ own_part v
next_own v e next = by_place v.reading.place
  where
    by_place : (p : Place) → own_part (next_at v p e next) ≡ own_part v
    by_place Nowhere = refl
    by_place _ = refl

-- the pass whose seat this is
abbrev pub pass_of : Sat → ℕ → Pass
pass_of s number = record { id = s.id; seat = s.seat; number = number; view = s.view }

node_there : (k high : ℕ) → k ≤ high → leb k high ≡ true
node_there k high le = grind (arith, nat_tests)

entry_there : (e high : ℕ) → 0 < e → e ≤ high → (ltb 0 e && leb e high) ≡ true
entry_there e high some le = grind (arith, nat_tests)

module _ (home : Home) (s : Sat) (of : IsOf home s) where
  abbrev v : View
  v = s.view

  abbrev z : Layout
  z = home.layout

  -- a reachable node is one of the table
  pub reach_there : (field : Field) (k : ℕ) → IsLiveView v → IsInReach v k → is_there z (Node field k) ≡ true
  reach_there field k live reach =
      let stands : Stands v.layout v = live.stands in
      let high : k ≤ v.layout.nodes = reach_high (table v.layout stands.words stands.views) stands.rule stands.seat v (item_at stands.views stands.seat v stands.at) k reach in
      node_there k z.nodes (subst (λ (y : Layout). k ≤ y.nodes) of.layout high)

  pub high_there : (field : Field) (k : ℕ) → k ≤ v.layout.nodes → is_there z (Node field k) ≡ true
  high_there field k le = node_there k z.nodes (subst (λ (y : Layout). k ≤ y.nodes) of.layout le)

  pub standing_there : (part : Part) (e : ℕ) → IsAtEntry v e → is_there z (Entry part e) ≡ true
  standing_there part e at = entry_there e z.entries at.some (subst (λ (y : Layout). e ≤ y.entries) of.layout at.there)

  pub asks_of : (word : Word) (kind : Kind) (value : ℕ) → is_there z word ≡ true → May z v (event_at z s.seat kind word value) → Asks home s word (event_at z s.seat kind word value)
  asks_of word kind value there may = record { of = of; there = there; seat = refl; word = refl; may = may }

  -- load of a head
  module _ (node : ℕ) (side : Side) (live : IsLiveView v) (may : MayReadHead v node) where
    abbrev head_event : Event
    head_event = event_at z s.seat LoadHead (Node (Head side) node) 0

    head_there : is_there z (Node (Head side) node) ≡ true
    head_there = reach_there (Head side) node live may.reach

    pub head_asks : Asks home s (Node (Head side) node) head_event
    head_asks = asks_of (Node (Head side) node) LoadHead 0 head_there (may_read_head_law z v s.seat node side may)

    module _ (w : View) (n : ℕ) (h : Happened z head_event v n w) where
      abbrev head_word : memory z h.words (Node (Head side) node) ≡ n
      head_word = happened_word z head_event v w n (Node (Head side) node) head_there refl tt h

      pub head_gives : HasLoadedHead v node side n w
      head_gives = record {
        number = memory z h.words (Entry Number n);
        view = happened_view z head_event v w n (Node (Head side) node) head_there refl tt h ∙ ap (λ x. head_loaded v node side x (memory z h.words (Entry Number x))) head_word;
      }

      pub head_high : n ≤ z.entries
      head_high = let low = head_low (table z h.words h.views) h.rule s.seat v (item_at h.views s.seat v h.seat) node side may.reach in omega (arith, low, head_word)

      pub head_keeps : (k : Kept) → Keeps v k → Keeps w k
      head_keeps k keeps = keeps_same v w k (ap own_part head_gives.view) keeps

  -- load of the stamp of an entry
  module _ (e : ℕ) (may : MayReadNumber v e) where
    abbrev number_event : Event
    number_event = event_at z s.seat LoadTs (Entry Number e) 0

    number_there : is_there z (Entry Number e) ≡ true
    number_there = standing_there Number e may.at

    pub number_asks : Asks home s (Entry Number e) number_event
    number_asks = asks_of (Entry Number e) LoadTs 0 number_there (may_read_number_law z v s.seat e may)

    module _ (w : View) (n : ℕ) (h : Happened z number_event v n w) where
      pub number_gives : w ≡ ts_loaded v e n
      number_gives =
          happened_view z number_event v w n (Entry Number e) number_there refl tt h
          ∙ ap (ts_loaded v e) (happened_word z number_event v w n (Entry Number e) number_there refl tt h)

      pub number_keeps : (k : Kept) → Keeps v k → Keeps w k
      number_keeps k keeps =
          keeps_same v w k (ap own_part number_gives) keeps

  -- load of the child of an entry
  module _ (e : ℕ) (may : MayReadChild v e) where
    abbrev child_event : Event
    child_event = event_at z s.seat LoadPtr (Entry Child e) 0

    child_there : is_there z (Entry Child e) ≡ true
    child_there = standing_there Child e may.at

    pub child_asks : Asks home s (Entry Child e) child_event
    child_asks = asks_of (Entry Child e) LoadPtr 0 child_there (may_read_child_law z v s.seat e may)

    module _ (w : View) (n : ℕ) (h : Happened z child_event v n w) where
      abbrev child_word : memory z h.words (Entry Child e) ≡ n
      child_word = happened_word z child_event v w n (Entry Child e) child_there refl tt h

      pub child_gives : w ≡ ptr_loaded v n
      child_gives = happened_view z child_event v w n (Entry Child e) child_there refl tt h ∙ ap (ptr_loaded v) child_word

      pub child_found : (number : ℕ) → FoundChild (pass_of s number) e n w
      child_found number = record {
        event = subst (λ (y : Layout). Happened y (event_at y s.seat LoadPtr (Entry Child e) 0) v n w) (sym of.layout) h;
        view = child_gives;
      }

      pub child_high : IsAtSelected v e → n ≤ z.nodes
      child_high is = let low = child_low (table z h.words h.views) h.rule s.seat v (item_at h.views s.seat v h.seat) e is in omega (arith, low, child_word)

      pub child_keeps : (k : Kept) → Keeps v k → Keeps w k
      child_keeps k keeps =
          keeps_same v w k (ap own_part child_gives) keeps

  -- load of the next of an entry
  module _ (e : ℕ) (may : MayReadNext v e) where
    abbrev next_event : Event
    next_event = event_at z s.seat LoadNext (Entry Next e) 0

    next_there : is_there z (Entry Next e) ≡ true
    next_there = standing_there Next e may.at

    pub next_asks : Asks home s (Entry Next e) next_event
    next_asks = asks_of (Entry Next e) LoadNext 0 next_there (may_read_next_law z v s.seat e may)

    module _ (w : View) (n : ℕ) (h : Happened z next_event v n w) where
      abbrev next_word : memory z h.words (Entry Next e) ≡ n
      next_word = happened_word z next_event v w n (Entry Next e) next_there refl tt h

      pub next_gives : w ≡ next_loaded v e n
      next_gives = happened_view z next_event v w n (Entry Next e) next_there refl tt h ∙ ap (next_loaded v e) next_word

      pub next_high : n ≤ z.entries
      next_high = let low = next_low (table z h.words h.views) h.rule s.seat v (item_at h.views s.seat v h.seat) e may.at (may_watch v e may) in omega (arith, low, next_word)

      pub next_keeps : (k : Kept) → Keeps v k → Keeps w k
      next_keeps k keeps = keeps_same v w k (ap own_part next_gives ∙ next_own v e n) keeps

  -- loads of a key and of a value
  module _ (node : ℕ) (may : MayReadPair v node) where
    abbrev key_event : Event
    key_event = event_at z s.seat LoadKeyOrVal (Node Key node) 0

    abbrev val_event : Event
    val_event = event_at z s.seat LoadKeyOrVal (Node Val node) 0

    pub key_asks : Asks home s (Node Key node) key_event
    key_asks = asks_of (Node Key node) LoadKeyOrVal 0 (high_there Key node may.there) (may_read_key_law z v s.seat node may)

    pub val_asks : Asks home s (Node Val node) val_event
    val_asks = asks_of (Node Val node) LoadKeyOrVal 0 (high_there Val node may.there) (may_read_val_law z v s.seat node may)

    module _ (w : View) (n : ℕ) (h : Happened z key_event v n w) where
      pub key_gives : w ≡ pair_loaded v Key node n
      key_gives =
          happened_view z key_event v w n (Node Key node) (high_there Key node may.there) refl tt h
          ∙ ap (pair_loaded v Key node) (happened_word z key_event v w n (Node Key node) (high_there Key node may.there) refl tt h)

      pub key_keeps : (k : Kept) → Keeps v k → Keeps w k
      key_keeps k keeps =
          keeps_same v w k (ap own_part key_gives) keeps

    module _ (w : View) (n : ℕ) (h : Happened z val_event v n w) where
      pub val_gives : w ≡ pair_loaded v Val node n
      val_gives =
          happened_view z val_event v w n (Node Val node) (high_there Val node may.there) refl tt h
          ∙ ap (pair_loaded v Val node) (happened_word z val_event v w n (Node Val node) (high_there Val node may.there) refl tt h)

      pub val_keeps : (k : Kept) → Keeps v k → Keeps w k
      val_keeps k keeps =
          keeps_same v w k (ap own_part val_gives) keeps

  -- load of a mark
  module _ (node : ℕ) (may : MayReadMark v node) where
    abbrev mark_event : Event
    mark_event = event_at z s.seat LoadMark (Node Mark node) 0

    mark_there : is_there z (Node Mark node) ≡ true
    mark_there = high_there Mark node may.there

    pub mark_asks : Asks home s (Node Mark node) mark_event
    mark_asks = asks_of (Node Mark node) LoadMark 0 mark_there (may_read_mark_law z v s.seat node may)

    module _ (w : View) (n : ℕ) (h : Happened z mark_event v n w) where
      abbrev mark_word : memory z h.words (Node Mark node) ≡ n
      mark_word = happened_word z mark_event v w n (Node Mark node) mark_there refl tt h

      pub mark_gives : w ≡ mark_loaded v node n
      mark_gives = happened_view z mark_event v w n (Node Mark node) mark_there refl tt h ∙ ap (mark_loaded v node) mark_word

      mark_held : IsLocked v node → count node v.update.taken ≡ 0 → n ≤ 1
      mark_held locked kept = let low = mark_low (table z h.words h.views) h.rule s.seat v (item_at h.views s.seat v h.seat) node locked kept in omega (arith, low, mark_word)

      pub mark_loads : (number : ℕ) (marked : Bool) → (marked ≡ true → 0 < n) → (marked ≡ false → n ≡ 0) → HasLoadedMark (pass_of s number) node marked w
      mark_loads number marked set clear = record {
        found = n;
        event = subst (λ (y : Layout). Happened y (event_at y s.seat LoadMark (Node Mark node) 0) v n w) (sym of.layout) h;
        view = mark_gives;
        set = set;
        clear = clear;
        held = mark_held;
      }

      pub mark_keeps : (k : Kept) → Keeps v k → Keeps w k
      mark_keeps k keeps =
          keeps_same v w k (ap own_part mark_gives) keeps
