-- Each step on a plain link and on its tag: that it may be made, what it leaves in the view, and that what is kept at
-- run time still is what the view says.
use Rattle.std.proofs.Common.{◌≡◌, ℕ, ◌+◌, ◌<◌, ◌≤◌, ◌^◌, true, leb, arith, refl, ap, ◌∙◌, subst, inl, inr, List, Option, Some}
use Rattle.std.specs.Prelude.{IfSome}
use Rattle.std.specs.List.{slice_get}
use Rattle.std.proofs.lemmas.Bool.Decides.{nat_tests}
use Rattle.index_words.specs.declared.layout.Layout.{Layout}
use Rattle.index_words.specs.declared.side.Side.{Side}
use Rattle.index_words.specs.declared.side.Side.TheVariants.{Left, Right}
use Rattle.index_words.specs.declared.view.View.{View}
use Rattle.index_words.specs.declared.view.update.HeldNode.{HeldNode}
use Rattle.index_words.specs.declared.word.Field.{Field}
use Rattle.index_words.specs.declared.word.Field.TheVariants.{Link, Tag}
use Rattle.index_words.specs.declared.word.Word.TheVariants.{Node}
use Rattle.index_words.specs.Words.{Memory, memory, is_there}
use Rattle.core_events.specs.declared.event.Event.{Event}
use Rattle.core_events.specs.declared.event.Kind.TheVariants.{LoadLink, SetLink, LoadTag, SetTag}
use Rattle.core_events.specs.PlainMoves.{link_loaded, tag_loaded, link_set, tag_set}
use Rattle.core_events.specs.Searches.{searches_at}
use Rattle.core_events.specs.UpdateNeeds.{side_of}
use Rattle.core_invariant.specs.Locks.{IsNodeAt}
use Rattle.core_invariant.specs.Readers.{IsLocked}
use Rattle.core_invariant.specs.Rule.{InRule}
use Rattle.core_invariant.proofs.Needed.{found_held}
use Rattle.core_invariant.proofs.OneView.{seat_at}
use Rattle.core_invariant.proofs.SearchNodes.{search_count}
use Rattle.core_laws.specs.PlainNeeds.{MayReadLink, MayReadTag, MaySetLink, MaySetTag}
use Rattle.core_laws.specs.ViewNeeds.{event_at, IsSearched}
use Rattle.core_laws.proofs.PlainTrees.{tag_room_law}
use Rattle.core_laws.proofs.PlainNeeds.{may_read_link_law, may_set_link_law, may_read_tag_law, may_set_tag_law}
use Rattle.core_laws.proofs.Searching.{link_found}
use Rattle.core_laws.proofs.ViewTests.{stands_searched}
use Rattle.table_rule.specs.Homes.{Home, Sat, IsOf, Asks, IsLiveView}
use Rattle.table_rule.specs.Running.{Happened, Stored, table}
use Rattle.table_rule.proofs.Happens.{happened_view, happened_word}
use Rattle.table_rule.proofs.Lists.{item_at}
use Rattle.table_steps.specs.Kept.{Keeps}
use Rattle.table_steps.specs.declared.kept.Kept.{Kept}
use Rattle.table_steps.proofs.LoadSteps.{own_part, keeps_same}
use Rattle.table_steps.proofs.There.{locked_high, searched_high}
use Rattle.table_steps.proofs.UpdateSteps.{found_locked}

-- where a search stands it has searched
stands_at : (v : View) (k : ℕ) (side : Side) → searches_at v.reading v.reading.place k side ≡ true → IsSearched v k
stands_at v k side stands =
    elim (stands_searched v.reading v.reading.place k side stands) as (λ _. IsSearched v k) [
      | inl root ↦ inl root
      | inr here ↦ inr (omega (arith, here, search_count k 0 v.reading))
    ]

high_true : (a b : ℕ) → a ≤ b → leb a b ≡ true
high_true a b low = grind (arith, nat_tests)

-- a tag that was loaded under the lock is what its word holds
tag_side : (m : Memory) (side : Side) (h : HeldNode) (tag : ℕ) → IsNodeAt m h → (side_of side h).tag ≡ Some tag → m (Node (Tag side) h.node) ≡ tag
tag_side m Left h tag known loaded = subst (λ (o : Option ℕ). IfSome o (λ x. m (Node (Tag Left) h.node) ≡ x)) loaded known.plain.0.1
tag_side m Right h tag known loaded = subst (λ (o : Option ℕ). IfSome o (λ x. m (Node (Tag Right) h.node) ≡ x)) loaded known.plain.1.1

tag_word : (z : Layout) (words : List ℕ) (vs : List View) (right : InRule z words vs) (i : ℕ) (v : View) (is : slice_get vs i ≡ Some v) (k : ℕ) (side : Side) (tag : ℕ)
    → MaySetTag v k side tag → memory z words (Node (Tag side) k) ≡ tag
tag_word z words vs right i v is k side tag may =
    let m : Memory = memory z words in
    let held = found_held (IsNodeAt m) k may.node v.held.nodes (seat_at z m vs right.meaning i v (item_at vs i v is) right.rule).loaded.nodes may.locked in
    subst (λ n. m (Node (Tag side) n) ≡ tag) held.same (tag_side m side may.node tag held.known may.loaded)

module _ (home : Home) (s : Sat) (of : IsOf home s) (live : IsLiveView s.view) where
  abbrev v : View
  v = s.view

  abbrev z : Layout
  z = home.layout

  high_there : (f : Field) (node : ℕ) → node ≤ v.layout.nodes → is_there z (Node f node) ≡ true
  high_there f node high = high_true node z.nodes (subst (λ (y : Layout). node ≤ y.nodes) of.layout high)

  node_there : (f : Field) (node : ℕ) → IsLocked v node → is_there z (Node f node) ≡ true
  node_there f node locked = high_there f node (locked_high v live node locked)

  -- the node of a link that may be loaded: it is locked, or a search stands there
  link_there : (f : Field) (node : ℕ) (side : Side) → MayReadLink v node side → is_there z (Node f node) ≡ true
  link_there f node side may =
      elim may.on as (λ _. is_there z (Node f node) ≡ true) [
        | inl firm ↦ node_there f node firm.locked
        | inr stands ↦ high_there f node (searched_high v live may.inside node (stands_at v node side stands))
      ]

  module _ (node : ℕ) (side : Side) where
    -- load of a link: what it holds is 0 or a node of the table
    module _ (may : MayReadLink v node side) where
      abbrev link_event : Event
      link_event = event_at z s.seat LoadLink (Node (Link side) node) 0

      link_is : is_there z (Node (Link side) node) ≡ true
      link_is = link_there (Link side) node side may

      pub link_asks : Asks home s (Node (Link side) node) link_event
      link_asks = record { of = of; there = link_is; seat = refl; word = refl; may = may_read_link_law z v s.seat node side may }

      module _ (w : View) (n : ℕ) where
        pub link_gives : Happened z link_event v n w → w ≡ link_loaded v node side n
        link_gives h =
            happened_view z link_event v w n (Node (Link side) node) link_is refl tt h
            ∙ ap (link_loaded v node side) (happened_word z link_event v w n (Node (Link side) node) link_is refl tt h)

        pub link_keeps : Happened z link_event v n w → (k : Kept) → Keeps v k → Keeps w k
        link_keeps h k keeps = keeps_same v w k (ap own_part (link_gives h)) keeps

        pub link_high : Happened z link_event v n w → n ≤ z.nodes
        link_high h =
            subst (λ x. x ≤ z.nodes) (happened_word z link_event v w n (Node (Link side) node) link_is refl tt h)
            (link_found (table z h.words h.views) s.seat v node side h.rule (item_at h.views s.seat v h.seat) may)

    -- load of a tag
    module _ (may : MayReadTag v node) where
      abbrev tag_event : Event
      tag_event = event_at z s.seat LoadTag (Node (Tag side) node) 0

      tag_is : is_there z (Node (Tag side) node) ≡ true
      tag_is = high_there (Tag side) node may.there

      pub tag_asks : Asks home s (Node (Tag side) node) tag_event
      tag_asks = record { of = of; there = tag_is; seat = refl; word = refl; may = may_read_tag_law z v s.seat node side may }

      module _ (w : View) (n : ℕ) where
        pub tag_gives : Happened z tag_event v n w → w ≡ tag_loaded v node side n
        tag_gives h =
            happened_view z tag_event v w n (Node (Tag side) node) tag_is refl tt h
            ∙ ap (tag_loaded v node side) (happened_word z tag_event v w n (Node (Tag side) node) tag_is refl tt h)

        pub tag_keeps : Happened z tag_event v n w → (k : Kept) → Keeps v k → Keeps w k
        tag_keeps h k keeps = keeps_same v w k (ap own_part (tag_gives h)) keeps

    -- set link
    module _ (child : ℕ) (may : MaySetLink v node side child) where
      abbrev set_event : Event
      set_event = event_at z s.seat SetLink (Node (Link side) node) child

      pub set_asks : Asks home s (Node (Link side) node) set_event
      set_asks = record { of = of; there = node_there (Link side) node may.locked; seat = refl; word = refl; may = may_set_link_law z v s.seat node side child may }

      module _ (w : View) (h : Stored z set_event v w) where
        pub set_gives : w ≡ link_set v node side child
        set_gives = happened_view z set_event v w h.0 (Node (Link side) node) (node_there (Link side) node may.locked) refl tt h.1

        pub set_keeps : (k : Kept) → Keeps v k → Keeps w k
        set_keeps k keeps = keeps_same v w k (ap own_part set_gives) keeps

    -- set tag
    module _ (tag : ℕ) (may : MaySetTag v node side tag) where
      tag_locked : IsLocked v node
      tag_locked = found_locked node v.held.nodes may.node may.locked

      abbrev set_tag_event : Event
      set_tag_event = event_at z s.seat SetTag (Node (Tag side) node) (tag + 1)

      pub set_tag_asks : Asks home s (Node (Tag side) node) set_tag_event
      set_tag_asks = record { of = of; there = node_there (Tag side) node tag_locked; seat = refl; word = refl; may = may_set_tag_law z v s.seat node side tag may }

      -- the tag is what its word holds, and a tag that is still to be raised has room for it
      pub set_tag_room : tag + 1 < 2 ^ 64
      set_tag_room =
          let st = live.stands in
          let room = tag_room_law v.layout st.words st.views st.seat v node side st.rule st.at may.owed in
          omega (arith, room, tag_word v.layout st.words st.views st.rule st.seat v st.at node side tag may)

      module _ (w : View) (h : Stored z set_tag_event v w) where
        pub set_tag_gives : w ≡ tag_set v node side (tag + 1)
        set_tag_gives = happened_view z set_tag_event v w h.0 (Node (Tag side) node) (node_there (Tag side) node tag_locked) refl tt h.1

        pub set_tag_keeps : (k : Kept) → Keeps v k → Keeps w k
        set_tag_keeps k keeps = keeps_same v w k (ap own_part set_tag_gives) keeps
