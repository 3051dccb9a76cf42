-- The loads of the stamp, and the announcements: that each may be made, what it leaves in the view, and that what is
-- kept at run time still is what the view says.
use Rattle.std.proofs.Common.{◌≡◌, ℕ, ◌<◌, ◌≤◌, ◌==◌, ◌++◌, List, length, take, drop, cond, not, eqb, ltb, Bool, true, false, arith, refl, ap, ◌∙◌, sym, subst, Option, Some, None}
use Rattle.std.specs.Prelude.{IfSome, min}
use Rattle.std.proofs.lemmas.Bool.Decides.{nat_tests}
use Rattle.std.proofs.lemmas.List.{length-take, take-append-drop}
use Rattle.index_words.specs.declared.layout.Layout.{Layout}
use Rattle.index_words.specs.declared.view.View.{View}
use Rattle.index_words.specs.declared.view.slots.Looks.{Looks}
use Rattle.index_words.specs.declared.view.reading.TreeNode.{TreeNode}
use Rattle.index_words.specs.declared.word.Word.TheVariants.{Stamp, Announced}
use Rattle.index_words.specs.Words.{Memory, memory, is_there}
use Rattle.key_map.specs.declared.update.Update.{Update}
use Rattle.key_map.specs.History.{after}
use Rattle.core_grace.specs.Sections.{is_even}
use Rattle.core_events.specs.declared.event.Event.{Event}
use Rattle.core_events.specs.declared.event.Kind.TheVariants.{LoadStamp, Announce, LookAnn}
use Rattle.core_events.specs.Announcing.{announced_view, ann_loaded}
use Rattle.core_events.specs.LoadMoves.{longest, stamp_history, stamp_loaded, stamp_reading}
use Rattle.core_events.specs.SpelledNow.{tree_now}
use Rattle.core_events.specs.Versions.{tree_nodes}
use Rattle.core_events.proofs.Tests.{has_announced-is}
use Rattle.core_laws.specs.Found.{FindsStamp}
use Rattle.core_laws.specs.ViewNeeds.{event_at, MayLoadStamp, MayFix, MayLookAnn}
use Rattle.core_laws.proofs.Found.{stamp_law}
use Rattle.core_laws.proofs.AnnounceNeeds.{may_announce_law, may_take_back_law, may_look_ann_law}
use Rattle.core_laws.proofs.ViewNeeds.{may_load_stamp_law, may_fix_law}
use Rattle.pass_slots.specs.Owned.{KeepsLooks}
use Rattle.table_rule.specs.Homes.{Home, Sat, IsOf, Asks, IsLiveView}
use Rattle.table_rule.specs.Running.{Happened, Stored, table}
use Rattle.table_rule.proofs.Happens.{happened_view, happened_word}
use Rattle.table_rule.proofs.Lists.{item_at}
use Rattle.table_steps.specs.Kept.{Keeps}
use Rattle.table_steps.specs.Passes.{Inside, Extends}
use Rattle.table_steps.specs.Stamps.{announced_word, with_seen, CanAnnounce, HasSeen, ReadsNow}
use Rattle.table_steps.specs.declared.kept.Kept.{Kept}
use Rattle.table_steps.proofs.LoadSteps.{keeps_same, pass_of}
use Rattle.table_steps.proofs.Own.{own_longer}
use Rattle.table_steps.proofs.SectionSteps.{still_raised}
use Rattle.table_steps.proofs.Views.{IsStill, RightSeat, live_seat}

low_true : (a b : ℕ) → a < b → ltb a b ≡ true
low_true a b low = grind (arith, nat_tests)

just_zero : (x : ℕ) → x ≡ 0 → not (eqb x 0) ≡ false
just_zero x none' = grind (arith, nat_tests)

-- what a live view has seen is no more than the table's calls
pub seen_few : (v : View) → IsLiveView v → length v.history.seen ≤ v.layout.calls
seen_few v live =
    let right : RightSeat v = live_seat v live in
    let history = right.rule.rule.history in
    omega (arith, short right.rule.meaning.updates v.history.seen right.seat.seen.seen, history.long, history.calls)
  where
    below : (n k : ℕ) → min n k ≤ k
    below n k = grind (arith, nat_tests)

    short : (us seen : List Update) → seen ≡ take (length seen) us → length seen ≤ length us
    short us seen is =
        subst (λ (xs : List Update). length xs ≤ length us) (sym is)
        (subst (λ n. n ≤ length us) (sym (length-take (length seen) us)) (below (length seen) (length us)))

module _ (home : Home) (s : Sat) (k : Kept) (keeps : Keeps s.view k) (of : IsOf home s) where
  abbrev v : View
  v = s.view

  abbrev z : Layout
  z = home.layout

  own_there : is_there z (Announced k.number) ≡ true
  own_there = low_true k.number z.passes (subst (λ (y : Layout). k.number < y.passes) of.layout keeps.there)

  -- a load of the stamp
  pub load_asks : MayLoadStamp v → Asks home s Stamp (event_at z s.seat LoadStamp Stamp 0)
  load_asks may = record { of = of; there = refl; seat = refl; word = refl; may = may_load_stamp_law z v s.seat may }

  pub fix_asks : MayFix v → Asks home s Stamp (event_at z s.seat LoadStamp Stamp 1)
  fix_asks may = record { of = of; there = refl; seat = refl; word = refl; may = may_fix_law z v s.seat may }

  module _ (fixes : ℕ) (w : View) (n : ℕ) (h : Happened z (event_at z s.seat LoadStamp Stamp fixes) v n w) where
    abbrev m : Memory
    m = memory z h.words

    abbrev nodes : List TreeNode
    nodes = tree_nodes (tree_now z m h.views)

    found : FindsStamp (table z h.words h.views) v
    found = stamp_law (table z h.words h.views) s.seat v h.rule (item_at h.views s.seat v h.seat)

    stamp_is : m Stamp ≡ n
    stamp_is = happened_word z (event_at z s.seat LoadStamp Stamp fixes) v w n Stamp refl refl tt h

    w_is : w ≡ stamp_loaded (longest h.views) v n (fixes == 1) nodes
    w_is =
        happened_view z (event_at z s.seat LoadStamp Stamp fixes) v w n Stamp refl refl tt h
        ∙ ap (λ x. stamp_loaded (longest h.views) v x (fixes == 1) nodes) stamp_is

    seen_is : w.history.seen ≡ longest h.views
    seen_is = ap (λ (u : View). u.history.seen) w_is

    longer : Extends v.history.seen w.history.seen
    longer = (
      drop (length v.history.seen) (longest h.views),
      seen_is ∙ sym (take-append-drop (length v.history.seen) (longest h.views)) ∙ ap (λ us. us ++ drop (length v.history.seen) (longest h.views)) (sym found.extends),
    )

    pub stamp_seen : HasSeen v n w
    stamp_seen = record { extends = longer; whole = ap length seen_is ∙ found.whole ∙ stamp_is }

    -- the view by what it has seen, and by whether it has announced
    view_by : (b : Bool) → not (v.announced == 0) ≡ b
        → w ≡ record v { history = stamp_history w.history.seen v.history n (fixes == 1); reading = stamp_reading v.reading b n (fixes == 1) nodes }
    view_by b is =
        w_is
        ∙ ap (λ us. stamp_loaded us v n (fixes == 1) nodes) (sym seen_is)
        ∙ ap (λ c. record v { history = stamp_history w.history.seen v.history n (fixes == 1); reading = stamp_reading v.reading c n (fixes == 1) nodes }) is

    pub stamp_reads : 0 < v.announced → ReadsNow v fixes n w
    stamp_reads some = record {
      tree = tree_now z m h.views;
      lawful = found.lawful;
      contents_are = found.contents_are ∙ ap (after (longest h.views)) stamp_is ∙ ap (λ us. after us n) (sym seen_is);
      view = view_by true (has_announced-is v some);
    }

    pub stamp_unread : fixes ≡ 0 → v.announced ≡ 0 → w ≡ with_seen w.history.seen v
    stamp_unread plain none' =
        view_by false (just_zero v.announced none')
        ∙ ap (λ x. record v { history = stamp_history w.history.seen v.history n (x == 1); reading = stamp_reading v.reading false n (x == 1) nodes }) plain

    pub stamp_inside : Inside v → Inside w
    stamp_inside inside = record {
      odd = ap (λ (u : View). is_even u.section_word) w_is ∙ inside.odd;
      unlocked = ap (λ (u : View). u.held.nodes) w_is ∙ inside.unlocked;
    }

    -- no snapshot is open after a load that fixes no place, and one is open after a load that does
    pub load_opened : fixes ≡ 0 → v.reading.opened ≡ None → w.reading.opened ≡ None
    load_opened plain closed = by_test (not (v.announced == 0)) refl
      where
        by_test : (b : Bool) → not (v.announced == 0) ≡ b → w.reading.opened ≡ None
        by_test true is = ap (λ (u : View). u.reading.opened) (view_by true is) ∙ ap (λ x. cond (x == 1) (Some n) None) plain
        by_test false is = ap (λ (u : View). u.reading.opened) (view_by false is) ∙ closed

    pub fix_opened : fixes ≡ 1 → 0 < v.announced → w.reading.opened ≡ Some n
    fix_opened one some = ap (λ (u : View). u.reading.opened) (view_by true (has_announced-is v some)) ∙ ap (λ x. cond (x == 1) (Some n) None) one

    pub stamp_keeps : (opened : Option ℕ) → w.reading.opened ≡ opened → Keeps w (record k { opened = opened })
    stamp_keeps opened is =
        let layout : w.layout ≡ v.layout = ap (λ (u : View). u.layout) w_is in
        let still : IsStill v w = record { held = ap (λ (u : View). u.held) w_is; raised = ap (λ (u : View). u.update.raised) w_is } in
        record {
          number = ap (λ (u : View). u.number) w_is ∙ keeps.number;
          there = subst (λ (y : Layout). k.number < y.passes) (sym layout) keeps.there;
          few = subst (λ (y : Layout). y.passes ≤ 32) (sym layout) keeps.few;
          word = ap (λ (u : View). u.section_word) w_is ∙ keeps.word;
          left = ap (λ (u : View). u.history.left) w_is ∙ keeps.left;
          opened = is;
          slots = record {
            free = ap (λ (u : View). u.free) w_is ∙ keeps.slots.free;
            batch = ap (λ (u : View). u.batch) w_is ∙ keeps.slots.batch;
            retired = ap (λ (u : View). u.retired) w_is ∙ keeps.slots.retired;
            looks = subst (λ (g : Looks). KeepsLooks g k.slots.shown) (sym (ap (λ (u : View). u.grace) w_is)) keeps.slots.looks;
          };
          node_room = subst (λ (y : Layout). y.nodes ≤ k.slots.node_room) (sym layout) keeps.node_room;
          entry_room = subst (λ (y : Layout). y.entries ≤ k.slots.entry_room) (sym layout) keeps.entry_room;
          own = own_longer v.history w.history k.updates (ap (λ (u : View). u.history.mine) w_is) (ap (λ (u : View). u.history.left) w_is) longer keeps.own;
          raised = still_raised v w k still keeps;
        }

  -- an announcement, and taking it back
  pub number_few : IsLiveView v → (number : Option ℕ) → CanAnnounce (pass_of s k.number) number → IfSome number (λ n. n ≤ z.calls)
  number_few live None can = tt
  number_few live (Some n) can = let few = seen_few v live in omega (arith, can.1, few, ap (λ (y : Layout). y.calls) of.layout)

  module _ (value : ℕ) where
    abbrev pub announce_event : Event
    announce_event = event_at z s.seat Announce (Announced k.number) value

    pub announce_asks : (number : Option ℕ) → value ≡ announced_word number → CanAnnounce (pass_of s k.number) number → Asks home s (Announced k.number) announce_event
    announce_asks None is may = record {
      of = of;
      there = own_there;
      seat = refl;
      word = refl;
      may = rw is (may_take_back_law z v s.seat k.number may);
    }
    announce_asks (Some n) is may = record {
      of = of;
      there = own_there;
      seat = refl;
      word = refl;
      may = rw (is, may.1) (may_announce_law z v s.seat k.number may.0);
    }

    module _ (w : View) (h : Stored z announce_event v w) where
      pub announce_view : w ≡ announced_view v value
      announce_view = happened_view z announce_event v w h.0 (Announced k.number) own_there refl tt h.1

      pub announce_keeps : Keeps w k
      announce_keeps =
          subst (λ (u : View). Keeps u k) (sym announce_view) (keeps_same v (announced_view v value) k refl keeps)

  -- a look at an announcement
  module _ (other : ℕ) (may : MayLookAnn v other) where
    abbrev look_ann_event : Event
    look_ann_event = event_at z s.seat LookAnn (Announced other) 0

    other_there : is_there z (Announced other) ≡ true
    other_there = low_true other z.passes (subst (λ (y : Layout). other < y.passes) of.layout may.there)

    pub look_ann_asks : Asks home s (Announced other) look_ann_event
    look_ann_asks = record { of = of; there = other_there; seat = refl; word = refl; may = may_look_ann_law z v s.seat other may }

    module _ (w : View) (n : ℕ) (h : Happened z look_ann_event v n w) where
      pub look_ann_view : w ≡ ann_loaded v other n
      look_ann_view =
          happened_view z look_ann_event v w n (Announced other) other_there refl tt h
          ∙ ap (ann_loaded v other) (happened_word z look_ann_event v w n (Announced other) other_there refl tt h)

      pub look_ann_keeps : Keeps w k
      look_ann_keeps =
          subst (λ (u : View). Keeps u k) (sym look_ann_view) (keeps_same v (ann_loaded v other n) k refl keeps)
