-- The walk to the successor of a node that is to be removed.
use Rattle.std.proofs.Common.{◌≡◌, ℕ, ◌<◌, ◌≤◌, ◌⊎◌, refl, ap, ◌∙◌, sym, subst, inl, inr, Option, Some, None}
use Rattle.index_words.specs.declared.side.Side.TheVariants.{Left, Right}
use Rattle.index_words.specs.declared.view.View.{View}
use Rattle.index_words.specs.declared.view.reading.Place.TheVariants.{Gap as AtGap, Node as AtNode}
use Rattle.index_words.specs.declared.view.reading.Reading.{Reading}
use Rattle.index_words.specs.declared.view.reading.Turn.{Turn}
use Rattle.index_words.specs.declared.word.Field.TheVariants.{Key}
use Rattle.core_events.specs.LockMoves.{pair_loaded}
use Rattle.core_events.specs.PlainMoves.{link_loaded, tag_loaded}
use Rattle.core_events.specs.Searches.{place_after, turn_key}
use Rattle.core_invariant.specs.Readers.{IsLocked}
use Rattle.core_laws.specs.PlainNeeds.{IsHeldUnmarked}
use Rattle.core_laws.specs.Searching.{IsOver}
use Rattle.core_trees.specs.declared.link.Link.{Link}
use Rattle.core_updates.specs.Held.{HoldsLink}
use Rattle.core_updates.specs.Plans.{LinkLook, link_of}
use Rattle.plan_laws.specs.Looks.{RemembersLink, RemembersNull}
use Rattle.plan_laws.specs.Tries.{IsTrying}
use Rattle.table_rule.specs.Homes.{IsLiveView}
use Rattle.table_rule.specs.Running.{table}
use Rattle.table_rule.proofs.Lists.{item_at}
use Rattle.update_search.specs.declared.successor.NextFound.{NextFound}
use Rattle.update_search.specs.declared.successor.Walk.{Walk}
use Rattle.update_search.specs.declared.turns.Turns.{Turns}
use Rattle.update_search.specs.Laws.{SearchLaws}
use Rattle.update_search.specs.Searching.{HasCome, HasKeyAt, KeepsSearch, MeetsOdd}
use Rattle.update_search.specs.Successors.{IsNext, IsOnWalk, LeadsTo}
use Rattle.update_search.specs.Turns.{HasTurns, beyond, turned_at}
use Rattle.update_search.proofs.Failures.{before_raise}
use Rattle.update_search.proofs.Keeps.{key_search, link_search, search_more, still_unlocked, tag_search}
use Rattle.update_search.proofs.Levels.{GoesOn, came, ended_null, ended_turns, goes_on, keyed, stands_odd, went as went_on}
use Rattle.update_search.proofs.Nodes.{place_node}
use Rattle.update_search.proofs.Odd.{node_there}
use Rattle.update_search.proofs.TurnKeys.{IsBetween, uncrossed}
use Rattle.update_search.proofs.TurnNodes.{IsTurn, left_is, right_is}

module _ (u : View) (first : Walk) (on : IsOnWalk u first) where
  -- the walk has reached this place, where the view is this
  pub record OnWay (v : View) (walk : Walk) : Type 0 where
    pub come : HasCome v walk.at walk.node walk.turns
    pub right : walk.turns.right ≡ first.turns.right
    pub turned : IsTurn walk.turns walk.at.node
    pub parent : ((walk.at ≡ first.at) × (walk.node ≡ first.node)) ⊎ (¬ IsLocked u walk.at.node)

  pub begins : OnWay u first
  begins = record { come = on.come; right = refl; turned = subst (IsTurn first.turns) (sym on.from) (right_is first.turns on.removed on.above); parent = inl (refl, refl) }

module _ (laws : SearchLaws) (u : View) (first : Walk) (on : IsOnWalk u first) where
  module _ (v : View) (keeps : KeepsSearch u v) (walk : Walk) (way : OnWay u first on v walk) (live : IsLiveView v) where
    pub trying : IsTrying v on.number on.nodes
    trying = keeps.places.trying on.number on.nodes on.trying

    turns_right : walk.turns.right ≡ Some on.removed
    turns_right = way.right ∙ on.above

    removed_held : HoldsLink v on.removed.node on.side on.child
    removed_held = keeps.looks.looks (LinkLook (link_of on.removed.node on.side) on.child) on.held

    removed_unmarked : IsHeldUnmarked v on.removed.node
    removed_unmarked = record { held = removed_held.held; locked = removed_held.locked; unmarked = removed_held.unmarked }

    -- the node is neither the removed one nor the one above that
    not_back : LeadsTo u on.removed.node walk.node → ⊥
    not_back (inl same) =
        let s = live.stands in
        (laws.no_return (table v.layout s.words s.views) s.seat v on.removed.node None Right on.removed removed_held.held s.rule (item_at s.views s.seat v s.at) (before_raise v on.number on.nodes trying)
        (way.come.place ∙ ap (λ k. AtNode k None) same) (way.come.turned.right ∙ turns_right) removed_unmarked removed_held.locked removed_held.unmarked).0 refl
    not_back (inr leads) =
        let s = live.stands in
        let above : HoldsLink v walk.node leads.0 on.removed.node = keeps.looks.looks (LinkLook (link_of walk.node leads.0) on.removed.node) leads.1 in
        (laws.no_return (table v.layout s.words s.views) s.seat v walk.node None Right on.removed above.held s.rule (item_at s.views s.seat v s.at) (before_raise v on.number on.nodes trying)
        way.come.place (way.come.turned.right ∙ turns_right) removed_unmarked above.locked above.unmarked).1 leads.0 above.leads

    -- it is not locked
    pub node_off_first : ¬ IsLocked u walk.node
    node_off_first locked = not_back (on.locked walk.node locked)

    pub node_off : ¬ IsLocked v walk.node
    node_off = still_unlocked u v on.number on.nodes walk.node on.trying keeps.places node_off_first

    pub node_low : walk.node ≤ v.layout.nodes
    node_low = node_there v live on.number on.nodes trying walk.node (place_node v walk.node None way.come.place)

    -- its key was loaded
    module _ (here : ℕ) (z : View) (loaded : z ≡ pair_loaded v Key walk.node here) where
      key_keeps : KeepsSearch v z
      key_keeps = key_search laws v walk.node node_off z here loaded

      pub walk_keyed : KeepsSearch u z
      walk_keyed = search_more laws u v z keeps key_keeps

      pub walk_key : HasKeyAt z walk.at walk.node here walk.turns
      walk_key = keyed v walk.at walk.node walk.turns way.come here z loaded

      pub walk_trying : IsTrying z on.number on.nodes
      walk_trying = walk_keyed.places.trying on.number on.nodes on.trying

      pub keyed_off : ¬ IsLocked z walk.node
      keyed_off = still_unlocked v z on.number on.nodes walk.node trying key_keeps.places node_off

      pub walk_odd : (t : Turn) → beyond walk.turns here ≡ Some t → MeetsOdd z walk.node t
      walk_odd t crossed = record { number = on.number; nodes = on.nodes; trying = walk_trying; stands = stands_odd z walk.at walk.node here walk.turns walk_key t crossed; unlocked = keyed_off }

      module _ (none : beyond walk.turns here ≡ None) where
        pub walk_between : IsBetween walk.turns here
        walk_between = uncrossed walk.turns here none

        abbrev pub turns_on : Turns
        turns_on = turned_at Left (record { node = walk.node; key = here }) walk.turns

        pub walk_on : GoesOn z (link_of walk.node Left) turns_on
        walk_on = goes_on z walk.at walk.node here walk.turns walk_key Left walk_between

        module _ (x : ℕ) (w : View) (went : w ≡ link_loaded z walk.node Left x) where
          link_keeps : KeepsSearch z w
          link_keeps = link_search laws z walk.node keyed_off w Left x went

          pub walk_went : KeepsSearch u w
          walk_went = search_more laws u z w walk_keyed link_keeps

          pub went_off : ¬ IsLocked w walk.node
          went_off = still_unlocked z w on.number on.nodes walk.node walk_trying link_keeps.places keyed_off

          pub went_trying : IsTrying w on.number on.nodes
          went_trying = walk_went.places.trying on.number on.nodes on.trying

          -- there is a child to its left
          pub walk_further : 0 < x → (next : Walk) → next.at ≡ link_of walk.node Left → next.node ≡ x → next.turns ≡ turns_on → OnWay u first on w next
          walk_further some next at_is node_is turns_is =
              let come : HasCome w (link_of walk.node Left) x turns_on = came z (link_of walk.node Left) turns_on walk_on x w went some in
              record {
                come =
                    subst (λ (l : Link). HasCome w l next.node next.turns) (sym at_is)
                    (subst (λ k. HasCome w (link_of walk.node Left) k next.turns) (sym node_is) (subst (HasCome w (link_of walk.node Left) x) (sym turns_is) come));
                right = ap (λ (ts : Turns). ts.right) turns_is ∙ way.right;
                turned =
                    subst (λ (ts : Turns). IsTurn ts next.at.node) (sym turns_is)
                    (subst (λ (l : Link). IsTurn turns_on l.node) (sym at_is) (left_is turns_on (record { node = walk.node; key = here }) refl));
                parent = inr (subst (λ (l : Link). ¬ IsLocked u l.node) (sym at_is) node_off_first);
              }

          -- there is none, and the tag of the link was loaded
          module _ (none_left : x ≡ 0) (tag : ℕ) (y : View) (tagged : y ≡ tag_loaded w walk.node Left tag) where
            tag_keeps : KeepsSearch w y
            tag_keeps = tag_search laws w walk.node went_off y Left tag tagged

            pub walk_ended : KeepsSearch u y
            walk_ended = search_more laws u w y walk_went tag_keeps

            pub walk_next : ¬ (walk.at.node ≡ walk.node) → (found : NextFound) → found.at ≡ walk.at → found.node ≡ walk.node → found.gap.at ≡ link_of walk.node Left → found.gap.tag ≡ tag
                → IsNext y first found
            walk_next apart found at_is node_is gap_is tag_is =
                let turns : HasTurns y turns_on = ended_turns z (link_of walk.node Left) turns_on walk_on x w went none_left tag y tagged in
                let behind : KeepsSearch v y = search_more laws v z y key_keeps (search_more laws z w y link_keeps tag_keeps) in
                let null : RemembersNull y (link_of walk.node Left) tag (Some here) (turn_key walk.turns.right)
                = ended_null z (link_of walk.node Left) turns_on walk_on x w went none_left tag y tagged in
                record {
                  removed = on.removed;
                  from = on.above;
                  key = here;
                  above = subst (λ (o : Option Turn). IsOver (turn_key o) here) turns_right walk_between.over;
                  place = ap (λ (u : View). u.reading.place) tagged ∙ ap (λ (r : Reading). r.place) (went_on z (link_of walk.node Left) turns_on walk_on x w went)
                      ∙ ap (place_after walk.node Left) none_left ∙ ap (λ k. AtGap k Left) (sym node_is);
                  left = turns.left ∙ ap (λ k. Some (record { node = k; key = here })) (sym node_is);
                  right = turns.right ∙ turns_right;
                  at = subst (λ (l : Link). RemembersLink y l found.node) (sym at_is) (subst (RemembersLink y walk.at) (sym node_is) (behind.looks.link walk.at walk.node way.come.link));
                  gap_at = gap_is ∙ ap (λ k. link_of k Left) (sym node_is);
                  gap =
                      subst (λ (l : Link). RemembersNull y l found.gap.tag (Some here) (Some on.removed.key)) (sym gap_is)
                      (subst (λ t. RemembersNull y (link_of walk.node Left) t (Some here) (Some on.removed.key)) (sym tag_is)
                      (subst (λ (o : Option Turn). RemembersNull y (link_of walk.node Left) tag (Some here) (turn_key o)) turns_right null));
                  apart = λ same. apart (sym (ap (λ (l : Link). l.node) at_is) ∙ same ∙ node_is);
                  unlocked = subst (λ k. ¬ IsLocked y k) (sym node_is) (still_unlocked w y on.number on.nodes walk.node went_trying tag_keeps.places went_off);
                  parent = elim way.parent as (λ _. ((found.at ≡ first.at) × (found.node ≡ first.node)) ⊎ (¬ IsLocked y found.at.node)) [
                    | inl is ↦ inl (at_is ∙ is.0, node_is ∙ is.1)
                    | inr off ↦ inr (subst (λ (l : Link). ¬ IsLocked y l.node) (sym at_is) (still_unlocked u y on.number on.nodes walk.at.node on.trying walk_ended.places off))
                  ];
                }
