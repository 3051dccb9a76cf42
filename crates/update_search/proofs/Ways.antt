-- The search for a key, from the root down.
use Rattle.std.proofs.Common.{◌≡◌, ℕ, ◌<◌, ◌≤◌, [], arith, ap, ◌∙◌, inl, inr, subst, sym, Some, None}
use Rattle.index_words.specs.declared.view.View.{View}
use Rattle.index_words.specs.declared.view.reading.Place.TheVariants.{Gap as AtGap}
use Rattle.index_words.specs.declared.view.reading.Turn.{Turn}
use Rattle.index_words.specs.declared.word.Field.TheVariants.{Key}
use Rattle.core_events.specs.LockMoves.{pair_loaded}
use Rattle.core_events.specs.PlainMoves.{link_loaded, tag_loaded}
use Rattle.core_events.specs.Searches.{turn_key, turned}
use Rattle.core_invariant.specs.Readers.{IsLocked}
use Rattle.core_trees.specs.declared.link.Link.{Link}
use Rattle.core_updates.specs.Held.{RemembersGap}
use Rattle.core_updates.specs.Plans.{link_of}
use Rattle.plan_laws.specs.Looks.{RemembersNull}
use Rattle.plan_laws.specs.Tries.{IsTrying}
use Rattle.table_rule.specs.Running.{Happened}
use Rattle.table_steps.specs.Loads.{loading_pair}
use Rattle.table_steps.specs.Passes.{Pass}
use Rattle.update_search.specs.declared.descent.Gap.{Gap}
use Rattle.update_search.specs.declared.turns.Turns.{Turns}
use Rattle.update_search.specs.Ends.{EndsMissing, IsFoundAt}
use Rattle.update_search.specs.Laws.{SearchLaws}
use Rattle.update_search.specs.Searching.{HasKeyAt, IsAtTop, KeepsSearch, MeetsOdd}
use Rattle.update_search.specs.Turns.{HasTurns, beyond, side_to, turned_at}
use Rattle.update_search.proofs.Keeps.{key_search, link_search, none_locked, search_more, tag_search}
use Rattle.update_search.proofs.Levels.{GoesOn, came, ended_null, ended_place, goes_on, keyed, stands_odd, went_turns}
use Rattle.update_search.proofs.Nodes.{link_node}
use Rattle.update_search.proofs.TurnKeys.{IsBetween, turned_between, uncrossed}
use Rattle.update_search.proofs.TurnNodes.{Begins, other_node}

-- a null link between the turns' keys has the gap of each key between them
pub gap_between : (v : View) (at : Link) (tag key : ℕ) (ts : Turns) → RemembersNull v at tag (turn_key ts.left) (turn_key ts.right) → IsBetween ts key → RemembersGap v at.node at.side tag key
gap_between v at tag key ts r is = record {
  place = r.place;
  link = r.link;
  is = r.is;
  node_is = r.node_is;
  side_is = r.side_is;
  child_is = r.child_is;
  above = turn_key ts.left;
  below = turn_key ts.right;
  source = r.source;
  over = is.over;
  under = is.under;
}

module _ (laws : SearchLaws) (u : View) (top : IsAtTop u) (key : ℕ) (v : View) (keeps : KeepsSearch u v) (at : Link) (ts : Turns) (on : GoesOn v at ts) (is : IsBetween ts key) where
  off : (k : ℕ) → ¬ IsLocked v k
  off = none_locked v top.number (keeps.places.trying top.number [] top.trying)

  -- the search has gone on by the link
  module _ (x : ℕ) (w : View) (view : w ≡ link_loaded v at.node at.side x) where
    pub way_went : KeepsSearch u w
    way_went = search_more laws u v w keeps (link_search laws v at.node (off at.node) w at.side x view)

    way_off : (k : ℕ) → ¬ IsLocked w k
    way_off = none_locked w top.number (way_went.places.trying top.number [] top.trying)

    -- to none, and has loaded its tag
    module _ (none : x ≡ 0) (tag : ℕ) (y : View) (tagged : y ≡ tag_loaded w at.node at.side tag) where
      pub way_ended : KeepsSearch u y
      way_ended = search_more laws u w y way_went (tag_search laws w at.node (way_off at.node) y at.side tag tagged)

      pub ends_missing : (gap : Gap) → gap.at ≡ at → gap.tag ≡ tag → EndsMissing y key gap
      ends_missing gap at_is tag_is =
          let found = gap_between y at tag key ts (ended_null v at ts on x w view none tag y tagged) is in
          let here = ended_place v at ts on x w view none tag y tagged in
          record {
            place = subst (λ (l : Link). y.reading.place ≡ AtGap l.node l.side) (sym at_is) here;
            found = subst (λ t. RemembersGap y gap.at.node gap.at.side t key) (sym tag_is) (subst (λ (l : Link). RemembersGap y l.node l.side tag key) (sym at_is) found);
          }

    -- to a node, which is another one
    pub way_apart : 0 < x → (p : Pass) → p.view ≡ w → x ≤ p.view.layout.nodes → (here : ℕ) (z : View) → Happened p.view.layout (loading_pair p Key x) p.view here z → Begins ts at.node → beyond ts here ≡ None
        → ¬ (at.node ≡ x)
    way_apart some p seen there here z h (inl root) none same = omega (arith, some, root, same)
    way_apart some p seen there here z h (inr turn) none same =
        let on_try : IsTrying p.view top.number [] = subst (λ (y : View). IsTrying y top.number []) (sym seen) (way_went.places.trying top.number [] top.trying) in
        let has : HasTurns p.view ts = subst (λ (y : View). HasTurns y ts) (sym seen) (went_turns v at ts on x w view) in
        other_node laws p top.number [] on_try ts has at.node turn x here there z h (uncrossed ts here none) same

    -- and has loaded its key
    module _ (some : 0 < x) (here : ℕ) (z : View) (loaded : z ≡ pair_loaded w Key x here) where
      pub way_keyed : KeepsSearch u z
      way_keyed = search_more laws u w z way_went (key_search laws w x (way_off x) z here loaded)

      pub way_key : HasKeyAt z at x here ts
      way_key = keyed w at x ts (came v at ts on x w view some) here z loaded

      pub way_odd : (t : Turn) → beyond ts here ≡ Some t → MeetsOdd z x t
      way_odd t crossed =
          let trying : IsTrying z top.number [] = way_keyed.places.trying top.number [] top.trying in
          record { number = top.number; nodes = []; trying = trying; stands = stands_odd z at x here ts way_key t crossed; unlocked = none_locked z top.number trying x }

      pub way_found : here ≡ key → ¬ (at.node ≡ x) → IsFoundAt z key (record { at = at; node = x; turns = ts })
      way_found same apart = record {
        here = subst (λ k. HasKeyAt z at x k ts) same way_key;
        parent = inr (link_node z at x way_key.link);
        apart = apart;
        over = is.over;
        under = is.under;
      }

      module _ (none : beyond ts here ≡ None) where
        pub way_on : GoesOn z (link_of x (side_to key here)) (turned_at (side_to key here) (record { node = x; key = here }) ts)
        way_on = goes_on z at x here ts way_key (side_to key here) (uncrossed ts here none)

        pub way_between : ¬ (here ≡ key) → IsBetween (turned_at (side_to key here) (record { node = x; key = here }) ts) key
        way_between apart = turned_between ts x here key is apart
