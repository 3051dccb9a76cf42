-- A walk along a bundle that an update changed, and the cut: what each asks, and what it leaves.
use Rattle.std.proofs.Common.{◌≡◌, ℕ, zero, suc, ◌<◌, ◌≤◌, List, [], ◌∷◌, ◌++◌, length, map, cond, Bool, true, false, refl, ap, sym, ◌∙◌, subst, arith, inl, inr, Some, None}
use Rattle.std.specs.Prelude.{◌==◌}
use Rattle.std.specs.List.{slice_get}
use Rattle.index_words.specs.declared.layout.Layout.{Layout}
use Rattle.index_words.specs.declared.view.View.{View}
use Rattle.index_words.specs.declared.view.reading.Place.{Place}
use Rattle.index_words.specs.declared.view.reading.Place.TheVariants.{Entry as AtEntry}
use Rattle.index_words.specs.declared.view.update.Held.{Held}
use Rattle.index_words.specs.declared.view.update.HeldNode.{HeldNode}
use Rattle.index_words.specs.declared.view.update.HeldNext.{HeldNext}
use Rattle.index_words.specs.declared.view.update.Updating.{Updating}
use Rattle.index_words.specs.declared.word.Part.TheVariants.{Stamp as Number}
use Rattle.index_words.specs.declared.word.Word.TheVariants.{Entry}
use Rattle.key_map.specs.Lists.{count, has, IsItem}
use Rattle.key_map.proofs.Counting.{has-count}
use Rattle.core_grace.specs.Holds.{held_slots}
use Rattle.core_events.specs.CutMoves.{cut_view}
use Rattle.core_events.specs.LoadMoves.{head_loaded, ts_loaded, next_loaded, next_at, node_known, place_known}
use Rattle.core_invariant.specs.Readers.{IsLocked}
use Rattle.core_invariant.proofs.Frames.{one_counted}
use Rattle.core_laws.specs.ViewNeeds.{MayReadHead, MayReadNumber, MayReadNext}
use Rattle.core_laws.specs.Cuts.{HasWalkedAt, HasWalkedTo, MayCut}
use Rattle.core_trees.specs.declared.link.Link.{Link}
use Rattle.core_updates.specs.declared.plan.Front.{Front}
use Rattle.core_updates.specs.declared.plan.Plan.{Plan}
use Rattle.core_updates.specs.declared.plan.PlanSlots.{PlanSlots}
use Rattle.core_updates.specs.declared.plan.Plan.TheVariants.{Join}
use Rattle.core_updates.specs.Plans.{front_of, fronts_of, link_at, next_front_of, next_link_of}
use Rattle.core_updates.specs.PlanEvents.{HoldsEntry}
use Rattle.plan_laws.specs.Looks.{IsUnmarked}
use Rattle.plan_laws.specs.Prunes.{HasNumbered}
use Rattle.plan_laws.proofs.HeldMaps.{number-at}
use Rattle.plan_laws.proofs.Items.{last-item}
use Rattle.plan_laws.proofs.Kept.{entry-kept, mapped, slots-kept}
use Rattle.plan_laws.proofs.Looks.{head-found}
use Rattle.plan_laws.proofs.PlanFronts.{front_link}
use Rattle.plan_laws.proofs.Prunes.{cut_step, prune_step}
use Rattle.table_rule.specs.Homes.{IsLiveView}
use Rattle.table_rule.specs.Running.{Happened}
use Rattle.table_rule.proofs.Happens.{happened_word}
use Rattle.table_steps.specs.Cuts.{CanCut}
use Rattle.table_steps.specs.Loads.{loading_number}
use Rattle.table_steps.specs.Passes.{Pass}
use Rattle.table_steps.specs.Raises.{HoldsChain}
use Rattle.update_try.specs.Pruning.{KeepsUpdate, KeepsLeast, KeepsPlace, IsLeast, IsChanged, HasGonePast, HasStopped}
use Rattle.update_try.specs.Walked.{StandsOn, KeepsNexts}
use Rattle.update_try.specs.declared.pruning.Least.{Least}
use Rattle.update_try.specs.declared.pruning.Stop.{Stop}
use Rattle.update_try.proofs.Fronts.{got_next}
use Rattle.update_try.proofs.Outs.{front_stays}
use Rattle.update_try.proofs.FilledWords.{entry_there}
use Rattle.update_try.proofs.LockedBundles.{part_kept, part_numbered, walked_update_same, walked_nexts, walked_on, walked_held, walked_list, walked_part}
use Rattle.update_try.proofs.PruneWalks.{least_same, holds_still, walked_kept, walk_kept, walk_more, walk_lower, least_still}

-- a node of which something was loaded under its lock is locked
pub unmarked_locked : (v : View) (k : ℕ) → IsUnmarked v k → IsLocked v k
unmarked_locked v k u = subst (λ n. 0 < count n (held_slots v.held.nodes)) u.node_is (counted v.held.nodes u.place u.held u.at)
  where
    counted : (hs : List HeldNode) (i : ℕ) (h : HeldNode) → IsItem hs i h → 0 < count h.node (held_slots hs)
    counted [] i h at = absurd (omega (arith, at.within))
    counted (x ∷ hs) zero h at = subst (λ (y : HeldNode). 0 < count y.node (held_slots (x ∷ hs))) (at.is x) (one_counted x.node (count x.node (held_slots hs)))
    counted (x ∷ hs) (suc i) h at = omega (arith, counted hs i h (record { within = omega (arith, at.within); is = λ d. at.is d }))

pub may_head : (v : View) (at : Link) → IsChanged v at → MayReadHead v at.node
may_head v at changed = record { inside = changed.inside; reach = inr (inr (unmarked_locked v at.node changed.unmarked)) }

-- the head of a bundle at which the walk begins
pub begins : (v w : View) (at : Link) (head number least : ℕ) → IsUnmarked v at.node → v.update.pending ≡ [] → w ≡ head_loaded v at.node at.side head number
    → head ≤ v.layout.entries
    → HasGonePast w at least head [] head
begins v w at head number least unmarked idle is there =
    let holds : HoldsEntry w at head = subst (λ (u : View). HoldsEntry u at head) (sym is) (head-found v at.node head number at.side unmarked) in
    record {
      holds = holds;
      walked = refl;
      part = refl;
      stands = record {
        locked =
            unmarked_locked w at.node (record {
              place = holds.head.place;
              held = holds.head.held;
              at = holds.head.at;
              node_is = holds.head.node_is;
              is = holds.unmarked;
            });
        head_is = holds.head;
        found = None;
        place = ap (λ (u : View). u.reading.place) is;
        there = subst (λ (u : View). head ≤ u.layout.entries) (sym is) there;
      };
      idle = ap (λ (u : View). u.update.pending) is ∙ idle;
    }

pub head_update : (v w : View) (at : Link) (head number : ℕ) → w ≡ head_loaded v at.node at.side head number → KeepsUpdate v w
head_update v w at head number is =
    subst (λ (u : View). KeepsUpdate v u) (sym is)
    (record {
      numbered = λ n plan slots h. (prune_step v n plan slots h).head at.node head number at.side;
      cutting = λ n nodes c. (cut_step v n nodes c).head at.node head number at.side;
    })

pub head_least : (v w : View) (at : Link) (head number : ℕ) → w ≡ head_loaded v at.node at.side head number → KeepsLeast v w
head_least v w at head number is =
    subst (λ (u : View). KeepsLeast v u) (sym is) (record { section = refl; least = refl; looked = refl; number = refl; layout = refl; taken = refl })

-- loads of a number and of a next, whatever they find
pub number_update : (v w : View) (entry number : ℕ) → 0 < number → w ≡ ts_loaded v entry number → KeepsUpdate v w
number_update v w entry number some is =
    subst (λ (u : View). KeepsUpdate v u) (sym is)
    (record {
      numbered = λ n plan slots h. (prune_step v n plan slots h).number entry number some;
      cutting = λ n nodes c. (cut_step v n nodes c).number entry number some;
    })

pub number_least : (v w : View) (entry number : ℕ) → w ≡ ts_loaded v entry number → KeepsLeast v w
number_least v w entry number is =
    subst (λ (u : View). KeepsLeast v u) (sym is) (record { section = refl; least = refl; looked = refl; number = refl; layout = refl; taken = refl })

pub next_update : (v w : View) (entry next : ℕ) → w ≡ next_loaded v entry next → KeepsUpdate v w
next_update v w entry next is =
    subst (λ (u : View). KeepsUpdate v u) (sym is)
    (record { numbered = λ n plan slots h. (prune_step v n plan slots h).next entry next; cutting = λ n nodes c. (cut_step v n nodes c).next entry next })

pub next_least : (v w : View) (entry next : ℕ) → w ≡ next_loaded v entry next → KeepsLeast v w
next_least v w entry next is = subst (λ (u : View). KeepsLeast v u) (sym is) (by v.reading.place)
  where
    by : (p : Place) → KeepsLeast v (next_at v p entry next)
    by (AtEntry node side e found) = record { section = refl; least = refl; looked = refl; number = refl; layout = refl; taken = refl }
    by _ = least_same v

pub may_number : (v : View) (at : Link) (head entry : ℕ) → StandsOn v at head entry → 0 < entry → MayReadNumber v entry
may_number v at head entry on some = record {
  at = record {
    node = at.node;
    side = at.side;
    found = on.found;
    place = on.place;
    some = some;
    there = on.there;
  };
}

pub may_next : (v u : View) (at : Link) (head entry number : ℕ) → StandsOn v at head entry → 0 < entry → u ≡ ts_loaded v entry number → MayReadNext u entry
may_next v u at head entry number on some is =
    let maps : u.held.nodes ≡ map (node_known entry number) v.held.nodes = ap (λ (x : View). x.held.nodes) is in
    record {
      at = record {
        node = at.node;
        side = at.side;
        found = Some number;
        place = ap (λ (x : View). x.reading.place) is ∙ ap (place_known number) on.place;
        some = some;
        there = subst (λ (x : View). entry ≤ x.layout.entries) (sym is) on.there;
      };
      on = inl (subst (λ ks. 0 < count at.node ks) (sym (slots-kept (node_known entry number) v u maps (λ h. refl))) on.locked);
    }

-- the number of an entry of such a bundle is not 0, since nobody has it pending
module _ (p : Pass) (u : View) (at : Link) (least head entry number : ℕ) (front : List ℕ) (live : IsLiveView p.view)
    (past : HasGonePast p.view at least head front entry) (some : 0 < entry)
    (event : Happened p.view.layout (loading_number p entry) p.view number u) where
  then : IsLiveView p.view
  then = record { live = live.live; stands = record { words = event.words; views = event.views; rule = event.rule; seat = p.seat; at = event.seat } }

  pub number_some : 0 < number
  unfolding then
  number_some =
      subst (λ x. 0 < x)
      (happened_word p.view.layout (loading_number p entry) p.view u number (Entry Number entry)
      (entry_there p.view.layout entry some past.stands.there) refl tt event)
      (part_numbered p.view then at head entry front past.idle past.stands.locked past.holds some past.part)

-- the number and the next of an entry
module _ (v u w : View) (at : Link) (least head entry number next : ℕ) (front : List ℕ) (past : HasGonePast v at least head front entry) (some : 0 < entry)
    (written : 0 < number)
    (numbered : u ≡ ts_loaded v entry number) (gives : w ≡ next_loaded u entry next) (low : next ≤ u.layout.entries) where
  maps : u.held.nodes ≡ map (node_known entry number) v.held.nodes
  maps = ap (λ (x : View). x.held.nodes) numbered

  holds : HoldsEntry u at head
  holds =
      entry-kept (node_known entry number) v u at head (mapped (node_known entry number) v u maps (λ h. refl)) (number-at entry number written at) past.holds

  abbrev on : StandsOn u at head entry
  on = record {
    locked = subst (λ ks. 0 < count at.node ks) (sym (slots-kept (node_known entry number) v u maps (λ h. refl))) past.stands.locked;
    head_is = holds.head;
    found = Some number;
    place = ap (λ (x : View). x.reading.place) numbered ∙ ap (place_known number) past.stands.place;
    there = subst (λ (x : View). entry ≤ x.layout.entries) (sym numbered) past.stands.there;
  }

  -- the locked nodes are known as after the load of the number
  pub nodes_read : w.held.nodes ≡ u.held.nodes
  nodes_read = walked_held u at head entry on some w next gives low

  pub nexts_loaded : KeepsNexts v w
  nexts_loaded place item is =
      walked_nexts u at head entry on some w next gives low place item (subst (λ (x : View). IsItem x.held.nexts place item) (sym numbered) is)

  here : HasWalkedAt w at.node entry number next
  here = record {
    place = length u.held.nexts;
    is =
        subst (λ (ns : List HeldNext). IsItem ns (length u.held.nexts) (record { node = at.node; entry = entry; stamp = Some number; next = next }))
        (sym (walked_list u at head entry on some w next gives low))
        (last-item u.held.nexts (record { node = at.node; entry = entry; stamp = Some number; next = next }));
    written = written;
  }

  pub stops_here : HasStopped w at least head front (record { entry = entry; number = number; next = next })
  stops_here = record {
    holds = holds_still u w at head (walked_held u at head entry on some w next gives low) holds;
    walked = walk_kept v w at.node least head entry front nexts_loaded past.walked;
    here = here;
    some = some;
    part =
        walked_part u at head entry on some w next gives low head front
        (part_kept v u at.node head entry front (λ place item is. subst (λ (x : View). IsItem x.held.nexts place item) (sym numbered) is) past.part);
    stands = walked_on u at head entry on some w next gives low;
    idle =
        ap (λ (x : Updating). x.pending) (walked_update_same u at head entry on some w next gives low)
        ∙ ap (λ (x : View). x.update.pending) numbered ∙ past.idle;
  }

-- a pass that has looked at the others stands as it did, with a smaller least number
module _ (v w : View) (same : KeepsPlace v w) where
  nexts_still : KeepsNexts v w
  nexts_still place item is = subst (λ (h : Held). IsItem h.nexts place item) (sym same.held) is

  stands_still : (at : Link) (head entry : ℕ) → HoldsEntry w at head → StandsOn v at head entry → StandsOn w at head entry
  stands_still at head entry holds on = record {
    locked = subst (λ (h : Held). 0 < count at.node (held_slots h.nodes)) (sym same.held) on.locked;
    head_is = holds.head;
    found = on.found;
    place = same.place ∙ on.place;
    there = subst (λ (z : Layout). entry ≤ z.entries) (sym same.layout) on.there;
  }

  pub stopped_still : (at : Link) (own low head : ℕ) (front : List ℕ) (stop : Stop) → low ≤ own → HasStopped v at own head front stop
      → HasStopped w at low head front stop
  stopped_still at own low head front stop le s =
      let holds = holds_still v w at head (ap (λ (h : Held). h.nodes) same.held) s.holds in
      record {
        holds = holds;
        walked = walk_lower w at.node own low head stop.entry front le (walk_kept v w at.node own head stop.entry front nexts_still s.walked);
        here = walked_kept v w at.node stop.entry stop.number stop.next nexts_still s.here;
        some = s.some;
        part = part_kept v w at.node head stop.next (front ++ stop.entry ∷ []) nexts_still s.part;
        stands = stands_still at head stop.next holds s.stands;
        idle = same.pending ∙ s.idle;
      }

-- it goes on after an entry whose number is above
pub goes_on : (v : View) (at : Link) (least head : ℕ) (front : List ℕ) (stop : Stop) → least < stop.number → HasStopped v at least head front stop
    → HasGonePast v at least head (front ++ stop.entry ∷ []) stop.next
goes_on v at least head front stop above s = record {
  holds = s.holds;
  walked = walk_more v at.node least head stop.entry stop.number stop.next front s.walked s.here above;
  part = s.part;
  stands = s.stands;
  idle = s.idle;
}

-- a cut
has_none : (k : ℕ) (xs : List ℕ) → count k xs ≡ 0 → has k xs ≡ false
has_none k xs none = by (has k xs) refl
  where
    by : (b : Bool) → has k xs ≡ b → b ≡ false
    by true is = absurd (omega (arith, none, has-count k xs is))
    by false is = refl

-- once all entries after it are found too, the bundle may be cut
module _ (v w : View) (at : Link) (least : Least) (head : ℕ) (front : List ℕ) (stop : Stop) (stays : count at.node v.update.taken ≡ 0) (is : IsLeast v least)
    (looked : least.looked ≡ true)
    (low : stop.number ≤ least.number) (stopped : HasStopped v at least.number head front stop) (nexts : KeepsNexts v w) (keeps : KeepsLeast v w)
    (same : w.held.nodes ≡ v.held.nodes) where
  now : IsLeast w least
  now = least_still v w least keeps is

  holds_now : HoldsEntry w at head
  holds_now = holds_still v w at head same stopped.holds

  here_now : HasWalkedAt w at.node stop.entry stop.number stop.next
  here_now = walked_kept v w at.node stop.entry stop.number stop.next nexts stopped.here

  abbrev may_cut : MayCut w at.node at.side stop.entry
  may_cut = record {
    least = least.number;
    is = now.least;
    looked = now.looked looked;
    place = holds_now.head.place;
    node = holds_now.head.held;
    locked = holds_now.head.at;
    named = holds_now.head.node_is;
    unmarked = holds_now.unmarked;
    stays = has_none at.node w.update.taken (ap (count at.node) keeps.taken ∙ stays);
    head = holds_now.head.loaded;
    loaded = holds_now.head.head;
    front = front;
    walked =
        subst (λ h. HasWalkedTo w at.node least.number h front stop.entry) (sym holds_now.head.entry_is)
        (walk_kept v w at.node least.number head stop.entry front nexts stopped.walked);
    number = stop.number;
    next = stop.next;
    here = here_now;
    low = low;
    some = stopped.some;
  }

  pub can_cut : (back : List ℕ) → HoldsChain w at.node stop.next back → CanCut w at.node at.side stop.entry
  can_cut back chain = record { may = may_cut; back = back; behind = chain }

  pub cut_back : (back : List ℕ) (chain : HoldsChain w at.node stop.next back) → (can_cut back chain).back ≡ back
  unfolding can_cut
  cut_back back chain = refl

module _ (v w : View) (entry : ℕ) (back : List ℕ) (is : w ≡ cut_view v entry back) where
  pub cut_update : KeepsUpdate v w
  cut_update =
      subst (λ (u : View). KeepsUpdate v u) (sym is)
      (record { numbered = λ n plan slots h. (prune_step v n plan slots h).cut entry back; cutting = λ n nodes c. (cut_step v n nodes c).cut entry back })

  pub cut_least : KeepsLeast v w
  cut_least = subst (λ (u : View). KeepsLeast v u) (sym is) (record { section = refl; least = refl; looked = refl; number = refl; layout = refl; taken = refl })

-- the bundles in front of which the update has put its entries
pub front_changed : (v : View) (n : ℕ) (plan : Plan) (slots : PlanSlots) (place : ℕ) (f : Front) → HasNumbered v n plan slots
    → slice_get (fronts_of plan slots) place ≡ Some f → IsChanged v f.at
front_changed v n plan slots place f h is = record {
  inside = h.inside;
  unmarked = h.unmarked place f is;
  stays = ap (count f.at.node) h.taken ∙ front_stays plan slots place f h.once is;
  idle = h.idle;
}

pub first_changed : (v : View) (n : ℕ) (plan : Plan) (slots : PlanSlots) → HasNumbered v n plan slots → IsChanged v (link_at plan)
first_changed v n plan slots h = subst (IsChanged v) (front_link plan slots) (front_changed v n plan slots 0 (front_of plan slots) h refl)

-- the entry in front of the second one
next_front_at : (plan : Plan) (slots : PlanSlots) (at : Link) → next_link_of plan ≡ Some at → (f : Front) × (next_front_of plan slots ≡ Some f) × (f.at ≡ at)
next_front_at (Join p) slots at is = by (p.next.at.node == p.node) is
  where
    second : Front
    second = record { at = p.next.at; entry = slots.next; child = p.next.right }

    by : (near : Bool) → cond near None (Some p.next.at) ≡ Some at → (f : Front) × (cond near None (Some second) ≡ Some f) × (f.at ≡ at)
    by true e = cc
    by false e = let same : p.next.at ≡ at = cc in (second, refl, same)
next_front_at _ slots at is = cc

pub next_changed : (v : View) (n : ℕ) (plan : Plan) (slots : PlanSlots) (at : Link) → HasNumbered v n plan slots → next_link_of plan ≡ Some at → IsChanged v at
next_changed v n plan slots at h is =
    let found = next_front_at plan slots at is in
    let there : slice_get (fronts_of plan slots) 1 ≡ Some found.0 = got_next (next_front_of plan slots) ∙ found.1 in
    subst (IsChanged v) found.2 (front_changed v n plan slots 1 found.0 h there)
