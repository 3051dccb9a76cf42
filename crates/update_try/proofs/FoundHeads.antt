-- The newest entries of bundles of locked nodes, found one after another before the raise.
use Rattle.std.proofs.Common.{◌≡◌, ℕ, ◌<◌, ◌≤◌, inl, List, [], ◌∷◌, Bool, true, false, cond, eqb, refl, ap, sym, ◌∙◌, subst, arith, Option, Some, None}
use Rattle.std.specs.Prelude.{◌==◌}
use Rattle.std.specs.List.{slice_get}
use Rattle.std.proofs.lemmas.Bool.{eqb-true}
use Rattle.std.proofs.lemmas.Bool.Decides.{nat_tests}
use Rattle.index_words.specs.declared.side.Side.{Side}
use Rattle.index_words.specs.declared.side.Side.TheVariants.{Left, Right}
use Rattle.index_words.specs.declared.view.View.{View}
use Rattle.index_words.specs.declared.view.update.HeldNode.{HeldNode}
use Rattle.index_words.specs.declared.view.update.LoadedHead.{LoadedHead}
use Rattle.index_words.specs.declared.view.update.Updating.{Updating}
use Rattle.index_words.specs.declared.word.Field.TheVariants.{Head}
use Rattle.index_words.specs.declared.word.Word.TheVariants.{Node}
use Rattle.key_map.specs.Lists.{count, Every, IsItem}
use Rattle.core_trees.specs.declared.link.Link.{Link}
use Rattle.core_events.specs.LoadMoves.{found_again, found_at, head_found, head_loaded, meets_pending, node_known, place_known, raised_if, ts_loaded}
use Rattle.core_events.specs.UpdateNeeds.{side_of}
use Rattle.core_laws.specs.ViewNeeds.{MayReadHead}
use Rattle.core_updates.specs.declared.plan.Plan.{Plan}
use Rattle.core_updates.specs.declared.plan.Plan.TheVariants.{Grow, Replace, Lift, Join}
use Rattle.core_updates.specs.Held.{HoldsHead, HoldsLink}
use Rattle.core_updates.specs.PlanEvents.{HoldsEntry, HoldsNumbered}
use Rattle.core_updates.specs.PlanReady.{HoldsLook}
use Rattle.core_updates.specs.Plans.{Look, LinkLook, link_at, locks_of, looks_of, next_link_of, out_of}
use Rattle.plan_laws.specs.Looks.{HasLookedAll, IsUnmarked}
use Rattle.plan_laws.specs.Tries.{IsTrying}
use Rattle.plan_laws.proofs.Frames.{keeps_try, steps_keep}
use Rattle.plan_laws.proofs.HeldMaps.{found-mark, found-node, number-at}
use Rattle.plan_laws.proofs.Items.{got-every, item-map}
use Rattle.plan_laws.proofs.Kept.{found-at, slots-kept}
use Rattle.plan_laws.proofs.Looks.{heads_stay, keeps_looks, number_look, steps_keep_looks}
use Rattle.plan_laws.proofs.Tries.{loads_keep}
use Rattle.table_rule.specs.Homes.{IsLiveView}
use Rattle.table_rule.specs.Running.{Happened}
use Rattle.table_rule.proofs.Happens.{happened_word}
use Rattle.table_steps.specs.Loads.{HasLoadedHead, loading_head, loading_number}
use Rattle.table_steps.specs.Passes.{Pass}
use Rattle.table_steps.proofs.There.{locked_high}
use Rattle.update_search.specs.Searching.{KeepsSearch}
use Rattle.update_search.proofs.Failures.{node_word}
use Rattle.update_try.specs.Pruning.{HasGonePast}
use Rattle.update_try.specs.Walked.{HoldsBundle, KeepsHeads, KeepsNexts, StandsOn}
use Rattle.update_try.proofs.LockedBundles.{head_known}
use Rattle.update_try.proofs.Outs.{bundle_kept}
use Rattle.update_try.proofs.Pruned.{begins, may_head, number_some, unmarked_locked}

-- a search that goes on twice goes on
pub search_more : (u v w : View) → KeepsSearch u v → KeepsSearch v w → KeepsSearch u w
search_more u v w a b = record {
  places = record {
    keeps = keeps_try u v w a.places.keeps b.places.keeps;
    trying = λ n nodes t. b.places.trying n nodes (a.places.trying n nodes t);
    waits = b.places.waits ∙ a.places.waits;
  };
  looks = keeps_looks u v w a.looks b.looks;
}

pub heads_more : (u v w : View) → KeepsHeads u v → KeepsHeads v w → KeepsHeads u w
heads_more u v w a b = record {
  head = λ node head side h. b.head node head side (a.head node head side h);
  numbered = λ at head h. b.numbered at head (a.numbered at head h);
}

-- where the locked nodes are known as before
pub heads_still : (v w : View) → w.held.nodes ≡ v.held.nodes → KeepsHeads v w
heads_still v w same = record {
  head = λ node head side h. record {
    place = h.place;
    held = h.held;
    at = subst (λ (hs : List HeldNode). IsItem hs h.place h.held) (sym same) h.at;
    node_is = h.node_is;
    loaded = h.loaded;
    head = h.head;
    entry_is = h.entry_is;
  };
  numbered = λ at head h. record {
    holds = record {
      head = record {
        place = h.holds.head.place;
        held = h.holds.head.held;
        at = subst (λ (hs : List HeldNode). IsItem hs h.holds.head.place h.holds.head.held) (sym same) h.holds.head.at;
        node_is = h.holds.head.node_is;
        loaded = h.holds.head.loaded;
        head = h.holds.head.head;
        entry_is = h.holds.head.entry_is;
      };
      unmarked = h.holds.unmarked;
    };
    numbered = h.numbered;
  };
}

-- a load of a head that finds the one that is known already, or another one
module _ (v : View) (node e number : ℕ) (side : Side) (again : (head : ℕ) → HoldsHead v node side head → head ≡ e) where
  abbrev w : View
  w = head_loaded v node side e number

  same_head : (s : Side) (h : HeldNode) (l : LoadedHead) → (side_of s h).head ≡ Some l → (s ≡ side → l.entry ≡ e) → (side_of s (head_found side e h)).head ≡ Some l
  same_head s h l is same = by side s is same
    where
      own : (a b : ℕ) → a ≡ b → eqb a b ≡ true
      own a b e = grind (arith, nat_tests)

      found : (o : Option LoadedHead) → o ≡ Some l → l.entry ≡ e → found_again e o ≡ Some l
      found o is here = ap (found_again e) is ∙ ap (λ b. Some (cond b l (record { entry = e; stamp = None }))) (own l.entry e here)

      by : (side s : Side) → (side_of s h).head ≡ Some l → (s ≡ side → l.entry ≡ e) → (side_of s (head_found side e h)).head ≡ Some l
      by Left Left is same = found h.left.head is (same refl)
      by Right Right is same = found h.right.head is (same refl)
      by _ _ is same = is

  still_found : (k head : ℕ) (s : Side) (h : HoldsHead v k s head) → (side_of s (found_at node side e h.held)).head ≡ Some h.loaded
  still_found k head s h = by (eqb h.held.node node) refl
    where
      here : h.held.node ≡ node → s ≡ side → h.loaded.entry ≡ e
      here at same = h.entry_is ∙ again head (record {
        place = h.place;
        held = h.held;
        at = h.at;
        node_is = at;
        loaded = h.loaded;
        head = subst (λ d. (side_of d h.held).head ≡ Some h.loaded) same h.head;
        entry_is = h.entry_is;
      })

      by : (b : Bool) → eqb h.held.node node ≡ b → (side_of s (cond b (head_found side e h.held) h.held)).head ≡ Some h.loaded
      by true at = same_head s h.held h.loaded h.head (here (eqb-true h.held.node node at))
      by false at = h.head

  abbrev head_still : (k head : ℕ) (s : Side) → HoldsHead v k s head → HoldsHead w k s head
  head_still k head s h = record {
    place = h.place;
    held = found_at node side e h.held;
    at = item-map (found_at node side e) v.held.nodes h.place h.held h.at;
    node_is = found-node node e side h.held ∙ h.node_is;
    loaded = h.loaded;
    head = still_found k head s h;
    entry_is = h.entry_is;
  }

  pub heads_found : KeepsHeads v w
  heads_found = record {
    head = head_still;
    numbered = λ at head h. record {
      holds = record { head = head_still at.node head at.side h.holds.head; unmarked = found-mark node e side h.holds.head.held ∙ h.holds.unmarked };
      numbered = h.numbered;
    };
  }

-- a load of a number
pub heads_numbered : (v : View) (e x : ℕ) → 0 < x → KeepsHeads v (ts_loaded v e x)
heads_numbered v e x some = record {
  head = λ node head side h.
      let known = (number-at e x some (record { node = node; side = side })).head h.held h.loaded h.node_is h.head in
      record {
        place = h.place;
        held = node_known e x h.held;
        at = item-map (node_known e x) v.held.nodes h.place h.held h.at;
        node_is = h.node_is;
        loaded = known.now;
        head = known.is;
        entry_is = known.entry ∙ h.entry_is;
      };
  numbered = λ at head h. (heads_stay v at head h).number e x some;
}

no_wait : (v : View) (e x : ℕ) → 0 < x → (ts_loaded v e x).counts.waits ≡ v.counts.waits
no_wait v e x some = ap (λ b. raised_if b v.counts.waits) (never x some)
  where
    never : (x : ℕ) → 0 < x → meets_pending v e x ≡ false
    never x some = grind (arith, nat_tests)

-- a head is found under the lock of an unmarked node, before the raise
module _ (p : Pass) (at : Link) (trying : (nodes : List ℕ) × IsTrying p.view p.number nodes) (unmarked : IsUnmarked p.view at.node) where
  abbrev v : View
  v = p.view

  idle : v.update.pending ≡ []
  idle = ap (λ (u : Updating). u.pending) trying.1.idle

  pub may_load : MayReadHead v at.node
  may_load =
      may_head v at
      (record { inside = trying.1.working.inside; unmarked = unmarked; stays = ap (λ (u : Updating). count at.node u.taken) trying.1.idle; idle = idle })

  module _ (q : Pass) (head : ℕ) (event : Happened v.layout (loading_head p at.node at.side) v head q.view)
      (gives : HasLoadedHead v at.node at.side head q.view) (there : head ≤ v.layout.entries) where
    live : IsLiveView v
    live = record {
      live = trying.1.working.live;
      stands = record { words = event.words; views = event.views; rule = event.rule; seat = p.seat; at = event.seat };
    }

    again : (e : ℕ) → HoldsHead v at.node at.side e → e ≡ head
    unfolding live
    again e h =
        let low = locked_high v live at.node (unmarked_locked v at.node unmarked) in
        sym (head_known v live at.node at.side e h)
        ∙ happened_word v.layout (loading_head p at.node at.side) v q.view head (Node (Head at.side) at.node)
        (node_word v.layout (Head at.side) at.node low) refl tt event

    past : HasGonePast q.view at 0 head [] head
    past = begins v q.view at head gives.number 0 unmarked idle gives.view there

    pub head_stands : StandsOn q.view at head head
    head_stands = past.stands

    pub head_heads : KeepsHeads v q.view
    head_heads = subst (KeepsHeads v) (sym gives.view) (heads_found v at.node head gives.number at.side again)

    pub head_search : KeepsSearch v q.view
    head_search = subst (KeepsSearch v) (sym gives.view) (record {
      places = record {
        keeps = (steps_keep v).head at.node head gives.number at.side;
        trying = (loads_keep v).head at.node head gives.number at.side;
        waits = refl;
      };
      looks = (steps_keep_looks v).head at.node head gives.number at.side;
    })

    -- there is none
    pub none_numbered : head ≡ 0 → HoldsNumbered q.view at head
    none_numbered none = record { holds = past.holds; numbered = inl none }

    -- or it has a number
    module _ (u : View) (x : ℕ) (some : 0 < head) (meets : Happened q.view.layout (loading_number q head) q.view x u)
        (loads : u ≡ ts_loaded q.view head x) where
      live_now : IsLiveView q.view
      live_now = record {
        live = head_search.places.keeps.pass.joined ∙ trying.1.working.live;
        stands = record { words = meets.words; views = meets.views; rule = meets.rule; seat = q.seat; at = meets.seat };
      }

      pub written : 0 < x
      written = number_some q u at 0 head head x [] live_now past some meets

      pub number_heads : KeepsHeads v u
      number_heads = heads_more v q.view u head_heads (subst (KeepsHeads q.view) (sym loads) (heads_numbered q.view head x written))

      pub number_search : KeepsSearch v u
      number_search =
          search_more v q.view u head_search
          (subst (KeepsSearch q.view) (sym loads) (record {
            places = record {
              keeps = (steps_keep q.view).number head x;
              trying = (loads_keep q.view).number head x;
              waits = no_wait q.view head x written;
            };
            looks = (steps_keep_looks q.view).number head x;
          }))

      pub some_numbered : HoldsNumbered u at head
      some_numbered =
          let before : HoldsEntry (head_loaded v at.node at.side head gives.number) at head = subst (λ (y : View). HoldsEntry y at head) gives.view past.holds in
          subst (λ (y : View). HoldsNumbered y at head) (sym (loads ∙ ap (λ (y : View). ts_loaded y head x) gives.view))
          ((number_look v.layout v p.seat at head gives.number some before).written x written)

      pub number_stands : StandsOn u at head head
      number_stands =
          let same = slots-kept (node_known head x) q.view u (ap (λ (y : View). y.held.nodes) loads) (λ h. refl) in
          record {
            locked = subst (λ ks. 0 < count at.node ks) (sym same) past.stands.locked;
            head_is = some_numbered.holds.head;
            found = Some x;
            place = ap (λ (y : View). y.reading.place) loads ∙ ap (place_known x) past.stands.place;
            there = subst (λ (y : View). head ≤ y.layout.entries) (sym loads) past.stands.there;
          }

-- a node of which a link was found under its lock was found unmarked
link_unmarked : (v : View) (node child : ℕ) (side : Side) → HoldsLink v node side child → IsUnmarked v node
link_unmarked v node child side h =
    let at = found-at node h.held v.held.nodes h.locked in
    record { place = at.place; held = h.held; at = at.is; node_is = at.node_is; is = h.unmarked }

-- so are those whose links a plan changes, and those that go out
module _ (v : View) where
  front_looked : (plan : Plan) → Every (HoldsLook v) (looks_of plan) → IsUnmarked v (link_at plan).node
  front_looked (Grow p) looks = link_unmarked v p.at.node 0 p.at.side looks.0.null
  front_looked (Replace p) looks = link_unmarked v p.at.node p.node p.at.side looks.0
  front_looked (Lift p) looks = link_unmarked v p.at.node p.node p.at.side looks.0
  front_looked (Join p) looks = link_unmarked v p.at.node p.node p.at.side looks.0

  next_looked : (plan : Plan) (at : Link) → next_link_of plan ≡ Some at → Every (HoldsLook v) (looks_of plan) → IsUnmarked v at.node
  next_looked (Join p) at is looks = by (p.next.at.node == p.node) is looks.1.1.1.1.1.1.1.1.1
    where
      by : (near : Bool) → cond near None (Some p.next.at) ≡ Some at → Every (HoldsLook v) (cond near [] (LinkLook p.next.at p.next.node ∷ [])) → IsUnmarked v at.node
      by true is looks = cc
      by false is looks =
          let same : p.next.at ≡ at = cc in
          subst (λ (l : Link). IsUnmarked v l.node) same (link_unmarked v p.next.at.node p.next.node p.next.at.side looks.0)
  next_looked _ at is looks = cc

  out_looked : (plan : Plan) → Every (HoldsLook v) (looks_of plan) → Every (IsUnmarked v) (out_of plan)
  out_looked (Grow p) looks = tt
  out_looked (Replace p) looks = (link_unmarked v p.node p.left Left looks.1.0, tt)
  out_looked (Lift p) looks = (link_unmarked v p.node 0 p.bare looks.1.0, tt)
  out_looked (Join p) looks = (link_unmarked v p.node p.left Left looks.1.0, (link_unmarked v p.next.node 0 Left looks.1.1.1.1.0, tt))

  module _ (n : ℕ) (plan : Plan) (looked : HasLookedAll v n plan) where
    pub front_unmarked : (at : Link) → at ≡ link_at plan → IsUnmarked v at.node
    front_unmarked at is = subst (λ (l : Link). IsUnmarked v l.node) (sym is) (front_looked plan looked.looks)

    pub next_unmarked : (at : Link) → next_link_of plan ≡ Some at → IsUnmarked v at.node
    next_unmarked at is = next_looked plan at is looked.looks

    pub out_unmarked : (place node : ℕ) → slice_get (out_of plan) place ≡ Some node → IsUnmarked v node
    out_unmarked place node is = got-every (IsUnmarked v) (out_of plan) place node (out_looked plan looked.looks) is

-- what was looked at stays unchanged
pub looked_on : (v w : View) (n : ℕ) (plan : Plan) → KeepsSearch v w → HasLookedAll v n plan → HasLookedAll w n plan
looked_on v w n plan keeps l = record {
  trying = keeps.places.trying n (locks_of plan) l.trying;
  formed = l.formed;
  small = l.small;
  looks = all (looks_of plan) l.looks;
}
  where
    all : (ls : List Look) → Every (HoldsLook v) ls → Every (HoldsLook w) ls
    all [] h = tt
    all (l ∷ ls) h = (keeps.looks.looks l h.0, all ls h.1)

-- the bundles of what goes out
pub bundles_on : (v w : View) (k : ℕ) → KeepsNexts v w → KeepsHeads v w → HoldsBundle v k Left × HoldsBundle v k Right → HoldsBundle w k Left × HoldsBundle w k Right
bundles_on v w k nexts heads both = (
  bundle_kept v w k Left nexts (λ head. heads.head k head Left) both.0,
  bundle_kept v w k Right nexts (λ head. heads.head k head Right) both.1,
)
