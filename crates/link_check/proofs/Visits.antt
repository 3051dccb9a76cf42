-- A pass that has locked no node locks one, looks at its links, and unlocks it.
use Rattle.std.proofs.Common.{◌≡◌, ℕ, ◌+◌, ◌<◌, ◌≤◌, inl, inr, [], ◌∷◌, Bool, false, refl, ap, ◌∙◌, sym, subst, arith, Some, Option, Result, Ok, Err, IfOk, IfErr}
use Rattle.index_words.specs.declared.side.Side.{Side}
use Rattle.index_words.specs.declared.view.View.{View}
use Rattle.index_words.specs.declared.view.reading.Place.TheVariants.{Node as AtNode}
use Rattle.index_words.specs.declared.word.Field.TheVariants.{Key}
use Rattle.index_words.specs.Words.{memory}
use Rattle.index_words.proofs.Seats.{at_item, one_term}
use Rattle.key_map.specs.Lists.{count}
use Rattle.core_grace.specs.Slots.{own, nodes_of}
use Rattle.core_events.specs.LockMoves.{mark_loaded, pair_loaded, place_paired, unlocked_view}
use Rattle.core_events.specs.PlainMoves.{link_known_at, link_loaded}
use Rattle.core_invariant.specs.Reached.{plain_graph}
use Rattle.core_invariant.specs.SearchRule.{PlaceKey, SearchRight}
use Rattle.core_laws.specs.PlainNeeds.{MayReadLink}
use Rattle.core_laws.specs.ViewNeeds.{MayReadPair, MayUnlock}
use Rattle.plan_laws.specs.Frames.{KeepsTry}
use Rattle.plan_laws.specs.Looks.{IsUnmarked}
use Rattle.plan_laws.specs.Tries.{CanLock, IsTrying}
use Rattle.plan_laws.proofs.HeldMaps.{link-mark, link-node}
use Rattle.plan_laws.proofs.Items.{item-map}
use Rattle.plan_laws.proofs.Looks.{firm-link, look}
use Rattle.plan_laws.proofs.Releases.{no-node}
use Rattle.table_rule.specs.Homes.{IsLiveView}
use Rattle.table_rule.proofs.Lists.{item_at}
use Rattle.table_steps.specs.Loads.{HasLoadedMark, HasLocked, HasMetLock}
use Rattle.table_steps.specs.Passes.{Pass}
use Rattle.bundle_reads.specs.Links.{InsideAt}
use Rattle.bundle_reads.specs.Reads.{HasRead}
use Rattle.bundle_reads.proofs.ReadTrees.{section_reader}
use Rattle.update_search.specs.Laws.{SearchLaws}
use Rattle.update_search.specs.Outcomes.{KeepsPlaces}
use Rattle.update_search.specs.Searching.{IsAtTop, KeepsSearch}
use Rattle.update_search.specs.declared.outcome.Failed.{Failed}
use Rattle.update_search.specs.declared.search.Aim.{Aim}
use Rattle.update_search.proofs.Keeps.{link_places, mark_places, none_locked, places_more}
use Rattle.update_search.proofs.Nodes.{IsNode, place_node}
use Rattle.update_search.proofs.OddLocks.{holds_last, may_unlock, unlock_keeps}
use Rattle.link_check.specs.TreeLinks.{HasNoLock, IsInTree, ReadsOn, StandsAtNode}

-- a pass that has locked no node reads at its number
pub inside_of : (v : View) (bare : HasNoLock v) → InsideAt v bare.1.number
inside_of v bare = record { section = bare.1.section; inside = record { odd = bare.1.working.inside; unlocked = no-node v.held.nodes bare.1.locked } }

pub inside_on : (v w : View) (at : ℕ) → InsideAt v at → HasNoLock w → ReadsOn v w → InsideAt w at
inside_on v w at reads bare on = record {
  section = on.section ∙ reads.section;
  inside = (inside_of w bare).inside;
}

pub places_none : (v w : View) → KeepsPlaces v w → HasNoLock v → HasNoLock w
places_none v w places bare = (bare.0, places.trying bare.0 [] bare.1)

-- a search that has ended, or was given up, keeps the places
pub places_found : (v w : View) (found : Result (Option Aim) Failed) → IfOk found (λ aim. KeepsSearch v w) → IfErr found (λ failed. KeepsPlaces v w) → KeepsPlaces v w
places_found v w (Ok aim) keeps given = keeps.places
places_found v w (Err failed) keeps given = given

-- a pass that has locked no node still has none locked after it has read in the bundles
pub read_none : (v w : View) → HasRead v w → HasNoLock v → HasNoLock w
read_none v w read bare =
    let t = bare.1 in
    subst HasNoLock (sym read.view) (
      bare.0,
      record {
        working = record { live = t.working.live; own = t.working.own; inside = t.working.inside };
        number = t.number;
        section = t.section;
        least = t.least;
        idle = t.idle;
        once = t.once;
        locked = t.locked;
        others = t.others;
      },
    )

pub read_tree : (v w : View) → HasRead v w → ReadsOn v w
read_tree v w read = subst (ReadsOn v) (sym read.view) (record { tree = refl; section = refl })

-- a node of the tree is one of the table
pub tree_there : (v : View) (node : ℕ) → IsLiveView v → HasNoLock v → IsInTree v node → node ≤ v.layout.nodes
tree_there v node live bare is = (section_reader v bare.1.number live (inside_of v bare)).high node is

pub may_read_key : (v : View) (node : ℕ) → IsLiveView v → HasNoLock v → IsInTree v node → MayReadPair v node
may_read_key v node live bare is = record { inside = bare.1.working.inside; there = tree_there v node live bare is }

-- the load of a key leaves a search that has not begun as it is
pub key_top : (laws : SearchLaws) (v : View) (node x : ℕ) → IsAtTop v → IsAtTop (pair_loaded v Key node x)
key_top laws v node x top = record {
  number = top.number;
  trying = (laws.loads v).key node x top.number [] top.trying;
  place = ap (place_paired Key node x) top.place;
  turns = record { left = top.turns.left; right = top.turns.right };
  none = top.none;
}

-- the root is not a node that a seat has taken out
pub root_other : (v : View) → IsLiveView v → count 0 v.retired.nodes ≡ 0
root_other v live =
    let s = live.stands in
    omega (arith, s.rule.rule.slots.nodes.one 0, one_term (own nodes_of 0) s.views s.seat v (item_at s.views s.seat v s.at))

-- a search does not stand at the root
pub stands_some : (v : View) (node : ℕ) → IsLiveView v → StandsAtNode v node → 0 < node
stands_some v node live stands =
    let s = live.stands in
    let gr = plain_graph (memory v.layout s.words) in
    let search = at_item (SearchRight gr s.views s.rule.meaning.tree s.rule.plain_tree) s.views s.seat v (item_at s.views s.seat v s.at) s.rule.searches in
    let known : PlaceKey gr.key (AtNode node (Some stands.0)) = subst (PlaceKey gr.key) stands.1 search.key in
    known.0

pub stands_node : (v : View) (node : ℕ) → StandsAtNode v node → IsNode v node
stands_node v node stands = place_node v node (Some stands.0) stands.1

pub can_lock : (v : View) (node : ℕ) → HasNoLock v → StandsAtNode v node → CanLock v node
can_lock v node bare stands = record { searched = inr (stands_node v node stands); unlocked = none_locked v bare.0 bare.1 node }

pub can_lock_root : (v : View) → HasNoLock v → CanLock v 0
can_lock_root v bare = record { searched = inl refl; unlocked = none_locked v bare.0 bare.1 0 }

link_unmarked : (v : View) (node x : ℕ) (side : Side) → IsUnmarked v node → IsUnmarked (link_loaded v node side x) node
link_unmarked v node x side u = record {
  place = u.place;
  held = link_known_at node side x u.held;
  at = item-map (link_known_at node side x) v.held.nodes u.place u.held u.at;
  node_is = link-node node x side u.held ∙ u.node_is;
  is = link-mark node x side u.held ∙ u.is;
}

pub unmarked_on : (v w : View) (node x : ℕ) (side : Side) → w ≡ link_loaded v node side x → IsUnmarked v node → IsUnmarked w node
unmarked_on v w node x side is u = subst (λ (y : View). IsUnmarked y node) (sym is) (link_unmarked v node x side u)

module _ (laws : SearchLaws) (p : Pass) (bare : HasNoLock p.view) (node : ℕ) (can : CanLock p.view node) (q : Pass) where
  abbrev v : View
  v = p.view

  -- another pass holds the lock
  pub met_none : HasMetLock p node q.view → HasNoLock q.view
  met_none met = (
    bare.0,
    subst (λ (u : View). IsTrying u bare.0 []) (sym met.view) ((laws.lock v.layout v p.seat bare.0 [] node bare.1 can).held (p.number + 1) met.found),
  )

  module _ (other : count node v.retired.nodes ≡ 0) (locks : HasLocked p node q.view) where
    holds : IsTrying q.view bare.0 (node ∷ [])
    holds = subst (λ (u : View). IsTrying u bare.0 (node ∷ [])) (sym locks.view) ((laws.lock v.layout v p.seat bare.0 [] node bare.1 can).locked other)

    keeps : KeepsTry v q.view
    keeps = subst (KeepsTry v) (sym locks.view) ((laws.steps v).locked node)

    -- the node's mark
    module _ (marked : Bool) (x : View) (looks : HasLoadedMark q node marked x) where
      pub mark_on : KeepsPlaces q.view x
      mark_on = subst (KeepsPlaces q.view) (sym looks.view) (mark_places laws q.view node looks.found)

      pub mark_none : marked ≡ false → IsUnmarked x node
      mark_none none =
          let found = (look q.view.layout q.view q.seat bare.0 node (node ∷ []) holds (holds_last q.view bare.0 node [] holds)).mark.1 in
          subst (λ (u : View). IsUnmarked u node) (sym looks.view) (subst (λ f. IsUnmarked (mark_loaded q.view node f) node) (sym (looks.clear none)) found)

    -- it looks at what the node holds
    module _ (x : View) (places : KeepsPlaces q.view x) where
      holds_on : IsTrying x bare.0 (node ∷ [])
      holds_on = places.trying bare.0 (node ∷ []) holds

      pub may_free : MayUnlock x node
      may_free = may_unlock x bare.0 node (node ∷ []) holds_on (holds_last x bare.0 node [] holds_on)

      pub may_link : (side : Side) → 0 < node → IsUnmarked x node → MayReadLink x node side
      may_link side some u = record {
        inside = holds_on.working.inside;
        on = inl (firm-link x bare.0 (node ∷ []) node side holds_on (holds_last x bare.0 node [] holds_on) (λ root. absurd (omega (arith, some, root))) u);
      }

      pub link_on : (side : Side) (k : ℕ) (y : View) → y ≡ link_loaded x node side k → KeepsPlaces q.view y
      link_on side k y is = subst (KeepsPlaces q.view) (sym is) (places_more laws q.view x (link_loaded x node side k) places (link_places laws x node k side))

      module _ (y : View) (free : y ≡ unlocked_view x node) where
        free_trying : IsTrying y bare.0 []
        free_trying = subst (λ (u : View). IsTrying u bare.0 []) (sym free) (laws.unlock x bare.0 node [] holds_on)

        pub free_none : HasNoLock y
        free_none = (bare.0, free_trying)

        kept : KeepsTry v y
        kept =
            subst (KeepsTry v) (sym free)
            (laws.tries_on v x (unlocked_view x node) (laws.tries_on v q.view x keeps places.keeps) (unlock_keeps x bare.0 node (node ∷ []) holds_on))

        pub free_on : ReadsOn v y
        free_on = record { tree = kept.pass.tree; section = kept.pass.section }

        -- a search can begin
        pub free_top : IsAtTop y
        free_top = record {
          number = bare.0;
          trying = free_trying;
          place = ap (λ (u : View). u.reading.place) free;
          turns = record { left = ap (λ (u : View). u.reading.left_turn) free; right = ap (λ (u : View). u.reading.right_turn) free };
          none = ap (λ (u : View). u.reading.links) free;
        }
