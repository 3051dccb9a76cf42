-- The plain links of an update are set, and the tags of those are raised that a removal has made null.
use Rattle.std.proofs.Common.{◌≡◌, ℕ, ◌+◌, ◌<◌, List, [], ◌∷◌, map, Bool, true, false, not, cond, eqb, ◌||◌, ◌&&◌, refl, ap, sym, ◌∙◌, subst, arith, Option, Some, None}
use Rattle.std.specs.Prelude.{◌==◌}
use Rattle.std.proofs.lemmas.Bool.{eq-eqb, and_from}
use Rattle.std.proofs.lemmas.Bool.Decides.{nat_tests}
use Rattle.index_words.specs.declared.side.Side.{Side}
use Rattle.index_words.specs.declared.side.Side.TheVariants.{Left, Right}
use Rattle.index_words.specs.declared.view.View.{View}
use Rattle.index_words.specs.declared.view.reading.Link.{Link as ViewLink}
use Rattle.index_words.specs.declared.view.reading.LinkSource.{LinkSource}
use Rattle.index_words.specs.declared.view.reading.LinkSource.TheVariants.{Bundle, Plain}
use Rattle.index_words.specs.declared.view.update.HeldNode.{HeldNode}
use Rattle.index_words.specs.declared.view.update.OwedTag.{OwedTag}
use Rattle.index_words.specs.declared.view.update.Unlinking.{Unlinking}
use Rattle.index_words.specs.declared.view.update.UnsetLink.{UnsetLink}
use Rattle.index_words.specs.Words.{same_side}
use Rattle.key_map.specs.Lists.{count, Every}
use Rattle.key_map.specs.declared.update.Change.{Change}
use Rattle.key_map.specs.declared.update.Change.TheVariants.{Put, Remove}
use Rattle.core_grace.specs.Holds.{held_slots}
use Rattle.core_events.specs.LoadMoves.{raised_if}
use Rattle.core_events.specs.Searches.{has_other_tag, is_other_tag, is_plain, knows_tag}
use Rattle.core_events.specs.PlainMoves.{tag_known, tag_loaded, link_known_at, tag_known_at, other_links, other_tags, still_unlinking}
use Rattle.core_events.specs.PlainNeeds.{is_link_of, is_owed_at, sets_to, sets_others, unlinks_at, owes}
use Rattle.core_events.specs.UpdateNeeds.{held_at, side_of}
use Rattle.core_invariant.specs.Readers.{IsLocked}
use Rattle.core_invariant.proofs.Sides.{same_side-refl}
use Rattle.core_invariant.proofs.Undone.{or_left}
use Rattle.core_updates.specs.declared.plan.Plan.{Plan}
use Rattle.core_updates.specs.declared.plan.Plan.TheVariants.{Grow, Join}
use Rattle.core_updates.specs.declared.plan.PlanSlots.{PlanSlots}
use Rattle.core_updates.specs.declared.plan.Front.{Front}
use Rattle.core_updates.specs.Plans.{change_of, front_of, locks_of, or_none, sets_of, set_by}
use Rattle.core_updates.specs.SetLinks.{SetLink, set_of, nulls_of, owed_of}
use Rattle.core_updates.proofs.PlanLocks.{locks_law}
use Rattle.plan_laws.specs.PlainLinks.{HasNotSearched, IsSetting, SetsAtOnce, is_removal, SetLaw, TagLaw, NoTagLaw}
use Rattle.plan_laws.specs.Frames.{KeepsOwned}
use Rattle.plan_laws.specs.Releases.{IsReleasing}
use Rattle.plan_laws.proofs.HeldMaps.{link-node, link-mark, tag-node, tag-mark}
use Rattle.plan_laws.proofs.Items.{map-keeps}
use Rattle.plan_laws.proofs.Releases.{known-marked}

-- the locked nodes by a map that keeps their nodes and marks
module _ (f : HeldNode → HeldNode) (node : (h : HeldNode) → (f h).node ≡ h.node) where
  pub slots-stay : (hs : List HeldNode) → held_slots (map f hs) ≡ held_slots hs
  slots-stay hs = map-keeps (λ (h : HeldNode). h.node) f node hs

  pub marks-stay : (out : List ℕ) → ((h : HeldNode) → (f h).mark ≡ h.mark) → (hs : List HeldNode)
      → Every (λ (h : HeldNode). 0 < count h.node out → h.mark ≡ Some 1) hs
      → Every (λ (h : HeldNode). 0 < count h.node out → h.mark ≡ Some 1) (map f hs)
  marks-stay out mark [] all = tt
  marks-stay out mark (h ∷ hs) all = (λ some. mark h ∙ all.0 (subst (λ k. 0 < count k out) (node h) some), marks-stay out mark hs all.1)

pub same-node : (a : ℕ) → eqb a a ≡ true
same-node a = grind (arith, nat_tests)

-- the links of other nodes
abbrev AreOthers : ℕ → List SetLink → Type 0
AreOthers k ss = Every (λ (s : SetLink). eqb s.at.node k ≡ false) ss

-- the link that is to be set is that of the front
is-link : (u : UnsetLink) (f : Front) → set_of u ≡ set_by f → is_link_of f.at.node f.at.side u ≡ true
is-link u f e =
    subst (λ (s : SetLink). (eqb s.at.node f.at.node && same_side s.at.side f.at.side) ≡ true) (sym e)
    (and_from (eqb f.at.node f.at.node) (same_side f.at.side f.at.side) (same-node f.at.node) (same_side-refl f.at.side))

pub sets-first : (us : List UnsetLink) (f : Front) (rest : List SetLink) → map set_of us ≡ set_by f ∷ rest → sets_to f.at.node f.at.side f.child us ≡ true
sets-first [] f rest e = cc
sets-first (u ∷ us) f rest e =
    let same : set_of u ≡ set_by f = cc in
    or_left (is_link_of f.at.node f.at.side u && eqb u.child f.child) (sets_to f.at.node f.at.side f.child us)
    (and_from (is_link_of f.at.node f.at.side u) (eqb u.child f.child) (is-link u f same) (eq-eqb u.child f.child (ap (λ (s : SetLink). s.child) same)))

others-stay : (k : ℕ) (side : Side) (us : List UnsetLink) → AreOthers k (map set_of us) → other_links k side us ≡ us
others-stay k side [] all = refl
others-stay k side (u ∷ us) all =
    ap (λ b. cond (not (b && same_side u.side side)) (u ∷ other_links k side us) (other_links k side us)) all.0 ∙ ap (λ (xs : List UnsetLink). u ∷ xs)
    (others-stay k side us all.1)

-- once it is set the others are left
pub sets-rest : (us : List UnsetLink) (f : Front) (rest : List SetLink) → map set_of us ≡ set_by f ∷ rest → AreOthers f.at.node rest
    → map set_of (other_links f.at.node f.at.side us) ≡ rest
sets-rest [] f rest e all = cc
sets-rest (u ∷ us) f rest e all =
    let same : set_of u ≡ set_by f = cc in
    let more : map set_of us ≡ rest = cc in
    ap (λ b. map set_of (cond (not b) (u ∷ other_links f.at.node f.at.side us) (other_links f.at.node f.at.side us))) (is-link u f same)
    ∙ ap (map set_of) (others-stay f.at.node f.at.side us (subst (AreOthers f.at.node) (sym more) all)) ∙ more

-- where no successor is unlinked after a wait one link is to be set
one-set : (plan : Plan) (slots : PlanSlots) → SetsAtOnce plan → sets_of plan slots ≡ set_by (front_of plan slots) ∷ []
one-set (Join p) slots at_once = by (p.next.at.node == p.node) at_once
  where
    last : Unlinking
    last = record { successor = p.next.node; parent = p.next.at.node; side = p.next.at.side; replaced = p.node }

    by : (near : Bool) → cond near None (Some last) ≡ None
        → map set_by (record { at = p.at; entry = slots.at; child = slots.node } ∷ or_none
        (cond near None (Some (record { at = p.next.at; entry = slots.next; child = p.next.right }))))
        ≡ set_by (record { at = p.at; entry = slots.at; child = slots.node }) ∷ []
    by true e = refl
    by false e = cc
one-set _ slots at_once = refl

front-locked : (v : View) (plan : Plan) (slots : PlanSlots) → held_slots v.held.nodes ≡ locks_of plan → IsLocked v (front_of plan slots).at.node
front-locked v plan slots locked = subst (λ ks. 0 < count (front_of plan slots).at.node ks) (sym locked) (locks_law plan slots).fronts.0

pub set_plain : SetLaw
set_plain v n plan slots tags at_once h =
    let f = front_of plan slots in
    let k : ℕ = f.at.node in
    let side : Side = f.at.side in
    let here : map set_of v.update.unset ≡ set_by f ∷ [] = h.links.unset_are ∙ one-set plan slots at_once in
    let none : v.update.unlinking ≡ None = h.links.last ∙ at_once in
    record {
      may = record {
        locked = front-locked v plan slots h.locked;
        done = h.idle;
        marked = known-marked v.update v.held.nodes h.marked;
        unset = sets-first v.update.unset f [] here;
        order = ap (λ (o : Option Unlinking). not (unlinks_at k side o && sets_others k side v.update.unset)) none;
        waited = λ u is_it at_it. cc;
      };
      set = record {
        live = h.live;
        own = h.own;
        inside = h.inside;
        once = h.once;
        locked = slots-stay (link_known_at k side f.child) (link-node k f.child side) v.held.nodes ∙ h.locked;
        idle = h.idle;
        marked = marks-stay (link_known_at k side f.child) (link-node k f.child side) v.update.taken (link-mark k f.child side) v.held.nodes h.marked;
        links = record {
          unset_are = sets-rest v.update.unset f [] here tt;
          owed_are = h.links.owed_are;
          last = ap (still_unlinking k side) none ∙ sym at_once;
        };
        unsearched = h.unsearched;
      };
      keeps = record { layout = refl; joined = refl; number = refl; history = refl; counts = refl; free = refl; retired = refl; batch = refl };
    }

-- the tags that are to be raised
owed-first : (c : Change) (f : Front) (rest : List SetLink) → (is_removal c && eqb f.child 0) ≡ true
    → owed_of c (set_by f ∷ rest) ≡ record { node = f.at.node; side = f.at.side } ∷ owed_of c rest
owed-first (Put val) f rest is = cc
owed-first Remove f rest is = ap (λ b. cond b (record { node = f.at.node; side = f.at.side } ∷ nulls_of rest) (nulls_of rest)) is

owed-pass : (c : Change) (f : Front) (rest : List SetLink) → (is_removal c && eqb f.child 0) ≡ false → owed_of c (set_by f ∷ rest) ≡ owed_of c rest
owed-pass (Put val) f rest is = refl
owed-pass Remove f rest is = ap (λ b. cond b (record { node = f.at.node; side = f.at.side } ∷ nulls_of rest) (nulls_of rest)) is

own-tag : (k : ℕ) (side : Side) → is_owed_at k side (record { node = k; side = side }) ≡ true
own-tag k side = and_from (eqb k k) (same_side side side) (same-node k) (same_side-refl side)

pub owes-first : (k : ℕ) (side : Side) (os rest : List OwedTag) → os ≡ record { node = k; side = side } ∷ rest → owes k side os ≡ true
owes-first k side os rest is =
    ap (owes k side) is ∙ or_left (is_owed_at k side (record { node = k; side = side })) (owes k side rest) (own-tag k side)

pub tags-rest : (k : ℕ) (side : Side) (os rest : List OwedTag) → os ≡ record { node = k; side = side } ∷ rest → other_tags k side rest ≡ rest
    → other_tags k side os ≡ rest
tags-rest k side os rest is stay =
    ap (other_tags k side) is
    ∙ ap (λ b. cond (not b) (record { node = k; side = side } ∷ other_tags k side rest) (other_tags k side rest)) (own-tag k side) ∙ stay

-- a load of a tag counts nothing where no plain link is remembered
none-other : (k : ℕ) (side : Side) (x : ℕ) (ls : List ViewLink) → Every (λ (l : ViewLink). is_plain l.source ≡ false) ls → has_other_tag ls k side x ≡ false
none-other k side x [] all = refl
none-other k side x (l ∷ ls) all =
    ap (λ b. (eqb l.node k && same_side l.side side && b) || has_other_tag ls k side x) (no-tag l.source all.0)
    ∙ off (eqb l.node k) (same_side l.side side) (has_other_tag ls k side x) (none-other k side x ls all.1)
  where
    no-tag : (s : LinkSource) → is_plain s ≡ false → is_other_tag x s ≡ false
    no-tag (Bundle entry) is = refl
    no-tag (Plain tag above below) is = cc

    off : (a b c : Bool) → c ≡ false → ((a && b && false) || c) ≡ false
    off true true c is = is
    off true false c is = is
    off false b c is = is

pub tag-keeps : (v : View) (k : ℕ) (side : Side) (tag : ℕ) → HasNotSearched v → KeepsOwned v (tag_loaded v k side tag)
tag-keeps v k side tag none = record {
  layout = refl;
  joined = refl;
  number = refl;
  history = refl;
  counts = ap (λ b. record v.counts { moves = raised_if (b && not (knows_tag v.held.nodes k side tag)) v.counts.moves })
      (none-other k side tag v.reading.links none);
  free = refl;
  retired = refl;
  batch = refl;
}

-- a tag that was loaded of a locked node is known
known-node : (side : Side) (x : ℕ) (h : HeldNode) → (tag_known side x h).node ≡ h.node
known-node Left x h = refl
known-node Right x h = refl

pub known-tag : (side : Side) (x : ℕ) (h : HeldNode) → (side_of side (tag_known side x h)).tag ≡ Some x
known-tag Left x h = refl
known-tag Right x h = refl

record KnowsTag (k : ℕ) (side : Side) (x : ℕ) (hs : List HeldNode) : Type 0 where
  node : HeldNode
  at : held_at k hs ≡ Some node
  tag : (side_of side node).tag ≡ Some x

knows-tag : (k x : ℕ) (side : Side) (hs : List HeldNode) → 0 < count k (held_slots hs) → KnowsTag k side x (map (tag_known_at k side x) hs)
knows-tag k x side [] some = absurd (omega (arith, some))
knows-tag k x side (h ∷ hs) some = by (eqb h.node k) refl some (λ more. knows-tag k x side hs more)
  where
    by : (b : Bool) → eqb h.node k ≡ b → 0 < cond b 1 0 + count k (held_slots hs)
        → (0 < count k (held_slots hs) → KnowsTag k side x (map (tag_known_at k side x) hs))
        → KnowsTag k side x (cond b (tag_known side x h) h ∷ map (tag_known_at k side x) hs)
    by true e some rest = record {
      node = tag_known side x h;
      at = ap (λ n. cond (eqb n k) (Some (tag_known side x h)) (held_at k (map (tag_known_at k side x) hs))) (known-node side x h)
          ∙ ap (λ c. cond c (Some (tag_known side x h)) (held_at k (map (tag_known_at k side x) hs))) e;
      tag = known-tag side x h;
    }
    by false e some rest =
        let below = rest (omega (arith, some)) in
        record { node = below.node; at = ap (λ c. cond c (Some h) (held_at k (map (tag_known_at k side x) hs))) e ∙ below.at; tag = below.tag }

pub no-links : (us : List UnsetLink) → map set_of us ≡ [] → us ≡ []
no-links [] is = refl
no-links (u ∷ us) is = cc

no-tags : (c : Change) → owed_of c [] ≡ []
no-tags (Put val) = refl
no-tags Remove = refl

-- a plan locks a node at least
some-lock : (plan : Plan) → locks_of plan ≡ [] → ⊥
some-lock (Grow p) e = cc
some-lock _ e = cc

-- with no tag left to be raised
released : (v : View) (n : ℕ) (plan : Plan) (tags : List SetLink) → SetsAtOnce plan → IsSetting v n plan [] tags → v.update.owed ≡ []
    → IsReleasing v n (locks_of plan)
released v n plan tags at_once h none = record {
  live = h.live;
  own = h.own;
  word = h.inside;
  once = h.once;
  locked = h.locked;
  done = h.idle;
  marked = h.marked;
  set = (no-links v.update.unset h.links.unset_are, none, h.links.last ∙ at_once);
  ended = λ e. absurd (some-lock plan e);
}

pub raise_tag : TagLaw
raise_tag v n plan slots at_once h owes_it =
    let f = front_of plan slots in
    let k : ℕ = f.at.node in
    let side : Side = f.at.side in
    let locked : IsLocked v k = front-locked v plan slots h.locked in
    let here : v.update.owed ≡ record { node = k; side = side } ∷ []
    = h.links.owed_are ∙ ap (owed_of (change_of plan)) (one-set plan slots at_once) ∙ owed-first (change_of plan) f [] owes_it
    ∙ ap (λ (os : List OwedTag). record { node = k; side = side } ∷ os) (no-tags (change_of plan)) in
    record {
      locked = locked;
      may = λ there. record { inside = h.inside; there = there };
      keeps = λ tag. tag-keeps v k side tag h.unsearched;
      raises = λ tag.
          let known = knows-tag k tag side v.held.nodes locked in
          record {
            may = record { node = known.node; locked = known.at; loaded = known.tag; owed = owes-first k side v.update.owed [] here };
            released = record {
              live = h.live;
              own = h.own;
              word = h.inside;
              once = h.once;
              locked = slots-stay (tag_known_at k side (tag + 1)) (tag-node k (tag + 1) side) (map (tag_known_at k side tag) v.held.nodes)
                  ∙ slots-stay (tag_known_at k side tag) (tag-node k tag side) v.held.nodes ∙ h.locked;
              done = h.idle;
              marked = marks-stay (tag_known_at k side (tag + 1)) (tag-node k (tag + 1) side) v.update.taken (tag-mark k (tag + 1) side)
                  (map (tag_known_at k side tag) v.held.nodes)
                  (marks-stay (tag_known_at k side tag) (tag-node k tag side) v.update.taken (tag-mark k tag side) v.held.nodes h.marked);
              set = (no-links v.update.unset h.links.unset_are, tags-rest k side v.update.owed [] here refl, h.links.last ∙ at_once);
              ended = λ e. absurd (some-lock plan e);
            };
            keeps = record { layout = refl; joined = refl; number = refl; history = refl; counts = refl; free = refl; retired = refl; batch = refl };
          };
    }

pub no_tag : NoTagLaw
no_tag v n plan slots at_once h owes_none =
    released v n plan (sets_of plan slots) at_once h
    (h.links.owed_are ∙ ap (owed_of (change_of plan)) (one-set plan slots at_once) ∙ owed-pass (change_of plan) (front_of plan slots) [] owes_none ∙ no-tags
    (change_of plan))
