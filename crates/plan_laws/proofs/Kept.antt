-- What a try has found under its locks, and by its search, stays in steps that keep the locked nodes or parts of them.
use Rattle.std.proofs.Common.{◌≡◌, ℕ, suc, ◌⊎◌, inl, inr, List, [], ◌∷◌, ◌++◌, map, Bool, true, false, cond, eqb, refl, ap, sym, ◌∙◌, subst, Option, Some}
use Rattle.std.proofs.Common.{arith}
use Rattle.std.proofs.lemmas.Bool.{eqb-true}
use Rattle.std.proofs.lemmas.Bool.Decides.{nat_tests}
use Rattle.index_words.specs.declared.side.Side.{Side}
use Rattle.index_words.specs.declared.view.View.{View}
use Rattle.index_words.specs.declared.view.reading.Link.{Link as ViewLink}
use Rattle.index_words.specs.declared.view.update.HeldNode.{HeldNode}
use Rattle.index_words.specs.declared.view.update.HeldSide.{HeldSide}
use Rattle.index_words.specs.declared.view.update.LoadedHead.{LoadedHead}
use Rattle.key_map.specs.Lists.{IsItem}
use Rattle.core_trees.specs.declared.link.Link.{Link}
use Rattle.core_grace.specs.Holds.{held_slots}
use Rattle.core_events.specs.LoadMoves.{remembered_if}
use Rattle.core_events.specs.UpdateNeeds.{held_at, is_written, side_of}
use Rattle.core_updates.specs.Held.{HasLoaded, HoldsLink, HoldsGap, RemembersGap}
use Rattle.core_updates.specs.PlanEvents.{HoldsEntry, HoldsNumbered}
use Rattle.core_updates.specs.PlanReady.{HoldsLook}
use Rattle.core_updates.specs.Plans.{Look, LinkLook, KeyLook, ValLook, GapLook, BetweenLook}
use Rattle.plan_laws.specs.Looks.{IsUnmarked, KeepsLooks, RemembersLink, RemembersNull}
use Rattle.plan_laws.proofs.Items.{first-item, item-below, item-map, item-longer, map-keeps}

-- no remembered link goes
abbrev pub KeepsLinks : View → View → Type 0
KeepsLinks v w = (place : ℕ) (l : ViewLink) → IsItem v.reading.links place l → IsItem w.reading.links place l

pub same-links : (v w : View) → w.reading.links ≡ v.reading.links → KeepsLinks v w
same-links v w same place l at = subst (λ ls. IsItem ls place l) (sym same) at

pub more-links : (b : Bool) (ls : List ViewLink) (new : ViewLink) (place : ℕ) (l : ViewLink) → IsItem ls place l → IsItem (remembered_if b ls new) place l
more-links true ls new place l at = item-longer ls (new ∷ []) place l at
more-links false ls new place l at = at

-- what a search has found stays
pub record KeepsFound (v w : View) : Type 0 where
  pub link : (at : Link) (child : ℕ) → RemembersLink v at child → RemembersLink w at child
  pub gap : (k tag key : ℕ) (side : Side) → RemembersGap v k side tag key → RemembersGap w k side tag key
  pub null : (at : Link) (tag : ℕ) (above below : Option ℕ) → RemembersNull v at tag above below → RemembersNull w at tag above below

pub links-kept : (v w : View) → KeepsLinks v w → KeepsFound v w
links-kept v w links = record {
  link = λ at child r. record {
    place = r.place;
    link = r.link;
    is = links r.place r.link r.is;
    node_is = r.node_is;
    side_is = r.side_is;
    plain = r.plain;
    child_is = r.child_is;
  };
  gap = λ k tag key side r. record {
    place = r.place;
    link = r.link;
    is = links r.place r.link r.is;
    node_is = r.node_is;
    side_is = r.side_is;
    child_is = r.child_is;
    above = r.above;
    below = r.below;
    source = r.source;
    over = r.over;
    under = r.under;
  };
  null = λ at tag above below r. record {
    place = r.place;
    link = r.link;
    is = links r.place r.link r.is;
    node_is = r.node_is;
    side_is = r.side_is;
    child_is = r.child_is;
    source = r.source;
  };
}

-- where a node is found among the locked ones
pub record FoundAt (hs : List HeldNode) (k : ℕ) (h : HeldNode) : Type 0 where
  pub place : ℕ
  pub is : IsItem hs place h
  pub node_is : h.node ≡ k

pub found-at : (k : ℕ) (h : HeldNode) (hs : List HeldNode) → held_at k hs ≡ Some h → FoundAt hs k h
found-at k h [] is = cc
found-at k h (x ∷ hs) is = by (eqb x.node k) refl is (found-at k h hs)
  where
    by : (b : Bool) → eqb x.node k ≡ b → cond b (Some x) (held_at k hs) ≡ Some h → (held_at k hs ≡ Some h → FoundAt hs k h) → FoundAt (x ∷ hs) k h
    by true e found more =
        let one : x ≡ h = cc in
        record { place = 0; is = subst (IsItem (x ∷ hs) 0) one (first-item x hs); node_is = ap (λ (y : HeldNode). y.node) (sym one) ∙ eqb-true x.node k e }
    by false e found more =
        let below = more found in
        record { place = suc below.place; is = item-below x h hs below.place below.is; node_is = below.node_is }

-- the locked nodes are mapped, and keep their numbers; or one more is locked
pub held-maps : (f : HeldNode → HeldNode) → ((h : HeldNode) → (f h).node ≡ h.node) → (k : ℕ) (h : HeldNode) (hs : List HeldNode) → held_at k hs ≡ Some h
    → held_at k (map f hs) ≡ Some (f h)
held-maps f same k h [] is = cc
held-maps f same k h (x ∷ hs) is = ap (λ n. cond (eqb n k) (Some (f x)) (held_at k (map f hs))) (same x) ∙ by (eqb x.node k) is (held-maps f same k h hs)
  where
    by : (b : Bool) → cond b (Some x) (held_at k hs) ≡ Some h → (held_at k hs ≡ Some h → held_at k (map f hs) ≡ Some (f h))
        → cond b (Some (f x)) (held_at k (map f hs)) ≡ Some (f h)
    by true found more = let one : x ≡ h = cc in ap (λ (y : HeldNode). Some (f y)) one
    by false found more = more found

pub held-longer : (k : ℕ) (h : HeldNode) (hs more : List HeldNode) → held_at k hs ≡ Some h → held_at k (hs ++ more) ≡ Some h
held-longer k h [] more is = cc
held-longer k h (x ∷ hs) more is = by (eqb x.node k) is (held-longer k h hs more)
  where
    by : (b : Bool) → cond b (Some x) (held_at k hs) ≡ Some h → (held_at k hs ≡ Some h → held_at k (hs ++ more) ≡ Some h)
        → cond b (Some x) (held_at k (hs ++ more)) ≡ Some h
    by true found below = found
    by false found below = below found

-- each locked node is locked still, and this is what is known of it then
pub record MovesHeld (f : HeldNode → HeldNode) (v w : View) : Type 0 where
  pub held : (k : ℕ) (h : HeldNode) → held_at k v.held.nodes ≡ Some h → held_at k w.held.nodes ≡ Some (f h)
  pub item : (place : ℕ) (h : HeldNode) → IsItem v.held.nodes place h → IsItem w.held.nodes place (f h)
  pub node : (h : HeldNode) → (f h).node ≡ h.node

pub mapped : (f : HeldNode → HeldNode) (v w : View) → w.held.nodes ≡ map f v.held.nodes → ((h : HeldNode) → (f h).node ≡ h.node) → MovesHeld f v w
mapped f v w maps node = record {
  held = λ k h is. subst (λ hs. held_at k hs ≡ Some (f h)) (sym maps) (held-maps f node k h v.held.nodes is);
  item = λ place h at. subst (λ hs. IsItem hs place (f h)) (sym maps) (item-map f v.held.nodes place h at);
  node = node;
}

pub same-held : (v w : View) → w.held.nodes ≡ v.held.nodes → MovesHeld (λ (h : HeldNode). h) v w
same-held v w same = record {
  held = λ k h is. subst (λ hs. held_at k hs ≡ Some h) (sym same) is;
  item = λ place h at. subst (λ hs. IsItem hs place h) (sym same) at;
  node = λ h. refl;
}

pub slots-kept : (f : HeldNode → HeldNode) (v w : View) → w.held.nodes ≡ map f v.held.nodes → ((h : HeldNode) → (f h).node ≡ h.node)
    → held_slots w.held.nodes ≡ held_slots v.held.nodes
slots-kept f v w maps node = ap held_slots maps ∙ map-keeps (λ (h : HeldNode). h.node) f node v.held.nodes

-- what is known of locked nodes stays
pub record KeepsHeld (f : HeldNode → HeldNode) (v : View) : Type 0 where
  pub mark : (place : ℕ) (h : HeldNode) → IsItem v.held.nodes place h → h.mark ≡ Some 0 → (f h).mark ≡ Some 0
  pub key : (place x : ℕ) (h : HeldNode) → IsItem v.held.nodes place h → h.key ≡ Some x → (f h).key ≡ Some x
  pub val : (place x : ℕ) (h : HeldNode) → IsItem v.held.nodes place h → h.val ≡ Some x → (f h).val ≡ Some x
  pub link : (k x : ℕ) (side : Side) (h : HeldNode) → held_at k v.held.nodes ≡ Some h → (side_of side h).link ≡ Some x → (side_of side (f h)).link ≡ Some x
  pub tag : (k x : ℕ) (side : Side) (h : HeldNode) → held_at k v.held.nodes ≡ Some h → (side_of side h).tag ≡ Some x → (side_of side (f h)).tag ≡ Some x

module _ (f : HeldNode → HeldNode) (v w : View) (moves : MovesHeld f v w) (keeps : KeepsHeld f v) where
  pub unmarked-kept : (k : ℕ) → IsUnmarked v k → IsUnmarked w k
  unmarked-kept k h = record {
    place = h.place;
    held = f h.held;
    at = moves.item h.place h.held h.at;
    node_is = moves.node h.held ∙ h.node_is;
    is = keeps.mark h.place h.held h.at h.is;
  }

  key-kept : (k x : ℕ) → HasLoaded v k (λ (h : HeldNode). h.key) x → HasLoaded w k (λ (h : HeldNode). h.key) x
  key-kept k x h = record {
    place = h.place;
    held = f h.held;
    at = moves.item h.place h.held h.at;
    node_is = moves.node h.held ∙ h.node_is;
    is = keeps.key h.place x h.held h.at h.is;
  }

  val-kept : (k x : ℕ) → HasLoaded v k (λ (h : HeldNode). h.val) x → HasLoaded w k (λ (h : HeldNode). h.val) x
  val-kept k x h = record {
    place = h.place;
    held = f h.held;
    at = moves.item h.place h.held h.at;
    node_is = moves.node h.held ∙ h.node_is;
    is = keeps.val h.place x h.held h.at h.is;
  }

  abbrev pub link-kept : (k child : ℕ) (side : Side) → HoldsLink v k side child → HoldsLink w k side child
  link-kept k child side h =
      let at = found-at k h.held v.held.nodes h.locked in
      record {
        root = h.root;
        held = f h.held;
        locked = moves.held k h.held h.locked;
        unmarked = keeps.mark at.place h.held at.is h.unmarked;
        leads = keeps.link k child side h.held h.locked h.leads;
      }

  module _ (found : KeepsFound v w) where
    gap-kept : (k key : ℕ) (side : Side) → HoldsGap v k side key → HoldsGap w k side key
    gap-kept k key side h = record {
      null = link-kept k 0 side h.null;
      tag = h.tag;
      held_tag = keeps.tag k h.tag side h.null.held h.null.locked h.held_tag;
      found = found.gap k h.tag key side h.found;
    }

    pub look-kept : (look : Look) → HoldsLook v look → HoldsLook w look
    look-kept (LinkLook at child) h = link-kept at.node child at.side h
    look-kept (KeyLook node key) h = key-kept node key h
    look-kept (ValLook node val) h = val-kept node val h
    look-kept (GapLook at key) h = gap-kept at.node key at.side h
    look-kept (BetweenLook at low high) h = λ x above below. gap-kept at.node x at.side (h x above below)

    pub looks-kept : KeepsLooks v w
    looks-kept = record { looks = look-kept; unmarked = unmarked-kept; link = found.link; gap = found.gap; null = found.null }

-- a head stays known by its entry, and with a number that was loaded
pub record KnowsHead (l : LoadedHead) (s : HeldSide) : Type 0 where
  pub now : LoadedHead
  pub is : s.head ≡ Some now
  pub entry : now.entry ≡ l.entry
  pub written : is_written l.stamp ≡ true → is_written now.stamp ≡ true

-- what is known of the link's head, and of the node's mark, stays known
pub record KeepsAt (f : HeldNode → HeldNode) (at : Link) : Type 0 where
  pub mark : (h : HeldNode) → h.node ≡ at.node → h.mark ≡ Some 0 → (f h).mark ≡ Some 0
  pub head : (h : HeldNode) (l : LoadedHead) → h.node ≡ at.node → (side_of at.side h).head ≡ Some l → KnowsHead l (side_of at.side (f h))

abbrev pub entry-kept : (f : HeldNode → HeldNode) (v w : View) (at : Link) (entry : ℕ) → MovesHeld f v w → KeepsAt f at → HoldsEntry v at entry
    → HoldsEntry w at entry
entry-kept f v w at entry m keeps h =
    let known = keeps.head h.head.held h.head.loaded h.head.node_is h.head.head in
    record {
      head = record {
        place = h.head.place;
        held = f h.head.held;
        at = m.item h.head.place h.head.held h.head.at;
        node_is = m.node h.head.held ∙ h.head.node_is;
        loaded = known.now;
        head = known.is;
        entry_is = known.entry ∙ h.head.entry_is;
      };
      unmarked = keeps.mark h.head.held h.head.node_is h.unmarked;
    }

pub numbered-kept : (f : HeldNode → HeldNode) (v w : View) (at : Link) (entry : ℕ) → MovesHeld f v w → KeepsAt f at → HoldsNumbered v at entry
    → HoldsNumbered w at entry
numbered-kept f v w at entry m keeps h = record {
  holds = entry-kept f v w at entry m keeps h.holds;
  numbered = elim h.numbered as (λ _. (entry ≡ 0) ⊎ (is_written (entry-kept f v w at entry m keeps h.holds).head.loaded.stamp ≡ true)) [
    | inl none' ↦ inl none'
    | inr written ↦ inr ((keeps.head h.holds.head.held h.holds.head.loaded h.holds.head.node_is h.holds.head.head).written written)
  ];
}

pub own_node : (a : ℕ) → eqb a a ≡ true
own_node a = grind (arith, nat_tests)

-- the parts of a node apart from its links
pub record SameParts (g h : HeldNode) : Type 0 where
  pub node : g.node ≡ h.node
  pub mark : g.mark ≡ h.mark
  pub key : g.key ≡ h.key
  pub val : g.val ≡ h.val

-- a head that is as it was
pub as-it-was : (l : LoadedHead) (s t : HeldSide) → t.head ≡ s.head → s.head ≡ Some l → KnowsHead l t
as-it-was l s t same is = record { now = l; is = same ∙ is; entry = refl; written = λ w. w }

-- nothing changes
pub same-at : (at : Link) → KeepsAt (λ (h : HeldNode). h) at
same-at at = record { mark = λ h here is. is; head = λ h l here is. as-it-was l (side_of at.side h) (side_of at.side h) refl is }

-- what is known of one node changes
module _ (k : ℕ) (change : HeldNode → HeldNode) where
  abbrev pub at_one : HeldNode → HeldNode
  at_one h = cond (eqb h.node k) (change h) h

  pub one-part : {X : Type 0} (part : HeldNode → X) (h : HeldNode) → part (change h) ≡ part h → part (at_one h) ≡ part h
  one-part part h same = by (eqb h.node k)
    where
      by : (b : Bool) → part (cond b (change h) h) ≡ part h
      by true = same
      by false = refl

  pub one-is : (h : HeldNode) → h.node ≡ k → at_one h ≡ change h
  one-is h here = ap (λ b. cond b (change h) h) (ap (λ n. eqb n k) here ∙ own_node k)

  one-case : (P : HeldNode → Type 0) (h : HeldNode) → (h.node ≡ k → P (change h)) → P h → P (at_one h)
  one-case P h changed same = by (eqb h.node k) refl
    where
      by : (b : Bool) → eqb h.node k ≡ b → P (cond b (change h) h)
      by true e = changed (eqb-true h.node k e)
      by false e = same

  -- what is known of another node is as it was
  pub one-at : (at : Link) → ¬ (at.node ≡ k) → KeepsAt at_one at
  one-at at apart = record {
    mark = λ h here is. one-case (λ (x : HeldNode). x.mark ≡ Some 0) h (λ same. absurd (apart (sym here ∙ same))) is;
    head = λ h l here is.
        one-case (λ (x : HeldNode). KnowsHead l (side_of at.side x)) h (λ same. absurd (apart (sym here ∙ same)))
        (as-it-was l (side_of at.side h) (side_of at.side h) refl is);
  }

  module _ (v : View) where
    pub one-keeps : ((place : ℕ) (h : HeldNode) → IsItem v.held.nodes place h → h.node ≡ k → h.mark ≡ Some 0 → (change h).mark ≡ Some 0)
        → ((place x : ℕ) (h : HeldNode) → IsItem v.held.nodes place h → h.node ≡ k → h.key ≡ Some x → (change h).key ≡ Some x)
        → ((place x : ℕ) (h : HeldNode) → IsItem v.held.nodes place h → h.node ≡ k → h.val ≡ Some x → (change h).val ≡ Some x)
        → ((x : ℕ) (side : Side) (h : HeldNode) → held_at k v.held.nodes ≡ Some h → (side_of side h).link ≡ Some x → (side_of side (change h)).link ≡ Some x)
        → ((x : ℕ) (side : Side) (h : HeldNode) → held_at k v.held.nodes ≡ Some h → (side_of side h).tag ≡ Some x → (side_of side (change h)).tag ≡ Some x)
        → KeepsHeld at_one v
    one-keeps mark key val link tag = record {
      mark = λ place h at is. one-case (λ (x : HeldNode). x.mark ≡ Some 0) h (λ here. mark place h at here is) is;
      key = λ place y h at is. one-case (λ (x : HeldNode). x.key ≡ Some y) h (λ here. key place y h at here is) is;
      val = λ place y h at is. one-case (λ (x : HeldNode). x.val ≡ Some y) h (λ here. val place y h at here is) is;
      link = λ j y side h found is.
          one-case (λ (x : HeldNode). (side_of side x).link ≡ Some y) h
          (λ here. link y side h (subst (λ n. held_at n v.held.nodes ≡ Some h) (sym (found-at j h v.held.nodes found).node_is ∙ here) found) is) is;
      tag = λ j y side h found is.
          one-case (λ (x : HeldNode). (side_of side x).tag ≡ Some y) h
          (λ here. tag y side h (subst (λ n. held_at n v.held.nodes ≡ Some h) (sym (found-at j h v.held.nodes found).node_is ∙ here) found) is) is;
    }
