-- The looks of a try.
use Rattle.std.proofs.Common.{◌≡◌, ℕ, suc, ◌+◌, ◌<◌, ◌≤◌, inr, List, [], ◌∷◌, Bool, true, false, cond, eqb, refl, ap, sym, ◌∙◌, subst, arith, Option, Some, None}
use Rattle.std.specs.Prelude.{◌==◌, ◌&&◌}
use Rattle.std.proofs.lemmas.Bool.Decides.{nat_tests}
use Rattle.index_words.specs.declared.side.Side.{Side}
use Rattle.index_words.specs.declared.side.Side.TheVariants.{Right}
use Rattle.index_words.specs.declared.view.View.{View}
use Rattle.index_words.specs.declared.view.reading.Link.{Link as ViewLink}
use Rattle.index_words.specs.declared.view.reading.LinkSource.{LinkSource}
use Rattle.index_words.specs.declared.view.reading.LinkSource.TheVariants.{Bundle, Plain}
use Rattle.index_words.specs.declared.view.reading.Place.{Place}
use Rattle.index_words.specs.declared.view.reading.Place.TheVariants.{Entry as AtEntry}
use Rattle.index_words.specs.declared.view.update.HeldNode.{HeldNode}
use Rattle.index_words.specs.declared.word.Field.TheVariants.{Key, Val}
use Rattle.index_words.specs.Words.{same_side}
use Rattle.key_map.specs.Lists.{count, IsItem}
use Rattle.key_map.specs.Map.{pair}
use Rattle.core_grace.specs.Holds.{held_slots}
use Rattle.core_trees.specs.declared.link.Link.{Link}
use Rattle.core_events.specs.LoadMoves.{head_loaded, ts_loaded, next_at, is_above, found_at, node_known, bundle_link}
use Rattle.core_events.specs.LockMoves.{locked_view, met_lock, mark_loaded, pair_loaded, just_locked, mark_known, pair_known}
use Rattle.core_events.specs.PlainMoves.{link_loaded, tag_loaded, link_known_at, tag_known_at}
use Rattle.core_events.specs.Searches.{is_plain, left_turn_after, plain_link, right_turn_after, searches_at, tag_found, turn_key, with_tag}
use Rattle.core_events.specs.UpdateNeeds.{held_at}
use Rattle.core_invariant.specs.Readers.{IsLocked}
use Rattle.core_laws.specs.PlainNeeds.{HasFirmLink, IsHeldUnmarked}
use Rattle.core_laws.proofs.ViewNeeds.{may_read_number_law}
use Rattle.core_updates.specs.declared.plan.Plan.{Plan}
use Rattle.core_updates.specs.declared.plan.Plan.TheVariants.{Grow}
use Rattle.core_updates.specs.declared.plan.PlanSlots.{PlanSlots}
use Rattle.core_updates.specs.PlanEvents.{AllowsPlan, HoldsEntry, HoldsNumbered}
use Rattle.core_updates.specs.Plans.{link_of}
use Rattle.core_updates.proofs.PlanSteps.{held-item, events_law}
use Rattle.plan_laws.specs.Tries.{IsTrying}
use Rattle.plan_laws.specs.Looks.{IsUnmarked, KeepsLooks, LookLaw, NumberLaw, HeadsStayLaw, StepsKeepLooksLaw, KeepsLooksLaw}
use Rattle.plan_laws.proofs.HeldMaps.{mark-node, mark-keeps, mark-is, number-at, number-keeps, numbered-side, is-written, found-other, found-node, found-mark, found-keeps, found-is, key-node, val-node, key-keeps, val-keeps, key-is, val-is, link-node, link-mark, link-keeps, link-is, tag-node, tag-mark, tag-link, tag-keeps, tag-is}
use Rattle.plan_laws.proofs.Items.{first-item, item-below, item-longer, item-map}
use Rattle.plan_laws.proofs.Kept.{KeepsFound, KeepsHeld, MovesHeld, links-kept, looks-kept, mapped, more-links, numbered-kept, same-held, same-links, found-at, held-longer}

-- what is loaded of a locked node does not depend on the plan and its slots
no-plan : Plan
no-plan = Grow (record { pair = pair 0 0; at = link_of 0 Right })

no-slots : PlanSlots
no-slots = record { node = 0; at = 0; left = 0; right = 0; next = 0 }

-- a locked node stands somewhere among the held ones
pub held-place : (hs : List HeldNode) (k : ℕ) → 0 < count k (held_slots hs) → (place : ℕ) × (held : HeldNode) × IsItem hs place held × (held.node ≡ k)
held-place [] k some = absurd (omega (arith, some))
held-place (x ∷ hs) k some = by (eqb x.node k) (λ e. same_node x.node k e) some (λ more. held-place hs k more)
  where
    same_node : (a b : ℕ) → eqb a b ≡ true → a ≡ b
    same_node a b e = grind (arith, nat_tests)

    by : (b : Bool) → (b ≡ true → x.node ≡ k) → 0 < cond b 1 0 + count k (held_slots hs)
        → (0 < count k (held_slots hs) → (place : ℕ) × (held : HeldNode) × IsItem hs place held × (held.node ≡ k))
        → (place : ℕ) × (held : HeldNode) × IsItem (x ∷ hs) place held × (held.node ≡ k)
    by true tells here more = (0, x, first-item x hs, tells refl)
    by false tells here more = let below = more (omega (arith, here)) in (suc below.0, below.1, item-below x below.1 hs below.0 below.2, below.3)

-- a plain link keeps its node, its side, its child, and a tag that was kept with it
module _ (k x : ℕ) (side : Side) where
  tagged-node : (l : ViewLink) → (with_tag k side x l).node ≡ l.node
  tagged-node l = by (l.node == k && same_side l.side side)
    where
      by : (b : Bool) → (cond b (record l { source = tag_found x l.source }) l).node ≡ l.node
      by true = refl
      by false = refl

  tagged-side : (l : ViewLink) → (with_tag k side x l).side ≡ l.side
  tagged-side l = by (l.node == k && same_side l.side side)
    where
      by : (b : Bool) → (cond b (record l { source = tag_found x l.source }) l).side ≡ l.side
      by true = refl
      by false = refl

  tagged-child : (l : ViewLink) → (with_tag k side x l).child ≡ l.child
  tagged-child l = by (l.node == k && same_side l.side side)
    where
      by : (b : Bool) → (cond b (record l { source = tag_found x l.source }) l).child ≡ l.child
      by true = refl
      by false = refl

  tagged-plain : (l : ViewLink) → is_plain l.source ≡ true → is_plain (with_tag k side x l).source ≡ true
  tagged-plain l plain = by (l.node == k && same_side l.side side)
    where
      still : (s : LinkSource) → is_plain s ≡ true → is_plain (tag_found x s) ≡ true
      still (Bundle entry) is = is
      still (Plain None above below) is = refl
      still (Plain (Some tag) above below) is = refl

      by : (b : Bool) → is_plain (cond b (record l { source = tag_found x l.source }) l).source ≡ true
      by true = still l.source plain
      by false = plain

  tagged-source : (l : ViewLink) (tag : ℕ) (above below : Option ℕ) → l.source ≡ Plain (Some tag) above below
      → (with_tag k side x l).source ≡ Plain (Some tag) above below
  tagged-source l tag above below is = by (l.node == k && same_side l.side side)
    where
      by : (b : Bool) → (cond b (record l { source = tag_found x l.source }) l).source ≡ Plain (Some tag) above below
      by true = ap (tag_found x) is
      by false = is

  tag-found : (v : View) → KeepsFound v (tag_loaded v k side x)
  tag-found v = record {
    link = λ at child r. record {
      place = r.place;
      link = with_tag k side x r.link;
      is = item-map (with_tag k side x) v.reading.links r.place r.link r.is;
      node_is = tagged-node r.link ∙ r.node_is;
      side_is = tagged-side r.link ∙ r.side_is;
      plain = tagged-plain r.link r.plain;
      child_is = tagged-child r.link ∙ r.child_is;
    };
    gap = λ j tag key s r. record {
      place = r.place;
      link = with_tag k side x r.link;
      is = item-map (with_tag k side x) v.reading.links r.place r.link r.is;
      node_is = tagged-node r.link ∙ r.node_is;
      side_is = tagged-side r.link ∙ r.side_is;
      child_is = tagged-child r.link ∙ r.child_is;
      above = r.above;
      below = r.below;
      source = tagged-source r.link tag r.above r.below r.source;
      over = r.over;
      under = r.under;
    };
    null = λ at tag above below r. record {
      place = r.place;
      link = with_tag k side x r.link;
      is = item-map (with_tag k side x) v.reading.links r.place r.link r.is;
      node_is = tagged-node r.link ∙ r.node_is;
      side_is = tagged-side r.link ∙ r.side_is;
      child_is = tagged-child r.link ∙ r.child_is;
      source = tagged-source r.link tag above below r.source;
    };
  }

module _ (v : View) where
  mark-moves : (k x : ℕ) → MovesHeld (mark_known k x) v (mark_loaded v k x)
  mark-moves k x = mapped (mark_known k x) v (mark_loaded v k x) refl (mark-node k x)

  link-moves : (k x : ℕ) (side : Side) → MovesHeld (link_known_at k side x) v (link_loaded v k side x)
  link-moves k x side = mapped (link_known_at k side x) v (link_loaded v k side x) refl (link-node k x side)

  tag-moves : (k x : ℕ) (side : Side) → MovesHeld (tag_known_at k side x) v (tag_loaded v k side x)
  tag-moves k x side = mapped (tag_known_at k side x) v (tag_loaded v k side x) refl (tag-node k x side)

  head-moves : (k e number : ℕ) (side : Side) → MovesHeld (found_at k side e) v (head_loaded v k side e number)
  head-moves k e number side = mapped (found_at k side e) v (head_loaded v k side e number) refl (found-node k e side)

  number-moves : (e x : ℕ) → MovesHeld (node_known e x) v (ts_loaded v e x)
  number-moves e x = mapped (node_known e x) v (ts_loaded v e x) refl (λ h. refl)

  key-moves : (k x : ℕ) → MovesHeld (pair_known Key k x) v (pair_loaded v Key k x)
  key-moves k x = mapped (pair_known Key k x) v (pair_loaded v Key k x) refl (key-node k x)

  val-moves : (k x : ℕ) → MovesHeld (pair_known Val k x) v (pair_loaded v Val k x)
  val-moves k x = mapped (pair_known Val k x) v (pair_loaded v Val k x) refl (val-node k x)

  pub id-keeps : KeepsHeld (λ (h : HeldNode). h) v
  id-keeps = record {
    mark = λ place h at is. is;
    key = λ place x h at is. is;
    val = λ place x h at is. is;
    link = λ k x side h at is. is;
    tag = λ k x side h at is. is;
  }

  lock-moves : (k : ℕ) → MovesHeld (λ (h : HeldNode). h) v (locked_view v k)
  lock-moves k = record {
    held = λ j h is. held-longer j h v.held.nodes (just_locked k ∷ []) is;
    item = λ place h at. item-longer v.held.nodes (just_locked k ∷ []) place h at;
    node = λ h. refl;
  }

  -- a step that leaves what is held as it was, and forgets no link
  next-looks : (e next : ℕ) (p : Place) → KeepsLooks v (next_at v p e next)
  next-looks e next (AtEntry node side entry found) =
      let w = next_at v (AtEntry node side entry found) e next in
      looks-kept (λ (h : HeldNode). h) v w (same-held v w refl) id-keeps
      (links-kept v w (more-links (next == 0 && is_above v e found) v.reading.links (bundle_link node side 0 0)))
  next-looks e next _ = looks-kept (λ (h : HeldNode). h) v v (same-held v v refl) id-keeps (links-kept v v (same-links v v refl))

pub steps_keep_looks : StepsKeepLooksLaw
steps_keep_looks v = record {
  locked = λ node apart. looks-kept (λ (h : HeldNode). h) v (locked_view v node) (lock-moves v node) (id-keeps v)
      (links-kept v (locked_view v node) (same-links v (locked_view v node) refl));
  met = λ own found. looks-kept (λ (h : HeldNode). h) v (met_lock v own found) (same-held v (met_lock v own found) refl) (id-keeps v)
      (links-kept v (met_lock v own found) (same-links v (met_lock v own found) refl));
  mark = λ node x first.
      looks-kept (mark_known node x) v (mark_loaded v node x) (mark-moves v node x) (mark-keeps node x v first)
      (links-kept v (mark_loaded v node x) (same-links v (mark_loaded v node x) refl));
  link = λ node x side first.
      looks-kept (link_known_at node side x) v (link_loaded v node side x) (link-moves v node x side) (link-keeps node x side v first)
      (links-kept v (link_loaded v node side x)
      (more-links (searches_at v.reading v.reading.place node side) v.reading.links
      (plain_link node side x (turn_key (left_turn_after side v.reading)) (turn_key (right_turn_after side v.reading)))));
  tag = λ node x side first.
      looks-kept (tag_known_at node side x) v (tag_loaded v node side x) (tag-moves v node x side) (tag-keeps node x side v first) (tag-found node x side v);
  key = λ node x first.
      looks-kept (pair_known Key node x) v (pair_loaded v Key node x) (key-moves v node x) (key-keeps node x v first)
      (links-kept v (pair_loaded v Key node x) (same-links v (pair_loaded v Key node x) refl));
  val = λ node x first.
      looks-kept (pair_known Val node x) v (pair_loaded v Val node x) (val-moves v node x) (val-keeps node x v first)
      (links-kept v (pair_loaded v Val node x) (same-links v (pair_loaded v Val node x) refl));
  head = λ node entry number side.
      looks-kept (found_at node side entry) v (head_loaded v node side entry number) (head-moves v node entry number side) (found-keeps node entry side v)
      (links-kept v (head_loaded v node side entry number) (more-links (entry == 0) v.reading.links (bundle_link node side 0 0)));
  number = λ entry x.
      looks-kept (node_known entry x) v (ts_loaded v entry x) (number-moves v entry x) (number-keeps entry x v)
      (links-kept v (ts_loaded v entry x) (same-links v (ts_loaded v entry x) refl));
  next = λ entry next. next-looks v entry next v.reading.place;
}

pub keeps_looks : KeepsLooksLaw
keeps_looks u v w a b = record {
  looks = λ look h. b.looks look (a.looks look h);
  unmarked = λ k h. b.unmarked k (a.unmarked k h);
  link = λ at child h. b.link at child (a.link at child h);
  gap = λ k tag key side h. b.gap k tag key side (a.gap k tag key side h);
  null = λ at tag above below h. b.null at tag above below (a.null at tag above below h);
}

-- the head that is found under the lock of an unmarked node
pub head-found : (v : View) (k e number : ℕ) (side : Side) → IsUnmarked v k → HoldsEntry (head_loaded v k side e number) (record { node = k; side = side }) e
head-found v k e number side u =
    let known = found-is k e side u.held u.node_is in
    record {
      head = record {
        place = u.place;
        held = found_at k side e u.held;
        at = item-map (found_at k side e) v.held.nodes u.place u.held u.at;
        node_is = found-node k e side u.held ∙ u.node_is;
        loaded = known.0;
        head = known.1;
        entry_is = known.2;
      };
      unmarked = found-mark k e side u.held ∙ u.is;
    }

-- a node is locked once
pub found-once : (v : View) (n : ℕ) (nodes : List ℕ) (k place : ℕ) (h : HeldNode) → IsTrying v n nodes → IsItem v.held.nodes place h → h.node ≡ k
    → held_at k v.held.nodes ≡ Some h
found-once v n nodes k place h t at node_is =
    subst (λ j. held_at j v.held.nodes ≡ Some h) node_is
    (held-item v.held.nodes place h at (subst (λ ks. count h.node ks ≤ 1) (sym t.locked) (t.once h.node)))

pub held-unmarked : (v : View) (n : ℕ) (nodes : List ℕ) (k : ℕ) → IsTrying v n nodes → IsUnmarked v k → IsHeldUnmarked v k
held-unmarked v n nodes k t u = record { held = u.held; locked = found-once v n nodes k u.place u.held t u.at u.node_is; unmarked = u.is }

-- the link of a locked node that was found unmarked may be loaded
pub firm-link : (v : View) (n : ℕ) (nodes : List ℕ) (k : ℕ) (side : Side) → IsTrying v n nodes → IsLocked v k → (k ≡ 0 → side ≡ Right) → IsUnmarked v k
    → HasFirmLink v k side
firm-link v n nodes k side t locked root u = record { locked = locked; root = root; unmarked = λ some. held-unmarked v n nodes k t u }

pub look : LookLaw
look z v seat n node nodes t locked =
    let allows : AllowsPlan z v seat n no-plan no-slots = events_law z v seat n no-plan no-slots t.working in
    let here = held-place v.held.nodes node locked in
    record {
      mark = (
        allows.marked node locked,
        record {
          place = here.0;
          held = mark_known node 0 here.1;
          at = item-map (mark_known node 0) v.held.nodes here.0 here.1 here.2;
          node_is = mark-node node 0 here.1 ∙ here.3;
          is = mark-is node 0 here.1 here.3;
        },
      );
      link = λ side x root u. (
        allows.link node side (firm-link v n nodes node side t locked root u),
        record {
          root = root;
          held = link_known_at node side x u.held;
          locked = (link-moves v node x side).held node u.held (found-once v n nodes node u.place u.held t u.at u.node_is);
          unmarked = link-mark node x side u.held ∙ u.is;
          leads = link-is node x side u.held u.node_is;
        },
      );
      tag = λ side x key h g. (
        allows.tag node side locked,
        record {
          null = record {
            root = h.root;
            held = tag_known_at node side x h.held;
            locked = (tag-moves v node x side).held node h.held h.locked;
            unmarked = tag-mark node x side h.held ∙ h.unmarked;
            leads = tag-link node x side side h.held ∙ h.leads;
          };
          tag = x;
          held_tag = tag-is node x side h.held (found-at node h.held v.held.nodes h.locked).node_is;
          found = (tag-found node x side v).gap node x key side g;
        },
      );
      key = λ x. (
        allows.key node locked,
        record {
          place = here.0;
          held = pair_known Key node x here.1;
          at = item-map (pair_known Key node x) v.held.nodes here.0 here.1 here.2;
          node_is = key-node node x here.1 ∙ here.3;
          is = key-is node x here.1 here.3;
        },
      );
      val = λ x. (
        allows.val node locked,
        record {
          place = here.0;
          held = pair_known Val node x here.1;
          at = item-map (pair_known Val node x) v.held.nodes here.0 here.1 here.2;
          node_is = val-node node x here.1 ∙ here.3;
          is = val-is node x here.1 here.3;
        },
      );
      head = λ side entry number u. (allows.head node side locked, head-found v node entry number side u);
    }

-- the number of the head that was found
head-numbered : (v : View) (at : Link) (e x : ℕ) → 0 < x → HoldsEntry v at e → HoldsNumbered (ts_loaded v e x) at e
head-numbered v at e x some h = record {
  holds = record {
    head = record {
      place = h.head.place;
      held = node_known e x h.head.held;
      at = item-map (node_known e x) v.held.nodes h.head.place h.head.held h.head.at;
      node_is = h.head.node_is;
      loaded = record { entry = h.head.loaded.entry; stamp = Some x };
      head = numbered-side e x at.side h.head.held h.head.loaded some h.head.entry_is h.head.head;
      entry_is = h.head.entry_is;
    };
    unmarked = h.unmarked;
  };
  numbered = inr (is-written e x some);
}

pub number_look : NumberLaw
number_look z v seat at entry number some holds =
    let w = head_loaded v at.node at.side entry number in
    record {
      may = λ there. may_read_number_law z w seat entry (record {
        at = record { node = at.node; side = at.side; found = None; place = refl; some = some; there = there };
      });
      written = λ x above. head-numbered w at entry x above holds;
    }

pub heads_stay : HeadsStayLaw
heads_stay v at entry h = record {
  head = λ node e number side apart.
      numbered-kept (found_at node side e) v (head_loaded v node side e number) at entry (head-moves v node e number side) (found-other node e side at apart) h;
  number = λ e x some. numbered-kept (node_known e x) v (ts_loaded v e x) at entry (number-moves v e x) (number-at e x some at) h;
}
