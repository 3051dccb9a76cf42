-- A removal with a far successor ends in two halves around its wait: the first half, and the wait.
use Rattle.std.proofs.Common.{◌≡◌, ℕ, ◌+◌, ◌<◌, ◌≤◌, List, [], ◌∷◌, ◌++◌, length, map, Bool, true, false, not, cond, eqb, ◌&&◌, refl, ap, sym, ◌∙◌, subst, arith, Option, Some, None, is_some}
use Rattle.std.specs.Prelude.{◌==◌}
use Rattle.std.specs.List.{slice_get, list_any, list_all}
use Rattle.std.proofs.lemmas.Bool.{and_from}
use Rattle.std.proofs.lemmas.Bool.Decides.{nat_tests}
use Rattle.index_words.specs.declared.side.Side.{Side}
use Rattle.index_words.specs.declared.view.View.{View}
use Rattle.index_words.specs.declared.view.update.HeldNode.{HeldNode}
use Rattle.index_words.specs.declared.view.update.OwedTag.{OwedTag}
use Rattle.index_words.specs.declared.view.update.Unlinking.{Unlinking}
use Rattle.index_words.specs.declared.view.update.Updating.{Updating}
use Rattle.index_words.specs.Views.{no_update}
use Rattle.index_words.specs.Words.{same_side}
use Rattle.key_map.specs.Lists.{count, has, Every}
use Rattle.core_grace.specs.Holds.{held_slots}
use Rattle.core_grace.proofs.Parity.{even_left}
use Rattle.core_events.specs.LockMoves.{mark_known, other_nodes, unlocked_view}
use Rattle.core_events.specs.Needs.{is_successor}
use Rattle.core_events.specs.PlainMoves.{link_known_at, tag_known_at, link_set, still_unlinking}
use Rattle.core_events.specs.PlainNeeds.{sets_others, unlinks_at}
use Rattle.core_events.specs.UpdateNeeds.{held_at}
use Rattle.core_events.specs.Waits.{is_waiting_for, is_waiting, keeps_lock, looked_waiting}
use Rattle.core_laws.specs.ViewNeeds.{IsKnownMarked}
use Rattle.core_updates.specs.declared.plan.Front.{Front}
use Rattle.core_updates.specs.declared.plan.JoinPlan.{JoinPlan}
use Rattle.core_updates.specs.declared.plan.Plan.TheVariants.{Join}
use Rattle.core_updates.specs.declared.plan.PlanSlots.{PlanSlots}
use Rattle.core_updates.specs.Plans.{locks_of, fronts_of, or_none, sets_of, set_by, unlinks_of}
use Rattle.core_updates.specs.SetLinks.{set_of, nulls_of}
use Rattle.plan_laws.specs.Parting.{copy_set, far_set, far_unlinking, kept_locks, far_locks, IsFar, IsParting, StartPartingLaw, LinkCopyLaw, LoadFarTagLaw, UnlockUpperLaw, LeavePartedLaw, LookPartedLaw}
use Rattle.core_updates.proofs.PlanSteps.{held-item}
use Rattle.plan_laws.proofs.HeldMaps.{mark-node, link-node, link-mark, tag-node, tag-mark, tag-is}
use Rattle.plan_laws.proofs.Items.{map-keeps}
use Rattle.plan_laws.proofs.Kept.{found-at, held-maps}
use Rattle.plan_laws.proofs.PartedHeld.{held-others, mark-other, known-same, known-map, known-first, one-link, none-set, none-owed, keeps-both, clash}
use Rattle.plan_laws.proofs.PlainLinks.{slots-stay, same-node, sets-first, sets-rest}
use Rattle.plan_laws.proofs.Releases.{first-gone, others-every}

-- the front of the link to the copy, without its entry
abbrev copy-front : JoinPlan → ℕ → Front
copy-front p copy = record { at = p.at; entry = 0; child = copy }

-- different numbers of a list
first-two : (a b : ℕ) (rest : List ℕ) → count b (a ∷ rest) ≤ 1 → 0 < count b rest → eqb a b ≡ false
first-two a b rest le some = by (eqb a b) le
  where
    by : (c : Bool) → cond c 1 0 + count b rest ≤ 1 → c ≡ false
    by true h = absurd (omega (arith, h, some))
    by false h = refl

pub swapped : (a b : ℕ) → eqb a b ≡ false → eqb b a ≡ false
swapped a b is = grind (arith, nat_tests)

-- with a far successor
module _ (p : JoinPlan) (slots : PlanSlots) (far : IsFar p) where
  locks-are : locks_of (Join p) ≡ far_locks p
  locks-are = ap (λ b. p.at.node ∷ p.node ∷ (cond b [] (p.next.at.node ∷ []) ++ p.next.node ∷ [])) far

  sets-are : sets_of (Join p) slots ≡ copy_set p slots.node ∷ far_set p ∷ []
  sets-are =
      ap (λ b. map set_by (record { at = p.at; entry = slots.at; child = slots.node } ∷ or_none
      (cond b None (Some (record { at = p.next.at; entry = slots.next; child = p.next.right }))))) far

  unlinks-are : unlinks_of (Join p) ≡ Some (far_unlinking p)
  unlinks-are = ap (λ b. cond b None (Some (far_unlinking p))) far

  second-front : slice_get (fronts_of (Join p) slots) 1 ≡ Some (record { at = p.next.at; entry = slots.next; child = p.next.right })
  second-front =
      ap (λ b. slice_get (record { at = p.at; entry = slots.at; child = slots.node } ∷ or_none
      (cond b None (Some (record { at = p.next.at; entry = slots.next; child = p.next.right })))) 1) far

  nulls-are : 0 < slots.node → nulls_of (copy_set p slots.node ∷ far_set p ∷ []) ≡ nulls_of (far_set p ∷ [])
  nulls-are some =
      ap (λ b. cond b (record { node = p.at.node; side = p.at.side } ∷ nulls_of (far_set p ∷ [])) (nulls_of (far_set p ∷ []))) (above slots.node some)
    where
      above : (x : ℕ) → 0 < x → eqb x 0 ≡ false
      above x some = grind (arith, nat_tests)

pub start_parting : StartPartingLaw
start_parting v n p slots h far node =
    let locked : held_slots v.held.nodes ≡ far_locks p = h.locked ∙ locks-are p slots far in
    let last : v.update.unlinking ≡ Some (far_unlinking p) = h.links.last ∙ unlinks-are p slots far in
    let once : (k : ℕ) → count k (far_locks p) ≤ 1 = λ k. subst (λ ks. count k ks ≤ 1) (locks-are p slots far) (h.once k) in
    let found = h.unmarked 1 (record { at = p.next.at; entry = slots.next; child = p.next.right }) (second-front p slots far) in
    let q : ℕ = p.next.at.node in
    let at : held_at q v.held.nodes ≡ Some found.held
    = subst (λ k. held_at k v.held.nodes ≡ Some found.held) found.node_is
    (held-item v.held.nodes found.place found.held found.at (subst (λ ks. count found.held.node ks ≤ 1) (sym locked) (once found.held.node))) in
    let off : eqb found.held.node p.node ≡ false = ap (λ k. eqb k p.node) (found-at q found.held v.held.nodes at).node_is ∙ far in
    record {
      may = record {
        locked = subst (λ ks. 0 < count p.node ks) (sym locked) (second p.at.node p.node (kept_locks p));
        taken = subst (λ ks. 0 < count p.node ks) (sym h.taken) (first p.node (p.next.node ∷ []));
      };
      parting = record {
        live = h.live;
        own = h.own;
        word = h.inside;
        once = once;
        locked = map-keeps (λ (x : HeldNode). x.node) (mark_known p.node 1) (mark-node p.node 1) v.held.nodes ∙ locked;
        raised = h.raised;
        taken = h.taken;
        idle = h.idle;
        marked = known-first p.node (far_unlinking p) v.update v.held.nodes h.taken last;
        unset = h.links.unset_are ∙ sets-are p slots far;
        owed = h.links.owed_are ∙ ap nulls_of (sets-are p slots far) ∙ nulls-are p slots far node;
        unlinking = last;
        unmarked = record {
          node = mark_known p.node 1 found.held;
          at = held-maps (mark_known p.node 1) (mark-node p.node 1) q found.held v.held.nodes at;
          is = mark-other p.node 1 found.held off ∙ found.is;
        };
      };
    }
  where
    first : (k : ℕ) (rest : List ℕ) → 0 < count k (k ∷ rest)
    first k rest = subst (λ b. 0 < cond b 1 0 + count k rest) (sym (same-node k)) (omega arith)

    second : (a k : ℕ) (rest : List ℕ) → 0 < count k (a ∷ k ∷ rest)
    second a k rest = omega (arith, first k rest)

-- the first and the third of the locks are different nodes
third-apart : (a b c : ℕ) (rest : List ℕ) → count a (a ∷ b ∷ c ∷ rest) ≤ 1 → eqb c a ≡ false
third-apart a b c rest le = by (eqb c a) (subst (λ x. cond x 1 0 + (cond (eqb b a) 1 0 + (cond (eqb c a) 1 0 + count a rest)) ≤ 1) (same-node a) le)
  where
    by : (x : Bool) → 1 + (cond (eqb b a) 1 0 + (cond x 1 0 + count a rest)) ≤ 1 → x ≡ false
    by true h = absurd (omega (arith, h))
    by false h = refl

pub link_copy : LinkCopyLaw
link_copy v n p copy h =
    let k : ℕ = p.at.node in
    let side : Side = p.at.side in
    let f : Front = copy-front p copy in
    let apart : eqb p.next.at.node k ≡ false = third-apart k p.node p.next.at.node (p.next.node ∷ []) (h.once k) in
    let off : unlinks_at k side (Some (far_unlinking p)) ≡ false = ap (λ b. b && same_side p.next.at.side side) apart in
    let last : still_unlinking k side v.update.unlinking ≡ Some (far_unlinking p)
    = ap (still_unlinking k side) h.unlinking ∙ ap (λ b. cond b None (Some (far_unlinking p))) off in
    let w : View = link_set v k side copy in
    record {
      may = record {
        locked = subst (λ ks. 0 < count k ks) (sym h.locked) (subst (λ b. 0 < cond b 1 0 + count k (p.node ∷ kept_locks p)) (sym (same-node k)) (omega arith));
        done = h.idle;
        marked = h.marked;
        unset = sets-first v.update.unset f (far_set p ∷ []) h.unset;
        order = ap (λ (o : Option Unlinking). not (unlinks_at k side o && sets_others k side v.update.unset)) h.unlinking
            ∙ ap (λ b. not (b && sets_others k side v.update.unset)) off;
        waited = λ u is at.
            let same : far_unlinking p ≡ u = one (far_unlinking p) u (sym h.unlinking ∙ is) in
            absurd (clash (unlinks_at k side (Some u)) at (subst (λ (x : Unlinking). unlinks_at k side (Some x) ≡ false) same off));
      };
      parting = record {
        live = h.live;
        own = h.own;
        word = h.word;
        once = h.once;
        locked = slots-stay (link_known_at k side copy) (link-node k copy side) v.held.nodes ∙ h.locked;
        raised = h.raised;
        taken = h.taken;
        idle = h.idle;
        marked = known-map (link_known_at k side copy) (link-node k copy side) (link-mark k copy side) w.update v.held.nodes
            (known-same v.update w.update v.held.nodes refl (last ∙ sym h.unlinking) h.marked);
        unset = sets-rest v.update.unset f (far_set p ∷ []) h.unset (apart, tt);
        owed = h.owed;
        unlinking = last;
        unmarked = record {
          node = link_known_at k side copy h.unmarked.node;
          at = held-maps (link_known_at k side copy) (link-node k copy side) p.next.at.node h.unmarked.node v.held.nodes h.unmarked.at;
          is = link-mark k copy side h.unmarked.node ∙ h.unmarked.is;
        };
      };
    }
  where
    one : (x y : Unlinking) → Some x ≡ Some y → x ≡ y
    one x y is = cc

pub load_far_tag : LoadFarTagLaw
load_far_tag v n p h =
    let q : ℕ = p.next.at.node in
    let side : Side = p.next.at.side in
    record {
      locked = subst (λ ks. 0 < count q ks) (sym h.locked) (third p.at.node p.node q (p.next.node ∷ []));
      may = λ there. record { inside = h.word; there = there };
      parted = λ tag.
          let at = held-maps (tag_known_at q side tag) (tag-node q tag side) q h.unmarked.node v.held.nodes h.unmarked.at in
          record {
            parting = record {
              live = h.live;
              own = h.own;
              word = h.word;
              once = h.once;
              locked = slots-stay (tag_known_at q side tag) (tag-node q tag side) v.held.nodes ∙ h.locked;
              raised = h.raised;
              taken = h.taken;
              idle = h.idle;
              marked = known-map (tag_known_at q side tag) (tag-node q tag side) (tag-mark q tag side) v.update v.held.nodes h.marked;
              unset = h.unset;
              owed = h.owed;
              unlinking = h.unlinking;
              unmarked = record { node = tag_known_at q side tag h.unmarked.node; at = at; is = tag-mark q tag side h.unmarked.node ∙ h.unmarked.is };
            };
            tagged = record {
              node = tag_known_at q side tag h.unmarked.node;
              at = at;
              is = tag-is q tag side h.unmarked.node
                  (found-at q h.unmarked.node v.held.nodes h.unmarked.at).node_is;
            };
          };
    }
  where
    third : (a b c : ℕ) (rest : List ℕ) → 0 < count c (a ∷ b ∷ c ∷ rest)
    third a b c rest = subst (λ x. 0 < cond (eqb a c) 1 0 + (cond (eqb b c) 1 0 + (cond x 1 0 + count c rest))) (sym (same-node c)) (omega arith)

-- some node is locked still
some-held : (k : ℕ) (hs : List HeldNode) → 0 < count k (held_slots hs) → (length hs == 0) ≡ false
some-held k [] some = absurd (omega (arith, some))
some-held k (h ∷ hs) some = grind (arith, nat_tests)

pub unlock_upper : UnlockUpperLaw
unlock_upper v n p tag node rest parted parent successor =
    let h = parted.parting in
    let q : ℕ = p.next.at.node in
    let s : ℕ = p.next.node in
    let hs : List HeldNode = v.held.nodes in
    let off : eqb node q ≡ false = first-two node q rest (h.once q) parent in
    let off' : eqb node s ≡ false = first-two node s rest (h.once s) successor in
    let gone : count node rest ≡ 0 = last node (count node rest) (h.once node) in
    let left_over : held_slots (other_nodes node hs) ≡ rest = first-gone node rest hs h.locked gone in
    let some : (length (other_nodes node hs) == 0) ≡ false = some-held q (other_nodes node hs) (subst (λ ks. 0 < count q ks) (sym left_over) parent) in
    let still : (unlocked_view v node).update ≡ v.update = ap (λ b. cond b no_update v.update) some in
    record {
      may = record {
        locked = subst (λ ks. 0 < count node ks) (sym h.locked) (subst (λ b. 0 < cond b 1 0 + count node rest) (sym (same-node node)) (omega arith));
        done = h.idle;
        marked = h.marked;
        set = ap (λ b. not b && not (list_any (λ (o : OwedTag). eqb o.node node) v.update.owed) && not (is_successor node v.update.unlinking))
            (none-set (far_set p) node v.update.unset h.unset (swapped node q off))
            ∙ ap (λ (os : List OwedTag). true && not (list_any (λ (o : OwedTag). eqb o.node node) os) && not (is_successor node v.update.unlinking)) h.owed
            ∙ ap (λ b. true && not b && not (is_successor node v.update.unlinking)) (none-owed (far_set p) node (swapped node q off))
            ∙ ap (λ (o : Option Unlinking). true && true && not (is_successor node o)) h.unlinking
            ∙ ap not (swapped node s off');
      };
      parted = record {
        parting = record {
          live = h.live;
          own = h.own;
          word = h.word;
          once = λ k. omega (arith, h.once k);
          locked = left_over;
          raised = ap (λ (u : Updating). is_some u.raised) still ∙ h.raised;
          taken = ap (λ (u : Updating). u.taken) still ∙ h.taken;
          idle = ap (λ (u : Updating). u.pending) still ∙ h.idle;
          marked = subst (λ (u : Updating). Every (IsKnownMarked u) (other_nodes node hs)) (sym still) (others-every (IsKnownMarked v.update) node hs h.marked);
          unset = ap (λ (u : Updating). map set_of u.unset) still ∙ h.unset;
          owed = ap (λ (u : Updating). u.owed) still ∙ h.owed;
          unlinking = ap (λ (u : Updating). u.unlinking) still ∙ h.unlinking;
          unmarked = record { node = h.unmarked.node; at = held-others q node off hs ∙ h.unmarked.at; is = h.unmarked.is };
        };
        tagged = record { node = parted.tagged.node; at = held-others q node off hs ∙ parted.tagged.at; is = parted.tagged.is };
      };
    }
  where
    last : (k m : ℕ) → cond (eqb k k) 1 0 + m ≤ 1 → m ≡ 0
    last k m le = grind (arith, nat_tests)

-- with two locks left it is the wait
waits : (even : Bool) (v : View) (n : ℕ) (p : JoinPlan) → IsParting even v n p (kept_locks p) (far_set p ∷ []) → is_waiting v ≡ true
waits even v n p h =
    let x : Unlinking = far_unlinking p in
    let q : ℕ = p.next.at.node in
    let alone : Bool = not (sets_others q p.next.at.side v.update.unset) in
    let out : has p.next.node v.update.taken ≡ true = ap (has p.next.node) h.taken ∙ taken-second p.node p.next.node in
    ap (is_waiting_for v.update v.held.nodes) h.unlinking
    ∙ and_from (is_some v.update.raised && alone) (list_all (keeps_lock v.update.taken x) v.held.nodes)
    (and_from (is_some v.update.raised) alone h.raised (ap not (one-link (far_set p) v.update.unset h.unset)))
    (keeps-both x v.update.taken v.held.nodes h.unmarked.node h.locked out h.unmarked.at h.unmarked.is)
  where
    taken-second : (a b : ℕ) → has b (a ∷ b ∷ []) ≡ true
    taken-second a b = grind (arith, nat_tests)

pub leave_parted : LeavePartedLaw
leave_parted v n p tag parted =
    let h = parted.parting in
    record {
      may = record { own = h.own; inside = h.word; waiting = waits false v n p h; done = h.idle; marked = h.marked };
      parted = record {
        parting = record {
          live = h.live;
          own = h.own;
          word = even_left v.section_word h.word;
          once = h.once;
          locked = h.locked;
          raised = h.raised;
          taken = h.taken;
          idle = h.idle;
          marked = known-same v.update (record v.update { added = None }) v.held.nodes refl refl h.marked;
          unset = h.unset;
          owed = h.owed;
          unlinking = h.unlinking;
          unmarked = record { node = h.unmarked.node; at = h.unmarked.at; is = h.unmarked.is };
        };
        tagged = record { node = parted.tagged.node; at = parted.tagged.at; is = parted.tagged.is };
      };
    }

pub look_parted : LookPartedLaw
look_parted v n p tag other parted ne there =
    let h = parted.parting in
    record {
      may = record { other = λ e. ne (own n other (sym h.own ∙ e)); there = there; even = h.word; waiting = waits true v n p h };
      locked = some-held p.next.at.node v.held.nodes
          (subst (λ ks. 0 < count p.next.at.node ks) (sym h.locked)
          (subst (λ b. 0 < cond b 1 0 + count p.next.at.node (p.next.node ∷ [])) (sym (same-node p.next.at.node)) (omega arith)));
      parted = λ word. record {
        parting = record {
          live = h.live;
          own = h.own;
          word = h.word;
          once = h.once;
          locked = h.locked;
          raised = h.raised;
          taken = h.taken;
          idle = h.idle;
          marked = known-same v.update (looked_waiting v other word).update v.held.nodes refl refl h.marked;
          unset = h.unset;
          owed = h.owed;
          unlinking = h.unlinking;
          unmarked = record { node = h.unmarked.node; at = h.unmarked.at; is = h.unmarked.is };
        };
        tagged = record { node = parted.tagged.node; at = parted.tagged.at; is = parted.tagged.is };
      };
    }
  where
    own : (a b : ℕ) → Some a ≡ Some b → a ≡ b
    own a b is = cc
