-- After its wait, a removal with a far successor marks the successor and unlinks it.
use Rattle.std.proofs.Common.{◌≡◌, ℕ, zero, suc, ◌+◌, ◌<◌, ◌≤◌, List, [], ◌∷◌, map, Bool, true, false, not, cond, eqb, ◌&&◌, refl, ap, sym, ◌∙◌, subst, arith, Some, None}
use Rattle.std.proofs.lemmas.Bool.{and_from}
use Rattle.std.proofs.lemmas.Bool.Decides.{nat_tests}
use Rattle.index_words.specs.declared.side.Side.{Side}
use Rattle.index_words.specs.declared.view.View.{View}
use Rattle.index_words.specs.declared.view.update.HeldNode.{HeldNode}
use Rattle.index_words.specs.declared.view.update.Unlinking.{Unlinking}
use Rattle.index_words.specs.Words.{same_side}
use Rattle.key_map.specs.Lists.{count, Every}
use Rattle.core_grace.specs.Holds.{held_slots}
use Rattle.core_events.specs.LockMoves.{mark_known}
use Rattle.core_events.specs.PlainMoves.{link_known_at, tag_known_at, link_set, still_unlinking}
use Rattle.core_events.specs.PlainNeeds.{unlinks_at}
use Rattle.core_events.specs.UpdateNeeds.{held_at}
use Rattle.core_invariant.proofs.Sides.{same_side-refl}
use Rattle.core_invariant.proofs.Undone.{in_pair_second}
use Rattle.core_laws.specs.PlainNeeds.{MayUnlink}
use Rattle.core_updates.specs.declared.plan.Front.{Front}
use Rattle.core_updates.specs.declared.plan.JoinPlan.{JoinPlan}
use Rattle.plan_laws.specs.Parting.{far_set, far_unlinking, kept_locks, MarkFarLaw, UnlinkFarLaw}
use Rattle.plan_laws.proofs.HeldMaps.{mark-node, link-node, link-mark, tag-node, tag-mark}
use Rattle.plan_laws.proofs.Items.{map-keeps}
use Rattle.plan_laws.proofs.Kept.{found-at, held-maps}
use Rattle.plan_laws.proofs.PartedHeld.{link-tag, mark-tag, mark-other, known-marks, one-link, both-marked}
use Rattle.plan_laws.proofs.PlainLinks.{slots-stay, marks-stay, same-node, sets-first, sets-rest, owes-first, tags-rest, no-links}
use Rattle.plan_laws.proofs.Parting.{swapped}

-- the front of the link at which the far successor is unlinked, without its entry
abbrev far-front : JoinPlan → Front
far-front p = record { at = p.next.at; entry = 0; child = p.next.right }

-- a locked node is found
found-held : (k : ℕ) (hs : List HeldNode) → 0 < count k (held_slots hs) → (h : HeldNode) × (held_at k hs ≡ Some h)
found-held k [] some = absurd (omega (arith, some))
found-held k (x ∷ hs) some = by (eqb x.node k) refl some (λ more. found-held k hs more)
  where
    by : (b : Bool) → eqb x.node k ≡ b → 0 < cond b 1 0 + count k (held_slots hs) → (0 < count k (held_slots hs) → (h : HeldNode) × (held_at k hs ≡ Some h))
        → (h : HeldNode) × (held_at k (x ∷ hs) ≡ Some h)
    by true e some rest = (x, ap (λ c. cond c (Some x) (held_at k hs)) e)
    by false e some rest = let more = rest (omega (arith, some)) in (more.0, ap (λ c. cond c (Some x) (held_at k hs)) e ∙ more.1)

-- the two nodes are different ones
kept-apart : (q s : ℕ) → count q (q ∷ s ∷ []) ≤ 1 → eqb s q ≡ false
kept-apart q s le = by (eqb s q) (subst (λ x. cond x 1 0 + (cond (eqb s q) 1 0 + 0) ≤ 1) (same-node q) le)
  where
    by : (x : Bool) → 1 + (cond x 1 0 + 0) ≤ 1 → x ≡ false
    by true h = absurd (omega (arith, h))
    by false h = refl

pub mark_far : MarkFarLaw
mark_far v n p tag parted =
    let h = parted.parting in
    let q : ℕ = p.next.at.node in
    let s : ℕ = p.next.node in
    let f = mark_known s 1 in
    let locked : 0 < count s (held_slots v.held.nodes) = subst (λ ks. 0 < count s ks) (sym h.locked) (in_pair_second q s) in
    let off : eqb q s ≡ false = swapped s q (kept-apart q s (h.once q)) in
    let other : eqb h.unmarked.node.node s ≡ false = ap (λ k. eqb k s) (found-at q h.unmarked.node v.held.nodes h.unmarked.at).node_is ∙ off in
    let here = found-held s v.held.nodes locked in
    record {
      may = record { locked = locked; taken = subst (λ ks. 0 < count s ks) (sym h.taken) (in_pair_second p.node s) };
      parted = record {
        parting = record {
          live = h.live;
          own = h.own;
          word = h.word;
          once = h.once;
          locked = map-keeps (λ (x : HeldNode). x.node) f (mark-node s 1) v.held.nodes ∙ h.locked;
          raised = h.raised;
          taken = h.taken;
          idle = h.idle;
          marked = known-marks s v.update v.held.nodes h.marked;
          unset = h.unset;
          owed = h.owed;
          unlinking = h.unlinking;
          unmarked = record {
            node = f h.unmarked.node;
            at = held-maps f (mark-node s 1) q h.unmarked.node v.held.nodes h.unmarked.at;
            is = mark-other s 1 h.unmarked.node other ∙ h.unmarked.is;
          };
        };
        tagged = record {
          node = f parted.tagged.node;
          at = held-maps f (mark-node s 1) q parted.tagged.node v.held.nodes parted.tagged.at;
          is = mark-tag s 1 p.next.at.side parted.tagged.node ∙ parted.tagged.is;
        };
      };
      known = record {
        node = f here.0;
        at = held-maps f (mark-node s 1) s here.0 v.held.nodes here.1;
        is = ap (λ b. (cond b (record here.0 { mark = Some 1 }) here.0).mark) (ap (λ k. eqb k s) (found-at s here.0 v.held.nodes here.1).node_is ∙ same-node s);
      };
    }

pub unlink_far : UnlinkFarLaw
unlink_far v n p tag parted known passed =
    let h = parted.parting in
    let q : ℕ = p.next.at.node in
    let side : Side = p.next.at.side in
    let child : ℕ = p.next.right in
    let x : Unlinking = far_unlinking p in
    let f : Front = far-front p in
    let w : View = link_set v q side child in
    let here : unlinks_at q side (Some x) ≡ true = and_from (eqb q q) (same_side side side) (same-node q) (same_side-refl side) in
    let others : held_slots (map (link_known_at q side child) v.held.nodes) ≡ kept_locks p
    = slots-stay (link_known_at q side child) (link-node q child side) v.held.nodes ∙ h.locked in
    let unset : w.update.unset ≡ [] = no-links w.update.unset (sets-rest v.update.unset f [] h.unset tt) in
    let none : w.update.unlinking ≡ None = ap (still_unlinking q side) h.unlinking ∙ ap (λ b. cond b None (Some x)) here in
    let marked : Every (λ (y : HeldNode). 0 < count y.node v.update.taken → y.mark ≡ Some 1) v.held.nodes
    = both-marked x v.update v.held.nodes known.node h.locked (kept-apart q p.next.node (h.once q)) h.unlinking known.at known.is h.marked in
    let marked' : Every (λ (y : HeldNode). 0 < count y.node v.update.taken → y.mark ≡ Some 1) w.held.nodes
    = marks-stay (link_known_at q side child) (link-node q child side) v.update.taken (link-mark q child side) v.held.nodes marked in
    let at = held-maps (link_known_at q side child) (link-node q child side) q parted.tagged.node v.held.nodes parted.tagged.at in
    record {
      may = record {
        locked = subst (λ ks. 0 < count q ks) (sym h.locked) (subst (λ b. 0 < cond b 1 0 + count q (p.next.node ∷ [])) (sym (same-node q)) (omega arith));
        done = h.idle;
        marked = h.marked;
        unset = sets-first v.update.unset f [] h.unset;
        order = ap (λ b. not (unlinks_at q side v.update.unlinking && b)) (one-link (far_set p) v.update.unset h.unset) ∙ not-and
            (unlinks_at q side v.update.unlinking);
        waited = λ u is at_it.
            let same : x ≡ u = one x u (sym h.unlinking ∙ is) in
            subst (λ (y : Unlinking). MayUnlink v y) same (record { node = known.node; locked = known.at; marked = known.is; passed = passed });
      };
      null = λ zero_child.
          let owed : w.update.owed ≡ record { node = q; side = side } ∷ []
          = h.owed ∙ ap (λ c. cond (eqb c 0) (record { node = q; side = side } ∷ []) []) zero_child in
          record {
            may = record {
              node = link_known_at q side child parted.tagged.node;
              locked = at;
              loaded = link-tag q child side side parted.tagged.node ∙ parted.tagged.is;
              owed = owes-first q side w.update.owed [] owed;
            };
            released = record {
              live = h.live;
              own = h.own;
              word = h.word;
              once = h.once;
              locked = slots-stay (tag_known_at q side (tag + 1)) (tag-node q (tag + 1) side) w.held.nodes ∙ others;
              done = h.idle;
              marked = marks-stay (tag_known_at q side (tag + 1)) (tag-node q (tag + 1) side) v.update.taken (tag-mark q (tag + 1) side) w.held.nodes marked';
              set = (unset, tags-rest q side w.update.owed [] owed refl, none);
              ended = λ e. cc;
            };
          };
      some = λ ne. record {
        live = h.live;
        own = h.own;
        word = h.word;
        once = h.once;
        locked = others;
        done = h.idle;
        marked = marked';
        set = (unset, h.owed ∙ ap (λ b. cond b (record { node = q; side = side } ∷ []) []) (above child ne), none);
        ended = λ e. cc;
      };
    }
  where
    one : (a b : Unlinking) → Some a ≡ Some b → a ≡ b
    one a b is = cc

    not-and : (b : Bool) → not (b && false) ≡ true
    not-and true = refl
    not-and false = refl

    above : (a : ℕ) → ¬ (a ≡ 0) → eqb a 0 ≡ false
    above zero ne = absurd (ne refl)
    above (suc a) ne = grind (arith, nat_tests)
