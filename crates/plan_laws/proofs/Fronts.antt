-- A try puts its entries in front.
use Rattle.std.proofs.Common.{◌≡◌, ℕ, zero, suc, ◌+◌, ◌^◌, ◌<◌, ◌≤◌, List, [], ◌∷◌, ◌++◌, Bool, true, false, cond, eqb, refl, ap, sym, ◌∙◌, subst, arith, Some, None}
use Rattle.std.specs.Prelude.{◌==◌}
use Rattle.std.specs.List.{slice_get}
use Rattle.std.proofs.lemmas.Bool.Decides.{nat_tests}
use Rattle.std.proofs.lemmas.Option.{slice_get_within}
use Rattle.index_words.specs.declared.view.View.{View}
use Rattle.index_words.specs.declared.view.update.HeldNode.{HeldNode}
use Rattle.index_words.specs.declared.view.update.LoadedHead.{LoadedHead}
use Rattle.index_words.specs.declared.view.update.Updating.{Updating}
use Rattle.index_words.specs.declared.word.Part.TheVariants.{Child}
use Rattle.index_words.specs.declared.word.Word.{Word}
use Rattle.index_words.specs.declared.word.Word.TheVariants.{Entry}
use Rattle.key_map.specs.Lists.{count, Every, IsItem}
use Rattle.key_map.proofs.Counting.{count-append}
use Rattle.core_trees.specs.declared.link.Link.{Link}
use Rattle.core_links.proofs.Compare.{compared, less, more, same}
use Rattle.core_events.specs.UpdateMoves.{prepared, known_at}
use Rattle.core_invariant.proofs.Passing.{count-without_other}
use Rattle.core_invariant.proofs.Frames.{every_map}
use Rattle.core_updates.specs.declared.plan.Plan.{Plan}
use Rattle.core_updates.specs.declared.plan.PlanSlots.{PlanSlots}
use Rattle.core_updates.specs.declared.plan.Heads.{Heads}
use Rattle.core_updates.specs.declared.plan.Front.{Front}
use Rattle.core_updates.specs.Held.{HoldsHead}
use Rattle.core_laws.specs.ViewNeeds.{HasFilled}
use Rattle.core_laws.proofs.TreeGaps.{every_front}
use Rattle.core_updates.specs.PlanReady.{HoldsLook, HoldsFill, HoldsFront}
use Rattle.core_updates.specs.Plans.{looks_of, front_of, fronts_of, entries_of, entry_fills, new_node_of, next_front_of}
use Rattle.core_updates.proofs.PlanSteps.{events_law}
use Rattle.plan_laws.specs.Fills.{AreApart, new_fills_of, front_fills, next_fills, fills_of}
use Rattle.plan_laws.specs.Fronts.{behind_of, IsStillDue, HasPrepared, PrepareStartLaw, PrepareStepLaw, PrepareEndLaw}
use Rattle.plan_laws.proofs.Items.{every-got, got-none, item-map, take-past, told}
use Rattle.plan_laws.proofs.HeldMaps.{known-node, known-keeps, known-other, known-is}
use Rattle.plan_laws.proofs.Kept.{MovesHeld, KeepsAt, links-kept, look-kept, mapped, numbered-kept, same-links, slots-kept}
use Rattle.plan_laws.proofs.PlanFronts.{entry_at, front_is, front_head, front_filled, fronts_apart, new_node_holds, entries-more, same-front}

free-front : (v : View) (slots : PlanSlots) (place : ℕ) → 0 < count slots.at v.free.entries → 0 < count slots.next v.free.entries
    → 0 < count (entry_at slots place) v.free.entries
free-front v slots zero at next = at
free-front v slots (suc place) at next = next

pub prepare_start : PrepareStartLaw
prepare_start v n plan slots heads h =
    let t = h.found.looked.trying in
    record {
      making = record {
        working = t.working;
        number = t.number;
        section = t.section;
        least = t.least;
        unraised = ap (λ (u : Updating). u.raised) t.idle;
        untaken = ap (λ (u : Updating). u.taken) t.idle;
        once = t.once;
        locked = t.locked;
      };
      formed = h.found.looked.formed;
      small = h.found.looked.small;
      looks = h.found.looked.looks;
      due = λ place f from is. record {
        look = front_head v n plan slots heads place f h.found is;
        free = subst (λ e. 0 < count e v.free.entries) (sym (front_is plan slots place f is).entry) (free-front v slots place h.free.at h.free.next);
      };
      fronts = λ place f below is. absurd (omega (arith, below));
      filled = h.filled;
      pending = ap (λ (u : Updating). u.pending) t.idle;
      node = h.free.node;
      left = h.free.left;
      right = h.free.right;
    }

-- what is held of a link that is not touched
abbrev head-kept : (f : HeldNode → HeldNode) (v w : View) (at : Link) (entry : ℕ) → MovesHeld f v w → KeepsAt f at → HoldsHead v at.node at.side entry
    → HoldsHead w at.node at.side entry
head-kept f v w at entry m keeps h =
    let known = keeps.head h.held h.loaded h.node_is h.head in
    record {
      place = h.place;
      held = f h.held;
      at = m.item h.place h.held h.at;
      node_is = m.node h.held ∙ h.node_is;
      loaded = known.now;
      head = known.is;
      entry_is = known.entry ∙ h.entry_is;
    }

abbrev KeepsPending : View → View → Type 0
KeepsPending v w = (e : ℕ) → 0 < count e v.update.pending → 0 < count e w.update.pending

fill-kept : (v w : View) (word : Word) (x : ℕ) → w.reading.filled ≡ v.reading.filled → HasFilled v word x → HasFilled w word x
fill-kept v w word x as_was h = record { place = h.place; is = subst (λ fs. IsItem fs h.place (record { word = word; value = x })) (sym as_was) h.is }

front-kept : (f : HeldNode → HeldNode) (v w : View) (front : Front) → MovesHeld f v w → KeepsAt f front.at → KeepsPending v w
    → w.reading.filled ≡ v.reading.filled
    → HoldsFront v front → HoldsFront w front
front-kept f v w front m keeps pending filled h = record {
  some = h.some;
  head = head-kept f v w front.at front.entry m keeps h.head;
  pending = pending front.entry h.pending;
  leads = fill-kept v w (Entry Child front.entry) front.child filled h.leads;
}

counted-last : (e : ℕ) (xs : List ℕ) → 0 < count e (xs ++ e ∷ [])
counted-last e xs = omega (arith, count-append e xs (e ∷ []), one e)
  where
    one : (k : ℕ) → cond (eqb k k) 1 0 + 0 ≡ 1
    one k = grind (arith, nat_tests)

-- the entries of two fronts
entries-apart : (slots : PlanSlots) (first second : ℕ) → AreApart slots → first < second → second < 2 → ¬ (entry_at slots second ≡ entry_at slots first)
entries-apart slots zero zero a below few e = absurd (omega (arith, below))
entries-apart slots zero (suc second) a below few e = a.at_next (sym e)
entries-apart slots (suc first) second a below few e = absurd (omega (arith, below, few))

some-front : (slots : PlanSlots) (place : ℕ) → AreApart slots → 0 < entry_at slots place
some-front slots zero a = a.at_some
some-front slots (suc place) a = a.next_some

small-front : (slots : PlanSlots) (place : ℕ) → AreApart slots → entry_at slots place < 2 ^ 32
small-front slots zero a = a.at_small
small-front slots (suc place) a = a.next_small

left-apart : (slots : PlanSlots) (place : ℕ) → AreApart slots → ¬ (slots.left ≡ entry_at slots place)
left-apart slots zero a e = a.at_left (sym e)
left-apart slots (suc place) a e = a.left_next e

right-apart : (slots : PlanSlots) (place : ℕ) → AreApart slots → ¬ (slots.right ≡ entry_at slots place)
right-apart slots zero a e = a.at_right (sym e)
right-apart slots (suc place) a e = a.right_next e

-- one entry is put in front
module _ (v : View) (n : ℕ) (plan : Plan) (slots : PlanSlots) (heads : Heads) (done : ℕ) (f : Front) (h : HasPrepared v n plan slots heads done)
    (apart : AreApart slots) (is : slice_get (fronts_of plan slots) done ≡ Some f) where
  abbrev w : View
  w = prepared v f.at.side f.at.node f.entry

  abbrev stored : LoadedHead
  stored = record { entry = f.entry; stamp = None }

  abbrev change : HeldNode → HeldNode
  change = known_at f.at.node f.at.side stored

  moves : MovesHeld change v w
  moves = mapped change v w refl (known-node f.at.node f.at.side stored)

  pending-kept : KeepsPending v w
  pending-kept e some = omega (arith, some, count-append e v.update.pending (f.entry ∷ []))

  abbrev due : IsStillDue v f (behind_of heads done)
  due = h.due done f (omega arith) is

  entry-is : f.entry ≡ entry_at slots done
  entry-is = (front_is plan slots done f is).entry

  front-fills : Every (HoldsFill v) (entry_fills f.entry f.child (behind_of heads done))
  front-fills = front_filled (HoldsFill v) plan slots heads done f h.filled is

  head-now : HoldsHead w f.at.node f.at.side f.entry
  head-now =
      let d = due.look.holds.head in
      record {
        place = d.place;
        held = change d.held;
        at = item-map change v.held.nodes d.place d.held d.at;
        node_is = known-node f.at.node f.at.side stored d.held ∙ d.node_is;
        loaded = stored;
        head = known-is f.at.node f.at.side stored d.held d.node_is;
        entry_is = refl;
      }

  looks-now : Every (HoldsLook w) (looks_of plan)
  looks-now =
      every_map (HoldsLook v) (HoldsLook w) (looks_of plan)
      (look-kept change v w moves (known-keeps f.at.node f.at.side stored v) (links-kept v w (same-links v w refl))) h.looks

  -- the link of another front is one of another node
  other-node : (place : ℕ) (g : Front) → ¬ (place ≡ done) → slice_get (fronts_of plan slots) place ≡ Some g → ¬ (g.at.node ≡ f.at.node)
  other-node place g away here = by place done (front_is plan slots place g here).few (front_is plan slots done f is).few away here is
    where
      by : (a b : ℕ) → a < 2 → b < 2 → ¬ (a ≡ b) → slice_get (fronts_of plan slots) a ≡ Some g → slice_get (fronts_of plan slots) b ≡ Some f
          → ¬ (g.at.node ≡ f.at.node)
      by zero zero one two away here there = absurd (away refl)
      by zero (suc zero) one two away here there = fronts_apart plan slots g f h.making.once here there
      by zero (suc (suc b)) one two away here there = absurd (omega (arith, two))
      by (suc zero) zero one two away here there = λ e. fronts_apart plan slots f g h.making.once there here (sym e)
      by (suc zero) (suc zero) one two away here there = absurd (away refl)
      by (suc zero) (suc (suc b)) one two away here there = absurd (omega (arith, two))
      by (suc (suc a)) b one two away here there = absurd (omega (arith, one))

  other-front : (place : ℕ) (g : Front) → ¬ (place ≡ done) → slice_get (fronts_of plan slots) place ≡ Some g → KeepsAt change g.at
  other-front place g away here = known-other f.at.node f.at.side stored g.at (other-node place g away here)

  due-now : (place : ℕ) (g : Front) → done + 1 ≤ place → slice_get (fronts_of plan slots) place ≡ Some g → IsStillDue w g (behind_of heads place)
  due-now place g from here =
      let before = h.due place g (omega (arith, from)) here in
      let two = (front_is plan slots place g here) in
      let away : ¬ (g.entry ≡ f.entry) = λ e. entries-apart slots done place apart (omega (arith, from)) two.few (sym two.entry ∙ e ∙ entry-is) in
      record {
        look = numbered-kept change v w g.at (behind_of heads place) moves (other-front place g (λ e. omega (arith, from, e)) here) before.look;
        free = subst (λ c. 0 < c) (sym (count-without_other g.entry f.entry v.free.entries away)) before.free;
      }

  front-now : HoldsFront w f
  front-now = record {
    some = subst (λ e. 0 < e) (sym entry-is) (some-front slots done apart);
    head = head-now;
    pending = counted-last f.entry v.update.pending;
    leads = fill-kept v w (Entry Child f.entry) f.child refl front-fills.0;
  }

  fronts-now : (place : ℕ) (g : Front) → place < done + 1 → slice_get (fronts_of plan slots) place ≡ Some g → HoldsFront w g
  fronts-now place g below here = by (place == done) (told place done)
    where
      by : (b : Bool) → ((b ≡ true → place ≡ done) × (b ≡ false → ¬ (place ≡ done))) → HoldsFront w g
      by true tells = subst (HoldsFront w) (same-front f g (sym is ∙ ap (slice_get (fronts_of plan slots)) (sym (tells.0 refl)) ∙ here)) front-now
      by false tells =
          front-kept change v w g moves (other-front place g (tells.1 refl) here) pending-kept refl
          (h.fronts place g (elim (compared place done) as (λ _. place < done) [
            | less b ↦ b
            | more a ↦ absurd (omega (arith, a, below))
            | same e ↦ absurd
                (tells.1 refl e)
          ]) here)

  pub prepared-now : HasPrepared w n plan slots heads (done + 1)
  prepared-now = record {
    making = record {
      working = record { live = h.making.working.live; own = h.making.working.own; inside = h.making.working.inside };
      number = h.making.number;
      section = h.making.section;
      least = h.making.least;
      unraised = h.making.unraised;
      untaken = h.making.untaken;
      once = h.making.once;
      locked = slots-kept change v w refl (known-node f.at.node f.at.side stored) ∙ h.making.locked;
    };
    formed = h.formed;
    small = h.small;
    looks = looks-now;
    due = due-now;
    fronts = fronts-now;
    filled = every_map (HoldsFill v) (HoldsFill w) (fills_of plan slots heads) (λ x k. fill-kept v w x.word x.value refl k) h.filled;
    pending = ap (λ es. es ++ f.entry ∷ []) h.pending ∙ sym (entries-more (fronts_of plan slots) done f is);
    node = h.node;
    left = subst (λ c. 0 < c) (sym (count-without_other slots.left f.entry v.free.entries (λ e. left-apart slots done apart (e ∙ entry-is)))) h.left;
    right = subst (λ c. 0 < c) (sym (count-without_other slots.right f.entry v.free.entries (λ e. right-apart slots done apart (e ∙ entry-is)))) h.right;
  }

pub prepare_step : PrepareStepLaw
prepare_step z v seat n plan slots heads done f h apart is =
    let d = h.due done f (omega arith) is in
    record {
      may = (events_law z v seat n plan slots h.making.working).prepare f (behind_of heads done) (record {
        unraised = h.making.unraised;
        found = d.look;
        free = d.free;
        small = subst (λ e. e < 2 ^ 32) (sym (front_is plan slots done f is).entry) (small-front slots done apart);
        filled = front_filled (HoldsFill v) plan slots heads done f h.filled is;
      });
      prepared = prepared-now v n plan slots heads done f h apart is;
    }

pub prepare_end : PrepareEndLaw
prepare_end v n plan slots heads done h apart none' = record {
  making = h.making;
  ready = record {
    small = h.small;
    formed = h.formed;
    looks = h.looks;
    apart = apart.left_right;
    new = new_node_holds v slots h.node h.left h.right plan
        (every_front (HoldsFill v) (new_fills_of (new_node_of plan slots))
        (front_fills heads.at (front_of plan slots) ++ next_fills heads.next (next_front_of plan slots)) h.filled);
    fronts = every-got (HoldsFront v) (fronts_of plan slots)
        (λ place f is. h.fronts place f (omega (arith, slice_get_within (fronts_of plan slots) place f is, got-none (fronts_of plan slots) done none')) is);
    pending = h.pending ∙ ap entries_of (take-past (fronts_of plan slots) done none');
  };
}
