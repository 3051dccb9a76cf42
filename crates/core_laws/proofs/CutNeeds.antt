-- A seat whose view shows that it may cut, since it has walked along the bundle under its lock, may do so.
use Rattle.std.proofs.Common.{◌≡◌, ℕ, zero, suc, ◌<◌, ◌≤◌, List, [], ◌∷◌, Bool, true, false, eqb, ltb, leb, not, ◌&&◌, ◌||◌, arith, refl, ap, ◌∙◌, sym, subst, inl, inr, Option, Some}
use Rattle.std.specs.Prelude.{IfSome}
use Rattle.std.specs.List.{list_any, slice_get}
use Rattle.std.proofs.lemmas.Bool.{eq-eqb}
use Rattle.index_words.specs.declared.layout.Layout.{Layout}
use Rattle.index_words.specs.declared.side.Side.{Side}
use Rattle.index_words.specs.declared.side.Side.TheVariants.{Left, Right}
use Rattle.index_words.specs.declared.view.View.{View}
use Rattle.index_words.specs.declared.view.update.HeldNode.{HeldNode}
use Rattle.index_words.specs.declared.view.update.LoadedHead.{LoadedHead}
use Rattle.index_words.specs.declared.word.Field.TheVariants.{Head}
use Rattle.index_words.specs.declared.word.Part.TheVariants.{Stamp as Number, Next}
use Rattle.index_words.specs.declared.word.Word.TheVariants.{Stamp, Node, Entry}
use Rattle.index_words.specs.Words.{Memory, memory}
use Rattle.key_map.specs.Lists.{count, has, Every, IsItem}
use Rattle.core_grace.specs.Batches.{is_number, all_passed}
use Rattle.core_grace.specs.Holds.{held_slots}
use Rattle.core_links.specs.Bundle.{IsChain, select}
use Rattle.core_links.proofs.Chains.{select-here, select-behind}
use Rattle.core_events.specs.declared.event.Kind.TheVariants.{Cut}
use Rattle.core_events.specs.LoadNeeds.{is_part}
use Rattle.core_events.specs.Numbered.{entry_number}
use Rattle.core_events.specs.SpelledNow.{bundle_now}
use Rattle.core_events.specs.CutNeeds.{selects_at, may_cut_at, may_cut_by}
use Rattle.core_events.specs.Steps.{allowed}
use Rattle.core_events.specs.UpdateNeeds.{side_of}
use Rattle.core_invariant.specs.Meanings.{Meaning}
use Rattle.core_invariant.specs.BundleRule.{IsLive, IsNumbered}
use Rattle.core_invariant.specs.Locks.{HeadRight, IsNodeAt, IsNextAt}
use Rattle.core_invariant.specs.SeatRule.{SeatRight}
use Rattle.core_invariant.specs.Rule.{InRule}
use Rattle.core_invariant.proofs.Frames.{one_counted}
use Rattle.core_invariant.proofs.BundleFrames.{select_in}
use Rattle.core_invariant.proofs.OneView.{item_from_get, seat_at}
use Rattle.core_invariant.proofs.Owned.{in_entries, entry_there}
use Rattle.core_invariant.proofs.Locked.{locked_live}
use Rattle.core_invariant.proofs.TreeNow.{entries_are}
use Rattle.core_invariant.proofs.LinkLaw.{selection_is}
use Rattle.core_laws.specs.Cuts.{HasWalkedAt, HasWalkedTo, MayCut, CutNeedLaw}
use Rattle.core_laws.specs.ViewNeeds.{event_at}
use Rattle.core_laws.proofs.Remembered.{every_item}
use Rattle.core_laws.proofs.ViewTests.{at_most, both, below, left_of, right_of, not_of}
use Rattle.core_laws.proofs.AtWork.{locked_alive, allowed_by}

-- one that passes is among the items
any_item : {X : Type 0} (test : X → Bool) (xs : List X) (i : ℕ) (x : X) → IsItem xs i x → test x ≡ true → list_any test xs ≡ true
any_item test [] i x at passes = absurd (omega (arith, at.within))
any_item test (y ∷ ys) zero x at passes = left_of (test y) (list_any test ys) (ap test (at.is y) ∙ passes)
any_item test (y ∷ ys) (suc i) x at passes =
    right_of (test y) (list_any test ys) (any_item test ys i x (record { within = omega (arith, at.within); is = λ d. at.is d }) passes)

slot_item : (hs : List HeldNode) (i : ℕ) (h : HeldNode) → IsItem hs i h → 0 < count h.node (held_slots hs)
slot_item [] i h at = absurd (omega (arith, at.within))
slot_item (y ∷ ys) zero h at = subst (λ (x : HeldNode). 0 < count x.node (held_slots (y ∷ ys))) (at.is y) (one_counted y.node (count y.node (held_slots ys)))
slot_item (y ∷ ys) (suc i) h at = omega (arith, slot_item ys i h (record { within = omega (arith, at.within); is = λ d. at.is d }))

module _ (z : Layout) (words : List ℕ) (vs : List View) (right : InRule z words vs) (i : ℕ) (v : View) (is : slice_get vs i ≡ Some v) (k : ℕ) (side : Side) (e : ℕ) (may : MayCut v k side e) where
  abbrev m : Memory
  m = memory z words

  abbrev g : Meaning
  g = right.meaning

  abbrev stamp : ℕ → ℕ
  stamp d = m (Entry Number d)

  abbrev next : ℕ → ℕ
  next d = m (Entry Next d)

  abbrev es : List ℕ
  es = g.bundles.bundle side k

  at : IsItem vs i v
  at = item_from_get vs i v is

  seat : SeatRight z m g v
  seat = seat_at z m vs g i v at right.rule

  locked : 0 < count k (held_slots v.held.nodes)
  locked = subst (λ n. 0 < count n (held_slots v.held.nodes)) may.named (slot_item v.held.nodes may.place may.node may.locked)

  alive : v.joined ≡ false
  alive = locked_alive z words vs right i v is k locked

  live : IsLive z vs k
  live = locked_live z m vs g right.rule i k v at locked

  -- what was loaded of an entry is what the words hold
  loaded_is : (d number n : ℕ) → HasWalkedAt v k d number n → (stamp d ≡ number) × (next d ≡ n)
  loaded_is d number n by =
      let holds = every_item (IsNextAt m g.bundles v.held.nodes) v.held.nexts by.place _ by.is seat.loaded.nexts in
      (holds.found by.written, holds.is)

  unwritten : stamp 0 ≡ 0
  unwritten = refl

  -- the walk ends at the entry that the least number selects
  walk_selects : (ds fs : List ℕ) (from : ℕ) → IsChain next from fs → Every (IsNumbered (m Stamp) stamp g.bundles.number) fs → HasWalkedTo v k may.least from ds e
      → select g.bundles.number may.least fs ≡ e
  walk_selects [] [] from chain numbers walked = absurd (omega (arith, chain, walked, may.some))
  walk_selects [] (x ∷ fs) from chain numbers walked =
      let same : x ≡ e = sym chain.0 ∙ walked in
      let here = loaded_is e may.number may.next may.here in
      let written : 0 < stamp x = omega (arith, ap stamp same, here.0, may.here.written) in
      select-here g.bundles.number may.least x fs (omega (arith, (numbers.0 written).0, ap stamp same, here.0, may.low)) ∙ same
  walk_selects (d ∷ ds) [] from chain numbers walked =
      let none : d ≡ 0 = sym walked.0 ∙ chain in
      let here = loaded_is d walked.1.number walked.1.next walked.1.walked in
      absurd (omega (arith, ap stamp none, here.0, walked.1.walked.written, unwritten))
  walk_selects (d ∷ ds) (x ∷ fs) from chain numbers walked =
      let same : x ≡ d = sym chain.0 ∙ walked.0 in
      let here = loaded_is d walked.1.number walked.1.next walked.1.walked in
      let written : 0 < stamp x = omega (arith, ap stamp same, here.0, walked.1.walked.written) in
      select-behind g.bundles.number may.least x fs (omega (arith, (numbers.0 written).0, ap stamp same, here.0, walked.1.above))
      ∙ walk_selects ds fs walked.1.next (subst (λ y. IsChain next y fs) (ap next same ∙ here.1) chain.2) numbers.1 walked.2

  head_by : (s : Side) (h : HeldNode) → IsNodeAt m h → (l : LoadedHead) → (side_of s h).head ≡ Some l → m (Node (Head s) h.node) ≡ l.entry
  head_by Left h right l is = (subst (λ (o : Option LoadedHead). IfSome o (HeadRight (m (Node (Head Left) h.node)) stamp)) is right.left.head).0
  head_by Right h right l is = (subst (λ (o : Option LoadedHead). IfSome o (HeadRight (m (Node (Head Right) h.node)) stamp)) is right.right.head).0

  head_is : m (Node (Head side) k) ≡ may.head.entry
  head_is =
      subst (λ n. m (Node (Head side) n) ≡ may.head.entry) may.named
      (head_by side may.node (every_item (IsNodeAt m) v.held.nodes may.place may.node may.locked seat.loaded.nodes) may.head may.loaded)

  selects : select g.bundles.number may.least es ≡ e
  selects =
      let bundle = right.rule.bundles k live side in
      walk_selects may.front es may.head.entry (subst (λ h. IsChain next h es) head_is bundle.chain) bundle.numbers may.walked

  selected : selects_at z m vs may.least e k side ≡ true
  selected =
      eq-eqb (select (entry_number m vs) may.least (bundle_now z m side k)) e
      (ap (select (entry_number m vs) may.least) (entries_are z m vs g right.rule k side live)
      ∙ selection_is z m g vs right.rule may.least k side es live (right.rule.bundles k live side).chain ∙ selects)

  either_side : (s : Side) → selects_at z m vs may.least e k s ≡ true → (selects_at z m vs may.least e k Left || selects_at z m vs may.least e k Right) ≡ true
  either_side Left is = left_of (selects_at z m vs may.least e k Left) (selects_at z m vs may.least e k Right) is
  either_side Right is = right_of (selects_at z m vs may.least e k Left) (selects_at z m vs may.least e k Right) is

  node_may : may_cut_at z m vs v may.least e may.node ≡ true
  node_may =
      both (is_number 0 may.node.mark && not (has may.node.node v.update.taken))
      (selects_at z m vs may.least e may.node.node Left || selects_at z m vs may.least e may.node.node Right)
      (both (is_number 0 may.node.mark) (not (has may.node.node v.update.taken)) (ap (is_number 0) may.unmarked)
      (subst (λ n. not (has n v.update.taken) ≡ true) (sym may.named) (not_of (has k v.update.taken) may.stays)))
      (subst (λ n. (selects_at z m vs may.least e n Left || selects_at z m vs may.least e n Right) ≡ true) (sym may.named) (either_side side selected))

  cut_may : may_cut_by z m vs v v.reading.least e ≡ true
  cut_may =
      subst (λ (o : Option ℕ). may_cut_by z m vs v o e ≡ true) (sym may.is)
      (both (ltb 0 e && all_passed z.passes v.number v.reading.looked) (list_any (may_cut_at z m vs v may.least e) v.held.nodes)
      (both (ltb 0 e) (all_passed z.passes v.number v.reading.looked) (below 0 e may.some)
      (subst (λ (y : Layout). all_passed y.passes v.number v.reading.looked ≡ true) (seat.layout alive) may.looked))
      (any_item (may_cut_at z m vs v may.least e) v.held.nodes may.place may.node may.locked node_may))

  entry_low : e ≤ z.entries
  entry_low =
      elim (select_in g.bundles.number may.least es) as (λ _. e ≤ z.entries) [
        | inl none ↦ absurd (omega (arith, none, selects, may.some))
        | inr here ↦ entry_there z vs g right.rule.slots k e live (in_entries g.bundles k e side (subst (λ d. 0 < count d es) selects here))
      ]

  pub cut_allowed : allowed (record { layout = z; words = words; views = vs }) (event_at z i Cut (Entry Next e) 0) ≡ true
  cut_allowed =
      allowed_by z words vs right i v is Cut (Entry Next e) 0 alive (both (ltb 0 e) (leb e z.entries) (below 0 e may.some) (at_most e z.entries entry_low)) refl
      (both (is_part Next Next && eqb 0 0) (may_cut_by z m vs v v.reading.least e) refl cut_may)

pub may_cut_law : CutNeedLaw
may_cut_law z v seat k side e may words vs right is = cut_allowed z words vs right seat v is k side e may
