-- Prepare: the bundles, and what each number selects, once a free entry is the head of one of them.
use Rattle.std.proofs.Common.{◌≡◌, ℕ, suc, ◌+◌, ◌<◌, ◌≤◌, cond, List, ◌∷◌, Bool, true, false, eqb, ◌&&◌, set, arith, refl, ap, ◌∙◌, sym, subst, inl, inr}
use Rattle.std.specs.List.{All, sum_by}
use Rattle.std.proofs.lemmas.Bool.{eq-eqb, ne_eqb, eqb-true, and_parts, cases_lt}
use Rattle.std.proofs.lemmas.List.{get_or_default}
use Rattle.index_words.specs.declared.layout.Layout.{Layout}
use Rattle.index_words.specs.declared.side.Side.{Side}
use Rattle.index_words.specs.declared.view.View.{View}
use Rattle.index_words.specs.declared.word.Field.TheVariants.{Head}
use Rattle.index_words.specs.declared.word.Part.TheVariants.{Stamp as Number, Next}
use Rattle.index_words.specs.declared.word.Word.TheVariants.{Stamp, Node, Entry}
use Rattle.index_words.specs.Words.{Memory, written, same_side}
use Rattle.key_map.specs.Lists.{count, Every, IsItem}
use Rattle.index_words.proofs.Seats.{sum_moved, sum_kept, one_term, at_item, all_moved}
use Rattle.key_map.proofs.Counting.{count-append, count-push}
use Rattle.core_grace.specs.Holds.{held_slots, listed, work_nodes}
use Rattle.core_links.specs.Bundle.{IsChain, no_number, select}
use Rattle.core_links.proofs.Chains.{select-behind}
use Rattle.core_invariant.specs.Meanings.{Meaning}
use Rattle.core_invariant.specs.BundleRule.{IsLive, IsPendingAt, IsBundle, BundleRight, IsNumbered, Falls, IsHeadOf, IsPending, pending_count}
use Rattle.core_invariant.specs.SeatRule.{SeatRight}
use Rattle.core_invariant.specs.MeaningMoves.{in_front, unnumbered, prepared_meaning}
use Rattle.core_events.specs.UpdateMoves.{prepared}
use Rattle.core_invariant.specs.Rule.{Rule}
use Rattle.core_invariant.proofs.Frames.{every_map, every_listed, every_at, Term, term_of, live_moved}
use Rattle.core_invariant.proofs.BundleFrames.{falls_frame, falls_below, all_written, select_frame}
use Rattle.core_invariant.proofs.OneView.{seat_at}
use Rattle.core_invariant.proofs.Owned.{in_entries, held_live, not_in_bundle, free_entry_some, head_apart}
use Rattle.core_invariant.proofs.Locked.{work_holds, locked_live}
use Rattle.core_invariant.proofs.Fronts.{numbered_other, numbered_new}
use Rattle.core_invariant.proofs.Sides.{same_side-true}
use Rattle.core_invariant.proofs.Needed.{Ready}
use Rattle.core_kept.proofs.Prepare.{same_locks, same_work}

module _ (z : Layout) (m : Memory) (vs : List View) (g : Meaning) (rule : Rule z m vs g) (i k e : ℕ) (side : Side) (v : View) (at : IsItem vs i v)
    (ready : Ready m v side k e) where
  abbrev stamp : ℕ → ℕ
  stamp d = m (Entry Number d)

  abbrev head : Side → ℕ → ℕ
  head s j = m (Node (Head s) j)

  abbrev m' : Memory
  m' = written m (Node (Head side) k) e

  abbrev head' : Side → ℕ → ℕ
  head' s j = m' (Node (Head s) j)

  abbrev g' : Meaning
  g' = prepared_meaning g side k e

  abbrev number' : ℕ → ℕ
  number' = unnumbered g.bundles.number e

  abbrev v' : View
  v' = prepared v side k e

  abbrev ws : List View
  ws = set vs i v'

  own : SeatRight z m g v
  own = seat_at z m vs g i v at rule

  locks_same : held_slots v'.held.nodes ≡ held_slots v.held.nodes
  locks_same = same_locks z m vs g rule i k e side v at ready

  work_same : work_nodes v' ≡ work_nodes v
  work_same = same_work z m vs g rule i k e side v at ready

  low : m Stamp < no_number
  low = omega (arith, rule.history.calls, rule.history.few)

  some : 0 < e
  some = free_entry_some z vs g rule.slots i e v at ready.free

  live_k : IsLive z vs k
  live_k = locked_live z m vs g rule i k v at ready.locked

  -- the entry was in no bundle of a live node
  member_apart : (j d : ℕ) (s : Side) → IsLive z vs j → 0 < count d (g.bundles.bundle s j) → d ≡ e → ⊥
  member_apart j d s live here same =
      not_in_bundle z vs g rule.slots i j e v at ready.free live (in_entries g.bundles j e s (subst (λ x. 0 < count x (g.bundles.bundle s j)) same here))

  numbers_same : (j d : ℕ) (s : Side) → IsLive z vs j → 0 < count d (g.bundles.bundle s j) → number' d ≡ g.bundles.number d
  numbers_same j d s live here = numbered_other g.bundles.number e d (member_apart j d s live here)

  -- nobody had it pending
  pub not_pending : sum_by (pending_count e) vs ≡ 0
  not_pending =
      elim (cases_lt 0 (sum_by (pending_count e) vs)) as (λ _. sum_by (pending_count e) vs ≡ 0) [
        | inr none ↦ omega (arith, none)
        | inl term ↦
            let t : Term (pending_count e) vs = term_of (pending_count e) vs term in
            let u : View = t.item in
            let is = every_at (IsPending z head stamp g.bundles.number u) e u.update.pending (seat_at z m vs g t.place u t.at rule).pending t.some in
            let live = held_live z vs g rule.slots t.place is.2.node u t.at (work_holds u is.2.node is.2.of) is.2.there in
            absurd (head_apart z m vs g rule i e is.2.node v is.2.side at ready.free live is.2.is)
      ]

  pub pending_same : (d : ℕ) → (d ≡ e → ⊥) → pending_count d v' ≡ pending_count d v
  pending_same d apart = omega (arith, count-push d v.update.pending e, no_more (eqb e d) (ne_eqb e d (λ same. apart (sym same))))
    where
      no_more : (c : Bool) → c ≡ false → 0 + cond c 1 0 ≡ 0
      no_more true e = cc
      no_more false e = refl

  pending_new : pending_count e v' ≡ pending_count e v + 1
  pending_new = omega (arith, count-push e v.update.pending e, one_more (eqb e e) (eq-eqb e e refl))
    where
      one_more : (c : Bool) → c ≡ true → 0 + cond c 1 0 ≡ 1
      one_more true e = refl
      one_more false e = cc

  pub new_pending : IsPendingAt ws k e
  new_pending =
      let P : View → Type 0 = λ u. pending_count e u ≡ 0 in
      let Q : View → Type 0 = λ u. 0 < pending_count e u → 0 < count k (work_nodes u) in
      let none : All P vs
      = λ j d within. omega (arith, not_pending, one_term (pending_count e) vs j _ (record { within = within; is = λ c. get_or_default vs j c d within })) in (
        omega (arith, sum_moved (pending_count e) vs i v v' at, pending_new, not_pending, one_term (pending_count e) vs i v at),
        all_moved P Q vs i v v' at none
            (λ _. subst (λ xs. 0 < count k xs) (sym work_same) (omega (arith, ready.locked, count-append k (held_slots v.held.nodes) (listed v.update.added))))
            (λ u beside of more. absurd (omega (arith, of, more))),
      )

  old_pending : (j d : ℕ) → (d ≡ e → ⊥) → IsPendingAt vs j d → IsPendingAt ws j d
  old_pending j d apart is =
      let P : View → Type 0 = λ u. 0 < pending_count d u → 0 < count j (work_nodes u) in
      let same = pending_same d apart in (
        sum_kept (pending_count d) vs i v v' at same ∙ is.0,
        all_moved P P vs i v v' at is.1 (λ more. subst (λ xs. 0 < count j xs) (sym work_same) (at_item P vs i v at is.1 (omega (arith, same, more))))
            (λ u beside of. of),
      )

  -- a bundle of another link
  other_bundle : (j : ℕ) → IsLive z vs j → (s : Side)
      → BundleRight (m Stamp) (λ d. m (Entry Next d)) stamp number' (IsPendingAt ws j) (head s j) (g.bundles.bundle s j)
  other_bundle j live s =
      let right = rule.bundles j live s in
      record {
        chain = right.chain;
        numbers = every_listed (IsNumbered (m Stamp) stamp g.bundles.number) (IsNumbered (m Stamp) stamp number') (g.bundles.bundle s j)
            (λ d here is above. (numbers_same j d s live here ∙ (is above).0, (is above).1)) right.numbers;
        tail = right.tail;
        falls = falls_frame g.bundles.number number' (suc no_number) (g.bundles.bundle s j) (λ d here. numbers_same j d s live here) right.falls;
        owned = every_listed (λ d. stamp d ≡ 0 → IsPendingAt vs j d) (λ d. stamp d ≡ 0 → IsPendingAt ws j d) (g.bundles.bundle s j)
            (λ d here is none. old_pending j d (member_apart j d s live here) (is none)) right.owned;
      }

  old_written : Every (λ d. 0 < stamp d) (g.bundles.bundle side k)
  old_written =
      let right = rule.bundles k live_k side in
      all_written (λ d. m (Entry Next d)) stamp (head side k) (g.bundles.bundle side k) right.chain right.tail ready.old

  -- the bundle with the new head
  new_bundle : BundleRight (m Stamp) (λ d. m (Entry Next d)) stamp number' (IsPendingAt ws k) e (e ∷ g.bundles.bundle side k)
  new_bundle =
      let right = rule.bundles k live_k side in
      let other = other_bundle k live_k side in
      let es : List ℕ = g.bundles.bundle side k in
      record {
        chain = (refl, some, subst (λ h. IsChain (λ d. m (Entry Next d)) h es) (sym ready.next) right.chain);
        numbers = ((λ above. absurd (omega (arith, above, ready.unnumbered))), other.numbers);
        tail = old_written;
        falls = (
          omega (arith, numbered_new g.bundles.number e),
          subst (λ n. Falls number' n es) (sym (numbered_new g.bundles.number e))
              (falls_below (m Stamp) (suc no_number) no_number stamp number' es low other.numbers old_written other.falls),
        );
        owned = (
          (λ none. new_pending),
          every_map (λ d. 0 < stamp d) (λ d. stamp d ≡ 0 → IsPendingAt ws k d) es
              (λ d above none. absurd (omega (arith, above, none))) old_written,
        );
      }

  bundle_by : (j : ℕ) → IsLive z vs j → (s : Side) (c : Bool) → (same_side s side && eqb j k) ≡ c
      → BundleRight (m Stamp) (λ d. m (Entry Next d)) stamp number' (IsPendingAt ws j) (cond c e (head s j))
      (cond c (e ∷ g.bundles.bundle s j) (g.bundles.bundle s j))
  bundle_by j live s false is = other_bundle j live s
  bundle_by j live s true is =
      let parts = and_parts (same_side s side) (eqb j k) is in
      subst (λ t. BundleRight (m Stamp) (λ d. m (Entry Next d)) stamp number' (IsPendingAt ws j) e (e ∷ g.bundles.bundle t j))
      (sym (same_side-true s side parts.0))
      (subst (λ n. BundleRight (m Stamp) (λ d. m (Entry Next d)) stamp number' (IsPendingAt ws n) e (e ∷ g.bundles.bundle side n))
      (sym (eqb-true j k parts.1)) new_bundle)

  live_before : (j : ℕ) → IsLive z ws j → IsLive z vs j
  live_before j live = live_moved z vs i j v v' at (omega arith) live

  pub bundle_now : (j : ℕ) → IsLive z ws j → (s : Side) → IsBundle m' ws g' j s
  bundle_now j live s = bundle_by j (live_before j live) s (same_side s side && eqb j k) refl

  -- what a number up to the stamp selects
  select_same : (t j : ℕ) (s : Side) → IsLive z vs j → select number' t (g.bundles.bundle s j) ≡ select g.bundles.number t (g.bundles.bundle s j)
  select_same t j s live =
      sym (select_frame t g.bundles.number number' (g.bundles.bundle s j) (λ d here. inl (sym (numbers_same j d s live here))))

  select_by : (t j : ℕ) (s : Side) → t ≤ m Stamp → IsLive z vs j → (c : Bool)
      → select number' t (cond c (e ∷ g.bundles.bundle s j) (g.bundles.bundle s j)) ≡ select g.bundles.number t (g.bundles.bundle s j)
  select_by t j s past live false = select_same t j s live
  select_by t j s past live true =
      select-behind number' t e (g.bundles.bundle s j) (omega (arith, past, low, numbered_new g.bundles.number e)) ∙ select_same t j s live

  pub selects : (t j : ℕ) (s : Side) → t ≤ m Stamp → IsLive z vs j
      → select number' t (in_front g.bundles.bundle side k e s j) ≡ select g.bundles.number t (g.bundles.bundle s j)
  selects t j s past live = select_by t j s past live (same_side s side && eqb j k)

  -- a number is still above what it was above
  pub above_still : (t d : ℕ) → t ≤ m Stamp → t < g.bundles.number d → t < number' d
  above_still t d past above = above_by (eqb d e)
    where
      above_by : (c : Bool) → t < cond c no_number (g.bundles.number d)
      above_by true = omega (arith, past, low)
      above_by false = above

  -- the head of a link that has an entry pending is not the prepared link's
  head_by : (s : Side) (j d : ℕ) (c : Bool) → (same_side s side && eqb j k) ≡ c → stamp d ≡ 0 → 0 < d → head s j ≡ d → cond c e (head s j) ≡ d
  head_by s j d false is none above at_head = at_head
  head_by s j d true is none above at_head =
      let parts = and_parts (same_side s side) (eqb j k) is in
      let here : head side k ≡ d = ap (λ t. head t k) (sym (same_side-true s side parts.0)) ∙ ap (λ n. head s n) (sym (eqb-true j k parts.1)) ∙ at_head in
      elim ready.old as (λ _. e ≡ d) [
        | inl empty ↦ absurd (omega (arith, here, empty, above))
        | inr written ↦ absurd (omega (arith, none, subst (λ x. 0 < stamp x) here written))
      ]

  pub pending_head : (nodes nodes' : List ℕ) (d : ℕ) → nodes' ≡ nodes → stamp d ≡ 0 → IsHeadOf z head nodes d → IsHeadOf z head' nodes' d
  pending_head nodes nodes' d same none is = record {
    node = is.node;
    side = is.side;
    there = is.there;
    is = head_by is.side is.node d (same_side is.side side && eqb is.node k) refl none is.some is.is;
    some = is.some;
    of = subst (λ xs. 0 < count is.node xs) (sym same) is.of;
  }
