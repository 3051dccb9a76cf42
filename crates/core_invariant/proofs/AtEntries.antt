-- What a seat that stands at an entry knows, and where an allowed cut is: no seat reads below the number of its entry.
use Rattle.std.proofs.Common.{◌≡◌, ℕ, suc, ◌<◌, ◌≤◌, ◌⊎◌, cond, List, [], ◌∷◌, ◌++◌, Bool, true, false, eqb, ltb, leb, ◌&&◌, ◌||◌, not, is_none, is_some, arith}
use Rattle.std.proofs.Common.{refl, ap, ◌∙◌, sym, subst, inl, inr, Option, Some, None, ◌+◌, length, get_or}
use Rattle.std.specs.Prelude.{IfSome, IsSomeAnd}
use Rattle.std.proofs.lemmas.Bool.{eqb-true, and_parts, cases_lt}
use Rattle.std.proofs.lemmas.Bool.Decides.{nat_tests}
use Rattle.std.specs.List.{All, list_any}
use Rattle.std.proofs.lemmas.List.{length-append}
use Rattle.index_words.specs.declared.layout.Layout.{Layout}
use Rattle.index_words.specs.declared.side.Side.{Side}
use Rattle.index_words.specs.declared.view.View.{View}
use Rattle.index_words.specs.declared.view.reading.Reading.{Reading}
use Rattle.index_words.specs.declared.view.reading.Place.{Place}
use Rattle.index_words.specs.declared.view.reading.Place.TheVariants.{Nowhere, Entry as AtEntry}
use Rattle.index_words.specs.declared.word.Field.TheVariants.{Head, Mark}
use Rattle.index_words.specs.declared.word.Part.TheVariants.{Child, Stamp as Number, Next}
use Rattle.index_words.specs.declared.word.Word.TheVariants.{Stamp, Node, Entry, Section, Announced}
use Rattle.index_words.specs.Words.{Memory}
use Rattle.index_words.specs.declared.side.Side.TheVariants.{Left, Right}
use Rattle.index_words.specs.declared.view.update.HeldNode.{HeldNode}
use Rattle.index_words.proofs.Seats.{Beside, at_item, all_moved}
use Rattle.key_map.specs.Lists.{count, has, Every, IsItem}
use Rattle.key_map.proofs.Counting.{has-count, count-append, count-has}
use Rattle.core_links.specs.Bundle.{IsChain, no_number, select, child_of_entry, IsFirstAtMost}
use Rattle.core_links.proofs.Chains.{select-here, select-behind, select_first}
use Rattle.core_grace.specs.Sections.{is_even}
use Rattle.core_grace.specs.Batches.{is_number, all_passed}
use Rattle.core_grace.specs.Holds.{held_slots}
use Rattle.core_grace.proofs.RuleMoves.{every_has, all_passed-has}
use Rattle.core_events.specs.Numbered.{shown, entry_number}
use Rattle.core_events.specs.LoadMoves.{locks, is_selected, is_above, is_above_at}
use Rattle.core_events.specs.SpelledNow.{bundle_now}
use Rattle.core_events.specs.Versions.{slots_of}
use Rattle.core_events.specs.CutNeeds.{selects_at, may_cut_at, may_cut_by, may_cut}
use Rattle.core_events.specs.CutMoves.{cut_off}
use Rattle.core_events.specs.LoadNeeds.{is_part}
use Rattle.core_events.proofs.Tests.{either_true, never, not_true, number_of_is}
use Rattle.core_invariant.specs.Meanings.{Meaning}
use Rattle.core_invariant.specs.BundleRule.{IsLive, IsBundle, IsNumbered, Falls, IsPending}
use Rattle.core_invariant.specs.Readers.{IsWatched, IsLocked, StandsAt, IsPassed, PlaceRight}
use Rattle.core_invariant.specs.SeatRule.{SeatRight}
use Rattle.core_invariant.specs.Rule.{Rule}
use Rattle.core_invariant.proofs.Frames.{every_map, every_at, count-middle, one_counted}
use Rattle.core_invariant.proofs.OneView.{seat_at, set_same}
use Rattle.core_invariant.proofs.Owned.{reachable_live, in_entries, entry_there}
use Rattle.core_invariant.proofs.Locked.{count-locks, locked_live, still_linked}
use Rattle.core_invariant.specs.Locks.{lock_count, IsNodeAt}
use Rattle.core_invariant.specs.PruneRule.{ReadsFrom, LookedRight}
use Rattle.core_invariant.proofs.Pairs.{least_low}
use Rattle.core_invariant.proofs.Idle.{nameless_idle, number_low, number_apart}
use Rattle.core_invariant.proofs.TreeReads.{entries_from_is}
use Rattle.core_invariant.proofs.TreeNow.{entries_are, bundle_few}
use Rattle.core_invariant.proofs.LinkLaw.{selection_is}

-- each entry before it is passed
pub select_past : (number : ℕ → ℕ) (t : ℕ) (front es : List ℕ) → Every (λ d. t < number d) front → select number t (front ++ es) ≡ select number t es
select_past number t [] es above = refl
select_past number t (d ∷ front) es above = select-behind number t d (front ++ es) above.0 ∙ select_past number t front es above.1

-- after an entry of a chain comes its next
pub chain_behind : (next : ℕ → ℕ) (head e : ℕ) (front back : List ℕ) → IsChain next head (front ++ e ∷ back) → IsChain next (next e) back
chain_behind next head e [] back chain = chain.2
chain_behind next head e (d ∷ front) back chain = chain_behind next (next d) e front back chain.2

-- the numbers before an entry are greater
pub front_above : (number : ℕ → ℕ) (top e : ℕ) (front back : List ℕ) → Falls number top (front ++ e ∷ back) → (number e < top) × Every (λ d. number e < number d) front
front_above number top e [] back falls = (falls.0, tt)
front_above number top e (d ∷ front) back falls =
    let rest = front_above number (number d) e front back falls.1 in
    (omega (arith, rest.0, falls.0), (rest.0, rest.1))

pub behind_none : (next : ℕ → ℕ) (e : ℕ) (back : List ℕ) → IsChain next (next e) back → next e ≡ 0 → back ≡ []
behind_none next e [] chain none = refl
behind_none next e (d ∷ back) chain none = absurd (omega (arith, chain.0, chain.1, none))

module _ (z : Layout) (m : Memory) (vs : List View) (g : Meaning) (rule : Rule z m vs g) (i : ℕ) (v : View) (at : IsItem vs i v) (node : ℕ) (side : Side) (e : ℕ) (found : Option ℕ) (here : v.reading.place ≡ AtEntry node side e found) (some : 0 < e) where
  abbrev pub stamp : ℕ → ℕ
  stamp d = m (Entry Number d)

  abbrev pub es : List ℕ
  es = g.bundles.bundle side node

  pub seat : SeatRight z m g v
  seat = seat_at z m vs g i v at rule

  pub right : PlaceRight z stamp g.bundles v (AtEntry node side e found)
  right = subst (λ (p : Place). PlaceRight z stamp g.bundles v p) here seat.place

  -- a seat that stands somewhere is inside a section
  pub inside : is_even v.section_word ≡ false
  inside = inside_by (is_even v.section_word) refl
    where
      inside_by : (c : Bool) → is_even v.section_word ≡ c → c ≡ false
      inside_by false is = refl
      inside_by true is = let none : v.reading.place ≡ Nowhere = ap (λ (r : Reading). r.place) (seat.section.outside is) in absurd (cc)

  pub live : IsLive z vs node
  live = reachable_live z vs g rule.slots i node v at right.reach

  pub bundle : IsBundle m vs g node side
  bundle = rule.bundles node live side

  pub stands : IsWatched v node → StandsAt stamp es e found v.reading.above (IsPassed g.bundles.number v node)
  stands watched = right.stands some watched

  pub member : IsWatched v node → 0 < count e es
  member watched = let stood = stands watched in subst (λ xs. 0 < count e xs) (sym stood.splits) (count-middle e stood.front stood.back)

  -- a seat with a section number sees the place
  pub reads_at : (t : ℕ) → v.reading.section ≡ Some t → IsWatched v node
  reads_at t section = inr (ap is_some section)

  pub numbered : IsWatched v node → 0 < stamp e → g.bundles.number e ≡ stamp e
  numbered watched above = (every_at (IsNumbered (m Stamp) stamp g.bundles.number) e es bundle.numbers (member watched) above).0

  -- at the selected entry
  pub selected_by : (o f : Option ℕ) (locked : Bool) → (locked ≡ false → IsLocked v node → ⊥) → is_selected o f locked ≡ true
      → v.reading.section ≡ o → found ≡ f → IfSome o (λ t. select g.bundles.number t es ≡ e)
  selected_by None f locked free is section same = tt
  selected_by (Some t) None locked free is section same = cc
  selected_by (Some t) (Some x) locked free is section same =
      let one = and_parts (ltb 0 x && leb x t) (not locked) is in
      let two = and_parts (ltb 0 x) (leb x t) one.0 in
      let stood = stands (reads_at t section) in
      let low : 0 < x = grind (arith, nat_tests) in
      let past : x ≤ t = grind (arith, nat_tests) in
      let is_stamp : stamp e ≡ x = subst (λ (y : Option ℕ). IfSome y (λ n. 0 < n → stamp e ≡ n)) same stood.found low in
      let number : g.bundles.number e ≡ x = numbered (reads_at t section) (omega (arith, is_stamp, low)) ∙ is_stamp in
      let above : Every (λ d. t < g.bundles.number d) stood.front = every_map (IsPassed g.bundles.number v node) (λ d. t < g.bundles.number d) stood.front
      (λ d passed. unlocked d (subst (λ (y : Option ℕ). IfSome y (λ n. IsLocked v node ⊎ (n < g.bundles.number d))) section passed) (not_locked locked one.1)) stood.passed in
      ap (select g.bundles.number t) stood.splits ∙ select_past g.bundles.number t stood.front (e ∷ stood.back) above ∙ select-here g.bundles.number t e stood.back (omega (arith, number, past))
    where
      not_locked : (b : Bool) → not b ≡ true → b ≡ false
      not_locked true p = cc
      not_locked false p = refl

      unlocked : (d : ℕ) → IsLocked v node ⊎ (t < g.bundles.number d) → locked ≡ false → t < g.bundles.number d
      unlocked d (inl held) no_lock = absurd (free no_lock held)
      unlocked d (inr above) no_lock = above

  pub unlocked_is : locks node v.held.nodes ≡ false → IsLocked v node → ⊥
  unlocked_is off held = apart (locks node v.held.nodes) off (count-locks node v.held.nodes held)
    where
      apart : (c : Bool) → c ≡ false → c ≡ true → ⊥
      apart true f t = cc
      apart false f t = cc

  pub child_is : child_of_entry (λ d. m (Entry Child d)) e ≡ m (Entry Child e)
  child_is = child_by (eqb e 0) refl
    where
      child_by : (c : Bool) → eqb e 0 ≡ c → cond c 0 (m (Entry Child e)) ≡ m (Entry Child e)
      child_by false is = refl
      child_by true is = absurd (omega (arith, some, eqb-true e 0 is))

  -- an entry that is known to be above the section number
  pub above_by : (o f : Option ℕ) (unnumbered : Bool) → (unnumbered ≡ true → g.bundles.number e ≡ no_number) → is_above_at o f unnumbered ≡ true
      → v.reading.section ≡ o → found ≡ f → IfSome o (λ t. t ≤ m Stamp) → IfSome o (λ t. t < g.bundles.number e)
  above_by None f unnumbered none is section same past = tt
  above_by (Some t) None unnumbered none is section same past = omega (arith, none is, past, low)
    where
      low : m Stamp < no_number
      low = omega (arith, rule.history.calls, rule.history.few)
  above_by (Some t) (Some x) unnumbered none is section same past =
      elim (either (ltb t x) unnumbered is) as (λ _. t < g.bundles.number e) [
        | inl over ↦
            let up : t < x = grind (arith, nat_tests) in
            let is_stamp : stamp e ≡ x = subst (λ (y : Option ℕ). IfSome y (λ n. 0 < n → stamp e ≡ n)) same (stands (reads_at t section)).found (omega (arith, up)) in
            omega (arith, numbered (reads_at t section) (omega (arith, is_stamp, up)), is_stamp, up)
        | inr yet ↦ omega (arith, none yet, past, rule.history.calls, rule.history.few)
      ]
    where
      either : (a b : Bool) → (a || b) ≡ true → (a ≡ true) ⊎ (b ≡ true)
      either true b p = inl refl
      either false b p = inr p

  pub unnumbered_is : (has e v.update.pending && is_none v.update.raised) ≡ true → g.bundles.number e ≡ no_number
  unnumbered_is is =
      let parts = and_parts (has e v.update.pending) (is_none v.update.raised) is in
      (every_at (IsPending z (λ s k. m (Node (Head s) k)) stamp g.bundles.number v) e v.update.pending seat.pending (has-count e v.update.pending parts.0)).1
      ∙ shown_none v.update.raised parts.1
    where
      shown_none : (o : Option ℕ) → is_none o ≡ true → shown o ≡ no_number
      shown_none None p = refl
      shown_none (Some n) p = cc

  pub above_is : is_above v e found ≡ true → IfSome v.reading.section (λ t. t < g.bundles.number e)
  above_is is = above_by v.reading.section found (has e v.update.pending && is_none v.update.raised) unnumbered_is is refl refl seat.version.past

  -- after the last entry, which is above the section number, none is selected
  pub last_by : (o : Option ℕ) → v.reading.section ≡ o → m (Entry Next e) ≡ 0 → IfSome o (λ t. t < g.bundles.number e) → IfSome o (λ t. select g.bundles.number t es ≡ 0)
  last_by None section none above = tt
  last_by (Some t) section none above =
      let stood = stands (reads_at t section) in
      let chain = subst (IsChain (λ d. m (Entry Next d)) (m (Node (Head side) node))) stood.splits bundle.chain in
      let last = behind_none (λ d. m (Entry Next d)) e stood.back (chain_behind (λ d. m (Entry Next d)) (m (Node (Head side) node)) e stood.front stood.back chain) none in
      let falls = front_above g.bundles.number (suc no_number) e stood.front stood.back (subst (Falls g.bundles.number (suc no_number)) stood.splits bundle.falls) in
      let over : Every (λ d. t < g.bundles.number d) stood.front = every_map (λ d. g.bundles.number e < g.bundles.number d) (λ d. t < g.bundles.number d) stood.front (λ d up. omega (arith, up, above)) falls.1 in
      ap (select g.bundles.number t) stood.splits ∙ select_past g.bundles.number t stood.front (e ∷ stood.back) over
      ∙ select-behind g.bundles.number t e stood.back above ∙ ap (select g.bundles.number t) last

-- Where an allowed cut is, and that no seat reads below the number of its entry.

-- the entry stands in a bundle of a linked node that the view has locked, its number is at most the stamp and each
-- section number, and what comes after it is what a cut takes
pub record IsCutAt (z : Layout) (m : Memory) (vs : List View) (g : Meaning) (v : View) (e : ℕ) : Type 0 where
  pub node : ℕ
  pub side : Side
  pub locked : 0 < lock_count node v
  pub linked : count node (0 ∷ slots_of g.tree) ≡ 1
  pub live : IsLive z vs node
  pub some : 0 < e
  pub front : List ℕ
  pub back : List ℕ
  pub splits : g.bundles.bundle side node ≡ front ++ e ∷ back
  pub off : cut_off z m e ≡ back
  pub past : g.bundles.number e ≤ m Stamp
  pub read : All (ReadsFrom (g.bundles.number e)) vs

-- a locked node that passes a test, besides what is known of each
record Passes (P : HeldNode → Type 0) (test : HeldNode → Bool) (hs : List HeldNode) : Type 0 where
  node : HeldNode
  known : P node
  passes : test node ≡ true
  locked : 0 < count node.node (held_slots hs)

first_passes : (P : HeldNode → Type 0) (test : HeldNode → Bool) (h : HeldNode) (hs : List HeldNode) (c : Bool) → test h ≡ c → P h → (c || list_any test hs) ≡ true
    → (list_any test hs ≡ true → Passes P test hs) → Passes P test (h ∷ hs)
first_passes P test h hs true is here some rest = record { node = h; known = here; passes = is; locked = one_counted h.node (count h.node (held_slots hs)) }
first_passes P test h hs false is here some rest =
    let more = rest some in record { node = more.node; known = more.known; passes = more.passes; locked = omega (arith, more.locked) }

one_passes : (P : HeldNode → Type 0) (test : HeldNode → Bool) (hs : List HeldNode) → Every P hs → list_any test hs ≡ true → Passes P test hs
one_passes P test [] all some = cc
one_passes P test (h ∷ hs) all some = first_passes P test h hs (test h) refl all.0 some (λ rest. one_passes P test hs all.1 rest)

own_reads : (n : ℕ) (section : Option ℕ) → IsSomeAnd section (λ t. n ≤ t) → IfSome section (λ t. n ≤ t)
own_reads n None own = absurd own
own_reads n (Some t) own = own

reads_lower : (n low : ℕ) (section : Option ℕ) → low ≤ n → IfSome section (λ t. n ≤ t) → IfSome section (λ t. low ≤ t)
reads_lower n low None less reads = tt
reads_lower n low (Some t) less reads = omega (arith, less, reads)

module _ (z : Layout) (m : Memory) (vs : List View) (g : Meaning) (rule : Rule z m vs g) (i : ℕ) (v : View) (at : IsItem vs i v) where
  module _ (n : ℕ) (least : v.reading.least ≡ Some n) (looked : all_passed z.passes v.number v.reading.looked ≡ true) where
    own_least : IsSomeAnd v.reading.section (λ t. n ≤ t)
    own_least = subst (λ (o : Option ℕ). IfSome o (λ x. IsSomeAnd v.reading.section (λ t. x ≤ t))) least (seat_at z m vs g i v at rule).announced.least

    least_past : n ≤ m Stamp
    least_past = least_low (m Stamp) n v.reading.section own_least (seat_at z m vs g i v at rule).version.past

    other_reads : (u : View) → Beside vs i u → LookedRight v u → (o : Option ℕ) → u.number ≡ o → ReadsFrom n u
    other_reads u beside looks None none =
        let idle = nameless_idle (λ x. m (Section x)) (λ x. m (Announced x)) u (seat_at z m vs g beside.place u beside.at rule).section none in
        subst (λ (r : Reading). IfSome r.section (λ t. n ≤ t)) (sym idle.reading) tt
    other_reads u beside looks (Some p) named =
        every_has (λ q. u.number ≡ Some q → ReadsFrom n u) p v.reading.looked
        (subst (λ (o : Option ℕ). IfSome o (λ x. Every (λ q. u.number ≡ Some q → ReadsFrom x u) v.reading.looked)) least looks)
        (all_passed-has z.passes p v.number v.reading.looked looked (number_low z vs beside.place u p rule.numbers beside.at named) (number_apart z vs i v u p rule.numbers at beside named))
        named

    -- of a pruner that has looked at every other pass: no seat has a section number below its least one
    all_read : All (ReadsFrom n) vs
    all_read =
        subst (All (ReadsFrom n)) (set_same vs i v at)
        (all_moved (LookedRight v) (ReadsFrom n) vs i v v at (at_item (λ u. All (LookedRight u) vs) vs i v at rule.pairs) (own_reads n v.reading.section own_least)
        (λ u beside looks. other_reads u beside looks u.number refl))

    -- at the entry that the least number selects in a bundle of a locked node
    module _ (k e : ℕ) (side : Side) (locked : 0 < lock_count k v) (some : 0 < e) where
      alive : IsLive z vs k
      alive = locked_live z m vs g rule i k v at locked

      abbrev entries : List ℕ
      entries = g.bundles.bundle side k

      abbrev next : ℕ → ℕ
      next d = m (Entry Next d)

      selects : selects_at z m vs n e k side ≡ true → select g.bundles.number n entries ≡ e
      selects selected =
          sym (selection_is z m g vs rule n k side entries alive (rule.bundles k alive side).chain)
          ∙ ap (select (entry_number m vs) n) (sym (entries_are z m vs g rule k side alive))
          ∙ eqb-true (select (entry_number m vs) n (bundle_now z m side k)) e selected

      behind : (front back : List ℕ) → entries ≡ front ++ e ∷ back → cut_off z m e ≡ back
      behind front back splits =
          let right = rule.bundles k alive side in
          let few = bundle_few (m Stamp) (suc no_number) (λ d. m (Entry Number d)) g.bundles.number entries right.numbers right.tail right.falls in
          entries_from_is z.entries next (m Stamp + 1) (next e) back
          (chain_behind next (m (Node (Head side) k)) e front back (subst (IsChain next (m (Node (Head side) k))) splits right.chain))
          (λ d within. entry_there z vs g rule.slots k d alive (in_entries g.bundles k d side
          (subst (λ xs. 0 < count d xs) (sym splits) (omega (arith, within, count-append d front (e ∷ back))))))
          (omega (arith, few, ap length splits, length-append front (e ∷ back)))

      at_link : count k v.update.taken ≡ 0 → m (Node Mark k) ≡ 0 → selects_at z m vs n e k side ≡ true → IsCutAt z m vs g v e
      at_link stays unmarked selected =
          elim (subst (IsFirstAtMost g.bundles.number n entries) (selects selected) (select_first g.bundles.number n entries)) as (λ _. IsCutAt z m vs g v e) [
            | inl none ↦ absurd (omega (arith, some, none.1))
            | inr first ↦ record {
              node = k;
              side = side;
              locked = locked;
              linked = still_linked z m vs g rule i k v at locked stays unmarked;
              live = alive;
              some = some;
              front = first.0;
              back = first.1;
              splits = first.2;
              off = behind first.0 first.1 first.2;
              past = omega (arith, first.4, least_past);
              read = λ j d within. reads_lower n (g.bundles.number e) (get_or vs j d).reading.section first.4 (all_read j d within);
            }
          ]

    untaken : (k : ℕ) → has k v.update.taken ≡ false → count k v.update.taken ≡ 0
    untaken k off = by (cases_lt 0 (count k v.update.taken))
      where
        clash : (c : Bool) → c ≡ false → c ≡ true → ⊥
        clash true f t = cc
        clash false f t = cc

        by : (0 < count k v.update.taken) ⊎ (count k v.update.taken ≤ 0) → count k v.update.taken ≡ 0
        by (inl more) = absurd (clash (has k v.update.taken) off (count-has k v.update.taken more))
        by (inr none) = omega (arith, none)

    at_node : (e : ℕ) (h : HeldNode) → 0 < e → 0 < lock_count h.node v → IsNodeAt m h → may_cut_at z m vs v n e h ≡ true → IsCutAt z m vs g v e
    at_node e h some locked known met =
        let sides = and_parts (is_number 0 h.mark && not (has h.node v.update.taken)) (selects_at z m vs n e h.node Left || selects_at z m vs n e h.node Right) met in
        let found = and_parts (is_number 0 h.mark) (not (has h.node v.update.taken)) sides.0 in
        let stays = untaken h.node (not_true (has h.node v.update.taken) found.1) in
        let unmarked : m (Node Mark h.node) ≡ 0 = subst (λ (f : Option ℕ). IfSome f (λ x. m (Node Mark h.node) ≡ x)) (number_of_is 0 h.mark found.0) known.mark in
        elim (either_true (selects_at z m vs n e h.node Left) (selects_at z m vs n e h.node Right) sides.1) as (λ _. IsCutAt z m vs g v e) [
          | inl left ↦ at_link h.node e Left locked some stays unmarked left
          | inr right ↦ at_link h.node e Right locked some stays unmarked right
        ]

  by_least : (e : ℕ) (o : Option ℕ) → v.reading.least ≡ o → may_cut_by z m vs v o e ≡ true → IsCutAt z m vs g v e
  by_least e None least met = absurd (never met)
  by_least e (Some n) least met =
      let nodes = and_parts (ltb 0 e && all_passed z.passes v.number v.reading.looked) (list_any (may_cut_at z m vs v n e) v.held.nodes) met in
      let first = and_parts (ltb 0 e) (all_passed z.passes v.number v.reading.looked) nodes.0 in
      let one = one_passes (IsNodeAt m) (may_cut_at z m vs v n e) v.held.nodes (seat_at z m vs g i v at rule).loaded.nodes nodes.1 in
      at_node n least first.1 e one.node (above e first.0) one.locked one.known one.passes
    where
      above : (x : ℕ) → ltb 0 x ≡ true → 0 < x
      above x is = grind (arith, nat_tests)

  -- an allowed cut stores 0, at such an entry
  pub cut_at : (e value : ℕ) → may_cut z m vs v (Entry Next e) value ≡ true → (value ≡ 0) × IsCutAt z m vs g v e
  cut_at e value met =
      let parts = and_parts (is_part Next Next && eqb value 0) (may_cut_by z m vs v v.reading.least e) met in
      (eqb-true value 0 (and_parts (is_part Next Next) (eqb value 0) parts.0).1, by_least e v.reading.least refl parts.1)
