-- What is met in a table, and this seat did not do, another pass did.
use Rattle.std.proofs.Common.{◌≡◌, ◌≢◌, ℕ, zero, suc, ◌+◌, ◌<◌, ◌≤◌, ◌⊎◌, cond, List, [], true, false, eqb, ltb, arith, refl, ap, ◌∙◌, sym, subst, inl, inr, Option, Some, None}
use Rattle.std.proofs.lemmas.Bool.{cases_lt}
use Rattle.std.proofs.lemmas.Bool.Decides.{nat_tests, eqb_tells}
use Rattle.index_words.specs.declared.layout.Layout.{Layout}
use Rattle.index_words.specs.declared.side.Side.{Side}
use Rattle.index_words.specs.declared.view.View.{View}
use Rattle.index_words.specs.declared.view.reading.Link.{Link}
use Rattle.index_words.specs.declared.view.reading.LinkSource.TheVariants.{Bundle}
use Rattle.index_words.specs.declared.view.update.Updating.{Updating}
use Rattle.index_words.specs.declared.word.Field.TheVariants.{Lock, Mark, Head}
use Rattle.index_words.specs.declared.word.Part.TheVariants.{Child, Stamp as Number}
use Rattle.index_words.specs.declared.word.Word.TheVariants.{Stamp, Node, Entry}
use Rattle.index_words.specs.Words.{Memory}
use Rattle.index_words.proofs.Seats.{one_term, two_terms, at_item}
use Rattle.key_map.specs.Lists.{count, IsItem}
use Rattle.key_map.proofs.Counting.{count-has}
use Rattle.core_grace.specs.Holds.{ReadsNode}
use Rattle.core_grace.specs.Sections.{is_even}
use Rattle.core_grace.specs.Slots.{own, own_free, nodes_of}
use Rattle.core_links.specs.Bundle.{select}
use Rattle.core_events.specs.Tables.{Table, held_by}
use Rattle.core_events.specs.Searches.{search_nodes}
use Rattle.core_events.specs.Versions.{slots_of}
use Rattle.core_invariant.specs.BundleRule.{IsPendingAt, IsLive, pending_count}
use Rattle.core_invariant.specs.Histories.{update_at, made_by, own_place, ended_place, place_count}
use Rattle.core_invariant.specs.Locks.{NamesHolder, lock_count}
use Rattle.core_invariant.specs.Meanings.{Meaning}
use Rattle.core_invariant.specs.Numbers.{number_count}
use Rattle.core_invariant.specs.OwnPlaces.{HasNumber}
use Rattle.core_invariant.specs.Reached.{plain_graph, HoldsPlain, ReachesRight}
use Rattle.core_invariant.specs.Readers.{IsReachable, LinkRight, SourceRight, EntryRight}
use Rattle.core_invariant.specs.Rule.{Rule, IsRight}
use Rattle.core_invariant.specs.SeatRule.{SeatRight}
use Rattle.core_invariant.specs.WaitingSlots.{IsNameless, WaitsRight}
use Rattle.core_invariant.proofs.Frames.{Term, term_of, every_at, same_item}
use Rattle.core_invariant.proofs.Idle.{nameless_idle, own_count, cond-le, number_low}
use Rattle.core_invariant.proofs.Locked.{searched}
use Rattle.core_invariant.proofs.OneView.{seat_at}
use Rattle.core_invariant.proofs.Owned.{slot_is, reachable_live, held_live}
use Rattle.core_laws.specs.Alone.{AnotherPass, IsStoredBy}
use Rattle.core_laws.proofs.AloneFacts.{counted, number_there, own_placed, placed_mine, given_placed, some_number, update_there, own_made, chain_begins, chain_ends}
use Rattle.core_laws.proofs.CountFacts.{number_some}
use Rattle.core_laws.proofs.Remembered.{every_item}

module _ (t : Table) (right : IsRight t) (i : ℕ) (v : View) (at : IsItem t.views i v) where
  abbrev z : Layout
  z = t.layout

  abbrev m : Memory
  m = held_by t

  abbrev vs : List View
  vs = t.views

  abbrev g : Meaning
  g = right.meaning

  rule : Rule z m vs g
  rule = right.rule

  pub seat : SeatRight z m g v
  seat = seat_at z m vs g i v at rule

  -- a seat that is at work has a number
  named_by : (v.number ≡ None → ⊥) → (n : ℕ) × (v.number ≡ Some n)
  named_by some = number_some v.number some

  abbrev Given : ℕ → Type 0
  Given n = 0 < count n v.history.ended

  -- a number that is not the seat's own: another view has it, or it was given up to this one
  number_apart : (own j n : ℕ) (u : View) → v.number ≡ Some own → IsItem vs j u → HasNumber u n → (j ≢ i) ⊎ Given n → n ≢ own
  number_apart own j n u named of has (inl other) same =
      let mine = counted own v (inl named) in
      let theirs = counted n u has in
      omega (
        arith,
        subst (λ k. 0 < number_count k u) same theirs,
        mine,
        two_terms (number_count own) vs i v u at (record { place = j; at = of; other = other }),
        rule.numbers own,
        cond-le (ltb own z.passes),
      )
  number_apart own j n u named of has (inr given) same =
      omega (arith, subst (λ k. Given k) same given, own_count own v.number named, one_term (number_count own) vs i v at, rule.numbers own, cond-le (ltb own z.passes))

  another : (does : ℕ → View → Type 0) (own j n : ℕ) (u : View) → v.number ≡ Some own → IsItem vs j u → HasNumber u n → (j ≢ i) ⊎ Given n → does n u → AnotherPass t v does
  another does own j n u named of has other so = record {
    own = own;
    named = named;
    own_there = number_low z vs i v own rule.numbers at named;
    pass = n;
    there = number_there n z.passes (omega (arith, counted n u has, one_term (number_count n) vs j u of, rule.numbers n));
    apart = number_apart own j n u named of has other;
    place = j;
    view = u;
    at = of;
    has = has;
    done = so;
  }

  -- another view is meant where a count differs
  apart_by : (f : View → ℕ) (j : ℕ) (u : View) → IsItem vs j u → f v ≡ 0 → 0 < f u → j ≢ i
  apart_by f j u of none some same = omega (arith, none, some, ap f (same_item vs i j v u at of same))

  busy_named : (j : ℕ) (u : View) → IsItem vs j u → (u.update.pending ≡ [] → ⊥) → u.number ≡ None → ⊥
  busy_named j u of busy none =
      let idle = nameless_idle _ _ u (seat_at z m vs g j u of rule).section none in
      busy (ap (λ (x : Updating). x.pending) idle.update)

  outside_if : v.number ≡ None → is_even v.section_word ≡ true → is_even v.section_word ≡ true
  outside_if none even = even

  -- a lock that is held
  pub lock_held : (own k : ℕ) → v.number ≡ Some own → lock_count k v ≡ 0 → 0 < m (Node Lock k) → (does : ℕ → View → Type 0) → ((n : ℕ) (u : View) → 0 < lock_count k u → does n u) → AnotherPass t v does
  lock_held own k named free held does gives =
      let term : Term (lock_count k) vs = term_of (lock_count k) vs (omega (arith, rule.locks k, held_word (m (Node Lock k)) held)) in
      let u : View = term.item in
      let holder = holder_of (m (Node Lock k)) u.number ((seat_at z m vs g term.place u term.at rule).locks k term.some).1 in
      another does own term.place holder.0 u named term.at (inl holder.1) (inl (apart_by (lock_count k) term.place u term.at free term.some)) (gives holder.0 u term.some)
    where
      held_word : (x : ℕ) → 0 < x → 0 < 0 + cond (eqb x 0) 0 1
      held_word x low = grind (arith, nat_tests)

      holder_of : (word : ℕ) (o : Option ℕ) → NamesHolder word o → (n : ℕ) × (o ≡ Some n)
      holder_of word None names = absurd names
      holder_of word (Some n) names = (n, refl)

  -- an entry of a live node's bundle that has no number, and is not the seat's
  pub pending_elsewhere : (own k e : ℕ) (side : Side) → v.number ≡ Some own → IsLive z vs k → 0 < count e (g.bundles.bundle side k) → m (Entry Number e) ≡ 0 → count e v.update.pending ≡ 0
      → (does : ℕ → View → Type 0) → ((n : ℕ) (u : View) → 0 < count e u.update.pending → does n u) → AnotherPass t v does
  pending_elsewhere own k e side named live here none free does gives =
      let pending : IsPendingAt vs k e = every_at (λ d. m (Entry Number d) ≡ 0 → IsPendingAt vs k d) e (g.bundles.bundle side k) (rule.bundles k live side).owned here none in
      let term : Term (pending_count e) vs = term_of (pending_count e) vs (omega (arith, pending.0)) in
      let u : View = term.item in
      let holder = number_some u.number (busy_named term.place u term.at (λ empty. omega (arith, term.some, ap (count e) empty))) in
      another does own term.place holder.0 u named term.at (inl holder.1) (inl (apart_by (pending_count e) term.place u term.at free term.some)) (gives holder.0 u term.some)

  -- a written number of an entry that is no place of the seat's own updates
  written_elsewhere : (mine x : ℕ) → v.number ≡ Some mine → 0 < x → x ≤ m Stamp → count x v.history.mine ≡ 0
      → (does : ℕ → View → Type 0) → ((n : ℕ) (u : View) → 0 < place_count n x u → does n u) → AnotherPass t v does
  written_elsewhere mine x named low high none does gives =
      let made = update_there g.updates x low (omega (arith, high, rule.history.long)) in
      let n : ℕ = made.0.client in
      let one : made_by n (update_at g.updates x) ≡ 1 = ap (made_by n) made.1 ∙ own_made made.0 in
      let term : Term (place_count n x) vs = term_of (place_count n x) vs (omega (arith, rule.history.places n x, one)) in
      let u : View = term.item in
      another does mine term.place n u named term.at (has_by n term.place u term.at term.some) (apart_if n term.place u term.at term.some) (gives n u term.some)
    where
      given_of : (n j : ℕ) (u : View) → IsItem vs j u → 0 < ended_place n x u.history.ended_places → 0 < count n u.history.ended
      given_of n j u of some = given_placed n x u.history.ended u.history.ended_places (seat_at z m vs g j u of rule).seen.given some

      has_by : (n j : ℕ) (u : View) → IsItem vs j u → 0 < place_count n x u → HasNumber u n
      has_by n j u of some =
          elim (cases_lt 0 (own_place n x u.number u.history.mine)) as (λ _. HasNumber u n) [
            | inl here ↦ inl (own_placed n x u.number u.history.mine here)
            | inr other ↦ inr (given_of n j u of (omega (arith, some, other)))
          ]

      apart_if : (n j : ℕ) (u : View) → IsItem vs j u → 0 < place_count n x u → (j ≢ i) ⊎ Given n
      apart_if n j u of some =
          elim (eqb_tells j i) as (λ _. (j ≢ i) ⊎ Given n) [
            | inr other ↦ inl other.1
            | inl same ↦
                let one : v ≡ u = same_item vs i j v u at of same.1 in
                inr (given_of n i v at (omega (arith, subst (λ (y : View). 0 < place_count n x y) (sym one) some, placed_mine n x v.number v.history.mine none)))
          ]

  -- a head that is another than the one that the seat remembers, and that the seat did not store
  module _ (own place entry : ℕ) (l : Link) (named : v.number ≡ Some own) (is : IsItem v.reading.links place l) (source : l.source ≡ Bundle entry) where
    abbrev head : ℕ
    head = m (Node (Head l.side) l.node)

    abbrev es : List ℕ
    es = g.bundles.bundle l.side l.node

    link_right : SourceRight (IsReachable z v l.node) (λ e. m (Entry Child e)) g.bundles.number es v.reading.section l.child (Bundle entry)
    link_right =
        subst (SourceRight (IsReachable z v l.node) (λ e. m (Entry Child e)) g.bundles.number es v.reading.section l.child) source
        (every_item (LinkRight z (λ e. m (Entry Child e)) g.bundles v) v.reading.links place l is seat.links)

    pub live : IsLive z vs l.node
    live = reachable_live z vs g rule.slots i l.node v at link_right.reach

    -- in an empty bundle no entry is remembered
    null_remembered : (o : Option ℕ) → EntryRight (λ e. m (Entry Child e)) g.bundles.number es o l.child entry → es ≡ [] → entry ≡ 0
    null_remembered None selected empty = selected.0
    null_remembered (Some n) selected empty = sym selected.0 ∙ ap (select g.bundles.number n) empty

    some_head : entry ≢ head → 0 < head
    some_head apart =
        elim (cases_lt 0 head) as (λ _. 0 < head) [
          | inl some ↦ some
          | inr low ↦
              let none : head ≡ 0 = omega (arith, low) in
              absurd (apart (null_remembered v.reading.section link_right.selected (chain_ends _ head es (rule.bundles l.node live l.side).chain none) ∙ sym none))
        ]

    pub head_elsewhere : entry ≢ head → count head v.update.pending ≡ 0 → count (m (Entry Number head)) v.history.mine ≡ 0
        → (does : ℕ → View → Type 0) → ((n : ℕ) (u : View) → IsStoredBy t n u head → does n u) → AnotherPass t v does
    head_elsewhere apart free none does gives =
        let bundle = rule.bundles l.node live l.side in
        let here : 0 < count head es = chain_begins _ head es bundle.chain (some_head apart) in
        elim (cases_lt 0 (m (Entry Number head))) as (λ _. AnotherPass t v does) [
          | inl written ↦
              let number = every_at _ head es bundle.numbers here written in
              written_elsewhere own (m (Entry Number head)) named written number.1 none does (λ n u some. gives n u (inr some))
          | inr unwritten ↦ pending_elsewhere own l.node head l.side named live here (omega (arith, unwritten)) free does (λ n u some. gives n u (inl some))
        ]

  -- a marked node that is live, and neither taken out by the seat nor in its batch
  mark_elsewhere : (mine k : ℕ) → v.number ≡ Some mine → IsLive z vs k → 0 < m (Node Mark k) → count k v.retired.nodes ≡ 0 → count k v.batch.nodes ≡ 0
      → (does : ℕ → View → Type 0) → ((n : ℕ) (u : View) → 0 < count k u.retired.nodes + count k u.batch.nodes → does n u) → AnotherPass t v does
  mark_elsewhere mine k named live marked none apart does gives =
      let term : Term (own nodes_of k) vs = term_of (own nodes_of k) vs (omega (arith, rule.slots.nodes.one k, slot_is z.nodes k (no_root k marked) live.0, no_tree)) in
      let u : View = term.item in
      let waits : 0 < count k u.retired.nodes + count k u.batch.nodes = omega (arith, term.some, live.1, one_term (own_free nodes_of k) vs term.place u term.at) in
      let holder = some_number u.number u.history.ended (λ nameless. nobody u (at_item WaitsRight vs term.place u term.at right.waits) nameless waits) in
      another does mine term.place holder.0 u named term.at holder.1 (inl (not_own term.place u term.at waits)) (gives holder.0 u waits)
    where
      no_root : (j : ℕ) → 0 < m (Node Mark j) → 0 < j
      no_root zero marked = absurd (omega (arith, marked, rule.marks.root))
      no_root (suc j) marked = omega arith

      no_tree : count k (slots_of g.tree) ≡ 0
      no_tree =
          elim (cases_lt 0 (count k (slots_of g.tree))) as (λ _. count k (slots_of g.tree) ≡ 0) [
            | inl here ↦ absurd (omega (arith, marked, rule.marks.nodes k here))
            | inr gone ↦ omega (arith, gone)
          ]

      nobody : (u : View) → WaitsRight u → IsNameless u → 0 < count k u.retired.nodes + count k u.batch.nodes → ⊥
      nobody u right nameless waits =
          let empty = right.owned nameless in
          omega (arith, waits, ap (λ (s : Rattle.index_words.specs.declared.view.slots.Slots.Slots). count k s.nodes) empty.0, ap (λ (s : Rattle.index_words.specs.declared.view.slots.Slots.Slots). count k s.nodes) empty.1)

      not_own : (j : ℕ) (u : View) → IsItem vs j u → 0 < count k u.retired.nodes + count k u.batch.nodes → j ≢ i
      not_own j u of waits same =
          let one : v ≡ u = same_item vs i j v u at of same in
          omega (arith, subst (λ (y : View). 0 < count k y.retired.nodes + count k y.batch.nodes) (sym one) waits, none, apart)

  -- a node that the seat reads or has locked is live, and not in its batch
  read_apart : (k : ℕ) → ReadsNode v k → count k v.batch.nodes ≡ 0
  read_apart k reads =
      elim (cases_lt 0 (count k v.batch.nodes)) as (λ _. count k v.batch.nodes ≡ 0) [
        | inl some ↦ absurd ((at_item WaitsRight vs i v at right.waits).apart k some reads)
        | inr none ↦ omega (arith, none)
      ]

  pub read_elsewhere : (mine k : ℕ) → v.number ≡ Some mine → k ≤ z.nodes → ReadsNode v k → 0 < m (Node Mark k) → count k v.retired.nodes ≡ 0
      → (does : ℕ → View → Type 0) → ((n : ℕ) (u : View) → 0 < count k u.retired.nodes + count k u.batch.nodes → does n u) → AnotherPass t v does
  read_elsewhere mine k named high reads marked none does gives =
      mark_elsewhere mine k named (held_live z vs g rule.slots i k v at reads high) marked none (read_apart k reads) does gives

  -- nor is a node of its search
  pub searched_elsewhere : (mine k : ℕ) → v.number ≡ Some mine → is_even v.section_word ≡ false → 0 < k → 0 < count k (search_nodes 0 v.reading) → 0 < m (Node Mark k)
      → count k v.retired.nodes ≡ 0 → (does : ℕ → View → Type 0) → ((n : ℕ) (u : View) → 0 < count k u.retired.nodes + count k u.batch.nodes → does n u)
      → AnotherPass t v does
  searched_elsewhere mine k named inside some here marked none does gives =
      let reach : ReachesRight z (plain_graph m) vs v = at_item (ReachesRight z (plain_graph m) vs) vs i v at right.reach in
      let holds : HoldsPlain (plain_graph m) v k = searched z m vs g rule i v at (plain_graph m) reach inside k some (count-has k (search_nodes 0 v.reading) here) in
      mark_elsewhere mine k named (reach.there k holds, reach.unheld k holds) marked none (reach.apart k holds) does gives
