-- Where a search stands, its key lies beyond those of its turns; and what stays on a table of one pass.
use Rattle.std.proofs.Common.{◌≡◌, ℕ, ◌^◌, ◌+◌, ◌<◌, cond, List, [], ◌∷◌, Bool, eqb, arith, refl, ap, sym, subst, inl, inr, Option, Some, None}
use Rattle.std.specs.Prelude.{IfSome}
use Rattle.std.proofs.lemmas.Bool.{cases_lt, eq-eqb}
use Rattle.std.proofs.lemmas.Bool.Decides.{nat_tests}
use Rattle.index_words.specs.declared.layout.Layout.{Layout}
use Rattle.index_words.specs.declared.side.Side.{Side}
use Rattle.index_words.specs.declared.side.Side.TheVariants.{Left, Right}
use Rattle.index_words.specs.declared.view.View.{View}
use Rattle.index_words.specs.declared.view.reading.Link.{Link as ViewLink}
use Rattle.index_words.specs.declared.view.reading.LinkSource.{LinkSource}
use Rattle.index_words.specs.declared.view.reading.LinkSource.TheVariants.{Bundle, Plain}
use Rattle.index_words.specs.declared.view.reading.Place.{Place}
use Rattle.index_words.specs.declared.view.reading.Place.TheVariants.{Node as AtNode}
use Rattle.index_words.specs.declared.view.reading.Turn.{Turn}
use Rattle.index_words.specs.declared.word.Field.TheVariants.{Lock, Mark, Link, Tag}
use Rattle.index_words.specs.declared.word.Word.TheVariants.{Node}
use Rattle.index_words.specs.Words.{Memory}
use Rattle.index_words.proofs.Seats.{at_item, one_term}
use Rattle.key_map.specs.Lists.{count, IsItem}
use Rattle.key_map.proofs.Counting.{count-has, has-count}
use Rattle.core_grace.specs.Slots.{own, own_free, nodes_of}
use Rattle.core_trees.specs.NamedTree.{NamedTree}
use Rattle.core_trees.specs.Slots.{occurs}
use Rattle.core_trees.specs.SpelledTree.{Graph}
use Rattle.core_events.specs.Searches.{place_nodes, turn_nodes, search_nodes}
use Rattle.core_events.specs.Tables.{Table, held_by}
use Rattle.core_invariant.specs.Locks.{NamesHolder, lock_count}
use Rattle.core_invariant.specs.Meanings.{Meaning}
use Rattle.core_invariant.specs.PlainTree.{undone, SeatInTree}
use Rattle.core_invariant.specs.Reached.{plain_graph, HoldsPlain}
use Rattle.core_invariant.specs.Readers.{IsLocked}
use Rattle.core_invariant.specs.Rule.{Rule, IsRight}
use Rattle.core_invariant.specs.SearchRule.{PlaceKey}
use Rattle.core_invariant.specs.StillRule.{IsSourceStill, IsLinkStill, StaysStill, StillRight}
use Rattle.core_invariant.specs.TurnRule.{PlaceBelow, TurnRight, TurnsRight, LeavesMarked}
use Rattle.core_invariant.proofs.Frames.{Term, term_of, every_map}
use Rattle.core_invariant.proofs.Locked.{searched}
use Rattle.core_invariant.proofs.OneView.{seat_at}
use Rattle.core_invariant.proofs.Owned.{slot_is}
use Rattle.core_invariant.proofs.SearchNodes.{search_count}
use Rattle.core_invariant.proofs.TreeNow.{count_slots}
use Rattle.core_invariant.proofs.Undone.{out_taken, stays}
use Rattle.core_laws.specs.PlainNeeds.{IsHeldUnmarked}
use Rattle.core_laws.specs.Searching.{IsBeforeRaise, last_turn, BeyondLaw, HasKeys, SearchKeysLaw, IsFoundStill, IsStill, StillLaw}
use Rattle.core_laws.proofs.OnePass.{inside_number, taker_number, one_view}
use Rattle.core_laws.proofs.Searching.{search, reach, plain_in, now_in}
use Rattle.plain_trees.specs.Matching.{IsOut}
use Rattle.plain_trees.specs.Turns.{IsBeyond}
use Rattle.plain_trees.proofs.Matched.{in-now}
use Rattle.plain_trees.proofs.TurnPaths.{turn_law}

one_here : (k node : ℕ) → node ≡ k → 0 < count k (node ∷ [])
one_here k node same = omega (arith, ap (λ (b : Bool). 0 + cond b 1 0) (eq-eqb node k same))

held_word : (x : ℕ) → 0 < x → 0 < 0 + cond (eqb x 0) 0 1
held_word x low = grind (arith, nat_tests)

holder_number : (word : ℕ) (o : Option ℕ) → NamesHolder word o → (n : ℕ) × (o ≡ Some n)
holder_number word None names = absurd names
holder_number word (Some n) names = (n, refl)

module _ (t : Table) (right : IsRight t) (i : ℕ) (v : View) (at : IsItem t.views i v) where
  abbrev z : Layout
  z = t.layout

  abbrev m : Memory
  m = held_by t

  abbrev vs : List View
  vs = t.views

  abbrev g : Meaning
  g = right.meaning

  abbrev W : NamedTree
  W = right.plain_tree

  abbrev gr : Graph
  gr = plain_graph (held_by t)

  abbrev tags : Side → ℕ → ℕ
  tags side k = held_by t (Node (Tag side) k)

  rule : Rule z m vs g
  rule = right.rule

  turns : TurnsRight gr W v
  turns = at_item (TurnsRight gr W) vs i v at right.turns

  -- what the rule says of a turn
  pub turn_right : (side : Side) (turn : Turn) → last_turn side v.reading ≡ Some turn → TurnRight gr W v.reading.place side turn
  turn_right Left turn is = subst (λ (o : Option Turn). IfSome o (TurnRight gr W v.reading.place Left)) is turns.left
  turn_right Right turn is = subst (λ (o : Option Turn). IfSome o (TurnRight gr W v.reading.place Right)) is turns.right

  -- its node is one of the search
  turn_searched : (side : Side) (turn : Turn) → last_turn side v.reading ≡ Some turn → 0 < count turn.node (search_nodes 0 v.reading)
  turn_searched Left turn is = omega (
    arith,
    search_count turn.node 0 v.reading,
    subst (λ (o : Option Turn). 0 < count turn.node (turn_nodes o)) (sym is) (one_here turn.node turn.node refl),
  )
  turn_searched Right turn is = omega (
    arith,
    search_count turn.node 0 v.reading,
    subst (λ (o : Option Turn). 0 < count turn.node (turn_nodes o)) (sym is) (one_here turn.node turn.node refl),
  )

  place_key : (k key : ℕ) → v.reading.place ≡ AtNode k (Some key) → (0 < k) × (gr.key k ≡ key)
  place_key k key is = subst (PlaceKey gr.key) is (search t right i v at).key

  pub keys_of : HasKeys t v
  keys_of = record { place = λ k key is. (place_key k key is).1; turn = λ side turn is. (turn_right side turn is).key }

  -- a node of the search that is unmarked is in the plain tree
  searched_plain : (k : ℕ) → HoldsPlain gr v k → m (Node Mark k) ≡ 0 → 0 < occurs k W
  searched_plain k holds unmarked =
      elim (cases_lt 0 (occurs k g.tree)) as (λ _. 0 < occurs k W) [
        | inl now ↦ (search t right i v at).ahead k holds now
        | inr gone ↦ owned (term_of (own nodes_of k) vs (omega (
          arith,
          rule.slots.nodes.one k,
          slot_is z.nodes k holds.some ((reach t right i v at).there k holds),
          gone,
          count_slots k g.tree,
        )))
      ]
    where
      owned : Term (own nodes_of k) vs → 0 < occurs k W
      owned term =
          let u : View = term.item in
          let marks = (seat_at z m vs g term.place u term.at rule).marks in
          let free = (reach t right i v at).unheld k holds in
          elim (cases_lt 0 (count k u.retired.nodes)) as (λ _. 0 < occurs k W) [
            | inr other ↦ absurd (omega (arith, unmarked, marks.batch k (omega (arith, term.some, one_term (own_free nodes_of k) vs term.place u term.at, free, other))))
            | inl retired ↦ elim (marks.retired k retired) as (λ _. 0 < occurs k W) [
              | inl marked ↦ absurd (omega (arith, unmarked, marked))
              | inr out ↦ elim (at_item (LeavesMarked (λ j. m (Node Mark j)) W) vs term.place u term.at right.leaving k out.1) as (λ _. 0 < occurs k W) [
                | inl marked ↦ absurd (omega (arith, unmarked, marked))
                | inr here ↦ here
              ]
            ]
          ]

  -- the key at which the search stands lies beyond that of a turn, where both nodes are in the plain tree and the first
  -- was not taken out
  beyond_by : (k key : ℕ) (side : Side) (turn : Turn) → v.reading.place ≡ AtNode k (Some key) → last_turn side v.reading ≡ Some turn
      → ¬ IsOut (undone gr vs) k → 0 < occurs k W → 0 < occurs turn.node W → IsBeyond side turn.key key
  beyond_by k key side turn is last kept here there =
      let below : PlaceBelow gr W (AtNode k (Some key)) side turn = subst (λ (p : Place). PlaceBelow gr W p side turn) is (turn_right side turn last).below in
      subst (IsBeyond side turn.key) (place_key k key is).1
      (turn_law (undone gr vs) 0 turn.node turn.key k (gr.key k) 0 (2 ^ 64) Right side W g.tree right.trees.matches rule.tree.lawful kept (below there [] k refl here))

  beyond_held : IsBeforeRaise v → (k key : ℕ) (side : Side) (turn : Turn) → v.reading.place ≡ AtNode k (Some key) → last_turn side v.reading ≡ Some turn
      → IsHeldUnmarked v k → m (Node Mark turn.node) ≡ 0 → IsBeyond side turn.key key
  beyond_held before k key side turn is last h unmarked =
      let some : 0 < k = (place_key k key is).0 in
      let here : 0 < occurs k W = elim (plain_in t right i v at k h) as (λ _. 0 < occurs k W) [ inl root ↦ absurd (omega (arith, root, some)) | inr there ↦ there ] in
      let holds : HoldsPlain gr v turn.node
      = searched z m vs g rule i v at gr (reach t right i v at) before.inside turn.node (turn_right side turn last).some
      (count-has turn.node (search_nodes 0 v.reading) (turn_searched side turn last)) in
      beyond_by k key side turn is last (stays z m vs g rule gr k (now_in t right i v at k before.unraised h)) here (searched_plain turn.node holds unmarked)

  -- a table of one pass
  module _ (one : z.passes ≡ 1) (before : IsBeforeRaise v) where
    still : StaysStill gr tags W v
    still = at_item (StillRight z gr tags W) vs i v at right.still one before.inside before.unraised

    -- each view that has a number is this one
    only : (j b : ℕ) (u : View) → IsItem vs j u → u.number ≡ Some b → v ≡ u
    only j b u of its = let mine = inside_number z m vs g rule i v at before.inside in one_view z m vs g rule one i j mine.0 b v u at of mine.1 its

    -- no node was taken out
    none_out : (k : ℕ) → ¬ IsOut (undone gr vs) k
    none_out k out =
        let taker = out_taken z m vs g rule gr k out in
        let some : 0 < count k taker.item.update.taken = has-count k taker.item.update.taken taker.passes in
        let its = taker_number z m vs g rule taker.place k taker.item taker.at some in
        let same : v ≡ taker.item = only taker.place its.0 taker.item taker.at its.1 in
        let none : v.update.taken ≡ [] = (at_item (SeatInTree gr W g.tree) vs i v at right.trees.seats).first before.unraised in
        omega (arith, subst (λ (y : View). 0 < count k y.update.taken) (sym same) some, ap (count k) none)

    unmarked_by : (k : ℕ) → 0 < count k (search_nodes 0 v.reading) → m (Node Mark k) ≡ 0
    unmarked_by k here =
        elim (cases_lt 0 k) as (λ _. m (Node Mark k) ≡ 0) [
          | inr none ↦ let root : 0 ≡ k = omega (arith, none) in subst (λ n. m (Node Mark n) ≡ 0) root rule.marks.root
          | inl some ↦ elim (in-now (undone gr vs) k 0 Right W g.tree right.trees.matches (still.there k some here)) as (λ _. m (Node Mark k) ≡ 0) [
            | inl now ↦ rule.marks.nodes k (omega (arith, now, count_slots k g.tree))
            | inr out ↦ absurd (none_out k out)
          ]
        ]

    unlocked_by : (k : ℕ) → ¬ IsLocked v k → m (Node Lock k) ≡ 0
    unlocked_by k free =
        elim (cases_lt 0 (m (Node Lock k))) as (λ _. m (Node Lock k) ≡ 0) [
          | inr none ↦ omega (arith, none)
          | inl held ↦
              let term : Term (lock_count k) vs = term_of (lock_count k) vs (omega (arith, rule.locks k, held_word (m (Node Lock k)) held)) in
              let its = holder_number (m (Node Lock k)) term.item.number ((seat_at z m vs g term.place term.item term.at rule).locks k term.some).1 in
              absurd (free (subst (λ (y : View). 0 < lock_count k y) (sym (only term.place its.0 term.item term.at its.1)) term.some))
        ]

    source_by : (l : ViewLink) (s : LinkSource) → IsSourceStill (m (Node (Link l.side) l.node)) (m (Node (Tag l.side) l.node)) l.child s → IsFoundStill t l s
    source_by l (Bundle entry) is = tt
    source_by l (Plain None above below) is = is.0
    source_by l (Plain (Some tag) above below) is = is

    stays_still : IsStill t v
    stays_still = record {
      unmarked = unmarked_by;
      unlocked = unlocked_by;
      links = every_map (IsLinkStill gr tags) (λ (l : ViewLink). IsFoundStill t l l.source) v.reading.links (λ l is. source_by l l.source is) still.links;
      beyond = λ k key side turn is last.
          let some : 0 < k = (place_key k key is).0 in
          let here : 0 < count k (search_nodes 0 v.reading)
          = omega (arith, search_count k 0 v.reading, subst (λ (p : Place). 0 < count k (place_nodes 0 p)) (sym is) (one_here k k refl)) in
          beyond_by k key side turn is last (none_out k) (still.there k some here)
          (still.there turn.node (turn_right side turn last).some (turn_searched side turn last));
    }

pub search_keys : SearchKeysLaw
search_keys t i v right at before = keys_of t right i v at

pub beyond : BeyondLaw
beyond t i v k key side turn right at before is last h unmarked = beyond_held t right i v at before k key side turn is last h unmarked

pub still_law : StillLaw
still_law t i v right at one before = stays_still t right i v at one before
