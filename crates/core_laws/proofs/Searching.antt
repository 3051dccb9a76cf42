-- What a search on plain links may rely on.
use Rattle.std.proofs.Common.{◌≡◌, ℕ, ◌+◌, ◌<◌, ◌≤◌, ◌⊎◌, cond, List, [], ◌∷◌, Bool, true, false, eqb, arith, refl, ap, ◌∙◌, sym, subst, inl, inr, Option, Some, None}
use Rattle.std.specs.Prelude.{IfSome}
use Rattle.std.proofs.lemmas.Bool.{and_parts, cases_lt, eqb-true, eq-eqb}
use Rattle.index_words.specs.declared.layout.Layout.{Layout}
use Rattle.index_words.specs.declared.side.Side.{Side}
use Rattle.index_words.specs.declared.side.Side.TheVariants.{Left, Right}
use Rattle.index_words.specs.declared.view.View.{View}
use Rattle.index_words.specs.declared.view.reading.Link.{Link as ViewLink}
use Rattle.index_words.specs.declared.view.reading.LinkSource.TheVariants.{Plain}
use Rattle.index_words.specs.declared.view.reading.Place.{Place}
use Rattle.index_words.specs.declared.view.reading.Place.TheVariants.{Nowhere, Node as AtNode}
use Rattle.index_words.specs.declared.view.update.HeldNode.{HeldNode}
use Rattle.index_words.specs.declared.view.update.UnsetLink.{UnsetLink}
use Rattle.index_words.specs.declared.word.Field.TheVariants.{Mark, Head, Link}
use Rattle.index_words.specs.declared.word.Part.TheVariants.{Stamp as Number}
use Rattle.index_words.specs.declared.word.Word.TheVariants.{Node, Entry}
use Rattle.index_words.specs.Words.{Memory, same_side}
use Rattle.index_words.proofs.Seats.{at_item, one_term}
use Rattle.key_map.specs.Lists.{count, IsItem}
use Rattle.key_map.proofs.Counting.{count-append, count-has, has-count}
use Rattle.core_grace.specs.Holds.{held_slots, listed, work_nodes}
use Rattle.core_grace.specs.Slots.{own, nodes_of}
use Rattle.core_grace.specs.Sections.{is_even}
use Rattle.core_trees.specs.Gaps.{IsGapLink}
use Rattle.core_trees.specs.LinkSteps.{IsLinkIn}
use Rattle.core_trees.specs.NamedTree.{NamedTree}
use Rattle.core_trees.specs.Slots.{occurs}
use Rattle.core_trees.specs.SpelledTree.{Graph}
use Rattle.core_events.specs.Searches.{goes_on_at, place_nodes, search_nodes, searches_at}
use Rattle.core_events.specs.SpelledNow.{child_now}
use Rattle.core_events.specs.Tables.{Table, held_by}
use Rattle.core_events.specs.UpdateNeeds.{held_at, side_of}
use Rattle.core_events.specs.Versions.{slots_of}
use Rattle.core_events.proofs.Tests.{never}
use Rattle.core_invariant.specs.BundleRule.{IsPendingAt, pending_count}
use Rattle.core_invariant.specs.LinkRule.{LinksLast}
use Rattle.core_invariant.specs.Locks.{IsNodeAt, lock_count}
use Rattle.core_invariant.specs.Meanings.{Meaning}
use Rattle.core_invariant.specs.PlainTree.{undone, ItemRight, SeatInTree}
use Rattle.core_invariant.specs.Reached.{plain_graph, ReachesRight}
use Rattle.core_invariant.specs.Rule.{Rule, IsRight}
use Rattle.core_invariant.specs.SearchRule.{waits, ClaimsAt, PlaceKey, SourceClaims, LinkClaims, SourceKeys, LinkKeys, SearchRight}
use Rattle.core_invariant.specs.SeatRule.{SeatRight}
use Rattle.core_invariant.specs.TurnRule.{LeavesMarked}
use Rattle.core_invariant.proofs.Frames.{Term, term_of, every_at}
use Rattle.core_invariant.proofs.Locked.{locks-count, still_linked, locked_linked, locked_live, same_locker, searched}
use Rattle.core_invariant.proofs.Needed.{found_held}
use Rattle.core_invariant.proofs.OneView.{seat_at}
use Rattle.core_invariant.proofs.Owned.{slot_high}
use Rattle.core_invariant.proofs.Passing.{Passing, passing}
use Rattle.core_invariant.proofs.SearchNodes.{search_count}
use Rattle.core_invariant.proofs.Sides.{same_side-true}
use Rattle.core_invariant.proofs.TreeNow.{count_slots, child_is, tree_is}
use Rattle.core_invariant.proofs.Undone.{orderly, out_taken, stays, waiting_out, no_links, no_items}
use Rattle.core_laws.specs.PlainNeeds.{IsHeldUnmarked, HasFirmLink, MayReadLink}
use Rattle.core_laws.specs.Searching.{LinkFoundLaw, IsBeforeRaise, OwnLeftLaw, HeadNumberedLaw, HeldLinkLaw, IsOver, IsUnder, NullLinkLaw}
use Rattle.core_laws.proofs.AloneFacts.{chain_begins}
use Rattle.core_laws.proofs.Remembered.{every_item}
use Rattle.core_laws.proofs.ViewTests.{found-locks}
use Rattle.plain_trees.specs.Points.{point_of, IsAbove}
use Rattle.plain_trees.specs.Points.{IsUnder as IsUnderPoint}
use Rattle.plain_trees.specs.Reaching.{IsReached}
use Rattle.plain_trees.proofs.Matched.{in-now, led-in}
use Rattle.plain_trees.proofs.NullLinks.{null_link as plain_null_link}

root_or : (k : ℕ) (tree : NamedTree) → count k (0 ∷ slots_of tree) ≡ 1 → (k ≡ 0) ⊎ (0 < occurs k tree)
root_or k tree one = by (eqb 0 k) refl one
  where
    by : (b : Bool) → eqb 0 k ≡ b → cond b 1 0 + count k (slots_of tree) ≡ 1 → (k ≡ 0) ⊎ (0 < occurs k tree)
    by true is one = inl (sym (eqb-true 0 k is))
    by false is one = inr (omega (arith, one, count_slots k tree))

over_point : (low : Option ℕ) (key : ℕ) → IsOver low key → IsAbove low (point_of key)
over_point None key over = tt
over_point (Some low) key over = omega (arith, over)

under_point : (high : Option ℕ) (key : ℕ) → IsUnder high key → IsUnderPoint high (point_of key)
under_point None key under = tt
under_point (Some high) key under = omega (arith, under)

-- a link by which a node is reached
one_step : (g : Graph) (k x : ℕ) (side : Side) → 0 < k → g.child side k ≡ x → IsReached g k x
one_step g k x Left some is = (k ∷ [], (refl, some, inl is))
one_step g k x Right some is = (k ∷ [], (refl, some, inr is))

one_here : (k : ℕ) (node : ℕ) → node ≡ k → 0 < count k (node ∷ [])
one_here k node same = omega (arith, ap (λ (b : Bool). 0 + cond b 1 0) (eq-eqb node k same))

module _ (t : Table) (right : IsRight t) (i : ℕ) (v : View) (at : IsItem t.views i v) where
  abbrev z : Layout
  z = t.layout

  abbrev m : Memory
  m = held_by t

  abbrev vs : List View
  vs = t.views

  abbrev g : Meaning
  g = right.meaning

  abbrev W : NamedTree
  W = right.plain_tree

  abbrev gr : Graph
  gr = plain_graph (held_by t)

  rule : Rule z m vs g
  rule = right.rule

  seat : SeatRight z m g v
  seat = seat_at z m vs g i v at rule

  pub search : SearchRight gr vs g.tree W v
  search = at_item (SearchRight gr vs g.tree W) vs i v at right.searches

  pub reach : ReachesRight z gr vs v
  reach = at_item (ReachesRight z gr vs) vs i v at right.reach

  pub held_lock : (k : ℕ) → IsHeldUnmarked v k → 0 < lock_count k v
  held_lock k h = locks-count k v.held.nodes (found-locks k v.held.nodes h.held h.locked)

  pub held_mark : (k : ℕ) → IsHeldUnmarked v k → m (Node Mark k) ≡ 0
  held_mark k h =
      let f = found_held (IsNodeAt m) k h.held v.held.nodes seat.loaded.nodes h.locked in
      subst (λ n. m (Node Mark n) ≡ 0) f.same (subst (λ (o : Option ℕ). IfSome o (λ x. m (Node Mark h.held.node) ≡ x)) h.unmarked f.known.mark)

  -- a link that was loaded under the lock of its node is what the word holds
  pub held_word : (k child : ℕ) (side : Side) (held : HeldNode) → held_at k v.held.nodes ≡ Some held → (side_of side held).link ≡ Some child → m (Node (Link side) k) ≡ child
  held_word k child side held locked link =
      let f = found_held (IsNodeAt m) k held v.held.nodes seat.loaded.nodes locked in
      subst (λ n. m (Node (Link side) n) ≡ child) f.same (by side held f.known link)
    where
      by : (side : Side) (held : HeldNode) → IsNodeAt m held → (side_of side held).link ≡ Some child → m (Node (Link side) held.node) ≡ child
      by Left held known link = subst (λ (o : Option ℕ). IfSome o (λ x. m (Node (Link Left) held.node) ≡ x)) link known.plain.0.0
      by Right held known link = subst (λ (o : Option ℕ). IfSome o (λ x. m (Node (Link Right) held.node) ≡ x)) link known.plain.1.0

  -- before the raise a locked node that is unmarked is the root or in the tree at the stamp
  pub now_in : (k : ℕ) → v.update.raised ≡ None → IsHeldUnmarked v k → (k ≡ 0) ⊎ (0 < occurs k g.tree)
  now_in k quiet h = root_or k g.tree (locked_linked z m vs g rule i k v at (held_lock k h) quiet (held_mark k h))

  seat_in : SeatInTree gr W g.tree v
  seat_in = at_item (SeatInTree gr W g.tree) vs i v at right.trees.seats

  -- whether it has raised or not, it is the root or in the plain tree
  pub plain_in : (k : ℕ) → IsHeldUnmarked v k → (k ≡ 0) ⊎ (0 < occurs k W)
  plain_in k h =
      elim (cases_lt 0 (count k v.update.taken)) as (λ _. (k ≡ 0) ⊎ (0 < occurs k W)) [
        | inl out ↦ elim (at_item (LeavesMarked (λ j. m (Node Mark j)) W) vs i v at right.leaving k out) as (λ _. (k ≡ 0) ⊎ (0 < occurs k W)) [
          | inl marked ↦ absurd (omega (arith, marked, held_mark k h))
          | inr here ↦ inr here
        ]
        | inr none ↦ elim (root_or k g.tree (still_linked z m vs g rule i k v at (held_lock k h) (omega (arith, none)) (held_mark k h))) as (λ _. (k ≡ 0) ⊎ (0 < occurs k W)) [
          | inl root ↦ inl root
          | inr now ↦ inr (seat_in.locked k (held_lock k h) now)
        ]
      ]

  -- the nodes of the plain tree are ones of the table
  plain_low : (k : ℕ) → 0 < occurs k W → k ≤ z.nodes
  plain_low k here =
      elim (in-now (undone gr vs) k 0 Right W g.tree right.trees.matches here) as (λ _. k ≤ z.nodes) [
        | inl now ↦ slot_high z.nodes k (omega (arith, rule.slots.nodes.one k, now, count_slots k g.tree))
        | inr out ↦
            let taker = out_taken z m vs g rule gr k out in
            slot_high z.nodes k
            (omega (
              arith,
              rule.slots.nodes.one k,
              one_term (own nodes_of k) vs taker.place taker.item taker.at,
              (seat_at z m vs g taker.place taker.item taker.at rule).marks.taken k (has-count k taker.item.update.taken taker.passes),
            ))
      ]

  link_low : (k : ℕ) (side : Side) → IsLinkIn 0 Right W k side → m (Node (Link side) k) ≤ z.nodes
  link_low k side there =
      elim (cases_lt 0 (m (Node (Link side) k))) as (λ _. m (Node (Link side) k) ≤ z.nodes) [
        | inl some ↦ plain_low (m (Node (Link side) k)) (led-in gr 0 Right W right.trees.spelled k side (m (Node (Link side) k)) there refl some)
        | inr none ↦ omega (arith, none)
      ]

  firm_low : (k : ℕ) (side : Side) → HasFirmLink v k side → m (Node (Link side) k) ≤ z.nodes
  firm_low k side firm =
      elim (cases_lt 0 k) as (λ _. m (Node (Link side) k) ≤ z.nodes) [
        | inr none ↦ let root : k ≡ 0 = omega (arith, none) in link_low k side (inl (root, firm.root root))
        | inl some ↦ elim (plain_in k (firm.unmarked some)) as (λ _. m (Node (Link side) k) ≤ z.nodes) [
          | inl root ↦ link_low k side (inl (root, firm.root root))
          | inr here ↦ link_low k side (inr here)
        ]
      ]

  -- where a search stands it goes on to a node that it reaches
  place_low : (k : ℕ) (side : Side) (p : Place) → is_even v.section_word ≡ false → v.reading.place ≡ p → searches_at v.reading p k side ≡ true → m (Node (Link side) k) ≤ z.nodes
  place_low k side Nowhere inside is stands =
      let parts = and_parts (eqb k 0) (same_side side Right) stands in
      link_low k side (inl (eqb-true k 0 parts.0, same_side-true side Right parts.1))
  place_low k side (AtNode node key) inside is stands =
      let same : node ≡ k = eqb-true node k (and_parts (eqb node k) (goes_on_at v.reading key) stands).0 in
      let known : PlaceKey gr.key (AtNode node key) = subst (PlaceKey gr.key) is search.key in
      let some : 0 < k = subst (λ n. 0 < n) same known.0 in
      let here : 0 < count k (place_nodes (gr.child Right 0) v.reading.place) = subst (λ (p : Place). 0 < count k (place_nodes (gr.child Right 0) p)) (sym is) (one_here k node same) in
      elim (cases_lt 0 (m (Node (Link side) k))) as (λ _. m (Node (Link side) k) ≤ z.nodes) [
        | inr none ↦ omega (arith, none)
        | inl child ↦ reach.there (m (Node (Link side) k))
            (record {
              inside = inside;
              some = child;
              from = k;
              searched = omega (arith, search_count k (gr.child Right 0) v.reading, here);
              reached = one_step gr k (m (Node (Link side) k)) side some refl;
            })
      ]
  place_low k side _ inside is stands = absurd (never stands)

  found_low : (k : ℕ) (side : Side) → MayReadLink v k side → m (Node (Link side) k) ≤ z.nodes
  found_low k side may =
      elim may.on as (λ _. m (Node (Link side) k) ≤ z.nodes) [
        | inl firm ↦ firm_low k side firm
        | inr stands ↦ place_low k side v.reading.place may.inside refl stands
      ]

  -- none that the seat has taken out is one of its search
  left : IsBeforeRaise v → (k : ℕ) → 0 < count k (search_nodes 0 v.reading) → count k v.retired.nodes ≡ 0
  left before k here =
      elim (cases_lt 0 k) as (λ _. count k v.retired.nodes ≡ 0) [
        | inl some ↦ reach.own before.unraised k (searched z m vs g rule i v at gr reach before.inside k some (count-has k (search_nodes 0 v.reading) here))
        | inr none ↦
            let root : 0 ≡ k = omega (arith, none) in
            subst (λ n. count n v.retired.nodes ≡ 0) root (omega (arith, rule.slots.nodes.one 0, one_term (own nodes_of 0) vs i v at))
      ]

  -- a link under the lock of an unmarked node
  held_now : (k child : ℕ) (side : Side) (held : HeldNode) → v.update.raised ≡ None → held_at k v.held.nodes ≡ Some held → held.mark ≡ Some 0
      → (side_of side held).link ≡ Some child → (k ≡ 0 → side ≡ Right) → IsLinkIn 0 Right g.tree k side × (child_now m vs [] side k ≡ child)
  held_now k child side held quiet locked unmarked link root =
      let h : IsHeldUnmarked v k = record { held = held; locked = locked; unmarked = unmarked } in
      let there : IsLinkIn 0 Right g.tree k side
      = elim (now_in k quiet h) as (λ _. IsLinkIn 0 Right g.tree k side) [ inl top ↦ inl (top, root top) | inr here ↦ inr here ] in (
        there,
        child_is z m vs g rule k (locked_live z m vs g rule i k v at (held_lock k h)) side
            ∙ (sym (right.plain.linked k side there (no_items z m vs g rule W right.trees right.plain i v at quiet k (held_lock k h) side)) ∙ held_word k child side held locked link),
      )

  -- a null link at which the search has ended
  null_now : (place : ℕ) (l : ViewLink) (tag above below : Option ℕ) (held : HeldNode) → v.update.raised ≡ None → IsItem v.reading.links place l
      → l.source ≡ Plain tag above below → l.child ≡ 0 → held_at l.node v.held.nodes ≡ Some held → held.mark ≡ Some 0 → (side_of l.side held).link ≡ Some 0
      → (key : ℕ) → IsOver below key → IsUnder above key → IsGapLink key l.node l.side 0 Right g.tree
  null_now place l tag above below held quiet is source null locked unmarked link key over under =
      let h : IsHeldUnmarked v l.node = record { held = held; locked = locked; unmarked = unmarked } in
      let there : (l.node ≡ 0) ⊎ (0 < occurs l.node g.tree) = now_in l.node quiet h in
      let C : Option ℕ → Option ℕ → ℕ → Type 0 = ClaimsAt gr vs W v in
      let claims : SourceClaims C l.node l.child (Plain tag above below)
      = subst (SourceClaims C l.node l.child) source (every_item (LinkClaims C) v.reading.links place l is (search.links quiet)) in
      let keys : SourceKeys gr.key l.node l.side (Plain tag above below)
      = subst (SourceKeys gr.key l.node l.side) source (every_item (LinkKeys gr.key) v.reading.links place l is search.keys) in
      plain_null_link gr (undone gr vs) (waits vs v) W g.tree l.node key l.side below above (orderly z m vs g rule gr) (waiting_out z m vs g rule W right.trees v)
      right.trees.spelled right.trees.matches rule.tree.lawful
      (record {
        there = stays z m vs g rule gr l.node there;
        reached = elim there as (λ _. (l.node ≡ 0) ⊎ (0 < occurs l.node W)) [ inl root ↦ inl root | inr here ↦ inr (seat_in.locked l.node (held_lock l.node h) here) ];
        settled = no_links z m vs g rule W right.trees right.plain i v at quiet l.node (held_lock l.node h) there l.side;
        null = held_word l.node 0 l.side held locked link;
        root = keys.0;
        turned = keys.1;
        claims = claims null;
      })
      (over_point below key over, under_point above key under)

  -- an entry is pending in no view at a node that the seat has locked and found unmarked, if it is not pending in this
  -- one
  no_pending : (k e : ℕ) → v.update.pending ≡ [] → IsHeldUnmarked v k → IsPendingAt vs k e → ⊥
  no_pending k e none h pending =
      let term : Term (pending_count e) vs = term_of (pending_count e) vs (omega (arith, pending.0)) in
      let u : View = term.item in
      let works : 0 < count k (work_nodes u) = at_item (λ (y : View). 0 < pending_count e y → 0 < count k (work_nodes y)) vs term.place u term.at pending.1 term.some in
      elim (cases_lt 0 (lock_count k u)) as (λ _. ⊥) [
        | inl locked ↦
            let same : v ≡ u = same_locker z m vs g rule i term.place k v u at term.at (held_lock k h) locked in
            omega (arith, term.some, ap (λ (y : View). pending_count e y) (sym same), ap (count e) none)
        | inr free ↦ added_apart term.place u term.at (added_is u.update.added (omega (arith, works, free, count-append k (held_slots u.held.nodes) (listed u.update.added)))) term.some
      ]
    where
      added_is : (o : Option ℕ) → 0 < count k (listed o) → o ≡ Some k
      added_is None some = absurd (omega (arith, some))
      added_is (Some n) some = by (eqb n k) refl some
        where
          by : (b : Bool) → eqb n k ≡ b → 0 < cond b 1 0 + 0 → Some n ≡ Some k
          by true is some = ap Some (eqb-true n k is)
          by false is some = absurd (omega (arith, some))

      added_apart : (j : ℕ) (u : View) → IsItem vs j u → u.update.added ≡ Some k → 0 < pending_count e u → ⊥
      added_apart j u of added some =
          let P : UnsetLink → Type 0 = ItemRight gr W u.update.taken u.update.added u.update.unlinking u.update.waiting in
          let busy : u.update.pending ≡ [] → ⊥ = λ empty. omega (arith, some, ap (count e) empty) in
          let f : Passing (λ (x : UnsetLink). eqb x.child k) P
          = passing (λ (x : UnsetLink). eqb x.child k) P u.update.unset (at_item (SeatInTree gr W g.tree) vs j u of right.trees.seats).items
          ((at_item LinksLast vs j u of right.linking).unlinked k added busy) in
          let child : f.item.child ≡ k = eqb-true f.item.child k f.passes in
          elim f.right.leads as (λ _. ⊥) [
            | inr other ↦ other.other (added ∙ ap Some (sym child))
            | inl brings ↦ elim (plain_in k h) as (λ _. ⊥) [
              | inl root ↦ omega (arith, root, child, brings.some)
              | inr here ↦ omega (arith, here, subst (λ n. occurs n W ≡ 0) child brings.new)
            ]
          ]

  head_numbered : (k : ℕ) (side : Side) → v.update.pending ≡ [] → IsHeldUnmarked v k → (m (Node (Head side) k) ≡ 0) ⊎ (0 < m (Entry Number (m (Node (Head side) k))))
  head_numbered k side none h =
      let head : ℕ = m (Node (Head side) k) in
      let bundle = rule.bundles k (locked_live z m vs g rule i k v at (held_lock k h)) side in
      elim (cases_lt 0 head) as (λ _. (head ≡ 0) ⊎ (0 < m (Entry Number head))) [
        | inr empty ↦ inl (omega (arith, empty))
        | inl some ↦ elim (cases_lt 0 (m (Entry Number head))) as (λ _. (head ≡ 0) ⊎ (0 < m (Entry Number head))) [
          | inl written ↦ inr written
          | inr unwritten ↦
              absurd (no_pending k head none h
              (every_at (λ d. m (Entry Number d) ≡ 0 → IsPendingAt vs k d) head (g.bundles.bundle side k) bundle.owned (chain_begins _ head (g.bundles.bundle side k) bundle.chain some) (omega (arith, unwritten))))
        ]
      ]

pub link_found : LinkFoundLaw
link_found t i v k side right at may = found_low t right i v at k side may

pub own_left : OwnLeftLaw
own_left t i v k right at before here = left t right i v at before k here

pub held_link : HeldLinkLaw
held_link t i v k child side held right at quiet locked unmarked link root =
    subst (λ (tree : NamedTree). IsLinkIn 0 Right tree k side × (child_now (held_by t) t.views [] side k ≡ child))
    (sym (tree_is t.layout (held_by t) t.views right.meaning right.rule)) (held_now t right i v at k child side held quiet locked unmarked link root)

pub null_link : NullLinkLaw
null_link t i place v l tag above below held right at quiet is source null locked unmarked link key over under =
    subst (IsGapLink key l.node l.side 0 Right) (sym (tree_is t.layout (held_by t) t.views right.meaning right.rule))
    (null_now t right i v at place l tag above below held quiet is source null locked unmarked link key over under)

pub head_numbered_law : HeadNumberedLaw
head_numbered_law t i v k side right at none h = head_numbered t right i v at k side none h
