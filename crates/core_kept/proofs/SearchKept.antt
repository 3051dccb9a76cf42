-- The plain tree, what searches claim and what they reach, after the kinds of events that move no plain link of a
-- linked node and leave each search where it is, or end it, or let it go on.
use Rattle.std.proofs.Common.{◌≡◌, ℕ, ◌<◌, ◌≤◌, cond, List, Bool, true, false, eqb, set, arith, refl, ap, ◌∙◌, sym, subst, inl, Option, None}
use Rattle.std.specs.List.{All}
use Rattle.index_words.specs.declared.layout.Layout.{Layout}
use Rattle.index_words.specs.declared.side.Side.{Side}
use Rattle.index_words.specs.declared.view.View.{View}
use Rattle.index_words.specs.declared.word.Field.TheVariants.{Key, Link}
use Rattle.index_words.specs.declared.word.Part.TheVariants.{Stamp as Number}
use Rattle.index_words.specs.declared.word.Word.{Word}
use Rattle.index_words.specs.declared.word.Word.TheVariants.{Node, Entry}
use Rattle.index_words.specs.Words.{Memory, memory}
use Rattle.key_map.specs.Lists.{count, Every, IsItem}
use Rattle.index_words.proofs.Seats.{at_item}
use Rattle.core_grace.specs.Holds.{held_slots}
use Rattle.core_trees.specs.NamedTree.{NamedTree}
use Rattle.core_trees.specs.SpelledTree.{Graph}
use Rattle.core_events.specs.declared.event.Kind.TheVariants.{LoadHead, LoadTs, LoadPtr, LoadNext, LoadMark, LoadKeyOrVal, LookAnn, LoadLink, LoadTag}
use Rattle.core_events.specs.PlainMoves.{link_loaded}
use Rattle.core_events.proofs.Tests.{positive}
use Rattle.core_events.specs.Searches.{turn_key, searches_at, walked, left_turn_after, right_turn_after, place_after, plain_link}
use Rattle.core_grace.proofs.RuleMoves.{every_push}
use Rattle.plain_trees.specs.Claims.{IsWaiting}
use Rattle.plain_trees.specs.Matching.{IsBypassed}
use Rattle.index_words.specs.declared.view.reading.Place.TheVariants.{Node as AtNode, Gap}
use Rattle.core_events.specs.Steps.{head_from, ts_from, ptr_from, next_from, mark_from, pair_from, ann_from, tag_from, link_from}
use Rattle.core_invariant.specs.PlainTree.{undone, IsPlainTree}
use Rattle.core_invariant.specs.Reached.{plain_graph, HoldsPlain, ReachesRight, ReachRight}
use Rattle.core_invariant.specs.Rule.{InRule}
use Rattle.core_invariant.specs.SearchRule.{waits, ClaimsAt, PlaceKey, LinkKeys, SearchRight}
use Rattle.core_kept.specs.SearchLaws.{SearchesAfter, KeepsSearchesAt}
use Rattle.core_kept.proofs.QuietKinds.{IsQuiet, same, head_quiet, ts_quiet, ptr_quiet, next_quiet, mark_quiet, pair_quiet, tag_quiet, look_ann_quiet}
use Rattle.core_kept.proofs.ReachMoves.{reach_moved}
use Rattle.core_kept.proofs.ReachSteps.{head_calm, ts_calm, ptr_calm, next_calm, mark_calm, pair_calm, tag_calm, look_ann_calm}
use Rattle.core_kept.proofs.SearchMoves.{Work, work_of, same_undone, tree_moved, searches_moved, same_waits, own_waits, claims_wider, place_wider, links_wider, NoClaims, own_moved}
use Rattle.core_invariant.proofs.SearchNodes.{IsCalm, calm_reach, still_same}
use Rattle.core_kept.proofs.WalkSteps.{Walk, walk_of, place_walked, links_walked, walk_keys, walk_reach}
use Rattle.core_invariant.proofs.Locked.{slots_link}

-- the facts of a move of one view, over the plain graph
module _ (z : Layout) (gr : Graph) (vs : List View) (now W : NamedTree) (trees : IsPlainTree gr vs now W) (searches : All (SearchRight gr vs now W) vs)
    (reach : ReachRight z gr vs)
    (i : ℕ) (v : View) (at : IsItem vs i v) where
  own_search : SearchRight gr vs now W v
  own_search = at_item (SearchRight gr vs now W) vs i v at searches

  own_reach : ReachesRight z gr vs v
  own_reach = at_item (ReachesRight z gr vs) vs i v at reach

  -- the same lists, and no other node reached
  pub reach_kept : (x : View) → ((k : ℕ) → count k x.free.nodes ≤ count k v.free.nodes) → x.batch ≡ v.batch → x.grace ≡ v.grace → x.number ≡ v.number
      → x.section_word ≡ v.section_word
      → work_of x.update ≡ work_of v.update → x.retired.nodes ≡ v.retired.nodes → ((k : ℕ) → HoldsPlain gr x k → HoldsPlain gr v k)
      → ReachRight z gr (set vs i x)
  reach_kept x free batch grace number word work retired less =
      reach_moved z gr gr vs i v x at
      (record {
        free = free;
        batch = batch;
        grace = grace;
        number = number;
        own = λ raised k holds told. ap (count k) retired ∙ own_reach.own (sym (ap (λ (u : Work). u.raised) work) ∙ raised) k (less k holds);
      })
      (record { own = λ k holds. inl (less k holds, word); others = λ u beside k holds. inl holds }) reach

  -- a view that moves so that its search stays where it is, or ends
  pub quiet_after : (x : View) → IsCalm v x → IsQuiet NoClaims gr.key v x → IsQuiet (ClaimsAt gr vs W v) gr.key v x → SearchesAfter z gr (set vs i x) now
  quiet_after x calm bare claimed = record {
    plain_tree = W;
    trees =
        tree_moved gr vs i v x at now W (record { update = bare.work; locked = λ k locked here. inl (subst (λ ks. 0 < count k ks) bare.locks locked) }) trees;
    searches =
        searches_moved gr vs i v x at now W (same_undone gr vs i v x at now W bare.work).passes
        (λ t beside n s. same_waits gr vs i v x at now W bare.work t n s)
        (own_moved gr vs i v x at now W bare.work calm.number calm.word (calm_reach gr v x calm) bare.step claimed.step own_search) searches;
    reach = reach_kept x calm.free calm.batch calm.grace calm.number calm.word bare.work bare.retired (calm_reach gr v x calm);
  }

  -- a load of a plain link: the view with this reading, where its search stood at the link's node, or not
  module _ (k : ℕ) (side : Side) where
    abbrev x : ℕ
    x = gr.child side k

    abbrev with_walk : Bool → View
    with_walk b = record (link_loaded v k side x) { reading = walked b v.reading k side x }

    same_locks : (b : Bool) → held_slots (with_walk b).held.nodes ≡ held_slots v.held.nodes
    same_locks b = slots_link k side x v.held.nodes

    -- what is reached
    walk_holds : (b : Bool) → searches_at v.reading v.reading.place k side ≡ b → (j : ℕ) → HoldsPlain gr (with_walk b) j → HoldsPlain gr v j
    walk_holds false is j holds = record { inside = holds.inside; some = holds.some; from = holds.from; searched = holds.searched; reached = holds.reached }
    walk_holds true is j holds =
        let step = walk_reach gr v.reading k side own_search.key is j holds.some holds.from holds.searched holds.reached in
        record { inside = holds.inside; some = holds.some; from = step.0; searched = step.1; reached = step.2 }

    -- the claims carry over to the views after the event
    widened : (b : Bool) (low high : Option ℕ) (a : ℕ) → ClaimsAt gr vs W v low high a → ClaimsAt gr (set vs i (with_walk b)) W (with_walk b) low high a
    widened b low high a claims y inside =
        claims_wider gr (IsBypassed (undone gr vs)) (IsBypassed (undone gr (set vs i (with_walk b)))) (IsWaiting (waits vs v))
        (IsWaiting (waits (set vs i (with_walk b)) (with_walk b))) W y a
        (same_undone gr vs i v (with_walk b) at now W refl).passes (own_waits gr vs i v (with_walk b) at now W refl refl refl) (claims y inside)

    walk_search : (b : Bool) → searches_at v.reading v.reading.place k side ≡ b → SearchRight gr (set vs i (with_walk b)) now W (with_walk b)
    walk_search false is = record {
      ahead = λ j holds here. own_search.ahead j (walk_holds false is j holds) here;
      key = own_search.key;
      keys = own_search.keys;
      place = λ raised.
          place_wider (ClaimsAt gr vs W v) (ClaimsAt gr (set vs i (with_walk false)) W (with_walk false)) (turn_key v.reading.right_turn)
          (turn_key v.reading.left_turn) v.reading.place (widened false) (own_search.place raised);
      links = λ raised.
          links_wider (ClaimsAt gr vs W v) (ClaimsAt gr (set vs i (with_walk false)) W (with_walk false)) v.reading.links
          (widened false) (own_search.links raised);
    }
    walk_search true is = record {
      ahead = λ j holds here. own_search.ahead j (walk_holds true is j holds) here;
      key = place_key;
      keys = link_keys;
      place = λ raised.
          place_wider (ClaimsAt gr vs W v) (ClaimsAt gr (set vs i (with_walk true)) W (with_walk true)) (turn_key (right_turn_after side v.reading))
          (turn_key (left_turn_after side v.reading)) (place_after k side x) (widened true)
          (place_walked gr (undone gr vs) (waits vs v) W trees.spelled v.reading k side x (walk raised)).0;
      links = λ raised.
          links_wider (ClaimsAt gr vs W v) (ClaimsAt gr (set vs i (with_walk true)) W (with_walk true)) (walked true v.reading k side x).links (widened true)
          (links_walked gr (undone gr vs) (waits vs v) W trees.spelled v.reading k side x (walk raised) (own_search.links raised));
    }
      where
        walk : v.update.raised ≡ None → Walk gr (undone gr vs) (waits vs v) W trees.spelled v.reading k side x
        walk raised = walk_of gr (undone gr vs) (waits vs v) W trees.spelled v.reading v.reading.place k side refl is (own_search.place raised) own_search.key

        place_key : PlaceKey gr.key (place_after k side x)
        place_key = by (eqb x 0) refl
          where
            by : (b : Bool) → eqb x 0 ≡ b → PlaceKey gr.key (cond b (Gap k side) (AtNode x None))
            by true none = tt
            by false some = (positive x some, tt)

        link_keys : Every (LinkKeys gr.key) (walked true v.reading k side x).links
        link_keys =
            every_push (LinkKeys gr.key) v.reading.links
            (plain_link k side x (turn_key (left_turn_after side v.reading)) (turn_key (right_turn_after side v.reading))) own_search.keys
            (walk_keys gr v.reading v.reading.place k side refl is own_search.key)

    pub walk_after : (b : Bool) → searches_at v.reading v.reading.place k side ≡ b → SearchesAfter z gr (set vs i (with_walk b)) now
    walk_after b is = record {
      plain_tree = W;
      trees =
          tree_moved gr vs i v (with_walk b) at now W (record {
            update = refl;
            locked = λ j locked here. inl (subst (λ ks. 0 < count j ks) (same_locks b) locked);
          }) trees;
      searches =
          searches_moved gr vs i v (with_walk b) at now W (same_undone gr vs i v (with_walk b) at now W refl).passes
          (λ t beside n s. same_waits gr vs i v (with_walk b) at now W refl t n s)
          (walk_search b is) searches;
      reach = reach_kept (with_walk b) (λ j. omega arith) refl refl refl refl refl refl (walk_holds b is);
    }

module _ (z : Layout) (words : List ℕ) (vs : List View) (right : InRule z words vs) (i : ℕ) (v : View) (at : IsItem vs i v) where
  abbrev m : Memory
  m = memory z words

  abbrev gr0 : Graph
  gr0 = plain_graph m

  abbrev Gives : List View → Type 0
  Gives ws = SearchesAfter z gr0 ws right.meaning.tree

  quiet : (x : View) → IsCalm v x → IsQuiet NoClaims gr0.key v x → IsQuiet (ClaimsAt gr0 vs right.plain_tree v) gr0.key v x → Gives (set vs i x)
  quiet x calm bare claimed = quiet_after z gr0 vs right.meaning.tree right.plain_tree right.trees right.searches right.reach i v at x calm bare claimed

  abbrev C0 : Option ℕ → Option ℕ → ℕ → Type 0
  C0 = ClaimsAt gr0 vs right.plain_tree v

  pub head_after : (w : Word) → Gives (set vs i (head_from v w (m w) (m (Entry Number (m w)))))
  head_after w =
      quiet (head_from v w (m w) (m (Entry Number (m w)))) (head_calm v w (m w) (m (Entry Number (m w))))
      (head_quiet NoClaims gr0.key v w (m w) (m (Entry Number (m w)))) (head_quiet C0 gr0.key v w (m w) (m (Entry Number (m w))))

  pub ts_after : (w : Word) → Gives (set vs i (ts_from v w (m w)))
  ts_after w = quiet (ts_from v w (m w)) (ts_calm v w (m w)) (ts_quiet NoClaims gr0.key v w (m w)) (ts_quiet C0 gr0.key v w (m w))

  pub ptr_after : (w : Word) → Gives (set vs i (ptr_from v w (m w)))
  ptr_after w = quiet (ptr_from v w (m w)) (ptr_calm v w (m w)) (ptr_quiet NoClaims gr0.key v w (m w)) (ptr_quiet C0 gr0.key v w (m w))

  pub next_after : (w : Word) → Gives (set vs i (next_from v w (m w)))
  next_after w = quiet (next_from v w (m w)) (next_calm v w (m w)) (next_quiet NoClaims gr0.key v w (m w)) (next_quiet C0 gr0.key v w (m w))

  pub mark_after : (w : Word) → Gives (set vs i (mark_from v w (m w)))
  mark_after w = quiet (mark_from v w (m w)) (mark_calm v w (m w)) (mark_quiet NoClaims gr0.key v w (m w)) (mark_quiet C0 gr0.key v w (m w))

  key_word : (w : Word) (k : ℕ) → w ≡ Node Key k → gr0.key k ≡ m w
  key_word w k is = ap m (sym is)

  pub pair_after : (w : Word) → Gives (set vs i (pair_from v w (m w)))
  pair_after w =
      quiet (pair_from v w (m w)) (pair_calm v w (m w)) (pair_quiet NoClaims gr0.key v w (m w) (key_word w)) (pair_quiet C0 gr0.key v w (m w) (key_word w))

  pub tag_after : (w : Word) → Gives (set vs i (tag_from v w (m w)))
  tag_after w = quiet (tag_from v w (m w)) (tag_calm v w (m w)) (tag_quiet NoClaims gr0.key v w (m w)) (tag_quiet C0 gr0.key v w (m w))

  pub look_ann_after : (w : Word) → Gives (set vs i (ann_from v w (m w)))
  look_ann_after w = quiet (ann_from v w (m w)) (look_ann_calm v w (m w)) (look_ann_quiet NoClaims gr0.key v w (m w)) (look_ann_quiet C0 gr0.key v w (m w))

  still : Gives (set vs i v)
  still = quiet v (still_same v) (same NoClaims gr0.key v) (same C0 gr0.key v)

  pub link_after : (w : Word) → Gives (set vs i (link_from v w (m w)))
  link_after (Node (Link side) k) =
      walk_after z gr0 vs right.meaning.tree right.plain_tree right.trees right.searches right.reach i v at k side
      (searches_at v.reading v.reading.place k side) refl
  link_after _ = still

pub head_searches : KeepsSearchesAt LoadHead
head_searches z words vs right i v at live n w found value o own met = head_after z words vs right i v at w

pub ts_searches : KeepsSearchesAt LoadTs
ts_searches z words vs right i v at live n w found value o own met = ts_after z words vs right i v at w

pub ptr_searches : KeepsSearchesAt LoadPtr
ptr_searches z words vs right i v at live n w found value o own met = ptr_after z words vs right i v at w

pub next_searches : KeepsSearchesAt LoadNext
next_searches z words vs right i v at live n w found value o own met = next_after z words vs right i v at w

pub mark_searches : KeepsSearchesAt LoadMark
mark_searches z words vs right i v at live n w found value o own met = mark_after z words vs right i v at w

pub pair_searches : KeepsSearchesAt LoadKeyOrVal
pair_searches z words vs right i v at live n w found value o own met = pair_after z words vs right i v at w

pub tag_searches : KeepsSearchesAt LoadTag
tag_searches z words vs right i v at live n w found value o own met = tag_after z words vs right i v at w

pub look_ann_searches : KeepsSearchesAt LookAnn
look_ann_searches z words vs right i v at live n w found value o own met = look_ann_after z words vs right i v at w

pub link_searches : KeepsSearchesAt LoadLink
link_searches z words vs right i v at live n w found value o own met = link_after z words vs right i v at w
