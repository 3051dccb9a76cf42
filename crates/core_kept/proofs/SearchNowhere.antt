-- The plain tree, what searches claim and what they reach, after a set link, after a try of a lock, and where a view
-- comes to stand nowhere: its search begins at the root again.
use Rattle.std.proofs.Common.{◌≡◌, ℕ, ◌+◌, ◌<◌, ◌≤◌, cond, List, [], ◌∷◌, Bool, true, false, eqb, set, arith, refl, ap, ◌∙◌, sym, subst, inl, inr, None}
use Rattle.std.specs.List.{All}
use Rattle.std.proofs.lemmas.Bool.{eqb-true}
use Rattle.index_words.specs.declared.layout.Layout.{Layout}
use Rattle.index_words.specs.declared.side.Side.TheVariants.{Right}
use Rattle.index_words.specs.declared.view.View.{View}
use Rattle.index_words.specs.declared.view.reading.TreeNode.{TreeNode}
use Rattle.index_words.specs.declared.view.history.SeenHistory.{SeenHistory}
use Rattle.index_words.specs.declared.view.reading.Place.TheVariants.{Nowhere}
use Rattle.index_words.specs.declared.word.Field.TheVariants.{Link}
use Rattle.index_words.specs.declared.word.Word.{Word}
use Rattle.index_words.specs.declared.word.Word.TheVariants.{Node}
use Rattle.index_words.specs.Words.{Memory, memory, written}
use Rattle.key_map.specs.declared.update.Update.{Update}
use Rattle.key_map.specs.Lists.{count, Every, IsItem}
use Rattle.index_words.proofs.Seats.{at_item}
use Rattle.core_grace.specs.Holds.{held_slots}
use Rattle.core_trees.specs.NamedTree.{NamedTree, Null, Branch}
use Rattle.core_trees.specs.Slots.{occurs}
use Rattle.core_trees.specs.SpelledTree.{Graph, IsSpelled}
use Rattle.core_trees.proofs.Slots.{one_at-same}
use Rattle.core_events.specs.declared.event.Kind.TheVariants.{SetLink, LoadStamp}
use Rattle.core_events.specs.Announcing.{has_announced}
use Rattle.core_events.specs.LoadMoves.{longest, stamp_history, stamp_reading, stamp_loaded}
use Rattle.core_events.specs.PlainNeeds.{may_set_link}
use Rattle.core_events.specs.Searches.{turn_key, search_nodes}
use Rattle.core_events.specs.SpelledNow.{tree_now}
use Rattle.core_events.specs.Steps.{set_from}
use Rattle.core_events.specs.Versions.{tree_nodes}
use Rattle.core_events.proofs.Tests.{never}
use Rattle.core_invariant.specs.Meanings.{Meaning}
use Rattle.core_invariant.specs.PlainTree.{IsPlainTree}
use Rattle.core_invariant.specs.Reached.{plain_graph, HoldsPlain, ReachRight}
use Rattle.core_invariant.specs.Rule.{Rule, InRule}
use Rattle.core_invariant.specs.SearchRule.{ClaimsAt, PlaceClaims, LinkClaims, PlaceKey, LinkKeys, SearchRight}
use Rattle.core_invariant.proofs.WaitNeeds.{CanSet, can_set}
use Rattle.core_kept.specs.SearchLaws.{SearchesAfter, KeepsSearchesAt}
use Rattle.core_kept.proofs.PlainNodes.{plain_clear}
use Rattle.core_kept.proofs.ReachMoves.{IsClear, reach_moved}
use Rattle.core_kept.proofs.SearchMoves.{Work, work_of, same_undone, tree_moved, searches_moved, same_waits}
use Rattle.core_kept.proofs.SearchStores.{stored}
use Rattle.core_kept.proofs.SetSearch.{searches_set, reach_set}
use Rattle.core_kept.proofs.SetTree.{tree', tree_set}
use Rattle.plain_trees.specs.Reaching.{LeadTo, IsReached}
use Rattle.plain_trees.proofs.Matched.{reached_in}

-- a node that is reached from the root's child is in the plain tree
module _ (g : Graph) (W : NamedTree) (spelled : IsSpelled g (g.child Right 0) W) where
  top_in : (c : ℕ) (t : NamedTree) → IsSpelled g c t → 0 < c → 0 < occurs c t
  top_in c Null is pos = absurd (omega (arith, is, pos))
  top_in c (Branch s key val l r) is pos = subst (λ n. 0 < occurs n (Branch s key val l r)) (sym is.0) (omega (arith, one_at-same s))

  way_some : (j : ℕ) → 0 < j → (nodes : List ℕ) (from : ℕ) → LeadTo g nodes from j → 0 < from
  way_some j some [] from way = omega (arith, way, some)
  way_some j some (m ∷ ms) from way = omega (arith, way.0, way.1)

  pub from_root : (j : ℕ) → 0 < j → IsReached g (g.child Right 0) j → 0 < occurs j W
  from_root j some way =
      reached_in g W (g.child Right 0) j spelled (top_in (g.child Right 0) W spelled (way_some j some way.0 (g.child Right 0) way.1)) some way

one_is : (a b : ℕ) → 0 < count a (b ∷ []) → a ≡ b
one_is a b some = by (eqb b a) refl some
  where
    by : (c : Bool) → eqb b a ≡ c → 0 < cond c 1 0 + 0 → a ≡ b
    by true is here = sym (eqb-true b a is)
    by false is here = absurd (omega (arith, here))

module _ (z : Layout) (m : Memory) (vs : List View) (g : Meaning) (rule : Rule z m vs g) (gr : Graph) (W : NamedTree) (trees : IsPlainTree gr vs g.tree W)
    (searches : All (SearchRight gr vs g.tree W) vs) (reach : ReachRight z gr vs) (i : ℕ) (v : View) (at : IsItem vs i v) where
  -- a view that stands nowhere
  pub record StandsNowhere (x : View) : Type 0 where
    pub place : x.reading.place ≡ Nowhere
    pub links : x.reading.links ≡ []
    pub nodes : (top : ℕ) → search_nodes top x.reading ≡ top ∷ []

  -- it reaches the plain tree alone
  pub root_reach : (x : View) → StandsNowhere x → (j : ℕ) → HoldsPlain gr x j → 0 < occurs j W
  root_reach x stands j holds =
      from_root gr W trees.spelled j holds.some
      (subst (λ n. IsReached gr n j) (one_is holds.from (gr.child Right 0)
      (subst (λ (ks : List ℕ). 0 < count holds.from ks) (stands.nodes (gr.child Right 0)) holds.searched)) holds.reached)

  -- what is said of its search
  pub root_search : (us : List View) (x : View) → StandsNowhere x → SearchRight gr us g.tree W x
  root_search us x stands = record {
    ahead = λ j holds here. root_reach x stands j holds;
    key = subst (λ p. PlaceKey gr.key p) (sym stands.place) tt;
    keys = subst (λ ls. Every (LinkKeys gr.key) ls) (sym stands.links) tt;
    place = λ raised. subst (λ p. PlaceClaims (ClaimsAt gr us W x) (turn_key x.reading.right_turn) (turn_key x.reading.left_turn) p) (sym stands.place) tt;
    links = λ raised. subst (λ ls. Every (LinkClaims (ClaimsAt gr us W x)) ls) (sym stands.links) tt;
  }

  -- the view comes to stand nowhere
  pub nowhere_after : (x : View) → StandsNowhere x → work_of x.update ≡ work_of v.update
      → ((k : ℕ) → 0 < count k (held_slots x.held.nodes) → 0 < count k (held_slots v.held.nodes)) → ((k : ℕ) → count k x.free.nodes ≤ count k v.free.nodes)
      → x.batch ≡ v.batch → x.grace ≡ v.grace → x.number ≡ v.number → x.retired.nodes ≡ v.retired.nodes → SearchesAfter z gr (set vs i x) g.tree
  nowhere_after x stands work locks free batch grace number retired = record {
    plain_tree = W;
    trees = tree_moved gr vs i v x at g.tree W (record { update = work; locked = λ k locked here. inl (locks k locked) }) trees;
    searches =
        searches_moved gr vs i v x at g.tree W (same_undone gr vs i v x at g.tree W work).passes
        (λ t beside n s. same_waits gr vs i v x at g.tree W work t n s) (root_search (set vs i x) x stands) searches;
    reach = reach_moved z gr gr vs i v x at
        (record {
          free = free;
          batch = batch;
          grace = grace;
          number = number;
          own = λ raised k holds told.
              ap (count k) retired ∙ at_item (λ (t : View). t.update.raised ≡ None → count k t.retired.nodes ≡ 0) vs i v at (clear x stands k holds).own
              (sym (ap (λ (u : Work). u.raised) work) ∙ raised);
        })
        (record { own = λ k holds. inr (clear x stands k holds); others = λ u beside k holds. inl holds }) reach;
  }
    where
      clear : (x : View) → StandsNowhere x → (k : ℕ) → HoldsPlain gr x k → IsClear z vs k
      clear x stands k holds = plain_clear z m vs g rule gr W trees k (root_reach x stands k holds)

module _ (z : Layout) (words : List ℕ) (vs : List View) (right : InRule z words vs) (i : ℕ) (v : View) (at : IsItem vs i v) where
  abbrev m : Memory
  m = memory z words

  abbrev gr0 : Graph
  gr0 = plain_graph m

  -- a load of the stamp
  stamp_by : (h : SeenHistory) (b : Bool) (x : ℕ) (fixes : Bool) (nodes : List TreeNode)
      → SearchesAfter z gr0 (set vs i (record v { history = h; reading = stamp_reading v.reading b x fixes nodes })) right.meaning.tree
  stamp_by h true x fixes nodes =
      nowhere_after z m vs right.meaning right.rule gr0 right.plain_tree right.trees right.searches right.reach i v at
      (record v { history = h; reading = stamp_reading v.reading true x fixes nodes })
      (record { place = refl; links = refl; nodes = λ top. refl }) refl (λ k some. some) (λ k. omega arith) refl refl refl refl
  stamp_by h false x fixes nodes =
      nowhere_after z m vs right.meaning right.rule gr0 right.plain_tree right.trees right.searches right.reach i v at
      (record v { history = h; reading = stamp_reading v.reading false x fixes nodes })
      (record { place = refl; links = refl; nodes = λ top. refl }) refl (λ k some. some) (λ k. omega arith) refl refl refl refl

  pub stamp_after : (known : List Update) (x : ℕ) (fixes : Bool) (nodes : List TreeNode)
      → SearchesAfter z gr0 (set vs i (stamp_loaded known v x fixes nodes)) right.meaning.tree
  stamp_after known x fixes nodes = stamp_by (stamp_history known v.history x fixes) (has_announced v) x fixes nodes

  module _ (n : ℕ) (value : ℕ) where
    set_after : (u : Word) → may_set_link z m v u value ≡ true
        → SearchesAfter z (plain_graph (written m u value)) (set vs i (set_from v u value)) right.meaning.tree
    set_after (Node (Link side) k) met =
        let can : CanSet z m v k side value = can_set z m v k side value met in
        record {
          plain_tree = tree' z m vs right.meaning right.rule right.plain right.plain_tree right.trees i k side value v at can;
          trees = tree_set z m vs right.meaning right.rule right.plain right.plain_tree right.trees i k side value v at can;
          searches = searches_set z m vs right.meaning right.rule right.plain right.plain_tree right.trees i k side value v at can right.searches;
          reach = reach_set z m vs right.meaning right.rule right.plain right.plain_tree right.trees i k side value v at can right.reach;
        }
    set_after _ met = absurd (never met)

pub stamp_searches : KeepsSearchesAt LoadStamp
stamp_searches z words vs right i v at live n w found value o own met =
    stamp_after z words vs right i v at (longest vs) (memory z words w) (eqb value 1) (tree_nodes (tree_now z (memory z words) vs))

pub set_searches : KeepsSearchesAt SetLink
set_searches z words vs right i v at live n w found value o own met =
    stored z words vs right i v at n w found value (set vs i (set_from v w value)) (set_after z words vs right i v at n value w met)
