-- The first view of a table put after the others: the rule stays, since it names no seat by its place.
use Rattle.std.proofs.Common.{◌≡◌, ℕ, zero, suc, ◌+◌, ◌<◌, List, [], ◌∷◌, ◌++◌, Bool, true, false, length, get_or, arith, refl, ap, ◌∙◌, sym}
use Rattle.std.specs.List.{All, sum_by, list_any}
use Rattle.std.proofs.lemmas.List.{length-append, get_or_push}
use Rattle.std.proofs.lemmas.List.Elements.{All-nil, All-cons, All-append, All-weaker}
use Rattle.std.proofs.lemmas.List.Sums.{sum_by-cons, sum_by_push}
use Rattle.index_words.specs.declared.layout.Layout.{Layout}
use Rattle.index_words.specs.declared.side.Side.{Side}
use Rattle.key_map.specs.declared.update.Update.{Update}
use Rattle.index_words.specs.declared.view.View.{View}
use Rattle.index_words.specs.declared.view.slots.Slots.{Slots}
use Rattle.index_words.specs.declared.word.Field.TheVariants.{Mark, Head, Link, Tag}
use Rattle.index_words.specs.declared.word.Part.TheVariants.{Child, Stamp as Number, Next}
use Rattle.index_words.specs.declared.word.Word.TheVariants.{Stamp, Node, Entry}
use Rattle.index_words.specs.Words.{Memory, memory}
use Rattle.key_map.specs.Lists.{count, IsItem}
use Rattle.core_grace.specs.Holds.{HoldsNode, HoldsEntry, work_nodes}
use Rattle.core_grace.specs.Slots.{nodes_of, entries_in, own, own_free, GraceRight, KeepsEntries, SlotRule}
use Rattle.core_invariant.specs.PruneRule.{LookedRight}
use Rattle.core_invariant.specs.Meanings.{Meaning, linked_by}
use Rattle.core_invariant.specs.Numbers.{number_count, IsSpare}
use Rattle.core_invariant.specs.OwnPlaces.{KnowsPlaces}
use Rattle.core_invariant.specs.WaitingSlots.{WaitsRight}
use Rattle.core_invariant.specs.UnusedSlots.{UnusedRight}
use Rattle.core_invariant.specs.Histories.{KnowsAll, place_count, calls_left}
use Rattle.core_invariant.specs.Locks.{lock_count}
use Rattle.core_invariant.specs.BundleRule.{IsLive, IsBundle, IsPendingAt, pending_count}
use Rattle.core_invariant.specs.SeatRule.{SeatRight}
use Rattle.core_invariant.specs.PlainRule.{unset_count, owed_count, child_at, SeatPlain, PlainRight}
use Rattle.core_trees.specs.NamedTree.{NamedTree}
use Rattle.core_trees.specs.SpelledTree.{Graph}
use Rattle.core_invariant.specs.PlainTree.{SeatInTree}
use Rattle.core_invariant.specs.Reached.{plain_graph, HoldsPlain, has_let, ReachesRight, ReachRight}
use Rattle.core_invariant.specs.LinkRule.{LinksLast}
use Rattle.core_invariant.specs.SearchRule.{SearchRight}
use Rattle.core_invariant.specs.StillRule.{StillRight, KnownRight}
use Rattle.core_invariant.specs.TurnRule.{TurnsRight, LeavesMarked}
use Rattle.core_invariant.specs.SpentViews.{IsSpent}
use Rattle.core_invariant.specs.Rule.{Rule, InRule}
use Rattle.core_invariant.proofs.Frames.{bundle_weaker}
use Rattle.core_kept.proofs.OtherOrder.{tree_over, search_over}
use Rattle.core_invariant.proofs.Undone.{Passing, any_from, any_item}

module _ (v : View) (vs : List View) where
  abbrev turned : List View
  turned = vs ++ v ∷ []

  sum_turned : (f : View → ℕ) → sum_by f turned ≡ sum_by f (v ∷ vs)
  sum_turned f = omega (arith, sum_by_push f vs v, sum_by-cons f v vs)

  all_turned : (P : View → Type 0) → All P (v ∷ vs) → All P turned
  all_turned P all =
      All-append P vs (v ∷ []) (λ k d within. all (suc k) d (omega (arith, within))) (All-cons P v [] (all 0 v (omega arith)) (All-nil P))

  item_turned : (k : ℕ) (x : View) → IsItem (v ∷ vs) k x → (j : ℕ) × IsItem turned j x
  item_turned zero x at =
      (length vs, record { within = omega (arith, length-append vs (v ∷ [])); is = λ d. get_or_push vs v d (length vs) refl ∙ at.is d })
  item_turned (suc k) x at =
      (k, record { within = omega (arith, at.within, length-append vs (v ∷ [])); is = λ d. front vs k d (omega (arith, at.within)) ∙ at.is d })
    where
      front : (xs : List View) (k : ℕ) (d : View) → k < length xs → get_or (xs ++ v ∷ []) k d ≡ get_or xs k d
      front [] k d within = absurd (omega (arith, within))
      front (x ∷ xs) zero d within = refl
      front (x ∷ xs) (suc k) d within = front xs k d (omega (arith, within))

  any_turned : (test : View → Bool) → list_any test (v ∷ vs) ≡ true → list_any test turned ≡ true
  any_turned test some =
      let p : Passing test (v ∷ vs) = any_item test (v ∷ vs) some in
      let there = item_turned p.place p.item p.at in
      any_from test turned there.0 p.item there.1 p.passes

  knows_turned : (updates : List Update) → KnowsAll updates (v ∷ vs) → KnowsAll updates turned
  knows_turned updates knows =
      let there = item_turned knows.place knows.view knows.at in
      record { place = there.0; view = knows.view; at = there.1; all = knows.all }

  unheld_turned : (pick : Slots → List ℕ) (holds : View → ℕ → Type 0) → All (λ w. (k : ℕ) → holds w k → sum_by (own_free pick k) (v ∷ vs) ≡ 0) (v ∷ vs)
      → All (λ w. (k : ℕ) → holds w k → sum_by (own_free pick k) turned ≡ 0) turned
  unheld_turned pick holds all =
      all_turned (λ w. (k : ℕ) → holds w k → sum_by (own_free pick k) turned ≡ 0)
      (All-weaker (λ w. (k : ℕ) → holds w k → sum_by (own_free pick k) (v ∷ vs) ≡ 0) (λ w. (k : ℕ) → holds w k → sum_by (own_free pick k) turned ≡ 0)
      (λ w none k held. sum_turned (own_free pick k) ∙ none k held) (v ∷ vs) all)

  module _ (z : Layout) (m : Memory) (g : Meaning) (rule : Rule z m (v ∷ vs) g) where
    slots_turned : SlotRule z (linked_by g) HoldsNode (HoldsEntry g.bundles) turned
    slots_turned =
        let G : View → View → Type 0 = GraceRight HoldsNode (HoldsEntry g.bundles) in
        let K : View → Type 0 = λ w. KeepsEntries (linked_by g).entries_of w.retired × KeepsEntries (linked_by g).entries_of w.batch in
        record {
          nodes = record {
            one = λ k. ap (λ n. n + (linked_by g).nodes k) (sum_turned (own nodes_of k)) ∙ rule.slots.nodes.one k;
            unheld = unheld_turned nodes_of HoldsNode rule.slots.nodes.unheld;
          };
          entries = record {
            one = λ e. ap (λ n. n + (linked_by g).entries e) (sum_turned (own entries_in e)) ∙ rule.slots.entries.one e;
            unheld = unheld_turned entries_in (HoldsEntry g.bundles) rule.slots.entries.unheld;
          };
          grace =
              all_turned (λ w. All (G w) turned) (All-weaker (λ w. All (G w) (v ∷ vs)) (λ w. All (G w) turned)
              (λ w each. all_turned (G w) each) (v ∷ vs) rule.slots.grace);
          retired = all_turned K rule.slots.retired;
        }

    live_before : (k : ℕ) → IsLive z turned k → IsLive z (v ∷ vs) k
    live_before k live = (live.0, sym (sum_turned (own_free nodes_of k)) ∙ live.1)

    pending_turned : (k e : ℕ) → IsPendingAt (v ∷ vs) k e → IsPendingAt turned k e
    pending_turned k e is = (sum_turned (pending_count e) ∙ is.0, all_turned (λ w. 0 < pending_count e w → 0 < count k (work_nodes w)) is.1)

    bundle_turned : (k : ℕ) → IsLive z turned k → (side : Side) → IsBundle m turned g k side
    bundle_turned k live side =
        bundle_weaker (m Stamp) (λ e. m (Entry Next e)) (λ e. m (Entry Number e)) g.bundles.number (IsPendingAt (v ∷ vs) k)
        (IsPendingAt turned k) (m (Node (Head side) k))
        (g.bundles.bundle side k) (pending_turned k) (rule.bundles k (live_before k live) side)

    rule_turned : Rule z m turned g
    rule_turned = record {
      numbers = λ n. sum_turned (number_count n) ∙ rule.numbers n;
      history = record {
        long = rule.history.long;
        known = knows_turned g.updates rule.history.known;
        clients = rule.history.clients;
        places = λ n at. sum_turned (place_count n at) ∙ rule.history.places n at;
        calls = omega (arith, rule.history.calls, sum_turned calls_left);
        few = rule.history.few;
      };
      slots = slots_turned;
      locks = λ k. sum_turned (lock_count k) ∙ rule.locks k;
      tree = rule.tree;
      marks = rule.marks;
      bundles = bundle_turned;
      pairs =
          all_turned (λ w. All (LookedRight w) turned)
          (All-weaker (λ w. All (LookedRight w) (v ∷ vs)) (λ w. All (LookedRight w) turned) (λ w each. all_turned (LookedRight w) each) (v ∷ vs) rule.pairs);
      single = λ e. omega (arith, sum_turned (pending_count e), rule.single e);
      seats = all_turned (SeatRight z m g) rule.seats;
    }

    plain_turned : PlainRight m (v ∷ vs) g → PlainRight m turned g
    plain_turned right = record {
      linked = λ k side there none. right.linked k side there (sym (sum_turned (unset_count k side)) ∙ none);
      tags = λ k side there. omega (arith, right.tags k side there, sum_turned (owed_count k side));
      seats = all_turned (SeatPlain (λ s k. m (Node (Link s) k)) (child_at (λ e. m (Entry Child e)) g.bundles (m Stamp)) g.tree) right.seats;
    }

    reach_turned : (gr : Graph) → ReachRight z gr (v ∷ vs) → ReachRight z gr turned
    reach_turned gr right = all_turned (ReachesRight z gr turned) (All-weaker (ReachesRight z gr (v ∷ vs)) (ReachesRight z gr turned) own_turned (v ∷ vs) right)
      where
        own_turned : (t : View) → ReachesRight z gr (v ∷ vs) t → ReachesRight z gr turned t
        own_turned t of = record {
          there = of.there;
          unheld = λ k holds. sum_turned (own_free nodes_of k) ∙ of.unheld k holds;
          apart = of.apart;
          own = of.own;
          grace = all_turned (λ (u : View). (k : ℕ) → HoldsPlain gr t k → 0 < count k u.batch.nodes → has_let u.grace t.number t.section_word ≡ false) of.grace;
        }

    searches_turned : (gr : Graph) (now plain : NamedTree) → All (SearchRight gr (v ∷ vs) now plain) (v ∷ vs) → All (SearchRight gr turned now plain) turned
    searches_turned gr now plain right =
        all_turned (SearchRight gr turned now plain)
        (All-weaker (SearchRight gr (v ∷ vs) now plain) (SearchRight gr turned now plain) (search_over gr (v ∷ vs) turned now plain any_turned) (v ∷ vs) right)

  -- a table whose first view stands last
  pub turned_right : (z : Layout) (words : List ℕ) → InRule z words (v ∷ vs) → InRule z words (vs ++ v ∷ [])
  turned_right z words right = record {
    size = right.size;
    meaning = right.meaning;
    rule = rule_turned z (memory z words) right.meaning right.rule;
    plain = plain_turned z (memory z words) right.meaning right.rule right.plain;
    plain_tree = right.plain_tree;
    trees = tree_over (plain_graph (memory z words)) (v ∷ vs) turned right.meaning.tree right.plain_tree any_turned
        (all_turned (SeatInTree (plain_graph (memory z words)) right.plain_tree right.meaning.tree) right.trees.seats) right.trees;
    searches = searches_turned z (memory z words) right.meaning right.rule (plain_graph (memory z words)) right.meaning.tree right.plain_tree right.searches;
    reach = reach_turned z (memory z words) right.meaning right.rule (plain_graph (memory z words)) right.reach;
    turns = all_turned (TurnsRight (plain_graph (memory z words)) right.plain_tree) right.turns;
    leaving = all_turned (LeavesMarked (λ k. memory z words (Node Mark k)) right.plain_tree) right.leaving;
    still = all_turned (StillRight z (plain_graph (memory z words)) (λ side k. memory z words (Node (Tag side) k)) right.plain_tree) right.still;
    known = all_turned (KnownRight z (plain_graph (memory z words)) (λ side k. memory z words (Node (Tag side) k))) right.known;
    linking = all_turned LinksLast right.linking;
    spent = all_turned IsSpent right.spent;
    spare = all_turned (IsSpare (memory z words)) right.spare;
    places = all_turned KnowsPlaces right.places;
    waits = all_turned WaitsRight right.waits;
    unused = all_turned (UnusedRight (memory z words)) right.unused;
  }
