-- A seat that is made, or split off: the plain tree stays, and with it what searches claim and what they reach.
use Rattle.std.proofs.Common.{◌≡◌, ℕ, ◌<◌, List, [], ◌∷◌, ◌++◌, ◌||◌, Bool, true, false, set, arith, refl, ap, ◌+◌, ◌∙◌, sym, subst, inl, Option}
use Rattle.std.specs.List.{All, list_any}
use Rattle.std.proofs.lemmas.List.Elements.{All-push, All-weaker}
use Rattle.index_words.specs.declared.layout.Layout.{Layout}
use Rattle.index_words.specs.declared.view.View.{View}
use Rattle.index_words.proofs.Seats.{at_item, all_moved, sum_split}
use Rattle.index_words.specs.declared.view.reading.Reading.{Reading}
use Rattle.index_words.specs.declared.view.slots.Looks.{Looks}
use Rattle.index_words.specs.Views.{no_reading, no_update}
use Rattle.index_words.specs.declared.side.Side.TheVariants.{Right}
use Rattle.key_map.specs.Lists.{count, IsItem}
use Rattle.core_grace.specs.Holds.{held_slots}
use Rattle.core_grace.specs.Sections.{is_even}
use Rattle.core_events.specs.Searches.{turn_key, search_nodes}
use Rattle.core_grace.specs.Slots.{own_free, nodes_of}
use Rattle.core_trees.specs.NamedTree.{NamedTree}
use Rattle.core_trees.specs.SpelledTree.{Graph}
use Rattle.core_events.proofs.Tests.{never}
use Rattle.core_invariant.specs.PlainTree.{SeatInTree, IsPlainTree}
use Rattle.core_invariant.specs.Reached.{HoldsPlain, has_let, ReachesRight, ReachRight}
use Rattle.core_invariant.specs.SearchRule.{ClaimsAt, SearchRight}
use Rattle.core_kept.proofs.OtherOrder.{tree_over, search_over}
use Rattle.core_kept.proofs.RestingSeats.{rests_in_tree, rests_search, rests_reach}
use Rattle.core_kept.proofs.SearchMoves.{same_undone, tree_moved, searches_moved, same_waits, own_moved, work_of, Work, SearchStep, NoClaims}
use Rattle.core_kept.proofs.SearchSteps.{PlaceSaid, LinksSaid}

either : (b c d : Bool) → (c ≡ true → d ≡ true) → (b || c) ≡ true → (b || d) ≡ true
either true c d more some = refl
either false c d more some = more some

pub any_push : {X : Type 0} (test : X → Bool) (xs : List X) (y : X) → list_any test xs ≡ true → list_any test (xs ++ y ∷ []) ≡ true
any_push test [] y some = absurd (never some)
any_push test (x ∷ xs) y some = either (test x) (list_any test xs) (list_any test (xs ++ y ∷ [])) (any_push test xs y) some

-- the view searches as before, waits as before, and has the same to do
pub record SameSeat (v w : View) : Type 0 where
  pub work : work_of w.update ≡ work_of v.update
  pub number : w.number ≡ v.number
  pub word : w.section_word ≡ v.section_word
  pub reading : w.reading ≡ v.reading
  pub held : held_slots w.held.nodes ≡ held_slots v.held.nodes
  pub batch : w.batch.nodes ≡ v.batch.nodes
  pub retired : w.retired.nodes ≡ v.retired.nodes
  pub grace : w.grace ≡ v.grace

-- the view has nothing but free slots
pub record OnlyFree (y : View) : Type 0 where
  pub reading : y.reading ≡ no_reading
  pub update : y.update ≡ no_update
  pub held : y.held.nodes ≡ []
  pub word : is_even y.section_word ≡ true
  pub batch : y.batch.nodes ≡ []

module _ (z : Layout) (g : Graph) (vs : List View) (i : ℕ) (v left right : View) (at : IsItem vs i v) (same : SameSeat v left) (bare : OnlyFree right) where
  abbrev us : List View
  us = set vs i left

  abbrev ws : List View
  ws = us ++ right ∷ []

  any_pushed : (test : View → Bool) → list_any test us ≡ true → list_any test ws ≡ true
  any_pushed test some = any_push test us right some

  back : (k : ℕ) → HoldsPlain g left k → HoldsPlain g v k
  back k holds = record {
    inside = ap is_even (sym same.word) ∙ holds.inside;
    some = holds.some;
    from = holds.from;
    searched = subst (λ (r : Reading). 0 < count holds.from (search_nodes (g.child Right 0) r)) same.reading holds.searched;
    reached = holds.reached;
  }

  step : (C : Option ℕ → Option ℕ → ℕ → Type 0) → SearchStep C g.key v left
  step C = record {
    place = λ said. subst (λ (r : Reading). PlaceSaid C g.key (turn_key r.right_turn) (turn_key r.left_turn) r.place) (sym same.reading) said;
    links = λ said. subst (λ (r : Reading). LinksSaid C g.key r.links) (sym same.reading) said;
  }

  first_tree : (now plain : NamedTree) → IsPlainTree g vs now plain → IsPlainTree g us now plain
  first_tree now plain trees =
      tree_moved g vs i v left at now plain (record {
        update = same.work;
        locked = λ k locked here. inl (subst (λ (hs : List ℕ). 0 < count k hs) same.held locked);
      }) trees

  pub tree_made : (now plain : NamedTree) → IsPlainTree g vs now plain → IsPlainTree g ws now plain
  tree_made now plain trees =
      let first : IsPlainTree g us now plain = first_tree now plain trees in
      tree_over g us ws now plain any_pushed (All-push (SeatInTree g plain now) us right first.seats
      (rests_in_tree g plain now right bare.held bare.update)) first

  first_searches : (now plain : NamedTree) → All (SearchRight g vs now plain) vs → All (SearchRight g us now plain) us
  first_searches now plain all =
      searches_moved g vs i v left at now plain (λ k out. (same_undone g vs i v left at now plain same.work).passes k out)
      (λ t beside. same_waits g vs i v left at now plain same.work t)
      (own_moved g vs i v left at now plain same.work same.number same.word back (step NoClaims) (step (ClaimsAt g vs plain v))
      (at_item (SearchRight g vs now plain) vs i v at all)) all

  pub searches_made : (now plain : NamedTree) → All (SearchRight g vs now plain) vs → All (SearchRight g ws now plain) ws
  searches_made now plain all =
      All-push (SearchRight g ws now plain) us right
      (All-weaker (SearchRight g us now plain) (SearchRight g ws now plain) (search_over g us ws now plain any_pushed) us (first_searches now plain all))
      (rests_search g ws now plain right bare.reading bare.word)

  -- the seat lets the other one pass no node of its batch that this one holds
  abbrev Waits : View → View → Type 0
  Waits t u = (k : ℕ) → HoldsPlain g t k → 0 < count k u.batch.nodes → has_let u.grace t.number t.section_word ≡ false

  grace_over : (t : View) → All (Waits t) vs → All (Waits t) ws
  grace_over t all =
      All-push (Waits t) us right (all_moved (Waits t) (Waits t) vs i v left at all (own (at_item (Waits t) vs i v at all)) (λ u beside is. is)) new
    where
      own : Waits t v → Waits t left
      own is k holds some =
          subst (λ (l : Looks). has_let l t.number t.section_word ≡ false) (sym same.grace)
          (is k holds (subst (λ (xs : List ℕ). 0 < count k xs) same.batch some))

      new : Waits t right
      new k holds some = absurd (omega (arith, some, ap (λ (xs : List ℕ). count k xs) bare.batch))

  module _ (free : (k : ℕ) → own_free nodes_of k left + own_free nodes_of k right ≡ own_free nodes_of k v) where
    framed : (t : View) → ReachesRight z g vs t → ReachesRight z g ws t
    framed t of = record {
      there = of.there;
      unheld = λ k holds. sum_split (own_free nodes_of k) vs i v left right at (free k) ∙ of.unheld k holds;
      apart = of.apart;
      own = of.own;
      grace = grace_over t of.grace;
    }

    pub reach_made : ReachRight z g vs → ReachRight z g ws
    reach_made all =
        All-push (ReachesRight z g ws) us right (all_moved (ReachesRight z g vs) (ReachesRight z g ws) vs i v left at all own (λ t beside. framed t))
        (rests_reach z g ws right bare.word)
      where
        before : ReachesRight z g ws v
        before = framed v (at_item (ReachesRight z g vs) vs i v at all)

        own : ReachesRight z g ws left
        own = record {
          there = λ k holds. before.there k (back k holds);
          unheld = λ k holds. before.unheld k (back k holds);
          apart = λ k holds. ap (λ (xs : List ℕ). count k xs) same.batch ∙ before.apart k (back k holds);
          own = λ raised k holds.
              ap (λ (xs : List ℕ). count k xs) same.retired ∙ before.own (ap (λ (y : Work). y.raised) (sym same.work) ∙ raised) k (back k holds);
          grace = All-weaker (Waits v) (Waits left) mine ws before.grace;
        }
          where
            mine : (u : View) → Waits v u → Waits left u
            mine u is k holds some =
                subst (λ (o : Option ℕ). has_let u.grace o left.section_word ≡ false) (sym same.number)
                (subst (λ x. has_let u.grace v.number x ≡ false) (sym same.word) (is k (back k holds) some))
