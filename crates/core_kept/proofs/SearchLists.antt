-- The plain tree, what searches claim and what they reach, where the lists of slots of one view change: the retired
-- slots become a batch, or a batch becomes free.
use Rattle.std.proofs.Common.{◌≡◌, ℕ, ◌<◌, ◌≤◌, cond, List, Bool, true, false, ◌||◌, set, arith, refl, ap, ◌∙◌, sym, subst, inl, inr, Option, Some, None}
use Rattle.std.proofs.lemmas.Bool.{cases_lt}
use Rattle.index_words.specs.declared.layout.Layout.{Layout}
use Rattle.index_words.specs.declared.side.Side.TheVariants.{Right}
use Rattle.index_words.specs.declared.view.View.{View}
use Rattle.index_words.specs.declared.view.reading.Reading.{Reading}
use Rattle.index_words.specs.declared.word.Word.TheVariants.{Section}
use Rattle.index_words.specs.Views.{no_slots, no_looks}
use Rattle.index_words.specs.Words.{Memory}
use Rattle.key_map.specs.Lists.{count, has, IsItem}
use Rattle.key_map.proofs.Counting.{count-append}
use Rattle.index_words.proofs.Seats.{Beside, at_item}
use Rattle.core_grace.specs.Batches.{all_passed, batch_freed, batch_taken, is_empty, settled}
use Rattle.core_grace.specs.Holds.{held_slots}
use Rattle.core_grace.specs.Sections.{is_even}
use Rattle.core_grace.specs.Slots.{own_free, nodes_of}
use Rattle.core_grace.proofs.RuleMoves.{all_passed-has}
use Rattle.core_trees.specs.NamedTree.{NamedTree}
use Rattle.core_trees.specs.SpelledTree.{Graph}
use Rattle.core_events.specs.Searches.{turn_key, search_nodes}
use Rattle.core_events.proofs.Tests.{never}
use Rattle.core_invariant.specs.Meanings.{Meaning}
use Rattle.core_invariant.specs.Reached.{HoldsPlain, has_let, ReachesRight}
use Rattle.core_invariant.specs.Rule.{Rule}
use Rattle.core_invariant.specs.SearchRule.{ClaimsAt, SearchRight}
use Rattle.core_invariant.specs.SectionRule.{IsOwnWord}
use Rattle.core_invariant.proofs.Idle.{number_low, number_apart}
use Rattle.core_invariant.proofs.OneView.{seat_at, set_same}
use Rattle.core_kept.specs.SearchLaws.{SearchesAfter}
use Rattle.core_kept.proofs.ReachLists.{ListsMoved, lists_moved, none_let}
use Rattle.core_kept.proofs.SearchMoves.{NoClaims, SearchStep, own_moved, same_undone, same_waits, searches_moved, tree_moved, work_of}
use Rattle.core_kept.proofs.SearchSteps.{PlaceSaid, LinksSaid}

-- the view has other lists of slots and other looks, and knows of other words that it has filled; the rest is as it was
pub record OnlyLists (v w : View) : Type 0 where
  pub update : work_of w.update ≡ work_of v.update
  pub held : held_slots w.held.nodes ≡ held_slots v.held.nodes
  pub reading : w.reading ≡ record v.reading { filled = w.reading.filled }
  pub number : w.number ≡ v.number
  pub word : w.section_word ≡ v.section_word

module _ (z : Layout) (g : Graph) (vs : List View) (now : NamedTree) (i : ℕ) (v w : View) (at : IsItem vs i v) (only : OnlyLists v w) where
  pub same_holds : (k : ℕ) → HoldsPlain g w k → HoldsPlain g v k
  same_holds k holds = record {
    inside = ap is_even (sym only.word) ∙ holds.inside;
    some = holds.some;
    from = holds.from;
    searched = subst (λ (r : Reading). 0 < count holds.from (search_nodes (g.child Right 0) r)) only.reading holds.searched;
    reached = holds.reached;
  }

  step : (C : Option ℕ → Option ℕ → ℕ → Type 0) → SearchStep C g.key v w
  step C = record {
    place = λ said. subst (λ (r : Reading). PlaceSaid C g.key (turn_key r.right_turn) (turn_key r.left_turn) r.place) (sym only.reading) said;
    links = λ said. subst (λ (r : Reading). LinksSaid C g.key r.links) (sym only.reading) said;
  }

  pub lists_after : ListsMoved z g vs i v w at → SearchesAfter z g vs now → SearchesAfter z g (set vs i w) now
  lists_after moves before =
      let plain = before.plain_tree in
      record {
        plain_tree = plain;
        trees =
            tree_moved g vs i v w at now plain (record {
              update = only.update;
              locked = λ k locked here. inl (subst (λ (ks : List ℕ). 0 < count k ks) only.held locked);
            }) before.trees;
        searches =
            searches_moved g vs i v w at now plain (same_undone g vs i v w at now plain only.update).passes
            (λ t beside. same_waits g vs i v w at now plain only.update t)
            (own_moved g vs i v w at now plain only.update only.number only.word same_holds (step NoClaims) (step (ClaimsAt g vs plain v))
            (at_item (SearchRight g vs now plain) vs i v at before.searches)) before.searches;
        reach = lists_moved z g vs i v w at moves before.reach;
      }

not_both : (b : Bool) → b ≡ true → b ≡ false → ⊥
not_both true on off = cc
not_both false on off = cc

left_true : (a b : Bool) → a ≡ true → (a || b) ≡ true
left_true true b is = refl
left_true false b is = cc

-- inside a section a seat has a number
nameless_outside : (word : ℕ → ℕ) (number : Option ℕ) (held : ℕ) → IsOwnWord word number held → is_even held ≡ false → number ≡ None → ⊥
nameless_outside word None held own inside none = never (sym inside ∙ ap is_even own)
nameless_outside word (Some n) held own inside none = cc

module _ (z : Layout) (g : Graph) (now : NamedTree) where
  -- the retired slots become the batch, where the view has not raised: so it reaches none of them
  taken_by : (vs : List View) (i : ℕ) (v : View) (b : Bool) → IsItem vs i v → v.update.raised ≡ None → SearchesAfter z g vs now
      → SearchesAfter z g (set vs i (cond b (record v { retired = no_slots; batch = v.retired; grace = no_looks }) v)) now
  taken_by vs i v true at unraised before =
      let w : View = record v { retired = no_slots; batch = v.retired; grace = no_looks } in
      let own : ReachesRight z g vs v = at_item (ReachesRight z g vs) vs i v at before.reach in
      let only : OnlyLists v w = record { update = refl; held = refl; reading = refl; number = refl; word = refl } in
      lists_after z g vs now i v w at only (record {
        mine = λ k holds. omega arith;
        free = λ u beside of k holds. omega arith;
        own = λ k holds. (same_holds z g vs now i v w at only k holds, own.own unraised k (same_holds z g vs now i v w at only k holds));
        same = λ k holds. (refl, refl);
        kept = λ raised k holds. refl;
        lets = λ u beside of k holds some. none_let u.number u.section_word;
      }) before
  taken_by vs i v false at unraised before = subst (λ (us : List View). SearchesAfter z g us now) (sym (set_same vs i v at)) before

  pub taken_after : (vs : List View) (i : ℕ) (v : View) → IsItem vs i v → v.update.raised ≡ None → SearchesAfter z g vs now
      → SearchesAfter z g (set vs i (batch_taken v)) now
  taken_after vs i v at unraised before = taken_by vs i v (is_empty v.batch) at unraised before

  module _ (m : Memory) (vs : List View) (h : Meaning) (rule : Rule z m vs h) (i : ℕ) (v : View) (at : IsItem vs i v) where
    -- where each other pass was passed a seat inside a section was let pass
    all_let : (u : View) → Beside vs i u → is_even u.section_word ≡ false → all_passed z.passes v.number v.grace.passed ≡ true
        → has_let v.grace u.number u.section_word ≡ true
    all_let u beside inside done = by u.number refl
      where
        by : (o : Option ℕ) → u.number ≡ o → has_let v.grace o u.section_word ≡ true
        by None is =
            absurd (nameless_outside (λ n. m (Section n)) u.number u.section_word (seat_at z m vs h beside.place u beside.at rule).section.section inside is)
        by (Some n) is =
            left_true (has n v.grace.passed) _
            (all_passed-has z.passes n v.number v.grace.passed done (number_low z vs beside.place u n rule.numbers beside.at is)
            (number_apart z vs i v u n rule.numbers at beside is))

    -- so it reaches no node of the batch
    batch_unheld : (u : View) → Beside vs i u → ReachesRight z g vs u → all_passed z.passes v.number v.grace.passed ≡ true → (k : ℕ) → HoldsPlain g u k
        → count k v.batch.nodes ≡ 0
    batch_unheld u beside of done k holds = elim (cases_lt 0 (count k v.batch.nodes)) as (λ _. count k v.batch.nodes ≡ 0) [
      | inl some ↦
          let waits : has_let v.grace u.number u.section_word ≡ false
          = at_item (λ (t : View). (j : ℕ) → HoldsPlain g u j → 0 < count j t.batch.nodes → has_let t.grace u.number u.section_word ≡ false) vs
          i v at of.grace k holds some in
          absurd (not_both (has_let v.grace u.number u.section_word) (all_let u beside holds.inside done) waits)
      | inr none ↦ omega (arith, none)
    ]

    freed_by : (b : Bool) → all_passed z.passes v.number v.grace.passed ≡ b → SearchesAfter z g vs now
        → SearchesAfter z g (set vs i (cond b (batch_freed v) v)) now
    freed_by true done before =
        let w : View = batch_freed v in
        let own : ReachesRight z g vs v = at_item (ReachesRight z g vs) vs i v at before.reach in
        let only : OnlyLists v w = record { update = refl; held = refl; reading = refl; number = refl; word = refl } in
        let back : (k : ℕ) → HoldsPlain g w k → HoldsPlain g v k = same_holds z g vs now i v w at only in
        let more : (k : ℕ) → count k v.batch.nodes ≡ 0 → own_free nodes_of k w ≤ own_free nodes_of k v
        = λ k none. omega (arith, none, count-append k v.free.nodes v.batch.nodes) in
        lists_after z g vs now i v w at only (record {
          mine = λ k holds. more k (own.apart k (back k holds));
          free = λ u beside of k holds. more k (batch_unheld u beside of done k holds);
          own = λ k holds. (back k holds, refl);
          same = λ k holds. (refl, refl);
          kept = λ raised k holds. own.own raised k (back k holds);
          lets = λ u beside of k holds some. absurd (omega (arith, some));
        }) before
    freed_by false done before = subst (λ (us : List View). SearchesAfter z g us now) (sym (set_same vs i v at)) before

    -- the batch becomes free
    pub settled_after : SearchesAfter z g vs now → SearchesAfter z g (set vs i (settled z.passes v)) now
    settled_after before = freed_by (all_passed z.passes v.number v.grace.passed) refl before
