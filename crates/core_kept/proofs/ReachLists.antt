-- What searches on plain links reach, where the lists of slots of one view change: the retired slots become a batch, a
-- batch becomes free, a look is made, or another seat's slots are taken in.
use Rattle.std.proofs.Common.{◌≡◌, ℕ, ◌<◌, ◌≤◌, List, false, set, arith, refl, sym, subst, Option, Some, None}
use Rattle.std.specs.List.{sum_by}
use Rattle.index_words.specs.declared.layout.Layout.{Layout}
use Rattle.index_words.specs.declared.view.View.{View}
use Rattle.index_words.specs.Views.{no_looks}
use Rattle.key_map.specs.Lists.{count, IsItem}
use Rattle.index_words.proofs.Seats.{Beside, at_item, all_moved, sum_moved}
use Rattle.core_grace.specs.Slots.{own_free, nodes_of}
use Rattle.core_trees.specs.SpelledTree.{Graph}
use Rattle.core_invariant.specs.Reached.{HoldsPlain, has_let, ReachesRight, ReachRight}

-- looks of nobody let nobody pass
pub none_let : (number : Option ℕ) (word : ℕ) → has_let no_looks number word ≡ false
none_let None word = refl
none_let (Some n) word = refl

module _ (z : Layout) (g : Graph) (vs : List View) (i : ℕ) (v w : View) (at : IsItem vs i v) where
  abbrev ws : List View
  ws = set vs i w

  -- the view has other lists, and reaches the same; what it has in its batch others reach only where they are not let
  -- pass
  pub record ListsMoved : Type 0 where
    pub mine : (k : ℕ) → HoldsPlain g w k → own_free nodes_of k w ≤ own_free nodes_of k v
    pub free : (u : View) → Beside vs i u → ReachesRight z g vs u → (k : ℕ) → HoldsPlain g u k → own_free nodes_of k w ≤ own_free nodes_of k v
    pub own : (k : ℕ) → HoldsPlain g w k → HoldsPlain g v k × (count k w.batch.nodes ≡ 0)
    pub same : (k : ℕ) → HoldsPlain g w k → (w.number ≡ v.number) × (w.section_word ≡ v.section_word)
    pub kept : w.update.raised ≡ None → (k : ℕ) → HoldsPlain g w k → count k w.retired.nodes ≡ 0
    pub lets : (u : View) → Beside vs i u → ReachesRight z g vs u → (k : ℕ) → HoldsPlain g u k → 0 < count k w.batch.nodes
        → has_let w.grace u.number u.section_word ≡ false

  pub lists_moved : ListsMoved → ReachRight z g vs → ReachRight z g ws
  lists_moved moves right = all_moved (ReachesRight z g vs) (ReachesRight z g ws) vs i v w at right moved framed
    where
      own_right : ReachesRight z g vs v
      own_right = at_item (ReachesRight z g vs) vs i v at right

      less : (k : ℕ) → own_free nodes_of k w ≤ own_free nodes_of k v → sum_by (own_free nodes_of k) vs ≡ 0 → sum_by (own_free nodes_of k) ws ≡ 0
      less k no_more none = omega (arith, none, sum_moved (own_free nodes_of k) vs i v w at, no_more)

      framed : (u : View) → Beside vs i u → ReachesRight z g vs u → ReachesRight z g ws u
      framed u beside of = record {
        there = of.there;
        own = of.own;
        unheld = λ k holds. less k (moves.free u beside of k holds) (of.unheld k holds);
        apart = of.apart;
        grace = all_moved (λ (t : View). (k : ℕ) → HoldsPlain g u k → 0 < count k t.batch.nodes → has_let t.grace u.number u.section_word ≡ false)
            (λ (t : View). (k : ℕ) → HoldsPlain g u k → 0 < count k t.batch.nodes → has_let t.grace u.number u.section_word ≡ false) vs i v w at of.grace
            (λ k holds some. moves.lets u beside of k holds some) (λ t other is. is);
      }

      grace_of : (t : View) → ((k : ℕ) → HoldsPlain g v k → 0 < count k t.batch.nodes → has_let t.grace v.number v.section_word ≡ false)
          → (k : ℕ) → HoldsPlain g w k → 0 < count k t.batch.nodes → has_let t.grace w.number w.section_word ≡ false
      grace_of t of k holds some =
          subst (λ (n : Option ℕ). has_let t.grace n w.section_word ≡ false) (sym (moves.same k holds).0)
          (subst (λ (x : ℕ). has_let t.grace v.number x ≡ false) (sym (moves.same k holds).1) (of k (moves.own k holds).0 some))

      moved : ReachesRight z g ws w
      moved = record {
        there = λ k holds. own_right.there k (moves.own k holds).0;
        own = moves.kept;
        unheld = λ k holds. less k (moves.mine k holds) (own_right.unheld k (moves.own k holds).0);
        apart = λ k holds. (moves.own k holds).1;
        grace = all_moved (λ (t : View). (k : ℕ) → HoldsPlain g v k → 0 < count k t.batch.nodes → has_let t.grace v.number v.section_word ≡ false)
            (λ (t : View). (k : ℕ) → HoldsPlain g w k → 0 < count k t.batch.nodes → has_let t.grace w.number w.section_word ≡ false) vs i v w at own_right.grace
            (λ k holds some. absurd (omega (arith, some, (moves.own k holds).1))) (λ t beside of. grace_of t of);
      }
