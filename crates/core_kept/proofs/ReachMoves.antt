-- What searches on plain links reach, where one view moves: each view reaches what one reached before, or nodes that
-- are in no free list and in no batch.
use Rattle.std.proofs.Common.{◌≡◌, ℕ, ◌<◌, ◌≤◌, ◌⊎◌, List, false, get_or, set, arith, ap, ◌∙◌, sym, subst, inl, inr, Option, None}
use Rattle.std.specs.List.{All, sum_by}
use Rattle.index_words.specs.declared.layout.Layout.{Layout}
use Rattle.index_words.specs.declared.view.View.{View}
use Rattle.index_words.specs.declared.view.slots.Slots.{Slots}
use Rattle.index_words.specs.declared.view.slots.Looks.{Looks}
use Rattle.key_map.specs.Lists.{count, IsItem}
use Rattle.index_words.proofs.Seats.{Beside, at_item, all_moved, sum_moved}
use Rattle.core_grace.specs.Slots.{own_free, nodes_of}
use Rattle.core_trees.specs.SpelledTree.{Graph}
use Rattle.core_invariant.specs.Reached.{HoldsPlain, has_let, ReachesRight, ReachRight}

-- the node is one of the table, in no free list and in no batch, and none that a seat has retired that has not raised
pub record IsClear (z : Layout) (vs : List View) (k : ℕ) : Type 0 where
  pub there : k ≤ z.nodes
  pub free : sum_by (own_free nodes_of k) vs ≡ 0
  pub batch : All (λ (u : View). count k u.batch.nodes ≡ 0) vs
  pub own : All (λ (u : View). u.update.raised ≡ None → count k u.retired.nodes ≡ 0) vs

module _ (z : Layout) (g g' : Graph) (vs : List View) (i : ℕ) (v w : View) (at : IsItem vs i v) where
  -- what the moved view keeps: it has no more free nodes, and the same batch with the same looks
  pub record KeepsLists : Type 0 where
    pub free : (k : ℕ) → own_free nodes_of k w ≤ own_free nodes_of k v
    pub batch : w.batch ≡ v.batch
    pub grace : w.grace ≡ v.grace
    pub number : w.number ≡ v.number
    pub own : w.update.raised ≡ None → (k : ℕ) → HoldsPlain g' w k → (HoldsPlain g v k × (w.section_word ≡ v.section_word)) ⊎ IsClear z vs k
        → count k w.retired.nodes ≡ 0

  -- it reaches what it reached before, in the same section, or clear nodes; the others what they reached, or clear ones
  pub record ReachesLess : Type 0 where
    pub own : (k : ℕ) → HoldsPlain g' w k → (HoldsPlain g v k × (w.section_word ≡ v.section_word)) ⊎ IsClear z vs k
    pub others : (u : View) → Beside vs i u → (k : ℕ) → HoldsPlain g' u k → HoldsPlain g u k ⊎ IsClear z vs k

  abbrev ws : List View
  ws = set vs i w

  pub reach_moved : KeepsLists → ReachesLess → ReachRight z g vs → ReachRight z g' ws
  reach_moved keeps less right = all_moved (ReachesRight z g vs) (ReachesRight z g' ws) vs i v w at right moved framed
    where
      free_sum : (k : ℕ) → sum_by (own_free nodes_of k) vs ≡ 0 → sum_by (own_free nodes_of k) ws ≡ 0
      free_sum k none = omega (arith, none, sum_moved (own_free nodes_of k) vs i v w at, keeps.free k)

      batch_is : (k : ℕ) → count k w.batch.nodes ≡ count k v.batch.nodes
      batch_is k = ap (λ (s : Slots). count k s.nodes) keeps.batch

      own_right : ReachesRight z g vs v
      own_right = at_item (ReachesRight z g vs) vs i v at right

      -- an owner has nothing of a clear node in its batch
      clear_of : (k : ℕ) (number : Option ℕ) (word : ℕ) → IsClear z vs k
          → All (λ (u : View). 0 < count k u.batch.nodes → has_let u.grace number word ≡ false) ws
      clear_of k number word clear =
          let none : (u : View) → count k u.batch.nodes ≡ 0 → 0 < count k u.batch.nodes → has_let u.grace number word ≡ false
          = λ u none some. absurd (omega (arith, none, some)) in
          all_moved (λ (u : View). count k u.batch.nodes ≡ 0)
          (λ (u : View). 0 < count k u.batch.nodes → has_let u.grace number word ≡ false) vs i v w at clear.batch
          (none w (batch_is k ∙ at_item (λ (u : View). count k u.batch.nodes ≡ 0) vs i v at clear.batch))
          (λ u beside is. none u is)

      -- and of one that was reached before what it had
      old_of : (u : View) (k : ℕ) → HoldsPlain g u k
          → All (λ (t : View). (k : ℕ) → HoldsPlain g u k → 0 < count k t.batch.nodes → has_let t.grace u.number u.section_word ≡ false) vs
          → All (λ (t : View). 0 < count k t.batch.nodes → has_let t.grace u.number u.section_word ≡ false) ws
      old_of u k holds all =
          all_moved (λ (t : View). (k : ℕ) → HoldsPlain g u k → 0 < count k t.batch.nodes → has_let t.grace u.number u.section_word ≡ false)
          (λ (t : View). 0 < count k t.batch.nodes → has_let t.grace u.number u.section_word ≡ false) vs i v w at all
          (λ some. subst (λ (l : Looks). has_let l u.number u.section_word ≡ false) (sym keeps.grace)
          (at_item (λ (t : View). (k : ℕ) → HoldsPlain g u k → 0 < count k t.batch.nodes → has_let t.grace u.number u.section_word ≡ false) vs i v at all k
          holds (omega (arith, some, batch_is k))))
          (λ t beside of some. of k holds some)

      framed : (u : View) → Beside vs i u → ReachesRight z g vs u → ReachesRight z g' ws u
      framed u beside of = record {
        there = λ k holds. elim (less.others u beside k holds) as (λ _. k ≤ z.nodes) [ inl old ↦ of.there k old | inr clear ↦ clear.there ];
        own = λ raised k holds. elim (less.others u beside k holds) as (λ _. count k u.retired.nodes ≡ 0) [
          | inl old ↦ of.own raised k old
          | inr clear ↦ at_item (λ (t : View). t.update.raised ≡ None → count k t.retired.nodes ≡ 0) vs beside.place u beside.at clear.own raised
        ];
        unheld = λ k holds. elim (less.others u beside k holds) as (λ _. sum_by (own_free nodes_of k) ws ≡ 0) [
          | inl old ↦ free_sum k (of.unheld k old)
          | inr clear ↦ free_sum k clear.free
        ];
        apart = λ k holds. elim (less.others u beside k holds) as (λ _. count k u.batch.nodes ≡ 0) [
          | inl old ↦ of.apart k old
          | inr clear ↦ at_item (λ (t : View). count k t.batch.nodes ≡ 0) vs beside.place u beside.at clear.batch
        ];
        grace = λ j d within k holds.
            elim (less.others u beside k holds) as (λ _. 0 < count k (get_or ws j d).batch.nodes
            → has_let (get_or ws j d).grace u.number u.section_word ≡ false) [
              | inl old ↦ old_of u k old of.grace j d within
              | inr clear ↦ clear_of k u.number u.section_word clear j d within
            ];
      }

      own_grace : (k : ℕ) → (HoldsPlain g v k × (w.section_word ≡ v.section_word)) ⊎ IsClear z vs k
          → All (λ (u : View). 0 < count k u.batch.nodes → has_let u.grace w.number w.section_word ≡ false) ws
      own_grace k (inl old) =
          subst (λ (n : Option ℕ). All (λ (u : View). 0 < count k u.batch.nodes → has_let u.grace n w.section_word ≡ false) ws) (sym keeps.number)
          (subst (λ (x : ℕ). All (λ (u : View). 0 < count k u.batch.nodes → has_let u.grace v.number x ≡ false) ws) (sym old.1)
          (old_of v k old.0 own_right.grace))
      own_grace k (inr clear) = clear_of k w.number w.section_word clear

      moved : ReachesRight z g' ws w
      moved = record {
        there = λ k holds. elim (less.own k holds) as (λ _. k ≤ z.nodes) [ inl old ↦ own_right.there k old.0 | inr clear ↦ clear.there ];
        own = λ raised k holds. keeps.own raised k holds (less.own k holds);
        unheld = λ k holds. elim (less.own k holds) as (λ _. sum_by (own_free nodes_of k) ws ≡ 0) [
          | inl old ↦ free_sum k (own_right.unheld k old.0)
          | inr clear ↦ free_sum k clear.free
        ];
        apart = λ k holds. elim (less.own k holds) as (λ _. count k w.batch.nodes ≡ 0) [
          | inl old ↦ batch_is k ∙ own_right.apart k old.0
          | inr clear ↦ batch_is k ∙ at_item (λ (t : View). count k t.batch.nodes ≡ 0) vs i v at clear.batch
        ];
        grace = λ j d within k holds. own_grace k (less.own k holds) j d within;
      }
