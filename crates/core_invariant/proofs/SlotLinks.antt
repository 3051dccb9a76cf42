-- A free entry of a view is put into a bundle of a linked node: the rule on slots is kept.
use Rattle.std.proofs.Common.{◌≡◌, ℕ, ◌+◌, ◌<◌, ◌≤◌, ◌⊎◌, cond, List, Bool, true, false, eqb, set, arith, refl, ap, ◌∙◌, sym, subst, inl, inr, ◌≢◌, Some}
use Rattle.std.specs.List.{All, sum_by}
use Rattle.std.proofs.lemmas.Bool.{eq-eqb}
use Rattle.std.proofs.lemmas.List.Sums.{sum_by-le-sum_by}
use Rattle.index_words.specs.declared.layout.Layout.{Layout}
use Rattle.index_words.specs.declared.view.View.{View}
use Rattle.index_words.specs.declared.view.update.Held.{Held}
use Rattle.index_words.specs.declared.view.update.Updating.{Updating}
use Rattle.index_words.specs.declared.view.slots.Slots.{Slots}
use Rattle.index_words.specs.declared.view.slots.SectionFound.{SectionFound}
use Rattle.key_map.specs.Lists.{count, IsItem}
use Rattle.index_words.proofs.Seats.{Beside, sum_moved, at_item, all_moved, pairs_moved}
use Rattle.core_grace.specs.Slots.{nodes_of, entries_in, own, own_free, is_slot, SlotsRight, HoldsNone, GraceRight, KeepsEntries, Linked, SlotRule}
use Rattle.core_grace.proofs.SlotMoves.{is_slot-le, slots_moved}
use Rattle.core_invariant.proofs.Frames.{every_map}
use Rattle.core_invariant.proofs.Owned.{own_waiting, free_waits}

-- 1 at the entry, and 0 at every other
abbrev pub one_at : ℕ → ℕ → ℕ
one_at e x = cond (eqb e x) 1 0

one_at-same : (b : Bool) → b ≡ true → 0 + cond b 1 0 ≡ 1
one_at-same true e = refl
one_at-same false e = cc

module _ (z : Layout) (linked linked' : Linked) (hn he he' : View → ℕ → Type 0) (vs : List View) (i e : ℕ) (v : View) (h : Held) (p : Updating) (f : Slots) (at : IsItem vs i v) (rule : SlotRule z linked hn he vs) where
  -- the view has other locks, another update and other free slots
  abbrev w : View
  w = record v { held = h; update = p; free = f }

  -- what has changed: the entry is linked, and no longer free; the moved view, and each other, holds at most it besides
  -- what it held before
  pub record Links : Type 0 where
    pub free_nodes : w.free.nodes ≡ v.free.nodes
    pub was_free : 0 < count e v.free.entries
    pub taken : (x : ℕ) → count x w.free.entries + one_at e x ≡ count x v.free.entries
    pub nodes : (k : ℕ) → linked'.nodes k ≡ linked.nodes k
    pub entries : (x : ℕ) → linked'.entries x ≡ linked.entries x + one_at e x
    pub holds_node : (k : ℕ) → hn w k → hn v k
    pub holds : (x : ℕ) → he' w x → he v x ⊎ (x ≡ e)
    pub others_hold : (u : View) → Beside vs i u → (x : ℕ) → he' u x → he u x ⊎ (x ≡ e)
    pub keeps : (j : ℕ) (u : View) → IsItem vs j u → (k x : ℕ) → 0 < own_waiting nodes_of k u → 0 < count x (linked'.entries_of k) → 0 < count x (linked.entries_of k)

  module _ (links : Links) where
    own_now : (x : ℕ) → own entries_in x w + one_at e x ≡ own entries_in x v
    own_now x = omega (arith, links.taken x)

    one_entry : (x : ℕ) → sum_by (own entries_in x) (set vs i w) + linked'.entries x ≡ is_slot z.entries x
    one_entry x = omega (arith, sum_moved (own entries_in x) vs i v w at, own_now x, links.entries x, rule.entries.one x)

    free_less : (x : ℕ) → sum_by (own_free entries_in x) (set vs i w) ≤ sum_by (own_free entries_in x) vs
    free_less x = omega (arith, sum_moved (own_free entries_in x) vs i v w at, links.taken x)

    free_now : sum_by (own_free entries_in e) (set vs i w) ≡ 0
    free_now =
        let here : 0 + one_at e e ≡ 1 = one_at-same (eqb e e) (eq-eqb e e refl) in
        omega (arith, one_entry e, is_slot-le z.entries e, links.entries e, here, sum_by-le-sum_by (own_free entries_in e) (own entries_in e) (set vs i w) (λ u. omega arith))

    unheld_now : (u : View) → ((x : ℕ) → he u x → sum_by (own_free entries_in x) vs ≡ 0) → (u' : View) → ((x : ℕ) → he' u' x → he u x ⊎ (x ≡ e))
        → (x : ℕ) → he' u' x → sum_by (own_free entries_in x) (set vs i w) ≡ 0
    unheld_now u old u' from x holds =
        elim (from x holds) as (λ _. sum_by (own_free entries_in x) (set vs i w) ≡ 0) [
          | inl before ↦ omega (arith, old x before, free_less x)
          | inr same ↦ subst (λ y. sum_by (own_free entries_in y) (set vs i w) ≡ 0) (sym same) free_now
        ]

    entries_now : SlotsRight entries_in z.entries linked'.entries he' (set vs i w)
    entries_now =
        let P : View → Type 0 = λ u. (x : ℕ) → he u x → sum_by (own_free entries_in x) vs ≡ 0 in
        let Q : View → Type 0 = λ u. (x : ℕ) → he' u x → sum_by (own_free entries_in x) (set vs i w) ≡ 0 in
        record {
          one = one_entry;
          unheld = all_moved P Q vs i v w at rule.entries.unheld (unheld_now v (at_item P vs i v at rule.entries.unheld) w links.holds)
              (λ u beside of. unheld_now u of u (links.others_hold u beside));
        }

    nodes_now : SlotsRight nodes_of z.nodes linked'.nodes hn (set vs i w)
    nodes_now =
        let moved : SlotsRight nodes_of z.nodes linked.nodes hn (set vs i w)
        = slots_moved nodes_of z.nodes linked.nodes hn vs i v w at rule.nodes
        (λ k. omega (arith, ap (count k) links.free_nodes))
        (λ k. ap (count k) links.free_nodes) (λ k holds. inl (links.holds_node k holds)) in
        record { one = λ k. ap (λ n. sum_by (own nodes_of k) (set vs i w) + n) (links.nodes k) ∙ moved.one k; unheld = moved.unheld }

    -- the entry was free, so no batch has it
    not_waiting : (j : ℕ) (u : View) → IsItem vs j u → own_waiting entries_in e u ≡ 0
    not_waiting j u of = free_waits entries_in vs i j e v u at of (omega (arith, rule.entries.one e, is_slot-le z.entries e)) links.was_free

    none_now : (s : Slots) (u u' : View) → count e s.entries ≡ 0 → ((k : ℕ) → hn u' k → hn u k) → ((x : ℕ) → he' u' x → he u x ⊎ (x ≡ e))
        → HoldsNone hn he s u → HoldsNone hn he' s u'
    none_now s u u' apart nodes from none = record {
      nodes = λ k some holds. none.nodes k some (nodes k holds);
      entries = λ x some holds. elim (from x holds) as (λ _. ⊥) [
        | inl before ↦ none.entries x some before
        | inr same ↦ omega (arith, apart, subst (λ y. 0 < count y s.entries) same some)
      ];
    }

    grace_now : (t u u' : View) → count e t.batch.entries ≡ 0 → u'.number ≡ u.number → u'.section_word ≡ u.section_word
        → ((k : ℕ) → hn u' k → hn u k) → ((x : ℕ) → he' u' x → he u x ⊎ (x ≡ e)) → GraceRight hn he t u → GraceRight hn he' t u'
    grace_now t u u' apart number word nodes from right = record {
      passed = every_map (λ n. u.number ≡ Some n → HoldsNone hn he t.batch u) (λ n. u'.number ≡ Some n → HoldsNone hn he' t.batch u') t.grace.passed
          (λ n known is. none_now t.batch u u' apart nodes from (known (sym number ∙ is))) right.passed;
      found = every_map (λ (l : SectionFound). u.number ≡ Some l.pass → u.section_word ≢ l.word → HoldsNone hn he t.batch u)
          (λ (l : SectionFound). u'.number ≡ Some l.pass → u'.section_word ≢ l.word → HoldsNone hn he' t.batch u') t.grace.found
          (λ l known is differs. none_now t.batch u u' apart nodes from (known (sym number ∙ is) (λ same. differs (word ∙ same)))) right.found;
    }

    same_grace : (u : View) → GraceRight hn he' v u → GraceRight hn he' w u
    same_grace u right = record { passed = right.passed; found = right.found }

    batch_apart : (j : ℕ) (u : View) → IsItem vs j u → count e u.batch.entries ≡ 0
    batch_apart j u of = omega (arith, not_waiting j u of)

    pairs_now : All (λ u. All (GraceRight hn he' u) (set vs i w)) (set vs i w)
    pairs_now =
        pairs_moved (GraceRight hn he) (GraceRight hn he') vs i v w at rule.grace
        (same_grace w (grace_now v v w (batch_apart i v at) refl refl links.holds_node links.holds
        (at_item (GraceRight hn he v) vs i v at (at_item (λ u. All (GraceRight hn he u) vs) vs i v at rule.grace))))
        (λ u beside right. same_grace u (grace_now v u u (batch_apart i v at) refl refl (λ k h. h) (links.others_hold u beside) right))
        (λ u beside right. grace_now u v w (batch_apart beside.place u beside.at) refl refl links.holds_node links.holds right)
        (λ t u beside other right. grace_now t u u (batch_apart beside.place t beside.at) refl refl (λ k h. h) (links.others_hold u other) right)

    retired_now : (j : ℕ) (u : View) → IsItem vs j u → KeepsEntries linked.entries_of u.retired × KeepsEntries linked.entries_of u.batch
        → KeepsEntries linked'.entries_of u.retired × KeepsEntries linked'.entries_of u.batch
    retired_now j u of keeps = (
      (λ k x some here. keeps.0 k x some (links.keeps j u of k x (omega (arith, some)) here)),
      (λ k x some here. keeps.1 k x some (links.keeps j u of k x (omega (arith, some)) here)),
    )

    pub slots_linked : SlotRule z linked' hn he' (set vs i w)
    slots_linked =
        let P : View → Type 0 = λ u. KeepsEntries linked.entries_of u.retired × KeepsEntries linked.entries_of u.batch in
        let Q : View → Type 0 = λ u. KeepsEntries linked'.entries_of u.retired × KeepsEntries linked'.entries_of u.batch in
        record {
          nodes = nodes_now;
          entries = entries_now;
          grace = pairs_now;
          retired = all_moved P Q vs i v w at rule.retired (retired_now i v at (at_item P vs i v at rule.retired)) (λ u beside of. retired_now beside.place u beside.at of);
        }
