-- A cut keeps the rule on slots: what is cut off is linked no more, and is retired in the view that cuts.
use Rattle.std.proofs.Common.{◌≡◌, ℕ, ◌+◌, ◌≤◌, List, ◌++◌, set, arith, refl, ap, ◌∙◌, sym, inl, ◌≢◌, Some}
use Rattle.std.specs.List.{All, sum_by}
use Rattle.index_words.specs.declared.layout.Layout.{Layout}
use Rattle.index_words.specs.declared.view.View.{View}
use Rattle.index_words.specs.declared.view.reading.Reading.{Reading}
use Rattle.index_words.specs.declared.view.update.Held.{Held}
use Rattle.index_words.specs.declared.view.slots.Slots.{Slots}
use Rattle.index_words.specs.declared.view.slots.SectionFound.{SectionFound}
use Rattle.key_map.specs.Lists.{count, IsItem}
use Rattle.key_map.proofs.Counting.{count-append}
use Rattle.index_words.proofs.Seats.{Beside, sum_moved, sum_kept, at_item, all_moved, pairs_moved}
use Rattle.core_grace.specs.Slots.{nodes_of, entries_in, own, own_free, is_slot, SlotsRight, HoldsNone, GraceRight, KeepsEntries, Linked, SlotRule}
use Rattle.core_grace.proofs.SlotMoves.{slots_moved}
use Rattle.core_invariant.proofs.Frames.{every_map}

module _ (z : Layout) (linked linked' : Linked) (hn he he' : View → ℕ → Type 0) (vs : List View) (i : ℕ) (v : View) (r : Reading) (h : Held) (back : List ℕ)
    (at : IsItem vs i v) (rule : SlotRule z linked hn he vs) where
  -- the view has read other things, and has these entries retired too
  abbrev w : View
  w = record v { reading = r; held = h; retired = record v.retired { entries = v.retired.entries ++ back } }

  -- what is linked, and held, once these entries are cut off
  pub record Cuts : Type 0 where
    pub nodes : (k : ℕ) → linked'.nodes k ≡ linked.nodes k
    pub entries : (x : ℕ) → linked'.entries x + count x back ≡ linked.entries x
    pub keeps : (k x : ℕ) → count x (linked'.entries_of k) ≤ count x (linked.entries_of k)
    pub holds_node : (k : ℕ) → hn w k → hn v k
    pub holds : (x : ℕ) → he' w x → he v x
    pub others_hold : (u : View) → Beside vs i u → (x : ℕ) → he' u x → he u x

  module _ (cuts : Cuts) where
    own_now : (x : ℕ) → own entries_in x w ≡ own entries_in x v + count x back
    own_now x = omega (arith, count-append x v.retired.entries back)

    one_entry : (x : ℕ) → sum_by (own entries_in x) (set vs i w) + linked'.entries x ≡ is_slot z.entries x
    one_entry x = omega (arith, sum_moved (own entries_in x) vs i v w at, own_now x, cuts.entries x, rule.entries.one x)

    free_same : (x : ℕ) → sum_by (own_free entries_in x) (set vs i w) ≡ sum_by (own_free entries_in x) vs
    free_same x = sum_kept (own_free entries_in x) vs i v w at refl

    entries_now : SlotsRight entries_in z.entries linked'.entries he' (set vs i w)
    entries_now =
        let P : View → Type 0 = λ u. (x : ℕ) → he u x → sum_by (own_free entries_in x) vs ≡ 0 in
        let Q : View → Type 0 = λ u. (x : ℕ) → he' u x → sum_by (own_free entries_in x) (set vs i w) ≡ 0 in
        record {
          one = one_entry;
          unheld = all_moved P Q vs i v w at rule.entries.unheld
              (λ x holds. free_same x ∙ at_item P vs i v at rule.entries.unheld x (cuts.holds x holds))
              (λ u beside of x holds. free_same x ∙ of x (cuts.others_hold u beside x holds));
        }

    nodes_now : SlotsRight nodes_of z.nodes linked'.nodes hn (set vs i w)
    nodes_now =
        let moved : SlotsRight nodes_of z.nodes linked.nodes hn (set vs i w)
        = slots_moved nodes_of z.nodes linked.nodes hn vs i v w at rule.nodes (λ k. refl) (λ k. refl) (λ k holds. inl (cuts.holds_node k holds)) in
        record { one = λ k. ap (λ n. sum_by (own nodes_of k) (set vs i w) + n) (cuts.nodes k) ∙ moved.one k; unheld = moved.unheld }

    none_less : (s : Slots) (u u' : View) → ((k : ℕ) → hn u' k → hn u k) → ((x : ℕ) → he' u' x → he u x) → HoldsNone hn he s u → HoldsNone hn he' s u'
    none_less s u u' nodes entries none = record {
      nodes = λ k some holds. none.nodes k some (nodes k holds);
      entries = λ x some holds. none.entries x some (entries x holds);
    }

    grace_less : (t u u' : View) → u'.number ≡ u.number → u'.section_word ≡ u.section_word → ((k : ℕ) → hn u' k → hn u k) → ((x : ℕ) → he' u' x → he u x)
        → GraceRight hn he t u → GraceRight hn he' t u'
    grace_less t u u' number word nodes entries right = record {
      passed = every_map (λ n. u.number ≡ Some n → HoldsNone hn he t.batch u) (λ n. u'.number ≡ Some n → HoldsNone hn he' t.batch u') t.grace.passed
          (λ n known is. none_less t.batch u u' nodes entries (known (sym number ∙ is))) right.passed;
      found = every_map (λ (l : SectionFound). u.number ≡ Some l.pass → u.section_word ≢ l.word → HoldsNone hn he t.batch u)
          (λ (l : SectionFound). u'.number ≡ Some l.pass → u'.section_word ≢ l.word → HoldsNone hn he' t.batch u') t.grace.found
          (λ l known is differs. none_less t.batch u u' nodes entries (known (sym number ∙ is) (λ same. differs (word ∙ same)))) right.found;
    }

    same_grace : (u : View) → GraceRight hn he' v u → GraceRight hn he' w u
    same_grace u right = record { passed = right.passed; found = right.found }

    pairs_now : All (λ u. All (GraceRight hn he' u) (set vs i w)) (set vs i w)
    pairs_now =
        pairs_moved (GraceRight hn he) (GraceRight hn he') vs i v w at rule.grace
        (same_grace w (grace_less v v w refl refl cuts.holds_node cuts.holds
        (at_item (GraceRight hn he v) vs i v at (at_item (λ u. All (GraceRight hn he u) vs) vs i v at rule.grace))))
        (λ u beside right. same_grace u (grace_less v u u refl refl (λ k holds. holds) (cuts.others_hold u beside) right))
        (λ u beside right. grace_less u v w refl refl cuts.holds_node cuts.holds right)
        (λ t u beside other right. grace_less t u u refl refl (λ k holds. holds) (cuts.others_hold u other) right)

    Keeps : (ℕ → List ℕ) → View → Type 0
    Keeps entries u = KeepsEntries entries u.retired × KeepsEntries entries u.batch

    pub slots_cut : SlotRule z linked' hn he' (set vs i w)
    slots_cut =
        let P : View → Type 0 = λ u. KeepsEntries linked.entries_of u.retired × KeepsEntries linked.entries_of u.batch in
        let Q : View → Type 0 = λ u. KeepsEntries linked'.entries_of u.retired × KeepsEntries linked'.entries_of u.batch in
        let own : P v = at_item P vs i v at rule.retired in
        record {
          nodes = nodes_now;
          entries = entries_now;
          grace = pairs_now;
          retired = all_moved P Q vs i v w at rule.retired (
            (λ k x some here. omega (arith, own.0 k x some (omega (arith, here, cuts.keeps k x)), count-append x v.retired.entries back)),
            (λ k x some here. own.1 k x some (omega (arith, here, cuts.keeps k x))),
          )
              (λ u beside of. (
                (λ k x some here. of.0 k x some (omega (arith, here, cuts.keeps k x))),
                (λ k x some here. of.1 k x some (omega (arith, here, cuts.keeps k x))),
              ));
        }
