-- A move of one view that holds more, where nothing of it is free, and nothing of it waits in the batch of one
-- who has let the view pass.
use Rattle.std.proofs.Common.{◌≡◌, ℕ, ◌+◌, ◌<◌, List, [], ◌∷◌, Bool, true, false, not, eqb, ◌||◌, set, arith, refl, ap, ◌∙◌, sym, subst, inl, inr, Option, Some}
use Rattle.std.specs.List.{list_any, All, sum_by}
use Rattle.std.proofs.lemmas.Bool.{cases_lt, and_from, eq-eqb, ne_eqb}
use Rattle.std.proofs.lemmas.Bool.Decides.{eqb_tells}
use Rattle.index_words.specs.declared.layout.Layout.{Layout}
use Rattle.index_words.specs.declared.view.View.{View}
use Rattle.index_words.specs.declared.view.slots.Slots.{Slots}
use Rattle.index_words.specs.declared.view.slots.Looks.{Looks}
use Rattle.index_words.specs.declared.view.slots.SectionFound.{SectionFound}
use Rattle.key_map.specs.Lists.{count, has, Every, IsItem}
use Rattle.key_map.proofs.Counting.{count-has}
use Rattle.index_words.proofs.Seats.{one_term, two_terms, sum_kept, at_item, all_moved, pairs_moved}
use Rattle.core_grace.specs.Holds.{HoldsNode, HoldsEntry, entries_of}
use Rattle.core_grace.specs.Slots.{nodes_of, entries_in, own, own_free, SlotsRight, HoldsNone, GraceRight, KeepsEntries, Linked, SlotRule}
use Rattle.core_grace.proofs.RuleMoves.{same_looks}
use Rattle.core_events.specs.Versions.{slots_of}
use Rattle.core_invariant.specs.Meanings.{Meaning, linked_by}
use Rattle.core_invariant.specs.BundleRule.{IsLive}
use Rattle.core_invariant.specs.Reached.{is_late, has_let}
use Rattle.core_invariant.proofs.Frames.{Term, term_of, same_item, every_listed}
use Rattle.core_invariant.proofs.Owned.{once_entry, linked-at, slot_is}

or-true : (b : Bool) → (b || true) ≡ true
or-true true = refl
or-true false = refl

module _ (z : Layout) (linked : Linked) (hn he : View → ℕ → Type 0) (vs : List View) (rule : SlotRule z linked hn he vs) (i : ℕ) (v w : View)
    (at : IsItem vs i v) where
  slots_held : (pick : Slots → List ℕ) (size : ℕ) (l : ℕ → ℕ) (h : View → ℕ → Type 0) → SlotsRight pick size l h vs
      → ((k : ℕ) → own pick k w ≡ own pick k v) → ((k : ℕ) → own_free pick k w ≡ own_free pick k v)
      → ((k : ℕ) → h w k → sum_by (own_free pick k) vs ≡ 0) → SlotsRight pick size l h (set vs i w)
  slots_held pick size l h right same free unheld =
      let sums : (k : ℕ) → sum_by (own_free pick k) (set vs i w) ≡ sum_by (own_free pick k) vs = λ k. sum_kept (own_free pick k) vs i v w at (free k) in
      let Unheld : View → Type 0 = λ u. (k : ℕ) → h u k → sum_by (own_free pick k) vs ≡ 0 in
      let Unheld' : View → Type 0 = λ u. (k : ℕ) → h u k → sum_by (own_free pick k) (set vs i w) ≡ 0 in
      record {
        one = λ k. ap (λ n. n + l k) (sum_kept (own pick k) vs i v w at (same k)) ∙ right.one k;
        unheld = all_moved Unheld Unheld' vs i v w at right.unheld (λ k holds. sums k ∙ unheld k holds) (λ u beside of k holds. sums k ∙ of k holds);
      }

  -- the looks have let the view pass
  abbrev Lets : Looks → Type 0
  Lets looks = has_let looks v.number v.section_word ≡ true

  passed_held : (u : View) → w.number ≡ v.number → (Lets u.grace → HoldsNone hn he u.batch v → HoldsNone hn he u.batch w)
      → Every (λ n. v.number ≡ Some n → HoldsNone hn he u.batch v) u.grace.passed → Every (λ n. w.number ≡ Some n → HoldsNone hn he u.batch w) u.grace.passed
  passed_held u number none known =
      every_listed (λ n. v.number ≡ Some n → HoldsNone hn he u.batch v) (λ n. w.number ≡ Some n → HoldsNone hn he u.batch w) u.grace.passed
      (λ n listed old is. none (lets n listed (sym number ∙ is)) (old (sym number ∙ is))) known
    where
      lets : (n : ℕ) → 0 < count n u.grace.passed → v.number ≡ Some n → has_let u.grace v.number v.section_word ≡ true
      lets n listed is =
          ap (λ (o : Option ℕ). has_let u.grace o v.section_word) is
          ∙ ap (λ b. b || list_any (is_late n v.section_word) u.grace.found) (count-has n u.grace.passed listed)

  found_held : (u : View) → w.number ≡ v.number → w.section_word ≡ v.section_word → (Lets u.grace → HoldsNone hn he u.batch v → HoldsNone hn he u.batch w)
      → Every (λ (f : SectionFound). v.number ≡ Some f.pass → (v.section_word ≡ f.word → ⊥) → HoldsNone hn he u.batch v) u.grace.found
      → Every (λ (f : SectionFound). w.number ≡ Some f.pass → (w.section_word ≡ f.word → ⊥) → HoldsNone hn he u.batch w) u.grace.found
  found_held u number section none known = by u.grace.found (λ n late is. lets n late is) known
    where
      lets : (n : ℕ) → list_any (is_late n v.section_word) u.grace.found ≡ true → v.number ≡ Some n → has_let u.grace v.number v.section_word ≡ true
      lets n late is =
          ap (λ (o : Option ℕ). has_let u.grace o v.section_word) is ∙ ap (λ b. has n u.grace.passed || b) late ∙ or-true (has n u.grace.passed)

      late : (f : SectionFound) → (v.section_word ≡ f.word → ⊥) → is_late f.pass v.section_word f ≡ true
      late f differs =
          and_from (eqb f.pass f.pass) (not (eqb f.word v.section_word)) (eq-eqb f.pass f.pass refl)
          (ap not (ne_eqb f.word v.section_word (λ e. differs (sym e))))

      by : (fs : List SectionFound) → ((n : ℕ) → list_any (is_late n v.section_word) fs ≡ true → v.number ≡ Some n
          → has_let u.grace v.number v.section_word ≡ true)
          → Every (λ (f : SectionFound). v.number ≡ Some f.pass → (v.section_word ≡ f.word → ⊥) → HoldsNone hn he u.batch v) fs
          → Every (λ (f : SectionFound). w.number ≡ Some f.pass → (w.section_word ≡ f.word → ⊥) → HoldsNone hn he u.batch w) fs
      by [] let_by all = tt
      by (f ∷ fs) let_by all = (
        λ is differs.
            let other : v.section_word ≡ f.word → ⊥ = λ e. differs (section ∙ e) in
            let named : v.number ≡ Some f.pass = sym number ∙ is in
            none (let_by f.pass (ap (λ b. b || list_any (is_late f.pass v.section_word) fs) (late f other)) named) (all.0 named other),
        by fs (λ n some named. let_by n (ap (λ b. is_late n v.section_word f || b) some ∙ or-true (is_late n v.section_word f)) named) all.1,
      )

  grace_held : (u : View) → w.number ≡ v.number → w.section_word ≡ v.section_word → (Lets u.grace → HoldsNone hn he u.batch v → HoldsNone hn he u.batch w)
      → GraceRight hn he u v → GraceRight hn he u w
  grace_held u number section none right = record { passed = passed_held u number none right.passed; found = found_held u number section none right.found }

  -- such a move keeps the rule on slots
  pub holding_more : w.free ≡ v.free → w.retired ≡ v.retired → w.batch ≡ v.batch → w.grace ≡ v.grace → w.number ≡ v.number → w.section_word ≡ v.section_word
      → ((k : ℕ) → hn w k → sum_by (own_free nodes_of k) vs ≡ 0) → ((e : ℕ) → he w e → sum_by (own_free entries_in e) vs ≡ 0)
      → ((j : ℕ) (u : View) → IsItem vs j u → has_let u.grace v.number v.section_word ≡ true → HoldsNone hn he u.batch v → HoldsNone hn he u.batch w)
      → SlotRule z linked hn he (set vs i w)
  holding_more free retired batch grace number section nodes entries none =
      let Keeps : View → Type 0 = λ u. KeepsEntries linked.entries_of u.retired × KeepsEntries linked.entries_of u.batch in
      let own_row : All (GraceRight hn he v) vs = at_item (λ u. All (GraceRight hn he u) vs) vs i v at rule.grace in
      let own_keeps : Keeps v = at_item Keeps vs i v at rule.retired in
      record {
        nodes = slots_held nodes_of z.nodes linked.nodes hn rule.nodes (λ k. cc) (λ k. cc) nodes;
        entries = slots_held entries_in z.entries linked.entries he rule.entries (λ k. cc) (λ k. cc) entries;
        grace = pairs_moved (GraceRight hn he) (GraceRight hn he) vs i v w at rule.grace
            (same_looks z linked hn he v w w batch grace (grace_held v number section (none i v at) (at_item (GraceRight hn he v) vs i v at own_row)))
            (λ u beside right. same_looks z linked hn he v w u batch grace right)
            (λ u beside right. grace_held u number section (none beside.place u beside.at) right)
            (λ t u beside other right. right);
        retired = all_moved Keeps Keeps vs i v w at rule.retired
            (subst (KeepsEntries linked.entries_of) (sym retired) own_keeps.0, subst (KeepsEntries linked.entries_of) (sym batch) own_keeps.1)
            (λ u beside of. of);
      }

module _ (z : Layout) (vs : List View) (g : Meaning) (rule : SlotRule z (linked_by g) HoldsNode (HoldsEntry g.bundles) vs) where
  -- two views do not both own an entry, and one does not own it twice
  owned_once : (j l e : ℕ) (u t : View) → IsItem vs j u → IsItem vs l t → 0 < count e u.batch.entries → 0 < own entries_in e t → l ≡ j
  owned_once j l e u t of at some also =
      elim (eqb_tells l j) as (λ _. l ≡ j) [
        | inl same ↦ same.1
        | inr other ↦
            absurd (omega (
              arith,
              once_entry z vs g rule e,
              two_terms (own entries_in e) vs j u t of (record { place = l; at = at; other = other.1 }),
              some,
              also,
            ))
      ]

  -- a live node waits in the batch in which an entry of its bundles waits
  pub waits_with : (j k e : ℕ) (u : View) → IsItem vs j u → IsLive z vs k → 0 < count e (entries_of g.bundles k) → 0 < count e u.batch.entries
      → 0 < count k u.batch.nodes
  waits_with j k e u of live here some =
      elim (cases_lt 0 (count k (0 ∷ slots_of g.tree))) as (λ _. 0 < count k u.batch.nodes) [
        | inl linked ↦
            absurd (omega (
              arith,
              once_entry z vs g rule e,
              one_term (own entries_in e) vs j u of,
              some,
              linked-at g.bundles k e (0 ∷ slots_of g.tree) linked,
              here,
            ))
        | inr unlinked ↦ elim (eqb_tells 0 k) as (λ _. 0 < count k u.batch.nodes) [
          | inl root ↦ absurd (omega (arith, unlinked, subst (λ x. 0 < count x (0 ∷ slots_of g.tree)) root.1 (omega arith)))
          | inr slot ↦
              let low : 0 < k = let apart : 0 ≡ k → ⊥ = slot.1 in omega (arith, apart) in
              waits_by (term_of (own nodes_of k) vs (omega (arith, rule.nodes.one k, slot_is z.nodes k low live.0, unlinked)))
        ]
      ]
    where
      waits_by : Term (own nodes_of k) vs → 0 < count k u.batch.nodes
      waits_by term =
          let t : View = term.item in
          let keeps = at_item (λ (x : View). KeepsEntries (entries_of g.bundles) x.retired × KeepsEntries (entries_of g.bundles) x.batch) vs
          term.place t term.at rule.retired in
          elim (cases_lt 0 (count k t.retired.nodes)) as (λ _. 0 < count k u.batch.nodes) [
            | inl retired ↦
                let also = keeps.0 k e retired here in
                let is : u ≡ t = same_item vs j term.place u t of term.at (owned_once j term.place e u t of term.at some (omega (arith, also))) in
                absurd (omega (
                  arith,
                  once_entry z vs g rule e,
                  one_term (own entries_in e) vs j u of,
                  some,
                  subst (λ (x : View). 0 < count e x.retired.entries) (sym is) also,
                ))
            | inr other ↦
                let batch : 0 < count k t.batch.nodes = omega (arith, term.some, one_term (own_free nodes_of k) vs term.place t term.at, live.1, other) in
                let also = keeps.1 k e batch here in
                let is : u ≡ t = same_item vs j term.place u t of term.at (owned_once j term.place e u t of term.at some (omega (arith, also))) in
                subst (λ (x : View). 0 < count k x.batch.nodes) (sym is) batch
          ]
