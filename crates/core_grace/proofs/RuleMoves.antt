-- Moves of one view that keep the whole rule on slots.
use Rattle.std.proofs.Common.{◌≡◌, ◌≢◌, ℕ, ◌+◌, ◌<◌, ◌⊎◌, cond, List, [], ◌∷◌, ◌++◌, Bool, true, false, zero, suc, eqb, ◌&&◌, ◌||◌, set, arith, refl, ap, ◌∙◌, sym, subst, inl, inr, Option, Some, None, not, find}
use Rattle.std.specs.Option.{option_map}
use Rattle.std.specs.List.{All}
use Rattle.std.proofs.lemmas.Bool.{eqb-true, eq-eqb, and_parts}
use Rattle.std.proofs.lemmas.Bool.Decides.{eqb_tells}
use Rattle.index_words.specs.declared.layout.Layout.{Layout}
use Rattle.index_words.specs.declared.view.View.{View}
use Rattle.index_words.specs.declared.view.slots.Slots.{Slots}
use Rattle.index_words.specs.declared.view.slots.Looks.{Looks}
use Rattle.index_words.specs.declared.view.slots.SectionFound.{SectionFound}
use Rattle.index_words.specs.Views.{no_slots, no_looks}
use Rattle.key_map.specs.Lists.{count, has, Every, IsItem}
use Rattle.index_words.proofs.Seats.{Beside, at_item, all_moved, pairs_moved, one_term}
use Rattle.key_map.proofs.Counting.{count-append}
use Rattle.core_grace.specs.Sections.{is_even}
use Rattle.core_grace.specs.Batches.{looked_at, lets_pass, first_found, both, is_number, all_passed}
use Rattle.core_grace.specs.Slots.{nodes_of, entries_in, own, own_free, HoldsNone, GraceRight, KeepsEntries, Linked, SlotRule}
use Rattle.core_grace.proofs.SlotMoves.{slots_moved, slots_freed, linked_alone}

-- a list with a property, under an implication at each item
pub every_weaker : {X : Type 0} (P Q : X → Type 0) (xs : List X) → ((x : X) → P x → Q x) → Every P xs → Every Q xs
every_weaker P Q [] step all = tt
every_weaker P Q (x ∷ xs) step all = (step x all.0, every_weaker P Q xs step all.1)

-- a list in which no number occurs
abbrev pub no_batch : Slots → Type 0
no_batch s = ((k : ℕ) → count k s.nodes ≡ 0) × ((e : ℕ) → count e s.entries ≡ 0)

pub every_push : {X : Type 0} (P : X → Type 0) (xs : List X) (y : X) → Every P xs → P y → Every P (xs ++ y ∷ [])
every_push P [] y all last = (last, tt)
every_push P (x ∷ xs) y all last = (all.0, every_push P xs y all.1 last)

every_has_step : (P : ℕ → Type 0) (n x : ℕ) (b c : Bool) → eqb x n ≡ b → P x → (b || c) ≡ true → (c ≡ true → P n) → P n
every_has_step P n x true c e here some later = let same : x ≡ n = eqb-true x n e in subst P same here
every_has_step P n x false c e here some later = later some

pub every_has : (P : ℕ → Type 0) (n : ℕ) (xs : List ℕ) → Every P xs → has n xs ≡ true → P n
every_has P n [] all e = cc
every_has P n (x ∷ xs) all e = every_has_step P n x (eqb x n) (has n xs) refl all.0 e (every_has P n xs all.1)

or_right : (a b : Bool) → (a || b) ≡ true → a ≡ false → b ≡ true
or_right true b some none = cc
or_right false b some none = some

passed_step : (n j : ℕ) (a b c r : Bool) → n < suc j → ((a || b) && r) ≡ true → (n ≡ j → a ≡ false) → (n ≡ j → b ≡ c) → (n < j → r ≡ true → c ≡ true) → c ≡ true
passed_step n j a b c r low done mine this rest =
    let parts = and_parts (a || b) r done in
    elim (eqb_tells n j) as (λ _. c ≡ true) [
      | inl same ↦ sym (this same.1) ∙ or_right a b parts.0 (mine same.1)
      | inr other ↦ let differs : n ≡ j → ⊥ = other.1 in rest (omega (arith, differs)) parts.1
    ]

-- if every pass is this one or was passed, each other one was passed
pub all_passed-has : (passes n : ℕ) (number : Option ℕ) (passed : List ℕ) → all_passed passes number passed ≡ true → n < passes → is_number n number ≡ false → has n passed ≡ true
all_passed-has zero n number passed done low other = absurd (omega arith)
all_passed-has (suc j) n number passed done low other =
    passed_step n j (is_number j number) (has j passed) (has n passed) (all_passed j number passed) low done
    (λ e. subst (λ x. is_number x number ≡ false) e other) (λ e. ap (λ x. has x passed) (sym e)) (λ lower rest. all_passed-has j n number passed rest lower other)

-- a look, by what it finds: the pass was passed before, or is passed now
abbrev pub looked_by : Looks → ℕ → ℕ → Bool → Bool → Looks
looked_by g pass word a b =
    cond a g (cond b (record g { passed = g.passed ++ pass ∷ [] }) (record g { found = g.found ++ record { pass = pass; word = word } ∷ [] }))

record Noted (P : SectionFound → Type 0) (pass first : ℕ) : Type 0 where
  look : SectionFound
  of : look.pass ≡ pass
  word : look.word ≡ first
  known : P look

noted_step : (P : SectionFound → Type 0) (pass first : ℕ) (f : SectionFound) (b : Bool) (rest : Option SectionFound) → eqb f.pass pass ≡ b → P f
    → option_map (λ (g : SectionFound). g.word) (cond b (Some f) rest) ≡ Some first
    → (option_map (λ (g : SectionFound). g.word) rest ≡ Some first → Noted P pass first) → Noted P pass first
noted_step P pass first f true rest e here is later = record { look = f; of = eqb-true f.pass pass e; word = cc; known = here }
noted_step P pass first f false rest e here is later = later is

-- the odd word that was found first is noted
found_first : (P : SectionFound → Type 0) (pass first : ℕ) (fs : List SectionFound) → first_found pass fs ≡ Some first → Every P fs → Noted P pass first
found_first P pass first [] is all = cc
found_first P pass first (f ∷ fs) is all =
    noted_step P pass first f (eqb f.pass pass) (find (λ (g : SectionFound). eqb g.pass pass) fs) refl all.0 is (λ rest. found_first P pass first fs rest all.1)

not_eqb : (a b : ℕ) (c : Bool) → eqb a b ≡ c → not c ≡ true → a ≢ b
not_eqb a b true e h = cc
not_eqb a b false e h = λ same. cc (eq-eqb a b same)

even_or_moved : (b : Bool) (word first : ℕ) → (b || not (eqb word first)) ≡ true → (b ≡ true) ⊎ (word ≢ first)
even_or_moved true word first e = inl refl
even_or_moved false word first e = inr (not_eqb word first (eqb word first) refl e)

as_often : (pick : Slots → List ℕ) (k : ℕ) (s t : Slots) → s ≡ t → count k (pick s) ≡ count k (pick t)
as_often pick k s t same = ap (λ (u : Slots). count k (pick u)) same

own_taken : (pick : Slots → List ℕ) (k : ℕ) (v w : View) → count k (pick v.batch) ≡ 0 → count k (pick no_slots) ≡ 0
    → w.free ≡ v.free → w.retired ≡ no_slots → w.batch ≡ v.retired → own pick k w ≡ own pick k v
own_taken pick k v w empty none free retired batch =
    omega (arith, as_often pick k w.free v.free free, as_often pick k w.retired no_slots retired, as_often pick k w.batch v.retired batch)

own_freed : (pick : Slots → List ℕ) (k : ℕ) (v w : View) → count k (pick no_slots) ≡ 0 → count k (pick (both v.free v.batch)) ≡ count k (pick v.free) + count k (pick v.batch)
    → w.free ≡ both v.free v.batch → w.retired ≡ v.retired → w.batch ≡ no_slots
    → (own pick k w ≡ own pick k v) × (own_free pick k w ≡ own_free pick k v + count k (pick v.batch))
own_freed pick k v w none sum free retired batch =
    let f = as_often pick k w.free (both v.free v.batch) free in
    (omega (arith, f, as_often pick k w.retired v.retired retired, as_often pick k w.batch no_slots batch), omega (arith, f))

module _ (z : Layout) (linked : Linked) (hn he : View → ℕ → Type 0) where
  -- a view that has moved holds no more than before, apart from what the tree links
  pub record HoldsFrom (v w : View) : Type 0 where
    pub nodes : (k : ℕ) → hn w k → hn v k ⊎ (0 < linked.nodes k)
    pub entries : (e : ℕ) → he w e → he v e ⊎ (0 < linked.entries e)

  -- a view holds only what the tree links
  pub record HoldsLinked (w : View) : Type 0 where
    pub nodes : (k : ℕ) → hn w k → 0 < linked.nodes k
    pub entries : (e : ℕ) → he w e → 0 < linked.entries e

  -- the same number, and either the same section word, or nothing is held except what the tree links
  pub record KeepsSection (v w : View) : Type 0 where
    pub number : w.number ≡ v.number
    pub section : (w.section_word ≡ v.section_word) ⊎ HoldsLinked w

  -- a batch has nothing that the tree links
  pub record Unlinked (s : Slots) : Type 0 where
    pub nodes : (k : ℕ) → 0 < count k s.nodes → 0 < linked.nodes k → ⊥
    pub entries : (e : ℕ) → 0 < count e s.entries → 0 < linked.entries e → ⊥

  none_from : (s : Slots) (v w : View) → Unlinked s → HoldsFrom v w → HoldsNone hn he s v → HoldsNone hn he s w
  none_from s v w apart from none = record {
    nodes = λ k some holds. elim (from.nodes k holds) as (λ _. ⊥) [ inl before ↦ none.nodes k some before | inr links ↦ apart.nodes k some links ];
    entries = λ e some holds. elim (from.entries e holds) as (λ _. ⊥) [ inl before ↦ none.entries e some before | inr links ↦ apart.entries e some links ];
  }

  none_linked : (s : Slots) (w : View) → Unlinked s → HoldsLinked w → HoldsNone hn he s w
  none_linked s w apart links = record {
    nodes = λ k some holds. apart.nodes k some (links.nodes k holds);
    entries = λ e some holds. apart.entries e some (links.entries e holds);
  }

  -- what a batch's owner knows of a view stays true when that view moves
  pub grace_column : (u v w : View) → Unlinked u.batch → HoldsFrom v w → KeepsSection v w → GraceRight hn he u v → GraceRight hn he u w
  grace_column u v w apart from keeps right = record {
    passed = every_weaker (λ n. v.number ≡ Some n → HoldsNone hn he u.batch v) (λ n. w.number ≡ Some n → HoldsNone hn he u.batch w) u.grace.passed
        (λ n known is. none_from u.batch v w apart from (known (sym keeps.number ∙ is))) right.passed;
    found = every_weaker (λ (f : SectionFound). v.number ≡ Some f.pass → v.section_word ≢ f.word → HoldsNone hn he u.batch v) (λ (f : SectionFound). w.number ≡ Some f.pass → w.section_word ≢ f.word → HoldsNone hn he u.batch w) u.grace.found
        (λ f known is differs. elim keeps.section as (λ _. HoldsNone hn he u.batch w) [
          | inl same ↦ none_from u.batch v w apart from (known (sym keeps.number ∙ is) (λ e. differs (same ∙ e)))
          | inr links ↦ none_linked u.batch w apart links
        ]) right.found;
  }

  -- what one view owns is not linked
  pub batch_unlinked : (vs : List View) (i : ℕ) (v : View) → IsItem vs i v → SlotRule z linked hn he vs → Unlinked v.batch
  batch_unlinked vs i v at rule = record {
    nodes = λ k some links. omega (arith, linked_alone nodes_of z.nodes linked.nodes hn vs k rule.nodes links, one_term (own nodes_of k) vs i v at);
    entries = λ e some links. omega (arith, linked_alone entries_in z.entries linked.entries he vs e rule.entries links, one_term (own entries_in e) vs i v at);
  }

  -- no looks say nothing
  pub no_looks_right : (v w : View) → v.grace ≡ no_looks → GraceRight hn he v w
  no_looks_right v w none = record {
    passed = subst (λ (g : Looks). Every (λ n. w.number ≡ Some n → HoldsNone hn he v.batch w) g.passed) (sym none) tt;
    found = subst (λ (g : Looks). Every (λ (f : SectionFound). w.number ≡ Some f.pass → w.section_word ≢ f.word → HoldsNone hn he v.batch w) g.found) (sym none) tt;
  }

  abbrev pub Keeps : View → Type 0
  Keeps v = KeepsEntries linked.entries_of v.retired × KeepsEntries linked.entries_of v.batch

  kept_entries : (v w : View) → w.retired ≡ v.retired → w.batch ≡ v.batch → Keeps v → Keeps w
  kept_entries v w retired batch keeps =
      (subst (KeepsEntries linked.entries_of) (sym retired) keeps.0, subst (KeepsEntries linked.entries_of) (sym batch) keeps.1)

  -- what is known of every pair of views after a move of one
  pub grace_moved : (vs : List View) (i : ℕ) (v w : View) → IsItem vs i v → SlotRule z linked hn he vs
      → HoldsFrom v w → KeepsSection v w
      → (GraceRight hn he v w → GraceRight hn he w w)
      → ((u : View) → Beside vs i u → GraceRight hn he v u → GraceRight hn he w u)
      → All (λ u. All (GraceRight hn he u) (set vs i w)) (set vs i w)
  grace_moved vs i v w at rule from keeps here row =
      let column : (u : View) → Unlinked u.batch → GraceRight hn he u v → GraceRight hn he u w = λ u apart right. grace_column u v w apart from keeps right in
      let own_row : All (GraceRight hn he v) vs = at_item (λ u. All (GraceRight hn he u) vs) vs i v at rule.grace in
      pairs_moved (GraceRight hn he) (GraceRight hn he) vs i v w at rule.grace
      (here (column v (batch_unlinked vs i v at rule) (at_item (GraceRight hn he v) vs i v at own_row)))
      row
      (λ u beside right. column u (batch_unlinked vs beside.place u beside.at rule) right)
      (λ t u beside other right. right)

  -- a move that leaves the lists of slots unchanged
  pub quiet : (vs : List View) (i : ℕ) (v w : View) → IsItem vs i v → SlotRule z linked hn he vs
      → w.free ≡ v.free → w.retired ≡ v.retired → w.batch ≡ v.batch
      → HoldsFrom v w → KeepsSection v w
      → (GraceRight hn he v w → GraceRight hn he w w)
      → ((u : View) → Beside vs i u → GraceRight hn he v u → GraceRight hn he w u)
      → SlotRule z linked hn he (set vs i w)
  quiet vs i v w at rule free retired batch from keeps here row = record {
    nodes = slots_moved nodes_of z.nodes linked.nodes hn vs i v w at rule.nodes (λ k. cc) (λ k. cc) from.nodes;
    entries = slots_moved entries_in z.entries linked.entries he vs i v w at rule.entries (λ k. cc) (λ k. cc) from.entries;
    grace = grace_moved vs i v w at rule from keeps here row;
    retired = all_moved Keeps Keeps vs i v w at rule.retired (kept_entries v w retired batch (at_item Keeps vs i v at rule.retired)) (λ u beside of. of);
  }

  -- the retired slots become the batch
  pub take_batch : (vs : List View) (i : ℕ) (v w : View) → IsItem vs i v → SlotRule z linked hn he vs
      → no_batch v.batch → w.free ≡ v.free → w.retired ≡ no_slots → w.batch ≡ v.retired → w.grace ≡ no_looks
      → HoldsFrom v w → KeepsSection v w
      → SlotRule z linked hn he (set vs i w)
  take_batch vs i v w at rule empty free retired batch grace from keeps = record {
    nodes = slots_moved nodes_of z.nodes linked.nodes hn vs i v w at rule.nodes (λ k. own_taken nodes_of k v w (empty.0 k) refl free retired batch) (λ k. cc) from.nodes;
    entries = slots_moved entries_in z.entries linked.entries he vs i v w at rule.entries (λ k. own_taken entries_in k v w (empty.1 k) refl free retired batch) (λ k. cc) from.entries;
    grace = grace_moved vs i v w at rule from keeps (λ right. no_looks_right w w grace) (λ u beside right. no_looks_right w u grace);
    retired = all_moved Keeps Keeps vs i v w at rule.retired
        (subst (KeepsEntries linked.entries_of) (sym retired) (λ k e some of. absurd (omega arith)), subst (KeepsEntries linked.entries_of) (sym batch) (at_item Keeps vs i v at rule.retired).0)
        (λ u beside of. of);
  }

  -- the slots of a batch that nobody holds become free
  pub free_batch : (vs : List View) (i : ℕ) (v w : View) → IsItem vs i v → SlotRule z linked hn he vs
      → All (HoldsNone hn he v.batch) vs
      → w.free ≡ both v.free v.batch → w.retired ≡ v.retired → w.batch ≡ no_slots → w.grace ≡ no_looks
      → ((k : ℕ) → hn w k → hn v k) → ((e : ℕ) → he w e → he v e) → KeepsSection v w
      → SlotRule z linked hn he (set vs i w)
  free_batch vs i v w at rule none free retired batch grace nodes entries keeps =
      let freed_nodes = λ (k : ℕ). own_freed nodes_of k v w refl (count-append k v.free.nodes v.batch.nodes) free retired batch in
      let freed_entries = λ (e : ℕ). own_freed entries_in e v w refl (count-append e v.free.entries v.batch.entries) free retired batch in
      record {
        nodes = slots_freed nodes_of z.nodes linked.nodes hn vs i v w at rule.nodes (λ k. (freed_nodes k).0) (λ k. count k v.batch.nodes) (λ k. (freed_nodes k).1) (λ k d within. (none k d within).nodes) nodes;
        entries = slots_freed entries_in z.entries linked.entries he vs i v w at rule.entries (λ k. (freed_entries k).0) (λ e. count e v.batch.entries) (λ k. (freed_entries k).1) (λ k d within. (none k d within).entries) entries;
        grace = grace_moved vs i v w at rule (record { nodes = λ k h. inl (nodes k h); entries = λ e h. inl (entries e h) }) keeps (λ right. no_looks_right w w grace) (λ u beside right. no_looks_right w u grace);
        retired = all_moved Keeps Keeps vs i v w at rule.retired
            (subst (KeepsEntries linked.entries_of) (sym retired) (at_item Keeps vs i v at rule.retired).0, subst (KeepsEntries linked.entries_of) (sym batch) (λ k e some of. absurd (omega arith)))
            (λ u beside of. of);
      }

  -- the same batch and the same looks say the same
  pub same_looks : (v w u : View) → w.batch ≡ v.batch → w.grace ≡ v.grace → GraceRight hn he v u → GraceRight hn he w u
  same_looks v w u batch grace right = record {
    passed = subst (λ (g : Looks). Every (λ n. u.number ≡ Some n → HoldsNone hn he w.batch u) g.passed) (sym grace)
        (subst (λ (b : Slots). Every (λ n. u.number ≡ Some n → HoldsNone hn he b u) v.grace.passed) (sym batch) right.passed);
    found = subst (λ (g : Looks). Every (λ (f : SectionFound). u.number ≡ Some f.pass → u.section_word ≢ f.word → HoldsNone hn he w.batch u) g.found) (sym grace)
        (subst (λ (b : Slots). Every (λ (f : SectionFound). u.number ≡ Some f.pass → u.section_word ≢ f.word → HoldsNone hn he b u) v.grace.found) (sym batch) right.found);
  }

  by_number : (passes : ℕ) (v u : View) → GraceRight hn he v u → all_passed passes v.number v.grace.passed ≡ true
      → (number : Option ℕ) → u.number ≡ number
      → (u.number ≡ None → HoldsNone hn he v.batch u)
      → ((n : ℕ) → u.number ≡ Some n → (n < passes) × (is_number n v.number ≡ false))
      → HoldsNone hn he v.batch u
  by_number passes v u right done None is nameless named = nameless is
  by_number passes v u right done (Some n) is nameless named =
      let known = named n is in
      every_has (λ n. u.number ≡ Some n → HoldsNone hn he v.batch u) n v.grace.passed right.passed (all_passed-has passes n v.number v.grace.passed done known.0 known.1) is

  -- a batch of which each other pass was passed is held by none of them
  pub all_passed_none : (passes : ℕ) (v u : View) → GraceRight hn he v u → all_passed passes v.number v.grace.passed ≡ true
      → (u.number ≡ None → HoldsNone hn he v.batch u)
      → ((n : ℕ) → u.number ≡ Some n → (n < passes) × (is_number n v.number ≡ false))
      → HoldsNone hn he v.batch u
  all_passed_none passes v u right done nameless named = by_number passes v u right done (u.number) refl nameless named

  look_by : (v u : View) (pass word : ℕ) (a b : Bool)
      → (u.number ≡ Some pass → u.section_word ≡ word)
      → (b ≡ true → u.number ≡ Some pass → HoldsNone hn he v.batch u)
      → GraceRight hn he v u → GraceRight hn he (record v { grace = looked_by v.grace pass word a b }) u
  look_by v u pass word true b is may right = record { passed = right.passed; found = right.found }
  look_by v u pass word false true is may right = record {
    passed = every_push (λ n. u.number ≡ Some n → HoldsNone hn he v.batch u) v.grace.passed pass right.passed (may refl);
    found = right.found;
  }
  look_by v u pass word false false is may right = record {
    passed = right.passed;
    found = every_push (λ (f : SectionFound). u.number ≡ Some f.pass → u.section_word ≢ f.word → HoldsNone hn he v.batch u) v.grace.found (record { pass = pass; word = word }) right.found
        (λ of differs. absurd (differs (is of)));
  }

  let_pass : (v u : View) (pass word : ℕ) (first : Option ℕ) → first_found pass v.grace.found ≡ first
      → (u.number ≡ Some pass → u.section_word ≡ word)
      → (u.number ≡ Some pass → is_even word ≡ true → HoldsNone hn he v.batch u)
      → GraceRight hn he v u → lets_pass first word ≡ true → u.number ≡ Some pass → HoldsNone hn he v.batch u
  let_pass v u pass word None found is even right lets of = even of lets
  let_pass v u pass word (Some first) found is even right lets of =
      elim (even_or_moved (is_even word) word first lets) as (λ _. HoldsNone hn he v.batch u) [
        | inl outside ↦ even of outside
        | inr moved ↦
            let noted = found_first (λ (f : SectionFound). u.number ≡ Some f.pass → u.section_word ≢ f.word → HoldsNone hn he v.batch u) pass first v.grace.found found right.found in
            noted.known (of ∙ ap Some (sym noted.of)) (λ e. moved (sym (is of) ∙ e ∙ noted.word))
      ]

  -- what a look adds: the pass may be passed, or its odd word is noted
  pub look_row : (v u : View) (pass word : ℕ)
      → (u.number ≡ Some pass → u.section_word ≡ word)
      → (u.number ≡ Some pass → is_even word ≡ true → HoldsNone hn he v.batch u)
      → GraceRight hn he v u → GraceRight hn he (record v { grace = looked_at v.grace pass word }) u
  look_row v u pass word is even right =
      let first = first_found pass v.grace.found in
      look_by v u pass word (has pass v.grace.passed) (lets_pass first word) is
      (let_pass v u pass word first refl is even right) right
