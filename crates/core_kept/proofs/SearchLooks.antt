-- The plain tree, what searches claim and what they reach, after an enter, with which a search begins at the root
-- again, and after a look at a section word: a seat inside the section that was found is not let pass.
use Rattle.std.proofs.Common.{◌≡◌, ℕ, ◌+◌, ◌<◌, List, true, false, eqb, ◌&&◌, set, arith, refl, ap, ◌∙◌, sym, subst, Some, None}
use Rattle.std.proofs.lemmas.Bool.{and_parts}
use Rattle.std.proofs.lemmas.List.{set-set}
use Rattle.index_words.specs.declared.layout.Layout.{Layout}
use Rattle.index_words.specs.declared.view.View.{View}
use Rattle.index_words.specs.declared.view.update.Updating.{Updating}
use Rattle.index_words.specs.declared.word.Word.{Word}
use Rattle.index_words.specs.declared.word.Word.TheVariants.{Section, Announced}
use Rattle.index_words.specs.Words.{Memory, memory, written}
use Rattle.key_map.specs.Lists.{count, IsItem}
use Rattle.index_words.proofs.Seats.{Beside, at_item, item_set}
use Rattle.core_grace.specs.Batches.{batch_taken, is_number, looked, looked_at, settled}
use Rattle.core_trees.specs.SpelledTree.{Graph}
use Rattle.core_events.specs.declared.event.Kind.TheVariants.{Enter}
use Rattle.core_events.specs.Moves.{entered, in_section, nowhere}
use Rattle.core_events.specs.Needs.{is_outside, is_own_section, may_enter}
use Rattle.core_invariant.specs.Meanings.{Meaning}
use Rattle.core_invariant.specs.Reached.{plain_graph, HoldsPlain, has_let, ReachesRight}
use Rattle.core_invariant.specs.Rule.{Rule, InRule}
use Rattle.core_invariant.specs.SectionRule.{IsIdle}
use Rattle.core_invariant.proofs.Idle.{section_of}
use Rattle.core_invariant.proofs.Needed.{own_section, outside_idle}
use Rattle.core_invariant.proofs.OneView.{look_right, seat_at, taken}
use Rattle.core_invariant.proofs.WaitNeeds.{outside_none}
use Rattle.core_kept.specs.SearchLaws.{SearchesAfter, KeepsSearchesAt}
use Rattle.core_kept.proofs.EachKind.{taken_number}
use Rattle.core_kept.proofs.LooksLetting.{let_stays}
use Rattle.core_kept.proofs.SearchLists.{OnlyLists, lists_after, same_holds, settled_after, taken_after}
use Rattle.core_kept.proofs.SearchNowhere.{nowhere_after}
use Rattle.core_kept.proofs.SearchStores.{stored}
use Rattle.core_kept.proofs.Stores.{section_stored}

module _ (z : Layout) (words : List ℕ) (vs : List View) (right : InRule z words vs) (i : ℕ) (v : View) (at : IsItem vs i v) where
  abbrev m : Memory
  m = memory z words

  abbrev g : Meaning
  g = right.meaning

  abbrev gr0 : Graph
  gr0 = plain_graph m

  -- an enter of the pass with this number
  pub enter_after : (n value : ℕ) → v.number ≡ Some n → is_outside v ≡ true
      → SearchesAfter z (plain_graph (written m (Section n) value)) (set vs i (entered z.passes v value)) g.tree
  enter_after n value named out =
      let m' : Memory = written m (Section n) value in
      let idle : IsIdle v = outside_idle z m vs g i v at right.rule out in
      let unraised : v.update.raised ≡ None = ap (λ (u : Updating). u.raised) idle.update in
      let v1 : View = in_section v value in
      let idle1 : IsIdle v1 = record { reading = ap nowhere idle.reading; held = idle.held; update = idle.update } in
      let vs1 : List View = set vs i v1 in
      let at1 : IsItem vs1 i v1 = item_set vs i v v1 at in
      let rule1 : Rule z m' vs1 g = section_stored z m vs g i n value v (nowhere v.reading) at right.rule named idle1 in
      let one : SearchesAfter z gr0 vs1 g.tree
      = nowhere_after z m vs g right.rule gr0 right.plain_tree right.trees right.searches right.reach i v at v1
      (record { place = refl; links = refl; nodes = λ top. refl }) refl (λ k some. some) (λ k. omega arith) refl refl refl refl in
      let v2 : View = batch_taken v1 in
      let vs2 : List View = set vs1 i v2 in
      let at2 : IsItem vs2 i v2 = item_set vs1 i v1 v2 at1 in
      let rule2 : Rule z m' vs2 g = taken z m' vs1 g i v1 at1 rule1 idle1 in
      let two : SearchesAfter z gr0 vs2 g.tree = taken_after z gr0 g.tree vs1 i v1 at1 unraised one in
      let three : SearchesAfter z gr0 (set vs2 i (settled z.passes v2)) g.tree = settled_after z gr0 g.tree m' vs2 g rule2 i v2 at2 two in
      subst (λ (ws : List View). SearchesAfter z gr0 ws g.tree) (set-set vs1 i v2 (settled z.passes v2) ∙ set-set vs i v1 (settled z.passes v2)) three

  -- a look that found the section word of a pass leaves the seats inside that section as they were
  looks_after : (us : List View) (u : View) (of : IsItem us i u) (pass : ℕ) → Rule z m us g → SearchesAfter z gr0 us g.tree
      → SearchesAfter z gr0 (set us i (record u { grace = looked_at u.grace pass (m (Section pass)) })) g.tree
  looks_after us u of pass rule before =
      let w : View = record u { grace = looked_at u.grace pass (m (Section pass)) } in
      let own : ReachesRight z gr0 us u = at_item (ReachesRight z gr0 us) us i u of before.reach in
      let only : OnlyLists u w = record { update = refl; held = refl; reading = refl; number = refl; word = refl } in
      let back : (k : ℕ) → HoldsPlain gr0 w k → HoldsPlain gr0 u k = same_holds z gr0 us g.tree i u w of only in
      lists_after z gr0 us g.tree i u w of only (record {
        mine = λ k holds. omega arith;
        free = λ t beside right k holds. omega arith;
        own = λ k holds. (back k holds, own.apart k (back k holds));
        same = λ k holds. (refl, refl);
        kept = λ raised k holds. own.own raised k (back k holds);
        lets = λ t beside right k holds some.
            let_stays u.grace t.number t.section_word pass (m (Section pass)) holds.inside (found us rule t beside pass)
            (at_item (λ (x : View). (j : ℕ) → HoldsPlain gr0 t j → 0 < count j x.batch.nodes → has_let x.grace t.number t.section_word ≡ false) us i
            u of right.grace k holds some);
      }) before
    where
      found : (us : List View) → Rule z m us g → (t : View) → Beside us i t → (pass : ℕ) → t.number ≡ Some pass → t.section_word ≡ m (Section pass)
      found us rule t beside pass is =
          sym (section_of (λ n. m (Section n)) (λ n. m (Announced n)) t pass (seat_at z m us g beside.place t beside.at rule).section is)

  -- a look for slots
  pub look_after : (pass : ℕ) → is_number pass v.number ≡ false → is_outside v ≡ true
      → SearchesAfter z gr0 (set vs i (looked z.passes v pass (m (Section pass)))) g.tree
  look_after pass other out =
      let idle : IsIdle v = outside_idle z m vs g i v at right.rule out in
      let unraised : v.update.raised ≡ None = ap (λ (u : Updating). u.raised) idle.update in
      let v1 : View = batch_taken v in
      let vs1 : List View = set vs i v1 in
      let at1 : IsItem vs1 i v1 = item_set vs i v v1 at in
      let rule1 : Rule z m vs1 g = taken z m vs g i v at right.rule idle in
      let one : SearchesAfter z gr0 vs1 g.tree
      = taken_after z gr0 g.tree vs i v at unraised
      (record { plain_tree = right.plain_tree; trees = right.trees; searches = right.searches; reach = right.reach }) in
      let other1 : is_number pass v1.number ≡ false = ap (is_number pass) (taken_number v) ∙ other in
      let v2 : View = record v1 { grace = looked_at v1.grace pass (m (Section pass)) } in
      let vs2 : List View = set vs1 i v2 in
      let at2 : IsItem vs2 i v2 = item_set vs1 i v1 v2 at1 in
      let rule2 : Rule z m vs2 g
      = look_right z m vs1 g i v1 pass at1 rule1 other1 (λ u beside even. outside_none z m vs1 g rule1 beside.place u beside.at i v1 at1 even) in
      let two : SearchesAfter z gr0 vs2 g.tree = looks_after vs1 v1 at1 pass rule1 one in
      let three : SearchesAfter z gr0 (set vs2 i (settled z.passes v2)) g.tree = settled_after z gr0 g.tree m vs2 g rule2 i v2 at2 two in
      subst (λ (ws : List View). SearchesAfter z gr0 ws g.tree) (set-set vs1 i v2 (settled z.passes v2) ∙ set-set vs i v1 (settled z.passes v2)) three

enter_word : (z : Layout) (words : List ℕ) (vs : List View) (right : InRule z words vs) (i : ℕ) (v : View) (at : IsItem vs i v) (value : ℕ) (w : Word)
    → may_enter v w value ≡ true
    → SearchesAfter z (plain_graph (written (memory z words) w value)) (set vs i (entered z.passes v value)) right.meaning.tree
enter_word z words vs right i v at value w met =
    let parts = and_parts (is_own_section v.number w && is_outside v) (eqb value (v.section_word + 1)) met in
    let first = and_parts (is_own_section v.number w) (is_outside v) parts.0 in
    let own = own_section v.number w first.0 in
    subst (λ (u : Word). SearchesAfter z (plain_graph (written (memory z words) u value)) (set vs i (entered z.passes v value)) right.meaning.tree)
    (sym own.word)
    (enter_after z words vs right i v at own.n value own.named first.1)

pub enter_searches : KeepsSearchesAt Enter
enter_searches z words vs right i v at live n w found value o own met =
    stored z words vs right i v at n w found value (set vs i (entered z.passes v value)) (enter_word z words vs right i v at value w met)
