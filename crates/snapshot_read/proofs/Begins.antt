-- What opening a snapshot leaves.
use Rattle.std.proofs.Common.{◌≡◌, ℕ, ◌+◌, length, cond, eqb, Bool, true, false, arith, refl, ap, ◌∙◌, length-append}
use Rattle.std.proofs.lemmas.Bool.{eqb-true, and_parts}
use Rattle.index_words.specs.declared.view.View.{View}
use Rattle.index_words.specs.declared.view.history.SeenHistory.{SeenHistory}
use Rattle.index_words.specs.Views.{no_slots, no_looks}
use Rattle.core_events.specs.LoadMoves.{risen}
use Rattle.core_events.specs.Moves.{entered, in_section}
use Rattle.core_grace.specs.Batches.{all_passed, batch_freed, batch_taken, is_empty, settled}
use Rattle.table_steps.specs.Passes.{Pass, Inside}
use Rattle.table_steps.specs.Stamps.{HasOpened}
use Rattle.table_steps.proofs.ReadSections.{opened_extends, within_history}
use Rattle.snapshot_read.specs.Snapshots.{ReadsAt, HasBegun, owned_nodes, owned_entries}

-- how many slots a view owns
pub record Owned : Type 0 where
  pub nodes : ℕ
  pub entries : ℕ

abbrev pub owned : View → Owned
owned v = record { nodes = owned_nodes v; entries = owned_entries v }

same_owned : (a b c d : ℕ) → a ≡ c → b ≡ d → let one : Owned = record { nodes = a; entries = b } in let two : Owned = record { nodes = c; entries = d } in one ≡ two
same_owned a b c d one two = ap (λ (x : ℕ). let o : Owned = record { nodes = x; entries = b } in o) one ∙ ap (λ (x : ℕ). let o : Owned = record { nodes = c; entries = x } in o) two

settled_owned : (passes : ℕ) (v : View) → owned (settled passes v) ≡ owned v
settled_owned passes v = by_test (all_passed passes v.number v.grace.passed)
  where
    by_test : (b : Bool) → owned (cond b (batch_freed v) v) ≡ owned v
    by_test true = same_owned _ _ _ _ (omega (arith, length-append v.free.nodes v.batch.nodes)) (omega (arith, length-append v.free.entries v.batch.entries))
    by_test false = refl

taken_owned : (v : View) → owned (batch_taken v) ≡ owned v
taken_owned v = by_test (is_empty v.batch) refl
  where
    by_test : (b : Bool) → is_empty v.batch ≡ b → owned (cond b (record v { retired = no_slots; batch = v.retired; grace = no_looks }) v) ≡ owned v
    by_test true empty =
        let parts = and_parts (eqb (length v.batch.nodes) 0) (eqb (length v.batch.entries) 0) empty in
        let nodes : length v.batch.nodes ≡ 0 = eqb-true (length v.batch.nodes) 0 parts.0 in
        let entries : length v.batch.entries ≡ 0 = eqb-true (length v.batch.entries) 0 parts.1 in
        same_owned _ _ _ _ (omega (arith, nodes)) (omega (arith, entries))
    by_test false empty = refl

pub entered_owned : (passes word : ℕ) (v : View) → owned (entered passes v word) ≡ owned v
entered_owned passes word v = settled_owned passes (batch_taken (in_section v word)) ∙ taken_owned (in_section v word)

module _ (p : Pass) (w : View) (at : ℕ) (opened : HasOpened p 1 at w) where
  abbrev v : View
  v = p.view

  owns : owned w ≡ owned v
  owns = ap owned opened.reads.view ∙ entered_owned v.layout.passes (v.section_word + 1) v

  pub begins : HasBegun v w at
  begins = record {
    seen = opened_extends p 1 at w opened;
    whole = opened.seen.whole;
    found = ap (λ (u : View). u.history.found) opened.reads.view;
    looks = ap (λ (u : View). u.history.looks) opened.reads.view ∙ ap (λ (h : SeenHistory). risen h.looks) (within_history v);
    mine = ap (λ (u : View). u.history.mine) opened.reads.view ∙ ap (λ (h : SeenHistory). h.mine) (within_history v);
    left = ap (λ (u : View). u.history.left) opened.reads.view ∙ ap (λ (h : SeenHistory). h.left) (within_history v);
    nodes = ap (λ (o : Owned). o.nodes) owns;
    entries = ap (λ (o : Owned). o.entries) owns;
  }

  pub begun_reads : Inside w → ReadsAt w at
  begun_reads inside = record {
    opened = ap (λ (u : View). u.reading.opened) opened.reads.view;
    inside = inside;
  }
