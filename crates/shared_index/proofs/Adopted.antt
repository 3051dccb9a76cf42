-- A node that a pass of the table has adopted is one that comes to the pass of the index.
use Rattle.std.proofs.Common.{◌≡◌, ℕ, ◌-◌, ◌^◌, length, arith, ap, ◌∙◌, None}
use Rattle.std.specs.Prelude.{min}
use Rattle.std.proofs.lemmas.List.{length_push}
use Rattle.key_map.specs.History.{own_places}
use Rattle.index_words.specs.declared.view.slots.Slots.{Slots}
use Rattle.bucket_terms.specs.Pool.{Adopted}
use Rattle.table_steps.specs.Parcels.{HasAdopted}
use Rattle.table_steps.specs.Passes.{Pass, IsSamePass}
use Rattle.shared_index.specs.Shown.{shown}

pub shown_adopted : (p q : Pass) (node : ℕ) → IsSamePass p q → q.view.history.mine ≡ own_places q.number q.view.history.seen → p.view.reading.opened ≡ None
    → HasAdopted p.view node q.view → Adopted (shown p) (shown q)
shown_adopted p q node same own closed adopted =
    let traded = adopted.traded in
    let batch = ap (λ (s : Slots). length s.nodes) traded.batch in
    let retired = ap (λ (s : Slots). length s.nodes) traded.retired in
    let entries = ap length traded.entries in
    let batch_entries = ap (λ (s : Slots). length s.entries) traded.batch in
    let retired_entries = ap (λ (s : Slots). length s.entries) traded.retired in
    record {
      traded = record {
        number = same.number;
        seen = traded.seen;
        mine = traded.mine;
        own = λ before. own;
        looks = ap (λ n. min n (2 ^ 64 - 1)) traded.looks;
        found = traded.found;
        entries = omega (arith, entries, batch_entries, retired_entries);
        left = traded.left;
        closed = traded.opened ∙ closed;
      };
      nodes = omega (arith, ap length adopted.nodes, length_push p.view.free.nodes node, batch, retired);
    }
