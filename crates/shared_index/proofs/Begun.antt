-- A snapshot that was opened on the table is one that began to the caller of the index.
use Rattle.std.proofs.Common.{◌≡◌, ℕ, ◌+◌, ◌-◌, ◌^◌, ◌≤◌, arith, sym}
use Rattle.std.specs.Prelude.{min}
use Rattle.std.proofs.lemmas.Bool.Decides.{nat_tests}
use Rattle.key_map.specs.History.{own_places}
use Rattle.core_events.specs.LoadMoves.{risen}
use Rattle.bucket_terms.specs.PassView.{Began}
use Rattle.snapshot_read.specs.Snapshots.{ReadsAt, HasBegun}
use Rattle.table_steps.specs.Passes.{Pass, IsSamePass}
use Rattle.shared_index.specs.Shown.{shown}

-- a count that has risen by one, as far as it is shown
shown_more : (a b : ℕ) → b ≡ risen a → min a (2 ^ 64 - 1) ≤ min b (2 ^ 64 - 1)
shown_more a b is = grind (arith, nat_tests)

shown_risen : (a b : ℕ) → b ≡ risen a → min b (2 ^ 64 - 1) ≡ min (min a (2 ^ 64 - 1) + 1) (2 ^ 64 - 1)
shown_risen a b is = grind (arith, nat_tests)

pub began : (p q : Pass) (at : ℕ) → IsSamePass p q → HasBegun p.view q.view at → ReadsAt q.view at
    → q.view.history.mine ≡ own_places q.number q.view.history.seen → Began (shown p) (shown q) at
began p q at same begun reads own = record {
  looked = record {
    continues = record {
      number = same.number;
      seen = begun.seen;
      mine = own;
      looks = shown_more p.view.history.looks q.view.history.looks begun.looks;
    };
    found = begun.found;
    place = sym begun.whole;
    mine = begun.mine;
    left = begun.left;
    nodes = begun.nodes;
    entries = begun.entries;
  };
  looks = shown_risen p.view.history.looks q.view.history.looks begun.looks;
  opened = reads.opened;
}
