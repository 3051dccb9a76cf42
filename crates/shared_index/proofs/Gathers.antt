-- A pass of the table that has gathered entries has done so to the caller of the index.
use Rattle.std.proofs.Common.{◌≡◌, ◌-◌, ◌^◌, ap, None}
use Rattle.std.specs.Prelude.{min}
use Rattle.key_map.specs.History.{own_places}
use Rattle.bucket_terms.specs.Gathering.{Gathered}
use Rattle.table_steps.specs.Passes.{Pass, IsSamePass}
use Rattle.tree_update.specs.Gathering.{Gathers}
use Rattle.shared_index.specs.Shown.{shown}

pub gathered_shown : (p q : Pass) → IsSamePass p q → Gathers p.view q.view → q.view.history.mine ≡ own_places q.number q.view.history.seen
    → q.view.reading.opened ≡ None → Gathered (shown p) (shown q)
gathered_shown p q same gathers own closed = record {
  number = same.number;
  seen = gathers.seen;
  mine = gathers.mine;
  own = λ known. own;
  looks = ap (λ n. min n (2 ^ 64 - 1)) gathers.fixes.looks;
  found = gathers.fixes.found;
  nodes = gathers.nodes;
  entries = gathers.entries;
  left = gathers.left;
  closed = closed;
}
