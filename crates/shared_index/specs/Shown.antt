-- What a pass of the table is to its caller, and its states between two calls.
use Rattle.std.specs.Prelude.{◌≡◌, ℕ, ◌-◌, ◌^◌, min, Some, None}
use Rattle.index_words.specs.declared.view.View.{View}
use Rattle.bucket_terms.specs.PassView.{PassView}
use Rattle.table_steps.specs.Passes.{Pass, AtRest}
use Rattle.snapshot_read.specs.Snapshots.{ReadsAt, owned_nodes, owned_entries}

-- what a view with this number shows. Its count of looks is one of 64 bits, which stays at its last value
abbrev pub shown_of : ℕ → View → PassView
shown_of number v = record {
  number = number;
  seen = v.history.seen;
  mine = v.history.mine;
  looks = min v.history.looks (2 ^ 64 - 1);
  found = v.history.found;
  nodes = owned_nodes v;
  entries = owned_entries v;
  left = v.history.left;
  opened = v.reading.opened;
}

abbrev pub shown : Pass → PassView
shown p = shown_of p.number p.view

-- between two calls no lock is held: the pass is at rest, or it reads the snapshot that is open
pub record IsBetweenCalls (v : View) : Type 0 where
  pub closed : v.reading.opened ≡ None → AtRest v
  pub open_at : (t : ℕ) → v.reading.opened ≡ Some t → ReadsAt v t
