-- Helper: the headline does not rest on this file.
-- What a plain pass keeps.
use Rattle.std.specs.Prelude.{◌≡◌, ◌+◌, ◌^◌, ◌≤◌, length, All, vec_capacity}
use Rattle.std.specs.Option.{ForSome}
use Rattle.key_map.specs.declared.update.Update.{Update}
use Rattle.key_map.specs.History.{after, own_places}
use Rattle.bucket_terms.specs.PassView.{PassView}
use Rattle.bucket_terms.specs.declared.plain_pass.PlainPass.TheInside.{Inside}

abbrev pub view_of : Inside → PassView
view_of p = record {
  number = p.number;
  seen = p.updates.items;
  mine = own_places p.number p.updates.items;
  looks = p.looks;
  found = p.found;
  nodes = p.nodes;
  entries = p.entries;
  left = p.left;
  opened = p.opened;
}

-- the list is the map after all updates, which are the pass's own; there is memory for the updates that are left; the
-- node slots cannot exceed 64 bits; and an open snapshot is of the whole history
pub record IsPlainPass (p : Inside) : Type 0 where
  pub map : p.map.pairs ≡ after p.updates.items (length p.updates.items)
  pub small : length p.map.pairs ≤ length p.updates.items
  pub own : All (λ (u : Update). u.client ≡ p.number) p.updates.items
  pub update_room : length p.updates.items + p.left ≤ vec_capacity p.updates
  pub pair_room : length p.updates.items + p.left ≤ p.map.room
  pub slots : p.nodes + p.left ≤ 2 ^ 33
  pub snapshot : ForSome p.opened (λ at. at ≡ length p.updates.items)
