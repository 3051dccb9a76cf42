-- The summary of the generated session, as a function of the number of requests alone.
use Rattle.std.specs.Prelude.{ℕ, zero, suc, ◌+◌, ◌*◌, ◌%◌, ◌==◌, cond, min, List, [], length, if◌then◌else◌}
use Rattle.key_map.specs.declared.pair.Pair.{Pair}
use Rattle.key_map.specs.KeyMap.{map_has, map_put, map_remove}
use Rattle.bucket_terms.specs.declared.summary.Summary.{Summary}
use Rattle.request_lines.specs.Sample.{sample_clients}

-- what a client has done: the map, by the numbers in its names, how many entries were listed to it, and its updates
pub record Done : Type 0 where
  pub pairs : List Pair
  pub listed : ℕ
  pub updates : ℕ

-- the number in the name of a client's request
abbrev pub sample_number : ℕ → ℕ
sample_number request = 389 * request % 1001

abbrev pub done_put : ℕ → Done → Done
done_put request done = record { pairs = map_put (sample_number request) request done.pairs; listed = done.listed; updates = done.updates + 1 }

-- a removal of an absent key is no update
abbrev pub done_delete : ℕ → Done → Done
done_delete request done = record {
  pairs = map_remove (sample_number request) done.pairs;
  listed = done.listed;
  updates = done.updates + cond (map_has (sample_number request) done.pairs) 1 0;
}

abbrev pub done_list : Done → Done
done_list done = record { pairs = done.pairs; listed = done.listed + min 100 (length done.pairs); updates = done.updates }

-- after the first requests of one client alone, on an empty map
unfoldable pub sample_done : ℕ → Done
sample_done zero = record { pairs = []; listed = 0; updates = 0 }
sample_done (suc request) =
    if request % 4 == 2 then done_delete request (sample_done request)
    else if request % 4 == 3 then done_list (sample_done request)
    else done_put request (sample_done request)

-- the sums over the clients, each of them alone: all four do the same, each on names of its own
unfoldable pub sample_summary : ℕ → Summary
sample_summary requests = record {
  keys = sample_clients * length (sample_done requests).pairs;
  listed = sample_clients * (sample_done requests).listed;
  requests = sample_clients * requests;
  updates = sample_clients * (sample_done requests).updates;
}
