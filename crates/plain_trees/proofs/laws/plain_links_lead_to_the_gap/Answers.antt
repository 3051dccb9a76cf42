use Rattle.plain_trees.proofs.Settling.{set_law}
use Rattle.plain_trees.proofs.Matched.{reach_law, reached_in, rest_law}
use Rattle.plain_trees.proofs.NullLinks.{begin_law, walk_law, null_link}
use Rattle.plain_trees.proofs.Stores.{store}
use Rattle.plain_trees.proofs.TurnPaths.{turn_law, turns_here, turn_stays, store_turn}
use Rattle.plain_trees.proofs.Belows.{below_law}
use Rattle.plain_trees.proofs.Inserts.{ahead_law, insert}
use Rattle.plain_trees.proofs.Raises.{replace, remove}
use Rattle.plain_trees.proofs.laws.plain_links_lead_to_the_gap.Goals as goal

pub returns : goal.returns
returns c = record {
  begin = begin_law;
  walk = walk_law;
  gap = null_link;
  set = set_law;
  store = store;
  turn = turn_law;
  below = below_law;
  turns_here = turns_here;
  turn_stays = turn_stays;
  store_turn = store_turn;
  ahead = ahead_law;
  insert = insert;
  replace = replace;
  remove = remove;
  reach = reach_law;
  reached = reached_in;
  rest = rest_law;
}
