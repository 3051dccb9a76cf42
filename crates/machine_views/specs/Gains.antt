-- A view with what it has gained from another one, and the lists that a raise makes longer.
use Rattle.std.specs.Prelude.{◌++◌, [], ℕ, ◌∷◌}
use Rattle.index_words.specs.declared.view.View.{View}
use Rattle.index_words.specs.declared.view.history.SeenHistory.{SeenHistory}
use Rattle.machine_views.specs.declared.moves.Gained.{Gained}
use Rattle.machine_views.specs.declared.moves.Known.{Known}
use Rattle.core_events.specs.declared.tree_move.TreeMove.{TreeMove}
use Rattle.machine_views.specs.declared.updates.Longer.{Longer}

-- the history with what it has gained
abbrev pub with_known : SeenHistory → Known → SeenHistory
with_known h known = record h { seen = known.seen; told = known.told; ended = known.ended; ended_places = known.ended_places }

-- the view with this gain; the gain is right if this is the view after the join
abbrev pub with_gain : View → Gained → View
with_gain v gain = record v {
  to_give = gain.to_give;
  reading = record v.reading { filled = [] };
  history = with_known v.history gain.known;
  free = gain.free;
  retired = gain.retired;
  unused = gain.unused;
}

-- the lists that a raise makes longer
abbrev pub lengthened : View → ℕ → TreeMove → Longer
lengthened v place move = record {
  mine = v.history.mine ++ place ∷ [];
  pending = v.update.pending ++ move.entries;
  retired = record { nodes = v.retired.nodes ++ move.taken; entries = v.retired.entries ++ move.taken_entries };
}
