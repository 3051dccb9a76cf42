-- Raise keeps the rule: the stamp rises by one, the pending entries and those of the new node have that number, and
-- the tree is the one after the update.
use Rattle.std.proofs.Common.{◌≡◌, ℕ, ◌+◌, List, set, arith, refl, ◌∙◌}
use Rattle.index_words.specs.declared.layout.Layout.{Layout}
use Rattle.key_map.specs.declared.update.Update.{Update}
use Rattle.index_words.specs.declared.view.View.{View}
use Rattle.index_words.specs.declared.word.Word.TheVariants.{Stamp}
use Rattle.index_words.specs.Words.{Memory, written}
use Rattle.key_map.specs.Lists.{IsItem}
use Rattle.index_words.proofs.Seats.{sum_kept, all_moved}
use Rattle.core_trees.specs.NamedTree.{NamedTree}
use Rattle.core_events.specs.declared.tree_move.TreeMove.{TreeMove}
use Rattle.core_invariant.proofs.Pairs.{pairs_same}
use Rattle.core_invariant.specs.Meanings.{Meaning}
use Rattle.core_invariant.specs.Numbers.{number_count}
use Rattle.core_invariant.specs.Locks.{lock_count}
use Rattle.core_invariant.specs.SeatRule.{SeatRight}
use Rattle.core_events.specs.UpdateMoves.{raised_view}
use Rattle.core_invariant.specs.Rule.{Rule}
use Rattle.core_invariant.specs.LinkLaw.{Kept}
use Rattle.core_kept.proofs.TreeMoved.{MovesTree, meaning_after}
use Rattle.core_invariant.proofs.OneView.{read_past}
use Rattle.core_invariant.proofs.Needed.{CanRaise}
use Rattle.core_kept.proofs.RaiseHistory.{history_now}
use Rattle.core_kept.proofs.RaiseNumbers.{selects}
use Rattle.core_kept.proofs.RaiseBundles.{bundle_now}
use Rattle.core_kept.proofs.RaiseNew.{single_after}
use Rattle.core_kept.proofs.RaisePlain.{plain_raised}
use Rattle.core_kept.proofs.RaiseSlots.{slots_after}
use Rattle.core_kept.proofs.RaiseTrees.{unmarked_now}
use Rattle.core_kept.proofs.RaiseSeats.{own_now, other_now}

module _ (z : Layout) (m : Memory) (vs : List View) (g : Meaning) (rule : Rule z m vs g) (i : ℕ) (v : View) (u : Update) (known : List Update)
    (move : TreeMove) (tree : NamedTree) (at : IsItem vs i v) (can : CanRaise v u) (all : known ≡ g.updates) (moves : MovesTree m g v u move tree) where
  abbrev m' : Memory
  m' = written m Stamp (m Stamp + 1)

  abbrev g' : Meaning
  g' = meaning_after m g v u move tree

  abbrev v' : View
  v' = raised_view known v (m Stamp) u move

  abbrev ws : List View
  ws = set vs i v'

  pub raised_rule : Rule z m' ws g'
  raised_rule = record {
    numbers = λ n. sum_kept (number_count n) vs i v v' at refl ∙ rule.numbers n;
    history = history_now z m vs g rule i v u known move at can all;
    slots = slots_after z m vs g rule i v u known move tree at can.raised moves;
    locks = λ k. sum_kept (lock_count k) vs i v v' at refl ∙ rule.locks k;
    tree = moves.version;
    marks = unmarked_now z m vs g rule i v u move tree at can moves;
    bundles = bundle_now z m vs g rule i v u known move tree at can moves;
    pairs = pairs_same vs i v v' at refl rule.pairs;
    single = single_after z m vs g rule i v u move tree at moves known;
    seats = all_moved (SeatRight z m g) (SeatRight z m' g') vs i v v' at rule.seats
        (own_now z m vs g rule i v u known move tree at can all moves)
        (other_now z m vs g rule i v u known move tree at can all moves);
  }

  pub raise_kept : Kept z m vs g m' ws
  raise_kept = record {
    meaning = g';
    rule = raised_rule;
    same = λ t k w read live live'. selects z m vs g rule i v u move tree at can moves t k w (read_past z m vs g rule t read) live;
    plain = plain_raised z m vs g rule i v u known move tree at can moves;
    stays = λ e. absurd (omega (arith, e));
  }
