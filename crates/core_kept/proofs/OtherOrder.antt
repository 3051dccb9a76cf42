-- The plain tree, what searches claim and what they reach, over another list of views: one with more views, or in
-- another order.
use Rattle.std.proofs.Common.{◌≡◌, ℕ, List, Bool, true, Option}
use Rattle.std.specs.List.{All, list_any}
use Rattle.index_words.specs.declared.view.View.{View}
use Rattle.key_map.specs.Lists.{has}
use Rattle.core_trees.specs.NamedTree.{NamedTree}
use Rattle.core_trees.specs.SpelledTree.{Graph}
use Rattle.index_words.specs.declared.side.Side.TheVariants.{Right}
use Rattle.core_events.specs.Searches.{turn_key}
use Rattle.core_invariant.specs.PlainTree.{sets_link, bypasses, copies, undone, SeatInTree, IsPlainTree}
use Rattle.core_invariant.specs.SearchRule.{waits_for, waits, ClaimsAt, SearchRight}
use Rattle.core_kept.proofs.SearchMoves.{claims_wider, place_wider, links_wider}
use Rattle.plain_trees.specs.Claims.{IsWaiting}
use Rattle.plain_trees.specs.Matching.{IsBypassed}
use Rattle.plain_trees.specs.Raises.{Extends}
use Rattle.plain_trees.proofs.Inserts.{still}

-- what one of the views passes one of the others passes
module _ (g : Graph) (vs ws : List View) (now plain : NamedTree) (some : (test : View → Bool) → list_any test vs ≡ true → list_any test ws ≡ true) where
  more_undone : Extends (undone g vs) (undone g ws)
  more_undone = record {
    links = λ k side was child. some (sets_link (g.child Right) k side was child);
    outs = λ k. some (λ (v : View). has k v.update.taken);
    passes = λ k. some (λ (v : View). bypasses v.update.taken v.update.added k);
    heirs = λ n s. some (λ (v : View). copies v.update.taken n s);
  }

  pub tree_over : All (SeatInTree g plain now) ws → IsPlainTree g vs now plain → IsPlainTree g ws now plain
  tree_over seats trees = record {
    spelled = trees.spelled;
    once = trees.once;
    matches = still (undone g vs) (undone g ws) more_undone 0 Right plain now trees.matches;
    seats = seats;
  }

  pub search_over : (t : View) → SearchRight g vs now plain t → SearchRight g ws now plain t
  search_over t before = record {
    ahead = before.ahead;
    key = before.key;
    keys = before.keys;
    place = λ raised.
        place_wider (ClaimsAt g vs plain t) (ClaimsAt g ws plain t) (turn_key t.reading.right_turn) (turn_key t.reading.left_turn)
        t.reading.place step (before.place raised);
    links = λ raised. links_wider (ClaimsAt g vs plain t) (ClaimsAt g ws plain t) t.reading.links step (before.links raised);
  }
    where
      step : (low high : Option ℕ) (a : ℕ) → ClaimsAt g vs plain t low high a → ClaimsAt g ws plain t low high a
      step low high a claims x inside =
          claims_wider g (IsBypassed (undone g vs)) (IsBypassed (undone g ws)) (IsWaiting (waits vs t)) (IsWaiting (waits ws t)) plain x a
          (λ k. some (λ (v : View). bypasses v.update.taken v.update.added k))
          (λ n s. some (waits_for t n s)) (claims x inside)
