-- The plain tree, what searches claim and what they reach, after a seat is split off.
use Rattle.std.proofs.Common.{refl}
use Rattle.index_words.specs.Words.{memory}
use Rattle.core_events.specs.declared.event.Kind.TheVariants.{SplitSeat}
use Rattle.core_events.specs.Moves.{split_left, split_right}
use Rattle.core_invariant.specs.Reached.{plain_graph}
use Rattle.core_kept.specs.SearchLaws.{KeepsSearchesAt}
use Rattle.core_kept.proofs.MadeSearches.{SameSeat, OnlyFree, tree_made, searches_made, reach_made}
use Rattle.core_kept.proofs.TwoViews.{count-take-drop}

pub split_searches : KeepsSearchesAt SplitSeat
split_searches z words vs right i v at live n w found value o own met =
    let g = plain_graph (memory z words) in
    let same : SameSeat v (split_left v value)
    = record { work = refl; number = refl; word = refl; reading = refl; held = refl; batch = refl; retired = refl; grace = refl } in
    let bare : OnlyFree (split_right v value) = record { reading = refl; update = refl; held = refl; word = refl; batch = refl } in
    record {
      plain_tree = right.plain_tree;
      trees = tree_made z g vs i v (split_left v value) (split_right v value) at same bare right.meaning.tree right.plain_tree right.trees;
      searches = searches_made z g vs i v (split_left v value) (split_right v value) at same bare right.meaning.tree right.plain_tree right.searches;
      reach = reach_made z g vs i v (split_left v value) (split_right v value) at same bare (λ k. count-take-drop k value v.free.nodes) right.reach;
    }
