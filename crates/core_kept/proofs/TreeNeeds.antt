-- The needs of a tree step, as they are computed, and what they make true.
use Rattle.std.proofs.Common.{◌≡◌, ℕ, ◌+◌, ◌<◌, List, [], ◌∷◌, ◌++◌, Bool, true, false, eqb, arith, refl, ap, ◌∙◌, sym, subst, ◌&&◌, Option, Some, None}
use Rattle.std.specs.List.{list_all}
use Rattle.std.proofs.lemmas.Bool.{and_parts, eqb-true}
use Rattle.index_words.specs.declared.layout.Layout.{Layout}
use Rattle.index_words.specs.declared.side.Side.{Side}
use Rattle.index_words.specs.declared.side.Side.TheVariants.{Left, Right}
use Rattle.key_map.specs.declared.update.Update.{Update}
use Rattle.index_words.specs.declared.view.View.{View}
use Rattle.index_words.specs.declared.view.update.OwedTag.{OwedTag}
use Rattle.index_words.specs.declared.view.update.UnsetLink.{UnsetLink}
use Rattle.index_words.specs.declared.word.Field.TheVariants.{Key, Val, Head, Link, Tag}
use Rattle.index_words.specs.declared.word.Part.TheVariants.{Child}
use Rattle.index_words.specs.declared.word.Word.TheVariants.{Stamp, Node, Entry}
use Rattle.index_words.specs.Words.{Memory}
use Rattle.key_map.specs.History.{changed, updated, after}
use Rattle.key_map.specs.Lists.{count, has, Every, IsItem}
use Rattle.key_map.proofs.HistoryLaws.{after-push}
use Rattle.core_grace.specs.Holds.{Bundles, listed}
use Rattle.core_links.specs.Bundle.{child_of_entry}
use Rattle.core_trees.specs.NamedTree.{NamedTree, contents}
use Rattle.core_trees.specs.Gaps.{HasNullLink, IsInGap}
use Rattle.core_trees.specs.LinkSteps.{IsLinkIn}
use Rattle.core_trees.specs.Search.{end_node, end_side}
use Rattle.core_trees.specs.Slots.{MovesSlots, occurs, one_at, NamesOnce}
use Rattle.core_trees.specs.SpelledAt.{IsSpelledAt, graph_at}
use Rattle.core_trees.specs.SpelledTree.{Graph}
use Rattle.core_trees.specs.TreeStep.{subtree_at}
use Rattle.core_trees.proofs.SpelledGaps.{null_link_law}
use Rattle.core_events.specs.declared.tree_move.TreeMove.{TreeMove}
use Rattle.core_invariant.specs.Meanings.{Meaning}
use Rattle.core_invariant.specs.BundleRule.{IsLive}
use Rattle.core_events.specs.LoadMoves.{locks}
use Rattle.core_events.specs.SpelledNow.{tree_now}
use Rattle.core_events.specs.TreeMoves.{tree_after, is_key, has_key, new_slot, move_at, tree_move, is_new, is_plain_at, is_plain_new, sets_locked, spells_after, is_step, is_tree_step, is_plain_step, finds_gap}
use Rattle.core_events.specs.Versions.{top_slot, IsNullAtBoth}
use Rattle.core_invariant.specs.Rule.{Rule}
use Rattle.core_invariant.proofs.Locked.{locks-count}
use Rattle.core_invariant.proofs.Children.{top_link, leads_link, subtree_child}
use Rattle.core_invariant.proofs.Passing.{all_passing, both_hold}
use Rattle.core_invariant.proofs.PlainSteps.{after_child, IsWork, set_work, set_was, owed_every, owed_once, owed_null, null_owed}
use Rattle.core_kept.proofs.TreeMoved.{MovesPlain, MovesTree, meaning_after}
use Rattle.core_invariant.proofs.TreeNow.{link_live, names_once, node_lives, tree_is}
use Rattle.core_invariant.proofs.TreeSteps.{slots_after, contents_after, key_low, lawful_after, gaps_after, count_sum, listed_is, tested_at}
use Rattle.core_kept.proofs.TreeAfter.{added_new, entries_new, entries_once, not_listed, entries_linked, child_after, child_pending, spelled_after, null_before, null_after}

abbrev IsPlainAt : Memory → ℕ → Side → Type 0
IsPlainAt m x w = (m (Node (Link w) x) ≡ child_of_entry (λ e. m (Entry Child e)) (m (Node (Head w) x))) × (m (Node (Tag w) x) ≡ 0)

-- the plain links of a new node lead to the children of its entries
plain_new : (m : Memory) (added : Option ℕ) → is_plain_new m added ≡ true → (k : ℕ) (side : Side) → 0 < count k (listed added)
    → IsPlainAt m k side
plain_new m None is k side some = absurd (omega (arith, some))
plain_new m (Some a) is k side some = subst (λ x. IsPlainAt m x side) (listed_is k a some) (by side)
  where
    one : (w : Side) → is_plain_at m a w ≡ true → IsPlainAt m a w
    one w met =
        let parts = and_parts (eqb (m (Node (Link w) a)) (child_of_entry (λ e. m (Entry Child e)) (m (Node (Head w) a)))) (eqb (m (Node (Tag w) a)) 0) met in
        (eqb-true (m (Node (Link w) a)) (child_of_entry (λ e. m (Entry Child e)) (m (Node (Head w) a))) parts.0, eqb-true (m (Node (Tag w) a)) 0 parts.1)

    by : (w : Side) → IsPlainAt m a w
    by Left = one Left (and_parts (is_plain_at m a Left) (is_plain_at m a Right) is).0
    by Right = one Right (and_parts (is_plain_at m a Left) (is_plain_at m a Right) is).1

module _ (z : Layout) (m : Memory) (vs : List View) (g : Meaning) (rule : Rule z m vs g) (i : ℕ) (v : View) (at : IsItem vs i v)
    (quiet : v.update.raised ≡ None) (left : 0 < v.history.left) (u : Update) (slot : ℕ) where
  abbrev s : ℕ
  s = m Stamp

  abbrev move : TreeMove
  move = move_at z m u slot g.tree

  abbrev tree : NamedTree
  tree = tree_after u.change slot u.key g.tree

  moves : MovesSlots move.taken (listed move.added) g.tree tree
  moves = slots_after u.change slot u.key g.tree

  -- a node of the new tree that is not new was in the tree, and so was each that is taken out
  node_after : (x : ℕ) → 0 < occurs x tree → has x (listed move.added) ≡ false → IsLive z vs x
  node_after x there lacks =
      node_lives z m vs g rule x (omega (arith, (moves (one_at x)).0, there, count_sum x (listed move.added), not_listed x (listed move.added) lacks))

  taken_live : (k : ℕ) → 0 < count k move.taken → IsLive z vs k
  taken_live k there = node_lives z m vs g rule k (omega (arith, (moves (one_at k)).1, count_sum k move.taken, there))

  contents_next : contents tree ≡ after (g.updates ++ u ∷ []) (s + 1)
  contents_next =
      contents_after u.change slot u.key g.tree rule.tree.lawful
      ∙ ap (changed u.key u.change) rule.tree.contents
      ∙ sym (subst (λ n. after (g.updates ++ u ∷ []) (n + 1) ≡ updated (after g.updates n) u) rule.history.long (after-push g.updates u))

  module _ (new : is_new m v move.added ≡ true) (spelled : spells_after m vs v u slot move g.tree ≡ true) where
    spelled_next : IsSpelledAt (λ k. m (Node Key k)) (λ k. m (Node Val k)) (λ e. m (Entry Child e)) (meaning_after m g v u move tree).bundles.number
        (meaning_after m g v u move tree).bundles.bundle (s + 1) 0 tree
    spelled_next = spelled_after z m vs g rule i v at quiet left move.added new tree node_after spelled

    abbrev bundles' : Bundles
    bundles' = (meaning_after m g v u move tree).bundles

    abbrev now : Graph
    now = graph_at (λ n. m (Node Key n)) (λ n. m (Node Val n)) (λ e. m (Entry Child e)) g.bundles.number g.bundles.bundle s

    abbrev then : Graph
    then = graph_at (λ n. m (Node Key n)) (λ n. m (Node Val n)) (λ e. m (Entry Child e)) bundles'.number bundles'.bundle (s + 1)

    -- what is left to be done at plain links
    module _ (ends : slot ≡ new_slot m vs v u.key g.tree) where
      abbrev n : ℕ
      n = end_node u.key 0 g.tree

      abbrev d : Side
      d = end_side u.key Right g.tree

      abbrev top : ℕ
      top = top_slot (subtree_at u.key g.tree)

      end_live : IsLive z vs n
      end_live =
          link_live z m vs g rule n d (leads_link 0 Right g.tree n d top (subtree_child u.key 0 Right g.tree n d top (top_link n d (subtree_at u.key g.tree))))

      -- the link at which the search ends leads to the new slot
      end_leads : then.child d n ≡ slot
      end_leads =
          sym (child_after z m vs g rule i v at quiet left move.added new n (λ lacks. end_live) d)
          ∙ child_pending z m vs g rule i v at quiet left move.added new n d end_live ∙ sym ends

      plain_next : has_key u.change u.key g.tree ≡ true → is_plain_step m v u move g.tree ≡ true → MovesPlain m g v u move tree
      plain_next found is =
          let once : NamesOnce 0 g.tree = names_once z m vs g rule in
          let parts = and_parts (list_all (sets_locked v) move.plain.unset) (is_plain_new m move.added)
          (and_parts (list_all (sets_locked v) move.plain.unset && is_plain_new m move.added) (finds_gap m v u g.tree) is).0 in
          let work : Every (IsWork then.child g.tree tree) move.plain.unset
          = set_work m u.key slot g.tree now then rule.tree.spelled once end_leads u.change spelled_next in
          let locked : Every (λ (x : UnsetLink). locks x.node v.held.nodes ≡ true) move.plain.unset = all_passing (sets_locked v) move.plain.unset parts.0 in
          record {
            leads = after_child m slot u.change u.key g.tree;
            work = work;
            was = set_was m u.change u.key slot g.tree;
            locked = locked;
            owed = owed_every (λ (x : UnsetLink). IsWork then.child g.tree tree x × (locks x.node v.held.nodes ≡ true))
                (λ (o : OwedTag). IsLinkIn 0 Right tree o.node o.side × (locks o.node v.held.nodes ≡ true)) m u.change u.key slot g.tree
                (λ x known. (known.0.still, known.1))
                (both_hold (IsWork then.child g.tree tree) (λ (x : UnsetLink). locks x.node v.held.nodes ≡ true) move.plain.unset work locked);
            owed_once = owed_once m u.key slot g.tree now then rule.tree.spelled once end_leads u.change;
            nulled = owed_null m u.key slot g.tree now then rule.tree.spelled once end_leads u.change found spelled_next;
            nulls = null_owed m u.key slot g.tree now then rule.tree.spelled once end_leads u.change spelled_next;
            new = plain_new m move.added parts.1;
          }

    gap_next : (k y : ℕ) (side : Side) → 0 < occurs k g.tree → 0 < occurs k tree
        → IsNullAtBoth (λ e. m (Entry Child e)) (meaning_after m g v u move tree).bundles s (s + 1) side k
        → IsInGap side (m (Node Key k)) y g.tree → IsInGap side (m (Node Key k)) y tree
    gap_next k y side there still both gap =
        let link : HasNullLink k (m (Node Key k)) side g.tree
        = null_link_law now (now.child Right 0) k side g.tree rule.tree.spelled there
        (null_before z m vs g rule i v at quiet left move.added new k side there both) in
        gaps_after then u.change slot u.key k (m (Node Key k)) y side g.tree rule.tree.lawful link spelled_next
        (null_after z m vs g rule i v at quiet left move.added new k side both) gap

  pub moves_by : slot ≡ new_slot m vs v u.key g.tree → is_step m vs v u slot move g.tree ≡ true → MovesTree m g v u move tree
  moves_by ends is =
      let taken : Bool = list_all (λ k. locks k v.held.nodes) move.taken in
      let spelled : Bool = spells_after m vs v u slot move g.tree in
      let five = and_parts (is_key u.key && has_key u.change u.key g.tree && taken && is_new m v move.added && spelled) (is_plain_step m v u move g.tree) is in
      let four = and_parts (is_key u.key && has_key u.change u.key g.tree && taken && is_new m v move.added) spelled five.0 in
      let three = and_parts (is_key u.key && has_key u.change u.key g.tree && taken) (is_new m v move.added) four.0 in
      let two = and_parts (is_key u.key && has_key u.change u.key g.tree) taken three.0 in
      let one = and_parts (is_key u.key) (has_key u.change u.key g.tree) two.0 in
      record {
        added = added_new m v move.added three.1;
        entries = refl;
        fresh = entries_new m v move.added three.1;
        once = entries_once m v move.added three.1;
        locked = λ k there. locks-count k v.held.nodes (tested_at (λ n. locks n v.held.nodes) move.taken k two.1 there);
        taken_entries = λ e. entries_linked z m vs g rule i v at quiet left e move.taken taken_live;
        slots = moves;
        version = record {
          spelled = spelled_next three.1 four.1;
          lawful = lawful_after u.change slot u.key g.tree (key_low u.key one.0) rule.tree.lawful;
          contents = contents_next;
        };
        gaps = gap_next three.1 four.1;
        plain = plain_next three.1 four.1 ends one.1 five.1;
      }

-- what the tree step of a raise makes true
pub moves_tree : (z : Layout) (m : Memory) (vs : List View) (g : Meaning) (rule : Rule z m vs g) (i : ℕ) (v : View) (at : IsItem vs i v) (u : Update)
    → v.update.raised ≡ None → 0 < v.history.left → is_tree_step z m vs v u ≡ true
    → MovesTree m g v u (tree_move z m vs v u) (tree_after u.change (new_slot m vs v u.key (tree_now z m vs)) u.key (tree_now z m vs))
moves_tree z m vs g rule i v at u quiet left is =
    let Moves : NamedTree → Type 0
    = λ (t : NamedTree). is_step m vs v u (new_slot m vs v u.key t) (move_at z m u (new_slot m vs v u.key t) t) t ≡ true
    → MovesTree m g v u (move_at z m u (new_slot m vs v u.key t) t) (tree_after u.change (new_slot m vs v u.key t) u.key t) in
    subst Moves (sym (tree_is z m vs g rule)) (moves_by z m vs g rule i v at quiet left u (new_slot m vs v u.key g.tree) refl) is
