-- Raise: what is said of plain links. Each link of the new tree leads where the tree does, but those that the update
-- leaves to be set; and where it leaves a tag to be raised, the greatest number of the bundle has risen.
use Rattle.std.proofs.Common.{◌≡◌, ℕ, ◌+◌, ◌<◌, ◌≤◌, List, ◌++◌, length, true, set, arith, ap, ◌∙◌, sym, inl, inr, filter}
use Rattle.std.specs.List.{sum_by}
use Rattle.std.proofs.lemmas.Bool.{cases_lt}
use Rattle.index_words.specs.declared.layout.Layout.{Layout}
use Rattle.index_words.specs.declared.side.Side.{Side}
use Rattle.index_words.specs.declared.side.Side.TheVariants.{Right}
use Rattle.key_map.specs.declared.update.Update.{Update}
use Rattle.index_words.specs.declared.view.View.{View}
use Rattle.index_words.specs.declared.view.update.OwedTag.{OwedTag}
use Rattle.index_words.specs.declared.view.update.UnsetLink.{UnsetLink}
use Rattle.index_words.specs.declared.word.Field.TheVariants.{Key, Val, Head, Link, Tag}
use Rattle.index_words.specs.declared.word.Part.TheVariants.{Child}
use Rattle.index_words.specs.declared.word.Word.TheVariants.{Stamp, Node, Entry}
use Rattle.index_words.specs.Words.{Memory, written}
use Rattle.index_words.proofs.Seats.{Beside, sum_moved, one_term, at_item, all_moved, item_set}
use Rattle.key_map.specs.Lists.{count, IsItem}
use Rattle.core_grace.specs.Holds.{held_slots, listed}
use Rattle.core_links.specs.Bundle.{child_of_entry}
use Rattle.core_trees.specs.LinkSteps.{IsLinkIn}
use Rattle.core_trees.specs.NamedTree.{NamedTree}
use Rattle.core_trees.specs.Slots.{one_at}
use Rattle.core_trees.specs.SpelledAt.{graph_at}
use Rattle.core_trees.specs.SpelledTree.{Graph}
use Rattle.core_events.specs.LoadMoves.{locks}
use Rattle.core_events.specs.PlainNeeds.{is_link_of, is_owed_at}
use Rattle.core_events.specs.UpdateMoves.{raised_view}
use Rattle.core_events.specs.declared.tree_move.TreeMove.{TreeMove}
use Rattle.core_invariant.specs.Locks.{lock_count}
use Rattle.core_invariant.specs.MeaningMoves.{raised_numbers}
use Rattle.core_invariant.specs.Meanings.{Meaning}
use Rattle.core_invariant.specs.PlainRule.{unset_count, owed_count, child_at, greatest_of, UnsetRight, OwedRight, SeatPlain, PlainRight}
use Rattle.core_invariant.specs.Rule.{Rule}
use Rattle.core_invariant.proofs.Frames.{Term, term_of, every_map}
use Rattle.core_invariant.proofs.Locked.{locks-count, locked_apart}
use Rattle.core_invariant.proofs.Needed.{CanRaise}
use Rattle.core_invariant.proofs.Passing.{Passing, passing, any_counted, both_hold}
use Rattle.core_invariant.proofs.PlainSteps.{Sets, tag_parts, link_named, IsWork}
use Rattle.core_invariant.proofs.TreeSteps.{count_sum}
use Rattle.core_kept.proofs.TreeMoved.{MovesTree, meaning_after}
use Rattle.core_kept.proofs.RaiseLinks.{old_apart, was_old, kept_child, sets_locked, new_selected, old_low, greatest_grows, rises_at}

module _ (z : Layout) (m : Memory) (vs : List View) (g : Meaning) (rule : Rule z m vs g) (i : ℕ) (v : View) (u : Update) (known : List Update)
    (move : TreeMove) (tree : NamedTree) (at : IsItem vs i v) (can : CanRaise v u) (moves : MovesTree m g v u move tree) (right : PlainRight m vs g) where
  abbrev s : ℕ
  s = m Stamp

  abbrev entry_child : ℕ → ℕ
  entry_child e = m (Entry Child e)

  abbrev head : Side → ℕ → ℕ
  head w k = m (Node (Head w) k)

  abbrev g' : Meaning
  g' = meaning_after m g v u move tree

  abbrev v' : View
  v' = raised_view known v s u move

  abbrev ws : List View
  ws = set vs i v'

  abbrev pending' : List ℕ
  pending' = v.update.pending ++ move.entries

  abbrev number' : ℕ → ℕ
  number' = raised_numbers g.bundles.number pending' (s + 1)

  abbrev link : Side → ℕ → ℕ
  link w k = m (Node (Link w) k)

  abbrev tag : Side → ℕ → ℕ
  tag w k = m (Node (Tag w) k)

  abbrev child : Side → ℕ → ℕ
  child = child_at entry_child g.bundles s

  abbrev child' : Side → ℕ → ℕ
  child' = child_at entry_child g'.bundles (s + 1)

  abbrev greatest : Side → ℕ → ℕ
  greatest = greatest_of g.bundles s

  abbrev greatest' : Side → ℕ → ℕ
  greatest' = greatest_of g'.bundles (s + 1)

  abbrev IsOld : ℕ → Side → Type 0
  IsOld k side = IsLinkIn 0 Right g.tree k side

  abbrev IsNow : ℕ → Side → Type 0
  IsNow k side = IsLinkIn 0 Right tree k side

  abbrev IsNew : ℕ → Type 0
  IsNew k = 0 < count k (listed move.added)

  abbrev now : Graph
  now = graph_at (λ k. m (Node Key k)) (λ k. m (Node Val k)) entry_child g.bundles.number g.bundles.bundle s

  abbrev then : Graph
  then = graph_at (λ k. m (Node Key k)) (λ k. m (Node Val k)) entry_child g'.bundles.number g'.bundles.bundle (s + 1)

  seat : SeatPlain link child g.tree v
  seat = at_item (SeatPlain link child g.tree) vs i v at right.seats

  -- before the raise the seat has nothing to do
  unset_none : (k : ℕ) (side : Side) → unset_count k side v ≡ 0
  unset_none k side = ap (λ (us : List UnsetLink). length (filter (is_link_of k side) us)) (seat.first can.raised).0

  owed_none : (k : ℕ) (side : Side) → owed_count k side v ≡ 0
  owed_none k side = ap (λ (os : List OwedTag). length (filter (is_owed_at k side) os)) (seat.first can.raised).1

  -- nobody has anything to do there
  none_owed : (k : ℕ) (side : Side) → IsNew k → sum_by (owed_count k side) ws ≡ 0
  none_owed k side new =
      elim (cases_lt 0 (sum_by (owed_count k side) ws)) as (λ _. sum_by (owed_count k side) ws ≡ 0) [
        | inr none ↦ omega (arith, none)
        | inl some ↦ elim (cases_lt 0 (owed_count k side v')) as (λ _. sum_by (owed_count k side) ws ≡ 0) [
          | inl own ↦ absurd (omega (arith, new, old_apart z m vs g rule i v u known move tree at can moves k side (moves.plain.nulled k side own).old))
          | inr other ↦
              let before : 0 < sum_by (owed_count k side) vs = omega (arith, some, other, sum_moved (owed_count k side) vs i v v' at) in
              let term : Term (owed_count k side) vs = term_of (owed_count k side) vs before in
              let its : SeatPlain link child g.tree term.item = at_item (SeatPlain link child g.tree) vs term.place term.item term.at right.seats in
              let one : Passing (is_owed_at k side) (OwedRight g.tree (held_slots term.item.held.nodes))
              = passing (is_owed_at k side) (OwedRight g.tree (held_slots term.item.held.nodes)) term.item.update.owed its.owed
              (any_counted (is_owed_at k side) term.item.update.owed term.some) in
              let parts = tag_parts k side one.item one.passes in
              absurd (omega (
                arith,
                new,
                old_apart z m vs g rule i v u known move tree at can moves k side
                    (link_named g.tree one.item.node k one.item.side side parts.0 parts.1 one.right.there),
              ))
        ]
      ]

  linked_by : (k : ℕ) (side : Side) → IsNow k side → sum_by (unset_count k side) ws ≡ 0 → link side k ≡ child' side k
  linked_by k side there none =
      elim (cases_lt 0 (count k (listed move.added))) as (λ _. link side k ≡ child' side k) [
        | inl new ↦
            (moves.plain.new k side new).0 ∙ sym (ap (child_of_entry entry_child) (new_selected z m vs g rule i v u known move tree at can moves k side new))
        | inr apart ↦
            let old : count k (listed move.added) ≡ 0 = omega (arith, apart) in
            let off : unset_count k side v' ≡ 0 = omega (arith, none, one_term (unset_count k side) ws i v' (item_set vs i v v' at)) in
            let before : sum_by (unset_count k side) vs ≡ 0 = omega (arith, none, off, unset_none k side, sum_moved (unset_count k side) vs i v v' at) in
            right.linked k side (was_old z m vs g rule i v u known move tree at can moves k side there old) before
            ∙ sym (kept_child z m vs g rule i v u known move tree at can moves k side there old (λ sets. omega (arith, off, sets)))
      ]

  tags_by : (k : ℕ) (side : Side) → IsNow k side → tag side k + sum_by (owed_count k side) ws ≤ greatest' side k
  tags_by k side there =
      elim (cases_lt 0 (count k (listed move.added))) as (λ _. tag side k + sum_by (owed_count k side) ws ≤ greatest' side k) [
        | inl new ↦ omega (arith, none_owed k side new, (moves.plain.new k side new).1)
        | inr apart ↦
            let old : IsOld k side = was_old z m vs g rule i v u known move tree at can moves k side there (omega (arith, apart)) in
            elim (cases_lt 0 (owed_count k side v')) as (λ _. tag side k + sum_by (owed_count k side) ws ≤ greatest' side k) [
              | inl some ↦
                  omega (
                    arith,
                    right.tags k side old,
                    old_low z m vs g rule i v u known move tree at can moves k side,
                    rises_at z m vs g rule i v u known move tree at can moves k side (moves.plain.nulled k side some),
                    moves.plain.owed_once k side,
                    owed_none k side,
                    sum_moved (owed_count k side) vs i v v' at,
                  )
              | inr none ↦
                  omega (
                    arith,
                    right.tags k side old,
                    greatest_grows z m vs g rule i v u known move tree at can moves k side old,
                    none,
                    owed_none k side,
                    sum_moved (owed_count k side) vs i v v' at,
                  )
            ]
      ]

  -- the seat that raises
  own_seat : SeatPlain link child' tree v'
  own_seat = record {
    unset =
        every_map (λ (x : UnsetLink). IsWork child' g.tree tree x × ((link x.side x.node ≡ x.was) × (locks x.node v.held.nodes ≡ true)))
        (UnsetRight link child' tree (held_slots v.held.nodes)) move.plain.unset
        (λ x is. record { there = is.0.still; held = locks-count x.node v.held.nodes is.1.1; before = is.1.0; asked = is.0.asked })
        (both_hold (IsWork child' g.tree tree) (λ (x : UnsetLink). (link x.side x.node ≡ x.was) × (locks x.node v.held.nodes ≡ true))
        move.plain.unset moves.plain.work
        (both_hold (λ (x : UnsetLink). link x.side x.node ≡ x.was) (λ (x : UnsetLink). locks x.node v.held.nodes ≡ true) move.plain.unset
        moves.plain.was moves.plain.locked));
    owed =
        every_map (λ (o : OwedTag). IsLinkIn 0 Right tree o.node o.side × (locks o.node v.held.nodes ≡ true))
        (OwedRight tree (held_slots v.held.nodes)) move.plain.owed
        (λ o is. record { there = is.0; held = locks-count o.node v.held.nodes is.1 }) moves.plain.owed;
    first = λ none. cc;
  }

  -- what another seat has locked is still in the tree, and its links lead where they did
  module _ (y : View) (beside : Beside vs i y) where
    still_there : (k : ℕ) (side : Side) → IsOld k side → 0 < lock_count k y → IsNow k side
    still_there k side (inl root) locked = inl root
    still_there k side (inr there) locked = inr (omega (arith, there, not_taken, (moves.slots (one_at k)).0, count_sum k move.taken))
      where
        not_taken : count k move.taken ≡ 0
        not_taken =
            elim (cases_lt 0 (count k move.taken)) as (λ _. count k move.taken ≡ 0) [
              | inl taken ↦ absurd (omega (arith, locked, locked_apart z m vs g rule i k v y at beside (moves.locked k taken)))
              | inr none ↦ omega (arith, none)
            ]

    not_set : (k : ℕ) (side : Side) → 0 < lock_count k y → Sets k side move.plain.unset → ⊥
    not_set k side locked sets =
        omega (arith, locked, locked_apart z m vs g rule i k v y at beside (sets_locked z m vs g rule i v u known move tree at can moves k side sets))

    other_seat : SeatPlain link child g.tree y → SeatPlain link child' tree y
    other_seat of = record {
      unset = every_map (UnsetRight link child g.tree (held_slots y.held.nodes)) (UnsetRight link child' tree (held_slots y.held.nodes)) y.update.unset
          (λ x is.
          let there = still_there x.node x.side is.there is.held in
          record {
            there = there;
            held = is.held;
            before = is.before;
            asked =
                kept_child z m vs g rule i v u known move tree at can moves x.node x.side there
                (old_apart z m vs g rule i v u known move tree at can moves x.node x.side is.there) (not_set x.node x.side is.held) ∙ is.asked;
          }) of.unset;
      owed = every_map (OwedRight g.tree (held_slots y.held.nodes)) (OwedRight tree (held_slots y.held.nodes)) y.update.owed
          (λ o is. record { there = still_there o.node o.side is.there is.held; held = is.held }) of.owed;
      first = of.first;
    }

  pub plain_after : PlainRight (written m Stamp (s + 1)) ws g'
  plain_after = record {
    linked = linked_by;
    tags = tags_by;
    seats = all_moved (SeatPlain link child g.tree) (SeatPlain link child' tree) vs i v v' at right.seats own_seat (λ y beside of. other_seat y beside of);
  }

pub plain_raised : (z : Layout) (m : Memory) (vs : List View) (g : Meaning) (rule : Rule z m vs g) (i : ℕ) (v : View) (u : Update) (known : List Update)
    (move : TreeMove) (tree : NamedTree)
    → (at : IsItem vs i v) → CanRaise v u → (moves : MovesTree m g v u move tree) → PlainRight m vs g
    → PlainRight (written m Stamp (m Stamp + 1)) (set vs i (raised_view known v (m Stamp) u move)) (meaning_after m g v u move tree)
plain_raised z m vs g rule i v u known move tree at can moves right = plain_after z m vs g rule i v u known move tree at can moves right
