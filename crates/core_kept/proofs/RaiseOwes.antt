-- A raise owes the tag of each link that leads to no node any more.
use Rattle.std.proofs.Common.{◌≡◌, ℕ, ◌+◌, List, length, true, set, arith, filter, ◌∙◌, sym, subst, inl, inr, slice_index, Some, None}
use Rattle.std.proofs.lemmas.Bool.{and_parts, cases_lt}
use Rattle.index_words.specs.declared.layout.Layout.{Layout}
use Rattle.index_words.specs.declared.side.Side.TheVariants.{Right}
use Rattle.index_words.specs.declared.view.View.{View}
use Rattle.index_words.specs.declared.word.Word.TheVariants.{Stamp}
use Rattle.index_words.specs.Words.{Memory, memory, written, word_at}
use Rattle.index_words.proofs.Store.{word_there, stored_at}
use Rattle.key_map.specs.declared.update.Update.{Update}
use Rattle.key_map.specs.Lists.{count, IsItem}
use Rattle.core_grace.specs.Batches.{is_number}
use Rattle.core_grace.specs.Holds.{listed}
use Rattle.core_trees.specs.LinkSteps.{IsLinkIn}
use Rattle.core_trees.specs.NamedTree.{NamedTree}
use Rattle.core_events.specs.declared.tree_move.TreeMove.{TreeMove}
use Rattle.core_events.specs.LoadMoves.{longest}
use Rattle.core_events.specs.PlainNeeds.{is_link_of, owes}
use Rattle.core_events.specs.SpelledNow.{tree_now}
use Rattle.core_events.specs.TreeMoves.{tree_after, new_slot, tree_move, is_tree_step}
use Rattle.core_events.specs.UpdateMoves.{raised_view}
use Rattle.core_events.specs.UpdateNeeds.{may_raise_number, may_raise}
use Rattle.core_events.proofs.Tests.{never}
use Rattle.core_invariant.specs.Meanings.{Meaning}
use Rattle.core_invariant.specs.Rule.{Rule, InRule}
use Rattle.core_invariant.proofs.Passing.{longest_is}
use Rattle.core_invariant.proofs.Needed.{CanRaise, can_raise}
use Rattle.core_invariant.proofs.TreeNow.{child_is, link_live, tree_is}
use Rattle.core_kept.specs.RaiseOwes.{OwesNulled, OwesLaw}
use Rattle.core_kept.proofs.Raise.{raised_rule}
use Rattle.core_kept.proofs.RaiseLinks.{old_apart, kept_child}
use Rattle.core_kept.proofs.TreeMoved.{MovesTree, meaning_after}
use Rattle.core_kept.proofs.TreeNeeds.{moves_tree}

module _ (z : Layout) (m : Memory) (vs : List View) (g : Meaning) (rule : Rule z m vs g) (i : ℕ) (v : View) (u : Update) (known : List Update)
    (move : TreeMove) (tree : NamedTree) (at : IsItem vs i v) (can : CanRaise v u) (all : known ≡ g.updates) (moves : MovesTree m g v u move tree) where
  abbrev m' : Memory
  m' = written m Stamp (m Stamp + 1)

  abbrev v' : View
  v' = raised_view known v (m Stamp) u move

  abbrev ws : List View
  ws = set vs i v'

  abbrev g' : Meaning
  g' = meaning_after m g v u move tree

  rule' : Rule z m' ws g'
  rule' = raised_rule z m vs g rule i v u known move tree at can all moves

  owes_nulled : OwesNulled z m vs m' ws v'
  owes_nulled k side before after led null =
      let old : IsLinkIn 0 Right g.tree k side = subst (λ (t : NamedTree). IsLinkIn 0 Right t k side) (tree_is z m vs g rule) before in
      let still : IsLinkIn 0 Right tree k side = subst (λ (t : NamedTree). IsLinkIn 0 Right t k side) (tree_is z m' ws g' rule') after in
      let was = child_is z m vs g rule k (link_live z m vs g rule k side old) side in
      let is = child_is z m' ws g' rule' k (link_live z m' ws g' rule' k side still) side in
      let apart : count k (listed move.added) ≡ 0 = old_apart z m vs g rule i v u known move tree at can moves k side old in
      elim (cases_lt 0 (length (filter (is_link_of k side) move.plain.unset))) as (λ _. owes k side move.plain.owed ≡ true) [
        | inl sets ↦ moves.plain.nulls k side sets (sym is ∙ null)
        | inr none ↦
            absurd (omega (
              arith,
              led,
              null,
              was,
              is,
              kept_child z m vs g rule i v u known move tree at can moves k side still apart
                  (λ sets. omega (arith, none, sets)),
            ))
      ]

module _ (z : Layout) (words : List ℕ) (vs : List View) (right : InRule z words vs) (i n value : ℕ) (v : View) (at : IsItem vs i v)
    (is : word_at z n ≡ Some Stamp) where
  abbrev m : Memory
  m = memory z words

  owes_of : (u : Update) → is_number u.client v.number ≡ true → may_raise z m vs v Stamp value (Some u) ≡ true
      → OwesNulled z m vs (memory z (set words n (slice_index words n + 1))) (set vs i (raised_view (longest vs) v (m Stamp) u (tree_move z m vs v u)))
      (raised_view (longest vs) v (m Stamp) u (tree_move z m vs v u))
  owes_of u own met =
      let w : View = raised_view (longest vs) v (m Stamp) u (tree_move z m vs v u) in
      let one = and_parts (may_raise_number v Stamp value) (is_tree_step z m vs v u) met in
      let can = can_raise v Stamp value u one.0 own in
      let now = tree_now z m vs in
      subst (λ k. OwesNulled z m vs (memory z (set words n (slice_index words k + 1))) (set vs i w) w) (word_there z n Stamp is).1
      (subst (λ (h : Memory). OwesNulled z m vs h (set vs i w) w) (sym (stored_at z words n Stamp (m Stamp + 1) right.size is))
      (owes_nulled z m vs right.meaning right.rule i v u (longest vs) (tree_move z m vs v u) (tree_after u.change (new_slot m vs v u.key now) u.key now) at can
      (longest_is z m vs right.meaning right.rule) (moves_tree z m vs right.meaning right.rule i v at u can.raised can.left one.1)))

pub owes_law : OwesLaw
owes_law z words vs right i n value v (Some u) at is own met = owes_of z words vs right i n value v at is u own met
owes_law z words vs right i n value v None at is own met = absurd (never own)
