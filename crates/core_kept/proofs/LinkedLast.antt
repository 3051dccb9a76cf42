-- As long as an entry is pending, the link to the node that an update has brought in is still to be set: after every
-- event.
use Rattle.std.proofs.Common.{◌≡◌, ℕ, List, [], ◌∷◌, Bool, true, eqb, ◌||◌, set, refl, ap, ◌∙◌, sym, Option, Some, None}
use Rattle.std.specs.List.{All, list_any, slice_get}
use Rattle.std.proofs.lemmas.Bool.{eq-eqb}
use Rattle.std.proofs.lemmas.List.Elements.{All-set, All-push}
use Rattle.index_words.specs.declared.layout.Layout.{Layout}
use Rattle.key_map.specs.declared.update.Change.{Change}
use Rattle.key_map.specs.declared.update.Change.TheVariants.{Put, Remove}
use Rattle.key_map.specs.declared.update.Update.{Update}
use Rattle.index_words.specs.declared.side.Side.TheVariants.{Right}
use Rattle.index_words.specs.declared.view.View.{View}
use Rattle.index_words.specs.declared.view.update.UnsetLink.{UnsetLink}
use Rattle.index_words.specs.declared.view.update.Updating.{Updating}
use Rattle.index_words.specs.declared.word.Field.TheVariants.{Head, Link}
use Rattle.index_words.specs.declared.word.Word.{Word}
use Rattle.index_words.specs.declared.word.Word.TheVariants.{Node, Entry}
use Rattle.index_words.specs.Views.{spent_view}
use Rattle.index_words.specs.Words.{Memory, memory}
use Rattle.key_map.specs.Lists.{IsItem}
use Rattle.index_words.proofs.Seats.{at_item}
use Rattle.core_trees.specs.NamedTree.{NamedTree, Null, Branch}
use Rattle.core_events.specs.declared.event.Kind.{Kind}
use Rattle.core_events.specs.declared.event.Kind.TheVariants.{MakeSeat, SplitSeat, JoinSeat, Leave, Prepare, Raise, Finalise, Unlock, SetLink}
use Rattle.core_events.specs.LockMoves.{other_nodes}
use Rattle.core_events.specs.Moves.{left, split_left, split_right, joined_with}
use Rattle.core_events.specs.PlainNeeds.{may_set_link}
use Rattle.core_events.specs.PlainMoves.{link_set}
use Rattle.core_events.specs.PlainWork.{unset_at, removed_links, plain_move}
use Rattle.core_events.specs.Steps.{needs, view_after, views_after, join_found, prepared_from, raised_from, finalised_from, unlocked_from, set_from}
use Rattle.core_events.specs.TreeMoves.{brings, first_slot, new_slot}
use Rattle.core_events.specs.UpdateMoves.{without, prepared}
use Rattle.core_events.specs.UpdateNeeds.{may_prepare}
use Rattle.core_events.specs.SpelledNow.{tree_now}
use Rattle.core_trees.specs.Search.{end_node, end_side}
use Rattle.core_trees.specs.Slots.{joint_slots, added_slots}
use Rattle.core_trees.specs.TreeStep.{subtree_at}
use Rattle.core_events.proofs.Tests.{never}
use Rattle.core_invariant.specs.LinkRule.{LinksLastOf, LinksLast}
use Rattle.core_invariant.specs.Rule.{InRule}
use Rattle.core_invariant.proofs.Needed.{ready_is}
use Rattle.core_invariant.proofs.OneView.{seat_at}
use Rattle.core_invariant.proofs.WaitNeeds.{can_set, nothing_is}
use Rattle.core_invariant.proofs.Footprints.{Spares, quiet_part}
use Rattle.core_kept.proofs.Unlocks.{until_by}
use Rattle.core_invariant.proofs.Groups.Group.{Change as ChangeGroup, Pending, Unset}

-- a view that has brought in nothing
pub nothing_brought : (v : View) → v.update.added ≡ None → LinksLast v
nothing_brought v none = record { unlinked = λ k added busy. absurd (no_node k (sym none ∙ added)) }
  where
    no_node : (k : ℕ) → None ≡ Some k → ⊥
    no_node k is = cc

-- one with nothing pending
done : (v : View) → v.update.pending ≡ [] → LinksLast v
done v none = record { unlinked = λ k added busy. absurd (busy none) }

-- the node that a raise brings in is the child of the first link that it leaves to be set
same_slot : (slot k : ℕ) → Some slot ≡ Some k → slot ≡ k
same_slot slot k is = cc

joint_slot : (slot k : ℕ) (l r : NamedTree) → first_slot (joint_slots slot l r) ≡ Some k → slot ≡ k
joint_slot slot k (Branch a b c d e) (Branch f g h i j) is = same_slot slot k is
joint_slot slot k _ _ is = cc

added_slot : (slot k : ℕ) (tree : NamedTree) → first_slot (added_slots slot tree) ≡ Some k → slot ≡ k
added_slot slot k Null is = cc
added_slot slot k (Branch s key val l r) is = joint_slot slot k l r is

first_child : (u : UnsetLink) (us : List UnsetLink) (k : ℕ) → u.child ≡ k → list_any (λ (x : UnsetLink). eqb x.child k) (u ∷ us) ≡ true
first_child u us k same = ap (λ (b : Bool). b || list_any (λ (x : UnsetLink). eqb x.child k) us) (eq-eqb u.child k same)

brought_first : (m : Memory) (change : Change) (key slot k : ℕ) (tree : NamedTree) → first_slot (brings change slot key tree) ≡ Some k
    → list_any (λ (u : UnsetLink). eqb u.child k) (plain_move m change key slot tree).unset ≡ true
brought_first m (Put val) key slot k tree is = first_child (unset_at m (end_node key 0 tree) (end_side key Right tree) slot) [] k (same_slot slot k is)
brought_first m Remove key slot k tree is =
    first_child (unset_at m (end_node key 0 tree) (end_side key Right tree) slot) (removed_links m (subtree_at key tree)) k
    (added_slot slot k (subtree_at key tree) is)

-- nothing is left of an empty list
none_without : (e : ℕ) (xs : List ℕ) → xs ≡ [] → without e xs ≡ []
none_without e xs none = ap (λ (ys : List ℕ). without e ys) none

module _ (z : Layout) (words : List ℕ) (vs : List View) (right : InRule z words vs) (i : ℕ) (v : View) (at : IsItem vs i v) (value : ℕ) where
  abbrev m : Memory
  m = memory z words

  last : LinksLast v
  last = at_item LinksLast vs i v at right.linking

  moved : (u : View) → LinksLast u → All LinksLast (set vs i u)
  moved u of = All-set LinksLast vs i u of right.linking

  -- before the raise nothing was brought in
  prepared_last : (w : Word) → may_prepare m v w value ≡ true → LinksLast (prepared_from v w value)
  prepared_last (Node (Head side) k) met =
      let seat = seat_at z m vs right.meaning i v at right.rule in
      nothing_brought (prepared v side k value) (seat.update.first (ready_is z m right.meaning v side k value seat met).raised)
  prepared_last _ met = absurd (never met)

  raised_last : (x : ℕ) (o : Option Update) → LinksLast (raised_from z m vs v x o)
  raised_last x None = last
  raised_last x (Some u) =
      record { unlinked = λ k added busy. brought_first m u.change u.key (new_slot m vs v u.key (tree_now z m vs)) k (tree_now z m vs) added }

  finalised_last : (w : Word) → LinksLast (finalised_from v w)
  finalised_last (Entry p e) = record { unlinked = λ k added busy. last.unlinked k added (λ none. busy (none_without e v.update.pending none)) }
  finalised_last _ = last

  unlocked_last : (w : Word) → LinksLast (unlocked_from v w)
  unlocked_last (Node f k) =
      until_by (λ (u : Updating). LinksLastOf u.added u.pending u.unset) (other_nodes k v.held.nodes) v.update (record { unlinked = λ k added busy. cc }) last
  unlocked_last _ = last

  -- nothing is pending where a link is set
  set_last : (w : Word) → may_set_link z m v w value ≡ true → LinksLast (set_from v w value)
  set_last (Node (Link side) k) met = done (link_set v k side value) (nothing_is m v (can_set z m v k side value met).nothing).pending
  set_last _ met = absurd (never met)

  joined_last : (o : Option View) → All LinksLast (join_found vs i v value o)
  joined_last None = right.linking
  joined_last (Some u) =
      All-set LinksLast (set vs i (joined_with v u)) value spent_view (nothing_brought spent_view refl)
      (moved (joined_with v u) last)

  still_last : (kind : Kind) (w : Word) (o : Option Update) → Spares kind (ChangeGroup ∷ Pending ∷ Unset ∷ [])
      → All LinksLast (set vs i (view_after kind z m vs v w (m w) value o))
  still_last kind w o off =
      moved (view_after kind z m vs v w (m w) value o)
      (quiet_part z m vs v (m w) value o kind w (ChangeGroup ∷ Pending ∷ Unset ∷ []) (λ p. LinksLastOf p.0.added p.1.0 p.1.1.0) off last)

  -- it is so after an event whose needs are met
  pub linking_after : (kind : Kind) (w : Word) (o : Option Update) → needs kind z m vs i v w value o ≡ true
      → All LinksLast (views_after kind z m vs i v w value o)
  linking_after MakeSeat w o met = right.linking
  linking_after SplitSeat w o met =
      All-push LinksLast (set vs i (split_left v value)) (split_right v value) (moved (split_left v value) last)
      (nothing_brought (split_right v value) refl)
  linking_after JoinSeat w o met = joined_last (slice_get vs value)
  linking_after Leave w o met = moved (left v value) (nothing_brought (left v value) refl)
  linking_after Prepare w o met = moved _ (prepared_last w met)
  linking_after Raise w o met = moved _ (raised_last (m w) o)
  linking_after Finalise w o met = moved _ (finalised_last w)
  linking_after Unlock w o met = moved _ (unlocked_last w)
  linking_after SetLink w o met = moved _ (set_last w met)
  linking_after kind w o met = still_last kind w o (refl, (refl, (refl, tt)))
