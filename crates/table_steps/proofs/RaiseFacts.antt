-- What a seat holds of the bundles of its locked nodes is what the words say, so it knows which entries its raise
-- retires.
use Rattle.std.proofs.Common.{◌≡◌, ℕ, zero, suc, ◌+◌, ◌<◌, ◌≤◌, List, [], ◌∷◌, ◌++◌, cond, false, eqb, arith, refl, ap, ◌∙◌, sym, subst, inl, inr, Option, Some, None}
use Rattle.std.specs.Prelude.{IfSome}
use Rattle.std.specs.List.{slice_get}
use Rattle.std.proofs.lemmas.Bool.{eq-eqb}
use Rattle.std.proofs.lemmas.Bool.Decides.{nat_tests}
use Rattle.index_words.specs.declared.layout.Layout.{Layout}
use Rattle.index_words.specs.declared.side.Side.{Side}
use Rattle.index_words.specs.declared.side.Side.TheVariants.{Left, Right}
use Rattle.index_words.specs.declared.view.View.{View}
use Rattle.index_words.specs.declared.view.update.HeldNode.{HeldNode}
use Rattle.index_words.specs.declared.view.update.LoadedHead.{LoadedHead}
use Rattle.index_words.specs.declared.word.Field.TheVariants.{Head}
use Rattle.index_words.specs.declared.word.Part.TheVariants.{Stamp as Number, Next}
use Rattle.index_words.specs.declared.word.Word.TheVariants.{Stamp, Node, Entry}
use Rattle.index_words.specs.Words.{Memory, memory}
use Rattle.key_map.specs.Lists.{count, IsItem}
use Rattle.core_grace.specs.Holds.{held_slots}
use Rattle.core_links.specs.Bundle.{IsChain}
use Rattle.core_links.proofs.Chains.{chain-same}
use Rattle.core_events.specs.SpelledNow.{entries_from}
use Rattle.core_events.specs.TreeMoves.{new_entries, node_entries}
use Rattle.core_events.specs.UpdateMoves.{listed_entry}
use Rattle.core_events.specs.UpdateNeeds.{side_of}
use Rattle.core_invariant.specs.BundleRule.{IsLive}
use Rattle.core_invariant.specs.FilledRule.{FilledRight}
use Rattle.core_invariant.specs.Locks.{HeadRight, IsNodeAt, IsNextAt}
use Rattle.core_invariant.specs.Meanings.{Meaning}
use Rattle.core_invariant.specs.Rule.{InRule}
use Rattle.core_invariant.specs.SeatRule.{SeatRight}
use Rattle.core_invariant.proofs.Frames.{one_counted}
use Rattle.core_invariant.proofs.Locked.{held_holds}
use Rattle.core_invariant.proofs.OneView.{seat_at}
use Rattle.core_invariant.proofs.Owned.{entry_there, held_live}
use Rattle.core_invariant.proofs.TreeNow.{entries_are}
use Rattle.core_laws.proofs.Remembered.{every_item}
use Rattle.core_updates.specs.Held.{HoldsHead}
use Rattle.core_laws.specs.ViewNeeds.{HasFilled}
use Rattle.table_rule.proofs.Lists.{item_at}
use Rattle.table_steps.specs.Raises.{new_slot, new_left, new_right, slot_given, new_entries_of, HasNew, HasNewNode, HoldsNext, HoldsChain, HoldsBundle, HoldsBundles, HoldsEntries}

held_counted : (hs : List HeldNode) (i : ℕ) (h : HeldNode) → IsItem hs i h → 0 < count h.node (held_slots hs)
held_counted [] i h at = absurd (omega (arith, at.within))
held_counted (x ∷ hs) zero h at = subst (λ (y : HeldNode). 0 < count y.node (held_slots (x ∷ hs))) (at.is x) (one_counted x.node (count x.node (held_slots hs)))
held_counted (x ∷ hs) (suc i) h at = omega (arith, held_counted hs i h (record { within = omega (arith, at.within); is = λ d. at.is d }))

module _ (z : Layout) (words : List ℕ) (vs : List View) (right : InRule z words vs) (i : ℕ) (v : View) (is : slice_get vs i ≡ Some v) where
  abbrev m : Memory
  m = memory z words

  abbrev g : Meaning
  g = right.meaning

  at : IsItem vs i v
  at = item_at vs i v is

  seat : SeatRight z m g v
  seat = seat_at z m vs g i v at right.rule

  pub next_known : (node e next : ℕ) → HoldsNext v node e next → m (Entry Next e) ≡ next
  next_known node e next h =
      let known : IsNextAt m g.bundles v.held.nodes h.item = every_item (IsNextAt m g.bundles v.held.nodes) v.held.nexts h.place h.item h.at seat.loaded.nexts in
      subst (λ d. m (Entry Next d) ≡ next) h.entry_is (known.is ∙ h.next_is)

  pub chain_known : (node head : ℕ) (es : List ℕ) → HoldsChain v node head es → IsChain (λ e. m (Entry Next e)) head es
  chain_known node head [] none = none
  chain_known node head (e ∷ es) held =
      (held.0, held.1, subst (λ n. IsChain (λ d. m (Entry Next d)) n es) (sym (next_known node e held.2.0 held.2.1)) (chain_known node held.2.0 es held.2.2))

  loaded_by : (node entry : ℕ) (side : Side) (n : HeldNode) (l : LoadedHead) → IsNodeAt m n → (side_of side n).head ≡ Some l → n.node ≡ node → l.entry ≡ entry → m (Node (Head side) node) ≡ entry
  loaded_by node entry Left n l known is same entry_is =
      subst (λ k. m (Node (Head Left) k) ≡ entry) same
      ((subst (λ (o : Option LoadedHead). IfSome o (HeadRight (m (Node (Head Left) n.node)) (λ e. m (Entry Number e)))) is known.left.head).0 ∙ entry_is)
  loaded_by node entry Right n l known is same entry_is =
      subst (λ k. m (Node (Head Right) k) ≡ entry) same
      ((subst (λ (o : Option LoadedHead). IfSome o (HeadRight (m (Node (Head Right) n.node)) (λ e. m (Entry Number e)))) is known.right.head).0 ∙ entry_is)

  pub head_known : (node : ℕ) (side : Side) (entry : ℕ) → HoldsHead v node side entry → m (Node (Head side) node) ≡ entry
  head_known node side entry h = loaded_by node entry side h.held h.loaded (every_item (IsNodeAt m) v.held.nodes h.place h.held h.at seat.loaded.nodes) h.head h.node_is h.entry_is

  pub held_live_node : (node : ℕ) (side : Side) (entry : ℕ) → HoldsHead v node side entry → IsLive z vs node
  held_live_node node side entry h =
      let locked : 0 < count node (held_slots v.held.nodes) = subst (λ k. 0 < count k (held_slots v.held.nodes)) h.node_is (held_counted v.held.nodes h.place h.held h.at) in
      held_live z vs g right.rule.slots i node v at (held_holds v node locked) (seat.locks node locked).0

  -- a locked node is one of the table, and so is an entry whose next was found
  pub head_there : (node : ℕ) (side : Side) (entry : ℕ) → HoldsHead v node side entry → node ≤ z.nodes
  head_there node side entry h =
      let locked : 0 < count node (held_slots v.held.nodes) = subst (λ k. 0 < count k (held_slots v.held.nodes)) h.node_is (held_counted v.held.nodes h.place h.held h.at) in
      (seat.locks node locked).0

  pub next_there : (node e next : ℕ) → HoldsNext v node e next → e ≤ z.entries
  next_there node e next h =
      let known : IsNextAt m g.bundles v.held.nodes h.item = every_item (IsNextAt m g.bundles v.held.nodes) v.held.nexts h.place h.item h.at seat.loaded.nexts in
      let live = held_live z vs g right.rule.slots i h.item.node v at (held_holds v h.item.node known.locked) (seat.locks h.item.node known.locked).0 in
      subst (λ d. d ≤ z.entries) h.entry_is (entry_there z vs g right.rule.slots h.item.node h.item.entry live known.here)

  pub chain_low : (node head : ℕ) (es : List ℕ) → HoldsChain v node head es → head ≤ z.entries
  chain_low node head [] none = omega (arith, none)
  chain_low node head (e ∷ es) held = omega (arith, held.0, next_there node e held.2.0 held.2.1)

  bundle_known : (node : ℕ) (side : Side) (es : List ℕ) → HoldsBundle v node side es
      → entries_from (m Stamp + 1) z.entries (λ e. m (Entry Next e)) (m (Node (Head side) node)) ≡ es
  bundle_known node side es h =
      let live = held_live_node node side h.head h.held in
      entries_are z m vs g right.rule node side live
      ∙ chain-same (λ e. m (Entry Next e)) (m (Node (Head side) node)) (g.bundles.bundle side node) es (right.rule.bundles node live side).chain
      (subst (λ k. IsChain (λ e. m (Entry Next e)) k es) (sym (head_known node side h.head h.held)) (chain_known node h.head es h.chain))

  both_are : (a b c d r s t : List ℕ) → a ≡ c → b ≡ d → t ≡ c ++ d → r ≡ s → (a ++ b) ++ r ≡ t ++ s
  both_are a b c d r s t one two three four = ap (λ (x : List ℕ). (x ++ b) ++ r) one ∙ ap (λ (x : List ℕ). (c ++ x) ++ r) two ∙ ap (λ (x : List ℕ). x ++ r) (sym three) ∙ ap (λ (x : List ℕ). t ++ x) four

  -- the entries of the bundles of nodes that the seat holds are those that it has found
  pub entries_known : (ks es : List ℕ) → HoldsEntries v ks es → node_entries z m ks ≡ es
  entries_known [] es none = sym none
  entries_known (k ∷ ks) es held =
      let here : HoldsBundles v k held.0 = held.2 in
      both_are (entries_from (m Stamp + 1) z.entries (λ e. m (Entry Next e)) (m (Node (Head Left) k)))
      (entries_from (m Stamp + 1) z.entries (λ e. m (Entry Next e)) (m (Node (Head Right) k))) here.lefts here.rights (node_entries z m ks) held.1 held.0
      (bundle_known k Left here.lefts here.left) (bundle_known k Right here.rights here.right) here.are (entries_known ks held.1 held.3)
      ∙ sym held.4

  -- a word of a free node holds what was put in
  filled_head : (side : Side) (k x : ℕ) → 0 < count k v.free.nodes → HasFilled v (Node (Head side) k) x → m (Node (Head side) k) ≡ x
  filled_head side k x free put = every_item (FilledRight m v.free v.update) v.reading.filled put.place (record { word = Node (Head side) k; value = x }) put.is seat.filled (refl, free)

  not_zero : (k : ℕ) → 0 < k → eqb k 0 ≡ false
  not_zero k some = grind (arith, nat_tests)

  -- the entries of the new node are those that were given
  pub new_known : (new : List ℕ) → HasNew v new → new_entries m (slot_given (new_slot new)) ≡ new_entries_of new
  new_known new (inl none) =
      ap (λ b. new_entries m (cond b None (Some (new_slot new)))) (eq-eqb (new_slot new) 0 none.0)
      ∙ sym (ap (λ a. listed_entry a ++ listed_entry (new_right new)) none.1.0 ∙ ap (λ a. listed_entry 0 ++ listed_entry a) none.1.1)
  new_known new (inr some) =
      let k : ℕ = new_slot new in
      let node : HasNewNode v k (new_left new) (new_right new) = some.1 in
      ap (λ b. new_entries m (cond b None (Some k))) (not_zero k some.0)
      ∙ ap (λ a. listed_entry a ++ listed_entry (m (Node (Head Right) k))) (filled_head Left k (new_left new) node.free node.left_head)
      ∙ ap (λ a. listed_entry (new_left new) ++ listed_entry a) (filled_head Right k (new_right new) node.free node.right_head)
