-- A pass that has walked along a bundle under its lock knows the whole bundle, and so what a cut takes off.
use Rattle.std.proofs.Common.{◌≡◌, ℕ, suc, ◌+◌, ◌<◌, ◌≤◌, ◌⊎◌, List, [], ◌∷◌, ◌++◌, length, arith, refl, ap, sym, subst, inl, inr, Some}
use Rattle.std.specs.List.{slice_get}
use Rattle.std.proofs.lemmas.Bool.{cases_lt}
use Rattle.std.proofs.lemmas.List.{length-append}
use Rattle.index_words.specs.declared.layout.Layout.{Layout}
use Rattle.index_words.specs.declared.side.Side.{Side}
use Rattle.index_words.specs.declared.view.View.{View}
use Rattle.index_words.specs.declared.word.Field.TheVariants.{Head}
use Rattle.index_words.specs.declared.word.Part.TheVariants.{Stamp as Number, Next}
use Rattle.index_words.specs.declared.word.Word.TheVariants.{Stamp, Node, Entry}
use Rattle.index_words.specs.Words.{Memory, memory}
use Rattle.key_map.specs.Lists.{count}
use Rattle.key_map.proofs.Counting.{count-append}
use Rattle.core_links.specs.Bundle.{IsChain, no_number}
use Rattle.core_links.proofs.Chains.{chain-same}
use Rattle.core_events.specs.CutMoves.{cut_off}
use Rattle.core_invariant.specs.BundleRule.{IsLive}
use Rattle.core_invariant.specs.Locks.{IsNextAt}
use Rattle.core_invariant.specs.Meanings.{Meaning}
use Rattle.core_invariant.specs.Rule.{InRule}
use Rattle.core_invariant.specs.SeatRule.{SeatRight}
use Rattle.core_invariant.proofs.AtEntries.{chain_behind}
use Rattle.core_invariant.proofs.Frames.{one_counted}
use Rattle.core_invariant.proofs.OneView.{seat_at}
use Rattle.core_invariant.proofs.Owned.{entry_there, in_entries}
use Rattle.core_invariant.proofs.TreeNow.{bundle_few}
use Rattle.core_invariant.proofs.TreeReads.{entries_from_is}
use Rattle.core_laws.specs.Cuts.{HasWalkedAt, HasWalkedTo, MayCut}
use Rattle.core_laws.proofs.Remembered.{every_item}
use Rattle.core_updates.specs.Held.{HoldsHead}
use Rattle.table_rule.proofs.Lists.{item_at}
use Rattle.table_steps.specs.Cuts.{CanCut}
use Rattle.table_steps.specs.Raises.{HoldsNext, HoldsChain}
use Rattle.table_steps.proofs.RaiseFacts.{chain_known, head_known, held_live_node}

-- an entry whose next was loaded is kept together with it
pub walked_next : (v : View) (k d number n : ℕ) → HasWalkedAt v k d number n → HoldsNext v k d n
walked_next v k d number n by = record {
  place = by.place;
  item = record { node = k; entry = d; stamp = Some number; next = n };
  at = by.is;
  node_is = refl;
  entry_is = refl;
  next_is = refl;
}

module _ (z : Layout) (words : List ℕ) (vs : List View) (right : InRule z words vs) (i : ℕ) (v : View) (is : slice_get vs i ≡ Some v) (k : ℕ) (side : Side) (e : ℕ) (can : CanCut v k side e) where
  abbrev m : Memory
  m = memory z words

  abbrev g : Meaning
  g = right.meaning

  abbrev may : MayCut v k side e
  may = can.may

  abbrev stamp : ℕ → ℕ
  stamp d = m (Entry Number d)

  abbrev next : ℕ → ℕ
  next d = m (Entry Next d)

  -- the entries of the bundle
  abbrev all : List ℕ
  all = may.front ++ e ∷ can.back

  seat : SeatRight z m g v
  seat = seat_at z m vs g i v (item_at vs i v is) right.rule

  unwritten : stamp 0 ≡ 0
  unwritten = refl

  -- an entry with a written number is not 0
  walked_some : (d number n : ℕ) → HasWalkedAt v k d number n → 0 < d
  walked_some d number n by = by_size (cases_lt 0 d)
    where
      found : stamp d ≡ number
      found = (every_item (IsNextAt m g.bundles v.held.nodes) v.held.nexts by.place _ by.is seat.loaded.nexts).found by.written

      by_size : (0 < d) ⊎ (d ≤ 0) → 0 < d
      by_size (inl some) = some
      by_size (inr none) =
          let zero_is : d ≡ 0 = omega (arith, none) in
          absurd (omega (arith, by.written, sym found, ap stamp zero_is, unwritten))

  here_chain : HoldsChain v k e (e ∷ can.back)
  here_chain = (refl, may.some, (may.next, walked_next v k e may.number may.next may.here, can.behind))

  chain_to : (ds : List ℕ) (from : ℕ) → HasWalkedTo v k may.least from ds e → HoldsChain v k from (ds ++ e ∷ can.back)
  chain_to [] from walked = subst (λ n. HoldsChain v k n (e ∷ can.back)) (sym walked) here_chain
  chain_to (d ∷ ds) from walked =
      let past = walked.1 in (
        walked.0,
        walked_some d past.number past.next past.walked,
        (past.next, walked_next v k d past.number past.next past.walked, chain_to ds past.next walked.2),
      )

  holds_head : HoldsHead v k side may.head.entry
  holds_head = record {
    place = may.place;
    held = may.node;
    at = may.locked;
    node_is = may.named;
    loaded = may.head;
    head = may.loaded;
    entry_is = refl;
  }

  live : IsLive z vs k
  live = held_live_node z words vs right i v is k side may.head.entry holds_head

  chain : IsChain next (m (Node (Head side) k)) all
  chain =
      subst (λ h. IsChain next h all) (sym (head_known z words vs right i v is k side may.head.entry holds_head))
      (chain_known z words vs right i v is k may.head.entry all (chain_to may.front may.head.entry may.walked))

  splits : g.bundles.bundle side k ≡ all
  splits = chain-same next (m (Node (Head side) k)) (g.bundles.bundle side k) all (right.rule.bundles k live side).chain chain

  there : (d : ℕ) → 0 < count d all → d ≤ z.entries
  there d some = entry_there z vs g right.rule.slots k d live (in_entries g.bundles k d side (subst (λ xs. 0 < count d xs) (sym splits) some))

  back_there : (d : ℕ) → 0 < count d can.back → d ≤ z.entries
  back_there d some = there d (omega (arith, some, count-append d may.front (e ∷ can.back)))

  pub cut_there : e ≤ z.entries
  cut_there = there e (omega (arith, count-append e may.front (e ∷ can.back), one_counted e (count e can.back)))

  few : length all ≤ m Stamp + 1
  few =
      let bundle = right.rule.bundles k live side in
      subst (λ (xs : List ℕ). length xs ≤ m Stamp + 1) splits
      (bundle_few (m Stamp) (suc no_number) stamp g.bundles.number (g.bundles.bundle side k) bundle.numbers bundle.tail bundle.falls)

  -- what stands after the entry is what the pass has found there
  pub cut_off_known : cut_off z m e ≡ can.back
  cut_off_known =
      entries_from_is z.entries next (m Stamp + 1) (next e) can.back (chain_behind next (m (Node (Head side) k)) e may.front can.back chain) back_there
      (omega (arith, few, length-append may.front (e ∷ can.back)))
