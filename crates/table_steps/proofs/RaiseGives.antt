-- What a raise leaves in the view of its seat.
use Rattle.std.proofs.Common.{◌≡◌, ℕ, ◌+◌, List, ◌++◌, length, drop, arith, refl, ap, ◌∙◌, sym, subst, Option}
use Rattle.std.proofs.lemmas.List.{take-append-drop}
use Rattle.index_words.specs.declared.layout.Layout.{Layout}
use Rattle.index_words.specs.declared.view.View.{View}
use Rattle.index_words.specs.declared.word.Word.TheVariants.{Stamp}
use Rattle.index_words.specs.Words.{Memory, memory}
use Rattle.key_map.specs.declared.update.Update.{Update}
use Rattle.key_map.specs.History.{after}
use Rattle.core_events.specs.declared.tree_move.TreeMove.{TreeMove}
use Rattle.core_events.specs.LoadMoves.{longest}
use Rattle.core_events.specs.SpelledNow.{tree_now}
use Rattle.core_events.specs.TreeMoves.{tree_move}
use Rattle.core_events.specs.UpdateMoves.{raised_view}
use Rattle.core_laws.specs.Found.{FindsStamp}
use Rattle.core_laws.proofs.Found.{stamp_law}
use Rattle.core_updates.specs.Held.{MayRaise, raise_of}
use Rattle.core_updates.specs.Ready.{MayStep}
use Rattle.table_rule.specs.Running.{Happened, table}
use Rattle.table_rule.proofs.Happens.{happened_view, happened_word}
use Rattle.table_rule.proofs.Lists.{item_at}
use Rattle.table_steps.specs.Raises.{new_slot, slot_given, new_entries_of, nodes_out, HasNew, HoldsEntries, HasRaised, MayRaiseBy}
use Rattle.table_steps.proofs.RaiseFacts.{entries_known, new_known}

module _ (z : Layout) (seat : ℕ) (u : Update) (v w : View) (laid : v.layout ≡ z) (n : ℕ) (h : Happened z (raise_of z seat u) v n w) (new out entries : List ℕ)
    (may : MayRaiseBy z v u new out) (ready : HasNew v new) (holds : HoldsEntries v (nodes_out out) entries) where
  abbrev m : Memory
  m = memory z h.words

  found : FindsStamp (table z h.words h.views) v
  found = stamp_law (table z h.words h.views) seat v h.rule (item_at h.views seat v h.seat)

  stamp_is : m Stamp ≡ n
  stamp_is = happened_word z (raise_of z seat u) v w n Stamp refl refl tt h

  long : length (longest h.views) ≡ n
  long = found.whole ∙ stamp_is

  steps : MayStep z m h.views v u (slot_given (new_slot new)) (nodes_out out) may.0 may.1
  steps = may.2.moves h.words h.views seat h.rule h.seat

  abbrev move : TreeMove
  move = record { added = slot_given (new_slot new); entries = new_entries_of new; taken = nodes_out out; taken_entries = entries; plain = (tree_move z m h.views v u).plain }

  parts_are : (t : TreeMove) (added : Option ℕ) (es taken rs : List ℕ) → t.added ≡ added → t.entries ≡ es → t.taken ≡ taken → t.taken_entries ≡ rs
      → t ≡ record { added = added; entries = es; taken = taken; taken_entries = rs; plain = t.plain }
  parts_are t added es taken rs one two three four =
      let moved : Option ℕ → List ℕ → List ℕ → List ℕ → TreeMove = λ a b c d. record { added = a; entries = b; taken = c; taken_entries = d; plain = t.plain } in
      ap (λ (a : Option ℕ). moved a t.entries t.taken t.taken_entries) one ∙ ap (λ (b : List ℕ). moved added b t.taken t.taken_entries) two
      ∙ ap (λ (c : List ℕ). moved added es c t.taken_entries) three ∙ ap (λ (d : List ℕ). moved added es taken d) four

  move_is : tree_move z m h.views v u ≡ move
  move_is =
      parts_are (tree_move z m h.views v u) (slot_given (new_slot new)) (new_entries_of new) (nodes_out out) entries steps.added_is
      (steps.entries_are ∙ new_known z h.words h.views h.rule seat v h.seat new ready) steps.taken_is
      (steps.taken_entries_are ∙ entries_known z h.words h.views h.rule seat v h.seat (nodes_out out) entries holds)

  w_is : w ≡ raised_view (longest h.views) v (length (longest h.views)) u move
  w_is =
      happened_view z (raise_of z seat u) v w n Stamp refl refl tt h
      ∙ ap (λ x. raised_view (longest h.views) v x u (tree_move z m h.views v u)) (sym found.whole)
      ∙ ap (raised_view (longest h.views) v (length (longest h.views)) u) move_is

  pub raise_gives : HasRaised v u new out (n + 1) w
  raise_gives = record {
    others = longest h.views;
    extends = (
      drop (length v.history.seen) (longest h.views),
      sym (take-append-drop (length v.history.seen) (longest h.views)) ∙ ap (λ us. us ++ drop (length v.history.seen) (longest h.views)) (sym found.extends),
    );
    place = omega (arith, long);
    tree = tree_now z m h.views;
    lawful = found.lawful;
    contents_are = found.contents_are ∙ ap (after (longest h.views)) (sym found.whole);
    takes_are = steps.taken_is;
    entries = entries;
    holds = holds;
    plain = (tree_move z m h.views v u).plain;
    leaves = λ sets last told. ((subst (λ (y : Layout). MayRaise y v u (slot_given (new_slot new)) (nodes_out out) sets last) laid told).moves h.words h.views seat h.rule h.seat).leaves;
    view = w_is;
  }
