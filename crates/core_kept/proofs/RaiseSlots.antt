-- A raise keeps the rule on slots.
use Rattle.std.proofs.Common.{◌≡◌, ℕ, ◌+◌, ◌<◌, ◌≤◌, ◌⊎◌, cond, List, ◌∷◌, ◌++◌, Bool, true, false, eqb, leb, set, arith, refl, ap, ◌∙◌, sym, subst, inl, inr, Option, Some, None}
use Rattle.std.specs.Prelude.{IfSome}
use Rattle.std.specs.List.{All}
use Rattle.std.proofs.lemmas.Bool.{cases_lt, lt-leb}
use Rattle.index_words.specs.declared.layout.Layout.{Layout}
use Rattle.index_words.specs.declared.side.Side.{Side}
use Rattle.key_map.specs.declared.update.Update.{Update}
use Rattle.index_words.specs.declared.view.View.{View}
use Rattle.index_words.specs.declared.word.Field.TheVariants.{Head}
use Rattle.index_words.specs.declared.word.Part.TheVariants.{Stamp as Number}
use Rattle.index_words.specs.declared.word.Word.TheVariants.{Stamp, Node, Entry}
use Rattle.index_words.specs.Words.{Memory}
use Rattle.key_map.specs.Lists.{count, has, IsItem}
use Rattle.index_words.proofs.Seats.{Beside, one_term, at_item, all_moved, pairs_moved}
use Rattle.key_map.proofs.Counting.{count-append, has-count}
use Rattle.core_grace.specs.Holds.{Bundles, entries_of, linked_in, listed, work_nodes, held_slots, held_nodes, tree_slots, HoldsNode, HoldsEntry, read_at, ReadsAt, StandsIn}
use Rattle.core_grace.specs.Slots.{nodes_of, entries_in, own, SlotsRight, HoldsNone, GraceRight, KeepsEntries, SlotRule}
use Rattle.core_links.specs.Bundle.{no_number}
use Rattle.core_trees.specs.NamedTree.{NamedTree}
use Rattle.core_events.specs.declared.tree_move.TreeMove.{TreeMove}
use Rattle.core_invariant.specs.Meanings.{Meaning, linked_by}
use Rattle.core_events.specs.Versions.{slots_of}
use Rattle.core_invariant.specs.BundleRule.{IsLive, IsPending}
use Rattle.core_events.specs.UpdateMoves.{raised_view}
use Rattle.core_events.specs.Numbered.{shown}
use Rattle.core_invariant.specs.Rule.{Rule}
use Rattle.core_invariant.proofs.Frames.{every_at}
use Rattle.core_invariant.proofs.Fronts.{read-frame}
use Rattle.core_invariant.proofs.OneView.{seat_at}
use Rattle.core_invariant.proofs.Owned.{linked-at, own_waiting, free_waits, once_node, once_entry, reachable_live}
use Rattle.core_kept.proofs.RaiseCounts.{linked_same, nodes_balance, entries_balance, without_balance}
use Rattle.core_kept.proofs.RaiseMoves.{slots_brought, grace_from}
use Rattle.core_kept.proofs.RaiseNew.{linked_old, held_old, live_old, waiting_old, taken_old, old_bundle, old_entries, new_linked, new_entry, entry_apart, works_holds}
use Rattle.core_kept.proofs.TreeMoved.{meaning_after, MovesTree}

listed_once : (k : ℕ) (o : Option ℕ) → count k (listed o) ≤ 1
listed_once k None = omega arith
listed_once k (Some x) = at_most (eqb x k)
  where
    at_most : (b : Bool) → cond b 1 0 + 0 ≤ 1
    at_most true = omega arith
    at_most false = omega arith

module _ (z : Layout) (m : Memory) (vs : List View) (g : Meaning) (rule : Rule z m vs g) (i : ℕ) (v : View) (u : Update) (known : List Update)
    (move : TreeMove) (tree : NamedTree) (at : IsItem vs i v) (unraised : v.update.raised ≡ None) (moves : MovesTree m g v u move tree) where
  abbrev s : ℕ
  s = m Stamp

  abbrev head : Side → ℕ → ℕ
  head w k = m (Node (Head w) k)

  abbrev g' : Meaning
  g' = meaning_after m g v u move tree

  abbrev b : Bundles
  b = g.bundles

  abbrev b' : Bundles
  b' = g'.bundles

  abbrev v' : View
  v' = raised_view known v s u move

  abbrev ws : List View
  ws = set vs i v'

  abbrev IsNew : ℕ → Type 0
  IsNew k = 0 < count k (listed move.added)

  abbrev IsOld : ℕ → Type 0
  IsOld k = count k (listed move.added) ≡ 0

  low : s < no_number
  low = omega (arith, rule.history.calls, rule.history.few)

  pending_none : (d : ℕ) → 0 < count d v.update.pending → b.number d ≡ no_number
  pending_none d here =
      (every_at (IsPending z head (λ e. m (Entry Number e)) b.number v) d v.update.pending (seat_at z m vs g i v at rule).pending here).1 ∙ ap shown unraised

  -- at each number up to the stamp an entry that is not new is read as before
  read_by : (t d : ℕ) (c : Bool) → has d (v.update.pending ++ move.entries) ≡ c → t ≤ s → count d move.entries ≡ 0
      → leb (cond c (s + 1) (b.number d)) t ≡ leb (b.number d) t
  read_by t d false is past old = refl
  read_by t d true is past old =
      let here : 0 < count d v.update.pending
      = omega (arith, has-count d (v.update.pending ++ move.entries) is, count-append d v.update.pending move.entries, old) in
      lt-leb (s + 1) t (omega (arith, past)) ∙ sym (lt-leb (b.number d) t (omega (arith, past, low, pending_none d here)))

  same_read : (t k : ℕ) (w : Side) → t ≤ s → IsLive z vs k → read_at b'.number t (b'.bundle w k) ≡ read_at b.number t (b.bundle w k)
  same_read t k w past live =
      ap (read_at b'.number t) (old_bundle z m vs g rule i v u move tree at moves k (live_old z m vs g rule i v u move tree at moves k live) w)
      ∙ read-frame b.number b'.number t (b.bundle w k)
      (λ d here. read_by t d (has d (v.update.pending ++ move.entries)) refl past (entry_apart z m vs g rule i v u move tree at moves k d w live here))

  read_live : (j k : ℕ) (y : View) → IsItem vs j y → (k ≡ 0) ⊎ (0 < count k (tree_slots y.reading.tree)) → IsLive z vs k
  read_live j k y of (inl root) = reachable_live z vs g rule.slots j k y of (omega (arith, root), inl root)
  read_live j k y of (inr some) =
      reachable_live z vs g rule.slots j k y of
      ((seat_at z m vs g j y of rule).version.there k some, inr (omega (arith, count-append k (tree_slots y.reading.tree) (work_nodes y), some)))

  reads_by : (j x : ℕ) (y : View) (o : Option ℕ) → IsItem vs j y → IfSome o (λ t. t ≤ s) → ReadsAt b' o (tree_slots y.reading.tree) x
      → ReadsAt b o (tree_slots y.reading.tree) x
  reads_by j x y None of past reads = reads
  reads_by j x y (Some t) of past reads = record {
    node = reads.node;
    side = reads.side;
    of = reads.of;
    read = subst (λ es. 0 < count x es) (same_read t reads.node reads.side past (read_live j reads.node y of reads.of)) reads.read;
  }

  reads_old : (j x : ℕ) (y : View) → IsItem vs j y → ReadsAt b' y.reading.section (tree_slots y.reading.tree) x
      → ReadsAt b y.reading.section (tree_slots y.reading.tree) x
  reads_old j x y of reads = reads_by j x y y.reading.section of (seat_at z m vs g j y of rule).version.past reads

  stands_old : (j x : ℕ) (y : View) → IsItem vs j y → (k : ℕ) (w : Side) → 0 < count k (work_nodes y) → 0 < count x (b'.bundle w k)
      → StandsIn b (work_nodes y) x
  stands_old j x y of k w works here = record {
    node = k;
    side = w;
    of = works;
    here =
        subst (λ es. 0 < count x es) (old_bundle z m vs g rule i v u move tree at moves k
        (held_old z m vs g rule i v u move tree at moves j k y of (works_holds z m vs g rule i v u move tree at moves k y works)) w) here;
  }

  -- the other views hold no more
  others_hold : (y : View) → Beside vs i y → (x : ℕ) → HoldsEntry b' y x → HoldsEntry b y x
  others_hold y beside x (inl reads) = inl (reads_old beside.place x y beside.at reads)
  others_hold y beside x (inr stands) = inr (stands_old beside.place x y beside.at stands.node stands.side stands.of stands.here)

  still_held : (k : ℕ) → count k (tree_slots v.reading.tree) + count k (held_slots v.held.nodes) ≤ count k (held_nodes v)
  still_held k = omega (arith, count-append k (tree_slots v.reading.tree) (work_nodes v), count-append k (held_slots v.held.nodes) (listed v.update.added))

  own_nodes : (k : ℕ) → HoldsNode v' k → HoldsNode v k ⊎ IsNew k
  own_nodes k holds =
      elim (cases_lt 0 (count k (listed move.added))) as (λ _. HoldsNode v k ⊎ IsNew k) [
        | inl some ↦ inr some
        | inr none ↦
            let before : 0 < count k (held_nodes v)
            = omega (
              arith,
              holds,
              none,
              count-append k (tree_slots v.reading.tree) (work_nodes v'),
              count-append k (held_slots v.held.nodes) (listed move.added),
              still_held k,
            ) in
            inl before
      ]

  own_stands : (x k : ℕ) (w : Side) → 0 < count k (work_nodes v') → 0 < count x (b'.bundle w k) → StandsIn b (work_nodes v) x ⊎ (0 < count x move.entries)
  own_stands x k w works here =
      elim (cases_lt 0 (count k (listed move.added))) as (λ _. StandsIn b (work_nodes v) x ⊎ (0 < count x move.entries)) [
        | inl some ↦ inr (new_entry z m vs g rule i v u move tree at moves k x w some here)
        | inr none ↦
            let before : 0 < count k (work_nodes v)
            = omega (
              arith,
              works,
              none,
              count-append k (held_slots v.held.nodes) (listed move.added),
              count-append k (held_slots v.held.nodes) (listed v.update.added),
            ) in
            inl (stands_old i x v at k w before here)
      ]

  own_entries : (x : ℕ) → HoldsEntry b' v' x → HoldsEntry b v x ⊎ (0 < count x move.entries)
  own_entries x (inl reads) = inl (inl (reads_old i x v at reads))
  own_entries x (inr stands) =
      elim (own_stands x stands.node stands.side stands.of stands.here) as (λ _. HoldsEntry b v x ⊎ (0 < count x move.entries)) [
        | inl before ↦ inl (inr before)
        | inr some ↦ inr some
      ]

  nodes_after : SlotsRight nodes_of z.nodes (linked_by g').nodes HoldsNode ws
  nodes_after =
      slots_brought nodes_of z.nodes (linked_by g).nodes (linked_by g').nodes HoldsNode HoldsNode vs i v v' (listed move.added) at rule.slots.nodes (record {
        free = λ k.
            without_balance k (listed move.added) v.free.nodes (listed_once k move.added)
            (omega (arith, once_node z vs g rule.slots k, one_term (own nodes_of k) vs i v at)) (λ some. (moves.added k some).0);
        balance = λ k. omega (arith, count-append k v.retired.nodes move.taken, nodes_balance move.taken (listed move.added) g.tree tree moves.slots k);
        holds = own_nodes;
        others_hold = λ y beside k holds. holds;
      })

  root_old : IsOld 0
  root_old = linked_old z m vs g rule i v u move tree at moves 0 (omega arith)

  linked_now : (e : ℕ) → linked_in b' e (0 ∷ slots_of tree) + count e move.taken_entries ≡ linked_in b e (0 ∷ slots_of g.tree) + count e move.entries
  linked_now e =
      omega (
        arith,
        entries_balance move.taken (listed move.added) g.tree tree moves.slots b' e,
        ap (count e) (old_entries z m vs g rule i v u move tree at moves 0 root_old),
        linked_same b b' e (slots_of g.tree) (λ k some.
            old_entries z m vs g rule i v u move tree at moves k (linked_old z m vs g rule i v u move tree at moves k (omega (arith, some)))),
        linked_same b b' e move.taken (λ k some. old_entries z m vs g rule i v u move tree at moves k
            (taken_old z m vs g rule i v u move tree at moves k some)),
        new_linked z m vs g rule i v u move tree at moves e,
        moves.taken_entries e,
      )

  entries_after : SlotsRight entries_in z.entries (linked_by g').entries (HoldsEntry b') ws
  entries_after =
      slots_brought entries_in z.entries (linked_by g).entries (linked_by g').entries (HoldsEntry b) (HoldsEntry b') vs i v v' move.entries
      at rule.slots.entries (record {
        free = λ e.
            without_balance e move.entries v.free.entries (moves.once e) (omega (arith, once_entry z vs g rule.slots e, one_term (own entries_in e) vs i v at))
            (λ some. (moves.fresh e some).0);
        balance = λ e. omega (arith, count-append e v.retired.entries move.taken_entries, linked_now e);
        holds = own_entries;
        others_hold = others_hold;
      })

  -- what is brought in was free, so no batch has it
  entry_waits : (j e : ℕ) (y : View) → IsItem vs j y → 0 < count e move.entries → own_waiting entries_in e y ≡ 0
  entry_waits j e y of some = free_waits entries_in vs i j e v y at of (omega (arith, once_entry z vs g rule.slots e)) (moves.fresh e some).0

  none_own : (j : ℕ) (t : View) → IsItem vs j t → HoldsNone HoldsNode (HoldsEntry b) t.batch v → HoldsNone HoldsNode (HoldsEntry b') t.batch v'
  none_own j t of none = record {
    nodes = λ k some holds. elim (own_nodes k holds) as (λ _. ⊥) [
      | inl before ↦ none.nodes k some before
      | inr new ↦ omega (arith, new, waiting_old z m vs g rule i v u move tree at moves j k t of (omega (arith, some)))
    ];
    entries = λ e some holds. elim (own_entries e holds) as (λ _. ⊥) [
      | inl before ↦ none.entries e some before
      | inr new ↦ omega (arith, some, entry_waits j e t of new)
    ];
  }

  none_other : (t y : View) → Beside vs i y → HoldsNone HoldsNode (HoldsEntry b) t.batch y → HoldsNone HoldsNode (HoldsEntry b') t.batch y
  none_other t y beside none = record { nodes = none.nodes; entries = λ e some holds. none.entries e some (others_hold y beside e holds) }

  grace_own : (j : ℕ) (t : View) → IsItem vs j t → GraceRight HoldsNode (HoldsEntry b) t v → GraceRight HoldsNode (HoldsEntry b') t v'
  grace_own j t of right = grace_from HoldsNode (HoldsEntry b) (HoldsEntry b') t v v' refl refl (none_own j t of) right

  grace_other : (t y : View) → Beside vs i y → GraceRight HoldsNode (HoldsEntry b) t y → GraceRight HoldsNode (HoldsEntry b') t y
  grace_other t y beside right = grace_from HoldsNode (HoldsEntry b) (HoldsEntry b') t y y refl refl (none_other t y beside) right

  same_batch : (y : View) → GraceRight HoldsNode (HoldsEntry b') v y → GraceRight HoldsNode (HoldsEntry b') v' y
  same_batch y right = record { passed = right.passed; found = right.found }

  grace_after : All (λ t. All (GraceRight HoldsNode (HoldsEntry b') t) ws) ws
  grace_after =
      pairs_moved (GraceRight HoldsNode (HoldsEntry b)) (GraceRight HoldsNode (HoldsEntry b')) vs i v v' at rule.slots.grace
      (same_batch v' (grace_own i v at (at_item (GraceRight HoldsNode (HoldsEntry b) v) vs i v at
      (at_item (λ t. All (GraceRight HoldsNode (HoldsEntry b) t) vs) vs i v at rule.slots.grace))))
      (λ y beside right. same_batch y (grace_other v y beside right))
      (λ t beside right. grace_own beside.place t beside.at right)
      (λ t y beside other right. grace_other t y other right)

  abbrev Keeps : View → Type 0
  Keeps y = KeepsEntries (entries_of b) y.retired × KeepsEntries (entries_of b) y.batch

  abbrev Keeps' : View → Type 0
  Keeps' y = KeepsEntries (entries_of b') y.retired × KeepsEntries (entries_of b') y.batch

  waiting_entry : (j k e : ℕ) (y : View) → IsItem vs j y → 0 < own_waiting nodes_of k y → 0 < count e (entries_of b' k) → 0 < count e (entries_of b k)
  waiting_entry j k e y of waits here =
      subst (λ es. 0 < count e es) (old_entries z m vs g rule i v u move tree at moves k
      (waiting_old z m vs g rule i v u move tree at moves j k y of waits)) here

  keeps_other : (j : ℕ) (y : View) → IsItem vs j y → Keeps y → Keeps' y
  keeps_other j y of keeps = (
    (λ k e some here. keeps.0 k e some (waiting_entry j k e y of (omega (arith, some)) here)),
    (λ k e some here. keeps.1 k e some (waiting_entry j k e y of (omega (arith, some)) here)),
  )

  keeps_taken : (k e : ℕ) → 0 < count k move.taken → 0 < count e (entries_of b' k) → 0 < count e move.taken_entries
  keeps_taken k e some here =
      let before : 0 < count e (entries_of b k)
      = subst (λ es. 0 < count e es) (old_entries z m vs g rule i v u move tree at moves k (taken_old z m vs g rule i v u move tree at moves k some)) here in
      omega (arith, moves.taken_entries e, linked-at b k e move.taken some, before)

  keeps_retired : KeepsEntries (entries_of b) v.retired → KeepsEntries (entries_of b') v'.retired
  keeps_retired keeps k e some here =
      elim (cases_lt 0 (count k move.taken)) as (λ _. 0 < count e (v.retired.entries ++ move.taken_entries)) [
        | inl taken ↦ omega (arith, count-append e v.retired.entries move.taken_entries, keeps_taken k e taken here)
        | inr none ↦
            let before : 0 < count k v.retired.nodes = omega (arith, some, none, count-append k v.retired.nodes move.taken) in
            omega (arith, count-append e v.retired.entries move.taken_entries, keeps k e before (waiting_entry i k e v at (omega (arith, before)) here))
      ]

  retired_after : All Keeps' ws
  retired_after =
      let own : Keeps v = at_item Keeps vs i v at rule.slots.retired in
      all_moved Keeps Keeps' vs i v v' at rule.slots.retired (keeps_retired own.0, (keeps_other i v at own).1)
      (λ y beside of. keeps_other beside.place y beside.at of)

  slots_right : SlotRule z (linked_by g') HoldsNode (HoldsEntry b') ws
  slots_right = record { nodes = nodes_after; entries = entries_after; grace = grace_after; retired = retired_after }

-- a raise keeps the rule on slots
pub slots_after : (z : Layout) (m : Memory) (vs : List View) (g : Meaning) (rule : Rule z m vs g) (i : ℕ) (v : View) (u : Update) (known : List Update)
    (move : TreeMove) (tree : NamedTree)
    → IsItem vs i v → v.update.raised ≡ None → MovesTree m g v u move tree
    → SlotRule z (linked_by (meaning_after m g v u move tree)) HoldsNode (HoldsEntry (meaning_after m g v u move tree).bundles)
    (set vs i (raised_view known v (m Stamp) u move))
slots_after z m vs g rule i v u known move tree at unraised moves = slots_right z m vs g rule i v u known move tree at unraised moves
