-- Raise: the bundles. Those of live nodes keep their entries, and each bundle of the new node has its head alone.
use Rattle.std.proofs.Common.{◌≡◌, ℕ, ◌+◌, ◌<◌, cond, List, [], ◌∷◌, ◌++◌, Bool, true, false, eqb, set, arith, refl, ap, ◌∙◌, sym, subst, inl, inr, Option, Some, None}
use Rattle.std.specs.List.{All, sum_by}
use Rattle.std.proofs.lemmas.Bool.{cases_lt, eqb-true}
use Rattle.std.proofs.lemmas.Bool.Decides.{nat_tests, eqb_tells}
use Rattle.std.proofs.lemmas.List.{get_or_default}
use Rattle.index_words.specs.declared.layout.Layout.{Layout}
use Rattle.index_words.specs.declared.side.Side.{Side}
use Rattle.index_words.specs.declared.side.Side.TheVariants.{Left, Right}
use Rattle.key_map.specs.declared.update.Update.{Update}
use Rattle.index_words.specs.declared.view.View.{View}
use Rattle.index_words.specs.declared.word.Field.TheVariants.{Head}
use Rattle.index_words.specs.declared.word.Part.TheVariants.{Stamp as Number, Next}
use Rattle.index_words.specs.declared.word.Word.TheVariants.{Stamp, Node, Entry}
use Rattle.index_words.specs.Words.{Memory, written}
use Rattle.key_map.specs.Lists.{count, has, IsItem}
use Rattle.index_words.proofs.Seats.{sum_moved, one_term, at_item, all_moved}
use Rattle.key_map.proofs.Counting.{count-has, count-append, has-count}
use Rattle.core_grace.specs.Holds.{held_slots, listed, work_nodes}
use Rattle.core_trees.specs.NamedTree.{NamedTree}
use Rattle.core_events.specs.declared.tree_move.TreeMove.{TreeMove}
use Rattle.core_invariant.specs.Meanings.{Meaning}
use Rattle.core_invariant.specs.BundleRule.{IsLive, IsPendingAt, IsBundle, BundleRight, IsNumbered, pending_count}
use Rattle.core_invariant.specs.SeatRule.{SeatRight}
use Rattle.core_events.specs.TreeMoves.{new_entries}
use Rattle.core_events.specs.UpdateMoves.{raised_view, listed_entry}
use Rattle.core_invariant.specs.MeaningMoves.{raised_numbers, with_added}
use Rattle.core_invariant.specs.Rule.{Rule}
use Rattle.core_kept.proofs.TreeMoved.{MovesTree, meaning_after}
use Rattle.core_invariant.proofs.Frames.{every_map, every_listed, one_counted, live_moved}
use Rattle.core_invariant.proofs.OneView.{seat_at}
use Rattle.core_invariant.proofs.Needed.{CanRaise}
use Rattle.core_kept.proofs.RaiseNumbers.{low, written_kept, numbered_now, old_falls}
use Rattle.core_kept.proofs.RaiseNew.{entry_apart, none_pending}
use Rattle.core_kept.proofs.RaiseCounts.{without_kept}

has_not : (k : ℕ) (xs : List ℕ) → has k xs ≡ false → count k xs ≡ 0
has_not k xs is =
    elim (cases_lt 0 (count k xs)) as (λ _. count k xs ≡ 0) [
      | inl some ↦ absurd (clash (has k xs) is (count-has k xs some))
      | inr none ↦ omega (arith, none)
    ]
  where
    clash : (b : Bool) → b ≡ false → b ≡ true → ⊥
    clash true f t = cc
    clash false f t = cc

-- the one number that is listed
only_listed : (o : Option ℕ) (k : ℕ) → 0 < count k (listed o) → o ≡ Some k
only_listed None k here = absurd (omega (arith, here))
only_listed (Some j) k here =
    elim (eqb_tells j k) as (λ _. Some j ≡ Some k) [
      | inl same ↦ ap Some same.1
      | inr apart ↦ absurd (not_here apart.1 here)
    ]
  where
    not_here : (j ≡ k → ⊥) → 0 < count k (j ∷ []) → ⊥
    not_here apart here = grind (arith, nat_tests)

entry_by : (e : ℕ) (c : Bool) → eqb e 0 ≡ c → 0 < e → 0 < count e (cond c [] (e ∷ []))
entry_by e true is some = absurd (omega (arith, some, eqb-true e 0 is))
entry_by e false is some = one_counted e 0

-- the head of a new node is one of its entries
head_new : (m : Memory) (k : ℕ) (w : Side) → 0 < m (Node (Head w) k) → 0 < count (m (Node (Head w) k)) (new_entries m (Some k))
head_new m k Left some =
    omega (
      arith,
      entry_by (m (Node (Head Left) k)) (eqb (m (Node (Head Left) k)) 0) refl some,
      count-append (m (Node (Head Left) k)) (listed_entry (m (Node (Head Left) k))) (listed_entry (m (Node (Head Right) k))),
    )
head_new m k Right some =
    omega (
      arith,
      entry_by (m (Node (Head Right) k)) (eqb (m (Node (Head Right) k)) 0) refl some,
      count-append (m (Node (Head Right) k)) (listed_entry (m (Node (Head Left) k))) (listed_entry (m (Node (Head Right) k))),
    )

module _ (z : Layout) (m : Memory) (vs : List View) (g : Meaning) (rule : Rule z m vs g) (i : ℕ) (v : View) (u : Update) (known : List Update)
    (move : TreeMove) (tree : NamedTree) (at : IsItem vs i v) (can : CanRaise v u) (moves : MovesTree m g v u move tree) where
  abbrev s : ℕ
  s = m Stamp

  abbrev stamp : ℕ → ℕ
  stamp d = m (Entry Number d)

  abbrev next : ℕ → ℕ
  next d = m (Entry Next d)

  abbrev head : Side → ℕ → ℕ
  head w k = m (Node (Head w) k)

  abbrev m' : Memory
  m' = written m Stamp (s + 1)

  abbrev g' : Meaning
  g' = meaning_after m g v u move tree

  abbrev number' : ℕ → ℕ
  number' = raised_numbers g.bundles.number (v.update.pending ++ move.entries) (s + 1)

  abbrev bundle' : Side → ℕ → List ℕ
  bundle' = with_added g.bundles.bundle head move.added

  abbrev v' : View
  v' = raised_view known v s u move

  abbrev ws : List View
  ws = set vs i v'

  own : SeatRight z m g v
  own = seat_at z m vs g i v at rule

  -- the view works on what it worked on, and on the new node
  none_added : v.update.added ≡ None
  none_added = own.update.first can.raised

  pub works_more : (k : ℕ) → 0 < count k (work_nodes v) → 0 < count k (work_nodes v')
  works_more k here =
      omega (
        arith,
        here,
        count-append k (held_slots v.held.nodes) (listed v.update.added),
        ap (λ (o : Option ℕ). count k (listed o)) none_added,
        count-append k (held_slots v.held.nodes) (listed move.added),
      )

  pub works_added : (k : ℕ) → 0 < count k (listed move.added) → 0 < count k (work_nodes v')
  works_added k here = omega (arith, here, count-append k (held_slots v.held.nodes) (listed move.added))

  pending_more : (d : ℕ) → pending_count d v' ≡ pending_count d v + count d move.entries
  pending_more d = count-append d v.update.pending move.entries

  pending_sum : (d : ℕ) → sum_by (pending_count d) ws ≡ sum_by (pending_count d) vs + count d move.entries
  pending_sum d = omega (arith, sum_moved (pending_count d) vs i v v' at, pending_more d)

  -- an entry that was pending and is not of the new node
  old_pending : (k d : ℕ) → count d move.entries ≡ 0 → IsPendingAt vs k d → IsPendingAt ws k d
  old_pending k d old is =
      let P : View → Type 0 = λ y. 0 < pending_count d y → 0 < count k (work_nodes y) in (
        omega (arith, pending_sum d, old, is.0),
        all_moved P P vs i v v' at is.1 (λ some. works_more k (at_item P vs i v at is.1 (omega (arith, pending_more d, old, some)))) (λ y beside of. of),
      )

  new_pending : (k d : ℕ) → 0 < count k (listed move.added) → 0 < count d move.entries → IsPendingAt ws k d
  new_pending k d here new =
      let P : View → Type 0 = λ y. pending_count d y ≡ 0 in
      let Q : View → Type 0 = λ y. 0 < pending_count d y → 0 < count k (work_nodes y) in
      let before : sum_by (pending_count d) vs ≡ 0 = none_pending z m vs g rule i v u move tree at moves d new in
      let none : All P vs
      = λ j c within. omega (arith, before, one_term (pending_count d) vs j _ (record { within = within; is = λ b. get_or_default vs j b c within })) in (
        omega (arith, pending_sum d, before, new, moves.once d),
        all_moved P Q vs i v v' at none (λ _. works_added k here) (λ y beside of more. absurd (omega (arith, of, more))),
      )

  numbers_now : (d : ℕ) → IsNumbered s stamp g.bundles.number d → IsNumbered (s + 1) stamp number' d
  numbers_now d right above = (written_kept z m vs g rule i v u move tree at can moves d above ∙ (right above).0, omega (arith, (right above).1))

  -- a bundle of a node that was live
  old_right : (k : ℕ) (w : Side) → IsLive z vs k → BundleRight (s + 1) next stamp number' (IsPendingAt ws k) (head w k) (g.bundles.bundle w k)
  old_right k w live =
      let right = rule.bundles k live w in
      let es : List ℕ = g.bundles.bundle w k in
      record {
        chain = right.chain;
        numbers = every_map (IsNumbered s stamp g.bundles.number) (IsNumbered (s + 1) stamp number') es numbers_now right.numbers;
        tail = right.tail;
        falls = old_falls z m vs g rule i v u move tree at can moves k w live;
        owned = every_listed (λ d. stamp d ≡ 0 → IsPendingAt vs k d) (λ d. stamp d ≡ 0 → IsPendingAt ws k d) es
            (λ d here is none. old_pending k d (entry_apart z m vs g rule i v u move tree at moves k d w live here) (is none)) right.owned;
      }

  -- a bundle of the new node
  new_right : (k e : ℕ) (c : Bool) → eqb e 0 ≡ c → 0 < count k (listed move.added) → (0 < e → 0 < count e move.entries)
      → BundleRight (s + 1) next stamp number' (IsPendingAt ws k) e (cond c [] (e ∷ []))
  new_right k e true is here new = record { chain = eqb-true e 0 is; numbers = tt; tail = tt; falls = tt; owned = tt }
  new_right k e false is here new =
      let some : 0 < e = not_zero e is in
      let fresh = moves.fresh e (new some) in
      record {
        chain = (refl, some, fresh.2);
        numbers = ((λ above. absurd (omega (arith, above, fresh.1))), tt);
        tail = tt;
        falls = (
          omega (
            arith,
            low z m vs g rule i v u move tree at can moves,
            numbered_now z m vs g rule i v u move tree at can moves e (omega (arith, new some, count-append e v.update.pending move.entries)),
          ),
          tt,
        );
        owned = ((λ none. new_pending k e here (new some)), tt);
      }
    where
      not_zero : (x : ℕ) → eqb x 0 ≡ false → 0 < x
      not_zero x is = grind (arith, nat_tests)

  pub new_head : (k : ℕ) (w : Side) → 0 < count k (listed move.added) → 0 < head w k → 0 < count (head w k) move.entries
  new_head k w here some =
      subst (λ es. 0 < count (head w k) es) (sym (moves.entries ∙ ap (new_entries m) (only_listed move.added k here))) (head_new m k w some)

  bundle_by : (k : ℕ) (w : Side) (c : Bool) → has k (listed move.added) ≡ c → IsLive z ws k
      → BundleRight (s + 1) next stamp number' (IsPendingAt ws k) (head w k) (cond c (listed_entry (head w k)) (g.bundles.bundle w k))
  bundle_by k w true is live =
      new_right k (head w k) (eqb (head w k) 0) refl (has-count k (listed move.added) is) (new_head k w (has-count k (listed move.added) is))
  bundle_by k w false is live =
      old_right k w (live_moved z vs i k v v' at (omega (arith, without_kept k (listed move.added) v.free.nodes (has_not k (listed move.added) is))) live)

  pub bundle_now : (k : ℕ) → IsLive z ws k → (w : Side) → IsBundle m' ws g' k w
  bundle_now k live w = bundle_by k w (has k (listed move.added)) refl live
