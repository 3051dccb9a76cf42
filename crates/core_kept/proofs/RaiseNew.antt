-- The node that a raise brings in, and the entries of its bundles: they were free, so nothing of the rule spoke of
-- them.
use Rattle.std.proofs.Common.{◌≡◌, ℕ, ◌+◌, ◌<◌, ◌≤◌, ◌⊎◌, cond, List, [], ◌∷◌, ◌++◌, Bool, true, false, ◌||◌, set, arith, refl, ap, ◌∙◌, sym, subst, inl, inr, Option, Some, None}
use Rattle.std.specs.List.{sum_by}
use Rattle.std.proofs.lemmas.Bool.{eq-eqb, cases_lt}
use Rattle.std.proofs.lemmas.Bool.Decides.{nat_tests}
use Rattle.std.proofs.lemmas.List.Sums.{sum_by-le-sum_by}
use Rattle.index_words.specs.declared.layout.Layout.{Layout}
use Rattle.index_words.specs.declared.side.Side.{Side}
use Rattle.index_words.specs.declared.side.Side.TheVariants.{Left, Right}
use Rattle.key_map.specs.declared.update.Update.{Update}
use Rattle.index_words.specs.declared.view.View.{View}
use Rattle.index_words.specs.declared.word.Field.TheVariants.{Head}
use Rattle.index_words.specs.declared.word.Part.TheVariants.{Stamp as Number, Next}
use Rattle.index_words.specs.declared.word.Word.TheVariants.{Stamp, Node, Entry}
use Rattle.index_words.specs.Words.{Memory}
use Rattle.key_map.specs.Lists.{count, has, IsItem}
use Rattle.index_words.proofs.Seats.{sum_moved, one_term, at_item}
use Rattle.key_map.proofs.Counting.{count-append, has-count, count-has}
use Rattle.core_grace.specs.Holds.{Bundles, entries_of, linked_in, listed, work_nodes, tree_slots, HoldsNode}
use Rattle.core_grace.specs.Slots.{nodes_of, own, own_free, is_slot}
use Rattle.core_links.specs.Bundle.{IsChain}
use Rattle.core_trees.specs.NamedTree.{NamedTree}
use Rattle.core_events.specs.declared.tree_move.TreeMove.{TreeMove}
use Rattle.core_invariant.specs.Meanings.{Meaning}
use Rattle.core_events.specs.Versions.{slots_of}
use Rattle.core_invariant.specs.BundleRule.{IsLive, IsPending, pending_count}
use Rattle.core_events.specs.UpdateMoves.{raised_view, listed_entry}
use Rattle.core_invariant.specs.MeaningMoves.{with_added}
use Rattle.core_events.specs.TreeMoves.{new_entries}
use Rattle.core_invariant.specs.Rule.{Rule}
use Rattle.core_invariant.proofs.Frames.{every_at, one_counted, term_of}
use Rattle.core_invariant.proofs.OneView.{seat_at}
use Rattle.core_invariant.proofs.Owned.{in_entries, linked-at, own_waiting, once_node, free_entry_some, free_node_alone, free_node_waits, free_not_live, not_in_bundle, reachable_live}
use Rattle.core_kept.proofs.RaiseCounts.{out_inside, taken_out, without_kept}
use Rattle.core_kept.proofs.TreeMoved.{meaning_after, MovesTree}

zero_unless : (n : ℕ) → (0 < n → ⊥) → n ≡ 0
zero_unless n never = omega (arith, never)

has_none : (k : ℕ) (xs : List ℕ) → count k xs ≡ 0 → has k xs ≡ false
has_none k xs none = by_test (has k xs) refl
  where
    by_test : (c : Bool) → has k xs ≡ c → c ≡ false
    by_test true is = absurd (omega (arith, none, has-count k xs is))
    by_test false is = refl

slot_there : (size k : ℕ) → 0 < is_slot size k → k ≤ size
slot_there size k some = grind (arith, nat_tests)

behind_root : (k : ℕ) (ks : List ℕ) → 0 < k → 0 < count k (0 ∷ ks) → 0 < count k ks
behind_root k ks low some = grind (arith, nat_tests)

head_in : (next : ℕ → ℕ) (h : ℕ) (es : List ℕ) → IsChain next h es → 0 < h → 0 < count h es
head_in next h [] chain some = absurd (omega (arith, chain, some))
head_in next h (e ∷ es) chain some = subst (λ x. 0 < count h (x ∷ es)) chain.0 (one_counted h (count h es))

-- the entries of the added node are those of its heads
linked_new : (m : Memory) (b : Bundles) (number : ℕ → ℕ) (o : Option ℕ) (e : ℕ)
    → linked_in (record { bundle = with_added b.bundle (λ w k. m (Node (Head w) k)) o; number = number }) e (listed o) ≡ count e (new_entries m o)
linked_new m b number None e = refl
linked_new m b number (Some k) e =
    ap (λ c. count e (cond (c || false) (listed_entry (m (Node (Head Left) k))) (b.bundle Left k) ++ cond (c || false) (listed_entry (m (Node (Head Right) k)))
    (b.bundle Right k)) + 0) (eq-eqb k k refl)
    ∙ plain (count e (new_entries m (Some k)))
  where
    plain : (n : ℕ) → n + 0 ≡ n
    plain n = omega arith

module _ (z : Layout) (m : Memory) (vs : List View) (g : Meaning) (rule : Rule z m vs g) (i : ℕ) (v : View) (u : Update) (move : TreeMove) (tree : NamedTree)
    (at : IsItem vs i v) (moves : MovesTree m g v u move tree) where
  abbrev s : ℕ
  s = m Stamp

  abbrev head : Side → ℕ → ℕ
  head w k = m (Node (Head w) k)

  abbrev g' : Meaning
  g' = meaning_after m g v u move tree

  abbrev b : Bundles
  b = g.bundles

  abbrev b' : Bundles
  b' = g'.bundles

  abbrev raised : List Update → View
  raised known = raised_view known v s u move

  -- the added node, of which there is at most one
  abbrev IsNew : ℕ → Type 0
  IsNew k = 0 < count k (listed move.added)

  abbrev IsOld : ℕ → Type 0
  IsOld k = count k (listed move.added) ≡ 0

  added_free : (k : ℕ) → IsNew k → 0 < count k v.free.nodes
  added_free k some = (moves.added k some).0

  entry_free : (e : ℕ) → 0 < count e move.entries → 0 < count e v.free.entries
  entry_free e some = (moves.fresh e some).0

  pub added_apart : (k : ℕ) → IsNew k → (count k (slots_of g.tree) ≡ 0) × (0 < k)
  added_apart k some = free_node_alone z vs g rule.slots i k v at (added_free k some)

  -- the root and the nodes of the tree are not the added node
  pub linked_old : (k : ℕ) → 0 < count k (0 ∷ slots_of g.tree) → IsOld k
  linked_old k linked =
      zero_unless (count k (listed move.added))
      (λ some. let apart = added_apart k some in omega (arith, apart.0, behind_root k (slots_of g.tree) apart.1 linked))

  pub live_old : (k : ℕ) → IsLive z vs k → IsOld k
  live_old k live = zero_unless (count k (listed move.added)) (λ some. free_not_live z vs g rule.slots i k v at (added_free k some) live)

  pub held_old : (j k : ℕ) (y : View) → IsItem vs j y → HoldsNode y k → IsOld k
  held_old j k y of holds =
      let gone : sum_by (own_free nodes_of k) vs ≡ 0
      = at_item (λ (x : View). (n : ℕ) → HoldsNode x n → sum_by (own_free nodes_of n) vs ≡ 0) vs j y of rule.slots.nodes.unheld k holds in
      zero_unless (count k (listed move.added)) (λ some. omega (arith, gone, one_term (own_free nodes_of k) vs i v at, added_free k some))

  pub waiting_old : (j k : ℕ) (y : View) → IsItem vs j y → 0 < own_waiting nodes_of k y → IsOld k
  waiting_old j k y of waits =
      zero_unless (count k (listed move.added)) (λ some. omega (arith, waits, free_node_waits z vs g rule.slots i j k v y at of (added_free k some)))

  pub taken_old : (k : ℕ) → 0 < count k move.taken → IsOld k
  taken_old k some = linked_old k (omega (arith, some, out_inside move.taken (listed move.added) g.tree tree moves.slots k))

  pub old_bundle : (k : ℕ) → IsOld k → (w : Side) → b'.bundle w k ≡ b.bundle w k
  old_bundle k old w = ap (λ c. cond c (listed_entry (head w k)) (b.bundle w k)) (has_none k (listed move.added) old)

  pub live_bundle : (k : ℕ) (w : Side) → IsLive z vs k → b'.bundle w k ≡ b.bundle w k
  live_bundle k w live = old_bundle k (live_old k live) w

  pub new_bundle : (k : ℕ) → IsNew k → (w : Side) → b'.bundle w k ≡ listed_entry (head w k)
  new_bundle k some w = ap (λ c. cond c (listed_entry (head w k)) (b.bundle w k)) (count-has k (listed move.added) some)

  pub old_entries : (k : ℕ) → IsOld k → entries_of b' k ≡ entries_of b k
  old_entries k old = ap (λ es. es ++ b'.bundle Right k) (old_bundle k old Left) ∙ ap (λ es. b.bundle Left k ++ es) (old_bundle k old Right)

  -- the entries of the added node are the new ones
  pub new_linked : (e : ℕ) → linked_in b' e (listed move.added) ≡ count e move.entries
  new_linked e = linked_new m b b'.number move.added e ∙ ap (count e) (sym moves.entries)

  pub new_entry : (k e : ℕ) (w : Side) → IsNew k → 0 < count e (b'.bundle w k) → 0 < count e move.entries
  new_entry k e w some here = omega (arith, in_entries b' k e w here, linked-at b' k e (listed move.added) some, new_linked e)

  pub works_holds : (k : ℕ) (y : View) → 0 < count k (work_nodes y) → HoldsNode y k
  works_holds k y works = omega (arith, count-append k (tree_slots y.reading.tree) (work_nodes y), works)

  work_live : (j k : ℕ) (y : View) → IsItem vs j y → k ≤ z.nodes → 0 < count k (work_nodes y) → IsLive z vs k
  work_live j k y of there works = reachable_live z vs g rule.slots j k y of (there, inr (works_holds k y works))

  -- a new entry stands in no bundle of a live node
  pub entry_apart : (k e : ℕ) (w : Side) → IsLive z vs k → 0 < count e (b.bundle w k) → count e move.entries ≡ 0
  entry_apart k e w live here =
      zero_unless (count e move.entries) (λ some. not_in_bundle z vs g rule.slots i k e v at (entry_free e some) live (in_entries b k e w here))

  -- it is pending in no view
  pub entry_pending : (j e : ℕ) (y : View) → IsItem vs j y → 0 < count e y.update.pending → count e move.entries ≡ 0
  entry_pending j e y of here =
      let is = every_at (IsPending z head (λ d. m (Entry Number d)) b.number y) e y.update.pending (seat_at z m vs g j y of rule).pending here in
      let live : IsLive z vs is.2.node = work_live j is.2.node y of is.2.there is.2.of in
      let first : 0 < count (head is.2.side is.2.node) (b.bundle is.2.side is.2.node)
      = head_in (λ d. m (Entry Next d)) (head is.2.side is.2.node) (b.bundle is.2.side is.2.node) (rule.bundles is.2.node live is.2.side).chain
      (subst (λ x. 0 < x) (sym is.2.is) is.2.some) in
      entry_apart is.2.node e is.2.side live (subst (λ x. 0 < count x (b.bundle is.2.side is.2.node)) is.2.is first)

  pub live_before : (known : List Update) (k : ℕ) → IsLive z (set vs i (raised known)) k → IsLive z vs k ⊎ IsNew k
  live_before known k live =
      elim (cases_lt 0 (count k (listed move.added))) as (λ _. IsLive z vs k ⊎ IsNew k) [
        | inl some ↦ inr some
        | inr none ↦
            inl (
              live.0,
              omega (
                arith,
                live.1,
                sum_moved (own_free nodes_of k) vs i v (raised known) at,
                without_kept k (listed move.added) v.free.nodes (omega (arith, none)),
              ),
            )
      ]

  -- the added node is a slot of the table
  pub added_there : (k : ℕ) → IsNew k → k ≤ z.nodes
  added_there k some = slot_there z.nodes k (omega (arith, rule.slots.nodes.one k, one_term (own nodes_of k) vs i v at, added_free k some))

  pub entry_some : (e : ℕ) → 0 < count e move.entries → 0 < e
  entry_some e some = free_entry_some z vs g rule.slots i e v at (entry_free e some)

  -- after the raise the added node is live, and so is what was live before
  pub new_live : (known : List Update) (k : ℕ) → IsNew k → IsLive z (set vs i (raised known)) k
  new_live known k some = (
    added_there k some,
    omega (
      arith,
      sum_moved (own_free nodes_of k) vs i v (raised known) at,
      taken_out k (listed move.added) v.free.nodes some,
      added_free k some,
      once_node z vs g rule.slots k,
      sum_by-le-sum_by (own_free nodes_of k) (own nodes_of k) vs (λ y. omega arith),
    ),
  )

  pub live_after : (known : List Update) (k : ℕ) → IsLive z vs k → IsLive z (set vs i (raised known)) k
  live_after known k live = (
    live.0,
    omega (
      arith,
      live.1,
      sum_moved (own_free nodes_of k) vs i v (raised known) at,
      without_kept k (listed move.added) v.free.nodes (live_old k live),
    ),
  )

  pub none_pending : (e : ℕ) → 0 < count e move.entries → sum_by (pending_count e) vs ≡ 0
  none_pending e some =
      zero_unless (sum_by (pending_count e) vs) (λ more.
      let term = term_of (pending_count e) vs more in omega (arith, some, entry_pending term.place e term.item term.at term.some))

  -- after the raise an entry is pending once where it is new, and otherwise as often as before
  pub pending_after : (known : List Update) (e : ℕ) → sum_by (pending_count e) (set vs i (raised known)) ≡ sum_by (pending_count e) vs + count e move.entries
  pending_after known e = omega (arith, sum_moved (pending_count e) vs i v (raised known) at, count-append e v.update.pending move.entries)

  pub single_after : (known : List Update) (e : ℕ) → sum_by (pending_count e) (set vs i (raised known)) ≤ 1
  single_after known e =
      elim (cases_lt 0 (count e move.entries)) as (λ _. sum_by (pending_count e) (set vs i (raised known)) ≤ 1) [
        | inl some ↦ omega (arith, pending_after known e, none_pending e some, moves.once e)
        | inr none ↦ omega (arith, pending_after known e, none, rule.single e)
      ]
