-- The plain tree, what searches claim and what they reach, after a leave: the view reaches nothing then, and forgets
-- the node that its update brought in.
use Rattle.std.proofs.Common.{◌≡◌, ℕ, ◌⊎◌, List, [], ◌∷◌, true, set, arith, refl, ap, ◌∙◌, sym, subst, inl, inr, Option, Some, None}
use Rattle.index_words.specs.declared.layout.Layout.{Layout}
use Rattle.index_words.specs.declared.side.Side.TheVariants.{Right}
use Rattle.index_words.specs.declared.view.View.{View}
use Rattle.index_words.specs.declared.view.update.UnsetLink.{UnsetLink}
use Rattle.index_words.specs.declared.view.update.Updating.{Updating}
use Rattle.index_words.specs.declared.word.Word.{Word}
use Rattle.index_words.specs.Words.{Memory, memory, written}
use Rattle.key_map.specs.Lists.{has, Every, IsItem}
use Rattle.index_words.proofs.Seats.{at_item, all_moved}
use Rattle.core_grace.specs.Sections.{is_even}
use Rattle.core_grace.proofs.Parity.{even_left}
use Rattle.core_trees.specs.NamedTree.{NamedTree}
use Rattle.core_trees.specs.SpelledTree.{Graph}
use Rattle.core_events.specs.declared.event.Kind.TheVariants.{Leave}
use Rattle.core_events.specs.Moves.{left}
use Rattle.core_events.specs.PlainNeeds.{unlinks_at}
use Rattle.core_events.proofs.Tests.{never}
use Rattle.core_invariant.specs.PlainTree.{sets_link, bypasses, copies, undone, IsFirstOut, IsSecondOut, BringsChild, HasChild, ItemRight, AreApart, SeatInTree}
use Rattle.core_invariant.specs.Reached.{plain_graph, HoldsPlain}
use Rattle.core_invariant.specs.Rule.{InRule}
use Rattle.core_invariant.specs.SearchRule.{waits_for}
use Rattle.core_invariant.proofs.Frames.{every_map}
use Rattle.core_invariant.proofs.OneView.{seat_at}
use Rattle.core_invariant.proofs.WaitNeeds.{CanLeave, can_leave}
use Rattle.core_kept.specs.SearchLaws.{SearchesAfter, KeepsSearchesAt}
use Rattle.core_kept.proofs.ReachMoves.{reach_moved}
use Rattle.core_kept.proofs.SearchMoves.{searches_moved}
use Rattle.core_kept.proofs.SearchStores.{stored}
use Rattle.core_invariant.proofs.Undone.{any_moved}
use Rattle.core_kept.proofs.WaitItems.{waiting_items}
use Rattle.plain_trees.specs.Raises.{Extends}
use Rattle.plain_trees.proofs.Inserts.{still}

-- a node that is bypassed still is where the node that was brought in is forgotten
still_bypassed : (taken : List ℕ) (added : Option ℕ) (k : ℕ) → bypasses taken added k ≡ true → bypasses taken None k ≡ true
still_bypassed (n ∷ []) None k is = is
still_bypassed (n ∷ s ∷ []) added k is = is
still_bypassed _ _ k is = absurd (never is)

never_some : {c : ℕ} → None ≡ Some c → ⊥
never_some e = cc

first_not_second : (taken : List ℕ) (a : ℕ) → AreApart taken → IsFirstOut taken a → IsSecondOut taken a → ⊥
first_not_second (n ∷ s ∷ []) a apart first second = apart (sym first ∙ second)
first_not_second _ a apart first second = second

module _ (z : Layout) (words : List ℕ) (vs : List View) (right : InRule z words vs) (i : ℕ) (v : View) (at : IsItem vs i v) (n : ℕ) (w : Word) (value : ℕ)
    (can : CanLeave (memory z words) v w value) where
  abbrev m : Memory
  m = memory z words

  abbrev gr0 : Graph
  gr0 = plain_graph m

  abbrev now : NamedTree
  now = right.meaning.tree

  abbrev W : NamedTree
  W = right.plain_tree

  abbrev x : View
  x = left v value

  abbrev ws : List View
  ws = set vs i x

  seat : SeatInTree gr0 W now v
  seat = at_item (SeatInTree gr0 W now) vs i v at right.trees.seats

  abbrev Item : UnsetLink → Type 0
  Item = ItemRight gr0 W v.update.taken v.update.added v.update.unlinking v.update.waiting

  abbrev Left : UnsetLink → Type 0
  Left = ItemRight gr0 W v.update.taken None v.update.unlinking v.update.waiting

  -- the only link that is still to be set is that to the successor, whose new child is there
  item_left : (y : UnsetLink) → unlinks_at y.node y.side v.update.unlinking ≡ true → Item y → Left y
  item_left y here is = record {
    goes = is.goes;
    moves = is.moves;
    leads = elim is.leads as (λ _. BringsChild W v.update.taken None y.was y.child ⊎ HasChild W None y.child) [
      | inl brings ↦ absurd (never (sym (is.early (first_not_second v.update.taken y.was seat.apart brings.first)).0 ∙ here))
      | inr has ↦ inr (record { other = never_some; there = has.there })
    ];
    near = is.near;
    last = is.last;
    early = is.early;
  }

  items_left : Every Left v.update.unset
  items_left = elim can.may as (λ _. Every Left v.update.unset) [
    | inl none ↦ subst (Every Left) (sym (ap (λ (u : Updating). u.unset) ((seat_at z m vs right.meaning i v at right.rule).section.done none))) tt
    | inr waits ↦
        every_map (λ y. (unlinks_at y.node y.side v.update.unlinking ≡ true) × Item y) Left v.update.unset (λ y both. item_left y both.0 both.1)
        (waiting_items v Item waits seat.items)
  ]

  more : Extends (undone gr0 vs) (undone gr0 ws)
  more = record {
    links = λ k side was child some.
        any_moved (sets_link (gr0.child Right) k side was child) (sets_link (gr0.child Right) k side was child) vs i v x at (λ is. is) (λ t beside is. is) some;
    outs = λ k some. any_moved (λ (t : View). has k t.update.taken) (λ (t : View). has k t.update.taken) vs i v x at (λ is. is) (λ t beside is. is) some;
    passes = λ k some.
        any_moved (λ (t : View). bypasses t.update.taken t.update.added k) (λ (t : View). bypasses t.update.taken t.update.added k) vs i v x at
        (still_bypassed v.update.taken v.update.added k) (λ t beside is. is) some;
    heirs = λ r s some.
        any_moved (λ (t : View). copies t.update.taken r s) (λ (t : View). copies t.update.taken r s) vs i v x at (λ is. is) (λ t beside is. is) some;
  }

  -- outside of a section nothing is reached
  never_holds : (j : ℕ) → HoldsPlain gr0 x j → ⊥
  never_holds j holds = never (sym holds.inside ∙ (ap is_even can.value_is ∙ even_left v.section_word can.inside))

  pub leave_after : SearchesAfter z gr0 ws now
  leave_after = record {
    plain_tree = W;
    trees = record {
      spelled = right.trees.spelled;
      once = right.trees.once;
      matches = still (undone gr0 vs) (undone gr0 ws) more 0 Right W now right.trees.matches;
      seats = all_moved (SeatInTree gr0 W now) (SeatInTree gr0 W now) vs i v x at right.trees.seats
          (record { locked = seat.locked; items = items_left; apart = seat.apart; first = seat.first; far = seat.far }) (λ t beside is. is);
    };
    searches = searches_moved gr0 vs i v x at now W more.passes
        (λ t beside r s some. any_moved (waits_for t r s) (waits_for t r s) vs i v x at (λ is. is) (λ q other is. is) some)
        (record { ahead = λ j holds here. absurd (never_holds j holds); key = tt; keys = tt; place = λ raised. tt; links = λ raised. tt }) right.searches;
    reach = reach_moved z gr0 gr0 vs i v x at
        (record { free = λ j. omega arith; batch = refl; grace = refl; number = refl; own = λ raised j holds told. absurd (never_holds j holds) })
        (record { own = λ j holds. absurd (never_holds j holds); others = λ t beside j holds. inl holds }) right.reach;
  }

leave_word : (z : Layout) (words : List ℕ) (vs : List View) (right : InRule z words vs) (i : ℕ) (v : View) (at : IsItem vs i v) (n : ℕ) (value : ℕ) (u : Word)
    → CanLeave (memory z words) v u value
    → SearchesAfter z (plain_graph (written (memory z words) u value)) (set vs i (left v value)) right.meaning.tree
leave_word z words vs right i v at n value u can =
    subst (λ (y : Word). SearchesAfter z (plain_graph (written (memory z words) y value)) (set vs i (left v value)) right.meaning.tree) (sym can.own.word)
    (leave_after z words vs right i v at n u value can)

pub leave_searches : KeepsSearchesAt Leave
leave_searches z words vs right i v at live n w found value o own met =
    stored z words vs right i v at n w found value (set vs i (left v value))
    (leave_word z words vs right i v at n value w (can_leave (memory z words) v w value met))
