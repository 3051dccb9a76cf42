-- The plain tree, what searches claim and what they reach, after a look at a section word at the wait of a removal: for
-- the seats inside the section that was found it waits as before.
use Rattle.std.proofs.Common.{◌≡◌, ℕ, List, Bool, true, false, not, ◌&&◌, set, arith, refl, ap, ◌∙◌, sym, inl, inr, cond}
use Rattle.std.proofs.lemmas.Bool.{and_from}
use Rattle.index_words.specs.declared.layout.Layout.{Layout}
use Rattle.index_words.specs.declared.side.Side.TheVariants.{Right}
use Rattle.index_words.specs.declared.view.View.{View}
use Rattle.index_words.specs.declared.view.update.UnsetLink.{UnsetLink}
use Rattle.index_words.specs.declared.word.Word.{Word}
use Rattle.index_words.specs.declared.word.Word.TheVariants.{Section, Announced}
use Rattle.index_words.specs.Words.{Memory, memory}
use Rattle.key_map.specs.Lists.{has, IsItem}
use Rattle.index_words.proofs.Seats.{Beside, at_item, all_moved}
use Rattle.core_grace.specs.Batches.{looked}
use Rattle.core_grace.specs.Sections.{is_even}
use Rattle.core_trees.specs.NamedTree.{NamedTree}
use Rattle.core_trees.specs.SpelledTree.{Graph}
use Rattle.core_events.specs.declared.event.Kind.TheVariants.{LookSec}
use Rattle.core_events.specs.PlainNeeds.{unlinks_at}
use Rattle.core_events.specs.Steps.{look_from}
use Rattle.core_events.specs.Waits.{has_no_lock, is_waiting, looked_waiting, may_look}
use Rattle.core_events.proofs.Tests.{never}
use Rattle.core_invariant.specs.PlainTree.{sets_link, bypasses, copies, undone, ItemRight, SeatInTree}
use Rattle.core_invariant.specs.Reached.{plain_graph, has_let}
use Rattle.core_invariant.specs.Rule.{InRule}
use Rattle.core_invariant.specs.SearchRule.{unlinks, waits_for, waits, SearchRight}
use Rattle.core_invariant.specs.SectionRule.{SectionRight}
use Rattle.core_invariant.proofs.Frames.{every_map}
use Rattle.core_invariant.proofs.Idle.{section_of}
use Rattle.core_invariant.proofs.OneView.{seat_at}
use Rattle.core_invariant.proofs.WaitNeeds.{CanLook, can_look}
use Rattle.core_kept.specs.SearchLaws.{SearchesAfter, KeepsSearchesAt}
use Rattle.core_kept.proofs.LooksLetting.{let_stays}
use Rattle.core_kept.proofs.ReachMoves.{reach_moved}
use Rattle.core_kept.proofs.RestingSeats.{rests_reaching, rests_search}
use Rattle.core_kept.proofs.SearchLooks.{look_after}
use Rattle.core_kept.proofs.SearchMoves.{search_wider}
use Rattle.core_invariant.proofs.Undone.{any_moved}
use Rattle.core_kept.proofs.WaitItems.{waiting_items}
use Rattle.plain_trees.specs.Raises.{Extends}
use Rattle.plain_trees.proofs.Inserts.{still}

-- an update that waits for a seat still does after a look
still_waits : (b : Bool) (l l' : Bool) → (l ≡ false → l' ≡ false) → (b && not l) ≡ true → (b && not l') ≡ true
still_waits true false l' same is = ap not (same refl)
still_waits _ _ l' same is = absurd (never is)

module _ (z : Layout) (words : List ℕ) (vs : List View) (right : InRule z words vs) (i : ℕ) (v : View) (at : IsItem vs i v) (pass : ℕ)
    (even : is_even v.section_word ≡ true) (waiting : is_waiting v ≡ true) where
  abbrev m : Memory
  m = memory z words

  abbrev gr0 : Graph
  gr0 = plain_graph m

  abbrev now : NamedTree
  now = right.meaning.tree

  abbrev W : NamedTree
  W = right.plain_tree

  abbrev w : View
  w = looked_waiting v pass (m (Section pass))

  abbrev ws : List View
  ws = set vs i w

  seat : SeatInTree gr0 W now v
  seat = at_item (SeatInTree gr0 W now) vs i v at right.trees.seats

  section : (j : ℕ) (t : View) → IsItem vs j t → SectionRight (λ n. m (Section n)) (λ n. m (Announced n)) t
  section j t of = (seat_at z m vs right.meaning j t of right.rule).section

  -- the only link that is still to be set is that to the successor
  item_after : (y : UnsetLink) → (unlinks_at y.node y.side v.update.unlinking ≡ true)
      × ItemRight gr0 W v.update.taken v.update.added v.update.unlinking v.update.waiting y
      → ItemRight gr0 W v.update.taken v.update.added v.update.unlinking w.update.waiting y
  item_after y both = record {
    goes = both.1.goes;
    moves = both.1.moves;
    leads = both.1.leads;
    near = both.1.near;
    last = both.1.last;
    early = λ other. absurd (never (sym (both.1.early other).0 ∙ both.0));
  }

  more : Extends (undone gr0 vs) (undone gr0 ws)
  more = record {
    links = λ k side was child some.
        any_moved (sets_link (gr0.child Right) k side was child) (sets_link (gr0.child Right) k side was child) vs i v w at (λ is. is) (λ t beside is. is) some;
    outs = λ k some. any_moved (λ (t : View). has k t.update.taken) (λ (t : View). has k t.update.taken) vs i v w at (λ is. is) (λ t beside is. is) some;
    passes = λ k some.
        any_moved (λ (t : View). bypasses t.update.taken t.update.added k) (λ (t : View). bypasses t.update.taken t.update.added k) vs i v w at
        (λ is. is) (λ t beside is. is) some;
    heirs = λ r s some.
        any_moved (λ (t : View). copies t.update.taken r s) (λ (t : View). copies t.update.taken r s) vs i v w at (λ is. is) (λ t beside is. is) some;
  }

  -- a seat inside a section is waited for as before; the others claim nothing
  other_search : (t : View) → Beside vs i t → SearchRight gr0 vs now W t → SearchRight gr0 ws now W t
  other_search t beside before = by (is_even t.section_word) refl
    where
      own : is_even t.section_word ≡ false → (r s : ℕ) → waits vs t r s ≡ true → waits ws t r s ≡ true
      own inside r s some =
          any_moved (waits_for t r s) (waits_for t r s) vs i v w at
          (still_waits (unlinks r s v.update.unlinking) (has_let v.update.waiting t.number t.section_word) (has_let w.update.waiting t.number t.section_word)
          (let_stays v.update.waiting t.number t.section_word pass (m (Section pass)) inside
          (λ is. sym (section_of (λ n. m (Section n)) (λ n. m (Announced n)) t pass (section beside.place t beside.at) is))))
          (λ q other is. is) some

      by : (b : Bool) → is_even t.section_word ≡ b → SearchRight gr0 ws now W t
      by true outside = rests_search gr0 ws now W t ((section beside.place t beside.at).outside outside) outside
      by false inside = search_wider gr0 vs i v w at now W t more.passes (own inside) before

  pub waiting_after : SearchesAfter z gr0 ws now
  waiting_after = record {
    plain_tree = W;
    trees = record {
      spelled = right.trees.spelled;
      once = right.trees.once;
      matches = still (undone gr0 vs) (undone gr0 ws) more 0 Right W now right.trees.matches;
      seats = all_moved (SeatInTree gr0 W now) (SeatInTree gr0 W now) vs i v w at right.trees.seats
          (record {
            locked = seat.locked;
            items =
                every_map (λ y. (unlinks_at y.node y.side v.update.unlinking ≡ true)
                × ItemRight gr0 W v.update.taken v.update.added v.update.unlinking v.update.waiting y)
                (ItemRight gr0 W v.update.taken v.update.added v.update.unlinking w.update.waiting) v.update.unset item_after
                (waiting_items v (ItemRight gr0 W v.update.taken v.update.added v.update.unlinking v.update.waiting) waiting seat.items);
            apart = seat.apart;
            first = seat.first;
            far = seat.far;
          }) (λ t beside is. is);
    };
    searches =
        all_moved (SearchRight gr0 vs now W) (SearchRight gr0 ws now W) vs i v w at right.searches
        (rests_search gr0 ws now W w ((section i v at).outside even) even) other_search;
    reach = reach_moved z gr0 gr0 vs i v w at
        (record { free = λ j. omega arith; batch = refl; grace = refl; number = refl; own = λ raised j holds told. absurd (rests_reaching gr0 w j even holds) })
        (record { own = λ j holds. absurd (rests_reaching gr0 w j even holds); others = λ t beside j holds. inl holds }) right.reach;
  }

-- a look at the section word of another pass
module _ (z : Layout) (words : List ℕ) (vs : List View) (right : InRule z words vs) (i : ℕ) (v : View) (at : IsItem vs i v) where
  look_by : (pass : ℕ) → CanLook v pass → (b : Bool) → has_no_lock v ≡ b
      → SearchesAfter z (plain_graph (memory z words))
      (set vs i (cond b (looked z.passes v pass (memory z words (Section pass))) (looked_waiting v pass (memory z words (Section pass))))) right.meaning.tree
  look_by pass can true none = look_after z words vs right i v at pass can.other (and_from (is_even v.section_word) (has_no_lock v) can.even none)
  look_by pass can false some = elim can.looks
      as (λ _. SearchesAfter z (plain_graph (memory z words)) (set vs i (looked_waiting v pass (memory z words (Section pass)))) right.meaning.tree) [
        | inl none ↦ absurd (never (sym some ∙ none))
        | inr waits ↦ waiting_after z words vs right i v at pass can.even waits.1
      ]

  look_found : (u : Word) (value : ℕ) → may_look v u value ≡ true
      → SearchesAfter z (plain_graph (memory z words)) (set vs i (look_from z v u (memory z words u))) right.meaning.tree
  look_found (Section pass) value met = look_by pass (can_look v pass value met) (has_no_lock v) refl
  look_found _ value met = absurd (never met)

pub look_searches : KeepsSearchesAt LookSec
look_searches z words vs right i v at live n w found value o own met = look_found z words vs right i v at w value met
