-- The table with the first view alone, which has all slots, calls and numbers, meets the rule.
use Rattle.std.proofs.Common.{◌≡◌, ℕ, ◌+◌, zero, suc, cond, List, [], ◌∷◌, length, take, ◌<◌, Bool, true, false, eqb, ltb, leb, ◌&&◌, get_or, arith, refl, ap, ◌∙◌, sym, subst, Option, Some, None, replicate, slice_index, inl}
use Rattle.std.specs.List.{All, sum_by, slice_get}
use Rattle.std.proofs.lemmas.Bool.Decides.{nat_tests}
use Rattle.std.proofs.lemmas.List.{length-replicate}
use Rattle.std.proofs.lemmas.List.Elements.{All-nil, All-cons, All-weaker}
use Rattle.std.proofs.lemmas.List.Sums.{sum_by-cons}
use Rattle.index_words.specs.declared.layout.Layout.{Layout}
use Rattle.index_words.specs.declared.view.View.{View}
use Rattle.index_words.specs.declared.view.slots.Slots.{Slots}
use Rattle.index_words.specs.declared.word.Word.{Word}
use Rattle.index_words.specs.declared.view.reading.Reading.{Reading}
use Rattle.index_words.specs.declared.view.update.Updating.{Updating}
use Rattle.key_map.specs.declared.update.Update.{Update}
use Rattle.index_words.specs.declared.side.Side.{Side}
use Rattle.index_words.specs.declared.side.Side.TheVariants.{Right}
use Rattle.index_words.specs.declared.word.Field.TheVariants.{Lock, Mark, Head, Link, Tag}
use Rattle.index_words.specs.declared.word.Part.TheVariants.{Child, Stamp as Number}
use Rattle.index_words.specs.declared.word.Word.TheVariants.{Section, Announced, Stamp, Node, Entry}
use Rattle.index_words.specs.Views.{no_slots, no_looks, no_reading, no_update}
use Rattle.index_words.specs.Words.{memory, word_count, is_there, address}
use Rattle.key_map.specs.Lists.{count, Every}
use Rattle.key_map.proofs.Counting.{count-push}
use Rattle.key_map.proofs.HistoryLaws.{after-none}
use Rattle.key_map.specs.History.{after}
use Rattle.core_grace.specs.Holds.{HoldsNode, HoldsEntry}
use Rattle.core_grace.specs.Slots.{nodes_of, entries_in, own, own_free, is_slot, GraceRight, KeepsEntries}
use Rattle.core_grace.proofs.RuleMoves.{no_looks_right}
use Rattle.core_invariant.specs.PruneRule.{LookedRight}
use Rattle.core_invariant.proofs.Pairs.{announced_idle, by_none}
use Rattle.core_invariant.specs.Numbers.{number_count, NumbersRight, IsSpare}
use Rattle.core_invariant.specs.OwnPlaces.{KnowsPlaces}
use Rattle.core_invariant.specs.WaitingSlots.{WaitsRight}
use Rattle.core_invariant.specs.PlainRule.{owed_count, child_at, greatest_of, SeatPlain}
use Rattle.core_invariant.specs.UnusedSlots.{UnusedRight}
use Rattle.core_invariant.proofs.PlainFrames.{idle_seat}
use Rattle.core_invariant.specs.SectionRule.{IsIdle, SectionRight, IsOwnWord}
use Rattle.core_links.specs.Bundle.{no_number}
use Rattle.core_trees.specs.NamedTree.{Null}
use Rattle.core_invariant.specs.Meanings.{Meaning, linked_by}
use Rattle.core_invariant.specs.Histories.{IsGiven, SeenRight, KnowsAll, place_count, calls_left, made_by, update_at}
use Rattle.core_invariant.specs.Locks.{lock_count}
use Rattle.core_invariant.specs.BundleRule.{UpdateRight, IsPending, pending_count}
use Rattle.core_invariant.specs.Readers.{VersionRight, PlaceRight, LinkRight}
use Rattle.core_invariant.specs.FilledRule.{FilledRight}
use Rattle.core_invariant.specs.SeatRule.{TreeRight, SeatRight}
use Rattle.core_grace.specs.Sections.{is_even}
use Rattle.core_invariant.specs.PlainTree.{SeatInTree}
use Rattle.core_invariant.specs.Reached.{plain_graph, ReachesRight}
use Rattle.core_invariant.specs.LinkRule.{LinksLast}
use Rattle.core_invariant.specs.SearchRule.{SearchRight}
use Rattle.core_invariant.specs.StillRule.{StillRight, KnownRight}
use Rattle.core_invariant.specs.TurnRule.{TurnsRight, LeavesMarked}
use Rattle.core_trees.specs.SpelledTree.{Graph}
use Rattle.core_kept.proofs.LinkedLast.{nothing_brought}
use Rattle.core_kept.proofs.RestingSeats.{one_most, rests_in_tree, rests_search, rests_reach}
use Rattle.core_kept.proofs.TurnFrames.{none_turns, none_still, none_known}
use Rattle.core_kept.proofs.TurnSeats.{has_read_nothing, none_leaving}
use Rattle.core_invariant.specs.Rule.{InRule, IsRight}
use Rattle.core_events.specs.Openings.{from_up, first_view, first_table}
use Rattle.core_invariant.specs.SpentViews.{IsSpent}
use Rattle.core_invariant.proofs.KeptViews.{live_spent}
use Rattle.core_invariant.proofs.Idle.{idle_nodes, idle_entry}

-- 1 for a number from `first` on, and 0 for any other one
abbrev pub between : ℕ → ℕ → ℕ → ℕ
between x first n = cond (leb first x && ltb x (first + n)) 1 0

between_none : (x first : ℕ) → between x first 0 ≡ 0
between_none x first = grind (arith, nat_tests)

between_more : (x first n : ℕ) → between x first n + cond (eqb (first + n) x) 1 0 ≡ between x first (suc n)
between_more x first n = grind (arith, nat_tests)

pub count-from_up : (x first n : ℕ) → count x (from_up first n) ≡ between x first n
count-from_up x first zero = sym (between_none x first)
count-from_up x first (suc n) =
    count-push x (from_up first n) (first + n) ∙ ap (λ k. k + cond (eqb (first + n) x) 1 0) (count-from_up x first n) ∙ between_more x first n

-- a view of which no slot waits
none_waiting : (v : View) → v.retired ≡ no_slots → v.batch ≡ no_slots → WaitsRight v
none_waiting v retired batch = record {
  apart = λ k some holds. omega (arith, subst (λ (s : Slots). 0 < count k s.nodes) batch some);
  owned = λ nameless. (retired, batch);
}

-- a view that has just been made
record IsFresh (z : Layout) (v : View) : Type 0 where
  layout : v.layout ≡ z
  live : v.joined ≡ false
  idle : IsIdle v
  seen : v.history.seen ≡ []
  told : v.history.told ≡ []
  given : v.history.ended_places ≡ []
  found : v.history.found ≡ 0
  grace : v.grace ≡ no_looks
  retired : v.retired ≡ no_slots
  batch : v.batch ≡ no_slots
  nexts : v.held.nexts ≡ []
  section_word : v.section_word ≡ 0
  announced : v.announced ≡ 0
  places : KnowsPlaces v

between_slot : (x n : ℕ) → between x 1 n ≡ is_slot n x
between_slot x n = grind (arith, nat_tests)

between_number : (x n : ℕ) → between x 0 n ≡ cond (ltb x n) 1 0
between_number x n = grind (arith, nat_tests)

-- all words are 0
zero_at : (n i : ℕ) → slice_index (replicate n 0) i ≡ 0
zero_at (suc n) (suc i) = zero_at n i
zero_at _ _ = refl

cond_zero : (b : Bool) (x : ℕ) → x ≡ 0 → cond b x 0 ≡ 0
cond_zero true x none = none
cond_zero false x none = refl

pub zero_memory : (z : Layout) (n : ℕ) (w : Word) → memory z (replicate n 0) w ≡ 0
zero_memory z n w = cond_zero (is_there z w) (slice_index (replicate n 0) (address z w)) (zero_at n (address z w))

zero_word : (word : ℕ → ℕ) (number : Option ℕ) (held : ℕ) → ((n : ℕ) → word n ≡ 0) → held ≡ 0 → IsOwnWord word number held
zero_word word None held zeros none = none
zero_word word (Some n) held zeros none = zeros n ∙ sym none

-- what the words mean at the start: there is no update and no bundle, and nothing is linked
abbrev pub nothing_linked : Meaning
nothing_linked = record { updates = []; bundles = record { bundle = λ side k. []; number = λ e. 0 }; tree = Null }

nothing_taken : (n : ℕ) → take {A = Update} n [] ≡ []
nothing_taken zero = refl
nothing_taken (suc n) = refl

seen_fresh : (z : Layout) (v : View) → IsFresh z v → SeenRight [] v.history
seen_fresh z v fresh = record {
  seen = fresh.seen ∙ sym (nothing_taken (length v.history.seen));
  told = fresh.told ∙ sym (nothing_taken (length v.history.told));
  known = omega (arith, ap length fresh.told);
  found = omega (arith, fresh.found);
  given = subst (Every (IsGiven v.history.ended)) (sym fresh.given) tt;
}

no_update_at : (n x : ℕ) → made_by n (update_at [] x) ≡ 0
no_update_at n x = none_by n (eqb x 0)
  where
    none_by : (n : ℕ) (c : Bool) → made_by n (cond c None (slice_get {X = Update} [] 0)) ≡ 0
    none_by n true = refl
    none_by n false = refl

-- what views that have just been made have in all: each number, slot and call once, no place, lock or pending entry
record StartsWith (z : Layout) (vs : List View) : Type 0 where
  fresh : All (IsFresh z) vs
  numbers : NumbersRight z vs
  nodes : (k : ℕ) → sum_by (own nodes_of k) vs ≡ is_slot z.nodes k
  entries : (e : ℕ) → sum_by (own entries_in e) vs ≡ is_slot z.entries e
  calls : sum_by calls_left vs ≡ z.calls
  places : (n at : ℕ) → sum_by (place_count n at) vs ≡ 0
  locks : (k : ℕ) → sum_by (lock_count k) vs ≡ 0
  pending : (e : ℕ) → sum_by (pending_count e) vs ≡ 0
  owed : (k : ℕ) (side : Side) → sum_by (owed_count k side) vs ≡ 0
  known : KnowsAll [] vs

module _ (z : Layout) (vs : List View) (starts : StartsWith z vs) where
  abbrev ws : List ℕ
  ws = replicate (word_count z) 0

  sections_right : (v : View) → IsFresh z v → SectionRight (λ n. memory z ws (Section n)) (λ n. memory z ws (Announced n)) v
  sections_right v fresh = record {
    section = zero_word (λ n. memory z ws (Section n)) v.number v.section_word (λ n. zero_memory z (word_count z) (Section n)) fresh.section_word;
    announced = zero_word (λ n. memory z ws (Announced n)) v.number v.announced (λ n. zero_memory z (word_count z) (Announced n)) fresh.announced;
    outside = λ even. fresh.idle.reading;
    unlocked = λ even. inl fresh.idle.held;
    done = λ _. fresh.idle.update;
    waits = λ odd. ap (λ (u : Updating). u.waiting) fresh.idle.update;
  }

  seat_right : (v : View) → IsFresh z v → SeatRight z (memory z ws) nothing_linked v
  seat_right v fresh =
      let read : v.reading ≡ no_reading = fresh.idle.reading in
      let locks : v.held.nodes ≡ [] = fresh.idle.held in
      let update : v.update ≡ no_update = fresh.idle.update in
      record {
        layout = λ _. fresh.layout;
        section = sections_right v fresh;
        seen = seen_fresh z v fresh;
        update = subst (UpdateRight (memory z ws Stamp)) (sym update) (record { raised = tt; first = λ _. refl });
        version =
            subst (VersionRight z (memory z ws Stamp)) (sym read)
            (record { past = tt; opened = tt; bare = λ _. refl; there = λ k some. absurd (omega (arith, some)) });
        announced =
            announced_idle (memory z ws Stamp) v (omega (arith, fresh.announced)) (ap (λ (r : Reading). r.section) read) (ap (λ (r : Reading). r.least) read);
        tree = subst (λ (r : Reading). TreeRight (memory z ws) nothing_linked r.section r.tree) (sym read) tt;
        locks = λ k some. absurd (omega (arith, some, ap (λ (hs : List _). lock_count k (record v { held = record v.held { nodes = hs } })) locks));
        loaded = record { nodes = subst (Every _) (sym locks) tt; nexts = subst (Every _) (sym fresh.nexts) tt };
        marks = record {
          retired = λ k some. absurd (omega (arith, some, ap (λ (s : Slots). count k s.nodes) fresh.retired));
          batch = λ k some. absurd (omega (arith, some, ap (λ (s : Slots). count k s.nodes) fresh.batch));
          taken = λ k some. absurd (omega (arith, some, ap (λ (u : Updating). count k u.taken) update));
        };
        pending =
            subst (λ (x : Updating). Every (IsPending z (λ s k. memory z ws (Node (Head s) k)) (λ e. memory z ws (Entry Number e))
            nothing_linked.bundles.number v) x.pending) (sym update) tt;
        place = subst (λ (r : Reading). PlaceRight z (λ e. memory z ws (Entry Number e)) nothing_linked.bundles v r.place) (sym read) tt;
        filled = subst (λ (r : Reading). Every (FilledRight (memory z ws) v.free v.update) r.filled) (sym read) tt;
        links = subst (λ (r : Reading). Every (LinkRight z (λ e. memory z ws (Entry Child e)) nothing_linked.bundles v) r.links) (sym read) tt;
      }

  no_node : (v : View) → IsFresh z v → (k : ℕ) → HoldsNode v k → ⊥
  no_node v fresh k holds = omega (arith, holds, ap (count k) (idle_nodes v fresh.idle))

  no_entry : (v : View) → IsFresh z v → (e : ℕ) → HoldsEntry nothing_linked.bundles v e → ⊥
  no_entry v fresh e holds = idle_entry nothing_linked.bundles v e fresh.idle holds

  no_slots_kept : (s : Slots) → s ≡ no_slots → KeepsEntries (linked_by nothing_linked).entries_of s
  no_slots_kept s none = subst (KeepsEntries (linked_by nothing_linked).entries_of) (sym none) (λ k e some of. absurd (omega arith))

  zero_spare : (xs : List ℕ) → Every (λ n. (memory z ws (Section n) ≡ 0) × (memory z ws (Announced n) ≡ 0)) xs
  zero_spare [] = tt
  zero_spare (n ∷ xs) = ((zero_memory z (word_count z) (Section n), zero_memory z (word_count z) (Announced n)), zero_spare xs)

  abbrev gr : Graph
  gr = plain_graph (memory z ws)

  abbrev marks : ℕ → ℕ
  marks k = memory z ws (Node Mark k)

  abbrev tags : Side → ℕ → ℕ
  tags side k = memory z ws (Node (Tag side) k)

  starts_right : z.calls < no_number → InRule z ws vs
  starts_right few = record {
    size = length-replicate (word_count z) 0;
    meaning = nothing_linked;
    rule = record {
      numbers = starts.numbers;
      history = record {
        long = sym (zero_memory z (word_count z) Stamp);
        known = starts.known;
        clients = tt;
        places = λ n x. starts.places n x ∙ sym (no_update_at n x);
        calls = omega (arith, zero_memory z (word_count z) Stamp, starts.calls);
        few = few;
      };
      slots = record {
        nodes = record {
          one = λ k. ap (λ n. n + 0) (starts.nodes k) ∙ omega arith;
          unheld =
              All-weaker (IsFresh z) (λ v. (k : ℕ) → HoldsNode v k → sum_by (own_free nodes_of k) vs ≡ 0)
              (λ v fresh k holds. absurd (no_node v fresh k holds)) vs starts.fresh;
        };
        entries = record {
          one = λ e. ap (λ n. n + 0) (starts.entries e) ∙ omega arith;
          unheld =
              All-weaker (IsFresh z) (λ v. (e : ℕ) → HoldsEntry nothing_linked.bundles v e → sum_by (own_free entries_in e) vs ≡ 0)
              (λ v fresh e holds. absurd (no_entry v fresh e holds)) vs starts.fresh;
        };
        grace = All-weaker (IsFresh z) (λ v. All (GraceRight HoldsNode (HoldsEntry nothing_linked.bundles) v) vs)
            (λ v fresh k d within. no_looks_right z (linked_by nothing_linked) HoldsNode (HoldsEntry nothing_linked.bundles) v (get_or vs k d) fresh.grace) vs
            starts.fresh;
        retired =
            All-weaker (IsFresh z) (λ v. KeepsEntries (linked_by nothing_linked).entries_of v.retired
            × KeepsEntries (linked_by nothing_linked).entries_of v.batch)
            (λ v fresh. (no_slots_kept v.retired fresh.retired, no_slots_kept v.batch fresh.batch)) vs starts.fresh;
      };
      locks = λ k. starts.locks k ∙ ap (λ x. cond (eqb x 0) 0 1) (sym (zero_memory z (word_count z) (Node Lock k)));
      tree = record { spelled = refl; lawful = tt; contents = sym (ap (after []) (zero_memory z (word_count z) Stamp) ∙ after-none []) };
      marks = record { root = zero_memory z (word_count z) (Node Mark 0); nodes = λ k some. absurd (omega (arith, some)) };
      bundles = λ k live side. record { chain = zero_memory z (word_count z) (Node (Head side) k); numbers = tt; tail = tt; falls = tt; owned = tt };
      pairs = All-weaker (IsFresh z) (λ v. All (LookedRight v) vs)
          (λ v fresh k d within. by_none v (get_or vs k d) (ap (λ (r : Reading). r.least) fresh.idle.reading)) vs starts.fresh;
      single = λ e. omega (arith, starts.pending e);
      seats = All-weaker (IsFresh z) (SeatRight z (memory z ws) nothing_linked) seat_right vs starts.fresh;
    };
    plain = record {
      linked = λ k side there none. zero_memory z (word_count z) (Node (Link side) k);
      tags = λ k side there. omega (arith, zero_memory z (word_count z) (Node (Tag side) k), starts.owed k side);
      seats =
          All-weaker (IsFresh z) (SeatPlain (λ s k. memory z ws (Node (Link s) k))
          (child_at (λ e. memory z ws (Entry Child e)) nothing_linked.bundles (memory z ws Stamp)) Null)
          (λ v fresh. idle_seat (λ s k. memory z ws (Node (Link s) k)) (λ s k. memory z ws (Node (Tag s) k))
          (child_at (λ e. memory z ws (Entry Child e)) nothing_linked.bundles (memory z ws Stamp))
          (greatest_of nothing_linked.bundles (memory z ws Stamp)) Null v fresh.idle.update) vs starts.fresh;
    };
    plain_tree = Null;
    trees = record {
      spelled = zero_memory z (word_count z) (Node (Link Right) 0);
      once = λ x. omega (arith, one_most x 0);
      matches = inl tt;
      seats =
          All-weaker (IsFresh z) (SeatInTree (plain_graph (memory z ws)) Null Null)
          (λ v fresh. rests_in_tree (plain_graph (memory z ws)) Null Null v fresh.idle.held fresh.idle.update) vs starts.fresh;
    };
    searches = All-weaker (IsFresh z) (SearchRight (plain_graph (memory z ws)) vs Null Null)
        (λ v fresh. rests_search (plain_graph (memory z ws)) vs Null Null v fresh.idle.reading (ap is_even fresh.section_word)) vs starts.fresh;
    reach =
        All-weaker (IsFresh z) (ReachesRight z (plain_graph (memory z ws)) vs)
        (λ v fresh. rests_reach z (plain_graph (memory z ws)) vs v (ap is_even fresh.section_word)) vs starts.fresh;
    turns = All-weaker (IsFresh z) (TurnsRight gr Null) (λ v fresh. none_turns z gr marks tags Null v (has_read_nothing v fresh.idle.reading)) vs starts.fresh;
    leaving =
        All-weaker (IsFresh z) (LeavesMarked marks Null)
        (λ v fresh. none_leaving marks Null v (ap (λ (u : Updating). u.taken) fresh.idle.update)) vs starts.fresh;
    still =
        All-weaker (IsFresh z) (StillRight z gr tags Null)
        (λ v fresh. none_still z gr marks tags Null v (has_read_nothing v fresh.idle.reading)) vs starts.fresh;
    known =
        All-weaker (IsFresh z) (KnownRight z gr tags) (λ v fresh. none_known z gr marks tags Null v (has_read_nothing v fresh.idle.reading)) vs starts.fresh;
    linking = All-weaker (IsFresh z) LinksLast (λ v fresh. nothing_brought v (ap (λ (u : Updating). u.added) fresh.idle.update)) vs starts.fresh;
    spent = All-weaker (IsFresh z) IsSpent (λ v fresh. live_spent v fresh.live) vs starts.fresh;
    spare = All-weaker (IsFresh z) (IsSpare (memory z ws)) (λ v fresh. zero_spare v.to_give) vs starts.fresh;
    places = All-weaker (IsFresh z) KnowsPlaces (λ v fresh. fresh.places) vs starts.fresh;
    waits = All-weaker (IsFresh z) WaitsRight (λ v fresh. none_waiting v fresh.retired fresh.batch) vs starts.fresh;
    unused = All-weaker (IsFresh z) (UnusedRight (memory z ws)) (λ v fresh w is yet. zero_memory z (word_count z) w) vs starts.fresh;
  }

-- the table with the first view alone
first_fresh : (z : Layout) → IsFresh z (first_view z)
first_fresh z = record {
  layout = refl;
  live = refl;
  idle = record { reading = refl; held = refl; update = refl };
  seen = refl;
  told = refl;
  given = refl;
  found = refl;
  grace = refl;
  retired = refl;
  batch = refl;
  nexts = refl;
  section_word = refl;
  announced = refl;
  places = record { own = tt; given = tt; section = tt; opened = tt };
}

first_starts : (z : Layout) → StartsWith z (first_view z ∷ [])
first_starts z = record {
  fresh = All-cons (IsFresh z) (first_view z) [] (first_fresh z) (All-nil (IsFresh z));
  numbers = λ n. omega (arith, sum_by-cons (number_count n) (first_view z) [], count-from_up n 0 z.passes) ∙ between_number n z.passes;
  nodes = λ k. omega (arith, sum_by-cons (own nodes_of k) (first_view z) [], count-from_up k 1 z.nodes) ∙ between_slot k z.nodes;
  entries = λ e. omega (arith, sum_by-cons (own entries_in e) (first_view z) [], count-from_up e 1 z.entries) ∙ between_slot e z.entries;
  calls = omega (arith, sum_by-cons calls_left (first_view z) []);
  places = λ n x. omega (arith, sum_by-cons (place_count n x) (first_view z) []);
  locks = λ k. omega (arith, sum_by-cons (lock_count k) (first_view z) []);
  pending = λ e. omega (arith, sum_by-cons (pending_count e) (first_view z) []);
  owed = λ k side. omega (arith, sum_by-cons (owed_count k side) (first_view z) []);
  known = record { place = 0; view = first_view z; at = record { within = omega arith; is = λ d. refl }; all = refl };
}

-- it meets the rule
pub first_right : (z : Layout) → z.calls < no_number → IsRight (first_table z)
first_right z few = starts_right z (first_view z ∷ []) (first_starts z) few
