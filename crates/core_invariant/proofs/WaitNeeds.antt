-- A view that waits holds nothing of a batch; and what the needs of a leave, a look at a section and a set link say.
use Rattle.std.proofs.Common.{◌≡◌, ℕ, ◌+◌, ◌<◌, ◌≤◌, ◌⊎◌, cond, List, [], ◌∷◌, ◌++◌, Bool, true, false, eqb, arith, refl, ap, sym, subst, inl, inr, Option}
use Rattle.std.proofs.Common.{Some, None, length, ◌&&◌, ◌||◌, not, ◌∙◌, is_some}
use Rattle.std.specs.Prelude.{IfSome}
use Rattle.std.specs.List.{sum_by, list_all}
use Rattle.std.proofs.lemmas.Bool.{cases_lt, eqb-true, and_parts}
use Rattle.std.proofs.lemmas.Bool.Decides.{eqb_tells}
use Rattle.index_words.specs.declared.layout.Layout.{Layout}
use Rattle.index_words.specs.declared.view.View.{View}
use Rattle.index_words.specs.declared.view.reading.Reading.{Reading}
use Rattle.index_words.specs.declared.view.slots.Slots.{Slots}
use Rattle.index_words.specs.declared.view.update.HeldNode.{HeldNode}
use Rattle.index_words.specs.declared.word.Field.TheVariants.{Mark, Link}
use Rattle.index_words.specs.declared.word.Word.TheVariants.{Node}
use Rattle.index_words.specs.Words.{Memory}
use Rattle.index_words.specs.Views.{no_reading}
use Rattle.index_words.proofs.Seats.{one_term, two_terms, at_item}
use Rattle.index_words.specs.declared.side.Side.{Side}
use Rattle.index_words.specs.declared.view.update.Unlinking.{Unlinking}
use Rattle.index_words.specs.declared.view.update.Updating.{Updating}
use Rattle.index_words.specs.declared.word.Word.{Word}
use Rattle.key_map.specs.Lists.{count, Every, IsItem, has}
use Rattle.key_map.proofs.Counting.{count-append, has-count}
use Rattle.core_grace.specs.Sections.{is_even, left_word}
use Rattle.core_grace.specs.Holds.{HoldsNode, HoldsEntry, ReadsAt, entries_of, held_slots, tree_slots, work_nodes}
use Rattle.core_grace.specs.Slots.{nodes_of, entries_in, own, HoldsNone, KeepsEntries}
use Rattle.core_grace.specs.Batches.{is_empty, is_number}
use Rattle.core_events.specs.Versions.{slots_of}
use Rattle.core_events.specs.LoadMoves.{locks}
use Rattle.core_events.specs.Needs.{is_marked_node, is_marked_out, is_own_section, is_successor, nothing_pending}
use Rattle.core_events.specs.PlainNeeds.{is_done_at, keeps_order, may_set_field, may_unlink_at, sets_others, sets_to}
use Rattle.core_events.specs.Waits.{keeps_lock, is_waiting_for, is_waiting, has_no_lock, has_to_look, may_leave, may_look_at}
use Rattle.core_events.proofs.Tests.{never, not_true, either_true, number_of_is}
use Rattle.core_invariant.specs.Meanings.{Meaning}
use Rattle.core_invariant.specs.Locks.{lock_count, IsNodeAt}
use Rattle.core_invariant.specs.SectionRule.{IsKeptLock}
use Rattle.core_invariant.specs.Rule.{Rule}
use Rattle.core_invariant.proofs.Frames.{same_item}
use Rattle.core_invariant.proofs.Idle.{idle_none, outside_cases}
use Rattle.core_invariant.proofs.Locked.{still_linked, locks-count}
use Rattle.core_invariant.proofs.OneView.{seat_at}
use Rattle.core_invariant.proofs.Owned.{in_entries, linked-at, once_node, once_entry}
use Rattle.core_invariant.proofs.Needed.{OwnSection, own_section, length_empty}
use Rattle.core_invariant.proofs.TreeSteps.{tested_at}

locked_step : (P : HeldNode → Type 0) (Q : ℕ → Type 0) (k : ℕ) (h : HeldNode) (b : Bool) (n : ℕ) → eqb h.node k ≡ b → Q h.node → (0 < n → Q k) → 0 < cond b 1 0 + n → Q k
locked_step P Q k h true n is here rest some = subst Q (eqb-true h.node k is) here
locked_step P Q k h false n is here rest some = rest (omega (arith, some))

-- a locked node, among those of which something is known
locked_one : (P : HeldNode → Type 0) (Q : ℕ → Type 0) → ((h : HeldNode) → P h → Q h.node) → (k : ℕ) (hs : List HeldNode) → Every P hs → 0 < count k (held_slots hs) → Q k
locked_one P Q step k [] all some = absurd (omega (arith, some))
locked_one P Q step k (h ∷ hs) all some =
    locked_step P Q k h (eqb h.node k) (count k (held_slots hs)) refl (step h all.0) (locked_one P Q step k hs all.1) some

every_both : {X : Type 0} (P Q : X → Type 0) (xs : List X) → Every P xs → Every Q xs → Every (λ x. P x × Q x) xs
every_both P Q [] ps qs = tt
every_both P Q (x ∷ xs) ps qs = ((ps.0, qs.0), every_both P Q xs ps.1 qs.1)

known_mark : (m : Memory) (h : HeldNode) → h.mark ≡ Some 0 → IsNodeAt m h → m (Node Mark h.node) ≡ 0
known_mark m h is right = subst (λ (o : Option ℕ). IfSome o (λ x. m (Node Mark h.node) ≡ x)) is right.mark

module _ (z : Layout) (m : Memory) (vs : List View) (g : Meaning) (rule : Rule z m vs g) (i : ℕ) (v : View) (at : IsItem vs i v) where
  -- a slot that one view has retired is in no batch
  retired_alone : (pick : Slots → List ℕ) (k j : ℕ) (u : View) → IsItem vs j u → sum_by (own pick k) vs ≤ 1 → 0 < count k (pick v.retired) → 0 < count k (pick u.batch) → ⊥
  retired_alone pick k j u of once retired batch =
      elim (eqb_tells j i) as (λ _. ⊥) [
        | inl same ↦ omega (arith, once, one_term (own pick k) vs i v at, retired, subst (λ (x : View). 0 < count k (pick x.batch)) (sym (same_item vs i j v u at of same.1)) batch)
        | inr other ↦ omega (arith, once, two_terms (own pick k) vs i v u at (record { place = j; at = of; other = other.1 }), retired, batch)
      ]

  -- a locked node that the update took out, or that is unmarked, is in no batch, and no entry of its bundles is
  module _ (k j : ℕ) (u : View) (of : IsItem vs j u) (locked : 0 < lock_count k v) where
    taken_node : 0 < count k v.update.taken → 0 < count k u.batch.nodes → ⊥
    taken_node taken batch =
        retired_alone nodes_of k j u of (omega (arith, once_node z vs g rule.slots k)) ((seat_at z m vs g i v at rule).marks.taken k taken) batch

    taken_entry : (e : ℕ) → 0 < count k v.update.taken → 0 < count e (entries_of g.bundles k) → 0 < count e u.batch.entries → ⊥
    taken_entry e taken here batch =
        let keeps = at_item (λ (x : View). KeepsEntries (entries_of g.bundles) x.retired × KeepsEntries (entries_of g.bundles) x.batch) vs i v at rule.slots.retired in
        retired_alone entries_in e j u of (omega (arith, once_entry z vs g rule.slots e)) (keeps.0 k e ((seat_at z m vs g i v at rule).marks.taken k taken) here) batch

    unmarked_node : m (Node Mark k) ≡ 0 → 0 < count k u.batch.nodes → ⊥
    unmarked_node unmarked batch = omega (arith, unmarked, (seat_at z m vs g j u of rule).marks.batch k batch)

    unmarked_entry : (e : ℕ) → m (Node Mark k) ≡ 0 → 0 < count e (entries_of g.bundles k) → 0 < count e u.batch.entries → ⊥
    unmarked_entry e unmarked here batch =
        elim (cases_lt 0 (count k v.update.taken)) as (λ _. ⊥) [
          | inl taken ↦ taken_entry e taken here batch
          | inr out ↦
              let linked = still_linked z m vs g rule i k v at locked (omega (arith, out)) unmarked in
              omega (arith, once_entry z vs g rule.slots e, one_term (own entries_in e) vs j u of, batch, linked-at g.bundles k e (0 ∷ slots_of g.tree) (omega (arith, linked)), here)
        ]

  abbrev Kept : ℕ → Type 0
  Kept k = (0 < count k v.update.taken) ⊎ (m (Node Mark k) ≡ 0)

  kept_at : Every (IsKeptLock v.update.taken) v.held.nodes → (k : ℕ) → 0 < lock_count k v → Kept k
  kept_at kept k locked =
      locked_one (λ (h : HeldNode). IsKeptLock v.update.taken h × IsNodeAt m h) Kept
      (λ h is. elim is.0 as (λ _. Kept h.node) [ inl taken ↦ inl taken | inr known ↦ inr (known_mark m h known is.1) ]) k v.held.nodes
      (every_both (IsKeptLock v.update.taken) (IsNodeAt m) v.held.nodes kept (seat_at z m vs g i v at rule).loaded.nodes) locked

  -- a view that has read nothing and works at such nodes alone holds nothing of a batch
  pub waiting_none : (j : ℕ) (u w : View) → IsItem vs j u → w.reading ≡ no_reading → w.held.nodes ≡ v.held.nodes → w.update.added ≡ None
      → Every (IsKeptLock v.update.taken) v.held.nodes → HoldsNone HoldsNode (HoldsEntry g.bundles) u.batch w
  waiting_none j u w of idle same bare kept = record {
    nodes = λ k some holds.
        let locked = locked_of k holds in
        elim (kept_at kept k locked) as (λ _. ⊥) [
          | inl taken ↦ taken_node k j u of locked taken some
          | inr unmarked ↦ unmarked_node k j u of locked unmarked some
        ];
    entries = λ e some holds. entry_of e some holds;
  }
    where
      works : work_nodes w ≡ held_slots v.held.nodes ++ []
      works = rw same (rw bare refl)

      work_of : (k : ℕ) → 0 < count k (work_nodes w) → 0 < lock_count k v
      work_of k some = omega (arith, some, ap (count k) works, count-append k (held_slots v.held.nodes) [])

      locked_of : (k : ℕ) → HoldsNode w k → 0 < lock_count k v
      locked_of k holds =
          work_of k (omega (arith, holds, count-append k (tree_slots w.reading.tree) (work_nodes w), ap (λ (r : Reading). count k (tree_slots r.tree)) idle))

      entry_of : (e : ℕ) → 0 < count e u.batch.entries → HoldsEntry g.bundles w e → ⊥
      entry_of e some (inl reads) = let none : ReadsAt g.bundles None (tree_slots w.reading.tree) e = subst (λ (r : Reading). ReadsAt g.bundles r.section (tree_slots w.reading.tree) e) idle reads in none
      entry_of e some (inr stands) =
          let locked = work_of stands.node stands.of in
          let here = in_entries g.bundles stands.node e stands.side stands.here in
          elim (kept_at kept stands.node locked) as (λ _. ⊥) [
            | inl taken ↦ taken_entry stands.node j u of locked e taken here some
            | inr unmarked ↦ unmarked_entry stands.node j u of locked e unmarked here some
          ]

  -- so a pass outside a section holds nothing of a batch
  pub outside_none : (j : ℕ) (u : View) → IsItem vs j u → is_even v.section_word ≡ true → HoldsNone HoldsNode (HoldsEntry g.bundles) u.batch v
  outside_none j u of even =
      let section = (seat_at z m vs g i v at rule).section in
      elim (outside_cases _ _ v section even) as (λ _. HoldsNone HoldsNode (HoldsEntry g.bundles) u.batch v) [
        | inl idle ↦ idle_none g.bundles u.batch v idle
        | inr waits ↦ waiting_none j u v of (section.outside even) refl waits.bare waits.kept
      ]

-- What the needs of a leave, of a look at a section and of a set link say.

-- the locks that are kept over the wait
lock_kept : (taken : List ℕ) (u : Unlinking) (h : HeldNode) → keeps_lock taken u h ≡ true → IsKeptLock taken h
lock_kept taken u h is =
    elim (either_true (eqb h.node u.successor && has h.node taken) (eqb h.node u.parent && is_number 0 h.mark) is) as (λ _. IsKeptLock taken h) [
      | inl out ↦ inl (has-count h.node taken (and_parts (eqb h.node u.successor) (has h.node taken) out).1)
      | inr known ↦ inr (number_of_is 0 h.mark (and_parts (eqb h.node u.parent) (is_number 0 h.mark) known).1)
    ]

locks_kept : (taken : List ℕ) (u : Unlinking) (hs : List HeldNode) → list_all (keeps_lock taken u) hs ≡ true → Every (IsKeptLock taken) hs
locks_kept taken u [] all = tt
locks_kept taken u (h ∷ hs) all =
    let parts = and_parts (keeps_lock taken u h) (list_all (keeps_lock taken u) hs) all in
    (lock_kept taken u h parts.0, locks_kept taken u hs parts.1)

-- an update at the wait has raised, and each lock that it holds is one of these
pub record AtWait (u : Updating) (hs : List HeldNode) : Type 0 where
  pub raised : is_some u.raised ≡ true
  pub kept : Every (IsKeptLock u.taken) hs

waiting_by : (u : Updating) (hs : List HeldNode) (o : Option Unlinking) → is_waiting_for u hs o ≡ true → AtWait u hs
waiting_by u hs None is = absurd (never is)
waiting_by u hs (Some x) is =
    let one = and_parts (is_some u.raised && not (sets_others x.parent x.side u.unset)) (list_all (keeps_lock u.taken x) hs) is in
    record { raised = (and_parts (is_some u.raised) (not (sets_others x.parent x.side u.unset)) one.0).0; kept = locks_kept u.taken x hs one.1 }

pub waiting_is : (v : View) → is_waiting v ≡ true → AtWait v.update v.held.nodes
waiting_is v is = waiting_by v.update v.held.nodes v.update.unlinking is

-- no lock held, or at the wait
abbrev pub NoLockOrWait : View → Type 0
NoLockOrWait v = (v.held.nodes ≡ []) ⊎ (is_waiting v ≡ true)

pub record CanLeave (m : Memory) (v : View) (w : Word) (value : ℕ) : Type 0 where
  pub own : OwnSection v.number w
  pub inside : is_even v.section_word ≡ false
  pub may : NoLockOrWait v
  pub nothing : nothing_pending m v ≡ true
  pub value_is : value ≡ left_word v.section_word

pub can_leave : (m : Memory) (v : View) (w : Word) (value : ℕ) → may_leave m v w value ≡ true → CanLeave m v w value
can_leave m v w value met =
    let a = is_own_section v.number w in
    let b = not (is_even v.section_word) in
    let c = has_no_lock v || is_waiting v in
    let d = nothing_pending m v in
    let one = and_parts (a && b && c && d) (eqb value (left_word v.section_word)) met in
    let two = and_parts (a && b && c) d one.0 in
    let three = and_parts (a && b) c two.0 in
    let four = and_parts a b three.0 in
    record {
      own = own_section v.number w four.0;
      inside = not_true (is_even v.section_word) four.1;
      may = elim (either_true (has_no_lock v) (is_waiting v) three.1) as (λ _. NoLockOrWait v) [
        | inl none ↦ inl (length_empty v.held.nodes none)
        | inr waits ↦ inr waits
      ];
      nothing = two.1;
      value_is = eqb-true value (left_word v.section_word) one.1;
    }

-- a look is one for slots, with no lock held, or one at the wait
abbrev pub LooksFor : View → Type 0
LooksFor v = (has_no_lock v ≡ true) ⊎ ((has_no_lock v ≡ false) × (is_waiting v ≡ true))

look_for : (v : View) (b c d : Bool) → has_no_lock v ≡ b → is_waiting v ≡ d → cond b c d ≡ true → LooksFor v
look_for v true c d is waits met = inl is
look_for v false c d is waits met = inr (is, waits ∙ met)

pub record CanLook (v : View) (pass : ℕ) : Type 0 where
  pub other : is_number pass v.number ≡ false
  pub even : is_even v.section_word ≡ true
  pub looks : LooksFor v

pub can_look : (v : View) (pass value : ℕ) → may_look_at v pass value ≡ true → CanLook v pass
can_look v pass value met =
    let a = not (is_number pass v.number) in
    let one = and_parts (a && is_even v.section_word && has_to_look v) (eqb value 0) met in
    let two = and_parts (a && is_even v.section_word) (has_to_look v) one.0 in
    let three = and_parts a (is_even v.section_word) two.0 in
    record {
      other = not_true (is_number pass v.number) three.0;
      even = three.1;
      looks = look_for v (has_no_lock v) (not (is_empty v.batch && is_empty v.retired)) (is_waiting v) refl refl two.1;
    }

pub record CanSet (z : Layout) (m : Memory) (v : View) (k : ℕ) (side : Side) (child : ℕ) : Type 0 where
  pub locked : 0 < lock_count k v
  pub nothing : nothing_pending m v ≡ true
  pub sets : sets_to k side child v.update.unset ≡ true
  pub order : keeps_order k side v.update ≡ true
  pub unlinks : may_unlink_at z m v k side ≡ true

pub can_set : (z : Layout) (m : Memory) (v : View) (k : ℕ) (side : Side) (child : ℕ) → may_set_field z m v (Link side) k child ≡ true → CanSet z m v k side child
can_set z m v k side child met =
    let a = locks k v.held.nodes in
    let b = nothing_pending m v in
    let c = sets_to k side child v.update.unset in
    let d = keeps_order k side v.update in
    let one = and_parts (a && b && c && d) (may_unlink_at z m v k side) met in
    let two = and_parts (a && b && c) d one.0 in
    let three = and_parts (a && b) c two.0 in
    let four = and_parts a b three.0 in
    record { locked = locks-count k v.held.nodes four.0; nothing = four.1; sets = three.1; order = two.1; unlinks = one.1 }

-- if nothing is pending there is no pending entry, and each node that the update took out is marked, or is the
-- successor
pub record NothingPending (m : Memory) (u : Updating) : Type 0 where
  pub pending : u.pending ≡ []
  pub marked : (k : ℕ) → 0 < count k u.taken → (m (Node Mark k) ≡ 1) ⊎ (is_successor k u.unlinking ≡ true)

pub nothing_is : (m : Memory) (v : View) → nothing_pending m v ≡ true → NothingPending m v.update
nothing_is m v is =
    let parts = and_parts (eqb (length v.update.pending) 0) (list_all (is_marked_out m v.update) v.update.taken) is in
    record {
      pending = length_empty v.update.pending parts.0;
      marked = λ k some.
          elim (either_true (is_marked_node m k) (is_successor k v.update.unlinking) (tested_at (is_marked_out m v.update) v.update.taken k parts.1 some))
          as (λ _. (m (Node Mark k) ≡ 1) ⊎ (is_successor k v.update.unlinking ≡ true)) [
            | inl marked ↦ inl (eqb-true (m (Node Mark k)) 1 marked)
            | inr successor ↦ inr successor
          ];
    }

-- the node of the event is no successor that is still to be unlinked
pub unlinked_is : (k : ℕ) (u : Updating) → is_done_at k u ≡ true → is_successor k u.unlinking ≡ false
unlinked_is k u done = not_true (is_successor k u.unlinking) (last_true _ (not (is_successor k u.unlinking)) done)
  where
    last_true : (a b : Bool) → (a && b) ≡ true → b ≡ true
    last_true a b both = (and_parts a b both).1
