-- What the needs of loads and of an update's events say.
use Rattle.std.proofs.Common.{◌≡◌, ℕ, ◌+◌, ◌<◌, ◌≤◌, ◌⊎◌, cond, List, [], ◌∷◌, length, Bool, true, false, eqb, ◌&&◌, ◌||◌, not, is_none, arith, refl, ap, ◌∙◌, sym, subst, inl, inr, Option, Some, None, find}
use Rattle.std.specs.Prelude.{IfSome}
use Rattle.std.proofs.lemmas.Bool.{eqb-true, and_parts}
use Rattle.index_words.specs.declared.layout.Layout.{Layout}
use Rattle.index_words.specs.declared.side.Side.{Side}
use Rattle.index_words.specs.declared.side.Side.TheVariants.{Left, Right}
use Rattle.key_map.specs.declared.update.Update.{Update}
use Rattle.index_words.specs.declared.view.View.{View}
use Rattle.index_words.specs.declared.view.reading.Place.{Place}
use Rattle.index_words.specs.declared.view.reading.Place.TheVariants.{Entry as AtEntry}
use Rattle.index_words.specs.declared.view.reading.TreeNode.{TreeNode}
use Rattle.index_words.specs.declared.view.update.HeldNode.{HeldNode}
use Rattle.index_words.specs.declared.view.update.LoadedHead.{LoadedHead}
use Rattle.index_words.specs.declared.word.Field.TheVariants.{Mark, Head}
use Rattle.index_words.specs.declared.word.Part.TheVariants.{Stamp as Number, Next}
use Rattle.index_words.specs.declared.word.Word.{Word}
use Rattle.index_words.specs.declared.word.Word.TheVariants.{Node, Entry, Section, Announced}
use Rattle.index_words.specs.Words.{Memory}
use Rattle.key_map.specs.Lists.{count, has, Every, IsItem}
use Rattle.key_map.proofs.Counting.{has-count, count-append}
use Rattle.core_grace.specs.Batches.{is_number}
use Rattle.core_grace.specs.Holds.{HoldsNode, held_slots, listed, tree_slots, work_nodes}
use Rattle.core_invariant.specs.Locks.{HeadRight, SideRight, IsNodeAt, lock_count}
use Rattle.core_invariant.specs.Readers.{IsReachable, IsLocked}
use Rattle.core_events.specs.Announcing.{is_own_announced}
use Rattle.core_events.specs.Needs.{is_stamp, is_outside, is_own_section}
use Rattle.core_events.specs.LoadMoves.{is_above, locks}
use Rattle.core_events.specs.LoadNeeds.{reads_tree, is_reachable, stands_at, may_go_on}
use Rattle.core_events.specs.UpdateNeeds.{side_of, is_written, is_next_of, is_ready, held_at, may_prepare_head, may_prepare_entry, may_raise, may_raise_number, is_raise_of, is_slot_number}
use Rattle.core_invariant.specs.SeatRule.{SeatRight}
use Rattle.core_invariant.specs.Meanings.{Meaning}
use Rattle.core_invariant.proofs.Frames.{one_counted}
use Rattle.core_invariant.proofs.Locked.{locks-count}
use Rattle.core_grace.specs.Slots.{own}
use Rattle.core_invariant.specs.Rule.{Rule}
use Rattle.core_invariant.proofs.OneView.{seat_at}
use Rattle.core_grace.specs.Sections.{is_even}
use Rattle.core_invariant.specs.SectionRule.{IsIdle}
use Rattle.core_events.proofs.Tests.{either_true, not_true, none_of, number_of_is, positive}

tree_step : (node x : ℕ) (b c : Bool) (n : ℕ) → eqb x node ≡ b → (b || c) ≡ true → (c ≡ true → 0 < n) → 0 < cond (eqb x node) 1 0 + n
tree_step node x true c n is met rest = counted (eqb x node) is
  where
    counted : (d : Bool) → d ≡ true → 0 < cond d 1 0 + n
    counted true e = omega arith
    counted false e = cc
tree_step node x false c n is met rest = omega (arith, rest met)

pub tree-count : (node : ℕ) (ns : List TreeNode) → reads_tree node ns ≡ true → 0 < count node (tree_slots ns)
tree-count node [] is = cc
tree-count node (x ∷ ns) is = tree_step node x.slot (eqb x.slot node) (reads_tree node ns) (count node (tree_slots ns)) refl is (tree-count node ns)

-- a node that the needs find reachable
pub reach_is : (z : Layout) (v : View) (k : ℕ) → k ≤ z.nodes → is_reachable v k ≡ true → IsReachable z v k
reach_is z v k high is = (
  high,
  elim (either_true (eqb k 0 || reads_tree k v.reading.tree) (locks k v.held.nodes) is) as (λ _. (k ≡ 0) ⊎ HoldsNode v k) [
    | inr held ↦ inr (omega (arith, locks-count k v.held.nodes held, count-append k (held_slots v.held.nodes) (listed v.update.added), count-append k (tree_slots v.reading.tree) (work_nodes v)))
    | inl first ↦ elim (either_true (eqb k 0) (reads_tree k v.reading.tree) first) as (λ _. (k ≡ 0) ⊎ HoldsNode v k) [
      | inl root ↦ inl (eqb-true k 0 root)
      | inr tree ↦ inr (omega (arith, tree-count k v.reading.tree tree, count-append k (tree_slots v.reading.tree) (work_nodes v)))
    ]
  ],
)

-- where a seat stands
pub record Standing (v : View) (e : ℕ) : Type 0 where
  pub node : ℕ
  pub side : Side
  pub found : Option ℕ
  pub here : v.reading.place ≡ AtEntry node side e found

standing_by : (v : View) (e : ℕ) (p : Place) → v.reading.place ≡ p → stands_at p e ≡ true → Standing v e
standing_by v e (AtEntry n s d f) is at =
    let same : d ≡ e = eqb-true d e at in
    record { node = n; side = s; found = f; here = is ∙ ap (λ x. AtEntry n s x f) same }
standing_by v e _ is at = cc

pub standing : (v : View) (e : ℕ) → stands_at v.reading.place e ≡ true → Standing v e
standing v e at = standing_by v e v.reading.place refl at

pub going_on : (v : View) (e node : ℕ) (side : Side) (found : Option ℕ) → v.reading.place ≡ AtEntry node side e found → may_go_on v v.reading.place e ≡ true
    → IsLocked v node ⊎ (is_above v e found ≡ true)
going_on v e node side found here may =
    elim (either_true (locks node v.held.nodes) (is_above v e found) (subst (λ (p : Place). may_go_on v p e ≡ true) here may)) as (λ _. IsLocked v node ⊎ (is_above v e found ≡ true)) [
      | inl locked ↦ inl (locks-count node v.held.nodes locked)
      | inr above ↦ inr above
    ]

-- the own section word by name
pub record OwnSection (number : Option ℕ) (w : Word) : Type 0 where
  pub n : ℕ
  pub named : number ≡ Some n
  pub word : w ≡ Section n

pub own_section : (number : Option ℕ) (w : Word) → is_own_section number w ≡ true → OwnSection number w
own_section (Some n) (Section pass) e = let same : pass ≡ n = eqb-true pass n e in record { n = n; named = refl; word = ap Section same }
own_section _ _ e = cc

-- the own announcement by name
pub record OwnAnnounced (number : Option ℕ) (w : Word) : Type 0 where
  pub n : ℕ
  pub named : number ≡ Some n
  pub word : w ≡ Announced n

pub own_announced : (number : Option ℕ) (w : Word) → is_own_announced number w ≡ true → OwnAnnounced number w
own_announced (Some n) (Announced pass) e = let same : pass ≡ n = eqb-true pass n e in record { n = n; named = refl; word = ap Announced same }
own_announced _ _ e = cc

pub length_empty : {X : Type 0} (xs : List X) → eqb (length xs) 0 ≡ true → xs ≡ []
length_empty [] e = refl
length_empty (x ∷ xs) e = let none : length (x ∷ xs) ≡ 0 = eqb-true (length (x ∷ xs)) 0 e in absurd (omega arith)

module _ (z : Layout) (m : Memory) (vs : List View) (g : Meaning) where
  -- a seat that is outside a section has nothing under way
  pub outside_idle : (i : ℕ) (v : View) → IsItem vs i v → Rule z m vs g → is_outside v ≡ true → IsIdle v
  outside_idle i v at rule out =
      let section = (seat_at z m vs g i v at rule).section in
      let parts = and_parts (is_even v.section_word) (eqb (length v.held.nodes) 0) out in
      let none = length_empty v.held.nodes parts.1 in
      record { reading = section.outside parts.0; held = none; update = section.done none }

-- what a prepare needs: the node is locked and was found unmarked, the entry is free, has no number, and has the old
-- head as its next, which is 0 or has a written number
pub record Ready (m : Memory) (v : View) (side : Side) (k e : ℕ) : Type 0 where
  pub raised : v.update.raised ≡ None
  pub locked : 0 < lock_count k v
  pub unmarked : m (Node Mark k) ≡ 0
  pub free : 0 < count e v.free.entries
  pub unnumbered : m (Entry Number e) ≡ 0
  pub next : m (Entry Next e) ≡ m (Node (Head side) k)
  pub old : (m (Node (Head side) k) ≡ 0) ⊎ (0 < m (Entry Number (m (Node (Head side) k))))

-- what a raise needs, in its part on numbers
pub record CanRaise (v : View) (u : Update) : Type 0 where
  pub raised : v.update.raised ≡ None
  pub left : 0 < v.history.left
  pub number : v.number ≡ Some u.client
  pub entry : ℕ
  pub some : 0 < count entry v.update.pending

-- a locked node that was found in the list of those that are held
pub record FoundHeld (P : HeldNode → Type 0) (hs : List HeldNode) (k : ℕ) (h : HeldNode) : Type 0 where
  pub same : h.node ≡ k
  pub known : P h
  pub locked : 0 < count k (held_slots hs)

found_by : (P : HeldNode → Type 0) (k : ℕ) (h x : HeldNode) (hs : List HeldNode) (b : Bool) → eqb x.node k ≡ b → P x → cond b (Some x) (find (λ (y : HeldNode). eqb y.node k) hs) ≡ Some h
    → (find (λ (y : HeldNode). eqb y.node k) hs ≡ Some h → FoundHeld P hs k h) → FoundHeld P (x ∷ hs) k h
found_by P k h x hs true is here found later =
    let one : x ≡ h = cc in
    let at : x.node ≡ k = eqb-true x.node k is in
    record { same = ap (λ (y : HeldNode). y.node) (sym one) ∙ at; known = subst P one here; locked = subst (λ n. 0 < cond (eqb x.node n) 1 0 + count n (held_slots hs)) at (one_counted x.node (count x.node (held_slots hs))) }
found_by P k h x hs false is here found later =
    let rest = later found in
    record { same = rest.same; known = rest.known; locked = omega (arith, rest.locked) }

pub found_held : (P : HeldNode → Type 0) (k : ℕ) (h : HeldNode) (hs : List HeldNode) → Every P hs → find (λ (y : HeldNode). eqb y.node k) hs ≡ Some h → FoundHeld P hs k h
found_held P k h [] all found = cc
found_held P k h (x ∷ hs) all found = found_by P k h x hs (eqb x.node k) refl all.0 found (found_held P k h hs all.1)

-- a head that was loaded, with its stamp
record HeadReady (m : Memory) (head e : ℕ) : Type 0 where
  next : m (Entry Next e) ≡ head
  old : (head ≡ 0) ⊎ (0 < m (Entry Number head))

head_ready : (m : Memory) (head e : ℕ) (o : Option LoadedHead) → IfSome o (HeadRight head (λ d. m (Entry Number d))) → is_next_of m e o ≡ true → HeadReady m head e
head_ready m head e None right is = cc
head_ready m head e (Some l) right is =
    let parts = and_parts (eqb l.entry 0 || is_written l.stamp) (eqb (m (Entry Next e)) l.entry) is in
    record {
      next = eqb-true (m (Entry Next e)) l.entry parts.1 ∙ sym right.0;
      old = elim (either_true (eqb l.entry 0) (is_written l.stamp) parts.0) as (λ _. (head ≡ 0) ⊎ (0 < m (Entry Number head))) [
        | inl none ↦ inl (right.0 ∙ eqb-true l.entry 0 none)
        | inr some ↦ inr (written_by l.stamp right.1 some)
      ];
    }
  where
    written_by : (f : Option ℕ) → IfSome f (λ x. 0 < x → m (Entry Number l.entry) ≡ x) → is_written f ≡ true → 0 < m (Entry Number head)
    written_by None known some = cc
    written_by (Some x) known some =
        let low : 0 < x = positive x (not_true (eqb x 0) some) in
        subst (λ n. 0 < m (Entry Number n)) (sym right.0) (omega (arith, known low, low))

record NodeReady (m : Memory) (side : Side) (k e : ℕ) (hs : List HeldNode) : Type 0 where
  locked : 0 < count k (held_slots hs)
  unmarked : m (Node Mark k) ≡ 0
  head : HeadReady m (m (Node (Head side) k)) e

side_right : (m : Memory) (side : Side) (h : HeldNode) → IsNodeAt m h
    → SideRight (m (Node (Head side) h.node)) (λ d. m (Entry Number d)) (side_of side h)
side_right m Left h right = right.left
side_right m Right h right = right.right

node_ready : (m : Memory) (side : Side) (k e : ℕ) (hs : List HeldNode) (o : Option HeldNode) → find (λ (y : HeldNode). eqb y.node k) hs ≡ o
    → Every (IsNodeAt m) hs → is_ready m side e o ≡ true → NodeReady m side k e hs
node_ready m side k e hs None found all is = cc
node_ready m side k e hs (Some h) found all is =
    let held = found_held (IsNodeAt m) k h hs all found in
    let parts = and_parts (is_number 0 h.mark) (is_next_of m e (side_of side h).head) is in
    record {
      locked = held.locked;
      unmarked = ap (λ n. m (Node Mark n)) (sym held.same) ∙ subst (λ (f : Option ℕ). IfSome f (λ x. m (Node Mark h.node) ≡ x)) (number_of_is 0 h.mark parts.0) held.known.mark;
      head = subst (λ n. HeadReady m (m (Node (Head side) n)) e) held.same (head_ready m (m (Node (Head side) h.node)) e (side_of side h).head (side_right m side h held.known).head parts.1);
    }

-- what a prepare needs
pub ready_is : (z : Layout) (m : Memory) (g : Meaning) (v : View) (side : Side) (k e : ℕ) → SeatRight z m g v → may_prepare_head m v (Head side) k e ≡ true → Ready m v side k e
ready_is z m g v side k e seat is =
    let a = is_none v.update.raised in
    let b = is_ready m side e (held_at k v.held.nodes) in
    let c = has e v.free.entries in
    let whole = and_parts (is_slot_number e) (may_prepare_entry m v side k e) is in
    let one = and_parts (a && b && c) (eqb (m (Entry Number e)) 0) whole.1 in
    let two = and_parts (a && b) c one.0 in
    let three = and_parts a b two.0 in
    let node = node_ready m side k e v.held.nodes (held_at k v.held.nodes) refl seat.loaded.nodes three.1 in
    record {
      raised = none_of v.update.raised three.0;
      locked = node.locked;
      unmarked = node.unmarked;
      free = has-count e v.free.entries two.1;
      unnumbered = eqb-true (m (Entry Number e)) 0 one.1;
      next = node.head.next;
      old = node.head.old;
    }

first_pending : (xs : List ℕ) → eqb (length xs) 0 ≡ false → (e : ℕ) × (0 < count e xs)
first_pending [] some = cc
first_pending (x ∷ xs) some = (x, one_counted x (count x xs))

-- what a raise needs
pub can_raise : (v : View) (w : Word) (value : ℕ) (u : Update) → may_raise_number v w value ≡ true → is_number u.client v.number ≡ true → CanRaise v u
can_raise v w value u is own =
    let c = is_none v.update.raised in
    let d = not (eqb v.history.left 0) in
    let f = not (eqb (length v.update.pending) 0) in
    let one = and_parts (is_stamp w && eqb value 0 && c && d) f is in
    let two = and_parts (is_stamp w && eqb value 0 && c) d one.0 in
    let three = and_parts (is_stamp w && eqb value 0) c two.0 in
    let first = first_pending v.update.pending (not_true (eqb (length v.update.pending) 0) one.1) in
    record {
      raised = none_of v.update.raised three.1;
      left = positive v.history.left (not_true (eqb v.history.left 0) two.1);
      number = number_of_is u.client v.number own;
      entry = first.0;
      some = first.1;
    }

-- a raise is at the stamp
pub raise_needed : (z : Layout) (m : Memory) (vs : List View) (v : View) (w : Word) (value : ℕ) (o : Option Update) → may_raise z m vs v w value o ≡ true
    → is_stamp w ≡ true
raise_needed z m vs v w value o met =
    let a = is_stamp w in
    let one = and_parts (a && eqb value 0 && is_none v.update.raised && not (eqb v.history.left 0)) (not (eqb (length v.update.pending) 0))
    (and_parts (may_raise_number v w value) (is_raise_of z m vs v o) met).0 in
    let two = and_parts (a && eqb value 0 && is_none v.update.raised) (not (eqb v.history.left 0)) one.0 in
    (and_parts a (eqb value 0) (and_parts (a && eqb value 0) (is_none v.update.raised) two.0).0).0
