-- The entries that a plan puts in front, what is filled of each, and the raise of the plan.
use Rattle.std.proofs.Common.{◌≡◌, ℕ, zero, suc, ◌+◌, ◌<◌, ◌≤◌, List, [], ◌∷◌, ◌++◌, take, Bool, true, false, cond, refl, ap, sym, ◌∙◌, subst, arith, eqb}
use Rattle.std.proofs.Common.{Option, Some, None}
use Rattle.std.specs.Prelude.{◌==◌, IfSome, is_some}
use Rattle.std.specs.List.{slice_get}
use Rattle.std.proofs.lemmas.Bool.Decides.{nat_tests}
use Rattle.std.proofs.lemmas.Bool.{ne_eqb}
use Rattle.index_words.specs.declared.view.View.{View}
use Rattle.index_words.specs.declared.view.reading.Filled.{Filled}
use Rattle.index_words.specs.declared.side.Side.{Side}
use Rattle.index_words.specs.declared.side.Side.TheVariants.{Left, Right}
use Rattle.index_words.specs.declared.word.Field.TheVariants.{Head}
use Rattle.index_words.specs.declared.word.Word.TheVariants.{Node}
use Rattle.key_map.specs.Lists.{count, Every}
use Rattle.core_trees.specs.declared.link.Link.{Link}
use Rattle.core_events.specs.Tables.{Table, held_by}
use Rattle.core_events.specs.TreeMoves.{new_entries}
use Rattle.core_events.specs.UpdateMoves.{listed_entry}
use Rattle.core_invariant.specs.Rule.{IsRight}
use Rattle.core_invariant.proofs.OneView.{item_from_get}
use Rattle.core_laws.proofs.Laws.{filled_known}
use Rattle.core_laws.proofs.TreeGaps.{every_front, every_back}
use Rattle.core_updates.specs.declared.plan.Plan.{Plan}
use Rattle.core_updates.specs.declared.plan.Plan.TheVariants.{Grow, Replace, Lift, Join}
use Rattle.core_updates.specs.declared.plan.PlanSlots.{PlanSlots}
use Rattle.core_updates.specs.declared.plan.Front.{Front}
use Rattle.core_updates.specs.declared.plan.NewNode.{NewNode}
use Rattle.core_updates.specs.declared.plan.Heads.{Heads}
use Rattle.core_updates.specs.PlanEvents.{HoldsNumbered}
use Rattle.core_updates.specs.PlanReady.{HoldsFill, HoldsFreshEntry, HoldsNewNode, HoldsLook, PlanMayRaiseLaw}
use Rattle.core_updates.specs.Plans.{front_of, fronts_of, link_at, new_node_of, next_front_of, next_link_of, or_none, entries_of, entry_fills, node_fills}
use Rattle.core_updates.specs.Plans.{fresh_to, LinkLook, fresh_entries, fresh_listed, head_of, looks_of, slot_of}
use Rattle.core_updates.specs.Held.{HoldsLink}
use Rattle.plan_laws.specs.Places.{LocksOnce}
use Rattle.plan_laws.specs.Fills.{HasHeads, fresh_fills, new_fills, new_fills_of, front_fills, next_fills, fills_of, AreApart}
use Rattle.plan_laws.specs.Fronts.{behind_of}
use Rattle.plan_laws.proofs.Items.{take-got}
use Rattle.plan_laws.specs.Looks.{IsUnmarked}
use Rattle.plan_laws.specs.Raises.{raised_at, update_by, RaiseStepLaw}
use Rattle.plan_laws.proofs.Kept.{found-at}

-- the entry of the front at a place
abbrev pub entry_at : PlanSlots → ℕ → ℕ
entry_at slots zero = slots.at
entry_at slots (suc place) = slots.next

-- there are at most two fronts
pub record FrontIs (slots : PlanSlots) (place : ℕ) (f : Front) : Type 0 where
  pub entry : f.entry ≡ entry_at slots place
  pub few : place < 2

entry_is : (a b : Front) → Some a ≡ Some b → b.entry ≡ a.entry
entry_is a b e = let same : a ≡ b = cc in ap (λ (f : Front). f.entry) (sym same)

pub front_is : (plan : Plan) (slots : PlanSlots) (place : ℕ) (f : Front) → slice_get (fronts_of plan slots) place ≡ Some f → FrontIs slots place f
front_is (Grow p) slots zero f is = record { entry = entry_is (record { at = p.at; entry = slots.at; child = slots.node }) f is; few = omega arith }
front_is (Replace p) slots zero f is = record { entry = entry_is (record { at = p.at; entry = slots.at; child = slots.node }) f is; few = omega arith }
front_is (Lift p) slots zero f is = record { entry = entry_is (record { at = p.at; entry = slots.at; child = p.child }) f is; few = omega arith }
front_is (Join p) slots zero f is = record { entry = entry_is (record { at = p.at; entry = slots.at; child = slots.node }) f is; few = omega arith }
front_is (Join p) slots (suc place) f is = by (p.next.at.node == p.node) place is
  where
    by : (near : Bool) (place : ℕ) → slice_get (or_none (cond near None
        (Some (record { at = p.next.at; entry = slots.next; child = p.next.right })))) place ≡ Some f
        → FrontIs slots (suc place) f
    by true place e = cc
    by false zero e = record { entry = entry_is (record { at = p.next.at; entry = slots.next; child = p.next.right }) f e; few = omega arith }
    by false (suc n) e = cc
front_is _ slots _ f is = cc

-- what stands first in a list does not stand later in it
head-apart : (x y : ℕ) (xs : List ℕ) → count y (x ∷ xs) ≤ 1 → 0 < count y xs → ¬ (x ≡ y)
head-apart x y xs once some same = omega (arith, once, some, twice x y (count y xs) same)
  where
    twice : (a b n : ℕ) → a ≡ b → cond (eqb a b) 1 0 + n ≡ 1 + n
    twice a b n e = grind (arith, nat_tests)

-- the bundles of two fronts are those of different nodes
pub fronts_apart : (plan : Plan) (slots : PlanSlots) (f g : Front) → LocksOnce plan → slice_get (fronts_of plan slots) 0 ≡ Some f
    → slice_get (fronts_of plan slots) 1 ≡ Some g
    → ¬ (f.at.node ≡ g.at.node)
fronts_apart (Join p) slots f g once first second = by (p.next.at.node == p.node) once second
  where
    node_of : (a b : Front) → Some a ≡ Some b → b.at.node ≡ a.at.node
    node_of a b e = let same : a ≡ b = cc in ap (λ (x : Front). x.at.node) (sym same)

    here : (k : ℕ) (ks : List ℕ) → 0 < count k (k ∷ ks)
    here k ks = counted k (count k ks)
      where
        counted : (k n : ℕ) → 0 < cond (eqb k k) 1 0 + n
        counted k n = grind (arith, nat_tests)

    by : (near : Bool) → ((k : ℕ) → count k (p.at.node ∷ p.node ∷ (cond near [] (p.next.at.node ∷ []) ++ p.next.node ∷ [])) ≤ 1)
        → slice_get (or_none (cond near None (Some (record { at = p.next.at; entry = slots.next; child = p.next.right })))) 0 ≡ Some g
        → ¬ (f.at.node ≡ g.at.node)
    by true once second same = cc
    by false once second same =
        let one : f.at.node ≡ p.at.node = node_of (record { at = p.at; entry = slots.at; child = slots.node }) f first in
        let two : g.at.node ≡ p.next.at.node = node_of (record { at = p.next.at; entry = slots.next; child = p.next.right }) g second in
        head-apart p.at.node p.next.at.node (p.node ∷ p.next.at.node ∷ p.next.node ∷ []) (once p.next.at.node)
        (omega (arith, here p.next.at.node (p.next.node ∷ []))) (sym one ∙ same ∙ two)
fronts_apart _ slots f g once first second = cc

-- what is filled of a front
pub same-front : (a b : Front) → Some a ≡ Some b → a ≡ b
same-front a b e = cc

pub front_filled : (P : Filled → Type 0) (plan : Plan) (slots : PlanSlots) (heads : Heads) (place : ℕ) (f : Front) → Every P (fills_of plan slots heads)
    → slice_get (fronts_of plan slots) place ≡ Some f → Every P (entry_fills f.entry f.child (behind_of heads place))
front_filled P plan slots heads place f all is =
    let fronts = every_back P (new_fills_of (new_node_of plan slots))
    (front_fills heads.at (front_of plan slots) ++ next_fills heads.next (next_front_of plan slots)) all in
    by place (next_front_of plan slots) is (every_front P (front_fills heads.at (front_of plan slots))
    (next_fills heads.next (next_front_of plan slots)) fronts)
    (every_back P (front_fills heads.at (front_of plan slots)) (next_fills heads.next (next_front_of plan slots)) fronts)
  where
    by : (place : ℕ) (o : Option Front) → slice_get (front_of plan slots ∷ or_none o) place ≡ Some f → Every P (front_fills heads.at (front_of plan slots))
        → Every P (next_fills heads.next o) → Every P (entry_fills f.entry f.child (behind_of heads place))
    by zero o here at next = subst (λ (g : Front). Every P (entry_fills g.entry g.child heads.at)) (same-front (front_of plan slots) f here) at
    by (suc place) None here at next = cc
    by (suc zero) (Some g) here at next = subst (λ (x : Front). Every P (entry_fills x.entry x.child heads.next)) (same-front g f here) next
    by (suc (suc place)) (Some g) here at next = cc

-- the head of a front's bundle was found
pub front_link : (plan : Plan) (slots : PlanSlots) → (front_of plan slots).at ≡ link_at plan
front_link (Grow p) slots = refl
front_link _ slots = refl

next_link_is : (plan : Plan) (slots : PlanSlots) (f : Front) → next_front_of plan slots ≡ Some f → next_link_of plan ≡ Some f.at
next_link_is (Join p) slots f is = by (p.next.at.node == p.node) is
  where
    by : (near : Bool) → cond near None (Some (record { at = p.next.at; entry = slots.next; child = p.next.right })) ≡ Some f
        → cond near None (Some p.next.at) ≡ Some f.at
    by true e = cc
    by false e = ap (λ (x : Front). Some x.at) (same-front (record { at = p.next.at; entry = slots.next; child = p.next.right }) f e)
next_link_is _ slots f is = cc

pub front_head : (v : View) (n : ℕ) (plan : Plan) (slots : PlanSlots) (heads : Heads) (place : ℕ) (f : Front) → HasHeads v n plan heads
    → slice_get (fronts_of plan slots) place ≡ Some f → HoldsNumbered v f.at (behind_of heads place)
front_head v n plan slots heads place f h is = by place (next_front_of plan slots) refl is
  where
    some-holds : (o : Option Link) (at : Link) → o ≡ Some at → IfSome o (λ l. HoldsNumbered v l heads.next) → HoldsNumbered v at heads.next
    some-holds o at e holds = subst (λ u. IfSome u (λ l. HoldsNumbered v l heads.next)) e holds

    by : (place : ℕ) (o : Option Front) → next_front_of plan slots ≡ o → slice_get (front_of plan slots ∷ or_none o) place ≡ Some f
        → HoldsNumbered v f.at (behind_of heads place)
    by zero o e here =
        subst (λ at. HoldsNumbered v at heads.at) (sym (front_link plan slots) ∙ ap (λ (x : Front). x.at) (same-front (front_of plan slots) f here)) h.at
    by (suc place) None e here = cc
    by (suc zero) (Some g) e here =
        subst (λ (x : Front). HoldsNumbered v x.at heads.next) (same-front g f here) (some-holds (next_link_of plan) g.at (next_link_is plan slots g e) h.next)
    by (suc (suc place)) (Some g) e here = cc

-- the new node is filled, with the entries of its links
module _ (v : View) (slots : PlanSlots) (node : 0 < count slots.node v.free.nodes) (left : 0 < count slots.left v.free.entries)
    (right : 0 < count slots.right v.free.entries) where
  fresh-holds : (entry child : ℕ) → 0 < count entry v.free.entries → Every (HoldsFill v) (fresh_fills (fresh_to entry child))
      → IfSome (fresh_to entry child) (HoldsFreshEntry v)
  fresh-holds entry child free = by (child == 0)
    where
      by : (b : Bool) → Every (HoldsFill v) (fresh_fills (cond b None (Some (record { entry = entry; child = child }))))
          → IfSome (cond b None (Some (record { entry = entry; child = child }))) (HoldsFreshEntry v)
      by true all = tt
      by false all = record { free = free; filled = all }

  -- by the children of its links
  new-holds : (n : NewNode) (low high : ℕ) → n.slot ≡ slots.node → n.left ≡ fresh_to slots.left low → n.right ≡ fresh_to slots.right high
      → Every (HoldsFill v) (new_fills n) → HoldsNewNode v n
  new-holds n low high slot low_is high_is all =
      let below = every_back (HoldsFill v) (node_fills n) (fresh_fills n.left ++ fresh_fills n.right) all in
      record {
        free = subst (λ k. 0 < count k v.free.nodes) (sym slot) node;
        filled = every_front (HoldsFill v) (node_fills n) (fresh_fills n.left ++ fresh_fills n.right) all;
        left = subst (λ o. IfSome o (HoldsFreshEntry v)) (sym low_is) (fresh-holds slots.left low left
            (subst (λ o. Every (HoldsFill v) (fresh_fills o)) low_is (every_front (HoldsFill v) (fresh_fills n.left) (fresh_fills n.right) below)));
        right = subst (λ o. IfSome o (HoldsFreshEntry v)) (sym high_is) (fresh-holds slots.right high right
            (subst (λ o. Every (HoldsFill v) (fresh_fills o)) high_is (every_back (HoldsFill v) (fresh_fills n.left) (fresh_fills n.right) below)));
      }

  pub new_node_holds : (plan : Plan) → Every (HoldsFill v) (new_fills_of (new_node_of plan slots)) → IfSome (new_node_of plan slots) (HoldsNewNode v)
  new_node_holds (Grow p) all = new-holds (record { slot = slots.node; pair = p.pair; left = None; right = None }) 0 0 refl refl refl all
  new_node_holds (Replace p) all =
      new-holds (record { slot = slots.node; pair = p.pair; left = fresh_to slots.left p.left; right = fresh_to slots.right p.right }) p.left p.right refl refl refl all
  new_node_holds (Lift p) all = tt
  new_node_holds (Join p) all =
      let high : ℕ = cond (p.next.at.node == p.node) p.next.right p.right in
      new-holds (record { slot = slots.node; pair = p.next.pair; left = fresh_to slots.left p.left; right = fresh_to slots.right high }) p.left high refl refl refl all

-- one front more is one entry more
entries-append : (fs : List Front) (f : Front) → entries_of (fs ++ f ∷ []) ≡ entries_of fs ++ f.entry ∷ []
entries-append [] f = refl
entries-append (x ∷ fs) f = ap (λ es. x.entry ∷ es) (entries-append fs f)

pub entries-more : (fs : List Front) (place : ℕ) (f : Front) → slice_get fs place ≡ Some f
    → entries_of (take (place + 1) fs) ≡ entries_of (take place fs) ++ f.entry ∷ []
entries-more fs place f is = ap entries_of (take-got fs place f is) ∙ entries-append (take place fs) f

-- The raise of a plan.

-- a head is listed where it is an entry
fresh-is : (e child : ℕ) → 0 < e → listed_entry (head_of (fresh_to e child)) ≡ fresh_listed (fresh_to e child)
fresh-is e child some = by (child == 0)
  where
    by : (b : Bool) → listed_entry (head_of (cond b None (Some (record { entry = e; child = child })))) ≡ fresh_listed
        (cond b None (Some (record { entry = e; child = child })))
    by true = refl
    by false = ap (λ c. cond c [] (e ∷ [])) (ne_eqb e 0 (λ zero'. omega (arith, some, zero')))

-- the words of the new node's heads hold what was filled
module _ (t : Table) (right : IsRight t) (seat : ℕ) (v : View) (at : slice_get t.views seat ≡ Some v) (slots : PlanSlots) (apart : AreApart slots) where
  heads : (n : NewNode) → HoldsNewNode v n
      → (held_by t (Node (Head Left) n.slot) ≡ head_of n.left) × (held_by t (Node (Head Right) n.slot) ≡ head_of n.right)
  heads n h =
      let left = h.filled.1.1.1.0 in
      let high = h.filled.1.1.1.1.0 in (
        filled_known t right seat left.place v (record { word = Node (Head Left) n.slot; value = head_of n.left }) (item_from_get t.views seat v at) left.is
            (refl, h.free),
        filled_known t right seat high.place v (record { word = Node (Head Right) n.slot; value = head_of n.right })
            (item_from_get t.views seat v at) high.is (refl, h.free),
      )

  of-node : (n : NewNode) (low high : ℕ) → n.left ≡ fresh_to slots.left low → n.right ≡ fresh_to slots.right high → HoldsNewNode v n
      → new_entries (held_by t) (Some n.slot) ≡ fresh_entries (Some n)
  of-node n low high low_is high_is h =
      let are = heads n h in
      (λ i. listed_entry (are.0 i) ++ listed_entry (are.1 i))
      ∙ (λ i. listed_entry (head_of (low_is i)) ++ listed_entry (head_of (high_is i)))
      ∙ (λ i. fresh-is slots.left low apart.left_some i ++ fresh-is slots.right high apart.right_some i)
      ∙ (λ i. fresh_listed (sym low_is i) ++ fresh_listed (sym high_is i))

  pub entries-are : (plan : Plan) → IfSome (new_node_of plan slots) (HoldsNewNode v)
      → new_entries (held_by t) (slot_of (new_node_of plan slots)) ≡ fresh_entries (new_node_of plan slots)
  entries-are (Grow p) h = of-node (record { slot = slots.node; pair = p.pair; left = None; right = None }) 0 0 refl refl h
  entries-are (Replace p) h =
      of-node (record { slot = slots.node; pair = p.pair; left = fresh_to slots.left p.left; right = fresh_to slots.right p.right }) p.left p.right refl refl h
  entries-are (Lift p) h = refl
  entries-are (Join p) h =
      let high : ℕ = cond (p.next.at.node == p.node) p.next.right p.right in
      of-node (record { slot = slots.node; pair = p.next.pair; left = fresh_to slots.left p.left; right = fresh_to slots.right high }) p.left high refl refl h

-- the node of a front was found unmarked
of-link : (v : View) (k child : ℕ) (side : Side) → HoldsLink v k side child → IsUnmarked v k
of-link v k child side h =
    let at = found-at k h.held v.held.nodes h.locked in
    record { place = at.place; held = h.held; at = at.is; node_is = at.node_is; is = h.unmarked }

first-unmarked : (v : View) (plan : Plan) → Every (HoldsLook v) (looks_of plan) → IsUnmarked v (link_at plan).node
first-unmarked v (Grow p) looks = of-link v p.at.node 0 p.at.side looks.0.null
first-unmarked v (Replace p) looks = of-link v p.at.node p.node p.at.side looks.0
first-unmarked v (Lift p) looks = of-link v p.at.node p.node p.at.side looks.0
first-unmarked v (Join p) looks = of-link v p.at.node p.node p.at.side looks.0

next-unmarked : (v : View) (plan : Plan) (slots : PlanSlots) (f : Front) → Every (HoldsLook v) (looks_of plan) → next_front_of plan slots ≡ Some f
    → IsUnmarked v f.at.node
next-unmarked v (Join p) slots f looks is = by (p.next.at.node == p.node) looks.1.1.1.1.1.1.1.1.1 is
  where
    by : (near : Bool) → Every (HoldsLook v) (cond near [] (LinkLook p.next.at p.next.node ∷ []))
        → cond near None (Some (record { at = p.next.at; entry = slots.next; child = p.next.right })) ≡ Some f → IsUnmarked v f.at.node
    by true holds e = cc
    by false holds e =
        subst (λ (x : Front). IsUnmarked v x.at.node) (same-front (record { at = p.next.at; entry = slots.next; child = p.next.right }) f e)
        (of-link v p.next.at.node p.next.node p.next.at.side holds.0)
next-unmarked v _ slots f looks is = cc

front-unmarked : (v : View) (plan : Plan) (slots : PlanSlots) → Every (HoldsLook v) (looks_of plan) → (place : ℕ) (f : Front)
    → slice_get (fronts_of plan slots) place ≡ Some f → IsUnmarked v f.at.node
front-unmarked v plan slots looks place f is = by place (next_front_of plan slots) refl is
  where
    by : (place : ℕ) (o : Option Front) → next_front_of plan slots ≡ o → slice_get (front_of plan slots ∷ or_none o) place ≡ Some f → IsUnmarked v f.at.node
    by zero o e here =
        subst (λ at. IsUnmarked v at.node) (sym (front_link plan slots) ∙ ap (λ (x : Front). x.at) (same-front (front_of plan slots) f here))
        (first-unmarked v plan looks)
    by (suc place) None e here = cc
    by (suc zero) (Some g) e here = subst (λ (x : Front). IsUnmarked v x.at.node) (same-front g f here) (next-unmarked v plan slots g looks e)
    by (suc (suc place)) (Some g) e here = cc

-- the raise leaves what is known of locked nodes
as-raised : (t : Table) (n line : ℕ) (v : View) (plan : Plan) (f : Front) → IsUnmarked v f.at.node
    → IsUnmarked (raised_at t v (update_by n line plan)) f.at.node
as-raised t n line v plan f u = record { place = u.place; held = u.held; at = u.at; node_is = u.node_is; is = u.is }

pub raise_step : PlanMayRaiseLaw → RaiseStepLaw
raise_step plan_may_raise t seat n line v plan slots right at r apart can =
    let raises = plan_may_raise t.layout v n line plan slots can r.ready in
    let moves = raises.moves t.words t.views seat right at in
    record {
      may = raises.may t.words t.views seat right at;
      raised = record {
        live = r.making.working.live;
        own = r.making.working.own;
        inside = r.making.working.inside;
        once = r.making.once;
        locked = r.making.locked;
        raised = refl;
        taken = moves.taken_is;
        reads = subst (λ (o : Option ℕ). is_some o ≡ true) (sym r.making.section) refl;
        unmarked = λ place front is. as-raised t n line v plan front (front-unmarked v plan slots r.ready.looks place front is);
        links = record { unset_are = moves.leaves.unset; owed_are = moves.leaves.owed; last = moves.leaves.last };
        unsearched = tt;
        pending = (λ i. r.ready.pending i ++ (moves.entries_are ∙ entries-are t right seat v at slots apart plan r.ready.new) i);
      };
    }
