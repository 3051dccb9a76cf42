-- What a view holds by its locks and its new node, the test for a lock, and what is known of a locked node.
use Rattle.std.proofs.Common.{◌≡◌, ℕ, ◌+◌, ◌<◌, cond, List, [], ◌∷◌, Bool, true, false, eqb, ◌||◌, arith, refl, ap, ◌∙◌, Some, map, ◌≤◌, sym, subst, ◌⊎◌, inl}
use Rattle.std.proofs.Common.{inr, Option, None, is_some}
use Rattle.std.proofs.lemmas.Bool.{eqb-true, cases_lt}
use Rattle.std.proofs.lemmas.Bool.Decides.{nat_tests, eqb_tells}
use Rattle.std.specs.List.{sum_by}
use Rattle.index_words.specs.declared.view.View.{View}
use Rattle.index_words.specs.declared.view.update.HeldNode.{HeldNode}
use Rattle.index_words.specs.declared.side.Side.{Side}
use Rattle.index_words.specs.declared.side.Side.TheVariants.{Left, Right}
use Rattle.index_words.specs.declared.view.update.LoadedHead.{LoadedHead}
use Rattle.index_words.specs.declared.word.Field.{Field}
use Rattle.index_words.specs.declared.word.Field.TheVariants.{Key, Val, Mark, Lock}
use Rattle.index_words.specs.declared.layout.Layout.{Layout}
use Rattle.index_words.specs.declared.view.reading.Place.{Place}
use Rattle.index_words.specs.declared.view.reading.Place.TheVariants.{Nowhere}
use Rattle.index_words.specs.Words.{Memory}
use Rattle.index_words.proofs.Seats.{at_item, one_term, Beside, two_terms}
use Rattle.index_words.specs.declared.word.Word.TheVariants.{Node}
use Rattle.key_map.specs.Lists.{count, has, IsItem}
use Rattle.key_map.proofs.Counting.{count-append, has-count}
use Rattle.core_trees.specs.SpelledTree.{Graph}
use Rattle.core_grace.specs.Holds.{held_slots, HoldsNode, listed, work_nodes, tree_slots}
use Rattle.core_grace.specs.Sections.{is_even}
use Rattle.core_grace.specs.Slots.{own, nodes_of, own_free, is_slot}
use Rattle.core_events.specs.LoadMoves.{locks, head_found, found_at, node_known}
use Rattle.core_events.specs.LockMoves.{mark_known, pair_known}
use Rattle.core_events.specs.PlainMoves.{link_known, link_known_at, tag_known, tag_known_at}
use Rattle.core_events.specs.UpdateMoves.{head_known, known_at}
use Rattle.core_events.specs.LockNeeds.{may_lock}
use Rattle.core_events.specs.Searches.{place_nodes, search_nodes}
use Rattle.core_events.specs.Versions.{slots_of}
use Rattle.core_invariant.specs.Meanings.{Meaning}
use Rattle.core_invariant.specs.BundleRule.{IsLive}
use Rattle.core_invariant.specs.Reached.{HoldsPlain, has_let, ReachesRight}
use Rattle.core_invariant.specs.Rule.{Rule}
use Rattle.core_invariant.proofs.Owned.{root_live, once_node, held_live, slot_is}
use Rattle.core_invariant.proofs.SearchNodes.{search_count}
use Rattle.core_invariant.specs.Locks.{lock_count}
use Rattle.core_invariant.proofs.Frames.{Term, term_of, same_item}
use Rattle.core_invariant.proofs.OneView.{seat_at}

pub held_holds : (v : View) (k : ℕ) → 0 < count k (held_slots v.held.nodes) → HoldsNode v k
held_holds v k some =
    omega (arith, some, count-append k (tree_slots v.reading.tree) (work_nodes v), count-append k (held_slots v.held.nodes) (listed v.update.added))

pub work_holds : (v : View) (k : ℕ) → 0 < count k (work_nodes v) → HoldsNode v k
work_holds v k some = omega (arith, some, count-append k (tree_slots v.reading.tree) (work_nodes v))

lock_step : (node x : ℕ) (b c : Bool) (n : ℕ) → eqb x node ≡ b → (b || c) ≡ true → (c ≡ true → 0 < n) → 0 < cond (eqb x node) 1 0 + n
lock_step node x true c n is met rest = counted (eqb x node) is
  where
    counted : (d : Bool) → d ≡ true → 0 < cond d 1 0 + n
    counted true e = omega arith
    counted false e = cc
lock_step node x false c n is met rest = omega (arith, rest met)

-- the test for a lock, and the count of locks
pub locks-count : (node : ℕ) (hs : List HeldNode) → locks node hs ≡ true → 0 < count node (held_slots hs)
locks-count node [] is = cc
locks-count node (x ∷ hs) is = lock_step node x.node (eqb x.node node) (locks node hs) (count node (held_slots hs)) refl is (locks-count node hs)

found_step : (node x : ℕ) (b c : Bool) (n : ℕ) → eqb x node ≡ b → 0 < cond b 1 0 + n → (0 < n → c ≡ true) → (b || c) ≡ true
found_step node x true c n is some rest = refl
found_step node x false c n is some rest = rest (omega (arith, some))

pub count-locks : (node : ℕ) (hs : List HeldNode) → 0 < count node (held_slots hs) → locks node hs ≡ true
count-locks node [] some = absurd (omega (arith, some))
count-locks node (x ∷ hs) some = found_step node x.node (eqb x.node node) (locks node hs) (count node (held_slots hs)) refl some (count-locks node hs)

-- What is loaded or stored at a locked node keeps the slots of the locked nodes.
abbrev KeepsSlot : (HeldNode → HeldNode) → Type 0
KeepsSlot f = (h : HeldNode) → (f h).node ≡ h.node

pub slots_kept : (f : HeldNode → HeldNode) → KeepsSlot f → (hs : List HeldNode) → held_slots (map f hs) ≡ held_slots hs
slots_kept f same [] = refl
slots_kept f same (h ∷ hs) = ap (λ n. n ∷ held_slots (map f hs)) (same h) ∙ ap (λ ns. h.node ∷ ns) (slots_kept f same hs)

either_node : (b : Bool) (g h : HeldNode) → g.node ≡ h.node → (cond b g h).node ≡ h.node
either_node true g h same = same
either_node false g h same = refl

-- the same if only the node at one slot changes
one_kept : (k : ℕ) (f : HeldNode → HeldNode) → KeepsSlot f → (hs : List HeldNode) → held_slots (map (λ (h : HeldNode). cond (eqb h.node k) (f h) h) hs) ≡ held_slots hs
one_kept k f same = slots_kept (λ (h : HeldNode). cond (eqb h.node k) (f h) h) (λ h. either_node (eqb h.node k) (f h) h (same h))

head_slot : (side : Side) (l : LoadedHead) → KeepsSlot (head_known side l)
head_slot Left l h = refl
head_slot _ l h = refl

found_slot : (side : Side) (e : ℕ) → KeepsSlot (head_found side e)
found_slot Left e h = refl
found_slot _ e h = refl

link_slot : (side : Side) (x : ℕ) → KeepsSlot (link_known side x)
link_slot Left x h = refl
link_slot _ x h = refl

tag_slot : (side : Side) (x : ℕ) → KeepsSlot (tag_known side x)
tag_slot Left x h = refl
tag_slot _ x h = refl

pub slots_known : (k : ℕ) (side : Side) (l : LoadedHead) (hs : List HeldNode) → held_slots (map (known_at k side l) hs) ≡ held_slots hs
slots_known k side l = one_kept k (head_known side l) (head_slot side l)

pub slots_found : (k : ℕ) (side : Side) (e : ℕ) (hs : List HeldNode) → held_slots (map (found_at k side e) hs) ≡ held_slots hs
slots_found k side e = one_kept k (head_found side e) (found_slot side e)

pub slots_numbered : (e x : ℕ) (hs : List HeldNode) → held_slots (map (node_known e x) hs) ≡ held_slots hs
slots_numbered e x = slots_kept (node_known e x) (λ h. refl)

pub slots_marked : (k x : ℕ) (hs : List HeldNode) → held_slots (map (mark_known k x) hs) ≡ held_slots hs
slots_marked k x = one_kept k (λ (h : HeldNode). record h { mark = Some x }) (λ h. refl)

pub slots_paired : (f : Field) (k x : ℕ) (hs : List HeldNode) → held_slots (map (pair_known f k x) hs) ≡ held_slots hs
slots_paired Key k x = one_kept k (λ (h : HeldNode). record h { key = Some x }) (λ h. refl)
slots_paired Val k x = one_kept k (λ (h : HeldNode). record h { val = Some x }) (λ h. refl)
slots_paired f k x = slots_kept (pair_known f k x) (λ h. refl)

pub slots_link : (k : ℕ) (side : Side) (x : ℕ) (hs : List HeldNode) → held_slots (map (link_known_at k side x) hs) ≡ held_slots hs
slots_link k side x = one_kept k (link_known side x) (link_slot side x)

pub slots_tag : (k : ℕ) (side : Side) (x : ℕ) (hs : List HeldNode) → held_slots (map (tag_known_at k side x) hs) ≡ held_slots hs
slots_tag k side x = one_kept k (tag_known side x) (tag_slot side x)

-- A node whose lock may be tried is live, and in the batch of no seat that has passed this one.
pub record CanLock (z : Layout) (vs : List View) (v : View) (k : ℕ) : Type 0 where
  pub live : IsLive z vs k
  pub apart : count k v.batch.nodes ≡ 0
  pub waits : (j : ℕ) (u : View) → IsItem vs j u → 0 < count k u.batch.nodes → has_let u.grace v.number v.section_word ≡ false

-- the search begins at the root's child, and no other node of it depends on that
some_top : (k top : ℕ) (p : Place) → 0 < k → count k (place_nodes 0 p) ≤ count k (place_nodes top p)
some_top k top Nowhere some = omega (arith, none k some)
  where
    none : (k : ℕ) → 0 < k → count k (0 ∷ []) ≡ 0
    none k some = grind (arith, nat_tests)
some_top k top _ some = omega arith

module _ (z : Layout) (m : Memory) (vs : List View) (g : Meaning) (rule : Rule z m vs g) (i : ℕ) (v : View) (at : IsItem vs i v) (graph : Graph) (reach : ReachesRight z graph vs v) (inside : is_even v.section_word ≡ false) where
  -- the root is no slot
  no_root : (j : ℕ) (u : View) → IsItem vs j u → 0 < count 0 u.batch.nodes → ⊥
  no_root j u of some = omega (arith, some, rule.slots.nodes.one 0, one_term (own nodes_of 0) vs j u of)

  root_apart : count 0 v.batch.nodes ≡ 0
  root_apart = omega (arith, rule.slots.nodes.one 0, one_term (own nodes_of 0) vs i v at)

  pub searched : (k : ℕ) → 0 < k → has k (search_nodes 0 v.reading) ≡ true → HoldsPlain graph v k
  searched k some is = record {
    inside = inside;
    some = some;
    from = k;
    searched = omega (
      arith,
      has-count k (search_nodes 0 v.reading) is,
      search_count k 0 v.reading,
      search_count k (graph.child Right 0) v.reading,
      some_top k (graph.child Right 0) v.reading.place some,
    );
    reached = ([], refl);
  }

  pub can_lock : (k : ℕ) → k ≤ z.nodes → may_lock v k ≡ true → CanLock z vs v k
  can_lock k there met = by (eqb k 0) refl met
    where
      above : (k : ℕ) → eqb k 0 ≡ false → 0 < k
      above k off = grind (arith, nat_tests)

      by : (b : Bool) → eqb k 0 ≡ b → (b || has k (search_nodes 0 v.reading)) ≡ true → CanLock z vs v k
      by true root is =
          subst (CanLock z vs v) (sym (eqb-true k 0 root))
          (record { live = root_live z vs g rule.slots; apart = root_apart; waits = λ j u of some. absurd (no_root j u of some) })
      by false off is =
          let holds : HoldsPlain graph v k = searched k (above k off) is in
          record { live = (there, reach.unheld k holds); apart = reach.apart k holds; waits = λ j u of some. at_item (λ (t : View). (n : ℕ) → HoldsPlain graph v n → 0 < count n t.batch.nodes → has_let t.grace v.number v.section_word ≡ false) vs j u of reach.grace k holds some }

-- A node that a view has locked and found unmarked is the root or in the tree, unless its update took it out.
one_lock : (b : Bool) → cond b 0 1 ≤ 1
one_lock true = omega arith
one_lock false = omega arith

module _ (z : Layout) (m : Memory) (vs : List View) (g : Meaning) (rule : Rule z m vs g) where
  -- no two views have one node locked
  pub locked_apart : (i k : ℕ) (v u : View) → IsItem vs i v → Beside vs i u → 0 < lock_count k v → lock_count k u ≡ 0
  locked_apart i k v u at beside some = omega (arith, two_terms (lock_count k) vs i v u at beside, rule.locks k, one_lock (eqb (m (Node Lock k)) 0), some)

  pub locked_live : (i k : ℕ) (v : View) → IsItem vs i v → 0 < lock_count k v → IsLive z vs k
  locked_live i k v at some = held_live z vs g rule.slots i k v at (held_holds v k some) ((seat_at z m vs g i v at rule).locks k some).0

  -- two views that have the same node locked are the same
  pub same_locker : (i j k : ℕ) (v u : View) → IsItem vs i v → IsItem vs j u → 0 < lock_count k v → 0 < lock_count k u → v ≡ u
  same_locker i j k v u at of some also =
      elim (eqb_tells j i) as (λ _. v ≡ u) [
        | inl same ↦ same_item vs i j v u at of same.1
        | inr other ↦ absurd (omega (arith, also, locked_apart i k v u at (record { place = j; at = of; other = other.1 }) some))
      ]

  -- a slot that some view owns is marked, or taken out by the view that has it locked
  owned_marked : (i k : ℕ) (v : View) → IsItem vs i v → 0 < lock_count k v → count k v.update.taken ≡ 0 → m (Node Mark k) ≡ 0 → Term (own nodes_of k) vs → ⊥
  owned_marked i k v at locked stays unmarked term =
      let u : View = term.item in
      let live = locked_live i k v at locked in
      let marks = (seat_at z m vs g term.place u term.at rule).marks in
      elim (cases_lt 0 (count k u.retired.nodes)) as (λ _. ⊥) [
        | inl retired ↦ elim (marks.retired k retired) as (λ _. ⊥) [
          | inl marked ↦ omega (arith, unmarked, marked)
          | inr out ↦ omega (arith, out.1, stays, ap (λ (x : View). count k x.update.taken) (same_locker i term.place k v u at term.at locked out.2))
        ]
        | inr other ↦ omega (arith, unmarked, marks.batch k (omega (arith, term.some, one_term (own_free nodes_of k) vs term.place u term.at, live.1, other)))
      ]

  pub still_linked : (i k : ℕ) (v : View) → IsItem vs i v → 0 < lock_count k v → count k v.update.taken ≡ 0 → m (Node Mark k) ≡ 0 → count k (0 ∷ slots_of g.tree) ≡ 1
  still_linked i k v at locked stays unmarked =
      elim (eqb_tells 0 k) as (λ _. count k (0 ∷ slots_of g.tree) ≡ 1) [
        | inl root ↦ subst (λ x. count x (0 ∷ slots_of g.tree) ≡ 1) root.1 (root_once (omega (arith, once_node z vs g rule.slots 0, root_free)))
        | inr slot ↦
            let low : 0 < k = let apart : 0 ≡ k → ⊥ = slot.1 in omega (arith, apart) in
            elim (cases_lt 0 (sum_by (own nodes_of k) vs)) as (λ _. count k (0 ∷ slots_of g.tree) ≡ 1) [
              | inl owned ↦ absurd (owned_marked i k v at locked stays unmarked (term_of (own nodes_of k) vs owned))
              | inr unowned ↦
                  let total : is_slot z.nodes k ≡ 1 = slot_is z.nodes k low (locked_live i k v at locked).0 in
                  other_once k low (omega (arith, rule.slots.nodes.one k, total, unowned))
            ]
      ]
    where
      root_free : count 0 (slots_of g.tree) ≡ 0
      root_free = omega (arith, rule.slots.nodes.one 0)

      root_once : count 0 (slots_of g.tree) ≡ 0 → count 0 (0 ∷ slots_of g.tree) ≡ 1
      root_once none = omega (arith, none)

      other_once : (k : ℕ) → 0 < k → count k (slots_of g.tree) ≡ 1 → count k (0 ∷ slots_of g.tree) ≡ 1
      other_once k low one = grind (arith, nat_tests)

  no_raise : (o : Option ℕ) → o ≡ None → is_some o ≡ true → ⊥
  no_raise None is one = cc
  no_raise (Some n) is one = cc

  -- before the raise nothing that is unmarked was taken out
  pub locked_linked : (i k : ℕ) (v : View) → IsItem vs i v → 0 < lock_count k v → v.update.raised ≡ None → m (Node Mark k) ≡ 0 → count k (0 ∷ slots_of g.tree) ≡ 1
  locked_linked i k v at locked none unmarked = still_linked i k v at locked (stays (cases_lt 0 (count k v.update.taken))) unmarked
    where
      stays : (0 < count k v.update.taken) ⊎ (count k v.update.taken ≤ 0) → count k v.update.taken ≡ 0
      stays (inr out) = omega (arith, out)
      stays (inl taken) =
          let marks = (seat_at z m vs g i v at rule).marks in
          elim (marks.retired k (marks.taken k taken)) as (λ _. count k v.update.taken ≡ 0) [
            | inl marked ↦ absurd (omega (arith, unmarked, marked))
            | inr out ↦ absurd (no_raise v.update.raised none out.0)
          ]
