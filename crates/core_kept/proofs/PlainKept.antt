-- What is said of plain links after the kinds of events that set no plain link and raise no stamp.
use Rattle.std.proofs.Common.{◌≡◌, ℕ, ◌<◌, ◌≤◌, cond, List, [], ◌∷◌, ◌++◌, length, Bool, true, false, not, eqb, ◌&&◌, set, arith, refl, ap, ◌∙◌, sym, subst, inl, inr, filter}
use Rattle.std.specs.List.{list_any}
use Rattle.std.proofs.lemmas.Bool.{and_parts, eq-eqb, eqb-true}
use Rattle.index_words.specs.declared.layout.Layout.{Layout}
use Rattle.index_words.specs.declared.side.Side.{Side}
use Rattle.index_words.specs.declared.side.Side.TheVariants.{Right}
use Rattle.index_words.specs.declared.view.View.{View}
use Rattle.index_words.specs.declared.view.reading.Place.{Place}
use Rattle.index_words.specs.declared.view.reading.Place.TheVariants.{Entry as AtEntry}
use Rattle.index_words.specs.declared.view.update.HeldNode.{HeldNode}
use Rattle.index_words.specs.declared.view.update.OwedTag.{OwedTag}
use Rattle.index_words.specs.declared.view.update.UnsetLink.{UnsetLink}
use Rattle.index_words.specs.declared.word.Field.{Field}
use Rattle.index_words.specs.declared.word.Field.TheVariants.{Link, Tag}
use Rattle.index_words.specs.declared.word.Part.{Part}
use Rattle.index_words.specs.declared.word.Part.TheVariants.{Child}
use Rattle.index_words.specs.declared.word.Word.{Word}
use Rattle.index_words.specs.declared.word.Word.TheVariants.{Stamp, Node, Entry}
use Rattle.index_words.specs.Views.{no_slots, no_looks, no_update, spent_view}
use Rattle.index_words.specs.Words.{Memory, written}
use Rattle.key_map.specs.Lists.{count, has, Every, IsItem}
use Rattle.key_map.proofs.Counting.{count-append, has-count}
use Rattle.core_grace.specs.Batches.{is_empty, batch_taken, batch_freed, settled, all_passed, looked, looked_at}
use Rattle.core_grace.specs.Holds.{held_slots}
use Rattle.core_grace.specs.Sections.{is_even}
use Rattle.core_links.specs.Bundle.{child_of_entry}
use Rattle.core_trees.specs.LinkSteps.{IsLinkIn}
use Rattle.core_trees.specs.NamedTree.{NamedTree}
use Rattle.core_events.specs.FillMoves.{known_before, used_view, filled_with, with_filled, filled_view}
use Rattle.core_events.specs.LoadMoves.{next_at}
use Rattle.core_events.specs.LockMoves.{locked_view, other_nodes, other_nexts, unlocked_view}
use Rattle.core_events.specs.Moves.{nowhere, in_section, entered}
use Rattle.core_events.specs.Needs.{is_lock, is_successor, may_fill}
use Rattle.core_events.specs.Waits.{has_no_lock, looked_waiting, looked_by}
use Rattle.core_events.specs.PlainNeeds.{is_link_of, is_owed_at, is_done_at}
use Rattle.core_events.proofs.Tests.{never}
use Rattle.core_invariant.specs.BundleRule.{IsLive}
use Rattle.core_invariant.specs.LinkLaw.{SelectsSame, IsRead}
use Rattle.core_invariant.specs.Meanings.{Meaning}
use Rattle.core_invariant.specs.PlainRule.{selected_of, child_at, greatest_of, UnsetRight, OwedRight, SeatPlain, LinksRight, PlainRight}
use Rattle.core_invariant.specs.Rule.{Rule}
use Rattle.core_invariant.proofs.BundleFrames.{select_in, select_low}
use Rattle.core_invariant.proofs.Filled.{node_other, entry_other}
use Rattle.core_invariant.proofs.Frames.{every_map}
use Rattle.core_invariant.proofs.Owned.{free_not_live, not_in_bundle, in_entries}
use Rattle.core_invariant.proofs.Passing.{none_passing, both_hold, none_left, count-without_other}
use Rattle.core_invariant.proofs.PlainFrames.{HasSameWork, seat_at, idle_seat, plain_seat, plain_moved, plain_pushed, plain_joined, plain_framed, plain_selected}
use Rattle.core_invariant.proofs.TreeNow.{link_live}
use Rattle.core_kept.proofs.TryLocks.{slots_push}
use Rattle.core_kept.proofs.Unlocks.{slots_other}

-- views that have the same to do
work_by : (b : Bool) (v x y : View) → HasSameWork v x → HasSameWork v y → HasSameWork v (cond b x y)
work_by true v x y one two = one
work_by false v x y one two = two

-- the same to do, and the same locks
pub quiet_work : (v w : View) → w.update.unset ≡ v.update.unset → w.update.owed ≡ v.update.owed → w.update.raised ≡ v.update.raised
    → held_slots w.held.nodes ≡ held_slots v.held.nodes → HasSameWork v w
quiet_work v w unset owed raised locks =
    record { unset = unset; owed = owed; raised = raised; locks = λ k some. subst (λ ks. 0 < count k ks) (sym locks) some }

taken_work : (v : View) → HasSameWork v (batch_taken v)
taken_work v =
    work_by (is_empty v.batch) v (record v { retired = no_slots; batch = v.retired; grace = no_looks }) v (quiet_work v _ refl refl refl refl)
    (quiet_work v v refl refl refl refl)

settled_work : (passes : ℕ) (v w : View) → HasSameWork v w → HasSameWork v (settled passes w)
settled_work passes v w same =
    work_by (all_passed passes w.number w.grace.passed) v (batch_freed w) w
    (record { unset = same.unset; owed = same.owed; raised = same.raised; locks = same.locks }) same

pub entered_work : (passes value : ℕ) (v : View) → HasSameWork v (entered passes v value)
entered_work passes value v =
    let u : View = in_section v value in
    let taken = taken_work u in
    settled_work passes v (batch_taken u) (record { unset = taken.unset; owed = taken.owed; raised = taken.raised; locks = taken.locks })

looked_slots : (passes pass word : ℕ) (v : View) → HasSameWork v (looked passes v pass word)
looked_slots passes pass word v =
    let u : View = batch_taken v in
    let taken = taken_work v in
    settled_work passes v (record u { grace = looked_at u.grace pass word })
    (record { unset = taken.unset; owed = taken.owed; raised = taken.raised; locks = taken.locks })

pub looked_work : (passes pass word : ℕ) (v : View) → HasSameWork v (looked_by passes v pass word)
looked_work passes pass word v =
    work_by (has_no_lock v) v (looked passes v pass word) (looked_waiting v pass word) (looked_slots passes pass word v)
    (quiet_work v (looked_waiting v pass word) refl refl refl refl)

filled_work : (v : View) (w : Word) (value : ℕ) → HasSameWork v (filled_view v w value)
filled_work v w value =
    work_by (is_even v.section_word) v (used_view v w) (with_filled (used_view v w) (filled_with (known_before v w) w value))
    (quiet_work v _ refl refl refl refl) (quiet_work v _ refl refl refl refl)

pub next_work : (v : View) (p : Place) (e x : ℕ) → HasSameWork v (next_at v p e x)
next_work v (AtEntry node side entry found) e x = quiet_work v _ refl refl refl refl
next_work v _ e x = quiet_work v v refl refl refl refl

pub locked_work : (v : View) (k : ℕ) → HasSameWork v (locked_view v k)
locked_work v k = record {
  unset = refl;
  owed = refl;
  raised = refl;
  locks = λ j some. omega (arith, some, ap (count j) (slots_push k v.held.nodes), count-append j (held_slots v.held.nodes) (k ∷ []));
}

-- where one view moves that has the same to do
pub plain_quiet : (m : Memory) (g : Meaning) (vs : List View) (i : ℕ) (v w : View) → IsItem vs i v → HasSameWork v w → PlainRight m vs g
    → PlainRight m (set vs i w) g
plain_quiet m g vs i v w at same right =
    plain_moved (λ s k. m (Node (Link s) k)) (λ s k. m (Node (Tag s) k)) (child_at (λ e. m (Entry Child e)) g.bundles (m Stamp))
    (greatest_of g.bundles (m Stamp)) g.tree vs i v w at right same

-- and another one is put after the others, or is given up, which has nothing to do
pub quiet_pushed : (m : Memory) (g : Meaning) (vs : List View) (i : ℕ) (v w y : View) → IsItem vs i v → HasSameWork v w → y.update ≡ no_update
    → PlainRight m vs g → PlainRight m (set vs i w ++ y ∷ []) g
quiet_pushed m g vs i v w y at same idle right =
    plain_pushed (λ s k. m (Node (Link s) k)) (λ s k. m (Node (Tag s) k)) (child_at (λ e. m (Entry Child e)) g.bundles (m Stamp))
    (greatest_of g.bundles (m Stamp)) g.tree vs i v w at right same y idle

pub quiet_joined : (m : Memory) (g : Meaning) (vs : List View) (i j : ℕ) (v w u : View) → IsItem vs i v → IsItem vs j u → (j ≡ i → ⊥) → HasSameWork v w
    → u.update ≡ no_update
    → PlainRight m vs g → PlainRight m (set (set vs i w) j spent_view) g
quiet_joined m g vs i j v w u at of other same idle right =
    plain_joined (λ s k. m (Node (Link s) k)) (λ s k. m (Node (Tag s) k)) (child_at (λ e. m (Entry Child e)) g.bundles (m Stamp))
    (greatest_of g.bundles (m Stamp)) g.tree vs i v w at right
    same j u of other idle

module _ (z : Layout) (m : Memory) (vs : List View) (g : Meaning) (rule : Rule z m vs g) where
  abbrev s : ℕ
  s = m Stamp

  -- what a seat stores to a free slot is no word of the tree
  module _ (i : ℕ) (v : View) (at : IsItem vs i v) (x : ℕ) where
    node_same : (f h : Field) (j k : ℕ) (side : Side) → 0 < count j v.free.nodes → IsLinkIn 0 Right g.tree k side
        → written m (Node f j) x (Node h k) ≡ m (Node h k)
    node_same f h j k side free there =
        node_other m f h j k x (λ is. free_not_live z vs g rule.slots i j v at free (subst (IsLive z vs) is (link_live z m vs g rule k side there)))

    child_same : (p : Part) (e k : ℕ) (side : Side) → 0 < count e v.free.entries → IsLinkIn 0 Right g.tree k side
        → child_at (λ d. written m (Entry p e) x (Entry Child d)) g.bundles s side k ≡ child_at (λ d. m (Entry Child d)) g.bundles s side k
    child_same p e k side free there =
        elim (select_in g.bundles.number s (g.bundles.bundle side k)) as
        (λ _. child_at (λ d. written m (Entry p e) x (Entry Child d)) g.bundles s side k ≡ child_at (λ d. m (Entry Child d)) g.bundles s side k) [
          | inl none ↦
              ap (child_of_entry (λ d. written m (Entry p e) x (Entry Child d))) none ∙ sym (ap (child_of_entry (λ d. m (Entry Child d))) none)
          | inr here ↦
              let d : ℕ = selected_of g.bundles s side k in
              ap (λ n. cond (eqb d 0) 0 n)
              (entry_other m p Child e d x
              (λ is. not_in_bundle z vs g rule.slots i k e v at free (link_live z m vs g rule k side there)
              (in_entries g.bundles k e side (subst (λ n. 0 < count n (g.bundles.bundle side k)) is here))))
        ]

    plain_stored : (w : Word) → may_fill v w ≡ true → PlainRight m vs g → PlainRight (written m w x) vs g
    plain_stored (Node f j) met right =
        let free : 0 < count j v.free.nodes = has-count j v.free.nodes (and_parts (not (is_lock f)) (has j v.free.nodes) met).1 in
        plain_framed (λ t k. m (Node (Link t) k)) (λ t k. m (Node (Tag t) k)) (child_at (λ e. m (Entry Child e)) g.bundles s) (greatest_of g.bundles s)
        (λ t k. written m (Node f j) x (Node (Link t) k)) (λ t k. written m (Node f j) x (Node (Tag t) k)) (child_at (λ e. m (Entry Child e)) g.bundles s)
        (greatest_of g.bundles s) g.tree vs
        (λ k side there. record {
          same_link = node_same f (Link side) j k side free there;
          same_tag = node_same f (Tag side) j k side free there;
          same_child = refl;
          no_less = omega arith;
        }) right
    plain_stored (Entry p e) met right =
        let free : 0 < count e v.free.entries = has-count e v.free.entries met in
        plain_framed (λ t k. m (Node (Link t) k)) (λ t k. m (Node (Tag t) k)) (child_at (λ d. m (Entry Child d)) g.bundles s) (greatest_of g.bundles s)
        (λ t k. m (Node (Link t) k)) (λ t k. m (Node (Tag t) k)) (child_at (λ d. written m (Entry p e) x (Entry Child d)) g.bundles s)
        (greatest_of g.bundles s) g.tree vs
        (λ k side there. record { same_link = refl; same_tag = refl; same_child = child_same p e k side free there; no_less = omega arith }) right
    plain_stored _ met right = absurd (never met)

    -- a fill
    pub plain_filled : (w : Word) → may_fill v w ≡ true → PlainRight m vs g → PlainRight (written m w x) (set vs i (filled_view v w x)) g
    plain_filled w met right = plain_quiet (written m w x) g vs i v (filled_view v w x) at (filled_work v w x) (plain_stored w met right)

  -- where the stamp selects the same, of entries that keep their numbers where they have one
  pub plain_same : (h : Meaning) (ws : List View) → SelectsSame z (IsRead s vs) vs g ws h → ((k : ℕ) → IsLive z vs k → IsLive z ws k)
      → ((e : ℕ) → g.bundles.number e ≤ s → g.bundles.number e ≤ h.bundles.number e)
      → LinksRight (λ t k. m (Node (Link t) k)) (λ t k. m (Node (Tag t) k)) (child_at (λ e. m (Entry Child e)) g.bundles s) (greatest_of g.bundles s) g.tree ws
      → LinksRight (λ t k. m (Node (Link t) k)) (λ t k. m (Node (Tag t) k)) (child_at (λ e. m (Entry Child e)) h.bundles s) (greatest_of h.bundles s) g.tree ws
  plain_same h ws same live numbers right =
      plain_selected (λ t k. m (Node (Link t) k)) (λ t k. m (Node (Tag t) k)) (λ e. m (Entry Child e)) g.bundles h.bundles s g.tree ws
      (λ k side there. let alive = link_live z m vs g rule k side there in sym (same s k side (inl refl) alive (live k alive)))
      (λ k side there some. elim (select_low g.bundles.number s (g.bundles.bundle side k))
      as (λ _. g.bundles.number (selected_of g.bundles s side k) ≤ h.bundles.number (selected_of g.bundles s side k)) [
        | inl none ↦ absurd (omega (arith, some, none))
        | inr low ↦ numbers (selected_of g.bundles s side k) low
      ]) right

not_at : (a b : ℕ) → eqb a b ≡ false → a ≡ b → ⊥
not_at a b off same = never (sym off ∙ eq-eqb a b same)

-- unlock: what is still to be done is done at other nodes, which stay locked
module _ (link tag child greatest : Side → ℕ → ℕ) (tree : NamedTree) (vs : List View) (i k : ℕ) (v : View) (at : IsItem vs i v)
    (done : is_done_at k v.update ≡ true) (right : LinksRight link tag child greatest tree vs) where
  abbrev others : List HeldNode
  others = other_nodes k v.held.nodes

  -- the view after the unlock, where the update has ended or not
  abbrev after : Bool → View
  after b = record v { reading = nowhere v.reading; held = record { nodes = others; nexts = other_nexts k v.held.nexts }; update = cond b no_update v.update }

  abbrev Unset : List ℕ → UnsetLink → Type 0
  Unset locked = UnsetRight link child tree locked

  seat : SeatPlain link child tree v
  seat = seat_at link tag child greatest tree vs i v v at right

  abbrev all_set : Bool
  all_set = not (list_any (λ (x : UnsetLink). eqb x.node k) v.update.unset)

  abbrev all_raised : Bool
  all_raised = not (list_any (λ (o : OwedTag). eqb o.node k) v.update.owed)

  parts : (all_set ≡ true) × (all_raised ≡ true)
  parts = and_parts all_set all_raised (and_parts (all_set && all_raised) (not (is_successor k v.update.unlinking)) done).0

  still_locked : (j : ℕ) → (j ≡ k → ⊥) → 0 < count j (held_slots v.held.nodes) → 0 < count j (held_slots others)
  still_locked j apart some = omega (arith, some, ap (count j) (slots_other k v.held.nodes), count-without_other j k (held_slots v.held.nodes) apart)

  unset_apart : Every (λ (u : UnsetLink). (u.node ≡ k → ⊥) × Unset (held_slots v.held.nodes) u) v.update.unset
  unset_apart =
      both_hold (λ (u : UnsetLink). u.node ≡ k → ⊥) (Unset (held_slots v.held.nodes)) v.update.unset
      (none_passing (λ (u : UnsetLink). eqb u.node k) (λ (u : UnsetLink). u.node ≡ k → ⊥) v.update.unset (λ u off. not_at u.node k off) parts.0) seat.unset

  owed_apart : Every (λ (o : OwedTag). (o.node ≡ k → ⊥) × OwedRight tree (held_slots v.held.nodes) o) v.update.owed
  owed_apart =
      both_hold (λ (o : OwedTag). o.node ≡ k → ⊥) (OwedRight tree (held_slots v.held.nodes)) v.update.owed
      (none_passing (λ (o : OwedTag). eqb o.node k) (λ (o : OwedTag). o.node ≡ k → ⊥) v.update.owed (λ o off. not_at o.node k off) parts.1) seat.owed

  unset_now : Every (Unset (held_slots others)) v.update.unset
  unset_now =
      every_map (λ (u : UnsetLink). (u.node ≡ k → ⊥) × Unset (held_slots v.held.nodes) u) (Unset (held_slots others)) v.update.unset
      (λ u is. record { there = is.1.there; held = still_locked u.node is.0 is.1.held; before = is.1.before; asked = is.1.asked }) unset_apart

  owed_now : Every (OwedRight tree (held_slots others)) v.update.owed
  owed_now =
      every_map (λ (o : OwedTag). (o.node ≡ k → ⊥) × OwedRight tree (held_slots v.held.nodes) o) (OwedRight tree (held_slots others)) v.update.owed
      (λ o is. record { there = is.1.there; held = still_locked o.node is.0 is.1.held }) owed_apart

  -- with the last lock nothing is left to be done
  pub last_unset : eqb (length others) 0 ≡ true → v.update.unset ≡ []
  last_unset none =
      none_left v.update.unset (every_map (Unset (held_slots others)) (λ u. ⊥) v.update.unset (λ u is. unlocked u.node others none is.held) unset_now)
    where
      unlocked : (j : ℕ) (hs : List HeldNode) → eqb (length hs) 0 ≡ true → 0 < count j (held_slots hs) → ⊥
      unlocked j [] none some = omega (arith, some)
      unlocked j (h ∷ hs) none some = let long : length (h ∷ hs) ≡ 0 = eqb-true (length (h ∷ hs)) 0 none in omega arith

  last_owed : eqb (length others) 0 ≡ true → v.update.owed ≡ []
  last_owed none =
      none_left v.update.owed (every_map (OwedRight tree (held_slots others)) (λ o. ⊥) v.update.owed (λ o is. unlocked o.node others none is.held) owed_now)
    where
      unlocked : (j : ℕ) (hs : List HeldNode) → eqb (length hs) 0 ≡ true → 0 < count j (held_slots hs) → ⊥
      unlocked j [] none some = omega (arith, some)
      unlocked j (h ∷ hs) none some = let long : length (h ∷ hs) ≡ 0 = eqb-true (length (h ∷ hs)) 0 none in omega arith

  unlocked_by : (b : Bool) → eqb (length others) 0 ≡ b → LinksRight link tag child greatest tree (set vs i (after b))
  unlocked_by true none =
      plain_seat link tag child greatest tree vs i v (after true) at right
      (λ j side. sym (ap (λ (us : List UnsetLink). length (filter (is_link_of j side) us)) (last_unset none)))
      (λ j side. sym (ap (λ (os : List OwedTag). length (filter (is_owed_at j side) os)) (last_owed none)))
      (idle_seat link tag child greatest tree (after true) refl)
  unlocked_by false some =
      plain_seat link tag child greatest tree vs i v (after false) at right (λ j side. refl) (λ j side. refl)
      (record { unset = unset_now; owed = owed_now; first = seat.first })

  pub plain_unlocked : LinksRight link tag child greatest tree (set vs i (unlocked_view v k))
  plain_unlocked = unlocked_by (eqb (length others) 0) refl
