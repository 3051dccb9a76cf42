-- That nothing hangs after what is read of a bundle: by what a pass comes to know it.
use Rattle.std.proofs.Common.{◌≡◌, ℕ, ◌+◌, ◌<◌, ◌≤◌, ◌⊎◌, inl, inr, List, [], ◌∷◌, ◌++◌, length, cond, Bool, true, false, eqb, refl, ap, sym, ◌∙◌, subst, arith, Option, Some, None}
use Rattle.std.specs.Prelude.{◌==◌, nat_lt, IfSome}
use Rattle.std.specs.List.{slice_get}
use Rattle.std.proofs.lemmas.Bool.{cases_lt}
use Rattle.std.proofs.lemmas.Bool.Decides.{nat_tests, eqb_tells}
use Rattle.index_words.specs.declared.layout.Layout.{Layout}
use Rattle.index_words.specs.declared.side.Side.{Side}
use Rattle.index_words.specs.declared.side.Side.TheVariants.{Left, Right}
use Rattle.index_words.specs.declared.view.View.{View}
use Rattle.index_words.specs.declared.view.slots.Slots.{Slots}
use Rattle.index_words.specs.declared.word.Field.TheVariants.{Head, Mark}
use Rattle.index_words.specs.declared.word.Part.TheVariants.{Stamp as Number, Next}
use Rattle.index_words.specs.declared.word.Word.TheVariants.{Node, Entry}
use Rattle.index_words.specs.Words.{Memory, memory}
use Rattle.key_map.specs.Lists.{count, has, IsItem}
use Rattle.key_map.proofs.Counting.{count-append, has-count}
use Rattle.core_links.specs.Bundle.{IsChain}
use Rattle.core_links.proofs.Chains.{chain-same}
use Rattle.core_trees.specs.declared.link.Link.{Link}
use Rattle.core_events.specs.CutMoves.{cut_view}
use Rattle.core_events.specs.Versions.{slots_of}
use Rattle.core_invariant.specs.BundleRule.{IsLive}
use Rattle.core_invariant.specs.Locks.{IsNextAt, IsNodeAt}
use Rattle.core_invariant.specs.Meanings.{Meaning}
use Rattle.core_invariant.specs.Readers.{IsLocked}
use Rattle.core_invariant.specs.Rule.{InRule}
use Rattle.core_invariant.specs.SeatRule.{SeatRight}
use Rattle.core_invariant.proofs.Owned.{in_one_bundle}
use Rattle.core_invariant.proofs.Frames.{one_counted}
use Rattle.core_invariant.proofs.Locked.{still_linked}
use Rattle.core_invariant.proofs.OneView.{seat_at}
use Rattle.core_laws.specs.Cuts.{HasWalkedAt, HasWalkedTo}
use Rattle.core_laws.proofs.Remembered.{every_item}
use Rattle.core_updates.specs.declared.plan.Plan.{Plan}
use Rattle.core_updates.specs.declared.plan.ReplacePlan.{ReplacePlan}
use Rattle.core_updates.specs.declared.plan.Plan.TheVariants.{Grow, Replace, Lift, Join}
use Rattle.core_updates.specs.Held.{HoldsHead}
use Rattle.core_updates.specs.PlanEvents.{HoldsEntry}
use Rattle.core_updates.specs.Plans.{link_at, link_of, next_link_of}
use Rattle.plan_laws.specs.Places.{LocksOnce}
use Rattle.plan_laws.specs.Prunes.{KeepsPruned}
use Rattle.table_rule.proofs.Lists.{item_at}
use Rattle.table_steps.specs.Raises.{HoldsChain}
use Rattle.table_steps.proofs.RaiseFacts.{chain_known, head_known, held_live_node}
use Rattle.update_try.specs.Pruning.{EndsAtLeast, HasGonePast, HasStopped, IsLastOf, IsPruned, IsPrunedNode, KeepsOthers, PrunesFound, walk_limit}
use Rattle.update_try.specs.Walked.{HoldsPart, KeepsNexts}
use Rattle.update_try.specs.declared.pruning.Stop.{Stop}
use Rattle.update_try.proofs.FoundHeads.{heads_still}
use Rattle.update_try.proofs.LockedBundles.{part_kept}
use Rattle.update_try.proofs.Pruned.{unmarked_locked}
use Rattle.update_try.proofs.KeptWalks.{chain_once, Apart, walked_cut, walked_end, walk_cut}

-- a part of a chain, and the rest of it
part_on : (v : View) (node head entry : ℕ) (es back : List ℕ) → HoldsPart v node head es entry → HoldsChain v node entry back → HoldsChain v node head (es ++ back)
part_on v node head entry [] back part chain = subst (λ h. HoldsChain v node h back) (sym part) chain
part_on v node head entry (e ∷ es) back part chain = (part.0, part.1, (part.2.0, part.2.1, part_on v node part.2.0 entry es back part.2.2 chain))

absent : (d : ℕ) (xs : List ℕ) → count d xs ≡ 0 → has d xs ≡ false
absent d xs none = by (has d xs) refl
  where
    by : (b : Bool) → has d xs ≡ b → b ≡ false
    by true is = absurd (omega (arith, none, has-count d xs is))
    by false is = refl

-- In a table that meets the rule: a pass has walked along a bundle of a locked node, which stays in the tree, to its end.
module _ (z : Layout) (words : List ℕ) (vs : List View) (right : InRule z words vs) (i : ℕ) (v : View) (is : slice_get vs i ≡ Some v) (at : Link) (head e : ℕ) (front back : List ℕ)
    (holds : HoldsEntry v at head) (stays : count at.node v.update.taken ≡ 0) (whole : HoldsChain v at.node head (front ++ e ∷ back)) where
  abbrev m : Memory
  m = memory z words

  abbrev g : Meaning
  g = right.meaning

  abbrev next : ℕ → ℕ
  next d = m (Entry Next d)

  abbrev all : List ℕ
  all = front ++ e ∷ back

  at_seat : IsItem vs i v
  at_seat = item_at vs i v is

  seat : SeatRight z m g v
  seat = seat_at z m vs g i v at_seat right.rule

  live : IsLive z vs at.node
  live = held_live_node z words vs right i v is at.node at.side head holds.head

  chain : IsChain next (m (Node (Head at.side) at.node)) all
  chain = subst (λ h. IsChain next h all) (sym (head_known z words vs right i v is at.node at.side head holds.head)) (chain_known z words vs right i v is at.node head all whole)

  splits : g.bundles.bundle at.side at.node ≡ all
  splits = chain-same next (m (Node (Head at.side) at.node)) (g.bundles.bundle at.side at.node) all (right.rule.bundles at.node live at.side).chain chain

  once : (d : ℕ) → count d all ≤ 1
  once d = chain_once next (m (Node (Head at.side) at.node)) d all chain

  counts : (d : ℕ) → count d all ≡ count d front + (cond (eqb e d) 1 0 + count d back)
  counts d = count-append d front (e ∷ back)

  -- those in front of the entry are others than it, and than those behind
  pub front_apart : (d : ℕ) → 0 < count d front → Apart e back d
  front_apart d some = (absent d back (omega (arith, some, once d, counts d)), λ same. absurd (omega (arith, some, once d, counts d, itself d same)))
    where
      itself : (d : ℕ) → d ≡ e → 0 < cond (eqb e d) 1 0
      itself d same = grind (arith, nat_tests)

  pub end_apart : has e back ≡ false
  end_apart = absent e back (omega (arith, once e, counts e, itself e))
    where
      itself : (d : ℕ) → 0 < cond (eqb d d) 1 0
      itself d = grind (arith, nat_tests)

  locked : IsLocked v at.node
  locked = unmarked_locked v at.node (record { place = holds.head.place; held = holds.head.held; at = holds.head.at; node_is = holds.head.node_is; is = holds.unmarked })

  unmarked : m (Node Mark at.node) ≡ 0
  unmarked =
      subst (λ k. m (Node Mark k) ≡ 0) holds.head.node_is
      (subst (λ (f : Option ℕ). IfSome f (λ x. m (Node Mark holds.head.held.node) ≡ x)) holds.unmarked (every_item (IsNodeAt m) v.held.nodes holds.head.place holds.head.held holds.head.at seat.loaded.nodes).mark)

  linked : count at.node (0 ∷ slots_of g.tree) ≡ 1
  linked = still_linked z m vs g right.rule i at.node v at_seat locked stays unmarked

  pub cut_ends : (least number after : ℕ) → HasWalkedTo v at.node least head front e → HasWalkedAt v at.node e number after → EndsAtLeast (cut_view v e back) at least
  cut_ends least number after walk here = record {
    head = head;
    held = (heads_still v (cut_view v e back) refl).head at.node head at.side holds.head;
    front = front;
    last = e;
    walked = walk_cut v e back at.node least head e front walk front_apart;
    ends = inr (number, walked_end v e back at.node number after here end_apart);
  }

  -- each entry that was found in the bundle of another link is another one than the entry and those behind it
  module _ (l : Link) (other : ¬ (l ≡ at)) (start : ℕ) (found : HoldsHead v l.node l.side start) where
    live_other : IsLive z vs l.node
    live_other = held_live_node z words vs right i v is l.node l.side start found

    abbrev bundle : List ℕ
    bundle = g.bundles.bundle l.side l.node

    chain_other : IsChain next start bundle
    chain_other = subst (λ h. IsChain next h bundle) (head_known z words vs right i v is l.node l.side start found) (right.rule.bundles l.node live_other l.side).chain

    not_in : (d : ℕ) → 0 < count d bundle → 0 < count d all → ⊥
    not_in d here within =
        in_one_bundle z vs g right.rule.slots at.node d at.side (omega (arith, linked)) (subst (λ es. 0 < count d es) (sym splits) within) l.node l.side live_other
        (λ side node. other (same_link l.node at.node l.side at.side node side)) here
      where
        same_link : (n k : ℕ) (s t : Side) → n ≡ k → s ≡ t → link_of n s ≡ link_of k t
        same_link n k s t node side = ap (λ x. link_of x s) node ∙ ap (link_of k) side

    elsewhere : (d : ℕ) → 0 < count d bundle → Apart e back d
    elsewhere d here = (absent d back (none (cases_lt 0 (count d back))), λ same. not_in d here (omega (arith, counts d, itself d same)))
      where
        itself : (d : ℕ) → d ≡ e → 0 < cond (eqb e d) 1 0
        itself d same = grind (arith, nat_tests)

        none : (0 < count d back) ⊎ (count d back ≤ 0) → count d back ≡ 0
        none (inl some) = absurd (not_in d here (omega (arith, some, counts d)))
        none (inr few) = omega (arith, few)

    -- what was loaded of an entry is what the words hold
    loaded_is : (d number after : ℕ) → HasWalkedAt v l.node d number after → (m (Entry Number d) ≡ number) × (next d ≡ after)
    loaded_is d number after by =
        let known = every_item (IsNextAt m g.bundles v.held.nodes) v.held.nexts by.place _ by.is seat.loaded.nexts in
        (known.found by.written, known.is)

    unwritten : m (Entry Number 0) ≡ 0
    unwritten = refl

    some_entry : (d number after : ℕ) → HasWalkedAt v l.node d number after → d ≡ 0 → ⊥
    some_entry d number after by none =
        let found : m (Entry Number d) ≡ number = (loaded_is d number after by).0 in
        omega (arith, by.written, sym found, ap (λ x. m (Entry Number x)) none, unwritten)

    in_walk : (least from last d : ℕ) (past es : List ℕ) → IsChain next from es → HasWalkedTo v l.node least from past last → 0 < count d past → 0 < count d es
    in_walk least from last d [] es chain walk some = absurd (omega (arith, some))
    in_walk least from last d (x ∷ past) [] chain walk some =
        absurd (some_entry x walk.1.number walk.1.next walk.1.walked (sym walk.0 ∙ chain))
    in_walk least from last d (x ∷ past) (y ∷ es) chain walk some =
        let same : y ≡ x = sym chain.0 ∙ walk.0 in
        let here = loaded_is x walk.1.number walk.1.next walk.1.walked in
        let below : IsChain next walk.1.next es = subst (λ h. IsChain next h es) (ap next same ∙ here.1) chain.2 in
        more (eqb_tells x d) same (λ rest. in_walk least walk.1.next last d past es below walk.2 rest)
      where
        behind : (x d n : ℕ) → (x ≡ d → ⊥) → 0 < cond (eqb x d) 1 0 + n → 0 < n
        behind x d n apart some = grind (arith, nat_tests)

        itself : (y d : ℕ) → y ≡ d → 0 < cond (eqb y d) 1 0
        itself y d same = grind (arith, nat_tests)

        more : ((eqb x d ≡ true) × (x ≡ d)) ⊎ ((eqb x d ≡ false) × (x ≡ d → ⊥)) → y ≡ x → (0 < count d past → 0 < count d es) → 0 < count d (y ∷ es)
        more (inl at_x) same rest = omega (arith, itself y d (same ∙ at_x.1))
        more (inr not_x) same rest = omega (arith, rest (behind x d (count d past) not_x.1 some))

    last_in : (least from last number after : ℕ) (past es : List ℕ) → IsChain next from es → HasWalkedTo v l.node least from past last → HasWalkedAt v l.node last number after
        → 0 < count last es
    last_in least from last number after [] [] chain walk here = absurd (some_entry last number after here (sym walk ∙ chain))
    last_in least from last number after [] (y ∷ es) chain walk here =
        let same : y ≡ last = sym chain.0 ∙ walk in subst (λ d. 0 < count d (y ∷ es)) same (one_counted y (count y es))
    last_in least from last number after (x ∷ past) [] chain walk here =
        absurd (some_entry x walk.1.number walk.1.next walk.1.walked (sym walk.0 ∙ chain))
    last_in least from last number after (x ∷ past) (y ∷ es) chain walk here =
        let same : y ≡ x = sym chain.0 ∙ walk.0 in
        let known = loaded_is x walk.1.number walk.1.next walk.1.walked in
        let below : IsChain next walk.1.next es = subst (λ h. IsChain next h es) (ap next same ∙ known.1) chain.2 in
        omega (arith, last_in least walk.1.next last number after past es below walk.2 here)

    walk_other : (least last : ℕ) (past : List ℕ) → HasWalkedTo v l.node least start past last → HasWalkedTo (cut_view v e back) l.node least start past last
    walk_other least last past walk =
        walk_cut v e back l.node least start last past walk (λ d some. elsewhere d (in_walk least start last d past bundle chain_other walk some))

    last_other : (least last : ℕ) (past : List ℕ) → HasWalkedTo v l.node least start past last → IsLastOf v l.node last → IsLastOf (cut_view v e back) l.node last
    last_other least last past walk (inl none) = inl none
    last_other least last past walk (inr by) =
        inr (by.0, walked_cut v e back l.node last by.0 0 by.1 (elsewhere last (last_in least start last by.0 0 past bundle chain_other walk by.1)))

  pub cut_others : KeepsOthers v at (cut_view v e back)
  cut_others l least limit other (inl ends) = inl (record {
    head = ends.head;
    held = (heads_still v (cut_view v e back) refl).head l.node ends.head l.side ends.held;
    front = ends.front;
    last = ends.last;
    walked = walk_other l other ends.head ends.held least ends.last ends.front ends.walked;
    ends = last_other l other ends.head ends.held least ends.last ends.front ends.walked ends.ends;
  })
  cut_others l least limit other (inr gone) = inr (record {
    head = gone.head;
    held = (heads_still v (cut_view v e back) refl).head l.node gone.head l.side gone.held;
    front = gone.front;
    next = gone.next;
    walked = walk_other l other gone.head gone.held least gone.next gone.front gone.walked;
    far = gone.far;
  })

-- a stop of a walk, and the rest of the bundle
pub stop_chain : (v w : View) (at : Link) (least head : ℕ) (front back : List ℕ) (stop : Stop) → HasStopped v at least head front stop → KeepsNexts v w → HoldsChain w at.node stop.next back
    → HoldsChain w at.node head (front ++ stop.entry ∷ back)
stop_chain v w at least head front back stop stopped nexts chain =
    subst (HoldsChain w at.node head) (joined front) (part_on w at.node head stop.next (front ++ stop.entry ∷ []) back (part_kept v w at.node head stop.next (front ++ stop.entry ∷ []) nexts stopped.part) chain)
  where
    joined : (xs : List ℕ) → (xs ++ stop.entry ∷ []) ++ back ≡ xs ++ stop.entry ∷ back
    joined [] = refl
    joined (x ∷ xs) = ap (λ ys. x ∷ ys) (joined xs)

-- what a walk has found where it ends
pub short_none : (v : View) (at : Link) (least limit head : ℕ) (front : List ℕ) (entry : ℕ) → HasGonePast v at least head front entry → entry ≡ 0 → IsPruned v at least limit
short_none v at least limit head front entry past none =
    inl (record { head = head; held = past.holds.head; front = front; last = entry; walked = past.walked; ends = inl none })

pub short_last : (v : View) (at : Link) (least limit head : ℕ) (front : List ℕ) (stop : Stop) → HasStopped v at least head front stop → stop.next ≡ 0 → IsPruned v at least limit
short_last v at least limit head front stop stopped none =
    inl (record {
      head = head;
      held = stopped.holds.head;
      front = front;
      last = stop.entry;
      walked = stopped.walked;
      ends = inr (stop.number, subst (HasWalkedAt v at.node stop.entry stop.number) none stopped.here);
    })

pub short_far : (v : View) (at : Link) (least limit head : ℕ) (front : List ℕ) (entry : ℕ) → HasGonePast v at least head front entry → limit ≤ length front → IsPruned v at least limit
short_far v at least limit head front entry past far = inr (record { head = head; held = past.holds.head; front = front; next = entry; walked = past.walked; far = far })

-- the two links of a removal in front of whose bundles it puts entries are different ones
pub fronts_apart : (plan : Plan) (at : Link) → LocksOnce plan → next_link_of plan ≡ Some at → ¬ (link_at plan ≡ at)
fronts_apart (Join p) at once is = by (p.next.at.node == p.node) refl is
  where
    twice : (a b : ℕ) → a ≡ b → 1 < cond (eqb a a) 1 0 + cond (eqb b a) 1 0
    twice a b same = grind (arith, nat_tests)

    by : (near : Bool) → (p.next.at.node == p.node) ≡ near → cond near None (Some p.next.at) ≡ Some at → ¬ (p.at ≡ at)
    by true e found = cc
    by false e found = λ same.
        let also : p.next.at ≡ at = cc in
        let one : p.at.node ≡ p.next.at.node = ap (λ (l : Link). l.node) (same ∙ sym also) in
        let few = once p.at.node in
        omega (arith, twice p.at.node p.next.at.node one, subst (λ ks. count p.at.node (p.at.node ∷ p.node ∷ (ks ++ p.next.node ∷ [])) ≤ 1) (ap (λ b. cond b [] (p.next.at.node ∷ [])) e) few)
fronts_apart _ at once is = cc

-- a node that a put replaces is another one than that of the link to it
pub found_apart : (plan : Plan) (p : ReplacePlan) → plan ≡ Replace p → LocksOnce plan → ¬ ((link_at plan).node ≡ p.node)
found_apart plan p is once = λ same. apart (subst LocksOnce is once) (sym (ap (λ (x : Plan). (link_at x).node) is) ∙ same)
  where
    twice : (a b : ℕ) → a ≡ b → 1 < cond (eqb a a) 1 0 + (cond (eqb b a) 1 0 + 0)
    twice a b same = grind (arith, nat_tests)

    apart : LocksOnce (Replace p) → p.at.node ≡ p.node → ⊥
    apart few same = omega (arith, few p.at.node, twice p.at.node p.node same)

pub prunes_replaced : (v : View) (plan : Plan) (p : ReplacePlan) (least limit : ℕ) → plan ≡ Replace p → IsPrunedNode v p.node least limit → PrunesFound v plan least limit
prunes_replaced v plan p least limit is both = subst (λ (x : Plan). PrunesFound v x least limit) (sym is) both

pub prunes_other : (v : View) (plan : Plan) (least limit : ℕ) → ((p : ReplacePlan) → plan ≡ Replace p → ⊥) → PrunesFound v plan least limit
prunes_other v (Replace p) least limit none = absurd (none p refl)
prunes_other v (Grow p) least limit none = tt
prunes_other v (Lift p) least limit none = tt
prunes_other v (Join p) least limit none = tt

-- the two links of a node are different ones
pub sides_apart : (node : ℕ) → ¬ (link_of node Left ≡ link_of node Right)
sides_apart node = λ same. left (ap (λ (l : Link). l.side) same)
  where
    left : Left ≡ Right → ⊥
    left same = cc

-- a pass owns as many free entries after the cuts as before
pub limit_is : (v w : View) → KeepsPruned v w → walk_limit v ≡ walk_limit w
limit_is v w keeps = ap (λ (s : Slots). cond (nat_lt (length s.entries) 16) 4294967295 64) (sym keeps.free)
