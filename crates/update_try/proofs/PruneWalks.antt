-- What a step of a prune leaves as it was, its looks at the other passes, and the part of a bundle that it has walked.
use Rattle.std.proofs.Common.{◌≡◌, ℕ, ◌+◌, ◌<◌, ◌≤◌, ◌⊎◌, List, [], ◌∷◌, ◌++◌, Bool, true, false, eqb, refl, ap, sym, ◌∙◌, subst, arith, inl, inr, Some}
use Rattle.std.specs.Prelude.{is_some}
use Rattle.std.proofs.lemmas.Bool.{cases_lt}
use Rattle.std.proofs.lemmas.Bool.Decides.{nat_tests}
use Rattle.index_words.specs.declared.layout.Layout.{Layout}
use Rattle.index_words.specs.declared.view.View.{View}
use Rattle.index_words.specs.declared.view.update.HeldNode.{HeldNode}
use Rattle.key_map.specs.Lists.{has, IsItem}
use Rattle.key_map.proofs.Counting.{count-append, count-has, has-count}
use Rattle.core_grace.specs.Batches.{all_passed, is_number}
use Rattle.core_grace.specs.Progress.{PassedOthers}
use Rattle.core_events.specs.Announcing.{ann_loaded, lowered, smaller}
use Rattle.core_invariant.proofs.Frames.{one_counted}
use Rattle.core_laws.specs.ViewNeeds.{MayLookAnn}
use Rattle.core_laws.specs.Cuts.{HasWalkedAt, HasWalkedTo}
use Rattle.core_trees.specs.declared.link.Link.{Link}
use Rattle.core_updates.specs.PlanEvents.{HoldsEntry}
use Rattle.plan_laws.specs.Prunes.{KeepsPruned}
use Rattle.plan_laws.proofs.Prunes.{cut_step, prune_step, keeps_pruned}
use Rattle.update_try.specs.Pruning.{KeepsUpdate, KeepsLeast, KeepsPlace, HasLookedAt, IsLeast}
use Rattle.update_try.specs.Walked.{KeepsNexts}
use Rattle.update_try.specs.declared.pruning.Least.{Least}

pub pruned_same : (v : View) → KeepsPruned v v
pruned_same v = record {
  layout = refl;
  joined = refl;
  number = refl;
  history = refl;
  free = refl;
  batch = refl;
  nodes = refl;
  entries = omega arith;
  grown = record { busy = omega arith; waits = omega arith; moves = omega arith };
  waits = refl;
}

pub update_same : (v : View) → KeepsUpdate v v
update_same v = record {
  numbered = λ n plan slots h. record { numbered = h; keeps = pruned_same v };
  cutting = λ n nodes c. record { cutting = c; unmarked = λ k is. is; keeps = pruned_same v };
}

pub update_more : (u v w : View) → KeepsUpdate u v → KeepsUpdate v w → KeepsUpdate u w
update_more u v w first second = record {
  numbered = λ n plan slots h.
      let one = first.numbered n plan slots h in
      let two = second.numbered n plan slots one.numbered in
      record { numbered = two.numbered; keeps = keeps_pruned u v w one.keeps two.keeps };
  cutting = λ n nodes c.
      let one = first.cutting n nodes c in
      let two = second.cutting n nodes one.cutting in
      record { cutting = two.cutting; unmarked = λ k is. two.unmarked k (one.unmarked k is); keeps = keeps_pruned u v w one.keeps two.keeps };
}

pub least_same : (v : View) → KeepsLeast v v
least_same v = record { section = refl; least = refl; looked = refl; number = refl; layout = refl; taken = refl }

pub least_more : (u v w : View) → KeepsLeast u v → KeepsLeast v w → KeepsLeast u w
least_more u v w first second = record {
  section = second.section ∙ first.section;
  least = second.least ∙ first.least;
  looked = second.looked ∙ first.looked;
  number = second.number ∙ first.number;
  layout = second.layout ∙ first.layout;
  taken = second.taken ∙ first.taken;
}

-- one more item
has_before : (n p : ℕ) (xs : List ℕ) → has n xs ≡ true → has n (xs ++ p ∷ []) ≡ true
has_before n p xs is = count-has n (xs ++ p ∷ []) (omega (arith, has-count n xs is, count-append n xs (p ∷ [])))

has_last : (p : ℕ) (xs : List ℕ) → has p (xs ++ p ∷ []) ≡ true
has_last p xs = count-has p (xs ++ p ∷ []) (omega (arith, count-append p xs (p ∷ []), one_counted p 0))

pub place_same : (v : View) → KeepsPlace v v
place_same v = record { held = refl; place = refl; layout = refl; taken = refl; pending = refl }

pub place_more : (u v w : View) → KeepsPlace u v → KeepsPlace v w → KeepsPlace u w
place_more u v w first second = record {
  held = second.held ∙ first.held;
  place = second.place ∙ first.place;
  layout = second.layout ∙ first.layout;
  taken = second.taken ∙ first.taken;
  pending = second.pending ∙ first.pending;
}

-- a pass does not look at itself
pub skips_own : (v : View) (other number : ℕ) → is_number other v.number ≡ true → v.reading.least ≡ Some number → HasLookedAt v other number number v
skips_own v other number own least = record {
  section = refl;
  least = least;
  lower = omega arith;
  own = refl;
  looked = λ apart. absurd (clash (is_number other v.number) own apart);
  before = λ n is. is;
  place = place_same v;
}
  where
    clash : (b : Bool) → b ≡ true → b ≡ false → ⊥
    clash true t f = cc
    clash false t f = cc

-- a look at another pass
module _ (v w : View) (other word number : ℕ) (is : w ≡ ann_loaded v other word) where
  pub looked_update : KeepsUpdate v w
  looked_update = subst (λ (u : View). KeepsUpdate v u) (sym is) (record { numbered = λ n plan slots h. (prune_step v n plan slots h).looked other word; cutting = λ n nodes c. (cut_step v n nodes c).looked other word })

  pub looked_other : v.reading.least ≡ Some number → smaller number word ≤ number → HasLookedAt v other number (smaller number word) w
  looked_other least low = subst (HasLookedAt v other number (smaller number word)) (sym is) (record {
    section = refl;
    least = ap (λ o. lowered o word) least;
    lower = low;
    own = refl;
    looked = λ apart. has_last other v.reading.looked;
    before = λ n before. has_before n other v.reading.looked before;
    place = record { held = refl; place = refl; layout = refl; taken = refl; pending = refl };
  })

-- it has looked at one more of the others
pub looked_next : (v w : View) (other number low : ℕ) → HasLookedAt v other number low w → PassedOthers other v.number v.reading.looked → PassedOthers (other + 1) w.number w.reading.looked
looked_next v w other number low looks before n below apart = by (cases_lt n other)
  where
    by : (n < other) ⊎ (other ≤ n) → has n w.reading.looked ≡ true
    by (inl less) = looks.before n (before n less (subst (λ o. is_number n o ≡ false) looks.own apart))
    by (inr more) =
        let same : n ≡ other = omega (arith, more, below) in
        subst (λ k. has k w.reading.looked ≡ true) (sym same) (looks.looked (subst (λ k. is_number k w.number ≡ false) same apart))

-- the announcement of another pass may be looked at
pub may_look : (v : View) (other : ℕ) → is_number other v.number ≡ false → other < v.layout.passes → is_some v.reading.section ≡ true → MayLookAnn v other
may_look v other apart there reads = record { other = λ own. absurd (clash (is_number other v.number) apart (ap (is_number other) own ∙ same other)); there = there; reads = reads }
  where
    same : (n : ℕ) → eqb n n ≡ true
    same n = grind (arith, nat_tests)

    clash : (b : Bool) → b ≡ false → b ≡ true → ⊥
    clash true f t = cc
    clash false f t = cc

-- what is known of a head stays with the locked nodes
pub holds_still : (v w : View) (at : Link) (head : ℕ) → w.held.nodes ≡ v.held.nodes → HoldsEntry v at head → HoldsEntry w at head
holds_still v w at head same h = record {
  head = record {
    place = h.head.place;
    held = h.head.held;
    at = subst (λ (hs : List HeldNode). IsItem hs h.head.place h.head.held) (sym same) h.head.at;
    node_is = h.head.node_is;
    loaded = h.head.loaded;
    head = h.head.head;
    entry_is = h.head.entry_is;
  };
  unmarked = h.unmarked;
}

-- what was found of the entries is kept
pub walked_kept : (v w : View) (node entry number next : ℕ) → KeepsNexts v w → HasWalkedAt v node entry number next → HasWalkedAt w node entry number next
walked_kept v w node entry number next keeps at = record { place = at.place; is = keeps at.place (record { node = node; entry = entry; stamp = Some number; next = next }) at.is; written = at.written }

pub walk_kept : (v w : View) (node least from last : ℕ) (front : List ℕ) → KeepsNexts v w → HasWalkedTo v node least from front last → HasWalkedTo w node least from front last
walk_kept v w node least from last [] keeps walk = walk
walk_kept v w node least from last (e ∷ es) keeps walk =
    let past = walk.1 in
    (walk.0, record { number = past.number; next = past.next; walked = walked_kept v w node e past.number past.next keeps past.walked; above = past.above }, walk_kept v w node least past.next last es keeps walk.2)

-- and one entry more
pub walk_more : (v : View) (node least from last number next : ℕ) (front : List ℕ) → HasWalkedTo v node least from front last → HasWalkedAt v node last number next → least < number
    → HasWalkedTo v node least from (front ++ last ∷ []) next
walk_more v node least from last number next [] walk here above = (walk, record { number = number; next = next; walked = here; above = above }, refl)
walk_more v node least from last number next (e ∷ es) walk here above = (walk.0, walk.1, walk_more v node least walk.1.next last number next es walk.2 here above)

-- the least number may fall
pub walk_lower : (v : View) (node least low from last : ℕ) (front : List ℕ) → low ≤ least → HasWalkedTo v node least from front last → HasWalkedTo v node low from front last
walk_lower v node least low from last [] le walk = walk
walk_lower v node least low from last (e ∷ es) le walk =
    let past = walk.1 in
    (walk.0, record { number = past.number; next = past.next; walked = past.walked; above = omega (arith, le, past.above) }, walk_lower v node least low past.next last es le walk.2)

pub least_still : (v w : View) (l : Least) → KeepsLeast v w → IsLeast v l → IsLeast w l
least_still v w l keeps is = record {
  reads = ap is_some keeps.section ∙ is.reads;
  least = keeps.least ∙ is.least;
  looked = λ told.
      ap (λ (z : Layout). all_passed z.passes w.number w.reading.looked) keeps.layout ∙ ap (λ n. all_passed v.layout.passes n w.reading.looked) keeps.number
      ∙ ap (all_passed v.layout.passes v.number) keeps.looked ∙ is.looked told;
}
