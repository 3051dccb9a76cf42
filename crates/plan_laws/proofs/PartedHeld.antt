-- What is known of the locked nodes in the steps around the wait of a removal.
use Rattle.std.proofs.Common.{◌≡◌, ℕ, ◌<◌, ◌⊎◌, inl, inr, List, [], ◌∷◌, map, Bool, true, false, not, cond, eqb, ◌||◌, ◌&&◌, refl, ap, sym, ◌∙◌, subst, arith, Option, Some, None}
use Rattle.std.specs.List.{list_any, list_all}
use Rattle.std.proofs.lemmas.Bool.{and_from}
use Rattle.std.proofs.lemmas.Bool.Decides.{nat_tests}
use Rattle.index_words.specs.declared.side.Side.{Side}
use Rattle.index_words.specs.declared.side.Side.TheVariants.{Left, Right}
use Rattle.index_words.specs.declared.view.update.HeldNode.{HeldNode}
use Rattle.index_words.specs.declared.view.update.OwedTag.{OwedTag}
use Rattle.index_words.specs.declared.view.update.Unlinking.{Unlinking}
use Rattle.index_words.specs.declared.view.update.UnsetLink.{UnsetLink}
use Rattle.index_words.specs.declared.view.update.Updating.{Updating}
use Rattle.index_words.specs.Words.{same_side}
use Rattle.key_map.specs.Lists.{count, has, Every}
use Rattle.core_grace.specs.Batches.{is_number}
use Rattle.core_grace.specs.Holds.{held_slots}
use Rattle.core_events.specs.LockMoves.{mark_known, other_nodes}
use Rattle.core_events.specs.Needs.{is_successor}
use Rattle.core_events.specs.PlainMoves.{link_known, link_known_at}
use Rattle.core_events.specs.PlainNeeds.{sets_others}
use Rattle.core_events.specs.UpdateNeeds.{held_at, side_of}
use Rattle.core_events.specs.Waits.{keeps_lock}
use Rattle.core_invariant.proofs.Sides.{same_side-refl}
use Rattle.core_laws.specs.ViewNeeds.{IsKnownMarked}
use Rattle.core_updates.specs.SetLinks.{SetLink, set_of, nulls_of}
use Rattle.plan_laws.proofs.PlainLinks.{same-node}
use Rattle.plan_laws.proofs.Releases.{every-by}

pub some-is : (x h : HeldNode) → Some x ≡ Some h → x ≡ h
some-is x h is = cc

pub clash : (b : Bool) → b ≡ true → b ≡ false → ⊥
clash b is isnt = cc

-- a node is found among the locked ones where another one was given back
pub held-others : (k a : ℕ) → eqb a k ≡ false → (hs : List HeldNode) → held_at k (other_nodes a hs) ≡ held_at k hs
held-others k a apart [] = refl
held-others k a apart (x ∷ hs) = by (eqb x.node a) refl (held-others k a apart hs)
  where
    off : eqb x.node a ≡ true → eqb x.node k ≡ false
    off e = grind (arith, nat_tests, e, apart)

    by : (b : Bool) → eqb x.node a ≡ b → held_at k (other_nodes a hs) ≡ held_at k hs
        → held_at k (cond (not b) (x ∷ other_nodes a hs) (other_nodes a hs)) ≡ held_at k (x ∷ hs)
    by true e more = more ∙ sym (ap (λ c. cond c (Some x) (held_at k hs)) (off e))
    by false e more = ap (λ (o : Option HeldNode). cond (eqb x.node k) (Some x) o) more

-- the parts of a node that a load or a store of another part leaves as they were
pub link-tag : (k x : ℕ) (side s : Side) (h : HeldNode) → (side_of s (link_known_at k side x h)).tag ≡ (side_of s h).tag
link-tag k x side s h = by (eqb h.node k) side s
  where
    by : (b : Bool) (side s : Side) → (side_of s (cond b (link_known side x h) h)).tag ≡ (side_of s h).tag
    by true Left Left = refl
    by true Left Right = refl
    by true Right Left = refl
    by true Right Right = refl
    by false side s = refl

pub mark-tag : (k x : ℕ) (s : Side) (h : HeldNode) → (side_of s (mark_known k x h)).tag ≡ (side_of s h).tag
mark-tag k x s h = by (eqb h.node k) s
  where
    by : (b : Bool) (s : Side) → (side_of s (cond b (record h { mark = Some x }) h)).tag ≡ (side_of s h).tag
    by true Left = refl
    by _ _ = refl

pub mark-other : (k x : ℕ) (h : HeldNode) → eqb h.node k ≡ false → (mark_known k x h).mark ≡ h.mark
mark-other k x h apart = ap (λ b. (cond b (record h { mark = Some x }) h).mark) apart

-- which of the nodes that the update took out are known to be marked
pub known-same : (u w : Updating) (hs : List HeldNode) → w.taken ≡ u.taken → w.unlinking ≡ u.unlinking → Every (IsKnownMarked u) hs → Every (IsKnownMarked w) hs
known-same u w hs taken unlinking all =
    every-by (IsKnownMarked u) (IsKnownMarked w) hs
    (λ h marked some. elim (marked (subst (λ ks. 0 < count h.node ks) taken some)) as (λ _. (h.mark ≡ Some 1) ⊎ (is_successor h.node w.unlinking ≡ true)) [
      | inl one ↦ inl one
      | inr last ↦ inr (ap (is_successor h.node) unlinking ∙ last)
    ])
    all

pub known-map : (f : HeldNode → HeldNode) → ((h : HeldNode) → (f h).node ≡ h.node) → ((h : HeldNode) → (f h).mark ≡ h.mark)
    → (u : Updating) (hs : List HeldNode)
    → Every (IsKnownMarked u) hs → Every (IsKnownMarked u) (map f hs)
known-map f node mark u [] all = tt
known-map f node mark u (h ∷ hs) all = (
  λ some. elim (all.0 (subst (λ k. 0 < count k u.taken) (node h) some)) as (λ _. ((f h).mark ≡ Some 1) ⊎ (is_successor (f h).node u.unlinking ≡ true)) [
    | inl one ↦ inl (mark h ∙ one)
    | inr last ↦ inr (ap (λ k. is_successor k u.unlinking) (node h) ∙ last)
  ],
  known-map f node mark u hs all.1,
)

pub known-marks : (k : ℕ) (u : Updating) (hs : List HeldNode) → Every (IsKnownMarked u) hs → Every (IsKnownMarked u) (map (mark_known k 1) hs)
known-marks k u [] all = tt
known-marks k u (h ∷ hs) all = (by (eqb h.node k) all.0, known-marks k u hs all.1)
  where
    by : (b : Bool) → IsKnownMarked u h → IsKnownMarked u (cond b (record h { mark = Some 1 }) h)
    by true marked = λ some. inl refl
    by false marked = marked

-- the first node that an update took out is marked, and the second one is the successor
pub known-first : (n : ℕ) (x : Unlinking) (u : Updating) (hs : List HeldNode) → u.taken ≡ n ∷ x.successor ∷ [] → u.unlinking ≡ Some x
    → Every (IsKnownMarked u) (map (mark_known n 1) hs)
known-first n x u [] taken last = tt
known-first n x u (h ∷ hs) taken last = (by (eqb h.node n) refl, known-first n x u hs taken last)
  where
    second : (a b c : ℕ) → 0 < count a (b ∷ c ∷ []) → eqb a b ≡ false → eqb c a ≡ true
    second a b c some apart = grind (arith, nat_tests)

    by : (b : Bool) → eqb h.node n ≡ b → IsKnownMarked u (cond b (record h { mark = Some 1 }) h)
    by true e = λ some. inl refl
    by false e = λ some. inr (ap (is_successor h.node) last ∙ second h.node n x.successor (subst (λ ks. 0 < count h.node ks) taken some) e)

-- the one link that is left to be set
pub one-link : (s : SetLink) (us : List UnsetLink) → map set_of us ≡ s ∷ [] → sets_others s.at.node s.at.side us ≡ false
one-link s (u ∷ []) e =
    let same : set_of u ≡ s = cc in
    ap (λ b. not b || false)
    (subst (λ (t : SetLink). (eqb t.at.node s.at.node && same_side t.at.side s.at.side) ≡ true) (sym same)
    (and_from (eqb s.at.node s.at.node) (same_side s.at.side s.at.side) (same-node s.at.node) (same_side-refl s.at.side)))
one-link s _ e = cc

pub none-set : (s : SetLink) (k : ℕ) (us : List UnsetLink) → map set_of us ≡ s ∷ [] → eqb s.at.node k ≡ false
    → list_any (λ (x : UnsetLink). eqb x.node k) us ≡ false
none-set s k (u ∷ []) e apart =
    let same : set_of u ≡ s = cc in
    ap (λ b. b || false) (ap (λ (t : SetLink). eqb t.at.node k) same ∙ apart)
none-set s k _ e apart = cc

pub none-owed : (s : SetLink) (k : ℕ) → eqb s.at.node k ≡ false → list_any (λ (o : OwedTag). eqb o.node k) (nulls_of (s ∷ [])) ≡ false
none-owed s k apart = by (eqb s.child 0)
  where
    by : (b : Bool) → list_any (λ (o : OwedTag). eqb o.node k) (cond b (record { node = s.at.node; side = s.at.side } ∷ []) []) ≡ false
    by true = ap (λ b. b || false) apart
    by false = refl

-- the two locks that are kept
pub keeps-both : (x : Unlinking) (taken : List ℕ) (hs : List HeldNode) (h : HeldNode) → held_slots hs ≡ x.parent ∷ x.successor ∷ []
    → has x.successor taken ≡ true
    → held_at x.parent hs ≡ Some h → h.mark ≡ Some 0 → list_all (keeps_lock taken x) hs ≡ true
keeps-both x taken (a ∷ b ∷ []) h slots out here mark =
    let first : a.node ≡ x.parent = cc in
    let second : b.node ≡ x.successor = cc in
    let found : a ≡ h = some-is a h (sym (ap (λ c. cond c (Some a) (held_at x.parent (b ∷ []))) (ap (λ n. eqb n x.parent) first ∙ same-node x.parent))
    ∙ here) in
    let unmarked : is_number 0 a.mark ≡ true = ap (λ (y : HeldNode). is_number 0 y.mark) found ∙ ap (is_number 0) mark in
    let parent : keeps_lock taken x a ≡ true
    = or-last (eqb a.node x.successor && has a.node taken) (eqb a.node x.parent && is_number 0 a.mark)
    (and_from (eqb a.node x.parent) (is_number 0 a.mark) (ap (λ n. eqb n x.parent) first ∙ same-node x.parent) unmarked) in
    let successor : keeps_lock taken x b ≡ true
    = ap (λ c. c || (eqb b.node x.parent && is_number 0 b.mark))
    (and_from (eqb b.node x.successor) (has b.node taken) (ap (λ n. eqb n x.successor) second ∙ same-node x.successor) (ap (λ n. has n taken) second ∙ out)) in
    and_from (keeps_lock taken x a) (keeps_lock taken x b && true) parent (and_from (keeps_lock taken x b) true successor refl)
  where
    or-last : (p q : Bool) → q ≡ true → (p || q) ≡ true
    or-last true q is = refl
    or-last false q is = is
keeps-both x taken _ h slots out here mark = cc

-- where the successor is marked too, both are known to be marked that the update took out
pub both-marked : (x : Unlinking) (u : Updating) (hs : List HeldNode) (h : HeldNode) → held_slots hs ≡ x.parent ∷ x.successor ∷ []
    → eqb x.successor x.parent ≡ false
    → u.unlinking ≡ Some x → held_at x.successor hs ≡ Some h → h.mark ≡ Some 1 → Every (IsKnownMarked u) hs
    → Every (λ (y : HeldNode). 0 < count y.node u.taken → y.mark ≡ Some 1) hs
both-marked x u (a ∷ b ∷ []) h slots apart last here mark all =
    let first : a.node ≡ x.parent = cc in
    let second : b.node ≡ x.successor = cc in
    let off : eqb a.node x.successor ≡ false = ap (λ n. eqb n x.successor) first ∙ swap x.successor x.parent apart in
    let found : b ≡ h
    = some-is b h (sym (ap (λ c. cond c (Some a) (cond (eqb b.node x.successor) (Some b) None)) off ∙ ap (λ c. cond c (Some b) None)
    (ap (λ n. eqb n x.successor) second ∙ same-node x.successor)) ∙ here) in (
      λ some. elim (all.0 some) as (λ _. a.mark ≡ Some 1) [
        | inl one ↦ one
        | inr is ↦ absurd (clash (eqb x.successor a.node) (sym (ap (is_successor a.node) last) ∙ is) (ap (λ n. eqb x.successor n) first ∙ apart))
      ],
      (λ some. ap (λ (y : HeldNode). y.mark) found ∙ mark, tt),
    )
  where
    swap : (s q : ℕ) → eqb s q ≡ false → eqb q s ≡ false
    swap s q is = grind (arith, nat_tests)
both-marked x u _ h slots apart last here mark all = cc
