-- A raised insert: the plain tree matches the tree after it; and what stays matched, and ahead, at any raise.
use Rattle.std.proofs.Common.{ℕ, inl, inr, ◌<◌, ◌≤◌, refl, sym, ◌∙◌, subst, arith, ◌≡◌, ◌⊎◌}
use Rattle.index_words.specs.declared.side.Side.{Side}
use Rattle.index_words.specs.declared.side.Side.TheVariants.{Left, Right}
use Rattle.core_links.proofs.Compare.{compared, less, more, same}
use Rattle.core_trees.specs.NamedTree.{NamedTree, Null, Branch, IsWithin}
use Rattle.core_trees.specs.Gaps.{IsNull}
use Rattle.core_trees.specs.TreeStep.{first_pair, tree_put, put_here}
use Rattle.core_trees.proofs.Updates.{update-left, update-right, update-here}
use Rattle.plain_trees.specs.Matching.{Undone, IsUnset, IsBypassed, HasWayAhead, Same, Replaced, Copied, LiftedRight, LiftedLeft, Matches, AllBelow, IsOut}
use Rattle.plain_trees.specs.Matching.{IsOrderly, AllAbove}
use Rattle.plain_trees.specs.Raises.{Extends, IsFirst, AheadLaw, InsertLaw}
use Rattle.plain_trees.proofs.Points.{leads-keep, null-ends, leads-ends}
use Rattle.plain_trees.specs.Points.{point_of, EndsAtNull}
use Rattle.plain_trees.specs.Successors.{LeadsTo}

module _ (u u' : Undone) (extends : Extends u u') where
  pub ahead-more : (removed from until : ℕ) (t : NamedTree) → HasWayAhead u removed from until t → HasWayAhead u' removed from until t
  ahead-more removed from until t h =
      (h.0, extends.heirs removed h.0 h.1, λ x a b. leads-keep (IsBypassed u) (IsBypassed u') x h.0 t (λ z _. extends.passes z) (h.2 x a b))

  -- with more to be set, and more taken out, it still matches
  pub still : (p : ℕ) (d : Side) (plain now : NamedTree) → Matches u p d plain now → Matches u' p d plain now
  still p d Null Null h = inl tt
  still p d Null (Branch m k v l r) (inl h) = absurd h
  still p d Null (Branch m k v l r) (inr h) = inr (h.0, h.1, extends.links p d 0 m h.2)
  still p d (Branch c k v l r) Null (Same h) = absurd h
  still p d (Branch c k v l r) Null (Replaced o h) = absurd h
  still p d (Branch c k v l r) Null (Copied o h) = absurd h
  still p d (Branch c k v l r) Null (LiftedRight o h) = LiftedRight (extends.outs c o) (extends.passes c h.0, h.1, h.2, (h.3.0, extends.links p d c h.3.0 h.3.1), still p d r Null h.4)
  still p d (Branch c k v l r) Null (LiftedLeft o h) = LiftedLeft (extends.outs c o) (h.0, h.1, (h.2.0, extends.links p d c h.2.0 h.2.1), still p d l Null h.3)
  still p d (Branch c k v l r) (Branch m k' v' l' r') (Same h) = Same (h.0, h.1, still c Left l l' h.2, still c Right r r' h.3)
  still p d (Branch c k v l r) (Branch m k' v' l' r') (Replaced o h) =
      Replaced (extends.outs c o) (h.0, extends.links p d c m h.1, still m Left l l' h.2, still m Right r r' h.3)
  still p d (Branch c k v l r) (Branch m k' v' l' r') (Copied o h) =
      Copied (extends.outs c o) (h.0, extends.links p d c m h.1, h.2, ahead-more c k k' r h.3, still m Left l l' h.4, still m Right r r' h.5)
  still p d (Branch c k v l r) (Branch m k' v' l' r') (LiftedRight o h) =
      LiftedRight (extends.outs c o) (extends.passes c h.0, h.1, h.2, (h.3.0, extends.links p d c h.3.0 h.3.1), still p d r (Branch m k' v' l' r') h.4)
  still p d (Branch c k v l r) (Branch m k' v' l' r') (LiftedLeft o h) =
      LiftedLeft (extends.outs c o) (h.0, h.1, (h.2.0, extends.links p d c h.2.0 h.2.1), still p d l (Branch m k' v' l' r') h.3)

-- below a link that no update still has to set, it matches at any link
pub moved : (u : Undone) (p q : ℕ) (d w : Side) (plain now : NamedTree) → ((was child : ℕ) → IsUnset u p d was child → ⊥) → Matches u p d plain now → Matches u q w plain now
moved u p q d w Null Null settled h = inl tt
moved u p q d w Null (Branch m k v l r) settled (inl h) = absurd h
moved u p q d w Null (Branch m k v l r) settled (inr h) = absurd (settled 0 m h.2)
moved u p q d w (Branch c k v l r) now settled (Same h) = Same h
moved u p q d w (Branch c k v l r) Null settled (Replaced o h) = absurd h
moved u p q d w (Branch c k v l r) Null settled (Copied o h) = absurd h
moved u p q d w (Branch c k v l r) (Branch m k' v' l' r') settled (Replaced o h) = absurd (settled c m h.1)
moved u p q d w (Branch c k v l r) (Branch m k' v' l' r') settled (Copied o h) = absurd (settled c m h.1)
moved u p q d w (Branch c k v l r) now settled (LiftedRight o h) = absurd (settled c h.3.0 h.3.1)
moved u p q d w (Branch c k v l r) now settled (LiftedLeft o h) = absurd (settled c h.2.0 h.2.1)

-- Before a removal with two children raises, searches below the removed node reach the successor.
null-first : (s key : ℕ) (t : NamedTree) → IsNull t → IsFirst s key t → ⊥
null-first s key Null n h = h
null-first s key (Branch _ _ _ _ _) n h = n

pub first-until : (s key low high : ℕ) (t : NamedTree) → IsWithin low high t → IsFirst s key t → key < high
first-until s key low high Null within h = absurd h
first-until s key low high (Branch m k v l r) within (inl here) = omega (arith, within.1, here.2)
first-until s key low high (Branch m k v l r) within (inr below) = omega (arith, within.1, first-until s key low k l within.2 below)

pub has-first : (t k v : ℕ) (l r : NamedTree) → (s : ℕ) × IsFirst s (first_pair k v l).key (Branch t k v l r)
has-first t k v Null r = (t, inl (tt, refl, refl))
has-first t k v (Branch t' k' v' l' r') r = let below : (s : ℕ) × IsFirst s (first_pair k' v' l').key (Branch t' k' v' l' r') = has-first t' k' v' l' r' in (below.0, inr below.1)

pub first-from : (s key low high : ℕ) (t : NamedTree) → IsWithin low high t → IsFirst s key t → low ≤ key
first-from s key low high Null within h = absurd h
first-from s key low high (Branch m k v l r) within (inl here) = omega (arith, within.0, here.2)
first-from s key low high (Branch m k v l r) within (inr below) = first-from s key low k l within.2 below

pub first-below : (s key bound : ℕ) (t : NamedTree) → AllBelow bound t → IsFirst s key t → key < bound
first-below s key bound Null all h = absurd h
first-below s key bound (Branch m k v l r) all (inl here) = omega (arith, all.0, here.2)
first-below s key bound (Branch m k v l r) all (inr below) = first-below s key bound l all.1 below

module _ (u : Undone) (s : ℕ) where
  -- a null link of the tree at the stamp that no update still has to set is null in the plain tree
  pub null-plain : (p : ℕ) (d : Side) (plain now : NamedTree) → ((was child : ℕ) → IsUnset u p d was child → ⊥) → Matches u p d plain now → IsNull now → IsNull plain
  null-plain p d Null now settled h n = tt
  null-plain p d (Branch c k v l r) (Branch _ _ _ _ _) settled h n = absurd n
  null-plain p d (Branch c k v l r) Null settled (Same h) n = absurd h
  null-plain p d (Branch c k v l r) Null settled (Replaced o h) n = absurd h
  null-plain p d (Branch c k v l r) Null settled (Copied o h) n = absurd h
  null-plain p d (Branch c k v l r) Null settled (LiftedRight o h) n = absurd (settled c h.3.0 h.3.1)
  null-plain p d (Branch c k v l r) Null settled (LiftedLeft o h) n = absurd (settled c h.2.0 h.2.1)

  pub ahead : (key x : ℕ) → ((q : ℕ) (w : Side) (was : ℕ) → IsUnset u q w was s → ⊥) → ((w : Side) (was child : ℕ) → IsUnset u s w was child → ⊥) → x ≤ point_of key
      → (p low high : ℕ) (d : Side) (plain now : NamedTree) → Matches u p d plain now → IsWithin low high now → IsFirst s key now → LeadsTo (IsBypassed u) x s plain
  ahead key x brings settled most p low high d Null (Branch m k v l r) (inl h) within first = absurd h
  ahead key x brings settled most p low high d Null (Branch m k v l r) (inr h) within (inl here) = absurd (brings p d 0 (subst (IsUnset u p d 0) here.1 h.2))
  ahead key x brings settled most p low high d Null (Branch m k v l r) (inr h) within (inr below) = absurd (null-first s key l h.0 below)
  ahead key x brings settled most p low high d (Branch c k v l r) (Branch m k' v' l' r') (Same h) within (inl here) =
      inl (sym here.1 ∙ h.0, null-plain c Left l l' (λ was child i. settled Left was child (subst (λ z. IsUnset u z Left was child) (sym h.0 ∙ here.1) i)) h.2 here.0, omega (arith, most, here.2, h.1))
  ahead key x brings settled most p low high d (Branch c k v l r) (Branch m k' v' l' r') (Same h) within (inr below) =
      let b : key < k' = first-until s key low k' l' within.2 below in
      inr (inl (omega (arith, most, b, h.1), ahead key x brings settled most c low k' Left l l' h.2 within.2 below))
  ahead key x brings settled most p low high d (Branch c k v l r) (Branch m k' v' l' r') (Replaced o h) within (inl here) = absurd (brings p d c (subst (IsUnset u p d c) here.1 h.1))
  ahead key x brings settled most p low high d (Branch c k v l r) (Branch m k' v' l' r') (Replaced o h) within (inr below) =
      let b : key < k' = first-until s key low k' l' within.2 below in
      inr (inl (omega (arith, most, b, h.0), ahead key x brings settled most m low k' Left l l' h.2 within.2 below))
  ahead key x brings settled most p low high d (Branch c k v l r) (Branch m k' v' l' r') (Copied o h) within (inl here) = absurd (brings p d c (subst (IsUnset u p d c) here.1 h.1))
  ahead key x brings settled most p low high d (Branch c k v l r) (Branch m k' v' l' r') (Copied o h) within (inr below) =
      let b : key < k = first-below s key k l' h.2 below in
      inr (inl (omega (arith, most, b), ahead key x brings settled most m low k' Left l l' h.4 within.2 below))
  ahead key x brings settled most p low high d (Branch c k v l r) (Branch m k' v' l' r') (LiftedRight o h) within first =
      inr (inr (h.0, h.1, ahead key x brings settled most p low high d r (Branch m k' v' l' r') h.4 within first))
  ahead key x brings settled most p low high d (Branch c k v l r) (Branch m k' v' l' r') (LiftedLeft o h) within first =
      let b : key < k = first-below s key k (Branch m k' v' l' r') h.1 first in
      inr (inl (omega (arith, most, b), ahead key x brings settled most p low high d l (Branch m k' v' l' r') h.3 within first))
  ahead key x brings settled most p low high d _ _ h within first = absurd first

pub ahead_law : AheadLaw
ahead_law u p s key low high x d plain now settled matches within first most =
    ahead u s key x settled.brings settled.links most p low high d plain now matches within first

-- A raised insert: the plain tree matches the tree after it.
put-below : (slot key val bound : ℕ) (t : NamedTree) → key < bound → AllBelow bound t → AllBelow bound (tree_put slot key val t)
put-below slot key val bound Null b all = (b, tt, tt)
put-below slot key val bound (Branch s k v l r) b all =
    elim (compared key k) [
      | less h ↦ subst (AllBelow bound) (sym (update-left key (put_here slot key val) s k v l r h)) (all.0, put-below slot key val bound l b all.1, all.2)
      | more h ↦ subst (AllBelow bound) (sym (update-right key (put_here slot key val) s k v l r h)) (all.0, all.1, put-below slot key val bound r b all.2)
      | same e ↦ subst (AllBelow bound) (sym (update-here key (put_here slot key val) s k v l r e)) (b, all.1, all.2)
    ]

put-above : (slot key val bound : ℕ) (t : NamedTree) → bound < key → AllAbove bound t → AllAbove bound (tree_put slot key val t)
put-above slot key val bound Null b all = (b, tt, tt)
put-above slot key val bound (Branch s k v l r) b all =
    elim (compared key k) [
      | less h ↦ subst (AllAbove bound) (sym (update-left key (put_here slot key val) s k v l r h)) (all.0, put-above slot key val bound l b all.1, all.2)
      | more h ↦ subst (AllAbove bound) (sym (update-right key (put_here slot key val) s k v l r h)) (all.0, all.1, put-above slot key val bound r b all.2)
      | same e ↦ subst (AllAbove bound) (sym (update-here key (put_here slot key val) s k v l r e)) (b, all.1, all.2)
    ]

module _ (u u' : Undone) (extends : Extends u u') (orderly : IsOrderly u) (node slot key val : ℕ) (side : Side) (there : ¬ IsOut u node)
    (settled : (was child : ℕ) → IsUnset u node side was child → ⊥) (new : IsUnset u' node side 0 slot) where
  at-null : (a p : ℕ) (w d : Side) → (node ≡ a) × (side ≡ w) → IsOut u a ⊎ ((a ≡ p) × (w ≡ d)) → (node ≡ p) × (side ≡ d)
  at-null a p w d here (inl o) = absurd (there (subst (IsOut u) (sym here.0) o))
  at-null a p w d here (inr e) = (here.0 ∙ e.0, here.1 ∙ e.1)

  pub inserts : (a p : ℕ) (w d : Side) (plain now : NamedTree) → Matches u p d plain now → EndsAtNull (point_of key) node side a w plain
      → IsOut u a ⊎ ((a ≡ p) × (w ≡ d)) → Matches u' p d plain (tree_put slot key val now)
  inserts a p w d Null Null h ends at =
      let here : (node ≡ p) × (side ≡ d) = at-null a p w d ends at in
      inr (tt, tt, subst (λ n. IsUnset u' n d 0 slot) here.0 (subst (λ s. IsUnset u' node s 0 slot) here.1 new))
  inserts a p w d Null (Branch m k v l r) (inl h) ends at = absurd h
  inserts a p w d Null (Branch m k v l r) (inr h) ends at =
      let here : (node ≡ p) × (side ≡ d) = at-null a p w d ends at in
      absurd (settled 0 m (subst (λ n. IsUnset u n side 0 m) (sym here.0) (subst (λ s. IsUnset u p s 0 m) (sym here.1) h.2)))
  inserts a p w d (Branch c k v l r) Null (Same h) ends at = absurd h
  inserts a p w d (Branch c k v l r) (Branch m k' v' l' r') (Same h) (inl left) at =
      subst (Matches u' p d (Branch c k v l r)) (sym (update-left key (put_here slot key val) m k' v' l' r' (omega (arith, left.0, h.1))))
      (Same (h.0, h.1, inserts c c Left Left l l' h.2 left.1 (inr (refl, refl)), still u u' extends c Right r r' h.3))
  inserts a p w d (Branch c k v l r) (Branch m k' v' l' r') (Same h) (inr right) at =
      subst (Matches u' p d (Branch c k v l r)) (sym (update-right key (put_here slot key val) m k' v' l' r' (omega (arith, right.0, h.1))))
      (Same (h.0, h.1, still u u' extends c Left l l' h.2, inserts c c Right Right r r' h.3 right.1 (inr (refl, refl))))
  inserts a p w d (Branch c k v l r) Null (Replaced o h) ends at = absurd h
  inserts a p w d (Branch c k v l r) (Branch m k' v' l' r') (Replaced o h) (inl left) at =
      subst (Matches u' p d (Branch c k v l r)) (sym (update-left key (put_here slot key val) m k' v' l' r' (omega (arith, left.0, h.0))))
      (Replaced (extends.outs c o) (h.0, extends.links p d c m h.1, inserts c m Left Left l l' h.2 left.1 (inl o), still u u' extends m Right r r' h.3))
  inserts a p w d (Branch c k v l r) (Branch m k' v' l' r') (Replaced o h) (inr right) at =
      subst (Matches u' p d (Branch c k v l r)) (sym (update-right key (put_here slot key val) m k' v' l' r' (omega (arith, right.0, h.0))))
      (Replaced (extends.outs c o) (h.0, extends.links p d c m h.1, still u u' extends m Left l l' h.2, inserts c m Right Right r r' h.3 right.1 (inl o)))
  inserts a p w d (Branch c k v l r) Null (Copied o h) ends at = absurd h
  inserts a p w d (Branch c k v l r) (Branch m k' v' l' r') (Copied o h) (inl left) at =
      let b : key < k = omega (arith, left.0) in
      subst (Matches u' p d (Branch c k v l r)) (sym (update-left key (put_here slot key val) m k' v' l' r' (omega (arith, b, h.0))))
      (Copied (extends.outs c o) (h.0, extends.links p d c m h.1, put-below slot key val k l' b h.2, ahead-more u u' extends c k k' r h.3, inserts c m Left Left l l' h.4 left.1 (inl o), still u u' extends m Right r r' h.5))
  inserts a p w d (Branch c k v l r) (Branch m k' v' l' r') (Copied o h) (inr right) at =
      elim (compared k' key) as (λ _. Matches u' p d (Branch c k v l r) (tree_put slot key val (Branch m k' v' l' r'))) [
        | less b ↦ subst (Matches u' p d (Branch c k v l r)) (sym (update-right key (put_here slot key val) m k' v' l' r' b))
            (Copied (extends.outs c o) (h.0, extends.links p d c m h.1, h.2, ahead-more u u' extends c k k' r h.3, still u u' extends m Left l l' h.4, inserts c m Right Right r r' h.5 right.1 (inl o)))
        | more b ↦ absurd (there (never (leads-ends (IsBypassed u) (point_of key) h.3.0 node c side Right r (h.3.2 (point_of key) right.0 (omega (arith, b))) right.1)))
        | same e ↦ absurd (there (never (leads-ends (IsBypassed u) (point_of key) h.3.0 node c side Right r (h.3.2 (point_of key) right.0 (omega (arith, e))) right.1)))
      ]
    where
      never : (node ≡ h.3.0) ⊎ IsBypassed u node → IsOut u node
      never (inl e) = subst (IsOut u) (sym e) (orderly.heirs c h.3.0 h.3.1)
      never (inr b) = orderly.passes node b
  inserts a p w d (Branch c k v l r) now (LiftedRight o h) (inl left) at =
      absurd (there (subst (IsOut u) (sym (null-ends (point_of key) node c side Left l h.1 left.1).0) o))
  inserts a p w d (Branch c k v l r) now (LiftedRight o h) (inr right) at =
      LiftedRight (extends.outs c o) (
        extends.passes c h.0,
        h.1,
        put-above slot key val k now (omega (arith, right.0)) h.2,
        (h.3.0, extends.links p d c h.3.0 h.3.1),
        inserts c p Right d r now h.4 right.1 (inl o),
      )
  inserts a p w d (Branch c k v l r) now (LiftedLeft o h) (inl left) at =
      LiftedLeft (extends.outs c o) (
        h.0,
        put-below slot key val k now (omega (arith, left.0)) h.1,
        (h.2.0, extends.links p d c h.2.0 h.2.1),
        inserts c p Left d l now h.3 left.1 (inl o),
      )
  inserts a p w d (Branch c k v l r) now (LiftedLeft o h) (inr right) at =
      absurd (there (subst (IsOut u) (sym (null-ends (point_of key) node c side Right r h.0 right.1).0) o))

pub insert : InsertLaw
insert u u' node slot key val side plain now orderly extends there settled new matches ends =
    inserts u u' extends orderly node slot key val side there settled new 0 0 Right Right plain now matches ends (inr (refl, refl))
