-- A raised replacement or removal: the plain tree, which stays, matches the tree after it.
use Rattle.std.proofs.Common.{◌≡◌, ℕ, ◌+◌, ◌^◌, ◌<◌, ◌≤◌, inl, inr, refl, sym, ◌∙◌, subst, arith}
use Rattle.index_words.specs.declared.side.Side.{Side}
use Rattle.index_words.specs.declared.side.Side.TheVariants.{Left, Right}
use Rattle.core_trees.specs.NamedTree.{NamedTree, Null, Branch, IsWithin}
use Rattle.core_trees.specs.Gaps.{IsNull}
use Rattle.core_trees.specs.TreeStep.{subtree_at, put_here, remove_here, update, without_first, first_pair, joined}
use Rattle.core_trees.proofs.Updates.{update-left, update-right, update-here, subtree_at-left, subtree_at-right, subtree_at-here}
use Rattle.plain_trees.specs.Matching.{Undone, IsUnset, IsOut, IsBypassed, IsHeir, AllBelow, AllAbove, Same, Replaced, Copied, LiftedRight, LiftedLeft, Matches}
use Rattle.plain_trees.specs.Raises.{Extends, IsFoundAt, IsLinkTo, IsFirst, LeavesSuccessor, LeavesUnset, ReplaceLaw, RemoveLaw}
use Rattle.plain_trees.proofs.Inserts.{null-plain, ahead, first-from, has-first, ahead-more, still, moved}
use Rattle.plain_trees.proofs.Points.{leads-keep}

within-below : (low high bound : ℕ) (t : NamedTree) → IsWithin low high t → high ≤ bound → AllBelow bound t
within-below low high bound Null h b = tt
within-below low high bound (Branch s k v l r) h b = (omega (arith, h.1, b), within-below low k bound l h.2 (omega (arith, h.1, b)), within-below (k + 1) high bound r h.3 b)

within-above : (low high bound : ℕ) (t : NamedTree) → IsWithin low high t → bound < low → AllAbove bound t
within-above low high bound Null h b = tt
within-above low high bound (Branch s k v l r) h b = (omega (arith, h.0, b), within-above low k bound l h.2 b, within-above (k + 1) high bound r h.3 (omega (arith, h.0, b)))

-- the change of the key's node keeps what bounds the keys of its subtree
pub record KeepsBounds (key n : ℕ) (f : NamedTree → NamedTree) : Type 0 where
  pub below : (bound v : ℕ) (l r : NamedTree) → AllBelow bound (Branch n key v l r) → AllBelow bound (f (Branch n key v l r))
  pub above : (bound v : ℕ) (l r : NamedTree) → AllAbove bound (Branch n key v l r) → AllAbove bound (f (Branch n key v l r))

update-below : (f : NamedTree → NamedTree) (key n : ℕ) → KeepsBounds key n f → (bound : ℕ) (t : NamedTree) → IsFoundAt key n t → AllBelow bound t → AllBelow bound (update key f t)
update-below f key n keeps bound Null has all = absurd has
update-below f key n keeps bound (Branch s k v l r) (inl at) all =
    subst (AllBelow bound) (sym (update-here key f s k v l r at.0))
    (subst (λ z. AllBelow bound (f (Branch s z v l r))) at.0 (subst (λ z. AllBelow bound (f (Branch z key v l r))) (sym at.1)
    (keeps.below bound v l r (omega (arith, all.0, at.0), all.1, all.2))))
update-below f key n keeps bound (Branch s k v l r) (inr (inl at)) all =
    subst (AllBelow bound) (sym (update-left key f s k v l r at.0)) (all.0, update-below f key n keeps bound l at.1 all.1, all.2)
update-below f key n keeps bound (Branch s k v l r) (inr (inr at)) all =
    subst (AllBelow bound) (sym (update-right key f s k v l r at.0)) (all.0, all.1, update-below f key n keeps bound r at.1 all.2)

update-above : (f : NamedTree → NamedTree) (key n : ℕ) → KeepsBounds key n f → (bound : ℕ) (t : NamedTree) → IsFoundAt key n t → AllAbove bound t → AllAbove bound (update key f t)
update-above f key n keeps bound Null has all = absurd has
update-above f key n keeps bound (Branch s k v l r) (inl at) all =
    subst (AllAbove bound) (sym (update-here key f s k v l r at.0))
    (subst (λ z. AllAbove bound (f (Branch s z v l r))) at.0 (subst (λ z. AllAbove bound (f (Branch z key v l r))) (sym at.1)
    (keeps.above bound v l r (omega (arith, all.0, at.0), all.1, all.2))))
update-above f key n keeps bound (Branch s k v l r) (inr (inl at)) all =
    subst (AllAbove bound) (sym (update-left key f s k v l r at.0)) (all.0, update-above f key n keeps bound l at.1 all.1, all.2)
update-above f key n keeps bound (Branch s k v l r) (inr (inr at)) all =
    subst (AllAbove bound) (sym (update-right key f s k v l r at.0)) (all.0, all.1, update-above f key n keeps bound r at.1 all.2)

first-out-below : (bound : ℕ) (t : NamedTree) → AllBelow bound t → AllBelow bound (without_first t)
first-out-below bound Null all = tt
first-out-below bound (Branch s k v Null r) all = all.2
first-out-below bound (Branch s k v (Branch t c d l r') r) all = (all.0, first-out-below bound (Branch t c d l r') all.1, all.2)

first-out-above : (bound : ℕ) (t : NamedTree) → AllAbove bound t → AllAbove bound (without_first t)
first-out-above bound Null all = tt
first-out-above bound (Branch s k v Null r) all = all.2
first-out-above bound (Branch s k v (Branch t c d l r') r) all = (all.0, first-out-above bound (Branch t c d l r') all.1, all.2)

first-key-below : (bound k v : ℕ) (l r : NamedTree) → k < bound → AllBelow bound l → (first_pair k v l).key < bound
first-key-below bound k v Null r b all = b
first-key-below bound k v (Branch t c d l r') r b all = first-key-below bound c d l r' all.0 all.1

first-key-above : (bound k v : ℕ) (l r : NamedTree) → bound < k → AllAbove bound l → bound < (first_pair k v l).key
first-key-above bound k v Null r b all = b
first-key-above bound k v (Branch t c d l r') r b all = first-key-above bound c d l r' all.0 all.1

put-bounds : (key n slot val : ℕ) → KeepsBounds key n (put_here slot key val)
put-bounds key n slot val = record { below = λ bound v l r all. all; above = λ bound v l r all. all }

joined-below : (bound slot : ℕ) (l r : NamedTree) → AllBelow bound l → AllBelow bound r → AllBelow bound (joined slot l r)
joined-below bound slot Null r al ar = ar
joined-below bound slot (Branch s k v l l') Null al ar = al
joined-below bound slot (Branch s k v l l') (Branch t c d r r') al ar = (first-key-below bound c d r r' ar.0 ar.1, al, first-out-below bound (Branch t c d r r') ar)

joined-above : (bound slot : ℕ) (l r : NamedTree) → AllAbove bound l → AllAbove bound r → AllAbove bound (joined slot l r)
joined-above bound slot Null r al ar = ar
joined-above bound slot (Branch s k v l l') Null al ar = al
joined-above bound slot (Branch s k v l l') (Branch t c d r r') al ar = (first-key-above bound c d r r' ar.0 ar.1, al, first-out-above bound (Branch t c d r r') ar)

remove-bounds : (key n slot : ℕ) → KeepsBounds key n (remove_here slot)
remove-bounds key n slot = record { below = λ bound v l r all. joined-below bound slot l r all.1 all.2; above = λ bound v l r all. joined-above bound slot l r all.1 all.2 }

module _ (u u' : Undone) (extends : Extends u u') where
  -- the node `n`, which has the key `key`, is changed by `f`; no update still has to set a link to it, and the changed
  -- node matches at each link where `Item` holds of it
  module _ (key n : ℕ) (Item : ℕ → Side → NamedTree → Type 0) (f : NamedTree → NamedTree) (keeps : KeepsBounds key n f) (brings : (q : ℕ) (w : Side) (was : ℕ) → IsUnset u q w was n → ⊥)
      (here : (low high p k v v' : ℕ) (d : Side) (l r l' r' : NamedTree) → key ≡ k → IsWithin low high (Branch n k v' l' r') → Matches u n Left l l'
      → Matches u n Right r r' → Item p d (Branch n k v' l' r') → Matches u' p d (Branch n k v l r) (f (Branch n k v' l' r'))) where
    -- at the node itself
    at-node : (low high p c k v m k' v' : ℕ) (d : Side) (l r l' r' : NamedTree) → key ≡ k' → m ≡ n → m ≡ c → k' ≡ k → IsWithin low high (Branch m k' v' l' r')
        → Matches u c Left l l' → Matches u c Right r r' → Item p d (subtree_at key (Branch m k' v' l' r'))
        → Matches u' p d (Branch c k v l r) (update key f (Branch m k' v' l' r'))
    at-node low high p c k v m k' v' d l r l' r' e is same-slot same-key within left right item =
        let slot : n ≡ c = sym is ∙ same-slot in
        let on : Matches u' p d (Branch n k' v l r) (f (Branch n k' v' l' r'))
        = here low high p k' v v' d l r l' r' e (subst (λ z. IsWithin low high (Branch z k' v' l' r')) is within)
        (subst (λ z. Matches u z Left l l') (sym slot) left) (subst (λ z. Matches u z Right r r') (sym slot) right)
        (subst (λ z. Item p d (Branch z k' v' l' r')) is (subst (Item p d) (subtree_at-here key m k' v' l' r' e) item)) in
        subst (Matches u' p d (Branch c k v l r)) (sym (update-here key f m k' v' l' r' e))
        (subst (λ z. Matches u' p d (Branch c z v l r) (f (Branch m k' v' l' r'))) same-key
        (subst (λ z. Matches u' p d (Branch z k' v l r) (f (Branch m k' v' l' r'))) slot
        (subst (λ z. Matches u' p d (Branch n k' v l r) (f (Branch z k' v' l' r'))) (sym is) on)))

    pub raise : (low high p : ℕ) (d : Side) (plain now : NamedTree) → Matches u p d plain now → IsWithin low high now → IsFoundAt key n now
        → ((q : ℕ) (w : Side) → IsLinkTo n q w p d now → Item q w (subtree_at key now)) → Matches u' p d plain (update key f now)
    raise low high p d Null (Branch m k' v' l' r') (inl h) within has linked = absurd h
    raise low high p d Null (Branch m k' v' l' r') (inr h) within (inl at) linked = absurd (brings p d 0 (subst (IsUnset u p d 0) at.1 h.2))
    raise low high p d Null (Branch m k' v' Null r') (inr h) within (inr (inl at)) linked = absurd at.1
    raise low high p d Null (Branch m k' v' (Branch _ _ _ _ _) r') (inr h) within (inr (inl at)) linked = absurd h.0
    raise low high p d Null (Branch m k' v' l' Null) (inr h) within (inr (inr at)) linked = absurd at.1
    raise low high p d Null (Branch m k' v' l' (Branch _ _ _ _ _)) (inr h) within (inr (inr at)) linked = absurd h.1
    raise low high p d (Branch c k v l r) (Branch m k' v' l' r') (Same h) within (inl at) linked =
        at-node low high p c k v m k' v' d l r l' r' at.0 at.1 h.0 h.1 within h.2 h.3 (linked p d (inl (at.1, refl, refl)))
    raise low high p d (Branch c k v l r) (Branch m k' v' l' r') (Same h) within (inr (inl at)) linked =
        subst (Matches u' p d (Branch c k v l r)) (sym (update-left key f m k' v' l' r' at.0))
        (Same (h.0, h.1, raise low k' c Left l l' h.2 within.2 at.1 (λ q w e. subst (Item q w) (subtree_at-left key m k' v' l' r' at.0) (linked q w (inr (inl (subst (λ z. IsLinkTo n q w z Left l') (sym h.0) e))))), still u u' extends c Right r r' h.3))
    raise low high p d (Branch c k v l r) (Branch m k' v' l' r') (Same h) within (inr (inr at)) linked =
        subst (Matches u' p d (Branch c k v l r)) (sym (update-right key f m k' v' l' r' at.0))
        (Same (h.0, h.1, still u u' extends c Left l l' h.2, raise (k' + 1) high c Right r r' h.3 within.3 at.1 (λ q w e. subst (Item q w) (subtree_at-right key m k' v' l' r' at.0) (linked q w (inr (inr (subst (λ z. IsLinkTo n q w z Right r') (sym h.0) e)))))))
    raise low high p d (Branch c k v l r) (Branch m k' v' l' r') (Replaced o h) within (inl at) linked = absurd (brings p d c (subst (IsUnset u p d c) at.1 h.1))
    raise low high p d (Branch c k v l r) (Branch m k' v' l' r') (Replaced o h) within (inr (inl at)) linked =
        subst (Matches u' p d (Branch c k v l r)) (sym (update-left key f m k' v' l' r' at.0))
        (Replaced (extends.outs c o) (h.0, extends.links p d c m h.1, raise low k' m Left l l' h.2 within.2 at.1 (λ q w e. subst (Item q w) (subtree_at-left key m k' v' l' r' at.0) (linked q w (inr (inl e)))), still u u' extends m Right r r' h.3))
    raise low high p d (Branch c k v l r) (Branch m k' v' l' r') (Replaced o h) within (inr (inr at)) linked =
        subst (Matches u' p d (Branch c k v l r)) (sym (update-right key f m k' v' l' r' at.0))
        (Replaced (extends.outs c o) (h.0, extends.links p d c m h.1, still u u' extends m Left l l' h.2, raise (k' + 1) high m Right r r' h.3 within.3 at.1 (λ q w e. subst (Item q w) (subtree_at-right key m k' v' l' r' at.0) (linked q w (inr (inr e))))))
    raise low high p d (Branch c k v l r) (Branch m k' v' l' r') (Copied o h) within (inl at) linked = absurd (brings p d c (subst (IsUnset u p d c) at.1 h.1))
    raise low high p d (Branch c k v l r) (Branch m k' v' l' r') (Copied o h) within (inr (inl at)) linked =
        subst (Matches u' p d (Branch c k v l r)) (sym (update-left key f m k' v' l' r' at.0))
        (Copied (extends.outs c o) (
          h.0,
          extends.links p d c m h.1,
          update-below f key n keeps k l' at.1 h.2,
          ahead-more u u' extends c k k' r h.3,
          raise low k' m Left l l' h.4 within.2 at.1 (λ q w e. subst (Item q w) (subtree_at-left key m k' v' l' r' at.0) (linked q w (inr (inl e)))),
          still u u' extends m Right r r' h.5,
        ))
    raise low high p d (Branch c k v l r) (Branch m k' v' l' r') (Copied o h) within (inr (inr at)) linked =
        subst (Matches u' p d (Branch c k v l r)) (sym (update-right key f m k' v' l' r' at.0))
        (Copied (extends.outs c o) (
          h.0,
          extends.links p d c m h.1,
          h.2,
          ahead-more u u' extends c k k' r h.3,
          still u u' extends m Left l l' h.4,
          raise (k' + 1) high m Right r r' h.5 within.3 at.1 (λ q w e. subst (Item q w) (subtree_at-right key m k' v' l' r' at.0) (linked q w (inr (inr e)))),
        ))
    raise low high p d (Branch c k v l r) (Branch m k' v' l' r') (LiftedRight o h) within has linked =
        LiftedRight (extends.outs c o) (
          extends.passes c h.0,
          h.1,
          update-above f key n keeps k (Branch m k' v' l' r') has h.2,
          (h.3.0, extends.links p d c h.3.0 h.3.1),
          raise low high p d r (Branch m k' v' l' r') h.4 within has linked,
        )
    raise low high p d (Branch c k v l r) (Branch m k' v' l' r') (LiftedLeft o h) within has linked =
        LiftedLeft (extends.outs c o) (
          h.0,
          update-below f key n keeps k (Branch m k' v' l' r') has h.1,
          (h.2.0, extends.links p d c h.2.0 h.2.1),
          raise low high p d l (Branch m k' v' l' r') h.3 within has linked,
        )
    raise low high p d _ _ h within has linked = absurd has

  -- a replacement
  module _ (key n slot val : ℕ) (brings : (q : ℕ) (w : Side) (was : ℕ) → IsUnset u q w was n → ⊥)
      (left-settled : (was child : ℕ) → IsUnset u n Left was child → ⊥) (right-settled : (was child : ℕ) → IsUnset u n Right was child → ⊥) (gone : IsOut u' n) where
    pub replaced : (low high p k v v' : ℕ) (d : Side) (l r l' r' : NamedTree) → key ≡ k → IsWithin low high (Branch n k v' l' r') → Matches u n Left l l'
        → Matches u n Right r r' → IsUnset u' p d n slot → Matches u' p d (Branch n k v l r) (put_here slot key val (Branch n k v' l' r'))
    replaced low high p k v v' d l r l' r' e within left right item =
        Replaced gone (e, item, still u u' extends slot Left l l' (moved u n slot Left Left l l' left-settled left), still u u' extends slot Right r r' (moved u n slot Right Right r r' right-settled right))

  -- a removal: the successor, which is not the right child, will be bypassed
  module _ (s key' : ℕ) (brings : (q : ℕ) (w : Side) (was : ℕ) → IsUnset u q w was s → ⊥) (settled : (w : Side) (was child : ℕ) → IsUnset u s w was child → ⊥)
      (gone : IsOut u' s) (bypassed : IsBypassed u' s) where
    pub firsts : (low high p : ℕ) (d : Side) (plain now : NamedTree) → Matches u p d plain now → IsWithin low high now → IsFirst s key' now
        → ((q : ℕ) (w : Side) → IsLinkTo s q w p d now → (m : ℕ) × IsUnset u' q w s m) → Matches u' p d plain (without_first now)
    firsts low high p d Null (Branch m k' v' l' r') (inl h) within first linked = absurd h
    firsts low high p d Null (Branch m k' v' l' r') (inr h) within (inl at) linked = absurd (brings p d 0 (subst (IsUnset u p d 0) at.1 h.2))
    firsts low high p d Null (Branch m k' v' Null r') (inr h) within (inr below) linked = absurd below
    firsts low high p d Null (Branch m k' v' (Branch _ _ _ _ _) r') (inr h) within (inr below) linked = absurd h.0
    firsts low high p d (Branch c k v l r) (Branch m k' v' Null r') (Same h) within (inl at) linked =
        let slot : s ≡ c = sym at.1 ∙ h.0 in
        subst (λ z. Matches u' p d (Branch z k v l r) r') slot
        (LiftedRight gone (
          bypassed,
          null-plain u s c Left l Null (λ was child i. settled Left was child (subst (λ z. IsUnset u z Left was child) (sym slot) i)) h.2 tt,
          within-above (k' + 1) high k r' within.3 (omega (arith, h.1)),
          linked p d (inl (at.1, refl, refl)),
          still u u' extends p d r r' (moved u c p Right d r r' (λ was child i. settled Right was child (subst (λ z. IsUnset u z Right was child) (sym slot) i)) h.3),
        ))
    firsts low high p d (Branch c k v l r) (Branch m k' v' Null r') (Same h) within (inr below) linked = absurd below
    firsts low high p d (Branch c k v l r) (Branch m k' v' (Branch t k2 v2 l2 r2) r') (Same h) within (inl at) linked = absurd at.0
    firsts low high p d (Branch c k v l r) (Branch m k' v' (Branch t k2 v2 l2 r2) r') (Same h) within (inr below) linked =
        Same (h.0, h.1, firsts low k' c Left l (Branch t k2 v2 l2 r2) h.2 within.2 below (λ q w e. linked q w (inr (inl (subst (λ z. IsLinkTo s q w z Left (Branch t k2 v2 l2 r2)) (sym h.0) e)))), still u u' extends c Right r r' h.3)
    firsts low high p d (Branch c k v l r) (Branch m k' v' l' r') (Replaced o h) within (inl at) linked = absurd (brings p d c (subst (IsUnset u p d c) at.1 h.1))
    firsts low high p d (Branch c k v l r) (Branch m k' v' Null r') (Replaced o h) within (inr below) linked = absurd below
    firsts low high p d (Branch c k v l r) (Branch m k' v' (Branch t k2 v2 l2 r2) r') (Replaced o h) within (inr below) linked =
        Replaced (extends.outs c o) (h.0, extends.links p d c m h.1, firsts low k' m Left l (Branch t k2 v2 l2 r2) h.2 within.2 below (λ q w e. linked q w (inr (inl e))), still u u' extends m Right r r' h.3)
    firsts low high p d (Branch c k v l r) (Branch m k' v' l' r') (Copied o h) within (inl at) linked = absurd (brings p d c (subst (IsUnset u p d c) at.1 h.1))
    firsts low high p d (Branch c k v l r) (Branch m k' v' Null r') (Copied o h) within (inr below) linked = absurd below
    firsts low high p d (Branch c k v l r) (Branch m k' v' (Branch t k2 v2 l2 r2) r') (Copied o h) within (inr below) linked =
        Copied (extends.outs c o) (
          h.0,
          extends.links p d c m h.1,
          first-out-below k (Branch t k2 v2 l2 r2) h.2,
          ahead-more u u' extends c k k' r h.3,
          firsts low k' m Left l (Branch t k2 v2 l2 r2) h.4 within.2 below (λ q w e. linked q w (inr (inl e))),
          still u u' extends m Right r r' h.5,
        )
    firsts low high p d (Branch c k v l r) (Branch m k' v' l' r') (LiftedRight o h) within first linked =
        LiftedRight (extends.outs c o) (
          extends.passes c h.0,
          h.1,
          first-out-above k (Branch m k' v' l' r') h.2,
          (h.3.0, extends.links p d c h.3.0 h.3.1),
          firsts low high p d r (Branch m k' v' l' r') h.4 within first linked,
        )
    firsts low high p d (Branch c k v l r) (Branch m k' v' l' r') (LiftedLeft o h) within first linked =
        LiftedLeft (extends.outs c o) (
          h.0,
          first-out-below k (Branch m k' v' l' r') h.1,
          (h.2.0, extends.links p d c h.2.0 h.2.1),
          firsts low high p d l (Branch m k' v' l' r') h.3 within first linked,
        )
    firsts low high p d _ _ h within first linked = absurd first

  -- the removed node, by its children: it is bypassed to its right or to its left, or a copy takes its place, and then
  -- its successor is bypassed
  module _ (key n slot : ℕ) (left-settled : (was child : ℕ) → IsUnset u n Left was child → ⊥) (right-settled : (was child : ℕ) → IsUnset u n Right was child → ⊥) where
    pub lifted-right : (gone : IsOut u' n) (new low high p k v v' : ℕ) (d : Side) (l r r' : NamedTree) → IsBypassed u' n → IsWithin low high (Branch n k v' Null r') → Matches u n Left l Null
        → Matches u n Right r r' → IsUnset u' p d n new → Matches u' p d (Branch n k v l r) (remove_here slot (Branch n k v' Null r'))
    lifted-right gone new low high p k v v' d l r r' bypassed within left right item =
        LiftedRight gone (
          bypassed,
          null-plain u n n Left l Null left-settled left tt,
          within-above (k + 1) high k r' within.3 (omega arith),
          (new, item),
          still u u' extends p d r r' (moved u n p Right d r r' right-settled right),
        )

    pub lifted-left : (gone : IsOut u' n) (new low high p k v v' : ℕ) (d : Side) (l r l' : NamedTree) → ¬ IsNull l' → IsWithin low high (Branch n k v' l' Null) → Matches u n Left l l'
        → Matches u n Right r Null → IsUnset u' p d n new → Matches u' p d (Branch n k v l r) (remove_here slot (Branch n k v' l' Null))
    lifted-left gone new low high p k v v' d l r Null some within left right item = absurd (some tt)
    lifted-left gone new low high p k v v' d l r (Branch t c e l2 r2) some within left right item =
        LiftedLeft gone (
          null-plain u n n Right r Null right-settled right tt,
          within-below low k k (Branch t c e l2 r2) within.2 (omega arith),
          (new, item),
          still u u' extends p d l (Branch t c e l2 r2) (moved u n p Left d l (Branch t c e l2 r2) left-settled left),
        )

    pub joined-deep : (gone : IsOut u' n) (low high p k v v' s t c e t' c' e' : ℕ) (d : Side) (l r l2 r2 l3 r3 : NamedTree) → (brings : (q : ℕ) (w : Side) (was : ℕ) → IsUnset u q w was s → ⊥)
        → ((w : Side) (was child : ℕ) → IsUnset u s w was child → ⊥) → IsOut u' s → IsBypassed u' s → IsHeir u' n s
        → IsWithin low high (Branch n k v' (Branch t c e l2 r2) (Branch t' c' e' l3 r3)) → k < (first_pair c' e' l3).key
        → IsFirst s (first_pair c' e' l3).key (Branch t' c' e' l3 r3)
        → ((q : ℕ) (w : Side) → IsLinkTo s q w slot Right (Branch t' c' e' l3 r3) → (m : ℕ) × IsUnset u' q w s m)
        → Matches u n Left l (Branch t c e l2 r2) → Matches u n Right r (Branch t' c' e' l3 r3) → IsUnset u' p d n slot
        → Matches u' p d (Branch n k v l r) (remove_here slot (Branch n k v' (Branch t c e l2 r2) (Branch t' c' e' l3 r3)))
    joined-deep gone low high p k v v' s t c e t' c' e' d l r l2 r2 l3 r3 brings settled gone' bypassed heir within up first linked left right item =
        let right' : Matches u slot Right r (Branch t' c' e' l3 r3) = moved u n slot Right Right r (Branch t' c' e' l3 r3) right-settled right in
        Copied gone (
          up,
          item,
          within-below low k k (Branch t c e l2 r2) within.2 (omega arith),
          (
            s,
            heir,
            λ x a b. leads-keep (IsBypassed u) (IsBypassed u') x s r (λ z _. extends.passes z)
                (ahead u s (first_pair c' e' l3).key x brings settled b slot (k + 1) high Right r (Branch t' c' e' l3 r3) right' within.3 first),
          ),
          still u u' extends slot Left l (Branch t c e l2 r2) (moved u n slot Left Left l (Branch t c e l2 r2) left-settled left),
          firsts s (first_pair c' e' l3).key brings settled gone' bypassed (k + 1) high slot Right r (Branch t' c' e' l3 r3) right' within.3 first linked,
        )

    -- in each case
    pub removed : (low high p k v v' : ℕ) (d : Side) (l r l' r' : NamedTree) → key ≡ k → IsWithin low high (Branch n k v' l' r') → Matches u n Left l l'
        → Matches u n Right r r' → LeavesUnset u u' slot p d (Branch n k v' l' r') → Matches u' p d (Branch n k v l r) (remove_here slot (Branch n k v' l' r'))
    removed low high p k v v' d l r Null r' e within left right item = lifted-right item.0 item.2.0 low high p k v v' d l r r' item.1 within left right item.2.1
    removed low high p k v v' d l r (Branch t c b l2 r2) Null e within left right item =
        lifted-left item.0 item.1.0 low high p k v v' d l r (Branch t c b l2 r2) (λ n. n) within left right item.1.1
    removed low high p k v v' d l r (Branch t c b l2 r2) (Branch t' c' b' l3 r3) e within left right item =
        let first : (s : ℕ) × IsFirst s (first_pair c' b' l3).key (Branch t' c' b' l3 r3) = has-first t' c' b' l3 r3 in
        let leaves : LeavesSuccessor u u' n slot first.0 (Branch t' c' b' l3 r3) = item.2 first.0 (first_pair c' b' l3).key first.1 in
        joined-deep item.0 low high p k v v' first.0 t c b t' c' b' d l r l2 r2 l3 r3 leaves.settled.brings leaves.settled.links leaves.out leaves.bypassed leaves.heir within
        (omega (arith, first-from first.0 (first_pair c' b' l3).key (k + 1) high (Branch t' c' b' l3 r3) within.3 first.1)) first.1 leaves.link left right item.1

pub replace : ReplaceLaw
replace u u' node slot key val plain now extends matches lawful found settled gone linked =
    raise u u' extends key node (λ q w t. IsUnset u' q w node slot) (put_here slot key val) (put-bounds key node slot val) settled.brings
    (λ low high p k v v' d l r l' r' e within left right item.
    replaced u u' extends key node slot val settled.brings (settled.links Left) (settled.links Right) gone low high p k v v' d l r l' r' e within left right item)
    0 (2 ^ 64) 0 Right plain now matches lawful found linked

pub remove : RemoveLaw
remove u u' node slot key plain now extends matches lawful found settled linked =
    raise u u' extends key node (λ q w t. LeavesUnset u u' slot q w t) (remove_here slot) (remove-bounds key node slot) settled.brings
    (λ low high p k v v' d l r l' r' e within left right item.
    removed u u' extends key node slot (settled.links Left) (settled.links Right) low high p k v v' d l r l' r' e within left right item)
    0 (2 ^ 64) 0 Right plain now matches lawful found linked
