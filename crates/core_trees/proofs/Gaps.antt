-- Gaps: the search for a key in a gap ends at the gap's link, each absent key is in the gap of the link at
-- which its search ends, and the tree step only widens the other gaps.
use Rattle.std.proofs.Common.{◌≡◌, ℕ, ◌+◌, ◌^◌, ◌<◌, ◌≤◌, ◌⊎◌, inl, inr, refl, sym, ◌∙◌, subst, arith}
use Rattle.std.proofs.Common.{true, false, ◌∷◌}
use Rattle.std.proofs.Math.Bool.{or-true}
use Rattle.std.specs.Prelude.{◌==◌}
use Rattle.std.proofs.lemmas.Bool.{eq-eqb, ne_eqb}
use Rattle.std.proofs.lemmas.List.Folds.{list_any-append}
use Rattle.key_map.specs.declared.pair.Pair.{Pair}
use Rattle.key_map.specs.Map.{pair, map_has}
use Rattle.index_words.specs.declared.side.Side.{Side}
use Rattle.index_words.specs.declared.side.Side.TheVariants.{Left, Right}
use Rattle.core_trees.specs.NamedTree.{NamedTree, Null, Branch, contents, IsWithin}
use Rattle.core_trees.specs.TreeStep.{put_here, remove_here, tree_put, tree_remove, joined, first_pair, without_first, subtree_at}
use Rattle.core_trees.specs.Search.{end_node, end_side, EndsAt}
use Rattle.core_trees.specs.Gaps.{child_of, IsNull, HasNullLink, IsBeside, IsBetween, IsClear, IsInGap, Lacks, IsGapLink, WidensOtherGaps, WidensGaps, GapEndLaw, AbsentGapLaw, OtherLinkLaw}
use Rattle.core_links.proofs.Compare.{compared, less, more, same}
use Rattle.core_trees.proofs.Updates.{update-left, update-right, update-here, subtree_at-left, subtree_at-right, subtree_at-here, end_node-left, end_node-right, end_side-left, end_side-right}

-- the key of a null link's node is within the bounds
pub link-within : (low high node key : ℕ) (side : Side) (tree : NamedTree) → IsWithin low high tree → HasNullLink node key side tree → (low ≤ key) × (key < high)
link-within low high node key side Null h link = absurd link
link-within low high node key side (Branch s k v l r) h (inl here) = (omega (arith, h.0, here.1), omega (arith, h.1, here.1))
link-within low high node key side (Branch s k v l r) h (inr (inl below)) =
    let b : (low ≤ key) × (key < k) = link-within low k node key side l h.2 below in (b.0, omega (arith, b.1, h.1))
link-within low high node key side (Branch s k v l r) h (inr (inr below)) =
    let b : (k + 1 ≤ key) × (key < high) = link-within (k + 1) high node key side r h.3 below in (omega (arith, b.0, h.0), b.1)

-- a key in a gap lies on the side of another key on which the gap's node is
gap-left : (side : Side) (key z k : ℕ) → key < k → IsBeside side key z → ¬ IsBetween side key z k → z < k
gap-left Left key z k b beside _ = omega (arith, beside)
gap-left Right key z k b beside clear = elim (compared z k) [ less h ↦ h | more h ↦ absurd (clear (b, omega arith)) | same e ↦ absurd (clear (b, omega arith)) ]

gap-right : (side : Side) (key z k : ℕ) → k < key → IsBeside side key z → ¬ IsBetween side key z k → k < z
gap-right Left key z k b beside clear = elim (compared k z) [ less h ↦ h | more h ↦ absurd (clear (omega arith, b)) | same e ↦ absurd (clear (omega arith, b)) ]
gap-right Right key z k b beside _ = omega (arith, beside)

pub gap-ends : (node key z low high root : ℕ) (side top : Side) (tree : NamedTree) → IsWithin low high tree → HasNullLink node key side tree
    → IsInGap side key z tree → EndsAt z node side root top tree
gap-ends node key z low high root side top Null h link gap = absurd link
gap-ends node key z low high root Left top (Branch s k v Null r) h (inl here) gap =
    let b : z < k = omega (arith, gap.0, here.1) in
    (end_node-left z s k v Null r root b ∙ sym here.0, end_side-left z s k v Null r top b)
gap-ends node key z low high root Left top (Branch s k v (Branch _ _ _ _ _) r) h (inl here) gap = absurd here.2
gap-ends node key z low high root Right top (Branch s k v l Null) h (inl here) gap =
    let b : k < z = omega (arith, gap.0, here.1) in
    (end_node-right z s k v l Null root b ∙ sym here.0, end_side-right z s k v l Null top b)
gap-ends node key z low high root Right top (Branch s k v l (Branch _ _ _ _ _)) h (inl here) gap = absurd here.2
gap-ends node key z low high root side top (Branch s k v l r) h (inr (inl below)) gap =
    let b : z < k = gap-left side key z k (link-within low k node key side l h.2 below).1 gap.0 gap.1.0 in
    let ends : EndsAt z node side s Left l = gap-ends node key z low k s side Left l h.2 below (gap.0, gap.1.1) in
    (end_node-left z s k v l r root b ∙ ends.0, end_side-left z s k v l r top b ∙ ends.1)
gap-ends node key z low high root side top (Branch s k v l r) h (inr (inr below)) gap =
    let b : k < z = gap-right side key z k (omega (arith, (link-within (k + 1) high node key side r h.3 below).0)) gap.0 gap.1.0 in
    let ends : EndsAt z node side s Right r = gap-ends node key z (k + 1) high s side Right r h.3 below (gap.0, gap.1.2) in
    (end_node-right z s k v l r root b ∙ ends.0, end_side-right z s k v l r top b ∙ ends.1)

-- if all keys lie on the other side of the key, or beyond `z`, all is clear
clear-below : (low high key z : ℕ) (side : Side) (tree : NamedTree) → IsWithin low high tree → ((x : ℕ) → low ≤ x → x < high → ¬ IsBetween side key z x) → IsClear side key z tree
clear-below low high key z side Null h apart = tt
clear-below low high key z side (Branch s k v l r) h apart =
    (apart k h.0 h.1, clear-below low k key z side l h.2 (λ x le lt. apart x le (omega (arith, h.1))), clear-below (k + 1) high key z side r h.3 (λ x le lt. apart x (omega (arith, h.0)) lt))

left-apart : (side : Side) (key z k x : ℕ) → key < k → z < k → k ≤ x → ¬ IsBetween side key z x
left-apart Left key z k x a b c h = omega (arith, h.1)
left-apart Right key z k x a b c h = omega (arith, h.1)

right-apart : (side : Side) (key z k x : ℕ) → k < key → k < z → x ≤ k → ¬ IsBetween side key z x
right-apart Left key z k x a b c h = omega (arith, h.0)
right-apart Right key z k x a b c h = omega (arith, h.0)

-- in a gap link of a child the key is in the gap of the whole tree
from-left : (z node s k v low high : ℕ) (side : Side) (l r : NamedTree) → IsWithin low high (Branch s k v l r) → z < k → IsGapLink z node side s Left l
    → IsGapLink z node side 0 Right (Branch s k v l r)
from-left z node s k v low high side Null r h b link = (
  k,
  inl (link.0, refl, subst (λ x. IsNull (child_of x Null r)) (sym link.1) tt),
  subst (λ x. IsInGap x k z (Branch s k v Null r)) (sym link.1)
      (b, ((λ h. omega (arith, h.1)), tt, clear-below (k + 1) high k z Left r h.3 (λ x le lt between. omega (arith, between.1)))),
)
from-left z node s k v low high side (Branch t c d l' r') r h b link =
    let key : ℕ = link.0 in
    let below : key < k = (link-within low k node key side (Branch t c d l' r') h.2 link.1).1 in
    (key, inr (inl link.1), (link.2.0, (left-apart side key z k k below b (omega arith), link.2.1, clear-below (k + 1) high key z side r h.3 (λ x le lt. left-apart side key z k x below b (omega arith)))))

from-right : (z node s k v low high : ℕ) (side : Side) (l r : NamedTree) → IsWithin low high (Branch s k v l r) → k < z → IsGapLink z node side s Right r
    → IsGapLink z node side 0 Right (Branch s k v l r)
from-right z node s k v low high side l Null h b link = (
  k,
  inl (link.0, refl, subst (λ x. IsNull (child_of x l Null)) (sym link.1) tt),
  subst (λ x. IsInGap x k z (Branch s k v l Null)) (sym link.1)
      (b, ((λ h. omega (arith, h.0)), clear-below low k k z Right l h.2 (λ x le lt between. omega (arith, between.0)), tt)),
)
from-right z node s k v low high side l (Branch t c d l' r') h b link =
    let key : ℕ = link.0 in
    let above : k < key = omega (arith, (link-within (k + 1) high node key side (Branch t c d l' r') h.3 link.1).0) in
    (key, inr (inr link.1), (link.2.0, (right-apart side key z k k above b (omega arith), clear-below low k key z side l h.2 (λ x le lt. right-apart side key z k x above b (omega arith)), link.2.1)))

pub absent-gap : (z low high root : ℕ) (top : Side) (tree : NamedTree) → IsWithin low high tree → Lacks z tree
    → IsGapLink z (end_node z root tree) (end_side z top tree) root top tree
absent-gap z low high root top Null h lacks = (refl, refl)
absent-gap z low high root top (Branch s k v l r) h lacks =
    elim (compared z k) [
      | less b ↦ subst (λ n. IsGapLink z n (end_side z top (Branch s k v l r)) root top (Branch s k v l r)) (sym (end_node-left z s k v l r root b))
          (subst (λ w. IsGapLink z (end_node z s l) w root top (Branch s k v l r)) (sym (end_side-left z s k v l r top b))
          (from-left z (end_node z s l) s k v low high (end_side z Left l) l r h b (absent-gap z low k s Left l h.2 lacks.1)))
      | more b ↦ subst (λ n. IsGapLink z n (end_side z top (Branch s k v l r)) root top (Branch s k v l r)) (sym (end_node-right z s k v l r root b))
          (subst (λ w. IsGapLink z (end_node z s r) w root top (Branch s k v l r)) (sym (end_side-right z s k v l r top b))
          (from-right z (end_node z s r) s k v low high (end_side z Right r) l r h b (absent-gap z (k + 1) high s Right r h.3 lacks.2)))
      | same e ↦ absurd (lacks.0 (sym e))
    ]

-- a put of a key that is not in between leaves all clear
put-clear : (slot y v key z : ℕ) (side : Side) (tree : NamedTree) → ¬ IsBetween side key z y → IsClear side key z tree → IsClear side key z (tree_put slot y v tree)
put-clear slot y v key z side Null apart _ = (apart, tt, tt)
put-clear slot y v key z side (Branch s k u l r) apart clear =
    elim (compared y k) [
      | less b ↦ subst (IsClear side key z) (sym (update-left y (put_here slot y v) s k u l r b)) (clear.0, put-clear slot y v key z side l apart clear.1, clear.2)
      | more b ↦ subst (IsClear side key z) (sym (update-right y (put_here slot y v) s k u l r b)) (clear.0, clear.1, put-clear slot y v key z side r apart clear.2)
      | same e ↦ subst (IsClear side key z) (sym (update-here y (put_here slot y v) s k u l r e)) (apart, clear.1, clear.2)
    ]

nearer-clear : (key z y : ℕ) (side : Side) (tree : NamedTree) → IsBetween side key z y → IsClear side key z tree → IsClear side key y tree
nearer-clear key z y side Null b clear = tt
nearer-clear key z y Left (Branch s k v l r) b clear =
    ((λ h. clear.0 (omega (arith, b.0, h.0), h.1)), nearer-clear key z y Left l b clear.1, nearer-clear key z y Left r b clear.2)
nearer-clear key z y Right (Branch s k v l r) b clear =
    ((λ h. clear.0 (h.0, omega (arith, b.1, h.1))), nearer-clear key z y Right l b clear.1, nearer-clear key z y Right r b clear.2)

between-beside : (side : Side) (key z y : ℕ) → IsBetween side key z y → IsBeside side key y
between-beside Left key z y b = b.1
between-beside Right key z y b = b.0

pub put-widens : (slot y v : ℕ) (tree : NamedTree) → WidensOtherGaps y tree (tree_put slot y v tree)
put-widens slot y v tree key z side gap other =
    (gap.0, put-clear slot y v key z side tree (λ b. other (between-beside side key z y b, nearer-clear key z y side tree b gap.1)) gap.1)

-- the first node's key is clear, and what is left
first-clear : (key z s k v : ℕ) (side : Side) (l r : NamedTree) → IsClear side key z (Branch s k v l r)
    → ¬ IsBetween side key z (first_pair k v l).key × IsClear side key z (without_first (Branch s k v l r))
first-clear key z s k v side Null r clear = (clear.0, clear.2)
first-clear key z s k v side (Branch t c d l' r') r clear =
    let first : ¬ IsBetween side key z (first_pair c d l').key × IsClear side key z (without_first (Branch t c d l' r')) = first-clear key z t c d side l' r' clear.1 in
    (first.0, (clear.0, first.1, clear.2))

joined-clear : (slot key z : ℕ) (side : Side) (l r : NamedTree) → IsClear side key z l → IsClear side key z r → IsClear side key z (joined slot l r)
joined-clear slot key z side Null r hl hr = hr
joined-clear slot key z side (Branch s k v l l') Null hl hr = hl
joined-clear slot key z side (Branch s k v l l') (Branch t c d r r') hl hr =
    let first : ¬ IsBetween side key z (first_pair c d r).key × IsClear side key z (without_first (Branch t c d r r')) = first-clear key z t c d side r r' hr in
    (first.0, hl, first.1)

remove-clear : (slot y key z : ℕ) (side : Side) (tree : NamedTree) → IsClear side key z tree → IsClear side key z (tree_remove slot y tree)
remove-clear slot y key z side Null _ = tt
remove-clear slot y key z side (Branch s k u l r) clear =
    elim (compared y k) [
      | less b ↦ subst (IsClear side key z) (sym (update-left y (remove_here slot) s k u l r b)) (clear.0, remove-clear slot y key z side l clear.1, clear.2)
      | more b ↦ subst (IsClear side key z) (sym (update-right y (remove_here slot) s k u l r b)) (clear.0, clear.1, remove-clear slot y key z side r clear.2)
      | same e ↦ subst (IsClear side key z) (sym (update-here y (remove_here slot) s k u l r e)) (joined-clear slot key z side l r clear.1 clear.2)
    ]

pub remove-widens : (slot y : ℕ) (tree : NamedTree) → WidensGaps tree (tree_remove slot y tree)
remove-widens slot y tree key z side gap = (gap.0, remove-clear slot y key z side tree gap.1)

-- a key at the end of whose search nothing hangs is not in the tree
lacks-outside : (low high key : ℕ) (tree : NamedTree) → IsWithin low high tree → (key < low) ⊎ (high ≤ key) → Lacks key tree
lacks-outside low high key Null _ _ = tt
lacks-outside low high key (Branch s k v l r) h (inl b) =
    ((λ e. omega (arith, h.0)), lacks-outside low k key l h.2 (inl b), lacks-outside (k + 1) high key r h.3 (inl (omega (arith, h.0))))
lacks-outside low high key (Branch s k v l r) h (inr b) =
    ((λ e. omega (arith, h.1)), lacks-outside low k key l h.2 (inr (omega (arith, h.1))), lacks-outside (k + 1) high key r h.3 (inr b))

pub null-lacks : (key low high : ℕ) (tree : NamedTree) → IsWithin low high tree → IsNull (subtree_at key tree) → Lacks key tree
null-lacks key low high Null _ _ = tt
null-lacks key low high (Branch s k v l r) h null =
    elim (compared key k) [
      | less b ↦ ((λ e. omega arith), null-lacks key low k l h.2 (subst IsNull (subtree_at-left key s k v l r b) null), lacks-outside (k + 1) high key r h.3 (inl (omega arith)))
      | more b ↦ ((λ e. omega arith), lacks-outside low k key l h.2 (inr (omega arith)), null-lacks key (k + 1) high r h.3 (subst IsNull (subtree_at-right key s k v l r b) null))
      | same e ↦ absurd (subst IsNull (subtree_at-here key s k v l r e) null)
    ]

pub lacks-has : (key : ℕ) (tree : NamedTree) → Lacks key tree → map_has key (contents tree) ≡ false
lacks-has key Null _ = refl
lacks-has key (Branch s k v l r) lacks =
    list_any-append (λ (p : Pair). p.key == key) (contents l) (pair k v ∷ contents r)
    ∙ simp (lacks-has key l lacks.1, lacks-has key r lacks.2, ne_eqb k key lacks.0)

pub found-has : (key : ℕ) (tree : NamedTree) → ¬ IsNull (subtree_at key tree) → map_has key (contents tree) ≡ true
found-has key Null found = absurd (found tt)
found-has key (Branch s k v l r) found =
    list_any-append (λ (p : Pair). p.key == key) (contents l) (pair k v ∷ contents r)
    ∙ (elim (compared key k) [
      | less b ↦ simp (found-has key l (subst (λ t. ¬ IsNull t) (subtree_at-left key s k v l r b) found))
      | more b ↦ simp (found-has key r (subst (λ t. ¬ IsNull t) (subtree_at-right key s k v l r b) found), or-true)
      | same e ↦ simp (eq-eqb k key (sym e), or-true)
    ])

-- the laws, at lawful trees
pub gap_end : GapEndLaw
gap_end node k z root side top tree lawful link gap = gap-ends node k z 0 (2 ^ 64) root side top tree lawful link gap

pub absent_gap : AbsentGapLaw
absent_gap z root top tree lawful lacks = absent-gap z 0 (2 ^ 64) root top tree lawful lacks

pub other_link : OtherLinkLaw
other_link slot put val node k z root side top tree lawful link gap other =
    put-widens slot put val tree k z side gap (λ here. other (gap_end node k put root side top tree lawful link here))
