-- What lies below a turn stays there when a plain link is set, as long as neither of the two goes out.
use Rattle.std.proofs.Common.{◌≡◌, ℕ, ◌⊎◌, inl, inr, sym, subst}
use Rattle.index_words.specs.declared.side.Side.{Side}
use Rattle.index_words.specs.declared.side.Side.TheVariants.{Left, Right}
use Rattle.core_trees.specs.NamedTree.{NamedTree, Null, Branch}
use Rattle.core_trees.specs.Gaps.{IsNull, child_of}
use Rattle.core_trees.specs.Slots.{occurs}
use Rattle.plain_trees.specs.Matching.{IsBypassed}
use Rattle.plain_trees.specs.Stores.{Relinks, Grows, Replaces, LiftsRight, LiftsLeft, Copies, Joins, IsStore, Insert, LiftRight, LiftLeft, Replace, Copy, Join, IsTest}
use Rattle.plain_trees.specs.Turns.{HasKey, IsBelow, BelowLaw}

abbrev KeepsKeys : (ℕ → Type 0) → (NamedTree → NamedTree → Type 0) → Type 0
KeepsKeys gone change = (b key : ℕ) (t u : NamedTree) → change t u → HasKey b key t → HasKey b key u ⊎ gone b

abbrev KeepsBelow : (ℕ → Type 0) → (NamedTree → NamedTree → Type 0) → Type 0
KeepsBelow gone change =
    (n turn b key : ℕ) (side : Side) (t u : NamedTree) → change t u → IsBelow n turn side b key t → IsBelow n turn side b key u ⊎ (gone n ⊎ gone b)

keys-on : (fine gone : ℕ → Type 0) (change : NamedTree → NamedTree → Type 0) → KeepsKeys gone change → KeepsKeys gone (Relinks fine change)
keys-on fine gone change keeps b key Null u re is = keeps b key Null u re is
keys-on fine gone change keeps b key (Branch m k v l r) u (inl top) is = keeps b key (Branch m k v l r) u top is
keys-on fine gone change keeps b key (Branch m k v l r) u (inr far) is =
    subst (λ z. HasKey b key z ⊎ gone b) (sym far.2)
    (below (λ h d. keys-on fine gone change keeps b key l far.0 h d) (λ h d. keys-on fine gone change keeps b key r far.1 h d) far.3 is)
  where
    go-left : HasKey b key far.0 ⊎ gone b → HasKey b key (Branch m k v far.0 far.1) ⊎ gone b
    go-left (inl h) = inl (inr (inl h))
    go-left (inr h) = inr h

    go-right : HasKey b key far.1 ⊎ gone b → HasKey b key (Branch m k v far.0 far.1) ⊎ gone b
    go-right (inl h) = inl (inr (inr h))
    go-right (inr h) = inr h

    below : (Relinks fine change l far.0 → HasKey b key l → HasKey b key far.0 ⊎ gone b) → (Relinks fine change r far.1 → HasKey b key r → HasKey b key far.1 ⊎ gone b)
        → (Relinks fine change l far.0 × (IsNull l → fine m) × (r ≡ far.1)) ⊎ ((l ≡ far.0) × Relinks fine change r far.1) → HasKey b key (Branch m k v l r)
        → HasKey b key (Branch m k v far.0 far.1) ⊎ gone b
    below on-left on-right side (inl here) = inl (inl here)
    below on-left on-right (inl h) (inr (inl d)) = go-left (on-left h.0 d)
    below on-left on-right (inr h) (inr (inl d)) = inl (inr (inl (subst (HasKey b key) h.0 d)))
    below on-left on-right (inl h) (inr (inr d)) = inl (inr (inr (subst (HasKey b key) h.2 d)))
    below on-left on-right (inr h) (inr (inr d)) = go-right (on-right h.1 d)

pub below-on : (fine gone : ℕ → Type 0) (change : NamedTree → NamedTree → Type 0) → KeepsKeys gone change → KeepsBelow gone change → KeepsBelow gone (Relinks fine change)
below-on fine gone change keys keeps n turn b key side Null u re is = keeps n turn b key side Null u re is
below-on fine gone change keys keeps n turn b key side (Branch m k v l r) u (inl top) is = keeps n turn b key side (Branch m k v l r) u top is
below-on fine gone change keys keeps n turn b key side (Branch m k v l r) u (inr far) is =
    subst (λ z. IsBelow n turn side b key z ⊎ (gone n ⊎ gone b)) (sym far.2)
    (below (λ h d. below-on fine gone change keys keeps n turn b key side l far.0 h d) (λ h d. below-on fine gone change keys keeps n turn b key side r far.1 h d) far.3 is)
  where
    go-left : IsBelow n turn side b key far.0 ⊎ (gone n ⊎ gone b) → IsBelow n turn side b key (Branch m k v far.0 far.1) ⊎ (gone n ⊎ gone b)
    go-left (inl h) = inl (inr (inl h))
    go-left (inr h) = inr h

    go-right : IsBelow n turn side b key far.1 ⊎ (gone n ⊎ gone b) → IsBelow n turn side b key (Branch m k v far.0 far.1) ⊎ (gone n ⊎ gone b)
    go-right (inl h) = inl (inr (inr h))
    go-right (inr h) = inr h

    at : (w : Side) → n ≡ m → turn ≡ k → HasKey b key (child_of w far.0 far.1) ⊎ gone b → ((n ≡ m) × (turn ≡ k) × HasKey b key (child_of w far.0 far.1)) ⊎ gone b
    at w e f (inl h) = inl (e, f, h)
    at w e f (inr h) = inr h

    child : (w : Side) → (Relinks fine change l far.0 × (IsNull l → fine m) × (r ≡ far.1)) ⊎ ((l ≡ far.0) × Relinks fine change r far.1) → HasKey b key (child_of w l r)
        → HasKey b key (child_of w far.0 far.1) ⊎ gone b
    child Left (inl h) d = keys-on fine gone change keys b key l far.0 h.0 d
    child Left (inr h) d = inl (subst (HasKey b key) h.0 d)
    child Right (inl h) d = inl (subst (HasKey b key) h.2 d)
    child Right (inr h) d = keys-on fine gone change keys b key r far.1 h.1 d

    top : ((n ≡ m) × (turn ≡ k) × HasKey b key (child_of side far.0 far.1)) ⊎ gone b → IsBelow n turn side b key (Branch m k v far.0 far.1) ⊎ (gone n ⊎ gone b)
    top (inl h) = inl (inl h)
    top (inr h) = inr (inr h)

    below : (Relinks fine change l far.0 → IsBelow n turn side b key l → IsBelow n turn side b key far.0 ⊎ (gone n ⊎ gone b))
        → (Relinks fine change r far.1 → IsBelow n turn side b key r → IsBelow n turn side b key far.1 ⊎ (gone n ⊎ gone b))
        → (Relinks fine change l far.0 × (IsNull l → fine m) × (r ≡ far.1)) ⊎ ((l ≡ far.0) × Relinks fine change r far.1) → IsBelow n turn side b key (Branch m k v l r)
        → IsBelow n turn side b key (Branch m k v far.0 far.1) ⊎ (gone n ⊎ gone b)
    below on-left on-right h (inl here) = top (at side here.0 here.1 (child side h here.2))
    below on-left on-right (inl h) (inr (inl d)) = go-left (on-left h.0 d)
    below on-left on-right (inr h) (inr (inl d)) = inl (inr (inl (subst (IsBelow n turn side b key) h.0 d)))
    below on-left on-right (inl h) (inr (inr d)) = inl (inr (inr (subst (IsBelow n turn side b key) h.2 d)))
    below on-left on-right (inr h) (inr (inr d)) = go-right (on-right h.1 d)

-- the forms: each keeps the two trees below the node that it takes out
module _ (gone : ℕ → Type 0) (n : ℕ) (out : gone n) where
  replaces-keys : KeepsKeys gone (Replaces n)
  replaces-keys b key t u h is = subst (λ z. HasKey b key z ⊎ gone b) (sym h.is) (parts (subst (HasKey b key) h.was is))
    where
      parts : HasKey b key (Branch n h.key h.old_val h.left h.right) → HasKey b key (Branch h.slot h.key h.val h.left h.right) ⊎ gone b
      parts (inl here) = inr (subst gone (sym here.0) out)
      parts (inr below) = inl (inr below)

  replaces-below : KeepsBelow gone (Replaces n)
  replaces-below m turn b key side t u h is = subst (λ z. IsBelow m turn side b key z ⊎ (gone m ⊎ gone b)) (sym h.is) (parts (subst (IsBelow m turn side b key) h.was is))
    where
      parts : IsBelow m turn side b key (Branch n h.key h.old_val h.left h.right) → IsBelow m turn side b key (Branch h.slot h.key h.val h.left h.right) ⊎ (gone m ⊎ gone b)
      parts (inl here) = inr (inl (subst gone (sym here.0) out))
      parts (inr below) = inl (inr below)

  lifts_right-keys : KeepsKeys gone (LiftsRight n)
  lifts_right-keys b key t u h is = parts (subst (HasKey b key) h.was is)
    where
      parts : HasKey b key (Branch n h.key h.val Null u) → HasKey b key u ⊎ gone b
      parts (inl here) = inr (subst gone (sym here.0) out)
      parts (inr (inl d)) = absurd d
      parts (inr (inr d)) = inl d

  lifts_right-below : KeepsBelow gone (LiftsRight n)
  lifts_right-below m turn b key side t u h is = parts (subst (IsBelow m turn side b key) h.was is)
    where
      parts : IsBelow m turn side b key (Branch n h.key h.val Null u) → IsBelow m turn side b key u ⊎ (gone m ⊎ gone b)
      parts (inl here) = inr (inl (subst gone (sym here.0) out))
      parts (inr (inl d)) = absurd d
      parts (inr (inr d)) = inl d

  lifts_left-keys : KeepsKeys gone (LiftsLeft n)
  lifts_left-keys b key t u h is = parts (subst (HasKey b key) h.was is)
    where
      parts : HasKey b key (Branch n h.key h.val u Null) → HasKey b key u ⊎ gone b
      parts (inl here) = inr (subst gone (sym here.0) out)
      parts (inr (inl d)) = inl d
      parts (inr (inr d)) = absurd d

  lifts_left-below : KeepsBelow gone (LiftsLeft n)
  lifts_left-below m turn b key side t u h is = parts (subst (IsBelow m turn side b key) h.was is)
    where
      parts : IsBelow m turn side b key (Branch n h.key h.val u Null) → IsBelow m turn side b key u ⊎ (gone m ⊎ gone b)
      parts (inl here) = inr (inl (subst gone (sym here.0) out))
      parts (inr (inl d)) = inl d
      parts (inr (inr d)) = absurd d

  copies-keys : (s from until : ℕ) (bypassed : ℕ → Type 0) → KeepsKeys gone (Copies bypassed n s from until)
  copies-keys s from until bypassed b key t u h is = subst (λ z. HasKey b key z ⊎ gone b) (sym h.is) (parts (subst (HasKey b key) h.was is))
    where
      parts : HasKey b key (Branch n from h.old_val h.left h.right) → HasKey b key (Branch h.slot until h.val h.left h.right) ⊎ gone b
      parts (inl here) = inr (subst gone (sym here.0) out)
      parts (inr below) = inl (inr below)

  copies-below : (s from until : ℕ) (bypassed : ℕ → Type 0) → KeepsBelow gone (Copies bypassed n s from until)
  copies-below s from until bypassed m turn b key side t u h is = subst (λ z. IsBelow m turn side b key z ⊎ (gone m ⊎ gone b)) (sym h.is) (parts (subst (IsBelow m turn side b key) h.was is))
    where
      parts : IsBelow m turn side b key (Branch n from h.old_val h.left h.right) → IsBelow m turn side b key (Branch h.slot until h.val h.left h.right) ⊎ (gone m ⊎ gone b)
      parts (inl here) = inr (inl (subst gone (sym here.0) out))
      parts (inr below) = inl (inr below)

  joins-keys : (s : ℕ) → gone s → KeepsKeys gone (Joins n s)
  joins-keys s out' b key t u h is = subst (λ z. HasKey b key z ⊎ gone b) (sym h.is) (parts (subst (HasKey b key) h.was is))
    where
      parts : HasKey b key (Branch n h.from h.old_val h.left (Branch s h.until h.next_val Null h.right)) → HasKey b key (Branch h.slot h.until h.val h.left h.right) ⊎ gone b
      parts (inl here) = inr (subst gone (sym here.0) out)
      parts (inr (inl d)) = inl (inr (inl d))
      parts (inr (inr (inl here))) = inr (subst gone (sym here.0) out')
      parts (inr (inr (inr (inl d)))) = absurd d
      parts (inr (inr (inr (inr d)))) = inl (inr (inr d))

  joins-below : (s : ℕ) → gone s → KeepsBelow gone (Joins n s)
  joins-below s out' m turn b key side t u h is = subst (λ z. IsBelow m turn side b key z ⊎ (gone m ⊎ gone b)) (sym h.is) (parts (subst (IsBelow m turn side b key) h.was is))
    where
      parts : IsBelow m turn side b key (Branch n h.from h.old_val h.left (Branch s h.until h.next_val Null h.right)) → IsBelow m turn side b key (Branch h.slot h.until h.val h.left h.right) ⊎ (gone m ⊎ gone b)
      parts (inl here) = inr (inl (subst gone (sym here.0) out))
      parts (inr (inl d)) = inl (inr (inl d))
      parts (inr (inr (inl here))) = inr (inl (subst gone (sym here.0) out'))
      parts (inr (inr (inr (inl d)))) = absurd d
      parts (inr (inr (inr (inr d)))) = inl (inr (inr d))

grows-keys : (gone : ℕ → Type 0) → KeepsKeys gone Grows
grows-keys gone b key t u h is = absurd (subst (HasKey b key) h.was is)

grows-below : (gone : ℕ → Type 0) → KeepsBelow gone Grows
grows-below gone m turn b key side t u h is = absurd (subst (IsBelow m turn side b key) h.was is)

-- in each form
pub below_store : (there bypassed : ℕ → Type 0) (n s from until turn turn_key node key : ℕ) (side : Side) (plain plain' : NamedTree) → IsStore there bypassed n s from until plain plain' → occurs n plain' ≡ 0
    → IsBelow turn turn_key side node key plain → IsBelow turn turn_key side node key plain' ⊎ ((occurs turn plain' ≡ 0) ⊎ (occurs node plain' ≡ 0))
below_store there bypassed n s from until turn turn_key node key side plain plain' store gone below = forms store
  where
    forms : IsStore there bypassed n s from until plain plain' → IsBelow turn turn_key side node key plain' ⊎ ((occurs turn plain' ≡ 0) ⊎ (occurs node plain' ≡ 0))
    forms (Insert re) =
        below-on there (λ m. occurs m plain' ≡ 0) Grows (grows-keys (λ m. occurs m plain' ≡ 0)) (grows-below (λ m. occurs m plain' ≡ 0)) turn turn_key node key side plain plain' re below
    forms (LiftRight re) =
        below-on there (λ m. occurs m plain' ≡ 0) (LiftsRight n) (lifts_right-keys (λ m. occurs m plain' ≡ 0) n gone)
        (lifts_right-below (λ m. occurs m plain' ≡ 0) n gone) turn turn_key node key side plain plain' re below
    forms (LiftLeft re) =
        below-on there (λ m. occurs m plain' ≡ 0) (LiftsLeft n) (lifts_left-keys (λ m. occurs m plain' ≡ 0) n gone)
        (lifts_left-below (λ m. occurs m plain' ≡ 0) n gone) turn turn_key node key side plain plain' re below
    forms (Replace firm re) =
        below-on there (λ m. occurs m plain' ≡ 0) (Replaces n) (replaces-keys (λ m. occurs m plain' ≡ 0) n gone)
        (replaces-below (λ m. occurs m plain' ≡ 0) n gone) turn turn_key node key side plain plain' re below
    forms (Copy firm re) =
        below-on there (λ m. occurs m plain' ≡ 0) (Copies bypassed n s from until) (copies-keys (λ m. occurs m plain' ≡ 0) n gone s from until bypassed)
        (copies-below (λ m. occurs m plain' ≡ 0) n gone s from until bypassed) turn turn_key node key side plain plain' re below
    forms (Join firm out re) =
        below-on there (λ m. occurs m plain' ≡ 0) (Joins n s) (joins-keys (λ m. occurs m plain' ≡ 0) n gone s out)
        (joins-below (λ m. occurs m plain' ≡ 0) n gone s out) turn turn_key node key side plain plain' re below

pub below_law : BelowLaw
below_law there u n s from until turn turn_key node key side plain plain' store gone below =
    below_store (IsTest there) (IsBypassed u) n s from until turn turn_key node key side plain plain' store gone below
