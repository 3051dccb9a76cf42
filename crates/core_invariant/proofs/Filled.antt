-- What a seat has filled stays if a store is to a word other than those of its own slots.
use Rattle.std.proofs.Common.{◌≡◌, ℕ, ◌<◌, cond, List, [], ◌∷◌, Bool, true, false, ◌&&◌, not, refl, ap, ◌∙◌, subst, inl, inr}
use Rattle.std.proofs.lemmas.Bool.{ne_eqb}
use Rattle.index_words.specs.declared.view.slots.Slots.{Slots}
use Rattle.index_words.specs.declared.view.reading.Filled.{Filled}
use Rattle.index_words.specs.declared.view.update.Updating.{Updating}
use Rattle.index_words.specs.declared.word.Field.{Field}
use Rattle.index_words.specs.declared.word.Field.TheVariants.{Lock}
use Rattle.index_words.specs.declared.word.Part.{Part}
use Rattle.index_words.specs.declared.word.Word.{Word}
use Rattle.index_words.specs.declared.word.Word.TheVariants.{Stamp, Section, Announced, Node, Entry}
use Rattle.index_words.specs.Words.{Memory, written, same_field, same_part, same_word}
use Rattle.key_map.specs.Lists.{count, Every}
use Rattle.core_events.specs.FillMoves.{filled_other}
use Rattle.core_invariant.specs.FilledRule.{IsOwnSlotWord, FilledRight}
use Rattle.core_invariant.proofs.Frames.{every_map}

pub and_false : (b : Bool) → (b && false) ≡ false
and_false true = refl
and_false false = refl

-- a word of another node
pub node_other : (m : Memory) (f h : Field) (k j x : ℕ) → (j ≡ k → ⊥) → written m (Node f k) x (Node h j) ≡ m (Node h j)
node_other m f h k j x other =
    ap (λ b. cond (same_field h f && b) x (m (Node h j))) (ne_eqb j k other) ∙ ap (λ b. cond b x (m (Node h j))) (and_false (same_field h f))

-- a word of another entry
pub entry_other : (m : Memory) (p q : Part) (e d x : ℕ) → (d ≡ e → ⊥) → written m (Entry p e) x (Entry q d) ≡ m (Entry q d)
entry_other m p q e d x other =
    ap (λ b. cond (same_part q p && b) x (m (Entry q d))) (ne_eqb d e other) ∙ ap (λ b. cond b x (m (Entry q d))) (and_false (same_part q p))

-- what was filled is right over another memory and other slots, if these have no other word
pub every_filled : (m m' : Memory) (free free' : Slots) (u u' : Updating) (fs : List Filled)
    → ((w : Word) → IsOwnSlotWord free' u' w → IsOwnSlotWord free u w) → ((w : Word) → IsOwnSlotWord free' u' w → m' w ≡ m w)
    → Every (FilledRight m free u) fs → Every (FilledRight m' free' u') fs
every_filled m m' free free' u u' fs before same all =
    every_map (FilledRight m free u) (FilledRight m' free' u') fs (λ f old own. same f.word own ∙ old (before f.word own)) all

module _ (m : Memory) (free : Slots) (u : Updating) where
  -- a store to the stamp, to a section word or to a lock
  pub stamp_apart : (x : ℕ) (w : Word) → IsOwnSlotWord free u w → written m Stamp x w ≡ m w
  stamp_apart x (Node f k) own = refl
  stamp_apart x (Entry p e) own = refl
  stamp_apart x _ own = absurd own

  pub section_apart : (n x : ℕ) (w : Word) → IsOwnSlotWord free u w → written m (Section n) x w ≡ m w
  section_apart n x (Node f k) own = refl
  section_apart n x (Entry p e) own = refl
  section_apart n x _ own = absurd own

  pub announced_apart : (n x : ℕ) (w : Word) → IsOwnSlotWord free u w → written m (Announced n) x w ≡ m w
  announced_apart n x (Node f k) own = refl
  announced_apart n x (Entry p e) own = refl
  announced_apart n x _ own = absurd own

  lock_field : (k x j : ℕ) (f : Field) → IsOwnSlotWord free u (Node f j) → written m (Node Lock k) x (Node f j) ≡ m (Node f j)
  lock_field k x j Lock own = cc
  lock_field k x j _ own = refl

  pub lock_apart : (k x : ℕ) (w : Word) → IsOwnSlotWord free u w → written m (Node Lock k) x w ≡ m w
  lock_apart k x (Node f j) own = lock_field k x j f own
  lock_apart k x (Entry p e) own = refl
  lock_apart k x _ own = absurd own

  -- a store to a word of a node that is not free here
  pub node_apart : (f : Field) (k x : ℕ) → (0 < count k free.nodes → ⊥) → (w : Word) → IsOwnSlotWord free u w → written m (Node f k) x w ≡ m w
  node_apart f k x apart (Node h j) own = node_other m f h k j x (λ same. apart (subst (λ y. 0 < count y free.nodes) same own.1))
  node_apart f k x apart (Entry p e) own = refl
  node_apart f k x apart _ own = absurd own

  -- a store to a word of an entry that is neither free nor pending here
  pub entry_apart : (p : Part) (e x : ℕ) → (0 < count e free.entries → ⊥) → (0 < count e u.pending → ⊥) → (w : Word) → IsOwnSlotWord free u w → written m (Entry p e) x w ≡ m w
  entry_apart p e x apart unpending (Node h j) own = refl
  entry_apart p e x apart unpending (Entry q d) own =
      entry_other m p q e d x (λ same. elim own as (λ _. ⊥) [
        | inl here ↦ apart (subst (λ y. 0 < count y free.entries) same here)
        | inr yet ↦ unpending (subst (λ y. 0 < count y u.pending) same yet.1)
      ])
  entry_apart p e x apart unpending _ own = absurd own

-- none of these words is the one
abbrev pub IsNotAmong : Word → List Filled → Type 0
IsNotAmong w fs = Every (λ (f : Filled). same_word f.word w ≡ false) fs

pub other_apart : (w : Word) (fs : List Filled) → IsNotAmong w (filled_other w fs)
other_apart w [] = tt
other_apart w (f ∷ fs) = kept_by (same_word f.word w) refl (other_apart w fs)
  where
    kept_by : (b : Bool) → same_word f.word w ≡ b → IsNotAmong w (filled_other w fs) → IsNotAmong w (cond (not b) (f ∷ filled_other w fs) (filled_other w fs))
    kept_by true is rest = rest
    kept_by false is rest = (is, rest)

pub other_every : (P : Filled → Type 0) (w : Word) (fs : List Filled) → Every P fs → Every P (filled_other w fs)
other_every P w [] all = tt
other_every P w (f ∷ fs) all = kept_by (same_word f.word w) (other_every P w fs all.1)
  where
    kept_by : (b : Bool) → Every P (filled_other w fs) → Every P (cond (not b) (f ∷ filled_other w fs) (filled_other w fs))
    kept_by true rest = rest
    kept_by false rest = (all.0, rest)

-- a store to a word other than these
pub not_among : (m : Memory) (free : Slots) (u : Updating) (w : Word) (x : ℕ) (fs : List Filled) → IsNotAmong w fs → Every (FilledRight m free u) fs
    → Every (FilledRight (written m w x) free u) fs
not_among m free u w x [] off all = tt
not_among m free u w x (f ∷ fs) off all = (λ own. ap (λ b. cond b x (m f.word)) off.0 ∙ all.0 own, not_among m free u w x fs off.1 all.1)
