-- The words to which each kind of event stores, said once: another word is as before.
use Rattle.std.proofs.Common.{◌≡◌, ℕ, ◌+◌, List, cond, length, Bool, true, false, not, eqb, ◌&&◌, set, refl, ap, ◌∙◌, sym, subst, Option, Some, slice_index}
use Rattle.std.proofs.lemmas.Bool.{and_parts, eq-eqb}
use Rattle.index_words.specs.declared.layout.Layout.{Layout}
use Rattle.key_map.specs.declared.update.Update.{Update}
use Rattle.key_map.specs.Lists.{has}
use Rattle.index_words.specs.declared.view.View.{View}
use Rattle.index_words.specs.declared.word.Field.TheVariants.{Lock, Mark, Head, Link, Tag}
use Rattle.index_words.specs.declared.word.Part.TheVariants.{Stamp as Number, Next}
use Rattle.index_words.specs.declared.word.Word.{Word}
use Rattle.index_words.specs.declared.word.Word.TheVariants.{Stamp, Section, Announced, Node, Entry}
use Rattle.index_words.specs.Words.{Memory, memory, word_at, word_count, same_word}
use Rattle.index_words.proofs.Store.{stored_at, same_word-true}
use Rattle.core_grace.specs.Batches.{is_number}
use Rattle.core_events.specs.declared.event.Kind.{Kind}
use Rattle.core_events.specs.declared.event.Kind.TheVariants.{Enter, Leave, Fill, Prepare, Raise, Finalise, TryLock, Unlock, Mark as MarkNode, Announce, Cut, SetLink, SetTag}
use Rattle.core_events.specs.Needs.{is_lock, may_enter}
use Rattle.core_events.specs.Waits.{may_leave}
use Rattle.core_events.specs.Announcing.{is_own_announced, is_announcement}
use Rattle.core_events.specs.Needs.{is_own_section, is_outside}
use Rattle.core_events.specs.Steps.{needs, words_after}
use Rattle.core_events.specs.WordMoves.{Move, move_of, words_moved}
use Rattle.core_events.specs.WordMoves.Move.{Store, Add, Swap}
use Rattle.core_events.proofs.Tests.{never, stamp_named}
use Rattle.core_invariant.proofs.Needed.{OwnSection, own_section, own_announced, raise_needed}
use Rattle.core_invariant.proofs.WaitNeeds.{can_leave}

-- an event of the kind, by a seat with this view, may store to the word
abbrev pub stores : Kind → View → Word → Bool
stores Enter v (Section n) = is_number n v.number
stores Leave v (Section n) = is_number n v.number
stores Fill v (Node f k) = not (is_lock f)
stores Fill v (Entry p e) = true
stores Prepare v (Node (Head side) k) = true
stores Raise v Stamp = true
stores Finalise v (Entry Number e) = true
stores TryLock v (Node Lock k) = true
stores Unlock v (Node Lock k) = true
stores MarkNode v (Node Mark k) = true
stores Announce v (Announced n) = is_number n v.number
stores Cut v (Entry Next e) = true
stores SetLink v (Node (Link side) k) = true
stores SetTag v (Node (Tag side) k) = true
stores _ v _ = false

-- a move that changes the word
abbrev is_storing : Move → Bool
is_storing Store = true
is_storing Add = true
is_storing Swap = true
is_storing _ = false

pub own_enter : (v : View) (w : Word) (value : ℕ) → may_enter v w value ≡ true → OwnSection v.number w
own_enter v w value met =
    let parts = and_parts (is_own_section v.number w && is_outside v) (eqb value (v.section_word + 1)) met in
    own_section v.number w (and_parts (is_own_section v.number w) (is_outside v) parts.0).0

pub own_leave : (m : Memory) (v : View) (w : Word) (value : ℕ) → may_leave m v w value ≡ true → OwnSection v.number w
own_leave m v w value met = (can_leave m v w value met).own

module _ (z : Layout) (m : Memory) (vs : List View) (i : ℕ) (v : View) (value : ℕ) where
  own_met : (kind : Kind) (w : Word) (own : OwnSection v.number w) → stores kind v (Section own.n) ≡ is_number own.n v.number → stores kind v w ≡ true
  own_met kind w own is =
      subst (λ (u : Word). stores kind v u ≡ true) (sym own.word) (is ∙ ap (is_number own.n) own.named ∙ eq-eqb own.n own.n refl)

  -- the word of an event that stores
  met : (kind : Kind) (w : Word) (o : Option Update) → is_storing (move_of kind) ≡ true → needs kind z m vs i v w value o ≡ true → stores kind v w ≡ true
  met Enter w o _ need = own_met Enter w (own_enter v w value need) refl
  met Leave w o _ need = own_met Leave w (own_leave m v w value need) refl
  met Announce w o _ need =
      let own = own_announced v.number w (and_parts (is_own_announced v.number w) (is_announcement v value) need).0 in
      subst (λ (u : Word). stores Announce v u ≡ true) (sym own.word) (ap (is_number own.n) own.named ∙ eq-eqb own.n own.n refl)
  met Fill (Node f k) o _ need = (and_parts (not (is_lock f)) (has k v.free.nodes) need).0
  met Raise w o _ need = subst (λ (u : Word). stores Raise v u ≡ true) (sym (stamp_named w (raise_needed z m vs v w value o need))) refl
  met Fill (Entry p e) o _ need = refl
  met Prepare (Node (Head side) k) o _ need = refl
  met Finalise (Entry Number e) o _ need = refl
  met TryLock (Node Lock k) o _ need = refl
  met Unlock (Node Lock k) o _ need = refl
  met MarkNode (Node Mark k) o _ need = refl
  met Cut (Entry Next e) o _ need = refl
  met SetLink (Node (Link side) k) o _ need = refl
  met SetTag (Node (Tag side) k) o _ need = refl
  met _ w o storing need = cc

module _ (z : Layout) (words : List ℕ) (vs : List View) (i : ℕ) (v : View) (n : ℕ) (w : Word) (long : length words ≡ word_count z)
    (found : word_at z n ≡ Some w) (value : ℕ) (o : Option Update) where
  abbrev m : Memory
  m = memory z words

  -- a store to the word, of a kind that does not store to the other one
  stored : (kind : Kind) (u : Word) (x : ℕ) → stores kind v u ≡ false → stores kind v w ≡ true → memory z (set words n x) u ≡ m u
  stored kind u x off on = ap (λ (h : Memory). h u) (stored_at z words n w x long found) ∙ by (same_word u w) refl
    where
      by : (b : Bool) → same_word u w ≡ b → cond b x (m u) ≡ m u
      by true is = absurd (never (sym off ∙ subst (λ (y : Word). stores kind v y ≡ true) (sym (same_word-true u w is)) on))
      by false is = refl

  tried : (kind : Kind) (b : Bool) (u : Word) → stores kind v u ≡ false → stores kind v w ≡ true → memory z (cond b (set words n value) words) u ≡ m u
  tried kind true u off on = stored kind u value off on
  tried kind false u off on = refl

  kept_by : (kind : Kind) (move : Move) (u : Word) → stores kind v u ≡ false → (is_storing move ≡ true → stores kind v w ≡ true) → memory z (words_moved move words n value) u ≡ m u
  kept_by kind Store u off on = stored kind u value off (on refl)
  kept_by kind Add u off on = stored kind u (slice_index words n + 1) off (on refl)
  kept_by kind Swap u off on = tried kind (eqb (slice_index words n) 0) u off (on refl)
  kept_by kind _ u off on = refl

  -- a word to which the kind does not store is as before
  pub word_keeps : (kind : Kind) (u : Word) → stores kind v u ≡ false → needs kind z m vs i v w value o ≡ true → memory z (words_after kind words n value) u ≡ m u
  word_keeps kind u off need = kept_by kind (move_of kind) u off (λ storing. met z m vs i v value kind w o storing need)
