-- The try of a lock: that it may be made, what it leaves in the view, and that what is kept at run time still is what
-- the view says.
use Rattle.std.proofs.Common.{◌≡◌, ℕ, ◌+◌, ◌<◌, cond, Bool, true, false, eqb, arith, refl, ap, ◌∙◌, sym, subst, inl, inr}
use Rattle.std.proofs.lemmas.Bool.{eq-eqb, ne_eqb, cases_lt}
use Rattle.index_words.specs.declared.layout.Layout.{Layout}
use Rattle.index_words.specs.declared.view.View.{View}
use Rattle.index_words.specs.declared.word.Field.TheVariants.{Lock}
use Rattle.index_words.specs.declared.word.Word.TheVariants.{Node}
use Rattle.index_words.specs.Words.{memory, is_there}
use Rattle.core_events.specs.declared.event.Event.{Event}
use Rattle.core_events.specs.declared.event.Kind.TheVariants.{TryLock}
use Rattle.core_events.specs.LoadMoves.{risen, raised_if}
use Rattle.core_events.specs.LockMoves.{tried, locked_view, met_lock, names_other}
use Rattle.core_invariant.specs.Locks.{lock_count}
use Rattle.core_invariant.specs.Readers.{IsLocked}
use Rattle.core_laws.specs.ViewNeeds.{event_at, IsInside, IsSearched, MayLock}
use Rattle.core_laws.proofs.HeldLocks.{counted_busy}
use Rattle.core_laws.proofs.ViewNeeds.{may_lock_law}
use Rattle.table_rule.specs.Homes.{Home, Sat, IsOf, Asks, IsLiveView}
use Rattle.table_rule.specs.Running.{Happened}
use Rattle.table_rule.proofs.Happens.{happened_view, happened_word}
use Rattle.table_rule.proofs.Lists.{item_at}
use Rattle.table_steps.specs.Kept.{Keeps}
use Rattle.table_steps.specs.Loads.{HasLocked, HasMetLock}
use Rattle.table_steps.specs.declared.kept.Kept.{Kept}
use Rattle.table_steps.proofs.LoadSteps.{own_part, keeps_same, pass_of, asks_of, high_there}
use Rattle.table_steps.proofs.There.{searched_high}

-- a view after a try of a lock has its own parts unchanged
tried_own : (b : Bool) (v : View) (node own found : ℕ) → own_part (cond b (locked_view v node) (met_lock v own found)) ≡ own_part v
tried_own true v node own found = refl
tried_own false v node own found = refl

tried_free : (v : View) (node own found : ℕ) → found ≡ 0 → tried v node own found ≡ locked_view v node
tried_free v node own found is = ap (λ b. cond b (locked_view v node) (met_lock v own found)) (eq-eqb found 0 is)

tried_held : (v : View) (node own found : ℕ) → (found ≡ 0 → ⊥) → tried v node own found ≡ met_lock v own found
tried_held v node own found held = ap (λ b. cond b (locked_view v node) (met_lock v own found)) (ne_eqb found 0 held)

module _ (home : Home) (s : Sat) (k : Kept) (keeps : Keeps s.view k) (of : IsOf home s) (node : ℕ) (live : IsLiveView s.view) (inside : IsInside s.view) (searched : IsSearched s.view node) (unlocked : ¬ IsLocked s.view node) where
  abbrev v : View
  v = s.view

  abbrev own : ℕ
  own = k.number + 1

  abbrev pub lock_event : Event
  lock_event = event_at home.layout s.seat TryLock (Node Lock node) own

  lock_there : is_there home.layout (Node Lock node) ≡ true
  lock_there = high_there home s of Lock node (searched_high s.view live inside node searched)

  may : MayLock v k.number node
  may = record { own = keeps.number; inside = inside; searched = searched; unlocked = unlocked }

  pub lock_asks : Asks home s (Node Lock node) lock_event
  lock_asks = asks_of home s of (Node Lock node) TryLock own lock_there (may_lock_law home.layout v s.seat k.number node may)

  module _ (w : View) (n : ℕ) (h : Happened home.layout lock_event v n w) where
    abbrev lock_word : memory home.layout h.words (Node Lock node) ≡ n
    lock_word = happened_word home.layout lock_event v w n (Node Lock node) lock_there refl tt h

    tried_is : w ≡ tried v node own n
    tried_is = happened_view home.layout lock_event v w n (Node Lock node) lock_there refl tt h ∙ ap (tried v node own) lock_word

    lock_free : n ≡ 0 → w ≡ locked_view v node
    lock_free is = tried_is ∙ tried_free v node own n is

    lock_met : (n ≡ 0 → ⊥) → w ≡ met_lock v own n
    lock_met held = tried_is ∙ tried_held v node own n held

    -- the word names another pass
    other : (n ≡ 0 → ⊥) → names_other own n ≡ true
    other held =
        let z = home.layout in
        let some : 0 < memory z h.words (Node Lock node) = let apart = held in omega (arith, apart, lock_word) in
        subst (λ x. names_other own x ≡ true) lock_word
        (counted_busy z (memory z h.words) h.views h.rule.meaning h.rule.rule s.seat node k.number v (item_at h.views s.seat v h.seat) keeps.number (none_locked (lock_count node v) unlocked) some)
      where
        none_locked : (c : ℕ) → ¬ (0 < c) → c ≡ 0
        none_locked c none =
            elim (cases_lt 0 c) as (λ _. c ≡ 0) [
              | inl some ↦ absurd (none some)
              | inr low ↦ omega (arith, low)
            ]

    lock_busy : (n ≡ 0 → ⊥) → w.counts.busy ≡ risen v.counts.busy
    lock_busy held = ap (λ (u : View). u.counts.busy) (lock_met held) ∙ ap (λ b. raised_if b v.counts.busy) (other held)

    event_here : Happened v.layout (event_at v.layout s.seat TryLock (Node Lock node) own) v n w
    event_here = subst (λ (y : Layout). Happened y (event_at y s.seat TryLock (Node Lock node) own) v n w) (sym of.layout) h

    pub lock_had : n ≡ 0 → HasLocked (pass_of s k.number) node w
    lock_had is = record {
      event = subst (λ x. Happened v.layout (event_at v.layout s.seat TryLock (Node Lock node) own) v x w) is event_here;
      view = lock_free is;
    }

    pub lock_missed : (n ≡ 0 → ⊥) → HasMetLock (pass_of s k.number) node w
    lock_missed held = record { found = n; held = omega (arith, held); event = event_here; view = lock_met held; busy = lock_busy held }

    pub lock_keeps : Keeps w k
    lock_keeps = keeps_same v w k (ap own_part tried_is ∙ tried_own (eqb n 0) v node own n) keeps
