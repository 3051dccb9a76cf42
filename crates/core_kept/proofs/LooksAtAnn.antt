-- A look at an announcement keeps the rule: where the pass has a section number, its announcement is at most that.
use Rattle.std.proofs.Common.{◌≡◌, ℕ, ◌+◌, ◌-◌, ◌<◌, ◌≤◌, cond, List, [], ◌∷◌, ◌++◌, Bool, true, false, ltb, ◌&&◌, set, arith, refl, sym, subst, inl, Option, Some, None}
use Rattle.std.specs.Prelude.{IfSome, IsSomeAnd}
use Rattle.std.proofs.lemmas.Bool.Decides.{nat_tests}
use Rattle.index_words.specs.declared.layout.Layout.{Layout}
use Rattle.index_words.specs.declared.view.View.{View}
use Rattle.index_words.specs.declared.word.Word.TheVariants.{Announced}
use Rattle.index_words.specs.Words.{Memory}
use Rattle.key_map.specs.Lists.{Every, IsItem}
use Rattle.index_words.proofs.Seats.{Beside, pairs_moved}
use Rattle.core_grace.specs.Sections.{is_even}
use Rattle.core_grace.proofs.RuleMoves.{every_push}
use Rattle.core_events.specs.Announcing.{smaller, lowered, ann_loaded}
use Rattle.core_invariant.specs.Meanings.{Meaning}
use Rattle.core_invariant.specs.SectionRule.{IsOwnWord}
use Rattle.core_invariant.specs.PruneRule.{ReadsFrom, LookedRight, PairsRight}
use Rattle.core_invariant.specs.SeatRule.{SeatRight}
use Rattle.core_invariant.specs.Rule.{Rule}
use Rattle.core_invariant.proofs.Frames.{every_map}
use Rattle.core_invariant.proofs.OneView.{seat_at, quiet_kept}

smaller_by : (n word : ℕ) (a b : Bool) → ltb 0 word ≡ a → ltb (word - 1) n ≡ b → cond (a && b) (word - 1) n ≤ n
smaller_by n word true true some less = let low : word - 1 < n = grind (arith, nat_tests) in omega (arith, low)
smaller_by n word _ _ some less = omega arith

-- the least number does not rise
smaller_low : (n word : ℕ) → smaller n word ≤ n
smaller_low n word = smaller_by n word (ltb 0 word) (ltb (word - 1) n) refl refl

announced_by : (n word t : ℕ) (a b : Bool) → ltb 0 word ≡ a → ltb (word - 1) n ≡ b → 0 < word → word ≤ t + 1 → cond (a && b) (word - 1) n ≤ t
announced_by n word t true true some less told low = omega (arith, low)
announced_by n word t true false some less told low = let high : n ≤ word - 1 = grind (arith, nat_tests) in omega (arith, high, told, low)
announced_by n word t false b some less told low = absurd (none some told)
  where
    none : ltb 0 word ≡ false → 0 < word → ⊥
    none is more = grind (arith, nat_tests)

-- and is then at most a number that is at least the announced one
smaller_announced : (n word t : ℕ) → 0 < word → word ≤ t + 1 → smaller n word ≤ t
smaller_announced n word t told low = announced_by n word t (ltb 0 word) (ltb (word - 1) n) refl refl told low

lower : (n n' : ℕ) (section : Option ℕ) → n' ≤ n → IfSome section (λ t. n ≤ t) → IfSome section (λ t. n' ≤ t)
lower n n' None low known = tt
lower n n' (Some t) low known = omega (arith, low, known)

lower_own : (n n' : ℕ) (section : Option ℕ) → n' ≤ n → IsSomeAnd section (λ t. n ≤ t) → IsSomeAnd section (λ t. n' ≤ t)
lower_own n n' None low own = own
lower_own n n' (Some t) low own = omega (arith, low, own)

reads_own : (n : ℕ) (section : Option ℕ) → IsSomeAnd section (λ t. n ≤ t) → IfSome section (λ t. n ≤ t)
reads_own n None own = absurd own
reads_own n (Some t) own = own

module _ (z : Layout) (m : Memory) (vs : List View) (g : Meaning) (rule : Rule z m vs g) (i : ℕ) (v : View) (at : IsItem vs i v) (p : ℕ) where
  abbrev word : ℕ
  word = m (Announced p)

  abbrev w : View
  w = ann_loaded v p word

  seat : SeatRight z m g v
  seat = seat_at z m vs g i v at rule

  least_by : (o : Option ℕ) → IfSome o (λ n. IsSomeAnd v.reading.section (λ t. n ≤ t)) → IfSome (lowered o word) (λ n. IsSomeAnd v.reading.section (λ t. n ≤ t))
  least_by None old = tt
  least_by (Some n) old = lower_own n (smaller n word) v.reading.section (smaller_low n word) old

  announced_is : (u : View) → Beside vs i u → u.number ≡ Some p → u.announced ≡ word
  announced_is u beside named = sym (by u.number named (seat_at z m vs g beside.place u beside.at rule).section.announced)
    where
      by : (o : Option ℕ) → o ≡ Some p → IsOwnWord (λ n. m (Announced n)) o u.announced → m (Announced p) ≡ u.announced
      by None e own = cc
      by (Some q) e own = let same : q ≡ p = cc in subst (λ y. m (Announced y) ≡ u.announced) same own

  -- the pass at which it looks now does not read below the number that is least then
  looked_now : (u : View) → Beside vs i u → (n : ℕ) → u.number ≡ Some p → ReadsFrom (smaller n word) u
  looked_now u beside n named = by u.reading.section (seat_at z m vs g beside.place u beside.at rule).announced.read
    where
      by : (o : Option ℕ) → IfSome o (λ t. (0 < u.announced) × (u.announced ≤ t + 1)) → IfSome o (λ t. smaller n word ≤ t)
      by None known = tt
      by (Some t) known =
          let is = announced_is u beside named in
          smaller_announced n word t (omega (arith, known.0, is)) (omega (arith, known.1, is))

  abbrev Reads : ℕ → View → ℕ → Type 0
  Reads n u q = u.number ≡ Some q → ReadsFrom n u

  row_by : (u : View) → Beside vs i u → (o : Option ℕ) → IfSome o (λ n. Every (Reads n u) v.reading.looked)
      → IfSome (lowered o word) (λ n. Every (Reads n u) (v.reading.looked ++ p ∷ []))
  row_by u beside None old = tt
  row_by u beside (Some n) old =
      every_push (Reads (smaller n word) u) v.reading.looked p
      (every_map (Reads n u) (Reads (smaller n word) u) v.reading.looked
      (λ q known is. lower n (smaller n word) u.reading.section (smaller_low n word) (known is)) old)
      (looked_now u beside n)

  -- its own section number is at least its least number
  here_by : (o : Option ℕ) → IfSome o (λ n. IsSomeAnd v.reading.section (λ t. n ≤ t)) → (qs : List ℕ) → IfSome o (λ n. Every (Reads n w) qs)
  here_by (Some n) own (q ∷ qs) = ((λ is. reads_own n v.reading.section own), here_by (Some n) own qs)
  here_by _ own _ = tt

  pairs_looked : PairsRight (set vs i w)
  pairs_looked =
      pairs_moved LookedRight LookedRight vs i v w at rule.pairs
      (here_by (lowered v.reading.least word) (least_by v.reading.least seat.announced.least) w.reading.looked)
      (λ u beside of. row_by u beside v.reading.least of) (λ u beside of. of) (λ t u beside other of. of)

  pub look_ann_kept : (is_even v.section_word ≡ true → ⊥) → Rule z m (set vs i w) g
  look_ann_kept inside =
      quiet_kept z m vs g rule i v at w.history w.counts w.reading w.held pairs_looked (record { mine = refl; ended = refl; ended_places = refl; left = refl })
      (λ known. known) refl (record { nodes = λ k holds. inl holds; entries = λ e holds. inl holds })
      (record {
        layout = seat.layout;
        section = record {
          section = seat.section.section;
          announced = seat.section.announced;
          outside = λ even. absurd (inside even);
          unlocked = seat.section.unlocked;
          done = seat.section.done;
          waits = seat.section.waits;
        };
        seen = seat.seen;
        update = seat.update;
        version = seat.version;
        announced = record { low = seat.announced.low; read = seat.announced.read; least = least_by v.reading.least seat.announced.least };
        tree = seat.tree;
        locks = seat.locks;
        loaded = seat.loaded;
        marks = seat.marks;
        pending = seat.pending;
        place = seat.place;
        filled = seat.filled;
        links = seat.links;
      })
