-- What is put together and taken when a depot is closed.
use Rattle.std.proofs.Common.{◌≡◌, ℕ, suc, ◌+◌, ◌<◌, List, [], ◌∷◌, ◌++◌, length, map, sym, refl, ap, ◌∙◌, arith, true}
use Rattle.std.specs.List.{concat}
use Rattle.std.proofs.lemmas.List.{length-append, append_assoc, append-nil}
use Rattle.key_map.specs.Lists.{count}
use Rattle.key_map.proofs.Counting.{count-append}
use Rattle.slot_depot.specs.declared.book.Book.{Book}
use Rattle.slot_depot.specs.declared.book.Terms.{Terms}
use Rattle.slot_depot.specs.Books.{both_books, HasTaken, Shows, HeldParcels}
use Rattle.slot_depot.specs.Depots.{Seated, HoldsBooks, StandsForAll, HasDrained, gave_by, took_by}
use Rattle.slot_depot.proofs.Totals.{every_push}
use Rattle.slot_depot.proofs.Moves.{left_fits, settled, map_push}

-- the books of one seat, and of one more
pub one_book : (t : Terms) (seat : Seated) (b : Book) → b ≡ seat.book → seat.book.opened ≡ true → seat.book.shares ≡ 1 → seat.book.terms ≡ t → HoldsBooks t (seat ∷ []) b
one_book t seat b is opened one terms =
    record {
      opened = ap (λ (c : Book). c.opened) is ∙ opened;
      terms_are = ap (λ (c : Book). c.terms) is ∙ terms;
      shares = ap (λ (c : Book). c.shares) is ∙ one;
      gave = λ n. omega (arith, ap (λ (c : Book). count n c.gave) is, count-append n seat.book.gave []);
      took = λ n. omega (arith, ap (λ (c : Book). count n c.took) is, count-append n seat.book.took []);
    }

pub more_books : (t : Terms) (done : List Seated) (seat : Seated) (b c : Book) → c ≡ both_books b seat.book → seat.book.shares ≡ 1 → HoldsBooks t done b → HoldsBooks t (seat ∷ done) c
more_books t done seat b c is one holds =
    record {
      opened = ap (λ (d : Book). d.opened) is ∙ holds.opened;
      terms_are = ap (λ (d : Book). d.terms) is ∙ holds.terms_are;
      shares = omega (arith, ap (λ (d : Book). d.shares) is, holds.shares, one);
      gave = λ n. omega (arith, ap (λ (d : Book). count n d.gave) is, count-append n b.gave seat.book.gave, holds.gave n, count-append n seat.book.gave (concat (map gave_by done)));
      took = λ n. omega (arith, ap (λ (d : Book). count n d.took) is, count-append n b.took seat.book.took, holds.took n, count-append n seat.book.took (concat (map took_by done)));
    }

module _ {T : Type 0} (home : T → List ℕ) (tag : T → ℕ) where
  pub none_drained : (b : Book) → HasDrained home tag b [] b
  none_drained b = record { opened = refl; terms = refl; shares = refl; gave = refl; took = sym (append-nil b.took); home = tt }

  pub more_drained : (old mid new : Book) (parcels : List T) (x : T) → HasDrained home tag old parcels mid → HasTaken home tag mid x new → HasDrained home tag old (parcels ++ x ∷ []) new
  more_drained old mid new parcels x before now =
      record {
        opened = ap (λ (b : Book). b.opened) now.book ∙ before.opened;
        terms = ap (λ (b : Book). b.terms) now.book ∙ before.terms;
        shares = ap (λ (b : Book). b.shares) now.book ∙ before.shares;
        gave = ap (λ (b : Book). b.gave) now.book ∙ before.gave;
        took = ap (λ (b : Book). b.took) now.book ∙ ap (λ l. l ++ tag x ∷ []) before.took ∙ append_assoc old.took (map tag parcels) (tag x ∷ []) ∙ ap (λ l. old.took ++ l) (sym (map_push tag parcels x));
        home = every_push (λ y. home y ≡ old.terms.home) parcels x before.home (now.home ∙ ap (λ (t : Terms). t.home) before.terms);
      }

  length-map : (xs : List T) → length (map tag xs) ≡ length xs
  length-map [] = refl
  length-map (x ∷ xs) = ap suc (length-map xs)

  -- what was taken so far leaves room for one more
  pub drained_fits : (old mid new : Book) (parcels items : List T) (x : T) → StandsForAll old → Shows home tag old items → HasDrained home tag old parcels mid → HasTaken home tag mid x new → length parcels < old.terms.room
  drained_fits old mid new parcels items x all shows before now =
      let fits = left_fits home tag old items all.opened all.shares shows in
      let same : mid.shares ≡ mid.terms.seats = before.shares ∙ all.shares ∙ ap (λ (t : Terms). t.seats) (sym before.terms) in
      omega (arith, fits, now.more same, ap length before.gave, ap length before.took, length-append old.took (map tag parcels), length-map parcels)

  -- at the end nothing is left in the queue: all that was given was taken
  pub drained_whole : (old mid : Book) (parcels : List T) → StandsForAll old → HasDrained home tag old parcels mid → HeldParcels home tag 0 mid → (n : ℕ) → count n old.gave ≡ count n old.took + count n (map tag parcels)
  drained_whole old mid parcels all before held n =
      let same : mid.shares ≡ mid.terms.seats = before.shares ∙ all.shares ∙ ap (λ (t : Terms). t.seats) (sym before.terms) in
      omega (arith, settled home tag mid (before.opened ∙ all.opened) same held n, ap (count n) before.gave, ap (count n) before.took, count-append n old.took (map tag parcels))
