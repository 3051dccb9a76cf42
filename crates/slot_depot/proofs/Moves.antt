-- Each step on the queue and on the books keeps the rule.
use Rattle.std.proofs.Common.{◌≡◌, ℕ, zero, suc, ◌+◌, ◌-◌, ◌<◌, ◌≤◌, true, true≢false, List, [], ◌∷◌, ◌++◌, length, map, set, sym, refl, ap, ◌∙◌, subst, arith, inr, ⊎_elim}
use Rattle.std.proofs.lemmas.List.{length-append}
use mathlib.Core.Option.{some, some-injective, some-ne-none}
use lib.ListN.{get_elem?}
use Rattle.key_map.specs.Lists.{count, Every}
use Rattle.key_map.proofs.Counting.{count-append}
use Rattle.crossbeam_queue.specs.Fifo.{Pushes, Pops, Forks, Merges, Learns}
use Rattle.slot_depot.specs.declared.book.Book.{Book}
use Rattle.slot_depot.specs.declared.book.Terms.{Terms}
use Rattle.slot_depot.specs.Books.{IsBookOf, total, shares_of, given, taken, gifts, takes, unopened, spent, empty_book, with_given, with_taken, with_empty, with_full, both_books, AreEven, Ruled, HasTaken, Shows, HeldParcels}
use Rattle.slot_depot.proofs.Totals.{total_set, total_push, total_one, every_at, every_set, every_push}

pub map_push : {A B : Type 0} (f : A → B) (xs : List A) (x : A) → map f (xs ++ x ∷ []) ≡ map f xs ++ f x ∷ []
map_push f [] x = refl
map_push f (y ∷ xs) x = ap (λ l. f y ∷ l) (map_push f xs x)

unopened_alone : (books : List Book) (seat : ℕ) (b : Book) → books ≡ unopened ∷ [] → get_elem? books seat ≡ some b → b ≡ unopened
unopened_alone books seat b is at = only seat (ap (λ l. get_elem? l seat) (sym is) ∙ at)
  where
    only : (seat : ℕ) → get_elem? (unopened ∷ []) seat ≡ some b → b ≡ unopened
    only zero e = sym (some-injective unopened b e)
    only (suc seat) e = absurd (some-ne-none b (sym e))

-- a spent book is one of any depot
spent_of : (t : Terms) → IsBookOf t spent
spent_of t = record { terms = λ e. absurd (true≢false (sym e)); closed = λ _. refl; unwritten = λ _. (refl, refl) }

none_given : (n : ℕ) (t : Terms) (b : Book) → IsBookOf t b → b.shares ≡ 0 → given n b ≡ 0
none_given n t b is none = ap (count n) (is.unwritten none).0

none_taken : (n : ℕ) (t : Terms) (b : Book) → IsBookOf t b → b.shares ≡ 0 → taken n b ≡ 0
none_taken n t b is none = ap (count n) (is.unwritten none).1

no_gifts : (t : Terms) (b : Book) → IsBookOf t b → b.shares ≡ 0 → gifts b ≡ 0
no_gifts t b is none = ap length (is.unwritten none).0

no_takes : (t : Terms) (b : Book) → IsBookOf t b → b.shares ≡ 0 → takes b ≡ 0
no_takes t b is none = ap length (is.unwritten none).1

weaker : {P Q : Book → Type 0} (books : List Book) → ((b : Book) → P b → Q b) → Every P books → Every Q books
weaker [] f all = tt
weaker (b ∷ books) f all = (f b all.0, weaker books f all.1)

module _ {T : Type 0} (home : T → List ℕ) (tag : T → ℕ) where
  -- an opened book shows that the depot was opened
  even : (items : List T) (books : List Book) (seat : ℕ) (b : Book) → b.opened ≡ true → Ruled home tag items books → get_elem? books seat ≡ some b → (t : Terms) × AreEven home tag t items books × (b.terms ≡ t)
  even items books seat b opened rule at =
      ⊎_elim (λ (first : (books ≡ unopened ∷ []) × (items ≡ [])). absurd (true≢false (sym opened ∙ ap (λ (c : Book). c.opened) (unopened_alone books seat b first.0 at))))
      (λ (r : (t : Terms) × AreEven home tag t items books). (r.0, r.1, (every_at (IsBookOf r.0) books seat b r.1.books at).terms opened)) rule

  pub learns : (seat : ℕ) (b : Book) → Learns (Ruled home tag) seat b (Shows home tag b)
  learns seat b items books rule at = (books, rule, seat, at)

  pub pushes : (n seat : ℕ) (b : Book) (x : T) → b.opened ≡ true → 0 < b.shares → b.terms.room ≡ n → home x ≡ b.terms.home
      → Pushes (Ruled home tag) n seat b x (λ after. after ≡ with_given (tag x) b)
  pushes n seat b x opened some_share room of items books fits rule at =
      let r = even items books seat b opened rule at in
      let is = every_at (IsBookOf r.0) books seat b r.1.books at in
      let after : Book = with_given (tag x) b in
      let after_is : IsBookOf r.0 after = record { terms = is.terms; closed = is.closed; unwritten = λ none. absurd (omega (arith, none, some_share)) } in
      let fits_terms : length items < r.0.room = subst (λ m. length items < m) (sym room ∙ ap (λ (t : Terms). t.room) r.2) fits in (
        after,
        inr (
          r.0,
          record {
            home = every_push (λ y. home y ≡ r.0.home) items x r.1.home (of ∙ ap (λ (t : Terms). t.home) r.2);
            room = omega (arith, fits_terms, length-append items (x ∷ []));
            books = every_set (IsBookOf r.0) books seat after r.1.books after_is;
            seats = omega (arith, total_set shares_of books seat b after at, r.1.seats);
            balance = λ m. (
                let s = total_set (given m) books seat b after at in
                let u = total_set (taken m) books seat b after at in
                let g = count-append m b.gave (tag x ∷ []) in
                let l = ap (count m) (map_push tag items x) ∙ count-append m (map tag items) (tag x ∷ []) in
                omega (arith, s, u, g, l, r.1.balance m)
                );
            sizes = omega (arith, total_set gifts books seat b after at, total_set takes books seat b after at, length-append b.gave (tag x ∷ []), length-append items (x ∷ []), r.1.sizes);
          },
        ),
        refl,
      )

  -- a book that stands for all seats has given and taken all
  more_given : (t : Terms) (items : List T) (books : List Book) (seat : ℕ) (b : Book) → AreEven home tag t items books → get_elem? books seat ≡ some b → b.shares ≡ t.seats → gifts b ≡ takes b + length items
  more_given t items books seat b r at all =
      let one = r.seats ∙ sym all in
      let g = total_one shares_of gifts books seat b at one (weaker books (no_gifts t) r.books) in
      let k = total_one shares_of takes books seat b at one (weaker books (no_takes t) r.books) in
      omega (arith, g, k, r.sizes)

  pub pops : (seat : ℕ) (b : Book) → b.opened ≡ true → 0 < b.shares → Pops (Ruled home tag) seat b (HasTaken home tag b)
  pops seat b opened some_share x items books rule at =
      let r = even (x ∷ items) books seat b opened rule at in
      let is = every_at (IsBookOf r.0) books seat b r.1.books at in
      let after : Book = with_taken (tag x) b in
      let after_is : IsBookOf r.0 after = record { terms = is.terms; closed = is.closed; unwritten = λ none. absurd (omega (arith, none, some_share)) } in (
        after,
        inr (
          r.0,
          record {
            home = r.1.home.1;
            room = omega (arith, r.1.room);
            books = every_set (IsBookOf r.0) books seat after r.1.books after_is;
            seats = omega (arith, total_set shares_of books seat b after at, r.1.seats);
            balance = λ m. (
                let s = total_set (given m) books seat b after at in
                let u = total_set (taken m) books seat b after at in
                let g = count-append m b.took (tag x ∷ []) in
                omega (arith, s, u, g, r.1.balance m)
                );
            sizes = omega (arith, total_set gifts books seat b after at, total_set takes books seat b after at, length-append b.took (tag x ∷ []), r.1.sizes);
          },
        ),
        record {
          book = refl;
          home = r.1.home.0 ∙ ap (λ (t : Terms). t.home) (sym r.2);
          more = λ all. (let m = more_given r.0 (x ∷ items) books seat b r.1 at (all ∙ ap (λ (t : Terms). t.seats) r.2) in omega (arith, m));
        },
      )

  -- a book changes in nothing that the rule speaks of, and there is one more book, which is spent
  forks : (seat : ℕ) (b after : Book) → b.opened ≡ true → after.opened ≡ b.opened → after.terms ≡ b.terms → after.shares ≡ b.shares → after.gave ≡ b.gave → after.took ≡ b.took
      → Forks (Ruled home tag) seat b after spent
  forks seat b after opened o t n g k items books rule at =
      let r = even items books seat b opened rule at in
      let is = every_at (IsBookOf r.0) books seat b r.1.books at in
      let after_is : IsBookOf r.0 after = record {
        terms = λ e. t ∙ is.terms (sym o ∙ e);
        closed = λ e. n ∙ is.closed (sym o ∙ e);
        unwritten = λ e. (g ∙ (is.unwritten (sym n ∙ e)).0, k ∙ (is.unwritten (sym n ∙ e)).1);
      } in
      let changed = set books seat after in
      let same : (f : Book → ℕ) → f after ≡ f b → f spent ≡ 0 → total f (changed ++ spent ∷ []) ≡ total f books =
      λ f e z. omega (arith, total_push f changed spent, total_set f books seat b after at, e, z) in
      inr (
        r.0,
        record {
          home = r.1.home;
          room = r.1.room;
          books = every_push (IsBookOf r.0) changed spent (every_set (IsBookOf r.0) books seat after r.1.books after_is) (spent_of r.0);
          seats = same shares_of n refl ∙ r.1.seats;
          balance = λ m. omega (arith, same (given m) (ap (count m) g) refl, same (taken m) (ap (count m) k) refl, r.1.balance m);
          sizes = omega (arith, same gifts (ap length g) refl, same takes (ap length k) refl, r.1.sizes);
        },
      )

  pub notes_empty : (seat : ℕ) (b : Book) → b.opened ≡ true → Forks (Ruled home tag) seat b (with_empty b) spent
  notes_empty seat b opened = forks seat b (with_empty b) opened refl refl refl refl refl

  pub notes_full : (seat : ℕ) (b : Book) → b.opened ≡ true → Forks (Ruled home tag) seat b (with_full b) spent
  notes_full seat b opened = forks seat b (with_full b) opened refl refl refl refl refl

  pub deals : (seat : ℕ) (b : Book) → b.opened ≡ true → 0 < b.shares → b.gave ≡ [] → b.took ≡ [] → Forks (Ruled home tag) seat b (record b { shares = b.shares - 1 }) (empty_book true b.terms 1)
  deals seat b opened several no_gave no_took items books rule at =
      let left : Book = record b { shares = b.shares - 1 } in
      let dealt : Book = empty_book true b.terms 1 in
      let r = even items books seat b opened rule at in
      let left_is : IsBookOf r.0 left = record { terms = λ _. r.2; closed = λ e. absurd (true≢false (sym opened ∙ e)); unwritten = λ _. (no_gave, no_took) } in
      let dealt_is : IsBookOf r.0 dealt = record { terms = λ _. r.2; closed = λ e. absurd (true≢false e); unwritten = λ _. (refl, refl) } in
      let changed = set books seat left in
      let sums : (f : Book → ℕ) → f left + f dealt ≡ f b → total f (changed ++ dealt ∷ []) ≡ total f books =
      λ f e. omega (arith, total_push f changed dealt, total_set f books seat b left at, e) in
      inr (
        r.0,
        record {
          home = r.1.home;
          room = r.1.room;
          books = every_push (IsBookOf r.0) changed dealt (every_set (IsBookOf r.0) books seat left r.1.books left_is) dealt_is;
          seats = sums shares_of (omega (arith, several)) ∙ r.1.seats;
          balance = λ m. omega (arith, sums (given m) (omega arith), sums (taken m) (omega arith), r.1.balance m);
          sizes = omega (arith, sums gifts (omega arith), sums takes (omega arith), r.1.sizes);
        },
      )

  pub opens : (seat : ℕ) (b : Book) (t : Terms) → b ≡ unopened → Forks (Ruled home tag) seat b (empty_book true t t.seats) spent
  opens seat b t first items books rule at =
      ⊎_elim
      (λ (r : (books ≡ unopened ∷ []) × (items ≡ [])). begun r.0 r.1)
      (λ (r : (t : Terms) × AreEven home tag t items books).
      let is = every_at (IsBookOf r.0) books seat b r.1.books at in
      let none = is.closed (ap (λ (c : Book). c.opened) first) in
      absurd (omega (arith, none, ap shares_of first)))
      rule
    where
      all : Book
      all = empty_book true t t.seats

      at_first : books ≡ unopened ∷ [] → (seat : ℕ) → get_elem? books seat ≡ some b → set books seat all ≡ all ∷ []
      at_first is zero e = ap (λ l. set l 0 all) is
      at_first is (suc k) e = absurd (some-ne-none b (sym (sym (ap (λ l. get_elem? l (suc k)) is) ∙ e)))

      all_is : IsBookOf t all
      all_is = record { terms = λ _. refl; closed = λ e. absurd (true≢false e); unwritten = λ _. (refl, refl) }

      begun : books ≡ unopened ∷ [] → items ≡ [] → Ruled home tag items (set books seat all ++ spent ∷ [])
      begun is none =
          let now : set books seat all ++ spent ∷ [] ≡ all ∷ spent ∷ [] = ap (λ l. l ++ spent ∷ []) (at_first is seat at) in
          subst (λ (y : List T × List Book). Ruled home tag y.0 y.1) (λ i. (sym none i, sym now i)) (inr (
            t,
            record {
              home = tt;
              room = omega arith;
              books = (all_is, (spent_of t, tt));
              seats = omega arith;
              balance = λ m. refl;
              sizes = refl;
            },
          ))

  pub merges : (seat : ℕ) (b : Book) (other : ℕ) (c : Book) → b.opened ≡ true → 0 < c.shares → Merges (Ruled home tag) seat b other c (both_books b c) spent
  merges seat b other c opened some_share items books rule at two at_other =
      let r = even items books seat b opened rule at in
      let both : Book = both_books b c in
      let is = every_at (IsBookOf r.0) books seat b r.1.books at in
      let both_is : IsBookOf r.0 both = record { terms = is.terms; closed = λ e. absurd (true≢false (sym opened ∙ e)); unwritten = λ none. absurd (omega (arith, none, some_share)) } in
      let changed = set books seat both in
      let sums : (f : Book → ℕ) → f both ≡ f b + f c → f spent ≡ 0 → total f (set changed other spent) ≡ total f books =
      λ f e z. omega (arith, total_set f changed other c spent at_other, total_set f books seat b both at, e, z) in
      inr (
        r.0,
        record {
          home = r.1.home;
          room = r.1.room;
          books = every_set (IsBookOf r.0) changed other spent (every_set (IsBookOf r.0) books seat both r.1.books both_is) (spent_of r.0);
          seats = sums shares_of refl refl ∙ r.1.seats;
          balance = λ m. omega (arith, sums (given m) (count-append m b.gave c.gave) refl, sums (taken m) (count-append m b.took c.took) refl, r.1.balance m);
          sizes = omega (arith, sums gifts (length-append b.gave c.gave) refl, sums takes (length-append b.took c.took) refl, r.1.sizes);
        },
      )

  -- what is left fits into as many places as the depot has
  pub left_fits : (b : Book) (items : List T) → b.opened ≡ true → b.shares ≡ b.terms.seats → Shows home tag b items → gifts b ≤ takes b + b.terms.room
  left_fits b items opened all shows =
      let r = even items shows.0 shows.2 b opened shows.1 shows.3 in
      let m = more_given r.0 items shows.0 shows.2 b r.1 shows.3 (all ∙ ap (λ (t : Terms). t.seats) r.2) in
      let e : b.terms.room ≡ r.0.room = ap (λ (t : Terms). t.room) r.2 in
      omega (arith, m, e, r.1.room)

  -- where nothing is left, each tag was taken as often as it was given
  pub settled : (b : Book) → b.opened ≡ true → b.shares ≡ b.terms.seats → HeldParcels home tag 0 b → (n : ℕ) → given n b ≡ taken n b
  settled b opened all held n =
      let shows = held.2 in
      let r = even held.0 shows.0 shows.2 b opened shows.1 shows.3 in
      let one = r.1.seats ∙ sym (all ∙ ap (λ (t : Terms). t.seats) r.2) in
      let g = total_one shares_of (given n) shows.0 shows.2 b shows.3 one (weaker shows.0 (none_given n r.0) r.1.books) in
      let k = total_one shares_of (taken n) shows.0 shows.2 b shows.3 one (weaker shows.0 (none_taken n r.0) r.1.books) in
      let none = no_items held.0 held.1 in
      omega (arith, g, k, r.1.balance n, none)
    where
      no_items : (items : List T) → length items ≡ 0 → count n (map tag items) ≡ 0
      no_items [] e = refl
      no_items (x ∷ items) e = absurd (omega (arith, e))
