-- The books of a depot's seats, and the rule of the queue: that they balance with what the queue holds.
use Rattle.std.specs.Prelude.{◌≡◌, ℕ, ◌+◌, ◌<◌, ◌≤◌, ◌⊎◌, Bool, true, false, List, [], ◌∷◌, ◌++◌, length, map}
use Rattle.std.specs.List.{concat}
use Rattle.key_map.specs.Lists.{count, Every}
use Rattle.crossbeam_queue.specs.Fifo.{Held}
use Rattle.slot_depot.specs.declared.book.Book.{Book}
use Rattle.slot_depot.specs.declared.book.Terms.{Terms}
use mathlib.Core.Option.{some}
use lib.ListN.{get_elem?}

-- each tag stands as often in all lists of what was given as in all lists of what was taken and in what is left
abbrev pub IsBalanced : List (List ℕ) → List (List ℕ) → List ℕ → Type 0
IsBalanced gave took left = (tag : ℕ) → count tag (concat gave) ≡ count tag (concat took) + count tag left

abbrev pub terms_for : List ℕ → ℕ → ℕ → Terms
terms_for home room seats = record { home = home; room = room; seats = seats }

-- a book in which nothing is written
abbrev pub empty_book : Bool → Terms → ℕ → Book
empty_book opened t shares = record { opened = opened; terms = t; shares = shares; gave = []; took = []; empties = 0; fulls = 0 }

-- the first book, before the depot has its terms
abbrev pub unopened : Book
unopened = empty_book false (terms_for [] 0 0) 1

-- a book that was put together with another one
abbrev pub spent : Book
spent = empty_book false (terms_for [] 0 0) 0

-- a book after a parcel of this tag was given, or taken, and after a look that has found the depot empty, or full
abbrev pub with_given : ℕ → Book → Book
with_given tag b = record b { gave = b.gave ++ tag ∷ [] }

abbrev pub with_taken : ℕ → Book → Book
with_taken tag b = record b { took = b.took ++ tag ∷ [] }

abbrev pub with_empty : Book → Book
with_empty b = record b { empties = b.empties + 1 }

abbrev pub with_full : Book → Book
with_full b = record b { fulls = b.fulls + 1 }

-- two books as one
abbrev pub both_books : Book → Book → Book
both_books b c = record b {
  shares = b.shares + c.shares;
  gave = b.gave ++ c.gave;
  took = b.took ++ c.took;
  empties = b.empties + c.empties;
  fulls = b.fulls + c.fulls;
}

-- a book is one of a depot with these terms, or stands for no seat
pub record IsBookOf (t : Terms) (b : Book) : Type 0 where
  pub terms : b.opened ≡ true → b.terms ≡ t
  pub closed : b.opened ≡ false → b.shares ≡ 0
  pub unwritten : b.shares ≡ 0 → (b.gave ≡ []) × (b.took ≡ [])

-- the sum of what a function gives of each book
abbrev pub total : (Book → ℕ) → List Book → ℕ
total f [] = 0
total f (b ∷ bs) = f b + total f bs

abbrev pub shares_of : Book → ℕ
shares_of b = b.shares

-- how often a tag was given, and taken
abbrev pub given : ℕ → Book → ℕ
given tag b = count tag b.gave

abbrev pub taken : ℕ → Book → ℕ
taken tag b = count tag b.took

-- how many parcels were given, and taken
abbrev pub gifts : Book → ℕ
gifts b = length b.gave

abbrev pub takes : Book → ℕ
takes b = length b.took

module _ {T : Type 0} (home_of : T → List ℕ) (tag_of : T → ℕ) where
  -- what the queue of an opened depot holds, and all books
  pub record AreEven (t : Terms) (items : List T) (all : List Book) : Type 0 where
    pub home : Every (λ x. home_of x ≡ t.home) items
    pub room : length items ≤ t.room
    pub books : Every (IsBookOf t) all
    pub seats : total shares_of all ≡ t.seats
    pub balance : (n : ℕ) → total (given n) all ≡ total (taken n) all + count n (map tag_of items)
    pub sizes : total gifts all ≡ total takes all + length items

  -- the rule of the queue: the depot was not opened yet, or what it holds and all books balance
  abbrev pub Ruled : List T → List Book → Type 0
  Ruled items books = ((books ≡ unopened ∷ []) × (items ≡ [])) ⊎ ((t : Terms) × AreEven t items books)

  -- a parcel was taken. It is of the depot's index; and a book that stands for all seats had more given than taken
  pub record HasTaken (b : Book) (x : T) (after : Book) : Type 0 where
    pub book : after ≡ with_taken (tag_of x) b
    pub home : home_of x ≡ b.terms.home
    pub more : b.shares ≡ b.terms.seats → takes b < gifts b

  -- what a look at the queue shows to a seat with this book: what the queue holds, and books that follow the rule
  -- with it, this one among them
  abbrev pub Shows : Book → List T → Type 0
  Shows b items = (books : List Book) × Ruled items books × (seat : ℕ) × (get_elem? books seat ≡ some b)

  -- at one moment the queue held so many parcels, and books that the rule allows were those of the seats, this one
  -- among them
  abbrev pub HeldParcels : ℕ → Book → Type 0
  HeldParcels n b = Held n (Shows b)
