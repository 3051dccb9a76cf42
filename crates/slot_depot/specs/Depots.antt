-- A depot and its seats, as contracts see them.
use Rattle.std.specs.Prelude.{◌≡◌, ℕ, ◌<◌, List, ◌++◌, length, map, true}
use Rattle.std.specs.List.{concat}
use Rattle.key_map.specs.Lists.{count, Every}
use Rattle.atomic_table.specs.Seated.{TableId}
use Rattle.crossbeam_queue.specs.declared.array_queue.Doing.{Doing}
use Rattle.crossbeam_queue.specs.declared.array_queue.Slotted.{Slotted}
use Rattle.std.specs.Prelude.{Option}
use Rattle.slot_depot.specs.declared.book.Book.{Book}
use Rattle.slot_depot.specs.declared.book.Terms.{Terms}
use Rattle.slot_depot.specs.Books.{empty_book}

-- a depot: which queue it is, and how many parcels it holds at most
pub record Opened : Type 0 where
  pub id : TableId
  pub room : ℕ

-- a seat: the queue of its depot, and its book
pub record Seated : Type 0 where
  pub id : TableId
  pub book : Book

-- which queue it is
abbrev pub queue_id : {T Q A : Type 0} → Slotted (Option T) (Doing T Book) Q A → TableId
queue_id q = q.table.shared.table_id

-- the seat is one of this depot
pub record IsSeatOf (depot : Opened) (seat : Seated) : Type 0 where
  pub id : seat.id ≡ depot.id
  pub room : seat.book.terms.room ≡ depot.room

-- the seat is one of the depot with this queue and these terms
pub record IsSeatWith (id : TableId) (terms : Terms) (seat : Seated) : Type 0 where
  pub id_is : seat.id ≡ id
  pub terms_are : seat.book.terms ≡ terms

-- these are all seats of the depot: each has its terms, and there are as many as it was opened with, at least one
pub record AreAllSeats (depot : Opened) (seats : List Seated) : Type 0 where
  pub terms : Terms
  pub room : terms.room ≡ depot.room
  pub of : Every (IsSeatWith depot.id terms) seats
  pub some : 0 < length seats
  pub all : length seats ≡ terms.seats

-- the same seat, perhaps with more in its book
pub record IsSameSeat (old new : Seated) : Type 0 where
  pub id : new.id ≡ old.id
  pub terms : new.book.terms ≡ old.book.terms

-- the seat is one of the depot with this queue and these terms, and nothing was given or taken from it yet
pub record IsDealt (id : TableId) (terms : Terms) (seat : Seated) : Type 0 where
  pub id_is : seat.id ≡ id
  pub book_is : seat.book ≡ empty_book true terms 1

abbrev pub gave_by : Seated → List ℕ
gave_by seat = seat.book.gave

abbrev pub took_by : Seated → List ℕ
took_by seat = seat.book.took

-- the books of these seats put together
pub record HoldsBooks (terms : Terms) (seats : List Seated) (b : Book) : Type 0 where
  pub opened : b.opened ≡ true
  pub terms_are : b.terms ≡ terms
  pub shares : b.shares ≡ length seats
  pub gave : (tag : ℕ) → count tag b.gave ≡ count tag (concat (map gave_by seats))
  pub took : (tag : ℕ) → count tag b.took ≡ count tag (concat (map took_by seats))

-- the book stands for all seats of its depot
pub record StandsForAll (b : Book) : Type 0 where
  pub opened : b.opened ≡ true
  pub some : 0 < b.shares
  pub shares : b.shares ≡ b.terms.seats

-- these parcels were taken by a book that stands for all seats
pub record HasDrained {T : Type 0} (home_of : T → List ℕ) (tag_of : T → ℕ) (old : Book) (parcels : List T) (new : Book) : Type 0 where
  pub opened : new.opened ≡ old.opened
  pub terms : new.terms ≡ old.terms
  pub shares : new.shares ≡ old.shares
  pub gave : new.gave ≡ old.gave
  pub took : new.took ≡ old.took ++ map tag_of parcels
  pub home : Every (λ x. home_of x ≡ old.terms.home) parcels
