-- Helper: the headline does not rest on this file.
-- Why reading all input ends without its bytes.
use Rattle.std.specs.Prelude.{ℕ, ◌≤◌, List, Option}
use Rattle.outside_io.specs.declared.reading.ReadError.{ReadError}
use Rattle.outside_io.specs.declared.reading.ReadError.TheVariants.{Fault, TooLong, NoMemory}
use Rattle.outside_io.specs.Streams.{Gave, IsOver}

-- too long exactly where more than `limit` bytes were given; a fault or out of memory only where no more were
abbrev pub IsReadError : ℕ → Option (List ℕ) → Option (List ℕ) → ReadError → Type 0
IsReadError limit before now Fault = Gave before now (λ n. n ≤ limit)
IsReadError limit before now TooLong = Gave before now (IsOver limit)
IsReadError limit before now NoMemory = Gave before now (λ n. n ≤ limit)
