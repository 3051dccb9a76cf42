-- Pieces that are given or taken one after another.
use Rattle.std.proofs.Common.{◌≡◌, ℕ, ◌+◌, ◌-◌, ◌≤◌, List, [], ◌++◌, Option, Some, None, length, take, drop, arith, append_assoc, refl, subst, length-append, length-take-le, length-drop}
use Rattle.std.proofs.Math.Seq.{take-add}
use Rattle.std.proofs.lemmas.List.{take_all}
use Rattle.outside_io.specs.Streams.{IsRead, IsTaken}

-- two pieces that were taken one after the other
pub taken_both : (before between now : Option (List ℕ)) (xs ys : List ℕ) → IsTaken before between xs → IsTaken between now ys → IsTaken before now (xs ++ ys)
taken_both (Some before) (Some between) (Some now) xs ys first second = rw (second, first, append_assoc)
taken_both (Some before) (Some between) None xs ys first second = second
taken_both (Some before) None now xs ys first second = absurd first
taken_both None between now xs ys first second = subst (λ o. IsTaken o now ys) first second

-- `&bytes[done..]`
rest_is : (bytes : List ℕ) (done : ℕ) → take (length bytes - done) (drop done bytes) ≡ drop done bytes
rest_is bytes done = take_all _ _ (rw length-drop (omega arith))

-- the start of what is left of the bytes was taken
pub taken_more : (before between now : Option (List ℕ)) (bytes : List ℕ) (done n : ℕ) → IsTaken before between (take done bytes) → IsTaken between now (take n (take (length bytes - done) (drop done bytes))) → IsTaken before now (take (done + n) bytes)
taken_more before between now bytes done n first second =
    rw take-add (taken_both before between now _ _ first (rw rest_is at second))

-- two pieces that were given one after the other
pub read_both : (before between now : Option (List ℕ)) (xs ys : List ℕ) → IsRead before between xs → IsRead between now ys → IsRead before now (xs ++ ys)
read_both (Some before) (Some between) (Some now) xs ys first second = rw (first, second, append_assoc)
read_both (Some before) (Some between) None xs ys first second = second
read_both (Some before) None now xs ys first second = absurd first
read_both None between now xs ys first second = subst (λ o. IsRead o now ys) first second

-- the length after one more piece
pub length-piece : (bytes buf : List ℕ) (n : ℕ) → n ≤ length buf → length (bytes ++ take n buf) ≡ length bytes + n
length-piece bytes buf n within = rw (length-append, length-take-le) refl

-- before the first piece nothing was given
pub read_none : (o : Option (List ℕ)) → IsRead o o []
read_none (Some left) = refl
read_none None = refl
