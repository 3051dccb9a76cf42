-- Bytes that are taken piece by piece, whole or from their start.
use Rattle.std.proofs.Common.{◌≡◌, ℕ, ◌+◌, length, take, drop, List, [], ◌++◌, Option, Some, None, Result, Ok, Err, OnErr, refl, sym, ap, ◌∙◌, subst, arith, append-nil, length-append}
use Rattle.std.proofs.Math.Seq.{take-add}
use Rattle.std.proofs.lemmas.List.{take_all, take-append-le, take-append-drop}
use Rattle.std.proofs.lemmas.Grind.{flat_map-append}
use Rattle.std.specs.List.{flat_map}
use lib.Seq.{take-append-add}
use Rattle.outside_io.specs.Streams.{IsTaken, TakesStart}
use Rattle.outside_io.proofs.Pieces.{taken_both}

pub taken_nothing : (o : Option (List ℕ)) → IsTaken o o []
taken_nothing (Some taken) = sym (append-nil taken)
taken_nothing None = refl

-- a start of what comes after bytes that were taken whole
pub start_behind : (before between now : Option (List ℕ)) (front piece : List ℕ) → IsTaken before between front → TakesStart between now piece → TakesStart before now (front ++ piece)
start_behind before between now front piece whole start = record {
  count = length front + start.count;
  most = omega (arith, start.most, length-append front piece);
  taken = subst (IsTaken before now) (sym (take-append-add front piece start.count)) (taken_both before between now front (take start.count piece) whole start.taken);
}

-- a start of the first bytes is one of all
pub start_of_more : (before now : Option (List ℕ)) (front rest : List ℕ) → TakesStart before now front → TakesStart before now (front ++ rest)
start_of_more before now front rest start = record {
  count = start.count;
  most = omega (arith, start.most, length-append front rest);
  taken = subst (IsTaken before now) (sym (take-append-le start.count front rest start.most)) start.taken;
}

-- what was taken whole was taken from its start
pub all_started : (before now : Option (List ℕ)) (bytes : List ℕ) → IsTaken before now bytes → TakesStart before now bytes
all_started before now bytes taken = record {
  count = length bytes;
  most = omega arith;
  taken = subst (IsTaken before now) (sym (take_all (length bytes) bytes (omega arith))) taken;
}

-- ---- texts of the elements of a list, one after another

module _ {X : Type 0} (text : X → List ℕ) (xs : List X) (done n : ℕ) where
  abbrev behind : List X
  behind = take n (drop done xs)

  both : flat_map text (take done xs) ++ flat_map text behind ≡ flat_map text (take (done + n) xs)
  both = sym (flat_map-append text (take done xs) behind) ∙ ap (flat_map text) (sym (take-add done n xs))

  whole : flat_map text (take (done + n) xs) ++ flat_map text (drop (done + n) xs) ≡ flat_map text xs
  whole = sym (flat_map-append text (take (done + n) xs) (drop (done + n) xs)) ∙ ap (flat_map text) (take-append-drop (done + n) xs)

  -- the next ones were taken after the first
  pub next_taken : (before between now : Option (List ℕ)) → IsTaken before between (flat_map text (take done xs)) → IsTaken between now (flat_map text behind)
      → IsTaken before now (flat_map text (take (done + n) xs))
  next_taken before between now first second =
      subst (IsTaken before now) both (taken_both before between now (flat_map text (take done xs)) (flat_map text behind) first second)

  -- a start of the next ones was taken after the first
  pub next_started : (before between now : Option (List ℕ)) → IsTaken before between (flat_map text (take done xs)) → TakesStart between now (flat_map text behind)
      → TakesStart before now (flat_map text xs)
  next_started before between now first second =
      subst (TakesStart before now) whole
      (start_of_more before now (flat_map text (take (done + n) xs)) (flat_map text (drop (done + n) xs))
      (subst (TakesStart before now) both (start_behind before between now (flat_map text (take done xs)) (flat_map text behind) first second)))

-- the first ones were taken
pub first_started : {X : Type 0} (text : X → List ℕ) (xs : List X) (done : ℕ) (before now : Option (List ℕ)) → IsTaken before now (flat_map text (take done xs)) → TakesStart before now (flat_map text xs)
first_started text xs done before now taken =
    subst (TakesStart before now) (sym (flat_map-append text (take done xs) (drop done xs)) ∙ ap (flat_map text) (take-append-drop done xs))
    (start_of_more before now (flat_map text (take done xs)) (flat_map text (drop done xs)) (all_started before now (flat_map text (take done xs)) taken))

-- ---- a text, line by line

module _ (bytes line : List ℕ) (done n : ℕ) (is : line ≡ take n (drop done bytes)) (before between now : Option (List ℕ)) (first : IsTaken before between (take done bytes)) where
  both_lines : take done bytes ++ line ≡ take (done + n) bytes
  both_lines = ap (λ (l : List ℕ). take done bytes ++ l) is ∙ sym (take-add done n bytes)

  pub line_taken : IsTaken between now line → IsTaken before now (take (done + n) bytes)
  line_taken second = subst (IsTaken before now) both_lines (taken_both before between now (take done bytes) line first second)

  pub line_started : TakesStart between now line → TakesStart before now bytes
  line_started second =
      subst (TakesStart before now) (take-append-drop (done + n) bytes)
      (start_of_more before now (take (done + n) bytes) (drop (done + n) bytes)
      (subst (TakesStart before now) both_lines (start_behind before between now (take done bytes) line first second)))

-- a start of what is left after the first lines
pub rest_started : (bytes rest : List ℕ) (done : ℕ) → rest ≡ drop done bytes → (before between now : Option (List ℕ)) → IsTaken before between (take done bytes)
    → TakesStart between now rest → TakesStart before now bytes
rest_started bytes rest done is before between now first second =
    subst (TakesStart before now) (ap (λ (l : List ℕ). take done bytes ++ l) is ∙ take-append-drop done bytes) (start_behind before between now (take done bytes) rest first second)

-- ---- a front of what is left

-- the first elements of what comes after others
pub front_of : {X : Type 0} (xs left front : List X) (done n : ℕ) → left ≡ drop done xs → front ≡ take n left → length front ≡ n → front ≡ take (length front) (drop done xs)
front_of xs left front done n is_left is_front long =
    is_front ∙ ap (take n) is_left ∙ ap (λ (m : ℕ). take m (drop done xs)) (sym long)

-- what holds in any case holds if there is an error
pub on_err : {T E P : Type 0} (r : Result T E) → P → OnErr r P
on_err (Ok x) holds = tt
on_err (Err e) holds = holds

pub with_err : {T E P Q : Type 0} (r : Result T E) → (P → Q) → OnErr r P → OnErr r Q
with_err (Ok x) goes holds = tt
with_err (Err e) goes holds = goes holds
