-- The rule on announced numbers: what a seat has announced before it reads, and what a pruner, a seat that cuts
-- bundles, knows of the section numbers of the passes at which it has looked.
use Rattle.std.specs.Prelude.{◌≡◌, ℕ, ◌+◌, ◌<◌, ◌≤◌, List, Option, Some, IfSome, IsSomeAnd, All}
use Rattle.index_words.specs.declared.view.View.{View}
use Rattle.key_map.specs.Lists.{Every}

-- what is announced, which the view has plus 1, is at most the stamp; a seat with a section number has announced, and
-- no more than that number; a seat without a section number has no least number, and a least number is at most the
-- section number
-- than that number; and a least number is none without a section number, and at most that
pub record AnnouncedRightOf (s announced : ℕ) (section least_number : Option ℕ) : Type 0 where
  pub low : announced ≤ s + 1
  pub read : IfSome section (λ t. (0 < announced) × (announced ≤ t + 1))
  pub least : IfSome least_number (λ n. IsSomeAnd section (λ t. n ≤ t))

abbrev pub AnnouncedRight : ℕ → View → Type 0
AnnouncedRight s v = AnnouncedRightOf s v.announced v.reading.section v.reading.least

-- the seat has no section number below this one
abbrev pub ReadsFrom : ℕ → View → Type 0
ReadsFrom n w = IfSome w.reading.section (λ t. n ≤ t)

-- of two seats: where the second is a pass at which the first has looked, it has no section number below the first
-- one's least number
abbrev pub LookedRight : View → View → Type 0
LookedRight v w = IfSome v.reading.least (λ n. Every (λ pass. w.number ≡ Some pass → ReadsFrom n w) v.reading.looked)

-- what the rule says of every two seats
abbrev pub PairsRight : List View → Type 0
PairsRight vs = All (λ v. All (LookedRight v) vs) vs

-- what of a view these sentences read
pub record PairPart : Type 0 where
  pub number : Option ℕ
  pub announced : ℕ
  pub section : Option ℕ
  pub least : Option ℕ
  pub looked : List ℕ

abbrev pub pair_part : View → PairPart
pair_part v =
    record { number = v.number; announced = v.announced; section = v.reading.section; least = v.reading.least; looked = v.reading.looked }
