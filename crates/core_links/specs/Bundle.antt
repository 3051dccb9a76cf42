-- Bundles: a link's entries, newest first, their numbers, and which of them a number selects. An entry is
-- named by its number in the table of entries, and 0 is none.
use Rattle.std.specs.Prelude.{◌≡◌, ℕ, ◌^◌, ◌<◌, ◌≤◌, ◌⊎◌, List, [], ◌∷◌, ◌++◌, nat_le, ◌==◌, if◌then◌else◌}
use Rattle.std.specs.List.{AllByRecursion}

-- the entries are those from the head on, each of the others the next of the one before
abbrev pub IsChain : (ℕ → ℕ) → ℕ → List ℕ → Type 0
IsChain next head [] = head ≡ 0
IsChain next head (e ∷ es) = (head ≡ e) × (0 < e) × IsChain next (next e) es

-- the number of an entry without a number yet: it is above every number
abbrev pub no_number : ℕ
no_number = 2 ^ 64

-- the number of an entry: the written one if it is not 0, otherwise the one that the raise gave, or none
abbrev pub number_of : (ℕ → ℕ) → (ℕ → ℕ) → ℕ → ℕ
number_of written raised e = if written e == 0 then raised e else written e

-- selection at `t`: the first entry that has a number of at most `t`, or 0 if there is none
abbrev pub select : (ℕ → ℕ) → ℕ → List ℕ → ℕ
select number t [] = 0
select number t (e ∷ es) = if nat_le (number e) t then e else select number t es

-- the child of the selected entry, or 0 if none is selected
abbrev pub child_of_entry : (ℕ → ℕ) → ℕ → ℕ
child_of_entry child e = if e == 0 then 0 else child e

-- the entry is the first that has a number of at most `t`, or 0 if each has a greater one
abbrev pub IsFirstAtMost : (ℕ → ℕ) → ℕ → List ℕ → ℕ → Type 0
IsFirstAtMost number t es e =
    (AllByRecursion (λ x. t < number x) es × (e ≡ 0))
    ⊎ ((front : List ℕ) × (back : List ℕ) × (es ≡ front ++ e ∷ back) × AllByRecursion (λ x. t < number x) front × (number e ≤ t))

-- two numberings agree on an entry at `t`: its number is the same, or above `t` in both
abbrev pub AgreeAt : ℕ → (ℕ → ℕ) → (ℕ → ℕ) → ℕ → Type 0
AgreeAt t number number' e = (number e ≡ number' e) ⊎ ((t < number e) × (t < number' e))

-- no other list of entries is the chain from the head on
abbrev pub IsOnlyChain : (ℕ → ℕ) → ℕ → List ℕ → Type 0
IsOnlyChain next head es = (others : List ℕ) → IsChain next head others → others ≡ es

-- the entry stays selected if another numbering agrees on each entry
abbrev pub StaysSelected : (ℕ → ℕ) → ℕ → List ℕ → ℕ → Type 0
StaysSelected number t es selected =
    (number' : ℕ → ℕ) → AllByRecursion (AgreeAt t number number') es → select number' t es ≡ selected

-- the entry also stays selected if an entry with a greater number is put in front
abbrev pub StaysBehind : (ℕ → ℕ) → ℕ → List ℕ → ℕ → Type 0
StaysBehind number t es selected =
    (number' : ℕ → ℕ) (e : ℕ) → t < number' e → AllByRecursion (AgreeAt t number number') es
    → select number' t (e ∷ es) ≡ selected

-- the entry is the one that a reader selects that has passed only entries with greater numbers
abbrev pub IsWalkedTo : (ℕ → ℕ) → ℕ → List ℕ → ℕ → Type 0
IsWalkedTo number t es selected =
    (front : List ℕ) → AllByRecursion (λ e. t < number e) front → select number t (front ++ es) ≡ selected

abbrev pub OneChainLaw : Type 0
OneChainLaw = (next : ℕ → ℕ) (head : ℕ) (es : List ℕ) → IsChain next head es → IsOnlyChain next head es

-- a chain stays one if the next of each of its entries stays
abbrev pub ChainFrameLaw : Type 0
ChainFrameLaw =
    (next next' : ℕ → ℕ) (head : ℕ) (es : List ℕ) → AllByRecursion (λ e. next e ≡ next' e) es → IsChain next head es
    → IsChain next' head es

abbrev pub SelectLaw : Type 0
SelectLaw = (number : ℕ → ℕ) (t : ℕ) (es : List ℕ) → StaysSelected number t es (select number t es)

abbrev pub FrontLaw : Type 0
FrontLaw = (number : ℕ → ℕ) (t : ℕ) (es : List ℕ) → StaysBehind number t es (select number t es)

abbrev pub WalkLaw : Type 0
WalkLaw = (number : ℕ → ℕ) (t : ℕ) (es : List ℕ) → IsWalkedTo number t es (select number t es)

-- selection stays if the entries after one with a number of at most `t` are cut off
abbrev pub CutLaw : Type 0
CutLaw =
    (number : ℕ → ℕ) (t e : ℕ) (front back : List ℕ) → number e ≤ t
    → select number t (front ++ e ∷ back) ≡ select number t (front ++ e ∷ [])
