-- Read-side sections: a pass is inside one while its section word is odd.
use Rattle.std.specs.Prelude.{ℕ, ◌+◌, ◌-◌, ◌%◌, ◌==◌, ◌||◌, not, Bool, if◌then◌else◌}

abbrev pub is_even : ℕ → Bool
is_even word = word % 2 == 0

-- a waiter that found the odd word `first` and then `second` may conclude that the pass was outside a section since
abbrev pub has_passed : ℕ → ℕ → Bool
has_passed first second = is_even second || not (second == first)

-- the last word of all, which is odd
abbrev pub last_word : ℕ
last_word = 18446744073709551615

-- the section word after leaving: one more, except at the last word, so that from then on only an even word lets a
-- waiter pass
abbrev pub left_word : ℕ → ℕ
left_word word = if word == last_word then word - 1 else word + 1
