-- The turns of a search, and the keys between them: a search goes on at such keys alone, and there are fewer of them
-- after each turn.
use Rattle.std.proofs.Common.{◌≡◌, ℕ, ◌+◌, ◌-◌, ◌<◌, ◌≤◌, ◌^◌, ◌⊎◌, Bool, true, false, arith, refl, inl, inr, subst, Option, Some, None}
use Rattle.std.specs.Prelude.{nat_lt, ◌&&◌, if◌then◌else◌}
use Rattle.std.proofs.lemmas.Bool.Decides.{nat_tests}
use Rattle.index_words.specs.declared.side.Side.{Side}
use Rattle.index_words.specs.declared.side.Side.TheVariants.{Left, Right}
use Rattle.index_words.specs.declared.view.reading.Turn.{Turn}
use Rattle.core_events.specs.Searches.{is_above_turn, is_between, is_under_turn, turn_key}
use Rattle.core_laws.specs.Searching.{IsOver, IsUnder}
use Rattle.update_search.specs.declared.turns.Turns.{Turns}
use Rattle.update_search.specs.Turns.{beyond, beyond_left, beyond_right, side_to, turned_at}

-- the key is between those of the turns
pub record IsBetween (ts : Turns) (key : ℕ) : Type 0 where
  pub over : IsOver (turn_key ts.right) key
  pub under : IsUnder (turn_key ts.left) key

some_none : (t : Turn) → Some t ≡ None → ⊥
some_none t is = cc

none_some : (t : Turn) → None ≡ Some t → ⊥
none_some t is = cc

lt_true : (a b : ℕ) → nat_lt a b ≡ true → a < b
lt_true a b is = grind (arith, nat_tests)

lt_false : (a b : ℕ) → nat_lt a b ≡ false → ¬ (a < b)
lt_false a b is = grind (arith, nat_tests)

true_lt : (a b : ℕ) → a < b → nat_lt a b ≡ true
true_lt a b is = grind (arith, nat_tests)

right_none : (r : Option Turn) (key : ℕ) → beyond_right r key ≡ None → IsOver (turn_key r) key
right_none None key is = tt
right_none (Some t) key is = by (nat_lt t.key key) refl is
  where
    by : (b : Bool) → nat_lt t.key key ≡ b → (if b then None else Some t) ≡ None → t.key < key
    by true e is = lt_true t.key key e
    by false e is = absurd (some_none t is)

left_none : (l r : Option Turn) (key : ℕ) → beyond_left l r key ≡ None → IsOver (turn_key r) key × IsUnder (turn_key l) key
left_none None r key is = (right_none r key is, tt)
left_none (Some t) r key is = by (nat_lt key t.key) refl is
  where
    by : (b : Bool) → nat_lt key t.key ≡ b → (if b then beyond_right r key else Some t) ≡ None → IsOver (turn_key r) key × (key < t.key)
    by true e is = (right_none r key is, lt_true key t.key e)
    by false e is = absurd (some_none t is)

-- a key that lies beyond both turns
pub uncrossed : (ts : Turns) (key : ℕ) → beyond ts key ≡ None → IsBetween ts key
uncrossed ts key is = let both = left_none ts.left ts.right key is in record { over = both.0; under = both.1 }

-- a turn beyond which the key does not lie is the last one to its side
right_some : (r : Option Turn) (key : ℕ) (t : Turn) → beyond_right r key ≡ Some t → (r ≡ Some t) × ¬ (t.key < key)
right_some None key t is = absurd (none_some t is)
right_some (Some u) key t is = by (nat_lt u.key key) refl is
  where
    by : (b : Bool) → nat_lt u.key key ≡ b → (if b then None else Some u) ≡ Some t → (Some u ≡ Some t) × ¬ (t.key < key)
    by true e is = absurd (none_some t is)
    by false e is = let same : u ≡ t = cc in (is, subst (λ (x : Turn). ¬ (x.key < key)) same (lt_false u.key key e))

pub crossed : (l r : Option Turn) (key : ℕ) (t : Turn) → beyond_left l r key ≡ Some t → ((l ≡ Some t) × ¬ (key < t.key)) ⊎ ((r ≡ Some t) × ¬ (t.key < key))
crossed None r key t is = inr (right_some r key t is)
crossed (Some u) r key t is = by (nat_lt key u.key) refl is
  where
    by : (b : Bool) → nat_lt key u.key ≡ b → (if b then beyond_right r key else Some u) ≡ Some t → ((Some u ≡ Some t) × ¬ (key < t.key)) ⊎ ((r ≡ Some t) × ¬ (t.key < key))
    by true e is = inr (right_some r key t is)
    by false e is = let same : u ≡ t = cc in inl (is, subst (λ (x : Turn). ¬ (key < x.key)) same (lt_false key u.key e))

above_true : (o : Option ℕ) (key : ℕ) → IsOver o key → is_above_turn o key ≡ true
above_true None key is = refl
above_true (Some low) key is = true_lt low key is

under_true : (o : Option ℕ) (key : ℕ) → IsUnder o key → is_under_turn o key ≡ true
under_true None key is = refl
under_true (Some high) key is = true_lt key high is

both : (a b : Bool) → a ≡ true → b ≡ true → (a && b) ≡ true
both true b is that = that
both false b is that = is

pub between_true : (low high : Option ℕ) (key : ℕ) → IsOver low key → IsUnder high key → is_between low high key ≡ true
between_true low high key over under = both (is_above_turn low key) (is_under_turn high key) (above_true low key over) (under_true high key under)

-- how many keys are between those of the turns
abbrev pub high_of : Option Turn → ℕ
high_of None = 18446744073709551616
high_of (Some t) = t.key

abbrev pub low_of : Option Turn → ℕ
low_of None = 0
low_of (Some t) = t.key + 1

abbrev pub keys_left : Turns → ℕ
keys_left ts = high_of ts.left - low_of ts.right

low_at : (r : Option Turn) (key : ℕ) → IsOver (turn_key r) key → low_of r ≤ key
low_at None key over = omega arith
low_at (Some t) key over = omega (arith, over)

high_at : (l : Option Turn) (key : ℕ) → key < 2 ^ 64 → IsUnder (turn_key l) key → key < high_of l
high_at None key small under = omega (arith, small)
high_at (Some t) key small under = under

pub closer : (side : Side) (ts : Turns) (node key : ℕ) → key < 2 ^ 64 → IsBetween ts key → keys_left (turned_at side (record { node = node; key = key }) ts) < keys_left ts
closer Left ts node key small is = omega (arith, low_at ts.right key is.over, high_at ts.left key small is.under)
closer Right ts node key small is = omega (arith, low_at ts.right key is.over, high_at ts.left key small is.under)

-- a search for another key stays between the turns
pub turned_between : (ts : Turns) (node here key : ℕ) → IsBetween ts key → ¬ (here ≡ key) → IsBetween (turned_at (side_to key here) (record { node = node; key = here }) ts) key
turned_between ts node here key is apart = by (nat_lt key here) refl
  where
    by : (b : Bool) → nat_lt key here ≡ b → IsBetween (turned_at (if b then Left else Right) (record { node = node; key = here }) ts) key
    by true e = record { over = is.over; under = lt_true key here e }
    by false e = record { over = grind (arith, apart, lt_false key here e); under = is.under }
