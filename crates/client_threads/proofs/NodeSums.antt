-- The node slots of all passes together, before a run with a depot and after it.
use Rattle.std.proofs.Common.{◌≡◌, ℕ, zero, suc, ◌+◌, ◌*◌, ◌<◌, ◌≤◌, ◌==◌, cond, Bool, List, [], ◌∷◌, ◌++◌, Option, Some, None, IfSome, length, get_or, map, inl, inr, refl, sym, ap, ◌∙◌, subst, arith}
use Rattle.std.specs.List.{concat, sum_by}
use Rattle.std.proofs.Math.Nat.{mul-suc}
use Rattle.std.proofs.lemmas.Bool.{cases_Bool}
use Rattle.std.proofs.lemmas.Bool.Decides.{nat_tests}
use Rattle.std.proofs.lemmas.List.{length-append}
use Rattle.std.proofs.lemmas.List.Sums.{sum_by-cons}
use Rattle.key_map.specs.Lists.{count, Every}
use Rattle.key_map.proofs.Counting.{count-append}
use Rattle.bucket_terms.specs.PassView.{PassView}
use Rattle.request_lines.specs.declared.session.ClientPart.{ClientPart}
use Rattle.client_run.specs.Pooling.{KeepsNodes}
use Rattle.slot_depot.specs.declared.book.Book.{Book}
use Rattle.slot_depot.specs.Depots.{Seated, gave_by, took_by}
use Rattle.table_rule.specs.Homes.{Home}
use Rattle.table_steps.specs.Passes.{Pass}
use Rattle.shared_index.specs.Keys.{AreFresh}
use Rattle.shared_index.specs.Shown.{shown}
use Rattle.client_threads.specs.Depots.{SeatedKey, AreSeated, HasAdoptedFirst, IsUnwritten, owned_by_job}
use Rattle.client_threads.specs.Pools.{owned, owned_or_used}
use Rattle.client_threads.specs.Sizes.{sizes_of}
use Rattle.client_threads.proofs.Lists.{every_at}

-- ---- sums

pub same_sums : {X Y : Type 0} (f : X → ℕ) (g : Y → ℕ) (xs : List X) (ys : List Y) → length xs ≡ length ys
    → ((i : ℕ) (d : X) (e : Y) → i < length xs → f (get_or xs i d) ≡ g (get_or ys i e)) → sum_by f xs ≡ sum_by g ys
same_sums f g [] [] long each = refl
same_sums f g [] (y ∷ ys) long each = absurd (omega (arith, long))
same_sums f g (x ∷ xs) [] long each = absurd (omega (arith, long))
same_sums f g (x ∷ xs) (y ∷ ys) long each =
    omega (arith, sum_by-cons f x xs, sum_by-cons g y ys, each 0 x y (omega arith), same_sums f g xs ys (omega (arith, long)) (λ i d e lt. each (suc i) d e (omega (arith, lt))))

-- what holds of the three lists at each place holds of the sums
sums_le : (f : Pass → ℕ) (t g : Seated → ℕ) (keys back : List Pass) (left : List Seated) → length back ≡ length keys → length left ≡ length keys
    → ((i : ℕ) (d e : Pass) (s : Seated) → i < length keys → f (get_or keys i d) + t (get_or left i s) ≤ f (get_or back i e) + g (get_or left i s))
    → sum_by f keys + sum_by t left ≤ sum_by f back + sum_by g left
sums_le f t g [] [] [] long also each = omega arith
sums_le f t g [] [] (s ∷ left) long also each = absurd (omega (arith, also))
sums_le f t g [] (b ∷ back) left long also each = absurd (omega (arith, long))
sums_le f t g (k ∷ keys) [] left long also each = absurd (omega (arith, long))
sums_le f t g (k ∷ keys) (b ∷ back) [] long also each = absurd (omega (arith, also))
sums_le f t g (k ∷ keys) (b ∷ back) (s ∷ left) long also each =
    omega (
      arith,
      sum_by-cons f k keys,
      sum_by-cons f b back,
      sum_by-cons t s left,
      sum_by-cons g s left,
      each 0 k b s (omega arith),
      sums_le f t g keys back left (omega (arith, long)) (omega (arith, also)) (λ i d e r lt. each (suc i) d e r (omega (arith, lt))),
    )

length_concat : {X : Type 0} (f : X → List ℕ) (xs : List X) → length (concat (map f xs)) ≡ sum_by (λ (x : X). length (f x)) xs
length_concat f [] = refl
length_concat {X} f (x ∷ xs) = omega (arith, length-append (f x) (concat (map f xs)), length_concat f xs, sum_by-cons (λ (x : X). length (f x)) x xs)

-- ---- lists in which each number stands equally often

abbrev one_if : Bool → ℕ
one_if b = cond b 1 0

-- a list without one of its numbers
record Without (n : ℕ) (xs : List ℕ) : Type 0 where
  pub rest : List ℕ
  pub long : length xs ≡ suc (length rest)
  pub counts : (m : ℕ) → count m xs ≡ one_if (n == m) + count m rest

without : (n : ℕ) (xs : List ℕ) → 0 < count n xs → Without n xs
without n [] some = absurd (omega (arith, some))
without n (x ∷ xs) some =
    elim (cases_Bool (x == n)) [
      | inl here ↦
          let same : x ≡ n = grind (arith, nat_tests, here) in
          record { rest = xs; long = refl; counts = λ m. ap (λ (k : ℕ). one_if (k == m) + count m xs) same }
      | inr other ↦
          let none : one_if (x == n) ≡ 0 = ap one_if other in
          let later = without n xs (omega (arith, some, none)) in
          record { rest = x ∷ later.rest; long = omega (arith, later.long); counts = λ m. omega (arith, later.counts m) }
    ]

counts_itself : (n : ℕ) (xs : List ℕ) → 0 < count n (n ∷ xs)
counts_itself n xs = grind (arith, nat_tests)

pub same_lengths : (xs ys : List ℕ) → ((n : ℕ) → count n xs ≡ count n ys) → length xs ≡ length ys
same_lengths [] [] same = refl
same_lengths [] (y ∷ ys) same = absurd (omega (arith, same y, counts_itself y ys))
same_lengths (x ∷ xs) ys same =
    let less = without x ys (omega (arith, same x, counts_itself x xs)) in
    omega (arith, less.long, same_lengths xs less.rest (λ n. omega (arith, same n, less.counts n)))

-- ---- a depot has room for all

-- each pass has the slots that are named
pub fresh_nodes : (n number : ℕ) (clients : List ClientPart) (keys : List Pass) → AreFresh number (sizes_of (Some n) clients) keys → sum_by owned keys ≤ n * length keys
fresh_nodes n number [] [] are = omega arith
fresh_nodes n number [] (k ∷ keys) are = absurd are
fresh_nodes n number (p ∷ clients) [] are = absurd are
fresh_nodes n number (p ∷ clients) (k ∷ keys) are =
    let here : owned k ≡ n = ap (λ (v : PassView). v.nodes) are.0.shown_is in
    omega (arith, sum_by-cons owned k keys, here, fresh_nodes n (number + 1) clients keys are.1, mul-suc n (length keys))

pub depot_fits : (named : Option ℕ) (clients : List ClientPart) (keys : List Pass) → AreFresh 0 (sizes_of named clients) keys → IfSome named (λ own. sum_by owned keys ≤ own * length keys)
depot_fits None clients keys are = tt
depot_fits (Some n) clients keys are = fresh_nodes n 0 clients keys are

-- the jobs' passes own what those of the keys do
pub jobs_fit : (keys : List Pass) (seats : List Seated) (jobs : List SeatedKey) → AreSeated keys seats jobs → sum_by owned_by_job jobs ≡ sum_by owned keys
jobs_fit keys seats jobs are =
    same_sums owned_by_job owned jobs keys are.keys_length (λ i d e lt. ap (λ (j : SeatedKey). owned j.key) (are.each i d e d.seat lt))

-- ---- what is left comes back

-- the pass of a key, which was attached, and was detached again
pub nodes_kept : (key attached left back : Pass) (book after : Book) → attached ≡ key → back ≡ left
    → KeepsNodes (shown attached) (shown left) book after → KeepsNodes (shown key) (shown back) book after
nodes_kept key attached left back book after same same_back kept =
    subst (λ (p : Pass). KeepsNodes (shown p) (shown back) book after) same (subst (λ (p : Pass). KeepsNodes (shown attached) (shown p) book after) (sym same_back) kept)

-- the first of the keys has adopted some node slots
pub adopted_sum : (index : Home) (old new : List Pass) (n : ℕ) → 0 < length old → HasAdoptedFirst index old n new → sum_by owned_or_used new ≡ sum_by owned_or_used old + n
adopted_sum index [] new n some adopted = absurd (omega (arith, some))
adopted_sum index (b ∷ old) [] n some adopted = absurd (omega (arith, adopted.keys))
adopted_sum index (b ∷ old) (p ∷ new) n some adopted =
    omega (
      arith,
      sum_by-cons owned_or_used b old,
      sum_by-cons owned_or_used p new,
      adopted.nodes b p,
      ap length (adopted.first b p).mine,
      same_sums owned_or_used owned_or_used new old (omega (arith, adopted.keys))
          (λ i d e lt. ap owned_or_used (adopted.others (suc i) d (omega arith) ∙ sym (get_or_within old i e d (omega (arith, adopted.keys, lt))))),
    )
  where
    -- no default is read
    get_or_within : (xs : List Pass) (i : ℕ) (d e : Pass) → i < length xs → get_or xs i d ≡ get_or xs i e
    get_or_within [] i d e lt = absurd (omega (arith, lt))
    get_or_within (x ∷ xs) zero d e lt = refl
    get_or_within (x ∷ xs) (suc i) d e lt = get_or_within xs i d e (omega (arith, lt))

-- what the seats gave is what they took and what is left
pub given_is_taken : (left : List Seated) (tags : List ℕ) → ((n : ℕ) → count n (concat (map gave_by left)) ≡ count n (concat (map took_by left)) + count n tags)
    → sum_by (λ (s : Seated). length (gave_by s)) left ≡ sum_by (λ (s : Seated). length (took_by s)) left + length tags
given_is_taken left tags balance =
    omega (
      arith,
      length_concat gave_by left,
      length_concat took_by left,
      length-append (concat (map took_by left)) tags,
      same_lengths (concat (map gave_by left)) (concat (map took_by left) ++ tags) (λ n. balance n ∙ sym (count-append n (concat (map took_by left)) tags)),
    )

-- so no slot is lost, where each client's book tells what its pass gave and took
pub none_lost : (index : Home) (keys back new : List Pass) (seats left : List Seated) (tags : List ℕ) → 0 < length keys → length back ≡ length keys → length seats ≡ length keys → length left ≡ length keys
    → Every IsUnwritten seats
    → ((i : ℕ) (d e : Pass) (r s : Seated) → i < length keys → KeepsNodes (shown (get_or keys i d)) (shown (get_or back i e)) (get_or seats i r).book (get_or left i s).book)
    → ((n : ℕ) → count n (concat (map gave_by left)) ≡ count n (concat (map took_by left)) + count n tags)
    → HasAdoptedFirst index back (length tags) new → sum_by owned_or_used keys ≤ sum_by owned_or_used new
none_lost index keys back new seats left tags some long also more unwritten each balance adopted =
    let taken : Seated → ℕ = λ s. length (took_by s) in
    let given : Seated → ℕ = λ s. length (gave_by s) in
    omega (
      arith,
      adopted_sum index back new (length tags) (omega (arith, some, long)) adopted,
      given_is_taken left tags balance,
      sums_le owned_or_used taken given keys back left long more
          (λ i d e s lt.
          let none = every_at IsUnwritten seats unwritten i s (omega (arith, also, lt)) in
          omega (arith, each i d e s s lt, ap length none.gave, ap length none.took)),
    )
