-- A put, a removal and a look-up at a joined list of pairs happen in one of its parts.
use Rattle.std.proofs.Common.{◌≡◌, ℕ, ◌+◌, ◌<◌, ◌≤◌, List, [], ◌∷◌, ◌++◌, refl, ap, sym, ◌∙◌, arith}
use Rattle.std.specs.Prelude.{Some, nat_le, ◌≢◌}
use Rattle.std.proofs.lemmas.Bool.{lt-ltb, le-ltb, eq-eqb, ne_eqb, lt-leb, le-leb}
use Rattle.std.proofs.lemmas.List.Folds.{find-append}
use Rattle.std.specs.Option.{option_or}
use Rattle.std.specs.List.{AllByRecursion}
use Rattle.key_map.specs.declared.pair.Pair.{Pair}
use Rattle.key_map.specs.Map.{pair, map_put, map_remove, first_from}
use Rattle.core_links.proofs.Compare.{less, more, same, compared}

-- each key is below `high`
abbrev pub AllBelow : ℕ → List Pair → Type 0
AllBelow high ps = AllByRecursion (λ (p : Pair). p.key < high) ps

-- each key is at least `low`
abbrev pub AllFrom : ℕ → List Pair → Type 0
AllFrom low ps = AllByRecursion (λ (p : Pair). low ≤ p.key) ps

pub AllBelow-append : (high : ℕ) (xs ys : List Pair) → AllBelow high xs → AllBelow high ys → AllBelow high (xs ++ ys)
AllBelow-append high [] ys _ below = below
AllBelow-append high (p ∷ ps) ys h below = (h.0, AllBelow-append high ps ys h.1 below)

pub AllFrom-append : (low : ℕ) (xs ys : List Pair) → AllFrom low xs → AllFrom low ys → AllFrom low (xs ++ ys)
AllFrom-append low [] ys _ from = from
AllFrom-append low (p ∷ ps) ys h from = (h.0, AllFrom-append low ps ys h.1 from)

pub AllBelow-more : (high higher : ℕ) (xs : List Pair) → high ≤ higher → AllBelow high xs → AllBelow higher xs
AllBelow-more high higher [] le _ = tt
AllBelow-more high higher (p ∷ ps) le h = (omega arith, AllBelow-more high higher ps le h.1)

pub AllFrom-less : (low lower : ℕ) (xs : List Pair) → lower ≤ low → AllFrom low xs → AllFrom lower xs
AllFrom-less low lower [] le _ = tt
AllFrom-less low lower (p ∷ ps) le h = (omega arith, AllFrom-less low lower ps le h.1)

-- a put after, at and before the first pair
map_put-behind : (key val : ℕ) (p : Pair) (ps : List Pair) → p.key < key → map_put key val (p ∷ ps) ≡ p ∷ map_put key val ps
map_put-behind key val p ps h = rw (lt-ltb p.key key h)

map_put-at : (key val : ℕ) (p : Pair) (ps : List Pair) → p.key ≡ key → map_put key val (p ∷ ps) ≡ pair key val ∷ ps
map_put-at key val p ps h = rw (le-ltb p.key key (omega arith), eq-eqb p.key key h)

map_put-before : (key val : ℕ) (p : Pair) (ps : List Pair) → key < p.key → map_put key val (p ∷ ps) ≡ pair key val ∷ p ∷ ps
map_put-before key val p ps h = rw (le-ltb p.key key (omega arith), ne_eqb p.key key (omega arith))

pub map_put-left : (key val : ℕ) (p : Pair) (xs ys : List Pair) → key < p.key
    → map_put key val (xs ++ p ∷ ys) ≡ map_put key val xs ++ p ∷ ys
map_put-left key val p [] ys h = map_put-before key val p ys h
map_put-left key val p (x ∷ xs) ys h =
    elim (compared x.key key) [
      | less l ↦ map_put-behind key val x (xs ++ p ∷ ys) l ∙ ap (λ zs. x ∷ zs) (map_put-left key val p xs ys h) ∙ sym (ap (λ zs. zs ++ p ∷ ys) (map_put-behind key val x xs l))
      | more l ↦ map_put-before key val x (xs ++ p ∷ ys) l ∙ sym (ap (λ zs. zs ++ p ∷ ys) (map_put-before key val x xs l))
      | same e ↦ map_put-at key val x (xs ++ p ∷ ys) e ∙ sym (ap (λ zs. zs ++ p ∷ ys) (map_put-at key val x xs e))
    ]

pub map_put-right : (key val : ℕ) (xs ys : List Pair) → AllBelow key xs → map_put key val (xs ++ ys) ≡ xs ++ map_put key val ys
map_put-right key val [] ys h = refl
map_put-right key val (x ∷ xs) ys h =
    map_put-behind key val x (xs ++ ys) h.0 ∙ ap (λ zs. x ∷ zs) (map_put-right key val xs ys h.1)

pub map_put-found : (key val : ℕ) (p : Pair) (xs ys : List Pair) → AllBelow key xs → p.key ≡ key
    → map_put key val (xs ++ p ∷ ys) ≡ xs ++ pair key val ∷ ys
map_put-found key val p xs ys h e =
    map_put-right key val xs (p ∷ ys) h ∙ ap (λ zs. xs ++ zs) (map_put-at key val p ys e)

pub map_put-past : (key val : ℕ) (p : Pair) (xs ys : List Pair) → AllBelow key xs → p.key < key
    → map_put key val (xs ++ p ∷ ys) ≡ xs ++ p ∷ map_put key val ys
map_put-past key val p xs ys h l =
    map_put-right key val xs (p ∷ ys) h ∙ ap (λ zs. xs ++ zs) (map_put-behind key val p ys l)

-- a removal at the first pair, and of another key
map_remove-at : (key : ℕ) (p : Pair) (ps : List Pair) → p.key ≡ key → map_remove key (p ∷ ps) ≡ ps
map_remove-at key p ps h = rw (eq-eqb p.key key h)

map_remove-other : (key : ℕ) (p : Pair) (ps : List Pair) → p.key ≢ key → map_remove key (p ∷ ps) ≡ p ∷ map_remove key ps
map_remove-other key p ps h = rw (ne_eqb p.key key h)

pub map_remove-above : (key : ℕ) (xs : List Pair) → AllFrom (key + 1) xs → map_remove key xs ≡ xs
map_remove-above key [] h = refl
map_remove-above key (x ∷ xs) h =
    map_remove-other key x xs (omega (arith, h.0)) ∙ ap (λ zs. x ∷ zs) (map_remove-above key xs h.1)

pub map_remove-left : (key : ℕ) (xs ys : List Pair) → AllFrom (key + 1) ys → map_remove key (xs ++ ys) ≡ map_remove key xs ++ ys
map_remove-left key [] ys h = map_remove-above key ys h
map_remove-left key (x ∷ xs) ys h =
    elim (compared x.key key) [
      | less l ↦ map_remove-other key x (xs ++ ys) (omega arith) ∙ ap (λ zs. x ∷ zs) (map_remove-left key xs ys h) ∙ sym (ap (λ zs. zs ++ ys) (map_remove-other key x xs (omega arith)))
      | more l ↦ map_remove-other key x (xs ++ ys) (omega arith) ∙ ap (λ zs. x ∷ zs) (map_remove-left key xs ys h) ∙ sym (ap (λ zs. zs ++ ys) (map_remove-other key x xs (omega arith)))
      | same e ↦ map_remove-at key x (xs ++ ys) e ∙ sym (ap (λ zs. zs ++ ys) (map_remove-at key x xs e))
    ]

pub map_remove-right : (key : ℕ) (xs ys : List Pair) → AllBelow key xs → map_remove key (xs ++ ys) ≡ xs ++ map_remove key ys
map_remove-right key [] ys h = refl
map_remove-right key (x ∷ xs) ys h =
    map_remove-other key x (xs ++ ys) (omega (arith, h.0)) ∙ ap (λ zs. x ∷ zs) (map_remove-right key xs ys h.1)

pub map_remove-found : (key : ℕ) (p : Pair) (xs ys : List Pair) → AllBelow key xs → p.key ≡ key → map_remove key (xs ++ p ∷ ys) ≡ xs ++ ys
map_remove-found key p xs ys h e =
    map_remove-right key xs (p ∷ ys) h ∙ ap (λ zs. xs ++ zs) (map_remove-at key p ys e)

pub map_remove-past : (key : ℕ) (p : Pair) (xs ys : List Pair) → AllBelow key xs → p.key < key
    → map_remove key (xs ++ p ∷ ys) ≡ xs ++ p ∷ map_remove key ys
map_remove-past key p xs ys h l =
    map_remove-right key xs (p ∷ ys) h ∙ ap (λ zs. xs ++ zs) (map_remove-other key p ys (omega arith))

-- the first pair from a key on
first_from-behind : (key : ℕ) (p : Pair) (ps : List Pair) → p.key < key → first_from key (p ∷ ps) ≡ first_from key ps
first_from-behind key p ps h = rw (lt-leb key p.key h)

first_from-at : (key : ℕ) (p : Pair) (ps : List Pair) → key ≤ p.key → first_from key (p ∷ ps) ≡ Some p
first_from-at key p ps h = rw (le-leb key p.key h)

pub first_from-right : (key : ℕ) (p : Pair) (xs ys : List Pair) → AllBelow key xs → p.key < key
    → first_from key (xs ++ p ∷ ys) ≡ first_from key ys
first_from-right key p [] ys _ b = first_from-behind key p ys b
first_from-right key p (x ∷ xs) ys h b = first_from-behind key x (xs ++ p ∷ ys) h.0 ∙ first_from-right key p xs ys h.1 b

pub first_from-left : (key : ℕ) (p : Pair) (xs ys : List Pair) → key ≤ p.key
    → first_from key (xs ++ p ∷ ys) ≡ option_or (first_from key xs) (Some p)
first_from-left key p xs ys b =
    find-append (λ (q : Pair). nat_le key q.key) xs (p ∷ ys) ∙ ap (λ o. option_or (first_from key xs) o) (first_from-at key p ys b)
