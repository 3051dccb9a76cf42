-- What the rule says of announcements, and of each two seats, is kept if what it reads of a view is.
use Rattle.std.proofs.Common.{◌≡◌, ℕ, ◌+◌, ◌<◌, ◌≤◌, List, [], ◌∷◌, ◌++◌, set, get_or, arith, ap, sym, subst, Option, Some, None}
use Rattle.std.specs.Prelude.{IfSome, IsSomeAnd}
use Rattle.std.specs.List.{All}
use Rattle.std.proofs.lemmas.List.Elements.{All-push}
use Rattle.index_words.specs.declared.view.View.{View}
use Rattle.key_map.specs.Lists.{Every, IsItem}
use Rattle.index_words.proofs.Seats.{at_item, pairs_moved}
use Rattle.core_invariant.specs.PruneRule.{AnnouncedRight, ReadsFrom, LookedRight, PairsRight, PairPart, pair_part}

-- the announcement of a view stays right while the stamp does not fall
pub announced_same : (s s' : ℕ) (v w : View) → s ≤ s' → pair_part w ≡ pair_part v → AnnouncedRight s v → AnnouncedRight s' w
announced_same s s' v w past same right = record {
  low = omega (arith, right.low, past, ap (λ (x : PairPart). x.announced) same);
  read = subst (λ (p : PairPart). IfSome p.section (λ t. (0 < p.announced) × (p.announced ≤ t + 1))) (sym same) right.read;
  least = subst (λ (p : PairPart). IfSome p.least (λ n. IsSomeAnd p.section (λ t. n ≤ t))) (sym same) right.least;
}

-- a view that reads nothing has no more to announce than the stamp
pub announced_idle : (s : ℕ) (w : View) → w.announced ≤ s + 1 → w.reading.section ≡ None → w.reading.least ≡ None → AnnouncedRight s w
announced_idle s w low section least = record {
  low = low;
  read = subst (λ (o : Option ℕ). IfSome o (λ t. (0 < w.announced) × (w.announced ≤ t + 1))) (sym section) tt;
  least = subst (λ (o : Option ℕ). IfSome o (λ n. IsSomeAnd w.reading.section (λ t. n ≤ t))) (sym least) tt;
}

-- a least number is at most the stamp
pub least_low : (s n : ℕ) (section : Option ℕ) → IsSomeAnd section (λ t. n ≤ t) → IfSome section (λ t. t ≤ s) → n ≤ s
least_low s n None own past = absurd own
least_low s n (Some t) own past = omega (arith, own, past)

module _ (vs : List View) (i : ℕ) (v w : View) (at : IsItem vs i v) (same : pair_part w ≡ pair_part v) where
  row_same : (u : View) → LookedRight v u → LookedRight w u
  row_same u right = subst (λ (p : PairPart). IfSome p.least (λ n. Every (λ q. u.number ≡ Some q → ReadsFrom n u) p.looked)) (sym same) right

  column_same : (u : View) → LookedRight u v → LookedRight u w
  column_same u right =
      subst (λ (p : PairPart). IfSome u.reading.least (λ n. Every (λ q. p.number ≡ Some q → IfSome p.section (λ t. n ≤ t)) u.reading.looked))
      (sym same) right

  pub pairs_same : PairsRight vs → PairsRight (set vs i w)
  pairs_same right =
      pairs_moved LookedRight LookedRight vs i v w at right
      (row_same w (column_same v (at_item (LookedRight v) vs i v at (at_item (λ u. All (LookedRight u) vs) vs i v at right))))
      (λ u beside of. row_same u of) (λ u beside of. column_same u of) (λ t u beside other of. of)

-- nothing is to be known of a view without a section number
of_none : (u w : View) → w.reading.section ≡ None → LookedRight u w
of_none u w none = by u.reading.least
  where
    each : (n : ℕ) (qs : List ℕ) → Every (λ q. w.number ≡ Some q → ReadsFrom n w) qs
    each n [] = tt
    each n (q ∷ qs) = ((λ named. subst (λ (o : Option ℕ). IfSome o (λ t. n ≤ t)) (sym none) tt), each n qs)

    by : (o : Option ℕ) → IfSome o (λ n. Every (λ q. w.number ≡ Some q → ReadsFrom n w) u.reading.looked)
    by None = tt
    by (Some n) = each n u.reading.looked

-- a view without a least number knows nothing
pub by_none : (w u : View) → w.reading.least ≡ None → LookedRight w u
by_none w u none = subst (λ (o : Option ℕ). IfSome o (λ n. Every (λ q. u.number ≡ Some q → ReadsFrom n u) w.reading.looked)) (sym none) tt

-- a view that reads nothing takes the place of another one
pub pairs_idle : (vs : List View) (i : ℕ) (v w : View) → IsItem vs i v → w.reading.section ≡ None → w.reading.least ≡ None
    → PairsRight vs → PairsRight (set vs i w)
pairs_idle vs i v w at section least right =
    pairs_moved LookedRight LookedRight vs i v w at right (by_none w w least) (λ u beside of. by_none w u least)
    (λ u beside of. of_none u w section) (λ t u beside other of. of)

-- or is a new one
pub pairs_push : (vs : List View) (w : View) → w.reading.section ≡ None → w.reading.least ≡ None → PairsRight vs → PairsRight (vs ++ w ∷ [])
pairs_push vs w section least right =
    All-push (λ u. All (LookedRight u) (vs ++ w ∷ [])) vs w
    (λ j d within. All-push (LookedRight (get_or vs j d)) vs w (right j d within) (of_none (get_or vs j d) w section))
    (λ j d within. by_none w (get_or (vs ++ w ∷ []) j d) least)
