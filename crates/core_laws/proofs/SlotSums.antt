-- The slots of all views and of the tree are those of the layout.
use Rattle.std.proofs.Common.{◌≡◌, ◌≢◌, ℕ, zero, suc, ◌+◌, ◌<◌, cond, List, [], ◌∷◌, ◌++◌, length, Bool, true, false, not, eqb, arith, refl, ap, ◌∙◌, sym, subst, inl, inr}
use Rattle.std.specs.List.{sum_by}
use Rattle.std.proofs.lemmas.Bool.{eq-eqb, eqb-true}
use Rattle.std.proofs.lemmas.Bool.Decides.{nat_tests, eqb_tells}
use Rattle.std.proofs.lemmas.List.{length-append}
use Rattle.std.proofs.lemmas.List.Sums.{sum_by-cons}
use Rattle.index_words.specs.declared.side.Side.{Side}
use Rattle.index_words.specs.declared.side.Side.TheVariants.{Left, Right}
use Rattle.index_words.specs.declared.view.View.{View}
use Rattle.index_words.specs.declared.view.slots.Slots.{Slots}
use Rattle.key_map.specs.Lists.{count}
use Rattle.key_map.proofs.Counting.{count-append}
use Rattle.core_grace.specs.Holds.{Bundles, entries_of, linked_in}
use Rattle.core_grace.specs.Slots.{nodes_of, entries_in, own, is_slot}
use Rattle.core_events.specs.Tables.{Table, held_by}
use Rattle.core_events.specs.UpdateMoves.{without}
use Rattle.core_events.specs.Versions.{slots_of}
use Rattle.core_invariant.specs.BundleRule.{IsLive}
use Rattle.core_invariant.specs.Rule.{IsRight}
use Rattle.core_invariant.proofs.TreeNow.{tree_is, entries_are, root_lives, node_lives, count_slots}
use Rattle.core_laws.specs.SlotSums.{owned_count, linked_entries, SlotsAddUp}
use Rattle.core_laws.specs.TreeLaw.{bundles_now}

no_slot : (k : ℕ) → is_slot 0 k ≡ 0
no_slot k = grind (arith, nat_tests)

past_slot : (n : ℕ) → is_slot n (suc n) ≡ 0
past_slot n = grind (arith, nat_tests)

last_slot : (n : ℕ) → is_slot (suc n) (suc n) ≡ 1
last_slot n = grind (arith, nat_tests)

other_slot : (n k : ℕ) → k ≢ suc n → is_slot (suc n) k ≡ is_slot n k
other_slot n k apart = grind (arith, nat_tests)

-- a list without a number is shorter by as often as it has the number
split_length : (k : ℕ) (xs : List ℕ) → length xs ≡ count k xs + length (without k xs)
split_length k [] = refl
split_length k (x ∷ xs) = by_test (eqb x k) (split_length k xs)
  where
    by_test : (b : Bool) → length xs ≡ count k xs + length (without k xs) → length (x ∷ xs) ≡ (cond b 1 0 + count k xs) + length (cond (not b) (x ∷ without k xs) (without k xs))
    by_test true rest = omega (arith, rest)
    by_test false rest = omega (arith, rest)

none_left : (k : ℕ) (xs : List ℕ) → count k (without k xs) ≡ 0
none_left k [] = refl
none_left k (x ∷ xs) = by_test (eqb x k) refl (none_left k xs)
  where
    by_test : (b : Bool) → eqb x k ≡ b → count k (without k xs) ≡ 0 → count k (cond (not b) (x ∷ without k xs) (without k xs)) ≡ 0
    by_test true is rest = rest
    by_test false is rest = omega (arith, rest, ap (λ (c : Bool). 0 + cond c 1 0) is)

others_left : (k j : ℕ) (xs : List ℕ) → j ≢ k → count j (without k xs) ≡ count j xs
others_left k j [] apart = refl
others_left k j (x ∷ xs) apart = by_test (eqb x k) refl (others_left k j xs apart)
  where
    not_here : x ≡ k → eqb x j ≡ false
    not_here same = by_eq (eqb x j) refl
      where
        by_eq : (c : Bool) → eqb x j ≡ c → c ≡ false
        by_eq true is = absurd (apart (sym (eqb-true x j is) ∙ same))
        by_eq false is = refl

    by_test : (b : Bool) → eqb x k ≡ b → count j (without k xs) ≡ count j xs → count j (cond (not b) (x ∷ without k xs) (without k xs)) ≡ cond (eqb x j) 1 0 + count j xs
    by_test true is rest = omega (arith, rest, ap (λ (c : Bool). 0 + cond c 1 0) (not_here (eqb-true x k is)))
    by_test false is rest = omega (arith, rest)

-- a list that has each of the first numbers once, and no other one, is as long as these are many
length_counts : (n : ℕ) (xs : List ℕ) → ((k : ℕ) → count k xs ≡ is_slot n k) → length xs ≡ n
length_counts zero [] all = refl
length_counts zero (x ∷ xs) all = absurd (omega (arith, all x, no_slot x, ap (λ (b : Bool). 0 + cond b 1 0) (eq-eqb x x refl)))
length_counts (suc n) xs all = omega (arith, split_length (suc n) xs, all (suc n), last_slot n, length_counts n (without (suc n) xs) rest)
  where
    rest : (k : ℕ) → count k (without (suc n) xs) ≡ is_slot n k
    rest k =
        elim (eqb_tells k (suc n)) as (λ _. count k (without (suc n) xs) ≡ is_slot n k) [
          | inl same ↦ subst (λ j. count j (without (suc n) xs) ≡ is_slot n j) (sym same.1) (none_left (suc n) xs ∙ sym (past_slot n))
          | inr other ↦ others_left (suc n) k xs other.1 ∙ all k ∙ other_slot n k other.1
        ]

-- the slots of all views in one list
abbrev all_slots : (Slots → List ℕ) → List View → List ℕ
all_slots pick [] = []
all_slots pick (v ∷ vs) = pick v.free ++ (pick v.retired ++ (pick v.batch ++ all_slots pick vs))

all_counts : (pick : Slots → List ℕ) (k : ℕ) (vs : List View) → count k (all_slots pick vs) ≡ sum_by (own pick k) vs
all_counts pick k [] = refl
all_counts pick k (v ∷ vs) = omega (
  arith,
  count-append k (pick v.free) (pick v.retired ++ (pick v.batch ++ all_slots pick vs)),
  count-append k (pick v.retired) (pick v.batch ++ all_slots pick vs),
  count-append k (pick v.batch) (all_slots pick vs),
  all_counts pick k vs,
  sum_by-cons (own pick k) v vs,
)

all_length : (pick : Slots → List ℕ) (vs : List View) → length (all_slots pick vs) ≡ sum_by (owned_count pick) vs
all_length pick [] = refl
all_length pick (v ∷ vs) = omega (
  arith,
  length-append (pick v.free) (pick v.retired ++ (pick v.batch ++ all_slots pick vs)),
  length-append (pick v.retired) (pick v.batch ++ all_slots pick vs),
  length-append (pick v.batch) (all_slots pick vs),
  all_length pick vs,
  sum_by-cons (owned_count pick) v vs,
)

-- owned and linked slots, each once, are as many as there are
adds_up : (pick : Slots → List ℕ) (size : ℕ) (vs : List View) (linked : List ℕ) → ((k : ℕ) → sum_by (own pick k) vs + count k linked ≡ is_slot size k)
    → sum_by (owned_count pick) vs + length linked ≡ size
adds_up pick size vs linked one =
    omega (
      arith,
      all_length pick vs,
      length-append (all_slots pick vs) linked,
      length_counts size (all_slots pick vs ++ linked) (λ k. omega (arith, count-append k (all_slots pick vs) linked, all_counts pick k vs, one k)),
    )

module _ (t : Table) (right : IsRight t) where
  abbrev b : Bundles
  b = right.meaning.bundles

  same_entries : (k : ℕ) → IsLive t.layout t.views k → entries_of (bundles_now t) k ≡ entries_of b k
  same_entries k live =
      ap (λ es. es ++ (bundles_now t).bundle Right k) (same_bundle Left) ∙ ap (λ es. b.bundle Left k ++ es) (same_bundle Right)
    where
      same_bundle : (side : Side) → (bundles_now t).bundle side k ≡ b.bundle side k
      same_bundle side = entries_are t.layout (held_by t) t.views right.meaning right.rule k side live

  -- how often an entry is linked
  linked_count : (e : ℕ) (ks : List ℕ) → ((k : ℕ) → 0 < count k ks → IsLive t.layout t.views k) → count e (linked_entries t ks) ≡ linked_in b e ks
  linked_count e [] live = refl
  linked_count e (k ∷ ks) live =
      let here : 0 < count k (k ∷ ks) = omega (arith, ap (λ (c : Bool). 0 + cond c 1 0) (eq-eqb k k refl)) in
      omega (
        arith,
        count-append e (entries_of (bundles_now t) k) (linked_entries t ks),
        ap (count e) (same_entries k (live k here)),
        linked_count e ks (λ j some. live j (omega (arith, some))),
      )

  lives : (k : ℕ) → 0 < count k (0 ∷ slots_of right.meaning.tree) → IsLive t.layout t.views k
  lives k some =
      elim (eqb_tells 0 k) as (λ _. IsLive t.layout t.views k) [
        | inl root ↦ subst (IsLive t.layout t.views) root.1 (root_lives t.layout (held_by t) t.views right.meaning right.rule)
        | inr other ↦ slot_lives k (behind k (slots_of right.meaning.tree) other.1 some)
      ]
    where
      behind : (k : ℕ) (ks : List ℕ) → (0 ≡ k → ⊥) → 0 < count k (0 ∷ ks) → 0 < count k ks
      behind k ks other some = grind (arith, nat_tests)

      slot_lives : (k : ℕ) → 0 < count k (slots_of right.meaning.tree) → IsLive t.layout t.views k
      slot_lives k here = node_lives t.layout (held_by t) t.views right.meaning right.rule k (omega (arith, here, count_slots k right.meaning.tree))

  abbrev Sums : List ℕ → Type 0
  Sums ks =
      (sum_by (owned_count nodes_of) t.views + length ks ≡ t.layout.nodes)
      × (sum_by (owned_count entries_in) t.views + length (linked_entries t (0 ∷ ks)) ≡ t.layout.entries)

  sums : Sums (slots_of right.meaning.tree)
  sums = (
    adds_up nodes_of t.layout.nodes t.views (slots_of right.meaning.tree) right.rule.slots.nodes.one,
    adds_up entries_in t.layout.entries t.views (linked_entries t (0 ∷ slots_of right.meaning.tree))
        (λ e. omega (arith, linked_count e (0 ∷ slots_of right.meaning.tree) lives, right.rule.slots.entries.one e)),
  )

  pub slots_add_up : SlotsAddUp t
  slots_add_up =
      let now = subst Sums (sym (ap slots_of (tree_is t.layout (held_by t) t.views right.meaning right.rule))) sums in
      record { nodes = now.0; entries = now.1 }
