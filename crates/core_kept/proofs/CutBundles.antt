-- The bundles after a cut: what each number from the entry's on selects and reads, and which entries are linked.
use Rattle.std.proofs.Common.{◌≡◌, ℕ, ◌+◌, ◌<◌, ◌≤◌, cond, List, [], ◌∷◌, ◌++◌, Bool, true, false, eqb, arith, refl, ap, ◌∙◌, sym, subst, inl, inr, Option, Some, None}
use Rattle.std.specs.Prelude.{IfSome}
use Rattle.std.proofs.lemmas.Bool.{eq-eqb, eqb-true, ne_eqb}
use Rattle.std.proofs.lemmas.Bool.Decides.{nat_tests, eqb_tells}
use Rattle.index_words.specs.declared.side.Side.{Side}
use Rattle.index_words.specs.declared.side.Side.TheVariants.{Left, Right}
use Rattle.key_map.specs.Lists.{count}
use Rattle.key_map.proofs.Counting.{count-append}
use Rattle.core_links.specs.Bundle.{select}
use Rattle.core_links.proofs.Chains.{cut_law}
use Rattle.core_grace.specs.Holds.{Bundles, entries_of, linked_in, read_at, ReadsAt, StandsIn}
use Rattle.core_invariant.specs.MeaningMoves.{with_bundle}
use Rattle.core_invariant.proofs.Sides.{by_link}
use Rattle.core_kept.proofs.CutLists.{read_upto, count_upto}

-- the bundles where that of one link ends with the entry
abbrev pub cut_bundles : Bundles → Side → ℕ → ℕ → List ℕ → Bundles
cut_bundles b side k e front = record { bundle = with_bundle b.bundle side k (front ++ e ∷ []); number = b.number }

count_kept : (x e : ℕ) (front back es : List ℕ) (c : Bool) → (c ≡ true → es ≡ front ++ e ∷ back)
    → count x (cond c (front ++ e ∷ []) es) + cond c (count x back) 0 ≡ count x es
count_kept x e front back es true splits = count_upto x e front back ∙ sym (ap (count x) (splits refl))
count_kept x e front back es false splits = omega arith

-- the node's entries after it are gone, and no other node's are
count_cut : (b : Bundles) (side : Side) (k e : ℕ) (front back : List ℕ) → b.bundle side k ≡ front ++ e ∷ back → (j x : ℕ)
    → count x (entries_of (cut_bundles b side k e front) j) + cond (eqb j k) (count x back) 0 ≡ count x (entries_of b j)
count_cut b Left k e front back splits j x =
    let c : Bundles = cut_bundles b Left k e front in
    omega (
      arith,
      count-append x (c.bundle Left j) (c.bundle Right j),
      count-append x (b.bundle Left j) (b.bundle Right j),
      count_kept x e front back (b.bundle Left j) (eqb j k) (λ is. ap (b.bundle Left) (eqb-true j k is) ∙ splits),
    )
count_cut b Right k e front back splits j x =
    let c : Bundles = cut_bundles b Right k e front in
    omega (
      arith,
      count-append x (c.bundle Left j) (c.bundle Right j),
      count-append x (b.bundle Left j) (b.bundle Right j),
      count_kept x e front back (b.bundle Right j) (eqb j k) (λ is. ap (b.bundle Right) (eqb-true j k is) ∙ splits),
    )

first_none : (k j : ℕ) (ks : List ℕ) → j ≡ k → count k (j ∷ ks) ≡ 0 → ⊥
first_none k j ks same none = grind (arith, nat_tests)

rest_none : (k j : ℕ) (ks : List ℕ) → j ≡ k → count k (j ∷ ks) ≡ 1 → count k ks ≡ 0
rest_none k j ks same once = grind (arith, nat_tests)

rest_once : (k j : ℕ) (ks : List ℕ) → (j ≡ k → ⊥) → count k (j ∷ ks) ≡ 1 → count k ks ≡ 1
rest_once k j ks other once = grind (arith, nat_tests)

module _ (b : Bundles) (side : Side) (k e : ℕ) (front back : List ℕ) (splits : b.bundle side k ≡ front ++ e ∷ back) where
  abbrev c : Bundles
  c = cut_bundles b side k e front

  abbrev kept : List ℕ
  kept = front ++ e ∷ []

  pub select_cut : (t : ℕ) (s : Side) (j : ℕ) → b.number e ≤ t → select b.number t (b.bundle s j) ≡ select b.number t (c.bundle s j)
  select_cut t s j low =
      by_link (λ x n es. select b.number t (b.bundle x n) ≡ select b.number t es) b.bundle side k kept
      (ap (select b.number t) splits ∙ cut_law b.number t e front back low) (λ x n other. refl) s j

  read_cut : (t : ℕ) (s : Side) (j : ℕ) → b.number e ≤ t → read_at b.number t (b.bundle s j) ≡ read_at b.number t (c.bundle s j)
  read_cut t s j low =
      by_link (λ x n es. read_at b.number t (b.bundle x n) ≡ read_at b.number t es) b.bundle side k kept
      (ap (read_at b.number t) splits ∙ read_upto b.number t e front back low) (λ x n other. refl) s j

  fewer : (x : ℕ) (s : Side) (j : ℕ) → count x (c.bundle s j) ≤ count x (b.bundle s j)
  fewer x s j =
      by_link (λ y n es. count x es ≤ count x (b.bundle y n)) b.bundle side k kept (omega (arith, ap (count x) splits, count_upto x e front back))
      (λ y n other. omega arith) s j

  pub cut_here : (x j : ℕ) → j ≡ k → count x (entries_of c j) + count x back ≡ count x (entries_of b j)
  cut_here x j is =
      subst (λ d. count x (entries_of c j) + cond d (count x back) 0 ≡ count x (entries_of b j)) (eq-eqb j k is) (count_cut b side k e front back splits j x)

  pub cut_elsewhere : (x j : ℕ) → (j ≡ k → ⊥) → count x (entries_of c j) ≡ count x (entries_of b j)
  cut_elsewhere x j other =
      let same : count x (entries_of c j) + 0 ≡ count x (entries_of b j)
      = subst (λ d. count x (entries_of c j) + cond d (count x back) 0 ≡ count x (entries_of b j)) (ne_eqb j k other)
      (count_cut b side k e front back splits j x) in
      omega (arith, same)

  pub entries_fewer : (x j : ℕ) → count x (entries_of c j) ≤ count x (entries_of b j)
  entries_fewer x j = omega (arith, count_cut b side k e front back splits j x)

  linked_elsewhere : (x : ℕ) (ks : List ℕ) → count k ks ≡ 0 → linked_in c x ks ≡ linked_in b x ks
  linked_elsewhere x [] none = refl
  linked_elsewhere x (j ∷ ks) none =
      elim (eqb_tells j k) as (λ _. linked_in c x (j ∷ ks) ≡ linked_in b x (j ∷ ks)) [
        | inl same ↦ absurd (first_none k j ks same.1 none)
        | inr other ↦ omega (arith, cut_elsewhere x j other.1, linked_elsewhere x ks (omega (arith, none)))
      ]

  -- where the node is linked once, the entries after it are linked once less
  pub linked_cut : (x : ℕ) (ks : List ℕ) → count k ks ≡ 1 → linked_in c x ks + count x back ≡ linked_in b x ks
  linked_cut x [] once = absurd (omega (arith, once))
  linked_cut x (j ∷ ks) once =
      elim (eqb_tells j k) as (λ _. linked_in c x (j ∷ ks) + count x back ≡ linked_in b x (j ∷ ks)) [
        | inl same ↦ omega (arith, cut_here x j same.1, linked_elsewhere x ks (rest_none k j ks same.1 once))
        | inr other ↦ omega (arith, cut_elsewhere x j other.1, linked_cut x ks (rest_once k j ks other.1 once))
      ]

  -- a seat whose section number is from the entry's on reads no more entries than before, and none stands in more
  -- bundles
  pub reads_fewer : (section : Option ℕ) (nodes : List ℕ) (x : ℕ) → IfSome section (λ t. b.number e ≤ t) → ReadsAt c section nodes x → ReadsAt b section nodes x
  reads_fewer None nodes x low reads = absurd reads
  reads_fewer (Some t) nodes x low reads = record {
    node = reads.node;
    side = reads.side;
    of = reads.of;
    read = subst (λ l. 0 < count x l) (sym (read_cut t reads.side reads.node low)) reads.read;
  }

  pub stands_fewer : (nodes : List ℕ) (x : ℕ) → StandsIn c nodes x → StandsIn b nodes x
  stands_fewer nodes x stands = record {
    node = stands.node;
    side = stands.side;
    of = stands.of;
    here = omega (arith, stands.here, fewer x stands.side stands.node);
  }
