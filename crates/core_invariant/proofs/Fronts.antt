-- A bundle that gets an entry without a number in front: what is linked, read and held.
use Rattle.std.proofs.Common.{◌≡◌, ℕ, ◌+◌, ◌<◌, ◌⊎◌, cond, List, [], ◌∷◌, Bool, true, false, eqb, leb, ◌&&◌, arith, refl, ap, ◌∙◌, sym, subst, inl, inr, Option, Some, None}
use Rattle.std.proofs.lemmas.Bool.{eq-eqb, ne_eqb}
use Rattle.std.proofs.lemmas.Bool.Decides.{eqb_tells}
use Rattle.index_words.specs.declared.side.Side.{Side}
use Rattle.index_words.specs.declared.side.Side.TheVariants.{Left, Right}
use Rattle.index_words.specs.Words.{same_side}
use Rattle.key_map.specs.Lists.{count}
use Rattle.key_map.proofs.Counting.{count-append}
use Rattle.core_grace.specs.Holds.{Bundles, entries_of, linked_in, read_at, Reads, ReadsAt, StandsIn}
use Rattle.core_links.specs.Bundle.{no_number}
use Rattle.core_invariant.specs.MeaningMoves.{in_front, unnumbered}
use Rattle.core_invariant.proofs.Frames.{one_counted}
use Rattle.core_invariant.proofs.SlotLinks.{one_at}

-- the bundles with the entry in front
abbrev pub fronted : Bundles → Side → ℕ → ℕ → Bundles
fronted b side k e = record { bundle = in_front b.bundle side k e; number = unnumbered b.number e }

count_by : (x e : ℕ) (c : Bool) (es : List ℕ) → count x (cond c (e ∷ es) es) ≡ count x es + cond c (one_at e x) 0
count_by x e true es = omega arith
count_by x e false es = omega arith

pub count-fronted : (b : Bundles) (side : Side) (k e j x : ℕ) → count x (entries_of (fronted b side k e) j) ≡ count x (entries_of b j) + cond (eqb j k) (one_at e x) 0
count-fronted b Left k e j x =
    omega (
      arith,
      count-append x (in_front b.bundle Left k e Left j) (in_front b.bundle Left k e Right j),
      count-append x (b.bundle Left j) (b.bundle Right j),
      count_by x e (eqb j k) (b.bundle Left j),
    )
count-fronted b Right k e j x =
    omega (
      arith,
      count-append x (in_front b.bundle Right k e Left j) (in_front b.bundle Right k e Right j),
      count-append x (b.bundle Left j) (b.bundle Right j),
      count_by x e (eqb j k) (b.bundle Right j),
    )

both_by : (c d : Bool) (n : ℕ) → cond c (cond d 1 0) 0 + cond d n 0 ≡ cond d (cond c 1 0 + n) 0
both_by true true n = omega arith
both_by true false n = omega arith
both_by false true n = omega arith
both_by false false n = omega arith

pub linked-fronted : (b : Bundles) (side : Side) (k e x : ℕ) (ks : List ℕ) → linked_in (fronted b side k e) x ks ≡ linked_in b x ks + cond (eqb e x) (count k ks) 0
linked-fronted b side k e x [] = none_by (eqb e x)
  where
    none_by : (c : Bool) → 0 ≡ 0 + cond c 0 0
    none_by true = refl
    none_by false = refl
linked-fronted b side k e x (j ∷ ks) =
    omega (arith, count-fronted b side k e j x, linked-fronted b side k e x ks, both_by (eqb j k) (eqb e x) (count k ks))

-- an entry of a fronted bundle is the new one, or was there
front_by : (x e : ℕ) (c : Bool) (es : List ℕ) → 0 < count x (cond c (e ∷ es) es) → (0 < count x es) ⊎ (x ≡ e)
front_by x e false es some = inl some
front_by x e true es some =
    elim (eqb_tells e x) as (λ _. (0 < count x es) ⊎ (x ≡ e)) [
      | inl same ↦ inr (sym same.1)
      | inr other ↦ inl (rest (eqb e x) (ne_eqb e x other.1) some)
    ]
  where
    rest : (b : Bool) → b ≡ false → 0 < cond b 1 0 + count x es → 0 < count x es
    rest true e some = cc
    rest false e some = omega (arith, some)

pub in-fronted : (b : Bundles) (side s : Side) (k e j x : ℕ) → 0 < count x (in_front b.bundle side k e s j) → (0 < count x (b.bundle s j)) ⊎ (x ≡ e)
in-fronted b side s k e j x some = front_by x e (same_side s side && eqb j k) (b.bundle s j) some

pub stands-fronted : (b : Bundles) (side : Side) (k e : ℕ) (nodes : List ℕ) (x : ℕ) → StandsIn (fronted b side k e) nodes x → StandsIn b nodes x ⊎ (x ≡ e)
stands-fronted b side k e nodes x stands =
    elim (in-fronted b side stands.side k e stands.node x stands.here) as (λ _. StandsIn b nodes x ⊎ (x ≡ e)) [
      | inl here ↦ inl (record { node = stands.node; side = stands.side; of = stands.of; here = here })
      | inr same ↦ inr same
    ]

-- what a reader may be looking at depends on the numbers of the bundle's entries alone
pub read-frame : (number number' : ℕ → ℕ) (t : ℕ) (es : List ℕ) → ((d : ℕ) → 0 < count d es → leb (number' d) t ≡ leb (number d) t) → read_at number' t es ≡ read_at number t es
read-frame number number' t [] same = refl
read-frame number number' t (e ∷ es) same =
    ap (λ b. e ∷ cond b [] (read_at number' t es)) (same e (one_counted e (count e es)))
    ∙ ap (λ rest. e ∷ cond (leb (number e) t) [] rest) (read-frame number number' t es (λ d within. same d (omega (arith, within))))

cond_some : (x : ℕ) (b : Bool) (es : List ℕ) → 0 < count x (cond b [] es) → 0 < count x es
cond_some x true es some = absurd (omega (arith, some))
cond_some x false es some = some

read_by : (number number' : ℕ → ℕ) (t x e : ℕ) (c : Bool) (es : List ℕ) → ((d : ℕ) → 0 < count d es → number' d ≡ number d)
    → 0 < count x (read_at number' t (cond c (e ∷ es) es)) → (0 < count x (read_at number t es)) ⊎ (x ≡ e)
read_by number number' t x e false es same some =
    inl (subst (λ l. 0 < count x l) (read-frame number number' t es (λ d within. ap (λ n. leb n t) (same d within))) some)
read_by number number' t x e true es same some =
    elim (front_by x e true (cond (leb (number' e) t) [] (read_at number' t es)) some) as (λ _. (0 < count x (read_at number t es)) ⊎ (x ≡ e)) [
      | inl rest ↦ inl (subst (λ l. 0 < count x l) (read-frame number number' t es (λ d within. ap (λ n. leb n t) (same d within))) (cond_some x (leb (number' e) t) (read_at number' t es) rest))
      | inr here ↦ inr here
    ]

-- the number of another entry
pub numbered_other : (number : ℕ → ℕ) (e d : ℕ) → (d ≡ e → ⊥) → unnumbered number e d ≡ number d
numbered_other number e d other = ap (λ b. cond b no_number (number d)) (ne_eqb d e other)

pub numbered_new : (number : ℕ → ℕ) (e : ℕ) → unnumbered number e e ≡ no_number
numbered_new number e = ap (λ b. cond b no_number (number e)) (eq-eqb e e refl)

pub reads-fronted : (b : Bundles) (side : Side) (k e : ℕ) (section : Option ℕ) (nodes : List ℕ) (x : ℕ)
    → ((s : Side) (j d : ℕ) → (j ≡ 0) ⊎ (0 < count j nodes) → 0 < count d (b.bundle s j) → d ≡ e → ⊥)
    → ReadsAt (fronted b side k e) section nodes x → ReadsAt b section nodes x ⊎ (x ≡ e)
reads-fronted b side k e None nodes x apart reads = inl reads
reads-fronted b side k e (Some t) nodes x apart reads =
    elim (read_by b.number (unnumbered b.number e) t x e (same_side reads.side side && eqb reads.node k) (b.bundle reads.side reads.node)
    (λ d within. numbered_other b.number e d (apart reads.side reads.node d reads.of within)) reads.read) as (λ _. Reads b t nodes x ⊎ (x ≡ e)) [
      | inl here ↦ inl (record { node = reads.node; side = reads.side; of = reads.of; read = here })
      | inr same ↦ inr same
    ]
