-- What a seat knows from its view where a count is to rise.
use Rattle.std.proofs.Common.{◌≡◌, ◌≢◌, ℕ, ◌<◌, ◌≤◌, cond, List, [], ◌∷◌, arith, refl, ap, ◌∙◌, sym, subst, inl, inr, Option, Some, None}
use Rattle.std.proofs.lemmas.Bool.{eq-eqb, cases_lt}
use Rattle.index_words.specs.declared.layout.Layout.{Layout}
use Rattle.index_words.specs.declared.side.Side.{Side}
use Rattle.index_words.specs.declared.view.View.{View}
use Rattle.index_words.specs.declared.view.reading.Link.{Link}
use Rattle.index_words.specs.declared.view.reading.Reading.{Reading}
use Rattle.index_words.specs.declared.view.reading.LinkSource.TheVariants.{Bundle}
use Rattle.index_words.specs.declared.word.Field.TheVariants.{Head}
use Rattle.index_words.specs.declared.word.Part.TheVariants.{Child, Stamp as Number, Next}
use Rattle.index_words.specs.declared.word.Word.TheVariants.{Stamp, Section, Announced, Node, Entry}
use Rattle.index_words.specs.Words.{Memory, memory}
use Rattle.index_words.proofs.Seats.{one_term}
use Rattle.key_map.specs.Lists.{count, Every, IsItem}
use Rattle.core_grace.specs.Slots.{own, nodes_of}
use Rattle.core_links.specs.Bundle.{IsChain, select}
use Rattle.core_links.proofs.Chains.{select-here}
use Rattle.core_laws.specs.Counts.{OtherHeadLaw, TakenLaw, TreeNotRetiredLaw}
use Rattle.core_events.specs.Tables.{held_by}
use Rattle.core_invariant.specs.BundleRule.{IsLive, IsNumbered}
use Rattle.core_invariant.specs.Histories.{own_place, place_count}
use Rattle.core_invariant.specs.Meanings.{Meaning}
use Rattle.core_invariant.specs.Readers.{IsReachable, LinkRight, SourceRight}
use Rattle.core_invariant.specs.Rule.{Rule}
use Rattle.core_invariant.specs.SeatRule.{SeatRight}
use Rattle.core_events.specs.Versions.{slots_of}
use Rattle.core_invariant.proofs.Frames.{every_at}
use Rattle.core_invariant.proofs.Idle.{nameless_idle}
use Rattle.core_invariant.proofs.OneView.{seat_at}
use Rattle.core_invariant.proofs.Owned.{once_node, reachable_live}
use Rattle.core_laws.proofs.Remembered.{every_item}
use Rattle.core_invariant.proofs.TreeNow.{tree_is}

-- a written head that is not selected has a number above
head_above : (next stamp number : ℕ → ℕ) (s head entry n : ℕ) (es : List ℕ) → IsChain next head es → Every (IsNumbered s stamp number) es → select number n es ≡ entry → entry ≢ head
    → 0 < head → 0 < stamp head → n < stamp head
head_above next stamp number s head entry n [] chain numbers is apart some written = absurd (omega (arith, chain, some))
head_above next stamp number s head entry n (e ∷ es) chain numbers is apart some written =
    elim (cases_lt n (stamp head)) as (λ _. n < stamp head) [
      | inl above ↦ above
      | inr low ↦
          let same : head ≡ e = chain.0 in
          let own : number e ≡ stamp e = (numbers.0 (subst (λ d. 0 < stamp d) same written)).0 in
          let here : select number n (e ∷ es) ≡ e = select-here number n e es (omega (arith, own, ap stamp same, low)) in
          absurd (apart (sym is ∙ here ∙ sym same))
    ]

pub number_some : (o : Option ℕ) → (o ≡ None → ⊥) → (n : ℕ) × (o ≡ Some n)
number_some None some = absurd (some refl)
number_some (Some n) some = (n, refl)

module _ (z : Layout) (words : List ℕ) (vs : List View) (g : Meaning) (rule : Rule z (memory z words) vs g) (i n : ℕ) (v : View) (at : IsItem vs i v) (reads : v.reading.section ≡ Some n) (low : Every (λ p. p ≤ n) v.history.mine) where
  abbrev m : Memory
  m = memory z words

  seat : SeatRight z m g v
  seat = seat_at z m vs g i v at rule

  -- a seat with a section number has a number of its own
  named : (p : ℕ) × (v.number ≡ Some p)
  named = number_some v.number nameless
    where
      nameless : v.number ≡ None → ⊥
      nameless none =
          let idle = nameless_idle (λ k. m (Section k)) (λ k. m (Announced k)) v seat.section none in
          let gone : v.reading.section ≡ None = ap (λ (r : Reading). r.section) idle.reading in
          cc (sym reads ∙ gone)

  -- no place is 0
  no_zero : count 0 v.history.mine ≡ 0
  no_zero =
      let p = named.0 in
      let own : own_place p 0 v.number v.history.mine ≡ count 0 v.history.mine =
      ap (λ o. own_place p 0 o v.history.mine) named.1 ∙ ap (λ b. cond b (count 0 v.history.mine) 0) (eq-eqb p p refl) in
      omega (arith, rule.history.places p 0, one_term (place_count p 0) vs i v at, own)

  none_above : (x : ℕ) → n < x → count x v.history.mine ≡ 0
  none_above x above =
      elim (cases_lt 0 (count x v.history.mine)) as (λ _. count x v.history.mine ≡ 0) [
        | inl some ↦ absurd (omega (arith, above, every_at (λ p. p ≤ n) x v.history.mine low some))
        | inr none ↦ omega (arith, none)
      ]

  place_other : (x : ℕ) → (0 < x → n < x) → count x v.history.mine ≡ 0
  place_other x above =
      elim (cases_lt 0 x) as (λ _. count x v.history.mine ≡ 0) [
        | inl some ↦ none_above x (above some)
        | inr none ↦ let zero_x : 0 ≡ x = omega (arith, none) in subst (λ y. count y v.history.mine ≡ 0) zero_x no_zero
      ]

  module _ (place entry : ℕ) (l : Link) (is : IsItem v.reading.links place l) (source : l.source ≡ Bundle entry) where
    abbrev head : ℕ
    head = m (Node (Head l.side) l.node)

    abbrev es : List ℕ
    es = g.bundles.bundle l.side l.node

    link : LinkRight z (λ e. m (Entry Child e)) g.bundles v l
    link = every_item (LinkRight z (λ e. m (Entry Child e)) g.bundles v) v.reading.links place l is seat.links

    bundle_link : SourceRight (IsReachable z v l.node) (λ e. m (Entry Child e)) g.bundles.number es v.reading.section l.child (Bundle entry)
    bundle_link = subst (SourceRight (IsReachable z v l.node) (λ e. m (Entry Child e)) g.bundles.number es v.reading.section l.child) source link

    selected : select g.bundles.number n es ≡ entry
    selected =
        (subst (λ o. SourceRight (IsReachable z v l.node) (λ e. m (Entry Child e)) g.bundles.number es o l.child (Bundle entry)) reads bundle_link).selected.0

    live : IsLive z vs l.node
    live = reachable_live z vs g rule.slots i l.node v at bundle_link.reach

    stored_not : entry ≢ head → count (m (Entry Number head)) v.history.mine ≡ 0
    stored_not apart =
        elim (cases_lt 0 head) as (λ _. count (m (Entry Number head)) v.history.mine ≡ 0) [
          | inr none ↦ let zero_head : 0 ≡ head = omega (arith, none) in subst (λ h. count (m (Entry Number h)) v.history.mine ≡ 0) zero_head no_zero
          | inl some ↦
              let right = rule.bundles l.node live l.side in
              place_other (m (Entry Number head))
              (λ written. head_above (λ d. m (Entry Next d)) (λ d. m (Entry Number d)) g.bundles.number (m Stamp) head entry n es right.chain right.numbers selected apart some written)
        ]

pub other_head : OtherHeadLaw
other_head t i n v node side right at reads low done other =
    let l : Link = other.link in
    let m : Memory = held_by t in
    let head_of : Side → ℕ → ℕ = λ s k. m (Node (Head s) k) in
    let same : head_of l.side l.node ≡ head_of side node = ap (λ s. head_of s l.node) other.side_is ∙ ap (head_of side) other.node_is in (
      ap (count (m (Node (Head side) node))) done,
      subst (λ h. count (m (Entry Number h)) v.history.mine ≡ 0) same
          (stored_not t.layout t.words t.views right.meaning right.rule i n v at reads low other.place other.entry l other.is other.source (λ is. other.apart (is ∙ same))),
    )

pub taken_law : TakenLaw
taken_law t i v k right at none =
    elim (cases_lt 0 (count k v.update.taken)) as (λ _. count k v.update.taken ≡ 0) [
      | inl some ↦ absurd (omega (arith, none, (seat_at t.layout (held_by t) t.views right.meaning i v at right.rule).marks.taken k some))
      | inr gone ↦ omega (arith, gone)
    ]

pub tree_not_retired : TreeNotRetiredLaw
tree_not_retired t i v k right at here =
    let m : Memory = held_by t in
    let same = ap (λ x. count k (slots_of x)) (tree_is t.layout m t.views right.meaning right.rule) in
    omega (arith, once_node t.layout t.views right.meaning right.rule.slots k, one_term (own nodes_of k) t.views i v at, here, same)
