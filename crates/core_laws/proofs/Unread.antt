-- An allowed cut takes no entry that a section number selects, now or later.
use Rattle.std.proofs.Common.{◌≡◌, ℕ, ◌+◌, ◌<◌, ◌≤◌, ◌⊎◌, List, [], ◌∷◌, ◌++◌, true, arith, ap, ◌∙◌, sym, subst, inl, inr, Option, Some}
use Rattle.std.specs.Prelude.{IfSome}
use Rattle.std.specs.List.{slice_get, sum_by}
use Rattle.std.proofs.lemmas.Bool.{cases_lt}
use Rattle.index_words.specs.declared.layout.Layout.{Layout}
use Rattle.index_words.specs.declared.side.Side.{Side}
use Rattle.index_words.specs.declared.view.View.{View}
use Rattle.index_words.specs.declared.word.Field.TheVariants.{Head}
use Rattle.index_words.specs.declared.word.Part.TheVariants.{Next}
use Rattle.index_words.specs.declared.word.Word.TheVariants.{Node, Entry}
use Rattle.index_words.specs.Words.{Memory}
use Rattle.key_map.specs.Lists.{count}
use Rattle.key_map.proofs.Counting.{count-append}
use Rattle.index_words.proofs.Seats.{at_item}
use Rattle.core_grace.specs.Holds.{linked_in}
use Rattle.core_grace.specs.Slots.{entries_in, own}
use Rattle.core_links.specs.Bundle.{select}
use Rattle.core_links.proofs.Chains.{chain-same, cut_law}
use Rattle.core_events.specs.declared.event.Event.{Event}
use Rattle.core_events.specs.declared.event.Kind.{Kind}
use Rattle.core_events.specs.declared.event.Kind.TheVariants.{Cut}
use Rattle.core_events.specs.CutMoves.{cut_off}
use Rattle.core_events.specs.CutNeeds.{may_cut}
use Rattle.core_events.specs.Numbered.{entry_number}
use Rattle.core_events.specs.Steps.{allowed_at, needs}
use Rattle.core_events.specs.Tables.{Table, held_by}
use Rattle.core_events.specs.Versions.{slots_of}
use Rattle.core_events.proofs.Allowed.{needed}
use Rattle.core_invariant.specs.Meanings.{Meaning}
use Rattle.core_invariant.specs.BundleRule.{IsLive}
use Rattle.core_invariant.specs.PruneRule.{ReadsFrom}
use Rattle.core_invariant.specs.Rule.{Rule, IsRight}
use Rattle.core_invariant.proofs.BundleFrames.{select_in}
use Rattle.core_invariant.proofs.OneView.{item_from_get}
use Rattle.core_invariant.proofs.Owned.{in_entries, one_side, linked-at, once_entry, in_one_bundle}
use Rattle.core_invariant.proofs.Sides.{by_link}
use Rattle.core_invariant.proofs.LinkLaw.{selection_is}
use Rattle.core_invariant.proofs.AtEntries.{IsCutAt, cut_at}
use Rattle.core_laws.specs.Cuts.{IsReadNowOrLater, SelectsNone, UnreadLaw}

module _ (z : Layout) (m : Memory) (vs : List View) (g : Meaning) (rule : Rule z m vs g) (v : View) (e : ℕ) (cut : IsCutAt z m vs g v e) (n : ℕ) (low : g.bundles.number e ≤ n) where
  abbrev side : Side
  side = cut.side

  abbrev node : ℕ
  node = cut.node

  abbrev front : List ℕ
  front = cut.front

  abbrev back : List ℕ
  back = cut.back

  linked : 0 < count node (0 ∷ slots_of g.tree)
  linked = omega (arith, cut.linked)

  behind : (x : ℕ) → 0 < count x back → 0 < count x (g.bundles.bundle side node)
  behind x some = omega (arith, some, ap (count x) cut.splits, count-append x front (e ∷ back))

  -- the bundle has each entry once, so that none after it is also in front of it
  not_twice : (x : ℕ) → 0 < count x back → 0 < count x (front ++ e ∷ []) → ⊥
  not_twice x some here =
      omega (
        arith,
        once_entry z vs g rule.slots x,
        linked-at g.bundles node x (0 ∷ slots_of g.tree) linked,
        one_side g.bundles node x side,
        some,
        here,
        ap (count x) cut.splits,
        count-append x front (e ∷ back),
        count-append x front (e ∷ []),
      )

  not_none : 0 < count 0 back → ⊥
  not_none some =
      let nowhere : sum_by (own entries_in 0) vs + linked_in g.bundles 0 (0 ∷ slots_of g.tree) ≡ 0 = rule.slots.entries.one 0 in
      omega (arith, nowhere, linked-at g.bundles node 0 (0 ∷ slots_of g.tree) linked, in_entries g.bundles node 0 side (behind 0 some))

  here_none : count (select g.bundles.number n (g.bundles.bundle side node)) back ≡ 0
  here_none =
      let same : select g.bundles.number n (g.bundles.bundle side node) ≡ select g.bundles.number n (front ++ e ∷ []) =
      ap (select g.bundles.number n) cut.splits ∙ cut_law g.bundles.number n e front back low in
      subst (λ x. count x back ≡ 0) (sym same) (kept (select g.bundles.number n (front ++ e ∷ [])) (select_in g.bundles.number n (front ++ e ∷ [])))
    where
      by : (x : ℕ) → (x ≡ 0) ⊎ (0 < count x (front ++ e ∷ [])) → 0 < count x back → ⊥
      by x (inl none) some = not_none (subst (λ y. 0 < count y back) none some)
      by x (inr here) some = not_twice x some here

      kept : (x : ℕ) → (x ≡ 0) ⊎ (0 < count x (front ++ e ∷ [])) → count x back ≡ 0
      kept x of = elim (cases_lt 0 (count x back)) as (λ _. count x back ≡ 0) [ inl some ↦ absurd (by x of some) | inr none ↦ omega (arith, none) ]

  other_none : (s : Side) (k : ℕ) → (s ≡ side → k ≡ node → ⊥) → IsLive z vs k → count (select g.bundles.number n (g.bundles.bundle s k)) back ≡ 0
  other_none s k other live =
      let x : ℕ = select g.bundles.number n (g.bundles.bundle s k) in
      elim (cases_lt 0 (count x back)) as (λ _. count x back ≡ 0) [
        | inl some ↦ absurd (by x (select_in g.bundles.number n (g.bundles.bundle s k)) some)
        | inr none ↦ omega (arith, none)
      ]
    where
      by : (x : ℕ) → (x ≡ 0) ⊎ (0 < count x (g.bundles.bundle s k)) → 0 < count x back → ⊥
      by x (inl none) some = not_none (subst (λ y. 0 < count y back) none some)
      by x (inr here) some = in_one_bundle z vs g rule.slots node x side linked (behind x some) k s live other here

  pub selects_none : (s : Side) (k : ℕ) → IsLive z vs k → count (select g.bundles.number n (g.bundles.bundle s k)) back ≡ 0
  selects_none s k live =
      by_link (λ t j es. IsLive z vs j → count (select g.bundles.number n (g.bundles.bundle t j)) back ≡ 0) g.bundles.bundle side node [] (λ _. here_none) other_none s k live

module _ (t : Table) (right : IsRight t) where
  abbrev m : Memory
  m = held_by t

  -- the entry's number is at most each that is read now or later
  read_low : (v : View) (e n : ℕ) → (cut : IsCutAt t.layout m t.views right.meaning v e) → IsReadNowOrLater t n → right.meaning.bundles.number e ≤ n
  read_low v e n cut (inl by) =
      subst (λ (o : Option ℕ). IfSome o (λ x. right.meaning.bundles.number e ≤ x)) by.reads
      (at_item (ReadsFrom (right.meaning.bundles.number e)) t.views by.seat by.view by.at cut.read)
  read_low v e n cut (inr later) = omega (arith, cut.past, later)

  unread_at : (e n : ℕ) (v : View) → IsCutAt t.layout m t.views right.meaning v e → IsReadNowOrLater t n → SelectsNone t n (cut_off t.layout m e)
  unread_at e n v cut read k side es live bundle =
      let g : Meaning = right.meaning in
      let here = (right.rule.bundles k live side).chain in
      let same : es ≡ g.bundles.bundle side k = chain-same (λ d. m (Entry Next d)) (m (Node (Head side) k)) es (g.bundles.bundle side k) bundle here in
      let selected : select (entry_number m t.views) n es ≡ select g.bundles.number n (g.bundles.bundle side k) =
      ap (select (entry_number m t.views) n) same ∙ selection_is t.layout m g t.views right.rule n k side (g.bundles.bundle side k) live here in
      subst (λ x. count x (cut_off t.layout m e) ≡ 0) (sym selected)
      (subst (λ xs. count (select g.bundles.number n (g.bundles.bundle side k)) xs ≡ 0) (sym cut.off)
      (selects_none t.layout m t.views g right.rule v e cut n (read_low v e n cut read) side k live))

  unread_by : (e : Event) (entry n : ℕ) → allowed_at t e (slice_get t.views e.seat) (Some (Entry Next entry)) ≡ true → e.kind ≡ Cut → IsReadNowOrLater t n
      → SelectsNone t n (cut_off t.layout m entry)
  unread_by e entry n met is read =
      let need = needed t e (Entry Next entry) met in
      let may : may_cut t.layout m t.views need.v (Entry Next entry) e.value ≡ true =
      subst (λ (kind : Kind). needs kind t.layout m t.views e.seat need.v (Entry Next entry) e.value e.update ≡ true) is need.met in
      unread_at entry n need.v (cut_at t.layout m t.views right.meaning right.rule e.seat need.v (item_from_get t.views e.seat need.v need.is) entry e.value may).1 read

pub unread_law : UnreadLaw
unread_law t e entry n right met is word read =
    unread_by t right e entry n (subst (λ o. allowed_at t e (slice_get t.views e.seat) o ≡ true) word met) is read
