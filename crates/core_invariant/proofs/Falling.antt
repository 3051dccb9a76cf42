-- Numbers fall along a bundle: after an entry whose number was found comes one whose number is written, and lower.
use Rattle.std.proofs.Common.{◌≡◌, ℕ, suc, ◌<◌, List, [], ◌∷◌, ◌++◌, arith, sym, subst, Option, Some}
use Rattle.std.specs.Prelude.{IfSome}
use Rattle.key_map.specs.Lists.{Every, IsItem}
use Rattle.index_words.specs.declared.layout.Layout.{Layout}
use Rattle.index_words.specs.declared.side.Side.{Side}
use Rattle.index_words.specs.declared.view.View.{View}
use Rattle.index_words.specs.declared.view.reading.Place.TheVariants.{Entry as AtEntry}
use Rattle.index_words.specs.declared.word.Part.TheVariants.{Stamp as Number, Next}
use Rattle.index_words.specs.declared.word.Word.TheVariants.{Stamp, Entry}
use Rattle.index_words.specs.Words.{Memory}
use Rattle.core_links.specs.Bundle.{IsChain, no_number}
use Rattle.core_invariant.specs.BundleRule.{Falls, TailWritten, IsNumbered}
use Rattle.core_invariant.specs.Meanings.{Meaning}
use Rattle.core_invariant.specs.Readers.{IsWatched}
use Rattle.core_invariant.specs.Rule.{Rule}
use Rattle.core_invariant.proofs.AtEntries.{bundle, chain_behind, numbered, stands}

every_next : (P : ℕ → Type 0) (front : List ℕ) (e d : ℕ) (back : List ℕ) → Every P (front ++ e ∷ d ∷ back) → P d
every_next P [] e d back all = all.1.0
every_next P (f ∷ front) e d back all = every_next P front e d back all.1

written_behind : (stamp : ℕ → ℕ) (front : List ℕ) (e d : ℕ) (back : List ℕ) → TailWritten stamp (front ++ e ∷ d ∷ back) → 0 < stamp d
written_behind stamp [] e d back tail = tail.0
written_behind stamp (f ∷ front) e d back tail = every_next (λ x. 0 < stamp x) front e d back tail

falls_behind : (number : ℕ → ℕ) (top : ℕ) (front : List ℕ) (e d : ℕ) (back : List ℕ) → Falls number top (front ++ e ∷ d ∷ back) → number d < number e
falls_behind number top [] e d back falls = falls.1.0
falls_behind number top (f ∷ front) e d back falls = falls_behind number (number f) front e d back falls.1

-- the number of the entry after one whose number was found
module _ (z : Layout) (m : Memory) (vs : List View) (g : Meaning) (rule : Rule z m vs g) (i : ℕ) (v : View) (at : IsItem vs i v) (node : ℕ) (side : Side) (e : ℕ) (found : Option ℕ) (here : v.reading.place ≡ AtEntry node side e found) (some : 0 < e) (watched : IsWatched v node) (x : ℕ) (known : found ≡ Some x) (above : 0 < x) where
  pub next_falls : 0 < m (Entry Next e) → (0 < m (Entry Number (m (Entry Next e)))) × (m (Entry Number (m (Entry Next e))) < x)
  next_falls more =
      let stood = stands z m vs g rule i v at node side e found here some watched in
      let right = bundle z m vs g rule i v at node side e found here some in
      by_back stood.front stood.back stood.splits
      (chain_behind (λ d. m (Entry Next d)) _ e stood.front stood.back (subst (IsChain (λ d. m (Entry Next d)) _) stood.splits right.chain))
      (subst (TailWritten (λ d. m (Entry Number d))) stood.splits right.tail)
      (subst (Falls g.bundles.number (suc no_number)) stood.splits right.falls)
      (subst (Every (IsNumbered (m Stamp) (λ d. m (Entry Number d)) g.bundles.number)) stood.splits right.numbers)
      (subst (λ o. IfSome o (λ n. 0 < n → m (Entry Number e) ≡ n)) known stood.found above)
    where
      by_back : (front back : List ℕ) → g.bundles.bundle side node ≡ front ++ e ∷ back → IsChain (λ d. m (Entry Next d)) (m (Entry Next e)) back
          → TailWritten (λ d. m (Entry Number d)) (front ++ e ∷ back) → Falls g.bundles.number (suc no_number) (front ++ e ∷ back)
          → Every (IsNumbered (m Stamp) (λ d. m (Entry Number d)) g.bundles.number) (front ++ e ∷ back) → m (Entry Number e) ≡ x
          → (0 < m (Entry Number (m (Entry Next e)))) × (m (Entry Number (m (Entry Next e))) < x)
      by_back front [] splits chain tail falls numbers is = absurd (omega (arith, more, chain))
      by_back front (d ∷ back) splits chain tail falls numbers is =
          let stamp : ℕ → ℕ = λ k. m (Entry Number k) in
          let written : 0 < stamp d = written_behind stamp front e d back tail in
          let less : g.bundles.number d < g.bundles.number e = falls_behind g.bundles.number (suc no_number) front e d back falls in
          let own : g.bundles.number e ≡ stamp e = numbered z m vs g rule i v at node side e found here some watched (omega (arith, is, above)) in
          let next : g.bundles.number d ≡ stamp d = (every_next (IsNumbered (m Stamp) stamp g.bundles.number) front e d back numbers written).0 in
          subst (λ k. (0 < m (Entry Number k)) × (m (Entry Number k) < x)) (sym chain.0) (written, omega (arith, less, own, next, is))
