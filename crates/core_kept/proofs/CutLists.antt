-- Lists of entries, cut off after one of them.
use Rattle.std.proofs.Common.{◌≡◌, ℕ, ◌+◌, ◌<◌, ◌≤◌, cond, List, [], ◌∷◌, ◌++◌, leb, arith, ap, ◌∙◌, sym, subst}
use Rattle.std.proofs.lemmas.Bool.{le-leb}
use Rattle.key_map.specs.Lists.{count, Every}
use Rattle.key_map.proofs.Counting.{count-append}
use Rattle.core_links.specs.Bundle.{IsChain}
use Rattle.core_grace.specs.Holds.{read_at}
use Rattle.core_invariant.specs.BundleRule.{Falls, TailWritten}
use Rattle.core_invariant.proofs.Frames.{one_counted, count-middle}

pub every_upto : (P : ℕ → Type 0) (e : ℕ) (front back : List ℕ) → Every P (front ++ e ∷ back) → Every P (front ++ e ∷ [])
every_upto P e [] back all = (all.0, tt)
every_upto P e (x ∷ front) back all = (all.0, every_upto P e front back all.1)

pub falls_upto : (number : ℕ → ℕ) (top e : ℕ) (front back : List ℕ) → Falls number top (front ++ e ∷ back) → Falls number top (front ++ e ∷ [])
falls_upto number top e [] back falls = (falls.0, tt)
falls_upto number top e (x ∷ front) back falls = (falls.0, falls_upto number (number x) e front back falls.1)

pub tail_upto : (stamp : ℕ → ℕ) (e : ℕ) (front back : List ℕ) → TailWritten stamp (front ++ e ∷ back) → TailWritten stamp (front ++ e ∷ [])
tail_upto stamp e [] back tail = tt
tail_upto stamp e (x ∷ front) back tail = every_upto (λ d. 0 < stamp d) e front back tail

-- the chain ends with the entry whose next is 0
pub chain_upto : (next next' : ℕ → ℕ) (head e : ℕ) (front back : List ℕ) → ((d : ℕ) → 0 < count d front → next' d ≡ next d) → next' e ≡ 0
    → IsChain next head (front ++ e ∷ back) → IsChain next' head (front ++ e ∷ [])
chain_upto next next' head e [] back same last chain = (chain.0, chain.1, last)
chain_upto next next' head e (x ∷ front) back same last chain = (
  chain.0,
  chain.1,
  subst (λ h. IsChain next' h (front ++ e ∷ [])) (sym (same x (one_counted x (count x front))))
      (chain_upto next next' (next x) e front back (λ d within. same d (omega (arith, within))) last chain.2),
)

-- a reader at a number from the entry's on reads nothing after it
pub read_upto : (number : ℕ → ℕ) (t e : ℕ) (front back : List ℕ) → number e ≤ t → read_at number t (front ++ e ∷ back) ≡ read_at number t (front ++ e ∷ [])
read_upto number t e [] back low =
    ap (λ b. e ∷ cond b [] (read_at number t back)) (le-leb (number e) t low) ∙ sym (ap (λ b. e ∷ cond b [] []) (le-leb (number e) t low))
read_upto number t e (x ∷ front) back low = ap (λ rest. x ∷ cond (leb (number x) t) [] rest) (read_upto number t e front back low)

pub count_upto : (x e : ℕ) (front back : List ℕ) → count x (front ++ e ∷ []) + count x back ≡ count x (front ++ e ∷ back)
count_upto x e front back = omega (arith, count-append x front (e ∷ []), count-append x front (e ∷ back))

-- the entry `d` stands in the list after these
pub record StandsBehind (es front : List ℕ) (d : ℕ) : Type 0 where
  pub back : List ℕ
  pub splits : es ≡ front ++ d ∷ back

stands_first : (e d : ℕ) → e ≡ d → StandsBehind (e ∷ []) [] d
stands_first e d same = record { back = []; splits = ap (λ x. x ∷ []) same }

stands_later : (x y d : ℕ) (es front : List ℕ) → x ≡ y → StandsBehind es front d → StandsBehind (x ∷ es) (y ∷ front) d
stands_later x y d es front same rest = record { back = rest.back; splits = ap (λ z. z ∷ es) same ∙ ap (λ zs. y ∷ zs) rest.splits }

-- a reader that has passed only entries with numbers above `t`, which the entry's is not, does not stand after it
pub reader_stands : (number : ℕ → ℕ) (t e d : ℕ) (front back front' back' : List ℕ) → number e ≤ t → Every (λ x. t < number x) front'
    → front ++ e ∷ back ≡ front' ++ d ∷ back' → StandsBehind (front ++ e ∷ []) front' d
reader_stands number t e d [] back [] back' low above same = let one : e ≡ d = cc in stands_first e d one
reader_stands number t e d [] back (y ∷ front') back' low above same = let one : e ≡ y = cc in absurd (omega (arith, low, above.0, ap number one))
reader_stands number t e d (x ∷ front) back [] back' low above same =
    let one : x ≡ d = cc in record { back = front ++ e ∷ []; splits = ap (λ y. y ∷ (front ++ e ∷ [])) one }
reader_stands number t e d (x ∷ front) back (y ∷ front') back' low above same =
    let one : x ≡ y = cc in
    let more : front ++ e ∷ back ≡ front' ++ d ∷ back' = cc in
    stands_later x y d (front ++ e ∷ []) front' one (reader_stands number t e d front back front' back' low above.1 more)

-- nor does one that stands at an entry which is not cut off
pub holder_stands : (e d : ℕ) (front back front' back' : List ℕ) → count d back ≡ 0 → front ++ e ∷ back ≡ front' ++ d ∷ back'
    → StandsBehind (front ++ e ∷ []) front' d
holder_stands e d [] back [] back' none same = let one : e ≡ d = cc in stands_first e d one
holder_stands e d [] back (y ∷ front') back' none same =
    let more : back ≡ front' ++ d ∷ back' = cc in absurd (omega (arith, none, ap (count d) more, count-middle d front' back'))
holder_stands e d (x ∷ front) back [] back' none same = let one : x ≡ d = cc in record { back = front ++ e ∷ []; splits = ap (λ y. y ∷ (front ++ e ∷ [])) one }
holder_stands e d (x ∷ front) back (y ∷ front') back' none same =
    let one : x ≡ y = cc in
    let more : front ++ e ∷ back ≡ front' ++ d ∷ back' = cc in
    stands_later x y d (front ++ e ∷ []) front' one (holder_stands e d front back front' back' none more)
