-- The keys that passes lay down are all keys of the index again.
use Rattle.std.proofs.Common.{◌≡◌, ℕ, suc, ◌<◌, List, [], ◌∷◌, ◌++◌, length, get_or, map, refl, ap, ◌∙◌, arith}
use Rattle.key_map.specs.Lists.{Every}
use Rattle.table_rule.specs.Homes.{Home}
use Rattle.table_steps.specs.Closes.{number_of}
use Rattle.table_steps.specs.Passes.{Pass, IsPassOf}
use Rattle.shared_index.specs.Keys.{AreAllKeys, IsKeyOf}
use Rattle.shared_index.proofs.KeyHomes.{all_kept, of_index}
use Rattle.index_runs.specs.declared.run.Worked.{Worked}
use Rattle.index_runs.specs.Runs.{LaidDown, key_of}

every_key : (index : Home) (left : List Worked) → ((i : ℕ) (d : Worked) → i < length left → IsKeyOf index (key_of (get_or left i d))) → Every (IsKeyOf index) (map key_of left)
every_key index [] each = tt
every_key index (w ∷ left) each = (each 0 w (omega arith), every_key index left (λ i d lt. each (suc i) d (omega arith)))

pub same_numbers : (keys : List Pass) (left : List Worked) → length left ≡ length keys
    → ((i : ℕ) (k : Pass) (d : Worked) → i < length keys → number_of (key_of (get_or left i d)) ≡ number_of (get_or keys i k))
    → map number_of (map key_of left) ≡ map number_of keys
same_numbers [] [] long each = refl
same_numbers [] (w ∷ left) long each = absurd (omega arith)
same_numbers (k ∷ keys) [] long each = absurd (omega arith)
same_numbers (k ∷ keys) (w ∷ left) long each =
    ap (λ n. n ∷ map number_of (map key_of left)) (each 0 k w (omega arith))
    ∙ ap (λ ns. number_of k ∷ ns) (same_numbers keys left (omega arith) (λ i a d lt. each (suc i) a d (omega arith)))

pub all_laid_down : (index : Home) (keys : List Pass) (left : List Worked) → AreAllKeys index keys → LaidDown index keys left → AreAllKeys index (map key_of left)
all_laid_down index keys left all laid =
    all_kept index keys (map key_of left) all
    (every_key index left (λ i d lt. (laid.each i (key_of d) d (omega (arith, laid.one_each))).of))
    (same_numbers keys left laid.one_each (λ i k d lt. (laid.each i k d lt).number))

-- the last one of the keys
pub last_key : (index : Home) (keys : List Pass) (last : Pass) → Every (IsKeyOf index) (keys ++ last ∷ []) → IsKeyOf index last
last_key index [] last all = all.0
last_key index (k ∷ keys) last all = last_key index keys last all.1

-- all keys are of the index again after the last one was taken up and laid down
every_other : (index : Home) (keys : List Pass) (last key : Pass) → Every (IsKeyOf index) (keys ++ last ∷ []) → IsKeyOf index key → Every (IsKeyOf index) (keys ++ key ∷ [])
every_other index [] last key all of = (of, tt)
every_other index (k ∷ keys) last key all of = (all.0, every_other index keys last key all.1 of)

numbers_other : (keys : List Pass) (last key : Pass) → number_of key ≡ number_of last → map number_of (keys ++ key ∷ []) ≡ map number_of (keys ++ last ∷ [])
numbers_other [] last key same = ap (λ n. n ∷ []) same
numbers_other (k ∷ keys) last key same = ap (λ ns. number_of k ∷ ns) (numbers_other keys last key same)

pub last_back : (index : Home) (keys : List Pass) (last key : Pass) → AreAllKeys index (keys ++ last ∷ []) → IsPassOf index key → number_of key ≡ number_of last
    → AreAllKeys index (keys ++ key ∷ [])
last_back index keys last key all of same =
    all_kept index (keys ++ last ∷ []) (keys ++ key ∷ []) all (every_other index keys last key all.of (of_index index key of)) (numbers_other keys last key same)
