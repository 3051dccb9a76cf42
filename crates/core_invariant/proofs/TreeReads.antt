-- What is read by computation: the newest entry that has a number, the entries from a head on, and the tree from
-- a child on.
use Rattle.std.proofs.Common.{◌≡◌, ℕ, zero, suc, ◌+◌, ◌<◌, ◌≤◌, cond, List, [], ◌∷◌, length, take, fold, Bool, true, false, eqb, leb, ltb, arith, refl, ap, ◌∙◌, sym, ◌&&◌, ◌||◌}
use Rattle.std.proofs.lemmas.Bool.{eq-eqb, ne_eqb, lt-ltb, le-ltb, le-leb, and_from}
use Rattle.std.proofs.lemmas.List.{length-append}
use Rattle.index_words.specs.declared.side.Side.TheVariants.{Left, Right}
use Rattle.key_map.specs.declared.pair.Pair.{Pair}
use Rattle.key_map.specs.declared.update.Update.{Update}
use Rattle.key_map.specs.declared.update.Change.{Change}
use Rattle.key_map.specs.declared.update.Change.TheVariants.{Put, Remove}
use Rattle.key_map.specs.Map.{pair, map_put, map_remove}
use Rattle.key_map.specs.History.{changed, updated, after}
use Rattle.key_map.specs.Lists.{count}
use Rattle.core_links.specs.Bundle.{IsChain, select}
use Rattle.core_links.proofs.Chains.{select-here}
use Rattle.core_trees.specs.NamedTree.{NamedTree, Null, Branch, contents}
use Rattle.core_trees.specs.Slots.{tally, occurs}
use Rattle.core_trees.proofs.Slots.{one_at-same}
use Rattle.core_trees.specs.SpelledTree.{Graph, IsSpelled}
use Rattle.core_events.specs.SpelledNow.{newest, tree_from, entries_from}
use Rattle.core_invariant.proofs.Frames.{one_counted}

-- each entry after the first has a number of at most `s`
abbrev pub TailLow : (ℕ → ℕ) → ℕ → List ℕ → Type 0
TailLow number s [] = Unit {0}
TailLow number s (e ∷ es) = (d : ℕ) → 0 < count d es → number d ≤ s

pub newest_none : (numbered : ℕ → Bool) (next : ℕ → ℕ) (head : ℕ) → head ≡ 0 → newest numbered next head ≡ 0
newest_none numbered next head is = ap (λ b. cond (b || numbered head) head (next head)) (eq-eqb head 0 is) ∙ is

pub newest_some : (numbered : ℕ → Bool) (next : ℕ → ℕ) (e : ℕ) → 0 < e → newest numbered next e ≡ cond (numbered e) e (next e)
newest_some numbered next e some = ap (λ b. cond (b || numbered e) e (next e)) (ne_eqb e 0 (omega (arith, some)))

-- if each entry has a number, the head is the selected one
head_selected : (next number : ℕ → ℕ) (s head : ℕ) (es : List ℕ) → IsChain next head es → ((d : ℕ) → 0 < count d es → number d ≤ s) → head ≡ select number s es
head_selected next number s head [] chain low = chain
head_selected next number s head (e ∷ es) chain low = chain.0 ∙ sym (select-here number s e es (low e (one_counted e (count e es))))

-- the newest entry that has a number is the selected one
pub newest_is : (numbered : ℕ → Bool) (next number : ℕ → ℕ) (s head : ℕ) (es : List ℕ) → IsChain next head es
    → ((d : ℕ) → 0 < count d es → numbered d ≡ leb (number d) s) → TailLow number s es → newest numbered next head ≡ select number s es
newest_is numbered next number s head [] chain same low = newest_none numbered next head chain
newest_is numbered next number s head (e ∷ es) chain same low =
    ap (newest numbered next) chain.0 ∙ newest_some numbered next e chain.1
    ∙ ap (λ b. cond b e (next e)) (same e (one_counted e (count e es)))
    ∙ ap (λ x. cond (leb (number e) s) e x) (head_selected next number s (next e) es chain.2 low)

-- the entries from the head on are the chain, if it has no more entries than the limit
pub entries_from_is : (last : ℕ) (next : ℕ → ℕ) (n head : ℕ) (es : List ℕ) → IsChain next head es → ((d : ℕ) → 0 < count d es → d ≤ last) → length es ≤ n
    → entries_from n last next head ≡ es
entries_from_is last next zero head [] chain there few = refl
entries_from_is last next zero head (e ∷ es) chain there few = absurd (omega (arith, few))
entries_from_is last next (suc n) head [] chain there few = ap (λ b. cond (b && leb head last) (head ∷ entries_from n last next (next head)) []) (le-ltb 0 head (omega (arith, chain)))
entries_from_is last next (suc n) head (e ∷ es) chain there few =
    ap (entries_from (suc n) last next) chain.0
    ∙ ap (λ b. cond (b && leb e last) (e ∷ entries_from n last next (next e)) []) (lt-ltb 0 e chain.1)
    ∙ ap (λ b. cond b (e ∷ entries_from n last next (next e)) []) (le-leb e last (there e (one_counted e (count e es))))
    ∙ ap (λ l. e ∷ l) (entries_from_is last next n (next e) es chain.2 (λ d here. there d (omega (arith, here))) (omega (arith, few)))

-- how many nodes a tree has
abbrev pub size : NamedTree → ℕ
size tree = tally (λ k. 1) tree

-- the tree from the child on is the spelled one, if it has no more nodes than the limit
pub tree_from_is : (g : Graph) (depth last c : ℕ) (tree : NamedTree) → IsSpelled g c tree → ((x : ℕ) → 0 < occurs x tree → x ≤ last) → size tree ≤ depth
    → tree_from depth last g c ≡ tree
tree_from_is g zero last c Null spelled low few = refl
tree_from_is g zero last c (Branch s k v l r) spelled low few = absurd (omega (arith, few))
tree_from_is g (suc depth) last c Null spelled low few =
    ap (λ b. cond (b && leb c last) (Branch c (g.key c) (g.val c) (tree_from depth last g (g.child Left c)) (tree_from depth last g (g.child Right c))) Null)
    (le-ltb 0 c (omega (arith, spelled)))
tree_from_is g (suc depth) last c (Branch s k v l r) spelled low few =
    let left : tree_from depth last g (g.child Left s) ≡ l
    = tree_from_is g depth last (g.child Left s) l spelled.4 (λ x p. low x (omega (arith, p))) (omega (arith, few)) in
    let right : tree_from depth last g (g.child Right s) ≡ r
    = tree_from_is g depth last (g.child Right s) r spelled.5 (λ x p. low x (omega (arith, p))) (omega (arith, few)) in
    let here : (ltb 0 s && leb s last) ≡ true
    = and_from (ltb 0 s) (leb s last) (lt-ltb 0 s spelled.1) (le-leb s last (low s (omega (arith, one_at-same s)))) in
    ap (tree_from (suc depth) last g) spelled.0
    ∙ ap (λ b. cond b (Branch s (g.key s) (g.val s) (tree_from depth last g (g.child Left s)) (tree_from depth last g (g.child Right s))) Null) here
    ∙ ap (λ x. Branch s x (g.val s) (tree_from depth last g (g.child Left s)) (tree_from depth last g (g.child Right s))) spelled.2
    ∙ ap (λ x. Branch s k x (tree_from depth last g (g.child Left s)) (tree_from depth last g (g.child Right s))) spelled.3
    ∙ ap (λ t. Branch s k v t (tree_from depth last g (g.child Right s))) left
    ∙ ap (λ t. Branch s k v l t) right

-- a tree has as many nodes as its contents have pairs
pub contents_size : (tree : NamedTree) → length (contents tree) ≡ size tree
contents_size Null = refl
contents_size (Branch s k v l r) =
    omega (arith, length-append (contents l) (pair k v ∷ contents r), contents_size l, contents_size r)

put_length : (key val : ℕ) (ps : List Pair) → length (map_put key val ps) ≤ length ps + 1
put_length key val [] = omega arith
put_length key val (p ∷ ps) = by (put_length key val ps) (ltb p.key key) (eqb p.key key)
  where
    by : length (map_put key val ps) ≤ length ps + 1 → (a b : Bool)
        → length (cond a (p ∷ map_put key val ps) (cond b (pair key val ∷ ps) (pair key val ∷ p ∷ ps))) ≤ length (p ∷ ps) + 1
    by rest true b = omega (arith, rest)
    by rest false true = omega arith
    by rest false false = omega arith

remove_length : (key : ℕ) (ps : List Pair) → length (map_remove key ps) ≤ length ps + 1
remove_length key [] = omega arith
remove_length key (p ∷ ps) = by (remove_length key ps) (eqb p.key key)
  where
    by : length (map_remove key ps) ≤ length ps + 1 → (a : Bool) → length (cond a ps (p ∷ map_remove key ps)) ≤ length (p ∷ ps) + 1
    by rest true = omega arith
    by rest false = omega (arith, rest)

changed_length : (key : ℕ) (c : Change) (ps : List Pair) → length (changed key c ps) ≤ length ps + 1
changed_length key (Put val) ps = put_length key val ps
changed_length key Remove ps = remove_length key ps

fold_length : (us : List Update) (ps : List Pair) → length (fold updated ps us) ≤ length ps + length us
fold_length [] ps = omega arith
fold_length (u ∷ us) ps = omega (arith, fold_length us (updated ps u), changed_length u.key u.change ps)

take_length : (t : ℕ) (us : List Update) → length (take t us) ≤ t
take_length (suc t) (u ∷ us) = omega (arith, take_length t us)
take_length _ _ = omega arith

-- the map after a number of updates has no more pairs than that
pub after_length : (us : List Update) (t : ℕ) → length (after us t) ≤ t
unfolding after
after_length us t = omega (arith, fold_length (take t us) [], take_length t us)
