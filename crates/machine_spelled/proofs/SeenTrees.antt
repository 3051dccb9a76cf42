-- How the tree that is read from the words unfolds at its top.
use Rattle.std.proofs.lemmas.Bool.{eq-eqb, lt-ltb, le-ltb}
use Rattle.core_events.specs.SpelledNow.{tree_from}
use Rattle.std.proofs.Common.{eqb, ltb, ◌<◌, ◌≡◌, ℕ, zero, suc, ◌-◌, ◌++◌, ◌&&◌, List, [], ◌∷◌, Bool, true, false, cond, nat_lt, nat_le, arith, refl, ap, ◌∙◌, sym, Some, None}
use Rattle.index_words.specs.declared.side.Side.TheVariants.{Left, Right}
use Rattle.index_words.specs.declared.view.reading.TreeNode.{TreeNode}
use Rattle.core_trees.specs.NamedTree.{NamedTree, Null, Branch}
use Rattle.core_trees.specs.SpelledTree.{Graph, spells}
use Rattle.core_trees.specs.TreeStep.{update, put_here, remove_here, joined, tree_put, tree_remove}
use Rattle.core_events.specs.Versions.{top_slot, tree_nodes}

some_is : (c slot : ℕ) (b : Bool) → cond b (Some c) None ≡ Some slot → (b ≡ true) × (c ≡ slot)
some_is c slot true is = (refl, cc)
some_is c slot false is = absurd cc

branch_by : (b : Bool) (t : NamedTree) → b ≡ true → cond b t Null ≡ t
branch_by true t is = refl
branch_by false t is = absurd cc

-- a node of the table is the top
pub tree_at : (depth last c slot : ℕ) (g : Graph) → (depth ≡ 0 → ⊥) → cond (nat_lt 0 c && nat_le c last) (Some c) None ≡ Some slot
    → tree_from depth last g c ≡ Branch slot (g.key c) (g.val c) (tree_from (depth - 1) last g (g.child Left c)) (tree_from (depth - 1) last g (g.child Right c))
tree_at zero last c slot g some is = absurd (some refl)
tree_at (suc depth) last c slot g some is =
    let found = some_is c slot (nat_lt 0 c && nat_le c last) is in
    branch_by (nat_lt 0 c && nat_le c last) _ found.0
    ∙ ap (λ x. Branch x (g.key c) (g.val c) (tree_from depth last g (g.child Left c)) (tree_from depth last g (g.child Right c))) found.1
    ∙ ap (λ (d : ℕ). Branch slot (g.key c) (g.val c) (tree_from d last g (g.child Left c)) (tree_from d last g (g.child Right c))) (before depth)
  where
    before : (d : ℕ) → d ≡ suc d - 1
    before d = omega arith

-- a number that is not a node of the table is the empty tree
none_is : (c : ℕ) (b : Bool) → cond b (Some c) None ≡ None → b ≡ false
none_is c true is = absurd cc
none_is c false is = refl

null_by : (b : Bool) (t : NamedTree) → b ≡ false → cond b t Null ≡ Null
null_by true t is = absurd cc
null_by false t is = refl

abbrev node_of : ℕ → ℕ → ℕ → ℕ → ℕ → TreeNode
node_of slot key val left right = record { slot = slot; key = key; val = val; left = left; right = right }

same_node : (slot k k' v v' l l' r r' : ℕ) → k ≡ k' → v ≡ v' → l ≡ l' → r ≡ r' → node_of slot k v l r ≡ node_of slot k' v' l' r'
same_node slot k k' v v' l l' r r' a b c d =
    ap (λ x. node_of slot x v l r) a ∙ ap (λ x. node_of slot k' x l r) b ∙ ap (λ x. node_of slot k' v' x r) c ∙ ap (node_of slot k' v' l') d

joined_lists : (old l r : List TreeNode) (x : TreeNode) → ((old ++ l) ++ x ∷ []) ++ r ≡ old ++ (l ++ x ∷ r)
joined_lists [] l r x = behind l
  where
    behind : (ys : List TreeNode) → (ys ++ x ∷ []) ++ r ≡ ys ++ x ∷ r
    behind [] = refl
    behind (y ∷ ys) = ap (λ zs. y ∷ zs) (behind ys)
joined_lists (y ∷ ys) l r x = ap (λ zs. y ∷ zs) (joined_lists ys l r x)

-- the list with the nodes of the two sides and the top's between them
pub nodes_at : (depth last c slot key val left right low high : ℕ) (g : Graph) (old one two new : List TreeNode) → (depth ≡ 0 → ⊥)
    → cond (nat_lt 0 c && nat_le c last) (Some c) None ≡ Some slot → key ≡ g.key c → val ≡ g.val c → left ≡ g.child Left c → right ≡ g.child Right c
    → low ≡ top_slot (tree_from (depth - 1) last g left) → high ≡ top_slot (tree_from (depth - 1) last g right)
    → one ≡ old ++ tree_nodes (tree_from (depth - 1) last g left) → two ≡ one ++ node_of slot key val low high ∷ [] → new ≡ two ++ tree_nodes (tree_from (depth - 1) last g right)
    → new ≡ old ++ tree_nodes (tree_from depth last g c)
nodes_at depth last c slot key val left right low high g old one two new some is keys vals lefts rights lows highs a b d =
    let t : ℕ → NamedTree = λ x. tree_from (depth - 1) last g x in
    d ∙ ap (λ xs. xs ++ tree_nodes (t right)) (b ∙ ap (λ xs. xs ++ node_of slot key val low high ∷ []) a)
    ∙ joined_lists old (tree_nodes (t left)) (tree_nodes (t right)) (node_of slot key val low high)
    ∙ ap (λ x. old ++ (tree_nodes (t left) ++ x ∷ tree_nodes (t right)))
    (same_node slot key (g.key c) val (g.val c) low (top_slot (t left)) high (top_slot (t right)) keys vals lows highs)
    ∙ ap (λ (y : ℕ). old ++ (tree_nodes (t y) ++ node_of slot (g.key c) (g.val c) (top_slot (t y)) (top_slot (t right)) ∷ tree_nodes (t right))) lefts
    ∙ ap (λ (y : ℕ). old ++ (tree_nodes (t (g.child Left c)) ++ node_of slot (g.key c) (g.val c) (top_slot (t (g.child Left c))) (top_slot (t y)) ∷ tree_nodes (t y))) rights
    ∙ ap (λ x. old ++ tree_nodes x) (sym (tree_at depth last c slot g some is))

both_true : (b p q r l h : Bool) → p ≡ true → q ≡ true → r ≡ true → (b && l && h) ≡ (b && p && q && r && l && h)
both_true true true true true l h _ _ _ = refl
both_true false true true true l h _ _ _ = refl
both_true b false q r l h wrong _ _ = absurd cc
both_true b p false r l h _ wrong _ = absurd cc
both_true b p q false l h _ _ wrong = absurd cc

-- a node that stays in its place is spelled if it is the child and its two children are spelled
pub top_spells : (g : Graph) (c slot key val child : ℕ) (left right : NamedTree) (result low high : Bool) → slot ≡ c → 0 < slot → key ≡ g.key slot → val ≡ g.val slot
    → low ≡ spells g (g.child Left c) left → high ≡ spells g (g.child Right c) right → result ≡ (eqb child c && low && high)
    → result ≡ spells g child (Branch slot key val left right)
top_spells g c slot key val child left right result low high is some keys vals lows highs all =
    all ∙ ap (λ b. eqb child c && b && high) lows ∙ ap (λ b. eqb child c && spells g (g.child Left c) left && b) highs
    ∙ ap (λ (x : ℕ). eqb child x && spells g (g.child Left x) left && spells g (g.child Right x) right) (sym is)
    ∙ both_true (eqb child slot) (ltb 0 slot) (eqb (g.key slot) key) (eqb (g.val slot) val) (spells g (g.child Left slot) left) (spells g (g.child Right slot) right)
    (lt-ltb 0 slot some) (eq-eqb (g.key slot) key (sym keys)) (eq-eqb (g.val slot) val (sym vals))

-- a node with a pair is spelled at its slot if its two children are spelled
pub node_spells : (g : Graph) (child slot key val : ℕ) (left right : NamedTree) (result here low high : Bool)
    → here ≡ (eqb child slot && ltb 0 slot && eqb (g.key slot) key && eqb (g.val slot) val)
    → low ≡ spells g (g.child Left slot) left → high ≡ spells g (g.child Right slot) right → result ≡ (here && low && high)
    → result ≡ spells g child (Branch slot key val left right)
node_spells g child slot key val left right result here low high heres lows highs all =
    all ∙ ap (λ b. b && low && high) heres
    ∙ ap (λ b. (eqb child slot && ltb 0 slot && eqb (g.key slot) key && eqb (g.val slot) val) && b && high) lows
    ∙ ap (λ b. (eqb child slot && ltb 0 slot && eqb (g.key slot) key && eqb (g.val slot) val) && spells g (g.child Left slot) left && b) highs

-- a subtree in which a key is changed on one side of its top
at_low : (b c : Bool) (s t u : NamedTree) → b ≡ true → cond b s (cond c t u) ≡ s
at_low true c s t u is = refl
at_low false c s t u is = absurd cc

at_high : (b c : Bool) (s t u : NamedTree) → b ≡ false → c ≡ true → cond b s (cond c t u) ≡ t
at_high false true s t u is then = refl
at_high _ _ s t u is then = absurd cc

at_same : (b c : Bool) (s t u : NamedTree) → b ≡ false → c ≡ false → cond b s (cond c t u) ≡ u
at_same false false s t u is then = refl
at_same _ _ s t u is then = absurd cc

pub update_low : (key slot k v : ℕ) (f : NamedTree → NamedTree) (left right : NamedTree) → key < k
    → update key f (Branch slot k v left right) ≡ Branch slot k v (update key f left) right
update_low key slot k v f left right less = at_low (ltb key k) (ltb k key) _ _ _ (lt-ltb key k less)

pub update_high : (key slot k v : ℕ) (f : NamedTree → NamedTree) (left right : NamedTree) → k < key
    → update key f (Branch slot k v left right) ≡ Branch slot k v left (update key f right)
update_high key slot k v f left right more = at_high (ltb key k) (ltb k key) _ _ _ (le-ltb key k (omega arith)) (lt-ltb k key more)

pub update_same : (key slot k v : ℕ) (f : NamedTree → NamedTree) (left right : NamedTree) → ¬ (key < k) → ¬ (k < key)
    → update key f (Branch slot k v left right) ≡ f (Branch slot k v left right)
update_same key slot k v f left right not_less not_more = at_same (ltb key k) (ltb k key) _ _ _ (le-ltb key k (omega arith)) (le-ltb k key (omega arith))

-- a put, at a null link and on either side of a top
pub put_low : (g : Graph) (c slot k v child put key val : ℕ) (left right : NamedTree) (result low high : Bool) → slot ≡ c → 0 < slot → k ≡ g.key slot → v ≡ g.val slot → key < k
    → low ≡ spells g (g.child Left c) (tree_put put key val left) → high ≡ spells g (g.child Right c) right → result ≡ (eqb child c && low && high)
    → result ≡ spells g child (tree_put put key val (Branch slot k v left right))
put_low g c slot k v child put key val left right result low high is some keys vals less lows highs all =
    top_spells g c slot k v child (tree_put put key val left) right result low high is some keys vals lows highs all
    ∙ ap (spells g child) (sym (update_low key slot k v (put_here put key val) left right less))

pub put_high : (g : Graph) (c slot k v child put key val : ℕ) (left right : NamedTree) (result low high : Bool) → slot ≡ c → 0 < slot → k ≡ g.key slot → v ≡ g.val slot → k < key
    → low ≡ spells g (g.child Left c) left → high ≡ spells g (g.child Right c) (tree_put put key val right) → result ≡ (eqb child c && low && high)
    → result ≡ spells g child (tree_put put key val (Branch slot k v left right))
put_high g c slot k v child put key val left right result low high is some keys vals more lows highs all =
    top_spells g c slot k v child left (tree_put put key val right) result low high is some keys vals lows highs all
    ∙ ap (spells g child) (sym (update_high key slot k v (put_here put key val) left right more))

pub put_same : (g : Graph) (slot k v child put key val : ℕ) (left right : NamedTree) (result : Bool) → ¬ (key < k) → ¬ (k < key)
    → result ≡ spells g child (Branch put key val left right) → result ≡ spells g child (tree_put put key val (Branch slot k v left right))
put_same g slot k v child put key val left right result not_less not_more is =
    is ∙ ap (spells g child) (sym (update_same key slot k v (put_here put key val) left right not_less not_more))

-- a removal, on either side of a top and at it
pub remove_low : (g : Graph) (c slot k v child put key : ℕ) (left right : NamedTree) (result low high : Bool) → slot ≡ c → 0 < slot → k ≡ g.key slot → v ≡ g.val slot → key < k
    → low ≡ spells g (g.child Left c) (tree_remove put key left) → high ≡ spells g (g.child Right c) right → result ≡ (eqb child c && low && high)
    → result ≡ spells g child (tree_remove put key (Branch slot k v left right))
remove_low g c slot k v child put key left right result low high is some keys vals less lows highs all =
    top_spells g c slot k v child (tree_remove put key left) right result low high is some keys vals lows highs all
    ∙ ap (spells g child) (sym (update_low key slot k v (remove_here put) left right less))

pub remove_high : (g : Graph) (c slot k v child put key : ℕ) (left right : NamedTree) (result low high : Bool) → slot ≡ c → 0 < slot → k ≡ g.key slot → v ≡ g.val slot → k < key
    → low ≡ spells g (g.child Left c) left → high ≡ spells g (g.child Right c) (tree_remove put key right) → result ≡ (eqb child c && low && high)
    → result ≡ spells g child (tree_remove put key (Branch slot k v left right))
remove_high g c slot k v child put key left right result low high is some keys vals more lows highs all =
    top_spells g c slot k v child left (tree_remove put key right) result low high is some keys vals lows highs all
    ∙ ap (spells g child) (sym (update_high key slot k v (remove_here put) left right more))

pub remove_same : (g : Graph) (slot k v child put key : ℕ) (left right : NamedTree) (result : Bool) → ¬ (key < k) → ¬ (k < key)
    → result ≡ spells g child (joined put left right) → result ≡ spells g child (tree_remove put key (Branch slot k v left right))
remove_same g slot k v child put key left right result not_less not_more is =
    is ∙ ap (spells g child) (sym (update_same key slot k v (remove_here put) left right not_less not_more))
