-- What lies below a turn of a search in the plain tree, and what still leads there after a store.
use Rattle.std.proofs.Common.{ℕ, ◌+◌, ◌<◌, ◌≤◌, inl, inr, sym, ◌∙◌, subst, arith, ◌≡◌, List, [], ◌∷◌, refl, ap}
use Rattle.std.proofs.lemmas.Bool.{cases_lt}
use Rattle.index_words.specs.declared.side.Side.{Side}
use Rattle.index_words.specs.declared.side.Side.TheVariants.{Left, Right}
use Rattle.core_trees.specs.NamedTree.{NamedTree, Null, Branch, IsWithin}
use Rattle.core_trees.specs.Gaps.{IsNull, child_of}
use Rattle.core_trees.specs.Slots.{occurs}
use Rattle.core_trees.specs.SpelledTree.{Graph, IsSpelled}
use Rattle.plain_trees.specs.Matching.{Undone, IsOut, AllBelow, AllAbove, Same, Replaced, Copied, LiftedRight, LiftedLeft, Matches, IsBypassed}
use Rattle.plain_trees.specs.Turns.{HasKey, IsBelow, IsBeyond, TurnLaw, IsPath, LeadsBelow, TurnsHereLaw, TurnStaysLaw, StoreTurnLaw}
use Rattle.plain_trees.specs.Reaching.{LeadTo, IsReached}
use Rattle.plain_trees.specs.Stores.{IsStore, IsTest}
use Rattle.plain_trees.proofs.Belows.{below_store}
use Rattle.plain_trees.proofs.Matched.{top-or-below, reached_in, spelled-some}

null-key : (b key : ℕ) (t : NamedTree) → IsNull t → HasKey b key t → ⊥
null-key b key Null n h = h
null-key b key (Branch _ _ _ _ _) n h = n

key-within : (b key low high : ℕ) (t : NamedTree) → IsWithin low high t → HasKey b key t → (low ≤ key) × (key < high)
key-within b key low high Null h is = absurd is
key-within b key low high (Branch m k v l r) h (inl here) = (omega (arith, h.0, here.1), omega (arith, h.1, here.1))
key-within b key low high (Branch m k v l r) h (inr (inl below)) =
    let s : (low ≤ key) × (key < k) = key-within b key low k l h.2 below in (s.0, omega (arith, s.1, h.1))
key-within b key low high (Branch m k v l r) h (inr (inr below)) =
    let s : (k + 1 ≤ key) × (key < high) = key-within b key (k + 1) high r h.3 below in (omega (arith, s.0, h.0), s.1)

key-below : (b key bound : ℕ) (t : NamedTree) → AllBelow bound t → HasKey b key t → key < bound
key-below b key bound Null all is = absurd is
key-below b key bound (Branch m k v l r) all (inl here) = omega (arith, all.0, here.1)
key-below b key bound (Branch m k v l r) all (inr (inl below)) = key-below b key bound l all.1 below
key-below b key bound (Branch m k v l r) all (inr (inr below)) = key-below b key bound r all.2 below

key-above : (b key bound : ℕ) (t : NamedTree) → AllAbove bound t → HasKey b key t → bound < key
key-above b key bound Null all is = absurd is
key-above b key bound (Branch m k v l r) all (inl here) = omega (arith, all.0, here.1)
key-above b key bound (Branch m k v l r) all (inr (inl below)) = key-above b key bound l all.1 below
key-above b key bound (Branch m k v l r) all (inr (inr below)) = key-above b key bound r all.2 below

module _ (u : Undone) (b key : ℕ) (there : ¬ IsOut u b) where
  -- a node of the plain tree that is in the tree at the stamp has its place there
  key-now : (p : ℕ) (d : Side) (plain now : NamedTree) → Matches u p d plain now → HasKey b key plain → HasKey b key now
  key-now p d Null now h is = absurd is
  key-now p d (Branch c k v l r) Null (Same h) is = absurd h
  key-now p d (Branch c k v l r) Null (Replaced o h) is = absurd h
  key-now p d (Branch c k v l r) Null (Copied o h) is = absurd h
  key-now p d (Branch c k v l r) (Branch m k' v' l' r') (Same h) (inl here) = inl (here.0 ∙ sym h.0, here.1 ∙ sym h.1)
  key-now p d (Branch c k v l r) (Branch m k' v' l' r') (Same h) (inr (inl below)) = inr (inl (key-now c Left l l' h.2 below))
  key-now p d (Branch c k v l r) (Branch m k' v' l' r') (Same h) (inr (inr below)) = inr (inr (key-now c Right r r' h.3 below))
  key-now p d (Branch c k v l r) (Branch m k' v' l' r') (Replaced o h) (inl here) = absurd (there (subst (IsOut u) (sym here.0) o))
  key-now p d (Branch c k v l r) (Branch m k' v' l' r') (Copied o h) (inl here) = absurd (there (subst (IsOut u) (sym here.0) o))
  key-now p d (Branch c k v l r) now (LiftedRight o h) (inl here) = absurd (there (subst (IsOut u) (sym here.0) o))
  key-now p d (Branch c k v l r) now (LiftedLeft o h) (inl here) = absurd (there (subst (IsOut u) (sym here.0) o))
  key-now p d (Branch c k v l r) (Branch m k' v' l' r') (Replaced o h) (inr (inl below)) = inr (inl (key-now m Left l l' h.2 below))
  key-now p d (Branch c k v l r) (Branch m k' v' l' r') (Replaced o h) (inr (inr below)) = inr (inr (key-now m Right r r' h.3 below))
  key-now p d (Branch c k v l r) (Branch m k' v' l' r') (Copied o h) (inr (inl below)) = inr (inl (key-now m Left l l' h.4 below))
  key-now p d (Branch c k v l r) (Branch m k' v' l' r') (Copied o h) (inr (inr below)) = inr (inr (key-now m Right r r' h.5 below))
  key-now p d (Branch c k v l r) now (LiftedRight o h) (inr (inl below)) = absurd (null-key b key l h.1 below)
  key-now p d (Branch c k v l r) now (LiftedRight o h) (inr (inr below)) = key-now p d r now h.4 below
  key-now p d (Branch c k v l r) now (LiftedLeft o h) (inr (inl below)) = key-now p d l now h.3 below
  key-now p d (Branch c k v l r) now (LiftedLeft o h) (inr (inr below)) = absurd (null-key b key r h.0 below)

  module _ (t turn : ℕ) where
    at-turn : (low high p c k v : ℕ) (d side : Side) (l r now : NamedTree) → Matches u p d (Branch c k v l r) now → IsWithin low high now
        → HasKey b key (child_of side l r) → IsBeyond side k key
    at-turn low high p c k v d side l r Null (Same h) within is = absurd h
    at-turn low high p c k v d side l r Null (Replaced o h) within is = absurd h
    at-turn low high p c k v d side l r Null (Copied o h) within is = absurd h
    at-turn low high p c k v d Left l r (Branch m k' v' l' r') (Same h) within is =
        omega (arith, (key-within b key low k' l' within.2 (key-now c Left l l' h.2 is)).1, h.1)
    at-turn low high p c k v d Right l r (Branch m k' v' l' r') (Same h) within is =
        omega (arith, (key-within b key (k' + 1) high r' within.3 (key-now c Right r r' h.3 is)).0, h.1)
    at-turn low high p c k v d Left l r (Branch m k' v' l' r') (Replaced o h) within is =
        omega (arith, (key-within b key low k' l' within.2 (key-now m Left l l' h.2 is)).1, h.0)
    at-turn low high p c k v d Right l r (Branch m k' v' l' r') (Replaced o h) within is =
        omega (arith, (key-within b key (k' + 1) high r' within.3 (key-now m Right r r' h.3 is)).0, h.0)
    at-turn low high p c k v d Left l r (Branch m k' v' l' r') (Copied o h) within is = key-below b key k l' h.2 (key-now m Left l l' h.4 is)
    at-turn low high p c k v d Right l r (Branch m k' v' l' r') (Copied o h) within is =
        omega (arith, (key-within b key (k' + 1) high r' within.3 (key-now m Right r r' h.5 is)).0, h.0)
    at-turn low high p c k v d Left l r now (LiftedRight o h) within is = absurd (null-key b key l h.1 is)
    at-turn low high p c k v d Right l r now (LiftedRight o h) within is = key-above b key k now h.2 (key-now p d r now h.4 is)
    at-turn low high p c k v d Left l r now (LiftedLeft o h) within is = key-below b key k now h.1 (key-now p d l now h.3 is)
    at-turn low high p c k v d Right l r now (LiftedLeft o h) within is = absurd (null-key b key r h.0 is)

    pub beyond : (low high p : ℕ) (d side : Side) (plain now : NamedTree) → Matches u p d plain now → IsWithin low high now
        → IsBelow t turn side b key plain → IsBeyond side turn key
    beyond low high p d side Null now h within is = absurd is
    beyond low high p d side (Branch c k v l r) now h within (inl here) =
        subst (λ z. IsBeyond side z key) (sym here.1) (at-turn low high p c k v d side l r now h within here.2)
    beyond low high p d side (Branch c k v l r) Null (Same h) within (inr is) = absurd h
    beyond low high p d side (Branch c k v l r) Null (Replaced o h) within (inr is) = absurd h
    beyond low high p d side (Branch c k v l r) Null (Copied o h) within (inr is) = absurd h
    beyond low high p d side (Branch c k v l r) (Branch m k' v' l' r') (Same h) within (inr (inl is)) = beyond low k' c Left side l l' h.2 within.2 is
    beyond low high p d side (Branch c k v l r) (Branch m k' v' l' r') (Same h) within (inr (inr is)) = beyond (k' + 1) high c Right side r r' h.3 within.3 is
    beyond low high p d side (Branch c k v l r) (Branch m k' v' l' r') (Replaced o h) within (inr (inl is)) = beyond low k' m Left side l l' h.2 within.2 is
    beyond low high p d side (Branch c k v l r) (Branch m k' v' l' r') (Replaced o h) within (inr (inr is)) = beyond (k' + 1) high m Right side r r' h.3 within.3 is
    beyond low high p d side (Branch c k v l r) (Branch m k' v' l' r') (Copied o h) within (inr (inl is)) = beyond low k' m Left side l l' h.4 within.2 is
    beyond low high p d side (Branch c k v l r) (Branch m k' v' l' r') (Copied o h) within (inr (inr is)) = beyond (k' + 1) high m Right side r r' h.5 within.3 is
    beyond low high p d side (Branch c k v l r) now (LiftedRight o h) within (inr (inl is)) = absurd (null-below l h.1 is)
      where
        null-below : (u : NamedTree) → IsNull u → IsBelow t turn side b key u → ⊥
        null-below Null n e = e
        null-below (Branch _ _ _ _ _) n e = n
    beyond low high p d side (Branch c k v l r) now (LiftedRight o h) within (inr (inr is)) = beyond low high p d side r now h.4 within is
    beyond low high p d side (Branch c k v l r) now (LiftedLeft o h) within (inr (inl is)) = beyond low high p d side l now h.3 within is
    beyond low high p d side (Branch c k v l r) now (LiftedLeft o h) within (inr (inr is)) = absurd (null-below r h.0 is)
      where
        null-below : (u : NamedTree) → IsNull u → IsBelow t turn side b key u → ⊥
        null-below Null n e = e
        null-below (Branch _ _ _ _ _) n e = n

pub turn_law : TurnLaw
turn_law u p t turn b key low high d side plain now matches within there is =
    beyond u b key there t turn low high p d side plain now matches within is

-- How a search turns, and what still leads below a turn after a store.
module _ (g : Graph) where
  abbrev next : Side → ℕ → ℕ
  next side k = g.child side k

  -- the trees at the links of a node of a spelled tree
  side_spelled : (side : Side) (s : ℕ) (l r : NamedTree) → IsSpelled g (g.child Left s) l → IsSpelled g (g.child Right s) r → IsSpelled g (g.child side s) (child_of side l r)
  side_spelled Left s l r left right = left
  side_spelled Right s l r left right = right

  top_key : (c : ℕ) (t : NamedTree) → IsSpelled g c t → 0 < c → HasKey c (g.key c) t
  top_key c Null is some = absurd (omega (arith, is, some))
  top_key c (Branch s key val l r) is some = inl (is.0, ap g.key is.0 ∙ is.2)

  side_key : (side : Side) (b key s k v : ℕ) (l r : NamedTree) → HasKey b key (child_of side l r) → HasKey b key (Branch s k v l r)
  side_key Left b key s k v l r here = inr (inl here)
  side_key Right b key s k v l r here = inr (inr here)

  -- a child of a node of the tree is one of it
  child_key : (side : Side) (k key c : ℕ) (t : NamedTree) → IsSpelled g c t → HasKey k key t → 0 < next side k → HasKey (next side k) (g.key (next side k)) t
  child_key side k key c Null is here some = absurd here
  child_key side k key c (Branch s k' v l r) is (inl here) some =
      side_key side (next side k) (g.key (next side k)) s k' v l r
      (subst (λ n. HasKey (next side n) (g.key (next side n)) (child_of side l r)) (sym here.0)
      (top_key (next side s) (child_of side l r) (side_spelled side s l r is.4 is.5) (subst (λ n. 0 < next side n) here.0 some)))
  child_key side k key c (Branch s k' v l r) is (inr (inl here)) some = inr (inl (child_key side k key (g.child Left s) l is.4 here some))
  child_key side k key c (Branch s k' v l r) is (inr (inr here)) some = inr (inr (child_key side k key (g.child Right s) r is.5 here some))

  -- and below what the node is below
  child_below : (side : Side) (turn turn_key : ℕ) (at : Side) (k key c : ℕ) (t : NamedTree) → IsSpelled g c t → IsBelow turn turn_key at k key t → 0 < next side k
      → IsBelow turn turn_key at (next side k) (g.key (next side k)) t
  child_below side turn turn_key at k key c Null is here some = absurd here
  child_below side turn turn_key at k key c (Branch s k' v l r) is (inl here) some =
      inl (here.0, here.1, child_key side k key (next at s) (child_of at l r) (side_spelled at s l r is.4 is.5) here.2 some)
  child_below side turn turn_key at k key c (Branch s k' v l r) is (inr (inl here)) some =
      inr (inl (child_below side turn turn_key at k key (g.child Left s) l is.4 here some))
  child_below side turn turn_key at k key c (Branch s k' v l r) is (inr (inr here)) some =
      inr (inr (child_below side turn turn_key at k key (g.child Right s) r is.5 here some))

  -- a child is below its own node
  own_below : (side : Side) (k c : ℕ) (t : NamedTree) → IsSpelled g c t → 0 < occurs k t → 0 < next side k → IsBelow k (g.key k) side (next side k) (g.key (next side k)) t
  own_below side k c Null is here some = absurd (omega (arith, here))
  own_below side k c (Branch s key v l r) is here some = elim (top-or-below k s key v l r here) as (λ _. IsBelow k (g.key k) side (next side k) (g.key (next side k)) (Branch s key v l r)) [
    | inl same ↦ inl (
      same,
      ap g.key same ∙ is.2,
      subst (λ n. HasKey (next side n) (g.key (next side n)) (child_of side l r)) (sym same)
          (top_key (next side s) (child_of side l r) (side_spelled side s l r is.4 is.5) (subst (λ n. 0 < next side n) same some)),
    )
    | inr (inl left) ↦ inr (inl (own_below side k (g.child Left s) l is.4 left some))
    | inr (inr right) ↦ inr (inr (own_below side k (g.child Right s) r is.5 right some))
  ]

-- a path begins at a node if it ends at one, and ends where it begins if that is in the tree
path_some : (g : Graph) (plain : NamedTree) (nodes : List ℕ) (from to : ℕ) → IsPath g plain nodes from to → 0 < to → 0 < from
path_some g plain [] from to way some = omega (arith, way, some)
path_some g plain (n ∷ ns) from to way some = omega (arith, way.0, way.1)

path_ends : (g : Graph) (plain : NamedTree) (nodes : List ℕ) (from to : ℕ) → IsPath g plain nodes from to → 0 < occurs from plain → from ≡ to
path_ends g plain [] from to way here = way
path_ends g plain (n ∷ ns) from to way here = absurd (omega (arith, here, way.2, ap (λ m. occurs m plain) way.0))

one_step : (g : Graph) (side : Side) (k : ℕ) → 0 < k → IsReached g k (g.child side k)
one_step g Left k some = (k ∷ [], (refl, some, inl refl))
one_step g Right k some = (k ∷ [], (refl, some, inr refl))

path_on : (g : Graph) (plain : NamedTree) (side : Side) (k : ℕ) (nodes : List ℕ) (to : ℕ) → 0 < k → occurs k plain ≡ 0 → IsPath g plain nodes (g.child side k) to → IsPath g plain (k ∷ nodes) k to
path_on g plain Left k nodes to some out way = (refl, some, out, inl way)
path_on g plain Right k nodes to some out way = (refl, some, out, inr way)

module _ (g : Graph) (plain : NamedTree) (spelled : IsSpelled g (g.child Right 0) plain) where
  child_in : (side : Side) (k : ℕ) → 0 < k → 0 < occurs k plain → 0 < g.child side k → 0 < occurs (g.child side k) plain
  child_in side k some here child = reached_in g plain k (g.child side k) spelled here child (one_step g side k some)

  turned_here : (node : ℕ) (side : Side) → 0 < node → 0 < g.child side node → LeadsBelow g plain node (g.key node) side (g.child side node)
  turned_here node side some child turn nodes to way here =
      subst (λ n. IsBelow node (g.key node) side n (g.key n) plain) (path_ends g plain nodes (g.child side node) to way (child_in side node some turn child))
      (own_below g side node (g.child Right 0) plain spelled turn child)

  turned_on : (turn turn_key node : ℕ) (side to : Side) → 0 < node → 0 < g.child to node → LeadsBelow g plain turn turn_key side node → LeadsBelow g plain turn turn_key side (g.child to node)
  turned_on turn turn_key node side to some child leads in_tree nodes end way here =
      elim (cases_lt 0 (occurs node plain)) as (λ _. IsBelow turn turn_key side end (g.key end) plain) [
        | inl inside ↦
            subst (λ n. IsBelow turn turn_key side n (g.key n) plain) (path_ends g plain nodes (g.child to node) end way (child_in to node some inside child))
            (child_below g to turn turn_key side node (g.key node) (g.child Right 0) plain spelled (leads in_tree [] node refl inside) child)
        | inr out ↦ leads in_tree (node ∷ nodes) end (path_on g plain to node nodes end some (omega (arith, out)) way) here
      ]

-- links that stay at a store: a path outside of the tree after it
module _ (g g' : Graph) (plain plain' : NamedTree) (spelled : IsSpelled g (g.child Right 0) plain)
    (links : (m : ℕ) → 0 < m → occurs m plain' ≡ 0 → (side : Side) → g'.child side m ≡ g.child side m) (turn turn_key : ℕ) (at : Side) where
  abbrev Below : ℕ → Type 0
  Below k = IsBelow turn turn_key at k (g.key k) plain

  abbrev Leads : ℕ → Type 0
  Leads from = (nodes : List ℕ) (to : ℕ) → IsPath g plain nodes from to → 0 < occurs to plain → Below to

  -- it reaches its end by the links before
  path_reaches : (nodes : List ℕ) (from to : ℕ) → IsPath g' plain' nodes from to → LeadTo g nodes from to
  path_reaches [] from to way = way
  path_reaches (n ∷ ns) from to (e, some, out, inl way) =
      (e, some, inl (subst (λ c. LeadTo g ns c to) (links n some out Left) (path_reaches ns (g'.child Left n) to way)))
  path_reaches (n ∷ ns) from to (e, some, out, inr way) =
      (e, some, inr (subst (λ c. LeadTo g ns c to) (links n some out Right) (path_reaches ns (g'.child Right n) to way)))

  -- from a node below the turn it leads on to such nodes
  step_below : (side : Side) (n : ℕ) (ns : List ℕ) (to : ℕ) → 0 < n → occurs n plain' ≡ 0 → 0 < to → IsPath g' plain' ns (g'.child side n) to → Below n → Below (g'.child side n)
  step_below side n ns to some out end way below =
      subst Below (sym (links n some out side))
      (child_below g side turn turn_key at n (g.key n) (g.child Right 0) plain spelled below (subst (λ c. 0 < c) (links n some out side) (path_some g' plain' ns (g'.child side n) to way end)))

  walk_in : (nodes : List ℕ) (from to : ℕ) → 0 < to → IsPath g' plain' nodes from to → Below from → Below to
  walk_in [] from to end way below = subst Below way below
  walk_in (n ∷ ns) from to end (e, some, out, inl way) below = walk_in ns (g'.child Left n) to end way (step_below Left n ns to some out end way (subst Below e below))
  walk_in (n ∷ ns) from to end (e, some, out, inr way) below = walk_in ns (g'.child Right n) to end way (step_below Right n ns to some out end way (subst Below e below))

  leads_on : (side : Side) (n : ℕ) → 0 < n → occurs n plain' ≡ 0 → occurs n plain ≡ 0 → Leads n → Leads (g'.child side n)
  leads_on side n some out' out leads nodes to way here =
      leads (n ∷ nodes) to (path_on g plain side n nodes to some out (subst (λ c. IsPath g plain nodes c to) (links n some out' side) way)) here

  -- from a node that is out of the tree before it, until it reaches that tree
  walk_out : (nodes : List ℕ) (from to : ℕ) → 0 < to → 0 < occurs to plain → IsPath g' plain' nodes from to → Leads from → Below to
  walk_out [] from to end here way leads = leads [] to way here
  walk_out (n ∷ ns) from to end here (e, some, out, way) leads = elim (cases_lt 0 (occurs n plain)) as (λ _. Below to) [
    | inl inside ↦ walk_in (n ∷ ns) from to end (e, some, out, way) (subst Below (sym e) (leads [] n e inside))
    | inr before ↦ elim way as (λ _. Below to) [
      | inl left ↦ walk_out ns (g'.child Left n) to end here left (leads_on Left n some out (omega (arith, before)) (subst Leads e leads))
      | inr right ↦ walk_out ns (g'.child Right n) to end here right (leads_on Right n some out (omega (arith, before)) (subst Leads e leads))
    ]
  ]

pub turns_here : TurnsHereLaw
turns_here g plain node side spelled some child = turned_here g plain spelled node side some child

pub turn_stays : TurnStaysLaw
turn_stays g plain turn turn_key node side to spelled some child leads = turned_on g plain spelled turn turn_key node side to some child leads

-- in each form of a store
pub store_turned : (g g' : Graph) (there bypassed : ℕ → Type 0) (n s from until turn turn_key node : ℕ) (side : Side) (plain plain' : NamedTree)
    → IsSpelled g (g.child Right 0) plain → ((m : ℕ) → g'.key m ≡ g.key m)
    → ((m : ℕ) → 0 < m → occurs m plain' ≡ 0 → (top : Side) → g'.child top m ≡ g.child top m)
    → IsStore there bypassed n s from until plain plain' → occurs n plain' ≡ 0 → (0 < occurs turn plain' → 0 < occurs turn plain)
    → ((m : ℕ) → 0 < occurs m plain' → IsReached g node m → 0 < occurs m plain)
    → LeadsBelow g plain turn turn_key side node → LeadsBelow g' plain' turn turn_key side node
store_turned g g' there bypassed n s from until turn turn_key node side plain plain' spelled keys links store gone turns reaches leads in_tree nodes to way here =
    let reached : LeadTo g nodes node to = path_reaches g g' plain plain' spelled links turn turn_key side nodes node to way in
    let before : 0 < occurs to plain = reaches to here (nodes, reached) in
    let below : IsBelow turn turn_key side to (g.key to) plain
    = walk_out g g' plain plain' spelled links turn turn_key side nodes node to (spelled-some g to (g.child Right 0) plain spelled before) before way (leads (turns in_tree)) in
    elim (below_store there bypassed n s from until turn turn_key to (g.key to) side plain plain' store gone below) as (λ _. IsBelow turn turn_key side to (g'.key to) plain') [
      | inl still ↦ subst (λ k. IsBelow turn turn_key side to k plain') (sym (keys to)) still
      | inr (inl out) ↦ absurd (omega (arith, in_tree, out))
      | inr (inr out) ↦ absurd (omega (arith, here, out))
    ]

pub store_turn : StoreTurnLaw
store_turn g g' there u n s from until turn turn_key node side plain plain' spelled keys links store gone turns reaches leads =
    store_turned g g' (IsTest there) (IsBypassed u) n s from until turn turn_key node side plain plain' spelled keys links store gone turns reaches leads
