-- The end of an update: its view has no plain link to set any more, and forgets what it has taken out. None of that is
-- in the plain tree, so the tree matches the tree at the stamp still, and searches claim and reach what they did.
use Rattle.std.proofs.Common.{◌≡◌, ℕ, ◌<◌, ◌≤◌, ◌⊎◌, List, [], ◌∷◌, Bool, true, eqb, not, set, arith, refl, ap, ◌∙◌, sym, subst, inl, inr, Option, Some, None, IfSome}
use Rattle.std.specs.List.{All, list_any}
use Rattle.std.proofs.lemmas.Bool.{and_parts, eqb-true}
use Rattle.std.proofs.lemmas.Bool.Decides.{eqb_tells}
use Rattle.index_words.specs.declared.layout.Layout.{Layout}
use Rattle.index_words.specs.declared.side.Side.{Side}
use Rattle.index_words.specs.declared.side.Side.TheVariants.{Left, Right}
use Rattle.index_words.specs.declared.view.View.{View}
use Rattle.index_words.specs.declared.view.update.Unlinking.{Unlinking}
use Rattle.index_words.specs.declared.view.update.UnsetLink.{UnsetLink}
use Rattle.index_words.specs.declared.view.update.Updating.{Updating}
use Rattle.index_words.specs.Views.{no_update}
use Rattle.index_words.specs.Words.{Memory}
use Rattle.index_words.proofs.Seats.{Beside, one_term, two_terms, at_item, all_moved}
use Rattle.key_map.specs.Lists.{count, has, Every, IsItem}
use Rattle.key_map.proofs.Counting.{has-count}
use Rattle.core_grace.specs.Slots.{own, nodes_of}
use Rattle.core_trees.specs.Gaps.{IsNull}
use Rattle.core_trees.specs.NamedTree.{NamedTree, Null, Branch}
use Rattle.core_trees.specs.Slots.{occurs, one_at}
use Rattle.core_trees.specs.SpelledTree.{Graph}
use Rattle.core_trees.proofs.Slots.{one_at-same}
use Rattle.core_events.specs.Searches.{turn_key}
use Rattle.core_events.proofs.Tests.{never, either_true}
use Rattle.core_invariant.specs.Locks.{lock_count}
use Rattle.core_invariant.specs.Meanings.{Meaning}
use Rattle.core_invariant.specs.PlainRule.{PlainRight}
use Rattle.core_invariant.specs.PlainTree.{is_item, is_copied, passes_over, sets_link, bypasses, copies, undone, ItemRight, AreApart, SeatInTree, IsPlainTree}
use Rattle.core_invariant.specs.Reached.{plain_graph, has_let, HoldsPlain, ReachRight}
use Rattle.core_invariant.specs.Rule.{Rule}
use Rattle.core_invariant.specs.SearchRule.{unlinks, waits_for, waits, ClaimsAt, SearchRight}
use Rattle.core_invariant.proofs.Frames.{same_item}
use Rattle.core_invariant.proofs.OneView.{seat_at}
use Rattle.core_invariant.proofs.Owned.{once_node}
use Rattle.core_invariant.proofs.TreeNow.{count_slots}
use Rattle.core_kept.specs.SearchLaws.{SearchesAfter}
use Rattle.core_kept.proofs.LinkItems.{SetBy, by_item, by_copy, set_by}
use Rattle.core_kept.proofs.PlainNodes.{plain_clear}
use Rattle.core_kept.proofs.ReachMoves.{reach_moved}
use Rattle.core_kept.proofs.SearchMoves.{place_wider, links_wider}
use Rattle.core_kept.proofs.SearchNowhere.{StandsNowhere, root_reach, root_search}
use Rattle.core_kept.proofs.SetClaims.{from-there}
use Rattle.core_invariant.proofs.Undone.{any_moved, bypasses_is, copies_is, passes_is, one_taker, taken_out, tree_stays, in_one, in_pair_second}
use Rattle.plain_trees.specs.Claims.{IsWaiting, IsExcepted, Claims}
use Rattle.plain_trees.specs.Matching.{Undone, IsUnset, IsOut, IsBypassed, IsHeir, HasWayAhead, Same, Replaced, Copied, LiftedRight, LiftedLeft, Matches}
use Rattle.plain_trees.specs.Points.{Meets}
use Rattle.plain_trees.proofs.Matched.{top-or-below, spelled-some}
use Rattle.plain_trees.proofs.Points.{leads-keep, from-keep}

-- the link to the node is still to be set
pub record IsLeft (u : Undone) (x : ℕ) : Type 0 where
  pub parent : ℕ
  pub side : Side
  pub child : ℕ
  pub unset : IsUnset u parent side x child

none_null : (x : ℕ) (t : NamedTree) → IsNull t → 0 < occurs x t → ⊥
none_null x Null null here = omega (arith, here)
none_null x (Branch s k v l r) null here = null

-- a node of the plain tree is one of the tree at the stamp, or the link to it is still to be set
abbrev NowOrLeft : Undone → ℕ → NamedTree → Type 0
NowOrLeft u x now = (0 < occurs x now) ⊎ IsLeft u x

below_or_left : (u : Undone) (x m k v : ℕ) (l l' r r' : NamedTree) → (0 < occurs x l → NowOrLeft u x l') → (0 < occurs x r → NowOrLeft u x r')
    → (0 < occurs x l) ⊎ (0 < occurs x r)
    → NowOrLeft u x (Branch m k v l' r')
below_or_left u x m k v l l' r r' left right (inl here) = elim (left here) as (λ _. NowOrLeft u x (Branch m k v l' r')) [
  | inl there ↦ inl (omega (arith, there))
  | inr is ↦ inr is
]
below_or_left u x m k v l l' r r' left right (inr here) = elim (right here) as (λ _. NowOrLeft u x (Branch m k v l' r')) [
  | inl there ↦ inl (omega (arith, there))
  | inr is ↦ inr is
]

left_at : (u : Undone) (x c p m : ℕ) (d : Side) → x ≡ c → IsUnset u p d c m → IsLeft u x
left_at u x c p m d is unset = record { parent = p; side = d; child = m; unset = subst (λ y. IsUnset u p d y m) (sym is) unset }

now_or_left : (u : Undone) (x p : ℕ) (d : Side) (plain now : NamedTree) → Matches u p d plain now → 0 < occurs x plain → NowOrLeft u x now
now_or_left u x p d Null now h i = absurd (omega (arith, i))
now_or_left u x p d (Branch c k v l r) Null (Same e) i = absurd e
now_or_left u x p d (Branch c k v l r) Null (Replaced o e) i = absurd e
now_or_left u x p d (Branch c k v l r) Null (Copied o e) i = absurd e
now_or_left u x p d (Branch c k v l r) (Branch m k' v' l' r') (Same e) i =
    elim (top-or-below x c k v l r i) as (λ _. NowOrLeft u x (Branch m k' v' l' r')) [
      | inl is ↦ inl (omega (arith, subst (λ z. one_at z m ≡ 1) (e.0 ∙ sym is) (one_at-same m)))
      | inr below ↦ below_or_left u x m k' v' l l' r r' (λ j. now_or_left u x c Left l l' e.2 j) (λ j. now_or_left u x c Right r r' e.3 j) below
    ]
now_or_left u x p d (Branch c k v l r) (Branch m k' v' l' r') (Replaced o e) i =
    elim (top-or-below x c k v l r i) as (λ _. NowOrLeft u x (Branch m k' v' l' r')) [
      | inl is ↦ inr (left_at u x c p m d is e.1)
      | inr below ↦ below_or_left u x m k' v' l l' r r' (λ j. now_or_left u x m Left l l' e.2 j) (λ j. now_or_left u x m Right r r' e.3 j) below
    ]
now_or_left u x p d (Branch c k v l r) (Branch m k' v' l' r') (Copied o e) i =
    elim (top-or-below x c k v l r i) as (λ _. NowOrLeft u x (Branch m k' v' l' r')) [
      | inl is ↦ inr (left_at u x c p m d is e.1)
      | inr below ↦ below_or_left u x m k' v' l l' r r' (λ j. now_or_left u x m Left l l' e.4 j) (λ j. now_or_left u x m Right r r' e.5 j) below
    ]
now_or_left u x p d (Branch c k v l r) now (LiftedRight o e) i =
    elim (top-or-below x c k v l r i) as (λ _. NowOrLeft u x now) [
      | inl is ↦ inr (left_at u x c p e.3.0 d is e.3.1)
      | inr (inl left) ↦ absurd (none_null x l e.1 left)
      | inr (inr right) ↦ now_or_left u x p d r now e.4 right
    ]
now_or_left u x p d (Branch c k v l r) now (LiftedLeft o e) i =
    elim (top-or-below x c k v l r i) as (λ _. NowOrLeft u x now) [
      | inl is ↦ inr (left_at u x c p e.2.0 d is e.2.1)
      | inr (inl left) ↦ now_or_left u x p d l now e.3 left
      | inr (inr right) ↦ absurd (none_null x r e.0 right)
    ]

-- the second has still to do all that the first has at these nodes
pub record KeepsAt (u u' : Undone) (here : ℕ → Type 0) : Type 0 where
  pub links : (parent : ℕ) (side : Side) (was child : ℕ) → IsUnset u parent side was child → IsUnset u' parent side was child
  pub outs : (k : ℕ) → here k → IsOut u k → IsOut u' k
  pub passes : (k : ℕ) → here k → IsBypassed u k → IsBypassed u' k
  pub heirs : (removed successor : ℕ) → here removed → IsHeir u removed successor → IsHeir u' removed successor

module _ (u u' : Undone) (here : ℕ → Type 0) (keeps : KeepsAt u u' here) where
  abbrev AllHere : NamedTree → Type 0
  AllHere t = (k : ℕ) → 0 < occurs k t → here k

  top_here : (c k v : ℕ) (l r : NamedTree) → AllHere (Branch c k v l r) → here c
  top_here c k v l r all = all c (omega (arith, one_at-same c))

  left_here : (c k v : ℕ) (l r : NamedTree) → AllHere (Branch c k v l r) → AllHere l
  left_here c k v l r all x is = all x (omega (arith, is))

  right_here : (c k v : ℕ) (l r : NamedTree) → AllHere (Branch c k v l r) → AllHere r
  right_here c k v l r all x is = all x (omega (arith, is))

  ahead_still : (removed from until : ℕ) (t : NamedTree) → here removed → AllHere t → HasWayAhead u removed from until t → HasWayAhead u' removed from until t
  ahead_still removed from until t top all h =
      (h.0, keeps.heirs removed h.0 top h.1, λ x a b. leads-keep (IsBypassed u) (IsBypassed u') x h.0 t (λ y is. keeps.passes y (all y is)) (h.2 x a b))

  -- the plain tree of these nodes matches still
  still_at : (p : ℕ) (d : Side) (plain now : NamedTree) → AllHere plain → Matches u p d plain now → Matches u' p d plain now
  still_at p d Null Null all h = inl tt
  still_at p d Null (Branch m k v l r) all (inl h) = absurd h
  still_at p d Null (Branch m k v l r) all (inr h) = inr (h.0, h.1, keeps.links p d 0 m h.2)
  still_at p d (Branch c k v l r) Null all (Same h) = absurd h
  still_at p d (Branch c k v l r) Null all (Replaced o h) = absurd h
  still_at p d (Branch c k v l r) Null all (Copied o h) = absurd h
  still_at p d (Branch c k v l r) Null all (LiftedRight o h) =
      let c_here = top_here c k v l r all in
      LiftedRight (keeps.outs c c_here o) (
        keeps.passes c c_here h.0,
        h.1,
        h.2,
        (h.3.0, keeps.links p d c h.3.0 h.3.1),
        still_at p d r Null (right_here c k v l r all) h.4,
      )
  still_at p d (Branch c k v l r) Null all (LiftedLeft o h) =
      LiftedLeft (keeps.outs c (top_here c k v l r all) o) (h.0, h.1, (h.2.0, keeps.links p d c h.2.0 h.2.1), still_at p d l Null (left_here c k v l r all) h.3)
  still_at p d (Branch c k v l r) (Branch m k' v' l' r') all (Same h) =
      Same (h.0, h.1, still_at c Left l l' (left_here c k v l r all) h.2, still_at c Right r r' (right_here c k v l r all) h.3)
  still_at p d (Branch c k v l r) (Branch m k' v' l' r') all (Replaced o h) =
      Replaced (keeps.outs c (top_here c k v l r all) o)
      (h.0, keeps.links p d c m h.1, still_at m Left l l' (left_here c k v l r all) h.2, still_at m Right r r' (right_here c k v l r all) h.3)
  still_at p d (Branch c k v l r) (Branch m k' v' l' r') all (Copied o h) =
      Copied (keeps.outs c (top_here c k v l r all) o) (
        h.0,
        keeps.links p d c m h.1,
        h.2,
        ahead_still c k k' r (top_here c k v l r all) (right_here c k v l r all) h.3,
        still_at m Left l l' (left_here c k v l r all) h.4,
        still_at m Right r r' (right_here c k v l r all) h.5,
      )
  still_at p d (Branch c k v l r) (Branch m k' v' l' r') all (LiftedRight o h) =
      let c_here = top_here c k v l r all in
      LiftedRight (keeps.outs c c_here o)
      (keeps.passes c c_here h.0, h.1, h.2, (h.3.0, keeps.links p d c h.3.0 h.3.1), still_at p d r (Branch m k' v' l' r') (right_here c k v l r all) h.4)
  still_at p d (Branch c k v l r) (Branch m k' v' l' r') all (LiftedLeft o h) =
      LiftedLeft (keeps.outs c (top_here c k v l r all) o)
      (h.0, h.1, (h.2.0, keeps.links p d c h.2.0 h.2.1), still_at p d l (Branch m k' v' l' r') (left_here c k v l r all) h.3)

-- what is claimed stays, where what is bypassed or waited for in the plain tree stays
claims_at : (g : Graph) (b b' : ℕ → Type 0) (w w' : ℕ → ℕ → Type 0) (plain : NamedTree) (x a : ℕ) → ((k : ℕ) → 0 < occurs k plain → b k → b' k)
    → ((n s : ℕ) → 0 < occurs s plain → w n s → w' n s)
    → Claims g b w plain x a → Claims g b' w' plain x a
claims_at g b b' w w' plain x a more waiting claims nodes c way here = elim (claims nodes c way here) as (λ _. Meets x c plain ⊎ IsExcepted g b' w' plain x c) [
  | inl met ↦ inl met
  | inr e ↦ inr (record {
    removed = e.removed;
    successor = e.successor;
    waiting = waiting e.removed e.successor (from-there b x e.successor c plain e.leads) e.waiting;
    above = e.above;
    leads = from-keep b b' x e.successor c plain more e.leads;
  })
]

module _ (z : Layout) (m : Memory) (vs : List View) (g : Meaning) (rule : Rule z m vs g) (plain : PlainRight m vs g) (W : NamedTree)
    (trees : IsPlainTree (plain_graph m) vs g.tree W)
    (searches : All (SearchRight (plain_graph m) vs g.tree W) vs) (reach : ReachRight z (plain_graph m) vs) (i : ℕ) (v : View) (at : IsItem vs i v)
    (ended : v.update.unset ≡ []) where
  abbrev gr : Graph
  gr = plain_graph m

  abbrev u0 : Undone
  u0 = undone gr vs

  -- what the update took out no other one took out that has a link to set
  not_mine : (j k : ℕ) (t : View) (test : UnsetLink → Bool) → IsItem vs j t → 0 < count k v.update.taken → 0 < count k t.update.taken
      → list_any test t.update.unset ≡ true → ⊥
  not_mine j k t test of taken also some =
      let same : v ≡ t = same_item vs i j v t at of (one_taker z m vs g rule gr i j k v t at of taken also) in
      never (subst (λ (us : List UnsetLink). list_any test us ≡ true) ended (subst (λ (y : View). list_any test y.update.unset ≡ true) (sym same) some))

  -- so none of it is in the plain tree
  not_in : (k : ℕ) → 0 < occurs k W → 0 < count k v.update.taken → ⊥
  not_in k here taken = elim (now_or_left u0 k 0 Right W g.tree trees.matches here) as (λ _. ⊥) [
    | inl stays ↦ tree_stays z m vs g rule gr k stays (taken_out z m vs g rule gr i k v at taken)
    | inr left ↦ by left.parent left.side left.child (set_by z m vs g rule plain W trees left.parent left.side k left.child left.unset)
  ]
    where
      some : 0 < k
      some = spelled-some gr k (gr.child Right 0) W trees.spelled here

      by : (p : ℕ) (d : Side) (c : ℕ) → SetBy z m vs g rule plain W trees p d k c → ⊥
      by p d c (by_item j t of a) =
          not_mine j k t (is_item p d k c) of taken
          (elim a.right.1.goes as (λ _. 0 < count k t.update.taken) [
            | inl zero ↦ absurd (omega (arith, some, a.is.old, zero))
            | inr out ↦ subst (λ x. 0 < count x t.update.taken) a.is.old out
          ]) a.some
      by p d c (by_copy j t of f found) =
          not_mine j k t (is_copied f.removed p) of taken
          (subst (λ x. 0 < count x t.update.taken) (sym f.only)
          (subst (λ (ks : List ℕ). 0 < count f.successor ks) (sym f.out) (in_pair_second f.removed f.successor))) f.copied

  -- nor is it anything that the view has retired
  retired_none : (k : ℕ) → 0 < occurs k W → count k v.retired.nodes ≡ 0
  retired_none k here = elim (now_or_left u0 k 0 Right W g.tree trees.matches here) as (λ _. count k v.retired.nodes ≡ 0) [
    | inl stays ↦ omega (arith, once_node z vs g rule.slots k, count_slots k g.tree, stays, one_term (own nodes_of k) vs i v at)
    | inr left ↦ by left.parent left.side left.child (set_by z m vs g rule plain W trees left.parent left.side k left.child left.unset)
  ]
    where
      some : 0 < k
      some = spelled-some gr k (gr.child Right 0) W trees.spelled here

      other : (j : ℕ) (t : View) → IsItem vs j t → 0 < count k t.update.taken → count k v.retired.nodes ≡ 0
      other j t of out = elim (eqb_tells j i) as (λ _. count k v.retired.nodes ≡ 0) [
        | inl same ↦ absurd (not_in k here (subst (λ (y : View). 0 < count k y.update.taken) (sym (same_item vs i j v t at of same.1)) out))
        | inr apart ↦
            omega (
              arith,
              once_node z vs g rule.slots k,
              (seat_at z m vs g j t of rule).marks.taken k out,
              two_terms (own nodes_of k) vs i v t at (record { place = j; at = of; other = apart.1 }),
            )
      ]

      by : (p : ℕ) (d : Side) (c : ℕ) → SetBy z m vs g rule plain W trees p d k c → count k v.retired.nodes ≡ 0
      by p d c (by_item j t of a) =
          other j t of
          (elim a.right.1.goes as (λ _. 0 < count k t.update.taken) [
            | inl zero ↦ absurd (omega (arith, some, a.is.old, zero))
            | inr out ↦ subst (λ x. 0 < count x t.update.taken) a.is.old out
          ])
      by p d c (by_copy j t of f found) =
          other j t of (subst (λ x. 0 < count x t.update.taken) (sym f.only)
          (subst (λ (ks : List ℕ). 0 < count f.successor ks) (sym f.out) (in_pair_second f.removed f.successor)))

  -- the view without its update, which stands nowhere
  module _ (x : View) (stands : StandsNowhere z m vs g rule gr W trees searches reach i v at x) (none : x.update ≡ no_update) where
    abbrev ws : List View
    ws = set vs i x

    abbrev u1 : Undone
    u1 = undone gr ws

    abbrev InPlain : ℕ → Type 0
    InPlain k = 0 < occurs k W

    keeps : KeepsAt u0 u1 InPlain
    keeps = record {
      links = λ k side was child is.
          any_moved (sets_link (gr.child Right) k side was child) (sets_link (gr.child Right) k side was child) vs i v x at
          (λ mine. absurd (nothing k side was child mine)) (λ t beside its. its) is;
      outs = λ k here is.
          any_moved (λ (y : View). has k y.update.taken) (λ (y : View). has k y.update.taken) vs i v x at
          (λ mine. absurd (not_in k here (has-count k v.update.taken mine))) (λ t beside its. its) is;
      passes = λ k here is.
          any_moved (λ (y : View). bypasses y.update.taken y.update.added k) (λ (y : View). bypasses y.update.taken y.update.added k) vs i v x at
          (λ mine. absurd (not_in k here (bypassed_taken k (bypasses_is v.update.taken v.update.added k mine)))) (λ t beside its. its) is;
      heirs = λ n s here is.
          any_moved (λ (y : View). copies y.update.taken n s) (λ (y : View). copies y.update.taken n s) vs i v x at
          (λ mine. absurd (not_in n here (subst (λ (ks : List ℕ). 0 < count n ks) (sym (copies_is v.update.taken n s mine)) (in_one n (s ∷ [])))))
          (λ t beside its. its) is;
    }
      where
        nothing : (k : ℕ) (side : Side) (was child : ℕ) → sets_link (gr.child Right) k side was child v ≡ true → ⊥
        nothing k side was child is =
            elim (either_true (list_any (is_item k side was child) v.update.unset)
            (passes_over v.update.taken v.update.unlinking v.update.unset (gr.child Right) k side was child) is) as (λ _. ⊥) [
              | inl real ↦ never (subst (λ (us : List UnsetLink). list_any (is_item k side was child) us ≡ true) ended real)
              | inr over ↦
                  let p = passes_is v.update.taken v.update.unlinking v.update.unset (gr.child Right) k side was child over in
                  never (subst (λ (us : List UnsetLink). list_any (is_copied p.removed k) us ≡ true) ended p.copied)
            ]

        bypassed_taken : (k : ℕ) → ((v.update.taken ≡ k ∷ []) × (v.update.added ≡ None)) ⊎ ((n : ℕ) × (v.update.taken ≡ n ∷ k ∷ []))
            → 0 < count k v.update.taken
        bypassed_taken k (inl alone) = subst (λ (ks : List ℕ). 0 < count k ks) (sym alone.0) (in_one k [])
        bypassed_taken k (inr second) = subst (λ (ks : List ℕ). 0 < count k ks) (sym second.1) (in_pair_second second.0 k)

    -- a successor of the plain tree for which others wait is another view's
    still_waits : (t : View) (r s : ℕ) → 0 < occurs s W → waits vs t r s ≡ true → waits ws t r s ≡ true
    still_waits t r s here some =
        any_moved (waits_for t r s) (waits_for t r s) vs i v x at
        (λ is. absurd (own_none v.update.unlinking refl
        (and_parts (unlinks r s v.update.unlinking) (not (has_let v.update.waiting t.number t.section_word)) is).0)) (λ y beside is. is) some
      where
        own_none : (o : Option Unlinking) → v.update.unlinking ≡ o → unlinks r s o ≡ true → ⊥
        own_none None is unlinked = never unlinked
        own_none (Some y) is unlinked =
            let taken : v.update.taken ≡ y.replaced ∷ y.successor ∷ []
            = subst (λ (o : Option Unlinking). IfSome o (λ q. v.update.taken ≡ q.replaced ∷ q.successor ∷ [])) is
            (at_item (SeatInTree gr W g.tree) vs i v at trees.seats).far in
            not_in s here
            (subst (λ n. 0 < count n v.update.taken) (eqb-true y.successor s (and_parts (eqb y.replaced r) (eqb y.successor s) unlinked).1)
            (subst (λ (ks : List ℕ). 0 < count y.successor ks) (sym taken) (in_pair_second y.replaced y.successor)))

    other_search : (t : View) → Beside vs i t → SearchRight gr vs g.tree W t → SearchRight gr ws g.tree W t
    other_search t beside before = record {
      ahead = before.ahead;
      key = before.key;
      keys = before.keys;
      place = λ raised.
          place_wider (ClaimsAt gr vs W t) (ClaimsAt gr ws W t) (turn_key t.reading.right_turn) (turn_key t.reading.left_turn)
          t.reading.place step (before.place raised);
      links = λ raised. links_wider (ClaimsAt gr vs W t) (ClaimsAt gr ws W t) t.reading.links step (before.links raised);
    }
      where
        step : (low high : Option ℕ) (a : ℕ) → ClaimsAt gr vs W t low high a → ClaimsAt gr ws W t low high a
        step low high a claims y inside =
            claims_at gr (IsBypassed u0) (IsBypassed u1) (IsWaiting (waits vs t)) (IsWaiting (waits ws t)) W y a keeps.passes (still_waits t) (claims y inside)

    own_seat : ((k : ℕ) → lock_count k x ≤ lock_count k v) → SeatInTree gr W g.tree x
    own_seat locks = record {
      locked = λ k locked here. (at_item (SeatInTree gr W g.tree) vs i v at trees.seats).locked k (omega (arith, locked, locks k)) here;
      items = subst (λ (y : Updating). Every (ItemRight gr W y.taken y.added y.unlinking y.waiting) y.unset) (sym none) tt;
      apart = subst (λ (y : Updating). AreApart y.taken) (sym none) tt;
      first = subst (λ (y : Updating). y.raised ≡ None → y.taken ≡ []) (sym none) (λ e. refl);
      far = subst (λ (y : Updating). IfSome y.unlinking (λ o. y.taken ≡ o.replaced ∷ o.successor ∷ [])) (sym none) tt;
    }

    pub ended_after : ((k : ℕ) → lock_count k x ≤ lock_count k v) → ((k : ℕ) → count k x.free.nodes ≤ count k v.free.nodes) → x.batch ≡ v.batch
        → x.grace ≡ v.grace → x.number ≡ v.number
        → x.retired.nodes ≡ v.retired.nodes → SearchesAfter z gr ws g.tree
    ended_after locks free batch grace number retired = record {
      plain_tree = W;
      trees = record {
        spelled = trees.spelled;
        once = trees.once;
        matches = still_at u0 u1 InPlain keeps 0 Right W g.tree (λ k here. here) trees.matches;
        seats = all_moved (SeatInTree gr W g.tree) (SeatInTree gr W g.tree) vs i v x at trees.seats (own_seat locks) (λ t beside is. is);
      };
      searches =
          all_moved (SearchRight gr vs g.tree W) (SearchRight gr ws g.tree W) vs i v x at searches
          (root_search z m vs g rule gr W trees searches reach i v at ws x stands) other_search;
      reach = reach_moved z gr gr vs i v x at
          (record {
            free = free;
            batch = batch;
            grace = grace;
            number = number;
            own = λ raised k holds told. ap (count k) retired ∙ retired_none k (reaches k holds);
          })
          (record { own = λ k holds. inr (plain_clear z m vs g rule gr W trees k (reaches k holds)); others = λ t beside k holds. inl holds }) reach;
    }
      where
        reaches : (k : ℕ) → HoldsPlain gr x k → 0 < occurs k W
        reaches k holds = root_reach z m vs g rule gr W trees searches reach i v at x stands k holds
