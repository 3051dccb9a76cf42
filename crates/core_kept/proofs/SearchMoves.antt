-- The plain tree, and what searches claim, where one view moves and no plain link of a linked node does.
use Rattle.std.proofs.Common.{◌≡◌, ℕ, ◌<◌, ◌⊎◌, List, [], ◌∷◌, Bool, true, not, ◌&&◌, ◌||◌, set, ap, ◌∙◌, sym, subst, inl, inr, Option, None, IfSome}
use Rattle.std.specs.List.{All, list_any}
use Rattle.index_words.specs.declared.side.Side.{Side}
use Rattle.index_words.specs.declared.side.Side.TheVariants.{Right}
use Rattle.index_words.specs.declared.view.View.{View}
use Rattle.index_words.specs.declared.view.reading.Place.{Place}
use Rattle.index_words.specs.declared.view.reading.Place.TheVariants.{Nowhere, Node as AtNode, Gap}
use Rattle.index_words.specs.declared.view.reading.Link.{Link}
use Rattle.index_words.specs.declared.view.reading.LinkSource.{LinkSource}
use Rattle.index_words.specs.declared.view.reading.LinkSource.TheVariants.{Bundle, Plain}
use Rattle.index_words.specs.declared.view.slots.Looks.{Looks}
use Rattle.index_words.specs.declared.view.update.Unlinking.{Unlinking}
use Rattle.index_words.specs.declared.view.update.UnsetLink.{UnsetLink}
use Rattle.index_words.specs.declared.view.update.Updating.{Updating}
use Rattle.key_map.specs.Lists.{has, Every, IsItem}
use Rattle.index_words.proofs.Seats.{Beside, at_item, all_moved}
use Rattle.core_trees.specs.NamedTree.{NamedTree}
use Rattle.core_trees.specs.Slots.{occurs}
use Rattle.core_trees.specs.SpelledTree.{Graph}
use Rattle.core_events.specs.Searches.{turn_key}
use Rattle.core_invariant.specs.PlainTree.{is_item, passes_over, bypasses, copies, undone, ItemRight, AreApart, SeatInTree, IsPlainTree}
use Rattle.core_invariant.specs.Readers.{IsLocked}
use Rattle.core_invariant.specs.Reached.{HoldsPlain, has_let}
use Rattle.core_invariant.specs.SearchRule.{unlinks, waits_for, waits, ClaimsAt, PlaceClaims, SourceClaims, LinkClaims, SearchRight}
use Rattle.core_invariant.proofs.Frames.{every_map}
use Rattle.core_kept.proofs.SearchSteps.{PlaceSaid, LinksSaid}
use Rattle.core_invariant.proofs.Undone.{any_moved}
use Rattle.plain_trees.specs.Claims.{IsWaiting, IsExcepted, Claims}
use Rattle.plain_trees.specs.Matching.{IsBypassed}
use Rattle.plain_trees.specs.Points.{Meets}
use Rattle.plain_trees.specs.Raises.{Extends}
use Rattle.plain_trees.proofs.Inserts.{still}
use Rattle.plain_trees.proofs.Points.{from-keep}

-- what is claimed with less bypassed and fewer that wait is claimed with more
pub claims_wider : (g : Graph) (b b' : ℕ → Type 0) (w w' : ℕ → ℕ → Type 0) (plain : NamedTree) (x a : ℕ) → ((k : ℕ) → b k → b' k) → ((n s : ℕ) → w n s → w' n s)
    → Claims g b w plain x a → Claims g b' w' plain x a
claims_wider g b b' w w' plain x a more waits claims nodes c way here = elim (claims nodes c way here)
    as (λ _. Meets x c plain ⊎ IsExcepted g b' w' plain x c) [
      | inl met ↦ inl met
      | inr e ↦
          inr (record {
            removed = e.removed;
            successor = e.successor;
            waiting = waits e.removed e.successor e.waiting;
            above = e.above;
            leads = from-keep b b' x e.successor c plain (λ m i. more m) e.leads;
          })
    ]

-- claims of a place and of links, weakened
pub place_wider : (C C' : Option ℕ → Option ℕ → ℕ → Type 0) (low high : Option ℕ) (p : Place) → ((low high : Option ℕ) (a : ℕ) → C low high a → C' low high a)
    → PlaceClaims C low high p → PlaceClaims C' low high p
place_wider C C' low high (AtNode node key) step claims = step low high node claims
place_wider C C' low high (Gap node side) step claims = step low high node claims
place_wider C C' low high _ step claims = tt

source_wider : (C C' : Option ℕ → Option ℕ → ℕ → Type 0) (node child : ℕ) (s : LinkSource) → ((low high : Option ℕ) (a : ℕ) → C low high a → C' low high a)
    → SourceClaims C node child s → SourceClaims C' node child s
source_wider C C' node child (Bundle entry) step claims = tt
source_wider C C' node child (Plain tag above below) step claims = λ null. step below above node (claims null)

pub links_wider : (C C' : Option ℕ → Option ℕ → ℕ → Type 0) (ls : List Link) → ((low high : Option ℕ) (a : ℕ) → C low high a → C' low high a)
    → Every (LinkClaims C) ls → Every (LinkClaims C') ls
links_wider C C' ls step claims = every_map (LinkClaims C) (LinkClaims C') ls (λ l is. source_wider C C' l.node l.child l.source step is) claims

-- what an update has to do at plain links, and what it has taken out and brought in
pub record Work : Type 0 where
  pub raised : Option ℕ
  pub added : Option ℕ
  pub taken : List ℕ
  pub unset : List UnsetLink
  pub unlinking : Option Unlinking
  pub waiting : Looks

abbrev pub work_of : Updating → Work
work_of u = record { raised = u.raised; added = u.added; taken = u.taken; unset = u.unset; unlinking = u.unlinking; waiting = u.waiting }

-- the view has the same to do, and locks no other node of the tree at the stamp, other than ones in the plain tree
pub record SameUpdate (now plain : NamedTree) (v w : View) : Type 0 where
  pub update : work_of w.update ≡ work_of v.update
  pub locked : (k : ℕ) → IsLocked w k → 0 < occurs k now → IsLocked v k ⊎ (0 < occurs k plain)

-- the tests of what is to be done, over the work of an update
abbrev sets_by : Graph → ℕ → Side → ℕ → ℕ → Work → Bool
sets_by g k side was child u = list_any (is_item k side was child) u.unset || passes_over u.taken u.unlinking u.unset (g.child Right) k side was child

abbrev waits_in : Option ℕ → ℕ → ℕ → ℕ → View → Bool
waits_in o word n s y = unlinks n s y.update.unlinking && not (has_let y.update.waiting o word)

module _ (g : Graph) (vs : List View) (i : ℕ) (v w : View) (at : IsItem vs i v) (now plain : NamedTree) where
  abbrev ws : List View
  ws = set vs i w

  -- with the same update nothing else is to be done
  pub same_undone : work_of w.update ≡ work_of v.update → Extends (undone g vs) (undone g ws)
  same_undone same = record {
    links = λ k side was child. kept (sets_by g k side was child);
    outs = λ k. kept (λ u. has k u.taken);
    passes = λ k. kept (λ u. bypasses u.taken u.added k);
    heirs = λ n s. kept (λ u. copies u.taken n s);
  }
    where
      kept : (test : Work → Bool) → list_any (λ (t : View). test (work_of t.update)) vs ≡ true → list_any (λ (t : View). test (work_of t.update)) ws ≡ true
      kept test some =
          any_moved (λ (t : View). test (work_of t.update)) (λ (t : View). test (work_of t.update)) vs i v w at
          (λ is. ap test same ∙ is) (λ t beside is. is) some

  pub tree_moved : SameUpdate now plain v w → IsPlainTree g vs now plain → IsPlainTree g ws now plain
  tree_moved same trees = record {
    spelled = trees.spelled;
    once = trees.once;
    matches = still (undone g vs) (undone g ws) (same_undone same.update) 0 Right plain now trees.matches;
    seats = all_moved (SeatInTree g plain now) (SeatInTree g plain now) vs i v w at trees.seats own (λ t beside is. is);
  }
    where
      before : SeatInTree g plain now v
      before = at_item (SeatInTree g plain now) vs i v at trees.seats

      own : SeatInTree g plain now w
      own = record {
        locked = λ k locked here. elim (same.locked k locked here) as (λ _. 0 < occurs k plain) [ inl had ↦ before.locked k had here | inr is ↦ is ];
        items = subst (λ (u : Work). Every (ItemRight g plain u.taken u.added u.unlinking u.waiting) u.unset) (sym same.update) before.items;
        apart = subst (λ (u : Work). AreApart u.taken) (sym same.update) before.apart;
        first = subst (λ (u : Work). u.raised ≡ None → u.taken ≡ []) (sym same.update) before.first;
        far = subst (λ (u : Work). IfSome u.unlinking (λ o. u.taken ≡ o.replaced ∷ o.successor ∷ [])) (sym same.update) before.far;
      }

  -- another seat claims what it did, where as much is bypassed, and as many wait for it
  pub search_wider : (t : View) → ((k : ℕ) → IsBypassed (undone g vs) k → IsBypassed (undone g ws) k)
      → ((n s : ℕ) → waits vs t n s ≡ true → waits ws t n s ≡ true)
      → SearchRight g vs now plain t → SearchRight g ws now plain t
  search_wider t bypass waiting before = record {
    ahead = before.ahead;
    key = before.key;
    keys = before.keys;
    place = λ raised.
        place_wider (ClaimsAt g vs plain t) (ClaimsAt g ws plain t) (turn_key t.reading.right_turn) (turn_key t.reading.left_turn)
        t.reading.place step (before.place raised);
    links = λ raised. links_wider (ClaimsAt g vs plain t) (ClaimsAt g ws plain t) t.reading.links step (before.links raised);
  }
    where
      step : (low high : Option ℕ) (a : ℕ) → ClaimsAt g vs plain t low high a → ClaimsAt g ws plain t low high a
      step low high a claims x inside =
          claims_wider g (IsBypassed (undone g vs)) (IsBypassed (undone g ws)) (IsWaiting (waits vs t)) (IsWaiting (waits ws t)) plain x a
          bypass waiting (claims x inside)

  -- so do all other seats
  pub searches_moved : ((k : ℕ) → IsBypassed (undone g vs) k → IsBypassed (undone g ws) k)
      → ((t : View) → Beside vs i t → (n s : ℕ) → waits vs t n s ≡ true → waits ws t n s ≡ true)
      → SearchRight g ws now plain w → All (SearchRight g vs now plain) vs → All (SearchRight g ws now plain) ws
  searches_moved bypass waiting own all =
      all_moved (SearchRight g vs now plain) (SearchRight g ws now plain) vs i v w at all own
      (λ t beside before. search_wider t bypass (waiting t beside) before)

  -- where the view has the same update the others wait for nobody else
  pub same_waits : work_of w.update ≡ work_of v.update → (t : View) → (n s : ℕ) → waits vs t n s ≡ true → waits ws t n s ≡ true
  same_waits same t n s some =
      any_moved (waits_for t n s) (waits_for t n s) vs i v w at
      (λ is. ap (λ (u : Work). unlinks n s u.unlinking && not (has_let u.waiting t.number t.section_word)) same ∙ is) (λ y beside is. is) some

  -- and the view itself, in the same section
  pub own_waits : work_of w.update ≡ work_of v.update → w.number ≡ v.number → w.section_word ≡ v.section_word → (n s : ℕ) → waits vs v n s ≡ true
      → waits ws w n s ≡ true
  own_waits same number word n s some =
      subst (λ (o : Option ℕ). list_any (λ (y : View). waits_in o w.section_word n s y) ws ≡ true) (sym number)
      (subst (λ x. list_any (λ (y : View). waits_in v.number x n s y) ws ≡ true) (sym word) (same_waits same v n s some))

-- what is said of a view's search with these claims carries over to another view
pub record SearchStep (C : Option ℕ → Option ℕ → ℕ → Type 0) (key_of : ℕ → ℕ) (v w : View) : Type 0 where
  pub place : PlaceSaid C key_of (turn_key v.reading.right_turn) (turn_key v.reading.left_turn) v.reading.place
      → PlaceSaid C key_of (turn_key w.reading.right_turn) (turn_key w.reading.left_turn) w.reading.place
  pub links : LinksSaid C key_of v.reading.links → LinksSaid C key_of w.reading.links

-- nothing claimed
abbrev pub NoClaims : Option ℕ → Option ℕ → ℕ → Type 0
NoClaims low high a = Unit {0}

no_place : (low high : Option ℕ) (p : Place) → PlaceClaims NoClaims low high p
no_place low high Nowhere = tt
no_place low high _ = tt

no_source : (node child : ℕ) (s : LinkSource) → SourceClaims NoClaims node child s
no_source node child (Bundle entry) = tt
no_source node child (Plain tag above below) = λ null. tt

no_links : (ls : List Link) → Every (LinkClaims NoClaims) ls
no_links [] = tt
no_links (l ∷ ls) = (no_source l.node l.child l.source, no_links ls)

module _ (g : Graph) (vs : List View) (i : ℕ) (v w : View) (at : IsItem vs i v) (now plain : NamedTree) where
  abbrev us : List View
  us = set vs i w

  -- the moved view's own search, in the same section
  pub own_moved : work_of w.update ≡ work_of v.update → w.number ≡ v.number → w.section_word ≡ v.section_word → ((k : ℕ) → HoldsPlain g w k → HoldsPlain g v k)
      → SearchStep NoClaims g.key v w → SearchStep (ClaimsAt g vs plain v) g.key v w → SearchRight g vs now plain v → SearchRight g (set vs i w) now plain w
  own_moved same number word reach bare claimed before = record {
    ahead = λ k holds here. before.ahead k (reach k holds) here;
    key = (bare.place (record { claims = no_place (turn_key v.reading.right_turn) (turn_key v.reading.left_turn) v.reading.place; key = before.key })).key;
    keys = (bare.links (record { claims = no_links v.reading.links; keys = before.keys })).keys;
    place = λ raised.
        place_wider (ClaimsAt g vs plain v) (ClaimsAt g us plain w) (turn_key w.reading.right_turn) (turn_key w.reading.left_turn) w.reading.place step
        (claimed.place (record { claims = before.place (sym (ap (λ (u : Work). u.raised) same) ∙ raised); key = before.key })).claims;
    links = λ raised. links_wider (ClaimsAt g vs plain v) (ClaimsAt g us plain w) w.reading.links step
        (claimed.links (record { claims = before.links (sym (ap (λ (u : Work). u.raised) same) ∙ raised); keys = before.keys })).claims;
  }
    where
      step : (low high : Option ℕ) (a : ℕ) → ClaimsAt g vs plain v low high a → ClaimsAt g us plain w low high a
      step low high a claims x inside =
          claims_wider g (IsBypassed (undone g vs)) (IsBypassed (undone g us)) (IsWaiting (waits vs v)) (IsWaiting (waits us w)) plain x a
          (same_undone g vs i v w at now plain same).passes (own_waits g vs i v w at now plain same number word) (claims x inside)
