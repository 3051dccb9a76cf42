-- What a view shows, as the tests of needs find it.
use Rattle.std.proofs.Common.{◌≡◌, ◌≢◌, ℕ, ◌+◌, ◌<◌, ◌≤◌, ◌⊎◌, cond, List, [], ◌∷◌, ◌++◌, length, Bool, true, false, not, eqb, ◌&&◌, ◌||◌, arith, refl, ap, ◌∙◌, subst, inl, inr, Option, Some, None, is_none, find}
use Rattle.std.specs.Prelude.{nat_lt, nat_le}
use Rattle.std.specs.List.{list_all}
use Rattle.std.proofs.lemmas.Bool.{and_parts, eqb-true, eq-eqb, ne_eqb}
use Rattle.std.proofs.lemmas.Bool.Decides.{nat_tests}
use Rattle.index_words.specs.declared.layout.Layout.{Layout}
use Rattle.index_words.specs.declared.view.View.{View}
use Rattle.index_words.specs.declared.view.reading.TreeNode.{TreeNode}
use Rattle.index_words.specs.declared.view.update.HeldNode.{HeldNode}
use Rattle.index_words.specs.declared.word.Word.TheVariants.{Section}
use Rattle.index_words.specs.Views.{spent_view}
use Rattle.index_words.specs.Words.{same_side}
use Rattle.index_words.proofs.Seats.{at_item}
use Rattle.key_map.specs.Lists.{count, has, Every, IsItem}
use Rattle.core_grace.specs.Batches.{is_empty, is_number}
use Rattle.core_grace.specs.Holds.{held_slots, tree_slots}
use Rattle.core_grace.specs.Sections.{is_even}
use Rattle.core_invariant.specs.Rule.{InRule}
use Rattle.core_invariant.specs.SpentViews.{IsSpent}
use Rattle.core_invariant.specs.WaitingSlots.{HasNoneWaiting}
use Rattle.core_events.specs.LoadMoves.{locks}
use Rattle.core_events.specs.LoadNeeds.{is_reachable, reads_tree}
use Rattle.core_events.specs.Needs.{has_none_waiting, is_outside, is_own_section}
use Rattle.core_events.specs.UpdateNeeds.{held_at}
use Rattle.core_laws.specs.ViewNeeds.{IsOutside, IsInReach, IsSearched}
use Rattle.core_events.specs.LockNeeds.{may_lock}
use Rattle.core_events.specs.Searches.{goes_on_at, place_nodes, search_nodes, searches_at}
use Rattle.index_words.specs.declared.side.Side.{Side}
use Rattle.index_words.specs.declared.side.Side.TheVariants.{Right}
use Rattle.index_words.specs.declared.view.reading.Place.{Place}
use Rattle.index_words.specs.declared.view.reading.Place.TheVariants.{Nowhere, Node as AtNode}
use Rattle.index_words.specs.declared.view.reading.Reading.{Reading}
use Rattle.key_map.proofs.Counting.{count-has}
use Rattle.core_invariant.proofs.Locked.{count-locks}
use Rattle.core_events.proofs.Tests.{never}

pub both : (a b : Bool) → a ≡ true → b ≡ true → (a && b) ≡ true
both true true p q = refl
both true false p q = q
both false b p q = p

pub left_of : (a b : Bool) → a ≡ true → (a || b) ≡ true
left_of true b p = refl
left_of false b p = cc

pub right_of : (a b : Bool) → b ≡ true → (a || b) ≡ true
right_of true b p = refl
right_of false b p = p

pub not_of : (b : Bool) → b ≡ false → not b ≡ true
not_of true p = cc
not_of false p = refl

pub never_of : (b : Bool) → (b ≡ true → ⊥) → b ≡ false
never_of true p = absurd (p refl)
never_of false p = refl

pub at_most : (a b : ℕ) → a ≤ b → nat_le a b ≡ true
at_most a b p = grind (arith, nat_tests)

pub below : (a b : ℕ) → a < b → nat_lt a b ≡ true
below a b p = grind (arith, nat_tests)

-- a view that has what no spent view has was not joined away
pub live_of : (z : Layout) (words : List ℕ) (vs : List View) (i : ℕ) (v : View) (P : View → Type 0) → InRule z words vs → IsItem vs i v → P v → (P spent_view → ⊥) → v.joined ≡ false
live_of z words vs i v P right at holds none = never_of v.joined (λ gone. none (subst P (at_item IsSpent vs i v at right.spent gone) holds))

tree_counted : (node x : ℕ) (b c : Bool) (n : ℕ) → eqb x node ≡ b → 0 < cond b 1 0 + n → (0 < n → c ≡ true) → (b || c) ≡ true
tree_counted node x true c n is some rest = refl
tree_counted node x false c n is some rest = rest (omega (arith, some))

count-tree : (node : ℕ) (ns : List TreeNode) → 0 < count node (tree_slots ns) → reads_tree node ns ≡ true
count-tree node [] some = absurd (omega (arith, some))
count-tree node (x ∷ ns) some = tree_counted node x.slot (eqb x.slot node) (reads_tree node ns) (count node (tree_slots ns)) refl some (count-tree node ns)

found_step : (k : ℕ) (x h : HeldNode) (hs : List HeldNode) (b : Bool) → cond b (Some x) (find (λ (y : HeldNode). eqb y.node k) hs) ≡ Some h
    → (find (λ (y : HeldNode). eqb y.node k) hs ≡ Some h → locks k hs ≡ true) → (b || locks k hs) ≡ true
found_step k x h hs true found later = refl
found_step k x h hs false found later = later found

-- a node that was found among those that are locked
pub found-locks : (k : ℕ) (hs : List HeldNode) (h : HeldNode) → held_at k hs ≡ Some h → locks k hs ≡ true
found-locks k [] h found = cc
found-locks k (x ∷ hs) h found = found_step k x h hs (eqb x.node k) found (found-locks k hs h)

-- a node in reach is reachable
pub reaches : (v : View) (k : ℕ) → IsInReach v k → is_reachable v k ≡ true
reaches v k (inl root) = left_of (eqb k 0 || reads_tree k v.reading.tree) (locks k v.held.nodes) (left_of (eqb k 0) (reads_tree k v.reading.tree) (eq-eqb k 0 root))
reaches v k (inr (inl tree)) = left_of (eqb k 0 || reads_tree k v.reading.tree) (locks k v.held.nodes) (right_of (eqb k 0) (reads_tree k v.reading.tree) (count-tree k v.reading.tree tree))
reaches v k (inr (inr locked)) = right_of (eqb k 0 || reads_tree k v.reading.tree) (locks k v.held.nodes) (count-locks k v.held.nodes locked)

pub none_is : {X : Type 0} (o : Option X) → o ≡ None → is_none o ≡ true
none_is None is = refl
none_is (Some x) is = cc

pub number_is : (n : ℕ) (o : Option ℕ) → o ≡ Some n → is_number n o ≡ true
number_is n o is = ap (is_number n) is ∙ eq-eqb n n refl

pub other_number : (n : ℕ) (o : Option ℕ) → o ≢ Some n → is_number n o ≡ false
other_number n None other = refl
other_number n (Some k) other = ne_eqb k n (λ same. other (ap Some same))

pub own_section_is : (n : ℕ) (o : Option ℕ) → o ≡ Some n → is_own_section o (Section n) ≡ true
own_section_is n o is = ap (λ u. is_own_section u (Section n)) is ∙ eq-eqb n n refl

pub empty_length : {X : Type 0} (xs : List X) → xs ≡ [] → eqb (length xs) 0 ≡ true
empty_length {X = X} xs is = ap (λ (ys : List X). eqb (length ys) 0) is

pub some_length : (n : ℕ) → 0 < n → eqb n 0 ≡ false
some_length n some = grind (arith, nat_tests)

pub outside_is : (v : View) → IsOutside v → is_outside v ≡ true
outside_is v out = both (is_even v.section_word) (eqb (length v.held.nodes) 0) out.even (empty_length v.held.nodes out.unlocked)

pub none_waiting : (v : View) → HasNoneWaiting v → has_none_waiting v ≡ true
none_waiting v none = both (is_empty v.retired) (is_empty v.batch) (ap is_empty none.0) (ap is_empty none.1)

pub all_tested : (on : ℕ → Bool) (xs : List ℕ) → ((x : ℕ) → 0 < count x xs → on x ≡ true) → list_all on xs ≡ true
all_tested on [] each = refl
all_tested on (x ∷ xs) each = both (on x) (list_all on xs) (each x (counted (eqb x x) (eq-eqb x x refl))) (all_tested on xs (λ y some. each y (omega (arith, some))))
  where
    counted : (b : Bool) → b ≡ true → 0 < cond b 1 0 + count x xs
    counted true is = omega arith
    counted false is = cc

-- the locked node of a number
pub record HeldAt (P : HeldNode → Type 0) (k : ℕ) : Type 0 where
  pub item : HeldNode
  pub same : item.node ≡ k
  pub has_it : P item

held_by : (P : HeldNode → Type 0) (k : ℕ) (h : HeldNode) (n : ℕ) (b : Bool) → eqb h.node k ≡ b → P h → 0 < cond b 1 0 + n → (0 < n → HeldAt P k) → HeldAt P k
held_by P k h n true is here more rest = record { item = h; same = eqb-true h.node k is; has_it = here }
held_by P k h n false is here more rest = rest (omega (arith, more))

pub held_item : (P : HeldNode → Type 0) (k : ℕ) (hs : List HeldNode) → Every P hs → 0 < count k (held_slots hs) → HeldAt P k
held_item P k [] all some = absurd (omega (arith, some))
held_item P k (h ∷ hs) all some = held_by P k h (count k (held_slots hs)) (eqb h.node k) refl all.0 some (held_item P k hs all.1)

pub every_two : {X : Type 0} (P Q : X → Type 0) (xs : List X) → Every P xs → Every Q xs → Every (λ x. P x × Q x) xs
every_two P Q [] p q = tt
every_two P Q (x ∷ xs) p q = ((p.0, q.0), every_two P Q xs p.1 q.1)

-- a node that was searched is one whose lock may be tried
pub lock_tested : (v : View) (k : ℕ) → IsSearched v k → may_lock v k ≡ true
lock_tested v k (inl root) = left_of (eqb k 0) (has k (search_nodes 0 v.reading)) (eq-eqb k 0 root)
lock_tested v k (inr searched) = right_of (eqb k 0) (has k (search_nodes 0 v.reading)) (count-has k (search_nodes 0 v.reading) searched)

-- the search begins at the root's child, and no other node of it depends on that
pub some_searched : (k top : ℕ) (p : Place) (rest : List ℕ) → 0 < k → 0 < count k (place_nodes 0 p ++ rest) → 0 < count k (place_nodes top p ++ rest)
some_searched k top Nowhere rest some is = grind (arith, nat_tests, some, is)
some_searched k top _ rest some is = is

-- where a search goes on it stands at the root, or at the node
pub stands_searched : (r : Reading) (p : Place) (k : ℕ) (side : Side) → searches_at r p k side ≡ true → (k ≡ 0) ⊎ (0 < count k (place_nodes 0 p))
stands_searched r Nowhere k side is = inl (eqb-true k 0 (and_parts (eqb k 0) (same_side side Right) is).0)
stands_searched r (AtNode node key) k side is =
    let same : node ≡ k = eqb-true node k (and_parts (eqb node k) (goes_on_at r key) is).0 in
    inr (grind (arith, nat_tests, same))
stands_searched r _ k side is = absurd (never is)
