-- Where a count rises, and what the tests of a view for it say.
use Rattle.std.proofs.Common.{◌≡◌, ◌≢◌, ℕ, ◌<◌, zero, suc, ◌⊎◌, List, [], ◌∷◌, Bool, true, false, not, eqb, ◌&&◌, ◌||◌, is_some, arith, refl, ap, ◌∙◌, sym, subst, inl, inr, Some}
use Rattle.std.specs.List.{list_any}
use Rattle.std.proofs.lemmas.Bool.{and_parts, eqb-true, eq-eqb, ne_eqb}
use Rattle.index_words.specs.declared.side.Side.{Side}
use Rattle.index_words.specs.declared.side.Side.TheVariants.{Left, Right}
use Rattle.index_words.specs.declared.view.View.{View}
use Rattle.index_words.specs.declared.view.reading.Link.{Link}
use Rattle.index_words.specs.declared.view.reading.Place.{Place}
use Rattle.index_words.specs.declared.view.reading.LinkSource.{LinkSource}
use Rattle.index_words.specs.declared.view.reading.LinkSource.TheVariants.{Bundle, Plain}
use Rattle.index_words.specs.declared.word.Field.{Field}
use Rattle.index_words.specs.declared.word.Field.TheVariants.{Head, Link as LinkField, Tag}
use Rattle.index_words.specs.declared.word.Part.TheVariants.{Stamp as Number}
use Rattle.index_words.specs.declared.word.Word.TheVariants.{Node, Entry}
use Rattle.index_words.specs.Words.{same_side}
use Rattle.key_map.specs.Lists.{count, has, IsItem}
use Rattle.key_map.proofs.Counting.{has-count, count-has}
use Rattle.core_laws.specs.Counts.{RemembersOther, RemembersOtherChild, RemembersOtherTag, RisesWhere, WatchesBundle}
use Rattle.core_events.specs.LoadMoves.{locks, raised_if, has_moved, has_other_source, is_watching}
use Rattle.core_events.specs.LoadNeeds.{is_reachable, reads_tree, stands_at}
use Rattle.core_events.specs.LockMoves.{may_count}
use Rattle.core_events.specs.Searches.{search_nodes, is_plain, has_other_child, is_other_tag, has_other_tag}
use Rattle.core_laws.specs.ViewNeeds.{IsInReach, IsSearched}
use Rattle.core_laws.proofs.ViewTests.{reaches}
use Rattle.core_invariant.specs.Readers.{IsWatched}
use Rattle.core_invariant.proofs.Locked.{locks-count, count-locks}
use Rattle.core_events.proofs.Tests.{never, not_equal, either_true}
use Rattle.core_invariant.proofs.Needed.{tree-count, standing}

-- a test for where a count rises
pub rises_by : (P : Type 0) (b : Bool) (old new : ℕ) → new ≡ raised_if b old → (P → b ≡ true) → (b ≡ true → P) → RisesWhere P old new
rises_by P true old new is tests says = record { rises = λ p. is; stays = λ none. absurd (none (says refl)) }
rises_by P false old new is tests says = record { rises = λ p. absurd (never (tests p)); stays = λ none. is }

pub stays_by : (P : Type 0) (old new : ℕ) → new ≡ old → (P → ⊥) → RisesWhere P old new
stays_by P old new is none = record { rises = λ p. absurd (none p); stays = λ _. is }

any_step : {X : Type 0} (on : X → Bool) (x : X) (xs : List X) (b : Bool) → on x ≡ b → (b || list_any on xs) ≡ true
    → (list_any on xs ≡ true → (i : ℕ) × (y : X) × IsItem xs i y × (on y ≡ true)) → (i : ℕ) × (y : X) × IsItem (x ∷ xs) i y × (on y ≡ true)
any_step on x xs true is holds rest = (0, x, record { within = omega arith; is = λ d. refl }, is)
any_step on x xs false is holds rest =
    let found = rest holds in
    (suc found.0, found.1, record { within = omega (arith, found.2.within); is = λ d. found.2.is d }, found.3)

-- the item at which a test holds
any_item : {X : Type 0} (on : X → Bool) (xs : List X) → list_any on xs ≡ true → (i : ℕ) × (y : X) × IsItem xs i y × (on y ≡ true)
any_item on [] holds = absurd (never holds)
any_item on (x ∷ xs) holds = any_step on x xs (on x) refl holds (any_item on xs)

any_later : (b c : Bool) → c ≡ true → (b || c) ≡ true
any_later true c p = refl
any_later false c p = p

any_here : (b c : Bool) → b ≡ true → (b || c) ≡ true
any_here true c p = refl
any_here false c p = cc

pub item_any : {X : Type 0} (on : X → Bool) (xs : List X) (i : ℕ) (x : X) → IsItem xs i x → on x ≡ true → list_any on xs ≡ true
item_any on [] i x at holds = absurd (omega (arith, at.within))
item_any on (y ∷ ys) zero x at holds = any_here (on y) (list_any on ys) (ap on (at.is x) ∙ holds)
item_any on (y ∷ ys) (suc i) x at holds = any_later (on y) (list_any on ys) (item_any on ys i x (record { within = omega (arith, at.within); is = λ d. at.is d }) holds)

pub both : (a b : Bool) → a ≡ true → b ≡ true → (a && b) ≡ true
both true true p q = refl
both true false p q = q
both false b p q = p

pub none_has : (x : ℕ) (xs : List ℕ) → count x xs ≡ 0 → has x xs ≡ false
none_has x xs none = none_by (has x xs) refl
  where
    none_by : (b : Bool) → has x xs ≡ b → b ≡ false
    none_by true is = absurd (omega (arith, none, has-count x xs is))
    none_by false is = refl

pub has_none : (x : ℕ) (xs : List ℕ) → has x xs ≡ false → count x xs ≡ 0
has_none x xs none = counted_by (count x xs) refl
  where
    counted_by : (n : ℕ) → count x xs ≡ n → n ≡ 0
    counted_by zero is = refl
    counted_by (suc n) is = absurd (never (sym none ∙ count-has x xs (omega (arith, is))))

pub not_false : (b : Bool) → b ≡ false → not b ≡ true
not_false true p = cc
not_false false p = refl

-- a word is not 0
pub says_some : (x : ℕ) → 0 < x → not (eqb x 0) ≡ true
says_some x some = not_false (eqb x 0) (ne_eqb x 0 (λ is. omega (arith, some, is)))

pub some_says : (x : ℕ) → not (eqb x 0) ≡ true → 0 < x
some_says zero is = absurd (never is)
some_says (suc x) is = omega arith

pub neither : (a b : Bool) → (a || b) ≡ false → (a ≡ false) × (b ≡ false)
neither true b p = cc
neither false b p = (refl, p)

pub not_either : (a b : Bool) → a ≡ false → b ≡ false → (a || b) ≡ false
not_either a b p q = ap (λ c. c || b) p ∙ q

sides_same : (s t : Side) → same_side s t ≡ true → s ≡ t
sides_same Left Right p = absurd (never p)
sides_same Right Left p = absurd (never p)
sides_same _ _ p = refl

same_sides : (s t : Side) → s ≡ t → same_side s t ≡ true
same_sides Left t p = subst (λ u. same_side Left u ≡ true) p refl
same_sides Right t p = subst (λ u. same_side Right u ≡ true) p refl

-- a link that is remembered with another entry
source_other : (source : LinkSource) (head : ℕ) → has_other_source source head ≡ true → (entry : ℕ) × (source ≡ Bundle entry) × (entry ≢ head)
source_other (Bundle entry) head is = (entry, refl, not_equal entry head is)
source_other (Plain tag above below) head is = absurd (never is)

other_source : (source : LinkSource) (head entry : ℕ) → source ≡ Bundle entry → entry ≢ head → has_other_source source head ≡ true
other_source source head entry is apart = ap (λ s. has_other_source s head) is ∙ not_false (eqb entry head) (ne_eqb entry head apart)

module _ (v : View) (node : ℕ) (side : Side) (head : ℕ) where
  abbrev Tests : Link → Bool
  Tests l = eqb l.node node && same_side l.side side && has_other_source l.source head

  pub moved_says : has_moved v.reading.links node side head ≡ true → RemembersOther v node side head
  moved_says is =
      let found = any_item Tests v.reading.links is in
      let l : Link = found.1 in
      let one = and_parts (eqb l.node node && same_side l.side side) (has_other_source l.source head) found.3 in
      let two = and_parts (eqb l.node node) (same_side l.side side) one.0 in
      let other = source_other l.source head one.1 in
      record {
        place = found.0;
        link = l;
        is = found.2;
        node_is = eqb-true l.node node two.0;
        side_is = sides_same l.side side two.1;
        entry = other.0;
        source = other.1;
        apart = other.2;
      }

  pub says_moved : RemembersOther v node side head → has_moved v.reading.links node side head ≡ true
  says_moved other =
      let l : Link = other.link in
      item_any Tests v.reading.links other.place l other.is
      (both (eqb l.node node && same_side l.side side) (has_other_source l.source head)
      (both (eqb l.node node) (same_side l.side side) (eq-eqb l.node node other.node_is) (same_sides l.side side other.side_is)) (other_source l.source head other.entry other.source other.apart))

-- a link that is remembered with another child, or with another tag
module _ (v : View) (node : ℕ) (side : Side) (x : ℕ) where
  abbrev IsOtherChild : Link → Bool
  IsOtherChild l = eqb l.node node && same_side l.side side && is_plain l.source && not (eqb l.child x)

  abbrev IsOtherTag : Link → Bool
  IsOtherTag l = eqb l.node node && same_side l.side side && is_other_tag x l.source

  pub child_says : has_other_child v.reading.links node side x ≡ true → RemembersOtherChild v node side x
  child_says is =
      let found = any_item IsOtherChild v.reading.links is in
      let l : Link = found.1 in
      let one = and_parts (eqb l.node node && same_side l.side side && is_plain l.source) (not (eqb l.child x)) found.3 in
      let two = and_parts (eqb l.node node && same_side l.side side) (is_plain l.source) one.0 in
      let three = and_parts (eqb l.node node) (same_side l.side side) two.0 in
      record {
        place = found.0;
        link = l;
        is = found.2;
        node_is = eqb-true l.node node three.0;
        side_is = sides_same l.side side three.1;
        plain = two.1;
        apart = not_equal l.child x one.1;
      }

  pub says_child : RemembersOtherChild v node side x → has_other_child v.reading.links node side x ≡ true
  says_child other =
      let l : Link = other.link in
      item_any IsOtherChild v.reading.links other.place l other.is
      (both (eqb l.node node && same_side l.side side && is_plain l.source) (not (eqb l.child x))
      (both (eqb l.node node && same_side l.side side) (is_plain l.source)
      (both (eqb l.node node) (same_side l.side side) (eq-eqb l.node node other.node_is) (same_sides l.side side other.side_is)) other.plain)
      (not_false (eqb l.child x) (ne_eqb l.child x other.apart)))

  pub tag_says : has_other_tag v.reading.links node side x ≡ true → RemembersOtherTag v node side x
  tag_says is =
      let found = any_item IsOtherTag v.reading.links is in
      let l : Link = found.1 in
      let one = and_parts (eqb l.node node && same_side l.side side) (is_other_tag x l.source) found.3 in
      let two = and_parts (eqb l.node node) (same_side l.side side) one.0 in
      record { place = found.0; link = l; is = found.2; node_is = eqb-true l.node node two.0; side_is = sides_same l.side side two.1; other = one.1 }

  pub says_tag : RemembersOtherTag v node side x → has_other_tag v.reading.links node side x ≡ true
  says_tag other =
      let l : Link = other.link in
      item_any IsOtherTag v.reading.links other.place l other.is
      (both (eqb l.node node && same_side l.side side) (is_other_tag x l.source)
      (both (eqb l.node node) (same_side l.side side) (eq-eqb l.node node other.node_is) (same_sides l.side side other.side_is)) other.other)

pub reach_says : (v : View) (k : ℕ) → is_reachable v k ≡ true → IsInReach v k
reach_says v k is =
    elim (either_true (eqb k 0 || reads_tree k v.reading.tree) (locks k v.held.nodes) is) as (λ _. IsInReach v k) [
      | inr held ↦ inr (inr (locks-count k v.held.nodes held))
      | inl first ↦ elim (either_true (eqb k 0) (reads_tree k v.reading.tree) first) as (λ _. IsInReach v k) [
        | inl root ↦ inl (eqb-true k 0 root)
        | inr tree ↦ inr (inl (tree-count k v.reading.tree tree))
      ]
    ]

-- a mark counts on a node in reach, or on one of a search
pub count_says : (v : View) (k : ℕ) → may_count v k ≡ true → IsInReach v k ⊎ IsSearched v k
count_says v k is =
    elim (either_true (is_reachable v k) (has k (search_nodes 0 v.reading)) is) as (λ _. IsInReach v k ⊎ IsSearched v k) [
      | inl reach ↦ inl (reach_says v k reach)
      | inr searched ↦ inr (inr (has-count k (search_nodes 0 v.reading) searched))
    ]

pub says_count : (v : View) (k : ℕ) → IsInReach v k ⊎ IsSearched v k → may_count v k ≡ true
says_count v k (inl reach) = any_here (is_reachable v k) (has k (search_nodes 0 v.reading)) (reaches v k reach)
says_count v k (inr (inl root)) = any_here (is_reachable v k) (has k (search_nodes 0 v.reading)) (reaches v k (inl root))
says_count v k (inr (inr searched)) = any_later (is_reachable v k) (has k (search_nodes 0 v.reading)) (count-has k (search_nodes 0 v.reading) searched)

pub same_node : (f h : Field) (k j : ℕ) → Some (Node f k) ≡ Some (Node h j) → (f ≡ h) × (k ≡ j)
same_node f h k j is = (cc, cc)

pub same_entry : (e d : ℕ) → Some (Entry Number e) ≡ Some (Entry Number d) → e ≡ d
same_entry e d is = cc

pub same_head : (s t : Side) → Head s ≡ Head t → s ≡ t
same_head s t is = cc

pub same_link : (s t : Side) → LinkField s ≡ LinkField t → s ≡ t
same_link s t is = cc

pub same_tag : (s t : Side) → Tag s ≡ Tag t → s ≡ t
same_tag s t is = cc

-- a seat that stands at the entry and is found to watch its bundle
pub watching_says : (v : View) (e : ℕ) → stands_at v.reading.place e ≡ true → is_watching v v.reading.place ≡ true → WatchesBundle v e
watching_says v e stands is =
    let at = standing v e stands in
    record {
      node = at.node;
      side = at.side;
      found = at.found;
      place = at.here;
      watched = elim (either_true (is_some v.reading.section) (locks at.node v.held.nodes) (subst (λ (p : Place). is_watching v p ≡ true) at.here is)) as (λ _. IsWatched v at.node) [
        | inl reads ↦ inr reads
        | inr locked ↦ inl (locks-count at.node v.held.nodes locked)
      ];
    }

pub says_watching : (v : View) (e : ℕ) → WatchesBundle v e → is_watching v v.reading.place ≡ true
says_watching v e watches =
    subst (λ (p : Place). is_watching v p ≡ true) (sym watches.place)
    (elim watches.watched as (λ _. (is_some v.reading.section || locks watches.node v.held.nodes) ≡ true) [
      | inl locked ↦ any_later (is_some v.reading.section) (locks watches.node v.held.nodes) (count-locks watches.node v.held.nodes locked)
      | inr reads ↦ any_here (is_some v.reading.section) (locks watches.node v.held.nodes) reads
    ])
