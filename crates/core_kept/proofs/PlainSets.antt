-- What is said of plain links after a store to one, and after a store to a tag.
use Rattle.std.proofs.Common.{◌≡◌, ℕ, ◌+◌, ◌<◌, ◌≤◌, cond, List, [], ◌∷◌, length, Bool, true, false, not, eqb, ◌&&◌, set, arith, refl, ap, ◌∙◌, sym, subst, filter}
use Rattle.std.specs.List.{sum_by}
use Rattle.std.proofs.lemmas.Bool.{and_parts, and_from, eq-eqb, eqb-true}
use Rattle.index_words.specs.declared.layout.Layout.{Layout}
use Rattle.index_words.specs.declared.side.Side.{Side}
use Rattle.index_words.specs.declared.side.Side.TheVariants.{Right}
use Rattle.index_words.specs.declared.view.View.{View}
use Rattle.index_words.specs.declared.view.update.OwedTag.{OwedTag}
use Rattle.index_words.specs.declared.view.update.UnsetLink.{UnsetLink}
use Rattle.index_words.specs.declared.word.Field.TheVariants.{Link, Tag}
use Rattle.index_words.specs.declared.word.Part.TheVariants.{Child}
use Rattle.index_words.specs.declared.word.Word.TheVariants.{Stamp, Node, Entry}
use Rattle.index_words.specs.Words.{Memory, written, same_side}
use Rattle.index_words.proofs.Seats.{Beside, sum_kept, sum_moved, at_item, all_moved}
use Rattle.key_map.specs.Lists.{count, IsItem}
use Rattle.core_grace.specs.Holds.{held_slots}
use Rattle.core_trees.specs.LinkSteps.{IsLinkIn}
use Rattle.core_events.specs.PlainMoves.{link_set, tag_set, other_links, other_tags}
use Rattle.core_events.specs.PlainNeeds.{is_link_of, is_owed_at, sets_to, owes}
use Rattle.core_events.proofs.Tests.{never}
use Rattle.core_invariant.specs.Locks.{lock_count}
use Rattle.core_invariant.specs.Meanings.{Meaning}
use Rattle.core_invariant.specs.PlainRule.{unset_count, owed_count, child_at, greatest_of, UnsetRight, OwedRight, SeatPlain, PlainRight}
use Rattle.core_invariant.specs.Rule.{Rule}
use Rattle.core_invariant.proofs.Frames.{every_map}
use Rattle.core_invariant.proofs.Locked.{locked_apart, slots_link, slots_tag}
use Rattle.core_invariant.proofs.Passing.{Passing, passing, counted_any}
use Rattle.core_invariant.proofs.PlainSteps.{link_parts, tag_parts, link_named}
use Rattle.core_invariant.proofs.Sides.{same_side-refl, same_side-true}
use Rattle.core_kept.proofs.Unlocks.{every_filter}

-- items that pass a test are gone where the others are kept, and those that pass another one stay
gone : {X : Type 0} (f : X → Bool) (xs : List X) → length (filter f (filter (λ x. not (f x)) xs)) ≡ 0
gone f [] = refl
gone f (x ∷ xs) = by (f x) refl (gone f xs)
  where
    by : (b : Bool) → f x ≡ b → length (filter f (filter (λ y. not (f y)) xs)) ≡ 0
        → length (filter f (cond (not b) (x ∷ filter (λ y. not (f y)) xs) (filter (λ y. not (f y)) xs))) ≡ 0
    by true is rest = rest
    by false is rest = ap (λ c. length (cond c (x ∷ filter f (filter (λ y. not (f y)) xs)) (filter f (filter (λ y. not (f y)) xs)))) is ∙ rest

stay : {X : Type 0} (f h : X → Bool) (xs : List X) → ((x : X) → f x ≡ true → h x ≡ true → ⊥)
    → length (filter h (filter (λ x. not (f x)) xs)) ≡ length (filter h xs)
stay f h [] apart = refl
stay f h (x ∷ xs) apart = by (f x) (h x) refl refl (stay f h xs apart)
  where
    longer : (c : Bool) → length (filter h (filter (λ y. not (f y)) xs)) ≡ length (filter h xs)
        → length (cond c (x ∷ filter h (filter (λ y. not (f y)) xs)) (filter h (filter (λ y. not (f y)) xs))) ≡ length (cond c (x ∷ filter h xs) (filter h xs))
    longer true same = omega (arith, same)
    longer false same = same

    by : (b c : Bool) → f x ≡ b → h x ≡ c → length (filter h (filter (λ y. not (f y)) xs)) ≡ length (filter h xs)
        → length (filter h (cond (not b) (x ∷ filter (λ y. not (f y)) xs) (filter (λ y. not (f y)) xs))) ≡ length (cond (h x) (x ∷ filter h xs) (filter h xs))
    by true true is too same = absurd (apart x is too)
    by true false is too same = same ∙ ap (λ d. length (cond d (x ∷ filter h xs) (filter h xs))) (sym too)
    by false c is too same = longer (h x) same

-- two links compared
pub data SameLink (j k : ℕ) (t side : Side) : Type 0 where
  equal : j ≡ k → t ≡ side → SameLink j k t side
  other : (same_side t side && eqb j k) ≡ false → ((j ≡ k) → (t ≡ side) → ⊥) → SameLink j k t side

pub same_link : (j k : ℕ) (t side : Side) → SameLink j k t side
same_link j k t side = by (same_side t side && eqb j k) refl
  where
    by : (b : Bool) → (same_side t side && eqb j k) ≡ b → SameLink j k t side
    by true is = let parts = and_parts (same_side t side) (eqb j k) is in equal (eqb-true j k parts.1) (same_side-true t side parts.0)
    by false is =
        other is (λ nodes sides. never (sym is ∙ and_from (same_side t side) (eqb j k) (ap (same_side t) (sym sides) ∙ same_side-refl t) (eq-eqb j k nodes)))

-- an item that is one link's is not another's
links_apart : (j k : ℕ) (t side : Side) → ((j ≡ k) → (t ≡ side) → ⊥) → (u : UnsetLink) → is_link_of k side u ≡ true → is_link_of j t u ≡ true → ⊥
links_apart j k t side apart u one two =
    let a = link_parts k side u one in
    let b = link_parts j t u two in
    apart (sym b.0 ∙ a.0) (sym b.1 ∙ a.1)

tags_apart : (j k : ℕ) (t side : Side) → ((j ≡ k) → (t ≡ side) → ⊥) → (o : OwedTag) → is_owed_at k side o ≡ true → is_owed_at j t o ≡ true → ⊥
tags_apart j k t side apart o one two =
    let a = tag_parts k side o one in
    let b = tag_parts j t o two in
    apart (sym b.0 ∙ a.0) (sym b.1 ∙ a.1)

not_true : (b : Bool) → not b ≡ true → b ≡ false
not_true true is = cc
not_true false is = refl

module _ (z : Layout) (m : Memory) (vs : List View) (g : Meaning) (rule : Rule z m vs g) (i k : ℕ) (side : Side) (x : ℕ) (v : View) (at : IsItem vs i v)
    (locked : 0 < lock_count k v) (right : PlainRight m vs g) where
  abbrev child : Side → ℕ → ℕ
  child = child_at (λ e. m (Entry Child e)) g.bundles (m Stamp)

  abbrev link : Side → ℕ → ℕ
  link t j = m (Node (Link t) j)

  abbrev Seat : View → Type 0
  Seat = SeatPlain link child g.tree

  seat : Seat v
  seat = at_item Seat vs i v at right.seats

  -- a store to the link, which was to be set to this child
  module _ (asked : sets_to k side x v.update.unset ≡ true) where
    abbrev link' : Side → ℕ → ℕ
    link' t j = written m (Node (Link side) k) x (Node (Link t) j)

    abbrev w : View
    w = link_set v k side x

    pub item : Passing (λ (u : UnsetLink). is_link_of k side u && eqb u.child x) (UnsetRight link child g.tree (held_slots v.held.nodes))
    item =
        passing (λ (u : UnsetLink). is_link_of k side u && eqb u.child x) (UnsetRight link child g.tree (held_slots v.held.nodes))
        v.update.unset seat.unset asked

    -- it leads there in the tree
    pub child_is : x ≡ child side k
    child_is =
        let parts = and_parts (is_link_of k side item.item) (eqb item.item.child x) item.passes in
        let place = link_parts k side item.item parts.0 in
        sym (eqb-true item.item.child x parts.1) ∙ sym item.right.asked ∙ ap (λ j. child item.item.side j) place.0 ∙ ap (λ t. child t k) place.1

    pub link_other : (j : ℕ) (t : Side) → (same_side t side && eqb j k) ≡ false → link' t j ≡ link t j
    link_other j t off = ap (λ b. cond b x (m (Node (Link t) j))) off

    pub link_here : link' side k ≡ x
    link_here = ap (λ b. cond b x (m (Node (Link side) k))) (and_from (same_side side side) (eqb k k) (same_side-refl side) (eq-eqb k k refl))

    linked_by : (j : ℕ) (t : Side) → SameLink j k t side → IsLinkIn 0 Right g.tree j t → sum_by (unset_count j t) (set vs i w) ≡ 0 → link' t j ≡ child t j
    linked_by j t (equal node same) there none =
        subst (λ n. link' t n ≡ child t n) (sym node) (subst (λ s. link' s k ≡ child s k) (sym same) (link_here ∙ child_is))
    linked_by j t (other off apart) there none =
        link_other j t off
        ∙ right.linked j t there (sym (sum_kept (unset_count j t) vs i v w at
        (stay (is_link_of k side) (is_link_of j t) v.update.unset (links_apart j k t side apart))) ∙ none)

    own_item : (u : UnsetLink) → is_link_of k side u ≡ false → UnsetRight link child g.tree (held_slots v.held.nodes) u
        → UnsetRight link' child g.tree (held_slots w.held.nodes) u
    own_item u off is = record {
      there = is.there;
      held = subst (λ ks. 0 < count u.node ks) (sym (slots_link k side x v.held.nodes)) is.held;
      before = link_by (same_link u.node k u.side side);
      asked = is.asked;
    }
      where
        link_by : SameLink u.node k u.side side → link' u.side u.node ≡ u.was
        link_by (equal node same) =
            absurd (never (sym off ∙ and_from (eqb u.node k) (same_side u.side side) (eq-eqb u.node k node)
            (ap (same_side u.side) (sym same) ∙ same_side-refl u.side)))
        link_by (other apart differ) = link_other u.node u.side apart ∙ is.before

    own_seat : SeatPlain link' child g.tree w
    own_seat = record {
      unset =
          every_filter (UnsetRight link child g.tree (held_slots v.held.nodes)) (UnsetRight link' child g.tree (held_slots w.held.nodes))
          (λ (u : UnsetLink). not (is_link_of k side u)) v.update.unset
          (λ u kept is. own_item u (not_true (is_link_of k side u) kept) is) seat.unset;
      owed = every_map (OwedRight g.tree (held_slots v.held.nodes)) (OwedRight g.tree (held_slots w.held.nodes)) v.update.owed
          (λ o is. record { there = is.there; held = subst (λ ks. 0 < count o.node ks) (sym (slots_link k side x v.held.nodes)) is.held }) seat.owed;
      first = λ none. let old = seat.first none in (ap (other_links k side) old.0, old.1);
    }

    -- another seat has the locks of other nodes
    other_seat : (y : View) → Beside vs i y → Seat y → SeatPlain link' child g.tree y
    other_seat y beside of = record {
      unset = every_map (UnsetRight link child g.tree (held_slots y.held.nodes)) (UnsetRight link' child g.tree (held_slots y.held.nodes)) y.update.unset
          (λ u is. record { there = is.there; held = is.held; before = link_by u is (same_link u.node k u.side side); asked = is.asked }) of.unset;
      owed = of.owed;
      first = of.first;
    }
      where
        link_by : (u : UnsetLink) → UnsetRight link child g.tree (held_slots y.held.nodes) u → SameLink u.node k u.side side → link' u.side u.node ≡ u.was
        link_by u is (equal node same) =
            absurd (omega (arith, locked_apart z m vs g rule i k v y at beside locked, subst (λ n. 0 < lock_count n y) node is.held))
        link_by u is (other apart differ) = link_other u.node u.side apart ∙ is.before

    pub plain_set : PlainRight (written m (Node (Link side) k) x) (set vs i w) g
    plain_set = record {
      linked = λ j t there none. linked_by j t (same_link j k t side) there none;
      tags = λ j t there. omega (arith, right.tags j t there, sum_kept (owed_count j t) vs i v w at refl);
      seats = all_moved Seat (SeatPlain link' child g.tree) vs i v w at right.seats own_seat other_seat;
    }

  -- a store to the tag, which was owed: one more
  module _ (owing : owes k side v.update.owed ≡ true) (more : x ≡ m (Node (Tag side) k) + 1) where
    abbrev tag' : Side → ℕ → ℕ
    tag' t j = written m (Node (Tag side) k) x (Node (Tag t) j)

    abbrev y : View
    y = tag_set v k side x

    abbrev greatest : Side → ℕ → ℕ
    greatest = greatest_of g.bundles (m Stamp)

    tag_here : tag' side k ≡ x
    tag_here = ap (λ b. cond b x (m (Node (Tag side) k))) (and_from (same_side side side) (eqb k k) (same_side-refl side) (eq-eqb k k refl))

    here_low : IsLinkIn 0 Right g.tree k side → tag' side k + sum_by (owed_count k side) (set vs i y) ≤ greatest side k
    here_low there =
        omega (
          arith,
          tag_here,
          more,
          right.tags k side there,
          sum_moved (owed_count k side) vs i v y at,
          gone (is_owed_at k side) v.update.owed,
          counted_any (is_owed_at k side) v.update.owed owing,
        )

    tags_by : (j : ℕ) (t : Side) → SameLink j k t side → IsLinkIn 0 Right g.tree j t → tag' t j + sum_by (owed_count j t) (set vs i y) ≤ greatest t j
    tags_by j t (equal node same) there =
        subst (λ n. tag' t n + sum_by (owed_count n t) (set vs i y) ≤ greatest t n) (sym node)
        (subst (λ s. tag' s k + sum_by (owed_count k s) (set vs i y) ≤ greatest s k) (sym same)
        (here_low (link_named g.tree j k t side node same there)))
    tags_by j t (other off apart) there =
        omega (
          arith,
          ap (λ b. cond b x (m (Node (Tag t) j))) off,
          right.tags j t there,
          sum_kept (owed_count j t) vs i v y at (stay (is_owed_at k side) (is_owed_at j t) v.update.owed (tags_apart j k t side apart)),
        )

    raised_seat : Seat y
    raised_seat = record {
      unset = every_map (UnsetRight link child g.tree (held_slots v.held.nodes)) (UnsetRight link child g.tree (held_slots y.held.nodes)) v.update.unset
          (λ u is. record {
            there = is.there;
            held = subst (λ ks. 0 < count u.node ks) (sym (slots_tag k side x v.held.nodes)) is.held;
            before = is.before;
            asked = is.asked;
          }) seat.unset;
      owed =
          every_filter (OwedRight g.tree (held_slots v.held.nodes)) (OwedRight g.tree (held_slots y.held.nodes))
          (λ (o : OwedTag). not (is_owed_at k side o)) v.update.owed
          (λ o kept is. record { there = is.there; held = subst (λ ks. 0 < count o.node ks) (sym (slots_tag k side x v.held.nodes)) is.held }) seat.owed;
      first = λ none. let old = seat.first none in (old.0, ap (other_tags k side) old.1);
    }

    pub plain_tagged : PlainRight (written m (Node (Tag side) k) x) (set vs i y) g
    plain_tagged = record {
      linked = λ j t there none. right.linked j t there (sym (sum_kept (unset_count j t) vs i v y at refl) ∙ none);
      tags = λ j t there. tags_by j t (same_link j k t side) there;
      seats = all_moved Seat Seat vs i v y at right.seats raised_seat (λ u beside of. of);
    }
