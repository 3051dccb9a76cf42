-- What is said of plain links, if one view moves and still has the same to do, or if only other words change.
use Rattle.std.proofs.Common.{◌≡◌, ℕ, ◌<◌, ◌≤◌, cond, List, [], ◌∷◌, ◌++◌, length, Bool, true, false, eqb, set, arith, refl, ap, ◌∙◌, sym, subst, filter}
use Rattle.std.proofs.lemmas.Bool.Decides.{nat_tests}
use Rattle.std.proofs.lemmas.List.Elements.{All-set, All-push}
use Rattle.index_words.specs.declared.side.Side.{Side}
use Rattle.index_words.specs.declared.side.Side.TheVariants.{Right}
use Rattle.index_words.specs.declared.view.View.{View}
use Rattle.index_words.specs.declared.view.update.OwedTag.{OwedTag}
use Rattle.index_words.specs.declared.view.update.UnsetLink.{UnsetLink}
use Rattle.index_words.specs.declared.view.update.Updating.{Updating}
use Rattle.index_words.specs.Views.{no_update, spent_view}
use Rattle.index_words.proofs.Seats.{sum_kept, sum_split, sum_joined, all_moved, all_framed, at_item}
use Rattle.key_map.specs.Lists.{Every, IsItem}
use Rattle.core_grace.specs.Holds.{Bundles, held_slots}
use Rattle.core_links.specs.Bundle.{child_of_entry}
use Rattle.core_trees.specs.LinkSteps.{IsLinkIn}
use Rattle.core_trees.specs.NamedTree.{NamedTree}
use Rattle.core_events.specs.PlainNeeds.{is_link_of, is_owed_at}
use Rattle.core_invariant.specs.Locks.{lock_count}
use Rattle.core_invariant.specs.PlainRule.{unset_count, owed_count, selected_of, child_at, greatest_of, UnsetRight, OwedRight, SeatPlain, LinksRight}
use Rattle.core_invariant.proofs.Frames.{every_map}

-- the second view still has as much to do as the first, and still has the locks
pub record HasSameWork (v w : View) : Type 0 where
  pub unset : w.update.unset ≡ v.update.unset
  pub owed : w.update.owed ≡ v.update.owed
  pub raised : w.update.raised ≡ v.update.raised
  pub locks : (k : ℕ) → 0 < lock_count k v → 0 < lock_count k w

-- a view whose update has ended has no more to do
pub idle_unset : (k : ℕ) (side : Side) (v : View) → v.update ≡ no_update → unset_count k side v ≡ 0
idle_unset k side v idle = ap (λ (u : Updating). length (filter (is_link_of k side) u.unset)) idle

pub idle_owed : (k : ℕ) (side : Side) (v : View) → v.update ≡ no_update → owed_count k side v ≡ 0
idle_owed k side v idle = ap (λ (u : Updating). length (filter (is_owed_at k side) u.owed)) idle

module _ (link tag child greatest : Side → ℕ → ℕ) (tree : NamedTree) where
  abbrev Seat : View → Type 0
  Seat = SeatPlain link child tree

  abbrev Links : List View → Type 0
  Links = LinksRight link tag child greatest tree

  pub idle_seat : (v : View) → v.update ≡ no_update → Seat v
  idle_seat v idle =
      let locked : List ℕ = held_slots v.held.nodes in
      record {
        unset = subst (λ (u : Updating). Every (UnsetRight link child tree locked) u.unset) (sym idle) tt;
        owed = subst (λ (u : Updating). Every (OwedRight tree locked) u.owed) (sym idle) tt;
        first = λ none. (ap (λ (u : Updating). u.unset) idle, ap (λ (u : Updating). u.owed) idle);
      }

  pub seat_same : (v w : View) → HasSameWork v w → Seat v → Seat w
  seat_same v w same right =
      let had : List ℕ = held_slots v.held.nodes in
      let has : List ℕ = held_slots w.held.nodes in
      record {
        unset = every_map (UnsetRight link child tree had) (UnsetRight link child tree has) w.update.unset
            (λ u is. record { there = is.there; held = same.locks u.node is.held; before = is.before; asked = is.asked })
            (subst (Every (UnsetRight link child tree had)) (sym same.unset) right.unset);
        owed = every_map (OwedRight tree had) (OwedRight tree has) w.update.owed (λ o is. record { there = is.there; held = same.locks o.node is.held })
            (subst (Every (OwedRight tree had)) (sym same.owed) right.owed);
        first = λ none. let old = right.first (sym same.raised ∙ none) in (same.unset ∙ old.0, same.owed ∙ old.1);
      }

  same_unset : (v w : View) → HasSameWork v w → (k : ℕ) (side : Side) → unset_count k side w ≡ unset_count k side v
  same_unset v w same k side = ap (λ (us : List UnsetLink). length (filter (is_link_of k side) us)) same.unset

  same_owed : (v w : View) → HasSameWork v w → (k : ℕ) (side : Side) → owed_count k side w ≡ owed_count k side v
  same_owed v w same k side = ap (λ (os : List OwedTag). length (filter (is_owed_at k side) os)) same.owed

  module _ (vs : List View) (i : ℕ) (v w : View) (at : IsItem vs i v) (right : Links vs) where
    pub seat_at : Seat v
    seat_at = at_item Seat vs i v at right.seats

    -- one view moves
    pub plain_seat : ((k : ℕ) (side : Side) → unset_count k side w ≡ unset_count k side v) → ((k : ℕ) (side : Side) → owed_count k side w ≡ owed_count k side v) → Seat w
        → Links (set vs i w)
    plain_seat unset owed seat = record {
      linked = λ k side there none. right.linked k side there (sym (sum_kept (unset_count k side) vs i v w at (unset k side)) ∙ none);
      tags = λ k side there. omega (arith, right.tags k side there, sum_kept (owed_count k side) vs i v w at (owed k side));
      seats = all_moved Seat Seat vs i v w at right.seats seat (λ u beside of. of);
    }

    pub plain_moved : HasSameWork v w → Links (set vs i w)
    plain_moved same = plain_seat (same_unset v w same) (same_owed v w same) (seat_same v w same seat_at)

    -- and another one, which has nothing to do, is put after the others
    pub plain_pushed : HasSameWork v w → (y : View) → y.update ≡ no_update → Links (set vs i w ++ y ∷ [])
    plain_pushed same y idle = record {
      linked = λ k side there none. right.linked k side there
          (sym (sum_split (unset_count k side) vs i v w y at (omega (arith, same_unset v w same k side, idle_unset k side y idle))) ∙ none);
      tags = λ k side there. omega (arith, right.tags k side there, sum_split (owed_count k side) vs i v w y at (omega (arith, same_owed v w same k side, idle_owed k side y idle)));
      seats = All-push Seat (set vs i w) y (all_moved Seat Seat vs i v w at right.seats (seat_same v w same seat_at) (λ u beside of. of)) (idle_seat y idle);
    }

    -- and another one, which has nothing to do, is given up
    pub plain_joined : HasSameWork v w → (j : ℕ) (u : View) → IsItem vs j u → (j ≡ i → ⊥) → u.update ≡ no_update → Links (set (set vs i w) j spent_view)
    plain_joined same j u of other idle = record {
      linked = λ k side there none. right.linked k side there
          (sym (sum_joined (unset_count k side) vs i j v u w spent_view at of other (omega (arith, same_unset v w same k side, idle_unset k side u idle))) ∙ none);
      tags = λ k side there. omega (
        arith,
        right.tags k side there,
        sum_joined (owed_count k side) vs i j v u w spent_view at of other (omega (arith, same_owed v w same k side, idle_owed k side u idle)),
      );
      seats = All-set Seat (set vs i w) j spent_view (idle_seat spent_view refl) (all_moved Seat Seat vs i v w at right.seats (seat_same v w same seat_at) (λ x beside is. is));
    }

-- a link and its tag hold the same, lead to the same child at the stamp, and the greatest number of the bundle is no
-- less
pub record IsSameLink (link tag child greatest link' tag' child' greatest' : Side → ℕ → ℕ) (k : ℕ) (side : Side) : Type 0 where
  pub same_link : link' side k ≡ link side k
  pub same_tag : tag' side k ≡ tag side k
  pub same_child : child' side k ≡ child side k
  pub no_less : greatest side k ≤ greatest' side k

-- if this is so of each link of the tree, what is said of plain links stays
pub plain_framed : (link tag child greatest link' tag' child' greatest' : Side → ℕ → ℕ) (tree : NamedTree) (vs : List View)
    → ((k : ℕ) (side : Side) → IsLinkIn 0 Right tree k side → IsSameLink link tag child greatest link' tag' child' greatest' k side)
    → LinksRight link tag child greatest tree vs → LinksRight link' tag' child' greatest' tree vs
plain_framed link tag child greatest link' tag' child' greatest' tree vs same right = record {
  linked = λ k side there none. let is = same k side there in is.same_link ∙ right.linked k side there none ∙ sym is.same_child;
  tags = λ k side there. let is = same k side there in omega (arith, right.tags k side there, is.same_tag, is.no_less);
  seats = all_framed (SeatPlain link child tree) (SeatPlain link' child' tree) vs right.seats
      (λ v of. record {
        unset = every_map (UnsetRight link child tree (held_slots v.held.nodes)) (UnsetRight link' child' tree (held_slots v.held.nodes)) v.update.unset
            (λ u is. let here = same u.node u.side is.there in record { there = is.there; held = is.held; before = here.same_link ∙ is.before; asked = here.same_child ∙ is.asked }) of.unset;
        owed = of.owed;
        first = of.first;
      });
}

same_least : (c : Bool) (a b : ℕ) → (c ≡ false → a ≤ b) → cond c 0 a ≤ cond c 0 b
same_least true a b less = omega arith
same_least false a b less = less refl

-- other bundles and numbers, if the stamp selects the same entry at each link of the tree, whose number is no less
pub plain_selected : (link tag : Side → ℕ → ℕ) (child : ℕ → ℕ) (b b' : Bundles) (s : ℕ) (tree : NamedTree) (vs : List View)
    → ((k : ℕ) (side : Side) → IsLinkIn 0 Right tree k side → selected_of b' s side k ≡ selected_of b s side k)
    → ((k : ℕ) (side : Side) → IsLinkIn 0 Right tree k side → 0 < selected_of b s side k → b.number (selected_of b s side k) ≤ b'.number (selected_of b s side k))
    → LinksRight link tag (child_at child b s) (greatest_of b s) tree vs → LinksRight link tag (child_at child b' s) (greatest_of b' s) tree vs
plain_selected link tag child b b' s tree vs same less right =
    plain_framed link tag (child_at child b s) (greatest_of b s) link tag (child_at child b' s) (greatest_of b' s) tree vs
    (λ k side there.
    let e : ℕ = selected_of b s side k in
    record {
      same_link = refl;
      same_tag = refl;
      same_child = ap (child_of_entry child) (same k side there);
      no_less = subst (λ x. cond (eqb e 0) 0 (b.number e) ≤ cond (eqb x 0) 0 (b'.number x)) (sym (same k side there))
          (same_least (eqb e 0) (b.number e) (b'.number e) (λ some. less k side there (positive e some)));
    }) right
  where
    positive : (e : ℕ) → eqb e 0 ≡ false → 0 < e
    positive e is = grind (arith, nat_tests)
