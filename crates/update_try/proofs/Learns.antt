-- Which plain links and tags a try learns by a step under its locks.
use Rattle.std.proofs.Common.{◌≡◌, ℕ, List, [], ◌∷◌, ◌++◌, cond, Bool, true, false, eqb, map, refl, ap, ◌∙◌, sym, subst, Some, None}
use Rattle.std.proofs.lemmas.Bool.{eqb-true}
use Rattle.index_words.specs.declared.side.Side.{Side}
use Rattle.index_words.specs.declared.side.Side.TheVariants.{Left, Right}
use Rattle.index_words.specs.declared.view.View.{View}
use Rattle.index_words.specs.declared.view.update.HeldNode.{HeldNode}
use Rattle.index_words.specs.declared.view.update.HeldSide.{HeldSide}
use Rattle.index_words.specs.declared.word.Field.TheVariants.{Key, Val}
use Rattle.core_events.specs.LockMoves.{just_locked, locked_view, mark_known, mark_loaded, met_lock, pair_known, pair_loaded}
use Rattle.core_events.specs.PlainMoves.{link_known, link_known_at, link_loaded, tag_known}
use Rattle.core_events.specs.UpdateNeeds.{held_at, side_of}
use Rattle.core_updates.specs.Plans.{link_of}
use Rattle.plan_laws.proofs.Kept.{one-part, found-at}
use Rattle.update_try.specs.Looking.{LearnsAt, LearnsNothing}

-- where a node is found among mapped ones, it was found before
pub record FoundBefore (f : HeldNode → HeldNode) (hs : List HeldNode) (k : ℕ) (h : HeldNode) : Type 0 where
  pub before : HeldNode
  pub locked : held_at k hs ≡ Some before
  pub is : f before ≡ h

some_same : (a b : HeldNode) → Some a ≡ Some b → a ≡ b
some_same a b is = cc

found_before : (f : HeldNode → HeldNode) → ((h : HeldNode) → (f h).node ≡ h.node) → (k : ℕ) (hs : List HeldNode) (h : HeldNode) → held_at k (map f hs) ≡ Some h → FoundBefore f hs k h
found_before f same k [] h is = cc
found_before f same k (x ∷ hs) h is =
    by (eqb x.node k) refl (λ below. found_before f same k hs h below) (ap (λ n. cond (eqb n k) (Some (f x)) (held_at k (map f hs))) (sym (same x)) ∙ is)
  where
    further : eqb x.node k ≡ false → FoundBefore f hs k h → FoundBefore f (x ∷ hs) k h
    further off below = record { before = below.before; locked = rw off below.locked; is = below.is }

    by : (b : Bool) → eqb x.node k ≡ b → (held_at k (map f hs) ≡ Some h → FoundBefore f hs k h) → cond b (Some (f x)) (held_at k (map f hs)) ≡ Some h → FoundBefore f (x ∷ hs) k h
    by true on rest found = record { before = x; locked = rw on refl; is = some_same (f x) h found }
    by false off rest found = further off (rest found)

-- a step that maps the locked nodes, and leaves their links and tags
learns_mapped : (f : HeldNode → HeldNode) (v w : View) → w.held.nodes ≡ map f v.held.nodes → ((h : HeldNode) → (f h).node ≡ h.node)
    → ((h : HeldNode) (side : Side) → (side_of side (f h)).link ≡ (side_of side h).link) → ((h : HeldNode) (side : Side) → (side_of side (f h)).tag ≡ (side_of side h).tag) → LearnsNothing v w
learns_mapped f v w maps node link tag = record {
  link = λ k side n.
      let b = found_before f node k v.held.nodes n.held (subst (λ hs. held_at k hs ≡ Some n.held) maps n.locked) in
      record { held = b.before; locked = b.locked; child = n.child; known = sym (link b.before side) ∙ ap (λ (h : HeldNode). (side_of side h).link) b.is ∙ n.known };
  tag = λ k side n.
      let b = found_before f node k v.held.nodes n.held (subst (λ hs. held_at k hs ≡ Some n.held) maps n.locked) in
      record { held = b.before; locked = b.locked; found = n.found; known = sym (tag b.before side) ∙ ap (λ (h : HeldNode). (side_of side h).tag) b.is ∙ n.known };
}

same_side : (g h : HeldNode) → g.left ≡ h.left → g.right ≡ h.right → (side : Side) → side_of side g ≡ side_of side h
same_side g h left right Left = left
same_side g h left right Right = right

module _ (v : View) (k x : ℕ) where
  mark_side : (h : HeldNode) (side : Side) → side_of side (mark_known k x h) ≡ side_of side h
  mark_side h side = one-part k (λ (y : HeldNode). record y { mark = Some x }) (λ (y : HeldNode). side_of side y) h (same_side (record h { mark = Some x }) h refl refl side)

  pub mark_learns : LearnsNothing v (mark_loaded v k x)
  mark_learns =
      learns_mapped (mark_known k x) v (mark_loaded v k x) refl (λ h. one-part k (λ (y : HeldNode). record y { mark = Some x }) (λ (y : HeldNode). y.node) h refl)
      (λ h side. ap (λ (s : HeldSide). s.link) (mark_side h side)) (λ h side. ap (λ (s : HeldSide). s.tag) (mark_side h side))

  key_side : (h : HeldNode) (side : Side) → side_of side (pair_known Key k x h) ≡ side_of side h
  key_side h side = one-part k (λ (y : HeldNode). record y { key = Some x }) (λ (y : HeldNode). side_of side y) h (same_side (record h { key = Some x }) h refl refl side)

  pub key_learns : LearnsNothing v (pair_loaded v Key k x)
  key_learns =
      learns_mapped (pair_known Key k x) v (pair_loaded v Key k x) refl (λ h. one-part k (λ (y : HeldNode). record y { key = Some x }) (λ (y : HeldNode). y.node) h refl)
      (λ h side. ap (λ (s : HeldSide). s.link) (key_side h side)) (λ h side. ap (λ (s : HeldSide). s.tag) (key_side h side))

  val_side : (h : HeldNode) (side : Side) → side_of side (pair_known Val k x h) ≡ side_of side h
  val_side h side = one-part k (λ (y : HeldNode). record y { val = Some x }) (λ (y : HeldNode). side_of side y) h (same_side (record h { val = Some x }) h refl refl side)

  pub val_learns : LearnsNothing v (pair_loaded v Val k x)
  val_learns =
      learns_mapped (pair_known Val k x) v (pair_loaded v Val k x) refl (λ h. one-part k (λ (y : HeldNode). record y { val = Some x }) (λ (y : HeldNode). y.node) h refl)
      (λ h side. ap (λ (s : HeldSide). s.link) (val_side h side)) (λ h side. ap (λ (s : HeldSide). s.tag) (val_side h side))

  -- a plain link
  module _ (side : Side) where
    link_node : (h : HeldNode) → (link_known_at k side x h).node ≡ h.node
    link_node h = one-part k (link_known side x) (λ (y : HeldNode). y.node) h (by side)
      where
        by : (s : Side) → (link_known s x h).node ≡ h.node
        by Left = refl
        by Right = refl

    other_link : (s to : Side) (h : HeldNode) → ¬ (to ≡ s) → (side_of to (link_known s x h)).link ≡ (side_of to h).link
    other_link Left Right h apart = refl
    other_link Right Left h apart = refl
    other_link _ _ h apart = absurd (apart refl)

    same_tag : (s to : Side) (h : HeldNode) → (side_of to (link_known s x h)).tag ≡ (side_of to h).tag
    same_tag Left Left h = refl
    same_tag Left Right h = refl
    same_tag Right Left h = refl
    same_tag Right Right h = refl

    link_kept : (j : ℕ) (to : Side) (h : HeldNode) → h.node ≡ j → ¬ (link_of j to ≡ link_of k side) → (side_of to (link_known_at k side x h)).link ≡ (side_of to h).link
    link_kept j to h here apart = by (eqb h.node k) refl
      where
        by : (b : Bool) → eqb h.node k ≡ b → (side_of to (cond b (link_known side x h) h)).link ≡ (side_of to h).link
        by false e = refl
        by true e =
            other_link side to h (λ same. apart (ap (λ n. link_of n to) (sym here ∙ eqb-true h.node k e) ∙ ap (link_of k) same))

    pub link_learns : LearnsAt (link_of k side) v (link_loaded v k side x)
    link_learns = record {
      link = λ j to apart n.
          let b = found_before (link_known_at k side x) link_node j v.held.nodes n.held n.locked in
          let here = (found-at j b.before v.held.nodes b.locked).node_is in
          record { held = b.before; locked = b.locked; child = n.child; known = sym (link_kept j to b.before here apart) ∙ ap (λ (h : HeldNode). (side_of to h).link) b.is ∙ n.known };
      tag = λ j to n.
          let b = found_before (link_known_at k side x) link_node j v.held.nodes n.held n.locked in
          record {
            held = b.before;
            locked = b.locked;
            found = n.found;
            known = sym (one-part k (link_known side x) (λ (y : HeldNode). (side_of to y).tag) b.before (same_tag side to b.before)) ∙ ap (λ (h : HeldNode). (side_of to h).tag) b.is ∙ n.known;
          };
    }

-- a lock: nothing is known of a node that was locked just now
module _ (v : View) (k : ℕ) where
  before_push : (j : ℕ) (hs : List HeldNode) (h : HeldNode) → held_at j (hs ++ just_locked k ∷ []) ≡ Some h → ¬ (h ≡ just_locked k) → held_at j hs ≡ Some h
  before_push j [] h is apart = by (eqb k j) is
    where
      by : (b : Bool) → cond b (Some (just_locked k)) None ≡ Some h → None ≡ Some h
      by true found = absurd (apart (sym (some_same (just_locked k) h found)))
      by false found = found
  before_push j (y ∷ hs) h is apart = by (eqb y.node j) (λ below. before_push j hs h below apart) is
    where
      by : (b : Bool) → (held_at j (hs ++ just_locked k ∷ []) ≡ Some h → held_at j hs ≡ Some h) → cond b (Some y) (held_at j (hs ++ just_locked k ∷ [])) ≡ Some h → cond b (Some y) (held_at j hs) ≡ Some h
      by true rest found = found
      by false rest found = rest found

  none_known : (side : Side) (x : ℕ) → ¬ ((side_of side (just_locked k)).link ≡ Some x)
  none_known Left x is = cc
  none_known Right x is = cc

  no_tag_known : (side : Side) (x : ℕ) → ¬ ((side_of side (just_locked k)).tag ≡ Some x)
  no_tag_known Left x is = cc
  no_tag_known Right x is = cc

  pub locked_learns : LearnsNothing v (locked_view v k)
  locked_learns = record {
    link = λ j side n. record {
      held = n.held;
      locked = before_push j v.held.nodes n.held n.locked (λ same. none_known side n.child (ap (λ (h : HeldNode). (side_of side h).link) (sym same) ∙ n.known));
      child = n.child;
      known = n.known;
    };
    tag = λ j side n. record {
      held = n.held;
      locked = before_push j v.held.nodes n.held n.locked (λ same. no_tag_known side n.found (ap (λ (h : HeldNode). (side_of side h).tag) (sym same) ∙ n.known));
      found = n.found;
      known = n.known;
    };
  }

  pub met_learns : (own found : ℕ) → LearnsNothing v (met_lock v own found)
  met_learns own found = record {
    link = λ j side n. record { held = n.held; locked = n.locked; child = n.child; known = n.known };
    tag = λ j side n. record { held = n.held; locked = n.locked; found = n.found; known = n.known };
  }

pub nothing_more : (u v w : View) → LearnsNothing u v → LearnsNothing v w → LearnsNothing u w
nothing_more u v w a b = record { link = λ k side n. a.link k side (b.link k side n); tag = λ k side n. a.tag k side (b.tag k side n) }
