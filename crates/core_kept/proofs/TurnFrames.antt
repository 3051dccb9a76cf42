-- What is said of turns, of nodes that leave the plain tree, and of a table of one pass, where one view moves and the
-- plain tree stays.
use Rattle.std.proofs.Common.{◌≡◌, ℕ, ◌+◌, ◌<◌, ◌≤◌, ◌⊎◌, List, [], ◌∷◌, Bool, true, false, cond, eqb, set, arith, refl, ap, ◌∙◌, sym, subst, inl, inr, Option, Some, None, IfSome}
use Rattle.std.proofs.lemmas.Bool.{eqb-true}
use Rattle.std.proofs.lemmas.List.Elements.{All-weaker}
use Rattle.std.proofs.lemmas.Option.{IfSome_then}
use Rattle.index_words.specs.declared.layout.Layout.{Layout}
use Rattle.index_words.specs.declared.side.Side.{Side}
use Rattle.index_words.specs.declared.side.Side.TheVariants.{Left, Right}
use Rattle.index_words.specs.declared.view.View.{View}
use Rattle.index_words.specs.declared.view.reading.Place.{Place}
use Rattle.index_words.specs.declared.view.reading.Place.TheVariants.{Nowhere}
use Rattle.index_words.specs.declared.view.reading.Reading.{Reading}
use Rattle.index_words.specs.declared.view.reading.Turn.{Turn}
use Rattle.index_words.specs.declared.view.update.HeldNode.{HeldNode}
use Rattle.index_words.specs.declared.word.Field.TheVariants.{Mark, Tag}
use Rattle.index_words.specs.declared.word.Word.{Word}
use Rattle.index_words.specs.declared.word.Word.TheVariants.{Node}
use Rattle.index_words.specs.Words.{Memory, memory, written, word_at}
use Rattle.index_words.proofs.Seats.{at_item, all_moved}
use Rattle.index_words.proofs.Store.{stored_at}
use Rattle.key_map.specs.Lists.{count, Every, IsItem}
use Rattle.core_grace.specs.Sections.{is_even}
use Rattle.core_trees.specs.NamedTree.{NamedTree}
use Rattle.core_trees.specs.Slots.{occurs}
use Rattle.core_trees.specs.SpelledTree.{Graph, IsSpelled}
use Rattle.core_trees.proofs.SpelledTree.{spelled-same}
use Rattle.core_events.specs.Searches.{search_nodes}
use Rattle.core_invariant.specs.Reached.{plain_graph}
use Rattle.core_invariant.specs.Rule.{InRule}
use Rattle.core_invariant.specs.StillRule.{IsLinkStill, StaysStill, StillRight, IsLinkKnown, KnownRight}
use Rattle.core_invariant.specs.TurnRule.{PlaceBelow, TurnRight, NoTurns, TurnsRight, LeavesMarked}
use Rattle.core_kept.specs.TurnLaws.{TurnsKept, TurnsAfter}
use Rattle.core_kept.proofs.KnownHeld.{KeepsKnown, same_known, links_known}
use Rattle.core_kept.proofs.SearchMoves.{Work, work_of}
use Rattle.core_invariant.proofs.SearchNodes.{IsCalm}

-- what is below the turns of a search that stands at the first place is below them where it stands at the second
pub record PlaceStays (p q : Place) : Type 0 where
  pub below : (g : Graph) (plain : NamedTree) (side : Side) (t : Turn) → PlaceBelow g plain p side t → PlaceBelow g plain q side t
  pub begins : (left right : Option Turn) → NoTurns p left right → NoTurns q left right

pub same_place : (p : Place) → PlaceStays p p
same_place p = record { below = λ g plain side t is. is; begins = λ left right is. is }

-- the view keeps its turns, what it remembers is as still as before, and it knows as much of its locked nodes
pub record TurnStep (g : Graph) (tag : Side → ℕ → ℕ) (v w : View) : Type 0 where
  pub left : w.reading.left_turn ≡ v.reading.left_turn
  pub right : w.reading.right_turn ≡ v.reading.right_turn
  pub place : PlaceStays v.reading.place w.reading.place
  pub links : Every (IsLinkStill g tag) v.reading.links → Every (IsLinkStill g tag) w.reading.links
  pub known : (hs : List HeldNode) → Every (IsLinkKnown g tag hs) v.reading.links → Every (IsLinkKnown g tag hs) w.reading.links
  pub held : KeepsKnown g tag v.held.nodes w.held.nodes

pub same_step : (g : Graph) (tag : Side → ℕ → ℕ) (v w : View) → w.reading ≡ v.reading → KeepsKnown g tag v.held.nodes w.held.nodes → TurnStep g tag v w
same_step g tag v w same keeps = record {
  left = ap (λ (r : Reading). r.left_turn) same;
  right = ap (λ (r : Reading). r.right_turn) same;
  place = subst (λ (r : Reading). PlaceStays v.reading.place r.place) (sym same) (same_place v.reading.place);
  links = λ all. subst (λ (r : Reading). Every (IsLinkStill g tag) r.links) (sym same) all;
  known = λ hs all. subst (λ (r : Reading). Every (IsLinkKnown g tag hs) r.links) (sym same) all;
  held = keeps;
}

pub no_step : (g : Graph) (tag : Side → ℕ → ℕ) (v : View) → TurnStep g tag v v
no_step g tag v = same_step g tag v v refl (same_known g tag v.held.nodes v.held.nodes refl)

-- a view that stands nowhere, or has read nothing
pub record HasNoTurns (v : View) : Type 0 where
  pub left : v.reading.left_turn ≡ None
  pub right : v.reading.right_turn ≡ None
  pub place : v.reading.place ≡ Nowhere
  pub links : v.reading.links ≡ []

zero_alone : (k : ℕ) → 0 < k → 0 < count k (0 ∷ []) → ⊥
zero_alone k some here = by (eqb 0 k) refl here
  where
    by : (b : Bool) → eqb 0 k ≡ b → 0 < cond b 1 0 + 0 → ⊥
    by true is there = omega (arith, some, eqb-true 0 k is)
    by false is there = omega (arith, there)

module _ (z : Layout) (g : Graph) (mark : ℕ → ℕ) (tag : Side → ℕ → ℕ) (plain : NamedTree) where
  pub none_turns : (v : View) → HasNoTurns v → TurnsRight g plain v
  none_turns v none = record {
    left = subst (λ (o : Option Turn). IfSome o (TurnRight g plain v.reading.place Left)) (sym none.left) tt;
    right = subst (λ (o : Option Turn). IfSome o (TurnRight g plain v.reading.place Right)) (sym none.right) tt;
    begins = subst (λ (p : Place). NoTurns p v.reading.left_turn v.reading.right_turn) (sym none.place) (none.left, none.right);
  }

  pub none_still : (v : View) → HasNoTurns v → StillRight z g tag plain v
  none_still v none one inside raised = record {
    links = subst (Every (IsLinkStill g tag)) (sym none.links) tt;
    there = λ k some here. absurd (zero_alone k some (subst (λ (r : List ℕ). 0 < count k r) nodes here));
  }
    where
      nodes : search_nodes 0 v.reading ≡ 0 ∷ []
      nodes = rw none.place (rw none.left (rw none.right (rw none.links refl)))

  pub none_known : (v : View) → HasNoTurns v → KnownRight z g tag v
  none_known v none one = subst (Every (IsLinkKnown g tag v.held.nodes)) (sym none.links) tt

  module _ (v w : View) (step : TurnStep g tag v w) where
    pub known_moved : KnownRight z g tag v → KnownRight z g tag w
    known_moved is one = links_known g tag v.held.nodes w.held.nodes step.held w.reading.links (step.known v.held.nodes (is one))

    turn_moved : (side : Side) (t : Turn) → TurnRight g plain v.reading.place side t → TurnRight g plain w.reading.place side t
    turn_moved side t is = record { some = is.some; key = is.key; below = step.place.below g plain side t is.below }

    pub turns_moved : TurnsRight g plain v → TurnsRight g plain w
    turns_moved is = record {
      left =
          subst (λ (o : Option Turn). IfSome o (TurnRight g plain w.reading.place Left)) (sym step.left)
          (IfSome_then v.reading.left_turn is.left (turn_moved Left));
      right =
          subst (λ (o : Option Turn). IfSome o (TurnRight g plain w.reading.place Right)) (sym step.right)
          (IfSome_then v.reading.right_turn is.right (turn_moved Right));
      begins = subst (λ (o : Option Turn). NoTurns w.reading.place o w.reading.right_turn) (sym step.left)
          (subst (λ (o : Option Turn). NoTurns w.reading.place v.reading.left_turn o) (sym step.right)
          (step.place.begins v.reading.left_turn v.reading.right_turn is.begins));
    }

    pub still_moved : w.section_word ≡ v.section_word → w.update.raised ≡ v.update.raised
        → ((k : ℕ) → count k (search_nodes 0 w.reading) ≤ count k (search_nodes 0 v.reading)) → StillRight z g tag plain v → StillRight z g tag plain w
    still_moved word raise nodes is one inside raised =
        let before : StaysStill g tag plain v = is one (subst (λ x. is_even x ≡ false) word inside) (sym raise ∙ raised) in
        record { links = step.links before.links; there = λ k some here. before.there k some (omega (arith, here, nodes k)) }

  pub leaving_moved : (v w : View) → w.update.taken ≡ v.update.taken → LeavesMarked mark plain v → LeavesMarked mark plain w
  leaving_moved v w taken is k some = is k (subst (λ (ks : List ℕ). 0 < count k ks) taken some)

  module _ (vs : List View) (i : ℕ) (v x : View) (at : IsItem vs i v) (before : TurnsKept z g mark tag vs plain) where
    -- one view moves
    pub one_moved : TurnsRight g plain x → LeavesMarked mark plain x → StillRight z g tag plain x → KnownRight z g tag x
        → TurnsKept z g mark tag (set vs i x) plain
    one_moved turns leaving still known = record {
      turns = all_moved (TurnsRight g plain) (TurnsRight g plain) vs i v x at before.turns turns (λ t beside is. is);
      leaving = all_moved (LeavesMarked mark plain) (LeavesMarked mark plain) vs i v x at before.leaving leaving (λ t beside is. is);
      still = all_moved (StillRight z g tag plain) (StillRight z g tag plain) vs i v x at before.still still (λ t beside is. is);
      known = all_moved (KnownRight z g tag) (KnownRight z g tag) vs i v x at before.known known (λ t beside is. is);
    }

    own_turns : TurnsRight g plain v
    own_turns = at_item (TurnsRight g plain) vs i v at before.turns

    pub own_leaving : LeavesMarked mark plain v
    own_leaving = at_item (LeavesMarked mark plain) vs i v at before.leaving

    own_still : StillRight z g tag plain v
    own_still = at_item (StillRight z g tag plain) vs i v at before.still

    own_known : KnownRight z g tag v
    own_known = at_item (KnownRight z g tag) vs i v at before.known

    -- it searches as before
    pub step_kept : x.section_word ≡ v.section_word → work_of x.update ≡ work_of v.update
        → ((k : ℕ) → count k (search_nodes 0 x.reading) ≤ count k (search_nodes 0 v.reading)) → TurnStep g tag v x → TurnsKept z g mark tag (set vs i x) plain
    step_kept word work nodes step = one_moved
        (turns_moved v x step own_turns)
        (leaving_moved v x (ap (λ (u : Work). u.taken) work) own_leaving)
        (still_moved v x step word (ap (λ (u : Work). u.raised) work) nodes own_still)
        (known_moved v x step own_known)

    pub calm_kept : IsCalm v x → work_of x.update ≡ work_of v.update → TurnStep g tag v x → TurnsKept z g mark tag (set vs i x) plain
    calm_kept calm work step = step_kept calm.word work (λ k. calm.nodes k 0) step

    -- it has read the same
    pub same_kept : x.reading ≡ v.reading → x.section_word ≡ v.section_word → x.update.taken ≡ v.update.taken → x.update.raised ≡ v.update.raised
        → KeepsKnown g tag v.held.nodes x.held.nodes → TurnsKept z g mark tag (set vs i x) plain
    same_kept read word taken raise keeps = one_moved
        (turns_moved v x (same_step g tag v x read keeps) own_turns)
        (leaving_moved v x taken own_leaving)
        (still_moved v x (same_step g tag v x read keeps) word raise (λ k. omega (arith, ap (λ (r : Reading). count k (search_nodes 0 r)) read)) own_still)
        (known_moved v x (same_step g tag v x read keeps) own_known)

    -- it stands nowhere
    pub none_kept : HasNoTurns x → LeavesMarked mark plain x → TurnsKept z g mark tag (set vs i x) plain
    none_kept none leaving = one_moved (none_turns x none) leaving (none_still x none) (none_known x none)

  -- more nodes are marked
  pub more_marked : (vs : List View) (mark' : ℕ → ℕ) → ((k : ℕ) → mark k ≡ 1 → mark' k ≡ 1) → TurnsKept z g mark tag vs plain → TurnsKept z g mark' tag vs plain
  more_marked vs mark' more before = record {
    turns = before.turns;
    leaving = All-weaker (LeavesMarked mark plain) (LeavesMarked mark' plain)
        (λ t is k some. elim (is k some) as (λ _. (mark' k ≡ 1) ⊎ (0 < occurs k plain)) [ inl marked ↦ inl (more k marked) | inr there ↦ inr there ]) vs
        before.leaving;
    still = before.still;
    known = before.known;
  }

module _ (z : Layout) (words : List ℕ) (vs : List View) (right : InRule z words vs) where
  abbrev m : Memory
  m = memory z words

  -- before an event
  pub turns_before : TurnsKept z (plain_graph m) (λ k. m (Node Mark k)) (λ side k. m (Node (Tag side) k)) vs right.plain_tree
  turns_before = record { turns = right.turns; leaving = right.leaving; still = right.still; known = right.known }

  -- the plain links spell no other tree than the plain tree
  pub same_tree : (plain : NamedTree) → IsSpelled (plain_graph m) ((plain_graph m).child Right 0) plain → right.plain_tree ≡ plain
  same_tree plain spelled = spelled-same (plain_graph m) ((plain_graph m).child Right 0) right.plain_tree plain right.trees.spelled spelled

  -- so what is kept of the plain tree is kept
  pub with_tree : (mark : ℕ → ℕ) (tag : Side → ℕ → ℕ) (ws : List View) → TurnsKept z (plain_graph m) mark tag ws right.plain_tree
      → (plain : NamedTree) → IsSpelled (plain_graph m) ((plain_graph m).child Right 0) plain → TurnsKept z (plain_graph m) mark tag ws plain
  with_tree mark tag ws kept plain spelled = subst (TurnsKept z (plain_graph m) mark tag ws) (same_tree plain spelled) kept

  -- the words after a store
  pub stored_turns : (n : ℕ) (w : Word) → word_at z n ≡ Some w → (value : ℕ) (ws : List View) → TurnsAfter z (written m w value) ws
      → TurnsAfter z (memory z (set words n value)) ws
  stored_turns n w found value ws gives = subst (λ (h : Memory). TurnsAfter z h ws) (sym (stored_at z words n w value right.size found)) gives
