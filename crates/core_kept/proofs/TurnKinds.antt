-- The kinds of events that leave a view's turns and the plain tree as they are: what is said of turns, of nodes that
-- leave the plain tree, and of a table of one pass, after each of them.
use Rattle.std.proofs.Common.{◌≡◌, ℕ, cond, List, Bool, true, false, eqb, ◌&&◌, set, refl, ap, ◌∙◌, sym, subst, Option, Some, None, inl}
use Rattle.std.proofs.lemmas.Bool.{and_parts, eqb-true}
use Rattle.index_words.specs.declared.layout.Layout.{Layout}
use Rattle.index_words.specs.declared.side.Side.{Side}
use Rattle.index_words.specs.declared.view.View.{View}
use Rattle.index_words.specs.declared.view.reading.Link.{Link as ViewLink}
use Rattle.index_words.specs.declared.view.reading.LinkSource.{LinkSource}
use Rattle.index_words.specs.declared.view.reading.LinkSource.TheVariants.{Bundle, Plain}
use Rattle.index_words.specs.declared.view.reading.Place.{Place}
use Rattle.index_words.specs.declared.view.reading.Place.TheVariants.{Nowhere, Entry as AtEntry, Node as AtNode, Gap}
use Rattle.index_words.specs.declared.word.Field.{Field}
use Rattle.index_words.specs.declared.word.Field.TheVariants.{Key, Mark, Head, Tag}
use Rattle.index_words.specs.declared.word.Part.TheVariants.{Stamp as Number}
use Rattle.index_words.specs.declared.word.Word.{Word}
use Rattle.index_words.specs.declared.word.Word.TheVariants.{Announced, Node, Entry}
use Rattle.index_words.specs.Words.{Memory, memory, same_side}
use Rattle.key_map.specs.Lists.{has, Every, IsItem}
use Rattle.core_grace.proofs.RuleMoves.{every_push}
use Rattle.core_trees.specs.SpelledTree.{Graph}
use Rattle.core_events.specs.declared.event.Kind.TheVariants.{LoadHead, LoadTs, LoadPtr, LoadNext, LoadMark, LoadKeyOrVal, LookAnn, LoadTag}
use Rattle.core_events.specs.CutMoves.{place_cut, cut_off}
use Rattle.core_events.specs.LoadMoves.{found_at, node_known, locks, is_selected, is_above, child_links, next_at, place_known, bundle_link, remembered_if}
use Rattle.core_events.specs.LockMoves.{mark_known, pair_known, place_locked, place_paired}
use Rattle.core_events.specs.Searches.{key_found, tag_found, with_tag}
use Rattle.core_events.specs.Steps.{head_at, head_from, ts_from, ptr_from, next_from, mark_from, pair_from, ann_from, cut_from, tag_at, tag_from}
use Rattle.core_invariant.specs.Reached.{plain_graph}
use Rattle.core_invariant.specs.Rule.{InRule}
use Rattle.core_invariant.specs.StillRule.{IsSourceStill, IsLinkStill, IsSourceKnown, IsLinkKnown}
use Rattle.core_invariant.proofs.Frames.{every_mapped}
use Rattle.core_invariant.proofs.Sides.{same_side-true}
use Rattle.core_kept.specs.TurnLaws.{TurnsAfter, KeepsTurnsAt}
use Rattle.core_kept.proofs.KnownHeld.{same_known, mapped_known, found_plain, numbered_plain, marked_plain, paired_plain, tag_kept_links, tag_kept_tags}
use Rattle.core_kept.proofs.QuietKinds.{head_quiet, ts_quiet, ptr_quiet, next_quiet, mark_quiet, pair_quiet, tag_quiet, look_ann_quiet}
use Rattle.core_kept.proofs.ReachSteps.{head_calm, ts_calm, ptr_calm, next_calm, mark_calm, pair_calm, tag_calm, look_ann_calm}
use Rattle.core_kept.proofs.SearchMoves.{work_of, NoClaims}
use Rattle.core_invariant.proofs.SearchNodes.{IsCalm}
use Rattle.core_kept.proofs.TurnFrames.{PlaceStays, same_place, TurnStep, same_step, no_step, turns_before, calm_kept, with_tree}
use Rattle.index_words.specs.declared.view.update.HeldNode.{HeldNode}

-- places
at_entry : (p : Place) (node : ℕ) (side : Side) (entry : ℕ) (found : Option ℕ) → PlaceStays p (AtEntry node side entry found)
at_entry p node side entry found = record { below = λ g plain side t is. tt; begins = λ left right is. tt }

known_place : (x : ℕ) (p : Place) → PlaceStays p (place_known x p)
known_place x (AtEntry node side entry found) = at_entry (AtEntry node side entry found) node side entry (Some x)
known_place x Nowhere = same_place Nowhere
known_place x (AtNode node key) = same_place (AtNode node key)
known_place x (Gap node side) = same_place (Gap node side)

found_place : (k x node : ℕ) (key : Option ℕ) (b : Bool) → PlaceStays (AtNode node key) (cond b (AtNode node (Some x)) (AtNode node key))
found_place k x node key true = record { below = λ g plain side t is. is; begins = λ left right is. tt }
found_place k x node key false = same_place (AtNode node key)

key_place : (k x : ℕ) (p : Place) → PlaceStays p (key_found k x p)
key_place k x (AtNode node key) = found_place k x node key (eqb node k)
key_place k x Nowhere = same_place Nowhere
key_place k x (AtEntry node side entry found) = same_place (AtEntry node side entry found)
key_place k x (Gap node side) = same_place (Gap node side)

paired_place : (f : Field) (k x : ℕ) (p : Place) → PlaceStays p (place_paired f k x p)
paired_place Key k x p = key_place k x p
paired_place _ k x p = same_place p

entry_place : (node entry : ℕ) (side : Side) (found : Option ℕ) (b : Bool)
    → PlaceStays (AtEntry node side entry found) (cond b (AtEntry node side 0 None) (AtEntry node side entry found))
entry_place node entry side found true = at_entry (AtEntry node side entry found) node side 0 None
entry_place node entry side found false = same_place (AtEntry node side entry found)

pub locked_place : (section : Option ℕ) (k : ℕ) (p : Place) → PlaceStays p (place_locked section k p)
locked_place None k (AtEntry node side entry found) = entry_place node entry side found (eqb node k)
locked_place None k Nowhere = same_place Nowhere
locked_place None k (AtNode node key) = same_place (AtNode node key)
locked_place None k (Gap node side) = same_place (Gap node side)
locked_place (Some t) k p = same_place p

cut_place : (back : List ℕ) (p : Place) → PlaceStays p (place_cut back p)
cut_place back (AtEntry node side entry found) = entry_place node entry side found (has entry back)
cut_place back Nowhere = same_place Nowhere
cut_place back (AtNode node key) = same_place (AtNode node key)
cut_place back (Gap node side) = same_place (Gap node side)

-- the views after each kind
module _ (g : Graph) (tag : Side → ℕ → ℕ) where
  abbrev Stills : List ViewLink → Type 0
  Stills ls = Every (IsLinkStill g tag) ls

  bundle_still : (b : Bool) (ls : List ViewLink) (node : ℕ) (side : Side) (child entry : ℕ) → Stills ls
      → Stills (remembered_if b ls (bundle_link node side child entry))
  bundle_still true ls node side child entry all = every_push (IsLinkStill g tag) ls (bundle_link node side child entry) all tt
  bundle_still false ls node side child entry all = all

  bundle_known : (hs : List HeldNode) (b : Bool) (ls : List ViewLink) (node : ℕ) (side : Side) (child entry : ℕ) → Every (IsLinkKnown g tag hs) ls
      → Every (IsLinkKnown g tag hs) (remembered_if b ls (bundle_link node side child entry))
  bundle_known hs true ls node side child entry all = every_push (IsLinkKnown g tag hs) ls (bundle_link node side child entry) all tt
  bundle_known hs false ls node side child entry all = all

  module _ (v : View) where
    head_at_step : (f : Field) (k x number : ℕ) → TurnStep g tag v (head_at v f k x number)
    head_at_step (Head side) k x number = record {
      left = refl;
      right = refl;
      place = at_entry v.reading.place k side x None;
      links = λ all. bundle_still (eqb x 0) v.reading.links k side 0 0 all;
      known = λ hs all. bundle_known hs (eqb x 0) v.reading.links k side 0 0 all;
      held = mapped_known g tag (found_at k side x) v.held.nodes (found_plain k side x);
    }
    head_at_step _ k x number = no_step g tag v

    pub head_step : (u : Word) (x number : ℕ) → TurnStep g tag v (head_from v u x number)
    head_step (Node f k) x number = head_at_step f k x number
    head_step _ x number = no_step g tag v

    pub ts_step : (u : Word) (x : ℕ) → TurnStep g tag v (ts_from v u x)
    ts_step (Entry p e) x = record {
      left = refl;
      right = refl;
      place = known_place x v.reading.place;
      links = λ all. all;
      known = λ hs all. all;
      held = mapped_known g tag (node_known e x) v.held.nodes (numbered_plain e x);
    }
    ts_step _ x = no_step g tag v

    child_still : (p : Place) (child : ℕ) → Stills v.reading.links → Stills (child_links v p child)
    child_still (AtEntry node side entry found) child all =
        bundle_still (is_selected v.reading.section found (locks node v.held.nodes)) v.reading.links node side child entry all
    child_still _ child all = all

    child_known : (hs : List HeldNode) (p : Place) (child : ℕ) → Every (IsLinkKnown g tag hs) v.reading.links
        → Every (IsLinkKnown g tag hs) (child_links v p child)
    child_known hs (AtEntry node side entry found) child all =
        bundle_known hs (is_selected v.reading.section found (locks node v.held.nodes)) v.reading.links node side child entry all
    child_known hs _ child all = all

    pub ptr_step : (u : Word) (x : ℕ) → TurnStep g tag v (ptr_from v u x)
    ptr_step (Entry p e) x = record {
      left = refl;
      right = refl;
      place = same_place v.reading.place;
      links = λ all. child_still v.reading.place x all;
      known = λ hs all. child_known hs v.reading.place x all;
      held = same_known g tag v.held.nodes v.held.nodes refl;
    }
    ptr_step _ x = no_step g tag v

    next_at_step : (p : Place) (e x : ℕ) → TurnStep g tag v (next_at v p e x)
    next_at_step (AtEntry node side entry found) e x = record {
      left = refl;
      right = refl;
      place = at_entry v.reading.place node side x None;
      links = λ all. bundle_still (eqb x 0 && is_above v e found) v.reading.links node side 0 0 all;
      known = λ hs all. bundle_known hs (eqb x 0 && is_above v e found) v.reading.links node side 0 0 all;
      held = same_known g tag v.held.nodes v.held.nodes refl;
    }
    next_at_step _ e x = no_step g tag v

    pub next_step : (u : Word) (x : ℕ) → TurnStep g tag v (next_from v u x)
    next_step (Entry p e) x = next_at_step v.reading.place e x
    next_step _ x = no_step g tag v

    pub mark_step : (u : Word) (x : ℕ) → TurnStep g tag v (mark_from v u x)
    mark_step (Node f k) x = same_step g tag v (mark_from v (Node f k) x) refl (mapped_known g tag (mark_known k x) v.held.nodes (marked_plain k x))
    mark_step _ x = no_step g tag v

    pub pair_step : (u : Word) (x : ℕ) → TurnStep g tag v (pair_from v u x)
    pair_step (Node f k) x = record {
      left = refl;
      right = refl;
      place = paired_place f k x v.reading.place;
      links = λ all. all;
      known = λ hs all. all;
      held = mapped_known g tag (pair_known f k x) v.held.nodes (paired_plain f k x);
    }
    pair_step _ x = no_step g tag v

    -- a tag that was found is that of the link
    source_found : (k : ℕ) (side : Side) (link child : ℕ) (s : LinkSource) → IsSourceStill link (tag side k) child s
        → IsSourceStill link (tag side k) child (tag_found (tag side k) s)
    source_found k side link child (Bundle entry) is = tt
    source_found k side link child (Plain None above below) is = (is.0, refl)
    source_found k side link child (Plain (Some found) above below) is = is

    link_found : (k : ℕ) (side : Side) (l : ViewLink) → IsLinkStill g tag l → IsLinkStill g tag (with_tag k side (tag side k) l)
    link_found k side l is = by (eqb l.node k && same_side l.side side) refl
      where
        by : (b : Bool) → (eqb l.node k && same_side l.side side) ≡ b → IsLinkStill g tag (cond b (record l { source = tag_found (tag side k) l.source }) l)
        by false off = is
        by true on =
            let parts = and_parts (eqb l.node k) (same_side l.side side) on in
            let word : tag l.side l.node ≡ tag side k
            = ap (λ (s : Side). tag s l.node) (same_side-true l.side side parts.1) ∙ ap (tag side) (eqb-true l.node k parts.0) in
            subst (λ x. IsSourceStill (g.child l.side l.node) (tag l.side l.node) l.child (tag_found x l.source)) word
            (subst (λ x. IsSourceStill (g.child l.side l.node) x l.child (tag_found x l.source)) (sym word)
            (source_found k side (g.child l.side l.node) l.child l.source (subst (λ x. IsSourceStill (g.child l.side l.node) x l.child l.source) word is)))

    -- and is known
    source_kept : (hs : List HeldNode) (k : ℕ) (side : Side) (link child : ℕ) (s : LinkSource) → IsSourceKnown hs k side link (tag side k) child s
        → IsSourceKnown hs k side link (tag side k) child (tag_found (tag side k) s)
    source_kept hs k side link child (Bundle entry) is = tt
    source_kept hs k side link child (Plain None above below) is = (is.0, inl refl)
    source_kept hs k side link child (Plain (Some found) above below) is = is

    link_kept : (hs : List HeldNode) (k : ℕ) (side : Side) (l : ViewLink) → IsLinkKnown g tag hs l → IsLinkKnown g tag hs (with_tag k side (tag side k) l)
    link_kept hs k side l is = by (eqb l.node k && same_side l.side side) refl
      where
        by : (b : Bool) → (eqb l.node k && same_side l.side side) ≡ b → IsLinkKnown g tag hs (cond b (record l { source = tag_found (tag side k) l.source }) l)
        by false off = is
        by true on =
            let parts = and_parts (eqb l.node k) (same_side l.side side) on in
            let word : tag l.side l.node ≡ tag side k
            = ap (λ (s : Side). tag s l.node) (same_side-true l.side side parts.1) ∙ ap (tag side) (eqb-true l.node k parts.0) in
            subst (λ x. IsSourceKnown hs l.node l.side (g.child l.side l.node) (tag l.side l.node) l.child (tag_found x l.source)) word
            (source_kept hs l.node l.side (g.child l.side l.node) l.child l.source is)

    tag_at_step : (f : Field) (k x : ℕ) → ((side : Side) → f ≡ Tag side → tag side k ≡ x) → TurnStep g tag v (tag_at v f k x)
    tag_at_step (Tag side) k x is = record {
      left = refl;
      right = refl;
      place = same_place v.reading.place;
      links = λ all. every_mapped (IsLinkStill g tag) (IsLinkStill g tag) (with_tag k side x) v.reading.links
          (λ l here. subst (λ y. IsLinkStill g tag (with_tag k side y l)) (is side refl) (link_found k side l here)) all;
      known = λ hs all. every_mapped (IsLinkKnown g tag hs) (IsLinkKnown g tag hs) (with_tag k side x) v.reading.links
          (λ l here. subst (λ y. IsLinkKnown g tag hs (with_tag k side y l)) (is side refl) (link_kept hs k side l here)) all;
      held = record {
        links = λ j t. tag_kept_links k side x v.held.nodes j t (g.child t j);
        tags = λ j t.
            tag_kept_tags k side x v.held.nodes j t (tag t j)
            (λ node at. sym (is side refl) ∙ (ap (tag side) (sym node) ∙ ap (λ (s : Side). tag s j) (sym at)));
      };
    }
    tag_at_step _ k x is = no_step g tag v

    pub tag_step : (u : Word) (x : ℕ) → ((side : Side) (k : ℕ) → u ≡ Node (Tag side) k → tag side k ≡ x) → TurnStep g tag v (tag_from v u x)
    tag_step (Node f k) x is = tag_at_step f k x (λ side e. is side k (ap (λ (y : Field). Node y k) e))
    tag_step _ x is = no_step g tag v

    pub look_ann_step : (u : Word) (x : ℕ) → TurnStep g tag v (ann_from v u x)
    look_ann_step (Announced k) x = record {
      left = refl;
      right = refl;
      place = same_place v.reading.place;
      links = λ all. all;
      known = λ hs all. all;
      held = same_known g tag v.held.nodes v.held.nodes refl;
    }
    look_ann_step _ x = no_step g tag v

    pub cut_step : (z : Layout) (m : Memory) (u : Word) → TurnStep g tag v (cut_from z m v u)
    cut_step z m (Entry p e) = record {
      left = refl;
      right = refl;
      place = cut_place (cut_off z m e) v.reading.place;
      links = λ all. all;
      known = λ hs all. all;
      held = same_known g tag v.held.nodes v.held.nodes refl;
    }
    cut_step z m _ = no_step g tag v

module _ (z : Layout) (words : List ℕ) (vs : List View) (right : InRule z words vs) (i : ℕ) (v : View) (at : IsItem vs i v) where
  abbrev m : Memory
  m = memory z words

  abbrev gr0 : Graph
  gr0 = plain_graph m

  abbrev tags : Side → ℕ → ℕ
  tags side k = m (Node (Tag side) k)

  loaded : (x : View) → IsCalm v x → work_of x.update ≡ work_of v.update → TurnStep gr0 tags v x → TurnsAfter z m (set vs i x)
  loaded x calm work step =
      with_tree z words vs right (λ k. m (Node Mark k)) tags (set vs i x)
      (calm_kept z gr0 (λ k. m (Node Mark k)) tags right.plain_tree vs i v x at (turns_before z words vs right) calm work step)

  pub head_after : (w : Word) → TurnsAfter z m (set vs i (head_from v w (m w) (m (Entry Number (m w)))))
  head_after w =
      loaded (head_from v w (m w) (m (Entry Number (m w)))) (head_calm v w (m w) (m (Entry Number (m w))))
      (head_quiet NoClaims gr0.key v w (m w) (m (Entry Number (m w)))).work
      (head_step gr0 tags v w (m w) (m (Entry Number (m w))))

  pub ts_after : (w : Word) → TurnsAfter z m (set vs i (ts_from v w (m w)))
  ts_after w = loaded (ts_from v w (m w)) (ts_calm v w (m w)) (ts_quiet NoClaims gr0.key v w (m w)).work (ts_step gr0 tags v w (m w))

  pub ptr_after : (w : Word) → TurnsAfter z m (set vs i (ptr_from v w (m w)))
  ptr_after w = loaded (ptr_from v w (m w)) (ptr_calm v w (m w)) (ptr_quiet NoClaims gr0.key v w (m w)).work (ptr_step gr0 tags v w (m w))

  pub next_after : (w : Word) → TurnsAfter z m (set vs i (next_from v w (m w)))
  next_after w = loaded (next_from v w (m w)) (next_calm v w (m w)) (next_quiet NoClaims gr0.key v w (m w)).work (next_step gr0 tags v w (m w))

  pub mark_after : (w : Word) → TurnsAfter z m (set vs i (mark_from v w (m w)))
  mark_after w = loaded (mark_from v w (m w)) (mark_calm v w (m w)) (mark_quiet NoClaims gr0.key v w (m w)).work (mark_step gr0 tags v w (m w))

  pub pair_after : (w : Word) → TurnsAfter z m (set vs i (pair_from v w (m w)))
  pair_after w =
      loaded (pair_from v w (m w)) (pair_calm v w (m w)) (pair_quiet NoClaims (λ k. m (Node Key k)) v w (m w) (λ k is. ap m (sym is))).work
      (pair_step gr0 tags v w (m w))

  pub tag_after : (w : Word) → TurnsAfter z m (set vs i (tag_from v w (m w)))
  tag_after w =
      loaded (tag_from v w (m w)) (tag_calm v w (m w)) (tag_quiet NoClaims gr0.key v w (m w)).work (tag_step gr0 tags v w (m w) (λ side k is. ap m (sym is)))

  pub look_ann_after : (w : Word) → TurnsAfter z m (set vs i (ann_from v w (m w)))
  look_ann_after w = loaded (ann_from v w (m w)) (look_ann_calm v w (m w)) (look_ann_quiet NoClaims gr0.key v w (m w)).work (look_ann_step gr0 tags v w (m w))

pub head_turns : KeepsTurnsAt LoadHead
head_turns z words vs right i v at live n w found value o own met = head_after z words vs right i v at w

pub ts_turns : KeepsTurnsAt LoadTs
ts_turns z words vs right i v at live n w found value o own met = ts_after z words vs right i v at w

pub ptr_turns : KeepsTurnsAt LoadPtr
ptr_turns z words vs right i v at live n w found value o own met = ptr_after z words vs right i v at w

pub next_turns : KeepsTurnsAt LoadNext
next_turns z words vs right i v at live n w found value o own met = next_after z words vs right i v at w

pub mark_turns : KeepsTurnsAt LoadMark
mark_turns z words vs right i v at live n w found value o own met = mark_after z words vs right i v at w

pub pair_turns : KeepsTurnsAt LoadKeyOrVal
pair_turns z words vs right i v at live n w found value o own met = pair_after z words vs right i v at w

pub tag_turns : KeepsTurnsAt LoadTag
tag_turns z words vs right i v at live n w found value o own met = tag_after z words vs right i v at w

pub look_ann_turns : KeepsTurnsAt LookAnn
look_ann_turns z words vs right i v at live n w found value o own met = look_ann_after z words vs right i v at w
