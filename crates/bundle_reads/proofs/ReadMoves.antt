-- What loads leave of the view of a pass that holds no lock.
use Rattle.std.proofs.Common.{◌≡◌, ℕ, ◌<◌, ◌⊎◌, ◌==◌, ◌&&◌, List, [], Bool, true, false, not, arith, refl, ap, ◌∙◌, sym, subst, Option, Some, None, map}
use Rattle.key_map.specs.Lists.{count, has}
use Rattle.index_words.specs.declared.side.Side.{Side}
use Rattle.index_words.specs.declared.side.Side.TheVariants.{Right}
use Rattle.index_words.specs.declared.view.View.{View}
use Rattle.index_words.specs.declared.view.reading.Link.{Link as ViewLink}
use Rattle.index_words.specs.declared.view.reading.Place.{Place}
use Rattle.index_words.specs.declared.view.reading.Place.TheVariants.{Entry as AtEntry}
use Rattle.index_words.specs.declared.view.reading.TreeNode.{TreeNode}
use Rattle.index_words.specs.declared.view.update.HeldNext.{HeldNext}
use Rattle.index_words.specs.declared.view.update.HeldNode.{HeldNode}
use Rattle.index_words.specs.declared.word.Field.{Field}
use Rattle.core_grace.specs.Holds.{tree_slots}
use Rattle.core_grace.specs.Sections.{is_even}
use Rattle.core_events.specs.LoadMoves.{bundle_link, child_links, found_at, has_moved, head_loaded, is_above, is_watching, kept_if, locks, meets_pending, next_at, next_loaded, next_nexts, node_known, place_known, ptr_loaded, raised_if, remembered_if, stored_by, ts_loaded, with_held, with_place}
use Rattle.core_events.specs.LockMoves.{pair_known, pair_loaded, place_paired}
use Rattle.core_trees.specs.declared.link.Link.{Link}
use Rattle.plan_laws.proofs.Frames.{same-counts, moves-grow, waits-grow}
use Rattle.table_steps.specs.Loads.{IsTreeLink}
use Rattle.table_steps.specs.Passes.{Pass, Inside, IsSamePass}
use Rattle.bundle_reads.specs.Links.{InsideAt, LeadsThere}
use Rattle.bundle_reads.specs.Reads.{read_on, HasRead}

pub read_nothing : (v : View) → HasRead v v
read_nothing v = record { place = v.reading.place; above = v.reading.above; links = v.reading.links; waits = v.counts.waits; moves = v.counts.moves; view = refl; grown = same-counts v v refl }

pub read_more : (v w x : View) → HasRead v w → HasRead w x → HasRead v x
read_more v w x first second = record {
  place = second.place;
  above = second.above;
  links = second.links;
  waits = second.waits;
  moves = second.moves;
  view = second.view ∙ ap (λ (u : View). read_on u second.place second.above second.links second.waits second.moves) first.view;
  grown = record {
    busy = omega (arith, first.grown.busy, second.grown.busy);
    waits = omega (arith, first.grown.waits, second.grown.waits);
    moves = omega (arith, first.grown.moves, second.grown.moves);
  };
}

pub inside_still : (v w : View) → HasRead v w → Inside v → Inside w
inside_still v w read inside = record {
  odd = ap (λ (u : View). is_even u.section_word) read.view ∙ inside.odd;
  unlocked = ap (λ (u : View). u.held.nodes) read.view ∙ inside.unlocked;
}

pub inside_on : (v w : View) (t : ℕ) → HasRead v w → InsideAt v t → InsideAt w t
inside_on v w t read at = record {
  section = ap (λ (u : View). u.reading.section) read.view ∙ at.section;
  inside = inside_still v w read at.inside;
}

-- the tree that is read, and the layout, stay
pub tree_same : (v w : View) → HasRead v w → w.reading.tree ≡ v.reading.tree
tree_same v w read = ap (λ (u : View). u.reading.tree) read.view

pub layout_same : (v w : View) → HasRead v w → w.layout ≡ v.layout
layout_same v w read = ap (λ (u : View). u.layout) read.view

pub leads_before : (v w : View) (at : Link) (child : ℕ) → HasRead v w → LeadsThere w at child → LeadsThere v at child
leads_before v w at child read leads = λ tree is. leads tree (tree_same v w read ∙ is)

pub link_after : (v w : View) (node : ℕ) (side : Side) → HasRead v w → IsTreeLink v node side → IsTreeLink w node side
link_after v w node side read link =
    subst (λ (ns : List TreeNode). ((node ≡ 0) × (side ≡ Right)) ⊎ (0 < count node (tree_slots ns))) (sym (tree_same v w read)) link

-- the same pass
pub same_pass : (p : Pass) → IsSamePass p p
same_pass p = record { id = refl; seat = refl; number = refl; layout = refl }

pub same_more : (p q r : Pass) → IsSamePass p q → IsSamePass q r → IsSamePass p r
same_more p q r first second = record {
  id = second.id ∙ first.id;
  seat = second.seat ∙ first.seat;
  number = second.number ∙ first.number;
  layout = second.layout ∙ first.layout;
}

map_none : (f : HeldNode → HeldNode) (hs : List HeldNode) → hs ≡ [] → map f hs ≡ hs
map_none f hs none = ap (map f) none ∙ sym none

module _ (v w : View) (unlocked : v.held.nodes ≡ []) where
  pub head_read : (node : ℕ) (side : Side) (head number : ℕ) → w ≡ head_loaded v node side head number → HasRead v w
  head_read node side head number is =
      let links : List ViewLink = remembered_if (head == 0) v.reading.links (bundle_link node side 0 0) in
      let moved : Bool = has_moved v.reading.links node side head && not (stored_by v head number) in
      let moves : ℕ = raised_if moved v.counts.moves in
      let place : Place = AtEntry node side head None in
      record {
        place = place;
        above = None;
        links = links;
        waits = v.counts.waits;
        moves = moves;
        view = is ∙ ap (λ (hs : List HeldNode). record (with_place (with_held v hs v.held.nexts) place None links) { counts = record v.counts { moves = moves } })
            (map_none (found_at node side head) v.held.nodes unlocked);
        grown = moves-grow v w moved (ap (λ (u : View). u.counts) is);
      }

  pub ts_read : (e x : ℕ) → w ≡ ts_loaded v e x → HasRead v w
  ts_read e x is =
      let waiting : Bool = meets_pending v e x in
      let waits : ℕ = raised_if waiting v.counts.waits in
      let place : Place = place_known x v.reading.place in
      record {
        place = place;
        above = v.reading.above;
        links = v.reading.links;
        waits = waits;
        moves = v.counts.moves;
        view = is ∙ ap (λ (hs : List HeldNode). record (with_place (with_held v hs v.held.nexts) place v.reading.above v.reading.links) { counts = record v.counts { waits = waits } })
            (map_none (node_known e x) v.held.nodes unlocked);
        grown = waits-grow v w waiting (ap (λ (u : View). u.counts) is);
      }

  pub ptr_read : (child : ℕ) → w ≡ ptr_loaded v child → HasRead v w
  ptr_read child is = record {
    place = v.reading.place;
    above = v.reading.above;
    links = child_links v v.reading.place child;
    waits = v.counts.waits;
    moves = v.counts.moves;
    view = is;
    grown = same-counts v w (ap (λ (u : View). u.counts) is);
  }

  pub next_read : (node : ℕ) (side : Side) (found : Option ℕ) (e next : ℕ) → v.reading.place ≡ AtEntry node side e found → w ≡ next_loaded v e next → HasRead v w
  next_read node side found e next here is =
      let links : List ViewLink = remembered_if (next == 0 && is_above v e found) v.reading.links (bundle_link node side 0 0) in
      let place : Place = AtEntry node side next None in
      record {
        place = place;
        above = found;
        links = links;
        waits = v.counts.waits;
        moves = v.counts.moves;
        view = is ∙ ap (λ (p : Place). next_at v p e next) here ∙ ap (λ (ns : List HeldNext). with_place (with_held v v.held.nodes ns) place found links) no_nexts;
        grown = same-counts v w (ap (λ (u : View). u.counts) (is ∙ ap (λ (p : Place). next_at v p e next) here));
      }
    where
      no_nexts : next_nexts v node e found next ≡ v.held.nexts
      no_nexts = ap (λ (hs : List HeldNode). kept_if (locks node hs) v.held.nexts (record { node = node; entry = e; stamp = found; next = next })) unlocked

  -- a key is kept with the place of a search on plain links
  pub pair_read : (field : Field) (node x : ℕ) → w ≡ pair_loaded v field node x → HasRead v w
  pair_read field node x is =
      let place : Place = place_paired field node x v.reading.place in
      record {
        place = place;
        above = v.reading.above;
        links = v.reading.links;
        waits = v.counts.waits;
        moves = v.counts.moves;
        view = is ∙ ap (λ (hs : List HeldNode). record v { reading = record v.reading { place = place }; held = record v.held { nodes = hs } }) (map_none (pair_known field node x) v.held.nodes unlocked);
        grown = same-counts v w (ap (λ (u : View). u.counts) is);
      }

-- what a load of a head or of a next leaves
pub head_place : (v w : View) (node : ℕ) (side : Side) (head number : ℕ) → w ≡ head_loaded v node side head number → w.reading.place ≡ AtEntry node side head None
head_place v w node side head number is = ap (λ (u : View). u.reading.place) is

pub head_waits : (v w : View) (node : ℕ) (side : Side) (head number : ℕ) → w ≡ head_loaded v node side head number → w.counts.waits ≡ v.counts.waits
head_waits v w node side head number is = ap (λ (u : View). u.counts.waits) is

pub next_place : (v w : View) (node : ℕ) (side : Side) (found : Option ℕ) (e next : ℕ) → v.reading.place ≡ AtEntry node side e found → w ≡ next_loaded v e next → w.reading.place ≡ AtEntry node side next None
next_place v w node side found e next here is = ap (λ (u : View). u.reading.place) (is ∙ ap (λ (p : Place). next_at v p e next) here)

pub next_waits : (v w : View) (node : ℕ) (side : Side) (found : Option ℕ) (e next : ℕ) → v.reading.place ≡ AtEntry node side e found → w ≡ next_loaded v e next → w.counts.waits ≡ v.counts.waits
next_waits v w node side found e next here is = ap (λ (u : View). u.counts.waits) (is ∙ ap (λ (p : Place). next_at v p e next) here)

pub head_above : (v w : View) (node : ℕ) (side : Side) (head number : ℕ) → w ≡ head_loaded v node side head number → w.reading.above ≡ None
head_above v w node side head number is = ap (λ (u : View). u.reading.above) is

pub next_above : (v w : View) (node : ℕ) (side : Side) (found : Option ℕ) (e next : ℕ) → v.reading.place ≡ AtEntry node side e found → w ≡ next_loaded v e next → w.reading.above ≡ found
next_above v w node side found e next here is = ap (λ (u : View). u.reading.above) (is ∙ ap (λ (p : Place). next_at v p e next) here)

-- and of a stamp
pub ts_place : (v w : View) (node : ℕ) (side : Side) (found : Option ℕ) (e x : ℕ) → v.reading.place ≡ AtEntry node side e found → w ≡ ts_loaded v e x → w.reading.place ≡ AtEntry node side e (Some x)
ts_place v w node side found e x here is = ap (λ (u : View). u.reading.place) is ∙ ap (place_known x) here

pub ts_waits : (v w : View) (e x : ℕ) → v.update.pending ≡ [] → is_watching v v.reading.place ≡ true → w ≡ ts_loaded v e x → w.counts.waits ≡ raised_if (x == 0) v.counts.waits
ts_waits v w e x none watching is =
    ap (λ (u : View). u.counts.waits) is
    ∙ ap (λ (es : List ℕ). raised_if (x == 0 && not (has e es) && is_watching v v.reading.place) v.counts.waits) none
    ∙ ap (λ (b : Bool). raised_if (x == 0 && true && b) v.counts.waits) watching
    ∙ ap (λ (b : Bool). raised_if b v.counts.waits) (and_true (x == 0))
  where
    and_true : (b : Bool) → (b && true && true) ≡ b
    and_true true = refl
    and_true false = refl
