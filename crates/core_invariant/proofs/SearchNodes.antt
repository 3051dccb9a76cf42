-- The nodes of a search on plain links, if a view moves: those at which it stands, turned, or found a link.
use Rattle.std.proofs.Common.{◌≡◌, ℕ, ◌+◌, ◌<◌, ◌≤◌, ◌⊎◌, inl, inr, eqb, List, [], ◌∷◌, ◌++◌, cond, Bool, true, false, map, arith, refl, ap, ◌∙◌, sym, subst, Option, Some, None}
use Rattle.std.specs.List.{flat_map}
use Rattle.std.proofs.lemmas.Bool.{cases_lt, eqb-true}
use Rattle.index_words.specs.declared.side.Side.{Side}
use Rattle.index_words.specs.declared.side.Side.TheVariants.{Right}
use Rattle.index_words.specs.declared.view.View.{View}
use Rattle.index_words.specs.declared.view.reading.Reading.{Reading}
use Rattle.index_words.specs.declared.view.reading.Turn.{Turn}
use Rattle.index_words.specs.declared.view.reading.Place.{Place}
use Rattle.index_words.specs.declared.view.reading.Place.TheVariants.{Nowhere}
use Rattle.index_words.specs.declared.view.reading.Link.{Link}
use Rattle.index_words.specs.declared.view.reading.LinkSource.{LinkSource}
use Rattle.index_words.specs.declared.view.reading.LinkSource.TheVariants.{Bundle, Plain}
use Rattle.key_map.specs.Lists.{count}
use Rattle.key_map.proofs.Counting.{count-append}
use Rattle.core_grace.specs.Sections.{is_even}
use Rattle.core_trees.specs.SpelledTree.{Graph}
use Rattle.core_events.specs.LoadMoves.{remembered_if, bundle_link}
use Rattle.core_events.specs.Searches.{place_nodes, turn_nodes, source_nodes, link_nodes, search_nodes, tag_found, with_tag}
use Rattle.core_invariant.specs.Reached.{HoldsPlain}

-- how often a node is one of the links'
abbrev pub links_count : ℕ → List Link → ℕ
links_count a ls = count a (flat_map link_nodes ls)

pub links_push : (a : ℕ) (ls : List Link) (l : Link) → links_count a (ls ++ l ∷ []) ≡ links_count a ls + count a (link_nodes l)
links_push a [] l = omega (arith, count-append a (link_nodes l) [])
links_push a (x ∷ ls) l = omega (
  arith,
  count-append a (link_nodes x) (flat_map link_nodes (ls ++ l ∷ [])),
  count-append a (link_nodes x) (flat_map link_nodes ls),
  links_push a ls l,
)

-- a link that was found through its bundle adds none
pub links_bundle : (a : ℕ) (b : Bool) (ls : List Link) (node : ℕ) (side : Side) (child entry : ℕ) → links_count a (remembered_if b ls (bundle_link node side child entry)) ≡ links_count a ls
links_bundle a true ls node side child entry = omega (arith, links_push a ls (bundle_link node side child entry))
links_bundle a false ls node side child entry = refl

source_tagged : (node x : ℕ) (s : LinkSource) → source_nodes node (tag_found x s) ≡ source_nodes node s
source_tagged node x (Bundle entry) = refl
source_tagged node x (Plain None above below) = refl
source_tagged node x (Plain (Some tag) above below) = refl

link_tagged : (x : ℕ) (b : Bool) (l : Link) → link_nodes (cond b (record l { source = tag_found x l.source }) l) ≡ link_nodes l
link_tagged x true l = source_tagged l.node x l.source
link_tagged x false l = refl

-- nor does a tag
pub links_tagged : (k : ℕ) (side : Side) (x : ℕ) (ls : List Link) → flat_map link_nodes (map (with_tag k side x) ls) ≡ flat_map link_nodes ls
links_tagged k side x [] = refl
links_tagged k side x (l ∷ ls) =
    ap (λ (ks : List ℕ). ks ++ flat_map link_nodes (map (with_tag k side x) ls)) (link_tagged x _ l) ∙ ap (λ (ks : List ℕ). link_nodes l ++ ks) (links_tagged k side x ls)

-- how often a node is one of a search's
pub search_count : (a top : ℕ) (r : Reading)
    → count a (search_nodes top r) ≡ count a (place_nodes top r.place) + (count a (turn_nodes r.left_turn) + (count a (turn_nodes r.right_turn) + links_count a r.links))
search_count a top r = omega (
  arith,
  count-append a (place_nodes top r.place) (turn_nodes r.left_turn ++ (turn_nodes r.right_turn ++ flat_map link_nodes r.links)),
  count-append a (turn_nodes r.left_turn) (turn_nodes r.right_turn ++ flat_map link_nodes r.links),
  count-append a (turn_nodes r.right_turn) (flat_map link_nodes r.links),
)

-- the second view searches at no other nodes than the first one, in the same section, and has no more slots in its
-- lists
pub record IsCalm (v w : View) : Type 0 where
  pub word : w.section_word ≡ v.section_word
  pub number : w.number ≡ v.number
  pub free : (k : ℕ) → count k w.free.nodes ≤ count k v.free.nodes
  pub batch : w.batch ≡ v.batch
  pub grace : w.grace ≡ v.grace
  pub nodes : (a top : ℕ) → count a (search_nodes top w.reading) ≤ count a (search_nodes top v.reading)

-- a view that has the same search
pub same_search : (v w : View) → w.section_word ≡ v.section_word → w.number ≡ v.number → ((k : ℕ) → count k w.free.nodes ≤ count k v.free.nodes) → w.batch ≡ v.batch → w.grace ≡ v.grace
    → ((top : ℕ) → search_nodes top w.reading ≡ search_nodes top v.reading) → IsCalm v w
same_search v w word number free batch grace nodes =
    record { word = word; number = number; free = free; batch = batch; grace = grace; nodes = λ a top. omega (arith, ap (count a) (nodes top)) }

-- a view with another place and other links
pub less_search : (v w : View) → w.section_word ≡ v.section_word → w.number ≡ v.number → ((k : ℕ) → count k w.free.nodes ≤ count k v.free.nodes) → w.batch ≡ v.batch → w.grace ≡ v.grace
    → w.reading.left_turn ≡ v.reading.left_turn → w.reading.right_turn ≡ v.reading.right_turn
    → ((a top : ℕ) → count a (place_nodes top w.reading.place) ≤ count a (place_nodes top v.reading.place))
    → ((a : ℕ) → links_count a w.reading.links ≤ links_count a v.reading.links) → IsCalm v w
less_search v w word number free batch grace left right place links = record {
  word = word;
  number = number;
  free = free;
  batch = batch;
  grace = grace;
  nodes = λ a top. omega (
    arith,
    search_count a top w.reading,
    search_count a top v.reading,
    ap (λ (t : Option Turn). count a (turn_nodes t)) left,
    ap (λ (t : Option Turn). count a (turn_nodes t)) right,
    place a top,
    links a,
  );
}

pub still_same : (v : View) → IsCalm v v
still_same v = same_search v v refl refl (λ k. omega arith) refl refl (λ top. refl)

-- it reaches no other nodes
pub calm_reach : (g : Graph) (v w : View) → IsCalm v w → (k : ℕ) → HoldsPlain g w k → HoldsPlain g v k
calm_reach g v w calm k holds = record {
  inside = subst (λ x. is_even x ≡ false) calm.word holds.inside;
  some = holds.some;
  from = holds.from;
  searched = omega (arith, holds.searched, calm.nodes holds.from (g.child Right 0));
  reached = holds.reached;
}

place_top : (a top top' : ℕ) (p : Place) → 0 < count a (place_nodes top p) → (a ≡ top) ⊎ (0 < count a (place_nodes top' p))
place_top a top top' Nowhere some = one_of (eqb top a) refl some
  where
    one_of : (b : Bool) → eqb top a ≡ b → 0 < cond b 1 0 + 0 → (a ≡ top) ⊎ (0 < count a (top' ∷ []))
    one_of true is here = inl (sym (eqb-true top a is))
    one_of false is here = absurd (omega (arith, here))
place_top a top top' _ some = inr some

-- a node of a search is the root's child, or one whatever the root's child is
pub search_top : (a top top' : ℕ) (r : Reading) → 0 < count a (search_nodes top r) → (a ≡ top) ⊎ (0 < count a (search_nodes top' r))
search_top a top top' r some =
    elim (cases_lt 0 (count a (place_nodes top r.place))) as (λ _. (a ≡ top) ⊎ (0 < count a (search_nodes top' r))) [
      | inl here ↦ elim (place_top a top top' r.place here) as (λ _. (a ≡ top) ⊎ (0 < count a (search_nodes top' r))) [
        | inl is ↦ inl is
        | inr there ↦ inr (omega (arith, there, search_count a top' r))
      ]
      | inr none ↦ inr (omega (arith, none, some, search_count a top r, search_count a top' r))
    ]
