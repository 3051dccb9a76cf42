-- The nodes of a search: where it stands, where it last turned, and where it found a plain link that it remembers.
use Rattle.std.proofs.Common.{◌≡◌, ℕ, zero, suc, ◌+◌, ◌<◌, List, [], ◌∷◌, cond, true, eqb, arith, ap, sym, subst, inr, Option, Some}
use Rattle.std.specs.List.{flat_map}
use Rattle.std.proofs.lemmas.Bool.Decides.{nat_tests}
use Rattle.index_words.specs.declared.side.Side.{Side}
use Rattle.index_words.specs.declared.side.Side.TheVariants.{Left, Right}
use Rattle.index_words.specs.declared.view.View.{View}
use Rattle.index_words.specs.declared.view.reading.Link.{Link as ViewLink}
use Rattle.index_words.specs.declared.view.reading.LinkSource.{LinkSource}
use Rattle.index_words.specs.declared.view.reading.LinkSource.TheVariants.{Bundle, Plain}
use Rattle.index_words.specs.declared.view.reading.Place.TheVariants.{Node as AtNode, Gap as AtGap}
use Rattle.index_words.specs.declared.view.reading.Turn.{Turn}
use Rattle.key_map.specs.Lists.{count, IsItem}
use Rattle.key_map.proofs.Counting.{count-append}
use Rattle.core_events.specs.Searches.{is_plain, link_nodes, place_nodes, search_nodes, source_nodes, turn_nodes}
use Rattle.core_invariant.proofs.SearchNodes.{links_count, search_count}
use Rattle.core_laws.specs.Searching.{last_turn}
use Rattle.core_laws.specs.ViewNeeds.{IsSearched}
use Rattle.core_trees.specs.declared.link.Link.{Link}
use Rattle.plan_laws.proofs.Items.{item-above}
use Rattle.plan_laws.specs.Looks.{RemembersLink}

-- the node is one at which a search stands, last turned, or found a link that it remembers
abbrev pub IsNode : View → ℕ → Type 0
IsNode v k = 0 < count k (search_nodes 0 v.reading)

self : (k n : ℕ) → 0 < cond (eqb k k) 1 0 + n
self k n = grind (arith, nat_tests)

counts : (k : ℕ) (ks : List ℕ) → ks ≡ k ∷ [] → 0 < count k ks
counts k ks is = subst (λ (xs : List ℕ). 0 < count k xs) (sym is) (self k 0)

pub place_node : (v : View) (k : ℕ) (key : Option ℕ) → v.reading.place ≡ AtNode k key → IsNode v k
place_node v k key is = omega (arith, search_count k 0 v.reading, counts k (place_nodes 0 v.reading.place) (ap (place_nodes 0) is))

pub turn_node : (v : View) (side : Side) (t : Turn) → last_turn side v.reading ≡ Some t → IsNode v t.node
turn_node v Left t is = omega (arith, search_count t.node 0 v.reading, counts t.node (turn_nodes v.reading.left_turn) (ap turn_nodes is))
turn_node v Right t is = omega (arith, search_count t.node 0 v.reading, counts t.node (turn_nodes v.reading.right_turn) (ap turn_nodes is))

plain_node : (k : ℕ) (s : LinkSource) → is_plain s ≡ true → 0 < count k (source_nodes k s)
plain_node k (Bundle entry) is = cc
plain_node k (Plain tag above below) is = self k 0

links_node : (ls : List ViewLink) (i : ℕ) (l : ViewLink) → IsItem ls i l → is_plain l.source ≡ true → 0 < links_count l.node ls
links_node [] i l at plain = absurd (omega (arith, at.within))
links_node (x ∷ ls) zero l at plain =
    let here : 0 < count l.node (link_nodes x) = subst (λ (y : ViewLink). 0 < count l.node (link_nodes y)) (sym (at.is x)) (plain_node l.node l.source plain) in
    omega (arith, here, count-append l.node (link_nodes x) (flat_map link_nodes ls))
links_node (x ∷ ls) (suc i) l at plain =
    omega (arith, links_node ls i l (item-above x l ls i at) plain, count-append l.node (link_nodes x) (flat_map link_nodes ls))

pub link_node : (v : View) (at : Link) (child : ℕ) → RemembersLink v at child → IsNode v at.node
link_node v at child r =
    subst (IsNode v) r.node_is (omega (arith, search_count r.link.node 0 v.reading, links_node v.reading.links r.place r.link r.is r.plain))

pub searched : (v : View) (k : ℕ) → IsNode v k → IsSearched v k
searched v k some = inr some
