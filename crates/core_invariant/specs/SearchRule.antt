-- The rule on searches on plain links: what a seat may claim of the node at which its search stands, and of the null
-- links that it remembers.
use Rattle.std.specs.Prelude.{◌≡◌, ℕ, ◌<◌, List, Bool, false, not, ◌==◌, ◌&&◌, Option, Some, None, IfSome}
use Rattle.std.specs.List.{list_any}
use Rattle.index_words.specs.declared.side.Side.{Side}
use Rattle.index_words.specs.declared.side.Side.TheVariants.{Right}
use Rattle.index_words.specs.declared.view.View.{View}
use Rattle.index_words.specs.declared.view.reading.Place.{Place}
use Rattle.index_words.specs.declared.view.reading.Place.TheVariants.{Node as AtNode, Gap}
use Rattle.index_words.specs.declared.view.reading.Link.{Link}
use Rattle.index_words.specs.declared.view.reading.LinkSource.{LinkSource}
use Rattle.index_words.specs.declared.view.reading.LinkSource.TheVariants.{Bundle, Plain}
use Rattle.index_words.specs.declared.view.update.Unlinking.{Unlinking}
use Rattle.key_map.specs.Lists.{Every}
use Rattle.core_trees.specs.NamedTree.{NamedTree}
use Rattle.core_trees.specs.Slots.{occurs}
use Rattle.core_trees.specs.SpelledTree.{Graph}
use Rattle.core_events.specs.Searches.{turn_key}
use Rattle.core_invariant.specs.PlainTree.{undone}
use Rattle.core_invariant.specs.Reached.{HoldsPlain, has_let}
use Rattle.plain_trees.specs.Claims.{IsWaiting, ClaimsInTurns}
use Rattle.plain_trees.specs.Matching.{IsBypassed}
use Rattle.plain_trees.specs.NullLinks.{turn_of}

-- the removed node and its successor
abbrev pub unlinks : ℕ → ℕ → Option Unlinking → Bool
unlinks removed successor None = false
unlinks removed successor (Some u) = u.replaced == removed && u.successor == successor

-- the second view's removal still has to unlink the successor, and has not passed the first view since
abbrev pub waits_for : View → ℕ → ℕ → View → Bool
waits_for v removed successor w = unlinks removed successor w.update.unlinking && not (has_let w.update.waiting v.number v.section_word)

abbrev pub waits : List View → View → ℕ → ℕ → Bool
waits vs v removed successor = list_any (waits_for v removed successor) vs

-- what a seat claims of a node, between the keys of two turns
abbrev pub ClaimsAt : Graph → List View → NamedTree → View → Option ℕ → Option ℕ → ℕ → Type 0
ClaimsAt g vs plain v low high node = ClaimsInTurns g (IsBypassed (undone g vs)) (IsWaiting (waits vs v)) plain low high node

-- it claims it of the node at which its search stands or has ended, between its turns' keys
abbrev pub PlaceClaims : (Option ℕ → Option ℕ → ℕ → Type 0) → Option ℕ → Option ℕ → Place → Type 0
PlaceClaims claims low high (AtNode node key) = claims low high node
PlaceClaims claims low high (Gap node side) = claims low high node
PlaceClaims claims low high _ = Unit {0}

-- and of the node of each null link that it remembers, with the turns that are kept with the link
abbrev pub SourceClaims : (Option ℕ → Option ℕ → ℕ → Type 0) → ℕ → ℕ → LinkSource → Type 0
SourceClaims claims node child (Bundle entry) = Unit {0}
SourceClaims claims node child (Plain tag above below) = child ≡ 0 → claims below above node

abbrev pub LinkClaims : (Option ℕ → Option ℕ → ℕ → Type 0) → Link → Type 0
LinkClaims claims l = SourceClaims claims l.node l.child l.source

-- a search stands at a node, and a key that was loaded is the node's
abbrev pub PlaceKey : (ℕ → ℕ) → Place → Type 0
PlaceKey key_of (AtNode node key) = (0 < node) × IfSome key (λ x. key_of node ≡ x)
PlaceKey key_of _ = Unit {0}

-- the node of a plain link is the turn of that side, except the root, which uses its right link alone
abbrev pub SourceKeys : (ℕ → ℕ) → ℕ → Side → LinkSource → Type 0
SourceKeys key_of node side (Bundle entry) = Unit {0}
SourceKeys key_of node side (Plain tag above below) = (node ≡ 0 → side ≡ Right) × (¬ (node ≡ 0) → turn_of side below above ≡ Some (key_of node))

abbrev pub LinkKeys : (ℕ → ℕ) → Link → Type 0
LinkKeys key_of l = SourceKeys key_of l.node l.side l.source

-- One seat. Of the nodes that its search reaches, those of the tree at the stamp are in the plain tree. Before its
-- raise it claims only what a search may claim.
pub record SearchRight (g : Graph) (vs : List View) (now plain : NamedTree) (v : View) : Type 0 where
  pub ahead : (k : ℕ) → HoldsPlain g v k → 0 < occurs k now → 0 < occurs k plain
  pub key : PlaceKey g.key v.reading.place
  pub keys : Every (LinkKeys g.key) v.reading.links
  pub place : v.update.raised ≡ None → PlaceClaims (ClaimsAt g vs plain v) (turn_key v.reading.right_turn) (turn_key v.reading.left_turn) v.reading.place
  pub links : v.update.raised ≡ None → Every (LinkClaims (ClaimsAt g vs plain v)) v.reading.links
