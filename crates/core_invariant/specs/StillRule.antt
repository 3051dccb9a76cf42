-- The rule on a table of one pass: as long as the only seat that may read has not raised, nothing changes; and it knows
-- what it has set itself.
use Rattle.std.specs.Prelude.{◌≡◌, ℕ, ◌<◌, ◌⊎◌, List, true, false, None, IfSome}
use Rattle.index_words.specs.declared.layout.Layout.{Layout}
use Rattle.index_words.specs.declared.side.Side.{Side}
use Rattle.index_words.specs.declared.view.View.{View}
use Rattle.index_words.specs.declared.view.reading.Link.{Link as ViewLink}
use Rattle.index_words.specs.declared.view.reading.LinkSource.{LinkSource}
use Rattle.index_words.specs.declared.view.reading.LinkSource.TheVariants.{Bundle, Plain}
use Rattle.index_words.specs.declared.view.update.HeldNode.{HeldNode}
use Rattle.key_map.specs.Lists.{count, Every}
use Rattle.core_grace.specs.Sections.{is_even}
use Rattle.core_trees.specs.NamedTree.{NamedTree}
use Rattle.core_trees.specs.Slots.{occurs}
use Rattle.core_trees.specs.SpelledTree.{Graph}
use Rattle.core_events.specs.Searches.{search_nodes, knows_link, knows_tag}

-- a plain link and its tag hold what is remembered of them
abbrev pub IsSourceStill : ℕ → ℕ → ℕ → LinkSource → Type 0
IsSourceStill link tag child (Bundle entry) = Unit {0}
IsSourceStill link tag child (Plain found above below) = (link ≡ child) × IfSome found (λ x. tag ≡ x)

-- over the plain links and their tags
abbrev pub IsLinkStill : Graph → (Side → ℕ → ℕ) → ViewLink → Type 0
IsLinkStill g tag l = IsSourceStill (g.child l.side l.node) (tag l.side l.node) l.child l.source

-- the plain links that it remembers are as they were found, and the nodes of its search, except the root, are in the
-- plain tree
pub record StaysStill (g : Graph) (tag : Side → ℕ → ℕ) (plain : NamedTree) (v : View) : Type 0 where
  pub links : Every (IsLinkStill g tag) v.reading.links
  pub there : (k : ℕ) → 0 < k → 0 < count k (search_nodes 0 v.reading) → 0 < occurs k plain

abbrev pub StillRight : Layout → Graph → (Side → ℕ → ℕ) → NamedTree → View → Type 0
StillRight z g tag plain v = z.passes ≡ 1 → is_even v.section_word ≡ false → v.update.raised ≡ None → StaysStill g tag plain v

-- a plain link and its tag hold what is remembered of them, or what the seat knows under its lock
abbrev pub IsSourceKnown : List HeldNode → ℕ → Side → ℕ → ℕ → ℕ → LinkSource → Type 0
IsSourceKnown hs node side link tag child (Bundle entry) = Unit {0}
IsSourceKnown hs node side link tag child (Plain found above below) =
    ((link ≡ child) ⊎ (knows_link hs node side link ≡ true)) × IfSome found (λ x. (tag ≡ x) ⊎ (knows_tag hs node side tag ≡ true))

abbrev pub IsLinkKnown : Graph → (Side → ℕ → ℕ) → List HeldNode → ViewLink → Type 0
IsLinkKnown g tag hs l = IsSourceKnown hs l.node l.side (g.child l.side l.node) (tag l.side l.node) l.child l.source

-- of each seat, whether it has raised or not
abbrev pub KnownRight : Layout → Graph → (Side → ℕ → ℕ) → View → Type 0
KnownRight z g tag v = z.passes ≡ 1 → Every (IsLinkKnown g tag v.held.nodes) v.reading.links
