-- The rule on readers: where a seat stands in a bundle, and the links that it remembers.
use Rattle.std.specs.Prelude.{◌≡◌, ℕ, ◌<◌, ◌≤◌, ◌⊎◌, true, List, [], ◌∷◌, ◌++◌, Option, Some, None, IfSome, is_some}
use Rattle.index_words.specs.declared.layout.Layout.{Layout}
use Rattle.index_words.specs.declared.view.View.{View}
use Rattle.index_words.specs.declared.view.reading.Reading.{Reading}
use Rattle.index_words.specs.declared.view.reading.TreeNode.{TreeNode}
use Rattle.index_words.specs.declared.view.reading.Place.{Place}
use Rattle.index_words.specs.declared.view.reading.Place.TheVariants.{Entry}
use Rattle.index_words.specs.declared.view.reading.Link.{Link}
use Rattle.index_words.specs.declared.view.reading.LinkSource.{LinkSource}
use Rattle.index_words.specs.declared.view.reading.LinkSource.TheVariants.{Bundle, Plain}
use Rattle.key_map.specs.Lists.{count, Every}
use Rattle.core_grace.specs.Holds.{Bundles, ReadsNode, held_slots, tree_slots}
use Rattle.core_links.specs.Bundle.{select, child_of_entry}

-- the section number is at most the stamp, and an open snapshot has it; without one no tree is read, and the
-- nodes of a tree are slots of the table
pub record VersionRightOf (z : Layout) (s : ℕ) (section snapshot : Option ℕ) (tree : List TreeNode) : Type 0 where
  pub past : IfSome section (λ t. t ≤ s)
  pub opened : IfSome snapshot (λ t. section ≡ Some t)
  pub bare : section ≡ None → tree ≡ []
  pub there : (k : ℕ) → 0 < count k (tree_slots tree) → k ≤ z.nodes

abbrev pub VersionRight : Layout → ℕ → Reading → Type 0
VersionRight z s r = VersionRightOf z s r.section r.opened r.tree

-- the node is the root, or the seat reads it or works on it
abbrev pub IsReachable : Layout → View → ℕ → Type 0
IsReachable z v k = (k ≤ z.nodes) × ((k ≡ 0) ⊎ ReadsNode v k)

abbrev pub IsLocked : View → ℕ → Type 0
IsLocked v k = 0 < count k (held_slots v.held.nodes)

-- what stands in the node's bundles stays for the seat: it has locked the node, or it reads at a number
abbrev pub IsWatched : View → ℕ → Type 0
IsWatched v k = IsLocked v k ⊎ (is_some v.reading.section ≡ true)

-- the entry's number is written, and below that of the entry which the seat left for it, if that was loaded and written
abbrev pub IsBelow : (ℕ → ℕ) → ℕ → Option ℕ → Type 0
IsBelow stamp e above = IfSome above (λ x. 0 < x → (0 < stamp e) × (stamp e < x))

-- the entry stands in the bundle, and each entry before it is one that the seat may be past; a number that was found in
-- its stamp is still there, and it is below the number of the entry left for it
pub record StandsAt (stamp : ℕ → ℕ) (es : List ℕ) (e : ℕ) (loaded above : Option ℕ) (unread : ℕ → Type 0) : Type 0 where
  pub front : List ℕ
  pub back : List ℕ
  pub splits : es ≡ front ++ e ∷ back
  pub passed : Every unread front
  pub found : IfSome loaded (λ x. 0 < x → stamp e ≡ x)
  pub falls : IsBelow stamp e above

-- the seat may be past the entry: its number is above the seat's, or the seat has locked the node
abbrev pub IsPassed : (ℕ → ℕ) → View → ℕ → ℕ → Type 0
IsPassed number v node e = IfSome v.reading.section (λ t. IsLocked v node ⊎ (t < number e))

-- a place in a bundle, over what its node and its bundle are to the seat: the node is reachable, and if the seat
-- watches it the entry stands in the bundle
pub record EntryPlace (reachable watched : Type 0) (stamp : ℕ → ℕ) (es : List ℕ) (entry : ℕ) (found above : Option ℕ) (unread : ℕ → Type 0) : Type 0 where
  pub reach : reachable
  pub stands : 0 < entry → watched → StandsAt stamp es entry found above unread

-- where the seat stands, over the stamps of entries
abbrev pub PlaceRight : Layout → (ℕ → ℕ) → Bundles → View → Place → Type 0
PlaceRight z stamp b v (Entry node side entry found) =
    EntryPlace (IsReachable z v node) (IsWatched v node) stamp (b.bundle side node) entry found v.reading.above (IsPassed b.number v node)
PlaceRight z stamp b v _ = Unit {0}

-- a link is remembered with the entry that the section number selects, and with its child; without a section number
-- with neither
abbrev pub EntryRight : (ℕ → ℕ) → (ℕ → ℕ) → List ℕ → Option ℕ → ℕ → ℕ → Type 0
EntryRight child number es None c entry = (entry ≡ 0) × (c ≡ 0)
EntryRight child number es (Some t) c entry = (select number t es ≡ entry) × (child_of_entry child entry ≡ c)

-- a link that was found through its bundle: its node is reachable, and the link is remembered as said
pub record BundleLink (reachable : Type 0) (child number : ℕ → ℕ) (es : List ℕ) (section : Option ℕ) (c entry : ℕ) : Type 0 where
  pub reach : reachable
  pub selected : EntryRight child number es section c entry

-- nothing is said here of a link that was found as a plain one
abbrev pub SourceRight : Type 0 → (ℕ → ℕ) → (ℕ → ℕ) → List ℕ → Option ℕ → ℕ → LinkSource → Type 0
SourceRight reachable child number es section c (Bundle entry) = BundleLink reachable child number es section c entry
SourceRight reachable child number es section c (Plain tag above below) = Unit {0}

-- a remembered link, over the children of entries
abbrev pub LinkRight : Layout → (ℕ → ℕ) → Bundles → View → Link → Type 0
LinkRight z child b v l = SourceRight (IsReachable z v l.node) child b.number (b.bundle l.side l.node) v.reading.section l.child l.source
