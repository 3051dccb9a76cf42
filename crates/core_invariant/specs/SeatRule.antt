-- The rule on one seat.
use Rattle.std.specs.Prelude.{◌≡◌, ℕ, List, false, Option, IfSome}
use Rattle.index_words.specs.declared.layout.Layout.{Layout}
use Rattle.index_words.specs.declared.view.View.{View}
use Rattle.index_words.specs.declared.word.Field.TheVariants.{Key, Val, Lock, Mark, Head}
use Rattle.index_words.specs.declared.word.Part.TheVariants.{Child, Stamp as Number}
use Rattle.index_words.specs.declared.word.Word.TheVariants.{Stamp, Section, Announced, Node, Entry}
use Rattle.index_words.specs.Words.{Memory}
use Rattle.key_map.specs.Lists.{Every}
use Rattle.core_invariant.specs.Meanings.{Meaning}
use Rattle.core_invariant.specs.Histories.{SeenRight}
use Rattle.core_invariant.specs.SectionRule.{SectionRight}
use Rattle.core_invariant.specs.Locks.{LocksRight, LoadedRight, MarksRight}
use Rattle.core_invariant.specs.BundleRule.{IsPending, UpdateRight}
use Rattle.core_invariant.specs.Readers.{VersionRight, PlaceRight, LinkRight}
use Rattle.core_invariant.specs.PruneRule.{AnnouncedRight}
use Rattle.core_invariant.specs.FilledRule.{FilledRight}
use Rattle.core_events.specs.Versions.{ReadsVersion}
use Rattle.index_words.specs.declared.view.reading.TreeNode.{TreeNode}

-- a view that was not joined away has the table's layout
abbrev pub HasLayout : Layout → View → Type 0
HasLayout z v = v.joined ≡ false → v.layout ≡ z

-- a seat with a section number has the nodes of the tree at that number
abbrev pub TreeRight : Memory → Meaning → Option ℕ → List TreeNode → Type 0
TreeRight m g section nodes =
    IfSome section (λ t. ReadsVersion (λ k. m (Node Key k)) (λ k. m (Node Val k)) (λ e. m (Entry Child e)) g.bundles g.updates (m Stamp) g.tree t nodes)

pub record SeatRight (z : Layout) (m : Memory) (g : Meaning) (v : View) : Type 0 where
  pub layout : HasLayout z v
  pub section : SectionRight (λ n. m (Section n)) (λ n. m (Announced n)) v
  pub seen : SeenRight g.updates v.history
  pub update : UpdateRight (m Stamp) v.update
  pub version : VersionRight z (m Stamp) v.reading
  pub announced : AnnouncedRight (m Stamp) v
  pub tree : TreeRight m g v.reading.section v.reading.tree
  pub locks : LocksRight z (λ k. m (Node Lock k)) v
  pub loaded : LoadedRight m g.bundles v
  pub marks : MarksRight (λ k. m (Node Mark k)) v
  pub pending : Every (IsPending z (λ s k. m (Node (Head s) k)) (λ e. m (Entry Number e)) g.bundles.number v) v.update.pending
  pub place : PlaceRight z (λ e. m (Entry Number e)) g.bundles v v.reading.place
  pub filled : Every (FilledRight m v.free v.update) v.reading.filled
  pub links : Every (LinkRight z (λ e. m (Entry Child e)) g.bundles v) v.reading.links
