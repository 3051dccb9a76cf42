-- The law on links: at each number that is read, no event changes which entry of a bundle is selected.
use Rattle.std.specs.Prelude.{◌≡◌, ℕ, ◌⊎◌, List, Some}
use Rattle.index_words.specs.declared.layout.Layout.{Layout}
use Rattle.index_words.specs.declared.side.Side.{Side}
use Rattle.index_words.specs.declared.view.View.{View}
use Rattle.index_words.specs.declared.word.Field.TheVariants.{Head}
use Rattle.index_words.specs.declared.word.Part.TheVariants.{Next}
use Rattle.index_words.specs.declared.word.Word.TheVariants.{Stamp, Node, Entry}
use Rattle.index_words.specs.Words.{Memory}
use Rattle.key_map.specs.Lists.{IsItem}
use Rattle.core_links.specs.Bundle.{IsChain, select}
use Rattle.core_events.specs.Tables.{Table, held_by}
use Rattle.core_events.specs.Numbered.{entry_number}
use Rattle.core_invariant.specs.Meanings.{Meaning}
use Rattle.core_invariant.specs.BundleRule.{IsLive}
use Rattle.core_invariant.specs.PlainRule.{PlainRight}
use Rattle.core_invariant.specs.Rule.{Rule}

-- the entries of a link's bundle, from its head on
abbrev pub IsBundleOf : Memory → Side → ℕ → List ℕ → Type 0
IsBundleOf m side k es = IsChain (λ d. m (Entry Next d)) (m (Node (Head side) k)) es

-- the number is the section number of a seat
pub record HasReader (vs : List View) (n : ℕ) : Type 0 where
  pub seat : ℕ
  pub view : View
  pub at : IsItem vs seat view
  pub reads : view.reading.section ≡ Some n

-- the number is read: it is the stamp's, or the section number of a seat
abbrev pub IsRead : ℕ → List View → ℕ → Type 0
IsRead s vs n = (n ≡ s) ⊎ HasReader vs n

-- the stamp, and each section number, selects the same entry in both tables, of each bundle of the root or of a node
-- that is free in neither
abbrev pub KeepsSelections : Table → Table → Type 0
KeepsSelections t u =
    (n k : ℕ) (side : Side) (es fs : List ℕ) → IsRead (held_by t Stamp) t.views n → IsLive t.layout t.views k → IsLive t.layout u.views k
    → IsBundleOf (held_by t) side k es → IsBundleOf (held_by u) side k fs
    → select (entry_number (held_by t) t.views) n es ≡ select (entry_number (held_by u) u.views) n fs

-- the same, over what the words of two tables mean
abbrev pub SelectsSame : Layout → (ℕ → Type 0) → List View → Meaning → List View → Meaning → Type 0
SelectsSame z read vs g ws h =
    (t k : ℕ) (side : Side) → read t → IsLive z vs k → IsLive z ws k
    → select g.bundles.number t (g.bundles.bundle side k) ≡ select h.bundles.number t (h.bundles.bundle side k)

-- the rule holds after an event, under a meaning that selects the same, and so does what is said of plain links; if the
-- stamp does not rise, the tree at the stamp is the same
pub record Kept (z : Layout) (m : Memory) (vs : List View) (g : Meaning) (m' : Memory) (ws : List View) : Type 0 where
  pub meaning : Meaning
  pub rule : Rule z m' ws meaning
  pub same : SelectsSame z (IsRead (m Stamp) vs) vs g ws meaning
  pub plain : PlainRight m vs g → PlainRight m' ws meaning
  pub stays : m' Stamp ≡ m Stamp → meaning.tree ≡ g.tree
