-- Which index a pass, a key or a note is of, and the keys of an index.
use Rattle.std.specs.Prelude.{◌≡◌, ℕ, ◌+◌, ◌<◌, List, [], ◌∷◌, length, map}
use Rattle.index_words.specs.declared.layout.Layout.{Layout}
use Rattle.key_map.specs.declared.pass.PassSize.{PassSize}
use Rattle.key_map.specs.Lists.{count, Every}
use Rattle.bucket_terms.specs.PlainPass.{fresh}
use Rattle.atomic_table.specs.Seated.{TableId}
use Rattle.table_rule.specs.Homes.{Home, Sat}
use Rattle.table_steps.specs.Closes.{number_of}
use Rattle.table_steps.specs.Passes.{Pass}
use Rattle.shared_index.specs.Shown.{shown}

-- the numbers that tell an index from each other one: those of its layout, and those by which its table is named, the
-- last of them a list
unfoldable pub home_of : TableId → Layout → List ℕ
home_of id z = z.passes ∷ z.nodes ∷ z.entries ∷ z.calls ∷ id.words ∷ id.slots ∷ id.views_name ∷ id.atom ∷ id.block ∷ id.offset ∷ id.slot_names

abbrev pub home_of_index : Home → List ℕ
home_of_index index = home_of index.id index.layout

abbrev pub home_of_pass : Pass → List ℕ
home_of_pass p = home_of p.id p.view.layout

abbrev pub home_of_note : Sat → List ℕ
home_of_note n = home_of n.id n.view.layout

-- the key, or the pass, is of this index
abbrev pub IsKeyOf : Home → Pass → Type 0
IsKeyOf index key = home_of_pass key ≡ home_of_index index

-- these are all keys of the index, each once
pub record AreAllKeys (index : Home) (keys : List Pass) : Type 0 where
  pub of : Every (IsKeyOf index) keys
  pub each : (n : ℕ) → n < index.layout.passes → count n (map number_of keys) ≡ 1

-- the key of a pass of this number and size that has done nothing yet: its slots are free, and its calls left
pub record IsFresh (number : ℕ) (size : PassSize) (key : Pass) : Type 0 where
  pub shown_is : shown key ≡ fresh number size
  pub nodes : length key.view.free.nodes ≡ size.nodes
  pub entries : length key.view.free.entries ≡ size.entries

-- these are the keys of passes of these sizes, with the numbers from this one on, in order
abbrev pub AreFresh : ℕ → List PassSize → List Pass → Type 0
AreFresh number [] [] = Unit {0}
AreFresh number (size ∷ sizes) (key ∷ keys) = IsFresh number size key × AreFresh (number + 1) sizes keys
AreFresh number _ _ = ⊥
