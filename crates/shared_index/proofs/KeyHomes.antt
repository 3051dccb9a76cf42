-- The numbers of an index tell it from each other one, so the keys and the notes of its table are its own.
use Rattle.std.proofs.Common.{◌≡◌, ℕ, ◌+◌, List, [], ◌∷◌, length, map, min, drop, get_or, arith, ap, ◌∙◌}
use Rattle.index_words.specs.declared.layout.Layout.{Layout}
use Rattle.index_words.specs.declared.view.View.{View}
use Rattle.key_map.specs.declared.pass.PassSize.{PassSize}
use Rattle.key_map.specs.Lists.{count, Every}
use Rattle.bucket_terms.specs.PlainPass.{fresh}
use Rattle.core_events.specs.Openings.{from_up, pass_view, pass_views}
use Rattle.core_grace.proofs.RuleMoves.{every_weaker}
use Rattle.core_kept.proofs.MadeSeats.{from_length}
use Rattle.atomic_table.specs.Seated.{TableId}
use Rattle.table_rule.specs.Homes.{Home, Sat}
use Rattle.table_steps.specs.Closes.{number_of, AreAllKeys as AreAllTableKeys}
use Rattle.table_steps.specs.Notes.{IsNoteOf}
use Rattle.table_steps.specs.Opens.{view_of, numbers_from}
use Rattle.table_steps.specs.Passes.{Pass, IsPassOf}
use Rattle.shared_index.specs.Shown.{shown_of}
use Rattle.shared_index.specs.Keys.{home_of, home_of_pass, home_of_note, IsKeyOf, AreAllKeys, IsFresh, AreFresh}

same_head : {X : Type 0} (x y : X) (xs ys : List X) → x ∷ xs ≡ y ∷ ys → x ≡ y
same_head x y xs ys is = ap (λ zs. get_or zs 0 x) is

same_tail : {X : Type 0} (x y : X) (xs ys : List X) → x ∷ xs ≡ y ∷ ys → xs ≡ ys
same_tail x y xs ys is = ap (drop 1) is

-- the number at a place
abbrev part : ℕ → List ℕ → ℕ
part k xs = get_or xs k 0

same_home : (a b : TableId) (z y : Layout) → home_of a z ≡ home_of b y → (a ≡ b) × (z ≡ y)
unfolding home_of
same_home a b z y is =
    let passes : z.passes ≡ y.passes = ap (part 0) is in
    let nodes : z.nodes ≡ y.nodes = ap (part 1) is in
    let entries : z.entries ≡ y.entries = ap (part 2) is in
    let calls : z.calls ≡ y.calls = ap (part 3) is in
    let words : a.words ≡ b.words = ap (part 4) is in
    let slots : a.slots ≡ b.slots = ap (part 5) is in
    let views_name : a.views_name ≡ b.views_name = ap (part 6) is in
    let atom : a.atom ≡ b.atom = ap (part 7) is in
    let block : a.block ≡ b.block = ap (part 8) is in
    let offset : a.offset ≡ b.offset = ap (part 9) is in
    let slot_names : a.slot_names ≡ b.slot_names = ap (drop 10) is in (
      λ i. record { words = words i; slots = slots i; views_name = views_name i; atom = atom i; block = block i; offset = offset i; slot_names = slot_names i },
      λ i. record { passes = passes i; nodes = nodes i; entries = entries i; calls = calls i },
    )

pub of_table : (index : Home) (key : Pass) → IsKeyOf index key → IsPassOf index key
of_table index key of =
    let same = same_home key.id index.id key.view.layout index.layout of in
    record { id = same.0; layout = same.1 }

home_by : (a b : TableId) (z y : Layout) → a ≡ b → z ≡ y → home_of a z ≡ home_of b y
home_by a b z y id layout = ap (λ i. home_of i z) id ∙ ap (home_of b) layout

pub of_index : (index : Home) (key : Pass) → IsPassOf index key → IsKeyOf index key
of_index index key of = home_by key.id index.id key.view.layout index.layout of.id of.layout

pub note_of_table : (p : Pass) (note : Sat) → home_of_note note ≡ home_of_pass p → IsNoteOf p note
note_of_table p note of =
    let same = same_home note.id p.id note.view.layout p.view.layout of in
    record { id = same.0; layout = same.1 }

pub all_of_table : (index : Home) (keys : List Pass) → AreAllKeys index keys → AreAllTableKeys index keys
all_of_table index keys all = record { of = every_weaker (IsKeyOf index) (IsPassOf index) keys (of_table index) all.of; each = all.each }

-- keys of the index with the numbers of all keys are all keys
pub all_kept : (index : Home) (keys others : List Pass) → AreAllKeys index keys → Every (IsKeyOf index) others → map number_of others ≡ map number_of keys → AreAllKeys index others
all_kept index keys others all of numbers = record { of = of; each = λ n low. ap (count n) numbers ∙ all.each n low }

-- the keys of a table that is opened

fresh_view : (z : Layout) (number node entry : ℕ) (size : PassSize) → shown_of number (pass_view z number node entry size) ≡ fresh number size
fresh_view z number node entry size =
    let nodes : length (from_up node size.nodes) + 0 ≡ size.nodes = omega (arith, from_length node size.nodes) in
    let entries : length (from_up entry size.entries) + 0 ≡ size.entries = omega (arith, from_length entry size.entries) in
    λ i. record { number = number; seen = []; mine = []; looks = 0; found = 0; nodes = nodes i; entries = entries i; left = size.calls; opened = Rattle.std.proofs.Common.None }

fresh_key : (z : Layout) (number node entry : ℕ) (size : PassSize) (key : Pass) → key.view ≡ pass_view z number node entry size → key.number ≡ number → IsFresh number size key
fresh_key z number node entry size key view is = record {
  shown_is = ap (λ n. shown_of n key.view) is ∙ ap (shown_of number) view ∙ fresh_view z number node entry size;
  nodes = ap (λ (v : View). length v.free.nodes) view ∙ from_length node size.nodes;
  entries = ap (λ (v : View). length v.free.entries) view ∙ from_length entry size.entries;
}

pub fresh_keys : (z : Layout) (number node entry : ℕ) (sizes : List PassSize) (keys : List Pass)
    → map view_of keys ≡ pass_views z number node entry sizes → map number_of keys ≡ numbers_from number sizes → AreFresh number sizes keys
fresh_keys z number node entry [] [] views numbers = tt
fresh_keys z number node entry [] (key ∷ keys) views numbers = cc
fresh_keys z number node entry (size ∷ sizes) [] views numbers = cc
fresh_keys z number node entry (size ∷ sizes) (key ∷ keys) views numbers =
    let first = pass_view z number node entry size in
    let others = pass_views z (number + 1) (node + size.nodes) (entry + size.entries) sizes in (
      fresh_key z number node entry size key (same_head key.view first (map view_of keys) others views) (same_head key.number number (map number_of keys) (numbers_from (number + 1) sizes) numbers),
      fresh_keys z (number + 1) (node + size.nodes) (entry + size.entries) sizes keys (same_tail key.view first (map view_of keys) others views) (same_tail key.number number (map number_of keys) (numbers_from (number + 1) sizes) numbers),
    )
