-- Which sizes a table takes, and the layout of a table of these sizes.
use Rattle.std.specs.Prelude.{ℕ, ◌<◌, ◌≤◌, List, length, sum_by, All}
use Rattle.key_map.specs.declared.pass.PassSize.{PassSize}
use Rattle.index_words.specs.declared.layout.Layout.{Layout}

abbrev pub all_nodes : List PassSize → ℕ
all_nodes sizes = sum_by (λ (s : PassSize). s.nodes) sizes

abbrev pub all_entries : List PassSize → ℕ
all_entries sizes = sum_by (λ (s : PassSize). s.entries) sizes

abbrev pub all_calls : List PassSize → ℕ
all_calls sizes = sum_by (λ (s : PassSize). s.calls) sizes

-- a pass has a node, and the entries of one update
abbrev pub IsPassSize : PassSize → Type 0
IsPassSize s = (0 < s.nodes) × (4 ≤ s.entries)

-- a table takes these sizes
pub record FitTable (sizes : List PassSize) : Type 0 where
  pub some : 0 < length sizes
  pub few : length sizes ≤ 32
  pub each : All IsPassSize sizes
  pub nodes : all_nodes sizes ≤ 262144
  pub entries : all_entries sizes ≤ 1048576
  pub calls : all_calls sizes ≤ 16777216

-- the sums over the passes
abbrev pub layout_of : List PassSize → Layout
layout_of sizes = record { passes = length sizes; nodes = all_nodes sizes; entries = all_entries sizes; calls = all_calls sizes }
