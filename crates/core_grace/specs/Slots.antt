-- The rule on slots. What the tree links and what each seat holds are arguments of it.
use Rattle.std.specs.Prelude.{◌≡◌, ◌≢◌, ℕ, ◌+◌, ◌<◌, List, cond, nat_lt, nat_le, ◌&&◌, Some, All, sum_by}
use Rattle.index_words.specs.declared.layout.Layout.{Layout}
use Rattle.index_words.specs.declared.view.View.{View}
use Rattle.index_words.specs.declared.view.slots.Slots.{Slots}
use Rattle.index_words.specs.declared.view.slots.SectionFound.{SectionFound}
use Rattle.key_map.specs.Lists.{count, Every}

abbrev pub nodes_of : Slots → List ℕ
nodes_of s = s.nodes

abbrev pub entries_in : Slots → List ℕ
entries_in s = s.entries

-- how often a view owns a slot
abbrev pub own : (Slots → List ℕ) → ℕ → View → ℕ
own pick k v = count k (pick v.free) + (count k (pick v.retired) + count k (pick v.batch))

-- how often it has the slot free
abbrev pub own_free : (Slots → List ℕ) → ℕ → View → ℕ
own_free pick k v = count k (pick v.free)

-- 1 for a slot of a table with this many slots, 0 for another number
abbrev pub is_slot : ℕ → ℕ → ℕ
is_slot size k = cond (nat_lt 0 k && nat_le k size) 1 0

-- one kind of slots: each is in exactly one place, and no seat holds a free one
pub record SlotsRight (pick : Slots → List ℕ) (size : ℕ) (linked : ℕ → ℕ) (holds : View → ℕ → Type 0) (vs : List View) : Type 0 where
  pub one : (k : ℕ) → sum_by (own pick k) vs + linked k ≡ is_slot size k
  pub unheld : All (λ v. (k : ℕ) → holds v k → sum_by (own_free pick k) vs ≡ 0) vs

-- a seat holds none of these slots
pub record HoldsNone (holds_node holds_entry : View → ℕ → Type 0) (s : Slots) (v : View) : Type 0 where
  pub nodes : (k : ℕ) → 0 < count k s.nodes → holds_node v k → ⊥
  pub entries : (e : ℕ) → 0 < count e s.entries → holds_entry v e → ⊥

-- a pass that the owner of a batch has passed holds nothing of the batch; nor does a pass whose section
-- word is not the odd one that was found first
pub record GraceRight (holds_node holds_entry : View → ℕ → Type 0) (v w : View) : Type 0 where
  pub passed : Every (λ n. w.number ≡ Some n → HoldsNone holds_node holds_entry v.batch w) v.grace.passed
  pub found : Every (λ (f : SectionFound). w.number ≡ Some f.pass → w.section_word ≢ f.word → HoldsNone holds_node holds_entry v.batch w) v.grace.found

-- all entries of a node's bundles are in the list if the node is
abbrev pub KeepsEntries : (ℕ → List ℕ) → Slots → Type 0
KeepsEntries entries_of s = (k e : ℕ) → 0 < count k s.nodes → 0 < count e (entries_of k) → 0 < count e s.entries

-- what the tree links: how often each node and each entry, and the entries of a node's bundles
pub record Linked : Type 0 where
  pub nodes : ℕ → ℕ
  pub entries : ℕ → ℕ
  pub entries_of : ℕ → List ℕ

pub record SlotRule (z : Layout) (linked : Linked) (holds_node holds_entry : View → ℕ → Type 0) (vs : List View) : Type 0 where
  pub nodes : SlotsRight nodes_of z.nodes linked.nodes holds_node vs
  pub entries : SlotsRight entries_in z.entries linked.entries holds_entry vs
  pub grace : All (λ v. All (GraceRight holds_node holds_entry v) vs) vs
  pub retired : All (λ v. KeepsEntries linked.entries_of v.retired × KeepsEntries linked.entries_of v.batch) vs
