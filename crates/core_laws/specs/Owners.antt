-- Who writes what: the words that only one seat changes, and the words that nobody changes.
use Rattle.std.specs.Prelude.{◌≡◌, ◌≢◌, ℕ, ◌<◌, ◌⊎◌, true, List, Some, sum_by}
use Rattle.index_words.specs.declared.side.Side.{Side}
use Rattle.index_words.specs.declared.view.View.{View}
use Rattle.index_words.specs.declared.word.Field.{Field}
use Rattle.index_words.specs.declared.word.Field.TheVariants.{Key, Val}
use Rattle.index_words.specs.declared.word.Part.{Part}
use Rattle.index_words.specs.declared.word.Part.TheVariants.{Child, Stamp as Number, Next}
use Rattle.index_words.specs.declared.word.Word.{Word}
use Rattle.index_words.specs.declared.word.Word.TheVariants.{Stamp, Section, Announced, Node, Entry}
use Rattle.index_words.specs.Words.{Memory}
use Rattle.key_map.specs.Lists.{count, IsItem}
use Rattle.core_grace.specs.Slots.{own_free, nodes_of, entries_in}
use Rattle.core_events.specs.declared.event.Event.{Event}
use Rattle.core_events.specs.Tables.{Table, held_by}
use Rattle.core_invariant.specs.Rule.{IsRight}
use Rattle.core_invariant.specs.Readers.{IsLocked}
use Rattle.core_invariant.specs.LinkLaw.{IsBundleOf}
use Rattle.core_events.specs.Steps.{allowed, after}

-- the node, or the entry, is a free one of the seat's own
abbrev pub HasFreeNode : View → ℕ → Type 0
HasFreeNode v k = 0 < count k v.free.nodes

abbrev pub HasFreeEntry : View → ℕ → Type 0
HasFreeEntry v e = 0 < count e v.free.entries

-- the entry stands in a bundle of a node that the seat has locked
pub record IsInLockedBundle (m : Memory) (v : View) (e : ℕ) : Type 0 where
  pub node : ℕ
  pub side : Side
  pub locked : IsLocked v node
  pub entries : List ℕ
  pub bundle : IsBundleOf m side node entries
  pub here : 0 < count e entries

-- of a node: each word of a free one of its own; the lock, the mark, the heads, the links and the tags of one that it
-- has locked
abbrev pub IsSteadyField : Field → View → ℕ → Type 0
IsSteadyField Key v k = HasFreeNode v k
IsSteadyField Val v k = HasFreeNode v k
IsSteadyField _ v k = HasFreeNode v k ⊎ IsLocked v k

-- of an entry: each word of a free one of its own; the stamp of one that it has pending; the next of one in a bundle of
-- a node that it has locked
abbrev pub IsSteadyPart : Part → Memory → View → ℕ → Type 0
IsSteadyPart Child m v e = HasFreeEntry v e
IsSteadyPart Number m v e = HasFreeEntry v e ⊎ (0 < count e v.update.pending)
IsSteadyPart Next m v e = HasFreeEntry v e ⊎ IsInLockedBundle m v e

-- the words that the seat alone changes: its section word and its announcement, and these of nodes and entries
abbrev pub IsSteadyFor : Memory → View → Word → Type 0
IsSteadyFor m v Stamp = ⊥
IsSteadyFor m v (Section n) = v.number ≡ Some n
IsSteadyFor m v (Announced n) = v.number ≡ Some n
IsSteadyFor m v (Node field k) = IsSteadyField field v k
IsSteadyFor m v (Entry part e) = IsSteadyPart part m v e

-- no seat has the node, or the entry, free
abbrev pub IsNodeInUse : List View → ℕ → Type 0
IsNodeInUse vs k = sum_by (own_free nodes_of k) vs ≡ 0

abbrev pub IsEntryInUse : List View → ℕ → Type 0
IsEntryInUse vs e = sum_by (own_free entries_in e) vs ≡ 0

abbrev pub IsFixedField : Field → List View → ℕ → Type 0
IsFixedField Key vs k = IsNodeInUse vs k
IsFixedField Val vs k = IsNodeInUse vs k
IsFixedField _ vs k = ⊥

abbrev pub IsFixedPart : Part → Memory → List View → ℕ → Type 0
IsFixedPart Child m vs e = IsEntryInUse vs e
IsFixedPart Number m vs e = IsEntryInUse vs e × (0 < m (Entry Number e))
IsFixedPart Next m vs e = ⊥

-- the words that nobody changes: the key and the value of a node that is not free, the child of an entry that is not
-- free, and its stamp once that is written
abbrev pub IsFixed : Memory → List View → Word → Type 0
IsFixed m vs (Node field k) = IsFixedField field vs k
IsFixed m vs (Entry part e) = IsFixedPart part m vs e
IsFixed m vs _ = ⊥

-- between two tables no word has changed that another seat than this one alone changes, and none that nobody changes
pub record KeepsOwners (seat : ℕ) (t u : Table) : Type 0 where
  pub others : (i : ℕ) (v : View) (w : Word) → IsItem t.views i v → i ≢ seat → IsSteadyFor (held_by t) v w → held_by u w ≡ held_by t w
  pub fixed : (w : Word) → IsFixed (held_by t) t.views w → held_by u w ≡ held_by t w

-- this holds after each event that is allowed, from each table that meets the rule
abbrev pub OwnersLaw : Type 0
OwnersLaw = (t : Table) (e : Event) → IsRight t → allowed t e ≡ true → KeepsOwners e.seat t (after t e)
