-- What a step is as an event: its kind, the name of its word, its value and its update.
use Rattle.std.specs.Prelude.{◌≡◌, ℕ, cond, Option, Some, None}
use Rattle.key_map.specs.declared.update.Update.{Update}
use Rattle.index_words.specs.declared.word.Field.TheVariants.{Key, Val, Lock, Mark, Head, Link, Tag}
use Rattle.index_words.specs.declared.word.Part.TheVariants.{Child, Stamp as Number, Next}
use Rattle.index_words.specs.declared.word.Word.{Word}
use Rattle.index_words.specs.declared.word.Word.TheVariants.{Stamp, Section, Announced, Node, Entry}
use Rattle.core_events.specs.declared.event.Kind.{Kind}
use Rattle.core_events.specs.declared.event.Kind.TheVariants as kind
use Rattle.machine_needs.specs.declared.step.Step.{Step}
use Rattle.machine_needs.specs.declared.step.Step.TheVariants as step
use Rattle.machine_needs.specs.declared.step.Load.{Load}
use Rattle.machine_needs.specs.declared.step.Load.TheVariants as load
use Rattle.machine_needs.specs.declared.step.Store.{Store}
use Rattle.machine_needs.specs.declared.step.Store.TheVariants as store

pub record Parts : Type 0 where
  pub kind : Kind
  pub word : Word
  pub value : ℕ
  pub update : Option Update

abbrev pub plain : Kind → Word → ℕ → Parts
plain k w x = record { kind = k; word = w; value = x; update = None }

abbrev pub load_parts : Load → Parts
load_parts (load.Section pass) = plain kind.LookSec (Section pass) 0
load_parts (load.Announced pass) = plain kind.LookAnn (Announced pass) 0
load_parts (load.Head node side) = plain kind.LoadHead (Node (Head side) node) 0
load_parts (load.Number entry) = plain kind.LoadTs (Entry Number entry) 0
load_parts (load.Child entry) = plain kind.LoadPtr (Entry Child entry) 0
load_parts (load.Next entry) = plain kind.LoadNext (Entry Next entry) 0
load_parts (load.Mark node) = plain kind.LoadMark (Node Mark node) 0
load_parts (load.Key node) = plain kind.LoadKeyOrVal (Node Key node) 0
load_parts (load.Val node) = plain kind.LoadKeyOrVal (Node Val node) 0
load_parts (load.Link node side) = plain kind.LoadLink (Node (Link side) node) 0
load_parts (load.Tag node side) = plain kind.LoadTag (Node (Tag side) node) 0

abbrev pub store_parts : Store → Parts
store_parts (store.Enter pass value) = plain kind.Enter (Section pass) value
store_parts (store.Leave pass value) = plain kind.Leave (Section pass) value
store_parts (store.Announce pass value) = plain kind.Announce (Announced pass) value
store_parts (store.Fill word value) = plain kind.Fill word value
store_parts (store.Prepare node side entry) = plain kind.Prepare (Node (Head side) node) entry
store_parts (store.Finalise entry number) = plain kind.Finalise (Entry Number entry) number
store_parts (store.Unlock node) = plain kind.Unlock (Node Lock node) 0
store_parts (store.Mark node) = plain kind.Mark (Node Mark node) 1
store_parts (store.Link node side child) = plain kind.SetLink (Node (Link side) node) child
store_parts (store.Tag node side tag) = plain kind.SetTag (Node (Tag side) node) tag

abbrev pub parts_of : Step → Parts
parts_of (step.Split nodes) = plain kind.SplitSeat Stamp nodes
parts_of (step.Join other) = plain kind.JoinSeat Stamp other
parts_of (step.LoadStamp fixes) = plain kind.LoadStamp Stamp (cond fixes 1 0)
parts_of (step.Raise update) = record { kind = kind.Raise; word = Stamp; value = 0; update = Some update }
parts_of (step.TryLock node value) = plain kind.TryLock (Node Lock node) value
parts_of (step.Cut entry) = plain kind.Cut (Entry Next entry) 0
parts_of (step.Load l) = load_parts l
parts_of (step.Store s) = store_parts s

-- the step is that of an event of this kind, at this word, with this value and without an update
abbrev pub IsStep : Kind → Word → ℕ → Step → Type 0
IsStep k w x s = parts_of s ≡ plain k w x
