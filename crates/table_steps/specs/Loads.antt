-- The loads of the words of nodes and of entries, and the try of a lock: the event of each, and what each leaves.
use Rattle.std.specs.Prelude.{◌≡◌, ℕ, ◌+◌, ◌<◌, ◌≤◌, ◌⊎◌, Bool, true, false, Some}
use Rattle.index_words.specs.declared.side.Side.{Side}
use Rattle.index_words.specs.declared.side.Side.TheVariants.{Right}
use Rattle.index_words.specs.declared.view.View.{View}
use Rattle.index_words.specs.declared.word.Field.{Field}
use Rattle.index_words.specs.declared.word.Field.TheVariants.{Lock, Mark, Head}
use Rattle.index_words.specs.declared.word.Part.TheVariants.{Child, Stamp as Number, Next}
use Rattle.index_words.specs.declared.word.Word.TheVariants.{Node, Entry}
use Rattle.key_map.specs.Lists.{count}
use Rattle.core_grace.specs.Holds.{tree_slots}
use Rattle.core_events.specs.declared.event.Event.{Event}
use Rattle.core_events.specs.declared.event.Kind.TheVariants.{LoadHead, LoadTs, LoadPtr, LoadNext, LoadKeyOrVal, LoadMark, TryLock}
use Rattle.core_events.specs.LoadMoves.{risen, head_loaded, ptr_loaded}
use Rattle.core_events.specs.LockMoves.{locked_view, met_lock, mark_loaded}
use Rattle.core_invariant.specs.Readers.{IsLocked}
use Rattle.core_laws.specs.ViewNeeds.{event_at, IsAtEntry}
use Rattle.table_rule.specs.Running.{Happened}
use Rattle.table_steps.specs.Passes.{Pass}

abbrev pub loading_head : Pass → ℕ → Side → Event
loading_head p node side = event_at p.view.layout p.seat LoadHead (Node (Head side) node) 0

abbrev pub loading_number : Pass → ℕ → Event
loading_number p entry = event_at p.view.layout p.seat LoadTs (Entry Number entry) 0

abbrev pub loading_child : Pass → ℕ → Event
loading_child p entry = event_at p.view.layout p.seat LoadPtr (Entry Child entry) 0

abbrev pub loading_next : Pass → ℕ → Event
loading_next p entry = event_at p.view.layout p.seat LoadNext (Entry Next entry) 0

-- a load of a key or of a value
abbrev pub loading_pair : Pass → Field → ℕ → Event
loading_pair p field node = event_at p.view.layout p.seat LoadKeyOrVal (Node field node) 0

abbrev pub loading_mark : Pass → ℕ → Event
loading_mark p node = event_at p.view.layout p.seat LoadMark (Node Mark node) 0

-- a try of a lock stores the pass's number plus 1, where the word is 0
abbrev pub locking : Pass → ℕ → Event
locking p node = event_at p.view.layout p.seat TryLock (Node Lock node) (p.number + 1)

-- a load of a head found this entry, whose written number is `number`
pub record HasLoadedHead (v : View) (node : ℕ) (side : Side) (entry : ℕ) (w : View) : Type 0 where
  pub number : ℕ
  pub view : w ≡ head_loaded v node side entry number

-- the link is one of the tree that the seat reads: the root's right link, or a link of a node of that tree
abbrev pub IsTreeLink : View → ℕ → Side → Type 0
IsTreeLink v node side = ((node ≡ 0) × (side ≡ Right)) ⊎ (0 < count node (tree_slots v.reading.tree))

-- the seat stands at this entry of a link of the tree that it reads, and has found the entry's number to be at most its
-- section number; it has not locked the node
pub record IsAtSelected (v : View) (entry : ℕ) : Type 0 where
  pub at : IsAtEntry v entry
  pub link : IsTreeLink v at.node at.side
  pub section : ℕ
  pub reads : v.reading.section ≡ Some section
  pub number : ℕ
  pub found : at.found ≡ Some number
  pub written : 0 < number
  pub past : number ≤ section
  pub unlocked : ¬ IsLocked v at.node

-- a load of a child found this, and left this
pub record FoundChild (p : Pass) (entry found : ℕ) (w : View) : Type 0 where
  pub event : Happened p.view.layout (loading_child p entry) p.view found w
  pub view : w ≡ ptr_loaded p.view found

-- a load of a child answers the word found if that is a node of the table or 0, and else 0. Only in an entry that is
-- not selected can the word be above: an entry that is prepared holds there what its pass has filled in
pub record HasLoadedChild (p : Pass) (entry answer : ℕ) (w : View) : Type 0 where
  pub found : ℕ
  pub gives : FoundChild p entry found w
  pub node : found ≤ p.view.layout.nodes → answer ≡ found
  pub other : p.view.layout.nodes < found → answer ≡ 0

-- a load of a mark found this word. If the pass has locked the node and its update did not take it out, it is 0 or 1
pub record HasLoadedMark (p : Pass) (node : ℕ) (marked : Bool) (w : View) : Type 0 where
  pub found : ℕ
  pub event : Happened p.view.layout (loading_mark p node) p.view found w
  pub view : w ≡ mark_loaded p.view node found
  pub set : marked ≡ true → 0 < found
  pub clear : marked ≡ false → found ≡ 0
  pub held : IsLocked p.view node → count node p.view.update.taken ≡ 0 → found ≤ 1

-- the lock's word was found free, and is the pass's from then on
pub record HasLocked (p : Pass) (node : ℕ) (w : View) : Type 0 where
  pub event : Happened p.view.layout (locking p node) p.view 0 w
  pub view : w ≡ locked_view p.view node

-- the lock's word was found held, and this is counted
pub record HasMetLock (p : Pass) (node : ℕ) (w : View) : Type 0 where
  pub found : ℕ
  pub held : 0 < found
  pub event : Happened p.view.layout (locking p node) p.view found w
  pub view : w ≡ met_lock p.view (p.number + 1) found
  pub busy : w.counts.busy ≡ risen p.view.counts.busy
