-- The rule on section words: a view holds what its own words are; outside a section it has read nothing, and has locked
-- nothing except at the wait of a removal; with no lock held it has no update under way; and inside a section it has no
-- looks of a wait.
use Rattle.std.specs.Prelude.{◌≡◌, ℕ, ◌<◌, ◌⊎◌, List, [], true, false, Option, Some, None, is_some}
use Rattle.index_words.specs.declared.view.View.{View}
use Rattle.index_words.specs.declared.view.reading.Reading.{Reading}
use Rattle.index_words.specs.declared.view.update.HeldNode.{HeldNode}
use Rattle.index_words.specs.declared.view.update.Updating.{Updating}
use Rattle.index_words.specs.Views.{no_reading, no_update, no_looks}
use Rattle.key_map.specs.Lists.{count, Every}
use Rattle.core_grace.specs.Sections.{is_even}

-- the own word of a pass, and 0 without a number
abbrev pub IsOwnWord : (ℕ → ℕ) → Option ℕ → ℕ → Type 0
IsOwnWord word None held = held ≡ 0
IsOwnWord word (Some n) held = word n ≡ held

-- nothing read, nothing locked and no update under way
pub record IsIdle (v : View) : Type 0 where
  pub reading : v.reading ≡ no_reading
  pub held : v.held.nodes ≡ []
  pub update : v.update ≡ no_update

-- a lock that is held outside of a section: the update took the node out, or found it unmarked under the lock
abbrev pub IsKeptLock : List ℕ → HeldNode → Type 0
IsKeptLock taken h = (0 < count h.node taken) ⊎ (h.mark ≡ Some 0)

-- a view that holds locks outside of a section, over its number, the locked nodes and its update: it has raised,
-- nothing is pending, and it works at no other nodes than these
pub record Waits (number : Option ℕ) (nodes : List HeldNode) (raised added : Option ℕ) (pending taken : List ℕ) : Type 0 where
  pub named : is_some number ≡ true
  pub past : is_some raised ≡ true
  pub bare : added ≡ None
  pub done : pending ≡ []
  pub kept : Every (IsKeptLock taken) nodes

abbrev pub IsWaiting : View → Type 0
IsWaiting v = Waits v.number v.held.nodes v.update.raised v.update.added v.update.pending v.update.taken

-- over what the section words and the announcements of the passes hold, and over what of a view is read: its number,
-- its own two words, what it has read and locked, and its update
pub record SectionRightOf (section_of announced_of : ℕ → ℕ) (number : Option ℕ) (word announcement : ℕ) (reading : Reading) (nodes : List HeldNode)
    (update : Updating) : Type 0 where
  pub section : IsOwnWord section_of number word
  pub announced : IsOwnWord announced_of number announcement
  pub outside : is_even word ≡ true → reading ≡ no_reading
  pub unlocked : is_even word ≡ true → (nodes ≡ []) ⊎ Waits number nodes update.raised update.added update.pending update.taken
  pub done : nodes ≡ [] → update ≡ no_update
  pub waits : is_even word ≡ false → update.waiting ≡ no_looks

abbrev pub SectionRight : (ℕ → ℕ) → (ℕ → ℕ) → View → Type 0
SectionRight section_of announced_of v = SectionRightOf section_of announced_of v.number v.section_word v.announced v.reading v.held.nodes v.update
