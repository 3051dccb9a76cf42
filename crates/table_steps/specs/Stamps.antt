-- Loads of the stamp and announcements: their events, what they leave in the pass's view, and the sections in which a
-- pass reads.
use Rattle.std.specs.Prelude.{◌≡◌, ℕ, ◌+◌, ◌≤◌, ◌==◌, List, length, Bool, true, Option, Some, None}
use Rattle.index_words.specs.declared.view.View.{View}
use Rattle.index_words.specs.declared.view.reading.TreeNode.{TreeNode}
use Rattle.index_words.specs.declared.word.Word.TheVariants.{Stamp, Announced}
use Rattle.key_map.specs.declared.update.Update.{Update}
use Rattle.key_map.specs.History.{after}
use Rattle.core_grace.specs.Sections.{left_word}
use Rattle.core_trees.specs.NamedTree.{NamedTree, contents, IsLawful}
use Rattle.core_events.specs.declared.event.Event.{Event}
use Rattle.core_events.specs.declared.event.Kind.TheVariants.{LoadStamp, Announce, LookAnn}
use Rattle.core_events.specs.Announcing.{announced_view}
use Rattle.core_events.specs.LoadMoves.{stamp_history, stamp_reading}
use Rattle.core_events.specs.Moves.{entered, left, nowhere}
use Rattle.core_events.specs.Versions.{tree_nodes}
use Rattle.core_laws.specs.ViewNeeds.{event_at, MayAnnounce, MayTakeBack}
use Rattle.table_rule.specs.Running.{Happened}
use Rattle.table_steps.specs.Passes.{Pass, Extends}

-- a load of the stamp, with 1 if it fixes a place
abbrev pub loading_stamp : Pass → ℕ → Event
loading_stamp p fixes = event_at p.view.layout p.seat LoadStamp Stamp fixes

-- a load of the stamp found n: the view knows the whole history, which has n updates
pub record HasSeen (v : View) (n : ℕ) (w : View) : Type 0 where
  pub extends : Extends v.history.seen w.history.seen
  pub whole : length w.history.seen ≡ n

-- the view has seen these updates, and reads nothing: it is the one after a load of the stamp without an announcement
abbrev pub with_seen : List Update → View → View
with_seen seen v = record v { history = record v.history { seen = seen }; reading = nowhere v.reading }

-- the view has seen these updates, and reads at n a tree of these nodes: it is the one after a load of the stamp by a
-- pass that has announced
abbrev pub reading_at : List Update → View → ℕ → Bool → List TreeNode → View
reading_at seen v n fixes nodes =
    record v { history = stamp_history seen v.history n fixes; reading = stamp_reading v.reading true n fixes nodes }

-- the view reads at n from then on: it has the nodes of a search tree that has the map after all n updates
pub record ReadsNow (v : View) (fixes n : ℕ) (w : View) : Type 0 where
  pub tree : NamedTree
  pub lawful : IsLawful tree
  pub contents_are : contents tree ≡ after w.history.seen n
  pub view : w ≡ reading_at w.history.seen v n (fixes == 1) (tree_nodes tree)

-- what an announcement stores, and 0 where it is taken back
abbrev pub announced_word : Option ℕ → ℕ
announced_word None = 0
announced_word (Some n) = n + 1

abbrev pub announcing : Pass → Option ℕ → Event
announcing p number = event_at p.view.layout p.seat Announce (Announced p.number) (announced_word number)

-- the pass may announce how many updates it has seen, or take its announcement back
abbrev pub CanAnnounce : Pass → Option ℕ → Type 0
CanAnnounce p None = MayTakeBack p.view p.number
CanAnnounce p (Some n) = MayAnnounce p.view p.number × (n ≡ length p.view.history.seen)

-- a look at the announcement of another pass
abbrev pub looking_announced : Pass → ℕ → Event
looking_announced p other = event_at p.view.layout p.seat LookAnn (Announced other) 0

-- the view of a pass that has entered a section, has seen these updates there, and has announced how many they are
abbrev pub announced_within : List Update → View → View
announced_within seen v = announced_view (with_seen seen (entered v.layout.passes v (v.section_word + 1))) (length seen + 1)

-- after the enter a load of the stamp has given how many updates to announce, and they are announced
pub record HasAnnounced (v w : View) : Type 0 where
  pub first : List Update
  pub extends : Extends v.history.seen first
  pub view : w ≡ announced_within first v

-- a section was opened: after the enter a load of the stamp has given how many updates to announce, and after the
-- announcement a second load has found n, at which the pass reads
pub record HasOpened (p : Pass) (fixes n : ℕ) (w : View) : Type 0 where
  pub first : List Update
  pub extends : Extends p.view.history.seen first
  pub event : Happened p.view.layout (loading_stamp p fixes) (announced_within first p.view) n w
  pub seen : HasSeen (announced_within first p.view) n w
  pub reads : ReadsNow (announced_within first p.view) fixes n w

-- the number was found in the stamp at a step of the pass, which has left it this view; if `fixes` is 1 the step has
-- fixed the number as a place
abbrev pub IsFoundAt : Pass → ℕ → ℕ → View → Type 0
IsFoundAt p fixes n w = (v : View) × Happened p.view.layout (loading_stamp p fixes) v n w

-- the number was found in the same way, by a step that fixed it as a place and that the pass has made since it was `p`:
-- the step counts a look, and no look was counted after it
pub record IsFoundSince (p : Pass) (n : ℕ) (w : View) : Type 0 where
  pub before : View
  pub behind : View
  pub event : Happened p.view.layout (loading_stamp p 1) before n behind
  pub since : p.view.history.looks ≤ before.history.looks
  pub last : w.history.looks ≡ behind.history.looks

-- the view of a pass that has left its section, and has taken its announcement back
abbrev pub outside_again : View → View
outside_again v = announced_view (left v (left_word v.section_word)) 0
