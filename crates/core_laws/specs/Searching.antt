-- What a search on plain links may rely on. Other seats set plain links, and take nodes out, while it goes on.
use Rattle.std.specs.Prelude.{◌≡◌, ℕ, ◌<◌, ◌≤◌, ◌⊎◌, [], false, Option, Some, None}
use Rattle.index_words.specs.declared.side.Side.{Side}
use Rattle.index_words.specs.declared.side.Side.TheVariants.{Left, Right}
use Rattle.index_words.specs.declared.view.View.{View}
use Rattle.index_words.specs.declared.view.reading.Link.{Link as ViewLink}
use Rattle.index_words.specs.declared.view.reading.LinkSource.{LinkSource}
use Rattle.index_words.specs.declared.view.reading.LinkSource.TheVariants.{Bundle, Plain}
use Rattle.index_words.specs.declared.view.reading.Place.TheVariants.{Node as AtNode}
use Rattle.index_words.specs.declared.view.reading.Reading.{Reading}
use Rattle.index_words.specs.declared.view.reading.Turn.{Turn}
use Rattle.index_words.specs.declared.view.update.HeldNode.{HeldNode}
use Rattle.index_words.specs.declared.word.Field.TheVariants.{Key, Lock, Mark, Head, Link, Tag}
use Rattle.index_words.specs.declared.word.Part.TheVariants.{Stamp as Number}
use Rattle.index_words.specs.declared.word.Word.TheVariants.{Node, Entry}
use Rattle.key_map.specs.Lists.{count, Every, IsItem}
use Rattle.core_grace.specs.Sections.{is_even}
use Rattle.core_events.specs.Searches.{search_nodes}
use Rattle.core_events.specs.SpelledNow.{tree_now, child_now}
use Rattle.core_events.specs.Tables.{Table, held_by}
use Rattle.core_events.specs.UpdateNeeds.{held_at, side_of}
use Rattle.core_invariant.specs.Readers.{IsLocked}
use Rattle.core_invariant.specs.Rule.{IsRight}
use Rattle.core_laws.specs.PlainNeeds.{MayReadLink}
pub use Rattle.core_laws.specs.PlainNeeds.{IsHeldUnmarked}
use Rattle.core_trees.specs.Gaps.{IsGapLink}
use Rattle.core_trees.specs.LinkSteps.{IsLinkIn}
use Rattle.plain_trees.specs.Turns.{IsBeyond}

-- a plain link that is loaded where a seat may load it holds 0 or a node of the table
abbrev pub LinkFoundLaw : Type 0
LinkFoundLaw =
    (t : Table) (i : ℕ) (v : View) (k : ℕ) (side : Side) → IsRight t → IsItem t.views i v → MayReadLink v k side
    → held_by t (Node (Link side) k) ≤ t.layout.nodes

-- inside a section, before its raise
pub record IsBeforeRaise (v : View) : Type 0 where
  pub inside : is_even v.section_word ≡ false
  pub unraised : v.update.raised ≡ None

-- a search reaches no node that its own seat has taken out
abbrev pub OwnLeftLaw : Type 0
OwnLeftLaw =
    (t : Table) (i : ℕ) (v : View) (k : ℕ) → IsRight t → IsItem t.views i v → IsBeforeRaise v → 0 < count k (search_nodes 0 v.reading)
    → count k v.retired.nodes ≡ 0

-- the last turn to this side
abbrev pub last_turn : Side → Reading → Option Turn
last_turn Left r = r.left_turn
last_turn Right r = r.right_turn

-- where a search stands at a node that is in the tree, and the node of a turn is unmarked, the key is beyond that of
-- the turn
abbrev pub BeyondLaw : Type 0
BeyondLaw =
    (t : Table) (i : ℕ) (v : View) (k key : ℕ) (side : Side) (turn : Turn) → IsRight t → IsItem t.views i v → IsBeforeRaise v
    → v.reading.place ≡ AtNode k (Some key) → last_turn side v.reading ≡ Some turn → IsHeldUnmarked v k
    → held_by t (Node Mark turn.node) ≡ 0 → IsBeyond side turn.key key

-- a search does not come back to a node at which it has turned and that its seat has locked, nor to a locked one whose
-- plain link leads there
abbrev pub NoReturnLaw : Type 0
NoReturnLaw =
    (t : Table) (i : ℕ) (v : View) (k : ℕ) (key : Option ℕ) (side : Side) (turn : Turn) (held : HeldNode) → IsRight t → IsItem t.views i v
    → IsBeforeRaise v → v.reading.place ≡ AtNode k key → last_turn side v.reading ≡ Some turn → IsHeldUnmarked v turn.node
    → held_at k v.held.nodes ≡ Some held → held.mark ≡ Some 0
    → (¬ (k ≡ turn.node)) × ((to : Side) → ¬ ((side_of to held).link ≡ Some turn.node))

-- a key that was loaded is the one that the word holds: of the place of a search, and of each turn
pub record HasKeys (t : Table) (v : View) : Type 0 where
  pub place : (k key : ℕ) → v.reading.place ≡ AtNode k (Some key) → held_by t (Node Key k) ≡ key
  pub turn : (side : Side) (turn : Turn) → last_turn side v.reading ≡ Some turn → held_by t (Node Key turn.node) ≡ turn.key

abbrev pub SearchKeysLaw : Type 0
SearchKeysLaw = (t : Table) (i : ℕ) (v : View) → IsRight t → IsItem t.views i v → IsBeforeRaise v → HasKeys t v

-- the head of a bundle of a node that is locked and unmarked, in front of which the seat has put no entry, is none or
-- has a number
abbrev pub HeadNumberedLaw : Type 0
HeadNumberedLaw =
    (t : Table) (i : ℕ) (v : View) (k : ℕ) (side : Side) → IsRight t → IsItem t.views i v → v.update.pending ≡ []
    → IsHeldUnmarked v k → (held_by t (Node (Head side) k) ≡ 0) ⊎ (0 < held_by t (Entry Number (held_by t (Node (Head side) k))))

-- A plain link under the lock of its node, which was found unmarked: it is one of the tree at the stamp, and leads
-- there to the same child.
abbrev pub HeldLinkLaw : Type 0
HeldLinkLaw =
    (t : Table) (i : ℕ) (v : View) (k child : ℕ) (side : Side) (held : HeldNode) → IsRight t → IsItem t.views i v → v.update.raised ≡ None
    → held_at k v.held.nodes ≡ Some held → held.mark ≡ Some 0 → (side_of side held).link ≡ Some child → (k ≡ 0 → side ≡ Right)
    → IsLinkIn 0 Right (tree_now t.layout (held_by t) t.views) k side × (child_now (held_by t) t.views [] side k ≡ child)

-- a turn that was not made is no bound
abbrev pub IsOver : Option ℕ → ℕ → Type 0
IsOver None key = Unit {0}
IsOver (Some low) key = low < key

abbrev pub IsUnder : Option ℕ → ℕ → Type 0
IsUnder None key = Unit {0}
IsUnder (Some high) key = key < high

-- A null link at which a search has ended, whose node is locked and was found unmarked, and which was found null again:
-- in the tree at the stamp each key between those of the two turns is in its gap. The tag is not needed for it.
abbrev pub NullLinkLaw : Type 0
NullLinkLaw =
    (t : Table) (i place : ℕ) (v : View) (l : ViewLink) (tag above below : Option ℕ) (held : HeldNode) → IsRight t → IsItem t.views i v
    → v.update.raised ≡ None → IsItem v.reading.links place l → l.source ≡ Plain tag above below → l.child ≡ 0
    → held_at l.node v.held.nodes ≡ Some held → held.mark ≡ Some 0 → (side_of l.side held).link ≡ Some 0
    → (key : ℕ) → IsOver below key → IsUnder above key → IsGapLink key l.node l.side 0 Right (tree_now t.layout (held_by t) t.views)

-- what is remembered of a plain link is what the words hold
abbrev pub IsFoundStill : Table → ViewLink → LinkSource → Type 0
IsFoundStill t l (Bundle entry) = Unit {0}
IsFoundStill t l (Plain None above below) = held_by t (Node (Link l.side) l.node) ≡ l.child
IsFoundStill t l (Plain (Some tag) above below) = (held_by t (Node (Link l.side) l.node) ≡ l.child) × (held_by t (Node (Tag l.side) l.node) ≡ tag)

-- on a table of one pass nothing moves: no node of a search is marked or locked by another, and each plain link is as
-- remembered
pub record IsStill (t : Table) (v : View) : Type 0 where
  pub unmarked : (k : ℕ) → 0 < count k (search_nodes 0 v.reading) → held_by t (Node Mark k) ≡ 0
  pub unlocked : (k : ℕ) → ¬ IsLocked v k → held_by t (Node Lock k) ≡ 0
  pub links : Every (λ (l : ViewLink). IsFoundStill t l l.source) v.reading.links
  pub beyond : (k key : ℕ) (side : Side) (turn : Turn) → v.reading.place ≡ AtNode k (Some key) → last_turn side v.reading ≡ Some turn
      → IsBeyond side turn.key key

abbrev pub StillLaw : Type 0
StillLaw = (t : Table) (i : ℕ) (v : View) → IsRight t → IsItem t.views i v → t.layout.passes ≡ 1 → IsBeforeRaise v → IsStill t v
