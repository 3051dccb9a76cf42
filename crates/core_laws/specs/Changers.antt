-- Who changes a plain link, or its tag: the seat whose update has still to set the one or to raise the other, under the
-- lock of the link's node, and the seat that fills a free node of its own. So what was loaded of one and is there no
-- more was stored since.
use Rattle.std.specs.Prelude.{◌≡◌, ◌≢◌, ℕ, ◌⊎◌, List, [], ◌∷◌, true, Some}
use Rattle.std.specs.List.{slice_get}
use Rattle.index_words.specs.declared.side.Side.{Side}
use Rattle.index_words.specs.declared.view.View.{View}
use Rattle.index_words.specs.declared.view.reading.LinkSource.{LinkSource}
use Rattle.index_words.specs.declared.view.reading.LinkSource.TheVariants.{Plain}
use Rattle.index_words.specs.declared.word.Field.TheVariants.{Link, Tag}
use Rattle.index_words.specs.declared.word.Word.{Word}
use Rattle.index_words.specs.declared.word.Word.TheVariants.{Node}
use Rattle.index_words.specs.Words.{word_at}
use Rattle.core_events.specs.declared.event.Event.{Event}
use Rattle.core_events.specs.declared.event.Kind.TheVariants.{Fill, SetLink, SetTag}
use Rattle.core_events.specs.PlainNeeds.{sets_to, owes}
use Rattle.core_events.specs.Steps.{allowed, after}
use Rattle.core_events.specs.Tables.{Table, held_by}
use Rattle.core_invariant.specs.Readers.{IsLocked}
use Rattle.core_invariant.specs.Rule.{IsRight}
use Rattle.core_laws.specs.Owners.{HasFreeNode}

-- the seat fills a free node of its own
pub record FillsFree (e : Event) (v : View) (node : ℕ) : Type 0 where
  pub kind : e.kind ≡ Fill
  pub free : HasFreeNode v node

-- the seat has locked the link's node, and its update has still to set the link to this child
pub record SetsOwn (e : Event) (v : View) (node : ℕ) (side : Side) : Type 0 where
  pub kind : e.kind ≡ SetLink
  pub locked : IsLocked v node
  pub unset : sets_to node side e.value v.update.unset ≡ true

-- the seat has locked the link's node, and its update has still to raise the tag
pub record RaisesOwed (e : Event) (v : View) (node : ℕ) (side : Side) : Type 0 where
  pub kind : e.kind ≡ SetTag
  pub locked : IsLocked v node
  pub owed : owes node side v.update.owed ≡ true

abbrev pub ChangesLink : ℕ → Side → Event → View → Type 0
ChangesLink node side e v = FillsFree e v node ⊎ SetsOwn e v node side

abbrev pub ChangesTag : ℕ → Side → Event → View → Type 0
ChangesTag node side e v = FillsFree e v node ⊎ RaisesOwed e v node side

-- the event stores its value to this word, as its seat may
pub record Stores (t : Table) (e : Event) (w : Word) (may : Event → View → Type 0) : Type 0 where
  pub view : View
  pub seat : slice_get t.views e.seat ≡ Some view
  pub word : word_at t.layout e.word ≡ Some w
  pub value : held_by (after t e) w ≡ e.value
  pub by : may e view

-- where a plain link or a tag is another after the event, the event stored to it
pub record IsChangedBy (t : Table) (e : Event) (node : ℕ) (side : Side) : Type 0 where
  pub link : held_by (after t e) (Node (Link side) node) ≢ held_by t (Node (Link side) node) → Stores t e (Node (Link side) node) (ChangesLink node side)
  pub tag : held_by (after t e) (Node (Tag side) node) ≢ held_by t (Node (Tag side) node) → Stores t e (Node (Tag side) node) (ChangesTag node side)

abbrev pub ChangesLaw : Type 0
ChangesLaw = (t : Table) (e : Event) (node : ℕ) (side : Side) → IsRight t → allowed t e ≡ true → IsChangedBy t e node side

-- the events lead from one table to another, each of them allowed where it stands, in a table that meets the rule
abbrev pub LeadTo : Table → List Event → Table → Type 0
LeadTo s [] t = s ≡ t
LeadTo s (e ∷ es) t = IsRight s × (allowed s e ≡ true) × LeadTo (after s e) es t

-- this holds of one of them, in the table where it stands
abbrev pub SomeOf : (Table → Event → Type 0) → Table → List Event → Type 0
SomeOf does s [] = ⊥
SomeOf does s (e ∷ es) = does s e ⊎ SomeOf does (after s e) es

-- the link was found on plain links, with this tag
abbrev pub HasTag : ℕ → LinkSource → Type 0
HasTag x (Plain (Some tag) above below) = tag ≡ x
HasTag x _ = ⊥

-- Whatever events have led here from a table where the word held this, one of them stored to it: an event of another
-- seat than this, or of this seat itself.
abbrev pub IsStoredSince : Table → ℕ → Word → ℕ → (Event → View → Type 0) → Type 0
IsStoredSince t seat w x may =
    (s : Table) (es : List Event) → LeadTo s es t → held_by s w ≡ x
    → SomeOf (λ r e. (e.seat ≢ seat) × Stores r e w may) s es ⊎ SomeOf (λ r e. (e.seat ≡ seat) × Stores r e w may) s es
