-- Where the counts of a view rise: each at the events that this says, and at no other. So a call that answers for what
-- another seat did can show that the count rose.
use Rattle.std.specs.Prelude.{◌≡◌, ◌≢◌, ℕ, ◌<◌, ◌≤◌, ◌⊎◌, true, false, [], Option, Some, slice_index}
use Rattle.std.specs.List.{slice_get}
use Rattle.index_words.specs.declared.side.Side.{Side}
use Rattle.index_words.specs.declared.view.View.{View}
use Rattle.index_words.specs.declared.view.reading.Link.{Link}
use Rattle.index_words.specs.declared.view.reading.Place.TheVariants.{Entry as AtEntry}
use Rattle.index_words.specs.declared.view.reading.LinkSource.TheVariants.{Bundle}
use Rattle.index_words.specs.declared.word.Field.TheVariants.{Mark, Head, Link as LinkField, Tag}
use Rattle.index_words.specs.declared.word.Part.TheVariants.{Stamp as Number}
use Rattle.index_words.specs.declared.word.Word.TheVariants.{Node, Entry}
use Rattle.index_words.specs.Words.{word_at}
use Rattle.key_map.specs.Lists.{count, Every, IsItem}
use Rattle.core_events.specs.declared.event.Event.{Event}
use Rattle.core_events.specs.declared.event.Kind.TheVariants.{LoadStamp, LoadHead, LoadTs, TryLock, LoadMark, LoadLink, LoadTag}
use Rattle.core_events.specs.Tables.{Table, held_by}
use Rattle.core_events.specs.LoadMoves.{risen}
use Rattle.core_invariant.specs.Readers.{IsWatched}
use Rattle.core_invariant.specs.Rule.{IsRight}
use Rattle.core_events.specs.SpelledNow.{tree_now}
use Rattle.core_events.specs.Searches.{is_plain, is_other_tag, knows_link, knows_tag}
use Rattle.core_events.specs.Steps.{allowed, after}
use Rattle.core_events.specs.Versions.{slots_of}
use Rattle.core_laws.specs.ViewNeeds.{IsInReach, IsSearched}

-- a try of a lock that finds the word held
pub record MeetsLock (t : Table) (e : Event) : Type 0 where
  pub kind : e.kind ≡ TryLock
  pub held : 0 < slice_index t.words e.word

-- where the seat stands in the bundle of a node, which it watches: it reads at a number, or has locked the node
pub record WatchesBundle (v : View) (entry : ℕ) : Type 0 where
  pub node : ℕ
  pub side : Side
  pub found : Option ℕ
  pub place : v.reading.place ≡ AtEntry node side entry found
  pub watched : IsWatched v node

-- a load of the stamp of an entry that finds none, in a bundle that the seat watches, where it does not have the entry
-- pending
pub record FindsNoNumber (t : Table) (e : Event) (v : View) : Type 0 where
  pub kind : e.kind ≡ LoadTs
  pub entry : ℕ
  pub word : word_at t.layout e.word ≡ Some (Entry Number entry)
  pub none : held_by t (Entry Number entry) ≡ 0
  pub other : count entry v.update.pending ≡ 0
  pub watches : WatchesBundle v entry

-- the seat remembers the link, found through its bundle, with another entry than this
pub record RemembersOther (v : View) (node : ℕ) (side : Side) (head : ℕ) : Type 0 where
  pub place : ℕ
  pub link : Link
  pub is : IsItem v.reading.links place link
  pub node_is : link.node ≡ node
  pub side_is : link.side ≡ side
  pub entry : ℕ
  pub source : link.source ≡ Bundle entry
  pub apart : entry ≢ head

-- the seat stored the entry there: it has it pending, or the entry's stamp is the place of one of its own updates
abbrev pub IsNotStored : Table → View → ℕ → Type 0
IsNotStored t v head = (count head v.update.pending ≡ 0) × (count (held_by t (Entry Number head)) v.history.mine ≡ 0)

-- a load of a head that finds another entry than the remembered one, which this seat did not store
pub record FindsOtherHead (t : Table) (e : Event) (v : View) : Type 0 where
  pub kind : e.kind ≡ LoadHead
  pub node : ℕ
  pub side : Side
  pub word : word_at t.layout e.word ≡ Some (Node (Head side) node)
  pub other : RemembersOther v node side (held_by t (Node (Head side) node))
  pub apart : IsNotStored t v (held_by t (Node (Head side) node))

-- the seat remembers the link, found on plain links, with another child than this
pub record RemembersOtherChild (v : View) (node : ℕ) (side : Side) (child : ℕ) : Type 0 where
  pub place : ℕ
  pub link : Link
  pub is : IsItem v.reading.links place link
  pub node_is : link.node ≡ node
  pub side_is : link.side ≡ side
  pub plain : is_plain link.source ≡ true
  pub apart : link.child ≢ child

-- or with another tag
pub record RemembersOtherTag (v : View) (node : ℕ) (side : Side) (tag : ℕ) : Type 0 where
  pub place : ℕ
  pub link : Link
  pub is : IsItem v.reading.links place link
  pub node_is : link.node ≡ node
  pub side_is : link.side ≡ side
  pub other : is_other_tag tag link.source ≡ true

-- a load of a plain link that finds another child than the remembered one, which this seat did not store
pub record FindsOtherChild (t : Table) (e : Event) (v : View) : Type 0 where
  pub kind : e.kind ≡ LoadLink
  pub node : ℕ
  pub side : Side
  pub word : word_at t.layout e.word ≡ Some (Node (LinkField side) node)
  pub other : RemembersOtherChild v node side (held_by t (Node (LinkField side) node))
  pub unknown : knows_link v.held.nodes node side (held_by t (Node (LinkField side) node)) ≡ false

-- a load of a tag that finds another one than the remembered one
pub record FindsOtherTag (t : Table) (e : Event) (v : View) : Type 0 where
  pub kind : e.kind ≡ LoadTag
  pub node : ℕ
  pub side : Side
  pub word : word_at t.layout e.word ≡ Some (Node (Tag side) node)
  pub other : RemembersOtherTag v node side (held_by t (Node (Tag side) node))
  pub unknown : knows_tag v.held.nodes node side (held_by t (Node (Tag side) node)) ≡ false

-- a load of a mark that finds one, on a node in reach or searched that this seat has not taken out
pub record FindsMark (t : Table) (e : Event) (v : View) : Type 0 where
  pub kind : e.kind ≡ LoadMark
  pub node : ℕ
  pub word : word_at t.layout e.word ≡ Some (Node Mark node)
  pub marked : 0 < held_by t (Node Mark node)
  pub reach : IsInReach v node ⊎ IsSearched v node
  pub kept : (count node v.update.taken ≡ 0) × (count node v.retired.nodes ≡ 0)

-- what a load finds is another word than the remembered one: a head, a plain link, or its tag
abbrev pub FindsOther : Table → Event → View → Type 0
FindsOther t e v = FindsOtherHead t e v ⊎ (FindsOtherChild t e v ⊎ FindsOtherTag t e v)

-- a load of the stamp that fixes a place
abbrev pub FixesPlace : Event → Type 0
FixesPlace e = (e.kind ≡ LoadStamp) × (e.value ≡ 1)

-- a count rises where this is so, and otherwise stays
pub record RisesWhere (P : Type 0) (old new : ℕ) : Type 0 where
  pub rises : P → new ≡ risen old
  pub stays : ¬ P → new ≡ old

-- the counts of the seat of an event, from its view before to the one after
pub record CountsRise (t : Table) (e : Event) (v w : View) : Type 0 where
  pub busy : RisesWhere (MeetsLock t e) v.counts.busy w.counts.busy
  pub waits : RisesWhere (FindsNoNumber t e v) v.counts.waits w.counts.waits
  pub moves : RisesWhere (FindsOther t e v ⊎ FindsMark t e v) v.counts.moves w.counts.moves
  pub looks : RisesWhere (FixesPlace e) v.history.looks w.history.looks

abbrev pub CountsLaw : Type 0
CountsLaw =
    (t : Table) (e : Event) (v w : View) → IsRight t → allowed t e ≡ true → slice_get t.views e.seat ≡ Some v
    → slice_get (after t e).views e.seat ≡ Some w → CountsRise t e v w

-- another head than the remembered one was not stored by a seat that has no entry pending, and whose own updates are
-- all ones that its section number has
abbrev pub OtherHeadLaw : Type 0
OtherHeadLaw =
    (t : Table) (i n : ℕ) (v : View) (node : ℕ) (side : Side) → IsRight t → IsItem t.views i v → v.reading.section ≡ Some n
    → Every (λ at. at ≤ n) v.history.mine → v.update.pending ≡ [] → RemembersOther v node side (held_by t (Node (Head side) node))
    → IsNotStored t v (held_by t (Node (Head side) node))

-- what an update has taken out is among the seat's retired nodes
abbrev pub TakenLaw : Type 0
TakenLaw = (t : Table) (i : ℕ) (v : View) (k : ℕ) → IsRight t → IsItem t.views i v → count k v.retired.nodes ≡ 0 → count k v.update.taken ≡ 0

-- no node of the tree at the stamp, which a load of the stamp gives to the seat, is among a seat's retired nodes
abbrev pub TreeNotRetiredLaw : Type 0
TreeNotRetiredLaw =
    (t : Table) (i : ℕ) (v : View) (k : ℕ) → IsRight t → IsItem t.views i v
    → 0 < count k (slots_of (tree_now t.layout (held_by t) t.views)) → count k v.retired.nodes ≡ 0
