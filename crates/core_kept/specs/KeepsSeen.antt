-- What a seat has seen, over one event: no event makes it shorter.
use Rattle.std.specs.Prelude.{◌≡◌, ℕ, List, length, take, false, Some}
use Rattle.key_map.specs.declared.update.Update.{Update}
use Rattle.key_map.specs.Lists.{IsItem}
use Rattle.index_words.specs.declared.view.View.{View}
use Rattle.index_words.specs.declared.word.Word.TheVariants.{Stamp}
use Rattle.core_events.specs.declared.event.Event.{Event}
use Rattle.core_events.specs.declared.event.Kind.TheVariants.{SplitSeat, JoinSeat, LoadStamp}
use Rattle.core_events.specs.Tables.{Table, held_by}

abbrev pub IsBeginning : List Update → List Update → Type 0
IsBeginning us vs = us ≡ take (length us) vs

-- as many updates as the stamp says, and each view's are a beginning of them
pub record IsWhole (t : Table) (seen : List Update) : Type 0 where
  pub long : length seen ≡ held_by t Stamp
  pub begins : (k : ℕ) (x : View) → IsItem t.views k x → IsBeginning x.history.seen seen

-- the other view's history is what was reported, and is a beginning of what is seen then
pub record IsTold (other w : View) : Type 0 where
  pub told : w.history.told ≡ other.history.seen
  pub known : IsBeginning other.history.seen w.history.seen

pub record KeepsSeen (t : Table) (e : Event) (u : Table) : Type 0 where
  -- what a seat that was not joined away has seen goes on from what it had seen
  pub kept : (k : ℕ) (v w : View) → IsItem t.views k v → IsItem u.views k w → w.joined ≡ false → IsBeginning v.history.seen w.history.seen
  -- after a load of the stamp it is the whole history
  pub loaded : e.kind ≡ LoadStamp → (w : View) → IsItem u.views e.seat w → IsWhole u w.history.seen
  -- with the value 1 the load opens a snapshot at the number found, which is the stamp
  pub fixed : e.kind ≡ LoadStamp → e.value ≡ 1 → (w : View) → IsItem u.views e.seat w
      → (w.reading.opened ≡ Some (held_by u Stamp)) × (w.history.found ≡ held_by u Stamp)
  -- a seat that is split off has seen what the other has
  pub split : e.kind ≡ SplitSeat → (v w : View) → IsItem t.views e.seat v → IsItem u.views (length t.views) w → w.history.seen ≡ v.history.seen
  -- a seat into which another is joined is given what that one had seen
  pub joined : e.kind ≡ JoinSeat → (other w : View) → IsItem t.views e.value other → IsItem u.views e.seat w → IsTold other w
