-- What an event does to the section words and the announcements of passes.
use Rattle.std.specs.Prelude.{◌≡◌, ◌≢◌, ℕ, true, false, Some}
use Rattle.key_map.specs.Lists.{IsItem}
use Rattle.index_words.specs.declared.view.View.{View}
use Rattle.index_words.specs.declared.word.Word.TheVariants.{Section, Announced}
use Rattle.core_grace.specs.Sections.{is_even}
use Rattle.core_grace.specs.Batches.{is_number}
use Rattle.core_events.specs.declared.event.Event.{Event}
use Rattle.core_events.specs.declared.event.Kind.TheVariants.{Enter, Leave, Announce}
use Rattle.core_events.specs.Tables.{Table, held_by}

-- the section word of a pass
abbrev pub section_of : Table → ℕ → ℕ
section_of t n = held_by t (Section n)

pub record MovesSections (t : Table) (e : Event) (u : Table) : Type 0 where
  -- an enter takes the own word from even to odd, and a leave from odd to even
  pub enters : e.kind ≡ Enter → (v : View) (n : ℕ) → IsItem t.views e.seat v → v.number ≡ Some n
      → (is_even (section_of t n) ≡ true) × (is_even (section_of u n) ≡ false)
  pub leaves : e.kind ≡ Leave → (v : View) (n : ℕ) → IsItem t.views e.seat v → v.number ≡ Some n
      → (is_even (section_of t n) ≡ false) × (is_even (section_of u n) ≡ true)
  -- no other kind changes a section word, and no event another pass's
  pub kept : e.kind ≢ Enter → e.kind ≢ Leave → (n : ℕ) → section_of u n ≡ section_of t n
  pub others : (v : View) (n : ℕ) → IsItem t.views e.seat v → is_number n v.number ≡ false → section_of u n ≡ section_of t n
  -- no kind but an announce changes an announcement, and no event another pass's
  pub announced : e.kind ≢ Announce → (n : ℕ) → held_by u (Announced n) ≡ held_by t (Announced n)
  pub others_announced : (v : View) (n : ℕ) → IsItem t.views e.seat v → is_number n v.number ≡ false → held_by u (Announced n) ≡ held_by t (Announced n)
