-- The child of a link, as the entries of the link's bundle give it.
use Rattle.std.specs.Prelude.{◌≡◌, ℕ, ◌<◌, ◌≤◌, Option, Some, None, IfSome}
use Rattle.index_words.specs.declared.view.View.{View}
use Rattle.index_words.specs.declared.view.reading.Place.TheVariants.{Entry as AtEntry}
use Rattle.core_trees.specs.declared.link.Link.{Link}
use Rattle.core_events.specs.LoadMoves.{risen}
use Rattle.table_steps.specs.Passes.{IsAlone}
use Rattle.bundle_reads.specs.declared.child.Along.{Along}
use Rattle.bundle_reads.specs.declared.child.Along.TheVariants.{Found, Next, Pending}
use Rattle.bundle_reads.specs.Links.{LeadsThere}

-- the count of entries without a number after a look: it has risen if such an entry was met, so that nothing was found
abbrev pub waits_after : {X : Type 0} → Option X → ℕ → ℕ
waits_after None n = risen n
waits_after (Some x) n = n

-- the entry at which the pass stands, and those after it, have numbers below this one: the number of the entry that it
-- has left, and any number at the head
abbrev pub number_bound : Option ℕ → ℕ
number_bound None = 18446744073709551616
number_bound (Some x) = x

-- the pass stands at this entry of the link's bundle, and has not loaded its number; or after the last one, at 0. The
-- number of the entry that it has left is above 0
pub record IsAtEntryOf (v : View) (at : Link) (entry : ℕ) : Type 0 where
  pub place : v.reading.place ≡ AtEntry at.node at.side entry None
  pub there : entry ≤ v.layout.entries
  pub above : IfSome v.reading.above (λ x. 0 < x)

-- a load has reached an entry of the link's bundle, or its end, where the link is found null
pub record ComesAlong (v w : View) (at : Link) (entry : ℕ) : Type 0 where
  pub stands : IsAtEntryOf w at entry
  pub null : entry ≡ 0 → LeadsThere v at 0
  pub waits : w.counts.waits ≡ v.counts.waits

-- the result of a look at an entry: where the pass goes on, the next entry's number is below this one's; an entry
-- without a number is another pass's
abbrev pub GoesAlong : View → View → Link → Along → Type 0
GoesAlong v w at (Found child) = LeadsThere v at child × (w.counts.waits ≡ v.counts.waits)
GoesAlong v w at (Next entry) = ComesAlong v w at entry × (number_bound w.reading.above < number_bound v.reading.above)
GoesAlong v w at Pending = (w.counts.waits ≡ risen v.counts.waits) × ¬ IsAlone w
