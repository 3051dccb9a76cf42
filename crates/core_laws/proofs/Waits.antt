-- A seat whose view shows that it may leave at the wait of a removal, or look at another pass there, may do so; and
-- what stays meanwhile.
use Rattle.std.proofs.Common.{◌≡◌, ℕ, List, Bool, true, false, not, ◌&&◌, cond, ap, ◌∙◌, sym, inr, Some}
use Rattle.std.specs.List.{slice_get}
use Rattle.index_words.specs.declared.layout.Layout.{Layout}
use Rattle.index_words.specs.declared.view.View.{View}
use Rattle.index_words.specs.declared.view.update.Updating.{Updating}
use Rattle.index_words.specs.declared.word.Field.TheVariants.{Lock, Mark, Head, Link, Tag}
use Rattle.index_words.specs.declared.word.Word.TheVariants.{Section, Node}
use Rattle.index_words.specs.Words.{memory}
use Rattle.core_grace.specs.Batches.{is_empty}
use Rattle.core_grace.specs.Sections.{left_word}
use Rattle.core_events.specs.declared.event.Kind.TheVariants.{Leave, LookSec}
use Rattle.core_events.specs.Steps.{allowed}
use Rattle.core_events.specs.Tables.{Table}
use Rattle.core_events.specs.Waits.{has_no_lock, is_waiting, is_waiting_for}
use Rattle.core_events.proofs.Tests.{never}
use Rattle.core_invariant.specs.Rule.{InRule}
use Rattle.core_invariant.proofs.Needed.{length_empty}
use Rattle.core_invariant.proofs.OneView.{item_from_get, seat_at}
use Rattle.core_laws.specs.ViewNeeds.{event_at}
use Rattle.core_laws.specs.Waits.{MayLeaveWaiting, MayLookWaiting, LeaveWaitingLaw, LookWaitingLaw, NoLooksLaw, LockedStaysLaw}
use Rattle.core_laws.proofs.Owners.{owners}
use Rattle.core_laws.proofs.ViewNeeds.{leave_by, look_by}
use Rattle.core_laws.proofs.AtWork.{done_by, alive}
use Rattle.core_laws.proofs.ViewTests.{never_of, right_of}

module _ (z : Layout) (words : List ℕ) (vs : List View) (right : InRule z words vs) (i : ℕ) (v : View) (is : slice_get vs i ≡ Some v) where
  abbrev t : Table
  t = record { layout = z; words = words; views = vs }

  leave_may : (n : ℕ) → MayLeaveWaiting v n → allowed t (event_at z i Leave (Section n) (left_word v.section_word)) ≡ true
  leave_may n may = leave_by z words vs right i v is n may.own may.inside (right_of (has_no_lock v) (is_waiting v) may.waiting) (done_by z words vs right i v is may.done may.marked)

  -- a view that waits has locks
  has_locks : is_waiting v ≡ true → has_no_lock v ≡ false
  has_locks waits =
      never_of (has_no_lock v)
      (λ none.
      let no_update = (seat_at z (memory z words) vs right.meaning i v (item_from_get vs i v is) right.rule).section.done (length_empty v.held.nodes none) in
      never (sym (ap (λ (u : Updating). is_waiting_for u v.held.nodes u.unlinking) no_update) ∙ waits))

  look_may : (pass : ℕ) → MayLookWaiting v pass → allowed t (event_at z i LookSec (Section pass) 0) ≡ true
  look_may pass may =
      look_by z words vs right i v is pass (alive z words vs right i v is (λ (x : View). is_waiting x ≡ true) may.waiting (λ none. cc)) may.there may.other may.even
      (ap (λ (b : Bool). cond b (not (is_empty v.batch && is_empty v.retired)) (is_waiting v)) (has_locks may.waiting) ∙ may.waiting)

pub may_leave_waiting_law : LeaveWaitingLaw
may_leave_waiting_law z v seat n may words vs right is = leave_may z words vs right seat v is n may

pub may_look_waiting_law : LookWaitingLaw
may_look_waiting_law z v seat pass may words vs right is = look_may z words vs right seat v is pass may

pub no_looks_law : NoLooksLaw
no_looks_law z words vs seat v right is inside =
    (seat_at z (memory z words) vs right.meaning seat v (item_from_get vs seat v is) right.rule).section.waits inside

pub locked_stays : LockedStaysLaw
locked_stays t e right met i k v at other locked =
    let kept = owners t e right met in
    record {
      lock = kept.others i v (Node Lock k) at other (inr locked);
      mark = kept.others i v (Node Mark k) at other (inr locked);
      head = λ side. kept.others i v (Node (Head side) k) at other (inr locked);
      link = λ side. kept.others i v (Node (Link side) k) at other (inr locked);
      tag = λ side. kept.others i v (Node (Tag side) k) at other (inr locked);
    }
