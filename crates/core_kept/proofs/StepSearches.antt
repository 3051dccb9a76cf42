-- The plain tree, what searches claim and what they reach, after an event that is allowed: kind by kind, over the tree
-- at the stamp that the words mean then.
use Rattle.std.proofs.Common.{◌≡◌, ℕ, List, true, false, refl, sym, subst, Option, Some}
use Rattle.index_words.specs.declared.layout.Layout.{Layout}
use Rattle.key_map.specs.declared.update.Update.{Update}
use Rattle.index_words.specs.declared.view.View.{View}
use Rattle.index_words.specs.declared.word.Word.{Word}
use Rattle.index_words.specs.Words.{Memory, memory, word_at}
use Rattle.key_map.specs.Lists.{IsItem}
use Rattle.core_trees.specs.NamedTree.{NamedTree}
use Rattle.core_events.specs.declared.event.Kind.{Kind}
use Rattle.core_events.specs.declared.event.Kind.TheVariants.{MakeSeat, SplitSeat, JoinSeat, Enter, Leave, LookSec, Fill, LoadStamp, LoadHead, LoadTs, LoadPtr, LoadNext, Prepare, Raise, Finalise, TryLock, Unlock, LoadMark, Mark as MarkNode, LoadKeyOrVal, Announce, LookAnn, Cut, LoadLink, SetLink, LoadTag, SetTag}
use Rattle.core_events.specs.Steps.{needs, carries, views_after, words_after}
use Rattle.core_events.proofs.Tests.{never}
use Rattle.core_invariant.specs.KeptRule.{After}
use Rattle.core_invariant.specs.Reached.{plain_graph}
use Rattle.core_invariant.specs.Rule.{InRule}
use Rattle.core_invariant.proofs.TreeNow.{tree_is}
use Rattle.core_kept.specs.SearchLaws.{SearchesAfter, KeepsSearchesAt}
use Rattle.core_kept.proofs.RaiseSearches.{raise_searches}
use Rattle.core_kept.proofs.SearchFills.{fill_searches}
use Rattle.core_kept.proofs.SearchJoins.{join_searches}
use Rattle.core_kept.proofs.SearchKept.{head_searches, ts_searches, ptr_searches, next_searches, mark_searches, pair_searches, tag_searches, look_ann_searches, link_searches}
use Rattle.core_kept.proofs.SearchLeaves.{leave_searches}
use Rattle.core_kept.proofs.SearchLocks.{lock_searches}
use Rattle.core_kept.proofs.SearchLooks.{enter_searches}
use Rattle.core_kept.proofs.SearchNowhere.{stamp_searches, set_searches}
use Rattle.core_kept.proofs.SearchSeats.{split_searches}
use Rattle.core_kept.proofs.SearchStores.{prepare_searches, finalise_searches, marked_searches, cut_searches, set_tag_searches, announce_searches}
use Rattle.core_kept.proofs.SearchUnlocks.{unlock_searches}
use Rattle.core_kept.proofs.SearchWaits.{look_searches}
use Rattle.core_kept.proofs.StampWords.{stamp_stays}

-- no event makes a seat
none_made : KeepsSearchesAt MakeSeat
none_made z words vs right i v at live n w found value o own met = absurd (never met)

-- each kind but a raise
pub kind_searches : (kind : Kind) → (kind ≡ Raise → ⊥) → KeepsSearchesAt kind
kind_searches MakeSeat other = none_made
kind_searches SplitSeat other = split_searches
kind_searches JoinSeat other = join_searches
kind_searches Enter other = enter_searches
kind_searches Leave other = leave_searches
kind_searches LookSec other = look_searches
kind_searches Fill other = fill_searches
kind_searches LoadStamp other = stamp_searches
kind_searches LoadHead other = head_searches
kind_searches LoadTs other = ts_searches
kind_searches LoadPtr other = ptr_searches
kind_searches LoadNext other = next_searches
kind_searches Prepare other = prepare_searches
kind_searches Raise other = absurd (other refl)
kind_searches Finalise other = finalise_searches
kind_searches TryLock other = lock_searches
kind_searches Unlock other = unlock_searches
kind_searches LoadMark other = mark_searches
kind_searches MarkNode other = marked_searches
kind_searches LoadKeyOrVal other = pair_searches
kind_searches Announce other = announce_searches
kind_searches LookAnn other = look_ann_searches
kind_searches Cut other = cut_searches
kind_searches LoadLink other = link_searches
kind_searches SetLink other = set_searches
kind_searches LoadTag other = tag_searches
kind_searches SetTag other = set_tag_searches

module _ (z : Layout) (words : List ℕ) (vs : List View) (right : InRule z words vs) (i : ℕ) (v : View) (at : IsItem vs i v) (live : v.joined ≡ false) (n : ℕ)
    (w : Word) (found : word_at z n ≡ Some w) (value : ℕ) (o : Option Update) where
  abbrev m : Memory
  m = memory z words

  abbrev words' : Kind → List ℕ
  words' kind = words_after kind words n value

  abbrev views' : Kind → List View
  views' kind = views_after kind z m vs i v w value o

  -- over the tree that the rule names after the event
  abbrev Then : (kind : Kind) → After z words vs right (words' kind) (views' kind) → Type 0
  Then kind gives = SearchesAfter z (plain_graph (memory z (words' kind))) (views' kind) gives.kept.meaning.tree

  unraised : (kind : Kind) → (kind ≡ Raise → ⊥) → (gives : After z words vs right (words' kind) (views' kind)) → carries kind v o ≡ true
      → needs kind z m vs i v w value o ≡ true → Then kind gives
  unraised kind other gives own met =
      subst (λ (t : NamedTree). SearchesAfter z (plain_graph (memory z (words' kind))) (views' kind) t)
      (sym (gives.kept.stays (stamp_stays z words vs i v n w right.size found value o kind other met)))
      (kind_searches kind other z words vs right i v at live n w found value o own met)

  raised : (gives : After z words vs right (words' Raise) (views' Raise)) → carries Raise v o ≡ true → needs Raise z m vs i v w value o ≡ true
      → Then Raise gives
  raised gives own met =
      subst (λ (t : NamedTree). SearchesAfter z (plain_graph (memory z (words' Raise))) (views' Raise) t)
      (tree_is z (memory z (words' Raise)) (views' Raise) gives.kept.meaning gives.kept.rule)
      (raise_searches z words vs right i v at live n w found value o own met)

  pub searches_after : (kind : Kind) → (gives : After z words vs right (words' kind) (views' kind)) → carries kind v o ≡ true
      → needs kind z m vs i v w value o ≡ true → Then kind gives
  searches_after Raise gives own met = raised gives own met
  searches_after kind gives own met = unraised kind (λ e. cc) gives own met
