-- An event that is allowed keeps the rule, and what each number up to the stamp selects.
use Rattle.std.proofs.Common.{◌≡◌, ℕ, List, true, false, not, ◌&&◌, refl, Option, Some}
use Rattle.std.specs.List.{All, slice_get}
use Rattle.std.proofs.lemmas.Bool.{and_parts}
use Rattle.index_words.specs.declared.layout.Layout.{Layout}
use Rattle.index_words.specs.declared.view.View.{View}
use Rattle.index_words.specs.declared.word.Word.{Word}
use Rattle.index_words.specs.Words.{memory, word_at}
use Rattle.core_events.specs.declared.event.Event.{Event}
use Rattle.core_events.specs.declared.event.Kind.TheVariants.{MakeSeat, SplitSeat, JoinSeat, Enter, Leave, LookSec, Fill, LoadStamp, LoadHead, LoadTs, LoadPtr, LoadNext, Prepare, Raise, Finalise, TryLock, Unlock, LoadMark, Mark as MarkNode, LoadKeyOrVal, Announce, LookAnn, Cut, LoadLink, SetLink, LoadTag, SetTag}
use Rattle.core_events.specs.Tables.{Table, held_by}
use Rattle.core_invariant.specs.Reached.{plain_graph}
use Rattle.core_invariant.specs.Rule.{InRule, IsRight}
use Rattle.core_invariant.specs.LinkLaw.{KeepsSelections}
use Rattle.core_events.specs.Steps.{needs, carries, allowed, allowed_at, after, after_at}
use Rattle.core_kept.specs.KeepsRule.{KeepsLaw}
use Rattle.core_kept.specs.KindLaws.{RuleLaw}
use Rattle.core_kept.specs.SearchLaws.{SearchesAfter}
use Rattle.core_kept.specs.TurnLaws.{TurnsAfter}
use Rattle.core_invariant.specs.LinkRule.{LinksLast}
use Rattle.core_invariant.specs.SpentViews.{IsSpent}
use Rattle.core_invariant.specs.Numbers.{IsSpare}
use Rattle.core_invariant.specs.OwnPlaces.{KnowsPlaces}
use Rattle.core_invariant.specs.WaitingSlots.{WaitsRight}
use Rattle.core_invariant.specs.UnusedSlots.{UnusedRight}
use Rattle.core_invariant.proofs.OneView.{item_from_get}
use Rattle.core_events.proofs.Tests.{never, not_true}
use Rattle.core_invariant.proofs.LinkLaw.{selections_kept}
use Rattle.core_invariant.proofs.KeptViews.{spent_after}
use Rattle.core_kept.proofs.SectionWords.{spare_after}
use Rattle.core_kept.proofs.OwnPlaces.{places_after}
use Rattle.core_kept.proofs.WaitingSlots.{waits_after}
use Rattle.core_kept.proofs.UnusedSlots.{unused_after}
use Rattle.core_invariant.specs.KeptRule.{After, KeepsRuleAt}
use Rattle.core_kept.proofs.StepLoads.{stamp_law, head_law, number_law, child_law, next_law}
use Rattle.core_kept.proofs.StepUpdates.{prepare_law, raise_law, finalise_law}
use Rattle.core_kept.proofs.StepLocks.{lock_law, unlock_law, load_mark_law, mark_law, load_pair_law}
use Rattle.core_kept.proofs.StepSeats.{split_law, join_law, enter_law, leave_law, look_law, fill_law, announce_law}
use Rattle.core_kept.proofs.StepCuts.{look_ann_law, cut_law}
use Rattle.core_kept.proofs.StepPlain.{load_link_law, set_link_law, load_tag_law, set_tag_law}
use Rattle.core_kept.proofs.LinkedLast.{linking_after}
use Rattle.core_kept.proofs.StepSearches.{searches_after}
use Rattle.core_kept.proofs.StepTurns.{turns_after}

-- no event makes a seat
none_made : KeepsRuleAt MakeSeat
none_made z words vs right i v at live n w found value o own met = absurd (never met)

pub rule_after : RuleLaw
rule_after MakeSeat = none_made
rule_after SplitSeat = split_law
rule_after JoinSeat = join_law
rule_after Enter = enter_law
rule_after Leave = leave_law
rule_after LookSec = look_law
rule_after Fill = fill_law
rule_after LoadStamp = stamp_law
rule_after LoadHead = head_law
rule_after LoadTs = number_law
rule_after LoadPtr = child_law
rule_after LoadNext = next_law
rule_after Prepare = prepare_law
rule_after Raise = raise_law
rule_after Finalise = finalise_law
rule_after TryLock = lock_law
rule_after Unlock = unlock_law
rule_after LoadMark = load_mark_law
rule_after MarkNode = mark_law
rule_after LoadKeyOrVal = load_pair_law
rule_after Announce = announce_law
rule_after LookAnn = look_ann_law
rule_after Cut = cut_law
rule_after LoadLink = load_link_law
rule_after SetLink = set_link_law
rule_after LoadTag = load_tag_law
rule_after SetTag = set_tag_law

-- the table after an event, and the rule of it
pub record AfterTable (t u : Table) : Type 0 where
  pub right : IsRight u
  pub same : KeepsSelections t u

after_of : (z : Layout) (words : List ℕ) (vs : List View) (right : InRule z words vs) (words' : List ℕ) (ws : List View)
    (gives : After z words vs right words' ws)
    → SearchesAfter z (plain_graph (memory z words')) ws gives.kept.meaning.tree → TurnsAfter z (memory z words') ws → All LinksLast ws
    → All IsSpent ws → All (IsSpare (memory z words')) ws → All KnowsPlaces ws → All WaitsRight ws → All (UnusedRight (memory z words')) ws
    → AfterTable (record { layout = z; words = words; views = vs }) (record { layout = z; words = words'; views = ws })
after_of z words vs right words' ws gives searches turned linking spent spare places waits unused =
    let turns = turned searches.plain_tree searches.trees.spelled in
    record {
      right = record {
        size = gives.size;
        meaning = gives.kept.meaning;
        rule = gives.kept.rule;
        plain = gives.kept.plain right.plain;
        plain_tree = searches.plain_tree;
        trees = searches.trees;
        searches = searches.searches;
        reach = searches.reach;
        turns = turns.turns;
        leaving = turns.leaving;
        still = turns.still;
        known = turns.known;
        linking = linking;
        spent = spent;
        spare = spare;
        places = places;
        waits = waits;
        unused = unused;
      };
      same = selections_kept z (memory z words) (memory z words') vs ws right.meaning gives.kept.meaning right.rule gives.kept.rule gives.kept.same;
    }

after_right : (t : Table) (e : Event) (o : Option View) (w : Option Word) → slice_get t.views e.seat ≡ o → word_at t.layout e.word ≡ w → IsRight t
    → allowed_at t e o w ≡ true → AfterTable t (after_at t e o w)
after_right t e (Some v) (Some w) is found right met =
    let a = carries e.kind v e.update in
    let b = not v.joined in
    let c = needs e.kind t.layout (held_by t) t.views e.seat v w e.value e.update in
    let one = and_parts (a && b) c met in
    let two = and_parts a b one.0 in
    let live : v.joined ≡ false = not_true v.joined two.1 in
    let at = item_from_get t.views e.seat v is in
    let gives = rule_after e.kind t.layout t.words t.views right e.seat v at live e.word w found e.value e.update two.0 one.1 in
    after_of t.layout t.words t.views right _ _ gives
    (searches_after t.layout t.words t.views right e.seat v at live e.word w found e.value e.update e.kind gives two.0 one.1)
    (turns_after e.kind t.layout t.words t.views right e.seat v at live e.word w found e.value e.update two.0 one.1)
    (linking_after t.layout t.words t.views right e.seat v at e.value e.kind w e.update one.1)
    (spent_after t.layout (held_by t) t.views e.seat v w e.value e.update right.spent live e.kind)
    (spare_after t.layout t.words t.views right e.seat v at e.word w found e.value e.update e.kind one.1)
    (places_after t.layout t.words t.views right e.seat v at w e.value e.kind e.update two.0 one.1)
    (waits_after t.layout t.words t.views right e.seat v at e.word w found e.value e.kind e.update two.0 one.1)
    (unused_after t.layout t.words t.views right e.seat v at e.word w found e.value e.kind e.update one.1)
after_right t e _ _ is found right met = absurd (never met)

-- the law on an allowed event: the rule holds after it, and what was selected is selected
pub stepped_right : (t : Table) (e : Event) → IsRight t → allowed t e ≡ true → AfterTable t (after t e)
stepped_right t e right met = after_right t e (slice_get t.views e.seat) (word_at t.layout e.word) refl refl right met

pub keeps : KeepsLaw
keeps t e right met = (stepped_right t e right met).right
