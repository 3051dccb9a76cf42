-- What is said of turns, of nodes that leave the plain tree, and of a table of one pass, after an event that is
-- allowed: kind by kind.
use Rattle.core_events.specs.declared.event.Kind.{Kind}
use Rattle.core_events.specs.declared.event.Kind.TheVariants.{MakeSeat, SplitSeat, JoinSeat, Enter, Leave, LookSec, Fill, LoadStamp, LoadHead, LoadTs, LoadPtr, LoadNext, Prepare, Raise, Finalise, TryLock, Unlock, LoadMark, Mark as MarkNode, LoadKeyOrVal, Announce, LookAnn, Cut, LoadLink, SetLink, LoadTag, SetTag}
use Rattle.core_kept.specs.TurnLaws.{KeepsTurnsAt}
use Rattle.core_kept.proofs.TurnAlone.{set_tag_turns}
use Rattle.core_kept.proofs.TurnFills.{fill_turns}
use Rattle.core_kept.proofs.TurnKinds.{head_turns, ts_turns, ptr_turns, next_turns, mark_turns, pair_turns, tag_turns, look_ann_turns}
use Rattle.core_kept.proofs.TurnRaises.{raise_turns}
use Rattle.core_kept.proofs.TurnSeats.{made_turns, split_turns, join_turns, enter_turns, leave_turns, look_turns, stamp_turns, unlock_turns}
use Rattle.core_kept.proofs.TurnSets.{set_turns}
use Rattle.core_kept.proofs.TurnStores.{prepare_turns, finalise_turns, cut_turns, marked_turns, announce_turns, lock_turns}
use Rattle.core_kept.proofs.TurnWalks.{link_turns}

pub turns_after : (kind : Kind) → KeepsTurnsAt kind
turns_after MakeSeat = made_turns
turns_after SplitSeat = split_turns
turns_after JoinSeat = join_turns
turns_after Enter = enter_turns
turns_after Leave = leave_turns
turns_after LookSec = look_turns
turns_after Fill = fill_turns
turns_after LoadStamp = stamp_turns
turns_after LoadHead = head_turns
turns_after LoadTs = ts_turns
turns_after LoadPtr = ptr_turns
turns_after LoadNext = next_turns
turns_after Prepare = prepare_turns
turns_after Raise = raise_turns
turns_after Finalise = finalise_turns
turns_after TryLock = lock_turns
turns_after Unlock = unlock_turns
turns_after LoadMark = mark_turns
turns_after MarkNode = marked_turns
turns_after LoadKeyOrVal = pair_turns
turns_after Announce = announce_turns
turns_after LookAnn = look_ann_turns
turns_after Cut = cut_turns
turns_after LoadLink = link_turns
turns_after SetLink = set_turns
turns_after LoadTag = tag_turns
turns_after SetTag = set_tag_turns
