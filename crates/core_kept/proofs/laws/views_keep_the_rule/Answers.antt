use Rattle.core_invariant.proofs.KeptViews.{spent_after}
use Rattle.core_kept.proofs.LinkedLast.{linking_after}
use Rattle.core_kept.proofs.OwnPlaces.{places_after}
use Rattle.core_kept.proofs.WaitingSlots.{waits_after}
use Rattle.core_kept.proofs.UnusedSlots.{unused_after}
use Rattle.core_kept.proofs.SectionLaw.{moves_sections}
use Rattle.core_kept.proofs.SectionWords.{spare_after}
use Rattle.core_kept.proofs.SeenLaw.{keeps_seen}
use Rattle.core_kept.proofs.laws.views_keep_the_rule.Goals as goal

pub returns : goal.returns
returns c = record {
  spent = λ z m vs i v w value o all live kind. spent_after z m vs i v w value o all live kind;
  spare = λ z words vs right i v at n w found value o kind met. spare_after z words vs right i v at n w found value o kind met;
  places = λ z words vs right i v at w value kind o own met. places_after z words vs right i v at w value kind o own met;
  waits = λ z words vs right i v at n w found value kind o own met. waits_after z words vs right i v at n w found value kind o own met;
  unused = λ z words vs right i v at n w found value kind o met. unused_after z words vs right i v at n w found value kind o met;
  linking = λ z words vs right i v at w value kind o met. linking_after z words vs right i v at value kind w o met;
  seen = keeps_seen;
  sections = moves_sections;
}
