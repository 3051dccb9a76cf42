use Rattle.core_laws.proofs.Unlinks.{unlink_law, looks_last}
use Rattle.core_laws.proofs.Waits.{no_looks_law, locked_stays}
use Rattle.core_laws.proofs.view_laws.what_a_wait_keeps.Goals as goal

pub returns : goal.returns
returns c = record { begins = no_looks_law; stays = locked_stays; unlinks = unlink_law; looks = looks_last }
