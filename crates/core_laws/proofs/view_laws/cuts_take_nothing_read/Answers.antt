use Rattle.core_laws.proofs.Unread.{unread_law}
use Rattle.core_laws.proofs.view_laws.cuts_take_nothing_read.Goals as goal

pub returns : goal.returns
returns c = record { unread = unread_law }
