use Rattle.core_laws.proofs.Searching.{link_found, own_left, held_link, null_link, head_numbered_law}
use Rattle.core_laws.proofs.NoReturn.{no_return}
use Rattle.core_laws.proofs.SearchTurns.{search_keys, beyond, still_law}
use Rattle.core_laws.proofs.view_laws.what_searches_find.Goals as goal

pub returns-clause-link : goal.returns-clause-link
returns-clause-link c = link_found

pub returns-clause-own : goal.returns-clause-own
returns-clause-own c = own_left

pub returns-clause-held : goal.returns-clause-held
returns-clause-held c = held_link

pub returns-clause-null : goal.returns-clause-null
returns-clause-null c = null_link

pub returns-clause-head : goal.returns-clause-head
returns-clause-head c = head_numbered_law

pub returns-clause-keys : goal.returns-clause-keys
returns-clause-keys c = search_keys

pub returns-clause-beyond : goal.returns-clause-beyond
returns-clause-beyond c = beyond

pub returns-clause-alone : goal.returns-clause-alone
returns-clause-alone c = still_law

pub returns-clause-no_return : goal.returns-clause-no_return
returns-clause-no_return c = no_return
