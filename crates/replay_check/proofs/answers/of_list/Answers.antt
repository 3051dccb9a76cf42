use Rattle.std.proofs.Common.{subst}
use Rattle.bucket_terms.specs.declared.list_query.ListQuery.{ListQuery}
use Rattle.client_run.specs.Starts.{IsStartOf}
use Rattle.client_run.specs.declared.pages.Start.{Start}
use Rattle.client_run.proofs.Listings.{no_point}
use Rattle.replay_check.proofs.answers.of_list.Goals as goal

pub returns-in-Bad-clause-look : goal.returns-in-Bad-clause-look
returns-in-Bad-clause-look c = no_point c.args.query.now (subst (λ (s : Start). IsStartOf c.args.query.now s) c.in-Bad.is (subst (λ (q : ListQuery). IsStartOf q c.in_ok-start_of.field-0) c.get.ensures c.in_ok-start_of.ensures))
