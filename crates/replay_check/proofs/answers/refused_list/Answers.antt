use Rattle.std.proofs.Common.{ℕ, List, Option, None, Some, refl, sym, subst}
use Rattle.bucket_terms.specs.declared.list_query.ListQuery.{ListQuery}
use Rattle.bucket_terms.specs.declared.reply.Reply.{Reply}
use Rattle.bucket_terms.specs.declared.request.Request.TheVariants.{List as ListRequest}
use Rattle.client_run.specs.Starts.{IsStartOf}
use Rattle.client_run.specs.declared.pages.Start.{Start}
use Rattle.client_run.specs.declared.pages.Start.TheVariants.{First, Behind, Bad}
use Rattle.client_run.proofs.Listings.{no_point}
use Rattle.replay_check.specs.Answering.{IsRefusal, start_reply}
use Rattle.replay_check.proofs.answers.refused_list.Goals as goal

by_start : (query : ListQuery) (start : Start) → IsStartOf query start → (dir : List (List ℕ)) (slots used : ℕ) (last : Option Reply)
    → IsRefusal dir slots used last (ListRequest query) (start_reply start)
by_start query First is dir slots used last = (None, is)
by_start query (Behind point) is dir slots used last = (Some point, is)
by_start query Bad is dir slots used last = (refl, no_point query is)

pub returns-clause-refusal : goal.returns-clause-refusal
returns-clause-refusal c = λ dir slots used last.
    subst (IsRefusal dir slots used last (ListRequest c.args.query.now)) (sym c.refused_start.ensures)
    (by_start c.args.query.now c.in_ok-start.start c.in_ok-start.ensures dir slots used last)
