use Rattle.std.proofs.Common.{sym, subst}
use Rattle.std.specs.Result.{IfOk}
use Rattle.std.specs.Option.{option_copied}
use Rattle.std.proofs.lemmas.Result.{IfOk-weaker}
use Rattle.bucket_terms.specs.declared.list_query.ListQuery.{ListQuery}
use Rattle.bucket_terms.specs.declared.request.Request.{Request}
use Rattle.bucket_terms.specs.declared.request.Request.TheVariants.{List as ListRequest}
use Rattle.replay_check.specs.Answering.{IsRefusal}
use Rattle.replay_check.proofs.answers.refused.Goals as goal

pub returns-in-List-clause-refusal : goal.returns-in-List-clause-refusal
returns-in-List-clause-refusal c =
    subst (λ (r : Request). IfOk c.refused_list.result (IsRefusal c.args.dir.now c.args.slots c.args.used (option_copied c.args.last) r)) (sym c.in-List.is)
    (subst (λ (q : ListQuery). IfOk c.refused_list.result (IsRefusal c.args.dir.now c.args.slots c.args.used (option_copied c.args.last) (ListRequest q))) c.get.ensures
    (IfOk-weaker c.refused_list.result _ _ (λ found told. told c.args.dir.now c.args.slots c.args.used (option_copied c.args.last)) c.refused_list.ensures.refusal))

pub returns-in-List-clause-in_range : goal.returns-in-List-clause-in_range
returns-in-List-clause-in_range c = c.refused_list.ensures.in_range c.args.dir.now

pub returns-in-Next-clause-refusal : goal.returns-in-Next-clause-refusal
returns-in-Next-clause-refusal c =
    subst (λ (r : Request). IfOk c.refused_next.result (IsRefusal c.args.dir.now c.args.slots c.args.used (option_copied c.args.last) r)) (sym c.in-Next.is)
    (IfOk-weaker c.refused_next.result _ _ (λ found told. told c.args.slots c.args.used) c.refused_next.ensures.refusal)
