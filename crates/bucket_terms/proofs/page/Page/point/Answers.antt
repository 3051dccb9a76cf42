use Rattle.std.proofs.Common.{Some, sym, ap, ◌∙◌}
use Rattle.bucket_terms.proofs.PagePoints.{page_point-truncated}
use Rattle.bucket_terms.proofs.page.Page.point.Goals as goal

pub returns-in_ok-point-in-Some-clause-point : goal.returns-in_ok-point-in-Some-clause-point
returns-in_ok-point-in-Some-clause-point c =
    let page = c.args.self.now in
    ap (λ p. Some p) c.in_ok-point-in-Some.ensures.point ∙ sym (page_point-truncated c.args.dir.now page c.in-Some.entry c.if-not-self.false (sym c.in-Some.is ∙ c.last.ensures))
