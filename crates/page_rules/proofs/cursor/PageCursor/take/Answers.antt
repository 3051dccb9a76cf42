use Rattle.std.proofs.Common.{◌≡◌, length, sym, ◌∙◌, arith}
use Rattle.page_rules.specs.CursorInside.{view_of}
use Rattle.page_rules.proofs.Taken.{next_rank, unsettled_at, took_ended, took_full}
use Rattle.page_rules.proofs.cursor.PageCursor.take.Goals as goal

pub returns-then-not-lists-clause-took : goal.returns-then-not-lists-clause-took
returns-then-not-lists-clause-took c =
    let v = view_of c.self.inside in
    let next = next_rank v (rw (← c.self.view_is) at c.requires) in
    rw (← c.self.view_is) (took_ended v next.0 c.args.pair c.len-names.ensures.rising c.self.invariant.0.room next.1 (unsettled_at v next.0 c.self.invariant.0 next.1)
    (sym (rw (← c.self.view_is) at c.lists.ensures) ∙ c.if-not-lists.true))

pub returns-then-len-self-clause-took : goal.returns-then-len-self-clause-took
returns-then-len-self-clause-took c =
    let v = view_of c.self.inside in
    let next = next_rank v (rw (← c.self.view_is) at c.requires) in
    let full : length v.entries ≡ v.query.max_keys = omega (arith, c.len.ensures, c.if-len-self.true, c.self.invariant.0.room) in
    rw (← c.self.view_is) (took_full v next.0 c.args.pair c.len-names.ensures.rising full next.1 (unsettled_at v next.0 c.self.invariant.0 next.1)
    (sym (rw (← c.self.view_is) at c.lists.ensures) ∙ c.if-not-lists.false))
