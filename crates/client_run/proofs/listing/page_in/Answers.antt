use Rattle.std.proofs.Common.{Some, None, sym, ap, ◌∙◌}
use Rattle.std.specs.Option.{option_copied}
use Rattle.key_map.specs.History.{after}
use Rattle.key_map.proofs.HistoryLaws.{IsMap-after}
use Rattle.bucket_terms.specs.declared.list_query.ListQuery.{ListQuery}
use Rattle.bucket_terms.specs.Listing.{page_of}
use Rattle.client_run.proofs.Walk.{ranks_smaller, next_is, over_is, some_is, found_at}
use Rattle.client_run.proofs.listing.page_in.Goals as goal

pub loop-rank-smaller : goal.loop-rank-smaller
loop-rank-smaller g c =
    let start = g.P.KeyPass.view c.args.pass.now in
    let at = some_is start.opened c.requires.open in
    ranks_smaller c.loop-rank.cursor c.take.new.self c.in-Some.rank c.in-Some-next_from.pair (after start.seen at.0) (sym c.in-Some.ensures.next) c.in-Some.ensures.within
    (found_at start (g.P.KeyPass.view c.loop-rank.pass) c.in-Some.rank at.0 (Some c.in-Some-next_from.pair) c.loop-rank.invariant.0.same at.1 c.in-Some-next_from.ensures.first)
    c.in_ok-take-in-Some-next_from.ensures.took

pub loop-rank-preserved : goal.loop-rank-preserved
loop-rank-preserved g c =
    let start = g.P.KeyPass.view c.args.pass.now in
    let before = c.loop-rank.invariant.0 in
    let took = c.in_ok-take-in-Some-next_from.ensures.took in (
      record {
        same = c.next_from.ensures.same ∙ before.same;
        dir_is = took.dir ∙ before.dir_is;
        query_is = took.query ∙ before.query_is;
        on_way = λ at opened. took.on_way (option_copied c.args.point) (after start.seen at) (IsMap-after start.seen at)
            (next_is c.loop-rank.cursor c.in-Some.rank c.in-Some-next_from.pair (after start.seen at) (sym c.in-Some.ensures.next)
            (found_at start (g.P.KeyPass.view c.loop-rank.pass) c.in-Some.rank at (Some c.in-Some-next_from.pair) before.same opened c.in-Some-next_from.ensures.first))
            (before.on_way at opened);
      },
      c.next_from.ensures.home ∙ c.loop-rank.invariant.1,
    )

pub returns-in-None-clause-page : goal.returns-in-None-clause-page
returns-in-None-clause-page g c = λ at opened.
    let start = g.P.KeyPass.view c.args.pass.now in
    let before = c.loop-rank.invariant.0 in
    let m = after start.seen at in
    c.finish.ensures.page (option_copied c.args.point) m (IsMap-after start.seen at)
    (over_is c.loop-rank.cursor c.in-Some.rank m (sym c.in-Some.ensures.next) (found_at start (g.P.KeyPass.view c.loop-rank.pass) c.in-Some.rank at None before.same opened c.in-None.ensures.first))
    (before.on_way at opened)
    ∙ ap (λ d. page_of d c.loop-rank.cursor.query (option_copied c.args.point) m) (before.dir_is ∙ c.of_known-cursor.ensures.start.dir_is)
    ∙ ap (λ (q : ListQuery). page_of c.args.known.now q (option_copied c.args.point) m) before.query_is
