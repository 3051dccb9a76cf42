-- The law of markers, wherever the call returns.
use Rattle.list_v1.proofs.Markers.{marker_left, marker_all}
use Rattle.list_v1.proofs.marker.next_marker.Goals as goal

pub returns-then-is_empty-clause-left : goal.returns-then-is_empty-clause-left
returns-then-is_empty-clause-left c m map = marker_left c.args.dir.now m c.len-names.ensures.rising c.len-names.ensures.fine map c.args.query.now c.args.page.now

pub returns-then-is_empty-clause-chained : goal.returns-then-is_empty-clause-chained
returns-then-is_empty-clause-chained c m map = marker_all c.args.dir.now m c.len-names.ensures.rising c.len-names.ensures.fine map c.args.query.now c.args.page.now

pub returns-in_err-point-clause-left : goal.returns-in_err-point-clause-left
returns-in_err-point-clause-left c m map = marker_left c.args.dir.now m c.len-names.ensures.rising c.len-names.ensures.fine map c.args.query.now c.args.page.now

pub returns-in_err-point-clause-chained : goal.returns-in_err-point-clause-chained
returns-in_err-point-clause-chained c m map = marker_all c.args.dir.now m c.len-names.ensures.rising c.len-names.ensures.fine map c.args.query.now c.args.page.now

pub returns-in-Some-clause-left : goal.returns-in-Some-clause-left
returns-in-Some-clause-left c m map = marker_left c.args.dir.now m c.len-names.ensures.rising c.len-names.ensures.fine map c.args.query.now c.args.page.now

pub returns-in-Some-clause-chained : goal.returns-in-Some-clause-chained
returns-in-Some-clause-chained c m map = marker_all c.args.dir.now m c.len-names.ensures.rising c.len-names.ensures.fine map c.args.query.now c.args.page.now

pub returns-in-None-clause-chained : goal.returns-in-None-clause-chained
returns-in-None-clause-chained c m map = marker_all c.args.dir.now m c.len-names.ensures.rising c.len-names.ensures.fine map c.args.query.now c.args.page.now
