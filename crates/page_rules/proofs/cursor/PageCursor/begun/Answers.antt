use Rattle.std.proofs.Common.{Some, None}
use Rattle.std.specs.Option.{option_copied}
use Rattle.page_rules.proofs.Taken.{new_on_way}
use Rattle.page_rules.proofs.cursor.PageCursor.begun.Goals as goal
use Rattle.page_rules.proofs.cursor.PageCursor.begun.Goals.{then-query-eq0, else-query-eq0}

pub returns-clause-on_way : goal.returns-clause-on_way
returns-clause-on_way c m =
    let dir = c.args.dir.now in
    let query = c.args.query.now in
    let point = option_copied c.args.point in
    let made = new_on_way dir query point m c.new.result in
    elim c.if-query-eq0.branch [
      | then-query-eq0 w ↦ rw w.next-is (made None c.new.ensures w.if-query-eq0.true)
      | else-query-eq0 w ↦ rw w.next-is (made (Some w.first_rank.result) c.new.ensures w.first_rank.ensures)
    ]
