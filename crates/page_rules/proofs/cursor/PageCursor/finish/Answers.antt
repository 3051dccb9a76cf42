use Rattle.page_rules.specs.CursorInside.{view_of}
use Rattle.page_rules.specs.Cursor.{IsOver, IsOnWay}
use Rattle.page_rules.proofs.Taken.{over_is_page}
use Rattle.page_rules.proofs.cursor.PageCursor.finish.Goals as goal

pub returns-clause-page : goal.returns-clause-page
returns-clause-page c point m map over on =
    let v = view_of c.self.inside in
    let over' : IsOver v m = rw (← c.self.view_is) at over in
    let on' : IsOnWay v point m = rw (← c.self.view_is) at on in
    rw (c.shrink_to_fit.ensures, ← c.self.view_is) (over_is_page v point m c.self.invariant.0 map over' on')
