use Rattle.std.proofs.Common.{◌≡◌, ℕ, ◌+◌, List, length, Option, Some}
use Rattle.std.specs.Option.{option_copied}
use Rattle.key_map.specs.History.{after}
use Rattle.bucket_terms.specs.declared.list_query.ListQuery.{ListQuery}
use Rattle.bucket_terms.specs.declared.token_point.TokenPoint.{TokenPoint}
use Rattle.bucket_terms.specs.PassView.{PassView}
use Rattle.page_rules.specs.Cursor.{CursorView, IsOnWay}
use Rattle.client_run.proofs.Walk.{left_at}
use Rattle.client_run.proofs.listing.page_in.Given as goal

-- the pass is as at the start, and the cursor is on its way to the page of the open snapshot
pub record IsWalking (dir : List (List ℕ)) (query : ListQuery) (point : Option TokenPoint) (start now : PassView) (cursor : CursorView) : Type 0 where
  pub same : now ≡ start
  pub dir_is : cursor.dir ≡ dir
  pub query_is : cursor.query ≡ query
  pub on_way : (at : ℕ) → start.opened ≡ Some at → IsOnWay cursor point (after start.seen at)

abbrev pub invariant-loop-rank : goal.invariant-loop-rank
invariant-loop-rank g l =
    IsWalking l.initial.cursor.dir l.query (option_copied l.point) (g.P.KeyPass.view l.initial.pass) (g.P.KeyPass.view l.pass) l.cursor
    × (g.P.Homed.home l.pass ≡ g.P.Homed.home l.initial.pass)

abbrev pub decreases-loop-rank : goal.decreases-loop-rank
decreases-loop-rank g l = left_at (length l.cursor.dir + 1) l.cursor.next
