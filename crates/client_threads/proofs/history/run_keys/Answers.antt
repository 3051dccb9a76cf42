use Rattle.std.proofs.Common.{◌≡◌, ℕ, IfOk, IfSome, ◌*◌, ◌≤◌, length, sym, subst, arith}
use Rattle.std.specs.List.{sum_by}
use Rattle.std.proofs.lemmas.Result.{IfOk-weaker}
use Rattle.client_threads.specs.declared.node_slots.NodeSlots.{NodeSlots}
use Rattle.client_threads.specs.Behind.{RanBehindEach}
use Rattle.client_threads.specs.Pools.{PooledOverEach, named, owned}
use Rattle.client_threads.specs.Runs.{RanOverEach, parts_of}
use Rattle.client_threads.proofs.Keys.{apart_behind, pooled_behind}
use Rattle.client_threads.proofs.history.run_keys.Goals as goal

pub run_pool-requires-clause-fits : goal.run_pool-requires-clause-fits
run_pool-requires-clause-fits g c =
    let keys = c.args.keys.items in
    let long : length keys ≡ c.len.result = omega (arith, c.len.ensures, c.args.keys.ok) in
    subst (λ (n : ℕ). sum_by owned keys ≤ c.in-Pooled.own * n) long
    (subst (λ (s : NodeSlots). IfSome (named s) (λ own. sum_by owned keys ≤ own * length keys)) c.in-Pooled.is c.requires.fits)

pub returns-in-Pooled-clause-ran : goal.returns-in-Pooled-clause-ran
returns-in-Pooled-clause-ran g c =
    let dir = c.args.input.now.dir.now in
    let index = c.args.input.now.index.now in
    let parts = parts_of c.args.input.now.session.now.clients in
    let keys = c.args.keys.items in
    let replies = g.R.Runner.replied c.run_pool.new.self in
    subst (λ (s : NodeSlots). IfOk c.run_pool.result (λ back. RanBehindEach (named s) dir index parts keys back.items replies)) (sym c.in-Pooled.is)
    (IfOk-weaker c.run_pool.result (λ back. PooledOverEach c.in-Pooled.own dir index parts keys back.items replies) _
    (λ back. pooled_behind c.in-Pooled.own dir index parts keys back.items replies) c.run_pool.ensures.ran)

pub returns-in-AsAsked : goal.returns-in-AsAsked
returns-in-AsAsked g c =
    let dir = c.args.input.now.dir.now in
    let index = c.args.input.now.index.now in
    let parts = parts_of c.args.input.now.session.now.clients in
    let keys = c.args.keys.items in
    let replies = g.R.Runner.replied c.run_all.new.self in
    record {
      ran =
          IfOk-weaker c.run_all.result (λ back. RanOverEach dir index parts keys back.items replies) _
          (λ back. apart_behind (named c.args.slots) dir index parts keys back.items replies) c.run_all.ensures.ran;
      runs = c.run_all.ensures.runs;
    }
