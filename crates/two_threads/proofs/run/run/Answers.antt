use Rattle.std.proofs.Common.{refl, subst}
use Rattle.shared_index.specs.Keys.{AreAllKeys, AreFresh}
use Rattle.two_threads.specs.Runs.{sizes}
use Rattle.two_threads.proofs.Runs.{ended_back, ended_run}
use Rattle.two_threads.proofs.run.run.Goals as goal

pub closed-requires : goal.closed-requires
closed-requires g c =
    let keys = c.both.result in
    record {
      all =
          ended_back c.in_ok-index.index c.args.dir.now c.args.query.now c.args.first c.args.second keys.0 keys.1 c.in-Ok.ended c.in-Ok.ensures
          (subst (AreFresh 0 sizes) c.both.ensures c.in_ok-index.ensures.fresh) (subst (AreAllKeys c.in_ok-index.index) c.both.ensures c.in_ok-index.ensures.all);
    }

pub returns : goal.returns
returns g c =
    let ended = c.in-Ok.ended in
    let keys = c.both.result in
    record {
      run =
          ended_run c.in_ok-index.index c.args.dir.now c.args.query.now c.args.first c.args.second keys.0 keys.1 ended c.in-Ok.ensures
          (subst (AreFresh 0 sizes) c.both.ensures c.in_ok-index.ensures.fresh)
          (record { first = ended.first; second = ended.second; handed = ended.handed; history = c.in_ok-history.history }) refl refl refl
          c.in_ok-history.ensures.seen c.in_ok-history.ensures.clients c.in_ok-history.ensures.places;
    }
