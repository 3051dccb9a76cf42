use Rattle.std.proofs.Common.{◌≡◌, ℕ, List, Option, subst, arith}
use Rattle.std.proofs.lemmas.List.{length-map}
use Rattle.request_lines.specs.declared.session.ClientPart.{ClientPart}
use Rattle.request_lines.specs.Session.{request_lines}
use Rattle.table_steps.specs.Passes.{Pass}
use Rattle.shared_index.specs.Keys.{AreFresh}
use Rattle.client_threads.specs.Pools.{named}
use Rattle.client_threads.specs.Runs.{CanRunEach, parts_of}
use Rattle.client_threads.specs.Sizes.{sizes_of}
use Rattle.client_threads.proofs.Keys.{can_run, all_back, ran_session}
use Rattle.client_threads.proofs.NodeSums.{depot_fits}
use Rattle.client_threads.proofs.history.history_over.Goals as goal

pub run_keys-requires-clause-can : goal.run_keys-requires-clause-can
run_keys-requires-clause-can g c κs within =
    can_run c.args.served.now.dir.now (named c.args.served.now.slots) c.args.served.now.session.now c.args.index c.args.keys.items c.requires.can c.requires.all
    c.requires.fresh

pub run_keys-requires-clause-some : goal.run_keys-requires-clause-some
run_keys-requires-clause-some g c κs within =
    let can : CanRunEach c.args.served.now.dir.now c.args.index (parts_of c.args.served.now.session.now.clients) c.args.keys.items = run_keys-requires-clause-can g c κs within in
    omega (arith, can.one_each, length-map c.args.served.now.session.now.clients request_lines, c.requires.can.few.some)

pub run_keys-requires-clause-few : goal.run_keys-requires-clause-few
run_keys-requires-clause-few g c κs within =
    let can : CanRunEach c.args.served.now.dir.now c.args.index (parts_of c.args.served.now.session.now.clients) c.args.keys.items = run_keys-requires-clause-can g c κs within in
    omega (arith, can.one_each, length-map c.args.served.now.session.now.clients request_lines, c.requires.can.few.few)

pub run_keys-requires-clause-fits : goal.run_keys-requires-clause-fits
run_keys-requires-clause-fits g c κs within = depot_fits (named c.args.served.now.slots) c.args.served.now.session.now.clients c.args.keys.items c.requires.fresh

pub finish-requires : goal.finish-requires
finish-requires g c =
    let can : CanRunEach c.args.served.now.dir.now c.args.index (parts_of c.args.served.now.session.now.clients) c.args.keys.items =
    can_run c.args.served.now.dir.now (named c.args.served.now.slots) c.args.served.now.session.now c.args.index c.args.keys.items c.requires.can c.requires.all
    c.requires.fresh in
    record {
      all =
          all_back (named c.args.served.now.slots) c.args.served.now.dir.now c.args.index (parts_of c.args.served.now.session.now.clients) c.args.keys.items c.in_ok-keys.keys.items
          (g.R.Runner.replied c.run_keys.new.runner) can c.in_ok-keys.ensures.ran c.requires.all;
    }

pub returns-in-Ok-clause-ran : goal.returns-in-Ok-clause-ran
returns-in-Ok-clause-ran g c =
    ran_session c.args.served.now.dir.now (named c.args.served.now.slots) c.args.served.now.session.now c.args.index c.args.keys.items c.in_ok-keys.keys.items (g.R.Runner.replied c.run_keys.new.runner) c.in-Ok.updates.items
    c.requires.can c.requires.all
    c.requires.fresh
    c.in_ok-keys.ensures.ran c.in-Ok.ensures.seen c.in-Ok.ensures.clients c.in-Ok.ensures.places
