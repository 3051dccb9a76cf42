use Rattle.std.proofs.Common.{ℕ, ◌<◌, length, map, subst, sym, arith}
use Rattle.std.proofs.lemmas.List.{length-map}
use Rattle.table_steps.specs.Parcels.{parcel_node}
use Rattle.shared_index.specs.Keys.{home_of_index}
use Rattle.client_threads.specs.Depots.{HasAdoptedFirst}
use Rattle.client_threads.specs.Runs.{parts_of}
use Rattle.client_threads.proofs.Depots.{can_pool_each, kept_nodes, pooled_over, kept_seats, seats_count, same_seats, same_homes, pooled_over_each}
use Rattle.client_threads.proofs.NodeSums.{jobs_fit, none_lost}
use Rattle.client_threads.proofs.pooled.pool_each.Goals as goal

pub pool_jobs-requires-clause-can : goal.pool_jobs-requires-clause-can
pool_jobs-requires-clause-can g c κs within =
    can_pool_each c.args.input.now.dir.now c.args.input.now.index.now c.in_ok-depot.depot (parts_of c.args.input.now.session.now.clients) c.args.keys.items c.in_ok-depot.seats.items c.in_ok-jobs.jobs.items c.requires.can
    c.in_ok-depot.ensures.each c.in_ok-jobs.ensures

pub pool_jobs-requires-clause-fits : goal.pool_jobs-requires-clause-fits
pool_jobs-requires-clause-fits g c κs within =
    omega (arith, jobs_fit c.args.keys.items c.in_ok-depot.seats.items c.in_ok-jobs.jobs.items c.in_ok-jobs.ensures, c.requires.fits, c.in_ok-depot.ensures.room)

pub close-requires : goal.close-requires
close-requires g c =
    let keys = c.args.keys.items in
    let seats = c.in_ok-depot.seats.items in
    let jobs = c.in_ok-jobs.jobs.items in
    let back = c.in_ok-keys.keys.items in
    let same =
    kept_seats c.args.own c.args.input.now.dir.now c.args.input.now.index.now (parts_of c.args.input.now.session.now.clients) keys seats jobs c.in_ok-results.results.items back c.in_ok-keys.seats.items c.in_ok-keys.replies.items
    c.in_ok-jobs.ensures c.in_ok-results.ensures c.in_ok-keys.ensures in
    let long = seats_count c.args.own c.args.input.now.dir.now c.args.input.now.index.now (parts_of c.args.input.now.session.now.clients) keys seats jobs c.in_ok-results.results.items back c.in_ok-keys.seats.items
    c.in_ok-keys.replies.items c.in_ok-jobs.ensures c.in_ok-results.ensures c.in_ok-keys.ensures in
    record { all = same_seats c.in_ok-depot.depot seats c.in_ok-keys.seats.items c.in_ok-depot.ensures.all long same }

pub adopt_left-requires-clause-of : goal.adopt_left-requires-clause-of
adopt_left-requires-clause-of g c = λ d.
    let some : 0 < length (parts_of c.args.input.now.session.now.clients) = omega (arith, c.requires.some, c.requires.can.one_each) in
    (pooled_over c.args.own c.args.input.now.dir.now c.args.input.now.index.now (parts_of c.args.input.now.session.now.clients) c.args.keys.items c.in_ok-depot.seats.items c.in_ok-jobs.jobs.items c.in_ok-results.results.items
    c.in_ok-keys.keys.items c.in_ok-keys.seats.items c.in_ok-keys.replies.items c.in_ok-jobs.ensures c.in_ok-results.ensures c.in_ok-keys.ensures c.requires.can.one_each 0 d d some).of

pub adopt_left-requires-clause-closed : goal.adopt_left-requires-clause-closed
adopt_left-requires-clause-closed g c = λ d.
    let some : 0 < length (parts_of c.args.input.now.session.now.clients) = omega (arith, c.requires.some, c.requires.can.one_each) in
    (pooled_over c.args.own c.args.input.now.dir.now c.args.input.now.index.now (parts_of c.args.input.now.session.now.clients) c.args.keys.items c.in_ok-depot.seats.items c.in_ok-jobs.jobs.items c.in_ok-results.results.items
    c.in_ok-keys.keys.items c.in_ok-keys.seats.items c.in_ok-keys.replies.items c.in_ok-jobs.ensures c.in_ok-results.ensures c.in_ok-keys.ensures c.requires.can.one_each 0 d d some).ran.closed

pub adopt_left-requires-clause-left : goal.adopt_left-requires-clause-left
adopt_left-requires-clause-left g c =
    let keys = c.args.keys.items in
    let seats = c.in_ok-depot.seats.items in
    let jobs = c.in_ok-jobs.jobs.items in
    let back = c.in_ok-keys.keys.items in
    let same =
    kept_seats c.args.own c.args.input.now.dir.now c.args.input.now.index.now (parts_of c.args.input.now.session.now.clients) keys seats jobs c.in_ok-results.results.items back c.in_ok-keys.seats.items c.in_ok-keys.replies.items
    c.in_ok-jobs.ensures c.in_ok-results.ensures c.in_ok-keys.ensures in
    let long = seats_count c.args.own c.args.input.now.dir.now c.args.input.now.index.now (parts_of c.args.input.now.session.now.clients) keys seats jobs c.in_ok-results.results.items back c.in_ok-keys.seats.items
    c.in_ok-keys.replies.items c.in_ok-jobs.ensures c.in_ok-results.ensures c.in_ok-keys.ensures in
    c.in-Ok.ensures.home (home_of_index c.args.input.now.index.now) (same_homes c.args.input.now.index.now c.in_ok-depot.depot seats c.in_ok-keys.seats.items long c.in_ok-depot.ensures.each same)

pub returns-in-Ok : goal.returns-in-Ok
returns-in-Ok g c =
    pooled_over_each c.args.own c.args.input.now.dir.now c.args.input.now.index.now (parts_of c.args.input.now.session.now.clients) c.args.keys.items c.in_ok-keys.keys.items c.adopt_left.result.items c.in_ok-keys.replies.items
    (pooled_over c.args.own c.args.input.now.dir.now c.args.input.now.index.now (parts_of c.args.input.now.session.now.clients) c.args.keys.items c.in_ok-depot.seats.items c.in_ok-jobs.jobs.items c.in_ok-results.results.items
    c.in_ok-keys.keys.items c.in_ok-keys.seats.items c.in_ok-keys.replies.items c.in_ok-jobs.ensures c.in_ok-results.ensures c.in_ok-keys.ensures c.requires.can.one_each)
    (length c.in-Ok.left.items) (omega (arith, c.in_ok-keys.ensures.keys_length, c.in_ok-results.ensures.one_each, c.in_ok-jobs.ensures.keys_length, c.requires.can.one_each)) c.adopt_left.ensures
    (omega (arith, c.in_ok-keys.ensures.replies_length, c.in_ok-results.ensures.one_each, c.in_ok-jobs.ensures.keys_length, c.requires.can.one_each))
    (none_lost c.args.input.now.index.now c.args.keys.items c.in_ok-keys.keys.items c.adopt_left.result.items c.in_ok-depot.seats.items c.in_ok-keys.seats.items (map parcel_node c.in-Ok.left.items) c.requires.some
    (omega (arith, c.in_ok-keys.ensures.keys_length, c.in_ok-results.ensures.one_each, c.in_ok-jobs.ensures.keys_length))
    (omega (arith, c.in_ok-jobs.ensures.keys_length, c.in_ok-jobs.ensures.seats_length))
    (omega (arith, c.in_ok-keys.ensures.seats_length, c.in_ok-results.ensures.one_each, c.in_ok-jobs.ensures.keys_length)) c.in_ok-depot.ensures.unwritten
    (kept_nodes c.args.own c.args.input.now.dir.now c.args.input.now.index.now (parts_of c.args.input.now.session.now.clients) c.args.keys.items c.in_ok-depot.seats.items c.in_ok-jobs.jobs.items c.in_ok-results.results.items
    c.in_ok-keys.keys.items c.in_ok-keys.seats.items c.in_ok-keys.replies.items c.in_ok-jobs.ensures c.in_ok-results.ensures c.in_ok-keys.ensures c.requires.can.one_each)
    c.in-Ok.ensures.balance
    (subst (λ (n : ℕ). HasAdoptedFirst c.args.input.now.index.now c.in_ok-keys.keys.items n c.adopt_left.result.items) (sym (length-map c.in-Ok.left.items parcel_node)) c.adopt_left.ensures))
