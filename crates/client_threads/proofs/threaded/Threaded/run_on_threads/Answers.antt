use Rattle.client_threads.specs.Runs.{parts_of}
use Rattle.client_threads.proofs.Threads.{ran_each_part}
use Rattle.client_threads.proofs.threaded.Threaded.run_on_threads.Goals as goal

pub returns-clause-ran : goal.returns-clause-ran
returns-clause-ran g c =
    rw c.keep.ensures.replied
    (ran_each_part c.args.input.now.dir.now c.args.input.now.index.now (parts_of c.args.input.now.session.now.clients) c.args.keys.items c.in_ok-results.results.items c.in_ok-keys.keys.items _ c.in_ok-keys.replies.items tt
    c.requires.one_each
    c.in_ok-results.ensures
    c.in_ok-keys.ensures)
