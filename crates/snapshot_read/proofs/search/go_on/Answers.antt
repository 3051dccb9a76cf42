use Rattle.snapshot_read.proofs.search.go_on.Goals as goal

pub returns-in-Left-Some-clause-kept : goal.returns-in-Left-Some-clause-kept
returns-in-Left-Some-clause-kept c =
    let v = c.args.pass.now.view in
    λ kept. c.keep_right.ensures.kept v c.args.at kept (c.go_down-below.ensures.turned c.in-Left-Some.here c.in-Left-Some.is-0 c.in-Left-Some.is-1)
