use Rattle.std.proofs.Common.{◌∙◌, sym, codes, Some, None}
use Rattle.std.specs.Fmt.{decimal}
use Rattle.clap.specs.Matches.{found_of}
use Rattle.clap.specs.Walk.{rows_of}
use Rattle.clap.proofs.WalkLemmas.{first_value-rows}
use Rattle.command_words.proofs.ClapReads.{rows_read}
use Rattle.command_words.proofs.reading.form_in.Goals as goal

pub returns-in-Some-clause-run : goal.returns-in-Some-clause-run
returns-in-Some-clause-run c = λ is.
    let read = rows_read c.args.matches.now c.in-Some.name.now (rows_of (found_of c.in-Some.inner.now)) (codes "run") None None
    (sym c.in-Some.ensures.name) (sym c.in-Some.ensures.rows) is in
    c.form_named.ensures.run read.name_is (c.get_str-number.ensures ∙ first_value-rows (found_of c.in-Some.inner.now) (codes "number") ∙ read.number_is) (c.get_str-pool.ensures ∙ first_value-rows (found_of c.in-Some.inner.now) (codes "pool") ∙ read.pool_is)

pub returns-in-Some-clause-slots : goal.returns-in-Some-clause-slots
returns-in-Some-clause-slots c = λ n is most.
    let read = rows_read c.args.matches.now c.in-Some.name.now (rows_of (found_of c.in-Some.inner.now)) (codes "run") (Some (decimal n)) None
    (sym c.in-Some.ensures.name) (sym c.in-Some.ensures.rows) is in
    c.form_named.ensures.slots n read.name_is (c.get_str-number.ensures ∙ first_value-rows (found_of c.in-Some.inner.now) (codes "number") ∙ read.number_is) (c.get_str-pool.ensures ∙ first_value-rows (found_of c.in-Some.inner.now) (codes "pool") ∙ read.pool_is) most

pub returns-in-Some-clause-pool : goal.returns-in-Some-clause-pool
returns-in-Some-clause-pool c = λ n is most.
    let read = rows_read c.args.matches.now c.in-Some.name.now (rows_of (found_of c.in-Some.inner.now)) (codes "run") None (Some (decimal n))
    (sym c.in-Some.ensures.name) (sym c.in-Some.ensures.rows) is in
    c.form_named.ensures.pool n read.name_is (c.get_str-pool.ensures ∙ first_value-rows (found_of c.in-Some.inner.now) (codes "pool") ∙ read.pool_is) most

pub returns-in-Some-clause-check : goal.returns-in-Some-clause-check
returns-in-Some-clause-check c = λ is.
    let read = rows_read c.args.matches.now c.in-Some.name.now (rows_of (found_of c.in-Some.inner.now)) (codes "check") None None
    (sym c.in-Some.ensures.name) (sym c.in-Some.ensures.rows) is in
    c.form_named.ensures.check read.name_is (c.get_str-number.ensures ∙ first_value-rows (found_of c.in-Some.inner.now) (codes "number") ∙ read.number_is)

pub returns-in-Some-clause-check_slots : goal.returns-in-Some-clause-check_slots
returns-in-Some-clause-check_slots c = λ n is most.
    let read = rows_read c.args.matches.now c.in-Some.name.now (rows_of (found_of c.in-Some.inner.now)) (codes "check") (Some (decimal n)) None
    (sym c.in-Some.ensures.name) (sym c.in-Some.ensures.rows) is in
    c.form_named.ensures.check_slots n read.name_is (c.get_str-number.ensures ∙ first_value-rows (found_of c.in-Some.inner.now) (codes "number") ∙ read.number_is) most

pub returns-in-Some-clause-sample : goal.returns-in-Some-clause-sample
returns-in-Some-clause-sample c = λ n is most.
    let read = rows_read c.args.matches.now c.in-Some.name.now (rows_of (found_of c.in-Some.inner.now)) (codes "sample") (Some (decimal n)) None
    (sym c.in-Some.ensures.name) (sym c.in-Some.ensures.rows) is in
    c.form_named.ensures.sample n read.name_is (c.get_str-number.ensures ∙ first_value-rows (found_of c.in-Some.inner.now) (codes "number") ∙ read.number_is) most
