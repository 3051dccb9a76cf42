use Rattle.std.proofs.Common.{ℕ, Some, inl, inr, subst}
use Rattle.outside_io.specs.Streams.{IsTaken, TakesStart}
use Rattle.command_words.specs.declared.form.Form.TheVariants.{Run, Pool, Check, Sample}
use Rattle.sample_laws.specs.Sample.{sample_summary}
use Rattle.serve_session.specs.Served.{HoldsOfSample, IsRunOf, summary_text}
use Rattle.client_threads.specs.Pools.{named}
use Rattle.serve_session.proofs.Forms.{one_number, input_named, check_named, run_found, pool_found, check_found, found_form, found_none, no_form}
use Rattle.serve_session.proofs.serving.serve.Goals as goal

-- the slots that were found are those that the arguments name
pub returns-in-Ok-Some-Run-clause-headline : goal.returns-in-Ok-Some-Run-clause-headline
returns-in-Ok-Some-Run-clause-headline g c = λ slots is done.
    input_named c.args.words.now (named c.of_named-slots.result) slots _ _ _
    (run_found c.args.words.now c.in-Ok-Some-Run.slots (named c.of_named-slots.result) c.of_named-slots.ensures
    (found_form c.args.words.now c.in-Ok-Some-Run.field-0 (Run c.in-Ok-Some-Run.slots) (cc) c.in-Ok-Some-Run.ensures.form)) is (c.serve_input.ensures.headline done)

pub returns-in-Ok-Some-Run-clause-runner : goal.returns-in-Ok-Some-Run-clause-runner
returns-in-Ok-Some-Run-clause-runner g c = λ slots is done.
    input_named c.args.words.now (named c.of_named-slots.result) slots _ _ _
    (run_found c.args.words.now c.in-Ok-Some-Run.slots (named c.of_named-slots.result) c.of_named-slots.ensures
    (found_form c.args.words.now c.in-Ok-Some-Run.field-0 (Run c.in-Ok-Some-Run.slots) (cc) c.in-Ok-Some-Run.ensures.form)) is (c.serve_input.ensures.runner done)

pub returns-in-Ok-Some-Run-clause-write_fault : goal.returns-in-Ok-Some-Run-clause-write_fault
returns-in-Ok-Some-Run-clause-write_fault g c = λ slots is fault.
    input_named c.args.words.now (named c.of_named-slots.result) slots _ _ _
    (run_found c.args.words.now c.in-Ok-Some-Run.slots (named c.of_named-slots.result) c.of_named-slots.ensures
    (found_form c.args.words.now c.in-Ok-Some-Run.field-0 (Run c.in-Ok-Some-Run.slots) (cc) c.in-Ok-Some-Run.ensures.form)) is (c.serve_input.ensures.write_fault fault)

pub returns-in-Ok-Some-Run-clause-no_memory : goal.returns-in-Ok-Some-Run-clause-no_memory
returns-in-Ok-Some-Run-clause-no_memory g c = λ slots is none.
    elim (c.serve_input.ensures.no_memory none) [
      | inl quiet ↦ inl quiet
      | inr wrote ↦ inr
          (input_named c.args.words.now (named c.of_named-slots.result) slots _ _ _
          (run_found c.args.words.now c.in-Ok-Some-Run.slots (named c.of_named-slots.result) c.of_named-slots.ensures
          (found_form c.args.words.now c.in-Ok-Some-Run.field-0 (Run c.in-Ok-Some-Run.slots) (cc) c.in-Ok-Some-Run.ensures.form)) is wrote)
    ]

pub returns-in-Ok-Some-Run-clause-nothing_read : goal.returns-in-Ok-Some-Run-clause-nothing_read
returns-in-Ok-Some-Run-clause-nothing_read g c = λ no_run no_check. absurd (no_run (named c.of_named-slots.result)
    (run_found c.args.words.now c.in-Ok-Some-Run.slots (named c.of_named-slots.result) c.of_named-slots.ensures
    (found_form c.args.words.now c.in-Ok-Some-Run.field-0 (Run c.in-Ok-Some-Run.slots) (cc) c.in-Ok-Some-Run.ensures.form)))

pub returns-in-Ok-Some-Pool-clause-headline : goal.returns-in-Ok-Some-Pool-clause-headline
returns-in-Ok-Some-Pool-clause-headline g c = λ slots is done.
    input_named c.args.words.now (Some c.in-Ok-Some-Pool.slots) slots _ _ _
    (pool_found c.args.words.now c.in-Ok-Some-Pool.slots (found_form c.args.words.now c.in-Ok-Some-Pool.field-0 (Pool c.in-Ok-Some-Pool.slots) (cc) c.in-Ok-Some-Pool.ensures.form)) is
    (c.serve_input-in-Ok-Some-Pool.ensures.headline done)

pub returns-in-Ok-Some-Pool-clause-runner : goal.returns-in-Ok-Some-Pool-clause-runner
returns-in-Ok-Some-Pool-clause-runner g c = λ slots is done.
    input_named c.args.words.now (Some c.in-Ok-Some-Pool.slots) slots _ _ _
    (pool_found c.args.words.now c.in-Ok-Some-Pool.slots (found_form c.args.words.now c.in-Ok-Some-Pool.field-0 (Pool c.in-Ok-Some-Pool.slots) (cc) c.in-Ok-Some-Pool.ensures.form)) is
    (c.serve_input-in-Ok-Some-Pool.ensures.runner done)

pub returns-in-Ok-Some-Pool-clause-write_fault : goal.returns-in-Ok-Some-Pool-clause-write_fault
returns-in-Ok-Some-Pool-clause-write_fault g c = λ slots is fault.
    input_named c.args.words.now (Some c.in-Ok-Some-Pool.slots) slots _ _ _
    (pool_found c.args.words.now c.in-Ok-Some-Pool.slots (found_form c.args.words.now c.in-Ok-Some-Pool.field-0 (Pool c.in-Ok-Some-Pool.slots) (cc) c.in-Ok-Some-Pool.ensures.form)) is
    (c.serve_input-in-Ok-Some-Pool.ensures.write_fault fault)

pub returns-in-Ok-Some-Pool-clause-no_memory : goal.returns-in-Ok-Some-Pool-clause-no_memory
returns-in-Ok-Some-Pool-clause-no_memory g c = λ slots is none.
    elim (c.serve_input-in-Ok-Some-Pool.ensures.no_memory none) [
      | inl quiet ↦ inl quiet
      | inr wrote ↦ inr
          (input_named c.args.words.now (Some c.in-Ok-Some-Pool.slots) slots _ _ _
          (pool_found c.args.words.now c.in-Ok-Some-Pool.slots (found_form c.args.words.now c.in-Ok-Some-Pool.field-0 (Pool c.in-Ok-Some-Pool.slots) (cc) c.in-Ok-Some-Pool.ensures.form)) is
          wrote)
    ]

pub returns-in-Ok-Some-Pool-clause-no_form : goal.returns-in-Ok-Some-Pool-clause-no_form
returns-in-Ok-Some-Pool-clause-no_form g c = λ none. absurd (none (inl (
  Some c.in-Ok-Some-Pool.slots,
  (pool_found c.args.words.now c.in-Ok-Some-Pool.slots
      (found_form c.args.words.now c.in-Ok-Some-Pool.field-0 (Pool c.in-Ok-Some-Pool.slots) (cc) c.in-Ok-Some-Pool.ensures.form)),
)))

pub returns-in-Ok-Some-Pool-clause-nothing_read : goal.returns-in-Ok-Some-Pool-clause-nothing_read
returns-in-Ok-Some-Pool-clause-nothing_read g c = λ no_run no_check. absurd (no_run (Some c.in-Ok-Some-Pool.slots)
    (pool_found c.args.words.now c.in-Ok-Some-Pool.slots
    (found_form c.args.words.now c.in-Ok-Some-Pool.field-0 (Pool c.in-Ok-Some-Pool.slots) (cc) c.in-Ok-Some-Pool.ensures.form)))

pub returns-in-Ok-Some-Pool-clause-nothing_written_without_form : goal.returns-in-Ok-Some-Pool-clause-nothing_written_without_form
returns-in-Ok-Some-Pool-clause-nothing_written_without_form g c = λ none. absurd (none (inl (
  Some c.in-Ok-Some-Pool.slots,
  (pool_found c.args.words.now c.in-Ok-Some-Pool.slots
      (found_form c.args.words.now c.in-Ok-Some-Pool.field-0 (Pool c.in-Ok-Some-Pool.slots) (cc) c.in-Ok-Some-Pool.ensures.form)),
)))

pub returns-in-Ok-Some-Check-clause-check_legal : goal.returns-in-Ok-Some-Check-clause-check_legal
returns-in-Ok-Some-Check-clause-check_legal g c = λ slots is done.
    let told = c.serve_check.ensures.legal done in (
      check_named c.args.words.now c.in-Ok-Some-Check.slots slots _ _ _
          (check_found c.args.words.now c.in-Ok-Some-Check.slots (found_form c.args.words.now c.in-Ok-Some-Check.field-0 (Check c.in-Ok-Some-Check.slots) (cc) c.in-Ok-Some-Check.ensures.form)) is told.0,
      told.1,
    )

pub returns-in-Ok-Some-Check-clause-check_wrong : goal.returns-in-Ok-Some-Check-clause-check_wrong
returns-in-Ok-Some-Check-clause-check_wrong g c = λ slots line is wrong.
    let told = c.serve_check.ensures.wrong line wrong in (
      check_named c.args.words.now c.in-Ok-Some-Check.slots slots _ _ _
          (check_found c.args.words.now c.in-Ok-Some-Check.slots (found_form c.args.words.now c.in-Ok-Some-Check.field-0 (Check c.in-Ok-Some-Check.slots) (cc) c.in-Ok-Some-Check.ensures.form)) is told.0,
      told.1,
    )

pub returns-in-Ok-Some-Check-clause-check_write_fault : goal.returns-in-Ok-Some-Check-clause-check_write_fault
returns-in-Ok-Some-Check-clause-check_write_fault g c = λ slots is fault.
    let told = c.serve_check.ensures.write_fault fault in
    let verdict =
    check_named c.args.words.now c.in-Ok-Some-Check.slots slots _ _ _
    (check_found c.args.words.now c.in-Ok-Some-Check.slots (found_form c.args.words.now c.in-Ok-Some-Check.field-0 (Check c.in-Ok-Some-Check.slots) (cc) c.in-Ok-Some-Check.ensures.form)) is told.1.0 in
    (told.0, (verdict, told.1.1))

pub returns-in-Ok-Some-Sample-clause-sample : goal.returns-in-Ok-Some-Sample-clause-sample
returns-in-Ok-Some-Sample-clause-sample g c = λ n is done.
    subst (λ (k : ℕ). IsTaken (g.K.Sink.taken c.args.sink.now) (g.K.Sink.taken c.serve_sample.new.sink) (summary_text (sample_summary k)))
    (one_number c.args.words.now c.in-Ok-Some-Sample.n n
    (found_form c.args.words.now c.in-Ok-Some-Sample.field-0 (Sample c.in-Ok-Some-Sample.n) (cc) c.in-Ok-Some-Sample.ensures.form) is) (c.serve_sample.ensures.done done)

pub returns-in-Ok-Some-Sample-clause-sample_runner : goal.returns-in-Ok-Some-Sample-clause-sample_runner
returns-in-Ok-Some-Sample-clause-sample_runner g c = λ n is done.
    subst (λ (k : ℕ). HoldsOfSample k (IsRunOf (g.R.Runner.runs c.args.runner.now) (g.R.Runner.runs c.serve_sample.new.runner) (g.R.Runner.replied c.serve_sample.new.runner)))
    (one_number c.args.words.now c.in-Ok-Some-Sample.n n
    (found_form c.args.words.now c.in-Ok-Some-Sample.field-0 (Sample c.in-Ok-Some-Sample.n) (cc) c.in-Ok-Some-Sample.ensures.form) is) (c.serve_sample.ensures.runner done)

pub returns-in-Ok-Some-Sample-clause-sample_write_fault : goal.returns-in-Ok-Some-Sample-clause-sample_write_fault
returns-in-Ok-Some-Sample-clause-sample_write_fault g c = λ n is fault.
    subst (λ (k : ℕ). TakesStart (g.K.Sink.taken c.args.sink.now) (g.K.Sink.taken c.serve_sample.new.sink) (summary_text (sample_summary k)))
    (one_number c.args.words.now c.in-Ok-Some-Sample.n n
    (found_form c.args.words.now c.in-Ok-Some-Sample.field-0 (Sample c.in-Ok-Some-Sample.n) (cc) c.in-Ok-Some-Sample.ensures.form) is) (c.serve_sample.ensures.write_fault fault)

pub returns-in-Ok-None-clause-sample_ends : goal.returns-in-Ok-None-clause-sample_ends
returns-in-Ok-None-clause-sample_ends g c = λ n is. absurd (found_none c.args.words.now c.in-Ok-None.field-0 (Sample n) (cc) c.in-Ok-None.ensures.form is)

pub returns-in-Ok-None-clause-bad_words : goal.returns-in-Ok-None-clause-bad_words
returns-in-Ok-None-clause-bad_words g c = λ bad. no_form c.args.words.now (λ form. found_none c.args.words.now c.in-Ok-None.field-0 form (cc) c.in-Ok-None.ensures.form)
