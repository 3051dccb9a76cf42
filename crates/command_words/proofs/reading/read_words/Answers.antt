use Rattle.std.proofs.Common.{◌≡◌, ◌∙◌, List, ℕ, Bor, map, ap}
use Rattle.clap.specs.Words.{subcommand_of, takes}
use Rattle.command_words.specs.Program.{program}
use Rattle.command_words.proofs.ClapReads.{takes_form, form_read}
use Rattle.command_words.proofs.reading.read_words.Goals as goal

pub returns-in-Some : goal.returns-in-Some
returns-in-Some c = λ form is.
    let texts : map (λ (s : Bor (List ℕ)). s.now) c.as_slice.result.now ≡ c.args.words.now = ap (map (λ (s : Bor (List ℕ)). s.now)) c.as_slice.ensures.value ∙ c.in_ok-texts.ensures in
    let rows = rw c.in-Some.is at c.in_ok-matches.ensures in
    form_read c.args.words.now c.in-Some.matches c.form_in.result form (rows ∙ ap (subcommand_of program) texts)
    (record {
      run = c.form_in.ensures.run;
      slots = c.form_in.ensures.slots;
      pool = c.form_in.ensures.pool;
      check = c.form_in.ensures.check;
      check_slots = c.form_in.ensures.check_slots;
      sample = c.form_in.ensures.sample;
    })
    is

pub returns : goal.returns
returns c = λ form is.
    let texts : map (λ (s : Bor (List ℕ)). s.now) c.as_slice.result.now ≡ c.args.words.now = ap (map (λ (s : Bor (List ℕ)). s.now)) c.as_slice.ensures.value ∙ c.in_ok-texts.ensures in
    let none = rw c.in-None.is at c.in_ok-matches.ensures in
    absurd (none (ap (takes program) texts ∙ takes_form c.args.words.now form is))
