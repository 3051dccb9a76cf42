use Rattle.std.proofs.Common.{◌∙◌, map, ap}
use Rattle.clap.specs.Words.{App, is_simple, subcommand_of, takes}
use Rattle.command_words.proofs.ClapReads.{program_simple}
use Rattle.command_words.proofs.reading.matches_of.Goals as goal

pub returns-in-Ok : goal.returns-in-Ok
returns-in-Ok c =
    (c.in-Ok.ensures.matches (ap is_simple c.in_ok-program.ensures ∙ program_simple)).1
    ∙ ap (λ (a : App). subcommand_of a (map (λ s. s.now) c.args.words.now)) c.in_ok-program.ensures

pub returns-else-eq : goal.returns-else-eq
returns-else-eq c = λ taken.
    let kind = c.in-Err.ensures.passes (ap (λ (a : App). takes a (map (λ s. s.now) c.args.words.now)) c.in_ok-program.ensures ∙ taken) in
    let is = c.kind.ensures ∙ kind in
    let same = rw is at c.eq.ensures in
    absurd cc
