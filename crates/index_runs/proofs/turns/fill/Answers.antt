use Rattle.std.proofs.Common.{sym}
use Rattle.index_words.specs.declared.word.Part.TheVariants.{Child}
use Rattle.plan_laws.proofs.Items.{got-counts}
use Rattle.index_runs.proofs.Seats.{free_there}
use Rattle.index_runs.proofs.turns.fill.Goals as goal

pub fill_word-requires-clause-there : goal.fill_word-requires-clause-there
fill_word-requires-clause-there c = free_there c.args.pass.now.view c.facts.ensures Child c.in-Some.entry (sym c.in-Some.ensures)

pub fill_word-requires-clause-free : goal.fill_word-requires-clause-free
fill_word-requires-clause-free c = got-counts c.args.pass.now.view.free.entries 0 c.in-Some.entry (sym c.in-Some.ensures)
