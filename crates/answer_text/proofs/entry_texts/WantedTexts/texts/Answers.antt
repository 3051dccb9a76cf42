use Rattle.std.proofs.Common.{arith}
use Rattle.answer_text.proofs.entry_texts.WantedTexts.texts.Goals as goal

pub returns-clause-count : goal.returns-clause-count
returns-clause-count c = omega (arith, c.loop-place.invariant.1, c.loop-place.invariant.2, c.loop-place.auto.place, c.loop-place.auto.place-end, c.loop-place-test.false)
