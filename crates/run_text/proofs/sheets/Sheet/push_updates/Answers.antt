use Rattle.std.proofs.Common.{◌∙◌, refl, arith}
use Rattle.key_map.specs.declared.update.Change.TheVariants.{Put}
use Rattle.run_text.proofs.Made.{update_pushed}
use Rattle.run_text.proofs.sheets.Sheet.push_updates.Goals as goal

pub loop-update-preserved : goal.loop-update-preserved
loop-update-preserved c = record {
  place = omega (arith, c.loop-update.invariant.place);
  pushed = update_pushed c.args.dir.now _ c.args.updates.now c.loop-update.update-index _ (record { client = 0; line = 0; key = 0; change = Put 0 }) _ _ _ _
      c.loop-update-test.true refl (omega (arith, c.loop-update.invariant.place)) (c.in_ok-look_ahead.ensures ∙ c.loop-update.invariant.pushed) c.in_ok-push_journal_line.ensures.text;
}
