use Rattle.json.proofs.Printed.Plain.{escape_on_plain}
use Rattle.answer_text.proofs.plain.is_plain.Goals as goal

pub returns-then-text-lt32 : goal.returns-then-text-lt32
returns-then-text-lt32 c = escape_on_plain c.is_short_plain.result c.args.text.now c.is_short_plain.ensures

pub returns-else-text-lt32 : goal.returns-else-text-lt32
returns-else-text-lt32 c = escape_on_plain c.is_long_plain.result c.args.text.now c.is_long_plain.ensures
