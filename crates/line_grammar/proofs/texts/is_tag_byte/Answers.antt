use Rattle.line_grammar.proofs.TagBytes.{tag_entry}
use Rattle.line_grammar.proofs.texts.is_tag_byte.Goals as goal

pub returns : goal.returns
returns c = tag_entry c.args.b c.ranges.b.fits
