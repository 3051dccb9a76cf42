use Rattle.std.proofs.Common.{◌≡◌, ◌++◌, [], sym, ◌∙◌}
use Rattle.std.proofs.lemmas.List.{append-nil}
use Rattle.request_lines.specs.InputParts.{texts_of}
use Rattle.request_lines.specs.Said.{texts_in}
use Rattle.request_lines.proofs.BlockLaws.{blocks_more}
use Rattle.request_lines.proofs.blocks.blocks_of.Goals as goal

pub loop-left-preserved : goal.loop-left-preserved
loop-left-preserved c =
    rw c.in_ok-push.ensures.items
    (blocks_more c.args.lines.now c.loop-left.blocks.items c.loop-left.left c.first_block.result.1 c.in-Some.lines c.first_block.result.0 c.in-Some.is c.first_block.ensures.cut c.loop-left.invariant)

pub returns : goal.returns
returns c =
    let all : texts_of c.args.lines.now ≡ texts_in c.loop-left.blocks.items ++ [] = rw c.in_default.is at c.loop-left.invariant in
    sym (all ∙ append-nil (texts_in c.loop-left.blocks.items))
