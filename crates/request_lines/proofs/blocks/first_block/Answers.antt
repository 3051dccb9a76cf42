use Rattle.std.proofs.Common.{ℕ, List, ◌==◌, Some, arith, subst}
use Rattle.std.proofs.Common.{◌≡◌, ◌<◌, length}
use Rattle.std.specs.List.{position_or_len}
use Rattle.request_lines.proofs.BlockLaws.{block_cut}
use Rattle.line_grammar.proofs.TextLaws.{place_found}
use Rattle.request_lines.proofs.blocks.first_block.Goals as goal

pub returns-in-Some-clause-cut : goal.returns-in-Some-clause-cut
returns-in-Some-clause-cut c =
    let found = place_found (λ b. b == 10) c.split_at.result.1.now (Some c.in-Some.end) c.in-Some.ensures in
    let place = subst (λ (back : List ℕ). position_or_len (λ b. b == 10) back ≡ c.in-Some.end) c.split_at.ensures.back found.0 in
    let inside = subst (λ (back : List ℕ). c.in-Some.end < length back) c.split_at.ensures.back found.1 in
    rw (c.split_at-in-Some.ensures.front, c.split_at-in-Some-2.ensures.back, c.split_at.ensures.front_len)
    (block_cut c.args.lines.now c.min.result c.in-Some.end (omega (arith, c.split_at.ensures.front_len, c.split_at.ensures.back_len)) place inside (omega (arith, found.1, c.split_at.ensures.front_len, c.split_at.ensures.back_len)))
