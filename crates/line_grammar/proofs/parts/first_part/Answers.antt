use Rattle.std.proofs.Common.{Some, None, ◌==◌}
use Rattle.std.proofs.lemmas.Str.{IsCharBoundary-after_ascii}
use Rattle.line_grammar.proofs.FirstByte.{first_position, byte_at}
use Rattle.line_grammar.proofs.TextLaws.{place_found, cut_at_first, not_cut}
use Rattle.line_grammar.proofs.parts.first_part.Goals as goal

pub split_at-requires-in-Some : goal.split_at-requires-in-Some
split_at-requires-in-Some c =
    let first = rw (c.as_bytes.ensures.value, c.in-Some.is) at c.memchr.ensures in
    IsCharBoundary-after_ascii c.args.text.now c.in-Some.place c.utf8.text first.0.high (byte_at c.args.at c.args.text.now c.in-Some.place c.requires first)

pub returns-in-Some-clause-cut : goal.returns-in-Some-clause-cut
returns-in-Some-clause-cut c =
    let first = rw (c.as_bytes.ensures.value, c.in-Some.is) at c.memchr.ensures in
    let found = place_found _ c.args.text.now (Some c.in-Some.place) (first_position (λ b. b == c.args.at) c.args.text.now (Some c.in-Some.place) first) in
    cut_at_first (λ b. b == c.args.at) c.args.text.now _ _ (rw found.0 found.1) (rw found.0 c.split_at.ensures.front) (rw found.0 c.split_at-in-Some.ensures.back)

pub returns-in-None-clause-cut : goal.returns-in-None-clause-cut
returns-in-None-clause-cut c =
    let first = rw (c.as_bytes.ensures.value, c.in-None.is) at c.memchr.ensures in
    not_cut (λ b. b == c.args.at) c.args.text.now (place_found _ c.args.text.now None (first_position (λ b. b == c.args.at) c.args.text.now None first))
