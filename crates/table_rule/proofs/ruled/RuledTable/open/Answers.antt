use Rattle.std.proofs.Common.{◌≡◌, ap, ◌∙◌, sym, subst}
use Rattle.table_rule.specs.Homes.{IsLiveView}
use Rattle.table_rule.proofs.SeatMoves.{opened_rule, opened_live}
use Rattle.table_rule.proofs.ruled.RuledTable.open.Goals as goal

pub of_words-requires : goal.of_words-requires
of_words-requires c =
    opened_rule c.args.layout.now c.as_slice.result.now c.requires.few (c.as_slice.ensures.value ∙ c.in_ok-words.ensures ∙ ap (λ n. Rattle.std.proofs.Common.replicate n 0) c.word_count.ensures)

pub invariant_of-result-2 : goal.invariant_of-result-2
invariant_of-result-2 c =
    let is = c.in_ok-table.ensures.4 in
    (ap (λ m. m.1) is, subst IsLiveView (sym (ap (λ m. m.0) is)) (opened_live c.args.layout.now c.requires.few))
