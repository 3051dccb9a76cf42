use Rattle.std.proofs.Common.{◌≡◌, take}
use Rattle.std.specs.List.{count_by}
use Rattle.bucket_terms.specs.LegalRun.{is_update}
use Rattle.request_lines.specs.declared.session.Asked.{Asked}
use Rattle.request_lines.proofs.session.ClientPart.writes.Given as goal

abbrev pub invariant-loop-asked : goal.invariant-loop-asked
invariant-loop-asked l = l.writes ≡ count_by (λ (a : Asked). is_update a.request) (take l.asked-index l.asked-items)
