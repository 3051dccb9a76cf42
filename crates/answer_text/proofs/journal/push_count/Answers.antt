use Rattle.std.proofs.Common.{◌++◌, codes, decimal, string_bytes}
use Rattle.std.proofs.lemmas.Result.{on_ok_weaker}
use Rattle.answer_text.specs.Pieces as spec
use Rattle.answer_text.proofs.Joined.{joined}
use Rattle.answer_text.proofs.journal.push_count.Goals as goal

pub returns : goal.returns
unfolding spec.last_text
returns c = on_ok_weaker c.push.result (λ end. joined (string_bytes c.args.out.now) (string_bytes c.push_number.new.out) (string_bytes c.push.new.out) ((codes "{\"Updates\":" ++ decimal c.args.updates)) (codes "}\n") c.in_ok-push_number.ensures end) c.push.ensures
