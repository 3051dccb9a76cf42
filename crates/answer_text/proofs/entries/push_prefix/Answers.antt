use Rattle.std.proofs.Common.{◌++◌, codes, string_bytes}
use Rattle.std.proofs.lemmas.Result.{on_ok_weaker}
use Rattle.json.specs.Print.{quoted}
use Rattle.answer_text.specs.Pieces as spec
use Rattle.answer_text.proofs.Joined.{joined}
use Rattle.answer_text.proofs.entries.push_prefix.Goals as goal

pub returns : goal.returns
unfolding spec.prefix_text
returns c = on_ok_weaker c.push.result (λ end. joined (string_bytes c.args.out.now) (string_bytes c.push_text.new.out) (string_bytes c.push.new.out) ((codes "{\"Prefix\":" ++ quoted c.args.prefix.now)) (codes "}") c.in_ok-push_text.ensures end) c.push.ensures
