use Rattle.std.proofs.Common.{◌≡◌, ◌++◌, codes, decimal, string_bytes}
use Rattle.std.proofs.lemmas.Result.{on_ok_weaker}
use Rattle.key_names.specs.Names.{name_at}
use Rattle.answer_text.specs.Pieces as spec
use Rattle.answer_text.proofs.Joined.{joined}
use Rattle.answer_text.proofs.journal.push_update.Goals as goal

pub returns : goal.returns
unfolding spec.journal_text spec.change_text
returns c =
    let u = c.args.update.now in
    let change = spec.change_text (name_at c.args.dir.now u.key) u.line u.change in
    let client : string_bytes c.push_number-2.new.out ≡ string_bytes c.push_number.new.out ++ (codes ",\"Client\":" ++ decimal u.client) =
    rw c.from.ensures at c.in_ok-push_number-2.ensures in
    on_ok_weaker c.push_change.result
    (λ end.
    let rest : string_bytes c.push_change.new.out ≡ string_bytes c.push_number-2.new.out ++ change = rw (c.as_str.ensures, c.name.ensures) at end in
    joined (string_bytes c.args.out.now) (string_bytes c.push_number.new.out) (string_bytes c.push_change.new.out) (codes "{\"At\":" ++ decimal c.args.place) ((codes ",\"Client\":" ++ decimal u.client) ++ change) c.in_ok-push_number.ensures
    (joined (string_bytes c.push_number.new.out) (string_bytes c.push_number-2.new.out) (string_bytes c.push_change.new.out) (codes ",\"Client\":" ++ decimal u.client) change client rest))
    c.push_change.ensures
