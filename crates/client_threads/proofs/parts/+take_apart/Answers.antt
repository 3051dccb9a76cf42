use Rattle.std.proofs.Common.{◌≡◌, [], ◌∷◌, ◌++◌, sym, ap, ◌∙◌, Ok}
use Rattle.client_threads.proofs.Threads.{one_part_more}
use Rattle.client_threads.proofs.parts.+take_apart.Goals as goal

pub returns : goal.returns
returns t g c =
    let whole : c.args.results.items ≡ c.pop.new.self.items ++ c.in-Some.last ∷ [] = c.in-Some.ensures.items in
    rw (whole, c.in_ok-push.ensures.items, c.in_ok-push-2.ensures.items, c.in_ok-push-3.ensures.items)
    (one_part_more c.pop.new.self.items c.in_ok-keys.keys.items c.in_ok-keys.seats.items c.in_ok-keys.replies.items c.in-Some.last c.key.inside.key c.key.inside.seat c.key.inside.replies c.in_ok-keys.ensures
    (c.in_ok-key.was ∙ sym (ap Ok c.key.view_is)))
