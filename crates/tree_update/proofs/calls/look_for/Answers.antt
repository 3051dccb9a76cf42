use Rattle.std.proofs.Common.{◌∙◌, ap}
use Rattle.index_words.specs.declared.view.View.{View}
use Rattle.tree_update.proofs.CallSteps.{goes_more, stays_more, read_stays, left_stays}
use Rattle.tree_update.proofs.CallsMade.{begun_goes, looked_found}
use Rattle.tree_update.proofs.CallAnswers.{found_here}
use Rattle.tree_update.proofs.calls.look_for.Goals as goal

pub returns-clause-looked : goal.returns-clause-looked
returns-clause-looked g c =
    let v = c.args.pass.now.view in
    let b = c.begin-at.new.pass.view in
    let x = c.next_from-first.new.pass.view in
    let w = c.end.new.pass.view in
    let stays = stays_more b x w (read_stays b x c.next_from-first.ensures.read) (left_stays x w c.end.ensures.view) in
    let goes = goes_more v b w (begun_goes v b c.begin-at.result c.begin-at.ensures.begun) stays.goes in
    let same = ap (λ (u : View). u.history) c.end.ensures.view ∙ ap (λ (u : View). u.history) c.next_from-first.ensures.read.view in
    looked_found v b w c.args.key c.begin-at.result c.is_of_key.result c.next_from-first.result c.begin-at.ensures.begun stays same goes
    (c.next_from-first.ensures.first c.begin-at.result c.begin-at.ensures.reads.opened) c.is_of_key.ensures

pub returns-clause-found : goal.returns-clause-found
returns-clause-found g c =
    let b = c.begin-at.new.pass.view in
    let w = c.end.new.pass.view in
    let same = ap (λ (u : View). u.history) c.end.ensures.view ∙ ap (λ (u : View). u.history) c.next_from-first.ensures.read.view in
    found_here c.args.pass.now c.begin-at.result b w c.begin-at.ensures.opened same
