use Rattle.std.proofs.Common.{◌≡◌, [], ◌∷◌, ◌++◌, ◌∙◌, ap, sym, subst, Option}
use Rattle.index_words.specs.declared.view.View.{View}
use Rattle.core_updates.specs.declared.plan.Front.{Front}
use Rattle.core_updates.specs.declared.plan.NewNode.{NewNode}
use Rattle.core_updates.specs.Plans.{front_of, new_node_of, next_front_of}
use Rattle.plan_laws.specs.Fills.{HasFilledAll, filled_all, fills_of, front_fills, new_fills_of, next_fills}
use Rattle.plan_laws.specs.Frames.{KeepsTry}
use Rattle.plan_laws.proofs.Tries.{fill}
use Rattle.update_try.proofs.FilledWords.{all-counts, all-held, all-keeps, filled-three}
use Rattle.update_try.proofs.fills.fill_all.Goals as goal

pub returns-clause-filled : goal.returns-clause-filled
returns-clause-filled c =
    let p = c.args.pass.now in
    let q = c.fill_front-2.new.pass in
    let plan = c.args.plan.now in
    let slots = c.args.slots.now in
    let heads = c.args.heads in
    let first : c.fill_new.new.pass.view ≡ filled_all p.view (new_fills_of (new_node_of plan slots)) = c.fill_new.ensures.filled ∙ ap (λ (o : Option NewNode). filled_all p.view (new_fills_of o)) c.new_node.ensures in
    let second : c.fill_front.new.pass.view ≡ filled_all c.fill_new.new.pass.view (front_fills heads.at (front_of plan slots))
    = c.fill_front.ensures.filled ∙ ap (λ (f : Front). filled_all c.fill_new.new.pass.view (front_fills heads.at f)) c.front.ensures in
    let third : q.view ≡ filled_all c.fill_front.new.pass.view (next_fills heads.next (next_front_of plan slots))
    = c.fill_front-2.ensures.filled ∙ ap (λ (o : Option Front). filled_all c.fill_front.new.pass.view (next_fills heads.next o)) c.next_front.ensures in
    let all : q.view ≡ filled_all p.view (fills_of plan slots heads)
    = third ∙ ap (λ (u : View). filled_all u (next_fills heads.next (next_front_of plan slots))) (second ∙ ap (λ (u : View). filled_all u (front_fills heads.at (front_of plan slots))) first)
    ∙ filled-three p.view (new_fills_of (new_node_of plan slots)) (front_fills heads.at (front_of plan slots)) (next_fills heads.next (next_front_of plan slots)) in
    subst (λ k. HasFilledAll q.view k plan slots heads) (sym (c.fill_front-2.ensures.same.number ∙ c.fill_front.ensures.same.number ∙ c.fill_new.ensures.same.number))
    (subst (λ (u : View). HasFilledAll u p.number plan slots heads) (sym all) (fill p.view p.number plan slots heads c.requires.heads c.requires.free c.requires.apart).filled)

pub returns-clause-keeps : goal.returns-clause-keeps
returns-clause-keeps c =
    let p = c.args.pass.now in
    let q = c.fill_front-2.new.pass in
    let heads = c.args.heads in
    let xs = new_fills_of c.new_node.result in
    let ys = front_fills heads.at c.front.result in
    let zs = next_fills heads.next c.next_front.result in
    let all : q.view ≡ filled_all p.view (xs ++ (ys ++ zs))
    = c.fill_front-2.ensures.filled ∙ ap (λ (u : View). filled_all u zs) (c.fill_front.ensures.filled ∙ ap (λ (u : View). filled_all u ys) c.fill_new.ensures.filled)
    ∙ filled-three p.view xs ys zs in
    subst (λ (u : View). KeepsTry p.view u) (sym all) (all-keeps p.view (xs ++ (ys ++ zs)) c.requires.heads.looked.trying.working.inside)

pub returns-clause-held : goal.returns-clause-held
returns-clause-held c =
    let p = c.args.pass.now in
    let q = c.fill_front-2.new.pass in
    let heads = c.args.heads in
    let xs = new_fills_of c.new_node.result in
    let ys = front_fills heads.at c.front.result in
    let zs = next_fills heads.next c.next_front.result in
    let all : q.view ≡ filled_all p.view (xs ++ (ys ++ zs))
    = c.fill_front-2.ensures.filled ∙ ap (λ (u : View). filled_all u zs) (c.fill_front.ensures.filled ∙ ap (λ (u : View). filled_all u ys) c.fill_new.ensures.filled)
    ∙ filled-three p.view xs ys zs in
    ap (λ (u : View). u.held) all ∙ all-held p.view (xs ++ (ys ++ zs))

pub returns-clause-counts : goal.returns-clause-counts
returns-clause-counts c =
    let p = c.args.pass.now in
    let q = c.fill_front-2.new.pass in
    let heads = c.args.heads in
    let xs = new_fills_of c.new_node.result in
    let ys = front_fills heads.at c.front.result in
    let zs = next_fills heads.next c.next_front.result in
    let all : q.view ≡ filled_all p.view (xs ++ (ys ++ zs))
    = c.fill_front-2.ensures.filled ∙ ap (λ (u : View). filled_all u zs) (c.fill_front.ensures.filled ∙ ap (λ (u : View). filled_all u ys) c.fill_new.ensures.filled)
    ∙ filled-three p.view xs ys zs in
    ap (λ (u : View). u.counts) all ∙ all-counts p.view (xs ++ (ys ++ zs))
