use Rattle.std.proofs.Common.{◌∙◌, sym, subst, Option}
use Rattle.std.specs.Prelude.{IfSome}
use Rattle.core_trees.specs.declared.link.Link.{Link}
use Rattle.core_updates.specs.PlanEvents.{HoldsNumbered}
use Rattle.plan_laws.specs.Looks.{HasLookedAll}
use Rattle.update_try.proofs.FoundHeads.{front_unmarked, heads_more, looked_on, next_unmarked, search_more}
use Rattle.update_try.proofs.heads.find_fronts.Goals as goal

pub find_head-at-requires-clause-unmarked : goal.find_head-at-requires-clause-unmarked
find_head-at-requires-clause-unmarked c =
    let p = c.args.pass.now in
    front_unmarked p.view p.number c.args.plan.now c.requires.looked c.at.result c.at.ensures

pub find_head-next-requires-clause-unmarked : goal.find_head-next-requires-clause-unmarked
find_head-next-requires-clause-unmarked c =
    let p = c.args.pass.now in
    let keeps = c.find_head-at.ensures.keeps in
    keeps.looks.unmarked c.in-Some.link.node (next_unmarked p.view p.number c.args.plan.now c.requires.looked c.in-Some.link (sym c.next_at.ensures ∙ c.in-Some.is))

pub returns-in-Some-clause-heads : goal.returns-in-Some-clause-heads
returns-in-Some-clause-heads c =
    let p = c.args.pass.now in
    let v = c.find_head-at.new.pass.view in
    let q = c.find_head-next.new.pass in
    let plan = c.args.plan.now in
    let keeps = search_more p.view v q.view c.find_head-at.ensures.keeps c.find_head-next.ensures.keeps in
    record {
      looked = subst (λ n. HasLookedAll q.view n plan) (sym (c.find_head-next.ensures.same.number ∙ c.find_head-at.ensures.same.number)) (looked_on p.view q.view p.number plan keeps c.requires.looked);
      at = subst (λ (at : Link). HoldsNumbered q.view at c.find_head-at.result) c.at.ensures (c.find_head-next.ensures.heads.numbered c.at.result c.find_head-at.result c.find_head-at.ensures.head);
      next = subst (λ (o : Option Link). IfSome o (λ at. HoldsNumbered q.view at c.find_head-next.result)) (sym (sym c.next_at.ensures ∙ c.in-Some.is)) c.find_head-next.ensures.head;
    }

pub returns-in-Some-clause-nexts : goal.returns-in-Some-clause-nexts
returns-in-Some-clause-nexts c place item is = c.find_head-next.ensures.nexts place item (c.find_head-at.ensures.nexts place item is)

pub returns-in-Some-clause-known : goal.returns-in-Some-clause-known
returns-in-Some-clause-known c = heads_more c.args.pass.now.view c.find_head-at.new.pass.view c.find_head-next.new.pass.view c.find_head-at.ensures.heads c.find_head-next.ensures.heads

pub returns-in-None-clause-heads : goal.returns-in-None-clause-heads
returns-in-None-clause-heads c =
    let p = c.args.pass.now in
    let q = c.find_head-at.new.pass in
    let plan = c.args.plan.now in
    record {
      looked = subst (λ n. HasLookedAll q.view n plan) (sym c.find_head-at.ensures.same.number) (looked_on p.view q.view p.number plan c.find_head-at.ensures.keeps c.requires.looked);
      at = subst (λ (at : Link). HoldsNumbered q.view at c.find_head-at.result) c.at.ensures c.find_head-at.ensures.head;
      next = subst (λ (o : Option Link). IfSome o (λ at. HoldsNumbered q.view at 0)) (sym (sym c.next_at.ensures ∙ c.in-None.is)) tt;
    }
