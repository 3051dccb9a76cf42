use Rattle.std.proofs.Common.{ℕ, ◌∙◌, inr, sym, subst, Option}
use Rattle.std.specs.Prelude.{IfSome}
use Rattle.core_trees.specs.declared.link.Link.{Link}
use Rattle.core_updates.specs.Plans.{link_at}
use Rattle.plan_laws.specs.Prunes.{HasNumbered}
use Rattle.plan_laws.proofs.Prunes.{keeps_pruned}
use Rattle.update_try.specs.Pruning.{IsChanged, IsPruned, walk_limit}
use Rattle.update_try.proofs.Pruned.{first_changed, next_changed}
use Rattle.update_try.proofs.KeptWalks.{pruned_lower}
use Rattle.update_try.proofs.ShortBundles.{fronts_apart, limit_is}
use Rattle.update_try.proofs.pruning.prune_all.Goals as goal

pub prune_link-least-requires : goal.prune_link-least-requires
prune_link-least-requires c =
    let p = c.args.pass.now in
    record {
      changed = subst (IsChanged p.view) (sym c.at.ensures) (first_changed p.view p.number c.args.plan.now c.args.slots.now c.requires.numbered);
      least = record { reads = c.requires.numbered.reads; least = c.requires.least; looked = λ told. cc };
    }

pub prune_link-requires-clause-changed : goal.prune_link-requires-clause-changed
prune_link-requires-clause-changed c =
    let p = c.args.pass.now in
    let first = c.prune_link-least.ensures.update.numbered p.number c.args.plan.now c.args.slots.now c.requires.numbered in
    next_changed c.prune_link-least.new.pass.view p.number c.args.plan.now c.args.slots.now c.in-Some.next first.numbered (sym c.next_at.ensures ∙ c.in-Some.is)

pub returns-in-Some-clause-numbered : goal.returns-in-Some-clause-numbered
returns-in-Some-clause-numbered c =
    let p = c.args.pass.now in
    let first = c.prune_link-least.ensures.update.numbered p.number c.args.plan.now c.args.slots.now c.requires.numbered in
    let second = c.prune_link.ensures.update.numbered p.number c.args.plan.now c.args.slots.now first.numbered in
    subst (λ k. HasNumbered c.prune_link.new.pass.view k c.args.plan.now c.args.slots.now) (sym (c.prune_link.ensures.same.number ∙ c.prune_link-least.ensures.same.number)) second.numbered

pub returns-in-Some-clause-keeps : goal.returns-in-Some-clause-keeps
returns-in-Some-clause-keeps c =
    let p = c.args.pass.now in
    let first = c.prune_link-least.ensures.update.numbered p.number c.args.plan.now c.args.slots.now c.requires.numbered in
    let second = c.prune_link.ensures.update.numbered p.number c.args.plan.now c.args.slots.now first.numbered in
    keeps_pruned p.view c.prune_link-least.new.pass.view c.prune_link.new.pass.view first.keeps second.keeps

pub returns-in_default-clause-numbered : goal.returns-in_default-clause-numbered
returns-in_default-clause-numbered c =
    let p = c.args.pass.now in
    let first = c.prune_link-least.ensures.update.numbered p.number c.args.plan.now c.args.slots.now c.requires.numbered in
    subst (λ k. HasNumbered c.prune_link-least.new.pass.view k c.args.plan.now c.args.slots.now) (sym c.prune_link-least.ensures.same.number) first.numbered

pub returns-in_default-clause-keeps : goal.returns-in_default-clause-keeps
returns-in_default-clause-keeps c =
    let p = c.args.pass.now in
    (c.prune_link-least.ensures.update.numbered p.number c.args.plan.now c.args.slots.now c.requires.numbered).keeps

pub returns-in-Some-clause-pruned : goal.returns-in-Some-clause-pruned
returns-in-Some-clause-pruned c =
    let p = c.args.pass.now in
    let plan = c.args.plan.now in
    let slots = c.args.slots.now in
    let next = c.in-Some.next in
    let v = c.prune_link-least.new.pass.view in
    let w = c.prune_link.new.pass.view in
    let limit = walk_limit w in
    let first = c.prune_link-least.ensures in
    let second = c.prune_link.ensures in
    let stays = first.update.numbered p.number plan slots c.requires.numbered in
    let later = second.update.numbered p.number plan slots stays.numbered in
    let longest = c.longest_walk-longest.ensures ∙ limit_is p.view w (keeps_pruned p.view v w stays.keeps later.keeps) in
    let least = c.prune_link-least.result.number in
    let low = c.prune_link.result.number in
    let is = sym c.next_at.ensures ∙ c.in-Some.is in
    let there : IsPruned v (link_at plan) least limit
    = subst (λ (l : Link). IsPruned v l least limit) c.at.ensures (subst (λ (n : ℕ). IsPruned v c.at.result least n) longest first.pruned) in
    inr (record {
      least = low;
      is = second.least.least;
      first = pruned_lower w (link_at plan) least low limit second.lower
          (second.others (link_at plan) least limit (fronts_apart plan next c.requires.numbered.once is) there);
      next = subst (λ (o : Option Link). IfSome o (λ l. IsPruned w l low limit)) (sym is) (subst (λ (n : ℕ). IsPruned w next low n) longest second.pruned);
    })

pub returns-in_default-clause-pruned : goal.returns-in_default-clause-pruned
returns-in_default-clause-pruned c =
    let p = c.args.pass.now in
    let plan = c.args.plan.now in
    let v = c.prune_link-least.new.pass.view in
    let limit = walk_limit v in
    let first = c.prune_link-least.ensures in
    let stays = first.update.numbered p.number plan c.args.slots.now c.requires.numbered in
    let longest = c.longest_walk-longest.ensures ∙ limit_is p.view v stays.keeps in
    let least = c.prune_link-least.result.number in
    inr (record {
      least = least;
      is = first.least.least;
      first = subst (λ (l : Link). IsPruned v l least limit) c.at.ensures (subst (λ (n : ℕ). IsPruned v c.at.result least n) longest first.pruned);
      next = subst (λ (o : Option Link). IfSome o (λ l. IsPruned v l least limit)) (sym (sym c.next_at.ensures ∙ c.in_default.is)) tt;
    })
