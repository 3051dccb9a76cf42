use Rattle.std.proofs.Common.{◌∙◌, ℕ, ap, sym, subst}
use Rattle.core_trees.specs.declared.link.Link.{Link}
use Rattle.std.specs.List.{slice_get}
use Rattle.core_updates.specs.declared.plan.Plan.{Plan}
use Rattle.core_updates.specs.Plans.{link_at, locks_of, out_of}
use Rattle.plan_laws.specs.Releases.{IsReleasing}
use Rattle.plan_laws.proofs.Prunes.{end_cutting, keeps_pruned, start_cutting}
use Rattle.update_try.proofs.FoundHeads.{front_unmarked, out_unmarked}
use Rattle.update_try.proofs.OnlyCuts.{changed_at}
use Rattle.update_try.specs.Pruning.{IsPruned, IsPrunedNode, walk_limit}
use Rattle.update_try.proofs.KeptWalks.{pruned_lower}
use Rattle.update_try.proofs.ShortBundles.{found_apart, limit_is, prunes_other, prunes_replaced}
use Rattle.update_try.proofs.cutting.cut_locked.Goals as goal

pub prune_link-least-requires : goal.prune_link-least-requires
prune_link-least-requires c =
    let p = c.args.pass.now in
    let plan = c.args.plan.now in
    let looked = c.requires.looked in
    let begun = start_cutting p.view p.number (locks_of plan) looked.trying in
    record {
      changed = changed_at p.view p.number (locks_of plan) c.at.result begun (front_unmarked p.view p.number plan looked c.at.result c.at.ensures);
      least = record { reads = begun.reads; least = looked.trying.least ∙ sym looked.trying.section ∙ c.requires.section; looked = λ told. cc };
    }

-- the node that was found is the one that a put would take out
pub cut_node-requires-clause-unmarked : goal.cut_node-requires-clause-unmarked
cut_node-requires-clause-unmarked c =
    let p = c.args.pass.now in
    let plan = c.args.plan.now in
    let looked = c.requires.looked in
    let first = c.prune_link-least.ensures.update.cutting p.number (locks_of plan) (start_cutting p.view p.number (locks_of plan) looked.trying) in
    first.unmarked c.in-Replace.found.node
    (out_unmarked p.view p.number plan looked 0 c.in-Replace.found.node (ap (λ (x : Plan). slice_get (out_of x) 0) c.in-Replace.is))

pub returns-in-Replace-clause-released : goal.returns-in-Replace-clause-released
returns-in-Replace-clause-released c =
    let p = c.args.pass.now in
    let nodes = locks_of c.args.plan.now in
    let first = c.prune_link-least.ensures.update.cutting p.number nodes (start_cutting p.view p.number nodes c.requires.looked.trying) in
    let second = c.cut_node.ensures.update.cutting p.number nodes first.cutting in
    subst (λ (n : ℕ). IsReleasing c.cut_node.new.pass.view n nodes) (sym (c.cut_node.ensures.same.number ∙ c.prune_link-least.ensures.same.number))
    (end_cutting c.cut_node.new.pass.view p.number nodes second.cutting)

pub returns-in-Replace-clause-keeps : goal.returns-in-Replace-clause-keeps
returns-in-Replace-clause-keeps c =
    let p = c.args.pass.now in
    let nodes = locks_of c.args.plan.now in
    let first = c.prune_link-least.ensures.update.cutting p.number nodes (start_cutting p.view p.number nodes c.requires.looked.trying) in
    let second = c.cut_node.ensures.update.cutting p.number nodes first.cutting in
    keeps_pruned p.view c.prune_link-least.new.pass.view c.cut_node.new.pass.view first.keeps second.keeps

pub returns-in_default : goal.returns-in_default
returns-in_default c =
    let p = c.args.pass.now in
    let nodes = locks_of c.args.plan.now in
    let first = c.prune_link-least.ensures.update.cutting p.number nodes (start_cutting p.view p.number nodes c.requires.looked.trying) in
    record {
      same = c.prune_link-least.ensures.same;
      released =
          subst (λ (n : ℕ). IsReleasing c.prune_link-least.new.pass.view n nodes) (sym c.prune_link-least.ensures.same.number)
          (end_cutting c.prune_link-least.new.pass.view p.number nodes first.cutting);
      pruned =
          let plan = c.args.plan.now in
          let w = c.prune_link-least.new.pass.view in
          let limit = walk_limit w in
          let least = c.prune_link-least.result.number in
          let at = c.prune_link-least.ensures in
          record {
            least = least;
            is = at.least.least;
            at = subst (λ (l : Link). IsPruned w l least limit) c.at.ensures (subst (λ (n : ℕ). IsPruned w c.at.result least n) (c.longest_walk-longest.ensures ∙ limit_is p.view w first.keeps) at.pruned);
            found = prunes_other w plan least limit c.in_default.not-Replace;
          };
      keeps = first.keeps;
    }

pub returns-in-Replace-clause-pruned : goal.returns-in-Replace-clause-pruned
returns-in-Replace-clause-pruned c =
    let p = c.args.pass.now in
    let plan = c.args.plan.now in
    let v = c.prune_link-least.new.pass.view in
    let w = c.cut_node.new.pass.view in
    let limit = walk_limit w in
    let first = c.prune_link-least.ensures in
    let second = c.cut_node.ensures in
    let nodes = locks_of plan in
    let stays = first.update.cutting p.number nodes (start_cutting p.view p.number nodes c.requires.looked.trying) in
    let later = second.update.cutting p.number nodes stays.cutting in
    let longest = c.longest_walk-longest.ensures ∙ limit_is p.view w (keeps_pruned p.view v w stays.keeps later.keeps) in
    let least = c.prune_link-least.result.number in
    let low = c.cut_node.result.number in
    let there : IsPruned v (link_at plan) least limit
    = subst (λ (l : Link). IsPruned v l least limit) c.at.ensures (subst (λ (n : ℕ). IsPruned v c.at.result least n) longest first.pruned) in
    record {
      least = low;
      is = second.least.least;
      at = pruned_lower w (link_at plan) least low limit second.lower
          (second.others (link_at plan) least limit (found_apart plan c.in-Replace.found c.in-Replace.is c.requires.looked.trying.once) there);
      found = prunes_replaced w plan c.in-Replace.found low limit c.in-Replace.is (subst (λ (n : ℕ). IsPrunedNode w c.in-Replace.found.node low n) longest second.pruned);
    }
