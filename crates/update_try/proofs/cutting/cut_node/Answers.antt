use Rattle.std.proofs.Common.{ap}
use Rattle.core_trees.specs.declared.link.Link.{Link}
use Rattle.index_words.specs.declared.side.Side.TheVariants.{Left, Right}
use Rattle.core_updates.specs.Plans.{link_of}
use Rattle.update_try.proofs.OnlyCuts.{changed_at}
use Rattle.update_try.proofs.PruneWalks.{update_more}
use Rattle.update_try.proofs.KeptWalks.{pruned_lower}
use Rattle.update_try.proofs.ShortBundles.{sides_apart}
use Rattle.update_try.proofs.cutting.cut_node.Goals as goal

pub prune_link-least-requires : goal.prune_link-least-requires
prune_link-least-requires c =
    let p = c.args.pass.now in
    let cut = c.requires.cutting in
    record { changed = changed_at p.view p.number cut.0 (link_of c.args.node Left) cut.1 c.requires.unmarked; least = c.requires.least }

pub prune_link-requires-clause-changed : goal.prune_link-requires-clause-changed
prune_link-requires-clause-changed c =
    let p = c.args.pass.now in
    let cut = c.requires.cutting in
    let first = c.prune_link-least.ensures.update.cutting p.number cut.0 cut.1 in
    changed_at c.prune_link-least.new.pass.view p.number cut.0 (link_of c.args.node Right) first.cutting (first.unmarked c.args.node c.requires.unmarked)

pub returns-clause-update : goal.returns-clause-update
returns-clause-update c =
    update_more c.args.pass.now.view c.prune_link-least.new.pass.view c.prune_link.new.pass.view c.prune_link-least.ensures.update c.prune_link.ensures.update

pub returns-clause-pruned : goal.returns-clause-pruned
returns-clause-pruned c =
    let node = c.args.node in
    let w = c.prune_link.new.pass.view in
    let first = c.prune_link-least.ensures in
    let second = c.prune_link.ensures in
    let least = c.prune_link-least.result.number in
    let low = c.prune_link.result.number in (
      pruned_lower w (link_of node Left) least low c.args.longest second.lower (second.others (link_of node Left) least c.args.longest (sides_apart node) first.pruned),
      second.pruned,
    )

pub returns-clause-others : goal.returns-clause-others
returns-clause-others c l least limit apart pruned =
    c.prune_link.ensures.others l least limit (λ same. apart (ap (λ (x : Link). x.node) same))
    (c.prune_link-least.ensures.others l least limit (λ same. apart (ap (λ (x : Link). x.node) same)) pruned)
