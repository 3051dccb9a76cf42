use Rattle.std.proofs.Common.{ap, ◌∙◌, arith, set}
use Rattle.index_words.specs.declared.view.reading.Link.{Link}
use Rattle.core_events.specs.Searches.{with_tag}
use Rattle.machine_views.proofs.InPlace.{map_step}
use Rattle.machine_views.proofs.searches.tag_each.Goals as goal

pub loop-link-preserved : goal.loop-link-preserved
loop-link-preserved c =
    ap (λ (l : Link). set c.loop-link.links c.loop-link.link-index l) c.tagged.ensures
    ∙ map_step (with_tag c.args.node c.args.side c.args.tag) c.args.links.now c.loop-link.links c.loop-link.link-index _ c.loop-link.invariant (omega (arith, c.loop-link-test.true))
