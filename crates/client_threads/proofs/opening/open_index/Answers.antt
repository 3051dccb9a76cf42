use Rattle.std.proofs.Common.{sym, ◌∙◌, subst}
use Rattle.index_words.specs.Sizes.{FitTable}
use Rattle.request_lines.specs.InputParts.{most_requests}
use Rattle.client_threads.proofs.SizesFit.{part_few, fit}
use Rattle.client_threads.proofs.opening.open_index.Goals as goal

pub sizes_of-requires : goal.sizes_of-requires
sizes_of-requires c = record { few = part_few most_requests c.args.clients.now c.requires.few.requests; slots = c.requires.slots }

pub open_sized-requires : goal.open_sized-requires
open_sized-requires c = record { fit = subst FitTable (sym (c.deref-2.ensures.value ∙ c.in_ok-sizes.ensures)) (fit c.args.slots c.args.clients.now c.requires.slots c.requires.few) }
