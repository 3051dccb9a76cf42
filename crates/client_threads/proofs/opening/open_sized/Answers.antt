use Rattle.std.proofs.Common.{ap, ◌∙◌, Err}
use Rattle.client_threads.proofs.opening.open_sized.Goals as goal

pub unreachable-requires : goal.unreachable-requires
unreachable-requires c = c.open.ensures.bad_sizes.0 (c.in-Err-BadSizes.is ∙ ap Err c.in-Err-BadSizes.field-0-is) c.requires.fit
