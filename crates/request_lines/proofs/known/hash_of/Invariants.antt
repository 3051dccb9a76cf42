use Rattle.std.proofs.Common.{length}
use Rattle.request_lines.proofs.known.hash_of.Given as goal

abbrev pub decreases-words : goal.decreases-words
decreases-words l = length l.rest
