-- Numbers fall along a bundle.
use Rattle.std.proofs.Common.{subst}
use Rattle.index_words.specs.declared.word.Part.TheVariants.{Stamp as Number}
use Rattle.index_words.specs.declared.word.Word.TheVariants.{Entry}
use Rattle.core_events.specs.Tables.{held_by}
use Rattle.core_invariant.specs.Readers.{IsBelow}
use Rattle.core_invariant.proofs.AtEntries.{stands}
use Rattle.core_laws.specs.Falls.{FallsLaw}

pub falls_law : FallsLaw
falls_law t i v node side entry found number right at here some watched left above =
    let stood = stands t.layout (held_by t) t.views right.meaning right.rule i v at node side entry found here some watched in
    let falls = subst (IsBelow (λ d. held_by t (Entry Number d)) entry) left stood.falls above in
    record { written = falls.0; below = falls.1 }
