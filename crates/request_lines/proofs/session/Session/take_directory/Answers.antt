use Rattle.std.proofs.Common.{ℕ, List, All, sym, subst}
use Rattle.key_names.specs.Names.{IsFine}
use Rattle.request_lines.proofs.session.Session.take_directory.Goals as goal

pub into_directory-requires : goal.into_directory-requires
into_directory-requires c = subst (λ (names : List (List ℕ)). All IsFine names) (sym c.take.ensures.taken) c.requires
