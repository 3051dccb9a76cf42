use Rattle.std.proofs.Common.{ℕ, List, All, sym, subst, ◌∙◌}
use Rattle.key_names.specs.Names.{HoldsEachOnce, IsFine}
use Rattle.request_lines.proofs.Interned.{kept_few, kept_fine, kept_once}
use Rattle.request_lines.proofs.names.Names.directory.Goals as goal

pub directory_of-requires-clause-fine : goal.directory_of-requires-clause-fine
directory_of-requires-clause-fine c =
    subst (λ (names : List (List ℕ)). All IsFine names) (sym (c.in_ok-names.ensures ∙ c.deref.ensures.value))
    (kept_fine c.self.inside.names.items c.self.inside.order c.self.invariant
    (subst (λ (names : List (List ℕ)). All IsFine names) (sym c.self.view_is) c.requires))

pub directory_of-requires-clause-few : goal.directory_of-requires-clause-few
directory_of-requires-clause-few c held holds =
    kept_few c.self.inside.names.items c.self.inside.order held c.self.invariant
    (subst (λ (names : List (List ℕ)). HoldsEachOnce names held) (c.in_ok-names.ensures ∙ c.deref.ensures.value) holds)

pub returns : goal.returns
returns c =
    subst (λ (names : List (List ℕ)). HoldsEachOnce names c.directory_of.result) c.self.view_is
    (kept_once c.self.inside.names.items c.self.inside.order c.directory_of.result c.self.invariant
    (subst (λ (names : List (List ℕ)). HoldsEachOnce names c.directory_of.result) (c.in_ok-names.ensures ∙ c.deref.ensures.value) c.directory_of.ensures))
