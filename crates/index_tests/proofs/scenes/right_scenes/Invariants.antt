use Rattle.std.proofs.Common.{◌≡◌, None}
use Rattle.index_tests.proofs.scenes.right_scenes.Given as goal

-- between two scenes neither pass has a snapshot open
abbrev pub invariant-scenes : goal.invariant-scenes
invariant-scenes g l =
    let view = g.P.KeyPass.view in
    let home = g.P.Homed.home in
    ((view l.zero).opened ≡ None) × ((view l.zero).number ≡ (view l.initial.zero).number) × (home l.zero ≡ home l.initial.zero)
    × ((view l.one).opened ≡ None) × ((view l.one).number ≡ (view l.initial.one).number) × (home l.one ≡ home l.initial.one)
