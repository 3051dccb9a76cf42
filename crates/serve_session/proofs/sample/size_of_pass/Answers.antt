use Rattle.std.proofs.Common.{◌≡◌, ◌≤◌, ℕ, subst, arith}
use Rattle.serve_session.proofs.SampleSizes.{sample_updates, sizes_are, sizes_fit}
use Rattle.serve_session.proofs.sample.size_of_pass.Goals as goal

-- all requests are counted
counted : (n updates i : ℕ) → updates ≡ sample_updates i → i ≡ n → updates ≡ sample_updates n
counted n updates i so_far end = subst (λ (k : ℕ). updates ≡ sample_updates k) end so_far

pub returns-clause-sizes : goal.returns-clause-sizes
returns-clause-sizes c =
    let end : c.loop-i.i ≡ c.args.n = omega (arith, c.loop-i.auto.i-end, c.loop-i-test.false) in
    sizes_are c.args.n c.loop-i.updates (counted c.args.n c.loop-i.updates c.loop-i.i c.loop-i.invariant.0 end)

pub returns-clause-fit : goal.returns-clause-fit
returns-clause-fit c =
    let end : c.loop-i.i ≡ c.args.n = omega (arith, c.loop-i.auto.i-end, c.loop-i-test.false) in
    let few : c.loop-i.updates ≤ 40000 = omega (arith, c.loop-i.invariant.1, c.loop-i.auto.i-end, c.requires.most) in
    sizes_fit c.args.n c.loop-i.updates (counted c.args.n c.loop-i.updates c.loop-i.i c.loop-i.invariant.0 end) few
