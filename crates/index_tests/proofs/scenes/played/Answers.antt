use Rattle.std.proofs.Common.{◌≡◌, ℕ, [], ◌∷◌, ap, ◌∙◌}
use Rattle.table_steps.specs.Passes.{Pass}
use Rattle.shared_index.specs.Keys.{home_of_pass}
use Rattle.shared_index.proofs.KeyHomes.{all_kept}
use Rattle.index_tests.proofs.scenes.played.Goals as goal

pub returns : goal.returns
returns g c =
    let index = c.args.index.now in
    let zero = c.detach.result in
    let one = c.detach-2.result in
    let number_of_key : Pass → ℕ = λ p. p.number in
    let home_zero : home_of_pass zero ≡ home_of_pass c.args.first =
    ap home_of_pass c.detach.ensures.same ∙ c.right_scenes-count.ensures.zero_home ∙ ap home_of_pass c.attach-zero.ensures.same in
    let number_zero : zero.number ≡ c.args.first.number =
    ap number_of_key c.detach.ensures.same ∙ c.right_scenes-count.ensures.zero_number ∙ ap number_of_key c.attach-zero.ensures.same in
    let home_one : home_of_pass one ≡ home_of_pass c.args.second =
    ap home_of_pass c.detach-2.ensures.same ∙ c.right_scenes-count.ensures.one_home ∙ ap home_of_pass c.attach-one.ensures.same in
    let number_one : one.number ≡ c.args.second.number =
    ap number_of_key c.detach-2.ensures.same ∙ c.right_scenes-count.ensures.one_number ∙ ap number_of_key c.attach-one.ensures.same in
    all_kept index (c.args.first ∷ c.args.second ∷ []) (zero ∷ one ∷ []) c.requires (home_zero ∙ c.requires.of.0, (home_one ∙ c.requires.of.1.0, tt)) (λ i. number_zero i ∷ number_one i ∷ [])
