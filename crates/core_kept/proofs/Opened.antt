-- The table of the opening meets the rule: the seats of the passes are made one after another from the first view,
-- which then stands after them.
use Rattle.std.proofs.Common.{◌≡◌, ℕ, ◌<◌, List, [], ◌∷◌, ◌++◌, arith, ap, ◌∙◌, sym, subst, replicate}
use Rattle.index_words.specs.declared.layout.Layout.{Layout}
use Rattle.key_map.specs.declared.pass.PassSize.{PassSize}
use Rattle.index_words.specs.declared.view.View.{View}
use Rattle.index_words.specs.Sizes.{all_calls, layout_of, FitTable}
use Rattle.index_words.specs.Views.{empty_view}
use Rattle.index_words.specs.Words.{word_count}
use Rattle.core_links.specs.Bundle.{no_number}
use Rattle.core_events.specs.Openings.{pass_views, opening, first_table}
use Rattle.core_invariant.specs.Rule.{InRule, IsRight}
use Rattle.core_kept.proofs.AtOpening.{first_right}
use Rattle.core_kept.proofs.LastView.{turned_right}
use Rattle.core_kept.proofs.MadeSeats.{opening_made}

pub opening_right : (z : Layout) (sizes : List PassSize) → z ≡ layout_of sizes → all_calls sizes < no_number → IsRight (opening z sizes)
opening_right z sizes is few =
    turned_right (empty_view z) (pass_views z 0 1 1 sizes) z (first_table z).words
    (opening_made z sizes is (first_right z (omega (arith, few, ap (λ (y : Layout). y.calls) is))))

-- the same for what the code makes
pub started : (z : Layout) (sizes : List PassSize) (words : List ℕ) (views : List View) (n : ℕ) → FitTable sizes → z ≡ layout_of sizes → n ≡ word_count z
    → words ≡ replicate n 0
    → views ≡ pass_views z 0 1 1 sizes ++ empty_view z ∷ [] → InRule z words views
started z sizes words views n fit is count_is words_are views_are =
    let words_now : words ≡ replicate (word_count z) 0 = words_are ∙ ap (λ k. replicate k 0) count_is in
    subst (λ (xs : List ℕ). InRule z xs views) (sym words_now)
    (subst (λ (xs : List View). InRule z (replicate (word_count z) 0) xs) (sym views_are) (opening_right z sizes is (omega (arith, fit.calls))))
