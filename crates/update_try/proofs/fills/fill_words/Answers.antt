use Rattle.std.proofs.Common.{◌≡◌, ◌+◌, ◌∷◌, ◌∙◌, drop, ap, sym, subst, List, slice_index_or}
use Rattle.std.proofs.lemmas.Option.{slice_get-get_or}
use Rattle.index_words.specs.declared.view.View.{View}
use Rattle.index_words.specs.declared.view.reading.Filled.{Filled}
use Rattle.index_words.specs.declared.word.Word.TheVariants.{Stamp}
use Rattle.key_map.specs.Lists.{Every}
use Rattle.core_events.specs.FillMoves.{filled_view}
use Rattle.core_laws.specs.ViewNeeds.{IsInside, MayFill}
use Rattle.plan_laws.specs.Fills.{filled_all}
use Rattle.plan_laws.proofs.Items.{drop-got}
use Rattle.update_try.proofs.FilledWords.{all-may, fill-inside, fill-keeps, fill_there}
use Rattle.update_try.proofs.Steps.{same_more}
use Rattle.update_try.proofs.fills.fill_words.Goals as goal

pub fill_word-requires-clause-there : goal.fill_word-requires-clause-there
fill_word-requires-clause-there c =
    let fs = c.args.fills.now in
    let i = c.words.fill-index in
    let v = c.words.pass.view in
    let f : Filled = slice_index_or fs i (record { word = Stamp; value = 0 }) in
    let here : drop i fs ≡ f ∷ drop (i + 1) fs = drop-got fs i f (slice_get-get_or fs i (record { word = Stamp; value = 0 }) c.words-test.true) in
    let may = subst (λ (xs : List Filled). Every (λ (x : Filled). MayFill v x.word) xs) here c.words.invariant.1 in
    fill_there v c.facts.ensures f.word may.0

pub fill_word-requires-clause-free : goal.fill_word-requires-clause-free
fill_word-requires-clause-free c =
    let fs = c.args.fills.now in
    let i = c.words.fill-index in
    let v = c.words.pass.view in
    let f : Filled = slice_index_or fs i (record { word = Stamp; value = 0 }) in
    let here : drop i fs ≡ f ∷ drop (i + 1) fs = drop-got fs i f (slice_get-get_or fs i (record { word = Stamp; value = 0 }) c.words-test.true) in
    let may = subst (λ (xs : List Filled). Every (λ (x : Filled). MayFill v x.word) xs) here c.words.invariant.1 in
    may.0

pub words-preserved : goal.words-preserved
words-preserved c =
    let fs = c.args.fills.now in
    let i = c.words.fill-index in
    let v = c.words.pass.view in
    let w = c.fill_word.new.self in
    let f : Filled = slice_index_or fs i (record { word = Stamp; value = 0 }) in
    let here : drop i fs ≡ f ∷ drop (i + 1) fs = drop-got fs i f (slice_get-get_or fs i (record { word = Stamp; value = 0 }) c.words-test.true) in
    let may = subst (λ (xs : List Filled). Every (λ (x : Filled). MayFill v x.word) xs) here c.words.invariant.1 in
    let now : w.view ≡ filled_view v f.word f.value = c.fill_word.ensures.view in (
      subst (λ (u : View). IsInside u) (sym now) (fill-inside v f c.words.invariant.0),
      subst (λ (u : View). Every (λ (x : Filled). MayFill u x.word) (drop (i + 1) fs)) (sym now)
          (all-may v (filled_view v f.word f.value) (drop (i + 1) fs) (fill-keeps v f c.words.invariant.0).free may.1),
      ap (λ (u : View). filled_all u (drop (i + 1) fs)) now ∙ ap (filled_all v) (sym here) ∙ c.words.invariant.2,
      same_more c.args.pass.now c.words.pass w c.words.invariant.3 c.fill_word.ensures.same,
    )
