use Rattle.std.proofs.Common.{set, ap, ◌∙◌}
use Rattle.std.proofs.lemmas.Option.{get_or_from_slice_get}
use Rattle.index_words.specs.Words.{memory}
use Rattle.index_words.specs.declared.word.Word.TheVariants.{Stamp}
use Rattle.core_events.specs.LoadMoves.{longest}
use Rattle.core_events.specs.TreeMoves.{tree_move}
use Rattle.core_events.specs.UpdateMoves.{raised_view}
use Rattle.core_events.proofs.Changes.{on_ok}
use Rattle.machine_steps.proofs.stamp_seats.raise_seat.Goals as goal

pub returns-clause-ok : goal.returns-clause-ok
returns-clause-ok c =
    let z = c.args.layout.now in
    let m = memory z c.args.words.now in
    let views = c.args.views.now.items in
    let seat = c.args.seat in
    let update = c.args.update in
    let read = c.index.result.now in
    let shown = c.index_mut-view.result.now in
    let moved = c.in_ok-moved.moved in
    let stamp = c.held-stamp.result in
    on_ok c.raise.result
    (λ raised v found.
    ap (set views seat)
    (raised
    ∙ ap (λ known. raised_view known shown stamp update moved) (c.in_ok-known.ensures ∙ ap longest c.as_slice-2.ensures.value)
    ∙ ap (λ w. raised_view (longest views) w stamp update moved) (c.index_mut-view.ensures.value ∙ get_or_from_slice_get views seat v shown found)
    ∙ ap (λ n. raised_view (longest views) v n update moved) c.held-stamp.ensures
    ∙ ap (raised_view (longest views) v (m Stamp) update)
    (c.in_ok-moved.ensures ∙ ap (λ vs. tree_move z m vs read update) c.as_slice.ensures.value
    ∙ ap (λ w. tree_move z m views w update) (c.index.ensures ∙ get_or_from_slice_get views seat v read found))))
    c.raise.ensures.ok
