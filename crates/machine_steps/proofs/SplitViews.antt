-- The views after a split and a join, as the code makes them: the new view of a split is first put after the others.
use Rattle.std.proofs.Common.{◌≡◌, ℕ, ◌<◌, List, [], ◌∷◌, ◌++◌, length, set, get_or, ap, ◌∙◌, sym, Some}
use Rattle.std.specs.List.{slice_get}
use Rattle.std.proofs.lemmas.List.{set-append_left, get_or_append_left}
use Rattle.std.proofs.lemmas.Option.{get_or_from_slice_get}
use Rattle.index_words.specs.declared.view.View.{View}
use Rattle.index_words.specs.Views.{spent_view}
use Rattle.core_events.specs.Moves.{split_left, split_right, joined_with}

pub split_views : (vs ws : List View) (i n : ℕ) (first shown part kept v : View) → i < length vs → slice_get vs i ≡ Some v
    → first ≡ get_or vs i first → part ≡ split_right first n
    → ws ≡ vs ++ part ∷ [] → shown ≡ get_or ws i shown → kept ≡ split_left shown n
    → set ws i kept ≡ set vs i (split_left v n) ++ split_right v n ∷ []
split_views vs ws i n first shown part kept v within found is_first is_part is_ws is_shown is_kept =
    let first_is : first ≡ v = is_first ∙ get_or_from_slice_get vs i v first found in
    let part_is : part ≡ split_right v n = is_part ∙ ap (λ u. split_right u n) first_is in
    let shown_is : shown ≡ v = is_shown ∙ ap (λ us. get_or us i shown) is_ws ∙ get_or_append_left vs (part ∷ []) shown i within ∙ get_or_from_slice_get vs i v shown found in
    let kept_is : kept ≡ split_left v n = is_kept ∙ ap (λ u. split_left u n) shown_is in
    ap (λ us. set us i kept) is_ws ∙ set-append_left vs (part ∷ []) i kept within ∙ ap (λ u. set vs i u ++ part ∷ []) kept_is ∙ ap (λ u. set vs i (split_left v n) ++ u ∷ []) part_is

-- `gain` gives the view that the first one becomes
pub joined_views : (gain : View → View) (vs : List View) (i j : ℕ) (first second shown taken last v u : View) → slice_get vs i ≡ Some v → slice_get vs j ≡ Some u
    → first ≡ get_or vs i first → second ≡ get_or vs j second → gain first ≡ joined_with first second
    → shown ≡ get_or vs i shown → taken ≡ gain shown → last ≡ spent_view
    → set (set vs i taken) j last ≡ set (set vs i (joined_with v u)) j spent_view
joined_views gain vs i j first second shown taken last v u found found_other is_first is_second is_gain is_shown is_taken is_last =
    let first_is : first ≡ v = is_first ∙ get_or_from_slice_get vs i v first found in
    let second_is : second ≡ u = is_second ∙ get_or_from_slice_get vs j u second found_other in
    let shown_is : shown ≡ v = is_shown ∙ get_or_from_slice_get vs i v shown found in
    let taken_is : taken ≡ joined_with v u =
    is_taken ∙ ap gain (shown_is ∙ sym first_is) ∙ is_gain ∙ ap (λ w. joined_with w second) first_is ∙ ap (joined_with v) second_is in
    ap (λ w. set (set vs i w) j last) taken_is ∙ ap (λ w. set (set vs i (joined_with v u)) j w) is_last
