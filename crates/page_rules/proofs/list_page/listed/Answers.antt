use Rattle.std.proofs.Common.{◌∙◌, [], ◌∷◌, ◌++◌, get_or, map, filter, sym, ap}
use Rattle.std.specs.Option.{option_copied}
use Rattle.key_map.specs.declared.pair.Pair.{Pair}
use Rattle.key_names.specs.Names.{name_at}
use Rattle.bucket_terms.specs.Listing.{is_admitted, is_under, entry_of}
use Rattle.page_rules.proofs.Rolled.{map-filters-more}
use Rattle.page_rules.proofs.list_page.listed.Goals as goal

pub loop-pair-preserved : goal.loop-pair-preserved
loop-pair-preserved c =
    let dir = c.args.dir.now in
    let query = c.args.query.now in
    let admitted = λ (p : Pair). is_admitted query (option_copied c.args.point) (name_at dir p.key) in
    let none : Pair = record { key = 0; val = 0 } in
    let new = map (entry_of dir query) (filter (is_under dir query) (filter admitted (get_or c.args.list.now c.loop-pair.pair-index none ∷ []))) in
    c.in_ok-push_listed.ensures
    ∙ ap (λ es. es ++ new) c.loop-pair.invariant
    ∙ sym (map-filters-more admitted (is_under dir query) (entry_of dir query) c.args.list.now c.loop-pair.pair-index none c.loop-pair-test.true)
