use Rattle.std.proofs.Common.{◌≡◌, map, filter, take}
use Rattle.std.specs.Option.{option_copied}
use Rattle.key_names.specs.Names.{name_at}
use Rattle.bucket_terms.specs.Listing.{is_admitted, is_under, entry_of}
use Rattle.page_rules.proofs.list_page.listed.Given as goal

abbrev pub invariant-loop-pair : goal.invariant-loop-pair
invariant-loop-pair l =
    l.entries.items ≡ map (entry_of l.dir l.query) (filter (is_under l.dir l.query)
    (filter (λ p. is_admitted l.query (option_copied l.point) (name_at l.dir p.key)) (take l.pair-index l.list)))
