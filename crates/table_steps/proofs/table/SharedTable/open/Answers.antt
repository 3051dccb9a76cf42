use Rattle.std.proofs.Common.{◌∙◌, ◌++◌, ap, map}
use Rattle.table_steps.specs.Closes.{number_of}
use Rattle.table_steps.specs.Opens.{numbers_from}
use Rattle.index_words.specs.Sizes.{layout_of}
use Rattle.table_steps.proofs.Opened.{all_keys, each_layout}
use Rattle.table_steps.proofs.table.SharedTable.open.Goals as goal

pub returns-clause-all : goal.returns-clause-all
returns-clause-all c =
    all_keys c.in_ok-ruled.ruled c.add_keys.new.keys.items c.args.sizes.now c.in_ok-add_keys.ensures.of
    (c.in_ok-add_keys.ensures.numbers ∙ ap (λ ks. map number_of ks ++ numbers_from 0 c.args.sizes.now) c.new-keys.ensures.items)
    (c.in_ok-ruled.ensures.layout ∙ c.requires.sums)

pub returns-clause-layouts : goal.returns-clause-layouts
returns-clause-layouts c =
    each_layout c.in_ok-ruled.ruled (layout_of c.args.sizes.now) c.add_keys.new.keys.items (c.in_ok-ruled.ensures.layout ∙ c.requires.sums) c.in_ok-add_keys.ensures.of
