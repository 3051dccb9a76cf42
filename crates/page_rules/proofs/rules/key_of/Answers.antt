use Rattle.std.proofs.Common.{sym, ap, arith}
use Rattle.key_names.specs.Names.{name_at}
use Rattle.bucket_terms.specs.PageParts.{entry_by}
use Rattle.page_rules.proofs.FirstEnd.{no_group-without}
use Rattle.page_rules.proofs.rules.key_of.Goals as goal

pub returns-clause-entry : goal.returns-clause-entry
returns-clause-entry c =
    sym (ap (λ o. entry_by o c.args.pair.now) (no_group-without c.args._query.now (name_at c.args.dir.now c.args.pair.now.key) (omega (arith, c.requires.no_delimiter))))
