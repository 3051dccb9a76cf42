use Rattle.std.proofs.Common.{◌≡◌, ap, ◌∙◌}
use Rattle.std.specs.Option.{option_copied}
use Rattle.bucket_terms.specs.PageParts.{cut_at}
use Rattle.bucket_terms.specs.Listing.{page_of}
use Rattle.page_rules.proofs.InRange.{page_in_range}
use Rattle.page_rules.proofs.Law.{page_left, begins_all, page_rises}
use Rattle.page_rules.proofs.list_page.page_of_list.Goals as goal

-- the page that is returned is that of the query
is_page : (c : goal.After-cut_at) → c.cut_at.result ≡ page_of c.args.dir.now c.args.query.now (option_copied c.args.point) c.args.list.now
is_page c = c.cut_at.ensures ∙ ap (cut_at c.args.query.now.max_keys) c.in_ok-entries.ensures

pub returns-clause-in_range : goal.returns-clause-in_range
returns-clause-in_range c = page_in_range c.args.dir.now c.args.query.now (option_copied c.args.point) c.args.list.now _ c.len-names.ensures.fine (rw c.bytes-delimiter.ensures.value at c.bytes-delimiter.ensures.utf8) (is_page c)

pub returns-clause-left : goal.returns-clause-left
returns-clause-left c map = page_left c.args.dir.now c.args.query.now c.args.list.now c.len-names.ensures.rising map (option_copied c.args.point) _ (is_page c)

pub returns-clause-chained : goal.returns-clause-chained
returns-clause-chained c map = begins_all c.args.dir.now c.args.query.now c.args.list.now c.len-names.ensures.rising map (option_copied c.args.point) c.cut_at.result

pub returns-clause-each_once : goal.returns-clause-each_once
returns-clause-each_once c map = page_rises c.args.dir.now c.args.query.now c.args.list.now c.len-names.ensures.rising map (option_copied c.args.point) _ (is_page c)
