use Rattle.plan_laws.proofs.PlainLinks.{set_plain, raise_tag, no_tag}
use Rattle.plan_laws.proofs.end_laws.plain_links_are_set.Goals as goal

pub returns : goal.returns
returns c = record { set = set_plain; raise_tag = raise_tag; no_tag = no_tag }
