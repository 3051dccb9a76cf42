-- Helper: the headline does not rest on this file.
-- The ranks of the names that begin with a prefix.
use Rattle.std.specs.Prelude.{ℕ, ◌≤◌, List, length, Option, IfSome, All}
use Rattle.key_names.specs.Ranks.{is_before, StandFirst, StandTogether}
use Rattle.bucket_terms.specs.declared.list_query.ListQuery.{ListQuery}
use Rattle.page_rules.specs.declared.prefix_ranks.PrefixRanks.{PrefixRanks}
use Rattle.page_rules.specs.declared.known_prefixes.KnownPrefix.{KnownPrefix}

-- the ranks are those of the names with the prefix; below the first of them stand exactly the names that are below
-- the prefix
pub record AreOfPrefix (dir : List (List ℕ)) (prefix : List ℕ) (ranks : PrefixRanks) : Type 0 where
  pub within : ranks.start ≤ length dir
  pub below : StandFirst (λ name. is_before name prefix) dir ranks.start
  pub together : StandTogether dir prefix ranks.start ranks.end

-- where ranks are kept, they are those of the names with the query's prefix
abbrev pub AreListed : List (List ℕ) → ListQuery → Option PrefixRanks → Type 0
AreListed dir query ranks = IfSome ranks (AreOfPrefix dir query.prefix)

-- each place that holds a prefix holds its ranks with it
abbrev pub AreKnown : List (List ℕ) → List (Option KnownPrefix) → Type 0
AreKnown dir places = All (λ (o : Option KnownPrefix). IfSome o (λ (k : KnownPrefix). AreOfPrefix dir k.prefix k.ranks)) places
