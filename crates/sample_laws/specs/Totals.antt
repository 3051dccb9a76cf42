-- Helper: the headline does not rest on this file.
-- The numbers of a summary: of a run, and of clients each alone.
use Rattle.std.specs.Prelude.{ℕ, List, [], length, sum_by}
use Rattle.key_map.specs.History.{after}
use Rattle.bucket_terms.specs.declared.reply.Reply.{Reply}
use Rattle.bucket_terms.specs.declared.reply.Reply.TheVariants.{Listed, ListedV1}
use Rattle.bucket_terms.specs.declared.reply.Placed.{Placed}
use Rattle.bucket_terms.specs.declared.summary.Summary.{Summary}
use Rattle.bucket_terms.specs.LegalRun.{RequestLine, Run}
use Rattle.sample_laws.specs.Alone.{map_alone, updates_alone, replies_alone}

-- how many entries the page of a listing has
abbrev pub listed_in : Reply → ℕ
listed_in (Listed query page) = length page.entries
listed_in (ListedV1 query page) = length page.entries
listed_in reply = 0

-- how many entries the pages of a client's replies have together
abbrev pub listed_by : List Placed → ℕ
listed_by replies = sum_by (λ (p : Placed). listed_in p.reply) replies

-- the summary of a run: the keys of the map after all updates, the entries of all pages, the replies, the updates
abbrev pub summary_of : Run → Summary
summary_of run = record {
  keys = length (after run.updates (length run.updates));
  listed = sum_by listed_by run.replies;
  requests = sum_by length run.replies;
  updates = length run.updates;
}

-- the sums over the clients of what each has alone
abbrev pub summary_alone : List (List ℕ) → List (List RequestLine) → Summary
summary_alone dir parts = record {
  keys = sum_by (λ (lines : List RequestLine). length (map_alone dir [] lines)) parts;
  listed = sum_by (λ (lines : List RequestLine). sum_by listed_in (replies_alone dir [] lines)) parts;
  requests = sum_by length parts;
  updates = sum_by (λ (lines : List RequestLine). updates_alone dir [] lines) parts;
}
