-- Helper: the headline does not rest on this file.
-- What the requests of a client of the generated session are made of.
use Rattle.std.specs.Prelude.{◌≡◌, ℕ, zero, suc, List, [], ◌∷◌, ◌++◌, length}
use Rattle.request_lines.specs.declared.generated.Client.{Client}
use Rattle.request_lines.specs.Sample.{sample_name}
use Rattle.request_lines.specs.SampleSession.{sample_query}

-- the names at a client's first places
abbrev pub first_names : ℕ → ℕ → List (List ℕ)
first_names client zero = []
first_names client (suc i) = first_names client i ++ sample_name client i ∷ []

-- the first names of the client, and what its listings ask
pub record IsClient (client : ℕ) (own : Client) : Type 0 where
  pub names : own.names.items ≡ first_names client (length own.names.items)
  pub query : own.query ≡ sample_query client
