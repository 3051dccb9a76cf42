-- Helper: the headline does not rest on this file.
-- What a run of the generated session is.
use Rattle.std.specs.Prelude.{◌≡◌, ℕ, List, None, map}
use Rattle.key_map.specs.declared.pass.PassSize.{PassSize}
use Rattle.key_names.specs.Names.{HoldsEachOnce}
use Rattle.bucket_terms.specs.LegalRun.{Run, IsLegal, slots_of}
use Rattle.request_lines.specs.declared.session.Session.{Session}
use Rattle.request_lines.specs.Input.{IsSessionOf}
use Rattle.request_lines.specs.Sample.{sample_text}
use Rattle.request_lines.specs.SampleSession.{sample_session}
use Rattle.request_lines.specs.SessionLaws.{HasNames, HasRequests, HasLines, IsSmall}
use Rattle.request_lines.specs.Session.{request_lines}
use Rattle.client_threads.specs.Sizes.{sizes_of}

-- this is true of one legal run of the session. The session's names, each once and in byte order, are the directory.
pub record HoldsOfRunOf (session : Session) (P : Run → Type 0) : Type 0 where
  pub dir : List (List ℕ)
  pub names : HoldsEachOnce session.names dir
  pub run : Run
  pub legal : IsLegal dir (map request_lines session.clients) (slots_of (map request_lines session.clients)) run
  pub holds : P run

-- this is true of one legal run of the generated session with `n` requests of each client
abbrev pub HoldsOfSampleRun : ℕ → (Run → Type 0) → Type 0
HoldsOfSampleRun n P = HoldsOfRunOf (sample_session n) P

-- the session is the generated one, and that of the generated input
pub record IsSampleSession (n : ℕ) (session : Session) : Type 0 where
  pub is : session ≡ sample_session n
  pub of_text : IsSessionOf (sample_text n) (sample_session n)
  pub names : HasNames session
  pub requests : HasRequests session
  pub lines : HasLines session
  pub small : IsSmall session

-- the sizes of the passes of its clients
abbrev pub sample_sizes : ℕ → List PassSize
sample_sizes n = sizes_of None (sample_session n).clients
