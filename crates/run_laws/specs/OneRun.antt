-- A session of one client has one legal run.
use Rattle.std.specs.Prelude.{◌≡◌, ℕ, ◌<◌, List, [], ◌∷◌, None}
use Rattle.key_names.specs.Names.{Rises}
use Rattle.bucket_terms.specs.LegalRun.{RequestLine, Run, IsLegal, replies_of}
use Rattle.bucket_terms.specs.RunParts.{updates_in}
use Rattle.run_laws.specs.Alone.{AreAlone}

-- in each legal run of one client that has more node slots than requests that may make an update, it is answered as
-- alone
abbrev pub AloneLaw : Type 0
AloneLaw =
    (dir : List (List ℕ)) (lines : List RequestLine) (slots : ℕ → ℕ) (run : Run) → Rises dir → updates_in lines < slots 0
    → IsLegal dir (lines ∷ []) slots run
    → (run.replies ≡ replies_of run 0 ∷ []) × AreAlone dir 0 [] None lines (replies_of run 0) run.updates

-- and so there is one such run at most
abbrev pub OneRunLaw : Type 0
OneRunLaw =
    (dir : List (List ℕ)) (lines : List RequestLine) (slots : ℕ → ℕ) (a b : Run) → Rises dir → updates_in lines < slots 0
    → IsLegal dir (lines ∷ []) slots a → IsLegal dir (lines ∷ []) slots b → a ≡ b
