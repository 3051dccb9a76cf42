-- What is written of a legal run.
use Rattle.std.proofs.Common.{ℕ, zero, suc, ◌+◌, ◌<◌, All, length, get_or, List, [], ◌∷◌, refl, arith}
use Rattle.std.proofs.lemmas.Option.{slice_get-get_or}
use Rattle.key_map.specs.declared.update.Update.{Update}
use Rattle.bucket_terms.specs.declared.record.Record.{Record}
use Rattle.bucket_terms.specs.declared.reply.Placed.{Placed}
use Rattle.bucket_terms.specs.LegalRun.{RequestLine, Run, IsLegal, lines_of, replies_of}
use Rattle.bucket_terms.specs.RunParts.{setting_of}
use Rattle.request_lines.specs.SessionLaws.{HasRecordBelow}
use Rattle.answer_text.specs.InRange.{IsReplyOf}
use Rattle.client_run.specs.Listing.{HasPageInRange}
use Rattle.client_threads.specs.Clients.{RanEach}
use Rattle.client_threads.proofs.Clients.{each_legal}
use Rattle.serve_session.proofs.Values.{PutsBelow, replies_recorded, made_below}

module _ (dir : List (List ℕ)) (records : List Record) (parts : List (List RequestLine)) (slots : ℕ → ℕ) (run : Run)
    (legal : IsLegal dir parts slots run) (each : All (All (HasRecordBelow (length records))) parts) where
  update_below : (i : ℕ) (d : Update) → i < length run.updates → PutsBelow (length records) (get_or run.updates i d).change × ((get_or run.updates i d).key < length dir)
  update_below i d lt =
      let u = get_or run.updates i d in
      let made = legal.made i u (slice_get-get_or run.updates i d lt) in
      made_below dir (length records) u (i + 1) (lines_of parts u.client) (replies_of run u.client) (each u.client [] made.0) made.1

  pub update_keys : All (λ (u : Update). u.key < length dir) run.updates
  update_keys = λ i d lt. (update_below i d lt).1

  -- the replies of one client
  pub client_recorded : (c : ℕ) → c < length parts → All (λ (p : Placed). HasPageInRange dir p.reply) (replies_of run c) → All (λ (p : Placed). IsReplyOf dir records p.reply) (replies_of run c)
  client_recorded c lt pages =
      replies_recorded dir records (setting_of dir run slots c) refl (λ i d below. (update_below i d below).0) [] (lines_of parts c) (replies_of run c)
      (legal.answered c lt) pages

-- the replies of all clients
pub all_recorded : (dir : List (List ℕ)) (records : List Record) (parts : List (List RequestLine)) (slots : ℕ → ℕ) (run : Run)
    → RanEach dir parts slots run → All (All (HasRecordBelow (length records))) parts → All (All (λ (p : Placed). IsReplyOf dir records p.reply)) run.replies
all_recorded dir records parts slots run ran each = λ c d lt.
    let within : c < length parts = omega (arith, ran.clients) in
    same_at run.replies c d lt
    (client_recorded dir records parts slots run (each_legal dir parts slots run ran) each c within (ran.each c within).ran.in_range)
  where
    -- within a list no default is taken
    same_at : (lists : List (List Placed)) (i : ℕ) (d : List Placed) → i < length lists → All (λ (p : Placed). IsReplyOf dir records p.reply) (get_or lists i []) → All (λ (p : Placed). IsReplyOf dir records p.reply) (get_or lists i d)
    same_at [] i d lt all = absurd (omega arith)
    same_at (x ∷ xs) zero d lt all = all
    same_at (x ∷ xs) (suc i) d lt all = same_at xs i d (omega arith) all
