-- The lines of the text of a run: a line for each reply, one for each update, and the last one.
use Rattle.std.proofs.Common.{◌≡◌, ℕ, zero, suc, ◌+◌, ◌<◌, ◌==◌, List, [], ◌∷◌, ◌++◌, length, take, drop, map, get_or, inl, inr, refl, sym, ap, ◌∙◌, arith, append_assoc, append-nil}
use Rattle.std.specs.List.{flat_map}
use Rattle.std.proofs.Math.Seq.{take-add, drop-append-add}
use Rattle.std.proofs.lemmas.List.{length-append, length-map, take_at, drop-drop}
use Rattle.std.proofs.lemmas.Bool.{cases_Bool}
use Rattle.serde_json.specs.Data.{Data}
use Rattle.serde_json.specs.Written.{compact_text}
use Rattle.key_map.specs.declared.update.Update.{Update}
use Rattle.bucket_terms.specs.declared.record.Record.{Record}
use Rattle.bucket_terms.specs.declared.reply.Placed.{Placed}
use Rattle.bucket_terms.specs.LegalRun.{RequestLine, Run}
use Rattle.answer_text.specs.Lines.{line_of, journal_data, reply_data, journal_lines, session_text}
use Rattle.answer_text.specs.Shown.{last_data}
use Rattle.request_lines.specs.CheckInput.{text_lines, with_byte}
use Rattle.text_laws.specs.WrongLine.{requests_of}
use Rattle.text_laws.proofs.Feeds.{NoFeed, text_free}

-- ---- one line in front

first_line : (body rest : List ℕ) → NoFeed body → text_lines (body ++ 10 ∷ rest) ≡ (body ++ 10 ∷ []) ∷ text_lines rest
first_line [] rest free = refl
first_line (b ∷ body) rest free = rw free.0 (ap (with_byte b) (first_line body rest free.1))

pub line_first : (d : Data) (rest : List ℕ) → text_lines (line_of d ++ rest) ≡ line_of d ∷ text_lines rest
line_first d rest = ap text_lines (append_assoc (compact_text d) (10 ∷ []) rest) ∙ first_line (compact_text d) rest (text_free d)

-- ---- the text of lines

abbrev pub joined : List (List ℕ) → List ℕ
joined lines = flat_map (λ (line : List ℕ). line) lines

joined_byte : (b : ℕ) (lines : List (List ℕ)) → joined (with_byte b lines) ≡ b ∷ joined lines
joined_byte b [] = refl
joined_byte b (line ∷ lines) = refl

pub joined_lines : (text : List ℕ) → joined (text_lines text) ≡ text
joined_lines [] = refl
joined_lines (b ∷ text) =
    elim (cases_Bool (b == 10)) [
      | inl feed ↦ rw feed (ap (λ (l : List ℕ). b ∷ l) (joined_lines text))
      | inr other ↦ rw other (joined_byte b (text_lines text) ∙ ap (λ (l : List ℕ). b ∷ l) (joined_lines text))
    ]

-- ---- the lines of a run

module _ (dir : List (List ℕ)) (records : List Record) where
  abbrev pub reply_text : Placed → List ℕ
  reply_text p = line_of (reply_data dir records p)

  abbrev pub reply_list : List Placed → List (List ℕ)
  reply_list ps = map reply_text ps

  abbrev pub reply_lists : List (List Placed) → List (List ℕ)
  reply_lists lists = flat_map reply_list lists

  abbrev pub journal_list : ℕ → List Update → List (List ℕ)
  journal_list place [] = []
  journal_list place (u ∷ us) = line_of (journal_data dir place u) ∷ journal_list (place + 1) us

  abbrev pub run_lines : Run → List (List ℕ)
  run_lines run = reply_lists run.replies ++ (journal_list 1 run.updates ++ line_of (last_data (length run.updates)) ∷ [])

  replies_cut : (ps : List Placed) (rest : List ℕ) → text_lines (flat_map reply_text ps ++ rest) ≡ reply_list ps ++ text_lines rest
  replies_cut [] rest = refl
  replies_cut (p ∷ ps) rest =
      ap text_lines (append_assoc (reply_text p) (flat_map reply_text ps) rest)
      ∙ line_first (reply_data dir records p) (flat_map reply_text ps ++ rest)
      ∙ ap (λ (l : List (List ℕ)). reply_text p ∷ l) (replies_cut ps rest)

  lists_cut : (lists : List (List Placed)) (rest : List ℕ) → text_lines (flat_map (flat_map reply_text) lists ++ rest) ≡ reply_lists lists ++ text_lines rest
  lists_cut [] rest = refl
  lists_cut (ps ∷ lists) rest =
      ap text_lines (append_assoc (flat_map reply_text ps) (flat_map (flat_map reply_text) lists) rest)
      ∙ replies_cut ps (flat_map (flat_map reply_text) lists ++ rest)
      ∙ ap (λ (l : List (List ℕ)). reply_list ps ++ l) (lists_cut lists rest)
      ∙ sym (append_assoc (reply_list ps) (reply_lists lists) (text_lines rest))

  journal_cut : (place : ℕ) (us : List Update) (rest : List ℕ) → text_lines (journal_lines dir place us ++ rest) ≡ journal_list place us ++ text_lines rest
  journal_cut place [] rest = refl
  journal_cut place (u ∷ us) rest =
      ap text_lines (append_assoc (line_of (journal_data dir place u)) (journal_lines dir (place + 1) us) rest)
      ∙ line_first (journal_data dir place u) (journal_lines dir (place + 1) us ++ rest)
      ∙ ap (λ (l : List (List ℕ)). line_of (journal_data dir place u) ∷ l) (journal_cut (place + 1) us rest)

  pub run_cut : (run : Run) → text_lines (session_text dir records run) ≡ run_lines run
  run_cut run =
      let last = line_of (last_data (length run.updates)) in
      let journal = journal_lines dir 1 run.updates in
      ap text_lines (append_assoc (flat_map (flat_map reply_text) run.replies) journal last)
      ∙ lists_cut run.replies (journal ++ last)
      ∙ ap (λ (l : List (List ℕ)). reply_lists run.replies ++ l)
      (journal_cut 1 run.updates last
      ∙ ap (λ (l : List (List ℕ)). journal_list 1 run.updates ++ l)
      (ap text_lines (sym (append-nil last)) ∙ line_first (last_data (length run.updates)) []))

  pub journal_list-length : (place : ℕ) (us : List Update) → length (journal_list place us) ≡ length us
  journal_list-length place [] = refl
  journal_list-length place (u ∷ us) = ap suc (journal_list-length (place + 1) us)

  -- ---- the lines of each client

  pub lists_length : (lists : List (List Placed)) (parts : List (List RequestLine)) → length lists ≡ length parts
      → ((k : ℕ) → k < length parts → length (get_or lists k []) ≡ length (get_or parts k [])) → length (reply_lists lists) ≡ requests_of parts
  lists_length [] [] same each = refl
  lists_length [] (lines ∷ parts) same each = absurd (omega arith)
  lists_length (ps ∷ lists) [] same each = absurd (omega arith)
  lists_length (ps ∷ lists) (lines ∷ parts) same each =
      let rest = lists_length lists parts (omega arith) (λ k inside. each (suc k) (omega arith)) in
      let here : length ps ≡ length lines = each 0 (omega arith) in
      let both = length-append (reply_list ps) (reply_lists lists) in
      let one = length-map ps reply_text in
      omega arith

  pub list_of_client : (lists : List (List Placed)) (parts : List (List RequestLine)) (k : ℕ) (behind : List (List ℕ)) → length lists ≡ length parts → k < length parts
      → ((j : ℕ) → j < length parts → length (get_or lists j []) ≡ length (get_or parts j []))
      → take (length (get_or parts k [])) (drop (requests_of (take k parts)) (reply_lists lists ++ behind)) ≡ reply_list (get_or lists k [])
  list_of_client lists [] k behind same inside each = absurd (omega arith)
  list_of_client [] (lines ∷ parts) k behind same inside each = absurd (omega arith)
  list_of_client (ps ∷ lists) (lines ∷ parts) zero behind same inside each =
      let here : length ps ≡ length lines = each 0 (omega arith) in
      let one = length-map ps reply_text in
      ap (take (length lines)) (append_assoc (reply_list ps) (reply_lists lists) behind)
      ∙ take_at (reply_list ps) (reply_lists lists ++ behind) (length lines) (omega arith)
  list_of_client (ps ∷ lists) (lines ∷ parts) (suc k) behind same inside each =
      let here : length ps ≡ length lines = each 0 (omega arith) in
      let one = length-map ps reply_text in
      let long : length lines ≡ length (reply_list ps) = omega arith in
      ap (take (length (get_or parts k [])))
      (ap (drop (length lines + requests_of (take k parts))) (append_assoc (reply_list ps) (reply_lists lists) behind)
      ∙ ap (λ (n : ℕ). drop (n + requests_of (take k parts)) (reply_list ps ++ (reply_lists lists ++ behind))) long
      ∙ drop-append-add (reply_list ps) (reply_lists lists ++ behind) (requests_of (take k parts)))
      ∙ list_of_client lists parts k behind (omega arith) (omega arith) (λ j within. each (suc j) (omega arith))

  -- the lines of each client, one client after another, are those of all clients
  pub lists_of_slices : (parts : List (List RequestLine)) (lists : List (List Placed)) (texts : List (List ℕ)) → length lists ≡ length parts
      → ((k : ℕ) → k < length parts → take (length (get_or parts k [])) (drop (requests_of (take k parts)) texts) ≡ reply_list (get_or lists k []))
      → take (requests_of parts) texts ≡ reply_lists lists
  lists_of_slices [] [] texts same each = refl
  lists_of_slices [] (ps ∷ lists) texts same each = absurd (omega arith)
  lists_of_slices (lines ∷ parts) [] texts same each = absurd (omega arith)
  lists_of_slices (lines ∷ parts) (ps ∷ lists) texts same each =
      let rest = lists_of_slices parts lists (drop (length lines) texts) (omega arith)
      (λ k inside.
      ap (take (length (get_or parts k []))) (drop-drop (requests_of (take k parts)) (length lines) texts)
      ∙ each (suc k) (omega arith)) in
      take-add (length lines) (requests_of parts) texts
      ∙ ap (λ (l : List (List ℕ)). l ++ take (requests_of parts) (drop (length lines) texts)) (each 0 (omega arith))
      ∙ ap (λ (l : List (List ℕ)). reply_list ps ++ l) rest
