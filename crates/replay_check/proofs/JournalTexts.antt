-- How a journal line begins, and how it ends.
use Rattle.std.proofs.Common.{◌≡◌, ℕ, List, ◌∷◌, ◌++◌, drop, codes, decimal, refl, sym, ◌∙◌, append_assoc}
use Rattle.key_names.specs.Names.{name_at}
use Rattle.key_map.specs.declared.update.Update.{Update}
use Rattle.key_map.specs.declared.update.Change.{Change}
use Rattle.json.specs.Print.{quoted}
use Rattle.answer_text.specs.Lines.{line_of, journal_data}
use Rattle.answer_text.specs.Pieces.{journal_text, verb_end_text}
use Rattle.answer_text.proofs.LineTexts.{journal_line}
use Rattle.replay_check.specs.Digits.{start_of_journal}

begins : (place client : ℕ) (key : List ℕ) (line : ℕ) (change : Change) → (rest : List ℕ) × (journal_text place client key line change ≡ start_of_journal place client (44 ∷ rest))
unfolding journal_text
begins place client key line change = (drop 1 (codes ",\"Key\":" ++ (quoted key ++ (codes ",\"Line\":" ++ (decimal line ++ verb_end_text change)))), refl)

ends : (place client : ℕ) (key : List ℕ) (line : ℕ) (change : Change) → (front : List ℕ) × (journal_text place client key line change ≡ front ++ 58 ∷ (decimal line ++ verb_end_text change))
unfolding journal_text
ends place client key line change =
    (codes "{\"At\":" ++ (decimal place ++ (codes ",\"Client\":" ++ (decimal client ++ (codes ",\"Key\":" ++ (quoted key ++ codes ",\"Line\""))))), sym (simp append_assoc))

pub journal_begins : (dir : List (List ℕ)) (at : ℕ) (u : Update) (text : List ℕ) → text ≡ line_of (journal_data dir at u) → (rest : List ℕ) × (text ≡ start_of_journal at u.client (44 ∷ rest))
journal_begins dir at u text is =
    let start = begins at u.client (name_at dir u.key) u.line u.change in
    (start.0, is ∙ sym (journal_line at u.client (name_at dir u.key) u.line u.change) ∙ start.1)

pub journal_ends : (dir : List (List ℕ)) (at : ℕ) (u : Update) (text : List ℕ) → text ≡ line_of (journal_data dir at u) → (front : List ℕ) × (text ≡ front ++ 58 ∷ (decimal u.line ++ verb_end_text u.change))
journal_ends dir at u text is =
    let end = ends at u.client (name_at dir u.key) u.line u.change in
    (end.0, is ∙ sym (journal_line at u.client (name_at dir u.key) u.line u.change) ∙ end.1)
