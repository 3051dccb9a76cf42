-- A journal goes on with one more line.
use Rattle.std.proofs.Common.{◌≡◌, ℕ, zero, suc, ◌+◌, ◌<◌, true, false, All, List, [], ◌∷◌, ◌++◌, length, map, take, get_or, is_none, Option, Some, None, refl, sym, ◌∙◌, subst, arith, append_assoc, append-nil}
use Rattle.std.specs.List.{slice_get}
use Rattle.std.specs.Borrow.{Bor}
use Rattle.std.proofs.lemmas.Bool.{false≢true}
use Rattle.std.proofs.lemmas.List.{get_or-map}
use Rattle.std.proofs.lemmas.List.Elements.{All-head, All-tail}
use Rattle.std.proofs.lemmas.Option.{none-some, slice_get_within, get_or_from_slice_get}
use Rattle.key_map.specs.declared.update.Update.{Update}
use Rattle.bucket_terms.specs.declared.request.Request.{Request}
use Rattle.bucket_terms.specs.declared.request.Request.TheVariants.{Put, PutNew, Delete, Head, List as ListRequest, ListV1, Next}
use Rattle.bucket_terms.specs.LegalRun.{RequestLine, IsChangeOf, lines_of}
use Rattle.request_lines.specs.declared.session.ClientPart.{ClientPart}
use Rattle.request_lines.specs.Session.{request_lines}
use Rattle.request_lines.specs.SessionLaws.{Rise}
use Rattle.answer_text.specs.Lines.{line_of, journal_data}
use Rattle.text_laws.specs.WrongLine.{Checked, IsJournalLine, AreJournal}
use Rattle.text_laws.specs.WrongParts.{text_at, AreOfOneLine}
use Rattle.text_laws.proofs.OneUpdate.{one_place}
use Rattle.replay_check.specs.declared.journal.Told.{Told}
use Rattle.replay_check.specs.Turns.{IsOwnPlace}
use Rattle.replay_check.specs.Own.{AreOwn, history_of, entry_at}
use Rattle.replay_check.specs.Telling.{IsTold, IsNext}
use Rattle.replay_check.specs.Looking.{texts_of}

-- ---- one line

-- the key of an update that a request makes is that of a name
pub key_below : (dir : List (List ℕ)) (u : Update) (request : Request) → IsChangeOf dir u request → u.key < length dir
key_below dir u (Put name val) change = change.0.below
key_below dir u (PutNew name val) change = change.0.below
key_below dir u (Delete name) change = change.0.below
key_below dir u (Head name) change = absurd change
key_below dir u (ListRequest query) change = absurd change
key_below dir u (ListV1 query) change = absurd change
key_below dir u Next change = absurd change

pub none_of : {A : Type 0} (o : Option A) → is_none o ≡ true → o ≡ None
none_of None is = refl
none_of (Some a) is = absurd (false≢true is)

some_of : {A : Type 0} (o : Option A) → is_none o ≡ false → (a : A) × (o ≡ Some a)
some_of None is = absurd (false≢true (sym is))
some_of (Some a) is = (a, refl)

module _ (c : Checked) (earlier : List Update) (own : List (List (Option ℕ))) (are : AreOwn c.parts earlier own) (text : List ℕ) (told : Told) (is : IsTold c told) where
  abbrev client : ℕ
  client = told.update.client

  pub in_table : told.request < length (get_or own client [])
  in_table = let within = slice_get_within (lines_of c.parts client) told.request is.asked is.asked_is in let count = are.count client is.client in omega arith

  own_place : IsOwnPlace (history_of earlier client) is.asked.line (entry_at own client told.request)
  own_place = are.each client told.request is.asked is.client is.asked_is

  pub is_line : is_none (entry_at own client told.request) ≡ true → text ≡ line_of (journal_data c.dir (length earlier + 1) told.update) → IsJournalLine c earlier text told.update
  is_line new text_is =
      let lines = lines_of c.parts client in
      let none = subst (IsOwnPlace (history_of earlier client) is.asked.line) (none_of (entry_at own client told.request) new) own_place in
      record {
        client = is.client;
        made = (told.request, is.asked, slice_get_within lines told.request is.asked is.asked_is, get_or_from_slice_get lines told.request is.asked is.asked is.asked_is, is.makes);
        first = λ k d inside same. none k d inside (record { by = same.0; for_line = same.1 ∙ sym is.makes.0 });
        text_is = text_is;
      }

  pub is_used : is_none (entry_at own client told.request) ≡ false → ¬ (IsJournalLine c earlier text told.update)
  is_used used line =
      let found = some_of (entry_at own client told.request) used in
      let there = subst (IsOwnPlace (history_of earlier client) is.asked.line) found.1 own_place in
      let i = there.0 in
      let v = there.1.0 in
      let here : slice_get earlier i ≡ Some v = there.1.1.1.0 in
      let of : AreOfOneLine v told.update = (there.1.1.1.1.by, there.1.1.1.1.for_line ∙ is.makes.0) in
      line.first i v (slice_get_within earlier i v here) (subst (λ (w : Update). AreOfOneLine w told.update) (sym (get_or_from_slice_get earlier i v v here)) of)

-- ---- the lines so far with one more

pub journal_more : (c : Checked) (earlier : List Update) (n : ℕ) (texts : List (List ℕ)) (us : List Update) (u : Update) → n < length texts → AreJournal c earlier (take n texts) us
    → IsJournalLine c (earlier ++ us) (text_at texts n) u → AreJournal c earlier (take (suc n) texts) (us ++ u ∷ [])
journal_more c earlier n [] us u inside h line = absurd (omega arith)
journal_more c earlier zero (t ∷ texts) [] u inside h line = (subst (λ (before : List Update). IsJournalLine c before t u) (append-nil earlier) line, tt)
journal_more c earlier zero (t ∷ texts) (v ∷ us) u inside h line = absurd h
journal_more c earlier (suc n) (t ∷ texts) [] u inside h line = absurd h
journal_more c earlier (suc n) (t ∷ texts) (v ∷ us) u inside h line = (
  h.0,
  journal_more c (earlier ++ v ∷ []) n texts us u (omega arith) h.1
      (subst (λ (before : List Update). IsJournalLine c before (text_at texts n) u) (sym (append_assoc earlier (v ∷ []) us)) line),
)

-- a number is that of one line of a client
pub one_number : (parts : List ClientPart) → All (λ (part : ClientPart). Rise (request_lines part)) parts → (client i j : ℕ) (l m : RequestLine)
    → slice_get (lines_of (map request_lines parts) client) i ≡ Some l → slice_get (lines_of (map request_lines parts) client) j ≡ Some m → l.line ≡ m.line → i ≡ j
one_number [] rising number i j l m first second same = absurd (none-some l first)
one_number (part ∷ parts) rising zero i j l m first second same =
    let lines = request_lines part in
    one_place lines i j l m (All-head (λ (p : ClientPart). Rise (request_lines p)) part parts rising) (slice_get_within lines i l first) (slice_get_within lines j m second)
    (get_or_from_slice_get lines i l l first) (get_or_from_slice_get lines j m m second) same
one_number (part ∷ parts) rising (suc number) i j l m first second same =
    one_number parts (All-tail (λ (p : ClientPart). Rise (request_lines p)) part parts rising) number i j l m first second same

-- what stands after the last line of a text
abbrev pub no_line : Bor (List ℕ)
no_line = record { ref_ptr = (0, 0); now = [] }

-- what was found at a place of the lines
pub next_there : (c : Checked) (us vs : List Update) (lines : List (Bor (List ℕ))) (i : ℕ) (d : Bor (List ℕ)) (found told : Option Told) → us ≡ vs → i < length lines → found ≡ told
    → IsNext c us (get_or lines i d).now found → IsNext c vs (text_at (texts_of lines) i) told
next_there c us vs lines i d found told same inside is next =
    let text : (get_or lines i d).now ≡ text_at (texts_of lines) i = sym (get_or-map (λ (line : Bor (List ℕ)). line.now) lines i d [] inside) in
    subst (IsNext c vs (text_at (texts_of lines) i)) is
    (subst (λ (t : List ℕ). IsNext c vs t found) text
    (subst (λ (ws : List Update). IsNext c ws (get_or lines i d).now found) same next))
