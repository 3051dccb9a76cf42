-- What a line of a text says: a reply line its place, a journal line its client and its request line.
use Rattle.std.proofs.Common.{◌≡◌, ℕ, ◌^◌, ◌<◌, List, ◌∷◌, ◌++◌, drop, codes, decimal, Option, Some, None, IfSome, refl, sym, ap, ◌∙◌, append_assoc}
use Rattle.key_names.specs.Names.{name_at}
use Rattle.key_map.specs.declared.update.Update.{Update}
use Rattle.key_map.specs.declared.update.Change.{Change}
use Rattle.key_map.specs.declared.update.Change.TheVariants.{Put as PutVal, Remove}
use Rattle.bucket_terms.specs.declared.record.Record.{Record}
use Rattle.bucket_terms.specs.declared.reply.Reply.{Reply}
use Rattle.bucket_terms.specs.declared.reply.Reply.TheVariants.{Put, Exists, Deleted, Found, Missing, Listed, ListedV1, BadToken, NoSlot}
use Rattle.bucket_terms.specs.declared.reply.Placed.{Placed}
use Rattle.json.specs.Print.{quoted}
use Rattle.answer_text.specs.Lines.{line_of, journal_data, reply_data}
use Rattle.answer_text.specs.Pieces as spec
use Rattle.answer_text.proofs.LineTexts.{journal_line, reply_line}
use Rattle.text_laws.proofs.Runs.{cancel, numbers, no_number}
use Rattle.text_laws.proofs.Quotes.{quoted_same}

-- ---- replies

-- the text begins with this place, and a comma stands after it
abbrev pub Begins : Option ℕ → List ℕ → Type 0
Begins at text = (rest : List ℕ) × (text ≡ spec.place_text at ++ 44 ∷ rest)

start_begins : (at : Option ℕ) (client : ℕ) (rest : List ℕ) → Begins at (spec.start_text at client ++ rest)
start_begins at client rest =
    (drop 1 ((codes ",\"Client\":" ++ decimal client) ++ rest), append_assoc (spec.place_text at) (codes ",\"Client\":" ++ decimal client) rest)

reply_begins : (dir : List (List ℕ)) (records : List Record) (at : Option ℕ) (client line : ℕ) (reply : Reply) → Begins at (spec.reply_text dir records at client line reply)
unfolding spec.short_text spec.found_text spec.listed_text spec.v1_text
reply_begins dir records at client line (Put was) = start_begins at client _
reply_begins dir records at client line Exists = start_begins at client _
reply_begins dir records at client line Deleted = start_begins at client _
reply_begins dir records at client line (Found val) = start_begins at client _
reply_begins dir records at client line Missing = start_begins at client _
reply_begins dir records at client line (Listed query page) = start_begins at client _
reply_begins dir records at client line (ListedV1 query page) = start_begins at client _
reply_begins dir records at client line BadToken = start_begins at client _
reply_begins dir records at client line NoSlot = start_begins at client _

-- the line of a reply begins with the reply's place
pub line_begins : (dir : List (List ℕ)) (records : List Record) (p : Placed) → Begins p.at (line_of (reply_data dir records p))
line_begins dir records p =
    let begins = reply_begins dir records p.at p.client p.line p.reply in
    (begins.0, sym (reply_line dir records p.at p.client p.line p.reply) ∙ begins.1)

one_place : (a b : Option ℕ) (r s : List ℕ) → IfSome a (λ n. n < 2 ^ 64) → IfSome b (λ n. n < 2 ^ 64)
    → spec.place_text a ++ 44 ∷ r ≡ spec.place_text b ++ 44 ∷ s → a ≡ b
one_place None None r s small_a small_b e = refl
one_place (Some m) (Some n) r s small_a small_b e =
    ap Some (numbers m n 44 44 r s small_a small_b refl refl (cancel (codes "{\"At\":") (decimal m ++ 44 ∷ r) (decimal n ++ 44 ∷ s) e)).0
one_place (Some m) None r s small_a small_b e =
    absurd (no_number m 44 110 r (codes "ull" ++ 44 ∷ s) small_a refl refl (cancel (codes "{\"At\":") (decimal m ++ 44 ∷ r) (codes "null" ++ 44 ∷ s) e))
one_place None (Some n) r s small_a small_b e =
    absurd (no_number n 44 110 s (codes "ull" ++ 44 ∷ r) small_b refl refl (cancel (codes "{\"At\":") (decimal n ++ 44 ∷ s) (codes "null" ++ 44 ∷ r) (sym e)))

-- replies with one line have one place
pub place_told : (dir : List (List ℕ)) (records : List Record) (p q : Placed) → IfSome p.at (λ n. n < 2 ^ 64) → IfSome q.at (λ n. n < 2 ^ 64)
    → line_of (reply_data dir records p) ≡ line_of (reply_data dir records q) → p.at ≡ q.at
place_told dir records p q small_p small_q e =
    let first = reply_begins dir records p.at p.client p.line p.reply in
    let second = reply_begins dir records q.at q.client q.line q.reply in
    one_place p.at q.at first.0 second.0 small_p small_q
    (sym first.1 ∙ reply_line dir records p.at p.client p.line p.reply ∙ e ∙ sym (reply_line dir records q.at q.client q.line q.reply) ∙ second.1)

-- ---- the journal

line_same : (m n : ℕ) (a b : Change) → m < 2 ^ 64 → n < 2 ^ 64 → decimal m ++ spec.verb_end_text a ≡ decimal n ++ spec.verb_end_text b → m ≡ n
line_same m n (PutVal v) (PutVal w) small_m small_n e = (numbers m n 44 44 _ _ small_m small_n refl refl e).0
line_same m n (PutVal v) Remove small_m small_n e = (numbers m n 44 44 _ _ small_m small_n refl refl e).0
line_same m n Remove (PutVal w) small_m small_n e = (numbers m n 44 44 _ _ small_m small_n refl refl e).0
line_same m n Remove Remove small_m small_n e = (numbers m n 44 44 _ _ small_m small_n refl refl e).0

journal_same : (at c d : ℕ) (k l : List ℕ) (m n : ℕ) (a b : Change) → at < 2 ^ 64 → c < 2 ^ 64 → d < 2 ^ 64 → m < 2 ^ 64 → n < 2 ^ 64
    → spec.journal_text at c k m a ≡ spec.journal_text at d l n b → (c ≡ d) × (m ≡ n)
unfolding spec.journal_text
journal_same at c d k l m n a b small_at small_c small_d small_m small_n e =
    let lines_c : List ℕ = codes ",\"Line\":" ++ (decimal m ++ spec.verb_end_text a) in
    let lines_d : List ℕ = codes ",\"Line\":" ++ (decimal n ++ spec.verb_end_text b) in
    let keys_c : List ℕ = codes "\"Key\":" ++ (quoted k ++ lines_c) in
    let keys_d : List ℕ = codes "\"Key\":" ++ (quoted l ++ lines_d) in
    let behind_c : List ℕ = codes ",\"Client\":" ++ (decimal c ++ 44 ∷ keys_c) in
    let behind_d : List ℕ = codes ",\"Client\":" ++ (decimal d ++ 44 ∷ keys_d) in
    let whole : decimal at ++ behind_c ≡ decimal at ++ behind_d = cancel (codes "{\"At\":") (decimal at ++ behind_c) (decimal at ++ behind_d) e in
    let clients = cancel (codes ",\"Client\":") (decimal c ++ 44 ∷ keys_c) (decimal d ++ 44 ∷ keys_d) (cancel (decimal at) behind_c behind_d whole) in
    let found = numbers c d 44 44 keys_c keys_d small_c small_d refl refl clients in
    let keys = cancel (codes ",\"Key\":") (quoted k ++ lines_c) (quoted l ++ lines_d) found.1 in
    let lines = cancel (codes ",\"Line\":") (decimal m ++ spec.verb_end_text a) (decimal n ++ spec.verb_end_text b) (quoted_same k l lines_c lines_d keys) in
    (found.0, line_same m n a b small_m small_n lines)

-- updates with one journal line at a place are of one client and one request line
pub update_told : (dir : List (List ℕ)) (at : ℕ) (u v : Update) → at < 2 ^ 64 → u.client < 2 ^ 64 → v.client < 2 ^ 64 → u.line < 2 ^ 64 → v.line < 2 ^ 64
    → line_of (journal_data dir at u) ≡ line_of (journal_data dir at v) → (u.client ≡ v.client) × (u.line ≡ v.line)
update_told dir at u v small_at small_c small_d small_m small_n e =
    journal_same at u.client v.client (name_at dir u.key) (name_at dir v.key) u.line v.line u.change v.change small_at small_c small_d small_m small_n
    (journal_line at u.client (name_at dir u.key) u.line u.change ∙ e ∙ sym (journal_line at v.client (name_at dir v.key) v.line v.change))
