-- A text without escapes, whose quotes are part of the labels next to it.
use Rattle.std.proofs.Common.{◌≡◌, ℕ, List, [], ◌∷◌, ◌++◌, codes, decimal, sym, ap, ◌∙◌, append_assoc}
use Rattle.json.specs.Print.{escape, quoted}
use Rattle.bucket_terms.specs.declared.record.Record.{Record}
use Rattle.answer_text.specs.Pieces.{content_text, behind_key_text}

quotes : (text rest : List ℕ) → escape text ≡ text → quoted text ++ rest ≡ 34 ∷ (text ++ 34 ∷ rest)
quotes text rest plain = ap (λ t. 34 ∷ ((t ++ 34 ∷ []) ++ rest)) plain ∙ ap (λ t. 34 ∷ t) (append_assoc text (34 ∷ []) rest)

pub plain_content : (key : List ℕ) (r : Record) → escape r.etag ≡ r.etag → escape key ≡ key
    → codes "{\"ETag\":\"" ++ (r.etag ++ (codes "\",\"Key\":\"" ++ (key ++ behind_key_text r.modified r.size))) ≡ content_text key r
unfolding content_text behind_key_text
plain_content key r tag_plain key_plain =
    let behind = codes ",\"LastModified\":" ++ (decimal r.modified ++ (codes ",\"Size\":" ++ (decimal r.size ++ codes "}"))) in
    sym (ap (λ t. codes "{\"ETag\":" ++ t) (
    quotes r.etag (codes ",\"Key\":" ++ (quoted key ++ behind)) tag_plain
    ∙ ap (λ t. 34 ∷ (r.etag ++ 34 ∷ (codes ",\"Key\":" ++ t))) (quotes key behind key_plain)
    ))
