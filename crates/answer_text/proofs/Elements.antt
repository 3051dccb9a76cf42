-- One element more of an array of entries.
use Rattle.std.proofs.Common.{◌≡◌, ℕ, ◌+◌, ◌<◌, Bool, true, false, ◌||◌, List, ◌∷◌, ◌++◌, Option, is_some, length, drop, get_or, refl, sym, ap, ◌∙◌, append_assoc}
use Rattle.std.proofs.lemmas.List.{drop_more}
use Rattle.std.specs.List.{filter_map}
use Rattle.json.specs.Print.{escape_byte}
use Rattle.serde_json.specs.Data.{Data}
use Rattle.serde_json.specs.View.{items_of}
use Rattle.serde_json.specs.Written.{items_text}
use Rattle.bucket_terms.specs.declared.record.Record.{Record}
use Rattle.bucket_terms.specs.declared.page.PageEntry.{PageEntry}
use Rattle.bucket_terms.specs.declared.page.PageEntry.TheVariants.{Key, Group}
use Rattle.answer_text.specs.Lines.{content_of, prefix_of}
use Rattle.answer_text.specs.Pieces.{content_text, content_element, prefix_text, prefix_element}

module _ (element : Bool → PageEntry → List ℕ) (of : PageEntry → Option Data)
    (first : (later : Bool) (e : PageEntry) (es : List PageEntry) → element later e ++ items_text (later || is_some (of e)) (items_of (filter_map of es)) ≡ items_text later (items_of (filter_map of (e ∷ es)))) where
  element_step : (entries : List PageEntry) (i : ℕ) (e d : PageEntry) (later now : Bool) (mid new : List ℕ)
      → i < length entries → e ≡ get_or entries i d → now ≡ (later || is_some (of e)) → new ≡ mid ++ element later e
      → new ++ items_text now (items_of (filter_map of (drop (i + 1) entries))) ≡ mid ++ items_text later (items_of (filter_map of (drop i entries)))
  element_step entries i e d later now mid new lt is more text =
      let rest = drop (i + 1) entries in
      let split : drop i entries ≡ e ∷ rest = drop_more entries i d lt ∙ ap (λ (x : PageEntry). x ∷ rest) (sym is) in
      ap (λ t. t ++ items_text now (items_of (filter_map of rest))) text
      ∙ ap (λ (b : Bool). (mid ++ element later e) ++ items_text b (items_of (filter_map of rest))) more
      ∙ append_assoc mid (element later e) _
      ∙ ap (λ t. mid ++ t) (first later e rest ∙ ap (λ (es : List PageEntry). items_text later (items_of (filter_map of es))) (sym split))

prefix_first : (dir : List (List ℕ)) (url later : Bool) (e : PageEntry) (es : List PageEntry)
    → prefix_element later dir url e ++ items_text (later || is_some (prefix_of dir url e)) (items_of (filter_map (prefix_of dir url) es)) ≡ items_text later (items_of (filter_map (prefix_of dir url) (e ∷ es)))
unfolding escape_byte prefix_text
prefix_first dir url true (Key rank val) es = refl
prefix_first dir url false (Key rank val) es = refl
prefix_first dir url true (Group rank len) es = refl
prefix_first dir url false (Group rank len) es = refl

pub prefixes_step : (dir : List (List ℕ)) (url : Bool) (entries : List PageEntry) (i : ℕ) (e d : PageEntry) (later now : Bool) (mid new : List ℕ)
    → i < length entries → e ≡ get_or entries i d → now ≡ (later || is_some (prefix_of dir url e)) → new ≡ mid ++ prefix_element later dir url e
    → new ++ items_text now (items_of (filter_map (prefix_of dir url) (drop (i + 1) entries))) ≡ mid ++ items_text later (items_of (filter_map (prefix_of dir url) (drop i entries)))
prefixes_step dir url = element_step (λ later e. prefix_element later dir url e) (prefix_of dir url) (prefix_first dir url)

content_first : (dir : List (List ℕ)) (records : List Record) (url later : Bool) (e : PageEntry) (es : List PageEntry)
    → content_element later dir records url e ++ items_text (later || is_some (content_of dir records url e)) (items_of (filter_map (content_of dir records url) es)) ≡ items_text later (items_of (filter_map (content_of dir records url) (e ∷ es)))
unfolding escape_byte content_text
content_first dir records url true (Key rank val) es = refl
content_first dir records url false (Key rank val) es = refl
content_first dir records url true (Group rank len) es = refl
content_first dir records url false (Group rank len) es = refl

pub contents_step : (dir : List (List ℕ)) (records : List Record) (url : Bool) (entries : List PageEntry) (i : ℕ) (e d : PageEntry) (later now : Bool) (mid new : List ℕ)
    → i < length entries → e ≡ get_or entries i d → now ≡ (later || is_some (content_of dir records url e)) → new ≡ mid ++ content_element later dir records url e
    → new ++ items_text now (items_of (filter_map (content_of dir records url) (drop (i + 1) entries))) ≡ mid ++ items_text later (items_of (filter_map (content_of dir records url) (drop i entries)))
contents_step dir records url = element_step (λ later e. content_element later dir records url e) (content_of dir records url) (content_first dir records url)
