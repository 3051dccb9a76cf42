-- A journal line is that of one update.
use Rattle.std.proofs.Common.{◌≡◌, ℕ, ◌+◌, ◌^◌, ◌<◌, List, [], length, get_or, Any, inl, inr, sym, ap, ◌∙◌, subst, arith}
use Rattle.std.proofs.lemmas.Bool.{cases_lt}
use Rattle.std.proofs.lemmas.List.{get_or_default}
use Rattle.key_names.specs.Names.{Rises}
use Rattle.key_map.specs.declared.update.Update.{Update}
use Rattle.key_map.specs.declared.update.Change.{Change}
use Rattle.bucket_terms.specs.declared.request.Request.{Request}
use Rattle.bucket_terms.specs.declared.request.Request.TheVariants.{Put, PutNew, Delete, Head, List as ListRequest, ListV1, Next}
use Rattle.bucket_terms.specs.LegalRun.{RequestLine, IsChangeOf, lines_of}
use Rattle.request_lines.specs.SessionLaws.{Rise}
use Rattle.sample_laws.proofs.Ranks.{rank_of-is}
use Rattle.text_laws.specs.WrongLine.{Checked, IsJournalLine}
use Rattle.text_laws.specs.WrongParts.{Makes}
use Rattle.text_laws.specs.TextLaws.{IsCheckable}
use Rattle.text_laws.proofs.Spelled.{update_told}

-- a request changes one key in one way
pub one_change : (dir : List (List ℕ)) (u v : Update) (request : Request) → Rises dir → IsChangeOf dir u request → IsChangeOf dir v request → (u.key ≡ v.key) × (u.change ≡ v.change)
one_change dir u v (Put name val) rising h k = (sym (rank_of-is dir name u.key rising h.0) ∙ rank_of-is dir name v.key rising k.0, h.1 ∙ sym k.1)
one_change dir u v (PutNew name val) rising h k = (sym (rank_of-is dir name u.key rising h.0) ∙ rank_of-is dir name v.key rising k.0, h.1 ∙ sym k.1)
one_change dir u v (Delete name) rising h k = (sym (rank_of-is dir name u.key rising h.0) ∙ rank_of-is dir name v.key rising k.0, h.1 ∙ sym k.1)
one_change dir u v (Head name) rising h k = absurd h
one_change dir u v (ListRequest query) rising h k = absurd h
one_change dir u v (ListV1 query) rising h k = absurd h
one_change dir u v Next rising h k = absurd h

-- of rising lines one has a number
pub one_place : (lines : List RequestLine) (i j : ℕ) (d e : RequestLine) → Rise lines → i < length lines → j < length lines
    → get_or lines i d ≡ d → get_or lines j e ≡ e → d.line ≡ e.line → i ≡ j
one_place lines i j d e rising in_i in_j is_d is_e same =
    elim (cases_lt i j) [
      | inl less ↦
          let rises : (get_or lines i d).line < (get_or lines j d).line = rising i j d less in_j in
          let first : (get_or lines i d).line ≡ d.line = ap (λ (l : RequestLine). l.line) is_d in
          let second : (get_or lines j d).line ≡ e.line = ap (λ (l : RequestLine). l.line) (get_or_default lines j d e in_j ∙ is_e) in
          absurd (omega arith)
      | inr more ↦
          elim (cases_lt j i) [
            | inl less ↦
                let rises : (get_or lines j d).line < (get_or lines i d).line = rising j i d less in_i in
                let first : (get_or lines i d).line ≡ d.line = ap (λ (l : RequestLine). l.line) is_d in
                let second : (get_or lines j d).line ≡ e.line = ap (λ (l : RequestLine). l.line) (get_or_default lines j d e in_j ∙ is_e) in
                absurd (omega arith)
            | inr other ↦ omega arith
          ]
    ]

pub one_line : (lines : List RequestLine) (i j : ℕ) (d e : RequestLine) → Rise lines → i < length lines → j < length lines
    → get_or lines i d ≡ d → get_or lines j e ≡ e → d.line ≡ e.line → d ≡ e
one_line lines i j d e rising in_i in_j is_d is_e same =
    let place = one_place lines i j d e rising in_i in_j is_d is_e same in
    sym is_d ∙ ap (λ (k : ℕ). get_or lines k d) place ∙ get_or_default lines j d e in_j ∙ is_e

module _ (c : Checked) (texts : List (List ℕ)) (fine : IsCheckable c texts) where
  small_line : (u : Update) → u.client < length c.parts → Any (Makes c.dir u) (lines_of c.parts u.client) → u.line < 2 ^ 64
  small_line u inside made =
      let l = made.1 in
      let there : (get_or (lines_of c.parts u.client) made.0 l).line < 2 ^ 64 = fine.numbers u.client [] inside made.0 l made.2 in
      let is : (get_or (lines_of c.parts u.client) made.0 l).line ≡ l.line = ap (λ (m : RequestLine). m.line) made.3 in
      let line : l.line ≡ u.line = made.4.0 in
      omega arith

  pub one_update : (earlier : List Update) (text : List ℕ) (u v : Update) → length earlier + 1 < 2 ^ 64 → IsJournalLine c earlier text u → IsJournalLine c earlier text v → u ≡ v
  one_update earlier text u v short h k =
      let few = fine.clients in
      let in_u : u.client < length c.parts = h.client in
      let in_v : v.client < length c.parts = k.client in
      let told = update_told c.dir (length earlier + 1) u v short (omega arith) (omega arith) (small_line u h.client h.made) (small_line v k.client k.made) (sym h.text_is ∙ k.text_is) in
      let made : Any (Makes c.dir v) (lines_of c.parts u.client) = subst (λ (n : ℕ). Any (Makes c.dir v) (lines_of c.parts n)) (sym told.0) k.made in
      let l = h.made.1 in
      let m = made.1 in
      let same : l.line ≡ m.line = h.made.4.0 ∙ told.1 ∙ sym made.4.0 in
      let lines : l ≡ m = one_line (lines_of c.parts u.client) h.made.0 made.0 l m (fine.rising u.client [] in_u) h.made.2 made.2 h.made.3 made.3 same in
      let change = one_change c.dir u v l.request fine.names h.made.4.1 (subst (λ (x : RequestLine). IsChangeOf c.dir v x.request) (sym lines) made.4.1) in
      ap (λ (n : ℕ). record { client = n; line = u.line; key = u.key; change = u.change }) told.0
      ∙ ap (λ (n : ℕ). record { client = v.client; line = n; key = u.key; change = u.change }) told.1
      ∙ ap (λ (n : ℕ). record { client = v.client; line = v.line; key = n; change = u.change }) change.0
      ∙ ap (λ (x : Change). record { client = v.client; line = v.line; key = v.key; change = x }) change.1
