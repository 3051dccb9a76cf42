-- The lines of a session's clients, as a text is checked against them.
use Rattle.std.proofs.Common.{◌≡◌, ℕ, zero, suc, ◌^◌, ◌<◌, All, Any, List, [], ◌∷◌, length, map, get_or, Some, refl, sym, ap, ◌∙◌, subst, arith}
use Rattle.std.specs.List.{slice_get, HoldsAt}
use Rattle.std.proofs.lemmas.List.{length-map}
use Rattle.std.proofs.lemmas.Option.{same_Some, none-some, slice_get_within, slice_get-get_or, get_or_from_slice_get}
use Rattle.key_map.specs.declared.update.Update.{Update}
use Rattle.bucket_terms.specs.LegalRun.{RequestLine, lines_of}
use Rattle.request_lines.specs.declared.session.ClientPart.{ClientPart}
use Rattle.request_lines.specs.declared.session.Session.{Session}
use Rattle.request_lines.specs.Session.{request_lines}
use Rattle.request_lines.specs.SessionLaws.{HasLineNumber, IsAskable, IsServed, Rise}
use Rattle.client_run.proofs.Sessions.{askable}
use Rattle.text_laws.specs.WrongLine.{Checked}
use Rattle.text_laws.specs.WrongParts.{Makes}
use Rattle.replay_check.specs.Telling.{IsRead, IsOfSession}

-- what holds of each element holds of the one at a place
pub each_at : {A : Type 0} (P : A → Type 0) (xs : List A) (i : ℕ) (x : A) → All P xs → slice_get xs i ≡ Some x → P x
each_at P xs i x all is = subst P (get_or_from_slice_get xs i x x is) (all i x (slice_get_within xs i x is))

-- what a look at a place of a list finds
pub found_there : {A : Type 0} (xs ys : List A) (i : ℕ) (x : A) → xs ≡ ys → (i < length xs) × HoldsAt (λ (y : A). x ≡ y) xs i → slice_get ys i ≡ Some x
found_there {A} xs ys i x same there =
    ap (λ (zs : List A). slice_get zs i) (sym same) ∙ slice_get-get_or xs i x there.0 ∙ ap (λ (y : A). Some y) (sym (there.1 x))

pub part_at : (parts : List ClientPart) (client : ℕ) → client < length (map request_lines parts) → (part : ClientPart) × (slice_get parts client ≡ Some part)
part_at [] client inside = absurd (omega arith)
part_at (part ∷ parts) zero inside = (part, refl)
part_at (part ∷ parts) (suc client) inside = part_at parts client (omega arith)

pub lines_are : (parts : List ClientPart) (client : ℕ) (part : ClientPart) → slice_get parts client ≡ Some part → lines_of (map request_lines parts) client ≡ request_lines part
lines_are [] client part is = absurd (none-some part is)
lines_are (p ∷ parts) zero part is = ap request_lines (same_Some p part is)
lines_are (p ∷ parts) (suc client) part is = lines_are parts client part is

module _ (session : Session) (dir : List (List ℕ)) (read : IsRead session dir) where
  pub askable_lines : (client : ℕ) (part : ClientPart) → slice_get session.clients client ≡ Some part → All (IsAskable dir) (request_lines part)
  askable_lines client part is =
      askable dir session.names (length session.records) part.requests read.directory
      (each_at (λ (p : ClientPart). All (IsServed session.names (length session.records)) p.requests) session.clients client part read.requests.served is)

  pub rising_lines : (client : ℕ) (part : ClientPart) → slice_get session.clients client ≡ Some part → Rise (request_lines part)
  rising_lines client part is = each_at (λ (p : ClientPart). Rise (request_lines p)) session.clients client part read.lines.rising is

  module _ (c : Checked) (of : IsOfSession c session dir) where
    pub part_of : (client : ℕ) → client < length c.parts → (part : ClientPart) × (slice_get session.clients client ≡ Some part)
    part_of client inside = part_at session.clients client (subst (λ (parts : List (List RequestLine)). client < length parts) of.parts_is inside)

    pub lines_of_part : (client : ℕ) (part : ClientPart) → slice_get session.clients client ≡ Some part → lines_of c.parts client ≡ request_lines part
    lines_of_part client part is = ap (λ (parts : List (List RequestLine)). lines_of parts client) of.parts_is ∙ lines_are session.clients client part is

    pub client_count : length c.parts ≡ length session.clients
    client_count = ap length of.parts_is ∙ length-map session.clients request_lines

    pub small_client : (client : ℕ) → client < length c.parts → client < 2 ^ 64
    small_client client inside =
        let count = client_count in
        let few = read.small.clients in
        omega arith

    pub small_line : (u : Update) → u.client < length c.parts → Any (Makes c.dir u) (lines_of c.parts u.client) → u.line < 2 ^ 64
    small_line u inside made =
        let found = part_of u.client inside in
        let part = found.0 in
        let lines = lines_of_part u.client part found.1 in
        let l = made.1 in
        let numbers : All HasLineNumber (lines_of c.parts u.client) =
        subst (All HasLineNumber) (sym lines) (each_at (λ (p : ClientPart). All HasLineNumber (request_lines p)) session.clients u.client part read.lines.numbers found.1) in
        let number : HasLineNumber (get_or (lines_of c.parts u.client) made.0 l) = numbers made.0 l made.2 in
        let small = number.1 in
        let is : (get_or (lines_of c.parts u.client) made.0 l).line ≡ l.line = ap (λ (m : RequestLine). m.line) made.3 in
        let line : l.line ≡ u.line = made.4.0 in
        omega arith
