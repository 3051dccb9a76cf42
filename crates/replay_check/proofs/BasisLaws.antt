-- What follows from the basis of the reply lines for a client's lines.
use Rattle.std.proofs.Common.{◌≡◌, ℕ, zero, suc, ◌∷◌, ◌==◌, ◌&&◌, nat_lt, ◌+◌, ◌^◌, ◌<◌, ◌≤◌, List, [], length, map, get_or, Option, Some, None, refl, sym, ap, ◌∙◌, subst, arith}
use Rattle.std.specs.List.{slice_get}
use Rattle.std.specs.Option.{option_map}
use Rattle.std.specs.Borrow.{Bor}
use Rattle.std.proofs.lemmas.Option.{slice_get_read, slice_get-map}
use Rattle.std.proofs.lemmas.List.{get_or_default, length-map, length-append}
use Rattle.std.proofs.lemmas.List.Sums.{count_by-le-length}
use Rattle.key_names.specs.Names.{Rises}
use Rattle.key_map.specs.declared.update.Update.{Update}
use Rattle.bucket_terms.specs.LegalRun.{RequestLine, lines_of}
use Rattle.request_lines.specs.declared.session.Asked.{Asked}
use Rattle.request_lines.specs.declared.session.ClientPart.{ClientPart}
use Rattle.request_lines.specs.Session.{request_line, request_lines}
use Rattle.request_lines.specs.SessionLaws.{Rise, all_requests}
use Rattle.text_laws.specs.WrongLine.{first_reply, reply_texts, requests_of}
use Rattle.text_laws.specs.WrongParts.{text_at}
use Rattle.replay_check.specs.declared.basis.Basis.{Basis}
use Rattle.replay_check.specs.declared.turns.Client.{Client}
use Rattle.replay_check.specs.Own.{history_of}
use Rattle.replay_check.specs.Telling.{IsOfSession}
use Rattle.replay_check.specs.Turns.{IsOwnPlace, used_before}
use Rattle.replay_check.specs.Looking.{IsBasis, HasComeOn, against, texts_in}
use Rattle.replay_check.proofs.SessionLines.{lines_are, rising_lines}
use Rattle.text_laws.proofs.ReplyPlaces.{first_within}
use Rattle.replay_check.proofs.TextPlaces.{line_within, text_is, text_there}

-- what an index finds
pub there : {A : Type 0} (xs ys : List A) (i : ℕ) (x : A) → ys ≡ xs → i < length xs → x ≡ get_or ys i x → slice_get xs i ≡ Some x
there {A} xs ys i x same inside is =
    let long : length ys ≡ length xs = ap length same in
    ap (λ (zs : List A). slice_get zs i) (sym same) ∙ slice_get_read ys (length xs) i x (sym long) inside is

-- the request line at an index of the client's requests
pub line_at : (part : ClientPart) (requests : List Asked) (n : ℕ) (asked : Asked) → requests ≡ part.requests → n < length part.requests → asked ≡ get_or requests n asked
    → slice_get (request_lines part) n ≡ Some (request_line asked)
line_at part requests n asked same inside is =
    slice_get-map request_line part.requests n ∙ ap (option_map request_line) (there part.requests requests n asked same inside is)

pub of_session : (b : Basis) → IsOfSession (against b) b.session.now b.dir.now
of_session b = record { dir_is = refl; records_is = refl; parts_is = refl }

pub part_count : (b : Basis) → length (against b).parts ≡ length b.session.now.clients
part_count b = length-map b.session.now.clients request_lines

pub line_there : (lines : List RequestLine) (n : ℕ) → n < length lines → (l : RequestLine) × (slice_get lines n ≡ Some l)
line_there [] n less = absurd (omega arith)
line_there (l ∷ lines) zero less = (l, refl)
line_there (l ∷ lines) (suc n) less = line_there lines n (omega arith)

-- as many as all requests
pub requests_are : (parts : List ClientPart) → requests_of (map request_lines parts) ≡ length (all_requests parts)
requests_are [] = refl
requests_are (part ∷ parts) =
    let rest = requests_are parts in
    let own = length-map part.requests request_line in
    let whole = length-append part.requests (all_requests parts) in
    omega (arith, rest, own, whole)

pub lines_long : (parts : List ClientPart) (number : ℕ) (part : ClientPart) → slice_get parts number ≡ Some part → length (lines_of (map request_lines parts) number) ≡ length part.requests
lines_long parts number part is = ap length (lines_are parts number part is) ∙ length-map part.requests request_line

module _ (b : Basis) (basis : IsBasis b) where
  pub names_rise : Rises (against b).dir
  names_rise = let read = basis.read in let directory = read.directory in directory.rising

  pub short_64 : length b.updates.now < 2 ^ 64
  short_64 = let short = basis.short in omega arith

  module _ (number : ℕ) (within : number < length b.session.now.clients) where
    pub inside : number < length (against b).parts
    inside = let count = part_count b in omega arith

    pub lines_rise : Rise (lines_of (against b).parts number)
    lines_rise =
        let found = part_there b.session.now.clients number within in
        subst Rise (sym (lines_are b.session.now.clients number found.0 found.1)) (rising_lines b.session.now b.dir.now basis.read number found.0 found.1)
      where
        part_there : (parts : List ClientPart) (n : ℕ) → n < length parts → (part : ClientPart) × (slice_get parts n ≡ Some part)
        part_there [] n less = absurd (omega arith)
        part_there (part ∷ parts) zero less = (part, refl)
        part_there (part ∷ parts) (suc n) less = part_there parts n (omega arith)

    pub first_few : first_reply (against b) number + length (lines_of (against b).parts number) ≤ 200000
    first_few =
        let most = first_within (against b).parts number inside in
        let same = requests_are b.session.now.clients in
        let read = basis.read in
        let small = read.small in
        let few : length (all_requests b.session.now.clients) ≤ 200000 = small.requests in
        omega arith

    -- a client has few lines
    pub few_of_part : (part : ClientPart) → slice_get b.session.now.clients number ≡ Some part → length part.requests ≤ 200000
    few_of_part part is =
        let most = first_within (against b).parts number inside in
        let same = requests_are b.session.now.clients in
        let read = basis.read in
        let small = read.small in
        let few : length (all_requests b.session.now.clients) ≤ 200000 = small.requests in
        let own : length (lines_of (against b).parts number) ≡ length part.requests =
        ap length (lines_are b.session.now.clients number part is) ∙ length-map part.requests request_line in
        omega arith

    -- the place of the update of the client's line
    pub own_at : (n : ℕ) (asked : RequestLine) (d : List (Option ℕ)) → slice_get (lines_of (against b).parts number) n ≡ Some asked
        → IsOwnPlace (history_of b.updates.now number) asked.line (get_or (get_or b.own.now number d) n None)
    own_at n asked d is =
        let own = basis.own in
        let count = own.clients in
        let less = inside in
        let same : get_or b.own.now number [] ≡ get_or b.own.now number d = get_or_default b.own.now number [] d (omega arith) in
        subst (λ (table : List (Option ℕ)). IsOwnPlace (history_of b.updates.now number) asked.line (get_or table n None)) same (own.each number n asked less is)

    module _ (client : Client) (come : HasComeOn b number client) (before : client.next < length (lines_of (against b).parts number)) where
      pub in_text : client.first + client.next < length (texts_in b)
      in_text = let first = come.first in let most = line_within (against b) (texts_in b) number basis.long inside client.next before in omega arith

      pub in_lines : client.first + client.next < length b.lines.now
      in_lines = let most = in_text in omega (arith, length-map b.lines.now (λ line. line.now))

      pub text_there_is : (d : Bor (List ℕ)) → text_at (reply_texts (against b) (texts_in b) number) client.next ≡ (get_or b.lines.now (client.first + client.next) d).now
      text_there_is d =
          text_is (against b) (texts_in b) number client.next before
          ∙ ap (λ (k : ℕ). text_at (texts_in b) (k + client.next)) (sym come.first)
          ∙ text_there b.lines.now (client.first + client.next) d in_lines

      -- and there are few lines
      pub few_lines : client.first + client.next < 200000
      few_lines =
          let first = come.first in
          let most = first_within (against b).parts number inside in
          let same = requests_are b.session.now.clients in
          let read = basis.read in
          let small = read.small in
          let few : length (all_requests b.session.now.clients) ≤ 200000 = small.requests in
          omega arith

      pub few_used : client.used < 2 ^ 63
      few_used =
          let found = line_there (lines_of (against b).parts number) client.next before in
          let used : client.used ≡ used_before b.updates.now number found.0 = come.used found.0 found.1 in
          let most : used_before b.updates.now number found.0 ≤ length b.updates.now = count_by-le-length (λ (u : Update). (u.client == number) && nat_lt u.line found.0.line) b.updates.now in
          let short = basis.short in
          omega arith
