-- The tables before the first update.
use Rattle.std.proofs.Common.{◌≡◌, ℕ, zero, suc, List, [], ◌∷◌, length, map, get_or, replicate, Option, None, refl, sym, ◌∙◌, subst}
use Rattle.std.proofs.lemmas.List.{length-map, length-replicate}
use Rattle.std.proofs.lemmas.List.Elements.{All-nil}
use Rattle.key_map.specs.declared.update.Update.{Update}
use Rattle.bucket_terms.specs.LegalRun.{IsOf, lines_of}
use Rattle.request_lines.specs.declared.session.ClientPart.{ClientPart}
use Rattle.request_lines.specs.Session.{request_line, request_lines}
use Rattle.replay_check.specs.Turns.{IsOwnPlace}
use Rattle.replay_check.specs.Own.{AreOwn, history_of, entry_at}

abbrev pub no_updates : ClientPart → List (Option ℕ)
no_updates part = replicate (length part.requests) None

abbrev nothing : Option ℕ
nothing = None

none_at : (n place : ℕ) → get_or (replicate n nothing) place nothing ≡ nothing
none_at zero place = refl
none_at (suc n) zero = refl
none_at (suc n) (suc place) = none_at n place

entry_none : (parts : List ClientPart) (client place : ℕ) → entry_at (map no_updates parts) client place ≡ None
entry_none [] client place = refl
entry_none (part ∷ parts) zero place = none_at (length part.requests) place
entry_none (part ∷ parts) (suc client) place = entry_none parts client place

count_is : (parts : List ClientPart) (client : ℕ) → length (get_or (map no_updates parts) client []) ≡ length (lines_of (map request_lines parts) client)
count_is [] client = refl
count_is (part ∷ parts) zero = length-replicate (length part.requests) None ∙ sym (length-map part.requests request_line)
count_is (part ∷ parts) (suc client) = count_is parts client

pub starts : (parts : List ClientPart) (tables : List (List (Option ℕ))) → tables ≡ map no_updates parts → AreOwn (map request_lines parts) [] tables
starts parts tables is = subst (AreOwn (map request_lines parts) []) (sym is) (record {
  clients = length-map parts no_updates ∙ sym (length-map parts request_lines);
  count = λ client inside. count_is parts client;
  each = λ client place l inside there.
      subst (IsOwnPlace (history_of [] client) l.line) (sym (entry_none parts client place)) (All-nil (λ (u : Update). ¬ (IsOf (history_of [] client) l.line u)));
})
