-- From the run of the clients to the run of the session and of the input, and the arguments.
use Rattle.std.proofs.Common.{◌≡◌, ℕ, ◌<◌, ◌≤◌, ◌==◌, length, map, List, [], ◌∷◌, Option, Bool, true, refl, sym, ap, ◌∙◌, subst, arith, nat_eq}
use Rattle.std.specs.List.{slice_index_or}
use Rattle.std.specs.Cmp.Lexicographic.{pointwise, bytes_decides}
use Rattle.std.proofs.lemmas.Bool.Decides.{nat_tests}
use Rattle.std.proofs.lemmas.Option.{slice_get_within}
use Rattle.key_names.specs.Names.{HoldsEachOnce}
use Rattle.key_map.specs.declared.update.Update.{Update}
use Rattle.bucket_terms.specs.declared.record.Record.{Record}
use Rattle.bucket_terms.specs.declared.reply.Placed.{Placed}
use Rattle.bucket_terms.specs.LegalRun.{IsLegal, Run, slots_under}
use Rattle.request_lines.specs.declared.session.ClientPart.{ClientPart}
use Rattle.request_lines.specs.declared.session.Session.{Session}
use Rattle.request_lines.specs.Session.{request_lines}
use Rattle.answer_text.specs.Lines.{line_of, session_text}
use Rattle.answer_text.specs.Shown.{last_data}
use Rattle.client_threads.specs.Clients.{RanEach}
use Rattle.serve_session.specs.Served.{HoldsOfInput, HoldsOfRun, client_lines}
use Rattle.serve_session.specs.Taken.{HoldsOfSession}
use Rattle.client_threads.proofs.Clients.{each_legal}

-- ---- the run of the session

-- what holds of a run of the session without its names holds of one of the session
pub run_holds : (named : Option ℕ) (session taken : Session) (dir : List (List ℕ)) (P : Run → List ℕ → Type 0) → taken ≡ record session { names = [] } → HoldsEachOnce session.names dir
    → HoldsOfRun named dir taken P → HoldsOfSession named session P
run_holds named session taken dir P is names holds = record {
  dir = dir;
  names = names;
  holds = with_names (subst (λ (s : Session). HoldsOfRun named dir s P) is holds);
}
  where
    with_names : HoldsOfRun named dir (record session { names = [] }) P → HoldsOfRun named dir session P
    with_names h = record { run = h.run; legal = h.legal; holds = h.holds }

-- a run of the clients, with the parts of what is written as a call was given them
pub written : (named : Option ℕ) (dir : List (List ℕ)) (session : Session) (given : List Record) (updates shown : List Update) (replies : List (List Placed)) (P : Run → List ℕ → Type 0)
    → given ≡ session.records → shown ≡ updates
    → RanEach dir (map request_lines session.clients) (slots_under named (map request_lines session.clients)) (record { updates = updates; replies = replies })
    → P (record { updates = shown; replies = replies }) (session_text dir given (record { updates = shown; replies = replies }))
    → HoldsOfRun named dir session P
written named dir session given updates shown replies P same_records same_updates ran holds =
    let run : Run = record { updates = shown; replies = replies } in
    let parts = map request_lines session.clients in
    record {
      run = run;
      legal =
          each_legal dir parts (slots_under named parts) run
          (subst (λ (us : List Update). RanEach dir parts (slots_under named parts) (record { updates = us; replies = replies })) (sym same_updates) ran);
      holds = subst (λ (rs : List Record). P run (session_text dir rs run)) same_records holds;
    }

no_client : (clients : List ClientPart) → (length clients == 0) ≡ true → clients ≡ []
no_client [] is = refl
no_client (p ∷ ps) is = absurd (grind (arith, nat_tests))

abbrev no_run : Run
no_run = record { updates = []; replies = [] }

legal_none : (named : Option ℕ) (dir : List (List ℕ)) → IsLegal dir [] (slots_under named []) no_run
legal_none named dir = record {
  clients = refl;
  answered = λ c lt. absurd (omega (arith, lt));
  made = λ i u is. let no : i < 0 = slice_get_within [] i u is in absurd (omega (arith, no));
}

pub none_holds : (named : Option ℕ) (session : Session) (dir : List (List ℕ)) (P : Run → List ℕ → Type 0) → (length session.clients == 0) ≡ true
    → HoldsEachOnce session.names dir → P no_run (line_of (last_data 0)) → HoldsOfSession named session P
none_holds named session dir P is names holds = record {
  dir = dir;
  names = names;
  holds = record {
    run = no_run;
    legal = subst (λ (clients : List ClientPart). IsLegal dir (client_lines clients) (slots_under named (client_lines clients)) no_run)
        (sym (no_client session.clients is)) (legal_none named dir);
    holds = holds;
  };
}

-- what holds of a run and its text, and more, holds of it
pub input_first : (named : Option ℕ) (before after : Option (List ℕ)) (P Q : Run → List ℕ → Type 0)
    → HoldsOfInput named before after (λ (run : Run) (text : List ℕ). P run text × Q run text) → HoldsOfInput named before after P
input_first named before after P Q both = record {
  input = both.input;
  session = both.session;
  has_read = both.has_read;
  of_input = both.of_input;
  text = record {
    dir = both.text.dir;
    names = both.text.names;
    holds = record { run = both.text.holds.run; legal = both.text.holds.legal; holds = both.text.holds.holds.0 };
  };
}

-- ---- the arguments

one_word : (words : List (List ℕ)) (word : List ℕ) → 1 ≤ length words → length words < 2 → word ≡ slice_index_or words 0 word → words ≡ word ∷ []
one_word [] word low high is = absurd (omega arith)
one_word (w ∷ []) word low high is = ap (λ (v : List ℕ). v ∷ []) (sym is)
one_word (w ∷ v ∷ vs) word low high is = absurd (omega arith)

pub run_word : (words : List (List ℕ)) (word run : List ℕ) (same : Bool) → 1 ≤ length words → length words < 2 → word ≡ slice_index_or words 0 word
    → same ≡ pointwise nat_eq word run → (same ≡ true → words ≡ run ∷ []) × (words ≡ run ∷ [] → same ≡ true)
run_word words word run same low high is by = (
  λ yes. one_word words word low high is ∙ ap (λ (v : List ℕ). v ∷ []) ((bytes_decides word run).0 (sym by ∙ yes)),
  λ all. by ∙ (bytes_decides word run).1 (is ∙ ap (λ (vs : List (List ℕ)). slice_index_or vs 0 word) all),
)
