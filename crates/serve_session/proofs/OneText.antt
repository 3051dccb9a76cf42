-- The text of an input of one client is determined, and so is the refusal of an input.
use Rattle.std.proofs.Common.{◌≡◌, ℕ, List, [], ◌∷◌, ◌++◌, length, inl, inr, sym, ap, ◌∙◌, subst, arith, Some, None}
use Rattle.std.proofs.lemmas.Option.{same_Some}
use Rattle.bucket_terms.specs.LegalRun.{Run, IsLegal, slots_of}
use Rattle.request_lines.specs.declared.session.ClientPart.{ClientPart}
use Rattle.request_lines.specs.declared.session.Session.{Session}
use Rattle.request_lines.specs.Input.{IsSessionOf, refusal_of}
use Rattle.key_names.specs.Names.{HoldsEachOnce}
use Rattle.answer_text.specs.Lines.{session_text}
use Rattle.run_laws.proofs.OneRun.{one_run}
use Rattle.run_laws.proofs.Determined.{one_session, no_session, one_directory}
use Rattle.serve_session.specs.Served.{client_lines}
use Rattle.serve_session.specs.Taken.{HoldsOfSession}
use Rattle.serve_session.specs.OneText.{OneTextLaw, OneRefusalLaw, RefusedOrServedLaw, RunnersRunLaw}

-- the run of one client is the only one
same_run : (dir : List (List ℕ)) (names : List (List ℕ)) (clients : List ClientPart) (a b : Run) → length clients ≡ 1 → HoldsEachOnce names dir
    → IsLegal dir (client_lines clients) (slots_of (client_lines clients)) a → IsLegal dir (client_lines clients) (slots_of (client_lines clients)) b → a ≡ b
same_run dir names [] a b one holds of_a of_b = absurd (omega arith)
same_run dir names (part ∷ []) a b one holds of_a of_b =
    one_run dir _ (slots_of (client_lines (part ∷ []))) a b holds.rising (omega arith) of_a of_b
same_run dir names (part ∷ next ∷ more) a b one holds of_a of_b = absurd (omega arith)

-- and so is its text
same_text : (session : Session) (P Q : Run → List ℕ → Type 0) → length session.clients ≡ 1 → (f : HoldsOfSession None session P) → (g : HoldsOfSession None session Q)
    → session_text f.dir session.records f.holds.run ≡ session_text g.dir session.records g.holds.run
same_text session P Q one f g =
    let dirs : f.dir ≡ g.dir = one_directory session.names f.dir g.dir f.names g.names in
    let legal = subst (λ (d : List (List ℕ)). IsLegal d (client_lines session.clients) (slots_of (client_lines session.clients)) f.holds.run) dirs f.holds.legal in
    ap (λ (d : List (List ℕ)). session_text d session.records f.holds.run) dirs
    ∙ ap (session_text g.dir session.records) (same_run g.dir session.names session.clients f.holds.run g.holds.run one g.names legal g.holds.legal)

pub text_law : OneTextLaw
text_law input taken x y after after' first second one =
    let of_first : IsSessionOf input first.session = subst (λ (bytes : List ℕ). IsSessionOf bytes first.session) first.has_read.all.0 first.of_input in
    let of_second : IsSessionOf input second.session = subst (λ (bytes : List ℕ). IsSessionOf bytes second.session) second.has_read.all.0 second.of_input in
    let same = one_session input second.session first.session of_second of_first in
    let other = subst (λ (s : Session). HoldsOfSession None s (λ _ text. y ≡ taken ++ text)) same second.text in
    first.text.holds.holds
    ∙ ap (λ (text : List ℕ). taken ++ text) (same_text first.session _ _ one first.text other)
    ∙ sym other.holds.holds

pub refusal_law : OneRefusalLaw
refusal_law refusal input after after' e f first second =
    let of_first : refusal input ≡ Some e = ap refusal (sym first.has_read.all.0) ∙ first.is in
    let of_second : refusal input ≡ Some f = ap refusal (sym second.has_read.all.0) ∙ second.is in
    same_Some e f (sym of_first ∙ of_second)

pub or_served_law : RefusedOrServedLaw
or_served_law named input after after' e refused served =
    let of_first : refusal_of input ≡ Some e = ap refusal_of (sym refused.has_read.all.0) ∙ refused.is in
    let of_input : IsSessionOf input served.session = subst (λ (bytes : List ℕ). IsSessionOf bytes served.session) served.has_read.all.0 served.of_input in
    no_session input served.session e of_input of_first

pub runners_run_law : RunnersRunLaw
runners_run_law old new replied run (inl none) some = absurd (some none)
runners_run_law old new replied run (inr both) some = (both.1, both.0)
