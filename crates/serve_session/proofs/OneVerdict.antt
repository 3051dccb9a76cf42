-- The verdict on the text of an input is determined.
use Rattle.std.proofs.Common.{◌≡◌, ℕ, List, Option, Some, refl, sym, ap, ◌∙◌, subst}
use Rattle.std.proofs.lemmas.Option.{same_Some}
use Rattle.run_laws.proofs.Determined.{one_session, one_directory}
use Rattle.request_lines.specs.declared.session.Session.{Session}
use Rattle.request_lines.specs.declared.session_error.InputError.{InputError}
use Rattle.request_lines.specs.CheckInput.{IsCheckInput, check_refusal, session_part}
use Rattle.replay_check.specs.declared.verdict.Verdict.{Verdict}
use Rattle.replay_check.specs.declared.verdict.Verdict.TheVariants.{Legal, Wrong}
use Rattle.serve_session.specs.Served.{IsVerdictOn}
use Rattle.serve_session.specs.Taken.{IsVerdictOf}
use Rattle.serve_session.specs.OneText.{OneVerdictLaw, RefusedOrCheckedLaw}

same_verdict : (named : Option ℕ) (dir : List (List ℕ)) (session : Session) (text : List ℕ) (v w : Verdict) → IsVerdictOn named dir session text v → IsVerdictOn named dir session text w → v ≡ w
same_verdict named dir session text Legal w first second = sym (second.legal.1 (first.legal.0 refl))
same_verdict named dir session text (Wrong line) w first second = sym ((second.wrong line).1 ((first.wrong line).0 refl))

one_of_session : (named : Option ℕ) (session : Session) (text : List ℕ) (v w : Verdict) → IsVerdictOf named session text v → IsVerdictOf named session text w → v ≡ w
one_of_session named session text v w first second =
    let dirs : first.dir ≡ second.dir = one_directory session.names first.dir second.dir first.names second.names in
    same_verdict named first.dir session text v w first.holds (subst (λ (dir : List (List ℕ)). IsVerdictOn named dir session text w) (sym dirs) second.holds)

pub verdict_law : OneVerdictLaw
verdict_law named input after after' v w first second =
    let of_first : IsCheckInput input first.session first.text = subst (λ (bytes : List ℕ). IsCheckInput bytes first.session first.text) first.has_read.all.0 first.of_input in
    let of_second : IsCheckInput input second.session second.text = subst (λ (bytes : List ℕ). IsCheckInput bytes second.session second.text) second.has_read.all.0 second.of_input in
    let sessions = one_session (session_part input) second.session first.session of_second.of_part of_first.of_part in
    let texts : second.text ≡ first.text = same_Some second.text first.text (sym of_second.text_is ∙ of_first.text_is) in
    let in_session = subst (λ (s : Session). IsVerdictOf named s second.text w) sessions second.is in
    one_of_session named first.session first.text v w first.is (subst (λ (t : List ℕ). IsVerdictOf named first.session t w) texts in_session)

no_refusal : (input : List ℕ) (session : Session) (text : List ℕ) (e : InputError) → IsCheckInput input session text → check_refusal input ≡ Some e → ⊥
unfolding check_refusal
no_refusal input session text e of_input refused =
    let none = of_input.of_part.faultless in
    let behind = of_input.text_is in
    let is = rw (none, behind) at refused in
    absurd cc

pub or_checked_law : RefusedOrCheckedLaw
or_checked_law named input after after' e v refused checked =
    let of_first : check_refusal input ≡ Some e = ap check_refusal (sym refused.has_read.all.0) ∙ refused.is in
    let of_input : IsCheckInput input checked.session checked.text = subst (λ (bytes : List ℕ). IsCheckInput bytes checked.session checked.text) checked.has_read.all.0 checked.of_input in
    no_refusal input checked.session checked.text e of_input of_first
