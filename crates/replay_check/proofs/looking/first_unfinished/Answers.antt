use Rattle.std.proofs.Common.{◌≡◌, ℕ, ◌+◌, ◌<◌, ◌≤◌, length, Some, inl, inr, refl, sym, ap, ◌∙◌, subst, arith}
use Rattle.std.specs.List.{slice_get}
use Rattle.std.proofs.lemmas.Bool.{cases_lt}
use Rattle.std.proofs.lemmas.Option.{same_Some, slice_get_read}
use Rattle.std.proofs.lemmas.List.{length-map}
use Rattle.bucket_terms.specs.LegalRun.{lines_of}
use Rattle.request_lines.specs.declared.session.ClientPart.{ClientPart}
use Rattle.request_lines.specs.Session.{request_line}
use Rattle.replay_check.specs.declared.turns.Client.{Client}
use Rattle.replay_check.specs.Looking.{against, texts_in}
use Rattle.replay_check.proofs.BasisLaws.{there, few_lines, part_count}
use Rattle.replay_check.proofs.SessionLines.{lines_are}
use Rattle.replay_check.proofs.Unfinished.{none_wrong, here_wrong}
use Rattle.replay_check.proofs.looking.first_unfinished.Goals as goal
use Rattle.replay_check.proofs.looking.first_unfinished.Goals.{After-len}

-- the client, and how many lines it has
client_there : (c : After-len) → slice_get c.args.clients.now c.loop-number.number ≡ Some c.index-clients-number.result
client_there c = slice_get_read c.args.clients.now (length c.args.clients.now) c.loop-number.number c.index-clients-number.result refl (omega arith) c.index-clients-number.is

inside : (c : After-len) → c.loop-number.number < length c.args.basis.now.session.now.clients
inside c = let count = c.requires.ready.count in omega (arith, part_count c.args.basis.now)

lines : (c : After-len) → length (lines_of (against c.args.basis.now).parts c.loop-number.number) ≡ c.len.result
lines c =
    let part = there c.args.basis.now.session.now.clients c.as_slice.result.now c.loop-number.number c.index-as_slice-number.result c.as_slice.ensures (inside c) c.index-as_slice-number.is in
    ap length (lines_are c.args.basis.now.session.now.clients c.loop-number.number c.index-as_slice-number.result part)
    ∙ length-map c.index-as_slice-number.result.requests request_line
    ∙ ap (λ (p : ClientPart). length p.requests) c.index-as_slice-number.is ∙ sym c.len.ensures

pub overflow_add-result : goal.overflow_add-result
overflow_add-result c =
    let w = (goal.at.overflow_add-result c).After-len in
    let long = lines w in
    let few = few_lines c.args.basis.now c.requires.basis c.loop-number.number (inside w) c.index-clients-number.result
    (c.requires.ready.each c.loop-number.number c.index-clients-number.result (client_there w)).come (omega arith) in
    omega arith

pub returns-then-client-len : goal.returns-then-client-len
returns-then-client-len c =
    let w = (goal.at.returns-then-client-len c).After-len in
    let long = lines w in
    here_wrong (against c.args.basis.now) c.args.basis.now.updates.now (texts_in c.args.basis.now) c.args.clients.now c.requires.ready
    c.loop-number.number c.index-clients-number.result (client_there w) (omega arith) c.loop-number.invariant (omega arith)
    (c.index-clients-number.result.first + c.index-clients-number.result.next) refl

pub loop-number-preserved : goal.loop-number-preserved
loop-number-preserved c = λ k client less is.
    let w = (goal.at.loop-number-preserved c).After-len in
    let long = lines w in
    elim (cases_lt k c.loop-number.number) [
      | inl before ↦ c.loop-number.invariant k client before is
      | inr most ↦
          let same : k ≡ c.loop-number.number = omega arith in
          let one : c.index-clients-number.result ≡ client = same_Some c.index-clients-number.result client (sym (client_there w) ∙ ap (slice_get c.args.clients.now) (sym same) ∙ is) in
          let next : c.index-clients-number.result.next ≡ client.next = ap (λ (x : Client). x.next) one in
          let at : length (lines_of (against c.args.basis.now).parts k) ≡ length (lines_of (against c.args.basis.now).parts c.loop-number.number) =
          ap (λ (i : ℕ). length (lines_of (against c.args.basis.now).parts i)) same in
          omega arith
    ]

pub returns : goal.returns
returns c =
    let all : c.loop-number.number ≡ length c.args.clients.now = omega arith in
    none_wrong (against c.args.basis.now) c.args.basis.now.updates.now (texts_in c.args.basis.now) c.args.clients.now c.requires.ready
    (subst (λ (n : ℕ). (k : ℕ) (client : Client) → k < n → slice_get c.args.clients.now k ≡ Some client → length (lines_of (against c.args.basis.now).parts k) ≤ client.next) all c.loop-number.invariant)
