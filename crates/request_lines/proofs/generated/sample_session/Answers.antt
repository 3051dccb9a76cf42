use Rattle.std.proofs.Common.{◌≡◌, IfOk, length, ap, ◌∙◌, arith}
use Rattle.std.proofs.lemmas.Result.{IfOk-weaker}
use Rattle.request_lines.specs.SampleSession.{sample_clients_names}
use Rattle.request_lines.specs.declared.session.Session.{Session}
use Rattle.request_lines.specs.SessionLaws.{HasNames, HasRequests, HasLines, IsSmall}
use Rattle.request_lines.proofs.SampleParts.{clients_records_count, clients_names_few, sound_parts, text_read}
use Rattle.request_lines.proofs.Sound.{IsSoundSession}
use Rattle.request_lines.proofs.generated.sample_session.Goals as goal

pub client-requires-clause-puts : goal.client-requires-clause-puts
client-requires-clause-puts c = ap length c.loop-client.invariant.records ∙ clients_records_count c.args.n c.loop-client.client (omega arith)

pub of-requires : goal.of-requires
of-requires c =
    let clients : c.loop-client.client ≡ 4 = omega arith in
    omega (arith, ap length (c.loop-client.invariant.names ∙ ap (sample_clients_names c.args.n) clients), clients_names_few c.args.n c.requires.most)

-- the session is the one that was kept
kept : (c : goal.After-drop-generated-2) → IfOk c.sorted.result (λ (s : Session). s ≡ record { clients = c.loop-client.parts.items; names = c.loop-client.generated.names; records = c.loop-client.generated.records.items })
kept c = IfOk-weaker c.sorted.result _ _ (λ s is. is ∙ c.of.ensures) c.sorted.ensures

-- what holds of the session
sound : (c : goal.After-drop-generated-2) → IfOk c.sorted.result IsSoundSession
sound c =
    let clients : c.loop-client.client ≡ 4 = omega arith in
    let same = c.loop-client.invariant in
    sound_parts c.args.n c.loop-client.client c.sorted.result c.loop-client.parts.items c.loop-client.generated.names c.loop-client.generated.records.items c.requires.most clients
    (IfOk-weaker c.sorted.result _ _ (λ s is. ap (λ (x : Session). x.clients) is) (kept c)) same.parts
    (IfOk-weaker c.sorted.result _ _ (λ s is. ap (λ (x : Session). x.names) is) (kept c)) same.names
    (IfOk-weaker c.sorted.result _ _ (λ s is. ap (λ (x : Session). x.records) is) (kept c)) same.records

pub returns-clause-of_text : goal.returns-clause-of_text
returns-clause-of_text c = text_read c.args.n c.sorted.result c.requires.most

pub returns-clause-names : goal.returns-clause-names
returns-clause-names c = IfOk-weaker _ IsSoundSession HasNames (λ s holds. holds.names) (sound c)

pub returns-clause-requests : goal.returns-clause-requests
returns-clause-requests c = IfOk-weaker _ IsSoundSession HasRequests (λ s holds. holds.requests) (sound c)

pub returns-clause-lines : goal.returns-clause-lines
returns-clause-lines c = IfOk-weaker _ IsSoundSession HasLines (λ s holds. holds.lines) (sound c)

pub returns-clause-small : goal.returns-clause-small
returns-clause-small c = IfOk-weaker _ IsSoundSession IsSmall (λ s holds. holds.small) (sound c)
