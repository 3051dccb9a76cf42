use Rattle.std.proofs.Common.{◌≡◌, ℕ, zero, suc, ◌<◌, ◌≤◌, All, length, get_or, List, [], ◌∷◌, ap, subst, arith}
use Rattle.std.proofs.lemmas.List.{length-map}
use Rattle.std.proofs.lemmas.List.Elements.{All-nil, All-cons}
use Rattle.key_map.specs.declared.pass.PassSize.{PassSize}
use Rattle.bucket_terms.specs.PassView.{PassView}
use Rattle.bucket_terms.specs.PlainPass.{fresh}
use Rattle.bucket_terms.specs.LegalRun.{RequestLine, lines_of}
use Rattle.bucket_terms.specs.RunParts.{updates_in}
use Rattle.request_lines.specs.declared.session.ClientPart.{ClientPart}
use Rattle.request_lines.specs.declared.session.Session.{Session}
use Rattle.request_lines.specs.Session.{request_lines}
use Rattle.request_lines.specs.SessionLaws.{IsAskable, Rise}
use Rattle.table_rule.specs.Homes.{Home}
use Rattle.table_steps.specs.Passes.{Pass}
use Rattle.shared_index.specs.Keys.{IsKeyOf}
use Rattle.shared_index.specs.Shown.{shown}
use Rattle.client_threads.specs.Runs.{CanRun, CanRunEach, parts_of}
use Rattle.client_threads.specs.Sizes.{CanServe}
use Rattle.client_threads.proofs.Keys.{each_lines, none_seen}
use Rattle.serve_tests.proofs.others.found_over.Goals as goal

-- what holds of a list's one item holds of each
only : (P : ClientPart → Type 0) (clients : List ClientPart) (part : ClientPart) → length clients ≡ 1 → part ≡ get_or clients 0 part → P part → All P clients
only P [] part one is holds = absurd (omega (arith, one))
only P (p ∷ []) part one is holds = All-cons P p [] (subst P is holds) (All-nil P)
only P (p ∷ q ∷ ps) part one is holds = absurd (omega (arith, one))

-- a fresh key of a pass with enough calls is the one that a run of one client wants
can_run_one : (dir : List (List ℕ)) (session : Session) (part : ClientPart) (index : Home) (key : Pass) (size : PassSize) → CanServe dir session → IsKeyOf index key → shown key ≡ fresh 0 size
    → length session.clients ≡ 1 → part ≡ get_or session.clients 0 part → updates_in (request_lines part) ≤ size.calls → CanRunEach dir index (parts_of session.clients) (key ∷ [])
can_run_one dir session part index key size can of fresh_is one is few = record {
  one_each = omega (arith, one, length-map session.clients request_lines);
  each = at_start;
}
  where
    calls : All (λ (p : ClientPart). updates_in (request_lines p) ≤ size.calls) session.clients
    calls = only (λ (p : ClientPart). updates_in (request_lines p) ≤ size.calls) session.clients part one is few

    at_start : (c : ℕ) (d : Pass) → c < length (parts_of session.clients) → CanRun dir index c (lines_of (parts_of session.clients) c) (get_or (key ∷ []) c d)
    at_start zero d lt = record {
      of = of;
      number = ap (λ (p : PassView). p.number) fresh_is;
      askable = each_lines (All (IsAskable dir)) session.clients 0 lt can.askable;
      calls = omega (arith, ap (λ (p : PassView). p.left) fresh_is, each_lines (λ (ls : List RequestLine). updates_in ls ≤ size.calls) session.clients 0 lt calls);
      rising = each_lines Rise session.clients 0 lt can.rising;
      later = λ k e within. none_seen (shown key) (get_or (lines_of (parts_of session.clients) 0) k e).line (ap (λ (p : PassView). p.seen) fresh_is);
    }
    at_start (suc c) d lt = absurd (omega (arith, lt, one, length-map session.clients request_lines))

pub run_all-requires-clause-can : goal.run_all-requires-clause-can
run_all-requires-clause-can g c =
    let session = c.args.input.now.session.now in
    let part = c.part-item.result in
    let one : length session.clients ≡ 1 = omega (arith, ap length c.as_slice.ensures, c.in-len1.len_at_least, c.in-len1.len_below) in
    let is : part ≡ get_or session.clients 0 part = subst (λ (cs : List ClientPart). part ≡ get_or cs 0 part) c.as_slice.ensures c.part-item.is in
    let few : updates_in (request_lines part) ≤ c.args.size.calls = omega (arith, c.writes.ensures, c.if-writes-size.false) in
    rw (c.in_ok-push.ensures.items, c.new-keys.ensures.items)
    (can_run_one c.args.input.now.dir.now session part c.args.input.now.index.now c.args.key c.args.size c.requires.can c.requires.of c.requires.fresh one is few)
