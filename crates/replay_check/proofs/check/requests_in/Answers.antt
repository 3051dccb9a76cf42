use Rattle.std.proofs.Common.{◌≡◌, ℕ, ◌+◌, ◌≤◌, ◌<◌, suc, List, [], length, map, take, get_or, sym, ap, ◌∙◌, arith}
use Rattle.std.proofs.lemmas.List.{length-map, take-map, get_or-map}
use Rattle.request_lines.specs.declared.session.ClientPart.{ClientPart}
use Rattle.request_lines.specs.Session.{request_line, request_lines}
use Rattle.request_lines.specs.SessionLaws.{all_requests}
use Rattle.text_laws.specs.WrongLine.{requests_of}
use Rattle.bucket_terms.specs.LegalRun.{lines_of}
use Rattle.replay_check.proofs.BasisLaws.{requests_are}
use Rattle.text_laws.proofs.ReplyPlaces.{first_more, first_within}
use Rattle.replay_check.proofs.check.requests_in.Goals as goal
use Rattle.replay_check.proofs.check.requests_in.Goals.{After-len-count}

-- the first parts with one more
one_more : (parts : List ClientPart) (i : ℕ) (d : ClientPart) → i < length parts → requests_of (map request_lines (take (i + 1) parts)) ≡ requests_of (map request_lines (take i parts)) + length (get_or parts i d).requests
one_more parts i d inside =
    let count = length-map parts request_lines in
    let long : length (lines_of (map request_lines parts) i) ≡ length (get_or parts i d).requests =
    ap length (get_or-map request_lines parts i d [] inside) ∙ length-map (get_or parts i d).requests request_line in
    let step : i + 1 ≡ suc i = omega arith in
    ap (λ (n : ℕ). requests_of (map request_lines (take n parts))) step
    ∙ ap requests_of (sym (take-map request_lines (suc i) parts))
    ∙ first_more (map request_lines parts) i (omega arith)
    ∙ ap (λ (n : ℕ). requests_of (take i (map request_lines parts)) + n) long
    ∙ ap (λ ps. requests_of ps + length (get_or parts i d).requests) (take-map request_lines i parts)

few : (parts : List ClientPart) (i : ℕ) → i < length parts → requests_of (map request_lines (take i parts)) + length (lines_of (map request_lines parts) i) ≤ length (all_requests parts)
few parts i inside =
    let count = length-map parts request_lines in
    let most = first_within (map request_lines parts) i (omega arith) in
    let same = requests_are parts in
    let front : requests_of (take i (map request_lines parts)) ≡ requests_of (map request_lines (take i parts)) = ap requests_of (take-map request_lines i parts) in
    omega arith

-- how many requests the part has
len_is : (c : After-len-count) → c.len-count.result ≡ length (get_or c.as_slice-part-items.result.now c.loop-part.part-index c.part-item.result).requests
len_is c = c.len-count.ensures ∙ ap (λ (p : ClientPart). length p.requests) c.part-item.is

pub overflow_add-count : goal.overflow_add-count
overflow_add-count c =
    let parts = c.as_slice-part-items.result.now in
    let index = c.loop-part.part-index in
    let len = len_is (goal.at.overflow_add-count c).After-len-count in
    let most = few parts index (omega arith) in
    let long : length (lines_of (map request_lines parts) index) ≡ length (get_or parts index c.part-item.result).requests =
    ap length (get_or-map request_lines parts index c.part-item.result [] (omega arith)) ∙ length-map (get_or parts index c.part-item.result).requests request_line in
    let all : length (all_requests parts) ≡ length (all_requests c.args.session.now.clients) = ap (λ ps. length (all_requests ps)) c.as_slice-part-items.ensures in
    let read = c.requires in
    let small : length (all_requests c.args.session.now.clients) ≤ 200000 = read.requests in
    let so_far = c.loop-part.invariant in
    omega arith

pub loop-part-preserved : goal.loop-part-preserved
loop-part-preserved c =
    let parts = c.as_slice-part-items.result.now in
    let index = c.loop-part.part-index in
    let len = len_is (goal.at.loop-part-preserved c).After-len-count in
    let more = one_more parts index c.part-item.result (omega arith) in
    let so_far = c.loop-part.invariant in
    omega arith
