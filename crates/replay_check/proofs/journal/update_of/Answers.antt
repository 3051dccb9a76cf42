use Rattle.std.proofs.Common.{◌≡◌, ℕ, ◌≤◌, Any, List, Some, length, sym, ap, ◌∙◌, subst, arith}
use Rattle.std.specs.List.{slice_get}
use Rattle.std.proofs.lemmas.Option.{same_Some, none-some}
use Rattle.bucket_terms.specs.LegalRun.{RequestLine, lines_of}
use Rattle.request_lines.specs.Session.{request_lines}
use Rattle.text_laws.specs.WrongParts.{Makes}
use Rattle.replay_check.proofs.ClientLines.{told_is}
use Rattle.replay_check.proofs.JournalTexts.{journal_begins, journal_ends}
use Rattle.replay_check.proofs.SessionLines.{found_there, askable_lines, rising_lines, lines_of_part, client_count, small_client, small_line}
use Rattle.replay_check.proofs.journal.update_of.Goals as goal

pub returns-in_err-client-clause-complete : goal.returns-in_err-client-clause-complete
returns-in_err-client-clause-complete c = λ k at u of small inside made is.
    let begins = journal_begins c.args.dir.now at u c.args.text.now is in
    absurd (none-some u.client (c.in_err-client.ensures at u.client begins.0 small (small_client c.args.session.now c.args.dir.now c.requires k of u.client inside) begins.1))

pub returns-in_err-line-clause-complete : goal.returns-in_err-line-clause-complete
returns-in_err-line-clause-complete c = λ k at u of small inside made is.
    let ends = journal_ends c.args.dir.now at u c.args.text.now is in
    absurd (none-some u.line (c.in_err-line.ensures ends.0 u.line u.change (small_line c.args.session.now c.args.dir.now c.requires k of u inside made) ends.1))

pub returns-in_err-part-clause-complete : goal.returns-in_err-part-clause-complete
returns-in_err-part-clause-complete c = λ k at u of small inside made is.
    let begins = journal_begins c.args.dir.now at u c.args.text.now is in
    let client : c.in_ok-client.client ≡ u.client =
    same_Some _ _ (c.in_ok-client.ensures at u.client begins.0 small (small_client c.args.session.now c.args.dir.now c.requires k of u.client inside) begins.1) in
    let past : length c.as_slice.result.now ≤ c.in_ok-client.client = c.in_err-part.ensures.lookup.3 in
    let count = client_count c.args.session.now c.args.dir.now c.requires k of in
    let same : length c.as_slice.result.now ≡ length c.args.session.now.clients = ap length c.as_slice.ensures in
    absurd (omega arith)

pub update_in-requires-clause-known : goal.update_in-requires-clause-known
update_in-requires-clause-known c =
    let part = c.in_ok-part.part.now in
    let there : slice_get c.args.session.now.clients c.in_ok-client.client ≡ Some part =
    found_there c.as_slice.result.now c.args.session.now.clients c.in_ok-client.client part c.as_slice.ensures c.in_ok-part.ensures.lookup.3 in
    askable_lines c.args.session.now c.args.dir.now c.requires c.in_ok-client.client part there

pub returns-clause-complete : goal.returns-clause-complete
returns-clause-complete c = λ k at u of small inside made is.
    let session = c.args.session.now in
    let dir = c.args.dir.now in
    let part = c.in_ok-part.part.now in
    let begins = journal_begins dir at u c.args.text.now is in
    let ends = journal_ends dir at u c.args.text.now is in
    let client : c.in_ok-client.client ≡ u.client =
    same_Some _ _ (c.in_ok-client.ensures at u.client begins.0 small (small_client session dir c.requires k of u.client inside) begins.1) in
    let line : c.in_ok-line.line ≡ u.line = same_Some _ _ (c.in_ok-line.ensures ends.0 u.line u.change (small_line session dir c.requires k of u inside made) ends.1) in
    let there : slice_get session.clients c.in_ok-client.client ≡ Some part =
    found_there c.as_slice.result.now session.clients c.in_ok-client.client part c.as_slice.ensures c.in_ok-part.ensures.lookup.3 in
    let lines : lines_of k.parts u.client ≡ request_lines part = ap (lines_of k.parts) (sym client) ∙ lines_of_part session dir c.requires k of c.in_ok-client.client part there in
    let makes : Any (Makes dir u) (request_lines part) =
    subst (λ (ls : List RequestLine). Any (Makes dir u) ls) lines (subst (λ (d : List (List ℕ)). Any (Makes d u) (lines_of k.parts u.client)) of.dir_is made) in
    told_is dir (request_lines part) c.in_ok-client.client c.in_ok-line.line c.update_in.result u c.requires.directory.rising
    (rising_lines session dir c.requires c.in_ok-client.client part there) (sym client) (sym line) makes c.update_in.ensures
