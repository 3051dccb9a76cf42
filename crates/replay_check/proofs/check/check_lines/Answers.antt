use Rattle.std.proofs.Common.{◌≡◌, ℕ, List, [], Option, inl, inr, refl, sym, subst, arith}
use Rattle.key_map.specs.declared.update.Update.{Update}
use Rattle.request_lines.specs.declared.session.Session.{Session}
use Rattle.text_laws.specs.WrongLine.{AreJournal, journal_texts}
use Rattle.text_laws.specs.WrongParts.{IsWrongUpdate}
use Rattle.replay_check.specs.declared.journal.Journal.TheVariants.{Right, Wrong as WrongPlace}
use Rattle.replay_check.specs.Own.{AreOwn}
use Rattle.replay_check.specs.Telling.{IsOfSession, IsJournalOf, checked}
use Rattle.replay_check.specs.Judging.{IsVerdict}
use Rattle.replay_check.specs.Looking.{texts_of}
use Rattle.replay_check.proofs.MadeUpdates.{few_before}
use Rattle.replay_check.proofs.Verdicts.{few_requests, journal_texts_are, long_text}
use Rattle.replay_check.proofs.check.check_lines.Goals as goal
use Rattle.replay_check.proofs.check.check_lines.Goals.{After-read_journal, In-Wrong}

pub wrong-requires : goal.wrong-requires
wrong-requires c =
    let few = few_requests c.args.session.now c.args.dir.now c.requires in
    let count = c.requests_in-asked.ensures in
    omega arith

-- the lines that were read are those of the journal
read_lines : (c : After-read_journal) → texts_of c.split_at-2.result.0.now ≡ journal_texts (checked c.args.session.now c.args.dir.now c.args.slots) (texts_of c.args.lines.now)
read_lines c =
    journal_texts_are (checked c.args.session.now c.args.dir.now c.args.slots) c.args.lines.now c.split_at-2.result.0.now c.split_at.result.1.now c.requests_in-asked.result
    c.requests_in-asked.ensures c.split_at.ensures.back c.split_at-2.ensures.front

of_session : (session : Session) (dir : List (List ℕ)) (slots : Option ℕ) → IsOfSession (checked session dir slots) session dir
of_session session dir slots = record { dir_is = refl; records_is = refl; parts_is = refl }

-- the wrong line of the journal
wrong_update : (c : In-Wrong) → IsWrongUpdate (checked c.args.session.now c.args.dir.now c.args.slots) (journal_texts (checked c.args.session.now c.args.dir.now c.args.slots) (texts_of c.args.lines.now)) c.in-Wrong.place
wrong_update c =
    let k = checked c.args.session.now c.args.dir.now c.args.slots in
    let lines = journal_texts_are k c.args.lines.now c.split_at-2.result.0.now c.split_at.result.1.now c.requests_in-asked.result
    c.requests_in-asked.ensures c.split_at.ensures.back c.split_at-2.ensures.front in
    let read : IsJournalOf k (texts_of c.split_at-2.result.0.now) (WrongPlace c.in-Wrong.place) =
    subst (IsJournalOf k (texts_of c.split_at-2.result.0.now)) c.in-Wrong.is (c.in_ok-place.ensures k (of_session c.args.session.now c.args.dir.now c.args.slots)) in
    subst (λ (ts : List (List ℕ)). IsWrongUpdate k ts c.in-Wrong.place) lines read

pub overflow_add-asked : goal.overflow_add-asked
overflow_add-asked c =
    let w = (goal.at.overflow_add-asked c).In-Wrong in
    let few = few_requests c.args.session.now c.args.dir.now c.requires in
    let count = c.requests_in-asked.ensures in
    let before = few_before _ _ c.in-Wrong.place (wrong_update w) in
    omega arith

pub wrong-requires-in-Wrong : goal.wrong-requires-in-Wrong
wrong-requires-in-Wrong c =
    let w = (goal.at.wrong-requires-in-Wrong c).In-Wrong in
    let few = few_requests c.args.session.now c.args.dir.now c.requires in
    let count = c.requests_in-asked.ensures in
    let before = few_before _ _ c.in-Wrong.place (wrong_update w) in
    omega arith

pub returns-in-Wrong : goal.returns-in-Wrong
returns-in-Wrong c =
    let k = checked c.args.session.now c.args.dir.now c.args.slots in
    let w = (goal.at.returns-in-Wrong c).In-Wrong in
    let count = c.requests_in-asked.ensures in
    subst (IsVerdict k (texts_of c.args.lines.now)) (sym c.wrong-in-Wrong.ensures)
    (inr (inl (record { long = long_text c.args.session.now c.args.dir.now c.args.slots c.args.lines.now c.requests_in-asked.result c.requests_in-asked.ensures c.if-lines-asked.false; place = c.in-Wrong.place; wrong = wrong_update w; line_is = omega arith })))

pub check_replies-requires : goal.check_replies-requires
check_replies-requires c =
    let k = checked c.args.session.now c.args.dir.now c.args.slots in
    let w = (goal.at.check_replies-requires c).After-read_journal in
    let read : IsJournalOf k (texts_of c.split_at-2.result.0.now) (Right c.in-Right.updates c.in-Right.own) =
    subst (IsJournalOf k (texts_of c.split_at-2.result.0.now)) c.in-Right.is (c.in_ok-place.ensures k (of_session c.args.session.now c.args.dir.now c.args.slots)) in
    let lines : AreJournal k [] (journal_texts k (texts_of c.args.lines.now)) c.in-Right.updates.items =
    subst (λ (ts : List (List ℕ)). AreJournal k [] ts c.in-Right.updates.items) (read_lines w) read.0 in
    record {
      read = c.requires;
      journal = subst (AreJournal k [] (journal_texts k (texts_of c.args.lines.now))) (sym c.as_slice-updates.ensures.value) lines;
      own = subst (λ (us : List Update). AreOwn k.parts us c.as_slice-own.result.now) (sym c.as_slice-updates.ensures.value)
          (subst (AreOwn k.parts c.in-Right.updates.items) (sym c.as_slice-own.ensures.value) read.1);
      long = long_text c.args.session.now c.args.dir.now c.args.slots c.args.lines.now c.requests_in-asked.result c.requests_in-asked.ensures c.if-lines-asked.false;
    }
