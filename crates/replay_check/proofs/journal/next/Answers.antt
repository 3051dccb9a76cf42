use Rattle.std.proofs.Common.{◌≡◌, ℕ, ◌+◌, ◌<◌, ◌^◌, true, List, length, is_none, None, refl, sym, ◌∙◌, subst, arith}
use Rattle.std.proofs.lemmas.Option.{same_Some}
use Rattle.key_map.specs.declared.update.Update.{Update}
use Rattle.bucket_terms.specs.LegalRun.{RequestLine}
use Rattle.answer_text.specs.Lines.{line_of, journal_data}
use Rattle.text_laws.specs.WrongLine.{IsJournalLine}
use Rattle.replay_check.specs.Own.{AreOwn, entry_at}
use Rattle.replay_check.specs.Telling.{IsTold, checked}
use Rattle.replay_check.proofs.JournalLaws.{in_table, is_line, is_used, key_below}
use Rattle.replay_check.proofs.journal.next.Goals as goal
use Rattle.replay_check.proofs.journal.next.Goals.{else-is_new-via-then-is_new+in_ok-tells+else-branch, else-is_new-via-else-is_new}

pub is_new-requires-clause-client : goal.is_new-requires-clause-client
is_new-requires-clause-client c =
    let k = checked c.args.session.now c.args.dir.now None in
    let told : IsTold k c.in-Some.told = c.in-Some.ensures.sound k (record { dir_is = refl; records_is = refl; parts_is = refl }) in
    let count = c.requires.own.clients in
    let inside = told.client in
    omega arith

pub is_new-requires-clause-request : goal.is_new-requires-clause-request
is_new-requires-clause-request c =
    let k = checked c.args.session.now c.args.dir.now None in
    in_table k c.args.updates.now c.args.own.now c.requires.own c.args.text.now c.in-Some.told
    (c.in-Some.ensures.sound k (record { dir_is = refl; records_is = refl; parts_is = refl }))

pub tells-requires : goal.tells-requires
tells-requires c =
    let k = checked c.args.session.now c.args.dir.now None in
    let told : IsTold k c.in-Some.told = c.in-Some.ensures.sound k (record { dir_is = refl; records_is = refl; parts_is = refl }) in
    key_below c.args.dir.now c.in-Some.told.update told.asked.request told.makes.1

pub returns-then-branch : goal.returns-then-branch
returns-then-branch c = λ k of.
    let us = c.args.updates.now in
    let own = c.args.own.now in
    let text = c.args.text.now in
    let told = c.in-Some.told in
    let is : IsTold k told = c.in-Some.ensures.sound k of in
    let are : AreOwn k.parts us own = subst (λ (parts : List (List RequestLine)). AreOwn parts us own) (sym of.parts_is) c.requires.own in
    let new : is_none (entry_at own told.update.client told.request) ≡ true = sym c.is_new.ensures ∙ c.if-is_new.true in
    let text_is : text ≡ line_of (journal_data k.dir (length us + 1) told.update) =
    subst (λ (d : List (List ℕ)). text ≡ line_of (journal_data d (length us + 1) told.update)) (sym of.dir_is) (c.in_ok-tells.ensures.yes c.if-branch.true) in
    (is, is_line k us own are text told is new text_is)

pub returns-else-is_new : goal.returns-else-is_new
returns-else-is_new c = λ k of u line.
    let us = c.args.updates.now in
    let own = c.args.own.now in
    let text = c.args.text.now in
    let told = c.in-Some.told in
    let is : IsTold k told = c.in-Some.ensures.sound k of in
    let are : AreOwn k.parts us own = subst (λ (parts : List (List RequestLine)). AreOwn parts us own) (sym of.parts_is) c.requires.own in
    let small : length us + 1 < 2 ^ 64 = omega arith in
    let text_is : text ≡ line_of (journal_data c.args.dir.now (length us + 1) u) =
    subst (λ (d : List (List ℕ)). text ≡ line_of (journal_data d (length us + 1) u)) of.dir_is line.text_is in
    let same : told.update ≡ u = same_Some told.update u (c.in-Some.ensures.complete k (length us + 1) u of small line.client line.made text_is) in
    let here : IsJournalLine k us text told.update = subst (IsJournalLine k us text) (sym same) line in
    elim c.else-is_new.branch [
      | else-is_new-via-then-is_new+in_ok-tells+else-branch w ↦
          w.in_ok-tells.ensures.no w.if-branch.false (subst (λ (v : Update). text ≡ line_of (journal_data c.args.dir.now (length us + 1) v)) (sym same) text_is)
      | else-is_new-via-else-is_new w ↦ is_used k us own are text told is (sym c.is_new.ensures ∙ w.if-is_new.false) here
    ]
