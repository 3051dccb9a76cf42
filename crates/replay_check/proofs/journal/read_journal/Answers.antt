use Rattle.std.proofs.Common.{◌≡◌, ℕ, suc, ◌+◌, ◌<◌, List, [], ◌∷◌, ◌++◌, length, take, set, get_or, Some, None, refl, sym, ap, ◌∙◌, subst, arith}
use Rattle.std.specs.Borrow.{Bor}
use Rattle.std.proofs.lemmas.List.{length-map, length_push}
use Rattle.key_map.specs.declared.update.Update.{Update}
use Rattle.text_laws.specs.WrongLine.{AreJournal}
use Rattle.text_laws.specs.WrongParts.{IsWrongUpdate, text_at}
use Rattle.replay_check.specs.Own.{AreOwn}
use Rattle.replay_check.specs.Telling.{IsTold, IsNext, checked}
use Rattle.replay_check.specs.Looking.{texts_of}
use Rattle.replay_check.proofs.OwnPlaces.{entered}
use Rattle.replay_check.proofs.JournalLaws.{in_table, journal_more, one_number, next_there, no_line}
use Rattle.replay_check.proofs.journal.read_journal.Goals as goal

pub enter-requires-clause-client : goal.enter-requires-clause-client
enter-requires-clause-client c =
    let k = checked c.args.session.now c.args.dir.now None in
    let next : IsNext k c.loop-line.updates.items (text_at (texts_of c.args.lines.now) c.loop-line.line-index) (Some c.in-Some.field-0) =
    next_there k c.deref.result.now c.loop-line.updates.items c.args.lines.now c.loop-line.line-index no_line c.in_ok-update.field-0 (Some c.in-Some.field-0)
    c.deref.ensures.value (omega arith) c.in-Some.is (c.in_ok-update.ensures k (record { dir_is = refl; records_is = refl; parts_is = refl })) in
    let inside = next.0.client in
    let count = c.loop-line.invariant.own.clients in
    omega arith

pub enter-requires-clause-request : goal.enter-requires-clause-request
enter-requires-clause-request c =
    let k = checked c.args.session.now c.args.dir.now None in
    let next : IsNext k c.loop-line.updates.items (text_at (texts_of c.args.lines.now) c.loop-line.line-index) (Some c.in-Some.field-0) =
    next_there k c.deref.result.now c.loop-line.updates.items c.args.lines.now c.loop-line.line-index no_line c.in_ok-update.field-0 (Some c.in-Some.field-0)
    c.deref.ensures.value (omega arith) c.in-Some.is (c.in_ok-update.ensures k (record { dir_is = refl; records_is = refl; parts_is = refl })) in
    in_table k c.loop-line.updates.items c.loop-line.own.items c.loop-line.invariant.own [] c.in-Some.field-0 next.0

pub returns-in-None : goal.returns-in-None
returns-in-None c = λ k of.
    let i = c.loop-line.line-index in
    let texts = texts_of c.args.lines.now in
    let us = c.loop-line.updates.items in
    let place : c.len.result ≡ i = omega (arith, c.loop-line.updates.ok.0) in
    let long : length texts ≡ length c.args.lines.now = length-map c.args.lines.now (λ (line : Bor (List ℕ)). line.now) in
    let next : IsNext k us (text_at texts i) None =
    next_there k c.deref.result.now us c.args.lines.now i no_line c.in_ok-update.field-0 None c.deref.ensures.value (omega arith) c.in-None.is (c.in_ok-update.ensures k of) in
    let wrong : IsWrongUpdate k texts i = record { inside = omega arith; updates = us; right = c.loop-line.invariant.journal k of; here = next } in
    subst (IsWrongUpdate k texts) (sym place) wrong

pub loop-line-preserved : goal.loop-line-preserved
loop-line-preserved c =
    let i = c.loop-line.line-index in
    let texts = texts_of c.args.lines.now in
    let us = c.loop-line.updates.items in
    let told = c.in-Some.field-0 in
    let u = told.update in
    let tables = c.loop-line.own.items in
    let items : c.push.new.self.items ≡ us ++ u ∷ [] = c.in_ok-push-in-Some.ensures.items in
    let index : suc i ≡ i + 1 = omega arith in
    let more = length_push us u in
    let long : length c.push.new.self.items ≡ length (us ++ u ∷ []) = ap length items in
    let count : length us ≡ i = c.loop-line.invariant.count in
    let inside : i < length texts = omega (arith, length-map c.args.lines.now (λ (line : Bor (List ℕ)). line.now)) in
    let place : c.len-place.result ≡ length us + 1 = omega (arith, c.push.new.self.ok.0) in
    let k = checked c.args.session.now c.args.dir.now None in
    let next : IsNext k us (text_at texts i) (Some told) =
    next_there k c.deref.result.now us c.args.lines.now i no_line c.in_ok-update.field-0 (Some told) c.deref.ensures.value (omega arith) c.in-Some.is
    (c.in_ok-update.ensures k (record { dir_is = refl; records_is = refl; parts_is = refl })) in
    let is : IsTold k told = next.0 in
    let own : AreOwn k.parts (us ++ u ∷ []) (set tables u.client (set (get_or tables u.client []) told.request (Some (length us + 1)))) =
    entered k.parts us tables c.loop-line.invariant.own (λ client a b l m first second same. one_number c.args.session.now.clients c.requires.lines.rising client a b l m first second same)
    u u.client told.request is.asked is.client is.asked_is refl (sym is.makes.0) in
    let tables_is : c.enter.new.tables.items ≡ set tables u.client (set (get_or tables u.client []) told.request (Some (length us + 1))) =
    c.enter.ensures ∙ ap (λ (n : ℕ). set tables u.client (set (get_or tables u.client []) told.request (Some n))) place in
    record {
      journal = λ j of.
          let here : IsNext j us (text_at texts i) (Some told) =
          next_there j c.deref.result.now us c.args.lines.now i no_line c.in_ok-update.field-0 (Some told) c.deref.ensures.value (omega arith) c.in-Some.is (c.in_ok-update.ensures j of) in
          subst (λ (n : ℕ). AreJournal j [] (take n texts) c.push.new.self.items) index
          (subst (AreJournal j [] (take (suc i) texts)) (sym items)
          (journal_more j [] i texts us u inside (c.loop-line.invariant.journal j of) here.1));
      count = omega arith;
      own = subst (AreOwn k.parts c.push.new.self.items) (sym tables_is) (subst (λ (vs : List Update). AreOwn k.parts vs (set tables u.client (set (get_or tables u.client []) told.request (Some (length us + 1))))) (sym items) own);
    }
