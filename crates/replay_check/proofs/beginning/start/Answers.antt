use Rattle.std.proofs.Common.{◌≡◌, None, refl, sym, ap, ◌∙◌, arith}
use Rattle.std.specs.Option.{unwrap_or}
use Rattle.bucket_terms.specs.RunParts.{default_slots}
use Rattle.replay_check.specs.Looking.{against, texts_in}
use Rattle.replay_check.proofs.BasisLaws.{there, short_64, few_of_part, inside, lines_rise}
use Rattle.replay_check.proofs.NextLines.{come_first}
use Rattle.replay_check.proofs.SessionLines.{lines_are}
use Rattle.replay_check.proofs.beginning.start.Goals as goal

pub slots_of-slots-requires : goal.slots_of-slots-requires
slots_of-slots-requires c =
    let part = there c.args.basis.now.session.now.clients c.as_slice.result.now c.args.number c.index-as_slice-number.result c.as_slice.ensures c.requires.within c.index-as_slice-number.is in
    let few = few_of_part c.args.basis.now c.requires.basis c.args.number c.requires.within c.index-as_slice-number.result part in
    omega arith

pub returns : goal.returns
returns c =
    let b = c.args.basis.now in
    let part = there b.session.now.clients c.as_slice.result.now c.args.number c.index-as_slice-number.result c.as_slice.ensures c.requires.within c.index-as_slice-number.is in
    let slots : c.slots_of-slots.result ≡ (against b).slots c.args.number =
    c.slots_of-slots.ensures ∙ ap (λ ls. unwrap_or b.slots (default_slots ls)) (sym (lines_are b.session.now.clients c.args.number c.index-as_slice-number.result part)) in
    record {
      come = come_first (against b) b.updates.now (texts_in b) c.args.number (short_64 b c.requires.basis) c.requires.basis.made (lines_rise b c.requires.basis c.args.number c.requires.within)
          c.requires.basis.long (inside b c.requires.basis c.args.number c.requires.within)
          (record { slots = c.slots_of-slots.result; first = c.args.first; next = 0; due = c.due_at-due.result; seen = 0; used = 0; last = None })
          c.requires.first slots refl refl refl refl c.due_at-due.ensures.due;
      later = λ less. omega arith;
    }
