use Rattle.std.proofs.Common.{◌≡◌, ◌∙◌, ◌∷◌, false, ap, sym, subst, Some}
use Rattle.index_words.specs.declared.view.View.{View}
use Rattle.index_words.specs.declared.view.reading.Link.{Link as ViewLink}
use Rattle.index_words.specs.declared.view.reading.Reading.{Reading}
use Rattle.index_words.specs.Views.{no_looks}
use Rattle.key_map.specs.Lists.{Every}
use Rattle.core_events.specs.Announcing.{announced_view}
use Rattle.core_events.specs.Searches.{is_plain}
use Rattle.core_grace.specs.Sections.{left_word}
use Rattle.plan_laws.specs.Parting.{IsParted, kept_locks}
use Rattle.plan_laws.specs.PlainLinks.{HasNotSearched}
use Rattle.plan_laws.proofs.Frames.{keeps_owned}
use Rattle.plan_laws.proofs.Parting.{start_parting, link_copy, load_far_tag, leave_parted}
use Rattle.table_steps.proofs.There.{locked_high}
use Rattle.table_steps.proofs.Views.{live_seat}
use Rattle.update_try.specs.Parting.{HasParted}
use Rattle.update_try.proofs.FarSteps.{to_mark, to_copy, to_tag, to_unlock, to_wait, to_parted, unlocks_first, unlocks_second, link-keeps, tag-keeps, unlock-keeps, left-keeps, announced-keeps}
use Rattle.update_try.proofs.Finals.{marked_keeps}
use Rattle.update_try.proofs.parting.part.Goals as goal

pub mark-requires : goal.mark-requires
mark-requires c =
    let v = c.args.pass.now in
    record { may = (start_parting v.view v.number c.args.plan.now c.args.slots.now c.requires.numbered c.requires.far c.requires.node).may }

pub set_link-requires : goal.set_link-requires
set_link-requires c =
    let v = c.args.pass.now in
    let p = c.args.plan.now in
    let slots = c.args.slots.now in
    let a = c.mark.new.self.view in
    record { may = (link_copy a v.number p slots.node (to_mark v.view a v.number p slots c.requires.numbered c.requires.far c.requires.node c.mark.ensures.view)).may }

-- the stages of the first half, from the marks on
pub load_tag-tag-requires : goal.load_tag-tag-requires
load_tag-tag-requires c =
    let v = c.args.pass.now in
    let p = c.args.plan.now in
    let slots = c.args.slots.now in
    let a = c.mark.new.self.view in
    let b = c.set_link.new.self.view in
    let loads = load_far_tag b v.number p (to_copy a b v.number p slots.node (to_mark v.view a v.number p slots c.requires.numbered c.requires.far c.requires.node c.mark.ensures.view) c.set_link.ensures.view) in
    record { may = loads.may (locked_high b c.facts.ensures p.next.at.node loads.locked) }

pub unlock-requires : goal.unlock-requires
unlock-requires c =
    let v = c.args.pass.now in
    let n = v.number in
    let p = c.args.plan.now in
    let slots = c.args.slots.now in
    let a = c.mark.new.self.view in
    let b = c.set_link.new.self.view in
    let t = c.load_tag-tag.new.self.view in
    let tag = c.load_tag-tag.result in
    let marked = to_mark v.view a n p slots c.requires.numbered c.requires.far c.requires.node c.mark.ensures.view in
    record { may = (unlocks_first t n p tag (to_tag b t n p tag (to_copy a b n p slots.node marked c.set_link.ensures.view) c.load_tag-tag.ensures.view)).may }

pub unlock-requires-2 : goal.unlock-requires-2
unlock-requires-2 c =
    let v = c.args.pass.now in
    let n = v.number in
    let p = c.args.plan.now in
    let slots = c.args.slots.now in
    let a = c.mark.new.self.view in
    let b = c.set_link.new.self.view in
    let t = c.load_tag-tag.new.self.view in
    let d = c.unlock.new.self.view in
    let tag = c.load_tag-tag.result in
    let marked = to_mark v.view a n p slots c.requires.numbered c.requires.far c.requires.node c.mark.ensures.view in
    let tagged = to_tag b t n p tag (to_copy a b n p slots.node marked c.set_link.ensures.view) c.load_tag-tag.ensures.view in
    record { may = (unlocks_second d n p tag (to_unlock t d n p tag p.at.node (p.node ∷ kept_locks p) (unlocks_first t n p tag tagged) c.unlock.ensures.view)).may }

pub leave_waiting-requires : goal.leave_waiting-requires
leave_waiting-requires c =
    let v = c.args.pass.now in
    let n = v.number in
    let p = c.args.plan.now in
    let slots = c.args.slots.now in
    let a = c.mark.new.self.view in
    let b = c.set_link.new.self.view in
    let t = c.load_tag-tag.new.self.view in
    let d = c.unlock.new.self.view in
    let e = c.unlock-2.new.self in
    let tag = c.load_tag-tag.result in
    let marked = to_mark v.view a n p slots c.requires.numbered c.requires.far c.requires.node c.mark.ensures.view in
    let tagged = to_tag b t n p tag (to_copy a b n p slots.node marked c.set_link.ensures.view) c.load_tag-tag.ensures.view in
    let first = to_unlock t d n p tag p.at.node (p.node ∷ kept_locks p) (unlocks_first t n p tag tagged) c.unlock.ensures.view in
    let second = to_unlock d e.view n p tag p.node (kept_locks p) (unlocks_second d n p tag first) c.unlock-2.ensures.view in
    let same = c.unlock-2.ensures.same.number ∙ c.unlock.ensures.same.number ∙ c.load_tag-tag.ensures.same.number ∙ c.set_link.ensures.same.number ∙ c.mark.ensures.same.number in
    record { may = (leave_parted e.view e.number p tag (subst (λ k. IsParted false e.view k p tag (kept_locks p)) (sym same) second)).may }

-- outside of the section the announcement may be taken back
pub announce-requires : goal.announce-requires
announce-requires c =
    let v = c.args.pass.now in
    let n = v.number in
    let p = c.args.plan.now in
    let slots = c.args.slots.now in
    let a = c.mark.new.self.view in
    let b = c.set_link.new.self.view in
    let t = c.load_tag-tag.new.self.view in
    let d = c.unlock.new.self.view in
    let e = c.unlock-2.new.self.view in
    let f = c.leave_waiting.new.self in
    let tag = c.load_tag-tag.result in
    let marked = to_mark v.view a n p slots c.requires.numbered c.requires.far c.requires.node c.mark.ensures.view in
    let tagged = to_tag b t n p tag (to_copy a b n p slots.node marked c.set_link.ensures.view) c.load_tag-tag.ensures.view in
    let first = to_unlock t d n p tag p.at.node (p.node ∷ kept_locks p) (unlocks_first t n p tag tagged) c.unlock.ensures.view in
    let second = to_unlock d e n p tag p.node (kept_locks p) (unlocks_second d n p tag first) c.unlock-2.ensures.view in
    let same = c.leave_waiting.ensures.same.number ∙ c.unlock-2.ensures.same.number ∙ c.unlock.ensures.same.number ∙ c.load_tag-tag.ensures.same.number ∙ c.set_link.ensures.same.number
    ∙ c.mark.ensures.same.number in
    let own = (to_wait e f.view n p tag second c.leave_waiting.ensures.view).parting.own in
    record { can = record { own = subst (λ k. f.view.number ≡ Some k) (sym same) own; even = c.leave_waiting.ensures.even } }

-- the first half is done
pub returns-clause-parted : goal.returns-clause-parted
returns-clause-parted c =
    let v = c.args.pass.now in
    let n = v.number in
    let p = c.args.plan.now in
    let slots = c.args.slots.now in
    let a = c.mark.new.self.view in
    let b = c.set_link.new.self.view in
    let t = c.load_tag-tag.new.self.view in
    let d = c.unlock.new.self.view in
    let e = c.unlock-2.new.self.view in
    let f = c.leave_waiting.new.self.view in
    let w = c.announce.new.self in
    let tag = c.load_tag-tag.result in
    let marked = to_mark v.view a n p slots c.requires.numbered c.requires.far c.requires.node c.mark.ensures.view in
    let tagged = to_tag b t n p tag (to_copy a b n p slots.node marked c.set_link.ensures.view) c.load_tag-tag.ensures.view in
    let first = to_unlock t d n p tag p.at.node (p.node ∷ kept_locks p) (unlocks_first t n p tag tagged) c.unlock.ensures.view in
    let second = to_unlock d e n p tag p.node (kept_locks p) (unlocks_second d n p tag first) c.unlock-2.ensures.view in
    let same = c.announce.ensures.same.number ∙ c.leave_waiting.ensures.same.number ∙ c.unlock-2.ensures.same.number ∙ c.unlock.ensures.same.number ∙ c.load_tag-tag.ensures.same.number
    ∙ c.set_link.ensures.same.number ∙ c.mark.ensures.same.number in
    subst (λ k. HasParted w.view k (record { plan = p; tag = tag })) (sym same)
    (to_parted f w.view n (record { plan = p; tag = tag }) (to_wait e f n p tag second c.leave_waiting.ensures.view) c.announce.ensures.view)

-- inside a section a view has no looks of a wait
pub returns-clause-looks : goal.returns-clause-looks
returns-clause-looks c =
    let v = c.args.pass.now in
    let n = v.number in
    let p = c.args.plan.now in
    let slots = c.args.slots.now in
    let a = c.mark.new.self.view in
    let b = c.set_link.new.self.view in
    let t = c.load_tag-tag.new.self.view in
    let d = c.unlock.new.self.view in
    let e = c.unlock-2.new.self.view in
    let tag = c.load_tag-tag.result in
    let marked = to_mark v.view a n p slots c.requires.numbered c.requires.far c.requires.node c.mark.ensures.view in
    let tagged = to_tag b t n p tag (to_copy a b n p slots.node marked c.set_link.ensures.view) c.load_tag-tag.ensures.view in
    let first = to_unlock t d n p tag p.at.node (p.node ∷ kept_locks p) (unlocks_first t n p tag tagged) c.unlock.ensures.view in
    let second = to_unlock d e n p tag p.node (kept_locks p) (unlocks_second d n p tag first) c.unlock-2.ensures.view in
    let none : e.update.waiting ≡ no_looks = (live_seat e c.facts-2.ensures).seat.section.waits second.parting.word in
    ap (λ (u : View). u.update.waiting) (c.announce.ensures.view ∙ ap (λ (u : View). announced_view u 0) c.leave_waiting.ensures.view) ∙ none

pub returns-clause-keeps : goal.returns-clause-keeps
returns-clause-keeps c =
    let p = c.args.plan.now in
    let v = c.args.pass.now.view in
    let a = c.mark.new.self.view in
    let b = c.set_link.new.self.view in
    let t = c.load_tag-tag.new.self.view in
    let d = c.unlock.new.self.view in
    let e = c.unlock-2.new.self.view in
    let f = c.leave_waiting.new.self.view in
    let w = c.announce.new.self.view in
    let before : b.reading ≡ v.reading = ap (λ (u : View). u.reading) c.set_link.ensures.view ∙ ap (λ (u : View). u.reading) c.mark.ensures.view in
    let none : HasNotSearched b = subst (λ (r : Reading). Every (λ (l : ViewLink). is_plain l.source ≡ false) r.links) (sym before) c.requires.numbered.unsearched in
    keeps_owned v a w (marked_keeps v a p.node c.mark.ensures.view)
    (keeps_owned a b w (link-keeps a b p.at.node p.at.side c.args.slots.now.node c.set_link.ensures.view)
    (keeps_owned b t w (tag-keeps b t p.next.at.node p.next.at.side c.load_tag-tag.result none c.load_tag-tag.ensures.view)
    (keeps_owned t d w (unlock-keeps t d p.at.node c.unlock.ensures.view)
    (keeps_owned d e w (unlock-keeps d e p.node c.unlock-2.ensures.view)
    (keeps_owned e f w (left-keeps e f (left_word e.section_word) c.leave_waiting.ensures.view) (announced-keeps f w 0 c.announce.ensures.view))))))
