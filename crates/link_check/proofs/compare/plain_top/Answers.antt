use Rattle.std.proofs.Common.{sym, subst}
use Rattle.index_words.specs.declared.side.Side.TheVariants.{Right}
use Rattle.update_search.specs.Outcomes.{KeepsPlaces}
use Rattle.update_search.proofs.Keeps.{link_places}
use Rattle.link_check.proofs.Visits.{can_lock_root, free_none, free_top, may_free, met_none, root_other}
use Rattle.link_check.proofs.compare.plain_top.Goals as goal

pub returns-then-not-try_lock-clause-unlocked : goal.returns-then-not-try_lock-clause-unlocked
returns-then-not-try_lock-clause-unlocked c =
    let p = c.args.pass.now in
    met_none c.search_laws.ensures p c.requires.unlocked 0 (can_lock_root p.view c.requires.unlocked) c.try_lock.new.self (c.try_lock.ensures.busy c.if-not-try_lock.true)

pub unlock-requires : goal.unlock-requires
unlock-requires c =
    let laws = c.search_laws.ensures in
    let p = c.args.pass.now in
    let q = c.try_lock.new.self in
    let x = c.load_link-top.new.self.view in
    let places = subst (KeepsPlaces q.view) (sym c.load_link-top.ensures.view) (link_places laws q.view 0 c.load_link-top.result Right) in
    let locks = c.try_lock.ensures.locked c.if-not-try_lock.false in
    record { may = may_free laws p c.requires.unlocked 0 (can_lock_root p.view c.requires.unlocked) q (root_other p.view c.facts.ensures) locks x places }

pub returns-clause-unlocked : goal.returns-clause-unlocked
returns-clause-unlocked c =
    let laws = c.search_laws.ensures in
    let p = c.args.pass.now in
    let q = c.try_lock.new.self in
    let x = c.load_link-top.new.self.view in
    let places = subst (KeepsPlaces q.view) (sym c.load_link-top.ensures.view) (link_places laws q.view 0 c.load_link-top.result Right) in
    let locks = c.try_lock.ensures.locked c.if-not-try_lock.false in
    free_none laws p c.requires.unlocked 0 (can_lock_root p.view c.requires.unlocked) q (root_other p.view c.facts.ensures) locks x places c.unlock.new.self.view
    c.unlock.ensures.view

pub returns-clause-top : goal.returns-clause-top
returns-clause-top c =
    let laws = c.search_laws.ensures in
    let p = c.args.pass.now in
    let q = c.try_lock.new.self in
    let x = c.load_link-top.new.self.view in
    let places = subst (KeepsPlaces q.view) (sym c.load_link-top.ensures.view) (link_places laws q.view 0 c.load_link-top.result Right) in
    let locks = c.try_lock.ensures.locked c.if-not-try_lock.false in
    free_top laws p c.requires.unlocked 0 (can_lock_root p.view c.requires.unlocked) q (root_other p.view c.facts.ensures) locks x places c.unlock.new.self.view
    c.unlock.ensures.view
