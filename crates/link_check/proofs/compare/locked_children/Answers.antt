use Rattle.std.proofs.Common.{[]}
use Rattle.index_words.specs.declared.side.Side.TheVariants.{Left, Right}
use Rattle.update_search.proofs.OddLocks.{locked_other}
use Rattle.link_check.proofs.Visits.{can_lock, free_none, free_on, link_on, mark_none, mark_on, may_free, may_link, met_none, stands_node, stands_some, unmarked_on}
use Rattle.link_check.proofs.compare.locked_children.Goals as goal

pub returns-then-not-try_lock-clause-unlocked : goal.returns-then-not-try_lock-clause-unlocked
returns-then-not-try_lock-clause-unlocked c =
    let p = c.args.pass.now in
    met_none c.search_laws.ensures p c.requires.unlocked c.args.node (can_lock p.view c.args.node c.requires.unlocked c.requires.stands) c.try_lock.new.self
    (c.try_lock.ensures.busy c.if-not-try_lock.true)

pub unlock-requires : goal.unlock-requires
unlock-requires c =
    let laws = c.search_laws.ensures in
    let p = c.args.pass.now in
    let bare = c.requires.unlocked in
    let node = c.args.node in
    let can = can_lock p.view node bare c.requires.stands in
    let q = c.try_lock.new.self in
    let locks = c.try_lock.ensures.locked c.if-not-try_lock.false in
    let other = locked_other laws p bare.0 [] bare.1 node (stands_node p.view node c.requires.stands) can q.view locks in
    let x = c.load_mark.new.self.view in
    let marked = mark_on laws p bare node can q other locks c.load_mark.result x c.load_mark.ensures.loads in
    record { may = may_free laws p bare node can q other locks x marked }

pub returns-then-load_mark-clause-unlocked : goal.returns-then-load_mark-clause-unlocked
returns-then-load_mark-clause-unlocked c =
    let laws = c.search_laws.ensures in
    let p = c.args.pass.now in
    let bare = c.requires.unlocked in
    let node = c.args.node in
    let can = can_lock p.view node bare c.requires.stands in
    let q = c.try_lock.new.self in
    let locks = c.try_lock.ensures.locked c.if-not-try_lock.false in
    let other = locked_other laws p bare.0 [] bare.1 node (stands_node p.view node c.requires.stands) can q.view locks in
    let x = c.load_mark.new.self.view in
    let marked = mark_on laws p bare node can q other locks c.load_mark.result x c.load_mark.ensures.loads in
    free_none laws p bare node can q other locks x marked c.unlock.new.self.view c.unlock.ensures.view

pub returns-then-load_mark-clause-tree : goal.returns-then-load_mark-clause-tree
returns-then-load_mark-clause-tree c =
    let laws = c.search_laws.ensures in
    let p = c.args.pass.now in
    let bare = c.requires.unlocked in
    let node = c.args.node in
    let can = can_lock p.view node bare c.requires.stands in
    let q = c.try_lock.new.self in
    let locks = c.try_lock.ensures.locked c.if-not-try_lock.false in
    let other = locked_other laws p bare.0 [] bare.1 node (stands_node p.view node c.requires.stands) can q.view locks in
    let x = c.load_mark.new.self.view in
    let marked = mark_on laws p bare node can q other locks c.load_mark.result x c.load_mark.ensures.loads in
    free_on laws p bare node can q other locks x marked c.unlock.new.self.view c.unlock.ensures.view

pub load_link-left-requires : goal.load_link-left-requires
load_link-left-requires c =
    let laws = c.search_laws.ensures in
    let p = c.args.pass.now in
    let bare = c.requires.unlocked in
    let node = c.args.node in
    let can = can_lock p.view node bare c.requires.stands in
    let q = c.try_lock.new.self in
    let locks = c.try_lock.ensures.locked c.if-not-try_lock.false in
    let other = locked_other laws p bare.0 [] bare.1 node (stands_node p.view node c.requires.stands) can q.view locks in
    let x = c.load_mark.new.self.view in
    let marked = mark_on laws p bare node can q other locks c.load_mark.result x c.load_mark.ensures.loads in
    record {
      may =
          may_link laws p bare node can q other locks x marked Left (stands_some p.view node c.facts.ensures c.requires.stands)
          (mark_none laws p bare node can q other locks c.load_mark.result x c.load_mark.ensures.loads c.if-load_mark.false);
    }

pub load_link-right-requires : goal.load_link-right-requires
load_link-right-requires c =
    let laws = c.search_laws.ensures in
    let p = c.args.pass.now in
    let bare = c.requires.unlocked in
    let node = c.args.node in
    let can = can_lock p.view node bare c.requires.stands in
    let q = c.try_lock.new.self in
    let locks = c.try_lock.ensures.locked c.if-not-try_lock.false in
    let other = locked_other laws p bare.0 [] bare.1 node (stands_node p.view node c.requires.stands) can q.view locks in
    let x = c.load_mark.new.self.view in
    let marked = mark_on laws p bare node can q other locks c.load_mark.result x c.load_mark.ensures.loads in
    let y = c.load_link-left.new.self.view in
    let low = link_on laws p bare node can q other locks x marked Left c.load_link-left.result y c.load_link-left.ensures.view in
    record {
      may =
          may_link laws p bare node can q other locks y low Right (stands_some p.view node c.facts.ensures c.requires.stands)
          (unmarked_on x y node c.load_link-left.result Left c.load_link-left.ensures.view
          (mark_none laws p bare node can q other locks c.load_mark.result x c.load_mark.ensures.loads c.if-load_mark.false));
    }

pub unlock-requires-2 : goal.unlock-requires-2
unlock-requires-2 c =
    let laws = c.search_laws.ensures in
    let p = c.args.pass.now in
    let bare = c.requires.unlocked in
    let node = c.args.node in
    let can = can_lock p.view node bare c.requires.stands in
    let q = c.try_lock.new.self in
    let locks = c.try_lock.ensures.locked c.if-not-try_lock.false in
    let other = locked_other laws p bare.0 [] bare.1 node (stands_node p.view node c.requires.stands) can q.view locks in
    let x = c.load_mark.new.self.view in
    let marked = mark_on laws p bare node can q other locks c.load_mark.result x c.load_mark.ensures.loads in
    let y = c.load_link-left.new.self.view in
    let low = link_on laws p bare node can q other locks x marked Left c.load_link-left.result y c.load_link-left.ensures.view in
    let z = c.load_link-right.new.self.view in
    let both = link_on laws p bare node can q other locks y low Right c.load_link-right.result z c.load_link-right.ensures.view in
    record { may = may_free laws p bare node can q other locks z both }

pub returns-clause-unlocked : goal.returns-clause-unlocked
returns-clause-unlocked c =
    let laws = c.search_laws.ensures in
    let p = c.args.pass.now in
    let bare = c.requires.unlocked in
    let node = c.args.node in
    let can = can_lock p.view node bare c.requires.stands in
    let q = c.try_lock.new.self in
    let locks = c.try_lock.ensures.locked c.if-not-try_lock.false in
    let other = locked_other laws p bare.0 [] bare.1 node (stands_node p.view node c.requires.stands) can q.view locks in
    let x = c.load_mark.new.self.view in
    let marked = mark_on laws p bare node can q other locks c.load_mark.result x c.load_mark.ensures.loads in
    let y = c.load_link-left.new.self.view in
    let low = link_on laws p bare node can q other locks x marked Left c.load_link-left.result y c.load_link-left.ensures.view in
    let z = c.load_link-right.new.self.view in
    let both = link_on laws p bare node can q other locks y low Right c.load_link-right.result z c.load_link-right.ensures.view in
    free_none laws p bare node can q other locks z both c.unlock-2.new.self.view c.unlock-2.ensures.view

pub returns-clause-tree : goal.returns-clause-tree
returns-clause-tree c =
    let laws = c.search_laws.ensures in
    let p = c.args.pass.now in
    let bare = c.requires.unlocked in
    let node = c.args.node in
    let can = can_lock p.view node bare c.requires.stands in
    let q = c.try_lock.new.self in
    let locks = c.try_lock.ensures.locked c.if-not-try_lock.false in
    let other = locked_other laws p bare.0 [] bare.1 node (stands_node p.view node c.requires.stands) can q.view locks in
    let x = c.load_mark.new.self.view in
    let marked = mark_on laws p bare node can q other locks c.load_mark.result x c.load_mark.ensures.loads in
    let y = c.load_link-left.new.self.view in
    let low = link_on laws p bare node can q other locks x marked Left c.load_link-left.result y c.load_link-left.ensures.view in
    let z = c.load_link-right.new.self.view in
    let both = link_on laws p bare node can q other locks y low Right c.load_link-right.result z c.load_link-right.ensures.view in
    free_on laws p bare node can q other locks z both c.unlock-2.new.self.view c.unlock-2.ensures.view
