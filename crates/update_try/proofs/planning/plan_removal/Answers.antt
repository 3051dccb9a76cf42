use Rattle.std.proofs.Common.{◌≡◌, ℕ, ◌<◌, ◌∷◌, ◌++◌, [], List, arith, ◌∙◌, subst, sym, ap}
use Rattle.index_words.specs.declared.side.Side.TheVariants.{Left, Right}
use Rattle.core_trees.specs.declared.link.Link.{Link}
use Rattle.core_updates.specs.Held.{HoldsLink}
use Rattle.core_updates.specs.Plans.{LinkLook, link_of}
use Rattle.plan_laws.specs.Looks.{HasLookedAll}
use Rattle.plan_laws.specs.Tries.{IsTrying}
use Rattle.update_try.specs.Planning.{next_locks}
use Rattle.update_try.proofs.Removals.{held_unmarked, join_looked, lift_looked, near, far, next_found, node_found, node_kept, on_walk}
use Rattle.update_try.proofs.Holding.{counted_on, tried_on}
use Rattle.update_try.proofs.planning.plan_removal.Goals as goal

pub hold_node-requires-clause-found : goal.hold_node-requires-clause-found
hold_node-requires-clause-found c = (c.args.key, node_found c.args.pass.now.view c.args.key c.args.found.now c.args.right c.requires.found)

pub look_leads-requires-clause-unmarked : goal.look_leads-requires-clause-unmarked
look_leads-requires-clause-unmarked c =
    let found = c.args.found.now in
    let holds = c.in_ok-left.ensures.node c.args.key (node_found c.args.pass.now.view c.args.key found c.args.right c.requires.found) in
    held_unmarked c.hold_node.new.pass.view found.node c.in_ok-left.left Left holds.left_link

pub find_next-requires : goal.find_next-requires
find_next-requires c =
    let v = c.args.pass.now.view in
    let w = c.look_leads.new.pass.view in
    let found = c.args.found.now in
    let key = c.args.key in
    let h = c.requires.found in
    let holds = node_kept c.hold_node.new.pass.view w key found c.in_ok-left.left c.look_leads.ensures.keeps.looks (c.in_ok-left.ensures.node key (node_found v key found c.args.right h)) in
    let reads = c.look_leads.ensures.reading ∙ c.in_ok-left.ensures.stays key c.args.right h in
    let laws = c.search_laws.ensures in
    let trying = subst (IsTrying c.hold_node.new.pass.view c.hold_node.new.pass.number) c.in_ok-left.ensures.locks c.hold_node.ensures.trying in
    let on = c.look_leads.ensures.keeps.places.trying c.hold_node.new.pass.number (found.at.node ∷ found.node ∷ []) trying in
    let some : 0 < c.args.right = omega (arith, c.if-right-eq0.false) in
    record {
      walk = on_walk v w c.hold_node.new.pass.number key found c.in_ok-left.left c.args.right h reads (laws.looks_on v c.hold_node.new.pass.view w c.hold_node.ensures.looks c.look_leads.ensures.keeps.looks) on holds some
          c.walk_from.result c.walk_from.ensures.at c.walk_from.ensures.node c.walk_from.ensures.turns;
    }

pub returns-then-left-eq0-clause-looked : goal.returns-then-left-eq0-clause-looked
returns-then-left-eq0-clause-looked c =
    let v = c.args.pass.now.view in
    let w = c.look_leads.new.pass.view in
    let found = c.args.found.now in
    let key = c.args.key in
    let h = c.requires.found in
    let left = c.in_ok-left.left in
    let holds = node_kept c.hold_node.new.pass.view w key found left c.look_leads.ensures.keeps.looks (c.in_ok-left.ensures.node key (node_found v key found c.args.right h)) in
    let trying = subst (IsTrying c.hold_node.new.pass.view c.hold_node.new.pass.number) c.in_ok-left.ensures.locks c.hold_node.ensures.trying in
    let ks = found.at.node ∷ found.node ∷ [] in
    let on = c.look_leads.ensures.keeps.places.trying c.hold_node.new.pass.number ks trying in
    let right_link = c.in_ok-look_leads.ensures.leads in
    let now = subst (λ n. IsTrying w n ks) (sym c.look_leads.ensures.same.number) on in
    subst (HasLookedAll w c.look_leads.new.pass.number) (sym c.plan_lift.ensures)
    (lift_looked w c.look_leads.new.pass.number key found left Left c.args.right c.ranges.key.fits now holds (subst (HoldsLink w found.node Left) c.if-left-eq0.true holds.left_link) right_link)

pub returns-then-right-eq0-clause-looked : goal.returns-then-right-eq0-clause-looked
returns-then-right-eq0-clause-looked c =
    let v = c.args.pass.now.view in
    let w = c.look_leads.new.pass.view in
    let found = c.args.found.now in
    let key = c.args.key in
    let h = c.requires.found in
    let left = c.in_ok-left.left in
    let holds = node_kept c.hold_node.new.pass.view w key found left c.look_leads.ensures.keeps.looks (c.in_ok-left.ensures.node key (node_found v key found c.args.right h)) in
    let trying = subst (IsTrying c.hold_node.new.pass.view c.hold_node.new.pass.number) c.in_ok-left.ensures.locks c.hold_node.ensures.trying in
    let ks = found.at.node ∷ found.node ∷ [] in
    let on = c.look_leads.ensures.keeps.places.trying c.hold_node.new.pass.number ks trying in
    let right_link = c.in_ok-look_leads.ensures.leads in
    let now = subst (λ n. IsTrying w n ks) (sym c.look_leads.ensures.same.number) on in
    subst (HasLookedAll w c.look_leads.new.pass.number) (sym c.plan_lift-then-right-eq0.ensures)
    (lift_looked w c.look_leads.new.pass.number key found left Right left c.ranges.key.fits now holds (subst (HoldsLink w found.node Right) c.if-right-eq0.true right_link) holds.left_link)

pub hold_next-requires-clause-trying : goal.hold_next-requires-clause-trying
hold_next-requires-clause-trying c =
    let found = c.args.found.now in
    let ks = found.at.node ∷ found.node ∷ [] in
    let trying = subst (IsTrying c.hold_node.new.pass.view c.hold_node.new.pass.number) c.in_ok-left.ensures.locks c.hold_node.ensures.trying in
    let on = c.look_leads.ensures.keeps.places.trying c.hold_node.new.pass.number ks trying in
    let x = c.find_next.new.pass.view in
    let on_x = c.in_ok-next.ensures.keeps.places.trying c.hold_node.new.pass.number ks on in
    let numbered = subst (λ n. IsTrying x n ks) (sym (c.find_next.ensures.same.number ∙ c.look_leads.ensures.same.number)) on_x in
    subst (IsTrying x c.find_next.new.pass.number) (sym c.in_ok-left.ensures.locks) numbered

pub hold_next-requires-clause-found : goal.hold_next-requires-clause-found
hold_next-requires-clause-found c =
    let v = c.args.pass.now.view in
    let w = c.look_leads.new.pass.view in
    let found = c.args.found.now in
    let key = c.args.key in
    let h = c.requires.found in
    let left = c.in_ok-left.left in
    let holds = node_kept c.hold_node.new.pass.view w key found left c.look_leads.ensures.keeps.looks (c.in_ok-left.ensures.node key (node_found v key found c.args.right h)) in
    let trying = subst (IsTrying c.hold_node.new.pass.view c.hold_node.new.pass.number) c.in_ok-left.ensures.locks c.hold_node.ensures.trying in
    let ks = found.at.node ∷ found.node ∷ [] in
    let on = c.look_leads.ensures.keeps.places.trying c.hold_node.new.pass.number ks trying in
    let right_link = c.in_ok-look_leads.ensures.leads in
    let x = c.find_next.new.pass.view in
    let walk = c.walk_from.result in
    let e = c.walk_from.ensures in
    let f = c.in_ok-next.next in
    let is = c.in_ok-next.ensures.next in
    let moves = c.in_ok-next.ensures.keeps in
    let on_x = moves.places.trying c.hold_node.new.pass.number ks on in
    (key, next_found x c.hold_node.new.pass.number key found c.args.right walk e.at e.node e.turns f is)

pub hold_next-requires-clause-unlocked : goal.hold_next-requires-clause-unlocked
hold_next-requires-clause-unlocked c = c.in_ok-next.ensures.next.unlocked

pub hold_next-requires-clause-near : goal.hold_next-requires-clause-near
hold_next-requires-clause-near c = λ here.
    let v = c.args.pass.now.view in
    let w = c.look_leads.new.pass.view in
    let found = c.args.found.now in
    let key = c.args.key in
    let h = c.requires.found in
    let left = c.in_ok-left.left in
    let holds = node_kept c.hold_node.new.pass.view w key found left c.look_leads.ensures.keeps.looks (c.in_ok-left.ensures.node key (node_found v key found c.args.right h)) in
    let trying = subst (IsTrying c.hold_node.new.pass.view c.hold_node.new.pass.number) c.in_ok-left.ensures.locks c.hold_node.ensures.trying in
    let ks = found.at.node ∷ found.node ∷ [] in
    let on = c.look_leads.ensures.keeps.places.trying c.hold_node.new.pass.number ks trying in
    let right_link = c.in_ok-look_leads.ensures.leads in
    let x = c.find_next.new.pass.view in
    let walk = c.walk_from.result in
    let e = c.walk_from.ensures in
    let f = c.in_ok-next.next in
    let is = c.in_ok-next.ensures.next in
    let moves = c.in_ok-next.ensures.keeps in
    let on_x = moves.places.trying c.hold_node.new.pass.number ks on in
    let same = near x c.hold_node.new.pass.number key found c.args.right walk e.at e.node e.turns f is on_x here in
    let kept = moves.looks.looks (LinkLook (link_of found.node Right) c.args.right) right_link in
    subst (λ (l : Link). HoldsLink x l.node l.side f.node) (sym same.0) (subst (HoldsLink x found.node Right) (sym same.1) kept)

pub hold_next-requires-clause-far : goal.hold_next-requires-clause-far
hold_next-requires-clause-far c =
    let v = c.args.pass.now.view in
    let w = c.look_leads.new.pass.view in
    let found = c.args.found.now in
    let key = c.args.key in
    let h = c.requires.found in
    let left = c.in_ok-left.left in
    let holds = node_kept c.hold_node.new.pass.view w key found left c.look_leads.ensures.keeps.looks (c.in_ok-left.ensures.node key (node_found v key found c.args.right h)) in
    let trying = subst (IsTrying c.hold_node.new.pass.view c.hold_node.new.pass.number) c.in_ok-left.ensures.locks c.hold_node.ensures.trying in
    let ks = found.at.node ∷ found.node ∷ [] in
    let on = c.look_leads.ensures.keeps.places.trying c.hold_node.new.pass.number ks trying in
    let right_link = c.in_ok-look_leads.ensures.leads in
    let x = c.find_next.new.pass.view in
    let walk = c.walk_from.result in
    let e = c.walk_from.ensures in
    let f = c.in_ok-next.next in
    let is = c.in_ok-next.ensures.next in
    let moves = c.in_ok-next.ensures.keeps in
    let on_x = moves.places.trying c.hold_node.new.pass.number ks on in
    far x c.hold_node.new.pass.number key found c.args.right walk e.at e.node e.turns f is

pub returns-clause-looked : goal.returns-clause-looked
returns-clause-looked c =
    let v = c.args.pass.now.view in
    let w = c.look_leads.new.pass.view in
    let found = c.args.found.now in
    let key = c.args.key in
    let h = c.requires.found in
    let left = c.in_ok-left.left in
    let holds = node_kept c.hold_node.new.pass.view w key found left c.look_leads.ensures.keeps.looks (c.in_ok-left.ensures.node key (node_found v key found c.args.right h)) in
    let trying = subst (IsTrying c.hold_node.new.pass.view c.hold_node.new.pass.number) c.in_ok-left.ensures.locks c.hold_node.ensures.trying in
    let ks = found.at.node ∷ found.node ∷ [] in
    let on = c.look_leads.ensures.keeps.places.trying c.hold_node.new.pass.number ks trying in
    let right_link = c.in_ok-look_leads.ensures.leads in
    let x = c.find_next.new.pass.view in
    let walk = c.walk_from.result in
    let e = c.walk_from.ensures in
    let f = c.in_ok-next.next in
    let is = c.in_ok-next.ensures.next in
    let moves = c.in_ok-next.ensures.keeps in
    let on_x = moves.places.trying c.hold_node.new.pass.number ks on in
    let y = c.hold_next.new.pass.view in
    let next = c.in_ok-next-2.next in
    let at = c.in_ok-next-2.ensures.is in
    let some_left : 0 < left = omega (arith, c.if-left-eq0.false) in
    let some_right : 0 < c.args.right = omega (arith, c.if-right-eq0.false) in
    let kept = moves.looks.looks (LinkLook (link_of found.node Right) c.args.right) right_link in
    join_looked y c.hold_next.new.pass.number key found left c.args.right next c.ranges.key.fits c.hold_next.new.locks.items c.hold_next.ensures.trying
    (c.in_ok-next-2.ensures.locks ∙ ap (λ (ls : List ℕ). ls ++ next_locks found.node next) c.in_ok-left.ensures.locks)
    (node_kept x y key found left c.hold_next.ensures.looks (node_kept w x key found left moves.looks holds))
    (c.hold_next.ensures.looks.looks (LinkLook (link_of found.node Right) c.args.right) kept) some_left some_right
    (c.in_ok-next-2.ensures.next key (next_found x c.hold_node.new.pass.number key found c.args.right walk e.at e.node e.turns f is))
    (λ here. let same = near x c.hold_node.new.pass.number key found c.args.right walk e.at e.node e.turns f is on_x (sym (ap (λ (l : Link). l.node) at.at) ∙ here) in (at.at ∙ same.0, at.node ∙ same.1))

pub returns-in_err-look_leads-clause-trying : goal.returns-in_err-look_leads-clause-trying
returns-in_err-look_leads-clause-trying c =
    subst (λ n. IsTrying c.look_leads.new.pass.view n c.hold_node.new.locks.items) (sym c.look_leads.ensures.same.number)
    (c.look_leads.ensures.keeps.places.trying c.hold_node.new.pass.number c.hold_node.new.locks.items c.hold_node.ensures.trying)

pub returns-then-left-eq0-clause-trying : goal.returns-then-left-eq0-clause-trying
returns-then-left-eq0-clause-trying c =
    subst (λ n. IsTrying c.look_leads.new.pass.view n c.hold_node.new.locks.items) (sym c.look_leads.ensures.same.number)
    (c.look_leads.ensures.keeps.places.trying c.hold_node.new.pass.number c.hold_node.new.locks.items c.hold_node.ensures.trying)

pub returns-then-right-eq0-clause-trying : goal.returns-then-right-eq0-clause-trying
returns-then-right-eq0-clause-trying c =
    subst (λ n. IsTrying c.look_leads.new.pass.view n c.hold_node.new.locks.items) (sym c.look_leads.ensures.same.number)
    (c.look_leads.ensures.keeps.places.trying c.hold_node.new.pass.number c.hold_node.new.locks.items c.hold_node.ensures.trying)

pub returns-in_err-look_leads-clause-counted : goal.returns-in_err-look_leads-clause-counted
returns-in_err-look_leads-clause-counted c =
    counted_on c.from_residual-in_err-look_leads.result c.look_leads.new.pass.view c.in_err-look_leads.field-0.0 c.hold_node.ensures.places c.in_err-look_leads.ensures.moved
    c.from_residual-in_err-look_leads.ensures.1

pub returns-in_err-next-clause-counted : goal.returns-in_err-next-clause-counted
returns-in_err-next-clause-counted c =
    counted_on c.from_residual-in_err-next.result c.find_next.new.pass.view c.in_err-next.field-0.0 (tried_on c.hold_node.ensures.places c.look_leads.ensures.keeps.places.keeps) c.in_err-next.ensures.counted
    c.from_residual-in_err-next.ensures.1

pub returns-in_err-next-2-clause-counted : goal.returns-in_err-next-2-clause-counted
returns-in_err-next-2-clause-counted c =
    counted_on c.from_residual-in_err-next-2.result c.hold_next.new.pass.view c.in_err-next-2.field-0.0 (tried_on (tried_on c.hold_node.ensures.places c.look_leads.ensures.keeps.places.keeps) c.in_ok-next.ensures.keeps.places.keeps) c.in_err-next-2.ensures.counted
    c.from_residual-in_err-next-2.ensures.1
