use Rattle.std.proofs.Common.{◌≡◌, ℕ, ◌∙◌, sym, subst}
use Rattle.index_words.specs.declared.side.Side.TheVariants.{Right}
use Rattle.pass_slots.specs.Owned.{KeptSlots}
use Rattle.table_rule.specs.Homes.{Sat}
use Rattle.table_steps.specs.Raises.{HoldsBundle, HoldsBundles, HoldsChain}
use Rattle.table_steps.proofs.RetireSteps.{left_room, node_retired, only_node, push_node, right_room}
use Rattle.table_steps.proofs.retires.retire_node.Goals as goal

pub retire_bundle-requires-clause-chain : goal.retire_bundle-requires-clause-chain
retire_bundle-requires-clause-chain c =
    let s : KeptSlots = c.args.slots.now in
    let k : ℕ = c.args.node in
    let needs = c.requires.entries in
    let held : HoldsBundles c.args.seat.now.view k needs.0 = only_node c.args.seat.now.view k needs.0 c.if-node-eq0.false needs.1 in
    let chain : HoldsChain c.args.seat.now.view k c.head_again-left.result held.lefts = c.head_again-left.ensures.chain held.lefts held.left in (
      k,
      held.lefts,
      subst (λ (x : Sat). HoldsChain x.view k c.head_again-left.result held.lefts) (sym c.head_again-left.ensures.same) chain,
      left_room s c.retire_node.new.self k c.if-node-eq0.false needs.0 held.lefts held.rights held.are (c.retire_node.ensures ∙ push_node s k) c.args.limit needs.2,
    )

pub retire_bundle-requires-2-clause-chain : goal.retire_bundle-requires-2-clause-chain
retire_bundle-requires-2-clause-chain c =
    let s : KeptSlots = c.args.slots.now in
    let k : ℕ = c.args.node in
    let needs = c.requires.entries in
    let held : HoldsBundles c.args.seat.now.view k needs.0 = only_node c.args.seat.now.view k needs.0 c.if-node-eq0.false needs.1 in
    let one : c.head_again-left.new.seat ≡ c.args.seat.now = c.head_again-left.ensures.same in
    let two : c.retire_bundle.new.seat ≡ c.args.seat.now = c.retire_bundle.ensures.same ∙ one in
    let three : c.head_again-right.new.seat ≡ c.args.seat.now = c.head_again-right.ensures.same ∙ two in
    let left : HoldsChain c.head_again-left.new.seat.view k c.head_again-left.result held.lefts
    = subst (λ (x : Sat). HoldsChain x.view k c.head_again-left.result held.lefts) (sym one) (c.head_again-left.ensures.chain held.lefts held.left) in
    let rights : HoldsBundle c.retire_bundle.new.seat.view k Right held.rights = subst (λ (x : Sat). HoldsBundle x.view k Right held.rights) (sym two) held.right in
    let right : HoldsChain c.head_again-right.new.seat.view k c.head_again-right.result held.rights
    = subst (λ (x : Sat). HoldsChain x.view k c.head_again-right.result held.rights) (two ∙ sym three) (c.head_again-right.ensures.chain held.rights rights) in (
      k,
      held.rights,
      right,
      right_room s c.retire_node.new.self k c.if-node-eq0.false needs.0 held.lefts held.rights held.are (c.retire_node.ensures ∙ push_node s k) c.args.limit needs.2
          c.retire_bundle.new.slots (c.retire_bundle.ensures.retired k held.lefts left),
    )

pub returns-clause-retired : goal.returns-clause-retired
returns-clause-retired c es entries =
    let s : KeptSlots = c.args.slots.now in
    let k : ℕ = c.args.node in
    let held : HoldsBundles c.args.seat.now.view k es = only_node c.args.seat.now.view k es c.if-node-eq0.false entries in
    let one : c.head_again-left.new.seat ≡ c.args.seat.now = c.head_again-left.ensures.same in
    let two : c.retire_bundle.new.seat ≡ c.args.seat.now = c.retire_bundle.ensures.same ∙ one in
    let three : c.head_again-right.new.seat ≡ c.args.seat.now = c.head_again-right.ensures.same ∙ two in
    let left : HoldsChain c.head_again-left.new.seat.view k c.head_again-left.result held.lefts
    = subst (λ (x : Sat). HoldsChain x.view k c.head_again-left.result held.lefts) (sym one) (c.head_again-left.ensures.chain held.lefts held.left) in
    let rights : HoldsBundle c.retire_bundle.new.seat.view k Right held.rights = subst (λ (x : Sat). HoldsBundle x.view k Right held.rights) (sym two) held.right in
    let right : HoldsChain c.head_again-right.new.seat.view k c.head_again-right.result held.rights
    = subst (λ (x : Sat). HoldsChain x.view k c.head_again-right.result held.rights) (two ∙ sym three) (c.head_again-right.ensures.chain held.rights rights) in
    node_retired s c.retire_node.new.self k c.if-node-eq0.false es held.lefts held.rights held.are (c.retire_node.ensures ∙ push_node s k) c.retire_bundle.new.slots c.retire_bundle-2.new.slots
    (c.retire_bundle.ensures.retired k held.lefts left) (c.retire_bundle-2.ensures.retired k held.rights right)
