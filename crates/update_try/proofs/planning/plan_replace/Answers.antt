use Rattle.std.proofs.Common.{rules, ◌<◌, ◌^◌, [], ◌∷◌, sym, subst}
use Rattle.index_words.specs.declared.side.Side.TheVariants.{Left}
use Rattle.core_updates.specs.Plans.{KeyLook, LinkLook, link_of}
use Rattle.plan_laws.specs.Tries.{IsTrying}
use Rattle.update_try.specs.Planning.{FindsNode}
use Rattle.update_try.proofs.Holding.{of_place, unmarked_of}
use Rattle.update_try.proofs.planning.plan_replace.Goals as goal

pub hold_node-requires-clause-found : goal.hold_node-requires-clause-found
hold_node-requires-clause-found c = (c.args.pair.key, of_place c.args.pass.now.view c.args.pair.key c.args.found.now c.requires.found)

pub look_link-right-requires-clause-unmarked : goal.look_link-right-requires-clause-unmarked
look_link-right-requires-clause-unmarked c =
    let found = c.requires.found in
    let finds : FindsNode c.args.pass.now.view c.args.pair.key c.args.found.now = of_place c.args.pass.now.view c.args.pair.key c.args.found.now found in
    let holds = c.in_ok-left.ensures.node c.args.pair.key finds in
    unmarked_of c.hold_node.new.pass.view c.args.found.now.node c.in_ok-left.left Left holds.left_link

pub returns-clause-looked : goal.returns-clause-looked
returns-clause-looked c =
    let found = c.requires.found in
    let finds : FindsNode c.args.pass.now.view c.args.pair.key c.args.found.now = of_place c.args.pass.now.view c.args.pair.key c.args.found.now found in
    let holds = c.in_ok-left.ensures.node c.args.pair.key finds in
    let v = c.hold_node.new.pass.view in
    let on = subst (IsTrying v c.hold_node.new.pass.number) c.in_ok-left.ensures.locks c.hold_node.ensures.trying in
    let ks = c.args.found.now.at.node ∷ c.args.found.now.node ∷ [] in
    let small : c.args.pair.key < 2 ^ 64 = search rules in
    record {
      trying =
          subst (λ n. IsTrying c.look_link-right.new.pass.view n ks) (sym c.look_link-right.ensures.same.number)
          (c.look_link-right.ensures.keeps.places.trying c.hold_node.new.pass.number ks on);
      formed = holds.formed;
      small = small;
      looks = (
        c.look_link-right.ensures.keeps.looks.looks (LinkLook c.args.found.now.at c.args.found.now.node) holds.at,
        (
          c.look_link-right.ensures.keeps.looks.looks (LinkLook (link_of c.args.found.now.node Left) c.in_ok-left.left) holds.left_link,
          (c.look_link-right.ensures.leads, (c.look_link-right.ensures.keeps.looks.looks (KeyLook c.args.found.now.node c.args.pair.key) holds.key_is, tt)),
        ),
      );
    }
