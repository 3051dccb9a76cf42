use Rattle.std.proofs.Common.{◌≡◌, ℕ, ◌⊎◌, List, ap, ◌∙◌, sym, subst}
use Rattle.key_map.specs.Lists.{count}
use Rattle.core_events.specs.UpdateMoves.{without_all, listed_entry}
use Rattle.pass_slots.specs.Owned.{KeptSlots}
use Rattle.pass_slots.proofs.Taken.{count_after, without_both}
use Rattle.pass_slots.proofs.pass_slots.PassSlots.take_new.Goals as goal

pub take_given_entry-requires-2 : goal.take_given_entry-requires-2
take_given_entry-requires-2 c =
    let s : KeptSlots = c.args.self.now in
    let left = c.args.left in
    let is : c.take_given_entry.new.self.free.entries ≡ without_all (listed_entry left) s.free.entries
    = ap (λ (k : KeptSlots). k.free.entries) c.take_given_entry.ensures ∙ ap (λ (k : KeptSlots). without_all (listed_entry left) k.free.entries) c.take_given_node.ensures in
    subst (λ (es : List ℕ). (c.args.right ≡ 0) ⊎ (count c.args.right es ≡ 1)) (sym is) (count_after left c.args.right s.free.entries c.requires.apart c.requires.right)

pub returns : goal.returns
returns c =
    let s : KeptSlots = c.args.self.now in
    let left = c.args.left in
    let right = c.args.right in
    c.take_given_entry-2.ensures
    ∙ ap (λ (k : KeptSlots). record k { free = record k.free { entries = without_all (listed_entry right) k.free.entries } }) c.take_given_entry.ensures
    ∙ ap (λ (k : KeptSlots). record k { free = record k.free { entries = without_all (listed_entry right) (without_all (listed_entry left) k.free.entries) } }) c.take_given_node.ensures
    ∙ ap (λ (es : List ℕ). record s { free = record { nodes = without_all (listed_entry c.args.node) s.free.nodes; entries = es } }) (sym (without_both (listed_entry left) (listed_entry right) s.free.entries))
