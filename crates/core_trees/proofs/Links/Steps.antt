-- The tree step by links, if at most one child is left: puts, and the removal of a node with at most one child.
use Rattle.std.proofs.Common.{◌≡◌, ◌^◌, inl, inr, ap, sym, ◌∙◌}
use Rattle.index_words.specs.declared.side.Side.TheVariants.{Left, Right}
use Rattle.core_trees.specs.NamedTree.{Null, Branch}
use Rattle.core_trees.specs.Search.{end_side}
use Rattle.core_trees.specs.LinkSteps.{IsLink, GrowByLinkLaw, ReplaceByLinkLaw, LiftByLinkLaw}
use Rattle.core_trees.proofs.SpelledStep.{grow_law, replace_law, lift_right_law, lift_left_law}
use Rattle.core_trees.proofs.Links.Parts.{keeps_outside, gap_ends, at_link, spelled_below, end_is, in_left, in_right, outside, part_stays, no_child}

pub grow_by_link : GrowByLinkLaw
grow_by_link g g' root slot key val node top side tree at gap keeps new link =
    let ends = gap_ends key node 0 (2 ^ 64) root side top tree at.lawful gap in
    grow_law g g' root slot key val top tree at.once at.spelled
    (keeps_outside g g' (IsLink node side) key root top tree at.once keeps (λ x out w is. (is.0 ∙ sym ends.0.0, is.1 ∙ sym ends.0.1)))
    ends.1 new (ap (λ n. g'.child (end_side key top tree) n) ends.0.0 ∙ ap (λ w. g'.child w node) ends.0.1 ∙ link)

pub replace_by_link : ReplaceByLinkLaw
replace_by_link g g' root slot val parent node top side tree at leads keeps new link =
    let h = at_link g root parent node top side tree at leads in
    replace_law g g' root slot (g.key node) val node (g.key node) (g.val node) top h.left h.right tree at.once at.spelled
    (outside g root parent node top side tree at leads g' keeps) h.sub
    (part_stays g root parent node top side tree at leads g' keeps h.left (in_left g root parent node top side tree at leads))
    (part_stays g root parent node top side tree at leads g' keeps h.right (in_right g root parent node top side tree at leads))
    new (end_is g root parent node top side tree at leads g' slot link)

pub lift_by_link : LiftByLinkLaw
lift_by_link g g' root slot parent node child top side tree at leads (inl one) keeps link =
    let h = at_link g root parent node top side tree at leads in
    let none : h.left ≡ Null = no_child g (g.child Left node) h.left (spelled_below g root parent node top side tree at leads).4 one.0 in
    lift_right_law g g' root slot (g.key node) node (g.key node) (g.val node) top h.right tree at.once at.spelled
    (outside g root parent node top side tree at leads g' keeps) (h.sub ∙ ap (λ l. Branch node (g.key node) (g.val node) l h.right) none)
    (part_stays g root parent node top side tree at leads g' keeps h.right (in_right g root parent node top side tree at leads))
    (end_is g root parent node top side tree at leads g' (g.child Right node) (link ∙ one.1))
lift_by_link g g' root slot parent node child top side tree at leads (inr one) keeps link =
    let h = at_link g root parent node top side tree at leads in
    let none : h.right ≡ Null = no_child g (g.child Right node) h.right (spelled_below g root parent node top side tree at leads).5 one.0 in
    lift_left_law g g' root slot (g.key node) node (g.key node) (g.val node) top h.left tree at.once at.spelled
    (outside g root parent node top side tree at leads g' keeps) (h.sub ∙ ap (λ r. Branch node (g.key node) (g.val node) h.left r) none)
    (part_stays g root parent node top side tree at leads g' keeps h.left (in_left g root parent node top side tree at leads))
    (end_is g root parent node top side tree at leads g' (g.child Left node) (link ∙ one.1))
