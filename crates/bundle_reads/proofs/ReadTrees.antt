-- The tree that a pass with a section number reads: each load is of the same tree.
use Rattle.std.proofs.Common.{◌≡◌, ℕ, suc, ◌+◌, ◌<◌, ◌≤◌, List, [], ◌∷◌, cond, eqb, arith, refl, ◌∙◌, sym, subst, Some}
use Rattle.std.specs.List.{slice_get}
use Rattle.std.proofs.lemmas.Bool.Decides.{nat_tests}
use Rattle.key_map.specs.Lists.{count, IsItem}
use Rattle.index_words.specs.declared.layout.Layout.{Layout}
use Rattle.index_words.specs.declared.view.View.{View}
use Rattle.index_words.specs.declared.view.reading.TreeNode.{TreeNode}
use Rattle.index_words.specs.Views.{no_update}
use Rattle.index_words.specs.Words.{memory}
use Rattle.core_grace.specs.Holds.{tree_slots}
use Rattle.core_trees.specs.declared.link.Link.{Link}
use Rattle.core_invariant.specs.Rule.{InRule}
use Rattle.core_invariant.specs.SeatRule.{SeatRight}
use Rattle.core_invariant.proofs.OneView.{seat_at}
use Rattle.core_events.specs.Versions.{tree_nodes}
use Rattle.core_laws.specs.Found.{LeadsTo, ReadsTree}
use Rattle.core_laws.proofs.Found.{read_law}
use Rattle.core_laws.proofs.OneTree.{one_top}
use Rattle.table_rule.specs.Homes.{IsLiveView}
use Rattle.table_rule.specs.Running.{Stands, table}
use Rattle.table_rule.proofs.Lists.{item_at}
use Rattle.bundle_reads.specs.Links.{InsideAt, LeadsThere}

-- no node of the list stands at slot 0
none_at_root : (ns : List TreeNode) → ((j : ℕ) (n : TreeNode) → IsItem ns j n → 0 < n.slot) → count 0 (tree_slots ns) ≡ 0
none_at_root [] some = refl
none_at_root (n ∷ ns) some =
    let here : 0 < n.slot = some 0 n (record { within = omega arith; is = λ d. refl }) in
    let rest = none_at_root ns (λ j k at. some (suc j) k (record { within = omega (arith, at.within); is = λ d. at.is d })) in
    apart n.slot here (count 0 (tree_slots ns)) rest
  where
    apart : (s : ℕ) → 0 < s → (c : ℕ) → c ≡ 0 → cond (eqb s 0) 1 0 + c ≡ 0
    apart s above c none = grind (arith, nat_tests)

-- in a table that meets the rule, with this view at a seat
module _ (z : Layout) (words : List ℕ) (vs : List View) (rule : InRule z words vs) (i : ℕ) (v : View) (at : slice_get vs i ≡ Some v) where
  pub seat : SeatRight z (memory z words) rule.meaning v
  seat = seat_at z (memory z words) vs rule.meaning i v (item_at vs i v at) rule.rule

  module _ (t : ℕ) (reads : InsideAt v t) where
    pub idle : v.update ≡ no_update
    idle = seat.section.done reads.inside.unlocked

    pub finds : ReadsTree (table z words vs) v t
    finds = read_law (table z words vs) i v t rule (item_at vs i v at) reads.section

    -- the root is none of its nodes
    pub no_root : count 0 (tree_slots v.reading.tree) ≡ 0
    no_root = none_at_root v.reading.tree (λ j n item. (finds.pairs j n item).some)

    -- a link of the found tree is one of each tree with these nodes
    pub found_leads : (link : Link) (child : ℕ) → LeadsTo finds.tree link.node link.side child → LeadsThere v link child
    found_leads link child leads = λ tree is.
        let nodes : tree_nodes finds.tree ≡ tree_nodes tree = sym finds.nodes ∙ is in
        record {
          top = λ root right. leads.top root right ∙ one_top finds.tree tree (subst (λ ns. count 0 (tree_slots ns) ≡ 0) finds.nodes no_root) nodes;
          below = λ j n item slot. leads.below j n (subst (λ ns. IsItem ns j n) (sym nodes) item) slot;
        }

-- what a pass that reads at a number knows before its first load
pub record SectionReader (v : View) (t : ℕ) : Type 0 where
  pub high : (k : ℕ) → 0 < count k (tree_slots v.reading.tree) → k ≤ v.layout.nodes
  pub idle : v.update ≡ no_update

pub section_reader : (v : View) (t : ℕ) → IsLiveView v → InsideAt v t → SectionReader v t
section_reader v t live reads =
    let s : Stands v.layout v = live.stands in
    record {
      high = (seat v.layout s.words s.views s.rule s.seat v s.at).version.there;
      idle = idle v.layout s.words s.views s.rule s.seat v s.at t reads;
    }
