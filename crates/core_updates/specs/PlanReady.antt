-- When a view is ready for a plan: it has found under its locks what the plan asks for, has filled the new node and the
-- entries, and has put the plan's entries in front of bundles, and no others. One form for the four cases of an update.
use Rattle.std.specs.Prelude.{◌≡◌, ℕ, ◌<◌, ◌^◌, IfSome}
use Rattle.index_words.specs.declared.layout.Layout.{Layout}
use Rattle.index_words.specs.declared.view.View.{View}
use Rattle.index_words.specs.declared.view.reading.Filled.{Filled}
use Rattle.index_words.specs.declared.view.update.HeldNode.{HeldNode}
use Rattle.key_map.specs.Lists.{count, Every}
use Rattle.core_updates.specs.declared.plan.Plan.{Plan}
use Rattle.core_updates.specs.declared.plan.PlanSlots.{PlanSlots}
use Rattle.core_updates.specs.declared.plan.Front.{Front}
use Rattle.core_updates.specs.declared.plan.Fresh.{Fresh}
use Rattle.core_updates.specs.declared.plan.NewNode.{NewNode}
use Rattle.core_laws.specs.ViewNeeds.{HasFilled}
use Rattle.core_updates.specs.Held.{HasLoaded, HoldsGap, HoldsLink, HoldsPrepared, CanRaise, MayRaise}
use Rattle.core_updates.specs.Plans.{Look, LinkLook, KeyLook, ValLook, GapLook, BetweenLook, IsFormed, key_of, change_of, looks_of, new_node_of, fronts_of, out_of, node_fills, entry_fills, slot_of, entries_of, sets_of, unlinks_of}
use Rattle.core_updates.specs.Ready.{update_of}

-- the seat has found under its locks what the look asks for
abbrev pub HoldsLook : View → Look → Type 0
HoldsLook v (LinkLook at child) = HoldsLink v at.node at.side child
HoldsLook v (KeyLook node key) = HasLoaded v node (λ (h : HeldNode). h.key) key
HoldsLook v (ValLook node val) = HasLoaded v node (λ (h : HeldNode). h.val) val
HoldsLook v (GapLook at key) = HoldsGap v at.node at.side key
HoldsLook v (BetweenLook at low high) = (x : ℕ) → low < x → x < high → HoldsGap v at.node at.side x

abbrev pub HoldsFill : View → Filled → Type 0
HoldsFill v f = HasFilled v f.word f.value

-- the entry is a free one, filled as the only one of a bundle
pub record HoldsFreshEntry (v : View) (fresh : Fresh) : Type 0 where
  pub free : 0 < count fresh.entry v.free.entries
  pub filled : Every (HoldsFill v) (entry_fills fresh.entry fresh.child 0)

-- the slot is a free one, and filled, and so are the entries of its links
pub record HoldsNewNode (v : View) (n : NewNode) : Type 0 where
  pub free : 0 < count n.slot v.free.nodes
  pub filled : Every (HoldsFill v) (node_fills n)
  pub left : IfSome n.left (HoldsFreshEntry v)
  pub right : IfSome n.right (HoldsFreshEntry v)

abbrev pub HoldsFront : View → Front → Type 0
HoldsFront v f = HoldsPrepared v f.at.node f.at.side f.entry f.child

pub record IsReadyFor (v : View) (plan : Plan) (slots : PlanSlots) : Type 0 where
  pub small : key_of plan < 2 ^ 64
  pub formed : IsFormed plan
  pub looks : Every (HoldsLook v) (looks_of plan)
  pub apart : ¬ (slots.left ≡ slots.right)
  pub new : IfSome (new_node_of plan slots) (HoldsNewNode v)
  pub fronts : Every (HoldsFront v) (fronts_of plan slots)
  pub pending : v.update.pending ≡ entries_of (fronts_of plan slots)

-- a seat that is ready for a plan may raise its update, which brings in and takes out what the plan says
abbrev pub PlanMayRaiseLaw : Type 0
PlanMayRaiseLaw =
    (z : Layout) (v : View) (client line : ℕ) (plan : Plan) (slots : PlanSlots) → CanRaise v client → IsReadyFor v plan slots
    → MayRaise z v (update_of client line (key_of plan) (change_of plan)) (slot_of (new_node_of plan slots)) (out_of plan) (sets_of plan slots)
    (unlinks_of plan)
