-- The looks of a try under its locks: that a node is unmarked, where a plain link leads, which tag it has, and the key
-- and the value of a node. What was found stays so, since each of them is loaded once.
use Rattle.std.specs.Prelude.{◌≡◌, ℕ, ◌<◌, ◌^◌, ◌≤◌, List, true, Option, Some}
use Rattle.index_words.specs.declared.layout.Layout.{Layout}
use Rattle.index_words.specs.declared.side.Side.{Side}
use Rattle.index_words.specs.declared.side.Side.TheVariants.{Right}
use Rattle.index_words.specs.declared.view.View.{View}
use Rattle.index_words.specs.declared.view.reading.Link.{Link as ViewLink}
use Rattle.index_words.specs.declared.view.reading.LinkSource.TheVariants.{Plain}
use Rattle.index_words.specs.declared.view.update.HeldNode.{HeldNode}
use Rattle.index_words.specs.declared.word.Field.TheVariants.{Key, Val, Mark, Link as LinkField, Tag, Head}
use Rattle.index_words.specs.declared.word.Part.TheVariants.{Stamp as Number}
use Rattle.index_words.specs.declared.word.Word.TheVariants.{Node, Entry}
use Rattle.key_map.specs.Lists.{Every, IsItem}
use Rattle.core_trees.specs.declared.link.Link.{Link}
use Rattle.core_events.specs.declared.event.Kind.TheVariants.{LoadHead, LoadTs, LoadMark, LoadKeyOrVal, LoadLink, LoadTag}
use Rattle.core_events.specs.LoadMoves.{head_loaded, ts_loaded, next_loaded}
use Rattle.core_events.specs.LockMoves.{locked_view, met_lock, mark_loaded, pair_loaded}
use Rattle.core_events.specs.PlainMoves.{link_loaded, tag_loaded}
use Rattle.core_events.specs.Searches.{is_plain}
use Rattle.core_invariant.specs.Readers.{IsLocked}
use Rattle.core_laws.specs.ViewNeeds.{May, event_at}
use Rattle.core_updates.specs.declared.plan.Plan.{Plan}
use Rattle.core_updates.specs.Held.{HasLoaded, HoldsLink, HoldsGap, RemembersGap}
use Rattle.core_updates.specs.PlanEvents.{HoldsEntry, HoldsNumbered, KnowsLink, KnowsTag}
use Rattle.core_updates.specs.PlanReady.{HoldsLook}
use Rattle.core_updates.specs.Plans.{Look, IsFormed, key_of, locks_of, looks_of}
use Rattle.plan_laws.specs.Tries.{IsTrying}

-- under the lock of the node its mark was found 0
abbrev pub IsUnmarked : View → ℕ → Type 0
IsUnmarked v node = HasLoaded v node (λ (h : HeldNode). h.mark) 0

-- a search has found that the plain link leads to the child
pub record RemembersLink (v : View) (at : Link) (child : ℕ) : Type 0 where
  pub place : ℕ
  pub link : ViewLink
  pub is : IsItem v.reading.links place link
  pub node_is : link.node ≡ at.node
  pub side_is : link.side ≡ at.side
  pub plain : is_plain link.source ≡ true
  pub child_is : link.child ≡ child

-- a search has found the link null, with this tag, between turns with these keys
pub record RemembersNull (v : View) (at : Link) (tag : ℕ) (above below : Option ℕ) : Type 0 where
  pub place : ℕ
  pub link : ViewLink
  pub is : IsItem v.reading.links place link
  pub node_is : link.node ≡ at.node
  pub side_is : link.side ≡ at.side
  pub child_is : link.child ≡ 0
  pub source : link.source ≡ Plain (Some tag) above below

-- what was found under locks, and what a search has found before, stays
pub record KeepsLooks (v w : View) : Type 0 where
  pub looks : (look : Look) → HoldsLook v look → HoldsLook w look
  pub unmarked : (k : ℕ) → IsUnmarked v k → IsUnmarked w k
  pub link : (at : Link) (child : ℕ) → RemembersLink v at child → RemembersLink w at child
  pub gap : (k tag key : ℕ) (side : Side) → RemembersGap v k side tag key → RemembersGap w k side tag key
  pub null : (at : Link) (tag : ℕ) (above below : Option ℕ) → RemembersNull v at tag above below → RemembersNull w at tag above below

abbrev pub KeepsLooksLaw : Type 0
KeepsLooksLaw = (u v w : View) → KeepsLooks u v → KeepsLooks v w → KeepsLooks u w

-- a lock keeps it, whether it is found free or held, and so does a load, where what was loaded under the lock before
-- was the same
pub record StepsKeepLooks (v : View) : Type 0 where
  pub locked : (node : ℕ) → ¬ IsLocked v node → KeepsLooks v (locked_view v node)
  pub met : (own found : ℕ) → KeepsLooks v (met_lock v own found)
  pub mark : (node x : ℕ) → (IsUnmarked v node → x ≡ 0) → KeepsLooks v (mark_loaded v node x)
  pub link : (node x : ℕ) (side : Side) → ((k : KnowsLink v node side) → k.child ≡ x) → KeepsLooks v (link_loaded v node side x)
  pub tag : (node x : ℕ) (side : Side) → ((k : KnowsTag v node side) → k.found ≡ x) → KeepsLooks v (tag_loaded v node side x)
  pub key : (node x : ℕ) → ((y : ℕ) → HasLoaded v node (λ (h : HeldNode). h.key) y → y ≡ x) → KeepsLooks v (pair_loaded v Key node x)
  pub val : (node x : ℕ) → ((y : ℕ) → HasLoaded v node (λ (h : HeldNode). h.val) y → y ≡ x) → KeepsLooks v (pair_loaded v Val node x)
  pub head : (node entry number : ℕ) (side : Side) → KeepsLooks v (head_loaded v node side entry number)
  pub number : (entry x : ℕ) → KeepsLooks v (ts_loaded v entry x)
  pub next : (entry next : ℕ) → KeepsLooks v (next_loaded v entry next)

abbrev pub StepsKeepLooksLaw : Type 0
StepsKeepLooksLaw = (v : View) → StepsKeepLooks v

-- the looks at a locked node
pub record LooksAtNode (z : Layout) (v : View) (seat node : ℕ) : Type 0 where
  pub mark : May z v (event_at z seat LoadMark (Node Mark node) 0) × IsUnmarked (mark_loaded v node 0) node
  pub link : (side : Side) (x : ℕ) → (node ≡ 0 → side ≡ Right) → IsUnmarked v node
      → May z v (event_at z seat LoadLink (Node (LinkField side) node) 0) × HoldsLink (link_loaded v node side x) node side x
  pub tag : (side : Side) (x key : ℕ) → HoldsLink v node side 0 → RemembersGap v node side x key
      → May z v (event_at z seat LoadTag (Node (Tag side) node) 0) × HoldsGap (tag_loaded v node side x) node side key
  pub key : (x : ℕ) → May z v (event_at z seat LoadKeyOrVal (Node Key node) 0)
      × HasLoaded (pair_loaded v Key node x) node (λ (h : HeldNode). h.key) x
  pub val : (x : ℕ) → May z v (event_at z seat LoadKeyOrVal (Node Val node) 0)
      × HasLoaded (pair_loaded v Val node x) node (λ (h : HeldNode). h.val) x
  pub head : (side : Side) (entry number : ℕ) → IsUnmarked v node
      → May z v (event_at z seat LoadHead (Node (Head side) node) 0)
      × HoldsEntry (head_loaded v node side entry number) (record { node = node; side = side }) entry

abbrev pub LookLaw : Type 0
LookLaw = (z : Layout) (v : View) (seat n node : ℕ) (nodes : List ℕ) → IsTrying v n nodes → IsLocked v node → LooksAtNode z v seat node

-- after the load of a head the seat stands at the entry that was found, whose number it may load; where that is
-- written, the entry is known with it
pub record LooksAtNumber (z : Layout) (v : View) (seat : ℕ) (at : Link) (entry : ℕ) : Type 0 where
  pub may : entry ≤ v.layout.entries → May z v (event_at z seat LoadTs (Entry Number entry) 0)
  pub written : (x : ℕ) → 0 < x → HoldsNumbered (ts_loaded v entry x) at entry

abbrev pub NumberLaw : Type 0
NumberLaw =
    (z : Layout) (v : View) (seat : ℕ) (at : Link) (entry number : ℕ) → 0 < entry → HoldsEntry (head_loaded v at.node at.side entry number) at entry
    → LooksAtNumber z (head_loaded v at.node at.side entry number) seat at entry

-- what is known of the newest entry of a link's bundle stays, where the heads of other nodes are loaded, and numbers
pub record HeadsStay (v : View) (at : Link) (entry : ℕ) : Type 0 where
  pub head : (node e number : ℕ) (side : Side) → ¬ (at.node ≡ node) → HoldsNumbered (head_loaded v node side e number) at entry
  pub number : (e x : ℕ) → 0 < x → HoldsNumbered (ts_loaded v e x) at entry

abbrev pub HeadsStayLaw : Type 0
HeadsStayLaw = (v : View) (at : Link) (entry : ℕ) → HoldsNumbered v at entry → HeadsStay v at entry

-- a try has found all that its plan asks for, with the plan's nodes locked, and no others
pub record HasLookedAll (v : View) (n : ℕ) (plan : Plan) : Type 0 where
  pub trying : IsTrying v n (locks_of plan)
  pub formed : IsFormed plan
  pub small : key_of plan < 2 ^ 64
  pub looks : Every (HoldsLook v) (looks_of plan)
