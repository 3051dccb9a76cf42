-- What each kind of event changes of a view, said once: a group of its fields that a kind does not touch is as before.
use Rattle.std.proofs.Common.{ap, [], ◌∷◌, sym, subst, ◌≡◌, ℕ, List, cond, Bool, true, false, eqb, refl, ◌∙◌, Option, Some, None}
use Rattle.index_words.specs.declared.layout.Layout.{Layout}
use Rattle.key_map.specs.declared.update.Update.{Update}
use Rattle.index_words.specs.declared.view.View.{View}
use Rattle.index_words.specs.declared.view.reading.Place.{Place}
use Rattle.index_words.specs.declared.view.reading.Place.TheVariants.{Entry as AtEntry}
use Rattle.index_words.specs.declared.word.Field.TheVariants.{Head, Link, Tag}
use Rattle.index_words.specs.declared.word.Word.{Word}
use Rattle.index_words.specs.declared.word.Word.TheVariants.{Section, Announced, Node, Entry}
use Rattle.index_words.specs.Words.{Memory}
use Rattle.index_words.specs.Views.{no_slots, no_looks}
use Rattle.core_grace.specs.Batches.{is_empty, batch_taken, batch_freed, all_passed, settled, looked, looked_at}
use Rattle.core_grace.specs.Sections.{is_even}
use Rattle.core_events.specs.declared.event.Kind.{Kind}
use Rattle.core_events.specs.declared.event.Kind.TheVariants.{Enter, Leave, LookSec, Fill, LoadStamp, LoadHead, LoadTs, LoadPtr, LoadNext, Prepare, Raise, Finalise, TryLock, Unlock, LoadMark, Mark as MarkNode, LoadKeyOrVal, Announce, LookAnn, Cut, LoadLink, SetLink, LoadTag, SetTag}
use Rattle.core_events.specs.Moves.{in_section, entered}
use Rattle.core_events.specs.Waits.{has_no_lock, looked_waiting}
use Rattle.core_events.specs.FillMoves.{filled_with, with_filled, known_before, used_view}
use Rattle.core_events.specs.LoadMoves.{next_at}
use Rattle.core_events.specs.LockMoves.{locked_view, met_lock}
use Rattle.core_events.specs.Steps.{view_after, look_from, raised_from}
use Rattle.core_invariant.proofs.Locked.{slots_known, slots_found, slots_numbered, slots_marked, slots_paired, slots_link, slots_tag}
use Rattle.core_invariant.proofs.Groups.{Group, PartOf, part}
use Rattle.core_invariant.proofs.Groups.Group.{Owner, Inside, Announcing, History, Counting, Snapshot, Tree, Standing, Links, Turns, Looking, Filling, Nodes, Locks, Nexts, Change, Pending, Unset, Owed, Leaving, Waiting, Free, Retired, Grace, Unused}

-- the groups of a load that moves the seat, and of a search that is forgotten
abbrev walks : Group → Bool
walks Standing = true
walks Links = true
walks Turns = true
walks Filling = true
walks _ = false

abbrev reads : Group → Bool
reads Snapshot = true
reads Tree = true
reads Looking = true
reads g = walks g

-- the slots that wait, and those that come back
abbrev frees : Group → Bool
frees Free = true
frees Retired = true
frees Grace = true
frees Unused = true
frees _ = false

abbrev updates : Group → Bool
updates Change = true
updates Pending = true
updates Unset = true
updates Owed = true
updates Leaving = true
updates Waiting = true
updates _ = false

-- the groups that a kind touches
abbrev pub touches : Kind → Group → Bool
touches Enter Inside = true
touches Enter g = cond (walks g) true (frees g)
touches Leave Inside = true
touches Leave Change = true
touches Leave g = reads g
touches LookSec Waiting = true
touches LookSec g = frees g
touches Fill Filling = true
touches Fill Unused = true
touches LoadStamp History = true
touches LoadStamp g = reads g
touches LoadHead Standing = true
touches LoadHead Links = true
touches LoadHead Nodes = true
touches LoadHead Counting = true
touches LoadTs Standing = true
touches LoadTs Nodes = true
touches LoadTs Counting = true
touches LoadPtr Links = true
touches LoadNext Standing = true
touches LoadNext Links = true
touches LoadNext Nexts = true
touches Prepare Nodes = true
touches Prepare Pending = true
touches Prepare Free = true
touches Raise History = true
touches Raise Change = true
touches Raise Pending = true
touches Raise Unset = true
touches Raise Owed = true
touches Raise Leaving = true
touches Raise Free = true
touches Raise Retired = true
touches Raise g = walks g
touches Finalise Pending = true
touches TryLock Standing = true
touches TryLock Nodes = true
touches TryLock Locks = true
touches TryLock Counting = true
touches Unlock Nodes = true
touches Unlock Locks = true
touches Unlock Nexts = true
touches Unlock g = cond (walks g) true (updates g)
touches LoadMark Nodes = true
touches LoadMark Counting = true
touches MarkNode Nodes = true
touches LoadKeyOrVal Standing = true
touches LoadKeyOrVal Nodes = true
touches Announce Announcing = true
touches LookAnn Looking = true
touches Cut Standing = true
touches Cut Nexts = true
touches Cut Retired = true
touches LoadLink Standing = true
touches LoadLink Links = true
touches LoadLink Turns = true
touches LoadLink Nodes = true
touches LoadLink Counting = true
touches SetLink Nodes = true
touches SetLink Unset = true
touches SetLink Leaving = true
touches LoadTag Links = true
touches LoadTag Nodes = true
touches LoadTag Counting = true
touches SetTag Nodes = true
touches SetTag Owed = true
touches _ _ = false

-- what two views have in common
either : (g : Group) (p : PartOf g) (b : Bool) (x y : View) → part g x ≡ p → part g y ≡ p → part g (cond b x y) ≡ p
either g p true x y one two = one
either g p false x y one two = two

module _ (passes : ℕ) (v : View) where
  taken_keeps : (g : Group) → frees g ≡ false → part g (batch_taken v) ≡ part g v
  taken_keeps g off = either g (part g v) (is_empty v.batch) (record v { retired = no_slots; batch = v.retired; grace = no_looks }) v (by g off) refl
    where
      by : (g : Group) → frees g ≡ false → part g (record v { retired = no_slots; batch = v.retired; grace = no_looks }) ≡ part g v
      by Owner off = refl
      by _ off = cc

  settled_keeps : (g : Group) → frees g ≡ false → part g (settled passes v) ≡ part g v
  settled_keeps g off = either g (part g v) (all_passed passes v.number v.grace.passed) (batch_freed v) v (by g off) refl
    where
      by : (g : Group) → frees g ≡ false → part g (batch_freed v) ≡ part g v
      by Owner off = refl
      by _ off = cc

  entered_keeps : (value : ℕ) (g : Group) → touches Enter g ≡ false → part g (in_section v value) ≡ part g v
  entered_keeps value Owner off = refl
  entered_keeps value _ off = cc

enter_frees : (g : Group) → touches Enter g ≡ false → frees g ≡ false
enter_frees Owner off = refl
enter_frees _ off = cc

look_frees : (g : Group) → touches LookSec g ≡ false → frees g ≡ false
look_frees Owner off = refl
look_frees _ off = cc

module _ (z : Layout) (m : Memory) (vs : List View) (v : View) (x value : ℕ) (o : Option Update) where
  -- the view has each group that the kind does not touch
  abbrev Keeps : Kind → View → Type 0
  Keeps kind u = (g : Group) → touches kind g ≡ false → part g u ≡ part g v

  enter_keeps : Keeps Enter (entered z.passes v value)
  enter_keeps g off =
      let u : View = in_section v value in
      settled_keeps z.passes (batch_taken u) g (enter_frees g off) ∙ taken_keeps z.passes u g (enter_frees g off) ∙ entered_keeps z.passes v value g off

  graced : (pass : ℕ) (u : View) (g : Group) → frees g ≡ false → part g (record u { grace = looked_at u.grace pass x }) ≡ part g u
  graced pass u Owner off = refl
  graced pass u _ off = cc

  waiting_keeps : (pass : ℕ) → Keeps LookSec (looked_waiting v pass x)
  waiting_keeps pass Owner off = refl
  waiting_keeps pass _ off = cc

  look_keeps : (pass : ℕ) → Keeps LookSec (look_from z v (Section pass) x)
  look_keeps pass g off =
      let u : View = batch_taken v in
      let free = look_frees g off in
      either g (part g v) (has_no_lock v) (looked z.passes v pass x) (looked_waiting v pass x)
      (settled_keeps z.passes (record u { grace = looked_at u.grace pass x }) g free ∙ graced pass u g free ∙ taken_keeps z.passes v g free)
      (waiting_keeps pass g off)

  fill_keeps : (w : Word) (b : Bool) → Keeps Fill (cond b (used_view v w) (with_filled (used_view v w) (filled_with (known_before v w) w value)))
  fill_keeps w true Owner off = refl
  fill_keeps w true _ off = cc
  fill_keeps w false Owner off = refl
  fill_keeps w false _ off = cc

  next_keeps : (place : Place) (e : ℕ) → Keeps LoadNext (next_at v place e x)
  next_keeps (AtEntry node side entry found) e Owner off = refl
  next_keeps (AtEntry node side entry found) e _ off = cc
  next_keeps _ e g off = refl

  raise_keeps : (o : Option Update) → Keeps Raise (raised_from z m vs v x o)
  raise_keeps (Some u) Owner off = refl
  raise_keeps (Some u) _ off = cc
  raise_keeps None g off = refl

  lock_keeps : (k : ℕ) (b : Bool) → Keeps TryLock (cond b (locked_view v k) (met_lock v value x))
  lock_keeps k true Owner off = refl
  lock_keeps k true _ off = cc
  lock_keeps k false Owner off = refl
  lock_keeps k false _ off = cc

  -- no event changes what its kind does not touch
  pub keeps : (kind : Kind) (w : Word) → Keeps kind (view_after kind z m vs v w x value o)
  keeps Enter w g off = enter_keeps g off
  keeps Leave w Owner off = refl
  keeps Leave w _ off = cc
  keeps LookSec (Section pass) g off = look_keeps pass g off
  keeps Fill w g off = fill_keeps w (is_even v.section_word) g off
  keeps LoadStamp w Owner off = refl
  keeps LoadStamp w _ off = cc
  keeps LoadHead (Node (Head side) k) Owner off = refl
  keeps LoadHead (Node (Head side) k) Locks off = slots_found k side x v.held.nodes
  keeps LoadHead (Node (Head side) k) _ off = cc
  keeps LoadTs (Entry p e) Owner off = refl
  keeps LoadTs (Entry p e) Locks off = slots_numbered e x v.held.nodes
  keeps LoadTs (Entry p e) _ off = cc
  keeps LoadPtr (Entry p e) Owner off = refl
  keeps LoadPtr (Entry p e) _ off = cc
  keeps LoadNext (Entry p e) g off = next_keeps v.reading.place e g off
  keeps Prepare (Node (Head side) k) Owner off = refl
  keeps Prepare (Node (Head side) k) Locks off = slots_known k side (record { entry = value; stamp = None }) v.held.nodes
  keeps Prepare (Node (Head side) k) _ off = cc
  keeps Raise w g off = raise_keeps o g off
  keeps Finalise (Entry p e) Owner off = refl
  keeps Finalise (Entry p e) _ off = cc
  keeps TryLock (Node f k) g off = lock_keeps k (eqb x 0) g off
  keeps Unlock (Node f k) Owner off = refl
  keeps Unlock (Node f k) _ off = cc
  keeps LoadMark (Node f k) Owner off = refl
  keeps LoadMark (Node f k) Locks off = slots_marked k x v.held.nodes
  keeps LoadMark (Node f k) _ off = cc
  keeps MarkNode (Node f k) Owner off = refl
  keeps MarkNode (Node f k) Locks off = slots_marked k 1 v.held.nodes
  keeps MarkNode (Node f k) _ off = cc
  keeps LoadKeyOrVal (Node f k) Owner off = refl
  keeps LoadKeyOrVal (Node f k) Locks off = slots_paired f k x v.held.nodes
  keeps LoadKeyOrVal (Node f k) _ off = cc
  keeps Announce w Owner off = refl
  keeps Announce w _ off = cc
  keeps LookAnn (Announced pass) Owner off = refl
  keeps LookAnn (Announced pass) _ off = cc
  keeps Cut (Entry p e) Owner off = refl
  keeps Cut (Entry p e) _ off = cc
  keeps LoadLink (Node (Link side) k) Owner off = refl
  keeps LoadLink (Node (Link side) k) Locks off = slots_link k side x v.held.nodes
  keeps LoadLink (Node (Link side) k) _ off = cc
  keeps SetLink (Node (Link side) k) Owner off = refl
  keeps SetLink (Node (Link side) k) Locks off = slots_link k side value v.held.nodes
  keeps SetLink (Node (Link side) k) _ off = cc
  keeps LoadTag (Node (Tag side) k) Owner off = refl
  keeps LoadTag (Node (Tag side) k) Locks off = slots_tag k side x v.held.nodes
  keeps LoadTag (Node (Tag side) k) _ off = cc
  keeps SetTag (Node (Tag side) k) Owner off = refl
  keeps SetTag (Node (Tag side) k) Locks off = slots_tag k side value v.held.nodes
  keeps SetTag (Node (Tag side) k) _ off = cc
  keeps _ w g off = refl

-- the groups that a part of the rule reads, as one value
abbrev pub Parts : List Group → Type 0
Parts [] = Unit {0}
Parts (g ∷ gs) = PartOf g × Parts gs

abbrev pub parts : (gs : List Group) → View → Parts gs
parts [] v = tt
parts (g ∷ gs) v = (part g v, parts gs v)

-- none of them is touched
abbrev pub AreOff : (Group → Bool) → List Group → Type 0
AreOff touched [] = Unit {0}
AreOff touched (g ∷ gs) = (touched g ≡ false) × AreOff touched gs

parts_same : (touched : Group → Bool) (u v : View) → ((g : Group) → touched g ≡ false → part g u ≡ part g v) → (gs : List Group) → AreOff touched gs
    → parts gs u ≡ parts gs v
parts_same touched u v same [] off = refl
parts_same touched u v same (g ∷ gs) off =
    let pair : PartOf g → Parts gs → Parts (g ∷ gs) = λ a b. (a, b) in
    ap (λ (a : PartOf g). pair a (parts gs u)) (same g off.0) ∙ ap (λ (b : Parts gs). pair (part g v) b) (parts_same touched u v same gs off.1)

abbrev pub Spares : Kind → List Group → Type 0
Spares kind gs = AreOff (touches kind) gs

-- an enter keeps all groups except those of slots that come back, once the seat is in its section
pub parts_entered : (passes value : ℕ) (v : View) (gs : List Group) → AreOff frees gs → parts gs (entered passes v value) ≡ parts gs (in_section v value)
parts_entered passes value v =
    let u : View = in_section v value in
    parts_same frees (entered passes v value) u (λ g off. settled_keeps passes (batch_taken u) g off ∙ taken_keeps passes u g off)

module _ (z : Layout) (m : Memory) (vs : List View) (v : View) (x value : ℕ) (o : Option Update) (kind : Kind) (w : Word) where
  pub parts_kept : (gs : List Group) → Spares kind gs → parts gs (view_after kind z m vs v w x value o) ≡ parts gs v
  parts_kept gs off = parts_same (touches kind) (view_after kind z m vs v w x value o) v (λ g free. keeps z m vs v x value o kind w g free) gs off

  -- what is said of these groups is kept by an event of a kind that touches none of them
  pub quiet_part : (gs : List Group) (P : Parts gs → Type 0) → Spares kind gs → P (parts gs v) → P (parts gs (view_after kind z m vs v w x value o))
  quiet_part gs P off = subst P (sym (parts_kept gs off))
