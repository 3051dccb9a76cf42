-- The same where a view comes to stand nowhere, or to have read nothing, after a look at a section, and where seats are
-- made or joined.
use Rattle.std.proofs.Common.{◌≡◌, ℕ, cond, List, [], ◌∷◌, ◌++◌, length, Bool, true, false, eqb, not, ◌&&◌, set, arith, refl, ap, ◌∙◌, sym, subst, Option, Some, None}
use Rattle.std.specs.List.{slice_get}
use Rattle.std.proofs.lemmas.Bool.{and_parts}
use Rattle.std.proofs.lemmas.List.Elements.{All-push}
use Rattle.index_words.specs.declared.layout.Layout.{Layout}
use Rattle.index_words.specs.declared.side.Side.{Side}
use Rattle.index_words.specs.declared.view.View.{View}
use Rattle.index_words.specs.declared.view.reading.Reading.{Reading}
use Rattle.index_words.specs.declared.view.reading.TreeNode.{TreeNode}
use Rattle.index_words.specs.declared.view.history.SeenHistory.{SeenHistory}
use Rattle.index_words.specs.declared.view.update.Updating.{Updating}
use Rattle.index_words.specs.declared.word.Field.TheVariants.{Lock, Mark, Tag}
use Rattle.index_words.specs.declared.word.Word.{Word}
use Rattle.index_words.specs.declared.word.Word.TheVariants.{Section, Node}
use Rattle.index_words.specs.Views.{no_reading, no_update, no_slots, no_looks, spent_view}
use Rattle.index_words.specs.Words.{Memory, memory, written, word_at}
use Rattle.index_words.proofs.Seats.{beside_item}
use Rattle.key_map.specs.declared.update.Update.{Update}
use Rattle.key_map.specs.Lists.{count, IsItem}
use Rattle.core_grace.specs.Batches.{is_empty, all_passed, batch_taken, batch_freed, settled, looked, looked_at}
use Rattle.core_trees.specs.NamedTree.{NamedTree}
use Rattle.core_trees.specs.SpelledTree.{Graph}
use Rattle.core_events.specs.declared.event.Kind.TheVariants.{MakeSeat, SplitSeat, JoinSeat, Enter, Leave, LookSec, LoadStamp, Unlock}
use Rattle.core_events.specs.Announcing.{has_announced}
use Rattle.core_events.specs.LoadMoves.{longest, stamp_history, stamp_reading, stamp_loaded}
use Rattle.core_events.specs.LockMoves.{other_nodes, unlocked_view}
use Rattle.core_events.specs.LockNeeds.{may_unlock}
use Rattle.core_events.specs.Moves.{nowhere, in_section, entered, left, split_left, split_right, joined_with}
use Rattle.core_events.specs.Needs.{is_stamp, may_enter, may_join, may_join_found}
use Rattle.core_events.specs.SpelledNow.{tree_now}
use Rattle.core_events.specs.Steps.{look_from, unlocked_from, join_found}
use Rattle.core_events.specs.Versions.{tree_nodes}
use Rattle.core_events.specs.Waits.{has_no_lock, may_leave, looked_by, looked_waiting}
use Rattle.core_events.proofs.Tests.{never, not_equal}
use Rattle.core_invariant.specs.Reached.{plain_graph}
use Rattle.core_invariant.specs.Rule.{InRule}
use Rattle.core_invariant.specs.StillRule.{StillRight, KnownRight}
use Rattle.core_invariant.specs.TurnRule.{TurnsRight, LeavesMarked}
use Rattle.core_invariant.proofs.Needed.{OwnSection, own_section}
use Rattle.core_invariant.proofs.OneView.{item_from_get}
use Rattle.core_kept.specs.TurnLaws.{TurnsKept, TurnsAfter, KeepsTurnsAt}
use Rattle.core_kept.proofs.KnownHeld.{same_known}
use Rattle.core_kept.proofs.TurnFrames.{HasNoTurns, same_place, none_turns, none_still, none_known, leaving_moved, own_leaving, step_kept, same_kept, none_kept, turns_before, with_tree, stored_turns}

-- the second view has read the same, and has the same to do, as the first
pub record SameRead (v w : View) : Type 0 where
  pub reading : w.reading ≡ v.reading
  pub word : w.section_word ≡ v.section_word
  pub taken : w.update.taken ≡ v.update.taken
  pub raised : w.update.raised ≡ v.update.raised
  pub held : w.held.nodes ≡ v.held.nodes

same_read : (v : View) → SameRead v v
same_read v = record { reading = refl; word = refl; taken = refl; raised = refl; held = refl }

joined_read : (u v w : View) → SameRead u v → SameRead v w → SameRead u w
joined_read u v w one two = record {
  reading = two.reading ∙ one.reading;
  word = two.word ∙ one.word;
  taken = two.taken ∙ one.taken;
  raised = two.raised ∙ one.raised;
  held = two.held ∙ one.held;
}

settled_read : (passes : ℕ) (v : View) → SameRead v (settled passes v)
settled_read passes v = by (all_passed passes v.number v.grace.passed)
  where
    by : (b : Bool) → SameRead v (cond b (batch_freed v) v)
    by true = record { reading = refl; word = refl; taken = refl; raised = refl; held = refl }
    by false = same_read v

batch_read : (v : View) → SameRead v (batch_taken v)
batch_read v = by (is_empty v.batch)
  where
    by : (b : Bool) → SameRead v (cond b (record v { retired = no_slots; batch = v.retired; grace = no_looks }) v)
    by true = record { reading = refl; word = refl; taken = refl; raised = refl; held = refl }
    by false = same_read v

looked_read : (passes : ℕ) (v : View) (pass word : ℕ) → SameRead v (looked passes v pass word)
looked_read passes v pass word =
    let taken = batch_taken v in
    let seen : View = record taken { grace = looked_at taken.grace pass word } in
    joined_read v seen (settled passes seen) (joined_read v taken seen (batch_read v)
    (record { reading = refl; word = refl; taken = refl; raised = refl; held = refl })) (settled_read passes seen)

look_read : (passes : ℕ) (v : View) (pass word : ℕ) → SameRead v (looked_by passes v pass word)
look_read passes v pass word = by (has_no_lock v)
  where
    by : (b : Bool) → SameRead v (cond b (looked passes v pass word) (looked_waiting v pass word))
    by true = looked_read passes v pass word
    by false = record { reading = refl; word = refl; taken = refl; raised = refl; held = refl }

pub entered_read : (passes : ℕ) (v : View) (word : ℕ) → SameRead (in_section v word) (entered passes v word)
entered_read passes v word =
    joined_read (in_section v word) (batch_taken (in_section v word)) (settled passes (batch_taken (in_section v word))) (batch_read (in_section v word))
    (settled_read passes (batch_taken (in_section v word)))

-- a view that stands nowhere
pub stands_nowhere : (v : View) (r : Reading) → v.reading ≡ nowhere r → HasNoTurns v
stands_nowhere v r is = record {
  left = ap (λ (y : Reading). y.left_turn) is;
  right = ap (λ (y : Reading). y.right_turn) is;
  place = ap (λ (y : Reading). y.place) is;
  links = ap (λ (y : Reading). y.links) is;
}

pub has_read_nothing : (v : View) → v.reading ≡ no_reading → HasNoTurns v
has_read_nothing v is = record {
  left = ap (λ (y : Reading). y.left_turn) is;
  right = ap (λ (y : Reading). y.right_turn) is;
  place = ap (λ (y : Reading). y.place) is;
  links = ap (λ (y : Reading). y.links) is;
}

-- a view without an update has taken nothing out
pub none_leaving : (mark : ℕ → ℕ) (plain : NamedTree) (v : View) → v.update.taken ≡ [] → LeavesMarked mark plain v
none_leaving mark plain v none k some = absurd (omega (arith, some, ap (count k) none))

module _ (z : Layout) (g : Graph) (mark : ℕ → ℕ) (tag : Side → ℕ → ℕ) (plain : NamedTree) (vs : List View) (y : View) (none : HasNoTurns y)
    (update : y.update ≡ no_update) where
  -- one more view, which rests
  pub turns_pushed : TurnsKept z g mark tag vs plain → TurnsKept z g mark tag (vs ++ y ∷ []) plain
  turns_pushed before = record {
    turns = All-push (TurnsRight g plain) vs y before.turns (none_turns z g mark tag plain y none);
    leaving = All-push (LeavesMarked mark plain) vs y before.leaving (none_leaving mark plain y (ap (λ (u : Updating). u.taken) update));
    still = All-push (StillRight z g tag plain) vs y before.still (none_still z g mark tag plain y none);
    known = All-push (KnownRight z g tag) vs y before.known (none_known z g mark tag plain y none);
  }

module _ (z : Layout) (words : List ℕ) (vs : List View) (right : InRule z words vs) (i : ℕ) (v : View) (at : IsItem vs i v) where
  abbrev m : Memory
  m = memory z words

  abbrev gr0 : Graph
  gr0 = plain_graph m

  abbrev tags : Side → ℕ → ℕ
  tags side k = m (Node (Tag side) k)

  abbrev marks : ℕ → ℕ
  marks k = m (Node Mark k)

  abbrev Kept : List View → Type 0
  Kept ws = TurnsKept z gr0 marks tags ws right.plain_tree

  before : Kept vs
  before = turns_before z words vs right

  given : (ws : List View) → Kept ws → TurnsAfter z m ws
  given ws kept = with_tree z words vs right marks tags ws kept

  taken_before : LeavesMarked marks right.plain_tree v
  taken_before = own_leaving z gr0 marks tags right.plain_tree vs i v v at before

  -- the view comes to stand nowhere
  nowhere_kept : (x : View) → HasNoTurns x → x.update.taken ≡ v.update.taken → Kept (set vs i x)
  nowhere_kept x none taken =
      none_kept z gr0 marks tags right.plain_tree vs i v x at before none (leaving_moved z gr0 marks tags right.plain_tree v x taken taken_before)

  stamp_by : (h : SeenHistory) (b : Bool) (x : ℕ) (fixes : Bool) (nodes : List TreeNode)
      → Kept (set vs i (record v { history = h; reading = stamp_reading v.reading b x fixes nodes }))
  stamp_by h true x fixes nodes =
      nowhere_kept (record v { history = h; reading = stamp_reading v.reading true x fixes nodes })
      (record { left = refl; right = refl; place = refl; links = refl }) refl
  stamp_by h false x fixes nodes =
      nowhere_kept (record v { history = h; reading = stamp_reading v.reading false x fixes nodes })
      (record { left = refl; right = refl; place = refl; links = refl }) refl

  pub stamp_after : (known : List Update) (x : ℕ) (fixes : Bool) (nodes : List TreeNode) → TurnsAfter z m (set vs i (stamp_loaded known v x fixes nodes))
  stamp_after known x fixes nodes =
      given (set vs i (stamp_loaded known v x fixes nodes)) (stamp_by (stamp_history known v.history x fixes) (has_announced v) x fixes nodes)

  -- a look at a section
  look_kept : (u : Word) (x : ℕ) → Kept (set vs i (look_from z v u x))
  look_kept (Section pass) x = read_kept (looked_by z.passes v pass x) (look_read z.passes v pass x)
    where
      read_kept : (y : View) → SameRead v y → Kept (set vs i y)
      read_kept y same =
          same_kept z gr0 marks tags right.plain_tree vs i v y at before same.reading same.word same.taken same.raised
          (same_known gr0 tags v.held.nodes y.held.nodes same.held)
  look_kept _ x =
      same_kept z gr0 marks tags right.plain_tree vs i v v at before refl refl refl refl (same_known gr0 tags v.held.nodes v.held.nodes refl)

  pub look_after : (u : Word) (x : ℕ) → TurnsAfter z m (set vs i (look_from z v u x))
  look_after u x = given (set vs i (look_from z v u x)) (look_kept u x)

  -- a seat that is split off
  pub split_after : (n : ℕ) → TurnsAfter z m (set vs i (split_left v n) ++ split_right v n ∷ [])
  split_after n =
      given (set vs i (split_left v n) ++ split_right v n ∷ [])
      (turns_pushed z gr0 marks tags right.plain_tree (set vs i (split_left v n)) (split_right v n)
      (record { left = refl; right = refl; place = refl; links = refl }) refl
      (same_kept z gr0 marks tags right.plain_tree vs i v (split_left v n) at before refl refl refl refl (same_known gr0 tags v.held.nodes v.held.nodes refl)))

  -- a seat into which another one is joined
  join_kept : (other : ℕ) (u : View) → IsItem vs other u → (other ≡ i → ⊥) → Kept (set (set vs i (joined_with v u)) other spent_view)
  join_kept other u at' apart =
      none_kept z gr0 marks tags right.plain_tree (set vs i (joined_with v u)) other u spent_view (beside_item vs i other u (joined_with v u) at' apart)
      (step_kept z gr0 marks tags right.plain_tree vs i v (joined_with v u) at before refl refl (λ k. omega arith)
      (record {
        left = refl;
        right = refl;
        place = same_place v.reading.place;
        links = λ all. all;
        known = λ hs all. all;
        held = same_known gr0 tags v.held.nodes v.held.nodes refl;
      }))
      (record { left = refl; right = refl; place = refl; links = refl }) (none_leaving marks right.plain_tree spent_view refl)

  join_by : (other : ℕ) (o : Option View) → slice_get vs other ≡ o → (other ≡ i → ⊥) → may_join_found v o ≡ true → TurnsAfter z m (join_found vs i v other o)
  join_by other None is apart met = absurd (never met)
  join_by other (Some u) is apart met = given (set (set vs i (joined_with v u)) other spent_view) (join_kept other u (item_from_get vs other u is) apart)

  pub join_after : (w : Word) (value : ℕ) → may_join vs i v w value ≡ true → TurnsAfter z m (join_found vs i v value (slice_get vs value))
  join_after w value met =
      let one = and_parts (is_stamp w && not (eqb value i)) (may_join_found v (slice_get vs value)) met in
      let two = and_parts (is_stamp w) (not (eqb value i)) one.0 in
      join_by value (slice_get vs value) refl (not_equal value i two.1) one.1

  module _ (n : ℕ) (w : Word) (found : word_at z n ≡ Some w) (value : ℕ) where
    stored : (ws : List View) → TurnsAfter z (written m w value) ws → TurnsAfter z (memory z (set words n value)) ws
    stored ws gives = stored_turns z words vs right n w found value ws gives

    section_stored : (ws : List View) → OwnSection v.number w → Kept ws → TurnsAfter z (memory z (set words n value)) ws
    section_stored ws is kept = stored ws (subst (λ (u : Word). TurnsAfter z (written m u value) ws) (sym is.word) (given ws kept))

    pub leave_after : may_leave m v w value ≡ true → TurnsAfter z (memory z (set words n value)) (set vs i (left v value))
    leave_after met =
        section_stored (set vs i (left v value)) (own_section v.number w (and_parts _ _ (and_parts _ _ (and_parts _ _ (and_parts _ _ met).0).0).0).0)
        (nowhere_kept (left v value) (record { left = refl; right = refl; place = refl; links = refl }) refl)

    pub enter_after : may_enter v w value ≡ true → TurnsAfter z (memory z (set words n value)) (set vs i (entered z.passes v value))
    enter_after met =
        let same = entered_read z.passes v value in
        section_stored (set vs i (entered z.passes v value)) (own_section v.number w (and_parts _ _ (and_parts _ _ met).0).0)
        (nowhere_kept (entered z.passes v value) (stands_nowhere (entered z.passes v value) v.reading same.reading) same.taken)

    -- an update that is ended has taken nothing out
    until_leaving : (b : Bool) → LeavesMarked marks right.plain_tree (record v { update = cond b no_update v.update })
    until_leaving true = none_leaving marks right.plain_tree (record v { update = no_update }) refl
    until_leaving false = taken_before

    unlock_at : (u : Word) → may_unlock m v u value ≡ true → TurnsAfter z (written m u value) (set vs i (unlocked_from v u))
    unlock_at (Node Lock k) met =
        given (set vs i (unlocked_view v k))
        (none_kept z gr0 marks tags right.plain_tree vs i v (unlocked_view v k) at before (record { left = refl; right = refl; place = refl; links = refl })
        (until_leaving (eqb (length (other_nodes k v.held.nodes)) 0)))
    unlock_at _ met = absurd (never met)

    pub unlock_after : may_unlock m v w value ≡ true → TurnsAfter z (memory z (set words n value)) (set vs i (unlocked_from v w))
    unlock_after met = stored (set vs i (unlocked_from v w)) (unlock_at w met)

pub made_turns : KeepsTurnsAt MakeSeat
made_turns z words vs right i v at live n w found value o own met = absurd (never met)

pub stamp_turns : KeepsTurnsAt LoadStamp
stamp_turns z words vs right i v at live n w found value o own met =
    stamp_after z words vs right i v at (longest vs) (memory z words w) (eqb value 1) (tree_nodes (tree_now z (memory z words) vs))

pub look_turns : KeepsTurnsAt LookSec
look_turns z words vs right i v at live n w found value o own met = look_after z words vs right i v at w (memory z words w)

pub split_turns : KeepsTurnsAt SplitSeat
split_turns z words vs right i v at live n w found value o own met = split_after z words vs right i v at value

pub join_turns : KeepsTurnsAt JoinSeat
join_turns z words vs right i v at live n w found value o own met = join_after z words vs right i v at w value met

pub leave_turns : KeepsTurnsAt Leave
leave_turns z words vs right i v at live n w found value o own met = leave_after z words vs right i v at n w found value met

pub enter_turns : KeepsTurnsAt Enter
enter_turns z words vs right i v at live n w found value o own met = enter_after z words vs right i v at n w found value met

pub unlock_turns : KeepsTurnsAt Unlock
unlock_turns z words vs right i v at live n w found value o own met = unlock_after z words vs right i v at n w found value met
