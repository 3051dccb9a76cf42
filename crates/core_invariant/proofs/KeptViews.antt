-- Which parts of its view an event of one seat keeps, what a join leaves, and what an allowed event gives.
use Rattle.std.proofs.Common.{◌≡◌, ℕ, [], ◌∷◌, List, false, refl, ap, Option, ◌++◌, Bool, true, set, ◌∙◌, Some, None, sym, subst, length-set}
use Rattle.std.specs.List.{All, slice_get}
use Rattle.std.proofs.lemmas.List.Elements.{All-set, All-push}
use Rattle.index_words.specs.declared.layout.Layout.{Layout}
use Rattle.index_words.specs.declared.view.View.{View}
use Rattle.index_words.specs.declared.view.history.SeenHistory.{SeenHistory}
use Rattle.index_words.specs.declared.word.Word.{Word}
use Rattle.index_words.specs.Words.{Memory, memory, written, word_at}
use Rattle.index_words.specs.Views.{spent_view}
use Rattle.index_words.proofs.Store.{stored_at}
use Rattle.key_map.specs.declared.update.Update.{Update}
use Rattle.core_events.specs.declared.event.Kind.{Kind}
use Rattle.core_events.specs.declared.event.Kind.TheVariants.{Enter, MakeSeat, SplitSeat, JoinSeat}
use Rattle.core_events.specs.Moves.{in_section, entered, split_left, split_right, joined_with}
use Rattle.core_events.specs.Steps.{view_after, views_after, join_found}
use Rattle.core_invariant.proofs.Groups.{Group, OwnerPart, part}
use Rattle.core_invariant.proofs.Groups.Group.{Owner, Inside, Announcing, History, Snapshot}
use Rattle.core_invariant.proofs.Footprints.{touches, keeps, Parts, parts, Spares, parts_entered, parts_kept}
use Rattle.core_invariant.specs.SpentViews.{IsSpent}
use Rattle.core_invariant.specs.Meanings.{Meaning}
use Rattle.core_invariant.specs.Rule.{Rule, InRule}
use Rattle.core_invariant.specs.LinkLaw.{Kept}
use Rattle.core_invariant.specs.KeptRule.{After}
use Rattle.core_invariant.specs.PlainRule.{PlainRight}

-- what a seat is, what its own words hold, what it knows, its section number and its open snapshot
pub record SeatPart : Type 0 where
  pub owner : OwnerPart
  pub word : ℕ
  pub announced : ℕ
  pub history : SeenHistory
  pub section : Option ℕ
  pub opened : Option ℕ

abbrev pub owner_of : View → OwnerPart
owner_of v = part Owner v

abbrev pub seat_groups : List Group
seat_groups = Owner ∷ Inside ∷ Announcing ∷ History ∷ Snapshot ∷ []

abbrev seat_part : Parts seat_groups → SeatPart
seat_part p = record { owner = p.0; word = p.1.0; announced = p.1.1.0; history = p.1.1.1.0; section = p.1.1.1.1.0.0; opened = p.1.1.1.1.0.1 }

abbrev pub part_of : View → SeatPart
part_of v = seat_part (parts seat_groups v)

pub entered_part : (passes value : ℕ) (v : View) → part_of (entered passes v value) ≡ part_of (in_section v value)
entered_part passes value v = ap seat_part (parts_entered passes value v seat_groups (refl, (refl, (refl, (refl, (refl, tt))))))

owner_off : (kind : Kind) → touches kind Owner ≡ false
owner_off Enter = refl
owner_off _ = refl

module _ (z : Layout) (m : Memory) (vs : List View) (v : View) (w : Word) (x value : ℕ) (o : Option Update) where
  -- a kind that touches none of it
  pub still_kept : (kind : Kind) → Spares kind seat_groups → part_of (view_after kind z m vs v w x value o) ≡ part_of v
  still_kept kind off = ap seat_part (parts_kept z m vs v x value o kind w seat_groups off)

  -- no event changes what a seat is
  owner_kept : (kind : Kind) → owner_of (view_after kind z m vs v w x value o) ≡ owner_of v
  owner_kept kind = keeps z m vs v x value o kind w Owner (owner_off kind)

  pub joined_kept : (kind : Kind) → (view_after kind z m vs v w x value o).joined ≡ v.joined
  joined_kept kind = ap (λ (p : OwnerPart). p.joined) (owner_kept kind)

  pub layout_kept : (kind : Kind) → (view_after kind z m vs v w x value o).layout ≡ v.layout
  layout_kept kind = ap (λ (p : OwnerPart). p.layout) (owner_kept kind)

  pub to_give_kept : (kind : Kind) → (view_after kind z m vs v w x value o).to_give ≡ v.to_give
  to_give_kept kind = ap (λ (p : OwnerPart). p.to_give) (owner_kept kind)

-- No event except a join changes whether a view was joined, and a join leaves nothing of the other view.

-- a view that was not joined
pub live_spent : (v : View) → v.joined ≡ false → IsSpent v
live_spent v live joined = absurd (apart v.joined live joined)
  where
    apart : (c : Bool) → c ≡ false → c ≡ true → ⊥
    apart true f t = cc
    apart false f t = cc

module _ (z : Layout) (m : Memory) (vs : List View) (i : ℕ) (v : View) (w : Word) (value : ℕ) (o : Option Update) (all : All IsSpent vs) (live : v.joined ≡ false) where
  moved_spent : (kind : Kind) → All IsSpent (set vs i (view_after kind z m vs v w (m w) value o))
  moved_spent kind =
      let w' : View = view_after kind z m vs v w (m w) value o in
      All-set IsSpent vs i w' (live_spent w' (joined_kept z m vs v w (m w) value o kind ∙ live)) all

  join_spent : (found : Option View) → All IsSpent (join_found vs i v value found)
  join_spent None = all
  join_spent (Some u) =
      All-set IsSpent (set vs i (joined_with v u)) value spent_view (λ _. refl) (All-set IsSpent vs i (joined_with v u) (live_spent (joined_with v u) live) all)

  split_spent : All IsSpent (set vs i (split_left v value) ++ split_right v value ∷ [])
  split_spent =
      All-push IsSpent (set vs i (split_left v value)) (split_right v value) (All-set IsSpent vs i (split_left v value) (live_spent (split_left v value) live) all) (live_spent (split_right v value) refl)

  -- the views that were joined are spent after an event of a live one
  pub spent_after : (kind : Kind) → All IsSpent (views_after kind z m vs i v w value o)
  spent_after MakeSeat = all
  spent_after SplitSeat = split_spent
  spent_after JoinSeat = join_spent (slice_get vs value)
  spent_after kind = moved_spent kind

-- What an allowed event gives: the rule over what the words and the views are then.
pub kept_same : (z : Layout) (m : Memory) (vs : List View) (g : Meaning) (m' : Memory) (ws : List View) → Rule z m' ws g → (PlainRight m vs g → PlainRight m' ws g)
    → Kept z m vs g m' ws
kept_same z m vs g m' ws rule plain = record { meaning = g; rule = rule; same = λ t k side past live live'. refl; plain = plain; stays = λ e. refl }

-- the rule over the words after a store
pub store_right : (z : Layout) (words : List ℕ) (vs : List View) (n x : ℕ) (w : Word) (right : InRule z words vs) (ws : List View) → word_at z n ≡ Some w
    → Kept z (memory z words) vs right.meaning (written (memory z words) w x) ws → After z words vs right (set words n x) ws
store_right z words vs n x w right ws found kept = record {
  size = length-set words n x ∙ right.size;
  kept = subst (λ (m : Memory). Kept z (memory z words) vs right.meaning m ws) (sym (stored_at z words n w x right.size found)) kept;
}

pub load_right : (z : Layout) (words : List ℕ) (vs : List View) (right : InRule z words vs) (ws : List View) → Rule z (memory z words) ws right.meaning
    → (PlainRight (memory z words) vs right.meaning → PlainRight (memory z words) ws right.meaning) → After z words vs right words ws
load_right z words vs right ws rule plain =
    record { size = right.size; kept = kept_same z (memory z words) vs right.meaning (memory z words) ws rule plain }
