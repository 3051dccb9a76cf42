-- What a try that succeeded has done, from its begin to its end.
use Rattle.std.proofs.Common.{◌≡◌, ℕ, suc, ◌+◌, ◌≤◌, refl, List, [], ◌∷◌, ◌++◌, length, take, ap, sym, ◌∙◌, subst, arith}
use Rattle.std.proofs.lemmas.List.{length-append}
use Rattle.index_words.specs.declared.view.View.{View}
use Rattle.index_words.specs.declared.view.history.SeenHistory.{SeenHistory}
use Rattle.index_words.specs.declared.view.slots.Slots.{Slots}
use Rattle.index_words.specs.declared.word.Word.TheVariants.{Stamp}
use Rattle.key_map.specs.declared.update.Update.{Update}
use Rattle.key_map.specs.History.{after}
use Rattle.key_map.specs.Map.{map_has}
use Rattle.core_events.specs.LoadMoves.{longest}
use Rattle.core_events.specs.Tables.{held_by}
use Rattle.core_updates.specs.declared.plan.Plan.{Plan}
use Rattle.core_updates.specs.declared.plan.PlanSlots.{PlanSlots}
use Rattle.core_updates.specs.declared.plan.Front.{Front}
use Rattle.core_updates.specs.declared.plan.Plan.TheVariants.{Grow, Replace, Lift, Join}
use Rattle.core_updates.specs.Plans.{change_of, entries_of, key_of, fronts_of}
use Rattle.plan_laws.specs.Answers.{owned_nodes, owned_entries, was_there, MovesNodes as MovesBy}
use Rattle.plan_laws.specs.Frames.{KeepsPass}
use Rattle.plan_laws.specs.Prunes.{KeepsPruned}
use Rattle.plan_laws.specs.Raises.{update_by}
use Rattle.plan_laws.proofs.Answered.{four_entries}
use Rattle.table_steps.specs.Passes.{Pass}
use Rattle.update_try.specs.Carried.{HasCarriedOut, MovesNodes}
use Rattle.update_try.specs.Preparing.{IsRaisedBy}

owned_nodes_same : (v w : View) → w.free.nodes ≡ v.free.nodes → w.batch ≡ v.batch → w.retired ≡ v.retired → owned_nodes w ≡ owned_nodes v
owned_nodes_same v w free batch retired =
    omega (arith, ap (λ (xs : List ℕ). length xs) free, ap (λ (s : Slots). length s.nodes) batch, ap (λ (s : Slots). length s.nodes) retired)

owned_entries_same : (v w : View) → w.free ≡ v.free → w.batch ≡ v.batch → w.retired ≡ v.retired → owned_entries w ≡ owned_entries v
owned_entries_same v w free batch retired =
    omega (arith, ap (λ (s : Slots). length s.entries) free, ap (λ (s : Slots). length s.entries) batch, ap (λ (s : Slots). length s.entries) retired)

-- the nodes after an update, by its change and its answer
moves_by : (plan : Plan) (old new : ℕ) → MovesBy plan old new → MovesNodes (change_of plan) (was_there plan) old new
moves_by (Grow p) old new is = is
moves_by _ old new is = is

-- there is an entry for each front
entries_long : (fs : List Front) → length (entries_of fs) ≡ length fs
entries_long [] = refl
entries_long (f ∷ fs) = ap suc (entries_long fs)

module _ (v w : View) (p q : Pass) (line : ℕ) (plan : Plan) (slots : PlanSlots) (place : ℕ) (before : KeepsPass v p.view) (owned : owned_entries p.view + length (fronts_of plan slots) ≡ owned_entries v)
    (raised : IsRaisedBy p q line plan slots place) (behind : KeepsPruned q.view w) where
  abbrev stamp : ℕ
  stamp = held_by raised.t Stamp

  abbrev others : List Update
  others = longest raised.t.views

  seen_is : w.history.seen ≡ others ++ update_by p.number line plan ∷ []
  seen_is = ap (λ (h : SeenHistory). h.seen) behind.history ∙ raised.answers.seen

  place_len : place ≡ length w.history.seen
  place_len = raised.place_is ∙ sym raised.answers.place ∙ ap (λ (h : SeenHistory). length h.seen) (sym behind.history)

  stamp_len : stamp ≡ length others
  stamp_len = omega (arith, place_len, raised.place_is, ap (λ (us : List Update). length us) seen_is, length-append others (update_by p.number line plan ∷ []))

  nodes_before : owned_nodes p.view ≡ owned_nodes v
  nodes_before = owned_nodes_same v p.view before.nodes before.batch before.retired

  nodes_behind : owned_nodes w ≡ owned_nodes q.view
  nodes_behind =
      omega (arith, ap (λ (s : Slots). length s.nodes) behind.free, ap (λ (s : Slots). length s.nodes) behind.batch, ap (λ (xs : List ℕ). length xs) behind.nodes)

  -- what was cut is owned
  entries_behind : owned_entries q.view ≤ owned_entries w
  entries_behind = omega (arith, ap (λ (s : Slots). length s.entries) behind.free, ap (λ (s : Slots). length s.entries) behind.batch, behind.entries)

  pub has_done : HasCarriedOut v w p.number line (key_of plan) (change_of plan) (record { at = place; was = was_there plan })
  has_done = record {
    others = others;
    before = subst (λ (h : SeenHistory). h.seen ≡ take (length h.seen) others) before.history raised.answers.before;
    seen = seen_is;
    place_is = place_len;
    mine = ap (λ (h : SeenHistory). h.mine) behind.history ∙ raised.answers.mine ∙ ap (λ (h : SeenHistory). h.mine ++ (stamp + 1) ∷ []) before.history ∙ ap (λ k. v.history.mine ++ k ∷ []) (sym raised.place_is);
    left = ap (λ (h : SeenHistory). h.left + 1) behind.history ∙ raised.answers.left ∙ ap (λ (h : SeenHistory). h.left) before.history;
    found = ap (λ (h : SeenHistory). h.found) behind.history ∙ raised.answers.found ∙ ap (λ (h : SeenHistory). h.found) before.history;
    looks = ap (λ (h : SeenHistory). h.looks) behind.history ∙ raised.answers.looks ∙ ap (λ (h : SeenHistory). h.looks) before.history;
    was = subst (λ k. map_has (key_of plan) (after others k) ≡ was_there plan) stamp_len raised.answers.was;
    nodes = moves_by plan (owned_nodes v) (owned_nodes w)
        (subst (λ k. MovesBy plan k (owned_nodes w)) nodes_before (subst (λ k. MovesBy plan (owned_nodes p.view) k) (sym nodes_behind) raised.answers.nodes));
    entries = omega (arith, owned, raised.answers.entries, four_entries plan slots, entries_long (fronts_of plan slots), entries_behind);
  }

pub entries_filled : (v w x : View) (count : ℕ) → w.free ≡ v.free → w.batch ≡ v.batch → w.retired ≡ v.retired → owned_entries x + count ≡ owned_entries w → owned_entries x + count ≡ owned_entries v
entries_filled v w x count free batch retired is = is ∙ owned_entries_same v w free batch retired
