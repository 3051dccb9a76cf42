-- An update that a try has carried out, and what a snapshot shows of a key.
use Rattle.std.proofs.Common.{◌≡◌, ◌↔◌, ◌⊎◌, ℕ, ◌+◌, ◌-◌, ◌<◌, ◌≤◌, List, [], ◌∷◌, ◌++◌, length, drop, Bool, true, false, arith, refl, ap, sym, ◌∙◌, subst, Option, Some, None, is_some, Ok, Err, IsErrOf, inl, inr}
use Rattle.std.proofs.lemmas.Bool.Decides.{nat_tests}
use Rattle.std.proofs.lemmas.List.{length-append, take-append-drop, length_push}
use Rattle.index_words.specs.declared.view.View.{View}
use Rattle.index_words.specs.declared.view.history.SeenHistory.{SeenHistory}
use Rattle.key_map.specs.declared.pair.Pair.{Pair}
use Rattle.key_map.specs.declared.update.Update.{Update}
use Rattle.key_map.specs.declared.update.Change.{Change}
use Rattle.key_map.specs.declared.update.Change.TheVariants.{Put, Remove}
use Rattle.key_map.specs.declared.pass.Done.{Done}
use Rattle.key_map.specs.declared.pass.PassError.{PassError}
use Rattle.key_map.specs.declared.pass.PassError.TheVariants.{NoSlot, Spent}
use Rattle.key_map.specs.History.{after}
use Rattle.key_map.specs.Map.{map_has, map_get, first_from, value_at}
use Rattle.key_map.proofs.HistoryLaws.{after-append, IsMap-after}
use Rattle.key_map.proofs.MapLaws.{map_get-first_from}
use Rattle.core_events.specs.LoadMoves.{risen}
use Rattle.core_updates.specs.Ready.{update_of}
use Rattle.plan_laws.specs.Answers.{owned_nodes, owned_entries}
use Rattle.snapshot_read.specs.Snapshots.{HasBegun}
use Rattle.tree_update.specs.Calls.{GoesOn, FixesNone, StaysOn, MakesChange, MovesNodes, LooksFor, HasMade, IsOutOfSlots, IsRefusal}
use Rattle.tree_update.proofs.CallSteps.{fixes_more, made_more}
use Rattle.update_search.specs.declared.search.Aim.{Aim}
use Rattle.update_search.specs.declared.search.Aim.TheVariants.{Grow}
use Rattle.update_search.specs.Aims.{change_of, has_found, key_of}
use Rattle.update_try.specs.Carried.{HasCarriedOut, MovesNodes as TryMovesNodes}

-- it is a removal
abbrev is_removal : Change → Bool
is_removal (Put val) = false
is_removal Remove = true

-- the nodes after an update, as a call states them
made_nodes : (change : Change) (was : Bool) (old new : ℕ) → TryMovesNodes change was old new
    → (is_removal change ≡ true → was ≡ true) → MovesNodes change was old new
made_nodes (Put val) false old new moves found = moves
made_nodes (Put val) true old new moves found = omega (arith, moves)
made_nodes Remove was old new moves found = (found refl, moves)

module _ (v w : View) (n line key : ℕ) (change : Change) (done : Done) (carried : HasCarriedOut v w n line key change done) where
  abbrev u : Update
  u = update_of n line key change

  abbrev old : List Update
  old = v.history.seen

  abbrev behind : List Update
  behind = drop (length old) carried.others

  whole : carried.others ≡ old ++ behind
  whole = sym (take-append-drop (length old) carried.others) ∙ ap (λ (xs : List Update). xs ++ behind) (sym carried.before)

  place_len : done.at ≡ length carried.others + 1
  place_len = carried.place_is ∙ ap (λ (xs : List Update). length xs) carried.seen ∙ length_push carried.others u

  map_before : after w.history.seen (done.at - 1) ≡ after carried.others (length carried.others)
  map_before =
      ap (λ (k : ℕ). after w.history.seen k) (omega (arith, place_len))
      ∙ ap (λ (xs : List Update). after xs (length carried.others)) carried.seen
      ∙ after-append carried.others (u ∷ []) (length carried.others) (omega arith)

  pub carried_made : (is_removal change ≡ true → done.was ≡ true) → MakesChange v w n line key change done
  carried_made found = record {
    update = record {
      above = omega (arith, place_len, ap (λ (xs : List Update). length xs) whole, length-append old behind);
      others = behind;
      seen = carried.seen ∙ ap (λ (xs : List Update). xs ++ u ∷ []) whole;
      place = carried.place_is;
      mine = carried.mine;
      left = carried.left;
      entries = carried.entries;
      looks = omega (arith, carried.looks);
    };
    was = sym carried.was ∙ ap (λ (m : List Pair). map_has key m) (sym map_before);
    nodes = made_nodes change done.was (owned_nodes v) (owned_nodes w) carried.nodes found;
  }

  pub carried_fixes : FixesNone v w
  carried_fixes = record { looks = carried.looks; found = carried.found }

-- an aim of a removal is one whose search has found the key
pub removal_found : (aim : Aim) → is_removal (change_of aim) ≡ true → has_found aim ≡ true
removal_found (Grow pair gap) is = cc
removal_found _ is = refl

-- a key is there exactly where it has a value
has_value : (key : ℕ) (m : List Pair) → map_has key m ≡ is_some (map_get key m)
has_value key [] = refl
has_value key (p ∷ ps) = grind (arith, nat_tests, has_value key ps)

has_first : (key t : ℕ) (us : List Update) → map_has key (after us t) ≡ is_some (value_at key (first_from key (after us t)))
has_first key t us =
    has_value key (after us t) ∙ ap (λ (o : Option ℕ). is_some o) (map_get-first_from key 0 (after us t) (IsMap-after us t))

risen_least : (n : ℕ) → n ≤ risen n
risen_least n = grind (arith, nat_tests)

pub begun_goes : (v w : View) (at : ℕ) → HasBegun v w at → GoesOn v w
begun_goes v w at begun = record {
  seen = begun.seen;
  mine = begun.mine;
  left = begun.left;
  nodes = omega (arith, begun.nodes);
  entries = omega (arith, begun.entries);
  looks = omega (arith, begun.looks, risen_least v.history.looks);
}

-- from the begin of a snapshot, in which the key was looked for, to its end
pub looked_found : (v b w : View) (key at : ℕ) (there : Bool) (first : Option Pair) → HasBegun v b at → StaysOn b w → w.history ≡ b.history → GoesOn v w
    → first ≡ first_from key (after b.history.seen at) → there ≡ is_some (value_at key first) → LooksFor v w key there at
looked_found v b w key at there first begun stays same goes is tells = record {
  goes = goes;
  found = stays.fixes.found ∙ begun.found;
  place = sym begun.whole ∙ ap (λ (h : SeenHistory). length h.seen) (sym same);
  looks = omega (arith, stays.fixes.looks, begun.looks);
  tells =
      ap (λ (h : SeenHistory). map_has key (after h.seen at)) same
      ∙ has_first key at b.history.seen ∙ ap (λ (o : Option Pair). is_some (value_at key o)) (sym is) ∙ sym tells;
}

-- an update that was carried out, by the key and the change of its aim, and from an earlier view on
pub made_as : (v w : View) (n m line key : ℕ) (change : Change) (aim : Aim) (done : Done) → n ≡ m → key_of aim ≡ key → change_of aim ≡ change
    → HasCarriedOut v w n line (key_of aim) (change_of aim) done → done.was ≡ has_found aim → HasMade v w m line key change done
made_as v w n m line key change aim done number key_is change_is is was =
    let made : HasMade v w n line (key_of aim) (change_of aim) done = (
      carried_made v w n line (key_of aim) (change_of aim) done is (λ removal. was ∙ removal_found aim removal),
      carried_fixes v w n line (key_of aim) (change_of aim) done is,
    ) in
    subst (λ (k : ℕ). HasMade v w k line key change done) number
    (subst (λ (k : ℕ). HasMade v w n line k change done) key_is (subst (λ (c : Change). HasMade v w n line (key_of aim) c done) change_is made))

pub has_made_more : (u v w : View) (n line key : ℕ) (change : Change) (done : Done) → StaysOn u v → HasMade v w n line key change done → HasMade u w n line key change done
has_made_more u v w n line key change done on is = (made_more u v w n line key change done on.goes is.0, fixes_more u v w on.fixes is.1)

-- a call is refused for this cause exactly if the cause holds
pub refused_spent : (v : View) (e : PassError) → IsRefusal v (Some e) → {T : Type 0} → IsErrOf {T = T} (Err e) Spent ↔ (v.history.left ≡ 0)
refused_spent v Spent is = (λ _. is, λ _. refl)
refused_spent v NoSlot is = (λ err. absurd (no_slot_spent err), λ left. absurd (omega (arith, is.0, left)))
  where
    no_slot_spent : {T : Type 0} → IsErrOf {T = T} (Err NoSlot) Spent → ⊥
    no_slot_spent err = cc

pub refused_slots : (v : View) (e : PassError) → IsRefusal v (Some e) → {T : Type 0} → IsErrOf {T = T} (Err e) NoSlot ↔ IsOutOfSlots v
refused_slots v Spent is = (λ err. absurd (spent_no_slot err), λ out. absurd (omega (arith, is, out.0)))
  where
    spent_no_slot : {T : Type 0} → IsErrOf {T = T} (Err Spent) NoSlot → ⊥
    spent_no_slot err = cc
refused_slots v NoSlot is = (λ _. is, λ _. refl)

pub accepted_spent : (v : View) → IsRefusal v None → {T : Type 0} (x : T) → IsErrOf (Ok x) Spent ↔ (v.history.left ≡ 0)
accepted_spent v is x = (λ err. absurd (no_error err), λ left. absurd (omega (arith, is.0, left)))
  where
    no_error : IsErrOf (Ok x) Spent → ⊥
    no_error err = cc

pub accepted_slots : (v : View) → IsRefusal v None → {T : Type 0} (x : T) → IsErrOf (Ok x) NoSlot ↔ IsOutOfSlots v
accepted_slots v is x = (λ err. absurd (no_error err), λ out. absurd (either out.1))
  where
    no_error : IsErrOf (Ok x) NoSlot → ⊥
    no_error err = cc

    either : (owned_nodes v < 1) ⊎ (owned_entries v < 4) → ⊥
    either (inl few) = omega (arith, few, is.1)
    either (inr few) = omega (arith, few, is.2)

-- the cause of an error is the same, whatever the call would have answered without it
pub same_cause : (A : Type 0) {S T : Type 0} (e f : PassError) → IsErrOf {T = S} (Err e) f ↔ A → IsErrOf {T = T} (Err e) f ↔ A
same_cause A {S = S} {T = T} e f is = (λ err. is.0 (ap (λ (x : PassError). Err x) (of err)), λ fact. ap (λ (x : PassError). Err x) (of (is.1 fact)))
  where
    of : {U : Type 0} → IsErrOf {T = U} (Err e) f → e ≡ f
    of err = cc

pub no_cause : (A : Type 0) {S T : Type 0} (x : S) (y : T) (f : PassError) → IsErrOf (Ok x) f ↔ A → IsErrOf (Ok y) f ↔ A
no_cause A x y f is = (λ err. absurd (none y err), λ fact. absurd (none x (is.1 fact)))
  where
    none : {U : Type 0} (z : U) → IsErrOf (Ok z) f → ⊥
    none z err = cc
