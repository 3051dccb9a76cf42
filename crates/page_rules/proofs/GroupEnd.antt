-- The end of a group stands where one name begins with it and the next one does not.
use Rattle.std.proofs.Common.{◌≡◌, ℕ, ◌+◌, ◌<◌, ◌≤◌, true, false, List, [], length, sym, ◌∙◌, inl, inr, arith}
use Rattle.std.proofs.lemmas.Bool.{cases_lt, or_cases, or_right, both_ways, false_from_ne_true, lt-ltb, le-ltb}
use Rattle.key_names.specs.Names.{Rises, name_at}
use Rattle.key_names.specs.Ranks.{is_upto_prefix, StandFirst}
use Rattle.key_names.proofs.Places.{prefix_downward, partitioned}
use Rattle.page_rules.specs.GroupEnd.{AreAroundEnd}
use Rattle.page_rules.proofs.NameOrder.{above_trans, begins_not_below}
use Rattle.page_rules.proofs.Admission.{above_by_rank}

-- the name after the end is not below the group, and does not begin with it
outside_fails : (dir : List (List ℕ)) (group : List ℕ) (inside outside : ℕ) → Rises dir → AreAroundEnd dir group inside outside → outside < length dir → is_upto_prefix (name_at dir outside) group ≡ false
outside_fails dir group inside outside rises around below =
    false_from_ne_true _ (λ passes. elim (or_cases _ _ passes) [
      | inl before ↦
          let higher = above_by_rank dir inside outside rises around.rise below in
          both_ways _ (begins_not_below (name_at dir inside) group around.begins) (above_trans (name_at dir inside) (name_at dir outside) group higher before)
      | inr begins ↦ both_ways _ (around.behind below) begins
    ])

pub ends_there : (dir : List (List ℕ)) (group : List ℕ) (inside outside : ℕ) → Rises dir → AreAroundEnd dir group inside outside → outside ≤ inside + 1 → StandFirst (λ name. is_upto_prefix name group) dir outside
ends_there dir group inside outside rises around next k below =
    let test = λ (name : List ℕ). is_upto_prefix name group in
    let parted = partitioned test dir (prefix_downward group) rises in
    let rise = around.rise in
    let within = around.within in
    elim (cases_lt k outside) [
      | inl first ↦
          let passes : test (name_at dir inside) ≡ true = or_right _ _ around.begins in
          lt-ltb k outside first ∙ sym (parted k inside [] (omega (arith, next)) (omega (arith, rise, within)) passes)
      | inr later ↦
          let fails = outside_fails dir group inside outside rises around (omega (arith, later, below)) in
          le-ltb k outside later ∙ sym (false_from_ne_true _ (λ passes. both_ways _ fails (parted outside k [] later below passes)))
    ]
