-- What the needs of a step, when they are met, say of its seat.
use Rattle.std.proofs.Common.{◌≡◌, ℕ, ◌<◌, ◌≤◌, List, length, true, refl, subst, Some}
use Rattle.std.specs.List.{slice_get}
use Rattle.index_words.specs.declared.layout.Layout.{Layout}
use Rattle.key_map.specs.declared.update.Update.{Update}
use Rattle.index_words.specs.declared.view.View.{View}
use Rattle.index_words.specs.declared.word.Word.TheVariants.{Stamp}
use Rattle.index_words.specs.Words.{memory}
use Rattle.core_events.specs.Seats.{HasFree, HasCalls}
use Rattle.core_events.specs.Tables.{Table}
use Rattle.core_events.specs.TreeMoves.{is_tree_step}
use Rattle.core_events.proofs.Allowed.{seat_within, split_few, split_there, Other, join_other, raises, raise_steps}
use Rattle.machine_needs.specs.declared.step.Step.{Step}
use Rattle.machine_needs.specs.declared.step.Step.TheVariants as step
use Rattle.machine_needs.specs.StepParts.{parts_of}
use Rattle.machine_steps.specs.Changes.{event_of, IsMet}

module _ (z : Layout) (words : List ℕ) (views : List View) (seat : ℕ) (s : Step) (met : IsMet z words views seat s) where
  abbrev t : Table
  t = record { layout = z; words = words; views = views }

  pub has_seat : seat < length views
  has_seat = seat_within t (event_of z seat s) (parts_of s).word met

  pub few : (nodes : ℕ) → s ≡ step.Split nodes → nodes ≤ 1
  few nodes is = split_few t (event_of z seat (step.Split nodes)) Stamp (subst (IsMet z words views seat) is met) refl

  pub has_free : (nodes : ℕ) → s ≡ step.Split nodes → HasFree views seat nodes
  has_free nodes is = split_there t (event_of z seat (step.Split nodes)) Stamp (subst (IsMet z words views seat) is met) refl

  pub other_of : (other : ℕ) → s ≡ step.Join other → Other t (event_of z seat (step.Join other))
  other_of other is = join_other t (event_of z seat (step.Join other)) Stamp (subst (IsMet z words views seat) is met) refl

  pub has_calls : (u : Update) → s ≡ step.Raise u → HasCalls views seat
  has_calls u is = (raises t (event_of z seat (step.Raise u)) Stamp (subst (IsMet z words views seat) is met) refl).calls

  pub spells_step : (u : Update) → s ≡ step.Raise u → (v : View) → slice_get views seat ≡ Some v → is_tree_step z (memory z words) views v u ≡ true
  spells_step u is v found = raise_steps t (event_of z seat (step.Raise u)) Stamp (subst (IsMet z words views seat) is met) refl u refl v found
