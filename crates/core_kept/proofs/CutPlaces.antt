-- Where seats stand after a cut: one that reads, or works on the node, stands at no entry that is cut off.
use Rattle.std.proofs.Common.{◌≡◌, ℕ, ◌<◌, ◌≤◌, ◌⊎◌, cond, List, [], ◌∷◌, ◌++◌, Bool, true, false, is_some, arith, refl, ◌∙◌, sym, inl, inr, Option, Some, None}
use Rattle.std.specs.Prelude.{IfSome}
use Rattle.std.proofs.lemmas.Bool.{cases_lt}
use Rattle.index_words.specs.declared.layout.Layout.{Layout}
use Rattle.index_words.specs.declared.side.Side.{Side}
use Rattle.index_words.specs.declared.view.View.{View}
use Rattle.index_words.specs.declared.view.reading.Place.{Place}
use Rattle.index_words.specs.declared.view.reading.Place.TheVariants.{Entry as AtEntry}
use Rattle.index_words.specs.declared.word.Part.TheVariants.{Stamp as Number}
use Rattle.index_words.specs.declared.word.Word.TheVariants.{Entry}
use Rattle.index_words.specs.Words.{Memory}
use Rattle.key_map.specs.Lists.{count, has, Every, IsItem}
use Rattle.key_map.proofs.Counting.{count-has}
use Rattle.index_words.proofs.Seats.{Beside, at_item}
use Rattle.core_grace.specs.Holds.{Bundles}
use Rattle.core_events.specs.CutMoves.{place_cut, cut_view}
use Rattle.core_invariant.specs.Meanings.{Meaning}
use Rattle.core_invariant.specs.PruneRule.{ReadsFrom}
use Rattle.core_invariant.specs.Readers.{IsWatched, IsLocked, StandsAt, IsPassed, PlaceRight}
use Rattle.core_invariant.specs.Rule.{Rule}
use Rattle.core_invariant.proofs.Frames.{every_map}
use Rattle.core_invariant.proofs.Locked.{locked_apart}
use Rattle.core_invariant.proofs.Sides.{by_link}
use Rattle.core_invariant.proofs.AtEntries.{IsCutAt}
use Rattle.core_kept.proofs.CutLists.{StandsBehind, reader_stands, holder_stands}
use Rattle.core_kept.proofs.CutBundles.{cut_bundles}

apart : (c : Bool) → c ≡ false → c ≡ true → ⊥
apart true off on = cc
apart false off on = cc

-- an entry that is not in the list is not counted in it
pub not_counted : (x : ℕ) (es : List ℕ) → has x es ≡ false → count x es ≡ 0
not_counted x es lacks =
    elim (cases_lt 0 (count x es)) as (λ _. count x es ≡ 0) [
      | inl some ↦ absurd (apart (has x es) lacks (count-has x es some))
      | inr none ↦ omega (arith, none)
    ]

module _ (z : Layout) (m : Memory) (vs : List View) (g : Meaning) (rule : Rule z m vs g) (i : ℕ) (v : View) (at : IsItem vs i v) (e : ℕ)
    (cut : IsCutAt z m vs g v e) where
  abbrev b : Bundles
  b = g.bundles

  abbrev kept : List ℕ
  kept = cut.front ++ e ∷ []

  abbrev b' : Bundles
  b' = cut_bundles b cut.side cut.node e cut.front

  abbrev w : View
  w = cut_view v e cut.back

  abbrev stamp : ℕ → ℕ
  stamp d = m (Entry Number d)

  pub reads_from : (j : ℕ) (u : View) → IsItem vs j u → ReadsFrom (b.number e) u
  reads_from j u of = at_item (ReadsFrom (b.number e)) vs j u of cut.read

  pub unlocked : (u : View) → Beside vs i u → IsLocked u cut.node → ⊥
  unlocked u beside held = omega (arith, held, locked_apart z m vs g rule i cut.node v u at beside cut.locked)

  -- another seat that watches the node reads at a number, so it has passed nothing that this number selects
  reader_by : (u : View) (x : ℕ) (section : Option ℕ) (front back : List ℕ) → (IsLocked u cut.node → ⊥) → is_some section ≡ true
      → IfSome section (λ t. b.number e ≤ t)
      → Every (λ d. IfSome section (λ t. IsLocked u cut.node ⊎ (t < b.number d))) front → cut.front ++ e ∷ cut.back ≡ front ++ x ∷ back
      → StandsBehind kept front x
  reader_by u x None front back free reads low passed same = cc
  reader_by u x (Some t) front back free reads low passed same =
      reader_stands b.number t e x cut.front cut.back front back low
      (every_map (λ d. IsLocked u cut.node ⊎ (t < b.number d)) (λ d. t < b.number d) front
      (λ d by. elim by as (λ _. t < b.number d) [ inl held ↦ absurd (free held) | inr above ↦ above ]) passed) same

  other_stands : (u : View) → Beside vs i u → (x : ℕ) (found above : Option ℕ) (n : ℕ) (s : Side) → IsWatched u n
      → StandsAt stamp (b.bundle s n) x found above (IsPassed b.number u n) → StandsAt stamp (b'.bundle s n) x found above (IsPassed b.number u n)
  other_stands u beside x found above n s watched old =
      by_link (λ t j es. IsWatched u j → StandsAt stamp (b.bundle t j) x found above (IsPassed b.number u j)
      → StandsAt stamp es x found above (IsPassed b.number u j))
      b.bundle cut.side cut.node kept
      (λ seen stood.
      let behind : StandsBehind kept stood.front x = here seen stood in
      record { front = stood.front; back = behind.back; splits = behind.splits; passed = stood.passed; found = stood.found; falls = stood.falls })
      (λ t j other seen stood. stood) s n watched old
    where
      here : IsWatched u cut.node → (stood : StandsAt stamp (b.bundle cut.side cut.node) x found above (IsPassed b.number u cut.node))
          → StandsBehind kept stood.front x
      here (inl held) stood = absurd (unlocked u beside held)
      here (inr reads) stood =
          reader_by u x u.reading.section stood.front stood.back (unlocked u beside) reads (reads_from beside.place u beside.at) stood.passed
          (sym cut.splits ∙ stood.splits)

  pub other_place : (u : View) → Beside vs i u → (place : Place) → PlaceRight z stamp b u place → PlaceRight z stamp b' u place
  other_place u beside (AtEntry n s x found) right = record {
    reach = right.reach;
    stands = λ some watched. other_stands u beside x found u.reading.above n s watched (right.stands some watched);
  }
  other_place u beside _ right = tt

  -- the seat itself
  own_stands : (x : ℕ) (found above : Option ℕ) (n : ℕ) (s : Side) → count x cut.back ≡ 0
      → StandsAt stamp (b.bundle s n) x found above (IsPassed b.number v n) → StandsAt stamp (b'.bundle s n) x found above (IsPassed b.number w n)
  own_stands x found above n s none old =
      by_link (λ t j es. StandsAt stamp (b.bundle t j) x found above (IsPassed b.number v j) → StandsAt stamp es x found above (IsPassed b.number w j))
      b.bundle cut.side cut.node kept
      (λ stood.
      let behind : StandsBehind kept stood.front x = holder_stands e x cut.front cut.back stood.front stood.back none (sym cut.splits ∙ stood.splits) in
      record { front = stood.front; back = behind.back; splits = behind.splits; passed = stood.passed; found = stood.found; falls = stood.falls })
      (λ t j other stood. record {
        front = stood.front;
        back = stood.back;
        splits = stood.splits;
        passed = stood.passed;
        found = stood.found;
        falls = stood.falls;
      }) s n old

  own_entry : (n x : ℕ) (s : Side) (found : Option ℕ) (c : Bool) → has x cut.back ≡ c → PlaceRight z stamp b v (AtEntry n s x found)
      → PlaceRight z stamp b' w (cond c (AtEntry n s 0 None) (AtEntry n s x found))
  own_entry n x s found true is right = record { reach = right.reach; stands = λ some. absurd (omega (arith, some)) }
  own_entry n x s found false is right = record {
    reach = right.reach;
    stands = λ some watched. own_stands x found v.reading.above n s (not_counted x cut.back is) (right.stands some watched);
  }

  pub own_place : (place : Place) → PlaceRight z stamp b v place → PlaceRight z stamp b' w (place_cut cut.back place)
  own_place (AtEntry n s x found) right = own_entry n x s found (has x cut.back) refl right
  own_place _ right = tt
