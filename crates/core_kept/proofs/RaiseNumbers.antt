-- Raise, its part on numbers: the pending entries and those of the new node have the number of the raise, and what
-- a number up to the stamp selects stays.
use Rattle.std.proofs.Common.{◌≡◌, ℕ, suc, ◌+◌, ◌<◌, ◌≤◌, ◌⊎◌, cond, List, [], ◌∷◌, ◌++◌, Bool, true, false, arith, refl, ap, ◌∙◌, sym, subst, inl, inr}
use Rattle.std.proofs.lemmas.Bool.{cases_lt}
use Rattle.index_words.specs.declared.layout.Layout.{Layout}
use Rattle.index_words.specs.declared.side.Side.{Side}
use Rattle.key_map.specs.declared.update.Update.{Update}
use Rattle.index_words.specs.declared.view.View.{View}
use Rattle.index_words.specs.declared.word.Field.TheVariants.{Head}
use Rattle.index_words.specs.declared.word.Part.TheVariants.{Stamp as Number}
use Rattle.index_words.specs.declared.word.Word.TheVariants.{Stamp, Node, Entry}
use Rattle.index_words.specs.Words.{Memory}
use Rattle.key_map.specs.Lists.{count, has, Every, IsItem}
use Rattle.index_words.proofs.Seats.{one_term}
use Rattle.key_map.proofs.Counting.{count-append, has-count, count-has}
use Rattle.core_links.specs.Bundle.{IsChain, no_number, select, AgreeAt}
use Rattle.core_links.proofs.Chains.{select-here, select-behind}
use Rattle.core_trees.specs.NamedTree.{NamedTree}
use Rattle.core_events.specs.declared.tree_move.TreeMove.{TreeMove}
use Rattle.core_events.specs.Numbered.{shown}
use Rattle.core_invariant.specs.Meanings.{Meaning}
use Rattle.core_invariant.specs.Histories.{calls_left}
use Rattle.core_invariant.specs.BundleRule.{IsLive, IsNumbered, TailWritten, Falls, IsPending}
use Rattle.core_invariant.specs.SeatRule.{SeatRight}
use Rattle.core_invariant.specs.MeaningMoves.{raised_numbers, with_added}
use Rattle.core_invariant.specs.Rule.{Rule}
use Rattle.core_kept.proofs.TreeMoved.{MovesTree}
use Rattle.core_invariant.proofs.Frames.{every_map, every_at}
use Rattle.core_invariant.proofs.BundleFrames.{falls_frame, falls_below, select_frame, select_in}
use Rattle.core_invariant.proofs.OneView.{seat_at}
use Rattle.core_kept.proofs.RaiseNew.{entry_apart, live_bundle}
use Rattle.core_invariant.proofs.Needed.{CanRaise}

-- a number stands in the one list or in the other
has_either : (d : ℕ) (xs ys : List ℕ) → has d (xs ++ ys) ≡ true → (0 < count d xs) ⊎ (0 < count d ys)
has_either d xs ys is =
    elim (cases_lt 0 (count d xs)) as (λ _. (0 < count d xs) ⊎ (0 < count d ys)) [
      | inl here ↦ inl here
      | inr none ↦ inr (omega (arith, none, count-append d xs ys, has-count d (xs ++ ys) is))
    ]

-- numbers that fall from the front lie below the top
falls_member : (number : ℕ → ℕ) (top d : ℕ) (es : List ℕ) → Falls number top es → 0 < count d es → number d < top
falls_member number top d [] falls here = absurd (omega (arith, here))
falls_member number top d (e ∷ es) falls here =
    elim (has_either d (e ∷ []) es (count-has d (e ∷ es) here)) as (λ _. number d < top) [
      | inl one ↦ every_at (λ x. number x < top) d (e ∷ []) (falls.0, tt) one
      | inr rest ↦ omega (arith, falls.0, falls_member number (number e) d es falls.1 rest)
    ]

-- the selected entry of the rest is not the entry in front
not_front : (number : ℕ → ℕ) (t e : ℕ) (es : List ℕ) → 0 < e → Falls number (number e) es → select number t es ≡ e → ⊥
not_front number t e es some falls is =
    elim (select_in number t es) as (λ _. ⊥) [
      | inl none ↦ omega (arith, some, is, none)
      | inr here ↦ omega (arith, falls_member number (number e) e es falls (subst (λ x. 0 < count x es) is here))
    ]

-- what two numbers select, each number between them selects
pub select-between : (next number : ℕ → ℕ) (t s n head top : ℕ) (es : List ℕ) → t ≤ s → s ≤ n → IsChain next head es → Falls number top es
    → select number t es ≡ select number n es → select number s es ≡ select number t es
select-between next number t s n head top [] low high chain falls same = refl
select-between next number t s n head top (e ∷ es) low high chain falls same =
    elim (cases_lt t (number e)) as (λ _. select number s (e ∷ es) ≡ select number t (e ∷ es)) [
      | inr here ↦ select-here number s e es (omega (arith, here, low)) ∙ sym (select-here number t e es here)
      | inl above ↦ elim (cases_lt n (number e)) as (λ _. select number s (e ∷ es) ≡ select number t (e ∷ es)) [
        | inl over ↦
            select-behind number s e es (omega (arith, over, high))
            ∙ select-between next number t s n (next e) (number e) es low high chain.2 falls.1
            (sym (select-behind number t e es above) ∙ same ∙ select-behind number n e es over)
            ∙ sym (select-behind number t e es above)
        | inr here ↦ absurd (not_front number t e es chain.1 falls.1 (sym (select-behind number t e es above) ∙ same ∙ select-here number n e es here))
      ]
    ]

module _ (z : Layout) (m : Memory) (vs : List View) (g : Meaning) (rule : Rule z m vs g) (i : ℕ) (v : View) (u : Update) (move : TreeMove) (tree : NamedTree)
    (at : IsItem vs i v) (can : CanRaise v u) (moves : MovesTree m g v u move tree) where
  abbrev s : ℕ
  s = m Stamp

  abbrev stamp : ℕ → ℕ
  stamp d = m (Entry Number d)

  abbrev head : Side → ℕ → ℕ
  head w k = m (Node (Head w) k)

  abbrev pending' : List ℕ
  pending' = v.update.pending ++ move.entries

  abbrev number' : ℕ → ℕ
  number' = raised_numbers g.bundles.number pending' (s + 1)

  abbrev bundle' : Side → ℕ → List ℕ
  bundle' = with_added g.bundles.bundle head move.added

  own : SeatRight z m g v
  own = seat_at z m vs g i v at rule

  pub low : s + 1 < no_number
  low = omega (arith, rule.history.calls, rule.history.few, can.left, one_term calls_left vs i v at)

  pending_is : (d : ℕ) → 0 < count d v.update.pending → IsPending z head stamp g.bundles.number v d
  pending_is d here = every_at (IsPending z head stamp g.bundles.number v) d v.update.pending own.pending here

  -- none of the entries had a written number
  unwritten : (d : ℕ) → has d pending' ≡ true → stamp d ≡ 0
  unwritten d is =
      elim (has_either d v.update.pending move.entries is) as (λ _. stamp d ≡ 0) [
        | inl old ↦ (pending_is d old).0
        | inr new ↦ (moves.fresh d new).1
      ]

  -- an entry with a written number keeps it
  written_by : (d : ℕ) (c : Bool) → has d pending' ≡ c → 0 < stamp d → cond c (s + 1) (g.bundles.number d) ≡ g.bundles.number d
  written_by d false is above = refl
  written_by d true is above = absurd (omega (arith, above, unwritten d is))

  pub written_kept : (d : ℕ) → 0 < stamp d → number' d ≡ g.bundles.number d
  written_kept d above = written_by d (has d pending') refl above

  pub numbered_now : (d : ℕ) → 0 < count d pending' → number' d ≡ s + 1
  numbered_now d here = ap (λ b. cond b (s + 1) (g.bundles.number d)) (count-has d pending' here)

  -- the numbers of a bundle still fall
  same_now : (d : ℕ) → IsNumbered s stamp g.bundles.number d → IsNumbered s stamp number' d
  same_now d right above = (written_kept d above ∙ (right above).0, (right above).1)

  falls_by : (d : ℕ) (es : List ℕ) (c : Bool) → Every (IsNumbered s stamp g.bundles.number) es → Every (λ x. 0 < stamp x) es
      → Falls number' (g.bundles.number d) es → Falls number' (cond c (s + 1) (g.bundles.number d)) es
  falls_by d es false numbers written rest = rest
  falls_by d es true numbers written rest =
      falls_below s (g.bundles.number d) (s + 1) stamp number' es (omega arith)
      (every_map (IsNumbered s stamp g.bundles.number) (IsNumbered s stamp number') es same_now numbers) written rest

  top_by : (d : ℕ) (c : Bool) → g.bundles.number d < suc no_number → cond c (s + 1) (g.bundles.number d) < suc no_number
  top_by d true below = omega (arith, low)
  top_by d false below = below

  falls_now : (es : List ℕ) → Every (IsNumbered s stamp g.bundles.number) es → TailWritten stamp es → Falls g.bundles.number (suc no_number) es
      → Falls number' (suc no_number) es
  falls_now [] numbers written right = tt
  falls_now (d ∷ es) numbers written right = (
    top_by d (has d pending') right.0,
    falls_by d es (has d pending') numbers.1 written
        (falls_frame g.bundles.number number' (g.bundles.number d) es (λ x here. written_kept x (every_at (λ y. 0 < stamp y) x es written here)) right.1),
  )

  pub old_falls : (k : ℕ) (w : Side) → IsLive z vs k → Falls number' (suc no_number) (g.bundles.bundle w k)
  old_falls k w live = let right = rule.bundles k live w in falls_now (g.bundles.bundle w k) right.numbers right.tail right.falls

  -- a number is still above what it was above, up to the stamp
  above_by : (t d : ℕ) (c : Bool) → t ≤ s → t < g.bundles.number d → t < cond c (s + 1) (g.bundles.number d)
  above_by t d true past above = omega (arith, past)
  above_by t d false past above = above

  pub above_still : (t d : ℕ) → t ≤ s → t < g.bundles.number d → t < number' d
  above_still t d past above = above_by t d (has d pending') past above

  -- an entry that has the new number, and is not of the new node, had none
  numberless : (d : ℕ) → has d pending' ≡ true → count d move.entries ≡ 0 → g.bundles.number d ≡ no_number
  numberless d is old = (pending_is d (omega (arith, has-count d pending' is, count-append d v.update.pending move.entries, old))).1 ∙ ap shown can.raised

  agree_by : (t d : ℕ) (c : Bool) → has d pending' ≡ c → t ≤ s → count d move.entries ≡ 0
      → AgreeAt t g.bundles.number (λ x. cond c (s + 1) (g.bundles.number x)) d
  agree_by t d true is past old = inr (omega (arith, past, low, numberless d is old), omega (arith, past))
  agree_by t d false is past old = inl refl

  pub selects_old : (t k : ℕ) (w : Side) → t ≤ s → IsLive z vs k → select g.bundles.number t (g.bundles.bundle w k) ≡ select number' t (g.bundles.bundle w k)
  selects_old t k w past live =
      select_frame t g.bundles.number number' (g.bundles.bundle w k)
      (λ d here. agree_by t d (has d pending') refl past (entry_apart z m vs g rule i v u move tree at moves k d w live here))

  pub selects : (t k : ℕ) (w : Side) → t ≤ s → IsLive z vs k → select g.bundles.number t (g.bundles.bundle w k) ≡ select number' t (bundle' w k)
  selects t k w past live = selects_old t k w past live ∙ ap (select number' t) (sym (live_bundle z m vs g rule i v u move tree at moves k w live))
