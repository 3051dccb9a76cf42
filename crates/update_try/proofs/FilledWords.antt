-- The fills of a try: each is of a word of a free slot of the pass, and of a word of the table.
use Rattle.std.proofs.Common.{◌≡◌, ℕ, ◌<◌, ◌≤◌, ◌&&◌, List, [], ◌∷◌, ◌++◌, ltb, leb, cond, Bool, true, false, refl, ap, sym, ◌∙◌, subst, arith}
use Rattle.std.proofs.lemmas.Bool.Decides.{nat_tests}
use Rattle.index_words.specs.declared.layout.Layout.{Layout}
use Rattle.index_words.specs.declared.view.View.{View}
use Rattle.index_words.specs.declared.view.reading.Filled.{Filled}
use Rattle.index_words.specs.declared.view.slots.Slots.{Slots}
use Rattle.index_words.specs.declared.word.Word.{Word}
use Rattle.index_words.specs.declared.word.Word.TheVariants.{Stamp, Section, Announced, Node, Entry}
use Rattle.index_words.specs.Words.{is_there}
use Rattle.index_words.proofs.Seats.{one_term}
use Rattle.key_map.specs.Lists.{count, Every}
use Rattle.core_grace.specs.Sections.{is_even}
use Rattle.core_grace.specs.Slots.{own, nodes_of}
use Rattle.core_events.specs.FillMoves.{filled_view, filled_with, with_filled, known_before, used_view}
use Rattle.core_invariant.proofs.Owned.{slot_high}
use Rattle.core_laws.specs.ViewNeeds.{IsInside, MayFill}
use Rattle.plan_laws.specs.Fills.{filled_all}
use Rattle.plan_laws.specs.Frames.{KeepsTry}
use Rattle.plan_laws.proofs.Frames.{keeps_try, steps_keep}
use Rattle.table_rule.specs.Homes.{IsLiveView}
use Rattle.table_rule.proofs.Lists.{item_at}
use Rattle.table_steps.proofs.There.{free_entry_there}
use Rattle.update_try.proofs.Steps.{try_same}

abbrev CanFill : View → Filled → Type 0
CanFill v f = MayFill v f.word

-- a word that may be filled is one of the table
node_there : (z : Layout) (node : ℕ) → node ≤ z.nodes → leb node z.nodes ≡ true
node_there z node low = grind (arith, nat_tests)

pub entry_there : (z : Layout) (e : ℕ) → 0 < e → e ≤ z.entries → (ltb 0 e && leb e z.entries) ≡ true
entry_there z e some low = grind (arith, nat_tests)

module _ (v : View) (live : IsLiveView v) where
  free_node_low : (k : ℕ) → 0 < count k v.free.nodes → k ≤ v.layout.nodes
  free_node_low k some =
      let s = live.stands in
      slot_high v.layout.nodes k (omega (arith, s.rule.rule.slots.nodes.one k, one_term (own nodes_of k) s.views s.seat v (item_at s.views s.seat v s.at), some))

  pub fill_there : (w : Word) → MayFill v w → is_there v.layout w ≡ true
  fill_there (Node field k) may = node_there v.layout k (free_node_low k may.1)
  fill_there (Entry part e) may = let low = free_entry_there v live e may in entry_there v.layout e low.0 low.1
  fill_there _ may = absurd may

-- it depends on the free slots alone
may-kept : (v w : View) → w.free ≡ v.free → (word : Word) → MayFill v word → MayFill w word
may-kept v w free (Node field k) may = (may.0, subst (λ (s : Slots). 0 < count k s.nodes) (sym free) may.1)
may-kept v w free (Entry part e) may = subst (λ (s : Slots). 0 < count e s.entries) (sym free) may
may-kept v w free _ may = may

pub all-may : (v w : View) (fs : List Filled) → w.free ≡ v.free → Every (CanFill v) fs → Every (CanFill w) fs
all-may v w [] free all = tt
all-may v w (f ∷ fs) free all = (may-kept v w free f.word all.0, all-may v w fs free all.1)

-- one fill keeps what a try keeps
pub fill-keeps : (v : View) (f : Filled) → IsInside v → KeepsTry v (filled_view v f.word f.value)
fill-keeps v f inside = (steps_keep v).filled f.word f.value inside

pub fill-inside : (v : View) (f : Filled) → IsInside v → IsInside (filled_view v f.word f.value)
fill-inside v f inside = ap is_even (fill-keeps v f inside).pass.word ∙ inside

fill-held : (v : View) (f : Filled) → (filled_view v f.word f.value).held ≡ v.held
fill-held v f = by (is_even v.section_word)
  where
    by : (b : Bool) → (cond b (used_view v f.word) (with_filled (used_view v f.word) (filled_with (known_before v f.word) f.word f.value))).held ≡ v.held
    by true = refl
    by false = refl

-- and so do all of them
pub all-keeps : (v : View) (fs : List Filled) → IsInside v → KeepsTry v (filled_all v fs)
all-keeps v [] inside = try_same v
all-keeps v (f ∷ fs) inside =
    let w = filled_view v f.word f.value in
    keeps_try v w (filled_all w fs) (fill-keeps v f inside) (all-keeps w fs (fill-inside v f inside))

pub all-held : (v : View) (fs : List Filled) → (filled_all v fs).held ≡ v.held
all-held v [] = refl
all-held v (f ∷ fs) = all-held (filled_view v f.word f.value) fs ∙ fill-held v f

fill-counts : (v : View) (f : Filled) → (filled_view v f.word f.value).counts ≡ v.counts
fill-counts v f = by (is_even v.section_word)
  where
    by : (b : Bool) → (cond b (used_view v f.word) (with_filled (used_view v f.word) (filled_with (known_before v f.word) f.word f.value))).counts ≡ v.counts
    by true = refl
    by false = refl

pub all-counts : (v : View) (fs : List Filled) → (filled_all v fs).counts ≡ v.counts
all-counts v [] = refl
all-counts v (f ∷ fs) = all-counts (filled_view v f.word f.value) fs ∙ fill-counts v f

-- one list of them after another
pub filled-append : (v : View) (xs ys : List Filled) → filled_all v (xs ++ ys) ≡ filled_all (filled_all v xs) ys
filled-append v [] ys = refl
filled-append v (x ∷ xs) ys = filled-append (filled_view v x.word x.value) xs ys

pub filled-three : (v : View) (xs ys zs : List Filled) → filled_all (filled_all (filled_all v xs) ys) zs ≡ filled_all v (xs ++ (ys ++ zs))
filled-three v xs ys zs = sym (filled-append v xs (ys ++ zs) ∙ filled-append (filled_all v xs) ys zs)
