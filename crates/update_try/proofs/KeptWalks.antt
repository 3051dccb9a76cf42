-- What was found of bundles stays found: along the steps of a prune, and in a cut of other entries.
use Rattle.std.proofs.Common.{◌≡◌, ℕ, ◌+◌, ◌<◌, ◌≤◌, ◌⊎◌, inl, inr, List, [], ◌∷◌, length, cond, Bool, true, false, not, eqb, refl, ap, sym, ◌∙◌, subst, arith, Some}
use Rattle.std.specs.Prelude.{filter}
use Rattle.std.proofs.lemmas.Bool.{cases_lt}
use Rattle.std.proofs.lemmas.Bool.Decides.{nat_tests, eqb_tells}
use Rattle.index_words.specs.declared.side.Side.{Side}
use Rattle.index_words.specs.declared.view.View.{View}
use Rattle.index_words.specs.declared.view.update.Held.{Held}
use Rattle.index_words.specs.declared.view.update.HeldNext.{HeldNext}
use Rattle.index_words.specs.declared.word.Field.TheVariants.{Head}
use Rattle.index_words.specs.declared.word.Word.TheVariants.{Node}
use Rattle.key_map.specs.Lists.{count, has, IsItem}
use Rattle.core_links.specs.Bundle.{IsChain}
use Rattle.core_links.proofs.Chains.{chain-same}
use Rattle.core_trees.specs.declared.link.Link.{Link}
use Rattle.core_events.specs.CutMoves.{cut_view, next_cut}
use Rattle.core_events.specs.LoadMoves.{ts_loaded}
use Rattle.core_invariant.proofs.Frames.{one_counted}
use Rattle.core_laws.specs.Cuts.{HasWalkedAt, HasWalkedTo}
use Rattle.core_updates.specs.Held.{HoldsHead}
use Rattle.plan_laws.proofs.Items.{item-filter, item-map}
use Rattle.table_rule.specs.Running.{Happened}
use Rattle.table_rule.proofs.Happens.{happened_word}
use Rattle.table_steps.specs.Loads.{HasLoadedHead, loading_head}
use Rattle.table_steps.specs.Passes.{Pass}
use Rattle.table_steps.proofs.RaiseFacts.{head_known, head_there}
use Rattle.update_search.proofs.Failures.{node_word}
use Rattle.update_try.specs.Pruning.{IsLastOf, IsPruned, KeepsOthers, KeepsPlace, KeepsWalks}
use Rattle.update_try.specs.Walked.{KeepsHeads, KeepsNexts}
use Rattle.update_try.proofs.FoundHeads.{heads_found, heads_more, heads_numbered, heads_still}
use Rattle.update_try.proofs.PruneWalks.{walk_kept, walk_lower, walked_kept}

-- what was found stays: along the way, and at last
pub walks_same : (v : View) → KeepsWalks v v
walks_same v = record { nexts = λ place item is. is; heads = heads_still v v refl }

pub walks_more : (u v w : View) → KeepsWalks u v → KeepsWalks v w → KeepsWalks u w
walks_more u v w a b = record { nexts = λ place item is. b.nexts place item (a.nexts place item is); heads = heads_more u v w a.heads b.heads }

-- where nothing of it is touched
pub walks_still : (v w : View) → KeepsPlace v w → KeepsWalks v w
walks_still v w same = record {
  nexts = λ place item is. subst (λ (h : Held). IsItem h.nexts place item) (sym same.held) is;
  heads = heads_still v w (ap (λ (h : Held). h.nodes) same.held);
}

pub walks_held : (v w : View) → KeepsNexts v w → w.held.nodes ≡ v.held.nodes → KeepsWalks v w
walks_held v w nexts same = record { nexts = nexts; heads = heads_still v w same }

-- a load of a number, and one of a next after it
pub walks_read : (v u w : View) (entry number : ℕ) → 0 < number → u ≡ ts_loaded v entry number → KeepsNexts v w → w.held.nodes ≡ u.held.nodes → KeepsWalks v w
walks_read v u w entry number some loads nexts same = record {
  nexts = nexts;
  heads = heads_more v u w (subst (KeepsHeads v) (sym loads) (heads_numbered v entry number some)) (heads_still u w same);
}

-- a load of a head under the lock of its node finds what was found before
module _ (p q : Pass) (node : ℕ) (side : Side) (head : ℕ) (event : Happened p.view.layout (loading_head p node side) p.view head q.view) (gives : HasLoadedHead p.view node side head q.view) where
  again : (e : ℕ) → HoldsHead p.view node side e → e ≡ head
  again e h =
      let z = p.view.layout in
      sym (head_known z event.words event.views event.rule p.seat p.view event.seat node side e h)
      ∙ happened_word z (loading_head p node side) p.view q.view head (Node (Head side) node)
      (node_word z (Head side) node (head_there z event.words event.views event.rule p.seat p.view event.seat node side e h)) refl tt event

  pub walks_head : KeepsWalks p.view q.view
  walks_head = subst (KeepsWalks p.view) (sym gives.view) (record { nexts = λ place item is. is; heads = heads_found p.view node head gives.number side again })

last_kept : (v w : View) (node entry : ℕ) → KeepsNexts v w → IsLastOf v node entry → IsLastOf w node entry
last_kept v w node entry keeps (inl none) = inl none
last_kept v w node entry keeps (inr last) = inr (last.0, walked_kept v w node entry last.0 0 keeps last.1)

pub pruned_kept : (v w : View) (at : Link) (least limit : ℕ) → KeepsWalks v w → IsPruned v at least limit → IsPruned w at least limit
pruned_kept v w at least limit keeps (inl e) = inl (record {
  head = e.head;
  held = keeps.heads.head at.node e.head at.side e.held;
  front = e.front;
  last = e.last;
  walked = walk_kept v w at.node least e.head e.last e.front keeps.nexts e.walked;
  ends = last_kept v w at.node e.last keeps.nexts e.ends;
})
pruned_kept v w at least limit keeps (inr f) = inr (record {
  head = f.head;
  held = keeps.heads.head at.node f.head at.side f.held;
  front = f.front;
  next = f.next;
  walked = walk_kept v w at.node least f.head f.next f.front keeps.nexts f.walked;
  far = f.far;
})

pub others_kept : (v w : View) (at : Link) → KeepsWalks v w → KeepsOthers v at w
others_kept v w at keeps l least limit apart pruned = pruned_kept v w l least limit keeps pruned

pub others_more : (u v w : View) (at : Link) → KeepsOthers u at v → KeepsOthers v at w → KeepsOthers u at w
others_more u v w at a b l least limit apart pruned = b l least limit apart (a l least limit apart pruned)

-- the least number may fall
pub pruned_lower : (v : View) (at : Link) (least low limit : ℕ) → low ≤ least → IsPruned v at least limit → IsPruned v at low limit
pruned_lower v at least low limit le (inl e) = inl (record {
  head = e.head;
  held = e.held;
  front = e.front;
  last = e.last;
  walked = walk_lower v at.node least low e.head e.last e.front le e.walked;
  ends = e.ends;
})
pruned_lower v at least low limit le (inr f) = inr (record {
  head = f.head;
  held = f.held;
  front = f.front;
  next = f.next;
  walked = walk_lower v at.node least low f.head f.next f.front le f.walked;
  far = f.far;
})

-- an entry of a chain stands in it once
record StandsFrom (next : ℕ → ℕ) (d : ℕ) (es : List ℕ) : Type 0 where
  rest : List ℕ
  chain : IsChain next d (d ∷ rest)
  short : length rest < length es

stands_from : (next : ℕ → ℕ) (head d : ℕ) (es : List ℕ) → IsChain next head es → 0 < count d es → StandsFrom next d es
stands_from next head d [] chain some = absurd (omega (arith, some))
stands_from next head d (e ∷ es) chain some = by (eqb_tells e d) (stands_from next (next e) d es chain.2)
  where
    behind : (e d n : ℕ) → (e ≡ d → ⊥) → 0 < cond (eqb e d) 1 0 + n → 0 < n
    behind e d n apart some = grind (arith, nat_tests)

    by : ((eqb e d ≡ true) × (e ≡ d)) ⊎ ((eqb e d ≡ false) × (e ≡ d → ⊥)) → (0 < count d es → StandsFrom next d es) → StandsFrom next d (e ∷ es)
    by (inl same) further =
        let here : IsChain next d (d ∷ es) = subst (λ x. IsChain next x (x ∷ es)) same.1 (refl, chain.1, chain.2) in
        record { rest = es; chain = here; short = omega arith }
    by (inr other) further =
        let more = further (behind e d (count d es) other.1 some) in
        record { rest = more.rest; chain = more.chain; short = omega (arith, more.short) }

pub chain_once : (next : ℕ → ℕ) (head d : ℕ) (es : List ℕ) → IsChain next head es → count d es ≤ 1
chain_once next head d [] chain = omega arith
chain_once next head d (e ∷ es) chain = by (eqb_tells e d) (cases_lt 0 (count d es)) (chain_once next (next e) d es chain.2)
  where
    few : (b : Bool) (n : ℕ) → n ≡ 0 → cond b 1 0 + n ≤ 1
    few true n none = omega (arith, none)
    few false n none = omega (arith, none)

    other_one : (e d n : ℕ) → (e ≡ d → ⊥) → n ≤ 1 → cond (eqb e d) 1 0 + n ≤ 1
    other_one e d n apart low = grind (arith, nat_tests)

    by : ((eqb e d ≡ true) × (e ≡ d)) ⊎ ((eqb e d ≡ false) × (e ≡ d → ⊥)) → (0 < count d es) ⊎ (count d es ≤ 0) → count d es ≤ 1 → count d (e ∷ es) ≤ 1
    by _ (inr none) rest = few (eqb e d) (count d es) (omega (arith, none))
    by (inr other) _ rest = other_one e d (count d es) other.1 rest
    by (inl same) (inl some) rest =
        let more = stands_from next (next e) d es chain.2 some in
        let here : IsChain next d (d ∷ es) = subst (λ x. IsChain next x (x ∷ es)) same.1 (refl, chain.1, chain.2) in
        absurd (omega (arith, more.short, ap length (chain-same next d (d ∷ more.rest) (d ∷ es) more.chain here)))

-- what was found of an entry stays in a cut of others
abbrev pub Apart : ℕ → List ℕ → ℕ → Type 0
Apart e back d = (has d back ≡ false) × (¬ (d ≡ e))

module _ (v : View) (e : ℕ) (back : List ℕ) where
  abbrev w : View
  w = cut_view v e back

  cut_item : (place : ℕ) (h : HeldNext) → IsItem v.held.nexts place h → has h.entry back ≡ false → (j : ℕ) × IsItem w.held.nexts j (next_cut e h)
  cut_item place h at kept =
      let found = item-filter (λ (x : HeldNext). not (has x.entry back)) v.held.nexts place h at (ap not kept) in
      (found.0, item-map (next_cut e) (filter (λ (x : HeldNext). not (has x.entry back)) v.held.nexts) found.0 h found.1)

  pub walked_cut : (node d number next : ℕ) → HasWalkedAt v node d number next → Apart e back d → HasWalkedAt w node d number next
  walked_cut node d number next by apart =
      let h : HeldNext = record { node = node; entry = d; stamp = Some number; next = next } in
      let found = cut_item by.place h by.is apart.0 in
      record { place = found.0; is = subst (IsItem w.held.nexts found.0) (same h d apart.1) found.1; written = by.written }
    where
      other : (a b : ℕ) → ¬ (a ≡ b) → eqb a b ≡ false
      other a b apart = grind (arith, nat_tests)

      same : (h : HeldNext) (d : ℕ) → ¬ (h.entry ≡ e) → next_cut e h ≡ h
      same h d apart = ap (λ b. cond b (record h { next = 0 }) h) (other h.entry e apart)

  -- of the entry it is known then that none is after it
  pub walked_end : (node number next : ℕ) → HasWalkedAt v node e number next → has e back ≡ false → HasWalkedAt w node e number 0
  walked_end node number next by kept =
      let h : HeldNext = record { node = node; entry = e; stamp = Some number; next = next } in
      let found = cut_item by.place h by.is kept in
      record { place = found.0; is = subst (IsItem w.held.nexts found.0) (last h (own e)) found.1; written = by.written }
    where
      own : (a : ℕ) → eqb a a ≡ true
      own a = grind (arith, nat_tests)

      last : (h : HeldNext) → eqb h.entry e ≡ true → next_cut e h ≡ record h { next = 0 }
      last h is = ap (λ b. cond b (record h { next = 0 }) h) is

  pub walk_cut : (node least from last : ℕ) (front : List ℕ) → HasWalkedTo v node least from front last → ((d : ℕ) → 0 < count d front → Apart e back d)
      → HasWalkedTo w node least from front last
  walk_cut node least from last [] walk apart = walk
  walk_cut node least from last (d ∷ front) walk apart =
      let past = walk.1 in (
        walk.0,
        record {
          number = past.number;
          next = past.next;
          walked = walked_cut node d past.number past.next past.walked (apart d (one_counted d (count d front)));
          above = past.above;
        },
        walk_cut node least past.next last front walk.2 (λ x some. apart x (omega (arith, some))),
      )
