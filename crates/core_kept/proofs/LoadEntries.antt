-- Loads of the words of an entry at which the seat stands keep the rule.
use Rattle.std.proofs.Common.{◌≡◌, ℕ, ◌<◌, ◌⊎◌, cond, List, [], ◌∷◌, ◌++◌, Bool, true, false, eqb, ◌&&◌, set, arith, refl, ap, ◌∙◌, sym, subst, inl, inr, Option, Some, None, append_assoc}
use Rattle.std.specs.Prelude.{IfSome}
use Rattle.std.proofs.lemmas.Bool.{eqb-true, and_parts}
use Rattle.index_words.specs.declared.layout.Layout.{Layout}
use Rattle.index_words.specs.declared.side.Side.{Side}
use Rattle.index_words.specs.declared.view.View.{View}
use Rattle.index_words.specs.declared.view.reading.Place.{Place}
use Rattle.index_words.specs.declared.view.reading.Place.TheVariants.{Entry as AtEntry}
use Rattle.index_words.specs.declared.word.Field.TheVariants.{Head}
use Rattle.index_words.specs.declared.word.Part.TheVariants.{Child, Stamp as Number, Next}
use Rattle.index_words.specs.declared.word.Word.TheVariants.{Node, Entry}
use Rattle.index_words.specs.Words.{Memory}
use Rattle.key_map.specs.Lists.{Every, IsItem}
use Rattle.core_grace.specs.Sections.{is_even}
use Rattle.core_grace.proofs.RuleMoves.{every_push}
use Rattle.core_links.specs.Bundle.{IsChain, select}
use Rattle.core_invariant.specs.Meanings.{Meaning}
use Rattle.core_invariant.specs.Locks.{IsNodeAt, IsNextAt}
use Rattle.core_invariant.specs.BundleRule.{IsBundle}
use Rattle.core_invariant.specs.Readers.{IsWatched, IsLocked, StandsAt, IsPassed, IsBelow, PlaceRight, EntryRight, LinkRight}
use Rattle.core_invariant.specs.SeatRule.{SeatRight}
use Rattle.core_events.specs.LoadMoves.{locks, ts_loaded, node_known, place_known, ptr_loaded, child_links, is_selected, is_above, next_at, next_loaded, bundle_link}
use Rattle.core_invariant.specs.Rule.{Rule}
use Rattle.core_invariant.proofs.Frames.{every_map, every_mapped}
use Rattle.core_invariant.proofs.OneView.{seat_at}
use Rattle.core_invariant.proofs.Owned.{in_entries}
use Rattle.core_invariant.proofs.ReadMoves.{watched_back, reach_back, passed_back, links_back, nexts_back, read_kept}
use Rattle.core_kept.proofs.HeadLoads.{side_at, links_push}
use Rattle.core_invariant.proofs.Locked.{locks-count, slots_numbered}
use Rattle.core_invariant.proofs.Falling.{next_falls}
use Rattle.core_invariant.proofs.AtEntries.{chain_behind, selected_by, child_is, above_is, last_by, unlocked_is, right as right_there, inside as inside_there, bundle as bundle_there, stands as stands_there, member as member_of}

-- what follows an entry
record Behind (next : ℕ → ℕ) (e : ℕ) (back : List ℕ) : Type 0 where
  rest : List ℕ
  is : back ≡ next e ∷ rest

behind_of : (next : ℕ → ℕ) (e : ℕ) (back : List ℕ) → IsChain next (next e) back → 0 < next e → Behind next e back
behind_of next e [] chain some = absurd (omega (arith, chain, some))
behind_of next e (d ∷ back) chain some = record { rest = back; is = ap (λ x. x ∷ back) (sym chain.0) }

-- without a section number no entry is known to be selected
unselected : (f : Option ℕ) (locked : Bool) → is_selected None f locked ≡ true → ⊥
unselected None locked is = cc
unselected (Some x) locked is = cc

module _ (z : Layout) (m : Memory) (vs : List View) (g : Meaning) (rule : Rule z m vs g) (i : ℕ) (v : View) (at : IsItem vs i v) (node : ℕ) (side : Side)
    (e : ℕ) (found : Option ℕ) (here : v.reading.place ≡ AtEntry node side e found) (some : 0 < e) where
  abbrev stamp : ℕ → ℕ
  stamp d = m (Entry Number d)

  abbrev es : List ℕ
  es = g.bundles.bundle side node

  seat : SeatRight z m g v
  seat = seat_at z m vs g i v at rule

  right : PlaceRight z stamp g.bundles v (AtEntry node side e found)
  right = right_there z m vs g rule i v at node side e found here some

  inside : is_even v.section_word ≡ false
  inside = inside_there z m vs g rule i v at node side e found here some

  bundle : IsBundle m vs g node side
  bundle = bundle_there z m vs g rule i v at node side e found here some

  -- a load of the entry's stamp
  pub load_ts_kept : Rule z m (set vs i (ts_loaded v e (m (Entry Number e)))) g
  load_ts_kept =
      let x : ℕ = m (Entry Number e) in
      let w : View = ts_loaded v e x in
      let same = slots_numbered e x v.held.nodes in
      read_kept z m vs g rule i v at w.counts w.held.nodes w.held.nexts w.reading.place w.reading.above w.reading.links same inside
      (every_mapped (IsNodeAt m) (IsNodeAt m)
      (node_known e x) v.held.nodes (λ h known. record {
        key = known.key;
        val = known.val;
        mark = known.mark;
        left = record { head = side_at e x _ stamp h.left.head refl known.left.head };
        right = record { head = side_at e x _ stamp h.right.head refl known.right.head };
        plain = known.plain;
      }) seat.loaded.nodes)
      (nexts_back z m vs g rule i v at w.counts w.held.nodes w.held.nexts w.reading.place w.reading.above w.reading.links same)
      (subst (λ (p : Place). PlaceRight z stamp g.bundles w (place_known x p)) (sym here) (record {
        reach = reach_back z m vs g rule i v at w.counts w.held.nodes w.held.nexts w.reading.place w.reading.above w.reading.links same node right.reach;
        stands = λ above watched.
            let stood = stands_there z m vs g rule i v at node side e found here some
            (watched_back z m vs g rule i v at w.counts w.held.nodes w.held.nexts w.reading.place w.reading.above w.reading.links same node watched) in
            record {
              front = stood.front;
              back = stood.back;
              splits = stood.splits;
              passed = every_map (IsPassed g.bundles.number v node) (IsPassed g.bundles.number w node) stood.front
                  (λ d is. passed_back z m vs g rule i v at w.counts w.held.nodes w.held.nexts w.reading.place w.reading.above w.reading.links same node d is)
                  stood.passed;
              found = λ _. refl;
              falls = stood.falls;
            };
      }))
      (links_back z m vs g rule i v at w.counts w.held.nodes w.held.nexts w.reading.place w.reading.above w.reading.links same)

  -- a load of the entry's child
  pub load_ptr_kept : Rule z m (set vs i (ptr_loaded v (m (Entry Child e)))) g
  load_ptr_kept =
      let c : ℕ = m (Entry Child e) in
      let w : View = ptr_loaded v c in
      let place = reach_back z m vs g rule i v at w.counts w.held.nodes w.held.nexts w.reading.place w.reading.above w.reading.links refl in
      read_kept z m vs g rule i v at w.counts w.held.nodes w.held.nexts w.reading.place w.reading.above w.reading.links refl inside
      seat.loaded.nodes seat.loaded.nexts seat.place
      (subst (λ (p : Place). Every (LinkRight z (λ d. m (Entry Child d)) g.bundles w) (child_links v p c)) (sym here)
      (links_push (LinkRight z (λ d. m (Entry Child d)) g.bundles w) (is_selected v.reading.section found (locks node v.held.nodes))
      v.reading.links (bundle_link node side c e)
      seat.links
      (λ is. record {
        reach = right.reach;
        selected = entry_by v.reading.section found (locks node v.held.nodes) is
            (selected_by z m vs g rule i v at node side e found here some v.reading.section found (locks node v.held.nodes)
            (unlocked_is z m vs g rule i v at node side e found here some) is refl refl);
      })))
    where
      entry_by : (o f : Option ℕ) (locked : Bool) → is_selected o f locked ≡ true → IfSome o (λ t. select g.bundles.number t es ≡ e)
          → EntryRight (λ d. m (Entry Child d)) g.bundles.number es o (m (Entry Child e)) e
      entry_by None f locked known is = absurd (unselected f locked known)
      entry_by (Some t) f locked known is = (is, child_is z m vs g rule i v at node side e found here some)

  -- past the entry, in a view that has the same locks
  passes_by : (w : View) (o : Option ℕ) → v.reading.section ≡ o → (IsLocked v node → IsLocked w node) → IsLocked v node ⊎ (is_above v e found ≡ true)
      → IfSome o (λ t. IsLocked w node ⊎ (t < g.bundles.number e))
  passes_by w None section locks may = tt
  passes_by w (Some t) section locks (inl locked) = inl (locks locked)
  passes_by w (Some t) section locks (inr above) =
      inr (subst (λ (y : Option ℕ). IfSome y (λ n. n < g.bundles.number e)) section (above_is z m vs g rule i v at node side e found here some above))

  locked_has : locks node v.held.nodes ≡ true → IsLocked v node
  locked_has is = locks-count node v.held.nodes is

  nexts_by : (c : Bool) → (c ≡ true → IsLocked v node)
      → Every (IsNextAt m g.bundles v.held.nodes)
      (cond c (v.held.nexts ++ record { node = node; entry = e; stamp = found; next = m (Entry Next e) } ∷ []) v.held.nexts)
  nexts_by false locked = seat.loaded.nexts
  nexts_by true locked =
      every_push (IsNextAt m g.bundles v.held.nodes) v.held.nexts (record { node = node; entry = e; stamp = found; next = m (Entry Next e) }) seat.loaded.nexts
      (record {
        is = refl;
        locked = locked refl;
        here = in_entries g.bundles node e side
            (member_of z m vs g rule i v at node side e found here some (inl (locked refl)));
        found = (stands_there z m vs g rule i v at node side e found here some (inl (locked refl))).found;
      })

  abbrev next_word : ℕ
  next_word = m (Entry Next e)

  -- the view once the next is loaded
  abbrev next_view : View
  next_view = next_at v (AtEntry node side e found) e next_word

  -- a load of the entry's next: the entry is above the section number, or the node is locked
  pub load_next_kept : IsLocked v node ⊎ (is_above v e found ≡ true) → Rule z m (set vs i (next_loaded v e (m (Entry Next e)))) g
  load_next_kept may =
      subst (λ (p : Place). Rule z m (set vs i (next_at v p e (m (Entry Next e)))) g) (sym here)
      (read_kept z m vs g rule i v at next_view.counts next_view.held.nodes next_view.held.nexts next_view.reading.place next_view.reading.above
      next_view.reading.links refl inside
      seat.loaded.nodes
      (nexts_by (locks node v.held.nodes) locked_has)
      (record { reach = right.reach; stands = stands_behind })
      (links_push (LinkRight z (λ d. m (Entry Child d)) g.bundles next_view) (eqb next_word 0 && is_above v e found) v.reading.links (bundle_link node side 0 0)
      seat.links
      (λ is. let parts = and_parts (eqb next_word 0) (is_above v e found) is in
      record {
        reach = right.reach;
        selected = entry_by v.reading.section
            (last_by z m vs g rule i v at node side e found here some v.reading.section refl (eqb-true next_word 0 parts.0)
            (above_is z m vs g rule i v at node side e found here some parts.1));
      })))
    where
      entry_by : (o : Option ℕ) → IfSome o (λ t. select g.bundles.number t es ≡ 0) → EntryRight (λ d. m (Entry Child d)) g.bundles.number es o 0 0
      entry_by None is = (refl, refl)
      entry_by (Some t) is = (is, refl)

      stands_behind : 0 < next_word → IsWatched v node → StandsAt stamp es next_word None found (IsPassed g.bundles.number next_view node)
      stands_behind low watched =
          let stood = stands_there z m vs g rule i v at node side e found here some watched in
          let chain = subst (IsChain (λ d. m (Entry Next d)) (m (Node (Head side) node))) stood.splits bundle.chain in
          let behind = behind_of (λ d. m (Entry Next d)) e stood.back
          (chain_behind (λ d. m (Entry Next d)) (m (Node (Head side) node)) e stood.front stood.back chain) low in
          record {
            front = stood.front ++ e ∷ [];
            back = behind.rest;
            splits = stood.splits ∙ ap (λ xs. stood.front ++ e ∷ xs) behind.is ∙ sym (append_assoc stood.front (e ∷ []) (next_word ∷ behind.rest));
            passed =
                every_push (IsPassed g.bundles.number next_view node) stood.front e stood.passed
                (passes_by next_view v.reading.section refl (λ locked. locked) may);
            found = tt;
            falls = falls_by found refl;
          }
        where
          falls_by : (o : Option ℕ) → found ≡ o → IsBelow stamp next_word o
          falls_by None same = tt
          falls_by (Some x) same = λ above. next_falls z m vs g rule i v at node side e found here some watched x same above low
