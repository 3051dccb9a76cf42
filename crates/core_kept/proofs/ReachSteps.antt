-- What searches on plain links reach, after each kind of event that leaves the plain links of linked nodes as they are.
use Rattle.std.proofs.Common.{ℕ, ◌≤◌, cond, List, [], ◌∷◌, Bool, true, false, eqb, ◌&&◌, arith, refl, ap, Option, Some, None}
use Rattle.index_words.specs.declared.side.Side.{Side}
use Rattle.index_words.specs.declared.view.View.{View}
use Rattle.index_words.specs.declared.view.reading.Place.{Place}
use Rattle.index_words.specs.declared.view.reading.Place.TheVariants.{Nowhere, Entry as AtEntry, Node as AtNode, Gap}
use Rattle.index_words.specs.declared.word.Field.{Field}
use Rattle.index_words.specs.declared.word.Field.TheVariants.{Key, Head, Tag}
use Rattle.index_words.specs.declared.word.Word.{Word}
use Rattle.index_words.specs.declared.word.Word.TheVariants.{Announced, Node, Entry}
use Rattle.index_words.specs.declared.layout.Layout.{Layout}
use Rattle.index_words.specs.Words.{Memory}
use Rattle.key_map.specs.Lists.{count, has}
use Rattle.core_events.specs.CutMoves.{place_cut}
use Rattle.core_events.specs.FillMoves.{used_view, with_filled, filled_with, known_before}
use Rattle.core_events.specs.LoadMoves.{locks, is_selected, is_above, child_links, head_loaded, ptr_loaded, ts_loaded, next_at, place_known}
use Rattle.core_events.specs.LockMoves.{place_locked, place_paired, locked_view, met_lock, mark_loaded, with_mark, pair_loaded}
use Rattle.core_events.specs.PlainMoves.{tag_loaded, tag_set}
use Rattle.core_events.specs.Searches.{place_nodes}
use Rattle.core_events.specs.Steps.{head_at, head_from, ts_from, ptr_from, next_from, prepared_at, prepared_from, finalised_from, tried_from, mark_from, marked_from, pair_from, ann_from, cut_from, tag_at, tag_from, raised_tag_at, raised_tag_from}
use Rattle.core_events.specs.UpdateMoves.{prepared, finalised}
use Rattle.core_invariant.proofs.SearchNodes.{links_count, links_bundle, links_tagged, IsCalm, same_search, less_search, still_same}

-- the places of a view's search, where it moves
known_nodes : (a top x : ℕ) (p : Place) → count a (place_nodes top (place_known x p)) ≤ count a (place_nodes top p)
known_nodes a top x (AtEntry node side entry found) = omega arith
known_nodes a top x _ = omega arith

found_nodes : (a top k x node : ℕ) (key : Option ℕ) (b : Bool)
    → count a (place_nodes top (cond b (AtNode node (Some x)) (AtNode node key))) ≤ count a (node ∷ [])
found_nodes a top k x node key true = omega arith
found_nodes a top k x node key false = omega arith

paired_nodes : (a top k x : ℕ) (f : Field) (p : Place) → count a (place_nodes top (place_paired f k x p)) ≤ count a (place_nodes top p)
paired_nodes a top k x Key (AtNode node key) = found_nodes a top k x node key (eqb node k)
paired_nodes a top k x _ _ = omega arith

locked_entry : (a top node entry : ℕ) (side : Side) (found : Option ℕ) (b : Bool)
    → count a (place_nodes top (cond b (AtEntry node side 0 None) (AtEntry node side entry found))) ≤ 0
locked_entry a top node entry side found true = omega arith
locked_entry a top node entry side found false = omega arith

locked_nodes : (a top k : ℕ) (section : Option ℕ) (p : Place) → count a (place_nodes top (place_locked section k p)) ≤ count a (place_nodes top p)
locked_nodes a top k None (AtEntry node side entry found) = locked_entry a top node entry side found (eqb node k)
locked_nodes a top k None Nowhere = omega arith
locked_nodes a top k None (AtNode node key) = omega arith
locked_nodes a top k None (Gap node side) = omega arith
locked_nodes a top k (Some t) (AtEntry node side entry found) = omega arith
locked_nodes a top k (Some t) Nowhere = omega arith
locked_nodes a top k (Some t) (AtNode node key) = omega arith
locked_nodes a top k (Some t) (Gap node side) = omega arith

cut_nodes : (a top : ℕ) (back : List ℕ) (p : Place) → count a (place_nodes top (place_cut back p)) ≤ count a (place_nodes top p)
cut_nodes a top back (AtEntry node side entry found) = locked_entry a top node entry side found (has entry back)
cut_nodes a top back _ = omega arith

module _ (v : View) where
  -- loads
  head_at_calm : (f : Field) (k x number : ℕ) → IsCalm v (head_at v f k x number)
  head_at_calm (Head side) k x number =
      less_search v (head_loaded v k side x number) refl refl (λ k. omega arith) refl refl refl refl (λ a top. omega arith)
      (λ a. omega (arith, links_bundle a (eqb x 0) v.reading.links k side 0 0))
  head_at_calm _ k x number = still_same v

  pub head_calm : (u : Word) (x number : ℕ) → IsCalm v (head_from v u x number)
  head_calm (Node f k) x number = head_at_calm f k x number
  head_calm _ x number = still_same v

  pub ts_calm : (u : Word) (x : ℕ) → IsCalm v (ts_from v u x)
  ts_calm (Entry p e) x =
      less_search v (ts_loaded v e x) refl refl (λ k. omega arith) refl refl refl refl (λ a top. known_nodes a top x v.reading.place) (λ a. omega arith)
  ts_calm _ x = still_same v

  child_counts : (a : ℕ) (p : Place) (child : ℕ) → links_count a (child_links v p child) ≤ links_count a v.reading.links
  child_counts a (AtEntry node side entry found) child =
      omega (arith, links_bundle a (is_selected v.reading.section found (locks node v.held.nodes)) v.reading.links node side child entry)
  child_counts a _ child = omega arith

  pub ptr_calm : (u : Word) (x : ℕ) → IsCalm v (ptr_from v u x)
  ptr_calm (Entry p e) x =
      less_search v (ptr_loaded v x) refl refl (λ k. omega arith) refl refl refl refl (λ a top. omega arith) (λ a. child_counts a v.reading.place x)
  ptr_calm _ x = still_same v

  next_at_calm : (p : Place) (e x : ℕ) → IsCalm v (next_at v p e x)
  next_at_calm (AtEntry node side entry entry_found) e x =
      less_search v (next_at v (AtEntry node side entry entry_found) e x) refl refl (λ k. omega arith) refl refl refl refl (λ a top. omega arith)
      (λ a. omega (arith, links_bundle a (eqb x 0 && is_above v e entry_found) v.reading.links node side 0 0))
  next_at_calm _ e x = still_same v

  pub next_calm : (u : Word) (x : ℕ) → IsCalm v (next_from v u x)
  next_calm (Entry p e) x = next_at_calm v.reading.place e x
  next_calm _ x = still_same v

  pub mark_calm : (u : Word) (x : ℕ) → IsCalm v (mark_from v u x)
  mark_calm (Node f k) x = same_search v (mark_loaded v k x) refl refl (λ k. omega arith) refl refl (λ top. refl)
  mark_calm _ x = still_same v

  pub pair_calm : (u : Word) (x : ℕ) → IsCalm v (pair_from v u x)
  pair_calm (Node f k) x =
      less_search v (pair_loaded v f k x) refl refl (λ k. omega arith) refl refl refl refl
      (λ a top. paired_nodes a top k x f v.reading.place) (λ a. omega arith)
  pair_calm _ x = still_same v

  tag_at_calm : (f : Field) (k x : ℕ) → IsCalm v (tag_at v f k x)
  tag_at_calm (Tag side) k x =
      less_search v (tag_loaded v k side x) refl refl (λ k. omega arith) refl refl refl refl (λ a top. omega arith)
      (λ a. omega (arith, ap (count a) (links_tagged k side x v.reading.links)))
  tag_at_calm _ k x = still_same v

  pub tag_calm : (u : Word) (x : ℕ) → IsCalm v (tag_from v u x)
  tag_calm (Node f k) x = tag_at_calm f k x
  tag_calm _ x = still_same v

  pub look_ann_calm : (u : Word) (x : ℕ) → IsCalm v (ann_from v u x)
  look_ann_calm (Announced k) x = same_search v (ann_from v (Announced k) x) refl refl (λ k. omega arith) refl refl (λ top. refl)
  look_ann_calm _ x = still_same v

  -- stores
  prepare_at_calm : (f : Field) (k e : ℕ) → IsCalm v (prepared_at v f k e)
  prepare_at_calm (Head side) k e = same_search v (prepared v side k e) refl refl (λ k. omega arith) refl refl (λ top. refl)
  prepare_at_calm _ k e = still_same v

  pub prepare_calm : (u : Word) (e : ℕ) → IsCalm v (prepared_from v u e)
  prepare_calm (Node f k) e = prepare_at_calm f k e
  prepare_calm _ e = still_same v

  pub finalise_calm : (u : Word) → IsCalm v (finalised_from v u)
  finalise_calm (Entry p e) = same_search v (finalised v e) refl refl (λ k. omega arith) refl refl (λ top. refl)
  finalise_calm _ = still_same v

  tried_calm : (k own found : ℕ) (b : Bool) → IsCalm v (cond b (locked_view v k) (met_lock v own found))
  tried_calm k own found true =
      less_search v (locked_view v k) refl refl (λ k. omega arith) refl refl refl refl
      (λ a top. locked_nodes a top k v.reading.section v.reading.place) (λ a. omega arith)
  tried_calm k own found false = same_search v (met_lock v own found) refl refl (λ k. omega arith) refl refl (λ top. refl)

  pub lock_calm : (u : Word) (own x : ℕ) → IsCalm v (tried_from v u own x)
  lock_calm (Node f k) own x = tried_calm k own x (eqb x 0)
  lock_calm _ own x = still_same v

  pub marked_calm : (u : Word) → IsCalm v (marked_from v u)
  marked_calm (Node f k) = same_search v (with_mark v k 1) refl refl (λ k. omega arith) refl refl (λ top. refl)
  marked_calm _ = still_same v

  pub cut_calm : (z : Layout) (m : Memory) (u : Word) → IsCalm v (cut_from z m v u)
  cut_calm z m (Entry p e) =
      less_search v (cut_from z m v (Entry p e)) refl refl (λ k. omega arith) refl refl refl refl
      (λ a top. cut_nodes a top _ v.reading.place) (λ a. omega arith)
  cut_calm z m _ = still_same v

  set_tag_at_calm : (f : Field) (k x : ℕ) → IsCalm v (raised_tag_at v f k x)
  set_tag_at_calm (Tag side) k x = same_search v (tag_set v k side x) refl refl (λ k. omega arith) refl refl (λ top. refl)
  set_tag_at_calm _ k x = still_same v

  pub set_tag_calm : (u : Word) (x : ℕ) → IsCalm v (raised_tag_from v u x)
  set_tag_calm (Node f k) x = set_tag_at_calm f k x
  set_tag_calm _ x = still_same v

  pub filled_calm : (u : Word) (x : ℕ) (b : Bool) → IsCalm v (cond b (used_view v u) (with_filled (used_view v u) (filled_with (known_before v u) u x)))
  filled_calm u x true = same_search v (used_view v u) refl refl (λ k. omega arith) refl refl (λ top. refl)
  filled_calm u x false = same_search v (with_filled (used_view v u) (filled_with (known_before v u) u x)) refl refl (λ k. omega arith) refl refl (λ top. refl)
