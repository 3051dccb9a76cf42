-- The first put of a table by single steps: each step may be made at its stage.
use Rattle.std.proofs.Common.{◌≡◌, ℕ, ◌<◌, List, [], ◌∷◌, length, false, not, ◌&&◌, arith, refl, ap, ◌∙◌, sym, subst, inl, inr, Option, Some, None}
use Rattle.std.specs.List.{slice_get}
use Rattle.std.proofs.lemmas.List.{length-append}
use Rattle.index_words.specs.declared.side.Side.TheVariants.{Left, Right}
use Rattle.index_words.specs.declared.view.View.{View}
use Rattle.index_words.specs.declared.view.reading.Link.{Link}
use Rattle.index_words.specs.declared.view.reading.LinkSource.TheVariants.{Plain}
use Rattle.index_words.specs.declared.view.reading.TreeNode.{TreeNode}
use Rattle.index_words.specs.declared.view.update.HeldNode.{HeldNode}
use Rattle.index_words.specs.declared.view.update.LoadedHead.{LoadedHead}
use Rattle.index_words.specs.declared.view.update.Unlinking.{Unlinking}
use Rattle.index_words.specs.declared.word.Field.TheVariants.{Key, Val, Mark, Head, Link as LinkField, Tag}
use Rattle.index_words.specs.declared.word.Part.TheVariants.{Child, Stamp as Number, Next}
use Rattle.index_words.specs.declared.word.Word.{Word}
use Rattle.index_words.specs.declared.word.Word.TheVariants.{Node, Entry}
use Rattle.index_words.specs.Words.{word_at}
use Rattle.key_map.specs.declared.update.Update.{Update}
use Rattle.key_map.specs.declared.update.Change.TheVariants.{Put}
use Rattle.key_map.specs.History.{after}
use Rattle.key_map.specs.Map.{pair}
use Rattle.core_invariant.proofs.TreeReads.{after_length}
use Rattle.core_events.specs.FillMoves.{filled_view}
use Rattle.core_events.specs.LoadMoves.{head_loaded}
use Rattle.core_events.specs.LockMoves.{locked_view, mark_loaded, nothing_loaded}
use Rattle.core_events.specs.Moves.{entered}
use Rattle.core_events.specs.PlainMoves.{link_loaded, link_set, other_links, still_unlinking, tag_loaded}
use Rattle.core_events.specs.PlainNeeds.{sets_others, unlinks_at}
use Rattle.core_events.specs.UpdateMoves.{finalised, prepared, raised_view}
use Rattle.core_laws.proofs.Searching.{held_link, null_link}
use Rattle.core_laws.specs.PlainNeeds.{MayReadLink, MayReadTag, MaySetLink}
use Rattle.core_laws.specs.ViewNeeds.{HasFilled, IsInside, MayFill, MayLoadStamp, MayPrepare, MayReadHead, MayUnlock}
use Rattle.core_events.specs.Versions.{tree_nodes}
use Rattle.core_trees.specs.NamedTree.{NamedTree, Null, Branch, contents}
use Rattle.core_updates.specs.Held.{HoldsGrow, HoldsHead, CanRaise, MayRaise}
use Rattle.core_updates.specs.Ready.{update_of}
use Rattle.core_updates.specs.SetLinks.{set_to, LeavesPlain}
use Rattle.core_updates.specs.declared.plan.Front.{Front}
use Rattle.core_updates.proofs.HeldReady.{grow_from_view}
use Rattle.table_rule.proofs.Lists.{item_at, some_same}
use Rattle.table_steps.specs.Passes.{Pass}
use Rattle.table_steps.specs.Stamps.{reading_at, with_seen, CanAnnounce, HasSeen, ReadsNow}
use Rattle.table_steps.specs.Loads.{HasLoadedHead}
use Rattle.plan_laws.proofs.PlainLinks.{no-links, sets-first, sets-rest}
use Rattle.plan_laws.proofs.Releases.{all-done}
use Rattle.table_steps.specs.Raises.{HasNew, HasRaised}
use Rattle.table_tests.specs.FirstPut.{at_start, at_seen, at_announced, at_read, at_root, at_pair, at_unmarked_root, at_locked_root}

pub one_above : 0 < 1
one_above = omega arith

-- a section in which there is no update yet, and the root has no child
no_items : {X : Type 0} (xs : List X) → length xs ≡ 0 → xs ≡ []
no_items [] none = refl
no_items (x ∷ xs) none = absurd (omega (arith, none))

no_nodes : (tree : NamedTree) → contents tree ≡ [] → tree_nodes tree ≡ []
no_nodes Null none = refl
no_nodes (Branch slot key val left right) none = absurd (omega (arith, ap length none, length-append (contents left) (pair key val ∷ contents right)))

none_after : (us : List Update) → after us 0 ≡ []
none_after us = no_items (after us 0) (omega (arith, after_length us 0))

-- the first load, by a pass that has entered and announced nothing
module _ (e : View) (is : e ≡ entered 2 at_start 1) where
  pub may_see : MayLoadStamp e
  may_see = subst MayLoadStamp (sym is) (record { inside = refl; closed = refl })

  pub found_none : (s : View) (n : ℕ) → HasSeen e n s → (e.announced ≡ 0 → s ≡ with_seen s.history.seen e) → n ≡ 0 → s ≡ at_seen
  found_none s n seen unread none =
      unread (ap (λ (u : View). u.announced) is)
      ∙ ap (λ (us : List Update). with_seen us e) (no_items s.history.seen (seen.whole ∙ none))
      ∙ ap (with_seen []) is

pub can_announce : (p : Pass) → p.view ≡ at_seen → p.view.number ≡ Some p.number → CanAnnounce p (Some 0)
can_announce p is own = (
  record { own = own; inside = subst IsInside (sym is) refl; unread = ap (λ (u : View). u.reading.section) is },
  ap (λ (u : View). length u.history.seen) (sym is),
)

-- the second load, and the load of the root's head
module _ (a s : View) (n : ℕ) (is : a ≡ at_announced) (seen : HasSeen a n s) (reads : 0 < a.announced → ReadsNow a 0 n s) where
  pub may_read : MayLoadStamp a
  may_read = subst MayLoadStamp (sym is) (record { inside = refl; closed = refl })

  now : ReadsNow a 0 n s
  now = reads (subst (λ (u : View). 0 < u.announced) (sym is) one_above)

  stamp_is : n ≡ 0 → s ≡ at_read
  stamp_is none =
      let us : s.history.seen ≡ [] = no_items s.history.seen (seen.whole ∙ none) in
      let map : contents now.tree ≡ [] = now.contents_are ∙ ap (after s.history.seen) none ∙ none_after s.history.seen in
      now.view ∙ ap (λ (xs : List Update). reading_at xs a n false (tree_nodes now.tree)) us
      ∙ ap (λ (v : View). reading_at [] v n false (tree_nodes now.tree)) is
      ∙ ap (λ k. reading_at [] at_announced k false (tree_nodes now.tree)) none
      ∙ ap (λ (ns : List TreeNode). reading_at [] at_announced 0 false ns) (no_nodes now.tree map)

  pub may_read_root : n ≡ 0 → MayReadLink s 0 Right
  may_read_root none = subst (λ (u : View). MayReadLink u 0 Right) (sym (stamp_is none)) (record { inside = refl; on = inr refl })

  pub found_root : (h : View) → h ≡ tag_loaded (link_loaded s 0 Right 0) 0 Right 0 → n ≡ 0 → h ≡ at_root
  found_root h found none = found ∙ ap (λ (v : View). tag_loaded (link_loaded v 0 Right 0) 0 Right 0) (stamp_is none)

-- the loads of the root's plain link and of its tag
pub may_read_tag : (v w : View) (x : ℕ) → IsInside v → w ≡ link_loaded v 0 Right x → MayReadTag w 0
may_read_tag v w x inside is = subst (λ (u : View). MayReadTag u 0) (sym is) (record { inside = inside; there = omega arith })

pub no_child : (v w t : View) (x tag : ℕ) → w ≡ link_loaded v 0 Right x → t ≡ tag_loaded w 0 Right tag → x ≡ 0 → tag ≡ 0
    → t ≡ tag_loaded (link_loaded v 0 Right 0) 0 Right 0
no_child v w t x tag link loaded null never =
    loaded ∙ ap (λ (u : View). tag_loaded u 0 Right tag) (link ∙ ap (λ k. link_loaded v 0 Right k) null)
    ∙ ap (λ k. tag_loaded (link_loaded v 0 Right 0) 0 Right k) never

-- with the key filled, and with the value too
abbrev pub at_key : View
at_key = filled_view at_root (Node Key 1) 5

abbrev pub at_value : View
at_value = filled_view at_key (Node Val 1) 7

-- a word by its number, which the pass may fill at its stage
pub number_free : (v r : View) (number : ℕ) (w : Word) → v ≡ r → word_at r.layout number ≡ Some w → MayFill r w → (x : Word) × (word_at v.layout number ≡ Some x) × MayFill v x
number_free v r number w is at may = subst (λ (u : View). (x : Word) × (word_at u.layout number ≡ Some x) × MayFill u x) (sym is) (w, at, may)

pub number_filled : (v r w : View) (number value : ℕ) (word x : Word) → v ≡ r → word_at r.layout number ≡ Some word → word_at v.layout number ≡ Some x → w ≡ filled_view v x value
    → w ≡ filled_view r word value
number_filled v r w number value word x is at found view =
    let same : x ≡ word = some_same x word (sym found ∙ ap (λ (u : View). word_at u.layout number) is ∙ at) in
    view ∙ ap (λ (u : View). filled_view u x value) is ∙ ap (λ (y : Word). filled_view r y value) same

-- with its entry in front of the root's bundle
abbrev pub at_prepared : View
at_prepared = prepared at_locked_root Right 0 1

filled_at : (v : View) (place : ℕ) (w : Word) (x : ℕ) → slice_get v.reading.filled place ≡ Some (record { word = w; value = x }) → HasFilled v w x
filled_at v place w x is = record { place = place; is = item_at v.reading.filled place (record { word = w; value = x }) is }

-- the root is locked, and was found unmarked
pub unmarked_is : (v l m : View) (x : ℕ) → v ≡ at_pair → l ≡ locked_view v 0 → m ≡ mark_loaded l 0 x → x ≡ 0 → m ≡ at_unmarked_root
unmarked_is v l m x is locked loaded none =
    loaded ∙ ap (λ (u : View). mark_loaded u 0 x) (locked ∙ ap (λ (u : View). locked_view u 0) is) ∙ ap (λ k. mark_loaded (locked_view at_pair 0) 0 k) none

pub may_read_again : (m : View) → m ≡ at_unmarked_root → MayReadLink m 0 Right
may_read_again m is = subst (λ (u : View). MayReadLink u 0 Right) (sym is) (record {
  inside = refl;
  on = inl (record { locked = one_above; root = λ _. refl; unmarked = λ some. absurd (omega (arith, some)) });
})

abbrev at_null_root : View
at_null_root = tag_loaded (link_loaded at_unmarked_root 0 Right 0) 0 Right 0

pub may_load_head : (m t : View) → m ≡ at_unmarked_root → t ≡ tag_loaded (link_loaded m 0 Right 0) 0 Right 0 → MayReadHead t 0
may_load_head m t is loaded =
    subst (λ (u : View). MayReadHead u 0) (sym (loaded ∙ ap (λ (u : View). tag_loaded (link_loaded u 0 Right 0) 0 Right 0) is)) (record { inside = refl; reach = inl refl })

pub locked_root_is : (m t h : View) (head : ℕ) → m ≡ at_unmarked_root → t ≡ tag_loaded (link_loaded m 0 Right 0) 0 Right 0 → HasLoadedHead t 0 Right head h
    → head ≡ 0 → h ≡ at_locked_root
locked_root_is m t h head is loaded found null =
    found.view
    ∙ ap (λ (u : View). head_loaded u 0 Right head found.number) (loaded ∙ ap (λ (u : View). tag_loaded (link_loaded u 0 Right 0) 0 Right 0) is)
    ∙ ap (λ k. head_loaded at_null_root 0 Right k found.number) null

abbrev locked_root : LoadedHead → HeldNode
locked_root head = record { node = 0; key = None; val = None; mark = Some 0; left = nothing_loaded; right = record { head = Some head; link = Some 0; tag = Some 0 } }

abbrev head_found : LoadedHead
head_found = record { entry = 0; stamp = None }

abbrev head_stored : LoadedHead
head_stored = record { entry = 1; stamp = None }

pub may_prepare : MayPrepare at_locked_root 0 Right 1
may_prepare = record {
  unraised = refl;
  node = locked_root head_found;
  locked = refl;
  unmarked = refl;
  head = head_found;
  loaded = refl;
  old = inl refl;
  free = one_above;
  small = omega arith;
  next = filled_at at_locked_root 10 (Entry Next 1) 0 refl;
  unnumbered = filled_at at_locked_root 9 (Entry Number 1) 0 refl;
}

-- the search has found the root's plain link null, with the tag 0, before it has turned
abbrev root_link : Link
root_link = record { node = 0; side = Right; child = 0; source = Plain (Some 0) None None }

abbrev holds_head : HoldsHead at_prepared 0 Right 1
holds_head = record {
  place = 0;
  held = locked_root head_stored;
  at = item_at at_prepared.held.nodes 0 (locked_root head_stored) refl;
  node_is = refl;
  loaded = head_stored;
  head = refl;
  entry_is = refl;
}

abbrev holds_grow : HoldsGrow at_prepared 5 7
holds_grow = record {
  node = 0;
  side = Right;
  at = record {
    null = record { root = λ _. refl; held = locked_root head_stored; locked = refl; unmarked = refl; leads = refl };
    tag = 0;
    held_tag = refl;
    found = record {
      place = 0;
      link = root_link;
      is = item_at at_prepared.reading.links 0 root_link refl;
      node_is = refl;
      side_is = refl;
      child_is = refl;
      above = None;
      below = None;
      source = refl;
      over = tt;
      under = tt;
    };
  };
  small = omega arith;
  slot = 1;
  new = record {
    free = one_above;
    unmarked = filled_at at_prepared 0 (Node Mark 1) 0 refl;
    key_is = filled_at at_prepared 7 (Node Key 1) 5 refl;
    val_is = filled_at at_prepared 8 (Node Val 1) 7 refl;
    left_head = 0;
    left_link = (filled_at at_prepared 1 (Node (Head Left) 1) 0 refl, inl (refl, refl));
    right_head = 0;
    right_link = (filled_at at_prepared 2 (Node (Head Right) 1) 0 refl, inl (refl, refl));
    left_child = filled_at at_prepared 3 (Node (LinkField Left) 1) 0 refl;
    right_child = filled_at at_prepared 4 (Node (LinkField Right) 1) 0 refl;
    left_tag = filled_at at_prepared 5 (Node (Tag Left) 1) 0 refl;
    right_tag = filled_at at_prepared 6 (Node (Tag Right) 1) 0 refl;
    apart = λ _. refl;
  };
  entry = 1;
  pending = refl;
  prepared = record { some = one_above; head = holds_head; pending = one_above; leads = filled_at at_prepared 11 (Entry Child 1) 1 refl };
}

pub has_new : HasNew at_prepared (1 ∷ 0 ∷ 0 ∷ [])
has_new = inr (
  one_above,
  record {
    free = one_above;
    left_head = filled_at at_prepared 1 (Node (Head Left) 1) 0 refl;
    right_head = filled_at at_prepared 2 (Node (Head Right) 1) 0 refl;
    left_free = inl refl;
    right_free = inl refl;
    apart = λ _. refl;
  },
)

can_raise : (n : ℕ) → at_prepared.number ≡ Some n → CanRaise at_prepared n
can_raise n own = record { live = refl; own = own; unraised = refl; left = one_above }

pub may_raise : (v : View) (n : ℕ) → v ≡ at_prepared → v.number ≡ Some n → MayRaise v.layout v (update_of n 2 5 (Put 7)) (Some 1) [] (set_to 0 Right 1 ∷ []) None
may_raise v n is own =
    let number : at_prepared.number ≡ Some n = sym (ap (λ (u : View). u.number) is) ∙ own in
    subst (λ (u : View). MayRaise u.layout u (update_of n 2 5 (Put 7)) (Some 1) [] (set_to 0 Right 1 ∷ []) None) (sym is)
    (grow_from_view held_link null_link at_prepared.layout at_prepared n 2 5 7 (can_raise n number) holds_grow)

-- after the raise the root's plain link is to be set to the new node
abbrev root_front : Front
root_front = record { at = record { node = 0; side = Right }; entry = 1; child = 1 }

module _ (v w f : View) (n place : ℕ) (is : v ≡ at_prepared) (own : v.number ≡ Some n)
    (gives : HasRaised v (update_of n 2 5 (Put 7)) (1 ∷ 0 ∷ 0 ∷ []) (0 ∷ 0 ∷ []) place w) (now : f ≡ finalised w 1) where
  leaves : LeavesPlain (Put 7) (set_to 0 Right 1 ∷ []) None gives.plain
  leaves = gives.leaves (set_to 0 Right 1 ∷ []) None (may_raise v n is own)

  abbrev at_numbered : View
  at_numbered =
      finalised (raised_view gives.others at_prepared (length gives.others) (update_of n 2 5 (Put 7))
      (record { added = Some 1; entries = []; taken = []; taken_entries = gives.entries; plain = gives.plain })) 1

  numbered_is : f ≡ at_numbered
  numbered_is =
      now ∙ ap (λ (y : View). finalised y 1) (gives.view ∙ ap (λ (y : View). raised_view gives.others y (length gives.others) (update_of n 2 5 (Put 7))
      (record { added = Some 1; entries = []; taken = []; taken_entries = gives.entries; plain = gives.plain })) is)

  pub may_set : MaySetLink f 0 Right 1
  may_set = subst (λ (y : View). MaySetLink y 0 Right 1) (sym numbered_is) (record {
    locked = one_above;
    done = refl;
    marked = (λ some. absurd (omega (arith, some)), tt);
    unset = sets-first gives.plain.unset root_front [] leaves.unset;
    order = ap (λ (o : Option Unlinking). not (unlinks_at 0 Right o && sets_others 0 Right gives.plain.unset)) leaves.last;
    waited = λ u is_it at_it. let none : gives.plain.unlinking ≡ None = leaves.last in cc;
  })

  -- once it is set the root may be unlocked
  pub may_unlock : (g : View) → g ≡ link_set f 0 Right 1 → MayUnlock g 0
  may_unlock g set = subst (λ (y : View). MayUnlock y 0) (sym (set ∙ ap (λ (y : View). link_set y 0 Right 1) numbered_is)) (record {
    locked = one_above;
    done = refl;
    marked = (λ some. absurd (omega (arith, some)), tt);
    set =
        all-done 0 (link_set at_numbered 0 Right 1).update
        (no-links (other_links 0 Right gives.plain.unset) (sets-rest gives.plain.unset root_front [] leaves.unset tt), leaves.owed, ap (still_unlinking 0 Right) leaves.last);
  })
