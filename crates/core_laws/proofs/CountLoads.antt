-- Where the counts of a view rise at a load.
use Rattle.std.proofs.Common.{◌≡◌, ◌≢◌, ℕ, ◌⊎◌, Bool, true, false, not, eqb, ◌&&◌, refl, ap, ◌∙◌, sym, subst, inl, inr, Some}
use Rattle.std.proofs.lemmas.Bool.{and_parts, eqb-true, eq-eqb}
use Rattle.index_words.specs.declared.side.Side.{Side}
use Rattle.index_words.specs.declared.view.View.{View}
use Rattle.index_words.specs.declared.view.history.Counts.{Counts}
use Rattle.index_words.specs.declared.word.Field.{Field}
use Rattle.index_words.specs.declared.word.Field.TheVariants.{Mark, Head, Link as LinkField, Tag}
use Rattle.index_words.specs.declared.word.Part.TheVariants.{Stamp as Number}
use Rattle.index_words.specs.declared.word.Word.{Word}
use Rattle.index_words.specs.declared.word.Word.TheVariants.{Node, Entry}
use Rattle.index_words.specs.Words.{Memory, word_at}
use Rattle.key_map.specs.Lists.{count, has, IsItem}
use Rattle.core_events.specs.declared.event.Event.{Event}
use Rattle.core_events.specs.declared.event.Kind.{Kind}
use Rattle.core_events.specs.declared.event.Kind.TheVariants.{LoadStamp, LoadHead, LoadTs, TryLock, LoadMark, LoadLink, LoadTag}
use Rattle.core_laws.specs.Counts.{MeetsLock, FindsNoNumber, FindsOther, FindsMark, FixesPlace, RisesWhere, CountsRise}
use Rattle.core_events.specs.Tables.{Table, held_by}
use Rattle.core_events.specs.LoadMoves.{raised_if, has_moved, stored_by, head_loaded, ts_loaded, is_watching, meets_pending}
use Rattle.core_events.specs.LoadNeeds.{is_part, stands_at, may_load_head, may_load_field, may_load_part}
use Rattle.core_events.specs.LockMoves.{may_count, finds_mark, mark_loaded}
use Rattle.core_events.specs.LockNeeds.{may_load_mark}
use Rattle.core_events.specs.PlainMoves.{link_moved, link_loaded, tag_moved, tag_loaded}
use Rattle.core_events.specs.PlainNeeds.{may_load_link, may_load_tag}
use Rattle.core_events.specs.Searches.{has_other_child, has_other_tag, knows_link, knows_tag}
use Rattle.core_invariant.specs.Rule.{IsRight}
use Rattle.core_events.specs.Steps.{head_at, head_from, ts_from, mark_from, link_at, link_from, tag_at, tag_from}
use Rattle.core_events.proofs.Tests.{never, not_true}
use Rattle.core_laws.proofs.Tallies.{Tally}
use Rattle.core_laws.proofs.CountTests.{rises_by, stays_by, both, none_has, has_none, not_false, says_some, some_says, neither, not_either, moved_says, says_moved, child_says, says_child, tag_says, says_tag, count_says, says_count, same_node, same_entry, same_head, same_link, same_tag}
use Rattle.core_laws.proofs.CountTests.{watching_says, says_watching}

-- at an event of such a kind a count may rise
abbrev is_counted : Kind → Bool
is_counted TryLock = true
is_counted LoadTs = true
is_counted LoadHead = true
is_counted LoadLink = true
is_counted LoadTag = true
is_counted LoadMark = true
is_counted LoadStamp = true
is_counted _ = false

-- at one of such a kind `moves` may rise
abbrev is_moved : Kind → Bool
is_moved LoadHead = true
is_moved LoadLink = true
is_moved LoadTag = true
is_moved LoadMark = true
is_moved _ = false

module _ (t : Table) (e : Event) (right : IsRight t) (v : View) (at : IsItem t.views e.seat v) (word : Word) (found : word_at t.layout e.word ≡ Some word) where
  abbrev m : Memory
  m = held_by t

  -- no event is of two kinds that a test tells apart
  kinds_apart : (test : Kind → Bool) (kind other : Kind) → e.kind ≡ kind → e.kind ≡ other → test kind ≡ false → test other ≡ true → ⊥
  kinds_apart test kind other is also off on = never (sym off ∙ ap test (sym is ∙ also) ∙ on)

  -- what moves is found by a load of a head, a plain link, a tag or a mark
  pub not_moved : (kind : Kind) → e.kind ≡ kind → is_moved kind ≡ false → FindsOther t e v ⊎ FindsMark t e v → ⊥
  not_moved kind is off (inl (inl p)) = kinds_apart is_moved kind LoadHead is p.kind off refl
  not_moved kind is off (inl (inr (inl p))) = kinds_apart is_moved kind LoadLink is p.kind off refl
  not_moved kind is off (inl (inr (inr p))) = kinds_apart is_moved kind LoadTag is p.kind off refl
  not_moved kind is off (inr p) = kinds_apart is_moved kind LoadMark is p.kind off refl

  -- the kinds that raise no count
  pub still : (kind : Kind) (w : View) → e.kind ≡ kind → Tally v w → is_counted kind ≡ false → is_moved kind ≡ false → CountsRise t e v w
  still kind w is same off unmoved = record {
    busy = stays_by (MeetsLock t e) v.counts.busy w.counts.busy (ap (λ (c : Counts). c.busy) same.counts) (λ p. kinds_apart is_counted kind TryLock is p.kind off refl);
    waits = stays_by (FindsNoNumber t e v) v.counts.waits w.counts.waits (ap (λ (c : Counts). c.waits) same.counts) (λ p. kinds_apart is_counted kind LoadTs is p.kind off refl);
    moves = stays_by (FindsOther t e v ⊎ FindsMark t e v) v.counts.moves w.counts.moves (ap (λ (c : Counts). c.moves) same.counts) (not_moved kind is unmoved);
    looks = stays_by (FixesPlace e) v.history.looks w.history.looks same.looks (λ p. kinds_apart is_counted kind LoadStamp is p.0 off refl);
  }

  -- the loads that may raise `moves` raise no other count
  moves_alone : (kind : Kind) (w : View) → e.kind ≡ kind → kind ≢ TryLock → kind ≢ LoadTs → kind ≢ LoadStamp
      → w.counts.busy ≡ v.counts.busy → w.counts.waits ≡ v.counts.waits → w.history.looks ≡ v.history.looks
      → RisesWhere (FindsOther t e v ⊎ FindsMark t e v) v.counts.moves w.counts.moves → CountsRise t e v w
  moves_alone kind w is lock stamp fix busy waits looks moves = record {
    busy = stays_by (MeetsLock t e) v.counts.busy w.counts.busy busy (λ p. lock (sym is ∙ p.kind));
    waits = stays_by (FindsNoNumber t e v) v.counts.waits w.counts.waits waits (λ p. stamp (sym is ∙ p.kind));
    moves = moves;
    looks = stays_by (FixesPlace e) v.history.looks w.history.looks looks (λ p. fix (sym is ∙ p.0));
  }

  pub stamp_counts : (w : View) → e.kind ≡ LoadStamp → w.counts ≡ v.counts → w.history.looks ≡ raised_if (eqb e.value 1) v.history.looks → CountsRise t e v w
  stamp_counts w is same looks = record {
    busy = stays_by (MeetsLock t e) v.counts.busy w.counts.busy (ap (λ (c : Counts). c.busy) same) (λ p. apart (sym is ∙ p.kind));
    waits = stays_by (FindsNoNumber t e v) v.counts.waits w.counts.waits (ap (λ (c : Counts). c.waits) same) (λ p. apart_too (sym is ∙ p.kind));
    moves = stays_by (FindsOther t e v ⊎ FindsMark t e v) v.counts.moves w.counts.moves (ap (λ (c : Counts). c.moves) same) (not_moved LoadStamp is refl);
    looks = rises_by (FixesPlace e) (eqb e.value 1) v.history.looks w.history.looks looks (λ p. eq-eqb e.value 1 p.1) (λ p. (is, eqb-true e.value 1 p));
  }
    where
      apart : LoadStamp ≡ TryLock → ⊥
      apart p = cc

      apart_too : LoadStamp ≡ LoadTs → ⊥
      apart_too p = cc

  pub ts_counts : (u : Word) → word ≡ u → e.kind ≡ LoadTs → may_load_part Number v u e.value ≡ true → CountsRise t e v (ts_from v u (m u))
  ts_counts (Entry Number d) named is met =
      let x : ℕ = m (Entry Number d) in
      let w : View = ts_loaded v d x in
      record {
        busy = stays_by (MeetsLock t e) v.counts.busy w.counts.busy refl (λ p. apart (sym is ∙ p.kind));
        waits = rises_by (FindsNoNumber t e v) (meets_pending v d x) v.counts.waits w.counts.waits refl
            (λ p.
            let one : d ≡ p.entry = same_entry d p.entry (ap Some (sym named) ∙ sym found ∙ p.word) in
            both (eqb x 0 && not (has d v.update.pending)) (is_watching v v.reading.place)
            (both (eqb x 0) (not (has d v.update.pending)) (eq-eqb x 0 (ap (λ y. m (Entry Number y)) one ∙ p.none))
            (not_false (has d v.update.pending) (none_has d v.update.pending (ap (λ y. count y v.update.pending) one ∙ p.other)))) (says_watching v p.entry p.watches))
            (λ b.
            let whole = and_parts (eqb x 0 && not (has d v.update.pending)) (is_watching v v.reading.place) b in
            let parts = and_parts (eqb x 0) (not (has d v.update.pending)) whole.0 in
            record {
              kind = is;
              entry = d;
              word = found ∙ ap Some named;
              none = eqb-true x 0 parts.0;
              other = has_none d v.update.pending (not_true (has d v.update.pending) parts.1);
              watches = watching_says v d (and_parts (is_part Number Number) (stands_at v.reading.place d) (and_parts (is_part Number Number && stands_at v.reading.place d) (eqb e.value 0) met).0).1 whole.1;
            });
        moves = stays_by (FindsOther t e v ⊎ FindsMark t e v) v.counts.moves w.counts.moves refl (not_moved LoadTs is refl);
        looks = stays_by (FixesPlace e) v.history.looks w.history.looks refl (λ p. apart_too (sym is ∙ p.0));
      }
    where
      apart : LoadTs ≡ TryLock → ⊥
      apart p = cc

      apart_too : LoadTs ≡ LoadStamp → ⊥
      apart_too p = cc
  ts_counts _ named is met = absurd (never met)

  abbrev at_head : ℕ → Side → ℕ
  at_head j s = m (Node (Head s) j)

  abbrev Stored : ℕ → Bool
  Stored x = stored_by v x (m (Entry Number x))

  head_field : (f : Field) (k : ℕ) → word ≡ Node f k → e.kind ≡ LoadHead → may_load_field v f k e.value ≡ true
      → CountsRise t e v (head_at v f k (m (Node f k)) (m (Entry Number (m (Node f k)))))
  head_field (Head side) k named is met =
      let x : ℕ = m (Node (Head side) k) in
      let n : ℕ = m (Entry Number x) in
      let w : View = head_loaded v k side x n in
      moves_alone LoadHead w is (λ p. cc) (λ p. cc) (λ p. cc) refl refl refl
      (rises_by (FindsOther t e v ⊎ FindsMark t e v) (has_moved v.reading.links k side x && not (stored_by v x n)) v.counts.moves w.counts.moves refl tested says)
    where
      tested : FindsOther t e v ⊎ FindsMark t e v → (has_moved v.reading.links k side (at_head k side) && not (Stored (at_head k side))) ≡ true
      tested (inr p) = let both_are : LoadHead ≡ LoadMark = sym is ∙ p.kind in cc
      tested (inl (inr (inl p))) = let both_are : LoadHead ≡ LoadLink = sym is ∙ p.kind in cc
      tested (inl (inr (inr p))) = let both_are : LoadHead ≡ LoadTag = sym is ∙ p.kind in cc
      tested (inl (inl p)) =
          let one = same_node (Head side) (Head p.side) k p.node (ap Some (sym named) ∙ sym found ∙ p.word) in
          let same : side ≡ p.side = same_head side p.side one.0 in
          subst (λ j. (has_moved v.reading.links j side (at_head j side) && not (Stored (at_head j side))) ≡ true) (sym one.1)
          (subst (λ s. (has_moved v.reading.links p.node s (at_head p.node s) && not (Stored (at_head p.node s))) ≡ true) (sym same)
          (both (has_moved v.reading.links p.node p.side (at_head p.node p.side)) (not (Stored (at_head p.node p.side)))
          (says_moved v p.node p.side (at_head p.node p.side) p.other)
          (not_false (Stored (at_head p.node p.side)) (not_either (has (at_head p.node p.side) v.update.pending) (has (m (Entry Number (at_head p.node p.side))) v.history.mine)
          (none_has (at_head p.node p.side) v.update.pending p.apart.0) (none_has (m (Entry Number (at_head p.node p.side))) v.history.mine p.apart.1)))))

      says : (has_moved v.reading.links k side (at_head k side) && not (Stored (at_head k side))) ≡ true → FindsOther t e v ⊎ FindsMark t e v
      says b =
          let x : ℕ = at_head k side in
          let parts = and_parts (has_moved v.reading.links k side x) (not (Stored x)) b in
          let none = neither (has x v.update.pending) (has (m (Entry Number x)) v.history.mine) (not_true (Stored x) parts.1) in
          inl (inl (record {
            kind = is;
            node = k;
            side = side;
            word = found ∙ ap Some named;
            other = moved_says v k side x parts.0;
            apart = (has_none x v.update.pending none.0, has_none (m (Entry Number x)) v.history.mine none.1);
          }))
  head_field _ k named is met = absurd (never met)

  pub head_counts : (u : Word) → word ≡ u → e.kind ≡ LoadHead → may_load_head v u e.value ≡ true → CountsRise t e v (head_from v u (m u) (m (Entry Number (m u))))
  head_counts (Node f k) named is met = head_field f k named is met
  head_counts _ named is met = absurd (never met)

  mark_field : (f : Field) (k : ℕ) → word ≡ Node f k → e.kind ≡ LoadMark → may_load_mark v (Node f k) e.value ≡ true → CountsRise t e v (mark_loaded v k (m (Node f k)))
  mark_field Mark k named is met =
      let x : ℕ = m (Node Mark k) in
      let w : View = mark_loaded v k x in
      moves_alone LoadMark w is (λ p. cc) (λ p. cc) (λ p. cc) refl refl refl
      (rises_by (FindsOther t e v ⊎ FindsMark t e v) (finds_mark v k x) v.counts.moves w.counts.moves refl tested says)
    where
      tested : FindsOther t e v ⊎ FindsMark t e v → finds_mark v k (m (Node Mark k)) ≡ true
      tested (inl (inl p)) = let both_are : LoadMark ≡ LoadHead = sym is ∙ p.kind in cc
      tested (inl (inr (inl p))) = let both_are : LoadMark ≡ LoadLink = sym is ∙ p.kind in cc
      tested (inl (inr (inr p))) = let both_are : LoadMark ≡ LoadTag = sym is ∙ p.kind in cc
      tested (inr p) =
          let one = same_node Mark Mark k p.node (ap Some (sym named) ∙ sym found ∙ p.word) in
          let x : ℕ = m (Node Mark p.node) in
          let a = not (eqb x 0) in
          let b = may_count v p.node in
          let c = not (has p.node v.update.taken) in
          let d = not (has p.node v.retired.nodes) in
          subst (λ j. finds_mark v j (m (Node Mark j)) ≡ true) (sym one.1)
          (both (a && b && c) d (both (a && b) c (both a b (says_some x p.marked) (says_count v p.node p.reach)) (not_false (has p.node v.update.taken) (none_has p.node v.update.taken p.kept.0)))
          (not_false (has p.node v.retired.nodes) (none_has p.node v.retired.nodes p.kept.1)))

      says : finds_mark v k (m (Node Mark k)) ≡ true → FindsOther t e v ⊎ FindsMark t e v
      says is_true =
          let x : ℕ = m (Node Mark k) in
          let a = not (eqb x 0) in
          let b = may_count v k in
          let c = not (has k v.update.taken) in
          let d = not (has k v.retired.nodes) in
          let one = and_parts (a && b && c) d is_true in
          let two = and_parts (a && b) c one.0 in
          let three = and_parts a b two.0 in
          inr (record {
            kind = is;
            node = k;
            word = found ∙ ap Some named;
            marked = some_says x three.0;
            reach = count_says v k three.1;
            kept = (has_none k v.update.taken (not_true (has k v.update.taken) two.1), has_none k v.retired.nodes (not_true (has k v.retired.nodes) one.1));
          })
  mark_field _ k named is met = absurd (never met)

  pub mark_counts : (u : Word) → word ≡ u → e.kind ≡ LoadMark → may_load_mark v u e.value ≡ true → CountsRise t e v (mark_from v u (m u))
  mark_counts (Node f k) named is met = mark_field f k named is met
  mark_counts _ named is met = absurd (never met)

  abbrev LinkMoved : ℕ → Side → Bool
  LinkMoved j s = link_moved v j s (m (Node (LinkField s) j))

  link_field : (f : Field) (k : ℕ) → word ≡ Node f k → e.kind ≡ LoadLink → may_load_link v (Node f k) e.value ≡ true → CountsRise t e v (link_at v f k (m (Node f k)))
  link_field (LinkField side) k named is met =
      let x : ℕ = m (Node (LinkField side) k) in
      let w : View = link_loaded v k side x in
      moves_alone LoadLink w is (λ p. cc) (λ p. cc) (λ p. cc) refl refl refl
      (rises_by (FindsOther t e v ⊎ FindsMark t e v) (link_moved v k side x) v.counts.moves w.counts.moves refl tested says)
    where
      tested : FindsOther t e v ⊎ FindsMark t e v → LinkMoved k side ≡ true
      tested (inr p) = let both_are : LoadLink ≡ LoadMark = sym is ∙ p.kind in cc
      tested (inl (inl p)) = let both_are : LoadLink ≡ LoadHead = sym is ∙ p.kind in cc
      tested (inl (inr (inr p))) = let both_are : LoadLink ≡ LoadTag = sym is ∙ p.kind in cc
      tested (inl (inr (inl p))) =
          let one = same_node (LinkField side) (LinkField p.side) k p.node (ap Some (sym named) ∙ sym found ∙ p.word) in
          let x : ℕ = m (Node (LinkField p.side) p.node) in
          subst (λ j. LinkMoved j side ≡ true) (sym one.1)
          (subst (λ s. LinkMoved p.node s ≡ true) (sym (same_link side p.side one.0))
          (both (has_other_child v.reading.links p.node p.side x) (not (knows_link v.held.nodes p.node p.side x)) (says_child v p.node p.side x p.other)
          (not_false (knows_link v.held.nodes p.node p.side x) p.unknown)))

      says : LinkMoved k side ≡ true → FindsOther t e v ⊎ FindsMark t e v
      says b =
          let x : ℕ = m (Node (LinkField side) k) in
          let parts = and_parts (has_other_child v.reading.links k side x) (not (knows_link v.held.nodes k side x)) b in
          inl (inr (inl (record {
            kind = is;
            node = k;
            side = side;
            word = found ∙ ap Some named;
            other = child_says v k side x parts.0;
            unknown = not_true (knows_link v.held.nodes k side x) parts.1;
          })))
  link_field _ k named is met = absurd (never met)

  pub link_counts : (u : Word) → word ≡ u → e.kind ≡ LoadLink → may_load_link v u e.value ≡ true → CountsRise t e v (link_from v u (m u))
  link_counts (Node f k) named is met = link_field f k named is met
  link_counts _ named is met = absurd (never met)

  abbrev TagMoved : ℕ → Side → Bool
  TagMoved j s = tag_moved v j s (m (Node (Tag s) j))

  tag_field : (f : Field) (k : ℕ) → word ≡ Node f k → e.kind ≡ LoadTag → may_load_tag v (Node f k) e.value ≡ true → CountsRise t e v (tag_at v f k (m (Node f k)))
  tag_field (Tag side) k named is met =
      let x : ℕ = m (Node (Tag side) k) in
      let w : View = tag_loaded v k side x in
      moves_alone LoadTag w is (λ p. cc) (λ p. cc) (λ p. cc) refl refl refl
      (rises_by (FindsOther t e v ⊎ FindsMark t e v) (tag_moved v k side x) v.counts.moves w.counts.moves refl tested says)
    where
      tested : FindsOther t e v ⊎ FindsMark t e v → TagMoved k side ≡ true
      tested (inr p) = let both_are : LoadTag ≡ LoadMark = sym is ∙ p.kind in cc
      tested (inl (inl p)) = let both_are : LoadTag ≡ LoadHead = sym is ∙ p.kind in cc
      tested (inl (inr (inl p))) = let both_are : LoadTag ≡ LoadLink = sym is ∙ p.kind in cc
      tested (inl (inr (inr p))) =
          let one = same_node (Tag side) (Tag p.side) k p.node (ap Some (sym named) ∙ sym found ∙ p.word) in
          let x : ℕ = m (Node (Tag p.side) p.node) in
          subst (λ j. TagMoved j side ≡ true) (sym one.1)
          (subst (λ s. TagMoved p.node s ≡ true) (sym (same_tag side p.side one.0))
          (both (has_other_tag v.reading.links p.node p.side x) (not (knows_tag v.held.nodes p.node p.side x)) (says_tag v p.node p.side x p.other)
          (not_false (knows_tag v.held.nodes p.node p.side x) p.unknown)))

      says : TagMoved k side ≡ true → FindsOther t e v ⊎ FindsMark t e v
      says b =
          let x : ℕ = m (Node (Tag side) k) in
          let parts = and_parts (has_other_tag v.reading.links k side x) (not (knows_tag v.held.nodes k side x)) b in
          inl (inr (inr (record {
            kind = is;
            node = k;
            side = side;
            word = found ∙ ap Some named;
            other = tag_says v k side x parts.0;
            unknown = not_true (knows_tag v.held.nodes k side x) parts.1;
          })))
  tag_field _ k named is met = absurd (never met)

  pub tag_counts : (u : Word) → word ≡ u → e.kind ≡ LoadTag → may_load_tag v u e.value ≡ true → CountsRise t e v (tag_from v u (m u))
  tag_counts (Node f k) named is met = tag_field f k named is met
  tag_counts _ named is met = absurd (never met)
