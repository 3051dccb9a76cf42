-- What is met where a count rises is what another pass did.
use Rattle.std.proofs.Common.{◌≡◌, ℕ, zero, suc, ◌+◌, ◌<◌, ◌≤◌, ◌⊎◌, [], length, true, false, not, eqb, ◌&&◌, arith, refl, ap, ◌∙◌, sym, subst, inl, inr, Option, Some, None}
use Rattle.std.specs.List.{slice_get}
use Rattle.std.proofs.lemmas.Bool.{and_parts}
use Rattle.index_words.specs.declared.side.Side.{Side}
use Rattle.index_words.specs.declared.view.View.{View}
use Rattle.index_words.specs.declared.view.history.Counts.{Counts}
use Rattle.index_words.specs.declared.view.reading.Link.{Link}
use Rattle.index_words.specs.declared.view.reading.Reading.{Reading}
use Rattle.index_words.specs.declared.view.reading.Place.TheVariants.{Nowhere}
use Rattle.index_words.specs.declared.word.Field.TheVariants.{Lock, Mark, Head}
use Rattle.index_words.specs.declared.word.Part.TheVariants.{Stamp as Number}
use Rattle.index_words.specs.declared.word.Word.{Word}
use Rattle.index_words.specs.declared.word.Word.TheVariants.{Section, Node, Entry}
use Rattle.index_words.specs.Words.{Memory, word_at}
use Rattle.key_map.specs.Lists.{count, IsItem}
use Rattle.key_map.proofs.Counting.{count-append}
use Rattle.core_grace.specs.Holds.{ReadsNode, held_slots, tree_slots, work_nodes, listed}
use Rattle.core_grace.specs.Sections.{is_even}
use Rattle.core_grace.specs.Slots.{own}
use Rattle.core_events.specs.declared.event.Event.{Event}
use Rattle.core_events.specs.declared.event.Kind.{Kind}
use Rattle.core_events.specs.declared.event.Kind.TheVariants.{TryLock, LoadMark}
use Rattle.core_events.specs.Tables.{Table, held_by}
use Rattle.core_events.specs.LoadMoves.{locks}
use Rattle.core_events.specs.LockNeeds.{is_mark, names_pass, may_lock, may_try_lock, may_load_mark}
use Rattle.core_events.specs.Needs.{is_lock}
use Rattle.core_events.specs.Steps.{needs, carries, allowed_at}
use Rattle.core_events.proofs.Tests.{never, not_true, node_there, entry_there}
use Rattle.core_invariant.specs.Locks.{lock_count}
use Rattle.core_invariant.specs.Readers.{PlaceRight}
use Rattle.core_invariant.specs.Rule.{IsRight}
use Rattle.core_invariant.proofs.Frames.{count-middle}
use Rattle.core_invariant.proofs.Locked.{count-locks}
use Rattle.core_invariant.proofs.Idle.{nameless_idle}
use Rattle.core_invariant.proofs.OneView.{item_from_get, seat_at}
use Rattle.core_invariant.proofs.Owned.{reachable_live}
use Rattle.core_laws.specs.Alone.{AnotherPass, HasLocked, HasPending, HasMovedHead, HasTakenOut, IsStoredBy, MetByOthers, MeetsNothing, OthersLaw, NothingLaw, AloneLaw}
use Rattle.core_laws.specs.Counts.{MeetsLock, FindsNoNumber, FindsOther, FindsOtherHead, FindsMark}
use Rattle.core_laws.proofs.Changers.{link_since, tag_since}
use Rattle.core_laws.proofs.CountFacts.{number_some}
use Rattle.core_laws.proofs.Counts.{counts_law}
use Rattle.core_laws.proofs.Owners.{found_at}
use Rattle.core_laws.proofs.KnownLinks.{link_met, tag_met}
use Rattle.core_laws.proofs.Elsewhere.{lock_held, pending_elsewhere, read_elsewhere, searched_elsewhere, head_elsewhere}

-- what an allowed event meets
module _ (t : Table) (e : Event) (right : IsRight t) (v : View) (at : IsItem t.views e.seat v) (word : Word) (found : word_at t.layout e.word ≡ Some word)
    (met : needs e.kind t.layout (held_by t) t.views e.seat v word e.value e.update ≡ true) where
  needs_of : (kind : Kind) → e.kind ≡ kind → needs kind t.layout (held_by t) t.views e.seat v word e.value e.update ≡ true
  needs_of kind is = subst (λ k. needs k t.layout (held_by t) t.views e.seat v word e.value e.update ≡ true) is met

  inside_named : not (is_even v.section_word) ≡ true → v.number ≡ None → ⊥
  inside_named inside none =
      let section = (seat_at t.layout (held_by t) t.views right.meaning e.seat v at right.rule).section in
      absurd (never (sym (not_true (is_even v.section_word) inside) ∙ nameless_even none))
    where
      nameless_even : v.number ≡ None → is_even v.section_word ≡ true
      nameless_even none = even_by v.number none (seat_at t.layout (held_by t) t.views right.meaning e.seat v at right.rule).section.section
        where
          even_by : (o : Option ℕ) → o ≡ None → Rattle.core_invariant.specs.SectionRule.IsOwnWord (λ n. held_by t (Section n)) o v.section_word → is_even v.section_word ≡ true
          even_by None is own = ap is_even own
          even_by (Some n) is own = cc

  not_locked : (k : ℕ) → not (locks k v.held.nodes) ≡ true → lock_count k v ≡ 0
  not_locked k none = counted_by (lock_count k v) refl
    where
      counted_by : (n : ℕ) → lock_count k v ≡ n → n ≡ 0
      counted_by zero is = refl
      counted_by (suc n) is = absurd (never (sym (not_true (locks k v.held.nodes) none) ∙ count-locks k v.held.nodes (omega (arith, is))))

  lock_by : (u : Word) → word ≡ u → may_try_lock v u e.value ≡ true → MeetsLock t e → AnotherPass t v (HasLocked t e)
  lock_by (Node Lock k) named may p =
      let a = not (is_even v.section_word) in
      let b = may_lock v k in
      let c = not (locks k v.held.nodes) in
      let one = and_parts (is_lock Lock && a && b && c) (names_pass v.number e.value) may in
      let two = and_parts (is_lock Lock && a && b) c one.0 in
      let three = and_parts (is_lock Lock && a) b two.0 in
      let own = number_some v.number (inside_named (and_parts (is_lock Lock) a three.0).1) in
      let here : word_at t.layout e.word ≡ Some (Node Lock k) = found ∙ ap Some named in
      let held : 0 < held_by t (Node Lock k) = subst (λ x. 0 < x) (found_at t.layout t.words e.word (Node Lock k) here) p.held in
      lock_held t right e.seat v at own.0 k own.1 (not_locked k two.1) held (HasLocked t e) (λ n u some. record { node = k; word = here; locked = some })
  lock_by _ named may p = absurd (never may)

  number_by : FindsNoNumber t e v → AnotherPass t v (HasPending t e)
  number_by p =
      let side = p.watches.side in
      let seat = seat_at t.layout (held_by t) t.views right.meaning e.seat v at right.rule in
      let place = subst (PlaceRight t.layout (λ d. held_by t (Entry Number d)) right.meaning.bundles v) p.watches.place seat.place in
      let stands = place.stands (entry_there t.layout e.word p.entry Number p.word) p.watches.watched in
      let here : 0 < count p.entry (right.meaning.bundles.bundle side p.watches.node) = subst (λ es. 0 < count p.entry es) (sym stands.splits) (count-middle p.entry stands.front stands.back) in
      let live = reachable_live t.layout t.views right.meaning right.rule.slots e.seat p.watches.node v at place.reach in
      let own = number_some v.number (λ none. placed_named p none) in
      pending_elsewhere t right e.seat v at own.0 p.watches.node p.entry side own.1 live here p.none p.other (HasPending t e) (λ n u some. record { entry = p.entry; word = p.word; pending = some })
    where
      placed_named : FindsNoNumber t e v → v.number ≡ None → ⊥
      placed_named p none =
          let idle = nameless_idle _ _ v (seat_at t.layout (held_by t) t.views right.meaning e.seat v at right.rule).section none in
          let nowhere : v.reading.place ≡ Nowhere = ap (λ (r : Reading). r.place) idle.reading in
          cc (sym nowhere ∙ p.watches.place)

  head_by : FindsOtherHead t e v → AnotherPass t v (HasMovedHead t e)
  head_by p =
      let l : Link = p.other.link in
      let m : Memory = held_by t in
      let head_of : Side → ℕ → ℕ = λ s k. m (Node (Head s) k) in
      let same : head_of l.side l.node ≡ head_of p.side p.node = ap (λ s. head_of s l.node) p.other.side_is ∙ ap (head_of p.side) p.other.node_is in
      let own = number_some v.number (λ none. linked_named p none) in
      head_elsewhere t right e.seat v at own.0 p.other.place p.other.entry l own.1 p.other.is p.other.source (λ is. p.other.apart (is ∙ same))
      (subst (λ h. count h v.update.pending ≡ 0) (sym same) p.apart.0) (subst (λ h. count (m (Entry Number h)) v.history.mine ≡ 0) (sym same) p.apart.1) (HasMovedHead t e)
      (λ n u stored. record { node = p.node; side = p.side; word = p.word; stored = subst (IsStoredBy t n u) same stored })
    where
      linked_named : FindsOtherHead t e v → v.number ≡ None → ⊥
      linked_named p none =
          let idle = nameless_idle _ _ v (seat_at t.layout (held_by t) t.views right.meaning e.seat v at right.rule).section none in
          let empty : v.reading.links ≡ [] = ap (λ (r : Reading). r.links) idle.reading in
          omega (arith, p.other.is.within, ap length empty)

  mark_by : (u : Word) → word ≡ u → may_load_mark v u e.value ≡ true → FindsMark t e v → AnotherPass t v (HasTakenOut t e)
  mark_by (Node f k) named may p =
      let a = not (is_even v.section_word) in
      let one = and_parts (is_mark f && a) (eqb e.value 0) may in
      let own = number_some v.number (inside_named (and_parts (is_mark f) a one.0).1) in
      let inside : is_even v.section_word ≡ false = not_true (is_even v.section_word) (and_parts (is_mark f) a one.0).1 in
      let high : p.node ≤ t.layout.nodes = node_there t.layout e.word p.node Mark p.word in
      let gives : (n : ℕ) (u : View) → 0 < count p.node u.retired.nodes + count p.node u.batch.nodes → HasTakenOut t e n u
      = λ n u waits. record { node = p.node; word = p.word; waits = waits } in
      elim p.reach as (λ _. AnotherPass t v (HasTakenOut t e)) [
        | inl (inl root) ↦ root_by root p.marked
        | inl (inr reads) ↦ read_elsewhere t right e.seat v at own.0 p.node own.1 high (read_by p.node reads) p.marked p.kept.1 (HasTakenOut t e) gives
        | inr (inl root) ↦ root_by root p.marked
        | inr (inr here) ↦ searched_elsewhere t right e.seat v at own.0 p.node own.1 inside (no_root p.node p.marked) here p.marked p.kept.1 (HasTakenOut t e) gives
      ]
    where
      no_root : (j : ℕ) → 0 < held_by t (Node Mark j) → 0 < j
      no_root zero marked = absurd (omega (arith, marked, right.rule.marks.root))
      no_root (suc j) marked = omega arith

      root_by : {j : ℕ} → j ≡ 0 → 0 < held_by t (Node Mark j) → AnotherPass t v (HasTakenOut t e)
      root_by {j = j} root marked = absurd (omega (arith, root, no_root j marked))

      read_by : (j : ℕ) → (0 < count j (tree_slots v.reading.tree)) ⊎ (0 < count j (held_slots v.held.nodes)) → ReadsNode v j
      read_by j (inl tree) = omega (arith, tree, count-append j (tree_slots v.reading.tree) (work_nodes v))
      read_by j (inr locked) =
          omega (arith, locked, count-append j (tree_slots v.reading.tree) (work_nodes v), count-append j (held_slots v.held.nodes) (listed v.update.added))
  mark_by _ named may p = absurd (never may)

  met_by_others : MetByOthers t e v
  met_by_others = record {
    lock = λ p. lock_by word refl (needs_of TryLock p.kind) p;
    number = number_by;
    head = head_by;
    link = link_since t e v;
    tag = tag_since t e v;
    mark = λ p. mark_by word refl (needs_of LoadMark p.kind) p;
  }

others_by : (t : Table) (e : Event) (v : View) (o : Option View) (w : Option Word) → slice_get t.views e.seat ≡ o → word_at t.layout e.word ≡ w → IsRight t → allowed_at t e o w ≡ true → o ≡ Some v → MetByOthers t e v
others_by t e v (Some u) (Some w) is found right met one =
    let a = carries e.kind u e.update in
    let b = not u.joined in
    let c = needs e.kind t.layout (held_by t) t.views e.seat u w e.value e.update in
    let met_u = met_by_others t e right u (item_from_get t.views e.seat u is) w found (and_parts (a && b) c met).1 in
    let same : u ≡ v = cc in
    subst (MetByOthers t e) same met_u
others_by t e v _ _ is found right met one = absurd (never met)

pub others : OthersLaw
others t e v right met is = others_by t e v (slice_get t.views e.seat) (word_at t.layout e.word) refl refl right met is

-- with one pass there is no other
nobody_else : (t : Table) (v : View) (does : ℕ → View → Type 0) → t.layout.passes ≡ 1 → AnotherPass t v does → ⊥
nobody_else t v does one other =
    let apart : other.pass ≡ other.own → ⊥ = other.apart in
    omega (arith, one, other.own_there, other.there, apart)

pub nothing : NothingLaw
nothing t e v right one met before =
    let by = others t e v right met before in
    record {
      lock = λ p. nobody_else t v (HasLocked t e) one (by.lock p);
      number = λ p. nobody_else t v (HasPending t e) one (by.number p);
      head = λ p. nobody_else t v (HasMovedHead t e) one (by.head p);
      link = λ p. link_met t right e.seat v (item_from_get t.views e.seat v before) one p.node p.side p.other p.unknown;
      tag = λ p. tag_met t right e.seat v (item_from_get t.views e.seat v before) one p.node p.side p.other p.unknown;
      mark = λ p. nobody_else t v (HasTakenOut t e) one (by.mark p);
    }

same_counts : (a b : Counts) → a.busy ≡ b.busy → a.waits ≡ b.waits → a.moves ≡ b.moves → a ≡ b
same_counts a b busy waits moves =
    ap (λ n. record { busy = n; waits = a.waits; moves = a.moves }) busy ∙ ap (λ n. record { busy = b.busy; waits = n; moves = a.moves }) waits
    ∙ ap (λ n. record { busy = b.busy; waits = b.waits; moves = n }) moves

pub alone : AloneLaw
alone t e v w right one met before after =
    let none = nothing t e v right one met before in
    let rise = counts_law t e v w right met before after in
    same_counts w.counts v.counts (rise.busy.stays none.lock) (rise.waits.stays none.number) (rise.moves.stays (no_move none))
  where
    no_move : MeetsNothing t e v → FindsOther t e v ⊎ FindsMark t e v → ⊥
    no_move none (inl (inl p)) = none.head p
    no_move none (inl (inr (inl p))) = none.link p
    no_move none (inl (inr (inr p))) = none.tag p
    no_move none (inr p) = none.mark p
