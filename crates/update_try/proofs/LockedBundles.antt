-- A walk along a bundle of a locked node.
use Rattle.std.proofs.Common.{◌≡◌, ℕ, suc, ◌<◌, ◌≤◌, ◌⊎◌, ◌&&◌, inl, inr, List, [], ◌∷◌, ◌++◌, length, refl, ap, sym, ◌∙◌, subst, arith, Option, Some, None}
use Rattle.std.specs.Prelude.{◌==◌, IfSome}
use Rattle.std.proofs.lemmas.List.{length-append}
use Rattle.index_words.specs.declared.side.Side.{Side}
use Rattle.index_words.specs.declared.side.Side.TheVariants.{Left, Right}
use Rattle.index_words.specs.declared.view.View.{View}
use Rattle.index_words.specs.declared.view.reading.Link.{Link as ViewLink}
use Rattle.index_words.specs.declared.view.reading.Place.{Place}
use Rattle.index_words.specs.declared.view.reading.Place.TheVariants.{Entry as AtEntry}
use Rattle.index_words.specs.declared.view.update.HeldNext.{HeldNext}
use Rattle.index_words.specs.declared.view.update.HeldNode.{HeldNode}
use Rattle.index_words.specs.declared.view.update.LoadedHead.{LoadedHead}
use Rattle.index_words.specs.declared.word.Field.TheVariants.{Head}
use Rattle.index_words.specs.declared.word.Part.TheVariants.{Stamp as Number, Next}
use Rattle.index_words.specs.declared.word.Word.TheVariants.{Node, Entry}
use Rattle.index_words.specs.Words.{Memory, memory}
use Rattle.key_map.specs.Lists.{Every, IsItem}
use Rattle.core_links.specs.Bundle.{IsChain}
use Rattle.core_trees.specs.declared.link.Link.{Link}
use Rattle.core_events.specs.LoadMoves.{bundle_link, is_above, kept_if, next_at, next_loaded, remembered_if, with_held, with_place}
use Rattle.core_events.specs.UpdateNeeds.{held_at, side_of}
use Rattle.core_invariant.specs.BundleRule.{IsLive, TailWritten}
use Rattle.core_invariant.specs.Locks.{HeadRight, IsNodeAt, IsNextAt}
use Rattle.core_invariant.specs.Meanings.{Meaning}
use Rattle.core_invariant.specs.Readers.{IsLocked}
use Rattle.core_invariant.specs.SeatRule.{SeatRight}
use Rattle.core_invariant.proofs.Locked.{held_holds, count-locks}
use Rattle.core_invariant.proofs.OneView.{seat_at}
use Rattle.core_invariant.proofs.Owned.{held_live}
use Rattle.core_laws.specs.ViewNeeds.{MayReadNext}
use Rattle.core_laws.specs.PlainNeeds.{IsHeldUnmarked}
use Rattle.core_laws.proofs.Found.{bundle_length_law}
use Rattle.core_laws.proofs.Remembered.{every_item}
use Rattle.core_laws.proofs.Searching.{head_numbered_law}
use Rattle.core_updates.specs.Held.{HoldsHead}
use Rattle.core_updates.specs.PlanEvents.{HoldsEntry}
use Rattle.core_updates.proofs.PlanSteps.{held_once}
use Rattle.plan_laws.specs.Frames.{KeepsPass, KeepsTry}
use Rattle.plan_laws.specs.Looks.{KeepsLooks}
use Rattle.plan_laws.specs.Tries.{IsTrying, KeepsTrying}
use Rattle.plan_laws.proofs.Frames.{same-counts}
use Rattle.plan_laws.proofs.Items.{item-longer, last-item}
use Rattle.plan_laws.proofs.Looks.{steps_keep_looks}
use Rattle.plan_laws.proofs.Tries.{loads_keep}
use Rattle.table_rule.specs.Homes.{IsLiveView}
use Rattle.table_rule.specs.Running.{Stands, table}
use Rattle.table_rule.proofs.Lists.{item_at}
use Rattle.table_steps.specs.Raises.{HoldsNext, HoldsChain}
use Rattle.plan_laws.proofs.Prunes.{cut_step, prune_step}
use Rattle.update_try.specs.Pruning.{KeepsUpdate, KeepsLeast}
use Rattle.update_try.specs.Walked.{StandsOn, HoldsPart, KeepsNexts}

-- a part that ends at 0 is the whole chain
pub part_ends : (v : View) (node head : ℕ) (es : List ℕ) → HoldsPart v node head es 0 → HoldsChain v node head es
part_ends v node head [] part = part
part_ends v node head (e ∷ es) part = (part.0, part.1, (part.2.0, part.2.1, part_ends v node part.2.0 es part.2.2))

pub part_kept : (v w : View) (node head entry : ℕ) (es : List ℕ) → KeepsNexts v w → HoldsPart v node head es entry → HoldsPart w node head es entry
part_kept v w node head entry [] keeps part = part
part_kept v w node head entry (e ∷ es) keeps part =
    let h = part.2.1 in (
      part.0,
      part.1,
      (
        part.2.0,
        record {
          place = h.place;
          item = h.item;
          at = keeps h.place h.item h.at;
          node_is = h.node_is;
          entry_is = h.entry_is;
          next_is = h.next_is;
        },
        part_kept v w node part.2.0 entry es keeps part.2.2,
      ),
    )

part_more : (v : View) (node head entry next : ℕ) (es : List ℕ) → HoldsPart v node head es entry → 0 < entry → HoldsNext v node entry next
    → HoldsPart v node head (es ++ entry ∷ []) next
part_more v node head entry next [] part some h = (part, some, (next, h, refl))
part_more v node head entry next (e ∷ es) part some h = (part.0, part.1, (part.2.0, part.2.1, part_more v node part.2.0 entry next es part.2.2 some h))

-- in a table that meets the rule what was found is what the words hold
module _ (v : View) (live : IsLiveView v) where
  abbrev s : Stands v.layout v
  s = live.stands

  abbrev m : Memory
  m = memory v.layout s.words

  abbrev g : Meaning
  g = s.rule.meaning

  at_seat : IsItem s.views s.seat v
  at_seat = item_at s.views s.seat v s.at

  seat : SeatRight v.layout m g v
  seat = seat_at v.layout m s.views g s.seat v at_seat s.rule.rule

  next_known : (node e next : ℕ) → HoldsNext v node e next → m (Entry Next e) ≡ next
  next_known node e next h =
      let known : IsNextAt m g.bundles v.held.nodes h.item
      = every_item (IsNextAt m g.bundles v.held.nodes) v.held.nexts h.place h.item h.at seat.loaded.nexts in
      subst (λ d. m (Entry Next d) ≡ next) h.entry_is (known.is ∙ h.next_is)

  loaded_by : (node entry : ℕ) (side : Side) (n : HeldNode) (l : LoadedHead) → IsNodeAt m n → (side_of side n).head ≡ Some l → n.node ≡ node → l.entry ≡ entry
      → m (Node (Head side) node) ≡ entry
  loaded_by node entry Left n l known is same entry_is =
      subst (λ k. m (Node (Head Left) k) ≡ entry) same
      ((subst (λ (o : Option LoadedHead). IfSome o (HeadRight (m (Node (Head Left) n.node)) (λ e. m (Entry Number e)))) is known.left.head).0 ∙ entry_is)
  loaded_by node entry Right n l known is same entry_is =
      subst (λ k. m (Node (Head Right) k) ≡ entry) same
      ((subst (λ (o : Option LoadedHead). IfSome o (HeadRight (m (Node (Head Right) n.node)) (λ e. m (Entry Number e)))) is known.right.head).0 ∙ entry_is)

  pub head_known : (node : ℕ) (side : Side) (entry : ℕ) → HoldsHead v node side entry → m (Node (Head side) node) ≡ entry
  head_known node side entry h =
      loaded_by node entry side h.held h.loaded (every_item (IsNodeAt m) v.held.nodes h.place h.held h.at seat.loaded.nodes) h.head h.node_is h.entry_is

  -- a part that does not end yet is shorter than the bundle
  part_short : (node head entry : ℕ) (es bundle : List ℕ) → HoldsPart v node head es entry → 0 < entry → IsChain (λ e. m (Entry Next e)) head bundle
      → length es < length bundle
  part_short node head entry [] [] part some chain = absurd (omega (arith, part, some, chain))
  part_short node head entry [] (b ∷ bs) part some chain = omega arith
  part_short node head entry (e ∷ es) [] part some chain = absurd (omega (arith, part.0, part.1, chain))
  part_short node head entry (e ∷ es) (b ∷ bs) part some chain =
      let same : b ≡ e = sym chain.0 ∙ part.0 in
      let below : IsChain (λ d. m (Entry Next d)) part.2.0 bs
      = subst (λ k. IsChain (λ d. m (Entry Next d)) k bs) (ap (λ d. m (Entry Next d)) same ∙ next_known node e part.2.0 part.2.1) chain.2 in
      omega (arith, part_short node part.2.0 entry es bs part.2.2 some below)

  -- what holds of each entry of the bundle holds of the one at which a part ends
  part_every : (P : ℕ → Type 0) (node head entry : ℕ) (es bundle : List ℕ) → HoldsPart v node head es entry → 0 < entry
      → IsChain (λ e. m (Entry Next e)) head bundle → Every P bundle → P entry
  part_every P node head entry [] [] part some chain all = absurd (omega (arith, part, some, chain))
  part_every P node head entry [] (b ∷ bs) part some chain all = subst P (sym chain.0 ∙ part) all.0
  part_every P node head entry (e ∷ es) [] part some chain all = absurd (omega (arith, part.0, part.1, chain))
  part_every P node head entry (e ∷ es) (b ∷ bs) part some chain all =
      let same : b ≡ e = sym chain.0 ∙ part.0 in
      let below : IsChain (λ d. m (Entry Next d)) part.2.0 bs
      = subst (λ k. IsChain (λ d. m (Entry Next d)) k bs) (ap (λ d. m (Entry Next d)) same ∙ next_known node e part.2.0 part.2.1) chain.2 in
      part_every P node part.2.0 entry es bs part.2.2 some below all.1

  -- the entries of a locked node's bundle have numbers, where the node was found unmarked and the pass has none
  -- pending: the head, and all entries after it
  behind_numbered : (node head entry : ℕ) (es bundle : List ℕ) → HoldsPart v node head es entry → 0 < entry → IsChain (λ e. m (Entry Next e)) head bundle
      → TailWritten (λ e. m (Entry Number e)) bundle → (head ≡ 0) ⊎ (0 < m (Entry Number head)) → 0 < m (Entry Number entry)
  behind_numbered node head entry [] bundle part some chain tail first =
      elim first as (λ _. 0 < m (Entry Number entry)) [
        | inl none ↦ absurd (omega (arith, none, part, some))
        | inr written ↦ subst (λ e. 0 < m (Entry Number e)) part written
      ]
  behind_numbered node head entry (e ∷ es) [] part some chain tail first = absurd (omega (arith, part.0, part.1, chain))
  behind_numbered node head entry (e ∷ es) (b ∷ bs) part some chain tail first =
      let same : b ≡ e = sym chain.0 ∙ part.0 in
      let below : IsChain (λ d. m (Entry Next d)) part.2.0 bs
      = subst (λ k. IsChain (λ d. m (Entry Next d)) k bs) (ap (λ d. m (Entry Next d)) same ∙ next_known node e part.2.0 part.2.1) chain.2 in
      part_every (λ d. 0 < m (Entry Number d)) node part.2.0 entry es bs part.2.2 some below tail

  pub part_numbered : (at : Link) (head entry : ℕ) (es : List ℕ) → v.update.pending ≡ [] → IsLocked v at.node → HoldsEntry v at head → 0 < entry
      → HoldsPart v at.node head es entry
      → 0 < m (Entry Number entry)
  part_numbered at head entry es idle locked holds some part =
      let here : IsLive v.layout s.views at.node
      = held_live v.layout s.views g s.rule.rule.slots s.seat at.node v at_seat (held_holds v at.node locked) (seat.locks at.node locked).0 in
      let bundle = s.rule.rule.bundles at.node here at.side in
      let is : m (Node (Head at.side) at.node) ≡ head = head_known at.node at.side head holds.head in
      let unmarked : IsHeldUnmarked v at.node = record {
        held = holds.head.held;
        locked =
            subst (λ k. held_at k v.held.nodes ≡ Some holds.head.held) holds.head.node_is
            (held_once v.layout s.words s.views s.seat holds.head.place v holds.head.held s.rule s.at holds.head.at);
        unmarked = holds.unmarked;
      } in
      behind_numbered at.node head entry es (g.bundles.bundle at.side at.node) part some
      (subst (λ k. IsChain (λ e. m (Entry Next e)) k (g.bundles.bundle at.side at.node)) is bundle.chain) bundle.tail
      (subst (λ k. (k ≡ 0) ⊎ (0 < m (Entry Number k))) is
      (head_numbered_law (table v.layout s.words s.views) s.seat v at.node at.side s.rule at_seat idle unmarked))

  pub part_few : (at : Link) (head entry : ℕ) (es : List ℕ) → StandsOn v at head entry → 0 < entry → HoldsPart v at.node head es entry
      → length es < v.layout.entries
  part_few at head entry es on some part =
      let here : IsLive v.layout s.views at.node
      = held_live v.layout s.views g s.rule.rule.slots s.seat at.node v at_seat (held_holds v at.node on.locked) (seat.locks at.node on.locked).0 in
      let bundle = (s.rule.rule.bundles at.node here at.side).chain in
      let chain : IsChain (λ e. m (Entry Next e)) head (g.bundles.bundle at.side at.node)
      = subst (λ k. IsChain (λ e. m (Entry Next e)) k (g.bundles.bundle at.side at.node)) (head_known at.node at.side head on.head_is) bundle in
      omega (
        arith,
        part_short at.node head entry es (g.bundles.bundle at.side at.node) part some chain,
        bundle_length_law (table v.layout s.words s.views) at.node at.side (g.bundles.bundle at.side at.node) s.rule here bundle,
      )

-- one entry on
module _ (v : View) (at : Link) (head entry : ℕ) (on : StandsOn v at head entry) (some : 0 < entry) where
  pub may_walk : MayReadNext v entry
  may_walk = record { at = record { node = at.node; side = at.side; found = on.found; place = on.place; some = some; there = on.there }; on = inl on.locked }

  module _ (w : View) (next : ℕ) (gives : w ≡ next_loaded v entry next) (low : next ≤ v.layout.entries) where
    abbrev item : HeldNext
    item = record { node = at.node; entry = entry; stamp = on.found; next = next }

    abbrev links : List ViewLink
    links = remembered_if (next == 0 && is_above v entry on.found) v.reading.links (bundle_link at.node at.side 0 0)

    abbrev then : View
    then = with_place (with_held v v.held.nodes (v.held.nexts ++ item ∷ [])) (AtEntry at.node at.side next None) on.found links

    view_is : w ≡ then
    view_is =
        gives ∙ ap (λ (p : Place). next_at v p entry next) on.place
        ∙ ap (λ b. with_place (with_held v v.held.nodes (kept_if b v.held.nexts item)) (AtEntry at.node at.side next None) on.found links)
        (count-locks at.node v.held.nodes on.locked)

    keeps_then : KeepsPass v then
    keeps_then = record {
      layout = refl;
      joined = refl;
      number = refl;
      word = refl;
      announced = refl;
      history = refl;
      section = refl;
      opened = refl;
      least = refl;
      tree = refl;
      nodes = refl;
      retired = refl;
      batch = refl;
      raised = refl;
      taken = refl;
    }

    pub walked_try : KeepsTry v w
    walked_try = subst (KeepsTry v) (sym view_is) (record { pass = keeps_then; free = refl; grown = same-counts v then refl })

    pub walked_looks : KeepsLooks v w
    walked_looks = subst (KeepsLooks v) (sym gives) ((steps_keep_looks v).next entry next)

    pub walked_trying : KeepsTrying v w
    walked_trying n nodes t = subst (λ (u : View). IsTrying u n nodes) (sym gives) ((loads_keep v).next entry next n nodes t)

    pub walked_counts : w.counts ≡ v.counts
    walked_counts = ap (λ (u : View). u.counts) view_is

    pub walked_update_same : w.update ≡ v.update
    walked_update_same = ap (λ (u : View). u.update) view_is

    pub walked_nexts : KeepsNexts v w
    walked_nexts place i is = subst (λ (u : View). IsItem u.held.nexts place i) (sym view_is) (item-longer v.held.nexts (item ∷ []) place i is)

    pub walked_long : length w.held.nexts ≡ suc (length v.held.nexts)
    walked_long = subst (λ (u : View). length u.held.nexts ≡ suc (length v.held.nexts)) (sym view_is) (omega (arith, length-append v.held.nexts (item ∷ [])))

    pub walked_on : StandsOn w at head next
    walked_on = subst (λ (u : View). StandsOn u at head next) (sym view_is) (record {
      locked = on.locked;
      head_is = record {
        place = on.head_is.place;
        held = on.head_is.held;
        at = on.head_is.at;
        node_is = on.head_is.node_is;
        loaded = on.head_is.loaded;
        head = on.head_is.head;
        entry_is = on.head_is.entry_is;
      };
      found = None;
      place = refl;
      there = low;
    })

    next_held : HoldsNext w at.node entry next
    next_held = subst (λ (u : View). HoldsNext u at.node entry next) (sym view_is) (record {
      place = length v.held.nexts;
      item = item;
      at = last-item v.held.nexts item;
      node_is = refl;
      entry_is = refl;
      next_is = refl;
    })

    -- a part from any entry on goes on
    pub walked_part : (start : ℕ) (es : List ℕ) → HoldsPart v at.node start es entry → HoldsPart w at.node start (es ++ entry ∷ []) next
    walked_part start es part = part_more w at.node start entry next es (part_kept v w at.node start entry es walked_nexts part) some next_held

    pub walked_update : KeepsUpdate v w
    walked_update =
        subst (λ (u : View). KeepsUpdate v u) (sym gives)
        (record { numbered = λ n plan slots h. (prune_step v n plan slots h).next entry next; cutting = λ n nodes c. (cut_step v n nodes c).next entry next })

    pub walked_least : KeepsLeast v w
    walked_least =
        subst (λ (u : View). KeepsLeast v u) (sym view_is) (record { section = refl; least = refl; looked = refl; number = refl; layout = refl; taken = refl })

    pub walked_list : w.held.nexts ≡ v.held.nexts ++ item ∷ []
    walked_list = ap (λ (u : View). u.held.nexts) view_is

    pub walked_held : w.held.nodes ≡ v.held.nodes
    walked_held = ap (λ (u : View). u.held.nodes) view_is
