-- The entries of a link of the tree that a pass reads, from the head on: what each load finds, and where the pass then
-- stands.
use Rattle.std.proofs.Common.{◌≡◌, ℕ, ◌<◌, ◌≤◌, ◌==◌, ◌&&◌, ◌||◌, List, [], Bool, true, false, ltb, leb, is_none, is_some, arith, refl, ap, ◌∙◌, sym, subst, Option, Some, None, inl, inr}
use Rattle.std.specs.Prelude.{IfSome}
use Rattle.std.proofs.lemmas.Bool.Decides.{nat_tests}
use Rattle.key_map.specs.Lists.{count, has}
use Rattle.index_words.specs.declared.layout.Layout.{Layout}
use Rattle.index_words.specs.declared.side.Side.{Side}
use Rattle.index_words.specs.declared.view.View.{View}
use Rattle.index_words.specs.declared.view.reading.Place.TheVariants.{Entry as AtEntry}
use Rattle.index_words.specs.declared.view.update.HeldNode.{HeldNode}
use Rattle.index_words.specs.declared.view.update.Updating.{Updating}
use Rattle.index_words.specs.declared.word.Field.TheVariants.{Head}
use Rattle.index_words.specs.declared.word.Part.TheVariants.{Child as ChildPart, Stamp as Number, Next as NextPart}
use Rattle.index_words.specs.declared.word.Word.TheVariants.{Node as NodeWord, Entry as EntryWord}
use Rattle.index_words.specs.Words.{memory}
use Rattle.core_grace.specs.Holds.{held_slots}
use Rattle.core_trees.specs.declared.link.Link.{Link}
use Rattle.core_events.specs.declared.event.Kind.TheVariants.{LoadHead, LoadTs, LoadPtr, LoadNext}
use Rattle.core_events.specs.LoadMoves.{head_loaded, is_above, is_above_at, is_watching, locks, next_loaded, ptr_loaded, raised_if, risen, ts_loaded}
use Rattle.core_invariant.specs.Readers.{IsLocked, IsWatched}
use Rattle.core_laws.specs.Found.{LeadsTo, ReadsTree}
use Rattle.core_laws.specs.ViewNeeds.{event_at, IsAtEntry, IsInReach, MayReadHead, MayReadNumber, MayReadChild, MayReadNext}
use Rattle.core_laws.proofs.Alone.{nothing}
use Rattle.core_laws.proofs.Falls.{falls_law}
use Rattle.index_words.proofs.Store.{word_named}
use Rattle.table_rule.specs.Running.{Happened, table}
use Rattle.table_rule.proofs.Happens.{happened_word}
use Rattle.table_rule.proofs.Lists.{item_at}
use Rattle.table_steps.specs.Loads.{IsTreeLink, IsAtSelected}
use Rattle.table_steps.specs.Passes.{IsAlone}
use Rattle.bundle_reads.specs.Links.{InsideAt, LeadsThere}
use Rattle.bundle_reads.specs.Children.{IsAtEntryOf, ComesAlong, number_bound}
use Rattle.bundle_reads.specs.Reads.{HasRead}
use Rattle.bundle_reads.proofs.ReadMoves.{inside_on, layout_same, leads_before, link_after, head_read, ts_read, ptr_read, next_read, head_place, head_waits, head_above, next_place, next_waits, next_above, ts_place, ts_waits, read_more}
use Rattle.bundle_reads.proofs.ReadTrees.{finds, found_leads, SectionReader}

link_reach : (v : View) (node : ℕ) (side : Side) → IsTreeLink v node side → IsInReach v node
link_reach v node side (inl root) = inl root.0
link_reach v node side (inr in_tree) = inr (inl in_tree)

link_high : (v : View) (t node : ℕ) (side : Side) → SectionReader v t → IsTreeLink v node side → node ≤ v.layout.nodes
link_high v t node side known (inl root) = omega (arith, root.0)
link_high v t node side known (inr in_tree) = known.high node in_tree

pub node_there : (z : Layout) (node : ℕ) → node ≤ z.nodes → leb node z.nodes ≡ true
node_there z node low = grind (arith, nat_tests)

entry_there : (z : Layout) (e : ℕ) → 0 < e → e ≤ z.entries → (ltb 0 e && leb e z.entries) ≡ true
entry_there z e some low = grind (arith, nat_tests)

free : (v : View) (t node : ℕ) → InsideAt v t → IsLocked v node → ⊥
free v t node reads held = let none : 0 < count node (held_slots []) = subst (λ (hs : List HeldNode). 0 < count node (held_slots hs)) reads.inside.unlocked held in omega (arith, none)

-- of a pass that reads at a number, and has nothing under way
module _ (v : View) (t : ℕ) (reads : InsideAt v t) (known : SectionReader v t) (link : Link) (is_link : IsTreeLink v link.node link.side) where
  pending : v.update.pending ≡ []
  pending = ap (λ (u : Updating). u.pending) known.idle

  -- the head
  pub may_head : MayReadHead v link.node
  may_head = record { inside = reads.inside.odd; reach = link_reach v link.node link.side is_link }

  module _ (s n number : ℕ) (w : View) (h : Happened v.layout (event_at v.layout s LoadHead (NodeWord (Head link.side) link.node) 0) v n w) (is : w ≡ head_loaded v link.node link.side n number) (low : n ≤ v.layout.entries) where
    head_word : memory v.layout h.words (NodeWord (Head link.side) link.node) ≡ n
    head_word = happened_word v.layout (event_at v.layout s LoadHead (NodeWord (Head link.side) link.node) 0) v w n
        (NodeWord (Head link.side) link.node) (node_there v.layout link.node (link_high v t link.node link.side known is_link)) refl tt h

    abbrev head_finds : ReadsTree (table v.layout h.words h.views) v t
    head_finds = finds v.layout h.words h.views h.rule s v h.seat t reads

    head_null : n ≡ 0 → LeadsThere v link 0
    head_null none =
        found_leads v.layout h.words h.views h.rule s v h.seat t reads link 0
        ((head_finds.heads link.node link.side (link_reach v link.node link.side is_link)).null (head_word ∙ none))

    pub head_reads : HasRead v w
    head_reads = head_read v w reads.inside.unlocked link.node link.side n number is

    pub at_head : ComesAlong v w link n
    at_head = record {
      stands = record {
        place = head_place v w link.node link.side n number is;
        there = subst (λ (z : Layout). n ≤ z.entries) (sym (layout_same v w head_reads)) low;
        above = subst (λ o. IfSome o (λ k. 0 < k)) (sym (head_above v w link.node link.side n number is)) tt;
      };
      null = head_null;
      waits = head_waits v w link.node link.side n number is;
    }

  -- at an entry of the link
  module _ (e : ℕ) (at : IsAtEntryOf v link e) (some : 0 < e) where
    pub may_number : MayReadNumber v e
    may_number = record { at = record { node = link.node; side = link.side; found = None; place = at.place; some = some; there = at.there } }

    -- its number
    module _ (x : ℕ) (y : View) (is : y ≡ ts_loaded v e x) where
      pub number_reads : HasRead v y
      number_reads = ts_read v y reads.inside.unlocked e x is

      number_waits : y.counts.waits ≡ raised_if (x == 0) v.counts.waits
      number_waits = ts_waits v y e x pending (ap (is_watching v) at.place ∙ ap (λ o. is_some o || locks link.node v.held.nodes) reads.section) is

      pub pending_waits : x ≡ 0 → y.counts.waits ≡ risen v.counts.waits
      pending_waits none = number_waits ∙ ap (λ k. raised_if (k == 0) v.counts.waits) none

      written_waits : 0 < x → y.counts.waits ≡ v.counts.waits
      written_waits above = number_waits ∙ ap (λ b. raised_if b v.counts.waits) (not_zero x above)
        where
          not_zero : (k : ℕ) → 0 < k → (k == 0) ≡ false
          not_zero k low = grind (arith, nat_tests)

      number_word : (s : ℕ) (h : Happened v.layout (event_at v.layout s LoadTs (EntryWord Number e) 0) v x y) → memory v.layout h.words (EntryWord Number e) ≡ x
      number_word s h = happened_word v.layout (event_at v.layout s LoadTs (EntryWord Number e) 0) v y x (EntryWord Number e) (entry_there v.layout e some at.there) refl tt h

      watched : IsWatched v link.node
      watched = inr (ap is_some reads.section)

      -- where it has no number yet, another pass has it pending
      pub pending_elsewhere : (s : ℕ) → Happened v.layout (event_at v.layout s LoadTs (EntryWord Number e) 0) v x y → x ≡ 0 → ¬ IsAlone y
      pending_elsewhere s h none one =
          (nothing (table v.layout h.words h.views) (event_at v.layout s LoadTs (EntryWord Number e) 0) v h.rule (sym (ap (λ (u : View). u.layout.passes) is) ∙ one) h.met h.seat).number (record {
            kind = refl;
            entry = e;
            word = word_named v.layout (EntryWord Number e) (entry_there v.layout e some at.there);
            none = number_word s h ∙ none;
            other = ap (count e) pending;
            watches = record { node = link.node; side = link.side; found = None; place = at.place; watched = watched };
          })

      -- the numbers fall along the bundle
      number_falls : (s : ℕ) → Happened v.layout (event_at v.layout s LoadTs (EntryWord Number e) 0) v x y → x < 18446744073709551616 → x < number_bound v.reading.above
      number_falls s h low = falls_by v.reading.above refl at.above
        where
          falls_by : (o : Option ℕ) → v.reading.above ≡ o → IfSome o (λ k. 0 < k) → x < number_bound o
          falls_by None left above = low
          falls_by (Some a) left above =
              subst (λ k. k < a) (number_word s h) (falls_law (table v.layout h.words h.views) s v link.node link.side e None a h.rule (item_at h.views s v h.seat) at.place some watched left above).below

      y_place : y.reading.place ≡ AtEntry link.node link.side e (Some x)
      y_place = ts_place v y link.node link.side None e x at.place is

      y_reads : InsideAt y t
      y_reads = inside_on v y t number_reads reads

      y_low : e ≤ y.layout.entries
      y_low = subst (λ (z : Layout). e ≤ z.entries) (sym (layout_same v y number_reads)) at.there

      abbrev y_at : IsAtEntry y e
      y_at = record { node = link.node; side = link.side; found = Some x; place = y_place; some = some; there = y_low }

      pub may_child : MayReadChild y e
      may_child = record { at = y_at }

      pub at_selected : 0 < x → x ≤ t → IsAtSelected y e
      at_selected above past = record {
        at = y_at;
        link = link_after v y link.node link.side number_reads is_link;
        section = t;
        reads = y_reads.section;
        number = x;
        found = refl;
        written = above;
        past = past;
        unlocked = free y t link.node y_reads;
      }

      -- the child of the selected entry
      module _ (above : 0 < x) (past : x ≤ t) (s c : ℕ) (u : View) (g : Happened y.layout (event_at y.layout s LoadPtr (EntryWord ChildPart e) 0) y c u) (gives : u ≡ ptr_loaded y c) where
        child_word : memory y.layout g.words (EntryWord ChildPart e) ≡ c
        child_word = happened_word y.layout (event_at y.layout s LoadPtr (EntryWord ChildPart e) 0) y u c (EntryWord ChildPart e) (entry_there y.layout e some y_low) refl tt g

        abbrev child_finds : ReadsTree (table y.layout g.words g.views) y t
        child_finds = finds y.layout g.words g.views g.rule s y g.seat t y_reads

        pub child_leads : LeadsThere v link c
        child_leads =
            leads_before v y link c number_reads
            (found_leads y.layout g.words g.views g.rule s y g.seat t y_reads link c
            (subst (LeadsTo child_finds.tree link.node link.side) child_word (child_finds.children link.node link.side e x y_place some above past (free y t link.node y_reads)).child))

        pub child_reads : HasRead v u
        child_reads = read_more v y u number_reads (ptr_read y u y_reads.inside.unlocked c gives)

        pub child_waits : u.counts.waits ≡ v.counts.waits
        child_waits = ap (λ (q : View). q.counts.waits) gives ∙ written_waits above

      -- the next of an entry that is not selected
      over_true : (k : ℕ) (b : Bool) → t < k → (ltb t k || b) ≡ true
      over_true k b low = grind (arith, nat_tests)

      module _ (over : t < x) where
        above_known : is_above y e (Some x) ≡ true
        above_known =
            ap (λ (o : Option ℕ). is_above_at o (Some x) (has e y.update.pending && is_none y.update.raised)) y_reads.section
            ∙ over_true x (has e y.update.pending && is_none y.update.raised) over

        pub may_next : MayReadNext y e
        may_next = record { at = y_at; on = inr above_known }

        module _ (s n : ℕ) (u : View) (g : Happened y.layout (event_at y.layout s LoadNext (EntryWord NextPart e) 0) y n u) (gives : u ≡ next_loaded y e n) (low : n ≤ y.layout.entries) where
          next_word : memory y.layout g.words (EntryWord NextPart e) ≡ n
          next_word = happened_word y.layout (event_at y.layout s LoadNext (EntryWord NextPart e) 0) y u n (EntryWord NextPart e) (entry_there y.layout e some y_low) refl tt g

          abbrev next_finds : ReadsTree (table y.layout g.words g.views) y t
          next_finds = finds y.layout g.words g.views g.rule s y g.seat t y_reads

          next_null : n ≡ 0 → LeadsThere v link 0
          next_null none =
              leads_before v y link 0 number_reads
              (found_leads y.layout g.words g.views g.rule s y g.seat t y_reads link 0
              ((next_finds.nexts link.node link.side e (Some x) y_place some above_known).null (next_word ∙ none)))

          next_moves : HasRead y u
          next_moves = next_read y u y_reads.inside.unlocked link.node link.side (Some x) e n y_place gives

          pub next_reads : HasRead v u
          next_reads = read_more v y u number_reads next_moves

          left : u.reading.above ≡ Some x
          left = next_above y u link.node link.side (Some x) e n y_place gives

          -- the bound is smaller than before
          pub next_closer : (s' : ℕ) → Happened v.layout (event_at v.layout s' LoadTs (EntryWord Number e) 0) v x y → x < 18446744073709551616
              → number_bound u.reading.above < number_bound v.reading.above
          next_closer s' h fits = subst (λ o. number_bound o < number_bound v.reading.above) (sym left) (number_falls s' h fits)

          pub at_next : ComesAlong v u link n
          at_next = record {
            stands = record {
              place = next_place y u link.node link.side (Some x) e n y_place gives;
              there = subst (λ (z : Layout). n ≤ z.entries) (sym (layout_same y u next_moves)) low;
              above = subst (λ o. IfSome o (λ k. 0 < k)) (sym left) (omega (arith, over));
            };
            null = next_null;
            waits = next_waits y u link.node link.side (Some x) e n y_place gives ∙ written_waits (omega (arith, over));
          }
