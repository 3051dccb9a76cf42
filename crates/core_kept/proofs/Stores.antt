-- A store to the own section word keeps the rule.
use Rattle.std.proofs.Common.{◌≡◌, ℕ, ◌+◌, ◌≤◌, cond, List, false, eqb, set, arith, refl, ap, ◌∙◌, sym, subst, inl, inr, Option, Some, None}
use Rattle.std.proofs.lemmas.Bool.{eq-eqb}
use Rattle.std.proofs.lemmas.Bool.Decides.{nat_tests}
use Rattle.index_words.specs.declared.layout.Layout.{Layout}
use Rattle.index_words.specs.declared.view.View.{View}
use Rattle.index_words.specs.declared.view.reading.Reading.{Reading}
use Rattle.index_words.specs.declared.view.update.Updating.{Updating}
use Rattle.index_words.specs.declared.word.Word.TheVariants.{Section, Entry, Stamp}
use Rattle.index_words.specs.declared.word.Part.TheVariants.{Child, Stamp as Number}
use Rattle.index_words.specs.Words.{Memory, written}
use Rattle.key_map.specs.Lists.{count, Every, IsItem}
use Rattle.index_words.proofs.Seats.{sum_kept, all_moved}
use Rattle.core_grace.specs.Batches.{is_number}
use Rattle.core_grace.specs.Holds.{HoldsNode, HoldsEntry}
use Rattle.core_grace.proofs.RuleMoves.{HoldsFrom, HoldsLinked, quiet, same_looks}
use Rattle.core_invariant.specs.Meanings.{Meaning, linked_by}
use Rattle.core_invariant.specs.Numbers.{number_count}
use Rattle.core_invariant.specs.SectionRule.{IsIdle, IsOwnWord}
use Rattle.core_invariant.specs.Locks.{lock_count}
use Rattle.core_invariant.specs.BundleRule.{IsPendingAt, pending_count}
use Rattle.core_invariant.specs.Readers.{VersionRight, PlaceRight, LinkRight}
use Rattle.core_invariant.specs.FilledRule.{FilledRight}
use Rattle.core_invariant.specs.PruneRule.{AnnouncedRight}
use Rattle.core_invariant.specs.SeatRule.{TreeRight, SeatRight}
use Rattle.core_invariant.specs.Rule.{Rule}
use Rattle.core_invariant.proofs.Frames.{live_moved, pending_moved, bundle_weaker}
use Rattle.core_invariant.proofs.Filled.{every_filled, section_apart}
use Rattle.core_invariant.proofs.Pairs.{announced_idle, pairs_idle}
use Rattle.core_invariant.proofs.Idle.{idle_nodes, idle_entry, number_apart}
use Rattle.core_invariant.proofs.OneView.{history_kept, seat_at}

eqb_false_comm : (a b : ℕ) → eqb a b ≡ false → eqb b a ≡ false
eqb_false_comm a b e = grind (arith, nat_tests)

pub apart_from : (number : Option ℕ) (n k : ℕ) → number ≡ Some n → is_number k number ≡ false → eqb n k ≡ false
apart_from None n k is other = cc
apart_from (Some j) n k is other = let same : j ≡ n = cc in subst (λ x. eqb x k ≡ false) same other

-- a word of a pass, where one pass has stored to its own
pub own_stored : (held : ℕ → ℕ) (number : Option ℕ) (n word : ℕ) → number ≡ Some n → IsOwnWord (λ k. cond (eqb k n) word (held k)) number word
own_stored held None n word is = cc
own_stored held (Some k) n word is = let same : k ≡ n = cc in ap (λ b. cond b word (held k)) (eq-eqb k n same)

pub other_stored : (held : ℕ → ℕ) (number : Option ℕ) (n word own : ℕ) → ((k : ℕ) → number ≡ Some k → eqb n k ≡ false) → IsOwnWord held number own
    → IsOwnWord (λ k. cond (eqb k n) word (held k)) number own
other_stored held None n word own apart is = is
other_stored held (Some k) n word own apart is = ap (λ b. cond b word (held k)) (eqb_false_comm n k (apart k refl)) ∙ is

module _ (z : Layout) (m : Memory) (vs : List View) (g : Meaning) where
  idle_from : (v w : View) → IsIdle w → HoldsFrom z (linked_by g) HoldsNode (HoldsEntry g.bundles) v w
  idle_from v w idle = record {
    nodes = λ k holds. absurd (omega (arith, holds, ap (count k) (idle_nodes w idle)));
    entries = λ e holds. absurd (idle_entry g.bundles w e idle holds);
  }

  idle_linked : (w : View) → IsIdle w → HoldsLinked z (linked_by g) HoldsNode (HoldsEntry g.bundles) w
  idle_linked w idle = record {
    nodes = λ k holds. absurd (omega (arith, holds, ap (count k) (idle_nodes w idle)));
    entries = λ e holds. absurd (idle_entry g.bundles w e idle holds);
  }

  -- a view that has read nothing
  idle_version : (s : ℕ) (w : View) → IsIdle w → VersionRight z s w.reading
  idle_version s w idle =
      subst (VersionRight z s) (sym idle.reading) (record { past = tt; opened = tt; bare = λ none. refl; there = λ k some. absurd (omega (arith, some)) })

  idle_announced : (s : ℕ) (w : View) → IsIdle w → w.announced ≤ s + 1 → AnnouncedRight s w
  idle_announced s w idle low = announced_idle s w low (ap (λ (r : Reading). r.section) idle.reading) (ap (λ (r : Reading). r.least) idle.reading)

  idle_tree : (m' : Memory) (w : View) → IsIdle w → TreeRight m' g w.reading.section w.reading.tree
  idle_tree m' w idle = subst (λ (r : Reading). TreeRight m' g r.section r.tree) (sym idle.reading) tt

  idle_place : (stamp : ℕ → ℕ) (w : View) → IsIdle w → PlaceRight z stamp g.bundles w w.reading.place
  idle_place stamp w idle = subst (λ (r : Reading). PlaceRight z stamp g.bundles w r.place) (sym idle.reading) tt

  idle_links : (child : ℕ → ℕ) (w : View) → IsIdle w → Every (LinkRight z child g.bundles w) w.reading.links
  idle_links child w idle = subst (λ (r : Reading). Every (LinkRight z child g.bundles w) r.links) (sym idle.reading) tt

  -- a store to the own section word, after which the view is idle
  pub section_stored : (i n word : ℕ) (v : View) (r : Reading) → IsItem vs i v → Rule z m vs g → v.number ≡ Some n
      → IsIdle (record v { section_word = word; reading = r })
      → Rule z (written m (Section n) word) (set vs i (record v { section_word = word; reading = r })) g
  section_stored i n word v r at rule named idle =
      let m' : Memory = written m (Section n) word in
      let w : View = record v { section_word = word; reading = r } in
      let own : SeatRight z m g v = seat_at z m vs g i v at rule in
      record {
        numbers = λ k. sum_kept (number_count k) vs i v w at refl ∙ rule.numbers k;
        history = history_kept z _ g vs i v w at refl refl rule.history;
        slots = quiet z (linked_by g) HoldsNode (HoldsEntry g.bundles) vs i v w at rule.slots refl refl refl (idle_from v w idle)
            (record { number = refl; section = inr (idle_linked w idle) })
            (λ known. same_looks z (linked_by g) HoldsNode (HoldsEntry g.bundles) v w w refl refl known)
            (λ u beside known. same_looks z (linked_by g) HoldsNode (HoldsEntry g.bundles) v w u refl refl known);
        locks = λ k. sum_kept (lock_count k) vs i v w at refl ∙ rule.locks k;
        tree = rule.tree;
        marks = record { root = rule.marks.root; nodes = rule.marks.nodes };
        bundles = λ k live side. bundle_weaker _ _ _ _ (IsPendingAt vs k) (IsPendingAt (set vs i w) k) _ _
            (λ e. pending_moved vs i k e v w at refl (λ works. works)) (rule.bundles k (live_moved z vs i k v w at (omega arith) live) side);
        pairs = pairs_idle vs i v w at (ap (λ (x : Reading). x.section) idle.reading) (ap (λ (x : Reading). x.least) idle.reading) rule.pairs;
        single = λ e. omega (arith, sum_kept (pending_count e) vs i v w at refl, rule.single e);
        seats = all_moved (SeatRight z m g) (SeatRight z m' g) vs i v w at rule.seats
            (record {
              layout = own.layout;
              section = record {
                section = own_stored (λ k. m (Section k)) v.number n word named;
                announced = own.section.announced;
                outside = λ even. idle.reading;
                unlocked = λ even. inl idle.held;
                done = own.section.done;
                waits = λ odd. ap (λ (u : Updating). u.waiting) idle.update;
              };
              seen = own.seen;
              update = own.update;
              version = idle_version (m Stamp) w idle;
              announced = idle_announced (m Stamp) w idle own.announced.low;
              tree = idle_tree m' w idle;
              locks = own.locks;
              loaded = own.loaded;
              marks = own.marks;
              pending = own.pending;
              place = idle_place (λ e. m (Entry Number e)) w idle;
              filled = subst (λ (x : Reading). Every (FilledRight m' w.free w.update) x.filled) (sym idle.reading) tt;
              links = idle_links (λ e. m (Entry Child e)) w idle;
            })
            (λ u beside of. record {
              layout = of.layout;
              section = record {
                section = other_stored (λ k. m (Section k)) u.number n word u.section_word
                    (λ k is. apart_from v.number n k named (number_apart z vs i v u k rule.numbers at beside is)) of.section.section;
                announced = of.section.announced;
                outside = of.section.outside;
                unlocked = of.section.unlocked;
                done = of.section.done;
                waits = of.section.waits;
              };
              seen = of.seen;
              update = of.update;
              version = of.version;
              announced = of.announced;
              tree = of.tree;
              locks = of.locks;
              loaded = of.loaded;
              marks = of.marks;
              pending = of.pending;
              place = of.place;
              filled = every_filled m m' u.free u.free u.update u.update u.reading.filled (λ y own. own) (section_apart m u.free u.update n word) of.filled;
              links = of.links;
            });
      }
