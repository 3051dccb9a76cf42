-- The law on trees.
use Rattle.std.proofs.Common.{◌≡◌, ℕ, ◌<◌, ◌≤◌, ◌⊎◌, List, arith, refl, ap, ◌∙◌, sym, subst, inl, inr, Option, Some, None}
use Rattle.std.specs.Prelude.{IfSome}
use Rattle.index_words.specs.declared.layout.Layout.{Layout}
use Rattle.index_words.specs.declared.view.View.{View}
use Rattle.index_words.specs.declared.word.Word.TheVariants.{Stamp}
use Rattle.index_words.specs.Words.{Memory}
use Rattle.key_map.specs.Lists.{count, IsItem}
use Rattle.core_grace.specs.Holds.{tree_slots}
use Rattle.core_links.specs.Bundle.{select}
use Rattle.core_events.specs.Numbered.{entry_number}
use Rattle.core_invariant.specs.Meanings.{Meaning}
use Rattle.core_invariant.specs.BundleRule.{IsLive}
use Rattle.core_invariant.specs.SeatRule.{SeatRight, TreeRight}
use Rattle.core_invariant.specs.Rule.{IsRight}
use Rattle.core_events.specs.SpelledNow.{tree_now}
use Rattle.core_events.specs.Tables.{Table, held_by}
use Rattle.core_laws.specs.TreeLaw.{bundles_now, SpellsAt, ReadsMap, SeesMap, SpellsMap}
use Rattle.core_invariant.proofs.OneView.{seat_at}
use Rattle.core_invariant.proofs.LinkLaw.{selection_is}
use Rattle.core_invariant.proofs.TreeNow.{count_slots, SameNode, version_frame, read_live, tree_is, entries_are, root_lives, node_lives}

module _ (t : Table) (right : IsRight t) where
  abbrev z : Layout
  z = t.layout

  abbrev m : Memory
  m = held_by t

  abbrev vs : List View
  vs = t.views

  abbrev g : Meaning
  g = right.meaning

  abbrev Same : ℕ → ℕ → Type 0
  Same n k = SameNode m m g.bundles (bundles_now t) n k

  -- of a node that is not free, what is read from the words is what they mean
  same_node : (n k : ℕ) → IsLive z vs k → Same n k
  same_node n k live = record {
    key = refl;
    val = refl;
    entry = λ side. sym
        (ap (select (entry_number m vs) n) (entries_are z m vs g right.rule k side live)
        ∙ selection_is z m g vs right.rule n k side (g.bundles.bundle side k) live (right.rule.bundles k live side).chain);
    child = λ side. refl;
  }

  spelled_now : SpellsAt t g.updates (m Stamp) (tree_now z m vs)
  spelled_now =
      subst (SpellsAt t g.updates (m Stamp)) (sym (tree_is z m vs g right.rule))
      (version_frame m m g.bundles (bundles_now t) g.updates (m Stamp) g.tree
      (λ k here. elim here as (λ _. Same (m Stamp) k) [
        | inl root ↦ same_node (m Stamp) k (subst (IsLive z vs) (sym root) (root_lives z m vs g right.rule))
        | inr node ↦ same_node (m Stamp) k (node_lives z m vs g right.rule k node)
      ])
      right.rule.tree)

  module _ (i : ℕ) (v : View) (at : IsItem vs i v) where
    seat : SeatRight z m g v
    seat = seat_at z m vs g i v at right.rule

    lives : (k : ℕ) → (k ≡ 0) ⊎ (0 < count k (tree_slots v.reading.tree)) → IsLive z vs k
    lives k here = read_live z vs g right.rule.slots (m Stamp) i k v at seat.version here

    reads_by : (section : Option ℕ) → IfSome section (λ n. n ≤ m Stamp) → TreeRight m g section v.reading.tree
        → IfSome section (λ n. ReadsMap t g.updates n v.reading.tree)
    reads_by None past read = tt
    reads_by (Some n) past read =
        record {
          past = past;
          tree = read.tree;
          read = read.read;
          spelled = version_frame m m g.bundles (bundles_now t) g.updates n read.tree
              (λ k here. elim here as (λ _. Same n k) [
                | inl root ↦ same_node n k (lives k (inl root))
                | inr node ↦ same_node n k (lives k (inr (omega (arith, node, count_slots k read.tree, ap (λ ns. count k (tree_slots ns)) read.read))))
              ])
              read.version;
        }

    sees : SeesMap t g.updates v
    sees = record { seen = seat.seen.seen; reads = reads_by v.reading.section seat.version.past seat.tree }

  pub spells_map : SpellsMap t
  spells_map = record {
    updates = g.updates;
    long = right.rule.history.long;
    known = right.rule.history.known;
    now = spelled_now;
    views = sees;
  }
