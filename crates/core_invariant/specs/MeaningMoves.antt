-- What the words mean after a prepare, a cut and a raise.
use Rattle.std.specs.Prelude.{ℕ, List, [], ◌∷◌, ◌++◌, cond, ◌==◌, ◌&&◌, Option}
use Rattle.index_words.specs.declared.side.Side.{Side}
use Rattle.key_map.specs.declared.update.Update.{Update}
use Rattle.index_words.specs.Words.{same_side}
use Rattle.key_map.specs.Lists.{has}
use Rattle.core_links.specs.Bundle.{no_number}
use Rattle.core_grace.specs.Holds.{listed}
use Rattle.core_trees.specs.NamedTree.{NamedTree}
use Rattle.core_events.specs.declared.tree_move.TreeMove.{TreeMove}
use Rattle.core_invariant.specs.Meanings.{Meaning}
use Rattle.core_events.specs.UpdateMoves.{listed_entry}

-- the link's bundle has the entry in front, which has no number yet
abbrev pub in_front : (Side → ℕ → List ℕ) → Side → ℕ → ℕ → Side → ℕ → List ℕ
in_front bundle side k e s j = cond (same_side s side && j == k) (e ∷ bundle s j) (bundle s j)

abbrev pub unnumbered : (ℕ → ℕ) → ℕ → ℕ → ℕ
unnumbered number e d = cond (d == e) no_number (number d)

abbrev pub prepared_meaning : Meaning → Side → ℕ → ℕ → Meaning
prepared_meaning g side k e = record g {
  bundles = record { bundle = in_front g.bundles.bundle side k e; number = unnumbered g.bundles.number e };
}

-- the link's bundle has these entries
abbrev pub with_bundle : (Side → ℕ → List ℕ) → Side → ℕ → List ℕ → Side → ℕ → List ℕ
with_bundle bundle side k es s j = cond (same_side s side && j == k) es (bundle s j)

abbrev pub cut_meaning : Meaning → Side → ℕ → List ℕ → Meaning
cut_meaning g side k es = record g { bundles = record { bundle = with_bundle g.bundles.bundle side k es; number = g.bundles.number } }

-- the pending entries have the number of the raise
abbrev pub raised_numbers : (ℕ → ℕ) → List ℕ → ℕ → ℕ → ℕ
raised_numbers number pending n d = cond (has d pending) n (number d)

-- the bundles of a new node have its heads
abbrev pub with_added : (Side → ℕ → List ℕ) → (Side → ℕ → ℕ) → Option ℕ → Side → ℕ → List ℕ
with_added bundle head added side k = cond (has k (listed added)) (listed_entry (head side k)) (bundle side k)

abbrev pub raised_meaning : Meaning → (Side → ℕ → ℕ) → List ℕ → ℕ → Update → TreeMove → NamedTree → Meaning
raised_meaning g head pending n u move tree = record {
  updates = g.updates ++ u ∷ [];
  bundles = record {
    bundle = with_added g.bundles.bundle head move.added;
    number = raised_numbers g.bundles.number (pending ++ move.entries) n;
  };
  tree = tree;
}
