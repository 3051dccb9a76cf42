-- What a try knows of a node that it locks just now, and how its looks at a successor go together.
use Rattle.std.proofs.Common.{◌≡◌, ℕ, ◌+◌, ◌<◌, List, [], ◌∷◌, ◌++◌, cond, eqb, arith, ap, ◌∙◌, sym, subst, Some}
use Rattle.std.proofs.lemmas.Bool.{ne_eqb}
use Rattle.std.proofs.lemmas.Bool.Decides.{nat_tests}
use Rattle.index_words.specs.declared.view.View.{View}
use Rattle.index_words.specs.declared.view.reading.Reading.{Reading}
use Rattle.key_map.specs.Lists.{count}
use Rattle.key_map.proofs.Counting.{count-append}
use Rattle.core_trees.specs.declared.link.Link.{Link}
use Rattle.core_invariant.specs.Readers.{IsLocked}
use Rattle.plan_laws.specs.Looks.{KeepsLooks}
use Rattle.plan_laws.specs.Tries.{IsTrying}
use Rattle.update_search.specs.declared.successor.NextFound.{NextFound}
use Rattle.update_search.proofs.Keeps.{found_locked}
use Rattle.update_try.specs.Looking.{IsLockedBy, KnowsNothingAt, LearnsAt, LearnsNothing}
use Rattle.update_try.specs.Planning.{FindsNext}

-- nothing is known of a node that is not locked
pub unlocked_nothing : (v : View) (k : ℕ) → ¬ IsLocked v k → KnowsNothingAt v k
unlocked_nothing v k off = record {
  link = λ side n. off (found_locked k v.held.nodes n.held n.locked);
  tag = λ side n. off (found_locked k v.held.nodes n.held n.locked);
}

pub nothing_kept : (v w : View) (k : ℕ) → LearnsNothing v w → KnowsNothingAt v k → KnowsNothingAt w k
nothing_kept v w k learns none = record { link = λ side n. none.link side (learns.link k side n); tag = λ side n. none.tag side (learns.tag k side n) }

pub nothing_apart : (at : Link) (v w : View) (k : ℕ) → LearnsAt at v w → ¬ (at.node ≡ k) → KnowsNothingAt v k → KnowsNothingAt w k
nothing_apart at v w k learns apart none = record {
  link = λ side n. none.link side (learns.link k side (λ same. apart (sym (ap (λ (l : Link). l.node) same))) n);
  tag = λ side n. none.tag side (learns.tag k side n);
}

self : (k n : ℕ) → 0 < cond (eqb k k) 1 0 + n
self k n = grind (arith, nat_tests)

-- one more node was locked
module _ (v w : View) (n m : ℕ) (nodes : List ℕ) (k : ℕ) (before : IsTrying v n nodes) (now : IsTrying w m (nodes ++ k ∷ [])) where
  pub still_off : (j : ℕ) → ¬ (k ≡ j) → ¬ IsLocked v j → ¬ IsLocked w j
  still_off j apart off on =
      let some : 0 < count j (nodes ++ k ∷ []) = subst (λ ks. 0 < count j ks) now.locked on in
      let none : count j (k ∷ []) ≡ 0 = ap (λ b. cond b 1 0 + 0) (ne_eqb k j apart) in
      off (subst (λ ks. 0 < count j ks) (sym before.locked) (omega (arith, some, none, count-append j nodes (k ∷ []))))

-- a node of those that a try has locked
pub locked_in : (v : View) (n : ℕ) (nodes : List ℕ) (k : ℕ) → IsTrying v n nodes → 0 < count k nodes → IsLockedBy v k
locked_in v n nodes k trying some = record { number = n; nodes = nodes; trying = trying; locked = subst (λ ks. 0 < count k ks) (sym trying.locked) some }

pub counts_last : (k : ℕ) (nodes : List ℕ) → 0 < count k (nodes ++ k ∷ [])
counts_last k nodes = omega (arith, count-append k nodes (k ∷ []), self k 0)

pub counts_second : (j k : ℕ) (nodes : List ℕ) → 0 < count k (nodes ++ j ∷ k ∷ [])
counts_second j k nodes = omega (arith, count-append k nodes (j ∷ k ∷ []), self k 0)

-- what a walk has found stays where a try goes on and its search does not
pub next_kept : (v w : View) (key : ℕ) (f : NextFound) → w.reading ≡ v.reading → KeepsLooks v w → FindsNext v key f → FindsNext w key f
next_kept v w key f reads looks is = record {
  high = is.high;
  above = is.above;
  place = ap (λ (r : Reading). r.place) reads ∙ is.place;
  left = ap (λ (r : Reading). r.left_turn) reads ∙ is.left;
  at = looks.link f.at f.node is.at;
  gap_at = is.gap_at;
  gap = looks.null f.gap.at f.gap.tag (Some is.high) (Some key) is.gap;
  apart = is.apart;
}
