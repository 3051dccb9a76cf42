-- The plain tree, what searches claim and what they reach, after the kinds of stores to other words than keys and plain
-- links, after a try of a lock, and after a load of the stamp.
use Rattle.std.proofs.Common.{◌≡◌, ℕ, List, true, ◌&&◌, set, arith, refl, sym, subst, Option, Some}
use Rattle.index_words.specs.declared.layout.Layout.{Layout}
use Rattle.index_words.specs.declared.view.View.{View}
use Rattle.index_words.specs.declared.word.Field.TheVariants.{Mark, Head, Tag}
use Rattle.index_words.specs.declared.word.Word.{Word}
use Rattle.index_words.specs.declared.word.Word.TheVariants.{Announced, Node, Entry}
use Rattle.index_words.specs.Words.{Memory, memory, written, word_at}
use Rattle.index_words.proofs.Store.{stored_at}
use Rattle.key_map.specs.Lists.{IsItem}
use Rattle.core_trees.specs.SpelledTree.{Graph}
use Rattle.core_events.specs.declared.event.Kind.TheVariants.{Prepare, Finalise, Mark as MarkNode, Announce, Cut, SetTag}
use Rattle.core_events.specs.Announcing.{is_own_announced, is_announcement, may_announce, announced_view}
use Rattle.core_events.specs.CutNeeds.{may_cut}
use Rattle.core_events.specs.LockNeeds.{may_mark}
use Rattle.core_events.specs.PlainNeeds.{may_set_tag}
use Rattle.core_events.specs.UpdateNeeds.{may_prepare, may_finalise}
use Rattle.core_events.specs.Steps.{prepared_from, finalised_from, marked_from, cut_from, raised_tag_from}
use Rattle.core_events.proofs.Tests.{never}
use Rattle.core_invariant.specs.Reached.{plain_graph}
use Rattle.core_invariant.specs.Rule.{InRule}
use Rattle.core_invariant.specs.SearchRule.{ClaimsAt}
use Rattle.core_kept.specs.SearchLaws.{SearchesAfter, KeepsSearchesAt}
use Rattle.core_kept.proofs.QuietKinds.{IsQuiet, prepare_quiet, finalise_quiet, marked_quiet, cut_quiet, set_tag_quiet}
use Rattle.core_kept.proofs.ReachSteps.{prepare_calm, finalise_calm, marked_calm, cut_calm, set_tag_calm}
use Rattle.core_kept.proofs.SearchKept.{quiet_after}
use Rattle.core_kept.proofs.SearchMoves.{NoClaims}
use Rattle.core_invariant.proofs.SearchNodes.{IsCalm, same_search}

module _ (z : Layout) (words : List ℕ) (vs : List View) (right : InRule z words vs) (i : ℕ) (v : View) (at : IsItem vs i v) (n : ℕ) (w : Word)
    (found : word_at z n ≡ Some w) (value : ℕ) where
  abbrev m : Memory
  m = memory z words

  abbrev gr0 : Graph
  gr0 = plain_graph m

  abbrev C0 : Option ℕ → Option ℕ → ℕ → Type 0
  C0 = ClaimsAt gr0 vs right.plain_tree v

  abbrev Gives : Memory → List View → Type 0
  Gives h ws = SearchesAfter z (plain_graph h) ws right.meaning.tree

  quiet : (x : View) → IsCalm v x → IsQuiet NoClaims gr0.key v x → IsQuiet C0 gr0.key v x → Gives m (set vs i x)
  quiet x calm bare claimed = quiet_after z gr0 vs right.meaning.tree right.plain_tree right.trees right.searches right.reach i v at x calm bare claimed

  -- the words after a store
  pub stored : (ws : List View) → Gives (written m w value) ws → Gives (memory z (set words n value)) ws
  stored ws gives = subst (λ (h : Memory). Gives h ws) (sym (stored_at z words n w value right.size found)) gives

  pub prepare_after : (u : Word) → may_prepare m v u value ≡ true → Gives (written m u value) (set vs i (prepared_from v u value))
  prepare_after (Node (Head side) k) met =
      quiet (prepared_from v (Node (Head side) k) value) (prepare_calm v (Node (Head side) k) value)
      (prepare_quiet NoClaims gr0.key v (Node (Head side) k) value) (prepare_quiet C0 gr0.key v (Node (Head side) k) value)
  prepare_after _ met = absurd (never met)

  pub finalise_after : (u : Word) → may_finalise v u value ≡ true → Gives (written m u value) (set vs i (finalised_from v u))
  finalise_after (Entry p e) met =
      quiet (finalised_from v (Entry p e)) (finalise_calm v (Entry p e)) (finalise_quiet NoClaims gr0.key v (Entry p e))
      (finalise_quiet C0 gr0.key v (Entry p e))
  finalise_after _ met = absurd (never met)

  pub mark_after : (u : Word) → may_mark v u value ≡ true → Gives (written m u value) (set vs i (marked_from v u))
  mark_after (Node Mark k) met =
      quiet (marked_from v (Node Mark k)) (marked_calm v (Node Mark k)) (marked_quiet NoClaims gr0.key v (Node Mark k))
      (marked_quiet C0 gr0.key v (Node Mark k))
  mark_after _ met = absurd (never met)

  pub cut_after : (u : Word) → may_cut z m vs v u value ≡ true → Gives (written m u value) (set vs i (cut_from z m v u))
  cut_after (Entry p e) met =
      quiet (cut_from z m v (Entry p e)) (cut_calm v z m (Entry p e)) (cut_quiet NoClaims gr0.key v z m (Entry p e)) (cut_quiet C0 gr0.key v z m (Entry p e))
  cut_after _ met = absurd (never met)

  pub set_tag_after : (u : Word) → may_set_tag m v u value ≡ true → Gives (written m u value) (set vs i (raised_tag_from v u value))
  set_tag_after (Node (Tag side) k) met =
      quiet (raised_tag_from v (Node (Tag side) k) value) (set_tag_calm v (Node (Tag side) k) value)
      (set_tag_quiet NoClaims gr0.key v (Node (Tag side) k) value) (set_tag_quiet C0 gr0.key v (Node (Tag side) k) value)
  set_tag_after _ met = absurd (never met)

  announced_quiet : (C : Option ℕ → Option ℕ → ℕ → Type 0) → IsQuiet C gr0.key v (announced_view v value)
  announced_quiet C = record { work = refl; locks = refl; retired = refl; step = record { place = λ said. said; links = λ said. said } }

  announce_by : (number : Option ℕ) (u : Word) → (is_own_announced number u && is_announcement v value) ≡ true
      → Gives (written m u value) (set vs i (announced_view v value))
  announce_by (Some k) (Announced j) met =
      quiet (announced_view v value) (same_search v (announced_view v value) refl refl (λ j. omega arith) refl refl (λ top. refl))
      (announced_quiet NoClaims) (announced_quiet C0)
  announce_by _ _ met = absurd (never met)

  pub announce_after : may_announce v w value ≡ true → Gives (written m w value) (set vs i (announced_view v value))
  announce_after met = announce_by v.number w met

pub prepare_searches : KeepsSearchesAt Prepare
prepare_searches z words vs right i v at live n w found value o own met =
    stored z words vs right i v at n w found value (set vs i (prepared_from v w value)) (prepare_after z words vs right i v at n w found value w met)

pub finalise_searches : KeepsSearchesAt Finalise
finalise_searches z words vs right i v at live n w found value o own met =
    stored z words vs right i v at n w found value (set vs i (finalised_from v w)) (finalise_after z words vs right i v at n w found value w met)

pub marked_searches : KeepsSearchesAt MarkNode
marked_searches z words vs right i v at live n w found value o own met =
    stored z words vs right i v at n w found value (set vs i (marked_from v w)) (mark_after z words vs right i v at n w found value w met)

pub cut_searches : KeepsSearchesAt Cut
cut_searches z words vs right i v at live n w found value o own met =
    stored z words vs right i v at n w found value (set vs i (cut_from z (memory z words) v w)) (cut_after z words vs right i v at n w found value w met)

pub set_tag_searches : KeepsSearchesAt SetTag
set_tag_searches z words vs right i v at live n w found value o own met =
    stored z words vs right i v at n w found value (set vs i (raised_tag_from v w value)) (set_tag_after z words vs right i v at n w found value w met)

pub announce_searches : KeepsSearchesAt Announce
announce_searches z words vs right i v at live n w found value o own met =
    stored z words vs right i v at n w found value (set vs i (announced_view v value)) (announce_after z words vs right i v at n w found value met)
