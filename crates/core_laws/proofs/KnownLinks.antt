-- On a table of one pass a plain link, and its tag, hold what a seat remembers of them, or what it knows under its own
-- lock.
use Rattle.std.proofs.Common.{◌≡◌, ℕ, true, false, inl, inr, ◌∙◌, sym, subst, Some}
use Rattle.index_words.specs.declared.side.Side.{Side}
use Rattle.index_words.specs.declared.view.View.{View}
use Rattle.index_words.specs.declared.view.reading.LinkSource.{LinkSource}
use Rattle.index_words.specs.declared.view.reading.LinkSource.TheVariants.{Bundle, Plain}
use Rattle.index_words.specs.declared.word.Field.TheVariants.{Tag}
use Rattle.index_words.specs.declared.word.Word.TheVariants.{Node}
use Rattle.index_words.specs.Words.{Memory}
use Rattle.index_words.proofs.Seats.{at_item}
use Rattle.key_map.specs.Lists.{Every, IsItem}
use Rattle.core_trees.specs.SpelledTree.{Graph}
use Rattle.core_events.specs.Searches.{is_plain, is_other_tag, knows_link, knows_tag}
use Rattle.core_events.specs.Tables.{Table, held_by}
use Rattle.core_events.proofs.Tests.{never, not_equal}
use Rattle.core_invariant.specs.Reached.{plain_graph}
use Rattle.core_invariant.specs.Rule.{IsRight}
use Rattle.core_invariant.specs.StillRule.{IsSourceKnown, IsLinkKnown, KnownRight}
use Rattle.core_laws.specs.Counts.{RemembersOtherChild, RemembersOtherTag}
use Rattle.core_laws.proofs.Remembered.{every_item}

module _ (t : Table) (right : IsRight t) (i : ℕ) (v : View) (at : IsItem t.views i v) (one : t.layout.passes ≡ 1) where
  abbrev m : Memory
  m = held_by t

  abbrev gr : Graph
  gr = plain_graph m

  abbrev tags : Side → ℕ → ℕ
  tags side k = m (Node (Tag side) k)

  known : Every (IsLinkKnown gr tags v.held.nodes) v.reading.links
  known = at_item (KnownRight t.layout gr tags) t.views i v at right.known one

  -- another child than the remembered one is known
  pub link_met : (node : ℕ) (side : Side) → RemembersOtherChild v node side (gr.child side node) → knows_link v.held.nodes node side (gr.child side node) ≡ false → ⊥
  link_met node side other unknown =
      by other.link.child other.link.source other.plain other.apart
      (subst (λ n. IsSourceKnown v.held.nodes n side (gr.child side n) (tags side n) other.link.child other.link.source) other.node_is
      (subst (λ (s : Side). IsSourceKnown v.held.nodes other.link.node s (gr.child s other.link.node) (tags s other.link.node) other.link.child other.link.source) other.side_is
      (every_item (IsLinkKnown gr tags v.held.nodes) v.reading.links other.place other.link other.is known)))
    where
      by : (child : ℕ) (s : LinkSource) → is_plain s ≡ true → ¬ (child ≡ gr.child side node) → IsSourceKnown v.held.nodes node side (gr.child side node) (tags side node) child s → ⊥
      by child (Bundle entry) plain apart is = never plain
      by child (Plain found above below) plain apart is = elim is.0 as (λ _. ⊥) [ inl same ↦ apart (sym same) | inr told ↦ never (sym unknown ∙ told) ]

  -- and so is another tag
  pub tag_met : (node : ℕ) (side : Side) → RemembersOtherTag v node side (tags side node) → knows_tag v.held.nodes node side (tags side node) ≡ false → ⊥
  tag_met node side other unknown =
      by other.link.child other.link.source other.other
      (subst (λ n. IsSourceKnown v.held.nodes n side (gr.child side n) (tags side n) other.link.child other.link.source) other.node_is
      (subst (λ (s : Side). IsSourceKnown v.held.nodes other.link.node s (gr.child s other.link.node) (tags s other.link.node) other.link.child other.link.source) other.side_is
      (every_item (IsLinkKnown gr tags v.held.nodes) v.reading.links other.place other.link other.is known)))
    where
      by : (child : ℕ) (s : LinkSource) → is_other_tag (tags side node) s ≡ true → IsSourceKnown v.held.nodes node side (gr.child side node) (tags side node) child s → ⊥
      by child (Plain (Some found) above below) apart is = elim is.1 as (λ _. ⊥) [ inl same ↦ not_equal found (tags side node) apart (sym same) | inr told ↦ never (sym unknown ∙ told) ]
      by child _ apart is = never apart
