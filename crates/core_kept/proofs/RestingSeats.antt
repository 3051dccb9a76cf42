-- A seat that rests: it has nothing to do at plain links, searches for nothing, and reaches nothing.
use Rattle.std.proofs.Common.{◌≡◌, ℕ, ◌≤◌, List, [], ◌∷◌, inl, inr, true, arith, refl, ap, ◌∙◌, sym, subst, None, IfSome}
use Rattle.std.proofs.lemmas.Bool.Decides.{eqb_tells}
use Rattle.index_words.specs.declared.layout.Layout.{Layout}
use Rattle.index_words.specs.declared.view.View.{View}
use Rattle.index_words.specs.declared.view.reading.Reading.{Reading}
use Rattle.index_words.specs.declared.view.update.HeldNode.{HeldNode}
use Rattle.index_words.specs.declared.view.update.Updating.{Updating}
use Rattle.index_words.specs.Views.{no_reading, no_update}
use Rattle.key_map.specs.Lists.{count, Every}
use Rattle.core_grace.specs.Holds.{held_slots}
use Rattle.core_grace.specs.Sections.{is_even}
use Rattle.core_trees.specs.NamedTree.{NamedTree}
use Rattle.core_trees.specs.Slots.{one_at}
use Rattle.core_trees.proofs.Slots.{one_at-same, one_at-other}
use Rattle.core_trees.specs.SpelledTree.{Graph}
use Rattle.core_events.specs.Searches.{turn_key}
use Rattle.core_events.proofs.Tests.{never}
use Rattle.core_invariant.specs.PlainTree.{ItemRight, AreApart, SeatInTree}
use Rattle.core_invariant.specs.Reached.{HoldsPlain, ReachesRight}
use Rattle.core_invariant.specs.SearchRule.{ClaimsAt, PlaceClaims, LinkClaims, PlaceKey, LinkKeys, SearchRight}

pub one_most : (x s : ℕ) → one_at x s ≤ 1
one_most x s = elim (eqb_tells x s) as (λ _. one_at x s ≤ 1) [
  | inl e ↦ omega (arith, subst (λ z. one_at z s ≡ 1) (sym e.1) (one_at-same s))
  | inr ne ↦ omega (arith, one_at-other x s ne.1)
]

-- with no lock and no update
pub rests_in_tree : (g : Graph) (plain now : NamedTree) (v : View) → v.held.nodes ≡ [] → v.update ≡ no_update → SeatInTree g plain now v
rests_in_tree g plain now v held update = record {
  locked = λ k some here. absurd (omega (arith, some, ap (λ (hs : List HeldNode). count k (held_slots hs)) held));
  items = subst (λ (u : Updating). Every (ItemRight g plain u.taken u.added u.unlinking u.waiting) u.unset) (sym update) tt;
  apart = subst (λ (u : Updating). AreApart u.taken) (sym update) tt;
  first = subst (λ (u : Updating). u.raised ≡ None → u.taken ≡ []) (sym update) (λ none. refl);
  far = subst (λ (u : Updating). IfSome u.unlinking (λ o. u.taken ≡ o.replaced ∷ o.successor ∷ [])) (sym update) tt;
}

-- outside of a section
pub rests_reaching : (g : Graph) (v : View) (k : ℕ) → is_even v.section_word ≡ true → HoldsPlain g v k → ⊥
rests_reaching g v k even holds = never (sym holds.inside ∙ even)

pub rests_search : (g : Graph) (vs : List View) (now plain : NamedTree) (v : View) → v.reading ≡ no_reading → is_even v.section_word ≡ true
    → SearchRight g vs now plain v
rests_search g vs now plain v read even = record {
  ahead = λ k holds here. absurd (rests_reaching g v k even holds);
  key = subst (λ (r : Reading). PlaceKey g.key r.place) (sym read) tt;
  keys = subst (λ (r : Reading). Every (LinkKeys g.key) r.links) (sym read) tt;
  place = λ raised. subst (λ (r : Reading). PlaceClaims (ClaimsAt g vs plain v) (turn_key r.right_turn) (turn_key r.left_turn) r.place) (sym read) tt;
  links = λ raised. subst (λ (r : Reading). Every (LinkClaims (ClaimsAt g vs plain v)) r.links) (sym read) tt;
}

pub rests_reach : (z : Layout) (g : Graph) (vs : List View) (v : View) → is_even v.section_word ≡ true → ReachesRight z g vs v
rests_reach z g vs v even = record {
  there = λ k holds. absurd (rests_reaching g v k even holds);
  unheld = λ k holds. absurd (rests_reaching g v k even holds);
  apart = λ k holds. absurd (rests_reaching g v k even holds);
  own = λ raised k holds. absurd (rests_reaching g v k even holds);
  grace = λ j d within k holds. absurd (rests_reaching g v k even holds);
}
