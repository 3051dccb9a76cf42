-- The null link at which the search for an absent key ends.
use Rattle.std.proofs.Common.{ℕ, ◌^◌, ◌↔◌, IsTrue, refl, sym, ◌∙◌, subst}
use Rattle.std.specs.Prelude.{Option, Some, None, IsNone, IfSome, MatchOption}
use Rattle.std.proofs.lemmas.Bool.{false≢true}
use Rattle.index_words.specs.declared.side.Side.{Side}
use Rattle.key_map.specs.Map.{map_has}
use Rattle.core_trees.specs.declared.link.Link.{Link}
use Rattle.core_trees.specs.NamedTree.{NamedTree, contents, IsLawful}
use Rattle.core_trees.specs.TreeStep.{subtree_at}
use Rattle.core_trees.specs.Search.{EndsAt, end_node}
use Rattle.core_trees.specs.Gaps.{IsNull, IsGapLink, IsOnlyGapLink}
use Rattle.core_trees.proofs.Gaps.{absent-gap, gap-ends, null-lacks, lacks-has, found-has}

-- what the walk to the link shows
abbrev pub EndLink : ℕ → ℕ → Side → NamedTree → Option Link → Type 0
EndLink key root top tree r =
    MatchOption r (¬ IsNull (subtree_at key tree)) (λ link. IsNull (subtree_at key tree) × EndsAt key link.node link.side root top tree)

module _ (key root : ℕ) (top : Side) (tree : NamedTree) (lawful : IsLawful tree) where
  pub end-present : (r : Option Link) → EndLink key root top tree r → IsNone r ↔ IsTrue (map_has key (contents tree))
  end-present None h = ((λ _. found-has key tree h), (λ _. refl))
  end-present (Some link) h =
      ((λ none. absurd (false≢true (sym none))), (λ has. absurd (false≢true (sym (lacks-has key tree (null-lacks key 0 (2 ^ 64) tree lawful h.0)) ∙ has))))

  pub end-gap : (r : Option Link) → EndLink key root top tree r → IfSome r (λ link. IsGapLink key link.node link.side root top tree)
  end-gap None h = tt
  end-gap (Some link) h =
      subst (λ n. IsGapLink key n link.side root top tree) h.1.0
      (subst (λ w. IsGapLink key (end_node key root tree) w root top tree) h.1.1
      (absent-gap key 0 (2 ^ 64) root top tree lawful (null-lacks key 0 (2 ^ 64) tree lawful h.0)))

  pub end-only : (r : Option Link) → EndLink key root top tree r → IfSome r (λ link. IsOnlyGapLink key link.node link.side tree)
  end-only None h = tt
  end-only (Some link) h = λ n k w null gap.
      let ends : EndsAt key n w root top tree = gap-ends n k key 0 (2 ^ 64) root w top tree lawful null gap in
      (sym h.1.0 ∙ ends.0, sym h.1.1 ∙ ends.1)
