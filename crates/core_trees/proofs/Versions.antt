-- A tree that is spelled at a number stays so if the selections stay.
use Rattle.std.proofs.Common.{inl, inr, refl, ap, subst}
use Rattle.index_words.specs.declared.side.Side.TheVariants.{Left, Right}
use Rattle.core_trees.specs.SpelledTree.{IsSpelled}
use Rattle.core_links.specs.Bundle.{child_of_entry}
use Rattle.core_trees.specs.SpelledAt.{graph_at, VersionLaw}
use Rattle.core_trees.proofs.SpelledTree.{spelled-frame}

pub version_law : VersionLaw
version_law key val ptr number number' bundle bundle' t root tree selected spelled =
    subst (λ c. IsSpelled (graph_at key val ptr number' bundle' t) c tree) (ap (child_of_entry ptr) (selected root (inl refl) Right))
    (spelled-frame (graph_at key val ptr number bundle t) (graph_at key val ptr number' bundle' t)
    ((graph_at key val ptr number bundle t).child Right root) tree
    (λ x p. record {
      key = refl;
      val = refl;
      left = ap (child_of_entry ptr) (selected x (inr p) Left);
      right = ap (child_of_entry ptr) (selected x (inr p) Right);
    }) spelled)
