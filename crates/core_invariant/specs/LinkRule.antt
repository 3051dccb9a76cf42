-- The rule on the node that an update brings in: it is linked last.
use Rattle.std.specs.Prelude.{◌≡◌, ℕ, List, [], true, ◌==◌, Option, Some}
use Rattle.std.specs.List.{list_any}
use Rattle.index_words.specs.declared.view.View.{View}
use Rattle.index_words.specs.declared.view.update.UnsetLink.{UnsetLink}

-- as long as an entry is pending, the link to the node that an update has brought in is still to be set
pub record LinksLastOf (added : Option ℕ) (pending : List ℕ) (unset : List UnsetLink) : Type 0 where
  pub unlinked : (k : ℕ) → added ≡ Some k → ¬ (pending ≡ []) → list_any (λ (u : UnsetLink). u.child == k) unset ≡ true

abbrev pub LinksLast : View → Type 0
LinksLast v = LinksLastOf v.update.added v.update.pending v.update.unset
