-- The view of a seat in a list of views in which one was set.
use Rattle.std.proofs.Common.{◌≡◌, ◌≢◌, ℕ, List, [], ◌∷◌, ◌++◌, set, arith, refl, ◌∙◌, sym, Some}
use Rattle.std.specs.List.{slice_get}
use Rattle.std.proofs.lemmas.List.{get_or_append_left, length-append}
use Rattle.index_words.specs.declared.view.View.{View}
use Rattle.index_words.proofs.Seats.{item_set, beside_item}
use Rattle.key_map.specs.Lists.{IsItem}
use Rattle.core_invariant.proofs.OneView.{item_from_get}
use Rattle.core_invariant.proofs.Frames.{same_item}

module _ (vs : List View) (i : ℕ) (v : View) (at : IsItem vs i v) (w : View) where
  pub set_is : (x : View) → slice_get (set vs i x) i ≡ Some w → x ≡ w
  set_is x is = same_item (set vs i x) i i x w (item_set vs i v x at) (item_from_get (set vs i x) i w is) refl

  pub same_is : slice_get vs i ≡ Some w → v ≡ w
  same_is is = same_item vs i i v w at (item_from_get vs i w is) refl

  pub split_is : (x y : View) → slice_get (set vs i x ++ y ∷ []) i ≡ Some w → x ≡ w
  split_is x y is =
      let us : List View = set vs i x in
      let here = item_set vs i v x at in
      same_item (us ++ y ∷ []) i i x w
      (record { within = omega (arith, length-append us (y ∷ []), here.within); is = λ d. get_or_append_left us (y ∷ []) d i here.within ∙ here.is d })
      (item_from_get (us ++ y ∷ []) i w is) refl

  pub join_is : (value : ℕ) (x y : View) → value ≢ i → slice_get (set (set vs i x) value y) i ≡ Some w → x ≡ w
  join_is value x y apart is =
      same_item (set (set vs i x) value y) i i x w
      (beside_item (set vs i x) value i x y (item_set vs i v x at) (λ same. apart (sym same)))
      (item_from_get (set (set vs i x) value y) i w is) refl
