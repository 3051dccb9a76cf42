-- How each load under a lock, and a prepare, maps the locked nodes, and what it keeps.
use Rattle.std.proofs.Common.{◌≡◌, ℕ, ◌<◌, Bool, true, false, cond, eqb, refl, ap, sym, ◌∙◌, subst, arith, Option, Some, None}
use Rattle.std.proofs.lemmas.Bool.Decides.{nat_tests}
use Rattle.std.proofs.lemmas.Bool.{eqb-true}
use Rattle.index_words.specs.declared.side.Side.{Side}
use Rattle.index_words.specs.declared.side.Side.TheVariants.{Left, Right}
use Rattle.index_words.specs.declared.view.View.{View}
use Rattle.index_words.specs.declared.view.update.HeldNode.{HeldNode}
use Rattle.index_words.specs.declared.view.update.HeldSide.{HeldSide}
use Rattle.index_words.specs.declared.view.update.LoadedHead.{LoadedHead}
use Rattle.index_words.specs.declared.word.Field.TheVariants.{Key, Val}
use Rattle.core_trees.specs.declared.link.Link.{Link}
use Rattle.core_events.specs.LoadMoves.{found_at, found_again, head_found, side_known, stamp_known, node_known}
use Rattle.core_events.specs.LockMoves.{mark_known, pair_known}
use Rattle.core_events.specs.PlainMoves.{link_known, link_known_at, tag_known, tag_known_at}
use Rattle.core_events.specs.UpdateMoves.{head_known, known_at}
use Rattle.core_events.specs.UpdateNeeds.{is_written, side_of}
use Rattle.core_updates.specs.Held.{HasLoaded}
use Rattle.core_updates.specs.PlanEvents.{KnowsLink, KnowsTag}
use Rattle.plan_laws.specs.Looks.{IsUnmarked}
use Rattle.plan_laws.proofs.Kept.{SameParts, own_node, one-part, one-is, one-at, one-keeps, KeepsAt, KeepsHeld, KnowsHead}

-- a mark that is loaded, or set
module _ (k x : ℕ) where
  abbrev marked : HeldNode → HeldNode
  marked h = record h { mark = Some x }

  pub mark-node : (h : HeldNode) → (mark_known k x h).node ≡ h.node
  mark-node h = one-part k marked (λ (y : HeldNode). y.node) h refl

  mark-side : (side : Side) (h : HeldNode) → side_of side (marked h) ≡ side_of side h
  mark-side Left h = refl
  mark-side Right h = refl

  pub mark-keeps : (v : View) → (IsUnmarked v k → x ≡ 0) → KeepsHeld (mark_known k x) v
  mark-keeps v first =
      one-keeps k marked v
      (λ place h at here is. ap Some (first (record { place = place; held = h; at = at; node_is = here; is = is })))
      (λ place y h at here is. is)
      (λ place y h at here is. is)
      (λ y side h found is. ap (λ (s : HeldSide). s.link) (mark-side side h) ∙ is)
      (λ y side h found is. ap (λ (s : HeldSide). s.tag) (mark-side side h) ∙ is)

  pub mark-is : (h : HeldNode) → h.node ≡ k → (mark_known k x h).mark ≡ Some x
  mark-is h here = ap (λ (y : HeldNode). y.mark) (one-is k marked h here)

-- the number of an entry that is loaded, where it is not 0
module _ (e x : ℕ) where
  written-some : 0 < x → is_written (Some x) ≡ true
  written-some some = grind (arith, nat_tests)

  pub number-side : (side : Side) (h : HeldNode) → side_of side (node_known e x h) ≡ side_known e x (side_of side h)
  number-side Left h = refl
  number-side Right h = refl

  known-side : (some : 0 < x) (l : LoadedHead) (s : HeldSide) → s.head ≡ Some l → KnowsHead l (side_known e x s)
  known-side some l s is =
      by (eqb l.entry e) (ap (stamp_known e x) is)
    where
      by : (b : Bool) → (side_known e x s).head ≡ Some (cond b (record { entry = l.entry; stamp = Some x }) l) → KnowsHead l (side_known e x s)
      by true now = record { now = record { entry = l.entry; stamp = Some x }; is = now; entry = refl; written = λ w. written-some some }
      by false now = record { now = l; is = now; entry = refl; written = λ w. w }

  pub number-at : 0 < x → (at : Link) → KeepsAt (node_known e x) at
  number-at some at = record {
    mark = λ h here is. is;
    head = λ h l here is. subst (λ s. KnowsHead l s) (sym (number-side at.side h)) (known-side some l (side_of at.side h) is);
  }

  pub number-keeps : (v : View) → KeepsHeld (node_known e x) v
  number-keeps v = record {
    mark = λ place h at is. is;
    key = λ place y h at is. is;
    val = λ place y h at is. is;
    link = λ j y side h found is. known-link side h y is;
    tag = λ j y side h found is. known-tag side h y is;
  }
    where
      known-link : (side : Side) (h : HeldNode) (y : ℕ) → (side_of side h).link ≡ Some y → (side_of side (node_known e x h)).link ≡ Some y
      known-link Left h y is = is
      known-link Right h y is = is

      known-tag : (side : Side) (h : HeldNode) (y : ℕ) → (side_of side h).tag ≡ Some y → (side_of side (node_known e x h)).tag ≡ Some y
      known-tag Left h y is = is
      known-tag Right h y is = is

  -- the head with that entry has the number
  pub numbered-side : (side : Side) (h : HeldNode) (l : LoadedHead) → 0 < x → l.entry ≡ e → (side_of side h).head ≡ Some l
      → (side_of side (node_known e x h)).head ≡ Some (record { entry = l.entry; stamp = Some x })
  numbered-side side h l some here is =
      ap (λ (s : HeldSide). s.head) (number-side side h)
      ∙ ap (stamp_known e x) is
      ∙ ap (λ b. Some (cond b (record { entry = l.entry; stamp = Some x }) l)) (ap (λ n. eqb n e) here ∙ own_node e)

  pub is-written : 0 < x → is_written (Some x) ≡ true
  is-written some = written-some some

-- a head that is loaded
module _ (k e : ℕ) (side : Side) where
  found-side : (s : Side) (h : HeldNode)
      → ((side_of s (head_found side e h)).link ≡ (side_of s h).link) × ((side_of s (head_found side e h)).tag ≡ (side_of s h).tag)
  found-side s h = by side s
    where
      by : (side s : Side) → ((side_of s (head_found side e h)).link ≡ (side_of s h).link) × ((side_of s (head_found side e h)).tag ≡ (side_of s h).tag)
      by Left Left = (refl, refl)
      by Left Right = (refl, refl)
      by Right Left = (refl, refl)
      by Right Right = (refl, refl)

  found-parts : (h : HeldNode) → SameParts (head_found side e h) h
  found-parts h = by side
    where
      by : (s : Side) → SameParts (head_found s e h) h
      by Left = record { node = refl; mark = refl; key = refl; val = refl }
      by Right = record { node = refl; mark = refl; key = refl; val = refl }

  pub found-node : (h : HeldNode) → (found_at k side e h).node ≡ h.node
  found-node h = one-part k (head_found side e) (λ (x : HeldNode). x.node) h (found-parts h).node

  pub found-mark : (h : HeldNode) → (found_at k side e h).mark ≡ h.mark
  found-mark h = one-part k (head_found side e) (λ (x : HeldNode). x.mark) h (found-parts h).mark

  pub found-other : (at : Link) → ¬ (at.node ≡ k) → KeepsAt (found_at k side e) at
  found-other at apart = one-at k (head_found side e) at apart

  pub found-keeps : (v : View) → KeepsHeld (found_at k side e) v
  found-keeps v =
      one-keeps k (head_found side e) v
      (λ place h at here is. (found-parts h).mark ∙ is)
      (λ place y h at here is. (found-parts h).key ∙ is)
      (λ place y h at here is. (found-parts h).val ∙ is)
      (λ y s h found is. (found-side s h).0 ∙ is)
      (λ y s h found is. (found-side s h).1 ∙ is)

  side-found : (s : Side) (h : HeldNode) → (side_of s (head_found s e h)).head ≡ found_again e (side_of s h).head
  side-found Left h = refl
  side-found Right h = refl

  -- the head that is found has the entry
  found-entry : (o : Option LoadedHead) → (l : LoadedHead) × (found_again e o ≡ Some l) × (l.entry ≡ e)
  found-entry None = (record { entry = e; stamp = None }, refl, refl)
  found-entry (Some l) = by (eqb l.entry e) (λ t. eqb-true l.entry e t)
    where
      by : (b : Bool) → (b ≡ true → l.entry ≡ e) → (m : LoadedHead) × (Some (cond b l (record { entry = e; stamp = None })) ≡ Some m) × (m.entry ≡ e)
      by true tells = (l, refl, tells refl)
      by false tells = (record { entry = e; stamp = None }, refl, refl)

  pub found-is : (h : HeldNode) → h.node ≡ k → (l : LoadedHead) × ((side_of side (found_at k side e h)).head ≡ Some l) × (l.entry ≡ e)
  found-is h here =
      let found = found-entry (side_of side h).head in
      (found.0, ap (λ (x : HeldNode). (side_of side x).head) (one-is k (head_found side e) h here) ∙ side-found side h ∙ found.1, found.2)

-- a head that is stored
module _ (k : ℕ) (side : Side) (l : LoadedHead) where
  known-side' : (s : Side) (h : HeldNode)
      → ((side_of s (head_known side l h)).link ≡ (side_of s h).link) × ((side_of s (head_known side l h)).tag ≡ (side_of s h).tag)
  known-side' s h = by side s
    where
      by : (side s : Side) → ((side_of s (head_known side l h)).link ≡ (side_of s h).link) × ((side_of s (head_known side l h)).tag ≡ (side_of s h).tag)
      by Left Left = (refl, refl)
      by Left Right = (refl, refl)
      by Right Left = (refl, refl)
      by Right Right = (refl, refl)

  known-parts : (h : HeldNode) → SameParts (head_known side l h) h
  known-parts h = by side
    where
      by : (s : Side) → SameParts (head_known s l h) h
      by Left = record { node = refl; mark = refl; key = refl; val = refl }
      by Right = record { node = refl; mark = refl; key = refl; val = refl }

  pub known-node : (h : HeldNode) → (known_at k side l h).node ≡ h.node
  known-node h = one-part k (head_known side l) (λ (x : HeldNode). x.node) h (known-parts h).node

  pub known-other : (at : Link) → ¬ (at.node ≡ k) → KeepsAt (known_at k side l) at
  known-other at apart = one-at k (head_known side l) at apart

  pub known-keeps : (v : View) → KeepsHeld (known_at k side l) v
  known-keeps v =
      one-keeps k (head_known side l) v
      (λ place h at here is. (known-parts h).mark ∙ is)
      (λ place y h at here is. (known-parts h).key ∙ is)
      (λ place y h at here is. (known-parts h).val ∙ is)
      (λ y s h found is. (known-side' s h).0 ∙ is)
      (λ y s h found is. (known-side' s h).1 ∙ is)

  side-stored : (s : Side) (h : HeldNode) → (side_of s (head_known s l h)).head ≡ Some l
  side-stored Left h = refl
  side-stored Right h = refl

  pub known-is : (h : HeldNode) → h.node ≡ k → (side_of side (known_at k side l h)).head ≡ Some l
  known-is h here = ap (λ (x : HeldNode). (side_of side x).head) (one-is k (head_known side l) h here) ∙ side-stored side h

-- a plain link, or its tag, that is loaded or stored
module _ (k x : ℕ) (side : Side) where
  link-parts : (h : HeldNode) → SameParts (link_known side x h) h
  link-parts h = by side
    where
      by : (s : Side) → SameParts (link_known s x h) h
      by Left = record { node = refl; mark = refl; key = refl; val = refl }
      by Right = record { node = refl; mark = refl; key = refl; val = refl }

  tag-parts : (h : HeldNode) → SameParts (tag_known side x h) h
  tag-parts h = by side
    where
      by : (s : Side) → SameParts (tag_known s x h) h
      by Left = record { node = refl; mark = refl; key = refl; val = refl }
      by Right = record { node = refl; mark = refl; key = refl; val = refl }

  pub link-node : (h : HeldNode) → (link_known_at k side x h).node ≡ h.node
  link-node h = one-part k (link_known side x) (λ (y : HeldNode). y.node) h (link-parts h).node

  pub tag-node : (h : HeldNode) → (tag_known_at k side x h).node ≡ h.node
  tag-node h = one-part k (tag_known side x) (λ (y : HeldNode). y.node) h (tag-parts h).node

  pub link-mark : (h : HeldNode) → (link_known_at k side x h).mark ≡ h.mark
  link-mark h = one-part k (link_known side x) (λ (y : HeldNode). y.mark) h (link-parts h).mark

  pub link-keeps : (v : View) → ((n : KnowsLink v k side) → n.child ≡ x) → KeepsHeld (link_known_at k side x) v
  link-keeps v first =
      one-keeps k (link_known side x) v
      (λ place h at here is. (link-parts h).mark ∙ is)
      (λ place y h at here is. (link-parts h).key ∙ is)
      (λ place y h at here is. (link-parts h).val ∙ is)
      (λ y s h found is. by side s y h is (λ same. first (record {
        held = h;
        locked = found;
        child = y;
        known = ap (λ (d : Side). (side_of d h).link)
            (sym same) ∙ is;
      })))
      (λ y s h found is. same-tag side s h ∙ is)
    where
      by : (side s : Side) (y : ℕ) (h : HeldNode) → (side_of s h).link ≡ Some y → (s ≡ side → y ≡ x) → (side_of s (link_known side x h)).link ≡ Some y
      by Left Right y h is same = is
      by Right Left y h is same = is
      by _ _ y h is same = ap Some (sym (same refl))

      same-tag : (side s : Side) (h : HeldNode) → (side_of s (link_known side x h)).tag ≡ (side_of s h).tag
      same-tag Left Left h = refl
      same-tag Left Right h = refl
      same-tag Right Left h = refl
      same-tag Right Right h = refl

  pub tag-keeps : (v : View) → ((n : KnowsTag v k side) → n.found ≡ x) → KeepsHeld (tag_known_at k side x) v
  tag-keeps v first =
      one-keeps k (tag_known side x) v
      (λ place h at here is. (tag-parts h).mark ∙ is)
      (λ place y h at here is. (tag-parts h).key ∙ is)
      (λ place y h at here is. (tag-parts h).val ∙ is)
      (λ y s h found is. same-link side s h ∙ is)
      (λ y s h found is. by side s y h is (λ same. first (record {
        held = h;
        locked = found;
        found = y;
        known = ap (λ (d : Side). (side_of d h).tag)
            (sym same) ∙ is;
      })))
    where
      by : (side s : Side) (y : ℕ) (h : HeldNode) → (side_of s h).tag ≡ Some y → (s ≡ side → y ≡ x) → (side_of s (tag_known side x h)).tag ≡ Some y
      by Left Right y h is same = is
      by Right Left y h is same = is
      by _ _ y h is same = ap Some (sym (same refl))

      same-link : (side s : Side) (h : HeldNode) → (side_of s (tag_known side x h)).link ≡ (side_of s h).link
      same-link Left Left h = refl
      same-link Left Right h = refl
      same-link Right Left h = refl
      same-link Right Right h = refl

  pub tag-link : (s : Side) (h : HeldNode) → (side_of s (tag_known_at k side x h)).link ≡ (side_of s h).link
  tag-link s h = one-part k (tag_known side x) (λ (y : HeldNode). (side_of s y).link) h (by side s)
    where
      by : (side s : Side) → (side_of s (tag_known side x h)).link ≡ (side_of s h).link
      by Left Left = refl
      by Left Right = refl
      by Right Left = refl
      by Right Right = refl

  pub tag-mark : (h : HeldNode) → (tag_known_at k side x h).mark ≡ h.mark
  tag-mark h = one-part k (tag_known side x) (λ (y : HeldNode). y.mark) h (tag-parts h).mark

  pub link-is : (h : HeldNode) → h.node ≡ k → (side_of side (link_known_at k side x h)).link ≡ Some x
  link-is h here = ap (λ (y : HeldNode). (side_of side y).link) (one-is k (link_known side x) h here) ∙ by side
    where
      by : (s : Side) → (side_of s (link_known s x h)).link ≡ Some x
      by Left = refl
      by Right = refl

  pub tag-is : (h : HeldNode) → h.node ≡ k → (side_of side (tag_known_at k side x h)).tag ≡ Some x
  tag-is h here = ap (λ (y : HeldNode). (side_of side y).tag) (one-is k (tag_known side x) h here) ∙ by side
    where
      by : (s : Side) → (side_of s (tag_known s x h)).tag ≡ Some x
      by Left = refl
      by Right = refl

-- a key or a value that is loaded
module _ (k x : ℕ) where
  abbrev keyed : HeldNode → HeldNode
  keyed h = record h { key = Some x }

  abbrev valued : HeldNode → HeldNode
  valued h = record h { val = Some x }

  pub key-node : (h : HeldNode) → (pair_known Key k x h).node ≡ h.node
  key-node h = one-part k keyed (λ (y : HeldNode). y.node) h refl

  pub val-node : (h : HeldNode) → (pair_known Val k x h).node ≡ h.node
  val-node h = one-part k valued (λ (y : HeldNode). y.node) h refl

  key-side : (side : Side) (h : HeldNode) → side_of side (keyed h) ≡ side_of side h
  key-side Left h = refl
  key-side Right h = refl

  val-side : (side : Side) (h : HeldNode) → side_of side (valued h) ≡ side_of side h
  val-side Left h = refl
  val-side Right h = refl

  pub key-keeps : (v : View) → ((y : ℕ) → HasLoaded v k (λ (h : HeldNode). h.key) y → y ≡ x) → KeepsHeld (pair_known Key k x) v
  key-keeps v first =
      one-keeps k keyed v
      (λ place h at here is. is)
      (λ place y h at here is. ap Some (sym (first y (record { place = place; held = h; at = at; node_is = here; is = is }))))
      (λ place y h at here is. is)
      (λ y side h found is. ap (λ (s : HeldSide). s.link) (key-side side h) ∙ is)
      (λ y side h found is. ap (λ (s : HeldSide). s.tag) (key-side side h) ∙ is)

  pub val-keeps : (v : View) → ((y : ℕ) → HasLoaded v k (λ (h : HeldNode). h.val) y → y ≡ x) → KeepsHeld (pair_known Val k x) v
  val-keeps v first =
      one-keeps k valued v
      (λ place h at here is. is)
      (λ place y h at here is. is)
      (λ place y h at here is. ap Some (sym (first y (record { place = place; held = h; at = at; node_is = here; is = is }))))
      (λ y side h found is. ap (λ (s : HeldSide). s.link) (val-side side h) ∙ is)
      (λ y side h found is. ap (λ (s : HeldSide). s.tag) (val-side side h) ∙ is)

  pub key-is : (h : HeldNode) → h.node ≡ k → (pair_known Key k x h).key ≡ Some x
  key-is h here = ap (λ (y : HeldNode). y.key) (one-is k keyed h here)

  pub val-is : (h : HeldNode) → h.node ≡ k → (pair_known Val k x h).val ≡ Some x
  val-is h here = ap (λ (y : HeldNode). y.val) (one-is k valued h here)
