-- A plain link is set: at the link.
use Rattle.std.proofs.Common.{◌≡◌, ℕ, ◌<◌, ◌≤◌, inl, inr, refl, ap, sym, ◌∙◌, subst, arith}
use Rattle.index_words.specs.declared.side.Side.TheVariants.{Left, Right}
use Rattle.core_trees.specs.NamedTree.{NamedTree, Null, Branch}
use Rattle.core_trees.specs.Slots.{occurs, one_at}
use Rattle.core_trees.specs.SpelledTree.{IsSpelled}
use Rattle.core_trees.proofs.Slots.{one_at-same, one_at-other}
use Rattle.plain_trees.specs.Matching.{IsUnset, IsOut, IsHeir, HasWayAhead, Same, Replaced, Copied, LiftedRight, LiftedLeft, Matches}
use Rattle.plain_trees.specs.Settling.{IsNew, PassesOver}
use Rattle.plain_trees.proofs.SetForms.{Setting, same-top, quiet, framed, counts-swapped, counts-joined, counts-lifted, is-new, new-at, top-child, new-child, new-kid}
use Rattle.plain_trees.proofs.SetForms.{near, clear-at, is-left, unpassed, apart-new, lifted-in, fresh-left, Known, Done}
use Rattle.plain_trees.proofs.Matched.{null-occurs, same-child, null-is, stays-in, tops}
use Rattle.plain_trees.proofs.SetForms.Form.{grown, right, left, swapped, copied, joined}

module _ (S : Setting) where
  open S use {g, g', h, u, u', W, N, q, w, was, child, sets, may, moves}

  -- what hangs to the right of a copy: the right tree, or the right tree without the successor, if the successor goes
  -- too
  pub data RightKid (m key : ℕ) (r now : NamedTree) : Type 0 where
    keeps-right : IsSpelled g' (g'.child Right m) r → Matches u' m Right r now → RightKid m key r now
    passes-right : (v : ℕ) (rest : NamedTree) → r ≡ Branch may.near key v Null rest → IsOut u may.near → g.key was < key → occurs may.near rest ≡ 0
        → ((i : ℕ) × IsUnset u m Right may.near i) → IsSpelled g' (g'.child Right m) rest → Matches u' m Right rest now → RightKid m key r now

  -- what is known there
  pub record Fresh (m key : ℕ) (r now : NamedTree) (x : ℕ) : Type 0 where
    pub asked : h.child w q ≡ m
    pub some : 0 < m
    pub in-now : 0 < occurs m N
    pub new : occurs m W ≡ 0
    pub other : ¬ (m ≡ q)
    pub key-is : g.key m ≡ key
    pub off : occurs q r ≡ 0
    pub now-off : occurs q now ≡ 0
    pub alone : occurs m now ≡ 0
    pub once : (y : ℕ) → occurs y r ≤ 1
    pub spelled : IsSpelled g x r
    pub now-spelled : IsSpelled h (h.child Right m) now
    pub not-behind : (y : ℕ) → 0 < occurs y W → ¬ IsOut u y → occurs y now ≤ occurs y r
    pub within : (y : ℕ) → 0 < occurs y now → 0 < occurs y N

  pub swapped-not : (m key c i k v k' v' x : ℕ) (l r l' r' : NamedTree) → Fresh m key (Branch c k v l r) (Branch i k' v' l' r') x → IsOut u c → IsUnset u m Right c i
      → Matches u i Left l l' → Matches u i Right r r' → ⊥
  swapped-not m key c i k v k' v' x l r l' r' f out t ml mr =
      let some : 0 < i = f.now-spelled.1 in
      let there : ¬ IsOut u i = may.stays i (f.within i (omega (arith, one_at-same i))) in
      let behind : 0 < occurs i W = (near S m f.asked f.some f.new Right c i t).behind some in
      absurd (omega (
        arith,
        f.not-behind i behind there,
        one_at-same i,
        one_at-other i c (λ e. there (subst (IsOut u) (sym e) out)),
        stays-in u i there i Left l l' ml,
        stays-in u i there i Right r r' mr,
      ))

  -- the successor has no left child
  pub bare-left : (m key c i x k v : ℕ) (l r now : NamedTree) → Fresh m key (Branch c k v l r) now x → IsUnset u m Right c i → l ≡ Null
  bare-left m key c i x k v Null r now f t = refl
  bare-left m key c i x k v (Branch c' k' v' l' r') r now f t =
      let p : PassesOver g W was m may.near Right c i = near S m f.asked f.some f.new Right c i t in
      let e : g.child Left c ≡ 0 = subst (λ z. g.child Left z ≡ 0) (sym p.only) p.bare in
      absurd (omega (arith, f.spelled.4.0, f.spelled.4.1, e))

  pub passed-right : (m key c i x k v : ℕ) (l r now : NamedTree) → Fresh m key (Branch c k v l r) now x → IsOut u c → IsUnset u m Right c i → Matches u m Right r now
      → RightKid m key (Branch c k v l r) now
  passed-right m key c i x k v l r now f out t matches =
      let p : PassesOver g W was m may.near Right c i = near S m f.asked f.some f.new Right c i t in
      let is : k ≡ key = sym f.spelled.2 ∙ (subst (λ z. g.key z ≡ g.key m) (sym p.only) p.key ∙ f.key-is) in
      let gone : occurs c r ≡ 0 = omega (arith, f.once c, one_at-same c) in
      let calm : (b j : ℕ) → IsUnset u m Right b j → (0 < b) × (occurs b r ≡ 0)
      = λ b j z. let o : PassesOver g W was m may.near Right b j = near S m f.asked f.some f.new Right b j z in
      (subst (λ y. 0 < y) (sym o.only) o.some, subst (λ y. occurs y r ≡ 0) (p.only ∙ sym o.only) gone) in
      passes-right v r
      (ap (λ z. Branch c k v z r) (bare-left m key c i x k v l r now f t) ∙ (ap (λ z. Branch z k v Null r) p.only ∙ ap (λ z. Branch may.near z v Null r) is))
      (subst (IsOut u) p.only out) (subst (λ z. g.key was < z) f.key-is p.rises) (subst (λ y. occurs y r ≡ 0) p.only gone)
      (i, subst (λ y. IsUnset u m Right y i) p.only t)
      (new-kid S m f.other f.in-now f.new Right (g.child Right c) r now calm (omega (arith, f.off)) f.spelled.5 f.now-spelled matches)
      (quiet S m Right r now calm f.now-off (clear-at S m f.asked now f.alone) matches)

  pub right-kid : (m key x : ℕ) (r now : NamedTree) → Fresh m key r now x → Matches u m Right r now → RightKid m key r now
  right-kid m key x Null Null f e = keeps-right (new-child S m f.other f.in-now f.new Right ∙ f.now-spelled) (inl tt)
  right-kid m key x Null (Branch i k' v' l' r') f (inl e) = absurd e
  right-kid m key x Null (Branch i k' v' l' r') f (inr e) =
      let p : PassesOver g W was m may.near Right 0 i = near S m f.asked f.some f.new Right 0 i e.2 in
      absurd (omega (arith, p.some, p.only))
  right-kid m key x (Branch c k v l r) Null f (Same e) = absurd e
  right-kid m key x (Branch c k v l r) Null f (Replaced o e) = absurd e
  right-kid m key x (Branch c k v l r) Null f (Copied o e) = absurd e
  right-kid m key x (Branch c k v l r) (Branch i k' v' l' r') f (Same e) =
      keeps-right
      (subst (λ z. IsSpelled g' z (Branch c k v l r)) (f.spelled.0 ∙ (sym e.0 ∙ (sym f.now-spelled.0 ∙ sym (new-child S m f.other f.in-now f.new Right)))) (framed S x (Branch c k v l r) f.off f.spelled))
      (Same (same-top S c i k' v' l r l' r' f.now-off (clear-at S m f.asked (Branch i k' v' l' r') f.alone) e))
  right-kid m key x (Branch c k v l r) (Branch i k' v' l' r') f (Replaced o e) = absurd (swapped-not m key c i k v k' v' x l r l' r' f o e.1 e.2 e.3)
  right-kid m key x (Branch c k v l r) (Branch i k' v' l' r') f (Copied o e) = absurd (swapped-not m key c i k v k' v' x l r l' r' f o e.1 e.4 e.5)
  right-kid m key x (Branch c k v l r) now f (LiftedRight o e) = passed-right m key c e.3.0 x k v l r now f o e.3.1 e.4
  right-kid m key x (Branch c k v l Null) now f (LiftedLeft o e) =
      passed-right m key c e.2.0 x k v l Null now f o e.2.1
      (subst (λ z. Matches u m Right z now) (bare-left m key c e.2.0 x k v l Null now f e.2.1) e.3)
  right-kid m key x (Branch c k v l (Branch _ _ _ _ _)) now f (LiftedLeft o e) = absurd e.0

  pub fresh-right : (c k v m k' v' : ℕ) (l r l' r' : NamedTree) → Known S q w q w (Branch c k v l r) (Branch m k' v' l' r') → IsOut u c → occurs q (Branch c k v l r) ≡ 0
      → occurs q (Branch m k' v' l' r') ≡ 0 → Matches u m Left l l' → Matches u m Right r r' → Fresh m k' r r' (g.child Right c)
  fresh-right c k v m k' v' l r l' r' known out op on ml mr = record {
    asked = known.asked.0;
    some = known.asked.1;
    in-now = known.within m (omega (arith, one_at-same m));
    new = new-at S c k v m k' v' l r l' r' known out ml mr;
    other = apart-new S m k' v' l' r' on;
    key-is = sets.now_keys m ∙ known.asked.2;
    off = omega (arith, op);
    now-off = omega (arith, on);
    alone = omega (arith, known.now_once m, one_at-same m);
    once = λ y. omega (arith, known.once y);
    spelled = known.spelled.5;
    now-spelled = known.asked.5;
    not-behind = λ y i t. omega (
      arith,
      known.counts y i t,
      one_at-other y c (λ e. t (subst (IsOut u) (sym e) out)),
      stays-in u y t m Left l l' ml,
    );
    within = λ y i. known.within y (omega (arith, i));
  }

  -- the new node, with these right children
  pub new-node : (c k v m k' v' : ℕ) (l r l' r' t : NamedTree) → Known S q w q w (Branch c k v l r) (Branch m k' v' l' r') → IsOut u c → occurs q (Branch c k v l r) ≡ 0
      → occurs q (Branch m k' v' l' r') ≡ 0 → Matches u m Left l l' → Matches u m Right r r' → IsSpelled g' (g'.child Right m) t → IsSpelled g' (g'.child w q) (Branch m k' v' l t)
  new-node c k v m k' v' l r l' r' t known out op on ml mr spelled =
      let asked : IsSpelled h (h.child w q) (Branch m k' v' l' r') = known.asked in
      let fresh : occurs m W ≡ 0 = new-at S c k v m k' v' l r l' r' known out ml mr in (
        top-child S m asked.0,
        asked.1,
        sets.keys m ∙ (sets.now_keys m ∙ asked.2),
        sets.vals m ∙ (sets.now_vals m ∙ asked.3),
        new-kid S m (apart-new S m k' v' l' r' on) (known.within m (omega (arith, one_at-same m))) fresh Left (g.child Left c) l l'
            (λ b i t. absurd (is-left S (near S m asked.0 asked.1 fresh Left b i t).place)) (omega (arith, op)) known.spelled.4 asked.4 ml,
        spelled,
      )

  pub left-kept : (c k v m k' v' : ℕ) (l r l' r' : NamedTree) → Known S q w q w (Branch c k v l r) (Branch m k' v' l' r') → IsOut u c
      → occurs q (Branch m k' v' l' r') ≡ 0 → Matches u m Left l l' → Matches u m Right r r' → Matches u' m Left l l'
  left-kept c k v m k' v' l r l' r' known out on ml mr =
      fresh-left S m l l' known.asked.0 known.asked.1 (new-at S c k v m k' v' l r l' r' known out ml mr) (omega (arith, on)) (omega (arith, known.now_once m, one_at-same m)) ml

  pub swapped-at : (c k v m k' v' : ℕ) (l r l' r' : NamedTree) → Known S q w q w (Branch c k v l r) (Branch m k' v' l' r') → occurs q (Branch c k v l r) ≡ 0
      → occurs q (Branch m k' v' l' r') ≡ 0 → IsOut u c → k' ≡ k → Matches u m Left l l' → Matches u m Right r r' → RightKid m k' r r'
      → Done S q w q w (Branch c k v l r) (Branch m k' v' l' r')
  swapped-at c k v m k' v' l r l' r' known op on out e ml mr (keeps-right spelled kept) = record {
    tree = Branch m k' v' l r;
    spelled = new-node c k v m k' v' l r l' r' r known out op on ml mr spelled;
    matches = Same (refl, refl, left-kept c k v m k' v' l r l' r' known out on ml mr, kept);
    form = swapped (unpassed S m known.asked.0 known.asked.1 (new-at S c k v m k' v' l r l' r' known out ml mr)) (inl (record {
      slot = m;
      key = k;
      old_val = v;
      val = v';
      left = l;
      right = r;
      was = ap (λ z. Branch z k v l r) (sym known.spelled.0 ∙ sets.before);
      is = ap (λ z. Branch m z v' l r) e;
    }));
    counts = counts-swapped S c k v m k' v' l r (sym known.spelled.0 ∙ sets.before) (sym known.asked.0 ∙ sets.asked) out
        (known.plain_within c (omega (arith, one_at-same c))) (new-at S c k v m k' v' l r l' r' known out ml mr);
  }
  swapped-at c k v m k' v' l r l' r' known op on out e ml mr (passes-right next rest is gone rises off passed spelled kept) =
      absurd (omega (arith, subst (λ z. g.key z < k') (sym sets.before ∙ known.spelled.0) rises, known.spelled.2, e))

  pub copied-at : (c k v m k' v' : ℕ) (l r l' r' : NamedTree) → Known S q w q w (Branch c k v l r) (Branch m k' v' l' r') → occurs q (Branch c k v l r) ≡ 0
      → occurs q (Branch m k' v' l' r') ≡ 0 → IsOut u c → k < k' → HasWayAhead u c k k' r → Matches u m Left l l' → Matches u m Right r r' → RightKid m k' r r'
      → Done S q w q w (Branch c k v l r) (Branch m k' v' l' r')
  copied-at c k v m k' v' l r l' r' known op on out rises ahead ml mr (keeps-right spelled kept) = record {
    tree = Branch m k' v' l r;
    spelled = new-node c k v m k' v' l r l' r' r known out op on ml mr spelled;
    matches = Same (refl, refl, left-kept c k v m k' v' l r l' r' known out on ml mr, kept);
    form = copied ahead.0 k k' (
      subst (λ z. IsHeir u z ahead.0) (sym known.spelled.0 ∙ sets.before) ahead.1,
      sym known.spelled.2 ∙ ap g.key (sym known.spelled.0 ∙ sets.before),
      ap (g'.child Right) (sym sets.asked ∙ known.asked.0) ∙ (same-child g' g (g'.child Right m) (g.child Right c) r spelled known.spelled.5 ∙ ap (g.child Right) (sym known.spelled.0 ∙ sets.before)),
    ) (unpassed S m known.asked.0 known.asked.1 (new-at S c k v m k' v' l r l' r' known out ml mr)) (inl (record {
      slot = m;
      old_val = v;
      val = v';
      left = l;
      right = r;
      rises = rises;
      was = ap (λ z. Branch z k v l r) (sym known.spelled.0 ∙ sets.before);
      is = refl;
      ahead = ahead.2;
    }));
    counts = counts-swapped S c k v m k' v' l r (sym known.spelled.0 ∙ sets.before) (sym known.asked.0 ∙ sets.asked) out
        (known.plain_within c (omega (arith, one_at-same c))) (new-at S c k v m k' v' l r l' r' known out ml mr);
  }
  copied-at c k v m k' v' l r l' r' known op on out rises ahead ml mr (passes-right next rest is gone above off passed spelled kept) =
      let there : ¬ IsOut u m = may.stays m (known.within m (omega (arith, one_at-same m))) in
      record {
        tree = Branch m k' v' l rest;
        spelled = new-node c k v m k' v' l r l' r' rest known out op on ml mr spelled;
        matches = Same (refl, refl, left-kept c k v m k' v' l r l' r' known out on ml mr, kept);
        form = joined may.near (unpassed S m known.asked.0 known.asked.1 (new-at S c k v m k' v' l r l' r' known out ml mr))
            (omega (arith, off, one_at-other may.near m (λ e. there (subst (IsOut u) e gone)), one_at-same may.near, ap (occurs may.near) is)) (inl (record {
              slot = m;
              from = k;
              until = k';
              old_val = v;
              next_val = next;
              val = v';
              left = l;
              right = rest;
              rises = rises;
              was = ap (λ z. Branch z k v l r) (sym known.spelled.0 ∙ sets.before) ∙ ap (λ z. Branch was k v l z) is;
              is = refl;
            }));
        counts = counts-joined S c k v m k' next may.near l r rest is (sym known.spelled.0 ∙ sets.before) (sym known.asked.0 ∙ sets.asked) out gone
            (subst (λ y. IsNew y W × ((i : ℕ) × IsUnset u y Right may.near i)) (sym known.asked.0 ∙ sets.asked)
            ((known.asked.1, new-at S c k v m k' v' l r l' r' known out ml mr), passed))
            (known.plain_within c (omega (arith, one_at-same c))) (new-at S c k v m k' v' l r l' r' known out ml mr) k' v';
      }

  pub at-link : (plain now : NamedTree) → Known S q w q w plain now → occurs q plain ≡ 0 → occurs q now ≡ 0 → Matches u q w plain now → Done S q w q w plain now
  at-link Null Null known op on matches = absurd (moves (sym sets.before ∙ known.spelled ∙ sym known.asked ∙ sets.asked))
  at-link Null (Branch m k' v' l' r') known op on (inl matches) = absurd matches
  at-link Null (Branch m k' v' (Branch _ _ _ _ _) r') known op on (inr matches) = absurd matches.0
  at-link Null (Branch m k' v' Null (Branch _ _ _ _ _)) known op on (inr matches) = absurd matches.1
  at-link Null (Branch m k' v' Null Null) known op on (inr matches) =
      let asked : IsSpelled h (h.child w q) (Branch m k' v' Null Null) = known.asked in
      let is : 0 < occurs m N = known.within m (omega (arith, one_at-same m)) in
      let fresh : occurs m W ≡ 0 = is-new S m q q w w Null (Branch m k' v' Null Null) known (may.stays m is) (omega (arith, one_at-same m)) in
      let ne : ¬ (m ≡ q) = apart-new S m k' v' Null Null on in
      record {
        tree = Branch m k' v' Null Null;
        spelled = (
          top-child S m asked.0,
          asked.1,
          sets.keys m ∙ sets.now_keys m ∙ asked.2,
          sets.vals m ∙ sets.now_vals m ∙ asked.3,
          new-child S m ne is fresh Left ∙ asked.4,
          new-child S m ne is fresh Right ∙ asked.5,
        );
        matches = Same (refl, refl, inl tt, inl tt);
        form = grown (record { slot = m; key = k'; val = v'; was = refl; is = refl });
        counts = record {
          brings = λ x. omega (arith, ap (one_at x) (sym asked.0 ∙ sets.asked));
          keeps = λ x i. omega (arith, one_at-other x m (λ e. absurd (omega (arith, i, fresh, ap (λ z. occurs z W) e))));
          goes = λ some. absurd (omega (arith, some, sym sets.before ∙ known.spelled));
          stays = λ x t. omega arith;
          leaves = λ x ne less. absurd (omega (arith, less));
        };
      }
  at-link (Branch c k v l r) Null known op on (Same matches) = absurd matches
  at-link (Branch c k v l r) Null known op on (Replaced o matches) = absurd matches
  at-link (Branch c k v l r) Null known op on (Copied o matches) = absurd matches
  at-link (Branch c k v l r) (Branch m k' v' l' r') known op on (Same matches) =
      absurd (moves (sym sets.before ∙ known.spelled.0 ∙ sym matches.0 ∙ sym known.asked.0 ∙ sets.asked))
  at-link (Branch c k v l r) (Branch m k' v' l' r') known op on (Replaced o matches) =
      swapped-at c k v m k' v' l r l' r' known op on o matches.0 matches.2 matches.3 (right-kid m k' (g.child Right c) r r' (fresh-right c k v m k' v' l r l' r' known o op on matches.2 matches.3) matches.3)
  at-link (Branch c k v l r) (Branch m k' v' l' r') known op on (Copied o matches) =
      copied-at c k v m k' v' l r l' r' known op on o matches.0 matches.3 matches.4 matches.5
      (right-kid m k' (g.child Right c) r r' (fresh-right c k v m k' v' l r l' r' known o op on matches.4 matches.5) matches.5)
  at-link (Branch c k v l r) now known op on (LiftedRight o matches) =
      let slot : c ≡ was = sym known.spelled.0 ∙ sets.before in
      let gone : occurs was r ≡ 0 = subst (λ z. occurs z r ≡ 0) slot (omega (arith, known.once c, one_at-same c)) in
      let some : 0 < was = subst (λ z. 0 < z) slot known.spelled.1 in
      let child' : g.child Right c ≡ h.child w q
      = tops g h u q w (g.child Right c) (h.child w q) r now
      (λ b i t. (subst (λ z. 0 < z) (sym (may.only b i t)) some, subst (λ z. occurs z r ≡ 0) (sym (may.only b i t)) gone)) known.spelled.5 known.asked matches.4 in
      record {
        tree = r;
        spelled = subst (λ z. IsSpelled g' z r) (child' ∙ sets.asked ∙ sym sets.after) (framed S (g.child Right c) r (omega (arith, op)) known.spelled.5);
        matches = quiet S q w r now (λ b i t. (subst (λ z. 0 < z) (sym (may.only b i t)) some, subst (λ z. occurs z r ≡ 0) (sym (may.only b i t)) gone)) on
            (λ new. absurd (lifted-in S (g.child Right c) r (child' ∙ sets.asked) known.spelled.5 (λ x i. known.plain_within x (omega (arith, i))) new)) matches.4;
        form = right (inl (record { key = k; val = v; was = ap (λ z. Branch z k v l r) slot ∙ ap (λ z. Branch was k v z r) (null-is l matches.1) }));
        counts = counts-lifted S c k v l r r slot o (λ x. omega (arith, null-occurs x l matches.1));
      }
  at-link (Branch c k v l r) now known op on (LiftedLeft o matches) =
      let slot : c ≡ was = sym known.spelled.0 ∙ sets.before in
      let gone : occurs was l ≡ 0 = subst (λ z. occurs z l ≡ 0) slot (omega (arith, known.once c, one_at-same c)) in
      let some : 0 < was = subst (λ z. 0 < z) slot known.spelled.1 in
      let child' : g.child Left c ≡ h.child w q
      = tops g h u q w (g.child Left c) (h.child w q) l now
      (λ b i t. (subst (λ z. 0 < z) (sym (may.only b i t)) some, subst (λ z. occurs z l ≡ 0) (sym (may.only b i t)) gone)) known.spelled.4 known.asked matches.3 in
      record {
        tree = l;
        spelled = subst (λ z. IsSpelled g' z l) (child' ∙ sets.asked ∙ sym sets.after) (framed S (g.child Left c) l (omega (arith, op)) known.spelled.4);
        matches = quiet S q w l now (λ b i t. (subst (λ z. 0 < z) (sym (may.only b i t)) some, subst (λ z. occurs z l ≡ 0) (sym (may.only b i t)) gone)) on
            (λ new. absurd (lifted-in S (g.child Left c) l (child' ∙ sets.asked) known.spelled.4 (λ x i. known.plain_within x (omega (arith, i))) new)) matches.3;
        form = left (inl (record { key = k; val = v; was = ap (λ z. Branch z k v l r) slot ∙ ap (λ z. Branch was k v l z) (null-is r matches.0) }));
        counts = counts-lifted S c k v l r l slot o (λ x. omega (arith, null-occurs x r matches.0));
      }
