-- A begun run of several clients, one answer longer.
use Rattle.std.proofs.Common.{◌≡◌, ℕ, ◌+◌, ◌-◌, ◌<◌, Bool, true, false, cond, eqb, All, Any, List, [], ◌∷◌, ◌++◌, Some, inl, inr, length, get_or, refl, sym, ap, ◌∙◌, subst, arith, append-nil, append_assoc}
use Rattle.std.specs.List.{slice_get}
use Rattle.std.proofs.lemmas.Bool.{cases_lt, eqb-true, eq-eqb, false_from_ne_true, false≢true}
use Rattle.std.proofs.lemmas.List.{length-append, get_or_append_left}
use Rattle.std.proofs.lemmas.Option.{slice_get-get_or}
use Rattle.key_map.specs.declared.update.Update.{Update}
use Rattle.bucket_terms.specs.declared.reply.Placed.{Placed}
use Rattle.bucket_terms.specs.PassView.{Extends}
use Rattle.bucket_terms.specs.LegalRun.{Setting, RequestLine, Answered, AreAnswered, MakesNone, IsMadeBy, answered_lines}
use Rattle.request_lines.specs.SessionLaws.{IsAskable, Rise}
use Rattle.client_run.proofs.Places.{slice_get-append_front, slice_get-append_back}
use Rattle.client_run.proofs.Longer.{OtherLines, AreAnswered-longer}
use Rattle.client_run.proofs.Growing.{answered_length, answered_upto, answered_lines-push, AreAnswered-push, All-answered, Any-front, Any-last}
use Rattle.begun_runs.proofs.Following.{Follows, follows}

-- ---- lists

at_seam : {X : Type 0} (xs : List X) (y : X) (ys : List X) (d : X) → get_or (xs ++ y ∷ ys) (length xs) d ≡ y
at_seam [] y ys d = refl
at_seam (x ∷ xs) y ys d = at_seam xs y ys d

-- ---- begun runs

-- what a client is answered in
abbrev pub within : List (List ℕ) → List Update → (ℕ → ℕ) → ℕ → Setting
within dir updates slots c = record { dir = dir; updates = updates; client = c; slots = slots c }

-- a run of these clients that was begun: the lines that are answered, and those that are left
pub record Begun (dir : List (List ℕ)) (n : ℕ) (slots : ℕ → ℕ) (lines : ℕ → List RequestLine) : Type 0 where
  pub done : ℕ → List RequestLine
  pub left : ℕ → List RequestLine
  pub updates : List Update
  pub replies : ℕ → List Placed
  pub parts : (c : ℕ) → c < n → done c ++ left c ≡ lines c
  pub answered : (c : ℕ) → c < n → AreAnswered (within dir updates slots c) [] (done c) (replies c)
  pub made : (i : ℕ) (u : Update) → slice_get updates i ≡ Some u → (u.client < n) × Any (IsMadeBy dir u (i + 1)) (answered_lines (done u.client) (replies u.client))

-- the later run has more updates and replies after those of the earlier one
pub record Lengthens {dir : List (List ℕ)} {n : ℕ} {slots : ℕ → ℕ} {lines : ℕ → List RequestLine} (early late : Begun dir n slots lines) : Type 0 where
  pub updates : Extends early.updates late.updates
  pub replies : (c : ℕ) → c < n → Extends (early.replies c) (late.replies c)

-- this client alone has got answers, and has these lines left
pub record Advances {dir : List (List ℕ)} {n : ℕ} {slots : ℕ → ℕ} {lines : ℕ → List RequestLine} (early late : Begun dir n slots lines) (c : ℕ) (rest : List RequestLine) : Type 0 where
  pub longer : Lengthens early late
  pub left : late.left c ≡ rest
  pub others : (e : ℕ) → ¬ (e ≡ c) → late.left e ≡ early.left e

-- ---- one more answer

module _ (dir : List (List ℕ)) (n : ℕ) (slots : ℕ → ℕ) (lines : ℕ → List RequestLine) (b : Begun dir n slots lines) (c : ℕ) (below : c < n)
    (l : RequestLine) (rest : List RequestLine) (here : b.left c ≡ l ∷ rest) (rising : Rise (lines c)) (askable : All (IsAskable dir) (lines c)) where
  abbrev s : Setting
  s = within dir b.updates slots c

  abbrev earlier : List Answered
  earlier = answered_lines (b.done c) (b.replies c)

  whole : b.done c ++ l ∷ rest ≡ lines c
  whole = ap (λ (ls : List RequestLine). b.done c ++ ls) (sym here) ∙ b.parts c below

  inside : length (b.done c) < length (b.done c ++ l ∷ rest)
  inside = omega (arith, length-append (b.done c) (l ∷ rest))

  before : All (λ (m : RequestLine). m.line < l.line) (b.done c)
  before = λ k d low.
      let rise : (get_or (b.done c ++ l ∷ rest) k d).line < (get_or (b.done c ++ l ∷ rest) (length (b.done c)) d).line = subst Rise (sym whole) rising k (length (b.done c)) d low inside in
      let first = ap (λ (m : RequestLine). m.line) (get_or_append_left (b.done c) (l ∷ rest) d k low) in
      let last = ap (λ (m : RequestLine). m.line) (at_seam (b.done c) l rest d) in
      omega arith

  can : IsAskable dir l
  can = subst (IsAskable dir) (at_seam (b.done c) l rest l) (subst (All (IsAskable dir)) (sym whole) askable (length (b.done c)) l inside)

  -- no update so far is of this line
  none : MakesNone s l.line
  none = λ k d low is.
      let u = get_or b.updates k d in
      let made = (b.made k u (slice_get-get_or b.updates k d low)).1 in
      let mine = subst (λ (e : ℕ). Any (IsMadeBy dir u (k + 1)) (answered_lines (b.done e) (b.replies e))) is.by made in
      let lower : mine.1.asked.line < l.line =
      subst (λ (x : Answered). x.asked.line < l.line) mine.3
      (All-answered (λ (m : RequestLine). m.line < l.line) (b.done c) (b.replies c) before mine.0 mine.1 mine.2) in
      let same : mine.1.asked.line ≡ u.line = mine.4.line in
      let own : u.line ≡ l.line = is.for_line in
      omega arith

  f : Follows s earlier l
  f = follows s earlier l.line (answered_upto s [] (b.done c) (b.replies c) (b.answered c below)) none l.request can

  abbrev a : Answered
  a = record { asked = l; placed = f.placed }

  -- the added updates are of the client and of the line
  added : (k : ℕ) (d : Update) → k < length f.more → ((get_or f.more k d).client ≡ c) × ((get_or f.more k d).line ≡ l.line)
  added k d low =
      let made = f.made k (get_or f.more k d) (slice_get-get_or f.more k d low) in
      (made.0, sym made.1.line)

  other_lines : All (λ (m : RequestLine). OtherLines s m.line f.more) (b.done c)
  other_lines = λ k d low j e inner is.
      let lower : (get_or (b.done c) k d).line < l.line = before k d low in
      let own : (get_or f.more j e).line ≡ (get_or (b.done c) k d).line = is.for_line in
      let new = (added j e inner).1 in
      omega arith

  other_client : (e : ℕ) → ¬ (e ≡ c) → All (λ (m : RequestLine). OtherLines (within dir b.updates slots e) m.line f.more) (b.done e)
  other_client e apart = λ k d low j v inner is. apart (sym is.by ∙ (added j v inner).0)

  abbrev put : {X : Type 0} → (ℕ → X) → X → ℕ → X
  put f x e = cond (eqb e c) x (f e)

  apart_by : (e : ℕ) → eqb e c ≡ false → ¬ (e ≡ c)
  apart_by e other same = false≢true (sym other ∙ eq-eqb e c same)

  parts_now : (e : ℕ) → e < n → (t : Bool) → eqb e c ≡ t → cond t (b.done c ++ l ∷ []) (b.done e) ++ cond t rest (b.left e) ≡ lines e
  parts_now e low true is = append_assoc (b.done c) (l ∷ []) rest ∙ whole ∙ ap lines (sym (eqb-true e c is))
  parts_now e low false is = b.parts e low

  answered_now : (e : ℕ) → e < n → (t : Bool) → eqb e c ≡ t
      → AreAnswered (within dir (b.updates ++ f.more) slots e) [] (cond t (b.done c ++ l ∷ []) (b.done e)) (cond t (b.replies c ++ f.placed ∷ []) (b.replies e))
  answered_now e low true is =
      subst (λ (d : ℕ). AreAnswered (within dir (b.updates ++ f.more) slots d) [] (b.done c ++ l ∷ []) (b.replies c ++ f.placed ∷ [])) (sym (eqb-true e c is))
      (AreAnswered-push (within dir (b.updates ++ f.more) slots c) [] (b.done c) (b.replies c) l f.placed
      (AreAnswered-longer s f.more [] (b.done c) (b.replies c) other_lines (b.answered c below)) f.answered)
  answered_now e low false is =
      AreAnswered-longer (within dir b.updates slots e) f.more [] (b.done e) (b.replies e) (other_client e (apart_by e is)) (b.answered e low)

  together : answered_lines (b.done c ++ l ∷ []) (b.replies c ++ f.placed ∷ []) ≡ earlier ++ a ∷ []
  together = answered_lines-push (b.done c) (b.replies c) l f.placed (answered_length s [] (b.done c) (b.replies c) (b.answered c below))

  -- an update of the history is made by a line that was answered before
  made_before : (i : ℕ) (u : Update) → Any (IsMadeBy dir u (i + 1)) (answered_lines (b.done u.client) (b.replies u.client)) → (t : Bool) → eqb u.client c ≡ t
      → Any (IsMadeBy dir u (i + 1)) (answered_lines (cond t (b.done c ++ l ∷ []) (b.done u.client)) (cond t (b.replies c ++ f.placed ∷ []) (b.replies u.client)))
  made_before i u made true is =
      subst (λ (answers : List Answered). Any (IsMadeBy dir u (i + 1)) answers) (sym together)
      (Any-front (IsMadeBy dir u (i + 1)) earlier (a ∷ []) (subst (λ (e : ℕ). Any (IsMadeBy dir u (i + 1)) (answered_lines (b.done e) (b.replies e))) (eqb-true u.client c is) made))
  made_before i u made false is = made

  -- and an added one by the new answer
  made_after : (i : ℕ) (u : Update) → IsMadeBy dir u (i + 1) a → (t : Bool) → eqb u.client c ≡ t → u.client ≡ c
      → Any (IsMadeBy dir u (i + 1)) (answered_lines (cond t (b.done c ++ l ∷ []) (b.done u.client)) (cond t (b.replies c ++ f.placed ∷ []) (b.replies u.client)))
  made_after i u made true is own =
      subst (λ (answers : List Answered). Any (IsMadeBy dir u (i + 1)) answers) (sym together) (Any-last (IsMadeBy dir u (i + 1)) earlier a made)
  made_after i u made false is own = absurd (apart_by u.client is own)

  made_now : (i : ℕ) (u : Update) → slice_get (b.updates ++ f.more) i ≡ Some u
      → (u.client < n) × Any (IsMadeBy dir u (i + 1)) (answered_lines (put b.done (b.done c ++ l ∷ []) u.client) (put b.replies (b.replies c ++ f.placed ∷ []) u.client))
  made_now i u is =
      elim (cases_lt i (length b.updates)) [
        | inl front ↦
            let made = b.made i u (sym (slice_get-append_front b.updates f.more i front) ∙ is) in
            (made.0, made_before i u made.1 (eqb u.client c) refl)
        | inr back ↦
            let made = f.made (i - length b.updates) u (sym (slice_get-append_back b.updates f.more i back) ∙ is) in
            let place : length b.updates + (i - length b.updates) + 1 ≡ i + 1 = omega arith in (
              subst (λ (e : ℕ). e < n) (sym made.0) below,
              made_after i u (subst (λ (q : ℕ). IsMadeBy dir u q a) place made.1) (eqb u.client c) refl made.0,
            )
      ]

  -- the run with the next answer of the client
  next : Begun dir n slots lines
  next = record {
    done = put b.done (b.done c ++ l ∷ []);
    left = put b.left rest;
    updates = b.updates ++ f.more;
    replies = put b.replies (b.replies c ++ f.placed ∷ []);
    parts = λ e low. parts_now e low (eqb e c) refl;
    answered = λ e low. answered_now e low (eqb e c) refl;
    made = made_now;
  }

  replies_now : (e : ℕ) (t : Bool) → eqb e c ≡ t → Extends (b.replies e) (cond t (b.replies c ++ f.placed ∷ []) (b.replies e))
  replies_now e true is = (f.placed ∷ [], ap (λ (d : ℕ). b.replies d ++ f.placed ∷ []) (sym (eqb-true e c is)))
  replies_now e false is = ([], sym (append-nil (b.replies e)))

  pub one_more : (late : Begun dir n slots lines) × Advances b late c rest
  unfolding next
  one_more = (
    next,
    record {
      longer = record { updates = (f.more, refl); replies = λ e low. replies_now e (eqb e c) refl };
      left = ap (λ (t : Bool). cond t rest (b.left c)) (eq-eqb c c refl);
      others = λ e apart. ap (λ (t : Bool). cond t rest (b.left e)) (false_from_ne_true (eqb e c) (λ same. apart (eqb-true e c same)));
    },
  )
