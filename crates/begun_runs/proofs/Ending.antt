-- A begun run is ended client by client: the lines that a client has left are answered, one after the other.
use Rattle.std.proofs.Common.{◌≡◌, ℕ, zero, suc, ◌+◌, ◌<◌, ◌≤◌, All, Any, List, [], ◌∷◌, ◌++◌, inl, inr, length, drop, drop_at, get_or, refl, sym, ap, ◌∙◌, subst, arith, append-nil, append_assoc}
use Rattle.std.proofs.lemmas.Bool.{cases_lt}
use Rattle.bucket_terms.specs.declared.reply.Placed.{Placed}
use Rattle.bucket_terms.specs.PassView.{Extends}
use Rattle.bucket_terms.specs.LegalRun.{RequestLine, Run, IsLegal, AreAnswered, IsMadeBy, answered_lines, lines_of, replies_of}
use Rattle.request_lines.specs.SessionLaws.{IsAskable, Rise}
use Rattle.begun_runs.specs.Begun.{AreFirst, GoesOn, BegunRunLaw}
use Rattle.begun_runs.proofs.Growing.{within, Begun, Lengthens, Advances, one_more}

-- ---- longer lists

extends_refl : {X : Type 0} (xs : List X) → Extends xs xs
extends_refl xs = ([], sym (append-nil xs))

extends_trans : {X : Type 0} (xs ys zs : List X) → Extends xs ys → Extends ys zs → Extends xs zs
extends_trans {X} xs ys zs h k = (h.0 ++ k.0, k.1 ∙ ap (λ (l : List X). l ++ k.0) h.1 ∙ append_assoc xs h.0 k.0)

-- ---- the lines that are left

module _ (dir : List (List ℕ)) (n : ℕ) (slots : ℕ → ℕ) (lines : ℕ → List RequestLine)
    (rising : (c : ℕ) → c < n → Rise (lines c)) (askable : (c : ℕ) → c < n → All (IsAskable dir) (lines c)) where
  same_run : (b : Begun dir n slots lines) → Lengthens b b
  same_run b = record { updates = extends_refl b.updates; replies = λ c below. extends_refl (b.replies c) }

  later_run : (a b d : Begun dir n slots lines) → Lengthens a b → Lengthens b d → Lengthens a d
  later_run a b d h k = record {
    updates = extends_trans a.updates b.updates d.updates h.updates k.updates;
    replies = λ c below. extends_trans (a.replies c) (b.replies c) (d.replies c) (h.replies c below) (k.replies c below);
  }

  -- those of one client
  one_client : (c : ℕ) → c < n → (rest : List RequestLine) (b : Begun dir n slots lines) → b.left c ≡ rest → (late : Begun dir n slots lines) × Advances b late c []
  one_client c below [] b here = (b, record { longer = same_run b; left = here; others = λ e apart. refl })
  one_client c below (l ∷ rest) b here =
      let first = one_more dir n slots lines b c below l rest here (rising c below) (askable c below) in
      let last = one_client c below rest first.0 first.1.left in (
        last.0,
        record {
          longer = later_run b first.0 last.0 first.1.longer last.1.longer;
          left = last.1.left;
          others = λ e apart. last.1.others e apart ∙ first.1.others e apart;
        },
      )

  -- those of the first clients
  first_clients : (k : ℕ) → k ≤ n → (b : Begun dir n slots lines)
      → (late : Begun dir n slots lines) × (Lengthens b late × ((e : ℕ) → e < k → late.left e ≡ []))
  first_clients zero le b = (b, (same_run b, λ e low. absurd (omega (arith, low))))
  first_clients (suc k) le b =
      let before = first_clients k (omega arith) b in
      let last = one_client k (omega arith) (before.0.left k) before.0 refl in (
        last.0,
        (
          later_run b before.0 last.0 before.1.0 last.1.longer,
          λ e low.
              elim (cases_lt e k) [
                | inl under ↦ last.1.others e (λ same. omega (arith, under, same)) ∙ before.1.1 e under
                | inr from ↦
                    let same : k ≡ e = omega arith in
                    subst (λ (c : ℕ). last.0.left c ≡ []) same last.1.left
              ],
        ),
      )

  -- ---- the whole run

  ended : (b : Begun dir n slots lines) → (late : Begun dir n slots lines) × (Lengthens b late × ((e : ℕ) → e < n → late.done e ≡ lines e))
  ended b =
      let late = first_clients n (omega arith) b in (
        late.0,
        (
          late.1.0,
          λ e low.
              sym (append-nil (late.0.done e)) ∙ ap (λ (ls : List RequestLine). late.0.done e ++ ls) (sym (late.1.1 e low)) ∙ late.0.parts e low,
        ),
      )

-- the lists of the first clients
abbrev listed : {X : Type 0} → (ℕ → X) → ℕ → List X
listed f zero = []
listed f (suc n) = f 0 ∷ listed (λ k. f (suc k)) n

length_listed : {X : Type 0} (f : ℕ → X) (n : ℕ) → length (listed f n) ≡ n
length_listed f zero = refl
length_listed f (suc n) = ap suc (length_listed (λ k. f (suc k)) n)

at_listed : {X : Type 0} (f : ℕ → X) (n k : ℕ) (d : X) → k < n → get_or (listed f n) k d ≡ f k
at_listed f zero k d low = absurd (omega arith)
at_listed f (suc n) zero d low = refl
at_listed f (suc n) (suc k) d low = at_listed (λ j. f (suc j)) n k d (omega arith)

-- the begun run as it stands
abbrev started : (dir : List (List ℕ)) (first parts : List (List RequestLine)) (slots : ℕ → ℕ) (begun : Run) → AreFirst first parts → IsLegal dir first slots begun
    → Begun dir (length parts) slots (lines_of parts)
started dir first parts slots begun are legal = record {
  done = lines_of first;
  left = λ c. drop (length (lines_of first c)) (lines_of parts c);
  updates = begun.updates;
  replies = replies_of begun;
  parts = λ c below.
      let more = are.each c below in
      ap (λ (ls : List RequestLine). lines_of first c ++ ls)
      (ap (λ (ls : List RequestLine). drop (length (lines_of first c)) ls) more.1 ∙ drop_at (lines_of first c) more.0 (length (lines_of first c)) refl)
      ∙ sym more.1;
  answered = λ c below. let same = are.clients in legal.answered c (omega arith);
  made = λ i u here.
      let made = legal.made i u here in
      let same = are.clients in
      let low : u.client < length first = made.0 in
      (omega arith, made.1);
}

-- the lists of a run that was ended
module _ (dir : List (List ℕ)) (parts : List (List RequestLine)) (slots : ℕ → ℕ) (late : Begun dir (length parts) slots (lines_of parts))
    (done : (c : ℕ) → c < length parts → late.done c ≡ lines_of parts c) where
  abbrev whole : Run
  whole = record { updates = late.updates; replies = listed late.replies (length parts) }

  replies_are : (c : ℕ) → c < length parts → late.replies c ≡ replies_of whole c
  replies_are c below = sym (at_listed late.replies (length parts) c [] below)

  legal_whole : IsLegal dir parts slots whole
  legal_whole = record {
    clients = length_listed late.replies (length parts);
    answered = λ c below.
        subst (λ (rs : List Placed). AreAnswered (within dir late.updates slots c) [] (lines_of parts c) rs) (replies_are c below)
        (subst (λ (ls : List RequestLine). AreAnswered (within dir late.updates slots c) [] ls (late.replies c)) (done c below) (late.answered c below));
    made = λ i u here.
        let made = late.made i u here in (
          made.0,
          subst (λ (rs : List Placed). Any (IsMadeBy dir u (i + 1)) (answered_lines (lines_of parts u.client) rs)) (replies_are u.client made.0)
              (subst (λ (ls : List RequestLine). Any (IsMadeBy dir u (i + 1)) (answered_lines ls (late.replies u.client))) (done u.client made.0) made.1),
        );
  }

  goes_on : (begun : Run) → length begun.replies ≡ length parts → Extends begun.updates late.updates
      → ((c : ℕ) → c < length parts → Extends (replies_of begun c) (late.replies c)) → GoesOn begun whole
  goes_on begun lists updates replies = record {
    updates = updates;
    clients = length_listed late.replies (length parts) ∙ sym lists;
    replies = λ c below.
        let low : c < length parts = omega (arith, below, lists) in
        subst (λ (rs : List Placed). Extends (replies_of begun c) rs) (replies_are c low) (replies c low);
  }

pub begun_run_law : BegunRunLaw
begun_run_law dir first parts slots begun are can legal =
    let late = ended dir (length parts) slots (lines_of parts) can.rising can.askable (started dir first parts slots begun are legal) in (
      whole dir parts slots late.0 late.1.1,
      (
        legal_whole dir parts slots late.0 late.1.1,
        goes_on dir parts slots late.0 late.1.1 begun (legal.clients ∙ sym are.clients) late.1.0.updates late.1.0.replies,
      ),
    )
