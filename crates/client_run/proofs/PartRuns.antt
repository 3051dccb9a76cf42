-- Parts that follow one another are a run of all their lines.
use Rattle.std.proofs.Common.{◌≡◌, ℕ, suc, ◌+◌, ◌*◌, ◌-◌, ◌<◌, ◌≤◌, cond, All, None, List, [], ◌∷◌, ◌++◌, length, get_or, take, drop, refl, sym, ap, ◌∙◌, subst, arith, append-nil, append_assoc, take-add}
use Rattle.std.specs.List.{count_by}
use Rattle.std.proofs.lemmas.List.{take_all, length-append, length-take, get_or-take, get_or_append_left, get_or-append-add}
use Rattle.std.proofs.lemmas.List.Sums.{sum_by-cons}
use Rattle.bucket_terms.specs.declared.reply.Placed.{Placed}
use Rattle.bucket_terms.specs.PassView.{PassView}
use Rattle.bucket_terms.specs.LegalRun.{RequestLine, Answered, answered_lines, last_listing, is_update}
use Rattle.request_lines.specs.SessionLaws.{Rise}
use Rattle.client_run.specs.ClientRun.{AnswersInTurn, IsLaterLine, RanClient, setting}
use Rattle.client_run.specs.Listing.{HasPageInRange}
use Rattle.client_run.specs.Parts.{Kept, WentOn, BeforePartsLaw, NextPartLaw}
use Rattle.client_run.proofs.Growing.{Running, start, answered_lines-push, answered_length, answered_upto}
use Rattle.client_run.proofs.OneMore.{one_more}

-- the lines before a line of a rising list are earlier
lines_before : (lines : List RequestLine) (l : RequestLine) (rest : List RequestLine) → Rise (lines ++ l ∷ rest) → All (λ (m : RequestLine). m.line < l.line) lines
lines_before lines l rest rising = λ k d below.
    let inside : length lines < length (lines ++ l ∷ rest) = omega (arith, length-append lines (l ∷ rest)) in
    let rises : (get_or (lines ++ l ∷ rest) k d).line < (get_or (lines ++ l ∷ rest) (length lines) d).line = rising k (length lines) d below inside in
    let first = ap (λ (m : RequestLine). m.line) (get_or_append_left lines (l ∷ rest) d k below) in
    let last = ap (λ (m : RequestLine). m.line) (at_seam lines d) in
    omega arith
  where
    at_seam : (front : List RequestLine) (d : RequestLine) → get_or (front ++ l ∷ rest) (length front) d ≡ l
    at_seam [] d = refl
    at_seam (m ∷ front) d = at_seam front d

-- lines that are answered in turn after those of a run
ran_on : (dir : List (List ℕ)) (lines rest : List RequestLine) (old mid now : PassView) (replies more : List Placed) → Running dir lines old mid replies
    → All (λ (l : RequestLine). IsLaterLine old l.line) rest → Rise (lines ++ rest) → AnswersInTurn dir (answered_lines lines replies) mid now rest more
    → All (λ (p : Placed). HasPageInRange dir p.reply) more → Running dir (lines ++ rest) old now (replies ++ more)
ran_on dir lines [] old mid now replies [] run later rising same fine =
    subst (λ (v : PassView). Running dir (lines ++ []) old v (replies ++ [])) (sym same)
    (subst (λ (ls : List RequestLine). Running dir ls old mid (replies ++ [])) (sym (append-nil lines))
    (subst (λ (rs : List Placed). Running dir lines old mid rs) (sym (append-nil replies)) run))
ran_on dir lines [] old mid now replies (p ∷ more) run later rising none fine = absurd none
ran_on dir lines (l ∷ rest) old mid now replies [] run later rising none fine = absurd none
ran_on dir lines (l ∷ rest) old mid now replies (p ∷ more) run later rising (between, step, on) fine =
    let longer = one_more dir lines old mid between replies l p run step (later 0 l (omega arith)) (lines_before lines l rest rising) (fine 0 p (omega arith)) in
    let all = ran_on dir (lines ++ l ∷ []) rest old between now (replies ++ p ∷ []) more longer (λ k d below. later (suc k) d (omega arith))
    (subst Rise (sym (append_assoc lines (l ∷ []) rest)) rising)
    (subst (λ (done : List Answered). AnswersInTurn dir done between now rest more) (sym (answered_lines-push lines replies l p run.same_length)) on)
    (λ k d below. fine (suc k) d (omega arith)) in
    subst (λ (ls : List RequestLine). Running dir ls old now (replies ++ p ∷ more)) (append_assoc lines (l ∷ []) rest)
    (subst (λ (rs : List Placed). Running dir ((lines ++ l ∷ []) ++ rest) old now rs) (append_assoc replies (p ∷ []) more) all)

-- ---- what the pass has left after a run

pub record Counted (lines : List RequestLine) (old now : PassView) : Type 0 where
  pub nodes : old.nodes + length old.mine ≤ now.nodes + length now.mine
  pub entries : old.entries + 4 * length old.mine ≤ now.entries + 4 * length now.mine
  pub left : now.left + length now.mine ≡ old.left + length old.mine
  pub updates : length now.mine ≤ length old.mine + count_by (λ (l : RequestLine). is_update l.request) lines

counted : (dir : List (List ℕ)) (earlier : List Answered) (lines : List RequestLine) (old now : PassView) (replies : List Placed)
    → AnswersInTurn dir earlier old now lines replies → Counted lines old now
counted dir earlier [] old now [] same =
    subst (λ (v : PassView). Counted [] old v) (sym same) (record { nodes = omega arith; entries = omega arith; left = refl; updates = omega arith })
counted dir earlier [] old now (p ∷ replies) none = absurd none
counted dir earlier (l ∷ lines) old now [] none = absurd none
counted dir earlier (l ∷ lines) old now (p ∷ replies) (between, step, on) =
    let rest = counted dir (earlier ++ record { asked = l; placed = p } ∷ []) lines between now replies on in
    record {
      nodes = omega (arith, step.nodes, rest.nodes);
      entries = omega (arith, step.entries, rest.entries);
      left = omega (arith, step.left, rest.left);
      updates = omega (arith, step.updates, rest.updates, sum_by-cons (λ (m : RequestLine). cond (is_update m.request) 1 0) l lines);
    }

running : (dir : List (List ℕ)) (lines : List RequestLine) (old now : PassView) (replies : List Placed) → RanClient dir lines old now replies → Running dir lines old now replies
running dir lines old now replies ran =
    let s = setting dir now (length old.mine + 0) in
    let answered = ran.answered 0 (omega arith) (omega arith) in
    let counts = counted dir [] lines old now replies ran.in_turn in
    record {
      ran = ran;
      knows = ran.continues.mine;
      same_length = answered_length s [] lines replies answered;
      nodes = counts.nodes;
      entries = counts.entries;
      left = counts.left;
      updates = counts.updates;
      upto = answered_upto s [] lines replies answered;
    }

-- ---- parts

answered_lines-append : (lines rest : List RequestLine) (replies more : List Placed) → length lines ≡ length replies
    → answered_lines (lines ++ rest) (replies ++ more) ≡ answered_lines lines replies ++ answered_lines rest more
answered_lines-append [] rest [] more same = refl
answered_lines-append [] rest (p ∷ replies) more same = absurd (omega arith)
answered_lines-append (l ∷ lines) rest [] more same = absurd (omega arith)
answered_lines-append (l ∷ lines) rest (p ∷ replies) more same =
    ap (λ (done : List Answered). record { asked = l; placed = p } ∷ done) (answered_lines-append lines rest replies more (omega arith))

rise_take : (n : ℕ) (lines : List RequestLine) → Rise lines → Rise (take n lines)
rise_take n lines rising = λ i j d less below.
    let few = length-take n lines in
    let first = ap (λ (l : RequestLine). l.line) (get_or-take n lines i d (omega arith)) in
    let second = ap (λ (l : RequestLine). l.line) (get_or-take n lines j d (omega arith)) in
    let rises : (get_or lines i d).line < (get_or lines j d).line = rising i j d less (omega arith) in
    omega arith

all_back : (P : RequestLine → Type 0) (n : ℕ) (lines front back : List RequestLine) → take n lines ≡ front ++ back → All P lines → All P back
all_back P n lines front back parts all = λ k d below.
    let few = length-take n lines in
    let long = ap (λ (ls : List RequestLine). length ls) parts in
    let both = length-append front back in
    let here : get_or lines (length front + k) d ≡ get_or back k d =
    sym (get_or-take n lines (length front + k) d (omega arith)) ∙ ap (λ (ls : List RequestLine). get_or ls (length front + k) d) parts ∙ get_or-append-add front back k d in
    subst P here (all (length front + k) d (omega arith))

pub before_parts : BeforePartsLaw
before_parts dir lines old knows closed = record { within = omega arith; ran = (start dir old knows closed).ran; last = refl }

pub next_part : NextPartLaw
next_part kept next lines most old mid now replies more rising later so_far went =
    let front = take kept.done lines in
    let back = take (next.done - kept.done) (drop kept.done lines) in
    let within = went.next.within in
    let grew : kept.done + (next.done - kept.done) ≡ next.done = omega (arith, went.done, so_far.within) in
    let parts : take next.done lines ≡ front ++ back = ap (λ (n : ℕ). take n lines) (sym grew) ∙ take-add kept.done (next.done - kept.done) lines in
    let run = running kept.dir front old mid replies so_far.ran in
    let both = ran_on kept.dir front back old mid now replies more run (all_back (λ (l : RequestLine). IsLaterLine old l.line) next.done lines front back parts later)
    (subst Rise parts (rise_take next.done lines rising)) (went.in_turn (answered_lines front replies) so_far.last) went.in_range in
    record {
      within = within;
      ran = subst (λ (names : List (List ℕ)). RanClient names (take next.done lines) old now (replies ++ more)) (sym went.dir)
          (subst (λ (ls : List RequestLine). RanClient kept.dir ls old now (replies ++ more)) (sym parts) both.ran);
      last = ap (λ (ls : List RequestLine). last_listing (answered_lines ls (replies ++ more))) parts
          ∙ ap last_listing (answered_lines-append front back replies more run.same_length)
          ∙ went.last (answered_lines front replies) so_far.last;
    }

-- one part that has all lines
pub whole_run : (dir : List (List ℕ)) (lines : List RequestLine) (old now : PassView) (replies : List Placed) (first last : Kept) (most : ℕ) → first ≡ record { dir = dir; done = 0; last = None }
    → length lines ≤ most → WentOn first last lines most old now replies → old.opened ≡ None → All (λ (l : RequestLine). IsLaterLine old l.line) lines → Rise lines
    → RanClient dir lines old now replies
whole_run dir lines old now replies first last most at_first all went closed later rising =
    let begun : Kept = record { dir = dir; done = 0; last = None } in
    let on = subst (λ (k : Kept). WentOn k last lines most old now replies) at_first went in
    let so_far = next_part begun last lines most old old now [] replies rising later (before_parts dir lines old on.knew closed) on in
    subst (λ (names : List (List ℕ)). RanClient names lines old now replies) on.dir
    (subst (λ (ls : List RequestLine). RanClient last.dir ls old now replies) (take_all last.done lines (omega (arith, all, on.done))) so_far.ran)
