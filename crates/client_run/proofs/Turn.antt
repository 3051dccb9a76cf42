-- One turn of the loop over a client's lines.
use Rattle.std.proofs.Common.{◌≡◌, ℕ, zero, suc, ◌+◌, ◌-◌, ◌<◌, ◌≤◌, Bool, true, false, cond, if◌then◌else◌, All, List, [], ◌∷◌, ◌++◌, Option, Some, None, inl, inr, length, get_or, take, drop, map, refl, sym, ap, ◌∙◌, subst, arith}
use Rattle.std.specs.List.{slice_get, sum_by}
use Rattle.std.specs.Option.{option_map, option_and_then, ForSome}
use Rattle.std.proofs.lemmas.Option.{same_Some, none-some}
use Rattle.std.proofs.lemmas.Bool.{cases_Bool}
use Rattle.std.proofs.lemmas.List.{length-take-le, get_or-take, take_more, take-append-drop, get_or_default, drop_more, get_or-map, length-map, length_push}
use Rattle.std.proofs.lemmas.List.Elements.{All-head, All-tail, All-push}
use Rattle.std.proofs.lemmas.List.Sums.{sum_by-append, sum_by-cons}
use Rattle.bucket_terms.specs.declared.reply.Reply.{Reply}
use Rattle.bucket_terms.specs.declared.reply.Placed.{Placed}
use Rattle.bucket_terms.specs.PassView.{PassView, KnowsOwn}
use Rattle.bucket_terms.specs.LegalRun.{RequestLine, Answered, answered_lines, last_listing, is_listing, is_update}
use Rattle.bucket_terms.specs.RunParts.{updates_in}
use Rattle.bucket_terms.proofs.LastListing.{last_listing-yes, last_listing-no}
use Rattle.client_run.specs.ClientRun.{Answers, IsLaterLine}
use Rattle.request_lines.specs.declared.session.Asked.{Asked}
use Rattle.request_lines.specs.Session.{request_line}
use Rattle.request_lines.specs.SessionLaws.{Rise}
use Rattle.client_run.specs.Listing.{HasPageInRange}
use Rattle.client_run.proofs.Places.{slice_get-append_front, slice_get-append_back}
use Rattle.client_run.proofs.Growing.{Running, start, later_ran, answered_lines-push}
use Rattle.client_run.proofs.OneMore.{one_more}

-- the lines before a line are earlier
earlier_lines : (lines : List RequestLine) (i : ℕ) (d : RequestLine) → i < length lines → Rise lines
    → All (λ (m : RequestLine). m.line < (get_or lines i d).line) (take i lines)
earlier_lines lines i d below rising = λ k e within.
    let before : k < i = omega (arith, length-take-le i lines (omega arith)) in
    let same : get_or (take i lines) k e ≡ get_or lines k d = get_or-take i lines k e before ∙ get_or_default lines k e d (omega arith) in
    subst (λ (m : RequestLine). m.line < (get_or lines i d).line) (sym same) (rising k i d before below)

-- the next line is later than the own updates so far
pub later_at : (dir : List (List ℕ)) (lines : List RequestLine) (i : ℕ) (d : RequestLine) (old now : PassView) (replies : List Placed) → i < length lines
    → Running dir (take i lines) old now replies → All (λ (l : RequestLine). IsLaterLine old l.line) lines → Rise lines → IsLaterLine now (get_or lines i d).line
later_at dir lines i d old now replies below run later rising =
    later_ran dir (take i lines) old now replies (get_or lines i d).line run.ran (later i d below) (earlier_lines lines i d below rising)

-- a call is left for the next line, if it may make an update
pub call_at : (dir : List (List ℕ)) (lines : List RequestLine) (i : ℕ) (d : RequestLine) (old now : PassView) (replies : List Placed) → i < length lines
    → Running dir (take i lines) old now replies → updates_in lines ≤ old.left → updates_in (get_or lines i d ∷ []) ≤ now.left
call_at dir lines i d old now replies below run calls =
    let f : RequestLine → ℕ = λ (l : RequestLine). cond (is_update l.request) 1 0 in
    let whole : sum_by f lines ≡ sum_by f (take i lines) + sum_by f (drop i lines) = ap (sum_by f) (sym (take-append-drop i lines)) ∙ sum_by-append f (take i lines) (drop i lines) in
    let rest : sum_by f (drop i lines) ≡ f (get_or lines i d) + sum_by f (drop (i + 1) lines) = ap (sum_by f) (drop_more lines i d below) ∙ sum_by-cons f (get_or lines i d) (drop (i + 1) lines) in
    omega (arith, run.left, run.updates)

-- the run with the next line's answer
pub turn : (dir : List (List ℕ)) (lines : List RequestLine) (i : ℕ) (d : RequestLine) (old mid now : PassView) (replies : List Placed) (p : Placed) → i < length lines
    → Running dir (take i lines) old mid replies → All (λ (l : RequestLine). IsLaterLine old l.line) lines → Rise lines
    → Answers dir mid now (last_listing (answered_lines (take i lines) replies)) (record { asked = get_or lines i d; placed = p }) → HasPageInRange dir p.reply
    → Running dir (take (i + 1) lines) old now (replies ++ p ∷ [])
turn dir lines i d old mid now replies p below run later rising step in_range =
    subst (λ (ls : List RequestLine). Running dir ls old now (replies ++ p ∷ [])) (sym (take_more lines i d below))
    (one_more dir (take i lines) old mid now replies (get_or lines i d) p run step (later i d below) (earlier_lines lines i d below rising) in_range)

-- ---- the last listing

-- the reply at the place of the last listing, where there is one
abbrev pub reply_at : List Placed → Option ℕ → Option Reply
reply_at replies place = option_and_then (λ k. option_map (λ (p : Placed). p.reply) (slice_get replies k)) place

reply_at-push : (replies : List Placed) (p : Placed) (place : Option ℕ) → ForSome place (λ k. k < length replies) → reply_at (replies ++ p ∷ []) place ≡ reply_at replies place
reply_at-push replies p None within = refl
reply_at-push replies p (Some k) within = ap (λ (o : Option Placed). option_map (λ (q : Placed). q.reply) o) (slice_get-append_front replies (p ∷ []) k (within k refl))

reply_at-last : (replies : List Placed) (p : Placed) → reply_at (replies ++ p ∷ []) (Some (length replies)) ≡ Some p.reply
reply_at-last replies p =
    let z : length replies - length replies ≡ 0 = omega arith in
    ap (λ (o : Option Placed). option_map (λ (q : Placed). q.reply) o) (slice_get-append_back replies (p ∷ []) (length replies) (omega arith) ∙ ap (λ (n : ℕ). slice_get (p ∷ []) n) z)

-- the place of the last listing after one more answer
pub last_turn : (lines : List RequestLine) (i : ℕ) (d : RequestLine) (replies : List Placed) (p : Placed) (last : Option ℕ) → i < length lines → length (take i lines) ≡ length replies
    → reply_at replies last ≡ last_listing (answered_lines (take i lines) replies) → ForSome last (λ k. k < length replies)
    → reply_at (replies ++ p ∷ []) (if is_listing (get_or lines i d).request then Some (length replies) else last)
    ≡ last_listing (answered_lines (take (i + 1) lines) (replies ++ p ∷ []))
last_turn lines i d replies p last below same here within =
    let l = get_or lines i d in
    let a : Answered = record { asked = l; placed = p } in
    let longer : answered_lines (take (i + 1) lines) (replies ++ p ∷ []) ≡ answered_lines (take i lines) replies ++ a ∷ [] =
    ap (λ (ls : List RequestLine). answered_lines ls (replies ++ p ∷ [])) (take_more lines i d below) ∙ answered_lines-push (take i lines) replies l p same in
    elim (cases_Bool (is_listing l.request)) [
      | inl listing ↦ rw (listing, longer) (reply_at-last replies p ∙ sym (last_listing-yes (answered_lines (take i lines) replies) a listing))
      | inr other ↦ rw (other, longer) (reply_at-push replies p last within ∙ here ∙ sym (last_listing-no (answered_lines (take i lines) replies) a other))
    ]

pub place_turn : (listing : Bool) (n m : ℕ) (last : Option ℕ) → m ≡ n + 1 → ForSome last (λ k. k < n) → ForSome (if listing then Some n else last) (λ k. k < m)
place_turn true n m last e within = λ k same. let here = same_Some n k same in omega arith
place_turn false n m last e within = λ k same. let here = within k same in omega arith

-- ---- the loop

-- the lines so far were answered, and `last` is the place of the last listing among the replies
pub record IsTurn (dir : List (List ℕ)) (lines : List RequestLine) (old now : PassView) (replies : List Placed) (last : Option ℕ) : Type 0 where
  pub running : Running dir lines old now replies
  pub listing : reply_at replies last ≡ last_listing (answered_lines lines replies)
  pub place : ForSome last (λ k. k < length replies)
  pub in_range : All (λ (p : Placed). HasPageInRange dir p.reply) replies

pub first_turn : (dir : List (List ℕ)) (old : PassView) → KnowsOwn old → old.opened ≡ None → IsTurn dir [] old old [] None
first_turn dir old knows closed = record {
  running = start dir old knows closed;
  listing = refl;
  place = λ k e. absurd (none-some k e);
  in_range = λ k d below. absurd (omega arith);
}

-- the next line was answered too
pub next_turn : (dir : List (List ℕ)) (lines : List RequestLine) (i : ℕ) (d : RequestLine) (old mid now : PassView) (replies : List Placed) (p : Placed) (last later : Option ℕ) → i < length lines
    → IsTurn dir (take i lines) old mid replies last → All (λ (l : RequestLine). IsLaterLine old l.line) lines → Rise lines
    → Answers dir mid now (last_listing (answered_lines (take i lines) replies)) (record { asked = get_or lines i d; placed = p }) → HasPageInRange dir p.reply
    → later ≡ (if is_listing (get_or lines i d).request then Some (length replies) else last)
    → IsTurn dir (take (i + 1) lines) old now (replies ++ p ∷ []) later
next_turn dir lines i d old mid now replies p last later below before rise_old rising answered in_range later_is = record {
  running = turn dir lines i d old mid now replies p below before.running rise_old rising answered in_range;
  listing = ap (λ (o : Option ℕ). reply_at (replies ++ p ∷ []) o) later_is ∙ last_turn lines i d replies p last below before.running.same_length before.listing before.place;
  place = subst (λ (o : Option ℕ). ForSome o (λ k. k < length (replies ++ p ∷ []))) (sym later_is)
      (place_turn (is_listing (get_or lines i d).request) (length replies) (length (replies ++ p ∷ [])) last (length_push replies p) before.place);
  in_range = All-push (λ (q : Placed). HasPageInRange dir q.reply) replies p before.in_range in_range;
}

-- the reply of the last listing has its page in range, as each reply has
module _ (dir : List (List ℕ)) where
  reply_in_range : (replies : List Placed) (k : ℕ) (x : Reply) → All (λ (p : Placed). HasPageInRange dir p.reply) replies
      → option_map (λ (p : Placed). p.reply) (slice_get replies k) ≡ Some x → HasPageInRange dir x
  reply_in_range [] k x all is = absurd (none-some x is)
  reply_in_range (p ∷ replies) zero x all is = subst (HasPageInRange dir) (same_Some p.reply x is) (All-head (λ (q : Placed). HasPageInRange dir q.reply) p replies all)
  reply_in_range (p ∷ replies) (suc k) x all is = reply_in_range replies k x (All-tail (λ (q : Placed). HasPageInRange dir q.reply) p replies all) is

  pub last_in_range : (replies : List Placed) (last : Option ℕ) → All (λ (p : Placed). HasPageInRange dir p.reply) replies → ForSome (reply_at replies last) (HasPageInRange dir)
  last_in_range replies None all = λ x is. absurd (none-some x is)
  last_in_range replies (Some k) all = λ x is. reply_in_range replies k x all is

-- the line that this turn answers
pub line_here : (asked : List Asked) (shown : List Asked) (i : ℕ) (d : Asked) → shown ≡ asked → i < length shown → d ≡ get_or shown i d
    → (i < length (map request_line asked)) × (get_or (map request_line asked) i (request_line d) ≡ request_line d)
line_here asked shown i d same below is =
    let within : i < length asked = omega (arith, ap length same) in (
      omega (arith, length-map asked request_line),
      get_or-map request_line asked i d (request_line d) within ∙ ap request_line (ap (λ (xs : List Asked). get_or xs i d) (sym same) ∙ sym is),
    )
