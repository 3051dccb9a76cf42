-- A part of a client's lines, one answer longer.
use Rattle.std.proofs.Common.{◌≡◌, ℕ, suc, ◌+◌, ◌-◌, ◌<◌, ◌≤◌, Bool, true, false, cond, if◌then◌else◌, min, All, List, [], ◌∷◌, ◌++◌, Option, Some, None, inl, inr, length, get_or, take, drop, map, refl, sym, ap, ◌∙◌, subst, arith, append-nil, append_assoc}
use Rattle.std.specs.List.{slice_get, sum_by}
use Rattle.std.specs.Option.{option_map, ForSome}
use Rattle.std.proofs.lemmas.Bool.{cases_lt}
use Rattle.std.proofs.lemmas.Option.{same_Some, none-some, slice_get-get_or}
use Rattle.std.proofs.lemmas.List.{drop-drop, length-take, length-take-le, length-drop, take_more, drop_more, get_or-drop, get_or-take, get_or_append_left, get_or-map, length-map, length_push}
use Rattle.std.proofs.lemmas.List.Elements.{All-head, All-tail, All-push}
use Rattle.std.proofs.lemmas.List.Sums.{sum_by-cons}
use Rattle.bucket_terms.specs.declared.reply.Reply.{Reply}
use Rattle.bucket_terms.specs.declared.reply.Placed.{Placed}
use Rattle.bucket_terms.specs.PassView.{PassView, Continues, KnowsOwn}
use Rattle.bucket_terms.specs.LegalRun.{RequestLine, Answered, answered_lines, last_listing, is_listing, is_update}
use Rattle.bucket_terms.proofs.LastListing.{last_listing-push}
use Rattle.bucket_terms.specs.RunParts.{updates_in}
use Rattle.request_lines.specs.declared.session.Asked.{Asked}
use Rattle.request_lines.specs.Session.{request_line}
use Rattle.request_lines.specs.SessionLaws.{IsAskable}
use Rattle.client_run.specs.ClientRun.{Answers, AnswersInTurn}
use Rattle.client_run.specs.Listing.{HasPageInRange}
use Rattle.client_run.specs.Parts.{Kept, CanAnswer, WentOn, last_by}
use Rattle.client_run.proofs.Places.{slice_get-append_front, slice_get-append_back}
use Rattle.client_run.proofs.Growing.{answered_lines-push}
use Rattle.client_run.proofs.OneMore.{Continues-trans, in_turn_more}
use Rattle.client_run.proofs.Turn.{place_turn}

-- ---- the lines that are left

listing_in_range : (dir : List (List ℕ)) (listing : Bool) (reply : Reply) (last : Option Reply) → HasPageInRange dir reply → ForSome last (HasPageInRange dir)
    → ForSome (if listing then Some reply else last) (HasPageInRange dir)
listing_in_range dir true reply last fine before = λ x is. subst (HasPageInRange dir) (same_Some reply x is) fine
listing_in_range dir false reply last fine before = before

-- after the first of the lines was answered, the others can be
can_next : (dir : List (List ℕ)) (last : Option Reply) (l : RequestLine) (rest : List RequestLine) (mid now : PassView) (p : Placed)
    → CanAnswer dir last (l ∷ rest) mid → Answers dir mid now last (record { asked = l; placed = p }) → HasPageInRange dir p.reply
    → CanAnswer dir (if is_listing l.request then Some p.reply else last) rest now
can_next dir last l rest mid now p can step fine = record {
  closed = step.closed;
  askable = All-tail (IsAskable dir) l rest can.askable;
  calls = omega (arith, can.calls, step.left, step.updates, sum_by-cons (λ (m : RequestLine). cond (is_update m.request) 1 0) l rest);
  rising = λ i j d less below. can.rising (suc i) (suc j) d (omega arith) (omega arith);
  later = λ k d below j e inner own.
      let mine = own ∙ step.continues.number in
      elim (cases_lt j (length mid.seen)) [
        | inl front ↦
            let same : get_or now.seen j e ≡ get_or mid.seen j e =
            ap (λ us. get_or us j e) step.continues.seen.1 ∙ get_or_append_left mid.seen step.continues.seen.0 e j front in
            let before : (get_or mid.seen j e).line < (get_or rest k d).line = can.later (suc k) d (omega arith) j e front (sym (ap (λ u. u.client) same) ∙ mine) in
            let line : (get_or now.seen j e).line ≡ (get_or mid.seen j e).line = ap (λ u. u.line) same in
            omega arith
        | inr back ↦
            let made = step.made j (get_or now.seen j e) back (slice_get-get_or now.seen j e inner) mine in
            let rises : l.line < (get_or rest k d).line = can.rising 0 (suc k) d (omega arith) (omega arith) in
            let line : l.line ≡ (get_or now.seen j e).line = made.line in
            omega arith
      ];
  in_range = listing_in_range dir (is_listing l.request) p.reply last fine can.in_range;
}

-- ---- the loop

-- the first `i` of the lines that were left were answered, and `place` is that of the last listing among the replies
pub record IsWalk (dir : List (List ℕ)) (last : Option Reply) (left : List RequestLine) (i : ℕ) (old now : PassView) (replies : List Placed) (place : Option ℕ) : Type 0 where
  pub in_turn : (earlier : List Answered) → last_listing earlier ≡ last → AnswersInTurn dir earlier old now (take i left) replies
  pub listing : (earlier : List Answered) → last_listing earlier ≡ last → last_listing (earlier ++ answered_lines (take i left) replies) ≡ last_by replies place last
  pub can : CanAnswer dir (last_by replies place last) (drop i left) now
  pub answered : length replies ≡ i
  pub known : ForSome place (λ k. k < length replies)
  pub continues : Continues old now
  pub in_range : All (λ (p : Placed). HasPageInRange dir p.reply) replies

pub first_walk : (dir : List (List ℕ)) (last : Option Reply) (left : List RequestLine) (old : PassView) → KnowsOwn old → CanAnswer dir last left old → IsWalk dir last left 0 old old [] None
first_walk dir last left old knows can = record {
  in_turn = λ earlier is. refl;
  listing = λ earlier is. ap last_listing (append-nil earlier) ∙ is;
  can = can;
  answered = refl;
  known = λ k e. absurd (none-some k e);
  continues = record { number = refl; seen = ([], sym (append-nil old.seen)); mine = knows; looks = omega arith };
  in_range = λ k d below. absurd (omega arith);
}

-- the reply of the last listing, after one more answer
last_by-push : (replies : List Placed) (p : Placed) (listing : Bool) (place : Option ℕ) (last : Option Reply) → ForSome place (λ k. k < length replies)
    → last_by (replies ++ p ∷ []) (if listing then Some (length replies) else place) last ≡ (if listing then Some p.reply else last_by replies place last)
last_by-push replies p true place last within =
    let first : length replies - length replies ≡ 0 = omega arith in
    ap (λ (o : Option Placed). option_map (λ (q : Placed). q.reply) o)
    (slice_get-append_back replies (p ∷ []) (length replies) (omega arith) ∙ ap (λ (n : ℕ). slice_get (p ∷ []) n) first)
last_by-push replies p false None last within = refl
last_by-push replies p false (Some k) last within =
    ap (λ (o : Option Placed). option_map (λ (q : Placed). q.reply) o) (slice_get-append_front replies (p ∷ []) k (within k refl))

module _ (dir : List (List ℕ)) (last : Option Reply) (left : List RequestLine) (i : ℕ) (d : RequestLine) (old mid now : PassView) (replies : List Placed) (p : Placed) (place later : Option ℕ)
    (below : i < length left) (w : IsWalk dir last left i old mid replies place)
    (step : Answers dir mid now (last_by replies place last) (record { asked = get_or left i d; placed = p })) (fine : HasPageInRange dir p.reply)
    (later_is : later ≡ (if is_listing (get_or left i d).request then Some (length replies) else place)) where
  abbrev l : RequestLine
  l = get_or left i d

  abbrev current : Option Reply
  current = last_by replies place last

  current_now : last_by (replies ++ p ∷ []) later last ≡ (if is_listing l.request then Some p.reply else current)
  current_now = ap (λ (o : Option ℕ). last_by (replies ++ p ∷ []) o last) later_is ∙ last_by-push replies p (is_listing l.request) place last w.known

  more : take (i + 1) left ≡ take i left ++ l ∷ []
  more = take_more left i d below

  together : answered_lines (take (i + 1) left) (replies ++ p ∷ []) ≡ answered_lines (take i left) replies ++ record { asked = l; placed = p } ∷ []
  together =
      let long = w.answered in
      let same : length (take i left) ≡ length replies = omega (arith, length-take-le i left (omega arith)) in
      ap (λ (ls : List RequestLine). answered_lines ls (replies ++ p ∷ [])) more ∙ answered_lines-push (take i left) replies l p same

  in_turn_now : (earlier : List Answered) → last_listing earlier ≡ last → AnswersInTurn dir earlier old now (take (i + 1) left) (replies ++ p ∷ [])
  in_turn_now earlier is =
      subst (λ (ls : List RequestLine). AnswersInTurn dir earlier old now ls (replies ++ p ∷ [])) (sym more)
      (in_turn_more dir earlier old mid now (take i left) replies l p (w.in_turn earlier is)
      (subst (λ (o : Option Reply). Answers dir mid now o (record { asked = l; placed = p })) (sym (w.listing earlier is)) step))

  listing_now : (earlier : List Answered) → last_listing earlier ≡ last
      → last_listing (earlier ++ answered_lines (take (i + 1) left) (replies ++ p ∷ [])) ≡ last_by (replies ++ p ∷ []) later last
  listing_now earlier is =
      let a : Answered = record { asked = l; placed = p } in
      let done = answered_lines (take i left) replies in
      ap (λ (xs : List Answered). last_listing (earlier ++ xs)) together
      ∙ ap last_listing (sym (append_assoc earlier done (a ∷ [])))
      ∙ last_listing-push (earlier ++ done) a
      ∙ ap (λ (o : Option Reply). if is_listing l.request then Some p.reply else o) (w.listing earlier is)
      ∙ sym current_now

  can_now : CanAnswer dir (last_by (replies ++ p ∷ []) later last) (drop (i + 1) left) now
  can_now =
      subst (λ (o : Option Reply). CanAnswer dir o (drop (i + 1) left) now) (sym current_now)
      (can_next dir current l (drop (i + 1) left) mid now p (subst (λ (ls : List RequestLine). CanAnswer dir current ls mid) (drop_more left i d below) w.can) step fine)

  pub next_walk : IsWalk dir last left (i + 1) old now (replies ++ p ∷ []) later
  next_walk = record {
    in_turn = in_turn_now;
    listing = listing_now;
    can = can_now;
    answered = omega (arith, length_push replies p, w.answered);
    known = subst (λ (o : Option ℕ). ForSome o (λ k. k < length (replies ++ p ∷ []))) (sym later_is)
        (place_turn (is_listing l.request) (length replies) (length (replies ++ p ∷ [])) place (length_push replies p) w.known);
    continues = Continues-trans old mid now w.continues step.continues;
    in_range = All-push (λ (q : Placed). HasPageInRange dir q.reply) replies p w.in_range fine;
  }

-- the line that a turn of the loop answers
pub line_in : (requests next : List Asked) (done n i : ℕ) (d : Asked) → next ≡ take n (drop done requests) → i < length next → d ≡ get_or next i d
    → (i < length (drop done (map request_line requests))) × (get_or (drop done (map request_line requests)) i (request_line d) ≡ request_line d)
line_in requests next done n i d is below here =
    let long : length next ≡ length (take n (drop done requests)) = ap length is in
    let few = length-take n (drop done requests) in
    let front : i < n = omega (arith, long, few) in
    let rest = length-drop done requests in
    let within : done + i < length requests = omega (arith, long, few, rest) in
    let at : get_or (map request_line requests) (done + i) (request_line d) ≡ request_line (get_or requests (done + i) d) = get_or-map request_line requests (done + i) d (request_line d) within in
    let found : d ≡ get_or requests (done + i) d =
    here ∙ ap (λ (xs : List Asked). get_or xs i d) is ∙ get_or-take n (drop done requests) i d front ∙ get_or-drop done requests i d in (
      omega (arith, within, length-drop done (map request_line requests), length-map requests request_line),
      get_or-drop done (map request_line requests) i (request_line d) ∙ at ∙ ap request_line (sym found),
    )

-- what is known of the lines that are left is known of the next one
pub next_line : (P : RequestLine → Type 0) (left : List RequestLine) (i : ℕ) (d : RequestLine) → i < length left → All P (drop i left) → P (get_or left i d)
next_line P left i d below all = All-head P (get_or left i d) (drop (i + 1) left) (subst (All P) (drop_more left i d below) all)

pub next_call : (left : List RequestLine) (i n : ℕ) (d : RequestLine) → i < length left → updates_in (drop i left) ≤ n → updates_in (get_or left i d ∷ []) ≤ n
next_call left i n d below calls =
    let f : RequestLine → ℕ = λ (l : RequestLine). cond (is_update l.request) 1 0 in
    let rest : sum_by f (drop i left) ≡ f (get_or left i d) + sum_by f (drop (i + 1) left) = ap (sum_by f) (drop_more left i d below) ∙ sum_by-cons f (get_or left i d) (drop (i + 1) left) in
    omega (arith, calls)

-- the part as a whole
pub went : (old new : Kept) (lines : List RequestLine) (most i : ℕ) (before now : PassView) (replies : List Placed) (place : Option ℕ) → KnowsOwn before → old.done ≤ length lines
    → IsWalk old.dir old.last (drop old.done lines) i before now replies place → new.dir ≡ old.dir → new.done ≡ old.done + i → new.last ≡ last_by replies place old.last
    → i ≡ min (length (drop old.done lines)) most → WentOn old new lines most before now replies
went old new lines most i before now replies place knows within w dir_is done_is last_is all =
    let rest = length-drop old.done lines in
    let count : i ≡ new.done - old.done = omega arith in
    record {
      knew = knows;
      dir = dir_is;
      done = omega arith;
      in_turn = λ earlier is. subst (λ (n : ℕ). AnswersInTurn old.dir earlier before now (take n (drop old.done lines)) replies) count (w.in_turn earlier is);
      last = λ earlier is.
          ap (λ (n : ℕ). last_listing (earlier ++ answered_lines (take n (drop old.done lines)) replies)) (sym count) ∙ w.listing earlier is ∙ sym last_is;
      in_range = w.in_range;
      next = record {
        within = omega arith;
        can = subst (λ (names : List (List ℕ)). CanAnswer names new.last (drop new.done lines) now) (sym dir_is)
            (subst (λ (o : Option Reply). CanAnswer old.dir o (drop new.done lines) now) (sym last_is)
            (subst (λ (ls : List RequestLine). CanAnswer old.dir (last_by replies place old.last) ls now) (drop-drop i old.done lines ∙ ap (λ (n : ℕ). drop n lines) (sym done_is)) w.can));
      };
    }
