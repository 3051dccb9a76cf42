-- A client's run, one answer longer.
use Rattle.std.proofs.Common.{◌≡◌, ℕ, zero, suc, ◌+◌, ◌*◌, ◌-◌, ◌<◌, ◌≤◌, Bool, not, cond, All, Any, MatchOption, IfSome, List, [], ◌∷◌, ◌++◌, Option, Some, None, inl, inr, length, get_or, refl, sym, ap, ◌∙◌, subst, arith, append_assoc, append-nil, true, false, if◌then◌else◌}
use Rattle.std.specs.Bool.{⊤}
use Rattle.std.specs.List.{slice_get, count_by}
use Rattle.std.proofs.lemmas.Bool.{cases_lt}
use Rattle.std.proofs.lemmas.List.{length-append, length_push, same_from_push}
use Rattle.std.proofs.lemmas.List.Elements.{All-push}
use Rattle.std.proofs.lemmas.List.Sums.{sum_by-cons, sum_by_push}
use Rattle.std.proofs.lemmas.Option.{slice_get-get_or, get_or_from_slice_get, slice_get_within}
use Rattle.key_map.specs.declared.update.Update.{Update}
use Rattle.bucket_terms.specs.declared.reply.Reply.{Reply}
use Rattle.bucket_terms.specs.declared.reply.Reply.TheVariants.{Put, Exists, Deleted, Found, Missing, Listed, ListedV1, BadToken, NoSlot}
use Rattle.bucket_terms.specs.declared.reply.Placed.{Placed}
use Rattle.bucket_terms.specs.PassView.{PassView, Continues, RoseBy, IsShort}
use Rattle.bucket_terms.specs.LegalRun.{Setting, RequestLine, Answered, IsOf, AreAnswered, KeepsOrder, IsMadeBy, answered_lines, is_update, update_at, last_listing}
use Rattle.bucket_terms.specs.RunParts.{IsPlacedUpTo, IsPlacedBelow, is_earlier_of}
use Rattle.client_run.specs.ClientRun.{setting, IsLaterLine, Answers, AnswersInTurn, Ended, HasLooked, is_looked_up, has_own, is_of}
use Rattle.client_run.specs.Listing.{HasPageInRange}
use Rattle.client_run.proofs.Places.{slice_get-append_front, slice_get-append_back}
use Rattle.client_run.proofs.Longer.{over, OtherLines, update_at-longer, AreAnswered-longer}
use Rattle.client_run.proofs.Growing.{Running, count_earlier, answered_lines-push, AreAnswered-push, Any-front, Any-last, later_ran}

-- ---- the history grows

pub Continues-trans : (old mid now : PassView) → Continues old mid → Continues mid now → Continues old now
Continues-trans old mid now c d = record {
  number = d.number ∙ c.number;
  seen = (c.seen.0 ++ d.seen.0, d.seen.1 ∙ ap (λ (us : List Update). us ++ d.seen.0) c.seen.1 ∙ append_assoc old.seen c.seen.0 d.seen.0);
  mine = d.mine;
  looks = omega (arith, c.looks, d.looks);
}

setting_longer : (dir : List (List ℕ)) (mid now : PassView) (slots : ℕ) (c : Continues mid now) → over (setting dir mid slots) (mid.seen ++ c.seen.0) ≡ setting dir now slots
setting_longer dir mid now slots c =
    ap (λ (us : List Update). over (setting dir mid slots) us) (sym c.seen.1) ∙ ap (λ (n : ℕ). record (setting dir now slots) { client = n }) (sym c.number)

length_grows : (mid now : PassView) (c : Continues mid now) → length mid.seen ≤ length now.seen
length_grows mid now c = omega (arith, ap length c.seen.1, length-append mid.seen c.seen.0)

-- what was added of this client is of the last line alone
others : (dir : List (List ℕ)) (lines : List RequestLine) (mid now : PassView) (slots : ℕ) (last : Option Reply) (a : Answered)
    → (step : Answers dir mid now last a) → All (λ (m : RequestLine). m.line < a.asked.line) lines
    → All (λ (m : RequestLine). OtherLines (setting dir mid slots) m.line step.continues.seen.0) lines
others dir lines mid now slots last a step rising = λ k d below j e within is.
    let more = step.continues.seen.0 in
    let u = get_or more j e in
    let there : slice_get now.seen (length mid.seen + j) ≡ Some u =
    ap (λ (us : List Update). slice_get us (length mid.seen + j)) step.continues.seen.1
    ∙ slice_get-append_back mid.seen more (length mid.seen + j) (omega arith)
    ∙ ap (λ (n : ℕ). slice_get more n) (let z : length mid.seen + j - length mid.seen ≡ j = omega arith in z)
    ∙ slice_get-get_or more j e within in
    let made = step.made (length mid.seen + j) u (omega arith) there is.by in
    let h : (get_or lines k d).line < a.asked.line = rising k d below in
    let same : a.asked.line ≡ u.line = made.line in
    let same' : u.line ≡ (get_or lines k d).line = is.for_line in
    omega arith

-- ---- the order of places

pub placed_upto : (m n : ℕ) (at : Option ℕ) → m ≤ n → MatchOption at ⊤ (λ place. place ≤ m) → MatchOption at ⊤ (λ place. place ≤ n)
placed_upto m n None le h = tt
placed_upto m n (Some place) le h = omega arith

placed_below : (m n : ℕ) (at : Option ℕ) → m < n → MatchOption at ⊤ (λ place. place ≤ m) → MatchOption at ⊤ (λ place. place < n)
placed_below m n None lt h = tt
placed_below m n (Some place) lt h = omega arith

IfSome-each : {X : Type 0} (o : Option X) (Q : X → Type 0) → ((x : X) → Q x) → IfSome o Q
IfSome-each None Q each = tt
IfSome-each (Some x) Q each = each x

-- an update that the pass knew before is of an earlier line
IfSome-earlier : (mid : PassView) (s : Setting) (line : ℕ) (C : Type 0) (found : Option Update) (k : ℕ) → IsLaterLine mid line → s.client ≡ mid.number → slice_get mid.seen k ≡ found
    → IfSome found (λ u. IsOf s line u → C)
IfSome-earlier mid s line C None k later client here = tt
IfSome-earlier mid s line C (Some u) k later client here = λ is.
    let below = slice_get_within mid.seen k u here in
    let same = get_or_from_slice_get mid.seen k u u here in
    let h : (get_or mid.seen k u).line < line = later k u below (ap (λ (w : Update). w.client) same ∙ is.by ∙ client) in
    let e : (get_or mid.seen k u).line ≡ line = ap (λ (w : Update). w.line) same ∙ is.for_line in
    absurd (omega arith)

order_now : (dir : List (List ℕ)) (mid now : PassView) (slots : ℕ) (earlier : List Answered) (line : ℕ) (at : Option ℕ) (c : Continues mid now)
    → IsLaterLine mid line → All (IsPlacedUpTo (length mid.seen)) earlier
    → MatchOption at ⊤ (λ n. length mid.seen ≤ n) → MatchOption at ⊤ (λ n. n ≤ length now.seen)
    → MatchOption at ⊤ (KeepsOrder (setting dir now slots) earlier line)
order_now dir mid now slots earlier line None c later upto from to = tt
order_now dir mid now slots earlier line (Some n) c later upto from to = record {
  within = to;
  not_below = λ k d below. placed_upto (length mid.seen) n (get_or earlier k d).placed.at from (upto k d below);
  above = above n from;
}
  where
    above : (m : ℕ) → length mid.seen ≤ m → IfSome (update_at (setting dir now slots) m) (λ u. IsOf (setting dir now slots) line u → All (IsPlacedBelow m) earlier)
    above zero from' = tt
    above (suc k) from' =
        elim (cases_lt k (length mid.seen)) [
          | inl front ↦ IfSome-earlier mid (setting dir now slots) line (All (IsPlacedBelow (suc k)) earlier) (slice_get now.seen k) k later c.number
              (sym (slice_get-append_front mid.seen c.seen.0 k front) ∙ sym (ap (λ (us : List Update). slice_get us k) c.seen.1))
          | inr back ↦ IfSome-each (slice_get now.seen k) (λ u. IsOf (setting dir now slots) line u → All (IsPlacedBelow (suc k)) earlier)
              (λ u is j d below. placed_below (length mid.seen) (suc k) (get_or earlier j d).placed.at (omega arith) (upto j d below))
        ]

-- ---- looks at the stamp

module _ (s : Setting) (more : List Update) where
  pub has_own-longer : (line : ℕ) (at : Option ℕ) → MatchOption at ⊤ (λ n. n ≤ length s.updates) → has_own (over s (s.updates ++ more)) line at ≡ has_own s line at
  has_own-longer line None within = refl
  has_own-longer line (Some n) within =
      ap (λ (found : Option Update). is_of (over s (s.updates ++ more)) line found) (update_at-longer s more n within) ∙ is_of-longer (update_at s n)
    where
      is_of-longer : (found : Option Update) → is_of (over s (s.updates ++ more)) line found ≡ is_of s line found
      is_of-longer None = refl
      is_of-longer (Some u) = refl

  pub looked-longer : (asked : RequestLine) (client line : ℕ) (at : Option ℕ) (reply : Reply) → MatchOption at ⊤ (λ n. n ≤ length s.updates)
      → is_looked_up (over s (s.updates ++ more)) (record { asked = asked; placed = record { client = client; line = line; at = at; reply = reply } })
      ≡ is_looked_up s (record { asked = asked; placed = record { client = client; line = line; at = at; reply = reply } })
  looked-longer asked client line at (Put was) within = refl
  looked-longer asked client line at Exists within = refl
  looked-longer asked client line at Deleted within = ap not (has_own-longer asked.line at within)
  looked-longer asked client line at (Found val) within = refl
  looked-longer asked client line at Missing within = refl
  looked-longer asked client line at (Listed query page) within = refl
  looked-longer asked client line at (ListedV1 query page) within = refl
  looked-longer asked client line at BadToken within = refl
  looked-longer asked client line at NoSlot within = refl

  count-longer : (earlier : List Answered) → All (IsPlacedUpTo (length s.updates)) earlier
      → count_by (is_looked_up (over s (s.updates ++ more))) earlier ≡ count_by (is_looked_up s) earlier
  count-longer [] upto = refl
  count-longer (a ∷ earlier) upto =
      sum_by-cons (λ (b : Answered). cond (is_looked_up (over s (s.updates ++ more)) b) 1 0) a earlier
      ∙ ap (λ (n : ℕ). cond (is_looked_up (over s (s.updates ++ more)) a) 1 0 + n) (count-longer earlier (λ k d below. upto (suc k) d (omega arith)))
      ∙ ap (λ (b : Bool). cond b 1 0 + count_by (is_looked_up s) earlier) (looked-longer a.asked a.placed.client a.placed.line a.placed.at a.placed.reply (upto 0 a (omega arith)))
      ∙ sym (sum_by-cons (λ (b : Answered). cond (is_looked_up s b) 1 0) a earlier)

rose_both : (m k a b c : ℕ) → RoseBy m a b → RoseBy k b c → b ≤ c → RoseBy (m + k) a c
rose_both m k a b c first second le = omega (arith, first, second, le)

-- an answer that counts as looked up has looked
looked_enough : (s : Setting) (asked : RequestLine) (client line : ℕ) (at : Option ℕ) (reply : Reply) (old new : ℕ) → old ≤ new
    → HasLooked s (record { asked = asked; placed = record { client = client; line = line; at = at; reply = reply } }) old new
    → RoseBy (cond (is_looked_up s (record { asked = asked; placed = record { client = client; line = line; at = at; reply = reply } })) 1 0) old new
looked_enough s asked client line at (Put was) old new le looked = omega (arith, le)
looked_enough s asked client line at Exists old new le looked = omega (arith, looked)
looked_enough s asked client line at Deleted old new le looked = by_own (has_own s asked.line at) looked
  where
    by_own : (own : Bool) → RoseBy (if own then 0 else 1) old new → RoseBy (cond (not own) 1 0) old new
    by_own true rose = rose
    by_own false rose = rose
looked_enough s asked client line at (Found val) old new le looked = omega (arith, looked)
looked_enough s asked client line at Missing old new le looked = omega (arith, looked)
looked_enough s asked client line at (Listed query page) old new le looked = omega (arith, looked)
looked_enough s asked client line at (ListedV1 query page) old new le looked = omega (arith, looked)
looked_enough s asked client line at BadToken old new le looked = omega (arith, le)
looked_enough s asked client line at NoSlot old new le looked = omega (arith, le)

-- ---- one answer more

-- one turn more
pub in_turn_more : (dir : List (List ℕ)) (earlier : List Answered) (old mid now : PassView) (lines : List RequestLine) (replies : List Placed) (l : RequestLine) (p : Placed)
    → AnswersInTurn dir earlier old mid lines replies
    → Answers dir mid now (last_listing (earlier ++ answered_lines lines replies)) (record { asked = l; placed = p })
    → AnswersInTurn dir earlier old now (lines ++ l ∷ []) (replies ++ p ∷ [])
in_turn_more dir earlier old mid now [] [] l p same step = (
  now,
  subst (λ (v : PassView). Answers dir v now (last_listing earlier) (record { asked = l; placed = p })) same
      (subst (λ (xs : List Answered). Answers dir mid now (last_listing xs) (record { asked = l; placed = p })) (append-nil earlier) step),
  refl,
)
in_turn_more dir earlier old mid now (m ∷ lines) (q ∷ replies) l p (between, first, rest) step = (
  between,
  first,
  in_turn_more dir (earlier ++ record { asked = m; placed = q } ∷ []) between mid now lines replies l p rest
      (subst (λ (xs : List Answered). Answers dir mid now (last_listing xs) (record { asked = l; placed = p })) (sym (append_assoc earlier (record { asked = m; placed = q } ∷ []) (answered_lines lines replies))) step),
)
in_turn_more dir earlier old mid now [] (q ∷ replies) l p none step = absurd none
in_turn_more dir earlier old mid now (m ∷ lines) [] l p none step = absurd none

pub places_from_old : (m n : ℕ) (at : Option ℕ) → m ≤ n → MatchOption at ⊤ (λ place. n ≤ place) → MatchOption at ⊤ (λ place. m ≤ place)
places_from_old m n None le h = tt
places_from_old m n (Some place) le h = omega arith

module _ (dir : List (List ℕ)) (lines : List RequestLine) (old mid now : PassView) (replies : List Placed) (l : RequestLine) (p : Placed)
    (run : Running dir lines old mid replies) (step : Answers dir mid now (last_listing (answered_lines lines replies)) (record { asked = l; placed = p }))
    (later_old : IsLaterLine old l.line) (rising : All (λ (m : RequestLine). m.line < l.line) lines) (in_range : HasPageInRange dir p.reply) where
  abbrev a : Answered
  a = record { asked = l; placed = p }

  abbrev done : List Answered
  done = answered_lines lines replies

  together : answered_lines (lines ++ l ∷ []) (replies ++ p ∷ []) ≡ done ++ a ∷ []
  together = answered_lines-push lines replies l p run.same_length

  later_mid : IsLaterLine mid l.line
  later_mid = later_ran dir lines old mid replies l.line run.ran later_old rising

  -- what the pass lacks at a refusal was used up by own updates of this call
  enough : (n : ℕ) → n ≤ old.nodes → 4 * n ≤ old.entries → IsShort mid
      → length old.mine + n ≤ count_by (is_earlier_of (setting dir mid (length old.mine + n)) l.line) mid.seen
  enough n few few4 short =
      let counted : count_by (is_earlier_of (setting dir mid (length old.mine + n)) l.line) mid.seen ≡ length mid.mine =
      count_earlier mid.number l.line 1 (setting dir mid (length old.mine + n)) mid.seen refl later_mid ∙ ap length (sym run.knows) in
      rw counted (by_short short)
    where
      by_short : IsShort mid → length old.mine + n ≤ length mid.mine
      by_short (inl none) = omega (arith, run.nodes)
      by_short (inr none) = omega (arith, run.entries)

  answered_now : (n : ℕ) → n ≤ old.nodes → 4 * n ≤ old.entries
      → AreAnswered (setting dir now (length old.mine + n)) [] (lines ++ l ∷ []) (replies ++ p ∷ [])
  answered_now n few few4 =
      let slots = length old.mine + n in
      let before : AreAnswered (over (setting dir mid slots) (mid.seen ++ step.continues.seen.0)) [] lines replies =
      AreAnswered-longer (setting dir mid slots) step.continues.seen.0 [] lines replies (others dir lines mid now slots _ a step rising) (run.ran.answered n few few4) in
      let kept : AreAnswered (setting dir now slots) [] lines replies = subst (λ (s : Setting). AreAnswered s [] lines replies) (setting_longer dir mid now slots step.continues) before in
      AreAnswered-push (setting dir now slots) [] lines replies l p kept (record {
        client = step.client ∙ sym step.continues.number;
        line = step.line;
        order = order_now dir mid now slots done l.line p.at step.continues later_mid run.upto step.from step.upto;
        right = step.right slots (enough n few few4);
      })

  made_now : (i : ℕ) (u : Update) → length old.seen ≤ i → slice_get now.seen i ≡ Some u → u.client ≡ old.number
      → Any (IsMadeBy dir u (i + 1)) (answered_lines (lines ++ l ∷ []) (replies ++ p ∷ []))
  made_now i u from here own =
      subst (λ (xs : List Answered). Any (IsMadeBy dir u (i + 1)) xs) (sym together)
      (elim (cases_lt i (length mid.seen)) [
        | inl front ↦ Any-front (IsMadeBy dir u (i + 1)) done (a ∷ []) (run.ran.made i u from
            (sym (slice_get-append_front mid.seen step.continues.seen.0 i front) ∙ sym (ap (λ (us : List Update). slice_get us i) step.continues.seen.1) ∙ here) own)
        | inr back ↦ Any-last (IsMadeBy dir u (i + 1)) done a (step.made i u back here (own ∙ sym run.ran.continues.number))
      ])

  looks_now : RoseBy (count_by (is_looked_up (setting dir now 0)) (answered_lines (lines ++ l ∷ []) (replies ++ p ∷ []))) old.looks now.looks
  looks_now =
      let same : count_by (is_looked_up (setting dir now 0)) done ≡ count_by (is_looked_up (setting dir mid 0)) done =
      ap (λ (s : Setting). count_by (is_looked_up s) done) (sym (setting_longer dir mid now 0 step.continues)) ∙ count-longer (setting dir mid 0) step.continues.seen.0 done run.upto in
      let counted : count_by (is_looked_up (setting dir now 0)) (answered_lines (lines ++ l ∷ []) (replies ++ p ∷ []))
      ≡ count_by (is_looked_up (setting dir mid 0)) done + cond (is_looked_up (setting dir now 0) a) 1 0 =
      ap (λ (xs : List Answered). count_by (is_looked_up (setting dir now 0)) xs) together
      ∙ sum_by_push (λ (b : Answered). cond (is_looked_up (setting dir now 0) b) 1 0) done a
      ∙ ap (λ (n : ℕ). n + cond (is_looked_up (setting dir now 0) a) 1 0) same in
      rw counted (rose_both (count_by (is_looked_up (setting dir mid 0)) done) (cond (is_looked_up (setting dir now 0) a) 1 0) old.looks mid.looks now.looks run.ran.looks
      (looked_enough (setting dir now 0) l p.client p.line p.at p.reply mid.looks now.looks step.continues.looks step.looks) step.continues.looks)

  pub one_more : Running dir (lines ++ l ∷ []) old now (replies ++ p ∷ [])
  one_more = record {
    ran = record {
      knew = run.ran.knew;
      continues = Continues-trans old mid now run.ran.continues step.continues;
      closed = step.closed;
      answered = answered_now;
      made = made_now;
      places = All-push (λ (q : Placed). MatchOption q.at ⊤ (λ at. length old.seen ≤ at)) replies p run.ran.places
          (places_from_old (length old.seen) (length mid.seen) p.at (length_grows old mid run.ran.continues) step.from);
      looks = looks_now;
      in_turn = in_turn_more dir [] old mid now lines replies l p run.ran.in_turn step;
      in_range = All-push (λ (q : Placed). HasPageInRange dir q.reply) replies p run.ran.in_range in_range;
      ended = λ front b e.
          let same : a ≡ b = (same_from_push done front a b (sym together ∙ e)).1 in
          subst (λ (c : Answered). Ended (setting dir now 0) now c) same step.ended;
    };
    knows = step.continues.mine;
    same_length = omega (arith, length_push lines l, length_push replies p, run.same_length);
    nodes = omega (arith, run.nodes, step.nodes);
    entries = omega (arith, run.entries, step.entries);
    left = omega (arith, run.left, step.left);
    updates = omega (arith, run.updates, step.updates, sum_by_push (λ (m : RequestLine). cond (is_update m.request) 1 0) lines l);
    upto = subst (λ (xs : List Answered). All (IsPlacedUpTo (length now.seen)) xs) (sym together)
        (All-push (IsPlacedUpTo (length now.seen)) done a (λ k d below. placed_upto (length mid.seen) (length now.seen) (get_or done k d).placed.at (length_grows mid now step.continues) (run.upto k d below)) step.upto);
  }
