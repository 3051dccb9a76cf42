-- The order of a client's places, by the greatest place so far; and which reply is fit.
use Rattle.std.proofs.Common.{◌≡◌, ℕ, zero, suc, ◌+◌, ◌<◌, ◌≤◌, All, List, [], length, get_or, Option, Some, None, IfSome, refl, sym, ◌∙◌, subst, arith}
use Rattle.std.specs.List.{slice_get}
use Rattle.std.proofs.lemmas.Option.{none-some, slice_get_within, get_or_from_slice_get}
use Rattle.std.proofs.lemmas.List.Elements.{All-nil}
use Rattle.key_names.specs.Names.{Rises}
use Rattle.key_map.specs.declared.update.Update.{Update}
use Rattle.bucket_terms.specs.declared.reply.Reply.{Reply}
use Rattle.bucket_terms.specs.LegalRun.{RequestLine, Setting, Answered, IsOf, IsRight, KeepsOrder, MakesNone, update_at, last_listing}
use Rattle.replay_check.specs.Answering.{IsTheReply}
use Rattle.replay_check.specs.Turns.{HasSeen, IsFound}

abbrev UpTo : ℕ → Answered → Type 0
UpTo at a = IfSome a.placed.at (λ place. place ≤ at)

abbrev Below : ℕ → Answered → Type 0
Below at a = IfSome a.placed.at (λ place. place < at)

weaker : (o : Option ℕ) (P Q : ℕ → Type 0) → ((n : ℕ) → P n → Q n) → IfSome o P → IfSome o Q
weaker None P Q f h = tt
weaker (Some n) P Q f h = f n h

-- nothing was seen yet
pub seen_nothing : HasSeen [] 0
seen_nothing = record { upto = All-nil (UpTo 0); least = λ at h. omega arith }

pub all_up : (earlier : List Answered) (m n : ℕ) → m ≤ n → All (UpTo m) earlier → All (UpTo n) earlier
all_up earlier m n most h = λ k d inside. weaker (get_or earlier k d).placed.at (λ place. place ≤ m) (λ place. place ≤ n) (λ place p. omega arith) (h k d inside)

all_below : (earlier : List Answered) (m n : ℕ) → m < n → All (UpTo m) earlier → All (Below n) earlier
all_below earlier m n less h = λ k d inside. weaker (get_or earlier k d).placed.at (λ place. place ≤ m) (λ place. place < n) (λ place p. omega arith) (h k d inside)

below_up : (earlier : List Answered) (n : ℕ) → All (Below (suc n)) earlier → All (UpTo n) earlier
below_up earlier n h = λ k d inside. weaker (get_or earlier k d).placed.at (λ place. place < suc n) (λ place. place ≤ n) (λ place p. omega arith) (h k d inside)

module _ (s : Setting) (earlier : List Answered) (seen : ℕ) (has : HasSeen earlier seen) (line : ℕ) where
  pub in_order : (at : ℕ) → at ≤ length s.updates → seen ≤ at → ((u : Update) → update_at s at ≡ Some u → IsOf s line u → seen < at) → KeepsOrder s earlier line at
  in_order at within not_below above = record {
    within = within;
    not_below = all_up earlier seen at not_below has.upto;
    above = by_update (update_at s at) refl;
  }
    where
      by_update : (here : Option Update) → update_at s at ≡ here → IfSome here (λ u. IsOf s line u → All (Below at) earlier)
      by_update None e = tt
      by_update (Some u) e = λ own. all_below earlier seen at (above u e own) has.upto

  pub order_seen : (at : ℕ) → KeepsOrder s earlier line at → seen ≤ at
  order_seen at order = has.least at order.not_below

  pub order_above : (at : ℕ) (u : Update) → update_at s at ≡ Some u → IsOf s line u → KeepsOrder s earlier line at → seen < at
  order_above zero u here own order = absurd (none-some u here)
  order_above (suc n) u here own order =
      let below : All (Below (suc n)) earlier = (subst (λ (o : Option Update). IfSome o (λ v. IsOf s line v → All (Below (suc n)) earlier)) here order.above) own in
      let most : seen ≤ n = has.least n (below_up earlier n below) in
      omega arith

-- a right reply with its place is fit, and an answer has one client and line
module _ (s : Setting) (rising : Rises s.dir) (earlier : List Answered) (asked : RequestLine) where
  abbrev OwnAt : Option ℕ → Type 0
  OwnAt at = (i : ℕ) (u : Update) → slice_get s.updates i ≡ Some u → IsOf s asked.line u → at ≡ Some (i + 1)

  pub fit_from : (at : Option ℕ) (found : Option Reply) → IfSome at (KeepsOrder s earlier asked.line) → OwnAt at
      → IsTheReply s (last_listing earlier) asked at found → IsFound s earlier asked at found
  fit_from at None order own no_reply = λ placed is fit.
      no_reply placed.reply (subst (λ (o : Option ℕ). IsRight s (last_listing earlier) asked o placed.reply) is fit.answered.right)
  fit_from at (Some reply) order own right = record {
    answered = record { client = refl; line = refl; order = order; right = right };
    own = own;
  }

  no_own : (at : Option ℕ) → MakesNone s asked.line → OwnAt at
  no_own at none = λ i u here own.
      absurd (subst (λ (v : Update). ¬ (IsOf s asked.line v)) (get_or_from_slice_get s.updates i u u here) (none i u (slice_get_within s.updates i u here)) own)

  -- refused, if the line has no update
  pub refused_found : (found : Option Reply) → MakesNone s asked.line
      → IsTheReply s (last_listing earlier) asked None found → IsFound s earlier asked None found
  refused_found found none the = fit_from None found tt (no_own None none) the

  -- a line with an update is fit at the place of the update alone
  pub elsewhere : (at : Option ℕ) (i : ℕ) (u : Update) → slice_get s.updates i ≡ Some u → IsOf s asked.line u → ¬ (at ≡ Some (i + 1)) → IsFound s earlier asked at None
  elsewhere at i u here own other = λ placed is fit. other (sym is ∙ fit.own i u here own)

  module _ (seen : ℕ) (has : HasSeen earlier seen) (at : ℕ) where
    -- after the greatest place, or beyond the history, none is fit
    pub too_low : at < seen → IsFound s earlier asked (Some at) None
    too_low low = λ placed is fit.
        let order : KeepsOrder s earlier asked.line at = subst (λ (o : Option ℕ). IfSome o (KeepsOrder s earlier asked.line)) is fit.answered.order in
        let most : seen ≤ at = order_seen s earlier seen has asked.line at order in
        absurd (omega arith)

    pub too_high : length s.updates < at → IsFound s earlier asked (Some at) None
    too_high high = λ placed is fit.
        let order : KeepsOrder s earlier asked.line at = subst (λ (o : Option ℕ). IfSome o (KeepsOrder s earlier asked.line)) is fit.answered.order in
        let within : at ≤ length s.updates = order.within in
        absurd (omega arith)

    -- the own update stands at the place, and an answer was seen there already
    pub not_above : (u : Update) → update_at s at ≡ Some u → IsOf s asked.line u → seen ≡ at → IsFound s earlier asked (Some at) None
    not_above u here own same = λ placed is fit.
        let order : KeepsOrder s earlier asked.line at = subst (λ (o : Option ℕ). IfSome o (KeepsOrder s earlier asked.line)) is fit.answered.order in
        let above : seen < at = order_above s earlier seen has asked.line at u here own order in
        absurd (omega arith)

    none_above : MakesNone s asked.line → (u : Update) → update_at s at ≡ Some u → IsOf s asked.line u → seen < at
    none_above none u here own = by_place at here
      where
        by_place : (place : ℕ) → update_at s place ≡ Some u → seen < at
        by_place zero e = absurd (none-some u e)
        by_place (suc i) e = absurd (subst (λ (v : Update). ¬ (IsOf s asked.line v)) (get_or_from_slice_get s.updates i u u e) (none i u (slice_get_within s.updates i u e)) own)

    -- a line without an update looked at the place
    pub looked_found : (found : Option Reply) → at ≤ length s.updates → seen ≤ at → MakesNone s asked.line
        → IsTheReply s (last_listing earlier) asked (Some at) found → IsFound s earlier asked (Some at) found
    looked_found found within most none the =
        fit_from (Some at) found (in_order s earlier seen has asked.line at within most (none_above none)) (no_own (Some at) none) the

    -- the line's update stands at the place
    pub own_found : (found : Option Reply) → at ≤ length s.updates → seen < at → OwnAt (Some at)
        → IsTheReply s (last_listing earlier) asked (Some at) found → IsFound s earlier asked (Some at) found
    own_found found within less own the =
        fit_from (Some at) found (in_order s earlier seen has asked.line at within (omega arith) (λ u here is. less)) own the
