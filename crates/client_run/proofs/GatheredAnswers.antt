-- One answer, if the pass has gathered entries before it.
use Rattle.std.proofs.Common.{◌≡◌, ℕ, ◌+◌, ◌<◌, ◌≤◌, List, Option, Some, None, Err, IsErrOf, ◌↔◌, inl, inr, length, refl, sym, ap, ◌∙◌, subst, arith}
use Rattle.std.specs.List.{slice_get, count_by}
use Rattle.std.proofs.lemmas.Bool.{cases_lt}
use Rattle.key_map.specs.declared.pass.PassError.{PassError}
use Rattle.key_map.specs.declared.pass.PassError.TheVariants.{NoSlot, Spent}
use Rattle.key_map.specs.declared.update.Update.{Update}
use Rattle.bucket_terms.specs.declared.request.Request.{Request}
use Rattle.bucket_terms.specs.declared.reply.Reply.{Reply}
use Rattle.bucket_terms.specs.declared.reply.Reply.TheVariants.{NoSlot as NoSlotReply}
use Rattle.bucket_terms.specs.Gathering.{Gathered}
use Rattle.bucket_terms.specs.LegalRun.{Answered, IsRight, IsMadeBy}
use Rattle.bucket_terms.specs.PassView.{PassView, KnowsOwn, IsOutOfSlots, IsShort}
use Rattle.bucket_terms.specs.Pool.{Traded}
use Rattle.bucket_terms.specs.RunParts.{is_earlier_of}
use Rattle.client_run.specs.ClientRun.{setting, answered, Answers, HasLooked, IsLaterLine}
use Rattle.client_run.proofs.OneMore.{places_from_old}
use Rattle.client_run.proofs.Places.{slice_get-append_front}
use Rattle.client_run.proofs.Replies.{refused_answers}
use Rattle.client_run.proofs.TradedAnswers.{extends_on, extends_length, none_own, later_traded, earlier_traded}

-- apart from its entries the pass is as after a trade of no node slots
abbrev with_entries_of : PassView → PassView → PassView
with_entries_of old mid = record mid { entries = old.entries }

traded_none : (old mid : PassView) → Gathered old mid → Traded old (with_entries_of old mid)
traded_none old mid g = record {
  number = g.number;
  seen = g.seen;
  mine = g.mine;
  own = g.own;
  looks = g.looks;
  found = g.found;
  entries = refl;
  left = g.left;
  closed = g.closed;
}

module _ (dir : List (List ℕ)) (old mid new : PassView) (last : Option Reply) (x : Answered) (knows : KnowsOwn old) (g : Gathered old mid)
    (step : Answers dir mid new last x) where
  -- what it lacks afterwards, it lacked before
  short_before : IsShort mid → IsShort old
  short_before (inl none) = inl (omega (arith, none, g.nodes))
  short_before (inr few) = inr (omega (arith, few, g.entries))

  right_now : (slots : ℕ) → (IsShort old → slots ≤ count_by (is_earlier_of (setting dir old slots) x.asked.line) old.seen)
      → IsRight (setting dir new slots) last x.asked x.placed.at x.placed.reply
  right_now slots used =
      step.right slots (λ lacks. earlier_traded dir old (with_entries_of old mid) slots x.asked.line (traded_none old mid g) (used (short_before lacks)))

  -- an own update that is new is one of the answer: none was made before
  made_now : (i : ℕ) (u : Update) → length old.seen ≤ i → slice_get new.seen i ≡ Some u → u.client ≡ old.number → IsMadeBy dir u (i + 1) x
  made_now i u from here own =
      elim (cases_lt i (length mid.seen)) [
        | inl early ↦
            let in_mid : slice_get mid.seen i ≡ Some u =
            sym (slice_get-append_front mid.seen step.continues.seen.0 i early) ∙ sym (ap (λ (us : List Update). slice_get us i) step.continues.seen.1) ∙ here in
            absurd (none_own old (with_entries_of old mid) (traded_none old mid g) knows i u from in_mid own)
        | inr late ↦ step.made i u late here (own ∙ sym g.number)
      ]

  answers_after : Answers dir old new last x
  answers_after = record {
    continues = record {
      number = step.continues.number ∙ g.number;
      seen = extends_on old.seen mid.seen new.seen g.seen step.continues.seen;
      mine = step.continues.mine;
      looks = omega (arith, g.looks, step.continues.looks);
    };
    closed = step.closed;
    client = step.client ∙ g.number;
    line = step.line;
    from = places_from_old (length old.seen) (length mid.seen) x.placed.at (extends_length old.seen mid.seen g.seen) step.from;
    upto = step.upto;
    right = right_now;
    made = made_now;
    nodes = omega (arith, g.nodes, ap length g.mine, step.nodes);
    entries = omega (arith, g.entries, ap length g.mine, step.entries);
    left = omega (arith, g.left, ap length g.mine, step.left);
    updates = omega (arith, ap length g.mine, step.updates);
    looks = subst (λ (n : ℕ). HasLooked (setting dir new 0) x n new.looks) g.looks step.looks;
    ended = step.ended;
  }

-- what is answered afterwards is answered over what the pass knew before it
pub gathered_answers : (dir : List (List ℕ)) (old mid new : PassView) (last : Option Reply) (line : ℕ) (request : Request) (at : Option ℕ) (reply : Reply)
    → KnowsOwn old → Gathered old mid
    → Answers dir mid new last (answered line request (record { client = mid.number; line = line; at = at; reply = reply }))
    → Answers dir old new last (answered line request (record { client = old.number; line = line; at = at; reply = reply }))
gathered_answers dir old mid new last line request at reply knows g step =
    subst (λ (n : ℕ). Answers dir old new last (answered line request (record { client = n; line = line; at = at; reply = reply }))) g.number
    (answers_after dir old mid new last (answered line request (record { client = mid.number; line = line; at = at; reply = reply })) knows g step)

-- nor has it put a later own update into what the pass has seen
pub later_gathered : (old mid : PassView) (line : ℕ) → KnowsOwn old → Gathered old mid → IsLaterLine old line → IsLaterLine mid line
later_gathered old mid line knows g later = later_traded old (with_entries_of old mid) (traded_none old mid g) knows line later

-- calls are left after it, so it is not for want of them that an update is refused
pub not_spent : {T : Type 0} (old mid : PassView) (e : PassError) → Gathered old mid → 0 < old.left → IsErrOf {T = T} (Err e) Spent ↔ (mid.left ≡ 0) → ¬ (e ≡ Spent)
not_spent old mid e g left spent is = absurd (omega (arith, left, g.left, spent.0 (ap (λ (x : PassError). Err x) is)))

-- an update was refused after it
pub not_made_answers : {T : Type 0} (dir : List (List ℕ)) (old mid new : PassView) (last : Option Reply) (line : ℕ) (request : Request) (e : PassError)
    → KnowsOwn old → Gathered old mid → new ≡ mid → e ≡ NoSlot → IsErrOf {T = T} (Err e) NoSlot ↔ IsOutOfSlots mid
    → (IsShort mid → (slots : ℕ) → (IsShort mid → slots ≤ count_by (is_earlier_of (setting dir mid slots) line) mid.seen)
    → IsRight (setting dir mid slots) last (record { line = line; request = request }) None NoSlotReply)
    → Answers dir old new last (answered line request (record { client = old.number; line = line; at = None; reply = NoSlotReply }))
not_made_answers dir old mid new last line request e knows g same cause no_slot right =
    let short = no_slot.0 (ap (λ (x : PassError). Err x) cause) in
    gathered_answers dir old mid new last line request None NoSlotReply knows g
    (refused_answers dir mid new last line request (g.own knows) same g.closed short (right short.1))
