-- What a call of the pass makes of an answer.
use Rattle.std.proofs.Common.{◌≡◌, ℕ, suc, ◌+◌, ◌-◌, ◌≤◌, true, false, List, [], ◌∷◌, ◌++◌, Option, Some, None, length, refl, sym, ap, ◌∙◌, subst, arith, append-nil}
use Rattle.std.specs.List.{slice_get, count_by}
use Rattle.std.proofs.lemmas.Option.{slice_get_within}
use Rattle.std.proofs.lemmas.Bool.{false≢true}
use Rattle.std.proofs.lemmas.List.{length-append, length_push}
use Rattle.key_map.specs.declared.update.Update.{Update}
use Rattle.key_map.specs.declared.update.Change.{Change}
use Rattle.bucket_terms.specs.declared.request.Request.{Request}
use Rattle.bucket_terms.specs.declared.reply.Reply.{Reply}
use Rattle.bucket_terms.specs.declared.reply.Reply.TheVariants.{NoSlot}
use Rattle.bucket_terms.specs.declared.reply.Placed.{Placed}
use Rattle.key_map.specs.History.{own_places}
use Rattle.bucket_terms.specs.PassView.{PassView, KnowsOwn, MadeUpdate, Looked, IsShort}
use Rattle.bucket_terms.specs.LegalRun.{IsRight, IsChangeOf, update_at, is_update}
use Rattle.bucket_terms.specs.RunParts.{is_earlier_of}
use Rattle.client_run.specs.ClientRun.{setting, answered, Answers, is_looked_up, HasLooked}
use Rattle.client_run.proofs.Places.{slice_get-append_back, own_added_last, no_own_added}

abbrev some_update : Update → Option Update
some_update u = Some u

-- a made update stands at its place
pub update_here : (dir : List (List ℕ)) (old new : PassView) (line key at slots : ℕ) (change : Change) → MadeUpdate old new line key change at
    → update_at (setting dir new slots) at ≡ Some (record { client = new.number; line = line; key = key; change = change })
update_here dir old new line key at slots change made =
    let u : Update = record { client = old.number; line = line; key = key; change = change } in
    let front = old.seen ++ made.others in
    let e : at ≡ suc (length front) = omega (arith, made.place, ap length made.seen, length_push front u) in
    let z : length front - length front ≡ 0 = omega arith in
    ap (λ (n : ℕ). update_at (setting dir new slots) n) e
    ∙ ap (λ (us : List Update). slice_get us (length front)) made.seen
    ∙ slice_get-append_back front (u ∷ []) (length front) (omega arith)
    ∙ ap (λ (n : ℕ). slice_get (u ∷ []) n) z
    ∙ ap (λ (n : ℕ). some_update (record { client = n; line = line; key = key; change = change })) (sym made.continues.number)

placed_at : (client line at : ℕ) → Reply → Placed
placed_at client line at reply = record { client = client; line = line; at = Some at; reply = reply }

-- an update was made for the request
pub step_made : (dir : List (List ℕ)) (old new : PassView) (last : Option Reply) (line key at : ℕ) (change : Change) (request : Request) (reply : Reply)
    → KnowsOwn old → MadeUpdate old new line key change at → is_update request ≡ true
    → IsChangeOf dir (record { client = old.number; line = line; key = key; change = change }) request
    → ((slots : ℕ) → IsRight (setting dir new slots) last (record { line = line; request = request }) (Some at) reply)
    → old.nodes ≤ new.nodes + 1 → (reply ≡ NoSlot → ⊥)
    → is_looked_up (setting dir new 0) (answered line request (record { client = old.number; line = line; at = Some at; reply = reply })) ≡ false
    → HasLooked (setting dir new 0) (answered line request (record { client = old.number; line = line; at = Some at; reply = reply })) old.looks new.looks
    → Answers dir old new last (answered line request (record { client = old.number; line = line; at = Some at; reply = reply }))
step_made dir old new last line key at change request reply knows made is_up change_is right nodes not_refused not_looked looks =
    let u : Update = record { client = old.number; line = line; key = key; change = change } in
    let places : own_places old.number ((old.seen ++ made.others) ++ u ∷ []) ≡ own_places old.number old.seen ++ at ∷ [] =
    sym (ap (λ (us : List Update). own_places old.number us) made.seen)
    ∙ sym (ap (λ (n : ℕ). own_places n new.seen) made.continues.number)
    ∙ sym made.continues.mine ∙ made.mine ∙ ap (λ (m : List ℕ). m ++ at ∷ []) knows in
    let long : length new.mine ≡ length old.mine + 1 = ap length made.mine ∙ length_push old.mine at in
    record {
      continues = made.continues;
      closed = made.closed;
      client = refl;
      line = refl;
      from = omega (arith, made.above);
      upto = omega (arith, made.place);
      right = λ slots short. right slots;
      made = λ i v from here own.
          let last_one = own_added_last old.number at old.seen made.others u refl places i v from (sym (ap (λ (us : List Update). slice_get us i) made.seen) ∙ here) own in
          record {
            line = sym (ap (λ (w : Update). w.line) last_one.0);
            place = ap (λ (n : ℕ). Some n) (omega (arith, last_one.1, made.place, ap length made.seen));
            change = subst (λ (w : Update). IsChangeOf dir w request) (sym last_one.0) change_is;
          };
      nodes = omega arith;
      entries = omega (arith, made.entries);
      left = omega (arith, made.left);
      updates = rw is_up (omega arith);
      looks = looks;
      ended = record { refused = λ e. absurd (not_refused e); looked_up = λ e. absurd (false≢true (sym not_looked ∙ e)) };
    }

-- the pass is as it was, and the request is refused
pub step_refused : (dir : List (List ℕ)) (old new : PassView) (last : Option Reply) (line : ℕ) (request : Request) (reply : Reply)
    → KnowsOwn old → new ≡ old → old.opened ≡ None
    → ((slots : ℕ) → (IsShort old → slots ≤ count_by (is_earlier_of (setting dir old slots) line) old.seen)
    → IsRight (setting dir old slots) last (record { line = line; request = request }) None reply)
    → (reply ≡ NoSlot → IsShort old)
    → is_looked_up (setting dir old 0) (answered line request (record { client = old.number; line = line; at = None; reply = reply })) ≡ false
    → HasLooked (setting dir old 0) (answered line request (record { client = old.number; line = line; at = None; reply = reply })) old.looks old.looks
    → Answers dir old new last (answered line request (record { client = old.number; line = line; at = None; reply = reply }))
step_refused dir old new last line request reply knows same closed right short not_looked looks =
    subst (λ (v : PassView). Answers dir old v last (answered line request (record { client = old.number; line = line; at = None; reply = reply }))) (sym same)
    (record {
      continues = record { number = refl; seen = ([], sym (append-nil old.seen)); mine = knows; looks = omega arith };
      closed = closed;
      client = refl;
      line = refl;
      from = tt;
      upto = tt;
      right = right;
      made = λ i v from here own. let within = slice_get_within old.seen i v here in absurd (omega arith);
      nodes = omega arith;
      entries = omega arith;
      left = refl;
      updates = omega arith;
      looks = looks;
      ended = record { refused = short; looked_up = λ e. absurd (false≢true (sym not_looked ∙ e)) };
    })

-- a place was fixed, and the request was answered there
pub step_looked : (dir : List (List ℕ)) (old new : PassView) (last : Option Reply) (line at : ℕ) (request : Request) (reply : Reply)
    → KnowsOwn old → Looked old new at → new.opened ≡ None
    → ((slots : ℕ) → IsRight (setting dir new slots) last (record { line = line; request = request }) (Some at) reply)
    → (reply ≡ NoSlot → ⊥)
    → is_looked_up (setting dir new 0) (answered line request (record { client = old.number; line = line; at = Some at; reply = reply })) ≡ true
    → HasLooked (setting dir new 0) (answered line request (record { client = old.number; line = line; at = Some at; reply = reply })) old.looks new.looks
    → Answers dir old new last (answered line request (record { client = old.number; line = line; at = Some at; reply = reply }))
step_looked dir old new last line at request reply knows looked closed right not_refused is_looked looks =
    let places : own_places old.number (old.seen ++ looked.continues.seen.0) ≡ own_places old.number old.seen =
    sym (ap (λ (us : List Update). own_places old.number us) looked.continues.seen.1)
    ∙ sym (ap (λ (n : ℕ). own_places n new.seen) looked.continues.number)
    ∙ sym looked.continues.mine ∙ looked.mine ∙ knows in
    let longer = length-append old.seen looked.continues.seen.0 in
    let same : length new.mine ≡ length old.mine = ap length looked.mine in
    record {
      continues = looked.continues;
      closed = closed;
      client = refl;
      line = refl;
      from = omega (arith, looked.place, ap length looked.continues.seen.1, longer);
      upto = omega (arith, looked.place);
      right = λ slots short. right slots;
      made = λ i v from here own. absurd (no_own_added old.number old.seen looked.continues.seen.0 places i v from (sym (ap (λ (us : List Update). slice_get us i) looked.continues.seen.1) ∙ here) own);
      nodes = omega (arith, looked.nodes);
      entries = omega (arith, looked.entries);
      left = omega (arith, looked.left);
      updates = omega arith;
      looks = looks;
      ended = record { refused = λ e. absurd (not_refused e); looked_up = λ e. ap (λ (n : ℕ). Some n) (sym looked.found) };
    }
