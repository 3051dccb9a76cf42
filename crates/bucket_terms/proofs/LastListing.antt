-- The reply of the last listing, with one more answer.
use Rattle.std.proofs.Common.{◌≡◌, Bool, true, false, cond, if◌then◌else◌, List, [], ◌∷◌, ◌++◌, Option, Some, None, inl, inr, refl, ap, ◌∙◌, append-nil}
use Rattle.std.specs.List.{last_or, filter}
use Rattle.std.specs.Option.{option_map}
use Rattle.std.proofs.lemmas.Bool.{cases_Bool}
use Rattle.std.proofs.lemmas.List.Elements.{filter-append}
use Rattle.bucket_terms.specs.LegalRun.{Answered, last_listing, is_listing}

last_or-push : {X : Type 0} (o : Option X) (xs : List X) (x : X) → last_or o (xs ++ x ∷ []) ≡ Some x
last_or-push o [] x = refl
last_or-push o (y ∷ xs) x = last_or-push (Some y) xs x

pub last_listing-yes : (done : List Answered) (a : Answered) → is_listing a.asked.request ≡ true → last_listing (done ++ a ∷ []) ≡ Some a.placed.reply
last_listing-yes done a e =
    let listed = λ (b : Answered). is_listing b.asked.request in
    ap (λ (found : List Answered). option_map (λ (b : Answered). b.placed.reply) (last_or None found))
    (filter-append listed done (a ∷ []) ∙ ap (λ (b : Bool). filter listed done ++ cond b (a ∷ []) []) e)
    ∙ ap (option_map (λ (b : Answered). b.placed.reply)) (last_or-push None (filter listed done) a)

pub last_listing-no : (done : List Answered) (a : Answered) → is_listing a.asked.request ≡ false → last_listing (done ++ a ∷ []) ≡ last_listing done
last_listing-no done a e =
    let listed = λ (b : Answered). is_listing b.asked.request in
    ap (λ (found : List Answered). option_map (λ (b : Answered). b.placed.reply) (last_or None found))
    (filter-append listed done (a ∷ []) ∙ ap (λ (b : Bool). filter listed done ++ cond b (a ∷ []) []) e ∙ append-nil (filter listed done))

pub last_listing-push : (done : List Answered) (a : Answered)
    → last_listing (done ++ a ∷ []) ≡ (if is_listing a.asked.request then Some a.placed.reply else last_listing done)
last_listing-push done a =
    elim (cases_Bool (is_listing a.asked.request)) [
      | inl listing ↦ rw listing (last_listing-yes done a listing)
      | inr other ↦ rw other (last_listing-no done a other)
    ]
