-- A client's right lines go on with one more.
use Rattle.std.proofs.Common.{◌≡◌, ℕ, zero, suc, ◌<◌, ◌≤◌, All, List, [], ◌∷◌, ◌++◌, length, take, get_or, Option, Some, None, IfSome, refl, sym, ap, subst, arith, append_assoc, append-nil}
use Rattle.std.specs.List.{slice_get}
use Rattle.std.specs.Option.{unwrap_or}
use Rattle.std.proofs.lemmas.Option.{same_Some}
use Rattle.std.proofs.lemmas.List.{get_or_append_left, length_push}
use Rattle.std.proofs.lemmas.List.Elements.{All-push}
use Rattle.key_map.specs.declared.update.Update.{Update}
use Rattle.bucket_terms.specs.declared.reply.Placed.{Placed}
use Rattle.bucket_terms.specs.LegalRun.{RequestLine, Answered, answered_lines}
use Rattle.text_laws.specs.WrongLine.{Checked, IsReplyLine, AreReplies}
use Rattle.text_laws.specs.WrongParts.{text_at}
use Rattle.replay_check.specs.Turns.{HasSeen}
use Rattle.replay_check.proofs.Order.{all_up}

abbrev UpTo : ℕ → Answered → Type 0
UpTo at a = IfSome a.placed.at (λ place. place ≤ at)

abbrev one : RequestLine → Placed → Answered
one l p = record { asked = l; placed = p }

-- the greatest place with one more answer, whose place is not below it
module _ (earlier : List Answered) (a : Answered) (seen : ℕ) (has : HasSeen earlier seen) where
  front : (at : ℕ) → All (UpTo at) (earlier ++ a ∷ []) → All (UpTo at) earlier
  front at h = λ k d inside. subst (UpTo at) (get_or_append_left earlier (a ∷ []) d k inside) (h k d (omega (arith, length_push earlier a, inside)))

  at_end : (xs : List Answered) → get_or (xs ++ a ∷ []) (length xs) a ≡ a
  at_end [] = refl
  at_end (x ∷ xs) = at_end xs

  back : (at : ℕ) → All (UpTo at) (earlier ++ a ∷ []) → UpTo at a
  back at h = subst (UpTo at) (at_end earlier) (h (length earlier) a (omega (arith, length_push earlier a)))

  by_place : (o : Option ℕ) → a.placed.at ≡ o → IfSome o (λ at. seen ≤ at) → HasSeen (earlier ++ a ∷ []) (unwrap_or o seen)
  by_place None e most = record {
    upto = All-push (UpTo seen) earlier a has.upto (subst (λ (x : Option ℕ). IfSome x (λ place. place ≤ seen)) (sym e) tt);
    least = λ at h. has.least at (front at h);
  }
  by_place (Some at) e most = record {
    upto = All-push (UpTo at) earlier a (all_up earlier seen at most has.upto) (subst (λ (x : Option ℕ). IfSome x (λ place. place ≤ at)) (sym e) (itself at));
    least = λ x h. subst (λ (o : Option ℕ). IfSome o (λ place. place ≤ x)) e (back x h);
  }
    where
      itself : (n : ℕ) → n ≤ n
      itself n = omega arith

  pub seen_more : IfSome a.placed.at (λ at. seen ≤ at) → HasSeen (earlier ++ a ∷ []) (unwrap_or a.placed.at seen)
  seen_more most = by_place a.placed.at refl most

-- the right lines with one more
module _ (c : Checked) (updates : List Update) (client : ℕ) where
  pub right_more : (n : ℕ) (earlier : List Answered) (lines : List RequestLine) (texts : List (List ℕ)) (ps : List Placed) (asked : RequestLine) (p : Placed)
      → slice_get lines n ≡ Some asked → n < length texts → AreReplies c updates client earlier (take n lines) (take n texts) ps
      → IsReplyLine c updates client (earlier ++ answered_lines (take n lines) ps) asked (text_at texts n) p
      → AreReplies c updates client earlier (take (suc n) lines) (take (suc n) texts) (ps ++ p ∷ [])
  right_more n earlier [] texts ps asked p there inside h line = cc
  right_more n earlier (l ∷ lines) [] ps asked p there inside h line = absurd (omega arith)
  right_more zero earlier (l ∷ lines) (t ∷ texts) [] asked p there inside h line = (
    subst (λ (m : RequestLine). IsReplyLine c updates client earlier m t p) (sym (same_Some l asked there))
        (subst (λ (before : List Answered). IsReplyLine c updates client before asked t p) (append-nil earlier) line),
    tt,
  )
  right_more zero earlier (l ∷ lines) (t ∷ texts) (q ∷ ps) asked p there inside h line = absurd h
  right_more (suc n) earlier (l ∷ lines) (t ∷ texts) [] asked p there inside h line = absurd h
  right_more (suc n) earlier (l ∷ lines) (t ∷ texts) (q ∷ ps) asked p there inside h line = (
    h.0,
    right_more n (earlier ++ one l q ∷ []) lines texts ps asked p there (omega arith) h.1
        (subst (λ (before : List Answered). IsReplyLine c updates client before asked (text_at texts n) p)
        (sym (append_assoc earlier (one l q ∷ []) (answered_lines (take n lines) ps))) line),
  )

  -- and their answers
  pub answered_more : (n : ℕ) (earlier : List Answered) (lines : List RequestLine) (texts : List (List ℕ)) (ps : List Placed) (asked : RequestLine) (p : Placed)
      → slice_get lines n ≡ Some asked → AreReplies c updates client earlier (take n lines) (take n texts) ps
      → answered_lines (take (suc n) lines) (ps ++ p ∷ []) ≡ answered_lines (take n lines) ps ++ one asked p ∷ []
  answered_more n earlier [] texts ps asked p there h = cc
  answered_more zero earlier (l ∷ lines) texts [] asked p there h = ap (λ (m : RequestLine). one m p ∷ []) (same_Some l asked there)
  answered_more zero earlier (l ∷ lines) [] (q ∷ ps) asked p there h = absurd h
  answered_more zero earlier (l ∷ lines) (t ∷ texts) (q ∷ ps) asked p there h = absurd h
  answered_more (suc n) earlier (l ∷ lines) [] ps asked p there h = absurd h
  answered_more (suc n) earlier (l ∷ lines) (t ∷ texts) [] asked p there h = absurd h
  answered_more (suc n) earlier (l ∷ lines) (t ∷ texts) (q ∷ ps) asked p there h =
      ap (λ (rest : List Answered). one l q ∷ rest) (answered_more n (earlier ++ one l q ∷ []) lines texts ps asked p there h.1)
