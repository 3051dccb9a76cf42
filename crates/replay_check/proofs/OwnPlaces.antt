-- The tables of own places go on with one more update.
use Rattle.std.proofs.Common.{◌≡◌, ℕ, ◌+◌, ◌<◌, List, [], ◌∷◌, ◌++◌, length, set, get_or, Option, Some, None, inl, inr, refl, sym, ap, ◌∙◌, subst, arith}
use Rattle.std.specs.List.{slice_get}
use Rattle.std.proofs.lemmas.Bool.{cases_eq}
use Rattle.std.proofs.lemmas.List.{get_or-set_same, get_or-set_other, length-set, get_or_append_left, length_push}
use Rattle.std.proofs.lemmas.List.Elements.{All-push}
use Rattle.std.proofs.lemmas.Option.{same_Some, slice_get_within, slice_get-get_or, get_or_from_slice_get}
use Rattle.key_map.specs.declared.update.Update.{Update}
use Rattle.bucket_terms.specs.LegalRun.{RequestLine, IsOf, lines_of}
use Rattle.replay_check.specs.Turns.{IsOwnPlace}
use Rattle.replay_check.specs.Own.{AreOwn, history_of, entry_at}

-- the update is another line's: the line's place stays
stays : (us : List Update) (u : Update) (client line : ℕ) (own : Option ℕ) → ¬ (IsOf (history_of us client) line u)
    → IsOwnPlace (history_of us client) line own → IsOwnPlace (history_of (us ++ u ∷ []) client) line own
stays us u client line None other none =
    All-push (λ v. ¬ (IsOf (history_of (us ++ u ∷ []) client) line v)) us u
    (λ k d inside own. none k d inside (record { by = own.by; for_line = own.for_line })) (λ own. other (record { by = own.by; for_line = own.for_line }))
stays us u client line (Some place) other h =
    let i = h.0 in
    let v = h.1.0 in
    let inside : i < length us = slice_get_within us i v h.1.1.1.0 in
    let there : slice_get (us ++ u ∷ []) i ≡ Some v =
    slice_get-get_or (us ++ u ∷ []) i v (omega (arith, length_push us u, inside))
    ∙ ap (λ (w : Update). Some w) (get_or_append_left us (u ∷ []) v i inside ∙ get_or_from_slice_get us i v v h.1.1.1.0) in
    (i, (v, (h.1.1.0, (there, record { by = h.1.1.1.1.by; for_line = h.1.1.1.1.for_line }))))

-- the update is the line's: it stands after the others
enters : (us : List Update) (u : Update) (client line : ℕ) → IsOf (history_of us client) line u → IsOwnPlace (history_of (us ++ u ∷ []) client) line (Some (length us + 1))
enters us u client line own =
    let there : slice_get (us ++ u ∷ []) (length us) ≡ Some u =
    slice_get-get_or (us ++ u ∷ []) (length us) u (omega (arith, length_push us u)) ∙ ap (λ (w : Update). Some w) (at_end us) in
    (length us, (u, (refl, (there, record { by = own.by; for_line = own.for_line }))))
  where
    at_end : (xs : List Update) → get_or (xs ++ u ∷ []) (length xs) u ≡ u
    at_end [] = refl
    at_end (x ∷ xs) = at_end xs

module _ (parts : List (List RequestLine)) (us : List Update) (tables : List (List (Option ℕ))) (own : AreOwn parts us tables)
    (rising : (client i j : ℕ) (l m : RequestLine) → slice_get (lines_of parts client) i ≡ Some l → slice_get (lines_of parts client) j ≡ Some m → l.line ≡ m.line → i ≡ j)
    (u : Update) (client place : ℕ) (l : RequestLine) (inside : client < length parts) (there : slice_get (lines_of parts client) place ≡ Some l)
    (by : u.client ≡ client) (line : u.line ≡ l.line) where
  abbrev table : List (Option ℕ)
  table = set (get_or tables client []) place (Some (length us + 1))

  abbrev later : List (List (Option ℕ))
  later = set tables client table

  here_is : get_or later client [] ≡ table
  here_is = get_or-set_same tables client table [] (omega (arith, own.clients, inside))

  short : place < length (get_or tables client [])
  short = let count = own.count client inside in let within : place < length (lines_of parts client) = slice_get_within (lines_of parts client) place l there in omega arith

  entry_here : entry_at later client place ≡ Some (length us + 1)
  entry_here = ap (λ (t : List (Option ℕ)). get_or t place None) here_is ∙ get_or-set_same (get_or tables client []) place (Some (length us + 1)) None short

  entry_beside : (p : ℕ) → (p ≡ place → ⊥) → entry_at later client p ≡ entry_at tables client p
  entry_beside p other = ap (λ (t : List (Option ℕ)). get_or t p None) here_is ∙ get_or-set_other (get_or tables client []) place p (Some (length us + 1)) None other

  at_client : (p : ℕ) (m : RequestLine) → slice_get (lines_of parts client) p ≡ Some m → IsOwnPlace (history_of (us ++ u ∷ []) client) m.line (entry_at later client p)
  at_client p m here =
      elim (cases_eq p place) [
        | inl same ↦
            let one : l ≡ m = same_Some l m (sym there ∙ ap (λ (k : ℕ). slice_get (lines_of parts client) k) (sym same) ∙ here) in
            let line_is : u.line ≡ m.line = line ∙ ap (λ (x : RequestLine). x.line) one in
            let entry : entry_at later client p ≡ Some (length us + 1) = ap (entry_at later client) same ∙ entry_here in
            subst (IsOwnPlace (history_of (us ++ u ∷ []) client) m.line) (sym entry) (enters us u client m.line (record { by = by; for_line = line_is }))
        | inr other ↦
            subst (IsOwnPlace (history_of (us ++ u ∷ []) client) m.line) (sym (entry_beside p other))
            (stays us u client m.line (entry_at tables client p) (λ is. other (sym (rising client place p l m there here (sym line ∙ is.for_line)))) (own.each client p m inside here))
      ]

  at_other : (c p : ℕ) (m : RequestLine) → (c ≡ client → ⊥) → c < length parts → slice_get (lines_of parts c) p ≡ Some m → IsOwnPlace (history_of (us ++ u ∷ []) c) m.line (entry_at later c p)
  at_other c p m other within here =
      let entry : entry_at later c p ≡ entry_at tables c p = ap (λ (t : List (Option ℕ)). get_or t p None) (get_or-set_other tables client c table [] other) in
      subst (IsOwnPlace (history_of (us ++ u ∷ []) c) m.line) (sym entry)
      (stays us u c m.line (entry_at tables c p) (λ is. other (sym is.by ∙ by)) (own.each c p m within here))

  pub entered : AreOwn parts (us ++ u ∷ []) (set tables client (set (get_or tables client []) place (Some (length us + 1))))
  entered = record {
    clients = length-set tables client table ∙ own.clients;
    count = λ c within. elim (cases_eq c client) [
      | inl same ↦ subst (λ (k : ℕ). length (get_or later k []) ≡ length (lines_of parts k)) (sym same)
          (ap length here_is ∙ length-set (get_or tables client []) place (Some (length us + 1)) ∙ own.count client inside)
      | inr other ↦ ap length (get_or-set_other tables client c table [] other) ∙ own.count c within
    ];
    each = λ c p m within here. elim (cases_eq c client) [
      | inl same ↦ subst (λ (k : ℕ). IsOwnPlace (history_of (us ++ u ∷ []) k) m.line (entry_at later k p)) (sym same)
          (at_client p m (subst (λ (k : ℕ). slice_get (lines_of parts k) p ≡ Some m) same here))
      | inr other ↦ at_other c p m other within here
    ];
  }
