-- Requests that keep to some keys: their pages, the last listing, and their updates.
use Rattle.std.proofs.Common.{◌≡◌, ℕ, ◌+◌, ◌<◌, Bool, true, false, List, [], ◌∷◌, length, map, take, filter, eqb, refl, sym, ap, ◌∙◌, subst, arith, Option, Some, None, All, Any}
use Rattle.std.specs.List.{slice_get, dedup}
use Rattle.std.specs.Option.{option_map}
use Rattle.std.proofs.lemmas.Bool.{eqb-true, eq-eqb, false≢true}
use Rattle.std.proofs.lemmas.List.Elements.{All-take}
use Rattle.std.proofs.lemmas.Option.{same_Some}
use Rattle.key_names.specs.Names.{Rises, name_at}
use Rattle.key_map.specs.declared.pair.Pair.{Pair}
use Rattle.key_map.specs.declared.update.Update.{Update}
use Rattle.key_map.specs.KeyMap.{after}
use Rattle.bucket_terms.specs.declared.list_query.ListQuery.{ListQuery}
use Rattle.bucket_terms.specs.declared.token_point.TokenPoint.{TokenPoint}
use Rattle.bucket_terms.specs.declared.request.Request.{Request}
use Rattle.bucket_terms.specs.declared.request.Request.TheVariants.{Put, PutNew, Delete, Head, List as ListRequest, ListV1, Next}
use Rattle.bucket_terms.specs.declared.reply.Reply.{Reply}
use Rattle.bucket_terms.specs.declared.reply.Reply.TheVariants.{Listed}
use Rattle.bucket_terms.specs.declared.reply.Placed.{Placed}
use Rattle.bucket_terms.specs.Listing.{is_under, is_admitted, entry_of, is_same_group, next_token, entries_of, page_of, page_point}
use Rattle.bucket_terms.specs.PageParts.{cut_at}
use Rattle.bucket_terms.specs.LegalRun.{RequestLine, Answered, Run, IsLegal, IsChangeOf, IsMadeBy, Resumed, next_of, answered_lines, lines_of, replies_of}
use Rattle.sample_laws.specs.Own.{updates_of}
use Rattle.sample_laws.proofs.Ranks.{rank_of-is}
use Rattle.sample_laws.proofs.Parts.{part, made_by, part-after, filter-same}
use Rattle.sample_laws.proofs.Places.{any_all}
use Rattle.sample_laws.proofs.OwnNames.{asked_all, all_from_get}
use Rattle.run_laws.specs.Untouched.{KeepsTo, LeavesAlone, IsUntouched}

-- ---- a page rests on the pairs under its prefix

-- what the first test leaves out may be left out before
filter-under : {X : Type 0} (f g h : X → Bool) (xs : List X) → ((x : X) → f x ≡ true → h x ≡ true)
    → filter f (filter g xs) ≡ filter f (filter g (filter h xs))
filter-under f g h [] under = refl
filter-under f g h (x ∷ xs) under =
    let rest = filter-under f g h xs under in
    let mine = under x in
    grind arith

pub page-part : (dir : List (List ℕ)) (own : ℕ → Bool) (query : ListQuery) (point : Option TokenPoint) (m : List Pair) → KeepsTo dir own (ListRequest query)
    → page_of dir query point m ≡ page_of dir query point (part own m)
unfolding entries_of
page-part dir own query point m keeps =
    let admits = λ (p : Pair). is_admitted query point (name_at dir p.key) in
    ap (λ (ps : List Pair). cut_at query.max_keys (dedup (is_same_group dir) (map (entry_of dir query) ps)))
    (filter-under (is_under dir query) admits (λ (p : Pair). own p.key) m keeps)

-- ---- the last listing keeps to the keys

-- the query of the last listing's reply names only such keys
abbrev pub LastKeeps : List (List ℕ) → (ℕ → Bool) → Option Reply → Type 0
LastKeeps dir own (Some (Listed query page)) = KeepsTo dir own (ListRequest query)
LastKeeps dir own last = Unit {0}

pub next-keeps : (dir : List (List ℕ)) (own : ℕ → Bool) (last : Option Reply) (next : Resumed) → LastKeeps dir own last → next_of dir last ≡ Some next
    → KeepsTo dir own (ListRequest next.query)
next-keeps dir own (Some (Listed query page)) next keeps e = by_point (page_point dir page) e
  where
    by_point : (o : Option TokenPoint)
        → option_map (λ (point : TokenPoint). record { query = record query { token = next_token query point }; point = point }) o ≡ Some next
        → KeepsTo dir own (ListRequest next.query)
    by_point None e = cc
    by_point (Some point) e =
        let same = same_Some (record { query = record query { token = next_token query point }; point = point }) next e in
        subst (λ (n : Resumed). KeepsTo dir own (ListRequest n.query)) same keeps
next-keeps dir own last next keeps e = cc

-- ---- the keys of updates

-- a request that keeps to the keys changes one of them, and one that leaves them alone changes another key
kept_change : (dir : List (List ℕ)) (own : ℕ → Bool) (u : Update) (request : Request) → Rises dir → KeepsTo dir own request → IsChangeOf dir u request → own u.key ≡ true
kept_change dir own u (Put name val) rising keeps change = subst (λ (key : ℕ). own key ≡ true) (rank_of-is dir name u.key rising change.0) keeps
kept_change dir own u (PutNew name val) rising keeps change = subst (λ (key : ℕ). own key ≡ true) (rank_of-is dir name u.key rising change.0) keeps
kept_change dir own u (Delete name) rising keeps change = subst (λ (key : ℕ). own key ≡ true) (rank_of-is dir name u.key rising change.0) keeps
kept_change dir own u (Head name) rising keeps change = absurd change
kept_change dir own u (ListRequest query) rising keeps change = absurd change
kept_change dir own u (ListV1 query) rising keeps change = absurd change
kept_change dir own u Next rising keeps change = absurd change

other_change : (dir : List (List ℕ)) (own : ℕ → Bool) (u : Update) (request : Request) → Rises dir → LeavesAlone dir own request → IsChangeOf dir u request → own u.key ≡ false
other_change dir own u (Put name val) rising left change = subst (λ (key : ℕ). own key ≡ false) (rank_of-is dir name u.key rising change.0) left
other_change dir own u (PutNew name val) rising left change = subst (λ (key : ℕ). own key ≡ false) (rank_of-is dir name u.key rising change.0) left
other_change dir own u (Delete name) rising left change = subst (λ (key : ℕ). own key ≡ false) (rank_of-is dir name u.key rising change.0) left
other_change dir own u (Head name) rising left change = absurd change
other_change dir own u (ListRequest query) rising left change = absurd change
other_change dir own u (ListV1 query) rising left change = absurd change
other_change dir own u Next rising left change = absurd change

-- what holds of each line holds of the one that made the update
line_of : (P : Request → Type 0) (dir : List (List ℕ)) (u : Update) (at : ℕ) (lines : List RequestLine) (replies : List Placed)
    → All (λ (l : RequestLine). P l.request) lines → Any (IsMadeBy dir u at) (answered_lines lines replies) → (a : Answered) × (IsMadeBy dir u at a × P a.asked.request)
line_of P dir u at lines replies all made =
    any_all (IsMadeBy dir u at) (λ (a : Answered). P a.asked.request) (answered_lines lines replies) made (asked_all (λ (l : RequestLine). P l.request) lines replies all)

module _ (dir : List (List ℕ)) (own : ℕ → Bool) (parts : List (List RequestLine)) (slots : ℕ → ℕ) (run : Run) (c : ℕ)
    (rising : Rises dir) (untouched : IsUntouched dir own parts c) (legal : IsLegal dir parts slots run) where
  -- a key that an update has is one of these exactly if the update is the client's
  same_test : (i : ℕ) (u : Update) → slice_get run.updates i ≡ Some u → own u.key ≡ eqb u.client c
  same_test i u here = by_test (eqb u.client c) refl
    where
      made : (u.client < length parts) × Any (IsMadeBy dir u (i + 1)) (answered_lines (lines_of parts u.client) (replies_of run u.client))
      made = legal.made i u here

      by_test : (b : Bool) → eqb u.client c ≡ b → own u.key ≡ b
      by_test true mine =
          let keeps = subst (λ (d : ℕ). All (λ (l : RequestLine). KeepsTo dir own l.request) (lines_of parts d)) (sym (eqb-true u.client c mine)) untouched.keeps in
          let line = line_of (KeepsTo dir own) dir u (i + 1) (lines_of parts u.client) (replies_of run u.client) keeps made.1 in
          kept_change dir own u line.0.asked.request rising line.1.1 line.1.0.change
      by_test false other =
          let left = untouched.left u.client made.0 (λ same. false≢true (sym other ∙ eq-eqb u.client c same)) in
          let line = line_of (LeavesAlone dir own) dir u (i + 1) (lines_of parts u.client) (replies_of run u.client) left made.1 in
          other_change dir own u line.0.asked.request rising line.1.1 line.1.0.change

  pub split : (t : ℕ) → part own (after run.updates t) ≡ made_by (updates_of c (take t run.updates))
  split t =
      part-after own run.updates t
      ∙ ap made_by (filter-same (λ (u : Update). own u.key) (λ (u : Update). eqb u.client c) (take t run.updates)
      (All-take (λ (u : Update). own u.key ≡ eqb u.client c) t run.updates
      (all_from_get (λ (u : Update). own u.key ≡ eqb u.client c) run.updates same_test)))
