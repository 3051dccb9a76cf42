-- Each request has an answer at the end of a history: what it is on the map after all updates.
use Rattle.std.proofs.Common.{◌≡◌, ℕ, zero, suc, ◌+◌, ◌-◌, ◌<◌, ◌≤◌, Bool, true, false, All, MatchOption, IfSome, Contains, List, [], ◌∷◌, ◌++◌, Option, Some, None, inl, inr, length, get_or, refl, sym, ap, ◌∙◌, subst, arith, append-nil}
use Rattle.std.specs.Bool.{⊤}
use Rattle.std.specs.List.{slice_get}
use Rattle.std.proofs.lemmas.Bool.{cases_Bool}
use Rattle.std.proofs.lemmas.List.{length_push, get_or_default}
use Rattle.std.proofs.lemmas.Option.{same_Some, none-some, get_or_from_slice_get, slice_get_within}
use Rattle.key_names.specs.Names.{IsRank}
use Rattle.key_map.specs.declared.update.Update.{Update}
use Rattle.key_map.specs.declared.update.Change.{Change}
use Rattle.key_map.specs.declared.update.Change.TheVariants.{Put as PutVal, Remove}
use Rattle.key_map.specs.KeyMap.{map_has, map_get, after}
use Rattle.key_map.proofs.HistoryLaws.{after-append}
use Rattle.bucket_terms.specs.declared.list_query.ListQuery.{ListQuery}
use Rattle.bucket_terms.specs.declared.request.Request.{Request}
use Rattle.bucket_terms.specs.declared.request.Request.TheVariants.{Put, PutNew, Delete, Head, List as ListRequest, ListV1, Next}
use Rattle.bucket_terms.specs.declared.reply.Reply.{Reply}
use Rattle.bucket_terms.specs.declared.reply.Reply.TheVariants.{Put as PutReply, Exists, Deleted, Found, Missing, Listed, ListedV1, BadToken}
use Rattle.bucket_terms.specs.declared.reply.Placed.{Placed}
use Rattle.bucket_terms.specs.Listing.{page_of, v1_page}
use Rattle.bucket_terms.specs.LegalRun.{Setting, RequestLine, Answered, Resumed, IsOf, IsRight, IsAnswered, IsMadeBy, IsChangeOf, KeepsOrder, UpdateStands, MakesNone, update_at, last_listing, next_of}
use Rattle.bucket_terms.specs.RunParts.{IsPlacedUpTo, IsPlacedBelow}
use Rattle.bucket_terms.proofs.Finds.{map_get-absent, map_get-present}
use Rattle.request_lines.specs.SessionLaws.{IsAskable}
use Rattle.client_run.proofs.Places.{slice_get-append_back}
use Rattle.client_run.proofs.Longer.{over}
use Rattle.begun_runs.proofs.Resolving.{resolved}

-- an answer of the line, after these earlier ones and all updates, and the updates that it adds
pub record Follows (s : Setting) (earlier : List Answered) (l : RequestLine) : Type 0 where
  pub more : List Update
  pub placed : Placed
  pub answered : IsAnswered (over s (s.updates ++ more)) earlier l placed
  pub made : (i : ℕ) (u : Update) → slice_get more i ≡ Some u
      → (u.client ≡ s.client) × IsMadeBy s.dir u (length s.updates + i + 1) (record { asked = l; placed = placed })

rank_in : (dir : List (List ℕ)) (name : List ℕ) → Contains dir name → (key : ℕ) × IsRank dir name key
rank_in dir name h = (h.0, record { below = h.1; is = get_or_default dir h.0 [] name h.1 ∙ h.2 })

each_of : {X : Type 0} (o : Option X) (P : X → Type 0) → ((x : X) → P x) → IfSome o P
each_of None P each = tt
each_of (Some x) P each = each x

upto_later : (m : ℕ) (at : Option ℕ) → MatchOption at ⊤ (λ place. place ≤ m) → MatchOption at ⊤ (λ place. place ≤ m + 1)
upto_later m None h = tt
upto_later m (Some place) h = omega arith

below_later : (m : ℕ) (at : Option ℕ) → MatchOption at ⊤ (λ place. place ≤ m) → MatchOption at ⊤ (λ place. place < m + 1)
below_later m None h = tt
below_later m (Some place) h = omega arith

-- the client's earlier answers have places of the history, which has no update of the line
module _ (s : Setting) (earlier : List Answered) (line : ℕ) (upto : All (IsPlacedUpTo (length s.updates)) earlier) (none : MakesNone s line) where
  abbrev asked_line : Request → RequestLine
  asked_line request = record { line = line; request = request }

  -- ---- no update is added

  not_of : (k : ℕ) (u : Update) → slice_get s.updates k ≡ Some u → ¬ (IsOf s line u)
  not_of k u here = subst (λ (v : Update). ¬ (IsOf s line v)) (get_or_from_slice_get s.updates k u u here) (none k u (slice_get_within s.updates k u here))

  above_none : (at : ℕ) → IfSome (update_at s at) (λ u. IsOf s line u → All (IsPlacedBelow at) earlier)
  above_none zero = tt
  above_none (suc k) = by_found (slice_get s.updates k) refl
    where
      by_found : (found : Option Update) → slice_get s.updates k ≡ found → IfSome found (λ u. IsOf s line u → All (IsPlacedBelow (suc k)) earlier)
      by_found None here = tt
      by_found (Some u) here = λ is. absurd (not_of k u here is)

  last_place : KeepsOrder s earlier line (length s.updates)
  last_place = record { within = omega arith; not_below = upto; above = above_none (length s.updates) }

  unchanged : (request : Request) (at : Option ℕ) (reply : Reply) → MatchOption at ⊤ (KeepsOrder s earlier line)
      → IsRight s (last_listing earlier) (asked_line request) at reply → Follows s earlier (asked_line request)
  unchanged request at reply order right =
      let placed : Placed = record { client = s.client; line = line; at = at; reply = reply } in
      let answer : IsAnswered s earlier (asked_line request) placed = record { client = refl; line = refl; order = order; right = right } in
      record {
        more = [];
        placed = placed;
        answered = subst (λ (us : List Update). IsAnswered (over s us) earlier (asked_line request) placed) (sym (append-nil s.updates)) answer;
        made = λ i u here. absurd (none-some u here);
      }

  -- ---- an update is added

  module _ (key : ℕ) (change : Change) where
    abbrev update : Update
    update = record { client = s.client; line = line; key = key; change = change }

    abbrev longer : Setting
    longer = over s (s.updates ++ update ∷ [])

    next_place : KeepsOrder longer earlier line (length s.updates + 1)
    next_place = record {
      within = omega (arith, length_push s.updates update);
      not_below = λ k d below. upto_later (length s.updates) (get_or earlier k d).placed.at (upto k d below);
      above = each_of (update_at longer (length s.updates + 1)) (λ u. IsOf longer line u → All (IsPlacedBelow (length s.updates + 1)) earlier)
          (λ u is k d below. below_later (length s.updates) (get_or earlier k d).placed.at (upto k d below));
    }

    added : (request : Request) (reply : Reply) → IsChangeOf s.dir update request
        → IsRight longer (last_listing earlier) (asked_line request) (Some (length s.updates + 1)) reply → Follows s earlier (asked_line request)
    added request reply changes right = record {
      more = update ∷ [];
      placed = placed;
      answered = record { client = refl; line = refl; order = next_place; right = right };
      made = only;
    }
      where
        placed : Placed
        placed = record { client = s.client; line = line; at = Some (length s.updates + 1); reply = reply }

        IsAdded : ℕ → Update → Type 0
        IsAdded i u = (u.client ≡ s.client) × IsMadeBy s.dir u (length s.updates + i + 1) (record { asked = asked_line request; placed = placed })

        only : (i : ℕ) (u : Update) → slice_get (update ∷ []) i ≡ Some u → IsAdded i u
        only zero u here =
            let at : length s.updates + 1 ≡ length s.updates + 0 + 1 = omega arith in
            subst (IsAdded 0) (same_Some update u here) (refl, record { line = refl; place = ap Some at; change = changes })
        only (suc i) u here = absurd (none-some u here)

    stands_here : update_at longer (length s.updates + 1) ≡ Some update
    stands_here =
        let next : length s.updates + 1 ≡ suc (length s.updates) = omega arith in
        let first : length s.updates - length s.updates ≡ 0 = omega arith in
        ap (update_at longer) next ∙ slice_get-append_back s.updates (update ∷ []) (length s.updates) (omega arith)
        ∙ ap (λ (n : ℕ). slice_get (update ∷ []) n) first

    stands : (name : List ℕ) (was : Bool) → IsRank s.dir name key → was ≡ map_has key (after s.updates (length s.updates))
        → UpdateStands longer line name change was (length s.updates + 1)
    stands name was rank before =
        let back : length s.updates + 1 - 1 ≡ length s.updates = omega arith in
        let same : after (s.updates ++ update ∷ []) (length s.updates + 1 - 1) ≡ after s.updates (length s.updates) =
        ap (after (s.updates ++ update ∷ [])) back ∙ after-append s.updates (update ∷ []) (length s.updates) (omega arith) in
        record { key = key; rank = rank; update = stands_here; before = before ∙ sym (ap (map_has key) same) }

  -- ---- each request

  put : (name : List ℕ) (val key : ℕ) → IsRank s.dir name key → Follows s earlier (asked_line (Put name val))
  put name val key rank =
      let was = map_has key (after s.updates (length s.updates)) in
      added key (PutVal val) (Put name val) (PutReply was) (rank, refl) (stands key (PutVal val) name was rank refl)

  put_new : (name : List ℕ) (val key : ℕ) → IsRank s.dir name key → Follows s earlier (asked_line (PutNew name val))
  put_new name val key rank =
      elim (cases_Bool (map_has key (after s.updates (length s.updates)))) [
        | inl there ↦
            let found = map_get-present key (after s.updates (length s.updates)) there in
            unchanged (PutNew name val) (Some (length s.updates)) Exists last_place ((found.0, record { key = key; rank = rank; value = found.1 }), none)
        | inr absent ↦ added key (PutVal val) (PutNew name val) (PutReply false) (rank, refl) (stands key (PutVal val) name false rank (sym absent))
      ]

  delete : (name : List ℕ) (key : ℕ) → IsRank s.dir name key → Follows s earlier (asked_line (Delete name))
  delete name key rank =
      elim (cases_Bool (map_has key (after s.updates (length s.updates)))) [
        | inl there ↦ added key Remove (Delete name) Deleted (rank, refl) (inl (stands key Remove name true rank (sym there)))
        | inr absent ↦
            let found = map_get-absent key (after s.updates (length s.updates)) absent in
            unchanged (Delete name) (Some (length s.updates)) Deleted last_place (inr (record { key = key; rank = rank; value = found }, none))
      ]

  head : (name : List ℕ) (key : ℕ) → IsRank s.dir name key → Follows s earlier (asked_line (Head name))
  head name key rank = by_value (map_get key (after s.updates (length s.updates))) refl
    where
      by_value : (found : Option ℕ) → map_get key (after s.updates (length s.updates)) ≡ found → Follows s earlier (asked_line (Head name))
      by_value None is = unchanged (Head name) (Some (length s.updates)) Missing last_place (record { key = key; rank = rank; value = is })
      by_value (Some val) is = unchanged (Head name) (Some (length s.updates)) (Found val) last_place (record { key = key; rank = rank; value = is })

  list : (query : ListQuery) → Follows s earlier (asked_line (ListRequest query))
  list query =
      elim (resolved query) [
        | inl from ↦
            let page = page_of s.dir query from.0 (after s.updates (length s.updates)) in
            unchanged (ListRequest query) (Some (length s.updates)) (Listed query page) last_place (from.0, (from.1, (refl, refl)))
        | inr nowhere ↦ unchanged (ListRequest query) None BadToken tt nowhere
      ]

  next : Follows s earlier (asked_line Next)
  next = by_next (next_of s.dir (last_listing earlier)) refl
    where
      by_next : (goes_on : Option Resumed) → next_of s.dir (last_listing earlier) ≡ goes_on → Follows s earlier (asked_line Next)
      by_next None is = unchanged Next None BadToken tt is
      by_next (Some r) is =
          let page = page_of s.dir r.query (Some r.point) (after s.updates (length s.updates)) in
          unchanged Next (Some (length s.updates)) (Listed r.query page) last_place (r, (is, (refl, refl)))

  -- each request has an answer
  pub follows : (request : Request) → IsAskable s.dir (asked_line request) → Follows s earlier (asked_line request)
  follows (Put name val) askable = let rank = rank_in s.dir name askable in put name val rank.0 rank.1
  follows (PutNew name val) askable = let rank = rank_in s.dir name askable in put_new name val rank.0 rank.1
  follows (Delete name) askable = let rank = rank_in s.dir name askable in delete name rank.0 rank.1
  follows (Head name) askable = let rank = rank_in s.dir name askable in head name rank.0 rank.1
  follows (ListRequest query) askable = list query
  follows (ListV1 query) askable =
      let page = v1_page s.dir query (after s.updates (length s.updates)) in
      unchanged (ListV1 query) (Some (length s.updates)) (ListedV1 query page) last_place (refl, refl)
  follows Next askable = next
