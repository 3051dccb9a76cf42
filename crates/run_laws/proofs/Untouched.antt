-- A client that keeps to names that no other client changes is answered as if it were alone.
use Rattle.std.proofs.Common.{◌≡◌, ℕ, zero, suc, ◌+◌, ◌-◌, ◌<◌, ◌⊎◌, Bool, true, false, if◌then◌else◌, List, [], ◌∷◌, ◌++◌, length, map, refl, sym, ap, ◌∙◌, subst, arith, inl, inr, Option, Some, None, All, Any}
use Rattle.std.specs.Bool.{IsTrue}
use Rattle.std.proofs.lemmas.List.Elements.{All-head, All-tail}
use Rattle.std.proofs.lemmas.Option.{same_Some, slice_get_within, get_or_from_slice_get}
use Rattle.key_names.specs.Names.{Rises, IsRank}
use Rattle.key_map.specs.declared.update.Update.{Update}
use Rattle.key_map.specs.declared.update.Change.{Change}
use Rattle.key_map.specs.declared.update.Change.TheVariants.{Put as PutVal, Remove}
use Rattle.key_map.specs.KeyMap.{map_has, map_get, after}
use Rattle.bucket_terms.specs.declared.list_query.ListQuery.{ListQuery}
use Rattle.bucket_terms.specs.declared.v1_query.V1Query.{V1Query}
use Rattle.bucket_terms.specs.declared.token_point.TokenPoint.{TokenPoint}
use Rattle.bucket_terms.specs.declared.page.Page.{Page}
use Rattle.bucket_terms.specs.declared.request.Request.{Request}
use Rattle.bucket_terms.specs.declared.request.Request.TheVariants.{Put, PutNew, Delete, Head, List as ListRequest, ListV1, Next}
use Rattle.bucket_terms.specs.declared.reply.Reply.{Reply}
use Rattle.bucket_terms.specs.declared.reply.Reply.TheVariants.{Put as PutReply, Exists, Deleted, Found, Missing, Listed, ListedV1, BadToken, NoSlot}
use Rattle.bucket_terms.specs.declared.reply.Placed.{Placed}
use Rattle.bucket_terms.specs.Listing.{page_of, plain, marker_point, v1_page}
use Rattle.bucket_terms.specs.LegalRun.{RequestLine, Setting, Answered, IsRight, IsOf, IsChangeOf, IsMadeBy, HasUsedItsSlots, UpdateStands, Finds, Lists, Resumed, AreAnswered, next_of, update_at, last_listing, answered_lines, lines_of, replies_of}
use Rattle.bucket_terms.specs.RunParts.{IsPlacedBelow, head_by, setting_of, ListsV1}
use Rattle.bucket_terms.proofs.Finds.{map_has-none, map_has-some}
use Rattle.bucket_terms.proofs.LastListing.{last_listing-push}
use Rattle.sample_laws.specs.Alone.{rank_of}
use Rattle.sample_laws.specs.Own.{updates_of}
use Rattle.sample_laws.specs.Finds.{map_of}
use Rattle.sample_laws.proofs.Ranks.{rank_of-is}
use Rattle.sample_laws.proofs.Parts.{part, made_by, map_has-part, map_get-part}
use Rattle.sample_laws.proofs.Places.{own_upto, AreMadeBy, IsFront, front_start, front_placed, front_refused, order_at, own_above, own_behind, none_left, update_at-next}
use Rattle.sample_laws.proofs.Steps.{Stays, Adds, step, made_next, updates_counted}
use Rattle.sample_laws.proofs.OwnNames.{whole}
use Rattle.sample_laws.proofs.Alone.{used-le}
use Rattle.run_laws.specs.Alone.{IsResolved, Outcome, makes, looks, next_on, outcome_on, placed_as, later_listing, AreAlone}
use Rattle.run_laws.specs.Untouched.{KeepsTo, UntouchedLaw}
use Rattle.run_laws.proofs.AloneAnswers.{front_behind}
use Rattle.run_laws.proofs.KeptKeys.{page-part, LastKeeps, next-keeps, split}

-- ---- one answer

-- the outcome of a request after the client's updates up to the place `p` is its outcome alone
record Comes (s : Setting) (own : ℕ → Bool) (p : ℕ) (last : Option Reply) (line : ℕ) (request : Request) (o : Option ℕ) (reply : Reply) : Type 0 where
  start : Option (Option TokenPoint)
  resolved : IsResolved request start
  reply_is : reply ≡ (outcome_on s.dir s.client (own_upto s p) last line request start).reply
  behind : own_upto s (front_behind o p) ≡ (outcome_on s.dir s.client (own_upto s p) last line request start).updates
  kept : LastKeeps s.dir own (later_listing request reply last)

-- what is known of the place of an answer
abbrev Known : Setting → ℕ → ℕ → Answered → ℕ → Type 0
Known s line p a q = ((u : Update) → update_at s q ≡ Some u → IsOf s line u → p < q) × (Stays s p q ⊎ Adds s p q a)

-- the requests that are left are answered as if the client were alone
record GoesOn (s : Setting) (p : ℕ) (last : Option Reply) (lines : List RequestLine) (replies : List Placed) : Type 0 where
  placed : List Placed
  alone : AreAlone s.dir s.client (own_upto s p) last lines placed (updates_of s.client s.updates)
  same : map (λ (r : Placed). r.reply) replies ≡ map (λ (r : Placed). r.reply) placed

module _ (s : Setting) (own : ℕ → Bool) (rising : Rises s.dir) (split : (t : ℕ) → part own (after s.updates t) ≡ made_by (own_upto s t)) where
  own_map : (t : ℕ) → part own (after s.updates t) ≡ map_of (own_upto s t)
  own_map t = split t ∙ sym (whole (own_upto s t))

  is_own : (name : List ℕ) (key : ℕ) → IsTrue (own (rank_of s.dir name)) → IsRank s.dir name key → own key ≡ true
  is_own name key keeps rank = subst (λ (k : ℕ). own k ≡ true) (rank_of-is s.dir name key rising rank) keeps

  -- ---- a request's own update

  own_adds : (p q line : ℕ) (name : List ℕ) (change : Change) (was : Bool) (a : Answered) → UpdateStands s line name change was q → Known s line p a q → Adds s p q a
  own_adds p q line name change was a stands (strict, inr adds) = adds
  own_adds p q line name change was a stands (strict, inl stays) =
      let u : Update = record { client = s.client; line = line; key = stands.key; change = change } in
      let low = stays.none u stands.update refl in
      let high = strict u stands.update (record { by = refl; for_line = refl }) in
      absurd (omega arith)

  module _ (p q line : ℕ) (name : List ℕ) (change : Change) (was : Bool) (a : Answered) (keeps : IsTrue (own (rank_of s.dir name)))
      (stands : UpdateStands s line name change was q) (adds : Adds s p q a) where
    had : was ≡ map_has (rank_of s.dir name) (map_of (own_upto s p))
    had =
        let next = adds.next in
        let before : q - 1 ≡ adds.before = omega arith in
        stands.before ∙ ap (λ (t : ℕ). map_has stands.key (after s.updates t)) before
        ∙ map_has-part own stands.key (after s.updates adds.before) (is_own name stands.key keeps stands.rank)
        ∙ ap (map_has stands.key) (own_map adds.before ∙ ap map_of adds.as_before)
        ∙ ap (λ (k : ℕ). map_has k (map_of (own_upto s p))) (sym (rank_of-is s.dir name stands.key rising stands.rank))

    pushed : own_upto s q ≡ own_upto s p ++ record { client = s.client; line = line; key = rank_of s.dir name; change = change } ∷ []
    pushed =
        let u : Update = record { client = s.client; line = line; key = stands.key; change = change } in
        let here : update_at s q ≡ Some adds.update = ap (update_at s) adds.next ∙ update_at-next s adds.before ∙ adds.here in
        let is_u : adds.update ≡ u = same_Some adds.update u (sym here ∙ stands.update) in
        adds.more ∙ ap (λ (v : Update). own_upto s p ++ v ∷ []) is_u
        ∙ ap (λ (k : ℕ). own_upto s p ++ record { client = s.client; line = line; key = k; change = change } ∷ [])
        (sym (rank_of-is s.dir name stands.key rising stands.rank))

  -- ---- a look

  no_own : (p q line : ℕ) (a : Answered) → a.asked.line ≡ line → All (λ (u : Update). ¬ (IsOf s line u)) s.updates → Adds s p q a → ⊥
  no_own p q line a same none adds =
      let within : adds.before < length s.updates = slice_get_within s.updates adds.before adds.update adds.here in
      let here = get_or_from_slice_get s.updates adds.before adds.update adds.update adds.here in
      subst (λ (u : Update). ¬ (IsOf s line u)) here (none adds.before adds.update within) (record { by = adds.own; for_line = sym adds.made.line ∙ same })

  no_change : (request : Request) (p q : ℕ) (a : Answered) → a.asked.request ≡ request → ((u : Update) → IsChangeOf s.dir u request → ⊥) → Adds s p q a → ⊥
  no_change request p q a same never adds = never adds.update (subst (IsChangeOf s.dir adds.update) same adds.made.change)

  only_stays : (line p q : ℕ) (a : Answered) → (Adds s p q a → ⊥) → Known s line p a q → Stays s p q
  only_stays line p q a never (strict, inl stays) = stays
  only_stays line p q a never (strict, inr adds) = absurd (never adds)

  module _ (p q : ℕ) (stays : Stays s p q) where
    look_map : part own (after s.updates q) ≡ map_of (own_upto s p)
    look_map = own_map q ∙ ap map_of stays.same

    look_finds : (name : List ℕ) (value : Option ℕ) → IsTrue (own (rank_of s.dir name)) → Finds s name q value → map_get (rank_of s.dir name) (map_of (own_upto s p)) ≡ value
    look_finds name value keeps found =
        ap (λ (k : ℕ). map_get k (map_of (own_upto s p))) (rank_of-is s.dir name found.key rising found.rank)
        ∙ ap (map_get found.key) (sym look_map)
        ∙ sym (map_get-part own found.key (after s.updates q) (is_own name found.key keeps found.rank)) ∙ found.value

    look_lists : (query : ListQuery) (point : Option TokenPoint) (shown : ListQuery) (page : Page) → KeepsTo s.dir own (ListRequest query)
        → Lists s q query point shown page → Listed shown page ≡ Listed query (page_of s.dir query point (map_of (own_upto s p)))
    look_lists query point shown page keeps lists =
        ap (λ (asked : ListQuery). Listed asked page) lists.0
        ∙ ap (Listed query) (lists.1 ∙ page-part s.dir own query point (after s.updates q) keeps ∙ ap (page_of s.dir query point) look_map)

    look_v1 : (query shown : V1Query) (page : Page) → KeepsTo s.dir own (ListV1 query)
        → ListsV1 s q query shown page → ListedV1 shown page ≡ ListedV1 query (v1_page s.dir query (map_of (own_upto s p)))
    look_v1 query shown page keeps lists =
        ap (λ (asked : V1Query). ListedV1 asked page) lists.0
        ∙ ap (ListedV1 query) (lists.1 ∙ page-part s.dir own (plain query) (marker_point query) (after s.updates q) keeps ∙ ap (v1_page s.dir query) look_map)

  shown_keeps : (query shown : ListQuery) → shown ≡ query → KeepsTo s.dir own (ListRequest query) → KeepsTo s.dir own (ListRequest shown)
  shown_keeps query shown same keeps = subst (λ (asked : ListQuery). KeepsTo s.dir own (ListRequest asked)) (sym same) keeps

  -- ---- each request

  module _ (few : length (updates_of s.client s.updates) < s.slots) where
    no_want : (line : ℕ) → HasUsedItsSlots s line → ⊥
    no_want line used = absurd (omega (arith, used, used-le s line))

    comes : (last : Option Reply) (line : ℕ) (request : Request) (o : Option ℕ) (reply : Reply) (a : Answered) (p : ℕ)
        → LastKeeps s.dir own last → KeepsTo s.dir own request
        → IsRight s last (record { line = line; request = request }) o reply → a.asked ≡ record { line = line; request = request }
        → ((q : ℕ) → o ≡ Some q → Known s line p a q) → Comes s own p last line request o reply
    comes last line (Put name val) (Some q) (PutReply was) a p kept keeps right same known =
        let adds = own_adds p q line name (PutVal val) was a right (known q refl) in
        record {
          start = None;
          resolved = refl;
          reply_is = ap PutReply (had p q line name (PutVal val) was a keeps right adds);
          behind = pushed p q line name (PutVal val) was a keeps right adds;
          kept = kept;
        }
    comes last line (Put name val) None NoSlot a p kept keeps right same known = absurd (no_want line right)
    comes last line (PutNew name val) (Some q) (PutReply false) a p kept keeps right same known =
        let us = own_upto s p in
        let adds = own_adds p q line name (PutVal val) false a right (known q refl) in
        let out : Bool → Outcome = λ b. if b then looks us Exists else makes s.client line us (rank_of s.dir name) (PutVal val) (PutReply false) in
        let absent = had p q line name (PutVal val) false a keeps right adds in
        record {
          start = None;
          resolved = refl;
          reply_is = ap (λ b. (out b).reply) absent;
          behind = pushed p q line name (PutVal val) false a keeps right adds ∙ ap (λ b. (out b).updates) absent;
          kept = kept;
        }
    comes last line (PutNew name val) (Some q) Exists a p kept keeps right same known =
        let us = own_upto s p in
        let stays = only_stays line p q a (no_own p q line a (ap (λ (l : RequestLine). l.line) same) right.1) (known q refl) in
        let out : Bool → Outcome = λ b. if b then looks us Exists else makes s.client line us (rank_of s.dir name) (PutVal val) (PutReply false) in
        let there = sym (map_has-some (rank_of s.dir name) (map_of us) right.0.0 (look_finds p q stays name (Some right.0.0) keeps right.0.1)) in
        record {
          start = None;
          resolved = refl;
          reply_is = ap (λ b. (out b).reply) there;
          behind = stays.same ∙ ap (λ b. (out b).updates) there;
          kept = kept;
        }
    comes last line (PutNew name val) None NoSlot a p kept keeps right same known = absurd (no_want line right)
    comes last line (Delete name) (Some q) Deleted a p kept keeps (inl right) same known =
        let us = own_upto s p in
        let adds = own_adds p q line name Remove true a right (known q refl) in
        let out : Bool → Outcome = λ b. if b then makes s.client line us (rank_of s.dir name) Remove Deleted else looks us Deleted in
        let there = had p q line name Remove true a keeps right adds in
        record {
          start = None;
          resolved = refl;
          reply_is = ap (λ b. (out b).reply) there;
          behind = pushed p q line name Remove true a keeps right adds ∙ ap (λ b. (out b).updates) there;
          kept = kept;
        }
    comes last line (Delete name) (Some q) Deleted a p kept keeps (inr right) same known =
        let us = own_upto s p in
        let stays = only_stays line p q a (no_own p q line a (ap (λ (l : RequestLine). l.line) same) right.1) (known q refl) in
        let out : Bool → Outcome = λ b. if b then makes s.client line us (rank_of s.dir name) Remove Deleted else looks us Deleted in
        let absent = sym (map_has-none (rank_of s.dir name) (map_of us) (look_finds p q stays name None keeps right.0)) in
        record {
          start = None;
          resolved = refl;
          reply_is = ap (λ b. (out b).reply) absent;
          behind = stays.same ∙ ap (λ b. (out b).updates) absent;
          kept = kept;
        }
    comes last line (Delete name) None NoSlot a p kept keeps right same known = absurd (no_want line right)
    comes last line (Head name) (Some q) (Found val) a p kept keeps right same known =
        let stays = only_stays line p q a (no_change (Head name) p q a (ap (λ (l : RequestLine). l.request) same) (λ u h. h)) (known q refl) in
        record { start = None; resolved = refl; reply_is = sym (ap head_by (look_finds p q stays name (Some val) keeps right)); behind = stays.same; kept = kept }
    comes last line (Head name) (Some q) Missing a p kept keeps right same known =
        let stays = only_stays line p q a (no_change (Head name) p q a (ap (λ (l : RequestLine). l.request) same) (λ u h. h)) (known q refl) in
        record { start = None; resolved = refl; reply_is = sym (ap head_by (look_finds p q stays name None keeps right)); behind = stays.same; kept = kept }
    comes last line (Head name) None NoSlot a p kept keeps right same known = absurd right
    comes last line (ListV1 query) None NoSlot a p kept keeps right same known = absurd right
    comes last line (ListRequest query) (Some q) (Listed shown page) a p kept keeps right same known =
        let stays = only_stays line p q a (no_change (ListRequest query) p q a (ap (λ (l : RequestLine). l.request) same) (λ u h. h)) (known q refl) in
        record {
          start = Some right.0;
          resolved = right.1.0;
          reply_is = look_lists p q stays query right.0 shown page keeps right.1.1;
          behind = stays.same;
          kept = shown_keeps query shown right.1.1.0 keeps;
        }
    comes last line (ListRequest query) None BadToken a p kept keeps right same known = record { start = None; resolved = right; reply_is = refl; behind = refl; kept = tt }
    comes last line (ListV1 query) (Some q) (ListedV1 shown page) a p kept keeps right same known =
        let stays = only_stays line p q a (no_change (ListV1 query) p q a (ap (λ (l : RequestLine). l.request) same) (λ u h. h)) (known q refl) in
        record { start = None; resolved = refl; reply_is = look_v1 p q stays query shown page keeps right; behind = stays.same; kept = kept }
    comes last line Next (Some q) (Listed shown page) a p kept keeps right same known =
        let us = own_upto s p in
        let stays = only_stays line p q a (no_change Next p q a (ap (λ (l : RequestLine). l.request) same) (λ u h. h)) (known q refl) in
        let follows : Some right.0 ≡ next_of s.dir last = sym right.1.0 in
        let asked = next-keeps s.dir own last right.0 kept right.1.0 in
        record {
          start = None;
          resolved = refl;
          reply_is = look_lists p q stays right.0.query (Some right.0.point) shown page asked right.1.1
              ∙ ap (λ (o : Option Resumed). (next_on s.dir us o).reply) follows;
          behind = stays.same ∙ ap (λ (o : Option Resumed). (next_on s.dir us o).updates) follows;
          kept = shown_keeps right.0.query shown right.1.1.0 asked;
        }
    comes last line Next None BadToken a p kept keeps right same known =
        let us = own_upto s p in
        record {
          start = None;
          resolved = refl;
          reply_is = ap (λ (o : Option Resumed). (next_on s.dir us o).reply) (sym right);
          behind = ap (λ (o : Option Resumed). (next_on s.dir us o).updates) (sym right);
          kept = tt;
        }
    comes last line request o reply a p kept keeps right same known = absurd right

    -- ---- the requests in order

    above_front : (earlier : List Answered) (p q : ℕ) (u : Update) → IsFront earlier p → update_at s q ≡ Some u → All (IsPlacedBelow q) earlier → p < q
    above_front earlier p zero u front there all = cc
    above_front earlier p (suc i) u front there all =
        let e : suc i ≡ i + 1 = omega arith in
        let behind = own_behind earlier p i front (subst (λ (n : ℕ). All (IsPlacedBelow n) earlier) e all) in
        omega arith

    next_front : (earlier : List Answered) (a : Answered) (p : ℕ) (o : Option ℕ) → a.placed.at ≡ o → IsFront earlier p
        → ((q : ℕ) → o ≡ Some q → IsFront (earlier ++ a ∷ []) q) → IsFront (earlier ++ a ∷ []) (front_behind o p)
    next_front earlier a p None at front placed = front_refused earlier a p at front
    next_front earlier a p (Some q) at front placed = placed q refl

    goes_on : (earlier : List Answered) (lines : List RequestLine) (replies : List Placed) (p : ℕ) → LastKeeps s.dir own (last_listing earlier)
        → All (λ (l : RequestLine). KeepsTo s.dir own l.request) lines → IsFront earlier p → AreAnswered s earlier lines replies
        → AreMadeBy s (earlier ++ answered_lines lines replies) → GoesOn s p (last_listing earlier) lines replies
    goes_on earlier [] [] p kept keeps front h made = record { placed = []; alone = none_left s earlier p front made; same = refl }
    goes_on earlier [] (r ∷ replies) p kept keeps front h made = absurd h
    goes_on earlier (l ∷ lines) [] p kept keeps front h made = absurd h
    goes_on earlier (l ∷ lines) (r ∷ replies) p kept keeps front h made =
        let a : Answered = record { asked = l; placed = r } in
        let last = last_listing earlier in
        let keeps_here = All-head (λ (k : RequestLine). KeepsTo s.dir own k.request) l lines keeps in
        let c = comes last l.line l.request r.at r.reply a p kept keeps_here h.0.right refl
        (λ q at.
        let order = order_at s earlier l.line r.at q at h.0.order in (
          (λ u there of. above_front earlier p q u front there (own_above s earlier l.line q u order there of)),
          step s earlier a lines replies h.1 made p front q at (front.least q order.not_below),
        )) in
        let out = outcome_on s.dir s.client (own_upto s p) last l.line l.request c.start in
        let next = next_front earlier a p r.at refl front (λ q at. front_placed s earlier a q at (order_at s earlier l.line r.at q at h.0.order)) in
        let later : last_listing (earlier ++ a ∷ []) ≡ later_listing l.request r.reply last = last_listing-push earlier a in
        let rest = goes_on (earlier ++ a ∷ []) lines replies (front_behind r.at p) (subst (LastKeeps s.dir own) (sym later) c.kept)
        (All-tail (λ (k : RequestLine). KeepsTo s.dir own k.request) l lines keeps) next h.1
        (made_next s earlier a (answered_lines lines replies) made) in
        let later_out : last_listing (earlier ++ a ∷ []) ≡ later_listing l.request out.reply last =
        later ∙ ap (λ (reply : Reply). later_listing l.request reply last) c.reply_is in
        let all = updates_of s.client s.updates in
        record {
          placed = placed_as s.client l.line out ∷ rest.placed;
          alone = (
            c.start,
            (
              c.resolved,
              (
                refl,
                subst (λ (us : List Update). AreAlone s.dir s.client us (later_listing l.request out.reply last) lines rest.placed all) c.behind
                    (subst (λ (o : Option Reply). AreAlone s.dir s.client (own_upto s (front_behind r.at p)) o lines rest.placed all) later_out rest.alone),
              ),
            ),
          );
          same = ap (λ (reply : Reply). reply ∷ map (λ (k : Placed). k.reply) replies) c.reply_is
              ∙ ap (λ (others : List Reply). out.reply ∷ others) rest.same;
        }

pub untouched : UntouchedLaw
untouched dir own parts slots run c rising below roomy is_untouched legal =
    let s : Setting = setting_of dir run slots c in
    let made : AreMadeBy s (answered_lines (lines_of parts c) (replies_of run c)) =
    λ i u here mine. subst (λ (d : ℕ). Any (IsMadeBy dir u (i + 1)) (answered_lines (lines_of parts d) (replies_of run d))) mine (legal.made i u here).1 in
    let answered = legal.answered c below in
    let counted = updates_counted s [] (lines_of parts c) (replies_of run c) 0 answered front_start made in
    let few : length (updates_of c run.updates) < slots c = omega arith in
    let goes = goes_on s own rising (split dir own parts slots run c rising is_untouched legal) few [] (lines_of parts c) (replies_of run c) 0 tt
    is_untouched.keeps front_start answered made in
    record { placed = goes.placed; alone = goes.alone; replies = goes.same }
