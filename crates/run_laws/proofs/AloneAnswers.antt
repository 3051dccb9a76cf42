-- Where all updates are a client's, its answers are those of the client alone.
use Rattle.std.proofs.Common.{◌≡◌, ℕ, zero, suc, ◌+◌, ◌-◌, ◌<◌, ◌≤◌, ◌⊎◌, Bool, true, false, cond, if◌then◌else◌, List, [], ◌∷◌, ◌++◌, length, take, fold, get_or, refl, sym, ap, ◌∙◌, subst, arith, inl, inr, Option, Some, None, All}
use Rattle.std.specs.List.{slice_get, count_by}
use Rattle.std.proofs.lemmas.Bool.{eq-eqb}
use Rattle.std.proofs.lemmas.List.{take_all, length-take-le}
use Rattle.std.proofs.lemmas.List.Sums.{sum_by-cons}
use Rattle.std.proofs.lemmas.Option.{same_Some, slice_get_within, get_or_from_slice_get}
use Rattle.key_names.specs.Names.{Rises}
use Rattle.key_map.specs.declared.update.Update.{Update}
use Rattle.key_map.specs.declared.update.Change.{Change}
use Rattle.key_map.specs.declared.update.Change.TheVariants.{Put as PutVal, Remove}
use Rattle.key_map.specs.KeyMap.{map_has, map_get, updated, after}
use Rattle.bucket_terms.specs.declared.list_query.ListQuery.{ListQuery}
use Rattle.bucket_terms.specs.declared.v1_query.V1Query.{V1Query}
use Rattle.bucket_terms.specs.declared.token_point.TokenPoint.{TokenPoint}
use Rattle.bucket_terms.specs.declared.page.Page.{Page}
use Rattle.bucket_terms.specs.declared.request.Request.{Request}
use Rattle.bucket_terms.specs.declared.request.Request.TheVariants.{Put, PutNew, Delete, Head, List as ListRequest, ListV1, Next}
use Rattle.bucket_terms.specs.declared.reply.Reply.{Reply}
use Rattle.bucket_terms.specs.declared.reply.Reply.TheVariants.{Put as PutReply, Exists, Deleted, Found, Missing, Listed, ListedV1, BadToken, NoSlot}
use Rattle.bucket_terms.specs.declared.reply.Placed.{Placed}
use Rattle.bucket_terms.specs.Listing.{page_of, v1_page}
use Rattle.bucket_terms.specs.LegalRun.{RequestLine, Setting, Answered, IsRight, IsOf, IsChangeOf, HasUsedItsSlots, UpdateStands, Finds, Lists, Resumed, AreAnswered, next_of, update_at, last_listing, answered_lines}
use Rattle.bucket_terms.specs.RunParts.{IsPlacedBelow, is_earlier_of, head_by, ListsV1}
use Rattle.bucket_terms.proofs.Finds.{map_has-none, map_has-some}
use Rattle.bucket_terms.proofs.LastListing.{last_listing-push}
use Rattle.sample_laws.specs.Alone.{rank_of}
use Rattle.sample_laws.specs.Own.{updates_of}
use Rattle.sample_laws.specs.Finds.{map_of}
use Rattle.sample_laws.proofs.Ranks.{rank_of-is}
use Rattle.sample_laws.proofs.Places.{own_upto, AreMadeBy, IsFront, front_placed, front_refused, order_at, own_above, own_behind, none_left, update_at-next}
use Rattle.sample_laws.proofs.Steps.{Stays, Adds, step, made_next}
use Rattle.run_laws.specs.Alone.{IsResolved, Outcome, makes, looks, next_on, outcome_on, placed_as, later_listing, AreAlone}

-- ---- all updates are the client's

take_none : (t : ℕ) → take {A = Update} t [] ≡ []
take_none zero = refl
take_none (suc t) = refl

own_all : (client : ℕ) (us : List Update) (t : ℕ) → ((i : ℕ) (u : Update) → slice_get us i ≡ Some u → u.client ≡ client) → updates_of client (take t us) ≡ take t us
own_all client [] t mine = ap (updates_of client) (take_none t) ∙ sym (take_none t)
own_all client (u ∷ us) zero mine = refl
own_all client (u ∷ us) (suc t) mine =
    ap (λ (b : Bool). cond b (u ∷ updates_of client (take t us)) (updates_of client (take t us))) (eq-eqb u.client client (mine zero u refl))
    ∙ ap (λ (vs : List Update). u ∷ vs) (own_all client us t (λ i v here. mine (suc i) v here))

one_most : (b : Bool) → cond b 1 0 ≤ 1
one_most true = omega arith
one_most false = omega arith

count_most : (test : Update → Bool) (us : List Update) → count_by test us ≤ length us
count_most test [] = omega arith
count_most test (u ∷ us) = omega (arith, sum_by-cons (λ (v : Update). cond (test v) 1 0) u us, one_most (test u), count_most test us)

-- the front after an answer with this place
abbrev pub front_behind : Option ℕ → ℕ → ℕ
front_behind (Some q) p = q
front_behind None p = p

-- the outcome of a request after the first `p` updates is its outcome alone
record Comes (s : Setting) (p : ℕ) (last : Option Reply) (line : ℕ) (request : Request) (o : Option ℕ) (reply : Reply) : Type 0 where
  start : Option (Option TokenPoint)
  resolved : IsResolved request start
  at_is : o ≡ (outcome_on s.dir s.client (take p s.updates) last line request start).at
  reply_is : reply ≡ (outcome_on s.dir s.client (take p s.updates) last line request start).reply
  behind : take (front_behind o p) s.updates ≡ (outcome_on s.dir s.client (take p s.updates) last line request start).updates

-- what is known of the place of an answer
abbrev Steps : Setting → ℕ → ℕ → Answered → ℕ → Type 0
Steps s line p a q = ((u : Update) → update_at s q ≡ Some u → IsOf s line u → p < q) × ((Stays s p q ⊎ Adds s p q a) × (q ≤ length s.updates))

module _ (s : Setting) (rising : Rises s.dir) (mine : (i : ℕ) (u : Update) → slice_get s.updates i ≡ Some u → u.client ≡ s.client) where
  upto : (t : ℕ) → own_upto s t ≡ take t s.updates
  upto t = own_all s.client s.updates t mine

  pub whole : updates_of s.client s.updates ≡ s.updates
  whole =
      let all : take (length s.updates) s.updates ≡ s.updates = take_all (length s.updates) s.updates (omega arith) in
      ap (updates_of s.client) (sym all) ∙ upto (length s.updates) ∙ all

  map_upto : (p : ℕ) → map_of (take p s.updates) ≡ after s.updates p
  unfolding after
  map_upto p = ap (λ (us : List Update). fold updated [] us) (take_all (length (take p s.updates)) (take p s.updates) (omega arith))

  size : (p : ℕ) → p ≤ length s.updates → length (take p s.updates) ≡ p
  size p le = length-take-le p s.updates le

  -- if no update was made, the place is the front
  stay_same : (p q : ℕ) → Stays s p q → take q s.updates ≡ take p s.updates
  stay_same p q stays = sym (upto q) ∙ stays.same ∙ upto p

  stay_place : (p q : ℕ) → p ≤ length s.updates → q ≤ length s.updates → Stays s p q → q ≡ p
  stay_place p q low high stays = sym (size q high) ∙ ap (length {A = Update}) (stay_same p q stays) ∙ size p low

  -- if one was made, it is the next
  add_before : (p q : ℕ) (a : Answered) → p ≤ length s.updates → (adds : Adds s p q a) → adds.before ≡ p
  add_before p q a low adds =
      let within : adds.before < length s.updates = slice_get_within s.updates adds.before adds.update adds.here in
      let same : take adds.before s.updates ≡ take p s.updates = sym (upto adds.before) ∙ adds.as_before ∙ upto p in
      sym (size adds.before (omega arith)) ∙ ap (length {A = Update}) same ∙ size p low

  add_more : (p q : ℕ) (a : Answered) (adds : Adds s p q a) → take q s.updates ≡ take p s.updates ++ adds.update ∷ []
  add_more p q a adds = sym (upto q) ∙ adds.more ∙ ap (λ (us : List Update). us ++ adds.update ∷ []) (upto p)

  add_here : (p q : ℕ) (a : Answered) (adds : Adds s p q a) → update_at s q ≡ Some adds.update
  add_here p q a adds = ap (update_at s) adds.next ∙ update_at-next s adds.before ∙ adds.here

  -- ---- a request's own update

  own_stands : (p q line : ℕ) (name : List ℕ) (change : Change) (was : Bool) (a : Answered) → UpdateStands s line name change was q → Steps s line p a q → Adds s p q a
  own_stands p q line name change was a stands (strict, (inr adds, within)) = adds
  own_stands p q line name change was a stands (strict, (inl stays, within)) =
      let u : Update = record { client = s.client; line = line; key = stands.key; change = change } in
      let low = stays.none u stands.update refl in
      let high = strict u stands.update (record { by = refl; for_line = refl }) in
      absurd (omega arith)

  module _ (p q line : ℕ) (name : List ℕ) (change : Change) (was : Bool) (a : Answered) (low : p ≤ length s.updates)
      (stands : UpdateStands s line name change was q) (adds : Adds s p q a) where
    rank : rank_of s.dir name ≡ stands.key
    rank = rank_of-is s.dir name stands.key rising stands.rank

    place : q ≡ length (take p s.updates) + 1
    place = let before = add_before p q a low adds in let next = adds.next in let at = size p low in omega arith

    had : was ≡ map_has (rank_of s.dir name) (map_of (take p s.updates))
    had =
        let before = add_before p q a low adds in
        let next = adds.next in
        let last : q - 1 ≡ p = omega arith in
        stands.before ∙ ap (λ (t : ℕ). map_has stands.key (after s.updates t)) last
        ∙ ap (map_has stands.key) (sym (map_upto p)) ∙ ap (λ (k : ℕ). map_has k (map_of (take p s.updates))) (sym rank)

    made : take q s.updates ≡ take p s.updates ++ record { client = s.client; line = line; key = rank_of s.dir name; change = change } ∷ []
    made =
        let u : Update = record { client = s.client; line = line; key = stands.key; change = change } in
        let is_u : adds.update ≡ u = same_Some adds.update u (sym (add_here p q a adds) ∙ stands.update) in
        add_more p q a adds ∙ ap (λ (v : Update). take p s.updates ++ v ∷ []) is_u
        ∙ ap (λ (k : ℕ). take p s.updates ++ record { client = s.client; line = line; key = k; change = change } ∷ []) (sym rank)

  -- ---- a look

  no_own : (p q line : ℕ) (a : Answered) → a.asked.line ≡ line → All (λ (u : Update). ¬ (IsOf s line u)) s.updates → Adds s p q a → ⊥
  no_own p q line a same none adds =
      let within : adds.before < length s.updates = slice_get_within s.updates adds.before adds.update adds.here in
      let here : get_or s.updates adds.before adds.update ≡ adds.update = get_or_from_slice_get s.updates adds.before adds.update adds.update adds.here in
      subst (λ (u : Update). ¬ (IsOf s line u)) here (none adds.before adds.update within) (record { by = adds.own; for_line = sym adds.made.line ∙ same })

  no_change : (request : Request) (p q : ℕ) (a : Answered) → a.asked.request ≡ request → ((u : Update) → IsChangeOf s.dir u request → ⊥) → Adds s p q a → ⊥
  no_change request p q a same never adds = never adds.update (subst (IsChangeOf s.dir adds.update) same adds.made.change)

  only_stays : (line p q : ℕ) (a : Answered) → (Adds s p q a → ⊥) → Steps s line p a q → Stays s p q
  only_stays line p q a never (strict, (inl stays, within)) = stays
  only_stays line p q a never (strict, (inr adds, within)) = absurd (never adds)

  module _ (line p q : ℕ) (a : Answered) (low : p ≤ length s.updates) (steps : Steps s line p a q) (stays : Stays s p q) where
    look_place : Some q ≡ Some (length (take p s.updates))
    look_place = ap Some (stay_place p q low steps.1.1 stays ∙ sym (size p low))

    look_map : after s.updates q ≡ map_of (take p s.updates)
    look_map = sym (map_upto q) ∙ ap map_of (stay_same p q stays)

    look_finds : (name : List ℕ) (value : Option ℕ) → Finds s name q value → map_get (rank_of s.dir name) (map_of (take p s.updates)) ≡ value
    look_finds name value found =
        ap (λ (k : ℕ). map_get k (map_of (take p s.updates))) (rank_of-is s.dir name found.key rising found.rank)
        ∙ ap (map_get found.key) (sym look_map) ∙ found.value

    look_lists : (query : ListQuery) (point : Option TokenPoint) (shown : ListQuery) (page : Page) → Lists s q query point shown page
        → Listed shown page ≡ Listed query (page_of s.dir query point (map_of (take p s.updates)))
    look_lists query point shown page lists =
        ap (λ (asked : ListQuery). Listed asked page) lists.0
        ∙ ap (Listed query) (lists.1 ∙ ap (page_of s.dir query point) look_map)

    look_v1 : (query shown : V1Query) (page : Page) → ListsV1 s q query shown page → ListedV1 shown page ≡ ListedV1 query (v1_page s.dir query (map_of (take p s.updates)))
    look_v1 query shown page lists =
        ap (λ (asked : V1Query). ListedV1 asked page) lists.0
        ∙ ap (ListedV1 query) (lists.1 ∙ ap (v1_page s.dir query) look_map)

  -- ---- each request

  module _ (few : length s.updates < s.slots) where
    no_want : (line : ℕ) → HasUsedItsSlots s line → ⊥
    no_want line used = absurd (omega (arith, used, count_most (is_earlier_of s line) s.updates))

    comes : (last : Option Reply) (line : ℕ) (request : Request) (o : Option ℕ) (reply : Reply) (a : Answered) (p : ℕ) → p ≤ length s.updates
        → IsRight s last (record { line = line; request = request }) o reply → a.asked ≡ record { line = line; request = request }
        → ((q : ℕ) → o ≡ Some q → Steps s line p a q) → Comes s p last line request o reply
    comes last line (Put name val) (Some q) (PutReply was) a p low right same steps =
        let adds = own_stands p q line name (PutVal val) was a right (steps q refl) in
        record {
          start = None;
          resolved = refl;
          at_is = ap Some (place p q line name (PutVal val) was a low right adds);
          reply_is = ap PutReply (had p q line name (PutVal val) was a low right adds);
          behind = made p q line name (PutVal val) was a low right adds;
        }
    comes last line (Put name val) None NoSlot a p low right same steps = absurd (no_want line right)
    comes last line (PutNew name val) (Some q) (PutReply false) a p low right same steps =
        let us = take p s.updates in
        let adds = own_stands p q line name (PutVal val) false a right (steps q refl) in
        let out : Bool → Outcome = λ b. if b then looks us Exists else makes s.client line us (rank_of s.dir name) (PutVal val) (PutReply false) in
        let absent = had p q line name (PutVal val) false a low right adds in
        record {
          start = None;
          resolved = refl;
          at_is = ap Some (place p q line name (PutVal val) false a low right adds) ∙ ap (λ b. (out b).at) absent;
          reply_is = ap (λ b. (out b).reply) absent;
          behind = made p q line name (PutVal val) false a low right adds ∙ ap (λ b. (out b).updates) absent;
        }
    comes last line (PutNew name val) (Some q) Exists a p low right same steps =
        let us = take p s.updates in
        let stays = only_stays line p q a (no_own p q line a (ap (λ (l : RequestLine). l.line) same) right.1) (steps q refl) in
        let out : Bool → Outcome = λ b. if b then looks us Exists else makes s.client line us (rank_of s.dir name) (PutVal val) (PutReply false) in
        let there = sym (map_has-some (rank_of s.dir name) (map_of us) right.0.0 (look_finds line p q a low (steps q refl) stays name (Some right.0.0) right.0.1)) in
        record {
          start = None;
          resolved = refl;
          at_is = look_place line p q a low (steps q refl) stays ∙ ap (λ b. (out b).at) there;
          reply_is = ap (λ b. (out b).reply) there;
          behind = stay_same p q stays ∙ ap (λ b. (out b).updates) there;
        }
    comes last line (PutNew name val) None NoSlot a p low right same steps = absurd (no_want line right)
    comes last line (Delete name) (Some q) Deleted a p low (inl right) same steps =
        let us = take p s.updates in
        let adds = own_stands p q line name Remove true a right (steps q refl) in
        let out : Bool → Outcome = λ b. if b then makes s.client line us (rank_of s.dir name) Remove Deleted else looks us Deleted in
        let there = had p q line name Remove true a low right adds in
        record {
          start = None;
          resolved = refl;
          at_is = ap Some (place p q line name Remove true a low right adds) ∙ ap (λ b. (out b).at) there;
          reply_is = ap (λ b. (out b).reply) there;
          behind = made p q line name Remove true a low right adds ∙ ap (λ b. (out b).updates) there;
        }
    comes last line (Delete name) (Some q) Deleted a p low (inr right) same steps =
        let us = take p s.updates in
        let stays = only_stays line p q a (no_own p q line a (ap (λ (l : RequestLine). l.line) same) right.1) (steps q refl) in
        let out : Bool → Outcome = λ b. if b then makes s.client line us (rank_of s.dir name) Remove Deleted else looks us Deleted in
        let absent = sym (map_has-none (rank_of s.dir name) (map_of us) (look_finds line p q a low (steps q refl) stays name None right.0)) in
        record {
          start = None;
          resolved = refl;
          at_is = look_place line p q a low (steps q refl) stays ∙ ap (λ b. (out b).at) absent;
          reply_is = ap (λ b. (out b).reply) absent;
          behind = stay_same p q stays ∙ ap (λ b. (out b).updates) absent;
        }
    comes last line (Delete name) None NoSlot a p low right same steps = absurd (no_want line right)
    comes last line (Head name) (Some q) (Found val) a p low right same steps =
        let stays = only_stays line p q a (no_change (Head name) p q a (ap (λ (l : RequestLine). l.request) same) (λ u h. h)) (steps q refl) in
        record {
          start = None;
          resolved = refl;
          at_is = look_place line p q a low (steps q refl) stays;
          reply_is = sym (ap head_by (look_finds line p q a low (steps q refl) stays name (Some val) right));
          behind = stay_same p q stays;
        }
    comes last line (Head name) (Some q) Missing a p low right same steps =
        let stays = only_stays line p q a (no_change (Head name) p q a (ap (λ (l : RequestLine). l.request) same) (λ u h. h)) (steps q refl) in
        record {
          start = None;
          resolved = refl;
          at_is = look_place line p q a low (steps q refl) stays;
          reply_is = sym (ap head_by (look_finds line p q a low (steps q refl) stays name None right));
          behind = stay_same p q stays;
        }
    comes last line (ListRequest query) (Some q) (Listed shown page) a p low right same steps =
        let stays = only_stays line p q a (no_change (ListRequest query) p q a (ap (λ (l : RequestLine). l.request) same) (λ u h. h)) (steps q refl) in
        record {
          start = Some right.0;
          resolved = right.1.0;
          at_is = look_place line p q a low (steps q refl) stays;
          reply_is = look_lists line p q a low (steps q refl) stays query right.0 shown page right.1.1;
          behind = stay_same p q stays;
        }
    comes last line (ListRequest query) None BadToken a p low right same steps = record { start = None; resolved = right; at_is = refl; reply_is = refl; behind = refl }
    comes last line (ListV1 query) (Some q) (ListedV1 shown page) a p low right same steps =
        let stays = only_stays line p q a (no_change (ListV1 query) p q a (ap (λ (l : RequestLine). l.request) same) (λ u h. h)) (steps q refl) in
        record {
          start = None;
          resolved = refl;
          at_is = look_place line p q a low (steps q refl) stays;
          reply_is = look_v1 line p q a low (steps q refl) stays query shown page right;
          behind = stay_same p q stays;
        }
    comes last line Next (Some q) (Listed shown page) a p low right same steps =
        let us = take p s.updates in
        let stays = only_stays line p q a (no_change Next p q a (ap (λ (l : RequestLine). l.request) same) (λ u h. h)) (steps q refl) in
        let follows : Some right.0 ≡ next_of s.dir last = sym right.1.0 in
        record {
          start = None;
          resolved = refl;
          at_is = look_place line p q a low (steps q refl) stays ∙ ap (λ (o : Option Resumed). (next_on s.dir us o).at) follows;
          reply_is = look_lists line p q a low (steps q refl) stays right.0.query (Some right.0.point) shown page right.1.1
              ∙ ap (λ (o : Option Resumed). (next_on s.dir us o).reply) follows;
          behind = stay_same p q stays ∙ ap (λ (o : Option Resumed). (next_on s.dir us o).updates) follows;
        }
    comes last line Next None BadToken a p low right same steps =
        let us = take p s.updates in
        record {
          start = None;
          resolved = refl;
          at_is = ap (λ (o : Option Resumed). (next_on s.dir us o).at) (sym right);
          reply_is = ap (λ (o : Option Resumed). (next_on s.dir us o).reply) (sym right);
          behind = ap (λ (o : Option Resumed). (next_on s.dir us o).updates) (sym right);
        }
    comes last line (Head name) None NoSlot a p low right same steps = absurd right
    comes last line (ListV1 query) None NoSlot a p low right same steps = absurd right
    comes last line request o reply a p low right same steps = absurd right

    -- ---- the requests in order

    above_front : (earlier : List Answered) (p q : ℕ) (u : Update) → IsFront earlier p → update_at s q ≡ Some u → All (IsPlacedBelow q) earlier → p < q
    above_front earlier p zero u front there all = cc
    above_front earlier p (suc i) u front there all =
        let e : suc i ≡ i + 1 = omega arith in
        let behind = own_behind earlier p i front (subst (λ (n : ℕ). All (IsPlacedBelow n) earlier) e all) in
        omega arith

    next_front : (earlier : List Answered) (a : Answered) (p : ℕ) (o : Option ℕ) → a.placed.at ≡ o → IsFront earlier p → p ≤ length s.updates
        → ((q : ℕ) → o ≡ Some q → IsFront (earlier ++ a ∷ []) q × (q ≤ length s.updates))
        → IsFront (earlier ++ a ∷ []) (front_behind o p) × (front_behind o p ≤ length s.updates)
    next_front earlier a p None at front low placed = (front_refused earlier a p at front, low)
    next_front earlier a p (Some q) at front low placed = placed q refl

    pub alone : (earlier : List Answered) (lines : List RequestLine) (replies : List Placed) (p : ℕ) → IsFront earlier p → p ≤ length s.updates
        → AreAnswered s earlier lines replies → AreMadeBy s (earlier ++ answered_lines lines replies)
        → AreAlone s.dir s.client (take p s.updates) (last_listing earlier) lines replies s.updates
    alone earlier [] [] p front low h made = sym whole ∙ none_left s earlier p front made ∙ upto p
    alone earlier [] (r ∷ replies) p front low h made = absurd h
    alone earlier (l ∷ lines) [] p front low h made = absurd h
    alone earlier (l ∷ lines) (r ∷ replies) p front low h made =
        let a : Answered = record { asked = l; placed = r } in
        let last = last_listing earlier in
        let c = comes last l.line l.request r.at r.reply a p low h.0.right refl
        (λ q at.
        let order = order_at s earlier l.line r.at q at h.0.order in (
          (λ u there of. above_front earlier p q u front there (own_above s earlier l.line q u order there of)),
          (step s earlier a lines replies h.1 made p front q at (front.least q order.not_below), order.within),
        )) in
        let out = outcome_on s.dir s.client (take p s.updates) last l.line l.request c.start in
        let next = next_front earlier a p r.at refl front low
        (λ q at. let order = order_at s earlier l.line r.at q at h.0.order in (front_placed s earlier a q at order, order.within)) in
        let rest = alone (earlier ++ a ∷ []) lines replies (front_behind r.at p) next.0 next.1 h.1 (made_next s earlier a (answered_lines lines replies) made) in
        let is : r ≡ placed_as s.client l.line out =
        ap (λ (n : ℕ). record { client = n; line = r.line; at = r.at; reply = r.reply }) h.0.client
        ∙ ap (λ (n : ℕ). record { client = s.client; line = n; at = r.at; reply = r.reply }) h.0.line
        ∙ ap (λ (o : Option ℕ). record { client = s.client; line = l.line; at = o; reply = r.reply }) c.at_is
        ∙ ap (λ (reply : Reply). record { client = s.client; line = l.line; at = out.at; reply = reply }) c.reply_is in
        let later : last_listing (earlier ++ a ∷ []) ≡ later_listing l.request out.reply last =
        last_listing-push earlier a ∙ ap (λ (reply : Reply). later_listing l.request reply last) c.reply_is in (
          c.start,
          (
            c.resolved,
            (
              is,
              subst (λ (us : List Update). AreAlone s.dir s.client us (later_listing l.request out.reply last) lines replies s.updates) c.behind
                  (subst (λ (o : Option Reply). AreAlone s.dir s.client (take (front_behind r.at p) s.updates) o lines replies s.updates) later rest),
            ),
          ),
        )
