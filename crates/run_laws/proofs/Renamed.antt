-- A legal run does not depend on the numbers of the clients.
use Rattle.std.proofs.Common.{◌≡◌, ℕ, zero, suc, ◌+◌, ◌-◌, ◌<◌, ◌≤◌, Bool, true, false, cond, ◌&&◌, nat_lt, List, [], ◌∷◌, ◌++◌, length, take, fold, map, get_or, refl, sym, ap, ◌∙◌, subst, arith, inl, inr, Option, Some, None, All, Any}
use Rattle.std.specs.Prelude.{◌==◌, filter}
use Rattle.std.specs.List.{slice_get, count_by, last_or}
use Rattle.std.specs.Option.{option_map, IfSome}
use Rattle.std.specs.Cmp.{both_ways}
use Rattle.std.proofs.lemmas.Bool.{eqb-true, eq-eqb}
use Rattle.std.proofs.lemmas.List.{length-map, take-map, map-append, get_or-map}
use Rattle.std.proofs.lemmas.List.Folds.{fold-map}
use Rattle.std.proofs.lemmas.List.Sums.{sum_by-cons}
use Rattle.std.proofs.lemmas.List.Elements.{All-map}
use Rattle.std.proofs.lemmas.Option.{slice_get-map, same_Some}
use Rattle.key_map.specs.declared.pair.Pair.{Pair}
use Rattle.key_map.specs.declared.update.Update.{Update}
use Rattle.key_map.specs.declared.update.Change.{Change}
use Rattle.key_map.specs.declared.update.Change.TheVariants.{Put as PutVal, Remove}
use Rattle.key_map.specs.KeyMap.{map_has, map_get, updated, after}
use Rattle.bucket_terms.specs.declared.list_query.ListQuery.{ListQuery}
use Rattle.bucket_terms.specs.declared.v1_query.V1Query.{V1Query}
use Rattle.bucket_terms.specs.declared.token_point.TokenPoint.{TokenPoint}
use Rattle.bucket_terms.specs.declared.page.Page.{Page}
use Rattle.bucket_terms.specs.declared.request.Request.{Request}
use Rattle.bucket_terms.specs.declared.request.Request.TheVariants.{Put, PutNew, Delete, Head, List as ListRequest, ListV1, Next}
use Rattle.bucket_terms.specs.declared.reply.Reply.{Reply}
use Rattle.bucket_terms.specs.declared.reply.Reply.TheVariants.{Put as PutReply, Exists, Deleted, Found, Missing, Listed, ListedV1, BadToken, NoSlot}
use Rattle.bucket_terms.specs.declared.reply.Placed.{Placed}
use Rattle.bucket_terms.specs.Listing.{page_of, v1_page}
use Rattle.bucket_terms.specs.LegalRun.{RequestLine, Setting, Answered, IsRight, IsOf, IsChangeOf, IsMadeBy, HasUsedItsSlots, UpdateStands, Finds, Lists, KeepsOrder, AreAnswered, is_listing, update_at, last_listing, answered_lines, lines_of, replies_of}
use Rattle.bucket_terms.specs.RunParts.{is_earlier_of, ListsV1}
use Rattle.run_laws.specs.Renamed.{renamed_update, renamed_reply, RenamedLaw}

module _ (new : ℕ → ℕ) (back : (c : ℕ) → new (new c) ≡ c) where
  abbrev ren : Update → Update
  ren = renamed_update new

  abbrev again : Answered → Answered
  again a = record { asked = a.asked; placed = renamed_reply new a.placed }

  once : (x y : ℕ) → new x ≡ new y → x ≡ y
  once x y same = sym (back x) ∙ ap new same ∙ back y

  abbrev over : Setting → Setting
  over s = record { dir = s.dir; updates = map ren s.updates; client = new s.client; slots = s.slots }

  -- ---- the history

  after_same : (us : List Update) (t : ℕ) → after (map ren us) t ≡ after us t
  unfolding after
  after_same us t = ap (λ (vs : List Update). fold updated [] vs) (take-map ren t us) ∙ fold-map updated ren [] (take t us)

  found_at : (s : Setting) (at : ℕ) → update_at (over s) at ≡ option_map ren (update_at s at)
  found_at s zero = refl
  found_at s (suc k) = slice_get-map ren s.updates k

  same_client : (x y : ℕ) → (new x == new y) ≡ (x == y)
  same_client x y = both_ways (new x == new y) (x == y) (λ h. eq-eqb x y (once x y (eqb-true (new x) (new y) h))) (λ h. eq-eqb (new x) (new y) (ap new (eqb-true x y h)))

  count_same : (s : Setting) (line : ℕ) (us : List Update) → count_by (is_earlier_of (over s) line) (map ren us) ≡ count_by (is_earlier_of s line) us
  count_same s line [] = refl
  count_same s line (u ∷ us) =
      sum_by-cons (λ (v : Update). cond (is_earlier_of (over s) line v) 1 0) (ren u) (map ren us)
      ∙ ap (λ (n : ℕ). cond (is_earlier_of (over s) line (ren u)) 1 0 + n) (count_same s line us)
      ∙ ap (λ (b : Bool). cond (b && nat_lt u.line line) 1 0 + count_by (is_earlier_of s line) us) (same_client u.client s.client)
      ∙ sym (sum_by-cons (λ (v : Update). cond (is_earlier_of s line v) 1 0) u us)

  of_ren : (s : Setting) (line : ℕ) (u : Update) → IsOf (over s) line (ren u) → IsOf s line u
  of_ren s line u is = record { by = once u.client s.client is.by; for_line = is.for_line }

  -- ---- one answer

  module _ (s : Setting) where
    stands_same : (line : ℕ) (name : List ℕ) (change : Change) (was : Bool) (n : ℕ) → UpdateStands s line name change was n → UpdateStands (over s) line name change was n
    stands_same line name change was n stands = record {
      key = stands.key;
      rank = stands.rank;
      update = found_at s n ∙ ap (option_map ren) stands.update;
      before = stands.before ∙ ap (λ (m : List Pair). map_has stands.key m) (sym (after_same s.updates (n - 1)));
    }

    finds_same : (name : List ℕ) (n : ℕ) (value : Option ℕ) → Finds s name n value → Finds (over s) name n value
    finds_same name n value found = record { key = found.key; rank = found.rank; value = ap (λ (m : List Pair). map_get found.key m) (after_same s.updates n) ∙ found.value }

    none_same : (line : ℕ) → All (λ (u : Update). ¬ (IsOf s line u)) s.updates → All (λ (u : Update). ¬ (IsOf (over s) line u)) (map ren s.updates)
    none_same line none = All-map (λ (u : Update). ¬ (IsOf (over s) line u)) ren s.updates (λ k d below is. none k d below (of_ren s line (get_or s.updates k d) is))

    lists_same : (n : ℕ) (asked : ListQuery) (point : Option TokenPoint) (shown : ListQuery) (page : Page) → Lists s n asked point shown page → Lists (over s) n asked point shown page
    lists_same n asked point shown page lists = (lists.0, lists.1 ∙ ap (λ (m : List Pair). page_of s.dir asked point m) (sym (after_same s.updates n)))

    v1_same : (n : ℕ) (asked shown : V1Query) (page : Page) → ListsV1 s n asked shown page → ListsV1 (over s) n asked shown page
    v1_same n asked shown page lists = (lists.0, lists.1 ∙ ap (λ (m : List Pair). v1_page s.dir asked m) (sym (after_same s.updates n)))

    slots_same : (line : ℕ) → HasUsedItsSlots s line → HasUsedItsSlots (over s) line
    slots_same line used = subst (λ (n : ℕ). s.slots ≤ n) (sym (count_same s line s.updates)) used

    right_same : (last : Option Reply) (line : ℕ) (request : Request) (at : Option ℕ) (reply : Reply)
        → IsRight s last (record { line = line; request = request }) at reply → IsRight (over s) last (record { line = line; request = request }) at reply
    right_same last line (Put name val) (Some n) (PutReply was) right = stands_same line name (PutVal val) was n right
    right_same last line (Put name val) None NoSlot right = slots_same line right
    right_same last line (PutNew name val) (Some n) (PutReply false) right = stands_same line name (PutVal val) false n right
    right_same last line (PutNew name val) (Some n) Exists right = ((right.0.0, finds_same name n (Some right.0.0) right.0.1), none_same line right.1)
    right_same last line (PutNew name val) None NoSlot right = slots_same line right
    right_same last line (Delete name) (Some n) Deleted (inl made) = inl (stands_same line name Remove true n made)
    right_same last line (Delete name) (Some n) Deleted (inr found) = inr (finds_same name n None found.0, none_same line found.1)
    right_same last line (Delete name) None NoSlot right = slots_same line right
    right_same last line (Head name) (Some n) (Found val) right = finds_same name n (Some val) right
    right_same last line (Head name) (Some n) Missing right = finds_same name n None right
    right_same last line (ListRequest query) (Some n) (Listed shown page) right = (right.0, (right.1.0, lists_same n query right.0 shown page right.1.1))
    right_same last line (ListRequest query) None BadToken right = right
    right_same last line (ListV1 query) (Some n) (ListedV1 shown page) right = v1_same n query shown page right
    right_same last line Next (Some n) (Listed shown page) right = (right.0, (right.1.0, lists_same n right.0.query (Some right.0.point) shown page right.1.1))
    right_same last line Next None BadToken right = right
    right_same last line (Head name) None NoSlot right = absurd right
    right_same last line (ListV1 query) None NoSlot right = absurd right
    right_same last line request at reply right = absurd right

    above_same : (earlier : List Answered) (line at : ℕ) (o : Option Update)
        → IfSome o (λ (u : Update). IsOf s line u → All (λ (a : Answered). IfSome a.placed.at (λ place. place < at)) earlier)
        → IfSome (option_map ren o) (λ (u : Update). IsOf (over s) line u → All (λ (a : Answered). IfSome a.placed.at (λ place. place < at)) (map again earlier))
    above_same earlier line at None above = tt
    above_same earlier line at (Some u) above = λ is. All-map (λ (a : Answered). IfSome a.placed.at (λ place. place < at)) again earlier (above (of_ren s line u is))

    order_same : (earlier : List Answered) (line at : ℕ) → KeepsOrder s earlier line at → KeepsOrder (over s) (map again earlier) line at
    order_same earlier line at order = record {
      within = omega (arith, order.within, length-map s.updates ren);
      not_below = All-map (λ (a : Answered). IfSome a.placed.at (λ place. place ≤ at)) again earlier order.not_below;
      above = subst (λ (o : Option Update). IfSome o (λ (u : Update). IsOf (over s) line u → All (λ (a : Answered). IfSome a.placed.at (λ place. place < at)) (map again earlier)))
          (sym (found_at s at)) (above_same earlier line at (update_at s at) order.above);
    }

    orders_same : (earlier : List Answered) (line : ℕ) (o : Option ℕ) → IfSome o (KeepsOrder s earlier line) → IfSome o (KeepsOrder (over s) (map again earlier) line)
    orders_same earlier line None order = tt
    orders_same earlier line (Some at) order = order_same earlier line at order

  last_found : (o : Option Answered) (earlier : List Answered)
      → option_map (λ (a : Answered). a.placed.reply) (last_or (option_map again o) (filter (λ (a : Answered). is_listing a.asked.request) (map again earlier)))
      ≡ option_map (λ (a : Answered). a.placed.reply) (last_or o (filter (λ (a : Answered). is_listing a.asked.request) earlier))
  last_found None [] = refl
  last_found (Some a) [] = refl
  last_found o (x ∷ earlier) = by_test (is_listing x.asked.request) (last_found (Some x) earlier) (last_found o earlier)
    where
      reply : Option Answered → Option Reply
      reply = option_map (λ (a : Answered). a.placed.reply)

      rest : List Answered
      rest = filter (λ (a : Answered). is_listing a.asked.request) earlier

      rest' : List Answered
      rest' = filter (λ (a : Answered). is_listing a.asked.request) (map again earlier)

      by_test : (b : Bool) → reply (last_or (Some (again x)) rest') ≡ reply (last_or (Some x) rest) → reply (last_or (option_map again o) rest') ≡ reply (last_or o rest)
          → reply (last_or (option_map again o) (cond b (again x ∷ rest') rest')) ≡ reply (last_or o (cond b (x ∷ rest) rest))
      by_test true here other = here
      by_test false here other = other

  last_same : (earlier : List Answered) → last_listing (map again earlier) ≡ last_listing earlier
  last_same earlier = last_found None earlier

  answered_same : (s : Setting) (earlier : List Answered) (lines : List RequestLine) (replies : List Placed) → AreAnswered s earlier lines replies
      → AreAnswered (over s) (map again earlier) lines (map (renamed_reply new) replies)
  answered_same s earlier [] [] h = tt
  answered_same s earlier [] (p ∷ replies) h = absurd h
  answered_same s earlier (l ∷ lines) [] h = absurd h
  answered_same s earlier (l ∷ lines) (p ∷ replies) h =
      let a : Answered = record { asked = l; placed = p } in
      let rest = answered_same s (earlier ++ a ∷ []) lines replies h.1 in (
        record {
          client = ap new h.0.client;
          line = h.0.line;
          order = orders_same s earlier l.line p.at h.0.order;
          right = subst (λ (last : Option Reply). IsRight (over s) last l p.at p.reply) (sym (last_same earlier)) (right_same s (last_listing earlier) l.line l.request p.at p.reply h.0.right);
        },
        subst (λ (as' : List Answered). AreAnswered (over s) as' lines (map (renamed_reply new) replies)) (map-append again earlier (a ∷ [])) rest,
      )

  -- ---- the updates

  change_same : (dir : List (List ℕ)) (u : Update) (request : Request) → IsChangeOf dir u request → IsChangeOf dir (ren u) request
  change_same dir u (Put name val) is = is
  change_same dir u (PutNew name val) is = is
  change_same dir u (Delete name) is = is
  change_same dir u (Head name) is = absurd is
  change_same dir u (ListRequest query) is = absurd is
  change_same dir u (ListV1 query) is = absurd is
  change_same dir u Next is = absurd is

  lines_same : (lines : List RequestLine) (replies : List Placed) → answered_lines lines (map (renamed_reply new) replies) ≡ map again (answered_lines lines replies)
  lines_same [] replies = refl
  lines_same (l ∷ lines) [] = refl
  lines_same (l ∷ lines) (p ∷ replies) = ap (λ (rest : List Answered). again (record { asked = l; placed = p }) ∷ rest) (lines_same lines replies)

  made_same : (dir : List (List ℕ)) (u : Update) (at : ℕ) (answers : List Answered) → Any (IsMadeBy dir u at) answers → Any (IsMadeBy dir (ren u) at) (map again answers)
  made_same dir u at answers made =
      let below : made.0 < length answers = made.2 in
      let a = made.1 in
      let by = made.4 in (
        made.0,
        again a,
        omega (arith, below, length-map answers again),
        get_or-map again answers made.0 a (again a) below ∙ ap again made.3,
        record { line = by.line; place = by.place; change = change_same dir u a.asked.request by.change },
      )

some_before : (f : Update → Update) (o : Option Update) (v : Update) → option_map f o ≡ Some v → (u : Update) × ((o ≡ Some u) × (f u ≡ v))
some_before f None v is = cc
some_before f (Some u) v is = (u, (refl, same_Some (f u) v is))

pub renamed_law : RenamedLaw
renamed_law dir new parts parts' slots slots' run run' are is legal = record {
  clients = is.lists ∙ legal.clients ∙ sym are.clients;
  answered = λ c below.
      let low : c < length parts = omega (arith, are.clients, below) in
      let d = new c in
      let s : Setting = record { dir = dir; updates = run.updates; client = d; slots = slots d } in
      let first = answered_same new are.back s [] (lines_of parts d) (replies_of run d) (legal.answered d (are.within c low)) in
      let at_c : AreAnswered (record { dir = dir; updates = map (renamed_update new) run.updates; client = new d; slots = slots' (new d) }) [] (lines_of parts' (new d)) (replies_of run' (new d)) =
      subst (λ (n : ℕ). AreAnswered (record { dir = dir; updates = map (renamed_update new) run.updates; client = new d; slots = n }) [] (lines_of parts' (new d)) (replies_of run' (new d))) (sym (are.slots_are d))
      (subst (λ (ls : List RequestLine). AreAnswered (record { dir = dir; updates = map (renamed_update new) run.updates; client = new d; slots = slots d }) [] ls (replies_of run' (new d))) (sym (are.lines d (are.within c low)))
      (subst (λ (ps : List Placed). AreAnswered (record { dir = dir; updates = map (renamed_update new) run.updates; client = new d; slots = slots d }) [] (lines_of parts d) ps) (sym (is.replies d (are.within c low))) first)) in
      subst (λ (us : List Update). AreAnswered (record { dir = dir; updates = us; client = c; slots = slots' c }) [] (lines_of parts' c) (replies_of run' c)) (sym is.updates)
      (subst (λ (k : ℕ). AreAnswered (record { dir = dir; updates = map (renamed_update new) run.updates; client = k; slots = slots' k }) [] (lines_of parts' k) (replies_of run' k)) (are.back c) at_c);
  made = λ i v here.
      let found = some_before (renamed_update new) (slice_get run.updates i) v (sym (slice_get-map (renamed_update new) run.updates i) ∙ ap (λ (us : List Update). slice_get us i) (sym is.updates) ∙ here) in
      let u = found.0 in
      let made = legal.made i u found.1.0 in
      let by = made_same new are.back dir u (i + 1) (answered_lines (lines_of parts u.client) (replies_of run u.client)) made.1 in
      let there : Any (IsMadeBy dir (renamed_update new u) (i + 1)) (answered_lines (lines_of parts' (new u.client)) (replies_of run' (new u.client))) =
      subst (λ (ls : List RequestLine). Any (IsMadeBy dir (renamed_update new u) (i + 1)) (answered_lines ls (replies_of run' (new u.client)))) (sym (are.lines u.client made.0))
      (subst (λ (ps : List Placed). Any (IsMadeBy dir (renamed_update new u) (i + 1)) (answered_lines (lines_of parts u.client) ps)) (sym (is.replies u.client made.0))
      (subst (λ (answers : List Answered). Any (IsMadeBy dir (renamed_update new u) (i + 1)) answers) (sym (lines_same new are.back (lines_of parts u.client) (replies_of run u.client))) by)) in
      let low : new u.client < length parts' = omega (arith, are.clients, are.within u.client made.0) in
      subst (λ (w : Update). (w.client < length parts') × Any (IsMadeBy dir w (i + 1)) (answered_lines (lines_of parts' w.client) (replies_of run' w.client))) found.1.1 (low, there);
}
