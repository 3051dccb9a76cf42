-- The values of a run's updates are places of records, and so are those of its maps, pages and replies.
use Rattle.request_lines.specs.SessionLaws.{HasRecordBelow}
use Rattle.std.proofs.Common.{◌≡◌, ℕ, ◌<◌, All, Any, IfSome, length, take, List, [], ◌∷◌, ◌++◌, Option, Some, None, inl, inr, sym, ap, ◌∙◌, subst, fold, nat_lt, ◌==◌}
use Rattle.std.proofs.lemmas.Bool.{cases_Bool}
use Rattle.std.proofs.lemmas.List.Elements.{All-nil, All-cons, All-head, All-tail, All-map, All-take, All-filter, All-weaker}
use Rattle.std.proofs.lemmas.List.Filters.{All-dedup}
use Rattle.key_map.specs.declared.pair.Pair.{Pair}
use Rattle.key_map.specs.declared.update.Update.{Update}
use Rattle.key_map.specs.declared.update.Change.{Change}
use Rattle.key_map.specs.declared.update.Change.TheVariants.{Put as PutVal, Remove}
use Rattle.key_map.specs.Map.{pair, map_put, map_remove, map_get}
use Rattle.key_map.specs.History.{changed, updated, after}
use Rattle.bucket_terms.specs.declared.record.Record.{Record}
use Rattle.bucket_terms.specs.declared.list_query.ListQuery.{ListQuery}
use Rattle.bucket_terms.specs.declared.token_point.TokenPoint.{TokenPoint}
use Rattle.bucket_terms.specs.declared.page.Page.{Page}
use Rattle.bucket_terms.specs.declared.request.Request.{Request}
use Rattle.bucket_terms.specs.declared.request.Request.TheVariants.{Put, PutNew, Delete, Head, List as ListRequest, ListV1, Next}
use Rattle.bucket_terms.specs.declared.reply.Reply.{Reply}
use Rattle.bucket_terms.specs.declared.reply.Reply.TheVariants.{Put as PutReply, Exists, Deleted, Found, Missing, Listed, ListedV1, BadToken, NoSlot}
use Rattle.bucket_terms.specs.declared.reply.Placed.{Placed}
use Rattle.bucket_terms.specs.Listing.{is_under, is_admitted, group_len, entry_of, is_same_group, entries_of, page_of, plain, marker_point, v1_page}
use Rattle.bucket_terms.specs.PageParts.{listing, entry_by}
use Rattle.bucket_terms.specs.PageInRange.{IsInRange}
use Rattle.bucket_terms.specs.LegalRun.{RequestLine, Setting, Answered, AreAnswered, IsRight, IsChangeOf, IsMadeBy, answered_lines, last_listing}
use Rattle.key_names.specs.Names.{name_at}
use Rattle.answer_text.specs.InRange.{HasRecord, IsPageOf, IsReplyOf}
use Rattle.client_run.specs.Listing.{HasPageInRange}

-- the change puts, if it puts, a value below the count
abbrev pub PutsBelow : ℕ → Change → Type 0
PutsBelow count (PutVal val) = val < count
PutsBelow count Remove = Unit {0}

module _ (count : ℕ) where
  Below : Pair → Type 0
  Below p = p.val < count

  below_put : (key val : ℕ) (m : List Pair) → val < count → All (λ (p : Pair). p.val < count) m → All (λ (p : Pair). p.val < count) (map_put key val m)
  below_put key val [] v h = All-cons (λ (p : Pair). p.val < count) (pair key val) [] v h
  below_put key val (p ∷ ps) v h =
      let here = All-head (λ (q : Pair). q.val < count) p ps h in
      let rest = All-tail (λ (q : Pair). q.val < count) p ps h in
      elim (cases_Bool (nat_lt p.key key)) [
        | inl is ↦ rw is (All-cons (λ (q : Pair). q.val < count) p (map_put key val ps) here (below_put key val ps v rest))
        | inr above ↦
            elim (cases_Bool (p.key == key)) [
              | inl same ↦ rw (above, same) (All-cons (λ (q : Pair). q.val < count) (pair key val) ps v rest)
              | inr other ↦ rw (above, other) (All-cons (λ (q : Pair). q.val < count) (pair key val) (p ∷ ps) v h)
            ]
      ]

  below_remove : (key : ℕ) (m : List Pair) → All (λ (p : Pair). p.val < count) m → All (λ (p : Pair). p.val < count) (map_remove key m)
  below_remove key [] h = h
  below_remove key (p ∷ ps) h =
      let here = All-head (λ (q : Pair). q.val < count) p ps h in
      let rest = All-tail (λ (q : Pair). q.val < count) p ps h in
      elim (cases_Bool (p.key == key)) [
        | inl same ↦ rw same rest
        | inr other ↦ rw other (All-cons (λ (q : Pair). q.val < count) p (map_remove key ps) here (below_remove key ps rest))
      ]

  below_changed : (key : ℕ) (c : Change) (m : List Pair) → PutsBelow count c → All (λ (p : Pair). p.val < count) m → All (λ (p : Pair). p.val < count) (changed key c m)
  below_changed key (PutVal val) m v h = below_put key val m v h
  below_changed key Remove m v h = below_remove key m h

  below_fold : (us : List Update) (m : List Pair) → All (λ (u : Update). PutsBelow count u.change) us → All (λ (p : Pair). p.val < count) m → All (λ (p : Pair). p.val < count) (fold updated m us)
  below_fold [] m each h = h
  below_fold (u ∷ us) m each h =
      below_fold us (updated m u) (All-tail (λ (w : Update). PutsBelow count w.change) u us each)
      (below_changed u.key u.change m (All-head (λ (w : Update). PutsBelow count w.change) u us each) h)

  pub below_after : (us : List Update) (t : ℕ) → All (λ (u : Update). PutsBelow count u.change) us → All (λ (p : Pair). p.val < count) (after us t)
  unfolding after
  below_after us t each = below_fold (take t us) [] (All-take (λ (u : Update). PutsBelow count u.change) t us each) (All-nil (λ (p : Pair). p.val < count))

  below_get : (key : ℕ) (m : List Pair) → All (λ (p : Pair). p.val < count) m → IfSome (map_get key m) (λ val. val < count)
  below_get key [] h = tt
  below_get key (p ∷ ps) h =
      elim (cases_Bool (p.key == key)) [
        | inl same ↦ rw same (All-head (λ (q : Pair). q.val < count) p ps h)
        | inr other ↦ rw other (below_get key ps (All-tail (λ (q : Pair). q.val < count) p ps h))
      ]

module _ (dir : List (List ℕ)) (records : List Record) where
  entry_recorded : (p : Pair) (o : Option ℕ) → p.val < length records → HasRecord records (entry_by o p)
  entry_recorded p (Some len) h = tt
  entry_recorded p None h = h

  entries_recorded : (query : ListQuery) (point : Option TokenPoint) (m : List Pair) → All (λ (p : Pair). p.val < length records) m → All (HasRecord records) (entries_of dir query point m)
  unfolding entries_of listing
  entries_recorded query point m h =
      let admitted = All-filter (λ (p : Pair). is_admitted query point (name_at dir p.key)) (λ (p : Pair). p.val < length records) m h in
      let under = All-filter (is_under dir query) (λ (p : Pair). p.val < length records) _ admitted in
      All-dedup (is_same_group dir) (HasRecord records) _
      (All-map (HasRecord records) (entry_of dir query) _
      (All-weaker (λ (p : Pair). p.val < length records) (λ (p : Pair). HasRecord records (entry_of dir query p)) (λ p v. entry_recorded p (group_len query (name_at dir p.key)) v) _ under))

  page_recorded : (query : ListQuery) (point : Option TokenPoint) (m : List Pair) (page : Page) → All (λ (p : Pair). p.val < length records) m
      → page ≡ page_of dir query point m → IsInRange dir page → IsPageOf dir records page
  page_recorded query point m page h is in_range = record {
    in_range = in_range;
    recorded = subst (λ (q : Page). All (HasRecord records) q.entries) (sym is) (All-take (HasRecord records) query.max_keys _ (entries_recorded query point m h));
  }

  module _ (s : Setting) (same : s.dir ≡ dir) (puts : All (λ (u : Update). PutsBelow (length records) u.change) s.updates) where
    reply_recorded : (last : Option Reply) (line : ℕ) (request : Request) (at : Option ℕ) (reply : Reply)
        → IsRight s last (record { line = line; request = request }) at reply → HasPageInRange dir reply → IsReplyOf dir records reply
    reply_recorded last line request at (PutReply was) right page = tt
    reply_recorded last line request at Exists right page = tt
    reply_recorded last line request at Deleted right page = tt
    reply_recorded last line request at Missing right page = tt
    reply_recorded last line request at BadToken right page = tt
    reply_recorded last line request at NoSlot right page = tt
    reply_recorded last line (Head name) (Some n) (Found val) right page =
        subst (λ (o : Option ℕ). IfSome o (λ v. v < length records)) right.value (below_get (length records) right.key (after s.updates n) (below_after (length records) s.updates n puts))
    reply_recorded last line (ListRequest query) (Some n) (Listed query' page') right page =
        page_recorded query right.0 (after s.updates n) page' (below_after (length records) s.updates n puts)
        (right.1.1.1 ∙ ap (λ (d : List (List ℕ)). page_of d query right.0 (after s.updates n)) same) page
    reply_recorded last line Next (Some n) (Listed query' page') right page =
        page_recorded right.0.query (Some right.0.point) (after s.updates n) page' (below_after (length records) s.updates n puts)
        (right.1.1.1 ∙ ap (λ (d : List (List ℕ)). page_of d right.0.query (Some right.0.point) (after s.updates n)) same) page
    reply_recorded last line (ListV1 query) (Some n) (ListedV1 query' page') right page =
        page_recorded (plain query) (marker_point query) (after s.updates n) page' (below_after (length records) s.updates n puts)
        (right.1 ∙ ap (λ (d : List (List ℕ)). v1_page d query (after s.updates n)) same) page
    reply_recorded last line (Put name v) None (Found val) right page = absurd right
    reply_recorded last line (Put name v) (Some n) (Found val) right page = absurd right
    reply_recorded last line (PutNew name v) None (Found val) right page = absurd right
    reply_recorded last line (PutNew name v) (Some n) (Found val) right page = absurd right
    reply_recorded last line (Delete name) None (Found val) right page = absurd right
    reply_recorded last line (Delete name) (Some n) (Found val) right page = absurd right
    reply_recorded last line (ListRequest query) None (Found val) right page = absurd right
    reply_recorded last line (ListRequest query) (Some n) (Found val) right page = absurd right
    reply_recorded last line Next None (Found val) right page = absurd right
    reply_recorded last line Next (Some n) (Found val) right page = absurd right
    reply_recorded last line (Head name) None (Found val) right page = absurd right
    reply_recorded last line (Put name v) None (Listed query' page') right page = absurd right
    reply_recorded last line (Put name v) (Some n) (Listed query' page') right page = absurd right
    reply_recorded last line (PutNew name v) None (Listed query' page') right page = absurd right
    reply_recorded last line (PutNew name v) (Some n) (Listed query' page') right page = absurd right
    reply_recorded last line (Delete name) None (Listed query' page') right page = absurd right
    reply_recorded last line (Delete name) (Some n) (Listed query' page') right page = absurd right
    reply_recorded last line (Head name) None (Listed query' page') right page = absurd right
    reply_recorded last line (Head name) (Some n) (Listed query' page') right page = absurd right
    reply_recorded last line (ListRequest query) None (Listed query' page') right page = absurd right
    reply_recorded last line Next None (Listed query' page') right page = absurd right
    reply_recorded last line (ListV1 query) None (Found val) right page = absurd right
    reply_recorded last line (ListV1 query) None (Listed query' page') right page = absurd right
    reply_recorded last line (ListV1 query) (Some n) (Found val) right page = absurd right
    reply_recorded last line (ListV1 query) (Some n) (Listed query' page') right page = absurd right
    reply_recorded last line (Put name v) None (ListedV1 query' page') right page = absurd right
    reply_recorded last line (Put name v) (Some n) (ListedV1 query' page') right page = absurd right
    reply_recorded last line (PutNew name v) None (ListedV1 query' page') right page = absurd right
    reply_recorded last line (PutNew name v) (Some n) (ListedV1 query' page') right page = absurd right
    reply_recorded last line (Delete name) None (ListedV1 query' page') right page = absurd right
    reply_recorded last line (Delete name) (Some n) (ListedV1 query' page') right page = absurd right
    reply_recorded last line (Head name) None (ListedV1 query' page') right page = absurd right
    reply_recorded last line (Head name) (Some n) (ListedV1 query' page') right page = absurd right
    reply_recorded last line (ListRequest query) None (ListedV1 query' page') right page = absurd right
    reply_recorded last line (ListRequest query) (Some n) (ListedV1 query' page') right page = absurd right
    reply_recorded last line Next None (ListedV1 query' page') right page = absurd right
    reply_recorded last line Next (Some n) (ListedV1 query' page') right page = absurd right
    reply_recorded last line (ListV1 query) None (ListedV1 query' page') right page = absurd right

    pub replies_recorded : (earlier : List Answered) (lines : List RequestLine) (replies : List Placed) → AreAnswered s earlier lines replies
        → All (λ (p : Placed). HasPageInRange dir p.reply) replies → All (λ (p : Placed). IsReplyOf dir records p.reply) replies
    replies_recorded earlier [] [] answered pages = All-nil (λ (p : Placed). IsReplyOf dir records p.reply)
    replies_recorded earlier (l ∷ lines) (p ∷ replies) answered pages =
        All-cons (λ (q : Placed). IsReplyOf dir records q.reply) p replies
        (reply_recorded (last_listing earlier) l.line l.request p.at p.reply answered.0.right (All-head (λ (q : Placed). HasPageInRange dir q.reply) p replies pages))
        (replies_recorded (earlier ++ record { asked = l; placed = p } ∷ []) lines replies answered.1 (All-tail (λ (q : Placed). HasPageInRange dir q.reply) p replies pages))
    replies_recorded earlier lines replies answered pages = absurd answered

-- ---- the updates, by the requests that made them

module _ (dir : List (List ℕ)) (count : ℕ) where
  change_below : (u : Update) (request : Request) (line : ℕ) → IsChangeOf dir u request → HasRecordBelow count (record { line = line; request = request })
      → PutsBelow count u.change × (u.key < length dir)
  change_below u (Put name val) line is below = (subst (PutsBelow count) (sym is.1) below, is.0.below)
  change_below u (PutNew name val) line is below = (subst (PutsBelow count) (sym is.1) below, is.0.below)
  change_below u (Delete name) line is below = (subst (PutsBelow count) (sym is.1) tt, is.0.below)
  change_below u request line is below = absurd is

  lines_below : (lines : List RequestLine) (replies : List Placed) → All (HasRecordBelow count) lines → All (λ (a : Answered). HasRecordBelow count a.asked) (answered_lines lines replies)
  lines_below [] replies each = All-nil (λ (a : Answered). HasRecordBelow count a.asked)
  lines_below (l ∷ lines) [] each = All-nil (λ (a : Answered). HasRecordBelow count a.asked)
  lines_below (l ∷ lines) (p ∷ replies) each =
      All-cons (λ (a : Answered). HasRecordBelow count a.asked) (record { asked = l; placed = p }) (answered_lines lines replies) (All-head (HasRecordBelow count) l lines each)
      (lines_below lines replies (All-tail (HasRecordBelow count) l lines each))

  pub made_below : (u : Update) (at : ℕ) (lines : List RequestLine) (replies : List Placed) → All (HasRecordBelow count) lines
      → Any (IsMadeBy dir u at) (answered_lines lines replies) → PutsBelow count u.change × (u.key < length dir)
  made_below u at lines replies each made =
      let a = made.1 in
      let here : HasRecordBelow count a.asked = subst (λ (b : Answered). HasRecordBelow count b.asked) made.3 (lines_below lines replies each made.0 a made.2) in
      change_below u a.asked.request a.asked.line made.4.change here
