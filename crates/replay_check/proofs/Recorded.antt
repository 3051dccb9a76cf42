-- The values of a history's updates are places of records, and so are those of its maps, pages and replies.
use Rattle.std.proofs.Common.{◌≡◌, ℕ, ◌<◌, All, IfSome, length, take, List, [], ◌∷◌, Bool, true, false, Option, Some, None, inl, inr, refl, sym, subst, fold, nat_lt, nat_le, ◌==◌, if◌then◌else◌}
use Rattle.std.specs.Option.{ForSome, MatchOption}
use Rattle.std.proofs.lemmas.Option.{same_Some, none-some}
use Rattle.std.proofs.lemmas.Bool.{cases_Bool}
use Rattle.std.proofs.lemmas.List.Elements.{All-nil, All-cons, All-head, All-tail, All-map, All-take, All-filter, All-weaker}
use Rattle.std.proofs.lemmas.List.Filters.{All-dedup}
use Rattle.key_map.specs.declared.pair.Pair.{Pair}
use Rattle.key_map.specs.declared.update.Update.{Update}
use Rattle.key_map.specs.declared.update.Change.{Change}
use Rattle.key_map.specs.declared.update.Change.TheVariants.{Put as PutVal, Remove}
use Rattle.key_map.specs.Map.{pair, map_has, map_put, map_remove, map_get}
use Rattle.key_map.specs.History.{changed, updated, after}
use Rattle.bucket_terms.specs.declared.record.Record.{Record}
use Rattle.bucket_terms.specs.declared.list_query.ListQuery.{ListQuery}
use Rattle.bucket_terms.specs.declared.token_point.TokenPoint.{TokenPoint}
use Rattle.bucket_terms.specs.declared.page.Page.{Page}
use Rattle.bucket_terms.specs.declared.request.Request.{Request}
use Rattle.bucket_terms.specs.declared.request.Request.TheVariants.{Put, PutNew, Delete, Head, List as ListRequest, ListV1, Next}
use Rattle.bucket_terms.specs.declared.reply.Reply.{Reply}
use Rattle.bucket_terms.specs.declared.reply.Reply.TheVariants.{ListedV1, BadToken, NoSlot}
use Rattle.bucket_terms.specs.Listing.{is_under, is_admitted, group_len, entry_of, is_same_group, entries_of, page_of, plain, marker_point, v1_page}
use Rattle.bucket_terms.specs.PageParts.{listing, entry_by}
use Rattle.bucket_terms.specs.PageInRange.{IsInRange}
use Rattle.bucket_terms.specs.RunParts.{head_by}
use Rattle.bucket_terms.specs.LegalRun.{Resumed, next_of}
use Rattle.key_names.specs.Names.{name_at}
use Rattle.answer_text.specs.InRange.{HasRecord, IsPageOf, IsReplyOf}
use Rattle.client_run.specs.Listing.{HasPageInRange}
use Rattle.replay_check.specs.Answering.{IsLook, kept_by, absent_by, own_reply, next_page, IsRefusal}

-- the change puts, if it puts, a value below the count
abbrev pub PutsBelow : ℕ → Change → Type 0
PutsBelow count (PutVal val) = val < count
PutsBelow count Remove = Unit {0}

module _ (count : ℕ) where
  Below : Pair → Type 0
  Below p = p.val < count

  below_put : (key val : ℕ) (m : List Pair) → val < count → All (λ (p : Pair). p.val < count) m → All (λ (p : Pair). p.val < count) (map_put key val m)
  below_put key val [] v h = All-cons (λ (p : Pair). p.val < count) (pair key val) [] v h
  below_put key val (p ∷ ps) v h =
      let here = All-head (λ (q : Pair). q.val < count) p ps h in
      let rest = All-tail (λ (q : Pair). q.val < count) p ps h in
      elim (cases_Bool (nat_lt p.key key)) [
        | inl is ↦ rw is (All-cons (λ (q : Pair). q.val < count) p (map_put key val ps) here (below_put key val ps v rest))
        | inr above ↦
            elim (cases_Bool (p.key == key)) [
              | inl same ↦ rw (above, same) (All-cons (λ (q : Pair). q.val < count) (pair key val) ps v rest)
              | inr other ↦ rw (above, other) (All-cons (λ (q : Pair). q.val < count) (pair key val) (p ∷ ps) v h)
            ]
      ]

  below_remove : (key : ℕ) (m : List Pair) → All (λ (p : Pair). p.val < count) m → All (λ (p : Pair). p.val < count) (map_remove key m)
  below_remove key [] h = h
  below_remove key (p ∷ ps) h =
      let here = All-head (λ (q : Pair). q.val < count) p ps h in
      let rest = All-tail (λ (q : Pair). q.val < count) p ps h in
      elim (cases_Bool (p.key == key)) [
        | inl same ↦ rw same rest
        | inr other ↦ rw other (All-cons (λ (q : Pair). q.val < count) p (map_remove key ps) here (below_remove key ps rest))
      ]

  below_changed : (key : ℕ) (c : Change) (m : List Pair) → PutsBelow count c → All (λ (p : Pair). p.val < count) m → All (λ (p : Pair). p.val < count) (changed key c m)
  below_changed key (PutVal val) m v h = below_put key val m v h
  below_changed key Remove m v h = below_remove key m h

  below_fold : (us : List Update) (m : List Pair) → All (λ (u : Update). PutsBelow count u.change) us → All (λ (p : Pair). p.val < count) m → All (λ (p : Pair). p.val < count) (fold updated m us)
  below_fold [] m each h = h
  below_fold (u ∷ us) m each h =
      below_fold us (updated m u) (All-tail (λ (w : Update). PutsBelow count w.change) u us each)
      (below_changed u.key u.change m (All-head (λ (w : Update). PutsBelow count w.change) u us each) h)

  pub below_after : (us : List Update) (t : ℕ) → All (λ (u : Update). PutsBelow count u.change) us → All (λ (p : Pair). p.val < count) (after us t)
  unfolding after
  below_after us t each = below_fold (take t us) [] (All-take (λ (u : Update). PutsBelow count u.change) t us each) (All-nil (λ (p : Pair). p.val < count))

  pub below_get : (key : ℕ) (m : List Pair) → All (λ (p : Pair). p.val < count) m → IfSome (map_get key m) (λ val. val < count)
  below_get key [] h = tt
  below_get key (p ∷ ps) h =
      elim (cases_Bool (p.key == key)) [
        | inl same ↦ rw same (All-head (λ (q : Pair). q.val < count) p ps h)
        | inr other ↦ rw other (below_get key ps (All-tail (λ (q : Pair). q.val < count) p ps h))
      ]

module _ (dir : List (List ℕ)) (records : List Record) where
  entry_recorded : (p : Pair) (o : Option ℕ) → p.val < length records → HasRecord records (entry_by o p)
  entry_recorded p (Some len) h = tt
  entry_recorded p None h = h

  entries_recorded : (query : ListQuery) (point : Option TokenPoint) (m : List Pair) → All (λ (p : Pair). p.val < length records) m → All (HasRecord records) (entries_of dir query point m)
  unfolding entries_of listing
  entries_recorded query point m h =
      let admitted = All-filter (λ (p : Pair). is_admitted query point (name_at dir p.key)) (λ (p : Pair). p.val < length records) m h in
      let under = All-filter (is_under dir query) (λ (p : Pair). p.val < length records) _ admitted in
      All-dedup (is_same_group dir) (HasRecord records) _
      (All-map (HasRecord records) (entry_of dir query) _
      (All-weaker (λ (p : Pair). p.val < length records) (λ (p : Pair). HasRecord records (entry_of dir query p)) (λ p v. entry_recorded p (group_len query (name_at dir p.key)) v) _ under))

  pub page_recorded : (query : ListQuery) (point : Option TokenPoint) (m : List Pair) (page : Page) → All (λ (p : Pair). p.val < length records) m
      → page ≡ page_of dir query point m → IsInRange dir page → IsPageOf dir records page
  page_recorded query point m page h is in_range = record {
    in_range = in_range;
    recorded = subst (λ (q : Page). All (HasRecord records) q.entries) (sym is) (All-take (HasRecord records) query.max_keys _ (entries_recorded query point m h));
  }

  -- a reply without a page or a record
  kept_recorded : (b : Bool) → IfSome (kept_by b) (IsReplyOf dir records)
  kept_recorded true = tt
  kept_recorded false = tt

  absent_recorded : (b : Bool) → IfSome (absent_by b) (IsReplyOf dir records)
  absent_recorded true = tt
  absent_recorded false = tt

  head_recorded : (found : Option ℕ) → IfSome found (λ val. val < length records) → IsReplyOf dir records (head_by found)
  head_recorded (Some val) below = below
  head_recorded None below = tt

  -- what was found in a map of such values
  module _ (m : List Pair) (below : All (λ (p : Pair). p.val < length records) m) (last : Option Reply) where
    next_recorded : (found : Option Reply) (next : Option Resumed) → next_of dir last ≡ next → IsLook dir m last Next found → ForSome found (HasPageInRange dir) → IfSome found (IsReplyOf dir records)
    next_recorded None next is look in_range = tt
    next_recorded (Some reply) None is look in_range =
        let none : Some reply ≡ None = subst (λ (o : Option Resumed). MatchOption o (Some reply ≡ None) (λ n. Some reply ≡ Some (next_page dir m n))) is look in
        absurd (none-some reply (sym none))
    next_recorded (Some reply) (Some next) is look in_range =
        let some : Some reply ≡ Some (next_page dir m next) = subst (λ (o : Option Resumed). MatchOption o (Some reply ≡ None) (λ n. Some reply ≡ Some (next_page dir m n))) is look in
        let same : reply ≡ next_page dir m next = same_Some reply (next_page dir m next) some in
        subst (IsReplyOf dir records) (sym same)
        (page_recorded next.query (Some next.point) m (page_of dir next.query (Some next.point) m) below refl (subst (HasPageInRange dir) same (in_range reply refl)))

    pub look_recorded : (request : Request) (found : Option Reply) → IsLook dir m last request found → ForSome found (HasPageInRange dir) → IfSome found (IsReplyOf dir records)
    look_recorded (Put name val) found look in_range = subst (λ (o : Option Reply). IfSome o (IsReplyOf dir records)) (sym look) tt
    look_recorded (PutNew name val) found look in_range = subst (λ (o : Option Reply). IfSome o (IsReplyOf dir records)) (sym look.1.1) (kept_recorded (map_has look.0 m))
    look_recorded (Delete name) found look in_range = subst (λ (o : Option Reply). IfSome o (IsReplyOf dir records)) (sym look.1.1) (absent_recorded (map_has look.0 m))
    look_recorded (Head name) found look in_range =
        subst (λ (o : Option Reply). IfSome o (IsReplyOf dir records)) (sym look.1.1) (head_recorded (map_get look.0 m) (below_get (length records) look.0 m below))
    look_recorded (ListRequest query) None look in_range = tt
    look_recorded (ListRequest query) (Some reply) look in_range =
        subst (IsReplyOf dir records) (sym look.1.1)
        (page_recorded query look.0 m (page_of dir query look.0 m) below refl (subst (HasPageInRange dir) look.1.1 (in_range reply refl)))
    look_recorded (ListV1 query) found look in_range =
        subst (λ (o : Option Reply). IfSome o (IsReplyOf dir records)) (sym look)
        (page_recorded (plain query) (marker_point query) m (v1_page dir query m) below refl (in_range (ListedV1 query (v1_page dir query m)) look))
    look_recorded Next found look in_range = next_recorded found (next_of dir last) refl look in_range

  -- an own update's reply
  pub own_recorded : (request : Request) (was : Bool) → IfSome (own_reply request was) (IsReplyOf dir records)
  own_recorded (Put name val) was = tt
  own_recorded (PutNew name val) true = tt
  own_recorded (PutNew name val) false = tt
  own_recorded (Delete name) true = tt
  own_recorded (Delete name) false = tt
  own_recorded request was = tt

  slot_recorded : (b : Bool) → IfSome (if b then Some NoSlot else None) (IsReplyOf dir records)
  slot_recorded true = tt
  slot_recorded false = tt

  refused_next_recorded : (found : Option Reply) (next : Option Resumed) → MatchOption next (found ≡ Some BadToken) (λ n. found ≡ None) → IfSome found (IsReplyOf dir records)
  refused_next_recorded found None is = subst (λ (o : Option Reply). IfSome o (IsReplyOf dir records)) (sym is) tt
  refused_next_recorded found (Some next) is = subst (λ (o : Option Reply). IfSome o (IsReplyOf dir records)) (sym is) tt

  -- a refusal
  pub refusal_recorded : (slots used : ℕ) (last : Option Reply) (request : Request) (found : Option Reply) → IsRefusal dir slots used last request found → IfSome found (IsReplyOf dir records)
  refusal_recorded slots used last (Put name val) found is = subst (λ (o : Option Reply). IfSome o (IsReplyOf dir records)) (sym is) (slot_recorded (nat_le slots used))
  refusal_recorded slots used last (PutNew name val) found is = subst (λ (o : Option Reply). IfSome o (IsReplyOf dir records)) (sym is) (slot_recorded (nat_le slots used))
  refusal_recorded slots used last (Delete name) found is = subst (λ (o : Option Reply). IfSome o (IsReplyOf dir records)) (sym is) (slot_recorded (nat_le slots used))
  refusal_recorded slots used last (Head name) found is = subst (λ (o : Option Reply). IfSome o (IsReplyOf dir records)) (sym is) tt
  refusal_recorded slots used last (ListV1 query) found is = subst (λ (o : Option Reply). IfSome o (IsReplyOf dir records)) (sym is) tt
  refusal_recorded slots used last (ListRequest query) None is = tt
  refusal_recorded slots used last (ListRequest query) (Some reply) is = subst (IsReplyOf dir records) (sym is.0) tt
  refusal_recorded slots used last Next found is = refused_next_recorded found (next_of dir last) is
