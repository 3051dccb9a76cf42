-- At most one reply is right at a place, so a reply line is that of one reply.
use Rattle.std.proofs.Common.{◌≡◌, ℕ, zero, suc, ◌-◌, ◌^◌, ◌<◌, ◌≤◌, ◌⊎◌, false, List, length, Option, Some, None, IfSome, if◌then◌else◌, inl, inr, refl, sym, ap, ◌∙◌, subst, arith}
use Rattle.std.proofs.lemmas.Option.{same_Some, none-some, slice_get_within, get_or_from_slice_get}
use Rattle.key_names.specs.Names.{Rises}
use Rattle.key_map.specs.declared.update.Update.{Update}
use Rattle.key_map.specs.declared.update.Change.TheVariants.{Put as PutVal}
use Rattle.key_map.specs.KeyMap.{map_has, map_get, after}
use Rattle.bucket_terms.specs.declared.list_query.ListQuery.{ListQuery}
use Rattle.bucket_terms.specs.declared.v1_query.V1Query.{V1Query}
use Rattle.bucket_terms.specs.declared.token_point.TokenPoint.{TokenPoint}
use Rattle.bucket_terms.specs.declared.token.Token.{Token}
use Rattle.bucket_terms.specs.declared.request.Request.{Request}
use Rattle.bucket_terms.specs.declared.request.Request.TheVariants.{Put, PutNew, Delete, Head, List as ListRequest, ListV1, Next}
use Rattle.bucket_terms.specs.declared.reply.Reply.{Reply}
use Rattle.bucket_terms.specs.declared.reply.Reply.TheVariants.{Put as PutReply, Exists, Deleted, Found, Missing, Listed, ListedV1, BadToken, NoSlot}
use Rattle.bucket_terms.specs.declared.reply.Placed.{Placed}
use Rattle.bucket_terms.specs.Listing.{page_of, v1_page}
use Rattle.bucket_terms.specs.LegalRun.{RequestLine, Setting, Answered, IsAnswered, IsRight, IsOf, IsPointOf, MakesNone, Resumed, KeepsOrder, next_of, update_at, last_listing, is_update}
use Rattle.bucket_terms.specs.RunParts.{head_by}
use Rattle.page_token.proofs.OneTokenLaws.{one_token}
use Rattle.sample_laws.specs.Alone.{rank_of}
use Rattle.sample_laws.proofs.Ranks.{rank_of-is, no_token}
use Rattle.text_laws.specs.WrongLine.{Checked, IsReplyLine, setting}
use Rattle.text_laws.proofs.Spelled.{place_told}

same_point : (query : ListQuery) (p q : Option TokenPoint) → IsPointOf query p → IsPointOf query q → p ≡ q
same_point query None None h k = refl
same_point query None (Some b) h k = absurd (no_token (record { point = b; bound = k.0 }) query.token h k.1.1)
same_point query (Some a) None h k = absurd (no_token (record { point = a; bound = h.0 }) query.token k h.1.1)
same_point query (Some a) (Some b) h k =
    ap (λ (t : Token). Some t.point) (one_token query.token (record { point = a; bound = h.0 }) (record { point = b; bound = k.0 }) h.1.1 k.1.1)

module _ (s : Setting) (rising : Rises s.dir) (last : Option Reply) (line : ℕ) where
  -- the page of a query at a place
  abbrev shown_at : ℕ → ListQuery → Option TokenPoint → Reply
  shown_at at query point = Listed query (page_of s.dir query point (after s.updates at))

  -- an update of the line stands at the place
  abbrev OwnAt : ℕ → Type 0
  OwnAt at = (u : Update) × ((update_at s at ≡ Some u) × IsOf s line u)

  -- what a right reply is
  abbrev Told : Request → Option ℕ → Reply → Type 0
  Told (Put name val) (Some at) reply = reply ≡ PutReply (map_has (rank_of s.dir name) (after s.updates (at - 1)))
  Told (PutNew name val) (Some at) reply = ((reply ≡ PutReply false) × OwnAt at) ⊎ ((reply ≡ Exists) × MakesNone s line)
  Told (Delete name) (Some at) reply = reply ≡ Deleted
  Told (Head name) (Some at) reply = reply ≡ head_by (map_get (rank_of s.dir name) (after s.updates at))
  Told (ListRequest query) (Some at) reply = (point : Option TokenPoint) × (IsPointOf query point × (reply ≡ shown_at at query point))
  Told (ListV1 query) (Some at) reply = reply ≡ ListedV1 query (v1_page s.dir query (after s.updates at))
  Told Next (Some at) reply = (next : Resumed) × ((next_of s.dir last ≡ Some next) × (reply ≡ shown_at at next.query (Some next.point)))
  Told request None reply = reply ≡ (if is_update request then NoSlot else BadToken)

  told_is : (request : Request) (at : Option ℕ) (reply : Reply) → IsRight s last (record { line = line; request = request }) at reply → Told request at reply
  told_is (Put name val) (Some at) (PutReply was) right =
      ap PutReply (right.before ∙ ap (λ (k : ℕ). map_has k (after s.updates (at - 1))) (sym (rank_of-is s.dir name right.key rising right.rank)))
  told_is (PutNew name val) (Some at) (PutReply false) right =
      inl (refl, (record { client = s.client; line = line; key = right.key; change = PutVal val }, (right.update, record { by = refl; for_line = refl })))
  told_is (PutNew name val) (Some at) Exists right = inr (refl, right.1)
  told_is (Delete name) (Some at) Deleted right = refl
  told_is (Head name) (Some at) (Found val) right =
      sym (ap head_by (ap (λ (k : ℕ). map_get k (after s.updates at)) (rank_of-is s.dir name right.key rising right.rank) ∙ right.value))
  told_is (Head name) (Some at) Missing right =
      sym (ap head_by (ap (λ (k : ℕ). map_get k (after s.updates at)) (rank_of-is s.dir name right.key rising right.rank) ∙ right.value))
  told_is (ListRequest query) (Some at) (Listed shown page) right =
      (right.0, (right.1.0, ap (λ (q : ListQuery). Listed q page) right.1.1.0 ∙ ap (Listed query) right.1.1.1))
  told_is (ListV1 query) (Some at) (ListedV1 shown page) right = ap (λ (q : V1Query). ListedV1 q page) right.0 ∙ ap (ListedV1 query) right.1
  told_is Next (Some at) (Listed shown page) right =
      (right.0, (right.1.0, ap (λ (q : ListQuery). Listed q page) right.1.1.0 ∙ ap (Listed right.0.query) right.1.1.1))
  told_is (Put name val) None NoSlot right = refl
  told_is (PutNew name val) None NoSlot right = refl
  told_is (Delete name) None NoSlot right = refl
  told_is (ListRequest query) None BadToken right = refl
  told_is Next None BadToken right = refl
  told_is (Head name) None NoSlot right = absurd right
  told_is (ListV1 query) None BadToken right = absurd right
  told_is request at reply right = absurd right

  made_and_none : {P : Type 0} (at : ℕ) → OwnAt at → MakesNone s line → P
  made_and_none zero own none = absurd (none-some own.0 own.1.0)
  made_and_none (suc k) own none =
      let u = own.0 in
      let here = get_or_from_slice_get s.updates k u u own.1.0 in
      absurd (subst (λ (v : Update). ¬ (IsOf s line v)) here (none k u (slice_get_within s.updates k u own.1.0)) own.1.1)

  one_told : (request : Request) (at : Option ℕ) (a b : Reply) → Told request at a → Told request at b → a ≡ b
  one_told (Put name val) (Some at) a b h k = h ∙ sym k
  one_told (PutNew name val) (Some at) a b (inl h) (inl k) = h.0 ∙ sym k.0
  one_told (PutNew name val) (Some at) a b (inr h) (inr k) = h.0 ∙ sym k.0
  one_told (PutNew name val) (Some at) a b (inl h) (inr k) = made_and_none at h.1 k.1
  one_told (PutNew name val) (Some at) a b (inr h) (inl k) = made_and_none at k.1 h.1
  one_told (Delete name) (Some at) a b h k = h ∙ sym k
  one_told (Head name) (Some at) a b h k = h ∙ sym k
  one_told (ListRequest query) (Some at) a b h k = h.1.1 ∙ ap (shown_at at query) (same_point query h.0 k.0 h.1.0 k.1.0) ∙ sym k.1.1
  one_told (ListV1 query) (Some at) a b h k = h ∙ sym k
  one_told Next (Some at) a b h k =
      h.1.1 ∙ ap (λ (next : Resumed). shown_at at next.query (Some next.point)) (same_Some h.0 k.0 (sym h.1.0 ∙ k.1.0)) ∙ sym k.1.1
  one_told (Put name val) None a b h k = h ∙ sym k
  one_told (PutNew name val) None a b h k = h ∙ sym k
  one_told (Delete name) None a b h k = h ∙ sym k
  one_told (Head name) None a b h k = h ∙ sym k
  one_told (ListRequest query) None a b h k = h ∙ sym k
  one_told (ListV1 query) None a b h k = h ∙ sym k
  one_told Next None a b h k = h ∙ sym k

-- a place in the history is small if the history is short
pub small_place : (s : Setting) (earlier : List Answered) (line : ℕ) (at : Option ℕ) → length s.updates < 2 ^ 64 → IfSome at (KeepsOrder s earlier line) → IfSome at (λ n. n < 2 ^ 64)
small_place s earlier line None short order = tt
small_place s earlier line (Some at) short order = let within : at ≤ length s.updates = order.within in omega arith

-- at a place, or without one, one reply is an answer
pub one_answer : (s : Setting) (earlier : List Answered) (asked : RequestLine) (p q : Placed) → Rises s.dir
    → IsAnswered s earlier asked p → IsAnswered s earlier asked q → p.at ≡ q.at → p ≡ q
one_answer s earlier asked p q rising h k at =
    let last = last_listing earlier in
    let right : IsRight s last asked p.at q.reply = subst (λ (o : Option ℕ). IsRight s last asked o q.reply) (sym at) k.right in
    let reply : p.reply ≡ q.reply =
    one_told s rising last asked.line asked.request p.at p.reply q.reply
    (told_is s rising last asked.line asked.request p.at p.reply h.right)
    (told_is s rising last asked.line asked.request p.at q.reply right) in
    ap (λ (n : ℕ). record { client = n; line = p.line; at = p.at; reply = p.reply }) (h.client ∙ sym k.client)
    ∙ ap (λ (n : ℕ). record { client = q.client; line = n; at = p.at; reply = p.reply }) (h.line ∙ sym k.line)
    ∙ ap (λ (o : Option ℕ). record { client = q.client; line = q.line; at = o; reply = p.reply }) at
    ∙ ap (λ (r : Reply). record { client = q.client; line = q.line; at = q.at; reply = r }) reply

-- a reply line is that of one reply
pub one_reply : (c : Checked) (updates : List Update) (client : ℕ) (earlier : List Answered) (asked : RequestLine) (text : List ℕ) (p q : Placed)
    → Rises c.dir → length updates < 2 ^ 64 → IsReplyLine c updates client earlier asked text p → IsReplyLine c updates client earlier asked text q → p ≡ q
one_reply c updates client earlier asked text p q rising short h k =
    let s = setting c updates client in
    let at : p.at ≡ q.at =
    place_told c.dir c.records p q (small_place s earlier asked.line p.at short h.answered.order) (small_place s earlier asked.line q.at short k.answered.order) (sym h.text_is ∙ k.text_is) in
    one_answer s earlier asked p q rising h.answered k.answered at
