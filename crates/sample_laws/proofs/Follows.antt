-- What a right reply says of the client's own pairs: the reply is the one that the client gets alone, and the pairs at
-- its place are those that the client has alone after the request.
use Rattle.std.proofs.Common.{◌≡◌, ℕ, zero, suc, ◌+◌, ◌-◌, ◌<◌, ◌⊎◌, Bool, true, false, cond, List, [], ◌∷◌, length, map, refl, sym, ap, ◌∙◌, subst, arith, inl, inr, Option, Some, None, All}
use Rattle.std.specs.Bool.{IsTrue}
use Rattle.std.specs.List.{slice_get}
use Rattle.std.proofs.lemmas.List.{length_push}
use Rattle.std.proofs.lemmas.List.Sums.{fold_push}
use Rattle.std.proofs.lemmas.Option.{same_Some}
use Rattle.key_names.specs.Names.{Rises, IsRank, name_at, begins_with}
use Rattle.key_map.specs.declared.pair.Pair.{Pair}
use Rattle.key_map.specs.declared.update.Update.{Update}
use Rattle.key_map.specs.declared.update.Change.TheVariants.{Put as PutVal, Remove}
use Rattle.key_map.specs.Map.{map_has, map_get, map_put, map_remove}
use Rattle.key_map.specs.History.{updated, after}
use Rattle.key_map.proofs.MapLaws.{map_remove-absent}
use Rattle.bucket_terms.proofs.Finds.{map_has-none, map_has-some}
use Rattle.bucket_terms.specs.declared.list_query.ListQuery.{ListQuery}
use Rattle.bucket_terms.specs.declared.v1_query.V1Query.{V1Query}
use Rattle.bucket_terms.specs.declared.token_point.TokenPoint.{TokenPoint}
use Rattle.bucket_terms.specs.declared.page.Page.{Page}
use Rattle.bucket_terms.specs.declared.request.Request.{Request}
use Rattle.bucket_terms.specs.declared.request.Request.TheVariants.{Put, PutNew, Delete, Head, List as ListRequest, ListV1}
use Rattle.bucket_terms.specs.declared.reply.Reply.{Reply}
use Rattle.bucket_terms.specs.declared.reply.Reply.TheVariants.{Put as PutReply, Exists, Deleted, Listed, ListedV1}
use Rattle.bucket_terms.specs.Listing.{is_under, is_admitted, entry_of, is_same_group, entries_of, page_of, plain, marker_point, v1_page}
use Rattle.bucket_terms.specs.PageParts.{listing, cut_at}
use Rattle.std.specs.List.{dedup}
use Rattle.bucket_terms.specs.RunParts.{head_answer, head_by, ListsV1}
use Rattle.bucket_terms.specs.LegalRun.{Setting, Answered, IsOf, IsPointOf, update_at, UpdateStands, Finds, Lists, IsChangeOf}
use Rattle.sample_laws.specs.Alone.{rank_of, map_behind, updates_on, reply_on}
use Rattle.sample_laws.specs.Own.{is_own, own_pairs, IsNamed}
use Rattle.sample_laws.proofs.Parts.{made_by, map_has-part, map_get-part, filter-within}
use Rattle.sample_laws.proofs.Places.{own_upto, update_at-next}
use Rattle.sample_laws.proofs.Steps.{Stays, Adds}
use Rattle.sample_laws.proofs.Ranks.{rank_of-is, own_rank, no_token}

-- ---- a page under the prefix

-- the page has the own pairs alone
pub page-own : (dir : List (List ℕ)) (query : ListQuery) (point : Option TokenPoint) (m : List Pair)
    → page_of dir query point m ≡ page_of dir query point (own_pairs dir query.prefix m)
unfolding entries_of listing
page-own dir query point m =
    let admits = λ (p : Pair). is_admitted query point (name_at dir p.key) in
    ap (λ (ps : List Pair). cut_at query.max_keys (dedup (is_same_group dir) (map (entry_of dir query) ps)))
    (sym (filter-within (is_under dir query) admits m))

-- ---- one answer

-- the client's own pairs after the first `t` updates
abbrev pub own_map : Setting → ℕ → List Pair
own_map s t = made_by (own_upto s t)

-- after the place `p`, at the place `q`, the client has what it has alone after the request
pub record Follows (s : Setting) (p q : ℕ) (request : Request) (reply : Reply) : Type 0 where
  pub same_reply : reply ≡ reply_on s.dir (own_map s p) request
  pub pairs : own_map s q ≡ map_behind s.dir (own_map s p) request
  pub count : length (own_upto s q) ≡ length (own_upto s p) + updates_on s.dir (own_map s p) request
  pub named : IsNamed s.dir request

module _ (s : Setting) (prefix : List ℕ) (rising : Rises s.dir) (split : (t : ℕ) → own_pairs s.dir prefix (after s.updates t) ≡ own_map s t) where
  has_own : (key t : ℕ) → is_own s.dir prefix key ≡ true → map_has key (after s.updates t) ≡ map_has key (own_map s t)
  has_own key t mine = map_has-part (is_own s.dir prefix) key (after s.updates t) mine ∙ ap (map_has key) (split t)

  grown : (p q : ℕ) (a : Answered) (adds : Adds s p q a) → own_map s q ≡ updated (own_map s p) adds.update
  grown p q a adds = ap made_by adds.more ∙ fold_push updated [] (own_upto s p) adds.update

  added_here : (p q : ℕ) (a : Answered) (adds : Adds s p q a) → update_at s q ≡ Some adds.update
  added_here p q a adds = ap (update_at s) adds.next ∙ update_at-next s adds.before ∙ adds.here

  -- whether the key was there just before the update
  had_own : (p q key : ℕ) (a : Answered) (adds : Adds s p q a) → is_own s.dir prefix key ≡ true → map_has key (after s.updates (q - 1)) ≡ map_has key (own_map s p)
  had_own p q key a adds mine =
      let next = adds.next in
      let before : q - 1 ≡ adds.before = omega arith in
      ap (λ (t : ℕ). map_has key (after s.updates t)) before ∙ has_own key adds.before mine
      ∙ ap (λ (us : List Update). map_has key (made_by us)) adds.as_before

  -- an update of the client at a place above the front is one that was added
  not_stays : (p q line key : ℕ) (u : Update) → Stays s p q → update_at s q ≡ Some u → IsOf s line u → ((v : Update) → update_at s q ≡ Some v → IsOf s line v → p < q) → ⊥
  not_stays p q line key u stays here of strict =
      let low = stays.none u here of.by in
      let high = strict u here of in
      absurd (omega arith)

  pub follows_put : (p q line val : ℕ) (name : List ℕ) (was : Bool) (a : Answered) → IsTrue (begins_with name prefix) → UpdateStands s line name (PutVal val) was q
      → ((v : Update) → update_at s q ≡ Some v → IsOf s line v → p < q) → Stays s p q ⊎ Adds s p q a → Follows s p q (Put name val) (PutReply was)
  follows_put p q line val name was a begins stands strict (inl stays) =
      absurd (not_stays p q line stands.key (record { client = s.client; line = line; key = stands.key; change = PutVal val }) stays stands.update (record { by = refl; for_line = refl }) strict)
  follows_put p q line val name was a begins stands strict (inr adds) =
      let u : Update = record { client = s.client; line = line; key = stands.key; change = PutVal val } in
      let is_u : adds.update ≡ u = same_Some adds.update u (sym (added_here p q a adds) ∙ stands.update) in
      let rank = rank_of-is s.dir name stands.key rising stands.rank in
      let mine = own_rank s.dir prefix name stands.key begins stands.rank in
      record {
        same_reply = ap PutReply (stands.before ∙ had_own p q stands.key a adds mine ∙ ap (λ (key : ℕ). map_has key (own_map s p)) (sym rank));
        pairs = grown p q a adds ∙ ap (updated (own_map s p)) is_u ∙ ap (λ (key : ℕ). map_put key val (own_map s p)) (sym rank);
        count = ap (length {A = Update}) adds.more ∙ length_push (own_upto s p) adds.update;
        named = subst (IsRank s.dir name) (sym rank) stands.rank;
      }

  same_was : (b c : Bool) → PutReply b ≡ PutReply c → b ≡ c
  same_was b c is = cc

  -- a put of a key that was not there is a put whose reply says that it was not there
  pub follows_new : (p q line val : ℕ) (name : List ℕ) (a : Answered) → IsTrue (begins_with name prefix) → UpdateStands s line name (PutVal val) false q
      → ((v : Update) → update_at s q ≡ Some v → IsOf s line v → p < q) → Stays s p q ⊎ Adds s p q a → Follows s p q (PutNew name val) (PutReply false)
  follows_new p q line val name a begins stands strict what =
      let put = follows_put p q line val name false a begins stands strict what in
      let absent : false ≡ map_has (rank_of s.dir name) (own_map s p) = same_was false (map_has (rank_of s.dir name) (own_map s p)) put.same_reply in
      record {
        same_reply = ap (λ (b : Bool). cond b Exists (PutReply false)) absent;
        pairs = put.pairs ∙ ap (λ (b : Bool). cond b (own_map s p) (map_put (rank_of s.dir name) val (own_map s p))) absent;
        count = put.count ∙ ap (λ (b : Bool). length (own_upto s p) + cond b 0 1) absent;
        named = put.named;
      }

  pub follows_removal : (p q line : ℕ) (name : List ℕ) (a : Answered) → IsTrue (begins_with name prefix) → UpdateStands s line name Remove true q
      → ((v : Update) → update_at s q ≡ Some v → IsOf s line v → p < q) → Stays s p q ⊎ Adds s p q a → Follows s p q (Delete name) Deleted
  follows_removal p q line name a begins stands strict (inl stays) =
      absurd (not_stays p q line stands.key (record { client = s.client; line = line; key = stands.key; change = Remove }) stays stands.update (record { by = refl; for_line = refl }) strict)
  follows_removal p q line name a begins stands strict (inr adds) =
      let u : Update = record { client = s.client; line = line; key = stands.key; change = Remove } in
      let is_u : adds.update ≡ u = same_Some adds.update u (sym (added_here p q a adds) ∙ stands.update) in
      let rank = rank_of-is s.dir name stands.key rising stands.rank in
      let mine = own_rank s.dir prefix name stands.key begins stands.rank in
      let had : map_has (rank_of s.dir name) (own_map s p) ≡ true =
      ap (λ (key : ℕ). map_has key (own_map s p)) rank ∙ sym (had_own p q stands.key a adds mine) ∙ sym stands.before in
      record {
        same_reply = refl;
        pairs = grown p q a adds ∙ ap (updated (own_map s p)) is_u ∙ ap (λ (key : ℕ). map_remove key (own_map s p)) (sym rank);
        count = ap (length {A = Update}) adds.more ∙ length_push (own_upto s p) adds.update
            ∙ ap (λ (b : Bool). length (own_upto s p) + cond b 1 0) (sym had);
        named = subst (IsRank s.dir name) (sym rank) stands.rank;
      }

  -- the update that the answer would have added is the request's own
  no_update_of : (p q line : ℕ) (a : Answered) (adds : Adds s p q a) → a.asked.line ≡ line → All (λ (u : Update). ¬ (IsOf s line u)) s.updates → ⊥
  no_update_of p q line a adds same none =
      not_there s.updates adds.before adds.update adds.here none (record { by = adds.own; for_line = sym adds.made.line ∙ same })
    where
      not_there : (us : List Update) (i : ℕ) (u : Update) → slice_get us i ≡ Some u → All (λ (v : Update). ¬ (IsOf s line v)) us → IsOf s line u → ⊥
      not_there [] i u here all of = cc
      not_there (v ∷ us) zero u here all of = all zero v (omega arith) (subst (IsOf s line) (sym (same_Some v u here)) of)
      not_there (v ∷ us) (suc i) u here all of = not_there us i u here (λ k d below. all (suc k) d (omega arith)) of

  pub follows_none : (p q line : ℕ) (name : List ℕ) (a : Answered) → a.asked.line ≡ line → IsTrue (begins_with name prefix) → Finds s name q None × All (λ (u : Update). ¬ (IsOf s line u)) s.updates
      → Stays s p q ⊎ Adds s p q a → Follows s p q (Delete name) Deleted
  follows_none p q line name a same begins found (inr adds) = absurd (no_update_of p q line a adds same found.1)
  follows_none p q line name a same begins found (inl stays) =
      let missing = found.0 in
      let rank = rank_of-is s.dir name missing.key rising missing.rank in
      let mine = own_rank s.dir prefix name missing.key begins missing.rank in
      let absent : map_has (rank_of s.dir name) (own_map s p) ≡ false =
      ap (λ (key : ℕ). map_has key (own_map s p)) rank
      ∙ ap (λ (us : List Update). map_has missing.key (made_by us)) (sym stays.same)
      ∙ sym (has_own missing.key q mine) ∙ map_has-none missing.key (after s.updates q) missing.value in
      let size = ap (length {A = Update}) stays.same in
      record {
        same_reply = refl;
        pairs = ap made_by stays.same ∙ sym (map_remove-absent (rank_of s.dir name) (own_map s p) absent);
        count = size ∙ (omega arith) ∙ ap (λ (b : Bool). length (own_upto s p) + cond b 1 0) (sym absent);
        named = subst (IsRank s.dir name) (sym rank) missing.rank;
      }

  pub follows_kept : (p q line val : ℕ) (name : List ℕ) (a : Answered) → a.asked.line ≡ line → IsTrue (begins_with name prefix)
      → ((there : ℕ) × Finds s name q (Some there)) × All (λ (u : Update). ¬ (IsOf s line u)) s.updates
      → Stays s p q ⊎ Adds s p q a → Follows s p q (PutNew name val) Exists
  follows_kept p q line val name a same begins found (inr adds) = absurd (no_update_of p q line a adds same found.1)
  follows_kept p q line val name a same begins found (inl stays) =
      let there = found.0.1 in
      let rank = rank_of-is s.dir name there.key rising there.rank in
      let mine = own_rank s.dir prefix name there.key begins there.rank in
      let present : true ≡ map_has (rank_of s.dir name) (own_map s p) =
      sym (map_has-some there.key (after s.updates q) found.0.0 there.value) ∙ has_own there.key q mine
      ∙ ap (λ (us : List Update). map_has there.key (made_by us)) stays.same
      ∙ sym (ap (λ (key : ℕ). map_has key (own_map s p)) rank) in
      let size = ap (length {A = Update}) stays.same in
      record {
        same_reply = ap (λ (b : Bool). cond b Exists (PutReply false)) present;
        pairs = ap made_by stays.same ∙ ap (λ (b : Bool). cond b (own_map s p) (map_put (rank_of s.dir name) val (own_map s p))) present;
        count = size ∙ (omega arith) ∙ ap (λ (b : Bool). length (own_upto s p) + cond b 0 1) present;
        named = subst (IsRank s.dir name) (sym rank) there.rank;
      }

  -- a look adds no update
  no_change : (request : Request) (p q : ℕ) (a : Answered) → a.asked.request ≡ request → ((u : Update) → IsChangeOf s.dir u request → ⊥) → Adds s p q a → ⊥
  no_change request p q a same never adds = never adds.update (subst (IsChangeOf s.dir adds.update) same adds.made.change)

  stays_count : (p q : ℕ) → Stays s p q → length (own_upto s q) ≡ length (own_upto s p) + 0
  stays_count p q stays = let size = ap (length {A = Update}) stays.same in omega arith

  pub follows_head : (p q : ℕ) (name : List ℕ) (value : Option ℕ) (a : Answered) → a.asked.request ≡ Head name → IsTrue (begins_with name prefix) → Finds s name q value
      → Stays s p q ⊎ Adds s p q a → Follows s p q (Head name) (head_by value)
  follows_head p q name value a same begins answers (inr adds) = absurd (no_change (Head name) p q a same (λ u h. h) adds)
  follows_head p q name value a same begins answers (inl stays) =
      let rank = rank_of-is s.dir name answers.key rising answers.rank in
      let mine = own_rank s.dir prefix name answers.key begins answers.rank in
      record {
        same_reply = ap head_by (sym answers.value)
            ∙ ap head_by (map_get-part (is_own s.dir prefix) answers.key (after s.updates q) mine ∙ ap (map_get answers.key) (split q ∙ ap made_by stays.same))
            ∙ ap (λ (key : ℕ). head_answer key (own_map s p)) (sym rank);
        pairs = ap made_by stays.same;
        count = stays_count p q stays;
        named = subst (IsRank s.dir name) (sym rank) answers.rank;
      }

  pub follows_list : (p q : ℕ) (asked query : ListQuery) (page : Page) (a : Answered) → a.asked.request ≡ ListRequest asked → (asked.prefix ≡ prefix) × (asked.token ≡ [])
      → (point : Option TokenPoint) × (IsPointOf asked point × Lists s q asked point query page) → Stays s p q ⊎ Adds s p q a → Follows s p q (ListRequest asked) (Listed query page)
  follows_list p q asked query page a same own answers (inr adds) = absurd (no_change (ListRequest asked) p q a same (λ u h. h) adds)
  follows_list p q asked query page a same own answers (inl stays) =
      let from_start : page ≡ page_of s.dir asked None (after s.updates q) = by_point answers.0 answers.1.0 answers.1.1.1 in
      let own_page = page-own s.dir asked None (after s.updates q)
      ∙ ap (λ (text : List ℕ). page_of s.dir asked None (own_pairs s.dir text (after s.updates q))) own.0
      ∙ ap (page_of s.dir asked None) (split q ∙ ap made_by stays.same) in
      record {
        same_reply = ap (λ (asked' : ListQuery). Listed asked' page) answers.1.1.0 ∙ ap (Listed asked) (from_start ∙ own_page);
        pairs = ap made_by stays.same;
        count = stays_count p q stays;
        named = tt;
      }
    where
      by_point : (point : Option TokenPoint) → IsPointOf asked point → page ≡ page_of s.dir asked point (after s.updates q) → page ≡ page_of s.dir asked None (after s.updates q)
      by_point None from same = same
      by_point (Some point) from same = absurd (no_token (record { point = point; bound = from.0 }) asked.token own.1 from.1.1)

  pub follows_v1 : (p q : ℕ) (asked query : V1Query) (page : Page) (a : Answered) → a.asked.request ≡ ListV1 asked → asked.prefix ≡ prefix
      → ListsV1 s q asked query page → Stays s p q ⊎ Adds s p q a → Follows s p q (ListV1 asked) (ListedV1 query page)
  follows_v1 p q asked query page a same own answers (inr adds) = absurd (no_change (ListV1 asked) p q a same (λ u h. h) adds)
  follows_v1 p q asked query page a same own answers (inl stays) =
      let point = marker_point asked in
      let own_page = page-own s.dir (plain asked) point (after s.updates q)
      ∙ ap (λ (text : List ℕ). page_of s.dir (plain asked) point (own_pairs s.dir text (after s.updates q))) own
      ∙ ap (page_of s.dir (plain asked) point) (split q ∙ ap made_by stays.same) in
      record {
        same_reply = ap (λ (asked' : V1Query). ListedV1 asked' page) answers.0 ∙ ap (ListedV1 asked) (answers.1 ∙ own_page);
        pairs = ap made_by stays.same;
        count = stays_count p q stays;
        named = tt;
      }
