-- What is answered at a place, or without one, is the one reply that can be right.
use Rattle.std.proofs.Common.{◌≡◌, ℕ, zero, suc, ◌-◌, ◌≤◌, Bool, true, false, nat_le, nat_lt, ◌==◌, ◌&&◌, List, if◌then◌else◌, Option, Some, None, MatchOption, inl, inr, refl, sym, ap, ◌∙◌, subst, arith}
use Rattle.std.specs.List.{count_by}
use Rattle.std.proofs.lemmas.Bool.{false≢true}
use Rattle.std.proofs.lemmas.Bool.Decides.{nat_tests}
use Rattle.std.proofs.lemmas.Option.{same_Some, none-some, slice_get_within, get_or_from_slice_get}
use Rattle.key_names.specs.Names.{Rises, IsRank}
use Rattle.key_map.specs.declared.update.Update.{Update}
use Rattle.key_map.specs.declared.update.Change.{Change}
use Rattle.key_map.specs.declared.update.Change.TheVariants.{Put as PutVal, Remove}
use Rattle.key_map.specs.KeyMap.{map_has, map_get, after}
use Rattle.bucket_terms.proofs.Finds.{map_get-absent, map_has-none, map_get-present, map_has-some}
use Rattle.bucket_terms.specs.declared.list_query.ListQuery.{ListQuery}
use Rattle.bucket_terms.specs.declared.v1_query.V1Query.{V1Query}
use Rattle.bucket_terms.specs.declared.token_point.TokenPoint.{TokenPoint}
use Rattle.bucket_terms.specs.declared.request.Request.{Request}
use Rattle.bucket_terms.specs.declared.request.Request.TheVariants.{Put, PutNew, Delete, Head, List as ListRequest, ListV1, Next}
use Rattle.bucket_terms.specs.declared.reply.Reply.{Reply}
use Rattle.bucket_terms.specs.declared.reply.Reply.TheVariants.{Put as PutReply, Exists, Deleted, Listed, BadToken, NoSlot}
use Rattle.bucket_terms.specs.RunParts.{head_by}
use Rattle.bucket_terms.specs.LegalRun.{Setting, IsRight, IsOf, MakesNone, UpdateStands, IsPointOf, Resumed, is_update, next_of, update_at}
use Rattle.sample_laws.proofs.Ranks.{rank_of-is}
use Rattle.replay_check.specs.Answering.{IsTheReply, IsOwn, own_reply, kept_by, absent_by, IsLook, next_page, IsRefusal, asked_line}

clash : {P : Type 0} (b : Bool) → b ≡ true → b ≡ false → P
clash b holds fails = absurd (false≢true (sym fails ∙ holds))

-- a name has one rank
same_rank : (dir : List (List ℕ)) (name : List ℕ) (j k : ℕ) → Rises dir → IsRank dir name j → IsRank dir name k → j ≡ k
same_rank dir name j k rising h i = sym (rank_of-is dir name j rising h) ∙ rank_of-is dir name k rising i

module _ (s : Setting) (rising : Rises s.dir) (last : Option Reply) (line : ℕ) where
  -- an update of the line is in the history
  made_and_none : {P : Type 0} (at : ℕ) (u : Update) → update_at s at ≡ Some u → IsOf s line u → MakesNone s line → P
  made_and_none zero u here own none = absurd (none-some u here)
  made_and_none (suc k) u here own none =
      let is = get_or_from_slice_get s.updates k u u here in
      absurd (subst (λ (v : Update). ¬ (IsOf s line v)) is (none k u (slice_get_within s.updates k u here)) own)

  stands_and_none : {P : Type 0} (name : List ℕ) (change : Change) (was : Bool) (at : ℕ) → UpdateStands s line name change was at → MakesNone s line → P
  stands_and_none name change was at stands none =
      made_and_none at (record { client = s.client; line = line; key = stands.key; change = change }) stands.update (record { by = refl; for_line = refl }) none

  -- ---- an own update

  own_update : (u : Update) (change : Change) → IsOf s line u → u.change ≡ change → u ≡ record { client = s.client; line = line; key = u.key; change = change }
  own_update u change own is =
      ap (λ (n : ℕ). record { client = n; line = u.line; key = u.key; change = u.change }) own.by
      ∙ ap (λ (n : ℕ). record { client = s.client; line = n; key = u.key; change = u.change }) own.for_line
      ∙ ap (λ (x : Change). record { client = s.client; line = line; key = u.key; change = x }) is

  own_stands : (request : Request) (name : List ℕ) (change : Change) (at : ℕ) (was : Bool) → (own : IsOwn s line request at was)
      → IsRank s.dir name own.update.key → own.update.change ≡ change → UpdateStands s line name change was at
  own_stands request name change at was own rank is = record {
    key = own.update.key;
    rank = rank;
    update = own.here ∙ ap (λ (u : Update). Some u) (own_update own.update change own.is_of is);
    before = own.before;
  }

  -- the history determines whether its key was there
  same_was : (request : Request) (name : List ℕ) (change : Change) (at : ℕ) (was told : Bool) → IsOwn s line request at was → UpdateStands s line name change told at → was ≡ told
  same_was request name change at was told own stands =
      let same : own.update ≡ record { client = s.client; line = line; key = stands.key; change = change } = same_Some _ _ (sym own.here ∙ stands.update) in
      own.before ∙ ap (λ (u : Update). map_has u.key (after s.updates (at - 1))) same ∙ sym stands.before

  no_own_new : (name : List ℕ) (val at : ℕ) → IsOwn s line (PutNew name val) at true → (reply : Reply) → ¬ (IsRight s last (asked_line line (PutNew name val)) (Some at) reply)
  no_own_new name val at own (PutReply false) right = false≢true (sym (same_was (PutNew name val) name (PutVal val) at true false own right))
  no_own_new name val at own Exists right = made_and_none at own.update own.here own.is_of right.1
  no_own_new name val at own reply right = absurd right

  no_own_delete : (name : List ℕ) (at : ℕ) → IsOwn s line (Delete name) at false → (reply : Reply) → ¬ (IsRight s last (asked_line line (Delete name)) (Some at) reply)
  no_own_delete name at own Deleted (inl right) = false≢true (same_was (Delete name) name Remove at false true own right)
  no_own_delete name at own Deleted (inr right) = made_and_none at own.update own.here own.is_of right.1
  no_own_delete name at own reply right = absurd right

  pub own_is : (request : Request) (at : ℕ) (was : Bool) → IsOwn s line request at was → IsTheReply s last (asked_line line request) (Some at) (own_reply request was)
  own_is (Put name val) at was own = own_stands (Put name val) name (PutVal val) at was own own.change.0 own.change.1
  own_is (PutNew name val) at false own = own_stands (PutNew name val) name (PutVal val) at false own own.change.0 own.change.1
  own_is (PutNew name val) at true own = no_own_new name val at own
  own_is (Delete name) at true own = inl (own_stands (Delete name) name Remove at true own own.change.0 own.change.1)
  own_is (Delete name) at false own = no_own_delete name at own
  own_is (Head name) at was own = absurd own.change
  own_is (ListRequest query) at was own = absurd own.change
  own_is (ListV1 query) at was own = absurd own.change
  own_is Next at was own = absurd own.change

  -- ---- a look

  module _ (at : ℕ) (none : MakesNone s line) where
    no_put : (name : List ℕ) (val : ℕ) (reply : Reply) → ¬ (IsRight s last (asked_line line (Put name val)) (Some at) reply)
    no_put name val (PutReply was) right = stands_and_none name (PutVal val) was at right none
    no_put name val reply right = absurd right

    no_new : (name : List ℕ) (val key : ℕ) → IsRank s.dir name key → map_has key (after s.updates at) ≡ false → (reply : Reply) → ¬ (IsRight s last (asked_line line (PutNew name val)) (Some at) reply)
    no_new name val key rank absent (PutReply false) right = stands_and_none name (PutVal val) false at right none
    no_new name val key rank absent Exists right =
        let there = map_has-some right.0.1.key (after s.updates at) right.0.0 right.0.1.value in
        clash (map_has key (after s.updates at)) (ap (λ (k : ℕ). map_has k (after s.updates at)) (same_rank s.dir name key right.0.1.key rising rank right.0.1.rank) ∙ there) absent
    no_new name val key rank absent reply right = absurd right

    new_is : (name : List ℕ) (val key : ℕ) → IsRank s.dir name key → (b : Bool) → map_has key (after s.updates at) ≡ b → IsTheReply s last (asked_line line (PutNew name val)) (Some at) (kept_by b)
    new_is name val key rank true there =
        let found = map_get-present key (after s.updates at) there in
        ((found.0, record { key = key; rank = rank; value = found.1 }), none)
    new_is name val key rank false absent = no_new name val key rank absent

    no_delete : (name : List ℕ) (key : ℕ) → IsRank s.dir name key → map_has key (after s.updates at) ≡ true → (reply : Reply) → ¬ (IsRight s last (asked_line line (Delete name)) (Some at) reply)
    no_delete name key rank there Deleted (inl right) = stands_and_none name Remove true at right none
    no_delete name key rank there Deleted (inr right) =
        let absent = map_has-none right.0.key (after s.updates at) right.0.value in
        clash (map_has key (after s.updates at)) there (ap (λ (k : ℕ). map_has k (after s.updates at)) (same_rank s.dir name key right.0.key rising rank right.0.rank) ∙ absent)
    no_delete name key rank there reply right = absurd right

    delete_is : (name : List ℕ) (key : ℕ) → IsRank s.dir name key → (b : Bool) → map_has key (after s.updates at) ≡ b → IsTheReply s last (asked_line line (Delete name)) (Some at) (absent_by b)
    delete_is name key rank true there = no_delete name key rank there
    delete_is name key rank false absent = inr (record { key = key; rank = rank; value = map_get-absent key (after s.updates at) absent }, none)

    head_is : (name : List ℕ) (key : ℕ) → IsRank s.dir name key → (found : Option ℕ) → map_get key (after s.updates at) ≡ found → IsRight s last (asked_line line (Head name)) (Some at) (head_by found)
    head_is name key rank (Some val) is = record { key = key; rank = rank; value = is }
    head_is name key rank None is = record { key = key; rank = rank; value = is }

    no_next : next_of s.dir last ≡ None → (reply : Reply) → ¬ (IsRight s last (asked_line line Next) (Some at) reply)
    no_next is (Listed shown page) right = none-some right.0 (sym is ∙ right.1.0)
    no_next is reply right = absurd right

    next_is : (found : Option Reply) (next : Option Resumed) → next_of s.dir last ≡ next → IsLook s.dir (after s.updates at) last Next found → IsTheReply s last (asked_line line Next) (Some at) found
    next_is found None is look =
        let found_is : found ≡ None = subst (λ (o : Option Resumed). MatchOption o (found ≡ None) (λ n. found ≡ Some (next_page s.dir (after s.updates at) n))) is look in
        subst (IsTheReply s last (asked_line line Next) (Some at)) (sym found_is) (no_next is)
    next_is found (Some next) is look =
        let found_is : found ≡ Some (next_page s.dir (after s.updates at) next) = subst (λ (o : Option Resumed). MatchOption o (found ≡ None) (λ n. found ≡ Some (next_page s.dir (after s.updates at) n))) is look in
        subst (IsTheReply s last (asked_line line Next) (Some at)) (sym found_is) (next, (is, (refl, refl)))

    no_list : (query : ListQuery) → ((point : Option TokenPoint) → ¬ (IsPointOf query point)) → (reply : Reply) → ¬ (IsRight s last (asked_line line (ListRequest query)) (Some at) reply)
    no_list query bad (Listed shown page) right = bad right.0 right.1.0
    no_list query bad reply right = absurd right

    pub look_is : (request : Request) (found : Option Reply) → IsLook s.dir (after s.updates at) last request found → IsTheReply s last (asked_line line request) (Some at) found
    look_is (Put name val) found look = subst (IsTheReply s last (asked_line line (Put name val)) (Some at)) (sym look) (no_put name val)
    look_is (PutNew name val) found look =
        subst (IsTheReply s last (asked_line line (PutNew name val)) (Some at)) (sym look.1.1) (new_is name val look.0 look.1.0 (map_has look.0 (after s.updates at)) refl)
    look_is (Delete name) found look =
        subst (IsTheReply s last (asked_line line (Delete name)) (Some at)) (sym look.1.1) (delete_is name look.0 look.1.0 (map_has look.0 (after s.updates at)) refl)
    look_is (Head name) found look =
        subst (IsTheReply s last (asked_line line (Head name)) (Some at)) (sym look.1.1) (head_is name look.0 look.1.0 (map_get look.0 (after s.updates at)) refl)
    look_is (ListRequest query) None look = no_list query look
    look_is (ListRequest query) (Some reply) look =
        subst (IsRight s last (asked_line line (ListRequest query)) (Some at)) (sym look.1.1) (look.0, (look.1.0, (refl, refl)))
    look_is (ListV1 query) found look = subst (IsTheReply s last (asked_line line (ListV1 query)) (Some at)) (sym look) (refl, refl)
    look_is Next found look = next_is found (next_of s.dir last) refl look

  -- ---- a refusal

  abbrev used : ℕ
  used = count_by (λ (u : Update). (u.client == s.client) && nat_lt u.line line) s.updates

  no_slot : (request : Request) → is_update request ≡ true → (¬ (s.slots ≤ used)) → (reply : Reply) → ¬ (IsRight s last (asked_line line request) None reply)
  no_slot (Put name val) is few NoSlot right = few right
  no_slot (PutNew name val) is few NoSlot right = few right
  no_slot (Delete name) is few NoSlot right = few right
  no_slot (Head name) is few reply right = absurd (false≢true is)
  no_slot (ListRequest query) is few reply right = absurd (false≢true is)
  no_slot (ListV1 query) is few reply right = absurd (false≢true is)
  no_slot Next is few reply right = absurd (false≢true is)
  no_slot request is few reply right = absurd right

  slot_is : (request : Request) → is_update request ≡ true → (s.slots ≤ used → IsRight s last (asked_line line request) None NoSlot) → (b : Bool) → nat_le s.slots used ≡ b
      → IsTheReply s last (asked_line line request) None (if b then Some NoSlot else None)
  slot_is request is right true most = right (grind (arith, nat_tests))
  slot_is request is right false few = no_slot request is (λ (most : s.slots ≤ used). grind (arith, nat_tests))

  no_refusal : (reply : Reply) (name : List ℕ) → ¬ (IsRight s last (asked_line line (Head name)) None reply)
  no_refusal NoSlot name right = right
  no_refusal reply name right = absurd right

  no_v1_refusal : (reply : Reply) (query : V1Query) → ¬ (IsRight s last (asked_line line (ListV1 query)) None reply)
  no_v1_refusal NoSlot query right = right
  no_v1_refusal reply query right = absurd right

  no_list_refusal : (query : ListQuery) (point : Option TokenPoint) → IsPointOf query point → (reply : Reply) → ¬ (IsRight s last (asked_line line (ListRequest query)) None reply)
  no_list_refusal query point is BadToken right = right point is
  no_list_refusal query point is NoSlot right = right
  no_list_refusal query point is reply right = absurd right

  no_next_refusal : (next : Resumed) → next_of s.dir last ≡ Some next → (reply : Reply) → ¬ (IsRight s last (asked_line line Next) None reply)
  no_next_refusal next is BadToken right = none-some next (sym right ∙ is)
  no_next_refusal next is NoSlot right = right
  no_next_refusal next is reply right = absurd right

  refused_next_is : (found : Option Reply) (next : Option Resumed) → next_of s.dir last ≡ next → IsRefusal s.dir s.slots used last Next found → IsTheReply s last (asked_line line Next) None found
  refused_next_is found None is refusal =
      let found_is : found ≡ Some BadToken = subst (λ (o : Option Resumed). MatchOption o (found ≡ Some BadToken) (λ n. found ≡ None)) is refusal in
      subst (IsTheReply s last (asked_line line Next) None) (sym found_is) is
  refused_next_is found (Some next) is refusal =
      let found_is : found ≡ None = subst (λ (o : Option Resumed). MatchOption o (found ≡ Some BadToken) (λ n. found ≡ None)) is refusal in
      subst (IsTheReply s last (asked_line line Next) None) (sym found_is) (no_next_refusal next is)

  pub refusal_is : (request : Request) (found : Option Reply) → IsRefusal s.dir s.slots used last request found → IsTheReply s last (asked_line line request) None found
  refusal_is (Put name val) found refusal =
      subst (IsTheReply s last (asked_line line (Put name val)) None) (sym refusal) (slot_is (Put name val) refl (λ h. h) (nat_le s.slots used) refl)
  refusal_is (PutNew name val) found refusal =
      subst (IsTheReply s last (asked_line line (PutNew name val)) None) (sym refusal) (slot_is (PutNew name val) refl (λ h. h) (nat_le s.slots used) refl)
  refusal_is (Delete name) found refusal =
      subst (IsTheReply s last (asked_line line (Delete name)) None) (sym refusal) (slot_is (Delete name) refl (λ h. h) (nat_le s.slots used) refl)
  refusal_is (Head name) found refusal = subst (IsTheReply s last (asked_line line (Head name)) None) (sym refusal) (λ reply. no_refusal reply name)
  refusal_is (ListV1 query) found refusal = subst (IsTheReply s last (asked_line line (ListV1 query)) None) (sym refusal) (λ reply. no_v1_refusal reply query)
  refusal_is (ListRequest query) None refusal = no_list_refusal query refusal.0 refusal.1
  refusal_is (ListRequest query) (Some reply) refusal = subst (IsRight s last (asked_line line (ListRequest query)) None) (sym refusal.0) refusal.1
  refusal_is Next found refusal = refused_next_is found (next_of s.dir last) refl refusal
