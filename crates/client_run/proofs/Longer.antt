-- What is right over a history is right over a longer one.
use Rattle.std.proofs.Common.{◌≡◌, ℕ, zero, suc, ◌-◌, ◌≤◌, Bool, true, false, cond, All, MatchOption, List, [], ◌∷◌, ◌++◌, Option, Some, None, inl, inr, length, refl, sym, ap, ◌∙◌, arith}
use Rattle.std.proofs.lemmas.List.{length-append}
use Rattle.std.proofs.lemmas.Option.{IfSome_then}
use Rattle.std.proofs.lemmas.List.Elements.{All-append}
use Rattle.std.proofs.lemmas.List.Sums.{sum_by-append}
use Rattle.key_map.specs.declared.update.Update.{Update}
use Rattle.key_map.specs.declared.pair.Pair.{Pair}
use Rattle.std.specs.Bool.{⊤}
use Rattle.key_map.specs.Map.{map_has, map_get}
use Rattle.key_map.specs.declared.update.Change.{Change}
use Rattle.key_map.specs.declared.update.Change.TheVariants.{Put as PutVal, Remove}
use Rattle.bucket_terms.specs.declared.token_point.TokenPoint.{TokenPoint}
use Rattle.bucket_terms.specs.Listing.{page_of, v1_page}
use Rattle.key_map.specs.History.{after}
use Rattle.key_map.proofs.HistoryLaws.{after-append}
use Rattle.bucket_terms.specs.declared.list_query.ListQuery.{ListQuery}
use Rattle.bucket_terms.specs.declared.v1_query.V1Query.{V1Query}
use Rattle.bucket_terms.specs.declared.page.Page.{Page}
use Rattle.bucket_terms.specs.declared.request.Request.{Request}
use Rattle.bucket_terms.specs.declared.request.Request.TheVariants.{Put, PutNew, Delete, Head, List as ListRequest, ListV1, Next}
use Rattle.bucket_terms.specs.declared.reply.Reply.{Reply}
use Rattle.bucket_terms.specs.declared.reply.Reply.TheVariants.{Put as PutReply, Exists, Deleted, Found, Missing, Listed, ListedV1, BadToken, NoSlot}
use Rattle.bucket_terms.specs.declared.reply.Placed.{Placed}
use Rattle.bucket_terms.specs.LegalRun.{Setting, RequestLine, Answered, IsOf, IsRight, IsAnswered, AreAnswered, KeepsOrder, UpdateStands, Finds, Lists, HasUsedItsSlots, update_at, last_listing}
use Rattle.bucket_terms.specs.RunParts.{is_earlier_of, ListsV1}
use Rattle.client_run.proofs.Places.{slice_get-append_front}

-- the same client in a history
abbrev pub over : Setting → List Update → Setting
over s us = record s { updates = us }

-- no added update is of this client's line
abbrev pub OtherLines : Setting → ℕ → List Update → Type 0
OtherLines s line more = All (λ (u : Update). ¬ (IsOf s line u)) more

pub update_at-longer : (s : Setting) (more : List Update) (at : ℕ) → at ≤ length s.updates → update_at (over s (s.updates ++ more)) at ≡ update_at s at
update_at-longer s more zero le = refl
update_at-longer s more (suc k) le = slice_get-append_front s.updates more k (omega arith)

after-longer : (s : Setting) (more : List Update) (at : ℕ) → at ≤ length s.updates → after s.updates at ≡ after (s.updates ++ more) at
after-longer s more at le = sym (after-append s.updates more at le)

before-longer : (s : Setting) (more : List Update) (at : ℕ) → at ≤ length s.updates → after s.updates (at - 1) ≡ after (s.updates ++ more) (at - 1)
before-longer s more at le = sym (after-append s.updates more (at - 1) (omega arith))

module _ (s : Setting) (more : List Update) where
  stands-longer : (line : ℕ) (name : List ℕ) (change : Change) (was : Bool) (n : ℕ) → n ≤ length s.updates → UpdateStands s line name change was n → UpdateStands (over s (s.updates ++ more)) line name change was n
  stands-longer line name change was n le made = record {
    key = made.key;
    rank = made.rank;
    update = update_at-longer s more n le ∙ made.update;
    before = made.before ∙ ap (λ (m : List Pair). map_has made.key m) (before-longer s more n le);
  }

  finds-longer : (name : List ℕ) (n : ℕ) (value : Option ℕ) → n ≤ length s.updates → Finds s name n value → Finds (over s (s.updates ++ more)) name n value
  finds-longer name n value le found = record {
    key = found.key;
    rank = found.rank;
    value = sym (ap (λ (m : List Pair). map_get found.key m) (after-longer s more n le)) ∙ found.value;
  }

  none-longer : (line : ℕ) → OtherLines s line more → All (λ (u : Update). ¬ (IsOf s line u)) s.updates → All (λ (u : Update). ¬ (IsOf (over s (s.updates ++ more)) line u)) (s.updates ++ more)
  none-longer line others none = λ k d below is.
      All-append (λ (u : Update). ¬ (IsOf s line u)) s.updates more none others k d below (record { by = is.by; for_line = is.for_line })

  lists-longer : (n : ℕ) (asked : ListQuery) (point : Option TokenPoint) (shown : ListQuery) (page : Page) → n ≤ length s.updates → Lists s n asked point shown page → Lists (over s (s.updates ++ more)) n asked point shown page
  lists-longer n asked point shown page le lists = (lists.0, lists.1 ∙ ap (λ (m : List Pair). page_of s.dir asked point m) (after-longer s more n le))

  v1-longer : (n : ℕ) (asked shown : V1Query) (page : Page) → n ≤ length s.updates → ListsV1 s n asked shown page → ListsV1 (over s (s.updates ++ more)) n asked shown page
  v1-longer n asked shown page le lists = (lists.0, lists.1 ∙ ap (λ (m : List Pair). v1_page s.dir asked m) (after-longer s more n le))

  slots-longer : (line : ℕ) → HasUsedItsSlots s line → HasUsedItsSlots (over s (s.updates ++ more)) line
  slots-longer line used = omega (arith, used, sum_by-append (λ (u : Update). cond (is_earlier_of s line u) 1 0) s.updates more)

  pub IsRight-longer : (last : Option Reply) (line : ℕ) (request : Request) (at : Option ℕ) (reply : Reply)
      → MatchOption at ⊤ (λ n. n ≤ length s.updates) → OtherLines s line more
      → IsRight s last (record { line = line; request = request }) at reply
      → IsRight (over s (s.updates ++ more)) last (record { line = line; request = request }) at reply
  IsRight-longer last line (Put name val) (Some n) (PutReply was) within others right = stands-longer line name (PutVal val) was n within right
  IsRight-longer last line (Put name val) None NoSlot within others right = slots-longer line right
  IsRight-longer last line (PutNew name val) (Some n) (PutReply false) within others right = stands-longer line name (PutVal val) false n within right
  IsRight-longer last line (PutNew name val) (Some n) Exists within others right =
      ((right.0.0, finds-longer name n (Some right.0.0) within right.0.1), none-longer line others right.1)
  IsRight-longer last line (PutNew name val) None NoSlot within others right = slots-longer line right
  IsRight-longer last line (Delete name) (Some n) Deleted within others (inl made) = inl (stands-longer line name Remove true n within made)
  IsRight-longer last line (Delete name) (Some n) Deleted within others (inr found) = inr (finds-longer name n None within found.0, none-longer line others found.1)
  IsRight-longer last line (Delete name) None NoSlot within others right = slots-longer line right
  IsRight-longer last line (Head name) (Some n) (Found val) within others right = finds-longer name n (Some val) within right
  IsRight-longer last line (Head name) (Some n) Missing within others right = finds-longer name n None within right
  IsRight-longer last line (ListRequest query) (Some n) (Listed query' page) within others right = (right.0, (right.1.0, lists-longer n query right.0 query' page within right.1.1))
  IsRight-longer last line (ListRequest query) None BadToken within others right = right
  IsRight-longer last line (ListV1 query) (Some n) (ListedV1 shown page) within others right = v1-longer n query shown page within right
  IsRight-longer last line Next (Some n) (Listed query page) within others right = (right.0, (right.1.0, lists-longer n right.0.query (Some right.0.point) query page within right.1.1))
  IsRight-longer last line Next None BadToken within others right = right
  IsRight-longer last line (Head name) None NoSlot within others right = absurd right
  IsRight-longer last line (ListV1 query) None NoSlot within others right = absurd right
  IsRight-longer last line request at reply within others right = absurd right

  order-longer : (earlier : List Answered) (line n : ℕ) → KeepsOrder s earlier line n → KeepsOrder (over s (s.updates ++ more)) earlier line n
  order-longer earlier line n order = record {
    within = omega (arith, order.within, length-append s.updates more);
    not_below = order.not_below;
    above = rw (update_at-longer s more n order.within) (IfSome_then (update_at s n) order.above (λ u h is. h (record { by = is.by; for_line = is.for_line })));
  }

  within_of : (at : Option ℕ) (earlier : List Answered) (line : ℕ) → MatchOption at ⊤ (KeepsOrder s earlier line) → MatchOption at ⊤ (λ n. n ≤ length s.updates)
  within_of None earlier line order = tt
  within_of (Some n) earlier line order = order.within

  orders-longer : (at : Option ℕ) (earlier : List Answered) (line : ℕ) → MatchOption at ⊤ (KeepsOrder s earlier line) → MatchOption at ⊤ (KeepsOrder (over s (s.updates ++ more)) earlier line)
  orders-longer None earlier line order = tt
  orders-longer (Some n) earlier line order = order-longer earlier line n order

  pub IsAnswered-longer : (earlier : List Answered) (asked : RequestLine) (p : Placed) → OtherLines s asked.line more
      → IsAnswered s earlier asked p → IsAnswered (over s (s.updates ++ more)) earlier asked p
  IsAnswered-longer earlier asked p others answer = record {
    client = answer.client;
    line = answer.line;
    order = orders-longer p.at earlier asked.line answer.order;
    right = IsRight-longer (last_listing earlier) asked.line asked.request p.at p.reply (within_of p.at earlier asked.line answer.order) others answer.right;
  }

  pub AreAnswered-longer : (earlier : List Answered) (lines : List RequestLine) (replies : List Placed)
      → All (λ (l : RequestLine). OtherLines s l.line more) lines
      → AreAnswered s earlier lines replies → AreAnswered (over s (s.updates ++ more)) earlier lines replies
  AreAnswered-longer earlier [] [] others answers = tt
  AreAnswered-longer earlier [] (p ∷ replies) others answers = absurd answers
  AreAnswered-longer earlier (l ∷ lines) [] others answers = absurd answers
  AreAnswered-longer earlier (l ∷ lines) (p ∷ replies) others answers = (
    IsAnswered-longer earlier l p (others 0 l (omega arith)) answers.0,
    AreAnswered-longer (earlier ++ record { asked = l; placed = p } ∷ []) lines replies (λ k d below. others (suc k) d (omega arith)) answers.1,
  )
