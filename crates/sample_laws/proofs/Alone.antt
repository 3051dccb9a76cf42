-- A client on names of its own has in a legal run what it has alone.
use Rattle.std.proofs.Common.{◌≡◌, ℕ, zero, suc, ◌+◌, ◌<◌, ◌≤◌, ◌⊎◌, Bool, true, false, cond, ◌&&◌, nat_lt, List, [], ◌∷◌, ◌++◌, length, map, eqb, refl, sym, ap, ◌∙◌, subst, arith, inl, inr, Option, Some, None, All}
use Rattle.std.specs.Option.{MatchOption}
use Rattle.std.specs.List.{count_by}
use Rattle.std.proofs.lemmas.List.Elements.{All-nil, All-head, All-tail, All-cons}
use Rattle.std.proofs.lemmas.List.Sums.{length-filter, sum_by-le-sum_by}
use Rattle.key_names.specs.Names.{Rises}
use Rattle.key_map.specs.declared.pair.Pair.{Pair}
use Rattle.key_map.specs.declared.update.Update.{Update}
use Rattle.key_map.specs.History.{after}
use Rattle.bucket_terms.specs.declared.request.Request.{Request}
use Rattle.bucket_terms.specs.declared.request.Request.TheVariants.{Put, PutNew, Delete, Head, List as ListRequest, ListV1, Next}
use Rattle.bucket_terms.specs.declared.reply.Reply.{Reply}
use Rattle.bucket_terms.specs.declared.reply.Reply.TheVariants.{Put as PutReply, Exists, Deleted, Found, Missing, Listed, ListedV1, BadToken, NoSlot}
use Rattle.bucket_terms.specs.declared.reply.Placed.{Placed}
use Rattle.bucket_terms.specs.LegalRun.{RequestLine, Setting, Answered, IsOf, update_at, HasUsedItsSlots, IsRight, AreAnswered, answered_lines, last_listing}
use Rattle.bucket_terms.specs.RunParts.{IsPlacedBelow, is_earlier_of}
use Rattle.sample_laws.specs.Alone.{map_behind, map_alone, updates_on, updates_alone, reply_on, replies_alone}
use Rattle.sample_laws.specs.Own.{own_pairs, updates_of, IsOwnRequest, AreOwnRequests, IsNamed}
use Rattle.sample_laws.specs.Finds.{FindsAlone}
use Rattle.sample_laws.proofs.Parts.{made_by}
use Rattle.sample_laws.proofs.Places.{own_upto, AreMadeBy, IsFront, front_placed, order_at, own_above, own_behind, none_left}
use Rattle.sample_laws.proofs.Steps.{Stays, Adds, step, made_next}
use Rattle.sample_laws.proofs.Follows.{own_map, Follows, follows_put, follows_new, follows_kept, follows_removal, follows_none, follows_head, follows_list, follows_v1}

-- what a client has from a map on, in the updates and the replies of the run
pub record GoesOnAlone (s : Setting) (prefix : List ℕ) (p : ℕ) (m : List Pair) (lines : List RequestLine) (replies : List Placed) : Type 0 where
  pub finds : FindsAlone s.dir prefix s.updates m lines replies
  pub same_replies : map (λ (r : Placed). r.reply) replies ≡ replies_alone s.dir m lines
  pub last : made_by (updates_of s.client s.updates) ≡ map_alone s.dir m lines
  pub count : length (updates_of s.client s.updates) ≡ length (own_upto s p) + updates_alone s.dir m lines
  pub named : All (λ (l : RequestLine). IsNamed s.dir l.request) lines

-- the client's lines before some line have made no more updates than all its lines
pub used-le : (s : Setting) (line : ℕ) → count_by (is_earlier_of s line) s.updates ≤ length (updates_of s.client s.updates)
used-le s line =
    let size = length-filter (λ (u : Update). eqb u.client s.client) s.updates in
    let le = sum_by-le-sum_by (λ (u : Update). cond (is_earlier_of s line u) 1 0) (λ (u : Update). cond (eqb u.client s.client) 1 0) s.updates
    (λ u. fewer (eqb u.client s.client) (nat_lt u.line line)) in
    omega arith
  where
    fewer : (b c : Bool) → cond (b && c) 1 0 ≤ cond b 1 0
    fewer true true = omega arith
    fewer true false = omega arith
    fewer false c = omega arith

module _ (s : Setting) (prefix : List ℕ) (rising : Rises s.dir) (split : (t : ℕ) → own_pairs s.dir prefix (after s.updates t) ≡ own_map s t)
    (few : length (updates_of s.client s.updates) < s.slots) where
  no_want : (line : ℕ) → HasUsedItsSlots s line → ⊥
  no_want line used = absurd (omega (arith, used, used-le s line))

  -- a right answer has a place, and follows from what was there before
  right_follows : (last : Option Reply) (line : ℕ) (request : Request) (o : Option ℕ) (reply : Reply) (a : Answered) (p : ℕ)
      → IsRight s last (record { line = line; request = request }) o reply → IsOwnRequest prefix request
      → a.asked ≡ record { line = line; request = request }
      → ((q : ℕ) → o ≡ Some q → (((u : Update) → update_at s q ≡ Some u → IsOf s line u → p < q) × (Stays s p q ⊎ Adds s p q a)))
      → (q : ℕ) × ((o ≡ Some q) × Follows s p q request reply)
  right_follows last line (Put name val) (Some q) (PutReply was) a p right own same at =
      (q, (refl, follows_put s prefix rising split p q line val name was a own right (at q refl).0 (at q refl).1))
  right_follows last line (Put name val) None NoSlot a p right own same at = absurd (no_want line right)
  right_follows last line (PutNew name val) (Some q) (PutReply false) a p right own same at =
      (q, (refl, follows_new s prefix rising split p q line val name a own right (at q refl).0 (at q refl).1))
  right_follows last line (PutNew name val) (Some q) Exists a p right own same at =
      (q, (refl, follows_kept s prefix rising split p q line val name a (ap (λ (l : RequestLine). l.line) same) own right (at q refl).1))
  right_follows last line (PutNew name val) None NoSlot a p right own same at = absurd (no_want line right)
  right_follows last line (Delete name) (Some q) Deleted a p (inl stands) own same at =
      (q, (refl, follows_removal s prefix rising split p q line name a own stands (at q refl).0 (at q refl).1))
  right_follows last line (Delete name) (Some q) Deleted a p (inr none) own same at =
      (q, (refl, follows_none s prefix rising split p q line name a (ap (λ (l : RequestLine). l.line) same) own none (at q refl).1))
  right_follows last line (Delete name) None NoSlot a p right own same at = absurd (no_want line right)
  right_follows last line (Head name) (Some q) (Found val) a p right own same at =
      (q, (refl, follows_head s prefix rising split p q name (Some val) a (ap (λ (l : RequestLine). l.request) same) own right (at q refl).1))
  right_follows last line (Head name) (Some q) Missing a p right own same at =
      (q, (refl, follows_head s prefix rising split p q name None a (ap (λ (l : RequestLine). l.request) same) own right (at q refl).1))
  right_follows last line (ListRequest asked) (Some q) (Listed query page) a p right own same at =
      (q, (refl, follows_list s prefix rising split p q asked query page a (ap (λ (l : RequestLine). l.request) same) own right (at q refl).1))
  right_follows last line (ListRequest asked) None BadToken a p right own same at = absurd (right None own.1)
  right_follows last line (ListV1 asked) (Some q) (ListedV1 query page) a p right own same at =
      (q, (refl, follows_v1 s prefix rising split p q asked query page a (ap (λ (l : RequestLine). l.request) same) own right (at q refl).1))
  right_follows last line Next o reply a p right own same at = absurd own
  right_follows last line (Head name) None NoSlot a p right own same at = absurd right
  right_follows last line (ListV1 query) None NoSlot a p right own same at = absurd right
  right_follows last line request o reply a p right own same at = absurd right

  -- the answers that are left, from the front `p` on
  pub goes_on : (earlier : List Answered) (lines : List RequestLine) (replies : List Placed) (p : ℕ) (m : List Pair) → m ≡ own_map s p
      → AreAnswered s earlier lines replies → AreOwnRequests prefix lines → IsFront earlier p → AreMadeBy s (earlier ++ answered_lines lines replies)
      → GoesOnAlone s prefix p m lines replies
  goes_on earlier [] [] p m at_p h own front made =
      let same = none_left s earlier p front made in
      let size = ap (length {A = Update}) same in
      record { finds = tt; same_replies = refl; last = ap made_by same ∙ sym at_p; count = omega arith; named = All-nil (λ (l : RequestLine). IsNamed s.dir l.request) }
  goes_on earlier [] (r ∷ replies) p m at_p h own front made = absurd h
  goes_on earlier (l ∷ lines) [] p m at_p h own front made = absurd h
  goes_on earlier (l ∷ lines) (r ∷ replies) p m at_p h own front made =
      let a : Answered = record { asked = l; placed = r } in
      let later = answered_lines lines replies in
      let request_own = All-head (λ (k : RequestLine). IsOwnRequest prefix k.request) l lines own in
      let here = right_follows (last_listing earlier) l.line l.request r.at r.reply a p h.0.right request_own refl
      (λ q at.
      let order = order_at s earlier l.line r.at q at h.0.order in (
        (λ u there of. above_by q u p front there (own_above s earlier l.line q u order there of)),
        step s earlier a lines replies h.1 made p front q at (front.least q order.not_below),
      )) in
      let q = here.0 in
      let order = order_at s earlier l.line r.at q here.1.0 h.0.order in
      let follows = here.1.1 in
      let behind : map_behind s.dir m l.request ≡ own_map s q = ap (λ (n : List Pair). map_behind s.dir n l.request) at_p ∙ sym follows.pairs in
      let rest = goes_on (earlier ++ a ∷ []) lines replies q (map_behind s.dir m l.request) behind h.1
      (All-tail (λ (k : RequestLine). IsOwnRequest prefix k.request) l lines own) (front_placed s earlier a q here.1.0 order)
      (made_next s earlier a later made) in
      let count_here = follows.count ∙ ap (λ (n : List Pair). length (own_upto s p) + updates_on s.dir n l.request) (sym at_p) in
      let count_rest = rest.count in
      record {
        finds = (
          subst (λ (o : Option ℕ). MatchOption o ⊥ (λ at. own_pairs s.dir prefix (after s.updates at) ≡ map_behind s.dir m l.request))
              (sym here.1.0) (split q ∙ sym behind),
          rest.finds,
        );
        same_replies = ap (λ (first : Reply). first ∷ map (λ (k : Placed). k.reply) replies)
            (follows.same_reply ∙ ap (λ (n : List Pair). reply_on s.dir n l.request) (sym at_p))
            ∙ ap (λ (others : List Reply). reply_on s.dir m l.request ∷ others) rest.same_replies;
        last = rest.last;
        count = omega arith;
        named = All-cons (λ (k : RequestLine). IsNamed s.dir k.request) l lines follows.named rest.named;
      }
    where
      above_by : (q : ℕ) (u : Update) (p : ℕ) → IsFront earlier p → update_at s q ≡ Some u → All (IsPlacedBelow q) earlier → p < q
      above_by zero u p front there all = cc
      above_by (suc i) u p front there all =
          let e : suc i ≡ i + 1 = omega arith in
          let behind = own_behind earlier p i front (subst (λ (n : ℕ). All (IsPlacedBelow n) earlier) e all) in
          omega arith
