-- What a client of the generated session has alone is the same by its names and by the numbers in them.
use Rattle.std.proofs.Common.{◌≡◌, ℕ, zero, suc, ◌+◌, ◌*◌, ◌%◌, ◌<◌, ◌≤◌, Bool, true, false, cond, not, ◌&&◌, ◌||◌, ◌==◌, min, List, [], ◌∷◌, ◌++◌, length, refl, sym, ap, ◌∙◌, subst, arith, inl, inr, All}
use Rattle.std.specs.List.{AllByRecursion, sum_by}
use Rattle.std.proofs.lemmas.Bool.{cases_lt}
use Rattle.std.proofs.lemmas.List.Sums.{sum_by_push}
use Rattle.key_names.specs.Names.{IsRank}
use Rattle.key_map.specs.declared.pair.Pair.{Pair}
use Rattle.key_map.specs.Map.{IsMap, map_has, map_put, map_remove}
use Rattle.key_map.proofs.MapLaws.{RisesFrom-map_put, RisesFrom-map_remove}
use Rattle.bucket_terms.specs.declared.request.Request.TheVariants.{Put, Delete, List as ListRequest}
use Rattle.bucket_terms.specs.declared.reply.Reply.{Reply}
use Rattle.bucket_terms.specs.LegalRun.{RequestLine}
use Rattle.request_lines.specs.Sample.{sample_name}
use Rattle.sample_laws.specs.Alone.{rank_of, map_behind, map_alone, updates_on, updates_alone, reply_on, replies_alone}
use Rattle.sample_laws.specs.Own.{is_own, IsNamed}
use Rattle.sample_laws.specs.Totals.{listed_in}
use Rattle.request_lines.specs.SampleSession.{sample_prefix, sample_query, sample_puts, sample_request}
use Rattle.sample_laws.specs.Sample.{Done, sample_number, done_put, done_delete, done_list, sample_done}
use Rattle.sample_laws.proofs.Places.{front_of, last_of}
use Rattle.sample_laws.proofs.Ranks.{own_rank}
use Rattle.sample_laws.proofs.Summaries.{keys_put, keys_remove}
use Rattle.sample_laws.proofs.MapCounts.{has_put, has_remove, length_put, length_remove}
use Rattle.sample_laws.proofs.SampleNames.{name_begins, same_ranks, sample_line, first_lines}
use Rattle.sample_laws.proofs.SamplePages.{page-length}

-- ---- one more request

map_alone-push : (dir : List (List ℕ)) (m : List Pair) (lines : List RequestLine) (l : RequestLine)
    → map_alone dir m (lines ++ l ∷ []) ≡ map_behind dir (map_alone dir m lines) l.request
map_alone-push dir m [] l = refl
map_alone-push dir m (k ∷ lines) l = map_alone-push dir (map_behind dir m k.request) lines l

updates_alone-push : (dir : List (List ℕ)) (m : List Pair) (lines : List RequestLine) (l : RequestLine)
    → updates_alone dir m (lines ++ l ∷ []) ≡ updates_alone dir m lines + updates_on dir (map_alone dir m lines) l.request
updates_alone-push dir m [] l = omega arith
updates_alone-push dir m (k ∷ lines) l = let rest = updates_alone-push dir (map_behind dir m k.request) lines l in omega arith

replies_alone-push : (dir : List (List ℕ)) (m : List Pair) (lines : List RequestLine) (l : RequestLine)
    → replies_alone dir m (lines ++ l ∷ []) ≡ replies_alone dir m lines ++ reply_on dir (map_alone dir m lines) l.request ∷ []
replies_alone-push dir m [] l = refl
replies_alone-push dir m (k ∷ lines) l =
    ap (λ (rest : List Reply). reply_on dir m k.request ∷ rest) (replies_alone-push dir (map_behind dir m k.request) lines l)

-- ---- names and numbers

abbrev rank : List (List ℕ) → ℕ → ℕ → ℕ
rank dir c i = rank_of dir (sample_name c i)

-- the name of this request is in the directory
abbrev IsKnown : List (List ℕ) → ℕ → ℕ → Type 0
IsKnown dir c i = IsRank dir (sample_name c i) (rank dir c i)

-- the map, the entries listed and the updates by names are those by numbers
pub record Matches (dir : List (List ℕ)) (c : ℕ) (m : List Pair) (listed updates : ℕ) (done : Done) : Type 0 where
  pub keys_rise : IsMap m
  pub numbers_rise : IsMap done.pairs
  pub own : AllByRecursion (λ (p : Pair). is_own dir (sample_prefix c) p.key ≡ true) m
  pub size : length m ≡ length done.pairs
  pub has : (i : ℕ) → IsKnown dir c i → map_has (rank dir c i) m ≡ map_has (sample_number i) done.pairs
  pub same_listed : listed ≡ done.listed
  pub same_updates : updates ≡ done.updates

module _ (dir : List (List ℕ)) (c : ℕ) (below : c < 10) (m : List Pair) (listed updates : ℕ) (done : Done) (so_far : Matches dir c m listed updates done) where
  abbrev one_if : Bool → ℕ
  one_if b = cond b 1 0

  matches_put : (i val : ℕ) → IsKnown dir c i → Matches dir c (map_put (rank dir c i) val m) (listed + 0) (updates + 1) (done_put i done)
  matches_put i val known =
      let same = ap one_if (so_far.has i known) in
      let left = length_put (rank dir c i) val 0 m so_far.keys_rise in
      let right = length_put (sample_number i) i 0 done.pairs so_far.numbers_rise in
      let size = so_far.size in
      let before = so_far.same_listed in
      let made = so_far.same_updates in
      record {
        keys_rise = RisesFrom-map_put (rank dir c i) val 0 m (omega arith) so_far.keys_rise;
        numbers_rise = RisesFrom-map_put (sample_number i) i 0 done.pairs (omega arith) so_far.numbers_rise;
        own = keys_put (λ key. is_own dir (sample_prefix c) key ≡ true) (rank dir c i) val m
            (own_rank dir (sample_prefix c) (sample_name c i) (rank dir c i) (name_begins c i below) known) so_far.own;
        size = omega arith;
        has = λ j there.
            has_put (rank dir c j) (rank dir c i) val m
            ∙ ap (λ (b : Bool). b || map_has (rank dir c j) m) (same_ranks dir c i j below known there)
            ∙ ap (λ (b : Bool). (sample_number i == sample_number j) || b) (so_far.has j there)
            ∙ sym (has_put (sample_number j) (sample_number i) i done.pairs);
        same_listed = omega arith;
        same_updates = omega arith;
      }

  matches_delete : (i : ℕ) → IsKnown dir c i → Matches dir c (map_remove (rank dir c i) m) (listed + 0) (updates + one_if (map_has (rank dir c i) m)) (done_delete i done)
  matches_delete i known =
      let same = ap one_if (so_far.has i known) in
      let left = length_remove (rank dir c i) m in
      let right = length_remove (sample_number i) done.pairs in
      let size = so_far.size in
      let before = so_far.same_listed in
      let made = so_far.same_updates in
      record {
        keys_rise = RisesFrom-map_remove (rank dir c i) 0 m so_far.keys_rise;
        numbers_rise = RisesFrom-map_remove (sample_number i) 0 done.pairs so_far.numbers_rise;
        own = keys_remove (λ key. is_own dir (sample_prefix c) key ≡ true) (rank dir c i) m so_far.own;
        size = omega arith;
        has = λ j there.
            has_remove (rank dir c j) (rank dir c i) 0 m so_far.keys_rise
            ∙ ap (λ (b : Bool). not b && map_has (rank dir c j) m) (same_ranks dir c i j below known there)
            ∙ ap (λ (b : Bool). not (sample_number i == sample_number j) && b) (so_far.has j there)
            ∙ sym (has_remove (sample_number j) (sample_number i) 0 done.pairs so_far.numbers_rise);
        same_listed = omega arith;
        same_updates = omega arith;
      }

  matches_list : Matches dir c m (listed + listed_in (reply_on dir m (ListRequest (sample_query c)))) (updates + 0) (done_list done)
  matches_list =
      let made = so_far.same_updates in
      record {
        keys_rise = so_far.keys_rise;
        numbers_rise = so_far.numbers_rise;
        own = so_far.own;
        size = so_far.size;
        has = so_far.has;
        same_listed = ap (λ (k : ℕ). listed + k) (page-length dir c m so_far.own ∙ ap (min 100) so_far.size)
            ∙ ap (λ (k : ℕ). k + min 100 (length done.pairs)) so_far.same_listed;
        same_updates = omega arith;
      }

  -- the request with this number, whichever it is
  matches_next : (n i : ℕ) (b d : Bool)
      → IsNamed dir (cond b (Delete (sample_name c i)) (cond d (ListRequest (sample_query c)) (Put (sample_name c i) (c * sample_puts n + sample_puts i))))
      → (let request = cond b (Delete (sample_name c i)) (cond d (ListRequest (sample_query c)) (Put (sample_name c i) (c * sample_puts n + sample_puts i))) in
      Matches dir c (map_behind dir m request) (listed + listed_in (reply_on dir m request)) (updates + updates_on dir m request)
      (cond b (done_delete i done) (cond d (done_list done) (done_put i done))))
  matches_next n i true d named = matches_delete i named
  matches_next n i false true named = matches_list
  matches_next n i false false named = matches_put i (c * sample_puts n + sample_puts i) named

-- ---- the first requests

named_at : (P : RequestLine → Type 0) (c n k j : ℕ) → j < k → All P (first_lines c n k) → P (sample_line c n j)
named_at P c n zero j lt all = absurd (omega arith)
named_at P c n (suc k) j lt all =
    elim (cases_lt j k) [
      | inl before ↦ named_at P c n k j before (front_of P (first_lines c n k) (sample_line c n k) all)
      | inr from ↦ let same : k ≡ j = omega arith in
          subst (λ (i : ℕ). P (sample_line c n i)) same (last_of P (first_lines c n k) (sample_line c n k) all)
    ]

pub matches : (dir : List (List ℕ)) (c n i : ℕ) → c < 10 → i ≤ n → All (λ (l : RequestLine). IsNamed dir l.request) (first_lines c n n)
    → Matches dir c (map_alone dir [] (first_lines c n i)) (sum_by listed_in (replies_alone dir [] (first_lines c n i)))
    (updates_alone dir [] (first_lines c n i)) (sample_done i)
unfolding sample_done sample_request
matches dir c n zero below le named = record {
  keys_rise = tt;
  numbers_rise = tt;
  own = tt;
  size = refl;
  has = λ i known. refl;
  same_listed = refl;
  same_updates = refl;
}
matches dir c n (suc i) below le named =
    let lines = first_lines c n i in
    let l = sample_line c n i in
    let m = map_alone dir [] lines in
    let listed = sum_by listed_in (replies_alone dir [] lines) in
    let updates = updates_alone dir [] lines in
    let so_far = matches dir c n i below (omega arith) named in
    let next = matches_next dir c below m listed updates (sample_done i) so_far n i (i % 4 == 2) (i % 4 == 3)
    (named_at (λ (k : RequestLine). IsNamed dir k.request) c n n i (omega arith) named) in
    let listed_next = ap (sum_by listed_in) (replies_alone-push dir [] lines l) ∙ sum_by_push listed_in (replies_alone dir [] lines) (reply_on dir m l.request) in
    subst (λ (k : List Pair). Matches dir c k (sum_by listed_in (replies_alone dir [] (lines ++ l ∷ []))) (updates_alone dir [] (lines ++ l ∷ [])) (sample_done (suc i)))
    (sym (map_alone-push dir [] lines l))
    (subst (λ (k : ℕ). Matches dir c (map_behind dir m l.request) k (updates_alone dir [] (lines ++ l ∷ [])) (sample_done (suc i)))
    (sym listed_next)
    (subst (λ (k : ℕ). Matches dir c (map_behind dir m l.request) (listed + listed_in (reply_on dir m l.request)) k (sample_done (suc i)))
    (sym (updates_alone-push dir [] lines l)) next))
