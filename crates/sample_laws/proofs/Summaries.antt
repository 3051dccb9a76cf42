-- The summary of a legal run is the sums over the clients of what each has alone.
use Rattle.std.proofs.Common.{◌≡◌, ℕ, zero, suc, ◌<◌, Bool, true, false, cond, List, [], ◌∷◌, length, fold, eqb, nat_lt, ◌==◌, refl, sym, ap, ◌∙◌, subst, arith, All, Some}
use Rattle.std.specs.List.{slice_get, sum_by, AllByRecursion}
use Rattle.std.proofs.lemmas.Bool.{eqb-true, eq-eqb}
use Rattle.std.proofs.lemmas.List.{length-map}
use Rattle.std.proofs.lemmas.List.Elements.{All-from_recursion, All-weaker}
use Rattle.key_map.specs.declared.pair.Pair.{Pair}
use Rattle.key_map.specs.declared.update.Update.{Update}
use Rattle.key_map.specs.declared.update.Change.{Change}
use Rattle.key_map.specs.declared.update.Change.TheVariants.{Put, Remove}
use Rattle.key_map.specs.Map.{pair, map_put, map_remove}
use Rattle.key_map.specs.History.{changed, updated}
use Rattle.bucket_terms.specs.declared.reply.Reply.{Reply}
use Rattle.bucket_terms.specs.declared.reply.Placed.{Placed}
use Rattle.bucket_terms.specs.declared.summary.Summary.{Summary}
use Rattle.bucket_terms.specs.LegalRun.{RequestLine, Run, IsLegal, lines_of, replies_of}
use Rattle.sample_laws.specs.Alone.{map_behind, map_alone, updates_alone, replies_alone}
use Rattle.sample_laws.specs.Own.{is_own, own_pairs, updates_of, AreApart}
use Rattle.sample_laws.specs.Totals.{listed_in, listed_by}
use Rattle.sample_laws.specs.Finds.{map_of, IsAsAlone, HaveSlots, SummaryLaw}
use Rattle.sample_laws.proofs.Parts.{made_by}
use Rattle.sample_laws.proofs.OwnNames.{whole, all_from_get, own_update, as_alone}
use Rattle.sample_laws.proofs.Sums.{total, sum_by-total, total-same, IsOfOne, total-parts, sum_by-map}

-- ---- the keys of a map are those of updates

module _ (Q : ℕ → Type 0) where
  abbrev Keys : List Pair → Type 0
  Keys m = AllByRecursion (λ (p : Pair). Q p.key) m

  pub keys_put : (key val : ℕ) (m : List Pair) → Q key → Keys m → Keys (map_put key val m)
  keys_put key val [] here all = (here, tt)
  keys_put key val (p ∷ ps) here all = by_test (nat_lt p.key key) (p.key == key) (keys_put key val ps here all.1)
    where
      by_test : (b c : Bool) → Keys (map_put key val ps) → Keys (cond b (p ∷ map_put key val ps) (cond c (pair key val ∷ ps) (pair key val ∷ p ∷ ps)))
      by_test true c rest = (all.0, rest)
      by_test false true rest = (here, all.1)
      by_test false false rest = (here, all)

  pub keys_remove : (key : ℕ) (m : List Pair) → Keys m → Keys (map_remove key m)
  keys_remove key [] all = tt
  keys_remove key (p ∷ ps) all = by_test (p.key == key) (keys_remove key ps all.1)
    where
      by_test : (b : Bool) → Keys (map_remove key ps) → Keys (cond b ps (p ∷ map_remove key ps))
      by_test true rest = all.1
      by_test false rest = (all.0, rest)

  keys_changed : (key : ℕ) (c : Change) (m : List Pair) → Q key → Keys m → Keys (changed key c m)
  keys_changed key (Put val) m here all = keys_put key val m here all
  keys_changed key Remove m here all = keys_remove key m all

  keys_made : (us : List Update) (m : List Pair) → ((i : ℕ) (u : Update) → slice_get us i ≡ Some u → Q u.key) → Keys m → Keys (fold updated m us)
  keys_made [] m each all = all
  keys_made (u ∷ us) m each all =
      keys_made us (updated m u) (λ i v here. each (suc i) v here) (keys_changed u.key u.change m (each zero u refl) all)

-- ---- the replies

replies-length : (dir : List (List ℕ)) (m : List Pair) (lines : List RequestLine) → length (replies_alone dir m lines) ≡ length lines
replies-length dir m [] = refl
replies-length dir m (l ∷ lines) = let rest = replies-length dir (map_behind dir m l.request) lines in omega arith

module _ (dir : List (List ℕ)) (parts : List (List RequestLine)) (slots : ℕ → ℕ) (prefix : ℕ → List ℕ) (run : Run)
    (apart : AreApart dir parts prefix) (slotted : HaveSlots parts slots) (legal : IsLegal dir parts slots run) where
  alone : (c : ℕ) → c < length parts → IsAsAlone dir (prefix c) run c (lines_of parts c)
  alone c below = as_alone dir parts slots prefix run apart legal slotted c below

  -- a key of one client alone
  abbrev IsKeyOfOne : ℕ → Type 0
  IsKeyOfOne key = (client : ℕ) × ((client < length parts) × (is_own dir (prefix client) key ≡ true))

  abbrev key_test : ℕ → Pair → Bool
  key_test c p = is_own dir (prefix c) p.key

  abbrev update_test : ℕ → Update → Bool
  update_test c u = eqb u.client c

  pairs_of_one : All (IsOfOne key_test (length parts)) (map_of run.updates)
  pairs_of_one =
      All-weaker (λ (p : Pair). IsKeyOfOne p.key) (IsOfOne key_test (length parts))
      (λ p h. record {
        client = h.0;
        below = h.1.0;
        passes = h.1.1;
        only = λ c below also. apart.apart c h.0 p.key below h.1.0 also h.1.1;
      })
      (map_of run.updates)
      (subst (All (λ (p : Pair). IsKeyOfOne p.key)) (sym (whole run.updates))
      (All-from_recursion (λ (p : Pair). IsKeyOfOne p.key) (made_by run.updates)
      (keys_made IsKeyOfOne run.updates []
      (λ i u here. let own = own_update dir parts slots prefix run apart legal i u here in (u.client, (own.0, own.1)))
      tt)))

  updates_of_one : All (IsOfOne update_test (length parts)) run.updates
  updates_of_one = all_from_get (IsOfOne update_test (length parts)) run.updates (λ i u here. record {
    client = u.client;
    below = (own_update dir parts slots prefix run apart legal i u here).0;
    passes = eq-eqb u.client u.client refl;
    only = λ c below also. sym (eqb-true u.client c also);
  })

  same_keys : length (map_of run.updates) ≡ sum_by (λ (lines : List RequestLine). length (map_alone dir [] lines)) parts
  same_keys =
      sym (total-parts key_test (length parts) (map_of run.updates) pairs_of_one)
      ∙ total-same (λ c. length (own_pairs dir (prefix c) (map_of run.updates))) (λ c. length (map_alone dir [] (lines_of parts c))) (length parts)
      (λ c below. ap (length {A = Pair}) (alone c below).last)
      ∙ sym (sum_by-total (λ (lines : List RequestLine). length (map_alone dir [] lines)) parts [])

  same_updates : length run.updates ≡ sum_by (λ (lines : List RequestLine). updates_alone dir [] lines) parts
  same_updates =
      sym (total-parts update_test (length parts) run.updates updates_of_one)
      ∙ total-same (λ c. length (updates_of c run.updates)) (λ c. updates_alone dir [] (lines_of parts c)) (length parts)
      (λ c below. (alone c below).updates)
      ∙ sym (sum_by-total (λ (lines : List RequestLine). updates_alone dir [] lines) parts [])

  over_replies : (f : List Placed → ℕ) (g : List RequestLine → ℕ) → ((c : ℕ) → c < length parts → f (replies_of run c) ≡ g (lines_of parts c))
      → sum_by f run.replies ≡ sum_by g parts
  over_replies f g same =
      sum_by-total f run.replies []
      ∙ ap (total (λ c. f (replies_of run c))) legal.clients
      ∙ total-same (λ c. f (replies_of run c)) (λ c. g (lines_of parts c)) (length parts) same
      ∙ sym (sum_by-total g parts [])

  same_listed : sum_by listed_by run.replies ≡ sum_by (λ (lines : List RequestLine). sum_by listed_in (replies_alone dir [] lines)) parts
  same_listed = over_replies listed_by (λ (lines : List RequestLine). sum_by listed_in (replies_alone dir [] lines)) (λ c below.
      sum_by-map listed_in (λ (r : Placed). r.reply) (replies_of run c) ∙ ap (sum_by listed_in) (alone c below).replies)

  same_requests : sum_by (length {A = Placed}) run.replies ≡ sum_by (length {A = RequestLine}) parts
  same_requests = over_replies (length {A = Placed}) (length {A = RequestLine}) (λ c below.
      sym (length-map (replies_of run c) (λ (r : Placed). r.reply)) ∙ ap (length {A = Reply}) (alone c below).replies ∙ replies-length dir [] (lines_of parts c))

pub summary_is : (keys listed requests updates keys' listed' requests' updates' : ℕ) → keys ≡ keys' → listed ≡ listed' → requests ≡ requests' → updates ≡ updates'
    → (let summary : Summary = record { keys = keys; listed = listed; requests = requests; updates = updates } in summary)
    ≡ record { keys = keys'; listed = listed'; requests = requests'; updates = updates' }
summary_is keys listed requests updates keys' listed' requests' updates' e f g h = cc

pub summaries : SummaryLaw
summaries dir parts slots prefix run apart slotted legal =
    summary_is _ _ _ _ _ _ _ _
    (same_keys dir parts slots prefix run apart slotted legal)
    (same_listed dir parts slots prefix run apart slotted legal)
    (same_requests dir parts slots prefix run apart slotted legal)
    (same_updates dir parts slots prefix run apart slotted legal)
