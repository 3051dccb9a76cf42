-- Updates on other names commute; and so each client on names of its own has in a legal run what it has alone.
use Rattle.std.proofs.Common.{◌≡◌, ℕ, zero, suc, ◌+◌, ◌<◌, Bool, true, false, List, [], ◌∷◌, length, take, eqb, refl, sym, ap, ◌∙◌, subst, arith, Some, All, Any}
use Rattle.std.specs.List.{slice_get}
use Rattle.std.proofs.lemmas.Bool.{eqb-true, eq-eqb, false_from_ne_true, false≢true}
use Rattle.std.proofs.lemmas.List.{take_all}
use Rattle.std.proofs.lemmas.List.Elements.{All-nil, All-head, All-tail, All-cons, All-take}
use Rattle.key_map.specs.declared.update.Update.{Update}
use Rattle.key_map.specs.History.{after}
use Rattle.bucket_terms.specs.declared.request.Request.{Request}
use Rattle.bucket_terms.specs.declared.request.Request.TheVariants.{Put, PutNew, Delete, Head, List as ListRequest, ListV1, Next}
use Rattle.bucket_terms.specs.declared.reply.Placed.{Placed}
use Rattle.bucket_terms.specs.LegalRun.{RequestLine, Setting, Answered, Run, IsLegal, IsMadeBy, IsChangeOf, answered_lines, lines_of, replies_of}
use Rattle.bucket_terms.specs.RunParts.{setting_of}
use Rattle.sample_laws.specs.Own.{is_own, own_pairs, updates_of, IsOwnRequest, AreApart}
use Rattle.sample_laws.specs.Finds.{map_of, IsAsAlone, HaveSlots, OwnNamesLaw}
use Rattle.sample_laws.proofs.Parts.{made_by, part-after, filter-same}
use Rattle.sample_laws.proofs.Places.{none_between, AreMadeBy, front_start, any_all}
use Rattle.sample_laws.proofs.Steps.{updates_counted}
use Rattle.sample_laws.proofs.Ranks.{own_rank}
use Rattle.sample_laws.proofs.Alone.{goes_on}

-- the map after all of some updates
pub whole : (us : List Update) → map_of us ≡ made_by us
unfolding after
whole us = ap made_by (take_all (length us) us (omega arith))

-- what holds of each request holds of each that was answered
pub asked_all : (P : RequestLine → Type 0) (lines : List RequestLine) (replies : List Placed) → All P lines → All (λ (a : Answered). P a.asked) (answered_lines lines replies)
asked_all P [] replies all = All-nil (λ (a : Answered). P a.asked)
asked_all P (l ∷ lines) [] all = All-nil (λ (a : Answered). P a.asked)
asked_all P (l ∷ lines) (r ∷ replies) all =
    All-cons (λ (a : Answered). P a.asked) (record { asked = l; placed = r }) (answered_lines lines replies)
    (All-head P l lines all) (asked_all P lines replies (All-tail P l lines all))

-- the key of an update by an own request is an own key
own_change : (dir : List (List ℕ)) (prefix : List ℕ) (u : Update) (request : Request) → IsOwnRequest prefix request → IsChangeOf dir u request
    → is_own dir prefix u.key ≡ true
own_change dir prefix u (Put name val) own change = own_rank dir prefix name u.key own change.0
own_change dir prefix u (PutNew name val) own change = own_rank dir prefix name u.key own change.0
own_change dir prefix u (Delete name) own change = own_rank dir prefix name u.key own change.0
own_change dir prefix u (Head name) own change = absurd change
own_change dir prefix u (ListRequest query) own change = absurd change
own_change dir prefix u (ListV1 query) own change = absurd change
own_change dir prefix u Next own change = absurd change

pub all_from_get : (P : Update → Type 0) (us : List Update) → ((i : ℕ) (u : Update) → slice_get us i ≡ Some u → P u) → All P us
all_from_get P [] each = All-nil P
all_from_get P (v ∷ us) each = All-cons P v us (each zero v refl) (all_from_get P us (λ i u here. each (suc i) u here))

module _ (dir : List (List ℕ)) (parts : List (List RequestLine)) (slots : ℕ → ℕ) (prefix : ℕ → List ℕ) (run : Run)
    (apart : AreApart dir parts prefix) (legal : IsLegal dir parts slots run) where
  -- each update is of a client, and its key is the client's own
  pub own_update : (i : ℕ) (u : Update) → slice_get run.updates i ≡ Some u → (u.client < length parts) × (is_own dir (prefix u.client) u.key ≡ true)
  own_update i u here =
      let made = legal.made i u here in
      let lines = lines_of parts u.client in
      let own = asked_all (λ (l : RequestLine). IsOwnRequest (prefix u.client) l.request) lines (replies_of run u.client) (apart.own u.client made.0) in
      let both = any_all (IsMadeBy dir u (i + 1)) (λ (a : Answered). IsOwnRequest (prefix u.client) a.asked.request) (answered_lines lines (replies_of run u.client)) made.1 own in
      (made.0, own_change dir (prefix u.client) u both.0.asked.request both.1.1 both.1.0.change)

  module _ (c : ℕ) (below : c < length parts) where
    -- a key that an update has is the client's own exactly if the update is
    same_test : (i : ℕ) (u : Update) → slice_get run.updates i ≡ Some u → is_own dir (prefix c) u.key ≡ eqb u.client c
    same_test i u here = by_test (eqb u.client c) refl
      where
        own : (u.client < length parts) × (is_own dir (prefix u.client) u.key ≡ true)
        own = own_update i u here

        by_test : (b : Bool) → eqb u.client c ≡ b → is_own dir (prefix c) u.key ≡ b
        by_test true mine = ap (λ (d : ℕ). is_own dir (prefix d) u.key) (sym (eqb-true u.client c mine)) ∙ own.1
        by_test false other = false_from_ne_true _ (λ mine.
            let same : u.client ≡ c = apart.apart u.client c u.key own.0 below own.1 mine in
            false≢true (sym other ∙ eq-eqb u.client c same))

  -- updates on other names commute
  pub split : (c : ℕ) → c < length parts → (t : ℕ) → own_pairs dir (prefix c) (after run.updates t) ≡ made_by (updates_of c (take t run.updates))
  split c below t =
      part-after (is_own dir (prefix c)) run.updates t
      ∙ ap made_by (filter-same (λ (u : Update). is_own dir (prefix c) u.key) (λ (u : Update). eqb u.client c) (take t run.updates)
      (All-take (λ (u : Update). is_own dir (prefix c) u.key ≡ eqb u.client c) t run.updates
      (all_from_get (λ (u : Update). is_own dir (prefix c) u.key ≡ eqb u.client c) run.updates (same_test c below))))

  made_here : (c : ℕ) → AreMadeBy (setting_of dir run slots c) (answered_lines (lines_of parts c) (replies_of run c))
  made_here c i u here own =
      subst (λ (d : ℕ). Any (IsMadeBy dir u (i + 1)) (answered_lines (lines_of parts d) (replies_of run d))) own (legal.made i u here).1

  pub as_alone : HaveSlots parts slots → (c : ℕ) → c < length parts → IsAsAlone dir (prefix c) run c (lines_of parts c)
  as_alone slotted c below =
      let here : Setting = setting_of dir run slots c in
      let answered = legal.answered c below in
      let counted = updates_counted here [] (lines_of parts c) (replies_of run c) 0 answered front_start (made_here c) in
      let roomy = slotted c below in
      let few : length (updates_of c run.updates) < slots c = omega arith in
      let goes = goes_on here (prefix c) apart.rising (split c below) few [] (lines_of parts c) (replies_of run c) 0 [] refl
      answered (apart.own c below) front_start (made_here c) in
      let count = goes.count in
      let all = take_all (length run.updates) run.updates (omega arith) in
      record {
        commutes = λ t. split c below t ∙ sym (whole (updates_of c (take t run.updates)));
        stays = λ t later le others.
            split c below later
            ∙ ap made_by (none_between c run.updates t later le others)
            ∙ sym (split c below t);
        finds = goes.finds;
        replies = goes.same_replies;
        last = split c below (length run.updates) ∙ ap (λ (us : List Update). made_by (updates_of c us)) all ∙ goes.last;
        updates = omega arith;
        named = goes.named;
      }

pub own_names : OwnNamesLaw
own_names dir parts slots prefix run apart slotted legal c below = as_alone dir parts slots prefix run apart legal slotted c below
