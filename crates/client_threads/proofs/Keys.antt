-- From the keys of an opened index to the run of all clients, and to the history.
use Rattle.std.proofs.Common.{◌≡◌, ℕ, zero, suc, ◌+◌, ◌*◌, ◌<◌, ◌≤◌, ◌==◌, All, length, get_or, map, List, [], ◌∷◌, Option, Some, None, inl, inr, refl, sym, ap, ◌∙◌, subst, arith}
use Rattle.std.specs.List.{slice_get}
use Rattle.std.specs.Option.{unwrap_or}
use Rattle.std.proofs.lemmas.Bool.{cases_Bool}
use Rattle.std.proofs.lemmas.Bool.Decides.{nat_tests}
use Rattle.std.proofs.lemmas.List.{length-map, get_or-map}
use Rattle.std.proofs.lemmas.List.Elements.{All-nil}
use Rattle.std.proofs.lemmas.Option.{slice_get_within, get_or_from_slice_get}
use Rattle.key_map.specs.declared.pass.PassSize.{PassSize}
use Rattle.key_map.specs.declared.update.Update.{Update}
use Rattle.key_map.specs.History.{own_places}
use Rattle.key_map.specs.Lists.{count}
use Rattle.bucket_terms.specs.declared.reply.Placed.{Placed}
use Rattle.bucket_terms.specs.PassView.{PassView, Extends}
use Rattle.bucket_terms.specs.PlainPass.{fresh}
use Rattle.bucket_terms.specs.LegalRun.{RequestLine, lines_of, slots_under}
use Rattle.bucket_terms.specs.RunParts.{updates_in}
use Rattle.request_lines.specs.declared.session.ClientPart.{ClientPart}
use Rattle.request_lines.specs.declared.session.Session.{Session}
use Rattle.request_lines.specs.Session.{request_lines}
use Rattle.request_lines.specs.SessionLaws.{IsAskable, Rise}
use Rattle.client_run.specs.ClientRun.{IsLaterLine}
use Rattle.table_rule.specs.Homes.{Home}
use Rattle.table_steps.specs.Closes.{BeginsWithSeen, AreMadeBy, StandAtOwnPlaces, number_of}
use Rattle.table_steps.specs.Passes.{Pass}
use Rattle.shared_index.specs.Keys.{IsKeyOf, AreAllKeys, AreFresh}
use Rattle.shared_index.specs.Shown.{shown}
use Rattle.client_threads.specs.Clients.{RanEach}
use Rattle.client_run.specs.Pooling.{capped}
use Rattle.client_run.proofs.TradedAnswers.{extends_on, extends_same}
use Rattle.client_threads.proofs.Lists.{every_at, every_from, item_of}
use Rattle.client_threads.specs.Behind.{RanBehindEach, counted}
use Rattle.client_threads.specs.Pools.{PooledOverEach}
use Rattle.client_threads.specs.Runs.{CanRunEach, RanOverEach, parts_of}
use Rattle.client_threads.specs.Sizes.{CanServe, size_of, sizes_of}

-- ---- lists

same_map : {X Y : Type 0} (f : X → Y) (xs ys : List X) → length xs ≡ length ys → ((i : ℕ) (d e : X) → i < length xs → f (get_or xs i d) ≡ f (get_or ys i e)) → map f xs ≡ map f ys
same_map f [] [] long each = refl
same_map f [] (y ∷ ys) long each = absurd (omega arith)
same_map f (x ∷ xs) [] long each = absurd (omega arith)
same_map f (x ∷ xs) (y ∷ ys) long each =
    ap (λ z. z ∷ map f xs) (each 0 x y (omega arith)) ∙ ap (λ zs. f y ∷ zs) (same_map f xs ys (omega arith) (λ i d e lt. each (suc i) d e (omega arith)))

-- a number that stands in a list is below a limit of its items
count_below : {X : Type 0} (f : X → ℕ) (xs : List X) (x limit : ℕ) → 0 < count x (map f xs) → ((i : ℕ) (d : X) → i < length xs → f (get_or xs i d) < limit) → x < limit
count_below f [] x limit some each = absurd (omega arith)
count_below f (y ∷ ys) x limit some each =
    let first = each 0 y (omega arith) in
    elim (cases_Bool (f y == x)) [
      | inl same ↦ grind (arith, nat_tests)
      | inr other ↦ let rest : 0 < count x (map f ys) = grind (arith, nat_tests) in count_below f ys x limit rest (λ i d lt. each (suc i) d (omega arith))
    ]

-- ---- the parts of a session

no_part : ClientPart
no_part = record { requests = [] }

lines_at : (clients : List ClientPart) (c : ℕ) (d : ClientPart) → c < length clients → lines_of (parts_of clients) c ≡ request_lines (get_or clients c d)
lines_at clients c d lt = get_or-map request_lines clients c d [] lt

-- what holds of each part's lines holds of the lines of each client
pub each_lines : (P : List RequestLine → Type 0) (clients : List ClientPart) (c : ℕ) → c < length (parts_of clients) → All (λ (part : ClientPart). P (request_lines part)) clients → P (lines_of (parts_of clients) c)
each_lines P clients c lt each =
    let below : c < length clients = omega (arith, length-map clients request_lines) in
    subst P (sym (lines_at clients c no_part below)) (each c no_part below)

-- ---- fresh keys

fresh_length : (number : ℕ) (sizes : List PassSize) (keys : List Pass) → AreFresh number sizes keys → length keys ≡ length sizes
fresh_length number [] [] are = refl
fresh_length number [] (key ∷ keys) are = absurd are
fresh_length number (size ∷ sizes) [] are = absurd are
fresh_length number (size ∷ sizes) (key ∷ keys) are = omega (arith, fresh_length (number + 1) sizes keys are.1)

fresh_at : (number : ℕ) (sizes : List PassSize) (keys : List Pass) (c : ℕ) (e : PassSize) (d : Pass) → AreFresh number sizes keys → c < length sizes
    → shown (get_or keys c d) ≡ fresh (number + c) (get_or sizes c e)
fresh_at number [] keys c e d are lt = absurd (omega arith)
fresh_at number (size ∷ sizes) [] c e d are lt = absurd are
fresh_at number (size ∷ sizes) (key ∷ keys) zero e d are lt =
    let same : number ≡ number + 0 = omega arith in
    are.0.shown_is ∙ ap (λ (n : ℕ). fresh n size) same
fresh_at number (size ∷ sizes) (key ∷ keys) (suc c) e d are lt =
    let same : number + 1 + c ≡ number + suc c = omega arith in
    fresh_at (number + 1) sizes keys c e d are.1 (omega arith) ∙ ap (λ (n : ℕ). fresh n (get_or sizes c e)) same

-- the pass of a client at the start
client_fresh : (named : Option ℕ) (clients : List ClientPart) (keys : List Pass) (c : ℕ) (d : Pass) → AreFresh 0 (sizes_of named clients) keys → c < length (parts_of clients)
    → shown (get_or keys c d) ≡ fresh c (size_of named (get_or clients c no_part))
client_fresh named clients keys c d are lt =
    let below : c < length clients = omega (arith, length-map clients request_lines) in
    let same : 0 + c ≡ c = omega arith in
    fresh_at 0 (sizes_of named clients) keys c (size_of named no_part) d are (omega (arith, length-map clients (size_of named)))
    ∙ ap (λ (n : ℕ). fresh n (get_or (sizes_of named clients) c (size_of named no_part))) same
    ∙ ap (fresh c) (get_or-map (size_of named) clients c no_part (size_of named no_part) below)

-- a pass that has seen no update stands before each line
pub none_seen : (pass : PassView) (line : ℕ) → pass.seen ≡ [] → IsLaterLine pass line
none_seen pass line none = subst (λ (us : List Update). All (λ (u : Update). u.client ≡ pass.number → u.line < line) us) (sym none) (All-nil (λ (u : Update). u.client ≡ pass.number → u.line < line))

-- the keys are those that a run of the session requires
pub can_run : (dir : List (List ℕ)) (named : Option ℕ) (session : Session) (index : Home) (keys : List Pass) → CanServe dir session → AreAllKeys index keys
    → AreFresh 0 (sizes_of named session.clients) keys → CanRunEach dir index (parts_of session.clients) keys
can_run dir named session index keys can all are = record {
  one_each = long;
  each = λ c d lt.
      let is = client_fresh named session.clients keys c d are lt in
      let below : c < length session.clients = omega (arith, length-map session.clients request_lines) in
      record {
        of = every_at (IsKeyOf index) keys all.of c d (omega (arith, long));
        number = ap (λ (p : PassView). p.number) is;
        askable = each_lines (All (IsAskable dir)) session.clients c lt can.askable;
        calls = omega (arith, ap (λ (p : PassView). p.left) is, ap updates_in (lines_at session.clients c no_part below));
        rising = each_lines Rise session.clients c lt can.rising;
        later = λ k e within. none_seen (shown (get_or keys c d)) (get_or (lines_of (parts_of session.clients) c) k e).line (ap (λ (p : PassView). p.seen) is);
      };
}
  where
    long : length keys ≡ length (parts_of session.clients)
    long = omega (arith, fresh_length 0 (sizes_of named session.clients) keys are, length-map session.clients (size_of named), length-map session.clients request_lines)

-- ---- the keys after the run

-- a named number of slots counts in full if a pass has as many
counted_named : (named : Option ℕ) (asked : ℕ) → counted named (unwrap_or named asked) ≡ unwrap_or named asked
counted_named None asked = refl
counted_named (Some n) asked = grind (arith, nat_tests)

counted_few : (named : Option ℕ) (nodes : ℕ) → counted named nodes ≤ nodes
counted_few None nodes = omega arith
counted_few (Some n) nodes = grind (arith, nat_tests)

-- without a depot
pub apart_behind : (named : Option ℕ) (dir : List (List ℕ)) (index : Home) (parts : List (List RequestLine)) (keys back : List Pass) (replies : List (List Placed))
    → RanOverEach dir index parts keys back replies → RanBehindEach named dir index parts keys back replies
apart_behind named dir index parts keys back replies ran = record {
  keys = ran.keys;
  lists = ran.lists;
  each = λ c d e lt.
      let one = ran.each c d e lt in
      record {
        of = one.of;
        number = one.number;
        first = shown (get_or keys c d);
        last = shown (get_or back c e);
        ran = one.ran;
        first_number = refl;
        first_mine = refl;
        first_nodes = counted_few named (shown (get_or keys c d)).nodes;
        first_entries = refl;
        last_seen = extends_same (shown (get_or back c e)).seen;
        last_mine = refl;
      };
}

-- with one
pub pooled_behind : (own : ℕ) (dir : List (List ℕ)) (index : Home) (parts : List (List RequestLine)) (keys back : List Pass) (replies : List (List Placed))
    → PooledOverEach own dir index parts keys back replies → RanBehindEach (Some own) dir index parts keys back replies
pooled_behind own dir index parts keys back replies ran = record {
  keys = ran.keys;
  lists = ran.lists;
  each = λ c d e lt.
      let one = ran.each c d e lt in
      record {
        of = one.of;
        number = one.adopted.number ∙ one.ran.number;
        first = capped own (shown (get_or keys c d));
        last = capped own (shown one.behind);
        ran = one.ran.ran;
        first_number = refl;
        first_mine = refl;
        first_nodes = omega arith;
        first_entries = refl;
        last_seen = one.adopted.seen;
        last_mine = sym one.adopted.mine;
      };
}

module _ (named : Option ℕ) (dir : List (List ℕ)) (index : Home) (parts : List (List RequestLine)) (keys back : List Pass) (replies : List (List Placed))
    (can : CanRunEach dir index parts keys) (ran : RanBehindEach named dir index parts keys back replies) where
  pub all_back : AreAllKeys index keys → AreAllKeys index back
  all_back all = record {
    of = every_from (IsKeyOf index) back (λ c d lt. (ran.each c d d (omega (arith, ran.keys))).of);
    each = subst (λ (ns : List ℕ). (n : ℕ) → n < index.layout.passes → count n ns ≡ 1) same all.each;
  }
    where
      same : map number_of keys ≡ map number_of back
      same =
          same_map number_of keys back (omega (arith, can.one_each, ran.keys))
          (λ c d e lt.
          let within : c < length parts = omega (arith, can.one_each) in
          (can.each c d within).number ∙ sym (ran.each c d e within).number)

  module _ (updates : List Update) (begins : BeginsWithSeen back updates) (made : AreMadeBy back updates) (own : StandAtOwnPlaces back updates) where
    -- each update is one of a client
    by_client : (i : ℕ) (u : Update) → slice_get updates i ≡ Some u → u.client < length parts
    by_client i u here =
        let below = slice_get_within updates i u here in
        let some : 0 < count u.client (map number_of back) =
        subst (λ (v : Update). 0 < count v.client (map number_of back)) (get_or_from_slice_get updates i u u here) (every_at (λ (v : Update). 0 < count v.client (map number_of back)) updates made i u below) in
        count_below number_of back u.client (length parts) some
        (λ c d lt.
        let within : c < length parts = omega (arith, ran.keys) in
        omega (arith, (ran.each c d d within).number))

    pub ran_each : (slots : ℕ → ℕ)
        → ((c : ℕ) (d : Pass) → c < length parts → ((shown (get_or keys c d)).mine ≡ []) × (slots c ≤ counted named (shown (get_or keys c d)).nodes) × (4 * slots c ≤ (shown (get_or keys c d)).entries))
        → RanEach dir parts slots (record { updates = updates; replies = replies })
    ran_each slots start = record {
      clients = ran.lists;
      each = λ c lt.
          let here : c < length back = omega (arith, ran.keys) in
          let d = item_of back c here in
          let one = ran.each c d d lt in
          let first = start c d lt in
          record {
            old = one.first;
            new = one.last;
            ran = one.ran;
            number = one.first_number ∙ (can.each c d lt).number;
            fresh = one.first_mine ∙ first.0;
            nodes = omega (arith, first.1, one.first_nodes);
            entries = omega (arith, first.2, one.first_entries);
            seen = extends_on one.last.seen (shown (get_or back c d)).seen updates one.last_seen (every_at (λ (k : Pass). Extends (shown k).seen updates) back begins c d here);
            own =
                one.last_mine ∙ every_at (λ (k : Pass). (shown k).mine ≡ own_places (number_of k) updates) back own c d here
                ∙ ap (λ (n : ℕ). own_places n updates) one.number;
          };
      by_client = by_client;
    }

-- the run of a session's clients over an index that was opened for it
pub ran_session : (dir : List (List ℕ)) (named : Option ℕ) (session : Session) (index : Home) (keys back : List Pass) (replies : List (List Placed)) (updates : List Update)
    → CanServe dir session → AreAllKeys index keys → AreFresh 0 (sizes_of named session.clients) keys → RanBehindEach named dir index (parts_of session.clients) keys back replies
    → BeginsWithSeen back updates → AreMadeBy back updates → StandAtOwnPlaces back updates
    → RanEach dir (parts_of session.clients) (slots_under named (parts_of session.clients)) (record { updates = updates; replies = replies })
ran_session dir named session index keys back replies updates can all are ran begins made own =
    ran_each named dir index (parts_of session.clients) keys back replies (can_run dir named session index keys can all are) ran updates begins made own (slots_under named (parts_of session.clients))
    (λ c d lt.
    let is = client_fresh named session.clients keys c d are lt in
    let below : c < length session.clients = omega (arith, length-map session.clients request_lines) in
    let slots = ap (λ (ls : List RequestLine). unwrap_or named (updates_in ls + 1)) (lines_at session.clients c no_part below) in (
      ap (λ (p : PassView). p.mine) is,
      omega (
        arith,
        ap (λ (p : PassView). counted named p.nodes) is,
        slots,
        counted_named named (updates_in (request_lines (get_or session.clients c no_part)) + 1),
      ),
      omega (arith, ap (λ (p : PassView). p.entries) is, slots),
    ))
