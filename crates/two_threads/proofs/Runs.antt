-- From the calls of a run to its one history.
use Rattle.std.proofs.Common.{◌≡◌, ℕ, ◌+◌, ◌<◌, ◌≤◌, ◌↔◌, nat_lt, Bool, true, false, if◌then◌else◌, List, [], ◌∷◌, ◌++◌, length, Result, Ok, Err, refl, sym, ap, ◌∙◌, subst, inl, inr, arith}
use Rattle.std.specs.Prelude.{IsErrOf, IsOk}
use Rattle.std.proofs.lemmas.Bool.Decides.{nat_tests}
use Rattle.key_map.specs.declared.pass.Done.{Done}
use Rattle.key_map.specs.declared.pass.PassError.{PassError}
use Rattle.key_map.specs.declared.pass.PassError.TheVariants.{NoSlot, Spent}
use Rattle.key_map.specs.declared.update.Update.{Update}
use Rattle.key_map.specs.History.{own_places}
use Rattle.key_map.specs.Lists.{count, Every}
use Rattle.bucket_terms.specs.declared.list_query.ListQuery.{ListQuery}
use Rattle.bucket_terms.specs.PassView.{PassView, Extends, IsOutOfSlots}
use Rattle.bucket_terms.specs.Pool.{Adopted, Lent, Traded}
use Rattle.client_run.proofs.TradedAnswers.{extends_on, extends_same}
use Rattle.table_rule.specs.Homes.{Home}
use Rattle.table_steps.specs.Closes.{AreMadeBy, BeginsWithSeen, StandAtOwnPlaces, number_of}
use Rattle.table_steps.specs.Passes.{Pass}
use Rattle.shared_index.specs.Keys.{AreAllKeys, AreFresh, IsKeyOf, home_of_pass}
use Rattle.shared_index.specs.Shown.{shown}
use Rattle.shared_index.proofs.KeyHomes.{all_kept}
use Rattle.two_threads.specs.declared.run.Ended.{Ended}
use Rattle.two_threads.specs.declared.run.Left.{Left}
use Rattle.two_threads.specs.declared.run.Ran.{Ran}
use Rattle.two_threads.specs.declared.run.Tasks.{Tasks}
use Rattle.two_threads.specs.declared.run.Turns.{Turns}
use Rattle.two_threads.specs.Runs.{BothTook, HandedOn, IsBack, IsRun, IsThread, LaidDown, sizes}
use Rattle.two_threads.specs.Turns.{IsRight, place_of}
use Rattle.two_threads.proofs.Turns.{right_on}

-- ---- a slot that was handed on

back : (index : Home) (old new : Pass) → IsKeyOf index old → Traded (shown old) (shown new) → home_of_pass new ≡ home_of_pass old → IsBack index old new
back index old new of traded home = record {
  of = home ∙ of;
  number = traded.number;
  seen = traded.seen;
  mine = traded.mine;
  left = traded.left;
  entries = traded.entries;
}

handed_on : (index : Home) (first second giver taker : Pass) → IsKeyOf index first → IsKeyOf index second
    → Lent (shown first) (shown giver) → home_of_pass giver ≡ home_of_pass first → Adopted (shown second) (shown taker) → home_of_pass taker ≡ home_of_pass second
    → HandedOn index first second giver taker true
handed_on index first second giver taker of_first of_second lent home adopted other = record {
  giver_back = back index first giver of_first lent.traded home;
  taker_back = back index second taker of_second adopted.traded other;
  given = lent.nodes;
  taken = adopted.nodes;
}

pub handed_back : (index : Home) (first second giver taker lent adopted last other : Pass) (handed : Bool) → IsKeyOf index first → IsKeyOf index second
    → giver ≡ first → taker ≡ second → Lent (shown giver) (shown lent) → home_of_pass lent ≡ home_of_pass giver
    → Adopted (shown taker) (shown adopted) → home_of_pass adopted ≡ home_of_pass taker → last ≡ lent → other ≡ adopted → handed ≡ true
    → HandedOn index first second last other handed
handed_back index first second giver taker lent adopted last other handed of_first of_second is_first is_second lends home adopts other_home is_last is_other is =
    subst (HandedOn index first second last other) (sym is)
    (subst (λ (p : Pass). HandedOn index first second p other true) (sym is_last)
    (subst (λ (p : Pass). HandedOn index first second lent p true) (sym is_other)
    (handed_on index first second lent adopted of_first of_second
    (subst (λ (p : Pass). Lent (shown p) (shown lent)) is_first lends) (home ∙ ap home_of_pass is_first)
    (subst (λ (p : Pass). Adopted (shown p) (shown adopted)) is_second adopts) (other_home ∙ ap home_of_pass is_second))))

same : (index : Home) (key : Pass) → IsKeyOf index key → IsBack index key key
same index key of = record { of = of; number = refl; seen = extends_same (shown key).seen; mine = refl; left = refl; entries = refl }

none_handed : (index : Home) (first second : Pass) → IsKeyOf index first → IsKeyOf index second → HandedOn index first second first second false
none_handed index first second of_first of_second = record {
  giver_back = same index first of_first;
  taker_back = same index second of_second;
  given = omega arith;
  taken = omega arith;
}

pub kept_back : (index : Home) (first second giver taker last other : Pass) (handed : Bool) → IsKeyOf index first → IsKeyOf index second
    → giver ≡ first → taker ≡ second → last ≡ giver → other ≡ taker → handed ≡ false → HandedOn index first second last other handed
kept_back index first second giver taker last other handed of_first of_second is_first is_second is_last is_other is =
    subst (HandedOn index first second last other) (sym is)
    (subst (λ (p : Pass). HandedOn index first second p other false) (sym (is_last ∙ is_first))
    (subst (λ (p : Pass). HandedOn index first second first p false) (sym (is_other ∙ is_second)) (none_handed index first second of_first of_second)))

pub some_free : (nodes : ℕ) → 0 < nodes → nat_lt 0 nodes ≡ true
some_free nodes some = grind (arith, nat_tests)

pub none_free : (nodes : ℕ) → nodes ≡ 0 → nat_lt 0 nodes ≡ false
none_free nodes none = grind (arith, nat_tests)

-- ---- the keys after a run

pub all_back : (index : Home) (first second last other : Pass) → AreAllKeys index (first ∷ second ∷ []) → IsKeyOf index last → IsKeyOf index other
    → number_of last ≡ number_of first → number_of other ≡ number_of second → AreAllKeys index (last ∷ other ∷ [])
all_back index first second last other all of_last of_other is_first is_second =
    all_kept index (first ∷ second ∷ []) (last ∷ other ∷ []) all (of_last, (of_other, tt)) (λ i. is_first i ∷ is_second i ∷ [])

-- ---- one thread

-- a put is made if calls and slots are left
made : (put : Result Done PassError) (old : PassView) → (IsErrOf put Spent ↔ (old.left ≡ 0)) → (IsErrOf put NoSlot ↔ IsOutOfSlots old)
    → 0 < old.left → 0 < old.nodes → 4 ≤ old.entries → IsOk put
made (Ok done) old spent no_slot left nodes entries = refl
made (Err Spent) old spent no_slot left nodes entries = absurd (omega (arith, spent.0 refl, left))
made (Err NoSlot) old spent no_slot left nodes entries = absurd (short (no_slot.0 refl))
  where
    short : IsOutOfSlots old → ⊥
    short (some, inl few) = omega (arith, few, nodes)
    short (some, inr few) = omega (arith, few, entries)

module _ (index : Home) (dir : List (List ℕ)) (query : ListQuery) (history : List Update) (tasks : Tasks) (key middle : Pass) (early late : Left)
    (took : LaidDown index dir query tasks.early key early) (back : IsBack index early.key middle) (took_late : LaidDown index dir query tasks.late middle late) where
  pub same_number : number_of late.key ≡ number_of key
  same_number = took_late.took.number ∙ back.number ∙ took.took.number

  pub thread_is : (number : ℕ) → (shown key).number ≡ number → (shown key).mine ≡ [] → Extends (shown late.key).seen history
      → (shown late.key).mine ≡ own_places late.key.number history → IsThread dir query history number tasks (record { early = early.turn; late = late.turn })
  thread_is number is none seen own = record {
    early_task = took.took.task_is;
    late_task = took_late.took.task_is;
    early =
        subst (λ n. IsRight dir query history n early.turn) is
        (right_on dir query (shown early.key).seen history (shown key).number early.turn
        (extends_on (shown early.key).seen (shown late.key).seen history (extends_on (shown early.key).seen (shown middle).seen (shown late.key).seen back.seen took_late.took.seen) seen)
        took.took.right);
    late =
        subst (λ n. IsRight dir query history n late.turn) (back.number ∙ took.took.number ∙ is)
        (right_on dir query (shown late.key).seen history (shown middle).number late.turn seen took_late.took.right);
    own =
        ap (λ n. own_places n history) (sym (same_number ∙ is)) ∙ sym own ∙ took_late.took.mine
        ∙ ap (λ ps. ps ++ place_of late.turn.put) (back.mine ∙ took.took.mine ∙ ap (λ ps. ps ++ place_of early.turn.put) none);
  }

-- ---- the run

every_weaker : {X : Type 0} (P Q : X → Type 0) (xs : List X) → ((x : X) → P x → Q x) → Every P xs → Every Q xs
every_weaker P Q [] so every = tt
every_weaker P Q (x ∷ xs) so every = (so x every.0, every_weaker P Q xs so every.1)

of_two : (x a b : ℕ) → a ≡ 0 → b ≡ 1 → 0 < count x (a ∷ b ∷ []) → x < 2
of_two x a b is_a is_b some = grind (arith, nat_tests)

module _ (index : Home) (dir : List (List ℕ)) (query : ListQuery) (first second : Tasks) (key other giver taker : Pass) (early early_other late late_other : Left) (handed : Bool)
    (are : AreFresh 0 sizes (key ∷ other ∷ [])) (took : LaidDown index dir query first.early key early) (took_other : LaidDown index dir query second.early other early_other)
    (on : HandedOn index early.key early_other.key giver taker handed)
    (took_late : LaidDown index dir query first.late giver late) (took_late_other : LaidDown index dir query second.late taker late_other) where
  first_number : number_of late.key ≡ 0
  first_number =
      same_number index dir query [] first key giver early late took on.giver_back took_late ∙ ap (λ (v : PassView). v.number) are.0.shown_is

  second_number : number_of late_other.key ≡ 1
  second_number =
      same_number index dir query [] second other taker early_other late_other took_other on.taker_back took_late_other ∙ ap (λ (v : PassView). v.number) are.1.0.shown_is

  pub keys_back : AreAllKeys index (key ∷ other ∷ []) → AreAllKeys index (late.key ∷ late_other.key ∷ [])
  keys_back all =
      all_back index key other late.key late_other.key all took_late.of took_late_other.of
      (same_number index dir query [] first key giver early late took on.giver_back took_late)
      (same_number index dir query [] second other taker early_other late_other took_other on.taker_back took_late_other)

  pub run_is : (ran : Ran) → ran.first ≡ record { early = early.turn; late = late.turn } → ran.second ≡ record { early = early_other.turn; late = late_other.turn }
      → ran.handed ≡ handed → BeginsWithSeen (late.key ∷ late_other.key ∷ []) ran.history.items → AreMadeBy (late.key ∷ late_other.key ∷ []) ran.history.items
      → StandAtOwnPlaces (late.key ∷ late_other.key ∷ []) ran.history.items → IsRun dir query first second ran
  run_is ran first_is second_is handed_is begins by own = record {
    first_is =
        subst (IsThread dir query ran.history.items 0 first) (sym first_is)
        (thread_is index dir query ran.history.items first key giver early late took on.giver_back took_late 0 (ap (λ (v : PassView). v.number) are.0.shown_is)
        (ap (λ (v : PassView). v.mine) are.0.shown_is) begins.0 own.0);
    second_is =
        subst (IsThread dir query ran.history.items 1 second) (sym second_is)
        (thread_is index dir query ran.history.items second other taker early_other late_other took_other on.taker_back took_late_other 1
        (ap (λ (v : PassView). v.number) are.1.0.shown_is) (ap (λ (v : PassView). v.mine) are.1.0.shown_is) begins.1.0 own.1.0);
    only =
        every_weaker (λ (u : Update). 0 < count u.client (number_of late.key ∷ number_of late_other.key ∷ [])) (λ (u : Update). u.client < 2) ran.history.items
        (λ u some. of_two u.client (number_of late.key) (number_of late_other.key) first_number second_number some) by;
    early_made = (
      subst (λ (ts : Turns). IsOk ts.early.put) (sym first_is) (made early.turn.put (shown key) took.took.spent took.took.no_slot
          (omega (arith, left_first)) (omega (arith, nodes_first)) (omega (arith, entries_first))),
      subst (λ (ts : Turns). IsOk ts.early.put) (sym second_is) (made early_other.turn.put (shown other) took_other.took.spent took_other.took.no_slot
          (omega (arith, left_second)) (omega (arith, nodes_second)) (omega (arith, entries_second))),
    );
    first_made =
        subst (λ (ts : Turns). IsOk ts.late.put) (sym first_is) (made late.turn.put (shown giver) took_late.took.spent took_late.took.no_slot
        (omega (arith, left_first, took.took.left, on.giver_back.left)) (omega (arith, nodes_first, took.took.nodes, on.given, at_most_one handed))
        (omega (arith, entries_first, took.took.entries, on.giver_back.entries)));
    second_made = λ is.
        subst (λ (ts : Turns). IsOk ts.late.put) (sym second_is) (made late_other.turn.put (shown taker) took_late_other.took.spent took_late_other.took.no_slot
        (omega (arith, left_second, took_other.took.left, on.taker_back.left))
        (omega (arith, subst (λ (b : Bool). (shown taker).nodes ≡ (shown early_other.key).nodes + (if b then 1 else 0)) (sym handed_is ∙ is) on.taken))
        (omega (arith, entries_second, took_other.took.entries, on.taker_back.entries)));
  }
    where
      left_first : (shown key).left ≡ 2
      left_first = ap (λ (v : PassView). v.left) are.0.shown_is

      nodes_first : (shown key).nodes ≡ 3
      nodes_first = ap (λ (v : PassView). v.nodes) are.0.shown_is

      entries_first : (shown key).entries ≡ 8
      entries_first = ap (λ (v : PassView). v.entries) are.0.shown_is

      left_second : (shown other).left ≡ 2
      left_second = ap (λ (v : PassView). v.left) are.1.0.shown_is

      nodes_second : (shown other).nodes ≡ 1
      nodes_second = ap (λ (v : PassView). v.nodes) are.1.0.shown_is

      entries_second : (shown other).entries ≡ 8
      entries_second = ap (λ (v : PassView). v.entries) are.1.0.shown_is

      at_most_one : (b : Bool) → (if b then 1 else 0) ≤ 1
      at_most_one true = omega arith
      at_most_one false = omega arith

pub two_fresh : (keys : List Pass) → AreFresh 0 sizes keys → length keys ≡ 2
two_fresh [] are = absurd are
two_fresh (key ∷ []) are = absurd are.1
two_fresh (key ∷ other ∷ []) are = refl
two_fresh (key ∷ other ∷ more ∷ keys) are = absurd are.1.1

module _ (index : Home) (dir : List (List ℕ)) (query : ListQuery) (first second : Tasks) (key other : Pass) (ended : Ended)
    (took : BothTook index dir query first second key other ended) (are : AreFresh 0 sizes (key ∷ other ∷ [])) where
  pub ended_back : AreAllKeys index (key ∷ other ∷ []) → AreAllKeys index (ended.keys.0 ∷ ended.keys.1 ∷ [])
  ended_back all =
      keys_back index dir query first second key other took.giver took.taker (record { key = took.early; turn = ended.first.early })
      (record { key = took.early_other; turn = ended.second.early }) (record { key = ended.keys.0; turn = ended.first.late })
      (record { key = ended.keys.1; turn = ended.second.late }) ended.handed are took.took took.took_other took.on took.took_late took.took_late_other all

  pub ended_run : (ran : Ran) → ran.first ≡ ended.first → ran.second ≡ ended.second → ran.handed ≡ ended.handed
      → BeginsWithSeen (ended.keys.0 ∷ ended.keys.1 ∷ []) ran.history.items → AreMadeBy (ended.keys.0 ∷ ended.keys.1 ∷ []) ran.history.items
      → StandAtOwnPlaces (ended.keys.0 ∷ ended.keys.1 ∷ []) ran.history.items → IsRun dir query first second ran
  ended_run =
      run_is index dir query first second key other took.giver took.taker (record { key = took.early; turn = ended.first.early })
      (record { key = took.early_other; turn = ended.second.early }) (record { key = ended.keys.0; turn = ended.first.late })
      (record { key = ended.keys.1; turn = ended.second.late }) ended.handed are took.took took.took_other took.on took.took_late took.took_late_other
