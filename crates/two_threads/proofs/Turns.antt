-- The answers of a turn, by the calls that gave them; and that they stay right when the history goes on.
use Rattle.std.proofs.Common.{◌≡◌, ℕ, Bool, true, false, if◌then◌else◌, ◌+◌, ◌-◌, ◌≤◌, ◌↔◌, List, [], ◌∷◌, ◌++◌, length, Option, Some, None, Result, Ok, Err, refl, sym, ap, ◌∙◌, subst, arith}
use Rattle.std.specs.List.{slice_get}
use Rattle.std.specs.Prelude.{IfOk, OnErr, IsErrOf}
use Rattle.std.proofs.lemmas.List.{append-nil, length_push}
use Rattle.std.proofs.lemmas.Option.{slice_get_within}
use Rattle.key_map.specs.declared.update.Update.{Update}
use Rattle.key_map.specs.declared.update.Change.TheVariants.{Put}
use Rattle.key_map.specs.declared.pass.Done.{Done}
use Rattle.key_map.specs.declared.pass.PassError.{PassError}
use Rattle.key_map.specs.declared.pass.PassError.TheVariants.{NoSlot, Spent}
use Rattle.key_map.specs.Map.{map_has, map_get, first_from, value_at}
use Rattle.key_map.specs.History.{after}
use Rattle.key_map.proofs.HistoryLaws.{after-append, IsMap-after}
use Rattle.key_map.proofs.MapLaws.{map_get-first_from}
use Rattle.bucket_terms.specs.declared.list_query.ListQuery.{ListQuery}
use Rattle.bucket_terms.specs.declared.page.Page.{Page}
use Rattle.bucket_terms.specs.Listing.{page_of}
use Rattle.bucket_terms.specs.PassView.{PassView, Extends, MadePut, Began, IsOutOfSlots}
use Rattle.client_run.specs.Listing.{ListedAt, LookedOnly}
use Rattle.client_run.proofs.TradedAnswers.{extends_on, extends_same, extends_length}
use Rattle.client_run.proofs.Places.{slice_get-append_front, slice_get-append_back}
use Rattle.two_threads.specs.declared.turn.Task.{Task}
use Rattle.two_threads.specs.declared.turn.Turn.{Turn}
use Rattle.two_threads.specs.Turns.{StandsAt, IsRight, TookTurn, place_of}

-- ---- lists and results

-- the updates that another list begins with stand in it where they did
extends_get : (seen history : List Update) (i : ℕ) (u : Update) → Extends seen history → slice_get seen i ≡ Some u → slice_get history i ≡ Some u
extends_get seen history i u (more, is) here =
    ap (λ us. slice_get us i) is ∙ slice_get-append_front seen more i (slice_get_within seen i u here) ∙ here

-- a list of updates and one that begins with them give the same maps at the places of the first
extends_after : (seen history : List Update) (t : ℕ) → Extends seen history → t ≤ length seen → after history t ≡ after seen t
extends_after seen history t (more, is) le = ap (λ us. after us t) is ∙ after-append seen more t le

if_ok : (r : Result Done PassError) (P Q : Done → Type 0) → IfOk r P → ((done : Done) → P done → Q done) → IfOk r Q
if_ok (Ok done) P Q holds so = so done holds
if_ok (Err e) P Q holds so = tt

-- ---- a turn stays right

stands_on : (seen history : List Update) (thread : ℕ) (task : Task) (done : Done) → Extends seen history → StandsAt seen thread task done → StandsAt history thread task done
stands_on seen history thread task done extends stands = record {
  some = stands.some;
  update = extends_get seen history (done.at - 1) put extends stands.update;
  was = stands.was ∙ ap (map_has task.puts) (sym (extends_after seen history (done.at - 1) extends below));
}
  where
    put : Update
    put = record { client = thread; line = task.line; key = task.puts; change = Put task.val }

    below : done.at - 1 ≤ length seen
    below = let within = slice_get_within seen (done.at - 1) put stands.update in omega (arith, within)

pub right_on : (dir : List (List ℕ)) (query : ListQuery) (seen history : List Update) (thread : ℕ) (turn : Turn) → Extends seen history
    → IsRight dir query seen thread turn → IsRight dir query history thread turn
right_on dir query seen history thread turn extends right = record {
  put = if_ok turn.put (StandsAt seen thread turn.task) (StandsAt history thread turn.task) right.put (λ done. stands_on seen history thread turn.task done extends);
  sees_own = right.sees_own;
  found = right.found ∙ ap (map_get turn.task.looks_up) (sym (extends_after seen history turn.looked_at extends (omega (arith, right.rising, right.within))));
  rising = right.rising;
  page = right.page ∙ ap (page_of dir query None) (sym (extends_after seen history turn.listed_at extends right.within));
  within = omega (arith, right.within, extends_length seen history extends);
}

-- ---- a put

-- the put is the last update that the pass has seen
put_stands : (old new : PassView) (task : Task) (done : Done) → MadePut old new task.line task.puts task.val done → StandsAt new.seen old.number task done
put_stands old new task done made = record {
  some = omega (arith, made.update.above);
  update =
      ap (λ us. slice_get us (done.at - 1)) made.update.seen
      ∙ slice_get-append_back (old.seen ++ made.update.others) (put ∷ []) (done.at - 1) (omega (arith, last))
      ∙ ap (λ n. slice_get (put ∷ []) n) first;
  was = made.was;
}
  where
    put : Update
    put = record { client = old.number; line = task.line; key = task.puts; change = Put task.val }

    last : done.at - 1 ≡ length (old.seen ++ made.update.others)
    last = omega (arith, made.update.place, ap length made.update.seen, length_push (old.seen ++ made.update.others) put)

    first : done.at - 1 - length (old.seen ++ made.update.others) ≡ 0
    first = omega (arith, last)

-- what a pass is after a put, whether it was made or not
record AfterPut (old new : PassView) (task : Task) (put : Result Done PassError) : Type 0 where
  stands : IfOk put (StandsAt new.seen old.number task)
  place : IfOk put (λ done. done.at ≡ length new.seen)
  number : new.number ≡ old.number
  seen : Extends old.seen new.seen
  mine : new.mine ≡ old.mine ++ place_of put
  left : old.left ≤ new.left + 1
  nodes : old.nodes ≤ new.nodes + 1
  entries : old.entries ≤ new.entries + 4

after_put : (old new : PassView) (task : Task) (put : Result Done PassError) → IfOk put (MadePut old new task.line task.puts task.val)
    → OnErr put (new ≡ old) → AfterPut old new task put
after_put old new task (Ok done) made unchanged = record {
  stands = put_stands old new task done made;
  place = made.update.place;
  number = made.update.continues.number;
  seen = made.update.continues.seen;
  mine = made.update.mine;
  left = omega (arith, made.update.left);
  nodes = some_nodes done.was made.nodes;
  entries = made.update.entries;
}
  where
    some_nodes : (was : Bool) → new.nodes + (if was then 0 else 1) ≡ old.nodes → old.nodes ≤ new.nodes + 1
    some_nodes true is = omega (arith, is)
    some_nodes false is = omega (arith, is)
after_put old new task (Err e) made unchanged = record {
  stands = tt;
  place = tt;
  number = ap (λ (v : PassView). v.number) unchanged;
  seen = subst (λ (v : PassView). Extends old.seen v.seen) (sym unchanged) (extends_same old.seen);
  mine = ap (λ (v : PassView). v.mine) unchanged ∙ sym (append-nil old.mine);
  left = subst (λ (v : PassView). old.left ≤ v.left + 1) (sym unchanged) (omega arith);
  nodes = subst (λ (v : PassView). old.nodes ≤ v.nodes + 1) (sym unchanged) (omega arith);
  entries = subst (λ (v : PassView). old.entries ≤ v.entries + 4) (sym unchanged) (omega arith);
}

-- ---- a turn

-- the view after a look-up whose snapshot is closed
abbrev closed_view : PassView → PassView
closed_view v = record v { opened = None }

pub took : (dir : List (List ℕ)) (query : ListQuery) (task : Task) (old made begun looked closed new : PassView) (put : Result Done PassError) (looked_at : ℕ)
    (found : Option ℕ) (listed_at : ℕ) (page : Page)
    → IfOk put (MadePut old made task.line task.puts task.val) → OnErr put (made ≡ old)
    → (IsErrOf put Spent ↔ (old.left ≡ 0)) → (IsErrOf put NoSlot ↔ IsOutOfSlots old)
    → Began made begun looked_at → looked ≡ begun → found ≡ value_at task.looks_up (first_from task.looks_up (after begun.seen looked_at))
    → closed ≡ closed_view looked → ListedAt dir query None closed new listed_at page → LookedOnly closed new
    → TookTurn dir query task old new (record { task = task; put = put; looked_at = looked_at; found = found; listed_at = listed_at; page = page })
took dir query task old made begun looked closed new put looked_at found listed_at page if_made unchanged spent no_slot began same value ended listed only = record {
  task_is = refl;
  right = record {
    put = if_ok put (StandsAt made.seen old.number task) (StandsAt new.seen old.number task) after_it.stands (λ done. stands_on made.seen new.seen old.number task done all);
    sees_own = if_ok put (λ done. done.at ≡ length made.seen) (λ done. done.at ≤ looked_at) after_it.place
        (λ done is. omega (arith, is, extends_length made.seen begun.seen began.looked.continues.seen, began.looked.place));
    found =
        value ∙ sym (map_get-first_from task.looks_up 0 (after begun.seen looked_at) (IsMap-after begun.seen looked_at))
        ∙ ap (map_get task.looks_up) (sym (extends_after begun.seen new.seen looked_at later (omega (arith, began.looked.place))));
    rising = omega (arith, began.looked.place, extends_length begun.seen new.seen later, listed.looked.place);
    page = listed.is_page;
    within = omega (arith, listed.looked.place);
  };
  number = only.number ∙ ap (λ (v : PassView). v.number) is ∙ began.looked.continues.number ∙ after_it.number;
  seen = extends_on old.seen made.seen new.seen after_it.seen all;
  mine = only.mine ∙ ap (λ (v : PassView). v.mine) is ∙ began.looked.mine ∙ after_it.mine;
  closed = only.closed;
  spent = spent;
  no_slot = no_slot;
  left = omega (arith, only.left, ap (λ (v : PassView). v.left) is, began.looked.left, after_it.left);
  nodes = omega (arith, only.nodes, ap (λ (v : PassView). v.nodes) is, began.looked.nodes, after_it.nodes);
  entries = omega (arith, only.entries, ap (λ (v : PassView). v.entries) is, began.looked.entries, after_it.entries);
}
  where
    after_it : AfterPut old made task put
    after_it = after_put old made task put if_made unchanged

    is : closed ≡ closed_view begun
    is = ended ∙ ap closed_view same

    later : Extends begun.seen new.seen
    later = subst (λ us. Extends us new.seen) (ap (λ (v : PassView). v.seen) is) only.seen

    all : Extends made.seen new.seen
    all = extends_on made.seen begun.seen new.seen began.looked.continues.seen later
