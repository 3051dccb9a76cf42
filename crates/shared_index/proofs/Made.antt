-- An update that was made on the table, and a key that was not found, to the caller of the index.
use Rattle.std.proofs.Common.{◌≡◌, ℕ, ◌+◌, ◌-◌, ◌^◌, ◌≤◌, [], ◌∷◌, ◌++◌, Bool, true, false, arith, ap, sym, ◌∙◌, Result, Ok, Err, None, IfOk, MatchBool}
use Rattle.std.specs.Prelude.{min}
use Rattle.std.proofs.lemmas.Bool.Decides.{nat_tests}
use Rattle.std.proofs.lemmas.List.{append_assoc}
use Rattle.key_map.specs.declared.update.Update.{Update}
use Rattle.key_map.specs.declared.update.Change.{Change}
use Rattle.key_map.specs.declared.update.Change.TheVariants.{Put, Remove}
use Rattle.key_map.specs.declared.pass.Done.{Done}
use Rattle.key_map.specs.declared.pass.New.{New}
use Rattle.key_map.specs.declared.pass.New.TheVariants.{Made as MadeNew, Kept}
use Rattle.key_map.specs.declared.pass.PassError.{PassError}
use Rattle.key_map.specs.History.{own_places}
use Rattle.core_events.specs.LoadMoves.{risen}
use Rattle.bucket_terms.specs.PassView.{MadeUpdate, MadePut, Inserted, Removed, LookedFor, AnsweredPutNew, AnsweredRemoval}
use Rattle.table_steps.specs.Passes.{Pass, IsSamePass}
use Rattle.tree_update.specs.declared.trying.Try.{Try}
use Rattle.tree_update.specs.declared.trying.Try.TheVariants.{Done as Made, Busy, Moved, Pending}
use Rattle.tree_update.specs.Calls.{MakesUpdate, MakesPut, MakesChange, Inserts, LooksFor, AnswersPutNew, AnswersRemoval}
use Rattle.tree_update.specs.Trying.{IfDone}
use Rattle.shared_index.specs.Shown.{shown}

-- a count that has not fallen, and one that has risen, as far as they are shown
shown_least : (a b : ℕ) → a ≤ b → min a (2 ^ 64 - 1) ≤ min b (2 ^ 64 - 1)
shown_least a b least = grind (arith, nat_tests)

shown_rose : (a b : ℕ) → risen a ≤ b → min (min a (2 ^ 64 - 1) + 1) (2 ^ 64 - 1) ≤ min b (2 ^ 64 - 1)
shown_rose a b rose = grind (arith, nat_tests)

module _ (p q : Pass) (same : IsSamePass p q) (own : q.view.history.mine ≡ own_places q.number q.view.history.seen) (closed : q.view.reading.opened ≡ None) where
  made_update : (line key at : ℕ) (change : Change) → MakesUpdate p.view q.view p.number line key change at → MadeUpdate (shown p) (shown q) line key change at
  made_update line key at change made =
      let one : Update = record { client = p.number; line = line; key = key; change = change } in
      record {
        continues = record {
          number = same.number;
          seen = (made.others ++ one ∷ [], made.seen ∙ append_assoc p.view.history.seen made.others (one ∷ []));
          mine = own;
          looks = shown_least p.view.history.looks q.view.history.looks made.looks;
        };
        above = made.above;
        others = made.others;
        seen = made.seen;
        place = made.place;
        mine = made.mine;
        left = made.left;
        entries = made.entries;
        closed = closed;
      }

  made_put : (line key val : ℕ) (done : Done) → MakesPut p.view q.view p.number line key val done → MadePut (shown p) (shown q) line key val done
  made_put line key val done made = record {
    update = made_update line key done.at (Put val) made.made.update;
    was = made.made.was;
    nodes = made.made.nodes;
    looks = ap (λ n. min n (2 ^ 64 - 1)) made.fixes.looks;
  }

  -- a put, if it was made
  pub put_shown : (answer : Result Done PassError) (line key val : ℕ) → IfOk answer (MakesPut p.view q.view p.number line key val)
      → IfOk answer (MadePut (shown p) (shown q) line key val)
  put_shown (Ok done) line key val made = made_put line key val done made
  put_shown (Err error) line key val made = tt

  tried_shown : (tried : Try) (line key val : ℕ) → IfDone tried (MakesPut p.view q.view p.number line key val) → IfDone tried (MadePut (shown p) (shown q) line key val)
  tried_shown (Made done) line key val made = made_put line key val done made
  tried_shown Busy line key val made = tt
  tried_shown Moved line key val made = tt
  tried_shown Pending line key val made = tt

  -- the same if it was tried once
  pub try_shown : (answer : Result Try PassError) (line key val : ℕ) → IfOk answer (λ tried. IfDone tried (MakesPut p.view q.view p.number line key val))
      → IfOk answer (λ tried. IfDone tried (MadePut (shown p) (shown q) line key val))
  try_shown (Ok tried) line key val made = tried_shown tried line key val made
  try_shown (Err error) line key val made = tt

  -- a look in a snapshot of the call's own
  looked_for : (key : ℕ) (there : Bool) (at : ℕ) → LooksFor p.view q.view key there at → LookedFor (shown p) (shown q) key there at
  looked_for key there at is = record {
    looked = record {
      continues = record {
        number = same.number;
        seen = is.goes.seen;
        mine = own;
        looks = shown_least p.view.history.looks q.view.history.looks is.goes.looks;
      };
      found = is.found;
      place = is.place;
      mine = is.goes.mine;
      left = is.goes.left;
      nodes = is.goes.nodes;
      entries = is.goes.entries;
    };
    looks = shown_rose p.view.history.looks q.view.history.looks is.looks;
    tells = is.tells;
    closed = closed;
  }

  removal_by : (was : Bool) (line key : ℕ) (done : Done) → MatchBool was (MakesChange p.view q.view p.number line key Remove done) (LooksFor p.view q.view key false done.at)
      → MatchBool was (Removed (shown p) (shown q) line key done) (LookedFor (shown p) (shown q) key false done.at)
  removal_by true line key done made = record {
    update = made_update line key done.at Remove made.update;
    there = sym made.was ∙ made.nodes.0;
    nodes = made.nodes.1;
  }
  removal_by false line key done absent = looked_for key false done.at absent

  -- a removal, if it was answered
  pub removal_shown : (answer : Result Done PassError) (line key : ℕ) → IfOk answer (AnswersRemoval p.view q.view p.number line key)
      → IfOk answer (AnsweredRemoval (shown p) (shown q) line key)
  removal_shown (Ok done) line key answered = removal_by done.was line key done answered
  removal_shown (Err error) line key answered = tt

  inserted : (line key val at : ℕ) → Inserts p.view q.view p.number line key val at → Inserted (shown p) (shown q) line key val at
  inserted line key val at made = record { update = made_update line key at (Put val) made.update; absent = sym made.was; nodes = made.nodes }

  new_by : (line key val : ℕ) (answer : New) → AnswersPutNew p.view q.view p.number line key val answer → AnsweredPutNew (shown p) (shown q) line key val answer
  new_by line key val (MadeNew at) made = inserted line key val at made
  new_by line key val (Kept at) found = looked_for key true at found

  -- a put that is made only if its key is not there, if it was answered
  pub new_shown : (answer : Result New PassError) (line key val : ℕ) → IfOk answer (AnswersPutNew p.view q.view p.number line key val)
      → IfOk answer (AnsweredPutNew (shown p) (shown q) line key val)
  new_shown (Ok new) line key val answered = new_by line key val new answered
  new_shown (Err error) line key val answered = tt
