-- How an update that a try has made ends, with a wait or without one.
use Rattle.std.proofs.Common.{◌≡◌, ℕ, ◌+◌, ◌-◌, ◌<◌, List, length, arith, ap, sym, ◌∙◌, subst, Option, Some, None}
use Rattle.index_words.specs.declared.view.View.{View}
use Rattle.index_words.specs.declared.view.history.SeenHistory.{SeenHistory}
use Rattle.index_words.specs.declared.view.slots.Looks.{Looks}
use Rattle.index_words.specs.declared.view.slots.Slots.{Slots}
use Rattle.key_map.specs.declared.pass.Done.{Done}
use Rattle.key_map.specs.declared.update.Change.{Change}
use Rattle.key_map.specs.declared.update.Update.{Update}
use Rattle.key_map.specs.History.{after}
use Rattle.key_map.specs.Map.{map_has}
use Rattle.core_grace.specs.Batches.{looked_at}
use Rattle.core_events.specs.Waits.{looked_waiting}
use Rattle.plan_laws.specs.Answers.{owned_nodes, owned_entries}
use Rattle.plan_laws.specs.Frames.{KeepsOwned}
use Rattle.plan_laws.proofs.Parting.{look_parted}
use Rattle.pass_slots.specs.Owned.{KeepsLooks, Shown}
use Rattle.table_steps.specs.Passes.{AtRest}
use Rattle.update_try.specs.declared.parting.Parted.{Parted}
use Rattle.update_try.specs.Parting.{EndsAs, HasParted}
use Rattle.tree_update.specs.Calls.{MakesChange, MovesNodes}

-- an update without a wait has ended
pub at_once : (v : View) (n : ℕ) (parted : Option Parted) → parted ≡ None → EndsAs v n parted → AtRest v
at_once v n None is ends = ends
at_once v n (Some parted) is ends = cc

-- a look of the wait
module _ (v w : View) (other word : ℕ) (is : w ≡ looked_waiting v other word) where
  pub look_keeps : KeepsOwned v w
  look_keeps = record {
    layout = ap (λ (u : View). u.layout) is;
    joined = ap (λ (u : View). u.joined) is;
    number = ap (λ (u : View). u.number) is;
    history = ap (λ (u : View). u.history) is;
    counts = ap (λ (u : View). u.counts) is;
    free = ap (λ (u : View). u.free) is;
    retired = ap (λ (u : View). u.retired) is;
    batch = ap (λ (u : View). u.batch) is;
  }

  pub look_waits : (n m : ℕ) (parted : Parted) → m ≡ n → HasParted v n parted → ¬ (n ≡ other) → other < v.layout.passes → HasParted w m parted
  look_waits n m parted same h apart there =
      subst (λ (k : ℕ). HasParted w k parted) (sym same)
      (subst (λ (u : View). HasParted u n parted) (sym is)
      (record {
        parted = (look_parted v n parted.plan parted.tag other h.parted apart there).parted word;
        unannounced = h.unannounced;
      }))

  pub look_shown : (old new : Shown) → ((g : Looks) → KeepsLooks g old → KeepsLooks (looked_at g other word) new) → KeepsLooks v.update.waiting old
      → KeepsLooks w.update.waiting new
  look_shown old new looks keeps = subst (λ (u : View). KeepsLooks u.update.waiting new) (sym is) (looks v.update.waiting keeps)

-- what a wait keeps
module _ (u w : View) (keeps : KeepsOwned u w) where
  nodes_kept : owned_nodes w ≡ owned_nodes u
  nodes_kept =
      omega (arith, ap (λ (s : Slots). length s.nodes) keeps.free, ap (λ (s : Slots). length s.nodes) keeps.batch, ap (λ (s : Slots). length s.nodes) keeps.retired)

  entries_kept : owned_entries w ≡ owned_entries u
  entries_kept =
      omega (arith, ap (λ (s : Slots). length s.entries) keeps.free, ap (λ (s : Slots). length s.entries) keeps.batch, ap (λ (s : Slots). length s.entries) keeps.retired)

  -- an update that was made stays so
  pub made_kept : (v : View) (n line key : ℕ) (change : Change) (done : Done) → MakesChange v u n line key change done → MakesChange v w n line key change done
  made_kept v n line key change done made =
      let seen : w.history.seen ≡ u.history.seen = ap (λ (h : SeenHistory). h.seen) keeps.history in
      record {
        update = record {
          above = made.update.above;
          others = made.update.others;
          seen = seen ∙ made.update.seen;
          place = made.update.place ∙ ap (λ (us : List Update). length us) (sym seen);
          mine = ap (λ (h : SeenHistory). h.mine) keeps.history ∙ made.update.mine;
          left = ap (λ (h : SeenHistory). h.left + 1) keeps.history ∙ made.update.left;
          entries = omega (arith, made.update.entries, entries_kept);
          looks = omega (arith, made.update.looks, ap (λ (h : SeenHistory). h.looks) keeps.history);
        };
        was = subst (λ (us : List Update). done.was ≡ map_has key (after us (done.at - 1))) (sym seen) made.was;
        nodes = subst (λ (k : ℕ). MovesNodes change done.was (owned_nodes v) k) (sym nodes_kept) made.nodes;
      }
