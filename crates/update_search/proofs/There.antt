-- What the rule says of a view with no lock held: no update is under way. So a search may begin.
use Rattle.std.proofs.Common.{◌≡◌, ℕ, [], arith, ap, Some}
use Rattle.index_words.specs.declared.view.View.{View}
use Rattle.index_words.specs.Views.{no_update}
use Rattle.index_words.specs.Words.{Memory, memory}
use Rattle.key_map.specs.Lists.{IsItem}
use Rattle.core_grace.specs.Holds.{held_slots}
use Rattle.core_invariant.proofs.OneView.{seat_at}
use Rattle.table_rule.specs.Homes.{IsLiveView}
use Rattle.table_rule.specs.Running.{Stands}
use Rattle.table_rule.proofs.Lists.{item_at}
use Rattle.table_steps.specs.Passes.{Pass, Inside}
use Rattle.table_steps.specs.Stamps.{HasOpened}
use Rattle.update_search.specs.Searching.{IsAtTop}

module _ (v : View) (live : IsLiveView v) where
  abbrev s : Stands v.layout v
  s = live.stands

  abbrev m : Memory
  m = memory v.layout s.words

  at : IsItem s.views s.seat v
  at = item_at s.views s.seat v s.at

  pub idle_unlocked : v.held.nodes ≡ [] → v.update ≡ no_update
  idle_unlocked bare = (seat_at v.layout m s.views s.rule.meaning s.seat v at s.rule.rule).section.done bare

-- after the begin of its section, where a pass reads at a number, its search begins
pub opened_at_top : (p : Pass) (n : ℕ) (w : View) (own : ℕ) → HasOpened p 0 n w → Inside w → IsLiveView w → w.number ≡ Some own → IsAtTop w
opened_at_top p n w own opened inside live named = record {
  number = own;
  trying = record {
    working = record { live = live.live; own = named; inside = inside.odd };
    number = n;
    section = ap (λ (u : View). u.reading.section) opened.reads.view;
    least = ap (λ (u : View). u.reading.least) opened.reads.view;
    idle = idle_unlocked w live inside.unlocked;
    once = λ k. omega arith;
    locked = ap held_slots inside.unlocked;
    others = λ k some. absurd (omega (arith, some));
  };
  place = ap (λ (u : View). u.reading.place) opened.reads.view;
  turns = record { left = ap (λ (u : View). u.reading.left_turn) opened.reads.view; right = ap (λ (u : View). u.reading.right_turn) opened.reads.view };
  none = ap (λ (u : View). u.reading.links) opened.reads.view;
}
