-- The steps at which a pass finds a place: what the pass does before and after them.
use Rattle.std.proofs.Common.{◌≡◌, ℕ, ◌+◌, ◌≤◌, refl, ◌∙◌, subst, arith}
use Rattle.index_words.specs.declared.layout.Layout.{Layout}
use Rattle.index_words.specs.declared.view.View.{View}
use Rattle.index_words.specs.declared.word.Word.TheVariants.{Stamp}
use Rattle.key_map.specs.declared.update.Update.{Update}
use Rattle.core_events.specs.declared.event.Kind.TheVariants.{LoadStamp}
use Rattle.core_laws.specs.ViewNeeds.{event_at}
use Rattle.core_updates.specs.Held.{raise_of}
use Rattle.table_rule.specs.Running.{Happened}
use Rattle.table_steps.specs.Passes.{Pass, IsSamePass}
use Rattle.table_steps.specs.Raises.{raising, IsRaisedSince}
use Rattle.table_steps.specs.Stamps.{IsFoundSince}

pub raised_here : (p : Pass) (u : Update) (at found : ℕ) (w : View) → at ≡ found + 1 → Happened p.view.layout (raising p u) p.view found w → IsRaisedSince p u at w
raised_here p u at found w place event = record { before = p.view; found = found; behind = w; event = event; place = place; since = refl; last = refl }

-- steps before the raise, which make no update
pub raised_later : (p q : Pass) (u : Update) (at : ℕ) (w : View) → IsSamePass p q → q.view.history.mine ≡ p.view.history.mine → IsRaisedSince q u at w → IsRaisedSince p u at w
raised_later p q u at w same mine is = record {
  before = is.before;
  found = is.found;
  behind = is.behind;
  event =
      subst (λ (z : Layout). Happened z (raise_of z p.seat u) is.before is.found is.behind) same.layout
      (subst (λ s. Happened q.view.layout (raise_of q.view.layout s u) is.before is.found is.behind) same.seat is.event);
  place = is.place;
  since = is.since ∙ mine;
  last = is.last;
}

-- steps after it
pub raised_before : (p : Pass) (u : Update) (at : ℕ) (w x : View) → x.history.mine ≡ w.history.mine → IsRaisedSince p u at w → IsRaisedSince p u at x
raised_before p u at w x mine is = record {
  before = is.before;
  found = is.found;
  behind = is.behind;
  event = is.event;
  place = is.place;
  since = is.since;
  last = mine ∙ is.last;
}

-- steps before the load of the stamp
pub found_later : (p q : Pass) (n : ℕ) (w : View) → IsSamePass p q → p.view.history.looks ≤ q.view.history.looks → IsFoundSince q n w → IsFoundSince p n w
found_later p q n w same looks is = record {
  before = is.before;
  behind = is.behind;
  event =
      subst (λ (z : Layout). Happened z (event_at z p.seat LoadStamp Stamp 1) is.before n is.behind) same.layout
      (subst (λ s. Happened q.view.layout (event_at q.view.layout s LoadStamp Stamp 1) is.before n is.behind) same.seat is.event);
  since = omega (arith, looks, is.since);
  last = is.last;
}
