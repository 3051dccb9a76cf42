-- What the steps leave as it was.
use Rattle.std.proofs.Common.{◌≡◌, ℕ, ◌+◌, ◌≤◌, Bool, true, false, cond, not, ◌&&◌, refl, ◌∙◌, sym, subst, ap, arith}
use Rattle.std.specs.Prelude.{◌==◌}
use Rattle.index_words.specs.declared.view.View.{View}
use Rattle.index_words.specs.declared.view.history.Counts.{Counts}
use Rattle.index_words.specs.declared.word.Field.TheVariants.{Key, Val}
use Rattle.core_grace.specs.Sections.{is_even}
use Rattle.core_events.specs.FillMoves.{filled_with, known_before, used_slots}
use Rattle.core_events.specs.LoadMoves.{raised_if, head_loaded, ts_loaded, meets_pending, has_moved, stored_by}
use Rattle.core_events.specs.LockMoves.{locked_view, met_lock, mark_loaded, pair_loaded, names_other, finds_mark}
use Rattle.core_events.specs.PlainMoves.{link_loaded, link_moved, tag_loaded, tag_moved}
use Rattle.plan_laws.specs.Frames.{KeepsTry, CountsGrow, StepsKeepLaw, KeepsPassLaw, KeepsTryLaw, KeepsOwnedLaw}
use Rattle.plan_laws.proofs.Tries.{locked-keeps, met-keeps, mark-keeps-pass, link-keeps-pass, tag-keeps-pass, head-keeps-pass, number-keeps-pass, key-keeps-pass, val-keeps-pass}
use Rattle.plan_laws.proofs.Tries.{fill-inside, filled-keeps-pass, filled-is}

risen-le : (b : Bool) (n : ℕ) → n ≤ raised_if b n
risen-le true n = by (n == 18446744073709551615)
  where
    by : (c : Bool) → n ≤ cond c n (n + 1)
    by true = omega arith
    by false = omega arith
risen-le false n = omega arith

pub same-counts : (v w : View) → w.counts ≡ v.counts → CountsGrow v w
same-counts v w same = record {
  busy = omega (arith, ap (λ (c : Counts). c.busy) same);
  waits = omega (arith, ap (λ (c : Counts). c.waits) same);
  moves = omega (arith, ap (λ (c : Counts). c.moves) same);
}

pub moves-grow : (v w : View) (b : Bool) → w.counts ≡ record v.counts { moves = raised_if b v.counts.moves } → CountsGrow v w
moves-grow v w b is = record {
  busy = omega (arith, ap (λ (c : Counts). c.busy) is);
  waits = omega (arith, ap (λ (c : Counts). c.waits) is);
  moves = omega (arith, ap (λ (c : Counts). c.moves) is, risen-le b v.counts.moves);
}

pub waits-grow : (v w : View) (b : Bool) → w.counts ≡ record v.counts { waits = raised_if b v.counts.waits } → CountsGrow v w
waits-grow v w b is = record {
  busy = omega (arith, ap (λ (c : Counts). c.busy) is);
  waits = omega (arith, ap (λ (c : Counts). c.waits) is, risen-le b v.counts.waits);
  moves = omega (arith, ap (λ (c : Counts). c.moves) is);
}

busy-grow : (v w : View) (b : Bool) → w.counts ≡ record v.counts { busy = raised_if b v.counts.busy } → CountsGrow v w
busy-grow v w b is = record {
  busy = omega (arith, ap (λ (c : Counts). c.busy) is, risen-le b v.counts.busy);
  waits = omega (arith, ap (λ (c : Counts). c.waits) is);
  moves = omega (arith, ap (λ (c : Counts). c.moves) is);
}

pub steps_keep : StepsKeepLaw
steps_keep v = record {
  locked = λ node. record { pass = locked-keeps v node; free = refl; grown = same-counts v (locked_view v node) refl };
  met = λ own found. record { pass = met-keeps v own found; free = refl; grown = busy-grow v (met_lock v own found) (names_other own found) refl };
  mark = λ node x. record { pass = mark-keeps-pass v node x; free = refl; grown = moves-grow v (mark_loaded v node x) (finds_mark v node x) refl };
  link = λ node x side. record { pass = link-keeps-pass v node x side; free = refl; grown = moves-grow v (link_loaded v node side x) (link_moved v node side x) refl };
  tag = λ node x side. record { pass = tag-keeps-pass v node x side; free = refl; grown = moves-grow v (tag_loaded v node side x) (tag_moved v node side x) refl };
  head = λ node entry number side. record {
    pass = head-keeps-pass v node entry number side;
    free = refl;
    grown = moves-grow v (head_loaded v node side entry number) (has_moved v.reading.links node side entry && not (stored_by v entry number)) refl;
  };
  number = λ entry x. record { pass = number-keeps-pass v entry x; free = refl; grown = waits-grow v (ts_loaded v entry x) (meets_pending v entry x) refl };
  key = λ node x. record { pass = key-keeps-pass v node x; free = refl; grown = same-counts v (pair_loaded v Key node x) refl };
  val = λ node x. record { pass = val-keeps-pass v node x; free = refl; grown = same-counts v (pair_loaded v Val node x) refl };
  filled = λ w x inside. subst (KeepsTry v) (sym (filled-is v w x (is_even v.section_word) inside))
      (record { pass = filled-keeps-pass v (used_slots w v.unused) (filled_with (known_before v w) w x); free = refl; grown = same-counts v (fill-inside v w x) refl });
  prepared = λ node entry side. record {
    layout = refl;
    joined = refl;
    number = refl;
    word = refl;
    announced = refl;
    history = refl;
    section = refl;
    opened = refl;
    least = refl;
    tree = refl;
    nodes = refl;
    retired = refl;
    batch = refl;
    raised = refl;
    taken = refl;
  };
}

pub keeps_pass : KeepsPassLaw
keeps_pass u v w a b = record {
  layout = b.layout ∙ a.layout;
  joined = b.joined ∙ a.joined;
  number = b.number ∙ a.number;
  word = b.word ∙ a.word;
  announced = b.announced ∙ a.announced;
  history = b.history ∙ a.history;
  section = b.section ∙ a.section;
  opened = b.opened ∙ a.opened;
  least = b.least ∙ a.least;
  tree = b.tree ∙ a.tree;
  nodes = b.nodes ∙ a.nodes;
  retired = b.retired ∙ a.retired;
  batch = b.batch ∙ a.batch;
  raised = b.raised ∙ a.raised;
  taken = b.taken ∙ a.taken;
}

pub keeps_owned : KeepsOwnedLaw
keeps_owned u v w a b = record {
  layout = b.layout ∙ a.layout;
  joined = b.joined ∙ a.joined;
  number = b.number ∙ a.number;
  history = b.history ∙ a.history;
  counts = b.counts ∙ a.counts;
  free = b.free ∙ a.free;
  retired = b.retired ∙ a.retired;
  batch = b.batch ∙ a.batch;
}

pub keeps_try : KeepsTryLaw
keeps_try u v w a b = record {
  pass = keeps_pass u v w a.pass b.pass;
  free = b.free ∙ a.free;
  grown = record {
    busy = omega (arith, a.grown.busy, b.grown.busy);
    waits = omega (arith, a.grown.waits, b.grown.waits);
    moves = omega (arith, a.grown.moves, b.grown.moves);
  };
}
