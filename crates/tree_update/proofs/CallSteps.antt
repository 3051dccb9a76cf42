-- From the begin of a call to its end: what each of its parts leaves of the pass's history and slots.
use Rattle.std.proofs.Common.{◌≡◌, ℕ, ◌+◌, ◌≤◌, Bool, List, [], ◌∷◌, ◌++◌, length, arith, refl, ap, sym, ◌∙◌, subst}
use Rattle.std.proofs.lemmas.Bool.Decides.{nat_tests}
use Rattle.std.proofs.lemmas.List.{length-append, append_assoc, append-nil}
use Rattle.index_words.specs.declared.view.View.{View}
use Rattle.index_words.specs.declared.view.history.SeenHistory.{SeenHistory}
use Rattle.index_words.specs.declared.view.slots.Slots.{Slots}
use Rattle.key_map.specs.declared.update.Update.{Update}
use Rattle.key_map.specs.declared.update.Change.{Change}
use Rattle.key_map.specs.declared.pass.Done.{Done}
use Rattle.core_events.specs.Announcing.{ann_loaded}
use Rattle.core_events.specs.LoadMoves.{risen}
use Rattle.plan_laws.specs.Answers.{owned_nodes, owned_entries}
use Rattle.plan_laws.specs.Frames.{KeepsTry}
use Rattle.table_steps.specs.Passes.{Pass, Extends}
use Rattle.table_steps.specs.Stamps.{outside_again, HasOpened}
use Rattle.table_steps.proofs.ReadSections.{opened_extends, within_history}
use Rattle.bundle_reads.specs.Reads.{HasRead}
use Rattle.snapshot_read.proofs.Begins.{Owned, owned, entered_owned}
use Rattle.tree_update.specs.Calls.{GoesOn, FixesNone, StaysOn, MakesChange, MovesNodes, LooksFor, HasNotLooked}
use Rattle.update_try.specs.Outcomes.{KeepsAll}
use Rattle.tree_update.specs.Settles.{KeepsAllElse, KeepsSlotCounts}

-- one part after another
pub extends_more : (us vs ws : List Update) → Extends us vs → Extends vs ws → Extends us ws
extends_more us vs ws one two = (one.0 ++ two.0, two.1 ∙ ap (λ (xs : List Update). xs ++ two.0) one.1 ∙ append_assoc us one.0 two.0)

pub goes_more : (u v w : View) → GoesOn u v → GoesOn v w → GoesOn u w
goes_more u v w one two = record {
  seen = extends_more u.history.seen v.history.seen w.history.seen one.seen two.seen;
  mine = two.mine ∙ one.mine;
  left = two.left ∙ one.left;
  nodes = two.nodes ∙ one.nodes;
  entries = two.entries ∙ one.entries;
  looks = omega (arith, one.looks, two.looks);
}

pub fixes_more : (u v w : View) → FixesNone u v → FixesNone v w → FixesNone u w
fixes_more u v w one two = record { looks = two.looks ∙ one.looks; found = two.found ∙ one.found }

pub stays_more : (u v w : View) → StaysOn u v → StaysOn v w → StaysOn u w
stays_more u v w one two = record { goes = goes_more u v w one.goes two.goes; fixes = fixes_more u v w one.fixes two.fixes }

pub unlooked_more : (u v w : View) → HasNotLooked u v → HasNotLooked v w → HasNotLooked u w
unlooked_more u v w one two = record { fixes = fixes_more u v w one.fixes two.fixes; waits = two.waits ∙ one.waits }

made_seen : (us vs others : List Update) (x : Update) (more : Extends us vs) → (vs ++ others) ++ x ∷ [] ≡ (us ++ (more.0 ++ others)) ++ x ∷ []
made_seen us vs others x more = ap (λ (xs : List Update). xs ++ x ∷ []) (ap (λ (xs : List Update). xs ++ others) more.1 ∙ append_assoc us more.0 others)

pub made_more : (u v w : View) (n line key : ℕ) (change : Change) (done : Done) → GoesOn u v → MakesChange v w n line key change done → MakesChange u w n line key change done
made_more u v w n line key change done on made = record {
  update = record {
    above = omega (arith, made.update.above, ap (λ (xs : List Update). length xs) on.seen.1, length-append u.history.seen on.seen.0);
    others = on.seen.0 ++ made.update.others;
    seen = made.update.seen ∙ made_seen u.history.seen v.history.seen made.update.others (record { client = n; line = line; key = key; change = change }) on.seen;
    place = made.update.place;
    mine = made.update.mine ∙ ap (λ (xs : List ℕ). xs ++ done.at ∷ []) on.mine;
    left = made.update.left ∙ on.left;
    entries = omega (arith, made.update.entries, on.entries);
    looks = omega (arith, made.update.looks, on.looks);
  };
  was = made.was;
  nodes = subst (λ (k : ℕ). MovesNodes change done.was k (owned_nodes w)) on.nodes made.nodes;
}

risen_more : (a b c : ℕ) → a ≤ b → risen b ≤ c → risen a ≤ c
risen_more a b c le up = grind (arith, nat_tests)

pub looked_more : (u v w : View) (key : ℕ) (there : Bool) (at : ℕ) → GoesOn u v → LooksFor v w key there at → LooksFor u w key there at
looked_more u v w key there at on found = record {
  goes = goes_more u v w on found.goes;
  found = found.found;
  place = found.place;
  looks = risen_more u.history.looks v.history.looks w.history.looks on.looks found.looks;
  tells = found.tells;
}

-- where the history is as it was, and the slots are, or are as many
counted_stays : (v w : View) → w.history ≡ v.history → owned_nodes w ≡ owned_nodes v → owned_entries w ≡ owned_entries v → StaysOn v w
counted_stays v w history nodes entries = record {
  goes = record {
    seen = ([], ap (λ (h : SeenHistory). h.seen) history ∙ sym (append-nil v.history.seen));
    mine = ap (λ (h : SeenHistory). h.mine) history;
    left = ap (λ (h : SeenHistory). h.left) history;
    nodes = nodes;
    entries = entries;
    looks = omega (arith, ap (λ (h : SeenHistory). h.looks) history);
  };
  fixes = record { looks = ap (λ (h : SeenHistory). h.looks) history; found = ap (λ (h : SeenHistory). h.found) history };
}

pub same_stays : (v w : View) → w.history ≡ v.history → w.free ≡ v.free → w.batch ≡ v.batch → w.retired ≡ v.retired → StaysOn v w
same_stays v w history free batch retired =
    counted_stays v w history
    (omega (arith, ap (λ (s : Slots). length s.nodes) free, ap (λ (s : Slots). length s.nodes) batch, ap (λ (s : Slots). length s.nodes) retired))
    (omega (arith, ap (λ (s : Slots). length s.entries) free, ap (λ (s : Slots). length s.entries) batch, ap (λ (s : Slots). length s.entries) retired))

pub stays_nothing : (v : View) → StaysOn v v
stays_nothing v = same_stays v v refl refl refl refl

pub unlooked_nothing : (v : View) → HasNotLooked v v
unlooked_nothing v = record { fixes = (stays_nothing v).fixes; waits = refl }

pub read_stays : (v w : View) → HasRead v w → StaysOn v w
read_stays v w read =
    same_stays v w (ap (λ (u : View). u.history) read.view) (ap (λ (u : View). u.free) read.view) (ap (λ (u : View). u.batch) read.view) (ap (λ (u : View). u.retired) read.view)

pub left_stays : (v w : View) → w ≡ outside_again v → StaysOn v w
left_stays v w is =
    same_stays v w (ap (λ (u : View). u.history) is) (ap (λ (u : View). u.free) is) (ap (λ (u : View). u.batch) is) (ap (λ (u : View). u.retired) is)

pub kept_stays : (v w : View) → KeepsAll v w → StaysOn v w
kept_stays v w keeps = same_stays v w keeps.history keeps.free keeps.batch keeps.retired

pub settle_stays : (v w : View) → KeepsAllElse v w → KeepsSlotCounts v w → StaysOn v w
settle_stays v w keeps slots =
    counted_stays v w (ap (λ (u : View). u.history) keeps) (omega (arith, slots.nodes)) (omega (arith, slots.entries))

-- an enter keeps what the pass owns, and so do the loads of the stamp
pub opened_stays : (p : Pass) (w : View) (n : ℕ) → HasOpened p 0 n w → StaysOn p.view w
opened_stays p w n opened =
    let v = p.view in
    let history = within_history v in
    let owns : owned w ≡ owned v = ap owned opened.reads.view ∙ entered_owned v.layout.passes (v.section_word + 1) v in
    let nodes : (owned w).nodes ≡ (owned v).nodes = ap (λ (o : Owned). o.nodes) owns in
    let entries : (owned w).entries ≡ (owned v).entries = ap (λ (o : Owned). o.entries) owns in
    let looks : w.history.looks ≡ v.history.looks = ap (λ (u : View). u.history.looks) opened.reads.view ∙ ap (λ (h : SeenHistory). h.looks) history in
    record {
      goes = record {
        seen = opened_extends p 0 n w opened;
        mine = ap (λ (u : View). u.history.mine) opened.reads.view ∙ ap (λ (h : SeenHistory). h.mine) history;
        left = ap (λ (u : View). u.history.left) opened.reads.view ∙ ap (λ (h : SeenHistory). h.left) history;
        nodes = omega (arith, nodes);
        entries = omega (arith, entries);
        looks = omega (arith, looks);
      };
      fixes = record {
        looks = looks;
        found = ap (λ (u : View). u.history.found) opened.reads.view ∙ ap (λ (h : SeenHistory). h.found) history;
      };
    }

-- so does a search
pub search_stays : (p : Pass) (b w : View) (n : ℕ) → HasOpened p 0 n b → KeepsTry b w → StaysOn p.view w
search_stays p b w n opened keeps =
    stays_more p.view b w (opened_stays p b n opened) (same_stays b w keeps.pass.history keeps.free keeps.pass.batch keeps.pass.retired)

-- and a look at what another pass has announced
pub announced_stays : (v w : View) (other word : ℕ) → w ≡ ann_loaded v other word → StaysOn v w
announced_stays v w other word is =
    same_stays v w (ap (λ (u : View). u.history) is) (ap (λ (u : View). u.free) is) (ap (λ (u : View). u.batch) is) (ap (λ (u : View). u.retired) is)
