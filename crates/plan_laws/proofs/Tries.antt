-- A try locks nodes that it has searched, and fills its slots.
use Rattle.std.proofs.Common.{◌≡◌, ℕ, zero, suc, ◌+◌, ◌<◌, ◌≤◌, ◌⊎◌, inl, inr, List, [], ◌∷◌, ◌++◌, length, Bool, true, false, not, cond, eqb, refl, ap, sym}
use Rattle.std.proofs.Common.{◌∙◌, subst, arith, Option, Some, None}
use Rattle.std.specs.Prelude.{◌==◌, IfSome}
use Rattle.std.proofs.lemmas.Bool.Decides.{nat_tests}
use Rattle.std.proofs.lemmas.Bool.{eqb-true}
use Rattle.index_words.specs.declared.side.Side.{Side}
use Rattle.index_words.specs.declared.view.View.{View}
use Rattle.index_words.specs.declared.view.reading.Place.{Place}
use Rattle.index_words.specs.declared.view.reading.Place.TheVariants.{Nowhere, Entry as AtEntry, Node as AtNode, Gap}
use Rattle.index_words.specs.declared.view.reading.Reading.{Reading}
use Rattle.index_words.specs.declared.view.slots.Slots.{Slots}
use Rattle.index_words.specs.declared.view.update.HeldNode.{HeldNode}
use Rattle.index_words.specs.declared.view.update.Updating.{Updating}
use Rattle.index_words.specs.declared.word.Field.TheVariants.{Key, Val}
use Rattle.index_words.specs.Views.{no_update}
use Rattle.index_words.specs.declared.view.reading.Filled.{Filled}
use Rattle.index_words.specs.declared.word.Word.{Word}
use Rattle.index_words.specs.declared.word.Word.TheVariants.{Node, Entry}
use Rattle.index_words.specs.Words.{same_word}
use Rattle.key_map.specs.Lists.{count, Every}
use Rattle.key_map.proofs.Counting.{count-append}
use Rattle.core_trees.specs.declared.link.Link.{Link}
use Rattle.core_grace.specs.Holds.{held_slots}
use Rattle.core_grace.specs.Sections.{is_even}
use Rattle.core_events.specs.LoadMoves.{head_loaded, ts_loaded, next_at, found_at, node_known}
use Rattle.core_events.specs.LockMoves.{locked_view, met_lock, mark_loaded, pair_loaded, just_locked, mark_known, pair_known, other_nodes}
use Rattle.core_events.specs.PlainMoves.{link_loaded, tag_loaded, link_known_at, tag_known_at}
use Rattle.core_events.specs.FillMoves.{filled_other, filled_with, with_filled, known_before, zeros_of, used_view}
use Rattle.core_invariant.proofs.Owned.{free_entry_some, free_node_alone}
use Rattle.core_invariant.proofs.Frames.{every_map}
use Rattle.core_laws.proofs.ViewNeeds.{may_lock_law}
use Rattle.core_laws.specs.ViewNeeds.{MayFill}
use Rattle.core_laws.proofs.ViewTests.{not_of}
use Rattle.core_updates.specs.declared.plan.Heads.{Heads}
use Rattle.core_updates.specs.declared.plan.Plan.{Plan}
use Rattle.core_updates.specs.PlanEvents.{HasSlots, HoldsNumbered}
use Rattle.core_updates.specs.PlanReady.{HoldsFill, HoldsLook}
use Rattle.core_updates.specs.Plans.{link_at, locks_of, looks_of, next_link_of}
use Rattle.plan_laws.specs.Frames.{KeepsPass}
use Rattle.plan_laws.specs.Tries.{KeepsTrying, LockStepLaw, LoadsKeepLaw, LastUnlockLaw}
use Rattle.plan_laws.proofs.HeldMaps.{mark-node, found-node, key-node, val-node, link-node, tag-node}
use Rattle.plan_laws.proofs.Items.{map-append, item-filter, item-longer, last-item}
use Rattle.plan_laws.proofs.Kept.{slots-kept, same-at, links-kept, look-kept, numbered-kept, same-held, same-links}
use Rattle.plan_laws.specs.Fills.{filled_all, fills_of, HasHeads, FillLaw, MayFillOnLaw}
use Rattle.plan_laws.specs.Slots.{SlotsSomeLaw}
use Rattle.plan_laws.proofs.FillWords.{AllApart, WordApart, fills-apart, fills-may}
use Rattle.plan_laws.proofs.Looks.{id-keeps}

-- the seat reads at the same number, and the same tree
pub record ReadsAs (r s : Reading) : Type 0 where
  pub section : s.section ≡ r.section
  pub opened : s.opened ≡ r.opened
  pub least : s.least ≡ r.least
  pub tree : s.tree ≡ r.tree

-- where only locks, counts and the slots that were never used have changed besides, the rest is kept
pub read-as : (v w : View) → w ≡ record v { reading = w.reading; held = w.held; counts = w.counts; unused = w.unused } → ReadsAs v.reading w.reading
    → KeepsPass v w
read-as v w is reads = record {
  layout = ap (λ (u : View). u.layout) is;
  joined = ap (λ (u : View). u.joined) is;
  number = ap (λ (u : View). u.number) is;
  word = ap (λ (u : View). u.section_word) is;
  announced = ap (λ (u : View). u.announced) is;
  history = ap (λ (u : View). u.history) is;
  section = reads.section;
  opened = reads.opened;
  least = reads.least;
  tree = reads.tree;
  nodes = ap (λ (u : View). u.free.nodes) is;
  retired = ap (λ (u : View). u.retired) is;
  batch = ap (λ (u : View). u.batch) is;
  raised = ap (λ (u : View). u.update.raised) is;
  taken = ap (λ (u : View). u.update.taken) is;
}

-- the views after the steps
module _ (v : View) where
  pub locked-keeps : (k : ℕ) → KeepsPass v (locked_view v k)
  locked-keeps k = read-as v (locked_view v k) refl (record { section = refl; opened = refl; least = refl; tree = refl })

  pub met-keeps : (own found : ℕ) → KeepsPass v (met_lock v own found)
  met-keeps own found = read-as v (met_lock v own found) refl (record { section = refl; opened = refl; least = refl; tree = refl })

  pub mark-keeps-pass : (k x : ℕ) → KeepsPass v (mark_loaded v k x)
  mark-keeps-pass k x = read-as v (mark_loaded v k x) refl (record { section = refl; opened = refl; least = refl; tree = refl })

  pub link-keeps-pass : (k x : ℕ) (side : Side) → KeepsPass v (link_loaded v k side x)
  link-keeps-pass k x side = read-as v (link_loaded v k side x) refl (record { section = refl; opened = refl; least = refl; tree = refl })

  pub tag-keeps-pass : (k x : ℕ) (side : Side) → KeepsPass v (tag_loaded v k side x)
  tag-keeps-pass k x side = read-as v (tag_loaded v k side x) refl (record { section = refl; opened = refl; least = refl; tree = refl })

  pub head-keeps-pass : (k e number : ℕ) (side : Side) → KeepsPass v (head_loaded v k side e number)
  head-keeps-pass k e number side = read-as v (head_loaded v k side e number) refl (record { section = refl; opened = refl; least = refl; tree = refl })

  pub number-keeps-pass : (e x : ℕ) → KeepsPass v (ts_loaded v e x)
  number-keeps-pass e x = read-as v (ts_loaded v e x) refl (record { section = refl; opened = refl; least = refl; tree = refl })

  pub key-keeps-pass : (k x : ℕ) → KeepsPass v (pair_loaded v Key k x)
  key-keeps-pass k x = read-as v (pair_loaded v Key k x) refl (record { section = refl; opened = refl; least = refl; tree = refl })

  pub val-keeps-pass : (k x : ℕ) → KeepsPass v (pair_loaded v Val k x)
  val-keeps-pass k x = read-as v (pair_loaded v Val k x) refl (record { section = refl; opened = refl; least = refl; tree = refl })

  pub next-keeps-pass : (e next : ℕ) (p : Place) → KeepsPass v (next_at v p e next)
  next-keeps-pass e next (AtEntry node side entry found) = read-as v (next_at v (AtEntry node side entry found) e next) refl
      (record { section = refl; opened = refl; least = refl; tree = refl })
  next-keeps-pass e next _ = read-as v v refl (record { section = refl; opened = refl; least = refl; tree = refl })

-- the same nodes are locked, and nothing else is done
pub trying-kept : (v w : View) → KeepsPass v w → w.update ≡ v.update → held_slots w.held.nodes ≡ held_slots v.held.nodes → KeepsTrying v w
trying-kept v w keeps update slots n nodes t = record {
  working = record { live = keeps.joined ∙ t.working.live; own = keeps.number ∙ t.working.own; inside = ap is_even keeps.word ∙ t.working.inside };
  number = t.number;
  section = keeps.section ∙ t.section;
  least = keeps.least ∙ t.least;
  idle = update ∙ t.idle;
  once = t.once;
  locked = slots ∙ t.locked;
  others = λ k some. ap (λ (s : Slots). count k s.nodes) keeps.retired ∙ t.others k some;
}

one-more : (b : Bool) (c : ℕ) → (b ≡ true → c ≡ 0) → c ≤ 1 → c + (cond b 1 0 + 0) ≤ 1
one-more true c none' few = omega (arith, none' refl)
one-more false c none' few = omega (arith, few)

pub lock_step : LockStepLaw
lock_step z v seat n nodes node t can =
    let absent : count node nodes ≡ 0 = no-count (count node nodes) (λ some. can.unlocked (subst (λ ks. 0 < count node ks) (sym t.locked) some)) in
    record {
      may = may_lock_law z v seat n node (record { own = t.working.own; inside = t.working.inside; searched = can.searched; unlocked = can.unlocked });
      locked = λ other. record {
        working = record { live = t.working.live; own = t.working.own; inside = t.working.inside };
        number = t.number;
        section = t.section;
        least = t.least;
        idle = t.idle;
        once = λ k.
            let sum = count-append k nodes (node ∷ []) in
            subst (λ c. c ≤ 1) (sym sum) (one-more (eqb node k) (count k nodes) (λ e. ap (λ j. count j nodes) (sym (eqb-true node k e)) ∙ absent) (t.once k));
        locked = map-append (λ (x : HeldNode). x.node) v.held.nodes (just_locked node ∷ []) ∙ ap (λ ks. ks ++ node ∷ []) t.locked;
        others = λ k some.
            elim (of-either (eqb node k) (count k nodes) (subst (λ c. 0 < c) (count-append k nodes (node ∷ [])) some)) as (λ _. count k v.retired.nodes ≡ 0) [
              | inl before ↦ t.others k before
              | inr last ↦ subst (λ j. count j v.retired.nodes ≡ 0) (eqb-true node k last) other
            ];
      };
      held = λ own found. trying-kept v (met_lock v own found) (met-keeps v own found) refl refl n nodes t;
    }
  where
    no-count : (c : ℕ) → (0 < c → ⊥) → c ≡ 0
    no-count zero never = refl
    no-count (suc c) never = absurd (never (omega arith))

    of-either : (b : Bool) (c : ℕ) → 0 < c + (cond b 1 0 + 0) → (0 < c) ⊎ (b ≡ true)
    of-either true c some = inr refl
    of-either false c some = inl (omega (arith, some))

pub loads_keep : LoadsKeepLaw
loads_keep v = record {
  link = λ node x side. trying-kept v (link_loaded v node side x) (link-keeps-pass v node x side) refl
      (slots-kept (link_known_at node side x) v (link_loaded v node side x) refl (link-node node x side));
  tag = λ node x side. trying-kept v (tag_loaded v node side x) (tag-keeps-pass v node x side) refl
      (slots-kept (tag_known_at node side x) v (tag_loaded v node side x) refl (tag-node node x side));
  mark = λ node x. trying-kept v (mark_loaded v node x) (mark-keeps-pass v node x) refl
      (slots-kept (mark_known node x) v (mark_loaded v node x) refl (mark-node node x));
  key = λ node x. trying-kept v (pair_loaded v Key node x) (key-keeps-pass v node x) refl
      (slots-kept (pair_known Key node x) v (pair_loaded v Key node x) refl (key-node node x));
  val = λ node x. trying-kept v (pair_loaded v Val node x) (val-keeps-pass v node x) refl
      (slots-kept (pair_known Val node x) v (pair_loaded v Val node x) refl (val-node node x));
  head = λ node entry number side.
      trying-kept v (head_loaded v node side entry number) (head-keeps-pass v node entry number side) refl
      (slots-kept (found_at node side entry) v (head_loaded v node side entry number) refl (found-node node entry side));
  number = λ entry x. trying-kept v (ts_loaded v entry x) (number-keeps-pass v entry x) refl
      (slots-kept (node_known entry x) v (ts_loaded v entry x) refl (λ h. refl));
  next = λ entry next. next-kept entry next v.reading.place;
}
  where
    next-kept : (entry next : ℕ) (p : Place) → KeepsTrying v (next_at v p entry next)
    next-kept entry next (AtEntry node side e found) =
        trying-kept v (next_at v (AtEntry node side e found) entry next) (next-keeps-pass v entry next (AtEntry node side e found)) refl refl
    next-kept entry next Nowhere = trying-kept v v (next-keeps-pass v entry next Nowhere) refl refl
    next-kept entry next (AtNode node key) = trying-kept v v (next-keeps-pass v entry next (AtNode node key)) refl refl
    next-kept entry next (Gap node side) = trying-kept v v (next-keeps-pass v entry next (Gap node side)) refl refl

-- the last one goes
last-gone : (node : ℕ) (nodes : List ℕ) (hs : List HeldNode) → held_slots hs ≡ nodes ++ node ∷ [] → count node nodes ≡ 0
    → held_slots (other_nodes node hs) ≡ nodes
last-gone node [] (h ∷ hs) is none' =
    let here : h.node ≡ node = cc in
    let rest : held_slots hs ≡ [] = cc in
    by hs rest (ap (λ k. eqb k node) here ∙ own node)
  where
    own : (a : ℕ) → eqb a a ≡ true
    own a = grind (arith, nat_tests)

    by : (hs : List HeldNode) → held_slots hs ≡ [] → eqb h.node node ≡ true → held_slots (other_nodes node (h ∷ hs)) ≡ []
    by [] none' e = ap (λ b. held_slots (cond (not b) (h ∷ []) [])) e
    by (x ∷ hs) none' e = cc
last-gone node (k ∷ nodes) (h ∷ hs) is none' =
    let here : h.node ≡ k = cc in
    let rest : held_slots hs ≡ nodes ++ node ∷ [] = cc in
    let parts = none-here k node (count node nodes) none' in
    ap (λ b. held_slots (cond (not b) (h ∷ other_nodes node hs) (other_nodes node hs))) (ap (λ j. eqb j node) here ∙ parts.0)
    ∙ (λ i. here i ∷ last-gone node nodes hs rest parts.1 i)
  where
    none-here : (x k n : ℕ) → cond (eqb x k) 1 0 + n ≡ 0 → (eqb x k ≡ false) × (n ≡ 0)
    none-here x k n e = (by (eqb x k) e, omega (arith, e))
      where
        by : (b : Bool) → cond b 1 0 + n ≡ 0 → b ≡ false
        by true h = absurd (omega (arith, h))
        by false h = refl
last-gone node _ _ is none' = cc

still-idle : (b : Bool) (u : Updating) → u ≡ no_update → cond b no_update u ≡ no_update
still-idle true u idle = refl
still-idle false u idle = idle

pub last_unlock : LastUnlockLaw
last_unlock v n node nodes t =
    let absent : count node nodes ≡ 0 = absent-of (count node nodes) (subst (λ c. c ≤ 1) (count-append node nodes (node ∷ [])) (t.once node)) in
    record {
      working = record { live = t.working.live; own = t.working.own; inside = t.working.inside };
      number = t.number;
      section = t.section;
      least = t.least;
      idle = still-idle (length (other_nodes node v.held.nodes) == 0) v.update t.idle;
      once = λ k. omega (arith, t.once k, count-append k nodes (node ∷ []));
      locked = last-gone node nodes v.held.nodes t.locked absent;
      others = λ k some. t.others k (omega (arith, some, count-append k nodes (node ∷ [])));
    }
  where
    absent-of : (c : ℕ) → c + (cond (eqb node node) 1 0 + 0) ≤ 1 → c ≡ 0
    absent-of c few = grind (arith, nat_tests)

-- A try fills its slots.
module _ (v : View) (s : Slots) (fs : List Filled) where
  -- other slots are unused, and other words are filled
  abbrev pub filled-to : View
  filled-to = with_filled (record v { unused = s }) fs

  pub filled-keeps-pass : KeepsPass v filled-to
  filled-keeps-pass = read-as v filled-to refl (record { section = refl; opened = refl; least = refl; tree = refl })

  filled-numbered : (at : Link) (entry : ℕ) → HoldsNumbered v at entry → HoldsNumbered filled-to at entry
  filled-numbered at entry h = numbered-kept (λ (x : HeldNode). x) v filled-to at entry (same-held v filled-to refl) (same-at at) h

  filled-heads : (n : ℕ) (plan : Plan) (heads : Heads) → HasHeads v n plan heads → HasHeads filled-to n plan heads
  filled-heads n plan heads h = record {
    looked = record {
      trying = trying-kept v filled-to filled-keeps-pass refl refl n (locks_of plan) h.looked.trying;
      formed = h.looked.formed;
      small = h.looked.small;
      looks = every_map (HoldsLook v) (HoldsLook filled-to) (looks_of plan)
          (look-kept (λ (x : HeldNode). x) v filled-to (same-held v filled-to refl) (id-keeps v)
          (links-kept v filled-to (same-links v filled-to refl))) h.looked.looks;
    };
    at = filled-numbered (link_at plan) heads.at h.at;
    next = if-some (next_link_of plan) h.next;
  }
    where
      if-some : (o : Option Link) → IfSome o (λ at. HoldsNumbered v at heads.next) → IfSome o (λ at. HoldsNumbered filled-to at heads.next)
      if-some None holds = tt
      if-some (Some at) holds = filled-numbered at heads.next holds

-- inside a section the value is kept
abbrev pub fill-inside : View → Word → ℕ → View
fill-inside v w x = with_filled (used_view v w) (filled_with (known_before v w) w x)

pub filled-is : (v : View) (w : Word) (x : ℕ) (b : Bool) → b ≡ false → cond b (used_view v w) (fill-inside v w x) ≡ fill-inside v w x
filled-is v w x true e = cc
filled-is v w x false e = refl

other-filled : (v : View) (f g : Filled) → WordApart f g → HoldsFill v f → HoldsFill (fill-inside v g.word g.value) f
other-filled v f g apart h =
    let known = item-longer v.reading.filled (zeros_of v.unused g.word) h.place (record { word = f.word; value = f.value }) h.is in
    let kept = item-filter (λ (x : Filled). not (same_word x.word g.word)) (known_before v g.word) h.place (record { word = f.word; value = f.value }) known
    (not_of (same_word f.word g.word) apart) in
    record {
      place = kept.0;
      is = item-longer (filled_other g.word (known_before v g.word)) (record { word = g.word; value = g.value } ∷ []) kept.0
          (record { word = f.word; value = f.value }) kept.1;
    }

this-filled : (v : View) (g : Filled) → HoldsFill (fill-inside v g.word g.value) g
this-filled v g = record {
  place = length (filled_other g.word (known_before v g.word));
  is = last-item (filled_other g.word (known_before v g.word)) (record { word = g.word; value = g.value });
}

-- after these fills each of them is kept, and those of other words that were kept before
record FilledTo (v : View) (fs : List Filled) (w : View) : Type 0 where
  unused : Slots
  all : List Filled
  is : w ≡ with_filled (record v { unused = unused }) all
  holds : Every (HoldsFill w) fs
  keeps : (g : Filled) → Every (WordApart g) fs → HoldsFill v g → HoldsFill w g

all-filled : (v : View) (fs : List Filled) → is_even v.section_word ≡ false → AllApart fs → FilledTo v fs (filled_all v fs)
all-filled v [] inside apart = record { unused = v.unused; all = v.reading.filled; is = refl; holds = tt; keeps = λ g others h. h }
all-filled v (f ∷ fs) inside apart =
    let u = fill-inside v f.word f.value in
    let rest = all-filled u fs inside apart.1 in
    subst (λ (x : View). FilledTo v (f ∷ fs) (filled_all x fs)) (sym (filled-is v f.word f.value (is_even v.section_word) inside)) (record {
      unused = rest.unused;
      all = rest.all;
      is = rest.is;
      holds = (rest.keeps f apart.0 (this-filled v f), rest.holds);
      keeps = λ g others h. rest.keeps g others.1 (other-filled v g f others.0 h);
    })

pub fill : FillLaw
fill v n plan slots heads h free apart =
    let fs = fills_of plan slots heads in
    let done = all-filled v fs h.looked.trying.working.inside (fills-apart plan slots heads apart) in
    record {
      may = fills-may v plan slots heads free;
      filled = record {
        found = subst (λ (w : View). HasHeads w n plan heads) (sym done.is) (filled-heads v done.unused done.all n plan heads h);
        free = subst (λ (w : View). HasSlots w slots) (sym done.is)
            (record { node = free.node; at = free.at; left = free.left; right = free.right; next = free.next });
        filled = done.holds;
      };
    }

pub may_fill_on : MayFillOnLaw
may_fill_on v f g may = on g.word (is_even v.section_word) may
  where
    on : (w : Word) (b : Bool) → MayFill v w → MayFill (cond b (used_view v f.word) (fill-inside v f.word f.value)) w
    on (Node field k) true m = (m.0, m.1)
    on (Node field k) false m = (m.0, m.1)
    on (Entry part e) true m = m
    on (Entry part e) false m = m
    on _ b m = absurd m

pub slots_some : SlotsSomeLaw
slots_some t i v slots right at free =
    let entry : (e : ℕ) → 0 < count e v.free.entries → 0 < e = λ e some. free_entry_some t.layout t.views right.meaning right.rule.slots i e v at some in
    record {
      node = (free_node_alone t.layout t.views right.meaning right.rule.slots i slots.node v at free.node).1;
      at = entry slots.at free.at;
      left = entry slots.left free.left;
      right = entry slots.right free.right;
      next = entry slots.next free.next;
    }
