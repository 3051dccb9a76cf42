-- The words that a plan fills are different ones, of free slots of the seat.
use Rattle.std.proofs.Common.{◌≡◌, ℕ, ◌<◌, ◌⊎◌, inl, inr, List, [], ◌∷◌, ◌++◌, Bool, true, false, cond, refl, ap, sym, ◌∙◌, subst, Some, None}
use Rattle.std.specs.Prelude.{◌==◌, ◌&&◌}
use Rattle.std.proofs.lemmas.Bool.{ne_eqb}
use Rattle.index_words.specs.declared.side.Side.TheVariants.{Left, Right}
use Rattle.index_words.specs.declared.view.View.{View}
use Rattle.index_words.specs.declared.view.reading.Filled.{Filled}
use Rattle.index_words.specs.declared.word.Field.{Field}
use Rattle.index_words.specs.declared.word.Field.TheVariants.{Key, Val, Mark, Head, Link, Tag}
use Rattle.index_words.specs.declared.word.Part.{Part}
use Rattle.index_words.specs.declared.word.Part.TheVariants.{Child, Stamp as Number, Next}
use Rattle.index_words.specs.declared.word.Word.TheVariants.{Node, Entry}
use Rattle.index_words.specs.Words.{same_word, same_part}
use Rattle.key_map.specs.Lists.{count, Every}
use Rattle.core_events.specs.Needs.{is_lock}
use Rattle.core_invariant.proofs.Frames.{every_map}
use Rattle.core_invariant.proofs.Joins.{every_append}
use Rattle.core_invariant.proofs.Filled.{and_false}
use Rattle.core_laws.specs.ViewNeeds.{MayFill}
use Rattle.core_updates.specs.declared.plan.Plan.{Plan}
use Rattle.core_updates.specs.declared.plan.Plan.TheVariants.{Grow, Replace, Lift, Join}
use Rattle.core_updates.specs.declared.plan.JoinPlan.{JoinPlan}
use Rattle.core_updates.specs.declared.plan.PlanSlots.{PlanSlots}
use Rattle.core_updates.specs.declared.plan.Heads.{Heads}
use Rattle.core_updates.specs.declared.plan.NewNode.{NewNode}
use Rattle.core_updates.specs.PlanEvents.{HasSlots}
use Rattle.core_updates.specs.Plans.{node_fills, entry_fills, fresh_to, head_of, child_of}
use Rattle.plan_laws.specs.Fills.{AreApart, fresh_fills, next_fills, fills_of}

abbrev pub WordApart : Filled → Filled → Type 0
WordApart f g = same_word f.word g.word ≡ false

-- no word of the list is filled twice
abbrev pub AllApart : List Filled → Type 0
AllApart [] = Unit {0}
AllApart (f ∷ fs) = Every (WordApart f) fs × AllApart fs

apart-append : (fs gs : List Filled) → AllApart fs → AllApart gs → Every (λ f. Every (WordApart f) gs) fs → AllApart (fs ++ gs)
apart-append [] gs a b across = b
apart-append (f ∷ fs) gs a b across = (every_append (WordApart f) fs gs a.0 across.0, apart-append fs gs a.1 b across.1)

-- a word of this node, but not its lock; a word of this entry
pub record OfNode (k : ℕ) (f : Filled) : Type 0 where
  pub field : Field
  pub is : f.word ≡ Node field k
  pub open' : is_lock field ≡ false

pub record OfEntry (e : ℕ) (f : Filled) : Type 0 where
  pub part : Part
  pub is : f.word ≡ Entry part e

entry-apart : (d e : ℕ) (f g : Filled) → ¬ (d ≡ e) → OfEntry d f → OfEntry e g → WordApart f g
entry-apart d e f g apart a b =
    (λ i. same_word (a.is i) (b.is i)) ∙ ap (λ c. same_part a.part b.part && c) (ne_eqb d e apart) ∙ and_false (same_part a.part b.part)

node-apart : (k e : ℕ) (f g : Filled) → OfNode k f → OfEntry e g → WordApart f g
node-apart k e f g a b = (λ i. same_word (a.is i) (b.is i))

entries-apart : (d e : ℕ) (fs gs : List Filled) → ¬ (d ≡ e) → Every (OfEntry d) fs → Every (OfEntry e) gs → Every (λ f. Every (WordApart f) gs) fs
entries-apart d e fs gs apart a b =
    every_map (OfEntry d) (λ f. Every (WordApart f) gs) fs (λ f of. every_map (OfEntry e) (WordApart f) gs (λ g of'. entry-apart d e f g apart of of') b) a

nodes-apart : (k e : ℕ) (fs gs : List Filled) → Every (OfNode k) fs → Every (OfEntry e) gs → Every (λ f. Every (WordApart f) gs) fs
nodes-apart k e fs gs a b =
    every_map (OfNode k) (λ f. Every (WordApart f) gs) fs (λ f of. every_map (OfEntry e) (WordApart f) gs (λ g of'. node-apart k e f g of of') b) a

-- across to two groups
across-both : (fs gs hs : List Filled) → Every (λ f. Every (WordApart f) gs) fs → Every (λ f. Every (WordApart f) hs) fs → Every (λ f. Every (WordApart f) (gs ++ hs)) fs
across-both [] gs hs a b = tt
across-both (f ∷ fs) gs hs a b = (every_append (WordApart f) gs hs a.0 b.0, across-both fs gs hs a.1 b.1)

-- the words of one entry
record Group (e : ℕ) (fs : List Filled) : Type 0 where
  of : Every (OfEntry e) fs
  apart : AllApart fs

no-group : (e : ℕ) → Group e []
no-group e = record { of = tt; apart = tt }

entry-group : (e child behind : ℕ) → Group e (entry_fills e child behind)
entry-group e child behind = record {
  of = (record { part = Child; is = refl }, (record { part = Number; is = refl }, (record { part = Next; is = refl }, tt)));
  apart = ((refl, (refl, tt)), ((refl, tt), (tt, tt)));
}

fresh-group : (e child : ℕ) → Group e (fresh_fills (fresh_to e child))
fresh-group e child = by (child == 0)
  where
    by : (b : Bool) → Group e (fresh_fills (cond b None (Some (record { entry = e; child = child }))))
    by true = no-group e
    by false = entry-group e child 0

record NodeGroup (k : ℕ) (fs : List Filled) : Type 0 where
  of : Every (OfNode k) fs
  apart : AllApart fs

no-node : (k : ℕ) → NodeGroup k []
no-node k = record { of = tt; apart = tt }

own-word : (k : ℕ) (field : Field) (x : ℕ) → is_lock field ≡ false → OfNode k (record { word = Node field k; value = x })
own-word k field x open' = record { field = field; is = refl; open' = open' }

node-group : (n : NewNode) → NodeGroup n.slot (node_fills n)
node-group n = record {
  of = (
    own-word n.slot Mark 0 refl,
    (
      own-word n.slot Key n.pair.key refl,
      (
        own-word n.slot Val n.pair.val refl,
        (
          own-word n.slot (Head Left) (head_of n.left) refl,
          (
            own-word n.slot (Head Right) (head_of n.right) refl,
            (
              own-word n.slot (Link Left) (child_of n.left) refl,
              (
                own-word n.slot (Link Right) (child_of n.right) refl,
                (
                  own-word n.slot (Tag Left) 0 refl,
                  (own-word n.slot (Tag Right) 0 refl, tt),
                ),
              ),
            ),
          ),
        ),
      ),
    ),
  );
  apart = (
    (refl, (refl, (refl, (refl, (refl, (refl, (refl, (refl, tt)))))))),
    (
      (refl, (refl, (refl, (refl, (refl, (refl, (refl, tt))))))),
      (
        (refl, (refl, (refl, (refl, (refl, (refl, tt)))))),
        (
          (refl, (refl, (refl, (refl, (refl, tt))))),
          (
            (refl, (refl, (refl, (refl, tt)))),
            (
              (refl, (refl, (refl, tt))),
              ((refl, (refl, tt)), ((refl, tt), (tt, tt))),
            ),
          ),
        ),
      ),
    ),
  );
}

-- the groups of all that is filled, in their order
record Groups (slots : PlanSlots) (fs : List Filled) : Type 0 where
  node : List Filled
  left : List Filled
  right : List Filled
  at : List Filled
  next : List Filled
  node_of : NodeGroup slots.node node
  left_of : Group slots.left left
  right_of : Group slots.right right
  at_of : Group slots.at at
  next_of : Group slots.next next
  is : fs ≡ (node ++ (left ++ right)) ++ (at ++ next)

-- of all groups
groups-every : (P : Filled → Type 0) (slots : PlanSlots) (fs : List Filled) (g : Groups slots fs) → ((f : Filled) → OfNode slots.node f → P f)
    → ((e : ℕ) → (e ≡ slots.left) ⊎ ((e ≡ slots.right) ⊎ ((e ≡ slots.at) ⊎ (e ≡ slots.next))) → (f : Filled) → OfEntry e f → P f) → Every P fs
groups-every P slots fs g node entry =
    subst (Every P) (sym g.is)
    (every_append P (g.node ++ (g.left ++ g.right)) (g.at ++ g.next)
    (every_append P g.node (g.left ++ g.right) (every_map (OfNode slots.node) P g.node node g.node_of.of)
    (every_append P g.left g.right (every_map (OfEntry slots.left) P g.left (entry slots.left (inl refl)) g.left_of.of)
    (every_map (OfEntry slots.right) P g.right (entry slots.right (inr (inl refl))) g.right_of.of)))
    (every_append P g.at g.next (every_map (OfEntry slots.at) P g.at (entry slots.at (inr (inr (inl refl)))) g.at_of.of)
    (every_map (OfEntry slots.next) P g.next (entry slots.next (inr (inr (inr refl)))) g.next_of.of)))

groups-apart : (slots : PlanSlots) (fs : List Filled) → AreApart slots → Groups slots fs → AllApart fs
groups-apart slots fs a g =
    let entries = apart-append g.left g.right g.left_of.apart g.right_of.apart (entries-apart slots.left slots.right g.left g.right a.left_right g.left_of.of g.right_of.of) in
    let fronts = apart-append g.at g.next g.at_of.apart g.next_of.apart (entries-apart slots.at slots.next g.at g.next a.at_next g.at_of.of g.next_of.of) in
    let new = apart-append g.node (g.left ++ g.right) g.node_of.apart entries
    (across-both g.node g.left g.right (nodes-apart slots.node slots.left g.node g.left g.node_of.of g.left_of.of) (nodes-apart slots.node slots.right g.node g.right g.node_of.of g.right_of.of)) in
    let over-node = across-both g.node g.at g.next (nodes-apart slots.node slots.at g.node g.at g.node_of.of g.at_of.of) (nodes-apart slots.node slots.next g.node g.next g.node_of.of g.next_of.of) in
    let over-left = across-both g.left g.at g.next (entries-apart slots.left slots.at g.left g.at (λ e. a.at_left (sym e)) g.left_of.of g.at_of.of)
    (entries-apart slots.left slots.next g.left g.next a.left_next g.left_of.of g.next_of.of) in
    let over-right = across-both g.right g.at g.next (entries-apart slots.right slots.at g.right g.at (λ e. a.at_right (sym e)) g.right_of.of g.at_of.of)
    (entries-apart slots.right slots.next g.right g.next a.right_next g.right_of.of g.next_of.of) in
    subst AllApart (sym g.is)
    (apart-append (g.node ++ (g.left ++ g.right)) (g.at ++ g.next) new fronts
    (every_append (λ f. Every (WordApart f) (g.at ++ g.next)) g.node (g.left ++ g.right) over-node
    (every_append (λ f. Every (WordApart f) (g.at ++ g.next)) g.left g.right over-left over-right)))

-- the second front of a removal with two children
next-group : (near : Bool) (p : JoinPlan) (slots : PlanSlots) (behind : ℕ)
    → Group slots.next (next_fills behind (cond near None (Some (record { at = p.next.at; entry = slots.next; child = p.next.right }))))
next-group true p slots behind = no-group slots.next
next-group false p slots behind = entry-group slots.next p.next.right behind

groups-of : (plan : Plan) (slots : PlanSlots) (heads : Heads) → Groups slots (fills_of plan slots heads)
groups-of (Grow p) slots heads = record {
  node = node_fills (record { slot = slots.node; pair = p.pair; left = None; right = None });
  left = [];
  right = [];
  at = entry_fills slots.at slots.node heads.at;
  next = [];
  node_of = node-group (record { slot = slots.node; pair = p.pair; left = None; right = None });
  left_of = no-group slots.left;
  right_of = no-group slots.right;
  at_of = entry-group slots.at slots.node heads.at;
  next_of = no-group slots.next;
  is = refl;
}
groups-of (Replace p) slots heads = record {
  node = node_fills (record { slot = slots.node; pair = p.pair; left = fresh_to slots.left p.left; right = fresh_to slots.right p.right });
  left = fresh_fills (fresh_to slots.left p.left);
  right = fresh_fills (fresh_to slots.right p.right);
  at = entry_fills slots.at slots.node heads.at;
  next = [];
  node_of = node-group (record { slot = slots.node; pair = p.pair; left = fresh_to slots.left p.left; right = fresh_to slots.right p.right });
  left_of = fresh-group slots.left p.left;
  right_of = fresh-group slots.right p.right;
  at_of = entry-group slots.at slots.node heads.at;
  next_of = no-group slots.next;
  is = refl;
}
groups-of (Lift p) slots heads = record {
  node = [];
  left = [];
  right = [];
  at = entry_fills slots.at p.child heads.at;
  next = [];
  node_of = no-node slots.node;
  left_of = no-group slots.left;
  right_of = no-group slots.right;
  at_of = entry-group slots.at p.child heads.at;
  next_of = no-group slots.next;
  is = refl;
}
groups-of (Join p) slots heads =
    let high : ℕ = cond (p.next.at.node == p.node) p.next.right p.right in
    record {
      node = node_fills (record { slot = slots.node; pair = p.next.pair; left = fresh_to slots.left p.left; right = fresh_to slots.right high });
      left = fresh_fills (fresh_to slots.left p.left);
      right = fresh_fills (fresh_to slots.right high);
      at = entry_fills slots.at slots.node heads.at;
      next = next_fills heads.next (cond (p.next.at.node == p.node) None (Some (record { at = p.next.at; entry = slots.next; child = p.next.right })));
      node_of = node-group (record { slot = slots.node; pair = p.next.pair; left = fresh_to slots.left p.left; right = fresh_to slots.right high });
      left_of = fresh-group slots.left p.left;
      right_of = fresh-group slots.right high;
      at_of = entry-group slots.at slots.node heads.at;
      next_of = next-group (p.next.at.node == p.node) p slots heads.next;
      is = refl;
    }

-- no word is filled twice
pub fills-apart : (plan : Plan) (slots : PlanSlots) (heads : Heads) → AreApart slots → AllApart (fills_of plan slots heads)
fills-apart plan slots heads apart = groups-apart slots (fills_of plan slots heads) apart (groups-of plan slots heads)

-- each of these words may be filled
pub fills-may : (v : View) (plan : Plan) (slots : PlanSlots) (heads : Heads) → HasSlots v slots → Every (λ (f : Filled). MayFill v f.word) (fills_of plan slots heads)
fills-may v plan slots heads free =
    groups-every (λ (f : Filled). MayFill v f.word) slots (fills_of plan slots heads) (groups-of plan slots heads)
    (λ f of. subst (MayFill v) (sym of.is) (of.open', free.node))
    (λ e which f of. subst (MayFill v) (sym of.is) (is-free e which))
  where
    is-free : (e : ℕ) → (e ≡ slots.left) ⊎ ((e ≡ slots.right) ⊎ ((e ≡ slots.at) ⊎ (e ≡ slots.next))) → 0 < count e v.free.entries
    is-free e which =
        elim which as (λ _. 0 < count e v.free.entries) [
          | inl l ↦ subst (λ k. 0 < count k v.free.entries) (sym l) free.left
          | inr m ↦ elim m as (λ _. 0 < count e v.free.entries) [
            | inl r ↦ subst (λ k. 0 < count k v.free.entries) (sym r) free.right
            | inr o ↦ elim o as (λ _. 0 < count e v.free.entries) [
              | inl a ↦ subst (λ k. 0 < count k v.free.entries) (sym a) free.at
              | inr n ↦ subst (λ k. 0 < count k v.free.entries) (sym n) free.next
            ]
          ]
        ]
