-- The node of a turn is another one than each at which the search goes on after it: the keys differ.
use Rattle.std.proofs.Common.{◌≡◌, ℕ, ◌<◌, ◌≤◌, ◌⊎◌, List, arith, refl, ap, ◌∙◌, sym, subst, Option, Some}
use Rattle.index_words.specs.declared.side.Side.{Side}
use Rattle.index_words.specs.declared.side.Side.TheVariants.{Left, Right}
use Rattle.index_words.specs.declared.view.View.{View}
use Rattle.index_words.specs.declared.view.reading.Turn.{Turn}
use Rattle.index_words.specs.declared.word.Field.TheVariants.{Key}
use Rattle.index_words.specs.declared.word.Word.TheVariants.{Node}
use Rattle.core_events.specs.Searches.{turn_key}
use Rattle.core_events.specs.Tables.{Table, held_by}
use Rattle.core_laws.specs.Searching.{HasKeys, IsOver, IsUnder, last_turn}
use Rattle.plan_laws.specs.Tries.{IsTrying}
use Rattle.table_rule.specs.Running.{Happened, table}
use Rattle.table_rule.proofs.Happens.{happened_word}
use Rattle.table_rule.proofs.Lists.{item_at}
use Rattle.table_steps.specs.Loads.{loading_pair}
use Rattle.table_steps.specs.Passes.{Pass}
use Rattle.update_search.specs.declared.turns.Turns.{Turns}
use Rattle.update_search.specs.Laws.{SearchLaws}
use Rattle.update_search.specs.Turns.{HasTurns, turned_at}
use Rattle.update_search.proofs.Failures.{before_raise, node_word}
use Rattle.update_search.proofs.TurnKeys.{IsBetween}

-- one of the turns was made at this node
pub record IsTurn (ts : Turns) (node : ℕ) : Type 0 where
  pub side : Side
  pub turn : Turn
  pub last : (v : View) → HasTurns v ts → last_turn side v.reading ≡ Some turn
  pub apart : (key : ℕ) → IsBetween ts key → ¬ (key ≡ turn.key)
  pub node_is : turn.node ≡ node

pub right_is : (ts : Turns) (turn : Turn) → ts.right ≡ Some turn → IsTurn ts turn.node
right_is ts turn is = record {
  side = Right;
  turn = turn;
  last = λ v has. has.right ∙ is;
  apart = λ key between same. let over : turn.key < key = subst (λ (o : Option Turn). IsOver (turn_key o) key) is between.over in omega (arith, over, same);
  node_is = refl;
}

pub left_is : (ts : Turns) (turn : Turn) → ts.left ≡ Some turn → IsTurn ts turn.node
left_is ts turn is = record {
  side = Left;
  turn = turn;
  last = λ v has. has.left ∙ is;
  apart = λ key between same. let under : key < turn.key = subst (λ (o : Option Turn). IsUnder (turn_key o) key) is between.under in omega (arith, under, same);
  node_is = refl;
}

-- the turn that was made last
pub turned_is : (ts : Turns) (side : Side) (node key : ℕ) → IsTurn (turned_at side (record { node = node; key = key }) ts) node
turned_is ts Left node key = left_is (turned_at Left (record { node = node; key = key }) ts) (record { node = node; key = key }) refl
turned_is ts Right node key = right_is (turned_at Right (record { node = node; key = key }) ts) (record { node = node; key = key }) refl

pub other_node : (laws : SearchLaws) (p : Pass) (n : ℕ) (nodes : List ℕ) → IsTrying p.view n nodes → (ts : Turns) → HasTurns p.view ts → (at : ℕ) → IsTurn ts at
    → (node here : ℕ) → node ≤ p.view.layout.nodes → (z : View) → Happened p.view.layout (loading_pair p Key node) p.view here z → IsBetween ts here → ¬ (at ≡ node)
other_node laws p n nodes trying ts has at turn node here there z h between same =
    let v = p.view in
    let t : Table = table v.layout h.words h.views in
    let keys : HasKeys t v = laws.keys t p.seat v h.rule (item_at h.views p.seat v h.seat) (before_raise v n nodes trying) in
    let word : held_by t (Node Key node) ≡ here = happened_word v.layout (loading_pair p Key node) v z here (Node Key node) (node_word v.layout Key node there) refl tt h in
    turn.apart here between (sym word ∙ ap (λ k. held_by t (Node Key k)) (sym (turn.node_is ∙ same)) ∙ keys.turn turn.side turn.turn (turn.last v has))

-- a link begins at the root, or at the node of a turn
abbrev pub Begins : Turns → ℕ → Type 0
Begins ts at = (at ≡ 0) ⊎ IsTurn ts at
