-- A word of a locked node that is loaded again holds what the pass has found there.
use Rattle.std.proofs.Common.{◌≡◌, ℕ, ◌≤◌, List, ◌∷◌, leb, true, arith, sym, subst, ◌∙◌}
use Rattle.std.proofs.lemmas.Bool.Decides.{nat_tests}
use Rattle.index_words.specs.declared.layout.Layout.{Layout}
use Rattle.index_words.specs.declared.side.Side.{Side}
use Rattle.index_words.specs.declared.view.View.{View}
use Rattle.index_words.specs.declared.word.Field.TheVariants.{Head}
use Rattle.index_words.specs.declared.word.Part.TheVariants.{Next}
use Rattle.index_words.specs.declared.word.Word.{Word}
use Rattle.index_words.specs.declared.word.Word.TheVariants.{Node, Entry}
use Rattle.index_words.specs.Words.{is_there, memory}
use Rattle.table_rule.specs.Homes.{IsLiveView}
use Rattle.table_rule.specs.Running.{HoldsAt, Stands}
use Rattle.table_steps.specs.Raises.{HoldsBundle, HoldsChain}
use Rattle.table_steps.proofs.RaiseFacts.{chain_low, head_known, head_there, next_known, next_there}
use Rattle.table_steps.proofs.UpdateSteps.{within_true}

high_true : (a b : ℕ) → a ≤ b → leb a b ≡ true
high_true a b low = grind (arith, nat_tests)

word_again : (z : Layout) (v : View) (w : Word) (n : ℕ) (h : HoldsAt z v w n) → is_there z w ≡ true → memory z h.stands.words w ≡ n
word_again z v w n h there = rw there (sym h.found)

module _ (z : Layout) (v : View) (live : IsLiveView v) (laid : v.layout ≡ z) (node : ℕ) where
  stands : Stands z v
  stands = subst (λ (y : Layout). Stands y v) laid live.stands

  module _ (side : Side) (es : List ℕ) (held : HoldsBundle v node side es) where
    pub head_word_there : is_there z (Node (Head side) node) ≡ true
    head_word_there = high_true node z.nodes (head_there z stands.words stands.views stands.rule stands.seat v stands.at node side held.head held.held)

    pub head_is : (n : ℕ) → HoldsAt z v (Node (Head side) node) n → held.head ≡ n
    head_is n h =
        sym (head_known z h.stands.words h.stands.views h.stands.rule h.stands.seat v h.stands.at node side held.head held.held)
        ∙ word_again z v (Node (Head side) node) n h head_word_there

    pub head_chain : (n : ℕ) → HoldsAt z v (Node (Head side) node) n → HoldsChain v node n es
    head_chain n h = subst (λ x. HoldsChain v node x es) (head_is n h) held.chain

    pub head_small : (n : ℕ) → HoldsAt z v (Node (Head side) node) n → n ≤ z.entries
    head_small n h = chain_low z stands.words stands.views stands.rule stands.seat v stands.at node n es (head_chain n h)

  module _ (e : ℕ) (es : List ℕ) (chain : HoldsChain v node e (e ∷ es)) where
    pub next_word_there : is_there z (Entry Next e) ≡ true
    next_word_there = within_true e z.entries chain.1 (next_there z stands.words stands.views stands.rule stands.seat v stands.at node e chain.2.0 chain.2.1)

    pub next_is : (n : ℕ) → HoldsAt z v (Entry Next e) n → chain.2.0 ≡ n
    next_is n h =
        sym (next_known z h.stands.words h.stands.views h.stands.rule h.stands.seat v h.stands.at node e chain.2.0 chain.2.1)
        ∙ word_again z v (Entry Next e) n h next_word_there

    pub next_chain : (n : ℕ) → HoldsAt z v (Entry Next e) n → HoldsChain v node n es
    next_chain n h = subst (λ x. HoldsChain v node x es) (next_is n h) chain.2.2

    pub next_small : (n : ℕ) → HoldsAt z v (Entry Next e) n → n ≤ z.entries
    next_small n h = chain_low z stands.words stands.views stands.rule stands.seat v stands.at node n es (next_chain n h)
