-- What the rule says of what a search has found: the root uses its right link alone, the node at which it stands is no
-- root, and a node that it has stepped from is another one than that to which it has stepped.
use Rattle.std.proofs.Common.{◌≡◌, ℕ, ◌<◌, ◌⊎◌, Bool, true, false, cond, eqb, refl, ap, ◌∙◌, sym, subst, inl, inr, Option, Some, None}
use Rattle.std.specs.Prelude.{◌&&◌}
use Rattle.std.proofs.lemmas.Bool.{ne_eqb}
use Rattle.index_words.specs.declared.side.Side.{Side}
use Rattle.index_words.specs.declared.side.Side.TheVariants.{Left, Right}
use Rattle.index_words.specs.declared.view.View.{View}
use Rattle.index_words.specs.declared.view.reading.Link.{Link as ViewLink}
use Rattle.index_words.specs.declared.view.reading.LinkSource.{LinkSource}
use Rattle.index_words.specs.declared.view.reading.LinkSource.TheVariants.{Bundle, Plain}
use Rattle.index_words.specs.declared.view.reading.Place.{Place}
use Rattle.index_words.specs.declared.view.reading.Place.TheVariants.{Node as AtNode, Gap as AtGap}
use Rattle.index_words.specs.declared.view.reading.Turn.{Turn}
use Rattle.index_words.specs.Words.{memory}
use Rattle.key_map.specs.Lists.{IsItem}
use Rattle.core_events.specs.Searches.{is_plain, key_found, searches_at}
use Rattle.core_events.specs.Tables.{Table}
use Rattle.core_invariant.specs.Reached.{plain_graph}
use Rattle.core_invariant.specs.SearchRule.{LinkKeys, PlaceKey, SourceKeys}
use Rattle.core_laws.specs.PlainNeeds.{IsHeldUnmarked}
use Rattle.core_laws.specs.Searching.{IsBeforeRaise, last_turn}
use Rattle.core_laws.proofs.Remembered.{every_item}
use Rattle.core_laws.proofs.Searching.{search}
use Rattle.core_laws.proofs.SearchTurns.{turn_right}
use Rattle.core_trees.specs.declared.link.Link.{Link}
use Rattle.plan_laws.specs.Looks.{RemembersLink}
use Rattle.table_rule.specs.Homes.{IsLiveView}
use Rattle.table_rule.specs.Running.{Stands, table}
use Rattle.table_rule.proofs.Lists.{item_at}
use Rattle.update_search.specs.Laws.{SearchLaws}
use Rattle.update_search.specs.declared.descent.KeyNode.{KeyNode}
use Rattle.update_try.specs.Looking.{IsRightOf}
use Rattle.update_try.specs.Planning.{FindsNode}

source_root : (key_of : ℕ → ℕ) (node : ℕ) (side : Side) (s : LinkSource) → is_plain s ≡ true → SourceKeys key_of node side s → node ≡ 0 → side ≡ Right
source_root key_of node side (Bundle entry) plain is root = cc
source_root key_of node side (Plain tag above below) plain is root = is.0 root

module _ (v : View) (live : IsLiveView v) where
  abbrev s : Stands v.layout v
  s = live.stands

  abbrev t : Table
  t = table v.layout s.words s.views

  abbrev keys : ℕ → ℕ
  keys = (plain_graph (memory v.layout s.words)).key

  at_seat : IsItem s.views s.seat v
  at_seat = item_at s.views s.seat v s.at

  -- a remembered plain link of the root is its right one
  pub root_link : (at : Link) (child : ℕ) → RemembersLink v at child → at.node ≡ 0 → at.side ≡ Right
  root_link at child r root =
      let keys_is : LinkKeys keys r.link = every_item (LinkKeys keys) v.reading.links r.place r.link r.is (search t s.rule s.seat v at_seat).keys in
      sym r.side_is ∙ source_root keys r.link.node r.link.side r.link.source r.plain keys_is (r.node_is ∙ root)

  pub place_some : (k : ℕ) (key : Option ℕ) → v.reading.place ≡ AtNode k key → 0 < k
  place_some k key is = (subst (PlaceKey keys) is (search t s.rule s.seat v at_seat).key).0

  pub turn_some : (side : Side) (turn : Turn) → last_turn side v.reading ≡ Some turn → 0 < turn.node
  turn_some side turn is = (turn_right t s.rule s.seat v at_seat side turn is).some

  -- nor is the key's node
  pub node_some : (key : ℕ) (found : KeyNode) → FindsNode v key found → 0 < found.node
  node_some key found finds =
      elim finds.known as (λ _. 0 < found.node) [
        | inl place ↦ place_some found.node (Some key) place
        | inr right ↦ turn_some Right (record { node = found.node; key = key }) right.2
      ]

  -- a search that has stepped to the right of a node, which is locked and unmarked, stands at no load of its key, nor
  -- of its left link
  module _ (laws : SearchLaws) (before : IsBeforeRaise v) (node key right : ℕ) (h : IsHeldUnmarked v node) (of : IsRightOf v node key right) where
    not_self : v.reading.place ≡ AtNode right None → ¬ (right ≡ node)
    not_self place same =
        (laws.no_return t s.seat v node None Right (record { node = node; key = key }) h.held s.rule at_seat before (place ∙ ap (λ k. AtNode k None) same) of.turn h h.locked h.unmarked).0 refl

    pub key_stays : (x : ℕ) → key_found node x v.reading.place ≡ v.reading.place
    key_stays x = by (eqb right 0) of.place
      where
        by : (b : Bool) → v.reading.place ≡ cond b (AtGap node Right) (AtNode right None) → key_found node x v.reading.place ≡ v.reading.place
        by true place = ap (key_found node x) place ∙ sym place
        by false place = ap (key_found node x) place ∙ ap (λ b. cond b (AtNode right (Some x)) (AtNode right None)) (ne_eqb right node (not_self place)) ∙ sym place

    pub left_stays : searches_at v.reading v.reading.place node Left ≡ false
    left_stays = by (eqb right 0) of.place
      where
        by : (b : Bool) → v.reading.place ≡ cond b (AtGap node Right) (AtNode right None) → searches_at v.reading v.reading.place node Left ≡ false
        by true place = ap (λ (p : Place). searches_at v.reading p node Left) place
        by false place = ap (λ (p : Place). searches_at v.reading p node Left) place ∙ ap (λ b. b && false) (ne_eqb right node (not_self place))
