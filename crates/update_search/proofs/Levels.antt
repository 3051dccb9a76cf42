-- One level of a search: it goes on by a link, and reaches a node, whose key it loads, or a null link.
use Rattle.std.proofs.Common.{◌≡◌, ℕ, ◌<◌, [], ◌∷◌, ◌++◌, length, cond, true, arith, refl, ap, ◌∙◌, sym, subst, inl, inr, Option, Some, None}
use Rattle.std.specs.Prelude.{◌&&◌}
use Rattle.std.proofs.lemmas.Bool.{eq-eqb, ne_eqb}
use Rattle.index_words.specs.declared.side.Side.{Side}
use Rattle.index_words.specs.declared.side.Side.TheVariants.{Left, Right}
use Rattle.index_words.specs.declared.view.View.{View}
use Rattle.index_words.specs.declared.view.reading.Link.{Link as ViewLink}
use Rattle.index_words.specs.declared.view.reading.LinkSource.TheVariants.{Plain}
use Rattle.index_words.specs.declared.view.reading.Place.{Place}
use Rattle.index_words.specs.declared.view.reading.Place.TheVariants.{Node as AtNode, Gap as AtGap}
use Rattle.index_words.specs.declared.view.reading.Reading.{Reading}
use Rattle.index_words.specs.declared.view.reading.Turn.{Turn}
use Rattle.index_words.specs.declared.word.Field.TheVariants.{Key}
use Rattle.key_map.specs.Lists.{IsItem}
use Rattle.core_events.specs.LockMoves.{pair_loaded}
use Rattle.core_events.specs.PlainMoves.{link_loaded, tag_loaded}
use Rattle.core_events.specs.Searches.{goes_on_at, key_found, left_turn_after, place_after, plain_link, right_turn_after, searches_at, turn_key, turned, walked, with_tag}
use Rattle.core_laws.specs.Searching.{IsOver, IsUnder}
use Rattle.core_trees.specs.declared.link.Link.{Link}
use Rattle.core_updates.specs.Plans.{link_of}
use Rattle.plan_laws.specs.Looks.{RemembersLink, RemembersNull}
use Rattle.plan_laws.proofs.Items.{item-map, last-item}
use Rattle.update_search.specs.declared.turns.Turns.{Turns}
use Rattle.update_search.specs.Searching.{HasCome, HasKeyAt, StandsOdd}
use Rattle.update_search.specs.Turns.{HasTurns, beyond, turned_at}
use Rattle.update_search.proofs.TurnKeys.{IsBetween, between_true, crossed}

-- a search stands where the link begins, and has these turns once it goes on by it
pub record GoesOn (v : View) (at : Link) (ts : Turns) : Type 0 where
  pub stands : searches_at v.reading v.reading.place at.node at.side ≡ true
  pub left : left_turn_after at.side v.reading ≡ ts.left
  pub right : right_turn_after at.side v.reading ≡ ts.right

some_child : (k : ℕ) (side : Side) (x : ℕ) → 0 < x → place_after k side x ≡ AtNode x None
some_child k side x some = ap (λ b. cond b (AtGap k side) (AtNode x None)) (ne_eqb x 0 (λ e. omega (arith, e, some)))

no_child : (k : ℕ) (side : Side) (x : ℕ) → x ≡ 0 → place_after k side x ≡ AtGap k side
no_child k side x none = ap (λ b. cond b (AtGap k side) (AtNode x None)) (eq-eqb x 0 none)

-- it has gone on, and found this
module _ (v : View) (at : Link) (ts : Turns) (on : GoesOn v at ts) (x : ℕ) (w : View) (view : w ≡ link_loaded v at.node at.side x) where
  pub went : w.reading ≡ walked true v.reading at.node at.side x
  went = ap (λ (u : View). u.reading) view ∙ ap (λ b. walked b v.reading at.node at.side x) on.stands

  pub went_turns : HasTurns w ts
  went_turns = record { left = ap (λ (r : Reading). r.left_turn) went ∙ on.left; right = ap (λ (r : Reading). r.right_turn) went ∙ on.right }

  -- the link is the last one that is remembered
  abbrev last_link : ViewLink
  last_link = plain_link at.node at.side x (turn_key (left_turn_after at.side v.reading)) (turn_key (right_turn_after at.side v.reading))

  went_links : w.reading.links ≡ v.reading.links ++ last_link ∷ []
  went_links = ap (λ (r : Reading). r.links) went

  went_item : IsItem w.reading.links (length v.reading.links) last_link
  went_item = subst (λ ls. IsItem ls (length v.reading.links) last_link) (sym went_links) (last-item v.reading.links last_link)

  pub went_by : RemembersLink w at x
  went_by = record { place = length v.reading.links; link = last_link; is = went_item; node_is = refl; side_is = refl; plain = refl; child_is = refl }

  pub came : 0 < x → HasCome w at x ts
  came some = record { place = ap (λ (r : Reading). r.place) went ∙ some_child at.node at.side x some; turned = went_turns; link = went_by }

  pub ended : x ≡ 0 → w.reading.place ≡ AtGap at.node at.side
  ended none = ap (λ (r : Reading). r.place) went ∙ no_child at.node at.side x none

  -- its tag was loaded too
  module _ (none : x ≡ 0) (tag : ℕ) (y : View) (tagged : y ≡ tag_loaded w at.node at.side tag) where
    tagged_link : with_tag at.node at.side tag last_link ≡ record { node = at.node; side = at.side; child = x; source = Plain (Some tag) (turn_key (left_turn_after at.side v.reading)) (turn_key (right_turn_after at.side v.reading)) }
    tagged_link = by at.side
      where
        by : (side : Side)
            → with_tag at.node side tag (plain_link at.node side x (turn_key (left_turn_after at.side v.reading)) (turn_key (right_turn_after at.side v.reading)))
            ≡ record { node = at.node; side = side; child = x; source = Plain (Some tag) (turn_key (left_turn_after at.side v.reading)) (turn_key (right_turn_after at.side v.reading)) }
        by Left = rw (eq-eqb at.node at.node refl) refl
        by Right = rw (eq-eqb at.node at.node refl) refl

    pub ended_null : RemembersNull y at tag (turn_key ts.left) (turn_key ts.right)
    ended_null =
        let item : IsItem (tag_loaded w at.node at.side tag).reading.links (length v.reading.links) (with_tag at.node at.side tag last_link)
        = item-map (with_tag at.node at.side tag) w.reading.links (length v.reading.links) last_link went_item in
        subst (λ (u : View). RemembersNull u at tag (turn_key ts.left) (turn_key ts.right)) (sym tagged)
        (record {
          place = length v.reading.links;
          link = with_tag at.node at.side tag last_link;
          is = item;
          node_is = ap (λ (l : ViewLink). l.node) tagged_link;
          side_is = ap (λ (l : ViewLink). l.side) tagged_link;
          child_is = ap (λ (l : ViewLink). l.child) tagged_link ∙ none;
          source =
              ap (λ (l : ViewLink). l.source) tagged_link
              ∙ ap (λ (o : Option Turn). Plain (Some tag) (turn_key o) (turn_key (right_turn_after at.side v.reading))) on.left
              ∙ ap (λ (o : Option Turn). Plain (Some tag) (turn_key ts.left) (turn_key o)) on.right;
        })

    pub ended_place : y.reading.place ≡ AtGap at.node at.side
    ended_place = ap (λ (u : View). u.reading.place) tagged ∙ ended none

    pub ended_turns : HasTurns y ts
    ended_turns = record {
      left = ap (λ (u : View). u.reading.left_turn) tagged ∙ went_turns.left;
      right = ap (λ (u : View). u.reading.right_turn) tagged ∙ went_turns.right;
    }

-- the key of the node at which it stands was loaded
module _ (v : View) (at : Link) (node : ℕ) (ts : Turns) (come : HasCome v at node ts) (here : ℕ) (w : View) (view : w ≡ pair_loaded v Key node here) where
  keyed_place : key_found node here (AtNode node None) ≡ AtNode node (Some here)
  keyed_place = ap (λ b. cond b (AtNode node (Some here)) (AtNode node None)) (eq-eqb node node refl)

  pub keyed : HasKeyAt w at node here ts
  keyed =
      subst (λ (u : View). HasKeyAt u at node here ts) (sym view)
      (record {
        place = ap (key_found node here) come.place ∙ keyed_place;
        turned = record { left = come.turned.left; right = come.turned.right };
        link = record {
          place = come.link.place;
          link = come.link.link;
          is = come.link.is;
          node_is = come.link.node_is;
          side_is = come.link.side_is;
          plain = come.link.plain;
          child_is = come.link.child_is;
        };
      })

-- it goes on at a node whose key is between those of its turns, or the node is an odd one
module _ (v : View) (at : Link) (node here : ℕ) (ts : Turns) (has : HasKeyAt v at node here ts) where
  pub goes_on : (side : Side) → IsBetween ts here → GoesOn v (link_of node side) (turned_at side (record { node = node; key = here }) ts)
  goes_on side is = record { stands = stands; left = left side; right = right side }
    where
      over : IsOver (turn_key v.reading.right_turn) here
      over = subst (λ (o : Option Turn). IsOver (turn_key o) here) (sym has.turned.right) is.over

      under : IsUnder (turn_key v.reading.left_turn) here
      under = subst (λ (o : Option Turn). IsUnder (turn_key o) here) (sym has.turned.left) is.under

      stands : searches_at v.reading v.reading.place node side ≡ true
      stands =
          ap (λ (p : Place). searches_at v.reading p node side) has.place
          ∙ ap (λ b. b && goes_on_at v.reading (Some here)) (eq-eqb node node refl)
          ∙ between_true (turn_key v.reading.right_turn) (turn_key v.reading.left_turn) here over under

      left : (side : Side) → left_turn_after side v.reading ≡ (turned_at side (record { node = node; key = here }) ts).left
      left Left = ap (λ (p : Place). turned p v.reading.left_turn) has.place
      left Right = has.turned.left

      right : (side : Side) → right_turn_after side v.reading ≡ (turned_at side (record { node = node; key = here }) ts).right
      right Left = has.turned.right
      right Right = ap (λ (p : Place). turned p v.reading.right_turn) has.place

  pub stands_odd : (t : Turn) → beyond ts here ≡ Some t → StandsOdd v node t
  stands_odd t is =
      elim (crossed ts.left ts.right here t is) as (λ _. StandsOdd v node t) [
        | inl left ↦ record { key = here; place = has.place; side = Left; last = has.turned.left ∙ left.0; odd = left.1 }
        | inr right ↦ record { key = here; place = has.place; side = Right; last = has.turned.right ∙ right.0; odd = right.1 }
      ]
