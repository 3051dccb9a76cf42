-- The looks of a try at a node that it has locked.
use Rattle.std.proofs.Common.{◌≡◌, ℕ, ◌<◌, ◌≤◌, ◌⊎◌, List, Bool, true, false, eqb, refl, ap, ◌∙◌, sym, subst, inl, inr, Option, Some, None}
use Rattle.std.specs.Prelude.{not}
use Rattle.std.proofs.lemmas.Bool.{ne_eqb}
use Rattle.index_words.specs.declared.side.Side.{Side}
use Rattle.index_words.specs.declared.side.Side.TheVariants.{Right}
use Rattle.index_words.specs.declared.view.View.{View}
use Rattle.index_words.specs.declared.view.reading.Link.{Link as ViewLink}
use Rattle.index_words.specs.declared.view.reading.LinkSource.{LinkSource}
use Rattle.index_words.specs.declared.view.reading.LinkSource.TheVariants.{Bundle, Plain}
use Rattle.index_words.specs.declared.view.reading.Reading.{Reading}
use Rattle.index_words.specs.declared.view.update.HeldNode.{HeldNode}
use Rattle.index_words.specs.declared.word.Field.TheVariants.{Key, Val, Link as LinkField, Tag}
use Rattle.index_words.specs.declared.word.Word.TheVariants.{Node}
use Rattle.index_words.proofs.Store.{word_named}
use Rattle.key_map.specs.Lists.{count}
use Rattle.core_events.specs.LockMoves.{mark_loaded, pair_loaded}
use Rattle.core_events.specs.PlainMoves.{link_loaded, tag_loaded}
use Rattle.core_events.specs.Searches.{is_other_tag, is_plain, searches_at, walked}
use Rattle.core_events.specs.Tables.{Table, held_by}
use Rattle.core_laws.specs.PlainNeeds.{MayReadLink}
use Rattle.core_laws.specs.Searching.{HasKeys, IsFoundStill, IsStill}
use Rattle.core_laws.proofs.Remembered.{every_item}
use Rattle.core_trees.specs.declared.link.Link.{Link}
use Rattle.core_updates.specs.Held.{HasLoaded, HoldsGap, HoldsLink, RemembersGap}
use Rattle.core_updates.specs.PlanEvents.{KnowsLink, KnowsTag}
use Rattle.plan_laws.specs.Looks.{IsUnmarked, LooksAtNode, RemembersLink, RemembersNull}
use Rattle.plan_laws.proofs.Looks.{firm-link, look}
use Rattle.table_rule.specs.Homes.{IsLiveView}
use Rattle.table_rule.specs.Running.{Happened, table}
use Rattle.table_rule.proofs.Happens.{happened_word}
use Rattle.table_rule.proofs.Lists.{item_at}
use Rattle.table_steps.specs.Links.{loading_link, loading_tag}
use Rattle.table_steps.specs.Loads.{HasLoadedMark, loading_pair}
use Rattle.table_steps.specs.Passes.{Pass, IsAlone}
use Rattle.table_steps.proofs.There.{locked_high}
use Rattle.update_search.specs.Laws.{SearchLaws}
use Rattle.update_search.specs.Outcomes.{HasRisen}
use Rattle.update_search.specs.Searching.{KeepsSearch}
use Rattle.update_search.proofs.Failures.{before, before_raise, node_word, risen_by}
use Rattle.update_search.proofs.Keeps.{key_places, link_places, mark_places, tag_places}
use Rattle.update_try.specs.Looking.{IsLockedBy, KnowsKey, LearnsAt, LearnsNothing}
use Rattle.update_try.proofs.HeldWords.{key_again, link_again, link_word, mark_again, val_again}
use Rattle.update_try.proofs.Learns.{key_learns, link_learns, mark_learns, val_learns}

still_child : (t : Table) (l : ViewLink) (s : LinkSource) → is_plain s ≡ true → IsFoundStill t l s → held_by t (Node (LinkField l.side) l.node) ≡ l.child
still_child t l (Bundle entry) plain is = cc
still_child t l (Plain None above below) plain is = is
still_child t l (Plain (Some tag) above below) plain is = is.0

unwalked : (r : Reading) (k : ℕ) (side : Side) (x : ℕ) → walked false r k side x ≡ r
unwalked r k side x = refl

-- a node that was locked is locked still
pub gap_locked : (v w : View) (node : ℕ) → KeepsSearch v w → IsLockedBy v node → IsLockedBy w node
gap_locked v w node keeps by =
    let on = keeps.places.trying by.number by.nodes by.trying in
    record { number = by.number; nodes = by.nodes; trying = on; locked = subst (λ (ks : List ℕ). 0 < count node ks) (by.trying.locked ∙ sym on.locked) by.locked }

module _ (laws : SearchLaws) (p : Pass) (live : IsLiveView p.view) (node : ℕ) (by : IsLockedBy p.view node) where
  abbrev v : View
  v = p.view

  pub there : node ≤ v.layout.nodes
  there = locked_high v live node by.locked

  abbrev at_node : LooksAtNode v.layout v p.seat node
  at_node = look v.layout v p.seat by.number node by.nodes by.trying by.locked

  -- at its mark
  module _ (marked : Bool) (w : View) (loads : HasLoadedMark p node marked w) where
    pub mark_keeps_search : KeepsSearch v w
    mark_keeps_search =
        subst (KeepsSearch v) (sym loads.view)
        (record { places = mark_places laws v node loads.found; looks = (laws.looks v).mark node loads.found (mark_again p by.number by.nodes by.trying node there loads.found w loads.event) })

    pub mark_reads : w.reading ≡ v.reading
    mark_reads = ap (λ (u : View). u.reading) loads.view

    pub mark_teaches : LearnsNothing v w
    mark_teaches = subst (LearnsNothing v) (sym loads.view) (mark_learns v node loads.found)

    pub mark_clear : marked ≡ false → IsUnmarked w node
    mark_clear is = subst (λ (u : View). IsUnmarked u node) (sym loads.view) (subst (λ x. IsUnmarked (mark_loaded v node x) node) (sym (loads.clear is)) at_node.mark.1)

  -- at its key and its value
  module _ (x : ℕ) (w : View) where
    module _ (view : w ≡ pair_loaded v Key node x) (h : Happened v.layout (loading_pair p Key node) v x w) where
      pub key_keeps_search : KeepsSearch v w
      key_keeps_search =
          subst (KeepsSearch v) (sym view) (record { places = key_places laws v node x; looks = (laws.looks v).key node x (key_again p by.number by.nodes by.trying node there x w h) })

      pub key_teaches : LearnsNothing v w
      key_teaches = subst (LearnsNothing v) (sym view) (key_learns v node x)

      pub key_loaded : HasLoaded w node (λ (n : HeldNode). n.key) x
      key_loaded = subst (λ (u : View). HasLoaded u node (λ (n : HeldNode). n.key) x) (sym view) (at_node.key x).1

      -- it is the one that the search knows
      pub key_known : (key : ℕ) → KnowsKey v node key → x ≡ key
      key_known key known =
          let t : Table = table v.layout h.words h.views in
          let keys : HasKeys t v = laws.keys t p.seat v h.rule (item_at h.views p.seat v h.seat) (before_raise v by.number by.nodes by.trying) in
          let word : held_by t (Node Key node) ≡ x = happened_word v.layout (loading_pair p Key node) v w x (Node Key node) (node_word v.layout Key node there) refl tt h in
          elim known as (λ _. x ≡ key) [
            | inl place ↦ sym word ∙ keys.place node key place
            | inr turn ↦ sym word ∙ keys.turn turn.0 (record { node = node; key = key }) turn.1
          ]

    module _ (view : w ≡ pair_loaded v Val node x) (h : Happened v.layout (loading_pair p Val node) v x w) where
      pub val_keeps_search : KeepsSearch v w
      val_keeps_search =
          subst (KeepsSearch v) (sym view)
          (record {
            places = record { keeps = (laws.steps v).val node x; trying = (laws.loads v).val node x; waits = refl };
            looks = (laws.looks v).val node x (val_again p by.number by.nodes by.trying node there x w h);
          })

      pub val_teaches : LearnsNothing v w
      val_teaches = subst (LearnsNothing v) (sym view) (val_learns v node x)

      pub val_loaded : HasLoaded w node (λ (n : HeldNode). n.val) x
      val_loaded = subst (λ (u : View). HasLoaded u node (λ (n : HeldNode). n.val) x) (sym view) (at_node.val x).1

  -- at a plain link
  module _ (side : Side) (root : node ≡ 0 → side ≡ Right) (unmarked : IsUnmarked v node) where
    pub may_look_link : MayReadLink v node side
    may_look_link = record { inside = by.trying.working.inside; on = inl (firm-link v by.number by.nodes node side by.trying by.locked root unmarked) }

    module _ (x : ℕ) (w : View) (view : w ≡ link_loaded v node side x) (h : Happened v.layout (loading_link p node side) v x w) where
      pub link_keeps_search : KeepsSearch v w
      link_keeps_search =
          subst (KeepsSearch v) (sym view)
          (record { places = link_places laws v node x side; looks = (laws.looks v).link node x side (link_again p by.number by.nodes by.trying node there x w side h) })

      pub link_reads : searches_at v.reading v.reading.place node side ≡ false → w.reading ≡ v.reading
      link_reads off = ap (λ (u : View). u.reading) view ∙ ap (λ b. walked b v.reading node side x) off ∙ unwalked v.reading node side x

      pub link_teaches : LearnsAt (record { node = node; side = side }) v w
      link_teaches = subst (LearnsAt (record { node = node; side = side }) v) (sym view) (link_learns v node x side)

      pub link_leads : HoldsLink w node side x
      link_leads = subst (λ (u : View). HoldsLink u node side x) (sym view) (at_node.link side x root unmarked).1

      -- the child is another one than the search has found
      module _ (child : ℕ) (found : RemembersLink v (record { node = node; side = side }) child) (other : ¬ (x ≡ child)) where
        abbrev t : Table
        t = table v.layout h.words h.views

        pub link_counts : ¬ KnowsLink v node side → HasRisen v.counts.moves w.counts.moves
        link_counts first =
            risen_by v.counts.moves w.counts.moves _
            ((laws.failures t (loading_link p node side) v w by.number h.rule h.met h.seat h.view by.trying.working (before v by.number by.nodes by.trying)).link node side refl
            (word_named v.layout (Node (LinkField side) node) (node_word v.layout (LinkField side) node there))
            (record {
              place = found.place;
              link = found.link;
              is = found.is;
              node_is = found.node_is;
              side_is = found.side_is;
              plain = found.plain;
              apart = λ same. other (sym (link_word p by.number by.nodes by.trying node there x w side h) ∙ sym same ∙ found.child_is);
            })
            first)

        pub link_not_alone : ¬ IsAlone w
        link_not_alone alone =
            let still : IsStill t v = laws.still t p.seat v h.rule (item_at h.views p.seat v h.seat) (sym (ap (λ (u : View). u.layout.passes) view) ∙ alone) (before_raise v by.number by.nodes by.trying) in
            let word = still_child t found.link found.link.source found.plain (every_item (λ (l : ViewLink). IsFoundStill t l l.source) v.reading.links found.place found.link found.is still.links) in
            other (sym (link_word p by.number by.nodes by.trying node there x w side h)
            ∙ ap (λ k. held_by t (Node (LinkField side) k)) (sym found.node_is) ∙ ap (λ s. held_by t (Node (LinkField s) found.link.node)) (sym found.side_is) ∙ word ∙ found.child_is)

  -- at the tag of a null link
  module _ (side : Side) (x : ℕ) (w : View) (view : w ≡ tag_loaded v node side x) (h : Happened v.layout (loading_tag p node side) v x w) where
    pub tag_keeps_search : ¬ KnowsTag v node side → KeepsSearch v w
    tag_keeps_search first =
        subst (KeepsSearch v) (sym view) (record { places = tag_places laws v node x side; looks = (laws.looks v).tag node x side (λ k. absurd (first k)) })

    pub tag_gap : (key : ℕ) → HoldsLink v node side 0 → RemembersGap v node side x key → HoldsGap w node side key
    tag_gap key null gap = subst (λ (u : View). HoldsGap u node side key) (sym view) (at_node.tag side x key null gap).1

    abbrev tt_table : Table
    tt_table = table v.layout h.words h.views

    tag_word : held_by tt_table (Node (Tag side) node) ≡ x
    tag_word = happened_word v.layout (loading_tag p node side) v w x (Node (Tag side) node) (node_word v.layout (Tag side) node there) refl tt h

    -- the tag is another one than the search has found
    module _ (tag : ℕ) (above below : Option ℕ) (found : RemembersNull v (record { node = node; side = side }) tag above below) (other : ¬ (x ≡ tag)) where
      other_tag : is_other_tag (held_by tt_table (Node (Tag side) node)) found.link.source ≡ true
      other_tag = ap (is_other_tag (held_by tt_table (Node (Tag side) node))) found.source ∙ ap not (ne_eqb tag (held_by tt_table (Node (Tag side) node)) (λ same. other (sym tag_word ∙ sym same)))

      pub tag_counts : ¬ KnowsTag v node side → HasRisen v.counts.moves w.counts.moves
      tag_counts first =
          risen_by v.counts.moves w.counts.moves _
          ((laws.failures tt_table (loading_tag p node side) v w by.number h.rule h.met h.seat h.view by.trying.working (before v by.number by.nodes by.trying)).tag node side refl
          (word_named v.layout (Node (Tag side) node) (node_word v.layout (Tag side) node there))
          (record { place = found.place; link = found.link; is = found.is; node_is = found.node_is; side_is = found.side_is; other = other_tag })
          first)

      pub tag_not_alone : ¬ IsAlone w
      tag_not_alone alone =
          let still : IsStill tt_table v = laws.still tt_table p.seat v h.rule (item_at h.views p.seat v h.seat) (sym (ap (λ (u : View). u.layout.passes) view) ∙ alone) (before_raise v by.number by.nodes by.trying) in
          let both : IsFoundStill tt_table found.link (Plain (Some tag) above below)
          = subst (IsFoundStill tt_table found.link) found.source (every_item (λ (l : ViewLink). IsFoundStill tt_table l l.source) v.reading.links found.place found.link found.is still.links) in
          other (sym tag_word
          ∙ ap (λ k. held_by tt_table (Node (Tag side) k)) (sym found.node_is) ∙ ap (λ s. held_by tt_table (Node (Tag s) found.link.node)) (sym found.side_is) ∙ both.1)
