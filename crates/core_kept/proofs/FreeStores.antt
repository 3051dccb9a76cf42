-- A store to a word of a free node: the node is not in the plain tree, and no search reaches it. So the plain tree
-- stays, with what searches claim and reach.
use Rattle.std.proofs.Common.{◌≡◌, ℕ, ◌<◌, ◌⊎◌, List, [], ◌∷◌, ◌++◌, Bool, true, false, eqb, ◌||◌, not, arith, refl, ap, ◌∙◌, sym, subst, inl, inr, Option, Some, None, IfSome}
use Rattle.std.specs.List.{All, list_any, flat_map}
use Rattle.std.proofs.lemmas.Bool.{and_parts, eqb-true, cases_lt}
use Rattle.index_words.specs.declared.layout.Layout.{Layout}
use Rattle.index_words.specs.declared.side.Side.{Side}
use Rattle.index_words.specs.declared.side.Side.TheVariants.{Left, Right}
use Rattle.index_words.specs.declared.view.View.{View}
use Rattle.index_words.specs.declared.view.reading.Place.{Place}
use Rattle.index_words.specs.declared.view.reading.Place.TheVariants.{Node as AtNode, Gap}
use Rattle.index_words.specs.declared.view.reading.Link.{Link as ViewLink}
use Rattle.index_words.specs.declared.view.reading.LinkSource.{LinkSource}
use Rattle.index_words.specs.declared.view.reading.LinkSource.TheVariants.{Bundle, Plain}
use Rattle.index_words.specs.declared.view.update.Unlinking.{Unlinking}
use Rattle.index_words.specs.declared.view.update.UnsetLink.{UnsetLink}
use Rattle.index_words.specs.Words.{Memory}
use Rattle.index_words.proofs.Seats.{one_term, at_item}
use Rattle.key_map.specs.Lists.{count, Every, IsItem}
use Rattle.key_map.proofs.Counting.{count-append}
use Rattle.core_grace.specs.Sections.{is_even}
use Rattle.core_grace.specs.Slots.{own_free, nodes_of}
use Rattle.core_trees.specs.NamedTree.{NamedTree}
use Rattle.core_trees.specs.Slots.{occurs}
use Rattle.core_trees.specs.SpelledTree.{Graph, IsSpelled, SameAt}
use Rattle.core_trees.proofs.SpelledTree.{spelled-frame}
use Rattle.core_events.specs.Searches.{turn_key, place_nodes, source_nodes, link_nodes, search_nodes}
use Rattle.core_events.proofs.Tests.{never}
use Rattle.core_invariant.specs.Meanings.{Meaning}
use Rattle.core_invariant.specs.PlainRule.{PlainRight}
use Rattle.core_invariant.specs.PlainTree.{is_item, passes_over, sets_link, undone, NearRight, ItemRight, SeatInTree, IsPlainTree}
use Rattle.core_invariant.specs.Reached.{plain_graph, has_let, HoldsPlain, ReachesRight, ReachRight}
use Rattle.core_invariant.specs.Rule.{Rule}
use Rattle.core_invariant.specs.SearchRule.{unlinks, waits_for, waits, ClaimsAt, PlaceClaims, SourceClaims, LinkClaims, PlaceKey, SourceKeys, LinkKeys, SearchRight}
use Rattle.core_invariant.proofs.Frames.{every_map, all_items}
use Rattle.core_invariant.proofs.OneView.{seat_at}
use Rattle.core_invariant.proofs.Owned.{free_node_alone, free_node_waits}
use Rattle.core_invariant.proofs.TreeNow.{count_slots}
use Rattle.core_kept.proofs.LinkItems.{ItemOf, items_of, by_item, by_copy, SetBy, set_by, near_of, child_there, passes_from}
use Rattle.core_invariant.proofs.Undone.{Passing, any_item, any_from, copied_is, in_one, in_pair_second}
use Rattle.core_kept.proofs.PlainNodes.{plain_clear}
use Rattle.core_kept.proofs.RestingSeats.{rests_search}
use Rattle.core_invariant.proofs.SearchNodes.{links_count, search_count}
use Rattle.plain_trees.specs.Claims.{IsWay, IsWaiting, IsExcepted}
use Rattle.plain_trees.specs.Matching.{IsUnset, IsBypassed}
use Rattle.plain_trees.specs.Points.{point_of, Meets}
use Rattle.plain_trees.specs.Raises.{Extends}
use Rattle.plain_trees.specs.Reaching.{LeadTo}
use Rattle.plain_trees.proofs.Inserts.{still}

-- a child of a node that is reached is reached
lead_push : (g : Graph) (nodes : List ℕ) (a n : ℕ) (w : Side) → 0 < n → LeadTo g nodes a n → LeadTo g (nodes ++ n ∷ []) a (g.child w n)
lead_push g [] a n Left some way = (way, some, inl refl)
lead_push g [] a n Right some way = (way, some, inr refl)
lead_push g (b ∷ bs) a n w some (is, there, inl way) = (is, there, inl (lead_push g bs (g.child Left b) n w some way))
lead_push g (b ∷ bs) a n w some (is, there, inr way) = (is, there, inr (lead_push g bs (g.child Right b) n w some way))

or_first : (a b : Bool) → a ≡ true → (a || b) ≡ true
or_first true b is = refl
or_first false b is = cc

or_second : (a b : Bool) → b ≡ true → (a || b) ≡ true
or_second true b is = refl
or_second false b is = is

module _ (z : Layout) (m : Memory) (vs : List View) (g : Meaning) (rule : Rule z m vs g) (plain : PlainRight m vs g) (W : NamedTree)
    (trees : IsPlainTree (plain_graph m) vs g.tree W)
    (searches : All (SearchRight (plain_graph m) vs g.tree W) vs) (reach : ReachRight z (plain_graph m) vs) (i : ℕ) (v : View) (at : IsItem vs i v) (k : ℕ)
    (free : 0 < count k v.free.nodes)
    (g' : Graph) (same : (j : ℕ) → (j ≡ k → ⊥) → SameAt (plain_graph m) g' j) where
  abbrev gr : Graph
  gr = plain_graph m

  child_same : (j : ℕ) → (j ≡ k → ⊥) → (w : Side) → gr.child w j ≡ g'.child w j
  child_same j apart Left = (same j apart).left
  child_same j apart Right = (same j apart).right

  above_root : 0 < k
  above_root = (free_node_alone z vs g rule.slots i k v at free).1

  top_same : gr.child Right 0 ≡ g'.child Right 0
  top_same = child_same 0 (λ e. omega (arith, above_root, e)) Right

  not_plain : (x : ℕ) → 0 < occurs x W → x ≡ k → ⊥
  not_plain x here e =
      omega (arith, (plain_clear z m vs g rule gr W trees k (subst (λ y. 0 < occurs y W) e here)).free, one_term (own_free nodes_of k) vs i v at, free)

  not_now : (x : ℕ) → 0 < occurs x g.tree → x ≡ k → ⊥
  not_now x here e = omega (arith, subst (λ y. 0 < occurs y g.tree) e here, count_slots k g.tree, (free_node_alone z vs g rule.slots i k v at free).0)

  not_taken : (j x : ℕ) (t : View) → IsItem vs j t → 0 < count x t.update.taken → x ≡ k → ⊥
  not_taken j x t of taken e =
      omega (
        arith,
        (seat_at z m vs g j t of rule).marks.taken k (subst (λ y. 0 < count y t.update.taken) e taken),
        free_node_waits z vs g rule.slots i j k v t at of free,
      )

  -- what a seat reaches
  module _ (t : View) (of : ReachesRight z gr vs t) where
    not_held : (x : ℕ) → HoldsPlain gr t x → x ≡ k → ⊥
    not_held x holds e = omega (arith, of.unheld k (subst (HoldsPlain gr t) e holds), one_term (own_free nodes_of k) vs i v at, free)

    goes_on : (n : ℕ) → HoldsPlain gr t n → (w : Side) → 0 < gr.child w n → HoldsPlain gr t (gr.child w n)
    goes_on n holds w some =
        record {
          inside = holds.inside;
          some = some;
          from = holds.from;
          searched = holds.searched;
          reached = (holds.reached.0 ++ n ∷ [], lead_push gr holds.reached.0 holds.from n w holds.some holds.reached.1);
        }

    lead_back : (x : ℕ) (nodes : List ℕ) (a : ℕ) → (0 < a → HoldsPlain gr t a) → LeadTo g' nodes a x → LeadTo gr nodes a x
    lead_back x [] a holds way = way
    lead_back x (n ∷ ns) a holds (is, there, inl way) =
        let here : HoldsPlain gr t n = subst (HoldsPlain gr t) is (holds (subst (λ y. 0 < y) (sym is) there)) in
        let on : g'.child Left n ≡ gr.child Left n = sym (child_same n (not_held n here) Left) in
        (is, there, inl (lead_back x ns (gr.child Left n) (goes_on n here Left) (subst (λ y. LeadTo g' ns y x) on way)))
    lead_back x (n ∷ ns) a holds (is, there, inr way) =
        let here : HoldsPlain gr t n = subst (HoldsPlain gr t) is (holds (subst (λ y. 0 < y) (sym is) there)) in
        let on : g'.child Right n ≡ gr.child Right n = sym (child_same n (not_held n here) Right) in
        (is, there, inr (lead_back x ns (gr.child Right n) (goes_on n here Right) (subst (λ y. LeadTo g' ns y x) on way)))

    way_back : (x : ℕ) (nodes : List ℕ) (a c : ℕ) → (0 < a → HoldsPlain gr t a) → IsWay g' W x nodes a c → IsWay gr W x nodes a c
    way_back x [] a c holds way = way
    way_back x (n ∷ ns) a c holds (is, there, out, inl on) =
        let here : HoldsPlain gr t n = subst (HoldsPlain gr t) is (holds (subst (λ y. 0 < y) (sym is) there)) in
        let at_n = same n (not_held n here) in (
          is,
          there,
          out,
          inl (
            subst (λ y. x < point_of y) (sym at_n.key) on.0,
            way_back x ns (gr.child Left n) c (goes_on n here Left) (subst (λ y. IsWay g' W x ns y c) (sym at_n.left) on.1),
          ),
        )
    way_back x (n ∷ ns) a c holds (is, there, out, inr on) =
        let here : HoldsPlain gr t n = subst (HoldsPlain gr t) is (holds (subst (λ y. 0 < y) (sym is) there)) in
        let at_n = same n (not_held n here) in (
          is,
          there,
          out,
          inr (
            subst (λ y. point_of y < x) (sym at_n.key) on.0,
            way_back x ns (gr.child Right n) c (goes_on n here Right) (subst (λ y. IsWay g' W x ns y c) (sym at_n.right) on.1),
          ),
        )

    holds_back : (x : ℕ) → HoldsPlain g' t x → HoldsPlain gr t x
    holds_back x holds =
        let searched : 0 < count holds.from (search_nodes (gr.child Right 0) t.reading)
        = subst (λ y. 0 < count holds.from (search_nodes y t.reading)) (sym top_same) holds.searched in
        record {
          inside = holds.inside;
          some = holds.some;
          from = holds.from;
          searched = searched;
          reached = (
            holds.reached.0,
            lead_back x holds.reached.0 holds.from (λ some.
                record { inside = holds.inside; some = some; from = holds.from; searched = searched; reached = ([], refl) }) holds.reached.1,
          );
        }

    pub reaches_framed : ReachesRight z g' vs t
    reaches_framed = record {
      there = λ x holds. of.there x (holds_back x holds);
      unheld = λ x holds. of.unheld x (holds_back x holds);
      apart = λ x holds. of.apart x (holds_back x holds);
      own = λ raised x holds. of.own raised x (holds_back x holds);
      grace = λ j d within x holds some. of.grace j d within x (holds_back x holds) some;
    }

    -- what it claims
    abbrev C : Option ℕ → Option ℕ → ℕ → Type 0
    C = ClaimsAt gr vs W t

    abbrev C' : Option ℕ → Option ℕ → ℕ → Type 0
    C' = ClaimsAt g' vs W t

    removed_apart : (r s : ℕ) → waits vs t r s ≡ true → r ≡ k → ⊥
    removed_apart r s waiting =
        let p : Passing (waits_for t r s) vs = any_item (waits_for t r s) vs waiting in
        let unlinked : unlinks r s p.item.update.unlinking ≡ true
        = (and_parts (unlinks r s p.item.update.unlinking) (not (has_let p.item.update.waiting t.number t.section_word)) p.passes).0 in
        not_taken p.place r p.item p.at (by p.item.update.taken p.item.update.unlinking
        (at_item (SeatInTree gr W g.tree) vs p.place p.item p.at trees.seats).far unlinked)
      where
        by : (taken : List ℕ) (o : Option Unlinking) → IfSome o (λ u. taken ≡ u.replaced ∷ u.successor ∷ []) → unlinks r s o ≡ true → 0 < count r taken
        by taken None far is = absurd (never is)
        by taken (Some u) far is =
            subst (λ (ks : List ℕ). 0 < count r ks) (sym far)
            (subst (λ n. 0 < count n (u.replaced ∷ u.successor ∷ [])) (eqb-true u.replaced r (and_parts (eqb u.replaced r) (eqb u.successor s) is).0)
            (in_one u.replaced (u.successor ∷ [])))

    claims_framed : (low high : Option ℕ) (a : ℕ) → (0 < a → HoldsPlain gr t a) → C low high a → C' low high a
    claims_framed low high a holds claims x inside nodes c way here =
        elim (claims x inside nodes c (way_back x nodes a c holds way) here)
        as (λ _. Meets x c W ⊎ IsExcepted g' (IsBypassed (undone g' vs)) (IsWaiting (waits vs t)) W x c) [
          | inl met ↦ inl met
          | inr e ↦ inr (record {
            removed = e.removed;
            successor = e.successor;
            waiting = e.waiting;
            above = subst (λ y. point_of y < x) (same e.removed (removed_apart e.removed e.successor e.waiting)).key e.above;
            leads = e.leads;
          })
        ]

    -- inside a section it holds the nodes of its search
    module _ (inside : is_even t.section_word ≡ false) (before : SearchRight gr vs g.tree W t) where
      search_held : (a : ℕ) → 0 < count a (search_nodes (gr.child Right 0) t.reading) → 0 < a → HoldsPlain gr t a
      search_held a searched some = record { inside = inside; some = some; from = a; searched = searched; reached = ([], refl) }

      place_held : (a : ℕ) → 0 < count a (place_nodes (gr.child Right 0) t.reading.place) → 0 < a → HoldsPlain gr t a
      place_held a here = search_held a (omega (arith, here, search_count a (gr.child Right 0) t.reading))

      link_held : (a : ℕ) → 0 < links_count a t.reading.links → 0 < a → HoldsPlain gr t a
      link_held a here = search_held a (omega (arith, here, search_count a (gr.child Right 0) t.reading))

      key_by : (node : ℕ) (key : Option ℕ) → (node ≡ k → ⊥) → IfSome key (λ x. gr.key node ≡ x) → IfSome key (λ x. g'.key node ≡ x)
      key_by node None apart is = tt
      key_by node (Some x) apart is = sym (same node apart).key ∙ is

      place_key : (p : Place) → ((a : ℕ) → 0 < count a (place_nodes (gr.child Right 0) p) → 0 < a → HoldsPlain gr t a) → PlaceKey gr.key p → PlaceKey g'.key p
      place_key (AtNode node key) held is = (is.0, key_by node key (not_held node (held node (in_one node []) is.0)) is.1)
      place_key _ held is = tt

      source_keys : (node : ℕ) (side : Side) (s : LinkSource) → ((a : ℕ) → 0 < count a (source_nodes node s) → 0 < a → HoldsPlain gr t a)
          → SourceKeys gr.key node side s → SourceKeys g'.key node side s
      source_keys node side (Bundle entry) held is = tt
      source_keys node side (Plain tag above below) held is =
          (is.0, λ some. is.1 some ∙ ap (λ x. Some x) (same node (not_held node (held node (in_one node []) (above_zero node some)))).key)
        where
          above_zero : (n : ℕ) → (n ≡ 0 → ⊥) → 0 < n
          above_zero n some = elim (cases_lt 0 n) as (λ _. 0 < n) [ inl more ↦ more | inr none ↦ absurd (some (omega (arith, none))) ]

      place_claims : (low high : Option ℕ) (p : Place) → ((a : ℕ) → 0 < count a (place_nodes (gr.child Right 0) p) → 0 < a → HoldsPlain gr t a)
          → PlaceClaims C low high p → PlaceClaims C' low high p
      place_claims low high (Gap node side) held is = claims_framed low high node (held node (in_one node [])) is
      place_claims low high (AtNode node key) held is = claims_framed low high node (held node (in_one node [])) is
      place_claims low high _ held is = tt

      source_claims : (node child : ℕ) (s : LinkSource) → ((a : ℕ) → 0 < count a (source_nodes node s) → 0 < a → HoldsPlain gr t a)
          → SourceClaims C node child s → SourceClaims C' node child s
      source_claims node child (Bundle entry) held is = tt
      source_claims node child (Plain tag above below) held is = λ null. claims_framed below above node (held node (in_one node [])) (is null)

      -- of each link that it remembers
      each_link : (P Q : ViewLink → Type 0) → ((l : ViewLink) → ((a : ℕ) → 0 < count a (link_nodes l) → 0 < a → HoldsPlain gr t a) → P l → Q l)
          → (ls : List ViewLink) → ((a : ℕ) → 0 < links_count a ls → 0 < a → HoldsPlain gr t a) → Every P ls → Every Q ls
      each_link P Q step [] held all = tt
      each_link P Q step (l ∷ ls) held all = (
        step l (λ a here. held a (omega (arith, here, count-append a (link_nodes l) (flat_map link_nodes ls)))) all.0,
        each_link P Q step ls (λ a here. held a (omega (arith, here, count-append a (link_nodes l) (flat_map link_nodes ls)))) all.1,
      )

      search_inside : SearchRight g' vs g.tree W t
      search_inside = record {
        ahead = λ j holds here. before.ahead j (holds_back j holds) here;
        key = place_key t.reading.place place_held before.key;
        keys = each_link (LinkKeys gr.key) (LinkKeys g'.key) (λ l held is. source_keys l.node l.side l.source held is) t.reading.links link_held before.keys;
        place = λ raised. place_claims (turn_key t.reading.right_turn) (turn_key t.reading.left_turn) t.reading.place place_held (before.place raised);
        links = λ raised.
            each_link (LinkClaims C) (LinkClaims C') (λ l held is. source_claims l.node l.child l.source held is) t.reading.links
            link_held (before.links raised);
      }

  search_framed : (j : ℕ) (t : View) → IsItem vs j t → SearchRight gr vs g.tree W t → SearchRight g' vs g.tree W t
  search_framed j t of before = by (is_even t.section_word) refl
    where
      by : (b : Bool) → is_even t.section_word ≡ b → SearchRight g' vs g.tree W t
      by true even = rests_search g' vs g.tree W t ((seat_at z m vs g j t of rule).section.outside even) even
      by false odd = search_inside t (at_item (ReachesRight z gr vs) vs j t of reach) odd before

  -- what the updates have still to do
  extends : Extends (undone gr vs) (undone g' vs)
  extends = record { links = links; outs = λ j is. is; passes = λ j is. is; heirs = λ n s is. is }
    where
      by : (j : ℕ) (side : Side) (was child : ℕ) → SetBy z m vs g rule plain W trees j side was child → IsUnset (undone g' vs) j side was child
      by j side was child (by_item l t of a) =
          any_from (sets_link (g'.child Right) j side was child) vs l t of
          (or_first (list_any (is_item j side was child) t.update.unset)
          (passes_over t.update.taken t.update.unlinking t.update.unset (g'.child Right) j side was child) a.some)
      by j side was child (by_copy l t of p f) =
          let c = copied_is p.removed j f.item f.passes in
          let near = near_of z m vs g rule plain W trees t p.removed p.successor j f.item p.out p.near f.right c.0 c.1 in
          let leads_here = f.right.0.asked ∙ c.1 in
          let there : 0 < occurs j g.tree
          = subst (λ n. 0 < occurs n g.tree) leads_here
          (child_there z m vs g rule plain W trees f.item.node f.item.side f.right.0.there (subst (λ n. 0 < n) (sym leads_here) near.there)) in
          any_from (sets_link (g'.child Right) j side was child) vs l t of
          (or_second (list_any (is_item j side was child) t.update.unset)
          (passes_over t.update.taken t.update.unlinking t.update.unset (g'.child Right) j side was child)
          (passes_from t.update.taken t.update.unlinking t.update.unset (g'.child Right) j side was child p.removed p.successor
          p.out p.near p.place p.only (p.leads ∙ child_same j (not_now j there) Right) p.copied))

      links : (j : ℕ) (side : Side) (was child : ℕ) → IsUnset (undone gr vs) j side was child → IsUnset (undone g' vs) j side was child
      links j side was child is = by j side was child (set_by z m vs g rule plain W trees j side was child is)

  -- a copy of a near successor
  near_framed : (j : ℕ) (t : View) → IsItem vs j t → (y : UnsetLink) → ItemOf z m vs g rule plain W trees t y → (taken : List ℕ) (o : Option Unlinking)
      → t.update.taken ≡ taken
      → NearRight gr W taken o y.was y.child → NearRight g' W taken o y.was y.child
  near_framed j t of y is (r ∷ s ∷ []) None out near = λ first.
      let c = near first in
      let removed = same r (not_taken j r t of (subst (λ (ks : List ℕ). 0 < count r ks) (sym out) (in_one r (s ∷ [])))) in
      let successor = same s (not_taken j s t of (subst (λ (ks : List ℕ). 0 < count s ks) (sym out) (in_pair_second r s))) in
      let there : 0 < occurs y.child g.tree
      = subst (λ n. 0 < occurs n g.tree) is.0.asked
      (child_there z m vs g rule plain W trees y.node y.side is.0.there (subst (λ n. 0 < n) (sym is.0.asked) c.there)) in
      let copy = same y.child (not_now y.child there) in
      record {
        some = c.some;
        there = c.there;
        new = c.new;
        key = sym successor.key ∙ c.key ∙ copy.key;
        rises = omega (arith, c.rises, removed.key, copy.key);
        bare = sym successor.left ∙ c.bare;
        hangs = sym removed.right ∙ c.hangs;
        behind = subst (λ n. (n ≡ 0) ⊎ (0 < occurs n W)) copy.right c.behind;
      }
  near_framed j t of y is _ _ out near = tt

  seat_framed : (j : ℕ) (t : View) → IsItem vs j t → SeatInTree gr W g.tree t → SeatInTree g' W g.tree t
  seat_framed j t of seat = record {
    locked = seat.locked;
    items = every_map (ItemOf z m vs g rule plain W trees t) (ItemRight g' W t.update.taken t.update.added t.update.unlinking t.update.waiting) t.update.unset
        (λ y is. record {
          goes = is.1.goes;
          moves = is.1.moves;
          leads = is.1.leads;
          near = near_framed j t of y is t.update.taken t.update.unlinking refl is.1.near;
          last = is.1.last;
          early = is.1.early;
        }) (items_of z m vs g rule plain W trees j t of);
    apart = seat.apart;
    first = seat.first;
    far = seat.far;
  }

  pub trees_framed : IsPlainTree g' vs g.tree W
  trees_framed = record {
    spelled = subst (λ c. IsSpelled g' c W) top_same (spelled-frame gr g' (gr.child Right 0) W (λ x here. same x (not_plain x here)) trees.spelled);
    once = trees.once;
    matches = still (undone gr vs) (undone g' vs) extends 0 Right W g.tree trees.matches;
    seats = all_items (SeatInTree gr W g.tree) (SeatInTree g' W g.tree) vs trees.seats seat_framed;
  }

  pub searches_framed : All (SearchRight g' vs g.tree W) vs
  searches_framed = all_items (SearchRight gr vs g.tree W) (SearchRight g' vs g.tree W) vs searches search_framed

  pub reach_framed : ReachRight z g' vs
  reach_framed = all_items (ReachesRight z gr vs) (ReachesRight z g' vs) vs reach (λ j t of is. reaches_framed t is)
