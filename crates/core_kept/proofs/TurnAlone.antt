-- On a table of one pass a seat that holds locks is the only one that can be inside a section; so where it has raised,
-- nothing is said of what stays as it is. A store to a tag keeps what is said of turns.
use Rattle.std.proofs.Common.{◌≡◌, ℕ, ◌<◌, ◌⊎◌, cond, List, true, eqb, ◌&&◌, map, set, arith, refl, ap, ◌∙◌, sym, subst, inl, inr, Option, Some, None}
use Rattle.std.specs.List.{All}
use Rattle.std.proofs.lemmas.Bool.{and_parts, and_from, eq-eqb}
use Rattle.std.proofs.lemmas.Option.{IfSome_then}
use Rattle.index_words.specs.declared.layout.Layout.{Layout}
use Rattle.index_words.specs.declared.side.Side.{Side}
use Rattle.index_words.specs.declared.view.View.{View}
use Rattle.index_words.specs.declared.view.reading.LinkSource.{LinkSource}
use Rattle.index_words.specs.declared.view.reading.LinkSource.TheVariants.{Bundle, Plain}
use Rattle.index_words.specs.declared.view.update.HeldNode.{HeldNode}
use Rattle.index_words.specs.declared.view.update.OwedTag.{OwedTag}
use Rattle.index_words.specs.declared.word.Field.TheVariants.{Mark, Link, Tag}
use Rattle.index_words.specs.declared.word.Part.TheVariants.{Child}
use Rattle.index_words.specs.declared.word.Word.{Word}
use Rattle.index_words.specs.declared.word.Word.TheVariants.{Stamp, Section, Announced, Node, Entry}
use Rattle.index_words.specs.Words.{Memory, memory, written, same_side}
use Rattle.index_words.proofs.Seats.{Beside, at_item, all_moved}
use Rattle.key_map.specs.Lists.{count, IsItem}
use Rattle.core_grace.specs.Batches.{is_number}
use Rattle.core_grace.specs.Holds.{held_slots}
use Rattle.core_grace.specs.Sections.{is_even}
use Rattle.core_trees.specs.NamedTree.{NamedTree}
use Rattle.core_trees.specs.SpelledTree.{Graph}
use Rattle.core_events.specs.declared.event.Kind.TheVariants.{SetTag}
use Rattle.core_events.specs.LoadMoves.{locks}
use Rattle.core_events.specs.PlainNeeds.{owes, may_set_tag}
use Rattle.core_events.specs.PlainMoves.{tag_known_at}
use Rattle.core_events.specs.Searches.{knows_link, knows_tag}
use Rattle.core_events.specs.Steps.{raised_tag_from}
use Rattle.core_events.proofs.Tests.{never}
use Rattle.core_invariant.specs.Locks.{lock_count}
use Rattle.core_invariant.specs.PlainRule.{child_at, SeatPlain}
use Rattle.core_invariant.specs.Reached.{plain_graph}
use Rattle.core_invariant.specs.Rule.{InRule}
use Rattle.core_invariant.specs.SectionRule.{IsOwnWord, SectionRight}
use Rattle.core_invariant.specs.StillRule.{StillRight, IsSourceKnown, IsLinkKnown, KnownRight}
use Rattle.core_invariant.specs.TurnRule.{TurnsRight, LeavesMarked}
use Rattle.core_invariant.proofs.Frames.{every_map}
use Rattle.core_invariant.proofs.Sides.{same_side-refl}
use Rattle.core_invariant.proofs.Locked.{locks-count}
use Rattle.core_invariant.proofs.Idle.{nameless_idle, number_low, number_apart}
use Rattle.core_invariant.proofs.OneView.{seat_at}
use Rattle.core_kept.specs.TurnLaws.{TurnsAfter, KeepsTurnsAt}
use Rattle.core_kept.proofs.KnownHeld.{tag_kept_links, tag_kept_tags, tag_known_here}
use Rattle.core_kept.proofs.PlainSets.{SameLink, equal, other, same_link}
use Rattle.core_kept.proofs.TurnFrames.{none_known, own_leaving, turns_before, with_tree, stored_turns}
use Rattle.core_kept.proofs.TurnSeats.{has_read_nothing}

module _ (z : Layout) (words : List ℕ) (vs : List View) (right : InRule z words vs) (i : ℕ) (v : View) (at : IsItem vs i v) where
  abbrev m : Memory
  m = memory z words

  -- a view that holds a lock has a number
  holder_named : (k : ℕ) → 0 < lock_count k v → v.number ≡ None → ⊥
  holder_named k locked none =
      omega (
        arith,
        locked,
        ap (λ (hs : List HeldNode). count k (held_slots hs))
            (nameless_idle (λ n. m (Section n)) (λ n. m (Announced n)) v (seat_at z m vs right.meaning i v at right.rule).section none).held,
      )

  -- with one pass no other view is inside a section
  others_outside : (k : ℕ) → 0 < lock_count k v → z.passes ≡ 1 → (t : View) → Beside vs i t → is_even t.section_word ≡ true
  others_outside k locked one t beside = by t.number refl v.number refl
    where
      section : SectionRight (λ n. m (Section n)) (λ n. m (Announced n)) t
      section = (seat_at z m vs right.meaning beside.place t beside.at right.rule).section

      by : (o : Option ℕ) → t.number ≡ o → (p : Option ℕ) → v.number ≡ p → is_even t.section_word ≡ true
      by None is p own = ap is_even (subst (λ (o : Option ℕ). IsOwnWord (λ n. m (Section n)) o t.section_word) is section.section)
      by (Some n) is None own = absurd (holder_named k locked own)
      by (Some n) is (Some j) own =
          let low : n < z.passes = number_low z vs beside.place t n right.rule.numbers beside.at is in
          let low' : j < z.passes = number_low z vs i v j right.rule.numbers at own in
          let same : j ≡ n = omega (arith, low, low', one) in
          absurd (never (sym (number_apart z vs i v t n right.rule.numbers at beside is) ∙ (ap (is_number n) own ∙ eq-eqb j n same)))

  -- so nothing is said of what stays as it is
  pub nothing_still : (k : ℕ) → 0 < lock_count k v → (v.update.raised ≡ None → ⊥) → (g : Graph) (tag : Side → ℕ → ℕ) (plain : NamedTree) (x : View)
      → x.update.raised ≡ v.update.raised
      → All (StillRight z g tag plain) (set vs i x)
  nothing_still k locked raise g tag plain x same =
      all_moved (TurnsRight (plain_graph m) right.plain_tree) (StillRight z g tag plain) vs i v x at right.turns
      (λ one inside raised. absurd (raise (sym same ∙ raised)))
      (λ t beside turns one inside raised. absurd (never (sym inside ∙ others_outside k locked one t beside)))

  -- nor of what the other seats know
  pub others_known : (k : ℕ) → 0 < lock_count k v → (g : Graph) (tag : Side → ℕ → ℕ) (t : View) → Beside vs i t → KnownRight z g tag t
  others_known k locked g tag t beside one =
      none_known z g (λ n. 0) tag right.plain_tree t
      (has_read_nothing t ((seat_at z m vs right.meaning beside.place t beside.at right.rule).section.outside (others_outside k locked one t beside))) one

  abbrev gr0 : Graph
  gr0 = plain_graph m

  abbrev tags : Side → ℕ → ℕ
  tags side k = m (Node (Tag side) k)

  abbrev marks : ℕ → ℕ
  marks k = m (Node Mark k)

  -- a view that owes a tag has raised
  owes_raised : (k : ℕ) (side : Side) → owes k side v.update.owed ≡ true → v.update.raised ≡ None → ⊥
  owes_raised k side some none =
      never (subst (λ (os : List OwedTag). owes k side os ≡ true)
      ((at_item (SeatPlain (λ s j. m (Node (Link s) j)) (child_at (λ e. m (Entry Child e)) right.meaning.bundles (m Stamp)) right.meaning.tree) vs i v at
      right.plain.seats).first none).1 some)

  -- the tag is known from then on
  module _ (k : ℕ) (side : Side) (value : ℕ) (locked : locks k v.held.nodes ≡ true) where
    abbrev hs' : List HeldNode
    hs' = map (tag_known_at k side value) v.held.nodes

    abbrev tag_now : Side → ℕ → ℕ
    tag_now s j = written m (Node (Tag side) k) value (Node (Tag s) j)

    tag_by : (node : ℕ) (s : Side) (y : ℕ) → SameLink node k s side → (tags s node ≡ y) ⊎ (knows_tag v.held.nodes node s (tags s node) ≡ true)
        → (tag_now s node ≡ y) ⊎ (knows_tag hs' node s (tag_now s node) ≡ true)
    tag_by node s y (equal same at') is =
        let here : tag_now side k ≡ value
        = ap (λ b. cond b value (m (Node (Tag side) k))) (and_from (same_side side side) (eqb k k) (same_side-refl side) (eq-eqb k k refl)) in
        inr (subst (λ n. knows_tag hs' n s (tag_now s n) ≡ true) (sym same) (subst (λ (t : Side). knows_tag hs' k t (tag_now t k) ≡ true) (sym at')
        (ap (knows_tag hs' k side) here ∙ tag_known_here k side value v.held.nodes locked)))
    tag_by node s y (other off differ) is =
        let same : tag_now s node ≡ tags s node = ap (λ b. cond b value (m (Node (Tag s) node))) off in
        elim is as (λ _. (tag_now s node ≡ y) ⊎ (knows_tag hs' node s (tag_now s node) ≡ true)) [
          | inl was ↦ inl (same ∙ was)
          | inr known ↦ inr (ap (knows_tag hs' node s) same ∙ tag_kept_tags k side value v.held.nodes node s (tags s node) (λ n t. absurd (differ n t)) known)
        ]

    source_after : (node : ℕ) (s : Side) (child : ℕ) (l : LinkSource) → IsSourceKnown v.held.nodes node s (gr0.child s node) (tags s node) child l
        → IsSourceKnown hs' node s (gr0.child s node) (tag_now s node) child l
    source_after node s child (Bundle entry) is = tt
    source_after node s child (Plain found above below) is = (
      elim is.0 as (λ _. (gr0.child s node ≡ child) ⊎ (knows_link hs' node s (gr0.child s node) ≡ true)) [
        | inl same ↦ inl same
        | inr known ↦ inr (tag_kept_links k side value v.held.nodes node s (gr0.child s node) known)
      ],
      IfSome_then found is.1 (λ y told. tag_by node s y (same_link node k s side) told),
    )

    tag_known_after : KnownRight z gr0 tags v → KnownRight z gr0 (λ s j. written m (Node (Tag side) k) value (Node (Tag s) j))
        (raised_tag_from v (Node (Tag side) k) value)
    tag_known_after is one =
        every_map (IsLinkKnown gr0 tags v.held.nodes) (IsLinkKnown gr0 (λ s j. written m (Node (Tag side) k) value (Node (Tag s) j)) hs') v.reading.links
        (λ l was. source_after l.node l.side l.child l.source was) (is one)

  set_tag_at : (u : Word) (value : ℕ) → may_set_tag m v u value ≡ true → TurnsAfter z (written m u value) (set vs i (raised_tag_from v u value))
  set_tag_at (Node (Tag side) k) value met =
      let one = and_parts (locks k v.held.nodes && owes k side v.update.owed) (eqb value _) met in
      let two = and_parts (locks k v.held.nodes) (owes k side v.update.owed) one.0 in
      let x : View = raised_tag_from v (Node (Tag side) k) value in
      let tags' : Side → ℕ → ℕ = λ s j. written m (Node (Tag side) k) value (Node (Tag s) j) in
      let before = turns_before z words vs right in
      let own : TurnsRight gr0 right.plain_tree v = at_item (TurnsRight gr0 right.plain_tree) vs i v at right.turns in
      let locked : 0 < lock_count k v = locks-count k v.held.nodes two.0 in
      with_tree z words vs right marks tags' (set vs i x)
      (record {
        turns =
            all_moved (TurnsRight gr0 right.plain_tree) (TurnsRight gr0 right.plain_tree) vs i v x at right.turns
            own (λ t beside is. is);
        leaving =
            all_moved (LeavesMarked marks right.plain_tree) (LeavesMarked marks right.plain_tree) vs i v x at right.leaving
            (own_leaving z gr0 marks tags right.plain_tree vs i v x at before) (λ t beside is. is);
        still = nothing_still k locked (owes_raised k side two.1) gr0 tags' right.plain_tree x refl;
        known =
            all_moved (KnownRight z gr0 tags) (KnownRight z gr0 tags') vs i v x at right.known
            (tag_known_after k side value two.0 (at_item (KnownRight z gr0 tags) vs i v at right.known))
            (λ t beside is. others_known k locked gr0 tags' t beside);
      })
  set_tag_at _ value met = absurd (never met)

pub set_tag_turns : KeepsTurnsAt SetTag
set_tag_turns z words vs right i v at live n w found value o own met =
    stored_turns z words vs right n w found value (set vs i (raised_tag_from v w value)) (set_tag_at z words vs right i v at w value met)
