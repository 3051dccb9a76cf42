-- What a seat knows of the plain links and the tags of the nodes that it has locked, where it loads or stores something
-- else of them.
use Rattle.std.proofs.Common.{◌≡◌, ℕ, ◌⊎◌, cond, List, [], ◌∷◌, ◌++◌, map, Bool, true, false, eqb, ◌&&◌, ◌||◌, refl, ap, ◌∙◌, sym, inl, inr, Some}
use Rattle.std.specs.List.{list_any}
use Rattle.std.proofs.lemmas.Bool.{and_parts, and_from, eqb-true, eq-eqb}
use Rattle.std.proofs.lemmas.Option.{IfSome_then}
use Rattle.index_words.specs.declared.side.Side.{Side}
use Rattle.index_words.specs.declared.side.Side.TheVariants.{Left, Right}
use Rattle.index_words.specs.declared.view.reading.Link.{Link as ViewLink}
use Rattle.index_words.specs.declared.view.reading.LinkSource.{LinkSource}
use Rattle.index_words.specs.declared.view.reading.LinkSource.TheVariants.{Bundle, Plain}
use Rattle.index_words.specs.declared.view.update.HeldNode.{HeldNode}
use Rattle.index_words.specs.declared.view.update.LoadedHead.{LoadedHead}
use Rattle.index_words.specs.declared.word.Field.{Field}
use Rattle.index_words.specs.declared.word.Field.TheVariants.{Key, Val}
use Rattle.key_map.specs.Lists.{Every}
use Rattle.core_grace.specs.Batches.{is_number}
use Rattle.core_trees.specs.SpelledTree.{Graph}
use Rattle.core_events.specs.LoadMoves.{locks, found_at, node_known, head_found}
use Rattle.core_events.specs.LockMoves.{mark_known, pair_known}
use Rattle.core_events.specs.PlainMoves.{link_known, link_known_at, tag_known, tag_known_at}
use Rattle.core_events.specs.Searches.{held_side, knows_link, knows_tag}
use Rattle.core_events.specs.UpdateMoves.{known_at, head_known}
use Rattle.core_events.proofs.Tests.{never}
use Rattle.core_invariant.specs.StillRule.{IsSourceKnown, IsLinkKnown}
use Rattle.core_invariant.proofs.Frames.{every_map}

-- what is known with the second nodes is at least what is known with the first ones, of the words that the links and
-- tags hold
pub record KeepsKnown (g : Graph) (tag : Side → ℕ → ℕ) (hs hs' : List HeldNode) : Type 0 where
  pub links : (k : ℕ) (side : Side) → knows_link hs k side (g.child side k) ≡ true → knows_link hs' k side (g.child side k) ≡ true
  pub tags : (k : ℕ) (side : Side) → knows_tag hs k side (tag side k) ≡ true → knows_tag hs' k side (tag side k) ≡ true

pub same_known : (g : Graph) (tag : Side → ℕ → ℕ) (hs hs' : List HeldNode) → hs' ≡ hs → KeepsKnown g tag hs hs'
same_known g tag hs hs' same = record {
  links = λ k side is. ap (λ (ys : List HeldNode). knows_link ys k side (g.child side k)) same ∙ is;
  tags = λ k side is. ap (λ (ys : List HeldNode). knows_tag ys k side (tag side k)) same ∙ is;
}

-- so links that are known with the first ones are known with the second ones
module _ (g : Graph) (tag : Side → ℕ → ℕ) (hs hs' : List HeldNode) (keeps : KeepsKnown g tag hs hs') where
  source_known : (node : ℕ) (side : Side) (child : ℕ) (s : LinkSource) → IsSourceKnown hs node side (g.child side node) (tag side node) child s
      → IsSourceKnown hs' node side (g.child side node) (tag side node) child s
  source_known node side child (Bundle entry) is = tt
  source_known node side child (Plain found above below) is = (
    elim is.0 as (λ _. (g.child side node ≡ child) ⊎ (knows_link hs' node side (g.child side node) ≡ true))
        [ inl same ↦ inl same | inr known ↦ inr (keeps.links node side known) ],
    IfSome_then found is.1 (λ x told. elim told as (λ _. (tag side node ≡ x) ⊎ (knows_tag hs' node side (tag side node) ≡ true))
        [ inl same ↦ inl same | inr known ↦ inr (keeps.tags node side known) ]),
  )

  pub links_known : (ls : List ViewLink) → Every (IsLinkKnown g tag hs) ls → Every (IsLinkKnown g tag hs') ls
  links_known ls all = every_map (IsLinkKnown g tag hs) (IsLinkKnown g tag hs') ls (λ l is. source_known l.node l.side l.child l.source is) all

either : (a b c d : Bool) → (a ≡ true → c ≡ true) → (b ≡ true → d ≡ true) → (a || b) ≡ true → (c || d) ≡ true
either true b c d first rest is = ap (λ y. y || d) (first refl)
either false b true d first rest is = refl
either false b false d first rest is = rest is

pub any_mapped : (test test' : HeldNode → Bool) (f : HeldNode → HeldNode) (hs : List HeldNode) → ((h : HeldNode) → test h ≡ true → test' (f h) ≡ true)
    → list_any test hs ≡ true → list_any test' (map f hs) ≡ true
any_mapped test test' f [] step is = is
any_mapped test test' f (h ∷ hs) step is =
    either (test h) (list_any test hs) (test' (f h)) (list_any test' (map f hs)) (step h) (any_mapped test test' f hs step) is

any_pushed : (test : HeldNode → Bool) (hs : List HeldNode) (h : HeldNode) → list_any test hs ≡ true → list_any test (hs ++ h ∷ []) ≡ true
any_pushed test [] h is = absurd (never is)
any_pushed test (y ∷ hs) h is = either (test y) (list_any test hs) (test y) (list_any test (hs ++ h ∷ [])) (λ some. some) (any_pushed test hs h) is

pub pushed_known : (g : Graph) (tag : Side → ℕ → ℕ) (hs : List HeldNode) (h : HeldNode) → KeepsKnown g tag hs (hs ++ h ∷ [])
pushed_known g tag hs h = record {
  links = λ k side. any_pushed (λ (y : HeldNode). eqb y.node k && is_number (g.child side k) (held_side side y).link) hs h;
  tags = λ k side. any_pushed (λ (y : HeldNode). eqb y.node k && is_number (tag side k) (held_side side y).tag) hs h;
}

-- what is known of the plain links of a locked node
pub record SamePlain (h h' : HeldNode) : Type 0 where
  pub node : h'.node ≡ h.node
  pub links : (side : Side) → (held_side side h').link ≡ (held_side side h).link
  pub tags : (side : Side) → (held_side side h').tag ≡ (held_side side h).tag

by_sides : (h h' : HeldNode) → h'.node ≡ h.node → h'.left.link ≡ h.left.link → h'.right.link ≡ h.right.link → h'.left.tag ≡ h.left.tag
    → h'.right.tag ≡ h.right.tag → SamePlain h h'
by_sides h h' node ll rl lt rt = record { node = node; links = link_of; tags = tag_of }
  where
    link_of : (side : Side) → (held_side side h').link ≡ (held_side side h).link
    link_of Left = ll
    link_of Right = rl

    tag_of : (side : Side) → (held_side side h').tag ≡ (held_side side h).tag
    tag_of Left = lt
    tag_of Right = rt

same_plain : (h : HeldNode) → SamePlain h h
same_plain h = by_sides h h refl refl refl refl refl

-- where it stays so of each node, as much is known
pub mapped_known : (g : Graph) (tag : Side → ℕ → ℕ) (f : HeldNode → HeldNode) (hs : List HeldNode) → ((h : HeldNode) → SamePlain h (f h))
    → KeepsKnown g tag hs (map f hs)
mapped_known g tag f hs same = record {
  links = λ k side.
      any_mapped (λ (y : HeldNode). eqb y.node k && is_number (g.child side k) (held_side side y).link)
      (λ (y : HeldNode). eqb y.node k && is_number (g.child side k) (held_side side y).link) f hs
      (λ h is. ap (λ n. eqb n k && is_number (g.child side k) (held_side side (f h)).link) (same h).node
      ∙ (ap (λ o. eqb h.node k && is_number (g.child side k) o) ((same h).links side) ∙ is));
  tags = λ k side.
      any_mapped (λ (y : HeldNode). eqb y.node k && is_number (tag side k) (held_side side y).tag)
      (λ (y : HeldNode). eqb y.node k && is_number (tag side k) (held_side side y).tag) f hs
      (λ h is. ap (λ n. eqb n k && is_number (tag side k) (held_side side (f h)).tag) (same h).node
      ∙ (ap (λ o. eqb h.node k && is_number (tag side k) o) ((same h).tags side) ∙ is));
}

-- the loads and stores of other things
pub found_plain : (k : ℕ) (side : Side) (e : ℕ) (h : HeldNode) → SamePlain h (found_at k side e h)
found_plain k side e h = by side (eqb h.node k)
  where
    by : (s : Side) (b : Bool) → SamePlain h (cond b (head_found s e h) h)
    by Left true = by_sides h (head_found Left e h) refl refl refl refl refl
    by Right true = by_sides h (head_found Right e h) refl refl refl refl refl
    by s false = same_plain h

pub numbered_plain : (e x : ℕ) (h : HeldNode) → SamePlain h (node_known e x h)
numbered_plain e x h = by_sides h (node_known e x h) refl refl refl refl refl

pub prepared_plain : (k : ℕ) (side : Side) (l : LoadedHead) (h : HeldNode) → SamePlain h (known_at k side l h)
prepared_plain k side l h = by side (eqb h.node k)
  where
    by : (s : Side) (b : Bool) → SamePlain h (cond b (head_known s l h) h)
    by Left true = by_sides h (head_known Left l h) refl refl refl refl refl
    by Right true = by_sides h (head_known Right l h) refl refl refl refl refl
    by s false = same_plain h

pub marked_plain : (k x : ℕ) (h : HeldNode) → SamePlain h (mark_known k x h)
marked_plain k x h = by (eqb h.node k)
  where
    by : (b : Bool) → SamePlain h (cond b (record h { mark = Some x }) h)
    by true = by_sides h (record h { mark = Some x }) refl refl refl refl refl
    by false = same_plain h

pub paired_plain : (f : Field) (k x : ℕ) (h : HeldNode) → SamePlain h (pair_known f k x h)
paired_plain Key k x h = by (eqb h.node k)
  where
    by : (b : Bool) → SamePlain h (cond b (record h { key = Some x }) h)
    by true = by_sides h (record h { key = Some x }) refl refl refl refl refl
    by false = same_plain h
paired_plain Val k x h = by (eqb h.node k)
  where
    by : (b : Bool) → SamePlain h (cond b (record h { val = Some x }) h)
    by true = by_sides h (record h { val = Some x }) refl refl refl refl refl
    by false = same_plain h
paired_plain _ k x h = same_plain h

-- a plain link that is loaded or stored: what is known of another link stays, and of this one its value is known
link_test : (k : ℕ) (side : Side) (x j : ℕ) (t : Side) (y : ℕ) (h : HeldNode) → (j ≡ k → t ≡ side → x ≡ y)
    → (eqb h.node j && is_number y (held_side t h).link) ≡ true
    → (eqb (link_known_at k side x h).node j && is_number y (held_side t (link_known_at k side x h)).link) ≡ true
link_test k side x j t y h same is = by side t (eqb h.node k) refl same is
  where
    by : (s t : Side) (b : Bool) → eqb h.node k ≡ b → (j ≡ k → t ≡ s → x ≡ y) → (eqb h.node j && is_number y (held_side t h).link) ≡ true
        → (eqb (cond b (link_known s x h) h).node j && is_number y (held_side t (cond b (link_known s x h) h)).link) ≡ true
    by s t false off same is = is
    by Left Left true on same is =
        let node = (and_parts (eqb h.node j) (is_number y h.left.link) is).0 in
        and_from (eqb h.node j) (eqb x y) node (eq-eqb x y (same (sym (eqb-true h.node j node) ∙ eqb-true h.node k on) refl))
    by Right Right true on same is =
        let node = (and_parts (eqb h.node j) (is_number y h.right.link) is).0 in
        and_from (eqb h.node j) (eqb x y) node (eq-eqb x y (same (sym (eqb-true h.node j node) ∙ eqb-true h.node k on) refl))
    by Left Right true on same is = is
    by Right Left true on same is = is

tag_test : (k : ℕ) (side : Side) (x j : ℕ) (t : Side) (y : ℕ) (h : HeldNode) → (j ≡ k → t ≡ side → x ≡ y)
    → (eqb h.node j && is_number y (held_side t h).tag) ≡ true
    → (eqb (tag_known_at k side x h).node j && is_number y (held_side t (tag_known_at k side x h)).tag) ≡ true
tag_test k side x j t y h same is = by side t (eqb h.node k) refl same is
  where
    by : (s t : Side) (b : Bool) → eqb h.node k ≡ b → (j ≡ k → t ≡ s → x ≡ y) → (eqb h.node j && is_number y (held_side t h).tag) ≡ true
        → (eqb (cond b (tag_known s x h) h).node j && is_number y (held_side t (cond b (tag_known s x h) h)).tag) ≡ true
    by s t false off same is = is
    by Left Left true on same is =
        let node = (and_parts (eqb h.node j) (is_number y h.left.tag) is).0 in
        and_from (eqb h.node j) (eqb x y) node (eq-eqb x y (same (sym (eqb-true h.node j node) ∙ eqb-true h.node k on) refl))
    by Right Right true on same is =
        let node = (and_parts (eqb h.node j) (is_number y h.right.tag) is).0 in
        and_from (eqb h.node j) (eqb x y) node (eq-eqb x y (same (sym (eqb-true h.node j node) ∙ eqb-true h.node k on) refl))
    by Left Right true on same is = is
    by Right Left true on same is = is

-- at a link nothing changes of the tags, and at a tag nothing of the links
link_tags : (k : ℕ) (side : Side) (x : ℕ) (h : HeldNode) (t : Side)
    → ((link_known_at k side x h).node ≡ h.node) × ((held_side t (link_known_at k side x h)).tag ≡ (held_side t h).tag)
link_tags k side x h t = by side t (eqb h.node k)
  where
    by : (s t : Side) (b : Bool) → ((cond b (link_known s x h) h).node ≡ h.node) × ((held_side t (cond b (link_known s x h) h)).tag ≡ (held_side t h).tag)
    by s t false = (refl, refl)
    by Left Left true = (refl, refl)
    by Right Right true = (refl, refl)
    by Left Right true = (refl, refl)
    by Right Left true = (refl, refl)

tag_links : (k : ℕ) (side : Side) (x : ℕ) (h : HeldNode) (t : Side)
    → ((tag_known_at k side x h).node ≡ h.node) × ((held_side t (tag_known_at k side x h)).link ≡ (held_side t h).link)
tag_links k side x h t = by side t (eqb h.node k)
  where
    by : (s t : Side) (b : Bool) → ((cond b (tag_known s x h) h).node ≡ h.node) × ((held_side t (cond b (tag_known s x h) h)).link ≡ (held_side t h).link)
    by s t false = (refl, refl)
    by Left Left true = (refl, refl)
    by Right Right true = (refl, refl)
    by Left Right true = (refl, refl)
    by Right Left true = (refl, refl)

pub link_kept_tags : (k : ℕ) (side : Side) (x : ℕ) (hs : List HeldNode) (j : ℕ) (t : Side) (y : ℕ) → knows_tag hs j t y ≡ true
    → knows_tag (map (link_known_at k side x) hs) j t y ≡ true
link_kept_tags k side x hs j t y =
    any_mapped (λ (h : HeldNode). eqb h.node j && is_number y (held_side t h).tag)
    (λ (h : HeldNode). eqb h.node j && is_number y (held_side t h).tag) (link_known_at k side x) hs
    (λ h is. ap (λ n. eqb n j && is_number y (held_side t (link_known_at k side x h)).tag) (link_tags k side x h t).0
    ∙ (ap (λ o. eqb h.node j && is_number y o) (link_tags k side x h t).1 ∙ is))

pub tag_kept_links : (k : ℕ) (side : Side) (x : ℕ) (hs : List HeldNode) (j : ℕ) (t : Side) (y : ℕ) → knows_link hs j t y ≡ true
    → knows_link (map (tag_known_at k side x) hs) j t y ≡ true
tag_kept_links k side x hs j t y =
    any_mapped (λ (h : HeldNode). eqb h.node j && is_number y (held_side t h).link)
    (λ (h : HeldNode). eqb h.node j && is_number y (held_side t h).link) (tag_known_at k side x) hs
    (λ h is. ap (λ n. eqb n j && is_number y (held_side t (tag_known_at k side x h)).link) (tag_links k side x h t).0
    ∙ (ap (λ o. eqb h.node j && is_number y o) (tag_links k side x h t).1 ∙ is))

pub link_kept_links : (k : ℕ) (side : Side) (x : ℕ) (hs : List HeldNode) (j : ℕ) (t : Side) (y : ℕ) → (j ≡ k → t ≡ side → x ≡ y) → knows_link hs j t y ≡ true
    → knows_link (map (link_known_at k side x) hs) j t y ≡ true
link_kept_links k side x hs j t y same =
    any_mapped (λ (h : HeldNode). eqb h.node j && is_number y (held_side t h).link)
    (λ (h : HeldNode). eqb h.node j && is_number y (held_side t h).link) (link_known_at k side x) hs
    (λ h is. link_test k side x j t y h same is)

pub tag_kept_tags : (k : ℕ) (side : Side) (x : ℕ) (hs : List HeldNode) (j : ℕ) (t : Side) (y : ℕ) → (j ≡ k → t ≡ side → x ≡ y) → knows_tag hs j t y ≡ true
    → knows_tag (map (tag_known_at k side x) hs) j t y ≡ true
tag_kept_tags k side x hs j t y same =
    any_mapped (λ (h : HeldNode). eqb h.node j && is_number y (held_side t h).tag)
    (λ (h : HeldNode). eqb h.node j && is_number y (held_side t h).tag) (tag_known_at k side x) hs
    (λ h is. tag_test k side x j t y h same is)

-- a link or a tag of a locked node is known from then on
link_here : (k : ℕ) (side : Side) (x : ℕ) (h : HeldNode) → eqb h.node k ≡ true
    → (eqb (link_known_at k side x h).node k && is_number x (held_side side (link_known_at k side x h)).link) ≡ true
link_here k side x h is = by side (eqb h.node k) refl is
  where
    by : (s : Side) (b : Bool) → eqb h.node k ≡ b → b ≡ true
        → (eqb (cond b (link_known s x h) h).node k && is_number x (held_side s (cond b (link_known s x h) h)).link) ≡ true
    by Left true on is = and_from (eqb h.node k) (eqb x x) on (eq-eqb x x refl)
    by Right true on is = and_from (eqb h.node k) (eqb x x) on (eq-eqb x x refl)
    by s false on is = cc

tag_here : (k : ℕ) (side : Side) (x : ℕ) (h : HeldNode) → eqb h.node k ≡ true
    → (eqb (tag_known_at k side x h).node k && is_number x (held_side side (tag_known_at k side x h)).tag) ≡ true
tag_here k side x h is = by side (eqb h.node k) refl is
  where
    by : (s : Side) (b : Bool) → eqb h.node k ≡ b → b ≡ true
        → (eqb (cond b (tag_known s x h) h).node k && is_number x (held_side s (cond b (tag_known s x h) h)).tag) ≡ true
    by Left true on is = and_from (eqb h.node k) (eqb x x) on (eq-eqb x x refl)
    by Right true on is = and_from (eqb h.node k) (eqb x x) on (eq-eqb x x refl)
    by s false on is = cc

pub link_known_here : (k : ℕ) (side : Side) (x : ℕ) (hs : List HeldNode) → locks k hs ≡ true → knows_link (map (link_known_at k side x) hs) k side x ≡ true
link_known_here k side x hs =
    any_mapped (λ (h : HeldNode). eqb h.node k) (λ (h : HeldNode). eqb h.node k && is_number x (held_side side h).link)
    (link_known_at k side x) hs (link_here k side x)

pub tag_known_here : (k : ℕ) (side : Side) (x : ℕ) (hs : List HeldNode) → locks k hs ≡ true → knows_tag (map (tag_known_at k side x) hs) k side x ≡ true
tag_known_here k side x hs =
    any_mapped (λ (h : HeldNode). eqb h.node k) (λ (h : HeldNode). eqb h.node k && is_number x (held_side side h).tag)
    (tag_known_at k side x) hs (tag_here k side x)
