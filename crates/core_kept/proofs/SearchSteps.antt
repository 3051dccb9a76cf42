-- What a view's search claims, where the view moves and its search stays where it is, or ends: after each kind of event
-- that leaves plain links as they are.
use Rattle.std.proofs.Common.{◌≡◌, ℕ, cond, List, [], ◌∷◌, map, Bool, true, false, eqb, ◌&&◌, refl, ap, ◌∙◌, Option, Some, None}
use Rattle.std.proofs.lemmas.Bool.{eqb-true}
use Rattle.index_words.specs.declared.side.Side.{Side}
use Rattle.index_words.specs.declared.view.View.{View}
use Rattle.index_words.specs.declared.view.reading.Place.{Place}
use Rattle.index_words.specs.declared.view.reading.Place.TheVariants.{Nowhere, Entry as AtEntry, Node as AtNode, Gap}
use Rattle.index_words.specs.declared.view.reading.Link.{Link as LinkRecord}
use Rattle.index_words.specs.declared.view.reading.LinkSource.{LinkSource}
use Rattle.index_words.specs.declared.view.reading.LinkSource.TheVariants.{Bundle, Plain}
use Rattle.index_words.specs.declared.word.Field.{Field}
use Rattle.index_words.specs.declared.word.Field.TheVariants.{Key}
use Rattle.index_words.specs.Words.{same_side}
use Rattle.key_map.specs.Lists.{has, Every}
use Rattle.core_grace.proofs.RuleMoves.{every_push}
use Rattle.core_events.specs.CutMoves.{place_cut}
use Rattle.core_events.specs.LoadMoves.{remembered_if, bundle_link, place_known, child_links, locks, is_selected}
use Rattle.core_events.specs.LockMoves.{place_locked, place_paired}
use Rattle.core_events.specs.Searches.{tag_found, with_tag}
use Rattle.core_invariant.specs.SearchRule.{PlaceClaims, SourceClaims, LinkClaims, PlaceKey, SourceKeys, LinkKeys}

module _ (C : Option ℕ → Option ℕ → ℕ → Type 0) (key_of : ℕ → ℕ) where
  -- what is said of a place, and of links
  pub record PlaceSaid (low high : Option ℕ) (p : Place) : Type 0 where
    pub claims : PlaceClaims C low high p
    pub key : PlaceKey key_of p

  pub record LinksSaid (ls : List LinkRecord) : Type 0 where
    pub claims : Every (LinkClaims C) ls
    pub keys : Every (LinkKeys key_of) ls

  -- a link that was found through its bundle adds nothing
  pub bundle_said : (b : Bool) (ls : List LinkRecord) (node : ℕ) (side : Side) (child entry : ℕ) → LinksSaid ls
      → LinksSaid (remembered_if b ls (bundle_link node side child entry))
  bundle_said true ls node side child entry said =
      record {
        claims = every_push (LinkClaims C) ls (bundle_link node side child entry) said.claims tt;
        keys = every_push (LinkKeys key_of) ls (bundle_link node side child entry) said.keys tt;
      }
  bundle_said false ls node side child entry said = said

  source_tagged : (node child x : ℕ) (side : Side) (s : LinkSource) → SourceClaims C node child s × SourceKeys key_of node side s
      → SourceClaims C node child (tag_found x s) × SourceKeys key_of node side (tag_found x s)
  source_tagged node child x side (Bundle entry) said = said
  source_tagged node child x side (Plain None above below) said = said
  source_tagged node child x side (Plain (Some tag) above below) said = said

  link_tagged : (x : ℕ) (b : Bool) (l : LinkRecord) → LinkClaims C l × LinkKeys key_of l
      → LinkClaims C (cond b (record l { source = tag_found x l.source }) l) × LinkKeys key_of (cond b (record l { source = tag_found x l.source }) l)
  link_tagged x true l said = source_tagged l.node l.child x l.side l.source said
  link_tagged x false l said = said

  -- nor does a tag
  pub tagged_said : (k : ℕ) (side : Side) (x : ℕ) (ls : List LinkRecord) → LinksSaid ls → LinksSaid (map (with_tag k side x) ls)
  tagged_said k side x [] said = said
  tagged_said k side x (l ∷ ls) said =
      let one = link_tagged x (eqb l.node k && same_side l.side side) l (said.claims.0, said.keys.0) in
      let rest = tagged_said k side x ls (record { claims = said.claims.1; keys = said.keys.1 }) in
      record { claims = (one.0, rest.claims); keys = (one.1, rest.keys) }

  -- the place
  pub known_said : (low high : Option ℕ) (x : ℕ) (p : Place) → PlaceSaid low high p → PlaceSaid low high (place_known x p)
  known_said low high x (AtEntry node side entry found) said = record { claims = tt; key = tt }
  known_said low high x _ said = said

  found_by : (low high : Option ℕ) (k x node : ℕ) (key : Option ℕ) (b : Bool) → eqb node k ≡ b → key_of k ≡ x → PlaceSaid low high (AtNode node key)
      → PlaceSaid low high (cond b (AtNode node (Some x)) (AtNode node key))
  found_by low high k x node key true is word said = record { claims = said.claims; key = (said.key.0, ap key_of (eqb-true node k is) ∙ word) }
  found_by low high k x node key false is word said = said

  pub paired_said : (low high : Option ℕ) (f : Field) (k x : ℕ) (p : Place) → (f ≡ Key → key_of k ≡ x) → PlaceSaid low high p
      → PlaceSaid low high (place_paired f k x p)
  paired_said low high Key k x (AtNode node key) word said = found_by low high k x node key (eqb node k) refl (word refl) said
  paired_said low high _ k x _ word said = said

  entry_said : (low high : Option ℕ) (node entry : ℕ) (side : Side) (found : Option ℕ) (b : Bool)
      → PlaceSaid low high (cond b (AtEntry node side 0 None) (AtEntry node side entry found))
  entry_said low high node entry side found true = record { claims = tt; key = tt }
  entry_said low high node entry side found false = record { claims = tt; key = tt }

  pub locked_said : (low high : Option ℕ) (section : Option ℕ) (k : ℕ) (p : Place) → PlaceSaid low high p → PlaceSaid low high (place_locked section k p)
  locked_said low high None k (AtEntry node side entry found) said = entry_said low high node entry side found (eqb node k)
  locked_said low high None k Nowhere said = said
  locked_said low high None k (AtNode node key) said = said
  locked_said low high None k (Gap node side) said = said
  locked_said low high (Some t) k (AtEntry node side entry found) said = said
  locked_said low high (Some t) k Nowhere said = said
  locked_said low high (Some t) k (AtNode node key) said = said
  locked_said low high (Some t) k (Gap node side) said = said

  pub cut_said : (low high : Option ℕ) (back : List ℕ) (p : Place) → PlaceSaid low high p → PlaceSaid low high (place_cut back p)
  cut_said low high back (AtEntry node side entry found) said = entry_said low high node entry side found (has entry back)
  cut_said low high back _ said = said

  pub child_said : (v : View) (p : Place) (child : ℕ) → LinksSaid v.reading.links → LinksSaid (child_links v p child)
  child_said v (AtEntry node side entry found) child said =
      bundle_said (is_selected v.reading.section found (locks node v.held.nodes)) v.reading.links node side child entry said
  child_said v _ child said = said
