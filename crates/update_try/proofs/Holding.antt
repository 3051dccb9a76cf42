-- The nodes that a try has locked on its way to a plan.
use Rattle.std.proofs.Common.{◌≡◌, ℕ, ◌<◌, List, [], ◌∷◌, ◌++◌, arith, ◌∙◌, sym, subst, inl, inr, ap, Some, Result, Err}
use Rattle.std.proofs.lemmas.Result.{err_from_is_err_and}
use Rattle.std.specs.Result.{IfErr, IsErrAnd}
use Rattle.std.proofs.lemmas.Bool.Decides.{nat_tests}
use Rattle.index_words.specs.declared.side.Side.{Side}
use Rattle.index_words.specs.declared.side.Side.TheVariants.{Left, Right}
use Rattle.index_words.specs.declared.view.View.{View}
use Rattle.index_words.specs.declared.view.reading.Reading.{Reading}
use Rattle.key_map.specs.Lists.{count}
use Rattle.key_map.proofs.Counting.{count-push}
use Rattle.core_events.specs.Searches.{is_plain}
use Rattle.core_trees.specs.declared.link.Link.{Link}
use Rattle.core_updates.specs.Held.{HoldsLink, RemembersGap}
use Rattle.core_updates.specs.PlanEvents.{KnowsLink, KnowsTag}
use Rattle.core_updates.specs.Plans.{link_of}
use Rattle.plan_laws.specs.Looks.{IsUnmarked, RemembersLink, RemembersNull}
use Rattle.plan_laws.specs.Frames.{KeepsTry}
use Rattle.plan_laws.specs.Tries.{IsTrying}
use Rattle.plan_laws.proofs.Frames.{keeps_try}
use Rattle.plan_laws.proofs.Kept.{found-at}
use Rattle.update_search.specs.declared.descent.KeyNode.{KeyNode}
use Rattle.update_search.specs.declared.outcome.Failed.{Failed}
use Rattle.update_search.specs.declared.outcome.Failed.TheVariants.{Busy, Moved}
use Rattle.update_search.specs.Aims.{HasStepped}
use Rattle.update_search.specs.Ends.{IsFoundAt}
use Rattle.update_search.proofs.Nodes.{place_node}
use Rattle.update_search.specs.Outcomes.{IsCounted}
use Rattle.update_search.specs.Searching.{KeepsSearch}
use Rattle.update_search.proofs.Keeps.{found_locked, none_locked}
use Rattle.update_try.specs.Looking.{IsLockedBy, IsRightOf, KnowsKey}
use Rattle.update_try.specs.Planning.{FindsNode}
use Rattle.update_try.proofs.LooksUnder.{gap_locked}

pub locked_in : (v : View) (n : ℕ) (items : List ℕ) (k : ℕ) → IsTrying v n items → 0 < count k items → IsLockedBy v k
locked_in v n items k trying some = record { number = n; nodes = items; trying = trying; locked = subst (λ (ks : List ℕ). 0 < count k ks) (sym trying.locked) some }

-- the node that was locked last, and those before it
pub last_in : (items more : List ℕ) (k : ℕ) → more ≡ items ++ k ∷ [] → 0 < count k more
last_in items more k is = subst (λ (ks : List ℕ). 0 < count k ks) (sym is) (grind (arith, nat_tests, count-push k items k))

pub still_in : (items more : List ℕ) (j k : ℕ) → more ≡ items ++ k ∷ [] → 0 < count j items → 0 < count j more
still_in items more j k is some = subst (λ (ks : List ℕ). 0 < count j ks) (sym is) (omega (arith, some, count-push j items k))

-- what a look keeps of the locks, from its view to the next one: each is a step of a chain
pub locked_on : {v w : View} {k : ℕ} → KeepsSearch v w → IsLockedBy v k → IsLockedBy w k
locked_on {v} {w} {k} keeps by = gap_locked v w k keeps by

pub trying_on : {v w : View} {m n : ℕ} {items : List ℕ} → KeepsSearch v w → m ≡ n → IsTrying v n items → IsTrying w m items
trying_on {v} {w} {m} {n} {items} keeps same trying = subst (λ j. IsTrying w j items) (sym same) (keeps.places.trying n items trying)

pub tried_on : {u v w : View} → KeepsTry u v → KeepsTry v w → KeepsTry u w
tried_on {u} {v} {w} a b = keeps_try u v w a b

-- What a failed step has counted is counted since the try began. The first argument is what the try gives then.
pub counted_on : {T : Type 0} {u v : View} (r : Result T Failed) (w : View) (failed : Failed) → KeepsTry u v → IsCounted failed v w → IsErrAnd r (λ f. f ≡ failed)
    → IfErr r (λ f. IsCounted f u w)
counted_on {T} {u} {v} r w failed keeps is same =
    let at = err_from_is_err_and r same in
    subst (λ (x : Result T Failed). IfErr x (λ f. IsCounted f u w)) (sym (at.1 ∙ ap Err at.2)) (since failed is)
  where
    since : (f : Failed) → IsCounted f v w → IsCounted f u w
    since Busy it = grind (arith, nat_tests, keeps.grown.busy, it)
    since Moved it = grind (arith, nat_tests, keeps.grown.moves, it)

-- a node that was locked last, and one that was locked before the last
pub last_locked : {v : View} {n k : ℕ} {more : List ℕ} (items : List ℕ) → IsTrying v n more → more ≡ items ++ k ∷ [] → IsLockedBy v k
last_locked {v} {n} {k} {more} items trying is = locked_in v n more k trying (last_in items more k is)

pub first_locked : {v : View} {n j : ℕ} {one two : List ℕ} (items : List ℕ) (k : ℕ) → IsTrying v n two → one ≡ items ++ j ∷ []
    → two ≡ one ++ k ∷ [] → IsLockedBy v j
first_locked {v} {n} {j} {one} {two} items k trying was is = locked_in v n two j trying (still_in one two j k is (last_in items one j was))

-- nothing is known where no node is locked
pub no_link : (v : View) (n : ℕ) (items : List ℕ) → IsTrying v n items → items ≡ [] → (k : ℕ) (side : Side) → ¬ KnowsLink v k side
no_link v n items trying none k side known =
    none_locked v n (subst (IsTrying v n) none trying) k (found_locked k v.held.nodes known.held known.locked)

pub no_tag : (v : View) (n : ℕ) (items : List ℕ) → IsTrying v n items → items ≡ [] → (k : ℕ) (side : Side) → ¬ KnowsTag v k side
no_tag v n items trying none k side known =
    none_locked v n (subst (IsTrying v n) none trying) k (found_locked k v.held.nodes known.held known.locked)

-- a null link that a search remembers, with its turns or without
pub gap_null : (v : View) (at : Link) (tag key : ℕ) (g : RemembersGap v at.node at.side tag key) → RemembersNull v at tag g.above g.below
gap_null v at tag key g = record { place = g.place; link = g.link; is = g.is; node_is = g.node_is; side_is = g.side_is; child_is = g.child_is; source = g.source }

pub gap_link : (v : View) (at : Link) (tag key : ℕ) → RemembersGap v at.node at.side tag key → RemembersLink v at 0
gap_link v at tag key g = record {
  place = g.place;
  link = g.link;
  is = g.is;
  node_is = g.node_is;
  side_is = g.side_is;
  plain = ap is_plain g.source;
  child_is = g.child_is;
}

pub unmarked_of : (v : View) (k child : ℕ) (side : Side) → HoldsLink v k side child → IsUnmarked v k
unmarked_of v k child side h =
    let at = found-at k h.held v.held.nodes h.locked in
    record { place = at.place; held = h.held; at = at.is; node_is = at.node_is; is = h.unmarked }

-- what is known of the key's node stays where the reading does
pub known_key : (v w : View) (key : ℕ) (found : KeyNode) → w.reading ≡ v.reading → FindsNode v key found → KnowsKey w found.node key
known_key v w key found same finds =
    elim finds.known as (λ _. KnowsKey w found.node key) [
      | inl place ↦ inl (ap (λ (r : Reading). r.place) same ∙ place)
      | inr right ↦ inr (Right, ap (λ (r : Reading). r.right_turn) same ∙ right.2)
    ]

pub right_of : (v w : View) (key right : ℕ) (found : KeyNode) → w.reading ≡ v.reading → HasStepped v key found right → IsRightOf w found.node key right
right_of v w key right found same is = record {
  place = ap (λ (r : Reading). r.place) same ∙ is.place;
  turn = ap (λ (r : Reading). r.right_turn) same ∙ is.turns.right;
}

pub other_side : (k : ℕ) → ¬ (link_of k Right ≡ link_of k Left)
other_side k same = sides (ap (λ (l : Link). l.side) same)
  where
    sides : ¬ (Right ≡ Left)
    sides is = cc

pub of_place : (v : View) (key : ℕ) (found : KeyNode) → IsFoundAt v key found → FindsNode v key found
of_place v key found is = record {
  at = is.here.link;
  parent = is.parent;
  node = inr (place_node v found.node (Some key) is.here.place);
  apart = is.apart;
  known = inl is.here.place;
}
