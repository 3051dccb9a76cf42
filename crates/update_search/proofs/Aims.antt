-- What the search for an update finds for a try.
use Rattle.std.proofs.Common.{◌≡◌, ℕ, [], ◌<◌, ◌^◌, ap, inr}
use Rattle.index_words.specs.declared.side.Side.TheVariants.{Right}
use Rattle.index_words.specs.declared.view.View.{View}
use Rattle.index_words.specs.declared.view.reading.Reading.{Reading}
use Rattle.core_events.specs.PlainMoves.{link_loaded}
use Rattle.core_updates.specs.Plans.{link_of}
use Rattle.plan_laws.specs.Tries.{IsTrying}
use Rattle.update_search.specs.declared.descent.KeyNode.{KeyNode}
use Rattle.update_search.specs.declared.search.Aim.TheVariants.{Remove as RemoveAim}
use Rattle.update_search.specs.declared.turns.Turns.{Turns}
use Rattle.update_search.specs.Aims.{HasStepped, IsAim}
use Rattle.update_search.specs.Ends.{IsFoundAt}
use Rattle.update_search.specs.Laws.{SearchLaws}
use Rattle.update_search.specs.Turns.{turned_at}
use Rattle.update_search.proofs.Keeps.{link_search, none_locked}
use Rattle.update_search.proofs.Levels.{GoesOn, goes_on, went, went_by, went_turns}
use Rattle.update_search.proofs.Nodes.{link_node}

-- a search that has found the key's node steps to the right there
module _ (v : View) (key : ℕ) (found : KeyNode) (is : IsFoundAt v key found) where
  abbrev stepped : Turns
  stepped = turned_at Right (record { node = found.node; key = key }) found.turns

  pub may_step : GoesOn v (link_of found.node Right) stepped
  may_step = goes_on v found.at found.node key found.turns is.here Right (record { over = is.over; under = is.under })

  pub has_stepped : (laws : SearchLaws) (n : ℕ) → IsTrying v n [] → (w : View) (right : ℕ) → w ≡ link_loaded v found.node Right right → HasStepped w key found right
  has_stepped laws n trying w right view =
      let by = went_by v (link_of found.node Right) stepped may_step right w view in
      let at = (link_search laws v found.node (none_locked v n trying found.node) w Right right view).looks.link found.at found.node is.here.link in
      record {
        place = ap (λ (r : Reading). r.place) (went v (link_of found.node Right) stepped may_step right w view);
        turns = went_turns v (link_of found.node Right) stepped may_step right w view;
        parent = inr (link_node w found.at found.node at);
        node = inr (link_node w (link_of found.node Right) right by);
        at = at;
        link = by;
        apart = is.apart;
      }

pub aims_at_removal : (laws : SearchLaws) (v : View) (key : ℕ) (found : KeyNode) → key < 2 ^ 64 → IsFoundAt v key found → (n : ℕ) → IsTrying v n [] → (w : View) (right : ℕ)
    → w ≡ link_loaded v found.node Right right → IsAim w (RemoveAim key found right)
aims_at_removal laws v key found small is n trying w right view = record {
  number = n;
  trying = (link_search laws v found.node (none_locked v n trying found.node) w Right right view).places.trying n [] trying;
  found = has_stepped v key found is laws n trying w right view;
  small = small;
}
