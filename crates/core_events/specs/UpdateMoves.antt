-- The view of a seat after each kind of event of an update.
use Rattle.std.specs.Prelude.{ℕ, ◌+◌, ◌-◌, List, [], ◌∷◌, ◌++◌, cond, not, ◌==◌, Some, None, map, filter}
use Rattle.index_words.specs.declared.side.Side.{Side}
use Rattle.index_words.specs.declared.side.Side.TheVariants.{Left, Right}
use Rattle.key_map.specs.declared.update.Update.{Update}
use Rattle.index_words.specs.declared.view.View.{View}
use Rattle.index_words.specs.declared.view.update.HeldNode.{HeldNode}
use Rattle.index_words.specs.declared.view.update.LoadedHead.{LoadedHead}
use Rattle.key_map.specs.Lists.{has}
use Rattle.core_grace.specs.Holds.{listed}
use Rattle.core_events.specs.declared.tree_move.TreeMove.{TreeMove}
use Rattle.core_events.specs.Moves.{nowhere}

abbrev pub without : ℕ → List ℕ → List ℕ
without e xs = filter (λ x. not (x == e)) xs

-- finalise: the entry is no longer pending
abbrev pub finalised : View → ℕ → View
finalised v e = record v { update = record v.update { pending = without e v.update.pending } }

-- what is known of the head of a locked node
abbrev pub head_known : Side → LoadedHead → HeldNode → HeldNode
head_known Left l h = record h { left = record h.left { head = Some l } }
head_known Right l h = record h { right = record h.right { head = Some l } }

abbrev pub known_at : ℕ → Side → LoadedHead → HeldNode → HeldNode
known_at k side l h = cond (h.node == k) (head_known side l h) h

-- prepare: the entry is pending, and is the head of the link
abbrev pub prepared : View → Side → ℕ → ℕ → View
prepared v side k e = record v {
  held = record v.held { nodes = map (known_at k side (record { entry = e; stamp = None })) v.held.nodes };
  update = record v.update { pending = v.update.pending ++ e ∷ [] };
  free = record v.free { entries = without e v.free.entries };
}

-- the numbers that are not among these
abbrev pub without_all : List ℕ → List ℕ → List ℕ
without_all out xs = filter (λ x. not (has x out)) xs

-- raise: the update is the last of the history, which the view then knows whole, and the place is its own. The new
-- node and its entries are not free any more, the entries are pending, and what is taken out is retired
abbrev pub raised_view : List Update → View → ℕ → Update → TreeMove → View
raised_view known v s u move = record v {
  history = record v.history { seen = known ++ u ∷ []; mine = v.history.mine ++ (s + 1) ∷ []; left = v.history.left - 1 };
  reading = nowhere v.reading;
  update = record v.update {
    raised = Some (s + 1);
    added = move.added;
    taken = move.taken;
    pending = v.update.pending ++ move.entries;
    unset = move.plain.unset;
    owed = move.plain.owed;
    unlinking = move.plain.unlinking;
  };
  free = record { nodes = without_all (listed move.added) v.free.nodes; entries = without_all move.entries v.free.entries };
  retired = record { nodes = v.retired.nodes ++ move.taken; entries = v.retired.entries ++ move.taken_entries };
}

-- the entries of a bundle with this head and no other entry
abbrev pub listed_entry : ℕ → List ℕ
listed_entry e = cond (e == 0) [] (e ∷ [])
