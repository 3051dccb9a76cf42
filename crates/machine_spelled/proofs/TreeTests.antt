-- The test of a raise's tree step, from its parts.
use Rattle.std.proofs.Common.{◌≡◌, ℕ, ◌++◌, ◌&&◌, ◌||◌, not, cond, eqb, ◌⊎◌, inl, inr, List, [], ◌∷◌, Bool, true, false, refl, ap, ◌∙◌, Option, Some, None}
use Rattle.std.specs.List.{list_all}
use Rattle.std.specs.Prelude.{IfSome}
use Rattle.std.proofs.lemmas.Bool.{and_parts, eqb-true}
use Rattle.std.proofs.lemmas.List.{append-nil}
use Rattle.index_words.specs.declared.layout.Layout.{Layout}
use Rattle.index_words.specs.declared.side.Side.TheVariants.{Left, Right}
use Rattle.key_map.specs.declared.update.Update.{Update}
use Rattle.index_words.specs.declared.view.View.{View}
use Rattle.index_words.specs.declared.view.update.HeldNode.{HeldNode}
use Rattle.index_words.specs.declared.word.Field.TheVariants.{Mark, Head}
use Rattle.index_words.specs.declared.word.Part.TheVariants.{Stamp as Number, Next}
use Rattle.index_words.specs.declared.word.Word.TheVariants.{Node, Entry}
use Rattle.index_words.specs.Words.{Memory}
use Rattle.key_map.specs.Lists.{has}
use Rattle.core_grace.specs.Holds.{listed}
use Rattle.core_trees.specs.NamedTree.{NamedTree}
use Rattle.core_trees.specs.Search.{end_node, end_side}
use Rattle.core_events.specs.LoadMoves.{locks}
use Rattle.core_events.specs.UpdateMoves.{listed_entry}
use Rattle.core_trees.specs.SpelledTree.{spells}
use Rattle.core_events.specs.SpelledNow.{bundle_now, child_now, graph_now, tree_now}
use Rattle.core_events.specs.declared.tree_move.PlainMove.{PlainMove}
use Rattle.core_events.specs.declared.tree_move.TreeMove.{TreeMove}
use Rattle.core_events.specs.PlainWork.{plain_move}
use Rattle.core_events.specs.TreeMoves.{takes, brings, has_key, is_key, first_slot, new_entries, node_entries, is_new, tree_after, is_fresh, new_slot, move_at, tree_move, spells_after, is_plain_new, sets_locked, finds_gap, is_plain_step, is_step, is_tree_step}
use Rattle.machine_spelled.specs.declared.link_plans.LinkPlan.{LinkPlan}
use Rattle.machine_spelled.specs.LinkPlans.{planned_links, planned_move}

pub step_is : (z : Layout) (m : Memory) (vs : List View) (v : View) (u : Update) (pending : List ℕ) (held : List HeldNode) (t : NamedTree) (slot left right : ℕ) (added : Option ℕ) (out next : Option ℕ)
    (links : LinkPlan) (fits there locked ready spelled plain result : Bool) → pending ≡ v.update.pending → held ≡ v.held.nodes → t ≡ tree_now z m vs
    → slot ≡ child_now m vs (pending ++ []) (end_side u.key Right t) (end_node u.key 0 t)
    → added ≡ first_slot (brings u.change slot u.key t) → listed out ++ listed next ≡ takes u.change u.key t
    → listed_entry left ++ listed_entry right ≡ new_entries m added → planned_move u.change links ≡ plain_move m u.change u.key slot t → there ≡ has_key u.change u.key t
    → locked ≡ list_all (λ k. locks k held) (listed out ++ listed next) → ready ≡ is_new m v added
    → spelled ≡ spells (graph_now m vs (pending ++ (listed_entry left ++ listed_entry right))) (child_now m vs (pending ++ (listed_entry left ++ listed_entry right)) Right 0) (tree_after u.change slot u.key t)
    → plain ≡ (list_all (sets_locked v) (planned_links links) && is_plain_new m added && finds_gap m v u t)
    → fits ≡ is_key u.key → result ≡ (fits && there && locked && ready && spelled && plain)
    → result ≡ is_tree_step z m vs v u
step_is z m vs v u pending held t slot left right added out next links fits there locked ready spelled plain result pend helds tree slots addeds takens heads plains theres lockeds readies spelleds steps fitted all =
    all ∙ ap (λ b. b && there && locked && ready && spelled && plain) fitted
    ∙ ap (λ b. is_key u.key && b && locked && ready && spelled && plain) theres
    ∙ ap (λ b. is_key u.key && has_key u.change u.key t && b && ready && spelled && plain) (lockeds ∙ ap (λ hs. list_all (λ k. locks k hs) (listed out ++ listed next)) helds ∙ ap (list_all (λ k. locks k v.held.nodes)) takens)
    ∙ ap (λ b. is_key u.key && has_key u.change u.key t && list_all (λ k. locks k v.held.nodes) (takes u.change u.key t) && b && spelled && plain) (readies ∙ ap (is_new m v) addeds)
    ∙ ap (λ b. is_key u.key && has_key u.change u.key t && list_all (λ k. locks k v.held.nodes) (takes u.change u.key t) && is_new m v (first_slot (brings u.change slot u.key t)) && b && plain)
    (spelleds ∙ ap (λ xs. spelled_with xs (listed_entry left ++ listed_entry right)) pend ∙ ap (spelled_with v.update.pending) (heads ∙ ap (new_entries m) addeds))
    ∙ ap (λ b. is_key u.key && has_key u.change u.key t && list_all (λ k. locks k v.held.nodes) (takes u.change u.key t) && is_new m v (first_slot (brings u.change slot u.key t)) && spelled_with v.update.pending (new_entries m (first_slot (brings u.change slot u.key t))) && b)
    (steps ∙ ap (λ (p : PlainMove). list_all (sets_locked v) p.unset && is_plain_new m added && finds_gap m v u t) plains ∙ ap (λ o. list_all (sets_locked v) (plain_move m u.change u.key slot t).unset && is_plain_new m o && finds_gap m v u t) addeds)
    ∙ ap (λ (x : ℕ). is_step m vs v u x (move_at z m u x t) t) (slots ∙ ap (λ xs. child_now m vs xs (end_side u.key Right t) (end_node u.key 0 t)) (append-nil pending ∙ pend))
    ∙ ap (λ (x : NamedTree). is_step m vs v u (new_slot m vs v u.key x) (move_at z m u (new_slot m vs v u.key x) x) x) tree
  where
    spelled_with : List ℕ → List ℕ → Bool
    spelled_with ys xs = spells (graph_now m vs (ys ++ xs)) (child_now m vs (ys ++ xs) Right 0) (tree_after u.change slot u.key t)

-- the new node of a step that is made is ready
pub ready_is : (z : Layout) (m : Memory) (vs : List View) (v : View) (u : Update) (pending : List ℕ) (t : NamedTree) (slot : ℕ) (added : Option ℕ)
    → pending ≡ v.update.pending → t ≡ tree_now z m vs → slot ≡ child_now m vs (pending ++ []) (end_side u.key Right t) (end_node u.key 0 t)
    → added ≡ first_slot (brings u.change slot u.key t) → is_tree_step z m vs v u ≡ true → is_new m v added ≡ true
ready_is z m vs v u pending t slot added pend tree slots addeds met =
    let now : NamedTree = tree_now z m vs in
    let s : ℕ = new_slot m vs v u.key now in
    let k = is_key u.key in
    let h = has_key u.change u.key now in
    let l = list_all (λ k. locks k v.held.nodes) (takes u.change u.key now) in
    let n = is_new m v (first_slot (brings u.change s u.key now)) in
    let p = spells_after m vs v u s (tree_move z m vs v u) now in
    let q = is_plain_step m v u (tree_move z m vs v u) now in
    ap (is_new m v)
    (addeds ∙ ap (λ (x : ℕ). first_slot (brings u.change x u.key t)) (slots ∙ ap (λ xs. child_now m vs xs (end_side u.key Right t) (end_node u.key 0 t)) (append-nil pending ∙ pend))
    ∙ ap (λ (x : NamedTree). first_slot (brings u.change (new_slot m vs v u.key x) u.key x)) tree)
    ∙ (and_parts (k && h && l) n (and_parts (k && h && l && n) p (and_parts (k && h && l && n && p) q met).0).0).1

-- the slot of a ready node is a free one, and the heads of its bundles are 0 or free ones
pub added_free : (m : Memory) (v : View) (added : Option ℕ) (free : List ℕ) → free ≡ v.free.nodes → is_new m v added ≡ true → IfSome added (λ k. has k free ≡ true)
added_free m v None free is met = tt
added_free m v (Some k) free is met =
    let a = has k v.free.nodes in
    let b = eqb (m (Node Mark k)) 0 in
    let c = list_all (is_fresh m v) (new_entries m (Some k)) in
    let d = eqb (m (Node (Head Left) k)) 0 || not (eqb (m (Node (Head Left) k)) (m (Node (Head Right) k))) in
    ap (has k) is ∙ (and_parts a b (and_parts (a && b) c (and_parts (a && b && c) d met).0).0).0

head_by : (m : Memory) (v : View) (e : ℕ) (xs : List ℕ) → list_all (is_fresh m v) (listed_entry e ++ xs) ≡ true → ((e ≡ 0) ⊎ (has e v.free.entries ≡ true)) × (list_all (is_fresh m v) xs ≡ true)
head_by m v e xs all = by (eqb e 0) refl all
  where
    by : (b : Bool) → eqb e 0 ≡ b → list_all (is_fresh m v) (cond b [] (e ∷ []) ++ xs) ≡ true → ((e ≡ 0) ⊎ (has e v.free.entries ≡ true)) × (list_all (is_fresh m v) xs ≡ true)
    by true is met = (inl (eqb-true e 0 is), met)
    by false is met =
        let a = has e v.free.entries in
        let b = eqb (m (Entry Number e)) 0 in
        let c = eqb (m (Entry Next e)) 0 in
        let parts = and_parts (a && b && c) (list_all (is_fresh m v) xs) met in
        (inr (and_parts a b (and_parts (a && b) c parts.0).0).0, parts.1)

fresh_by : (m : Memory) (v : View) (left right : ℕ) (added : Option ℕ) → listed_entry left ++ listed_entry right ≡ new_entries m added → is_new m v added ≡ true
    → list_all (is_fresh m v) (listed_entry left ++ listed_entry right) ≡ true
fresh_by m v left right None heads met = ap (list_all (is_fresh m v)) heads
fresh_by m v left right (Some k) heads met =
    let a = has k v.free.nodes in
    let b = eqb (m (Node Mark k)) 0 in
    let c = list_all (is_fresh m v) (new_entries m (Some k)) in
    let d = eqb (m (Node (Head Left) k)) 0 || not (eqb (m (Node (Head Left) k)) (m (Node (Head Right) k))) in
    ap (list_all (is_fresh m v)) heads ∙ (and_parts (a && b) c (and_parts (a && b && c) d met).0).1

pub heads_free : (m : Memory) (v : View) (left right : ℕ) (added : Option ℕ) (free : List ℕ) → free ≡ v.free.entries → listed_entry left ++ listed_entry right ≡ new_entries m added → is_new m v added ≡ true
    → ((left ≡ 0) ⊎ (has left free ≡ true)) × ((right ≡ 0) ⊎ (has right free ≡ true))
heads_free m v left right added free is heads met =
    let one = head_by m v left (listed_entry right) (fresh_by m v left right added heads met) in
    let two = head_by m v right [] (ap (list_all (is_fresh m v)) (append-nil (listed_entry right)) ∙ one.1) in
    (own left one.0, own right two.0)
  where
    own : (e : ℕ) → (e ≡ 0) ⊎ (has e v.free.entries ≡ true) → (e ≡ 0) ⊎ (has e free ≡ true)
    own e (inl none) = inl none
    own e (inr some) = inr (ap (has e) is ∙ some)

-- the entries of two nodes, one after the other
both_entries : (z : Layout) (m : Memory) (out next : Option ℕ) → node_entries z m (listed out) ++ node_entries z m (listed next) ≡ node_entries z m (listed out ++ listed next)
both_entries z m None next = refl
both_entries z m (Some k) next = ap (λ es. es ++ node_entries z m (listed next)) (append-nil (bundle_now z m Left k ++ bundle_now z m Right k))

-- what a raise moves, from its parts
pub move_is : (z : Layout) (m : Memory) (vs : List View) (v : View) (u : Update) (pending : List ℕ) (t : NamedTree) (slot left right : ℕ) (found out next : Option ℕ) (links : LinkPlan) (move : TreeMove)
    → pending ≡ v.update.pending → t ≡ tree_now z m vs → slot ≡ child_now m vs (pending ++ []) (end_side u.key Right t) (end_node u.key 0 t)
    → found ≡ first_slot (brings u.change slot u.key t) → listed out ++ listed next ≡ takes u.change u.key t
    → listed_entry left ++ listed_entry right ≡ new_entries m found → planned_move u.change links ≡ plain_move m u.change u.key slot t
    → move.added ≡ found → move.entries ≡ listed_entry left ++ listed_entry right → move.taken ≡ listed out ++ listed next
    → move.taken_entries ≡ node_entries z m (listed out) ++ node_entries z m (listed next) → move.plain ≡ planned_move u.change links
    → move ≡ tree_move z m vs v u
move_is z m vs v u pending t slot left right found out next links move pend tree slots founds takens heads plains added entries taken taken_entries plain =
    ap (λ a. moved a move.entries move.taken move.taken_entries move.plain) (added ∙ founds)
    ∙ ap (λ es. moved brought es move.taken move.taken_entries move.plain) (entries ∙ heads ∙ ap (new_entries m) founds)
    ∙ ap (λ ks. moved brought (new_entries m brought) ks move.taken_entries move.plain) (taken ∙ takens)
    ∙ ap (λ es. moved brought (new_entries m brought) (takes u.change u.key t) es move.plain) (taken_entries ∙ both_entries z m out next ∙ ap (node_entries z m) takens)
    ∙ ap (moved brought (new_entries m brought) (takes u.change u.key t) (node_entries z m (takes u.change u.key t))) (plain ∙ plains)
    ∙ ap (λ (x : ℕ). move_at z m u x t) (slots ∙ ap (λ xs. child_now m vs xs (end_side u.key Right t) (end_node u.key 0 t)) (append-nil pending ∙ pend))
    ∙ ap (λ (x : NamedTree). move_at z m u (new_slot m vs v u.key x) x) tree
  where
    brought : Option ℕ
    brought = first_slot (brings u.change slot u.key t)

    moved : Option ℕ → List ℕ → List ℕ → List ℕ → PlainMove → TreeMove
    moved a es ks xs p = record { added = a; entries = es; taken = ks; taken_entries = xs; plain = p }
