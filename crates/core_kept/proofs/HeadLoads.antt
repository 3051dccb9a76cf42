-- Loads of heads and of the stamps of entries keep the rule.
use Rattle.std.proofs.Common.{◌≡◌, ℕ, ◌<◌, cond, List, [], ◌∷◌, Bool, true, false, eqb, set, arith, refl, ap, ◌∙◌, sym, Option, Some, None}
use Rattle.std.specs.Prelude.{IfSome}
use Rattle.std.proofs.lemmas.Bool.{eqb-true}
use Rattle.index_words.specs.declared.layout.Layout.{Layout}
use Rattle.index_words.specs.declared.side.Side.{Side}
use Rattle.index_words.specs.declared.side.Side.TheVariants.{Left, Right}
use Rattle.index_words.specs.declared.view.View.{View}
use Rattle.index_words.specs.declared.view.reading.Link.{Link}
use Rattle.index_words.specs.declared.view.update.HeldNode.{HeldNode}
use Rattle.index_words.specs.declared.view.update.LoadedHead.{LoadedHead}
use Rattle.index_words.specs.declared.word.Field.TheVariants.{Head}
use Rattle.index_words.specs.declared.word.Part.TheVariants.{Child, Stamp as Number, Next}
use Rattle.index_words.specs.declared.word.Word.TheVariants.{Node, Entry}
use Rattle.index_words.specs.Words.{Memory}
use Rattle.key_map.specs.Lists.{Every, IsItem}
use Rattle.core_grace.specs.Sections.{is_even}
use Rattle.core_grace.proofs.RuleMoves.{every_push}
use Rattle.core_links.specs.Bundle.{IsChain, select}
use Rattle.core_invariant.specs.Meanings.{Meaning}
use Rattle.core_invariant.specs.Locks.{HeadRight, IsNodeAt}
use Rattle.core_invariant.specs.Readers.{IsReachable, StandsAt, IsPassed, EntryRight, LinkRight}
use Rattle.core_events.specs.LoadMoves.{found_again, head_found, found_at, head_loaded, remembered_if, bundle_link, stamp_known}
use Rattle.core_invariant.specs.Rule.{Rule}
use Rattle.core_invariant.proofs.Frames.{every_mapped}
use Rattle.core_invariant.proofs.OneView.{seat_at}
use Rattle.core_invariant.proofs.Owned.{reachable_live}
use Rattle.core_invariant.proofs.ReadMoves.{reach_back, links_back, nexts_back, read_kept}
use Rattle.core_invariant.proofs.Locked.{slots_found}

head_at : (e x : ℕ) (head : ℕ) (stamp : ℕ → ℕ) (l : LoadedHead) (c : Bool) → eqb l.entry e ≡ c → x ≡ stamp e → HeadRight head stamp l
    → HeadRight head stamp (cond c (record { entry = l.entry; stamp = Some x }) l)
head_at e x head stamp l false is found right = right
head_at e x head stamp l true is found right = (right.0, (λ some. ap stamp (eqb-true l.entry e is) ∙ sym found))

pub side_at : (e x : ℕ) (head : ℕ) (stamp : ℕ → ℕ) (o : Option LoadedHead) → x ≡ stamp e → IfSome o (HeadRight head stamp)
    → IfSome (stamp_known e x o) (HeadRight head stamp)
side_at e x head stamp None found right = tt
side_at e x head stamp (Some l) found right = head_at e x head stamp l (eqb l.entry e) refl found right

pub links_push : (P : Link → Type 0) (b : Bool) (links : List Link) (l : Link) → Every P links → (b ≡ true → P l) → Every P (remembered_if b links l)
links_push P true links l all new = every_push P links l all (new refl)
links_push P false links l all new = all

-- a chain from an empty head has no entry
empty_chain : (next : ℕ → ℕ) (head : ℕ) (es : List ℕ) → IsChain next head es → head ≡ 0 → es ≡ []
empty_chain next head [] chain none = refl
empty_chain next head (e ∷ es) chain none = absurd (omega (arith, chain.0, chain.1, none))

first_stands : (next stamp : ℕ → ℕ) (head : ℕ) (es : List ℕ) (unread : ℕ → Type 0) → IsChain next head es → 0 < head → StandsAt stamp es head None None unread
first_stands next stamp head [] unread chain some = absurd (omega (arith, chain, some))
first_stands next stamp head (e ∷ es) unread chain some =
    record { front = []; back = es; splits = ap (λ x. x ∷ es) (sym chain.0); passed = tt; found = tt; falls = tt }

module _ (z : Layout) (m : Memory) (vs : List View) (g : Meaning) (rule : Rule z m vs g) where
  -- where a head is loaded, the heads known of locked nodes
  again_by : (e head : ℕ) (stamp : ℕ → ℕ) (l : LoadedHead) (b : Bool) → head ≡ e → HeadRight head stamp l
      → HeadRight head stamp (cond b l (record { entry = e; stamp = None }))
  again_by e head stamp l true is right = right
  again_by e head stamp l false is right = (is, tt)

  again_right : (e head : ℕ) (stamp : ℕ → ℕ) (o : Option LoadedHead) → head ≡ e → IfSome o (HeadRight head stamp)
      → IfSome (found_again e o) (HeadRight head stamp)
  again_right e head stamp None is right = (is, tt)
  again_right e head stamp (Some l) is right = again_by e head stamp l (eqb l.entry e) is right

  known_now : (node : ℕ) (side : Side) (h : HeldNode) (b : Bool) → eqb h.node node ≡ b
      → IsNodeAt m h
      → IsNodeAt m (cond b (head_found side (m (Node (Head side) node)) h) h)
  known_now node side h false is right = right
  known_now node Left h true is right = record {
    key = right.key;
    val = right.val;
    mark = right.mark;
    left =
        record {
          head = again_right (m (Node (Head Left) node)) (m (Node (Head Left) h.node)) (λ e. m (Entry Number e)) h.left.head
              (ap (λ n. m (Node (Head Left) n)) (eqb-true h.node node is)) right.left.head;
        };
    right = right.right;
    plain = right.plain;
  }
  known_now node Right h true is right = record {
    key = right.key;
    val = right.val;
    mark = right.mark;
    left = right.left;
    right =
        record {
          head = again_right (m (Node (Head Right) node)) (m (Node (Head Right) h.node)) (λ e. m (Entry Number e)) h.right.head
              (ap (λ n. m (Node (Head Right) n)) (eqb-true h.node node is)) right.right.head;
        };
    plain = right.plain;
  }

  -- a load of a head
  pub load_head_kept : (i node : ℕ) (side : Side) (number : ℕ) (v : View) → IsItem vs i v → is_even v.section_word ≡ false → IsReachable z v node
      → Rule z m (set vs i (head_loaded v node side (m (Node (Head side) node)) number)) g
  load_head_kept i node side number v at inside reach =
      let x : ℕ = m (Node (Head side) node) in
      let w : View = head_loaded v node side x number in
      let seat = seat_at z m vs g i v at rule in
      let same = slots_found node side x v.held.nodes in
      let chain = (rule.bundles node (reachable_live z vs g rule.slots i node v at reach) side).chain in
      let back = λ (k : ℕ). reach_back z m vs g rule i v at w.counts w.held.nodes w.held.nexts w.reading.place w.reading.above w.reading.links same k in
      read_kept z m vs g rule i v at w.counts w.held.nodes w.held.nexts w.reading.place w.reading.above w.reading.links same inside
      (every_mapped (IsNodeAt m) (IsNodeAt m)
      (found_at node side x) v.held.nodes (λ h right. known_now node side h (eqb h.node node) refl right) seat.loaded.nodes)
      (nexts_back z m vs g rule i v at w.counts w.held.nodes w.held.nexts w.reading.place w.reading.above w.reading.links same)
      (record {
        reach = back node reach;
        stands = λ some watched.
            first_stands (λ e. m (Entry Next e)) (λ e. m (Entry Number e)) x (g.bundles.bundle side node) (IsPassed g.bundles.number w node) chain some;
      })
      (links_push (LinkRight z (λ e. m (Entry Child e)) g.bundles w) (eqb x 0) v.reading.links (bundle_link node side 0 0)
      (links_back z m vs g rule i v at w.counts w.held.nodes w.held.nexts w.reading.place w.reading.above w.reading.links same)
      (λ none. record {
        reach = back node reach;
        selected = null_by v.reading.section
            (empty_chain (λ e. m (Entry Next e)) x (g.bundles.bundle side node) chain (eqb-true x 0 none));
      }))
    where
      null_by : (o : Option ℕ) → g.bundles.bundle side node ≡ [] → EntryRight (λ e. m (Entry Child e)) g.bundles.number (g.bundles.bundle side node) o 0 0
      null_by None none = (refl, refl)
      null_by (Some t) none = (ap (select g.bundles.number t) none, refl)
