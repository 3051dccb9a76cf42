-- How the entries of bundles are retired, one after another.
use Rattle.std.proofs.Common.{◌≡◌, ℕ, zero, suc, ◌+◌, ◌<◌, List, [], ◌∷◌, ◌++◌, length, take, drop, cond, arith, refl, ap, ◌∙◌, sym, subst, append-nil, append_assoc}
use Rattle.std.proofs.lemmas.Bool.{ne_eqb}
use Rattle.std.proofs.lemmas.List.{length-append, length-take-le, take-append-drop}
use Rattle.index_words.specs.declared.view.View.{View}
use Rattle.index_words.specs.declared.word.Part.TheVariants.{Next as NextPart}
use Rattle.index_words.specs.declared.word.Word.TheVariants.{Entry}
use Rattle.index_words.specs.Words.{memory}
use Rattle.core_links.proofs.Chains.{chain-same}
use Rattle.core_events.specs.UpdateMoves.{listed_entry}
use Rattle.pass_slots.specs.Owned.{KeptSlots, node_count, entry_count}
use Rattle.table_rule.specs.Homes.{IsLiveView}
use Rattle.table_rule.specs.Running.{Stands}
use Rattle.table_steps.specs.Raises.{HoldsBundles, HoldsChain, HoldsEntries}
use Rattle.table_steps.specs.Retires.{HasRoomFor, with_retired}
use Rattle.table_steps.proofs.RaiseFacts.{chain_known}

-- the rule of a table knows what a chain is from its head on
pub chain_once : (v : View) → IsLiveView v → (node other head : ℕ) (xs ys : List ℕ) → HoldsChain v node head xs → HoldsChain v other head ys → xs ≡ ys
chain_once v live node other head xs ys one two =
    let s : Stands v.layout v = live.stands in
    chain-same (λ e. memory v.layout s.words (Entry NextPart e)) head xs ys (chain_known v.layout s.words s.views s.rule s.seat v s.at node head xs one)
    (chain_known v.layout s.words s.views s.rule s.seat v s.at other head ys two)

-- the first entry of a chain whose head is not 0, and those after it
pub record Behind (v : View) (node entry : ℕ) (rest : List ℕ) : Type 0 where
  pub tail : List ℕ
  pub are : rest ≡ entry ∷ tail
  pub chain : HoldsChain v node entry (entry ∷ tail)

pub behind : (v : View) (node entry : ℕ) (rest : List ℕ) → (entry ≡ 0 → ⊥) → HoldsChain v node entry rest → Behind v node entry rest
behind v node entry [] some chain = absurd (some chain)
behind v node entry (e ∷ es) some chain =
    let are : e ∷ es ≡ entry ∷ es = ap (λ x. x ∷ es) (sym chain.0) in
    record { tail = es; are = are; chain = subst (HoldsChain v node entry) are chain }

pub no_more : (v : View) (node entry : ℕ) (rest : List ℕ) → entry ≡ 0 → HoldsChain v node entry rest → rest ≡ []
no_more v node entry [] none chain = refl
no_more v node entry (e ∷ es) none chain = absurd (omega (arith, none, chain.0, chain.1))

-- one place on in a list
pub record Next (xs : List ℕ) (i x : ℕ) (ys : List ℕ) : Type 0 where
  pub rest : drop (i + 1) xs ≡ ys
  pub front : take (i + 1) xs ≡ take i xs ++ x ∷ []
  pub within : i < length xs

next_suc : (xs : List ℕ) (i x : ℕ) (ys : List ℕ) → drop i xs ≡ x ∷ ys → (drop (suc i) xs ≡ ys) × (take (suc i) xs ≡ take i xs ++ x ∷ []) × (i < length xs)
next_suc [] zero x ys is = cc
next_suc [] (suc i) x ys is = cc
next_suc (w ∷ ws) zero x ys is = (cc, cc, omega arith)
next_suc (w ∷ ws) (suc i) x ys is =
    let rest = next_suc ws i x ys is in
    (rest.0, ap (λ zs. w ∷ zs) rest.1, omega (arith, rest.2))

pub one_on : (xs : List ℕ) (i x : ℕ) (ys : List ℕ) → drop i xs ≡ x ∷ ys → Next xs i x ys
one_on xs i x ys is =
    let next : i + 1 ≡ suc i = omega arith in
    let here = next_suc xs i x ys is in
    record { rest = ap (λ k. drop k xs) next ∙ here.0; front = ap (λ k. take k xs) next ∙ here.1; within = here.2 }

pub taken_whole : (xs : List ℕ) (i : ℕ) → drop i xs ≡ [] → take i xs ≡ xs
taken_whole xs i none = sym (append-nil (take i xs)) ∙ ap (λ ys. take i xs ++ ys) (sym none) ∙ take-append-drop i xs

with_parts : (s : KeptSlots) (ns ms es fs : List ℕ) → ns ≡ ms → es ≡ fs → (record s { retired = record { nodes = ns; entries = es } }) ≡ (record s { retired = record { nodes = ms; entries = fs } })
with_parts s ns ms es fs one two = ap (λ (xs : List ℕ). record s { retired = record { nodes = xs; entries = es } }) one ∙ ap (λ (xs : List ℕ). record s { retired = record { nodes = ms; entries = xs } }) two

pub with_none : (s : KeptSlots) → s ≡ with_retired [] [] s
with_none s = with_parts s s.retired.nodes (s.retired.nodes ++ []) s.retired.entries (s.retired.entries ++ []) (sym (append-nil s.retired.nodes)) (sym (append-nil s.retired.entries))

pub with_more : (s : KeptSlots) (ns ms es fs : List ℕ) → with_retired ms fs (with_retired ns es s) ≡ with_retired (ns ++ ms) (es ++ fs) s
with_more s ns ms es fs =
    with_parts s ((s.retired.nodes ++ ns) ++ ms) (s.retired.nodes ++ (ns ++ ms)) ((s.retired.entries ++ es) ++ fs) (s.retired.entries ++ (es ++ fs))
    (append_assoc s.retired.nodes ns ms) (append_assoc s.retired.entries es fs)

-- one more entry
pub push_entry : (s t : KeptSlots) (xs ys : List ℕ) (e : ℕ) → t ≡ with_retired [] xs s → ys ≡ xs ++ e ∷ []
    → (record t { retired = record t.retired { entries = t.retired.entries ++ e ∷ [] } }) ≡ with_retired [] ys s
push_entry s t xs ys e is more =
    ap (λ (k : KeptSlots). record k { retired = record k.retired { entries = k.retired.entries ++ e ∷ [] } }) is
    ∙ with_parts s (s.retired.nodes ++ []) (s.retired.nodes ++ []) ((s.retired.entries ++ xs) ++ e ∷ []) (s.retired.entries ++ ys) refl
    (append_assoc s.retired.entries xs (e ∷ []) ∙ ap (λ zs. s.retired.entries ++ zs) (sym more))

-- one more node
pub push_node : (s : KeptSlots) (k : ℕ) → (record s { retired = record s.retired { nodes = s.retired.nodes ++ k ∷ [] } }) ≡ with_retired (k ∷ []) [] s
push_node s k = with_parts s (s.retired.nodes ++ k ∷ []) (s.retired.nodes ++ k ∷ []) s.retired.entries (s.retired.entries ++ []) refl (sym (append-nil s.retired.entries))

pub entry_room : (s t : KeptSlots) (es : List ℕ) (i limit : ℕ) → t ≡ with_retired [] (take i es) s → i < length es → HasRoomFor [] es limit s → entry_count t < t.entry_room
entry_room s t es i limit is low room =
    omega (arith, ap (λ (k : KeptSlots). entry_count k) is, ap (λ (k : KeptSlots). k.entry_room) is, length-append s.retired.entries (take i es), length-take-le i es (omega (arith, low)), low, room.entries)

-- the room that is left for what comes after
pub room_after : (s t : KeptSlots) (ns ms es fs : List ℕ) (limit : ℕ) → HasRoomFor (ns ++ ms) (es ++ fs) limit s → t ≡ with_retired ns es s → HasRoomFor ms fs limit t
room_after s t ns ms es fs limit room is = record {
  nodes = omega (arith, room.nodes, ap (λ (k : KeptSlots). node_count k) is, ap (λ (k : KeptSlots). k.node_room) is, length-append ns ms, length-append s.retired.nodes ns);
  entries = omega (arith, room.entries, ap (λ (k : KeptSlots). entry_count k) is, ap (λ (k : KeptSlots). k.entry_room) is, length-append es fs, length-append s.retired.entries es);
  looks = omega (arith, room.looks, length-append es fs);
}

pub room_before : (s : KeptSlots) (ns ms es fs : List ℕ) (limit : ℕ) → HasRoomFor (ns ++ ms) (es ++ fs) limit s → HasRoomFor ns es limit s
room_before s ns ms es fs limit room = record {
  nodes = omega (arith, room.nodes, length-append ns ms);
  entries = omega (arith, room.entries, length-append es fs);
  looks = omega (arith, room.looks, length-append es fs);
}

-- the entries of two lists of nodes
pub record Split (v : View) (ks js es : List ℕ) : Type 0 where
  pub first : List ℕ
  pub second : List ℕ
  pub one : HoldsEntries v ks first
  pub two : HoldsEntries v js second
  pub are : es ≡ first ++ second

pub split_held : (v : View) (ks js es : List ℕ) → HoldsEntries v (ks ++ js) es → Split v ks js es
split_held v [] js es held = record { first = []; second = es; one = refl; two = held; are = refl }
split_held v (k ∷ ks) js es held =
    let rest : Split v ks js held.1 = split_held v ks js held.1 held.3 in
    record {
      first = held.0 ++ rest.first;
      second = rest.second;
      one = (held.0, rest.first, held.2, rest.one, refl);
      two = rest.two;
      are = held.4 ∙ ap (λ (xs : List ℕ). held.0 ++ xs) rest.are ∙ sym (append_assoc held.0 rest.first rest.second);
    }

-- and what is retired with both
pub both_retired : (s t u : KeptSlots) (ns ms es xs ys : List ℕ) → es ≡ xs ++ ys → t ≡ with_retired ns xs s → u ≡ with_retired ms ys t → u ≡ with_retired (ns ++ ms) es s
both_retired s t u ns ms es xs ys are one two =
    two ∙ ap (with_retired ms ys) one ∙ with_more s ns ms xs ys ∙ ap (λ (zs : List ℕ). with_retired (ns ++ ms) zs s) (sym are)

-- a node that is there, with the entries of its two bundles
pub listed_some : (k : ℕ) → (k ≡ 0 → ⊥) → listed_entry k ≡ k ∷ []
listed_some k some = ap (λ b. cond b [] (k ∷ [])) (ne_eqb k 0 some)

pub only_node : (v : View) (k : ℕ) (es : List ℕ) → (k ≡ 0 → ⊥) → HoldsEntries v (listed_entry k) es → HoldsBundles v k es
only_node v k es some held = whole (subst (λ ks. HoldsEntries v ks es) (listed_some k some) held)
  where
    whole : HoldsEntries v (k ∷ []) es → HoldsBundles v k es
    whole h = subst (HoldsBundles v k) (sym (h.4 ∙ ap (λ xs. h.0 ++ xs) h.3 ∙ append-nil h.0)) h.2

module _ (s t : KeptSlots) (k : ℕ) (some : k ≡ 0 → ⊥) (es xs ys : List ℕ) (are : es ≡ xs ++ ys) (node : t ≡ with_retired (k ∷ []) [] s) where
  module _ (limit : ℕ) (room : HasRoomFor (listed_entry k) es limit s) where
    both_room : HasRoomFor [] (xs ++ ys) limit t
    both_room =
        room_after s t (k ∷ []) [] [] (xs ++ ys) limit
        (subst (λ zs. HasRoomFor (k ∷ []) zs limit s) are (subst (λ ns. HasRoomFor ns es limit s) (listed_some k some) room)) node

    pub left_room : HasRoomFor [] xs limit t
    left_room = room_before t [] [] xs ys limit both_room

    pub right_room : (u : KeptSlots) → u ≡ with_retired [] xs t → HasRoomFor [] ys limit u
    right_room u left = room_after t u [] [] xs ys limit both_room left

  pub node_retired : (u w : KeptSlots) → u ≡ with_retired [] xs t → w ≡ with_retired [] ys u → w ≡ with_retired (listed_entry k) es s
  node_retired u w left right =
      both_retired s u w (k ∷ []) [] es xs ys are (both_retired s t u (k ∷ []) [] xs [] xs refl node left) right
      ∙ ap (λ ns. with_retired ns es s) (sym (listed_some k some))
