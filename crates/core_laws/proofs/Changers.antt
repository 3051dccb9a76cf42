-- Who changes a plain link or its tag, and that what is found in the place of what was remembered was stored since.
use Rattle.std.proofs.Common.{◌≡◌, ◌≢◌, ℕ, ◌+◌, ◌<◌, ◌⊎◌, inl, inr, cond, List, [], ◌∷◌, Bool, true}
use Rattle.std.proofs.Common.{false, not, eqb, ◌&&◌, set, ap, ◌∙◌, sym, subst, refl, Option, Some}
use Rattle.std.specs.List.{slice_get}
use Rattle.std.proofs.lemmas.Bool.{and_parts}
use Rattle.std.proofs.lemmas.Bool.Decides.{eqb_tells}
use Rattle.index_words.specs.declared.side.Side.{Side}
use Rattle.index_words.specs.declared.view.View.{View}
use Rattle.index_words.specs.declared.view.reading.LinkSource.{LinkSource}
use Rattle.index_words.specs.declared.view.reading.LinkSource.TheVariants.{Plain}
use Rattle.index_words.specs.declared.word.Field.{Field}
use Rattle.index_words.specs.declared.word.Field.TheVariants.{Link, Tag}
use Rattle.index_words.specs.declared.word.Word.{Word}
use Rattle.index_words.specs.declared.word.Word.TheVariants.{Node}
use Rattle.index_words.specs.Words.{Memory, memory, word_at, same_word}
use Rattle.index_words.proofs.Store.{same_word-true, stored_at}
use Rattle.key_map.specs.Lists.{count, has}
use Rattle.key_map.proofs.Counting.{has-count}
use Rattle.core_events.specs.declared.event.Event.{Event}
use Rattle.core_events.specs.declared.event.Kind.{Kind}
use Rattle.core_events.specs.declared.event.Kind.TheVariants.{Fill, SetLink, SetTag}
use Rattle.core_events.specs.LoadMoves.{locks}
use Rattle.core_events.specs.Needs.{is_lock, may_fill}
use Rattle.core_events.specs.PlainNeeds.{owes, may_set_link, may_set_tag}
use Rattle.core_events.specs.Steps.{allowed, allowed_at, after, after_at, carries, needs, words_after}
use Rattle.core_events.specs.Tables.{Table, held_by}
use Rattle.core_events.specs.Searches.{is_other_tag}
use Rattle.core_events.proofs.Tests.{never, not_equal}
use Rattle.core_invariant.specs.Rule.{IsRight}
use Rattle.core_invariant.proofs.Locked.{locks-count}
use Rattle.core_invariant.proofs.WaitNeeds.{can_set}
use Rattle.core_invariant.proofs.WordPrints.{stores, word_keeps}
use Rattle.core_laws.specs.Changers.{ChangesLink, ChangesTag, Stores, ChangesLaw, LeadTo, SomeOf, HasTag, IsStoredSince}
use Rattle.core_laws.specs.Counts.{FindsOtherChild, FindsOtherTag}

-- an event of this seat, whose word has this name
module _ (t : Table) (e : Event) (right : IsRight t) (v : View) (w : Word) (found : word_at t.layout e.word ≡ Some w) where
  abbrev Need : Kind → Type 0
  Need kind = needs kind t.layout (held_by t) t.views e.seat v w e.value e.update ≡ true

  -- if the word is another after an event of the kind, it is the event's, and holds its value
  abbrev pub Changes : Memory → Word → (Event → View → Type 0) → Type 0
  Changes m u may = m u ≢ held_by t u → (w ≡ u) × (m u ≡ e.value) × may e v

  stored : (u : Word) (may : Event → View → Type 0) → (w ≡ u → may e v) → Changes (memory t.layout (set t.words e.word e.value)) u may
  stored u may does changed = by (same_word u w) refl
    where
      holds : memory t.layout (set t.words e.word e.value) u ≡ cond (same_word u w) e.value (held_by t u)
      holds = ap (λ (h : Memory). h u) (stored_at t.layout t.words e.word w e.value right.size found)

      by : (b : Bool) → same_word u w ≡ b → (w ≡ u) × (memory t.layout (set t.words e.word e.value) u ≡ e.value) × may e v
      by true is =
          let same : w ≡ u = sym (same_word-true u w is) in (same, holds ∙ ap (λ b. cond b e.value (held_by t u)) is, does same)
      by false is = absurd (changed (holds ∙ ap (λ b. cond b e.value (held_by t u)) is))

  fills : (f : Field) (k : ℕ) → may_fill v (Node f k) ≡ true → 0 < count k v.free.nodes
  fills f k met = has-count k v.free.nodes (and_parts (not (is_lock f)) (has k v.free.nodes) met).1

  keeps : (kind : Kind) (u : Word) (may : Event → View → Type 0) → stores kind v u ≡ false → Need kind
      → Changes (memory t.layout (words_after kind t.words e.word e.value)) u may
  keeps kind u may off need changed =
      absurd (changed (word_keeps t.layout t.words t.views e.seat v e.word w right.size found e.value e.update kind u off need))

  pub link_by : (k : ℕ) (side : Side) (kind : Kind) → e.kind ≡ kind → Need kind
      → Changes (memory t.layout (words_after kind t.words e.word e.value)) (Node (Link side) k) (ChangesLink k side)
  link_by k side Fill is need =
      stored (Node (Link side) k) (ChangesLink k side)
      (λ same. inl (record { kind = is; free = fills (Link side) k (subst (λ (u : Word). may_fill v u ≡ true) same need) }))
  link_by k side SetLink is need =
      stored (Node (Link side) k) (ChangesLink k side)
      (λ same.
      let can = can_set t.layout (held_by t) v k side e.value
      (subst (λ (u : Word). may_set_link t.layout (held_by t) v u e.value ≡ true) same need) in
      inr (record { kind = is; locked = can.locked; unset = can.sets }))
  link_by k side kind is need = keeps kind (Node (Link side) k) (ChangesLink k side) refl need

  pub tag_by : (k : ℕ) (side : Side) (kind : Kind) → e.kind ≡ kind → Need kind
      → Changes (memory t.layout (words_after kind t.words e.word e.value)) (Node (Tag side) k) (ChangesTag k side)
  tag_by k side Fill is need =
      stored (Node (Tag side) k) (ChangesTag k side)
      (λ same. inl (record { kind = is; free = fills (Tag side) k (subst (λ (u : Word). may_fill v u ≡ true) same need) }))
  tag_by k side SetTag is need =
      stored (Node (Tag side) k) (ChangesTag k side)
      (λ same.
      let one = and_parts (locks k v.held.nodes && owes k side v.update.owed) (eqb e.value (held_by t (Node (Tag side) k) + 1))
      (subst (λ (u : Word). may_set_tag (held_by t) v u e.value ≡ true) same need) in
      let two = and_parts (locks k v.held.nodes) (owes k side v.update.owed) one.0 in
      inr (record { kind = is; locked = locks-count k v.held.nodes two.0; owed = two.1 }))
  tag_by k side kind is need = keeps kind (Node (Tag side) k) (ChangesTag k side) refl need

-- the same of a table after the event, whose seat and whose word are found like this
abbrev StoresIn : Table → Event → Table → Word → (Event → View → Type 0) → Type 0
StoresIn t e u w may =
    held_by u w ≢ held_by t w
    → (v : View) × (slice_get t.views e.seat ≡ Some v) × (word_at t.layout e.word ≡ Some w) × (held_by u w ≡ e.value) × may e v

changes_at : (t : Table) (e : Event) (k : ℕ) (side : Side) (o : Option View) (w : Option Word) → slice_get t.views e.seat ≡ o
    → word_at t.layout e.word ≡ w → IsRight t → allowed_at t e o w ≡ true
    → StoresIn t e (after_at t e o w) (Node (Link side) k) (ChangesLink k side) × StoresIn t e (after_at t e o w) (Node (Tag side) k) (ChangesTag k side)
changes_at t e k side (Some v) (Some w) is found right met =
    let c = needs e.kind t.layout (held_by t) t.views e.seat v w e.value e.update in
    let need = (and_parts (carries e.kind v e.update && not v.joined) c met).1 in (
      λ changed. let d = link_by t e right v w found k side e.kind refl need changed in (v, is, found ∙ ap Some d.0, d.1, d.2),
      λ changed. let d = tag_by t e right v w found k side e.kind refl need changed in (v, is, found ∙ ap Some d.0, d.1, d.2),
    )
changes_at t e k side _ _ is found right met = absurd (never met)

pub changes : ChangesLaw
changes t e k side right met =
    let both = changes_at t e k side (slice_get t.views e.seat) (word_at t.layout e.word) refl refl right met in
    record {
      link = λ changed. let d = both.0 changed in record { view = d.0; seat = d.1; word = d.2; value = d.3; by = d.4 };
      tag = λ changed. let d = both.1 changed in record { view = d.0; seat = d.1; word = d.2; value = d.3; by = d.4 };
    }

-- a word that holds another value than before was stored to on the way, if each change of it is a store
module _ (t : Table) (seat : ℕ) (w : Word) (x : ℕ) (may : Event → View → Type 0)
    (does : (s : Table) (e : Event) → IsRight s → allowed s e ≡ true → held_by (after s e) w ≢ held_by s w → Stores s e w may) where
  abbrev OnWay : Table → List Event → Type 0
  OnWay s es = SomeOf (λ r e. (e.seat ≢ seat) × Stores r e w may) s es ⊎ SomeOf (λ r e. (e.seat ≡ seat) × Stores r e w may) s es

  since : x ≢ held_by t w → (s : Table) (es : List Event) → LeadTo s es t → held_by s w ≡ x → OnWay s es
  since other s [] leads is = absurd (other (sym is ∙ ap (λ (r : Table). held_by r w) leads))
  since other s (e ∷ es) leads is = elim (eqb_tells (held_by (after s e) w) (held_by s w)) as (λ _. OnWay s (e ∷ es)) [
    | inl same ↦ elim (since other (after s e) es leads.2 (same.1 ∙ is)) as (λ _. OnWay s (e ∷ es)) [ inl o ↦ inl (inr o) | inr o ↦ inr (inr o) ]
    | inr apart ↦
        let stored : Stores s e w may = does s e leads.0 leads.1 apart.1 in
        elim (eqb_tells e.seat seat) as (λ _. OnWay s (e ∷ es)) [ inl own ↦ inr (inl (own.1, stored)) | inr others ↦ inl (inl (others.1, stored)) ]
  ]

-- of a link, and of a tag, that a seat remembers otherwise
module _ (t : Table) (e : Event) (v : View) where
  pub link_since : (p : FindsOtherChild t e v) → IsStoredSince t e.seat (Node (Link p.side) p.node) p.other.link.child (ChangesLink p.node p.side)
  link_since p =
      since t e.seat (Node (Link p.side) p.node) p.other.link.child (ChangesLink p.node p.side)
      (λ s d right met changed. (changes s d p.node p.side right met).link changed) p.other.apart

  pub tag_since : (p : FindsOtherTag t e v) (x : ℕ) → HasTag x p.other.link.source
      → IsStoredSince t e.seat (Node (Tag p.side) p.node) x (ChangesTag p.node p.side)
  tag_since p x tagged =
      since t e.seat (Node (Tag p.side) p.node) x (ChangesTag p.node p.side)
      (λ s d right met changed. (changes s d p.node p.side right met).tag changed) (apart_by p.other.link.source tagged p.other.other)
    where
      apart_by : (s : LinkSource) → HasTag x s → is_other_tag (held_by t (Node (Tag p.side) p.node)) s ≡ true → x ≢ held_by t (Node (Tag p.side) p.node)
      apart_by (Plain (Some tag) above below) tagged is = λ same. not_equal tag (held_by t (Node (Tag p.side) p.node)) is (tagged ∙ same)
      apart_by _ tagged is = absurd tagged
