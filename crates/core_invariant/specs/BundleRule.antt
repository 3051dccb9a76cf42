-- The rule on bundles and pending entries.
use Rattle.std.specs.Prelude.{◌≡◌, ℕ, suc, ◌<◌, ◌≤◌, List, [], ◌∷◌, None, IfSome, All, sum_by}
use Rattle.index_words.specs.declared.layout.Layout.{Layout}
use Rattle.index_words.specs.declared.side.Side.{Side}
use Rattle.index_words.specs.declared.view.View.{View}
use Rattle.index_words.specs.declared.view.update.Updating.{Updating}
use Rattle.index_words.specs.declared.word.Field.TheVariants.{Head}
use Rattle.index_words.specs.declared.word.Part.TheVariants.{Stamp as Number, Next}
use Rattle.index_words.specs.declared.word.Word.TheVariants.{Stamp, Node, Entry}
use Rattle.index_words.specs.Words.{Memory}
use Rattle.key_map.specs.Lists.{count, Every}
use Rattle.core_grace.specs.Holds.{work_nodes}
use Rattle.core_grace.specs.Slots.{own_free, nodes_of}
use Rattle.core_links.specs.Bundle.{IsChain, no_number}
use Rattle.core_events.specs.Numbered.{shown}
use Rattle.core_invariant.specs.Meanings.{Meaning}

-- the root, or a node slot that is not free
abbrev pub IsLive : Layout → List View → ℕ → Type 0
IsLive z vs k = (k ≤ z.nodes) × (sum_by (own_free nodes_of k) vs ≡ 0)

-- how often a view has an entry pending
abbrev pub pending_count : ℕ → View → ℕ
pending_count e v = count e v.update.pending

-- exactly one view has the entry pending, and that view works on the node
abbrev pub IsPendingAt : List View → ℕ → ℕ → Type 0
IsPendingAt vs k e = (sum_by (pending_count e) vs ≡ 1) × All (λ v. 0 < pending_count e v → 0 < count k (work_nodes v)) vs

-- the numbers fall strictly from the front, and lie below `top`
abbrev pub Falls : (ℕ → ℕ) → ℕ → List ℕ → Type 0
Falls number top [] = Unit {0}
Falls number top (e ∷ es) = (number e < top) × Falls number (number e) es

-- each entry after the first has a written number
abbrev pub TailWritten : (ℕ → ℕ) → List ℕ → Type 0
TailWritten stamp [] = Unit {0}
TailWritten stamp (e ∷ es) = Every (λ x. 0 < stamp x) es

-- the number of an entry is the written one, which is at most the stamp of the table
abbrev pub IsNumbered : ℕ → (ℕ → ℕ) → (ℕ → ℕ) → ℕ → Type 0
IsNumbered s stamp number e = 0 < stamp e → (number e ≡ stamp e) × (stamp e ≤ s)

-- one bundle, over what it reads
pub record BundleRight (s : ℕ) (next stamp number : ℕ → ℕ) (pending : ℕ → Type 0) (head : ℕ) (es : List ℕ) : Type 0 where
  pub chain : IsChain next head es
  pub numbers : Every (IsNumbered s stamp number) es
  pub tail : TailWritten stamp es
  pub falls : Falls number (suc no_number) es
  pub owned : Every (λ e. stamp e ≡ 0 → pending e) es

abbrev pub IsBundle : Memory → List View → Meaning → ℕ → Side → Type 0
IsBundle m vs g k side =
    BundleRight (m Stamp) (λ e. m (Entry Next e)) (λ e. m (Entry Number e)) g.bundles.number (IsPendingAt vs k) (m (Node (Head side) k))
    (g.bundles.bundle side k)

-- the entry is the head of a bundle of one of these nodes
pub record IsHeadOf (z : Layout) (head : Side → ℕ → ℕ) (nodes : List ℕ) (e : ℕ) : Type 0 where
  pub node : ℕ
  pub side : Side
  pub there : node ≤ z.nodes
  pub is : head side node ≡ e
  pub some : 0 < e
  pub of : 0 < count node nodes

-- a pending entry has no written number; it has the number of the raise, if that has happened
abbrev pub IsPending : Layout → (Side → ℕ → ℕ) → (ℕ → ℕ) → (ℕ → ℕ) → View → ℕ → Type 0
IsPending z head stamp number v e = (stamp e ≡ 0) × (number e ≡ shown v.update.raised) × IsHeadOf z head (work_nodes v) e

-- the number of an update's raise is at most the stamp, and a node is brought in by the raise
pub record UpdateRight (s : ℕ) (u : Updating) : Type 0 where
  pub raised : IfSome u.raised (λ r. (0 < r) × (r ≤ s))
  pub first : u.raised ≡ None → u.added ≡ None
