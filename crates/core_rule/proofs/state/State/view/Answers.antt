use Rattle.std.proofs.Common.{◌≡◌, refl, ℕ, ◌≤◌, ◌<◌, List, length, get_or, Option, None, Some, Bor, ap, ◌∙◌, sym}
use Rattle.std.specs.List.{slice_get}
use Rattle.std.specs.Option.{IfSome, MatchOption, option_copied}
use Rattle.std.proofs.lemmas.Option.{slice_get_past, slice_get_read}
use Rattle.index_words.specs.declared.view.View.{View}
use Rattle.core_events.specs.Tables.{Table}
use Rattle.core_rule.proofs.state.State.view.Goals as goal

-- what `get` finds in a list is the value there, or none past its end
found : (o : Option (Bor View)) (vs : List View) (i : ℕ) (P : Bor View → Type 0) → IfSome o (λ v. v.now ≡ get_or vs i v.now) → MatchOption o (length vs ≤ i) (λ v. (i < length vs) × P v)
    → option_copied o ≡ slice_get vs i
found None vs i P value at = sym (slice_get_past vs i at)
found (Some v) vs i P value at = sym (slice_get_read vs (length vs) i v.now refl at.0 value)

pub returns : goal.returns
returns c =
    found c.get.result c.deref.result.now c.args.seat _ c.get.ensures.lookup.1 c.get.ensures.lookup.3 ∙ ap (λ vs. slice_get vs c.args.seat) c.deref.ensures.value
    ∙ ap (λ (t : Table). slice_get t.views c.args.seat) c.self.view_is
