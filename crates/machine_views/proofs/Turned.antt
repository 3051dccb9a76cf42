-- A search stands at a node, which is the node of the link at which it stands.
use Rattle.std.proofs.Common.{◌≡◌, ℕ, true, eqb, ap, ◌∙◌, sym, Option, Some}
use Rattle.std.proofs.lemmas.Bool.{and_parts, eqb-true}
use Rattle.index_words.specs.declared.side.Side.{Side}
use Rattle.index_words.specs.declared.view.reading.Place.{Place}
use Rattle.index_words.specs.declared.view.reading.Place.TheVariants.{Node as AtNode}
use Rattle.index_words.specs.declared.view.reading.Reading.{Reading}
use Rattle.index_words.specs.declared.view.reading.Turn.{Turn}
use Rattle.core_events.specs.Searches.{goes_on_at, searches_at, turned}

pub turned_is : (r : Reading) (place : Place) (at node key : ℕ) (side : Side) (turn : Option Turn) → place ≡ AtNode at (Some key) → searches_at r place node side ≡ true
    → Some (record { node = node; key = key }) ≡ turned place turn
turned_is r place at node key side turn is stands =
    let here : searches_at r (AtNode at (Some key)) node side ≡ true = sym (ap (λ p. searches_at r p node side) is) ∙ stands in
    let same : at ≡ node = eqb-true at node (and_parts (eqb at node) (goes_on_at r (Some key)) here).0 in
    ap (λ (n : ℕ). Some (record { node = n; key = key })) (sym same) ∙ sym (ap (λ p. turned p turn) is)
